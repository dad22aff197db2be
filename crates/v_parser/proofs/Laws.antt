-- What the definition reads of all tokens of a text, and what it refuses.
use Rattle.std.proofs.Common.{◌≡◌, ◌≢◌, ℕ, ◌≤◌, List, length, Ok, Err}
use Rattle.v_lexer.specs.declared.token.Token.{Token}
use Rattle.v_lexer.specs.Reading.{AreTokensOf}
use Rattle.v_lexer.proofs.Sound.{are_sound}
use Rattle.v_tree.specs.declared.modules.Description.{Description}
use Rattle.v_tree.specs.Written.{AreWritten}
use Rattle.v_tree.specs.Spelling.{spelling}
use Rattle.v_tree.specs.Fit.{AreFit, IsFitDescription}
use Rattle.v_parser.specs.declared.fault.ParseFault.{ParseFault}
use Rattle.v_parser.specs.declared.fault.ParseFault.TheVariants.{Memory}
use Rattle.v_parser.specs.Input.{Input}
use Rattle.v_parser.specs.Reading.{descriptions_of, IsRefusalOf}
use Rattle.v_parser.proofs.Source.{source_of, ended_of}
use Rattle.v_parser.proofs.DescriptionRules.{descriptions_found, descriptions_only}
use Rattle.v_parser.proofs.Refusals.{refuses_of}

-- the descriptions that are read are written with the tokens
pub read_found : (text : List ℕ) (tokens : List Token) (ds : List Description) (rest : Input) → length text ≤ 67108864 → AreTokensOf text tokens → descriptions_of text tokens ≡ Ok (ds, rest)
    → AreWritten text 0 tokens (spelling ds) × AreFit IsFitDescription ds
read_found text tokens ds rest small are is = descriptions_found text tokens ds rest (source_of text tokens small are) (ended_of text tokens (are_sound text tokens are)) is

-- descriptions that are written with the tokens are read
pub read_only : (text : List ℕ) (tokens : List Token) (ds : List Description) → length text ≤ 67108864 → AreTokensOf text tokens → AreWritten text 0 tokens (spelling ds) → AreFit IsFitDescription ds
    → (rest : Input) × (descriptions_of text tokens ≡ Ok (ds, rest))
read_only text tokens ds small are written fit = descriptions_only text tokens ds (source_of text tokens small are) written fit

-- where the tokens are refused it is at one of them, and never for want of memory
pub refused_found : (text : List ℕ) (tokens : List Token) (e : ParseFault) → AreTokensOf text tokens → descriptions_of text tokens ≡ Err e → (e ≢ Memory) × IsRefusalOf text tokens e
refused_found text tokens e are is = refuses_of text tokens e are is
