-- What a refusal of a text tells of its netlist.
use Rattle.std.proofs.Common.{◌≡◌, ◌≢◌, ℕ, List, Ok, Err, refl, ◌∙◌}
use Rattle.v_lexer.specs.declared.token.Token.{Token}
use Rattle.v_lexer.specs.declared.fault.LexFault.{LexFault}
use Rattle.v_lexer.specs.declared.fault.LexFault.TheVariants as lex
use Rattle.v_lexer.specs.Tokens as lexes
use Rattle.v_lexer.specs.Tokens.{tokens_of}
use Rattle.v_tree.specs.declared.modules.Module.{Module}
use Rattle.v_tree.specs.declared.primitives.UdpDecl.{UdpDecl}
use Rattle.v_tree.specs.declared.directives.Directive.{Directive}
use Rattle.v_parser.specs.declared.fault.ParseFault.{ParseFault}
use Rattle.v_parser.specs.declared.fault.ParseFault.TheVariants as parser
use Rattle.v_parser.specs.Input.{Input}
use Rattle.v_parser.specs.Reading.{descriptions_of, Sorts}
use Rattle.cfsim.specs.Netlists.{netlist_of_tree, netlist_of_text, refusal_of_lexer, refusal_of_parser}
use Rattle.cfsim.specs.Refusals.{Tells}
use Rattle.cfsim.proofs.NetlistLaws.{lexed, read}

-- a text without tokens
pub lexer_tells : (text : List ℕ) (fault : LexFault) → lexes.Fails fault (tokens_of text) → Tells (refusal_of_lexer fault) (netlist_of_text text)
lexer_tells text (lex.Faulty kind line) is = lexed text (Err (lex.Faulty kind line)) is
lexer_tells text lex.Memory is = tt

-- tokens without a tree
pub parser_tells : (text : List ℕ) (tokens : List Token) (fault : ParseFault) → tokens_of text ≡ Ok tokens → (fault ≢ parser.Memory → descriptions_of text tokens ≡ Err fault) → Tells (refusal_of_parser tokens fault) (netlist_of_text text)
parser_tells text tokens (parser.Syntax n) are is = lexed text (Ok tokens) are ∙ read text tokens (Err (parser.Syntax n)) (is (λ e. cc))
parser_tells text tokens (parser.Unsupported n) are is = lexed text (Ok tokens) are ∙ read text tokens (Err (parser.Unsupported n)) (is (λ e. cc))
parser_tells text tokens parser.Memory are is = tt

-- tokens with a tree
pub tree_is : (text : List ℕ) (tokens : List Token) (modules : List Module) (udps : List UdpDecl) (directives : List Directive) (rest : Input) → tokens_of text ≡ Ok tokens → Sorts (descriptions_of text tokens) modules udps directives rest
    → netlist_of_text text ≡ netlist_of_tree modules udps directives
tree_is text tokens modules udps directives rest are sorts = lexed text (Ok tokens) are ∙ read text tokens (Ok (sorts.found, rest)) sorts.read ∙ rw (sorts.modules_are, sorts.udps_are, sorts.directives_are) refl
