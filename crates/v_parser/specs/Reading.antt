-- What `parse` answers.
use Rattle.std.specs.Prelude.{◌≡◌, ◌≢◌, ℕ, true, false, List, slice_get, Some, Result, Ok, Err}
use Rattle.v_lexer.specs.declared.token.Token.{Token}
use Rattle.v_tree.specs.declared.directives.Directive.{Directive}
use Rattle.v_tree.specs.declared.modules.Module.{Module}
use Rattle.v_tree.specs.declared.modules.Description.{Description}
use Rattle.v_tree.specs.declared.modules.File.{File}
use Rattle.v_tree.specs.declared.primitives.UdpDecl.{UdpDecl}
use Rattle.v_tree.specs.Tree.{modules_among, udps_among, directives_among}
use Rattle.v_lexer.specs.Sound.{bytes_of}
use Rattle.v_parser.specs.declared.fault.ParseFault.{ParseFault}
use Rattle.v_parser.specs.declared.fault.ParseFault.TheVariants.{Unsupported, Syntax, Memory}
use Rattle.v_parser.specs.Input.{Input, Outcome, is_left_out}
use Rattle.v_parser.specs.Descriptions.{descriptions}

-- all tokens of a text
abbrev pub whole : List ℕ → List Token → Input
whole text tokens = record { text = text; tokens = tokens; number = 0 }

-- the descriptions that are read, or why a token is refused
abbrev pub descriptions_of : List ℕ → List Token → Outcome (List Description)
descriptions_of text tokens = descriptions (whole text tokens)

-- modules, primitives and directives apart
abbrev pub Lists : Type 0
Lists = List Module × List UdpDecl × List Directive

-- an outcome has descriptions whose modules, primitives and directives, in their order, are these
pub record Sorts (outcome : Outcome (List Description)) (modules : List Module)
    (udps : List UdpDecl) (directives : List Directive) (rest : Input) : Type 0 where
  pub found : List Description
  pub read : outcome ≡ Ok (found, rest)
  pub modules_are : modules_among found ≡ modules
  pub udps_are : udps_among found ≡ udps
  pub directives_are : directives_among found ≡ directives

-- the three lists that were returned are those of the outcome, and the rest is left: want of memory says nothing of it
abbrev pub ReadsSorted : Outcome (List Description) → Result Lists ParseFault → Input → Type 0
ReadsSorted outcome (Ok lists) new = Sorts outcome lists.0 lists.1 lists.2 new
ReadsSorted outcome (Err e) new = e ≢ Memory → outcome ≡ Err e

-- the three lists that were returned are those of the outcome
abbrev pub GivesLists : Outcome (List Description) → Result Lists ParseFault → Type 0
GivesLists outcome (Ok lists) = (rest : Input) × Sorts outcome lists.0 lists.1 lists.2 rest
GivesLists outcome (Err e) = e ≢ Memory → outcome ≡ Err e

-- the file that was returned has the modules, the primitives and the directives of the outcome
abbrev pub Gives : Outcome (List Description) → Result File ParseFault → Type 0
Gives outcome (Ok found) = (rest : Input)
    × Sorts outcome found.modules found.udps found.directives rest
Gives outcome (Err e) = e ≢ Memory → outcome ≡ Err e

-- two files have the same modules, primitives and directives
pub record IsSameFile (a b : File) : Type 0 where
  pub modules : a.modules ≡ b.modules
  pub udps : a.udps ≡ b.udps
  pub directives : a.directives ≡ b.directives

-- what was returned is the file, unless memory ran out
abbrev pub IsUnlessMemory : File → Result File ParseFault → Type 0
IsUnlessMemory tree (Ok found) = IsSameFile found tree
IsUnlessMemory tree (Err e) = e ≡ Memory

-- the refused token is one of the list: as unsupported exactly where the grammar leaves such a token out
abbrev pub IsRefusalOf : List ℕ → List Token → ParseFault → Type 0
IsRefusalOf text tokens (Unsupported n) = (token : Token) × (slice_get tokens n ≡ Some token)
    × (is_left_out token.kind (bytes_of text token) ≡ true)
IsRefusalOf text tokens (Syntax n) = (token : Token) × (slice_get tokens n ≡ Some token)
    × (is_left_out token.kind (bytes_of text token) ≡ false)
IsRefusalOf text tokens Memory = Unit {0}
