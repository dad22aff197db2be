-- When a file is the tree of a text.
use Rattle.std.specs.Prelude.{◌≡◌, ℕ, nat_lt, List, [], ◌∷◌, ◌++◌, map, if◌then◌else◌}
use Rattle.v_lexer.specs.declared.token.Token.{Token}
use Rattle.v_tree.specs.declared.locations.Location.{Location}
use Rattle.v_tree.specs.declared.modules.Module.{Module}
use Rattle.v_tree.specs.declared.modules.Description.{Description}
use Rattle.v_tree.specs.declared.modules.Description.TheVariants as described
use Rattle.v_tree.specs.declared.modules.File.{File}
use Rattle.v_tree.specs.declared.primitives.UdpDecl.{UdpDecl}
use Rattle.v_tree.specs.declared.directives.Directive.{Directive}
use Rattle.v_tree.specs.declared.directives.Directive.TheVariants.{Timescale, DefaultNettype, Resetall, Cell}
use Rattle.v_tree.specs.Written.{AreWritten}
use Rattle.v_tree.specs.Spelling.{spelling}
use Rattle.v_tree.specs.Fit.{AreFit, IsFitDescription}

-- the module of a description, where it is one
abbrev pub module_of : Description → List Module
module_of (described.Module m) = m ∷ []
module_of (described.Udp u) = []
module_of (described.Directive d) = []

-- the primitive of a description, where it is one
abbrev pub udp_of : Description → List UdpDecl
udp_of (described.Module m) = []
udp_of (described.Udp u) = u ∷ []
udp_of (described.Directive d) = []

-- the directive of a description, where it is one
abbrev pub directive_of : Description → List Directive
directive_of (described.Module m) = []
directive_of (described.Udp u) = []
directive_of (described.Directive d) = d ∷ []

-- the modules among descriptions, in their order
abbrev pub modules_among : List Description → List Module
modules_among [] = []
modules_among (d ∷ ds) = module_of d ++ modules_among ds

-- the primitives among descriptions, in their order
abbrev pub udps_among : List Description → List UdpDecl
udps_among [] = []
udps_among (d ∷ ds) = udp_of d ++ udps_among ds

-- the directives among descriptions, in their order
abbrev pub directives_among : List Description → List Directive
directives_among [] = []
directives_among (d ∷ ds) = directive_of d ++ directives_among ds

-- ---- the order of descriptions

abbrev pub directive_location : Directive → Location
directive_location (Timescale t) = t.location
directive_location (DefaultNettype d) = d.location
directive_location (Resetall location) = location
directive_location (Cell c) = c.location

-- the location of a description's first token
abbrev pub location_of : Description → Location
location_of (described.Module m) = m.location
location_of (described.Udp u) = u.location
location_of (described.Directive d) = directive_location d

-- the number of a description's first token
abbrev pub token_of : Description → ℕ
token_of d = (location_of d).token

-- a description behind those that begin before it
abbrev pub insert : Description → List Description → List Description
insert d [] = d ∷ []
insert d (e ∷ es) = if nat_lt (token_of e) (token_of d) then e ∷ insert d es else d ∷ e ∷ es

-- descriptions in the order of their first tokens
abbrev pub in_order : List Description → List Description
in_order [] = []
in_order (d ∷ ds) = insert d (in_order ds)

-- modules, primitives and directives as descriptions, kind by kind
abbrev pub all_descriptions : List Module → List UdpDecl → List Directive → List Description
all_descriptions ms us ds = map described.Module ms
    ++ (map described.Udp us ++ map described.Directive ds)

-- all descriptions of a file, in the order of their first tokens: so it is told which directive stands before which module
unfoldable pub descriptions : File → List Description
descriptions file = in_order (all_descriptions file.modules file.udps file.directives)

-- the tokens of the text are those with which the descriptions of the file are written, each location is that of its token, they keep what the grammar keeps, and the file has each kind of them in their order
pub record IsTreeOf (text : List ℕ) (tokens : List Token) (file : File) : Type 0 where
  pub written : AreWritten text 0 tokens (spelling (descriptions file))
  pub fit : AreFit IsFitDescription (descriptions file)
  pub modules : modules_among (descriptions file) ≡ file.modules
  pub udps : udps_among (descriptions file) ≡ file.udps
  pub directives : directives_among (descriptions file) ≡ file.directives
