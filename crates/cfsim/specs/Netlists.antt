-- What the text of a netlist gives: its tokens, their tree, and the netlist of that.
use Rattle.std.specs.Prelude.{◌≡◌, ℕ, List, slice_get, Some, Result, Ok, Err, if◌then◌else◌}
use Rattle.std.specs.Option.{ok_or, option_map_or}
use Rattle.gate_net.specs.declared.netlist.Netlist.{Netlist}
use Rattle.first_netlist.specs.Form.{netlist_of}
use Rattle.gate_net.specs.declared.fault.BuildFault.{BuildFault}
use Rattle.gate_net.specs.declared.fault.BuildFault.TheVariants as form
use Rattle.v_lexer.specs.declared.token.Token.{Token}
use Rattle.v_lexer.specs.declared.fault.FaultKind.{FaultKind}
use Rattle.v_lexer.specs.declared.fault.LexFault.{LexFault}
use Rattle.v_lexer.specs.declared.fault.LexFault.TheVariants as lex
use Rattle.v_lexer.specs.Tokens.{tokens_of}
use Rattle.v_tree.specs.declared.modules.Module.{Module}
use Rattle.v_tree.specs.declared.modules.Description.{Description}
use Rattle.v_tree.specs.declared.primitives.UdpDecl.{UdpDecl}
use Rattle.v_tree.specs.declared.directives.Directive.{Directive}
use Rattle.v_tree.specs.Fit.{AreFit, IsFitDescription}
use Rattle.v_tree.specs.Spelling.{spelling}
use Rattle.v_tree.specs.Tree.{modules_among, udps_among, directives_among}
use Rattle.v_lexer.specs.Sound.{bytes_of}
use Rattle.v_tree.specs.Written.{AreWritten}
use Rattle.v_parser.specs.declared.fault.ParseFault.{ParseFault}
use Rattle.v_parser.specs.declared.fault.ParseFault.TheVariants as parser
use Rattle.v_parser.specs.Input.{is_left_out}
use Rattle.v_parser.specs.Reading.{descriptions_of}
use Rattle.cfsim.specs.declared.line_fault.LineFault.{LineFault}
use Rattle.cfsim.specs.declared.line_fault.LineFault.TheVariants.{Lexical, SyntaxError, Unsupported}
use Rattle.cfsim.specs.declared.refusal.Refusal.{Refusal}
use Rattle.cfsim.specs.declared.refusal.Refusal.TheVariants.{Faulty, Unbuilt}
use Rattle.cfsim.specs.declared.refusal.Refusal.TheVariants as refusal

-- the refusal of a text without tokens
abbrev pub refusal_of_lexer : LexFault → Refusal
refusal_of_lexer (lex.Faulty kind line) = Faulty (Lexical kind) line
refusal_of_lexer lex.Memory = refusal.Memory

-- the line of a token
abbrev pub line_of : List Token → ℕ → ℕ
line_of tokens n = option_map_or (λ (token : Token). token.line) (slice_get tokens n) 0

-- the refusal of tokens without a tree
abbrev pub refusal_of_parser : List Token → ParseFault → Refusal
refusal_of_parser tokens (parser.Syntax n) = Faulty SyntaxError (line_of tokens n)
refusal_of_parser tokens (parser.Unsupported n) = Faulty Unsupported (line_of tokens n)
refusal_of_parser tokens parser.Memory = refusal.Memory

-- the refusal of a tree without a netlist
abbrev pub refusal_of_tree : BuildFault → Refusal
refusal_of_tree form.Memory = refusal.Memory
refusal_of_tree form.Unbuilt = Unbuilt

-- the netlist that modules, primitives and directives mean, where it is built
abbrev pub netlist_of_tree : List Module → List UdpDecl → List Directive → Result Netlist Refusal
netlist_of_tree modules udps directives = ok_or (netlist_of modules udps directives) Unbuilt

-- the netlist of the modules, primitives and directives of a text
abbrev pub netlist_of_descriptions : List Description → Result Netlist Refusal
netlist_of_descriptions ds = netlist_of_tree (modules_among ds) (udps_among ds) (directives_among ds)

-- the netlist of what the parser answers to tokens
abbrev pub netlist_of_parser : {Rest : Type 0} → List Token → Result (List Description × Rest) ParseFault → Result Netlist Refusal
netlist_of_parser tokens (Ok tree) = netlist_of_descriptions tree.0
netlist_of_parser tokens (Err fault) = Err (refusal_of_parser tokens fault)

-- the netlist of what the lexer answers to a text
abbrev pub netlist_of_lexer : List ℕ → Result (List Token) LexFault → Result Netlist Refusal
netlist_of_lexer text (Ok tokens) = netlist_of_parser tokens (descriptions_of text tokens)
netlist_of_lexer text (Err fault) = Err (refusal_of_lexer fault)

-- the netlist of a text: a lexical fault comes before a bad token, and that before what isn't built
unfoldable pub netlist_of_text : List ℕ → Result Netlist Refusal
netlist_of_text text = netlist_of_lexer text (tokens_of text)

-- ---- the same, said without reading

-- a lexical fault by its kind
abbrev pub fault_of : FaultKind → LineFault
fault_of kind = Lexical kind

-- the tokens of the text are those with which the modules, primitives and directives are written
pub record AreSpelled (text : List ℕ) (tokens : List Token) (ds : List Description) : Type 0 where
  pub written : AreWritten text 0 tokens (spelling ds)
  pub fit : AreFit IsFitDescription ds

-- what is wrong with a token that is refused
abbrev pub fault_at : List ℕ → Token → LineFault
fault_at text token = if is_left_out token.kind (bytes_of text token) then Unsupported else SyntaxError

-- the text is refused at the line of one of its tokens
abbrev pub IsRefusedAtToken : List ℕ → List Token → Result Netlist Refusal → Type 0
IsRefusedAtToken text tokens result = (n : ℕ) × (token : Token) × (slice_get tokens n ≡ Some token) × (result ≡ Err (Faulty (fault_at text token) token.line))
