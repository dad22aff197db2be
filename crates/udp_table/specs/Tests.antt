-- For the code and its proofs alone, no reader of the public contracts needs it: tests on symbols and rows, each proved to decide what its name says.
use Rattle.std.specs.Prelude.{ℕ, nat_eq, nat_lt, is_some, Bool, true, false, not, ◌&&◌, ◌||◌, List, length, Option, Some, None}
use Rattle.std.specs.List.{list_all}
use Rattle.level_range.specs.declared.range.Logic.{Logic}
use Rattle.level_range.specs.declared.range.Logic.TheVariants as value
use Rattle.udp_table.specs.declared.symbols.Base.{Base}
use Rattle.udp_table.specs.declared.symbols.Base.TheVariants as base
use Rattle.udp_table.specs.declared.symbols.Sym.{Sym}
use Rattle.udp_table.specs.declared.symbols.Sym.TheVariants.{Zero, One, X, Any, Both, Same, Rise, Fall, Pos, Neg, Change, Edge}
use Rattle.udp_table.specs.declared.rows.UdpRow.{UdpRow}
use Rattle.udp_table.specs.Pairs.{pairwise}
use Rattle.udp_table.specs.Symbols.{base_of, has_value, has_change}
use Rattle.udp_table.specs.Rows.{edge_count}

-- whether the symbol has a value
abbrev pub value_test : Sym → Bool
value_test s = is_some (base_of s)

-- whether the two symbols have one value alone, the same
abbrev pub same_single : Base → Base → Bool
same_single base.Zero base.Zero = true
same_single base.One base.One = true
same_single base.X base.X = true
same_single _ _ = false

-- whether the symbol contains a change
abbrev pub change_test : Sym → Bool
change_test Rise = true
change_test Fall = true
change_test Pos = true
change_test Neg = true
change_test Change = true
change_test (Edge a b) = not (same_single a b)
change_test _ = false

-- whether the symbol may stand at an input
abbrev pub input_test : Bool → Sym → Bool
input_test sequential s = value_test s || (sequential && change_test s)

-- whether the state field may be such
abbrev pub state_test : Bool → Option Sym → Bool
state_test sequential None = not sequential
state_test sequential (Some s) = sequential && value_test s

-- whether the symbol may stand at the output
abbrev pub output_test : Bool → Sym → Bool
output_test sequential Zero = true
output_test sequential One = true
output_test sequential X = true
output_test sequential Same = sequential
output_test sequential _ = false

-- whether the row is well formed
abbrev pub row_test : ℕ → Bool → UdpRow → Bool
row_test inputs sequential row =
    nat_eq (length row.ins) inputs && (list_all (input_test sequential) row.ins
    && (state_test sequential row.state && output_test sequential row.out))

-- whether the row has two edges or more
abbrev pub edges_test : UdpRow → Bool
edges_test row = nat_lt 1 (edge_count row)

-- whether the two symbols have the value
abbrev pub both_have : Sym → Sym → Logic → Bool
both_have s t v = has_value s v && has_value t v

-- whether the two symbols have a value in common
abbrev pub share_value : Sym → Sym → Bool
share_value s t = both_have s t value.Zero || (both_have s t value.One || both_have s t value.X)

-- whether the two symbols contain the change
abbrev pub both_contain : Sym → Sym → Logic → Logic → Bool
both_contain s t v w = has_change s v w && has_change t v w

-- whether the two symbols have a change in common
abbrev pub share_change : Sym → Sym → Bool
share_change s t =
    both_contain s t value.Zero value.One || (both_contain s t value.Zero value.X
    || (both_contain s t value.One value.Zero || (both_contain s t value.One value.X
    || (both_contain s t value.X value.Zero || both_contain s t value.X value.One))))

-- whether the two symbols admit a pin in common
abbrev pub meet : Sym → Sym → Bool
meet s t = share_value s t || share_change s t

-- whether two rows' symbols admit pins in common, one for each input
abbrev pub meet_all : List Sym → List Sym → Bool
meet_all ss ts = pairwise meet ss ts

-- whether two rows' state fields admit a state in common
abbrev pub meet_state : Option Sym → Option Sym → Bool
meet_state None None = true
meet_state None (Some t) = value_test t
meet_state (Some s) None = value_test s
meet_state (Some s) (Some t) = share_value s t

-- whether two rows overlap
abbrev pub overlap_test : UdpRow → UdpRow → Bool
overlap_test r s = meet_all r.ins s.ins && meet_state r.state s.state

abbrev pub same_base : Base → Base → Bool
same_base base.Zero base.Zero = true
same_base base.One base.One = true
same_base base.X base.X = true
same_base base.Any base.Any = true
same_base base.Both base.Both = true
same_base _ _ = false

-- whether two symbols are one
abbrev pub same_symbol : Sym → Sym → Bool
same_symbol Zero Zero = true
same_symbol One One = true
same_symbol X X = true
same_symbol Any Any = true
same_symbol Both Both = true
same_symbol Same Same = true
same_symbol Rise Rise = true
same_symbol Fall Fall = true
same_symbol Pos Pos = true
same_symbol Neg Neg = true
same_symbol Change Change = true
same_symbol (Edge a b) (Edge c d) = same_base a c && same_base b d
same_symbol _ _ = false

-- whether two rows overlap and their outputs differ
abbrev pub clash_test : UdpRow → UdpRow → Bool
clash_test r s = overlap_test r s && not (same_symbol r.out s.out)

-- whether each symbol has the value at its place
abbrev pub hold : List Sym → List Logic → Bool
hold ss vs = pairwise has_value ss vs
