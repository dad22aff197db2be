-- Laws of rows and of their values, which follow from the definitions.
use Rattle.std.specs.Prelude.{◌≡◌, IsTrue, false, List, [], length, IsPermutation}
use Rattle.level_range.specs.declared.range.Logic.{Logic}
use Rattle.udp_table.specs.declared.rows.UdpRow.{UdpRow}
use Rattle.udp_table.specs.Symbols.{same_value}
use Rattle.udp_table.specs.Rows.{matches, Overlap, IsLevelSensitive, HasEdgeAt, HasSameEdges}
use Rattle.udp_table.specs.Primitive.{Primitive, IsAccepted}
use Rattle.udp_table.specs.LookUp.{level_inputs, edge_inputs, level_value, state_after}

-- with the other list for its rows a primitive is accepted too, and has the same values
pub record IsSamePrimitive (u : Primitive) (others : List UdpRow) : Type 0 where
  pub accepted : IsAccepted (record u { rows = others })
  pub level : (ins : List Logic) → level_value others ins ≡ level_value u.rows ins
  pub changes : (old new : List Logic) (state : Logic)
      → state_after others [] old new state ≡ state_after u.rows [] old new state

-- A row that matches inputs which all keep their values is level-sensitive: it has no edge. One that matches a change is
-- edge-sensitive: its edge is at the input that changes. Two rows that overlap have their edges at the same input, or
-- neither has one. And the order of the rows doesn't matter.
pub record RowLaws : Type 0 where
  pub level : (row : UdpRow) (values : List Logic) (state : Logic) → IsTrue (matches row (level_inputs values) state)
      → IsLevelSensitive row
  pub edge : (row : UdpRow) (before : List Logic) (was now : Logic) (after : List Logic) (state : Logic)
      → same_value was now ≡ false → IsTrue (matches row (edge_inputs before was now after) state)
      → HasEdgeAt row (length before)
  pub overlap : (r s : UdpRow) → Overlap r s → HasSameEdges r s
  pub order : (u : Primitive) (others : List UdpRow) → IsAccepted u → IsPermutation u.rows others
      → IsSamePrimitive u others
