-- No value of a primitive is z.
use Rattle.std.proofs.Common.{◌≢◌, Bool, true, false, List, [], ◌∷◌, ◌++◌}
use Rattle.std.specs.Prelude.{Option, Some, None, if◌then◌else◌}
use Rattle.level_range.specs.declared.range.Logic.{Logic}
use Rattle.level_range.specs.declared.range.Logic.TheVariants as value
use Rattle.udp_table.specs.declared.symbols.Sym.{Sym}
use Rattle.udp_table.specs.declared.symbols.Sym.TheVariants.{Zero, One, X, Any, Both, Same, Rise, Fall, Pos, Neg, Change, Edge}
use Rattle.udp_table.specs.declared.rows.UdpRow.{UdpRow}
use Rattle.udp_table.specs.Symbols.{same_value}
use Rattle.udp_table.specs.LookUp.{output_value, value_or_x, next_value, state_after}

x_known : value.X ≢ value.Z
x_known e = cc

output_value-known : (out : Sym) (state : Logic) → state ≢ value.Z → output_value out state ≢ value.Z
output_value-known Same state known = known
output_value-known Zero state known = λ e. cc
output_value-known One state known = λ e. cc
output_value-known X state known = x_known
output_value-known Any state known = x_known
output_value-known Both state known = x_known
output_value-known Rise state known = x_known
output_value-known Fall state known = x_known
output_value-known Pos state known = x_known
output_value-known Neg state known = x_known
output_value-known Change state known = x_known
output_value-known (Edge a b) state known = x_known

value_or_x-known : (out : Option Sym) (state : Logic) → state ≢ value.Z → value_or_x out state ≢ value.Z
value_or_x-known None state known = x_known
value_or_x-known (Some s) state known = output_value-known s state known

either_known : (b : Bool) (x y : Logic) → x ≢ value.Z → y ≢ value.Z → (if b then x else y) ≢ value.Z
either_known true x y h k = h
either_known false x y h k = k

pub state_after-known : (rows : List UdpRow) (before old new : List Logic) (state : Logic) → state ≢ value.Z →
    state_after rows before old new state ≢ value.Z
state_after-known rows before [] new state known = known
state_after-known rows before (v ∷ vs) [] state known = known
state_after-known rows before (v ∷ vs) (w ∷ ws) state known =
    state_after-known rows (before ++ (w ∷ [])) vs ws (if same_value v w then state else next_value rows before v w vs state)
    (either_known (same_value v w) state (next_value rows before v w vs state) known (value_or_x-known _ state known))
