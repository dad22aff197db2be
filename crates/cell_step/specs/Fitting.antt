-- States that fit the cells of a netlist, and whose signals are signals.
use Rattle.std.specs.Prelude.{◌≡◌, ◌≢◌, ◌≤◌, ◌≤ℤ◌, ℕ, Bool, true, false, List, length, take, All, Option, Some, None}
use Rattle.std.specs.List.{AllZip}
use Rattle.level_range.specs.declared.range.Logic.{Logic}
use Rattle.level_range.specs.declared.range.Logic.TheVariants.{Z}
use Rattle.level_range.specs.Signal.{Signal, IsSignal, undriven}
use Rattle.delay_rule.specs.declared.inertia.Pending.{Pending}
use Rattle.net_settle.specs.Conditions.{IsCharge}
use Rattle.udp_table.specs.Primitive.{Primitive, IsAccepted}
use Rattle.flat_net.specs.declared.kinds.Cell.{Cell}
use Rattle.flat_net.specs.declared.kinds.Cell.TheVariants.{Element as ElementCell, Island as IslandCell}
use Rattle.flat_net.specs.declared.kinds.ElementKind.{ElementKind}
use Rattle.flat_net.specs.declared.kinds.ElementKind.TheVariants.{Fold, Enable, Mos, Udp, Copy, Constant, Pull, Tran, Tranif}
use Rattle.flat_net.specs.declared.kinds.NetKind.{NetKind}
use Rattle.flat_net.specs.declared.kinds.NetKind.TheVariants.{Wire, And, Or, Tri0, Tri1, Supply0, Supply1, Trireg}
use Rattle.flat_net.specs.declared.parts.NetPart.{NetPart}
use Rattle.flat_net.specs.declared.parts.Parts.{Parts}
use Rattle.cell_step.specs.declared.states.Timer.{Timer}
use Rattle.cell_step.specs.declared.states.Timer.TheVariants.{Idle}
use Rattle.cell_step.specs.declared.states.NetState.{NetState}
use Rattle.cell_step.specs.declared.states.ElementState.{ElementState}
use Rattle.cell_step.specs.declared.states.IslandState.{IslandState}
use Rattle.cell_step.specs.declared.states.CellState.{CellState}
use Rattle.cell_step.specs.declared.states.CellState.TheVariants.{Element, Island}
use Rattle.cell_step.specs.Readings.{element_at, net_at, island_at, primitive_at}

-- the state of a sequential primitive and the values of its remembered inputs aren't z
abbrev pub IsKnown : Primitive → ElementState → Type 0
IsKnown udp s = udp.sequential ≡ true → (s.state ≢ Z) × All (λ v. v ≢ Z) (take udp.inputs s.seen)

abbrev pub FitsKind : Parts → ElementKind → ElementState → Type 0
FitsKind parts (Udp number) s = IsKnown (primitive_at parts number) s
FitsKind parts (Fold kind) s = Unit {0}
FitsKind parts (Enable kind) s = Unit {0}
FitsKind parts (Mos on_one resistive) s = Unit {0}
FitsKind parts Copy s = Unit {0}
FitsKind parts (Constant v) s = Unit {0}
FitsKind parts (Pull v) s = Unit {0}
FitsKind parts Tran s = Unit {0}
FitsKind parts (Tranif on_one) s = Unit {0}

-- the state fits an element of the netlist
abbrev pub FitsElement : Parts → ℕ → ElementState → Type 0
FitsElement parts number s = (length s.seen ≡ 10) × FitsKind parts (element_at parts number).kind s

-- each primitive of the netlist is such as `build` accepts, as the type of primitives keeps it
abbrev pub HasAcceptedPrimitives : Parts → Type 0
HasAcceptedPrimitives parts = All IsAccepted parts.udps

-- a trireg has a charge of its level, and any other net the charge z and an idle timer
abbrev pub HasChargeOf : NetKind → ℕ → NetState → Type 0
HasChargeOf Trireg level s = IsCharge level s.charge
HasChargeOf Wire level s = (s.charge ≡ undriven) × (s.timer ≡ Idle)
HasChargeOf And level s = (s.charge ≡ undriven) × (s.timer ≡ Idle)
HasChargeOf Or level s = (s.charge ≡ undriven) × (s.timer ≡ Idle)
HasChargeOf Tri0 level s = (s.charge ≡ undriven) × (s.timer ≡ Idle)
HasChargeOf Tri1 level s = (s.charge ≡ undriven) × (s.timer ≡ Idle)
HasChargeOf Supply0 level s = (s.charge ≡ undriven) × (s.timer ≡ Idle)
HasChargeOf Supply1 level s = (s.charge ≡ undriven) × (s.timer ≡ Idle)

abbrev pub FitsNet : NetPart → NetState → Type 0
FitsNet part s = HasChargeOf part.kind part.charge s

-- the state fits an island of the netlist: a state for each of its nets
abbrev pub FitsIsland : Parts → ℕ → IslandState → Type 0
FitsIsland parts number s = AllZip (λ net state. FitsNet (net_at parts net) state) (island_at parts number).nets s.nets

-- the state fits the cell
abbrev pub FitsCell : Parts → Cell → CellState → Type 0
FitsCell parts (ElementCell number) (Element s) = FitsElement parts number s
FitsCell parts (ElementCell number) (Island s) = ⊥
FitsCell parts (IslandCell number) (Element s) = ⊥
FitsCell parts (IslandCell number) (Island s) = FitsIsland parts number s

-- a pending signal is one
abbrev pub IsSignalPending : Option (Pending Signal) → Type 0
IsSignalPending None = Unit {0}
IsSignalPending (Some change) = IsSignal change.value

-- the levels in a state go from -7 to 7, the lower bound first
pub record HasElementSignals (s : ElementState) : Type 0 where
  pub out : IsSignal s.out
  pub due : IsSignalPending s.due

pub record HasNetSignals (s : NetState) : Type 0 where
  pub settled : IsSignal s.settled
  pub seen : IsSignal s.seen
  pub due : IsSignalPending s.due
  pub charge : IsSignal s.charge

abbrev pub HasIslandSignals : IslandState → Type 0
HasIslandSignals s = All HasNetSignals s.nets

abbrev pub HasSignals : CellState → Type 0
HasSignals (Element s) = HasElementSignals s
HasSignals (Island s) = HasIslandSignals s
