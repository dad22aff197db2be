-- Worked rows: a continuous assignment from an input to an output, with and without a fault, and the decay of a charge.
use Rattle.std.proofs.Common.{◌≡◌, ℕ, zero, suc, ◌<◌, ◌^◌, true, false, List, [], ◌∷◌, get_or, Some, None, refl, arith}
use Rattle.std.specs.Prelude.{pos, negsuc, map, nat_lt, if◌then◌else◌}
use Rattle.level_range.specs.declared.range.Kind.TheVariants.{Plain}
use Rattle.level_range.specs.Signal.{Signal}
use Rattle.delay_rule.specs.declared.delays.Delays.{Delays}
use Rattle.level_range.specs.Combine.{better_high, better_low}
use Rattle.level_range.specs.Reduce.{reduced_level}
use Rattle.net_settle.specs.declared.shape.Shape.{Shape}
use Rattle.net_settle.specs.ByLevels.{take_level, spread, spread_from, settled_bounds, signals_between, settled_signals}
use Rattle.net_settle.specs.Charges.{driven_signals, charged_signals, prefer_driven_signals, island_signals, charges_left}
use Rattle.flat_net.specs.declared.kinds.Cell.TheVariants.{Island as IslandCell}
use Rattle.flat_net.specs.declared.kinds.Patch.TheVariants.{NetStuck}
use Rattle.flat_net.specs.declared.kinds.ElementKind.TheVariants.{Copy, Mos}
use Rattle.flat_net.specs.declared.kinds.NetKind.TheVariants.{Wire, Trireg}
use Rattle.flat_net.specs.declared.parts.NetPart.{NetPart}
use Rattle.flat_net.specs.declared.parts.Element.{Element}
use Rattle.flat_net.specs.declared.parts.Island.{Island}
use Rattle.flat_net.specs.declared.parts.Drive.{Drive}
use Rattle.flat_net.specs.Patches.{Netlist, whole}
use Rattle.cell_step.specs.Readings.{no_delays}
use Rattle.cell_step.specs.Elements.{input_signals, next_element}
use Rattle.cell_step.specs.Islands.{nets_after, next_island}
use Rattle.machine.specs.Machine.{start, map_cells}
use Rattle.machine.specs.Pass.{pass, evaluate, first_phase, settle, mature, is_machine_due, due_times}
use Rattle.machine.specs.System.{further, step}
use Rattle.machine.specs.Run.{Schedule, next_tick, run_from, run, netlist_run, own_run, strobe}

lone : Shape
lone = record { kinds = Plain ∷ []; charge = 0 ∷ []; links = [] }

wire : ℕ → NetPart
wire island = record { kind = Wire; charge = 0; delays = no_delays; island = island; place = 0 }

copy : Element
copy = record { kind = Copy; s0 = 6; s1 = 6; delays = no_delays; outs = 1 ∷ []; ins = 0 ∷ []; ends = None }

first : Island
first = record { nets = 0 ∷ []; drives = []; links = []; shape = lone }

driven : Drive
driven = record { element = 0; pin = 0; place = 0 }

second : Island
second = record { nets = 1 ∷ []; drives = driven ∷ []; links = []; shape = lone }

row : Netlist
row = whole (record {
  nets = wire 0 ∷ wire 1 ∷ [];
  elements = copy ∷ [];
  islands = first ∷ second ∷ [];
  udps = [];
  net_names = [];
  element_names = [];
  finds = [];
  inputs = 0 ∷ [];
  outputs = 1 ∷ [];
})

one : Signal
one = record { lo = pos 6; hi = pos 6 }

stuck : Signal
stuck = record { lo = negsuc 6; hi = negsuc 6 }

schedule : Schedule
schedule = record { times = 0 ∷ []; inputs_at = λ tick. one ∷ []; end = 2 }

-- the output is seen as St1
copy-row : strobe row (netlist_run row 3 schedule) 0 ≡ Some (one ∷ [])
unfolding row schedule wire copy first second driven lone one start map_cells pass evaluate first_phase settle mature is_machine_due due_times further step next_tick run_from run input_signals next_element nets_after next_island driven_signals charged_signals prefer_driven_signals island_signals charges_left take_level spread spread_from settled_bounds signals_between settled_signals better_high better_low
copy-row = refl

-- with its net stuck at 0 it is seen as Su0
stuck-row : strobe row (own_run row (IslandCell 1) (NetStuck 1 false) 3 schedule) 0 ≡ Some (stuck ∷ [])
unfolding row schedule wire copy first second driven lone one stuck start map_cells pass evaluate first_phase settle mature is_machine_due due_times further step next_tick run_from run input_signals next_element nets_after next_island driven_signals charged_signals prefer_driven_signals island_signals charges_left take_level spread spread_from settled_bounds signals_between settled_signals better_high better_low
stuck-row = refl

-- ---- a large trireg that a switch drives, and whose charge decays in 50 ticks

short : (k : ℕ) → get_or (0 ∷ 0 ∷ 50 ∷ []) k 0 < 2 ^ 31
short zero = omega arith
short (suc zero) = omega arith
short (suc (suc zero)) = omega arith
short (suc (suc (suc k))) = omega arith

decays : Delays
decays = record { count = 3; d = 0 ∷ 0 ∷ 50 ∷ []; few = omega arith; short = short }

trireg : NetPart
trireg = record { kind = Trireg; charge = 4; delays = decays; island = 0; place = 0 }

switch : Element
switch = record { kind = Mos true false; s0 = 6; s1 = 6; delays = no_delays; outs = 0 ∷ []; ins = 1 ∷ 2 ∷ []; ends = None }

held : Island
held = record { nets = 0 ∷ []; drives = driven ∷ []; links = []; shape = record { kinds = Plain ∷ []; charge = 4 ∷ []; links = [] } }

alone : ℕ → Island
alone net = record { nets = net ∷ []; drives = []; links = []; shape = lone }

cell : Netlist
cell = whole (record {
  nets = trireg ∷ wire 1 ∷ wire 2 ∷ [];
  elements = switch ∷ [];
  islands = held ∷ alone 1 ∷ alone 2 ∷ [];
  udps = [];
  net_names = [];
  element_names = [];
  finds = [];
  inputs = 1 ∷ 2 ∷ [];
  outputs = 0 ∷ [];
})

zero_signal : Signal
zero_signal = record { lo = negsuc 5; hi = negsuc 5 }

-- data 1 with the switch on, and from 10 on with the switch off
inputs : ℕ → List Signal
inputs tick = if nat_lt tick 10 then one ∷ one ∷ [] else one ∷ zero_signal ∷ []

decay_schedule : Schedule
decay_schedule = record { times = 0 ∷ 10 ∷ 100 ∷ []; inputs_at = inputs; end = 100 }

large_one : Signal
large_one = record { lo = pos 4; hi = pos 4 }

large_unknown : Signal
large_unknown = record { lo = negsuc 3; hi = pos 4 }

-- the net is seen as St1, then as La1, and from 60 on as LaX
decay-row : map (strobe cell (netlist_run cell 4 decay_schedule)) (0 ∷ 10 ∷ 60 ∷ 100 ∷ [])
    ≡ Some (one ∷ []) ∷ Some (large_one ∷ []) ∷ Some (large_unknown ∷ []) ∷ Some (large_unknown ∷ []) ∷ []
unfolding cell decays trireg switch held alone inputs decay_schedule zero_signal large_one large_unknown wire driven lone one start map_cells pass evaluate first_phase settle mature is_machine_due due_times further step next_tick run_from run input_signals next_element nets_after next_island driven_signals charged_signals prefer_driven_signals island_signals charges_left take_level spread spread_from settled_bounds signals_between settled_signals better_high better_low reduced_level
decay-row = refl
