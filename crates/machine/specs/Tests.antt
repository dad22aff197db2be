-- Tests that decide where cells are touched and where faults show and are visible, so that such cells can be counted.
use Rattle.std.specs.Prelude.{ℕ, Bool, true, false, ◌&&◌, ◌||◌, not, nat_eq, List, [], ◌∷◌, ◌++◌, map, Option, Some, None}
use Rattle.std.specs.List.{list_all, list_any, count_by, range_with_len}
use Rattle.delay_rule.specs.declared.inertia.Pending.{Pending}
use Rattle.delay_rule.specs.Inertia.{same_signal, same_conduct}
use Rattle.udp_table.specs.Symbols.{same_value}
use Rattle.flat_net.specs.declared.kinds.Cell.{Cell}
use Rattle.flat_net.specs.declared.kinds.Cell.TheVariants.{Element as ElementCell, Island as IslandCell}
use Rattle.flat_net.specs.declared.parts.Drive.{Drive}
use Rattle.flat_net.specs.declared.parts.Parts.{Parts}
use Rattle.flat_net.specs.Patches.{Netlist}
use Rattle.cell_step.specs.declared.states.Timer.{Timer}
use Rattle.cell_step.specs.declared.states.Timer.TheVariants.{Idle, Running, Ended}
use Rattle.cell_step.specs.declared.states.NetState.{NetState}
use Rattle.cell_step.specs.declared.states.ElementState.{ElementState}
use Rattle.cell_step.specs.declared.states.CellState.{CellState}
use Rattle.cell_step.specs.declared.states.CellState.TheVariants.{Element, Island}
use Rattle.cell_step.specs.Readings.{Readings, element_at, net_at, island_at}
use Rattle.machine.specs.Machine.{Machine, cell_count, cell_of, number_of, cell_state}
use Rattle.machine.specs.Pass.{is_cell_due, next_readings, pass}
use Rattle.machine.specs.Touched.{last_readings}

-- whether two pending changes, two timers and two lists are the same
abbrev pub same_pending : {V : Type 0} → (V → V → Bool) → Option (Pending V) → Option (Pending V) → Bool
same_pending same None None = true
same_pending same None (Some b) = false
same_pending same (Some a) None = false
same_pending same (Some a) (Some b) = same a.value b.value && nat_eq a.at b.at

abbrev pub same_timer : Timer → Timer → Bool
same_timer Idle Idle = true
same_timer (Running a) (Running b) = nat_eq a b
same_timer Ended Ended = true
same_timer Idle (Running b) = false
same_timer Idle Ended = false
same_timer (Running a) Idle = false
same_timer (Running a) Ended = false
same_timer Ended Idle = false
same_timer Ended (Running b) = false

abbrev pub same_list : {V : Type 0} → (V → V → Bool) → List V → List V → Bool
same_list same [] [] = true
same_list same [] (y ∷ ys) = false
same_list same (x ∷ xs) [] = false
same_list same (x ∷ xs) (y ∷ ys) = same x y && same_list same xs ys

-- whether two elements, two nets and two cells have the same state
abbrev pub same_element : ElementState → ElementState → Bool
same_element a b =
    same_signal a.out b.out && (same_conduct a.on b.on && (same_pending same_signal a.due b.due
    && (same_pending same_conduct a.switch_due b.switch_due && (same_value a.state b.state
    && same_list same_value a.seen b.seen))))

abbrev pub same_net : NetState → NetState → Bool
same_net a b =
    same_signal a.settled b.settled && (same_signal a.seen b.seen && (same_pending same_signal a.due b.due
    && (same_signal a.charge b.charge && same_timer a.timer b.timer)))

unfoldable pub same_cell : CellState → CellState → Bool
same_cell (Element a) (Element b) = same_element a b
same_cell (Island a) (Island b) = same_list same_net a.nets b.nets
same_cell (Element a) (Island b) = false
same_cell (Island a) (Element b) = false

-- whether two readings agree on what a cell reads
unfoldable pub agrees_at : Parts → Cell → Readings → Readings → Bool
agrees_at parts (ElementCell number) r s =
    list_all (λ net. same_signal (r.seen net) (s.seen net)) (element_at parts number).ins
agrees_at parts (IslandCell number) r s =
    let island = island_at parts number in
    list_all (λ (drive : Drive). same_signal (r.drive drive.element drive.pin) (s.drive drive.element drive.pin)) island.drives
    && (list_all (λ link. same_conduct (r.conduct link) (s.conduct link)) island.links
    && list_all (λ net. same_signal (r.input net) (s.input net)) island.nets)

-- whether the next pass touches a cell
unfoldable pub is_touched : Netlist → Machine → ℕ → Bool
is_touched netlist m number =
    let cell = cell_of netlist.parts number in
    not m.has_passed || (is_cell_due m.time (cell_state m number)
    || not (agrees_at netlist.parts cell (last_readings netlist m) (next_readings netlist m cell)))

-- whether a fault shows at a cell
unfoldable pub shows : ℕ → Machine → Machine → ℕ → Bool
shows site good faulty number = nat_eq number site || not (same_cell (cell_state faulty number) (cell_state good number))

-- the numbers of the cells that a cell reads
abbrev pub cells_read_by : Parts → Cell → List ℕ
cells_read_by parts (ElementCell number) =
    map (λ net. number_of parts (IslandCell (net_at parts net).island)) (element_at parts number).ins
cells_read_by parts (IslandCell number) =
    map (λ (drive : Drive). drive.element) (island_at parts number).drives ++ (island_at parts number).links

abbrev pub cells_read : Parts → ℕ → List ℕ
cells_read parts number = cells_read_by parts (cell_of parts number)

-- whether a fault shows at a cell before the next pass or after it
abbrev pub shows_around : Netlist → Netlist → ℕ → Machine → Machine → ℕ → Bool
shows_around netlist injected site good faulty number =
    shows site good faulty number || shows site (pass netlist good) (pass injected faulty) number

-- whether a fault is visible at a cell in the next pass
unfoldable pub is_visible : Netlist → Netlist → ℕ → Machine → Machine → ℕ → Bool
is_visible netlist injected site good faulty number =
    nat_eq number site || (shows_around netlist injected site good faulty number
    || list_any (shows_around netlist injected site good faulty) (cells_read netlist.parts number))

-- how many cells the next pass touches
abbrev pub touched_count : Netlist → Machine → ℕ
touched_count netlist m = count_by (is_touched netlist m) (range_with_len 0 (cell_count netlist.parts))

-- at how many cells a fault is visible that the next pass of the good or of the faulty machine touches
abbrev pub visible_count : Netlist → Netlist → ℕ → Machine → Machine → ℕ
visible_count netlist injected site good faulty =
    count_by (λ number.
    is_visible netlist injected site good faulty number && (is_touched netlist good number || is_touched injected faulty number))
    (range_with_len 0 (cell_count netlist.parts))
