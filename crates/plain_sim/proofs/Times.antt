-- What holds of all times for which something is pending, through what a pass does to cells.
use Rattle.std.proofs.Common.{◌≡◌, ℕ, suc, ◌+◌, ◌<◌, ◌≤◌, ◌^◌, List, [], ◌∷◌, ◌++◌, length, get_or, refl, ap, sym, subst, ◌∙◌, Bool, true, false, cond, arith, inl, inr, ◌⊎◌}
use Rattle.std.specs.Prelude.{All, Contains, Option, Some, None, map, min, nat_eq, nat_le, take, drop, slice_index_or}
use Rattle.std.specs.List.{flat_map, range_with_len}
use Rattle.std.proofs.lemmas.Bool.{cases_lt}
use Rattle.std.proofs.lemmas.List.{get_or-map, get_or_past, length-map}
use Rattle.std.proofs.lemmas.List.Concat.{flat_map-cons}
use Rattle.std.proofs.lemmas.List.Elements.{All-nil, All-cons, All-append, All-take, All-map, All-get_or, All-from_get_or, All-contains, All-contains_itself, All-weaker, Contains-append_left, Contains-append_right}
use Rattle.std.specs.Ordering.{nat_cmp}
use Rattle.std.specs.FinMap.{empty, get, get-empty}
use Rattle.timing_wheel.specs.Wheel.{Times}
use Rattle.level_range.specs.declared.range.Logic.{Logic}
use Rattle.level_range.specs.declared.range.Logic.TheVariants.{Zero, One, X, Z}
use Rattle.level_range.specs.Signal.{Signal, undriven, reads}
use Rattle.net_settle.specs.Charges.{signal_at}
use Rattle.delay_rule.specs.declared.delays.Delays.{Delays}
use Rattle.delay_rule.specs.declared.inertia.Pending.{Pending}
use Rattle.delay_rule.specs.Delay.{delay_list, delay_among, delay_of, due, switch_value}
use Rattle.delay_rule.specs.Inertia.{pending_after, is_pending, same_signal, same_conduct}
use Rattle.flat_net.specs.declared.kinds.Cell.{Cell}
use Rattle.flat_net.specs.declared.kinds.Cell.TheVariants.{Element as ElementCell, Island as IslandCell}
use Rattle.flat_net.specs.declared.kinds.NetKind.{NetKind}
use Rattle.flat_net.specs.declared.kinds.NetKind.TheVariants.{Wire, And, Or, Tri0, Tri1, Supply0, Supply1, Trireg}
use Rattle.flat_net.specs.declared.kinds.Patch.{Patch}
use Rattle.flat_net.specs.declared.kinds.ElementKind.{ElementKind}
use Rattle.flat_net.specs.declared.kinds.ElementKind.TheVariants.{Fold, Enable, Mos, Udp, Copy, Constant, Pull, Tran, Tranif}
use Rattle.flat_net.specs.declared.parts.Element.{Element as ElementPart}
use Rattle.flat_net.specs.declared.parts.Island.{Island as IslandPart}
use Rattle.flat_net.specs.declared.parts.NetPart.{NetPart}
use Rattle.flat_net.specs.declared.parts.Parts.{Parts}
use Rattle.flat_net.specs.Elements.{joins_ends}
use Rattle.flat_net.specs.Patches.{Netlist, patch_of}
use Rattle.cell_step.specs.declared.states.Timer.{Timer}
use Rattle.cell_step.specs.declared.states.Timer.TheVariants.{Idle, Running, Ended}
use Rattle.cell_step.specs.declared.states.NetState.{NetState}
use Rattle.cell_step.specs.declared.states.ElementState.{ElementState}
use Rattle.cell_step.specs.declared.states.IslandState.{IslandState}
use Rattle.cell_step.specs.declared.states.CellState.{CellState}
use Rattle.cell_step.specs.declared.states.CellState.TheVariants.{Element, Island}
use Rattle.cell_step.specs.Readings.{Readings, element_at, net_at, island_at, primitive_at}
use Rattle.cell_step.specs.Changes.{is_timer_due, mature_due, mature_element, mature_net, mature_island, mature_cell}
use Rattle.cell_step.specs.Elements.{aim_signal, aim_switch, conduct_of_kind, signal_of_kind, remember_of_kind, remember, next_element, element_after, input_signals, primitive_inputs, primitive_value}
use Rattle.cell_step.specs.Nets.{change_delays, decay_time, net_delay, start_timer, next_timer, next_net, net_start}
use Rattle.cell_step.specs.Islands.{no_state, state_at, part_at, nets_after, next_island, island_after, island_start}
use Rattle.machine.specs.Machine.{as_element, as_island, state_among, map_cells, cell_start}
use Rattle.machine.specs.Pass.{cell_after, change_times, timer_times, net_times, cell_times}
use Rattle.machine.specs.Run.{least}
use Rattle.machine.proofs.Numbers.{length-map_cells, map_cells-at}
use Rattle.plain_sim.specs.Lists.{net_among, read_by_islands, read_by_elements}
use Rattle.plain_sim.specs.Phases.{ripe, islands_after, elements_after}
use Rattle.plain_sim.specs.Due.{AreSoonTimes, AreSoon, AreDueTimes, change_key, timer_key}
use Rattle.plain_sim.proofs.Stepping.{no_cell}

-- ---- lists of lists

all-left : (P : ℕ → Type 0) (xs ys : List ℕ) → All P (xs ++ ys) → All P xs
all-left P xs ys all = All-weaker (Contains xs) P (λ x c. All-contains P (xs ++ ys) x all (Contains-append_left xs ys x c)) xs (All-contains_itself xs)

all-right : (P : ℕ → Type 0) (xs ys : List ℕ) → All P (xs ++ ys) → All P ys
all-right P xs ys all = All-weaker (Contains ys) P (λ x c. All-contains P (xs ++ ys) x all (Contains-append_right xs ys x c)) ys (All-contains_itself ys)

all-pieces : {A : Type 0} (P : ℕ → Type 0) (f : A → List ℕ) (xs : List A) → All (λ x. All P (f x)) xs → All P (flat_map f xs)
all-pieces P f [] all = All-nil P
all-pieces P f (x ∷ xs) all =
    subst (All P) (sym (flat_map-cons f x xs))
    (All-append P (f x) (flat_map f xs) (all 0 x (omega arith)) (all-pieces P f xs (λ i d lt. all (suc i) d (omega arith))))

pieces-all : {A : Type 0} (P : ℕ → Type 0) (f : A → List ℕ) (xs : List A) → All P (flat_map f xs) → All (λ x. All P (f x)) xs
pieces-all P f [] all = All-nil (λ x. All P (f x))
pieces-all P f (x ∷ xs) all =
    let both = subst (All P) (flat_map-cons f x xs) all in
    All-cons (λ x. All P (f x)) x xs (all-left P (f x) (flat_map f xs) both) (pieces-all P f xs (all-right P (f x) (flat_map f xs) both))

-- ---- the times of cells by their numbers

abbrev pub AllTimes : (ℕ → Type 0) → List CellState → Type 0
AllTimes P cells = (number : ℕ) → All P (cell_times (state_among cells number))

-- the times of a net at a place of an island
all-at : (P : ℕ → Type 0) (nets : List NetState) (place : ℕ) → All P (flat_map net_times nets) → All P (net_times (state_at nets place))
all-at P nets place all = elim (cases_lt place (length nets)) [
  | inl within ↦ All-get_or (λ s. All P (net_times s)) nets place no_state within (pieces-all P net_times nets all)
  | inr past ↦ subst (λ (s : NetState). All P (net_times s)) (sym (get_or_past nets place no_state past)) (All-nil P)
]

all-island : (P : ℕ → Type 0) (s : CellState) → All P (cell_times s) → All P (flat_map net_times (as_island s).nets)
all-island P (Element s) all = All-nil P
all-island P (Island s) all = all

pub net-times : (P : ℕ → Type 0) (parts : Parts) (islands : List CellState) (net : ℕ) → AllTimes P islands → All P (net_times (net_among parts islands net))
net-times P parts islands net all =
    let part = net_at parts net in
    all-at P (as_island (state_among islands part.island)).nets part.place (all-island P (state_among islands part.island) (all part.island))

pub change-times : (P : ℕ → Type 0) (parts : Parts) (islands : List CellState) (net : ℕ) → AllTimes P islands → All P (change_times (net_among parts islands net).due)
change-times P parts islands net all =
    let s = net_among parts islands net in all-left P (change_times s.due) (timer_times s.timer) (net-times P parts islands net all)

pub timer-times : (P : ℕ → Type 0) (parts : Parts) (islands : List CellState) (net : ℕ) → AllTimes P islands → All P (timer_times (net_among parts islands net).timer)
timer-times P parts islands net all =
    let s = net_among parts islands net in all-right P (change_times s.due) (timer_times s.timer) (net-times P parts islands net all)

-- all cells are changed by their numbers
changed-times : (P : ℕ → Type 0) (change : ℕ → CellState → CellState) (cells : List CellState) →
    ((number : ℕ) (s : CellState) → All P (cell_times s) → All P (cell_times (change number s))) →
    AllTimes P cells → AllTimes P (map_cells change cells)
changed-times P change cells each all number = elim (cases_lt number (length cells)) [
  | inl within ↦ subst (λ (s : CellState). All P (cell_times s)) (sym (map_cells-at change cells number within)) (each number (state_among cells number) (all number))
  | inr past ↦
      subst (λ (s : CellState). All P (cell_times s))
      (sym (get_or_past (map_cells change cells) number no_cell (let e = length-map_cells change cells in omega arith))) (All-nil P)
]

mapped-times : (P : ℕ → Type 0) (change : CellState → CellState) (cells : List CellState) →
    ((s : CellState) → All P (cell_times s) → All P (cell_times (change s))) → AllTimes P cells → AllTimes P (map change cells)
mapped-times P change cells each all number = elim (cases_lt number (length cells)) [
  | inl within ↦ subst (λ (s : CellState). All P (cell_times s)) (sym (get_or-map change cells number no_cell no_cell within)) (each (state_among cells number) (all number))
  | inr past ↦
      subst (λ (s : CellState). All P (cell_times s))
      (sym (get_or_past (map change cells) number no_cell (let e = length-map cells change in omega arith))) (All-nil P)
]

-- ---- delays are below 2^31

abbrev IsShort : ℕ → Type 0
IsShort t = t < 2 ^ 31

short-all : (delays : Delays) → All IsShort (delay_list delays)
short-all delays = All-take IsShort delays.count delays.d (All-from_get_or IsShort delays.d 0 (λ i lt. delays.short i))

short-among : (delays : List ℕ) (to : Logic) → All IsShort delays → delay_among delays to < 2 ^ 31
short-among [] to all = omega arith
short-among (a ∷ []) to all = all 0 0 (omega arith)
short-among (a ∷ b ∷ []) One all = all 0 0 (omega arith)
short-among (a ∷ b ∷ []) Zero all = all 1 0 (omega arith)
short-among (a ∷ b ∷ []) Z all = let h : a < 2 ^ 31 = all 0 0 (omega arith) in omega arith
short-among (a ∷ b ∷ []) X all = let h : a < 2 ^ 31 = all 0 0 (omega arith) in omega arith
short-among (a ∷ b ∷ c ∷ _) One all = all 0 0 (omega arith)
short-among (a ∷ b ∷ c ∷ _) Zero all = all 1 0 (omega arith)
short-among (a ∷ b ∷ c ∷ _) Z all = all 2 0 (omega arith)
short-among (a ∷ b ∷ c ∷ _) X all = let h : a < 2 ^ 31 = all 0 0 (omega arith) in omega arith

short-change : (kind : NetKind) (delays : List ℕ) → All IsShort delays → All IsShort (change_delays kind delays)
short-change Trireg delays all = All-take IsShort 2 delays all
short-change Wire delays all = all
short-change And delays all = all
short-change Or delays all = all
short-change Tri0 delays all = all
short-change Tri1 delays all = all
short-change Supply0 delays all = all
short-change Supply1 delays all = all

short-at : (delays : List ℕ) (k : ℕ) → All IsShort delays → slice_index_or delays k 0 < 2 ^ 31
short-at delays k all = elim (cases_lt k (length delays)) [
  | inl within ↦ all k 0 within
  | inr past ↦ let e = get_or_past delays k 0 past in omega arith
]

short-decay : (kind : NetKind) (delays : List ℕ) → All IsShort delays → decay_time kind delays < 2 ^ 31
short-decay Trireg delays all = short-at delays 2 all
short-decay Wire delays all = omega arith
short-decay And delays all = omega arith
short-decay Or delays all = omega arith
short-decay Tri0 delays all = omega arith
short-decay Tri1 delays all = omega arith
short-decay Supply0 delays all = omega arith
short-decay Supply1 delays all = omega arith

-- ---- what is pending after a target, and after what is due has taken effect

abbrev pub Soon : ℕ → Type 0
Soon at = at < 2 ^ 49

soon-one : (at : ℕ) → at < 2 ^ 49 → AreSoonTimes (at ∷ [])
soon-one at lt = All-cons Soon at [] lt (All-nil Soon)

soon-target : {V : Type 0} (same : V → V → Bool) (present : V) (pending : Option (Pending V)) (target : V) (tick : ℕ) → tick < 2 ^ 49 →
    AreSoonTimes (change_times pending) → AreSoonTimes (change_times (pending_after same present pending target tick))
soon-target {V} same present pending target tick lt waits = by_tests (is_pending same pending target) (same target present)
  where
    by_tests : (a b : Bool) → AreSoonTimes (change_times (cond a pending (cond b None (Some (record { value = target; at = tick })))))
    by_tests true b = waits
    by_tests false true = All-nil Soon
    by_tests false false = soon-one tick lt

left-change : {V : Type 0} (P : ℕ → Type 0) (now : ℕ) (pending : Option (Pending V)) → All P (change_times pending) → All P (change_times (mature_due now pending))
left-change P now None all = all
left-change P now (Some change) all = by_test (nat_le change.at now)
  where
    by_test : (b : Bool) → All P (change_times (cond b None (Some change)))
    by_test true = All-nil P
    by_test false = all

left-timer : (P : ℕ → Type 0) (now : ℕ) (timer : Timer) → All P (timer_times timer) → All P (timer_times (cond (is_timer_due now timer) Ended timer))
left-timer P now timer all = by_test (is_timer_due now timer)
  where
    by_test : (b : Bool) → All P (timer_times (cond b Ended timer))
    by_test true = All-nil P
    by_test false = all

left-net : (P : ℕ → Type 0) (now : ℕ) (s : NetState) → All P (net_times s) → All P (net_times (mature_net now s))
left-net P now s all =
    All-append P (change_times (mature_due now s.due)) (timer_times (cond (is_timer_due now s.timer) Ended s.timer))
    (left-change P now s.due (all-left P (change_times s.due) (timer_times s.timer) all))
    (left-timer P now s.timer (all-right P (change_times s.due) (timer_times s.timer) all))

left-cell : (P : ℕ → Type 0) (now : ℕ) (s : CellState) → All P (cell_times s) → All P (cell_times (mature_cell now s))
left-cell P now (Element s) all =
    All-append P (change_times (mature_due now s.due)) (change_times (mature_due now s.switch_due))
    (left-change P now s.due (all-left P (change_times s.due) (change_times s.switch_due) all))
    (left-change P now s.switch_due (all-right P (change_times s.due) (change_times s.switch_due) all))
left-cell P now (Island s) all =
    all-pieces P net_times (map (mature_net now) s.nets)
    (All-map (λ x. All P (net_times x)) (mature_net now) s.nets
    (All-weaker (λ x. All P (net_times x)) (λ x. All P (net_times (mature_net now x))) (left-net P now) s.nets (pieces-all P net_times s.nets all)))

-- what is due takes effect, and leaves no other times
pub left-times : (P : ℕ → Type 0) (now : ℕ) (cells : List CellState) → AllTimes P cells → AllTimes P (map (mature_cell now) cells)
left-times P now cells all = mapped-times P (mature_cell now) cells (left-cell P now) all

-- ---- an element's part in a pass

record HasSoon (s : ElementState) : Type 0 where
  due : AreSoonTimes (change_times s.due)
  switch_due : AreSoonTimes (change_times s.switch_due)

remembered : (parts : Parts) (kind : ElementKind) (ins : List Signal) (s : ElementState) → HasSoon s → HasSoon (remember_of_kind parts kind ins s)
unfolding remember
remembered parts (Udp number) ins s has = by_test (primitive_at parts number).sequential
  where
    by_test : (b : Bool) → HasSoon (cond b (record s { state = primitive_value (primitive_at parts number) s (primitive_inputs ins); seen = primitive_inputs ins ++ drop (length (primitive_inputs ins)) s.seen }) s)
    by_test true = record { due = has.due; switch_due = has.switch_due }
    by_test false = has
remembered parts (Fold kind) ins s has = has
remembered parts (Enable kind) ins s has = has
remembered parts (Mos on_one resistive) ins s has = has
remembered parts Copy ins s has = has
remembered parts (Constant v) ins s has = has
remembered parts (Pull v) ins s has = has
remembered parts Tran ins s has = has
remembered parts (Tranif on_one) ins s has = has

soon-due : (now : ℕ) (delays : Delays) (to : Logic) → now ≤ 2 ^ 48 → due now delays to < 2 ^ 49
soon-due now delays to time = let h = short-among (delay_list delays) to (short-all delays) in omega arith

soon-next : (parts : Parts) (e : ElementPart) (patch : Patch) (now : ℕ) (ins : List Signal) (s : ElementState) → now ≤ 2 ^ 48 → HasSoon s →
    HasSoon (next_element parts e patch now ins s)
unfolding next_element
soon-next parts e patch now ins s time has = by_test (joins_ends e.kind)
  where
    by_test : (b : Bool) → HasSoon (cond b (aim_switch e now (conduct_of_kind e.kind patch ins) s)
        (aim_signal e now (signal_of_kind parts e.kind e.s0 e.s1 patch s ins) (remember_of_kind parts e.kind ins s)))
    by_test true =
        let target = conduct_of_kind e.kind patch ins in
        record {
          due = has.due;
          switch_due = soon-target same_conduct s.on s.switch_due target (due now e.delays (switch_value target)) (soon-due now e.delays (switch_value target) time) has.switch_due;
        }
    by_test false =
        let target = signal_of_kind parts e.kind e.s0 e.s1 patch s ins in
        let kept = remember_of_kind parts e.kind ins s in
        let soon = remembered parts e.kind ins s has in
        record {
          due = soon-target same_signal kept.out kept.due target (due now e.delays (reads target)) (soon-due now e.delays (reads target) time) soon.due;
          switch_due = soon.switch_due;
        }

as-element : (s : CellState) → AreSoonTimes (cell_times s) → HasSoon (as_element s)
as-element (Element s) all = record {
  due = all-left Soon (change_times s.due) (change_times s.switch_due) all;
  switch_due = all-right Soon (change_times s.due) (change_times s.switch_due) all;
}
as-element (Island s) all = record { due = All-nil Soon; switch_due = All-nil Soon }

soon-element : (netlist : Netlist) (number now : ℕ) (r : Readings) (s : CellState) → now ≤ 2 ^ 48 → AreSoonTimes (cell_times s) →
    AreSoonTimes (cell_times (cell_after netlist (ElementCell number) now r s))
soon-element netlist number now r s time all =
    let e = element_at netlist.parts number in
    let patch = patch_of netlist (ElementCell number) in
    let next = next_element netlist.parts e patch now (input_signals r patch e) (as_element s) in
    let has = soon-next netlist.parts e patch now (input_signals r patch e) (as_element s) time (as-element s all) in
    All-append Soon (change_times next.due) (change_times next.switch_due) has.due has.switch_due

-- ---- an island's part in a pass

soon-start : (time now : ℕ) (timer : Timer) → time < 2 ^ 31 → now ≤ 2 ^ 48 → AreSoonTimes (timer_times timer) → AreSoonTimes (timer_times (start_timer time now timer))
soon-start time now Idle short early all = by_test (nat_eq time 0)
  where
    by_test : (b : Bool) → AreSoonTimes (timer_times (cond b Idle (Running (now + time))))
    by_test true = All-nil Soon
    by_test false = soon-one (now + time) (omega arith)
soon-start time now (Running at) short early all = all
soon-start time now Ended short early all = all

soon-timer : (part : NetPart) (now : ℕ) (driven : Signal) (timer : Timer) → now ≤ 2 ^ 48 → AreSoonTimes (timer_times timer) →
    AreSoonTimes (timer_times (next_timer part now driven timer))
soon-timer part now driven timer early all = by_test (same_signal driven undriven)
  where
    by_test : (b : Bool) → AreSoonTimes (timer_times (cond b (start_timer (decay_time part.kind (delay_list part.delays)) now timer) Idle))
    by_test true = soon-start (decay_time part.kind (delay_list part.delays)) now timer (short-decay part.kind (delay_list part.delays) (short-all part.delays)) early all
    by_test false = All-nil Soon

soon-net : (part : NetPart) (now : ℕ) (driven signal charge : Signal) (s : NetState) → now ≤ 2 ^ 48 → AreSoonTimes (net_times s) →
    AreSoonTimes (net_times (next_net part now driven signal charge s))
soon-net part now driven signal charge s early all =
    let next = next_net part now driven signal charge s in
    All-append Soon (change_times next.due) (timer_times next.timer) (changed (nat_eq part.delays.count 0))
    (soon-timer part now driven s.timer early (all-right Soon (change_times s.due) (timer_times s.timer) all))
  where
    changed : (b : Bool) → AreSoonTimes (change_times (cond b None (pending_after same_signal s.seen s.due signal (now + net_delay part (reads signal)))))
    changed true = All-nil Soon
    changed false =
        let short : net_delay part (reads signal) < 2 ^ 31 =
        short-among (change_delays part.kind (delay_list part.delays)) (reads signal) (short-change part.kind (delay_list part.delays) (short-all part.delays)) in
        soon-target same_signal s.seen s.due signal (now + net_delay part (reads signal)) (omega arith)
        (all-left Soon (change_times s.due) (timer_times s.timer) all)

soon-nets : (parts : Parts) (island : IslandPart) (now : ℕ) (driven signals charges : List Signal) (states : List NetState) → now ≤ 2 ^ 48 →
    AreSoonTimes (flat_map net_times states) → AreSoonTimes (flat_map net_times (nets_after parts island now driven signals charges states))
unfolding nets_after
soon-nets parts island now driven signals charges states early all =
    let next : ℕ → NetState =
    λ place. next_net (part_at parts island place) now (signal_at driven place) (signal_at signals place) (signal_at charges place) (state_at states place) in
    all-pieces Soon net_times (map next (range_with_len 0 (length island.nets)))
    (All-map (λ x. AreSoonTimes (net_times x)) next (range_with_len 0 (length island.nets))
    (λ i d lt.
    let place = slice_index_or (range_with_len 0 (length island.nets)) i d in
    soon-net (part_at parts island place) now (signal_at driven place) (signal_at signals place) (signal_at charges place) (state_at states place) early
    (all-at Soon states place all)))

soon-island : (netlist : Netlist) (number now : ℕ) (r : Readings) (s : CellState) → now ≤ 2 ^ 48 → AreSoonTimes (cell_times s) →
    AreSoonTimes (cell_times (cell_after netlist (IslandCell number) now r s))
unfolding next_island
soon-island netlist number now r s early all =
    soon-nets netlist.parts (island_at netlist.parts number) now _ _ _ (as_island s).nets early (all-island Soon s all)

-- ---- the lists of a pass

pub soon-elements : (netlist : Netlist) (now : ℕ) (r : Readings) (cells : List CellState) → now ≤ 2 ^ 48 → AreSoon cells →
    AreSoon (map_cells (λ number s. cell_after netlist (ElementCell number) now r s) cells)
soon-elements netlist now r cells early all =
    changed-times Soon (λ number s. cell_after netlist (ElementCell number) now r s) cells (λ number s. soon-element netlist number now r s early) all

pub soon-islands : (netlist : Netlist) (now : ℕ) (r : Readings) (cells : List CellState) → now ≤ 2 ^ 48 → AreSoon cells →
    AreSoon (map_cells (λ number s. cell_after netlist (IslandCell number) now r s) cells)
soon-islands netlist now r cells early all =
    changed-times Soon (λ number s. cell_after netlist (IslandCell number) now r s) cells (λ number s. soon-island netlist number now r s early) all

-- ---- the start

start-net : (P : ℕ → Type 0) (level : ℕ) → All P (net_times (net_start level))
start-net P level = All-nil P

start-cell : (P : ℕ → Type 0) (netlist : Netlist) (cell : Cell) → All P (cell_times (cell_start netlist cell))
start-cell P netlist (ElementCell number) = All-nil P
start-cell P netlist (IslandCell number) =
    let levels = (island_at netlist.parts number).shape.charge in
    all-pieces P net_times (map net_start levels) (All-map (λ x. All P (net_times x)) net_start levels (λ i d lt. start-net P (slice_index_or levels i d)))

-- nothing is pending at the start
pub start-times : (P : ℕ → Type 0) (netlist : Netlist) (cell : ℕ → Cell) (n : ℕ) → AllTimes P (map (λ number. cell_start netlist (cell number)) (range_with_len 0 n))
start-times P netlist cell n number =
    let cells = map (λ k. cell_start netlist (cell k)) (range_with_len 0 n) in
    elim (cases_lt number (length cells)) [
      | inl within ↦
          All-get_or (λ s. All P (cell_times s)) cells number no_cell within
          (All-map (λ s. All P (cell_times s)) (λ k. cell_start netlist (cell k)) (range_with_len 0 n) (λ i d lt. start-cell P netlist (cell (slice_index_or (range_with_len 0 n) i d))))
      | inr past ↦ subst (λ (s : CellState). All P (cell_times s)) (sym (get_or_past cells number no_cell past)) (All-nil P)
    ]

none-least : (times : List ℕ) → All (λ t. ⊥) times → least times ≡ None
none-least [] none = refl
none-least (t ∷ times) none = absurd (none 0 t (omega arith))

-- where nothing is pending, an empty wheel has the times for which something is
pub due-none : (parts : Parts) (elements islands : List CellState) (times : Times) → AllTimes (λ t. ⊥) elements → AllTimes (λ t. ⊥) islands →
    times ≡ empty → AreDueTimes parts elements islands times
due-none parts elements islands times no-element no-island is =
    let bare : (key : ℕ) → get times key ≡ None = λ key. ap (λ (m : Times). get m key) is ∙ get-empty nat_cmp key in
    record {
      of_elements = λ number lt. bare number ∙ sym (none-least (cell_times (state_among elements number)) (no-element number));
      of_nets = λ net lt. (
        bare (change_key parts net) ∙ sym (none-least (change_times (net_among parts islands net).due) (change-times (λ t. ⊥) parts islands net no-island)),
        bare (timer_key parts net) ∙ sym (none-least (timer_times (net_among parts islands net).timer) (timer-times (λ t. ⊥) parts islands net no-island)),
      );
      past = λ key past. bare key;
    }

-- ---- a pass

pub soon-after : (netlist : Netlist) (now : ℕ) (forced : List Signal) (elements islands given held grown done : List CellState) → now ≤ 2 ^ 48 →
    AreSoon elements → AreSoon islands → given ≡ elements → held ≡ islands →
    done ≡ islands_after netlist now forced (ripe now given) (ripe now held) → grown ≡ elements_after netlist now done (ripe now given) →
    AreSoon grown × AreSoon done
soon-after netlist now forced elements islands given held grown done early soon near same alike settled aimed = (
  subst AreSoon (sym aimed)
      (soon-elements netlist now (read_by_elements netlist done) (ripe now given) early (left-times Soon now given (subst AreSoon (sym same) soon))),
  subst AreSoon (sym settled)
      (soon-islands netlist now (read_by_islands netlist (ripe now given) forced) (ripe now held) early (left-times Soon now held (subst AreSoon (sym alike) near))),
)
