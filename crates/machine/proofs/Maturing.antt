-- Where nothing is due, nothing takes effect.
use Rattle.std.proofs.Common.{◌≡◌, ℕ, Bool, true, false, List, [], ◌∷◌, refl, ap, ◌∙◌}
use Rattle.std.specs.Prelude.{Option, Some, None, map, nat_le, ◌||◌}
use Rattle.std.specs.List.{list_any, flat_map}
use Rattle.std.proofs.lemmas.Bool.{or_parts}
use Rattle.std.proofs.lemmas.List.Folds.{list_any-append}
use Rattle.delay_rule.specs.declared.inertia.Pending.{Pending}
use Rattle.level_range.specs.Signal.{Signal}
use Rattle.level_range.specs.declared.range.Logic.{Logic}
use Rattle.level_range.specs.declared.range.Conduct.{Conduct}
use Rattle.cell_step.specs.declared.states.Timer.{Timer}
use Rattle.cell_step.specs.declared.states.Timer.TheVariants.{Idle, Running, Ended}
use Rattle.cell_step.specs.declared.states.NetState.{NetState}
use Rattle.cell_step.specs.declared.states.ElementState.{ElementState}
use Rattle.cell_step.specs.declared.states.IslandState.{IslandState}
use Rattle.cell_step.specs.declared.states.CellState.{CellState}
use Rattle.cell_step.specs.declared.states.CellState.TheVariants.{Element, Island}
use Rattle.cell_step.specs.Changes.{is_due, mature_value, mature_due, is_timer_due, mature_element, mature_net, mature_cell}
use Rattle.machine.specs.Machine.{Machine}
use Rattle.machine.specs.Pass.{is_net_due, is_cell_due, is_machine_due, change_times, timer_times, net_times, cell_times, due_times, mature}

value-still : {V : Type 0} (now : ℕ) (present : V) (due : Option (Pending V)) → is_due now due ≡ false → mature_value now present due ≡ present
value-still now present None e = refl
value-still now present (Some change) e = rw e refl

due-still : {V : Type 0} (now : ℕ) (due : Option (Pending V)) → is_due now due ≡ false → mature_due now due ≡ due
due-still now None e = refl
due-still now (Some change) e = rw e refl

element-of : (a b : Signal) (c d : Conduct) (p q : Option (Pending Signal)) (u v : Option (Pending Conduct)) (state : Logic) (seen : List Logic) →
    a ≡ b → c ≡ d → p ≡ q → u ≡ v →
    (let x : ElementState = record { out = a; on = c; due = p; switch_due = u; state = state; seen = seen } in x)
    ≡ record { out = b; on = d; due = q; switch_due = v; state = state; seen = seen }
element-of a b c d p q u v state seen e f g h = cc

element-still : (now : ℕ) (s : ElementState) → (is_due now s.due || is_due now s.switch_due) ≡ false → mature_element now s ≡ s
element-still now s e =
    let parts = or_parts (is_due now s.due) (is_due now s.switch_due) e in
    element-of (mature_value now s.out s.due) s.out (mature_value now s.on s.switch_due) s.on
    (mature_due now s.due) s.due (mature_due now s.switch_due) s.switch_due s.state s.seen
    (value-still now s.out s.due parts.0) (value-still now s.on s.switch_due parts.1)
    (due-still now s.due parts.0) (due-still now s.switch_due parts.1)

net-of : (settled a b c d : Signal) (p q : Option (Pending Signal)) (t u : Timer) → a ≡ b → p ≡ q → c ≡ d → t ≡ u →
    (let x : NetState = record { settled = settled; seen = a; due = p; charge = c; timer = t } in x)
    ≡ record { settled = settled; seen = b; due = q; charge = d; timer = u }
net-of settled a b c d p q t u e f g h = cc

pub net-still : (now : ℕ) (s : NetState) → is_net_due now s ≡ false → mature_net now s ≡ s
net-still now s e =
    let parts = or_parts (is_due now s.due) (is_timer_due now s.timer) e in
    net-of s.settled _ s.seen _ s.charge _ s.due _ s.timer
    (value-still now s.seen s.due parts.0) (due-still now s.due parts.0) (rw parts.1 refl) (rw parts.1 refl)

nets-still : (now : ℕ) (nets : List NetState) → list_any (is_net_due now) nets ≡ false → map (mature_net now) nets ≡ nets
nets-still now [] e = refl
nets-still now (s ∷ nets) e =
    let parts = or_parts (is_net_due now s) (list_any (is_net_due now) nets) e in
    ap (λ (x : NetState). x ∷ map (mature_net now) nets) (net-still now s parts.0)
    ∙ ap (λ (xs : List NetState). s ∷ xs) (nets-still now nets parts.1)

-- a cell of which nothing is due
pub cell-still : (now : ℕ) (s : CellState) → is_cell_due now s ≡ false → mature_cell now s ≡ s
cell-still now (Element s) e = ap Element (element-still now s e)
cell-still now (Island s) e = ap (λ (nets : List NetState). let x : IslandState = record { nets = nets } in Island x) (nets-still now s.nets e)

cells-still : (now : ℕ) (cells : List CellState) → list_any (is_cell_due now) cells ≡ false → map (mature_cell now) cells ≡ cells
cells-still now [] e = refl
cells-still now (s ∷ cells) e =
    let parts = or_parts (is_cell_due now s) (list_any (is_cell_due now) cells) e in
    ap (λ (x : CellState). x ∷ map (mature_cell now) cells) (cell-still now s parts.0)
    ∙ ap (λ (xs : List CellState). s ∷ xs) (cells-still now cells parts.1)

-- a machine in which nothing is due
pub mature-still : (m : Machine) → is_machine_due m ≡ false → (mature m).cells ≡ m.cells
unfolding mature is_machine_due
mature-still m e = cells-still m.time m.cells e

-- ---- due times

flat_map-any : {X : Type 0} (test : ℕ → Bool) (times : X → List ℕ) (due : X → Bool) → ((x : X) → list_any test (times x) ≡ due x) → (xs : List X) →
    list_any test (flat_map times xs) ≡ list_any due xs
flat_map-any test times due each [] = refl
flat_map-any test times due each (x ∷ xs) =
    list_any-append test (times x) (flat_map times xs)
    ∙ ap (λ (b : Bool). b || list_any test (flat_map times xs)) (each x)
    ∙ ap (λ (b : Bool). due x || b) (flat_map-any test times due each xs)

or-false : (b : Bool) → (b || false) ≡ b
or-false true = refl
or-false false = refl

change-times : {V : Type 0} (now : ℕ) (due : Option (Pending V)) → list_any (λ at. nat_le at now) (change_times due) ≡ is_due now due
change-times now None = refl
change-times now (Some change) = or-false (nat_le change.at now)

timer-times : (now : ℕ) (timer : Timer) → list_any (λ at. nat_le at now) (timer_times timer) ≡ is_timer_due now timer
timer-times now Idle = refl
timer-times now (Running at) = or-false (nat_le at now)
timer-times now Ended = refl

net-times : (now : ℕ) (s : NetState) → list_any (λ at. nat_le at now) (net_times s) ≡ is_net_due now s
net-times now s =
    list_any-append (λ at. nat_le at now) (change_times s.due) (timer_times s.timer)
    ∙ ap (λ (b : Bool). b || list_any (λ at. nat_le at now) (timer_times s.timer)) (change-times now s.due)
    ∙ ap (λ (b : Bool). is_due now s.due || b) (timer-times now s.timer)

pub cell_times-due : (now : ℕ) (s : CellState) → list_any (λ at. nat_le at now) (cell_times s) ≡ is_cell_due now s
cell_times-due now (Element s) =
    list_any-append (λ at. nat_le at now) (change_times s.due) (change_times s.switch_due)
    ∙ ap (λ (b : Bool). b || list_any (λ at. nat_le at now) (change_times s.switch_due)) (change-times now s.due)
    ∙ ap (λ (b : Bool). is_due now s.due || b) (change-times now s.switch_due)
cell_times-due now (Island s) = flat_map-any (λ at. nat_le at now) net_times (is_net_due now) (net-times now) s.nets

-- something is due where one of the due times isn't later than the machine's
pub due_times-due : (m : Machine) → list_any (λ at. nat_le at m.time) (due_times m) ≡ is_machine_due m
unfolding due_times is_machine_due
due_times-due m = flat_map-any (λ at. nat_le at m.time) cell_times (is_cell_due m.time) (cell_times-due m.time) m.cells
