-- The tests of two states decide whether these are equal.
use Rattle.std.proofs.Common.{◌≡◌, ℕ, Bool, List, [], ◌∷◌, Option, Some, None, refl, ap, ◌∙◌}
use Rattle.std.specs.Prelude.{◌&&◌, nat_eq}
use Rattle.std.proofs.lemmas.Bool.Decides.{Decides-and, Decides-like, Decides-eqb}
use Rattle.level_range.specs.Signal.{Signal}
use Rattle.level_range.specs.declared.range.Logic.{Logic}
use Rattle.level_range.specs.declared.range.Logic.TheVariants.{Zero, One, X, Z}
use Rattle.level_range.specs.declared.range.Conduct.{Conduct}
use Rattle.delay_rule.specs.declared.inertia.Pending.{Pending}
use Rattle.delay_rule.specs.Inertia.{same_signal, same_conduct}
use Rattle.delay_rule.proofs.InertiaLemmas.{IsEquality, IsEquality-same_signal}
use Rattle.udp_table.specs.Symbols.{same_value}
use Rattle.cell_step.specs.declared.states.Timer.{Timer}
use Rattle.cell_step.specs.declared.states.Timer.TheVariants.{Idle, Running, Ended}
use Rattle.cell_step.specs.declared.states.NetState.{NetState}
use Rattle.cell_step.specs.declared.states.ElementState.{ElementState}
use Rattle.cell_step.specs.declared.states.IslandState.{IslandState}
use Rattle.cell_step.specs.declared.states.CellState.{CellState}
use Rattle.cell_step.specs.declared.states.CellState.TheVariants.{Element, Island}
use Rattle.cell_step.proofs.Aiming.{IsEquality-same_conduct}
use Rattle.machine.specs.Tests.{same_pending, same_timer, same_list, same_element, same_net, same_cell}

IsEquality-same_value : IsEquality same_value
IsEquality-same_value Zero Zero = (λ h. refl, λ e. refl)
IsEquality-same_value One One = (λ h. refl, λ e. refl)
IsEquality-same_value X X = (λ h. refl, λ e. refl)
IsEquality-same_value Z Z = (λ h. refl, λ e. refl)
IsEquality-same_value Zero One = (λ h. cc, λ e. cc)
IsEquality-same_value Zero X = (λ h. cc, λ e. cc)
IsEquality-same_value Zero Z = (λ h. cc, λ e. cc)
IsEquality-same_value One Zero = (λ h. cc, λ e. cc)
IsEquality-same_value One X = (λ h. cc, λ e. cc)
IsEquality-same_value One Z = (λ h. cc, λ e. cc)
IsEquality-same_value X Zero = (λ h. cc, λ e. cc)
IsEquality-same_value X One = (λ h. cc, λ e. cc)
IsEquality-same_value X Z = (λ h. cc, λ e. cc)
IsEquality-same_value Z Zero = (λ h. cc, λ e. cc)
IsEquality-same_value Z One = (λ h. cc, λ e. cc)
IsEquality-same_value Z X = (λ h. cc, λ e. cc)

pending-of : {V : Type 0} (v w : V) (a b : ℕ) → v ≡ w → a ≡ b →
    (let p : Pending V = record { value = v; at = a } in p) ≡ record { value = w; at = b }
pending-of v w a b e f = cc

module _ {V : Type 0} (same : V → V → Bool) (law : IsEquality same) where
  change-at : (p : Option (Pending V)) → ℕ
  change-at None = 0
  change-at (Some change) = change.at

  change-value : V → Option (Pending V) → V
  change-value v None = v
  change-value v (Some change) = change.value

  some-parts : (a b : Pending V) → Some a ≡ Some b → (a.value ≡ b.value) × (a.at ≡ b.at)
  unfolding change-at change-value
  some-parts a b e = (ap (change-value a.value) e, ap change-at e)

  pub IsEquality-same_pending : IsEquality (same_pending same)
  IsEquality-same_pending None None = (λ h. refl, λ e. refl)
  IsEquality-same_pending None (Some b) = (λ h. cc, λ e. cc)
  IsEquality-same_pending (Some a) None = (λ h. cc, λ e. cc)
  IsEquality-same_pending (Some a) (Some b) =
      Decides-like (same a.value b.value && nat_eq a.at b.at)
      (λ (e : (a.value ≡ b.value) × (a.at ≡ b.at)). ap (λ (p : Pending V). Some p) (pending-of a.value b.value a.at b.at e.0 e.1))
      (some-parts a b)
      (Decides-and (same a.value b.value) (nat_eq a.at b.at) (law a.value b.value) (Decides-eqb a.at b.at))

  cons-parts : (x y : V) (xs ys : List V) → x ∷ xs ≡ y ∷ ys → (x ≡ y) × (xs ≡ ys)
  cons-parts x y xs ys e = (cc, cc)

  pub IsEquality-same_list : IsEquality (same_list same)
  IsEquality-same_list [] [] = (λ h. refl, λ e. refl)
  IsEquality-same_list [] (y ∷ ys) = (λ h. cc, λ e. cc)
  IsEquality-same_list (x ∷ xs) [] = (λ h. cc, λ e. cc)
  IsEquality-same_list (x ∷ xs) (y ∷ ys) =
      Decides-like (same x y && same_list same xs ys)
      (λ (e : (x ≡ y) × (xs ≡ ys)). ap (λ (z : V). z ∷ xs) e.0 ∙ ap (λ (zs : List V). y ∷ zs) e.1)
      (cons-parts x y xs ys)
      (Decides-and (same x y) (same_list same xs ys) (law x y) (IsEquality-same_list xs ys))

IsEquality-same_timer : IsEquality same_timer
IsEquality-same_timer Idle Idle = (λ h. refl, λ e. refl)
IsEquality-same_timer (Running a) (Running b) =
    Decides-like (nat_eq a b) (λ (e : a ≡ b). ap Running e) (λ (e : Running a ≡ Running b). let f : a ≡ b = cc in f) (Decides-eqb a b)
IsEquality-same_timer Ended Ended = (λ h. refl, λ e. refl)
IsEquality-same_timer Idle (Running b) = (λ h. cc, λ e. cc)
IsEquality-same_timer Idle Ended = (λ h. cc, λ e. cc)
IsEquality-same_timer (Running a) Idle = (λ h. cc, λ e. cc)
IsEquality-same_timer (Running a) Ended = (λ h. cc, λ e. cc)
IsEquality-same_timer Ended Idle = (λ h. cc, λ e. cc)
IsEquality-same_timer Ended (Running b) = (λ h. cc, λ e. cc)

-- ---- states, part by part

ElementParts : ElementState → ElementState → Type 0
ElementParts a b = (a.out ≡ b.out) × ((a.on ≡ b.on) × ((a.due ≡ b.due) × ((a.switch_due ≡ b.switch_due) × ((a.state ≡ b.state) × (a.seen ≡ b.seen)))))

element-from : (a b : ElementState) → ElementParts a b → a ≡ b
unfolding ElementParts
element-from a b e = parts a.out b.out a.on b.on a.due b.due a.switch_due b.switch_due a.state b.state a.seen b.seen
    e.0 e.1.0 e.1.1.0 e.1.1.1.0 e.1.1.1.1.0 e.1.1.1.1.1
  where
    parts : (o p : Signal) (c d : Conduct) (q r : Option (Pending Signal)) (u v : Option (Pending Conduct)) (l m : Logic) (xs ys : List Logic) →
        o ≡ p → c ≡ d → q ≡ r → u ≡ v → l ≡ m → xs ≡ ys →
        (let s : ElementState = record { out = o; on = c; due = q; switch_due = u; state = l; seen = xs } in s)
        ≡ record { out = p; on = d; due = r; switch_due = v; state = m; seen = ys }
    parts o p c d q r u v l m xs ys e f g h i j = cc

element-parts : (a b : ElementState) → a ≡ b → ElementParts a b
unfolding ElementParts
element-parts a b e = (
  ap (λ (s : ElementState). s.out) e,
  (
    ap (λ (s : ElementState). s.on) e,
    (
      ap (λ (s : ElementState). s.due) e,
      (
        ap (λ (s : ElementState). s.switch_due) e,
        (ap (λ (s : ElementState). s.state) e, ap (λ (s : ElementState). s.seen) e),
      ),
    ),
  ),
)

IsEquality-same_element : IsEquality same_element
unfolding ElementParts
IsEquality-same_element a b =
    Decides-like (same_element a b) (element-from a b) (element-parts a b)
    (Decides-and _ _ (IsEquality-same_signal a.out b.out)
    (Decides-and _ _ (IsEquality-same_conduct a.on b.on)
    (Decides-and _ _ (IsEquality-same_pending same_signal IsEquality-same_signal a.due b.due)
    (Decides-and _ _ (IsEquality-same_pending same_conduct IsEquality-same_conduct a.switch_due b.switch_due)
    (Decides-and _ _ (IsEquality-same_value a.state b.state)
    (IsEquality-same_list same_value IsEquality-same_value a.seen b.seen))))))

NetParts : NetState → NetState → Type 0
NetParts a b = (a.settled ≡ b.settled) × ((a.seen ≡ b.seen) × ((a.due ≡ b.due) × ((a.charge ≡ b.charge) × (a.timer ≡ b.timer))))

net-from : (a b : NetState) → NetParts a b → a ≡ b
unfolding NetParts
net-from a b e = parts a.settled b.settled a.seen b.seen a.due b.due a.charge b.charge a.timer b.timer e.0 e.1.0 e.1.1.0 e.1.1.1.0 e.1.1.1.1
  where
    parts : (o p c d : Signal) (q r : Option (Pending Signal)) (u v : Signal) (l m : Timer) → o ≡ p → c ≡ d → q ≡ r → u ≡ v → l ≡ m →
        (let s : NetState = record { settled = o; seen = c; due = q; charge = u; timer = l } in s)
        ≡ record { settled = p; seen = d; due = r; charge = v; timer = m }
    parts o p c d q r u v l m e f g h i = cc

net-parts : (a b : NetState) → a ≡ b → NetParts a b
unfolding NetParts
net-parts a b e = (
  ap (λ (s : NetState). s.settled) e,
  (
    ap (λ (s : NetState). s.seen) e,
    (
      ap (λ (s : NetState). s.due) e,
      (ap (λ (s : NetState). s.charge) e, ap (λ (s : NetState). s.timer) e),
    ),
  ),
)

IsEquality-same_net : IsEquality same_net
unfolding NetParts
IsEquality-same_net a b =
    Decides-like (same_net a b) (net-from a b) (net-parts a b)
    (Decides-and _ _ (IsEquality-same_signal a.settled b.settled)
    (Decides-and _ _ (IsEquality-same_signal a.seen b.seen)
    (Decides-and _ _ (IsEquality-same_pending same_signal IsEquality-same_signal a.due b.due)
    (Decides-and _ _ (IsEquality-same_signal a.charge b.charge)
    (IsEquality-same_timer a.timer b.timer)))))

as-element : ElementState → CellState → ElementState
as-element none (Element s) = s
as-element none (Island s) = none

as-island : IslandState → CellState → IslandState
as-island none (Element s) = none
as-island none (Island s) = s

-- the test decides whether two cells have one state
pub IsEquality-same_cell : IsEquality same_cell
unfolding same_cell as-element as-island
IsEquality-same_cell (Element a) (Element b) =
    Decides-like (same_element a b) (λ (e : a ≡ b). ap Element e) (λ (e : Element a ≡ Element b). ap (as-element a) e) (IsEquality-same_element a b)
IsEquality-same_cell (Island a) (Island b) =
    Decides-like (same_list same_net a.nets b.nets)
    (λ (e : a.nets ≡ b.nets). ap (λ (nets : List NetState). let s : IslandState = record { nets = nets } in Island s) e)
    (λ (e : Island a ≡ Island b). ap (λ (s : CellState). (as-island a s).nets) e)
    (IsEquality-same_list same_net IsEquality-same_net a.nets b.nets)
IsEquality-same_cell (Element a) (Island b) = (λ h. cc, λ e. cc)
IsEquality-same_cell (Island a) (Element b) = (λ h. cc, λ e. cc)
