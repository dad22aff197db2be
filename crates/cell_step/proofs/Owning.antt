-- The own signals of an island, drive by drive.
use Rattle.std.proofs.Common.{◌≡◌, ◌≢◌, ℕ, zero, suc, ◌+◌, ◌<◌, ◌≤◌, Bool, true, false, cond, List, [], ◌∷◌, ◌++◌, length, get_or, take, refl, ap, sym, ◌∙◌, subst, arith, length-set, get_or-set_same, inl, inr}
use Rattle.std.specs.Prelude.{All, Option, Some, None, fold, map, filter, nat_eq, slice_index_or, slice_set}
use Rattle.std.specs.List.{range_with_len}
use Rattle.std.proofs.lemmas.Bool.{cases_eq}
use Rattle.std.proofs.lemmas.List.{same_lists, get_or_default, get_or-set_other, map-append, append-nil}
use Rattle.std.proofs.lemmas.List.Elements.{filter_more}
use Rattle.std.proofs.lemmas.List.FromFn.{length-map-range_with_len, get_or-map-range_with_len, fill_by_all}
use Rattle.level_range.specs.declared.range.Kind.{Kind}
use Rattle.level_range.specs.declared.range.Kind.TheVariants.{Plain}
use Rattle.level_range.specs.Signal.{Signal, IsSignal, undriven}
use Rattle.level_range.specs.Combine.{combination_of, join_of}
use Rattle.level_range.proofs.Combination.{combination-law}
use Rattle.net_settle.specs.Charges.{signal_at}
use Rattle.flat_net.specs.declared.kinds.NetKind.{NetKind}
use Rattle.flat_net.specs.declared.kinds.Patch.{Patch}
use Rattle.flat_net.specs.declared.kinds.Patch.TheVariants.{Whole, NetStuck, InStuck, OutStuck, Open, Closed}
use Rattle.flat_net.specs.declared.parts.Drive.{Drive}
use Rattle.flat_net.specs.declared.parts.Island.{Island}
use Rattle.flat_net.specs.declared.parts.Parts.{Parts}
use Rattle.flat_net.specs.Islands.{combination_kind}
use Rattle.cell_step.specs.Readings.{Readings, net_at}
use Rattle.cell_step.specs.Islands.{own_driver, drives_at, net_stuck, unless_stuck, part_at, own_signal, own_signals}
use Rattle.cell_step.specs.Owns.{place_signal, driver_signals, stick_nets, HasKinds}
use Rattle.cell_step.proofs.Mapping.{range-agree}
use Rattle.cell_step.proofs.Signals.{own_driver-is}

-- joining with z changes nothing
join-first : (kind : Kind) (s : Signal) → IsSignal s → join_of kind undriven s ≡ s
join-first kind s is = (combination-law kind).one s is

-- with no drives there are the net's own driver and the input
pub first-is : (parts : Parts) (r : Readings) (island : Island) (place : ℕ) →
    join_of (combination_kind (part_at parts island place).kind) (own_driver (part_at parts island place).kind) (r.input (slice_index_or island.nets place 0))
    ≡ place_signal parts r island [] place
first-is parts r island place =
    let kind = (part_at parts island place).kind in
    ap (λ s. join_of (combination_kind kind) s (r.input (slice_index_or island.nets place 0))) (sym (join-first (combination_kind kind) (own_driver kind) (own_driver-is kind)))

fold-append : {A B : Type 0} (f : B → A → B) (z : B) (xs : List A) (y : A) → fold f z (xs ++ y ∷ []) ≡ f (fold f z xs) y
fold-append f z [] y = refl
fold-append f z (x ∷ xs) y = fold-append f (f z x) xs y

pub length-driver_signals : (parts : Parts) (r : Readings) (island : Island) (some : List Drive) →
    length (driver_signals parts r island some) ≡ length island.nets
length-driver_signals parts r island some = length-map-range_with_len _ 0 (length island.nets)

module _ (parts : Parts) (r : Readings) (island : Island) (drives : List Drive) (k : ℕ) (drive : Drive)
    (within : k < length drives) (is : get_or drives k drive ≡ drive) where
  abbrev driven : Signal
  driven = r.drive drive.element drive.pin

  abbrev at_place : ℕ → Drive → Bool
  at_place place d = nat_eq d.place place

  drives-more : (place : ℕ) → drives_at r (take (k + 1) drives) place
      ≡ drives_at r (take k drives) place ++ cond (nat_eq drive.place place) (driven ∷ []) []
  drives-more place =
      let f = λ (d : Drive). r.drive d.element d.pin in
      ap (map f) (filter_more (at_place place) drives k drive within
      ∙ ap (λ (d : Drive). filter (at_place place) (take k drives) ++ cond (at_place place d) (d ∷ []) []) is)
      ∙ map-append f (filter (at_place place) (take k drives)) (cond (at_place place drive) (drive ∷ []) [])
      ∙ ap (λ l. drives_at r (take k drives) place ++ l) (by_test (at_place place drive))
    where
      by_test : (b : Bool) → map (λ (d : Drive). r.drive d.element d.pin) (cond b (drive ∷ []) []) ≡ cond b (driven ∷ []) []
      by_test true = refl
      by_test false = refl

  place-more : (place : ℕ) → drive.place ≡ place →
      place_signal parts r island (take (k + 1) drives) place
      ≡ join_of (combination_kind (part_at parts island place).kind) (place_signal parts r island (take k drives) place) driven
  place-more place here =
      let kind = (part_at parts island place).kind in
      let e : nat_eq drive.place place ≡ true = grind (arith) in
      ap (λ l. combination_of (combination_kind kind) (own_driver kind ∷ r.input (slice_index_or island.nets place 0) ∷ l))
      (drives-more place ∙ ap (λ b. drives_at r (take k drives) place ++ cond b (driven ∷ []) []) e)
      ∙ fold-append (join_of (combination_kind kind)) undriven
      (own_driver kind ∷ r.input (slice_index_or island.nets place 0) ∷ drives_at r (take k drives) place) driven

  place-other : (place : ℕ) → drive.place ≢ place →
      place_signal parts r island (take (k + 1) drives) place ≡ place_signal parts r island (take k drives) place
  place-other place other =
      let kind = (part_at parts island place).kind in
      let e : nat_eq drive.place place ≡ false = grind (arith) in
      ap (λ l. combination_of (combination_kind kind) (own_driver kind ∷ r.input (slice_index_or island.nets place 0) ∷ l))
      (drives-more place ∙ ap (λ b. drives_at r (take k drives) place ++ cond b (driven ∷ []) []) e ∙ append-nil (drives_at r (take k drives) place))

  signals-at : (some : List Drive) (place : ℕ) (d : Signal) → place < length island.nets →
      get_or (driver_signals parts r island some) place d ≡ place_signal parts r island some place
  signals-at some place d inside = get_or-map-range_with_len _ 0 (length island.nets) place place d inside (omega arith)

  -- one more drive is joined to the signal of its place
  pub driver_signals-more : (joined : Signal) → drive.place < length island.nets →
      joined ≡ join_of (combination_kind (part_at parts island drive.place).kind)
      (get_or (driver_signals parts r island (take k drives)) drive.place undriven) driven →
      slice_set (driver_signals parts r island (take k drives)) drive.place joined ≡ driver_signals parts r island (take (k + 1) drives)
  driver_signals-more joined inside joins =
      let before = driver_signals parts r island (take k drives) in
      let after = driver_signals parts r island (take (k + 1) drives) in
      same_lists (slice_set before drive.place joined) after
      (length-set before drive.place joined ∙ length-driver_signals parts r island (take k drives) ∙ sym (length-driver_signals parts r island (take (k + 1) drives)))
      (λ place d lt.
      let here : place < length island.nets = (let a = length-set before drive.place joined in let b = length-driver_signals parts r island (take k drives) in omega arith) in
      elim (cases_eq place drive.place) [
        | inl e ↦
            ap (λ i. get_or (slice_set before drive.place joined) i d) e
            ∙ get_or-set_same before drive.place joined d (let b = length-driver_signals parts r island (take k drives) in omega arith)
            ∙ joins
            ∙ ap (λ s. join_of (combination_kind (part_at parts island drive.place).kind) s driven) (signals-at (take k drives) drive.place undriven inside)
            ∙ sym (place-more drive.place refl)
            ∙ sym (signals-at (take (k + 1) drives) drive.place d inside)
            ∙ ap (λ i. get_or after i d) (sym e)
        | inr ne ↦
            get_or-set_other before drive.place place joined d ne
            ∙ signals-at (take k drives) place d here
            ∙ sym (place-other place (λ e. ne (sym e)))
            ∙ sym (signals-at (take (k + 1) drives) place d here)
      ])

module _ (parts : Parts) (r : Readings) (patch : Patch) (island : Island) where
  -- the own signals are those of the drivers, with stuck nets in their places
  pub own_signals-stuck : stick_nets patch island.nets (driver_signals parts r island island.drives) ≡ own_signals parts r patch island
  own_signals-stuck =
      range-agree _ (own_signal parts r patch island) (length island.nets)
      (λ place lt. ap (unless_stuck (net_stuck patch (slice_index_or island.nets place 0)))
      (get_or-map-range_with_len (place_signal parts r island island.drives) 0 (length island.nets) place place undriven lt (omega arith)))

  -- where nothing is stuck they are those of the drivers
  pub own_signals-free : ((net : ℕ) → net_stuck patch net ≡ None) → driver_signals parts r island island.drives ≡ own_signals parts r patch island
  own_signals-free free =
      range-agree (place_signal parts r island island.drives) (own_signal parts r patch island) (length island.nets)
      (λ place lt. ap (λ o. unless_stuck o (place_signal parts r island island.drives place)) (sym (free (slice_index_or island.nets place 0))))

-- stands for a drive where there is none
abbrev pub no_drive : Drive
no_drive = record { element = 0; pin = 0; place = 0 }

-- one turn of the loop that joins drives
module _ (parts : Parts) (r : Readings) (island : Island) (drives : List Drive) (kinds : List Kind) (own : List Signal) (k : ℕ)
    (same_drives : drives ≡ island.drives)
    (same_kinds : kinds ≡ island.shape.kinds)
    (has : HasKinds parts island)
    (places : All (λ (drive : Drive). drive.place < length island.nets) island.drives)
    (within : k < length drives)
    (joined : own ≡ driver_signals parts r island (take k island.drives)) where
  abbrev turn : Drive
  turn = get_or drives k no_drive

  inner : k < length island.drives
  inner = let e = ap length same_drives in omega arith

  pub turn-inside : turn.place < length island.nets
  turn-inside =
      subst (λ (l : List Drive). (get_or l k no_drive).place < length island.nets) (sym same_drives) (places k no_drive inner)

  pub turn-own : turn.place < length own
  turn-own = let e = ap length joined ∙ length-driver_signals parts r island (take k island.drives) in let f = turn-inside in omega arith

  pub turn-joined : (driven : Signal) (after : List Signal) → driven ≡ r.drive turn.element turn.pin →
      after ≡ slice_set own turn.place (join_of (slice_index_or kinds turn.place Plain) (signal_at own turn.place) driven) →
      after ≡ driver_signals parts r island (take (k + 1) island.drives)
  turn-joined driven after drives_it is =
      let result = join_of (slice_index_or kinds turn.place Plain) (signal_at own turn.place) driven in
      is ∙ ap (λ l. slice_set l turn.place result) joined
      ∙ driver_signals-more parts r island island.drives k turn inner
      (get_or_default island.drives k turn no_drive inner ∙ ap (λ l. get_or l k no_drive) (sym same_drives))
      result turn-inside
      (ap (λ l. join_of (slice_index_or l turn.place Plain) (signal_at own turn.place) driven) same_kinds
      ∙ ap (λ kind. join_of kind (signal_at own turn.place) driven) (has turn.place turn-inside)
      ∙ ap (λ l. join_of (combination_kind (part_at parts island turn.place).kind) (signal_at l turn.place) driven) joined
      ∙ ap (λ s. join_of (combination_kind (part_at parts island turn.place).kind)
      (signal_at (driver_signals parts r island (take k island.drives)) turn.place) s) drives_it)

-- a patch that sticks no net
pub free-of : (patch : Patch) → ((net : ℕ) (v : Bool) → patch ≡ NetStuck net v → ⊥) → (net : ℕ) → net_stuck patch net ≡ None
free-of (NetStuck stuck v) free net = absurd (free stuck v refl)
free-of Whole free net = refl
free-of (InStuck pin v) free net = refl
free-of (OutStuck pin v) free net = refl
free-of Open free net = refl
free-of Closed free net = refl
