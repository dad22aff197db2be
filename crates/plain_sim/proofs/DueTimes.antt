-- The least time of a wheel that has the times for which something is pending is the least of those of all cells.
use Rattle.std.proofs.Common.{◌≡◌, ◌≢◌, ℕ, zero, suc, ◌+◌, ◌-◌, ◌<◌, ◌≤◌, ◌^◌, List, [], ◌∷◌, ◌++◌, length, get_or, refl, ap, sym, subst, ◌∙◌, arith, inl, inr, ◌⊎◌, min}
use Rattle.std.specs.Prelude.{All, Contains, Option, Some, None, IsNone, IfSome, ◌↔◌, slice_get, nat_lt}
use Rattle.std.specs.List.{flat_map}
use Rattle.std.specs.Ordering.{nat_cmp}
use Rattle.std.specs.FinMap.{empty, get, get-empty, same_map, nat_cmp-IsAntisymmetric}
use Rattle.std.proofs.lemmas.Cmp.{nat_cmp_total}
use Rattle.std.proofs.lemmas.Bool.{cases_lt}
use Rattle.std.proofs.lemmas.Grind.{flat_map-append}
use Rattle.std.proofs.lemmas.List.{get_or_past, get_or_default}
use Rattle.std.proofs.lemmas.List.Concat.{flat_map-cons}
use Rattle.std.proofs.lemmas.List.Elements.{All-contains, Contains-append_left, Contains-append_right, Contains-append_cases}
use Rattle.std.proofs.lemmas.Option.{slice_get-get_or, slice_get_within, get_or_from_slice_get}
use Rattle.timing_wheel.specs.Wheel.{Times, IsLeastTime}
use Rattle.flat_net.specs.declared.parts.NetPart.{NetPart}
use Rattle.flat_net.specs.declared.parts.Island.{Island as IslandPart}
use Rattle.flat_net.specs.declared.parts.Parts.{Parts}
use Rattle.flat_net.specs.Soundness.{IsSound}
use Rattle.flat_net.proofs.Somes.{some_of}
use Rattle.cell_step.specs.declared.states.NetState.{NetState}
use Rattle.cell_step.specs.declared.states.CellState.{CellState}
use Rattle.cell_step.specs.declared.states.CellState.TheVariants.{Element, Island}
use Rattle.cell_step.specs.Readings.{no_net, no_island, net_at, island_at}
use Rattle.cell_step.specs.Islands.{no_state, state_at}
use Rattle.machine.specs.Machine.{as_island, state_among}
use Rattle.machine.specs.Pass.{change_times, timer_times, net_times, cell_times}
use Rattle.machine.specs.Run.{lesser, least}
use Rattle.cell_step.specs.Fitting.{FitsCell}
use Rattle.flat_net.specs.declared.kinds.Cell.TheVariants.{Island as IslandCell}
use Rattle.plain_sim.specs.Lists.{AreElements, AreIslands, net_among}
use Rattle.plain_sim.specs.Due.{AreSoonTimes, AreDueTimes, key_count, change_key, timer_key, element_time, change_time, timer_time}
use Rattle.plain_sim.proofs.Stepping.{no_cell}
use Rattle.plain_sim.proofs.Places.{fits-island, has-nets, island-within}

-- ---- the least number of a list

contains-head : (x : ℕ) (xs : List ℕ) → Contains (x ∷ xs) x
contains-head x xs = (0, omega arith, refl)

contains-tail : (x y : ℕ) (xs : List ℕ) → Contains xs y → Contains (x ∷ xs) y
contains-tail x y xs h = (suc h.0, (let lt = h.1 in omega arith), h.2)

head-or-tail : (x y : ℕ) (xs : List ℕ) → Contains (x ∷ xs) y → (x ≡ y) ⊎ Contains xs y
head-or-tail x y xs (zero, lt, is) = inl is
head-or-tail x y xs (suc k, lt, is) = inr (k, omega arith, is)

least-listed : (xs : List ℕ) (n : ℕ) → least xs ≡ Some n → Contains xs n
least-listed [] n e = absurd (let f : Some n ≡ None = sym e in cc)
least-listed (x ∷ xs) n e = by_rest (least xs) refl (λ k some. least-listed xs k some)
  where
    by_rest : (o : Option ℕ) → least xs ≡ o → ((k : ℕ) → least xs ≡ Some k → Contains xs k) → Contains (x ∷ xs) n
    by_rest None none rest =
        let f : Some x ≡ Some n = sym (ap (λ (o : Option ℕ). Some (lesser x o)) none) ∙ e in
        let h : x ≡ n = cc in subst (Contains (x ∷ xs)) h (contains-head x xs)
    by_rest (Some k) some rest =
        let f : Some (min x k) ≡ Some n = sym (ap (λ (o : Option ℕ). Some (lesser x o)) some) ∙ e in
        let h : min x k ≡ n = cc in
        elim (cases_lt x k) [
          | inl lt ↦ let here : x ≡ n = omega arith in subst (Contains (x ∷ xs)) here (contains-head x xs)
          | inr ge ↦ let there : k ≡ n = omega arith in contains-tail x n xs (subst (Contains xs) there (rest k some))
        ]

-- a list with a number has a least one, which isn't above it
listed-least : (xs : List ℕ) (y : ℕ) → Contains xs y → (n : ℕ) × (least xs ≡ Some n) × (n ≤ y)
listed-least [] y h = absurd (let lt = h.1 in omega arith)
listed-least (x ∷ xs) y h = elim (head-or-tail x y xs h) [
  | inl e ↦ by_rest (least xs) refl e
  | inr more ↦
      let below = listed-least xs y more in
      (min x below.0, ap (λ (o : Option ℕ). Some (lesser x o)) below.1, (let le = below.2 in omega arith))
]
  where
    by_rest : (o : Option ℕ) → least xs ≡ o → x ≡ y → (n : ℕ) × (least (x ∷ xs) ≡ Some n) × (n ≤ y)
    by_rest None none e = (x, ap (λ (o : Option ℕ). Some (lesser x o)) none, omega arith)
    by_rest (Some k) some e = (min x k, ap (λ (o : Option ℕ). Some (lesser x o)) some, omega arith)

least-is : (xs : List ℕ) (n : ℕ) → Contains xs n → ((y : ℕ) → Contains xs y → n ≤ y) → least xs ≡ Some n
least-is xs n listed below =
    let found = listed-least xs n listed in
    let le = found.2 in
    let ge = below found.0 (least-listed xs found.0 found.1) in
    found.1 ∙ ap (λ (k : ℕ). Some k) (let e : found.0 ≡ n = omega arith in e)

least-none : (xs : List ℕ) → ((y : ℕ) → Contains xs y → ⊥) → least xs ≡ None
least-none [] none = refl
least-none (x ∷ xs) none = absurd (none x (contains-head x xs))

-- the least of times that are soon is
pub least-soon : (times : List ℕ) (o : Option ℕ) → o ≡ least times → AreSoonTimes times → IfSome o (λ at. at < 2 ^ 49)
least-soon times None e soon = cc
least-soon times (Some at) e soon = All-contains (λ t. t < 2 ^ 49) times at soon (least-listed times at (sym e))

-- ---- the numbers of pieces

piece-listed : {A : Type 0} (f : A → List ℕ) (xs : List A) (k : ℕ) (d : A) (y : ℕ) → k < length xs → Contains (f (get_or xs k d)) y → Contains (flat_map f xs) y
piece-listed f [] k d y lt h = absurd (omega arith)
piece-listed f (x ∷ xs) zero d y lt h = subst (λ l. Contains l y) (sym (flat_map-cons f x xs)) (Contains-append_left (f x) (flat_map f xs) y h)
piece-listed f (x ∷ xs) (suc k) d y lt h =
    subst (λ l. Contains l y) (sym (flat_map-cons f x xs)) (Contains-append_right (f x) (flat_map f xs) y (piece-listed f xs k d y (omega arith) h))

listed-piece : {A : Type 0} (f : A → List ℕ) (xs : List A) (d : A) (y : ℕ) → Contains (flat_map f xs) y → (k : ℕ) × (k < length xs) × Contains (f (get_or xs k d)) y
listed-piece f [] d y h = absurd (let lt = h.1 in omega arith)
listed-piece f (x ∷ xs) d y h = elim (Contains-append_cases (f x) (flat_map f xs) y (subst (λ l. Contains l y) (flat_map-cons f x xs) h)) [
  | inl here ↦ (0, omega arith, here)
  | inr more ↦ let found = listed-piece f xs d y more in (suc found.0, (let lt = found.1 in omega arith), found.2)
]

-- ---- the nets of islands

-- the place of each net is that of its state
net-place : (parts : Parts) → IsSound parts → (island place : ℕ) → island < length parts.islands → place < length (island_at parts island).nets →
    (net : ℕ) × (net < length parts.nets) × ((net_at parts net).island ≡ island) × ((net_at parts net).place ≡ place)
net-place parts sound island place lt deep =
    let nets = (island_at parts island).nets in
    let net = get_or nets place 0 in
    let is = sound.cells.islands island (island_at parts island) (slice_get-get_or parts.islands island no_island lt) in
    let found = some_of (λ (part : NetPart). (part.island ≡ island) × (part.place ≡ place)) (slice_get parts.nets net)
    (is.places place net (slice_get-get_or nets place 0 deep)) in
    let same : net_at parts net ≡ found.0 = get_or_from_slice_get parts.nets net found.0 no_net found.1 in
    (net, slice_get_within parts.nets net found.0 found.1, ap (λ (p : NetPart). p.island) same ∙ found.2.0, ap (λ (p : NetPart). p.place) same ∙ found.2.1)

-- only an island's state has nets
islands-listed : (s : CellState) (y : ℕ) → Contains (flat_map net_times (as_island s).nets) y → Contains (cell_times s) y
islands-listed (Element s) y h = absurd (let lt = h.1 in omega arith)
islands-listed (Island s) y h = h

listed-islands : (parts : Parts) (number : ℕ) (islands : List CellState) → AreIslands parts islands → number < length parts.islands → (y : ℕ) →
    Contains (cell_times (state_among islands number)) y → Contains (flat_map net_times (as_island (state_among islands number)).nets) y
listed-islands parts number islands are lt y h = by_kind (state_among islands number) (are.fits number lt) h
  where
    by_kind : (s : CellState) → FitsCell parts (IslandCell number) s → Contains (cell_times s) y → Contains (flat_map net_times (as_island s).nets) y
    by_kind (Element s) fits h = absurd fits
    by_kind (Island s) fits h = h

-- a time of a net is one of the islands
net-listed : (parts : Parts) → IsSound parts → (islands : List CellState) → AreIslands parts islands → (net : ℕ) → net < length parts.nets → (y : ℕ) →
    Contains (net_times (net_among parts islands net)) y → Contains (flat_map cell_times islands) y
net-listed parts sound islands are net lt y h =
    let part = net_at parts net in
    let deep = has-nets parts sound islands are net lt in
    let s = state_among islands part.island in
    piece-listed cell_times islands part.island no_cell y (island-within islands part.island part.place deep)
    (islands-listed s y (piece-listed net_times (as_island s).nets part.place no_state y deep h))

-- a time of the islands is one of a net
listed-net : (parts : Parts) → IsSound parts → (islands : List CellState) → AreIslands parts islands → (y : ℕ) → Contains (flat_map cell_times islands) y →
    (net : ℕ) × (net < length parts.nets) × Contains (net_times (net_among parts islands net)) y
listed-net parts sound islands are y h =
    let cell = listed-piece cell_times islands no_cell y h in
    let number = cell.0 in
    let lt : number < length parts.islands = (let c = are.count in let l = cell.1 in omega arith) in
    let nets = (as_island (state_among islands number)).nets in
    let state = listed-piece net_times nets no_state y (listed-islands parts number islands are lt y cell.2) in
    let long = fits-island parts number (state_among islands number) (are.fits number lt) in
    let at = net-place parts sound number state.0 lt (let l = state.1 in omega arith) in (
      at.0,
      at.1,
      subst (λ (i : ℕ). Contains (net_times (state_at (as_island (state_among islands i)).nets (net_at parts at.0).place)) y) (sym at.2)
          (subst (λ (p : ℕ). Contains (net_times (state_at nets p)) y) (sym at.3) state.2),
    )

-- ---- the times of keys

module _ (parts : Parts) (sound : IsSound parts) (elements islands : List CellState) (es : AreElements parts elements) (is : AreIslands parts islands)
    (times : Times) (due : AreDueTimes parts elements islands times) where
  all-times : List ℕ
  all-times = flat_map cell_times (elements ++ islands)

  halves : all-times ≡ flat_map cell_times elements ++ flat_map cell_times islands
  unfolding all-times
  halves = flat_map-append cell_times elements islands

  of-islands : (at : ℕ) → Contains (flat_map cell_times islands) at → Contains all-times at
  of-islands at h = subst (λ l. Contains l at) (sym halves) (Contains-append_right (flat_map cell_times elements) (flat_map cell_times islands) at h)

  element-listed : (number at : ℕ) → number < length parts.elements → get times number ≡ Some at → Contains all-times at
  element-listed number at lt e =
      subst (λ l. Contains l at) (sym halves)
      (Contains-append_left (flat_map cell_times elements) (flat_map cell_times islands) at
      (piece-listed cell_times elements number no_cell at (let c = es.count in omega arith)
      (least-listed (cell_times (state_among elements number)) at (sym (due.of_elements number lt) ∙ e))))

  change-listed : (net at : ℕ) → net < length parts.nets → get times (change_key parts net) ≡ Some at → Contains all-times at
  change-listed net at lt e =
      let s = net_among parts islands net in
      of-islands at (net-listed parts sound islands is net lt at
      (Contains-append_left (change_times s.due) (timer_times s.timer) at (least-listed (change_times s.due) at (sym (due.of_nets net lt).0 ∙ e))))

  timer-listed : (net at : ℕ) → net < length parts.nets → get times (timer_key parts net) ≡ Some at → Contains all-times at
  timer-listed net at lt e =
      let s = net_among parts islands net in
      of-islands at (net-listed parts sound islands is net lt at
      (Contains-append_right (change_times s.due) (timer_times s.timer) at (least-listed (timer_times s.timer) at (sym (due.of_nets net lt).1 ∙ e))))

  -- the time of each key is one of them
  key-listed : (key at : ℕ) → get times key ≡ Some at → Contains all-times at
  key-listed key at e =
      let count = length parts.elements in
      let many = length parts.nets in
      elim (cases_lt key count) [
        | inl element ↦ element-listed key at element e
        | inr past ↦ elim (cases_lt key (count + many)) [
          | inl change ↦
              change-listed (key - count) at (omega arith) (ap (λ (k : ℕ). get times k) (let h : change_key parts (key - count) ≡ key = omega arith in h) ∙ e)
          | inr later ↦ elim (cases_lt key (count + many + many)) [
            | inl timer ↦
                timer-listed (key - count - many) at (omega arith) (ap (λ (k : ℕ). get times k) (let h : timer_key parts (key - count - many) ≡ key = omega arith in h) ∙ e)
            | inr none ↦ absurd (let f : Some at ≡ None = sym e ∙ due.past key none in cc)
          ]
        ]
      ]

  -- each of them is the time of a key, or above it
  listed-key : (at : ℕ) → Contains all-times at → (key : ℕ) × (t : ℕ) × (get times key ≡ Some t) × (t ≤ at)
  listed-key at h = elim (Contains-append_cases (flat_map cell_times elements) (flat_map cell_times islands) at (subst (λ l. Contains l at) halves h)) [
    | inl here ↦
        let found = listed-piece cell_times elements no_cell at here in
        let first = listed-least (cell_times (state_among elements found.0)) at found.2 in
        (found.0, first.0, due.of_elements found.0 (let l = found.1 in let c = es.count in omega arith) ∙ first.1, first.2)
    | inr there ↦
        let found = listed-net parts sound islands is at there in
        let s = net_among parts islands found.0 in
        elim (Contains-append_cases (change_times s.due) (timer_times s.timer) at found.2) [
          | inl change ↦
              let first = listed-least (change_times s.due) at change in
              (change_key parts found.0, first.0, (due.of_nets found.0 found.1).0 ∙ first.1, first.2)
          | inr timer ↦
              let first = listed-least (timer_times s.timer) at timer in
              (timer_key parts found.0, first.0, (due.of_nets found.0 found.1).1 ∙ first.1, first.2)
        ]
  ]

  pub due-least : (result : Option ℕ) → (IsNone result ↔ (times ≡ empty)) → IfSome result (IsLeastTime times) →
      result ≡ least (flat_map cell_times (elements ++ islands))
  unfolding all-times
  due-least None none least_is =
      let bare : times ≡ empty = none.0 refl in
      sym (least-none all-times (λ at h.
      let key = listed-key at h in
      let f : Some key.1 ≡ None = sym key.2 ∙ ap (λ (m : Times). get m key.0) bare ∙ get-empty nat_cmp key.0 in
      absurd (let g = f in cc)))
  due-least (Some at) none least_is =
      sym (least-is all-times at (key-listed least_is.reached.0 at least_is.reached.1)
      (λ y h. let key = listed-key y h in let le = least_is.below key.0 key.1 key.2 in let l = key.3 in omega arith))
