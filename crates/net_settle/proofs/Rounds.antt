-- What settling by levels gives is settled.
use Rattle.std.proofs.Common.{◌≡◌, ◌≢◌, ℕ, zero, suc, ◌+◌, ◌*◌, ◌<◌, ◌≤◌, true, false, List, [], ◌∷◌, length, refl, ap, sym, ◌∙◌, subst, arith, inl, inr}
use Rattle.std.specs.Prelude.{ℤ, pos, ◌⊎◌, slice_set, Contains, replicate}
use Rattle.std.specs.Ordering.{int_eq}
use Rattle.std.proofs.lemmas.List.{get_or_past, set_past, get_or-replicate, length-replicate}
use Rattle.std.proofs.lemmas.List.Elements.{Contains-append_right}
use Rattle.std.proofs.lemmas.Bool.{cases_eq, cases_lt, cases_Bool}
use Rattle.std.proofs.lemmas.Bool.Decides.{Decides-int_eq, not_from_Decides}
use Rattle.level_range.specs.declared.range.Conduct.{Conduct}
use Rattle.net_settle.specs.declared.shape.Link.{Link}
use Rattle.net_settle.specs.declared.side.Side.{Side}
use Rattle.net_settle.specs.Bounds.{Switch, at, carried_bound, favoured_level, opposed_level}
use Rattle.net_settle.specs.Settling.{Joins, IsSettled}
use Rattle.net_settle.specs.ByLevels.{take_level, take_own, take_carried, rounds, spread, spread_from, settled_bounds}
use Rattle.net_settle.specs.Progress.{rank, IsDone, without}
use Rattle.net_settle.proofs.Ranks.{rank-none, rank-favoured_level, rank-opposed_level}
use Rattle.net_settle.proofs.Walks.{IsIdle, Offered, takes, finishes, settles, starts}

pub int_eq_cases : (x y : ℤ) → ((int_eq x y ≡ true) × (x ≡ y)) ⊎ ((int_eq x y ≡ false) × (x ≢ y))
int_eq_cases x y = elim (cases_Bool (int_eq x y)) [
  | inl e ↦ inl (e, (Decides-int_eq x y).0 e)
  | inr e ↦ inr (e, not_from_Decides (int_eq x y) (Decides-int_eq x y) e)
]

without_one : (v : ℤ) (bounds : List ℤ) → v ≡ pos 0 → without (v ∷ bounds) ≡ 1 + without bounds
unfolding without
without_one v bounds e = rw ((Decides-int_eq v (pos 0)).1 e) refl

without_same : (v : ℤ) (bounds : List ℤ) → v ≢ pos 0 → without (v ∷ bounds) ≡ without bounds
unfolding without
without_same v bounds ne = elim (int_eq_cases v (pos 0)) [
  | inl (t, e) ↦ absurd (ne e)
  | inr (f, _) ↦ rw f (omega arith)
]

pub without-set : (bounds : List ℤ) (n : ℕ) (v : ℤ) → n < length bounds → at bounds n ≡ pos 0 → v ≢ pos 0 →
    without (slice_set bounds n v) < without bounds
without-set [] n v h none some = absurd (omega arith)
without-set (u ∷ bounds) zero v h none some =
    let a = without_one u bounds none in let b = without_same v bounds some in omega arith
without-set (u ∷ bounds) (suc n) v h none some =
    let ih = without-set bounds n v (omega arith) none some in
    elim (int_eq_cases u (pos 0)) [
      | inl (_, e) ↦
          let a = without_one u bounds e in let b = without_one u (slice_set bounds n v) e in omega arith
      | inr (_, ne) ↦
          let a = without_same u bounds ne in let b = without_same u (slice_set bounds n v) ne in omega arith
    ]

pub without-none : (bounds : List ℤ) → without bounds ≡ 0 → (n : ℕ) → n < length bounds → at bounds n ≢ pos 0
without-none [] z n h e = absurd (omega arith)
without-none (u ∷ bounds) z zero h e = let a = without_one u bounds e in absurd (omega arith)
without-none (u ∷ bounds) z (suc n) h e =
    let a : without bounds ≡ 0 = elim (int_eq_cases u (pos 0)) [
      | inl (_, e) ↦ let a = without_one u bounds e in omega arith
      | inr (_, ne) ↦ let a = without_same u bounds ne in omega arith
    ] in
    without-none bounds a n (omega arith) e

pub without-most : (bounds : List ℤ) → without bounds ≤ length bounds
unfolding without
without-most [] = omega arith
without-most (u ∷ bounds) =
    let ih = without-most bounds in
    elim (int_eq_cases u (pos 0)) [
      | inl (_, e) ↦ let a = without_one u bounds e in omega arith
      | inr (_, ne) ↦ let a = without_same u bounds ne in omega arith
    ]

-- either fewer nets have no bound, or nothing changed and a fact holds
pub Falls : (List ℤ → Type 0) → List ℤ → List ℤ → Type 0
Falls Rests before after = (without after < without before) ⊎ ((after ≡ before) × Rests before)

pub moves-then : (A B C : List ℤ → Type 0) (before between after : List ℤ) → ((bounds : List ℤ) → A bounds → B bounds → C bounds) →
    Falls A before between → Falls B between after → Falls C before after
unfolding Falls
moves-then A B C before between after both (inl lt) (inl lt2) = inl (omega arith)
moves-then A B C before between after both (inl lt) (inr (e, b)) =
    let f : without after ≡ without between = ap without e in inl (omega arith)
moves-then A B C before between after both (inr (e, a)) (inl lt) =
    let f : without between ≡ without before = ap without e in inl (omega arith)
moves-then A B C before between after both (inr (e, a)) (inr (f, b)) = inr (f ∙ e, both before a (subst B e b))

pub taken-takes : (v : ℤ) (n : ℕ) (comes : ℤ) (bounds : List ℤ) → at bounds n ≡ pos 0 → comes ≡ v → take_level v n comes bounds ≡ slice_set bounds n v
unfolding take_level
taken-takes v n comes bounds none e =
    rw ((Decides-int_eq (at bounds n) (pos 0)).1 none, (Decides-int_eq comes v).1 e) refl

pub taken-stays : (v : ℤ) (n : ℕ) (comes : ℤ) (bounds : List ℤ) → (at bounds n ≡ pos 0 → comes ≢ v) → take_level v n comes bounds ≡ bounds
unfolding take_level
taken-stays v n comes bounds ne = elim (int_eq_cases (at bounds n) (pos 0)) [
  | inl (t, e) ↦ elim (int_eq_cases comes v) [
    | inl (_, e2) ↦ absurd (ne e e2)
    | inr (f, _) ↦ rw (t, f) refl
  ]
  | inr (f, _) ↦ rw f refl
]

module _ (side : Side) (switches : List Switch) (own : List ℤ) where
  -- net n takes no level v of what comes to it
  pub TakesNone : ℤ → ℕ → (List ℤ → ℤ) → List ℤ → Type 0
  TakesNone v n comes bounds = n < length own → at bounds n ≡ pos 0 → comes bounds ≢ v

  pub taken-moves : (r : ℕ) (v : ℤ) (n : ℕ) (comes : List ℤ → ℤ) (bounds : List ℤ) → IsDone side switches own (suc r) bounds →
      rank side v ≡ suc r → (comes bounds ≡ v → Offered side switches own bounds n v) →
      IsDone side switches own (suc r) (take_level v n (comes bounds) bounds) × Falls (TakesNone v n comes) bounds (take_level v n (comes bounds) bounds)
  unfolding Falls TakesNone
  taken-moves r v n comes bounds done level offered = elim (cases_lt n (length own)) [
    | inl lt ↦ elim (int_eq_cases (at bounds n) (pos 0)) [
      | inl (_, none) ↦ elim (int_eq_cases (comes bounds) v) [
        | inl (_, e) ↦ rw (taken-takes v n (comes bounds) bounds none e) (
          takes side switches own r bounds n v done level lt none (offered e),
          inl (without-set bounds n v (let k = done.nets in omega arith) none some),
        )
        | inr (_, ne) ↦ rw (taken-stays v n (comes bounds) bounds (λ _. ne)) (done, inr (refl, λ _ _. ne))
      ]
      | inr (_, there) ↦ rw (taken-stays v n (comes bounds) bounds (λ z. absurd (there z))) (done, inr (refl, λ _ z. absurd (there z)))
    ]
    | inr ge ↦ let same = past (let k = done.nets in omega arith) in rw same (done, inr (refl, λ lt. absurd (omega arith)))
  ]
    where
      some : v ≢ pos 0
      some e = let z = rank-none side in let f : rank side v ≡ rank side (pos 0) = ap (rank side) e in absurd (omega arith)

      past : length bounds ≤ n → take_level v n (comes bounds) bounds ≡ bounds
      past ge = elim (int_eq_cases (comes bounds) v) [
        | inl (_, e) ↦ taken-takes v n (comes bounds) bounds (get_or_past bounds n (pos 0) ge) e ∙ set_past bounds n v ge
        | inr (_, ne) ↦ taken-stays v n (comes bounds) bounds (λ _. ne)
      ]

  OwnIdle : ℤ → ℕ → List ℤ → Type 0
  OwnIdle v k bounds = (n : ℕ) → n < k → n < length own → at bounds n ≡ pos 0 → at own n ≢ v

  own-moves : (r : ℕ) (v : ℤ) (k : ℕ) (bounds : List ℤ) → IsDone side switches own (suc r) bounds → rank side v ≡ suc r →
      IsDone side switches own (suc r) (take_own v own k bounds) × Falls (OwnIdle v k) bounds (take_own v own k bounds)
  unfolding Falls OwnIdle TakesNone
  own-moves r v zero bounds done level = (done, inr (refl, λ n lt. absurd (omega arith)))
  own-moves r v (suc k) bounds done level =
      let before = own-moves r v k bounds done level in
      let next = taken-moves r v k (λ _. at own k) (take_own v own k bounds) before.0 level own_offers in
      (next.0, moves-then (OwnIdle v k) (TakesNone v k (λ _. at own k)) (OwnIdle v (suc k)) _ _ _ both before.1 next.1)
    where
      own_offers : at own k ≡ v → Offered side switches own (take_own v own k bounds) k v
      own_offers e = inl e

      both : (bounds : List ℤ) → OwnIdle v k bounds → TakesNone v k (λ _. at own k) bounds → OwnIdle v (suc k) bounds
      both bounds a b n lt inside none = elim (cases_eq n k) [
        | inl e ↦ λ f. b (subst (λ i. i < length own) e inside) (ap (at bounds) (sym e) ∙ none) (ap (at own) (sym e) ∙ f)
        | inr ne ↦ a n (omega arith) inside none
      ]

  CarriedIdle : ℤ → List Switch → List ℤ → Type 0
  CarriedIdle v part bounds =
      (link : Link) (conduct : Conduct) (m n : ℕ) → Contains part (link, conduct) → Joins link m n → n < length own
      → at bounds n ≡ pos 0 → carried_bound side link conduct (at bounds m) ≢ v

  carried-moves : (r : ℕ) (v : ℤ) (part : List Switch) → ((s : Switch) → Contains part s → Contains switches s) → (bounds : List ℤ) →
      IsDone side switches own (suc r) bounds → rank side v ≡ suc r →
      IsDone side switches own (suc r) (take_carried side v part bounds) × Falls (CarriedIdle v part) bounds (take_carried side v part bounds)
  unfolding Falls CarriedIdle TakesNone
  carried-moves r v [] inside bounds done level = (done, inr (refl, λ link conduct m n (k, lt, _). absurd (omega arith)))
  carried-moves r v ((link, conduct) ∷ part) inside bounds done level =
      let to : List ℤ → ℤ = λ b. carried_bound side link conduct (at b link.a) in
      let fro : List ℤ → ℤ = λ b. carried_bound side link conduct (at b link.b) in
      let first = taken-moves r v link.b to bounds done level (offers bounds link.a link.b (inl (refl, refl))) in
      let there = take_level v link.b (to bounds) bounds in
      let second = taken-moves r v link.a fro there first.0 level (offers there link.b link.a (inr (refl, refl))) in
      let back = take_level v link.a (fro there) there in
      let rest = carried-moves r v part (λ s h. inside s (Contains-append_right ((link, conduct) ∷ []) part s h)) back second.0 level in
      let two = moves-then (TakesNone v link.b to) (TakesNone v link.a fro)
      (λ b. TakesNone v link.b to b × TakesNone v link.a fro b) bounds there back (λ b x y. (x, y)) first.1 second.1 in
      (rest.0, moves-then (λ b. TakesNone v link.b to b × TakesNone v link.a fro b) (CarriedIdle v part) (CarriedIdle v ((link, conduct) ∷ part)) bounds back _ both two rest.1)
    where
      offers : (b : List ℤ) (m n : ℕ) → Joins link m n → carried_bound side link conduct (at b m) ≡ v → Offered side switches own b n v
      offers b m n joins e = inr (
        m,
        record {
          link = link;
          conduct = conduct;
          there = inside (link, conduct) (0, omega arith, refl);
          joins = joins;
          carries = e;
        },
      )

      here : (b : List ℤ) → TakesNone v link.b (λ b. carried_bound side link conduct (at b link.a)) b →
          TakesNone v link.a (λ b. carried_bound side link conduct (at b link.b)) b → (m n : ℕ) → n < length own → at b n ≡ pos 0 →
          Joins link m n → carried_bound side link conduct (at b m) ≢ v
      here b x y m n within none (inl (from, to)) f =
          x (subst (λ i. i < length own) (sym to) within) (ap (at b) to ∙ none) (ap (λ i. carried_bound side link conduct (at b i)) from ∙ f)
      here b x y m n within none (inr (to, from)) f =
          y (subst (λ i. i < length own) (sym to) within) (ap (at b) to ∙ none) (ap (λ i. carried_bound side link conduct (at b i)) from ∙ f)

      both : (b : List ℤ) → TakesNone v link.b (λ b. carried_bound side link conduct (at b link.a)) b × TakesNone v link.a (λ b. carried_bound side link conduct (at b link.b)) b →
          CarriedIdle v part b → CarriedIdle v ((link, conduct) ∷ part) b
      both b (x, y) z l c m n (zero, lt, e) joins within none =
          subst (λ (s : Switch). Joins s.0 m n → carried_bound side s.0 s.1 (at b m) ≢ v) e (here b x y m n within none) joins
      both b (x, y) z l c m n (suc k, lt, e) joins within none = z l c m n (k, omega arith, e) joins within none

  round : ℤ → List ℤ → List ℤ
  round v bounds = take_carried side v switches (take_own v own (length own) bounds)

  Idle : ℤ → List ℤ → Type 0
  Idle v bounds = IsIdle side switches own bounds v

  round-moves : (r : ℕ) (v : ℤ) (bounds : List ℤ) → IsDone side switches own (suc r) bounds → rank side v ≡ suc r →
      IsDone side switches own (suc r) (round v bounds) × Falls (Idle v) bounds (round v bounds)
  unfolding round Idle OwnIdle CarriedIdle
  round-moves r v bounds done level =
      let a = own-moves r v (length own) bounds done level in
      let b = carried-moves r v switches (λ s h. h) (take_own v own (length own) bounds) a.0 level in (
        b.0,
        moves-then (OwnIdle v (length own)) (CarriedIdle v switches) (λ b. IsIdle side switches own b v) _ _ _
            (λ bounds x y. record {
              owned = λ n lt none. x n lt lt none;
              brought = λ link conduct m n there joins within none. y link conduct m n there joins within none;
            })
            a.1 b.1,
      )

  rounds-stay : (v : ℤ) (k : ℕ) (bounds : List ℤ) → round v bounds ≡ bounds → rounds side v switches own k bounds ≡ bounds
  unfolding round
  rounds-stay v zero bounds e = refl
  rounds-stay v (suc k) bounds e = ap (rounds side v switches own k) e ∙ rounds-stay v k bounds e

  rounds-idle : (r : ℕ) (v : ℤ) (k : ℕ) (bounds : List ℤ) → without bounds ≤ k → IsDone side switches own (suc r) bounds → rank side v ≡ suc r →
      IsDone side switches own (suc r) (rounds side v switches own k bounds) × IsIdle side switches own (rounds side v switches own k bounds) v
  unfolding round Idle Falls
  rounds-idle r v zero bounds few done level = (
    done,
    record {
      owned = λ n lt none. absurd (without-none bounds (omega arith) n (let k = done.nets in omega arith) none);
      brought = λ link conduct m n there joins lt none. absurd (without-none bounds (omega arith) n (let k = done.nets in omega arith) none);
    },
  )
  rounds-idle r v (suc k) bounds few done level =
      let next = round-moves r v bounds done level in
      elim next.1 [
        | inl lt ↦ rounds-idle r v k (round v bounds) (omega arith) next.0 level
        | inr (e, idle) ↦ rw (rounds-stay v (suc k) bounds e) (done, idle)
      ]

  spread-done : (r : ℕ) (v : ℤ) (bounds : List ℤ) → IsDone side switches own (suc r) bounds → rank side v ≡ suc r →
      IsDone side switches own r (spread side v switches own bounds)
  unfolding spread
  spread-done r v bounds done level =
      let m = without-most bounds in
      let n = done.nets in
      let both = rounds-idle r v (length own) bounds (omega arith) done level in
      finishes side switches own r _ v both.0 level both.1

  spread_from-done : (k : ℕ) (bounds : List ℤ) → IsDone side switches own (2 * k) bounds →
      IsDone side switches own 0 (spread_from side switches own k bounds)
  unfolding spread_from
  spread_from-done zero bounds done = done
  spread_from-done (suc k) bounds done =
      let e : 2 * suc k ≡ suc (suc (2 * k)) = omega arith in
      let f = rank-favoured_level side (suc k) in
      let o = rank-opposed_level side (suc k) (omega arith) in
      let d = rw e at done in
      let first = spread-done (suc (2 * k)) (favoured_level side (suc k)) bounds d (omega arith) in
      spread_from-done k _ (spread-done (2 * k) (opposed_level side (suc k)) _ first (omega arith))

  -- settling by levels gives finished bounds
  pub settled_bounds-settled : ((n : ℕ) → rank side (at own n) ≤ 14) → IsSettled side switches own (settled_bounds side switches own)
  unfolding settled_bounds
  settled_bounds-settled own_most =
      settles side switches own _ (spread_from-done 7 _ (starts side switches own 14 own_most _ (length-replicate (length own) (pos 0)) none))
    where
      none : (n : ℕ) → at (replicate (length own) (pos 0)) n ≡ pos 0
      none n = elim (cases_lt n (length own)) [
        | inl lt ↦ get_or-replicate (length own) n (pos 0) (pos 0) lt
        | inr ge ↦ get_or_past (replicate (length own) (pos 0)) n (pos 0) (rw length-replicate (omega arith))
      ]
