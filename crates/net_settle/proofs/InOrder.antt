-- A finished lower bound is at most the finished upper bound.
use Rattle.std.proofs.Common.{◌≡◌, ◌≢◌, ℕ, zero, suc, ◌+◌, ◌*◌, ◌<◌, ◌≤◌, Bool, true, false, cond, List, length, refl, ap, sym, ◌∙◌, subst, arith, inl, inr}
use Rattle.std.specs.Prelude.{ℤ, pos, negsuc, ◌≤ℤ◌, ◌⊎◌, unsigned_abs, int_lt}
use Rattle.std.proofs.lemmas.Int.{ints}
use Rattle.std.proofs.lemmas.Bool.{cases_Bool}
use Rattle.level_range.specs.declared.range.Conduct.{Conduct}
use Rattle.level_range.specs.declared.range.Conduct.TheVariants.{On, Off, Unknown}
use Rattle.level_range.specs.Reduce.{reduced_level}
use Rattle.level_range.proofs.Reduction.{reduced_level-monotone, reduced_level-weaker}
use Rattle.net_settle.specs.declared.shape.Link.{Link}
use Rattle.net_settle.specs.declared.side.Side.{Side}
use Rattle.net_settle.specs.declared.side.Side.TheVariants.{Lower, Upper}
use Rattle.net_settle.specs.Bounds.{Switch, at, carried_bound, is_favoured}
use Rattle.net_settle.specs.Settling.{IsWalk, IsSettled}
use Rattle.net_settle.specs.Progress.{rank, low_rank, high_rank}
use Rattle.net_settle.proofs.Walks.{settled-most, bounds-most, has_net}

-- one side and the other
data Opposite : Side → Side → Type 0 where
  low : Opposite Lower Upper
  high : Opposite Upper Lower

-- a bound of the first side and one of the other are in order
abbrev Before : Side → ℤ → ℤ → Type 0
Before Lower x y = x ≤ℤ y
Before Upper x y = y ≤ℤ x

turn : {σ τ : Side} → Opposite σ τ → Opposite τ σ
turn low = high
turn high = low

turned : {σ τ : Side} → Opposite σ τ → (x y : ℤ) → Before τ y x → Before σ x y
turned low x y h = h
turned high x y h = h

above_none : (n : ℕ) → int_lt (pos 0) (pos (suc n)) ≡ true
above_none n = grind (arith, ints)

-- a bound that is no worse than one on the right side of w is there too, or is stronger and of the other sign
better_before : {σ τ : Side} → Opposite σ τ → (v w u : ℤ) → is_favoured σ w ≡ true → Before σ u w → rank σ u ≤ rank σ v →
    Before σ v w ⊎ ((is_favoured τ v ≡ true) × (unsigned_abs w < unsigned_abs v))
better_before low (pos zero) w u sign before le = absurd (lower_none w u sign before le)
  where
    lower_none : (w u : ℤ) → int_lt w (pos 0) ≡ true → u ≤ℤ w → low_rank u ≤ 0 → ⊥
    lower_none (pos n) u sign before le = grind (arith, ints)
    lower_none (negsuc n) (pos m) sign before le = grind (arith, ints)
    lower_none (negsuc n) (negsuc m) sign before le = omega arith
better_before low (pos (suc n)) w u sign before le = inr (above_none n, stronger n w u sign before le)
  where
    stronger : (n : ℕ) (w u : ℤ) → int_lt w (pos 0) ≡ true → u ≤ℤ w → low_rank u ≤ 2 * n + 1 → unsigned_abs w < suc n
    stronger n (pos k) u sign before le = grind (arith, ints)
    stronger n (negsuc k) (pos m) sign before le = grind (arith, ints)
    stronger n (negsuc k) (negsuc m) sign before le = let h : k ≤ m = omega (arith, ints) in omega arith
better_before low (negsuc n) w u sign before le = inl (less n w u sign before le)
  where
    less : (n : ℕ) (w u : ℤ) → int_lt w (pos 0) ≡ true → u ≤ℤ w → low_rank u ≤ 2 * n + 2 → negsuc n ≤ℤ w
    less n (pos k) u sign before le = grind (arith, ints)
    less n (negsuc k) (pos m) sign before le = grind (arith, ints)
    less n (negsuc k) (negsuc m) sign before le = let h : k ≤ m = omega (arith, ints) in omega (arith, ints)
better_before high (pos zero) w u sign before le = absurd (upper_none w u sign before le)
  where
    upper_none : (w u : ℤ) → int_lt (pos 0) w ≡ true → w ≤ℤ u → high_rank u ≤ 0 → ⊥
    upper_none (pos zero) u sign before le = grind (arith, ints)
    upper_none (pos (suc n)) (pos zero) sign before le = grind (arith, ints)
    upper_none (pos (suc n)) (pos (suc m)) sign before le = omega arith
    upper_none (pos (suc n)) (negsuc m) sign before le = grind (arith, ints)
    upper_none (negsuc n) u sign before le = grind (arith, ints)
better_before high (pos (suc n)) w u sign before le = inl (less n w u sign before le)
  where
    less : (n : ℕ) (w u : ℤ) → int_lt (pos 0) w ≡ true → w ≤ℤ u → high_rank u ≤ 2 * n + 2 → w ≤ℤ pos (suc n)
    less n (pos zero) u sign before le = grind (arith, ints)
    less n (pos (suc k)) (pos zero) sign before le = grind (arith, ints)
    less n (pos (suc k)) (pos (suc m)) sign before le = let h : k ≤ m = omega (arith, ints) in omega (arith, ints)
    less n (pos (suc k)) (negsuc m) sign before le = grind (arith, ints)
    less n (negsuc k) u sign before le = grind (arith, ints)
better_before high (negsuc n) w u sign before le = inr (refl, stronger n w u sign before le)
  where
    stronger : (n : ℕ) (w u : ℤ) → int_lt (pos 0) w ≡ true → w ≤ℤ u → high_rank u ≤ 2 * n + 1 → unsigned_abs w < suc n
    stronger n (pos zero) u sign before le = grind (arith, ints)
    stronger n (pos (suc k)) (pos zero) sign before le = grind (arith, ints)
    stronger n (pos (suc k)) (pos (suc m)) sign before le = let h : k ≤ m = omega (arith, ints) in omega arith
    stronger n (pos (suc k)) (negsuc m) sign before le = grind (arith, ints)
    stronger n (negsuc k) u sign before le = grind (arith, ints)

-- a switch that carries a bound of the other sign conducts
reduced-sign : (side : Side) (resistive : Bool) (u : ℤ) → is_favoured side (reduced_level resistive u) ≡ true → is_favoured side u ≡ true
unfolding reduced_level
reduced-sign Lower resistive (pos n) sign = grind (arith, ints)
reduced-sign Lower resistive (negsuc n) sign = refl
reduced-sign Upper resistive (pos zero) sign = elim (cases_Bool resistive) [
  | inl e ↦ rw e at sign
  | inr e ↦ rw e at sign
]
reduced-sign Upper resistive (pos (suc n)) sign = above_none n
reduced-sign Upper true (negsuc n) sign = grind (arith, ints)
reduced-sign Upper false (negsuc n) sign = grind (arith, ints)

none_favoured : (side : Side) → is_favoured side (pos 0) ≡ false
none_favoured Lower = refl
none_favoured Upper = refl

not_both : {σ τ : Side} → Opposite σ τ → (v : ℤ) → is_favoured σ v ≡ true → is_favoured τ v ≡ true → ⊥
not_both low v a b = grind (arith, ints)
not_both high v a b = grind (arith, ints)

conducts : {σ τ : Side} → Opposite σ τ → (link : Link) (conduct : Conduct) (u w : ℤ) → carried_bound τ link conduct u ≡ w → is_favoured σ w ≡ true →
    (conduct ≡ On) × (w ≡ reduced_level link.resistive u) × (is_favoured σ u ≡ true) × (unsigned_abs w ≤ unsigned_abs u)
conducts {σ} o link On u w e sign =
    let s = subst (λ (x : ℤ). is_favoured σ x ≡ true) (sym e) sign in
    (refl, sym e, reduced-sign σ link.resistive u s, subst (λ (x : ℤ). unsigned_abs x ≤ unsigned_abs u) e (reduced_level-weaker link.resistive u))
conducts {σ} o link Off u w e sign =
    let s = subst (λ (x : ℤ). is_favoured σ x ≡ true) (sym e) sign in
    absurd (let z = none_favoured σ in cc)
conducts {σ} {τ} o link Unknown u w e sign = elim (cases_Bool (is_favoured τ u)) [
  | inl t ↦
      let f : w ≡ reduced_level link.resistive u = sym e ∙ ap (λ b. cond b (reduced_level link.resistive u) (pos 0)) t in
      let s = subst (λ (x : ℤ). is_favoured σ x ≡ true) f sign in
      absurd (not_both o u (reduced-sign σ link.resistive u s) t)
  | inr t ↦
      let f : w ≡ pos 0 = sym e ∙ ap (λ b. cond b (reduced_level link.resistive u) (pos 0)) t in
      let s = subst (λ (x : ℤ). is_favoured σ x ≡ true) f sign in
      absurd (let z = none_favoured σ in cc)
]

reduced-before : (side : Side) (resistive : Bool) (x y : ℤ) → Before side x y → Before side (reduced_level resistive x) (reduced_level resistive y)
reduced-before Lower resistive x y h = reduced_level-monotone resistive x y h
reduced-before Upper resistive x y h = reduced_level-monotone resistive y x h

favoured_some : (side : Side) (v : ℤ) → is_favoured side v ≡ true → v ≢ pos 0
favoured_some side v sign e = let f = ap (is_favoured side) e in let z = none_favoured side in cc

strength-most : (side : Side) (v : ℤ) → rank side v ≤ 14 → unsigned_abs v ≤ 7
strength-most Lower (pos zero) h = omega arith
strength-most Lower (pos (suc n)) h = omega arith
strength-most Lower (negsuc n) h = omega arith
strength-most Upper (pos zero) h = omega arith
strength-most Upper (pos (suc n)) h = omega arith
strength-most Upper (negsuc n) h = omega arith

module _ (switches : List Switch) (own bounds : Side → List ℤ) (nets : ℕ)
    (same_nets : (side : Side) → length (own side) ≡ nets)
    (own_most : (side : Side) (n : ℕ) → rank side (at (own side) n) ≤ 14)
    (ordered : (n : ℕ) → at (own Lower) n ≤ℤ at (own Upper) n)
    (settled : (side : Side) → IsSettled side switches (own side) (bounds side)) where
  own-before : {σ τ : Side} → Opposite σ τ → (n : ℕ) → Before σ (at (own σ) n) (at (own τ) n)
  own-before low n = ordered n
  own-before high n = ordered n

  Claim : ℕ → Type 0
  Claim q =
      (σ τ : Side) → Opposite σ τ → (n : ℕ) → is_favoured σ (at (bounds τ) n) ≡ true → q ≤ unsigned_abs (at (bounds τ) n)
      → Before σ (at (bounds σ) n) (at (bounds τ) n)

  claim_at : (q : ℕ) → Claim (suc q) → {σ τ : Side} → Opposite σ τ → (n : ℕ) → is_favoured σ (at (bounds τ) n) ≡ true →
      q ≤ unsigned_abs (at (bounds τ) n) → (u : ℤ) → Before σ u (at (bounds τ) n) → rank σ u ≤ rank σ (at (bounds σ) n) →
      Before σ (at (bounds σ) n) (at (bounds τ) n)
  unfolding Claim
  claim_at q next {σ} {τ} o n sign strong u before le = elim (better_before o (at (bounds σ) n) (at (bounds τ) n) u sign before le) [
    | inl done ↦ done
    | inr (other, stronger) ↦ turned o _ _ (next τ σ (turn o) n other (omega arith))
  ]

  inside : {σ τ : Side} → Opposite σ τ → (n : ℕ) → is_favoured σ (at (bounds τ) n) ≡ true → n < length (own σ)
  inside {σ} {τ} o n sign =
      let h = has_net τ switches (own τ) (bounds τ) (settled τ).nets n (favoured_some σ (at (bounds τ) n) sign) in
      let a = same_nets σ in let b = same_nets τ in omega arith

  along : (q : ℕ) → Claim (suc q) → {σ τ : Side} → Opposite σ τ → (steps n : ℕ) → is_favoured σ (at (bounds τ) n) ≡ true →
      q ≤ unsigned_abs (at (bounds τ) n) → IsWalk τ switches (own τ) (bounds τ) steps n →
      Before σ (at (bounds σ) n) (at (bounds τ) n)
  along q next {σ} {τ} o zero n sign strong e =
      claim_at q next o n sign strong (at (own σ) n)
      (subst (λ (x : ℤ). Before σ (at (own σ) n) x) (sym e) (own-before o n))
      (settled-most σ switches (own σ) (bounds σ) (settled σ) n (inside o n sign) (at (own σ) n) (inr (inl refl)))
  along q next {σ} {τ} o (suc steps) n sign strong (m, brings, walk) =
      let c = conducts o brings.link brings.conduct (at (bounds τ) m) (at (bounds τ) n) brings.carries sign in
      let ih = along q next o steps m c.2 (let s = c.3 in omega arith) walk in
      claim_at q next o n sign strong (reduced_level brings.link.resistive (at (bounds σ) m))
      (subst (λ (x : ℤ). Before σ (reduced_level brings.link.resistive (at (bounds σ) m)) x) (sym c.1) (reduced-before σ brings.link.resistive _ _ ih))
      (settled-most σ switches (own σ) (bounds σ) (settled σ) n (inside o n sign) _ (inr (inr (
        m,
        record {
          link = brings.link;
          conduct = brings.conduct;
          there = brings.there;
          joins = brings.joins;
          carries = ap (λ (k : Conduct). carried_bound σ brings.link k (at (bounds σ) m)) c.0;
        },
      ))))

  claims : (k q : ℕ) → q + k ≡ 8 → Claim q
  unfolding Claim
  claims zero q e σ τ o n sign strong =
      let h = strength-most τ (at (bounds τ) n) (bounds-most τ switches (own τ) 14 (own_most τ) (bounds τ) (settled τ) n) in
      absurd (omega arith)
  claims (suc k) q e σ τ o n sign strong =
      let within = has_net τ switches (own τ) (bounds τ) (settled τ).nets n (favoured_some σ (at (bounds τ) n) sign) in
      let walk = (settled τ).source n within (favoured_some σ (at (bounds τ) n) sign) in
      along q (claims k (suc q) (omega arith)) o walk.0 n sign strong walk.1

  pub in_order : (n : ℕ) → at (bounds Lower) n ≤ℤ at (bounds Upper) n
  unfolding Claim
  in_order n = elim (cases_Bool (int_lt (at (bounds Upper) n) (pos 0))) [
    | inl e ↦ claims 8 0 (omega arith) Lower Upper low n e (omega arith)
    | inr e ↦ elim (cases_Bool (int_lt (pos 0) (at (bounds Lower) n))) [
      | inl f ↦ claims 8 0 (omega arith) Upper Lower high n f (omega arith)
      | inr f ↦ between (at (bounds Lower) n) (at (bounds Upper) n) e f
    ]
  ]
    where
      between : (x y : ℤ) → int_lt y (pos 0) ≡ false → int_lt (pos 0) x ≡ false → x ≤ℤ y
      between x y e f = grind (arith, ints)
