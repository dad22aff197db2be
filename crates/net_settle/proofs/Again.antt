-- Bounds that settled with charges settle again with what is left of the charges.
use Rattle.std.proofs.Common.{◌≡◌, ℕ, zero, suc, ◌+◌, ◌*◌, ◌<◌, ◌≤◌, List, length, refl, ap, sym, ◌∙◌, subst, arith, inl, inr}
use Rattle.std.specs.Prelude.{ℤ, pos, ◌⊎◌, int_lt}
use Rattle.std.proofs.lemmas.Int.{ints}
use Rattle.std.proofs.lemmas.Bool.{cases_lt, cases_Bool}
use Rattle.level_range.specs.Signal.{negative_level}
use Rattle.level_range.proofs.Better.{lower, upper}
use Rattle.net_settle.specs.declared.side.Side.{Side}
use Rattle.net_settle.specs.declared.side.Side.TheVariants.{Lower, Upper}
use Rattle.net_settle.specs.Bounds.{Switch, at, better, favoured_level, opposed_level}
use Rattle.net_settle.specs.Settling.{IsWalk, IsSettled}
use Rattle.net_settle.specs.Charges.{charge_bound}
use Rattle.net_settle.specs.Progress.{rank}
use Rattle.net_settle.proofs.Ranks.{Signed, signed, none, first, second, rank-none, rank-favoured_level, rank-opposed_level, better-from_rank}

-- bounds stay finished for other own bounds that are no better, and that are the same where the bound is the own one
module _ (side : Side) (switches : List Switch) (own next bounds : List ℤ)
    (same_nets : length next ≡ length own)
    (settled : IsSettled side switches own bounds)
    (weaker : (n : ℕ) → rank side (at next n) ≤ rank side (at bounds n))
    (kept : (n : ℕ) → at bounds n ≡ at own n → at bounds n ≡ at next n) where
  walks : (steps n : ℕ) → IsWalk side switches own bounds steps n → IsWalk side switches next bounds steps n
  walks zero n e = kept n e
  walks (suc steps) n (m, brings, walk) = (m, brings, walks steps m walk)

  pub settled-again : IsSettled side switches next bounds
  settled-again = record {
    nets = settled.nets ∙ sym same_nets;
    best = λ n inside. record {
      comes = elim (settled.best n (omega arith)).comes [
        | inl e ↦ inl e
        | inr more ↦ elim more [ inl e ↦ inr (inl (kept n e)) | inr brings ↦ inr (inr brings) ]
      ];
      none_better = λ u comes. elim comes [
        | inl e ↦ (settled.best n (omega arith)).none_better u (inl e)
        | inr more ↦ elim more [
          | inl e ↦ better-from_rank side u (at bounds n) (subst (λ (x : ℤ). rank side x ≤ rank side (at bounds n)) (sym e) (weaker n))
          | inr brings ↦ (settled.best n (omega arith)).none_better u (inr (inr brings))
        ]
      ];
    };
    source = λ n inside some.
        let walk = settled.source n (omega arith) some in
        (walk.0, walks walk.0 n walk.1);
  }

better-comm : (side : Side) (x y : ℤ) → better side x y ≡ better side y x
better-comm Lower x y = lower.comm x y
better-comm Upper x y = upper.comm x y

better-left : (side : Side) (x y : ℤ) → rank side y ≤ rank side x → better side x y ≡ x
better-left side x y h = better-comm side x y ∙ better-from_rank side y x h

better-left_most : (side : Side) (x y : ℤ) → rank side x ≤ rank side (better side x y)
better-left_most side x y = elim (cases_lt (rank side x) (rank side y)) [
  | inl lt ↦ let f : rank side (better side x y) ≡ rank side y = ap (rank side) (better-from_rank side x y (omega arith)) in omega arith
  | inr ge ↦ let f : rank side (better side x y) ≡ rank side x = ap (rank side) (better-left side x y ge) in omega arith
]

better-right_most : (side : Side) (x y : ℤ) → rank side y ≤ rank side (better side x y)
better-right_most side x y = subst (λ (v : ℤ). rank side y ≤ rank side v) (better-comm side y x) (better-left_most side y x)

-- one of the levels of a charge
abbrev pub IsSign : ℕ → ℤ → Type 0
IsSign c v = (v ≡ negative_level c) ⊎ (v ≡ pos c)

sign-rank : (side : Side) (c : ℕ) (k : ℤ) → 0 < c → IsSign c k → 2 * c ≤ rank side k + 1
sign-rank Lower c k some (inl e) = let f = ap (rank Lower) e in let g = rank-favoured_level Lower c in omega arith
sign-rank Lower c k some (inr e) = let f = ap (rank Lower) e in let g = rank-opposed_level Lower c some in omega arith
sign-rank Upper c k some (inl e) = let f = ap (rank Upper) e in let g = rank-opposed_level Upper c some in omega arith
sign-rank Upper c k some (inr e) = let f = ap (rank Upper) e in let g = rank-favoured_level Upper c in omega arith

charge_bound-favoured_level : (side : Side) (c n : ℕ) → charge_bound c (favoured_level side (suc n)) ≡ favoured_level side c
charge_bound-favoured_level Lower c n = refl
charge_bound-favoured_level Upper c n = elim (cases_Bool (int_lt (pos (suc n)) (pos 0))) [
  | inl e ↦ absurd (grind (arith, ints))
  | inr e ↦ rw e refl
]

charge_bound-opposed_level : (side : Side) (c n : ℕ) → charge_bound c (opposed_level side (suc n)) ≡ opposed_level side c
charge_bound-opposed_level Lower c n = charge_bound-favoured_level Upper c n
charge_bound-opposed_level Upper c n = refl

pub charge_bound-sign : (c : ℕ) (k : ℤ) → 0 < c → IsSign c k → charge_bound c k ≡ k
charge_bound-sign zero k some is = absurd (omega arith)
charge_bound-sign (suc c) k some (inl e) = rw e (charge_bound-favoured_level Lower (suc c) c)
charge_bound-sign (suc c) k some (inr e) = rw e (charge_bound-favoured_level Upper (suc c) c)

charge_bound-rank : (side : Side) (c : ℕ) (k b : ℤ) → 0 < c → IsSign c k → rank side k ≤ rank side b → rank side (charge_bound c b) ≤ rank side b
charge_bound-rank side c k b some is le = by_sign side c k b (signed side b) some is le
  where
    by_sign : (side : Side) (c : ℕ) (k b : ℤ) → Signed side b → 0 < c → IsSign c k → rank side k ≤ rank side b → rank side (charge_bound c b) ≤ rank side b
    by_sign side c k _ none some is le =
        let s = sign-rank side c k some is in let z = rank-none side in absurd (omega arith)
    by_sign side c k _ (first n) some is le =
        let s = sign-rank side c k some is in
        let a = rank-favoured_level side (suc n) in
        let b = rank-favoured_level side c in
        rw (charge_bound-favoured_level side c n) (omega arith)
    by_sign side c k _ (second n) some is le =
        let s = sign-rank side c k some is in
        let a = rank-opposed_level side (suc n) (omega arith) in
        let b = rank-opposed_level side c some in
        rw (charge_bound-opposed_level side c n) (omega arith)

-- on a plain net: what is left of a charge is no better than the bound that its own bound and the charge settled to
pub again_better : (side : Side) (c : ℕ) (o k b : ℤ) → 0 < c → IsSign c k → rank side (better side o k) ≤ rank side b →
    (rank side (better side o (charge_bound c b)) ≤ rank side b) × (b ≡ better side o k → b ≡ better side o (charge_bound c b))
again_better side c o k b some is le =
    let ro = better-left_most side o k in
    let rk = better-right_most side o k in
    let left = charge_bound-rank side c k b some is (omega arith) in (
      elim (cases_lt (rank side o) (rank side (charge_bound c b))) [
        | inl lt ↦
            let f : rank side (better side o (charge_bound c b)) ≡ rank side (charge_bound c b) = ap (rank side) (better-from_rank side o (charge_bound c b) (omega arith)) in
            omega arith
        | inr ge ↦
            let f : rank side (better side o (charge_bound c b)) ≡ rank side o = ap (rank side) (better-left side o (charge_bound c b) ge) in
            omega arith
      ],
      λ e. elim (cases_lt (rank side o) (rank side k)) [
        | inl lt ↦
            let bk : b ≡ k = e ∙ better-from_rank side o k (omega arith) in
            let same : charge_bound c b ≡ k = ap (charge_bound c) bk ∙ charge_bound-sign c k some is in
            e ∙ ap (better side o) (sym same)
        | inr ge ↦
            let bo : b ≡ o = e ∙ better-left side o k ge in
            let f : rank side b ≡ rank side o = ap (rank side) bo in
            bo ∙ sym (better-left side o (charge_bound c b) (omega arith))
      ],
    )
