-- The combination of a list, by bounds.
use Rattle.std.specs.Prelude.{◌≡◌, ◌⊎◌, ℤ, pos, ◌≤ℤ◌, List, [], ◌∷◌, ◌++◌, map, fold, refl}
use Rattle.std.specs.List.{All}
use Rattle.std.specs.List.Sorted.{IsPermutation}
use Rattle.std.proofs.Common.{arith, ap, sym, ◌∙◌, inl, inr, subst, append_assoc, append-nil}
use Rattle.std.proofs.lemmas.Int.{ints}
use Rattle.std.proofs.lemmas.List.{map-append}
use Rattle.std.proofs.lemmas.List.Elements.{All-cons, All-head, All-tail, All-append}
use Rattle.std.proofs.lemmas.List.Sorted.{IsPermutation-refl, IsPermutation-map, All-permutation}
use Rattle.level_range.specs.declared.range.Kind.{Kind}
use Rattle.level_range.specs.declared.range.Kind.TheVariants.{Plain, And, Or}
use Rattle.level_range.specs.Signal.{Signal, undriven, IsSignal}
use Rattle.level_range.specs.Levels.{IsFilled}
use Rattle.level_range.specs.Combine.{IsChoice, Wins, Gives, Combined, IsCombination, better_low, better_high, lower_of, upper_of, join_of, combination_of, CombinationLaw}
use Rattle.level_range.proofs.Better.{IsBetter, lower, upper}
use Rattle.level_range.proofs.Best.{best, best-append, best-wins, best-first, best-permutation}

abbrev pub los : List Signal → List ℤ
los signals = map (λ s. s.lo) signals

abbrev pub his : List Signal → List ℤ
his signals = map (λ s. s.hi) signals

-- the bounds of a list of signals
abbrev pub bounds_of : Kind → List Signal → Signal
bounds_of kind signals = record { lo = best (lower_of kind) (los signals); hi = best (upper_of kind) (his signals) }

pub antisym : (x y : ℤ) → x ≤ℤ y → y ≤ℤ x → x ≡ y
antisym x y h k = omega (arith, ints)

pub trans : (x y z : ℤ) → x ≤ℤ y → y ≤ℤ z → x ≤ℤ z
trans x y z h k = omega (arith, ints)

pub self : (x : ℤ) → x ≤ℤ x
self x = omega (arith, ints)

-- what a choice gives is what lies between its best levels
gives-from : (kind : Kind) (levels : List ℤ) (v : ℤ) →
    best (lower_of kind) levels ≤ℤ v → v ≤ℤ best (upper_of kind) levels → Gives kind levels v
gives-from Plain levels v h k =
    (_, _, best-wins better_low _ lower levels, best-wins better_high _ upper levels, h, k)
gives-from And levels v h k = (
  subst (Wins levels) (antisym _ _ h k) (best-wins better_low _ lower levels),
  λ w wins. trans _ _ _ k (best-first better_low _ lower levels w wins),
)
gives-from Or levels v h k = (
  subst (Wins levels) (antisym _ _ h k) (best-wins better_high _ upper levels),
  λ u wins. trans _ _ _ (best-first better_high _ upper levels u wins) h,
)

gives-low : (kind : Kind) (levels : List ℤ) (v : ℤ) → Gives kind levels v → best (lower_of kind) levels ≤ℤ v
gives-low Plain levels v g = trans _ _ _ (best-first better_low _ lower levels g.0 g.2) g.4
gives-low And levels v g = best-first better_low _ lower levels v g.0
gives-low Or levels v g = g.1 _ (best-wins better_high _ upper levels)

gives-high : (kind : Kind) (levels : List ℤ) (v : ℤ) → Gives kind levels v → v ≤ℤ best (upper_of kind) levels
gives-high Plain levels v g = trans _ _ _ g.5 (best-first better_high _ upper levels g.1 g.3)
gives-high And levels v g = g.1 _ (best-wins better_low _ lower levels)
gives-high Or levels v g = best-first better_high _ upper levels v g.0

low-high : (kind : Kind) (levels : List ℤ) → best (lower_of kind) levels ≤ℤ best (upper_of kind) levels
low-high Plain levels = best-first better_low _ lower levels _ (best-wins better_high _ upper levels)
low-high And levels = self _
low-high Or levels = self _

-- a better bound of levels that are higher is higher
module _ (better : ℤ → ℤ → ℤ) (Before : ℤ → ℤ → Type 0) (law : IsBetter better Before) where
  monotone_both : (x y u v : ℤ) → x ≤ℤ u → y ≤ℤ v → better x y ≤ℤ better u v
  monotone_both x y u v h k =
      trans _ _ _ (law.monotone x u y h) (rw (law.comm u y, law.comm u v) (law.monotone y v u k))

  best-los : (signals : List Signal) (levels : List ℤ) → IsChoice signals levels → best better (los signals) ≤ℤ best better levels
  best-los [] [] h = self _
  best-los [] (_ ∷ _) h = absurd h
  best-los (_ ∷ _) [] h = absurd h
  best-los (s ∷ signals) (v ∷ levels) h = monotone_both _ _ _ _ h.0.from_lo (best-los signals levels h.1)

  best-his : (signals : List Signal) (levels : List ℤ) → IsChoice signals levels → best better levels ≤ℤ best better (his signals)
  best-his [] [] h = self _
  best-his [] (_ ∷ _) h = absurd h
  best-his (_ ∷ _) [] h = absurd h
  best-his (s ∷ signals) (v ∷ levels) h = monotone_both _ _ _ _ h.0.to_hi (best-his signals levels h.1)

low-los : (kind : Kind) (signals : List Signal) (levels : List ℤ) → IsChoice signals levels →
    best (lower_of kind) (los signals) ≤ℤ best (lower_of kind) levels
low-los Plain signals levels h = best-los better_low _ lower signals levels h
low-los And signals levels h = best-los better_low _ lower signals levels h
low-los Or signals levels h = best-los better_high _ upper signals levels h

high-his : (kind : Kind) (signals : List Signal) (levels : List ℤ) → IsChoice signals levels →
    best (upper_of kind) levels ≤ℤ best (upper_of kind) (his signals)
high-his Plain signals levels h = best-his better_high _ upper signals levels h
high-his And signals levels h = best-his better_low _ lower signals levels h
high-his Or signals levels h = best-his better_high _ upper signals levels h

-- a signal that has a level
abbrev pub HasSome : Signal → Type 0
HasSome s = s.lo ≤ℤ s.hi

choice-los : (signals : List Signal) → All HasSome signals → IsChoice signals (los signals)
choice-los [] h = tt
choice-los (s ∷ signals) h =
    (record { from_lo = self _; to_hi = All-head HasSome s signals h }, choice-los signals (All-tail HasSome s signals h))

choice-his : (signals : List Signal) → All HasSome signals → IsChoice signals (his signals)
choice-his [] h = tt
choice-his (s ∷ signals) h =
    (record { from_lo = All-head HasSome s signals h; to_hi = self _ }, choice-his signals (All-tail HasSome s signals h))

pub bounds_of-is : (kind : Kind) (signals : List Signal) → All HasSome signals → IsCombination kind signals (bounds_of kind signals)
unfolding IsCombination
bounds_of-is kind signals some v = (
  λ h. (
    (_, (los signals, choice-los signals some, gives-from kind (los signals) _ (self _) (low-high kind (los signals))), h.from_lo),
    (_, (his signals, choice-his signals some, gives-from kind (his signals) _ (low-high kind (his signals)) (self _)), h.to_hi),
  ),
  λ f. record {
    from_lo = trans _ _ _ (low-los kind signals f.0.1.0 f.0.1.1) (trans _ _ _ (gives-low kind f.0.1.0 _ f.0.1.2) f.0.2);
    to_hi = trans _ _ _ f.1.2 (trans _ _ _ (gives-high kind f.1.1.0 _ f.1.1.2) (high-his kind signals f.1.1.0 f.1.1.1));
  },
)

-- signals with the same bounds are equal
pub bounds-equal : (s t : Signal) → s.lo ≡ t.lo → s.hi ≡ t.hi → s ≡ t
bounds-equal s t e f =
    ap (λ v. record s { lo = v }) e ∙ ap (λ v. record t { hi = v }) f

-- a set with its gaps filled is one signal
pub IsFilled-unique : (S : ℤ → Type 0) (s t : Signal) → HasSome s → HasSome t → IsFilled S s → IsFilled S t → s ≡ t
IsFilled-unique S s t some_s some_t is_s is_t =
    let low_s = (is_t s.lo).1 ((is_s s.lo).0 (record { from_lo = self _; to_hi = some_s })) in
    let low_t = (is_s t.lo).1 ((is_t t.lo).0 (record { from_lo = self _; to_hi = some_t })) in
    let high_s = (is_t s.hi).1 ((is_s s.hi).0 (record { from_lo = some_s; to_hi = self _ })) in
    let high_t = (is_s t.hi).1 ((is_t t.hi).0 (record { from_lo = some_t; to_hi = self _ })) in
    bounds-equal s t (antisym _ _ low_t.from_lo low_s.from_lo) (antisym _ _ high_s.to_hi high_t.to_hi)

-- signals that have a combination have levels
choice-some : (signals : List Signal) (levels : List ℤ) → IsChoice signals levels → All HasSome signals
choice-some [] levels h = λ k d lt. absurd (omega (arith, lt))
choice-some (_ ∷ _) [] h = absurd h
choice-some (s ∷ signals) (v ∷ levels) h =
    All-cons HasSome s signals (trans _ _ _ h.0.from_lo h.0.to_hi) (choice-some signals levels h.1)

pub IsCombination-some : (kind : Kind) (signals : List Signal) (s : Signal) → HasSome s → IsCombination kind signals s → All HasSome signals
unfolding IsCombination
IsCombination-some kind signals s some is =
    let given = (is s.lo).0 (record { from_lo = self _; to_hi = some }) in
    choice-some signals given.0.1.0 given.0.1.1

bounds_of-some : (kind : Kind) (signals : List Signal) → All HasSome signals → HasSome (bounds_of kind signals)
bounds_of-some kind signals some =
    trans _ _ _ (low-los kind signals (his signals) (choice-his signals some)) (low-high kind (his signals))

pub IsCombination-bounds : (kind : Kind) (signals : List Signal) (s : Signal) → HasSome s → IsCombination kind signals s → s ≡ bounds_of kind signals
unfolding IsCombination
IsCombination-bounds kind signals s some is =
    let all = IsCombination-some kind signals s some is in
    IsFilled-unique (Combined kind signals) s (bounds_of kind signals) some (bounds_of-some kind signals all) is (bounds_of-is kind signals all)

-- a better bound of two lists, and of a list in another order
module _ (better : ℤ → ℤ → ℤ) (Before : ℤ → ℤ → Type 0) (law : IsBetter better Before) (bound : Signal → ℤ) where
  best-both : (xs ys : List Signal) → better (best better (map bound xs)) (best better (map bound ys)) ≡ best better (map bound (xs ++ ys))
  best-both xs ys = sym (ap (best better) (map-append bound xs ys) ∙ best-append better Before law (map bound xs) (map bound ys))

  best-moved : (xs ys : List Signal) → IsPermutation xs ys → best better (map bound xs) ≡ best better (map bound ys)
  best-moved xs ys h = best-permutation better Before law (map bound xs) (map bound ys) (IsPermutation-map bound xs ys h)

joined-bounds : (kind : Kind) (xs ys : List Signal) → join_of kind (bounds_of kind xs) (bounds_of kind ys) ≡ bounds_of kind (xs ++ ys)
joined-bounds Plain xs ys =
    bounds-equal _ _ (best-both better_low _ lower (λ s. s.lo) xs ys) (best-both better_high _ upper (λ s. s.hi) xs ys)
joined-bounds And xs ys =
    bounds-equal _ _ (best-both better_low _ lower (λ s. s.lo) xs ys) (best-both better_low _ lower (λ s. s.hi) xs ys)
joined-bounds Or xs ys =
    bounds-equal _ _ (best-both better_high _ upper (λ s. s.lo) xs ys) (best-both better_high _ upper (λ s. s.hi) xs ys)

bounds-moved : (kind : Kind) (xs ys : List Signal) → IsPermutation xs ys → bounds_of kind xs ≡ bounds_of kind ys
bounds-moved Plain xs ys h =
    bounds-equal _ _ (best-moved better_low _ lower (λ s. s.lo) xs ys h) (best-moved better_high _ upper (λ s. s.hi) xs ys h)
bounds-moved And xs ys h =
    bounds-equal _ _ (best-moved better_low _ lower (λ s. s.lo) xs ys h) (best-moved better_low _ lower (λ s. s.hi) xs ys h)
bounds-moved Or xs ys h =
    bounds-equal _ _ (best-moved better_high _ upper (λ s. s.lo) xs ys h) (best-moved better_high _ upper (λ s. s.hi) xs ys h)

-- the combinations of two lists, joined, are that of both lists, in any order
pub joined-lists : (kind : Kind) (xs ys zs : List Signal) (a b : Signal) → HasSome a → HasSome b →
    IsCombination kind xs a → IsCombination kind ys b → IsPermutation (xs ++ ys) zs → IsCombination kind zs (join_of kind a b)
joined-lists kind xs ys zs a b some_a some_b is_a is_b moved =
    let all_xs = IsCombination-some kind xs a some_a is_a in
    let all_ys = IsCombination-some kind ys b some_b is_b in
    let all = All-permutation HasSome (xs ++ ys) zs moved (All-append HasSome xs ys all_xs all_ys) in
    rw (IsCombination-bounds kind xs a some_a is_a, IsCombination-bounds kind ys b some_b is_b, joined-bounds kind xs ys, bounds-moved kind (xs ++ ys) zs moved)
    (bounds_of-is kind zs all)

-- one signal, and none
pub one-signal : (kind : Kind) (s : Signal) → HasSome s → IsCombination kind (s ∷ []) s
one-signal kind s some =
    subst (IsCombination kind (s ∷ [])) (one-bounds kind s)
    (bounds_of-is kind (s ∷ []) (All-cons HasSome s [] some (λ k d lt. absurd (omega (arith, lt)))))
  where
    one-bounds : (kind : Kind) (s : Signal) → bounds_of kind (s ∷ []) ≡ s
    one-bounds Plain s = bounds-equal _ _ (lower.zero s.lo) (upper.zero s.hi)
    one-bounds And s = bounds-equal _ _ (lower.zero s.lo) (lower.zero s.hi)
    one-bounds Or s = bounds-equal _ _ (upper.zero s.lo) (upper.zero s.hi)

pub no-signal : (kind : Kind) → IsCombination kind [] undriven
no-signal Plain = bounds_of-is Plain [] (λ k d lt. absurd (omega (arith, lt)))
no-signal And = bounds_of-is And [] (λ k d lt. absurd (omega (arith, lt)))
no-signal Or = bounds_of-is Or [] (λ k d lt. absurd (omega (arith, lt)))

pub two-signals : (kind : Kind) (a b : Signal) → HasSome a → HasSome b → IsCombination kind (a ∷ b ∷ []) (join_of kind a b)
two-signals kind a b some_a some_b =
    joined-lists kind (a ∷ []) (b ∷ []) (a ∷ b ∷ []) a b some_a some_b
    (one-signal kind a some_a) (one-signal kind b some_b) (IsPermutation-refl (a ∷ b ∷ []))

pub joined-some : (kind : Kind) (a b : Signal) → HasSome a → HasSome b → HasSome (join_of kind a b)
joined-some kind a b some_a some_b =
    let is_a = IsCombination-bounds kind (a ∷ []) a some_a (one-signal kind a some_a) in
    let is_b = IsCombination-bounds kind (b ∷ []) b some_b (one-signal kind b some_b) in
    let e = ap (λ s. join_of kind s b) is_a ∙ ap (join_of kind (bounds_of kind (a ∷ []))) is_b ∙ joined-bounds kind (a ∷ []) (b ∷ []) in
    subst HasSome (sym e)
    (bounds_of-some kind (a ∷ b ∷ []) (All-cons HasSome a (b ∷ []) some_a (All-cons HasSome b [] some_b (λ k d lt. absurd (omega (arith, lt))))))

-- signals joined one after the other
fold-joined : (kind : Kind) (before rest : List Signal) (s : Signal) → HasSome s → All HasSome rest →
    IsCombination kind before s → IsCombination kind (before ++ rest) (fold (join_of kind) s rest)
fold-joined kind before [] s some all is = rw (append-nil before) is
fold-joined kind before (t ∷ rest) s some all is =
    let some_t = All-head HasSome t rest all in
    rw (← append_assoc before (t ∷ []) rest)
    (fold-joined kind (before ++ t ∷ []) rest (join_of kind s t) (joined-some kind s t some some_t) (All-tail HasSome t rest all)
    (joined-lists kind before (t ∷ []) (before ++ t ∷ []) s t some some_t is (one-signal kind t some_t) (IsPermutation-refl _)))

pub combination_of-is : (kind : Kind) (signals : List Signal) → All HasSome signals → IsCombination kind signals (combination_of kind signals)
combination_of-is kind signals all = fold-joined kind [] signals undriven (self (pos 0)) all (no-signal kind)

-- a better bound is one of the two
lower_of-picks : (kind : Kind) (x y : ℤ) → (lower_of kind x y ≡ x) ⊎ (lower_of kind x y ≡ y)
lower_of-picks Plain x y = lower.picks x y
lower_of-picks And x y = lower.picks x y
lower_of-picks Or x y = upper.picks x y

upper_of-picks : (kind : Kind) (x y : ℤ) → (upper_of kind x y ≡ x) ⊎ (upper_of kind x y ≡ y)
upper_of-picks Plain x y = upper.picks x y
upper_of-picks And x y = lower.picks x y
upper_of-picks Or x y = upper.picks x y

pub lower_of-low : (kind : Kind) (least x y : ℤ) → least ≤ℤ x → least ≤ℤ y → least ≤ℤ lower_of kind x y
lower_of-low kind least x y h k = elim (lower_of-picks kind x y) [ inl e ↦ rw e h | inr e ↦ rw e k ]

pub upper_of-high : (kind : Kind) (greatest x y : ℤ) → x ≤ℤ greatest → y ≤ℤ greatest → upper_of kind x y ≤ℤ greatest
upper_of-high kind greatest x y h k = elim (upper_of-picks kind x y) [ inl e ↦ rw e h | inr e ↦ rw e k ]

pub lower_of-upper_of : (kind : Kind) (x y u v : ℤ) → x ≤ℤ u → y ≤ℤ v → lower_of kind x y ≤ℤ upper_of kind u v
lower_of-upper_of kind x y u v h k = joined-some kind (record { lo = x; hi = u }) (record { lo = y; hi = v }) h k

some-levels : (signals : List Signal) → All IsSignal signals → All HasSome signals
some-levels signals all = λ k d lt. (all k d lt).order

-- the only combination of signals with levels has levels, since some choice gives one
IsCombination-only : (kind : Kind) (signals : List Signal) (s : Signal) → All HasSome signals → IsCombination kind signals s →
    s ≡ bounds_of kind signals
unfolding IsCombination
IsCombination-only kind signals s all is =
    let some = bounds_of-some kind signals all in
    let level = (is (bounds_of kind signals).lo).1 ((bounds_of-is kind signals all (bounds_of kind signals).lo).0 (record { from_lo = self _; to_hi = some })) in
    IsCombination-bounds kind signals s (trans _ _ _ level.from_lo level.to_hi) is

combination_of-bounds : (kind : Kind) (signals : List Signal) → All HasSome signals → combination_of kind signals ≡ bounds_of kind signals
combination_of-bounds kind signals all = IsCombination-only kind signals _ all (combination_of-is kind signals all)

pub joined-signal : (kind : Kind) (a b : Signal) → IsSignal a → IsSignal b → IsSignal (join_of kind a b)
joined-signal kind a b is_a is_b = record {
  low = lower_of-low kind _ _ _ is_a.low is_b.low;
  order = joined-some kind a b is_a.order is_b.order;
  high = upper_of-high kind _ _ _ is_a.high is_b.high;
}

fold-signal : (kind : Kind) (s : Signal) (signals : List Signal) → IsSignal s → All IsSignal signals → IsSignal (fold (join_of kind) s signals)
fold-signal kind s [] is all = is
fold-signal kind s (t ∷ rest) is all =
    fold-signal kind (join_of kind s t) rest (joined-signal kind s t is (All-head IsSignal t rest all)) (All-tail IsSignal t rest all)

-- the combination of a list, as one law
pub combination-law : (kind : Kind) → CombinationLaw kind
combination-law kind = record {
  none = refl;
  one = λ s is. combination_of-bounds kind (s ∷ []) (alone s is.order)
      ∙ sym (IsCombination-only kind (s ∷ []) s (alone s is.order) (one-signal kind s is.order));
  is = λ signals all. combination_of-is kind signals (some-levels signals all);
  only = λ signals s all is. IsCombination-only kind signals s (some-levels signals all) is
      ∙ sym (combination_of-bounds kind signals (some-levels signals all));
  order = λ signals others all moved. combination_of-bounds kind signals (some-levels signals all)
      ∙ bounds-moved kind signals others moved
      ∙ sym (combination_of-bounds kind others (All-permutation HasSome signals others moved (some-levels signals all)));
  grouping = λ signals others all all_others.
      let first = some-levels signals all in
      let second = some-levels others all_others in
      combination_of-bounds kind (signals ++ others) (All-append HasSome signals others first second)
      ∙ sym (joined-bounds kind signals others)
      ∙ ap (λ s. join_of kind s (bounds_of kind others)) (sym (combination_of-bounds kind signals first))
      ∙ ap (join_of kind (combination_of kind signals)) (sym (combination_of-bounds kind others second));
  signal = λ signals all. fold-signal kind undriven signals (record { low = omega (arith, ints); order = self _; high = omega (arith, ints) }) all;
}
  where
    alone : (s : Signal) → HasSome s → All HasSome (s ∷ [])
    alone s some = All-cons HasSome s [] some (λ k d lt. absurd (omega (arith, lt)))
