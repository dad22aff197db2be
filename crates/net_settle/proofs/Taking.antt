-- What a net's taking of a level does to bounds on their way, and to what rests.
use Rattle.std.proofs.Common.{◌≡◌, ◌≢◌, ℕ, suc, ◌+◌, ◌<◌, ◌≤◌, Bool, true, false, List, length, get_or, refl, ap, sym, ◌∙◌, subst, arith, inl, inr, not}
use Rattle.std.specs.Ordering.{int_eq}
use Rattle.std.specs.Prelude.{ℤ, pos, ◌⊎◌, slice_set, Contains, MatchBool}
use Rattle.std.proofs.lemmas.List.{get_or-map, length-set, get_or_default}
use Rattle.std.proofs.lemmas.Bool.{cases_eq, false≢true}
use Rattle.level_range.specs.declared.range.Conduct.{Conduct}
use Rattle.level_range.specs.Signal.{Signal}
use Rattle.net_settle.specs.declared.shape.Link.{Link}
use Rattle.net_settle.specs.declared.side.Side.{Side}
use Rattle.net_settle.specs.Bounds.{Switch, at, bound_of, bounds_of, carried_bound}
use Rattle.net_settle.specs.Settling.{Joins}
use Rattle.net_settle.specs.ByLevels.{take_level}
use Rattle.net_settle.specs.Progress.{rank, IsDone, LinkRests, Spreads, Moves, without}
use Rattle.net_settle.proofs.Walks.{at-other, at-same}
use Rattle.net_settle.proofs.Rounds.{taken-takes, taken-stays, taken-moves, int_eq_cases, without-set}

-- the bound of a net is that of its signal
pub at-bounds_of : (side : Side) (own : List Signal) (n : ℕ) (d : Signal) → n < length own → at (bounds_of side own) n ≡ bound_of side (get_or own n d)
at-bounds_of side own n d h = get_or-map (bound_of side) own n d (pos 0) h

-- a level is taken, or nothing is
taken_cases : (v : ℤ) (n : ℕ) (comes : ℤ) (bounds : List ℤ) →
    ((at bounds n ≡ pos 0) × (comes ≡ v) × (take_level v n comes bounds ≡ slice_set bounds n v))
    ⊎ ((at bounds n ≡ pos 0 → comes ≢ v) × (take_level v n comes bounds ≡ bounds))
taken_cases v n comes bounds = elim (int_eq_cases (at bounds n) (pos 0)) [
  | inl (_, none) ↦ elim (int_eq_cases comes v) [
    | inl (_, e) ↦ inl (none, e, taken-takes v n comes bounds none e)
    | inr (_, ne) ↦ inr (λ _. ne, taken-stays v n comes bounds (λ _. ne))
  ]
  | inr (_, some) ↦ inr (λ z. absurd (some z), taken-stays v n comes bounds (λ z. absurd (some z)))
]

pub length-taken : (v : ℤ) (n : ℕ) (comes : ℤ) (bounds : List ℤ) → length (take_level v n comes bounds) ≡ length bounds
length-taken v n comes bounds = elim (taken_cases v n comes bounds) [
  | inl (_, _, e) ↦ ap length e ∙ length-set bounds n v
  | inr (_, e) ↦ ap length e
]

pub taken-other : (v : ℤ) (n : ℕ) (comes : ℤ) (bounds : List ℤ) (k : ℕ) → k ≢ n → at (take_level v n comes bounds) k ≡ at bounds k
taken-other v n comes bounds k ne = elim (taken_cases v n comes bounds) [
  | inl (_, _, e) ↦ ap (λ b. at b k) e ∙ at-other bounds n k v ne
  | inr (_, e) ↦ ap (λ b. at b k) e
]

-- a net without a bound afterwards had none, and the level didn't come to it
pub taken-rests : (v : ℤ) (n : ℕ) (comes : ℤ) (bounds : List ℤ) → v ≢ pos 0 → n < length bounds → at (take_level v n comes bounds) n ≡ pos 0 → comes ≢ v
taken-rests v n comes bounds some h none is = elim (taken_cases v n comes bounds) [
  | inl (_, _, e) ↦ some (sym (at-same bounds n v h) ∙ ap (λ b. at b n) (sym e) ∙ none)
  | inr (not, e) ↦ not (ap (λ b. at b n) (sym e) ∙ none) is
]

pub taken-grows : (v : ℤ) (n : ℕ) (comes : ℤ) (bounds : List ℤ) → v ≢ pos 0 → n < length bounds → (k : ℕ) → at (take_level v n comes bounds) k ≡ pos 0 → at bounds k ≡ pos 0
taken-grows v n comes bounds some h k none = elim (taken_cases v n comes bounds) [
  | inl (was, _, e) ↦ elim (cases_eq k n) [
    | inl is ↦ ap (at bounds) is ∙ was
    | inr ne ↦ sym (taken-other v n comes bounds k ne) ∙ none
  ]
  | inr (not, e) ↦ ap (λ b. at b k) (sym e) ∙ none
]

-- what holds while nets take the level that is their own bound
pub record OwnTaken (side : Side) (v : ℤ) (own initial bounds : List ℤ) (n : ℕ) : Type 0 where
  pub done :
      (switches : List Switch) (r : ℕ) → rank side v ≡ suc r → IsDone side switches own (suc r) initial
      → IsDone side switches own (suc r) bounds
  pub rests : (k : ℕ) → k < n → at bounds k ≡ pos 0 → at own k ≢ v

pub own_taken_none : (side : Side) (v : ℤ) (own bounds : List ℤ) → OwnTaken side v own bounds bounds 0
own_taken_none side v own bounds = record {
  done = λ switches r level done. done;
  rests = λ k lt. absurd (omega arith);
}

pub own_taken_more : (side : Side) (v : ℤ) (own initial bounds : List ℤ) (n : ℕ) (comes : ℤ) → v ≢ pos 0 →
    n < length bounds → comes ≡ at own n → OwnTaken side v own initial bounds n → OwnTaken side v own initial (take_level v n comes bounds) (n + 1)
own_taken_more side v own initial bounds n comes some inside is before = record {
  done = λ switches r level done.
      (taken-moves side switches own r v n (λ _. comes) bounds (before.done switches r level done) level (λ e. inl (sym is ∙ e))).0;
  rests = λ k lt none. elim (cases_eq k n) [
    | inl e ↦ λ f.
        taken-rests v n comes bounds some inside (ap (at (take_level v n comes bounds)) (sym e) ∙ none) (is ∙ ap (at own) (sym e) ∙ f)
    | inr ne ↦ before.rests k (omega arith) (sym (taken-other v n comes bounds k ne) ∙ none)
  ];
}

pub spreads-same : (side : Side) (switches : List Switch) (v : ℤ) (bounds : List ℤ) → Spreads side switches v bounds bounds
spreads-same side switches v bounds = record {
  nets = refl;
  grows = λ n none. none;
  keeps = λ own r level done. done;
}

pub spreads-then : (side : Side) (switches : List Switch) (v : ℤ) (before between after : List ℤ) →
    Spreads side switches v before between → Spreads side switches v between after → Spreads side switches v before after
spreads-then side switches v before between after a b = record {
  nets = b.nets ∙ a.nets;
  grows = λ n none. a.grows n (b.grows n none);
  keeps = λ own r level done. b.keeps own r level (a.keeps own r level done);
}

-- a net takes what a switch carries to it
taken-spreads : (side : Side) (switches : List Switch) (v : ℤ) (link : Link) (conduct : Conduct) (m n : ℕ) (bounds : List ℤ) →
    Contains switches (link, conduct) → Joins link m n → v ≢ pos 0 → n < length bounds →
    Spreads side switches v bounds (take_level v n (carried_bound side link conduct (at bounds m)) bounds)
taken-spreads side switches v link conduct m n bounds there joins some inside =
    let comes = carried_bound side link conduct (at bounds m) in
    record {
      nets = length-taken v n comes bounds;
      grows = λ k none. taken-grows v n comes bounds some inside k none;
      keeps = λ own r level done.
          (taken-moves side switches own r v n (λ b. carried_bound side link conduct (at b m)) bounds done level (λ e. inr (
            m,
            record {
              link = link;
              conduct = conduct;
              there = there;
              joins = joins;
              carries = e;
            },
          ))).0;
    }

module _ (side : Side) (v : ℤ) (link : Link) (conduct : Conduct) (before there after : List ℤ)
    (some : v ≢ pos 0) (a_inside : link.a < length before) (b_inside : link.b < length before)
    (there_is : there ≡ take_level v link.b (carried_bound side link conduct (at before link.a)) before)
    (after_is : after ≡ take_level v link.a (carried_bound side link conduct (at there link.b)) there) where
  same_nets : length there ≡ length before
  same_nets = ap length there_is ∙ length-taken v link.b _ before

  pub link-spreads : (switches : List Switch) → Contains switches (link, conduct) → Spreads side switches v before after
  link-spreads switches contains =
      spreads-then side switches v before there after
      (subst (λ (b : List ℤ). Spreads side switches v before b) (sym there_is)
      (taken-spreads side switches v link conduct link.a link.b before contains (inl (refl, refl)) some b_inside))
      (subst (λ (b : List ℤ). Spreads side switches v there b) (sym after_is)
      (taken-spreads side switches v link conduct link.b link.a there contains (inr (refl, refl)) some (let e = same_nets in omega arith)))

  -- a net took it on the way there
  pub link-moves_there :
      (at before link.b ≡ pos 0) × (carried_bound side link conduct (at before link.a) ≡ v) → without after < without before
  link-moves_there (none, is) =
      let e = there_is ∙ taken-takes v link.b _ before none is in
      let f : without there < without before = subst (λ (b : List ℤ). without b < without before) (sym e) (without-set before link.b v b_inside none some) in
      let g : without after ≤ without there = fewer in
      omega arith
    where
      fewer : without after ≤ without there
      fewer = elim (taken_cases v link.a (carried_bound side link conduct (at there link.b)) there) [
        | inl (none, _, e) ↦
            let h : without after < without there = subst (λ (b : List ℤ). without b < without there) (sym (after_is ∙ e))
            (without-set there link.a v (let k = same_nets in omega arith) none some) in
            omega arith
        | inr (_, e) ↦ let h : without after ≡ without there = ap without (after_is ∙ e) in omega arith
      ]

  -- no net took it on the way there
  pub link-moves_back : (back : Bool) → (at before link.b ≡ pos 0 → carried_bound side link conduct (at before link.a) ≢ v) →
      MatchBool back ((at there link.a ≡ pos 0) × (carried_bound side link conduct (at there link.b) ≡ v)) (at there link.a ≡ pos 0 → carried_bound side link conduct (at there link.b) ≢ v) →
      Moves back (LinkRests side link conduct before v) before after
  link-moves_back true rests (none, is) =
      let s : there ≡ before = there_is ∙ taken-stays v link.b _ before rests in
      let e = after_is ∙ taken-takes v link.a _ there none is in
      let f : without after < without there = subst (λ (b : List ℤ). without b < without there) (sym e)
      (without-set there link.a v (let k = same_nets in omega arith) none some) in
      let g : without there ≡ without before = ap without s in
      omega arith
  link-moves_back false rests back =
      let s : there ≡ before = there_is ∙ taken-stays v link.b _ before rests in
      let e : after ≡ there = after_is ∙ taken-stays v link.a _ there back in (
        e ∙ s,
        λ m n joins inside none. elim joins [
          | inl (from, to) ↦ λ f. rests (ap (at before) to ∙ none) (ap (λ i. carried_bound side link conduct (at before i)) from ∙ f)
          | inr (to, from) ↦ λ f.
              back (ap (λ b. at b link.a) s ∙ ap (at before) to ∙ none)
              (ap (λ b. carried_bound side link conduct (at b link.b)) s ∙ ap (λ i. carried_bound side link conduct (at before i)) from ∙ f)
        ],
      )

-- what tests for inequality say
pub differ : (x y : ℤ) → true ≡ not (int_eq x y) → x ≢ y
differ x y h e = elim (int_eq_cases x y) [
  | inl (t, _) ↦ false≢true (sym (h ∙ ap not t))
  | inr (_, ne) ↦ ne e
]

pub agree : (x y : ℤ) → false ≡ not (int_eq x y) → x ≡ y
agree x y h = elim (int_eq_cases x y) [
  | inl (_, e) ↦ e
  | inr (f, _) ↦ absurd (false≢true (h ∙ ap not f))
]

-- the element that is read at an index is that of the list
pub at-read : (bounds : List ℤ) (n : ℕ) (read : ℤ) → read ≡ get_or bounds n read → n < length bounds → read ≡ at bounds n
at-read bounds n read is h = is ∙ get_or_default bounds n read (pos 0) h
