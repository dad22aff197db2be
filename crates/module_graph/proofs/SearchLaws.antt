-- A search, step by step.
use Rattle.std.proofs.Common.{◌≡◌, ℕ, ◌+◌, ◌<◌, Bool, true, false, not, cond, List, [], ◌∷◌, ◌++◌, length, length-append, get_or, set, take, replicate, refl, sym, ap, subst, ◌∙◌, arith, inl, inr, ◌⊎◌}
use Rattle.std.specs.List.{count_by, Contains}
use Rattle.std.proofs.lemmas.Bool.{cases_lt, cases_eq, or_cases, or_left, or_right, false≢true}
use Rattle.std.proofs.lemmas.List.{get_or_past, get_or-set_same, get_or-set_other, length-set, ext_get_or, take_more, get_or-replicate, length-replicate}
use Rattle.std.proofs.lemmas.List.Elements.{Contains-append_left, Contains-push, Contains-push_cases}
use Rattle.std.proofs.lemmas.List.Folds.{list_any-append}
use Rattle.std.proofs.lemmas.List.FromFn.{length-map-range_with_len, get_or-map-range_with_len}
use Rattle.std.proofs.lemmas.List.Sums.{sum_by-set}
use Rattle.module_graph.specs.declared.reach.Search.{Search}
use Rattle.module_graph.specs.declared.references.Reference.{Reference}
use Rattle.module_graph.specs.Reach.{refers_to, instantiates, LeadsTo, is_reached, is_module, reached_modules}
use Rattle.module_graph.specs.Reach.LeadsTo.{Directly, Through}
use Rattle.module_graph.specs.Searches.{IsFound, work_left, IsStart, Found, Followed, IsSearch}
use Rattle.module_graph.proofs.ReachLaws.{LeadsTo_within, is_reached_top, is_reached_cases, is_reached_on}

-- ---- one module

module _ (index : ℕ) (s t : Search) (lt : index < length s.reached) (unfound : get_or s.reached index false ≡ false)
    (reached : t.reached ≡ set s.reached index true) (waiting : t.waiting ≡ s.waiting ++ index ∷ []) where
  found_here : IsFound t index
  found_here = ap (λ (bs : List Bool). get_or bs index false) reached ∙ get_or-set_same s.reached index true false lt

  found_other : (k : ℕ) → (k ≡ index → ⊥) → get_or t.reached k false ≡ get_or s.reached k false
  found_other k ne = ap (λ (bs : List Bool). get_or bs k false) reached ∙ get_or-set_other s.reached index k true false ne

  waits_here : Contains t.waiting index
  waits_here = subst (λ (ks : List ℕ). Contains ks index) (sym waiting) (Contains-push s.waiting index)

  keeps : (k : ℕ) → IsFound s k → IsFound t k
  keeps k found = elim (cases_eq k index) [
    | inl e ↦ subst (λ (x : ℕ). IsFound t x) (sym e) found_here
    | inr ne ↦ found_other k ne ∙ found
  ]

  new : (k : ℕ) → IsFound t k → IsFound s k ⊎ (Contains t.waiting k × (k ≡ index))
  new k found = elim (cases_eq k index) [
    | inl e ↦ inr (subst (λ (x : ℕ). Contains t.waiting x) (sym e) waits_here, e)
    | inr ne ↦ inl (sym (found_other k ne) ∙ found)
  ]

  waiting_cases : (k : ℕ) → Contains t.waiting k → Contains s.waiting k ⊎ IsFound t k
  waiting_cases k h = elim (Contains-push_cases s.waiting index k (subst (λ (ks : List ℕ). Contains ks k) waiting h)) [
    | inl old ↦ inl old
    | inr e ↦ inr (subst (λ (x : ℕ). IsFound t x) e found_here)
  ]

  one_less : count_by not (set s.reached index true) + 1 ≡ count_by not s.reached
  one_less =
      let sums : count_by not (set s.reached index true) + cond {A = ℕ} (not (get_or s.reached index false)) 1 0 ≡ count_by not s.reached + 0
      = sum_by-set (λ (b : Bool). cond {A = ℕ} (not b) 1 0) s.reached index true false lt in
      let one : cond {A = ℕ} (not (get_or s.reached index false)) 1 0 ≡ 1 = rw unfound refl in
      omega (arith, sums, one)

  pub Found-new : Found index s t
  Found-new = record {
    same_length = ap length reached ∙ length-set s.reached index true;
    keeps = keeps;
    waits = λ k h. subst (λ (ks : List ℕ). Contains ks k) (sym waiting) (Contains-append_left s.waiting (index ∷ []) k h);
    new = new;
    waiting = waiting_cases;
    there = λ h. found_here;
    same_left =
        let count : count_by not t.reached ≡ count_by not (set s.reached index true) = ap (count_by not) reached in
        let more : length t.waiting ≡ length s.waiting + 1 = ap length waiting ∙ length-append s.waiting (index ∷ []) in
        omega (arith, one_less);
  }

-- ---- references

pub Followed-none : (s : Search) → Followed [] s s
Followed-none s = record {
  same_length = refl;
  keeps = λ k found. found;
  waits = λ k h. h;
  new = λ k found. inl found;
  waiting = λ k h. inl h;
  there = λ k none lt. absurd (false≢true none);
  same_left = refl;
}

-- references, and one more
pub Followed-on : (list more : List Reference) (s t u : Search) → Followed list s t → Followed more t u → Followed (list ++ more) s u
Followed-on list more s t u f g = record {
  same_length = g.same_length ∙ f.same_length;
  keeps = λ k found. g.keeps k (f.keeps k found);
  waits = λ k h. g.waits k (f.waits k h);
  new = λ k found. elim (g.new k found) [
    | inl before ↦ elim (f.new k before) [
      | inl old ↦ inl old
      | inr both ↦ inr (g.waits k both.0, list_any-append (λ r. is_module k r.master) list more ∙ or_left (refers_to k list) (refers_to k more) both.1)
    ]
    | inr both ↦ inr (both.0, list_any-append (λ r. is_module k r.master) list more ∙ or_right (refers_to k list) (refers_to k more) both.1)
  ];
  waiting = λ k h. elim (g.waiting k h) [
    | inl before ↦ elim (f.waiting k before) [
      | inl old ↦ inl old
      | inr found ↦ inr (g.keeps k found)
    ]
    | inr found ↦ inr found
  ];
  there = λ k refers lt. elim (or_cases (refers_to k list) (refers_to k more) (sym (list_any-append (λ r. is_module k r.master) list more) ∙ refers)) [
    | inl first ↦ g.keeps k (f.there k first lt)
    | inr last ↦ g.there k last (subst (λ (n : ℕ). k < n) (sym f.same_length) lt)
  ];
  same_left = g.same_left ∙ f.same_left;
}

pub Followed-more : (list : List Reference) (i : ℕ) (d : Reference) (s t u : Search) → i < length list →
    Followed (take i list) s t → Followed (get_or list i d ∷ []) t u → Followed (take (i + 1) list) s u
Followed-more list i d s t u lt f g =
    subst (λ (xs : List Reference). Followed xs s u) (sym (take_more list i d lt)) (Followed-on (take i list) (get_or list i d ∷ []) s t u f g)

-- ---- a search from the top

module _ (rs : List (List Reference)) (top : ℕ) where
  -- the search that found the top alone
  pub IsSearch-start : (s t : Search) → IsStart (length rs) s → Found top s t → IsSearch rs top t
  IsSearch-start s t start found = record {
    all = found.same_length ∙ ap length start.reached ∙ length-replicate (length rs) false;
    sound = λ k h. elim (found.new k h) [
      | inl old ↦ absurd (none k old)
      | inr both ↦ subst (λ (x : ℕ). is_reached rs top x ≡ true) (sym both.1) (is_reached_top rs top)
    ];
    waiting = λ k h. elim (found.waiting k h) [
      | inl old ↦ absurd (no_wait k old)
      | inr here ↦ here
    ];
    begins = λ lt. found.there (subst (λ (n : ℕ). top < n) (sym (ap length start.reached ∙ length-replicate (length rs) false)) lt);
    closed = λ a b h step lt. elim (found.new a h) [
      | inl old ↦ absurd (none a old)
      | inr both ↦ inr both.0
    ];
  }
    where
      none : (k : ℕ) → IsFound s k → ⊥
      none k h = elim (cases_lt k (length rs)) [
        | inl lt ↦ false≢true (sym (ap (λ (bs : List Bool). get_or bs k false) start.reached ∙ get_or-replicate (length rs) k false false lt) ∙ h)
        | inr le ↦ false≢true (sym (ap (λ (bs : List Bool). get_or bs k false) start.reached ∙ get_or_past (replicate (length rs) false) k false (omega (arith, length-replicate (length rs) false))) ∙ h)
      ]

      no_wait : (k : ℕ) → Contains s.waiting k → ⊥
      no_wait k h = let empty : Contains [] k = subst (λ (ks : List ℕ). Contains ks k) start.waiting h in let lt : empty.0 < 0 = empty.1 in omega arith

  -- a module that waits is one of the file
  pub waiting_within : (s : Search) (ws : List ℕ) (a : ℕ) → IsSearch rs top s → s.waiting ≡ ws ++ a ∷ [] → a < length rs
  waiting_within s ws a search waiting =
      let found : IsFound s a = search.waiting a (subst (λ (ks : List ℕ). Contains ks a) (sym waiting) (Contains-push ws a)) in
      elim (cases_lt a (length s.reached)) [
        | inl lt ↦ subst (λ (n : ℕ). a < n) search.all lt
        | inr le ↦ absurd (false≢true (sym (get_or_past s.reached a false le) ∙ found))
      ]

  module _ (s before t : Search) (a : ℕ) (search : IsSearch rs top s) (reached : before.reached ≡ s.reached) (waiting : s.waiting ≡ before.waiting ++ a ∷ [])
      (followed : Followed (get_or rs a []) before t) where
    was_found : (k : ℕ) → IsFound before k → IsFound s k
    was_found k h = ap (λ (bs : List Bool). get_or bs k false) (sym reached) ∙ h

    is_found : (k : ℕ) → IsFound s k → IsFound before k
    is_found k h = ap (λ (bs : List Bool). get_or bs k false) reached ∙ h

    waited : (k : ℕ) → Contains before.waiting k → Contains s.waiting k
    waited k h = subst (λ (ks : List ℕ). Contains ks k) (sym waiting) (Contains-append_left before.waiting (a ∷ []) k h)

    next_found : IsFound s a
    next_found = search.waiting a (subst (λ (ks : List ℕ). Contains ks a) (sym waiting) (Contains-push before.waiting a))

    sound : (k : ℕ) → IsFound t k → is_reached rs top k ≡ true
    sound k h = elim (followed.new k h) [
      | inl old ↦ search.sound k (was_found k old)
      | inr both ↦ is_reached_on rs top a k (search.sound a next_found) both.1
    ]

    still_waiting : (k : ℕ) → Contains t.waiting k → IsFound t k
    still_waiting k h = elim (followed.waiting k h) [
      | inl old ↦ followed.keeps k (is_found k (search.waiting k (waited k old)))
      | inr here ↦ here
    ]

    closed_old : (x y : ℕ) → IsFound s x → instantiates rs x y ≡ true → y < length rs → IsFound t y ⊎ Contains t.waiting x
    closed_old x y h step lt = elim (search.closed x y h step lt) [
      | inl found ↦ inl (followed.keeps y (is_found y found))
      | inr waits ↦ elim (Contains-push_cases before.waiting a x (subst (λ (ks : List ℕ). Contains ks x) waiting waits)) [
        | inl old ↦ inr (followed.waits x old)
        | inr e ↦ inl (followed.there y (subst (λ (z : ℕ). instantiates rs z y ≡ true) (sym e) step)
            (subst (λ (n : ℕ). y < n) (sym (ap length reached ∙ search.all)) lt))
      ]
    ]

    closed : (x y : ℕ) → IsFound t x → instantiates rs x y ≡ true → y < length rs → IsFound t y ⊎ Contains t.waiting x
    closed x y h step lt = elim (followed.new x h) [
      | inl old ↦ closed_old x y (was_found x old) step lt
      | inr both ↦ inr both.0
    ]

    -- the search that followed one more module
    pub IsSearch-next : IsSearch rs top t
    IsSearch-next = record {
      all = followed.same_length ∙ ap length reached ∙ search.all;
      sound = sound;
      waiting = still_waiting;
      begins = λ lt. followed.keeps top (is_found top (search.begins lt));
      closed = closed;
    }

    pub work_less : work_left t + 1 ≡ work_left s
    work_less =
        let same : count_by not before.reached ≡ count_by not s.reached = ap (count_by not) reached in
        let more : length s.waiting ≡ length before.waiting + 1 = ap length waiting ∙ length-append before.waiting (a ∷ []) in
        let left : work_left t ≡ work_left before = followed.same_left in
        omega arith

  -- ---- the end

  module _ (s : Search) (search : IsSearch rs top s) (empty : s.waiting ≡ []) where
    no_wait : (k : ℕ) → Contains s.waiting k → ⊥
    no_wait k h = let none : Contains [] k = subst (λ (ks : List ℕ). Contains ks k) empty h in let lt : none.0 < 0 = none.1 in omega arith

    found_next : (a b : ℕ) → IsFound s a → instantiates rs a b ≡ true → b < length rs → IsFound s b
    found_next a b h step lt = elim (search.closed a b h step lt) [
      | inl found ↦ found
      | inr waits ↦ absurd (no_wait a waits)
    ]

    found_along : {a c : ℕ} → LeadsTo rs a c → IsFound s a → c < length rs → IsFound s c
    found_along (Directly {a = a} {b = b} step) h lt = found_next a b h step lt
    found_along (Through {a = a} {b = b} step rest) h lt = found_along rest (found_next a b h step (LeadsTo_within rs rest)) lt

    found_reached : (k : ℕ) → k < length rs → is_reached rs top k ≡ true → IsFound s k
    found_reached k lt e = elim (is_reached_cases rs top k e) [
      | inl same ↦ subst (λ (x : ℕ). IsFound s x) (sym same) (search.begins (subst (λ (x : ℕ). x < length rs) same lt))
      | inr walk ↦ found_along walk (search.begins (LeadsTo_within rs walk)) lt
    ]

    both_true : (a b : Bool) → (a ≡ true → b ≡ true) → (b ≡ true → a ≡ true) → a ≡ b
    both_true true b f g = sym (f refl)
    both_true false true f g = g refl
    both_true false false f g = refl

    -- what is found is what is reached
    pub reached-done : s.reached ≡ reached_modules rs top
    reached-done = ext_get_or false s.reached (reached_modules rs top)
        (search.all ∙ sym (length-map-range_with_len (is_reached rs top) 0 (length rs)))
        (λ k lt.
        let within : k < length rs = subst (λ (n : ℕ). k < n) search.all lt in
        both_true (get_or s.reached k false) (is_reached rs top k) (search.sound k) (found_reached k within)
        ∙ sym (get_or-map-range_with_len (is_reached rs top) 0 (length rs) k k false within (omega arith)))
