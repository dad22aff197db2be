-- What is read is spelled so, and what is spelled so is read: rules as those of parts that are written token by token, for parts in which tokens may be passed over.
use Rattle.std.proofs.Common.{◌≡◌, ℕ, zero, suc, ◌+◌, ◌<◌, ◌≤◌, ◌^◌, Bool, true, false, not, if◌then◌else◌, List, [], ◌∷◌, ◌++◌, length, Ok, ◌⊎◌, refl, sym, ap, subst, ◌∙◌, arith, inl, inr, append_assoc, append-nil, length-append}
use Rattle.std.specs.List.{AllByRecursion}
use Rattle.std.proofs.lemmas.Bool.{not-true}
use Rattle.v_lexer.specs.declared.token.Token.{Token}
use Rattle.v_tree.specs.Written.{Form, Written, Spelled, Exactly, Inside, IsInside, bare, exactly, AreWritten, one_by_one}
use Rattle.v_tree.specs.Fit.{AreFit}
use Rattle.v_parser.specs.Input.{Input, Reader, front, location, next, ◌>>=◌, pure, ◌<$>◌, ◌&◌, choice, many_from, many_after, many}
use Rattle.v_parser.proofs.Rules.{Rule, Follow, anything, StandsAt, Takes, IsSource, IsEnd, first_form, next_shorter, next_source, takes_join, bind_ok, bind_step, ok_of, ok_is}

-- the next token is spelled so
abbrev pub MeetsAt : Input → Spelled → Type 0
MeetsAt i (Exactly w) = StandsAt i w
MeetsAt i Inside = (0 < length i.tokens) × IsInside (front i)

-- from one input to another the tokens are spelled so
abbrev pub Spells : Input → List Spelled → Input → Type 0
Spells i [] j = i ≡ j
Spells i (s ∷ ss) j = MeetsAt i s × Spells (next i) ss j

-- ---- what Spells says

-- a token is left
meets_some : (i : Input) (s : Spelled) → MeetsAt i s → 0 < length i.tokens
meets_some i (Exactly w) h = h.some
meets_some i Inside h = h.0

-- one part after the other
pub spells_join : (a b : List Spelled) (i m j : Input) → Spells i a m → Spells m b j → Spells i (a ++ b) j
spells_join [] b i m j h k = subst (λ (n : Input). Spells n b j) (sym h) k
spells_join (s ∷ a) b i m j h k = (h.0, spells_join a b (next i) m j h.1 k)

-- where one part ends and the other begins
pub spells_split : (a b : List Spelled) (i j : Input) → Spells i (a ++ b) j → (m : Input) × Spells i a m × Spells m b j
spells_split [] b i j h = (i, refl, h)
spells_split (s ∷ a) b i j h =
    let r = spells_split a b (next i) j h.1 in
    (r.0, (h.0, r.1), r.2)

-- tokens that are written are spelled exactly so
pub takes_spells : (ws : List Written) (i j : Input) → Takes i ws j → Spells i (exactly ws) j
takes_spells [] i j h = h
takes_spells (w ∷ ws) i j h = (h.0, takes_spells ws (next i) j h.1)

pub spells_takes : (ws : List Written) (i j : Input) → Spells i (exactly ws) j → Takes i ws j
spells_takes [] i j h = h
spells_takes (w ∷ ws) i j h = (h.0, spells_takes ws (next i) j h.1)

-- there are as many tokens as are spelled
pub spells_length : (ss : List Spelled) (i j : Input) → Spells i ss j → length ss + length j.tokens ≡ length i.tokens
spells_length [] i j h = omega (arith, ap (λ (k : Input). length k.tokens) h)
spells_length (s ∷ ss) i j h = omega (arith, spells_length ss (next i) j h.1, next_shorter i (meets_some i s h.0))

-- what is left is as sound as the whole
pub spells_source : (ss : List Spelled) (i j : Input) → IsSource i → Spells i ss j → IsSource j
spells_source [] i j h t = subst IsSource t h
spells_source (s ∷ ss) i j h t = spells_source ss (next i) j (next_source i h) t.1

-- the tokens that are spelled, as they are written there
actual : (ss : List Spelled) (i j : Input) → Spells i ss j → (ws : List Written) × Takes i ws j
actual [] i j h = ([], h)
actual (Exactly w ∷ ss) i j h =
    let r = actual ss (next i) j h.1 in
    (w ∷ r.0, (h.0, r.1))
actual (Inside ∷ ss) i j h =
    let r = actual ss (next i) j h.1 in
    let stands : StandsAt i (bare (front i)) = record { some = h.0.0; form = refl; kept = tt } in
    (bare (front i) ∷ r.0, (stands, r.1))

-- what is written leaves one rest
takes_same : (ws : List Written) (i m n : Input) → Takes i ws m → Takes i ws n → m ≡ n
takes_same [] i m n h k = sym h ∙ k
takes_same (w ∷ ws) i m n h k = takes_same ws (next i) m n h.1 k.1

-- what is spelled begins with a token that is told exactly, and for which the test holds
abbrev pub begins_with : (Form → Bool) → List Spelled → Bool
begins_with test [] = false
begins_with test (Exactly w ∷ ss) = test w.form
begins_with test (Inside ∷ ss) = false

-- the test holds for the next token too
pub begins_front : (test : Form → Bool) (ss : List Spelled) (i j : Input) → Spells i ss j → begins_with test ss ≡ true → test (front i) ≡ true
begins_front test [] i j h e = absurd cc
begins_front test (Exactly w ∷ ss) i j h e = ap test h.0.form ∙ e
begins_front test (Inside ∷ ss) i j h e = absurd cc

-- and for the tokens as they are written there
actual_begins : (test : Form → Bool) (ss : List Spelled) (i j : Input) (h : Spells i ss j) → begins_with test ss ≡ true → test (first_form (actual ss i j h).0) ≡ true
unfolding actual
actual_begins test [] i j h e = absurd cc
actual_begins test (Exactly w ∷ ss) i j h e = e
actual_begins test (Inside ∷ ss) i j h e = absurd cc

-- ---- rules

abbrev pub Behind : Type 0
Behind = List Spelled → Bool

abbrev pub whatever : Behind
whatever ss = true

-- what is read is spelled so and fits; what is spelled so and fits is read, where what is spelled behind it may follow
pub record SpelledRule {A : Type 0} (read : Reader A) (spelled : A → List Spelled) (IsFit : A → Type 0) (may_follow : Behind) : Type 0 where
  pub takes : (i j : Input) (x : A) → IsSource i → read i ≡ Ok (x, j) → Spells i (spelled x) j × IsFit x
  pub again : (i j : Input) (x : A) (ss : List Spelled) → IsSource i → Spells i (spelled x ++ ss) j → IsEnd j → IsFit x → may_follow ss ≡ true → (m : Input) × (read i ≡ Ok (x, m)) × Spells m ss j

-- a part that is written token by token, where a test of the next token says what may follow
pub exactly_by_rule : {A : Type 0} {p : Reader A} {written : A → List Written} {IsFit : A → Type 0} {may_follow : Follow} (test : Form → Bool) → Rule p written IsFit may_follow
    → ((ws : List Written) → test (first_form ws) ≡ true → may_follow ws ≡ true) → SpelledRule p (λ x. exactly (written x)) IsFit (λ ss. begins_with test ss)
exactly_by_rule {A} {p} {written} {IsFit} {may_follow} test rule allows = record {
  takes = λ i j x source e.
      let t = rule.takes i j x source e in
      (takes_spells (written x) i j t.0, t.1);
  again = λ i j x ss source t end fit follows.
      let parts = spells_split (exactly (written x)) ss i j t in
      let rest = actual ss parts.0 j parts.2 in
      read_again i j x ss source parts.0 (spells_takes (written x) i parts.0 parts.1) parts.2 rest.0 rest.1 end fit (allows rest.0 (actual_begins test ss parts.0 j parts.2 follows));
}
  where
    read_again : (i j : Input) (x : A) (ss : List Spelled) → IsSource i → (m : Input) → Takes i (written x) m → Spells m ss j → (ws : List Written) → Takes m ws j → IsEnd j → IsFit x → may_follow ws ≡ true
        → (n : Input) × (p i ≡ Ok (x, n)) × Spells n ss j
    read_again i j x ss source m before behind ws rest end fit follows =
        let r = rule.again i j x ws (takes_join (written x) ws i m j before rest) end fit follows in
        let same : r.0 ≡ m = takes_same (written x) i r.0 m (rule.takes i r.0 x source r.1).0 before in
        (m, subst (λ (n : Input). p i ≡ Ok (x, n)) same r.1, behind)

-- a part that is written token by token, behind which anything may follow
pub exactly_rule : {A : Type 0} {p : Reader A} {written : A → List Written} {IsFit : A → Type 0} → Rule p written IsFit anything → SpelledRule p (λ x. exactly (written x)) IsFit whatever
exactly_rule {A} {p} {written} {IsFit} rule = record {
  takes = λ i j x source e.
      let t = rule.takes i j x source e in
      (takes_spells (written x) i j t.0, t.1);
  again = λ i j x ss source t end fit follows.
      let parts = spells_split (exactly (written x)) ss i j t in
      let rest = actual ss parts.0 j parts.2 in
      read_again i j x ss source parts.0 (spells_takes (written x) i parts.0 parts.1) parts.2 rest.0 rest.1 end fit;
}
  where
    read_again : (i j : Input) (x : A) (ss : List Spelled) → IsSource i → (m : Input) → Takes i (written x) m → Spells m ss j → (ws : List Written) → Takes m ws j → IsEnd j → IsFit x
        → (n : Input) × (p i ≡ Ok (x, n)) × Spells n ss j
    read_again i j x ss source m before behind ws rest end fit =
        let r = rule.again i j x ws (takes_join (written x) ws i m j before rest) end fit refl in
        let same : r.0 ≡ m = takes_same (written x) i r.0 m (rule.takes i r.0 x source r.1).0 before in
        (m, subst (λ (n : Input). p i ≡ Ok (x, n)) same r.1, behind)

-- the same parts under another type
pub spelled_map_rule : {A B : Type 0} {p : Reader A} {spelled : A → List Spelled} {IsFit : A → Type 0} {may_follow : Behind} → SpelledRule p spelled IsFit may_follow
    → (make : A → B) (parts : B → A) → ((b : B) → make (parts b) ≡ b) → ((a : A) → parts (make a) ≡ a)
    → SpelledRule (make <$> p) (λ b. spelled (parts b)) (λ b. IsFit (parts b)) may_follow
spelled_map_rule {A} {B} {p} {spelled} {IsFit} {may_follow} rule make parts there back = record {
  takes = λ i j y source e.
      let a = bind_ok (p i) (λ x. pure (make x)) (y, j) e in
      let made : B × Input = (make a.0.0, a.0.1) in
      let t = rule.takes i a.0.1 a.0.0 source a.1 in
      let same : parts (make a.0.0) ≡ a.0.0 = back a.0.0 in
      subst (λ (z : B × Input). Spells i (spelled (parts z.0)) z.1 × IsFit (parts z.0)) (ok_is made (y, j) a.2)
      (subst (λ (x : A). Spells i (spelled x) a.0.1 × IsFit x) (sym same) t);
  again = λ i j y ss source t end fit follows.
      let r = rule.again i j (parts y) ss source t end fit follows in
      (r.0, bind_step (p i) (λ x. pure (make x)) (parts y, r.0) r.1 ∙ ap (λ (z : B). ok_of (z, r.0)) (there y), r.2);
}

-- a variant
pub spelled_variant_rule : {A B : Type 0} {p : Reader A} {spelled : A → List Spelled} {IsFit : A → Type 0} {may_follow : Behind} → SpelledRule p spelled IsFit may_follow
    → (make : A → B) (spelled_all : B → List Spelled) → ((a : A) → spelled_all (make a) ≡ spelled a)
    → SpelledRule (make <$> p) spelled_all (λ b. (a : A) × (b ≡ make a) × IsFit a) may_follow
spelled_variant_rule {A} {B} {p} {spelled} {IsFit} {may_follow} rule make spelled_all same = record {
  takes = λ i j y source e.
      let a = bind_ok (p i) (λ x. pure (make x)) (y, j) e in
      let made : B × Input = (make a.0.0, a.0.1) in
      let t = rule.takes i a.0.1 a.0.0 source a.1 in
      subst (λ (z : B × Input). Spells i (spelled_all z.0) z.1 × ((x : A) × (z.0 ≡ make x) × IsFit x)) (ok_is made (y, j) a.2)
      (subst (λ (ss : List Spelled). Spells i ss a.0.1) (sym (same a.0.0)) t.0, (a.0.0, refl, t.1));
  again = λ i j y ss source t end fit follows.
      let t' = subst (λ (rs : List Spelled). Spells i (rs ++ ss) j) (ap spelled_all fit.1 ∙ same fit.0) t in
      let r = rule.again i j fit.0 ss source t' end fit.2 follows in
      (r.0, bind_step (p i) (λ x. pure (make x)) (fit.0, r.0) r.1 ∙ ap (λ (z : B). ok_of (z, r.0)) (sym fit.1), r.2);
}

-- the same fitness in other words
pub spelled_refit_rule : {A : Type 0} {p : Reader A} {spelled : A → List Spelled} {IsFit IsFit' : A → Type 0} {may_follow : Behind} → SpelledRule p spelled IsFit may_follow
    → ((x : A) → IsFit x → IsFit' x) → ((x : A) → IsFit' x → IsFit x) → SpelledRule p spelled IsFit' may_follow
spelled_refit_rule rule there back = record {
  takes = λ i j x source e.
      let t = rule.takes i j x source e in
      (t.0, there x t.1);
  again = λ i j x ss source t end fit follows. rule.again i j x ss source t end (back x fit) follows;
}

-- the same tokens in other words
pub respelled_rule : {A : Type 0} {p : Reader A} {spelled spelled' : A → List Spelled} {IsFit : A → Type 0} {may_follow : Behind} → SpelledRule p spelled IsFit may_follow
    → ((x : A) → spelled x ≡ spelled' x) → SpelledRule p spelled' IsFit may_follow
respelled_rule {A} {p} {spelled} {spelled'} {IsFit} {may_follow} rule same = record {
  takes = λ i j x source e.
      let t = rule.takes i j x source e in
      (subst (λ (ss : List Spelled). Spells i ss j) (same x) t.0, t.1);
  again = λ i j x ss source t end fit follows. rule.again i j x ss source (subst (λ (rs : List Spelled). Spells i (rs ++ ss) j) (sym (same x)) t) end fit follows;
}

-- one part after the other
pub spelled_pair_rule : {A B : Type 0} {p : Reader A} {q : Reader B} {spelled_p : A → List Spelled} {spelled_q : B → List Spelled} {IsFit_p : A → Type 0} {IsFit_q : B → Type 0} {follow_p follow_q : Behind}
    → SpelledRule p spelled_p IsFit_p follow_p → SpelledRule q spelled_q IsFit_q follow_q
    → ((y : B) (ss : List Spelled) → IsFit_q y → follow_q ss ≡ true → follow_p (spelled_q y ++ ss) ≡ true)
    → SpelledRule (p & q) (λ (z : A × B). spelled_p z.0 ++ spelled_q z.1) (λ (z : A × B). IsFit_p z.0 × IsFit_q z.1) follow_q
spelled_pair_rule {A} {B} {p} {q} {spelled_p} {spelled_q} {IsFit_p} {IsFit_q} {follow_p} {follow_q} first second before = record {
  takes = λ i j z source e.
      let a = bind_ok (p i) (λ x. (λ y. (x, y)) <$> q) (z, j) e in
      let b = bind_ok (q a.0.1) (λ y. pure (a.0.0, y)) (z, j) a.2 in
      let made : (A × B) × Input = ((a.0.0, b.0.0), b.0.1) in
      let t = first.takes i a.0.1 a.0.0 source a.1 in
      let u = second.takes a.0.1 b.0.1 b.0.0 (spells_source (spelled_p a.0.0) i a.0.1 source t.0) b.1 in
      subst (λ (y : (A × B) × Input). Spells i (spelled_p y.0.0 ++ spelled_q y.0.1) y.1 × (IsFit_p y.0.0 × IsFit_q y.0.1)) (ok_is made (z, j) b.2)
      (spells_join (spelled_p a.0.0) (spelled_q b.0.0) i a.0.1 b.0.1 t.0 u.0, (t.1, u.1));
  again = λ i j z ss source t end fit follows.
      let t' = subst (λ (rs : List Spelled). Spells i rs j) (append_assoc (spelled_p z.0) (spelled_q z.1) ss) t in
      let r = first.again i j z.0 (spelled_q z.1 ++ ss) source t' end fit.0 (before z.1 ss fit.1 follows) in
      let source' = spells_source (spelled_p z.0) i r.0 source (first.takes i r.0 z.0 source r.1).0 in
      let s = second.again r.0 j z.1 ss source' r.2 end fit.1 follows in
      (s.0, bind_step (p i) (λ x. (λ y. (x, y)) <$> q) (z.0, r.0) r.1 ∙ bind_step (q r.0) (λ y. pure (z.0, y)) (z.1, s.0) s.1, s.2);
}

-- one of two, by a test of the next token
pub spelled_choice_rule : {A : Type 0} {p q : Reader A} {spelled : A → List Spelled} {IsFit_p IsFit_q : A → Type 0} (test : Form → Bool)
    → SpelledRule p spelled IsFit_p whatever → SpelledRule q spelled IsFit_q whatever
    → ((x : A) (ss : List Spelled) → IsFit_p x → begins_with test (spelled x ++ ss) ≡ true)
    → ((x : A) (ss : List Spelled) → IsFit_q x → begins_with (λ f. not (test f)) (spelled x ++ ss) ≡ true)
    → SpelledRule (choice (λ f g. test f) p q) spelled (λ x. IsFit_p x ⊎ IsFit_q x) whatever
unfolding choice
spelled_choice_rule {A} {p} {q} {spelled} {IsFit_p} {IsFit_q} test first second begun not_begun = record {
  takes = λ i j x source e. read i j x source (test (front i)) e;
  again = λ i j x ss source t end fit follows. reread i j x ss source t end fit;
}
  where
    read : (i j : Input) (x : A) → IsSource i → (seen : Bool) → (if seen then p i else q i) ≡ Ok (x, j) → Spells i (spelled x) j × (IsFit_p x ⊎ IsFit_q x)
    read i j x source true e =
        let t = first.takes i j x source e in
        (t.0, inl t.1)
    read i j x source false e =
        let t = second.takes i j x source e in
        (t.0, inr t.1)

    reread : (i j : Input) (x : A) (ss : List Spelled) → IsSource i → Spells i (spelled x ++ ss) j → IsEnd j → IsFit_p x ⊎ IsFit_q x
        → (m : Input) × ((if test (front i) then p i else q i) ≡ Ok (x, m)) × Spells m ss j
    reread i j x ss source t end (inl fit) =
        let seen : test (front i) ≡ true = begins_front test (spelled x ++ ss) i j t (begun x ss fit) in
        let r = first.again i j x ss source t end fit refl in
        (r.0, ap (λ (b : Bool). if b then p i else q i) seen ∙ r.1, r.2)
    reread i j x ss source t end (inr fit) =
        let seen : test (front i) ≡ false = not-true (test (front i)) (begins_front (λ f. not (test f)) (spelled x ++ ss) i j t (not_begun x ss fit)) in
        let r = second.again i j x ss source t end fit refl in
        (r.0, ap (λ (b : Bool). if b then p i else q i) seen ∙ r.1, r.2)

-- parts that are found up to the end are spelled so and fit
found : {A : Type 0} {p : Reader A} {spelled : A → List Spelled} {IsFit : A → Type 0} (stops : Form → Bool) → SpelledRule p spelled IsFit whatever
    → (n : ℕ) (parts : List A) (i j : Input) (xs : List A) → IsSource i → many_from stops p n parts i ≡ Ok (xs, j)
    → (more : List A) × (xs ≡ parts ++ more) × Spells i (one_by_one spelled more) j × AllByRecursion IsFit more
unfolding many_from
found {A} {p} {spelled} {IsFit} stops rule zero parts i j xs source e =
    let made : List A × Input = (parts, i) in
    let same = ok_is made (xs, j) e in
    ([], ap (λ (y : List A × Input). y.0) (sym same) ∙ sym (append-nil parts), ap (λ (y : List A × Input). y.1) same, tt)
found {A} {p} {spelled} {IsFit} stops rule (suc n) parts i j xs source e = by (found stops rule n) (stops (front i)) e
  where
    by : ((parts : List A) (i j : Input) (xs : List A) → IsSource i → many_from stops p n parts i ≡ Ok (xs, j) → (more : List A) × (xs ≡ parts ++ more) × Spells i (one_by_one spelled more) j × AllByRecursion IsFit more)
        → (ended : Bool) → (if ended then Ok (parts, i) else (p >>= λ x. many_from stops p n (parts ++ x ∷ [])) i) ≡ Ok (xs, j)
        → (more : List A) × (xs ≡ parts ++ more) × Spells i (one_by_one spelled more) j × AllByRecursion IsFit more
    by others true f =
        let made : List A × Input = (parts, i) in
        let same = ok_is made (xs, j) f in
        ([], ap (λ (y : List A × Input). y.0) (sym same) ∙ sym (append-nil parts), ap (λ (y : List A × Input). y.1) same, tt)
    by others false f =
        let a = bind_ok (p i) (λ x. many_from stops p n (parts ++ x ∷ [])) (xs, j) f in
        let t = rule.takes i a.0.1 a.0.0 source a.1 in
        let r = others (parts ++ a.0.0 ∷ []) a.0.1 j xs (spells_source (spelled a.0.0) i a.0.1 source t.0) a.2 in
        (a.0.0 ∷ r.0, r.1 ∙ append_assoc parts (a.0.0 ∷ []) r.0, spells_join (spelled a.0.0) (one_by_one spelled r.0) i a.0.1 j t.0 r.2, (t.1, r.3))

-- parts that are spelled up to the end are found
refound : {A : Type 0} {p : Reader A} {spelled : A → List Spelled} {IsFit : A → Type 0} (stops : Form → Bool) → SpelledRule p spelled IsFit whatever
    → ((x : A) (ss : List Spelled) → IsFit x → begins_with (λ f. not (stops f)) (spelled x ++ ss) ≡ true)
    → (n : ℕ) (parts more : List A) (i j : Input) (ss : List Spelled) → length more ≤ n → IsSource i → Spells i (one_by_one spelled more ++ ss) j → IsEnd j → AllByRecursion IsFit more
    → begins_with stops ss ≡ true → (m : Input) × (many_from stops p n parts i ≡ Ok (parts ++ more, m)) × Spells m ss j
unfolding many_from
refound stops rule begun zero parts [] i j ss le source t end fit ended = (i, ap (λ xs. ok_of (xs, i)) (sym (append-nil parts)), t)
refound stops rule begun zero parts (x ∷ more) i j ss le source t end fit ended = absurd (omega arith)
refound {A} {p} {spelled} {IsFit} stops rule begun (suc n) parts [] i j ss le source t end fit ended =
    let seen : stops (front i) ≡ true = begins_front stops ss i j t ended in
    (i, ap (λ (b : Bool). if b then Ok (parts, i) else (p >>= λ x. many_from stops p n (parts ++ x ∷ [])) i) seen ∙ ap (λ (xs : List A). ok_of (xs, i)) (sym (append-nil parts)), t)
refound {A} {p} {spelled} {IsFit} stops rule begun (suc n) parts (x ∷ more) i j ss le source t end fit ended =
    let t' = subst (λ (rs : List Spelled). Spells i rs j) (append_assoc (spelled x) (one_by_one spelled more) ss) t in
    let goes : stops (front i) ≡ false = not-true (stops (front i)) (begins_front (λ f. not (stops f)) (spelled x ++ (one_by_one spelled more ++ ss)) i j t' (begun x (one_by_one spelled more ++ ss) fit.0)) in
    let r = rule.again i j x (one_by_one spelled more ++ ss) source t' end fit.0 refl in
    let source' = spells_source (spelled x) i r.0 source (rule.takes i r.0 x source r.1).0 in
    let s = refound stops rule begun n (parts ++ x ∷ []) more r.0 j ss (omega arith) source' r.2 end fit.1 ended in (
      s.0,
      ap (λ (b : Bool). if b then Ok (parts, i) else (p >>= λ y. many_from stops p n (parts ++ y ∷ [])) i) goes
          ∙ bind_step (p i) (λ y. many_from stops p n (parts ++ y ∷ [])) (x, r.0) r.1 ∙ s.1 ∙ ap (λ (xs : List A). ok_of (xs, s.0)) (append_assoc parts (x ∷ []) more),
      s.2,
    )

-- each part has a token
parts_length : {A : Type 0} (spelled : A → List Spelled) → ((x : A) → 0 < length (spelled x)) → (xs : List A) → length xs ≤ length (one_by_one spelled xs)
parts_length spelled some [] = omega arith
parts_length spelled some (x ∷ xs) = omega (arith, some x, parts_length spelled some xs, length-append (spelled x) (one_by_one spelled xs))

-- parts up to a token that ends them
pub spelled_many_rule : {A : Type 0} {p : Reader A} {spelled : A → List Spelled} {IsFit : A → Type 0} (stops : Form → Bool) → SpelledRule p spelled IsFit whatever
    → ((x : A) → 0 < length (spelled x)) → ((x : A) (ss : List Spelled) → IsFit x → begins_with (λ f. not (stops f)) (spelled x ++ ss) ≡ true)
    → SpelledRule (many stops p) (one_by_one spelled) (AreFit IsFit) (λ ss. begins_with stops ss)
unfolding many many_after
spelled_many_rule {A} {p} {spelled} {IsFit} stops rule some begun = record {
  takes = λ i j xs source e.
      let r = found stops rule (length i.tokens) [] i j xs source e in
      let few : length r.0 < 2 ^ 32 = omega (arith, source.few, spells_length (one_by_one spelled r.0) i j r.2, parts_length spelled some r.0) in
      subst (λ (ys : List A). Spells i (one_by_one spelled ys) j × AreFit IsFit ys) (sym r.1) (r.2, record { few = few; each = r.3 });
  again = λ i j xs ss source t end fit follows.
      let le : length xs ≤ length i.tokens = omega (arith, spells_length (one_by_one spelled xs ++ ss) i j t, length-append (one_by_one spelled xs) ss, parts_length spelled some xs) in
      refound stops rule begun (length i.tokens) [] xs i j ss le source t end fit.each follows;
}

-- ---- the whole list

-- all tokens are spelled so where they are, one by one
pub written_spells : (text : List ℕ) (number : ℕ) (tokens : List Token) (ss : List Spelled) → AreWritten text number tokens ss
    → (j : Input) × IsEnd j × Spells (record { text = text; tokens = tokens; number = number }) ss j
unfolding front location next
written_spells text number [] [] h = (record { text = text; tokens = []; number = number }, refl, refl)
written_spells text number [] (s ∷ ss) h = absurd h
written_spells text number (token ∷ tokens) [] h = absurd h
written_spells text number (token ∷ tokens) (Exactly w ∷ ss) h =
    let r = written_spells text (number + 1) tokens ss h.1 in
    (r.0, r.1, (record { some = omega arith; form = h.0.form; kept = h.0.location }, r.2))
written_spells text number (token ∷ tokens) (Inside ∷ ss) h =
    let r = written_spells text (number + 1) tokens ss h.1 in
    (r.0, r.1, ((omega arith, h.0), r.2))

-- what is spelled is what the tokens are, where all are taken
pub spells_written : (text : List ℕ) (number : ℕ) (tokens : List Token) (ss : List Spelled) (j : Input) → IsEnd j → Spells (record { text = text; tokens = tokens; number = number }) ss j
    → AreWritten text number tokens ss
unfolding front location next
spells_written text number [] [] j end t = tt
spells_written text number [] (Exactly w ∷ ss) j end t = absurd (omega (arith, t.0.some))
spells_written text number [] (Inside ∷ ss) j end t = absurd (omega (arith, t.0.0))
spells_written text number (token ∷ tokens) [] j end t =
    let none : length (token ∷ tokens) ≡ length j.tokens = ap (λ (k : Input). length k.tokens) t in
    let ended : length j.tokens ≡ 0 = ap (λ (ts : List Token). length ts) end in
    absurd (omega arith)
spells_written text number (token ∷ tokens) (Exactly w ∷ ss) j end t = (record { form = t.0.form; location = t.0.kept }, spells_written text (number + 1) tokens ss j end t.1)
spells_written text number (token ∷ tokens) (Inside ∷ ss) j end t = (t.0.1, spells_written text (number + 1) tokens ss j end t.1)
