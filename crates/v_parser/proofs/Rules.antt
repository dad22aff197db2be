-- What is read is written so, and what is written so is read: for readers, and for what is made of them.
use Rattle.std.proofs.Common.{◌≡◌, ℕ, zero, suc, ◌+◌, ◌<◌, ◌≤◌, ◌^◌, Bool, true, false, not, ◌&&◌, if◌then◌else◌, List, [], ◌∷◌, ◌++◌, length, Option, Some, None, Ok, Err, ◌⊎◌, refl, sym, ap, subst, ◌∙◌, arith, inl, inr, append_assoc, append-nil, length-append}
use Rattle.std.specs.List.{AllByRecursion}
use Rattle.std.proofs.lemmas.Bool.{and_parts, not-true, eqb-true}
use Rattle.v_lexer.specs.declared.token.Token.{Token}
use Rattle.v_tree.specs.declared.locations.Location.{Location}
use Rattle.v_tree.specs.Written.{Form, form_of, Written, at, bare, placed_first, IsKept, written_if_there, behind_commas, between_commas, one_by_one}
use Rattle.v_tree.specs.Written as form
use Rattle.v_tree.specs.Fit.{IsSoundForm, AreFit, AreSome, IsFitIfThere}
use Rattle.v_parser.specs.Input.{Input, Outcome, Reader, front_in, front, location, next_in, next, and_then, ◌>>=◌, pure, ◌<$>◌, ◌&◌, token_by, token, is_mark, optional, choice, commas_from, commas, comma_list, many_from, many_after, many, some, here}

-- the next token is what is written
pub record StandsAt (i : Input) (w : Written) : Type 0 where
  pub some : 0 < length i.tokens
  pub form : front i ≡ w.form
  pub kept : IsKept w.location (location i)

-- from one input to another the tokens are what is written
abbrev pub Takes : Input → List Written → Input → Type 0
Takes i [] j = i ≡ j
Takes i (w ∷ ws) j = StandsAt i w × Takes (next i) ws j

-- the tokens are few enough, and each says what a tree may keep
pub record IsSource (i : Input) : Type 0 where
  pub few : length i.tokens < 4294967295
  pub sound : AllByRecursion (λ (t : Token). IsSoundForm (form_of i.text t)) i.tokens

-- no token is left
abbrev pub IsEnd : Input → Type 0
IsEnd i = i.tokens ≡ []

-- what the first and the second of what is written say
abbrev pub first_form : List Written → Form
first_form [] = form.Other
first_form (w ∷ ws) = w.form

abbrev pub second_form : List Written → Form
second_form [] = form.Other
second_form (w ∷ ws) = first_form ws

abbrev pub Follow : Type 0
Follow = List Written → Bool

abbrev pub anything : Follow
anything ws = true

-- what is read is written so and fits; what is written so and fits is read, where what is written behind it may follow
pub record Rule {A : Type 0} (read : Reader A) (written : A → List Written) (IsFit : A → Type 0) (may_follow : Follow) : Type 0 where
  pub takes : (i j : Input) (x : A) → IsSource i → read i ≡ Ok (x, j) → Takes i (written x) j × IsFit x
  pub again : (i j : Input) (x : A) (ws : List Written) → Takes i (written x ++ ws) j → IsEnd j → IsFit x → may_follow ws ≡ true → (m : Input) × (read i ≡ Ok (x, m)) × Takes m ws j

-- ---- what Takes says

-- one part taken after the other is both taken
pub takes_join : (a b : List Written) (i m j : Input) → Takes i a m → Takes m b j → Takes i (a ++ b) j
takes_join [] b i m j h k = subst (λ (n : Input). Takes n b j) (sym h) k
takes_join (w ∷ a) b i m j h k = (h.0, takes_join a b (next i) m j h.1 k)

-- one token fewer is left after the first of tokens
next_length : (text : List ℕ) (number : ℕ) (tokens : List Token) → 0 < length tokens → suc (length (next_in text number tokens).tokens) ≡ length tokens
next_length text number [] h = absurd (omega arith)
next_length text number (token ∷ tokens) h = refl

-- one token fewer is left after the next one
pub next_shorter : (i : Input) → 0 < length i.tokens → suc (length (next i).tokens) ≡ length i.tokens
unfolding next
next_shorter i h = next_length i.text i.number i.tokens h

-- what is left of tokens after the first is as sound
next_sound : (text : List ℕ) (number : ℕ) (tokens : List Token) → length tokens < 4294967295 → AllByRecursion (λ (t : Token). IsSoundForm (form_of text t)) tokens → IsSource (next_in text number tokens)
next_sound text number [] few sound = record { few = few; sound = sound }
next_sound text number (token ∷ tokens) few sound = record { few = omega arith; sound = sound.1 }

-- what is left after the next token is as sound
pub next_source : (i : Input) → IsSource i → IsSource (next i)
unfolding next
next_source i h = next_sound i.text i.number i.tokens h.few h.sound

-- at the end nothing is next, now and later
end_front : (i : Input) → IsEnd i → front i ≡ form.Other
unfolding front
end_front i h = ap (front_in i.text) h

-- at the end nothing is left after the next token
end_next : (i : Input) → IsEnd i → IsEnd (next i)
unfolding next
end_next i h = ap (λ (tokens : List Token). (next_in i.text i.number tokens).tokens) h

-- the tokens that are taken are as many as are written
pub takes_length : (ws : List Written) (i j : Input) → Takes i ws j → length ws + length j.tokens ≡ length i.tokens
takes_length [] i j h = omega (arith, ap (λ (k : Input). length k.tokens) h)
takes_length (w ∷ ws) i j h = omega (arith, takes_length ws (next i) j h.1, next_shorter i h.0.some)

-- what is left is as sound as the whole
pub takes_source : (ws : List Written) (i j : Input) → IsSource i → Takes i ws j → IsSource j
takes_source [] i j h t = subst IsSource t h
takes_source (w ∷ ws) i j h t = takes_source ws (next i) j (next_source i h) t.1

-- what is next is what is written first
pub takes_front : (ws : List Written) (i j : Input) → Takes i ws j → IsEnd j → front i ≡ first_form ws
takes_front [] i j h end = end_front i (ap (λ (k : Input). k.tokens) h ∙ end)
takes_front (w ∷ ws) i j h end = h.0.form

-- what is next but one is what is written second
pub takes_second : (ws : List Written) (i j : Input) → Takes i ws j → IsEnd j → front (next i) ≡ second_form ws
takes_second [] i j h end = end_front (next i) (end_next i (ap (λ (k : Input). k.tokens) h ∙ end))
takes_second (w ∷ ws) i j h end = takes_front ws (next i) j h.1 end

-- ---- steps of readers

-- what was read before what is read in the end
pub bind_ok : {A B : Type 0} (r : Outcome A) (f : A → Reader B) (y : B × Input) → and_then r f ≡ Ok y → (x : A × Input) × (r ≡ Ok x) × (f x.0 x.1 ≡ Ok y)
bind_ok (Ok x) f y e = (x, refl, e)
bind_ok (Err h) f y e = absurd cc

abbrev pub ok_of : {A : Type 0} → A × Input → Outcome A
ok_of x = Ok x

-- what is read is one thing
pub ok_is : {A : Type 0} (x y : A × Input) → ok_of x ≡ ok_of y → x ≡ y
ok_is x y e = cc

-- a first reader's outcome goes to the second
pub bind_step : {A B : Type 0} (r : Outcome A) (f : A → Reader B) (x : A × Input) → r ≡ Ok x → and_then r f ≡ f x.0 x.1
bind_step {A} r f x e = ap (λ (o : Outcome A). and_then o f) e

-- ---- rules

-- what the first of tokens says is what a tree may keep
sound_in : (text : List ℕ) (tokens : List Token) → AllByRecursion (λ (t : Token). IsSoundForm (form_of text t)) tokens → IsSoundForm (front_in text tokens)
sound_in text [] h = tt
sound_in text (token ∷ tokens) h = h.0

-- what the next token says is what a tree may keep
front_sound : (i : Input) → IsSource i → IsSoundForm (front i)
unfolding front
front_sound i h = sound_in i.text i.tokens h.sound

-- tokens are there where the first of them says something
some_in : (text : List ℕ) (tokens : List Token) → (front_in text tokens ≡ form.Other → ⊥) → 0 < length tokens
some_in text [] h = absurd (h refl)
some_in text (token ∷ tokens) h = omega arith

-- a token is left where what is next is something
front_some : (i : Input) → (front i ≡ form.Other → ⊥) → 0 < length i.tokens
unfolding front
front_some i h = some_in i.text i.tokens h

-- what is picked isn't picked at the end
pick_some : {A : Type 0} (pick : Form → Option A) (x : A) (i : Input) → pick form.Other ≡ None → pick (front i) ≡ Some x → front i ≡ form.Other → ⊥
pick_some pick x i none some other =
    let same = ap pick other in
    cc

abbrev some_of : {A : Type 0} → A → Option A
some_of x = Some x

-- a token that is picked is read
picks : {A : Type 0} (pick : Form → Option A) (i : Input) (x : A) → pick (front i) ≡ Some x → token pick i ≡ Ok ((x, location i), next i)
picks {A} pick i x e = ap (λ (o : Option A). token_by o i) e

-- a token that is read is picked, and the rest is what is left after it
token_is : {A : Type 0} (o : Option A) (i : Input) (y : (A × Location) × Input) → token_by o i ≡ Ok y → (o ≡ Some y.0.0) × (y.0.1 ≡ location i) × (y.1 ≡ next i)
token_is {A} (Some x) i y e =
    let made : (A × Location) × Input = ((x, location i), next i) in
    let same = ok_is made y e in
    (ap (λ (z : (A × Location) × Input). some_of z.0.0) same, ap (λ (z : (A × Location) × Input). z.0.1) (sym same), ap (λ (z : (A × Location) × Input). z.1) (sym same))
token_is None i y e = absurd cc

-- a token whose location is kept
pub token_rule : {A : Type 0} (pick : Form → Option A) (says : A → Form) (IsFit : A → Type 0) → pick form.Other ≡ None → ((f : Form) (x : A) → pick f ≡ Some x → f ≡ says x)
    → ((f : Form) (x : A) → IsSoundForm f → pick f ≡ Some x → IsFit x) → ((x : A) → IsFit x → pick (says x) ≡ Some x)
    → Rule (token pick) (λ (z : A × Location). at z.1 (says z.0) ∷ []) (λ (z : A × Location). IsFit z.0) anything
token_rule {A} pick says IsFit none is fits back = record {
  takes = λ i j x source e.
      let t = token_is (pick (front i)) i (x, j) e in
      let there : 0 < length i.tokens = front_some i (pick_some pick x.0 i none t.0) in
      let stands : StandsAt i (at x.1 (says x.0)) = record { some = there; form = is (front i) x.0 t.0; kept = t.1 } in
      ((stands, sym t.2), fits (front i) x.0 (front_sound i source) t.0);
  again = λ i j x ws t end fit follows.
      let picked : pick (front i) ≡ Some x.0 = ap pick t.0.form ∙ back x.0 fit in
      (next i, picks pick i x.0 picked ∙ ap (λ (at : Location). ok_of ((x.0, at), next i)) (sym t.0.kept), t.1);
}

-- a token whose location isn't kept
pub bare_rule : {A : Type 0} (pick : Form → Option A) (says : A → Form) (IsFit : A → Type 0) → pick form.Other ≡ None → ((f : Form) (x : A) → pick f ≡ Some x → f ≡ says x)
    → ((f : Form) (x : A) → IsSoundForm f → pick f ≡ Some x → IsFit x) → ((x : A) → IsFit x → pick (says x) ≡ Some x)
    → Rule ((λ (z : A × Location). z.0) <$> token pick) (λ (x : A). bare (says x) ∷ []) IsFit anything
bare_rule {A} pick says IsFit none is fits back = record {
  takes = λ i j x source e.
      let a = bind_ok (token pick i) (λ (z : A × Location). pure z.0) (x, j) e in
      let t = token_is (pick (front i)) i a.0 a.1 in
      let there : 0 < length i.tokens = front_some i (pick_some pick a.0.0.0 i none t.0) in
      let stands : StandsAt i (bare (says a.0.0.0)) = record { some = there; form = is (front i) a.0.0.0 t.0; kept = tt } in
      let made : A × Input = (a.0.0.0, a.0.1) in
      subst (λ (y : A × Input). Takes i (bare (says y.0) ∷ []) y.1 × IsFit y.0) (ok_is made (x, j) a.2)
      ((stands, sym t.2), fits (front i) a.0.0.0 (front_sound i source) t.0);
  again = λ i j x ws t end fit follows.
      let picked : pick (front i) ≡ Some x = ap pick t.0.form ∙ back x fit in
      (next i, bind_step (token pick i) (λ (z : A × Location). pure z.0) ((x, location i), next i) (picks pick i x picked), t.1);
}

-- the same parts under another type
pub map_rule : {A B : Type 0} {p : Reader A} {written : A → List Written} {IsFit : A → Type 0} {may_follow : Follow} → Rule p written IsFit may_follow
    → (make : A → B) (parts : B → A) → ((b : B) → make (parts b) ≡ b) → ((a : A) → parts (make a) ≡ a)
    → Rule (make <$> p) (λ b. written (parts b)) (λ b. IsFit (parts b)) may_follow
map_rule {A} {B} {p} {written} {IsFit} {may_follow} rule make parts there back = record {
  takes = λ i j y source e.
      let a = bind_ok (p i) (λ x. pure (make x)) (y, j) e in
      let made : B × Input = (make a.0.0, a.0.1) in
      let t = rule.takes i a.0.1 a.0.0 source a.1 in
      let same : parts (make a.0.0) ≡ a.0.0 = back a.0.0 in
      subst (λ (z : B × Input). Takes i (written (parts z.0)) z.1 × IsFit (parts z.0)) (ok_is made (y, j) a.2)
      (subst (λ (x : A). Takes i (written x) a.0.1 × IsFit x) (sym same) t);
  again = λ i j y ws t end fit follows.
      let r = rule.again i j (parts y) ws t end fit follows in
      (r.0, bind_step (p i) (λ x. pure (make x)) (parts y, r.0) r.1 ∙ ap (λ (z : B). ok_of (z, r.0)) (there y), r.2);
}

-- a variant
pub variant_rule : {A B : Type 0} {p : Reader A} {written : A → List Written} {IsFit : A → Type 0} {may_follow : Follow} → Rule p written IsFit may_follow
    → (make : A → B) (written_all : B → List Written) → ((a : A) → written_all (make a) ≡ written a)
    → Rule (make <$> p) written_all (λ b. (a : A) × (b ≡ make a) × IsFit a) may_follow
variant_rule {A} {B} {p} {written} {IsFit} {may_follow} rule make written_all same = record {
  takes = λ i j y source e.
      let a = bind_ok (p i) (λ x. pure (make x)) (y, j) e in
      let made : B × Input = (make a.0.0, a.0.1) in
      let t = rule.takes i a.0.1 a.0.0 source a.1 in
      subst (λ (z : B × Input). Takes i (written_all z.0) z.1 × ((x : A) × (z.0 ≡ make x) × IsFit x)) (ok_is made (y, j) a.2)
      (subst (λ (ws : List Written). Takes i ws a.0.1) (sym (same a.0.0)) t.0, (a.0.0, refl, t.1));
  again = λ i j y ws t end fit follows.
      let t' = subst (λ (vs : List Written). Takes i (vs ++ ws) j) (ap written_all fit.1 ∙ same fit.0) t in
      let r = rule.again i j fit.0 ws t' end fit.2 follows in
      (r.0, bind_step (p i) (λ x. pure (make x)) (fit.0, r.0) r.1 ∙ ap (λ (z : B). ok_of (z, r.0)) (sym fit.1), r.2);
}

-- the same fitness in other words
pub refit_rule : {A : Type 0} {p : Reader A} {written : A → List Written} {IsFit IsFit' : A → Type 0} {may_follow : Follow} → Rule p written IsFit may_follow
    → ((x : A) → IsFit x → IsFit' x) → ((x : A) → IsFit' x → IsFit x) → Rule p written IsFit' may_follow
refit_rule rule there back = record {
  takes = λ i j x source e.
      let t = rule.takes i j x source e in
      (t.0, there x t.1);
  again = λ i j x ws t end fit follows. rule.again i j x ws t end (back x fit) follows;
}

-- the same tokens in other words
pub respell_rule : {A : Type 0} {p : Reader A} {written written' : A → List Written} {IsFit : A → Type 0} {may_follow : Follow} → Rule p written IsFit may_follow
    → ((x : A) → IsFit x → written x ≡ written' x) → Rule p written' IsFit may_follow
respell_rule {A} {p} {written} {written'} {IsFit} {may_follow} rule same = record {
  takes = λ i j x source e.
      let t = rule.takes i j x source e in
      (subst (λ (ws : List Written). Takes i ws j) (same x t.1) t.0, t.1);
  again = λ i j x ws t end fit follows. rule.again i j x ws (subst (λ (vs : List Written). Takes i (vs ++ ws) j) (sym (same x fit)) t) end fit follows;
}

-- less may follow
pub follow_rule : {A : Type 0} {p : Reader A} {written : A → List Written} {IsFit : A → Type 0} {may_follow may_follow' : Follow} → Rule p written IsFit may_follow
    → ((ws : List Written) → may_follow' ws ≡ true → may_follow ws ≡ true) → Rule p written IsFit may_follow'
follow_rule rule less = record {
  takes = rule.takes;
  again = λ i j x ws t end fit follows. rule.again i j x ws t end fit (less ws follows);
}

-- one part after the other
pub pair_rule : {A B : Type 0} {p : Reader A} {q : Reader B} {written_p : A → List Written} {written_q : B → List Written} {IsFit_p : A → Type 0} {IsFit_q : B → Type 0} {follow_p follow_q : Follow}
    → Rule p written_p IsFit_p follow_p → Rule q written_q IsFit_q follow_q
    → ((y : B) (ws : List Written) → IsFit_q y → follow_q ws ≡ true → follow_p (written_q y ++ ws) ≡ true)
    → Rule (p & q) (λ (z : A × B). written_p z.0 ++ written_q z.1) (λ (z : A × B). IsFit_p z.0 × IsFit_q z.1) follow_q
pair_rule {A} {B} {p} {q} {written_p} {written_q} {IsFit_p} {IsFit_q} {follow_p} {follow_q} first second before = record {
  takes = λ i j z source e.
      let a = bind_ok (p i) (λ x. (λ y. (x, y)) <$> q) (z, j) e in
      let b = bind_ok (q a.0.1) (λ y. pure (a.0.0, y)) (z, j) a.2 in
      let made : (A × B) × Input = ((a.0.0, b.0.0), b.0.1) in
      let t = first.takes i a.0.1 a.0.0 source a.1 in
      let u = second.takes a.0.1 b.0.1 b.0.0 (takes_source (written_p a.0.0) i a.0.1 source t.0) b.1 in
      subst (λ (y : (A × B) × Input). Takes i (written_p y.0.0 ++ written_q y.0.1) y.1 × (IsFit_p y.0.0 × IsFit_q y.0.1)) (ok_is made (z, j) b.2)
      (takes_join (written_p a.0.0) (written_q b.0.0) i a.0.1 b.0.1 t.0 u.0, (t.1, u.1));
  again = λ i j z ws t end fit follows.
      let t' = subst (λ (vs : List Written). Takes i vs j) (append_assoc (written_p z.0) (written_q z.1) ws) t in
      let r = first.again i j z.0 (written_q z.1 ++ ws) t' end fit.0 (before z.1 ws fit.1 follows) in
      let s = second.again r.0 j z.1 ws r.2 end fit.1 follows in
      (s.0, bind_step (p i) (λ x. (λ y. (x, y)) <$> q) (z.0, r.0) r.1 ∙ bind_step (q r.0) (λ y. pure (z.0, y)) (z.1, s.0) s.1, s.2);
}

-- what the first two tokens of what is written say
abbrev pub begins : (Form → Form → Bool) → List Written → Bool
begins sees ws = sees (first_form ws) (second_form ws)

-- what is seen next is how what is written begins
seen_as : (sees : Form → Form → Bool) (i j : Input) (ws : List Written) → Takes i ws j → IsEnd j → sees (front i) (front (next i)) ≡ begins sees ws
seen_as sees i j ws t end = ap (λ (f : Form). sees f (front (next i))) (takes_front ws i j t end) ∙ ap (λ (f : Form). sees (first_form ws) f) (takes_second ws i j t end)

-- a part that is there where the first two tokens say so
pub optional_rule : {A : Type 0} {p : Reader A} {written : A → List Written} {IsFit : A → Type 0} {may_follow : Follow} (sees : Form → Form → Bool) → Rule p written IsFit may_follow
    → ((x : A) (ws : List Written) → IsFit x → begins sees (written x ++ ws) ≡ true)
    → Rule (optional sees p) (written_if_there written) (IsFitIfThere IsFit) (λ ws. may_follow ws && not (begins sees ws))
unfolding optional
optional_rule {A} {p} {written} {IsFit} {may_follow} sees rule begun = record {
  takes = λ i j o source e. read i j o source (sees (front i) (front (next i))) e;
  again = λ i j o ws t end fit follows. reread i j o ws t end fit follows;
}
  where
    read : (i j : Input) (o : Option A) → IsSource i → (seen : Bool) → (if seen then (Some <$> p) i else Ok (None, i)) ≡ Ok (o, j) → Takes i (written_if_there written o) j × IsFitIfThere IsFit o
    read i j o source true e =
        let a = bind_ok (p i) (λ (x : A). pure (some_of x)) (o, j) e in
        let made : Option A × Input = (some_of a.0.0, a.0.1) in
        subst (λ (y : Option A × Input). Takes i (written_if_there written y.0) y.1 × IsFitIfThere IsFit y.0) (ok_is made (o, j) a.2)
        (rule.takes i a.0.1 a.0.0 source a.1)
    read i j o source false e =
        let made : Option A × Input = (None, i) in
        subst (λ (y : Option A × Input). Takes i (written_if_there written y.0) y.1 × IsFitIfThere IsFit y.0) (ok_is made (o, j) e)
        (refl, tt)

    reread : (i j : Input) (o : Option A) (ws : List Written) → Takes i (written_if_there written o ++ ws) j → IsEnd j → IsFitIfThere IsFit o → (may_follow ws && not (begins sees ws)) ≡ true
        → (m : Input) × ((if sees (front i) (front (next i)) then (Some <$> p) i else Ok (None, i)) ≡ Ok (o, m)) × Takes m ws j
    reread i j None ws t end fit follows =
        let parts = and_parts (may_follow ws) (not (begins sees ws)) follows in
        let seen : sees (front i) (front (next i)) ≡ false = seen_as sees i j ws t end ∙ not-true (begins sees ws) parts.1 in
        (i, ap (λ (b : Bool). if b then (Some <$> p) i else Ok (None, i)) seen, t)
    reread i j (Some x) ws t end fit follows =
        let parts = and_parts (may_follow ws) (not (begins sees ws)) follows in
        let seen : sees (front i) (front (next i)) ≡ true = seen_as sees i j (written x ++ ws) t end ∙ begun x ws fit in
        let r = rule.again i j x ws t end fit parts.0 in
        (r.0, ap (λ (b : Bool). if b then (Some <$> p) i else Ok (None, i)) seen ∙ bind_step (p i) (λ (x : A). pure (some_of x)) (x, r.0) r.1, r.2)

-- one of two, by the first two tokens
pub choice_rule : {A : Type 0} {p q : Reader A} {written : A → List Written} {IsFit_p IsFit_q : A → Type 0} {follow_p follow_q : Follow} (sees : Form → Form → Bool)
    → Rule p written IsFit_p follow_p → Rule q written IsFit_q follow_q
    → ((x : A) (ws : List Written) → IsFit_p x → follow_p ws ≡ true → begins sees (written x ++ ws) ≡ true)
    → ((x : A) (ws : List Written) → IsFit_q x → follow_q ws ≡ true → begins sees (written x ++ ws) ≡ false)
    → Rule (choice sees p q) written (λ x. IsFit_p x ⊎ IsFit_q x) (λ ws. follow_p ws && follow_q ws)
unfolding choice
choice_rule {A} {p} {q} {written} {IsFit_p} {IsFit_q} {follow_p} {follow_q} sees first second begun not_begun = record {
  takes = λ i j x source e. read i j x source (sees (front i) (front (next i))) e;
  again = λ i j x ws t end fit follows. reread i j x ws t end (and_parts (follow_p ws) (follow_q ws) follows) fit;
}
  where
    read : (i j : Input) (x : A) → IsSource i → (seen : Bool) → (if seen then p i else q i) ≡ Ok (x, j) → Takes i (written x) j × (IsFit_p x ⊎ IsFit_q x)
    read i j x source true e =
        let t = first.takes i j x source e in
        (t.0, inl t.1)
    read i j x source false e =
        let t = second.takes i j x source e in
        (t.0, inr t.1)

    reread : (i j : Input) (x : A) (ws : List Written) → Takes i (written x ++ ws) j → IsEnd j → (follow_p ws ≡ true) × (follow_q ws ≡ true) → IsFit_p x ⊎ IsFit_q x
        → (m : Input) × ((if sees (front i) (front (next i)) then p i else q i) ≡ Ok (x, m)) × Takes m ws j
    reread i j x ws t end follows (inl fit) =
        let seen : sees (front i) (front (next i)) ≡ true = seen_as sees i j (written x ++ ws) t end ∙ begun x ws fit follows.0 in
        let r = first.again i j x ws t end fit follows.0 in
        (r.0, ap (λ (b : Bool). if b then p i else q i) seen ∙ r.1, r.2)
    reread i j x ws t end follows (inr fit) =
        let seen : sees (front i) (front (next i)) ≡ false = seen_as sees i j (written x ++ ws) t end ∙ not_begun x ws fit follows.1 in
        let r = second.again i j x ws t end fit follows.1 in
        (r.0, ap (λ (b : Bool). if b then p i else q i) seen ∙ r.1, r.2)

-- no comma is next
abbrev pub no_comma : Follow
no_comma ws = not (is_mark 44 (first_form ws))

-- a comma that is seen is what is next
comma_is : (f : Form) → is_mark 44 f ≡ true → f ≡ form.Mark 44
comma_is (form.Mark b) e = ap form.Mark (eqb-true b 44 e)
comma_is f e = absurd cc

-- a comma that is seen stands there
comma_stands : (i : Input) → is_mark 44 (front i) ≡ true → StandsAt i (bare (form.Mark 44))
comma_stands i e =
    let is = comma_is (front i) e in
    let some : front i ≡ form.Other → ⊥ = λ (other : front i ≡ form.Other). cc in
    record { some = front_some i some; form = is; kept = tt }

-- parts that are found behind commas are written so and fit
commas_found : {A : Type 0} {p : Reader A} {written : A → List Written} {IsFit : A → Type 0} {may_follow : Follow} → Rule p written IsFit may_follow
    → (n : ℕ) (found : List A) (i j : Input) (xs : List A) → IsSource i → commas_from p n found i ≡ Ok (xs, j)
    → (more : List A) × (xs ≡ found ++ more) × Takes i (behind_commas written more) j × AllByRecursion IsFit more
unfolding commas_from
commas_found {A} {p} {written} {IsFit} {may_follow} rule zero found i j xs source e =
    let made : List A × Input = (found, i) in
    let same = ok_is made (xs, j) e in
    ([], ap (λ (y : List A × Input). y.0) (sym same) ∙ sym (append-nil found), ap (λ (y : List A × Input). y.1) same, tt)
commas_found {A} {p} {written} {IsFit} {may_follow} rule (suc n) found i j xs source e = by (commas_found rule n) (is_mark 44 (front i)) refl e
  where
    by : ((found : List A) (i j : Input) (xs : List A) → IsSource i → commas_from p n found i ≡ Ok (xs, j) → (more : List A) × (xs ≡ found ++ more) × Takes i (behind_commas written more) j × AllByRecursion IsFit more)
        → (seen : Bool) → is_mark 44 (front i) ≡ seen → (if seen then (p >>= λ x. commas_from p n (found ++ x ∷ [])) (next i) else Ok (found, i)) ≡ Ok (xs, j)
        → (more : List A) × (xs ≡ found ++ more) × Takes i (behind_commas written more) j × AllByRecursion IsFit more
    by others true is f =
        let a = bind_ok (p (next i)) (λ x. commas_from p n (found ++ x ∷ [])) (xs, j) f in
        let t = rule.takes (next i) a.0.1 a.0.0 (next_source i source) a.1 in
        let r = others (found ++ a.0.0 ∷ []) a.0.1 j xs (takes_source (written a.0.0) (next i) a.0.1 (next_source i source) t.0) a.2 in
        (a.0.0 ∷ r.0, r.1 ∙ append_assoc found (a.0.0 ∷ []) r.0, (comma_stands i is, takes_join (written a.0.0) (behind_commas written r.0) (next i) a.0.1 j t.0 r.2), (t.1, r.3))
    by others false is f =
        let made : List A × Input = (found, i) in
        let same = ok_is made (xs, j) f in
        ([], ap (λ (y : List A × Input). y.0) (sym same) ∙ sym (append-nil found), ap (λ (y : List A × Input). y.1) same, tt)

-- behind a part another comma may follow, or what may follow in the end
rest_follows : {A : Type 0} (written : A → List Written) (may_follow : Follow) → ((ws : List Written) → may_follow (bare (form.Mark 44) ∷ ws) ≡ true)
    → (more : List A) (ws : List Written) → may_follow ws ≡ true → may_follow (behind_commas written more ++ ws) ≡ true
rest_follows written may_follow comma [] ws follows = follows
rest_follows written may_follow comma (x ∷ more) ws follows = comma ((written x ++ behind_commas written more) ++ ws)

-- parts that are written behind commas are found
commas_again : {A : Type 0} {p : Reader A} {written : A → List Written} {IsFit : A → Type 0} {may_follow : Follow} → Rule p written IsFit may_follow
    → ((ws : List Written) → may_follow (bare (form.Mark 44) ∷ ws) ≡ true)
    → (n : ℕ) (found more : List A) (i j : Input) (ws : List Written) → length more ≤ n → Takes i (behind_commas written more ++ ws) j → IsEnd j → AllByRecursion IsFit more
    → may_follow ws ≡ true → no_comma ws ≡ true → (m : Input) × (commas_from p n found i ≡ Ok (found ++ more, m)) × Takes m ws j
unfolding commas_from
commas_again rule comma zero found [] i j ws le t end fit follows none = (i, ap (λ xs. ok_of (xs, i)) (sym (append-nil found)), t)
commas_again rule comma zero found (x ∷ more) i j ws le t end fit follows none = absurd (omega arith)
commas_again {A} {p} {written} {IsFit} {may_follow} rule comma (suc n) found [] i j ws le t end fit follows none =
    let seen : is_mark 44 (front i) ≡ false = ap (is_mark 44) (takes_front ws i j t end) ∙ not-true (is_mark 44 (first_form ws)) none in
    (i, ap (λ (b : Bool). if b then (p >>= λ x. commas_from p n (found ++ x ∷ [])) (next i) else Ok (found, i)) seen ∙ ap (λ (xs : List A). ok_of (xs, i)) (sym (append-nil found)), t)
commas_again {A} {p} {written} {IsFit} {may_follow} rule comma (suc n) found (x ∷ more) i j ws le t end fit follows none =
    let seen : is_mark 44 (front i) ≡ true = ap (is_mark 44) t.0.form in
    let t' = subst (λ (vs : List Written). Takes (next i) vs j) (append_assoc (written x) (behind_commas written more) ws) t.1 in
    let r = rule.again (next i) j x (behind_commas written more ++ ws) t' end fit.0 (rest_follows written may_follow comma more ws follows) in
    let s = commas_again rule comma n (found ++ x ∷ []) more r.0 j ws (omega arith) r.2 end fit.1 follows none in (
      s.0,
      ap (λ (b : Bool). if b then (p >>= λ y. commas_from p n (found ++ y ∷ [])) (next i) else Ok (found, i)) seen
          ∙ bind_step (p (next i)) (λ y. commas_from p n (found ++ y ∷ [])) (x, r.0) r.1 ∙ s.1 ∙ ap (λ (xs : List A). ok_of (xs, s.0)) (append_assoc found (x ∷ []) more),
      s.2,
    )

-- each part has a comma before it
commas_length : {A : Type 0} (written : A → List Written) (xs : List A) → length xs ≤ length (behind_commas written xs)
commas_length written [] = omega arith
commas_length written (x ∷ xs) = omega (arith, commas_length written xs, length-append (written x) (behind_commas written xs))

-- parts behind commas
pub commas_rule : {A : Type 0} {p : Reader A} {written : A → List Written} {IsFit : A → Type 0} {may_follow : Follow} → Rule p written IsFit may_follow
    → ((ws : List Written) → may_follow (bare (form.Mark 44) ∷ ws) ≡ true)
    → Rule (commas p []) (behind_commas written) (AreFit IsFit) (λ ws. may_follow ws && no_comma ws)
unfolding commas
commas_rule {A} {p} {written} {IsFit} {may_follow} rule comma = record {
  takes = λ i j xs source e.
      let r = commas_found rule (length i.tokens) [] i j xs source e in
      let few : length r.0 < 2 ^ 32 = omega (arith, source.few, takes_length (behind_commas written r.0) i j r.2, commas_length written r.0) in
      subst (λ (ys : List A). Takes i (behind_commas written ys) j × AreFit IsFit ys) (sym r.1) (r.2, record { few = few; each = r.3 });
  again = λ i j xs ws t end fit follows.
      let parts = and_parts (may_follow ws) (no_comma ws) follows in
      let le : length xs ≤ length i.tokens = omega (arith, takes_length (behind_commas written xs ++ ws) i j t, length-append (behind_commas written xs) ws, commas_length written xs) in
      commas_again rule comma (length i.tokens) [] xs i j ws le t end fit.each parts.0 parts.1;
}

-- one part or several, with commas between, where a part may have no token
pub comma_list_any_rule : {A : Type 0} {p : Reader A} {written : A → List Written} {IsFit : A → Type 0} {may_follow : Follow} → Rule p written IsFit may_follow
    → ((ws : List Written) → may_follow (bare (form.Mark 44) ∷ ws) ≡ true)
    → Rule (comma_list p) (between_commas written) (AreSome IsFit) (λ ws. may_follow ws && no_comma ws)
unfolding comma_list commas
comma_list_any_rule {A} {p} {written} {IsFit} {may_follow} rule comma = record {
  takes = λ i j xs source e.
      let a = bind_ok (p i) (λ x. commas p (x ∷ [])) (xs, j) e in
      let t = rule.takes i a.0.1 a.0.0 source a.1 in
      let r = commas_found rule (length a.0.1.tokens) (a.0.0 ∷ []) a.0.1 j xs (takes_source (written a.0.0) i a.0.1 source t.0) a.2 in
      let few : length (a.0.0 ∷ r.0) < 2 ^ 32 = omega (arith, source.few, takes_length (written a.0.0) i a.0.1 t.0, takes_length (behind_commas written r.0) a.0.1 j r.2, commas_length written r.0) in
      subst (λ (ys : List A). Takes i (between_commas written ys) j × AreSome IsFit ys) (sym r.1)
      (takes_join (written a.0.0) (behind_commas written r.0) i a.0.1 j t.0 r.2, record { some = omega arith; fit = record { few = few; each = (t.1, r.3) } });
  again = λ i j xs ws t end fit follows. reread i j xs ws t end fit.some fit.fit.each (and_parts (may_follow ws) (no_comma ws) follows);
}
  where
    reread : (i j : Input) (xs : List A) (ws : List Written) → Takes i (between_commas written xs ++ ws) j → IsEnd j → 0 < length xs → AllByRecursion IsFit xs → (may_follow ws ≡ true) × (no_comma ws ≡ true)
        → (m : Input) × (comma_list p i ≡ Ok (xs, m)) × Takes m ws j
    reread i j [] ws t end there fit follows = absurd (omega arith)
    reread i j (x ∷ xs) ws t end there fit follows =
        let t' = subst (λ (vs : List Written). Takes i vs j) (append_assoc (written x) (behind_commas written xs) ws) t in
        let r = rule.again i j x (behind_commas written xs ++ ws) t' end fit.0 (rest_follows written may_follow comma xs ws follows.0) in
        let le : length xs ≤ length r.0.tokens = omega (arith, takes_length (behind_commas written xs ++ ws) r.0 j r.2, length-append (behind_commas written xs) ws, commas_length written xs) in
        let s = commas_again rule comma (length r.0.tokens) (x ∷ []) xs r.0 j ws le r.2 end fit.1 follows.0 follows.1 in
        (s.0, bind_step (p i) (λ y. commas p (y ∷ [])) (x, r.0) r.1 ∙ s.1, s.2)

-- one part or several, with commas between, each with a token
pub comma_list_rule : {A : Type 0} {p : Reader A} {written : A → List Written} {IsFit : A → Type 0} {may_follow : Follow} → Rule p written IsFit may_follow
    → ((x : A) → IsFit x → 0 < length (written x)) → ((ws : List Written) → may_follow (bare (form.Mark 44) ∷ ws) ≡ true)
    → Rule (comma_list p) (between_commas written) (AreSome IsFit) (λ ws. may_follow ws && no_comma ws)
comma_list_rule rule some comma = comma_list_any_rule rule comma

-- parts that are found up to the end are written so and fit
many_found : {A : Type 0} {p : Reader A} {written : A → List Written} {IsFit : A → Type 0} (stops : Form → Bool) → Rule p written IsFit anything
    → (n : ℕ) (found : List A) (i j : Input) (xs : List A) → IsSource i → many_from stops p n found i ≡ Ok (xs, j)
    → (more : List A) × (xs ≡ found ++ more) × Takes i (one_by_one written more) j × AllByRecursion IsFit more
unfolding many_from
many_found {A} {p} {written} {IsFit} stops rule zero found i j xs source e =
    let made : List A × Input = (found, i) in
    let same = ok_is made (xs, j) e in
    ([], ap (λ (y : List A × Input). y.0) (sym same) ∙ sym (append-nil found), ap (λ (y : List A × Input). y.1) same, tt)
many_found {A} {p} {written} {IsFit} stops rule (suc n) found i j xs source e = by (many_found stops rule n) (stops (front i)) e
  where
    by : ((found : List A) (i j : Input) (xs : List A) → IsSource i → many_from stops p n found i ≡ Ok (xs, j) → (more : List A) × (xs ≡ found ++ more) × Takes i (one_by_one written more) j × AllByRecursion IsFit more)
        → (ended : Bool) → (if ended then Ok (found, i) else (p >>= λ x. many_from stops p n (found ++ x ∷ [])) i) ≡ Ok (xs, j)
        → (more : List A) × (xs ≡ found ++ more) × Takes i (one_by_one written more) j × AllByRecursion IsFit more
    by others true f =
        let made : List A × Input = (found, i) in
        let same = ok_is made (xs, j) f in
        ([], ap (λ (y : List A × Input). y.0) (sym same) ∙ sym (append-nil found), ap (λ (y : List A × Input). y.1) same, tt)
    by others false f =
        let a = bind_ok (p i) (λ x. many_from stops p n (found ++ x ∷ [])) (xs, j) f in
        let t = rule.takes i a.0.1 a.0.0 source a.1 in
        let r = others (found ++ a.0.0 ∷ []) a.0.1 j xs (takes_source (written a.0.0) i a.0.1 source t.0) a.2 in
        (a.0.0 ∷ r.0, r.1 ∙ append_assoc found (a.0.0 ∷ []) r.0, takes_join (written a.0.0) (one_by_one written r.0) i a.0.1 j t.0 r.2, (t.1, r.3))

-- parts that are written up to the end are found
many_again : {A : Type 0} {p : Reader A} {written : A → List Written} {IsFit : A → Type 0} (stops : Form → Bool) → Rule p written IsFit anything
    → ((x : A) (ws : List Written) → IsFit x → stops (first_form (written x ++ ws)) ≡ false)
    → (n : ℕ) (found more : List A) (i j : Input) (ws : List Written) → length more ≤ n → Takes i (one_by_one written more ++ ws) j → IsEnd j → AllByRecursion IsFit more
    → stops (first_form ws) ≡ true → (m : Input) × (many_from stops p n found i ≡ Ok (found ++ more, m)) × Takes m ws j
unfolding many_from
many_again stops rule begun zero found [] i j ws le t end fit ended = (i, ap (λ xs. ok_of (xs, i)) (sym (append-nil found)), t)
many_again stops rule begun zero found (x ∷ more) i j ws le t end fit ended = absurd (omega arith)
many_again {A} {p} {written} {IsFit} stops rule begun (suc n) found [] i j ws le t end fit ended =
    let seen : stops (front i) ≡ true = ap stops (takes_front ws i j t end) ∙ ended in
    (i, ap (λ (b : Bool). if b then Ok (found, i) else (p >>= λ x. many_from stops p n (found ++ x ∷ [])) i) seen ∙ ap (λ (xs : List A). ok_of (xs, i)) (sym (append-nil found)), t)
many_again {A} {p} {written} {IsFit} stops rule begun (suc n) found (x ∷ more) i j ws le t end fit ended =
    let t' = subst (λ (vs : List Written). Takes i vs j) (append_assoc (written x) (one_by_one written more) ws) t in
    let seen : stops (front i) ≡ false = ap stops (takes_front (written x ++ (one_by_one written more ++ ws)) i j t' end) ∙ begun x (one_by_one written more ++ ws) fit.0 in
    let r = rule.again i j x (one_by_one written more ++ ws) t' end fit.0 refl in
    let s = many_again stops rule begun n (found ++ x ∷ []) more r.0 j ws (omega arith) r.2 end fit.1 ended in (
      s.0,
      ap (λ (b : Bool). if b then Ok (found, i) else (p >>= λ y. many_from stops p n (found ++ y ∷ [])) i) seen
          ∙ bind_step (p i) (λ y. many_from stops p n (found ++ y ∷ [])) (x, r.0) r.1 ∙ s.1 ∙ ap (λ (xs : List A). ok_of (xs, s.0)) (append_assoc found (x ∷ []) more),
      s.2,
    )

-- each part has a token
many_length : {A : Type 0} (written : A → List Written) (IsFit : A → Type 0) → ((x : A) → IsFit x → 0 < length (written x)) → (xs : List A) → AllByRecursion IsFit xs → length xs ≤ length (one_by_one written xs)
many_length written IsFit some [] fit = omega arith
many_length written IsFit some (x ∷ xs) fit = omega (arith, some x fit.0, many_length written IsFit some xs fit.1, length-append (written x) (one_by_one written xs))

-- parts up to a token that ends them
pub many_rule : {A : Type 0} {p : Reader A} {written : A → List Written} {IsFit : A → Type 0} (stops : Form → Bool) → Rule p written IsFit anything
    → ((x : A) → IsFit x → 0 < length (written x)) → ((x : A) (ws : List Written) → IsFit x → stops (first_form (written x ++ ws)) ≡ false)
    → Rule (many stops p) (one_by_one written) (AreFit IsFit) (λ ws. stops (first_form ws))
unfolding many many_after
many_rule {A} {p} {written} {IsFit} stops rule some begun = record {
  takes = λ i j xs source e.
      let r = many_found stops rule (length i.tokens) [] i j xs source e in
      let few : length r.0 < 2 ^ 32 = omega (arith, source.few, takes_length (one_by_one written r.0) i j r.2, many_length written IsFit some r.0 r.3) in
      subst (λ (ys : List A). Takes i (one_by_one written ys) j × AreFit IsFit ys) (sym r.1) (r.2, record { few = few; each = r.3 });
  again = λ i j xs ws t end fit follows.
      let le : length xs ≤ length i.tokens = omega (arith, takes_length (one_by_one written xs ++ ws) i j t, length-append (one_by_one written xs) ws, many_length written IsFit some xs fit.each) in
      many_again stops rule begun (length i.tokens) [] xs i j ws le t end fit.each follows;
}

-- one part or several, up to a token that ends them
pub some_rule : {A : Type 0} {p : Reader A} {written : A → List Written} {IsFit : A → Type 0} (stops : Form → Bool) → Rule p written IsFit anything
    → ((x : A) → IsFit x → 0 < length (written x)) → ((x : A) (ws : List Written) → IsFit x → stops (first_form (written x ++ ws)) ≡ false)
    → Rule (some stops p) (one_by_one written) (AreSome IsFit) (λ ws. stops (first_form ws))
unfolding some many_after
some_rule {A} {p} {written} {IsFit} stops rule there begun = record {
  takes = λ i j xs source e.
      let a = bind_ok (p i) (λ x. many_after stops p (x ∷ [])) (xs, j) e in
      let t = rule.takes i a.0.1 a.0.0 source a.1 in
      let r = many_found stops rule (length a.0.1.tokens) (a.0.0 ∷ []) a.0.1 j xs (takes_source (written a.0.0) i a.0.1 source t.0) a.2 in
      let all : AllByRecursion IsFit (a.0.0 ∷ r.0) = (t.1, r.3) in
      let taken : Takes i (one_by_one written (a.0.0 ∷ r.0)) j = takes_join (written a.0.0) (one_by_one written r.0) i a.0.1 j t.0 r.2 in
      let few : length (a.0.0 ∷ r.0) < 2 ^ 32 = omega (arith, source.few, takes_length (one_by_one written (a.0.0 ∷ r.0)) i j taken, many_length written IsFit there (a.0.0 ∷ r.0) all) in
      subst (λ (ys : List A). Takes i (one_by_one written ys) j × AreSome IsFit ys) (sym r.1) (taken, record { some = omega arith; fit = record { few = few; each = all } });
  again = λ i j xs ws t end fit follows. reread i j xs ws t end fit.some fit.fit.each follows;
}
  where
    reread : (i j : Input) (xs : List A) (ws : List Written) → Takes i (one_by_one written xs ++ ws) j → IsEnd j → 0 < length xs → AllByRecursion IsFit xs → stops (first_form ws) ≡ true
        → (m : Input) × (some stops p i ≡ Ok (xs, m)) × Takes m ws j
    reread i j [] ws t end here fit follows = absurd (omega arith)
    reread i j (x ∷ xs) ws t end here fit follows =
        let t' = subst (λ (vs : List Written). Takes i vs j) (append_assoc (written x) (one_by_one written xs) ws) t in
        let r = rule.again i j x (one_by_one written xs ++ ws) t' end fit.0 refl in
        let le : length xs ≤ length r.0.tokens = omega (arith, takes_length (one_by_one written xs ++ ws) r.0 j r.2, length-append (one_by_one written xs) ws, many_length written IsFit there xs fit.1) in
        let s = many_again stops rule begun (length r.0.tokens) (x ∷ []) xs r.0 j ws le r.2 end fit.1 follows in
        (s.0, bind_step (p i) (λ y. many_after stops p (y ∷ [])) (x, r.0) r.1 ∙ s.1, s.2)

-- ---- the location of the first token

-- something is written, and the location of its first token isn't kept
abbrev pub IsOpen : List Written → Type 0
IsOpen [] = ⊥
IsOpen (w ∷ ws) = w.location ≡ None

-- what is taken is also taken with the location where it begins
placed_takes : (ws : List Written) (i j : Input) (p : Location) → IsOpen ws → p ≡ location i → Takes i ws j → Takes i (placed_first p ws) j
placed_takes [] i j p unkept is t = absurd unkept
placed_takes (w ∷ ws) i j p unkept is t = (record { some = t.0.some; form = t.0.form; kept = is }, t.1)

-- what is taken with the location where it begins is also taken without it
unplaced_takes : (vs ws : List Written) (i j : Input) (p : Location) → IsOpen vs → Takes i (placed_first p vs ++ ws) j → (p ≡ location i) × Takes i (vs ++ ws) j
unplaced_takes [] ws i j p unkept t = absurd unkept
unplaced_takes (w ∷ vs) ws i j p unkept t =
    (t.0.kept, (record { some = t.0.some; form = t.0.form; kept = subst (λ (o : Option Location). IsKept o (location i)) (sym unkept) tt }, t.1))

-- a part with the location of its first token
pub here_rule : {A : Type 0} {p : Reader A} {written : A → List Written} {IsFit : A → Type 0} {may_follow : Follow} → Rule p written IsFit may_follow → ((x : A) → IsFit x → IsOpen (written x))
    → Rule (here & p) (λ (z : Location × A). placed_first z.0 (written z.1)) (λ (z : Location × A). IsFit z.1) may_follow
here_rule {A} {p} {written} {IsFit} {may_follow} rule unkept = record {
  takes = λ i j z source e.
      let a = bind_ok (p i) (λ y. pure (location i, y)) (z, j) e in
      let made : (Location × A) × Input = ((location i, a.0.0), a.0.1) in
      let t = rule.takes i a.0.1 a.0.0 source a.1 in
      subst (λ (y : (Location × A) × Input). Takes i (placed_first y.0.0 (written y.0.1)) y.1 × IsFit y.0.1) (ok_is made (z, j) a.2)
      (placed_takes (written a.0.0) i a.0.1 (location i) (unkept a.0.0 t.1) refl t.0, t.1);
  again = λ i j z ws t end fit follows.
      let u = unplaced_takes (written z.1) ws i j z.0 (unkept z.1 fit) t in
      let r = rule.again i j z.1 ws u.1 end fit follows in
      (r.0, bind_step (p i) (λ y. pure (location i, y)) (z.1, r.0) r.1 ∙ ap (λ (at : Location). ok_of ((at, z.1), r.0)) (sym u.0), r.2);
}

-- ---- the whole list

-- an input with all tokens of a text
abbrev pub whole : List ℕ → List Token → Input
whole text tokens = record { text = text; tokens = tokens; number = 0 }
