-- Names, a byte at a time.
use Rattle.std.proofs.Common.{◌≡◌, ℕ, suc, ◌+◌, ◌<◌, ◌≤◌, ◌⊎◌, Bool, true, false, cond, eqb, ◌||◌, List, [], ◌∷◌, ◌++◌, length, drop, get_or, Option, Some, None, refl, sym, ap, subst, ◌∙◌, append_assoc, add-one, drop-cons, inl, inr}
use Rattle.std.specs.Prelude.{option_to_list}
use Rattle.std.specs.List.{onto_first}
use Rattle.std.proofs.lemmas.Bool.{cases_Bool}
use Rattle.std.proofs.lemmas.List.{append-nil, drop_all}
use Rattle.line_text.specs.declared.names.Place.{Place}
use Rattle.line_text.specs.declared.names.Place.TheVariants.{Between, Inside, Begun, Escaped, Closed}
use Rattle.line_text.specs.declared.names.Step.{Step}
use Rattle.line_text.specs.Fields.{is_blank}
use Rattle.line_text.specs.Names.{behind_plain, behind_first, blank_step, byte_step, step_of, last_names, byte_onto, ended_onto, names_from, names_of}

-- the bytes of the present name before the names that begin with its rest
abbrev pub front_onto : List ℕ → List (List ℕ) → List (List ℕ)
front_onto [] names = names
front_onto (b ∷ bs) names = onto_first b (front_onto bs names)

front_onto-append : (xs ys : List ℕ) (names : List (List ℕ)) → front_onto (xs ++ ys) names ≡ front_onto xs (front_onto ys names)
front_onto-append [] ys names = refl
front_onto-append (x ∷ xs) ys names = ap (onto_first x) (front_onto-append xs ys names)

front_onto-cons : (xs name : List ℕ) (names : List (List ℕ)) → front_onto xs (name ∷ names) ≡ (xs ++ name) ∷ names
front_onto-cons [] name names = refl
front_onto-cons (x ∷ xs) name names = ap (onto_first x) (front_onto-cons xs name names)

byte_onto-front : (byte : Option ℕ) (names : List (List ℕ)) → byte_onto byte names ≡ front_onto (option_to_list byte) names
byte_onto-front None names = refl
byte_onto-front (Some b) names = refl

-- all names of a line, where some are whole and one is begun
abbrev pub names_so_far : List (List ℕ) → List ℕ → Place → List ℕ → List (List ℕ)
names_so_far names name place bytes = names ++ front_onto name (names_from place bytes)

-- the names behind a step
abbrev stepped : Bool → List (List ℕ) → List ℕ → List (List ℕ)
stepped ends names name = cond ends (names ++ name ∷ []) names

abbrev rest_of : Bool → List ℕ → List ℕ
rest_of ends name = cond ends [] name

name_step : (ends : Bool) (byte : Option ℕ) (names : List (List ℕ)) (name : List ℕ) (others : List (List ℕ))
    → names ++ front_onto name (ended_onto ends (byte_onto byte others)) ≡ stepped ends names name ++ front_onto (rest_of ends name ++ option_to_list byte) others
name_step false byte names name others =
    ap (λ (x : List (List ℕ)). names ++ x) (ap (front_onto name) (byte_onto-front byte others) ∙ sym (front_onto-append name (option_to_list byte) others))
name_step true byte names name others =
    ap (λ (x : List (List ℕ)). names ++ x) (front_onto-cons name [] (byte_onto byte others) ∙ ap (λ (n : List ℕ). n ∷ byte_onto byte others) (append-nil name))
    ∙ sym (append_assoc names (name ∷ []) (byte_onto byte others))
    ∙ ap (λ (x : List (List ℕ)). (names ++ name ∷ []) ++ x) (byte_onto-front byte others)

pub names_step : (step : Step) (place : Place) (i : ℕ) (line name next : List ℕ) (names others total : List (List ℕ)) → i < length line → step ≡ step_of place (get_or line i 0)
    → others ≡ cond step.ends (names ++ name ∷ []) names → next ≡ cond step.ends [] name ++ option_to_list step.byte
    → names_so_far names name place (drop i line) ≡ total → names_so_far others next step.place (drop (i + 1) line) ≡ total
names_step step place i line name next names others total lt is e f so_far =
    let here : drop i line ≡ get_or line i 0 ∷ drop (suc i) line = drop-cons line i 0 lt in
    let rest = names_from step.place (drop (suc i) line) in
    let one : names_from place (get_or line i 0 ∷ drop (suc i) line) ≡ ended_onto step.ends (byte_onto step.byte rest) = rw is refl in
    let now : names ++ front_onto name (ended_onto step.ends (byte_onto step.byte rest)) ≡ total
    = ap (λ (x : List (List ℕ)). names ++ front_onto name x) (sym one) ∙ ap (λ (x : List ℕ). names_so_far names name place x) (sym here) ∙ so_far in
    rw add-one (rw (e, f) (sym (name_step step.ends step.byte names name rest) ∙ now))

-- ---- between names there is none

abbrev pub IsBetween : Place → Type 0
IsBetween Between = Unit {0}
IsBetween Inside = ⊥
IsBetween Begun = ⊥
IsBetween Escaped = ⊥
IsBetween Closed = ⊥

pub names_start : (line : List ℕ) → names_so_far [] [] Between line ≡ names_of line
unfolding names_of
names_start line = refl

pub names_end : (place : Place) (i : ℕ) (line name : List ℕ) (names total : List (List ℕ)) → length line ≤ i → names_so_far names name place (drop i line) ≡ total → names ++ front_onto name (last_names place) ≡ total
names_end place i line name names total le so_far =
    ap (λ (x : List ℕ). names_so_far names name place x) (sym (drop_all i line le)) ∙ so_far

plain_inside : (b : ℕ) → IsBetween (behind_plain b) → ⊥
plain_inside b h =
    elim (cases_Bool (eqb b 46)) [
      | inl e ↦ rw e at h
      | inr e ↦ rw e at h
    ]

first_inside : (b : ℕ) → IsBetween (behind_first b) → ⊥
first_inside b h =
    elim (cases_Bool (eqb b 92)) [
      | inl e ↦ rw e at h
      | inr e ↦ (let g : IsBetween (behind_plain b) = rw e at h in plain_inside b g)
    ]

-- what stands of the present name behind a step
abbrev next_name : Step → List ℕ → List ℕ
next_name step name = rest_of step.ends name ++ option_to_list step.byte

blank_between : (place : Place) (name : List ℕ) → (IsBetween place → name ≡ []) → IsBetween (blank_step place).place → next_name (blank_step place) name ≡ []
blank_between Between name none h = append-nil name ∙ none tt
blank_between Begun name none h = refl
blank_between Inside name none h = refl
blank_between Escaped name none h = absurd h
blank_between Closed name none h = refl

closed_inside : (b : ℕ) → IsBetween (byte_step Closed b).place → ⊥
closed_inside b h =
    elim (cases_Bool (eqb b 46 || eqb b 91)) [
      | inl e ↦ (let g : IsBetween (behind_plain b) = rw e at h in plain_inside b g)
      | inr e ↦ (let g : IsBetween (behind_first b) = rw e at h in first_inside b g)
    ]

byte_between : (place : Place) (b : ℕ) → IsBetween (byte_step place b).place → ⊥
byte_between Between b h = first_inside b h
byte_between Begun b h = first_inside b h
byte_between Inside b h = plain_inside b h
byte_between Escaped b h = h
byte_between Closed b h = closed_inside b h

pub between_step : (step : Step) (place : Place) (b : ℕ) (name : List ℕ) → step ≡ step_of place b → (IsBetween place → name ≡ []) → IsBetween step.place → next_name step name ≡ []
between_step step place b name is none h =
    elim (cases_Bool (is_blank b)) [
      | inl e ↦ (let s : step ≡ blank_step place = is ∙ rw e refl in
          let g : IsBetween (blank_step place).place = subst (λ (t : Step). IsBetween t.place) s h in
          subst (λ (t : Step). next_name t name ≡ []) (sym s) (blank_between place name none g))
      | inr e ↦ (let s : step ≡ byte_step place b = is ∙ rw e refl in
          absurd (byte_between place b (subst (λ (t : Step). IsBetween t.place) s h)))
    ]

-- ---- the end of the line

pub last_plain : (place : Place) → (place ≡ Begun) ⊎ ((place ≡ Inside) ⊎ (place ≡ Closed)) → last_names place ≡ [] ∷ []
last_plain place (inl e) = ap last_names e
last_plain place (inr (inl e)) = ap last_names e
last_plain place (inr (inr e)) = ap last_names e

pub last_between : (place : Place) (name : List ℕ) (names total : List (List ℕ)) → place ≡ Between → name ≡ [] → names ++ front_onto name (last_names place) ≡ total → names ≡ total
last_between place name names total e none all =
    sym (append-nil names) ∙ ap (λ (x : List (List ℕ)). names ++ x) (sym (ap (λ (n : List ℕ). front_onto n (last_names place)) none ∙ ap last_names e)) ∙ all

-- the last name is whole with what the end of the line adds
pub last_whole : (place : Place) (name rest last : List ℕ) (names total : List (List ℕ)) → last_names place ≡ rest ∷ [] → last ≡ name ++ rest → names ++ front_onto name (last_names place) ≡ total → names ++ last ∷ [] ≡ total
last_whole place name rest last names total e is all =
    ap (λ (x : List (List ℕ)). names ++ x)
    (ap (λ (n : List ℕ). n ∷ []) is ∙ sym (front_onto-cons name rest []) ∙ ap (front_onto name) (sym e))
    ∙ all
