-- The words of a text, and what stands among names when they were added, each unless it was there.
use Rattle.std.proofs.Common.{◌≡◌, ℕ, suc, ◌+◌, ◌<◌, Bool, true, false, not, ◌||◌, eqb, List, [], ◌∷◌, ◌++◌, length, take, drop, if◌then◌else◌, refl, sym, ap, ◌∙◌, arith, inl, inr}
use Rattle.std.specs.List.{prefix_len}
use Rattle.std.proofs.lemmas.Bool.{cases_Bool, not-false}
use Rattle.std.proofs.lemmas.Slice.Eq.{bytes_eq-Decides}
use Rattle.name_table.specs.Names.{same_name, is_among}
use Rattle.v_lexer.specs.Words.{is_in_word, onto, words_of}

or_none : (a : Bool) → (a || false) ≡ a
or_none true = refl
or_none false = refl

or_group : (a b c : Bool) → ((a || b) || c) ≡ (a || (b || c))
or_group true b c = refl
or_group false b c = refl

or_same : (a b : Bool) → (b ≡ true → a ≡ true) → a ≡ (a || b)
or_same true b h = refl
or_same false true h = h refl
or_same false false h = refl

is_among-push : (name last : List ℕ) (names : List (List ℕ)) → is_among name (names ++ last ∷ []) ≡ (is_among name names || same_name name last)
is_among-push name last [] = or_none (same_name name last)
is_among-push name last (other ∷ names) =
    ap (λ b. same_name name other || b) (is_among-push name last names) ∙ sym (or_group (same_name name other) (is_among name names) (same_name name last))

-- a name that is the same as one that is there is there
is_among-same : (name last : List ℕ) (names : List (List ℕ)) → is_among last names ≡ true → same_name name last ≡ true → is_among name names ≡ true
is_among-same name last names there same = ap (λ (n : List ℕ). is_among n names) ((bytes_eq-Decides name last).0 same) ∙ there

is_among-added : (name last : List ℕ) (names new : List (List ℕ)) (added : Bool) → added ≡ not (is_among last names)
    → new ≡ (if added then names ++ last ∷ [] else names) → is_among name new ≡ (is_among name names || same_name name last)
is_among-added name last names new true says is = ap (is_among name) is ∙ is_among-push name last names
is_among-added name last names new false says is =
    ap (is_among name) is ∙ or_same (is_among name names) (same_name name last) (is_among-same name last names (not-false (is_among last names) (sym says)))

-- the first word
words_of-some : (byte : ℕ) (bytes : List ℕ)
    → words_of (byte ∷ bytes) ≡ take (prefix_len is_in_word (byte ∷ bytes)) (byte ∷ bytes) ∷ words_of (drop (prefix_len is_in_word (byte ∷ bytes) + 1) (byte ∷ bytes))
unfolding words_of
words_of-some byte [] =
    elim (cases_Bool (eqb byte 32)) [
      | inl e ↦ rw e refl
      | inr e ↦ rw e refl
    ]
words_of-some byte (next ∷ bytes) =
    let k : ℕ = prefix_len is_in_word (next ∷ bytes) in
    let one : 1 + k ≡ suc k = omega arith in
    let two : suc k + 1 ≡ suc (k + 1) = omega arith in
    elim (cases_Bool (eqb byte 32)) [
      | inl e ↦ rw e refl
      | inr e ↦ rw (e, one, two) (ap (onto byte) (words_of-some next bytes))
    ]

pub first_word : (rest : List ℕ) (len : ℕ) → 0 < length rest → len ≡ prefix_len is_in_word rest → words_of rest ≡ take len rest ∷ words_of (drop (len + 1) rest)
first_word [] len some is = absurd (omega arith)
first_word (byte ∷ bytes) len some is = rw is (words_of-some byte bytes)

-- an empty text has no word
pub no_words : (text : List ℕ) → length text ≡ 0 → words_of text ≡ []
unfolding words_of
no_words [] none = refl
no_words (byte ∷ bytes) none = absurd (omega arith)

-- a loop that puts the first of the others into a table
pub words_go_on : (name word : List ℕ) (names new words others : List (List ℕ)) (added all : Bool) → words ≡ word ∷ others → added ≡ not (is_among word names)
    → new ≡ (if added then names ++ word ∷ [] else names) → (is_among name names || is_among name words) ≡ all → (is_among name new || is_among name others) ≡ all
words_go_on name word names new words others added all here says is so_far =
    rw (is_among-added name word names new added says is) (or_group (is_among name names) (same_name name word) (is_among name others) ∙ ap (λ ws. is_among name names || is_among name ws) (sym here) ∙ so_far)

-- a name among the names of two lists
is_among-append : (name : List ℕ) (names others : List (List ℕ)) → is_among name (names ++ others) ≡ (is_among name names || is_among name others)
is_among-append name [] others = refl
is_among-append name (other ∷ names) others =
    ap (λ b. same_name name other || b) (is_among-append name names others) ∙ sym (or_group (same_name name other) (is_among name names) (is_among name others))

-- a table to which two lists were added has their names
pub both_added : (name : List ℕ) (none names new first second : List (List ℕ)) → none ≡ [] → is_among name names ≡ (is_among name none || is_among name first)
    → is_among name new ≡ (is_among name names || is_among name second) → is_among name new ≡ is_among name (first ++ second)
both_added name none names new first second empty one two =
    two ∙ ap (λ b. b || is_among name second) (one ∙ ap (λ ns. is_among name ns || is_among name first) empty) ∙ sym (is_among-append name first second)
