-- Lines, one at a time.
use Rattle.std.proofs.Common.{◌≡◌, ℕ, ◌+◌, ◌<◌, Bool, true, false, eqb, List, [], ◌∷◌, length, take, drop, Some, None, refl, sym, ap, subst, ◌∙◌, arith, inl, inr}
use Rattle.std.specs.Prelude.{position}
use Rattle.std.specs.List.{slice_split}
use Rattle.std.specs.Str.Lines.{lines, lines_of_parts, strip_carriage_return}
use Rattle.std.proofs.lemmas.Bool.{cases_Bool, ne_eqb}
use Rattle.std.proofs.lemmas.List.{drop_all, take_rest}
use Rattle.std.proofs.lemmas.List.Splits.{slice_split_first, slice_split_none}
use Rattle.line_text.specs.Lines.{is_passed_over, lines_behind}
use Rattle.line_text.proofs.FieldLemmas.{from, position_some, position_none}

abbrev is_feed : ℕ → Bool
is_feed b = eqb b 10

-- there is a first part
some_part : (p : ℕ → Bool) (bs : List ℕ) → (first : List ℕ) × (others : List (List ℕ)) × (slice_split p bs ≡ first ∷ others)
some_part p [] = ([], [], refl)
some_part p (b ∷ bs) =
    let ih = some_part p bs in
    elim (cases_Bool (p b)) [
      | inl e ↦ ([], slice_split p bs, rw e refl)
      | inr e ↦ (b ∷ ih.0, ih.1, rw (e, ih.2) refl)
    ]

parts_more : (x : List ℕ) (parts : List (List ℕ)) (first : List ℕ) (others : List (List ℕ)) → parts ≡ first ∷ others → lines_of_parts (x ∷ parts) ≡ strip_carriage_return x ∷ lines_of_parts parts
parts_more x parts first others e = rw e refl

pub line_cut : (bs : List ℕ) (i : ℕ) → position is_feed bs ≡ Some i → lines bs ≡ strip_carriage_return (take i bs) ∷ lines (from bs (i + 1))
line_cut bs i e =
    let at = position_some is_feed bs i e in
    let split : slice_split is_feed bs ≡ take i bs ∷ slice_split is_feed (drop (i + 1) bs)
    = subst (λ (k : ℕ). slice_split is_feed bs ≡ take k bs ∷ slice_split is_feed (drop (k + 1) bs)) at.0 (slice_split_first is_feed bs 0 at.1) in
    let more = some_part is_feed (drop (i + 1) bs) in
    rw take_rest (ap lines_of_parts split ∙ parts_more (take i bs) (slice_split is_feed (drop (i + 1) bs)) more.0 more.1 more.2)

last_part : (bs : List ℕ) → 0 < length bs → lines_of_parts (bs ∷ []) ≡ bs ∷ []
last_part bs some =
    let filled : eqb (length bs) 0 ≡ false = ne_eqb (length bs) 0 (λ e. omega arith) in
    rw filled refl

pub line_whole : (bs : List ℕ) → 0 < length bs → position is_feed bs ≡ None → lines bs ≡ bs ∷ lines (from bs (length bs))
line_whole bs some e =
    let split : slice_split is_feed bs ≡ bs ∷ [] = slice_split_none is_feed bs (λ k d lt. position_none is_feed bs e k d lt) in
    let none : lines (from bs (length bs)) ≡ [] = ap lines (take_rest bs (length bs) ∙ drop_all (length bs) bs (omega arith)) in
    ap lines_of_parts split ∙ last_part bs some ∙ ap (λ (x : List (List ℕ)). bs ∷ x) (sym none)

pub no_lines : (bs : List ℕ) → bs ≡ [] → lines bs ≡ []
no_lines bs e = ap lines e

-- ---- lines that aren't passed over

pub behind_none : (before : ℕ) (text : List ℕ) → lines text ≡ [] → lines_behind before text ≡ []
unfolding lines_behind
behind_none before text e = rw e refl

pub behind_passed : (before : ℕ) (text line rest : List ℕ) → lines text ≡ line ∷ lines rest → is_passed_over line ≡ true → lines_behind before text ≡ lines_behind (before + 1) rest
unfolding lines_behind
behind_passed before text line rest cut e = rw cut (rw e refl)

pub behind_kept : (before : ℕ) (text line rest : List ℕ) → lines text ≡ line ∷ lines rest → is_passed_over line ≡ false → lines_behind before text ≡ (before + 1, line) ∷ lines_behind (before + 1) rest
unfolding lines_behind
behind_kept before text line rest cut e = rw cut (rw e refl)
