-- The rule of blocks that are passed over.
use Rattle.std.proofs.Common.{◌≡◌, ℕ, zero, suc, ◌+◌, ◌<◌, ◌≤◌, ◌^◌, Bool, true, false, if◌then◌else◌, List, ◌++◌, length, replicate, codes, Ok, refl, sym, ap, subst, ◌∙◌, arith, inl, inr, length-append}
use Rattle.std.proofs.lemmas.Bool.{cases_Bool, or_parts}
use Rattle.std.proofs.lemmas.List.{length-replicate}
use Rattle.v_tree.specs.declared.locations.Location.{Location}
use Rattle.v_tree.specs.declared.modules.SpecifyBlock.{SpecifyBlock}
use Rattle.v_tree.specs.Written.{Form, Spelled, Inside, IsInside}
use Rattle.v_tree.specs.Fit as fit
use Rattle.v_tree.specs.Spelling as spell
use Rattle.v_parser.specs.Input.{Input, front, next, is_word, is_finish}
use Rattle.v_parser.specs.Blocks.{ends_block, block_length_from, block_length}
use Rattle.v_parser.specs.Blocks as read
use Rattle.v_parser.proofs.Rules.{IsSource, ok_is, ok_of, next_shorter, next_source}
use Rattle.v_parser.proofs.TokenRules.{word_rule, skip_word_rule, word_is, finish_is}
use Rattle.v_parser.proofs.SpelledRules.{SpelledRule, Spells, begins_with, whatever, begins_front, spells_length, exactly_rule, spelled_map_rule, spelled_refit_rule, spelled_pair_rule}

-- a token that ends no block may stand in one
goes_on : (f : Form) → ends_block f ≡ false → IsInside f
goes_on f e =
    let parts = or_parts (is_word (codes "endspecify") f) (is_finish f) e in
    record {
      goes_on = λ is. (let same : is_word (codes "endspecify") f ≡ true = ap (is_word (codes "endspecify")) is in let no = parts.0 in cc);
      more = λ is. (let same : is_finish f ≡ true = ap is_finish is in let no = parts.1 in cc);
    }

-- a token that may stand in a block ends none
inside_goes : (f : Form) → IsInside f → ends_block f ≡ false
inside_goes f h =
    elim (cases_Bool (is_word (codes "endspecify") f)) [
      | inl e ↦ absurd (h.goes_on (word_is (codes "endspecify") f e))
      | inr e ↦ elim (cases_Bool (is_finish f)) [
        | inl g ↦ absurd (h.more (finish_is f g))
        | inr g ↦ rw (e, g) refl
      ]
    ]

-- what is passed over stands inside the block
block_length_found : (n count : ℕ) (i j : Input) (k : ℕ) → IsSource i → n ≤ length i.tokens → block_length_from n count i ≡ Ok (k, j)
    → (more : ℕ) × (k ≡ count + more) × Spells i (replicate more Inside) j
unfolding block_length_from
block_length_found zero count i j k source le e =
    let made : ℕ × Input = (count, i) in
    let same = ok_is made (k, j) e in
    (0, omega (arith, ap (λ (y : ℕ × Input). y.0) same), ap (λ (y : ℕ × Input). y.1) same)
block_length_found (suc n) count i j k source le e = by (block_length_found n (count + 1) (next i) j k) (ends_block (front i)) refl e
  where
    by : (IsSource (next i) → n ≤ length (next i).tokens → block_length_from n (count + 1) (next i) ≡ Ok (k, j) → (more : ℕ) × (k ≡ count + 1 + more) × Spells (next i) (replicate more Inside) j)
        → (ended : Bool) → ends_block (front i) ≡ ended → (if ended then Ok (count, i) else block_length_from n (count + 1) (next i)) ≡ Ok (k, j)
        → (more : ℕ) × (k ≡ count + more) × Spells i (replicate more Inside) j
    by others true is f =
        let made : ℕ × Input = (count, i) in
        let same = ok_is made (k, j) f in
        (0, omega (arith, ap (λ (y : ℕ × Input). y.0) same), ap (λ (y : ℕ × Input). y.1) same)
    by others false is f =
        let some : 0 < length i.tokens = omega arith in
        let r = others (next_source i source) (omega (arith, next_shorter i some)) f in
        (suc r.0, omega (arith, r.1), ((some, goes_on (front i) is), r.2))

-- what stands inside the block is passed over
block_length_again : (n count more : ℕ) (i j : Input) (ss : List Spelled) → more ≤ n → Spells i (replicate more Inside ++ ss) j → begins_with ends_block ss ≡ true
    → (m : Input) × (block_length_from n count i ≡ Ok (count + more, m)) × Spells m ss j
unfolding block_length_from
block_length_again zero count zero i j ss le t ended = let same : count ≡ count + 0 = omega arith in (i, ap (λ k. ok_of (k, i)) same, t)
block_length_again zero count (suc more) i j ss le t ended = absurd (omega arith)
block_length_again (suc n) count zero i j ss le t ended =
    let seen : ends_block (front i) ≡ true = begins_front ends_block ss i j t ended in
    let same : count ≡ count + 0 = omega arith in
    (i, ap (λ (b : Bool). if b then Ok (count, i) else block_length_from n (count + 1) (next i)) seen ∙ ap (λ k. ok_of (k, i)) same, t)
block_length_again (suc n) count (suc more) i j ss le t ended =
    let seen : ends_block (front i) ≡ false = inside_goes (front i) t.0.1 in
    let r = block_length_again n (count + 1) more (next i) j ss (omega arith) t.1 ended in
    let same : count + 1 + more ≡ count + suc more = omega arith in
    (r.0, ap (λ (b : Bool). if b then Ok (count, i) else block_length_from n (count + 1) (next i)) seen ∙ r.1 ∙ ap (λ k. ok_of (k, r.0)) same, r.2)

abbrev inside : ℕ → List Spelled
inside n = replicate n Inside

abbrev AreFew : ℕ → Type 0
AreFew n = n < 2 ^ 32

-- the tokens inside a block
block_length_rule : SpelledRule block_length inside AreFew (λ ss. begins_with ends_block ss)
unfolding block_length
block_length_rule = record {
  takes = λ i j k source e.
      let r = block_length_found (length i.tokens) 0 i j k source (omega arith) e in
      let same : k ≡ r.0 = omega (arith, r.1) in
      let few : r.0 < 2 ^ 32 = omega (arith, source.few, spells_length (replicate r.0 Inside) i j r.2, length-replicate r.0 Inside) in
      subst (λ (n : ℕ). Spells i (inside n) j × AreFew n) (sym same) (r.2, few);
  again = λ i j k ss source t end fit follows.
      let le : k ≤ length i.tokens = omega (arith, spells_length (inside k ++ ss) i j t, length-append (inside k) ss, length-replicate k Inside) in
      let r = block_length_again (length i.tokens) 0 k i j ss le t follows in
      let same : 0 + k ≡ k = omega arith in
      (r.0, subst (λ (n : ℕ). block_length_from (length i.tokens) 0 i ≡ Ok (n, r.0)) same r.1, r.2);
}

abbrev block_parts : SpecifyBlock → Location × (ℕ × Unit {0})
block_parts b = (b.location, (b.token_count, tt))

-- `specify { any token but endspecify and the end } endspecify`
pub specify_block_rule : SpelledRule read.specify_block spell.specify_block fit.IsFitBlock whatever
unfolding read.specify_block
specify_block_rule =
    spelled_refit_rule (spelled_map_rule (spelled_pair_rule (exactly_rule (word_rule (codes "specify")))
    (spelled_pair_rule block_length_rule (exactly_rule (skip_word_rule (codes "endspecify"))) (λ y ss f g. refl)) (λ y ss f g. refl))
    read.block_of block_parts (λ b. refl) (λ a. refl))
    (λ x f. f.1.0) (λ x f. (tt, (f, tt)))
