use Rattle.std.proofs.Common.{◌≡◌, ◌+◌, ◌<◌, ◌≤◌, ℕ, ◌==◌, List, [], ◌∷◌, ◌++◌, length, map, take, get_or, set, sym, ap, ◌∙◌, arith, inl, inr}
use Rattle.std.specs.Prelude.{replicate}
use Rattle.std.specs.List.{count_by, range_with_len}
use Rattle.std.proofs.lemmas.Bool.{cases_eq, eq-eqb, ne_eqb}
use Rattle.std.proofs.lemmas.List.{length-take-le, length-set, get_or-set_same, get_or-set_other, get_or-replicate, length-replicate, get_or_default}
use Rattle.std.proofs.lemmas.List.Sums.{count_by-le-length, count_by_more_yes, count_by_more_no}
use Rattle.std.proofs.lemmas.List.FromFn.{map-range_with_len_more}
use Rattle.net_islands.specs.Leasts.{place}
use Rattle.net_islands.proofs.leasts.places.Goals as goal

module _ (numbers sizes : List ℕ) (count i : ℕ) (lt : i < length numbers) (all : length sizes ≡ count) where
  abbrev size_of : ℕ → ℕ → ℕ
  size_of n key = count_by (λ number. number == key) (take n numbers)

  abbrev AreSizes : ℕ → List ℕ → Type 0
  AreSizes n xs = (key : ℕ) → key < count → get_or xs key 0 ≡ size_of n key

  size-le : (key : ℕ) → size_of i key ≤ i
  size-le key =
      let h = count_by-le-length (λ (number : ℕ). number == key) (take i numbers) in
      let l = length-take-le i numbers (omega arith) in
      omega arith

  abbrev here : ℕ
  here = get_or numbers i 0

  sizes_more : (size : ℕ) → here < count → AreSizes i sizes → size ≡ get_or sizes here 0 → AreSizes (i + 1) (set sizes here (size + 1))
  sizes_more size below sizes-are e key key-lt = elim (cases_eq here key) [
    | inl same ↦
        let written : get_or (set sizes here (size + 1)) key 0 ≡ size + 1
        = ap (λ (k : ℕ). get_or (set sizes here (size + 1)) k 0) (sym same) ∙ get_or-set_same sizes here (size + 1) 0 (omega arith) in
        let old : size ≡ size_of i key = e ∙ ap (λ (k : ℕ). get_or sizes k 0) same ∙ sizes-are key key-lt in
        let more : size_of (i + 1) key ≡ size_of i key + 1 = count_by_more_yes (λ (number : ℕ). number == key) numbers i 0 lt (eq-eqb here key same) in
        omega arith
    | inr ne ↦
        let written : get_or (set sizes here (size + 1)) key 0 ≡ get_or sizes key 0
        = get_or-set_other sizes here key (size + 1) 0 (λ f. ne (sym f)) in
        let more : size_of (i + 1) key ≡ size_of i key = count_by_more_no (λ (number : ℕ). number == key) numbers i 0 lt (ne_eqb here key ne) in
        written ∙ sizes-are key key-lt ∙ sym more
  ]

  places_more : (ps : List ℕ) (size : ℕ) → here < count → AreSizes i sizes → size ≡ get_or sizes here 0 → ps ≡ map (place numbers) (range_with_len 0 i) →
      ps ++ size ∷ [] ≡ map (place numbers) (range_with_len 0 (i + 1))
  places_more ps size below sizes-are e f =
      ap (λ (xs : List ℕ). xs ++ size ∷ []) f
      ∙ ap (λ (n : ℕ). map (place numbers) (range_with_len 0 i) ++ n ∷ []) (e ∙ sizes-are here below)
      ∙ sym (map-range_with_len_more (place numbers) 0 i i (omega arith))

pub overflow_add-size : goal.overflow_add-size
overflow_add-size c =
    let lt : c.loop-number.number-index < length c.args.numbers.now = c.loop-number-test.true in
    let below = c.requires.within c.loop-number.number-index 0 lt in
    let all = c.loop-number.invariant.all in
    let read : c.index-size.result.now ≡ get_or c.loop-number.sizes.items (get_or c.args.numbers.now c.loop-number.number-index 0) 0
    = c.index-size.ensures ∙ get_or_default c.loop-number.sizes.items (get_or c.args.numbers.now c.loop-number.number-index 0) c.index-size.result.now 0 (omega arith) in
    let size = c.loop-number.invariant.sizes (get_or c.args.numbers.now c.loop-number.number-index 0) below in
    let le = size-le c.args.numbers.now c.loop-number.sizes.items c.args.count c.loop-number.number-index lt all (get_or c.args.numbers.now c.loop-number.number-index 0) in
    let few = c.requires.few in
    omega arith

pub loop-number-init : goal.loop-number-init
loop-number-init c =
    let zeros : c.in_ok-sizes.sizes.items ≡ replicate c.args.count 0 = c.in_ok-sizes.ensures.items_if_clones_equal (λ y p. p) in
    record {
      all = ap length zeros ∙ length-replicate c.args.count 0;
      sizes = λ key lt. ap (λ (xs : List ℕ). get_or xs key 0) zeros ∙ get_or-replicate c.args.count key 0 0 lt;
      places = c.new-places.ensures.items;
    }

pub loop-number-preserved : goal.loop-number-preserved
loop-number-preserved c =
    let lt : c.loop-number.number-index < length c.args.numbers.now = c.loop-number-test.true in
    let below = c.requires.within c.loop-number.number-index 0 lt in
    let all = c.loop-number.invariant.all in
    let read : c.index-size.result.now ≡ get_or c.loop-number.sizes.items (get_or c.args.numbers.now c.loop-number.number-index 0) 0
    = c.index-size.ensures ∙ get_or_default c.loop-number.sizes.items (get_or c.args.numbers.now c.loop-number.number-index 0) c.index-size.result.now 0 (omega arith) in
    record {
      all = length-set c.loop-number.sizes.items (get_or c.args.numbers.now c.loop-number.number-index 0) (c.index-size.result.now + 1) ∙ all;
      sizes = sizes_more c.args.numbers.now c.loop-number.sizes.items c.args.count c.loop-number.number-index lt all
          c.index-size.result.now below c.loop-number.invariant.sizes read;
      places = c.in_ok-push.ensures.items
          ∙ places_more c.args.numbers.now c.loop-number.sizes.items c.args.count c.loop-number.number-index lt all
          c.loop-number.places.items c.index-size.result.now below c.loop-number.invariant.sizes read c.loop-number.invariant.places;
    }
