-- Marks that begin with none.
use Rattle.std.proofs.Common.{◌≡◌, ◌<◌, ℕ, Bool, false, ◌||◌, List, length, map, replicate, get_or, sym, ap, subst, ◌∙◌, arith}
use Rattle.std.specs.List.{range_with_len}
use Rattle.std.proofs.lemmas.List.{ext_get_or, get_or-replicate, length-replicate}
use Rattle.std.proofs.lemmas.List.FromFn.{length-map-range_with_len, get_or-map-range_with_len}
use Rattle.module_graph.specs.Marks.{AreMarked}

-- the indexes that are marked are those that the test hits
pub marks_of_hits : (hits : ℕ → Bool) (count : ℕ) (old marks : List Bool) → old ≡ replicate count false → AreMarked hits old marks → marks ≡ map hits (range_with_len 0 count)
marks_of_hits hits count old marks none marked =
    let long : length old ≡ count = ap length none ∙ length-replicate count false in
    ext_get_or false marks (map hits (range_with_len 0 count)) (marked.same_length ∙ long ∙ sym (length-map-range_with_len hits 0 count))
    (λ k lt.
    let within : k < length old = subst (λ (n : ℕ). k < n) marked.same_length lt in
    let below : k < count = subst (λ (n : ℕ). k < n) long within in
    marked.marks k within
    ∙ ap (λ (b : Bool). b || hits k) (ap (λ (bs : List Bool). get_or bs k false) none ∙ get_or-replicate count k false false below)
    ∙ sym (get_or-map-range_with_len hits 0 count k k false below (omega arith)))
