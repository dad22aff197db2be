-- Files with distinct names, one file at a time.
use Rattle.std.proofs.Common.{◌≡◌, ℕ, ◌+◌, ◌-◌, ◌<◌, List, length, drop, get_or, Any, ap, ◌∙◌, arith, length-drop, inl, inr}
use Rattle.std.proofs.lemmas.List.{get_or-drop, get_or_default}
use Rattle.std.proofs.lemmas.Bool.{cases_lt}
use Rattle.outside_io.specs.Files.{HaveDistinctNames}
use Rattle.outside_io.specs.declared.lists.NamedFile.{NamedFile}

-- a file among the others has the name of the file at i
pub same_name : (files others : List NamedFile) (i : ℕ) (file : NamedFile) (name : List ℕ) → i < length files → file ≡ get_or files i file → name ≡ file.name → others ≡ drop (i + 1) files → Any (λ other. other.name ≡ name) others → HaveDistinctNames files → ⊥
same_name files others i file name within is named rest (m, other, below, at, same) distinct =
    let place = get_or-drop (i + 1) files m other in
    let first = get_or_default files i other file within in
    let size = ap length rest ∙ length-drop (i + 1) files in
    let last : i + 1 + m < length files = omega arith in
    let names : (get_or files i other).name ≡ (get_or files (i + 1 + m) other).name = cc in
    distinct i (i + 1 + m) other (omega arith) last names

-- no file among the others has the name of the file at i
pub distinct_more : (files others : List NamedFile) (i : ℕ) (file : NamedFile) (name : List ℕ) → i < length files → file ≡ get_or files i file → name ≡ file.name → others ≡ drop (i + 1) files → (Any (λ other. other.name ≡ name) others → ⊥) → ((j k : ℕ) (d : NamedFile) → j < i → j < k → k < length files → (get_or files j d).name ≡ (get_or files k d).name → ⊥) → (j k : ℕ) (d : NamedFile) → j < i + 1 → j < k → k < length files → (get_or files j d).name ≡ (get_or files k d).name → ⊥
distinct_more files others i file name within is named rest none before j k d at above last same =
    elim (cases_lt j i) [
      | inl earlier ↦ before j k d earlier above last same
      | inr here ↦
          let m = k - (i + 1) in
          let e : i ≡ j = omega arith in
          let e' : i + 1 + m ≡ k = omega arith in
          let place = get_or-drop (i + 1) files m (get_or files k d) in
          let default = get_or_default files k (get_or files k d) d last in
          let first = get_or_default files i d file within in
          let size = ap length rest ∙ length-drop (i + 1) files in
          let below : m < length others = omega arith in
          none (m, get_or files k d, below, cc, cc)
    ]
