-- The lengths of lists of bits, and what stands at a place of a list.
use Rattle.std.proofs.Common.{◌≡◌, ℕ, zero, suc, ◌+◌, ◌-◌, min, List, [], ◌∷◌, length, map, drop, refl, sym, ap, ◌∙◌, arith}
use Rattle.std.specs.Prelude.{slice_index_or}
use Rattle.std.specs.List.{enumerate_from, zip}
use Rattle.std.proofs.lemmas.List.Sums.{sum_by-cons}
use Rattle.module_scope.specs.declared.scopes.Scope.{Scope}
use Rattle.expression_bits.specs.declared.runs.BitRun.{BitRun}
use Rattle.expression_bits.specs.declared.runs.BitRun.TheVariants.{Net as NetRun, Literal as LiteralRun}
use Rattle.expression_bits.specs.Runs.{run_width, runs_width}
use Rattle.netlist_plan.specs.declared.nets.ModuleNet.{ModuleNet}
use Rattle.netlist_plan.specs.Unnamed.{literal_count}
use Rattle.netlist_plan.specs.Nets.{run_bits}
use Rattle.netlist_plan.specs.Elements.{runs_bits}
use Rattle.flattening_laws.proofs.Numbers.{length_append, length_range}

pub length_drop : {X : Type 0} (n : ℕ) (xs : List X) → length (drop n xs) ≡ length xs - n
length_drop zero xs = omega arith
length_drop (suc n) [] = omega arith
length_drop (suc n) (x ∷ xs) = let rest = length_drop n xs in omega (arith, rest)

pub length_zip : {X Y : Type 0} (xs : List X) (ys : List Y) → length (zip xs ys) ≡ min (length xs) (length ys)
length_zip [] ys = omega arith
length_zip (x ∷ xs) [] = omega arith
length_zip (x ∷ xs) (y ∷ ys) = let rest = length_zip xs ys in omega (arith, rest)

pub length_enumerate : {X : Type 0} (k : ℕ) (xs : List X) → length (enumerate_from k xs) ≡ length xs
length_enumerate k [] = refl
length_enumerate k (x ∷ xs) = ap suc (length_enumerate (k + 1) xs)

pub get_mapped : {X Y : Type 0} (f : X → Y) (xs : List X) (k : ℕ) (d : X) → slice_index_or (map f xs) k (f d) ≡ f (slice_index_or xs k d)
get_mapped f [] k d = refl
get_mapped f (x ∷ xs) zero d = refl
get_mapped f (x ∷ xs) (suc k) d = get_mapped f xs k d

-- runs have as many bits as their width
pub length_runs : (scope : Scope) (nets : List ModuleNet) (number : ℕ) (runs : List BitRun) → length (runs_bits scope nets number runs) ≡ runs_width scope runs
length_runs scope nets number [] = refl
length_runs scope nets number (run ∷ runs) =
    let next = number + literal_count (run ∷ []) in
    length_append (run_bits scope nets number run) (runs_bits scope nets next runs)
    ∙ ap (λ n. n + length (runs_bits scope nets next runs)) (one run)
    ∙ ap (λ n. run_width scope run + n) (length_runs scope nets next runs)
    ∙ sym (sum_by-cons (run_width scope) run runs)
  where
    one : (r : BitRun) → length (run_bits scope nets number r) ≡ run_width scope r
    one (NetRun name select) = length_range _ _
    one (LiteralRun bits) = length_range _ _
