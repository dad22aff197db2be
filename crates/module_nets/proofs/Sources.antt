-- The sources of lists of runs and of parts.
use Rattle.std.proofs.Common.{◌≡◌, ℕ, ◌+◌, ◌<◌, List, [], ◌∷◌, ◌++◌, length, get_or, take, sum_by, sym, ap, ◌∙◌, add_assoc, arith}
use Rattle.std.specs.List.{flat_map}
use Rattle.std.proofs.lemmas.Grind.{flat_map-append}
use Rattle.std.proofs.lemmas.List.{take_more}
use Rattle.std.proofs.lemmas.List.Sums.{sum_by-cons}
use Rattle.module_scope.specs.declared.scopes.Scope.{Scope}
use Rattle.expression_bits.specs.declared.runs.BitRun.{BitRun}
use Rattle.expression_bits.specs.declared.runs.BitRun.TheVariants.{Net, Literal as LiteralRun}
use Rattle.module_parts.specs.declared.parts.ModulePart.{ModulePart}
use Rattle.netlist_plan.specs.declared.nets.NetSource.{NetSource}
use Rattle.netlist_plan.specs.declared.nets.NetSource.TheVariants.{Named, Literal}
use Rattle.netlist_plan.specs.declared.nets.ModuleNet.{ModuleNet}
use Rattle.netlist_plan.specs.Nets.{bit_count, part_sources, run_sources, source_width}
use Rattle.netlist_plan.specs.Unnamed.{literal_count, numbered_from, unnamed_count}

-- ---- runs

pub literal_count-append : (xs ys : List BitRun) → literal_count (xs ++ ys) ≡ literal_count xs + literal_count ys
literal_count-append [] ys = omega arith
literal_count-append (Net name select ∷ xs) ys = literal_count-append xs ys
literal_count-append (LiteralRun bits ∷ xs) ys = ap (λ (n : ℕ). 1 + n) (literal_count-append xs ys) ∙ omega arith

pub run_sources-append : (n : ℕ) (xs ys : List BitRun) → run_sources n (xs ++ ys) ≡ run_sources n xs ++ run_sources (n + literal_count xs) ys
run_sources-append n [] ys = ap (λ (k : ℕ). run_sources k ys) (omega arith)
run_sources-append n (Net name select ∷ xs) ys = ap (λ (rest : List NetSource). Named name ∷ rest) (run_sources-append n xs ys)
run_sources-append n (LiteralRun bits ∷ xs) ys =
    ap (λ (rest : List NetSource). Literal n bits ∷ rest)
    (run_sources-append (n + 1) xs ys ∙ ap (λ (k : ℕ). run_sources (n + 1) xs ++ run_sources k ys) (add_assoc n 1 (literal_count xs)))

-- runs of the elements of a list, one after the other
module _ {X : Type 0} (runs_of : X → List BitRun) where
  abbrev pub sources_in : ℕ → List X → List NetSource
  sources_in n xs = run_sources n (flat_map runs_of xs)

  abbrev pub literals_in : List X → ℕ
  literals_in xs = literal_count (flat_map runs_of xs)

  pub sources_in-push : (n : ℕ) (xs : List X) (x : X) → sources_in n (xs ++ x ∷ []) ≡ sources_in n xs ++ sources_in (n + literals_in xs) (x ∷ [])
  sources_in-push n xs x =
      ap (run_sources n) (flat_map-append runs_of xs (x ∷ []))
      ∙ run_sources-append n (flat_map runs_of xs) (flat_map runs_of (x ∷ []))

  pub literals_in-push : (xs : List X) (x : X) → literals_in (xs ++ x ∷ []) ≡ literals_in xs + literals_in (x ∷ [])
  literals_in-push xs x =
      ap literal_count (flat_map-append runs_of xs (x ∷ []))
      ∙ literal_count-append (flat_map runs_of xs) (flat_map runs_of (x ∷ []))

-- ---- parts

pub numbered_from-push : (n : ℕ) (parts : List ModulePart) (part : ModulePart) → numbered_from n (parts ++ part ∷ []) ≡ numbered_from n parts ++ numbered_from (n + sum_by unnamed_count parts) (part ∷ [])
numbered_from-push n [] part = ap (λ (k : ℕ). numbered_from k (part ∷ [])) (omega arith)
numbered_from-push n (other ∷ parts) part =
    ap (λ (rest : List (ℕ × ModulePart)). (n, other) ∷ rest) (numbered_from-push (n + unnamed_count other) parts part)
    ∙ ap (λ (k : ℕ). (n, other) ∷ (numbered_from (n + unnamed_count other) parts ++ numbered_from k (part ∷ [])))
    (add_assoc n (unnamed_count other) (sum_by unnamed_count parts) ∙ ap (λ (k : ℕ). n + k) (sym (sum_by-cons unnamed_count other parts)))

abbrev pub parts_sources : ℕ → List ModulePart → List NetSource
parts_sources n parts = flat_map part_sources (numbered_from n parts)

pub parts_sources-push : (n : ℕ) (parts : List ModulePart) (part : ModulePart) → parts_sources n (parts ++ part ∷ []) ≡ parts_sources n parts ++ parts_sources (n + sum_by unnamed_count parts) (part ∷ [])
parts_sources-push n parts part =
    ap (flat_map part_sources) (numbered_from-push n parts part)
    ∙ flat_map-append part_sources (numbered_from n parts) (numbered_from (n + sum_by unnamed_count parts) (part ∷ []))

-- ---- widths

bit_count-push : (scope : Scope) (nets : List ModuleNet) (net : ModuleNet) → bit_count scope (nets ++ net ∷ []) ≡ bit_count scope nets + source_width scope net.source
bit_count-push scope [] net = omega arith
bit_count-push scope (other ∷ nets) net =
    ap (λ (rest : ℕ). source_width scope other.source + rest) (bit_count-push scope nets net)
    ∙ sym (add_assoc (source_width scope other.source) (bit_count scope nets) (source_width scope net.source))

-- one net more
pub bit_count-more : (scope : Scope) (nets : List ModuleNet) (i : ℕ) (net : ModuleNet) → i < length nets → net ≡ get_or nets i net →
    bit_count scope (take (i + 1) nets) ≡ bit_count scope (take i nets) + source_width scope net.source
bit_count-more scope nets i net lt at =
    ap (bit_count scope) (take_more nets i net lt)
    ∙ bit_count-push scope (take i nets) (get_or nets i net)
    ∙ ap (λ (n : ModuleNet). bit_count scope (take i nets) + source_width scope n.source) (sym at)
