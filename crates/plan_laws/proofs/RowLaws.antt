-- The nets of a plan follow one another, and have names that differ.
use Rattle.std.proofs.Common.{◌≡◌, ℕ, ◌+◌, ◌<◌, ◌≤◌, Bool, true, false, ◌||◌, List, [], ◌∷◌, ◌++◌, map, Option, Some, None, refl, sym, ap, subst, ◌∙◌, arith}
use Rattle.std.specs.Prelude.{if◌then◌else◌}
use Rattle.std.specs.List.{AllByRecursion, flat_map}
use Rattle.std.proofs.lemmas.Slice.Eq.{bytes_eq-Decides}
use Rattle.name_table.specs.Names.{is_among, same_name}
use Rattle.module_scope.specs.declared.nets.ScopeNet.{ScopeNet}
use Rattle.module_scope.specs.declared.scopes.Scope.{Scope}
use Rattle.module_scope.specs.Scopes.{scope_net}
use Rattle.item_parts.specs.Widths.{net_range, range_width}
use Rattle.expression_bits.specs.declared.runs.BitRun.{BitRun}
use Rattle.expression_bits.specs.declared.runs.BitRun.TheVariants.{Net as NetRun, Literal as LiteralRun}
use Rattle.module_parts.specs.declared.parts.ModulePart.{ModulePart}
use Rattle.module_parts.specs.declared.parts.ModulePart.TheVariants.{Names, Gate, Pair, Instance}
use Rattle.netlist_plan.specs.declared.nets.NetSource.{NetSource}
use Rattle.netlist_plan.specs.declared.nets.NetSource.TheVariants.{Named, Literal}
use Rattle.netlist_plan.specs.declared.plan.OwnName.{OwnName}
use Rattle.netlist_plan.specs.declared.plan.OwnName.TheVariants.{Written, Unnamed}
use Rattle.netlist_plan.specs.declared.plan.PlanNet.{PlanNet}
use Rattle.netlist_plan.specs.Unnamed.{literal_count, numbered_from, own_count, runs_in, unnamed_count}
use Rattle.netlist_plan.specs.Nets.{bit_count, new_sources, nets_from, part_sources, run_sources, source_width}
use Rattle.netlist_plan.specs.Plan.{named_net, plan_net, plan_source}
use Rattle.netlist_plan.specs.Flattening.{bit_count as plan_bits}
use Rattle.flattening_laws.specs.SoundPlans.{AreInRow}
use Rattle.flattening_laws.proofs.Apart.{AreApart, Differ}
use Rattle.plan_laws.proofs.SourceLaws.{IsSource}

-- ---- in a row

width_is : (scope : Scope) (bound first : ℕ) (source : NetSource) → IsSource bound source → range_width (plan_source scope first source).range ≡ source_width scope source
width_is scope bound first (Named name) is = by_net (scope_net scope name)
  where
    by_net : (o : Option ScopeNet) → range_width (named_net name first o).range ≡ range_width (net_range o)
    by_net None = refl
    by_net (Some net) = refl
width_is scope bound first (Literal number bits) is = let some = is.1 in omega arith

pub plan-row : (scope : Scope) (bound first : ℕ) (sources : List NetSource) → AllByRecursion (IsSource bound) sources → AreInRow first (map (plan_net scope) (nets_from scope first sources))
plan-row scope bound first [] is = tt
plan-row scope bound first (source ∷ sources) is = (
  first_is source,
  subst (λ w. AreInRow (first + w) (map (plan_net scope) (nets_from scope (first + source_width scope source) sources))) (sym (width_is scope bound first source is.0))
      (plan-row scope bound (first + source_width scope source) sources is.1),
)
  where
    first_is : (source : NetSource) → (plan_source scope first source).first ≡ first
    first_is (Named name) = by_net (scope_net scope name)
      where
        by_net : (o : Option ScopeNet) → (named_net name first o).first ≡ first
        by_net None = refl
        by_net (Some net) = refl
    first_is (Literal number bits) = refl

pub plan-bits : (scope : Scope) (bound first : ℕ) (sources : List NetSource) → AllByRecursion (IsSource bound) sources
    → plan_bits (map (plan_net scope) (nets_from scope first sources)) ≡ bit_count scope (nets_from scope first sources)
plan-bits scope bound first [] is = refl
plan-bits scope bound first (source ∷ sources) is =
    ap (λ w. w + plan_bits (map (plan_net scope) (nets_from scope (first + source_width scope source) sources))) (width_is scope bound first source is.0)
    ∙ ap (λ b. source_width scope source + b) (plan-bits scope bound (first + source_width scope source) sources is.1)

-- ---- literals have rising numbers

abbrev pub AreRising : ℕ → List NetSource → Type 0
AreRising low [] = Unit {0}
AreRising low (Named name ∷ sources) = AreRising low sources
AreRising low (Literal number bits ∷ sources) = (low ≤ number) × AreRising (number + 1) sources

rising_lower : (low mid : ℕ) (sources : List NetSource) → low ≤ mid → AreRising mid sources → AreRising low sources
rising_lower low mid [] le h = tt
rising_lower low mid (Named name ∷ sources) le h = rising_lower low mid sources le h
rising_lower low mid (Literal number bits ∷ sources) le h = (let least = h.0 in omega arith, h.1)

runs_rising : (number : ℕ) (runs : List BitRun) (rest : List NetSource) → AreRising (number + literal_count runs) rest → AreRising number (run_sources number runs ++ rest)
runs_rising number [] rest h = rising_lower number (number + 0) rest (omega arith) h
runs_rising number (NetRun name select ∷ runs) rest h = runs_rising number runs rest h
runs_rising number (LiteralRun bits ∷ runs) rest h =
    (omega arith, runs_rising (number + 1) runs rest (rising_lower (number + 1 + literal_count runs) (number + (1 + literal_count runs)) rest (omega arith) h))

names_rising : (number : ℕ) (names : List (List ℕ)) (rest : List NetSource) → AreRising number rest → AreRising number (map Named names ++ rest)
names_rising number [] rest h = h
names_rising number (name ∷ names) rest h = names_rising number names rest h

part_rising : (number : ℕ) (part : ModulePart) (rest : List NetSource) → AreRising (number + unnamed_count part) rest → AreRising number (part_sources (number, part) ++ rest)
part_rising number (Names names) rest h = names_rising number names rest (rising_lower number (number + unnamed_count (Names names)) rest (omega arith) h)
part_rising number (Gate g) rest h = by_runs (own_count (Gate g)) (runs_in (Gate g)) h
  where
    by_runs : (own : ℕ) (runs : List BitRun) → AreRising (number + (own + literal_count runs)) rest → AreRising number (run_sources (number + own) runs ++ rest)
    by_runs own runs h = rising_lower number (number + own) (run_sources (number + own) runs ++ rest) (omega arith) (runs_rising (number + own) runs rest (rising_lower (number + own + literal_count runs) (number + (own + literal_count runs)) rest (omega arith) h))
part_rising number (Pair p) rest h = by_runs (own_count (Pair p)) (runs_in (Pair p)) h
  where
    by_runs : (own : ℕ) (runs : List BitRun) → AreRising (number + (own + literal_count runs)) rest → AreRising number (run_sources (number + own) runs ++ rest)
    by_runs own runs h = rising_lower number (number + own) (run_sources (number + own) runs ++ rest) (omega arith) (runs_rising (number + own) runs rest (rising_lower (number + own + literal_count runs) (number + (own + literal_count runs)) rest (omega arith) h))
part_rising number (Instance i) rest h = by_runs (own_count (Instance i)) (runs_in (Instance i)) h
  where
    by_runs : (own : ℕ) (runs : List BitRun) → AreRising (number + (own + literal_count runs)) rest → AreRising number (run_sources (number + own) runs ++ rest)
    by_runs own runs h = rising_lower number (number + own) (run_sources (number + own) runs ++ rest) (omega arith) (runs_rising (number + own) runs rest (rising_lower (number + own + literal_count runs) (number + (own + literal_count runs)) rest (omega arith) h))

pub parts_rising : (number : ℕ) (parts : List ModulePart) → AreRising number (flat_map part_sources (numbered_from number parts))
parts_rising number [] = tt
parts_rising number (part ∷ parts) =
    part_rising number part (flat_map part_sources (numbered_from (number + unnamed_count part) parts)) (parts_rising (number + unnamed_count part) parts)

pub new_rising : (before : List (List ℕ)) (low : ℕ) (sources : List NetSource) → AreRising low sources → AreRising low (new_sources before sources)
new_rising before low [] h = tt
new_rising before low (Named name ∷ sources) h = by_test (new_rising before low sources h) (new_rising (before ++ name ∷ []) low sources h) (is_among name before)
  where
    by_test : AreRising low (new_sources before sources) → AreRising low (new_sources (before ++ name ∷ []) sources)
        → (b : Bool) → AreRising low (if b then new_sources before sources else Named name ∷ new_sources (before ++ name ∷ []) sources)
    by_test old new true = old
    by_test old new false = new
new_rising before low (Literal number bits ∷ sources) h = (h.0, new_rising before (number + 1) sources h.1)

-- ---- names differ

abbrev pub source_name : NetSource → OwnName
source_name (Named name) = Written name
source_name (Literal number bits) = Unnamed number

text_of : OwnName → List ℕ
text_of (Written name) = name
text_of (Unnamed number) = []

number_of : OwnName → ℕ
number_of (Written name) = 0
number_of (Unnamed number) = number

is_written : OwnName → Bool
is_written (Written name) = true
is_written (Unnamed number) = false

written_apart : (name : List ℕ) (number : ℕ) → Differ (Written name) (Unnamed number)
unfolding is_written
written_apart name number e = let no : true ≡ false = ap is_written e in cc

later_apart : (number low : ℕ) (sources : List NetSource) → number < low → AreRising low sources → AllByRecursion (λ s. Differ (Unnamed number) (source_name s)) sources
unfolding number_of
later_apart number low [] less h = tt
later_apart number low (Named name ∷ sources) less h = (λ e. written_apart name number (sym e), later_apart number low sources less h)
later_apart number low (Literal other bits ∷ sources) less h =
    (λ e. let same : number ≡ other = ap number_of e in let least = h.0 in omega arith, later_apart number (other + 1) sources (let least = h.0 in omega arith) h.1)

among_more : (name other : List ℕ) (names : List (List ℕ)) → is_among name names ≡ true → is_among name (names ++ other ∷ []) ≡ true
among_more name other [] e = absurd (let no : false ≡ true = e in cc)
among_more name other (n ∷ names) e = by_test (same_name name n) e (among_more name other names)
  where
    by_test : (b : Bool) → (b || is_among name names) ≡ true → (is_among name names ≡ true → is_among name (names ++ other ∷ []) ≡ true) → (b || is_among name (names ++ other ∷ [])) ≡ true
    by_test true e rest = refl
    by_test false e rest = rest e

among_last : (name : List ℕ) (names : List (List ℕ)) → is_among name (names ++ name ∷ []) ≡ true
among_last name [] = ap (λ b. b || false) ((bytes_eq-Decides name name).1 refl)
among_last name (n ∷ names) = by_test (same_name name n) (among_last name names)
  where
    by_test : (b : Bool) → is_among name (names ++ name ∷ []) ≡ true → (b || is_among name (names ++ name ∷ [])) ≡ true
    by_test true rest = refl
    by_test false rest = rest

fresh : (name : List ℕ) (before : List (List ℕ)) (sources : List NetSource) → is_among name before ≡ true → AllByRecursion (λ s. Differ (Written name) (source_name s)) (new_sources before sources)
unfolding text_of
fresh name before [] there = tt
fresh name before (Named other ∷ sources) there =
    by_test (is_among other before) refl (fresh name before sources there) (fresh name (before ++ other ∷ []) sources (among_more name other before there))
  where
    by_test : (b : Bool) → is_among other before ≡ b → AllByRecursion (λ s. Differ (Written name) (source_name s)) (new_sources before sources)
        → AllByRecursion (λ s. Differ (Written name) (source_name s)) (new_sources (before ++ other ∷ []) sources)
        → AllByRecursion (λ s. Differ (Written name) (source_name s)) (if b then new_sources before sources else Named other ∷ new_sources (before ++ other ∷ []) sources)
    by_test true is old new = old
    by_test false is old new = (
      λ e. let same : name ≡ other = ap text_of e in
          let no : true ≡ false = sym there ∙ ap (λ n. is_among n before) same ∙ is in absurd cc,
      new,
    )
fresh name before (Literal number bits ∷ sources) there = (written_apart name number, fresh name before sources there)

new_apart : (before : List (List ℕ)) (low : ℕ) (sources : List NetSource) → AreRising low sources → AreApart (map source_name (new_sources before sources))
new_apart before low [] h = tt
new_apart before low (Named name ∷ sources) h =
    by_test (is_among name before) (new_apart before low sources h) (new_apart (before ++ name ∷ []) low sources h) (fresh name (before ++ name ∷ []) sources (among_last name before))
  where
    named : (ss : List NetSource) → AllByRecursion (λ s. Differ (Written name) (source_name s)) ss → AllByRecursion (Differ (Written name)) (map source_name ss)
    named [] h = tt
    named (s ∷ ss) h = (h.0, named ss h.1)

    by_test : (b : Bool) → AreApart (map source_name (new_sources before sources)) → AreApart (map source_name (new_sources (before ++ name ∷ []) sources))
        → AllByRecursion (λ s. Differ (Written name) (source_name s)) (new_sources (before ++ name ∷ []) sources)
        → AreApart (map source_name (if b then new_sources before sources else Named name ∷ new_sources (before ++ name ∷ []) sources))
    by_test true old new first = old
    by_test false old new first = (named (new_sources (before ++ name ∷ []) sources) first, new)
new_apart before low (Literal number bits ∷ sources) h =
    (numbered (new_sources before sources) (later_apart number (number + 1) (new_sources before sources) (omega arith) (new_rising before (number + 1) sources h.1)), new_apart before (number + 1) sources h.1)
  where
    numbered : (ss : List NetSource) → AllByRecursion (λ s. Differ (Unnamed number) (source_name s)) ss → AllByRecursion (Differ (Unnamed number)) (map source_name ss)
    numbered [] h = tt
    numbered (s ∷ ss) h = (h.0, numbered ss h.1)

names_are : (scope : Scope) (first : ℕ) (sources : List NetSource) → map (λ (net : PlanNet). net.name) (map (plan_net scope) (nets_from scope first sources)) ≡ map source_name sources
names_are scope first [] = refl
names_are scope first (source ∷ sources) =
    ap (λ n. n ∷ map (λ (net : PlanNet). net.name) (map (plan_net scope) (nets_from scope (first + source_width scope source) sources))) (name_is source)
    ∙ ap (λ ns. source_name source ∷ ns) (names_are scope (first + source_width scope source) sources)
  where
    name_is : (s : NetSource) → (plan_source scope first s).name ≡ source_name s
    name_is (Named name) = by_net (scope_net scope name)
      where
        by_net : (o : Option ScopeNet) → (named_net name first o).name ≡ Written name
        by_net None = refl
        by_net (Some net) = refl
    name_is (Literal number bits) = refl

pub plan-names : (scope : Scope) (parts : List ModulePart)
    → AreApart (map (λ (net : PlanNet). net.name) (map (plan_net scope) (nets_from scope 0 (new_sources [] (flat_map part_sources (numbered_from 0 parts))))))
plan-names scope parts =
    let sources = flat_map part_sources (numbered_from 0 parts) in
    subst (λ (ns : List OwnName). AreApart ns) (sym (names_are scope 0 (new_sources [] sources))) (new_apart [] 0 sources (parts_rising 0 parts))
