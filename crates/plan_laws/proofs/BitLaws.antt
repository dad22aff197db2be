-- The bits of runs are bits of the module's nets.
use Rattle.std.proofs.Common.{◌≡◌, ℕ, ◌+◌, ◌<◌, ◌≤◌, Bool, true, false, ◌||◌, List, [], ◌∷◌, ◌++◌, length, refl, sym, ap, ◌∙◌, arith, inl, inr}
use Rattle.std.specs.Prelude.{◌⊎◌, if◌then◌else◌, nat_eq}
use Rattle.std.proofs.lemmas.Bool.{eq-eqb, eqb-true}
use Rattle.std.proofs.lemmas.Slice.Eq.{bytes_eq-Decides}
use Rattle.v_lexer.specs.declared.literals.Bit.{Bit}
use Rattle.name_table.specs.Names.{is_among, same_name}
use Rattle.module_scope.specs.declared.scopes.Scope.{Scope}
use Rattle.module_scope.specs.Scopes.{scope_net}
use Rattle.item_parts.specs.Widths.{net_range, range_width}
use Rattle.expression_bits.specs.declared.runs.BitRun.{BitRun}
use Rattle.expression_bits.specs.declared.runs.BitRun.TheVariants.{Net as NetRun, Literal as LiteralRun}
use Rattle.netlist_plan.specs.declared.nets.NetSource.{NetSource}
use Rattle.netlist_plan.specs.declared.nets.NetSource.TheVariants.{Named, Literal}
use Rattle.netlist_plan.specs.declared.nets.ModuleNet.{ModuleNet}
use Rattle.netlist_plan.specs.Nets.{bit_count, literal_first, name_first, nets_from, new_sources, run_sources}
use Rattle.plan_laws.proofs.RowLaws.{AreRising}

-- ---- names and literals among sources

abbrev pub has_name : List ℕ → List NetSource → Bool
has_name name [] = false
has_name name (Named other ∷ sources) = same_name name other || has_name name sources
has_name name (Literal number bits ∷ sources) = has_name name sources

abbrev pub HasLiteral : ℕ → List Bit → List NetSource → Type 0
HasLiteral number bits [] = ⊥
HasLiteral number bits (Named name ∷ sources) = HasLiteral number bits sources
HasLiteral number bits (Literal other those ∷ sources) = ((number ≡ other) × (bits ≡ those)) ⊎ HasLiteral number bits sources

-- the runs, of which the first literal has a number, are among the sources
abbrev pub AreAmong : List NetSource → ℕ → List BitRun → Type 0
AreAmong sources number [] = Unit {0}
AreAmong sources number (NetRun name select ∷ runs) = (has_name name sources ≡ true) × AreAmong sources number runs
AreAmong sources number (LiteralRun bits ∷ runs) = HasLiteral number bits sources × AreAmong sources (number + 1) runs

or_right : (a b : Bool) → b ≡ true → (a || b) ≡ true
or_right true b e = refl
or_right false b e = e

pub has_name_right : (name : List ℕ) (xs ys : List NetSource) → has_name name ys ≡ true → has_name name (xs ++ ys) ≡ true
has_name_right name [] ys e = e
has_name_right name (Named other ∷ xs) ys e = or_right (same_name name other) (has_name name (xs ++ ys)) (has_name_right name xs ys e)
has_name_right name (Literal number bits ∷ xs) ys e = has_name_right name xs ys e

pub has_name_left : (name : List ℕ) (xs ys : List NetSource) → has_name name xs ≡ true → has_name name (xs ++ ys) ≡ true
has_name_left name [] ys e = absurd (let no : false ≡ true = e in cc)
has_name_left name (Named other ∷ xs) ys e = by_test (same_name name other) e (has_name_left name xs ys)
  where
    by_test : (b : Bool) → (b || has_name name xs) ≡ true → (has_name name xs ≡ true → has_name name (xs ++ ys) ≡ true) → (b || has_name name (xs ++ ys)) ≡ true
    by_test true e rest = refl
    by_test false e rest = rest e
has_name_left name (Literal number bits ∷ xs) ys e = has_name_left name xs ys e

has_literal_right : (number : ℕ) (bits : List Bit) (xs ys : List NetSource) → HasLiteral number bits ys → HasLiteral number bits (xs ++ ys)
has_literal_right number bits [] ys h = h
has_literal_right number bits (Named name ∷ xs) ys h = has_literal_right number bits xs ys h
has_literal_right number bits (Literal other those ∷ xs) ys h = inr (has_literal_right number bits xs ys h)

has_literal_left : (number : ℕ) (bits : List Bit) (xs ys : List NetSource) → HasLiteral number bits xs → HasLiteral number bits (xs ++ ys)
has_literal_left number bits [] ys h = absurd h
has_literal_left number bits (Named name ∷ xs) ys h = has_literal_left number bits xs ys h
has_literal_left number bits (Literal other those ∷ xs) ys (inl h) = inl h
has_literal_left number bits (Literal other those ∷ xs) ys (inr h) = inr (has_literal_left number bits xs ys h)

pub among_right : (xs ys : List NetSource) (number : ℕ) (runs : List BitRun) → AreAmong ys number runs → AreAmong (xs ++ ys) number runs
among_right xs ys number [] h = tt
among_right xs ys number (NetRun name select ∷ runs) h = (has_name_right name xs ys h.0, among_right xs ys number runs h.1)
among_right xs ys number (LiteralRun bits ∷ runs) h = (has_literal_right number bits xs ys h.0, among_right xs ys (number + 1) runs h.1)

pub among_left : (xs ys : List NetSource) (number : ℕ) (runs : List BitRun) → AreAmong xs number runs → AreAmong (xs ++ ys) number runs
among_left xs ys number [] h = tt
among_left xs ys number (NetRun name select ∷ runs) h = (has_name_left name xs ys h.0, among_left xs ys number runs h.1)
among_left xs ys number (LiteralRun bits ∷ runs) h = (has_literal_left number bits xs ys h.0, among_left xs ys (number + 1) runs h.1)

same_self : (name : List ℕ) → same_name name name ≡ true
same_self name = (bytes_eq-Decides name name).1 refl

pub among_own : (number : ℕ) (runs : List BitRun) → AreAmong (run_sources number runs) number runs
among_own number [] = tt
among_own number (NetRun name select ∷ runs) =
    (ap (λ b. b || has_name name (run_sources number runs)) (same_self name), among_right (Named name ∷ []) (run_sources number runs) number runs (among_own number runs))
among_own number (LiteralRun bits ∷ runs) =
    (inl (refl, refl), among_right (Literal number bits ∷ []) (run_sources (number + 1) runs) (number + 1) runs (among_own (number + 1) runs))

-- ---- they stay among new sources

not_among : (name other : List ℕ) (before : List (List ℕ)) → is_among name before ≡ false → same_name name other ≡ false → is_among name (before ++ other ∷ []) ≡ false
not_among name other [] e d = ap (λ b. b || false) d
not_among name other (n ∷ before) e d = by_test (same_name name n) e (λ f. not_among name other before f d)
  where
    by_test : (b : Bool) → (b || is_among name before) ≡ false → (is_among name before ≡ false → is_among name (before ++ other ∷ []) ≡ false) → (b || is_among name (before ++ other ∷ [])) ≡ false
    by_test true e rest = absurd (let no : true ≡ false = e in cc)
    by_test false e rest = rest e

pub new_has_name : (name : List ℕ) (before : List (List ℕ)) (sources : List NetSource) → is_among name before ≡ false → has_name name sources ≡ true → has_name name (new_sources before sources) ≡ true
new_has_name name before [] new e = absurd (let no : false ≡ true = e in cc)
new_has_name name before (Named other ∷ sources) new e =
    by_test (same_name name other) refl e (is_among other before) refl (λ f. new_has_name name before sources new f)
    (λ d f. new_has_name name (before ++ other ∷ []) sources (not_among name other before new d) f)
  where
    by_test : (same : Bool) → same_name name other ≡ same → (same || has_name name sources) ≡ true → (old : Bool) → is_among other before ≡ old
        → (has_name name sources ≡ true → has_name name (new_sources before sources) ≡ true)
        → (same_name name other ≡ false → has_name name sources ≡ true → has_name name (new_sources (before ++ other ∷ []) sources) ≡ true)
        → has_name name (if old then new_sources before sources else Named other ∷ new_sources (before ++ other ∷ []) sources) ≡ true
    by_test true is e true there keep more =
        let same : name ≡ other = (bytes_eq-Decides name other).0 is in
        let no : true ≡ false = sym there ∙ ap (λ n. is_among n before) (sym same) ∙ new in absurd cc
    by_test true is e false there keep more = ap (λ b. b || has_name name (new_sources (before ++ other ∷ []) sources)) is
    by_test false is e true there keep more = keep e
    by_test false is e false there keep more = or_right (same_name name other) (has_name name (new_sources (before ++ other ∷ []) sources)) (more is e)
new_has_name name before (Literal number bits ∷ sources) new e = new_has_name name before sources new e

new_has_literal : (number : ℕ) (bits : List Bit) (before : List (List ℕ)) (sources : List NetSource) → HasLiteral number bits sources → HasLiteral number bits (new_sources before sources)
new_has_literal number bits before [] h = absurd h
new_has_literal number bits before (Named other ∷ sources) h =
    by_test (is_among other before) (new_has_literal number bits before sources h) (new_has_literal number bits (before ++ other ∷ []) sources h)
  where
    by_test : (b : Bool) → HasLiteral number bits (new_sources before sources) → HasLiteral number bits (new_sources (before ++ other ∷ []) sources)
        → HasLiteral number bits (if b then new_sources before sources else Named other ∷ new_sources (before ++ other ∷ []) sources)
    by_test true old new = old
    by_test false old new = new
new_has_literal number bits before (Literal other those ∷ sources) (inl h) = inl h
new_has_literal number bits before (Literal other those ∷ sources) (inr h) = inr (new_has_literal number bits before sources h)

pub among_new : (sources : List NetSource) (number : ℕ) (runs : List BitRun) → AreAmong sources number runs → AreAmong (new_sources [] sources) number runs
among_new sources number [] h = tt
among_new sources number (NetRun name select ∷ runs) h = (new_has_name name [] sources refl h.0, among_new sources number runs h.1)
among_new sources number (LiteralRun bits ∷ runs) h = (new_has_literal number bits [] sources h.0, among_new sources (number + 1) runs h.1)

-- ---- their bits

module _ (scope : Scope) where
  abbrev pub width_of_name : List ℕ → ℕ
  width_of_name name = range_width (net_range (scope_net scope name))

  pub name_within : (name : List ℕ) (first : ℕ) (sources : List NetSource) → has_name name sources ≡ true
      → name_first (nets_from scope first sources) name + width_of_name name ≤ first + bit_count scope (nets_from scope first sources)
  name_within name first [] e = absurd (let no : false ≡ true = e in cc)
  name_within name first (Named other ∷ sources) e = by_test (same_name name other) refl e (name_within name (first + width_of_name other) sources)
    where
      rest : List ModuleNet
      rest = nets_from scope (first + width_of_name other) sources

      by_test : (b : Bool) → same_name name other ≡ b → (b || has_name name sources) ≡ true
          → (has_name name sources ≡ true → name_first rest name + width_of_name name ≤ first + width_of_name other + bit_count scope rest)
          → (if b then first else name_first rest name) + width_of_name name ≤ first + (width_of_name other + bit_count scope rest)
      by_test true is e keep = let same : width_of_name name ≡ width_of_name other = ap width_of_name ((bytes_eq-Decides name other).0 is) in omega arith
      by_test false is e keep = let less = keep e in omega arith
  name_within name first (Literal number bits ∷ sources) e = let less = name_within name (first + length bits) sources e in omega arith

  -- a number below those of the literals is none of theirs
  no_literal : (number low : ℕ) (bits : List Bit) (sources : List NetSource) → number < low → AreRising low sources → HasLiteral number bits sources → ⊥
  no_literal number low bits [] less rising h = h
  no_literal number low bits (Named name ∷ sources) less rising h = no_literal number low bits sources less rising h
  no_literal number low bits (Literal other those ∷ sources) less rising (inl h) = let same = h.0 in let least = rising.0 in omega arith
  no_literal number low bits (Literal other those ∷ sources) less rising (inr h) = no_literal number (other + 1) bits sources (let least = rising.0 in omega arith) rising.1 h

  pub literal_within : (number low : ℕ) (bits : List Bit) (first : ℕ) (sources : List NetSource) → AreRising low sources → HasLiteral number bits sources
      → literal_first (nets_from scope first sources) number + length bits ≤ first + bit_count scope (nets_from scope first sources)
  literal_within number low bits first [] rising h = absurd h
  literal_within number low bits first (Named name ∷ sources) rising h =
      let less = literal_within number low bits (first + width_of_name name) sources rising h in omega arith
  literal_within number low bits first (Literal other those ∷ sources) rising h =
      by_test (nat_eq number other) refl h (λ k. literal_within number (other + 1) bits (first + length those) sources rising.1 k)
    where
      rest : List ModuleNet
      rest = nets_from scope (first + length those) sources

      by_test : (b : Bool) → nat_eq number other ≡ b → (((number ≡ other) × (bits ≡ those)) ⊎ HasLiteral number bits sources)
          → (HasLiteral number bits sources → literal_first rest number + length bits ≤ first + length those + bit_count scope rest)
          → (if b then first else literal_first rest number) + length bits ≤ first + (length those + bit_count scope rest)
      by_test true is (inl h) keep = let same : length bits ≡ length those = ap length h.1 in omega arith
      by_test true is (inr h) keep =
          absurd (no_literal number (other + 1) bits sources (let same : number ≡ other = eqb-true number other is in omega arith) rising.1 h)
      by_test false is (inl h) keep = absurd (let no : true ≡ false = sym (by_same h.0) ∙ is in cc)
        where
          by_same : number ≡ other → nat_eq number other ≡ true
          by_same e = ap (nat_eq number) (sym e) ∙ self number
            where
              self : (n : ℕ) → nat_eq n n ≡ true
              self n = eq-eqb n n refl
      by_test false is (inr h) keep = let less = keep h in omega arith
