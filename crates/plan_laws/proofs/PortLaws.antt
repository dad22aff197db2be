-- The bits of a module's ports are bits of its nets, and no two ports have the same.
use Rattle.std.proofs.Common.{◌≡◌, ℕ, zero, suc, ◌+◌, ◌<◌, ◌≤◌, ◌^◌, Bool, true, false, ◌||◌, List, [], ◌∷◌, ◌++◌, length, map, refl, sym, ap, ◌∙◌, arith, inl, inr}
use Rattle.std.specs.Prelude.{◌⊎◌, if◌then◌else◌}
use Rattle.std.specs.List.{AllByRecursion, range_with_len, enumerate_from}
use Rattle.std.proofs.lemmas.Slice.Eq.{bytes_eq-Decides}
use Rattle.v_lexer.specs.declared.literals.Bit.{Bit}
use Rattle.name_table.specs.Names.{same_name}
use Rattle.udp_table.specs.Primitive.{Primitive}
use Rattle.module_scope.specs.declared.scopes.Scope.{Scope}
use Rattle.expression_bits.specs.declared.runs.BitRun.{BitRun}
use Rattle.expression_bits.specs.declared.runs.BitRun.TheVariants.{Net as NetRun, Literal as LiteralRun}
use Rattle.netlist_plan.specs.declared.nets.NetSource.{NetSource}
use Rattle.netlist_plan.specs.declared.nets.NetSource.TheVariants.{Named, Literal}
use Rattle.netlist_plan.specs.declared.nets.ModuleNet.{ModuleNet}
use Rattle.netlist_plan.specs.Unnamed.{literal_count}
use Rattle.netlist_plan.specs.Nets.{bit_count, literal_first, name_first, nets_from}
use Rattle.netlist_plan.specs.Elements.{constant, constants, literal_constants}
use Rattle.netlist_plan.specs.Plan.{port_bits}
use Rattle.flattening_laws.specs.SoundPlans.{IsPlanElement, ports_bits}
use Rattle.flattening_laws.proofs.Apart.{AreApart, All_from_each, Differ, apart_append, each_append}
use Rattle.flattening_laws.proofs.BitNames.{each_range}
use Rattle.plan_laws.specs.SoundRuns.{IsSoundRun}
use Rattle.plan_laws.proofs.RowLaws.{AreRising}
use Rattle.plan_laws.proofs.BitLaws.{AreAmong, has_name, literal_within, name_within, width_of_name}

row_apart : (a n : ℕ) → AreApart (range_with_len a n)
row_apart a zero = tt
row_apart a (suc n) = (each_range (Differ a) (a + 1) n (λ k least less e. omega arith), row_apart (a + 1) n)

module _ (scope : Scope) where
  name_behind : (name : List ℕ) (first : ℕ) (sources : List NetSource) → has_name name sources ≡ true → first ≤ name_first (nets_from scope first sources) name
  name_behind name first [] e = absurd (let no : false ≡ true = e in cc)
  name_behind name first (Named other ∷ sources) e = by_test (same_name name other) e (name_behind name (first + width_of_name scope other) sources)
    where
      by_test : (b : Bool) → (b || has_name name sources) ≡ true → (has_name name sources ≡ true → first + width_of_name scope other ≤ name_first (nets_from scope (first + width_of_name scope other) sources) name)
          → first ≤ (if b then first else name_first (nets_from scope (first + width_of_name scope other) sources) name)
      by_test true e rest = omega arith
      by_test false e rest = let least = rest e in omega arith
  name_behind name first (Literal number bits ∷ sources) e = let least = name_behind name (first + length bits) sources e in omega arith

  -- the bits of one name stand before those of the other
  abbrev AreParted : List ModuleNet → List ℕ → List ℕ → Type 0
  AreParted nets a b = (name_first nets a + width_of_name scope a ≤ name_first nets b) ⊎ (name_first nets b + width_of_name scope b ≤ name_first nets a)

  names_parted : (a b : List ℕ) (first : ℕ) (sources : List NetSource) → (a ≡ b → ⊥) → has_name a sources ≡ true → has_name b sources ≡ true → AreParted (nets_from scope first sources) a b
  names_parted a b first [] differ e f = absurd (let no : false ≡ true = e in cc)
  names_parted a b first (Named other ∷ sources) differ e f =
      by_tests (same_name a other) refl (same_name b other) refl e f (name_behind a (first + width_of_name scope other) sources) (name_behind b (first + width_of_name scope other) sources)
      (names_parted a b (first + width_of_name scope other) sources differ)
    where
      rest : List ModuleNet
      rest = nets_from scope (first + width_of_name scope other) sources

      by_tests : (s : Bool) → same_name a other ≡ s → (t : Bool) → same_name b other ≡ t → (s || has_name a sources) ≡ true → (t || has_name b sources) ≡ true
          → (has_name a sources ≡ true → first + width_of_name scope other ≤ name_first rest a) → (has_name b sources ≡ true → first + width_of_name scope other ≤ name_first rest b)
          → (has_name a sources ≡ true → has_name b sources ≡ true → AreParted rest a b)
          → ((if s then first else name_first rest a) + width_of_name scope a ≤ (if t then first else name_first rest b))
          ⊎ ((if t then first else name_first rest b) + width_of_name scope b ≤ (if s then first else name_first rest a))
      by_tests true is true it e f least_a least_b parted = absurd (differ ((bytes_eq-Decides a other).0 is ∙ sym ((bytes_eq-Decides b other).0 it)))
      by_tests true is false it e f least_a least_b parted =
          let same : width_of_name scope a ≡ width_of_name scope other = ap (width_of_name scope) ((bytes_eq-Decides a other).0 is) in
          let least = least_b f in
          inl (omega arith)
      by_tests false is true it e f least_a least_b parted =
          let same : width_of_name scope b ≡ width_of_name scope other = ap (width_of_name scope) ((bytes_eq-Decides b other).0 it) in
          let least = least_a e in
          inr (omega arith)
      by_tests false is false it e f least_a least_b parted = parted e f
  names_parted a b first (Literal number bits ∷ sources) differ e f = names_parted a b (first + length bits) sources differ e f

  module _ (sources : List NetSource) where
    abbrev nets : List ModuleNet
    nets = nets_from scope 0 sources

    abbrev name_bits : List ℕ → List ℕ
    name_bits name = range_with_len (name_first nets name) (width_of_name scope name)

    bits_differ : (a b : List ℕ) → AreParted nets a b → AllByRecursion (λ x. AllByRecursion (Differ x) (name_bits b)) (name_bits a)
    bits_differ a b parted =
        each_range (λ x. AllByRecursion (Differ x) (name_bits b)) (name_first nets a) (width_of_name scope a) (λ x least less.
        each_range (Differ x) (name_first nets b) (width_of_name scope b) (λ y from to same. never x y least less from to same parted))
      where
        never : (x y : ℕ) → name_first nets a ≤ x → x < name_first nets a + width_of_name scope a → name_first nets b ≤ y → y < name_first nets b + width_of_name scope b → x ≡ y → AreParted nets a b → ⊥
        never x y least less from to same (inl before) = omega arith
        never x y least less from to same (inr behind) = omega arith

    ports_from : (port : ℕ) (name : List ℕ) (names : List (List ℕ)) → has_name name sources ≡ true → AllByRecursion (λ n. has_name n sources ≡ true) names → AllByRecursion (Differ name) names
        → AllByRecursion (λ x. AllByRecursion (Differ x) (ports_bits (map (port_bits scope nets) (enumerate_from port names)))) (name_bits name)
    ports_from port name [] there all differ = each_range (λ x. AllByRecursion (Differ x) []) (name_first nets name) (width_of_name scope name) (λ x least less. tt)
    ports_from port name (other ∷ names) there all differ =
        both (name_bits name) (bits_differ name other (names_parted name other 0 sources differ.0 there all.0)) (ports_from (port + 1) name names there all.1 differ.1)
      where
        rest : List ℕ
        rest = ports_bits (map (port_bits scope nets) (enumerate_from (port + 1) names))

        both : (xs : List ℕ) → AllByRecursion (λ x. AllByRecursion (Differ x) (name_bits other)) xs → AllByRecursion (λ x. AllByRecursion (Differ x) rest) xs
            → AllByRecursion (λ x. AllByRecursion (Differ x) (name_bits other ++ rest)) xs
        both [] h k = tt
        both (x ∷ xs) h k = (each_append (Differ x) (name_bits other) rest h.0 k.0, both xs h.1 k.1)

    pub ports-apart : (port : ℕ) (names : List (List ℕ)) → AllByRecursion (λ n. has_name n sources ≡ true) names → AreApart names → AreApart (ports_bits (map (port_bits scope nets) (enumerate_from port names)))
    ports-apart port [] all apart = tt
    ports-apart port (name ∷ names) all apart =
        apart_append (name_bits name) (ports_bits (map (port_bits scope nets) (enumerate_from (port + 1) names)))
        (row_apart (name_first nets name) (width_of_name scope name)) (ports-apart (port + 1) names all.1 apart.1) (ports_from (port + 1) name names all.0 all.1 apart.0)

    pub ports-within : (port : ℕ) (names : List (List ℕ)) → AllByRecursion (λ n. has_name n sources ≡ true) names
        → AllByRecursion (λ bit. bit < bit_count scope nets) (ports_bits (map (port_bits scope nets) (enumerate_from port names)))
    ports-within port [] all = tt
    ports-within port (name ∷ names) all =
        let whole = name_within scope name 0 sources all.0 in
        each_append (λ bit. bit < bit_count scope nets) (name_bits name) (ports_bits (map (port_bits scope nets) (enumerate_from (port + 1) names)))
        (each_range (λ bit. bit < bit_count scope nets) (name_first nets name) (width_of_name scope name) (λ bit least less. omega arith))
        (ports-within (port + 1) names all.1)

    -- ---- constants

    module _ (udps : List Primitive) (rising : AreRising 0 sources) where
      literal_from : (number width place : ℕ) (bits : List Bit) → number < 2 ^ 32 → width < 2 ^ 32 → 0 < width → literal_first nets number + (place + length bits) ≤ bit_count scope nets
          → AllByRecursion (IsPlanElement udps (bit_count scope nets)) (map (constant number width (literal_first nets number)) (enumerate_from place bits))
      literal_from number width place [] small wide some fits = tt
      literal_from number width place (b ∷ bits) small wide some fits = (
        record {
          name = (small, omega arith);
          strengths = (omega arith, omega arith);
          pins = (refl, refl);
          switch = refl;
          few = omega arith;
          within = All_from_each (λ bit. bit < bit_count scope nets) ((literal_first nets number + place) ∷ []) (omega arith, tt);
        },
        literal_from number width (place + 1) bits small wide some (omega arith),
      )

      pub constants_sound : (number : ℕ) (runs : List BitRun) → AreAmong sources number runs → AllByRecursion (IsSoundRun scope) runs → number + literal_count runs ≤ 2 ^ 32
          → AllByRecursion (IsPlanElement udps (bit_count scope nets)) (constants nets number runs)
      constants_sound number [] among is small = tt
      constants_sound number (NetRun name select ∷ runs) among is small = constants_sound number runs among.1 is.1 (omega arith)
      constants_sound number (LiteralRun bits ∷ runs) among is small =
          let whole = literal_within scope number 0 bits 0 sources rising among.0 in
          each_append (IsPlanElement udps (bit_count scope nets)) (literal_constants nets number bits) (constants nets (number + 1) runs)
          (literal_from number (length bits) 0 bits (omega arith) is.0.1 is.0.0 (omega arith))
          (constants_sound (number + 1) runs among.1 is.1 (omega arith))
