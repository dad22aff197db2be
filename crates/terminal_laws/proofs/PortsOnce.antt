-- The connections of an instance that breaks no rule on them: each port is connected once, and a primitive's all by place.
use Rattle.std.proofs.Common.{◌≡◌, ℕ, suc, ◌+◌, ◌<◌, Bool, true, false, ◌||◌, not, List, [], ◌∷◌, ◌++◌, length, map, Option, Some, None, is_none, refl, sym, ap, ◌∙◌, arith}
use Rattle.std.specs.Prelude.{if◌then◌else◌, nat_eq}
use Rattle.std.specs.Option.{option_map}
use Rattle.std.specs.List.{AllByRecursion, enumerate_from, flat_map, list_any}
use Rattle.std.proofs.lemmas.Bool.{eqb-true}
use Rattle.name_table.specs.Names.{index_of, is_among, same_name}
use Rattle.v_tree.specs.declared.locations.Location.{Location}
use Rattle.v_tree.specs.declared.expressions.Expr.{Expr}
use Rattle.v_tree.specs.declared.gates.Connection.{Connection}
use Rattle.v_tree.specs.declared.gates.Connections.{Connections}
use Rattle.v_tree.specs.declared.gates.Connections.TheVariants.{ByOrder, ByName}
use Rattle.module_scope.specs.Places.{place_if}
use Rattle.module_graph.proofs.NumberLaws.{same_name_equal, same_name_itself}
use Rattle.module_ports.specs.Ports.{Port, index_in, names_of}
use Rattle.instance_rules.specs.Links.{Link, MasterPorts, ModulePorts, connections_by_place, links, named_link, optional_link, ordered_link}
use Rattle.instance_rules.specs.Rules.{connects_all, module_connections, named_places}
use Rattle.module_parts.specs.Parts.{port_runs}
use Rattle.plan_laws.specs.SoundParts.{connected_ports}
use Rattle.flattening_laws.proofs.Apart.{AreApart, Differ}
use Rattle.terminal_laws.proofs.Walks.{and_parts, no_place, none_parts, not_true, or_parts}

-- ---- by place

ordered_count : (n : ℕ) (values : List (Option Expr)) → list_any is_none values ≡ false → length (flat_map ordered_link (enumerate_from n values)) ≡ length values
ordered_count n [] e = refl
ordered_count n (None ∷ values) e = absurd (let no : true ≡ false = e in cc)
ordered_count n (Some v ∷ values) e = ap suc (ordered_count (n + 1) values e)

places_count : (values : List (Option Expr)) → list_any is_none (connections_by_place values) ≡ false → length (flat_map ordered_link (enumerate_from 0 values)) ≡ length (connections_by_place values)
places_count [] e = refl
places_count (None ∷ []) e = refl
places_count (None ∷ v ∷ values) e = ordered_count 0 (None ∷ v ∷ values) e
places_count (Some v ∷ values) e = ordered_count 0 (Some v ∷ values) e

-- so many connections by place, none of them empty
pub links_count : (ports : MasterPorts) (count : ℕ) (c : Connections) → connects_all count c ≡ true → length (links ports c) ≡ count
links_count ports count (ByOrder values) e =
    let those = connections_by_place values in
    let both = and_parts (nat_eq (length those) count) (not (list_any is_none those)) e in
    places_count values (not_true (list_any is_none those) both.1) ∙ eqb-true (length those) count both.0
links_count ports count (ByName connections) e = absurd (let no : false ≡ true = e in cc)

module _ (ports : MasterPorts) where
  abbrev ports_at : List Link → List ℕ
  ports_at ls = connected_ports (map (port_runs ports) ls)

  ordered_others : (k n : ℕ) (values : List (Option Expr)) → k < n → AllByRecursion (Differ k) (ports_at (flat_map ordered_link (enumerate_from n values)))
  ordered_others k n [] less = tt
  ordered_others k n (None ∷ values) less = ordered_others k (n + 1) values (omega arith)
  ordered_others k n (Some v ∷ values) less = (λ e. omega arith, ordered_others k (n + 1) values (omega arith))

  ordered_apart : (n : ℕ) (values : List (Option Expr)) → AreApart (ports_at (flat_map ordered_link (enumerate_from n values)))
  ordered_apart n [] = tt
  ordered_apart n (None ∷ values) = ordered_apart (n + 1) values
  ordered_apart n (Some v ∷ values) = (ordered_others n (n + 1) values (omega arith), ordered_apart (n + 1) values)

-- ---- by name

some_none : {X : Type 0} (n : ℕ) → None ≡ Some n → X
some_none n e = absurd cc

some_same : (a b : ℕ) → Some a ≡ Some b → a ≡ b
some_same a b e = cc

-- names with one index are the same
index_same : (a b : List ℕ) (names : List (List ℕ)) (k : ℕ) → index_of a names ≡ Some k → index_of b names ≡ Some k → a ≡ b
index_same a b [] k e f = some_none k e
index_same a b (name ∷ names) k e f = by_test (same_name a name) refl (same_name b name) refl e f (λ j g h. index_same a b names j g h)
  where
    found : (p q : Option ℕ) → option_map suc p ≡ Some k → option_map suc q ≡ Some k → ((j : ℕ) → p ≡ Some j → q ≡ Some j → a ≡ b) → a ≡ b
    found None q e f same = some_none k e
    found (Some i) None e f same = some_none k f
    found (Some i) (Some j) e f same =
        let first = some_same (suc i) k e in let second = some_same (suc j) k f in
        let both : j ≡ i = omega arith in same i refl (ap (λ (n : ℕ). Some n) both)

    clash : (o : Option ℕ) → Some 0 ≡ Some k → option_map suc o ≡ Some k → a ≡ b
    clash None e f = some_none k f
    clash (Some j) e f = let first = some_same 0 k e in let second = some_same (suc j) k f in absurd (omega arith)

    by_test : (p : Bool) → same_name a name ≡ p → (q : Bool) → same_name b name ≡ q → (if p then Some 0 else option_map suc (index_of a names)) ≡ Some k
        → (if q then Some 0 else option_map suc (index_of b names)) ≡ Some k
        → ((j : ℕ) → index_of a names ≡ Some j → index_of b names ≡ Some j → a ≡ b) → a ≡ b
    by_test true is true it e f same = same_name_equal a name is ∙ sym (same_name_equal b name it)
    by_test true is false it e f same = clash (index_of b names) e f
    by_test false is true it e f same = clash (index_of a names) f e
    by_test false is false it e f same = found (index_of a names) (index_of b names) e f same

among_more : (name other : List ℕ) (names : List (List ℕ)) → is_among name names ≡ true → is_among name (names ++ other ∷ []) ≡ true
among_more name other [] e = absurd (let no : false ≡ true = e in cc)
among_more name other (n ∷ names) e = by_test (same_name name n) e (among_more name other names)
  where
    by_test : (b : Bool) → (b || is_among name names) ≡ true → (is_among name names ≡ true → is_among name (names ++ other ∷ []) ≡ true) → (b || is_among name (names ++ other ∷ [])) ≡ true
    by_test true e rest = refl
    by_test false e rest = rest e

among_last : (name : List ℕ) (names : List (List ℕ)) → is_among name (names ++ name ∷ []) ≡ true
among_last name [] = ap (λ b. b || false) (same_name_itself name)
among_last name (n ∷ names) = by_test (same_name name n) (among_last name names)
  where
    by_test : (b : Bool) → is_among name (names ++ name ∷ []) ≡ true → (b || is_among name (names ++ name ∷ [])) ≡ true
    by_test true rest = refl
    by_test false rest = rest

module _ (ports : List Port) where
  abbrev ports_from : ℕ → List Connection → List ℕ
  ports_from n connections = ports_at (ModulePorts ports) (flat_map (named_link (ModulePorts ports)) (enumerate_from n connections))

  -- the ports of connections that break no rule, behind those of these names
  unbroken : (before : List (List ℕ)) (c : Connection) (connections : List Connection) → named_places ports before (c ∷ connections) ≡ []
      → (is_among c.port.text before ≡ false) × (named_places ports (before ++ c.port.text ∷ []) connections ≡ [])
  unbroken before c connections e =
      let no_port = not (is_among c.port.text (names_of ports)) in
      let again = is_among c.port.text before in
      let both = none_parts (place_if (no_port || again) c.location) (named_places ports (before ++ c.port.text ∷ []) connections) e in
      let neither = or_parts no_port again (no_place (no_port || again) c.location both.0) in (neither.1, both.1)

  named_others : (before : List (List ℕ)) (name : List ℕ) (k n : ℕ) (connections : List Connection) → is_among name before ≡ true → index_in name ports ≡ Some k
      → named_places ports before connections ≡ [] → AllByRecursion (Differ k) (ports_from n connections)
  named_others before name k n [] there is e = tt
  named_others before name k n (c ∷ connections) there is e =
      let parts = unbroken before c connections e in
      by_value c.value (index_in c.port.text ports) refl parts.0
      (named_others (before ++ c.port.text ∷ []) name k (n + 1) connections (among_more name c.port.text before there) is parts.1)
    where
      by_value : (value : Option Expr) (o : Option ℕ) → index_in c.port.text ports ≡ o → is_among c.port.text before ≡ false → AllByRecursion (Differ k) (ports_from (n + 1) connections)
          → AllByRecursion (Differ k) (ports_at (ModulePorts ports) (optional_link o c.location value ++ flat_map (named_link (ModulePorts ports)) (enumerate_from (n + 1) connections)))
      by_value None o it new rest = rest
      by_value (Some v) None it new rest = rest
      by_value (Some v) (Some j) it new rest = (
        λ same.
            let one : name ≡ c.port.text = index_same name c.port.text (names_of ports) k is (it ∙ ap (λ (i : ℕ). Some i) (sym same)) in
            let no : true ≡ false = sym there ∙ ap (λ t. is_among t before) one ∙ new in absurd cc,
        rest,
      )

  named_apart : (before : List (List ℕ)) (n : ℕ) (connections : List Connection) → named_places ports before connections ≡ [] → AreApart (ports_from n connections)
  named_apart before n [] e = tt
  named_apart before n (c ∷ connections) e =
      let parts = unbroken before c connections e in
      let more = before ++ c.port.text ∷ [] in
      by_value c.value (index_in c.port.text ports)
      (λ k is. named_others more c.port.text k (n + 1) connections (among_last c.port.text before) is parts.1) (named_apart more (n + 1) connections parts.1)
    where
      by_value : (value : Option Expr) (o : Option ℕ) → ((k : ℕ) → o ≡ Some k → AllByRecursion (Differ k) (ports_from (n + 1) connections)) → AreApart (ports_from (n + 1) connections)
          → AreApart (ports_at (ModulePorts ports) (optional_link o c.location value ++ flat_map (named_link (ModulePorts ports)) (enumerate_from (n + 1) connections)))
      by_value None o others rest = rest
      by_value (Some v) None others rest = rest
      by_value (Some v) (Some j) others rest = (others j refl, rest)

  -- an instance of a module whose connections break no rule connects each port once
  pub ports_once : (paren : Location) (c : Connections) → module_connections ports paren c ≡ [] → AreApart (connected_ports (map (port_runs (ModulePorts ports)) (links (ModulePorts ports) c)))
  ports_once paren (ByOrder values) e = ordered_apart (ModulePorts ports) 0 values
  ports_once paren (ByName connections) e = named_apart [] 0 connections e
