-- The primitives that a top reaches: each has its number, and one input less than its header has names.
use Rattle.std.proofs.Common.{◌≡◌, ℕ, zero, suc, ◌+◌, ◌-◌, ◌<◌, ◌≤◌, Bool, true, false, List, [], ◌∷◌, ◌++◌, length, map, Option, Some, None, refl, sym, ap, subst, ◌∙◌, arith}
use Rattle.std.specs.Prelude.{IsSomeAnd, nat_le, slice_get, slice_index_or, if◌then◌else◌}
use Rattle.std.specs.Option.{option_map}
use Rattle.std.specs.List.{AllByRecursion, enumerate_from, flat_map, items_where_true, list_any}
use Rattle.std.proofs.lemmas.Bool.{and_from, and_parts, eq-eqb, leb-true, or_left, or_right}
use Rattle.std.proofs.lemmas.List.{length-map}
use Rattle.std.proofs.lemmas.List.FromFn.{get_or-map-range_with_len}
use Rattle.std.proofs.lemmas.Option.{get_or_from_slice_get, none-some, slice_get-map, slice_get_within}
use Rattle.udp_table.specs.Primitive.{Primitive}
use Rattle.udp_table.specs.declared.making.UdpFault.{UdpFault}
use Rattle.udp_table.specs.declared.making.UdpFault.TheVariants as fault
use Rattle.v_tree.specs.declared.gates.Instance.{Instance as TreeInstance}
use Rattle.v_tree.specs.declared.modules.Item.{Item}
use Rattle.v_tree.specs.declared.modules.Item.TheVariants as item
use Rattle.v_tree.specs.declared.modules.Module.{Module}
use Rattle.v_tree.specs.declared.modules.File.{File}
use Rattle.v_tree.specs.declared.primitives.UdpDecl.{UdpDecl}
use Rattle.name_table.specs.Names.{index_of}
use Rattle.module_graph.specs.declared.references.Master.{Master}
use Rattle.module_graph.specs.declared.references.Master.TheVariants as master
use Rattle.module_graph.specs.declared.references.Reference.{Reference}
use Rattle.module_graph.specs.Graph.{master_at, module_names, references_in, udp_names}
use Rattle.module_graph.specs.Reach.{is_udp, is_udp_reached, reaches_udp, refers_to_udp}
use Rattle.module_graph.proofs.NumberLaws.{index_of_at}
use Rattle.instance_rules.specs.Places.{instances_in}
use Rattle.primitive_rules.specs.Arguments.{arguments_of, primitive_of}
use Rattle.primitive_rules.specs.Ports.{header_names}
use Rattle.primitive_rules.specs.Places.{refused_tables}
use Rattle.primitive_rules.specs.Refusals.{is_count, places_of, rows_refusal, table_places}
use Rattle.netlist_rules.specs.Items.{port_counts}
use Rattle.flattening_laws.proofs.Apart.{each_weaker}
use Rattle.netlist_meaning.specs.Plans.{graph_in, master_in, meanings_in, modules_reached, number_among, primitives_in, primitives_reached}
use Rattle.file_laws.specs.PrimitiveFacts.{HasPrimitive, ReachesPrimitive}

-- ---- lists

append_none : {Y : Type 0} (ys zs : List Y) → ys ++ zs ≡ [] → (ys ≡ []) × (zs ≡ [])
append_none [] zs e = (refl, e)
append_none (y ∷ ys) zs e = absurd (let count : length (y ∷ (ys ++ zs)) ≡ 0 = ap length e in omega arith)

module _ {X : Type 0} where
  -- one that is marked stands among those that are at the number of those before it
  picked_at : (marks : List Bool) (xs : List X) (u : ℕ) (x : X) → slice_get xs u ≡ Some x → slice_index_or marks u false ≡ true
      → slice_get (items_where_true marks xs) (number_among marks u) ≡ Some x
  picked_at [] xs u x e is = absurd (let no : false ≡ true = is in cc)
  picked_at (b ∷ marks) [] u x e is = absurd (none-some x e)
  picked_at (true ∷ marks) (y ∷ xs) zero x e is = e
  picked_at (false ∷ marks) (y ∷ xs) zero x e is = absurd (let no : false ≡ true = is in cc)
  picked_at (true ∷ marks) (y ∷ xs) (suc u) x e is = picked_at marks xs u x e is
  picked_at (false ∷ marks) (y ∷ xs) (suc u) x e is = picked_at marks xs u x e is

  -- where all together give nothing, each gives nothing
  flat_map_none : {Y : Type 0} (f : X → List Y) (xs : List X) (k : ℕ) (x : X) → flat_map f xs ≡ [] → slice_get xs k ≡ Some x → f x ≡ []
  flat_map_none f [] k x none e = absurd (none-some x e)
  flat_map_none f (y ∷ xs) zero x none e =
      let same : y ≡ x = cc in ap f (sym same) ∙ (append_none (f y) (flat_map f xs) none).0
  flat_map_none f (y ∷ xs) (suc k) x none e = flat_map_none f xs k x (append_none (f y) (flat_map f xs) none).1 e

  -- one element settles the answer, by its index
  enumerated_any : (test : ℕ × X → Bool) (n : ℕ) (xs : List X) (k : ℕ) (x : X) → slice_get xs k ≡ Some x → test (n + k, x) ≡ true → list_any test (enumerate_from n xs) ≡ true
  enumerated_any test n [] k x e is = absurd (none-some x e)
  enumerated_any test n (y ∷ xs) zero x e is =
      let same : y ≡ x = cc in
      let count : n + 0 ≡ n = omega arith in
      or_left (test (n, y)) (list_any test (enumerate_from (n + 1) xs))
      (subst (λ z. test (n, z) ≡ true) (sym same) (subst (λ m. test (m, x) ≡ true) count is))
  enumerated_any test n (y ∷ xs) (suc k) x e is =
      let count : n + suc k ≡ n + 1 + k = omega arith in
      or_right (test (n, y)) (list_any test (enumerate_from (n + 1) xs))
      (enumerated_any test (n + 1) xs k x e (subst (λ m. test (m, x) ≡ true) count is))

  got_none : (xs : List X) (k : ℕ) → slice_get xs k ≡ None → k < length xs → ⊥
  got_none [] k e less = omega arith
  got_none (x ∷ xs) zero e less = none-some x (sym e)
  got_none (x ∷ xs) (suc k) e less = got_none xs k e (omega arith)

get_map : {X Y : Type 0} (f : X → Y) (xs : List X) (k : ℕ) (x : X) → slice_get xs k ≡ Some x → slice_get (map f xs) k ≡ Some (f x)
get_map f xs k x e = slice_get-map f xs k ∙ ap (option_map f) e

-- ---- the number of a primitive

module _ (file : File) (top : ℕ) where
  number_is : (u : ℕ) → u < length file.udps → (meanings_in file top).udp_numbers u ≡ number_among (primitives_reached file top) u
  number_is u less = get_or-map-range_with_len (number_among (primitives_reached file top)) 0 (length file.udps) u u 0 less (omega arith)

  pub primitive-at : (u : ℕ) (decl : UdpDecl) → slice_get file.udps u ≡ Some decl → slice_index_or (primitives_reached file top) u false ≡ true
      → slice_get (primitives_in file top) ((meanings_in file top).udp_numbers u) ≡ Some (primitive_of (arguments_of decl))
  primitive-at u decl e is =
      let marks = primitives_reached file top in
      ap (slice_get (primitives_in file top)) (number_is u (slice_get_within file.udps u decl e))
      ∙ get_map (λ (d : UdpDecl). primitive_of (arguments_of d)) (items_where_true marks file.udps) (number_among marks u) decl (picked_at marks file.udps u decl e is)

-- ---- its inputs

count_of : (count : Bool) (fault : Option UdpFault) (other : UdpFault) (decl : UdpDecl) → places_of decl (if count then fault else Some other) ≡ [] → count ≡ true
count_of true fault other decl e = refl
count_of false fault other decl e = absurd (let no = ap length e in omega arith)

-- a table that isn't refused has an input
inputs_some : (decl : UdpDecl) → table_places decl ≡ [] → 1 ≤ length (header_names decl.ports) - 1
inputs_some decl e =
    let a = arguments_of decl in
    let is = count_of (is_count a.inputs) (rows_refusal a.inputs a.sequential a.rows) fault.TooManyInputs decl e in
    leb-true 1 a.inputs (and_parts (nat_le 1 a.inputs) (nat_le a.inputs 10) is).0

module _ (file : File) (top : ℕ) where
  pub primitive-inputs : (u : ℕ) (decl : UdpDecl) → refused_tables (primitives_reached file top) file.udps ≡ [] → slice_get file.udps u ≡ Some decl
      → slice_index_or (primitives_reached file top) u false ≡ true → (primitive_of (arguments_of decl)).inputs + 1 ≡ slice_index_or (port_counts file.udps) u 0
  primitive-inputs u decl none e is =
      let marks = primitives_reached file top in
      let some = inputs_some decl (flat_map_none table_places (items_where_true marks file.udps) (number_among marks u) decl none (picked_at marks file.udps u decl e is)) in
      let count = λ (d : UdpDecl). length (header_names d.ports) in
      let at : slice_index_or (port_counts file.udps) u 0 ≡ count decl = get_or_from_slice_get (port_counts file.udps) u (count decl) 0 (get_map count file.udps u decl e) in
      omega arith

-- ---- which are reached

-- what a name means as a primitive stands among the primitives
udp_within : (m u : Option ℕ) (index : ℕ) (count : ℕ) → master_at m u ≡ master.Udp index → ((k : ℕ) → u ≡ Some k → k < count) → index < count
udp_within (Some k) u index count e below = absurd (let no : master.Module k ≡ master.Udp index = e in cc)
udp_within None (Some k) index count e below = let is : master.Udp k ≡ master.Udp index = e in let same : k ≡ index = cc in subst (λ n. n < count) same (below k refl)
udp_within None None index count e below = absurd (let no : master.Unknown ≡ master.Udp index = e in cc)

module _ (of : List ℕ → Master) where
  abbrev IsReferred : List Reference → TreeInstance → Type 0
  IsReferred references i = (u : ℕ) → of i.name.text ≡ master.Udp u → refers_to_udp u references ≡ true

  more_referred : (r : Reference) (references : List Reference) (is : List TreeInstance) → AllByRecursion (IsReferred references) is → AllByRecursion (IsReferred (r ∷ references)) is
  more_referred r references is h =
      each_weaker (IsReferred references) (IsReferred (r ∷ references)) is (λ i f u e. or_right (is_udp u r.master) (refers_to_udp u references) (f u e)) h

  -- a module refers to what its instances are of
  all_referred : (items : List Item) → AllByRecursion (IsReferred (references_in of items)) (instances_in items)
  all_referred [] = tt
  all_referred (item.Instances i ∷ items) = (
    λ u e. or_left (is_udp u (of i.name.text)) (refers_to_udp u (references_in of items))
        (subst (λ m. is_udp u m ≡ true) (sym e) (eq-eqb u u refl)),
    more_referred (record { location = i.name.location; master = of i.name.text }) (references_in of items) (instances_in items) (all_referred items),
  )
  all_referred (item.Ports d ∷ items) = all_referred items
  all_referred (item.Nets d ∷ items) = all_referred items
  all_referred (item.Trireg d ∷ items) = all_referred items
  all_referred (item.Assign a ∷ items) = all_referred items
  all_referred (item.Gates g ∷ items) = all_referred items
  all_referred (item.Cell c ∷ items) = all_referred items
  all_referred (item.Specify s ∷ items) = all_referred items

module _ (file : File) (top : ℕ) where
  reaches : (a : ℕ) (m : Module) → slice_get file.modules a ≡ Some m → slice_index_or (modules_reached file top) a false ≡ true
      → (i : TreeInstance) → IsReferred (master_in file) (references_in (master_in file) m.items) i → ReachesPrimitive file top i
  reaches a m e is i referred u means =
      let references = (graph_in file).references in
      let reached = modules_reached file top in
      let mine = references_in (master_in file) m.items in
      let less : u < length file.udps
      = udp_within (index_of i.name.text (module_names file.modules)) (index_of i.name.text (udp_names file.udps)) u (length file.udps) means (λ k at.
      let below = (index_of_at i.name.text (udp_names file.udps) k at).0 in
      let count = length-map file.udps (λ (d : UdpDecl). d.name.text) in
      omega arith) in
      let first : 0 + a ≡ a = omega arith in
      let hit : reaches_udp u reached (a, mine) ≡ true = and_from (slice_index_or reached a false) (refers_to_udp u mine) is (referred u means) in
      let any = enumerated_any (reaches_udp u reached) 0 references a mine (get_map (λ (x : Module). references_in (master_in file) x.items) file.modules a m e)
      (subst (λ n. reaches_udp u reached (n, mine) ≡ true) (sym first) hit) in
      (get_or-map-range_with_len (is_udp_reached references reached) 0 (length file.udps) u u false less (omega arith) ∙ any, less)

  pub primitive-reached : (a : ℕ) (m : Module) → slice_get file.modules a ≡ Some m → slice_index_or (modules_reached file top) a false ≡ true
      → AllByRecursion (ReachesPrimitive file top) (instances_in m.items)
  primitive-reached a m e is =
      each_weaker (IsReferred (master_in file) (references_in (master_in file) m.items)) (ReachesPrimitive file top) (instances_in m.items)
      (reaches a m e is) (all_referred (master_in file) m.items)

  -- both together
  has : refused_tables (primitives_reached file top) file.udps ≡ [] → (i : TreeInstance) → ReachesPrimitive file top i → HasPrimitive file top i
  has none i h u means = by_get (slice_get file.udps u) refl
    where
      by_get : (got : Option UdpDecl) → slice_get file.udps u ≡ got
          → IsSomeAnd (slice_get (primitives_in file top) ((meanings_in file top).udp_numbers u)) (λ p. p.inputs + 1 ≡ slice_index_or (port_counts file.udps) u 0)
      by_get None e = absurd (got_none file.udps u e (h u means).1)
      by_get (Some decl) e =
          subst (λ got. IsSomeAnd got (λ (p : Primitive). p.inputs + 1 ≡ slice_index_or (port_counts file.udps) u 0)) (sym (primitive-at file top u decl e (h u means).0))
          (primitive-inputs file top u decl none e (h u means).0)

  pub have-primitives : (a : ℕ) (m : Module) → refused_tables (primitives_reached file top) file.udps ≡ [] → slice_get file.modules a ≡ Some m
      → slice_index_or (modules_reached file top) a false ≡ true → AllByRecursion (HasPrimitive file top) (instances_in m.items)
  have-primitives a m none e is = each_weaker (ReachesPrimitive file top) (HasPrimitive file top) (instances_in m.items) (has none) (primitive-reached a m e is)
