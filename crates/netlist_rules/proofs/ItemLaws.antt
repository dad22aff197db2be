-- The first places of the rules on items, over the modules that are reached.
use Rattle.std.proofs.Common.{◌≡◌, ℕ, zero, suc, ◌+◌, ◌<◌, ◌≤◌, Bool, true, false, List, [], ◌∷◌, ◌++◌, length, map, get_or, drop, Option, Some, None, refl, sym, ap, ◌∙◌, arith, add-one, drop-cons}
use Rattle.std.specs.List.{flat_map, items_where_true}
use Rattle.std.proofs.lemmas.List.{drop_all, get_or-map}
use Rattle.v_tree.specs.declared.locations.Location.{Location}
use Rattle.v_tree.specs.declared.modules.Module.{Module}
use Rattle.v_tree.specs.declared.modules.File.{File}
use Rattle.rule_places.specs.Places.{earliest, first_place}
use Rattle.rule_places.proofs.PlaceLaws.{earliest_none, earliest_assoc, first_place-append}
use Rattle.module_scope.specs.declared.scopes.Scope.{Scope}
use Rattle.module_graph.specs.Graph.{graph_of, master_of, module_names, references_in, udp_names}
use Rattle.module_graph.specs.declared.references.Master.{Master}
use Rattle.module_graph.specs.declared.references.Reference.{Reference}
use Rattle.module_ports.specs.Ports.{Port}
use Rattle.gate_rules.specs.Places.{gate_places, gate_widths, gate_counts, gate_delays, gate_drives, gate_literals}
use Rattle.instance_rules.specs.Items.{InstanceRule}
use Rattle.instance_rules.specs.Items.InstanceRule.{Widths, Counts, Delays, Drives, Connections, Literals}
use Rattle.instance_rules.specs.Places.{Masters, breaking_places, instance_places}
use Rattle.netlist_scopes.specs.Reached.{scope_under}
use Rattle.instance_rules.specs.declared.places.ItemPlaces.{ItemPlaces}
use Rattle.netlist_rules.specs.Items.{item_places, masters_of, module_places, port_counts, port_tables}
use Rattle.instance_rules.specs.Walks.{earliest_places, no_places}
use Rattle.netlist_rules.specs.Walks.{first_in, first_under, joined_places, with_module, with_modules}

-- the places of gates and those of instances are those of a module
pub joined_first : (scope : Scope) (masters : Masters) (m : Module) → joined_places (gate_places scope m) (instance_places scope masters m) ≡ first_under scope masters m
joined_first scope masters m =
    rw (
      first_place-append (gate_widths scope m) (breaking_places Widths scope masters m),
      first_place-append (gate_counts m) (breaking_places Counts scope masters m),
      first_place-append (gate_delays m) (breaking_places Delays scope masters m),
      first_place-append (gate_drives m) (breaking_places Drives scope masters m),
      first_place-append (gate_literals m) (breaking_places Literals scope masters m),
    ) refl

-- the places of the module at an index, by what the lists have there
pub first_at : (file : File) (scopes : List Scope) (references : List (List Reference)) (tables : List (List Port)) (counts : List ℕ) (i : ℕ)
    (m : Module) (scope : Scope) (list : List Reference) (more : ItemPlaces) →
    i < length file.modules → m ≡ get_or file.modules i m → scope ≡ get_or scopes i scope → list ≡ get_or references i list →
    scopes ≡ map (scope_under file.directives) file.modules → references ≡ (graph_of file.modules file.udps).references →
    tables ≡ port_tables file.directives file.modules → counts ≡ port_counts file.udps →
    ((of : List ℕ → Master) → list ≡ references_in of m.items → more ≡ first_under scope (record { of = of; tables = tables; counts = counts }) m) →
    more ≡ first_in file m
first_at file scopes references tables counts i m scope list more lt m_at scope_at list_at are_scopes are_references are_tables are_counts is =
    let of : List ℕ → Master = master_of (module_names file.modules) (udp_names file.udps) in
    let of_scope : scope ≡ scope_under file.directives m =
    scope_at ∙ ap (λ (ss : List Scope). get_or ss i scope) are_scopes
    ∙ get_or-map (scope_under file.directives) file.modules i m scope lt ∙ ap (scope_under file.directives) (sym m_at) in
    let of_list : list ≡ references_in of m.items =
    list_at ∙ ap (λ (rs : List (List Reference)). get_or rs i list) are_references
    ∙ get_or-map (λ (x : Module). references_in of x.items) file.modules i m list lt ∙ ap (λ (x : Module). references_in of x.items) (sym m_at) in
    is of of_list
    ∙ ap (λ (s : Scope). first_under s (record { of = of; tables = tables; counts = counts }) m) of_scope
    ∙ ap (λ (ts : List (List Port)). first_under (scope_under file.directives m) (record { of = of; tables = ts; counts = counts }) m) are_tables
    ∙ ap (λ (ns : List ℕ). first_under (scope_under file.directives m) (record { of = of; tables = port_tables file.directives file.modules; counts = ns }) m) are_counts

module _ (file : File) where
  -- one more module that is reached
  pub with_modules-reached_one : (places : ItemPlaces) (reached : List Bool) (modules : List Module) (i : ℕ) (m : Module) →
      i < length reached → i < length modules → get_or reached i false ≡ true → get_or modules i m ≡ m →
      with_modules file places (drop i reached) (drop i modules) ≡ with_modules file (earliest_places places (first_in file m)) (drop (i + 1) reached) (drop (i + 1) modules)
  with_modules-reached_one places reached modules i m lt lt_modules on m_at =
      ap (λ (ms : List Module). with_modules file places (drop i reached) ms) (drop-cons modules i m lt_modules ∙ ap (λ (x : Module). x ∷ drop (suc i) modules) m_at)
      ∙ ap (λ (bs : List Bool). with_modules file places bs (m ∷ drop (suc i) modules)) (drop-cons reached i false lt ∙ ap (λ (x : Bool). x ∷ drop (suc i) reached) on)
      ∙ ap (λ (n : ℕ). with_modules file (earliest_places places (first_in file m)) (drop n reached) (drop n modules)) (sym (add-one i))

  skip : (places : ItemPlaces) (reached : List Bool) (modules : List Module) (i : ℕ) → i < length reached → i < length modules → get_or reached i false ≡ false →
      with_modules file places (drop i reached) (drop i modules) ≡ with_modules file places (drop (suc i) reached) (drop (suc i) modules)
  skip places [] modules i lt lt_modules off = absurd (omega arith)
  skip places (b ∷ bs) [] i lt lt_modules off = absurd (omega arith)
  skip places (b ∷ bs) (m ∷ ms) zero lt lt_modules off = ap (λ (x : Bool). with_modules file (with_module file places x m) bs ms) off
  skip places (b ∷ bs) (m ∷ ms) (suc i) lt lt_modules off = skip places bs ms i (omega arith) (omega arith) off

  -- one more that isn't
  pub with_modules-passed_one : (places : ItemPlaces) (reached : List Bool) (modules : List Module) (i : ℕ) → i < length reached → i < length modules → get_or reached i false ≡ false →
      with_modules file places (drop i reached) (drop i modules) ≡ with_modules file places (drop (i + 1) reached) (drop (i + 1) modules)
  with_modules-passed_one places reached modules i lt lt_modules off =
      skip places reached modules i lt lt_modules off ∙ ap (λ (n : ℕ). with_modules file places (drop n reached) (drop n modules)) (sym (add-one i))

  -- the end of the walk
  pub with_modules-end : (places : ItemPlaces) (reached : List Bool) (modules : List Module) (i : ℕ) → length modules ≤ i →
      with_modules file places (drop i reached) (drop i modules) ≡ places
  with_modules-end places reached modules i le =
      ap (λ (ms : List Module). with_modules file places (drop i reached) ms) (drop_all i modules le) ∙ by (drop i reached)
    where
      by : (bs : List Bool) → with_modules file places bs [] ≡ places
      by [] = refl
      by (b ∷ bs) = refl

  -- the first places of one rule, module by module, are the first of its places in all that are reached
  module _ (field : ItemPlaces → Option Location) (rule : InstanceRule)
      (apart : (a b : ItemPlaces) → field (earliest_places a b) ≡ earliest (field a) (field b))
      (fits : (m : Module) → field (first_in file m) ≡ first_place (module_places rule file m)) where
    among_reached : (so_far : ItemPlaces) (reached : List Bool) (modules : List Module) →
        field (with_modules file so_far reached modules) ≡ earliest (field so_far) (first_place (flat_map (module_places rule file) (items_where_true reached modules)))
    among_reached so_far [] modules = sym (earliest_none (field so_far))
    among_reached so_far (b ∷ reached) [] = sym (earliest_none (field so_far))
    among_reached so_far (true ∷ reached) (m ∷ modules) =
        let rest : Option Location = first_place (flat_map (module_places rule file) (items_where_true reached modules)) in
        among_reached (earliest_places so_far (first_in file m)) reached modules
        ∙ ap (λ (first : Option Location). earliest first rest) (apart so_far (first_in file m) ∙ ap (λ (here : Option Location). earliest (field so_far) here) (fits m))
        ∙ earliest_assoc (field so_far) (first_place (module_places rule file m)) rest
        ∙ ap (λ (here : Option Location). earliest (field so_far) here) (sym (first_place-append (module_places rule file m) (flat_map (module_places rule file) (items_where_true reached modules))))
    among_reached so_far (false ∷ reached) (m ∷ modules) = among_reached so_far reached modules

  -- the first places, module by module, are those of the rules over all modules that are reached
  pub with_modules-reached : (reached : List Bool) → with_modules file no_places reached file.modules ≡ item_places file reached
  with_modules-reached reached =
      let widths = among_reached (λ (p : ItemPlaces). p.widths) Widths (λ a b. refl) (λ m. refl) no_places reached file.modules in
      let counts = among_reached (λ (p : ItemPlaces). p.counts) Counts (λ a b. refl) (λ m. refl) no_places reached file.modules in
      let delays = among_reached (λ (p : ItemPlaces). p.delays) Delays (λ a b. refl) (λ m. refl) no_places reached file.modules in
      let drives = among_reached (λ (p : ItemPlaces). p.drives) Drives (λ a b. refl) (λ m. refl) no_places reached file.modules in
      let connections = among_reached (λ (p : ItemPlaces). p.connections) Connections (λ a b. refl) (λ m. refl) no_places reached file.modules in
      let literals = among_reached (λ (p : ItemPlaces). p.literals) Literals (λ a b. refl) (λ m. refl) no_places reached file.modules in
      same (with_modules file no_places reached file.modules) (item_places file reached) widths counts delays drives connections literals
    where
      made : (w c d r n l : Option Location) → ItemPlaces
      made w c d r n l = record { widths = w; counts = c; delays = d; drives = r; connections = n; literals = l }

      same : (a b : ItemPlaces) → a.widths ≡ b.widths → a.counts ≡ b.counts → a.delays ≡ b.delays → a.drives ≡ b.drives → a.connections ≡ b.connections → a.literals ≡ b.literals → a ≡ b
      same a b w c d r n l =
          let joined : made a.widths a.counts a.delays a.drives a.connections a.literals ≡ made b.widths b.counts b.delays b.drives b.connections b.literals = cc in
          joined
