-- The names of a module's gates and instances differ.
use Rattle.std.proofs.Common.{◌≡◌, ℕ, ◌+◌, Bool, true, false, not, ◌||◌, List, [], ◌∷◌, ◌++◌, map, Option, Some, None, refl, sym, ap, subst, ◌∙◌, inl, inr}
use Rattle.std.specs.Prelude.{◌⊎◌}
use Rattle.std.specs.List.{AllByRecursion, enumerate_from, find, flat_map}
use Rattle.std.specs.Option.{is_some}
use Rattle.std.proofs.lemmas.Grind.{flat_map-append}
use Rattle.v_tree.specs.declared.locations.Name.{Name}
use Rattle.v_tree.specs.declared.directives.ImplicitNetType.{ImplicitNetType}
use Rattle.v_tree.specs.declared.expressions.Expr.{Expr, fold-roll-Expr, ind-Expr, map-Expr}
use Rattle.v_tree.specs.declared.expressions.Expr.TheOpen.{Expr-F}
use Rattle.v_tree.specs.declared.declarations.Pair.{Pair as TreePair}
use Rattle.v_tree.specs.declared.declarations.ValuedName.{ValuedName}
use Rattle.v_tree.specs.declared.declarations.DeclaredNames.{DeclaredNames}
use Rattle.v_tree.specs.declared.declarations.DeclaredNames.TheVariants as declares
use Rattle.v_tree.specs.declared.gates.Terms.{Terms}
use Rattle.v_tree.specs.declared.gates.Connection.{Connection}
use Rattle.v_tree.specs.declared.gates.Connections.{Connections}
use Rattle.v_tree.specs.declared.gates.Connections.TheVariants.{ByOrder, ByName}
use Rattle.v_tree.specs.declared.gates.Inst.{Inst}
use Rattle.v_tree.specs.declared.modules.Item.{Item}
use Rattle.v_tree.specs.declared.modules.Item.TheVariants as item
use Rattle.v_tree.specs.declared.modules.Module.{Module}
use Rattle.module_scope.specs.declared.roles.Side.{Side}
use Rattle.module_scope.specs.declared.roles.Side.TheVariants as side
use Rattle.module_scope.specs.declared.roles.Count.{Count}
use Rattle.module_scope.specs.declared.roles.Count.TheVariants.{Zero, One, Several}
use Rattle.module_scope.specs.declared.roles.Role.{Role}
use Rattle.module_scope.specs.declared.roles.Role.TheVariants as role
use Rattle.module_scope.specs.declared.rules.NameRule.TheVariants as rule
use Rattle.module_scope.specs.declared.scopes.Scope.{Scope}
use Rattle.module_scope.specs.Mentions.{Mention, connection_mentions, connections_mentions, expr_layer, expr_mentions, exprs_mentions, header_mentions, inst_mentions, item_mentions, items_mentions, name_mentions, optional_mentions, terms_mentions}
use Rattle.module_scope.specs.Roles.{how_many, is_declaration, is_instance, is_one, is_zero}
use Rattle.module_scope.specs.Rules.{breaks, completes, has_implicit, repeats}
use Rattle.module_graph.specs.declared.references.Master.{Master}
use Rattle.module_graph.specs.declared.references.Master.TheVariants as master
use Rattle.module_ports.specs.Ports.{Port}
use Rattle.instance_rules.specs.Links.{ports_of}
use Rattle.module_parts.specs.declared.parts.ModulePart.{ModulePart}
use Rattle.module_parts.specs.Parts.{declared_parts, gate_part, module_instance, module_parts, name_text, pair_part, parts_of_item, primitive_instance, valued_parts}
use Rattle.netlist_plan.specs.Plan.{Given}
use Rattle.flattening_laws.proofs.Apart.{AreApart, Differ, each_append}
use Rattle.plan_laws.proofs.StepNameLaws.{TextsApart, part_text}
use Rattle.name_laws.specs.Unbroken.{AreUnbroken}
use Rattle.name_laws.proofs.MentionLaws.{more-some, names-append, names-none, names_where, unbroken-apart}
use Rattle.name_laws.proofs.Fronts.{apart_back, each_back, each_front}

-- ---- an instance stands behind no declaration of its name

-- where one of the roles is an instance, one is a declaration
declared_instance : (roles : List Role) → is_one (how_many is_instance roles) ≡ true → is_zero (how_many is_declaration roles) ≡ false
declared_instance [] one = absurd cc
declared_instance (role.Header ∷ roles) one = declared_instance roles one
declared_instance (role.Port port ∷ roles) one = more-some (how_many is_declaration roles)
declared_instance (role.Net net ∷ roles) one = more-some (how_many is_declaration roles)
declared_instance (role.Instance ∷ roles) one = more-some (how_many is_declaration roles)
declared_instance (role.Use at select ∷ roles) one = declared_instance roles one

-- no declaration is completed by an instance
completes_none : (first : Option Role) → completes first role.Instance ≡ false
completes_none None = refl
completes_none (Some role.Header) = refl
completes_none (Some (role.Port port)) = refl
completes_none (Some (role.Net net)) = refl
completes_none (Some role.Instance) = refl
completes_none (Some (role.Use at select)) = refl

second_instance : (makes : Bool) (before rest : List Role) (r : Role) → is_instance r ≡ true → is_one (how_many is_instance before) ≡ true → breaks rule.Repeated makes (before ++ r ∷ rest) before r ≡ true
second_instance makes before rest role.Instance is one =
    by (has_implicit makes (before ++ role.Instance ∷ rest) before) (how_many is_declaration before) (declared_instance before one)
  where
    by : (b : Bool) (c : Count) → is_zero c ≡ false → (b || repeats c (find is_declaration before) role.Instance) ≡ true
    by true c some = refl
    by false Zero some = absurd cc
    by false One some = ap not (completes_none (find is_declaration before))
    by false Several some = refl
second_instance makes before rest role.Header is one = absurd cc
second_instance makes before rest (role.Port port) is one = absurd cc
second_instance makes before rest (role.Net net) is one = absurd cc
second_instance makes before rest (role.Use at select) is one = absurd cc

-- ---- uses are no instances

abbrev IsOther : Mention → Type 0
IsOther m = is_instance m.role ≡ false

module _ (at : Side) where
  abbrev AreOthers : Expr → Type 0
  AreOthers e = AllByRecursion IsOther (expr_mentions at e)

  others_concat : (parts : List ((e : Expr) × AreOthers e)) → AllByRecursion IsOther (flat_map (λ part. part) (map (expr_mentions at) (map (λ e. e.0) parts)))
  others_concat [] = tt
  others_concat (e ∷ parts) = each_append IsOther (expr_mentions at e.0) (flat_map (λ part. part) (map (expr_mentions at) (map (λ e. e.0) parts))) e.1 (others_concat parts)

  others_layer : (y : Expr-F ((e : Expr) × AreOthers e)) → AllByRecursion IsOther (expr_layer at (map-Expr Expr (List Mention) (expr_mentions at) (map-Expr ((e : Expr) × AreOthers e) Expr (λ e. e.0) y)))
  others_layer (Expr-F.Pick pick) = (refl, tt)
  others_layer (Expr-F.Number location n) = tt
  others_layer (Expr-F.Based location literal) = tt
  others_layer (Expr-F.Concat location parts) = others_concat parts

  expr_others : (e : Expr) → AreOthers e
  expr_others = ind-Expr AreOthers (λ x y is.
      subst (AllByRecursion IsOther) (sym (fold-roll-Expr (List Mention) (expr_layer at) x))
      (subst (λ (z : Expr-F Expr). AllByRecursion IsOther (expr_layer at (map-Expr Expr (List Mention) (expr_mentions at) z))) is (others_layer y)))

  exprs_others : (exprs : List Expr) → AllByRecursion IsOther (exprs_mentions at exprs)
  exprs_others [] = tt
  exprs_others (e ∷ exprs) = each_append IsOther (expr_mentions at e) (exprs_mentions at exprs) (expr_others e) (exprs_others exprs)

  optional_others : (e : Option Expr) → AllByRecursion IsOther (optional_mentions at e)
  optional_others None = tt
  optional_others (Some e) = expr_others e

ordered_others : (values : List (Option Expr)) → AllByRecursion IsOther (flat_map (optional_mentions side.Connection) values)
ordered_others [] = tt
ordered_others (value ∷ values) =
    each_append IsOther (optional_mentions side.Connection value) (flat_map (optional_mentions side.Connection) values) (optional_others side.Connection value) (ordered_others values)

named_others : (connections : List Connection) → AllByRecursion IsOther (flat_map connection_mentions connections)
named_others [] = tt
named_others (c ∷ connections) =
    each_append IsOther (connection_mentions c) (flat_map connection_mentions connections) (optional_others side.Connection c.value) (named_others connections)

connections_others : (connections : Connections) → AllByRecursion IsOther (connections_mentions connections)
connections_others (ByOrder values) = ordered_others values
connections_others (ByName connections) = named_others connections

-- ---- the names of parts

abbrev text_list : Option (List ℕ) → List (List ℕ)
text_list None = []
text_list (Some text) = text ∷ []

-- the names of gates and instances
abbrev pub texts_of : List ModulePart → List (List ℕ)
texts_of parts = flat_map (λ part. text_list (part_text part)) parts

-- names that mentions write are those of the parts
name_list : (name : Option Name) (uses : List Mention) → AllByRecursion IsOther uses → names_where is_instance (name_mentions role.Instance name ++ uses) ≡ text_list (name_text name)
name_list None uses others = names-none is_instance uses others
name_list (Some name) uses others = ap (λ (ns : List (List ℕ)). name.text ∷ ns) (names-none is_instance uses others)

-- a list of mentions for each, and a part for each, with the same name
module _ {X : Type 0} (mentions : X → List Mention) (part : X → ModulePart) (same : (x : X) → names_where is_instance (mentions x) ≡ text_list (part_text (part x))) where
  same_texts : (xs : List X) → names_where is_instance (flat_map mentions xs) ≡ texts_of (map part xs)
  same_texts [] = refl
  same_texts (x ∷ xs) =
      names-append is_instance (mentions x) (flat_map mentions xs)
      ∙ ap (λ (ns : List (List ℕ)). ns ++ names_where is_instance (flat_map mentions xs)) (same x)
      ∙ ap (λ (ns : List (List ℕ)). text_list (part_text (part x)) ++ ns) (same_texts xs)

no_texts : (scope : Scope) (index : ℕ) (pairs : List TreePair) → texts_of (map (pair_part scope index) pairs) ≡ []
no_texts scope index [] = refl
no_texts scope index (p ∷ pairs) = no_texts scope index pairs

no_valued_texts : (scope : Scope) (index : ℕ) (names : List ValuedName) → texts_of (flat_map (valued_parts scope index) names) ≡ []
no_valued_texts scope index [] = refl
no_valued_texts scope index (v ∷ names) = no_valued_texts scope index names

no_declared_texts : (scope : Scope) (index : ℕ) (names : DeclaredNames) → texts_of (declared_parts scope index names) ≡ []
no_declared_texts scope index (declares.Names names) = refl
no_declared_texts scope index (declares.Valued names) = no_valued_texts scope index names

module _ (scope : Scope) (tables : List (List Port)) (of : List ℕ → Master) where
  abbrev item_texts : ℕ → Item → List (List ℕ)
  item_texts index i = texts_of (parts_of_item scope tables of (index, i))

  -- an item's parts have the names that it mentions as those of instances, or none
  item_same : (index : ℕ) (i : Item) → (names_where is_instance (item_mentions index i) ≡ item_texts index i) ⊎ (item_texts index i ≡ [])
  item_same index (item.Ports d) = inr refl
  item_same index (item.Nets d) = inr (no_declared_texts scope index d.declared_names)
  item_same index (item.Trireg d) = inr refl
  item_same index (item.Assign a) = inr (no_texts scope index a.pairs)
  item_same index (item.Gates g) =
      inl (same_texts terms_mentions (gate_part index) (λ (t : Terms). name_list t.name (exprs_mentions side.Terminal t.terminals) (exprs_others side.Terminal t.terminals)) g.gates)
  item_same index (item.Instances i) = by (of i.name.text) refl
    where
      named : (x : Inst) → names_where is_instance (inst_mentions x) ≡ text_list (name_text x.name)
      named x = name_list x.name (connections_mentions x.connections) (connections_others x.connections)

      by : (m : Master) → of i.name.text ≡ m → (names_where is_instance (flat_map inst_mentions i.instances) ≡ item_texts index (item.Instances i)) ⊎ (item_texts index (item.Instances i) ≡ [])
      by (master.Module k) is = rw is (inl (same_texts inst_mentions (module_instance index k (ports_of tables [] (master.Module k))) named i.instances))
      by (master.Udp u) is = rw is (inl (same_texts inst_mentions (primitive_instance index (ports_of tables [] (master.Udp u))) named i.instances))
      by master.Unknown is = rw is (inr refl)
  item_same index (item.Cell c) = inr refl
  item_same index (item.Specify s) = inr refl

  abbrev items_texts : ℕ → List Item → List (List ℕ)
  items_texts index items = texts_of (flat_map (parts_of_item scope tables of) (enumerate_from index items))

  abbrev items_names : ℕ → List Item → List (List ℕ)
  items_names index items = names_where is_instance (items_mentions index items)

  items_split : (index : ℕ) (i : Item) (items : List Item) → items_texts index (i ∷ items) ≡ item_texts index i ++ items_texts (index + 1) items
  items_split index i items =
      flat_map-append (λ (part : ModulePart). text_list (part_text part)) (parts_of_item scope tables of (index, i)) (flat_map (parts_of_item scope tables of) (enumerate_from (index + 1) items))

  each_text : (P : List ℕ → Type 0) (index : ℕ) (items : List Item) → AllByRecursion P (items_names index items) → AllByRecursion P (items_texts index items)
  each_text P index [] h = tt
  each_text P index (i ∷ items) h =
      subst (AllByRecursion P) (sym (items_split index i items))
      (each_append P (item_texts index i) (items_texts (index + 1) items) (by (item_same index i)) (each_text P (index + 1) items (each_back P own rest both)))
    where
      own : List (List ℕ)
      own = names_where is_instance (item_mentions index i)

      rest : List (List ℕ)
      rest = items_names (index + 1) items

      both : AllByRecursion P (own ++ rest)
      both = subst (AllByRecursion P) (names-append is_instance (item_mentions index i) (items_mentions (index + 1) items)) h

      by : (own ≡ item_texts index i) ⊎ (item_texts index i ≡ []) → AllByRecursion P (item_texts index i)
      by (inl same) = subst (AllByRecursion P) same (each_front P own rest both)
      by (inr none) = subst (AllByRecursion P) (sym none) tt

  items_apart : (index : ℕ) (items : List Item) → AreApart (items_names index items) → AreApart (items_texts index items)
  items_apart index [] h = tt
  items_apart index (i ∷ items) h =
      subst AreApart (sym (items_split index i items)) (by (item_same index i) (items_apart (index + 1) items (apart_back own rest both)))
    where
      own : List (List ℕ)
      own = names_where is_instance (item_mentions index i)

      rest : List (List ℕ)
      rest = items_names (index + 1) items

      both : AreApart (own ++ rest)
      both = subst AreApart (names-append is_instance (item_mentions index i) (items_mentions (index + 1) items)) h

      fewer : (names : List (List ℕ)) → AreApart (names ++ rest) → AreApart (items_texts (index + 1) items) → AreApart (names ++ items_texts (index + 1) items)
      fewer [] apart later = later
      fewer (name ∷ names) apart later = (
        each_append (Differ name) names (items_texts (index + 1) items) (each_front (Differ name) names rest apart.0) (each_text (Differ name) (index + 1) items (each_back (Differ name) names rest apart.0)),
        fewer names apart.1 later,
      )

      by : (own ≡ item_texts index i) ⊎ (item_texts index i ≡ []) → AreApart (items_texts (index + 1) items) → AreApart (item_texts index i ++ items_texts (index + 1) items)
      by (inl same) later = subst (λ (names : List (List ℕ)). AreApart (names ++ items_texts (index + 1) items)) same (fewer own both later)
      by (inr none) later = subst (λ (names : List (List ℕ)). AreApart (names ++ items_texts (index + 1) items)) (sym none) later

-- ---- texts that differ

differ_parts : (name : List ℕ) (parts : List ModulePart) → AllByRecursion (Differ name) (texts_of parts)
    → AllByRecursion (λ other. (n : List ℕ) → Some name ≡ Some n → part_text other ≡ Some n → ⊥) parts
differ_parts name [] h = tt
differ_parts name (part ∷ parts) h =
    let both = by (part_text part) h in
    (both.0, differ_parts name parts both.1)
  where
    by : (text : Option (List ℕ)) → AllByRecursion (Differ name) (text_list text ++ texts_of parts) → ((n : List ℕ) → Some name ≡ Some n → text ≡ Some n → ⊥) × AllByRecursion (Differ name) (texts_of parts)
    by None differ = ((λ n e f. let no : None ≡ Some n = f in cc), differ)
    by (Some other) differ = ((λ n e f. let same : name ≡ other = cc in differ.0 same), differ.1)

differ_none : (parts : List ModulePart) → AllByRecursion (λ other. (n : List ℕ) → None ≡ Some n → part_text other ≡ Some n → ⊥) parts
differ_none [] = tt
differ_none (part ∷ parts) = ((λ n e f. let no : None ≡ Some n = e in cc), differ_none parts)

texts_parts : (given : Given) (parts : List ModulePart) → AreApart (texts_of parts) → TextsApart given parts
texts_parts given [] h = tt
texts_parts given (part ∷ parts) h =
    let both = by (part_text part) h in
    (both.0, texts_parts given parts both.1)
  where
    by : (text : Option (List ℕ)) → AreApart (text_list text ++ texts_of parts) → AllByRecursion (λ other. (n : List ℕ) → text ≡ Some n → part_text other ≡ Some n → ⊥) parts × AreApart (texts_of parts)
    by None apart = (differ_none parts, apart)
    by (Some name) apart = (differ_parts name parts apart.0, apart.1)

-- the law: no two gates and instances of a module have one name where no rule is broken, under any scope
pub texts-apart : (given : Given) (default : Option ImplicitNetType) (scope : Scope) (tables : List (List Port)) (of : List ℕ → Master) (m : Module) → AreUnbroken default m
    → TextsApart given (module_parts scope tables of m)
texts-apart given default scope tables of m unbroken =
    let header = header_mentions m.ports in
    let items = items_mentions 0 m.items in
    let apart = unbroken-apart rule.Repeated (is_some default) is_instance (second_instance (is_some default)) (header ++ items) (unbroken rule.Repeated) in
    let split = subst AreApart (names-append is_instance header items) apart in
    texts_parts given (module_parts scope tables of m) (items_apart scope tables of 0 m.items (apart_back (names_where is_instance header) (items_names scope tables of 0 m.items) split))
