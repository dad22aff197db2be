-- The range of each net of a fit module has bounds below 2^32.
use Rattle.std.proofs.Common.{ℕ, ◌+◌, Bool, true, false, ◌&&◌, cond, List, [], ◌∷◌, ◌++◌, map, Option, Some, None, sym, subst, arith}
use Rattle.std.specs.Prelude.{if◌then◌else◌}
use Rattle.std.specs.Option.{is_some}
use Rattle.std.specs.List.{AllByRecursion, filter, find, flat_map, list_any}
use Rattle.name_table.specs.Names.{same_name}
use Rattle.v_tree.specs.declared.locations.Name.{Name}
use Rattle.v_tree.specs.declared.expressions.RangeBounds.{RangeBounds}
use Rattle.v_tree.specs.declared.expressions.Expr.{Expr}
use Rattle.v_tree.specs.declared.expressions.Expr.TheOpen.{Expr-F}
use Rattle.v_tree.specs.declared.expressions.Target.{Target}
use Rattle.v_tree.specs.declared.expressions.Target.TheOpen.{Target-F}
use Rattle.v_tree.specs.declared.directives.ImplicitNetType.{ImplicitNetType}
use Rattle.v_tree.specs.declared.declarations.VectorRange.{VectorRange}
use Rattle.v_tree.specs.declared.declarations.ValuedName.{ValuedName}
use Rattle.v_tree.specs.declared.declarations.DeclaredNames.{DeclaredNames}
use Rattle.v_tree.specs.declared.declarations.DeclaredNames.TheVariants as declares
use Rattle.v_tree.specs.declared.declarations.Pair.{Pair}
use Rattle.v_tree.specs.declared.gates.Terms.{Terms}
use Rattle.v_tree.specs.declared.gates.Connections.{Connections}
use Rattle.v_tree.specs.declared.gates.Connections.TheVariants.{ByOrder, ByName}
use Rattle.v_tree.specs.declared.gates.Inst.{Inst}
use Rattle.v_tree.specs.declared.modules.AnsiEntry.{AnsiEntry}
use Rattle.v_tree.specs.declared.modules.AnsiEntry.TheVariants as entry
use Rattle.v_tree.specs.declared.modules.Ports.{Ports}
use Rattle.v_tree.specs.declared.modules.Ports.TheVariants as ports
use Rattle.v_tree.specs.declared.modules.Item.{Item}
use Rattle.v_tree.specs.declared.modules.Item.TheVariants as item
use Rattle.v_tree.specs.declared.modules.Module.{Module}
use Rattle.v_tree.specs.Fit.{IsFitAnsiEntry, IsFitConnection, IsFitConnections, IsFitDeclaredNames, IsFitExpr, IsFitIfThere, IsFitInst, IsFitItem, IsFitModule, IsFitPair, IsFitPorts, IsFitRange, IsFitTarget, IsFitTerms, IsFitValuedName, IsFitVectorRange}
use Rattle.module_scope.specs.declared.roles.PortRole.{PortRole}
use Rattle.module_scope.specs.declared.roles.NetRole.{NetRole}
use Rattle.module_scope.specs.declared.roles.Side.{Side}
use Rattle.module_scope.specs.declared.roles.Side.TheVariants as side
use Rattle.module_scope.specs.declared.roles.Role.{Role}
use Rattle.module_scope.specs.declared.roles.Role.TheVariants as role
use Rattle.module_scope.specs.Mentions.{Mention, ansi_role, connection_mentions, connections_mentions, declared_mentions, entries_mentions, expr_layer, expr_mentions, header_mentions, inst_mentions, item_mentions, items_mentions, mention, mentions_in, name_mentions, names_mentions, net_role, optional_mentions, pair_mentions, port_role, roles_of, target_layer, target_mentions, terms_mentions, trireg_role, valued_mentions, vector_bounds}
use Rattle.module_scope.specs.Roles.{declares_net, makes_net, range_of}
use Rattle.module_scope.specs.Rules.{first_range}
use Rattle.module_scope.specs.Nets.{declared_net, implicit_net, net_of}
use Rattle.module_scope.specs.Scopes.{scope_net, scope_of}
use Rattle.module_scope.proofs.ScopeLaws.{scope_net-of}
use Rattle.item_parts.specs.Widths.{net_range}
use Rattle.flattening_laws.specs.SoundPlans.{IsRange}
use Rattle.flattening_laws.proofs.Apart.{each_always, each_append, each_flat_map, each_map, each_weaker}
use Rattle.fit_laws.proofs.TreeLaws.{IsExprLayer, IsTargetLayer, expr_keeps, target_keeps}

-- ---- ranges that mentions give

abbrev HasRange : Role → Type 0
HasRange r = IsRange (range_of r)

abbrev AreRanged : List Mention → Type 0
AreRanged mentions = AllByRecursion (λ (m : Mention). HasRange m.role) mentions

range_fit : (r : Option RangeBounds) → IsFitIfThere IsFitRange r → IsRange r
range_fit None f = tt
range_fit (Some r) f = let left = f.0 in let right = f.1 in (omega arith, omega arith)

vector_fit : (r : Option VectorRange) → IsFitIfThere IsFitVectorRange r → IsRange (vector_bounds r)
vector_fit None f = tt
vector_fit (Some r) f = range_fit (Some r.range) f

names_ranged : (r : Role) (names : List Name) → HasRange r → AreRanged (names_mentions r names)
names_ranged r names h = each_map (λ (m : Mention). HasRange m.role) (mention r) names (each_always (λ n. HasRange r) names (λ n. h))

name_ranged : (r : Role) (name : Option Name) → HasRange r → AreRanged (name_mentions r name)
name_ranged r None h = tt
name_ranged r (Some name) h = (h, tt)

ranged_flat_map : {X : Type 0} (P : X → Type 0) (f : X → List Mention) (xs : List X) → ((x : X) → P x → AreRanged (f x)) → AllByRecursion P xs → AreRanged (flat_map f xs)
ranged_flat_map P f xs of h = each_flat_map (λ (m : Mention). HasRange m.role) f xs (each_weaker P (λ x. AreRanged (f x)) xs of h)

ranged_append : (xs ys : List Mention) → AreRanged xs → AreRanged ys → AreRanged (xs ++ ys)
ranged_append xs ys h k = each_append (λ (m : Mention). HasRange m.role) xs ys h k

-- ---- uses

expr_layer_ranged : (at : Side) (o : Expr-F (List Mention)) → IsExprLayer AreRanged o → AreRanged (expr_layer at o)
expr_layer_ranged at (Expr-F.Pick p) f = (tt, tt)
expr_layer_ranged at (Expr-F.Number location n) f = tt
expr_layer_ranged at (Expr-F.Based location literal) f = tt
expr_layer_ranged at (Expr-F.Concat location parts) f = ranged_flat_map AreRanged (λ part. part) parts (λ part h. h) f.1

target_layer_ranged : (o : Target-F (List Mention)) → IsTargetLayer AreRanged o → AreRanged (target_layer o)
target_layer_ranged (Target-F.Pick p) f = (tt, tt)
target_layer_ranged (Target-F.Concat location parts) f = ranged_flat_map AreRanged (λ part. part) parts (λ part h. h) f.1

expr_ranged : (at : Side) (e : Expr) → IsFitExpr e → AreRanged (expr_mentions at e)
expr_ranged at e f = expr_keeps AreRanged (expr_layer at) (expr_layer_ranged at) 64 e f

target_ranged : (t : Target) → IsFitTarget t → AreRanged (target_mentions t)
target_ranged t f = target_keeps AreRanged target_layer target_layer_ranged 64 t f

optional_ranged : (at : Side) (e : Option Expr) → IsFitIfThere IsFitExpr e → AreRanged (optional_mentions at e)
optional_ranged at None f = tt
optional_ranged at (Some e) f = expr_ranged at e f

-- ---- the header

entries_ranged : (port : PortRole) (entries : List AnsiEntry) → IsRange port.range → AllByRecursion IsFitAnsiEntry entries → AreRanged (entries_mentions port entries)
entries_ranged port [] h f = tt
entries_ranged port (entry.Port p ∷ entries) h f =
    let own = range_fit p.range f.0.range in (tt, (own, entries_ranged (ansi_role p) entries own f.1))
entries_ranged port (entry.Name name ∷ entries) h f = (tt, (h, entries_ranged port entries h f.1))

header_ranged : (p : Ports) → IsFitPorts p → AreRanged (header_mentions p)
header_ranged ports.Absent f = tt
header_ranged ports.Empty f = tt
header_ranged (ports.Names names) f = names_ranged role.Header names tt
header_ranged (ports.Ansi first entries) f =
    let own = range_fit first.range f.0.range in (tt, (own, entries_ranged (ansi_role first) entries own f.1.each))

-- ---- items

valued_ranged : (net : NetRole) → IsRange net.range → (v : ValuedName) → IsFitValuedName v → AreRanged (valued_mentions net v)
valued_ranged net h v f = (h, expr_ranged side.Value v.value f.1)

declared_ranged : (net : NetRole) → IsRange net.range → (names : DeclaredNames) → IsFitDeclaredNames names → AreRanged (declared_mentions net names)
declared_ranged net h (declares.Names names) f = names_ranged (role.Net net) names h
declared_ranged net h (declares.Valued names) f = ranged_flat_map IsFitValuedName (valued_mentions net) names (valued_ranged net h) f.fit.each

pair_ranged : (p : Pair) → IsFitPair p → AreRanged (pair_mentions p)
pair_ranged p f = ranged_append (target_mentions p.target) (expr_mentions side.Value p.value) (target_ranged p.target f.0) (expr_ranged side.Value p.value f.1)

terms_ranged : (t : Terms) → IsFitTerms t → AreRanged (terms_mentions t)
terms_ranged t f =
    ranged_append (name_mentions role.Instance t.name) (flat_map (expr_mentions side.Terminal) t.terminals) (name_ranged role.Instance t.name tt)
    (ranged_flat_map IsFitExpr (expr_mentions side.Terminal) t.terminals (expr_ranged side.Terminal) f.terminals.fit.each)

connections_ranged : (c : Connections) → IsFitConnections c → AreRanged (connections_mentions c)
connections_ranged (ByOrder values) f =
    ranged_flat_map (IsFitIfThere IsFitExpr) (optional_mentions side.Connection) values (optional_ranged side.Connection) f.fit.each
connections_ranged (ByName values) f =
    ranged_flat_map IsFitConnection connection_mentions values (λ c g. optional_ranged side.Connection c.value g.value) f.fit.each

inst_ranged : (i : Inst) → IsFitInst i → AreRanged (inst_mentions i)
inst_ranged i f =
    ranged_append (name_mentions role.Instance i.name) (connections_mentions i.connections) (name_ranged role.Instance i.name tt)
    (connections_ranged i.connections f.connections)

item_ranged : (index : ℕ) (i : Item) → IsFitItem i → AreRanged (item_mentions index i)
item_ranged index (item.Ports d) f = names_ranged (role.Port (port_role d)) d.names (range_fit d.range f.range)
item_ranged index (item.Nets d) f = declared_ranged (net_role index d) (vector_fit d.vector_range f.vector_range) d.declared_names f.declared_names
item_ranged index (item.Trireg d) f = names_ranged (role.Net (trireg_role index d)) d.names (vector_fit d.vector_range f.vector_range)
item_ranged index (item.Assign a) f = ranged_flat_map IsFitPair pair_mentions a.pairs pair_ranged f.pairs.fit.each
item_ranged index (item.Gates g) f = ranged_flat_map IsFitTerms terms_mentions g.gates terms_ranged f.gates.fit.each
item_ranged index (item.Instances i) f = ranged_flat_map IsFitInst inst_mentions i.instances inst_ranged f.instances.fit.each
item_ranged index (item.Cell c) f = tt
item_ranged index (item.Specify s) f = tt

items_ranged : (index : ℕ) (items : List Item) → AllByRecursion IsFitItem items → AreRanged (items_mentions index items)
items_ranged index [] f = tt
items_ranged index (first ∷ items) f =
    ranged_append (item_mentions index first) (items_mentions (index + 1) items) (item_ranged index first f.0) (items_ranged (index + 1) items f.1)

mentions_ranged : (m : Module) → IsFitModule m → AreRanged (mentions_in m)
mentions_ranged m f = ranged_append (header_mentions m.ports) (items_mentions 0 m.items) (header_ranged m.ports f.ports) (items_ranged 0 m.items f.items.each)

-- ---- the roles and the net of a name

roles_ranged : (name : List ℕ) (mentions : List Mention) → AreRanged mentions → AllByRecursion HasRange (roles_of name mentions)
roles_ranged name [] h = tt
roles_ranged name (m ∷ mentions) h = by_test (same_name name m.name) (roles_ranged name mentions h.1)
  where
    rest : List Mention
    rest = filter (λ (n : Mention). same_name name n.name) mentions

    by_test : (b : Bool) → AllByRecursion HasRange (map (λ (n : Mention). n.role) rest) → AllByRecursion HasRange (map (λ (n : Mention). n.role) (cond b (m ∷ rest) rest))
    by_test true others = (h.0, others)
    by_test false others = others

found_range : (test : Role → Bool) (roles : List Role) → AllByRecursion HasRange roles → IsRange (first_range (find test roles))
found_range test [] h = tt
found_range test (r ∷ roles) h = by_test (test r) (found_range test roles h.1)
  where
    by_test : (b : Bool) → IsRange (first_range (find test roles)) → IsRange (first_range (if b then Some r else find test roles))
    by_test true rest = h.0
    by_test false rest = rest

net_ranged : (default : Option ImplicitNetType) (roles : List Role) → AllByRecursion HasRange roles → IsRange (net_range (net_of default roles))
net_ranged default roles h = by_declared (is_some (find declares_net roles)) (is_some default && list_any makes_net roles)
  where
    by_declared : (declared made : Bool) → IsRange (net_range (if declared then Some (declared_net default roles) else (if made then Some (implicit_net default) else None)))
    by_declared true made = found_range declares_net roles h
    by_declared false true = tt
    by_declared false false = tt

pub ranges-fit : (default : Option ImplicitNetType) (m : Module) → IsFitModule m → (name : List ℕ) → IsRange (net_range (scope_net (scope_of default m) name))
ranges-fit default m f name =
    subst (λ net. IsRange (net_range net)) (sym (scope_net-of default m name))
    (net_ranged default (roles_of name (mentions_in m)) (roles_ranged name (mentions_in m) (mentions_ranged m f)))
