-- The parts of a fit module are fit.
use Rattle.std.proofs.Common.{ℕ, ◌+◌, ◌<◌, ◌≤◌, ◌^◌, List, [], ◌∷◌, ◌++◌, length, map, Option, Some, None, arith}
use Rattle.std.specs.Prelude.{option_and_then, slice_get}
use Rattle.std.specs.List.{AllByRecursion, enumerate_from, flat_map}
use Rattle.std.specs.Option.{option_map, option_map_or}
use Rattle.std.proofs.lemmas.List.{length-append, length-map}
use Rattle.std.proofs.lemmas.List.FromFn.{length-enumerate_from}
use Rattle.v_tree.specs.declared.locations.Location.{Location}
use Rattle.v_tree.specs.declared.locations.Name.{Name}
use Rattle.v_tree.specs.declared.expressions.Expr.{Expr}
use Rattle.v_tree.specs.declared.declarations.ValuedName.{ValuedName}
use Rattle.v_tree.specs.declared.declarations.DeclaredNames.{DeclaredNames}
use Rattle.v_tree.specs.declared.declarations.DeclaredNames.TheVariants as declares
use Rattle.v_tree.specs.declared.gates.Terms.{Terms}
use Rattle.v_tree.specs.declared.gates.Connection.{Connection}
use Rattle.v_tree.specs.declared.gates.Connections.{Connections}
use Rattle.v_tree.specs.declared.gates.Connections.TheVariants.{ByOrder, ByName}
use Rattle.v_tree.specs.declared.gates.Inst.{Inst}
use Rattle.v_tree.specs.declared.gates.Instance.{Instance as TreeInstance}
use Rattle.v_tree.specs.declared.modules.AnsiEntry.{AnsiEntry}
use Rattle.v_tree.specs.declared.modules.AnsiEntry.TheVariants as entry
use Rattle.v_tree.specs.declared.modules.Ports.{Ports}
use Rattle.v_tree.specs.declared.modules.Ports.TheVariants as ports
use Rattle.v_tree.specs.declared.modules.Item.{Item}
use Rattle.v_tree.specs.declared.modules.Item.TheVariants as item
use Rattle.v_tree.specs.declared.modules.Module.{Module}
use Rattle.v_tree.specs.Fit.{IsFitAnsiEntry, IsFitConnection, IsFitConnections, IsFitDeclaredNames, IsFitExpr, IsFitIfThere, IsFitInst, IsFitInstance, IsFitItem, IsFitModule, IsFitName, IsFitPair, IsFitPorts, IsFitTerms, IsFitValuedName}
use Rattle.flat_names.specs.Spelling.{IsText}
use Rattle.module_scope.specs.declared.scopes.Scope.{Scope}
use Rattle.module_graph.specs.declared.references.Master.{Master}
use Rattle.module_graph.specs.declared.references.Master.TheVariants as master
use Rattle.module_ports.specs.Ports.{Port, entry_name, header_names, port_names}
use Rattle.item_parts.specs.Widths.{net_range}
use Rattle.instance_rules.specs.Links.{Link, MasterPorts, ModulePorts, PrimitivePorts, UnknownPorts, links, named_link, named_port, optional_link, ordered_link, port_width, ports_of, width_at}
use Rattle.expression_bits.specs.declared.runs.BitRun.{BitRun}
use Rattle.expression_bits.specs.declared.runs.BitRun.TheVariants.{Net as NetRun}
use Rattle.expression_bits.specs.Runs.{runs_width, value_runs}
use Rattle.module_parts.specs.declared.parts.PortRuns.{PortRuns}
use Rattle.module_parts.specs.declared.parts.ModulePart.TheVariants.{Names, Gate}
use Rattle.module_parts.specs.Parts.{assignment, declared_parts, gate_part, instance_parts, module_instance, module_parts, name_text, name_texts, pair_part, parts_of_item, port_runs, primitive_instance, target_runs, terminal_runs, valued_parts}
use Rattle.plan_laws.specs.SoundGates.{IsTextIfThere}
use Rattle.flattening_laws.proofs.Apart.{All_from_each, each_append, each_flat_map, each_map, each_weaker}
use Rattle.fit_laws.specs.FitParts.{IsFitPart, IsFitRun}
use Rattle.fit_laws.proofs.RunLaws.{AreFitRuns, name_fit, place_fit, range_some, runs_some, target_fit, value_fit}

-- ---- lists with numbers

module _ {X : Type 0} where
  pub each_numbered : (P : X → Type 0) (n : ℕ) (xs : List X) → AllByRecursion P xs → AllByRecursion (λ (p : ℕ × X). P p.1) (enumerate_from n xs)
  each_numbered P n [] h = tt
  each_numbered P n (x ∷ xs) h = (h.0, each_numbered P (n + 1) xs h.1)

  -- each gives at most one
  flat_map_few : {Y : Type 0} → (f : X → List Y) (xs : List X) → ((x : X) → length (f x) ≤ 1) → length (flat_map f xs) ≤ length xs
  flat_map_few f [] one = omega arith
  flat_map_few f (x ∷ xs) one = let first = one x in let rest = flat_map_few f xs one in let whole = length-append (f x) (flat_map f xs) in omega arith

-- ---- names

texts_fit : (names : List Name) → AllByRecursion IsFitName names → AllByRecursion IsText (name_texts names)
texts_fit names f = each_map IsText (λ (n : Name). n.text) names (each_weaker IsFitName (λ n. IsText n.text) names name_fit f)

text_fit : (name : Option Name) → IsFitIfThere IsFitName name → IsTextIfThere (name_text name)
text_fit None f = tt
text_fit (Some n) f = name_fit n f

names_part : (names : List (List ℕ)) → AllByRecursion IsText names → IsFitPart (Names names)
names_part names f = record {
  names = All_from_each IsText names f;
  runs = All_from_each IsFitRun [] tt;
  text = tt;
  terminals = tt;
  few = omega arith;
}

entry_fit : (e : AnsiEntry) → IsFitAnsiEntry e → IsFitName (entry_name e)
entry_fit (entry.Port p) f = f.name
entry_fit (entry.Name n) f = f

header_fit : (p : Ports) → IsFitPorts p → AllByRecursion IsFitName (header_names p)
header_fit ports.Absent f = tt
header_fit ports.Empty f = tt
header_fit (ports.Names names) f = f.fit.each
header_fit (ports.Ansi first entries) f =
    (f.0.name, each_map IsFitName entry_name entries (each_weaker IsFitAnsiEntry (λ e. IsFitName (entry_name e)) entries entry_fit f.1.each))

-- ---- gates

gate_fit : (index : ℕ) (name : Option (List ℕ)) (terminals : List (List BitRun)) → IsTextIfThere name → AllByRecursion AreFitRuns terminals → length terminals < 2 ^ 32
    → IsFitPart (Gate (record { item = index; name = name; terminals = terminals }))
gate_fit index name terminals text f few = record {
  names = All_from_each IsText [] tt;
  runs = All_from_each IsFitRun (flat_map (λ runs. runs) terminals)
      (each_flat_map IsFitRun (λ runs. runs) terminals (each_weaker AreFitRuns (λ runs. AllByRecursion IsFitRun runs) terminals (λ runs h. h.1) f));
  text = text;
  terminals = each_weaker AreFitRuns (λ runs. 0 < length runs) terminals (λ runs h. h.0) f;
  few = few;
}

terms_fit : (index : ℕ) (t : Terms) → IsFitTerms t → IsFitPart (gate_part index t)
terms_fit index t f =
    gate_fit index (name_text t.name) (map terminal_runs t.terminals) (text_fit t.name f.name)
    (each_map AreFitRuns terminal_runs t.terminals (each_weaker IsFitExpr (λ e. AreFitRuns (terminal_runs e)) t.terminals (λ e g. place_fit 1 e (omega arith) g) f.terminals.fit.each))
    (let same = length-map t.terminals terminal_runs in let few = f.terminals.fit.few in omega arith)

-- ---- assignments

assignment_fit : (scope : Scope) (index : ℕ) (target : List BitRun) (value : Expr) → AreFitRuns target → IsFitExpr value → IsFitPart (assignment scope index target value)
assignment_fit scope index target value f g = record {
  names = All_from_each IsText [] tt;
  runs = All_from_each IsFitRun (target ++ (value_runs scope (runs_width scope target) value).runs)
      (each_append IsFitRun target (value_runs scope (runs_width scope target) value).runs f.1 (value_fit scope (runs_width scope target) value (runs_some scope target f) g));
  text = tt;
  terminals = tt;
  few = omega arith;
}

-- a name that is declared and assigned, as a target
pub whole_fit : (n : Name) → IsFitName n → AreFitRuns (NetRun n.text None ∷ [])
whole_fit n f = (omega arith, (name_fit n f, tt))

valued_fit : (scope : Scope) (index : ℕ) (v : ValuedName) → IsFitValuedName v → AllByRecursion IsFitPart (valued_parts scope index v)
valued_fit scope index v f = (
  names_part (v.name.text ∷ []) (name_fit v.name f.0, tt),
  (assignment_fit scope index (NetRun v.name.text None ∷ []) v.value (whole_fit v.name f.0) f.1, tt),
)

declared_fit : (scope : Scope) (index : ℕ) (names : DeclaredNames) → IsFitDeclaredNames names → AllByRecursion IsFitPart (declared_parts scope index names)
declared_fit scope index (declares.Names names) f = (names_part (name_texts names) (texts_fit names f.fit.each), tt)
declared_fit scope index (declares.Valued names) f =
    each_flat_map IsFitPart (valued_parts scope index) names
    (each_weaker IsFitValuedName (λ v. AllByRecursion IsFitPart (valued_parts scope index v)) names (valued_fit scope index) f.fit.each)

-- ---- connections

abbrev IsFitLink : Link → Type 0
IsFitLink l = IsFitExpr l.value

ordered_fit : (p : ℕ × Option Expr) → IsFitIfThere IsFitExpr p.1 → AllByRecursion IsFitLink (ordered_link p)
ordered_fit (index, None) f = tt
ordered_fit (index, Some e) f = (f, tt)

optional_fit : (port : Option ℕ) (place : Location) (e : Option Expr) → IsFitIfThere IsFitExpr e → AllByRecursion IsFitLink (optional_link port place e)
optional_fit port place None f = tt
optional_fit port place (Some e) f = (f, tt)

named_fit : (ports : MasterPorts) (p : ℕ × Connection) → IsFitConnection p.1 → AllByRecursion IsFitLink (named_link ports p)
named_fit ports (index, c) f = optional_fit (named_port ports index c.port.text) c.location c.value f.value

links_fit : (ports : MasterPorts) (c : Connections) → IsFitConnections c → AllByRecursion IsFitLink (links ports c)
links_fit ports (ByOrder values) f =
    each_flat_map IsFitLink ordered_link (enumerate_from 0 values)
    (each_weaker (λ (p : ℕ × Option Expr). IsFitIfThere IsFitExpr p.1) (λ p. AllByRecursion IsFitLink (ordered_link p)) (enumerate_from 0 values) ordered_fit
    (each_numbered (IsFitIfThere IsFitExpr) 0 values f.fit.each))
links_fit ports (ByName values) f =
    each_flat_map IsFitLink (named_link ports) (enumerate_from 0 values)
    (each_weaker (λ (p : ℕ × Connection). IsFitConnection p.1) (λ p. AllByRecursion IsFitLink (named_link ports p)) (enumerate_from 0 values) (named_fit ports)
    (each_numbered IsFitConnection 0 values f.fit.each))

ordered_one : (p : ℕ × Option Expr) → length (ordered_link p) ≤ 1
ordered_one (index, None) = omega arith
ordered_one (index, Some e) = omega arith

optional_one : (port : Option ℕ) (place : Location) (e : Option Expr) → length (optional_link port place e) ≤ 1
optional_one port place None = omega arith
optional_one port place (Some e) = omega arith

named_one : (ports : MasterPorts) (p : ℕ × Connection) → length (named_link ports p) ≤ 1
named_one ports (index, c) = optional_one (named_port ports index c.port.text) c.location c.value

links_few : (ports : MasterPorts) (c : Connections) → IsFitConnections c → length (links ports c) < 2 ^ 32
links_few ports (ByOrder values) f =
    let most = flat_map_few ordered_link (enumerate_from 0 values) ordered_one in
    let same = length-enumerate_from 0 values in let few = f.fit.few in omega arith
links_few ports (ByName values) f =
    let most = flat_map_few (named_link ports) (enumerate_from 0 values) (named_one ports) in
    let same = length-enumerate_from 0 values in let few = f.fit.few in omega arith

-- ---- instances

primitive_fit : (index : ℕ) (ports : MasterPorts) (i : Inst) → IsFitInst i → IsFitPart (primitive_instance index ports i)
primitive_fit index ports i f =
    let ls = links ports i.connections in
    gate_fit index (name_text i.name) (map (λ (l : Link). terminal_runs l.value) ls) (text_fit i.name f.name)
    (each_map AreFitRuns (λ (l : Link). terminal_runs l.value) ls
    (each_weaker IsFitLink (λ l. AreFitRuns (terminal_runs l.value)) ls (λ l g. place_fit 1 l.value (omega arith) g) (links_fit ports i.connections f.connections)))
    (let same = length-map ls (λ (l : Link). terminal_runs l.value) in let few = links_few ports i.connections f.connections in omega arith)

-- the width of a place is 1 or more
place_width_some : (ports : MasterPorts) (port : Option ℕ) → 0 < option_map_or (λ width. width) (width_at ports port) 1
place_width_some (ModulePorts ports) port = by_port (option_and_then (slice_get ports) port)
  where
    by_port : (p : Option Port) → 0 < option_map_or (λ width. width) (option_map port_width p) 1
    by_port None = omega arith
    by_port (Some p) = range_some (net_range p.net)
place_width_some (PrimitivePorts count) port = omega arith
place_width_some UnknownPorts port = omega arith

abbrev AreConnected : PortRuns → Type 0
AreConnected c = AllByRecursion IsFitRun c.runs

port_fit : (ports : MasterPorts) (l : Link) → IsFitLink l → AreConnected (port_runs ports l)
port_fit ports l f = (place_fit (option_map_or (λ width. width) (width_at ports l.port) 1) l.value (place_width_some ports l.port) f).1

module_fit : (index m : ℕ) (ports : MasterPorts) (i : Inst) → IsFitInst i → IsFitPart (module_instance index m ports i)
module_fit index m ports i f =
    let ls = links ports i.connections in
    let connections = map (port_runs ports) ls in
    record {
      names = All_from_each IsText [] tt;
      runs = All_from_each IsFitRun (flat_map (λ (c : PortRuns). c.runs) connections)
          (each_flat_map IsFitRun (λ (c : PortRuns). c.runs) connections
          (each_map AreConnected (port_runs ports) ls (each_weaker IsFitLink (λ l. AreConnected (port_runs ports l)) ls (port_fit ports) (links_fit ports i.connections f.connections))));
      text = text_fit i.name f.name;
      terminals = tt;
      few = omega arith;
    }

instances_fit : (index : ℕ) (tables : List (List Port)) (m : Master) (i : TreeInstance) → IsFitInstance i → AllByRecursion IsFitPart (instance_parts index tables m i)
instances_fit index tables (master.Module m) i f =
    let ports = ports_of tables [] (master.Module m) in
    each_map IsFitPart (module_instance index m ports) i.instances
    (each_weaker IsFitInst (λ x. IsFitPart (module_instance index m ports x)) i.instances (module_fit index m ports) f.instances.fit.each)
instances_fit index tables (master.Udp u) i f =
    let ports = ports_of tables [] (master.Udp u) in
    each_map IsFitPart (primitive_instance index ports) i.instances
    (each_weaker IsFitInst (λ x. IsFitPart (primitive_instance index ports x)) i.instances (primitive_fit index ports) f.instances.fit.each)
instances_fit index tables master.Unknown i f = tt

-- ---- modules

module _ (scope : Scope) (tables : List (List Port)) (of : List ℕ → Master) where
  item_fit : (p : ℕ × Item) → IsFitItem p.1 → AllByRecursion IsFitPart (parts_of_item scope tables of p)
  item_fit (index, item.Ports d) f = (names_part (name_texts d.names) (texts_fit d.names f.names.fit.each), tt)
  item_fit (index, item.Nets d) f = declared_fit scope index d.declared_names f.declared_names
  item_fit (index, item.Trireg d) f = (names_part (name_texts d.names) (texts_fit d.names f.names.fit.each), tt)
  item_fit (index, item.Assign a) f =
      each_map IsFitPart (pair_part scope index) a.pairs
      (each_weaker IsFitPair (λ p. IsFitPart (pair_part scope index p)) a.pairs
      (λ p g. assignment_fit scope index (target_runs p.target) p.value (target_fit p.target g.0) g.1) f.pairs.fit.each)
  item_fit (index, item.Gates g) f =
      each_map IsFitPart (gate_part index) g.gates (each_weaker IsFitTerms (λ t. IsFitPart (gate_part index t)) g.gates (terms_fit index) f.gates.fit.each)
  item_fit (index, item.Instances i) f = instances_fit index tables (of i.name.text) i f
  item_fit (index, item.Cell c) f = tt
  item_fit (index, item.Specify s) f = tt

  pub parts-fit : (m : Module) → IsFitModule m → AllByRecursion IsFitPart (module_parts scope tables of m)
  parts-fit m f = (
    names_part (port_names m.ports) (texts_fit (header_names m.ports) (header_fit m.ports f.ports)),
    each_flat_map IsFitPart (parts_of_item scope tables of) (enumerate_from 0 m.items)
        (each_weaker (λ (p : ℕ × Item). IsFitItem p.1) (λ p. AllByRecursion IsFitPart (parts_of_item scope tables of p)) (enumerate_from 0 m.items) item_fit
        (each_numbered IsFitItem 0 m.items f.items.each)),
  )
