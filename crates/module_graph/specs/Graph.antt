-- What modules instantiate (IEEE 1364-2005, 12.1.2).
use Rattle.std.specs.Prelude.{ℕ, List, Option, None, Some, map}
use Rattle.std.specs.List.{filter_map}
use Rattle.v_tree.specs.declared.locations.Name.{Name}
use Rattle.v_tree.specs.declared.modules.Module.{Module}
use Rattle.v_tree.specs.declared.modules.Item.{Item}
use Rattle.v_tree.specs.declared.modules.Item.TheVariants.{Ports, Nets, Trireg, Assign, Gates, Instances, Cell, Specify}
use Rattle.v_tree.specs.declared.primitives.UdpDecl.{UdpDecl}
use Rattle.name_table.specs.Names.{index_of}
use Rattle.module_graph.specs.declared.references.Master.{Master}
use Rattle.module_graph.specs.declared.references.Master.TheVariants.{Module as ToModule, Udp as ToUdp, Unknown}
use Rattle.module_graph.specs.declared.references.Reference.{Reference}

-- the names of the modules of a file, and for each module the references of its instances, in text order
pub record Graph : Type 0 where
  pub names : List (List ℕ)
  pub references : List (List Reference)

abbrev pub module_names : List Module → List (List ℕ)
module_names modules = map (λ m. m.name.text) modules

abbrev pub udp_names : List UdpDecl → List (List ℕ)
udp_names udps = map (λ u. u.name.text) udps

-- a module, else a primitive, else neither
abbrev pub master_at : Option ℕ → Option ℕ → Master
master_at (Some index) udp = ToModule index
master_at None (Some index) = ToUdp index
master_at None None = Unknown

-- what a name means: the first module of that name, else the first primitive of that name
abbrev pub master_of : List (List ℕ) → List (List ℕ) → List ℕ → Master
master_of modules udps name = master_at (index_of name modules) (index_of name udps)

-- the reference that the name of an instance's module is
abbrev pub reference_to : (List ℕ → Master) → Name → Reference
reference_to masters name = record { location = name.location; master = masters name.text }

-- the reference of an item of instances
abbrev pub reference_of : (List ℕ → Master) → Item → Option Reference
reference_of masters (Instances i) = Some (reference_to masters i.name)
reference_of masters (Ports p) = None
reference_of masters (Nets n) = None
reference_of masters (Trireg t) = None
reference_of masters (Assign a) = None
reference_of masters (Gates g) = None
reference_of masters (Cell c) = None
reference_of masters (Specify s) = None

-- the references of a module's items
abbrev pub references_in : (List ℕ → Master) → List Item → List Reference
references_in masters items = filter_map (reference_of masters) items

-- the references of each module
abbrev pub references_of : (List ℕ → Master) → List Module → List (List Reference)
references_of masters modules = map (λ m. references_in masters m.items) modules

-- the graph of a file
abbrev pub graph_of : List Module → List UdpDecl → Graph
graph_of modules udps = record {
  names = module_names modules;
  references = references_of (master_of (module_names modules) (udp_names udps)) modules;
}
