-- What the rules on numbers of terminals and on connections give of the parts of a module.
use Rattle.std.specs.Prelude.{◌≡◌, ℕ, ◌+◌, ◌<◌, List, length, slice_get, slice_index_or}
use Rattle.std.specs.Option.{IsSome, IsSomeAnd}
use Rattle.std.specs.List.{AllByRecursion}
use Rattle.v_tree.specs.declared.gates.Instance.{Instance as TreeInstance}
use Rattle.v_tree.specs.declared.modules.Item.{Item}
use Rattle.udp_table.specs.Primitive.{Primitive}
use Rattle.flat_net.specs.Lists.{AreDistinct}
use Rattle.module_graph.specs.declared.references.Master.TheVariants as master
use Rattle.instance_rules.specs.Places.{instances_in}
use Rattle.module_parts.specs.declared.parts.ModulePart.{ModulePart}
use Rattle.module_parts.specs.declared.parts.ModulePart.TheVariants.{Names, Gate, Pair, Instance}
use Rattle.netlist_plan.specs.Plan.{Given, Meanings, form_at}
use Rattle.plan_laws.specs.SoundGates.{HasTerminalCount}
use Rattle.plan_laws.specs.SoundParts.{connected_ports}

-- what an item instantiates has its place among the primitives, if it is one, with an input for each port of its header but the
-- output
abbrev pub HasPrimitive : List Primitive → Meanings → List ℕ → TreeInstance → Type 0
HasPrimitive udps meanings counts i =
    (u : ℕ) → meanings.of i.name.text ≡ master.Udp u → IsSomeAnd (slice_get udps (meanings.udp_numbers u)) (λ p. p.inputs + 1 ≡ slice_index_or counts u 0)

-- so has each primitive that items name
abbrev pub HavePrimitives : List Primitive → Meanings → List ℕ → List Item → Type 0
HavePrimitives udps meanings counts items = AllByRecursion (HasPrimitive udps meanings counts) (instances_in items)

-- a gate with a right number of terminals, or an instance that has a name and connects each port once
abbrev pub IsCounted : List Primitive → Given → ModulePart → Type 0
IsCounted udps given (Names names) = Unit {0}
IsCounted udps given (Gate g) = HasTerminalCount udps (form_at given.meanings given.items g.item) (length g.terminals)
IsCounted udps given (Pair p) = Unit {0}
IsCounted udps given (Instance i) = IsSome i.name × AreDistinct (connected_ports i.connections)

-- each terminal of a gate has a run
abbrev pub HasTerminalRuns : ModulePart → Type 0
HasTerminalRuns (Names names) = Unit {0}
HasTerminalRuns (Gate g) = AllByRecursion (λ runs. 0 < length runs) g.terminals
HasTerminalRuns (Pair p) = Unit {0}
HasTerminalRuns (Instance i) = Unit {0}
