-- What plans say of the numbers of nets, elements and names of a hierarchy.
use Rattle.std.specs.Prelude.{ℕ, ◌+◌, min, List, [], ◌∷◌, length, map, slice_get, slice_index_or}
use Rattle.std.specs.Option.{option_map_or}
use Rattle.hierarchy_counts.specs.declared.counts.ModuleCounts.{ModuleCounts}
use Rattle.hierarchy_counts.specs.declared.counts.InstanceCounts.{InstanceCounts}
use Rattle.netlist_plan.specs.declared.plan.PlanElement.{PlanElement}
use Rattle.netlist_plan.specs.declared.plan.PlanInstance.{PlanInstance}
use Rattle.netlist_plan.specs.declared.plan.PlanStep.{PlanStep}
use Rattle.netlist_plan.specs.declared.plan.PlanStep.TheVariants.{Element as ElementStep, Instance as InstanceStep}
use Rattle.netlist_plan.specs.declared.plan.PortBits.{PortBits}
use Rattle.netlist_plan.specs.declared.plan.ModulePlan.{ModulePlan}
use Rattle.netlist_plan.specs.Flattening.{bit_count, no_plan}

-- the elements and the instances among the steps of a module
abbrev pub element_list : List PlanStep → List PlanElement
element_list [] = []
element_list (ElementStep e ∷ steps) = e ∷ element_list steps
element_list (InstanceStep i ∷ steps) = element_list steps

abbrev pub instance_list : List PlanStep → List PlanInstance
instance_list [] = []
instance_list (ElementStep e ∷ steps) = instance_list steps
instance_list (InstanceStep i ∷ steps) = i ∷ instance_list steps

-- a module by itself: names are those of the bits of its nets and of its instances
abbrev pub module_counts : ModulePlan → ModuleCounts
module_counts p = record {
  nets = bit_count p.nets;
  elements = length (element_list p.steps);
  names = bit_count p.nets + length (instance_list p.steps);
}

-- how many bits of ports are connected outside
abbrev pub connected_count : List PortBits → List PortBits → ℕ
connected_count ports [] = 0
connected_count ports (c ∷ connections) =
    option_map_or (λ port. min (length port.bits) (length c.bits)) (slice_get ports c.port) 0 + connected_count ports connections

abbrev pub instance_counts : List ModulePlan → PlanInstance → InstanceCounts
instance_counts plans i = record {
  master = i.master;
  bound = connected_count (slice_index_or plans i.master no_plan).ports i.connections;
}

-- the counts of all modules, and those of the instances in each
abbrev pub all_module_counts : List ModulePlan → List ModuleCounts
all_module_counts plans = map module_counts plans

abbrev pub all_instance_counts : List ModulePlan → List (List InstanceCounts)
all_instance_counts plans = map (λ p. map (instance_counts plans) (instance_list p.steps)) plans
