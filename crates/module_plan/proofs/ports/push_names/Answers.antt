use Rattle.std.proofs.Common.{List, ◌++◌, map, refl}
use Rattle.std.specs.List.{enumerate_from}
use Rattle.v_tree.specs.declared.locations.Name.{Name}
use Rattle.netlist_plan.specs.Plan.{port_bits}
use Rattle.module_plan.proofs.Walks.{seen_all, seen_more}
use Rattle.module_plan.proofs.ports.push_names.Goals as goal

pub loop-port-preserved : goal.loop-port-preserved
loop-port-preserved c =
    let names = c.args.names.now in
    let bits_of = port_bits c.args.scope.now c.args.nets.now in
    let seen_as = λ (all : List Name). map (λ (name : Name). name.text) all in
    let one = λ (name : Name). name.text in
    seen_more bits_of seen_as one (λ x rest. refl) refl names c.loop-port.port (c.loop-port.port) c.loop-port.list (c.args.list.now ++ map bits_of (enumerate_from 0 (seen_as names)))
    c.loop-port.invariant c.index-names-port.result c.loop-port-test.true c.index-names-port.is c.push_port.new.list c.in_ok-push_port.ensures

pub returns : goal.returns
returns c =
    let names = c.args.names.now in
    let bits_of = port_bits c.args.scope.now c.args.nets.now in
    let seen_as = λ (all : List Name). map (λ (name : Name). name.text) all in
    let one = λ (name : Name). name.text in
    seen_all bits_of seen_as one (λ x rest. refl) refl names c.loop-port.port (c.loop-port.port) c.loop-port.list (c.args.list.now ++ map bits_of (enumerate_from 0 (seen_as names)))
    c.loop-port.invariant c.loop-port-test.false
