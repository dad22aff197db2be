use Rattle.std.proofs.Common.{◌+◌, List, [], ◌∷◌, ◌++◌, map, refl, ap, ◌∙◌}
use Rattle.std.specs.List.{enumerate_from}
use Rattle.v_tree.specs.declared.locations.Name.{Name}
use Rattle.v_tree.specs.declared.modules.AnsiEntry.{AnsiEntry}
use Rattle.module_ports.specs.Ports.{entry_name}
use Rattle.netlist_plan.specs.Plan.{port_bits}
use Rattle.module_plan.proofs.Walks.{seen_all, seen_more}
use Rattle.module_plan.proofs.ports.push_entries.Goals as goal

pub loop-index-preserved : goal.loop-index-preserved
loop-index-preserved c =
    let others = c.args.others.now in
    let bits_of = port_bits c.args.scope.now c.args.nets.now in
    let seen_as = λ (all : List AnsiEntry). map (λ (name : Name). name.text) (map entry_name all) in
    let one = λ (entry : AnsiEntry). (entry_name entry).text in
    seen_more bits_of seen_as one (λ x rest. refl) refl others c.loop-index.index (c.loop-index.index + 1) c.loop-index.list (c.args.list.now ++ map bits_of (enumerate_from 1 (seen_as others)))
    c.loop-index.invariant c.index-others-index.result c.loop-index-test.true c.index-others-index.is c.push_port.new.list
    (c.in_ok-push_port.ensures
    ∙ ap (λ (name : Name). c.loop-index.list ++ bits_of (c.loop-index.index + 1, name.text) ∷ []) c.entry_name.ensures)

pub returns : goal.returns
returns c =
    let others = c.args.others.now in
    let bits_of = port_bits c.args.scope.now c.args.nets.now in
    let seen_as = λ (all : List AnsiEntry). map (λ (name : Name). name.text) (map entry_name all) in
    let one = λ (entry : AnsiEntry). (entry_name entry).text in
    seen_all bits_of seen_as one (λ x rest. refl) refl others c.loop-index.index (c.loop-index.index + 1) c.loop-index.list (c.args.list.now ++ map bits_of (enumerate_from 1 (seen_as others)))
    c.loop-index.invariant c.loop-index-test.false
