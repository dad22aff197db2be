use Rattle.std.proofs.Common.{ℕ, ◌+◌, List, [], sym, ap, ◌∙◌}
use Rattle.std.proofs.lemmas.List.{take_all}
use Rattle.module_parts.specs.declared.parts.PortRuns.{PortRuns}
use Rattle.netlist_plan.specs.Elements.{connections_bits}
use Rattle.module_nets.proofs.Sources.{literals_in-push}
use Rattle.module_plan.proofs.Walks.{made_more, next_more}
use Rattle.module_plan.proofs.RunLists.{connection_literals, connections_bits-push}
use Rattle.module_plan.proofs.Steps.{literals_in-one}
use Rattle.module_plan.proofs.instances.connections_bits.Goals as goal

pub loop-connection-preserved : goal.loop-connection-preserved
loop-connection-preserved c =
    let scope = c.args.scope.now in
    let nets = c.args.nets.now in
    let connections = c.args.connections.now in
    let i = c.loop-connection.connection-index in
    let connection = c.connection-item.result in
    let next = c.loop-connection.next in
    let runs_of = λ (each : PortRuns). each.runs in
    record {
      made =
          made_more (connections_bits scope nets) connection_literals (connections_bits-push scope nets) c.args.number connections i connection
          c.loop-connection-test.true c.connection-item.is next c.loop-connection.invariant.next
          [] c.loop-connection.list c.push_connection.new.list c.loop-connection.invariant.made c.in_ok-next.ensures.bits;
      next =
          next_more connection_literals (literals_in-push runs_of) c.args.number connections i connection
          c.loop-connection-test.true c.connection-item.is next c.in_ok-next.next c.loop-connection.invariant.next
          (c.in_ok-next.ensures.next ∙ ap (λ (count : ℕ). next + count) (sym (literals_in-one nets runs_of connection)));
    }

pub returns : goal.returns
returns c =
    c.loop-connection.invariant.made
    ∙ ap (λ (list : List PortRuns). connections_bits c.args.scope.now c.args.nets.now c.args.number list)
    (take_all c.loop-connection.connection-index c.args.connections.now c.loop-connection-test.false)
