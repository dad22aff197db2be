use Rattle.std.proofs.Common.{sum_by}
use Rattle.netlist_plan.specs.Unnamed.{unnamed_count}
use Rattle.module_nets.proofs.Gaining.{HasGained-all}
use Rattle.module_nets.proofs.parts.entries_of.Goals as goal

pub returns-clause-nets : goal.returns-clause-nets
returns-clause-nets c =
    HasGained-all c.args.scope.now c.new-entries.result c.push_parts.new.entries c.args.parts.now (sum_by unnamed_count c.args.parts.now)
    c.new-entries.ensures.empty c.in_ok-push_parts.ensures
