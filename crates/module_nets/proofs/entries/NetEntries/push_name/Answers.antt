use Rattle.std.proofs.Common.{sym, ◌∙◌}
use Rattle.module_nets.proofs.Gaining.{HasGained-again}
use Rattle.module_nets.proofs.entries.NetEntries.push_name.Goals as goal

pub returns-in-Some : goal.returns-in-Some
returns-in-Some c =
    HasGained-again c.args.scope.now c.args.self.now c.requires c.args.name.now c.in-Some.field-0 (sym c.find.ensures ∙ c.in-Some.is)
