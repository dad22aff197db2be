use Rattle.module_scope.proofs.ScopeLaws.{nets_of_result}
use Rattle.module_scope.proofs.scopes.Scope.new.Goals as goal

pub returns-clause-nets : goal.returns-clause-nets
returns-clause-nets c = nets_of_result c.scope_with.result c.args.default c.in_ok-mentions.mentions c.args.«module».now c.scope_with.ensures c.in_ok-mentions.ensures
