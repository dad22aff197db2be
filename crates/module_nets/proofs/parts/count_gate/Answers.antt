use Rattle.std.proofs.Common.{ℕ, List, [], Option, OnOk, ap, subst, sym}
use Rattle.std.specs.Option.{option_map_or}
use Rattle.module_scope.specs.declared.scopes.Scope.{Scope}
use Rattle.module_nets.specs.Entries.{HasGained}
use Rattle.module_nets.proofs.parts.count_gate.Goals as goal

pub returns-in-None : goal.returns-in-None
returns-in-None c =
    subst (λ (n : ℕ). OnOk c.count_unnamed.result ((scope : Scope) → HasGained scope c.args.entries.now c.count_unnamed.new.self [] n))
    (sym (ap (λ (name : Option (List ℕ)). option_map_or (λ text. 0) name 1) c.in-None.is)) c.count_unnamed.ensures
