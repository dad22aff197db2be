use Rattle.std.proofs.Common.{[], ◌++◌, ◌∷◌, None, refl}
use Rattle.module_scope.specs.declared.scopes.Scope.{Scope}
use Rattle.module_scope.proofs.Naming.{on_ok}
use Rattle.module_nets.specs.declared.entries.NetEntries.{NetEntries}
use Rattle.module_nets.specs.Entries.{HasGained}
use Rattle.module_nets.proofs.Gaining.{HasGained-unnamed}
use Rattle.module_nets.proofs.entries.NetEntries.count_unnamed.Goals as goal

pub returns : goal.returns
returns c =
    let old = c.args.self.now in
    let new : NetEntries = record { nets = old.nets; names = old.names; name_firsts = old.name_firsts; literal_firsts = c.push.new.self; bits = old.bits } in
    on_ok c.push.result c.push.new.self (old.literal_firsts ++ None ∷ []) ((scope : Scope) → HasGained scope old new [] 1) c.push.ensures.ok
    (λ e. λ scope. HasGained-unnamed scope old c.requires new refl refl refl e refl)
