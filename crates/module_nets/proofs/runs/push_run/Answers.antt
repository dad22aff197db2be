use Rattle.std.proofs.Common.{[], ◌∷◌, length, subst, sym}
use Rattle.module_scope.specs.declared.scopes.Scope.{Scope}
use Rattle.expression_bits.specs.declared.runs.BitRun.{BitRun}
use Rattle.netlist_plan.specs.declared.nets.NetSource.TheVariants.{Literal}
use Rattle.netlist_plan.specs.Nets.{run_sources}
use Rattle.netlist_plan.specs.Unnamed.{literal_count}
use Rattle.module_nets.specs.Entries.{HasGained}
use Rattle.module_nets.proofs.Gaining.{ok_then}
use Rattle.module_nets.proofs.runs.push_run.Goals as goal

pub returns-in-Literal : goal.returns-in-Literal
returns-in-Literal c =
    let old = c.args.entries.now in
    let new = c.push_literal.new.self in
    let n = length old.literal_firsts in
    ok_then c.push_literal.result
    ((scope : Scope) → HasGained scope old new (Literal n c.in-Literal.bits ∷ []) 1)
    (HasGained c.args.scope.now old new (run_sources n (c.args.run.now ∷ [])) (literal_count (c.args.run.now ∷ [])))
    c.push_literal.ensures
    (λ gained. subst (λ (run : BitRun). HasGained c.args.scope.now old new (run_sources n (run ∷ [])) (literal_count (run ∷ []))) (sym c.in-Literal.is) (gained c.args.scope.now))
