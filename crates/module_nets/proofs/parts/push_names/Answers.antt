use Rattle.std.proofs.Common.{ℕ, List, [], ◌∷◌, map, refl, subst}
use Rattle.std.proofs.lemmas.List.{map-append, take_all}
use Rattle.netlist_plan.specs.declared.nets.NetSource.TheVariants.{Named}
use Rattle.module_nets.specs.Entries.{HasGained}
use Rattle.module_nets.proofs.Gaining.{HasGained-next, HasGained-none}
use Rattle.module_nets.proofs.parts.push_names.Goals as goal

pub loop-name-init : goal.loop-name-init
loop-name-init c = HasGained-none c.args.scope.now c.args.entries.now c.requires

pub loop-name-preserved : goal.loop-name-preserved
loop-name-preserved c =
    let more : HasGained c.args.scope.now c.loop-name.entries c.push_name.new.self (Named c.name-item.result ∷ []) 0 =
    subst (λ (name : List ℕ). HasGained c.args.scope.now c.loop-name.entries c.push_name.new.self (Named name ∷ []) 0) c.as_slice.ensures c.in_ok-push_name.ensures in
    HasGained-next (λ (n : ℕ) (names : List (List ℕ)). map Named names) (λ (names : List (List ℕ)). 0)
    (λ n names name. map-append Named names (name ∷ [])) (λ names name. refl)
    c.args.scope.now c.args.entries.now c.loop-name.entries c.push_name.new.self c.args.names.now c.loop-name.name-index c.name-item.result
    c.loop-name-test.true c.name-item.is c.loop-name.invariant more

pub returns : goal.returns
returns c =
    subst (λ (names : List (List ℕ)). HasGained c.args.scope.now c.args.entries.now c.loop-name.entries (map Named names) 0)
    (take_all c.loop-name.name-index c.args.names.now c.loop-name-test.false) c.loop-name.invariant
