use Rattle.std.proofs.Common.{◌≡◌, ◌<◌, length, get_or, map, take, ◌++◌, ◌∷◌, [], List, ap, ◌∙◌, sym, arith, rules, w8, to_z, of_z}
use Rattle.std.proofs.lemmas.Int.{to_z-of_z}
use Rattle.std.proofs.lemmas.List.{take_more, map-append}
use Rattle.std.specs.Prelude.{FitsSigned}
use Rattle.v_tree.specs.declared.modules.Module.{Module}
use Rattle.module_directives.specs.Precisions.{tick_of}
use Rattle.module_directives.specs.InForce.{settings_at}
use Rattle.module_directives.specs.declared.settings.Settings.{Settings}
use Rattle.module_directives.proofs.WalkLaws.{settings_at-from}
use Rattle.module_directives.proofs.settings.settings_of.Goals as goal

pub loop-module-preserved : goal.loop-module-preserved
loop-module-preserved c =
    let fits : FitsSigned w8 c.tick_of-tick.result = search rules in
    let tick : to_z w8 (of_z w8 c.tick_of-tick.result) ≡ tick_of c.args.directives.now = to_z-of_z w8 c.tick_of-tick.result fits ∙ c.tick_of-tick.ensures in
    let within : c.loop-module.module-index < length c.args.modules.now = omega arith in
    let settings_in = λ (m : Module). settings_at c.args.directives.now m.location in
    let last : c.walk_to-walk.result.settings ≡ settings_in (get_or c.args.modules.now c.loop-module.module-index c.module-item.result)
    = c.walk_to-walk.ensures.settings ∙ settings_at-from c.args.directives.now c.module-item.result.location (to_z w8 (of_z w8 c.tick_of-tick.result)) tick ∙ ap settings_in c.module-item.is in
    record {
      behind = c.walk_to-walk.ensures.behind;
      list = c.in_ok-push.ensures.ok
          ∙ ap (λ (front : List Settings). front ++ c.walk_to-walk.result.settings ∷ []) c.loop-module.invariant.list
          ∙ ap (λ (s : Settings). map settings_in (take c.loop-module.module-index c.args.modules.now) ++ s ∷ []) last
          ∙ sym (ap (map settings_in) (take_more c.args.modules.now c.loop-module.module-index c.module-item.result within)
          ∙ map-append settings_in (take c.loop-module.module-index c.args.modules.now) (get_or c.args.modules.now c.loop-module.module-index c.module-item.result ∷ []));
    }
