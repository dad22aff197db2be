use Rattle.std.proofs.Common.{◌≡◌, ◌<◌, ◌∙◌, ◌++◌, ◌∷◌, [], Bool, false, ℕ, ℤ, pos, List, None, map, length, get_or, take, ap, sym, rules, arith, w8, to_z, of_z}
use Rattle.std.specs.Prelude.{FitsSigned, ◌||◌, ◌&&◌}
use Rattle.std.specs.List.{items_where_true, list_any}
use Rattle.std.proofs.lemmas.Int.{to_z-of_z}
use Rattle.std.proofs.lemmas.List.{get_or-map}
use Rattle.delay_rule.specs.declared.delays.Delays.{Delays}
use Rattle.v_tree.specs.declared.directives.Directive.{Directive}
use Rattle.v_tree.specs.declared.modules.Item.{Item}
use Rattle.v_tree.specs.declared.modules.Module.{Module}
use Rattle.module_directives.specs.InForce.{settings_at}
use Rattle.module_directives.specs.Precisions.{tick_of}
use Rattle.module_directives.specs.declared.settings.Settings.{Settings}
use Rattle.netlist_meaning.specs.Delays.{has_long, module_delays}
use Rattle.item_delays.specs.Scaled.{has_long_item, scaled_delays}
use Rattle.item_delays.proofs.ListLaws.{map_more}
use Rattle.item_delays.proofs.ReachedLaws.{any_marked-more}
use Rattle.item_delays.proofs.ScaledLaws.{IsUnder, delays-under, long-under}
use Rattle.item_delays.proofs.SettingsLaws.{file_scaled}
use Rattle.item_delays.proofs.delays.item_delays.Goals as goal

-- what is read past the end
abbrev plain : Settings
plain = record { unit = pos 0; precision = pos 0; implicit_type = None }

-- what is in force at a module is at its index
settings-at : (ds : List Directive) (settings : List Settings) (modules seen : List Module) (i : ℕ) (m : Module) → settings ≡ map (λ m. settings_at ds m.location) modules →
    seen ≡ modules → i < length seen → m ≡ get_or seen i m → get_or settings i plain ≡ settings_at ds m.location
settings-at ds settings modules seen i m all same lt is =
    let at : Module → Settings = λ m. settings_at ds m.location in
    ap (λ (list : List Settings). get_or list i plain) (all ∙ ap (map at) (sym same))
    ∙ get_or-map at seen i m plain lt
    ∙ ap at (sym is)

tick-at : (ds seen : List Directive) (tick : ℤ) → FitsSigned w8 tick → tick ≡ tick_of seen → seen ≡ ds → to_z w8 (of_z w8 tick) ≡ tick_of ds
tick-at ds seen tick fits is same = to_z-of_z w8 tick fits ∙ is ∙ ap tick_of same

pub scale_under-scale-requires : goal.scale_under-scale-requires
scale_under-scale-requires c =
    let ds = c.args.file.now.directives in
    let m = c.index-modules-i.result in
    let fits : FitsSigned w8 c.tick_of-tick.result = search rules in
    let tick = tick-at ds c.as_slice.result.now c.tick_of-tick.result fits c.tick_of-tick.ensures c.as_slice.ensures in
    let settings = settings-at ds c.args.settings.now c.args.file.now.modules c.as_slice-modules.result.now c.loop-i.i m c.requires.settings c.as_slice-modules.ensures c.loop-i-test.true c.index-modules-i.is in
    rw (tick, settings) (file_scaled c.args.file.now m.location c.requires.precisions)

pub loop-i-preserved : goal.loop-i-preserved
loop-i-preserved c =
    let ds = c.args.file.now.directives in
    let choice = c.args.choice in
    let modules = c.as_slice-modules.result.now in
    let reached = c.args.reached.now in
    let i = c.loop-i.i in
    let m = c.index-modules-i.result in
    let scale = c.scale_under-scale.result in
    let fits : FitsSigned w8 c.tick_of-tick.result = search rules in
    let tick = tick-at ds c.as_slice.result.now c.tick_of-tick.result fits c.tick_of-tick.ensures c.as_slice.ensures in
    let settings = settings-at ds c.args.settings.now c.args.file.now.modules modules i m c.requires.settings c.as_slice-modules.ensures c.loop-i-test.true c.index-modules-i.is in
    let under : IsUnder (tick_of ds) (settings_at ds m.location) scale = record {
      unit = c.scale_under-scale.ensures.unit ∙ ap (λ (s : Settings). s.unit) settings;
      precision = c.scale_under-scale.ensures.precision ∙ ap (λ (s : Settings). s.precision) settings;
      tick_is = c.scale_under-scale.ensures.tick ∙ tick;
    } in
    let has = c.in_ok-delays.has_long in
    let marked = get_or reached i false in
    let before = list_any (has_long choice ds) (items_where_true (take i reached) (take i modules)) in
    let all : length modules ≡ length c.args.file.now.modules = ap length c.as_slice-modules.ensures in
    let few : i < length reached = omega arith in
    record {
      delays = c.in_ok-push.ensures.ok
          ∙ ap (λ (lists : List (List Delays)). lists ++ c.in_ok-delays.delays ∷ []) c.loop-i.invariant.delays
          ∙ ap (λ (list : List Delays). map (module_delays choice ds) (take i modules) ++ list ∷ [])
          (c.in_ok-delays.ensures.delays ∙ ap (λ (items : List Item). map (scaled_delays choice scale) items) c.as_slice-in-loop-i.ensures ∙ delays-under choice ds m scale under)
          ∙ sym (map_more (module_delays choice ds) modules i m c.loop-i-test.true c.index-modules-i.is);
      is_long = c.with_module-is_long.ensures
          ∙ ap (λ (b : Bool). b || (marked && has)) c.loop-i.invariant.is_long
          ∙ ap (λ (b : Bool). before || (marked && b))
          (c.in_ok-delays.ensures.is_long ∙ ap (λ (items : List Item). has_long_item choice scale items) c.as_slice-in-loop-i.ensures ∙ long-under choice ds m scale under
          ∙ ap (λ (n : Module). has_long choice ds n) c.index-modules-i.is)
          ∙ sym (any_marked-more (has_long choice ds) reached modules i false m few c.loop-i-test.true);
    }
