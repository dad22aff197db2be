-- The delays of items under the scale of their module.
use Rattle.std.proofs.Common.{◌≡◌, ℤ, ℕ, ◌+◌, ◌<◌, Bool, List, [], ◌∷◌, ◌++◌, length, get_or, take, map, Option, sym, ap, ◌∙◌}
use Rattle.std.specs.Prelude.{◌||◌}
use Rattle.std.specs.List.{list_any}
use Rattle.std.specs.Option.{is_none, option_map, option_map_or, unwrap_or}
use Rattle.delay_rule.specs.declared.delays.Delays.{Delays}
use Rattle.v_tree.specs.declared.directives.Directive.{Directive}
use Rattle.v_tree.specs.declared.modules.Item.{Item}
use Rattle.v_tree.specs.declared.modules.Module.{Module}
use Rattle.module_directives.specs.InForce.{settings_at}
use Rattle.module_directives.specs.Precisions.{tick_of}
use Rattle.module_directives.specs.declared.settings.Settings.{Settings}
use Rattle.chosen_delays.specs.declared.choice.Mtm.{Mtm}
use Rattle.chosen_delays.specs.declared.scale.DelayScale.{DelayScale}
use Rattle.chosen_delays.specs.Chosen.{delays_of}
use Rattle.chosen_delays.specs.Made.{delays_from, no_delays}
use Rattle.netlist_meaning.specs.Delays.{has_long, item_delay, module_delays}
use Rattle.item_delays.specs.Scaled.{has_long_item, scaled_delays, scaled_ticks}
use Rattle.item_delays.proofs.ListLaws.{any_more, is_none-map, map_more, unwrap_or-map}

-- ---- one item more

-- the delays of an item that has them, or else none
item_made : (choice : Mtm) (scale : DelayScale) (item : Item) (made : Option Delays) (none result : Delays) → made ≡ option_map delays_from (scaled_ticks choice scale item) →
    none ≡ no_delays → result ≡ unwrap_or made none → result ≡ scaled_delays choice scale item
item_made choice scale item made none result is e f =
    f ∙ ap (λ (o : Option Delays). unwrap_or o none) is ∙ ap (unwrap_or (option_map delays_from (scaled_ticks choice scale item))) e
    ∙ unwrap_or-map delays_from (scaled_ticks choice scale item) no_delays

pub delays_more : (choice : Mtm) (scale : DelayScale) (items : List Item) (i : ℕ) (item : Item) (made : Option Delays) (none result : Delays) (front next : List Delays) →
    i < length items → item ≡ get_or items i item → made ≡ option_map delays_from (scaled_ticks choice scale item) → none ≡ no_delays → result ≡ unwrap_or made none →
    front ≡ map (scaled_delays choice scale) (take i items) → next ≡ front ++ result ∷ [] → next ≡ map (scaled_delays choice scale) (take (i + 1) items)
delays_more choice scale items i item made none result front next lt at is e f g h =
    h ∙ ap (λ (xs : List Delays). xs ++ result ∷ []) g
    ∙ ap (λ (d : Delays). map (scaled_delays choice scale) (take i items) ++ d ∷ []) (item_made choice scale item made none result is e f)
    ∙ sym (map_more (scaled_delays choice scale) items i item lt at)

pub long_more : (choice : Mtm) (scale : DelayScale) (items : List Item) (i : ℕ) (item : Item) (made : Option Delays) →
    i < length items → item ≡ get_or items i item → made ≡ option_map delays_from (scaled_ticks choice scale item) →
    has_long_item choice scale (take (i + 1) items) ≡ (has_long_item choice scale (take i items) || is_none made)
long_more choice scale items i item made lt at is =
    any_more (λ (i : Item). is_none (scaled_ticks choice scale i)) items i item lt at
    ∙ ap (λ (b : Bool). has_long_item choice scale (take i items) || b) (sym (ap is_none is ∙ is_none-map delays_from (scaled_ticks choice scale item)))

-- ---- under the scale of a module

-- a scale is that of settings in a file with this tick
pub record IsUnder (tick : ℤ) (settings : Settings) (scale : DelayScale) : Type 0 where
  pub unit : scale.unit ≡ settings.unit
  pub precision : scale.precision ≡ settings.precision
  pub tick_is : scale.tick ≡ tick

ticks-under : (choice : Mtm) (directives : List Directive) (settings : Settings) (scale : DelayScale) (X : Type 0) (f : (Item → Option (List ℕ)) → X) → IsUnder (tick_of directives) settings scale →
    f (scaled_ticks choice scale) ≡ f (λ i. delays_of choice settings.unit settings.precision (tick_of directives) (item_delay i))
ticks-under choice directives settings scale X f under =
    let ticks : ℤ → ℤ → ℤ → X = λ u p t. f (λ i. delays_of choice u p t (item_delay i)) in
    ap (λ u. ticks u scale.precision scale.tick) under.unit
    ∙ ap (λ p. ticks settings.unit p scale.tick) under.precision
    ∙ ap (λ t. ticks settings.unit settings.precision t) under.tick_is

pub delays-under : (choice : Mtm) (directives : List Directive) (m : Module) (scale : DelayScale) → IsUnder (tick_of directives) (settings_at directives m.location) scale →
    map (scaled_delays choice scale) m.items ≡ module_delays choice directives m
delays-under choice directives m scale under =
    ticks-under choice directives (settings_at directives m.location) scale (List Delays) (λ ticks. map (λ i. option_map_or delays_from (ticks i) no_delays) m.items) under

pub long-under : (choice : Mtm) (directives : List Directive) (m : Module) (scale : DelayScale) → IsUnder (tick_of directives) (settings_at directives m.location) scale →
    has_long_item choice scale m.items ≡ has_long choice directives m
long-under choice directives m scale under =
    ticks-under choice directives (settings_at directives m.location) scale Bool (λ ticks. list_any (λ i. is_none (ticks i)) m.items) under
