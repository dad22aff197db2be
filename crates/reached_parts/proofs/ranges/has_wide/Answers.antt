use Rattle.std.proofs.Common.{◌≡◌, ◌||◌, Bool, false, List, map, ap, sym, ◌∙◌}
use Rattle.std.specs.List.{list_any}
use Rattle.v_tree.specs.declared.modules.Item.{Item}
use Rattle.netlist_meaning.specs.Limits.{header_ranges, is_wide, item_range}
use Rattle.reached_parts.proofs.PickLaws.{any-append, any-mapped}
use Rattle.reached_parts.proofs.ranges.has_wide.Goals as goal

pub returns-else-has_wide_header : goal.returns-else-has_wide_header
returns-else-has_wide_header c =
    let ranges = header_ranges c.args.module.now.ports in
    let none : list_any is_wide ranges ≡ false = sym c.has_wide_header.ensures ∙ c.if-has_wide_header.false in
    c.has_wide_item.ensures
    ∙ ap (λ (items : List Item). list_any (λ i. is_wide (item_range i)) items) c.as_slice.ensures
    ∙ sym (any-mapped is_wide item_range c.args.module.now.items)
    ∙ ap (λ (b : Bool). b || list_any is_wide (map item_range c.args.module.now.items)) (sym none)
    ∙ sym (any-append is_wide ranges (map item_range c.args.module.now.items))
