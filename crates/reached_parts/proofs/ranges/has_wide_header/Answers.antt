use Rattle.std.proofs.Common.{◌≡◌, ◌||◌, Bool, false, List, map, ap, sym, ◌∙◌}
use Rattle.std.specs.List.{list_any}
use Rattle.v_tree.specs.declared.modules.AnsiEntry.{AnsiEntry}
use Rattle.v_tree.specs.declared.modules.Ports.{Ports}
use Rattle.netlist_meaning.specs.Limits.{entry_range, header_ranges, is_wide}
use Rattle.reached_parts.proofs.PickLaws.{any-mapped}
use Rattle.reached_parts.proofs.ranges.has_wide_header.Goals as goal

pub returns-else-is_wide : goal.returns-else-is_wide
returns-else-is_wide c =
    let none : is_wide c.in-Ansi.first.range ≡ false = sym c.is_wide.ensures ∙ c.if-is_wide.false in
    c.has_wide_entry.ensures
    ∙ ap (λ (entries : List AnsiEntry). list_any (λ e. is_wide (entry_range e)) entries) c.as_slice.ensures
    ∙ sym (any-mapped is_wide entry_range c.in-Ansi.entries)
    ∙ ap (λ (b : Bool). b || list_any is_wide (map entry_range c.in-Ansi.entries)) (sym none)
    ∙ ap (λ (p : Ports). list_any is_wide (header_ranges p)) (sym c.in-Ansi.is)
