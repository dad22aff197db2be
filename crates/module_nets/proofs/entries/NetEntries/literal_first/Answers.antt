use Rattle.std.proofs.Common.{ℕ, List, Option, sym, ap, ◌∙◌}
use Rattle.std.specs.List.{slice_get}
use Rattle.std.specs.Option.{option_flatten, unwrap_or}
use Rattle.netlist_plan.specs.Nets.{is_literal}
use Rattle.module_nets.proofs.Finding.{first_where-first_of}
use Rattle.module_nets.proofs.entries.NetEntries.literal_first.Goals as goal

pub returns : goal.returns
returns c =
    c.literal_first_at.ensures
    ∙ ap (λ (firsts : List (Option ℕ)). unwrap_or (option_flatten (slice_get firsts c.args.number)) 0) c.as_slice.ensures
    ∙ ap (λ (first : Option ℕ). unwrap_or first 0) (sym (c.requires.literals c.args.number))
    ∙ sym (first_where-first_of (is_literal c.args.number) c.args.self.now.nets)
