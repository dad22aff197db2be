use Rattle.std.proofs.Common.{◌≡◌, ℕ, List, Option, Some, None, sym, ap, ◌∙◌}
use Rattle.std.specs.List.{slice_get}
use Rattle.std.specs.Option.{unwrap_or}
use Rattle.name_table.specs.Names.{index_of}
use Rattle.module_graph.specs.Numbers.{number_at}
use Rattle.netlist_plan.specs.Nets.{is_named}
use Rattle.module_nets.proofs.Finding.{first_where-first_of}
use Rattle.module_nets.proofs.entries.NetEntries.name_first.Goals as goal

pub returns-in-Some : goal.returns-in-Some
returns-in-Some c =
    let self = c.args.self.now in
    let name = c.args.name.now in
    let found : index_of name self.names ≡ Some c.in-Some.index = sym c.find.ensures ∙ c.in-Some.is in
    c.first_at.ensures
    ∙ ap (λ (firsts : List ℕ). unwrap_or (slice_get firsts c.in-Some.index) 0) c.as_slice.ensures
    ∙ ap (λ (first : Option ℕ). unwrap_or first 0) (sym (c.requires.names name ∙ ap (number_at self.name_firsts) found))
    ∙ sym (first_where-first_of (is_named name) self.nets)

pub returns-in-None : goal.returns-in-None
returns-in-None c =
    let self = c.args.self.now in
    let name = c.args.name.now in
    let absent : index_of name self.names ≡ None = sym c.find.ensures ∙ c.in-None.is in
    ap (λ (first : Option ℕ). unwrap_or first 0) (sym (c.requires.names name ∙ ap (number_at self.name_firsts) absent))
    ∙ sym (first_where-first_of (is_named name) self.nets)
