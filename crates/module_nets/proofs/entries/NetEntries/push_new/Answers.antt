use Rattle.std.proofs.Common.{◌≡◌, ℕ, ◌+◌, List, [], ◌++◌, ◌∷◌, refl, ap, ◌∙◌}
use Rattle.module_graph.proofs.NumberLaws.{added_name}
use Rattle.netlist_plan.specs.declared.nets.NetSource.TheVariants.{Named}
use Rattle.netlist_plan.specs.Nets.{source_width}
use Rattle.module_nets.specs.declared.entries.NetEntries.{NetEntries}
use Rattle.module_nets.proofs.Finding.{net_at}
use Rattle.module_nets.proofs.Gaining.{HasGained-new}
use Rattle.module_nets.proofs.entries.NetEntries.push_new.Goals as goal

pub returns : goal.returns
returns c =
    let old = c.args.self.now in
    let name = c.args.name.now in
    let new : NetEntries = record { nets = c.push-2.new.self; names = c.add.new.self; name_firsts = c.push.new.self; literal_firsts = old.literal_firsts; bits = c.in_ok-bits.bits } in
    let nets : new.nets ≡ old.nets ++ net_at (Named name) old.bits ∷ [] =
    c.in_ok-push-2.ensures.ok
    ∙ ap (λ (text : List ℕ). old.nets ++ net_at (Named text) old.bits ∷ []) (c.from_vec-owned.ensures ∙ c.in_ok-from_slice.ensures.items) in
    let names : new.names ≡ old.names ++ name ∷ [] =
    added_name name old.names new.names c.in_ok-add.field-0 c.requires.new c.in_ok-add.ensures.new c.in_ok-add.ensures.names in
    let bits : new.bits ≡ old.bits + source_width c.args.scope.now (Named name) = c.in_ok-bits.ensures ∙ ap (λ (width : ℕ). old.bits + width) c.name_width.ensures in
    HasGained-new c.args.scope.now old c.requires.nets new name c.requires.new nets names c.in_ok-push.ensures.ok refl bits
