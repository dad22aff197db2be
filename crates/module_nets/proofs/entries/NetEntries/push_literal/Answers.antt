use Rattle.std.proofs.Common.{◌≡◌, ℕ, ◌+◌, List, [], ◌++◌, ◌∷◌, length, refl, ap, ◌∙◌}
use Rattle.v_lexer.specs.declared.literals.Bit.{Bit}
use Rattle.netlist_plan.specs.declared.nets.NetSource.TheVariants.{Literal}
use Rattle.module_nets.specs.declared.entries.NetEntries.{NetEntries}
use Rattle.module_nets.proofs.Finding.{net_at}
use Rattle.module_nets.proofs.Gaining.{HasGained-literal}
use Rattle.module_nets.proofs.entries.NetEntries.push_literal.Goals as goal

pub returns : goal.returns
returns c = λ scope.
    let old = c.args.self.now in
    let literal = c.args.bits.now in
    let new : NetEntries = record { nets = c.push-2.new.self; names = old.names; name_firsts = old.name_firsts; literal_firsts = c.push.new.self; bits = c.in_ok-sum.sum } in
    let number : c.len-number.result ≡ length old.literal_firsts = c.len-number.ensures in
    let nets : new.nets ≡ old.nets ++ net_at (Literal (length old.literal_firsts) literal) old.bits ∷ [] =
    c.in_ok-push-2.ensures.ok
    ∙ ap (λ (n : ℕ). old.nets ++ net_at (Literal n c.in_ok-owned.owned) old.bits ∷ []) number
    ∙ ap (λ (bits : List Bit). old.nets ++ net_at (Literal (length old.literal_firsts) bits) old.bits ∷ []) c.in_ok-owned.ensures in
    let bits : new.bits ≡ old.bits + length literal = c.in_ok-sum.ensures ∙ ap (λ (bits : List Bit). old.bits + length bits) c.as_slice.ensures in
    HasGained-literal scope old c.requires new literal nets refl refl c.in_ok-push.ensures.ok bits
