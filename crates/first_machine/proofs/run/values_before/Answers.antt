use Rattle.std.proofs.Common.{◌≡◌, ◌-◌, ◌+◌, take, [], arith, sym, ap, ◌∙◌}
use Rattle.first_machine.specs.Run.{last_values}
use Rattle.first_machine.proofs.RunLemmas.{last_values-take}
use Rattle.first_machine.proofs.run.values_before.Goals as goal

pub returns-else-at-eq0 : goal.returns-else-at-eq0
returns-else-at-eq0 c =
    let at : c.args.at - 1 + 1 ≡ c.args.at = omega arith in
    c.as_slice.ensures
    ∙ sym (last_values-take [] c.args.lines.now (c.args.at - 1) c.index-lines-at.result (omega arith))
    ∙ ap (λ n. last_values [] (take n c.args.lines.now)) at
