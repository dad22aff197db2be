-- Only the entry at the rank can have the fault.
use Rattle.std.proofs.Common.{◌^◌, length, sym, ◌∙◌}
use Rattle.std.proofs.lemmas.Bool.{le-ltb}
use Rattle.divergence_list.proofs.Rising.{is_some-at_rank, is_some-past_end}
use Rattle.divergence_list.proofs.order.has_fault.Goals as goal

pub returns-then-place-entries : goal.returns-then-place-entries
returns-then-place-entries g c =
    let es = c.args.entries.now in
    rw c.requires.place (is_some-at_rank 0 (2 ^ 32) es c.args.fault _ c.requires.sound (rw (← c.requires.place) c.if-place-entries.true))

pub returns-else-place-entries : goal.returns-else-place-entries
returns-else-place-entries g c =
    let es = c.args.entries.now in
    le-ltb c.args.place (length es) c.if-place-entries.false
    ∙ sym (is_some-past_end 0 (2 ^ 32) es c.args.fault c.requires.sound (rw (← c.requires.place) c.if-place-entries.false))
