use Rattle.std.proofs.Common.{◌∷◌, [], ◌++◌, ap, ◌∙◌}
use Rattle.flat_net.specs.declared.parts.Find.{Find}
use Rattle.flattening.specs.Spelled.{bit_find}
use Rattle.flattening.proofs.Ranges.{each_more}
use Rattle.flattening.proofs.finds.push_each_bit.Goals as goal

pub loop-place-preserved : goal.loop-place-preserved
loop-place-preserved c =
    let seen = c.loop-place.finds.items in
    each_more {A = Find} (bit_find c.args.at.now c.args.net.now) c.args.finds.now.items seen c.push.new.self.items c.loop-place.place
    c.loop-place.invariant (c.in_ok-push.ensures.items ∙ ap (λ (find : Find). seen ++ find ∷ []) c.in_ok-bit_find.ensures)
