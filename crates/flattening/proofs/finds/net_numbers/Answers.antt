use Rattle.std.proofs.Common.{◌+◌, ◌∷◌, [], ◌++◌, ℕ, slice_index_or, ap, ◌∙◌}
use Rattle.flattening.proofs.Ranges.{each_more}
use Rattle.flattening.proofs.finds.net_numbers.Goals as goal

pub loop-place-preserved : goal.loop-place-preserved
loop-place-preserved c =
    let seen = c.loop-place.nets.items in
    each_more {A = ℕ} (λ (place : ℕ). slice_index_or c.args.numbers.now (c.args.net.now.first + place) 0) [] seen c.push.new.self.items c.loop-place.place
    c.loop-place.invariant (c.in_ok-push.ensures.items ∙ ap (λ (number : ℕ). seen ++ number ∷ []) c.number_at.ensures)
