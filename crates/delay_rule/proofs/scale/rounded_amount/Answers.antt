use Rattle.std.proofs.Common.{ℕ, ◌+◌, ◌-◌, ◌*◌, ◌^◌, min, length, take, ap, ◌∙◌}
use Rattle.delay_rule.specs.Ticks.{number_after}
use Rattle.delay_rule.proofs.TickLemmas.{rounded_amount-cap}
use Rattle.delay_rule.proofs.scale.rounded_amount.Goals as goal

pub returns : goal.returns
returns c =
    let whole = c.args.whole.now in
    let fraction = c.args.fraction.now in
    let k = c.args.k in
    c.cap.ensures
    ∙ ap (λ (x : ℕ). min (x + c.half_up.result) 2147483648)
    (c.with_zeros.ensures
    ∙ ap (λ (x : ℕ). min (x * 10 ^ (k - c.min-written.result)) 2147483648)
    (c.with_digits-amount.ensures ∙ ap (λ (n : ℕ). min (number_after n (take c.min-written.result fraction)) 2147483648) c.with_digits.ensures)
    ∙ ap (λ (m : ℕ). min (min (number_after (min (number_after 0 whole) 2147483648) (take m fraction)) 2147483648 * 10 ^ (k - m)) 2147483648) c.min-written.ensures)
    ∙ ap (λ (h : ℕ). min (min (min (number_after (min (number_after 0 whole) 2147483648) (take (min (length fraction) k) fraction)) 2147483648 * 10 ^ (k - min (length fraction) k)) 2147483648 + h) 2147483648) c.half_up.ensures
    ∙ rounded_amount-cap 2147483648 whole fraction k
