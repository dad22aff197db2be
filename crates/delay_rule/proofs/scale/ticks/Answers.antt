use Rattle.std.proofs.Common.{◌≡◌, ℕ, ◌*◌, ◌^◌, min, ap, ◌∙◌, rules}
use Rattle.delay_rule.specs.Ticks.{delay_in_ticks, places, rounded_amount, ticks_of}
use Rattle.delay_rule.proofs.TickLemmas.{times-cap, delay-cap}
use Rattle.delay_rule.proofs.scale.ticks.Goals as goal

pub returns : goal.returns
returns c =
    let whole = c.args.whole.now in
    let fraction = c.args.fraction.now in
    let k : c.places.result ≡ places c.args.unit c.args.precision = search rules in
    let j : c.places-2.result ≡ places c.args.precision c.args.tick = search rules in
    c.delay.ensures
    ∙ ap delay_in_ticks
    (c.with_zeros.ensures
    ∙ ap (λ (x : ℕ). min (x * 10 ^ c.places-2.result) 2147483648) c.rounded_amount-amount.ensures
    ∙ times-cap 2147483648 (rounded_amount whole fraction c.places.result) (10 ^ c.places-2.result)
    ∙ ap (λ (x : ℕ). min (rounded_amount whole fraction x * 10 ^ c.places-2.result) 2147483648) k
    ∙ ap (λ (x : ℕ). min (rounded_amount whole fraction (places c.args.unit c.args.precision) * 10 ^ x) 2147483648) j)
    ∙ delay-cap (ticks_of whole fraction c.args.unit c.args.precision c.args.tick)
