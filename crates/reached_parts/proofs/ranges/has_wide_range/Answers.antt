use Rattle.std.proofs.Common.{false, get_or, refl, sym, ◌∙◌, arith}
use Rattle.netlist_meaning.specs.Limits.{has_wide}
use Rattle.reached_parts.proofs.PickLaws.{any-found, none-more}
use Rattle.reached_parts.proofs.ranges.has_wide_range.Goals as goal

pub returns-then-is_wide_if : goal.returns-then-is_wide_if
returns-then-is_wide_if c =
    sym (any-found has_wide c.args.reached.now c.args.modules.now c.loop-i.i false (get_or c.args.reached.now c.loop-i.i false) c.index-modules-i.result
    (omega (arith, c.loop-i-test.true, c.requires)) (omega (arith, c.loop-i-test.true)) refl c.index-modules-i.is (sym c.is_wide_if.ensures ∙ c.if-is_wide_if.true))

pub loop-i-preserved : goal.loop-i-preserved
loop-i-preserved c =
    none-more has_wide c.args.reached.now c.args.modules.now c.loop-i.i false (get_or c.args.reached.now c.loop-i.i false) c.index-modules-i.result
    (omega (arith, c.loop-i-test.true, c.requires)) (omega (arith, c.loop-i-test.true)) refl c.index-modules-i.is c.loop-i.invariant (sym c.is_wide_if.ensures ∙ c.if-is_wide_if.false)
