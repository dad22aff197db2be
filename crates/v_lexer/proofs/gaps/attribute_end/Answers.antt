use Rattle.std.proofs.Common.{rules, ◌≡◌, ◌<◌, ◌+◌, length, sym, ap, ◌∙◌, arith, length-drop}
use Rattle.v_lexer.specs.Gaps.{quoted_after}
use Rattle.v_lexer.proofs.Lengths.{attribute_goes_on}
use Rattle.v_lexer.proofs.Strays.{quoted_kept, stray_goes_on}
use Rattle.v_lexer.proofs.gaps.attribute_end.Goals as goal

pub loop-rest-preserved : goal.loop-rest-preserved
loop-rest-preserved c =
    let some : 0 < length c.loop-rest.rest.now = search rules in
    let q : c.skip_len-inside.result ≡ quoted_after c.loop-rest.rest.now = quoted_kept c.loop-rest.stray c.loop-rest.rest.now c.skip_len-inside.result c.skip_len-inside.ensures.len c.loop-rest.invariant.strays in
    record {
      so_far = attribute_goes_on c.loop-rest.len c.skip_len-inside.result c.args.text.now c.loop-rest.rest.now c.after-rest.result.now q c.after-rest.ensures some (sym c.begins.ensures.begins ∙ c.if-begins.false) c.loop-rest.invariant.so_far;
      offset = omega (arith, ap length c.after-rest.ensures, length-drop (1 + c.skip_len-inside.result) c.loop-rest.rest.now, c.loop-rest.invariant.offset, c.skip_len-inside.ensures.within);
      strays = stray_goes_on c.loop-rest.stray c.stays_stray-stray.result c.loop-rest.rest.now c.after-rest.result.now c.skip_len-inside.result c.first.result c.skip_len-inside.ensures.len c.first.ensures c.after-rest.ensures c.stays_stray-stray.ensures c.loop-rest.invariant.strays;
    }
