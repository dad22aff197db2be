use Rattle.std.proofs.Common.{◌≡◌, ◌+◌, ◌<◌, ◌^◌, ◌++◌, [], ◌∷◌, map, arith, ◌∙◌}
use Rattle.std.specs.Prelude.{slice_range}
use Rattle.vector_text.specs.declared.vectors.VectorLine.{VectorLine}
use Rattle.vector_text.specs.Written.{later_line}
use Rattle.vector_text.proofs.ScheduleLemmas.{range_small, turn_more}
use Rattle.vector_text.proofs.schedule.Schedule.push_turn.Goals as goal

pub later_line-requires : goal.later_line-requires
later_line-requires c =
    let more = map (later_line c.args.by) (slice_range c.args.self.now c.args.first c.loop-k.k) in
    let small = range_small (λ (line : VectorLine). line.time + c.args.by + 1 < 2 ^ 64) c.args.self.now c.self.inside.lines.items more c.args.first c.args.last c.loop-k.k c.index.result.now
    c.loop-k.auto.k c.loop-k-test.true c.requires.within (c.self.view_is ∙ c.loop-k.invariant) c.index.ensures c.requires.times in
    omega arith

pub push-requires : goal.push-requires
push-requires c =
    let more = map (later_line c.args.by) (slice_range c.args.self.now c.args.first c.loop-k.k) in
    let small = range_small (λ (line : VectorLine). line.time + c.args.by + 1 < 2 ^ 64) c.args.self.now c.self.inside.lines.items more c.args.first c.args.last c.loop-k.k c.index.result.now
    c.loop-k.auto.k c.loop-k-test.true c.requires.within (c.self.view_is ∙ c.loop-k.invariant) c.index.ensures c.requires.times in
    rw c.in_ok-line.ensures (omega arith)

pub loop-k-preserved : goal.loop-k-preserved
loop-k-preserved c =
    let next : c.push.new.self ≡ c.loop-k.self ++ c.in_ok-line.line ∷ [] = cc c.in_ok-push.ensures in
    turn_more c.args.self.now c.loop-k.self c.push.new.self c.self.inside.lines.items c.args.by c.args.first c.loop-k.k c.index.result.now c.in_ok-line.line
    c.loop-k.invariant next c.in_ok-line.ensures c.loop-k.auto.k (omega (arith, c.loop-k-test.true, c.requires.within)) c.self.view_is c.index.ensures
