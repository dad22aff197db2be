use Rattle.std.proofs.Common.{◌≡◌, ◌+◌, ◌*◌, ◌<◌, ◌^◌, length, drop, sym, subst, arith, ◌∙◌}
use Rattle.std.specs.Prelude.{All}
use Rattle.vector_text.specs.declared.vectors.VectorLine.{VectorLine}
use Rattle.vector_text.specs.declared.stimulus.StimulusWhat.TheVariants.{Strobe}
use Rattle.vector_text.proofs.ScheduleLemmas.{turns_none, turns_first, turns_range, turns_more, turns_long, turn_fits, turn_small}
use Rattle.vector_text.proofs.schedule.Schedule.push_turns.Goals as goal

pub returns-then-first-last : goal.returns-then-first-last
returns-then-first-last c =
    let last : c.len-last.result ≡ length c.args.self.now = c.len-last.ensures in
    turns_none c.args.self.now c.args.first c.args.count c.args.period (omega (arith, c.if-first-last.true))

pub loop-turn-init : goal.loop-turn-init
loop-turn-init c = c.in_ok-reserve_exact.ensures.items ∙ c.self.view_is ∙ turns_first c.args.self.now c.args.first c.args.period

pub overflow_mul-turn : goal.overflow_mul-turn
overflow_mul-turn c =
    let last : c.len-last.result ≡ length c.args.self.now = c.len-last.ensures in
    let small = turn_fits c.args.self.now c.args.first c.loop-turn.turn c.args.count c.args.period c.loop-turn-test.true (omega (arith, c.if-first-last.false, c.requires.within)) c.requires.times (record { line = 0; time = 0; what = Strobe }) in
    omega arith

pub push_turn-requires-clause-within : goal.push_turn-requires-clause-within
push_turn-requires-clause-within c =
    let last : c.len-last.result ≡ length c.args.self.now = c.len-last.ensures in
    let long = turns_long c.args.self.now c.loop-turn.self c.args.first c.args.period c.loop-turn.turn (omega (arith, c.loop-turn.auto.turn)) c.loop-turn.invariant in
    omega arith

pub push_turn-requires-clause-times : goal.push_turn-requires-clause-times
push_turn-requires-clause-times c =
    let last : c.len-last.result ≡ length c.args.self.now = c.len-last.ensures in
    let range = turns_range c.args.self.now c.loop-turn.self c.args.first c.len-last.result c.args.period c.loop-turn.turn last (omega (arith, c.requires.within)) (omega (arith, c.loop-turn.auto.turn)) c.loop-turn.invariant in
    subst (All (λ (line : VectorLine). line.time + c.loop-turn.turn * c.args.period + 1 < 2 ^ 64)) (sym range) (turn_small (drop c.args.first c.args.self.now) c.loop-turn.turn c.args.count c.args.period c.loop-turn-test.true c.requires.times)

pub loop-turn-preserved : goal.loop-turn-preserved
loop-turn-preserved c =
    let last : c.len-last.result ≡ length c.args.self.now = c.len-last.ensures in
    turns_more c.args.self.now c.loop-turn.self c.push_turn.new.self c.args.first c.len-last.result c.args.period c.loop-turn.turn last (omega (arith, c.requires.within)) (omega (arith, c.loop-turn.auto.turn)) c.loop-turn.invariant c.in_ok-push_turn.ensures
