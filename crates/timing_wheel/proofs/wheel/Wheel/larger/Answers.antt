use Rattle.std.proofs.Common.{◌≡◌, ◌≢◌, ◌<◌, ◌≤◌, ℕ, get_or, length, sym, ap, ◌∙◌, arith}
use Rattle.std.specs.Ordering.{nat_cmp}
use Rattle.std.specs.FinMap.{FinMap, len, len-empty, insert}
use Rattle.std.proofs.lemmas.List.{get_or_default}
use Rattle.timing_wheel.specs.Times.{idle}
use Rattle.timing_wheel.specs.Wheel.{Pending}
use Rattle.timing_wheel.proofs.Live.{apart_of}
use Rattle.timing_wheel.proofs.Copied.{copies_none, copies_idle, copies_more, copies_all, put_counts}
use Rattle.timing_wheel.proofs.wheel.Wheel.larger.Goals as goal
use Rattle.timing_wheel.proofs.wheel.Wheel.larger.Goals.{then-time, else-time}

pub loop-slot-init : goal.loop-slot-init
loop-slot-init c =
    let s = c.self.inside in
    let none : len c.in_ok-copy.copy.times ≡ 0 = ap (λ (m : FinMap nat_cmp ℕ). len m) c.in_ok-copy.ensures.times ∙ len-empty nat_cmp ℕ in
    (omega (arith, none, c.in_ok-copy.ensures.spare), omega arith, copies_none s.keys.items s.schedule c.in_ok-copy.copy.times c.in_ok-copy.ensures.times)

pub loop-slot-preserved : goal.loop-slot-preserved
loop-slot-preserved c =
    let s = c.self.inside in
    let w = c.self.invariant in
    let so_far = c.loop-slot.invariant in
    elim c.if-time.branch [
      | then-time v ↦
          let slot = c.loop-slot.slot in
          let fits : slot < length s.keys.items = omega (arith, c.loop-slot-test.true, c.len-slot-end.ensures) in
          let key : v.index.result.now ≡ get_or s.keys.items slot 0 = v.index.ensures ∙ get_or_default s.keys.items slot _ 0 fits in
          let used : get_or s.schedule slot 0 ≢ idle = λ e. v.if-time.true (c.time-time.ensures ∙ e) in
          let room : 0 < c.loop-slot.copy.spare = omega (arith, so_far.0, so_far.1, c.max-slots.ensures, c.len.ensures) in
          let counts = put_counts c.loop-slot.copy.times v.index.result.now c.time-time.result c.loop-slot.copy.spare v.put.new.self.spare room v.put.ensures.spare in
          let longer : len v.put.new.self.times ≡ len (insert c.loop-slot.copy.times v.index.result.now c.time-time.result) = ap (λ (m : FinMap nat_cmp ℕ). len m) v.put.ensures.times in
          rw v.copy-is (
            omega (arith, longer, counts.0, so_far.0),
            omega (arith, longer, counts.1, so_far.1),
            copies_more s.keys.items s.schedule c.loop-slot.copy.times v.put.new.self.times slot (apart_of s.index s.keys.items s.schedule w.indexed) so_far.2 fits used
                (v.put.ensures.times ∙ ap (λ (k : ℕ). insert c.loop-slot.copy.times k c.time-time.result) key ∙ ap (insert c.loop-slot.copy.times (get_or s.keys.items slot 0)) c.time-time.ensures),
          )
      | else-time v ↦ rw v.copy-is (so_far.0, omega (arith, so_far.1), copies_idle s.keys.items s.schedule c.loop-slot.copy.times c.loop-slot.slot so_far.2 (sym c.time-time.ensures ∙ v.if-time.false))
    ]

same_times : (c : goal.After-loop-slot) → c.loop-slot.copy.times ≡ c.args.self.now.times
same_times c =
    let s = c.self.inside in
    let w = c.self.invariant in
    let whole : length s.keys.items ≤ c.loop-slot.slot = omega (arith, c.loop-slot-test.false, c.len-slot-end.ensures) in
    copies_all s.keys.items s.schedule c.loop-slot.copy.times c.loop-slot.slot w.size (apart_of s.index s.keys.items s.schedule w.indexed) c.loop-slot.invariant.2 whole
    ∙ ap (λ (p : Pending). p.times) c.self.view_is

pub returns-clause-times : goal.returns-clause-times
returns-clause-times c = same_times c

pub returns-clause-room : goal.returns-clause-room
returns-clause-room c =
    let same : len c.loop-slot.copy.times ≡ len c.args.self.now.times = ap (λ (m : FinMap nat_cmp ℕ). len m) (same_times c) in
    omega (arith, same, c.loop-slot.invariant.0, c.max-slots.ensures, c.used.ensures.most)
