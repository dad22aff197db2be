use Rattle.std.proofs.Common.{◌≡◌, pos, ap, sym, subst, ◌∙◌, arith}
use Rattle.std.specs.Prelude.{MatchBool, ◌≢◌}
use Rattle.std.proofs.lemmas.List.{get_or_default}
use Rattle.net_settle.specs.Bounds.{at, carried_bound}
use Rattle.net_settle.specs.ByLevels.{take_level}
use Rattle.net_settle.proofs.Taking.{link-spreads, link-moves_there, link-moves_back}
use Rattle.net_settle.proofs.spread.take_carried.Goals as goal
use Rattle.net_settle.proofs.spread.take_carried.Goals.{Then-there, Else-there}

there-Then-there : (c : Then-there) → c.take-there.new.bounds ≡ take_level c.args.level c.args.link.b (carried_bound c.args.side c.args.link c.args.conduct (at c.args.bounds.now c.args.link.a)) c.args.bounds.now
there-Then-there c =
    c.take-there.ensures.bounds
    ∙ ap (λ u. take_level c.args.level c.args.link.b u c.args.bounds.now)
    (c.carried_bound-comes.ensures ∙ ap (carried_bound c.args.side c.args.link c.args.conduct)
    (c.index-bounds-a.is ∙ get_or_default c.args.bounds.now c.args.link.a c.index-bounds-a.result (pos 0) c.requires.first))

back-Then-there : (c : Then-there) → c.take-back.new.bounds ≡ take_level c.args.level c.args.link.a (carried_bound c.args.side c.args.link c.args.conduct (at c.take-there.new.bounds c.args.link.b)) c.take-there.new.bounds
back-Then-there c =
    c.take-back.ensures.bounds
    ∙ ap (λ u. take_level c.args.level c.args.link.a u c.take-there.new.bounds)
    (c.carried_bound-comes_back.ensures ∙ ap (carried_bound c.args.side c.args.link c.args.conduct)
    (c.index-bounds-b.is ∙ get_or_default c.take-there.new.bounds c.args.link.b c.index-bounds-b.result (pos 0) (let h = c.take-there.auto.bounds in let k = c.requires.second in omega arith)))

comes-Then-there : (c : Then-there) → c.carried_bound-comes.result ≡ carried_bound c.args.side c.args.link c.args.conduct (at c.args.bounds.now c.args.link.a)
comes-Then-there c = c.carried_bound-comes.ensures ∙ ap (carried_bound c.args.side c.args.link c.args.conduct)
    (c.index-bounds-a.is ∙ get_or_default c.args.bounds.now c.args.link.a c.index-bounds-a.result (pos 0) c.requires.first)

there-Else-there : (c : Else-there) → c.take-there.new.bounds ≡ take_level c.args.level c.args.link.b (carried_bound c.args.side c.args.link c.args.conduct (at c.args.bounds.now c.args.link.a)) c.args.bounds.now
there-Else-there c =
    c.take-there.ensures.bounds
    ∙ ap (λ u. take_level c.args.level c.args.link.b u c.args.bounds.now)
    (c.carried_bound-comes.ensures ∙ ap (carried_bound c.args.side c.args.link c.args.conduct)
    (c.index-bounds-a.is ∙ get_or_default c.args.bounds.now c.args.link.a c.index-bounds-a.result (pos 0) c.requires.first))

back-Else-there : (c : Else-there) → c.take-back.new.bounds ≡ take_level c.args.level c.args.link.a (carried_bound c.args.side c.args.link c.args.conduct (at c.take-there.new.bounds c.args.link.b)) c.take-there.new.bounds
back-Else-there c =
    c.take-back.ensures.bounds
    ∙ ap (λ u. take_level c.args.level c.args.link.a u c.take-there.new.bounds)
    (c.carried_bound-comes_back.ensures ∙ ap (carried_bound c.args.side c.args.link c.args.conduct)
    (c.index-bounds-b.is ∙ get_or_default c.take-there.new.bounds c.args.link.b c.index-bounds-b.result (pos 0) (let h = c.take-there.auto.bounds in let k = c.requires.second in omega arith)))

comes-Else-there : (c : Else-there) → c.carried_bound-comes.result ≡ carried_bound c.args.side c.args.link c.args.conduct (at c.args.bounds.now c.args.link.a)
comes-Else-there c = c.carried_bound-comes.ensures ∙ ap (carried_bound c.args.side c.args.link c.args.conduct)
    (c.index-bounds-a.is ∙ get_or_default c.args.bounds.now c.args.link.a c.index-bounds-a.result (pos 0) c.requires.first)

comes_back : (c : Else-there) → c.carried_bound-comes_back.result ≡ carried_bound c.args.side c.args.link c.args.conduct (at c.take-there.new.bounds c.args.link.b)
comes_back c = c.carried_bound-comes_back.ensures ∙ ap (carried_bound c.args.side c.args.link c.args.conduct)
    (c.index-bounds-b.is ∙ get_or_default c.take-there.new.bounds c.args.link.b c.index-bounds-b.result (pos 0) (let h = c.take-there.auto.bounds in let k = c.requires.second in omega arith))

pub returns-then-there-clause-spreads : goal.returns-then-there-clause-spreads
returns-then-there-clause-spreads c =
    link-spreads c.args.side c.args.level c.args.link c.args.conduct c.args.bounds.now c.take-there.new.bounds c.take-back.new.bounds
    c.requires.some c.requires.first c.requires.second (there-Then-there c) (back-Then-there c)

pub returns-then-there-clause-moves : goal.returns-then-there-clause-moves
returns-then-there-clause-moves c =
    let h = c.if-there.ensures in
    rw c.if-there.true (link-moves_there c.args.side c.args.level c.args.link c.args.conduct c.args.bounds.now c.take-there.new.bounds c.take-back.new.bounds
    c.requires.some c.requires.first c.requires.second (there-Then-there c) (back-Then-there c)
    (h.given.0, sym (comes-Then-there c) ∙ h.given.1))

pub returns-else-there-clause-spreads : goal.returns-else-there-clause-spreads
returns-else-there-clause-spreads c =
    link-spreads c.args.side c.args.level c.args.link c.args.conduct c.args.bounds.now c.take-there.new.bounds c.take-back.new.bounds
    c.requires.some c.requires.first c.requires.second (there-Else-there c) (back-Else-there c)

pub returns-else-there-clause-moves : goal.returns-else-there-clause-moves
returns-else-there-clause-moves c =
    let h = c.if-there.ensures in
    link-moves_back c.args.side c.args.level c.args.link c.args.conduct c.args.bounds.now c.take-there.new.bounds c.take-back.new.bounds
    c.requires.some c.requires.first c.requires.second (there-Else-there c) (back-Else-there c) c.take-back.result
    (subst (λ u. at c.args.bounds.now c.args.link.b ≡ pos 0 → u ≢ c.args.level) (comes-Else-there c) h.given)
    (subst (λ u. MatchBool c.take-back.result ((at c.take-there.new.bounds c.args.link.a ≡ pos 0) × (u ≡ c.args.level))
    (at c.take-there.new.bounds c.args.link.a ≡ pos 0 → u ≢ c.args.level)) (comes_back c) c.take-back.ensures.given)
