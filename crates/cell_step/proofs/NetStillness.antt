-- A net that settles again to the same signals with the same charge stays as it is.
use Rattle.std.proofs.Common.{◌≡◌, ℕ, ◌+◌, Bool, true, false, cond, refl, ap, sym, ◌∙◌}
use Rattle.std.specs.Prelude.{Option, None, nat_eq}
use Rattle.level_range.specs.Signal.{Signal, undriven, reads}
use Rattle.delay_rule.specs.declared.inertia.Pending.{Pending}
use Rattle.delay_rule.specs.Delay.{delay_list}
use Rattle.delay_rule.specs.Inertia.{pending_after, same_signal}
use Rattle.delay_rule.proofs.InertiaLemmas.{IsEquality-same_signal}
use Rattle.flat_net.specs.declared.parts.NetPart.{NetPart}
use Rattle.cell_step.specs.declared.states.Timer.{Timer}
use Rattle.cell_step.specs.declared.states.Timer.TheVariants.{Idle, Running, Ended}
use Rattle.cell_step.specs.declared.states.NetState.{NetState}
use Rattle.cell_step.specs.Nets.{net_delay, decay_time, start_timer, next_timer, next_net}
use Rattle.cell_step.proofs.Aiming.{pending_after-again}

start_timer-again : (time now later : ℕ) (timer : Timer) → start_timer time later (start_timer time now timer) ≡ start_timer time now timer
start_timer-again time now later (Running at) = refl
start_timer-again time now later Ended = refl
start_timer-again time now later Idle = by_test (nat_eq time 0) refl
  where
    by_test : (b : Bool) → nat_eq time 0 ≡ b → start_timer time later (cond b Idle (Running (now + time))) ≡ cond b Idle (Running (now + time))
    by_test true e = rw e refl
    by_test false e = refl

next_timer-again : (part : NetPart) (now later : ℕ) (driven : Signal) (timer : Timer) →
    next_timer part later driven (next_timer part now driven timer) ≡ next_timer part now driven timer
next_timer-again part now later driven timer = by_test (decay_time part.kind (delay_list part.delays)) (same_signal driven undriven)
  where
    by_test : (time : ℕ) (b : Bool) → cond b (start_timer time later (cond b (start_timer time now timer) Idle)) Idle ≡ cond b (start_timer time now timer) Idle
    by_test time true = start_timer-again time now later timer
    by_test time false = refl

seen-again : (at_once : Bool) (signal seen : Signal) → cond at_once signal (cond at_once signal seen) ≡ cond at_once signal seen
seen-again true signal seen = refl
seen-again false signal seen = refl

due-again : (at_once : Bool) (signal seen : Signal) (due : Option (Pending Signal)) (tick later : ℕ) →
    cond at_once None (pending_after same_signal (cond at_once signal seen) (cond at_once None (pending_after same_signal seen due signal tick)) signal later)
    ≡ cond at_once None (pending_after same_signal seen due signal tick)
due-again true signal seen due tick later = refl
due-again false signal seen due tick later = pending_after-again same_signal IsEquality-same_signal seen due signal tick later

net-of : (settled charge a b : Signal) (p q : Option (Pending Signal)) (t u : Timer) → a ≡ b → p ≡ q → t ≡ u →
    (let x : NetState = record { settled = settled; seen = a; due = p; charge = charge; timer = t } in x)
    ≡ record { settled = settled; seen = b; due = q; charge = charge; timer = u }
net-of settled charge a b p q t u e f g = cc

pub next_net-again : (part : NetPart) (now later : ℕ) (driven signal charge : Signal) (s : NetState) →
    next_net part later driven signal charge (next_net part now driven signal charge s) ≡ next_net part now driven signal charge s
next_net-again part now later driven signal charge s =
    let at_once = nat_eq part.delays.count 0 in
    net-of signal charge _ _ _ _ _ _ (seen-again at_once signal s.seen)
    (due-again at_once signal s.seen s.due (now + net_delay part (reads signal)) (later + net_delay part (reads signal)))
    (next_timer-again part now later driven s.timer)
