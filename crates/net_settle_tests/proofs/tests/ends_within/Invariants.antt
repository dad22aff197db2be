use Rattle.std.proofs.Common.{◌<◌, ℕ, get_or}
use Rattle.net_settle.specs.declared.shape.Link.{Link}
use Rattle.net_settle_tests.proofs.tests.ends_within.Given as goal

abbrev pub invariant-loop-link : goal.invariant-loop-link
invariant-loop-link l =
    (k : ℕ) (d : Link) → k < l.link-index → ((get_or l.links k d).a < l.nets) × ((get_or l.links k d).b < l.nets)
