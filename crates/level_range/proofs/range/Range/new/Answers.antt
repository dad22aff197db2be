use Rattle.std.proofs.Common.{arith}
use Rattle.std.proofs.lemmas.Int.{ints}
use Rattle.level_range.proofs.Combination.{one-signal, no-signal}
use Rattle.level_range.proofs.range.Range.new.Goals as goal

pub returns-clause-alone : goal.returns-clause-alone
returns-clause-alone c = λ kind. one-signal kind _ (omega (arith, ints))

pub returns-clause-none : goal.returns-clause-none
returns-clause-none c = λ kind is. rw is (no-signal kind)
