-- What a report says, and what a refusal makes of it.
use Rattle.std.specs.Prelude.{◌≡◌, ℕ, List}
use Rattle.cfsim.specs.declared.refusal.Refusal.{Refusal}
use Rattle.cfsim.specs.declared.refusal.Refusal.TheVariants.{Memory, Read, TooLong, Faulty, Unbuilt}
use Rattle.cfsim.specs.declared.report.Report.{Report}
use Rattle.cfsim.specs.Answer.{Answer, answer_of_refusal}

abbrev pub answer_of : Report → Answer
answer_of r = record { status = r.status; out = r.out; err = r.err }

-- the answer is that of the refusal; for want of memory there is none
abbrev pub IsAnswerTo : Refusal → ℕ → List ℕ → Answer → Type 0
IsAnswerTo Memory status name a = ⊥
IsAnswerTo Read status name a = a ≡ answer_of_refusal Read status name
IsAnswerTo TooLong status name a = a ≡ answer_of_refusal TooLong status name
IsAnswerTo (Faulty fault line) status name a = a ≡ answer_of_refusal (Faulty fault line) status name
IsAnswerTo Unbuilt status name a = a ≡ answer_of_refusal Unbuilt status name
