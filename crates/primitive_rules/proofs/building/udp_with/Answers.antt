use Rattle.std.proofs.Common.{◌≡◌, ℕ, cond, ltb, subst}
use Rattle.std.specs.Prelude.{Result, Ok, Err, MatchResult, IfOk, IfErr, None, Some}
use Rattle.udp_table.specs.Primitive.{Primitive, primitive, IsAccepted}
use Rattle.udp_table.specs.Faults.{IsFault, IsRefusal}
use Rattle.udp_table.specs.declared.making.UdpFault.{UdpFault}
use Rattle.primitive_rules.specs.declared.arguments.UdpArguments.{UdpArguments}
use Rattle.primitive_rules.specs.Arguments.{primitive_of}
use Rattle.primitive_rules.specs.Refusals.{IsFaultOf, refusal_of}
use Rattle.primitive_rules.proofs.RefusalLaws.{refusal_none, refusal_some, accepted_fault, same_fault, same_primitive}
use Rattle.primitive_rules.proofs.building.udp_with.Goals as goal

module _ (a : UdpArguments) (m : ℕ) (is : m ≡ cond (ltb a.inputs 256) a.inputs 255) where
  kept_by : (r : Result Primitive UdpFault) → IfOk r (λ u. u ≡ primitive m a.sequential a.start a.rows) → IfOk r (λ u. IsAccepted u) → IfOk r (λ u. u ≡ primitive_of a)
  kept_by (Ok u) kept accepted = same_primitive a m is u kept accepted
  kept_by (Err f) kept accepted = tt

  fault_by : (r : Result Primitive UdpFault) → IfErr r (IsFault m a.sequential a.rows) → IfErr r (IsFaultOf a)
  fault_by (Ok u) fault = tt
  fault_by (Err f) fault = same_fault a.inputs m is a.sequential a.rows f fault

  refusal_by : (r : Result Primitive UdpFault) → IfOk r (λ u. u ≡ primitive m a.sequential a.start a.rows) → IfOk r (λ u. IsAccepted u) → IfErr r (IsFault m a.sequential a.rows) →
      MatchResult r (λ u. refusal_of a ≡ None) (λ f. IsRefusal f → refusal_of a ≡ Some f)
  refusal_by (Ok u) kept accepted fault = refusal_none a (accepted_fault a (subst IsAccepted (same_primitive a m is u kept accepted) accepted))
  refusal_by (Err f) kept accepted fault = λ refuses. refusal_some a f refuses (same_fault a.inputs m is a.sequential a.rows f fault)

pub returns-clause-kept : goal.returns-clause-kept
returns-clause-kept c = kept_by c.args.arguments.now c.input_count.result c.input_count.ensures c.build.result c.build.ensures.kept c.build.ensures.accepted

pub returns-clause-fault : goal.returns-clause-fault
returns-clause-fault c = fault_by c.args.arguments.now c.input_count.result c.input_count.ensures c.build.result c.build.ensures.fault

pub returns-clause-refusal : goal.returns-clause-refusal
returns-clause-refusal c =
    refusal_by c.args.arguments.now c.input_count.result c.input_count.ensures c.build.result c.build.ensures.kept c.build.ensures.accepted c.build.ensures.fault
