use Rattle.vector_text.proofs.BindingLemmas.{HasBound}
use Rattle.vector_text.proofs.binding.bound_lines.Given as goal

abbrev pub invariant-loop-line : goal.invariant-loop-line
invariant-loop-line l = HasBound l.inputs l.outputs l.line-index l.lines l.bound.items
