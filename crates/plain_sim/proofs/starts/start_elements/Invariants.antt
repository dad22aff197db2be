use Rattle.std.proofs.Common.{◌≡◌}
use Rattle.std.specs.Prelude.{map}
use Rattle.std.specs.List.{range_with_len}
use Rattle.flat_net.specs.declared.kinds.Cell.TheVariants.{Element as ElementCell}
use Rattle.machine.specs.Machine.{cell_start}
use Rattle.plain_sim.specs.Lists.{FitEach}
use Rattle.plain_sim.proofs.starts.start_elements.Given as goal

-- the elements before this one
abbrev pub invariant-loop-number : goal.invariant-loop-number
invariant-loop-number l = record {
  states : l.states.items ≡ map (λ number. cell_start l.flat (ElementCell number)) (range_with_len 0 l.number);
  fits : FitEach l.flat.parts ElementCell l.number l.states.items;
}
