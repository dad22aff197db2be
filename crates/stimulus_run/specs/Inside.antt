-- For the code and its proofs alone: the fields of the run of a stimulus, and how far it has come by them.
use Rattle.std.specs.Prelude.{◌≡◌, ◌≤◌, ◌^◌, ◌-◌, length}
use Rattle.vector_text.specs.Lawful.{IsLawful}
use Rattle.stimulus_run.specs.Lines.{AreForcedByLines, IsAhead, IsBehind}
use Rattle.stimulus_run.specs.Progress.{Progress}
use Rattle.stimulus_run.specs.declared.run.StimulusRun.TheInside.{Inside}

abbrev pub progress_of : Inside → Progress
progress_of r = record {
  netlist = r.run.netlist;
  limit = r.run.limit;
  stimulus = r.stimulus.now;
  machine = r.run.machine;
  ended = r.ended;
  next = r.next;
}

pub record IsProgress (r : Inside) : Type 0 where
  pub netlist : r.run.netlist ≡ r.flat.now
  pub lawful : IsLawful r.flat.now.parts r.stimulus.now
  pub some : 1 ≤ r.run.limit
  pub few : r.run.limit ≤ 2 ^ 32 - 1
  pub inputs : length r.inputs.items ≡ length r.flat.now.parts.inputs
  pub nets : length r.forced.items ≡ length r.flat.now.parts.nets
  pub forced : AreForcedByLines r.stimulus.now r.line r.forced.items
  pub ahead : IsAhead r.stimulus.now r.line r.next
  pub behind : IsBehind r.stimulus.now r.line r.ended
