use Rattle.first_vectors.specs.Reading.{stimulus_of}
use Rattle.first_vectors.proofs.Found.{answer_found, answer_lawful}
use Rattle.first_vectors.proofs.Again.{is_again, only_again}
use Rattle.first_vectors.proofs.reading.read_vectors.Goals as goal

pub returns-clause-found : goal.returns-clause-found
returns-clause-found c = answer_found c.args.netlist.now c.args.text.now c.stimulus_in.result c.stimulus_in.ensures

pub returns-clause-lawful : goal.returns-clause-lawful
returns-clause-lawful c = answer_lawful c.args.netlist.now c.args.text.now c.stimulus_in.result c.stimulus_in.ensures

pub returns-clause-only : goal.returns-clause-only
returns-clause-only c = λ stimulus is. only_again c.stimulus_in.result (stimulus_of c.args.netlist.now c.args.text.now) stimulus c.stimulus_in.ensures (is_again c.args.netlist.now c.args.text.now stimulus c.requires.sound c.requires.distinct is)
