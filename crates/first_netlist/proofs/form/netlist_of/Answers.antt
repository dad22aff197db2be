use Rattle.first_netlist.specs.Declarations.{module_view}
use Rattle.first_netlist.proofs.Sounds.{result_sound, result_distinct}
use Rattle.first_netlist.proofs.form.netlist_of.Goals as goal

pub returns-clause-sound : goal.returns-clause-sound
returns-clause-sound c = result_sound (module_view c.in_ok-module.module) c.meaning.result c.meaning.ensures

pub returns-clause-distinct : goal.returns-clause-distinct
returns-clause-distinct c = result_distinct (module_view c.in_ok-module.module) c.meaning.result c.meaning.ensures
