use Rattle.std.proofs.Common.{ℕ, List, sym, ap}
use Rattle.std.specs.Prelude.{slice_get}
use Rattle.vector_text.proofs.BindingLemmas.{unknown_name}
use Rattle.vector_text.proofs.inputs.bit_of.Goals as goal

pub returns-in-Err : goal.returns-in-Err
returns-in-Err c = sym (ap (λ (nets : List ℕ). slice_get nets c.args.at) (unknown_name c.args.flat.now.parts.finds c.args.name.now c.requires.names.find_names.ascii c.in-Err.ensures.cases.0))
