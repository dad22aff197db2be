use Rattle.std.proofs.Common.{refl, ◌∙◌}
use Rattle.std.proofs.Math.Bool.{and_self}
use Rattle.udp_table.specs.declared.symbols.Sym.TheVariants.{Change}
use Rattle.udp_table.proofs.values.any_change.Goals as goal

pub returns : goal.returns
returns c = c.row_has_change.ensures Change (refl, refl, refl, refl, refl, refl) ∙ and_self _
