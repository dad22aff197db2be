use Rattle.std.proofs.Common.{◌≡◌, ◌∷◌, map, take}
use Rattle.module_ports.specs.Ports.{entry_name}
use Rattle.module_parts.specs.Parts.{name_texts}
use Rattle.module_parts.proofs.names.entry_texts.Given as goal

abbrev pub invariant-loop-other : goal.invariant-loop-other
invariant-loop-other l = l.texts.items ≡ name_texts (l.first ∷ map entry_name (take l.other-index l.others))
