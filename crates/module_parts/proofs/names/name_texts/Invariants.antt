use Rattle.std.proofs.Common.{◌≡◌, take}
use Rattle.module_parts.specs.Parts.{name_texts}
use Rattle.module_parts.proofs.names.name_texts.Given as goal

abbrev pub invariant-loop-name : goal.invariant-loop-name
invariant-loop-name l = l.texts.items ≡ name_texts (take l.name-index l.names)
