-- What names mean, by what the code is given.
use Rattle.std.specs.Prelude.{ℕ, List, slice_index_or}
use Rattle.module_graph.specs.declared.references.Master.{Master}
use Rattle.netlist_plan.specs.Plan.{Meanings}

-- names that mean modules and primitives, and the number of each primitive by its index; one without counts as number 0
abbrev pub meanings : (List ℕ → Master) → List ℕ → Meanings
meanings of numbers = record { of = of; udp_numbers = λ u. slice_index_or numbers u 0 }
