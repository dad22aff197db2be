-- What has to hold of a module's parts so that the elements and instances of its plan are sound.
use Rattle.std.specs.Prelude.{◌+◌, ◌≤◌, ◌^◌, ℕ, List, [], ◌∷◌, ◌++◌, length, Option, None, Some}
use Rattle.std.specs.Option.{option_map_or}
use Rattle.udp_table.specs.Primitive.{Primitive}
use Rattle.flat_net.specs.Lists.{AreDistinct}
use Rattle.flat_names.specs.Spelling.{IsText}
use Rattle.module_parts.specs.declared.parts.ModulePart.{ModulePart}
use Rattle.module_parts.specs.declared.parts.ModulePart.TheVariants.{Names, Gate, Pair, Instance}
use Rattle.module_parts.specs.declared.parts.PortRuns.{PortRuns}
use Rattle.netlist_plan.specs.Elements.{runs_bits}
use Rattle.netlist_plan.specs.Plan.{Given, form_at}
use Rattle.plan_laws.specs.SoundGates.{IsSoundGate}

-- a name that is there is a text
abbrev pub IsNamed : Option (List ℕ) → Type 0
IsNamed None = ⊥
IsNamed (Some name) = IsText name

-- the ports that connections name, in their order
abbrev pub connected_ports : List PortRuns → List ℕ
connected_ports [] = []
connected_ports (c ∷ connections) = option_map_or (λ port. port ∷ []) c.port [] ++ connected_ports connections

-- a gate with a right number of terminals, an assignment to at most 2^32 bits, or an instance with a name that connects
-- each port once; the part has a number
abbrev pub IsSoundPart : List Primitive → Given → ℕ × ModulePart → Type 0
IsSoundPart udps given (number, Names names) = Unit {0}
IsSoundPart udps given (number, Gate g) = IsSoundGate udps (form_at given.meanings given.items g.item) g
IsSoundPart udps given (number, Pair p) = length (runs_bits given.scope given.nets (number + 1) p.target) ≤ 2 ^ 32
IsSoundPart udps given (number, Instance i) = IsNamed i.name × AreDistinct (connected_ports i.connections)
