-- What has to hold of the gates of a module.
use Rattle.std.specs.Prelude.{◌≡◌, ℕ, ◌-◌, ◌<◌, ◌≤◌, ◌^◌, true, false, List, length, Option, None, Some}
use Rattle.std.specs.List.{All}
use Rattle.udp_table.specs.Primitive.{Primitive}
use Rattle.flat_net.specs.Elements.{HasPinsOf, joins_ends}
use Rattle.flat_names.specs.Spelling.{IsText}
use Rattle.element_forms.specs.declared.forms.ElementForm.{ElementForm}
use Rattle.element_forms.specs.declared.forms.ElementForm.TheVariants.{Single, Bidirectional, Complementary}
use Rattle.module_parts.specs.declared.parts.GatePart.{GatePart}
use Rattle.netlist_plan.specs.Elements.{output_count}

-- a gate of a form may have so many terminals
abbrev pub HasTerminalCount : List Primitive → ElementForm → ℕ → Type 0
HasTerminalCount udps (Single kind) n =
    (output_count kind n ≤ n) × HasPinsOf udps kind (output_count kind n) (n - output_count kind n) × (joins_ends kind ≡ false)
HasTerminalCount udps (Bidirectional kind resistive) n = (2 ≤ n) × HasPinsOf udps kind 0 (n - 2) × (joins_ends kind ≡ true)
HasTerminalCount udps (Complementary resistive) n = 4 ≤ n

abbrev pub IsTextIfThere : Option (List ℕ) → Type 0
IsTextIfThere None = Unit {0}
IsTextIfThere (Some name) = IsText name

-- a gate of a form, each of whose terminals has a run
pub record IsSoundGate (udps : List Primitive) (form : ElementForm) (g : GatePart) : Type 0 where
  pub name : IsTextIfThere g.name
  pub terminals : All (λ runs. 0 < length runs) g.terminals
  pub few : length g.terminals < 2 ^ 32
  pub count : HasTerminalCount udps form (length g.terminals)
