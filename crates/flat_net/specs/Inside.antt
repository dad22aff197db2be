-- For the code alone: the fields of a `Flat`, and the netlist that clauses see.
use Rattle.std.specs.Prelude.{◌≡◌, map}
use Rattle.flat_net.specs.declared.parts.Find.{Find}
use Rattle.flat_net.specs.declared.flat.Flat.TheInside.{Inside}
use Rattle.flat_net.specs.Patches.{Netlist, IsNetlist}

-- the netlist of the fields
abbrev pub netlist_of : Inside → Netlist
netlist_of f = record { parts = f.parts; element_patches = f.element_patches.items; island_patches = f.island_patches.items }

-- the netlist is sound, and the tables have its names
pub record IsFlatInside (f : Inside) : Type 0 where
  pub netlist : IsNetlist (netlist_of f)
  pub find_table : f.find_table ≡ map (λ (found : Find). found.name) f.parts.finds
  pub element_table : f.element_table ≡ f.parts.element_names
