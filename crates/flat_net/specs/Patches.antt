-- A flat netlist with a patch for each cell, and which patches fit which cell.
use Rattle.std.specs.Prelude.{◌≡◌, ℕ, ◌+◌, ◌<◌, ◌≤◌, Bool, true, false, IsTrue, List, length, replicate, slice_get, slice_set}
use Rattle.std.specs.Option.{IsSomeAnd, unwrap_or}
use Rattle.std.specs.List.{Contains}
use Rattle.flat_net.specs.Lists.{EachAt}
use Rattle.flat_net.specs.Elements.{end_nets}
use Rattle.flat_net.specs.Soundness.{IsSound}
use Rattle.flat_net.specs.declared.kinds.Cell.{Cell}
use Rattle.flat_net.specs.declared.kinds.Cell.TheVariants.{Element as ElementCell, Island as IslandCell}
use Rattle.flat_net.specs.declared.kinds.Patch.{Patch}
use Rattle.flat_net.specs.declared.kinds.Patch.TheVariants.{Whole, NetStuck, InStuck, OutStuck, Open, Closed}
use Rattle.flat_net.specs.declared.kinds.ElementKind.{ElementKind}
use Rattle.flat_net.specs.declared.kinds.ElementKind.TheVariants.{Fold, Enable, Mos, Udp, Copy, Constant, Pull, Tran, Tranif}
use Rattle.flat_net.specs.declared.parts.Element.{Element}
use Rattle.flat_net.specs.declared.parts.Island.{Island}
use Rattle.flat_net.specs.declared.parts.Parts.{Parts}

-- a flat netlist: its parts, and a patch for each element and for each island, by their numbers
pub record Netlist : Type 0 where
  pub parts : Parts
  pub element_patches : List Patch
  pub island_patches : List Patch

-- a MOS or a bidirectional switch
abbrev pub is_switch : ElementKind → Bool
is_switch (Mos on_one resistive) = true
is_switch Tran = true
is_switch (Tranif on_one) = true
is_switch (Fold kind) = false
is_switch (Enable kind) = false
is_switch (Udp number) = false
is_switch Copy = false
is_switch (Constant value) = false
is_switch (Pull value) = false

-- the number of the first input pin: inputs follow the ends and the outputs
abbrev pub first_input : Element → ℕ
first_input e = length (end_nets e.ends) + length e.outs

-- a patch fits an element: a stuck input pin is one of its inputs, a stuck output pin one of its outputs, and only a switch
-- is open or closed
abbrev pub FitsElement : Patch → Element → Type 0
FitsElement Whole e = Unit {0}
FitsElement (NetStuck net value) e = ⊥
FitsElement (InStuck pin value) e = (first_input e ≤ pin) × (pin < first_input e + length e.ins)
FitsElement (OutStuck pin value) e = pin < length e.outs
FitsElement Open e = IsTrue (is_switch e.kind)
FitsElement Closed e = IsTrue (is_switch e.kind)

-- a patch fits an island: a stuck net is one of its nets
abbrev pub FitsIsland : Patch → Island → Type 0
FitsIsland Whole island = Unit {0}
FitsIsland (NetStuck net value) island = Contains island.nets net
FitsIsland (InStuck pin value) island = ⊥
FitsIsland (OutStuck pin value) island = ⊥
FitsIsland Open island = ⊥
FitsIsland Closed island = ⊥

-- the cell is one of the netlist, and the patch fits it
abbrev pub Fits : Parts → Cell → Patch → Type 0
Fits parts (ElementCell number) patch = IsSomeAnd (slice_get parts.elements number) (FitsElement patch)
Fits parts (IslandCell number) patch = IsSomeAnd (slice_get parts.islands number) (FitsIsland patch)

-- the cell is one of the netlist
abbrev pub IsCell : Parts → Cell → Type 0
IsCell parts (ElementCell number) = number < length parts.elements
IsCell parts (IslandCell number) = number < length parts.islands

-- the patch of a cell
abbrev pub patch_of : Netlist → Cell → Patch
patch_of netlist (ElementCell number) = unwrap_or (slice_get netlist.element_patches number) Whole
patch_of netlist (IslandCell number) = unwrap_or (slice_get netlist.island_patches number) Whole

-- the netlist with another patch for one cell
abbrev pub with_patch : Netlist → Cell → Patch → Netlist
with_patch netlist (ElementCell number) patch = record netlist { element_patches = slice_set netlist.element_patches number patch }
with_patch netlist (IslandCell number) patch = record netlist { island_patches = slice_set netlist.island_patches number patch }

-- the netlist of the parts, each cell whole
abbrev pub whole : Parts → Netlist
whole parts = record {
  parts = parts;
  element_patches = replicate (length parts.elements) Whole;
  island_patches = replicate (length parts.islands) Whole;
}

-- a sound flat netlist: its parts are sound, each cell has a patch, and the patch fits it
pub record IsNetlist (netlist : Netlist) : Type 0 where
  pub sound : IsSound netlist.parts
  pub elements : length netlist.element_patches ≡ length netlist.parts.elements
  pub islands : length netlist.island_patches ≡ length netlist.parts.islands
  pub element_fits : EachAt (λ number patch. Fits netlist.parts (ElementCell number) patch) netlist.element_patches
  pub island_fits : EachAt (λ number patch. Fits netlist.parts (IslandCell number) patch) netlist.island_patches
