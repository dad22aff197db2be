-- A faulty netlist has the parts of the netlist and its patches, but for that of one cell.
use Rattle.std.proofs.Common.{◌≡◌, ◌≢◌, ℕ, ◌+◌, ◌<◌, List, length, get_or, set, Some, refl, ap, sym, ◌∙◌, subst, inl, inr, arith}
use Rattle.std.proofs.lemmas.Option.{unwrap_or-slice_get, slice_get_within, slice_get-get_or, get_or_from_slice_get}
use Rattle.std.proofs.lemmas.Bool.{cases_eq}
use Rattle.std.proofs.lemmas.List.{get_or-set_same, get_or-set_other, length-set}
use Rattle.flat_net.specs.declared.kinds.Cell.{Cell}
use Rattle.flat_net.specs.declared.kinds.Cell.TheVariants.{Element as ElementCell, Island as IslandCell}
use Rattle.flat_net.specs.declared.kinds.Patch.{Patch}
use Rattle.flat_net.specs.declared.kinds.Patch.TheVariants.{Whole}
use Rattle.flat_net.specs.Lists.{EachAt}
use Rattle.flat_net.specs.Patches.{Netlist, IsNetlist, IsCell, Fits, patch_of}
use Rattle.machine.specs.Machine.{cell_of, number_of, inject}
use Rattle.machine.specs.Hiding.{IsInjected}
use Rattle.machine.proofs.Numbers.{number_of-cell_of}

pub inject-parts : (netlist : Netlist) (cell : Cell) (patch : Patch) → (inject netlist cell patch).parts ≡ netlist.parts
inject-parts netlist (ElementCell number) patch = refl
inject-parts netlist (IslandCell number) patch = refl

-- the patch of another cell stays
pub inject-other : (netlist : Netlist) (cell other : Cell) (patch : Patch) → number_of netlist.parts other ≢ number_of netlist.parts cell →
    patch_of (inject netlist cell patch) other ≡ patch_of netlist other
inject-other netlist (ElementCell number) (ElementCell other) patch apart =
    unwrap_or-slice_get (set netlist.element_patches number patch) other Whole
    ∙ get_or-set_other netlist.element_patches number other patch Whole apart
    ∙ sym (unwrap_or-slice_get netlist.element_patches other Whole)
inject-other netlist (ElementCell number) (IslandCell other) patch apart = refl
inject-other netlist (IslandCell number) (ElementCell other) patch apart = refl
inject-other netlist (IslandCell number) (IslandCell other) patch apart =
    unwrap_or-slice_get (set netlist.island_patches number patch) other Whole
    ∙ get_or-set_other netlist.island_patches number other patch Whole (λ e. apart (ap (λ (k : ℕ). length netlist.parts.elements + k) e))
    ∙ sym (unwrap_or-slice_get netlist.island_patches other Whole)

pub inject-is : (netlist : Netlist) (cell : Cell) (patch : Patch) → IsInjected netlist (number_of netlist.parts cell) (inject netlist cell patch)
inject-is netlist cell patch = record {
  parts = inject-parts netlist cell patch;
  patches = λ number apart.
      inject-other netlist cell (cell_of netlist.parts number) patch
      (λ e. apart (sym (number_of-cell_of netlist.parts number) ∙ e));
}

-- the patch of the cell itself is the new one
pub inject-site : (netlist : Netlist) (cell : Cell) (patch : Patch) → IsNetlist netlist → IsCell netlist.parts cell →
    patch_of (inject netlist cell patch) cell ≡ patch
inject-site netlist (ElementCell number) patch is lt =
    unwrap_or-slice_get (set netlist.element_patches number patch) number Whole
    ∙ get_or-set_same netlist.element_patches number patch Whole (let e = is.elements in omega arith)
inject-site netlist (IslandCell number) patch is lt =
    unwrap_or-slice_get (set netlist.island_patches number patch) number Whole
    ∙ get_or-set_same netlist.island_patches number patch Whole (let e = is.islands in omega arith)

-- what holds of all patches and of the new one holds of all after it is set
set-each : (P : ℕ → Patch → Type 0) (patches : List Patch) (number : ℕ) (patch : Patch) → EachAt P patches → P number patch → EachAt P (set patches number patch)
set-each P patches number patch each new i q at =
    let within : i < length patches = (let lt = slice_get_within (set patches number patch) i q at in let e = length-set patches number patch in omega arith) in
    let is : get_or (set patches number patch) i Whole ≡ q = get_or_from_slice_get (set patches number patch) i q Whole at in
    elim (cases_eq i number) [
      | inl e ↦
          let inside : number < length patches = omega arith in
          let same : patch ≡ q = sym (get_or-set_same patches number patch Whole inside) ∙ ap (λ (k : ℕ). get_or (set patches number patch) k Whole) (sym e) ∙ is in
          subst (λ (x : Patch). P i x) same (subst (λ (k : ℕ). P k patch) (sym e) new)
      | inr apart ↦
          let old : get_or patches i Whole ≡ q = sym (get_or-set_other patches number i patch Whole apart) ∙ is in
          each i q (slice_get-get_or patches i Whole within ∙ ap (λ (x : Patch). Some x) old)
    ]

-- a faulty netlist is a netlist, where the patch fits the cell
pub inject-is_netlist : (netlist : Netlist) (cell : Cell) (patch : Patch) → IsNetlist netlist → Fits netlist.parts cell patch → IsNetlist (inject netlist cell patch)
inject-is_netlist netlist (ElementCell number) patch is fits = record {
  sound = is.sound;
  elements = length-set netlist.element_patches number patch ∙ is.elements;
  islands = is.islands;
  element_fits = set-each (λ k p. Fits netlist.parts (ElementCell k) p) netlist.element_patches number patch is.element_fits fits;
  island_fits = is.island_fits;
}
inject-is_netlist netlist (IslandCell number) patch is fits = record {
  sound = is.sound;
  elements = is.elements;
  islands = length-set netlist.island_patches number patch ∙ is.islands;
  element_fits = is.element_fits;
  island_fits = set-each (λ k p. Fits netlist.parts (IslandCell k) p) netlist.island_patches number patch is.island_fits fits;
}
