-- Patches of a netlist: all whole, and one changed.
use Rattle.std.proofs.Common.{◌≡◌, ◌<◌, ℕ, List, length, Some, sym, ap, subst, ◌∙◌, arith, replicate}
use Rattle.std.specs.Prelude.{slice_get}
use Rattle.std.proofs.lemmas.Option.{slice_get_within, get_or_from_slice_get}
use Rattle.std.proofs.lemmas.List.{get_or-replicate, length-replicate}
use Rattle.flat_net.specs.declared.kinds.Patch.{Patch}
use Rattle.flat_net.specs.declared.kinds.Patch.TheVariants.{Whole}
use Rattle.flat_net.specs.declared.parts.Parts.{Parts}
use Rattle.flat_net.specs.Soundness.{IsSound}
use Rattle.flat_net.specs.Patches.{IsNetlist, FitsElement, FitsIsland}
use Rattle.flat_net.proofs.Somes.{and_some, there}

whole_at : (n k : ℕ) (patch : Patch) → slice_get (replicate n Whole) k ≡ Some patch → (k < n) × (patch ≡ Whole)
whole_at n k patch e =
    let within : k < length (replicate n Whole) = slice_get_within (replicate n Whole) k patch e in
    let short : k < n = omega (arith, length-replicate n Whole) in
    (short, sym (get_or_from_slice_get (replicate n Whole) k patch Whole e) ∙ get_or-replicate n k Whole Whole short)

pub IsNetlist-whole : (parts : Parts) (elements islands : List Patch) → IsSound parts → elements ≡ replicate (length parts.elements) Whole → islands ≡ replicate (length parts.islands) Whole
    → IsNetlist (record { parts = parts; element_patches = elements; island_patches = islands })
IsNetlist-whole parts elements islands sound e i = record {
  sound = sound;
  elements = ap (λ (ps : List Patch). length ps) e ∙ length-replicate (length parts.elements) Whole;
  islands = ap (λ (ps : List Patch). length ps) i ∙ length-replicate (length parts.islands) Whole;
  element_fits = λ number patch at.
      let w = whole_at (length parts.elements) number patch (ap (λ (ps : List Patch). slice_get ps number) (sym e) ∙ at) in
      let x = there parts.elements number w.0 in
      and_some (FitsElement patch) (slice_get parts.elements number) x.0 x.1 (subst (λ (p : Patch). FitsElement p x.0) (sym w.1) tt);
  island_fits = λ number patch at.
      let w = whole_at (length parts.islands) number patch (ap (λ (ps : List Patch). slice_get ps number) (sym i) ∙ at) in
      let x = there parts.islands number w.0 in
      and_some (FitsIsland patch) (slice_get parts.islands number) x.0 x.1 (subst (λ (p : Patch). FitsIsland p x.0) (sym w.1) tt);
}
