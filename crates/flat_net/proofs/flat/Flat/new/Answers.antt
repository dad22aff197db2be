use Rattle.std.proofs.Common.{List, length, map, ap, ◌∙◌, replicate}
use Rattle.std.proofs.lemmas.List.{map-id}
use Rattle.flat_net.specs.declared.kinds.Patch.TheVariants.{Whole}
use Rattle.flat_net.specs.declared.parts.Element.{Element}
use Rattle.flat_net.specs.declared.parts.Island.{Island}
use Rattle.flat_net.specs.declared.parts.Find.{Find}
use Rattle.flat_net.proofs.PatchLemmas.{IsNetlist-whole}
use Rattle.flat_net.proofs.flat.Flat.new.Goals as goal

pub invariant_of-result : goal.invariant_of-result
invariant_of-result c = record {
  netlist = IsNetlist-whole c.args.parts c.in_ok-element_patches.element_patches.items c.in_ok-island_patches.island_patches.items c.requires
      (c.in_ok-element_patches.ensures ∙ ap (λ (es : List Element). replicate (length es) Whole) c.as_slice.ensures)
      (c.in_ok-island_patches.ensures ∙ ap (λ (is : List Island). replicate (length is) Whole) c.as_slice-2.ensures);
  find_table = c.in_ok-find_table.ensures ∙ ap (λ (fs : List Find). map (λ (f : Find). f.name) fs) c.as_slice-3.ensures;
  element_table = c.in_ok-element_table.ensures ∙ map-id c.as_slice-4.result.now ∙ c.as_slice-4.ensures;
}
