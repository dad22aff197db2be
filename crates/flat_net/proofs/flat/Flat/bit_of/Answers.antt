use Rattle.std.proofs.Common.{◌≡◌, ℕ, List, map, sym, ap, ◌∙◌}
use Rattle.std.specs.Prelude.{Option, slice_get}
use Rattle.name_table.specs.Names.{index_of}
use Rattle.flat_net.specs.declared.parts.Find.{Find}
use Rattle.flat_net.specs.Names.{nets_found, nets_at}
use Rattle.flat_net.specs.Patches.{Netlist}
use Rattle.flat_net.proofs.FlatLemmas.{nets_found-place}
use Rattle.flat_net.proofs.flat.Flat.bit_of.Goals as goal

pub returns : goal.returns
returns c =
    let finds = c.self.inside.parts.finds in
    let name = c.args.name.now in
    let place : c.find-place.result ≡ index_of name (map (λ (found : Find). found.name) finds)
    = c.find-place.ensures ∙ ap (λ (n : List ℕ). index_of n c.self.inside.find_table) c.as_bytes.ensures.value
    ∙ ap (λ (names : List (List ℕ)). index_of name names) c.self.invariant.find_table in
    c.bit_at.ensures
    ∙ ap (λ (fs : List Find). slice_get (nets_at fs c.find-place.result) c.args.at) c.as_slice.ensures
    ∙ ap (λ (p : Option ℕ). slice_get (nets_at finds p) c.args.at) place
    ∙ ap (λ (nets : List ℕ). slice_get nets c.args.at) (sym (nets_found-place finds name))
    ∙ ap (λ (n : Netlist). slice_get (nets_found n.parts.finds name) c.args.at) c.self.view_is
