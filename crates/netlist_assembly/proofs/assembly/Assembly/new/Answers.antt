use Rattle.std.proofs.Common.{◌≡◌, ◌≤◌, ℕ, Bool, List, length, map, ap, sym, subst, ◌∙◌}
use Rattle.std.specs.List.{All, range_with_len}
use Rattle.flat_net.specs.Soundness.{greatest_count}
use Rattle.flat_net.specs.declared.parts.Element.{Element}
use Rattle.net_islands.specs.declared.parts.NetClass.{NetClass}
use Rattle.net_islands.specs.Islands.{HasNets, grouping}
use Rattle.netlist_plan.specs.declared.claims.NetClaim.{NetClaim}
use Rattle.netlist_plan.specs.Claims.{claim_on}
use Rattle.flattening_laws.proofs.Numbers.{length_map, length_range}
use Rattle.flat_assembly.specs.Assembly.{classes}
use Rattle.netlist_assembly.proofs.assembly.Assembly.new.Goals as goal

-- the claims on each of so many nets
abbrev on_each : List (ℕ × NetClaim) → ℕ → List NetClaim
on_each claims n = map (claim_on claims) (range_with_len 0 n)

on_each-same : (claims given : List (ℕ × NetClaim)) (names known : List (List ℕ)) → given ≡ claims → known ≡ names → on_each given (length known) ≡ on_each claims (length names)
on_each-same claims given names known same_claims same_names =
    ap (λ (cs : List (ℕ × NetClaim)). on_each cs (length known)) same_claims ∙ ap (λ (ns : List (List ℕ)). on_each claims (length ns)) same_names

class_count : (claims : List (ℕ × NetClaim)) (n : ℕ) → length (classes (on_each claims n)) ≡ n
class_count claims n = length_map (λ (claim : NetClaim). claim.class) (on_each claims n) ∙ length_map (claim_on claims) (range_with_len 0 n) ∙ length_range 0 n

grouping-same : (nets others : List NetClass) (elements given : List Element) (resistive flags : List Bool) → others ≡ nets → given ≡ elements → flags ≡ resistive → grouping others given flags ≡ grouping nets elements resistive
grouping-same nets others elements given resistive flags same_nets same_elements same_flags =
    ap (λ (ns : List NetClass). grouping ns given flags) same_nets
    ∙ ap (λ (es : List Element). grouping nets es flags) same_elements
    ∙ ap (λ (fs : List Bool). grouping nets elements fs) same_flags

pub grouping-requires-clause-few_nets : goal.grouping-requires-clause-few_nets
grouping-requires-clause-few_nets c =
    let flat = c.args.flat in
    let claims = c.in_ok-claims.ensures ∙ on_each-same flat.claims c.as_slice-2.result.now flat.net_names c.as_slice.result.now c.as_slice-2.ensures c.as_slice.ensures in
    let many : length c.deref-2.result.now ≡ length flat.net_names =
    ap length (c.deref-2.ensures.value ∙ c.in_ok-classes.ensures ∙ ap classes (c.deref.ensures.value ∙ claims)) ∙ class_count flat.claims (length flat.net_names) in
    subst (λ (n : ℕ). n ≤ greatest_count) (sym many) c.requires.few_nets

pub grouping-requires-clause-elements : goal.grouping-requires-clause-elements
grouping-requires-clause-elements c =
    let flat = c.args.flat in
    let claims = c.in_ok-claims.ensures ∙ on_each-same flat.claims c.as_slice-2.result.now flat.net_names c.as_slice.result.now c.as_slice-2.ensures c.as_slice.ensures in
    let many : length c.deref-2.result.now ≡ length flat.net_names =
    ap length (c.deref-2.ensures.value ∙ c.in_ok-classes.ensures ∙ ap classes (c.deref.ensures.value ∙ claims)) ∙ class_count flat.claims (length flat.net_names) in
    subst (λ (n : ℕ). All (HasNets n) c.as_slice-3.result.now) (sym many)
    (subst (λ (es : List Element). All (HasNets (length flat.net_names)) es) (sym c.as_slice-3.ensures) c.requires.elements)

pub invariant_of-result : goal.invariant_of-result
invariant_of-result c =
    let flat = c.args.flat in
    let claims : c.in_ok-claims.claims.items ≡ on_each flat.claims (length flat.net_names) =
    c.in_ok-claims.ensures ∙ on_each-same flat.claims c.as_slice-2.result.now flat.net_names c.as_slice.result.now c.as_slice-2.ensures c.as_slice.ensures in
    record {
      claims = claims;
      grouping = c.in_ok-grouping.ensures.value
          ∙ grouping-same (classes (on_each flat.claims (length flat.net_names))) c.deref-2.result.now flat.elements c.as_slice-3.result.now flat.resistive c.as_slice-4.result.now
          (c.deref-2.ensures.value ∙ c.in_ok-classes.ensures ∙ ap classes (c.deref.ensures.value ∙ claims)) c.as_slice-3.ensures c.as_slice-4.ensures;
    }
