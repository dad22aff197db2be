-- Additions one after the other.
use Rattle.std.proofs.Common.{◌≡◌, ℕ, ◌+◌, Bool, List, length, ap, ◌∙◌, append_assoc, length-append}
use Rattle.std.proofs.lemmas.List.{append-nil}
use Rattle.v_tree.specs.declared.locations.Location.{Location}
use Rattle.flat_net.specs.declared.parts.Element.{Element}
use Rattle.flat_net.specs.declared.parts.Find.{Find}
use Rattle.netlist_plan.specs.declared.claims.NetClaim.{NetClaim}
use Rattle.netlist_plan.specs.Additions.{Additions, joined, nothing}

abbrev pub lists : List (List ℕ) → List (ℕ × NetClaim) → List Element → List (List ℕ) → List Bool → List Find → List (ℕ × Location) → Additions
lists net_names claims elements element_names resistive finds terminals = record {
  net_names = net_names;
  claims = claims;
  elements = elements;
  element_names = element_names;
  resistive = resistive;
  finds = finds;
  terminals = terminals;
}

pub same_lists : (a b : Additions) → a.net_names ≡ b.net_names → a.claims ≡ b.claims → a.elements ≡ b.elements → a.element_names ≡ b.element_names → a.resistive ≡ b.resistive → a.finds ≡ b.finds → a.terminals ≡ b.terminals → a ≡ b
same_lists a b names claims elements texts flags finds terminals =
    ap (λ (x : List (List ℕ)). lists x a.claims a.elements a.element_names a.resistive a.finds a.terminals) names
    ∙ ap (λ (x : List (ℕ × NetClaim)). lists b.net_names x a.elements a.element_names a.resistive a.finds a.terminals) claims
    ∙ ap (λ (x : List Element). lists b.net_names b.claims x a.element_names a.resistive a.finds a.terminals) elements
    ∙ ap (λ (x : List (List ℕ)). lists b.net_names b.claims b.elements x a.resistive a.finds a.terminals) texts
    ∙ ap (λ (x : List Bool). lists b.net_names b.claims b.elements b.element_names x a.finds a.terminals) flags
    ∙ ap (λ (x : List Find). lists b.net_names b.claims b.elements b.element_names b.resistive x a.terminals) finds
    ∙ ap (λ (x : List (ℕ × Location)). lists b.net_names b.claims b.elements b.element_names b.resistive b.finds x) terminals

pub joined-nothing : (a : Additions) → joined a nothing ≡ a
joined-nothing a =
    same_lists (joined a nothing) a (append-nil a.net_names) (append-nil a.claims) (append-nil a.elements) (append-nil a.element_names) (append-nil a.resistive) (append-nil a.finds) (append-nil a.terminals)

pub joined-joined : (a b c : Additions) → joined (joined a b) c ≡ joined a (joined b c)
joined-joined a b c =
    same_lists (joined (joined a b) c) (joined a (joined b c))
    (append_assoc a.net_names b.net_names c.net_names)
    (append_assoc a.claims b.claims c.claims)
    (append_assoc a.elements b.elements c.elements)
    (append_assoc a.element_names b.element_names c.element_names)
    (append_assoc a.resistive b.resistive c.resistive)
    (append_assoc a.finds b.finds c.finds)
    (append_assoc a.terminals b.terminals c.terminals)

-- how many names there are
pub joined-count : (a b c : Additions) → c ≡ joined a b → length c.net_names ≡ length a.net_names + length b.net_names
joined-count a b c is = ap (λ (x : Additions). length x.net_names) is ∙ length-append a.net_names b.net_names
