-- Items beside the references of their module.
use Rattle.std.proofs.Common.{◌≡◌, ℕ, ◌+◌, ◌<◌, ◌≤◌, List, [], ◌∷◌, ◌++◌, map, length, get_or, take, drop, refl, sym, ap, ◌∙◌, add-one, arith}
use Rattle.std.proofs.lemmas.List.{map-append}
use Rattle.v_tree.specs.declared.modules.Item.{Item}
use Rattle.v_tree.specs.declared.modules.Item.TheVariants as item
use Rattle.module_graph.specs.declared.references.Master.{Master}
use Rattle.module_graph.specs.declared.references.Reference.{Reference}
use Rattle.module_graph.specs.Graph.{reference_to, references_in}
use Rattle.instance_rules.specs.Walks.{master_at, master_in}
use Rattle.instance_rules.proofs.Walking.{drop_front}
use Rattle.element_forms.specs.declared.forms.ElementForm.{ElementForm}
use Rattle.netlist_plan.specs.Plan.{item_form, master_form}
use Rattle.module_plan.specs.Meant.{meanings}
use Rattle.module_plan.specs.Surroundings.{reference_count}
use Rattle.module_plan.proofs.Walks.{left_at, take_at}

pub reference_count-least : (x : Item) → reference_count x ≤ 1
reference_count-least (item.Instances i) = omega arith
reference_count-least (item.Ports d) = omega arith
reference_count-least (item.Nets d) = omega arith
reference_count-least (item.Trireg d) = omega arith
reference_count-least (item.Assign a) = omega arith
reference_count-least (item.Gates g) = omega arith
reference_count-least (item.Cell c) = omega arith
reference_count-least (item.Specify s) = omega arith

-- the references that are left begin with that of the next item, where it has one
module _ (of : List ℕ → Master) (references : List Reference) (numbers : List ℕ) (next : ℕ) (rest : List Item) where
  pub form_here : (x : Item) → drop next references ≡ references_in of (x ∷ rest) →
      item_form (meanings (λ name. master_at references next) numbers) x ≡ item_form (meanings of numbers) x
  form_here (item.Instances i) left =
      ap (λ (m : Master). master_form (meanings of numbers) m) (ap master_in (drop_front next references (references_in of rest) (reference_to of i.name) left).0)
  form_here (item.Ports d) left = refl
  form_here (item.Nets d) left = refl
  form_here (item.Trireg d) left = refl
  form_here (item.Assign a) left = refl
  form_here (item.Gates g) left = refl
  form_here (item.Cell c) left = refl
  form_here (item.Specify s) left = refl

  pub rest_behind : (x : Item) → drop next references ≡ references_in of (x ∷ rest) → drop (next + reference_count x) references ≡ references_in of rest
  rest_behind (item.Instances i) left =
      ap (λ (n : ℕ). drop n references) (add-one next) ∙ (drop_front next references (references_in of rest) (reference_to of i.name) left).1
  rest_behind (item.Ports d) left = ap (λ (n : ℕ). drop n references) (omega arith) ∙ left
  rest_behind (item.Nets d) left = ap (λ (n : ℕ). drop n references) (omega arith) ∙ left
  rest_behind (item.Trireg d) left = ap (λ (n : ℕ). drop n references) (omega arith) ∙ left
  rest_behind (item.Assign a) left = ap (λ (n : ℕ). drop n references) (omega arith) ∙ left
  rest_behind (item.Gates g) left = ap (λ (n : ℕ). drop n references) (omega arith) ∙ left
  rest_behind (item.Cell c) left = ap (λ (n : ℕ). drop n references) (omega arith) ∙ left
  rest_behind (item.Specify s) left = ap (λ (n : ℕ). drop n references) (omega arith) ∙ left

-- the references that are left are those of the items that are left, and the forms so far are those of the items before
pub record Walked (of : List ℕ → Master) (references : List Reference) (numbers : List ℕ) (items : List Item) (next index : ℕ) (forms : List ElementForm) : Type 0 where
  pub rest : drop next references ≡ references_in of (drop index items)
  pub seen : forms ≡ map (item_form (meanings of numbers)) (take index items)

module _ (of : List ℕ → Master) (references : List Reference) (numbers : List ℕ) (items : List Item) (next index : ℕ) (forms : List ElementForm) (walked : Walked of references numbers items next index forms) where
  -- one item more
  pub Walked-more : (x : Item) → index < length items → x ≡ get_or items index x → (next2 : ℕ) → next2 ≡ next + reference_count x →
      (forms2 : List ElementForm) → forms2 ≡ forms ++ item_form (meanings (λ name. master_at references next) numbers) x ∷ [] →
      Walked of references numbers items next2 (index + 1) forms2
  Walked-more x lt at next2 next_is forms2 forms_are =
      let left : drop next references ≡ references_in of (x ∷ drop (index + 1) items) = walked.rest ∙ ap (references_in of) (left_at items index x lt at) in
      record {
        rest = ap (λ (n : ℕ). drop n references) next_is ∙ rest_behind of references numbers next (drop (index + 1) items) x left;
        seen =
            forms_are
            ∙ ap (λ (form : ElementForm). forms ++ form ∷ []) (form_here of references numbers next (drop (index + 1) items) x left)
            ∙ ap (λ (before : List ElementForm). before ++ item_form (meanings of numbers) x ∷ []) walked.seen
            ∙ sym (ap (map (item_form (meanings of numbers))) (take_at items index x lt at)
            ∙ map-append (item_form (meanings of numbers)) (take index items) (x ∷ []));
      }
