use Rattle.std.proofs.Common.{◌≡◌, ◌+◌, ◌<◌, ℕ, Bool, false, List, [], ◌∷◌, ◌++◌, length, take, get_or, Some, None, refl, sym, ap, ◌∙◌}
use Rattle.std.specs.Prelude.{Option}
use Rattle.std.specs.Option.{option_map}
use Rattle.std.specs.List.{enumerate_from, filter_map, cons_option}
use Rattle.std.proofs.lemmas.List.{append-nil}
use Rattle.std.proofs.lemmas.List.Elements.{filter_map-append}
use Rattle.net_settle.specs.declared.shape.Link.{Link}
use Rattle.flat_net.specs.declared.parts.Element.{Element}
use Rattle.net_islands.specs.Islands.{link, links}
use Rattle.net_islands.proofs.Ranges.{enumerate_more}
use Rattle.net_islands.proofs.items.links.Goals as goal
use Rattle.net_islands.proofs.items.links.Goals.{in-Some+in_ok-push, in_default}

module _ (numbers places : List ℕ) (elements : List Element) (resistive : List Bool) (i : ℕ) (e : Element) (lt : i < length elements) (at : e ≡ get_or elements i e) where
  abbrev link_of : ℕ × Element → Option (ℕ × (ℕ × Link))
  link_of p = option_map (link numbers places (get_or resistive p.0 false) p.0) p.1.ends

  split : links numbers places (take (i + 1) elements) resistive ≡ links numbers places (take i elements) resistive ++ filter_map link_of ((i, e) ∷ [])
  split = ap (filter_map link_of) (enumerate_more elements i e lt at) ∙ filter_map-append link_of (enumerate_from 0 (take i elements)) ((i, e) ∷ [])

  links_more : (ends : ℕ × ℕ) → e.ends ≡ Some ends →
      links numbers places (take (i + 1) elements) resistive ≡ links numbers places (take i elements) resistive ++ link numbers places (get_or resistive i false) i ends ∷ []
  links_more ends f =
      split
      ∙ ap (λ (o : Option (ℕ × ℕ)). links numbers places (take i elements) resistive ++ cons_option (option_map (link numbers places (get_or resistive i false) i) o) []) f

  links_same : e.ends ≡ None → links numbers places (take (i + 1) elements) resistive ≡ links numbers places (take i elements) resistive
  links_same f =
      split
      ∙ ap (λ (o : Option (ℕ × ℕ)). links numbers places (take i elements) resistive ++ cons_option (option_map (link numbers places (get_or resistive i false) i) o) []) f
      ∙ append-nil (links numbers places (take i elements) resistive)

none_of : (o : Option (ℕ × ℕ)) → ((ends : ℕ × ℕ) → o ≡ Some ends → ⊥) → o ≡ None
none_of None h = refl
none_of (Some ends) h = absurd (h ends refl)

pub loop-number-preserved : goal.loop-number-preserved
loop-number-preserved c = elim c.match-element.branch [
  | in-Some+in_ok-push w ↦
      rw (w.links-is, w.in_ok-push.ensures.items, w.link.ensures, c.loop-number.invariant)
      (sym (links_more c.args.numbers.now c.args.places.now c.args.elements.now c.args.resistive.now c.loop-number.number c.index-elements-number.result
      c.loop-number-test.true c.index-elements-number.is w.in-Some.ends w.in-Some.is))
  | in_default w ↦
      rw (w.links-is, c.loop-number.invariant)
      (sym (links_same c.args.numbers.now c.args.places.now c.args.elements.now c.args.resistive.now c.loop-number.number c.index-elements-number.result
      c.loop-number-test.true c.index-elements-number.is (none_of c.index-elements-number.result.ends w.in_default.not-Some)))
]
