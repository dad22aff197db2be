use Rattle.std.proofs.Common.{◌≡◌, ◌<◌, ◌+◌, get_or, set, length, subst, sym, ◌∙◌, arith, ℕ}
use Rattle.std.proofs.lemmas.List.{get_or_default}
use Rattle.timing_wheel.specs.Links.{Placement, IsLinked}
use Rattle.timing_wheel.proofs.Rings.{IsLinked-unlink}
use Rattle.timing_wheel.proofs.chains.Chains.unlink.Goals as goal

pub invariant_of-self : goal.invariant_of-self
invariant_of-self c =
    let next = c.self.inside.next.items in
    let previous = c.self.inside.previous.items in
    let places = c.self.inside.places.items in
    let lists = c.self.inside.lists in
    let slot = c.args.slot in
    let in_slots : slot < length places = subst (λ (p : Placement). slot < length p.places) (sym c.self.view_is) c.requires.slot in
    let in_list : get_or places slot 0 < lists = subst (λ (p : Placement). get_or p.places slot 0 < p.lists) (sym c.self.view_is) c.requires.linked in
    let after : get_or next (lists + slot) 0 ≡ c.index-after.result.now = sym (c.index-after.ensures ∙ get_or_default next (lists + slot) _ 0 (omega (arith, c.self.invariant.next_size))) in
    let before : get_or previous (lists + slot) 0 ≡ c.index-before.result.now = sym (c.index-before.ensures ∙ get_or_default previous (lists + slot) _ 0 (omega (arith, c.self.invariant.previous_size))) in
    subst (λ (after : ℕ). IsLinked (set (set next c.index-before.result.now after) (lists + slot) (lists + slot)) (set (set previous after c.index-before.result.now) (lists + slot) (lists + slot)) (set places slot lists) lists) after
    (subst (λ (before : ℕ). IsLinked (set (set next before (get_or next (lists + slot) 0)) (lists + slot) (lists + slot)) (set (set previous (get_or next (lists + slot) 0) before) (lists + slot) (lists + slot)) (set places slot lists) lists) before
    (IsLinked-unlink next previous places lists slot c.self.invariant in_slots in_list))
