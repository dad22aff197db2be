use Rattle.std.proofs.Common.{◌≡◌, ◌<◌, ◌+◌, get_or, set, length, subst, sym, ◌∙◌, arith, ℕ}
use Rattle.std.proofs.lemmas.List.{get_or_default}
use Rattle.timing_wheel.specs.Links.{Placement, IsLinked}
use Rattle.timing_wheel.proofs.Rings.{IsLinked-link}
use Rattle.timing_wheel.proofs.chains.Chains.link.Goals as goal

pub invariant_of-self : goal.invariant_of-self
invariant_of-self c =
    let next = c.self.inside.next.items in
    let previous = c.self.inside.previous.items in
    let places = c.self.inside.places.items in
    let lists = c.self.inside.lists in
    let slot = c.args.slot in
    let list = c.args.list in
    let in_lists : list < lists = subst (λ (p : Placement). list < p.lists) (sym c.self.view_is) c.requires.list in
    let in_slots : slot < length places = subst (λ (p : Placement). slot < length p.places) (sym c.self.view_is) c.requires.slot in
    let loose : get_or places slot 0 ≡ lists = subst (λ (p : Placement). get_or p.places slot 0 ≡ p.lists) (sym c.self.view_is) c.requires.loose in
    let after : get_or next list 0 ≡ c.index-after.result.now = sym (c.index-after.ensures ∙ get_or_default next list _ 0 (omega (arith, c.self.invariant.next_size))) in
    subst (λ (after : ℕ). IsLinked (set (set next list (lists + slot)) (lists + slot) after) (set (set previous (lists + slot) list) after (lists + slot)) (set places slot list) lists) after
    (IsLinked-link next previous places lists slot list c.self.invariant in_slots in_lists loose)
