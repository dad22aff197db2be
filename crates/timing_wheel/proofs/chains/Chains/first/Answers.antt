use Rattle.std.proofs.Common.{◌≡◌, ◌≢◌, ◌<◌, ◌+◌, ◌-◌, get_or, length, subst, sym, ◌∙◌, arith, ℕ}
use Rattle.std.proofs.lemmas.List.{get_or_default}
use Rattle.timing_wheel.specs.Links.{Placement}
use Rattle.timing_wheel.proofs.Rings.{first_of, none_in}
use Rattle.timing_wheel.proofs.chains.Chains.first.Goals as goal

low : (c : goal.Else-node-list) → c.args.list < c.self.inside.lists
low c = subst (λ (p : Placement). c.args.list < p.lists) (sym c.self.view_is) c.requires

node_is : (c : goal.Else-node-list) → get_or c.self.inside.next.items c.args.list 0 ≡ c.index-node.result.now
node_is c = let h = low c in sym (c.index-node.ensures ∙ get_or_default c.self.inside.next.items c.args.list _ 0 (omega (arith, c.self.invariant.next_size)))

found : (c : goal.Else-node-list) → (slot : ℕ) × (slot < length c.self.inside.places.items) × (get_or c.self.inside.next.items c.args.list 0 ≡ c.self.inside.lists + slot) × (get_or c.self.inside.places.items slot 0 ≡ c.args.list)
found c = first_of c.self.inside.next.items c.self.inside.previous.items c.self.inside.places.items c.self.inside.lists c.args.list c.self.invariant (low c) (λ e. c.if-node-list.false (sym (node_is c) ∙ e))

slot_is : (c : goal.Else-node-list) → (found c).0 ≡ c.index-node.result.now - c.self.inside.lists
slot_is c = omega (arith, node_is c, (found c).2)

pub overflow_sub-result : goal.overflow_sub-result
overflow_sub-result c = omega (arith, node_is c, (found c).2)

pub returns-then-node-list-clause-none : goal.returns-then-node-list-clause-none
returns-then-node-list-clause-none c =
    let list_low : c.args.list < c.self.inside.lists = subst (λ (p : Placement). c.args.list < p.lists) (sym c.self.view_is) c.requires in
    let alone : get_or c.self.inside.next.items c.args.list 0 ≡ c.args.list = sym (c.index-node.ensures ∙ get_or_default c.self.inside.next.items c.args.list _ 0 (omega (arith, c.self.invariant.next_size))) ∙ c.if-node-list.true in
    subst (λ (p : Placement). (slot : ℕ) → slot < length p.places → get_or p.places slot 0 ≢ c.args.list) c.self.view_is
    (none_in c.self.inside.next.items c.self.inside.previous.items c.self.inside.places.items c.self.inside.lists c.args.list c.self.invariant list_low alone)

pub returns-else-node-list-clause-within : goal.returns-else-node-list-clause-within
returns-else-node-list-clause-within c =
    subst (λ (p : Placement). c.index-node.result.now - c.self.inside.lists < length p.places) c.self.view_is
    (subst (λ (slot : ℕ). slot < length c.self.inside.places.items) (slot_is c) (found c).1)

pub returns-else-node-list-clause-here : goal.returns-else-node-list-clause-here
returns-else-node-list-clause-here c =
    subst (λ (p : Placement). get_or p.places (c.index-node.result.now - c.self.inside.lists) 0 ≡ c.args.list) c.self.view_is
    (subst (λ (slot : ℕ). get_or c.self.inside.places.items slot 0 ≡ c.args.list) (slot_is c) (found c).3)
