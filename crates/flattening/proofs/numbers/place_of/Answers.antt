use Rattle.std.proofs.Common.{◌≡◌, ◌∙◌, List, Bool, ℕ, map, length, ap, arith}
use Rattle.std.specs.Prelude.{is_some}
use Rattle.std.specs.List.{range_with_len}
use Rattle.std.proofs.lemmas.List.FromFn.{length-map-range_with_len}
use Rattle.netlist_plan.specs.Flattening.{bit_count, is_bound, number_outside, numbers_from}
use Rattle.flattening.specs.declared.places.Place.{Place}
use Rattle.flattening.specs.Slots.{slot_numbers}
use Rattle.flattening.proofs.SlotLemmas.{slots-bound, slots-numbers}
use Rattle.flattening.proofs.numbers.place_of.Goals as goal

pub slot_numbers-requires : goal.slot_numbers-requires
slot_numbers-requires c =
    let long : length c.deref.result.now ≡ c.in_ok-count.count =
    ap length (c.deref.ensures.value ∙ c.in_ok-slots.ensures) ∙ length-map-range_with_len (number_outside c.args.outside.now) 0 c.in_ok-count.count in
    omega (arith, c.in_ok-count.ensures.room)

abbrev made : ℕ → List ℕ → List ℕ → List Bool → Place
made master prefix numbers bound = record { master = master; prefix = prefix; numbers = numbers; bound = bound }

same_place : (master : ℕ) (p p' n n' : List ℕ) (b b' : List Bool) → p ≡ p' → n ≡ n' → b ≡ b' → made master p n b ≡ made master p' n' b'
same_place master p p' n n' b b' e f g =
    ap (λ (x : List ℕ). made master x n b) e ∙ ap (λ (x : List ℕ). made master p' x b) f ∙ ap (λ (x : List Bool). made master p' n' x) g

pub returns : goal.returns
returns c =
    let outside = c.args.outside.now in
    let count : c.in_ok-count.count ≡ bit_count c.args.nets.now = c.in_ok-count.ensures.count ∙ c.bit_count.ensures in
    let slots : c.in_ok-slots.slots.items ≡ map (number_outside outside) (range_with_len 0 (bit_count c.args.nets.now)) =
    c.in_ok-slots.ensures ∙ ap (λ (n : ℕ). map (number_outside outside) (range_with_len 0 n)) count in
    same_place c.args.master c.from_vec.result c.args.prefix.items c.from_vec-2.result (numbers_from outside c.args.next (range_with_len 0 (bit_count c.args.nets.now)))
    c.from_vec-3.result (map (is_bound outside) (range_with_len 0 (bit_count c.args.nets.now)))
    c.from_vec.ensures
    (c.from_vec-2.ensures ∙ c.in_ok-numbers.ensures ∙ ap (slot_numbers c.args.next) (c.deref.ensures.value ∙ slots) ∙ slots-numbers outside c.args.next (range_with_len 0 (bit_count c.args.nets.now)))
    (c.from_vec-3.ensures ∙ c.in_ok-slot_flags.ensures ∙ ap (map is_some) (c.deref-2.ensures.value ∙ slots) ∙ slots-bound outside (range_with_len 0 (bit_count c.args.nets.now)))
