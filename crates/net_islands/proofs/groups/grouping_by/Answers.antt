use Rattle.std.proofs.Common.{◌≡◌, ◌<◌, ℕ, List, length, sym, ap, subst, ◌∙◌}
use Rattle.std.specs.List.{All}
use Rattle.std.proofs.lemmas.List.{length-map}
use Rattle.std.proofs.lemmas.List.FromFn.{length-map-range_with_len}
use Rattle.flat_net.specs.declared.parts.Island.{Island}
use Rattle.net_islands.specs.declared.parts.NetPlace.{NetPlace}
use Rattle.net_islands.specs.declared.parts.Grouping.{Grouping}
use Rattle.net_islands.specs.Leasts.{AreRoots, roots, island_count, island_numbers, place, places}
use Rattle.net_islands.specs.Islands.{islands, net_places}
use Rattle.net_islands.proofs.RootLemmas.{numbers-below}
use Rattle.net_islands.proofs.groups.grouping_by.Goals as goal

within_count : (least slice : List ℕ) (count : ℕ) → AreRoots least → slice ≡ island_numbers least → count ≡ island_count least → All (λ (n : ℕ). n < count) slice
within_count least slice count are e f =
    subst (λ (k : ℕ). All (λ (n : ℕ). n < k) slice) (sym f)
    (subst (λ (xs : List ℕ). All (λ (n : ℕ). n < island_count least) xs) (sym e) (numbers-below least are))

as_long : (numbers within : List ℕ) → within ≡ places numbers → length within ≡ length numbers
as_long numbers within e = ap length e ∙ length-map-range_with_len (place numbers) 0 (length numbers)

numbers-long : (least slice : List ℕ) → slice ≡ island_numbers least → length slice ≡ length least
numbers-long least slice e = ap length e ∙ length-map least (λ (n : ℕ). length (roots least n))

made : List NetPlace → List Island → Grouping
made ps is = record { places = ps; islands = is }

pub places-requires-clause-within : goal.places-requires-clause-within
places-requires-clause-within c =
    within_count c.args.leasts.now c.as_slice-numbers.result.now c.in_ok-count.count c.requires.roots
    (c.as_slice-numbers.ensures.value ∙ c.in_ok-count.ensures.numbers) c.in_ok-count.ensures.count

pub islands-requires-clause-within : goal.islands-requires-clause-within
islands-requires-clause-within c =
    within_count c.args.leasts.now c.as_slice-numbers.result.now c.in_ok-count.count c.requires.roots
    (c.as_slice-numbers.ensures.value ∙ c.in_ok-count.ensures.numbers) c.in_ok-count.ensures.count

pub net_places-requires : goal.net_places-requires
net_places-requires c = as_long c.as_slice-numbers.result.now c.as_slice-within.result.now (c.as_slice-within.ensures.value ∙ c.in_ok-within.ensures)

pub islands-requires-clause-places : goal.islands-requires-clause-places
islands-requires-clause-places c =
    as_long c.as_slice-numbers.result.now c.as_slice-within.result.now (c.as_slice-within.ensures.value ∙ c.in_ok-within.ensures)
    ∙ numbers-long c.args.leasts.now c.as_slice-numbers.result.now (c.as_slice-numbers.ensures.value ∙ c.in_ok-count.ensures.numbers)
    ∙ c.requires.all

pub returns : goal.returns
unfolding made
returns c =
    let least = c.args.leasts.now in
    let numbers : c.as_slice-numbers.result.now ≡ island_numbers least = c.as_slice-numbers.ensures.value ∙ c.in_ok-count.ensures.numbers in
    let within : c.as_slice-within.result.now ≡ places (island_numbers least) = c.as_slice-within.ensures.value ∙ c.in_ok-within.ensures ∙ ap places numbers in
    let places-are : c.from_vec.result ≡ net_places (island_numbers least) (places (island_numbers least))
    = c.from_vec.ensures ∙ c.in_ok-places.ensures
    ∙ ap (λ (xs : List ℕ). net_places xs c.as_slice-within.result.now) numbers
    ∙ ap (λ (xs : List ℕ). net_places (island_numbers least) xs) within in
    let islands-are : c.from_vec-2.result ≡ islands (island_count least) (island_numbers least) (places (island_numbers least)) c.args.nets.now c.args.elements.now c.args.resistive.now
    = c.from_vec-2.ensures ∙ c.in_ok-islands.ensures
    ∙ ap (λ (k : ℕ). islands k c.as_slice-numbers.result.now c.as_slice-within.result.now c.args.nets.now c.args.elements.now c.args.resistive.now) c.in_ok-count.ensures.count
    ∙ ap (λ (xs : List ℕ). islands (island_count least) xs c.as_slice-within.result.now c.args.nets.now c.args.elements.now c.args.resistive.now) numbers
    ∙ ap (λ (xs : List ℕ). islands (island_count least) (island_numbers least) xs c.args.nets.now c.args.elements.now c.args.resistive.now) within in
    ap (λ (ps : List NetPlace). made ps c.from_vec-2.result) places-are
    ∙ ap (λ (is : List Island). made (net_places (island_numbers least) (places (island_numbers least))) is) islands-are
