-- The ends of bidirectional switches are nets of the netlist.
use Rattle.std.proofs.Common.{◌<◌, ℕ, List, [], ◌∷◌, ◌++◌, Some, None}
use Rattle.std.specs.Prelude.{Option}
use Rattle.std.specs.List.{All, cons_option}
use Rattle.std.proofs.lemmas.List.Elements.{All-nil, All-cons, All-head, All-tail}
use Rattle.udp_table.specs.Primitive.{Primitive}
use Rattle.net_groups.specs.Joins.{AreBelow}
use Rattle.flat_net.specs.declared.parts.Element.{Element}
use Rattle.flat_net.specs.Elements.{IsElement, end_nets, switch_ends}
use Rattle.flat_net.proofs.ElementDecisions.{all_left}

abbrev IsBelow : ℕ → ℕ × ℕ → Type 0
IsBelow count pair = (pair.0 < count) × (pair.1 < count)

below_more : (count : ℕ) (ends : Option (ℕ × ℕ)) (pairs : List (ℕ × ℕ)) → All (λ net. net < count) (end_nets ends) → AreBelow count pairs → AreBelow count (cons_option ends pairs)
below_more count None pairs h rest = rest
below_more count (Some ends) pairs h rest =
    All-cons (IsBelow count) ends pairs
    (All-head (λ net. net < count) ends.0 (ends.1 ∷ []) h, All-head (λ net. net < count) ends.1 [] (All-tail (λ net. net < count) ends.0 (ends.1 ∷ []) h)) rest

pub AreBelow-switch_ends : (count : ℕ) (udps : List Primitive) (elements : List Element) → All (IsElement count udps) elements → AreBelow count (switch_ends elements)
AreBelow-switch_ends count udps [] h = All-nil (IsBelow count)
AreBelow-switch_ends count udps (e ∷ elements) h =
    let first = All-head (IsElement count udps) e elements h in
    let pins : All (λ net. net < count) (end_nets e.ends) = all_left (λ net. net < count) (end_nets e.ends) e.outs (all_left (λ net. net < count) (end_nets e.ends ++ e.outs) e.ins first.nets) in
    below_more count e.ends (switch_ends elements) pins (AreBelow-switch_ends count udps elements (All-tail (IsElement count udps) e elements h))
