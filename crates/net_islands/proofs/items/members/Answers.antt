use Rattle.std.proofs.Common.{◌≡◌, ◌+◌, ◌<◌, ℕ, List, [], ◌∷◌, ◌++◌, length, take, get_or, sym, ap, ◌∙◌, arith}
use Rattle.std.specs.List.{enumerate_from, zip}
use Rattle.std.proofs.lemmas.List.{take_more, length-take-le, get_or_default}
use Rattle.std.proofs.lemmas.List.FromFn.{length-enumerate_from}
use Rattle.net_islands.specs.declared.parts.NetClass.{NetClass}
use Rattle.net_islands.specs.Islands.{members}
use Rattle.net_islands.proofs.Ranges.{enumerate_more, zip-push}
use Rattle.net_islands.proofs.items.members.Goals as goal

members_more : (numbers : List ℕ) (nets : List NetClass) (i : ℕ) (d : NetClass) → length numbers ≡ length nets → i < length nets →
    members (take i numbers) (take i nets) ++ (get_or numbers i 0, (i, get_or nets i d)) ∷ [] ≡ members (take (i + 1) numbers) (take (i + 1) nets)
members_more numbers nets i d all lt =
    let n-long : length (take i numbers) ≡ i = length-take-le i numbers (omega arith) in
    let c-long : length (take i nets) ≡ i = length-take-le i nets (omega arith) in
    sym (ap (λ (xs : List ℕ). zip xs (enumerate_from 0 (take (i + 1) nets))) (take_more numbers i 0 (omega arith))
    ∙ ap (λ (ys : List (ℕ × NetClass)). zip (take i numbers ++ get_or numbers i 0 ∷ []) ys)
    (enumerate_more nets i (get_or nets i d) lt (get_or_default nets i d (get_or nets i d) lt))
    ∙ zip-push (take i numbers) (enumerate_from 0 (take i nets)) (get_or numbers i 0) (i, get_or nets i d)
    (n-long ∙ sym c-long ∙ sym (length-enumerate_from 0 (take i nets))))

pub loop-net-preserved : goal.loop-net-preserved
loop-net-preserved c =
    rw (c.in_ok-push.ensures.items, c.loop-net.invariant)
    (members_more c.args.numbers.now c.args.nets.now c.loop-net.net _ c.requires.all c.loop-net-test.true)
