-- Two nets have the same least net exactly where they are joined.
use Rattle.std.proofs.Common.{◌≡◌, ◌<◌, ◌≤◌, ℕ, List, get_or, sym, subst, arith}
use Rattle.net_groups.specs.Joins.{Walk, IsJoined, AreGroups}
use Rattle.net_groups.specs.Joins.Walk.{Stay}
use Rattle.net_groups.proofs.Walks.{walk_on, walk_back}

module _ (count : ℕ) (pairs : List (ℕ × ℕ)) (least : List ℕ) (groups : AreGroups count pairs least) (a b : ℕ) (a-lt : a < count) (b-lt : b < count) where
  pub same_least : IsJoined pairs a b → get_or least a 0 ≡ get_or least b 0
  same_least walk =
      let first : get_or least a 0 ≤ get_or least b 0 = (groups.each a a-lt).below (get_or least b 0) (walk_on walk (groups.each b b-lt).joined) in
      let second : get_or least b 0 ≤ get_or least a 0 = (groups.each b b-lt).below (get_or least a 0) (walk_on (walk_back walk) (groups.each a a-lt).joined) in
      omega arith

  pub joined_by_least : get_or least a 0 ≡ get_or least b 0 → IsJoined pairs a b
  joined_by_least same =
      walk_on (subst (λ (n : ℕ). IsJoined pairs a n) same (groups.each a a-lt).joined) (walk_back (groups.each b b-lt).joined)

-- the least net is no greater than the net itself
pub least_below : (count : ℕ) (pairs : List (ℕ × ℕ)) (least : List ℕ) → AreGroups count pairs least → (a : ℕ) → a < count → get_or least a 0 ≤ a
least_below count pairs least groups a lt = (groups.each a lt).below a Stay
