use Rattle.std.proofs.Common.{◌≡◌, ℕ, Option, Some, is_some, ap, ◌∙◌, inl, nat_cmp}
use Rattle.std.specs.FinMap.{FinMap, get, get-insert}
use Rattle.std.proofs.lemmas.Cmp.{nat_cmp_total}
use Rattle.timing_wheel.proofs.tests.a_key_put_twice_has_its_last_time.Goals as goal

pub put-requires-3-clause-room : goal.put-requires-3-clause-room
put-requires-3-clause-room g c =
    let first : get c.put.new.self.times 7 ≡ Some 5 = ap (λ (m : FinMap nat_cmp ℕ). get m 7) c.put.ensures.times ∙ get-insert nat_cmp_total c.reserve.new.self.times 7 5 7 in
    let second : get c.put-2.new.self.times 7 ≡ get c.put.new.self.times 7 = ap (λ (m : FinMap nat_cmp ℕ). get m 7) c.put-2.ensures.times ∙ get-insert nat_cmp_total c.put.new.self.times 3 5 7 in
    inl (ap (λ (o : Option ℕ). is_some o) (second ∙ first))
