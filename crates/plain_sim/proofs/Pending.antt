-- The least of the times for which something is pending.
use Rattle.std.proofs.Common.{◌≡◌, ℕ, ◌<◌, ◌≤◌, List, [], ◌∷◌, ◌++◌, Option, Some, None, refl, ap, ◌∙◌, Bool, true, false, arith, inl, inr}
use Rattle.std.specs.Prelude.{min, nat_le, ◌||◌}
use Rattle.std.specs.List.{list_any}
use Rattle.std.proofs.lemmas.Bool.{cases_lt, le-leb, lt-leb}
use Rattle.machine.specs.Run.{lesser, least}
use Rattle.plain_sim.specs.Times.{earlier}

min-assoc : (a b c : ℕ) → min a (min b c) ≡ min (min a b) c
min-assoc a b c = omega arith

-- the least of two lists is the lesser of their least
pub least-append : (xs ys : List ℕ) → least (xs ++ ys) ≡ earlier (least xs) (least ys)
least-append [] ys = refl
least-append (x ∷ xs) ys = ap (λ o. Some (lesser x o)) (least-append xs ys) ∙ by_cases (least xs) (least ys)
  where
    by_cases : (a b : Option ℕ) → Some (lesser x (earlier a b)) ≡ earlier (Some (lesser x a)) b
    by_cases None b = refl
    by_cases (Some a) None = refl
    by_cases (Some a) (Some b) = ap (λ n. Some n) (min-assoc x a b)

-- whether a time isn't later, where there is one
abbrev pub is_past : ℕ → Option ℕ → Bool
is_past now None = false
is_past now (Some at) = nat_le at now

-- one of the times isn't later exactly where the least isn't
pub least-past : (now : ℕ) (times : List ℕ) → list_any (λ at. nat_le at now) times ≡ is_past now (least times)
least-past now [] = refl
least-past now (x ∷ xs) = ap (λ b. nat_le x now || b) (least-past now xs) ∙ by_rest (least xs)
  where
    by_rest : (o : Option ℕ) → nat_le x now || is_past now o ≡ is_past now (Some (lesser x o))
    by_rest None = by_test (nat_le x now)
      where
        by_test : (b : Bool) → b || false ≡ b
        by_test true = refl
        by_test false = refl
    by_rest (Some a) = elim (cases_lt now x) [
      | inl later ↦ elim (cases_lt now a) [
        | inl late ↦ rw (lt-leb x now later, lt-leb a now late, lt-leb (min x a) now (omega arith)) refl
        | inr soon ↦ rw (lt-leb x now later, le-leb a now soon, le-leb (min x a) now (omega arith)) refl
      ]
      | inr early ↦ rw (le-leb x now early, le-leb (min x a) now (omega arith)) refl
    ]
