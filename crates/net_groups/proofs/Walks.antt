-- Walks can be joined, turned and taken step by step into another relation.
use Rattle.std.proofs.Common.{◌≡◌, ◌∙◌, ℕ, refl, sym, subst}
use Rattle.net_groups.specs.Joins.{Walk}
use Rattle.net_groups.specs.Joins.Walk.{Stay, Ahead, Back}

pub walk_on : {R : ℕ → ℕ → Type 0} {a b c : ℕ} → Walk R a b → Walk R b c → Walk R a c
walk_on Stay w = w
walk_on (Ahead r v) w = Ahead r (walk_on v w)
walk_on (Back r v) w = Back r (walk_on v w)

pub walk_one : {R : ℕ → ℕ → Type 0} {a b : ℕ} → R a b → Walk R a b
walk_one r = Ahead r Stay

pub walk_back : {R : ℕ → ℕ → Type 0} {a b : ℕ} → Walk R a b → Walk R b a
walk_back Stay = Stay
walk_back (Ahead r v) = walk_on (walk_back v) (Back r Stay)
walk_back (Back r v) = walk_on (walk_back v) (Ahead r Stay)

pub walk_into : {R S : ℕ → ℕ → Type 0} → ((a b : ℕ) → R a b → Walk S a b) → {a b : ℕ} → Walk R a b → Walk S a b
walk_into f Stay = Stay
walk_into f (Ahead {a = a} {b = b} r v) = walk_on (f a b r) (walk_into f v)
walk_into f (Back {a = a} {b = b} r v) = walk_on (walk_back (f b a r)) (walk_into f v)

-- what each step keeps is the same at both ends
pub walk_keeps : {R : ℕ → ℕ → Type 0} (f : ℕ → ℕ) → ((a b : ℕ) → R a b → f a ≡ f b) → {a b : ℕ} → Walk R a b → f a ≡ f b
walk_keeps f same Stay = refl
walk_keeps f same (Ahead {a = a} {b = b} r v) = same a b r ∙ walk_keeps f same v
walk_keeps f same (Back {a = a} {b = b} r v) = sym (same b a r) ∙ walk_keeps f same v

pub walk_same : {R : ℕ → ℕ → Type 0} {a b : ℕ} → a ≡ b → Walk R a b
walk_same {R = R} {a = a} e = subst (λ (x : ℕ). Walk R a x) e Stay
