-- Two lists side by side, one more element at a time.
use Rattle.std.proofs.Common.{◌≡◌, ℕ, zero, suc, ◌+◌, ◌<◌, ◌≤◌, List, [], ◌∷◌, ◌++◌, length, get_or, map, take, refl, sym, ap, subst, ◌∙◌, arith}
use Rattle.std.specs.List.{zip}

module _ {X Y Z : Type 0} (f : X × Y → Z) where
  one_more : (xs : List X) (ys : List Y) (i : ℕ) (c x : X) (d y : Y) → i < length xs → i < length ys → x ≡ get_or xs i c → y ≡ get_or ys i d
      → map f (zip (take (suc i) xs) (take (suc i) ys)) ≡ map f (zip (take i xs) (take i ys)) ++ f (x, y) ∷ []
  one_more [] ys i c x d y lx ly ex ey = absurd (omega arith)
  one_more (a ∷ xs) [] i c x d y lx ly ex ey = absurd (omega arith)
  one_more (a ∷ xs) (b ∷ ys) zero c x d y lx ly ex ey = let same : (a, b) ≡ (x, y) = cc in ap (λ p. f p ∷ []) same
  one_more (a ∷ xs) (b ∷ ys) (suc i) c x d y lx ly ex ey = ap (λ zs. f (a, b) ∷ zs) (one_more xs ys i c x d y (omega arith) (omega arith) ex ey)

  pub paired-more : (xs : List X) (ys : List Y) (i : ℕ) (c x : X) (d y : Y) → i < length xs → i < length ys → x ≡ get_or xs i c → y ≡ get_or ys i d
      → map f (zip (take (i + 1) xs) (take (i + 1) ys)) ≡ map f (zip (take i xs) (take i ys)) ++ f (x, y) ∷ []
  paired-more xs ys i c x d y lx ly ex ey =
      subst (λ k. map f (zip (take k xs) (take k ys)) ≡ map f (zip (take i xs) (take i ys)) ++ f (x, y) ∷ []) (let next : suc i ≡ i + 1 = omega arith in next)
      (one_more xs ys i c x d y lx ly ex ey)

  at : (xs : List X) (ys : List Y) (i : ℕ) (c x : X) (d y : Y) (z : Z) → i < length xs → i < length ys → x ≡ get_or xs i c → y ≡ get_or ys i d → get_or (map f (zip xs ys)) i z ≡ f (x, y)
  at [] ys i c x d y z lx ly ex ey = absurd (omega arith)
  at (a ∷ xs) [] i c x d y z lx ly ex ey = absurd (omega arith)
  at (a ∷ xs) (b ∷ ys) zero c x d y z lx ly ex ey = let same : (a, b) ≡ (x, y) = cc in ap f same
  at (a ∷ xs) (b ∷ ys) (suc i) c x d y z lx ly ex ey = at xs ys i c x d y z (omega arith) (omega arith) ex ey

  pub paired-at : (xs : List X) (ys : List Y) (zs : List Z) (i : ℕ) (c x : X) (d y : Y) (z : Z) → zs ≡ map f (zip xs ys) → i < length xs → i < length ys
      → x ≡ get_or xs i c → y ≡ get_or ys i d → z ≡ get_or zs i z → z ≡ f (x, y)
  paired-at xs ys zs i c x d y z same lx ly ex ey ez = ez ∙ ap (λ list. get_or list i z) same ∙ at xs ys i c x d y z lx ly ex ey

  pub paired-length : (xs : List X) (ys : List Y) → length xs ≡ length ys → length (map f (zip xs ys)) ≡ length ys
  paired-length [] [] same = refl
  paired-length [] (y ∷ ys) same = absurd (omega (arith, same))
  paired-length (x ∷ xs) [] same = absurd (omega (arith, same))
  paired-length (x ∷ xs) (y ∷ ys) same = let rest = paired-length xs ys (omega (arith, same)) in omega (arith, rest)

-- a list has something at each index below its length
pub element-at : {X : Type 0} (xs : List X) (i : ℕ) → i < length xs → (x : X) × (x ≡ get_or xs i x)
element-at [] i lt = absurd (omega arith)
element-at (a ∷ xs) zero lt = (a, refl)
element-at (a ∷ xs) (suc i) lt = element-at xs i (omega arith)
