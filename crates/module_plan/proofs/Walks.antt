-- Steps of loops over lists.
use Rattle.std.proofs.Common.{◌≡◌, ℕ, zero, suc, ◌+◌, ◌<◌, ◌≤◌, List, [], ◌∷◌, ◌++◌, map, length, get_or, take, drop, Result, Ok, Err, IfOk, refl, sym, ap, ◌∙◌, append_assoc, add_assoc, add-one, arith}
use Rattle.std.specs.List.{enumerate_from, range_with_len, zip}
use Rattle.std.proofs.lemmas.List.{append-nil, drop_all, drop_more, take_more}

-- ---- lists that are made with a number that goes along

-- one element more
pub take_at : {X : Type 0} (xs : List X) (i : ℕ) (x : X) → i < length xs → x ≡ get_or xs i x → take (i + 1) xs ≡ take i xs ++ x ∷ []
take_at {X} xs i x lt at = take_more xs i x lt ∙ ap (λ (y : X). take i xs ++ y ∷ []) (sym at)

module _ {X : Type 0} (count : List X → ℕ) (count_push : (xs : List X) (x : X) → count (xs ++ x ∷ []) ≡ count xs + count (x ∷ [])) where
  pub next_more : (n : ℕ) (xs : List X) (i : ℕ) (x : X) → i < length xs → x ≡ get_or xs i x → (k m : ℕ) → k ≡ n + count (take i xs) → m ≡ k + count (x ∷ []) → m ≡ n + count (take (i + 1) xs)
  next_more n xs i x lt at k m here more =
      more
      ∙ ap (λ (j : ℕ). j + count (x ∷ [])) here
      ∙ add_assoc n (count (take i xs)) (count (x ∷ []))
      ∙ ap (λ (j : ℕ). n + j) (sym (ap count (take_at xs i x lt at) ∙ count_push (take i xs) x))

module _ {X A : Type 0} (f : ℕ → List X → List A) (count : List X → ℕ) (f_push : (n : ℕ) (xs : List X) (x : X) → f n (xs ++ x ∷ []) ≡ f n xs ++ f (n + count xs) (x ∷ [])) where
  pub made_more : (n : ℕ) (xs : List X) (i : ℕ) (x : X) → i < length xs → x ≡ get_or xs i x → (k : ℕ) → k ≡ n + count (take i xs) →
      (start made more : List A) → made ≡ start ++ f n (take i xs) → more ≡ made ++ f k (x ∷ []) → more ≡ start ++ f n (take (i + 1) xs)
  made_more n xs i x lt at k here start made more before is =
      is
      ∙ ap (λ (m : List A). m ++ f k (x ∷ [])) before
      ∙ append_assoc start (f n (take i xs)) (f k (x ∷ []))
      ∙ ap (λ (j : ℕ). start ++ (f n (take i xs) ++ f j (x ∷ []))) here
      ∙ ap (λ (m : List A). start ++ m) (sym (ap (f n) (take_at xs i x lt at) ∙ f_push n (take i xs) x))

-- ---- elements with their places

-- what is left at an index is the element there and what is left behind it
pub left_at : {X : Type 0} (xs : List X) (i : ℕ) (x : X) → i < length xs → x ≡ get_or xs i x → drop i xs ≡ x ∷ drop (i + 1) xs
left_at {X} xs i x lt at = drop_more xs i x lt ∙ ap (λ (y : X). y ∷ drop (i + 1) xs) (sym at)

-- where what is made so far and what the rest gives are the whole, so are they an element later, and at the end all is made; a
-- list is seen through a function that gives one element for each
module _ {X Y A : Type 0} (f : ℕ × Y → A) (seen_as : List X → List Y) (one : X → Y) (cons : (x : X) (xs : List X) → seen_as (x ∷ xs) ≡ one x ∷ seen_as xs) (nil : seen_as [] ≡ [])
    (xs : List X) (i place : ℕ) (made whole : List A) (seen : made ++ map f (enumerate_from place (seen_as (drop i xs))) ≡ whole) where
  pub seen_more : (x : X) → i < length xs → x ≡ get_or xs i x → (more : List A) → more ≡ made ++ f (place, one x) ∷ [] → more ++ map f (enumerate_from (place + 1) (seen_as (drop (i + 1) xs))) ≡ whole
  seen_more x lt at more is =
      let rest = seen_as (drop (i + 1) xs) in
      ap (λ (m : List A). m ++ map f (enumerate_from (place + 1) rest)) is
      ∙ append_assoc made (f (place, one x) ∷ []) (map f (enumerate_from (place + 1) rest))
      ∙ sym (ap (λ (ys : List Y). made ++ map f (enumerate_from place ys)) (ap seen_as (left_at xs i x lt at) ∙ cons x (drop (i + 1) xs)))
      ∙ seen

  pub seen_all : length xs ≤ i → made ≡ whole
  seen_all le =
      sym (append-nil made)
      ∙ sym (ap (λ (ys : List Y). made ++ map f (enumerate_from place ys)) (ap seen_as (drop_all i xs le) ∙ nil))
      ∙ seen

-- ---- two lists side by side

abbrev nothing : (X : Type 0) → List X
nothing X = []

zip-nil : {X Y : Type 0} (xs : List X) → zip xs (nothing Y) ≡ nothing (X × Y)
zip-nil [] = refl
zip-nil (x ∷ xs) = refl

-- the same as above along two lists
module _ {X Y A : Type 0} (f : ℕ × (X × Y) → A) (xs : List X) (ys : List Y) (i : ℕ) (made whole : List A) (seen : made ++ map f (enumerate_from i (zip (drop i xs) (drop i ys))) ≡ whole) where
  pub paired_more : (x : X) (y : Y) → i < length xs → i < length ys → x ≡ get_or xs i x → y ≡ get_or ys i y → (more : List A) → more ≡ made ++ f (i, (x, y)) ∷ [] →
      more ++ map f (enumerate_from (i + 1) (zip (drop (i + 1) xs) (drop (i + 1) ys))) ≡ whole
  paired_more x y ltx lty atx aty more is =
      ap (λ (m : List A). m ++ map f (enumerate_from (i + 1) (zip (drop (i + 1) xs) (drop (i + 1) ys)))) is
      ∙ append_assoc made (f (i, (x, y)) ∷ []) (map f (enumerate_from (i + 1) (zip (drop (i + 1) xs) (drop (i + 1) ys))))
      ∙ sym (ap (λ (vs : List X). made ++ map f (enumerate_from i (zip vs (drop i ys)))) (left_at xs i x ltx atx)
      ∙ ap (λ (vs : List Y). made ++ map f (enumerate_from i (zip (x ∷ drop (i + 1) xs) vs))) (left_at ys i y lty aty))
      ∙ seen

  pub paired_left : length xs ≤ i → made ≡ whole
  paired_left le =
      sym (append-nil made)
      ∙ sym (ap (λ (vs : List X). made ++ map f (enumerate_from i (zip vs (drop i ys)))) (drop_all i xs le))
      ∙ seen

  pub paired_right : length ys ≤ i → made ≡ whole
  paired_right le =
      sym (append-nil made)
      ∙ sym (ap (λ (vs : List Y). made ++ map f (enumerate_from i (zip (drop i xs) vs))) (drop_all i ys le)
      ∙ ap (λ (ps : List (X × Y)). made ++ map f (enumerate_from i ps)) (zip-nil (drop i xs)))
      ∙ seen

-- ---- numbers in a row

range-suc : (a n : ℕ) → range_with_len a (suc n) ≡ range_with_len a n ++ (a + n) ∷ []
range-suc a zero = ap (λ (k : ℕ). k ∷ []) (omega arith)
range-suc a (suc n) =
    ap (λ (rest : List ℕ). a ∷ rest) (range-suc (a + 1) n)
    ∙ ap (λ (k : ℕ). a ∷ (range_with_len (a + 1) n ++ k ∷ [])) (omega arith)

pub range-more : (a n : ℕ) (start made more : List ℕ) (last : ℕ) → made ≡ start ++ range_with_len a n → last ≡ a + n → more ≡ made ++ last ∷ [] → more ≡ start ++ range_with_len a (n + 1)
range-more a n start made more last before is end =
    end
    ∙ ap (λ (m : List ℕ). m ++ last ∷ []) before
    ∙ append_assoc start (range_with_len a n) (last ∷ [])
    ∙ ap (λ (k : ℕ). start ++ (range_with_len a n ++ k ∷ [])) is
    ∙ ap (λ (m : List ℕ). start ++ m) (sym (range-suc a n))
    ∙ ap (λ (k : ℕ). start ++ range_with_len a k) (sym (add-one n))

-- ---- answers

-- where a step gives a value, what is known of that gives more
pub if_ok_then : {T E : Type 0} (r : Result T E) (P Q : T → Type 0) → IfOk r P → ((t : T) → P t → Q t) → IfOk r Q
if_ok_then (Ok t) P Q given then = then t given
if_ok_then (Err e) P Q given then = tt
