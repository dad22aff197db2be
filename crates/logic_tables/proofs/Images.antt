-- The value of a gate on a list, and that of its tail.
use Rattle.std.specs.Prelude.{ℕ, ◌+◌, ◌%◌, nat_eq, cond, ◌≡◌, Bool, true, false, not, ◌&&◌, ◌||◌, List, [], ◌∷◌, ◌++◌, map, fold, length, if◌then◌else◌, refl}
use Rattle.std.proofs.Common.{zero-add, sym, ◌∙◌, ap, arith}
use Rattle.std.proofs.lemmas.List.{map-append}
use Rattle.std.proofs.lemmas.List.Sums.{sum_by-cons}
use Rattle.std.proofs.lemmas.Simd.{map-map}
use Rattle.std.proofs.lemmas.List.Folds.{list_all-append, list_any-append}
use Rattle.std.specs.List.{flat_map}
use Rattle.level_range.specs.declared.range.Logic.{Logic}
use Rattle.level_range.specs.declared.range.Logic.TheVariants.{Zero, One, X, Z}
use Rattle.logic_tables.specs.Cells.{cell_of, only_cell, and_cells, or_cells, xor_cells, not_cells}
use Rattle.logic_tables.specs.TableFold.{table_fold}
use Rattle.logic_tables.specs.declared.kinds.FoldKind.{FoldKind}
use Rattle.logic_tables.specs.declared.kinds.FoldKind.TheVariants.{And, Nand, Or, Nor, Xor, Xnor, Buf, Not}
use Rattle.logic_tables.specs.Fold.{choices_of, choices, is_odd, all_bits, any_bit, image, gate_value, Takes}

-- a list that has an element
abbrev pub HasSome : {A : Type 0} → List A → Type 0
HasSome [] = ⊥
HasSome (_ ∷ _) = Unit {0}

HasSome-map : {A B : Type 0} (f : A → B) (xs : List A) → HasSome xs → HasSome (map f xs)
HasSome-map f [] h = h
HasSome-map f (x ∷ xs) h = tt

HasSome-append : {A : Type 0} (xs ys : List A) → HasSome xs → HasSome (xs ++ ys)
HasSome-append [] ys h = absurd h
HasSome-append (x ∷ xs) ys h = tt

pub HasSome-choices : (pins : List Logic) → HasSome (choices pins)
HasSome-choices [] = tt
HasSome-choices (Zero ∷ pins) = HasSome-append _ _ (HasSome-map (λ bits. false ∷ bits) (choices pins) (HasSome-choices pins))
HasSome-choices (One ∷ pins) = HasSome-append _ _ (HasSome-map (λ bits. true ∷ bits) (choices pins) (HasSome-choices pins))
HasSome-choices (X ∷ pins) = HasSome-append _ _ (HasSome-map (λ bits. false ∷ bits) (choices pins) (HasSome-choices pins))
HasSome-choices (Z ∷ pins) = HasSome-append _ _ (HasSome-map (λ bits. false ∷ bits) (choices pins) (HasSome-choices pins))

-- the algebra of the two lemmas below
all_true : (ht hf n a : Bool) → (ht && ((ht || not n) && (hf || a))) ≡ ((ht || false) && (hf || a))
all_true ht hf n a = grind arith

all_false : (ht hf n a : Bool) → (hf && ((ht || not n) && (hf || a))) ≡ ((ht || not n) && (hf || false))
all_false ht hf n a = grind arith

any_true : (ht hf n a : Bool) → (ht || ((ht && n) || (hf && not a))) ≡ ((ht && true) || (hf && not a))
any_true ht hf n a = grind arith

any_false : (ht hf n a : Bool) → (hf || ((ht && n) || (hf && not a))) ≡ ((ht && n) || (hf && true))
any_false ht hf n a = grind arith

none_all : (ht hf : Bool) → true ≡ ((ht || true) && (hf || true))
none_all ht hf = grind arith

none_any : (ht hf : Bool) → false ≡ ((ht && false) || (hf && false))
none_any ht hf = grind arith

-- what the tests of a mapped list say, by those of the list
pub all_bits-map : (h : Bool → Bool) (rs : List Bool) → all_bits (map h rs) ≡ ((h true || not (any_bit rs)) && (h false || all_bits rs))
all_bits-map h [] = none_all (h true) (h false)
all_bits-map h (true ∷ rs) = rw (all_bits-map h rs) (all_true (h true) (h false) (any_bit rs) (all_bits rs))
all_bits-map h (false ∷ rs) = rw (all_bits-map h rs) (all_false (h true) (h false) (any_bit rs) (all_bits rs))

pub any_bit-map : (h : Bool → Bool) (rs : List Bool) → any_bit (map h rs) ≡ ((h true && any_bit rs) || (h false && not (all_bits rs)))
any_bit-map h [] = none_any (h true) (h false)
any_bit-map h (true ∷ rs) = rw (any_bit-map h rs) (any_true (h true) (h false) (any_bit rs) (all_bits rs))
any_bit-map h (false ∷ rs) = rw (any_bit-map h rs) (any_false (h true) (h false) (any_bit rs) (all_bits rs))

pub any_bit-from_all_bits : (rs : List Bool) → HasSome rs → all_bits rs ≡ true → any_bit rs ≡ true
any_bit-from_all_bits [] h e = absurd h
any_bit-from_all_bits (true ∷ rs) h e = refl
any_bit-from_all_bits (false ∷ rs) h e = cc

-- a gate on a list, by what it gives for the first value and for the rest
module _ (gate : List Bool → Bool) (step : Bool → Bool → Bool)
    (law : (b : Bool) (bits : List Bool) → gate (b ∷ bits) ≡ step b (gate bits)) where
  map-cons : (b : Bool) (cs : List (List Bool)) → map gate (map (λ bits. b ∷ bits) cs) ≡ map (step b) (map gate cs)
  map-cons b [] = refl
  map-cons b (c ∷ cs) = rw (law b c, map-cons b cs)

  results : (pins : List Logic) → List Bool
  results pins = map gate (choices pins)

  pub results-cons : (pin : Logic) (pins : List Logic) →
      map gate (choices (pin ∷ pins)) ≡ flat_map (λ b. map (step b) (map gate (choices pins))) (choices_of pin)
  results-cons Zero pins = simp (map-append, map-cons)
  results-cons One pins = simp (map-append, map-cons)
  results-cons X pins = simp (map-append, map-cons)
  results-cons Z pins = simp (map-append, map-cons)

-- the tests of all results, by the tests of the rest's
abbrev pub all_over : (Bool → Bool → Bool) → List Bool → Bool → Bool → Bool
all_over step [] a n = true
all_over step (b ∷ bs) a n = ((step b true || not n) && (step b false || a)) && all_over step bs a n

abbrev pub any_over : (Bool → Bool → Bool) → List Bool → Bool → Bool → Bool
any_over step [] a n = false
any_over step (b ∷ bs) a n = ((step b true && n) || (step b false && not a)) || any_over step bs a n

all_bits-over : (step : Bool → Bool → Bool) (bs rs : List Bool) →
    all_bits (flat_map (λ b. map (step b) rs) bs) ≡ all_over step bs (all_bits rs) (any_bit rs)
all_bits-over step [] rs = refl
all_bits-over step (b ∷ bs) rs = simp (list_all-append, all_bits-map, all_bits-over step bs rs)

any_bit-over : (step : Bool → Bool → Bool) (bs rs : List Bool) →
    any_bit (flat_map (λ b. map (step b) rs) bs) ≡ any_over step bs (all_bits rs) (any_bit rs)
any_bit-over step [] rs = refl
any_bit-over step (b ∷ bs) rs = simp (list_any-append, any_bit-map, any_bit-over step bs rs)

-- one value for results that are all 1, or of which one is
abbrev pub value_of : Bool → Bool → Logic
value_of a n = if a then One else if n then X else Zero

-- a gate on a list is the fold of a table, where the table has what the gate does at one more value
module _ (gate : List Bool → Bool) (step : Bool → Bool → Bool) (cells : List (List Logic)) (unit : Logic)
    (gate-cons : (b : Bool) (bits : List Bool) → gate (b ∷ bits) ≡ step b (gate bits))
    (at_none : image (gate [] ∷ []) ≡ unit)
    (at_one : (pin : Logic) (a n : Bool) → (a ≡ true → n ≡ true) →
    value_of (all_over step (choices_of pin) a n) (any_over step (choices_of pin) a n) ≡ cell_of cells pin (value_of a n))
    (unit_twice : cell_of cells unit unit ≡ unit)
    (unit_left : (a n : Bool) → cell_of cells unit (value_of a n) ≡ value_of a n)
    (unit_moves : (a b : Logic) → cell_of cells (cell_of cells a unit) b ≡ cell_of cells (cell_of cells a b) unit)
    (assoc : (a b c : Logic) → cell_of cells (cell_of cells a b) c ≡ cell_of cells a (cell_of cells b c)) where
  image-cons : (pin : Logic) (pins : List Logic) →
      image (map gate (choices (pin ∷ pins))) ≡ cell_of cells pin (image (map gate (choices pins)))
  image-cons pin pins =
      rw (results-cons gate step gate-cons pin pins, all_bits-over step (choices_of pin) (map gate (choices pins)), any_bit-over step (choices_of pin) (map gate (choices pins)))
      (at_one pin _ _ (any_bit-from_all_bits _ (HasSome-map gate (choices pins) (HasSome-choices pins))))

  fold-from : (a : Logic) (pins : List Logic) →
      fold (cell_of cells) (cell_of cells a unit) pins ≡ cell_of cells a (image (map gate (choices pins)))
  fold-from a [] = ap (cell_of cells a) (sym at_none)
  fold-from a (pin ∷ pins) =
      rw (unit_moves a pin, fold-from (cell_of cells a pin) pins, image-cons pin pins) (assoc a pin _)

  pub image-fold : (pins : List Logic) → image (map gate (choices pins)) ≡ fold (cell_of cells) unit pins
  image-fold pins =
      sym (unit_left (all_bits (map gate (choices pins))) (any_bit (map gate (choices pins))))
      ∙ sym (fold-from unit pins) ∙ ap (λ u. fold (cell_of cells) u pins) unit_twice

pub and-fold : (pins : List Logic) → gate_value And pins ≡ fold (cell_of and_cells) One pins
and-fold pins =
    image-fold all_bits ◌&&◌ and_cells One (λ b bits. refl) refl
    (λ pin a n h. grind (arith, h)) refl (λ a n. grind arith) (λ a b. grind arith) (λ a b c. grind arith) pins

pub or-fold : (pins : List Logic) → gate_value Or pins ≡ fold (cell_of or_cells) Zero pins
or-fold pins =
    image-fold any_bit ◌||◌ or_cells Zero (λ b bits. refl) refl
    (λ pin a n h. grind (arith, h)) refl (λ a n. grind arith) (λ a b. grind arith) (λ a b c. grind arith) pins

odd_next : (n : ℕ) → nat_eq ((1 + n) % 2) 1 ≡ not (nat_eq (n % 2) 1)
odd_next n = grind arith

is_odd-cons : (b : Bool) (bits : List Bool) → is_odd (b ∷ bits) ≡ (if b then not (is_odd bits) else is_odd bits)
is_odd-cons true bits = rw (sum_by-cons (λ b. cond b 1 0) true bits) (odd_next _)
is_odd-cons false bits = rw (sum_by-cons (λ b. cond b 1 0) false bits) (rw zero-add refl)

pub xor-fold : (pins : List Logic) → gate_value Xor pins ≡ fold (cell_of xor_cells) Zero pins
xor-fold pins =
    image-fold is_odd (λ b r. if b then not r else r) xor_cells Zero is_odd-cons refl
    (λ pin a n h. grind (arith, h)) refl (λ a n. grind arith) (λ a b. grind arith) (λ a b c. grind arith) pins

-- the value of an inverted gate
image-not : (gate : List Bool → Bool) (pins : List Logic) →
    image (map (λ bits. not (gate bits)) (choices pins)) ≡ only_cell not_cells (image (map gate (choices pins)))
image-not gate pins =
    let e = map-map not gate (choices pins) in
    rw (← e, all_bits-map not (map gate (choices pins)), any_bit-map not (map gate (choices pins)))
    (inverse _ _ (any_bit-from_all_bits _ (HasSome-map gate (choices pins) (HasSome-choices pins))))
  where
    inverse : (a n : Bool) → (a ≡ true → n ≡ true) →
        value_of ((not true || not n) && (not false || a)) ((not true && n) || (not false && not a)) ≡ only_cell not_cells (value_of a n)
    inverse a n h = grind (arith, h)

pub gate_value_is_table_fold : (kind : FoldKind) (pins : List Logic) → Takes kind (length pins) → gate_value kind pins ≡ table_fold kind pins
gate_value_is_table_fold And pins h = and-fold pins
gate_value_is_table_fold Nand pins h = image-not all_bits pins ∙ ap (only_cell not_cells) (and-fold pins)
gate_value_is_table_fold Or pins h = or-fold pins
gate_value_is_table_fold Nor pins h = image-not any_bit pins ∙ ap (only_cell not_cells) (or-fold pins)
gate_value_is_table_fold Xor pins h = xor-fold pins
gate_value_is_table_fold Xnor pins h = image-not is_odd pins ∙ ap (only_cell not_cells) (xor-fold pins)
gate_value_is_table_fold Buf [] h = absurd (omega (arith, h))
gate_value_is_table_fold Buf (pin ∷ []) h = grind arith
gate_value_is_table_fold Buf (pin ∷ q ∷ pins) h = absurd (omega (arith, h))
gate_value_is_table_fold Not [] h = absurd (omega (arith, h))
gate_value_is_table_fold Not (pin ∷ []) h = grind arith
gate_value_is_table_fold Not (pin ∷ q ∷ pins) h = absurd (omega (arith, h))
