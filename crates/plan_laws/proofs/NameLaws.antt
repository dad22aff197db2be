-- The names of a part's elements: each literal and each gate or assignment has its own, and these differ.
use Rattle.std.proofs.Common.{◌≡◌, ℕ, zero, suc, ◌+◌, ◌-◌, ◌<◌, ◌≤◌, Bool, true, false, List, [], ◌∷◌, ◌++◌, Some, None, refl, sym, ap, ◌∙◌, arith}
use Rattle.std.specs.List.{AllByRecursion}
use Rattle.flat_net.specs.Lists.{AreDistinct}
use Rattle.netlist_plan.specs.declared.plan.OwnName.{OwnName}
use Rattle.netlist_plan.specs.declared.plan.OwnName.TheVariants.{Unnamed}
use Rattle.netlist_plan.specs.declared.plan.ElementName.{ElementName}
use Rattle.netlist_plan.specs.declared.plan.ElementName.TheVariants.{Gate, Half, Bit as BitName}
use Rattle.flattening_laws.specs.SoundPlans.{AreNotHalved}
use Rattle.flattening_laws.proofs.Apart.{each_append, each_at}

-- ---- two names

-- they differ, and neither is that of the gate whose half the other is
pub record AreUnlike (a b : ElementName) : Type 0 where
  pub differ : a ≡ b → ⊥
  pub no_half : (own : OwnName) (on_one : Bool) → a ≡ Half own on_one → b ≡ Gate own → ⊥
  pub not_halved : (own : OwnName) (on_one : Bool) → b ≡ Half own on_one → a ≡ Gate own → ⊥

-- the thing that has the name
abbrev pub owner : ElementName → OwnName
owner (Gate own) = own
owner (Half own on_one) = own
owner (BitName number index) = Unnamed number

pub owners_unlike : (a b : ElementName) → (owner a ≡ owner b → ⊥) → AreUnlike a b
owners_unlike a b d = record {
  differ = λ e. d (ap owner e);
  no_half = λ own on_one half gate. d (ap owner half ∙ sym (ap owner gate));
  not_halved = λ own on_one half gate. d (ap owner gate ∙ sym (ap owner half));
}

-- ---- lists of names

abbrev pub AreAllUnlike : List ElementName → Type 0
AreAllUnlike [] = Unit {0}
AreAllUnlike (a ∷ names) = AllByRecursion (AreUnlike a) names × AreAllUnlike names

pub unlike_append : (xs ys : List ElementName) → AreAllUnlike xs → AreAllUnlike ys → AllByRecursion (λ x. AllByRecursion (AreUnlike x) ys) xs → AreAllUnlike (xs ++ ys)
unlike_append [] ys h k d = k
unlike_append (x ∷ xs) ys h k d = (each_append (AreUnlike x) xs ys h.0 d.0, unlike_append xs ys h.1 k d.1)

pub unlike_distinct : (names : List ElementName) → AreAllUnlike names → AreDistinct names
unlike_distinct [] h i j x e f = absurd (let n : None ≡ Some x = e in cc)
unlike_distinct (y ∷ ys) h zero zero x e f = refl
unlike_distinct (y ∷ ys) h zero (suc j) x e f = let same : y ≡ x = cc in absurd ((each_at (AreUnlike y) ys j x h.0 f).differ same)
unlike_distinct (y ∷ ys) h (suc i) zero x e f = let same : y ≡ x = cc in absurd ((each_at (AreUnlike y) ys i x h.0 e).differ same)
unlike_distinct (y ∷ ys) h (suc i) (suc j) x e f = ap suc (unlike_distinct ys h.1 i j x e f)

half_no_gate : (own other : OwnName) (on_one : Bool) → Half own on_one ≡ Gate other → ⊥
half_no_gate own other on_one e = let no : true ≡ false = ap is_half e in cc
  where
    is_half : ElementName → Bool
    is_half (Gate own) = false
    is_half (Half own on_one) = true
    is_half (BitName number index) = false

pub unlike_halves : (names : List ElementName) → AreAllUnlike names → AreNotHalved names
unlike_halves [] h i j own on_one e f = let n : None ≡ Some (Half own on_one) = e in cc
unlike_halves (y ∷ ys) h zero zero own on_one e f =
    let first : y ≡ Half own on_one = cc in let second : y ≡ Gate own = cc in half_no_gate own own on_one (sym first ∙ second)
unlike_halves (y ∷ ys) h zero (suc j) own on_one e f =
    let first : y ≡ Half own on_one = cc in (each_at (AreUnlike y) ys j (Gate own) h.0 f).no_half own on_one first refl
unlike_halves (y ∷ ys) h (suc i) zero own on_one e f =
    let second : y ≡ Gate own = cc in (each_at (AreUnlike y) ys i (Half own on_one) h.0 e).not_halved own on_one refl second
unlike_halves (y ∷ ys) h (suc i) (suc j) own on_one e f = unlike_halves ys h.1 i j own on_one e f

-- ---- names of bits

index_of : ElementName → ℕ
index_of (Gate own) = 0
index_of (Half own on_one) = 0
index_of (BitName number index) = index

bit_no_gate : (number index : ℕ) (own : OwnName) → BitName number index ≡ Gate own → ⊥
bit_no_gate number index own e = let no : true ≡ false = ap is_bit e in cc
  where
    is_bit : ElementName → Bool
    is_bit (Gate own) = false
    is_bit (Half own on_one) = false
    is_bit (BitName number index) = true

bits_unlike : (number i j : ℕ) → (i ≡ j → ⊥) → AreUnlike (BitName number i) (BitName number j)
unfolding index_of
bits_unlike number i j d = record {
  differ = λ e. d (ap index_of e);
  no_half = λ own on_one half gate. bit_no_gate number j own gate;
  not_halved = λ own on_one half gate. bit_no_gate number i own gate;
}

-- the bits of a thing of a width, from a place on
abbrev pub bit_names : ℕ → ℕ → ℕ → ℕ → List ElementName
bit_names number width place zero = []
bit_names number width place (suc n) = BitName number (width - 1 - place) ∷ bit_names number width (place + 1) n

later_bits : (number width place next n : ℕ) → place < next → next + n ≤ width → AllByRecursion (AreUnlike (BitName number (width - 1 - place))) (bit_names number width next n)
later_bits number width place next zero less fits = tt
later_bits number width place next (suc n) less fits =
    (bits_unlike number (width - 1 - place) (width - 1 - next) (λ e. omega arith), later_bits number width place (next + 1) n (omega arith) (omega arith))

pub bit_names_unlike : (number width place n : ℕ) → place + n ≤ width → AreAllUnlike (bit_names number width place n)
bit_names_unlike number width place zero fits = tt
bit_names_unlike number width place (suc n) fits =
    (later_bits number width place (place + 1) n (omega arith) (omega arith), bit_names_unlike number width (place + 1) n (omega arith))

pub bit_names_owner : (number width place n : ℕ) → AllByRecursion (λ name. owner name ≡ Unnamed number) (bit_names number width place n)
bit_names_owner number width place zero = tt
bit_names_owner number width place (suc n) = (refl, bit_names_owner number width (place + 1) n)
