-- What rows match, by their symbols.
use Rattle.std.proofs.Common.{◌≡◌, suc, ◌+◌, ◌-◌, ◌<◌, ◌≤◌, Bool, true, false, ◌&&◌, List, [], ◌∷◌, ◌++◌, length, get_or, take, drop, refl, ap, sym, ◌∙◌, arith, add-one}
use Rattle.std.proofs.Math.Seq.{drop-cons}
use Rattle.std.proofs.lemmas.List.{take_rest}
use Rattle.level_range.specs.declared.range.Logic.{Logic}
use Rattle.level_range.specs.declared.range.Logic.TheVariants.{Zero, One, X, Z}
use Rattle.udp_table.specs.declared.symbols.Sym.{Sym}
use Rattle.udp_table.specs.Symbols.{admits, has_value, has_change, same_value}
use Rattle.udp_table.specs.Pairs.{pairwise}
use Rattle.udp_table.specs.LookUp.{level_inputs, edge_inputs}
use Rattle.udp_table.proofs.Pairs.{pairwise-append, pairwise-short}

pub same_value-self : (v : Logic) → same_value v v ≡ true
same_value-self Zero = refl
same_value-self One = refl
same_value-self X = refl
same_value-self Z = refl

-- symbols admit inputs that stand by their values
pub pairwise-level_inputs : (ss : List Sym) (vs : List Logic) → pairwise admits ss (level_inputs vs) ≡ pairwise has_value ss vs
pairwise-level_inputs [] [] = refl
pairwise-level_inputs [] (v ∷ vs) = refl
pairwise-level_inputs (s ∷ ss) [] = refl
pairwise-level_inputs (s ∷ ss) (v ∷ vs) = rw (same_value-self v, pairwise-level_inputs ss vs) refl

length-level_inputs : (vs : List Logic) → length (level_inputs vs) ≡ length vs
length-level_inputs [] = refl
length-level_inputs (v ∷ vs) = ap suc (length-level_inputs vs)

pub admits_all-level_inputs : (ss : List Sym) (before after : List Logic) → length before ≤ length ss →
    pairwise admits ss (level_inputs (before ++ after))
    ≡ (pairwise has_value (take (length before) ss) before && pairwise has_value (drop (length before) ss) after)
admits_all-level_inputs ss before after h =
    pairwise-level_inputs ss (before ++ after) ∙ pairwise-append has_value ss before after h

flip_and : (a b c : Bool) → (a && (b && c)) ≡ (b && (a && c))
flip_and true true c = refl
flip_and true false c = refl
flip_and false true c = refl
flip_and false false c = refl

pub admits_all-edge_inputs : (ss : List Sym) (before : List Logic) (was now : Logic) (after : List Logic) (d : Sym) → length before < length ss →
    same_value was now ≡ false →
    pairwise admits ss (edge_inputs before was now after)
    ≡ (has_change (get_or ss (length before) d) was now && (pairwise has_value (take (length before) ss) before && pairwise has_value (drop (length before + 1) ss) after))
admits_all-edge_inputs ss before was now after d h e =
    rw (
      pairwise-append admits ss (level_inputs before) (record { was = was; now = now } ∷ level_inputs after) (rw length-level_inputs (omega arith)),
      length-level_inputs before,
      pairwise-level_inputs (take (length before) ss) before,
      drop-cons ss (length before) d h,
      e,
      add-one,
      pairwise-level_inputs (drop (suc (length before)) ss) after,
    )
    (flip_and (pairwise has_value (take (length before) ss) before) (has_change (get_or ss (length before) d) was now) (pairwise has_value (drop (suc (length before)) ss) after))

length-level_inputs_append : (before after : List Logic) → length (level_inputs (before ++ after)) ≡ length before + length after
length-level_inputs_append [] after = rw (length-level_inputs after) (omega arith)
length-level_inputs_append (v ∷ before) after = rw (length-level_inputs_append before after) (omega arith)

pub level_inputs-short : (ss : List Sym) (before after : List Logic) → length ss < length before → false ≡ pairwise admits ss (level_inputs (before ++ after))
level_inputs-short ss before after h =
    sym (pairwise-short admits ss (level_inputs (before ++ after)) (rw length-level_inputs_append (omega arith)))

pub edge_inputs-short : (ss : List Sym) (before : List Logic) (was now : Logic) (after : List Logic) → length ss ≤ length before → false ≡ pairwise admits ss (edge_inputs before was now after)
edge_inputs-short ss before was now after h =
    sym (pairwise-short admits ss (edge_inputs before was now after) (rw (length-edge_inputs before was now after) (omega arith)))
  where
    length-edge_inputs : (before : List Logic) (was now : Logic) (after : List Logic) → length (edge_inputs before was now after) ≡ suc (length before + length after)
    length-edge_inputs [] was now after = rw (length-level_inputs after) (omega arith)
    length-edge_inputs (v ∷ before) was now after = rw (length-edge_inputs before was now after) (omega arith)

-- the test of the symbols by its parts, as they come one after the other
pub level_inputs_parts : (ss : List Sym) (before after : List Logic) → length before ≤ length ss → (a b : Bool) →
    a ≡ pairwise has_value (take (length before) ss) before → a ≡ true →
    b ≡ pairwise has_value (take (length ss - length before) (drop (length before) ss)) after →
    b ≡ pairwise admits ss (level_inputs (before ++ after))
level_inputs_parts ss before after h a b e t f =
    rw (admits_all-level_inputs ss before after h, ← e, t, f, take_rest ss (length before)) refl

pub level_inputs_first : (ss : List Sym) (before after : List Logic) → length before ≤ length ss → (a : Bool) →
    a ≡ pairwise has_value (take (length before) ss) before → a ≡ false →
    false ≡ pairwise admits ss (level_inputs (before ++ after))
level_inputs_first ss before after h a e f =
    rw (admits_all-level_inputs ss before after h, ← e, f) refl

module _ (ss : List Sym) (before : List Logic) (was now : Logic) (after : List Logic) (d : Sym) (h : length before < length ss)
    (e : same_value was now ≡ false) (change : Bool) (is : change ≡ has_change (get_or ss (length before) d) was now) where
  pub edge_inputs_first : change ≡ false → false ≡ pairwise admits ss (edge_inputs before was now after)
  edge_inputs_first t = rw (admits_all-edge_inputs ss before was now after d h e, ← is, t) refl

  pub edge_inputs_second : (a : Bool) → change ≡ true → a ≡ pairwise has_value (take (length before) ss) before → a ≡ false →
      false ≡ pairwise admits ss (edge_inputs before was now after)
  edge_inputs_second a t f g = rw (admits_all-edge_inputs ss before was now after d h e, ← is, t, ← f, g) refl

  pub edge_inputs_parts : (a b : Bool) → change ≡ true → a ≡ pairwise has_value (take (length before) ss) before → a ≡ true →
      b ≡ pairwise has_value (take (length ss - (length before + 1)) (drop (length before + 1) ss)) after →
      b ≡ pairwise admits ss (edge_inputs before was now after)
  edge_inputs_parts a b t f g k =
      rw (admits_all-edge_inputs ss before was now after d h e, ← is, t, ← f, g, k, take_rest ss (length before + 1)) refl
