-- The value of a logic gate on what its input pins read, by the tables.
use Rattle.std.proofs.Common.{◌≡◌, ◌<◌, ℕ, ◌+◌, List, [], ◌∷◌, length, map, get_or, take, ◌≤◌, refl, ap, sym, subst, ◌∙◌, arith}
use Rattle.std.specs.Prelude.{fold}
use Rattle.std.proofs.lemmas.List.{map_more, take_all, length-map}
use Rattle.std.proofs.lemmas.Grind.{fold-append}
use Rattle.level_range.specs.Signal.{Signal, undriven, reads}
use Rattle.level_range.specs.declared.range.Logic.{Logic}
use Rattle.logic_tables.specs.Cells.{only_cell, buf_cells, not_cells}
use Rattle.logic_tables.specs.Fold.{gate_value, Takes}
use Rattle.logic_tables.specs.TableFold.{table_fold}
use Rattle.logic_tables.specs.declared.kinds.FoldKind.{FoldKind}
use Rattle.logic_tables.specs.declared.kinds.FoldKind.TheVariants.{Buf, Not}
use Rattle.logic_tables.proofs.Images as images
use Rattle.flat_net.specs.declared.kinds.Patch.{Patch}
use Rattle.flat_net.specs.declared.parts.Element.{Element}
use Rattle.cell_step.specs.Readings.{Readings}
use Rattle.cell_step.specs.Elements.{input_signals, input_at}
use Rattle.cell_step.proofs.PinLemmas.{input_signals_length}

-- a fold over mapped elements, with one element more
pub fold_map_more : {X Y Z : Type 0} (f : Z → Y → Z) (h : X → Y) (z : Z) (xs : List X) (i : ℕ) (d : X) → i < length xs →
    fold f z (map h (take (i + 1) xs)) ≡ f (fold f z (map h (take i xs))) (h (get_or xs i d))
fold_map_more f h z xs i d lt = ap (fold f z) (map_more h xs i d lt) ∙ fold-append f z (map h (take i xs)) (h (get_or xs i d) ∷ [])

-- the fold over what some input pins read, with one pin more
pub fold_pins_more : (f : Logic → Logic → Logic) (z : Logic) (r : Readings) (patch : Patch) (e : Element) (i : ℕ) → i < length e.ins →
    fold f z (map reads (take (i + 1) (input_signals r patch e)))
    ≡ f (fold f z (map reads (take i (input_signals r patch e)))) (reads (input_at (input_signals r patch e) i))
fold_pins_more f z r patch e i lt =
    fold_map_more f reads z (input_signals r patch e) i undriven (subst (λ n. i < n) (sym (input_signals_length r patch e)) lt)

-- the value of a gate whose pins are as many as it takes
pub gate_value_is_table_fold : (kind : FoldKind) (r : Readings) (patch : Patch) (e : Element) → Takes kind (length e.ins) →
    gate_value kind (map reads (input_signals r patch e)) ≡ table_fold kind (map reads (input_signals r patch e))
gate_value_is_table_fold kind r patch e takes =
    images.gate_value_is_table_fold kind (map reads (input_signals r patch e))
    (subst (Takes kind) (sym (length-map (input_signals r patch e) reads ∙ input_signals_length r patch e)) takes)

-- the fold over what all input pins read
pub fold_pins_all : (f : Logic → Logic → Logic) (z : Logic) (r : Readings) (patch : Patch) (e : Element) (i : ℕ) → length e.ins ≤ i →
    fold f z (map reads (take i (input_signals r patch e))) ≡ fold f z (map reads (input_signals r patch e))
fold_pins_all f z r patch e i le =
    ap (λ (xs : List Signal). fold f z (map reads xs)) (take_all i (input_signals r patch e) (subst (λ n. n ≤ i) (sym (input_signals_length r patch e)) le))

-- the value of a buffer and of an inverter
pub buf_value : (r : Readings) (patch : Patch) (e : Element) → length e.ins ≡ 1 →
    gate_value Buf (map reads (input_signals r patch e)) ≡ only_cell buf_cells (reads (input_at (input_signals r patch e) 0))
buf_value r patch e one =
    gate_value_is_table_fold Buf r patch e one ∙ by_list (input_signals r patch e) (input_signals_length r patch e ∙ one)
  where
    by_list : (ins : List Signal) → length ins ≡ 1 → table_fold Buf (map reads ins) ≡ only_cell buf_cells (reads (get_or ins 0 undriven))
    by_list [] e = absurd (omega (arith, e))
    by_list (pin ∷ ins) e = refl

pub not_value : (r : Readings) (patch : Patch) (e : Element) → length e.ins ≡ 1 →
    gate_value Not (map reads (input_signals r patch e)) ≡ only_cell not_cells (reads (input_at (input_signals r patch e) 0))
not_value r patch e one =
    gate_value_is_table_fold Not r patch e one ∙ by_list (input_signals r patch e) (input_signals_length r patch e ∙ one)
  where
    by_list : (ins : List Signal) → length ins ≡ 1 → table_fold Not (map reads ins) ≡ only_cell not_cells (reads (get_or ins 0 undriven))
    by_list [] e = absurd (omega (arith, e))
    by_list (pin ∷ ins) e = refl
