-- Lists of states that are changed one after the other.
use Rattle.std.proofs.Common.{◌≡◌, ℕ, ◌+◌, ◌<◌, ◌≤◌, List, [], ◌∷◌, ◌++◌, length, get_or, refl, ap, sym, ◌∙◌, subst, arith, inl, inr, length-set, get_or-set_same}
use Rattle.std.specs.Prelude.{slice_set, map}
use Rattle.std.proofs.lemmas.Bool.{cases_eq}
use Rattle.std.proofs.lemmas.List.{same_lists, get_or_default, get_or-map, length-map, get_or-set_other, length_push, get_or_append_left}
use Rattle.std.proofs.Math.Seq.{get_or-append_seam}
use Rattle.flat_net.specs.declared.kinds.Cell.{Cell}
use Rattle.flat_net.specs.declared.parts.Parts.{Parts}
use Rattle.cell_step.specs.declared.states.CellState.{CellState}
use Rattle.cell_step.specs.declared.states.CellState.TheVariants.{Island}
use Rattle.cell_step.specs.Changes.{mature_cell}
use Rattle.cell_step.specs.Fitting.{FitsCell}
use Rattle.cell_step.proofs.Filling.{IsFilled, filled-map}
use Rattle.cell_step.proofs.CellsKept.{mature_cell-fits}
use Rattle.machine.specs.Machine.{no_island_state, state_among, map_cells}
use Rattle.machine.proofs.Numbers.{length-map_cells, map_cells-at}
use Rattle.plain_sim.specs.Lists.{FitEach}

-- stands for the state of a cell where there is none
abbrev pub no_cell : CellState
no_cell = Island no_island_state

-- two lists with the same states
pub same-cells : (xs ys : List CellState) → length xs ≡ length ys → ((number : ℕ) → number < length xs → state_among xs number ≡ state_among ys number) →
    xs ≡ ys
same-cells xs ys long same =
    same_lists xs ys long
    (λ k d lt.
    get_or_default xs k d no_cell lt ∙ same k lt ∙ sym (get_or_default ys k d no_cell (omega arith)))

-- the first states are changed, the others are as before
abbrev pub AreChanged : (ℕ → CellState → CellState) → List CellState → List CellState → ℕ → Type 0
AreChanged change before after number = IsFilled (λ k. change k (state_among before k)) no_cell before after number

pub changed-all : (change : ℕ → CellState → CellState) (before after : List CellState) (number : ℕ) →
    length before ≤ number → AreChanged change before after number → after ≡ map_cells change before
changed-all change before after number all is =
    same-cells after (map_cells change before) (is.size ∙ sym (length-map_cells change before))
    (λ k lt.
    let within : k < length before = (let e = is.size in omega arith) in
    is.front k (omega arith) within ∙ sym (map_cells-at change before k within))

-- states of which one is replaced still fit
pub fits-set : (parts : Parts) (cell : ℕ → Cell) (many : ℕ) (states : List CellState) (number : ℕ) (s : CellState) → number < many →
    FitsCell parts (cell number) s → FitEach parts cell many states → FitEach parts cell many (slice_set states number s)
fits-set parts cell many states number s lt fits are = record {
  count = length-set states number s ∙ are.count;
  fits = λ k within. elim (cases_eq k number) [
    | inl e ↦
        subst (λ i. FitsCell parts (cell i) (state_among (slice_set states number s) i)) (sym e)
        (subst (FitsCell parts (cell number)) (sym (get_or-set_same states number s no_cell (let c = are.count in omega arith))) fits)
    | inr ne ↦ subst (FitsCell parts (cell k)) (sym (get_or-set_other states number k s no_cell ne)) (are.fits k within)
  ];
}

-- states still fit after what is due has taken effect
pub fits-mature : (now : ℕ) (parts : Parts) (cell : ℕ → Cell) (many : ℕ) (states : List CellState) →
    FitEach parts cell many states → FitEach parts cell many (map (mature_cell now) states)
fits-mature now parts cell many states are = record {
  count = length-map states (mature_cell now) ∙ are.count;
  fits = λ k within.
      subst (FitsCell parts (cell k))
      (sym (get_or-map (mature_cell now) states k no_cell no_cell (let c = are.count in omega arith)))
      (mature_cell-fits parts (cell k) now (state_among states k) (are.fits k within));
}

-- states with one more
pub fits-push : (parts : Parts) (cell : ℕ → Cell) (many : ℕ) (states : List CellState) (s : CellState) →
    FitsCell parts (cell many) s → FitEach parts cell many states → FitEach parts cell (many + 1) (states ++ s ∷ [])
fits-push parts cell many states s fits are = record {
  count = length_push states s ∙ ap (λ n. n + 1) are.count;
  fits = λ k within. elim (cases_eq k many) [
    | inl e ↦
        let last : state_among (states ++ s ∷ []) k ≡ s =
        ap (λ i. state_among (states ++ s ∷ []) i) (e ∙ sym are.count) ∙ get_or-append_seam states s [] no_cell in
        subst (λ i. FitsCell parts (cell i) (state_among (states ++ s ∷ []) k)) (sym e)
        (subst (FitsCell parts (cell many)) (sym last) fits)
    | inr ne ↦
        subst (FitsCell parts (cell k))
        (sym (get_or_append_left states (s ∷ []) no_cell k (let c = are.count in let g = ne in omega arith)))
        (are.fits k (let g = ne in omega arith))
  ];
}
