-- Logic gates as the tables of two inputs folded over a list.
use Rattle.std.specs.Prelude.{List, [], ◌∷◌, fold}
use Rattle.level_range.specs.declared.range.Logic.{Logic}
use Rattle.level_range.specs.declared.range.Logic.TheVariants.{Zero, One, X}
use Rattle.logic_tables.specs.declared.kinds.FoldKind.{FoldKind}
use Rattle.logic_tables.specs.declared.kinds.FoldKind.TheVariants.{And, Nand, Or, Nor, Xor, Xnor, Buf, Not}
use Rattle.logic_tables.specs.Cells.{cell_of, only_cell, and_cells, or_cells, xor_cells, buf_cells, not_cells}

-- the table of two inputs from its unit on, inverted at the end for nand, nor and xnor; for buf and not the table of one
abbrev pub table_fold : FoldKind → List Logic → Logic
table_fold And pins = fold (cell_of and_cells) One pins
table_fold Nand pins = only_cell not_cells (fold (cell_of and_cells) One pins)
table_fold Or pins = fold (cell_of or_cells) Zero pins
table_fold Nor pins = only_cell not_cells (fold (cell_of or_cells) Zero pins)
table_fold Xor pins = fold (cell_of xor_cells) Zero pins
table_fold Xnor pins = only_cell not_cells (fold (cell_of xor_cells) Zero pins)
table_fold Buf [] = X
table_fold Buf (pin ∷ _) = only_cell buf_cells pin
table_fold Not [] = X
table_fold Not (pin ∷ _) = only_cell not_cells pin
