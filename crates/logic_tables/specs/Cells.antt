-- Tables of values: the row and column of each value, what stands there, and the cells of the five gate tables.
use Rattle.std.specs.Prelude.{◌≡◌, ℕ, List, [], ◌∷◌, Option, Some, slice_get, slice_index_or}
use Rattle.level_range.specs.declared.range.Logic.{Logic}
use Rattle.level_range.specs.declared.range.Logic.TheVariants.{Zero, One, X, Z}
use Rattle.logic_tables.specs.declared.kinds.FoldKind.{FoldKind}
use Rattle.logic_tables.specs.Fold.{gate_value}

-- rows and columns go 0, 1, x, z
abbrev pub index_of : Logic → ℕ
index_of Zero = 0
index_of One = 1
index_of X = 2
index_of Z = 3

-- the cell of a row and a column, where the table has them
abbrev pub cell_at : List (List Logic) → ℕ → ℕ → Option Logic
cell_at cells r c = slice_get (slice_index_or cells r []) c

-- the cell of two values, in a table of four rows and four columns
abbrev pub cell_of : List (List Logic) → Logic → Logic → Logic
cell_of cells a b = slice_index_or (slice_index_or cells (index_of a) []) (index_of b) X

-- the cell of a value, in a table of one column
abbrev pub only_cell : List (List Logic) → Logic → Logic
only_cell cells a = slice_index_or (slice_index_or cells (index_of a) []) 0 X

-- each cell of the table is what the gate gives for its row's and its column's value
abbrev pub IsTableOfTwo : FoldKind → List (List Logic) → Type 0
IsTableOfTwo kind cells =
    (a b : Logic) → cell_at cells (index_of a) (index_of b) ≡ Some (gate_value kind (a ∷ b ∷ []))

-- each row of the table has what the gate gives for the row's value
abbrev pub IsTableOfOne : FoldKind → List (List Logic) → Type 0
IsTableOfOne kind cells = (a : Logic) → cell_at cells (index_of a) 0 ≡ Some (gate_value kind (a ∷ []))

-- and of two inputs
abbrev pub and_cells : List (List Logic)
and_cells =
    (Zero ∷ Zero ∷ Zero ∷ Zero ∷ [])
    ∷ (Zero ∷ One ∷ X ∷ X ∷ [])
    ∷ (Zero ∷ X ∷ X ∷ X ∷ [])
    ∷ (Zero ∷ X ∷ X ∷ X ∷ [])
    ∷ []

-- or of two inputs
abbrev pub or_cells : List (List Logic)
or_cells =
    (Zero ∷ One ∷ X ∷ X ∷ [])
    ∷ (One ∷ One ∷ One ∷ One ∷ [])
    ∷ (X ∷ One ∷ X ∷ X ∷ [])
    ∷ (X ∷ One ∷ X ∷ X ∷ [])
    ∷ []

-- exclusive or of two inputs
abbrev pub xor_cells : List (List Logic)
xor_cells =
    (Zero ∷ One ∷ X ∷ X ∷ [])
    ∷ (One ∷ Zero ∷ X ∷ X ∷ [])
    ∷ (X ∷ X ∷ X ∷ X ∷ [])
    ∷ (X ∷ X ∷ X ∷ X ∷ [])
    ∷ []

-- one input as it is
abbrev pub buf_cells : List (List Logic)
buf_cells = (Zero ∷ []) ∷ (One ∷ []) ∷ (X ∷ []) ∷ (X ∷ []) ∷ []

-- one input inverted
abbrev pub not_cells : List (List Logic)
not_cells = (One ∷ []) ∷ (Zero ∷ []) ∷ (X ∷ []) ∷ (X ∷ []) ∷ []
