-- The symbols as tables: one row for a symbol, one column for a value or a change.
use Rattle.std.specs.Prelude.{◌≡◌, ℕ, Bool, true, false, ◌&&◌, List, [], ◌∷◌, Option, Some, slice_get, slice_index_or}
use Rattle.level_range.specs.declared.range.Logic.{Logic}
use Rattle.level_range.specs.declared.range.Logic.TheVariants.{Zero, One, X}
use Rattle.udp_table.specs.declared.symbols.Base.{Base}
use Rattle.udp_table.specs.declared.symbols.Base.TheVariants as base
use Rattle.udp_table.specs.declared.symbols.Sym.{Sym}
use Rattle.udp_table.specs.declared.symbols.Sym.TheVariants.{Rise, Fall, Pos, Neg, Change}
use Rattle.udp_table.specs.Symbols.{base_has, has_change, is_change}

-- the cell of a row and a column, where the table has them
abbrev pub cell_at : List (List Bool) → ℕ → ℕ → Option Bool
cell_at cells r c = slice_get (slice_index_or cells r []) c

-- rows `0 1 x ? b`; columns 0, 1, x
abbrev pub value_cells : List (List Bool)
value_cells =
    (true ∷ false ∷ false ∷ [])
    ∷ (false ∷ true ∷ false ∷ [])
    ∷ (false ∷ false ∷ true ∷ [])
    ∷ (true ∷ true ∷ true ∷ [])
    ∷ (true ∷ true ∷ false ∷ [])
    ∷ []

-- rows `r f p n *`; columns (01), (0x), (10), (1x), (x0), (x1)
abbrev pub edge_cells : List (List Bool)
edge_cells =
    (true ∷ false ∷ false ∷ false ∷ false ∷ false ∷ [])
    ∷ (false ∷ false ∷ true ∷ false ∷ false ∷ false ∷ [])
    ∷ (true ∷ true ∷ false ∷ false ∷ false ∷ true ∷ [])
    ∷ (false ∷ false ∷ true ∷ true ∷ true ∷ false ∷ [])
    ∷ (true ∷ true ∷ true ∷ true ∷ true ∷ true ∷ [])
    ∷ []

-- rows go `0 1 x ? b`
abbrev pub row_of : Base → ℕ
row_of base.Zero = 0
row_of base.One = 1
row_of base.X = 2
row_of base.Any = 3
row_of base.Both = 4

-- each row has the values of its symbol
abbrev pub AreValues : List (List Bool) → Type 0
AreValues cells =
    (s : Base) →
    (cell_at cells (row_of s) 0 ≡ Some (base_has s Zero))
    × (cell_at cells (row_of s) 1 ≡ Some (base_has s One))
    × (cell_at cells (row_of s) 2 ≡ Some (base_has s X))

-- a row has the changes of the symbol, in the order of the columns
abbrev pub HasChanges : List (List Bool) → ℕ → Sym → Type 0
HasChanges cells r s =
    (cell_at cells r 0 ≡ Some (has_change s Zero One))
    × (cell_at cells r 1 ≡ Some (has_change s Zero X))
    × (cell_at cells r 2 ≡ Some (has_change s One Zero))
    × (cell_at cells r 3 ≡ Some (has_change s One X))
    × (cell_at cells r 4 ≡ Some (has_change s X Zero))
    × (cell_at cells r 5 ≡ Some (has_change s X One))

-- rows go `r f p n *`, and each has the changes of its symbol
pub record AreChanges (cells : List (List Bool)) : Type 0 where
  pub rise : HasChanges cells 0 Rise
  pub fall : HasChanges cells 1 Fall
  pub pos : HasChanges cells 2 Pos
  pub neg : HasChanges cells 3 Neg
  pub change : HasChanges cells 4 Change

-- the answer is whether the symbol of the row has the change
abbrev pub HasChangeOfRow : ℕ → Logic → Logic → Bool → Type 0
HasChangeOfRow row was now answer =
    (s : Sym) → HasChanges edge_cells row s → answer ≡ (is_change was now && has_change s was now)
