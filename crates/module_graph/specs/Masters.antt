-- For the code alone: what a table of masters says of a name.
use Rattle.std.specs.Prelude.{◌≡◌, ℕ, List}
use Rattle.name_table.specs.Names.{index_of}
use Rattle.module_graph.specs.declared.numbers.NumberTable.{NumberTable}
use Rattle.module_graph.specs.declared.masters.MasterTable.{MasterTable}
use Rattle.module_graph.specs.declared.references.Master.{Master}
use Rattle.module_graph.specs.Graph.{master_at}
use Rattle.module_graph.specs.Numbers.{least_under}

-- the table has the index of each name
abbrev pub HasIndexes : List (List ℕ) → NumberTable → Type 0
HasIndexes names table = (name : List ℕ) → index_of name names ≡ least_under name table

-- the tables have the index of each module's name and of each primitive's
pub record HasMasters (modules udps : List (List ℕ)) (table : MasterTable) : Type 0 where
  pub modules_indexed : HasIndexes modules table.modules
  pub udps_indexed : HasIndexes udps table.udps

-- what a name means
abbrev pub masters_under : MasterTable → List ℕ → Master
masters_under table name = master_at (least_under name table.modules) (least_under name table.udps)
