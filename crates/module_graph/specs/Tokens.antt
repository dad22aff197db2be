-- For the code alone: a table with the least token of each name.
use Rattle.std.specs.Prelude.{◌≡◌, ℕ, Bool, false, ◌&&◌, List, Option, None, Some, nat_lt}
use Rattle.std.specs.List.{list_any}
use Rattle.v_tree.specs.declared.locations.Name.{Name}
use Rattle.name_table.specs.Names.{same_name}
use Rattle.module_graph.specs.declared.numbers.NumberTable.{NumberTable}
use Rattle.module_graph.specs.Numbers.{least_under}

-- a number that may be there is below another
abbrev pub is_below : Option ℕ → ℕ → Bool
is_below None token = false
is_below (Some least) token = nat_lt least token

-- some name with a text stands before a token
abbrev pub stands_before : List ℕ → ℕ → List Name → Bool
stands_before text token names = list_any (λ other. same_name text other.text && nat_lt other.location.token token) names

-- the table has the least token of each name
abbrev pub HasTokens : List Name → NumberTable → Type 0
HasTokens names table = (text : List ℕ) (token : ℕ) → stands_before text token names ≡ is_below (least_under text table) token
