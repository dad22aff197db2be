-- The bits of runs behind runs, of lists of them, and of connections.
use Rattle.std.proofs.Common.{◌≡◌, ℕ, ◌+◌, List, [], ◌∷◌, ◌++◌, map, get_or, sym, ap, ◌∙◌, append_assoc, add_assoc, arith}
use Rattle.std.specs.List.{flat_map}
use Rattle.std.specs.Option.{option_map_or}
use Rattle.std.proofs.lemmas.List.{append-nil, map-append}
use Rattle.module_scope.specs.declared.scopes.Scope.{Scope}
use Rattle.expression_bits.specs.declared.runs.BitRun.{BitRun}
use Rattle.module_parts.specs.declared.parts.PortRuns.{PortRuns}
use Rattle.netlist_plan.specs.declared.nets.ModuleNet.{ModuleNet}
use Rattle.netlist_plan.specs.declared.plan.PortBits.{PortBits}
use Rattle.netlist_plan.specs.Unnamed.{literal_count}
use Rattle.netlist_plan.specs.Nets.{run_bits}
use Rattle.netlist_plan.specs.Elements.{connections_bits, lists_bits, runs_bits, terminal_bits}
use Rattle.module_nets.proofs.Sources.{literal_count-append, literals_in}

-- how many literals there are among terminals, and among connections
abbrev pub list_literals : List (List BitRun) → ℕ
list_literals = literals_in (λ (runs : List BitRun). runs)

abbrev pub connection_literals : List PortRuns → ℕ
connection_literals = literals_in (λ (c : PortRuns). c.runs)

module _ (scope : Scope) (nets : List ModuleNet) where
  -- ---- runs

  pub runs_bits-push : (n : ℕ) (xs : List BitRun) (x : BitRun) → runs_bits scope nets n (xs ++ x ∷ []) ≡ runs_bits scope nets n xs ++ runs_bits scope nets (n + literal_count xs) (x ∷ [])
  runs_bits-push n [] x = ap (λ (k : ℕ). runs_bits scope nets k (x ∷ [])) (omega arith)
  runs_bits-push n (run ∷ xs) x =
      let k = literal_count (run ∷ []) in
      ap (λ (rest : List ℕ). run_bits scope nets n run ++ rest) (runs_bits-push (n + k) xs x)
      ∙ sym (append_assoc (run_bits scope nets n run) (runs_bits scope nets (n + k) xs) (runs_bits scope nets (n + k + literal_count xs) (x ∷ [])))
      ∙ ap (λ (j : ℕ). (run_bits scope nets n run ++ runs_bits scope nets (n + k) xs) ++ runs_bits scope nets j (x ∷ []))
      (add_assoc n k (literal_count xs) ∙ ap (λ (j : ℕ). n + j) (sym (literal_count-append (run ∷ []) xs)))

  pub runs_bits-one : (n : ℕ) (x : BitRun) → runs_bits scope nets n (x ∷ []) ≡ run_bits scope nets n x
  runs_bits-one n x = append-nil (run_bits scope nets n x)

  -- ---- terminals

  lists_bits-push : (n : ℕ) (xs : List (List BitRun)) (x : List BitRun) → lists_bits scope nets n (xs ++ x ∷ []) ≡ lists_bits scope nets n xs ++ lists_bits scope nets (n + list_literals xs) (x ∷ [])
  lists_bits-push n [] x = ap (λ (k : ℕ). lists_bits scope nets k (x ∷ [])) (omega arith)
  lists_bits-push n (runs ∷ xs) x =
      let k = literal_count runs in
      ap (λ (rest : List (List ℕ)). runs_bits scope nets n runs ∷ rest) (lists_bits-push (n + k) xs x)
      ∙ ap (λ (j : ℕ). runs_bits scope nets n runs ∷ (lists_bits scope nets (n + k) xs ++ lists_bits scope nets j (x ∷ [])))
      (add_assoc n k (list_literals xs) ∙ ap (λ (j : ℕ). n + j) (sym (literal_count-append runs (flat_map (λ (list : List BitRun). list) xs))))

  pub terminal_bits-push : (n : ℕ) (xs : List (List BitRun)) (x : List BitRun) → terminal_bits scope nets n (xs ++ x ∷ []) ≡ terminal_bits scope nets n xs ++ terminal_bits scope nets (n + list_literals xs) (x ∷ [])
  terminal_bits-push n xs x =
      ap (map (λ (bits : List ℕ). get_or bits 0 0)) (lists_bits-push n xs x)
      ∙ map-append (λ (bits : List ℕ). get_or bits 0 0) (lists_bits scope nets n xs) (lists_bits scope nets (n + list_literals xs) (x ∷ []))

  -- ---- connections

  abbrev own_bits : ℕ → PortRuns → List PortBits
  own_bits n c = option_map_or (λ (port : ℕ). record { port = port; bits = runs_bits scope nets n c.runs } ∷ []) c.port []

  pub connections_bits-push : (n : ℕ) (xs : List PortRuns) (x : PortRuns) → connections_bits scope nets n (xs ++ x ∷ []) ≡ connections_bits scope nets n xs ++ connections_bits scope nets (n + connection_literals xs) (x ∷ [])
  connections_bits-push n [] x = ap (λ (k : ℕ). connections_bits scope nets k (x ∷ [])) (omega arith)
  connections_bits-push n (c ∷ xs) x =
      let k = literal_count c.runs in
      ap (λ (rest : List PortBits). own_bits n c ++ rest) (connections_bits-push (n + k) xs x)
      ∙ sym (append_assoc (own_bits n c) (connections_bits scope nets (n + k) xs) (connections_bits scope nets (n + k + connection_literals xs) (x ∷ [])))
      ∙ ap (λ (j : ℕ). (own_bits n c ++ connections_bits scope nets (n + k) xs) ++ connections_bits scope nets j (x ∷ []))
      (add_assoc n k (connection_literals xs) ∙ ap (λ (j : ℕ). n + j) (sym (literal_count-append c.runs (flat_map (λ (d : PortRuns). d.runs) xs))))
