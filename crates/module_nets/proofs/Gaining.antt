-- What entries gain by one more net, and one gain after another.
use Rattle.std.proofs.Common.{◌≡◌, ℕ, ◌+◌, ◌<◌, Bool, true, false, cond, List, [], ◌∷◌, ◌++◌, length, get_or, take, sum_by, Some, None, Result, Ok, Err, OnOk, refl, sym, ap, subst, ◌∙◌, add_assoc, append_assoc, length-append, arith}
use Rattle.std.proofs.lemmas.List.{append-nil, take_more}
use Rattle.std.proofs.lemmas.List.Sums.{sum_by-cons}
use Rattle.v_lexer.specs.declared.literals.Bit.{Bit}
use Rattle.name_table.specs.Names.{is_among, index_of}
use Rattle.module_graph.proofs.NumberLaws.{index_of_none}
use Rattle.module_scope.specs.declared.scopes.Scope.{Scope}
use Rattle.module_scope.proofs.Naming.{index_among}
use Rattle.expression_bits.specs.declared.runs.BitRun.{BitRun}
use Rattle.module_parts.specs.declared.parts.ModulePart.{ModulePart}
use Rattle.netlist_plan.specs.declared.nets.NetSource.{NetSource}
use Rattle.netlist_plan.specs.declared.nets.NetSource.TheVariants.{Named, Literal}
use Rattle.netlist_plan.specs.Nets.{module_nets, nets_from, new_sources, part_sources, run_sources, source_width}
use Rattle.netlist_plan.specs.Unnamed.{literal_count, unnamed_count}
use Rattle.module_nets.specs.declared.entries.NetEntries.{NetEntries}
use Rattle.module_nets.specs.Entries.{AreNets, HasGained, IsEmpty, nets_with}
use Rattle.module_nets.proofs.Sources.{literal_count-append, literals_in, parts_sources, run_sources-append, sources_in}
use Rattle.module_nets.proofs.Finding.{net_at, literals-name, literals-next, literals-none, names-literal, names-new}

-- nothing
pub HasGained-none : (scope : Scope) (e : NetEntries) → AreNets e → HasGained scope e e [] 0
HasGained-none scope e are = record { are = are; numbers = omega arith; nets = λ rest. refl }

-- one gain after another
pub HasGained-then : (scope : Scope) (a b c : NetEntries) (s t : List NetSource) (m n : ℕ) → HasGained scope a b s m → HasGained scope b c t n → HasGained scope a c (s ++ t) (m + n)
HasGained-then scope a b c s t m n first second = record {
  are = second.are;
  numbers = second.numbers ∙ ap (λ (k : ℕ). k + n) first.numbers ∙ add_assoc (length a.literal_firsts) m n;
  nets = λ rest.
      second.nets rest ∙ first.nets (t ++ rest)
      ∙ ap (nets_with scope a) (sym (append_assoc s t rest));
}

-- the same at equal sources and numbers
pub HasGained-same : (scope : Scope) (a b : NetEntries) (s t : List NetSource) (m n : ℕ) → s ≡ t → m ≡ n → HasGained scope a b s m → HasGained scope a b t n
HasGained-same scope a b s t m n sources numbers gained =
    subst (λ (k : ℕ). HasGained scope a b t k) numbers (subst (λ (ss : List NetSource). HasGained scope a b ss m) sources gained)

module _ (scope : Scope) (old : NetEntries) (are : AreNets old) where
  -- the sources of a name that is there already
  pub HasGained-again : (name : List ℕ) (k : ℕ) → index_of name old.names ≡ Some k → HasGained scope old old (Named name ∷ []) 0
  HasGained-again name k found = record {
    are = are;
    numbers = omega arith;
    nets = λ rest.
        let among : is_among name old.names ≡ true = index_among name old.names k found in
        sym (ap (λ (b : Bool). old.nets ++ nets_from scope old.bits (cond b (new_sources old.names rest) (Named name ∷ new_sources (old.names ++ name ∷ []) rest))) among);
  }

  module _ (new : NetEntries) where
    -- a thing without name that isn't a literal
    pub HasGained-unnamed : new.nets ≡ old.nets → new.names ≡ old.names → new.name_firsts ≡ old.name_firsts → new.literal_firsts ≡ old.literal_firsts ++ None ∷ [] → new.bits ≡ old.bits →
        HasGained scope old new [] 1
    HasGained-unnamed nets names firsts literals bits = record {
      are = record {
        whole = ap length firsts ∙ are.whole ∙ sym (ap length names);
        names = λ q. rw (nets, names, firsts) (are.names q);
        literals = λ n. rw (nets, literals) (are.literals n ∙ sym (literals-none old.literal_firsts n));
      };
      numbers = ap length literals ∙ length-append old.literal_firsts (None ∷ []);
      nets = λ rest. rw (nets, names, bits) refl;
    }

    -- the net of a new name
    pub HasGained-new : (name : List ℕ) → index_of name old.names ≡ None → new.nets ≡ old.nets ++ net_at (Named name) old.bits ∷ [] → new.names ≡ old.names ++ name ∷ [] →
        new.name_firsts ≡ old.name_firsts ++ old.bits ∷ [] → new.literal_firsts ≡ old.literal_firsts → new.bits ≡ old.bits + source_width scope (Named name) →
        HasGained scope old new (Named name ∷ []) 0
    HasGained-new name absent nets names firsts literals bits = record {
      are = record {
        whole =
            ap length firsts ∙ length-append old.name_firsts (old.bits ∷ [])
            ∙ ap (λ (n : ℕ). n + 1) are.whole
            ∙ sym (ap length names ∙ length-append old.names (name ∷ []));
        names = λ q. rw (nets, names, firsts) (names-new old.nets old.names old.name_firsts are.whole name old.bits absent q (are.names q));
        literals = λ n. rw (nets, literals) (literals-name old.nets name old.bits n ∙ are.literals n);
      };
      numbers = ap length literals ∙ omega arith;
      nets = λ rest.
          let among : is_among name old.names ≡ false = index_of_none name old.names absent in
          rw (nets, names, bits)
          (append_assoc old.nets (net_at (Named name) old.bits ∷ []) (nets_from scope (old.bits + source_width scope (Named name)) (new_sources (old.names ++ name ∷ []) rest))
          ∙ sym (ap (λ (b : Bool). old.nets ++ nets_from scope old.bits (cond b (new_sources old.names rest) (Named name ∷ new_sources (old.names ++ name ∷ []) rest))) among));
    }

    -- the net of a literal
    pub HasGained-literal : (literal : List Bit) → new.nets ≡ old.nets ++ net_at (Literal (length old.literal_firsts) literal) old.bits ∷ [] → new.names ≡ old.names →
        new.name_firsts ≡ old.name_firsts → new.literal_firsts ≡ old.literal_firsts ++ Some old.bits ∷ [] → new.bits ≡ old.bits + length literal →
        HasGained scope old new (Literal (length old.literal_firsts) literal ∷ []) 1
    HasGained-literal literal nets names firsts literals bits = record {
      are = record {
        whole = ap length firsts ∙ are.whole ∙ sym (ap length names);
        names = λ q. rw (nets, names, firsts) (names-literal old.nets (length old.literal_firsts) literal old.bits q ∙ are.names q);
        literals = λ n. rw (nets, literals) (literals-next old.nets old.literal_firsts literal old.bits n (are.literals n));
      };
      numbers = ap length literals ∙ length-append old.literal_firsts (Some old.bits ∷ []);
      nets = λ rest.
          rw (nets, names, bits)
          (append_assoc old.nets (net_at (Literal (length old.literal_firsts) literal) old.bits ∷ []) (nets_from scope (old.bits + length literal) (new_sources old.names rest)));
    }

-- ---- lists

-- one element more, where sources and numbers go along a list
pub HasGained-more : {X : Type 0} (sources : ℕ → List X → List NetSource) (count : List X → ℕ)
    → ((n : ℕ) (xs : List X) (x : X) → sources n (xs ++ x ∷ []) ≡ sources n xs ++ sources (n + count xs) (x ∷ []))
    → ((xs : List X) (x : X) → count (xs ++ x ∷ []) ≡ count xs + count (x ∷ []))
    → (scope : Scope) (a b c : NetEntries) (xs : List X) (x : X)
    → HasGained scope a b (sources (length a.literal_firsts) xs) (count xs)
    → HasGained scope b c (sources (length b.literal_firsts) (x ∷ [])) (count (x ∷ []))
    → HasGained scope a c (sources (length a.literal_firsts) (xs ++ x ∷ [])) (count (xs ++ x ∷ []))
HasGained-more {X} sources count sources_push count_push scope a b c xs x first second =
    let n = length a.literal_firsts in
    HasGained-same scope a c (sources n xs ++ sources (length b.literal_firsts) (x ∷ [])) (sources n (xs ++ x ∷ [])) (count xs + count (x ∷ [])) (count (xs ++ x ∷ []))
    (ap (λ (k : ℕ). sources n xs ++ sources k (x ∷ [])) first.numbers ∙ sym (sources_push n xs x))
    (sym (count_push xs x))
    (HasGained-then scope a b c (sources n xs) (sources (length b.literal_firsts) (x ∷ [])) (count xs) (count (x ∷ [])) first second)

-- the same in a loop
pub HasGained-next : {X : Type 0} (sources : ℕ → List X → List NetSource) (count : List X → ℕ)
    → ((n : ℕ) (xs : List X) (x : X) → sources n (xs ++ x ∷ []) ≡ sources n xs ++ sources (n + count xs) (x ∷ []))
    → ((xs : List X) (x : X) → count (xs ++ x ∷ []) ≡ count xs + count (x ∷ []))
    → (scope : Scope) (a b c : NetEntries) (xs : List X) (i : ℕ) (x : X) → i < length xs → x ≡ get_or xs i x
    → HasGained scope a b (sources (length a.literal_firsts) (take i xs)) (count (take i xs))
    → HasGained scope b c (sources (length b.literal_firsts) (x ∷ [])) (count (x ∷ []))
    → HasGained scope a c (sources (length a.literal_firsts) (take (i + 1) xs)) (count (take (i + 1) xs))
HasGained-next {X} sources count sources_push count_push scope a b c xs i x lt at first second =
    let longer : take (i + 1) xs ≡ take i xs ++ x ∷ [] = take_more xs i x lt ∙ ap (λ (y : X). take i xs ++ y ∷ []) (sym at) in
    subst (λ (ys : List X). HasGained scope a c (sources (length a.literal_firsts) ys) (count ys)) (sym longer)
    (HasGained-more sources count sources_push count_push scope a b c (take i xs) x first second)

-- where a step ends well, what it gives gives more
pub ok_then : {T E : Type 0} (r : Result T E) (P Q : Type 0) → OnOk r P → (P → Q) → OnOk r Q
ok_then (Ok t) P Q given then = then given
ok_then (Err e) P Q given then = tt

-- ---- runs

-- runs behind things without name
pub HasGained-behind : (scope : Scope) (a b c : NetEntries) (runs : List BitRun) (own count : ℕ) → HasGained scope a b [] own → HasGained scope b c (run_sources (length b.literal_firsts) runs) count
    → HasGained scope a c (run_sources (length a.literal_firsts + own) runs) (own + count)
HasGained-behind scope a b c runs own count first second =
    HasGained-same scope a c ([] ++ run_sources (length b.literal_firsts) runs) (run_sources (length a.literal_firsts + own) runs) (own + count) (own + count)
    (ap (λ (n : ℕ). run_sources n runs) first.numbers) refl
    (HasGained-then scope a b c [] (run_sources (length b.literal_firsts) runs) own count first second)

-- runs behind runs
pub HasGained-runs : (scope : Scope) (a b c : NetEntries) (xs ys : List BitRun)
    → HasGained scope a b (run_sources (length a.literal_firsts) xs) (literal_count xs) → HasGained scope b c (run_sources (length b.literal_firsts) ys) (literal_count ys)
    → HasGained scope a c (run_sources (length a.literal_firsts) (xs ++ ys)) (literal_count (xs ++ ys))
HasGained-runs scope a b c xs ys first second =
    let n = length a.literal_firsts in
    HasGained-same scope a c (run_sources n xs ++ run_sources (length b.literal_firsts) ys) (run_sources n (xs ++ ys)) (literal_count xs + literal_count ys) (literal_count (xs ++ ys))
    (ap (λ (k : ℕ). run_sources n xs ++ run_sources k ys) first.numbers ∙ sym (run_sources-append n xs ys))
    (sym (literal_count-append xs ys))
    (HasGained-then scope a b c (run_sources n xs) (run_sources (length b.literal_firsts) ys) (literal_count xs) (literal_count ys) first second)

-- the runs of one element
pub HasGained-one : {X : Type 0} (runs_of : X → List BitRun) (scope : Scope) (a b : NetEntries) (x : X)
    → HasGained scope a b (run_sources (length a.literal_firsts) (runs_of x)) (literal_count (runs_of x))
    → HasGained scope a b (sources_in runs_of (length a.literal_firsts) (x ∷ [])) (literals_in runs_of (x ∷ []))
HasGained-one runs_of scope a b x gained =
    subst (λ (runs : List BitRun). HasGained scope a b (run_sources (length a.literal_firsts) runs) (literal_count runs)) (sym (append-nil (runs_of x))) gained

-- one part
pub HasGained-part : (scope : Scope) (a b : NetEntries) (part : ModulePart) → HasGained scope a b (part_sources (length a.literal_firsts, part)) (unnamed_count part)
    → HasGained scope a b (parts_sources (length a.literal_firsts) (part ∷ [])) (sum_by unnamed_count (part ∷ []))
HasGained-part scope a b part gained =
    HasGained-same scope a b (part_sources (length a.literal_firsts, part)) (parts_sources (length a.literal_firsts) (part ∷ [])) (unnamed_count part) (sum_by unnamed_count (part ∷ []))
    (sym (append-nil (part_sources (length a.literal_firsts, part))))
    (omega (arith, sum_by-cons unnamed_count part []))
    gained

-- what all parts make of no nets
pub HasGained-all : (scope : Scope) (old new : NetEntries) (parts : List ModulePart) (unnamed : ℕ) → IsEmpty old → HasGained scope old new (parts_sources (length old.literal_firsts) parts) unnamed
    → new.nets ≡ module_nets scope parts
HasGained-all scope old new parts unnamed empty gained =
    let start : length old.literal_firsts ≡ 0 = ap length empty.literals in
    let sources = parts_sources (length old.literal_firsts) parts in
    sym (append-nil new.nets)
    ∙ gained.nets []
    ∙ ap (nets_with scope old) (append-nil sources)
    ∙ rw (empty.nets, empty.names, empty.bits) (ap (λ (n : ℕ). nets_from scope 0 (new_sources [] (parts_sources n parts))) start)
