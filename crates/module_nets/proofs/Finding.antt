-- What finds the first bits of nets when one more is added.
use Rattle.std.proofs.Common.{◌≡◌, ℕ, zero, suc, Bool, true, false, cond, List, [], ◌∷◌, ◌++◌, length, eqb, Option, Some, None, refl, sym, ap, ◌∙◌}
use Rattle.std.proofs.lemmas.Bool.{eq-eqb}
use Rattle.std.proofs.Math.Dec.{eqb-suc-suc, eqb-suc-zero, eqb-zero-suc}
use Rattle.std.specs.List.{slice_get}
use Rattle.std.specs.Option.{option_flatten, option_or, unwrap_or}
use Rattle.v_lexer.specs.declared.literals.Bit.{Bit}
use Rattle.name_table.specs.Names.{same_name, index_of}
use Rattle.module_graph.specs.Numbers.{lesser, number_at}
use Rattle.module_graph.proofs.NumberLaws.{least_new, same_name_equal}
use Rattle.netlist_plan.specs.declared.nets.NetSource.{NetSource}
use Rattle.netlist_plan.specs.declared.nets.NetSource.TheVariants.{Named, Literal}
use Rattle.netlist_plan.specs.declared.nets.ModuleNet.{ModuleNet}
use Rattle.netlist_plan.specs.Nets.{first_where, is_literal, is_named}
use Rattle.module_nets.specs.Entries.{first_of}

abbrev pub net_at : NetSource → ℕ → ModuleNet
net_at source first = record { source = source; first = first }

-- the first bit that is found, or else 0
pub first_where-first_of : (test : NetSource → Bool) (nets : List ModuleNet) → first_where test nets ≡ unwrap_or (first_of test nets) 0
first_where-first_of test [] = refl
first_where-first_of test (net ∷ nets) = by (test net.source) (first_where-first_of test nets)
  where
    by : (here : Bool) → first_where test nets ≡ unwrap_or (first_of test nets) 0
        → cond here net.first (first_where test nets) ≡ unwrap_or (cond here (Some net.first) (first_of test nets)) 0
    by true rest = refl
    by false rest = rest

first_of-push : (test : NetSource → Bool) (nets : List ModuleNet) (net : ModuleNet) → first_of test (nets ++ net ∷ []) ≡ option_or (first_of test nets) (cond (test net.source) (Some net.first) None)
first_of-push test [] net = refl
first_of-push test (other ∷ nets) net = by (test other.source) (first_of-push test nets net)
  where
    by : (here : Bool) → first_of test (nets ++ net ∷ []) ≡ option_or (first_of test nets) (cond (test net.source) (Some net.first) None)
        → cond here (Some other.first) (first_of test (nets ++ net ∷ [])) ≡ option_or (cond here (Some other.first) (first_of test nets)) (cond (test net.source) (Some net.first) None)
    by true rest = refl
    by false rest = rest

or_none : (x : Option ℕ) → option_or x None ≡ x
or_none None = refl
or_none (Some k) = refl

-- a net that doesn't pass the test
first_of-other : (test : NetSource → Bool) (nets : List ModuleNet) (net : ModuleNet) → test net.source ≡ false → first_of test (nets ++ net ∷ []) ≡ first_of test nets
first_of-other test nets net other =
    first_of-push test nets net
    ∙ ap (λ (b : Bool). option_or (first_of test nets) (cond b (Some net.first) None)) other
    ∙ or_none (first_of test nets)

-- ---- names

lesser_none : (x : Option ℕ) → option_or x None ≡ lesser x None
lesser_none None = refl
lesser_none (Some k) = refl

-- the net of a new name
pub names-new : (nets : List ModuleNet) (names : List (List ℕ)) (firsts : List ℕ) → length firsts ≡ length names
    → (name : List ℕ) (first : ℕ) → index_of name names ≡ None
    → (q : List ℕ) → first_of (is_named q) nets ≡ number_at firsts (index_of q names)
    → first_of (is_named q) (nets ++ net_at (Named name) first ∷ []) ≡ number_at (firsts ++ first ∷ []) (index_of q (names ++ name ∷ []))
names-new nets names firsts whole name first absent q at =
    first_of-push (is_named q) nets (net_at (Named name) first)
    ∙ ap (λ (x : Option ℕ). option_or x (cond (same_name q name) (Some first) None)) at
    ∙ by (same_name q name) refl
    ∙ sym (least_new names firsts whole name first q absent)
  where
    by : (same : Bool) → same_name q name ≡ same → option_or (number_at firsts (index_of q names)) (cond same (Some first) None) ≡ lesser (number_at firsts (index_of q names)) (cond same (Some first) None)
    by false is = lesser_none (number_at firsts (index_of q names))
    by true is =
        let here : index_of q names ≡ None = ap (λ (n : List ℕ). index_of n names) (same_name_equal q name is) ∙ absent in
        rw here refl

-- a literal has no name
pub names-literal : (nets : List ModuleNet) (number : ℕ) (bits : List Bit) (first : ℕ) (q : List ℕ) → first_of (is_named q) (nets ++ net_at (Literal number bits) first ∷ []) ≡ first_of (is_named q) nets
names-literal nets number bits first q = first_of-other (is_named q) nets (net_at (Literal number bits) first) refl

-- ---- literals

-- the net of a name is no literal
pub literals-name : (nets : List ModuleNet) (name : List ℕ) (first : ℕ) (n : ℕ) → first_of (is_literal n) (nets ++ net_at (Named name) first ∷ []) ≡ first_of (is_literal n) nets
literals-name nets name first n = first_of-other (is_literal n) nets (net_at (Named name) first) refl

-- one more first bit, which may be there
flatten-push : (firsts : List (Option ℕ)) (n : ℕ) (last : Option ℕ) → option_flatten (slice_get (firsts ++ last ∷ []) n) ≡ option_or (option_flatten (slice_get firsts n)) (cond (eqb n (length firsts)) last None)
flatten-push [] zero last = sym (ap (λ (b : Bool). cond b last None) (eq-eqb 0 0 refl))
flatten-push [] (suc n) last = sym (ap (λ (b : Bool). cond b last None) (eqb-suc-zero n))
flatten-push (f ∷ firsts) zero last = sym (ap (λ (b : Bool). option_or f (cond b last None)) (eqb-zero-suc (length firsts)) ∙ or_none f)
flatten-push (f ∷ firsts) (suc n) last = flatten-push firsts n last ∙ ap (λ (b : Bool). option_or (option_flatten (slice_get firsts n)) (cond b last None)) (sym (eqb-suc-suc n (length firsts)))

-- a thing without name that isn't a literal
pub literals-none : (firsts : List (Option ℕ)) (n : ℕ) → option_flatten (slice_get (firsts ++ None ∷ []) n) ≡ option_flatten (slice_get firsts n)
literals-none firsts n =
    flatten-push firsts n None
    ∙ by (eqb n (length firsts)) (option_flatten (slice_get firsts n))
  where
    by : (here : Bool) (x : Option ℕ) → option_or x (cond here None None) ≡ x
    by true x = or_none x
    by false x = or_none x

-- the literal that is the next thing without name
pub literals-next : (nets : List ModuleNet) (firsts : List (Option ℕ)) (bits : List Bit) (first n : ℕ)
    → first_of (is_literal n) nets ≡ option_flatten (slice_get firsts n)
    → first_of (is_literal n) (nets ++ net_at (Literal (length firsts) bits) first ∷ []) ≡ option_flatten (slice_get (firsts ++ Some first ∷ []) n)
literals-next nets firsts bits first n at =
    first_of-push (is_literal n) nets (net_at (Literal (length firsts) bits) first)
    ∙ ap (λ (x : Option ℕ). option_or x (cond (eqb n (length firsts)) (Some first) None)) at
    ∙ sym (flatten-push firsts n (Some first))
