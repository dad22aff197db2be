-- The runs of fit expressions and targets: one or more, each a name that is a text or a literal with a bit.
use Rattle.std.proofs.Common.{◌≡◌, ℕ, zero, suc, ◌-◌, ◌<◌, Bool, true, false, ◌&&◌, List, [], ◌∷◌, length, replicate, drop, Option, Some, None, refl, ap, arith}
use Rattle.std.specs.Prelude.{if◌then◌else◌, nat_lt}
use Rattle.std.specs.List.{AllByRecursion, flat_map, list_all}
use Rattle.std.proofs.lemmas.Bool.{lt-ltb}
use Rattle.std.proofs.lemmas.List.{length-append, length-drop, length-replicate}
use Rattle.std.proofs.lemmas.List.Sums.{sum_by-cons}
use Rattle.v_lexer.specs.declared.literals.Bit.{Bit}
use Rattle.v_lexer.specs.declared.literals.Bit.TheVariants.{Zero}
use Rattle.v_lexer.specs.declared.values.Literal.{Literal}
use Rattle.v_lexer.specs.Bytes.{is_visible}
use Rattle.v_lexer.specs.Literals.{binary}
use Rattle.v_tree.specs.declared.locations.Name.{Name}
use Rattle.v_tree.specs.declared.expressions.RangeBounds.{RangeBounds}
use Rattle.v_tree.specs.declared.expressions.Select.{Select}
use Rattle.v_tree.specs.declared.expressions.Pick.{Pick}
use Rattle.v_tree.specs.declared.expressions.Expr.{Expr, out-Expr}
use Rattle.v_tree.specs.declared.expressions.Expr.TheOpen.{Expr-F}
use Rattle.v_tree.specs.declared.expressions.Target.{Target}
use Rattle.v_tree.specs.declared.expressions.Target.TheOpen.{Target-F}
use Rattle.v_tree.specs.Fit.{AreSome, IsFitExpr, IsFitExprAt, IsFitExprLayer, IsFitName, IsFitPick, IsFitTarget, IsLiteral, IsVisible}
use Rattle.flat_names.specs.Spelling.{IsText}
use Rattle.module_scope.specs.declared.scopes.Scope.{Scope}
use Rattle.module_scope.specs.Scopes.{scope_net}
use Rattle.item_parts.specs.Widths.{net_range, range_width, width_in}
use Rattle.expression_bits.specs.declared.runs.BitRun.{BitRun}
use Rattle.expression_bits.specs.declared.runs.BitRun.TheVariants.{Net as NetRun, Literal as LiteralRun}
use Rattle.expression_bits.specs.Literals.{fit, leftmost, number_bits, place_bits, value_bits}
use Rattle.expression_bits.specs.Runs.{fit_runs, part_layer, part_runs, pick_run, place_runs, place_runs_in, run_width, runs_width, value_runs, value_runs_in, zeros_run}
use Rattle.module_parts.specs.Parts.{target_layer, target_runs}
use Rattle.flattening_laws.proofs.Apart.{each_append, each_flat_map, each_weaker}
use Rattle.fit_laws.specs.FitParts.{IsFitRun}
use Rattle.fit_laws.proofs.TreeLaws.{IsExprLayer, IsTargetLayer, OfSome, expr_keeps, target_keeps}

-- ---- names

visible_text : (text : List ℕ) → AllByRecursion IsVisible text → list_all is_visible text ≡ true
visible_text [] f = refl
visible_text (b ∷ text) f =
    let low = lt-ltb 32 b (let least = f.0.0 in omega arith) in
    let high = lt-ltb b 127 (let most = f.0.1 in omega arith) in
    both (is_visible b) (list_all is_visible text) (both (nat_lt 32 b) (nat_lt b 127) low high) (visible_text text f.1)
  where
    both : (a c : Bool) → a ≡ true → c ≡ true → (a && c) ≡ true
    both true c d e = e
    both false c d e = d

pub name_fit : (n : Name) → IsFitName n → IsText n.text
name_fit n f = (f.some, visible_text n.text f.visible)

-- ---- literals

length_binary : (n value : ℕ) → length (binary n value) ≡ n
unfolding binary
length_binary zero value = refl
length_binary (suc n) value = ap suc (length_binary n value)

length_fit : (width : ℕ) (extension : Bit) (bits : List Bit) → length (fit width extension bits) ≡ width
length_fit width extension bits =
    let whole = length-append (replicate (width - length bits) extension) (drop (length bits - width) bits) in
    let more = length-replicate (width - length bits) extension in
    let kept = length-drop (length bits - width) bits in omega arith

pub length_number : (width n : ℕ) → length (number_bits width n) ≡ width
length_number width n = length_fit width Zero (binary 32 n)

pub length_value : (width : ℕ) (size : Option ℕ) (literal : Literal) → length (value_bits width size literal) ≡ width
length_value width None literal = length_fit width (if literal.signed then leftmost literal.bits else literal.extension) literal.bits
length_value width (Some size) literal = length_fit width (if literal.signed then leftmost literal.bits else Zero) literal.bits

place_some : (width : ℕ) (size : Option ℕ) (literal : Literal) → 0 < width → IsLiteral literal → 0 < length (place_bits width size literal)
place_some width None literal some f =
    let same = length_fit width (if literal.signed then leftmost literal.bits else literal.extension) literal.bits in omega arith
place_some width (Some size) literal some f = f.some

-- ---- runs

abbrev pub AreFitRuns : List BitRun → Type 0
AreFitRuns runs = OfSome IsFitRun runs

module _ {X : Type 0} (f : X → List BitRun) where
  pub runs_flat_map : (xs : List X) → OfSome (λ x. AreFitRuns (f x)) xs → AreFitRuns (flat_map f xs)
  runs_flat_map [] h = absurd (let never = h.0 in omega arith)
  runs_flat_map (x ∷ xs) h =
      let some = h.1.0.0 in let whole = length-append (f x) (flat_map f xs) in
      (omega arith, each_flat_map IsFitRun f (x ∷ xs) (each_weaker (λ y. AreFitRuns (f y)) (λ y. AllByRecursion IsFitRun (f y)) (x ∷ xs) (λ y k. k.1) h.1))

pick_fit : (p : Pick) → IsFitPick p → AreFitRuns (pick_run p ∷ [])
pick_fit p f = (omega arith, (name_fit p.name f.0, tt))

literal_fit : (bits : List Bit) → 0 < length bits → AreFitRuns (LiteralRun bits ∷ [])
literal_fit bits some = (omega arith, (some, tt))

number_some : (width n : ℕ) → 0 < width → 0 < length (number_bits width n)
number_some width n some = let same = length_number width n in omega arith

part_layer_fit : (o : Expr-F (List BitRun)) → IsExprLayer AreFitRuns o → AreFitRuns (part_layer o)
part_layer_fit (Expr-F.Pick p) f = pick_fit p f
part_layer_fit (Expr-F.Number location n) f = literal_fit (number_bits 32 n) (number_some 32 n (omega arith))
part_layer_fit (Expr-F.Based location literal) f = literal_fit literal.bits f.some
part_layer_fit (Expr-F.Concat location parts) f = runs_flat_map (λ part. part) parts f

part_fit : (depth : ℕ) (e : Expr) → IsFitExprAt depth e → AreFitRuns (part_runs e)
part_fit depth e f = expr_keeps AreFitRuns part_layer part_layer_fit depth e f

parts_fit : (depth : ℕ) (parts : List Expr) → AreSome (IsFitExprAt depth) parts → AreFitRuns (flat_map part_runs parts)
parts_fit depth parts f = runs_flat_map part_runs parts (f.some, each_weaker (IsFitExprAt depth) (λ e. AreFitRuns (part_runs e)) parts (part_fit depth) f.fit.each)

target_layer_fit : (o : Target-F (List BitRun)) → IsTargetLayer AreFitRuns o → AreFitRuns (target_layer o)
target_layer_fit (Target-F.Pick p) f = pick_fit p f
target_layer_fit (Target-F.Concat location parts) f = runs_flat_map (λ part. part) parts f

pub target_fit : (t : Target) → IsFitTarget t → AreFitRuns (target_runs t)
target_fit t f = target_keeps AreFitRuns target_layer target_layer_fit 64 t f

-- the runs of a terminal or a connection of a width
pub place_fit : (width : ℕ) (e : Expr) → 0 < width → IsFitExpr e → AreFitRuns (place_runs width e)
place_fit width e some f = by_layer (out-Expr e) f
  where
    by_layer : (o : Expr-F Expr) → IsFitExprLayer (AreSome (IsFitExprAt 63)) o → AreFitRuns (place_runs_in width o)
    by_layer (Expr-F.Pick p) g = pick_fit p g
    by_layer (Expr-F.Number location n) g = literal_fit (number_bits width n) (number_some width n some)
    by_layer (Expr-F.Based location literal) g = literal_fit (place_bits width literal.size literal) (place_some width literal.size literal some g)
    by_layer (Expr-F.Concat location parts) g = parts_fit 63 parts g

zeros_fit : (n : ℕ) → AllByRecursion IsFitRun (zeros_run n)
zeros_fit zero = tt
zeros_fit (suc n) = (let same = length-replicate (suc n) Zero in omega arith, tt)

-- the runs of the right side of an assignment
pub value_fit : (scope : Scope) (width : ℕ) (e : Expr) → 0 < width → IsFitExpr e → AllByRecursion IsFitRun (value_runs scope width e).runs
value_fit scope width e some f = by_layer (out-Expr e) f
  where
    extended : (own : ℕ) (runs : List BitRun) → AreFitRuns runs → AllByRecursion IsFitRun (fit_runs width own runs).runs
    extended own runs h = each_append IsFitRun (zeros_run (width - own)) runs (zeros_fit (width - own)) h.1

    by_layer : (o : Expr-F Expr) → IsFitExprLayer (AreSome (IsFitExprAt 63)) o → AllByRecursion IsFitRun (value_runs_in scope width o).runs
    by_layer (Expr-F.Pick p) g = extended (runs_width scope (pick_run p ∷ [])) (pick_run p ∷ []) (pick_fit p g)
    by_layer (Expr-F.Number location n) g = (number_some width n some, tt)
    by_layer (Expr-F.Based location literal) g = (let same = length_value width literal.size literal in omega arith, tt)
    by_layer (Expr-F.Concat location parts) g = extended (runs_width scope (flat_map part_runs parts)) (flat_map part_runs parts) (parts_fit 63 parts g)

-- ---- their widths

pub range_some : (range : Option RangeBounds) → 0 < range_width range
range_some None = omega arith
range_some (Some range) = omega arith

width_some : (range : Option RangeBounds) (select : Option Select) → 0 < width_in range select
width_some range None = range_some range
width_some range (Some select) = omega arith

run_some : (scope : Scope) (run : BitRun) → IsFitRun run → 0 < run_width scope run
run_some scope (NetRun name select) f = width_some (net_range (scope_net scope name)) select
run_some scope (LiteralRun bits) f = f

pub runs_some : (scope : Scope) (runs : List BitRun) → AreFitRuns runs → 0 < runs_width scope runs
runs_some scope [] f = absurd (let never = f.0 in omega arith)
runs_some scope (run ∷ runs) f =
    let first = run_some scope run f.1.0 in let whole = sum_by-cons (run_width scope) run runs in omega arith
