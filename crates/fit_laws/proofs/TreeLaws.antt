-- What each layer of a fit expression or target gives, the whole gives.
use Rattle.std.proofs.Common.{ℕ, zero, suc, ◌<◌, List, length, map, sym, subst, arith}
use Rattle.std.specs.List.{AllByRecursion}
use Rattle.std.proofs.lemmas.List.{length-map}
use Rattle.v_tree.specs.declared.expressions.Expr.{Expr, out-Expr, map-Expr, fold_out-Expr}
use Rattle.v_tree.specs.declared.expressions.Expr.TheOpen.{Expr-F}
use Rattle.v_tree.specs.declared.expressions.Expr.TheFolds.{fold-Expr}
use Rattle.v_tree.specs.declared.expressions.Target.{Target, out-Target, map-Target, fold_out-Target}
use Rattle.v_tree.specs.declared.expressions.Target.TheOpen.{Target-F}
use Rattle.v_tree.specs.declared.expressions.Target.TheFolds.{fold-Target}
use Rattle.v_tree.specs.Fit.{AreSome, IsFitExprAt, IsFitExprLayer, IsFitPick, IsFitTargetAt, IsFitTargetLayer, IsLiteral, IsNumber}
use Rattle.flattening_laws.proofs.Apart.{each_map, each_weaker}

-- a fact of each of some things, one or more
abbrev pub OfSome : {X : Type 0} → (X → Type 0) → List X → Type 0
OfSome P xs = (0 < length xs) × AllByRecursion P xs

-- one layer of an expression, of whose parts the fact holds
abbrev pub IsExprLayer : {X : Type 0} → (X → Type 0) → Expr-F X → Type 0
IsExprLayer P (Expr-F.Pick p) = IsFitPick p
IsExprLayer P (Expr-F.Number location n) = IsNumber n
IsExprLayer P (Expr-F.Based location literal) = IsLiteral literal
IsExprLayer P (Expr-F.Concat location parts) = OfSome P parts

abbrev pub IsTargetLayer : {X : Type 0} → (X → Type 0) → Target-F X → Type 0
IsTargetLayer P (Target-F.Pick p) = IsFitPick p
IsTargetLayer P (Target-F.Concat location parts) = OfSome P parts

module _ {X : Type 0} where
  pub some_map : {Y : Type 0} → (P : X → Type 0) (f : Y → X) (ys : List Y) → OfSome (λ y. P (f y)) ys → OfSome P (map f ys)
  some_map P f ys h = let least = h.0 in let same = length-map ys f in (omega arith, each_map P f ys h.1)

  module _ (P : X → Type 0) (layer : Expr-F X → X) (keeps : (o : Expr-F X) → IsExprLayer P o → P (layer o)) where
    expr_layer_keeps : (AreParts : List Expr → Type 0) → ((parts : List Expr) → AreParts parts → OfSome (λ e. P (fold-Expr X layer e)) parts)
        → (o : Expr-F Expr) → IsFitExprLayer AreParts o → IsExprLayer P (map-Expr Expr X (fold-Expr X layer) o)
    expr_layer_keeps AreParts of (Expr-F.Pick p) f = f
    expr_layer_keeps AreParts of (Expr-F.Number location n) f = f
    expr_layer_keeps AreParts of (Expr-F.Based location literal) f = f
    expr_layer_keeps AreParts of (Expr-F.Concat location parts) f = some_map P (fold-Expr X layer) parts (of parts f)

    pub expr_keeps : (depth : ℕ) (e : Expr) → IsFitExprAt depth e → P (fold-Expr X layer e)
    expr_keeps zero e f =
        subst P (sym (fold_out-Expr X layer e)) (keeps (map-Expr Expr X (fold-Expr X layer) (out-Expr e))
        (expr_layer_keeps (λ parts. ⊥) (λ parts never. absurd never) (out-Expr e) f))
    expr_keeps (suc depth) e f =
        subst P (sym (fold_out-Expr X layer e)) (keeps (map-Expr Expr X (fold-Expr X layer) (out-Expr e))
        (expr_layer_keeps (AreSome (IsFitExprAt depth))
        (λ parts are. (are.some, each_weaker (IsFitExprAt depth) (λ p. P (fold-Expr X layer p)) parts (λ p g. expr_keeps depth p g) are.fit.each)) (out-Expr e) f))

  module _ (P : X → Type 0) (layer : Target-F X → X) (keeps : (o : Target-F X) → IsTargetLayer P o → P (layer o)) where
    target_layer_keeps : (AreParts : List Target → Type 0) → ((parts : List Target) → AreParts parts → OfSome (λ t. P (fold-Target X layer t)) parts)
        → (o : Target-F Target) → IsFitTargetLayer AreParts o → IsTargetLayer P (map-Target Target X (fold-Target X layer) o)
    target_layer_keeps AreParts of (Target-F.Pick p) f = f
    target_layer_keeps AreParts of (Target-F.Concat location parts) f = some_map P (fold-Target X layer) parts (of parts f)

    pub target_keeps : (depth : ℕ) (t : Target) → IsFitTargetAt depth t → P (fold-Target X layer t)
    target_keeps zero t f =
        subst P (sym (fold_out-Target X layer t)) (keeps (map-Target Target X (fold-Target X layer) (out-Target t))
        (target_layer_keeps (λ parts. ⊥) (λ parts never. absurd never) (out-Target t) f))
    target_keeps (suc depth) t f =
        subst P (sym (fold_out-Target X layer t)) (keeps (map-Target Target X (fold-Target X layer) (out-Target t))
        (target_layer_keeps (AreSome (IsFitTargetAt depth))
        (λ parts are. (are.some, each_weaker (IsFitTargetAt depth) (λ p. P (fold-Target X layer p)) parts (λ p g. target_keeps depth p g) are.fit.each)) (out-Target t) f))
