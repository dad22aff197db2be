-- The uses in expressions and targets made of others.
use Rattle.std.proofs.Common.{◌≡◌, List, sym, ap, ◌∙◌}
use Rattle.std.specs.List.{flat_map}
use Rattle.std.proofs.lemmas.List.Folds.{flat_map-map}
use Rattle.v_tree.specs.declared.locations.Location.{Location}
use Rattle.v_tree.specs.declared.expressions.Expr.{Expr, fold-roll-Expr}
use Rattle.v_tree.specs.declared.expressions.Expr.TheOpen.{Expr-F}
use Rattle.v_tree.specs.declared.expressions.Expr.TheVariants as expr
use Rattle.v_tree.specs.declared.expressions.Target.{Target, fold-roll-Target}
use Rattle.v_tree.specs.declared.expressions.Target.TheOpen.{Target-F}
use Rattle.v_tree.specs.declared.expressions.Target.TheVariants as target
use Rattle.module_scope.specs.declared.roles.Side.{Side}
use Rattle.module_scope.specs.Mentions.{Mention, expr_layer, expr_mentions, target_layer, target_mentions}

pub expr_mentions-concat : (at : Side) (location : Location) (parts : List Expr) → expr_mentions at (expr.Concat location parts) ≡ flat_map (expr_mentions at) parts
expr_mentions-concat at location parts =
    ap (expr_mentions at) (sym (expr.rolls-Concat location parts))
    ∙ fold-roll-Expr (List Mention) (expr_layer at) (Expr-F.Concat location parts)
    ∙ flat_map-map (λ (part : List Mention). part) (expr_mentions at) parts

pub target_mentions-concat : (location : Location) (parts : List Target) → target_mentions (target.Concat location parts) ≡ flat_map target_mentions parts
target_mentions-concat location parts =
    ap target_mentions (sym (target.rolls-Concat location parts))
    ∙ fold-roll-Target (List Mention) target_layer (Target-F.Concat location parts)
    ∙ flat_map-map (λ (part : List Mention). part) target_mentions parts
