-- Rules of ranges, selects, expressions and targets.
use Rattle.std.proofs.Common.{◌≡◌, ℕ, zero, suc, ◌<◌, Bool, true, false, not, ◌&&◌, ◌||◌, List, [], ◌∷◌, ◌++◌, length, map, ◌⊎◌, inl, inr, refl, sym, ap, subst, ◌∙◌, arith}
use Rattle.v_tree.specs.declared.locations.Location.{Location}
use Rattle.v_tree.specs.Written.{Form, Written, at, bare, behind_commas, between_commas}
use Rattle.v_tree.specs.Written as form
use Rattle.v_tree.specs.Fit as fit
use Rattle.v_tree.specs.Spelling as spell
use Rattle.v_parser.specs.Input.{is_mark, ◌<$>◌, ◌&◌, choice, placed_number, placed_based, mark}
use Rattle.v_parser.specs.Input as input
use Rattle.v_lexer.specs.declared.values.Literal.{Literal}
use Rattle.v_tree.specs.declared.expressions.Expr.{Expr, out-Expr, roll-Expr, roll-out-Expr, map-Expr, fold-roll-Expr, fold_out-Expr}
use Rattle.v_tree.specs.declared.expressions.Expr.TheOpen.{Expr-F}
use Rattle.v_tree.specs.declared.expressions.Expr.TheVariants as expr
use Rattle.v_tree.specs.declared.expressions.Target.{Target, out-Target, roll-Target, roll-out-Target, map-Target, fold-roll-Target, fold_out-Target}
use Rattle.v_tree.specs.declared.expressions.Target.TheOpen.{Target-F}
use Rattle.v_tree.specs.declared.expressions.Target.TheVariants as target
use Rattle.v_parser.specs.Expressions as read
use Rattle.v_parser.specs.Expressions.{sees_mark, sees_name, sees_number, range, bound, select, pick, atom, expr_at, target_at, range_of, select_of, pick_of}
use Rattle.v_tree.specs.declared.expressions.RangeBounds.{RangeBounds}
use Rattle.v_tree.specs.declared.expressions.Select.{Select}
use Rattle.v_tree.specs.declared.expressions.Pick.{Pick}
use Rattle.v_parser.proofs.TokenRules.{name_rule, number_rule, placed_number_rule, placed_based_rule, mark_rule, skip_rule}
use Rattle.v_parser.proofs.Rules.{Rule, Follow, anything, begins, first_form, map_rule, variant_rule, refit_rule, follow_rule, pair_rule, optional_rule, choice_rule, comma_list_rule}

-- no `[` is next
abbrev pub no_bracket : Follow
no_bracket ws = not (is_mark 91 (first_form ws))

-- a range
pub range_rule : Rule read.range spell.range fit.IsFitRange anything
unfolding range
range_rule = refit_rule
    (map_rule (pair_rule (skip_rule 91) (pair_rule number_rule (pair_rule (skip_rule 58) (pair_rule number_rule (skip_rule 93) (λ y ws fit follow. refl)) (λ y ws fit follow. refl)) (λ y ws fit follow. refl)) (λ y ws fit follow. refl))
    range_of (λ (r : RangeBounds). (tt, (r.left, (tt, (r.right, tt))))) (λ b. refl) (λ a. refl))
    (λ r f. (f.1.0, f.1.1.1.0)) (λ r f. (tt, (f.0, (tt, (f.1, tt)))))

-- the other bound
pub bound_rule : Rule read.bound spell.bound fit.IsNumber anything
unfolding bound
bound_rule = refit_rule (map_rule (pair_rule (skip_rule 58) number_rule (λ y ws fit follow. refl)) (λ (z : Unit {0} × ℕ). z.1) (λ (n : ℕ). (tt, n)) (λ b. refl) (λ a. refl)) (λ n f. f.1) (λ n f. (tt, f))

-- a select
pub select_rule : Rule read.select spell.select fit.IsFitSelect anything
unfolding select
select_rule = refit_rule
    (map_rule (pair_rule (skip_rule 91) (pair_rule number_rule (pair_rule (optional_rule (sees_mark 58) bound_rule (λ x ws fit. refl)) (skip_rule 93) (λ y ws fit follow. refl)) (λ y ws fit follow. refl)) (λ y ws fit follow. refl))
    select_of (λ (s : Select). (tt, (s.left, (s.right, tt)))) (λ b. refl) (λ a. refl))
    (λ s f. (f.1.0, f.1.1.0)) (λ s f. (tt, (f.0, (f.1, tt))))

-- a name, with a select or without one
pub pick_rule : Rule read.pick spell.pick fit.IsFitPick no_bracket
unfolding pick
pick_rule = refit_rule
    (map_rule (pair_rule name_rule (optional_rule (sees_mark 91) select_rule (λ x ws fit. refl)) (λ y ws fit follow. refl))
    pick_of (λ (p : Pick). (p.name, p.select)) (λ b. refl) (λ a. refl))
    (λ p f. f) (λ p f. f)

-- a pick is written so
pick_spelled : (p : Pick) → spell.expr (expr.Pick p) ≡ spell.pick p
pick_spelled p = ap spell.expr (sym (expr.rolls-Pick p)) ∙ fold-roll-Expr (List Written) spell.expr_layer (Expr-F.Pick p)

-- a number is written so
number_spelled : (location : Location) (n : ℕ) → spell.expr (expr.Number location n) ≡ at location (form.Number n) ∷ []
number_spelled location n = ap spell.expr (sym (expr.rolls-Number location n)) ∙ fold-roll-Expr (List Written) spell.expr_layer (Expr-F.Number location n)

-- a based number is written so
based_spelled : (location : Location) (literal : Literal) → spell.expr (expr.Based location literal) ≡ at location (form.Based literal) ∷ []
based_spelled location literal = ap spell.expr (sym (expr.rolls-Based location literal)) ∙ fold-roll-Expr (List Written) spell.expr_layer (Expr-F.Based location literal)

-- parts that are written each by itself
behind_spelled : (parts : List Expr) → behind_commas (λ (part : List Written). part) (map spell.expr parts) ≡ behind_commas spell.expr parts
behind_spelled [] = refl
behind_spelled (e ∷ parts) = ap (λ (ws : List Written). bare (form.Mark 44) ∷ (spell.expr e ++ ws)) (behind_spelled parts)

-- the same of parts with commas between
between_spelled : (parts : List Expr) → between_commas (λ (part : List Written). part) (map spell.expr parts) ≡ between_commas spell.expr parts
between_spelled [] = refl
between_spelled (e ∷ parts) = ap (λ (ws : List Written). spell.expr e ++ ws) (behind_spelled parts)

-- a concatenation is written so
concat_spelled : (location : Location) (parts : List Expr) → spell.expr (expr.Concat location parts) ≡ spell.placed_mark location 123 ∷ (between_commas spell.expr parts ++ spell.mark 125 ∷ [])
concat_spelled location parts = ap spell.expr (sym (expr.rolls-Concat location parts)) ∙ fold-roll-Expr (List Written) spell.expr_layer (Expr-F.Concat location parts)
    ∙ ap (λ (ws : List Written). spell.placed_mark location 123 ∷ (ws ++ spell.mark 125 ∷ [])) (between_spelled parts)

-- an expression is what its layer makes
made_of : (e : Expr) (o : Expr-F Expr) (made : Expr) → out-Expr e ≡ o → roll-Expr o ≡ made → e ≡ made
made_of e o made is rolls = sym (roll-out-Expr e) ∙ ap roll-Expr is ∙ rolls

-- what an expression that isn't a concatenation keeps
abbrev IsFitAtom : Expr → Type 0
IsFitAtom e = fit.IsFitExprLayer (λ parts. ⊥) (out-Expr e)

-- a pick that fits
abbrev IsPick : Expr → Type 0
IsPick e = (p : Pick) × (e ≡ expr.Pick p) × fit.IsFitPick p

-- a number that fits
abbrev IsNumeral : Expr → Type 0
IsNumeral e = (z : ℕ × Location) × (e ≡ expr.Number z.1 z.0) × fit.IsNumber z.0

-- a based number that fits
abbrev IsBased : Expr → Type 0
IsBased e = (z : Literal × Location) × (e ≡ expr.Based z.1 z.0) × fit.IsLiteral z.0

-- an atom of each variant fits
atom_of : (AreParts : List Expr → Type 0) (e : Expr) → IsPick e ⊎ (IsNumeral e ⊎ IsBased e) → fit.IsFitExprLayer AreParts (out-Expr e)
atom_of AreParts e (inl f) = subst (fit.IsFitExprLayer AreParts) (sym (ap out-Expr f.1 ∙ expr.outs-Pick f.0)) f.2
atom_of AreParts e (inr (inl f)) = subst (fit.IsFitExprLayer AreParts) (sym (ap out-Expr f.1 ∙ expr.outs-Number f.0.1 f.0.0)) f.2
atom_of AreParts e (inr (inr f)) = subst (fit.IsFitExprLayer AreParts) (sym (ap out-Expr f.1 ∙ expr.outs-Based f.0.1 f.0.0)) f.2

-- which variant an atom is
atom_by : (e : Expr) (o : Expr-F Expr) → out-Expr e ≡ o → fit.IsFitExprLayer (λ parts. ⊥) o → IsPick e ⊎ (IsNumeral e ⊎ IsBased e)
atom_by e (Expr-F.Pick p) is f = inl (p, made_of e (Expr-F.Pick p) (expr.Pick p) is (expr.rolls-Pick p), f)
atom_by e (Expr-F.Number location n) is f = inr (inl ((n, location), made_of e (Expr-F.Number location n) (expr.Number location n) is (expr.rolls-Number location n), f))
atom_by e (Expr-F.Based location literal) is f = inr (inr ((literal, location), made_of e (Expr-F.Based location literal) (expr.Based location literal) is (expr.rolls-Based location literal), f))
atom_by e (Expr-F.Concat location parts) is f = absurd f

-- an expression begins as its variant is written
begins_as : (sees : Form → Form → Bool) (b : Bool) (e made : Expr) (vs ws : List Written) → e ≡ made → spell.expr made ≡ vs → begins sees (vs ++ ws) ≡ b → begins sees (spell.expr e ++ ws) ≡ b
begins_as sees b e made vs ws is spelled begun = ap (λ (d : Expr). begins sees (spell.expr d ++ ws)) is ∙ ap (λ (us : List Written). begins sees (us ++ ws)) spelled ∙ begun

-- numbers, with base or without
numeral_rule : Rule (choice sees_number ((λ z. expr.Number z.1 z.0) <$> placed_number) ((λ z. expr.Based z.1 z.0) <$> placed_based)) spell.expr (λ e. IsNumeral e ⊎ IsBased e) anything
numeral_rule = choice_rule sees_number
    (variant_rule placed_number_rule (λ (z : ℕ × Location). expr.Number z.1 z.0) spell.expr (λ z. number_spelled z.1 z.0))
    (variant_rule placed_based_rule (λ (z : Literal × Location). expr.Based z.1 z.0) spell.expr (λ z. based_spelled z.1 z.0))
    (λ e ws f follow. begins_as sees_number true e (expr.Number f.0.1 f.0.0) (at f.0.1 (form.Number f.0.0) ∷ []) ws f.1 (number_spelled f.0.1 f.0.0) refl)
    (λ e ws f follow. begins_as sees_number false e (expr.Based f.0.1 f.0.0) (at f.0.1 (form.Based f.0.0) ∷ []) ws f.1 (based_spelled f.0.1 f.0.0) refl)

-- numbers don't begin with a name
numeral_begins : (e : Expr) (ws : List Written) → IsNumeral e ⊎ IsBased e → begins sees_name (spell.expr e ++ ws) ≡ false
numeral_begins e ws (inl f) = begins_as sees_name false e (expr.Number f.0.1 f.0.0) (at f.0.1 (form.Number f.0.0) ∷ []) ws f.1 (number_spelled f.0.1 f.0.0) refl
numeral_begins e ws (inr f) = begins_as sees_name false e (expr.Based f.0.1 f.0.0) (at f.0.1 (form.Based f.0.0) ∷ []) ws f.1 (based_spelled f.0.1 f.0.0) refl

-- a pick or a number
atom_rule : Rule atom spell.expr IsFitAtom no_bracket
unfolding atom
atom_rule = refit_rule
    (follow_rule
    (choice_rule sees_name (variant_rule pick_rule expr.Pick spell.expr pick_spelled) numeral_rule
    (λ e ws f follow. begins_as sees_name true e (expr.Pick f.0) (spell.pick f.0) ws f.1 (pick_spelled f.0) refl)
    (λ e ws f follow. numeral_begins e ws f))
    (λ ws follow. ap (λ (b : Bool). b && true) follow))
    (atom_of (λ parts. ⊥)) (λ e f. atom_by e (out-Expr e) refl f)

-- the first token of an expression
abbrev pub begins_expr : Form → Bool
begins_expr f = input.is_name f || input.is_number f || input.is_based f || is_mark 123 f

-- each layer of an expression begins so
layer_begins : (o : Expr-F Expr) (ws : List Written) → begins_expr (first_form (spell.expr_layer (map-Expr Expr (List Written) spell.expr o) ++ ws)) ≡ true
layer_begins (Expr-F.Pick p) ws = refl
layer_begins (Expr-F.Number location n) ws = refl
layer_begins (Expr-F.Based location literal) ws = refl
layer_begins (Expr-F.Concat location parts) ws = refl

-- each layer of an expression has a token
layer_some : (o : Expr-F Expr) → 0 < length (spell.expr_layer (map-Expr Expr (List Written) spell.expr o))
layer_some (Expr-F.Pick p) = omega arith
layer_some (Expr-F.Number location n) = omega arith
layer_some (Expr-F.Based location literal) = omega arith
layer_some (Expr-F.Concat location parts) = omega arith

-- an expression begins so
pub expr_begins : (depth : ℕ) (e : Expr) (ws : List Written) → fit.IsFitExprAt depth e → begins_expr (first_form (spell.expr e ++ ws)) ≡ true
expr_begins depth e ws f = ap (λ (vs : List Written). begins_expr (first_form (vs ++ ws))) (fold_out-Expr (List Written) spell.expr_layer e) ∙ layer_begins (out-Expr e) ws

-- an expression has a token
pub expr_some : (depth : ℕ) (e : Expr) → fit.IsFitExprAt depth e → 0 < length (spell.expr e)
expr_some depth e f = subst (λ (vs : List Written). 0 < length vs) (sym (fold_out-Expr (List Written) spell.expr_layer e)) (layer_some (out-Expr e))

-- a concatenation of expressions
abbrev IsConcat : (Expr → Type 0) → Expr → Type 0
IsConcat IsPart e = (z : Location × (List Expr × Unit {0})) × (e ≡ expr.Concat z.0 z.1.0) × (fit.IsFree z.0 × (fit.AreSome IsPart z.1.0 × fit.IsFree z.1.1))

-- an expression is a concatenation or an atom
layer_of : (depth : ℕ) (e : Expr) → IsConcat (fit.IsFitExprAt depth) e ⊎ IsFitAtom e → fit.IsFitExprAt (suc depth) e
layer_of depth e (inl f) = subst (fit.IsFitExprLayer (fit.AreSome (fit.IsFitExprAt depth))) (sym (ap out-Expr f.1 ∙ expr.outs-Concat f.0.0 f.0.1.0)) f.2.1.0
layer_of depth e (inr f) = atom_of (fit.AreSome (fit.IsFitExprAt depth)) e (atom_by e (out-Expr e) refl f)

-- which of the two an expression is
layer_by : (depth : ℕ) (e : Expr) (o : Expr-F Expr) → out-Expr e ≡ o → fit.IsFitExprLayer (fit.AreSome (fit.IsFitExprAt depth)) o → IsConcat (fit.IsFitExprAt depth) e ⊎ fit.IsFitExprLayer (λ parts. ⊥) o
layer_by depth e (Expr-F.Pick p) is f = inr f
layer_by depth e (Expr-F.Number location n) is f = inr f
layer_by depth e (Expr-F.Based location literal) is f = inr f
layer_by depth e (Expr-F.Concat location parts) is f = inl ((location, (parts, tt)), made_of e (Expr-F.Concat location parts) (expr.Concat location parts) is (expr.rolls-Concat location parts), (tt, (f, tt)))

-- an atom doesn't begin with a brace
atom_begins : (o : Expr-F Expr) (ws : List Written) → fit.IsFitExprLayer (λ parts. ⊥) o → begins (sees_mark 123) (spell.expr_layer (map-Expr Expr (List Written) spell.expr o) ++ ws) ≡ false
atom_begins (Expr-F.Pick p) ws f = refl
atom_begins (Expr-F.Number location n) ws f = refl
atom_begins (Expr-F.Based location literal) ws f = refl
atom_begins (Expr-F.Concat location parts) ws f = absurd f

-- an expression with concatenations so deep at most
pub expr_at_rule : (depth : ℕ) → Rule (read.expr_at depth) spell.expr (fit.IsFitExprAt depth) no_bracket
unfolding expr_at
expr_at_rule zero = atom_rule
expr_at_rule (suc depth) = refit_rule
    (choice_rule (sees_mark 123)
    (variant_rule
    (pair_rule (mark_rule 123) (pair_rule (comma_list_rule (expr_at_rule depth) (expr_some depth) (λ ws. refl)) (skip_rule 125) (λ y ws f follow. refl)) (λ y ws f follow. refl))
    (λ (z : Location × (List Expr × Unit {0})). expr.Concat z.0 z.1.0) spell.expr (λ z. concat_spelled z.0 z.1.0))
    atom_rule
    (λ e ws f follow. begins_as (sees_mark 123) true e (expr.Concat f.0.0 f.0.1.0) (spell.placed_mark f.0.0 123 ∷ (between_commas spell.expr f.0.1.0 ++ spell.mark 125 ∷ [])) ws f.1 (concat_spelled f.0.0 f.0.1.0) refl)
    (λ e ws f follow. ap (λ (vs : List Written). begins (sees_mark 123) (vs ++ ws)) (fold_out-Expr (List Written) spell.expr_layer e) ∙ atom_begins (out-Expr e) ws f))
    (layer_of depth) (λ e f. layer_by depth e (out-Expr e) refl f)

-- a pick is written so as a target
target_pick_spelled : (p : Pick) → spell.target (target.Pick p) ≡ spell.pick p
target_pick_spelled p = ap spell.target (sym (target.rolls-Pick p)) ∙ fold-roll-Target (List Written) spell.target_layer (Target-F.Pick p)

-- targets that are written each by itself
targets_behind_spelled : (parts : List Target) → behind_commas (λ (part : List Written). part) (map spell.target parts) ≡ behind_commas spell.target parts
targets_behind_spelled [] = refl
targets_behind_spelled (t ∷ parts) = ap (λ (ws : List Written). bare (form.Mark 44) ∷ (spell.target t ++ ws)) (targets_behind_spelled parts)

-- the same of targets with commas between
targets_between_spelled : (parts : List Target) → between_commas (λ (part : List Written). part) (map spell.target parts) ≡ between_commas spell.target parts
targets_between_spelled [] = refl
targets_between_spelled (t ∷ parts) = ap (λ (ws : List Written). spell.target t ++ ws) (targets_behind_spelled parts)

-- a concatenation of targets is written so
target_concat_spelled : (location : Location) (parts : List Target) → spell.target (target.Concat location parts) ≡ spell.placed_mark location 123 ∷ (between_commas spell.target parts ++ spell.mark 125 ∷ [])
target_concat_spelled location parts = ap spell.target (sym (target.rolls-Concat location parts)) ∙ fold-roll-Target (List Written) spell.target_layer (Target-F.Concat location parts)
    ∙ ap (λ (ws : List Written). spell.placed_mark location 123 ∷ (ws ++ spell.mark 125 ∷ [])) (targets_between_spelled parts)

-- a target is what its layer makes
target_made_of : (t : Target) (o : Target-F Target) (made : Target) → out-Target t ≡ o → roll-Target o ≡ made → t ≡ made
target_made_of t o made is rolls = sym (roll-out-Target t) ∙ ap roll-Target is ∙ rolls

-- a target that is a pick
abbrev IsTargetPick : Target → Type 0
IsTargetPick t = (p : Pick) × (t ≡ target.Pick p) × fit.IsFitPick p

-- a concatenation of targets
abbrev IsTargetConcat : (Target → Type 0) → Target → Type 0
IsTargetConcat IsPart t = (z : Location × (List Target × Unit {0})) × (t ≡ target.Concat z.0 z.1.0) × (fit.IsFree z.0 × (fit.AreSome IsPart z.1.0 × fit.IsFree z.1.1))

-- a pick fits as a target
target_pick_of : (AreParts : List Target → Type 0) (t : Target) → IsTargetPick t → fit.IsFitTargetLayer AreParts (out-Target t)
target_pick_of AreParts t f = subst (fit.IsFitTargetLayer AreParts) (sym (ap out-Target f.1 ∙ target.outs-Pick f.0)) f.2

-- a target without concatenations is a pick
target_pick_by : (t : Target) (o : Target-F Target) → out-Target t ≡ o → fit.IsFitTargetLayer (λ parts. ⊥) o → IsTargetPick t
target_pick_by t (Target-F.Pick p) is f = (p, target_made_of t (Target-F.Pick p) (target.Pick p) is (target.rolls-Pick p), f)
target_pick_by t (Target-F.Concat location parts) is f = absurd f

-- a target is a concatenation or a pick
target_layer_of : (depth : ℕ) (t : Target) → IsTargetConcat (fit.IsFitTargetAt depth) t ⊎ IsTargetPick t → fit.IsFitTargetAt (suc depth) t
target_layer_of depth t (inl f) = subst (fit.IsFitTargetLayer (fit.AreSome (fit.IsFitTargetAt depth))) (sym (ap out-Target f.1 ∙ target.outs-Concat f.0.0 f.0.1.0)) f.2.1.0
target_layer_of depth t (inr f) = target_pick_of (fit.AreSome (fit.IsFitTargetAt depth)) t f

-- which of the two a target is
target_layer_by : (depth : ℕ) (t : Target) (o : Target-F Target) → out-Target t ≡ o → fit.IsFitTargetLayer (fit.AreSome (fit.IsFitTargetAt depth)) o → IsTargetConcat (fit.IsFitTargetAt depth) t ⊎ IsTargetPick t
target_layer_by depth t (Target-F.Pick p) is f = inr (p, target_made_of t (Target-F.Pick p) (target.Pick p) is (target.rolls-Pick p), f)
target_layer_by depth t (Target-F.Concat location parts) is f = inl ((location, (parts, tt)), target_made_of t (Target-F.Concat location parts) (target.Concat location parts) is (target.rolls-Concat location parts), (tt, (f, tt)))

-- a target begins as its variant is written
target_begins_as : (sees : Form → Form → Bool) (b : Bool) (t made : Target) (vs ws : List Written) → t ≡ made → spell.target made ≡ vs → begins sees (vs ++ ws) ≡ b → begins sees (spell.target t ++ ws) ≡ b
target_begins_as sees b t made vs ws is spelled begun = ap (λ (d : Target). begins sees (spell.target d ++ ws)) is ∙ ap (λ (us : List Written). begins sees (us ++ ws)) spelled ∙ begun

-- a target begins with a name or a `{`
abbrev pub begins_target : Form → Bool
begins_target f = input.is_name f || is_mark 123 f

-- each layer of a target begins so
target_layer_begins : (o : Target-F Target) (ws : List Written) → begins_target (first_form (spell.target_layer (map-Target Target (List Written) spell.target o) ++ ws)) ≡ true
target_layer_begins (Target-F.Pick p) ws = refl
target_layer_begins (Target-F.Concat location parts) ws = refl

-- each layer of a target has a token
target_layer_some : (o : Target-F Target) → 0 < length (spell.target_layer (map-Target Target (List Written) spell.target o))
target_layer_some (Target-F.Pick p) = omega arith
target_layer_some (Target-F.Concat location parts) = omega arith

-- a target begins so
pub target_begins : (depth : ℕ) (t : Target) (ws : List Written) → fit.IsFitTargetAt depth t → begins_target (first_form (spell.target t ++ ws)) ≡ true
target_begins depth t ws f = ap (λ (vs : List Written). begins_target (first_form (vs ++ ws))) (fold_out-Target (List Written) spell.target_layer t) ∙ target_layer_begins (out-Target t) ws

-- a target has a token
pub target_some : (depth : ℕ) (t : Target) → fit.IsFitTargetAt depth t → 0 < length (spell.target t)
target_some depth t f = subst (λ (vs : List Written). 0 < length vs) (sym (fold_out-Target (List Written) spell.target_layer t)) (target_layer_some (out-Target t))

-- a target with concatenations so deep at most
pub target_at_rule : (depth : ℕ) → Rule (read.target_at depth) spell.target (fit.IsFitTargetAt depth) no_bracket
unfolding target_at
target_at_rule zero = refit_rule (variant_rule pick_rule target.Pick spell.target target_pick_spelled) (target_pick_of (λ parts. ⊥)) (λ t f. target_pick_by t (out-Target t) refl f)
target_at_rule (suc depth) = refit_rule
    (choice_rule (sees_mark 123)
    (variant_rule
    (pair_rule (mark_rule 123) (pair_rule (comma_list_rule (target_at_rule depth) (target_some depth) (λ ws. refl)) (skip_rule 125) (λ y ws f follow. refl)) (λ y ws f follow. refl))
    (λ (z : Location × (List Target × Unit {0})). target.Concat z.0 z.1.0) spell.target (λ z. target_concat_spelled z.0 z.1.0))
    (variant_rule pick_rule target.Pick spell.target target_pick_spelled)
    (λ t ws f follow. target_begins_as (sees_mark 123) true t (target.Concat f.0.0 f.0.1.0) (spell.placed_mark f.0.0 123 ∷ (between_commas spell.target f.0.1.0 ++ spell.mark 125 ∷ [])) ws f.1 (target_concat_spelled f.0.0 f.0.1.0) refl)
    (λ t ws f follow. target_begins_as (sees_mark 123) false t (target.Pick f.0) (spell.pick f.0) ws f.1 (target_pick_spelled f.0) refl))
    (target_layer_of depth) (λ t f. target_layer_by depth t (out-Target t) refl f)
