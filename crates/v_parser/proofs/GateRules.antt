-- Rules of gates and instances.
use Rattle.std.proofs.Common.{◌≡◌, ℕ, Bool, true, false, not, ◌&&◌, List, [], ◌∷◌, ◌++◌, Option, Some, None, ◌⊎◌, inl, inr, refl, sym, ap, subst, ◌∙◌, arith, append_assoc, append-nil}
use Rattle.std.proofs.lemmas.Bool.{eqb-true}
use Rattle.v_tree.specs.declared.locations.Location.{Location}
use Rattle.v_tree.specs.Written.{Form, Written, written_if_there, behind_commas, between_commas}
use Rattle.v_tree.specs.Written as form
use Rattle.v_tree.specs.Fit as fit
use Rattle.v_tree.specs.Words as words
use Rattle.v_tree.specs.Spelling as spell
use Rattle.v_parser.specs.Input.{is_mark}
use Rattle.v_tree.specs.declared.gates.GateItem.{GateItem}
use Rattle.v_tree.specs.declared.gates.GateKind.{GateKind}
use Rattle.v_tree.specs.declared.gates.GateKind.TheVariants as gates
use Rattle.v_tree.specs.declared.gates.LogicGate.{LogicGate}
use Rattle.v_tree.specs.declared.gates.Switch.{Switch}
use Rattle.v_tree.specs.declared.gates.TranGate.{TranGate}
use Rattle.v_tree.specs.declared.gates.PullGate.{PullGate}
use Rattle.v_tree.specs.declared.gates.Terms.{Terms}
use Rattle.v_tree.specs.declared.gates.Connection.{Connection}
use Rattle.v_tree.specs.declared.gates.Connections.{Connections}
use Rattle.v_tree.specs.declared.gates.Connections.TheVariants.{ByOrder, ByName}
use Rattle.v_tree.specs.declared.gates.Inst.{Inst}
use Rattle.v_tree.specs.declared.gates.Instance.{Instance}
use Rattle.v_tree.specs.declared.locations.Name.{Name}
use Rattle.v_tree.specs.declared.expressions.Expr.{Expr}
use Rattle.v_tree.specs.declared.drives.DriveStrength.{DriveStrength}
use Rattle.v_tree.specs.declared.drives.PullLevels.{PullLevels}
use Rattle.v_tree.specs.declared.drives.DelaySpec.{DelaySpec}
use Rattle.v_parser.specs.Expressions.{sees_mark, sees_name}
use Rattle.v_parser.specs.Words.{sees_level}
use Rattle.v_parser.specs.Drives.{sees_drive}
use Rattle.v_parser.specs.Gates as read
use Rattle.v_parser.specs.Gates.{terms, terms_of, gates_of, logic_item, switch_item, tran_item, pull_item, connection, connection_of, connections, inst, inst_of, instance, instance_of}
use Rattle.v_parser.proofs.Rules.{Rule, Follow, anything, begins, first_form, map_rule, variant_rule, refit_rule, follow_rule, pair_rule, optional_rule, choice_rule, comma_list_any_rule}
use Rattle.v_parser.proofs.TokenRules.{name_rule, mark_rule, skip_rule, logic_rule, switch_rule, tran_rule, pull_rule}
use Rattle.v_parser.proofs.ExprRules.{begins_expr, expr_begins}
use Rattle.v_parser.proofs.DriveRules.{drive_rule, pull_levels_rule, delay_spec_rule, drive_begins, pull_begins}
use Rattle.v_parser.proofs.DeclarationRules.{expr_rule}

-- something but a word is next
abbrev is_wordless : Form → Bool
is_wordless (form.Word w) = false
is_wordless form.End = false
is_wordless form.Other = false
is_wordless _ = true

-- an expression begins with no word
expr_wordless : (f : Form) → begins_expr f ≡ true → is_wordless f ≡ true
expr_wordless (form.Name text) e = refl
expr_wordless (form.Number n) e = refl
expr_wordless (form.Based literal) e = refl
expr_wordless (form.Mark b) e = refl
expr_wordless f e = absurd cc

-- an expression begins with no `.`
expr_dotless : (f : Form) → begins_expr f ≡ true → is_mark 46 f ≡ false
expr_dotless (form.Mark b) e = ap (λ (n : ℕ). is_mark 46 (form.Mark n)) (eqb-true b 123 e)
expr_dotless (form.Name text) e = refl
expr_dotless (form.Number n) e = refl
expr_dotless (form.Based literal) e = refl
expr_dotless f e = absurd cc

-- without a word no level is seen
wordless_level : (f : Form) → is_wordless f ≡ true → sees_level f f ≡ false
wordless_level (form.Name text) e = refl
wordless_level (form.Number n) e = refl
wordless_level (form.Based literal) e = refl
wordless_level (form.Decimal digits) e = refl
wordless_level (form.Directive d) e = refl
wordless_level (form.Mark b) e = refl
wordless_level (form.Symbol b) e = refl
wordless_level f e = absurd cc

-- what is written behind doesn't change what is first
first_more : (test : Form → Bool) (vs ws : List Written) → test form.Other ≡ false → test (first_form vs) ≡ true → test (first_form (vs ++ ws)) ≡ true
first_more test [] ws none e = absurd cc
first_more test (v ∷ vs) ws none e = e

-- an expression by itself begins so
expr_first : (e : Expr) → fit.IsFitExpr e → begins_expr (first_form (spell.expr e)) ≡ true
expr_first e f = ap (λ (vs : List Written). begins_expr (first_form vs)) (sym (append-nil (spell.expr e))) ∙ expr_begins 64 e [] f

-- expressions with commas between begin as the first of them
exprs_first : (es : List Expr) → fit.AreSome fit.IsFitExpr es → is_wordless (first_form (between_commas spell.expr es)) ≡ true
exprs_first [] f = absurd (omega (arith, f.some))
exprs_first (e ∷ es) f = first_more is_wordless (spell.expr e) (behind_commas spell.expr es) refl (expr_wordless (first_form (spell.expr e)) (expr_first e f.fit.each.0))

-- a gate of an item
pub terms_rule : Rule read.terms spell.terms fit.IsFitTerms anything
unfolding terms
terms_rule = refit_rule
    (map_rule
    (pair_rule (optional_rule sees_name name_rule (λ x ws f. refl))
    (pair_rule (mark_rule 40) (pair_rule (comma_list_any_rule expr_rule (λ ws. refl)) (skip_rule 41) (λ y ws f follow. refl)) (λ y ws f follow. refl))
    (λ y ws f follow. refl))
    terms_of (λ (t : Terms). (t.name, (t.paren, (t.terminals, tt)))) (λ b. refl) (λ a. refl))
    (λ t f. record { name = f.0; terminals = f.1.1.0 }) (λ t f. (f.name, (tt, (f.terminals, tt))))

-- an item of gates of one kind
abbrev pub IsLogicKind : GateKind → Type 0
IsLogicKind (gates.Logic kind strength time) = Unit {0}
IsLogicKind (gates.Switch kind time) = ⊥
IsLogicKind (gates.Tran kind) = ⊥
IsLogicKind (gates.Pull kind levels) = ⊥

-- switches
abbrev pub IsSwitchKind : GateKind → Type 0
IsSwitchKind (gates.Logic kind strength time) = ⊥
IsSwitchKind (gates.Switch kind time) = Unit {0}
IsSwitchKind (gates.Tran kind) = ⊥
IsSwitchKind (gates.Pull kind levels) = ⊥

-- switches that always conduct
abbrev pub IsTranKind : GateKind → Type 0
IsTranKind (gates.Logic kind strength time) = ⊥
IsTranKind (gates.Switch kind time) = ⊥
IsTranKind (gates.Tran kind) = Unit {0}
IsTranKind (gates.Pull kind levels) = ⊥

-- pull gates
abbrev pub IsPullKind : GateKind → Type 0
IsPullKind (gates.Logic kind strength time) = ⊥
IsPullKind (gates.Switch kind time) = ⊥
IsPullKind (gates.Tran kind) = ⊥
IsPullKind (gates.Pull kind levels) = Unit {0}

-- an item of gates that fits
abbrev pub IsLogic : GateItem → Type 0
IsLogic g = fit.IsFitGateItem g × IsLogicKind g.kind

-- an item of switches that fits
abbrev pub IsSwitch : GateItem → Type 0
IsSwitch g = fit.IsFitGateItem g × IsSwitchKind g.kind

-- an item of switches that always conduct and fits
abbrev pub IsTran : GateItem → Type 0
IsTran g = fit.IsFitGateItem g × IsTranKind g.kind

-- an item of pull gates that fits
abbrev pub IsPull : GateItem → Type 0
IsPull g = fit.IsFitGateItem g × IsPullKind g.kind

-- gates, from what is read
abbrev LogicParts : Type 0
LogicParts = (LogicGate × Location) × (Option DriveStrength × (Option DelaySpec × (List Terms × Unit {0})))

-- a gate item of those parts
abbrev logic_of : LogicParts → GateItem
logic_of z = gates_of z.0.1 (gates.Logic z.0.0 z.1.0 z.1.1.0) z.1.1.1.0

-- those parts fit
abbrev AreLogicFit : LogicParts → Type 0
AreLogicFit z = fit.IsFree z.0 × (fit.IsFitIfThere fit.IsFree z.1.0 × (fit.IsFitIfThere fit.IsFitDelaySpec z.1.1.0 × (fit.AreSome fit.IsFitTerms z.1.1.1.0 × fit.IsFree z.1.1.1.1)))

-- switches, from what is read
abbrev SwitchParts : Type 0
SwitchParts = (Switch × Location) × (Option DelaySpec × (List Terms × Unit {0}))

-- a gate item of those parts
abbrev switch_of : SwitchParts → GateItem
switch_of z = gates_of z.0.1 (gates.Switch z.0.0 z.1.0) z.1.1.0

-- those parts fit
abbrev AreSwitchFit : SwitchParts → Type 0
AreSwitchFit z = fit.IsFree z.0 × (fit.IsFitIfThere fit.IsFitDelaySpec z.1.0 × (fit.AreSome fit.IsFitTerms z.1.1.0 × fit.IsFree z.1.1.1))

-- switches that always conduct, from what is read
abbrev TranParts : Type 0
TranParts = (TranGate × Location) × (List Terms × Unit {0})

-- a gate item of those parts
abbrev tran_of : TranParts → GateItem
tran_of z = gates_of z.0.1 (gates.Tran z.0.0) z.1.0

-- those parts fit
abbrev AreTranFit : TranParts → Type 0
AreTranFit z = fit.IsFree z.0 × (fit.AreSome fit.IsFitTerms z.1.0 × fit.IsFree z.1.1)

-- pull gates, from what is read
abbrev PullParts : Type 0
PullParts = (PullGate × Location) × (Option PullLevels × (List Terms × Unit {0}))

-- a gate item of those parts
abbrev pull_of : PullParts → GateItem
pull_of z = gates_of z.0.1 (gates.Pull z.0.0 z.1.0) z.1.1.0

-- those parts fit
abbrev ArePullFit : PullParts → Type 0
ArePullFit z = fit.IsFree z.0 × (fit.IsFitIfThere fit.IsFree z.1.0 × (fit.AreSome fit.IsFitTerms z.1.1.0 × fit.IsFree z.1.1.1))

-- a part that has nothing to keep, there or not
free_there : {A : Type 0} (o : Option A) → fit.IsFitIfThere fit.IsFree o
free_there None = tt
free_there (Some x) = tt

-- an item of a kind is made of its parts
logic_by : (location : Location) (kind : GateKind) (list : List Terms) → fit.IsFitGateKind kind → fit.AreSome fit.IsFitTerms list → IsLogicKind kind → (z : LogicParts) × (gates_of location kind list ≡ logic_of z) × AreLogicFit z
logic_by location (gates.Logic kind strength time) list f s k = (((kind, location), (strength, (time, (list, tt)))), refl, (tt, (free_there strength, (f, (s, tt)))))
logic_by location (gates.Switch kind time) list f s k = absurd k
logic_by location (gates.Tran kind) list f s k = absurd k
logic_by location (gates.Pull kind levels) list f s k = absurd k

-- the same of switches
switch_by : (location : Location) (kind : GateKind) (list : List Terms) → fit.IsFitGateKind kind → fit.AreSome fit.IsFitTerms list → IsSwitchKind kind → (z : SwitchParts) × (gates_of location kind list ≡ switch_of z) × AreSwitchFit z
switch_by location (gates.Logic kind strength time) list f s k = absurd k
switch_by location (gates.Switch kind time) list f s k = (((kind, location), (time, (list, tt))), refl, (tt, (f, (s, tt))))
switch_by location (gates.Tran kind) list f s k = absurd k
switch_by location (gates.Pull kind levels) list f s k = absurd k

-- the same of switches that always conduct
tran_by : (location : Location) (kind : GateKind) (list : List Terms) → fit.AreSome fit.IsFitTerms list → IsTranKind kind → (z : TranParts) × (gates_of location kind list ≡ tran_of z) × AreTranFit z
tran_by location (gates.Logic kind strength time) list s k = absurd k
tran_by location (gates.Switch kind time) list s k = absurd k
tran_by location (gates.Tran kind) list s k = (((kind, location), (list, tt)), refl, (tt, (s, tt)))
tran_by location (gates.Pull kind levels) list s k = absurd k

-- the same of pull gates
pull_by : (location : Location) (kind : GateKind) (list : List Terms) → fit.AreSome fit.IsFitTerms list → IsPullKind kind → (z : PullParts) × (gates_of location kind list ≡ pull_of z) × ArePullFit z
pull_by location (gates.Logic kind strength time) list s k = absurd k
pull_by location (gates.Switch kind time) list s k = absurd k
pull_by location (gates.Tran kind) list s k = absurd k
pull_by location (gates.Pull kind levels) list s k = (((kind, location), (levels, (list, tt))), refl, (tt, (free_there levels, (s, tt))))

-- the first of several parts stands before the rest
first_of : (a b c d : List Written) → ((a ++ b) ++ c) ++ d ≡ a ++ ((b ++ c) ++ d)
first_of a b c d = ap (λ (vs : List Written). vs ++ d) (append_assoc a b c) ∙ append_assoc a (b ++ c) d

-- terminals begin with no drive
terms_driveless : (name : Option Name) (paren : Location) (terminals : List Expr) (ws : List Written) → fit.AreSome fit.IsFitExpr terminals
    → begins sees_drive ((written_if_there spell.name name ++ spell.placed_mark paren 40 ∷ (between_commas spell.expr terminals ++ spell.mark 41 ∷ [])) ++ ws) ≡ false
terms_driveless (Some n) paren terminals ws f = refl
terms_driveless None paren terminals ws f = wordless_level (first_form ((between_commas spell.expr terminals ++ spell.mark 41 ∷ []) ++ ws))
    (first_more is_wordless (between_commas spell.expr terminals ++ spell.mark 41 ∷ []) ws refl (first_more is_wordless (between_commas spell.expr terminals) (spell.mark 41 ∷ []) refl (exprs_first terminals f)))

-- terminals begin with no delay
terms_delayless : (name : Option Name) (paren : Location) (terminals : List Expr) (ws : List Written)
    → begins (sees_mark 35) ((written_if_there spell.name name ++ spell.placed_mark paren 40 ∷ (between_commas spell.expr terminals ++ spell.mark 41 ∷ [])) ++ ws) ≡ false
terms_delayless (Some n) paren terminals ws = refl
terms_delayless None paren terminals ws = refl

-- gates begin with no drive
gates_driveless : (list : List Terms) (ws : List Written) → fit.AreSome fit.IsFitTerms list → begins sees_drive ((between_commas spell.terms list ++ spell.mark 59 ∷ []) ++ ws) ≡ false
gates_driveless [] ws f = absurd (omega (arith, f.some))
gates_driveless (t ∷ list) ws f = ap (begins sees_drive) (first_of (spell.terms t) (behind_commas spell.terms list) (spell.mark 59 ∷ []) ws)
    ∙ terms_driveless t.name t.paren t.terminals ((behind_commas spell.terms list ++ spell.mark 59 ∷ []) ++ ws) f.fit.each.0.terminals

-- gates begin with no delay
gates_delayless : (list : List Terms) (ws : List Written) → fit.AreSome fit.IsFitTerms list → begins (sees_mark 35) ((between_commas spell.terms list ++ spell.mark 59 ∷ []) ++ ws) ≡ false
gates_delayless [] ws f = absurd (omega (arith, f.some))
gates_delayless (t ∷ list) ws f = ap (begins (sees_mark 35)) (first_of (spell.terms t) (behind_commas spell.terms list) (spell.mark 59 ∷ []) ws)
    ∙ terms_delayless t.name t.paren t.terminals ((behind_commas spell.terms list ++ spell.mark 59 ∷ []) ++ ws)

-- a delay is no drive
delayed_driveless : (time : Option DelaySpec) (list : List Terms) (ws : List Written) → fit.AreSome fit.IsFitTerms list
    → begins sees_drive ((written_if_there spell.delay_spec time ++ (between_commas spell.terms list ++ spell.mark 59 ∷ [])) ++ ws) ≡ false
delayed_driveless None list ws f = gates_driveless list ws f
delayed_driveless (Some d) list ws f = refl

-- an item of gates
pub logic_item_rule : Rule read.logic_item spell.gate_item IsLogic anything
unfolding logic_item
logic_item_rule = refit_rule
    (variant_rule
    (pair_rule logic_rule
    (pair_rule (optional_rule sees_drive drive_rule (λ d ws f. drive_begins d ws))
    (pair_rule (optional_rule (sees_mark 35) delay_spec_rule (λ d ws f. refl))
    (pair_rule (comma_list_any_rule terms_rule (λ ws. refl)) (skip_rule 59) (λ y ws f follow. refl))
    (λ y ws f follow. ap not (gates_delayless y.0 ws f.0)))
    (λ y ws f follow. ap not (delayed_driveless y.0 y.1.0 ws f.1.0)))
    (λ y ws f follow. refl))
    logic_of spell.gate_item
    (λ z. ap (λ (ws : List Written). spell.placed_word z.0.1 (words.logic_word z.0.0) ∷ ws)
    (append_assoc (written_if_there spell.drive z.1.0) (written_if_there spell.delay_spec z.1.1.0) (between_commas spell.terms z.1.1.1.0 ++ spell.mark 59 ∷ []))))
    (λ g f. subst IsLogic (sym f.1) (record { kind = f.2.1.1.0; gates = f.2.1.1.1.0 }, tt))
    (λ g f. logic_by g.location g.kind g.gates f.0.kind f.0.gates f.1)

-- an item of switches
pub switch_item_rule : Rule read.switch_item spell.gate_item IsSwitch anything
unfolding switch_item
switch_item_rule = refit_rule
    (variant_rule
    (pair_rule switch_rule
    (pair_rule (optional_rule (sees_mark 35) delay_spec_rule (λ d ws f. refl))
    (pair_rule (comma_list_any_rule terms_rule (λ ws. refl)) (skip_rule 59) (λ y ws f follow. refl))
    (λ y ws f follow. ap not (gates_delayless y.0 ws f.0)))
    (λ y ws f follow. refl))
    switch_of spell.gate_item (λ z. refl))
    (λ g f. subst IsSwitch (sym f.1) (record { kind = f.2.1.0; gates = f.2.1.1.0 }, tt))
    (λ g f. switch_by g.location g.kind g.gates f.0.kind f.0.gates f.1)

-- an item of switches that always conduct
pub tran_item_rule : Rule read.tran_item spell.gate_item IsTran anything
unfolding tran_item
tran_item_rule = refit_rule
    (variant_rule
    (pair_rule tran_rule (pair_rule (comma_list_any_rule terms_rule (λ ws. refl)) (skip_rule 59) (λ y ws f follow. refl)) (λ y ws f follow. refl))
    tran_of spell.gate_item (λ z. refl))
    (λ g f. subst IsTran (sym f.1) (record { kind = tt; gates = f.2.1.0 }, tt))
    (λ g f. tran_by g.location g.kind g.gates f.0.gates f.1)

-- an item of pull gates
pub pull_item_rule : Rule read.pull_item spell.gate_item IsPull anything
unfolding pull_item
pull_item_rule = refit_rule
    (variant_rule
    (pair_rule pull_rule
    (pair_rule (optional_rule sees_drive pull_levels_rule (λ d ws f. pull_begins d ws))
    (pair_rule (comma_list_any_rule terms_rule (λ ws. refl)) (skip_rule 59) (λ y ws f follow. refl))
    (λ y ws f follow. ap not (gates_driveless y.0 ws f.0)))
    (λ y ws f follow. refl))
    pull_of spell.gate_item (λ z. refl))
    (λ g f. subst IsPull (sym f.1) (record { kind = tt; gates = f.2.1.1.0 }, tt))
    (λ g f. pull_by g.location g.kind g.gates f.0.gates f.1)

-- a connection by name
connection_rule : Rule read.connection spell.connection fit.IsFitConnection anything
unfolding connection
connection_rule = refit_rule
    (map_rule
    (pair_rule (mark_rule 46)
    (pair_rule name_rule
    (pair_rule (skip_rule 40) (pair_rule (optional_rule read.begins_expr expr_rule (λ e ws f. expr_begins 64 e ws f)) (skip_rule 41) (λ y ws f follow. refl)) (λ y ws f follow. refl))
    (λ y ws f follow. refl))
    (λ y ws f follow. refl))
    connection_of (λ (c : Connection). (c.location, (c.port, (tt, (c.value, tt))))) (λ b. refl) (λ a. refl))
    (λ c f. record { port = f.1.0; value = f.1.1.1.0 }) (λ c f. (tt, (f.port, (tt, (f.value, tt)))))

-- a `)` is next
abbrev closes : Follow
closes ws = is_mark 41 (first_form ws)

-- a `)` that is seen is what is next
closes_is : (f : Form) → is_mark 41 f ≡ true → f ≡ form.Mark 41
closes_is (form.Mark b) e = ap form.Mark (eqb-true b 41 e)
closes_is f e = absurd cc

-- connections by order begin with no `.`
places_dotless : (values : List (Option Expr)) (ws : List Written) → fit.AreSome (fit.IsFitIfThere fit.IsFitExpr) values → closes ws ≡ true → begins (sees_mark 46) (between_commas (written_if_there spell.expr) values ++ ws) ≡ false
places_dotless [] ws f follow = absurd (omega (arith, f.some))
places_dotless (None ∷ []) ws f follow = ap (is_mark 46) (closes_is (first_form ws) follow)
places_dotless (None ∷ (v ∷ values)) ws f follow = refl
places_dotless (Some e ∷ values) ws f follow = expr_dotless (first_form ((spell.expr e ++ behind_commas (written_if_there spell.expr) values) ++ ws))
    (first_more begins_expr (spell.expr e ++ behind_commas (written_if_there spell.expr) values) ws refl (first_more begins_expr (spell.expr e) (behind_commas (written_if_there spell.expr) values) refl (expr_first e f.fit.each.0)))

-- connections by name begin with a `.`
names_dotted : (list : List Connection) (ws : List Written) → fit.AreSome fit.IsFitConnection list → begins (sees_mark 46) (between_commas spell.connection list ++ ws) ≡ true
names_dotted [] ws f = absurd (omega (arith, f.some))
names_dotted (c ∷ list) ws f = refl

-- connections by name that fit
abbrev AreByName : Connections → Type 0
AreByName c = (list : List Connection) × (c ≡ ByName list) × fit.AreSome fit.IsFitConnection list

-- connections by order that fit
abbrev AreByOrder : Connections → Type 0
AreByOrder c = (values : List (Option Expr)) × (c ≡ ByOrder values) × fit.AreSome (fit.IsFitIfThere fit.IsFitExpr) values

-- connections of either kind fit
connections_of : (c : Connections) → AreByName c ⊎ AreByOrder c → fit.IsFitConnections c
connections_of c (inl f) = subst fit.IsFitConnections (sym f.1) f.2
connections_of c (inr f) = subst fit.IsFitConnections (sym f.1) f.2

-- which of the two connections are
connections_by : (c : Connections) → fit.IsFitConnections c → AreByName c ⊎ AreByOrder c
connections_by (ByName list) f = inl (list, refl, f)
connections_by (ByOrder values) f = inr (values, refl, f)

-- the connections of an instance
connections_rule : Rule read.connections spell.connections fit.IsFitConnections closes
unfolding connections
connections_rule = refit_rule
    (follow_rule
    (choice_rule (sees_mark 46)
    (follow_rule {may_follow' = closes} (variant_rule (comma_list_any_rule connection_rule (λ ws. refl)) ByName spell.connections (λ a. refl))
    (λ ws follow. ap (λ (f : Form). not (is_mark 44 f)) (closes_is (first_form ws) follow)))
    (follow_rule {may_follow' = closes} (variant_rule (comma_list_any_rule (optional_rule read.begins_expr expr_rule (λ e ws f. expr_begins 64 e ws f)) (λ ws. refl)) ByOrder spell.connections (λ a. refl))
    (λ ws follow. ap (λ (f : Form). (not (is_mark 91 f) && not (begins_expr f)) && not (is_mark 44 f)) (closes_is (first_form ws) follow)))
    (λ c ws f follow. ap (λ (d : Connections). begins (sees_mark 46) (spell.connections d ++ ws)) f.1 ∙ names_dotted f.0 ws f.2)
    (λ c ws f follow. ap (λ (d : Connections). begins (sees_mark 46) (spell.connections d ++ ws)) f.1 ∙ places_dotless f.0 ws f.2 follow))
    (λ ws follow. ap (λ (b : Bool). b && b) follow))
    connections_of connections_by

-- an instance of an item
inst_rule : Rule read.inst spell.inst fit.IsFitInst anything
unfolding inst
inst_rule = refit_rule
    (map_rule
    (pair_rule (optional_rule sees_name name_rule (λ x ws f. refl))
    (pair_rule (mark_rule 40) (pair_rule connections_rule (skip_rule 41) (λ y ws f follow. refl)) (λ y ws f follow. refl))
    (λ y ws f follow. refl))
    inst_of (λ (i : Inst). (i.name, (i.paren, (i.connections, tt)))) (λ b. refl) (λ a. refl))
    (λ i f. record { name = f.0; connections = f.1.1.0 }) (λ i f. (f.name, (tt, (f.connections, tt))))

-- connections and the `)` behind them begin with no word
connections_first : (c : Connections) → fit.IsFitConnections c → is_wordless (first_form (spell.connections c ++ spell.mark 41 ∷ [])) ≡ true
connections_first (ByOrder []) f = absurd (omega (arith, f.some))
connections_first (ByOrder (None ∷ [])) f = refl
connections_first (ByOrder (None ∷ (v ∷ values))) f = refl
connections_first (ByOrder (Some e ∷ values)) f = first_more is_wordless (spell.expr e ++ behind_commas (written_if_there spell.expr) values) (spell.mark 41 ∷ []) refl
    (first_more is_wordless (spell.expr e) (behind_commas (written_if_there spell.expr) values) refl (expr_wordless (first_form (spell.expr e)) (expr_first e f.fit.each.0)))
connections_first (ByName []) f = absurd (omega (arith, f.some))
connections_first (ByName (c ∷ list)) f = refl

-- an instance begins with no drive
inst_driveless : (name : Option Name) (paren : Location) (c : Connections) (ws : List Written) → fit.IsFitConnections c
    → begins sees_drive ((written_if_there spell.name name ++ spell.placed_mark paren 40 ∷ (spell.connections c ++ spell.mark 41 ∷ [])) ++ ws) ≡ false
inst_driveless (Some n) paren c ws f = refl
inst_driveless None paren c ws f = wordless_level (first_form ((spell.connections c ++ spell.mark 41 ∷ []) ++ ws)) (first_more is_wordless (spell.connections c ++ spell.mark 41 ∷ []) ws refl (connections_first c f))

-- an instance begins with no delay
inst_delayless : (name : Option Name) (paren : Location) (c : Connections) (ws : List Written)
    → begins (sees_mark 35) ((written_if_there spell.name name ++ spell.placed_mark paren 40 ∷ (spell.connections c ++ spell.mark 41 ∷ [])) ++ ws) ≡ false
inst_delayless (Some n) paren c ws = refl
inst_delayless None paren c ws = refl

-- instances begin with no drive
insts_driveless : (list : List Inst) (ws : List Written) → fit.AreSome fit.IsFitInst list → begins sees_drive ((between_commas spell.inst list ++ spell.mark 59 ∷ []) ++ ws) ≡ false
insts_driveless [] ws f = absurd (omega (arith, f.some))
insts_driveless (i ∷ list) ws f = ap (begins sees_drive) (first_of (spell.inst i) (behind_commas spell.inst list) (spell.mark 59 ∷ []) ws)
    ∙ inst_driveless i.name i.paren i.connections ((behind_commas spell.inst list ++ spell.mark 59 ∷ []) ++ ws) f.fit.each.0.connections

-- instances begin with no delay
insts_delayless : (list : List Inst) (ws : List Written) → fit.AreSome fit.IsFitInst list → begins (sees_mark 35) ((between_commas spell.inst list ++ spell.mark 59 ∷ []) ++ ws) ≡ false
insts_delayless [] ws f = absurd (omega (arith, f.some))
insts_delayless (i ∷ list) ws f = ap (begins (sees_mark 35)) (first_of (spell.inst i) (behind_commas spell.inst list) (spell.mark 59 ∷ []) ws)
    ∙ inst_delayless i.name i.paren i.connections ((behind_commas spell.inst list ++ spell.mark 59 ∷ []) ++ ws)

-- a delay before instances is no drive
delayed_insts_driveless : (time : Option DelaySpec) (list : List Inst) (ws : List Written) → fit.AreSome fit.IsFitInst list
    → begins sees_drive ((written_if_there spell.delay_spec time ++ (between_commas spell.inst list ++ spell.mark 59 ∷ [])) ++ ws) ≡ false
delayed_insts_driveless None list ws f = insts_driveless list ws f
delayed_insts_driveless (Some d) list ws f = refl

-- an item of instances
pub instance_rule : Rule read.instance spell.instance fit.IsFitInstance anything
unfolding instance
instance_rule = refit_rule
    (map_rule
    (pair_rule name_rule
    (pair_rule (optional_rule sees_drive drive_rule (λ d ws f. drive_begins d ws))
    (pair_rule (optional_rule (sees_mark 35) delay_spec_rule (λ d ws f. refl))
    (pair_rule (comma_list_any_rule inst_rule (λ ws. refl)) (skip_rule 59) (λ y ws f follow. refl))
    (λ y ws f follow. ap not (insts_delayless y.0 ws f.0)))
    (λ y ws f follow. ap not (delayed_insts_driveless y.0 y.1.0 ws f.1.0)))
    (λ y ws f follow. refl))
    instance_of (λ (i : Instance). (i.name, (i.drive, (i.delay, (i.instances, tt))))) (λ b. refl) (λ a. refl))
    (λ i f. record { name = f.0; delay = f.1.1.0; instances = f.1.1.1.0 }) (λ i f. (f.name, (free_there i.drive, (f.delay, (f.instances, tt)))))
