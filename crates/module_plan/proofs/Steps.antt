-- The steps of constants behind constants, of assignments, and of parts.
use Rattle.std.proofs.Common.{◌≡◌, ℕ, ◌+◌, List, [], ◌∷◌, ◌++◌, map, sum_by, sym, ap, ◌∙◌, append_assoc, add_assoc, arith}
use Rattle.std.specs.List.{enumerate_from, flat_map}
use Rattle.std.proofs.lemmas.Grind.{flat_map-append}
use Rattle.std.proofs.lemmas.List.{append-nil, map-append}
use Rattle.v_tree.specs.declared.modules.Item.{Item}
use Rattle.v_tree.specs.declared.modules.Module.{Module}
use Rattle.module_scope.specs.declared.scopes.Scope.{Scope}
use Rattle.module_ports.specs.Ports.{port_names}
use Rattle.expression_bits.specs.declared.runs.BitRun.{BitRun}
use Rattle.expression_bits.specs.declared.runs.BitRun.TheVariants.{Net, Literal}
use Rattle.module_parts.specs.declared.parts.ModulePart.{ModulePart}
use Rattle.netlist_plan.specs.declared.nets.ModuleNet.{ModuleNet}
use Rattle.netlist_plan.specs.declared.plan.PlanElement.{PlanElement}
use Rattle.netlist_plan.specs.declared.plan.PlanStep.{PlanStep}
use Rattle.netlist_plan.specs.declared.plan.SwitchTerminal.{SwitchTerminal}
use Rattle.netlist_plan.specs.declared.plan.PlanStep.TheVariants.{Element as ElementStep}
use Rattle.netlist_plan.specs.Unnamed.{literal_count, numbered_from, unnamed_count}
use Rattle.netlist_plan.specs.Elements.{constants, literal_constants}
use Rattle.netlist_plan.specs.declared.plan.ModulePlan.{ModulePlan}
use Rattle.netlist_plan.specs.declared.plan.PlanNet.{PlanNet}
use Rattle.netlist_plan.specs.declared.plan.PortBits.{PortBits}
use Rattle.netlist_plan.specs.Nets.{module_nets}
use Rattle.netlist_plan.specs.Plan.{Given, Meanings, element_steps, item_terminals, module_plan, part_steps, plan_net, port_bits}
use Rattle.module_plan.specs.Surroundings.{given}
use Rattle.module_nets.proofs.Sources.{literal_count-append, literals_in, numbered_from-push}

-- ---- constants

module _ (nets : List ModuleNet) where
  constants-append : (n : ℕ) (xs ys : List BitRun) → constants nets n (xs ++ ys) ≡ constants nets n xs ++ constants nets (n + literal_count xs) ys
  constants-append n [] ys = ap (λ (k : ℕ). constants nets k ys) (omega arith)
  constants-append n (Net name select ∷ xs) ys = constants-append n xs ys
  constants-append n (Literal bits ∷ xs) ys =
      let own = literal_constants nets n bits in
      ap (λ (rest : List PlanElement). own ++ rest) (constants-append (n + 1) xs ys)
      ∙ sym (append_assoc own (constants nets (n + 1) xs) (constants nets (n + 1 + literal_count xs) ys))
      ∙ ap (λ (k : ℕ). (own ++ constants nets (n + 1) xs) ++ constants nets k ys) (add_assoc n 1 (literal_count xs))

  abbrev pub constant_steps : ℕ → List BitRun → List PlanStep
  constant_steps n runs = element_steps (constants nets n runs)

  pub constant_steps-append : (n : ℕ) (xs ys : List BitRun) → constant_steps n (xs ++ ys) ≡ constant_steps n xs ++ constant_steps (n + literal_count xs) ys
  constant_steps-append n xs ys =
      ap element_steps (constants-append n xs ys)
      ∙ map-append ElementStep (constants nets n xs) (constants nets (n + literal_count xs) ys)

  -- runs of the elements of a list, one after the other
  module _ {X : Type 0} (runs_of : X → List BitRun) where
    abbrev pub constants_in : ℕ → List X → List PlanStep
    constants_in n xs = constant_steps n (flat_map runs_of xs)

    pub constants_in-push : (n : ℕ) (xs : List X) (x : X) → constants_in n (xs ++ x ∷ []) ≡ constants_in n xs ++ constants_in (n + literals_in runs_of xs) (x ∷ [])
    constants_in-push n xs x =
        ap (constant_steps n) (flat_map-append runs_of xs (x ∷ []))
        ∙ constant_steps-append n (flat_map runs_of xs) (flat_map runs_of (x ∷ []))

    pub constants_in-one : (n : ℕ) (x : X) → constants_in n (x ∷ []) ≡ constant_steps n (runs_of x)
    constants_in-one n x = ap (constant_steps n) (append-nil (runs_of x))

    pub literals_in-one : (x : X) → literals_in runs_of (x ∷ []) ≡ literal_count (runs_of x)
    literals_in-one x = ap literal_count (append-nil (runs_of x))

-- runs behind runs
pub number_behind : (number middle next : ℕ) (xs ys : List BitRun) → middle ≡ number + literal_count xs → next ≡ middle + literal_count ys → next ≡ number + literal_count (xs ++ ys)
number_behind number middle next xs ys before behind = omega (arith, before, behind, literal_count-append xs ys)

pub steps_behind : (nets : List ModuleNet) (number middle : ℕ) (xs ys : List BitRun) (start between last : List PlanStep) → middle ≡ number + literal_count xs →
    between ≡ start ++ constant_steps nets number xs → last ≡ between ++ constant_steps nets middle ys → last ≡ start ++ constant_steps nets number (xs ++ ys)
steps_behind nets number middle xs ys start between last before first second =
    second
    ∙ ap (λ (steps : List PlanStep). steps ++ constant_steps nets middle ys) first
    ∙ append_assoc start (constant_steps nets number xs) (constant_steps nets middle ys)
    ∙ ap (λ (n : ℕ). start ++ (constant_steps nets number xs ++ constant_steps nets n ys)) before
    ∙ ap (λ (steps : List PlanStep). start ++ steps) (sym (constant_steps-append nets number xs ys))

-- ---- parts

module _ (from : Given) where
  abbrev pub parts_steps : ℕ → List ModulePart → List PlanStep
  parts_steps n parts = flat_map (part_steps from) (numbered_from n parts)

  pub parts_steps-push : (n : ℕ) (parts : List ModulePart) (part : ModulePart) → parts_steps n (parts ++ part ∷ []) ≡ parts_steps n parts ++ parts_steps (n + sum_by unnamed_count parts) (part ∷ [])
  parts_steps-push n parts part =
      ap (flat_map (part_steps from)) (numbered_from-push n parts part)
      ∙ flat_map-append (part_steps from) (numbered_from n parts) (numbered_from (n + sum_by unnamed_count parts) (part ∷ []))

  pub parts_steps-one : (n : ℕ) (part : ModulePart) → parts_steps n (part ∷ []) ≡ part_steps from (n, part)
  parts_steps-one n part = append-nil (part_steps from (n, part))

-- ---- plans

abbrev plan_of : List PlanNet → List PortBits → List PlanStep → List SwitchTerminal → ModulePlan
plan_of nets ports steps terminals = record { nets = nets; ports = ports; steps = steps; terminals = terminals }

-- the plan of a module, whose nets and items are known
pub module_plan-parts : (scope : Scope) (meant : Meanings) (m : Module) (parts : List ModulePart) (nets : List ModuleNet) (items : List Item) → nets ≡ module_nets scope parts → items ≡ m.items →
    (plan_nets : List PlanNet) (ports : List PortBits) (steps : List PlanStep) (terminals : List SwitchTerminal) → plan_nets ≡ map (plan_net scope) nets → ports ≡ map (port_bits scope nets) (enumerate_from 0 (port_names m.ports)) →
    steps ≡ flat_map (part_steps (given scope nets items meant)) (numbered_from 0 parts) → terminals ≡ flat_map (item_terminals scope nets) items → plan_of plan_nets ports steps terminals ≡ module_plan scope meant m parts
module_plan-parts scope meant m parts nets items nets_are items_are plan_nets ports steps terminals first second third fourth =
    ap (λ (ns : List PlanNet). plan_of ns ports steps terminals) (first ∙ ap (map (plan_net scope)) nets_are)
    ∙ ap (λ (ps : List PortBits). plan_of (map (plan_net scope) (module_nets scope parts)) ps steps terminals)
    (second ∙ ap (λ (ns : List ModuleNet). map (port_bits scope ns) (enumerate_from 0 (port_names m.ports))) nets_are)
    ∙ ap (λ (ss : List PlanStep). plan_of (map (plan_net scope) (module_nets scope parts)) (map (port_bits scope (module_nets scope parts)) (enumerate_from 0 (port_names m.ports))) ss terminals)
    (third
    ∙ ap (λ (ns : List ModuleNet). flat_map (part_steps (given scope ns items meant)) (numbered_from 0 parts)) nets_are
    ∙ ap (λ (is : List Item). flat_map (part_steps (given scope (module_nets scope parts) is meant)) (numbered_from 0 parts)) items_are)
    ∙ ap (λ (ts : List SwitchTerminal). plan_of (map (plan_net scope) (module_nets scope parts)) (map (port_bits scope (module_nets scope parts)) (enumerate_from 0 (port_names m.ports))) (flat_map (part_steps (given scope (module_nets scope parts) m.items meant)) (numbered_from 0 parts)) ts)
    (fourth
    ∙ ap (λ (ns : List ModuleNet). flat_map (item_terminals scope ns) items) nets_are
    ∙ ap (flat_map (item_terminals scope (module_nets scope parts))) items_are)
