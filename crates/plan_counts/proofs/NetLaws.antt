-- One net and one port more.
use Rattle.std.proofs.Common.{◌≡◌, ℕ, ◌+◌, ◌<◌, List, [], ◌∷◌, ◌++◌, length, map, get_or, take, Option, None, sym, ap, ◌∙◌, arith}
use Rattle.std.specs.Option.{option_and_then}
use Rattle.std.proofs.lemmas.List.{map-append, take_more}
use Rattle.std.proofs.lemmas.Option.{slice_get-get_or}
use Rattle.module_scope.specs.declared.scopes.Scope.{Scope}
use Rattle.module_ports.specs.Ports.{Port, net_at}
use Rattle.item_parts.specs.Widths.{net_range, range_width}
use Rattle.netlist_plan.specs.declared.nets.ModuleNet.{ModuleNet}
use Rattle.netlist_plan.specs.Plan.{plan_net}
use Rattle.netlist_plan.specs.Flattening.{bit_count}
use Rattle.plan_counts.specs.PortWidths.{port_widths}

module _ (scope : Scope) where
  bits_push : (nets : List ModuleNet) (net : ModuleNet) → bit_count (map (plan_net scope) (nets ++ net ∷ [])) ≡ bit_count (map (plan_net scope) nets) + range_width (plan_net scope net).range
  bits_push [] net = omega arith
  bits_push (other ∷ nets) net = let rest = bits_push nets net in omega (arith, rest)

  pub bits-more : (nets : List ModuleNet) (i : ℕ) (net : ModuleNet) → i < length nets → net ≡ get_or nets i net
      → bit_count (map (plan_net scope) (take (i + 1) nets)) ≡ bit_count (map (plan_net scope) (take i nets)) + range_width (plan_net scope net).range
  bits-more nets i net lt at =
      ap (λ (ns : List ModuleNet). bit_count (map (plan_net scope) ns)) (take_more nets i net lt)
      ∙ bits_push (take i nets) (get_or nets i net)
      ∙ ap (λ (n : ModuleNet). bit_count (map (plan_net scope) (take i nets)) + range_width (plan_net scope n).range) (sym at)

pub widths-more : (ports : List Port) (i : ℕ) → i < length ports → port_widths (take (i + 1) ports) ≡ port_widths (take i ports) ++ range_width (net_range (net_at ports i)) ∷ []
widths-more ports i lt =
    let none : Port = record { name = []; net = None } in
    ap port_widths (take_more ports i none lt)
    ∙ map-append (λ (p : Port). range_width (net_range p.net)) (take i ports) (get_or ports i none ∷ [])
    ∙ ap (λ (o : Option Port). port_widths (take i ports) ++ range_width (net_range (option_and_then (λ port. port.net) o)) ∷ []) (sym (slice_get-get_or ports i none lt))
