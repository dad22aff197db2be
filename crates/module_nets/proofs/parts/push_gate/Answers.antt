use Rattle.std.proofs.Common.{◌+◌, List, length, subst}
use Rattle.std.specs.List.{flat_map}
use Rattle.expression_bits.specs.declared.runs.BitRun.{BitRun}
use Rattle.module_parts.specs.declared.parts.ModulePart.TheVariants.{Gate}
use Rattle.netlist_plan.specs.Nets.{part_sources, run_sources}
use Rattle.netlist_plan.specs.Unnamed.{literal_count, own_count, unnamed_count}
use Rattle.module_nets.specs.Entries.{HasGained}
use Rattle.module_nets.proofs.Gaining.{HasGained-behind, ok_then}
use Rattle.module_nets.proofs.parts.push_gate.Goals as goal

pub push_terminals-requires : goal.push_terminals-requires
push_terminals-requires c = (c.in_ok-count_gate.ensures c.args.scope.now).are

pub returns : goal.returns
returns c =
    let scope = c.args.scope.now in
    let gate = c.args.gate.now in
    let a = c.args.entries.now in
    let b = c.count_gate.new.entries in
    let last = c.push_terminals.new.entries in
    let runs = flat_map (λ (list : List BitRun). list) c.as_slice.result.now in
    ok_then c.push_terminals.result
    (HasGained scope b last (run_sources (length b.literal_firsts) runs) (literal_count runs))
    (HasGained scope a last (part_sources (length a.literal_firsts, Gate gate)) (unnamed_count (Gate gate)))
    c.push_terminals.ensures
    (λ gained. subst (λ (lists : List (List BitRun)).
    HasGained scope a last (run_sources (length a.literal_firsts + own_count (Gate gate)) (flat_map (λ (list : List BitRun). list) lists))
    (own_count (Gate gate) + literal_count (flat_map (λ (list : List BitRun). list) lists)))
    c.as_slice.ensures
    (HasGained-behind scope a b last runs (own_count (Gate gate)) (literal_count runs) (c.in_ok-count_gate.ensures scope) gained))
