use Rattle.std.proofs.Common.{ℕ, List, [], map, Option, ap, sym, ◌∙◌}
use Rattle.expression_bits.specs.declared.runs.BitRun.{BitRun}
use Rattle.instance_rules.specs.Links.{Link, links, PrimitivePorts}
use Rattle.module_parts.specs.declared.parts.PortRuns.{PortRuns}
use Rattle.module_parts.specs.declared.parts.ModulePart.TheVariants.{Gate}
use Rattle.module_parts.specs.Parts.{name_text, port_runs, terminal_runs}
use Rattle.module_parts.proofs.Walking.{map-map}
use Rattle.module_parts.proofs.instances.primitive_instance.Goals as goal

pub returns : goal.returns
returns c =
    let ports = PrimitivePorts 0 in
    let all = links ports c.args.inst.now.connections in
    let runs = c.in_ok-terminals_of.ensures
    ∙ ap (λ (list : List PortRuns). map (λ (r : PortRuns). r.runs) list) c.in_ok-connections.ensures
    ∙ map-map (λ (r : PortRuns). r.runs) (port_runs ports) all in
    ap (λ (name : Option (List ℕ)). Gate (record { item = c.args.item; name = name; terminals = c.in_ok-terminals_of.field-0 })) c.in_ok-name_text.ensures
    ∙ ap (λ (list : List (List BitRun)). Gate (record { item = c.args.item; name = name_text c.args.inst.now.name; terminals = list })) runs
