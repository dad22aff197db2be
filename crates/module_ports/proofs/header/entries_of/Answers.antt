use Rattle.std.proofs.Common.{ap, sym, ◌++◌, ◌∙◌, List, map}
use Rattle.std.proofs.lemmas.Simd.{map-map}
use Rattle.v_tree.specs.declared.locations.Name.{Name}
use Rattle.module_ports.specs.Ports.{Port, header_names, port_of}
use Rattle.module_ports.proofs.header.entries_of.Goals as goal

pub returns-clause-ports : goal.returns-clause-ports
returns-clause-ports c =
    let names = header_names c.args.«module».now.ports in
    let scope = c.args.scope.now in
    c.in_ok-push_header.ensures.ports
    ∙ ap (λ (before : List Port). before ++ map (λ (name : Name). port_of scope name.text) names) c.new-entries.ensures.empty
    ∙ sym (map-map (port_of scope) (λ (name : Name). name.text) names)
