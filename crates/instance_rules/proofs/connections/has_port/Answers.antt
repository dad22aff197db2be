use Rattle.std.proofs.Common.{ap, ◌∙◌, slice_index_or, []}
use Rattle.std.specs.Option.{is_some}
use Rattle.module_ports.specs.Ports.{names_of}
use Rattle.instance_rules.proofs.Naming.{is_some-index_of}
use Rattle.instance_rules.proofs.connections.has_port.Goals as goal

pub returns : goal.returns
returns c =
    c.is_some.ensures ∙ ap is_some c.port_index.ensures
    ∙ is_some-index_of c.args.name.now (names_of (slice_index_or c.args.tables.now c.args.«module» []))
