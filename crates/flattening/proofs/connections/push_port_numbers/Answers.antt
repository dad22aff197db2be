use Rattle.std.proofs.Common.{◌≡◌, [], ◌++◌, Option, None, sym, ap, ◌∙◌, rules}
use Rattle.std.specs.Prelude.{slice_get}
use Rattle.std.specs.List.{zip}
use Rattle.std.specs.Option.{option_map_or}
use Rattle.std.proofs.lemmas.List.{append-nil}
use Rattle.std.proofs.lemmas.Option.{slice_get_past}
use Rattle.netlist_plan.specs.declared.plan.PortBits.{PortBits}
use Rattle.netlist_plan.specs.Flattening.{numbers_of}
use Rattle.flattening.proofs.connections.push_port_numbers.Goals as goal

pub returns-in-None : goal.returns-in-None
returns-in-None c =
    let outside = c.args.outside.now.items in
    let none : slice_get c.args.ports.now c.args.connection.now.port ≡ None = slice_get_past c.args.ports.now c.args.connection.now.port (search rules) in
    sym (append-nil outside)
    ∙ ap (λ (o : Option PortBits). outside ++ option_map_or (λ (port : PortBits). zip port.bits (numbers_of c.args.numbers.now c.args.connection.now.bits)) o []) (sym none)
