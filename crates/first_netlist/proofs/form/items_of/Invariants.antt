use Rattle.std.proofs.Common.{◌≡◌, drop}
use Rattle.gate_net.specs.Steps.{each}
use Rattle.first_netlist.specs.Declarations.{module_view, with_read_items}
use Rattle.first_netlist.specs.Form.{item_of}
use Rattle.first_netlist.proofs.form.items_of.Given as goal

abbrev pub invariant-loop-item : goal.invariant-loop-item
invariant-loop-item l = with_read_items (module_view l.fn.«module») (each item_of l.items) ≡ with_read_items (module_view l.«module») (each item_of (drop l.item-index l.items))
