use Rattle.std.proofs.Common.{◌≡◌, ◌||◌, arith}
use Rattle.std.specs.List.{list_any}
use Rattle.primitive_rules.specs.Headers.{is_wrong_start}
use Rattle.primitive_rules.specs.Ports.{item_starts}
use Rattle.primitive_rules.proofs.Parts.{wrong_starts_of}
use Rattle.primitive_rules.proofs.states.has_wrong_start.Goals.{then-header_has_wrong_start, else-header_has_wrong_start}
use Rattle.primitive_rules.proofs.states.has_wrong_start.Goals as goal

pub returns-then-items_have_wrong_start : goal.returns-then-items_have_wrong_start
returns-then-items_have_wrong_start c =
    let parts = wrong_starts_of c.first_port-first.result.now c.args.udp.now c.first_port-first.ensures in
    elim c.if-header_has_wrong_start.branch [
      | then-header_has_wrong_start w ↦ grind (arith, parts, w.if-header_has_wrong_start, w.value-is, c.header_has_wrong_start.ensures)
      | else-header_has_wrong_start w ↦
          grind (arith, parts, w.if-header_has_wrong_start, w.value-is, c.if-items_have_wrong_start.true, c.header_has_wrong_start.ensures, w.items_have_wrong_start.ensures, w.as_slice.ensures)
    ]

pub returns-else-items_have_wrong_start : goal.returns-else-items_have_wrong_start
returns-else-items_have_wrong_start c =
    let parts = wrong_starts_of c.first_port-first.result.now c.args.udp.now c.first_port-first.ensures in
    elim c.if-header_has_wrong_start.branch [
      | then-header_has_wrong_start w ↦ grind (arith, w.if-header_has_wrong_start, w.value-is, c.if-items_have_wrong_start.false)
      | else-header_has_wrong_start w ↦
          grind (
            arith,
            parts,
            w.if-header_has_wrong_start,
            w.value-is,
            c.if-items_have_wrong_start.false,
            c.header_has_wrong_start.ensures,
            w.items_have_wrong_start.ensures,
            w.as_slice.ensures,
            c.is_wrong_initial.ensures,
          )
    ]
