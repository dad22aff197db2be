use Rattle.std.proofs.Common.{◌≡◌, ℕ, ◌+◌, ◌++◌, List, sym, ap, subst, ◌∙◌, arith}
use Rattle.std.specs.List.{enumerate_from, flat_map}
use Rattle.module_graph.specs.declared.references.Master.{Master}
use Rattle.instance_rules.specs.Walks.{master_at}
use Rattle.module_parts.specs.declared.parts.ModulePart.{ModulePart}
use Rattle.module_parts.specs.Parts.{parts_of_item}
use Rattle.module_parts.proofs.Walking.{Walked, Walked-end, Walked-instance, Walked-other}
use Rattle.module_parts.proofs.modules.push_items.Goals.{in-Instances, in_default}
use Rattle.module_parts.proofs.modules.push_items.Goals as goal

pub loop-index-preserved : goal.loop-index-preserved
loop-index-preserved c =
    let scope = c.args.scope.now in
    let tables = c.args.tables.now in
    let references = c.args.references.now in
    let items = c.args.items.now in
    let next = c.loop-index.next in
    let index = c.loop-index.index in
    let parts = c.loop-index.parts in
    let item = c.index-items-index.result in
    let at = sym c.index-items-index.is in
    let more = c.push_item.new.parts in
    let more_is : more ≡ parts ++ parts_of_item scope tables (λ name. master_at references next) (index, item) =
    c.in_ok-push_item.ensures
    ∙ ap (λ (m : Master). parts ++ parts_of_item scope tables (λ name. m) (index, item)) c.master_at-master.ensures in
    elim c.match-item.branch [
      | in-Instances w ↦ record {
        within = omega (arith, w.next-is, c.loop-index.invariant.within);
        walked = λ of same.
            let whole = c.args.parts.now ++ flat_map (parts_of_item scope tables of) (enumerate_from 0 items) in
            subst (λ (n : ℕ). Walked scope tables of references items n (index + 1) more whole) (sym w.next-is)
            (Walked-instance scope tables of references items next index parts whole (c.loop-index.invariant.walked of same) item
            c.loop-index-test.true at more more_is _ w.in-Instances.is);
      }
      | in_default w ↦ record {
        within = omega (arith, w.next-is, c.loop-index.invariant.within);
        walked = λ of same.
            let whole = c.args.parts.now ++ flat_map (parts_of_item scope tables of) (enumerate_from 0 items) in
            subst (λ (n : ℕ). Walked scope tables of references items n (index + 1) more whole) (sym w.next-is)
            (Walked-other scope tables of references items next index parts whole (c.loop-index.invariant.walked of same) item
            c.loop-index-test.true at more more_is w.in_default.not-Instances);
      }
    ]

pub returns : goal.returns
returns c = λ of same.
    Walked-end c.args.scope.now c.args.tables.now of c.args.references.now c.args.items.now c.loop-index.next c.loop-index.index
    c.loop-index.parts (c.args.parts.now ++ flat_map (parts_of_item c.args.scope.now c.args.tables.now of) (enumerate_from 0 c.args.items.now))
    (c.loop-index.invariant.walked of same) c.loop-index-test.false
