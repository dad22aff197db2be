use Rattle.std.proofs.Common.{◌≡◌, ◌<◌, ◌++◌, ◌+◌, take, [], List, ap, ◌∙◌, sym, length, arith, Option, Vec}
use Rattle.std.specs.List.{cons_option}
use Rattle.std.proofs.lemmas.List.{append-nil}
use Rattle.std.specs.Global.{Global}
use Rattle.module_graph.specs.declared.references.Reference.{Reference}
use Rattle.module_graph.specs.Graph.{reference_of, references_in}
use Rattle.module_graph.specs.Masters.{masters_under}
use Rattle.module_graph.proofs.MasterLaws.{filter_map_more}
use Rattle.module_graph.proofs.masters.references_in.Goals as goal
use Rattle.module_graph.proofs.masters.references_in.Goals.{in-Some+in_ok-push, in_default}

-- the references so far, and that of one more item
more : (c : goal.Joined-reference_of) → c.loop-item.list.items ++ cons_option c.reference_of.result [] ≡ references_in (masters_under c.args.masters.now) (take (c.loop-item.item-index + 1) c.args.items.now)
more c =
    let within : c.loop-item.item-index < length c.args.items.now = omega arith in
    ap (λ (list : List Reference). list ++ cons_option c.reference_of.result []) c.loop-item.invariant
    ∙ sym (filter_map_more (reference_of (masters_under c.args.masters.now)) c.args.items.now c.loop-item.item-index c.item-item.result c.reference_of.result within
    (sym c.item-item.is) (sym c.reference_of.ensures))

pub loop-item-preserved : goal.loop-item-preserved
loop-item-preserved c =
    elim c.match-reference_of.branch [
      | in-Some+in_ok-push w ↦
          ap (λ (v : Vec Reference Global). v.items) w.list-is ∙ w.in_ok-push.ensures.items
          ∙ sym (ap (λ (o : Option Reference). c.loop-item.list.items ++ cons_option o []) w.in-Some.is) ∙ more c
      | in_default w ↦
          ap (λ (v : Vec Reference Global). v.items) w.list-is ∙ sym (append-nil c.loop-item.list.items)
          ∙ sym (ap (λ (o : Option Reference). c.loop-item.list.items ++ cons_option o []) w.in_default.is) ∙ more c
    ]
