use Rattle.std.proofs.Common.{ℕ, ◌+◌, List, [], ◌∷◌, ◌++◌, sym, ap, ◌∙◌}
use Rattle.std.proofs.lemmas.List.{take_all}
use Rattle.expression_bits.specs.declared.runs.BitRun.{BitRun}
use Rattle.netlist_plan.specs.Unnamed.{literal_count}
use Rattle.netlist_plan.specs.Elements.{runs_bits}
use Rattle.module_nets.proofs.Sources.{literal_count-append}
use Rattle.module_plan.proofs.Walks.{made_more, next_more}
use Rattle.module_plan.proofs.RunLists.{runs_bits-one, runs_bits-push}
use Rattle.module_plan.proofs.bits.runs_bits.Goals as goal

pub loop-run-preserved : goal.loop-run-preserved
loop-run-preserved c =
    let scope = c.args.scope.now in
    let nets = c.args.nets.now in
    let runs = c.args.runs.now in
    let i = c.loop-run.run-index in
    let run = c.run-item.result in
    let next = c.loop-run.next in
    let made = c.loop-run.bits.items in
    record {
      made =
          made_more (runs_bits scope nets) literal_count (runs_bits-push scope nets) c.args.number runs i run c.loop-run-test.true c.run-item.is next c.loop-run.invariant.next
          [] made c.push_run_bits.new.bits.items c.loop-run.invariant.made
          (c.in_ok-push_run_bits.ensures ∙ ap (λ (bits : List ℕ). made ++ bits) (sym (runs_bits-one scope nets next run)));
      next =
          next_more literal_count (λ xs x. literal_count-append xs (x ∷ [])) c.args.number runs i run c.loop-run-test.true c.run-item.is next c.in_ok-next.next c.loop-run.invariant.next
          (c.in_ok-next.ensures ∙ ap (λ (count : ℕ). next + count) c.literals_in.ensures);
    }

pub returns : goal.returns
returns c =
    let all = take_all c.loop-run.run-index c.args.runs.now c.loop-run-test.false in
    record {
      bits = c.loop-run.invariant.made ∙ ap (λ (runs : List BitRun). runs_bits c.args.scope.now c.args.nets.now c.args.number runs) all;
      next = c.loop-run.invariant.next ∙ ap (λ (runs : List BitRun). c.args.number + literal_count runs) all;
    }
