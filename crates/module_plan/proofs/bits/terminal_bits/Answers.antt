use Rattle.std.proofs.Common.{ℕ, ◌+◌, List, [], ◌∷◌, ◌++◌, get_or, sym, ap, ◌∙◌}
use Rattle.std.proofs.lemmas.List.{take_all}
use Rattle.expression_bits.specs.declared.runs.BitRun.{BitRun}
use Rattle.netlist_plan.specs.Unnamed.{literal_count}
use Rattle.netlist_plan.specs.Elements.{runs_bits, terminal_bits}
use Rattle.module_nets.proofs.Sources.{literals_in-push}
use Rattle.module_plan.proofs.Walks.{made_more, next_more}
use Rattle.module_plan.proofs.RunLists.{list_literals, terminal_bits-push}
use Rattle.module_plan.proofs.Steps.{literals_in-one}
use Rattle.module_plan.proofs.bits.terminal_bits.Goals as goal

pub loop-runs-preserved : goal.loop-runs-preserved
loop-runs-preserved c =
    let scope = c.args.scope.now in
    let nets = c.args.nets.now in
    let terminals = c.args.terminals.now in
    let i = c.loop-runs.runs-index in
    let runs = c.runs-item.result in
    let next = c.loop-runs.next in
    let made = c.loop-runs.bits.items in
    let runs_of = λ (list : List BitRun). list in
    record {
      made =
          made_more (terminal_bits scope nets) list_literals (terminal_bits-push scope nets) c.args.number terminals i runs c.loop-runs-test.true c.runs-item.is next c.loop-runs.invariant.next
          [] made c.push.new.self.items c.loop-runs.invariant.made
          (c.in_ok-push.ensures.items
          ∙ ap (λ (bit : ℕ). made ++ bit ∷ []) c.bit_at.ensures
          ∙ ap (λ (bits : List ℕ). made ++ get_or bits 0 0 ∷ []) (c.as_slice-in-loop-runs.ensures.value ∙ c.in_ok-own.ensures.bits)
          ∙ ap (λ (rs : List BitRun). made ++ get_or (runs_bits scope nets next rs) 0 0 ∷ []) c.as_slice.ensures);
      next =
          next_more list_literals (literals_in-push runs_of) c.args.number terminals i runs c.loop-runs-test.true c.runs-item.is next c.in_ok-own.own.next c.loop-runs.invariant.next
          (c.in_ok-own.ensures.next
          ∙ ap (λ (rs : List BitRun). next + literal_count rs) c.as_slice.ensures
          ∙ ap (λ (count : ℕ). next + count) (sym (literals_in-one nets runs_of runs)));
    }

pub returns : goal.returns
returns c =
    c.loop-runs.invariant.made
    ∙ ap (λ (lists : List (List BitRun)). terminal_bits c.args.scope.now c.args.nets.now c.args.number lists)
    (take_all c.loop-runs.runs-index c.args.terminals.now c.loop-runs-test.false)
