use Rattle.std.proofs.Common.{◌≡◌, ◌≢◌, ℕ, List, [], get_or, map, length, Some, None, refl, sym, ap, ◌∙◌, subst, arith, inr}
use Rattle.std.specs.Prelude.{string_bytes}
use Rattle.std.proofs.lemmas.List.{get_or-map, length-map}
use Rattle.outside_io.specs.Outside.{Gains}
use Rattle.cfsim.specs.Words.{Call, call_of}
use Rattle.cfsim.specs.Messages.{usage_line}
use Rattle.cfsim.specs.Answer.{Answer, answer, with_netlist, netlist_of_file}
use Rattle.cfsim.specs.Reports.{answer_of}
use Rattle.cfsim.proofs.NetlistLaws as laws
use Rattle.cfsim.proofs.RunClauses as clauses
use Rattle.cfsim.proofs.RunClauses.{if_some, if_some_map, answer_no_call, answer_call, no_call_from, first_two, call_from, same_call, call_length, one_not_8, IsReported, reported_not_8, reported_cases, status_one, prefix_of_nothing, IsWritten}
use Rattle.cfsim.proofs.run.run.Given as given
use Rattle.cfsim.proofs.run.run.Goals as goal
use Rattle.cfsim.proofs.run.run.Goals.{After-deliver, After-drop-report-in-Ok}

-- ---- the words aren't a call

abbrev usage : Answer
usage = record { status = 2; out = []; err = usage_line }

no_call : (g : given.Over) (c : After-deliver g) → call_of (map string_bytes c.args.words.now) ≡ None
no_call g c = no_call_from _ (sym c.is_call.ensures ∙ c.if-not-is_call.true)

two_not_1 : ◌≢◌ {A = ℕ} 2 1
two_not_1 e = absurd (omega arith)

two_not_8 : (g : given.Over) (c : After-deliver g) → c.new.result ≢ 8
two_not_8 g c e = absurd (omega (arith, c.new.ensures, e))

usage_written : (g : given.Over) (c : After-deliver g) → IsWritten (g.F.Shelf.files c.args.shelf.now) (map string_bytes c.args.words.now) usage c.deliver.result
usage_written g c = record {
  reported = inr two_not_1;
  answered = λ ne. if_some (g.F.Shelf.files c.args.shelf.now) (λ files. usage ≡ answer (map string_bytes c.args.words.now) files) (λ files. sym (answer_no_call (map string_bytes c.args.words.now) files (no_call g c)));
  cases = rw c.new.ensures at c.deliver.ensures.cases;
}

pub returns-then-not-is_call-clause-answered_status : goal.returns-then-not-is_call-clause-answered_status
returns-then-not-is_call-clause-answered_status g c answered = clauses.answered_status _ _ usage c.deliver.result (usage_written g c) answered

pub returns-then-not-is_call-clause-answered_out : goal.returns-then-not-is_call-clause-answered_out
returns-then-not-is_call-clause-answered_out g c answered = clauses.answered_text _ _ usage c.deliver.result (λ a. a.out) _ _ (usage_written g c) c.deliver.ensures.out answered

pub returns-then-not-is_call-clause-answered_err : goal.returns-then-not-is_call-clause-answered_err
returns-then-not-is_call-clause-answered_err g c answered = clauses.answered_text _ _ usage c.deliver.result (λ a. a.err) _ _ (usage_written g c) c.deliver.ensures.err answered

pub returns-then-not-is_call-clause-unwritten_out : goal.returns-then-not-is_call-clause-unwritten_out
returns-then-not-is_call-clause-unwritten_out g c e = clauses.unwritten_out _ _ usage c.deliver.result _ _ (usage_written g c) (λ one. refl) (c.deliver.ensures.out_prefix (two_not_8 g c) e)

pub returns-then-not-is_call-clause-unwritten_err : goal.returns-then-not-is_call-clause-unwritten_err
returns-then-not-is_call-clause-unwritten_err g c e = clauses.unwritten_err _ _ usage c.deliver.result _ _ _ (usage_written g c) (λ one. absurd (two_not_1 one)) (c.deliver.ensures.err_prefix (two_not_8 g c) e)

pub returns-then-not-is_call-clause-complete : goal.returns-then-not-is_call-clause-complete
returns-then-not-is_call-clause-complete g c = clauses.complete _ _ usage c.deliver.result _ _ _ (usage_written g c) (λ one. absurd (two_not_1 one)) (c.deliver.ensures.rose (two_not_8 g c))

pub returns-then-not-is_call-clause-exact : goal.returns-then-not-is_call-clause-exact
returns-then-not-is_call-clause-exact g c = clauses.exact _ _ usage c.deliver.result _ _ _ (usage_written g c) (λ one. absurd (two_not_1 one)) (c.deliver.ensures.rose (two_not_8 g c))

-- ---- the words are a call, and there is a report

abbrev named : (g : given.Over) → After-drop-report-in-Ok g → Call
named g c = record { netlist = c.as_str.result.now; vectors = c.as_str-2.result.now }

call_is : (g : given.Over) (c : After-drop-report-in-Ok g) → call_of (map string_bytes c.args.words.now) ≡ Some (named g c)
call_is g c =
    let is_one = sym c.is_call.ensures ∙ c.if-not-is_call.false in
    let len : length c.args.words.now ≡ 2 = sym (length-map c.args.words.now string_bytes) ∙ call_length (map string_bytes c.args.words.now) is_one in
    let netlist : c.as_str.result.now ≡ get_or (map string_bytes c.args.words.now) 0 [] =
    c.as_str.ensures.value ∙ ap string_bytes c.index-words-0.is ∙ sym (get_or-map string_bytes c.args.words.now 0 c.index-words-0.result [] (omega (arith, len))) in
    let vectors : c.as_str-2.result.now ≡ get_or (map string_bytes c.args.words.now) 1 [] =
    c.as_str-2.ensures.value ∙ ap string_bytes c.index-words-1.is ∙ sym (get_or-map string_bytes c.args.words.now 1 c.index-words-1.result [] (omega (arith, len))) in
    call_from (map string_bytes c.args.words.now) is_one ∙ ap (λ (call : Call). Some call) (same_call _ _ _ _ (sym netlist) (sym vectors))

report_written : (g : given.Over) (c : After-drop-report-in-Ok g) → IsWritten (g.F.Shelf.files c.args.shelf.now) (map string_bytes c.args.words.now) (answer_of c.in-Ok.report) c.deliver-in-Ok.result
report_written g c = record {
  reported = reported_cases c.in-Ok.report.status c.in-Ok.ensures.statuses;
  answered = λ ne. if_some_map (g.F.Shelf.files c.args.shelf.now) (λ files. answer_of c.in-Ok.report ≡ with_netlist files (named g c) (netlist_of_file (files c.as_str.result.now))) (λ files. answer_of c.in-Ok.report ≡ answer (map string_bytes c.args.words.now) files)
      (λ files is. is ∙ sym (answer_call (map string_bytes c.args.words.now) files (named g c) (call_is g c))) (c.in-Ok.ensures.answered ne);
  cases = c.deliver-in-Ok.ensures.cases;
}

status_not_8 : (g : given.Over) (c : After-drop-report-in-Ok g) → c.in-Ok.report.status ≢ 8
status_not_8 g c = reported_not_8 c.in-Ok.report.status c.in-Ok.ensures.statuses

pub returns-in-Ok-clause-answered_status : goal.returns-in-Ok-clause-answered_status
returns-in-Ok-clause-answered_status g c answered = clauses.answered_status _ _ (answer_of c.in-Ok.report) c.deliver-in-Ok.result (report_written g c) answered

pub returns-in-Ok-clause-answered_out : goal.returns-in-Ok-clause-answered_out
returns-in-Ok-clause-answered_out g c answered = clauses.answered_text _ _ (answer_of c.in-Ok.report) c.deliver-in-Ok.result (λ a. a.out) _ _ (report_written g c) (rw c.as_slice.ensures at c.deliver-in-Ok.ensures.out) answered

pub returns-in-Ok-clause-answered_err : goal.returns-in-Ok-clause-answered_err
returns-in-Ok-clause-answered_err g c answered = clauses.answered_text _ _ (answer_of c.in-Ok.report) c.deliver-in-Ok.result (λ a. a.err) _ _ (report_written g c) (rw c.as_slice-in-Ok.ensures at c.deliver-in-Ok.ensures.err) answered

pub returns-in-Ok-clause-unread_named : goal.returns-in-Ok-clause-unread_named
returns-in-Ok-clause-unread_named g c one =
    clauses.unread_named (map string_bytes c.args.words.now) (named g c) _ _ (call_is g c) (c.in-Ok.ensures.blames (status_one c.in-Ok.report.status c.deliver-in-Ok.result c.deliver-in-Ok.ensures.cases one))

pub returns-in-Ok-clause-unread_next : goal.returns-in-Ok-clause-unread_next
returns-in-Ok-clause-unread_next g c one =
    clauses.unread_next (g.F.Shelf.files c.args.shelf.now) (map string_bytes c.args.words.now) (named g c) _ (call_is g c) (c.in-Ok.ensures.blames (status_one c.in-Ok.report.status c.deliver-in-Ok.result c.deliver-in-Ok.ensures.cases one))

pub returns-in-Ok-clause-unread_err : goal.returns-in-Ok-clause-unread_err
returns-in-Ok-clause-unread_err g c one =
    subst (λ (text : List ℕ). Gains (g.E.Sink.written c.args.err.now) (g.E.Sink.written c.deliver-in-Ok.new.err) text)
    (c.as_slice-in-Ok.ensures ∙ c.in-Ok.ensures.line (status_one c.in-Ok.report.status c.deliver-in-Ok.result c.deliver-in-Ok.ensures.cases one))
    (c.deliver-in-Ok.ensures.err (one_not_8 c.deliver-in-Ok.result one))

pub returns-in-Ok-clause-unwritten_out : goal.returns-in-Ok-clause-unwritten_out
returns-in-Ok-clause-unwritten_out g c e = clauses.unwritten_out _ _ (answer_of c.in-Ok.report) c.deliver-in-Ok.result _ _ (report_written g c) c.in-Ok.ensures.no_out (rw c.as_slice.ensures at (c.deliver-in-Ok.ensures.out_prefix (status_not_8 g c) e))

pub returns-in-Ok-clause-unwritten_err : goal.returns-in-Ok-clause-unwritten_err
returns-in-Ok-clause-unwritten_err g c e = clauses.unwritten_err _ _ (answer_of c.in-Ok.report) c.deliver-in-Ok.result _ _ _ (report_written g c) c.in-Ok.ensures.line (rw c.as_slice-in-Ok.ensures at (c.deliver-in-Ok.ensures.err_prefix (status_not_8 g c) e))

pub returns-in-Ok-clause-complete : goal.returns-in-Ok-clause-complete
returns-in-Ok-clause-complete g c = clauses.complete _ _ (answer_of c.in-Ok.report) c.deliver-in-Ok.result _ _ _ (report_written g c) c.in-Ok.ensures.rose (c.deliver-in-Ok.ensures.rose (status_not_8 g c))

pub returns-in-Ok-clause-exact : goal.returns-in-Ok-clause-exact
returns-in-Ok-clause-exact g c = clauses.exact _ _ (answer_of c.in-Ok.report) c.deliver-in-Ok.result _ _ _ (report_written g c) c.in-Ok.ensures.rose (c.deliver-in-Ok.ensures.rose (status_not_8 g c))

-- ---- there is no memory for the report

seven_not_8 : ◌≢◌ {A = ℕ} 7 8
seven_not_8 e = absurd (omega arith)

pub returns-in-Err-clause-unwritten_out : goal.returns-in-Err-clause-unwritten_out
returns-in-Err-clause-unwritten_out g c e =
    if_some _ _ (λ files. prefix_of_nothing _ _ _ (c.deliver-in-Err.ensures.out_prefix (λ f. seven_not_8 (sym c.new-in-Err.ensures ∙ f)) e))

-- ---- what a text gives as a netlist

pub returns-then-not-is_call-clause-lexical_fault : goal.returns-then-not-is_call-clause-lexical_fault
returns-then-not-is_call-clause-lexical_fault g c = laws.lexical_fault

pub returns-then-not-is_call-clause-tree : goal.returns-then-not-is_call-clause-tree
returns-then-not-is_call-clause-tree g c = laws.tree

pub returns-then-not-is_call-clause-bad_token : goal.returns-then-not-is_call-clause-bad_token
returns-then-not-is_call-clause-bad_token g c = laws.bad_token

pub returns-in-Ok-clause-lexical_fault : goal.returns-in-Ok-clause-lexical_fault
returns-in-Ok-clause-lexical_fault g c = laws.lexical_fault

pub returns-in-Ok-clause-tree : goal.returns-in-Ok-clause-tree
returns-in-Ok-clause-tree g c = laws.tree

pub returns-in-Ok-clause-bad_token : goal.returns-in-Ok-clause-bad_token
returns-in-Ok-clause-bad_token g c = laws.bad_token

pub returns-in-Err-clause-lexical_fault : goal.returns-in-Err-clause-lexical_fault
returns-in-Err-clause-lexical_fault g c = laws.lexical_fault

pub returns-in-Err-clause-tree : goal.returns-in-Err-clause-tree
returns-in-Err-clause-tree g c = laws.tree

pub returns-in-Err-clause-bad_token : goal.returns-in-Err-clause-bad_token
returns-in-Err-clause-bad_token g c = laws.bad_token
