-- The answer to words and files: a status, a text for the output and a text for the errors. It goes by the order of
-- refusals, and looks at a file only where nothing before it refuses.
use Rattle.std.specs.Prelude.{ℕ, List, [], length, Option, None, Some, Result, Ok, Err, nat_lt, if◌then◌else◌}
use Rattle.std.specs.Option.{ok_or}
use Rattle.gate_net.specs.declared.netlist.Netlist.{Netlist}
use Rattle.gate_net.specs.declared.stimulus.Stimulus.{Stimulus}
use Rattle.first_vectors.specs.Reading.{stimulus_of}
use Rattle.first_machine.specs.Run.{run}
use Rattle.first_machine.specs.Trace.{trace}
use Rattle.cfsim.specs.Words.{Call, call_of}
use Rattle.cfsim.specs.Messages.{usage_line, cannot_read_line, no_memory_line, limit_line, fault_line, unbuilt_line, oscillates_line}
use Rattle.cfsim.specs.Netlists.{netlist_of_text}
use Rattle.cfsim.specs.declared.refusal.Refusal.{Refusal}
use Rattle.cfsim.specs.declared.refusal.Refusal.TheVariants.{Memory, Read, TooLong, Faulty, Unbuilt}

pub record Answer : Type 0 where
  pub status : ℕ
  pub out : List ℕ
  pub err : List ℕ

-- what a file gives that may have so many bytes, and that is read so
abbrev pub read_within : {X : Type 0} → ℕ → (List ℕ → Result X Refusal) → Option (List ℕ) → Result X Refusal
read_within limit reading None = Err Read
read_within limit reading (Some text) = if nat_lt limit (length text) then Err TooLong else reading text

-- the longest netlist, and the longest text of vectors, in bytes
abbrev pub netlist_limit : ℕ
netlist_limit = 67108864

abbrev pub vectors_limit : ℕ
vectors_limit = 16777216

-- the most passes of a time step
abbrev pub pass_limit : ℕ
pass_limit = 1000

abbrev pub netlist_of_file : Option (List ℕ) → Result Netlist Refusal
netlist_of_file file = read_within netlist_limit netlist_of_text file

-- the stimulus of a text, where it is in its form
abbrev pub stimulus_of_text : Netlist → List ℕ → Result Stimulus Refusal
stimulus_of_text netlist text = ok_or (stimulus_of netlist text) Unbuilt

abbrev pub stimulus_of_file : Netlist → Option (List ℕ) → Result Stimulus Refusal
stimulus_of_file netlist file = read_within vectors_limit (stimulus_of_text netlist) file

-- the answer of a file that refuses, where a file that the shelf has refuses with this status
abbrev pub answer_of_refusal : Refusal → ℕ → List ℕ → Answer
answer_of_refusal Memory status name = record { status = 7; out = []; err = no_memory_line }
answer_of_refusal Read status name = record { status = 1; out = []; err = cannot_read_line name }
answer_of_refusal TooLong status name = record { status = status; out = []; err = limit_line name }
answer_of_refusal (Faulty fault line) status name = record { status = status; out = []; err = fault_line name line fault }
answer_of_refusal Unbuilt status name = record { status = status; out = []; err = unbuilt_line name }

-- the answer of a run by its trace and by the tick at which it oscillates
abbrev pub answer_of_trace : List ℕ → Option ℕ → Answer
answer_of_trace text None = record { status = 0; out = text; err = [] }
answer_of_trace text (Some tick) = record { status = 6; out = text; err = oscillates_line tick }

unfoldable pub answer_of_run : Netlist → Stimulus → Answer
answer_of_run netlist stimulus = answer_of_trace (trace netlist (run pass_limit netlist stimulus).ended) (run pass_limit netlist stimulus).oscillated

abbrev pub with_stimulus : Call → Netlist → Result Stimulus Refusal → Answer
with_stimulus call netlist (Err refusal) = answer_of_refusal refusal 4 call.vectors
with_stimulus call netlist (Ok stimulus) = answer_of_run netlist stimulus

abbrev pub with_netlist : (List ℕ → Option (List ℕ)) → Call → Result Netlist Refusal → Answer
with_netlist files call (Err refusal) = answer_of_refusal refusal 3 call.netlist
with_netlist files call (Ok netlist) = with_stimulus call netlist (stimulus_of_file netlist (files call.vectors))

abbrev pub answer_of_call : (List ℕ → Option (List ℕ)) → Option Call → Answer
answer_of_call files None = record { status = 2; out = []; err = usage_line }
answer_of_call files (Some call) = with_netlist files call (netlist_of_file (files call.netlist))

-- the answer to the words, on a shelf of files
unfoldable pub answer : List (List ℕ) → (List ℕ → Option (List ℕ)) → Answer
answer words files = answer_of_call files (call_of words)
