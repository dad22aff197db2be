-- The lines that are written to the stream of errors.
use Rattle.std.specs.Prelude.{ℕ, List, ◌++◌, codes}
use Rattle.std.specs.Fmt.{decimal}
use Rattle.v_lexer.specs.declared.fault.FaultKind.TheVariants.{BadByte, OpenComment, OpenString, BadNumber}
use Rattle.cfsim.specs.declared.line_fault.LineFault.{LineFault}
use Rattle.cfsim.specs.declared.line_fault.LineFault.TheVariants.{Lexical, SyntaxError, Unsupported}

abbrev pub usage_line : List ℕ
usage_line = codes "usage: cfsim [--top NAME] [--delays min|typ|max] [--passes N] [--jobs N] [--drop] [--observed] [--dict] NETLIST VECTORS [FAULTS] | --demo N\n"

abbrev pub no_memory_line : List ℕ
no_memory_line = codes "cfsim: no memory\n"

abbrev pub cannot_read_line : List ℕ → List ℕ
cannot_read_line name = codes "cfsim: cannot read " ++ name ++ codes "\n"

abbrev pub limit_line : List ℕ → List ℕ
limit_line name = name ++ codes ": limit file\n"

abbrev pub unbuilt_line : List ℕ → List ℕ
unbuilt_line name = name ++ codes ": unbuilt\n"

-- what is wrong at a line
abbrev pub what : LineFault → List ℕ
what (Lexical BadByte) = codes "bad byte"
what (Lexical OpenComment) = codes "open comment"
what (Lexical OpenString) = codes "open string"
what (Lexical BadNumber) = codes "bad number"
what SyntaxError = codes "syntax error"
what Unsupported = codes "unsupported"

abbrev pub fault_line : List ℕ → ℕ → LineFault → List ℕ
fault_line name line fault = name ++ codes ":" ++ decimal line ++ codes ": " ++ what fault ++ codes "\n"

abbrev pub oscillates_line : ℕ → List ℕ
oscillates_line tick = codes "cfsim: good circuit oscillates at " ++ decimal tick ++ codes "\n"
