-- The reserved words.
use Rattle.std.specs.Prelude.{ℕ, ◌==◌, List, [], ◌∷◌, ◌++◌, codes, Bool, false, not, ◌&&◌, if◌then◌else◌}
use Rattle.std.specs.List.{list_all}
use Rattle.name_table.specs.Names.{is_among}
use Rattle.v_lexer.specs.Bytes.{is_letter, is_name_byte}

-- a byte at the front of the first word
abbrev pub onto : ℕ → List (List ℕ) → List (List ℕ)
onto byte [] = (byte ∷ []) ∷ []
onto byte (word ∷ words) = (byte ∷ word) ∷ words

-- a byte that isn't a space
abbrev pub is_in_word : ℕ → Bool
is_in_word byte = not (byte == 32)

-- the words of a text, each up to a space or to the end
unfoldable pub words_of : List ℕ → List (List ℕ)
words_of [] = []
words_of (byte ∷ bytes) = if byte == 32 then [] ∷ words_of bytes else onto byte (words_of bytes)

-- the words that the grammar has in modules and primitives
unfoldable pub grammar_words : List (List ℕ)
grammar_words =
    words_of (codes "module macromodule endmodule input output inout wire tri wand triand wor trior tri0 tri1 supply0 supply1 trireg assign vectored scalared small medium large strong0 strong1 pull0 pull1 weak0 weak1 highz0 highz1 tran rtran pullup pulldown and nand or nor xor xnor buf not bufif0 bufif1 notif0 notif1 nmos pmos rnmos rpmos cmos rcmos tranif0 tranif1 rtranif0 rtranif1 primitive table endtable endprimitive")

-- the words that the grammar leaves out: of these it has `reg` and `initial` in primitives, and `specify` and `endspecify` around blocks
unfoldable pub left_out_words : List (List ℕ)
left_out_words =
    words_of (codes "always automatic begin case casex casez deassign defparam disable edge else end endcase endfunction endgenerate endspecify endtask event for force forever fork function generate genvar if initial integer join localparam negedge parameter posedge real realtime reg release repeat signed specify specparam task time unsigned uwire wait while")

-- the words of the grammar, and then those that it leaves out
unfoldable pub reserved_words : List (List ℕ)
reserved_words = grammar_words ++ left_out_words

-- a name is one of the reserved words
unfoldable pub is_reserved : List ℕ → Bool
is_reserved name = is_among name reserved_words

-- the first byte is a letter or `_`
abbrev pub begins_name : List ℕ → Bool
begins_name [] = false
begins_name (byte ∷ bytes) = is_letter byte

-- a name that can be written without a `\`
abbrev pub is_plain : List ℕ → Bool
is_plain name = begins_name name && list_all is_name_byte name && not (is_reserved name)
