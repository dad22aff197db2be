-- What a text without fault writes out is in order.
use Rattle.std.proofs.Common.{◌≡◌, ℕ, ◌≤◌, Bool, true, false, not, List, [], ◌∷◌, ◌++◌, Option, Some, None, Result, Ok, Err, refl, sym, subst, append_assoc, arith}
use Rattle.std.specs.Prelude.{IfSome, IfOk}
use Rattle.std.proofs.lemmas.Bool.{ltb-false}
use Rattle.std.proofs.lemmas.List.{append-nil}
use Rattle.line_text.specs.Fields.{fields_of}
use Rattle.line_text.specs.Lines.{text_lines}
use Rattle.line_text.specs.Faults.{fault_if, first_there, first_fault, first_fault_behind}
use Rattle.vector_text.specs.declared.fault.VecFault.{VecFault}
use Rattle.vector_text.specs.declared.fault.VecFault.TheVariants.{BadLine, Limit, Order, NoEnd}
use Rattle.vector_text.specs.declared.said.Version.{Version}
use Rattle.vector_text.specs.declared.said.Version.TheVariants.{First, Second}
use Rattle.vector_text.specs.declared.said.Said.{Said}
use Rattle.vector_text.specs.declared.said.Said.TheVariants.{Timed, Opens, Closes, Ends}
use Rattle.vector_text.specs.declared.vectors.VectorLine.{VectorLine}
use Rattle.vector_text.specs.declared.vectors.Vectors.{Vectors}
use Rattle.vector_text.specs.Answers.{Reads}
use Rattle.vector_text.specs.Inside.{HasTurns}
use Rattle.vector_text.specs.Sayings.{said_of, version_of, inputs_of}
use Rattle.vector_text.specs.Written.{Block, Body, with_timed, with_turns, with_said, with_said_if, line_at, may_stand, passes_limit, breaks_order, last_time, said_fault, body_of, line_fault}
use Rattle.vector_text.specs.Text.{or_fault, Outputs, outputs_in, body_end, body_unless, body_in, vectors_with, behind_inputs, behind_version, vectors_in, vectors_of}
use Rattle.vector_text.specs.Lawful.{AreOrdered, AreInOrder, greatest_time}
use Rattle.vector_text.proofs.PairLaws.{Pairs, each_front, All-from_each, AllPairs-from_pairs}
use Rattle.vector_text.proofs.OrderLaws.{Follows}
use Rattle.vector_text.proofs.KeptLaws.{Kept, HasPeriod, kept_more}
use Rattle.vector_text.proofs.SayingLaws.{said_turns}
use Rattle.vector_text.proofs.ReadingLemmas.{body_of-push}
use Rattle.vector_text.proofs.LawfulLemmas.{clean_first}

-- the end is no later than a time can be
abbrev IsSmall : Option ℕ → Type 0
IsSmall None = Unit {0}
IsSmall (Some end) = end ≤ greatest_time

record IsInOrder (body : Body) : Type 0 where
  kept : Kept body
  small : IsSmall body.end

-- ---- one line

period_of : (said : Said) → HasTurns said → HasPeriod said
period_of (Timed line) h = tt
period_of (Opens repeat) h = h.1
period_of Closes h = tt
period_of (Ends time) h = tt

pub clean : (a b c : Bool) (x y z : VecFault) → first_there (fault_if (not a) x ∷ fault_if b y ∷ fault_if c z ∷ []) ≡ None → (a ≡ true) × (b ≡ false) × (c ≡ false)
clean false b c x y z e = absurd cc
clean true true c x y z e = absurd cc
clean true false true x y z e = absurd cc
clean true false false x y z e = (refl, refl, refl)

timed_end : (body : Body) (line : VectorLine) (block : Option Block) → body.end ≡ (with_timed body line block).end
timed_end body line None = refl
timed_end body line (Some block) = refl

turns_end : (body : Body) (block : Option Block) → body.end ≡ (with_turns body block).end
turns_end body None = refl
turns_end body (Some block) = refl

last_small : (version : Version) → last_time version ≤ greatest_time
last_small First = omega arith
last_small Second = omega arith

end_small : (version : Version) (body : Body) (number : ℕ) (said : Said) → passes_limit version body said ≡ false → IsSmall body.end → IsSmall (with_said body number said).end
unfolding passes_limit with_said
end_small version body number (Timed line) e h = subst IsSmall (timed_end body (line_at body number line) body.block) h
end_small version body number (Opens repeat) e h = h
end_small version body number Closes e h = subst IsSmall (turns_end body body.block) h
end_small version body number (Ends time) e h = omega (arith, last_small version, ltb-false (last_time version) time e)

said_more : (version : Version) (body : Body) (number : ℕ) (said : Option Said) → IfSome said HasTurns → said_fault version body number said ≡ None → IsInOrder body → IsInOrder (with_said_if body number said)
said_more version body number None turns none h = absurd cc
said_more version body number (Some said) turns none h =
    let parts = clean (may_stand body said) (passes_limit version body said) (breaks_order body said) (BadLine number) (Limit number) (Order number) none in
    record {
      kept = kept_more body number said (period_of said turns) parts.0 parts.2 h.kept;
      small = end_small version body number said parts.1 h.small;
    }

line_more : (version : Version) (done : List (ℕ × List ℕ)) (line : ℕ × List ℕ) → line_fault version done line ≡ None → IsInOrder (body_of version done) → IsInOrder (body_of version (done ++ line ∷ []))
unfolding line_fault
line_more version done line none h =
    subst IsInOrder (sym (body_of-push version done line))
    (said_more version (body_of version done) line.0 (said_of version (fields_of line.1)) (said_turns version (fields_of line.1)) none h)

-- ---- all lines

lines_more : (version : Version) (done rest : List (ℕ × List ℕ)) → first_fault_behind (line_fault version) done rest ≡ None → IsInOrder (body_of version done) → IsInOrder (body_of version (done ++ rest))
lines_more version done [] none h = subst (λ (ls : List (ℕ × List ℕ)). IsInOrder (body_of version ls)) (sym (append-nil done)) h
lines_more version done (line ∷ rest) none h =
    let p = clean_first (line_fault version) done line rest none in
    subst (λ (ls : List (ℕ × List ℕ)). IsInOrder (body_of version ls)) (append_assoc done (line ∷ []) rest) (lines_more version (done ++ line ∷ []) rest p.1 (line_more version done line p.0 h))

none_yet : (version : Version) → IsInOrder (body_of version [])
unfolding body_of
none_yet version = record { kept = record { order = tt; open_block = tt; at_end = tt }; small = tt }

order_of : (lines : List VectorLine) (block : Option Block) (end : ℕ) → (let body : Body = record { lines = lines; block = block; end = Some end } in IsInOrder body → AreOrdered lines end)
order_of lines (Some block) end h = absurd (let never : true ≡ false = h.kept.at_end.closed in cc)
order_of lines None end h = record {
  order = AllPairs-from_pairs Follows lines (subst (λ (ls : List VectorLine). Pairs Follows ls) (append-nil lines) h.kept.order);
  within = All-from_each (λ (line : VectorLine). line.time ≤ end) lines (each_front (λ (line : VectorLine). line.time ≤ end) lines [] h.kept.at_end.within);
  small = h.small;
}

end_of : (lines : List VectorLine) (block : Option Block) (end : Option ℕ) (x : List VectorLine × ℕ) → or_fault end NoEnd (λ at. Ok (lines, at)) ≡ Ok x
    → (let body : Body = record { lines = lines; block = block; end = end } in IsInOrder body → AreOrdered x.0 x.1)
end_of lines block None x e h = absurd cc
end_of lines block (Some end) x e h =
    let same : (lines, end) ≡ x = cc in
    subst (λ (y : List VectorLine × ℕ). AreOrdered y.0 y.1) same (order_of lines block end h)

pub passed : (version : Version) (lines : List (ℕ × List ℕ)) (o : Option VecFault) (x : List VectorLine × ℕ) → body_unless version lines o ≡ Ok x → (o ≡ None) × (body_end (body_of version lines) ≡ Ok x)
passed version lines None x e = (refl, e)
passed version lines (Some fault) x e = absurd cc

body_ordered : (version : Version) (lines : List (ℕ × List ℕ)) (x : List VectorLine × ℕ) → body_in version lines ≡ Ok x → AreOrdered x.0 x.1
unfolding body_in
body_ordered version lines x e =
    let p = passed version lines (first_fault (line_fault version) lines) x e in
    let body = body_of version lines in
    end_of body.lines body.block body.end x p.1 (lines_more version [] lines p.0 (none_yet version))

-- ---- the text

pub given_ok : {A B : Type 0} (o : Option A) (fault : VecFault) (next : A → Result B VecFault) (y : B) → or_fault o fault next ≡ Ok y → (x : A) × (next x ≡ Ok y) × (o ≡ Some x)
given_ok None fault next y e = absurd cc
given_ok (Some x) fault next y e = (x, e, refl)

with_ordered : (inputs : List (List ℕ)) (number : ℕ) (outputs : Outputs) (body : Result (List VectorLine × ℕ) VecFault) (vectors : Vectors) → vectors_with inputs number outputs body ≡ Ok vectors
    → ((x : List VectorLine × ℕ) → body ≡ Ok x → AreOrdered x.0 x.1) → AreInOrder vectors
with_ordered inputs number outputs (Err fault) vectors e h = absurd cc
with_ordered inputs number outputs (Ok x) vectors e h =
    let made : Vectors = record { inputs = inputs; inputs_line = number; outputs = outputs.names; outputs_line = outputs.line; lines = x.0; end = x.1 } in
    let same : made ≡ vectors = cc in
    subst AreInOrder same (h x refl)

version_ordered : (version : Version) (lines : List (ℕ × List ℕ)) (vectors : Vectors) → behind_version version lines ≡ Ok vectors → AreInOrder vectors
version_ordered version [] vectors e = absurd cc
version_ordered version (line ∷ rest) vectors e =
    let g = given_ok (inputs_of line.1) (BadLine line.0) (λ inputs. behind_inputs version inputs line.0 (outputs_in rest)) vectors e in
    with_ordered g.0 line.0 (outputs_in rest) (body_in version (outputs_in rest).rest) vectors g.1 (body_ordered version (outputs_in rest).rest)

lines_ordered : (lines : List (ℕ × List ℕ)) (vectors : Vectors) → vectors_in lines ≡ Ok vectors → AreInOrder vectors
lines_ordered [] vectors e = absurd cc
lines_ordered (line ∷ rest) vectors e =
    let g = given_ok (version_of (fields_of line.1)) (BadLine line.0) (λ version. behind_version version rest) vectors e in
    version_ordered g.0 rest vectors g.1

pub text_ordered : (text : List ℕ) (vectors : Vectors) → vectors_of text ≡ Ok vectors → AreInOrder vectors
unfolding vectors_of
text_ordered text vectors e = lines_ordered (text_lines text) vectors e

-- what is read from a text is in order
pub read_ordered : (text : List ℕ) (result : Result Vectors VecFault) → Reads (λ (vectors : Vectors). vectors) result (vectors_of text) → IfOk result (λ (vectors : Vectors). AreInOrder vectors)
read_ordered text (Ok vectors) h = text_ordered text vectors h
read_ordered text (Err fault) h = tt
