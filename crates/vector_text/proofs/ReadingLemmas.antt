-- A text is read line by line.
use Rattle.std.proofs.Common.{◌≡◌, ℕ, List, [], ◌∷◌, ◌++◌, Option, Some, None, Ok, Err, refl, sym, ap, ◌∙◌, append_assoc}
use Rattle.std.proofs.lemmas.Grind.{fold-append}
use Rattle.std.proofs.lemmas.List.{append-nil}
use Rattle.line_text.specs.Fields.{fields_of}
use Rattle.line_text.specs.Faults.{first_fault, first_fault_behind}
use Rattle.line_text.proofs.FaultLaws.{first_fault_behind-none, first_fault_behind-some}
use Rattle.line_text.specs.Lines.{lines_behind}
use Rattle.vector_text.specs.declared.fault.VecFault.{VecFault}
use Rattle.vector_text.specs.declared.fault.VecFault.TheVariants.{BadLine, Limit, Order, NoEnd, Memory as NoMemory}
use Rattle.vector_text.specs.Answers.{IsVecFault}
use Rattle.vector_text.specs.declared.said.Version.{Version}
use Rattle.vector_text.specs.Sayings.{said_of, version_of}
use Rattle.vector_text.specs.Written.{Body, no_lines, with_line, body_of, line_fault, said_fault, read_with, body_unless_fault}
use Rattle.vector_text.specs.Text.{body_in, body_end, body_unless, behind_version, vectors_in, vectors_of}

-- some lines of all are read, and the first fault of all is that of the rest
pub record HasRead (version : Version) (all : List (ℕ × List ℕ)) (body : Body) (rest : List (ℕ × List ℕ)) : Type 0 where
  pub done : List (ℕ × List ℕ)
  pub body_is : body ≡ body_of version done
  pub all_is : done ++ rest ≡ all
  pub same_fault : first_fault_behind (line_fault version) done rest ≡ first_fault (line_fault version) all

pub read_start : (version : Version) (all : List (ℕ × List ℕ)) → HasRead version all no_lines all
unfolding body_of
read_start version all = record { done = []; body_is = refl; all_is = refl; same_fault = refl }

pub body_of-push : (version : Version) (done : List (ℕ × List ℕ)) (line : ℕ × List ℕ) → body_of version (done ++ line ∷ []) ≡ with_line version (body_of version done) line
unfolding body_of
body_of-push version done line = fold-append (with_line version) no_lines done (line ∷ [])

-- what reading one line says of its fault
none_from : (body next : Body) (fault : Option VecFault) → body_unless_fault body fault ≡ Ok next → (fault ≡ None) × (next ≡ body)
none_from body next None e = (refl, (let same : body ≡ next = cc in sym same))
none_from body next (Some fault) e = absurd cc

some_from : (body : Body) (fault : Option VecFault) (found : VecFault) → body_unless_fault body fault ≡ Err found → fault ≡ Some found
some_from body None found e = absurd cc
some_from body (Some fault) found e = (let same : fault ≡ found = cc in ap Some same)

pub read_more : (version : Version) (all : List (ℕ × List ℕ)) (body next : Body) (line : ℕ × List ℕ) (rest others : List (ℕ × List ℕ)) → HasRead version all body rest → rest ≡ line ∷ others → read_with version body line ≡ Ok next → HasRead version all next others
unfolding read_with line_fault
read_more version all body next line rest others read cut e =
    let f = none_from (with_line version body line) next (said_fault version body line.0 (said_of version (fields_of line.1))) e in
    let none : line_fault version read.done line ≡ None = ap (λ (b : Body). said_fault version b line.0 (said_of version (fields_of line.1))) (sym read.body_is) ∙ f.0 in
    record {
      done = read.done ++ line ∷ [];
      body_is = f.1 ∙ ap (λ (b : Body). with_line version b line) read.body_is ∙ sym (body_of-push version read.done line);
      all_is = append_assoc read.done (line ∷ []) others ∙ ap (λ (x : List (ℕ × List ℕ)). read.done ++ x) (sym cut) ∙ read.all_is;
      same_fault = sym (first_fault_behind-none (line_fault version) read.done line others none) ∙ ap (first_fault_behind (line_fault version) read.done) (sym cut) ∙ read.same_fault;
    }

pub read_stop : (version : Version) (all : List (ℕ × List ℕ)) (body : Body) (line : ℕ × List ℕ) (rest others : List (ℕ × List ℕ)) (found : VecFault) → HasRead version all body rest → rest ≡ line ∷ others → read_with version body line ≡ Err found → body_in version all ≡ Err found
unfolding read_with line_fault body_in
read_stop version all body line rest others found read cut e =
    let f = some_from (with_line version body line) (said_fault version body line.0 (said_of version (fields_of line.1))) found e in
    let some : line_fault version read.done line ≡ Some found = ap (λ (b : Body). said_fault version b line.0 (said_of version (fields_of line.1))) (sym read.body_is) ∙ f in
    let first : first_fault (line_fault version) all ≡ Some found
    = sym read.same_fault ∙ ap (first_fault_behind (line_fault version) read.done) cut ∙ first_fault_behind-some (line_fault version) read.done line others found some in
    ap (body_unless version all) first

pub read_all : (version : Version) (all : List (ℕ × List ℕ)) (body : Body) (rest : List (ℕ × List ℕ)) → HasRead version all body rest → rest ≡ [] → body_in version all ≡ body_end body
unfolding body_in
read_all version all body rest read none =
    let first : first_fault (line_fault version) all ≡ None = sym read.same_fault ∙ ap (first_fault_behind (line_fault version) read.done) none in
    let whole : read.done ≡ all = sym (append-nil read.done) ∙ ap (λ (x : List (ℕ × List ℕ)). read.done ++ x) (sym none) ∙ read.all_is in
    ap (body_unless version all) first ∙ ap body_end (ap (body_of version) (sym whole) ∙ sym read.body_is)

-- ---- answers

pub stop_fault : (version : Version) (all : List (ℕ × List ℕ)) (body : Body) (line : ℕ × List ℕ) (rest others : List (ℕ × List ℕ)) (found : VecFault) → HasRead version all body rest → rest ≡ line ∷ others → IsVecFault found (read_with version body line) → IsVecFault found (body_in version all)
stop_fault version all body line rest others (BadLine n) read cut e = read_stop version all body line rest others (BadLine n) read cut e
stop_fault version all body line rest others (Limit n) read cut e = read_stop version all body line rest others (Limit n) read cut e
stop_fault version all body line rest others (Order n) read cut e = read_stop version all body line rest others (Order n) read cut e
stop_fault version all body line rest others NoEnd read cut e = read_stop version all body line rest others NoEnd read cut e
stop_fault version all body line rest others NoMemory read cut e = tt

pub vectors_none : (text : List ℕ) → lines_behind 0 text ≡ [] → vectors_of text ≡ Err NoEnd
unfolding vectors_of
vectors_none text e = ap vectors_in e

pub vectors_bad : (text : List ℕ) (line : ℕ × List ℕ) (rest : List (ℕ × List ℕ)) → lines_behind 0 text ≡ line ∷ rest → version_of (fields_of line.1) ≡ None → vectors_of text ≡ Err (BadLine line.0)
unfolding vectors_of
vectors_bad text line rest e f = ap vectors_in e ∙ rw f refl

pub vectors_some : (text : List ℕ) (line : ℕ × List ℕ) (rest : List (ℕ × List ℕ)) (version : Version) → lines_behind 0 text ≡ line ∷ rest → version_of (fields_of line.1) ≡ Some version → vectors_of text ≡ behind_version version rest
unfolding vectors_of
vectors_some text line rest version e f = ap vectors_in e ∙ rw f refl
