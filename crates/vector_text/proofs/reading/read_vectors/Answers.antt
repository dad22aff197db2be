use Rattle.std.proofs.Common.{◌≡◌, [], ◌∷◌, ℕ, List, Some, None, Result, sym, subst, ◌∙◌, rules}
use Rattle.line_text.specs.Fields.{fields_of}
use Rattle.line_text.specs.Lines.{lines_behind}
use Rattle.vector_text.specs.declared.fault.VecFault.{VecFault}
use Rattle.vector_text.specs.declared.vectors.Vectors.{Vectors}
use Rattle.vector_text.specs.Sayings.{version_of}
use Rattle.vector_text.specs.Answers.{Reads}
use Rattle.vector_text.proofs.ReadingLemmas.{vectors_none, vectors_bad, vectors_some}
use Rattle.vector_text.proofs.FormLaws.{read_form}
use Rattle.vector_text.proofs.OrderedLemmas.{read_ordered}
use Rattle.vector_text.proofs.reading.read_vectors.Goals as goal

pub returns-in_default-clause-exact : goal.returns-in_default-clause-exact
returns-in_default-clause-exact c =
    let none : lines_behind 0 c.args.text.now ≡ [] = search rules in
    vectors_none c.args.text.now none

pub returns-in-Some-version_in-clause-exact : goal.returns-in-Some-version_in-clause-exact
returns-in-Some-version_in-clause-exact c =
    let line : ℕ × List ℕ = (c.in-Some.line.number, c.in-Some.line.bytes.now) in
    let rest = lines_behind c.in-Some.line.number c.in-Some.line.rest.now in
    let cut : lines_behind 0 c.args.text.now ≡ line ∷ rest = search rules in
    let version : version_of (fields_of c.in-Some.line.bytes.now) ≡ Some c.in-Some-version_in.version = sym c.version_in.ensures ∙ c.in-Some-version_in.is in
    subst (λ (given : Result Vectors VecFault). Reads (λ (vectors : Vectors). vectors) c.behind_version.result given) (sym (vectors_some c.args.text.now line rest c.in-Some-version_in.version cut version)) c.behind_version.ensures

pub returns-in-Some-version_in-clause-ordered : goal.returns-in-Some-version_in-clause-ordered
returns-in-Some-version_in-clause-ordered c =
    let line : ℕ × List ℕ = (c.in-Some.line.number, c.in-Some.line.bytes.now) in
    let rest = lines_behind c.in-Some.line.number c.in-Some.line.rest.now in
    let cut : lines_behind 0 c.args.text.now ≡ line ∷ rest = search rules in
    let version : version_of (fields_of c.in-Some.line.bytes.now) ≡ Some c.in-Some-version_in.version = sym c.version_in.ensures ∙ c.in-Some-version_in.is in
    read_ordered c.args.text.now c.behind_version.result (subst (λ (given : Result Vectors VecFault). Reads (λ (vectors : Vectors). vectors) c.behind_version.result given) (sym (vectors_some c.args.text.now line rest c.in-Some-version_in.version cut version)) c.behind_version.ensures)

pub returns-in-Some-version_in-clause-form : goal.returns-in-Some-version_in-clause-form
returns-in-Some-version_in-clause-form c =
    let line : ℕ × List ℕ = (c.in-Some.line.number, c.in-Some.line.bytes.now) in
    let rest = lines_behind c.in-Some.line.number c.in-Some.line.rest.now in
    let cut : lines_behind 0 c.args.text.now ≡ line ∷ rest = search rules in
    let version : version_of (fields_of c.in-Some.line.bytes.now) ≡ Some c.in-Some-version_in.version = sym c.version_in.ensures ∙ c.in-Some-version_in.is in
    read_form c.args.text.now c.behind_version.result (subst (λ (given : Result Vectors VecFault). Reads (λ (vectors : Vectors). vectors) c.behind_version.result given) (sym (vectors_some c.args.text.now line rest c.in-Some-version_in.version cut version)) c.behind_version.ensures)

pub returns-in-None-clause-exact : goal.returns-in-None-clause-exact
returns-in-None-clause-exact c =
    let line : ℕ × List ℕ = (c.in-Some.line.number, c.in-Some.line.bytes.now) in
    let rest = lines_behind c.in-Some.line.number c.in-Some.line.rest.now in
    let cut : lines_behind 0 c.args.text.now ≡ line ∷ rest = search rules in
    let none : version_of (fields_of c.in-Some.line.bytes.now) ≡ None = sym c.version_in.ensures ∙ c.in-None.is in
    vectors_bad c.args.text.now line rest cut none
