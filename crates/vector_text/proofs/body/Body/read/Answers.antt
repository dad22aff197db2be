use Rattle.std.proofs.Common.{◌≡◌, Option, Some, None, Result, sym, subst, ◌∙◌}
use Rattle.std.specs.Prelude.{IfSome}
use Rattle.line_text.specs.Fields.{fields_of}
use Rattle.vector_text.specs.declared.fault.VecFault.{VecFault}
use Rattle.vector_text.specs.declared.said.Said.{Said}
use Rattle.vector_text.specs.Sayings.{said_of}
use Rattle.vector_text.specs.Written.{Body}
use Rattle.vector_text.specs.Inside.{HasTurns}
use Rattle.vector_text.specs.Answers.{Reads}
use Rattle.vector_text.proofs.SayingLaws.{said_turns}
use Rattle.vector_text.proofs.BodyLemmas.{read-none, read-some}
use Rattle.vector_text.proofs.body.Body.read.Goals as goal

pub read_said-requires : goal.read_said-requires
read_said-requires c =
    let e : said_of c.args.version (fields_of c.args.line.now) ≡ Some c.in-Some.said = sym c.in_ok-said.ensures ∙ c.in-Some.is in
    subst (λ (o : Option Said). IfSome o HasTurns) e (said_turns c.args.version (fields_of c.args.line.now))

pub returns-in-Some : goal.returns-in-Some
returns-in-Some c =
    let e : said_of c.args.version (fields_of c.args.line.now) ≡ Some c.in-Some.said = sym c.in_ok-said.ensures ∙ c.in-Some.is in
    subst (λ (given : Result Body VecFault). Reads (λ (body : Body). body) c.read_said.result given) (read-some c.args.version c.args.self c.args.number c.args.line.now c.in-Some.said e) c.read_said.ensures

pub returns-in-None : goal.returns-in-None
returns-in-None c =
    let e : said_of c.args.version (fields_of c.args.line.now) ≡ None = sym c.in_ok-said.ensures ∙ c.in-None.is in
    rw c.from.ensures (read-none c.args.version c.args.self c.args.number c.args.line.now e)
