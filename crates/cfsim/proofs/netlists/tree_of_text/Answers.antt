use Rattle.std.proofs.Common.{subst, sym, ◌∙◌, ap}
use Rattle.cfsim.specs.declared.refusal.Refusal.{Refusal}
use Rattle.cfsim.specs.Netlists.{netlist_of_text, refusal_of_parser}
use Rattle.cfsim.specs.Refusals.{Tells}
use Rattle.cfsim.proofs.Refusing.{lexer_tells, parser_tells, tree_is}
use Rattle.cfsim.proofs.netlists.tree_of_text.Goals as goal

pub returns-in-Err-clause-refused : goal.returns-in-Err-clause-refused
returns-in-Err-clause-refused c =
    subst (λ (refusal : Refusal). Tells refusal (netlist_of_text c.args.text.now)) (sym c.refusal_of_lexer.ensures) (lexer_tells c.args.text.now c.in-Err.fault c.in-Err.ensures.exact)

pub returns-in-Ok-parse-clause-ok : goal.returns-in-Ok-parse-clause-ok
returns-in-Ok-parse-clause-ok c =
    tree_is c.args.text.now c.in-Ok.tokens c.in-Ok-parse.file.modules c.in-Ok-parse.file.udps c.in-Ok-parse.file.directives c.in-Ok-parse.ensures.exact.0 c.in-Ok.ensures.exact c.in-Ok-parse.ensures.exact.1

pub returns-clause-refused : goal.returns-clause-refused
returns-clause-refused c =
    subst (λ (refusal : Refusal). Tells refusal (netlist_of_text c.args.text.now)) (sym (c.refusal_of_parser.ensures ∙ ap (λ tokens. refusal_of_parser tokens c.in-Err-parse.fault) c.as_slice.ensures))
    (parser_tells c.args.text.now c.in-Ok.tokens c.in-Err-parse.fault c.in-Ok.ensures.exact c.in-Err-parse.ensures.exact)
