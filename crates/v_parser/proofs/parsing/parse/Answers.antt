use Rattle.std.proofs.Common.{List, Ok, Err, subst}
use Rattle.v_lexer.specs.declared.token.Token.{Token}
use Rattle.v_parser.specs.Reading.{descriptions_of, GivesLists}
use Rattle.v_parser.proofs.Whole.{tree_of, same_of, memory_of}
use Rattle.v_parser.proofs.parsing.parse.Goals as goal

pub returns-in-Ok-clause-found : goal.returns-in-Ok-clause-found
returns-in-Ok-clause-found c =
    let gives = subst (λ (tokens : List Token). GivesLists (descriptions_of c.args.text.now tokens) (Ok c.in-Ok.lists)) c.as_slice.ensures c.in-Ok.ensures.exact in
    tree_of c.args.text.now c.args.tokens.now _ c.requires.small c.requires.tokens gives

pub returns-in-Ok-clause-only : goal.returns-in-Ok-clause-only
returns-in-Ok-clause-only c =
    let gives = subst (λ (tokens : List Token). GivesLists (descriptions_of c.args.text.now tokens) (Ok c.in-Ok.lists)) c.as_slice.ensures c.in-Ok.ensures.exact in
    same_of c.args.text.now c.args.tokens.now _ c.requires.small c.requires.tokens gives

pub returns-in-Err-clause-only : goal.returns-in-Err-clause-only
returns-in-Err-clause-only c =
    let gives = subst (λ (tokens : List Token). GivesLists (descriptions_of c.args.text.now tokens) (Err c.in-Err.fault)) c.as_slice.ensures c.in-Err.ensures.exact in
    memory_of c.args.text.now c.args.tokens.now c.in-Err.fault c.requires.small c.requires.tokens gives
