-- What a text gives as a netlist, said without the functions that read it.
use Rattle.std.proofs.Common.{◌≡◌, ℕ, ◌≤◌, ltb, List, length, Option, Some, Result, Ok, Err, refl, ap, ◌∙◌, arith, inl, inr}
use Rattle.std.specs.Prelude.{slice_get}
use Rattle.std.specs.Option.{option_map_or}
use Rattle.std.proofs.lemmas.Bool.{cases_Bool, ltb-true}
use Rattle.gate_net.specs.declared.netlist.Netlist.{Netlist}
use Rattle.v_lexer.specs.declared.token.Token.{Token}
use Rattle.v_lexer.specs.declared.fault.FaultKind.{FaultKind}
use Rattle.v_lexer.specs.declared.fault.LexFault.TheVariants as lex
use Rattle.v_lexer.specs.Reading.{AreTokensOf, StopsAt}
use Rattle.v_lexer.specs.Tokens.{TokensOrFault, tokens_of}
use Rattle.v_lexer.proofs.Agreement.{reads_only, stops_only}
use Rattle.v_tree.specs.declared.modules.Description.{Description}
use Rattle.v_parser.specs.declared.fault.ParseFault.{ParseFault}
use Rattle.v_parser.specs.declared.fault.ParseFault.TheVariants.{Unsupported, Syntax, Memory}
use Rattle.v_parser.specs.Input.{Outcome}
use Rattle.v_parser.specs.Reading.{descriptions_of, IsRefusalOf}
use Rattle.v_parser.proofs.Laws.{read_found, read_only, refused_found}
use Rattle.cfsim.specs.Answer.{netlist_limit, netlist_of_file}
use Rattle.cfsim.specs.Netlists.{refusal_of_parser, line_of, netlist_of_descriptions, netlist_of_parser, netlist_of_lexer, netlist_of_text, fault_of, AreSpelled, IsRefusedAtToken}
use Rattle.cfsim.specs.declared.refusal.Refusal.{Refusal}
use Rattle.cfsim.specs.declared.refusal.Refusal.TheVariants.{Faulty}

-- a text that isn't too long gives what reading gives
within : (text : List ℕ) → length text ≤ netlist_limit → netlist_of_file (Some text) ≡ netlist_of_text text
within text small =
    elim (cases_Bool (ltb netlist_limit (length text))) [
      | inl e ↦ absurd (omega (arith, ltb-true netlist_limit (length text) e))
      | inr e ↦ rw e refl
    ]

pub lexed : (text : List ℕ) (answer : TokensOrFault) → tokens_of text ≡ answer → netlist_of_text text ≡ netlist_of_lexer text answer
unfolding netlist_of_text
lexed text answer is = ap (netlist_of_lexer text) is

pub read : (text : List ℕ) (tokens : List Token) (outcome : Outcome (List Description)) → descriptions_of text tokens ≡ outcome → netlist_of_lexer text (Ok tokens) ≡ netlist_of_parser tokens outcome
read text tokens outcome is = ap (netlist_of_parser tokens) is

-- a text with a lexical fault is refused at its first one
pub lexical_fault : (text : List ℕ) (which : FaultKind) (line : ℕ) → length text ≤ netlist_limit → StopsAt text which line → netlist_of_file (Some text) ≡ Err (Faulty (fault_of which) line)
lexical_fault text which line small stops =
    within text small ∙ lexed text (Err (lex.Faulty which line)) (stops_only text which line stops)

-- a text whose tokens spell modules and primitives gives what these mean
pub tree : (text : List ℕ) (tokens : List Token) (ds : List Description) → length text ≤ netlist_limit → AreTokensOf text tokens → AreSpelled text tokens ds → netlist_of_file (Some text) ≡ netlist_of_descriptions ds
tree text tokens ds small are spelled =
    let found = read_only text tokens ds small are spelled.written spelled.fit in
    within text small ∙ lexed text (Ok tokens) (reads_only text tokens are) ∙ read text tokens (Ok (ds, found.0)) found.1

-- the line of a token that is there
line_is : (tokens : List Token) (n : ℕ) (token : Token) → slice_get tokens n ≡ Some token → line_of tokens n ≡ token.line
line_is tokens n token at = ap (λ (o : Option Token). option_map_or (λ (t : Token). t.line) o 0) at

-- a refused token is one of the list
refused_at : (text : List ℕ) (tokens : List Token) (e : ParseFault) (result : Result Netlist Refusal) → (e ≡ Memory → ⊥) → IsRefusalOf text tokens e → result ≡ Err (refusal_of_parser tokens e) → IsRefusedAtToken text tokens result
refused_at text tokens (Syntax n) result other is at =
    (n, is.0, is.1, at ∙ rw (line_is tokens n is.0 is.1, is.2) refl)
refused_at text tokens (Unsupported n) result other is at =
    (n, is.0, is.1, at ∙ rw (line_is tokens n is.0 is.1, is.2) refl)
refused_at text tokens Memory result other is at = absurd (other refl)

-- what reading gives, where no modules and primitives are spelled
unread : (text : List ℕ) (tokens : List Token) (outcome : Outcome (List Description)) → length text ≤ netlist_limit → AreTokensOf text tokens → ((ds : List Description) → AreSpelled text tokens ds → ⊥)
    → descriptions_of text tokens ≡ outcome → netlist_of_file (Some text) ≡ netlist_of_parser tokens outcome → IsRefusedAtToken text tokens (netlist_of_file (Some text))
unread text tokens (Ok p) small are none is at =
    let found = read_found text tokens p.0 p.1 small are is in
    absurd (none p.0 (record { written = found.0; fit = found.1 }))
unread text tokens (Err e) small are none is at =
    let refused = refused_found text tokens e are is in
    refused_at text tokens e (netlist_of_file (Some text)) refused.0 refused.1 at

-- a text whose tokens spell none is refused at the line of one of them
pub bad_token : (text : List ℕ) (tokens : List Token) → length text ≤ netlist_limit → AreTokensOf text tokens → ((ds : List Description) → AreSpelled text tokens ds → ⊥) → IsRefusedAtToken text tokens (netlist_of_file (Some text))
bad_token text tokens small are none =
    let at : netlist_of_file (Some text) ≡ netlist_of_parser tokens (descriptions_of text tokens) = within text small ∙ lexed text (Ok tokens) (reads_only text tokens are) in
    unread text tokens (descriptions_of text tokens) small are none refl at
