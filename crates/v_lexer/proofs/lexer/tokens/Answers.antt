use Rattle.std.proofs.Common.{ℕ, List, subst}
use Rattle.v_lexer.specs.declared.token.Token.{Token}
use Rattle.v_lexer.specs.declared.fault.FaultKind.{FaultKind}
use Rattle.v_lexer.specs.Tokens.{TokensOrFault, Gives}
use Rattle.v_lexer.specs.Reading.{AreTokensOf, StopsAt}
use Rattle.v_lexer.proofs.Agreement.{reads_only, stops_only, rising_ok}
use Rattle.v_lexer.proofs.Found.{found_ok, fault_ok}
use Rattle.v_lexer.proofs.Sound.{sound_ok}
use Rattle.v_lexer.proofs.Reach.{reaches_longest}
use Rattle.v_lexer.proofs.lexer.tokens.Goals as goal

pub returns-clause-found : goal.returns-clause-found
returns-clause-found c = found_ok c.args.text.now c.read_tokens.result c.read_tokens.ensures

pub returns-clause-only : goal.returns-clause-only
returns-clause-only c = λ (tokens : List Token) (are : AreTokensOf c.args.text.now tokens).
    subst (λ (lexed : TokensOrFault). Gives (λ (ts : List Token). ts) c.read_tokens.result lexed) (reads_only c.args.text.now tokens are) c.read_tokens.ensures

pub returns-clause-rising : goal.returns-clause-rising
returns-clause-rising c = rising_ok c.args.text.now c.read_tokens.result (found_ok c.args.text.now c.read_tokens.result c.read_tokens.ensures)

pub returns-clause-sound : goal.returns-clause-sound
returns-clause-sound c = sound_ok c.args.text.now c.read_tokens.result (found_ok c.args.text.now c.read_tokens.result c.read_tokens.ensures)

pub returns-clause-longest : goal.returns-clause-longest
returns-clause-longest c = reaches_longest c.args.text.now

pub returns-clause-fault : goal.returns-clause-fault
returns-clause-fault c = fault_ok c.args.text.now c.read_tokens.result c.read_tokens.ensures

pub returns-clause-fault_only : goal.returns-clause-fault_only
returns-clause-fault_only c = λ (wrong : FaultKind) (line : ℕ) (stops : StopsAt c.args.text.now wrong line).
    subst (λ (lexed : TokensOrFault). Gives (λ (ts : List Token). ts) c.read_tokens.result lexed) (stops_only c.args.text.now wrong line stops) c.read_tokens.ensures
