use Rattle.std.proofs.Common.{arith, length, ◌+◌, ◌≤◌}
use Rattle.v_parser.specs.Reading.{descriptions_of, GivesLists}
use Rattle.v_parser.proofs.Source.{tokens_few}
use Rattle.v_parser.proofs.Whole.{gives_of, fit_of, refused_of}
use Rattle.v_parser.proofs.parsing.read_lists.Goals as goal

pub new-cursor-requires : goal.new-cursor-requires
new-cursor-requires c =
    let few : length c.args.tokens.now ≤ length c.args.text.now + 1 = tokens_few c.args.text.now c.args.tokens.now c.requires.tokens in
    omega (arith, few, c.requires.small)

gives : (c : goal.After-descriptions) → GivesLists (descriptions_of c.args.text.now c.args.tokens.now) c.descriptions.result
gives c = gives_of c.args.text.now c.args.tokens.now c.new-cursor.result c.descriptions.new.cursor c.descriptions.result c.new-cursor.ensures c.descriptions.ensures

pub returns-clause-exact : goal.returns-clause-exact
returns-clause-exact c = gives c

pub returns-clause-fit : goal.returns-clause-fit
returns-clause-fit c = fit_of c.args.text.now c.args.tokens.now c.descriptions.result c.requires.small c.requires.tokens (gives c)

pub returns-clause-refused : goal.returns-clause-refused
returns-clause-refused c = refused_of c.args.text.now c.args.tokens.now c.descriptions.result c.requires.tokens (gives c)
