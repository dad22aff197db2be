use Rattle.std.proofs.Common.{rules, ◌≡◌, ◌≢◌, Err}
use Rattle.v_parser.specs.declared.fault.ParseFault.TheVariants.{Memory}
use Rattle.v_parser.specs.Input.{many, is_finish, finish}
use Rattle.v_parser.specs.Descriptions.{description, descriptions}
use Rattle.v_parser.proofs.Sorting.{sort_finish, many_refused, finish_refused, handed_on}
use Rattle.v_parser.proofs.descriptions.descriptions.Goals as goal

pub returns : goal.returns
returns c = sort_finish c.args.cursor.now c.sort_descriptions.new.cursor c.finish.new.self c.in_ok-lists.lists.0 c.in_ok-lists.lists.1 c.in_ok-lists.lists.2 c.in_ok-lists.ensures c.in_ok-finish.ensures

pub returns-in_err-lists : goal.returns-in_err-lists
returns-in_err-lists c =
    let refused : c.in_err-lists.field-0.0 ≢ Memory → many is_finish description c.args.cursor.now ≡ Err c.in_err-lists.field-0.0 = c.in_err-lists.ensures in
    let same : c.from_residual.result ≡ Err c.in_err-lists.field-0.0 = search rules in
    handed_on (descriptions c.args.cursor.now) c.from_residual.result c.in_err-lists.field-0.0 c.sort_descriptions.new.cursor same (λ other. many_refused c.args.cursor.now c.in_err-lists.field-0.0 (refused other))

pub returns-in_err-finish : goal.returns-in_err-finish
returns-in_err-finish c =
    let refused : c.in_err-finish.field-0.0 ≢ Memory → finish c.sort_descriptions.new.cursor ≡ Err c.in_err-finish.field-0.0 = c.in_err-finish.ensures in
    let same : c.from_residual-in_err-finish.result ≡ Err c.in_err-finish.field-0.0 = search rules in
    handed_on (descriptions c.args.cursor.now) c.from_residual-in_err-finish.result c.in_err-finish.field-0.0 c.finish.new.self same
    (λ other. finish_refused c.args.cursor.now c.sort_descriptions.new.cursor c.in_ok-lists.lists.0 c.in_ok-lists.lists.1 c.in_ok-lists.lists.2 c.in_err-finish.field-0.0 c.in_ok-lists.ensures (refused other))
