use Rattle.std.proofs.Common.{rules, arith, List, length, ◌≡◌, ◌≢◌, ◌<◌, ◌-◌, true, false, Ok, Err}
use Rattle.v_parser.specs.Input.{Outcome, many, front, is_finish}
use Rattle.v_parser.specs.Descriptions.{description}
use Rattle.v_tree.specs.declared.modules.Description.{Description}
use Rattle.v_parser.specs.declared.fault.ParseFault.TheVariants.{Memory}
use Rattle.v_parser.proofs.Sorting.{sort_init, sort_step, sort_ended, sort_done, sort_refused, handed_on}
use Rattle.v_parser.proofs.descriptions.sort_descriptions.Goals as goal

pub loop-init : goal.loop-init
loop-init c = sort_init _ _ _ _ c.args.cursor.now (omega arith) c.new-modules.ensures.items c.new-udps.ensures.items c.new-directives.ensures.items

pub loop-preserved : goal.loop-preserved
loop-preserved c =
    let below : c.loop.counter < length c.args.cursor.now.tokens = omega arith in
    let goes : is_finish (front c.loop.cursor) ≡ false = search rules in
    let read : description c.loop.cursor ≡ Ok (c.in_ok-found.found, c.description.new.cursor) = search rules in
    sort_step (length c.args.cursor.now.tokens) c.loop.counter c.loop.modules.items c.put.new.modules.items c.loop.udps.items c.put.new.udps.items c.loop.directives.items c.put.new.directives.items c.loop.cursor c.description.new.cursor c.in_ok-found.found
    (many is_finish description c.args.cursor.now) below goes read c.in_ok-put.ensures.modules c.in_ok-put.ensures.udps c.in_ok-put.ensures.directives c.loop.invariant

pub returns-then-sees_finish : goal.returns-then-sees_finish
returns-then-sees_finish c =
    let ended : is_finish (front c.loop.cursor) ≡ true = search rules in
    rw (c.into_items.ensures, c.into_items-then-sees_finish.ensures, c.into_items-then-sees_finish-2.ensures) (sort_ended (length c.args.cursor.now.tokens - c.loop.counter) c.loop.modules.items c.loop.udps.items c.loop.directives.items c.loop.cursor (many is_finish description c.args.cursor.now) ended c.loop.invariant)

pub returns : goal.returns
returns c = rw (c.into_items-2.ensures, c.into_items-3.ensures, c.into_items-4.ensures) (sort_done (length c.args.cursor.now.tokens - c.loop.counter) c.loop.modules.items c.loop.udps.items c.loop.directives.items c.loop.cursor (many is_finish description c.args.cursor.now) (omega arith) c.loop.invariant)

pub returns-in_err-found : goal.returns-in_err-found
returns-in_err-found c =
    let all : Outcome (List Description) = many is_finish description c.args.cursor.now in
    let below : c.loop.counter < length c.args.cursor.now.tokens = omega arith in
    let goes : is_finish (front c.loop.cursor) ≡ false = search rules in
    let refused : c.in_err-found.field-0.0 ≢ Memory → description c.loop.cursor ≡ Err c.in_err-found.field-0.0 = c.in_err-found.ensures in
    let same : c.from_residual.result ≡ Err c.in_err-found.field-0.0 = search rules in
    handed_on all c.from_residual.result c.in_err-found.field-0.0 c.description.new.cursor same
    (λ other. sort_refused (length c.args.cursor.now.tokens) c.loop.counter c.loop.modules.items c.loop.udps.items c.loop.directives.items c.loop.cursor c.in_err-found.field-0.0 all below goes (refused other) c.loop.invariant)
