use Rattle.std.proofs.Common.{length, rules, arith}
use Rattle.std.proofs.lemmas.List.{take_all}
use Rattle.outside_io.specs.Outside.{Gains}
use Rattle.cfsim.proofs.respond.deliver.Goals as goal

pub returns-then-is_err-2-clause-out_prefix : goal.returns-then-is_err-2-clause-out_prefix
returns-then-is_err-2-clause-out_prefix g c _ _ =
    let whole : Gains (g.O.Sink.written c.args.out.now) (g.O.Sink.written c.write_whole.new.sink) c.args.out_text.now = search rules in
    (length c.args.out_text.now, rw (take_all (length c.args.out_text.now) c.args.out_text.now (omega arith)) whole)
