use Rattle.module_graph.specs.Reach.{is_udp_reached}
use Rattle.module_graph.proofs.MarkLaws.{marks_of_hits}
use Rattle.module_graph.proofs.udps.reached_udps.Goals as goal

pub returns : goal.returns
returns c = marks_of_hits (is_udp_reached c.args.references.now c.args.reached.now) c.args.count c.in_ok-marks.marks c.mark_all.new.marks c.in_ok-marks.ensures c.mark_all.ensures
