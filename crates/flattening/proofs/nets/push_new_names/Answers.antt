use Rattle.flattening.specs.Spelled.{new_name}
use Rattle.flattening.proofs.Ranges.{all_more}
use Rattle.flattening.proofs.nets.push_new_names.Goals as goal

pub loop-place-preserved : goal.loop-place-preserved
loop-place-preserved c =
    all_more (new_name c.args.at.now c.args.net.now) c.args.names.now.items c.loop-place.names.items c.push_new_name.new.names.items c.loop-place.place
    c.loop-place.invariant c.in_ok-push_new_name.ensures
