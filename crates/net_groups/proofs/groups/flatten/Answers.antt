use Rattle.std.proofs.Common.{◌<◌, length, arith}
use Rattle.net_groups.proofs.Halving.{IsForest-halved, IsRegrouped-halved, IsRegrouped-same, IsRegrouped-on}
use Rattle.net_groups.proofs.Flattening.{flat-more}
use Rattle.net_groups.proofs.groups.flatten.Goals as goal

pub loop-net-init : goal.loop-net-init
loop-net-init c = record {
  forest = c.requires;
  regrouped = IsRegrouped-same c.args.parents.now;
  flat = λ net lt. absurd (omega arith);
}

pub loop-net-preserved : goal.loop-net-preserved
loop-net-preserved c =
    let i = c.loop-net.invariant in
    let within : c.loop-net.net < length c.loop-net.parents = omega arith in
    record {
      forest = IsForest-halved c.loop-net.parents c.loop-net.net i.forest within;
      regrouped = IsRegrouped-on _ _ _ i.regrouped (IsRegrouped-halved c.loop-net.parents c.loop-net.net i.forest within);
      flat = flat-more c.loop-net.parents c.loop-net.net i.forest within i.flat;
    }
