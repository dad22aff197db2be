use Rattle.std.proofs.Common.{◌<◌, ◌≤◌, length, get_or, arith}
use Rattle.net_groups.specs.Joins.Walk.{Stay}
use Rattle.net_groups.proofs.Walks.{walk_on, walk_into}
use Rattle.net_groups.proofs.Halving.{IsForest-halved, IsRegrouped-halved, KeepsRoots-halved, IsRegrouped-same, IsRegrouped-on, KeepsRoots-on, walk_halved}
use Rattle.net_groups.proofs.forest.find_root.Goals as goal

pub loop-parents-init : goal.loop-parents-init
loop-parents-init c = record {
  within = c.requires.within;
  forest = c.requires.forest;
  regrouped = IsRegrouped-same c.args.parents.now;
  roots = λ net l e. e;
  above = Stay;
}

pub loop-parents-preserved : goal.loop-parents-preserved
loop-parents-preserved c =
    let i = c.loop-parents.invariant in
    let halving = IsRegrouped-halved c.loop-parents.parents c.loop-parents.at i.forest i.within in
    let above = walk_halved c.loop-parents.parents c.loop-parents.at i.forest i.within in
    let near : get_or c.loop-parents.parents c.loop-parents.at 0 ≤ c.loop-parents.at = i.forest c.loop-parents.at i.within in
    let first : get_or c.loop-parents.parents c.loop-parents.at 0 < length c.loop-parents.parents = omega arith in
    let next : get_or c.loop-parents.parents (get_or c.loop-parents.parents c.loop-parents.at 0) 0 ≤ get_or c.loop-parents.parents c.loop-parents.at 0 = i.forest _ first in
    let lower : get_or c.loop-parents.parents (get_or c.loop-parents.parents c.loop-parents.at 0) 0 < length c.loop-parents.parents = omega arith in
    record {
      within = omega (arith, halving.same_length);
      forest = IsForest-halved c.loop-parents.parents c.loop-parents.at i.forest i.within;
      regrouped = IsRegrouped-on _ _ _ i.regrouped halving;
      roots = KeepsRoots-on _ _ _ i.regrouped.same_length i.roots (KeepsRoots-halved c.loop-parents.parents c.loop-parents.at i.forest i.within);
      above = walk_on i.above (walk_into i.regrouped.from_new above);
    }

pub returns-clause-above : goal.returns-clause-above
returns-clause-above c = walk_into c.loop-parents.invariant.regrouped.from_old c.loop-parents.invariant.above
