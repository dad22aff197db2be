use Rattle.std.proofs.Common.{◌<◌, length, ℕ, List, refl, subst, ◌∙◌, arith}
use Rattle.std.proofs.lemmas.List.{get_or_default, take_all}
use Rattle.net_groups.specs.Joins.{AreGroups}
use Rattle.net_groups.specs.Forests.{JoinsAlike}
use Rattle.net_groups.proofs.Joining.{JoinsAlike-none, JoinsAlike-more, JoinsAlike-regrouped, AreGroups-flat}
use Rattle.net_groups.proofs.groups.join_pairs.Goals as goal

pub loop-pair-init : goal.loop-pair-init
loop-pair-init c = record { all = refl; alike = JoinsAlike-none c.args.parents.now c.requires.single }

pub loop-pair-preserved : goal.loop-pair-preserved
loop-pair-preserved c =
    let i = c.loop-pair.invariant in
    let within : c.loop-pair.pair-index < length c.args.pairs.now = omega arith in
    record {
      all = c.unite.ensures.same_length ∙ i.all;
      alike = JoinsAlike-more c.args.pairs.now c.loop-pair.pair-index _ _ _ _ within
          (get_or_default c.args.pairs.now c.loop-pair.pair-index _ (0, 0) within) i.alike c.unite.ensures;
    }

pub returns : goal.returns
returns c =
    let i = c.loop-pair.invariant in
    let whole : JoinsAlike c.args.pairs.now c.loop-pair.parents
    = subst (λ (xs : List (ℕ × ℕ)). JoinsAlike xs c.loop-pair.parents) (take_all c.loop-pair.pair-index c.args.pairs.now (omega arith)) i.alike in
    let alike = JoinsAlike-regrouped c.args.pairs.now c.loop-pair.parents c.flatten.new.parents whole c.flatten.ensures.regrouped c.flatten.ensures.forest in
    subst (λ (n : ℕ). AreGroups n c.args.pairs.now c.flatten.new.parents) (c.flatten.ensures.regrouped.same_length ∙ i.all)
    (AreGroups-flat c.args.pairs.now c.flatten.new.parents alike c.flatten.ensures.flat)
