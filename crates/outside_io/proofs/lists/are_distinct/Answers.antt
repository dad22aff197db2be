-- One more file was compared with all later ones.
use Rattle.std.proofs.Common.{◌+◌, ◌-◌, take, drop, length, arith}
use Rattle.std.proofs.lemmas.Grind.{common_steps}
use Rattle.outside_io.proofs.Distinct.{same_name, distinct_more}
use Rattle.outside_io.proofs.lists.are_distinct.Goals as goal

pub returns-then-has_name : goal.returns-then-has_name
returns-then-has_name c =
    let files = c.args.files.now in
    let i = c.loop-i.i in
    let found = c.has_name.ensures.0 c.if-has_name.true in
    (λ e. absurd (cc), λ distinct. absurd (same_name files (take (length files - (i + 1)) (drop (i + 1) files)) i c.index-files-i.result c.as_slice.result.now (omega arith) c.index-files-i.is c.as_slice.ensures (grind (arith, common_steps)) found distinct))

pub loop-i-preserved : goal.loop-i-preserved
loop-i-preserved c =
    let files = c.args.files.now in
    let i = c.loop-i.i in
    distinct_more files (take (length files - (i + 1)) (drop (i + 1) files)) i c.index-files-i.result c.as_slice.result.now (omega arith) c.index-files-i.is c.as_slice.ensures (grind (arith, common_steps)) (λ found. let e = c.has_name.ensures.1 found in cc) c.loop-i.invariant
