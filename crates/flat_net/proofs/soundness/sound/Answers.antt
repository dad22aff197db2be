use Rattle.std.proofs.Common.{◌≡◌, Bool, sym, ◌∙◌}
use Rattle.std.specs.Bool.{Decides}
use Rattle.std.proofs.lemmas.Bool.Decides.{Decides-at}
use Rattle.flat_net.specs.Soundness.{AreCells, AreJoined, IsSound}
use Rattle.flat_net.specs.Tests.{are_cells, are_complete}
use Rattle.flat_net.proofs.SoundnessDecisions.{Decides-are_cells, Decides-sound, Decides-refused, if_ok_into}
use Rattle.flat_net.proofs.soundness.sound.Goals as goal

pub returns-then-not-are_cells : goal.returns-then-not-are_cells
returns-then-not-are_cells c =
    Decides-refused (are_cells c.args.parts.now) (Decides-are_cells c.args.parts.now) (sym c.are_cells.ensures ∙ c.if-not-are_cells.true) (λ (s : IsSound c.args.parts.now). s.cells)

pub are_joined-requires : goal.are_joined-requires
are_joined-requires c = (Decides-are_cells c.args.parts.now).0 (sym c.are_cells.ensures ∙ c.if-not-are_cells.false)

pub returns-then-not-branch : goal.returns-then-not-branch
returns-then-not-branch c = Decides-refused c.in_ok-are_joined.field-0 c.in_ok-are_joined.ensures c.if-not-branch.true (λ (s : IsSound c.args.parts.now). s.joined)

pub returns : goal.returns
returns c =
    let cells : AreCells c.args.parts.now = (Decides-are_cells c.args.parts.now).0 (sym c.are_cells.ensures ∙ c.if-not-are_cells.false) in
    let joined : AreJoined c.args.parts.now = c.in_ok-are_joined.ensures.0 c.if-not-branch.false in
    if_ok_into (λ (complete : Bool). complete ≡ are_complete c.args.parts.now) (λ (complete : Bool). Decides complete (IsSound c.args.parts.now))
    (λ complete e. Decides-at complete (are_complete c.args.parts.now) e (Decides-sound c.args.parts.now cells joined)) c.are_complete.result c.are_complete.ensures
