use Rattle.std.proofs.Common.{ℕ, Option, take, ap, sym, ◌∙◌}
use Rattle.v_tree.specs.declared.locations.Location.{Location}
use Rattle.rule_places.specs.Places.{earliest, first_place}
use Rattle.flat_assembly.specs.Assembly.{classes}
use Rattle.flat_assembly.specs.Wired.{wired_places}
use Rattle.netlist_assembly.proofs.WiredSteps.{first-more}
use Rattle.netlist_assembly.proofs.wired.first_wired.Goals as goal

-- what the loop reads past the end
abbrev none : ℕ × Location
none = (0, record { line = 0; token = 0 })

pub loop-net-preserved : goal.loop-net-preserved
loop-net-preserved c =
    let nets = classes c.args.claims.now in
    let terminals = c.args.terminals.now in
    let i = c.loop-net.net-index in
    c.earliest-first.ensures
    ∙ ap (λ (first : Option Location). earliest first c.wired_place.result) c.loop-net.invariant
    ∙ ap (λ (place : Option Location). earliest (first_place (wired_places nets (take i terminals))) place) c.wired_place.ensures
    ∙ sym (first-more nets terminals i none c.loop-net-test.true)
