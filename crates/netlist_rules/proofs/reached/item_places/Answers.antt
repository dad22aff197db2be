use Rattle.std.proofs.Common.{◌≡◌, ℕ, ◌+◌, ◌<◌, Bool, true, false, List, length, get_or, drop, ap, sym, ◌∙◌, arith}
use Rattle.v_tree.specs.declared.modules.Module.{Module}
use Rattle.module_graph.specs.Graph.{Graph}
use Rattle.instance_rules.specs.declared.places.ItemPlaces.{ItemPlaces}
use Rattle.instance_rules.specs.Walks.{earliest_places, no_places}
use Rattle.netlist_rules.specs.Walks.{first_in, with_modules}
use Rattle.netlist_rules.proofs.ItemLaws.{first_at, with_modules-reached_one, with_modules-passed_one, with_modules-end, with_modules-reached}
use Rattle.netlist_rules.proofs.reached.item_places.Goals as goal

pub loop-i-preserved-then-not-reached-i : goal.loop-i-preserved-then-not-reached-i
loop-i-preserved-then-not-reached-i c =
    let reached = c.as_slice-reached.result.now in
    let modules = c.as_slice-modules.result.now in
    let as_many : length reached ≡ length modules = ap length c.as_slice-reached.ensures ∙ c.requires.reached ∙ sym (ap length c.as_slice-modules.ensures) in
    let off : get_or reached c.loop-i.i false ≡ false = grind (arith, c.if-not-reached-i.true) in
    sym (with_modules-passed_one c.args.file.now c.loop-i.places reached modules c.loop-i.i (omega (arith, as_many, c.loop-i-test.true)) c.loop-i-test.true off)
    ∙ c.loop-i.invariant

pub loop-i-preserved : goal.loop-i-preserved
loop-i-preserved c =
    let file = c.args.file.now in
    let reached = c.as_slice-reached.result.now in
    let modules = c.as_slice-modules.result.now in
    let i = c.loop-i.i in
    let m = c.index-modules-i.result in
    let as_many : length reached ≡ length modules = ap length c.as_slice-reached.ensures ∙ c.requires.reached ∙ sym (ap length c.as_slice-modules.ensures) in
    let same_modules : length modules ≡ length file.modules = ap length c.as_slice-modules.ensures in
    let on : get_or reached i false ≡ true = grind (arith, c.if-not-reached-i.false) in
    let more : c.in_ok-more.more ≡ first_in file m =
    first_at file c.as_slice-parts.result.now c.references-references.result.now c.args.tables.now c.args.counts.now i m c.index-parts-i.result c.index-references-i.result c.in_ok-more.more
    (omega (arith, same_modules, c.loop-i-test.true)) (c.index-modules-i.is ∙ ap (λ (ms : List Module). get_or ms i m) c.as_slice-modules.ensures)
    c.index-parts-i.is c.index-references-i.is (c.as_slice-parts.ensures ∙ c.requires.scopes) (c.references-references.ensures ∙ ap (λ (g : Graph). g.references) c.requires.graph)
    c.requires.tables c.requires.counts (λ of are. c.in_ok-more.ensures of (c.as_slice-list.ensures ∙ are)) in
    ap (λ (p : ItemPlaces). with_modules file p (drop (i + 1) reached) (drop (i + 1) modules)) (c.earliest_places-places.ensures ∙ ap (λ (p : ItemPlaces). earliest_places c.loop-i.places p) more)
    ∙ sym (with_modules-reached_one file c.loop-i.places reached modules i m (omega (arith, as_many, c.loop-i-test.true)) c.loop-i-test.true on (sym c.index-modules-i.is))
    ∙ c.loop-i.invariant

pub returns : goal.returns
returns c =
    let file = c.args.file.now in
    sym (with_modules-end file c.loop-i.places c.as_slice-reached.result.now c.as_slice-modules.result.now c.loop-i.i c.loop-i-test.false)
    ∙ c.loop-i.invariant
    ∙ ap (λ (bs : List Bool). with_modules file no_places bs c.as_slice-modules.result.now) c.as_slice-reached.ensures
    ∙ ap (λ (ms : List Module). with_modules file no_places c.args.scopes.now.reached ms) c.as_slice-modules.ensures
    ∙ with_modules-reached file c.args.scopes.now.reached
