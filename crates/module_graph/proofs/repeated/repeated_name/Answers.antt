use Rattle.std.proofs.Common.{◌≡◌, ◌++◌, List, Option, ap, ◌∙◌, sym, map}
use Rattle.v_tree.specs.declared.locations.Location.{Location}
use Rattle.v_tree.specs.declared.locations.Name.{Name}
use Rattle.v_tree.specs.declared.modules.Module.{Module}
use Rattle.v_tree.specs.declared.primitives.UdpDecl.{UdpDecl}
use Rattle.rule_places.specs.Places.{earliest, first_place, places_where}
use Rattle.rule_places.proofs.PlaceLaws.{first_place-append}
use Rattle.rule_places.proofs.PlaceSteps.{places_where-append, places_where-map}
use Rattle.module_graph.specs.Names.{described_names, has_earlier, repeated_names}
use Rattle.module_graph.proofs.repeated.repeated_name.Goals as goal

-- the names of modules and those of primitives, one after the other
both_kinds : (names : List Name) (modules : List Module) (udps : List UdpDecl) →
    first_place (places_where (has_earlier names) (λ name. name.location) (described_names modules udps))
    ≡ earliest (first_place (places_where (λ m. has_earlier names m.name) (λ m. m.name.location) modules))
    (first_place (places_where (λ u. has_earlier names u.name) (λ u. u.name.location) udps))
both_kinds names modules udps =
    ap first_place (places_where-append (has_earlier names) (λ (name : Name). name.location) (map (λ (m : Module). m.name) modules) (map (λ (u : UdpDecl). u.name) udps)
    ∙ ap (λ (front : List Location). front ++ places_where (has_earlier names) (λ (name : Name). name.location) (map (λ (u : UdpDecl). u.name) udps))
    (places_where-map (has_earlier names) (λ (name : Name). name.location) (λ (m : Module). m.name) modules)
    ∙ ap (λ (rest : List Location). places_where (λ (m : Module). has_earlier names m.name) (λ (m : Module). m.name.location) modules ++ rest)
    (places_where-map (has_earlier names) (λ (name : Name). name.location) (λ (u : UdpDecl). u.name) udps))
    ∙ first_place-append (places_where (λ (m : Module). has_earlier names m.name) (λ (m : Module). m.name.location) modules)
    (places_where (λ (u : UdpDecl). has_earlier names u.name) (λ (u : UdpDecl). u.name.location) udps)

pub returns : goal.returns
returns c =
    let modules = c.as_slice-modules.result.now in
    let udps = c.as_slice-udps.result.now in
    let names = described_names modules udps in
    let of_modules = first_place (places_where (λ (m : Module). has_earlier names m.name) (λ (m : Module). m.name.location) modules) in
    c.earliest.ensures
    ∙ ap (λ (place : Option Location). earliest place c.repeated_udp.result) (c.repeated_module.ensures names c.in_ok-table.ensures)
    ∙ ap (λ (place : Option Location). earliest of_modules place) (c.repeated_udp.ensures names c.in_ok-table.ensures)
    ∙ sym (both_kinds names modules udps)
    ∙ ap (λ (ms : List Module). first_place (repeated_names ms udps)) c.as_slice-modules.ensures
    ∙ ap (λ (us : List UdpDecl). first_place (repeated_names c.args.modules.now us)) c.as_slice-udps.ensures
