use Rattle.std.proofs.Common.{◌≡◌, ◌<◌, ap, sym, subst, ◌∙◌, length, map, ℕ, Bool}
use Rattle.std.proofs.lemmas.List.Elements.{All-same}
use Rattle.std.specs.List.{All}
use Rattle.std.specs.Option.{is_some}
use Rattle.module_scope.specs.declared.mentions.Occurrence.{Occurrence}
use Rattle.module_scope.specs.Occurrences.{occurrences_places}
use Rattle.module_scope.specs.Summaries.{summaries_of, summary_net}
use Rattle.module_scope.proofs.Summing.{length-summaries_of}
use Rattle.module_scope.proofs.Placing.{scope_same}
use Rattle.module_scope.proofs.scopes.scope_with.Goals as goal

pub first_places-requires-clause-all : goal.first_places-requires-clause-all
first_places-requires-clause-all c =
    let told = c.into_parts-names.result.1.items in
    let is : c.as_slice-3.result.now ≡ summaries_of c.len.result told =
    c.as_slice-3.ensures.value ∙ c.in_ok-all.ensures ∙ ap (summaries_of c.len.result) c.as_slice.ensures.value in
    let count : c.len.result ≡ length c.as_slice-3.result.now = sym (ap length is ∙ length-summaries_of c.len.result told) in
    is ∙ ap (λ (n : ℕ). summaries_of n told) count ∙ ap (summaries_of (length c.as_slice-3.result.now)) (sym c.as_slice-4.ensures.value)

pub first_places-requires-clause-within : goal.first_places-requires-clause-within
first_places-requires-clause-within c =
    let told = c.into_parts-names.result.1.items in
    let is : c.as_slice-3.result.now ≡ summaries_of c.len.result told =
    c.as_slice-3.ensures.value ∙ c.in_ok-all.ensures ∙ ap (summaries_of c.len.result) c.as_slice.ensures.value in
    let count : length c.into_parts-names.result.0 ≡ length c.as_slice-3.result.now =
    sym c.len.ensures.len ∙ sym (ap length is ∙ length-summaries_of c.len.result told) in
    let P = λ (n : ℕ). All (λ (o : Occurrence). o.name < n) c.as_slice-4.result.now in
    subst P count (All-same (λ (o : Occurrence). o.name < length c.into_parts-names.result.0) c.as_slice-4.result.now told c.as_slice-4.ensures.value c.into_parts-names.ensures.names.within)

pub returns : goal.returns
returns c =
    let names = c.into_parts-names.result.0 in
    let told = c.into_parts-names.result.1.items in
    let nets : c.from_vec.result ≡ map (summary_net c.args.default) (summaries_of (length names) told) =
    c.from_vec.ensures ∙ c.in_ok-nets.ensures
    ∙ ap (map (summary_net c.args.default)) (c.as_slice-2.ensures.value ∙ c.in_ok-all.ensures ∙ ap (summaries_of c.len.result) c.as_slice.ensures.value ∙ ap (λ (n : ℕ). summaries_of n told) c.len.ensures.len) in
    let places : c.in_ok-places.places ≡ occurrences_places (is_some c.args.default) told =
    c.in_ok-places.ensures ∙ ap (occurrences_places c.is_some-makes.result) c.as_slice-4.ensures.value
    ∙ ap (λ (makes : Bool). occurrences_places makes told) c.is_some-makes.ensures in
    scope_same c.args.default names told c.args.mentions c.from_vec.result c.in_ok-places.places c.len.ensures.distinct c.into_parts-names.ensures.names c.into_parts-names.ensures.mentions nets places
