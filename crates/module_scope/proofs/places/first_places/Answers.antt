use Rattle.std.proofs.Common.{◌≡◌, ◌<◌, ◌+◌, ap, sym, ◌∙◌, length, get_or, take, drop, Option}
use Rattle.v_tree.specs.declared.locations.Location.{Location}
use Rattle.rule_places.specs.Places.{earliest, first_place}
use Rattle.module_scope.specs.declared.roles.Role.TheVariants.{Header}
use Rattle.module_scope.specs.declared.mentions.Occurrence.{Occurrence}
use Rattle.module_scope.specs.Occurrences.{roles_at, occurrence_places}
use Rattle.module_scope.specs.Summaries.{summary_of}
use Rattle.module_scope.proofs.Summing.{summaries_of-more, summary_read}
use Rattle.module_scope.proofs.Placing.{place_of, places_all, places_seen, place_more, place_done}
use Rattle.module_scope.proofs.places.first_places.Goals as goal

abbrev none : Occurrence
none = record { name = 0; location = record { line = 0; token = 0 }; role = Header }

pub loop-occurrence-preserved : goal.loop-occurrence-preserved
loop-occurrence-preserved c =
    let i = c.loop-occurrence.occurrence-index in
    let all = c.args.occurrences.now in
    let o = get_or all i none in
    let count = length c.args.all.now in
    let lt = c.loop-occurrence-test.true in
    let within : o.name < count = c.requires.within i none lt in
    let seen_is : c.index.result.now ≡ summary_of (roles_at o.name (take i all)) =
    summary_read count (take i all) c.loop-occurrence.before.items o.name _ c.index.result.now within c.loop-occurrence.invariant.before c.index.ensures in
    record {
      before = summaries_of-more count i all none _ c.loop-occurrence.before.items c.index.result.now c.with_role.result lt within c.loop-occurrence.invariant.before c.index.ensures c.with_role.ensures;
      first = λ law.
          place_more law c.args.makes all i none (place_of law c.loop-occurrence.places) lt (c.loop-occurrence.invariant.first law)
          ∙ ap (λ (place : Option Location). earliest place (first_place (occurrence_places law c.args.makes all (take (i + 1) all) (drop (i + 1) all))))
          (sym (places_seen c.args.makes count all (take i all) o c.args.all.now _ c.index.result.now c.loop-occurrence.places c.places_more-places.result within c.requires.all seen_is c.places_more-places.ensures law));
    }

pub returns : goal.returns
returns c =
    places_all c.args.makes c.args.occurrences.now c.loop-occurrence.places
    (λ law. place_done law c.args.makes c.args.occurrences.now c.loop-occurrence.occurrence-index (place_of law c.loop-occurrence.places) c.loop-occurrence-test.false (c.loop-occurrence.invariant.first law))
