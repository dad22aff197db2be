use Rattle.std.proofs.Common.{◌≡◌, length, take, drop}
use Rattle.rule_places.specs.Places.{earliest, first_place}
use Rattle.module_scope.specs.declared.rules.NameRule.{NameRule}
use Rattle.module_scope.specs.Occurrences.{occurrence_place, occurrence_places}
use Rattle.module_scope.specs.Summaries.{summaries_of}
use Rattle.module_scope.proofs.Placing.{place_of}
use Rattle.module_scope.proofs.places.first_places.Given as goal

-- the summaries are those of the occurrences so far, and the first place of each rule is that so far or the first of the rest
abbrev pub invariant-loop-occurrence : goal.invariant-loop-occurrence
invariant-loop-occurrence l = record {
  before : l.before.items ≡ summaries_of (length l.all) (take l.occurrence-index l.occurrences);
  first : (law : NameRule) → occurrence_place law l.makes l.occurrences ≡ earliest (place_of law l.places) (first_place (occurrence_places law l.makes l.occurrences (take l.occurrence-index l.occurrences) (drop l.occurrence-index l.occurrences)));
}
