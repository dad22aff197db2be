-- The places of mentions, by the indices of their names.
use Rattle.std.proofs.Common.{◌≡◌, ℕ, zero, suc, ◌+◌, ◌<◌, ◌≤◌, Bool, true, false, cond, not, ◌&&◌, ◌||◌, List, [], ◌∷◌, ◌++◌, length, map, get_or, take, drop, eqb, Option, None, Some, refl, sym, ap, ◌∙◌, arith, inl, inr, drop-cons, add-one}
use Rattle.std.specs.List.{All, filter, find}
use Rattle.std.specs.Option.{is_some}
use Rattle.std.proofs.lemmas.Bool.{cases_eq, and_parts, not-true, both_ways, false_from_ne_true, eq-eqb, ne_eqb}
use Rattle.std.proofs.lemmas.List.{map-append, ext_get_or, get_or-map, length-map, take_more, drop_all}
use Rattle.std.proofs.lemmas.List.Elements.{All-head, All-tail, All-nil, All-push}
use Rattle.v_tree.specs.declared.locations.Location.{Location}
use Rattle.v_tree.specs.declared.declarations.NetType.{NetType}
use Rattle.v_tree.specs.declared.directives.ImplicitNetType.{ImplicitNetType}
use Rattle.rule_places.specs.Places.{earliest, first_place}
use Rattle.rule_places.proofs.PlaceLaws.{first_place-append, earliest_assoc, earliest_none}
use Rattle.name_table.specs.Names.{same_name, is_among, is_distinct}
use Rattle.module_scope.specs.declared.roles.Role.{Role}
use Rattle.module_scope.specs.declared.roles.Role.TheVariants as role
use Rattle.module_scope.specs.declared.roles.Count.{Count}
use Rattle.module_scope.specs.declared.roles.Count.TheVariants.{Zero, One, Several}
use Rattle.module_scope.specs.declared.mentions.Occurrence.{Occurrence}
use Rattle.module_scope.specs.declared.summaries.Summary.{Summary}
use Rattle.module_scope.specs.declared.rules.NameRule.{NameRule}
use Rattle.module_scope.specs.declared.rules.NameRule.TheVariants as rule
use Rattle.module_scope.specs.declared.nets.ScopeNet.{ScopeNet}
use Rattle.module_scope.specs.declared.scopes.Scope.{Scope}
use Rattle.module_scope.specs.declared.places.ScopePlaces.{ScopePlaces}
use Rattle.module_scope.specs.Mentions.{Mention, roles_of}
use Rattle.module_scope.specs.Roles.{is_zero, how_many, is_declaration, declares_net}
use Rattle.module_scope.specs.Rules.{breaks, is_pair, completes, repeats, has_implicit, makes_implicit, first_range, differs, differs_from}
use Rattle.module_scope.specs.Nets.{net_of, nets_of}
use Rattle.module_scope.specs.Places.{place_if, places_behind, rule_place, scope_places}
use Rattle.module_scope.specs.Scopes.{scope_with}
use Rattle.module_scope.specs.Occurrences.{mention_at, mentions_at, AreOccurrences, roles_at, occurrence_places, occurrence_place, occurrences_places}
use Rattle.module_scope.specs.Summaries.{port_form, form_in, form_completes, form_repeats, form_differs, summary_of, summaries_of, summary_breaks, summary_net, first_more, places_more}
use Rattle.module_scope.proofs.Naming.{same_name-true, eq-same_name}
use Rattle.module_scope.proofs.Summing.{length-summaries_of, get_or-summaries_of}

-- ---- a rule asks of the roles what their summary keeps

completes_form : (first : Option Role) (r : Role) → form_completes (form_in first) r ≡ completes first r
completes_form None r = refl
completes_form (Some role.Header) r = refl
completes_form (Some (role.Port port)) r = by port.net_type r
  where
    by : (t : Option NetType) (r : Role) → form_completes (port_form t) r ≡ is_pair (role.Port (record port { net_type = t })) r
    by None role.Header = refl
    by None (role.Port other) = refl
    by None (role.Net net) = refl
    by None role.Instance = refl
    by None (role.Use at select) = refl
    by (Some t) role.Header = refl
    by (Some t) (role.Port other) = refl
    by (Some t) (role.Net net) = refl
    by (Some t) role.Instance = refl
    by (Some t) (role.Use at select) = refl
completes_form (Some (role.Net net)) role.Header = refl
completes_form (Some (role.Net net)) (role.Port port) = refl
completes_form (Some (role.Net net)) (role.Net other) = refl
completes_form (Some (role.Net net)) role.Instance = refl
completes_form (Some (role.Net net)) (role.Use at select) = refl
completes_form (Some role.Instance) r = refl
completes_form (Some (role.Use at select)) r = refl

repeats_form : (count : Count) (first : Option Role) (r : Role) → form_repeats count (form_in first) r ≡ repeats count first r
repeats_form Zero first r = refl
repeats_form One first r = ap not (completes_form first r)
repeats_form Several first r = refl

differs_form : (first : Option Role) (r : Role) → form_differs (form_in first) (first_range first) r ≡ differs_from first r
differs_form None r = refl
differs_form (Some role.Header) r = refl
differs_form (Some (role.Port port)) r = by port.net_type r
  where
    by : (t : Option NetType) (r : Role) → form_differs (port_form t) port.range r ≡ differs (role.Port (record port { net_type = t })) r
    by None role.Header = refl
    by None (role.Port other) = refl
    by None (role.Net net) = refl
    by None role.Instance = refl
    by None (role.Use at select) = refl
    by (Some t) role.Header = refl
    by (Some t) (role.Port other) = refl
    by (Some t) (role.Net net) = refl
    by (Some t) role.Instance = refl
    by (Some t) (role.Use at select) = refl
differs_form (Some (role.Net net)) role.Header = refl
differs_form (Some (role.Net net)) (role.Port port) = refl
differs_form (Some (role.Net net)) (role.Net other) = refl
differs_form (Some (role.Net net)) role.Instance = refl
differs_form (Some (role.Net net)) (role.Use at select) = refl
differs_form (Some role.Instance) r = refl
differs_form (Some (role.Use at select)) r = refl

pub breaks_summary : (law : NameRule) (makes : Bool) (all before : List Role) (r : Role) → summary_breaks law makes (summary_of all) (summary_of before) r ≡ breaks law makes all before r
breaks_summary rule.Ports makes all before role.Header = refl
breaks_summary rule.Ports makes all before (role.Port port) = refl
breaks_summary rule.Ports makes all before (role.Net net) = refl
breaks_summary rule.Ports makes all before role.Instance = refl
breaks_summary rule.Ports makes all before (role.Use at select) = refl
breaks_summary rule.Repeated makes all before r =
    ap (λ (b : Bool). cond (is_declaration r) (has_implicit makes all before || b) (makes_implicit makes all before r && not (is_zero (how_many is_declaration before))))
    (repeats_form (how_many is_declaration before) (find is_declaration before) r)
breaks_summary rule.Undeclared makes all before role.Header = refl
breaks_summary rule.Undeclared makes all before (role.Port port) = refl
breaks_summary rule.Undeclared makes all before (role.Net net) = refl
breaks_summary rule.Undeclared makes all before role.Instance = refl
breaks_summary rule.Undeclared makes all before (role.Use at select) = refl
breaks_summary rule.Selects makes all before role.Header = refl
breaks_summary rule.Selects makes all before (role.Port port) = refl
breaks_summary rule.Selects makes all before (role.Net net) = refl
breaks_summary rule.Selects makes all before role.Instance = refl
breaks_summary rule.Selects makes all before (role.Use at None) = refl
breaks_summary rule.Selects makes all before (role.Use at (Some select)) = refl
breaks_summary rule.Ranges makes all before r = differs_form (find declares_net before) r
breaks_summary rule.Implicit makes all before role.Header = refl
breaks_summary rule.Implicit makes all before (role.Port port) = refl
breaks_summary rule.Implicit makes all before (role.Net net) = refl
breaks_summary rule.Implicit makes all before role.Instance = refl
breaks_summary rule.Implicit makes all before (role.Use at select) = refl

-- ---- the walk over occurrences

first_with : (broken : Bool) (first rest : Option Location) (location : Location) → earliest first (earliest (first_place (place_if broken location)) rest) ≡ earliest (first_more broken first location) rest
first_with true first rest location = sym (earliest_assoc first (Some location) rest)
first_with false first rest location = refl

pub place_more : (law : NameRule) (makes : Bool) (all : List Occurrence) (i : ℕ) (d : Occurrence) (first : Option Location) → i < length all →
    occurrence_place law makes all ≡ earliest first (first_place (occurrence_places law makes all (take i all) (drop i all))) →
    occurrence_place law makes all
    ≡ earliest (first_more (breaks law makes (roles_at (get_or all i d).name all) (roles_at (get_or all i d).name (take i all)) (get_or all i d).role) first (get_or all i d).location)
    (first_place (occurrence_places law makes all (take (i + 1) all) (drop (i + 1) all)))
place_more law makes all i d first lt so_far =
    let o = get_or all i d in
    let broken = breaks law makes (roles_at o.name all) (roles_at o.name (take i all)) o.role in
    let rest = occurrence_places law makes all (take i all ++ o ∷ []) (drop (i + 1) all) in
    let next : drop i all ≡ o ∷ drop (i + 1) all = rw (add-one) (drop-cons all i d lt) in
    so_far
    ∙ ap (λ (os : List Occurrence). earliest first (first_place (occurrence_places law makes all (take i all) os))) next
    ∙ ap (λ (p : Option Location). earliest first p) (first_place-append (place_if broken o.location) rest)
    ∙ first_with broken first (first_place rest) o.location
    ∙ ap (λ (os : List Occurrence). earliest (first_more broken first o.location) (first_place (occurrence_places law makes all os (drop (i + 1) all)))) (sym (take_more all i d lt))

-- the first place at the end of the walk
pub place_done : (law : NameRule) (makes : Bool) (all : List Occurrence) (i : ℕ) (first : Option Location) → length all ≤ i →
    occurrence_place law makes all ≡ earliest first (first_place (occurrence_places law makes all (take i all) (drop i all))) → occurrence_place law makes all ≡ first
place_done law makes all i first le so_far =
    so_far
    ∙ ap (λ (os : List Occurrence). earliest first (first_place (occurrence_places law makes all (take i all) os))) (drop_all i all le)
    ∙ earliest_none first

-- the first place of a rule
abbrev pub place_of : NameRule → ScopePlaces → Option Location
place_of rule.Ports places = places.ports
place_of rule.Repeated places = places.repeated
place_of rule.Undeclared places = places.undeclared
place_of rule.Selects places = places.selects
place_of rule.Ranges places = places.ranges
place_of rule.Implicit places = places.implicit

pub place_of-more : (law : NameRule) (makes : Bool) (all before : Summary) (o : Occurrence) (places : ScopePlaces) → place_of law (places_more makes all before o places) ≡ first_more (summary_breaks law makes all before o.role) (place_of law places) o.location
place_of-more rule.Ports makes all before o places = refl
place_of-more rule.Repeated makes all before o places = refl
place_of-more rule.Undeclared makes all before o places = refl
place_of-more rule.Selects makes all before o places = refl
place_of-more rule.Ranges makes all before o places = refl
place_of-more rule.Implicit makes all before o places = refl

-- the first places when one more occurrence has come, by what its name's summaries say
pub places_seen : (makes : Bool) (count : ℕ) (all before : List Occurrence) (o : Occurrence) (summaries : List Summary) (d seen : Summary) (places next : ScopePlaces) → o.name < count →
    summaries ≡ summaries_of count all → seen ≡ summary_of (roles_at o.name before) → next ≡ places_more makes (get_or summaries o.name d) seen o places →
    (law : NameRule) → place_of law next ≡ first_more (breaks law makes (roles_at o.name all) (roles_at o.name before) o.role) (place_of law places) o.location
places_seen makes count all before o summaries d seen places next lt are is becomes law =
    ap (place_of law) becomes
    ∙ place_of-more law makes (get_or summaries o.name d) seen o places
    ∙ ap (λ (s : Summary). first_more (summary_breaks law makes s seen o.role) (place_of law places) o.location)
    (ap (λ (ss : List Summary). get_or ss o.name d) are ∙ get_or-summaries_of count all o.name d lt)
    ∙ ap (λ (s : Summary). first_more (summary_breaks law makes (summary_of (roles_at o.name all)) s o.role) (place_of law places) o.location) is
    ∙ ap (λ (b : Bool). first_more b (place_of law places) o.location) (breaks_summary law makes (roles_at o.name all) (roles_at o.name before) o.role)

-- places are those of the occurrences, where that of each rule is
pub places_all : (makes : Bool) (all : List Occurrence) (places : ScopePlaces) → ((law : NameRule) → occurrence_place law makes all ≡ place_of law places) → places ≡ occurrences_places makes all
places_all makes all places each = sym (rw (each rule.Ports, each rule.Repeated, each rule.Undeclared, each rule.Selects, each rule.Ranges, each rule.Implicit) refl)

-- ---- names and indices

among_at : (name : List ℕ) (names : List (List ℕ)) (k : ℕ) → k < length names → name ≡ get_or names k [] → is_among name names ≡ true
among_at name [] k lt same = absurd (omega arith)
among_at name (other ∷ others) zero lt same = rw (eq-same_name name other same) refl
among_at name (other ∷ others) (suc k) lt same = by (same_name name other) (among_at name others k (omega arith) same)
  where
    by : (b : Bool) → is_among name others ≡ true → (b || is_among name others) ≡ true
    by true among = refl
    by false among = among

distinct_index : (names : List (List ℕ)) → is_distinct names ≡ true → (j k : ℕ) → j < length names → k < length names → get_or names j [] ≡ get_or names k [] → j ≡ k
distinct_index [] distinct j k j-lt k-lt same = absurd (omega arith)
distinct_index (name ∷ names) distinct zero zero j-lt k-lt same = refl
distinct_index (name ∷ names) distinct zero (suc k) j-lt k-lt same =
    let parts = and_parts (not (is_among name names)) (is_distinct names) distinct in
    absurd (both_ways (is_among name names) (not-true (is_among name names) parts.0) (among_at name names k (omega arith) same))
distinct_index (name ∷ names) distinct (suc j) zero j-lt k-lt same =
    let parts = and_parts (not (is_among name names)) (is_distinct names) distinct in
    absurd (both_ways (is_among name names) (not-true (is_among name names) parts.0) (among_at name names j (omega arith) (sym same)))
distinct_index (name ∷ names) distinct (suc j) (suc k) j-lt k-lt same =
    let parts = and_parts (not (is_among name names)) (is_distinct names) distinct in
    ap suc (distinct_index names parts.1 j k (omega arith) (omega arith) same)

module _ (names : List (List ℕ)) (distinct : is_distinct names ≡ true) where
  same_index : (j k : ℕ) → j < length names → k < length names → same_name (get_or names j []) (get_or names k []) ≡ eqb j k
  same_index j k j-lt k-lt = elim (cases_eq j k) [
    | inl same ↦ eq-same_name (get_or names j []) (get_or names k []) (ap (λ (n : ℕ). get_or names n []) same) ∙ sym (eq-eqb j k same)
    | inr apart ↦ false_from_ne_true (same_name (get_or names j []) (get_or names k [])) (λ e. apart (distinct_index names distinct j k j-lt k-lt (same_name-true (get_or names j []) (get_or names k []) e))) ∙ sym (ne_eqb j k apart)
  ]

  -- the roles of a name are those of its index
  pub roles_same : (k : ℕ) → k < length names → (occurrences : List Occurrence) → All (λ o. o.name < length names) occurrences → roles_of (get_or names k []) (mentions_at names occurrences) ≡ roles_at k occurrences
  roles_same k lt [] within = refl
  roles_same k lt (o ∷ occurrences) within =
      let here : o.name < length names = All-head (λ (p : Occurrence). p.name < length names) o occurrences within in
      let rest = roles_same k lt occurrences (All-tail (λ (p : Occurrence). p.name < length names) o occurrences within) in
      ap (λ (b : Bool). map (λ (m : Mention). m.role) (cond b (mention_at names o ∷ filter (λ (m : Mention). same_name (get_or names k []) m.name) (mentions_at names occurrences)) (filter (λ (m : Mention). same_name (get_or names k []) m.name) (mentions_at names occurrences)))) (same_index k o.name lt here)
      ∙ by (eqb k o.name) rest
    where
      by : (b : Bool) → roles_of (get_or names k []) (mentions_at names occurrences) ≡ roles_at k occurrences
          → map (λ (m : Mention). m.role) (cond b (mention_at names o ∷ filter (λ (m : Mention). same_name (get_or names k []) m.name) (mentions_at names occurrences)) (filter (λ (m : Mention). same_name (get_or names k []) m.name) (mentions_at names occurrences)))
          ≡ map (λ (p : Occurrence). p.role) (cond b (o ∷ filter (λ (p : Occurrence). eqb k p.name) occurrences) (filter (λ (p : Occurrence). eqb k p.name) occurrences))
      by true rest = ap (λ (rs : List Role). o.role ∷ rs) rest
      by false rest = rest

  -- the places of mentions are those of the occurrences that stand for them
  places_same : (law : NameRule) (makes : Bool) (all : List Occurrence) → All (λ o. o.name < length names) all →
      (before occurrences : List Occurrence) → All (λ o. o.name < length names) before → All (λ o. o.name < length names) occurrences →
      occurrence_places law makes all before occurrences ≡ places_behind law makes (mentions_at names all) (mentions_at names before) (mentions_at names occurrences)
  places_same law makes all all-within before [] before-within within = refl
  places_same law makes all all-within before (o ∷ occurrences) before-within within =
      let here : o.name < length names = All-head (λ (p : Occurrence). p.name < length names) o occurrences within in
      let rest = places_same law makes all all-within (before ++ o ∷ []) occurrences
      (All-push (λ (p : Occurrence). p.name < length names) before o before-within here)
      (All-tail (λ (p : Occurrence). p.name < length names) o occurrences within) in
      let name = get_or names o.name [] in
      let behind = λ (ms : List Mention). places_behind law makes (mentions_at names all) ms (mentions_at names occurrences) in
      ap (λ (ps : List Location). place_if (breaks law makes (roles_at o.name all) (roles_at o.name before) o.role) o.location ++ ps)
      (rest ∙ ap behind (map-append (mention_at names) before (o ∷ [])))
      ∙ ap (λ (rs : List Role). place_if (breaks law makes rs (roles_at o.name before) o.role) o.location ++ behind (mentions_at names before ++ mention_at names o ∷ [])) (sym (roles_same o.name here all all-within))
      ∙ ap (λ (rs : List Role). place_if (breaks law makes (roles_of name (mentions_at names all)) rs o.role) o.location ++ behind (mentions_at names before ++ mention_at names o ∷ [])) (sym (roles_same o.name here before before-within))

  pub place_same : (law : NameRule) (default : Option ImplicitNetType) (all : List Occurrence) → All (λ o. o.name < length names) all → occurrence_place law (is_some default) all ≡ rule_place law default (mentions_at names all)
  place_same law default all within = ap first_place (places_same law (is_some default) all within [] all (All-nil (λ (o : Occurrence). o.name < length names)) within)

  pub scope_places_same : (default : Option ImplicitNetType) (all : List Occurrence) → All (λ o. o.name < length names) all → occurrences_places (is_some default) all ≡ scope_places default (mentions_at names all)
  scope_places_same default all within =
      rw (
        place_same rule.Ports default all within,
        place_same rule.Repeated default all within,
        place_same rule.Undeclared default all within,
        place_same rule.Selects default all within,
        place_same rule.Ranges default all within,
        place_same rule.Implicit default all within,
      ) refl

  -- the nets by summaries are those of the names
  pub nets_same : (default : Option ImplicitNetType) (all : List Occurrence) → All (λ o. o.name < length names) all →
      map (summary_net default) (summaries_of (length names) all) ≡ nets_of default (mentions_at names all) names
  nets_same default all within =
      ext_get_or None (map (summary_net default) summaries) (map net names)
      (length-map summaries (summary_net default) ∙ length-summaries_of (length names) all ∙ sym (length-map names net))
      (λ i below. at i (omega (arith, length-map summaries (summary_net default), length-summaries_of (length names) all)))
    where
      summaries : List Summary
      summaries = summaries_of (length names) all

      net : List ℕ → Option ScopeNet
      net name = net_of default (roles_of name (mentions_at names all))

      at : (i : ℕ) → i < length names → get_or (map (summary_net default) (summaries_of (length names) all)) i None ≡ get_or (map (λ (name : List ℕ). net_of default (roles_of name (mentions_at names all))) names) i None
      at i lt =
          let below : i < length (summaries_of (length names) all) = omega (arith, length-summaries_of (length names) all) in
          get_or-map (summary_net default) (summaries_of (length names) all) i (summary_of []) None below
          ∙ ap (summary_net default) (get_or-summaries_of (length names) all i (summary_of []) lt)
          ∙ ap (net_of default) (sym (roles_same i lt all within))
          ∙ sym (get_or-map (λ (name : List ℕ). net_of default (roles_of name (mentions_at names all))) names i [] None lt)

-- ---- the scope

abbrev with_parts : List (List ℕ) → List (Option ScopeNet) → ScopePlaces → Scope
with_parts names nets places = record { names = names; nets = nets; places = places }

pub scope_same : (default : Option ImplicitNetType) (names : List (List ℕ)) (occurrences : List Occurrence) (mentions : List Mention) (nets : List (Option ScopeNet)) (places : ScopePlaces) →
    is_distinct names ≡ true → AreOccurrences names occurrences → mentions_at names occurrences ≡ mentions →
    nets ≡ map (summary_net default) (summaries_of (length names) occurrences) → places ≡ occurrences_places (is_some default) occurrences →
    with_parts names nets places ≡ scope_with default mentions
scope_same default names occurrences mentions nets places distinct are same nets-are places-are =
    let told = mentions_at names occurrences in
    ap (λ (ns : List (Option ScopeNet)). with_parts names ns places) (nets-are ∙ nets_same names distinct default occurrences are.within)
    ∙ ap (λ (ps : ScopePlaces). with_parts names (nets_of default told names) ps) (places-are ∙ scope_places_same names distinct default occurrences are.within)
    ∙ ap (λ (ns : List (List ℕ)). with_parts ns (nets_of default told ns) (scope_places default told)) are.order
    ∙ ap (scope_with default) same
