-- Named connections, one after the other.
use Rattle.std.proofs.Common.{◌≡◌, ℕ, ◌+◌, ◌<◌, Bool, true, false, ◌||◌, not, cond, List, [], ◌∷◌, ◌++◌, length, get_or, drop, take, map, Option, None, Some, refl, sym, ap, ◌∙◌}
use Rattle.std.proofs.lemmas.List.{drop_more, map-append, take_more}
use Rattle.std.specs.Option.{is_some}
use Rattle.name_table.specs.Names.{index_of, is_among, same_name}
use Rattle.module_scope.proofs.Naming.{index_absent, index_among, same_name-true}
use Rattle.v_tree.specs.declared.locations.Location.{Location}
use Rattle.v_tree.specs.declared.gates.Connection.{Connection}
use Rattle.rule_places.specs.Places.{earliest, first_place}
use Rattle.rule_places.proofs.PlaceLaws.{earliest_assoc}
use Rattle.module_scope.specs.Places.{place_if}
use Rattle.module_ports.specs.Ports.{Port, names_of}
use Rattle.instance_rules.specs.Rules.{named_places}

-- the names of the ports that connections name
abbrev pub ports_named : List Connection → List (List ℕ)
ports_named connections = map (λ c. c.port.text) connections

-- a named connection of no port, or of one among others
abbrev pub is_wrong : List Port → List (List ℕ) → List ℕ → Bool
is_wrong ports before name = not (is_among name (names_of ports)) || is_among name before

-- one more connection
pub ports_named-more : (cs : List Connection) (i : ℕ) (c : Connection) → i < length cs → get_or cs i c ≡ c → ports_named (take (i + 1) cs) ≡ ports_named (take i cs) ++ c.port.text ∷ []
ports_named-more cs i c lt at =
    ap ports_named (take_more cs i c lt)
    ∙ map-append (λ (d : Connection). d.port.text) (take i cs) (get_or cs i c ∷ [])
    ∙ ap (λ (d : Connection). ports_named (take i cs) ++ d.port.text ∷ []) at

-- the first place, where one more has its place or not
place_step : (so_far : Option Location) (wrong : Bool) (place : Location) (rest : List Location) →
    earliest so_far (first_place (place_if wrong place ++ rest)) ≡ earliest (cond wrong (earliest so_far (Some place)) so_far) (first_place rest)
place_step so_far false place rest = refl
place_step so_far true place rest = sym (earliest_assoc so_far (Some place) (first_place rest))

module _ (ports : List Port) (cs : List Connection) (i : ℕ) (c : Connection) (lt : i < length cs) (at : get_or cs i c ≡ c) (so_far : Option Location) where
  pub named_places-step : (wrong : Bool) → is_wrong ports (ports_named (take i cs)) c.port.text ≡ wrong →
      earliest so_far (first_place (named_places ports (ports_named (take i cs)) (drop i cs)))
      ≡ earliest (cond wrong (earliest so_far (Some c.location)) so_far) (first_place (named_places ports (ports_named (take (i + 1) cs)) (drop (i + 1) cs)))
  named_places-step wrong is =
      let before = ports_named (take i cs) in
      ap (λ (rest : List Connection). earliest so_far (first_place (named_places ports before rest)))
      (drop_more cs i c lt ∙ ap (λ (d : Connection). d ∷ drop (i + 1) cs) at)
      ∙ ap (λ (b : Bool). earliest so_far (first_place (place_if b c.location ++ named_places ports (before ++ c.port.text ∷ []) (drop (i + 1) cs)))) is
      ∙ place_step so_far wrong c.location (named_places ports (before ++ c.port.text ∷ []) (drop (i + 1) cs))
      ∙ ap (λ (names : List (List ℕ)). earliest (cond wrong (earliest so_far (Some c.location)) so_far) (first_place (named_places ports names (drop (i + 1) cs))))
      (sym (ports_named-more cs i c lt at))

-- a name among names with one more
pub is_among-push : (name last : List ℕ) (names : List (List ℕ)) → is_among name (names ++ last ∷ []) ≡ (is_among name names || same_name name last)
is_among-push name last [] = by (same_name name last)
  where
    by : (b : Bool) → (b || false) ≡ b
    by true = refl
    by false = refl
is_among-push name last (other ∷ names) = by (same_name name other) (is_among-push name last names)
  where
    by : (b : Bool) → is_among name (names ++ last ∷ []) ≡ (is_among name names || same_name name last) →
        (b || is_among name (names ++ last ∷ [])) ≡ ((b || is_among name names) || same_name name last)
    by true e = refl
    by false e = e

-- a name that has an index is there
pub is_some-index_of : (name : List ℕ) (names : List (List ℕ)) → is_some (index_of name names) ≡ is_among name names
is_some-index_of name names = by (index_of name names) refl
  where
    by : (o : Option ℕ) → index_of name names ≡ o → is_some o ≡ is_among name names
    by None e = sym (index_absent name names e)
    by (Some k) e = sym (index_among name names k e)

-- a name among names to which one was added, unless it was there
pub added_among : (q name : List ℕ) (names after : List (List ℕ)) (added : Bool) → added ≡ not (is_among name names) → after ≡ cond added (names ++ name ∷ []) names →
    is_among q after ≡ (is_among q names || same_name q name)
added_among q name names after true new e = ap (is_among q) e ∙ is_among-push q name names
added_among q name names after false new e = ap (is_among q) e ∙ sym (absorb (same_name q name) refl)
  where
    or_false : (b : Bool) → (b || false) ≡ b
    or_false true = refl
    or_false false = refl

    or_true : (b : Bool) → (b || true) ≡ true
    or_true true = refl
    or_true false = refl

    there : (b : Bool) → false ≡ not b → b ≡ true
    there true n = refl
    there false n = absurd cc

    absorb : (b : Bool) → same_name q name ≡ b → (is_among q names || b) ≡ is_among q names
    absorb false apart = or_false (is_among q names)
    absorb true same =
        let is : is_among q names ≡ true = ap (λ (n : List ℕ). is_among n names) (same_name-true q name same) ∙ there (is_among name names) new in
        or_true (is_among q names) ∙ sym is

-- the names of the connections so far, and one more
pub names-step : (q name : List ℕ) (names after : List (List ℕ)) (added : Bool) (cs : List Connection) (i : ℕ) (c : Connection) → i < length cs → get_or cs i c ≡ c → name ≡ c.port.text →
    added ≡ not (is_among name names) → after ≡ cond added (names ++ name ∷ []) names → is_among q names ≡ is_among q (ports_named (take i cs)) →
    is_among q after ≡ is_among q (ports_named (take (i + 1) cs))
names-step q name names after added cs i c lt at is new e so_far =
    added_among q name names after added new e
    ∙ ap (λ (b : Bool). b || same_name q name) so_far
    ∙ sym (is_among-push q name (ports_named (take i cs)))
    ∙ ap (λ (n : List ℕ). is_among q (ports_named (take i cs) ++ n ∷ [])) is
    ∙ sym (ap (is_among q) (ports_named-more cs i c lt at))

-- whether one more connection is wrong, by what was found of it
pub is_wrong-found : (ports : List Port) (before names : List (List ℕ)) (name text : List ℕ) (has added : Bool) → name ≡ text → has ≡ is_among name (names_of ports) → added ≡ not (is_among name names) →
    is_among name names ≡ is_among name before → is_wrong ports before text ≡ (not has || not added)
is_wrong-found ports before names name text has added is found new same =
    ap (is_wrong ports before) (sym is)
    ∙ ap (λ (b : Bool). not b || is_among name before) (sym found)
    ∙ ap (λ (b : Bool). not has || b) (sym same ∙ twice (is_among name names) ∙ ap not (sym new))
  where
    twice : (b : Bool) → b ≡ not (not b)
    twice true = refl
    twice false = refl
