-- Summaries of the roles of names.
use Rattle.std.proofs.Common.{◌≡◌, ℕ, ◌+◌, ◌<◌, Bool, true, false, cond, ◌||◌, List, [], ◌∷◌, ◌++◌, length, map, get_or, set, take, eqb, Option, None, Some, refl, sym, ap, ◌∙◌, arith, inl, inr, length-set, get_or-set_other}
use Rattle.std.specs.List.{find, filter, list_any}
use Rattle.std.specs.Option.{is_some, option_or}
use Rattle.std.proofs.lemmas.Bool.{cases_eq, eq-eqb, ne_eqb}
use Rattle.std.proofs.lemmas.List.{map-append, append-nil, ext_get_or, take_more}
use Rattle.std.proofs.lemmas.Grind.{get_or-set_at}
use Rattle.std.proofs.lemmas.List.Elements.{filter-append}
use Rattle.std.proofs.lemmas.List.Folds.{find-append}
use Rattle.std.proofs.lemmas.List.FromFn.{length-map-range_with_len, get_or-map-range_with_len}
use Rattle.v_tree.specs.declared.declarations.NetType.{NetType}
use Rattle.module_scope.specs.declared.roles.Role.{Role}
use Rattle.module_scope.specs.declared.roles.Role.TheVariants as role
use Rattle.module_scope.specs.declared.roles.Count.{Count}
use Rattle.module_scope.specs.declared.mentions.Occurrence.{Occurrence}
use Rattle.module_scope.specs.declared.summaries.Summary.{Summary}
use Rattle.module_scope.specs.Roles.{is_header, is_port, declares_net, is_declaration, makes_net, direction_of, type_of, kind_of, delay_of, first_of, more, how_many}
use Rattle.module_scope.specs.Rules.{first_range}
use Rattle.module_scope.specs.Occurrences.{roles_at}
use Rattle.module_scope.specs.Summaries.{port_form, form_of, form_in, summary_of, count_next, form_next, range_next, with_role, summaries_of}

-- ---- one more role

pub how_many-push : (is_kind : Role → Bool) (roles : List Role) (r : Role) → how_many is_kind (roles ++ r ∷ []) ≡ count_next (how_many is_kind roles) (is_kind r)
how_many-push is_kind [] r = refl
how_many-push is_kind (first ∷ roles) r = by (is_kind first) (is_kind r) (how_many is_kind roles) (how_many is_kind (roles ++ r ∷ [])) (how_many-push is_kind roles r)
  where
    by : (first_is last_is : Bool) (before after : Count) → after ≡ count_next before last_is → cond first_is (more after) after ≡ count_next (cond first_is (more before) before) last_is
    by true true before after same = ap more same
    by true false before after same = ap more same
    by false last_is before after same = same

option_or-assoc : {X : Type 0} (a b c : Option X) → option_or (option_or a b) c ≡ option_or a (option_or b c)
option_or-assoc None b c = refl
option_or-assoc (Some x) b c = refl

option_or-none : {X : Type 0} (a : Option X) → option_or a None ≡ a
option_or-none None = refl
option_or-none (Some x) = refl

pub first_of-push : {X : Type 0} (gives : Role → Option X) (roles : List Role) (r : Role) → first_of gives (roles ++ r ∷ []) ≡ option_or (first_of gives roles) (gives r)
first_of-push gives [] r = option_or-none (gives r)
first_of-push gives (first ∷ roles) r = ap (option_or (gives first)) (first_of-push gives roles r) ∙ sym (option_or-assoc (gives first) (first_of gives roles) (gives r))

-- the first role of a kind, when one more role has come
abbrev first_role : Option Role → Bool → Role → Option Role
first_role first is_kind r = option_or first (cond is_kind (Some r) None)

find-push : (is_kind : Role → Bool) (roles : List Role) (r : Role) → find is_kind (roles ++ r ∷ []) ≡ first_role (find is_kind roles) (is_kind r) r
find-push is_kind roles r = find-append is_kind roles (r ∷ [])

-- a form stays where it is that of a declaration
form_stays : (x : Role) (is_kind : Bool) (r : Role) → form_of x ≡ form_next (form_of x) is_kind r
form_stays role.Header is_kind r = refl
form_stays (role.Port port) is_kind r = by port.net_type
  where
    by : (t : Option NetType) → port_form t ≡ form_next (port_form t) is_kind r
    by None = refl
    by (Some t) = refl
form_stays (role.Net net) is_kind r = refl
form_stays role.Instance is_kind r = refl
form_stays (role.Use at select) is_kind r = refl

form_in-role : (first : Option Role) (is_kind : Bool) (r : Role) → form_in (first_role first is_kind r) ≡ form_next (form_in first) is_kind r
form_in-role None true r = refl
form_in-role None false r = refl
form_in-role (Some x) is_kind r = form_stays x is_kind r

is_some-role : (first : Option Role) (is_kind : Bool) (r : Role) → is_some (first_role first is_kind r) ≡ (is_some first || is_kind)
is_some-role None true r = refl
is_some-role None false r = refl
is_some-role (Some x) is_kind r = refl

first_range-role : (first : Option Role) (r : Role) → first_range (first_role first (declares_net r) r) ≡ range_next (is_some first) (first_range first) r
first_range-role (Some x) r = refl
first_range-role None role.Header = refl
first_range-role None (role.Port port) = refl
first_range-role None (role.Net net) = refl
first_range-role None role.Instance = refl
first_range-role None (role.Use at select) = refl

form-push : (is_kind : Role → Bool) (roles : List Role) (r : Role) → form_in (find is_kind (roles ++ r ∷ [])) ≡ form_next (form_in (find is_kind roles)) (is_kind r) r
form-push is_kind roles r = ap form_in (find-push is_kind roles r) ∙ form_in-role (find is_kind roles) (is_kind r) r

is_some-push : (is_kind : Role → Bool) (roles : List Role) (r : Role) → is_some (find is_kind (roles ++ r ∷ [])) ≡ (is_some (find is_kind roles) || is_kind r)
is_some-push is_kind roles r = ap is_some (find-push is_kind roles r) ∙ is_some-role (find is_kind roles) (is_kind r) r

range-push : (roles : List Role) (r : Role) → first_range (find declares_net (roles ++ r ∷ [])) ≡ range_next (is_some (find declares_net roles)) (first_range (find declares_net roles)) r
range-push roles r = ap first_range (find-push declares_net roles r) ∙ first_range-role (find declares_net roles) r

pub list_any-push : (is_kind : Role → Bool) (roles : List Role) (r : Role) → list_any is_kind (roles ++ r ∷ []) ≡ (list_any is_kind roles || is_kind r)
list_any-push is_kind [] r = by (is_kind r)
  where
    by : (b : Bool) → (b || false) ≡ b
    by true = refl
    by false = refl
list_any-push is_kind (first ∷ roles) r = by (is_kind first) (list_any-push is_kind roles r)
  where
    by : (b : Bool) → list_any is_kind (roles ++ r ∷ []) ≡ (list_any is_kind roles || is_kind r) → (b || list_any is_kind (roles ++ r ∷ [])) ≡ ((b || list_any is_kind roles) || is_kind r)
    by true same = refl
    by false same = same

pub summary_of-push : (roles : List Role) (r : Role) → summary_of (roles ++ r ∷ []) ≡ with_role (summary_of roles) r
summary_of-push roles r =
    rw (
      how_many-push is_header roles r,
      how_many-push is_port roles r,
      how_many-push is_declaration roles r,
      form-push is_declaration roles r,
      form-push declares_net roles r,
      range-push roles r,
      is_some-push declares_net roles r,
      list_any-push makes_net roles r,
      first_of-push direction_of roles r,
      first_of-push type_of roles r,
      first_of-push kind_of roles r,
      first_of-push delay_of roles r,
    ) refl

-- ---- one more occurrence

pub roles_at-append : (index : ℕ) (before after : List Occurrence) → roles_at index (before ++ after) ≡ roles_at index before ++ roles_at index after
roles_at-append index before after =
    ap (λ (os : List Occurrence). map (λ (o : Occurrence). o.role) os) (filter-append (λ (o : Occurrence). eqb index o.name) before after)
    ∙ map-append (λ (o : Occurrence). o.role) (filter (λ (o : Occurrence). eqb index o.name) before) (filter (λ (o : Occurrence). eqb index o.name) after)

pub roles_at-same : (occurrences : List Occurrence) (o : Occurrence) → roles_at o.name (occurrences ++ o ∷ []) ≡ roles_at o.name occurrences ++ o.role ∷ []
roles_at-same occurrences o =
    roles_at-append o.name occurrences (o ∷ [])
    ∙ ap (λ (b : Bool). roles_at o.name occurrences ++ map (λ (p : Occurrence). p.role) (cond b (o ∷ []) [])) (eq-eqb o.name o.name refl)

pub roles_at-other : (index : ℕ) (occurrences : List Occurrence) (o : Occurrence) → (index ≡ o.name → ⊥) → roles_at index (occurrences ++ o ∷ []) ≡ roles_at index occurrences
roles_at-other index occurrences o apart =
    roles_at-append index occurrences (o ∷ [])
    ∙ ap (λ (b : Bool). roles_at index occurrences ++ map (λ (p : Occurrence). p.role) (cond b (o ∷ []) [])) (ne_eqb index o.name apart)
    ∙ append-nil (roles_at index occurrences)

-- ---- all names

pub length-summaries_of : (count : ℕ) (occurrences : List Occurrence) → length (summaries_of count occurrences) ≡ count
length-summaries_of count occurrences = length-map-range_with_len (λ (index : ℕ). summary_of (roles_at index occurrences)) 0 count

pub get_or-summaries_of : (count : ℕ) (occurrences : List Occurrence) (index : ℕ) (d : Summary) → index < count → get_or (summaries_of count occurrences) index d ≡ summary_of (roles_at index occurrences)
get_or-summaries_of count occurrences index d lt = get_or-map-range_with_len (λ (k : ℕ). summary_of (roles_at k occurrences)) 0 count index index d lt (omega arith)

-- the summaries after one more occurrence
pub summaries_of-push : (count : ℕ) (occurrences : List Occurrence) (o : Occurrence) (d : Summary) → o.name < count →
    set (summaries_of count occurrences) o.name (with_role (get_or (summaries_of count occurrences) o.name d) o.role) ≡ summaries_of count (occurrences ++ o ∷ [])
summaries_of-push count occurrences o d lt =
    ext_get_or d (set old o.name new) (summaries_of count (occurrences ++ o ∷ []))
    (length-set old o.name new ∙ length-summaries_of count occurrences ∙ sym (length-summaries_of count (occurrences ++ o ∷ [])))
    (λ i below. at i (omega (arith, length-set old o.name new, length-summaries_of count occurrences)))
  where
    old : List Summary
    old = summaries_of count occurrences

    new : Summary
    new = with_role (get_or (summaries_of count occurrences) o.name d) o.role

    at : (i : ℕ) → i < count → get_or (set (summaries_of count occurrences) o.name (with_role (get_or (summaries_of count occurrences) o.name d) o.role)) i d ≡ get_or (summaries_of count (occurrences ++ o ∷ [])) i d
    at i below = elim (cases_eq i o.name) [
      | inl same ↦
          let within : o.name < length (summaries_of count occurrences) = omega (arith, length-summaries_of count occurrences) in
          get_or-set_at (summaries_of count occurrences) o.name i (with_role (get_or (summaries_of count occurrences) o.name d) o.role) d same within
          ∙ ap (λ (s : Summary). with_role s o.role) (get_or-summaries_of count occurrences o.name d lt)
          ∙ sym (summary_of-push (roles_at o.name occurrences) o.role)
          ∙ ap summary_of (sym (roles_at-same occurrences o))
          ∙ sym (ap (λ (k : ℕ). get_or (summaries_of count (occurrences ++ o ∷ [])) k d) same ∙ get_or-summaries_of count (occurrences ++ o ∷ []) o.name d lt)
      | inr apart ↦
          get_or-set_other (summaries_of count occurrences) o.name i (with_role (get_or (summaries_of count occurrences) o.name d) o.role) d apart
          ∙ get_or-summaries_of count occurrences i d below
          ∙ ap summary_of (sym (roles_at-other i occurrences o apart))
          ∙ sym (get_or-summaries_of count (occurrences ++ o ∷ []) i d below)
    ]

-- the same in a walk over occurrences, at its next one
pub summaries_of-more : (count i : ℕ) (occurrences : List Occurrence) (d : Occurrence) (e : Summary) (summaries : List Summary) (read next : Summary) →
    i < length occurrences → (get_or occurrences i d).name < count → summaries ≡ summaries_of count (take i occurrences) →
    read ≡ get_or summaries (get_or occurrences i d).name e → next ≡ with_role read (get_or occurrences i d).role →
    set summaries (get_or occurrences i d).name next ≡ summaries_of count (take (i + 1) occurrences)
summaries_of-more count i occurrences d e summaries read next lt within are is becomes =
    let o = get_or occurrences i d in
    let before = take i occurrences in
    ap (λ (s : Summary). set summaries o.name s) (becomes ∙ ap (λ (s : Summary). with_role s o.role) is)
    ∙ ap (λ (ss : List Summary). set ss o.name (with_role (get_or ss o.name e) o.role)) are
    ∙ summaries_of-push count before o e within
    ∙ ap (summaries_of count) (sym (take_more occurrences i d lt))

-- what is read of the summaries at a name
pub summary_read : (count : ℕ) (occurrences : List Occurrence) (summaries : List Summary) (index : ℕ) (d read : Summary) →
    index < count → summaries ≡ summaries_of count occurrences → read ≡ get_or summaries index d → read ≡ summary_of (roles_at index occurrences)
summary_read count occurrences summaries index d read lt are is =
    is ∙ ap (λ (ss : List Summary). get_or ss index d) are ∙ get_or-summaries_of count occurrences index d lt
