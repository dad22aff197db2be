-- What mentions that break no rule give, and mentions of a kind that no name has twice.
use Rattle.std.proofs.Common.{◌≡◌, ℕ, Bool, true, false, cond, ◌&&◌, List, [], ◌∷◌, ◌++◌, map, refl, sym, ap, subst, ◌∙◌, append_assoc}
use Rattle.std.specs.List.{AllByRecursion, filter}
use Rattle.std.proofs.lemmas.List.{append-nil, map-append}
use Rattle.std.proofs.lemmas.List.Elements.{filter-append}
use Rattle.name_table.specs.Names.{same_name}
use Rattle.module_scope.specs.declared.roles.Role.{Role}
use Rattle.module_scope.specs.declared.roles.Count.{Count}
use Rattle.module_scope.specs.declared.roles.Count.TheVariants.{Zero, One, Several}
use Rattle.module_scope.specs.declared.rules.NameRule.{NameRule}
use Rattle.module_scope.specs.Mentions.{Mention, roles_of}
use Rattle.module_scope.specs.Roles.{how_many, is_one, is_several, is_zero, more}
use Rattle.module_scope.specs.Rules.{breaks}
use Rattle.module_scope.specs.Places.{breaking_places, place_if, places_behind}
use Rattle.module_scope.proofs.Naming.{eq-same_name, same_name-true}
use Rattle.flattening_laws.proofs.Apart.{AreApart, Differ}

-- ---- the roles of a name

pub roles-append : (name : List ℕ) (before rest : List Mention) → roles_of name (before ++ rest) ≡ roles_of name before ++ roles_of name rest
roles-append name before rest =
    ap (map (λ (m : Mention). m.role)) (filter-append (λ (m : Mention). same_name name m.name) before rest)
    ∙ map-append (λ (m : Mention). m.role) (filter (λ (m : Mention). same_name name m.name) before) (filter (λ (m : Mention). same_name name m.name) rest)

-- a mention of the name, and one of another
pub roles-same : (name : List ℕ) (m : Mention) (rest : List Mention) → same_name name m.name ≡ true → roles_of name (m ∷ rest) ≡ m.role ∷ roles_of name rest
roles-same name m rest is =
    ap (λ (b : Bool). map (λ (n : Mention). n.role) (cond b (m ∷ filter (λ (n : Mention). same_name name n.name) rest) (filter (λ (n : Mention). same_name name n.name) rest))) is

pub roles-other : (name : List ℕ) (m : Mention) (rest : List Mention) → same_name name m.name ≡ false → roles_of name (m ∷ rest) ≡ roles_of name rest
roles-other name m rest is =
    ap (λ (b : Bool). map (λ (n : Mention). n.role) (cond b (m ∷ filter (λ (n : Mention). same_name name n.name) rest) (filter (λ (n : Mention). same_name name n.name) rest))) is

-- the roles of a mention's own name, where it stands
pub roles-split : (m : Mention) (before rest : List Mention) → roles_of m.name (before ++ m ∷ rest) ≡ roles_of m.name before ++ m.role ∷ roles_of m.name rest
roles-split m before rest =
    roles-append m.name before (m ∷ rest)
    ∙ ap (λ (rs : List Role). roles_of m.name before ++ rs) (roles-same m.name m rest (eq-same_name m.name m.name refl))

-- ---- mentions that break no rule

-- where there is no place, the first mention doesn't break the rule, and no later one does
pub unbroken-first : (law : NameRule) (makes : Bool) (all before : List Mention) (m : Mention) (rest : List Mention) → places_behind law makes all before (m ∷ rest) ≡ []
    → breaks law makes (roles_of m.name all) (roles_of m.name before) m.role ≡ false
unbroken-first law makes all before m rest none = by (breaks law makes (roles_of m.name all) (roles_of m.name before) m.role) none
  where
    by : (b : Bool) → place_if b m.location ++ places_behind law makes all (before ++ m ∷ []) rest ≡ [] → b ≡ false
    by true e = absurd cc
    by false e = refl

pub unbroken-later : (law : NameRule) (makes : Bool) (all before : List Mention) (m : Mention) (rest : List Mention) → places_behind law makes all before (m ∷ rest) ≡ []
    → places_behind law makes all (before ++ m ∷ []) rest ≡ []
unbroken-later law makes all before m rest none = by (breaks law makes (roles_of m.name all) (roles_of m.name before) m.role) none
  where
    by : (b : Bool) → place_if b m.location ++ places_behind law makes all (before ++ m ∷ []) rest ≡ [] → places_behind law makes all (before ++ m ∷ []) rest ≡ []
    by true e = absurd cc
    by false e = e

unbroken-behind : (law : NameRule) (makes : Bool) (all first before : List Mention) (m : Mention) (rest : List Mention) → places_behind law makes all first (before ++ m ∷ rest) ≡ []
    → breaks law makes (roles_of m.name all) (roles_of m.name (first ++ before)) m.role ≡ false
unbroken-behind law makes all first [] m rest none =
    ap (λ (ms : List Mention). breaks law makes (roles_of m.name all) (roles_of m.name ms) m.role) (append-nil first) ∙ unbroken-first law makes all first m rest none
unbroken-behind law makes all first (n ∷ before) m rest none =
    ap (λ (ms : List Mention). breaks law makes (roles_of m.name all) (roles_of m.name ms) m.role) (sym (append_assoc first (n ∷ []) before))
    ∙ unbroken-behind law makes all (first ++ n ∷ []) before m rest (unbroken-later law makes all first n (before ++ m ∷ rest) none)

-- a mention doesn't break a rule that has no place
pub unbroken-at : (law : NameRule) (makes : Bool) (mentions before : List Mention) (m : Mention) (rest : List Mention) → breaking_places law makes mentions ≡ [] → mentions ≡ before ++ m ∷ rest
    → breaks law makes (roles_of m.name mentions) (roles_of m.name before) m.role ≡ false
unbroken-at law makes mentions before m rest none is =
    unbroken-behind law makes mentions [] before m rest (subst (λ (ms : List Mention). places_behind law makes mentions [] ms ≡ []) is none)

-- ---- counts of roles

more-several : (c : Count) → is_zero c ≡ false → is_several (more c) ≡ true
more-several Zero e = absurd cc
more-several One e = refl
more-several Several e = refl

pub more-some : (c : Count) → is_zero (more c) ≡ false
more-some Zero = refl
more-some One = refl
more-some Several = refl

more-zero : (c : Count) → is_one (more c) ≡ true → is_zero c ≡ true
more-zero Zero e = refl
more-zero One e = absurd cc
more-zero Several e = absurd cc

-- one more than neither one nor several isn't several
more-single : (c : Count) → is_one c ≡ false → is_several c ≡ false → is_several (more c) ≡ false
more-single Zero e f = refl
more-single One e f = absurd cc
more-single Several e f = absurd cc

fewer-zero : (c : Count) → is_several (more c) ≡ false → is_zero c ≡ true
fewer-zero Zero e = refl
fewer-zero One e = absurd cc
fewer-zero Several e = absurd cc

fewer-single : (c : Count) → is_several (more c) ≡ false → is_several c ≡ false
fewer-single Zero e = refl
fewer-single One e = refl
fewer-single Several e = absurd cc

module _ (is_kind : Role → Bool) where
  pub count-some : (before rest : List Role) (r : Role) → is_kind r ≡ true → is_zero (how_many is_kind (before ++ r ∷ rest)) ≡ false
  count-some [] rest r is = ap (λ (b : Bool). is_zero (cond b (more (how_many is_kind rest)) (how_many is_kind rest))) is ∙ more-some (how_many is_kind rest)
  count-some (first ∷ before) rest r is = by (is_kind first) (how_many is_kind (before ++ r ∷ rest)) (count-some before rest r is)
    where
      by : (b : Bool) (c : Count) → is_zero c ≡ false → is_zero (cond b (more c) c) ≡ false
      by true c e = more-some c
      by false c e = e

  -- one before, and one more
  pub count-several : (before rest : List Role) (r : Role) → is_kind r ≡ true → is_one (how_many is_kind before) ≡ true → is_several (how_many is_kind (before ++ r ∷ rest)) ≡ true
  count-several [] rest r is one = absurd cc
  count-several (first ∷ before) rest r is one =
      by (is_kind first) (how_many is_kind before) (how_many is_kind (before ++ r ∷ rest)) (count-some before rest r is) (count-several before rest r is) one
    where
      by : (b : Bool) (c d : Count) → is_zero d ≡ false → (is_one c ≡ true → is_several d ≡ true) → is_one (cond b (more c) c) ≡ true → is_several (cond b (more d) d) ≡ true
      by true c d some two e = more-several d some
      by false c d some two e = two e

  count-push : (before : List Role) (r : Role) → how_many is_kind (before ++ r ∷ []) ≡ cond (is_kind r) (more (how_many is_kind before)) (how_many is_kind before)
  count-push [] r = refl
  count-push (first ∷ before) r = ap (λ (c : Count). cond (is_kind first) (more c) c) (count-push before r) ∙ by (is_kind first) (is_kind r) (how_many is_kind before)
    where
      by : (b k : Bool) (c : Count) → cond b (more (cond k (more c) c)) (cond k (more c) c) ≡ cond k (more (cond b (more c) c)) (cond b (more c) c)
      by true true c = refl
      by true false c = refl
      by false true c = refl
      by false false c = refl

  count-cons : (name : List ℕ) (m : Mention) (rest : List Mention)
      → how_many is_kind (roles_of name (m ∷ rest)) ≡ cond (same_name name m.name && is_kind m.role) (more (how_many is_kind (roles_of name rest))) (how_many is_kind (roles_of name rest))
  count-cons name m rest = by (same_name name m.name) refl
    where
      count : Count
      count = how_many is_kind (roles_of name rest)

      by : (b : Bool) → same_name name m.name ≡ b → how_many is_kind (roles_of name (m ∷ rest)) ≡ cond (b && is_kind m.role) (more count) count
      by true is = ap (how_many is_kind) (roles-same name m rest is)
      by false is = ap (how_many is_kind) (roles-other name m rest is)

  -- ---- mentions of a kind

  -- no name has two mentions of the kind
  abbrev pub AreSingle : List Mention → Type 0
  AreSingle mentions = (name : List ℕ) → is_several (how_many is_kind (roles_of name mentions)) ≡ false

  -- the names of the mentions of the kind
  abbrev pub names_where : List Mention → List (List ℕ)
  names_where mentions = map (λ m. m.name) (filter (λ m. is_kind m.role) mentions)

  pub names-append : (before rest : List Mention) → names_where (before ++ rest) ≡ names_where before ++ names_where rest
  names-append before rest =
      ap (map (λ (m : Mention). m.name)) (filter-append (λ (m : Mention). is_kind m.role) before rest)
      ∙ map-append (λ (m : Mention). m.name) (filter (λ (m : Mention). is_kind m.role) before) (filter (λ (m : Mention). is_kind m.role) rest)

  -- where none is of the kind there is no name
  pub names-none : (mentions : List Mention) → AllByRecursion (λ m. is_kind m.role ≡ false) mentions → names_where mentions ≡ []
  names-none [] none = refl
  names-none (m ∷ mentions) none =
      ap (λ (b : Bool). map (λ (n : Mention). n.name) (cond b (m ∷ filter (λ (n : Mention). is_kind n.role) mentions) (filter (λ (n : Mention). is_kind n.role) mentions))) none.0
      ∙ names-none mentions none.1

  absent-differs : (name : List ℕ) (mentions : List Mention) → is_zero (how_many is_kind (roles_of name mentions)) ≡ true → AllByRecursion (Differ name) (names_where mentions)
  absent-differs name [] none = tt
  absent-differs name (m ∷ mentions) none =
      by (is_kind m.role) (same_name name m.name) refl (how_many is_kind (roles_of name mentions)) (absent-differs name mentions) (subst (λ (c : Count). is_zero c ≡ true) (count-cons name m mentions) none)
    where
      others : List Mention
      others = filter (λ (n : Mention). is_kind n.role) mentions

      by : (kind same : Bool) → same_name name m.name ≡ same → (c : Count) → (is_zero c ≡ true → AllByRecursion (Differ name) (map (λ (n : Mention). n.name) others))
          → is_zero (cond (same && kind) (more c) c) ≡ true → AllByRecursion (Differ name) (map (λ (n : Mention). n.name) (cond kind (m ∷ others) others))
      by true true is c rest e = let some = more-some c in absurd cc
      by true false is c rest e = ((λ e. let same = eq-same_name name m.name e in absurd cc), rest e)
      by false true is c rest e = rest e
      by false false is c rest e = rest e

  -- names that have no two mentions of a kind differ
  pub single-apart : (mentions : List Mention) → AreSingle mentions → AreApart (names_where mentions)
  single-apart [] single = tt
  single-apart (m ∷ mentions) single = by (is_kind m.role) refl (single-apart mentions fewer)
    where
      others : List Mention
      others = filter (λ (n : Mention). is_kind n.role) mentions

      fewer : AreSingle mentions
      fewer name = less (same_name name m.name && is_kind m.role) (how_many is_kind (roles_of name mentions)) (subst (λ (c : Count). is_several c ≡ false) (count-cons name m mentions) (single name))
        where
          less : (b : Bool) (c : Count) → is_several (cond b (more c) c) ≡ false → is_several c ≡ false
          less true c e = fewer-single c e
          less false c e = e

      by : (kind : Bool) → is_kind m.role ≡ kind → AreApart (map (λ (n : Mention). n.name) others) → AreApart (map (λ (n : Mention). n.name) (cond kind (m ∷ others) others))
      by true is rest =
          let count = how_many is_kind (roles_of m.name mentions) in
          let counted : how_many is_kind (roles_of m.name (m ∷ mentions)) ≡ more count
          = ap (how_many is_kind) (roles-same m.name m mentions (eq-same_name m.name m.name refl)) ∙ ap (λ (b : Bool). cond b (more count) count) is in
          (absent-differs m.name mentions (fewer-zero count (subst (λ (c : Count). is_several c ≡ false) counted (single m.name))), rest)
      by false is rest = rest

-- ---- a rule that no second mention of a kind keeps

module _ (law : NameRule) (makes : Bool) (is_kind : Role → Bool)
    (second : (before rest : List Role) (r : Role) → is_kind r ≡ true → is_one (how_many is_kind before) ≡ true → breaks law makes (before ++ r ∷ rest) before r ≡ true) where
  single-push : (before : List Mention) (m : Mention) → (is_kind m.role ≡ true → is_one (how_many is_kind (roles_of m.name before)) ≡ false) → AreSingle is_kind before → AreSingle is_kind (before ++ m ∷ [])
  single-push before m first single name =
      subst (λ (rs : List Role). is_several (how_many is_kind rs) ≡ false) (sym (roles-append name before (m ∷ []))) (by_name (same_name name m.name) refl)
    where
      said : List Role
      said = roles_of name before

      by_kind : (kind : Bool) → is_kind m.role ≡ kind → name ≡ m.name → is_several (cond kind (more (how_many is_kind said)) (how_many is_kind said)) ≡ false
      by_kind true is same =
          more-single (how_many is_kind said) (subst (λ (n : List ℕ). is_one (how_many is_kind (roles_of n before)) ≡ false) (sym same) (first is)) (single name)
      by_kind false is same = single name

      by_name : (same : Bool) → same_name name m.name ≡ same → is_several (how_many is_kind (said ++ roles_of name (m ∷ []))) ≡ false
      by_name true is =
          subst (λ (rs : List Role). is_several (how_many is_kind (said ++ rs)) ≡ false) (sym (roles-same name m [] is))
          (subst (λ (c : Count). is_several c ≡ false) (sym (count-push is_kind said m.role)) (by_kind (is_kind m.role) refl (same_name-true name m.name is)))
      by_name false is =
          subst (λ (rs : List Role). is_several (how_many is_kind (said ++ rs)) ≡ false) (sym (roles-other name m [] is))
          (subst (λ (rs : List Role). is_several (how_many is_kind rs) ≡ false) (sym (append-nil said)) (single name))

  not_second : (before : List Mention) (m : Mention) (rest : List Mention) → breaks law makes (roles_of m.name (before ++ m ∷ rest)) (roles_of m.name before) m.role ≡ false
      → is_kind m.role ≡ true → is_one (how_many is_kind (roles_of m.name before)) ≡ false
  not_second before m rest keeps is = by (is_one (how_many is_kind said)) refl
    where
      said : List Role
      said = roles_of m.name before

      keeps_it : breaks law makes (said ++ m.role ∷ roles_of m.name rest) said m.role ≡ false
      keeps_it = subst (λ (rs : List Role). breaks law makes rs said m.role ≡ false) (roles-split m before rest) keeps

      by : (b : Bool) → is_one (how_many is_kind said) ≡ b → b ≡ false
      by true one = absurd (let no = second said (roles_of m.name rest) m.role is one in let yes = keeps_it in cc)
      by false one = refl

  single-behind : (all before rest : List Mention) → before ++ rest ≡ all → places_behind law makes all before rest ≡ [] → AreSingle is_kind before → AreSingle is_kind all
  single-behind all before [] is none single = subst (AreSingle is_kind) (sym (append-nil before) ∙ is) single
  single-behind all before (m ∷ rest) is none single =
      let keeps = subst (λ (ms : List Mention). breaks law makes (roles_of m.name ms) (roles_of m.name before) m.role ≡ false) (sym is) (unbroken-first law makes all before m rest none) in
      single-behind all (before ++ m ∷ []) rest (append_assoc before (m ∷ []) rest ∙ is) (unbroken-later law makes all before m rest none)
      (single-push before m (not_second before m rest keeps) single)

  -- so the names of that kind differ where the rule has no place
  pub unbroken-apart : (mentions : List Mention) → breaking_places law makes mentions ≡ [] → AreApart (names_where is_kind mentions)
  unbroken-apart mentions none = single-apart is_kind mentions (single-behind mentions [] mentions refl none (λ name. refl))
