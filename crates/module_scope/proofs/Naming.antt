-- Names and their indices.
use Rattle.std.proofs.Common.{◌≡◌, ℕ, suc, ◌+◌, ◌<◌, Bool, true, false, cond, ◌||◌, List, [], ◌∷◌, ◌++◌, length, get_or, Option, None, Some, Result, Ok, Err, OnOk, OnErr, refl, sym, ap, subst, ◌∙◌, arith, length-append, append_assoc}
use Rattle.std.specs.Option.{option_map}
use Rattle.std.specs.List.{All}
use Rattle.std.proofs.lemmas.Slice.Eq.{bytes_eq-Decides}
use Rattle.std.proofs.lemmas.List.{append-nil, map-append, get_or_append_left}
use Rattle.std.proofs.lemmas.List.Elements.{All-head, All-tail, All-push, All-weaker}
use Rattle.std.proofs.Math.Seq.{get_or-append_seam}
use Rattle.name_table.specs.Names.{same_name, is_among, index_of}
use Rattle.v_tree.specs.declared.locations.Location.{Location}
use Rattle.v_tree.specs.declared.locations.Name.{Name}
use Rattle.module_scope.specs.declared.roles.Role.{Role}
use Rattle.module_scope.specs.declared.mentions.Occurrence.{Occurrence}
use Rattle.module_scope.specs.Mentions.{Mention, mention, new_names, first_names}
use Rattle.module_scope.specs.Occurrences.{occurrence, mention_at, mentions_at, AreOccurrences}

-- what holds after a step that may fail, where it holds with the step done and without it
pub either_way : {X T E : Type 0} (P : X → Type 0) (r : Result T E) (new made old : X) → OnOk r (new ≡ made) → OnErr r (new ≡ old) → P made → P old → P new
either_way P (Ok t) new made old ok err with without = subst P (sym ok) with
either_way P (Err e) new made old ok err with without = subst P (sym err) without

-- the same of a fact that the step gives where it is done
pub on_ok : {X T E : Type 0} (r : Result T E) (new made : X) (Done : Type 0) → OnOk r (new ≡ made) → (new ≡ made → Done) → OnOk r Done
on_ok (Ok t) new made Done ok then = then ok
on_ok (Err e) new made Done ok then = tt

pub on_ok_both : {X Y T E : Type 0} (r : Result T E) (new made : X) (new2 made2 : Y) (Done : Type 0) → OnOk r (new ≡ made) → OnOk r (new2 ≡ made2) → (new ≡ made → new2 ≡ made2 → Done) → OnOk r Done
on_ok_both (Ok t) new made new2 made2 Done ok ok2 then = then ok ok2
on_ok_both (Err e) new made new2 made2 Done ok ok2 then = tt

pub either_way_both : {X Y T E : Type 0} (P : X → Y → Type 0) (r : Result T E) (new made old : X) (new2 made2 old2 : Y) → OnOk r (new ≡ made) → OnErr r (new ≡ old) → OnOk r (new2 ≡ made2) → OnErr r (new2 ≡ old2) → P made made2 → P old old2 → P new new2
either_way_both P (Ok t) new made old new2 made2 old2 ok err ok2 err2 with without = subst (λ x. P x new2) (sym ok) (subst (λ y. P made y) (sym ok2) with)
either_way_both P (Err e) new made old new2 made2 old2 ok err ok2 err2 with without = subst (λ x. P x new2) (sym err) (subst (λ y. P old y) (sym err2) without)

-- ---- equal names

pub same_name-true : (a b : List ℕ) → same_name a b ≡ true → a ≡ b
same_name-true a b same = (bytes_eq-Decides a b).0 same

pub eq-same_name : (a b : List ℕ) → a ≡ b → same_name a b ≡ true
eq-same_name a b same = (bytes_eq-Decides a b).1 same

-- ---- where a name stands

pub index_within : (name : List ℕ) (names : List (List ℕ)) (k : ℕ) → index_of name names ≡ Some k → k < length names
index_within name [] k found = absurd cc
index_within name (other ∷ others) k found = by (same_name name other) (index_of name others) (index_within name others) found
  where
    by : (same : Bool) (rest : Option ℕ) → ((j : ℕ) → rest ≡ Some j → j < length others) → cond same (Some 0) (option_map (λ n. suc n) rest) ≡ Some k → k < suc (length others)
    by true rest below e = let first : 0 ≡ k = cc in omega arith
    by false (Some j) below e = let next : suc j ≡ k = cc in omega (arith, below j refl)
    by false None below e = absurd cc

pub index_name : (name : List ℕ) (names : List (List ℕ)) (k : ℕ) → index_of name names ≡ Some k → get_or names k [] ≡ name
index_name name [] k found = absurd cc
index_name name (other ∷ others) k found = by (same_name name other) refl (index_of name others) (index_name name others) found
  where
    by : (same : Bool) → same_name name other ≡ same → (rest : Option ℕ) → ((j : ℕ) → rest ≡ Some j → get_or others j [] ≡ name) → cond same (Some 0) (option_map (λ n. suc n) rest) ≡ Some k → get_or (other ∷ others) k [] ≡ name
    by true is rest there e = let first : 0 ≡ k = cc in subst (λ (n : ℕ). get_or (other ∷ others) n [] ≡ name) first (sym (same_name-true name other is))
    by false is (Some j) there e = let next : suc j ≡ k = cc in subst (λ (n : ℕ). get_or (other ∷ others) n [] ≡ name) next (there j refl)
    by false is None there e = absurd cc

pub index_among : (name : List ℕ) (names : List (List ℕ)) (k : ℕ) → index_of name names ≡ Some k → is_among name names ≡ true
index_among name [] k found = absurd cc
index_among name (other ∷ others) k found = by (same_name name other) (index_of name others) (index_among name others) found
  where
    by : (same : Bool) (rest : Option ℕ) → ((j : ℕ) → rest ≡ Some j → is_among name others ≡ true) → cond same (Some 0) (option_map (λ n. suc n) rest) ≡ Some k → (same || is_among name others) ≡ true
    by true rest among e = refl
    by false (Some j) among e = among j refl
    by false None among e = absurd cc

pub index_absent : (name : List ℕ) (names : List (List ℕ)) → index_of name names ≡ None → is_among name names ≡ false
index_absent name [] absent = refl
index_absent name (other ∷ others) absent = by (same_name name other) (index_of name others) (index_absent name others) absent
  where
    by : (same : Bool) (rest : Option ℕ) → (rest ≡ None → is_among name others ≡ false) → cond same (Some 0) (option_map (λ n. suc n) rest) ≡ None → (same || is_among name others) ≡ false
    by true rest among e = absurd cc
    by false (Some j) among e = absurd cc
    by false None among e = among refl

-- ---- names in the order of their first mentions

-- the name, unless it stands among others
abbrev pub unless_among : List ℕ → List (List ℕ) → List (List ℕ)
unless_among name others = cond (is_among name others) [] (name ∷ [])

new_names-push : (before : List (List ℕ)) (mentions : List Mention) (m : Mention) → new_names before (mentions ++ m ∷ []) ≡ new_names before mentions ++ unless_among m.name (before ++ new_names before mentions)
new_names-push before [] m = ap (λ (others : List (List ℕ)). unless_among m.name others) (sym (append-nil before))
new_names-push before (first ∷ mentions) m =
    by (is_among first.name before) (new_names-push before mentions m) (new_names-push (before ++ first.name ∷ []) mentions m)
  where
    by : (among : Bool)
        → new_names before (mentions ++ m ∷ []) ≡ new_names before mentions ++ unless_among m.name (before ++ new_names before mentions)
        → new_names (before ++ first.name ∷ []) (mentions ++ m ∷ []) ≡ new_names (before ++ first.name ∷ []) mentions ++ unless_among m.name ((before ++ first.name ∷ []) ++ new_names (before ++ first.name ∷ []) mentions)
        → cond among (new_names before (mentions ++ m ∷ [])) (first.name ∷ new_names (before ++ first.name ∷ []) (mentions ++ m ∷ []))
        ≡ cond among (new_names before mentions) (first.name ∷ new_names (before ++ first.name ∷ []) mentions)
        ++ unless_among m.name (before ++ cond among (new_names before mentions) (first.name ∷ new_names (before ++ first.name ∷ []) mentions))
    by true again fresh = again
    by false again fresh =
        let rest = new_names (before ++ first.name ∷ []) mentions in
        ap (λ (names : List (List ℕ)). first.name ∷ names) fresh
        ∙ ap (λ (others : List (List ℕ)). first.name ∷ (rest ++ unless_among m.name others)) (append_assoc before (first.name ∷ []) rest)

pub first_names-push : (mentions : List Mention) (m : Mention) → first_names (mentions ++ m ∷ []) ≡ first_names mentions ++ unless_among m.name (first_names mentions)
first_names-push mentions m = new_names-push [] mentions m

pub first_names-again : (mentions : List Mention) (m : Mention) → is_among m.name (first_names mentions) ≡ true → first_names (mentions ++ m ∷ []) ≡ first_names mentions
first_names-again mentions m among =
    first_names-push mentions m
    ∙ ap (λ (b : Bool). first_names mentions ++ cond b [] (m.name ∷ [])) among
    ∙ append-nil (first_names mentions)

pub first_names-first : (mentions : List Mention) (m : Mention) → is_among m.name (first_names mentions) ≡ false → first_names (mentions ++ m ∷ []) ≡ first_names mentions ++ m.name ∷ []
first_names-first mentions m among =
    first_names-push mentions m
    ∙ ap (λ (b : Bool). first_names mentions ++ cond b [] (m.name ∷ [])) among

-- ---- occurrences

abbrev with_name : Location → Role → List ℕ → Mention
with_name location r name = record { name = name; location = location; role = r }

-- one more name changes no mention of those before it
pub mentions_at-more : (names : List (List ℕ)) (last : List ℕ) (occurrences : List Occurrence) → All (λ o. o.name < length names) occurrences → mentions_at (names ++ last ∷ []) occurrences ≡ mentions_at names occurrences
mentions_at-more names last [] within = refl
mentions_at-more names last (o ∷ occurrences) within =
    let here : o.name < length names = All-head (λ (p : Occurrence). p.name < length names) o occurrences within in
    let same : get_or (names ++ last ∷ []) o.name [] ≡ get_or names o.name [] = get_or_append_left names (last ∷ []) [] o.name here in
    let rest : mentions_at (names ++ last ∷ []) occurrences ≡ mentions_at names occurrences = mentions_at-more names last occurrences (All-tail (λ (p : Occurrence). p.name < length names) o occurrences within) in
    ap (λ (name : List ℕ). with_name o.location o.role name ∷ mentions_at (names ++ last ∷ []) occurrences) same
    ∙ ap (λ (ms : List Mention). mention_at names o ∷ ms) rest

module _ (names : List (List ℕ)) (occurrences : List Occurrence) (r : Role) (name : Name) where
  -- the occurrence of a name at its index is its mention
  at_index : (others : List (List ℕ)) (k : ℕ) → get_or others k [] ≡ name.text → mention_at others (occurrence k name r) ≡ mention r name
  at_index others k is = ap (λ (text : List ℕ). with_name name.location r text) is

  pub mentions_at-again : (k : ℕ) → index_of name.text names ≡ Some k → mentions_at names (occurrences ++ occurrence k name r ∷ []) ≡ mentions_at names occurrences ++ mention r name ∷ []
  mentions_at-again k found =
      map-append (mention_at names) occurrences (occurrence k name r ∷ [])
      ∙ ap (λ (m : Mention). mentions_at names occurrences ++ m ∷ []) (at_index names k (index_name name.text names k found))

  pub mentions_at-first : All (λ o. o.name < length names) occurrences → mentions_at (names ++ name.text ∷ []) (occurrences ++ occurrence (length names) name r ∷ []) ≡ mentions_at names occurrences ++ mention r name ∷ []
  mentions_at-first within =
      map-append (mention_at (names ++ name.text ∷ [])) occurrences (occurrence (length names) name r ∷ [])
      ∙ ap (λ (ms : List Mention). ms ++ mention_at (names ++ name.text ∷ []) (occurrence (length names) name r) ∷ []) (mentions_at-more names name.text occurrences within)
      ∙ ap (λ (m : Mention). mentions_at names occurrences ++ m ∷ []) (at_index (names ++ name.text ∷ []) (length names) (get_or-append_seam names name.text [] []))

  pub AreOccurrences-again : AreOccurrences names occurrences → (k : ℕ) → index_of name.text names ≡ Some k → AreOccurrences names (occurrences ++ occurrence k name r ∷ [])
  AreOccurrences-again are k found = record {
    within = All-push (λ (o : Occurrence). o.name < length names) occurrences (occurrence k name r) are.within (index_within name.text names k found);
    order =
        let among : is_among name.text (first_names (mentions_at names occurrences)) ≡ true = subst (λ (ns : List (List ℕ)). is_among name.text ns ≡ true) are.order (index_among name.text names k found) in
        are.order ∙ sym (ap first_names (mentions_at-again k found) ∙ first_names-again (mentions_at names occurrences) (mention r name) among);
  }

  pub AreOccurrences-first : AreOccurrences names occurrences → is_among name.text names ≡ false → AreOccurrences (names ++ name.text ∷ []) (occurrences ++ occurrence (length names) name r ∷ [])
  AreOccurrences-first are absent = record {
    within =
        let more : length (names ++ name.text ∷ []) ≡ length names + 1 = length-append names (name.text ∷ []) in
        All-push (λ (o : Occurrence). o.name < length (names ++ name.text ∷ [])) occurrences (occurrence (length names) name r)
        (All-weaker (λ (o : Occurrence). o.name < length names) (λ (o : Occurrence). o.name < length (names ++ name.text ∷ [])) (λ o lt. omega arith) occurrences are.within)
        (omega arith);
    order =
        let among : is_among name.text (first_names (mentions_at names occurrences)) ≡ false = subst (λ (ns : List (List ℕ)). is_among name.text ns ≡ false) are.order absent in
        ap (λ (ns : List (List ℕ)). ns ++ name.text ∷ []) are.order
        ∙ sym (ap first_names (mentions_at-first are.within) ∙ first_names-first (mentions_at names occurrences) (mention r name) among);
  }
