-- Two tables of names say which names came once.
use Rattle.std.proofs.Common.{◌≡◌, ℕ, ◌+◌, Bool, true, false, cond, not, ◌||◌, ◌&&◌, eqb, ltb, List, [], ◌∷◌, ◌++◌, refl, sym, ap, ◌∙◌, subst, arith, append_assoc, add_assoc}
use Rattle.std.specs.List.{list_any, count_by, fold}
use Rattle.std.proofs.lemmas.List.{append-nil}
use Rattle.std.proofs.lemmas.List.Sums.{sum_by-cons}
use Rattle.std.proofs.lemmas.Bool.Decides.{nat_tests}
use Rattle.std.proofs.lemmas.Slice.Eq.{bytes_eq-Decides}
use Rattle.name_table.specs.Names.{same_name, is_among}
use Rattle.v_tree.specs.declared.locations.Name.{Name}
use Rattle.primitive_rules.specs.declared.counts.NameCounts.{NameCounts}
use Rattle.primitive_rules.specs.Counting.{with_name, count_name, count_names, no_counts, came_once}
use Rattle.primitive_rules.specs.Headers.{count_of, is_once}

is_among-push : (name last : List ℕ) (names : List (List ℕ)) → is_among name (names ++ last ∷ []) ≡ (is_among name names || same_name name last)
is_among-push name last [] = by (same_name name last)
  where
    by : (b : Bool) → (b || false) ≡ b
    by true = refl
    by false = refl
is_among-push name last (other ∷ names) = by (same_name name other) (is_among-push name last names)
  where
    by : (b : Bool) → is_among name (names ++ last ∷ []) ≡ (is_among name names || same_name name last) →
        (b || is_among name (names ++ last ∷ [])) ≡ ((b || is_among name names) || same_name name last)
    by true same = refl
    by false same = same

-- equal names are among the same names
same_among : (a b : List ℕ) (names : List (List ℕ)) → same_name a b ≡ true → is_among a names ≡ is_among b names
same_among a b names same = ap (λ (n : List ℕ). is_among n names) ((bytes_eq-Decides a b).0 same)

or_kept : (b t : Bool) → (t ≡ true → b ≡ true) → b ≡ (b || t)
or_kept true t keeps = refl
or_kept false true keeps = keeps refl
or_kept false false keeps = refl

is_among-with_name : (name last : List ℕ) (names : List (List ℕ)) → is_among name (with_name names last) ≡ (is_among name names || same_name name last)
is_among-with_name name last names = by (is_among last names) refl
  where
    by : (b : Bool) → is_among last names ≡ b → is_among name (cond b names (names ++ last ∷ [])) ≡ (is_among name names || same_name name last)
    by true e = or_kept (is_among name names) (same_name name last) (λ same. same_among name last names same ∙ e)
    by false e = is_among-push name last names

count_of-cons : (name : List ℕ) (other : Name) (names : List Name) → count_of name (other ∷ names) ≡ cond (same_name name other.text) 1 0 + count_of name names
count_of-cons name other names = sum_by-cons (λ (o : Name). cond (same_name name o.text) 1 0) other names

count_of-push : (name : List ℕ) (names : List Name) (last : Name) → count_of name (names ++ last ∷ []) ≡ count_of name names + cond (same_name name last.text) 1 0
count_of-push name [] last = refl
count_of-push name (other ∷ names) last =
    count_of-cons name other (names ++ last ∷ [])
    ∙ (ap (λ (n : ℕ). cond (same_name name other.text) 1 0 + n) (count_of-push name names last)
    ∙ (sym (add_assoc (cond (same_name name other.text) 1 0) (count_of name names) (cond (same_name name last.text) 1 0))
    ∙ ap (λ (n : ℕ). n + cond (same_name name last.text) 1 0) (sym (count_of-cons name other names))))

-- the tables say which of the names came, and which came again
pub record AreCounted (names : List Name) (c : NameCounts) : Type 0 where
  pub seen : (name : List ℕ) → is_among name c.seen ≡ ltb 0 (count_of name names)
  pub again : (name : List ℕ) → is_among name c.again ≡ ltb 1 (count_of name names)

more_seen : (n : ℕ) (t : Bool) → (ltb 0 n || t) ≡ ltb 0 (n + cond t 1 0)
more_seen n true = grind (arith, nat_tests)
more_seen n false = grind (arith, nat_tests)

kept_seen : (n : ℕ) (t : Bool) → (t ≡ true → ltb 0 n ≡ true) → ltb 0 n ≡ ltb 0 (n + cond t 1 0)
kept_seen n true some = let h : ltb 0 n ≡ true = some refl in grind (arith, nat_tests, h)
kept_seen n false some = grind (arith, nat_tests)

more_again : (n : ℕ) (t : Bool) → (t ≡ true → ltb 0 n ≡ true) → (ltb 1 n || t) ≡ ltb 1 (n + cond t 1 0)
more_again n true some = let h : ltb 0 n ≡ true = some refl in grind (arith, nat_tests, h)
more_again n false some = grind (arith, nat_tests)

kept_again : (n : ℕ) (t : Bool) → (t ≡ true → ltb 0 n ≡ false) → ltb 1 n ≡ ltb 1 (n + cond t 1 0)
kept_again n true none = let h : ltb 0 n ≡ false = none refl in grind (arith, nat_tests, h)
kept_again n false none = grind (arith, nat_tests)

AreCounted-name : (names : List Name) (c : NameCounts) (last : Name) → AreCounted names c → AreCounted (names ++ last ∷ []) (count_name c last)
AreCounted-name names c last are = by (is_among last.text c.seen) refl
  where
    seen_as : (b : Bool) → is_among last.text c.seen ≡ b → (name : List ℕ) → same_name name last.text ≡ true → ltb 0 (count_of name names) ≡ b
    seen_as b e name same = sym (are.seen name) ∙ (same_among name last.text c.seen same ∙ e)

    by : (b : Bool) → is_among last.text c.seen ≡ b → AreCounted (names ++ last ∷ [])
        (cond b (record { seen = c.seen; again = with_name c.again last.text }) (record { seen = c.seen ++ last.text ∷ []; again = c.again }))
    by true e = record {
      seen = λ name. are.seen name ∙ (kept_seen (count_of name names) (same_name name last.text) (seen_as true e name) ∙ ap (λ (n : ℕ). ltb 0 n) (sym (count_of-push name names last)));
      again = λ name.
          is_among-with_name name last.text c.again
          ∙ (ap (λ (b : Bool). b || same_name name last.text) (are.again name)
          ∙ (more_again (count_of name names) (same_name name last.text) (seen_as true e name) ∙ ap (λ (n : ℕ). ltb 1 n) (sym (count_of-push name names last))));
    }
    by false e = record {
      seen = λ name.
          is_among-push name last.text c.seen
          ∙ (ap (λ (b : Bool). b || same_name name last.text) (are.seen name)
          ∙ (more_seen (count_of name names) (same_name name last.text) ∙ ap (λ (n : ℕ). ltb 0 n) (sym (count_of-push name names last))));
      again = λ name. are.again name ∙ (kept_again (count_of name names) (same_name name last.text) (seen_as false e name) ∙ ap (λ (n : ℕ). ltb 1 n) (sym (count_of-push name names last)));
    }

AreCounted-more : (before names : List Name) (c : NameCounts) → AreCounted before c → AreCounted (before ++ names) (count_names c names)
AreCounted-more before [] c are = subst (λ (ns : List Name). AreCounted ns c) (sym (append-nil before)) are
AreCounted-more before (name ∷ names) c are =
    subst (λ (ns : List Name). AreCounted ns (count_names (count_name c name) names)) (append_assoc before (name ∷ []) names)
    (AreCounted-more (before ++ name ∷ []) names (count_name c name) (AreCounted-name before c name are))

pub AreCounted-all : (names : List Name) → AreCounted names (count_names no_counts names)
AreCounted-all names = AreCounted-more [] names no_counts (record { seen = λ name. refl; again = λ name. refl })

once : (n : ℕ) → (ltb 0 n && not (ltb 1 n)) ≡ eqb n 1
once n = grind (arith, nat_tests)

-- a name came once where it stands once among the names
pub came_once-is_once : (names : List Name) (name : List ℕ) → came_once (count_names no_counts names) name ≡ is_once name names
came_once-is_once names name =
    let are = AreCounted-all names in
    ap (λ (b : Bool). b && not (is_among name (count_names no_counts names).again)) (are.seen name)
    ∙ (ap (λ (b : Bool). ltb 0 (count_of name names) && not b) (are.again name) ∙ once (count_of name names))

some_counted : (name : List ℕ) (names : List Name) → ltb 0 (count_of name names) ≡ list_any (λ other. same_name name other.text) names
some_counted name [] = refl
some_counted name (other ∷ names) =
    ap (λ (n : ℕ). ltb 0 n) (count_of-cons name other names) ∙ by (same_name name other.text) (count_of name names) (some_counted name names)
  where
    by : (t : Bool) (n : ℕ) → ltb 0 n ≡ list_any (λ o. same_name name o.text) names → ltb 0 (cond t 1 0 + n) ≡ (t || list_any (λ o. same_name name o.text) names)
    by true n same = grind (arith, nat_tests)
    by false n same = let same_n : 0 + n ≡ n = omega arith in ap (λ (k : ℕ). ltb 0 k) same_n ∙ same

-- a name came where it stands among the names
pub is_among-counted : (names : List Name) (name : List ℕ) → is_among name (count_names no_counts names).seen ≡ list_any (λ other. same_name name other.text) names
is_among-counted names name = (AreCounted-all names).seen name ∙ some_counted name names
