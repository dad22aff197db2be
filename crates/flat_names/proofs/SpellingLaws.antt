-- Two flat names that are written the same are the same.
use Rattle.std.proofs.Common.{◌≡◌, ℕ, zero, suc, ◌+◌, ◌-◌, ◌<◌, ◌≤◌, ◌^◌, Bool, true, false, not, cond, eqb, leb, ltb, ◌||◌, ◌&&◌, ◌==◌, List, [], ◌∷◌, ◌++◌, length, map, Option, Some, None, refl, sym, ap, subst, ◌∙◌, append_assoc, arith, inl, inr}
use Rattle.std.specs.List.{AllByRecursion, All, list_all, flat_map}
use Rattle.std.specs.Fmt.{decimal}
use Rattle.std.specs.Char.{is_ascii_digit}
use Rattle.std.specs.Str.Parse.{AllDigits}
use Rattle.std.proofs.lemmas.Str.Parse.{digit_from_value}
use Rattle.std.proofs.lemmas.Bool.{and_parts, ltb-true, eqb-true, le-leb}
use Rattle.std.proofs.lemmas.List.{append-nil, append_cancel_right}
use Rattle.std.proofs.lemmas.Fmt.{decimal_injective, decimal_is_IsNumeral}
use Rattle.v_lexer.specs.Bytes.{is_visible, is_name_byte, is_letter}
use Rattle.v_lexer.specs.Words.{is_plain, begins_name, is_reserved}
use Rattle.flat_names.specs.Spelling.{Own, Written, Unnamed, FlatName, component, own_spelling, part_spelling, path_spelling, bit_spelling, index_spelling, spelling, IsText, IsOwn, IsIndex, IsFlatName}

-- ---- two lists in a row, of which the first is all of a kind and the second begins with none of it

abbrev Stops : (ℕ → Bool) → List ℕ → Type 0
Stops p [] = Unit {0}
Stops p (b ∷ bs) = p b ≡ false

never : (b : Bool) → b ≡ true → b ≡ false → ⊥
never true e f = cc
never false e f = cc

cut_at : (p : ℕ → Bool) (xs ys front rest : List ℕ) → list_all p xs ≡ true → list_all p ys ≡ true → Stops p front → Stops p rest → xs ++ front ≡ ys ++ rest → (xs ≡ ys) × (front ≡ rest)
cut_at p [] [] front rest all others stop end e = (refl, e)
cut_at p [] (y ∷ ys) [] rest all others stop end e = absurd cc
cut_at p [] (y ∷ ys) (b ∷ front) rest all others stop end e =
    let same : b ≡ y = cc in
    absurd (never (p y) (and_parts (p y) (list_all p ys) others).0 (ap p (sym same) ∙ stop))
cut_at p (x ∷ xs) [] front [] all others stop end e = absurd cc
cut_at p (x ∷ xs) [] front (b ∷ rest) all others stop end e =
    let same : x ≡ b = cc in
    absurd (never (p x) (and_parts (p x) (list_all p xs) all).0 (ap p same ∙ end))
cut_at p (x ∷ xs) (y ∷ ys) front rest all others stop end e =
    let same : x ≡ y = cc in
    let tails : xs ++ front ≡ ys ++ rest = cc in
    let r = cut_at p xs ys front rest (and_parts (p x) (list_all p xs) all).1 (and_parts (p y) (list_all p ys) others).1 stop end tails in
    (ap (λ (b : ℕ). b ∷ xs) same ∙ ap (λ (bs : List ℕ). y ∷ bs) r.0, r.1)

-- the first byte of a list, which is 0 where there is none
abbrev head_of : List ℕ → ℕ
head_of [] = 0
head_of (b ∷ bs) = b

more_than : (m n : ℕ) → n < m → m ≡ n → ⊥
more_than m n lt e = omega arith

-- ---- written names

plain_parts : (name : List ℕ) → is_plain name ≡ true → (begins_name name ≡ true) × (list_all is_name_byte name ≡ true)
plain_parts name e = and_parts (begins_name name) (list_all is_name_byte name) (and_parts (begins_name name && list_all is_name_byte name) (not (is_reserved name)) e).0

-- a visible byte is no space
no_space : (b : ℕ) → is_visible b ≡ true → not (b == 32) ≡ true
no_space b e = by_test (eqb b 32) refl
  where
    by_test : (t : Bool) → eqb b 32 ≡ t → not t ≡ true
    by_test true is = absurd (omega (arith, ltb-true 32 b (and_parts (ltb 32 b) (ltb b 127) e).0, eqb-true b 32 is))
    by_test false is = refl

no_spaces : (bs : List ℕ) → list_all is_visible bs ≡ true → list_all (λ b. not (b == 32)) bs ≡ true
no_spaces [] e = refl
no_spaces (b ∷ bs) e =
    let parts = and_parts (is_visible b) (list_all is_visible bs) e in
    rw (no_space b parts.0) (no_spaces bs parts.1)

-- an escaped name ends at its space
escaped_cut : (name other front rest : List ℕ) → list_all is_visible name ≡ true → list_all is_visible other ≡ true → (92 ∷ (name ++ 32 ∷ [])) ++ front ≡ (92 ∷ (other ++ 32 ∷ [])) ++ rest → (name ≡ other) × (front ≡ rest)
escaped_cut name other front rest visible others e =
    let tails : (name ++ 32 ∷ []) ++ front ≡ (other ++ 32 ∷ []) ++ rest = cc in
    let grouped : name ++ (32 ∷ front) ≡ other ++ (32 ∷ rest) = sym (append_assoc name (32 ∷ []) front) ∙ tails ∙ append_assoc other (32 ∷ []) rest in
    let r = cut_at (λ b. not (b == 32)) name other (32 ∷ front) (32 ∷ rest) (no_spaces name visible) (no_spaces other others) refl refl grouped in
    (r.0, cc)

-- a plain name doesn't begin with a byte that is no letter
plain_begins : (name rest : List ℕ) (b : ℕ) (bs : List ℕ) → begins_name name ≡ true → is_letter b ≡ false → name ++ rest ≡ b ∷ bs → ⊥
plain_begins [] rest b bs begins other e = cc
plain_begins (x ∷ name) rest b bs begins other e =
    let same : x ≡ b = cc in
    never (is_letter b) (ap is_letter (sym same) ∙ begins) other

component_cut : (name other front rest : List ℕ) → list_all is_visible name ≡ true → list_all is_visible other ≡ true → Stops is_name_byte front → Stops is_name_byte rest → component name ++ front ≡ component other ++ rest → (name ≡ other) × (front ≡ rest)
component_cut name other front rest visible others stop end e = by_forms (is_plain name) (is_plain other) refl refl e
  where
    by_forms : (p q : Bool) → is_plain name ≡ p → is_plain other ≡ q → cond p name (92 ∷ (name ++ 32 ∷ [])) ++ front ≡ cond q other (92 ∷ (other ++ 32 ∷ [])) ++ rest → (name ≡ other) × (front ≡ rest)
    by_forms true true is at e = cut_at is_name_byte name other front rest (plain_parts name is).1 (plain_parts other at).1 stop end e
    by_forms true false is at e = absurd (plain_begins name front 92 ((other ++ 32 ∷ []) ++ rest) (plain_parts name is).0 refl e)
    by_forms false true is at e = absurd (plain_begins other rest 92 ((name ++ 32 ∷ []) ++ front) (plain_parts other at).0 refl (sym e))
    by_forms false false is at e = escaped_cut name other front rest visible others e

-- a written name begins with no number sign
component_begins : (name rest : List ℕ) (bs : List ℕ) → component name ++ rest ≡ 35 ∷ bs → ⊥
component_begins name rest bs e = by_form (is_plain name) refl e
  where
    by_form : (p : Bool) → is_plain name ≡ p → cond p name (92 ∷ (name ++ 32 ∷ [])) ++ rest ≡ 35 ∷ bs → ⊥
    by_form true is e = plain_begins name rest 35 bs (plain_parts name is).0 refl e
    by_form false is e = more_than 92 35 (omega arith) (ap head_of e)

-- ---- numbers

all_digits : (ds : List ℕ) → AllDigits 10 ds → list_all is_ascii_digit ds ≡ true
all_digits [] h = refl
all_digits (c ∷ cs) h =
    let range = digit_from_value c h.0 in
    rw (le-leb 48 c range.0) (rw (le-leb c 57 range.1) (all_digits cs h.1))

digits_of : (n : ℕ) → n < 2 ^ 32 → list_all is_ascii_digit (decimal n) ≡ true
digits_of n small = all_digits (decimal n) (decimal_is_IsNumeral n (omega arith)).0.1

number_cut : (m n : ℕ) (front rest : List ℕ) → m < 2 ^ 32 → n < 2 ^ 32 → Stops is_ascii_digit front → Stops is_ascii_digit rest → decimal m ++ front ≡ decimal n ++ rest → (m ≡ n) × (front ≡ rest)
number_cut m n front rest small other stop end e =
    let r = cut_at is_ascii_digit (decimal m) (decimal n) front rest (digits_of m small) (digits_of n other) stop end e in
    (decimal_injective m n (omega arith) (omega arith) r.0, r.1)

-- ---- own names and indexes

-- what follows an own name
record Ends (rest : List ℕ) : Type 0 where
  name : Stops is_name_byte rest
  number : Stops is_ascii_digit rest

own_cut : (own other : Own) (front rest : List ℕ) → IsOwn own → IsOwn other → Ends front → Ends rest → own_spelling own ++ front ≡ own_spelling other ++ rest → (own ≡ other) × (front ≡ rest)
own_cut (Written name) (Written other) front rest is at stop end e =
    let r = component_cut name other front rest is.1 at.1 stop.name end.name e in
    (ap Written r.0, r.1)
own_cut (Written name) (Unnamed n) front rest is at stop end e = absurd (component_begins name front (decimal n ++ rest) e)
own_cut (Unnamed m) (Written other) front rest is at stop end e = absurd (component_begins other rest (decimal m ++ front) (sym e))
own_cut (Unnamed m) (Unnamed n) front rest is at stop end e =
    let tails : decimal m ++ front ≡ decimal n ++ rest = cc in
    let r = number_cut m n front rest is at stop.number end.number tails in
    (ap Unnamed r.0, r.1)

index_ends : (index : Option ℕ) → Ends (index_spelling index)
index_ends None = record { name = tt; number = tt }
index_ends (Some index) = record { name = refl; number = refl }

index_same : (index other : Option ℕ) → IsIndex index → IsIndex other → index_spelling index ≡ index_spelling other → index ≡ other
index_same None None is at e = refl
index_same None (Some n) is at e = absurd (more_than 91 0 (omega arith) (sym (ap head_of e)))
index_same (Some m) None is at e = absurd (more_than 91 0 (omega arith) (ap head_of e))
index_same (Some m) (Some n) is at e =
    let tails : decimal m ++ 93 ∷ [] ≡ decimal n ++ 93 ∷ [] = cc in
    ap Some (decimal_injective m n (omega arith) (omega arith) (append_cancel_right (decimal m) (decimal n) (93 ∷ []) tails))

-- an index is no path
index_no_dot : (index : Option ℕ) (rest : List ℕ) → index_spelling index ≡ 46 ∷ rest → ⊥
index_no_dot None rest e = more_than 46 0 (omega arith) (sym (ap head_of e))
index_no_dot (Some index) rest e = more_than 91 46 (omega arith) (ap head_of e)

dot_ends : (rest : List ℕ) → Ends (46 ∷ rest)
dot_ends rest = record { name = refl; number = refl }

-- an own name with its index is no path
own_no_path : (own : Own) (index : Option ℕ) (part : Own) (rest : List ℕ) → IsOwn own → IsOwn part → own_spelling own ++ index_spelling index ≡ part_spelling part ++ rest → ⊥
own_no_path own index part rest is at e =
    let grouped : own_spelling own ++ index_spelling index ≡ own_spelling part ++ (46 ∷ rest) = e ∙ append_assoc (own_spelling part) (46 ∷ []) rest in
    index_no_dot index rest (own_cut own part (index_spelling index) (46 ∷ rest) is at (index_ends index) (dot_ends rest) grouped).1

-- ---- paths

path_cut : (path other : List Own) (own own' : Own) (index index' : Option ℕ) → AllByRecursion IsOwn path → AllByRecursion IsOwn other → IsOwn own → IsOwn own' → IsIndex index → IsIndex index'
    → path_spelling path ++ (own_spelling own ++ index_spelling index) ≡ path_spelling other ++ (own_spelling own' ++ index_spelling index') → (path ≡ other) × (own ≡ own') × (index ≡ index')
path_cut [] [] own own' index index' p q is at i j e =
    let r = own_cut own own' (index_spelling index) (index_spelling index') is at (index_ends index) (index_ends index') e in
    (refl, r.0, index_same index index' i j r.1)
path_cut [] (part ∷ other) own own' index index' p q is at i j e =
    absurd (own_no_path own index part (path_spelling other ++ (own_spelling own' ++ index_spelling index')) is q.0 (e ∙ append_assoc (part_spelling part) (path_spelling other) (own_spelling own' ++ index_spelling index')))
path_cut (part ∷ path) [] own own' index index' p q is at i j e =
    absurd (own_no_path own' index' part (path_spelling path ++ (own_spelling own ++ index_spelling index)) at p.0 (sym e ∙ append_assoc (part_spelling part) (path_spelling path) (own_spelling own ++ index_spelling index)))
path_cut (part ∷ path) (part' ∷ other) own own' index index' p q is at i j e =
    let rest = path_spelling path ++ (own_spelling own ++ index_spelling index) in
    let rest' = path_spelling other ++ (own_spelling own' ++ index_spelling index') in
    let grouped : own_spelling part ++ (46 ∷ rest) ≡ own_spelling part' ++ (46 ∷ rest')
    = sym (append_assoc (own_spelling part) (46 ∷ []) rest) ∙ sym (append_assoc (part_spelling part) (path_spelling path) (own_spelling own ++ index_spelling index)) ∙ e
    ∙ append_assoc (part_spelling part') (path_spelling other) (own_spelling own' ++ index_spelling index') ∙ append_assoc (own_spelling part') (46 ∷ []) rest' in
    let r = own_cut part part' (46 ∷ rest) (46 ∷ rest') p.0 q.0 (dot_ends rest) (dot_ends rest') grouped in
    let dots : 46 ∷ rest ≡ 46 ∷ rest' = r.1 in
    let tails : rest ≡ rest' = cc in
    let s = path_cut path other own own' index index' p.1 q.1 is at i j tails in
    (ap (λ (n : Own). n ∷ path) r.0 ∙ ap (λ (ns : List Own). part' ∷ ns) s.0, s.1, s.2)

each-from_All : (P : Own → Type 0) (parts : List Own) → All P parts → AllByRecursion P parts
each-from_All P [] h = tt
each-from_All P (part ∷ parts) h = (h 0 part (omega arith), each-from_All P parts (λ k d lt. h (suc k) d (omega arith)))

-- flat names that are written the same are the same
pub spelling-distinct : (a b : FlatName) → IsFlatName a → IsFlatName b → spelling a ≡ spelling b → a ≡ b
spelling-distinct a b is at e =
    let r = path_cut a.path b.path a.own b.own a.index b.index (each-from_All IsOwn a.path is.path) (each-from_All IsOwn b.path at.path) is.own at.own is.index at.index e in
    ap (λ (p : List Own). record { path = p; own = a.own; index = a.index }) r.0
    ∙ ap (λ (o : Own). record { path = b.path; own = o; index = a.index }) r.1
    ∙ ap (λ (i : Option ℕ). record { path = b.path; own = b.own; index = i }) r.2

-- ---- the bytes of a flat name are ASCII

abbrev AreAscii : List ℕ → Type 0
AreAscii bytes = AllByRecursion (λ (b : ℕ). b < 128) bytes

ascii_append : (xs ys : List ℕ) → AreAscii xs → AreAscii ys → AreAscii (xs ++ ys)
ascii_append [] ys h k = k
ascii_append (x ∷ xs) ys h k = (h.0, ascii_append xs ys h.1 k)

ascii_visible : (bs : List ℕ) → list_all is_visible bs ≡ true → AreAscii bs
ascii_visible [] e = tt
ascii_visible (b ∷ bs) e =
    let parts = and_parts (is_visible b) (list_all is_visible bs) e in
    let small = ltb-true b 127 (and_parts (ltb 32 b) (ltb b 127) parts.0).1 in
    (omega arith, ascii_visible bs parts.1)

ascii_digits : (ds : List ℕ) → AllDigits 10 ds → AreAscii ds
ascii_digits [] h = tt
ascii_digits (c ∷ cs) h = (omega (arith, digit_from_value c h.0), ascii_digits cs h.1)

ascii_decimal : (n : ℕ) → n < 2 ^ 32 → AreAscii (decimal n)
ascii_decimal n small = ascii_digits (decimal n) (decimal_is_IsNumeral n (omega arith)).0.1

ascii_component : (name : List ℕ) → list_all is_visible name ≡ true → AreAscii (component name)
ascii_component name e = by_form (is_plain name)
  where
    by_form : (p : Bool) → AreAscii (cond p name (92 ∷ (name ++ 32 ∷ [])))
    by_form true = ascii_visible name e
    by_form false = (omega arith, ascii_append name (32 ∷ []) (ascii_visible name e) (omega arith, tt))

ascii_own : (own : Own) → IsOwn own → AreAscii (own_spelling own)
ascii_own (Written name) is = ascii_component name is.1
ascii_own (Unnamed n) is = (omega arith, ascii_decimal n is)

ascii_index : (index : Option ℕ) → IsIndex index → AreAscii (index_spelling index)
ascii_index None is = tt
ascii_index (Some index) is = (omega arith, ascii_append (decimal index) (93 ∷ []) (ascii_decimal index is) (omega arith, tt))

ascii_path : (path : List Own) → AllByRecursion IsOwn path → AreAscii (path_spelling path)
ascii_path [] h = tt
ascii_path (part ∷ path) h = ascii_append (part_spelling part) (path_spelling path) (ascii_append (own_spelling part) (46 ∷ []) (ascii_own part h.0) (omega arith, tt)) (ascii_path path h.1)

cons_all : (b : ℕ) (bytes : List ℕ) → b < 128 → All (λ (b : ℕ). b < 128) bytes → All (λ (b : ℕ). b < 128) (b ∷ bytes)
cons_all b bytes h k zero d lt = h
cons_all b bytes h k (suc i) d lt = k i d (omega arith)

all_ascii : (bytes : List ℕ) → AreAscii bytes → All (λ (b : ℕ). b < 128) bytes
all_ascii [] h = λ k d lt. absurd (omega arith)
all_ascii (b ∷ bytes) h = cons_all b bytes h.0 (all_ascii bytes h.1)

pub spelling-ascii : (n : FlatName) → IsFlatName n → All (λ (b : ℕ). b < 128) (spelling n)
spelling-ascii n is =
    all_ascii (spelling n) (ascii_append (path_spelling n.path) (own_spelling n.own ++ index_spelling n.index) (ascii_path n.path (each-from_All IsOwn n.path is.path))
    (ascii_append (own_spelling n.own) (index_spelling n.index) (ascii_own n.own is.own) (ascii_index n.index is.index)))
