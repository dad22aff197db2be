-- The counts of a schedule.
use Rattle.std.proofs.Common.{◌≡◌, ℕ, zero, suc, ◌+◌, ◌-◌, ◌*◌, ◌<◌, ◌≤◌, ◌^◌, Bool, true, false, not, cond, leb, ltb, ◌&&◌, ◌||◌, max, min, List, [], ◌∷◌, ◌++◌, length, take, drop, get_or, map, refl, sym, ap, subst, ◌∙◌, append_assoc, arith, inl, inr}
use Rattle.std.specs.Prelude.{filter, flat_map, slice_range, All}
use Rattle.std.specs.List.{list_all, range_with_len}
use Rattle.std.proofs.lemmas.Bool.{cases_Bool, cases_lt, le-leb, lt-leb, lt-ltb, le-ltb}
use Rattle.std.proofs.lemmas.List.{append-nil, take_more, take_all, take_at, drop_all, drop_at, get_or-take, get_or-drop, get_or_append_left, length-take-le, length-drop, length-append, take-append-drop, map-append, map-id}
use Rattle.std.proofs.lemmas.List.FromFn.{map-range_with_len_more}
use Rattle.std.proofs.lemmas.Grind.{flat_map-append}
use Rattle.std.proofs.lemmas.List.Sums.{sum_by_push}
use Rattle.vector_text.specs.declared.vectors.VectorLine.{VectorLine}
use Rattle.vector_text.specs.Written.{later_line, size_of, total_size, is_strobe, none_later, may_strobe}
use Rattle.vector_text.specs.Inside.{behind_all, behind_strobes, strobes_with, AreCounts}

behind_all-push : (lines : List VectorLine) (line : VectorLine) → behind_all (lines ++ line ∷ []) ≡ max (behind_all lines) (line.time + 1)
behind_all-push [] line = omega arith
behind_all-push (x ∷ lines) line =
    let rest = behind_all-push lines line in
    omega (arith, rest)

-- one more than the greatest time is at most the time, where each time is below it
leb_max : (a b t : ℕ) → leb (max (a + 1) b) t ≡ (ltb a t && leb b t)
leb_max a b t =
    elim (cases_lt a t) [
      | inl lt ↦ elim (cases_lt t b) [
        | inl far ↦ lt-leb (max (a + 1) b) t (omega arith) ∙ sym (rw (lt-ltb a t lt, lt-leb b t far) refl)
        | inr near ↦ le-leb (max (a + 1) b) t (omega arith) ∙ sym (rw (lt-ltb a t lt, le-leb b t near) refl)
      ]
      | inr le ↦ lt-leb (max (a + 1) b) t (omega arith) ∙ sym (rw (le-ltb a t le) refl)
    ]

pub behind_all-leb : (lines : List VectorLine) (t : ℕ) → leb (behind_all lines) t ≡ list_all (λ (line : VectorLine). ltb line.time t) lines
behind_all-leb [] t = le-leb 0 t (omega arith)
behind_all-leb (line ∷ lines) t = leb_max line.time (behind_all lines) t ∙ ap (λ (b : Bool). ltb line.time t && b) (behind_all-leb lines t)

ltb_suc : (a t : ℕ) → ltb a (t + 1) ≡ leb a t
ltb_suc a t =
    elim (cases_lt t a) [
      | inl lt ↦ le-ltb a (t + 1) (omega arith) ∙ sym (lt-leb a t lt)
      | inr le ↦ lt-ltb a (t + 1) (omega arith) ∙ sym (le-leb a t le)
    ]

all_later : (lines : List VectorLine) (t : ℕ) → list_all (λ (line : VectorLine). ltb line.time (t + 1)) lines ≡ none_later lines t
all_later [] t = refl
all_later (line ∷ lines) t = ap (λ (b : Bool). b && list_all (λ (x : VectorLine). ltb x.time (t + 1)) lines) (ltb_suc line.time t) ∙ ap (λ (b : Bool). leb line.time t && b) (all_later lines t)

pub none_later-leb : (lines : List VectorLine) (t : ℕ) → leb (behind_all lines) (t + 1) ≡ none_later lines t
none_later-leb lines t = behind_all-leb lines (t + 1) ∙ all_later lines t

-- a time so great that one more doesn't fit its type
pub leb_capped : (n t : ℕ) → n < 2 ^ 64 → leb n (min (t + 1) (2 ^ 64 - 1)) ≡ leb n (t + 1)
leb_capped n t small =
    elim (cases_lt (t + 1) n) [
      | inl far ↦ lt-leb n (min (t + 1) (2 ^ 64 - 1)) (omega arith) ∙ sym (lt-leb n (t + 1) far)
      | inr near ↦ le-leb n (min (t + 1) (2 ^ 64 - 1)) (omega arith) ∙ sym (le-leb n (t + 1) near)
    ]

strobe_first : (strobe : Bool) (line : VectorLine) (lines : List VectorLine) (t : ℕ) → list_all (λ (x : VectorLine). ltb x.time t) (cond strobe (line ∷ lines) lines) ≡ ((not strobe || ltb line.time t) && list_all (λ (x : VectorLine). ltb x.time t) lines)
strobe_first true line lines t = refl
strobe_first false line lines t = refl

strobes_before : (lines : List VectorLine) (t : ℕ) → list_all (λ (line : VectorLine). ltb line.time t) (filter (λ (line : VectorLine). is_strobe line.what) lines) ≡ list_all (λ (line : VectorLine). not (is_strobe line.what) || ltb line.time t) lines
strobes_before [] t = refl
strobes_before (line ∷ lines) t =
    strobe_first (is_strobe line.what) line (filter (λ (x : VectorLine). is_strobe x.what) lines) t
    ∙ ap (λ (b : Bool). (not (is_strobe line.what) || ltb line.time t) && b) (strobes_before lines t)

pub strobes-leb : (lines : List VectorLine) (t : ℕ) → leb (behind_strobes lines) t ≡ list_all (λ (line : VectorLine). not (is_strobe line.what) || ltb line.time t) lines
strobes-leb lines t = behind_all-leb (filter (λ (line : VectorLine). is_strobe line.what) lines) t ∙ strobes_before lines t

-- ---- a line is put at the end

filter-push : (p : VectorLine → Bool) (lines : List VectorLine) (line : VectorLine) → filter p (lines ++ line ∷ []) ≡ filter p lines ++ filter p (line ∷ [])
filter-push p [] line = refl
filter-push p (x ∷ lines) line =
    elim (cases_Bool (p x)) [
      | inl e ↦ rw e (ap (λ (xs : List VectorLine). x ∷ xs) (filter-push p lines line))
      | inr e ↦ rw e (filter-push p lines line)
    ]

behind_if : (lines : List VectorLine) (line : VectorLine) (strobe : Bool) → behind_all (lines ++ cond strobe (line ∷ []) []) ≡ strobes_with strobe (behind_all lines) line.time
behind_if lines line true = behind_all-push lines line
behind_if lines line false = ap behind_all (append-nil lines)

pub counts_push : (lines : List VectorLine) (line : VectorLine) (all strobes size : ℕ) → AreCounts lines all strobes size
    → AreCounts (lines ++ line ∷ []) (max all (line.time + 1)) (strobes_with (is_strobe line.what) strobes line.time) (min (size + size_of line.what) (2 ^ 64 - 1))
counts_push lines line all strobes size counts = record {
  behind_lines = ap (λ (n : ℕ). max n (line.time + 1)) counts.behind_lines ∙ sym (behind_all-push lines line);
  behind_strobe = ap (λ (n : ℕ). strobes_with (is_strobe line.what) n line.time) counts.behind_strobe
      ∙ sym (ap behind_all (filter-push (λ (x : VectorLine). is_strobe x.what) lines line) ∙ behind_if (filter (λ (x : VectorLine). is_strobe x.what) lines) line (is_strobe line.what));
  total = (let e = counts.total in
      let f : total_size (lines ++ line ∷ []) ≡ total_size lines + size_of line.what = sum_by_push (λ (x : VectorLine). size_of x.what) lines line in
      omega arith);
}

pub may_strobe-early : (lines : List VectorLine) (time : ℕ) → none_later lines time ≡ true → list_all (λ (line : VectorLine). not (is_strobe line.what) || ltb line.time time) lines ≡ may_strobe lines time
may_strobe-early lines time e = sym (rw e refl)

-- ---- turns

item_before : (old lines more : List VectorLine) (k : ℕ) (x : VectorLine) → lines ≡ old ++ more → k < length old → x ≡ get_or lines k x → x ≡ get_or old k x
item_before old lines more k x e lt is = is ∙ ap (λ (ls : List VectorLine). get_or ls k x) e ∙ get_or_append_left old more x k lt

range_item : (old : List VectorLine) (first last k : ℕ) (d : VectorLine) → first ≤ k → k < last → get_or (slice_range old first last) (k - first) d ≡ get_or old k d
range_item old first last k d le lt =
    get_or-take (last - first) (drop first old) (k - first) d (omega arith) ∙ get_or-drop first old (k - first) d ∙ ap (λ (j : ℕ). get_or old j d) (omega arith)

-- an element of the range meets what all do
pub range_small : (P : VectorLine → Type 0) (old lines more : List VectorLine) (first last k : ℕ) (x : VectorLine) → first ≤ k → k < last → last ≤ length old → lines ≡ old ++ more → x ≡ get_or lines k x → All P (slice_range old first last) → P x
range_small P old lines more first last k x le lt inside e is all =
    let here : x ≡ get_or old k x = item_before old lines more k x e (omega arith) is in
    let long : length (slice_range old first last) ≡ last - first = length-take-le (last - first) (drop first old) (omega (arith, length-drop first old)) in
    subst P (range_item old first last k x le lt ∙ sym here) (all (k - first) x (omega arith))

-- a turn with one more line
pub turn_more : (old self next lines : List VectorLine) (by first k : ℕ) (x line : VectorLine) → self ≡ old ++ map (later_line by) (slice_range old first k) → next ≡ self ++ line ∷ [] → line ≡ later_line by x → first ≤ k → k < length old → lines ≡ self → x ≡ get_or lines k x
    → next ≡ old ++ map (later_line by) (slice_range old first (k + 1))
turn_more old self next lines by first k x line e f g le lt same is =
    let here : x ≡ get_or old k x = item_before old lines (map (later_line by) (slice_range old first k)) k x (same ∙ e) lt is in
    let at : get_or (drop first old) (k - first) x ≡ x = get_or-drop first old (k - first) x ∙ ap (λ (j : ℕ). get_or old j x) (omega arith) ∙ sym here in
    let count : k + 1 - first ≡ (k - first) + 1 = omega arith in
    let more : take ((k - first) + 1) (drop first old) ≡ take (k - first) (drop first old) ++ get_or (drop first old) (k - first) x ∷ [] = take_more (drop first old) (k - first) x (omega (arith, length-drop first old)) in
    let range : slice_range old first (k + 1) ≡ slice_range old first k ++ x ∷ []
    = ap (λ (n : ℕ). take n (drop first old)) count ∙ more ∙ ap (λ (y : VectorLine). take (k - first) (drop first old) ++ y ∷ []) at in
    f ∙ ap (λ (ls : List VectorLine). ls ++ line ∷ []) e ∙ append_assoc old (map (later_line by) (slice_range old first k)) (line ∷ [])
    ∙ ap (λ (ls : List VectorLine). old ++ ls) (ap (λ (y : VectorLine). map (later_line by) (slice_range old first k) ++ y ∷ []) g ∙ sym (map-append (later_line by) (slice_range old first k) (x ∷ [])) ∙ ap (map (later_line by)) (sym range))

-- all turns up to one
abbrev pub turns_up_to : ℕ → List VectorLine → ℕ → List VectorLine
turns_up_to period lines n = flat_map (λ turn. map (later_line (turn * period)) lines) (range_with_len 0 n)

no_turns : (period : ℕ) (a n : ℕ) → flat_map (λ (turn : ℕ). map (later_line (turn * period)) []) (range_with_len a n) ≡ []
no_turns period a zero = refl
no_turns period a (suc n) = no_turns period (a + 1) n

pub turns_none : (lines : List VectorLine) (first count period : ℕ) → length lines ≤ first → lines ≡ take first lines ++ turns_up_to period (drop first lines) count
turns_none lines first count period le =
    sym (ap (λ (ls : List VectorLine). take first lines ++ turns_up_to period ls count) (drop_all first lines le) ∙ ap (λ (ls : List VectorLine). take first lines ++ ls) (no_turns period 0 count) ∙ append-nil (take first lines) ∙ take_all first lines le)

later_line-zero : (by : ℕ) (lines : List VectorLine) → by ≡ 0 → map (later_line by) lines ≡ lines
later_line-zero by [] e = refl
later_line-zero by (line ∷ lines) e =
    let same : line.time + by ≡ line.time = omega arith in
    ap (λ (t : ℕ). record line { time = t } ∷ map (later_line by) lines) same ∙ ap (λ (ls : List VectorLine). line ∷ ls) (later_line-zero by lines e)

pub turns_first : (lines : List VectorLine) (first period : ℕ) → lines ≡ take first lines ++ turns_up_to period (drop first lines) 1
turns_first lines first period =
    sym (ap (λ (ls : List VectorLine). take first lines ++ ls) (append-nil (map (later_line (0 * period)) (drop first lines)) ∙ later_line-zero (0 * period) (drop first lines) (omega arith)) ∙ take-append-drop first lines)

-- the first turn stands where it stood
pub turns_range : (lines self : List VectorLine) (first last period n : ℕ) → last ≡ length lines → first ≤ last → 0 < n → self ≡ take first lines ++ turns_up_to period (drop first lines) n → slice_range self first last ≡ drop first lines
turns_range lines self first last period zero e le some is = absurd (omega arith)
turns_range lines self first last period (suc n) e le some is =
    let rest = flat_map (λ (turn : ℕ). map (later_line (turn * period)) (drop first lines)) (range_with_len 1 n) in
    let front : length (take first lines) ≡ first = length-take-le first lines (omega arith) in
    let whole : self ≡ take first lines ++ (drop first lines ++ rest) = is ∙ ap (λ (ls : List VectorLine). take first lines ++ (ls ++ rest)) (later_line-zero (0 * period) (drop first lines) (omega arith)) in
    let back : drop first self ≡ drop first lines ++ rest = ap (drop first) whole ∙ drop_at (take first lines) (drop first lines ++ rest) first front in
    let long : length (drop first lines) ≡ last - first = length-drop first lines ∙ ap (λ (m : ℕ). m - first) (sym e) in
    ap (take (last - first)) back ∙ take_at (drop first lines) rest (last - first) long

pub turns_more : (lines self next : List VectorLine) (first last period n : ℕ) → last ≡ length lines → first ≤ last → 0 < n → self ≡ take first lines ++ turns_up_to period (drop first lines) n
    → next ≡ self ++ map (later_line (n * period)) (slice_range self first last) → next ≡ take first lines ++ turns_up_to period (drop first lines) (n + 1)
turns_more lines self next first last period n e le some is f =
    let turn = map (later_line (n * period)) (drop first lines) in
    let one : turns_up_to period (drop first lines) (n + 1) ≡ turns_up_to period (drop first lines) n ++ turn
    = ap (flat_map (λ (t : ℕ). map (later_line (t * period)) (drop first lines))) (sym (map-id (range_with_len 0 (n + 1))) ∙ map-range_with_len_more (λ (t : ℕ). t) 0 n n (omega arith) ∙ ap (λ (ts : List ℕ). ts ++ n ∷ []) (map-id (range_with_len 0 n)))
    ∙ flat_map-append (λ (t : ℕ). map (later_line (t * period)) (drop first lines)) (range_with_len 0 n) (n ∷ [])
    ∙ ap (λ (ls : List VectorLine). turns_up_to period (drop first lines) n ++ ls) (append-nil turn) in
    f ∙ ap (λ (ls : List VectorLine). self ++ map (later_line (n * period)) ls) (turns_range lines self first last period n e le some is)
    ∙ ap (λ (ls : List VectorLine). ls ++ turn) is ∙ append_assoc (take first lines) (turns_up_to period (drop first lines) n) turn ∙ ap (λ (ls : List VectorLine). take first lines ++ ls) (sym one)

-- all lines stand among those with more turns
pub turns_long : (lines self : List VectorLine) (first period n : ℕ) → 0 < n → self ≡ take first lines ++ turns_up_to period (drop first lines) n → length lines ≤ length self
turns_long lines self first period zero some is = absurd (omega arith)
turns_long lines self first period (suc n) some is =
    let rest = flat_map (λ (turn : ℕ). map (later_line (turn * period)) (drop first lines)) (range_with_len 1 n) in
    let whole : self ≡ take first lines ++ (drop first lines ++ rest) = is ∙ ap (λ (ls : List VectorLine). take first lines ++ (ls ++ rest)) (later_line-zero (0 * period) (drop first lines) (omega arith)) in
    let split : lines ++ rest ≡ take first lines ++ (drop first lines ++ rest) = ap (λ (ls : List VectorLine). ls ++ rest) (sym (take-append-drop first lines)) ∙ append_assoc (take first lines) (drop first lines) rest in
    let e : length self ≡ length lines + length rest = ap length (whole ∙ sym split) ∙ length-append lines rest in
    omega arith

mul_le : (m n p : ℕ) → m ≤ n → m * p ≤ n * p
mul_le m n p le =
    let d = n - m in
    let e : n ≡ m + d = omega arith in
    rw e (omega arith)

-- an earlier turn is no later than the last
pub turn_least : (turn count period : ℕ) → turn < count → turn * period ≤ (count - 1) * period
turn_least turn count period lt = mul_le turn (count - 1) period (omega arith)

pub turn_fits : (lines : List VectorLine) (first turn count period : ℕ) → turn < count → first < length lines → All (λ (line : VectorLine). line.time + (count - 1) * period + 1 < 2 ^ 64) (drop first lines) → (line : VectorLine) → turn * period < 2 ^ 64
turn_fits lines first turn count period lt inside all line =
    let least = turn_least turn count period lt in
    let at = all 0 line (omega (arith, length-drop first lines)) in
    omega arith

pub turn_small : (lines : List VectorLine) (turn count period : ℕ) → turn < count → All (λ (line : VectorLine). line.time + (count - 1) * period + 1 < 2 ^ 64) lines → All (λ (line : VectorLine). line.time + turn * period + 1 < 2 ^ 64) lines
turn_small lines turn count period lt all k d inside =
    let least = turn_least turn count period lt in
    let at = all k d inside in
    omega arith
