-- What the fields of a body write out, and the answers of reading a line.
use Rattle.std.proofs.Common.{◌≡◌, ℕ, zero, suc, ◌+◌, ◌-◌, ◌*◌, ◌<◌, ◌≤◌, ◌^◌, Bool, true, false, not, ltb, ◌&&◌, ◌||◌, min, List, [], ◌∷◌, ◌++◌, length, take, drop, get_or, map, Option, Some, None, Err, refl, sym, ap, subst, ◌∙◌, arith, inl, inr}
use Rattle.std.specs.Prelude.{option_map, flat_map, is_some, All}
use Rattle.std.specs.List.{range_with_len, AllByRecursion}
use Rattle.std.specs.Option.{ForSome}
use Rattle.std.proofs.lemmas.Bool.{cases_lt, ltb-false, lt-ltb, le-ltb, both_ways}
use Rattle.std.proofs.lemmas.List.{append-nil, take-append-drop, take-append-le, drop-append-le, get_or_append_left, get_or_at, length-append, take_all, drop_all}
use Rattle.std.proofs.lemmas.List.Sums.{sum_by-append}
use Rattle.std.proofs.lemmas.List.Elements.{recursion_from_All}
use Rattle.line_text.specs.Faults.{fault_if, first_there}
use Rattle.vector_text.proofs.PairLaws.{each_append, each_front, each_map, All-from_each}
use Rattle.vector_text.proofs.ScheduleLemmas.{turns_up_to}
use Rattle.line_text.specs.Fields.{fields_of}
use Rattle.line_text.specs.Numbers.{cap}
use Rattle.vector_text.specs.declared.body.Block.{Block}
use Rattle.vector_text.specs.declared.vectors.VectorLine.{VectorLine}
use Rattle.vector_text.specs.declared.fault.VecFault.TheVariants.{BadLine, Limit, Order}
use Rattle.vector_text.specs.declared.stimulus.StimulusLine.{StimulusLine}
use Rattle.vector_text.specs.declared.said.Version.{Version}
use Rattle.vector_text.specs.declared.said.Version.TheVariants.{First, Second}
use Rattle.vector_text.specs.declared.said.Said.{Said}
use Rattle.vector_text.specs.declared.said.Said.TheVariants.{Timed, Opens, Closes, Ends}
use Rattle.vector_text.specs.Sayings.{said_of, is_second}
use Rattle.vector_text.specs.Written.{Body, Block as WrittenBlock, last_time, greatest_count, greatest_size, timed_passes, written_lines, with_timed, with_turns, with_block, turns_of, size_of, total_size, start_of, may_stand, passes_limit, breaks_order, later_line, said_fault, read_said, read_with}
use Rattle.vector_text.specs.Lawful.{greatest_time}
use Rattle.vector_text.specs.Inside.{HasTurns, IsTimeWithin, IsRepeatWithin, IsWithin, HasSmallTime}
use Rattle.vector_text.specs.BodyInside.{outside_lines, block_view, IsOpen, AreParts}

-- ---- the view

abbrev pub view_of : List VectorLine → Option Block → Option ℕ → Body
view_of lines block end = record { lines = outside_lines lines block; block = option_map (block_view lines) block; end = end }

pub written_lines-view : (lines : List VectorLine) (block : Option Block) (end : Option ℕ) → written_lines (view_of lines block end) ≡ lines
written_lines-view lines None end = append-nil lines
written_lines-view lines (Some block) end = take-append-drop block.first lines

pub start-view : (lines : List VectorLine) (block : Block) → start_of (Some (block_view lines block)) ≡ block.repeat.start
start-view lines block = refl

pub view-push : (lines : List VectorLine) (block : Option Block) (end : Option ℕ) (line : VectorLine) → ForSome block (λ b. b.first ≤ length lines)
    → with_timed (view_of lines block end) line (option_map (block_view lines) block) ≡ view_of (lines ++ line ∷ []) block end
view-push lines None end line inside = refl
view-push lines (Some block) end line inside =
    let le = inside block refl in
    let front : take block.first (lines ++ line ∷ []) ≡ take block.first lines = take-append-le block.first lines (line ∷ []) le in
    let back : drop block.first (lines ++ line ∷ []) ≡ drop block.first lines ++ line ∷ [] = drop-append-le block.first lines (line ∷ []) le in
    sym (rw (front, back) refl)

pub total-split : (n : ℕ) (lines : List VectorLine) → total_size lines ≡ total_size (take n lines) + total_size (drop n lines)
total-split n lines =
    sym (ap total_size (take-append-drop n lines)) ∙ sum_by-append (λ (line : VectorLine). size_of line.what) (take n lines) (drop n lines)

-- ---- answers

pub fault-place : (version : Version) (body : Body) (number : ℕ) (said : Said) → may_stand body said ≡ false → Some (BadLine number) ≡ said_fault version body number (Some said)
fault-place version body number said place = sym (rw place refl)

pub fault-limit : (version : Version) (body : Body) (number : ℕ) (said : Said) → may_stand body said ≡ true → passes_limit version body said ≡ true → Some (Limit number) ≡ said_fault version body number (Some said)
fault-limit version body number said place limit = sym (rw (place, limit) refl)

pub fault-order : (version : Version) (body : Body) (number : ℕ) (said : Said) → may_stand body said ≡ true → passes_limit version body said ≡ false → breaks_order body said ≡ true → Some (Order number) ≡ said_fault version body number (Some said)
fault-order version body number said place limit order = sym (rw (place, limit, order) refl)

pub fault-none : (version : Version) (body : Body) (number : ℕ) (said : Said) → may_stand body said ≡ true → passes_limit version body said ≡ false → breaks_order body said ≡ false → None ≡ said_fault version body number (Some said)
fault-none version body number said place limit order = sym (rw (place, limit, order) refl)

-- no fault is there: none of its tests passes
tests_fail : (stands passes breaks : Bool) (number : ℕ) → first_there (fault_if (not stands) (BadLine number) ∷ fault_if passes (Limit number) ∷ fault_if breaks (Order number) ∷ []) ≡ None → (stands ≡ true) × (passes ≡ false)
tests_fail true false breaks number e = (refl, refl)
tests_fail true true breaks number e = absurd cc
tests_fail false passes breaks number e = absurd cc

pub stands-from_none : (version : Version) (body : Body) (number : ℕ) (said : Said) → said_fault version body number (Some said) ≡ None → (may_stand body said ≡ true) × (passes_limit version body said ≡ false)
stands-from_none version body number said e = tests_fail (may_stand body said) (passes_limit version body said) (breaks_order body said) number e

pub read-none : (version : Version) (body : Body) (number : ℕ) (line : List ℕ) → said_of version (fields_of line) ≡ None → read_with version body (number, line) ≡ Err (BadLine number)
unfolding read_with
read-none version body number line e = rw e refl

pub read-some : (version : Version) (body : Body) (number : ℕ) (line : List ℕ) (said : Said) → said_of version (fields_of line) ≡ Some said → read_said version body number said ≡ read_with version body (number, line)
unfolding read_with
read-some version body number line said e = sym (rw e refl)

-- ---- limits

or_parts : (x y : Bool) → (x || y) ≡ false → (x ≡ false) × (y ≡ false)
or_parts true y e = absurd cc
or_parts false y e = (refl, e)

last_small : (version : Version) → last_time version ≤ greatest_time
last_small First = omega arith
last_small Second = omega arith

timed_within : (version : Version) (body : Body) (line : StimulusLine) (block : Option WrittenBlock) → timed_passes version body line block ≡ false → IsTimeWithin block line.time
timed_within version body line None e =
    let small = last_small version in
    let below = ltb-false _ _ (or_parts (ltb (last_time version) line.time) (is_second version && ltb greatest_size (total_size body.lines + size_of line.what)) e).0 in
    omega arith
timed_within version body line (Some block) e =
    let small = last_small version in
    let below = ltb-false _ _ e in
    omega arith

-- what passes no limit is within those that writing it out needs
pub within-from : (version : Version) (body : Body) (said : Said) → HasTurns said → passes_limit version body said ≡ false → IsWithin body said
unfolding passes_limit
within-from version body (Timed line) turns e = timed_within version body line body.block e
within-from version body (Opens repeat) turns e =
    let small = last_small version in
    let both = or_parts (ltb greatest_count repeat.count || ltb (last_time version) repeat.start) (ltb (last_time version) repeat.period) e in
    let first = or_parts (ltb greatest_count repeat.count) (ltb (last_time version) repeat.start) both.0 in
    let count' = ltb-false _ _ first.0 in
    let start' = ltb-false _ _ first.1 in
    let period' = ltb-false _ _ both.1 in
    record { some = turns.0; count = count'; start = omega arith; period = omega arith }
within-from version body Closes turns e = tt
within-from version body (Ends time) turns e = tt

time_small : (block : Option WrittenBlock) (time : ℕ) → IsTimeWithin block time → start_of block + time ≤ greatest_time
time_small None time h = omega arith
time_small (Some block) time h = omega arith

pub small-from : (body : Body) (said : Said) → IsWithin body said → HasSmallTime body said
small-from body (Timed line) h =
    let small = time_small body.block line.time h in
    omega arith
small-from body (Opens repeat) h = tt
small-from body Closes h = tt
small-from body (Ends time) h = tt

-- ---- sizes

mul_least : (count d : ℕ) → 0 < count → d ≤ count * d
mul_least zero d some = absurd (omega arith)
mul_least (suc n) d some = omega arith

capped_sum : (t x : ℕ) → ltb greatest_size (min (t + min x (2 ^ 64 - 1)) (2 ^ 64 - 1)) ≡ ltb greatest_size (t + x)
capped_sum t x =
    elim (cases_lt greatest_size (t + x)) [
      | inl lt ↦ lt-ltb greatest_size (min (t + min x (2 ^ 64 - 1)) (2 ^ 64 - 1)) (omega arith) ∙ sym (lt-ltb greatest_size (t + x) lt)
      | inr le ↦ le-ltb greatest_size (min (t + min x (2 ^ 64 - 1)) (2 ^ 64 - 1)) (omega arith) ∙ sym (le-ltb greatest_size (t + x) le)
    ]

-- the size with all turns of a block, from the sizes before it and with its first turn
pub turns_size : (front turn count before size : ℕ) → 0 < count → before ≡ cap front → size ≡ cap (front + turn)
    → ltb greatest_size (min (before + min (count * (size - before)) (2 ^ 64 - 1)) (2 ^ 64 - 1)) ≡ ltb greatest_size (front + count * turn)
turns_size front turn count before size some e f =
    elim (cases_lt (2 ^ 64 - 1) (front + turn)) [
      | inl far ↦ (let more = mul_least count (size - before) some in
          let more' = mul_least count turn some in
          lt-ltb greatest_size (min (before + min (count * (size - before)) (2 ^ 64 - 1)) (2 ^ 64 - 1)) (omega arith) ∙ sym (lt-ltb greatest_size (front + count * turn) (omega arith)))
      | inr near ↦ (let first : before ≡ front = omega arith in
          let rest : size - before ≡ turn = omega arith in
          rw (rest, first) (capped_sum front (count * turn)))
    ]

-- ---- one more line

All-push : (P : VectorLine → Type 0) (lines : List VectorLine) (line : VectorLine) → All P lines → P line → All P (lines ++ line ∷ [])
All-push P lines line all last k d lt =
    elim (cases_lt k (length lines)) [
      | inl before ↦ subst P (sym (get_or_append_left lines (line ∷ []) d k before)) (all k d before)
      | inr behind ↦ (let at : k ≡ length lines = omega (arith, length-append lines (line ∷ [])) in
          subst (λ (j : ℕ). P (get_or (lines ++ line ∷ []) j d)) (sym at) (subst P (sym (get_or_at lines line [] d (length lines) refl)) last))
    ]

pub parts-push : (lines : List VectorLine) (block : Option Block) (end : Option ℕ) (line : VectorLine) → AreParts lines block end → line.time ≤ greatest_time
    → ForSome block (λ b. line.time + (b.repeat.count - 1) * b.repeat.period ≤ greatest_time) → AreParts (lines ++ line ∷ []) block end
parts-push lines block end line parts small last = record {
  ended = parts.ended;
  times = All-push (λ (x : VectorLine). x.time ≤ greatest_time) lines line parts.times small;
  open_block = λ b is.
      let here = parts.open_block b is in
      let front : take b.first (lines ++ line ∷ []) ≡ take b.first lines = take-append-le b.first lines (line ∷ []) here.first in
      let back : drop b.first (lines ++ line ∷ []) ≡ drop b.first lines ++ line ∷ [] = drop-append-le b.first lines (line ∷ []) here.first in
      record {
        first = omega (arith, here.first, length-append lines (line ∷ []));
        some = here.some;
        count = here.count;
        start = here.start;
        period = here.period;
        size = here.size ∙ ap (λ (ls : List VectorLine). cap (total_size ls)) (sym front);
        last = rw back (All-push (λ (x : VectorLine). x.time + (b.repeat.count - 1) * b.repeat.period ≤ greatest_time) (drop b.first lines) line here.last (last b is));
      };
}

pub within-parts : (lines : List VectorLine) (block : Option Block) (time : ℕ) → IsTimeWithin (option_map (block_view lines) block) time
    → (start_of (option_map (block_view lines) block) + time ≤ greatest_time) × ForSome block (λ b. start_of (option_map (block_view lines) block) + time + (b.repeat.count - 1) * b.repeat.period ≤ greatest_time)
within-parts lines None time h = (omega arith, λ b is. absurd cc)
within-parts lines (Some block) time h = (
  omega arith,
  λ b is.
      let same : block ≡ b = cc in
      subst (λ (x : Block). block.repeat.start + time + (x.repeat.count - 1) * x.repeat.period ≤ greatest_time) same (omega arith),
)

-- a block begins behind all lines
pub parts-open : (lines : List VectorLine) (block : Option Block) (end : Option ℕ) (opened : Block) → AreParts lines block end → is_some end ≡ false → IsRepeatWithin opened.repeat → opened.first ≡ length lines → opened.size ≡ cap (total_size lines)
    → AreParts lines (Some opened) end
parts-open lines block end opened parts none within first size = record {
  ended = λ x is. absurd (both_ways (is_some end) none (ap is_some is));
  times = parts.times;
  open_block = λ b is.
      let same : opened ≡ b = cc in
      subst (IsOpen lines) same (record {
        first = omega arith;
        some = within.some;
        count = within.count;
        start = within.start;
        period = within.period;
        size = size ∙ ap (λ (ls : List VectorLine). cap (total_size ls)) (sym (take_all opened.first lines (omega arith)));
        last = rw (drop_all opened.first lines (omega arith)) (λ k d lt. absurd (omega arith));
      });
}

pub view-open : (lines : List VectorLine) (block : Option Block) (end : Option ℕ) (opened : Block) → is_some block ≡ false → opened.first ≡ length lines → view_of lines (Some opened) end ≡ with_block (view_of lines block end) opened.repeat
view-open lines (Some block) end opened outside first = absurd cc
view-open lines None end opened outside first = rw (take_all opened.first lines (omega arith), drop_all opened.first lines (omega arith)) refl

-- the end stands outside a block
pub parts-end : (lines : List VectorLine) (block : Option Block) (end : Option ℕ) (time : ℕ) → AreParts lines block end → is_some block ≡ false → AreParts lines block (Some time)
parts-end lines block end time parts outside = record { ended = λ x is. outside; times = parts.times; open_block = parts.open_block }

-- ---- a block ends

mul_le : (m n p : ℕ) → m ≤ n → m * p ≤ n * p
mul_le m n p le =
    let d = n - m in
    let e : n ≡ m + d = omega arith in
    rw e (omega arith)

each_turn : (greatest period count : ℕ) (lines : List VectorLine) (a n : ℕ) → a + n ≤ count → AllByRecursion (λ (line : VectorLine). line.time + (count - 1) * period ≤ greatest) lines
    → AllByRecursion (λ (line : VectorLine). line.time ≤ greatest) (flat_map (λ (turn : ℕ). map (later_line (turn * period)) lines) (range_with_len a n))
each_turn greatest period count lines a zero le h = tt
each_turn greatest period count lines a (suc n) le h =
    let most = mul_le a (count - 1) period (omega arith) in
    each_append (λ (line : VectorLine). line.time ≤ greatest) (map (later_line (a * period)) lines) (flat_map (λ (turn : ℕ). map (later_line (turn * period)) lines) (range_with_len (a + 1) n))
    (each_map (λ (line : VectorLine). line.time + (count - 1) * period ≤ greatest) (λ (line : VectorLine). line.time ≤ greatest) (later_line (a * period)) lines (λ line t. omega arith) h)
    (each_turn greatest period count lines (a + 1) n (omega arith) h)

-- the lines with all turns of a block
abbrev pub closed_lines : List VectorLine → Block → List VectorLine
closed_lines lines block = take block.first lines ++ turns_up_to block.repeat.period (drop block.first lines) block.repeat.count

pub parts-close : (lines : List VectorLine) (block : Block) (end : Option ℕ) → AreParts lines (Some block) end → AreParts (closed_lines lines block) None end
parts-close lines block end parts =
    let here = parts.open_block block refl in
    let whole = recursion_from_All (λ (line : VectorLine). line.time ≤ greatest_time) lines parts.times in
    let front = each_front (λ (line : VectorLine). line.time ≤ greatest_time) (take block.first lines) (drop block.first lines)
    (subst (AllByRecursion (λ (line : VectorLine). line.time ≤ greatest_time)) (sym (take-append-drop block.first lines)) whole) in
    let turns = each_turn greatest_time block.repeat.period block.repeat.count (drop block.first lines) 0 block.repeat.count (omega arith)
    (recursion_from_All (λ (line : VectorLine). line.time + (block.repeat.count - 1) * block.repeat.period ≤ greatest_time) (drop block.first lines) here.last) in
    record {
      ended = λ x is. refl;
      times = All-from_each (λ (line : VectorLine). line.time ≤ greatest_time) (closed_lines lines block) (each_append (λ (line : VectorLine). line.time ≤ greatest_time) (take block.first lines) (turns_up_to block.repeat.period (drop block.first lines) block.repeat.count) front turns);
      open_block = λ b is. absurd cc;
    }

pub view-close : (lines : List VectorLine) (block : Block) (end : Option ℕ) → view_of (closed_lines lines block) None end ≡ with_turns (view_of lines (Some block) end) (Some (block_view lines block))
unfolding turns_of
view-close lines block end = refl
