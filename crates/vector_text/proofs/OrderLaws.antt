-- What is accepted is in order: the lines that a text without fault writes out, in all turns of its
-- blocks.
use Rattle.std.proofs.Common.{◌≡◌, ℕ, zero, suc, ◌+◌, ◌*◌, ◌<◌, ◌≤◌, Bool, true, not, leb, ltb, ◌&&◌, ◌||◌, List, [], ◌∷◌, Option, arith}
use Rattle.std.specs.Prelude.{flat_map}
use Rattle.std.specs.List.{list_all, range_with_len, AllByRecursion}
use Rattle.std.proofs.lemmas.Bool.{and_parts, ltb-true, leb-true}
use Rattle.level_range.specs.declared.range.Logic.{Logic}
use Rattle.vector_text.specs.declared.stimulus.StimulusWhat.{StimulusWhat}
use Rattle.vector_text.specs.declared.stimulus.StimulusWhat.TheVariants.{Values, Strobe, Expect}
use Rattle.vector_text.specs.declared.vectors.VectorLine.{VectorLine}
use Rattle.vector_text.specs.Written.{Block, later_line, turn_of, may_follow, none_later, is_strobe}
use Rattle.vector_text.specs.Lawful.{MayFollow}
use Rattle.vector_text.proofs.PairLaws.{each_append, each_weaker, each_map, Pairs, pairs_append, pairs_map}

-- one line may come behind another
abbrev pub Follows : VectorLine → VectorLine → Type 0
Follows a b = MayFollow a.what a.time b.what b.time

-- ---- two lines

pub later_follows : (before : StimulusWhat) (earlier : ℕ) (what : StimulusWhat) (later : ℕ) → earlier < later → MayFollow before earlier what later
later_follows before earlier (Values values) later lt = lt
later_follows (Values values) earlier Strobe later lt = omega arith
later_follows Strobe earlier Strobe later lt = lt
later_follows (Expect wanted) earlier Strobe later lt = lt
later_follows (Values values) earlier (Expect wanted) later lt = omega arith
later_follows Strobe earlier (Expect wanted) later lt = lt
later_follows (Expect wanted) earlier (Expect wanted') later lt = lt

pub later_line_follows : (by : ℕ) (before : StimulusWhat) (earlier : ℕ) (what : StimulusWhat) (later : ℕ) → MayFollow before earlier what later → MayFollow before (earlier + by) what (later + by)
later_line_follows by before earlier (Values values) later h = omega arith
later_line_follows by (Values values) earlier Strobe later h = omega arith
later_line_follows by Strobe earlier Strobe later h = omega arith
later_line_follows by (Expect wanted) earlier Strobe later h = omega arith
later_line_follows by (Values values) earlier (Expect wanted) later h = omega arith
later_line_follows by Strobe earlier (Expect wanted) later h = omega arith
later_line_follows by (Expect wanted) earlier (Expect wanted') later h = omega arith

-- ---- a line behind others

pub each_from : (p : VectorLine → Bool) (P : VectorLine → Type 0) (lines : List VectorLine) → ((line : VectorLine) → p line ≡ true → P line) → list_all p lines ≡ true → AllByRecursion P lines
each_from p P [] f e = tt
each_from p P (line ∷ lines) f e =
    let parts = and_parts (p line) (list_all p lines) e in
    (f line parts.0, each_from p P lines f parts.1)

each_both : (P Q R : VectorLine → Type 0) (lines : List VectorLine) → ((line : VectorLine) → P line → Q line → R line) → AllByRecursion P lines → AllByRecursion Q lines → AllByRecursion R lines
each_both P Q R [] f h k = tt
each_both P Q R (line ∷ lines) f h k = (f line h.0 k.0, each_both P Q R lines f h.1 k.1)

-- a line is no later than a time, and where it is a strobe before it
abbrev IsBefore : StimulusWhat → ℕ → ℕ → Type 0
IsBefore (Values values) earlier later = earlier ≤ later
IsBefore Strobe earlier later = earlier < later
IsBefore (Expect wanted) earlier later = earlier < later

before_strobe : (what : StimulusWhat) (earlier later : ℕ) → earlier ≤ later → (not (is_strobe what) || ltb earlier later) ≡ true → IsBefore what earlier later
before_strobe (Values values) earlier later le e = le
before_strobe Strobe earlier later le e = ltb-true earlier later e
before_strobe (Expect wanted) earlier later le e = ltb-true earlier later e

strobe_follows : (before : StimulusWhat) (earlier later : ℕ) → IsBefore before earlier later → MayFollow before earlier Strobe later
strobe_follows (Values values) earlier later h = h
strobe_follows Strobe earlier later h = h
strobe_follows (Expect wanted) earlier later h = h

expect_follows : (before : StimulusWhat) (earlier later : ℕ) (wanted : List (Option Logic)) → IsBefore before earlier later → MayFollow before earlier (Expect wanted) later
expect_follows (Values values) earlier later wanted h = h
expect_follows Strobe earlier later wanted h = h
expect_follows (Expect before) earlier later wanted h = h

all_before : (lines : List VectorLine) (time : ℕ) → (none_later lines time && list_all (λ (line : VectorLine). not (is_strobe line.what) || ltb line.time time) lines) ≡ true → AllByRecursion (λ (line : VectorLine). IsBefore line.what line.time time) lines
all_before lines time e =
    let parts = and_parts (none_later lines time) (list_all (λ (line : VectorLine). not (is_strobe line.what) || ltb line.time time) lines) e in
    each_both (λ (line : VectorLine). line.time ≤ time) (λ (line : VectorLine). (not (is_strobe line.what) || ltb line.time time) ≡ true) (λ (line : VectorLine). IsBefore line.what line.time time) lines
    (λ line le f. before_strobe line.what line.time time le f)
    (each_from (λ (line : VectorLine). leb line.time time) (λ (line : VectorLine). line.time ≤ time) lines (λ line f. leb-true line.time time f) parts.0)
    (each_from (λ (line : VectorLine). not (is_strobe line.what) || ltb line.time time) (λ (line : VectorLine). (not (is_strobe line.what) || ltb line.time time) ≡ true) lines (λ line f. f) parts.1)

pub each_follows : (lines : List VectorLine) (time : ℕ) (what : StimulusWhat) → may_follow lines time what ≡ true → AllByRecursion (λ (line : VectorLine). MayFollow line.what line.time what time) lines
each_follows lines time (Values values) e = each_from (λ (line : VectorLine). ltb line.time time) (λ (line : VectorLine). line.time < time) lines (λ line f. ltb-true line.time time f) e
each_follows lines time Strobe e = each_weaker (λ (line : VectorLine). IsBefore line.what line.time time) (λ (line : VectorLine). MayFollow line.what line.time Strobe time) lines (λ line h. strobe_follows line.what line.time time h) (all_before lines time e)
each_follows lines time (Expect wanted) e = each_weaker (λ (line : VectorLine). IsBefore line.what line.time time) (λ (line : VectorLine). MayFollow line.what line.time (Expect wanted) time) lines (λ line h. expect_follows line.what line.time time wanted h) (all_before lines time e)

-- ---- turns

-- a line of the first turn of a block
pub record IsInside (start period : ℕ) (line : VectorLine) : Type 0 where
  pub from : start ≤ line.time
  pub below : line.time < start + period

-- the lines of a turn begin a period behind those of the turn before
turn_from : (block : Block) (start period turn : ℕ) → block.repeat.period ≡ period → AllByRecursion (IsInside start period) block.lines → AllByRecursion (λ (line : VectorLine). (start + turn * period ≤ line.time) × (line.time < start + (turn + 1) * period)) (turn_of block turn)
turn_from block start period turn is inside =
    rw is (each_map (IsInside start period) (λ (line : VectorLine). (start + turn * period ≤ line.time) × (line.time < start + (turn + 1) * period)) (later_line (turn * period)) block.lines
    (λ line h. (omega (arith, h.from), omega (arith, h.below))) inside)

pub all_later : (before : ℕ) (x : VectorLine) (lines : List VectorLine) → x.time < before → AllByRecursion (λ (line : VectorLine). before ≤ line.time) lines → AllByRecursion (Follows x) lines
all_later before x lines lt h = each_weaker (λ (line : VectorLine). before ≤ line.time) (Follows x) lines (λ line le. later_follows x.what x.time line.what line.time (omega arith)) h

-- turns from one on, so many
pub turns_from : (block : Block) (start period : ℕ) → block.repeat.period ≡ period → AllByRecursion (IsInside start period) block.lines → Pairs Follows block.lines → (a n : ℕ)
    → Pairs Follows (flat_map (turn_of block) (range_with_len a n)) × AllByRecursion (λ (line : VectorLine). start + a * period ≤ line.time) (flat_map (turn_of block) (range_with_len a n))
turns_from block start period is inside order a zero = (tt, tt)
turns_from block start period is inside order a (suc n) =
    let rest = turns_from block start period is inside order (a + 1) n in
    let here = turn_from block start period a is inside in
    let others = flat_map (turn_of block) (range_with_len (a + 1) n) in
    let first : Pairs Follows (turn_of block a) = pairs_map Follows (later_line (a * block.repeat.period)) block.lines (λ x y h. later_line_follows (a * block.repeat.period) x.what x.time y.what y.time h) order in
    let cross : AllByRecursion (λ (x : VectorLine). AllByRecursion (Follows x) others) (turn_of block a)
    = each_weaker (λ (line : VectorLine). (start + a * period ≤ line.time) × (line.time < start + (a + 1) * period)) (λ (x : VectorLine). AllByRecursion (Follows x) others) (turn_of block a)
    (λ x h. all_later (start + (a + 1) * period) x others h.1 rest.1) here in (
      pairs_append Follows (turn_of block a) others first rest.0 cross,
      each_append (λ (line : VectorLine). start + a * period ≤ line.time) (turn_of block a) others
          (each_weaker (λ (line : VectorLine). (start + a * period ≤ line.time) × (line.time < start + (a + 1) * period)) (λ (line : VectorLine). start + a * period ≤ line.time) (turn_of block a) (λ x h. h.0) here)
          (each_weaker (λ (line : VectorLine). start + (a + 1) * period ≤ line.time) (λ (line : VectorLine). start + a * period ≤ line.time) others (λ x h. omega arith) rest.1),
    )
