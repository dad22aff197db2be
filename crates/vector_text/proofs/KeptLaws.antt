-- What each line of a text without fault keeps of what is written out: the order, and what the
-- further turns of an open block need for it.
use Rattle.std.proofs.Common.{◌≡◌, ℕ, zero, suc, ◌+◌, ◌*◌, ◌<◌, ◌≤◌, Bool, true, false, not, leb, ◌||◌, List, [], ◌∷◌, ◌++◌, map, Option, Some, None, is_some, refl, sym, ap, subst, ◌∙◌, append_assoc, arith}
use Rattle.std.specs.Prelude.{flat_map}
use Rattle.std.specs.List.{range_with_len, AllByRecursion}
use Rattle.std.proofs.lemmas.Bool.{and_parts, leb-true, leb-false, not-false, not-true}
use Rattle.std.proofs.lemmas.List.{append-nil}
use Rattle.vector_text.specs.declared.stimulus.StimulusLine.{StimulusLine}
use Rattle.vector_text.specs.declared.vectors.VectorLine.{VectorLine}
use Rattle.vector_text.specs.declared.said.Repeat.{Repeat}
use Rattle.vector_text.specs.declared.said.Said.{Said}
use Rattle.vector_text.specs.declared.said.Said.TheVariants.{Timed, Opens, Closes, Ends}
use Rattle.vector_text.specs.Written.{Block, Body, written_lines, later_line, turn_of, turns_of, line_at, with_timed, with_turns, with_said, may_follow, none_later, timed_breaks, may_stand, breaks_order}
use Rattle.vector_text.proofs.PairLaws.{each_append, each_front, each_weaker, Pairs, pairs_append, pairs_front, pairs_back, pairs_push}
use Rattle.vector_text.proofs.OrderLaws.{Follows, IsInside, each_follows, each_from, turns_from, all_later}

-- an open block behind some lines
pub record KeptBlock (lines : List VectorLine) (block : Block) : Type 0 where
  pub after : AllByRecursion (λ (line : VectorLine). line.time ≤ block.repeat.start) lines
  pub inside : AllByRecursion (IsInside block.repeat.start block.repeat.period) block.lines
  pub period : 0 < block.repeat.period

abbrev pub KeptOpen : List VectorLine → Option Block → Type 0
KeptOpen lines None = Unit {0}
KeptOpen lines (Some block) = KeptBlock lines block

-- an end stands behind all lines, and no block is open there
pub record KeptAt (body : Body) (end : ℕ) : Type 0 where
  pub within : AllByRecursion (λ (line : VectorLine). line.time ≤ end) (written_lines body)
  pub closed : is_some body.block ≡ false

abbrev pub KeptEnd : Body → Option ℕ → Type 0
KeptEnd body None = Unit {0}
KeptEnd body (Some end) = KeptAt body end

pub record Kept (body : Body) : Type 0 where
  pub order : Pairs Follows (written_lines body)
  pub open_block : KeptOpen body.lines body.block
  pub at_end : KeptEnd body body.end

-- ---- turns

later_line-zero : (by : ℕ) (lines : List VectorLine) → by ≡ 0 → map (later_line by) lines ≡ lines
later_line-zero by [] e = refl
later_line-zero by (line ∷ lines) e =
    let same : line.time + by ≡ line.time = omega arith in
    ap (λ (t : ℕ). record line { time = t } ∷ map (later_line by) lines) same ∙ ap (λ (ls : List VectorLine). line ∷ ls) (later_line-zero by lines e)

later_line-none : (block : Block) → turn_of block 0 ≡ block.lines
later_line-none block = later_line-zero (0 * block.repeat.period) block.lines (omega arith)

-- all turns behind some lines are in order, where the first is
turns_order : (lines : List VectorLine) (block : Block) (count : ℕ) → Pairs Follows (lines ++ block.lines) → KeptBlock lines block → Pairs Follows (lines ++ flat_map (turn_of block) (range_with_len 0 count))
turns_order lines block zero order kept = subst (Pairs Follows) (sym (append-nil lines)) (pairs_front Follows lines block.lines order)
turns_order lines block (suc n) order kept =
    let start = block.repeat.start in
    let period = block.repeat.period in
    let inner = pairs_back Follows lines block.lines order in
    let rest = turns_from block start period refl kept.inside inner 1 n in
    let others = flat_map (turn_of block) (range_with_len 1 n) in
    let some : 0 < period = kept.period in
    let cross : AllByRecursion (λ (x : VectorLine). AllByRecursion (Follows x) others) (lines ++ block.lines)
    = each_append (λ (x : VectorLine). AllByRecursion (Follows x) others) lines block.lines
    (each_weaker (λ (line : VectorLine). line.time ≤ start) (λ (x : VectorLine). AllByRecursion (Follows x) others) lines (λ x le. all_later (start + 1 * period) x others (omega arith) rest.1) kept.after)
    (each_weaker (IsInside start period) (λ (x : VectorLine). AllByRecursion (Follows x) others) block.lines (λ x h. all_later (start + 1 * period) x others (omega (arith, h.below)) rest.1) kept.inside) in
    let all = pairs_append Follows (lines ++ block.lines) others order rest.0 cross in
    subst (λ (ls : List VectorLine). Pairs Follows (lines ++ (ls ++ others))) (sym (later_line-none block)) (subst (Pairs Follows) (append_assoc lines block.lines others) all)

-- ---- one more line

nothing : (body : Body) (said : Said) → may_stand body said ≡ true → is_some body.end ≡ false
unfolding may_stand
nothing body (Timed line) e = not-true (is_some body.end) e
nothing body (Opens repeat) e = not-true (is_some body.end) (and_parts (not (is_some body.end)) (not (is_some body.block)) e).0
nothing body Closes e = not-true (is_some body.end) (and_parts (not (is_some body.end)) (is_some body.block) e).0
nothing body (Ends time) e = not-true (is_some body.end) (and_parts (not (is_some body.end)) (not (is_some body.block)) e).0

no_end : (body : Body) (end : Option ℕ) → is_some end ≡ false → KeptEnd body end
no_end body None e = tt
no_end body (Some end) e = absurd cc

or_parts : (x y : Bool) → (x || y) ≡ false → (x ≡ false) × (y ≡ false)
or_parts true y e = absurd cc
or_parts false y e = (refl, e)

pushed : (lines : List VectorLine) (line : VectorLine) → Pairs Follows lines → may_follow lines line.time line.what ≡ true → Pairs Follows (lines ++ line ∷ [])
pushed lines line order e = pairs_push Follows lines line order (each_follows lines line.time line.what e)

-- a timed line outside a block, and one inside
timed_kept : (lines : List VectorLine) (block : Option Block) (end : Option ℕ) (number : ℕ) (line : StimulusLine) → is_some end ≡ false
    → (let body : Body = record { lines = lines; block = block; end = end } in timed_breaks body line ≡ false → Kept body → Kept (with_timed body (line_at body number line) block))
timed_kept lines None end number line none breaks kept =
    let at : VectorLine = record { line = number; time = 0 + line.time; what = line.what } in
    let follows : may_follow (lines ++ []) (0 + line.time) line.what ≡ true = not-false (may_follow (lines ++ []) (0 + line.time) line.what) (or_parts false (not (may_follow (lines ++ []) (0 + line.time) line.what)) breaks).1 in
    let order = pushed (lines ++ []) at kept.order follows in
    record {
      order = subst (Pairs Follows) (ap (λ (ls : List VectorLine). ls ++ at ∷ []) (append-nil lines) ∙ sym (append-nil (lines ++ at ∷ []))) order;
      open_block = tt;
      at_end = no_end _ end none;
    }
timed_kept lines (Some block) end number line none breaks kept =
    let start = block.repeat.start in
    let at : VectorLine = record { line = number; time = start + line.time; what = line.what } in
    let both = or_parts (leb block.repeat.period line.time) (not (may_follow (lines ++ block.lines) (start + line.time) line.what)) breaks in
    let follows : may_follow (lines ++ block.lines) (start + line.time) line.what ≡ true = not-false (may_follow (lines ++ block.lines) (start + line.time) line.what) both.1 in
    let below = leb-false block.repeat.period line.time both.0 in
    let order = pushed (lines ++ block.lines) at kept.order follows in
    let here : IsInside start block.repeat.period at = record { from = omega arith; below = omega arith } in
    record {
      order = subst (Pairs Follows) (append_assoc lines block.lines (at ∷ [])) order;
      open_block = record {
        after = kept.open_block.after;
        inside = each_append (IsInside start block.repeat.period) block.lines (at ∷ []) kept.open_block.inside (here, tt);
        period = kept.open_block.period;
      };
      at_end = no_end _ end none;
    }

-- a block begins
opened : (lines : List VectorLine) (block : Option Block) (end : Option ℕ) (repeat : Repeat) → is_some end ≡ false → is_some block ≡ false → 0 < repeat.period
    → (let body : Body = record { lines = lines; block = block; end = end } in not (none_later (written_lines body) repeat.start) ≡ false → Kept body → Kept (record body { block = Some (record { repeat = repeat; lines = [] }) }))
opened lines (Some block) end repeat none outside some later kept = absurd cc
opened lines None end repeat none outside some later kept =
    let early : none_later (lines ++ []) repeat.start ≡ true = not-false (none_later (lines ++ []) repeat.start) later in
    let each = each_from (λ (line : VectorLine). leb line.time repeat.start) (λ (line : VectorLine). line.time ≤ repeat.start) (lines ++ []) (λ line e. leb-true line.time repeat.start e) early in
    record {
      order = kept.order;
      open_block = record { after = each_front (λ (line : VectorLine). line.time ≤ repeat.start) lines [] each; inside = tt; period = some };
      at_end = no_end _ end none;
    }

-- a block ends
closed : (lines : List VectorLine) (block : Option Block) (end : Option ℕ) → is_some end ≡ false → is_some block ≡ true
    → (let body : Body = record { lines = lines; block = block; end = end } in Kept body → Kept (with_turns body block))
unfolding turns_of
closed lines None end none inside kept = absurd cc
closed lines (Some block) end none inside kept =
    let order = turns_order lines block block.repeat.count kept.order kept.open_block in
    record {
      order = subst (Pairs Follows) (sym (append-nil (lines ++ flat_map (turn_of block) (range_with_len 0 block.repeat.count)))) order;
      open_block = tt;
      at_end = no_end _ end none;
    }

-- the end
ended : (body : Body) (time : ℕ) → is_some body.block ≡ false → not (none_later (written_lines body) time) ≡ false → Kept body → Kept (record body { end = Some time })
ended body time outside later kept =
    let early : none_later (written_lines body) time ≡ true = not-false (none_later (written_lines body) time) later in
    record {
      order = kept.order;
      open_block = kept.open_block;
      at_end = record {
        within = each_from (λ (line : VectorLine). leb line.time time) (λ (line : VectorLine). line.time ≤ time) (written_lines body) (λ line e. leb-true line.time time e) early;
        closed = outside;
      };
    }

-- a repetition has a period
abbrev pub HasPeriod : Said → Type 0
HasPeriod (Timed line) = Unit {0}
HasPeriod (Opens repeat) = 0 < repeat.period
HasPeriod Closes = Unit {0}
HasPeriod (Ends time) = Unit {0}

-- a line that may stand there and breaks no order keeps it
pub kept_more : (body : Body) (number : ℕ) (said : Said) → HasPeriod said → may_stand body said ≡ true → breaks_order body said ≡ false → Kept body → Kept (with_said body number said)
unfolding may_stand breaks_order with_said
kept_more body number (Timed line) period stands breaks kept = timed_kept body.lines body.block body.end number line (nothing body (Timed line) stands) breaks kept
kept_more body number (Opens repeat) period stands breaks kept =
    let parts = and_parts (not (is_some body.end)) (not (is_some body.block)) stands in
    opened body.lines body.block body.end repeat (not-true (is_some body.end) parts.0) (not-true (is_some body.block) parts.1) period breaks kept
kept_more body number Closes period stands breaks kept =
    let parts = and_parts (not (is_some body.end)) (is_some body.block) stands in
    closed body.lines body.block body.end (not-true (is_some body.end) parts.0) parts.1 kept
kept_more body number (Ends time) period stands breaks kept =
    let parts = and_parts (not (is_some body.end)) (not (is_some body.block)) stands in
    ended body time (not-true (is_some body.block) parts.1) breaks kept
