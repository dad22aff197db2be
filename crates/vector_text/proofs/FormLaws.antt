-- What a text means as a function is what it means by the form of a vector text.
use Rattle.std.proofs.Common.{◌≡◌, ℕ, zero, suc, ◌+◌, ◌*◌, ◌<◌, ◌≤◌, Bool, true, false, not, leb, ltb, ◌||◌, ◌&&◌, ◌⊎◌, inl, inr, List, [], ◌∷◌, ◌++◌, map, Option, Some, None, Ok, Err, is_some, refl, sym, ap, subst, ◌∙◌, append_assoc, arith}
use Rattle.std.specs.Prelude.{flat_map, sum_by, option_map, Result, All, IfOk}
use Rattle.std.specs.List.{AllZip, AllByRecursion, range_with_len}
use Rattle.std.proofs.lemmas.Bool.{ltb-false, leb-false, leb-true, not-false, not-true, and_parts}
use Rattle.std.proofs.lemmas.List.{append-nil, map-append}
use Rattle.std.proofs.lemmas.List.Sums.{sum_by-append, sum_by-cons, sum_by_push}
use Rattle.std.proofs.lemmas.Grind.{flat_map-append}
use Rattle.line_text.specs.Fields.{fields_of}
use Rattle.line_text.specs.Lines.{text_lines}
use Rattle.line_text.specs.Faults.{first_fault, first_fault_behind}
use Rattle.vector_text.specs.declared.fault.VecFault.{VecFault}
use Rattle.vector_text.specs.declared.fault.VecFault.TheVariants.{BadLine, Limit, Order, NoEnd}
use Rattle.vector_text.specs.declared.stimulus.StimulusLine.{StimulusLine}
use Rattle.vector_text.specs.declared.stimulus.StimulusWhat.{StimulusWhat}
use Rattle.vector_text.specs.declared.vectors.VectorLine.{VectorLine}
use Rattle.vector_text.specs.declared.vectors.Vectors.{Vectors}
use Rattle.vector_text.specs.declared.said.Version.{Version}
use Rattle.vector_text.specs.declared.said.Version.TheVariants.{First, Second}
use Rattle.vector_text.specs.declared.said.Repeat.{Repeat}
use Rattle.vector_text.specs.declared.said.Said.{Said}
use Rattle.vector_text.specs.declared.said.Said.TheVariants.{Timed, Opens, Closes, Ends}
use Rattle.vector_text.specs.Answers.{Reads}
use Rattle.vector_text.specs.Sayings.{said_of, version_of, inputs_of, outputs_of, is_second}
use Rattle.vector_text.specs.Written.{Block, Body, last_time, greatest_count, greatest_size, turns_of, turn_of, size_of, total_size, written_lines, with_said, with_said_if, may_stand, passes_limit, breaks_order, none_later, said_fault, body_of, line_fault}
use Rattle.vector_text.specs.Text.{or_fault, Outputs, outputs_if, outputs_in, body_end, body_unless, body_in, vectors_with, behind_inputs, behind_version, vectors_in, vectors_of}
use Rattle.vector_text.specs.Form.{Numbered, Item, One, Turns, said_timed, item_sayings, line_after, block_of, item_lines, IsBlock, IsItem, FollowsAll, BeginsBehind, BeginBehind, Says, AreOutputs, IsOfSize, IsVectors}
use Rattle.vector_text.proofs.PairLaws.{each_append, All-from_each}
use Rattle.vector_text.proofs.OrderLaws.{each_from}
use Rattle.vector_text.proofs.OrderedLemmas.{clean, passed, given_ok, text_ordered}
use Rattle.vector_text.proofs.ReadingLemmas.{body_of-push}
use Rattle.vector_text.proofs.LawfulLemmas.{clean_first}

-- ---- lists

zip_append : {A B : Type 0} (R : A → B → Type 0) (xs : List A) (ys : List B) (us : List A) (vs : List B) → AllZip R xs ys → AllZip R us vs → AllZip R (xs ++ us) (ys ++ vs)
zip_append R [] [] us vs h k = k
zip_append R [] (y ∷ ys) us vs h k = absurd h
zip_append R (x ∷ xs) [] us vs h k = absurd h
zip_append R (x ∷ xs) (y ∷ ys) us vs h k = (h.0, zip_append R xs ys us vs h.1 k)

-- ---- an open block

record Open : Type 0 where
  opening : ℕ
  repeat : Repeat
  lines : List Numbered

abbrev open_sayings : Option Open → List (ℕ × Said)
open_sayings None = []
open_sayings (Some o) = (o.opening, Opens o.repeat) ∷ map said_timed o.lines

abbrev open_block : Option Open → Option Block
open_block None = None
open_block (Some o) = Some (block_of o.repeat o.lines)

-- the numbers of a block, line by line
record IsOpenBlock (before : List VectorLine) (o : Open) : Type 0 where
  count : o.repeat.count ≤ greatest_count
  period : o.repeat.period ≤ last_time Second
  start : o.repeat.start ≤ last_time Second
  inside : AllByRecursion (λ (line : Numbered). line.1.time < o.repeat.period) o.lines
  after : AllByRecursion (λ (line : VectorLine). line.time ≤ o.repeat.start) before

abbrev IsOpen : List VectorLine → Option Open → Type 0
IsOpen before None = Unit {0}
IsOpen before (Some o) = IsOpenBlock before o

-- what is written out by lines outside blocks and an open block
abbrev body_with : List VectorLine → Option Open → Body
body_with lines o = record { lines = lines; block = open_block o; end = None }

-- lines of a text are items and an open block, and write these out
record Shape (version : Version) (done : List (ℕ × List ℕ)) (body : Body) : Type 0 where
  items : List Item
  open_part : Option Open
  sayings : AllZip (Says version) done (flat_map item_sayings items ++ open_sayings open_part)
  blocks : AllByRecursion IsItem items
  begins : BeginBehind [] items
  opened : IsOpen (flat_map item_lines items) open_part
  size : IsOfSize version (flat_map item_lines items)
  body_is : body ≡ body_with (flat_map item_lines items) open_part

-- ---- one item more

begins_push : (before : List VectorLine) (items : List Item) (item : Item) → BeginBehind before items → BeginsBehind (before ++ flat_map item_lines items) item → BeginBehind before (items ++ item ∷ [])
begins_push before [] item h k = (subst (λ (ls : List VectorLine). BeginsBehind ls item) (append-nil before) k, tt)
begins_push before (first ∷ items) item h k =
    (h.0, begins_push (before ++ item_lines first) items item h.1 (subst (λ (ls : List VectorLine). BeginsBehind ls item) (sym (append_assoc before (item_lines first) (flat_map item_lines items))) k))

-- the sayings of items and one more
sayings_push : (items : List Item) (item : Item) → flat_map item_sayings (items ++ item ∷ []) ≡ flat_map item_sayings items ++ item_sayings item
sayings_push items item = flat_map-append item_sayings items (item ∷ []) ∙ ap (λ (s : List (ℕ × Said)). flat_map item_sayings items ++ s) (append-nil (item_sayings item))

lines_push : (items : List Item) (item : Item) → flat_map item_lines (items ++ item ∷ []) ≡ flat_map item_lines items ++ item_lines item
lines_push items item = flat_map-append item_lines items (item ∷ []) ∙ ap (λ (s : List VectorLine). flat_map item_lines items ++ s) (append-nil (item_lines item))

or_parts : (x y : Bool) → (x || y) ≡ false → (x ≡ false) × (y ≡ false)
or_parts true y e = absurd cc
or_parts false y e = (refl, e)

last_smaller : (version : Version) → last_time version ≤ last_time Second
last_smaller First = omega arith
last_smaller Second = omega arith

-- ---- sizes

size_push : (version : Version) (lines : List VectorLine) (line : VectorLine) → (is_second version && ltb greatest_size (total_size lines + size_of line.what)) ≡ false → IsOfSize version (lines ++ line ∷ [])
size_push First lines line e = tt
size_push Second lines line e =
    let total : total_size (lines ++ line ∷ []) ≡ total_size lines + size_of line.what = sum_by_push (λ (x : VectorLine). size_of x.what) lines line in
    let below = ltb-false greatest_size (total_size lines + size_of line.what) e in
    omega arith

-- a turn has the size of the block's lines, and all turns so many times that
turn_size : (by : ℕ) (lines : List VectorLine) → sum_by (λ (line : VectorLine). size_of line.what) (map (λ (line : VectorLine). record line { time = line.time + by }) lines) ≡ total_size lines
turn_size by [] = refl
turn_size by (line ∷ lines) =
    let size = λ (x : VectorLine). size_of x.what in
    sum_by-cons size (record line { time = line.time + by }) (map (λ (line : VectorLine). record line { time = line.time + by }) lines)
    ∙ ap (λ (n : ℕ). size_of line.what + n) (turn_size by lines) ∙ sym (sum_by-cons size line lines)

pub turns_size : (block : Block) (a n : ℕ) → total_size (flat_map (turn_of block) (range_with_len a n)) ≡ n * total_size block.lines
turns_size block a zero = omega arith
turns_size block a (suc n) =
    sum_by-append (λ (x : VectorLine). size_of x.what) (turn_of block a) (flat_map (turn_of block) (range_with_len (a + 1) n))
    ∙ (let one = turn_size (a * block.repeat.period) block.lines in let rest = turns_size block (a + 1) n in omega arith)

size_turns : (version : Version) (lines : List VectorLine) (block : Block) → ltb greatest_size (total_size lines + block.repeat.count * total_size block.lines) ≡ false → IsOfSize version (lines ++ turns_of block)
unfolding turns_of
size_turns First lines block e = tt
size_turns Second lines block e =
    let total : total_size (lines ++ flat_map (turn_of block) (range_with_len 0 block.repeat.count)) ≡ total_size lines + total_size (flat_map (turn_of block) (range_with_len 0 block.repeat.count))
    = sum_by-append (λ (x : VectorLine). size_of x.what) lines (flat_map (turn_of block) (range_with_len 0 block.repeat.count)) in
    let turns = turns_size block 0 block.repeat.count in
    let below = ltb-false greatest_size (total_size lines + block.repeat.count * total_size block.lines) e in
    omega arith

-- ---- one line more

nothing : (body : Body) (said : Said) → may_stand body said ≡ true → is_some body.end ≡ false
unfolding may_stand
nothing body (Timed line) e = not-true (is_some body.end) e
nothing body (Opens repeat) e = not-true (is_some body.end) (and_parts (not (is_some body.end)) (not (is_some body.block)) e).0
nothing body Closes e = not-true (is_some body.end) (and_parts (not (is_some body.end)) (is_some body.block) e).0
nothing body (Ends time) e = not-true (is_some body.end) (and_parts (not (is_some body.end)) (not (is_some body.block)) e).0

-- what the items before a line keep
record Front (version : Version) (done : List (ℕ × List ℕ)) (items : List Item) (o : Option Open) : Type 0 where
  sayings : AllZip (Says version) done (flat_map item_sayings items ++ open_sayings o)
  blocks : AllByRecursion IsItem items
  begins : BeginBehind [] items
  opened : IsOpen (flat_map item_lines items) o
  size : IsOfSize version (flat_map item_lines items)

-- the sayings of items alone
outside_sayings : (version : Version) (done : List (ℕ × List ℕ)) (items : List Item) → Front version done items None → AllZip (Says version) done (flat_map item_sayings items)
outside_sayings version done items front = subst (λ (s : List (ℕ × Said)). AllZip (Says version) done s) (append-nil (flat_map item_sayings items)) front.sayings

-- a line of no block
one_more : (version : Version) (done : List (ℕ × List ℕ)) (line : ℕ × List ℕ) (said : StimulusLine) (items : List Item) → said_of version (fields_of line.1) ≡ Some (Timed said) → Front version done items None
    → (is_second version && ltb greatest_size (total_size (flat_map item_lines items) + size_of said.what)) ≡ false
    → Shape version (done ++ line ∷ []) (body_with (flat_map item_lines items ++ line_after 0 (line.0, said) ∷ []) None)
one_more version done line said items says front size =
    let item : Item = One (line.0, said) in
    let spoken = flat_map item_sayings items in
    let whole : spoken ++ (line.0, Timed said) ∷ [] ≡ flat_map item_sayings (items ++ item ∷ []) ++ []
    = sym (sayings_push items item) ∙ sym (append-nil (flat_map item_sayings (items ++ item ∷ []))) in
    record {
      items = items ++ item ∷ [];
      open_part = None;
      sayings = subst (λ (s : List (ℕ × Said)). AllZip (Says version) (done ++ line ∷ []) s) whole
          (zip_append (Says version) done spoken (line ∷ []) ((line.0, Timed said) ∷ []) (outside_sayings version done items front) ((refl, says), tt));
      blocks = each_append IsItem items (item ∷ []) front.blocks (tt, tt);
      begins = begins_push [] items item front.begins tt;
      opened = tt;
      size = subst (IsOfSize version) (sym (lines_push items item)) (size_push version (flat_map item_lines items) (line_after 0 (line.0, said)) size);
      body_is = ap (λ (ls : List VectorLine). body_with ls None) (sym (lines_push items item));
    }

-- a line of an open block
one_after : (start : ℕ) (lines : List Numbered) (line : Numbered) → map (line_after start) (lines ++ line ∷ []) ≡ map (line_after start) lines ++ line_after start line ∷ []
one_after start lines line = map-append (line_after start) lines (line ∷ [])

-- a body with these lines and this block
abbrev pub with_block_of : List VectorLine → Repeat → List VectorLine → Body
with_block_of lines repeat first = record { lines = lines; block = Some (record { repeat = repeat; lines = first }); end = None }

inner_more : (version : Version) (done : List (ℕ × List ℕ)) (line : ℕ × List ℕ) (said : StimulusLine) (items : List Item) (o : Open) → said_of version (fields_of line.1) ≡ Some (Timed said) → Front version done items (Some o)
    → said.time < o.repeat.period
    → Shape version (done ++ line ∷ []) (with_block_of (flat_map item_lines items) o.repeat (map (line_after o.repeat.start) o.lines ++ line_after o.repeat.start (line.0, said) ∷ []))
inner_more version done line said items o says front below =
    let more : Open = record { opening = o.opening; repeat = o.repeat; lines = o.lines ++ (line.0, said) ∷ [] } in
    let spoken = flat_map item_sayings items in
    let whole : (spoken ++ open_sayings (Some o)) ++ (line.0, Timed said) ∷ [] ≡ spoken ++ open_sayings (Some more)
    = append_assoc spoken (open_sayings (Some o)) ((line.0, Timed said) ∷ []) ∙ ap (λ (s : List (ℕ × Said)). spoken ++ ((o.opening, Opens o.repeat) ∷ s)) (sym (map-append said_timed o.lines ((line.0, said) ∷ []))) in
    record {
      items = items;
      open_part = Some more;
      sayings = subst (λ (s : List (ℕ × Said)). AllZip (Says version) (done ++ line ∷ []) s) whole (zip_append (Says version) done (spoken ++ open_sayings (Some o)) (line ∷ []) ((line.0, Timed said) ∷ []) front.sayings ((refl, says), tt));
      blocks = front.blocks;
      begins = front.begins;
      opened = record {
        count = front.opened.count;
        period = front.opened.period;
        start = front.opened.start;
        inside = each_append (λ (x : Numbered). x.1.time < o.repeat.period) o.lines ((line.0, said) ∷ []) front.opened.inside (below, tt);
        after = front.opened.after;
      };
      size = front.size;
      body_is = ap (with_block_of (flat_map item_lines items) o.repeat) (sym (one_after o.repeat.start o.lines (line.0, said)));
    }

-- a block begins
block_more : (version : Version) (done : List (ℕ × List ℕ)) (line : ℕ × List ℕ) (repeat : Repeat) (items : List Item) → said_of version (fields_of line.1) ≡ Some (Opens repeat) → Front version done items None
    → repeat.count ≤ greatest_count → repeat.start ≤ last_time Second → repeat.period ≤ last_time Second → AllByRecursion (λ (x : VectorLine). x.time ≤ repeat.start) (flat_map item_lines items)
    → Shape version (done ++ line ∷ []) (with_block_of (flat_map item_lines items) repeat [])
block_more version done line repeat items says front count start period after =
    record {
      items = items;
      open_part = Some (record { opening = line.0; repeat = repeat; lines = [] });
      sayings = zip_append (Says version) done (flat_map item_sayings items) (line ∷ []) ((line.0, Opens repeat) ∷ []) (outside_sayings version done items front) ((refl, says), tt);
      blocks = front.blocks;
      begins = front.begins;
      opened = record { count = count; period = period; start = start; inside = tt; after = after };
      size = front.size;
      body_is = refl;
    }

-- a block ends
turns_more : (version : Version) (done : List (ℕ × List ℕ)) (line : ℕ × List ℕ) (items : List Item) (o : Open) → said_of version (fields_of line.1) ≡ Some Closes → Front version done items (Some o)
    → ltb greatest_size (total_size (flat_map item_lines items) + o.repeat.count * total_size (map (line_after o.repeat.start) o.lines)) ≡ false
    → Shape version (done ++ line ∷ []) (body_with (flat_map item_lines items ++ turns_of (block_of o.repeat o.lines)) None)
turns_more version done line items o says front size =
    let item : Item = Turns o.opening o.repeat o.lines line.0 in
    let spoken = flat_map item_sayings items in
    let lines = flat_map item_lines items in
    let whole : (spoken ++ open_sayings (Some o)) ++ (line.0, Closes) ∷ [] ≡ flat_map item_sayings (items ++ item ∷ []) ++ []
    = append_assoc spoken (open_sayings (Some o)) ((line.0, Closes) ∷ []) ∙ sym (sayings_push items item) ∙ sym (append-nil (flat_map item_sayings (items ++ item ∷ []))) in
    let block : IsBlock o.repeat o.lines = record { count = front.opened.count; period = front.opened.period; start = front.opened.start; inside = All-from_each (λ (x : Numbered). x.1.time < o.repeat.period) o.lines front.opened.inside } in
    record {
      items = items ++ item ∷ [];
      open_part = None;
      sayings = subst (λ (s : List (ℕ × Said)). AllZip (Says version) (done ++ line ∷ []) s) whole (zip_append (Says version) done (spoken ++ open_sayings (Some o)) (line ∷ []) ((line.0, Closes) ∷ []) front.sayings ((refl, says), tt));
      blocks = each_append IsItem items (item ∷ []) front.blocks (block, tt);
      begins = begins_push [] items item front.begins (All-from_each (λ (x : VectorLine). x.time ≤ o.repeat.start) lines front.opened.after);
      opened = tt;
      size = subst (IsOfSize version) (sym (lines_push items item)) (size_turns version lines (block_of o.repeat o.lines) size);
      body_is = ap (λ (ls : List VectorLine). body_with ls None) (sym (lines_push items item));
    }

-- what a timed line without fault does, by the block in which it stands
timed_more : (version : Version) (done : List (ℕ × List ℕ)) (line : ℕ × List ℕ) (said : StimulusLine) (items : List Item) (o : Option Open) → said_of version (fields_of line.1) ≡ Some (Timed said) → Front version done items o
    → passes_limit version (body_with (flat_map item_lines items) o) (Timed said) ≡ false → breaks_order (body_with (flat_map item_lines items) o) (Timed said) ≡ false
    → Shape version (done ++ line ∷ []) (with_said (body_with (flat_map item_lines items) o) line.0 (Timed said))
unfolding passes_limit breaks_order with_said
timed_more version done line said items None says front small order =
    one_more version done line said items says front (or_parts (ltb (last_time version) said.time) (is_second version && ltb greatest_size (total_size (flat_map item_lines items) + size_of said.what)) small).1
timed_more version done line said items (Some o) says front small order =
    inner_more version done line said items o says front (leb-false o.repeat.period said.time (or_parts (leb o.repeat.period said.time) _ order).0)

-- the same for the beginning of a block
opens_more : (version : Version) (done : List (ℕ × List ℕ)) (line : ℕ × List ℕ) (repeat : Repeat) (items : List Item) (o : Option Open) → said_of version (fields_of line.1) ≡ Some (Opens repeat) → Front version done items o
    → may_stand (body_with (flat_map item_lines items) o) (Opens repeat) ≡ true → passes_limit version (body_with (flat_map item_lines items) o) (Opens repeat) ≡ false → breaks_order (body_with (flat_map item_lines items) o) (Opens repeat) ≡ false
    → Shape version (done ++ line ∷ []) (with_said (body_with (flat_map item_lines items) o) line.0 (Opens repeat))
unfolding may_stand passes_limit breaks_order with_said
opens_more version done line repeat items (Some o) says front stands small order = absurd cc
opens_more version done line repeat items None says front stands small order =
    let lines = flat_map item_lines items in
    let first = or_parts (ltb greatest_count repeat.count) (ltb (last_time version) repeat.start) (or_parts (ltb greatest_count repeat.count || ltb (last_time version) repeat.start) (ltb (last_time version) repeat.period) small).0 in
    let third = (or_parts (ltb greatest_count repeat.count || ltb (last_time version) repeat.start) (ltb (last_time version) repeat.period) small).1 in
    let early : none_later (lines ++ []) repeat.start ≡ true = not-false (none_later (lines ++ []) repeat.start) order in
    let each = each_from (λ (x : VectorLine). leb x.time repeat.start) (λ (x : VectorLine). x.time ≤ repeat.start) (lines ++ []) (λ x e. leb-true x.time repeat.start e) early in
    let count = ltb-false greatest_count repeat.count first.0 in
    let start = ltb-false (last_time version) repeat.start first.1 in
    let period = ltb-false (last_time version) repeat.period third in
    block_more version done line repeat items says front count (omega (arith, last_smaller version)) (omega (arith, last_smaller version))
    (subst (λ (ls : List VectorLine). AllByRecursion (λ (x : VectorLine). x.time ≤ repeat.start) ls) (append-nil lines) each)

-- and for its end
closes_more : (version : Version) (done : List (ℕ × List ℕ)) (line : ℕ × List ℕ) (items : List Item) (o : Option Open) → said_of version (fields_of line.1) ≡ Some Closes → Front version done items o
    → may_stand (body_with (flat_map item_lines items) o) Closes ≡ true → passes_limit version (body_with (flat_map item_lines items) o) Closes ≡ false
    → Shape version (done ++ line ∷ []) (with_said (body_with (flat_map item_lines items) o) line.0 Closes)
unfolding may_stand passes_limit with_said
closes_more version done line items None says front stands small = absurd cc
closes_more version done line items (Some o) says front stands small = turns_more version done line items o says front small

-- ---- the lines up to the end

-- lines behind others are items and an end, and write these out
record IsWhole (version : Version) (lines : List (ℕ × List ℕ)) (body : Body) : Type 0 where
  items : List Item
  last : ℕ
  end : ℕ
  sayings : AllZip (Says version) lines (flat_map item_sayings items ++ (last, Ends end) ∷ [])
  blocks : AllByRecursion IsItem items
  begins : BeginBehind [] items
  size : IsOfSize version (flat_map item_lines items)
  times : end ≤ last_time version
  body_is : body ≡ record { lines = flat_map item_lines items; block = None; end = Some end }

-- the end, outside blocks
ends_more : (version : Version) (done : List (ℕ × List ℕ)) (line : ℕ × List ℕ) (time : ℕ) (items : List Item) (o : Option Open) → said_of version (fields_of line.1) ≡ Some (Ends time) → Front version done items o
    → may_stand (body_with (flat_map item_lines items) o) (Ends time) ≡ true → passes_limit version (body_with (flat_map item_lines items) o) (Ends time) ≡ false
    → IsWhole version (done ++ line ∷ []) (with_said (body_with (flat_map item_lines items) o) line.0 (Ends time))
unfolding may_stand passes_limit with_said
ends_more version done line time items (Some o) says front stands small = absurd cc
ends_more version done line time items None says front stands small =
    record {
      items = items;
      last = line.0;
      end = time;
      sayings = zip_append (Says version) done (flat_map item_sayings items) (line ∷ []) ((line.0, Ends time) ∷ []) (outside_sayings version done items front) ((refl, says), tt);
      blocks = front.blocks;
      begins = front.begins;
      size = front.size;
      times = ltb-false (last_time version) time small;
      body_is = refl;
    }

-- a line without fault makes more of the shape, or ends it
abbrev ShapeOrWhole : Version → List (ℕ × List ℕ) → Body → Type 0
ShapeOrWhole version done body = Shape version done body ⊎ IsWhole version done body

said_more : (version : Version) (done : List (ℕ × List ℕ)) (line : ℕ × List ℕ) (said : Said) (items : List Item) (o : Option Open) → said_of version (fields_of line.1) ≡ Some said → Front version done items o
    → may_stand (body_with (flat_map item_lines items) o) said ≡ true → passes_limit version (body_with (flat_map item_lines items) o) said ≡ false → breaks_order (body_with (flat_map item_lines items) o) said ≡ false
    → ShapeOrWhole version (done ++ line ∷ []) (with_said (body_with (flat_map item_lines items) o) line.0 said)
said_more version done line (Timed said) items o says front stands small order = inl (timed_more version done line said items o says front small order)
said_more version done line (Opens repeat) items o says front stands small order = inl (opens_more version done line repeat items o says front stands small order)
said_more version done line Closes items o says front stands small order = inl (closes_more version done line items o says front stands small)
said_more version done line (Ends time) items o says front stands small order = inr (ends_more version done line time items o says front stands small)

judged : (version : Version) (done : List (ℕ × List ℕ)) (line : ℕ × List ℕ) (said : Option Said) (items : List Item) (o : Option Open) → said_of version (fields_of line.1) ≡ said → Front version done items o
    → said_fault version (body_with (flat_map item_lines items) o) line.0 said ≡ None → ShapeOrWhole version (done ++ line ∷ []) (with_said_if (body_with (flat_map item_lines items) o) line.0 said)
judged version done line None items o says front none = absurd cc
judged version done line (Some said) items o says front none =
    let body = body_with (flat_map item_lines items) o in
    let parts = clean (may_stand body said) (passes_limit version body said) (breaks_order body said) (BadLine line.0) (Limit line.0) (Order line.0) none in
    said_more version done line said items o says front parts.0 parts.1 parts.2

line_more : (version : Version) (done : List (ℕ × List ℕ)) (line : ℕ × List ℕ) → Shape version done (body_of version done) → line_fault version done line ≡ None → ShapeOrWhole version (done ++ line ∷ []) (body_of version (done ++ line ∷ []))
unfolding line_fault
line_more version done line shape none =
    let said = said_of version (fields_of line.1) in
    let fault : said_fault version (body_with (flat_map item_lines shape.items) shape.open_part) line.0 said ≡ None = ap (λ (b : Body). said_fault version b line.0 said) (sym shape.body_is) ∙ none in
    let front : Front version done shape.items shape.open_part = record { sayings = shape.sayings; blocks = shape.blocks; begins = shape.begins; opened = shape.opened; size = shape.size } in
    let is : with_said_if (body_with (flat_map item_lines shape.items) shape.open_part) line.0 said ≡ body_of version (done ++ line ∷ [])
    = ap (λ (b : Body). with_said_if b line.0 said) (sym shape.body_is) ∙ sym (body_of-push version done line) in
    subst (ShapeOrWhole version (done ++ line ∷ [])) is (judged version done line said shape.items shape.open_part refl front fault)

-- no line stands behind the end
ended_stands : (body : Body) (said : Said) (end : ℕ) → body.end ≡ Some end → may_stand body said ≡ true → ⊥
ended_stands body said end is stands =
    let none : is_some body.end ≡ false = nothing body said stands in
    let some : is_some body.end ≡ true = ap is_some is in
    let never : true ≡ false = sym some ∙ none in
    cc

behind_end : (version : Version) (body : Body) (number : ℕ) (said : Option Said) (end : ℕ) → body.end ≡ Some end → said_fault version body number said ≡ None → ⊥
behind_end version body number None end is none = cc
behind_end version body number (Some said) end is none =
    ended_stands body said end is (clean (may_stand body said) (passes_limit version body said) (breaks_order body said) (BadLine number) (Limit number) (Order number) none).0

no_rest : (version : Version) (done rest : List (ℕ × List ℕ)) → IsWhole version done (body_of version done) → first_fault_behind (line_fault version) done rest ≡ None → rest ≡ []
unfolding line_fault
no_rest version done [] whole none = refl
no_rest version done (line ∷ rest) whole none =
    let end : (body_of version done).end ≡ Some whole.end = ap (λ (b : Body). b.end) whole.body_is in
    absurd (behind_end version (body_of version done) line.0 (said_of version (fields_of line.1)) whole.end end (clean_first (line_fault version) done line rest none).0)

-- lines without fault behind others, all of which have an end, are whole
lines_whole : (version : Version) (done rest : List (ℕ × List ℕ)) (end : ℕ) → ShapeOrWhole version done (body_of version done) → first_fault_behind (line_fault version) done rest ≡ None → (body_of version (done ++ rest)).end ≡ Some end
    → IsWhole version (done ++ rest) (body_of version (done ++ rest))
lines_whole version done rest end (inr whole) none is =
    subst (λ (ls : List (ℕ × List ℕ)). IsWhole version (done ++ ls) (body_of version (done ++ ls))) (sym (no_rest version done rest whole none))
    (subst (λ (ls : List (ℕ × List ℕ)). IsWhole version ls (body_of version ls)) (sym (append-nil done)) whole)
lines_whole version done [] end (inl shape) none is =
    let unended : (body_of version done).end ≡ None = ap (λ (b : Body). b.end) shape.body_is in
    let same : (body_of version (done ++ [])).end ≡ (body_of version done).end = ap (λ (ls : List (ℕ × List ℕ)). (body_of version ls).end) (append-nil done) in
    let never : Some end ≡ None = sym is ∙ same ∙ unended in
    absurd cc
lines_whole version done (line ∷ rest) end (inl shape) none is =
    let p = clean_first (line_fault version) done line rest none in
    let here = line_more version done line shape p.0 in
    let regroup = append_assoc done (line ∷ []) rest in
    subst (λ (ls : List (ℕ × List ℕ)). IsWhole version ls (body_of version ls)) regroup
    (lines_whole version (done ++ line ∷ []) rest end here p.1 (ap (λ (ls : List (ℕ × List ℕ)). (body_of version ls).end) regroup ∙ is))

no_shape : (version : Version) → Shape version [] (body_of version [])
unfolding body_of
no_shape First = record { items = []; open_part = None; sayings = tt; blocks = tt; begins = tt; opened = tt; size = tt; body_is = refl }
no_shape Second = record { items = []; open_part = None; sayings = tt; blocks = tt; begins = tt; opened = tt; size = omega arith; body_is = refl }

-- what is read of the lines behind the head
end_there : (body : Body) (x : List VectorLine × ℕ) → body_end body ≡ Ok x → (body.end ≡ Some x.1) × (body.lines ≡ x.0)
end_there body x e = end_is body.lines body.end x e
  where
    end_is : (lines : List VectorLine) (end : Option ℕ) (x : List VectorLine × ℕ) → or_fault end NoEnd (λ at. Ok (lines, at)) ≡ Ok x → (end ≡ Some x.1) × (lines ≡ x.0)
    end_is lines None x e = absurd cc
    end_is lines (Some end) x e =
        let same : (lines, end) ≡ x = cc in
        (ap (λ (y : List VectorLine × ℕ). Some y.1) same, ap (λ (y : List VectorLine × ℕ). y.0) same)

-- ---- a text is of the form that it means

-- lines behind the head are of the form
record IsBody (version : Version) (lines : List (ℕ × List ℕ)) (x : List VectorLine × ℕ) : Type 0 where
  items : List Item
  last : ℕ
  sayings : AllZip (Says version) lines (flat_map item_sayings items ++ (last, Ends x.1) ∷ [])
  blocks : All IsItem items
  begins : BeginBehind [] items
  written : x.0 ≡ flat_map item_lines items
  times : x.1 ≤ last_time version
  size : IsOfSize version x.0

body_form : (version : Version) (lines : List (ℕ × List ℕ)) (x : List VectorLine × ℕ) → body_in version lines ≡ Ok x → IsBody version lines x
unfolding body_in
body_form version lines x e =
    let p = passed version lines (first_fault (line_fault version) lines) x e in
    let end = end_there (body_of version lines) x p.1 in
    let whole = lines_whole version [] lines x.1 (inl (no_shape version)) p.0 end.0 in
    let ends : Some whole.end ≡ Some x.1 = sym (ap (λ (b : Body). b.end) whole.body_is) ∙ end.0 in
    let same_end : whole.end ≡ x.1 = cc in
    let written : x.0 ≡ flat_map item_lines whole.items = sym end.1 ∙ ap (λ (b : Body). b.lines) whole.body_is in
    record {
      items = whole.items;
      last = whole.last;
      sayings = subst (λ (n : ℕ). AllZip (Says version) lines (flat_map item_sayings whole.items ++ (whole.last, Ends n) ∷ [])) same_end whole.sayings;
      blocks = All-from_each IsItem whole.items whole.blocks;
      begins = whole.begins;
      written = written;
      times = subst (λ (n : ℕ). n ≤ last_time version) same_end whole.times;
      size = subst (IsOfSize version) (sym written) whole.size;
    }

-- a result that is there and the vectors that it makes
made_with : (inputs : List (List ℕ)) (number : ℕ) (outputs : Outputs) (body : Result (List VectorLine × ℕ) VecFault) (vectors : Vectors) → vectors_with inputs number outputs body ≡ Ok vectors
    → (x : List VectorLine × ℕ) × (body ≡ Ok x) × (record { inputs = inputs; inputs_line = number; outputs = outputs.names; outputs_line = outputs.line; lines = x.0; end = x.1 } ≡ vectors)
made_with inputs number outputs (Err fault) vectors e = absurd cc
made_with inputs number outputs (Ok x) vectors e = (x, refl, cc)

-- the outputs line, where there is one
outputs_form : (lines : List (ℕ × List ℕ)) (vectors : Vectors) → vectors.outputs ≡ (outputs_in lines).names → vectors.outputs_line ≡ (outputs_in lines).line → AreOutputs vectors lines (outputs_in lines).rest vectors.outputs
outputs_form lines vectors names number = rw names (at_names lines number)
  where
    at_line : (line : ℕ × List ℕ) (rest : List (ℕ × List ℕ)) (o : Option (List (List ℕ))) → outputs_of line.1 ≡ o → vectors.outputs_line ≡ (outputs_if o line rest).line → AreOutputs vectors (line ∷ rest) (outputs_if o line rest).rest (outputs_if o line rest).names
    at_line line rest None is number = (refl, number)
    at_line line rest (Some found) is number = (line.1, ap (λ (n : ℕ). (n, line.1) ∷ rest) (sym number), is)

    at_names : (lines : List (ℕ × List ℕ)) → vectors.outputs_line ≡ (outputs_in lines).line → AreOutputs vectors lines (outputs_in lines).rest (outputs_in lines).names
    at_names [] number = (refl, number)
    at_names (line ∷ rest) number = at_line line rest (outputs_of line.1) refl number

version_form : (text : List ℕ) (first : ℕ × List ℕ) (version : Version) (lines : List (ℕ × List ℕ)) (vectors : Vectors) → text_lines text ≡ first ∷ lines → version_of (fields_of first.1) ≡ Some version → vectors_of text ≡ Ok vectors
    → behind_version version lines ≡ Ok vectors → IsVectors text vectors
version_form text first version [] vectors is head whole e = absurd cc
version_form text first version (line ∷ rest) vectors is head whole e =
    let g = given_ok (inputs_of line.1) (BadLine line.0) (λ inputs. behind_inputs version inputs line.0 (outputs_in rest)) vectors e in
    let made = made_with g.0 line.0 (outputs_in rest) (body_in version (outputs_in rest).rest) vectors g.1 in
    let body = body_form version (outputs_in rest).rest made.0 made.1 in
    let same = made.2 in
    let lines_are : made.0.0 ≡ vectors.lines = ap (λ (v : Vectors). v.lines) same in
    let end_is : made.0.1 ≡ vectors.end = ap (λ (v : Vectors). v.end) same in
    record {
      version = version;
      first = first;
      second = line.1;
      behind = rest;
      rest = (outputs_in rest).rest;
      items = body.items;
      last = body.last;
      lines = is ∙ ap (λ (n : ℕ). first ∷ (n, line.1) ∷ rest) (ap (λ (v : Vectors). v.inputs_line) same);
      head = head;
      inputs = g.2 ∙ ap (λ (v : Vectors). Some v.inputs) same;
      outputs = outputs_form rest vectors (sym (ap (λ (v : Vectors). v.outputs) same)) (sym (ap (λ (v : Vectors). v.outputs_line) same));
      sayings = subst (λ (n : ℕ). AllZip (Says version) (outputs_in rest).rest (flat_map item_sayings body.items ++ (body.last, Ends n) ∷ [])) end_is body.sayings;
      blocks = body.blocks;
      begins = body.begins;
      written = sym lines_are ∙ body.written;
      ordered = text_ordered text vectors whole;
      times = subst (λ (n : ℕ). n ≤ last_time version) end_is body.times;
      size = subst (IsOfSize version) lines_are body.size;
    }

text_form : (text : List ℕ) (lines : List (ℕ × List ℕ)) (vectors : Vectors) → text_lines text ≡ lines → vectors_of text ≡ Ok vectors → vectors_in lines ≡ Ok vectors → IsVectors text vectors
text_form text [] vectors is whole e = absurd cc
text_form text (first ∷ rest) vectors is whole e =
    let g = given_ok (version_of (fields_of first.1)) (BadLine first.0) (λ version. behind_version version rest) vectors e in
    version_form text first g.0 rest vectors is g.2 whole g.1

pub IsVectors-from_text : (text : List ℕ) (vectors : Vectors) → vectors_of text ≡ Ok vectors → IsVectors text vectors
unfolding vectors_of
IsVectors-from_text text vectors e = text_form text (text_lines text) vectors refl e e

-- what is read from a text is of the form
pub read_form : (text : List ℕ) (result : Result Vectors VecFault) → Reads (λ (vectors : Vectors). vectors) result (vectors_of text) → IfOk result (λ (vectors : Vectors). IsVectors text vectors)
read_form text (Ok vectors) h = IsVectors-from_text text vectors h
read_form text (Err fault) h = tt
