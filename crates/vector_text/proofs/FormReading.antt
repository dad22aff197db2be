-- A text of the form of a vector text is read, and means what the form says.
use Rattle.std.proofs.Common.{◌≡◌, ℕ, zero, suc, ◌+◌, ◌-◌, ◌*◌, ◌<◌, ◌≤◌, Bool, true, false, not, cond, eqb, leb, ltb, ◌||◌, ◌&&◌, ◌⊎◌, inl, inr, List, [], ◌∷◌, ◌++◌, length, filter, map, Option, Some, None, Ok, Err, is_some, refl, sym, ap, subst, ◌∙◌, append_assoc, arith}
use Rattle.std.specs.Prelude.{flat_map, sum_by, option_map, option_and_then, Result, All, AllPairs, IfSome, codes, nat_lt}
use Rattle.std.specs.Str.{bytes_eq}
use Rattle.std.specs.List.{AllZip, AllByRecursion, range_with_len, list_all, slice_split, onto_first}
use Rattle.std.proofs.lemmas.Bool.{cases_Bool, le-ltb, le-leb, lt-leb, lt-ltb, eqb-true}
use Rattle.std.proofs.lemmas.List.{append-nil, map-append, map-id}
use Rattle.std.proofs.lemmas.List.Sums.{sum_by-append}
use Rattle.std.proofs.lemmas.List.FromFn.{map-range_with_len_more}
use Rattle.std.proofs.lemmas.Grind.{flat_map-append}
use Rattle.std.proofs.lemmas.Slice.Eq.{bytes_eq-Decides}
use Rattle.line_text.specs.declared.names.Place.{Place}
use Rattle.line_text.specs.declared.names.Place.TheVariants.{Between}
use Rattle.line_text.specs.Names.{names_of, names_from, behind_first}
use Rattle.line_text.specs.Numbers.{cap, capped_number, number_of, decimal_of}
use Rattle.line_text.specs.Fields.{fields_of, is_blank, one_of}
use Rattle.line_text.specs.Lines.{text_lines}
use Rattle.line_text.specs.Faults.{first_fault, first_fault_behind, fault_if, first_there}
use Rattle.line_text.proofs.FaultLaws.{first_fault_behind-none}
use Rattle.vector_text.specs.declared.fault.VecFault.{VecFault}
use Rattle.vector_text.specs.declared.fault.VecFault.TheVariants.{BadLine, Limit, Order, NoEnd}
use Rattle.vector_text.specs.declared.stimulus.StimulusLine.{StimulusLine}
use Rattle.vector_text.specs.declared.stimulus.StimulusWhat.{StimulusWhat}
use Rattle.vector_text.specs.declared.stimulus.StimulusWhat.TheVariants.{Values, Strobe, Expect}
use Rattle.vector_text.specs.declared.vectors.VectorLine.{VectorLine}
use Rattle.vector_text.specs.declared.vectors.Vectors.{Vectors}
use Rattle.vector_text.specs.declared.said.Version.{Version}
use Rattle.vector_text.specs.declared.said.Version.TheVariants.{First, Second}
use Rattle.vector_text.specs.declared.said.Repeat.{Repeat}
use Rattle.vector_text.specs.declared.said.Said.{Said}
use Rattle.vector_text.specs.declared.said.Said.TheVariants.{Timed, Opens, Closes, Ends}
use Rattle.vector_text.specs.Inside.{HasTurns}
use Rattle.vector_text.specs.Lawful.{MayFollow, AreOrdered}
use Rattle.vector_text.specs.Sayings.{said_of, strobe_said, end_said, values_said, values_what, version_of, inputs_of, outputs_of, listed_behind, is_second, timed_saying, timed_saying_if}
use Rattle.vector_text.specs.Written.{Block, Body, last_time, greatest_count, greatest_size, turns_of, turn_of, later_line, size_of, total_size, written_lines, with_said, with_said_if, may_stand, passes_limit, breaks_order, none_later, may_follow, may_strobe, is_strobe, last_turn_time, said_fault, body_of, line_fault}
use Rattle.vector_text.specs.Text.{or_fault, Outputs, outputs_if, outputs_in, body_end, body_unless, body_in, vectors_with, behind_inputs, behind_version, vectors_in, vectors_of}
use Rattle.vector_text.specs.Form.{Numbered, Item, One, Turns, said_timed, item_sayings, line_after, block_of, item_lines, IsBlock, IsItem, FollowsAll, BeginsBehind, BeginBehind, Says, AreOutputs, IsOfSize, IsVectors}
use Rattle.vector_text.proofs.PairLaws.{each_append, each_front, each_back, each_weaker, Pairs, pairs_front, pairs_cross}
use Rattle.vector_text.proofs.OrderLaws.{Follows}
use Rattle.vector_text.proofs.ReadingLemmas.{body_of-push}
use Rattle.vector_text.proofs.SayingLaws.{said_turns, then_some, map_some, cond_some}
use Rattle.vector_text.proofs.FormLaws.{with_block_of, turns_size}

-- ---- lists

each-from_All : {A : Type 0} (P : A → Type 0) (xs : List A) → All P xs → AllByRecursion P xs
each-from_All P [] h = tt
each-from_All P (x ∷ xs) h = (h 0 x (omega arith), each-from_All P xs (λ k d lt. h (suc k) d (omega arith)))

pairs-from_AllPairs : {A : Type 0} (R : A → A → Type 0) (xs : List A) → AllPairs R xs → Pairs R xs
pairs-from_AllPairs R [] h = tt
pairs-from_AllPairs R (x ∷ xs) h =
    (each-from_All (R x) xs (λ k d lt. h 0 (suc k) d (omega arith) (omega arith)), pairs-from_AllPairs R xs (λ i j d lt inside. h (suc i) (suc j) d (omega arith) (omega arith)))

-- two lists go together where the second is two in a row
record Splits {A B : Type 0} (R : A → B → Type 0) (xs : List A) (ys zs : List B) : Type 0 where
  front : List A
  rest : List A
  whole : front ++ rest ≡ xs
  together : AllZip R front ys
  behind : AllZip R rest zs

zip_split : {A B : Type 0} (R : A → B → Type 0) (xs : List A) (ys zs : List B) → AllZip R xs (ys ++ zs) → Splits R xs ys zs
zip_split R xs [] zs h = record { front = []; rest = xs; whole = refl; together = tt; behind = h }
zip_split R [] (y ∷ ys) zs h = absurd h
zip_split R (x ∷ xs) (y ∷ ys) zs h =
    let s = zip_split R xs ys zs h.1 in
    record { front = x ∷ s.front; rest = s.rest; whole = ap (λ l. x ∷ l) s.whole; together = (h.0, s.together); behind = s.behind }

all_pass : (p : VectorLine → Bool) (P : VectorLine → Type 0) (lines : List VectorLine) → ((line : VectorLine) → P line → p line ≡ true) → AllByRecursion P lines → list_all p lines ≡ true
all_pass p P [] f h = refl
all_pass p P (line ∷ lines) f h = rw (f line h.0) (all_pass p P lines f h.1)

-- ---- the order, as it is judged

early_lines : (lines : List VectorLine) (time : ℕ) → AllByRecursion (λ (line : VectorLine). line.time ≤ time) lines → none_later lines time ≡ true
early_lines lines time h = all_pass (λ (line : VectorLine). leb line.time time) (λ (line : VectorLine). line.time ≤ time) lines (λ line le. le-leb line.time time le) h

-- lines behind which a strobe may stand
strobe_early : (before : StimulusWhat) (earlier later : ℕ) → MayFollow before earlier Strobe later → earlier ≤ later
strobe_early (Values values) earlier later h = h
strobe_early Strobe earlier later h = omega arith
strobe_early (Expect wanted) earlier later h = omega arith

strobe_alone : (before : StimulusWhat) (earlier later : ℕ) → MayFollow before earlier Strobe later → (not (is_strobe before) || ltb earlier later) ≡ true
strobe_alone (Values values) earlier later h = refl
strobe_alone Strobe earlier later h = lt-ltb earlier later h
strobe_alone (Expect wanted) earlier later h = lt-ltb earlier later h

both_true : (a b : Bool) → a ≡ true → b ≡ true → (a && b) ≡ true
both_true true true e f = refl
both_true true false e f = absurd cc
both_true false b e f = absurd cc

strobes_pass : (lines : List VectorLine) (time : ℕ) → AllByRecursion (λ (line : VectorLine). MayFollow line.what line.time Strobe time) lines → may_strobe lines time ≡ true
strobes_pass lines time h =
    both_true (none_later lines time) (list_all (λ (line : VectorLine). not (is_strobe line.what) || ltb line.time time) lines)
    (early_lines lines time (each_weaker (λ (line : VectorLine). MayFollow line.what line.time Strobe time) (λ (line : VectorLine). line.time ≤ time) lines (λ line f. strobe_early line.what line.time time f) h))
    (all_pass (λ (line : VectorLine). not (is_strobe line.what) || ltb line.time time) (λ (line : VectorLine). MayFollow line.what line.time Strobe time) lines (λ line f. strobe_alone line.what line.time time f) h)

as_strobe : (before : StimulusWhat) (earlier : ℕ) (wanted : List (Option _)) (later : ℕ) → MayFollow before earlier (Expect wanted) later → MayFollow before earlier Strobe later
as_strobe (Values values) earlier wanted later h = h
as_strobe Strobe earlier wanted later h = h
as_strobe (Expect before) earlier wanted later h = h

follow_pass : (lines : List VectorLine) (time : ℕ) (what : StimulusWhat) → AllByRecursion (λ (line : VectorLine). MayFollow line.what line.time what time) lines → may_follow lines time what ≡ true
follow_pass lines time (Values values) h = all_pass (λ (line : VectorLine). ltb line.time time) (λ (line : VectorLine). line.time < time) lines (λ line lt. lt-ltb line.time time lt) h
follow_pass lines time Strobe h = strobes_pass lines time h
follow_pass lines time (Expect wanted) h =
    strobes_pass lines time (each_weaker (λ (line : VectorLine). MayFollow line.what line.time (Expect wanted) time) (λ (line : VectorLine). MayFollow line.what line.time Strobe time) lines (λ line f. as_strobe line.what line.time wanted time f) h)

-- a line of lines in order may follow those before it
follow_there : (before : List VectorLine) (line : VectorLine) (behind : List VectorLine) → Pairs Follows (before ++ line ∷ behind) → may_follow before line.time line.what ≡ true
follow_there before line behind order =
    follow_pass before line.time line.what
    (each_weaker (λ (x : VectorLine). AllByRecursion (Follows x) (line ∷ behind)) (λ (x : VectorLine). MayFollow x.what x.time line.what line.time) before (λ x h. h.0) (pairs_cross Follows before (line ∷ behind) order))

-- ---- lines without fault

-- lines behind others have no fault, and write out a body
record Passes (version : Version) (done more : List (ℕ × List ℕ)) (after : Body) : Type 0 where
  same : (rest : List (ℕ × List ℕ)) → first_fault_behind (line_fault version) done (more ++ rest) ≡ first_fault_behind (line_fault version) (done ++ more) rest
  body : body_of version (done ++ more) ≡ after

passes_then : (version : Version) (done one two : List (ℕ × List ℕ)) (middle after : Body) → Passes version done one middle → Passes version (done ++ one) two after → Passes version done (one ++ two) after
passes_then version done one two middle after p q = record {
  same = λ rest. ap (first_fault_behind (line_fault version) done) (append_assoc one two rest) ∙ p.same (two ++ rest) ∙ q.same rest ∙ ap (λ (ls : List (ℕ × List ℕ)). first_fault_behind (line_fault version) ls rest) (append_assoc done one two);
  body = ap (body_of version) (sym (append_assoc done one two)) ∙ q.body;
}

no_fault : (a b c : Bool) (x y z : VecFault) → a ≡ true → b ≡ false → c ≡ false → first_there (fault_if (not a) x ∷ fault_if b y ∷ fault_if c z ∷ []) ≡ None
no_fault true false false x y z e f g = refl
no_fault false b c x y z e f g = absurd cc
no_fault true true c x y z e f g = absurd cc
no_fault true false true x y z e f g = absurd cc

passes_one : (version : Version) (done : List (ℕ × List ℕ)) (line : ℕ × List ℕ) (number : ℕ) (said : Said) (before : Body) → body_of version done ≡ before → Says version line (number, said)
    → may_stand before said ≡ true → passes_limit version before said ≡ false → breaks_order before said ≡ false → Passes version done (line ∷ []) (with_said before number said)
unfolding line_fault
passes_one version done line number said before is says stands small order =
    let fault : line_fault version done line ≡ None
    = ap (λ (b : Body). said_fault version b line.0 (said_of version (fields_of line.1))) is ∙ ap (said_fault version before line.0) says.1
    ∙ no_fault (may_stand before said) (passes_limit version before said) (breaks_order before said) (BadLine line.0) (Limit line.0) (Order line.0) stands small order in
    record {
      same = λ rest. first_fault_behind-none (line_fault version) done line rest fault;
      body = body_of-push version done line ∙ ap (λ (b : Body). with_said_if b line.0 (said_of version (fields_of line.1))) is ∙ ap (with_said_if before line.0) says.1 ∙ ap (λ (n : ℕ). with_said before n said) says.0;
    }

-- ---- the first version has no blocks

abbrev IsPlain : Said → Type 0
IsPlain (Timed line) = Unit {0}
IsPlain (Opens repeat) = ⊥
IsPlain Closes = ⊥
IsPlain (Ends time) = Unit {0}

plain_first : (fields : List (List ℕ)) → IfSome (said_of First fields) IsPlain
unfolding said_of strobe_said end_said values_said
plain_first [] = tt
plain_first (word ∷ fields) =
    cond_some IsPlain (bytes_eq word (codes "strobe")) _ _ (then_some IsPlain (λ (time : List ℕ). option_map (timed_saying Strobe) (capped_number time)) _ (λ time. map_some IsPlain (timed_saying Strobe) (capped_number time) (λ t. tt)))
    (cond_some IsPlain (bytes_eq word (codes "end")) _ _ (then_some IsPlain (λ (time : List ℕ). option_map Ends (capped_number time)) _ (λ time. map_some IsPlain Ends (capped_number time) (λ t. tt)))
    (then_some IsPlain (λ (at : ℕ). option_and_then (λ values. timed_saying_if (values_what values) at) _) (capped_number word)
    (λ at. then_some IsPlain (λ values. timed_saying_if (values_what values) at) _ (λ values. map_some IsPlain (λ (w : StimulusWhat). timed_saying w at) (values_what values) (λ w. tt)))))

said_plain : (fields : List (List ℕ)) (said : Said) → said_of First fields ≡ Some said → IsPlain said
said_plain fields said e = subst (λ (o : Option Said). IfSome o IsPlain) e (plain_first fields)

-- a block stands in a text of the second version alone
second_alone : (version : Version) (fields : List (List ℕ)) (repeat : Repeat) → said_of version fields ≡ Some (Opens repeat) → version ≡ Second
second_alone First fields repeat e = absurd (said_plain fields (Opens repeat) e)
second_alone Second fields repeat e = refl

turns_there : (version : Version) (fields : List (List ℕ)) (repeat : Repeat) → said_of version fields ≡ Some (Opens repeat) → (0 < repeat.count) × (0 < repeat.period)
turns_there version fields repeat e = subst (λ (o : Option Said). IfSome o HasTurns) e (said_turns version fields)

-- ---- a line outside blocks

abbrev outside : List VectorLine → Body
outside lines = record { lines = lines; block = None; end = None }

size_there : (version : Version) (before : List VectorLine) (line : VectorLine) (behind : List VectorLine) → IsOfSize version (before ++ line ∷ behind) → (is_second version && ltb greatest_size (total_size before + size_of line.what)) ≡ false
size_there First before line behind size = refl
size_there Second before line behind size =
    let whole : total_size (before ++ line ∷ behind) ≡ total_size before + total_size (line ∷ behind) = sum_by-append (λ (x : VectorLine). size_of x.what) before (line ∷ behind) in
    let here : total_size (line ∷ behind) ≡ total_size (line ∷ []) + total_size behind = sum_by-append (λ (x : VectorLine). size_of x.what) (line ∷ []) behind in
    let alone : total_size (line ∷ []) ≡ size_of line.what = omega arith in
    le-ltb greatest_size (total_size before + size_of line.what) (omega arith)

or_false : (a b : Bool) → a ≡ false → b ≡ false → (a || b) ≡ false
or_false false false e f = refl
or_false true b e f = absurd cc
or_false false true e f = absurd cc

not_false : (b : Bool) → b ≡ true → not b ≡ false
not_false b e = ap not e

timed_outside : (version : Version) (done : List (ℕ × List ℕ)) (line : ℕ × List ℕ) (number : ℕ) (said : StimulusLine) (before behind : List VectorLine) (end : ℕ) → body_of version done ≡ outside before → Says version line (number, Timed said)
    → Pairs Follows (before ++ line_after 0 (number, said) ∷ behind) → AllByRecursion (λ (x : VectorLine). x.time ≤ end) (before ++ line_after 0 (number, said) ∷ behind) → end ≤ last_time version → IsOfSize version (before ++ line_after 0 (number, said) ∷ behind)
    → Passes version done (line ∷ []) (outside (before ++ line_after 0 (number, said) ∷ []))
unfolding may_stand passes_limit breaks_order with_said
timed_outside version done line number said before behind end is says order within small size =
    let made = line_after 0 (number, said) in
    let here : made.time ≤ end = (each_back (λ (x : VectorLine). x.time ≤ end) before (made ∷ behind) within).0 in
    let limit : ltb (last_time version) said.time ≡ false = le-ltb (last_time version) said.time (omega arith) in
    let follows : may_follow (before ++ []) (0 + said.time) said.what ≡ true = ap (λ (ls : List VectorLine). may_follow ls (0 + said.time) said.what) (append-nil before) ∙ follow_there before made behind order in
    passes_one version done line number (Timed said) (outside before) is says refl
    (or_false (ltb (last_time version) said.time) (is_second version && ltb greatest_size (total_size before + size_of said.what)) limit (size_there version before made behind size))
    (not_false (may_follow (before ++ []) (0 + said.time) said.what) follows)

-- ---- a block

opens_outside : (version : Version) (done : List (ℕ × List ℕ)) (line : ℕ × List ℕ) (number : ℕ) (repeat : Repeat) (before : List VectorLine) → body_of version done ≡ outside before → Says version line (number, Opens repeat)
    → repeat.count ≤ greatest_count → repeat.start ≤ last_time version → repeat.period ≤ last_time version → AllByRecursion (λ (x : VectorLine). x.time ≤ repeat.start) before
    → Passes version done (line ∷ []) (with_block_of before repeat [])
unfolding may_stand passes_limit breaks_order with_said
opens_outside version done line number repeat before is says count start period early =
    let limit = or_false (ltb greatest_count repeat.count || ltb (last_time version) repeat.start) (ltb (last_time version) repeat.period)
    (or_false (ltb greatest_count repeat.count) (ltb (last_time version) repeat.start) (le-ltb greatest_count repeat.count count) (le-ltb (last_time version) repeat.start start)) (le-ltb (last_time version) repeat.period period) in
    let none : none_later (before ++ []) repeat.start ≡ true = ap (λ (ls : List VectorLine). none_later ls repeat.start) (append-nil before) ∙ early_lines before repeat.start early in
    passes_one version done line number (Opens repeat) (outside before) is says refl limit (not_false (none_later (before ++ []) repeat.start) none)

-- one line of an open block
timed_inside : (version : Version) (done : List (ℕ × List ℕ)) (line : ℕ × List ℕ) (number : ℕ) (said : StimulusLine) (before : List VectorLine) (repeat : Repeat) (first behind : List VectorLine)
    → body_of version done ≡ with_block_of before repeat first → Says version line (number, Timed said) → Pairs Follows (before ++ (first ++ line_after repeat.start (number, said) ∷ behind))
    → last_turn_time repeat said.time ≤ last_time version → said.time < repeat.period
    → Passes version done (line ∷ []) (with_block_of before repeat (first ++ line_after repeat.start (number, said) ∷ []))
unfolding may_stand passes_limit breaks_order with_said
timed_inside version done line number said before repeat first behind is says order limit inside =
    let made = line_after repeat.start (number, said) in
    let follows : may_follow (before ++ first) (repeat.start + said.time) said.what ≡ true = follow_there (before ++ first) made behind (subst (Pairs Follows) (sym (append_assoc before first (made ∷ behind))) order) in
    passes_one version done line number (Timed said) (with_block_of before repeat first) is says refl (le-ltb (last_time version) (last_turn_time repeat said.time) limit)
    (or_false (leb repeat.period said.time) (not (may_follow (before ++ first) (repeat.start + said.time) said.what)) (lt-leb repeat.period said.time inside) (not_false (may_follow (before ++ first) (repeat.start + said.time) said.what) follows))

-- all lines of an open block
inner_lines : (version : Version) (done more : List (ℕ × List ℕ)) (before : List VectorLine) (repeat : Repeat) (first behind : List VectorLine) (lines : List Numbered)
    → body_of version done ≡ with_block_of before repeat first → AllZip (Says version) more (map said_timed lines) → Pairs Follows (before ++ (first ++ (map (line_after repeat.start) lines ++ behind)))
    → AllByRecursion (λ (x : Numbered). last_turn_time repeat x.1.time ≤ last_time version) lines → AllByRecursion (λ (x : Numbered). x.1.time < repeat.period) lines
    → Passes version done more (with_block_of before repeat (first ++ map (line_after repeat.start) lines))
inner_lines version done [] before repeat first behind [] is says order limit inside = record {
  same = λ rest. ap (λ (ls : List (ℕ × List ℕ)). first_fault_behind (line_fault version) ls rest) (sym (append-nil done));
  body = ap (body_of version) (append-nil done) ∙ is ∙ ap (with_block_of before repeat) (sym (append-nil first));
}
inner_lines version done (line ∷ more) before repeat first behind [] is says order limit inside = absurd says
inner_lines version done [] before repeat first behind (x ∷ lines) is says order limit inside = absurd says
inner_lines version done (line ∷ more) before repeat first behind (x ∷ lines) is says order limit inside =
    let made = line_after repeat.start x in
    let one = timed_inside version done line x.0 x.1 before repeat first (map (line_after repeat.start) lines ++ behind) is says.0 order limit.0 inside.0 in
    let regroup : first ++ (made ∷ (map (line_after repeat.start) lines ++ behind)) ≡ (first ++ made ∷ []) ++ (map (line_after repeat.start) lines ++ behind) = sym (append_assoc first (made ∷ []) (map (line_after repeat.start) lines ++ behind)) in
    let rest = inner_lines version (done ++ line ∷ []) more before repeat (first ++ made ∷ []) behind lines one.body says.1 (subst (λ (ls : List VectorLine). Pairs Follows (before ++ ls)) regroup order) limit.1 inside.1 in
    let whole = passes_then version done (line ∷ []) more (with_block_of before repeat (first ++ made ∷ [])) _ one rest in
    record { same = whole.same; body = whole.body ∙ ap (with_block_of before repeat) (append_assoc first (made ∷ []) (map (line_after repeat.start) lines)) }

closes_inside : (version : Version) (done : List (ℕ × List ℕ)) (line : ℕ × List ℕ) (number : ℕ) (before : List VectorLine) (repeat : Repeat) (first : List VectorLine)
    → body_of version done ≡ with_block_of before repeat first → Says version line (number, Closes) → total_size before + repeat.count * total_size first ≤ greatest_size
    → Passes version done (line ∷ []) (outside (before ++ turns_of (record { repeat = repeat; lines = first })))
unfolding may_stand passes_limit breaks_order with_said
closes_inside version done line number before repeat first is says size =
    passes_one version done line number Closes (with_block_of before repeat first) is says refl (le-ltb greatest_size (total_size before + repeat.count * total_size first) size) refl

-- ---- what the turns of a block say of its lines

range_more : (n : ℕ) → range_with_len 0 (n + 1) ≡ range_with_len 0 n ++ n ∷ []
range_more n = sym (map-id (range_with_len 0 (n + 1))) ∙ map-range_with_len_more (λ t. t) 0 n n (omega arith) ∙ ap (λ (ts : List ℕ). ts ++ n ∷ []) (map-id (range_with_len 0 n))

unmoved : (by : ℕ) (lines : List VectorLine) → by ≡ 0 → map (later_line by) lines ≡ lines
unmoved by [] e = refl
unmoved by (line ∷ lines) e =
    let same : line.time + by ≡ line.time = omega arith in
    ap (λ (t : ℕ). record line { time = t } ∷ map (later_line by) lines) same ∙ ap (λ (ls : List VectorLine). line ∷ ls) (unmoved by lines e)

-- the first turn and the others
record HasFirst (block : Block) : Type 0 where
  others : List VectorLine
  turns : turns_of block ≡ block.lines ++ others

first_there_is : (block : Block) → 0 < block.repeat.count → HasFirst block
unfolding turns_of
first_there_is block some = by_count block.repeat.count refl some
  where
    by_count : (count : ℕ) → block.repeat.count ≡ count → 0 < count → HasFirst block
    by_count zero is some = absurd (omega arith)
    by_count (suc n) is some = record {
      others = flat_map (turn_of block) (range_with_len 1 n);
      turns = ap (λ (k : ℕ). flat_map (turn_of block) (range_with_len 0 k)) is ∙ ap (λ (ls : List VectorLine). ls ++ flat_map (turn_of block) (range_with_len 1 n)) (unmoved (0 * block.repeat.period) block.lines (omega arith));
    }

-- the times of the last turn
last_times : (end by start : ℕ) (lines : List Numbered) → AllByRecursion (λ (x : VectorLine). x.time ≤ end) (map (later_line by) (map (line_after start) lines)) → AllByRecursion (λ (x : Numbered). start + x.1.time + by ≤ end) lines
last_times end by start [] h = tt
last_times end by start (x ∷ lines) h = (h.0, last_times end by start lines h.1)

last_turn : (block : Block) (end : ℕ) → 0 < block.repeat.count → AllByRecursion (λ (x : VectorLine). x.time ≤ end) (turns_of block) → AllByRecursion (λ (x : VectorLine). x.time ≤ end) (map (later_line ((block.repeat.count - 1) * block.repeat.period)) block.lines)
unfolding turns_of
last_turn block end some h =
    let n = block.repeat.count - 1 in
    let count : block.repeat.count ≡ n + 1 = omega arith in
    let split : flat_map (turn_of block) (range_with_len 0 block.repeat.count) ≡ flat_map (turn_of block) (range_with_len 0 n) ++ (turn_of block n ++ [])
    = ap (λ (k : ℕ). flat_map (turn_of block) (range_with_len 0 k)) count ∙ ap (flat_map (turn_of block)) (range_more n) ∙ flat_map-append (turn_of block) (range_with_len 0 n) (n ∷ []) in
    each_front (λ (x : VectorLine). x.time ≤ end) (turn_of block n) []
    (each_back (λ (x : VectorLine). x.time ≤ end) (flat_map (turn_of block) (range_with_len 0 n)) (turn_of block n ++ []) (subst (λ (ls : List VectorLine). AllByRecursion (λ (x : VectorLine). x.time ≤ end) ls) split h))

-- ---- a whole block

-- the size of all turns
block_size : (version : Version) (before : List VectorLine) (made : Block) (behind : List VectorLine) → version ≡ Second → IsOfSize version (before ++ (turns_of made ++ behind)) → total_size before + made.repeat.count * total_size made.lines ≤ greatest_size
unfolding turns_of
block_size First before made behind second size = absurd cc
block_size Second before made behind second size =
    let whole : total_size (before ++ (turns_of made ++ behind)) ≡ total_size before + total_size (turns_of made ++ behind) = sum_by-append (λ (x : VectorLine). size_of x.what) before (turns_of made ++ behind) in
    let turned : total_size (turns_of made ++ behind) ≡ total_size (turns_of made) + total_size behind = sum_by-append (λ (x : VectorLine). size_of x.what) (turns_of made) behind in
    let turns = turns_size made 0 made.repeat.count in
    omega arith

-- the last line of a block
closing_line : (version : Version) (done front rest : List (ℕ × List ℕ)) (number : ℕ) (before : List VectorLine) (repeat : Repeat) (first : List VectorLine) → Passes version done front (with_block_of before repeat first)
    → AllZip (Says version) rest ((number, Closes) ∷ []) → total_size before + repeat.count * total_size first ≤ greatest_size → {all : List (ℕ × List ℕ)} → front ++ rest ≡ all → Passes version done all (outside (before ++ turns_of (record { repeat = repeat; lines = first })))
closing_line version done front [] number before repeat first up_to says size is = absurd says
closing_line version done front (line ∷ []) number before repeat first up_to says size {all} is =
    subst (λ (ls : List (ℕ × List ℕ)). Passes version done ls (outside (before ++ turns_of (record { repeat = repeat; lines = first })))) is
    (passes_then version done front (line ∷ []) (with_block_of before repeat first) _ up_to (closes_inside version (done ++ front) line number before repeat first up_to.body says.0 size))
closing_line version done front (line ∷ other ∷ rest) number before repeat first up_to says size is = absurd says.1

-- the lines of a block, from its first to its last
block_lines : (version : Version) (done lines : List (ℕ × List ℕ)) (opening : ℕ) (repeat : Repeat) (inner : List Numbered) (closing : ℕ) (before behind : List VectorLine) (end : ℕ)
    → body_of version done ≡ outside before → AllZip (Says version) lines (item_sayings (Turns opening repeat inner closing)) → IsBlock repeat inner → AllByRecursion (λ (x : VectorLine). x.time ≤ repeat.start) before
    → Pairs Follows (before ++ (turns_of (block_of repeat inner) ++ behind)) → AllByRecursion (λ (x : VectorLine). x.time ≤ end) (before ++ (turns_of (block_of repeat inner) ++ behind)) → end ≤ last_time version
    → IsOfSize version (before ++ (turns_of (block_of repeat inner) ++ behind))
    → Passes version done lines (outside (before ++ turns_of (block_of repeat inner)))
block_lines version done [] opening repeat inner closing before behind end is says block early order within small size = absurd says
block_lines version done (line ∷ lines) opening repeat inner closing before behind end is says block early order within small size =
    let made = block_of repeat inner in
    let turns = turns_there version (fields_of line.1) repeat says.0.1 in
    let split = zip_split (Says version) lines (map said_timed inner) ((closing, Closes) ∷ []) says.1 in
    let first = first_there_is made turns.0 in
    let in_first : before ++ (turns_of made ++ behind) ≡ before ++ ([] ++ (map (line_after repeat.start) inner ++ (first.others ++ behind)))
    = ap (λ (ls : List VectorLine). before ++ (ls ++ behind)) first.turns ∙ ap (λ (ls : List VectorLine). before ++ ls) (append_assoc made.lines first.others behind) in
    let turned = each_front (λ (x : VectorLine). x.time ≤ end) (turns_of made) behind (each_back (λ (x : VectorLine). x.time ≤ end) before (turns_of made ++ behind) within) in
    let last = last_times end ((repeat.count - 1) * repeat.period) repeat.start inner (last_turn made end turns.0 turned) in
    let limits = each_weaker (λ (x : Numbered). repeat.start + x.1.time + (repeat.count - 1) * repeat.period ≤ end) (λ (x : Numbered). last_turn_time repeat x.1.time ≤ last_time version) inner (λ x le. omega arith) last in
    let second = second_alone version (fields_of line.1) repeat says.0.1 in
    let start : repeat.start ≤ last_time version = subst (λ (v : Version). repeat.start ≤ last_time v) (sym second) block.start in
    let period : repeat.period ≤ last_time version = subst (λ (v : Version). repeat.period ≤ last_time v) (sym second) block.period in
    let opens = opens_outside version done line opening repeat before is says.0 block.count start period early in
    let inside = inner_lines version (done ++ line ∷ []) split.front before repeat [] (first.others ++ behind) inner opens.body split.together (subst (Pairs Follows) in_first order) limits
    (each-from_All (λ (x : Numbered). x.1.time < repeat.period) inner block.inside) in
    let up_to = passes_then version done (line ∷ []) split.front (with_block_of before repeat []) _ opens inside in
    let total : total_size before + repeat.count * total_size made.lines ≤ greatest_size = block_size version before made behind second size in
    closing_line version done (line ∷ split.front) split.rest closing before repeat made.lines up_to split.behind total (ap (λ (ls : List (ℕ × List ℕ)). line ∷ ls) split.whole)

-- ---- all items

-- what the lines behind the head say, item by item, up to the end
record Ready (version : Version) (done rest : List (ℕ × List ℕ)) (before : List VectorLine) (items : List Item) (last end : ℕ) : Type 0 where
  is : body_of version done ≡ outside before
  says : AllZip (Says version) rest (flat_map item_sayings items ++ (last, Ends end) ∷ [])
  blocks : AllByRecursion IsItem items
  begins : BeginBehind before items
  order : Pairs Follows (before ++ flat_map item_lines items)
  within : AllByRecursion (λ (x : VectorLine). x.time ≤ end) (before ++ flat_map item_lines items)
  small : end ≤ last_time version
  size : IsOfSize version (before ++ flat_map item_lines items)

-- the lines of one item
item_passes : (version : Version) (done lines : List (ℕ × List ℕ)) (before : List VectorLine) (item : Item) (behind : List VectorLine) (end : ℕ) → body_of version done ≡ outside before → AllZip (Says version) lines (item_sayings item)
    → IsItem item → BeginsBehind before item → Pairs Follows (before ++ (item_lines item ++ behind)) → AllByRecursion (λ (x : VectorLine). x.time ≤ end) (before ++ (item_lines item ++ behind)) → end ≤ last_time version → IsOfSize version (before ++ (item_lines item ++ behind))
    → Passes version done lines (outside (before ++ item_lines item))
item_passes version done [] before (One line) behind end is says block begins order within small size = absurd says
item_passes version done (line ∷ []) before (One said) behind end is says block begins order within small size = timed_outside version done line said.0 said.1 before behind end is says.0 order within small size
item_passes version done (line ∷ other ∷ lines) before (One said) behind end is says block begins order within small size = absurd says.1
item_passes version done lines before (Turns opening repeat inner closing) behind end is says block begins order within small size =
    block_lines version done lines opening repeat inner closing before behind end is says block (each-from_All (λ (x : VectorLine). x.time ≤ repeat.start) before begins) order within small size

end_passes : (version : Version) (done : List (ℕ × List ℕ)) (line : ℕ × List ℕ) (last end : ℕ) (before : List VectorLine) → body_of version done ≡ outside before → Says version line (last, Ends end) → AllByRecursion (λ (x : VectorLine). x.time ≤ end) before → end ≤ last_time version
    → Passes version done (line ∷ []) (record { lines = before; block = None; end = Some end })
unfolding may_stand passes_limit breaks_order with_said
end_passes version done line last end before is says within small =
    let none : none_later (before ++ []) end ≡ true = ap (λ (ls : List VectorLine). none_later ls end) (append-nil before) ∙ early_lines before end within in
    passes_one version done line last (Ends end) (outside before) is says refl (le-ltb (last_time version) end small) (not_false (none_later (before ++ []) end) none)

items_pass : (version : Version) (done rest : List (ℕ × List ℕ)) (before : List VectorLine) (items : List Item) (last end : ℕ) → Ready version done rest before items last end
    → Passes version done rest (record { lines = before ++ flat_map item_lines items; block = None; end = Some end })
items_pass version done [] before [] last end r = absurd r.says
items_pass version done (line ∷ []) before [] last end r =
    subst (λ (ls : List VectorLine). Passes version done (line ∷ []) (record { lines = ls; block = None; end = Some end })) (sym (append-nil before))
    (end_passes version done line last end before r.is r.says.0 (subst (λ (ls : List VectorLine). AllByRecursion (λ (x : VectorLine). x.time ≤ end) ls) (append-nil before) r.within) r.small)
items_pass version done (line ∷ other ∷ rest) before [] last end r = absurd r.says.1
items_pass version done rest before (item ∷ items) last end r =
    let regroup : flat_map item_sayings (item ∷ items) ++ (last, Ends end) ∷ [] ≡ item_sayings item ++ (flat_map item_sayings items ++ (last, Ends end) ∷ []) = append_assoc (item_sayings item) (flat_map item_sayings items) ((last, Ends end) ∷ []) in
    let split = zip_split (Says version) rest (item_sayings item) (flat_map item_sayings items ++ (last, Ends end) ∷ []) (subst (λ (s : List (ℕ × Said)). AllZip (Says version) rest s) regroup r.says) in
    let one = item_passes version done split.front before item (flat_map item_lines items) end r.is split.together r.blocks.0 r.begins.0 r.order r.within r.small r.size in
    let lines : before ++ (item_lines item ++ flat_map item_lines items) ≡ (before ++ item_lines item) ++ flat_map item_lines items = sym (append_assoc before (item_lines item) (flat_map item_lines items)) in
    let more : Ready version (done ++ split.front) split.rest (before ++ item_lines item) items last end = record {
      is = one.body;
      says = split.behind;
      blocks = r.blocks.1;
      begins = r.begins.1;
      order = subst (Pairs Follows) lines r.order;
      within = subst (λ (ls : List VectorLine). AllByRecursion (λ (x : VectorLine). x.time ≤ end) ls) lines r.within;
      small = r.small;
      size = subst (IsOfSize version) lines r.size;
    } in
    let others = items_pass version (done ++ split.front) split.rest (before ++ item_lines item) items last end more in
    let both = passes_then version done split.front split.rest (outside (before ++ item_lines item)) _ one others in
    subst (λ (ls : List (ℕ × List ℕ)). Passes version done ls (record { lines = before ++ (item_lines item ++ flat_map item_lines items); block = None; end = Some end })) split.whole
    (record { same = both.same; body = both.body ∙ ap (λ (ls : List VectorLine). record { lines = ls; block = None; end = Some end }) (sym lines) })

-- the lines behind the head mean what their items write out
body_read : (version : Version) (rest : List (ℕ × List ℕ)) (items : List Item) (last end : ℕ) (lines : List VectorLine) → AllZip (Says version) rest (flat_map item_sayings items ++ (last, Ends end) ∷ []) → All IsItem items → BeginBehind [] items
    → lines ≡ flat_map item_lines items → AreOrdered lines end → end ≤ last_time version → IsOfSize version lines → body_in version rest ≡ Ok (lines, end)
unfolding body_in body_of
body_read version rest items last end lines says blocks begins written ordered small size =
    let start : Ready version [] rest [] items last end = record {
      is = refl;
      says = says;
      blocks = each-from_All IsItem items blocks;
      begins = begins;
      order = subst (Pairs Follows) written (pairs-from_AllPairs Follows lines ordered.order);
      within = subst (λ (ls : List VectorLine). AllByRecursion (λ (x : VectorLine). x.time ≤ end) ls) written (each-from_All (λ (x : VectorLine). x.time ≤ end) lines ordered.within);
      small = small;
      size = subst (IsOfSize version) written size;
    } in
    let all = items_pass version [] rest [] items last end start in
    let clean : first_fault (line_fault version) rest ≡ None = ap (first_fault_behind (line_fault version) []) (sym (append-nil rest)) ∙ all.same [] in
    ap (body_unless version rest) clean ∙ ap body_end all.body ∙ ap (λ (ls : List VectorLine). Ok (ls, end)) (sym written)

-- ---- the line of the outputs

-- the first byte that is no blank
abbrev first_byte : List ℕ → Option ℕ
first_byte [] = None
first_byte (b ∷ bs) = cond (is_blank b) (first_byte bs) (Some b)

-- the first of some lists begins with a byte
abbrev BeginWith : Option ℕ → List (List ℕ) → Type 0
BeginWith first [] = Unit {0}
BeginWith first ([] ∷ lists) = Unit {0}
BeginWith first ((b ∷ bs) ∷ lists) = first ≡ Some b

begin_onto : (b : ℕ) (lists : List (List ℕ)) → BeginWith (Some b) (onto_first b lists)
begin_onto b [] = refl
begin_onto b (list ∷ lists) = refl

names_begin : (line : List ℕ) → BeginWith (first_byte line) (names_from Between line)
names_begin [] = tt
names_begin (b ∷ bs) = elim (cases_Bool (is_blank b)) [
  | inl e ↦ rw e (names_begin bs)
  | inr e ↦ rw e (begin_onto b (names_from (behind_first b) bs))
]

-- the first of the lists that are filled
kept_first : (b : ℕ) (list : List ℕ) (lists : List (List ℕ)) (some : Bool) → some ≡ true → BeginWith (Some b) (cond some ((b ∷ list) ∷ filter (λ (field : List ℕ). nat_lt 0 (length field)) lists) (filter (λ (field : List ℕ). nat_lt 0 (length field)) lists))
kept_first b list lists true e = refl
kept_first b list lists false e = absurd cc

kept_onto : (b : ℕ) (lists : List (List ℕ)) → BeginWith (Some b) (filter (λ field. nat_lt 0 (length field)) (onto_first b lists))
kept_onto b [] = refl
kept_onto b (list ∷ lists) = kept_first b list lists (nat_lt 0 (length (b ∷ list))) (lt-ltb 0 (length (b ∷ list)) (omega arith))

fields_begin : (line : List ℕ) → BeginWith (first_byte line) (fields_of line)
unfolding fields_of
fields_begin [] = tt
fields_begin (b ∷ bs) = elim (cases_Bool (is_blank b)) [
  | inl e ↦ rw e (fields_begin bs)
  | inr e ↦ rw e (kept_onto b (slice_split is_blank bs))
]

same_bytes : (xs ys : List ℕ) → bytes_eq xs ys ≡ true → xs ≡ ys
same_bytes xs ys e = (bytes_eq-Decides xs ys).0 e

-- a line that lists outputs says nothing else
is_listed : (o : List (List ℕ)) (word : List ℕ) (names : List (List ℕ)) → listed_behind word o ≡ Some names → (rest : List (List ℕ)) × (o ≡ word ∷ rest)
unfolding listed_behind
is_listed [] word names e = absurd cc
is_listed (first ∷ []) word names e = absurd cc
is_listed (first ∷ name ∷ others) word names e = elim (cases_Bool (bytes_eq first word)) [
  | inl same ↦ (name ∷ others, ap (λ (w : List ℕ). w ∷ name ∷ others) (same_bytes first word same))
  | inr other ↦ absurd (let never : None ≡ Some names = sym (ap (λ (b : Bool). cond b (Some (name ∷ others)) None) other) ∙ e in cc)
]

begins_with : (first : Option ℕ) (lists : List (List ℕ)) (b : ℕ) (bs : List ℕ) (rest : List (List ℕ)) → lists ≡ (b ∷ bs) ∷ rest → BeginWith first lists → first ≡ Some b
begins_with first lists b bs rest is h = subst (BeginWith first) is h

-- a word that begins with o says nothing
nothing_said : (version : Version) (bs : List ℕ) (fields : List (List ℕ)) (said : Said) → said_of version ((111 ∷ bs) ∷ fields) ≡ Some said → ⊥
unfolding said_of values_said number_of decimal_of
nothing_said First bs fields said e = no_number bs fields said (leb (length (111 ∷ bs)) 20) e
  where
    no_number : (bs : List ℕ) (fields : List (List ℕ)) (said : Said) (short : Bool) → option_and_then (λ at. option_and_then (λ values. timed_saying_if (values_what values) at) (one_of fields)) (option_map cap (cond short None None)) ≡ Some said → ⊥
    no_number bs fields said true e = cc
    no_number bs fields said false e = cc
nothing_said Second bs fields said e = no_number bs fields said (leb (length (111 ∷ bs)) 20) e
  where
    no_number : (bs : List ℕ) (fields : List (List ℕ)) (said : Said) (short : Bool) → option_and_then (λ at. option_and_then (λ values. timed_saying_if (values_what values) at) (one_of fields)) (option_map cap (cond short None None)) ≡ Some said → ⊥
    no_number bs fields said true e = cc
    no_number bs fields said false e = cc

empty_word : (version : Version) (fields : List (List ℕ)) (said : Said) → said_of version ([] ∷ fields) ≡ Some said → ⊥
unfolding said_of values_said number_of decimal_of
empty_word First fields said e = cc
empty_word Second fields said e = cc

-- a first field that begins with o
o_first : (version : Version) (fields : List (List ℕ)) (said : Said) → BeginWith (Some 111) fields → said_of version fields ≡ Some said → ⊥
unfolding said_of
o_first version [] said h e = cc
o_first version ([] ∷ fields) said h e = empty_word version fields said e
o_first version ((b ∷ bs) ∷ fields) said h e =
    let is : 111 ≡ b = cc in
    nothing_said version bs fields said (subst (λ (c : ℕ). said_of version ((c ∷ bs) ∷ fields) ≡ Some said) (sym is) e)

outputs_alone : (version : Version) (line : List ℕ) (names : List (List ℕ)) (said : Said) → outputs_of line ≡ Some names → said_of version (fields_of line) ≡ Some said → ⊥
unfolding names_of
outputs_alone version line names said e f =
    let listed = is_listed (names_of line) (codes "outputs") names e in
    let first : first_byte line ≡ Some 111 = begins_with (first_byte line) (names_of line) 111 _ listed.0 listed.1 (names_begin line) in
    o_first version (fields_of line) said (subst (λ (o : Option ℕ). BeginWith o (fields_of line)) first (fields_begin line)) f

-- ---- the text

-- without an outputs line, none stands first behind the inputs
no_outputs : (version : Version) (lines : List (ℕ × List ℕ)) (sayings : List (ℕ × Said)) → AllZip (Says version) lines sayings → outputs_in lines ≡ record { names = None; line = 0; rest = lines }
no_outputs version [] sayings says = refl
no_outputs version (line ∷ lines) [] says = absurd says
no_outputs version (line ∷ lines) (said ∷ sayings) says = by_outputs (outputs_of line.1) refl
  where
    by_outputs : (o : Option (List (List ℕ))) → outputs_of line.1 ≡ o → outputs_if o line lines ≡ record { names = None; line = 0; rest = line ∷ lines }
    by_outputs None is = refl
    by_outputs (Some names) is = absurd (outputs_alone version line.1 names said.1 is says.0.1)

outputs_read : (version : Version) (vectors : Vectors) (lines rest : List (ℕ × List ℕ)) (sayings : List (ℕ × Said)) (names : Option (List (List ℕ))) → AreOutputs vectors lines rest names → AllZip (Says version) rest sayings
    → outputs_in lines ≡ record { names = names; line = vectors.outputs_line; rest = rest }
outputs_read version vectors lines rest sayings None are says =
    ap outputs_in are.0 ∙ no_outputs version rest sayings says ∙ ap (λ (n : ℕ). record { names = None; line = n; rest = rest }) (sym are.1)
outputs_read version vectors lines rest sayings (Some names) are says =
    ap outputs_in are.1 ∙ ap (λ (o : Option (List (List ℕ))). outputs_if o (vectors.outputs_line, are.0) rest) are.2

pub text-from_IsVectors : (text : List ℕ) (vectors : Vectors) → IsVectors text vectors → vectors_of text ≡ Ok vectors
unfolding vectors_of
text-from_IsVectors text vectors is =
    let outputs = outputs_read is.version vectors is.behind is.rest (flat_map item_sayings is.items ++ (is.last, Ends vectors.end) ∷ []) vectors.outputs is.outputs is.sayings in
    let body = body_read is.version is.rest is.items is.last vectors.end vectors.lines is.sayings is.blocks is.begins is.written is.ordered is.times is.size in
    ap vectors_in is.lines
    ∙ ap (λ (o : Option Version). or_fault o (BadLine is.first.0) (λ version. behind_version version ((vectors.inputs_line, is.second) ∷ is.behind))) is.head
    ∙ ap (λ (o : Option (List (List ℕ))). or_fault o (BadLine vectors.inputs_line) (λ inputs. behind_inputs is.version inputs vectors.inputs_line (outputs_in is.behind))) is.inputs
    ∙ ap (behind_inputs is.version vectors.inputs vectors.inputs_line) outputs
    ∙ ap (vectors_with vectors.inputs vectors.inputs_line (record { names = vectors.outputs; line = vectors.outputs_line; rest = is.rest })) body
