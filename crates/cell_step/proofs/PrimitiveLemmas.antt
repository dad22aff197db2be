-- The values at the inputs of a primitive, and what it remembers.
use Rattle.std.proofs.Common.{◌≡◌, ◌≢◌, ◌<◌, ◌≤◌, ℕ, zero, suc, ◌+◌, cond, true, false, List, [], ◌∷◌, ◌++◌, length, map, get_or, take, drop, refl, ap, sym, subst, ◌∙◌, arith}
use Rattle.std.specs.Prelude.{slice_set, All}
use Rattle.std.proofs.Math.Seq.{take-append_seam}
use Rattle.std.proofs.lemmas.List.{take_all, length-map}
use Rattle.level_range.specs.Signal.{Signal, undriven, reads}
use Rattle.level_range.specs.declared.range.Logic.{Logic}
use Rattle.level_range.specs.declared.range.Logic.TheVariants.{Zero, One, X, Z}
use Rattle.flat_net.specs.declared.kinds.Patch.{Patch}
use Rattle.flat_net.specs.declared.parts.Element.{Element}
use Rattle.cell_step.specs.Readings.{Readings}
use Rattle.udp_table.specs.Primitive.{Primitive}
use Rattle.udp_table.specs.LookUp.{level_value, state_after}
use Rattle.cell_step.specs.declared.states.ElementState.{ElementState}
use Rattle.cell_step.specs.Elements.{known, input_signals, input_at, primitive_inputs, primitive_value, remember}
use Rattle.cell_step.proofs.PinLemmas.{input_signals_length}

-- the value of an element that is written over, one more
over_suc : {X Y : Type 0} (h : X → Y) (xs : List X) (ys : List Y) (i : ℕ) (d : X) → i < length xs → i < length ys →
    slice_set (map h (take i xs) ++ drop i ys) i (h (get_or xs i d)) ≡ map h (take (suc i) xs) ++ drop (suc i) ys
over_suc h [] ys i d lx ly = absurd (omega arith)
over_suc h (x ∷ xs) [] i d lx ly = absurd (omega arith)
over_suc h (x ∷ xs) (y ∷ ys) zero d lx ly = refl
over_suc h (x ∷ xs) (y ∷ ys) (suc i) d lx ly = ap (λ l. h x ∷ l) (over_suc h xs ys i d (omega arith) (omega arith))

over_more : {X Y : Type 0} (h : X → Y) (xs : List X) (ys : List Y) (i : ℕ) (d : X) → i < length xs → i < length ys →
    slice_set (map h (take i xs) ++ drop i ys) i (h (get_or xs i d)) ≡ map h (take (i + 1) xs) ++ drop (i + 1) ys
over_more h xs ys i d lx ly =
    let e : suc i ≡ i + 1 = omega arith in
    over_suc h xs ys i d lx ly ∙ ap (λ n. map h (take n xs) ++ drop n ys) e

-- the values of the first inputs, in front of others
abbrev pub over : List Signal → List Logic → ℕ → List Logic
over ins seen i = primitive_inputs (take i ins) ++ drop i seen

pub over_inputs : (r : Readings) (patch : Patch) (e : Element) (seen : List Logic) (i : ℕ) → i < length e.ins → i < length seen →
    slice_set (over (input_signals r patch e) seen i) i (known (reads (input_at (input_signals r patch e) i)))
    ≡ over (input_signals r patch e) seen (i + 1)
over_inputs r patch e seen i lx ly =
    over_more (λ (s : Signal). known (reads s)) (input_signals r patch e) seen i undriven (subst (λ n. i < n) (sym (input_signals_length r patch e)) lx) ly

pub over_all : (r : Readings) (patch : Patch) (e : Element) (seen : List Logic) (i : ℕ) → i ≡ length e.ins →
    over (input_signals r patch e) seen i ≡ primitive_inputs (input_signals r patch e) ++ drop (length e.ins) seen
over_all r patch e seen i is =
    let le : length (input_signals r patch e) ≤ i = omega (arith, input_signals_length r patch e) in
    ap (λ (ins : List Signal). primitive_inputs ins ++ drop i seen) (take_all i (input_signals r patch e) le)
    ∙ ap (λ n. primitive_inputs (input_signals r patch e) ++ drop n seen) is

-- the values at the inputs, among those that were written over
pub take_inputs : (r : Readings) (patch : Patch) (e : Element) (rest values : List Logic) (count : ℕ) → count ≡ length e.ins →
    values ≡ primitive_inputs (input_signals r patch e) ++ rest → take count values ≡ primitive_inputs (input_signals r patch e)
take_inputs r patch e rest values count is are =
    let n : count ≡ length (primitive_inputs (input_signals r patch e)) =
    is ∙ sym (length-map (input_signals r patch e) (λ (s : Signal). known (reads s)) ∙ input_signals_length r patch e) in
    ap (take count) are ∙ ap (λ n. take n (primitive_inputs (input_signals r patch e) ++ rest)) n
    ∙ take-append_seam (primitive_inputs (input_signals r patch e)) rest

-- no value at an input is z
known_is : (v : Logic) → known v ≢ Z
known_is Zero e = let f : Zero ≡ Z = e in cc
known_is One e = let f : One ≡ Z = e in cc
known_is X e = let f : X ≡ Z = e in cc
known_is Z e = let f : X ≡ Z = e in cc

known_inputs : (ins : List Signal) → All (λ v. v ≢ Z) (primitive_inputs ins)
known_inputs [] k d lt = absurd (omega arith)
known_inputs (s ∷ ins) zero d lt = known_is (reads s)
known_inputs (s ∷ ins) (suc k) d lt = known_inputs ins k d (omega arith)

pub take_known : (r : Readings) (patch : Patch) (e : Element) (rest values : List Logic) (count : ℕ) → count ≡ length e.ins →
    values ≡ primitive_inputs (input_signals r patch e) ++ rest → All (λ v. v ≢ Z) (take count values)
take_known r patch e rest values count is are =
    subst (All (λ v. v ≢ Z)) (sym (take_inputs r patch e rest values count is are)) (known_inputs (input_signals r patch e))

-- the value of a primitive by its kind
sequential_value : (udp : Primitive) (s : ElementState) (ins : List Logic) → udp.sequential ≡ true →
    primitive_value udp s ins ≡ state_after udp.rows [] (take udp.inputs s.seen) ins s.state
unfolding primitive_value
sequential_value udp s ins e = ap (λ b. cond b (state_after udp.rows [] (take udp.inputs s.seen) ins s.state) (level_value udp.rows ins)) e

-- the value of a sequential primitive, by lists of which the first elements are its inputs
pub sequential_value_is : (udp : Primitive) (s : ElementState) (ins values : List Logic) (count : ℕ) (value : Logic) →
    udp.sequential ≡ true → count ≡ udp.inputs → take count values ≡ ins →
    value ≡ state_after udp.rows [] (take count s.seen) (take count values) s.state → value ≡ primitive_value udp s ins
sequential_value_is udp s ins values count value sequential width are is =
    is ∙ ap (λ n. state_after udp.rows [] (take n s.seen) (take count values) s.state) width
    ∙ ap (λ new. state_after udp.rows [] (take udp.inputs s.seen) new s.state) are
    ∙ sym (sequential_value udp s ins sequential)

pub combinational_value : (udp : Primitive) (s : ElementState) (ins : List Logic) → udp.sequential ≡ false →
    primitive_value udp s ins ≡ level_value udp.rows ins
unfolding primitive_value
combinational_value udp s ins e = ap (λ b. cond b (state_after udp.rows [] (take udp.inputs s.seen) ins s.state) (level_value udp.rows ins)) e

-- a state with other remembered values
abbrev pub with_memory : ElementState → Logic → List Logic → ElementState
with_memory s value seen = record s { state = value; seen = seen }

pub sequential_remembers : (udp : Primitive) (s : ElementState) (ins : List Logic) → udp.sequential ≡ true →
    remember udp ins s ≡ with_memory s (primitive_value udp s ins) (ins ++ drop (length ins) s.seen)
unfolding remember
sequential_remembers udp s ins e = ap (λ b. cond b (with_memory s (primitive_value udp s ins) (ins ++ drop (length ins) s.seen)) s) e

pub combinational_remembers : (udp : Primitive) (s : ElementState) (ins : List Logic) → udp.sequential ≡ false → remember udp ins s ≡ s
unfolding remember
combinational_remembers udp s ins e = ap (λ b. cond b (with_memory s (primitive_value udp s ins) (ins ++ drop (length ins) s.seen)) s) e

-- how many inputs are read
pub primitive_inputs_length : (r : Readings) (patch : Patch) (e : Element) → length (primitive_inputs (input_signals r patch e)) ≡ length e.ins
primitive_inputs_length r patch e = length-map (input_signals r patch e) (λ (s : Signal). known (reads s)) ∙ input_signals_length r patch e
