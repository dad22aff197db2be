-- What each saying of a line keeps.
use Rattle.std.proofs.Common.{◌≡◌, ℕ, Bool, true, false, cond, eqb, ◌&&◌, ◌||◌, List, [], ◌∷◌, Option, Some, None, refl, arith, inl, inr}
use Rattle.std.specs.Prelude.{option_map, option_and_then, IfSome, codes}
use Rattle.std.specs.Str.{bytes_eq}
use Rattle.std.proofs.lemmas.Bool.{cases_Bool, eqb-false}
use Rattle.line_text.specs.Fields.{one_of, two_of, three_of}
use Rattle.line_text.specs.Numbers.{capped_number}
use Rattle.vector_text.specs.declared.stimulus.StimulusWhat.{StimulusWhat}
use Rattle.vector_text.specs.declared.stimulus.StimulusWhat.TheVariants.{Strobe}
use Rattle.vector_text.specs.declared.said.Version.{Version}
use Rattle.vector_text.specs.declared.said.Said.TheVariants.{Ends}
use Rattle.vector_text.specs.Sayings.{said_of, strobe_said, end_said, expect_said, repeat_said, endrepeat_said, values_said, values_what, expect_what, timed_saying, timed_saying_if, repeat_if, is_second}
use Rattle.vector_text.specs.Inside.{HasTurns}

pub then_some : {A B : Type 0} (P : B → Type 0) (f : A → Option B) (o : Option A) → ((x : A) → IfSome (f x) P) → IfSome (option_and_then f o) P
then_some P f None h = tt
then_some P f (Some x) h = h x

pub map_some : {A B : Type 0} (P : B → Type 0) (f : A → B) (o : Option A) → ((x : A) → P (f x)) → IfSome (option_map f o) P
map_some P f None h = tt
map_some P f (Some x) h = h x

pub cond_some : {B : Type 0} (P : B → Type 0) (b : Bool) (x y : Option B) → IfSome x P → IfSome y P → IfSome (cond b x y) P
cond_some P true x y h k = h
cond_some P false x y h k = k

or_parts : (x y : Bool) → (x || y) ≡ false → (x ≡ false) × (y ≡ false)
or_parts true y e = absurd cc
or_parts false y e = (refl, e)

timed_turns : (what : Option StimulusWhat) (time : ℕ) → IfSome (timed_saying_if what time) HasTurns
timed_turns what time = map_some HasTurns (λ (w : StimulusWhat). timed_saying w time) what (λ w. tt)

repeat_turns : (count start period : ℕ) → IfSome (repeat_if count start period) HasTurns
repeat_turns count start period =
    elim (cases_Bool (eqb count 0 || eqb period 0)) [
      | inl e ↦ rw e tt
      | inr e ↦ (let parts = or_parts (eqb count 0) (eqb period 0) e in
          let some = eqb-false count 0 parts.0 in
          let some' = eqb-false period 0 parts.1 in
          rw e (omega arith, omega arith))
    ]

endrepeat_turns : (fields : List (List ℕ)) → IfSome (endrepeat_said fields) HasTurns
unfolding endrepeat_said
endrepeat_turns [] = tt
endrepeat_turns (field ∷ fields) = tt

-- a repetition has a turn and a period
pub said_turns : (version : Version) (fields : List (List ℕ)) → IfSome (said_of version fields) HasTurns
unfolding said_of strobe_said end_said expect_said repeat_said values_said
said_turns version [] = tt
said_turns version (word ∷ fields) =
    cond_some HasTurns (bytes_eq word (codes "strobe")) _ _ (then_some HasTurns (λ (time : List ℕ). option_map (timed_saying Strobe) (capped_number time)) (one_of fields) (λ time. map_some HasTurns (timed_saying Strobe) (capped_number time) (λ t. tt)))
    (cond_some HasTurns (bytes_eq word (codes "end")) _ _ (then_some HasTurns (λ (time : List ℕ). option_map Ends (capped_number time)) (one_of fields) (λ time. map_some HasTurns Ends (capped_number time) (λ t. tt)))
    (cond_some HasTurns (is_second version && bytes_eq word (codes "expect")) _ _ (then_some HasTurns (λ (x : List ℕ × List ℕ). option_and_then (timed_saying_if (expect_what x.1)) (capped_number x.0)) (two_of fields) (λ x. then_some HasTurns (timed_saying_if (expect_what x.1)) (capped_number x.0) (λ t. timed_turns (expect_what x.1) t)))
    (cond_some HasTurns (is_second version && bytes_eq word (codes "repeat")) _ _ (then_some HasTurns (λ (x : List ℕ × List ℕ × List ℕ). option_and_then (λ count. option_and_then (λ start. option_and_then (λ period. repeat_if count start period) (capped_number x.2)) (capped_number x.1)) (capped_number x.0)) (three_of fields)
    (λ x. then_some HasTurns (λ count. option_and_then (λ start. option_and_then (λ period. repeat_if count start period) (capped_number x.2)) (capped_number x.1)) (capped_number x.0)
    (λ count. then_some HasTurns (λ start. option_and_then (λ period. repeat_if count start period) (capped_number x.2)) (capped_number x.1)
    (λ start. then_some HasTurns (λ period. repeat_if count start period) (capped_number x.2) (λ period. repeat_turns count start period)))))
    (cond_some HasTurns (is_second version && bytes_eq word (codes "endrepeat")) _ _ (endrepeat_turns fields)
    (then_some HasTurns (λ (at : ℕ). option_and_then (λ values. timed_saying_if (values_what values) at) (one_of fields)) (capped_number word) (λ at. then_some HasTurns (λ values. timed_saying_if (values_what values) at) (one_of fields) (λ values. timed_turns (values_what values) at)))))))
