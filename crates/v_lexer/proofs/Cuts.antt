-- What stands at the front of a text stands at the front of the text cut behind it.
use Rattle.std.proofs.Common.{◌≡◌, ℕ, zero, suc, ◌+◌, ◌≤◌, ◌<◌, Bool, true, false, ◌||◌, eqb, List, [], ◌∷◌, take, drop, if◌then◌else◌, refl, sym, ap, ◌∙◌, arith, inl, inr}
use Rattle.std.proofs.lemmas.Bool.{cases_Bool, true≢false}
use Rattle.std.proofs.lemmas.List.{drop-take}
use Rattle.std.proofs.lemmas.Option.{none-some, same_Some}
use Rattle.std.specs.Prelude.{Option, Some, None}
use Rattle.std.specs.List.{prefix_len}
use Rattle.v_lexer.specs.declared.literals.Base.{Base}
use Rattle.v_lexer.specs.Bytes.{first, is_literal_byte, is_blank, literal_run, blank_run}
use Rattle.v_lexer.specs.Literals.{Form, base_of, signed_len, form_with, form_after, form_at, and_then}

-- a run of one kind
pub run_cut : (p : ℕ → Bool) (n : ℕ) (bytes : List ℕ) → prefix_len p bytes ≤ n → prefix_len p (take n bytes) ≡ prefix_len p bytes
run_cut p zero bytes le = omega arith
run_cut p (suc n) [] le = refl
run_cut p (suc n) (byte ∷ bytes) le =
    elim (cases_Bool (p byte)) [
      | inl e ↦ let more : 1 + prefix_len p bytes ≤ suc n = rw e at le in let less : prefix_len p bytes ≤ n = omega arith in rw e (ap (λ m. 1 + m) (run_cut p n bytes less))
      | inr e ↦ rw e refl
    ]

pub first_cut : (k n : ℕ) (bytes : List ℕ) → k < n → first (drop k (take n bytes)) ≡ first (drop k bytes)
first_cut k zero bytes less = absurd (omega arith)
first_cut zero (suc n) [] less = refl
first_cut (suc k) (suc n) [] less = refl
first_cut zero (suc n) (byte ∷ bytes) less = refl
first_cut (suc k) (suc n) (byte ∷ bytes) less = first_cut k n bytes (omega arith)

pub take_cut : (k n : ℕ) (bytes : List ℕ) → k ≤ n → take k (take n bytes) ≡ take k bytes
take_cut zero n bytes le = refl
take_cut (suc k) zero bytes le = absurd (omega arith)
take_cut (suc k) (suc n) [] le = refl
take_cut (suc k) (suc n) (byte ∷ bytes) le = ap (λ (rest : List ℕ). byte ∷ rest) (take_cut k n bytes (omega arith))

-- a form, by what is read of its digits
shown : Bool → Base → ℕ → ℕ → ℕ → List ℕ → Option Form
shown signed base start run byte digits =
    if eqb run 0 || eqb byte 95 then None else Some (record { signed = signed; base = base; digits = digits; len = start + run })

form_with-shown : (signed : Bool) (base : Base) (start : ℕ) (bytes : List ℕ)
    → form_with signed base start bytes ≡ shown signed base start (literal_run (drop start bytes)) (first (drop start bytes)) (take (literal_run (drop start bytes)) (drop start bytes))
unfolding form_with shown
form_with-shown signed base start bytes = refl

form_with-cut : (signed : Bool) (base : Base) (start : ℕ) (bytes : List ℕ) → 0 < literal_run (drop start bytes)
    → form_with signed base start (take (start + literal_run (drop start bytes)) bytes) ≡ form_with signed base start bytes
form_with-cut signed base start bytes some =
    let rest : List ℕ = drop start bytes in
    let run : ℕ = literal_run (drop start bytes) in
    let cut : List ℕ = take (start + literal_run (drop start bytes)) bytes in
    let here : drop start (take (start + literal_run (drop start bytes)) bytes) ≡ take (literal_run (drop start bytes)) (drop start bytes) = drop-take start (literal_run (drop start bytes)) bytes in
    let le : literal_run (drop start bytes) ≤ literal_run (drop start bytes) = omega arith in
    let same_run : literal_run (take run rest) ≡ run = run_cut is_literal_byte run rest le in
    form_with-shown signed base start cut
    ∙ ap (λ (front : List ℕ). shown signed base start (literal_run front) (first front) (take (literal_run front) front)) here
    ∙ ap (λ n. shown signed base start n (first (take run rest)) (take n (take run rest))) same_run
    ∙ ap (λ byte. shown signed base start run byte (take run (take run rest))) (first_cut 0 run rest some)
    ∙ ap (λ (digits : List ℕ). shown signed base start run (first rest) digits) (take_cut run run rest le)
    ∙ sym (form_with-shown signed base start bytes)

if_some : (b : Bool) (form other : Form) → (if b then None else Some form) ≡ Some other → (b ≡ false) × (form ≡ other)
if_some true form other is = absurd (none-some other is)
if_some false form other is = (refl, same_Some form other is)

some_run : (run : ℕ) (b : Bool) → (eqb run 0 || b) ≡ false → 0 < run
some_run zero b h = absurd (true≢false h)
some_run (suc run) b h = omega arith

pub form_with-some : (signed : Bool) (base : Base) (start : ℕ) (bytes : List ℕ) (form : Form) → form_with signed base start bytes ≡ Some form
    → (0 < literal_run (drop start bytes)) × (form.len ≡ start + literal_run (drop start bytes))
unfolding form_with
form_with-some signed base start bytes form is =
    let run : ℕ = literal_run (drop start bytes) in
    let whole : Form = record { signed = signed; base = base; digits = take (literal_run (drop start bytes)) (drop start bytes); len = start + literal_run (drop start bytes) } in
    let parts : ((eqb run 0 || eqb (first (drop start bytes)) 95) ≡ false) × (whole ≡ form) = if_some (eqb run 0 || eqb (first (drop start bytes)) 95) whole form is in
    (some_run run (eqb (first (drop start bytes)) 95) parts.0, sym (ap (λ (f : Form). f.len) parts.1))

pub and_then-some : (o : Option Base) (f : Base → Option Form) (form : Form) → and_then o f ≡ Some form → (base : Base) × (o ≡ Some base) × (f base ≡ Some form)
and_then-some None f form is = absurd (none-some form is)
and_then-some (Some base) f form is = (base, refl, is)

-- a form by the length of its sign and the bytes from its first on
unfoldable pub formed : ℕ → List ℕ → Option Form
formed s bytes = and_then (base_of (first (drop (1 + s) bytes))) (form_after (eqb s 1) (1 + s) bytes)

pub form_at-formed : (bytes : List ℕ) → form_at bytes ≡ formed (signed_len (drop 1 bytes)) bytes
unfolding form_at formed
form_at-formed bytes = refl

formed-cut : (s : ℕ) (bytes : List ℕ) (form : Form) → formed s bytes ≡ Some form → (1 + s < form.len) × (formed s (take form.len bytes) ≡ Some form)
unfolding formed
formed-cut s bytes form is =
    let offset : ℕ = 1 + s in
    let parts : (base : Base) × (base_of (first (drop (1 + s) bytes)) ≡ Some base) × (form_after (eqb s 1) (1 + s) bytes base ≡ Some form) = and_then-some (base_of (first (drop (1 + s) bytes))) (form_after (eqb s 1) (1 + s) bytes) form is in
    let base : Base = parts.0 in
    let blanks : ℕ = blank_run (drop (offset + 1) bytes) in
    let start : ℕ = offset + 1 + blanks in
    let run : ℕ = literal_run (drop start bytes) in
    let cut : List ℕ = take form.len bytes in
    let long : (0 < run) × (form.len ≡ start + run) = form_with-some (eqb s 1) base start bytes form parts.2 in
    let less : offset < form.len = omega (arith, long.0, long.1) in
    let len : form.len ≡ (offset + 1) + (blanks + run) = omega (arith, long.1) in
    let tail : drop (offset + 1) cut ≡ take (blanks + run) (drop (offset + 1) bytes) = ap (λ m. drop (offset + 1) (take m bytes)) len ∙ drop-take (offset + 1) (blanks + run) bytes in
    let le : blanks ≤ blanks + run = omega arith in
    let same_blanks : blank_run (drop (offset + 1) cut) ≡ blanks = ap (λ (bs : List ℕ). blank_run bs) tail ∙ run_cut is_blank (blanks + run) (drop (offset + 1) bytes) le in
    let same_base : base_of (first (drop offset cut)) ≡ Some base = ap base_of (first_cut offset form.len bytes less) ∙ parts.1 in
    let same_form : form_with (eqb s 1) base start cut ≡ Some form = ap (λ m. form_with (eqb s 1) base start (take m bytes)) long.1 ∙ form_with-cut (eqb s 1) base start bytes long.0 ∙ parts.2 in
    (less, ap (λ (o : Option Base). and_then o (form_after (eqb s 1) offset cut)) same_base ∙ ap (λ m. form_with (eqb s 1) base (offset + 1 + m) cut) same_blanks ∙ same_form)

-- a based number from its `'` on
pub form_cut : (bytes : List ℕ) (form : Form) → form_at bytes ≡ Some form → (0 < form.len) × (form_at (take form.len bytes) ≡ Some form)
form_cut bytes form is =
    let s : ℕ = signed_len (drop 1 bytes) in
    let parts : (1 + s < form.len) × (formed s (take form.len bytes) ≡ Some form) = formed-cut s bytes form (sym (form_at-formed bytes) ∙ is) in
    let more : 1 < form.len = omega (arith, parts.0) in
    let same_sign : signed_len (drop 1 (take form.len bytes)) ≡ s = ap (λ byte. if eqb byte 115 || eqb byte 83 then 1 else 0) (first_cut 1 form.len bytes more) in
    (omega (arith, parts.0), form_at-formed (take form.len bytes) ∙ ap (λ m. formed m (take form.len bytes)) same_sign ∙ parts.1)
