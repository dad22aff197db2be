-- What the tokens of a text keep, for those who read them.
use Rattle.std.proofs.Common.{◌≡◌, ◌≢◌, ℕ, ◌+◌, ◌<◌, ◌≤◌, Bool, false, List, [], ◌∷◌, length, drop, Option, Some, None, refl, sym, subst, ◌⊎◌, arith, inl, inr, length-append, ltb-true, length-take, ◌-◌}
use Rattle.std.specs.Prelude.{nat_lt}
use Rattle.std.specs.List.{AllByRecursion}
use Rattle.v_lexer.specs.declared.token.Token.{Token}
use Rattle.v_lexer.specs.declared.token.TokenKind.{TokenKind}
use Rattle.v_lexer.specs.declared.token.TokenKind.TheVariants as kind
use Rattle.v_lexer.specs.declared.token.Piece.{Piece}
use Rattle.v_lexer.specs.Sound.{IsVisible, AreDigits, HasDigits, HasBits, IsSound, AreSound, bytes_of}
use Rattle.std.proofs.lemmas.Bool.{cases_Bool}
use Rattle.std.proofs.lemmas.List.Elements.{recursion_from_All}
use Rattle.v_lexer.specs.Pieces.{table_after}
use Rattle.v_lexer.specs.Reading.{AreTokensOf, Reads, line_of}
use Rattle.v_lexer.specs.Tokens.{tokens_of_piece}
use Rattle.v_lexer.specs.Values.{name_text, decimal_digits, literal_of}
use Rattle.v_lexer.specs.Numbers.{decimal_value}
use Rattle.v_lexer.proofs.Sound.{are_sound}
use Rattle.v_tree.specs.Written.{form_of, form_by, number_form, based_form}
use Rattle.v_tree.specs.Fit.{IsSoundForm, IsNameText, IsDigit, IsFitDecimal, AreSome}
use Rattle.v_parser.proofs.Rules.{IsSource}
use Rattle.v_parser.proofs.DescriptionRules.{AreEnded}
use Rattle.v_parser.specs.Reading.{whole}

one_token : (at line : ℕ) (kind : Option TokenKind) (len : ℕ) → length (tokens_of_piece at line kind len) ≤ 1
one_token at line None len = omega arith
one_token at line (Some kind) len = omega arith

tokens_few_from : (text : List ℕ) (table : Bool) (at : ℕ) (pieces : List Piece) (tokens : List Token) → Reads text table at pieces tokens → length tokens + at ≤ length text + 1
tokens_few_from text table at [] tokens h = rw h.1 (omega (arith, h.0))
tokens_few_from text table at (piece ∷ pieces) tokens h =
    let few : length h.0 + (at + piece.len) ≤ length text + 1 = tokens_few_from text (table_after table piece (drop at text)) (at + piece.len) pieces h.0 h.3 in
    let one : length (tokens_of_piece at (line_of text at) piece.kind piece.len) ≤ 1 = one_token at (line_of text at) piece.kind piece.len in
    let some : 0 < piece.len = h.1.some in
    rw h.2 (omega (arith, length-append (tokens_of_piece at (line_of text at) piece.kind piece.len) h.0, few, one, some))

-- there is one token more than bytes at most
pub tokens_few : (text : List ℕ) (tokens : List Token) → AreTokensOf text tokens → length tokens ≤ length text + 1
tokens_few text tokens h = omega (arith, tokens_few_from text false 0 h.0 tokens h.1)

name_sound : (bytes : List ℕ) → IsVisible bytes → IsNameText bytes
name_sound bytes h = record { some = h.some; visible = recursion_from_All (λ byte. (33 ≤ byte) × (byte ≤ 126)) bytes h.visible }

number_sound : (n : ℕ) → IsSoundForm (number_form n)
number_sound n =
    elim (cases_Bool (nat_lt n 2147483648)) [
      | inl below ↦ rw below (omega (arith, ltb-true))
      | inr above ↦ rw above tt
    ]

based_sound : (bytes : List ℕ) → HasBits bytes → IsSoundForm (based_form (literal_of bytes))
based_sound bytes h = rw h.means (record { some = h.some; few = h.few })

-- digits fit, where they are few enough
digits_sound : (digits : List ℕ) → AreDigits digits → length digits ≤ 67108864 → AreSome IsDigit digits
digits_sound digits h few = record { some = h.some; fit = record { few = omega arith; each = h.each } }

decimal_sound : (bytes : List ℕ) → HasDigits bytes → length bytes ≤ 67108864 → IsFitDecimal (decimal_digits bytes)
decimal_sound bytes h few = record {
  whole = digits_sound (decimal_digits bytes).whole h.whole (omega (arith, h.few_whole));
  fraction = digits_sound (decimal_digits bytes).fraction h.fraction (omega (arith, h.few_fraction));
}

-- a token is no longer than its text
slice_few : (text : List ℕ) (token : Token) → token.end ≤ length text → length text ≤ 67108864 → length (bytes_of text token) ≤ 67108864
slice_few text token within small = omega (arith, length-take (token.end - token.start) (drop token.start text))

-- each token says what a tree may keep
sound_form : (text : List ℕ) (token : Token) → length text ≤ 67108864 → IsSound text token → IsSoundForm (form_of text token)
unfolding form_of
sound_form text token small sound = by token.kind refl
  where
    by : (k : TokenKind) → token.kind ≡ k → IsSoundForm (form_by k (bytes_of text token))
    by kind.Name is = name_sound (name_text (bytes_of text token)) (sound.name is)
    by kind.Word is = tt
    by kind.Number is = number_sound (decimal_value (bytes_of text token))
    by kind.Decimal is = decimal_sound (bytes_of text token) (sound.decimal is) (slice_few text token sound.within small)
    by kind.Exponent is = tt
    by kind.Based is = based_sound (bytes_of text token) (sound.based is)
    by kind.Text is = tt
    by kind.Directive is = tt
    by kind.Symbol is = tt
    by kind.Mark is = tt
    by kind.End is = tt

end_or_not : (k : TokenKind) → (k ≡ kind.End) ⊎ (k ≢ kind.End)
end_or_not kind.Name = inr (λ e. cc)
end_or_not kind.Word = inr (λ e. cc)
end_or_not kind.Number = inr (λ e. cc)
end_or_not kind.Decimal = inr (λ e. cc)
end_or_not kind.Exponent = inr (λ e. cc)
end_or_not kind.Based = inr (λ e. cc)
end_or_not kind.Text = inr (λ e. cc)
end_or_not kind.Directive = inr (λ e. cc)
end_or_not kind.Symbol = inr (λ e. cc)
end_or_not kind.Mark = inr (λ e. cc)
end_or_not kind.End = inl refl

forms_sound : (text : List ℕ) (tokens : List Token) → length text ≤ 67108864 → AreSound text tokens → AllByRecursion (λ (t : Token). IsSoundForm (form_of text t)) tokens
forms_sound text [] small h = absurd h
forms_sound text (token ∷ others) small h =
    elim (end_or_not token.kind) [
      | inl end ↦ (sound_form text token small h.0, subst (AllByRecursion (λ (t : Token). IsSoundForm (form_of text t))) (sym (h.1 end)) tt)
      | inr more ↦ (sound_form text token small h.0, forms_sound text others small (h.2 more))
    ]

pub source_of : (text : List ℕ) (tokens : List Token) → length text ≤ 67108864 → AreTokensOf text tokens → IsSource (whole text tokens)
source_of text tokens small are = record {
  few = omega (arith, tokens_few text tokens are);
  sound = forms_sound text tokens small (are_sound text tokens are);
}

pub ended_of : (text : List ℕ) (tokens : List Token) → AreSound text tokens → AreEnded tokens
ended_of text [] h = absurd h
ended_of text (token ∷ []) h =
    elim (end_or_not token.kind) [
      | inl end ↦ end
      | inr more ↦ absurd (h.2 more)
    ]
ended_of text (token ∷ next ∷ tokens) h =
    elim (end_or_not token.kind) [
      | inl end ↦ absurd (let none : next ∷ tokens ≡ [] = h.1 end in cc)
      | inr more ↦ (more, ended_of text (next ∷ tokens) (h.2 more))
    ]
