-- Rules of descriptions, and what they say of a whole list of tokens.
use Rattle.std.proofs.Common.{◌≡◌, ◌≢◌, ℕ, ◌+◌, Bool, true, false, not, is_some, if◌then◌else◌, List, [], ◌∷◌, ◌++◌, Option, Some, None, Ok, codes, ◌⊎◌, inl, inr, refl, sym, ap, subst, ◌∙◌, arith, append-nil, length-append}
use Rattle.std.specs.Prelude.{nat_lt}
use Rattle.v_lexer.specs.declared.token.Token.{Token}
use Rattle.v_lexer.specs.declared.token.TokenKind.{TokenKind}
use Rattle.v_lexer.specs.declared.token.TokenKind.TheVariants.{End}
use Rattle.v_lexer.specs.declared.token.TokenKind.TheVariants as kind
use Rattle.v_lexer.specs.declared.values.Literal.{Literal}
use Rattle.v_lexer.specs.Numbers.{decimal_value}
use Rattle.v_lexer.specs.Values.{literal_of}
use Rattle.v_tree.specs.declared.modules.ModuleWord.{ModuleWord}
use Rattle.v_tree.specs.declared.modules.ModuleWord.TheVariants as opening
use Rattle.v_tree.specs.declared.modules.Module.{Module}
use Rattle.v_tree.specs.declared.modules.Description.{Description}
use Rattle.v_tree.specs.declared.modules.Description.TheVariants as described
use Rattle.v_tree.specs.declared.primitives.UdpDecl.{UdpDecl}
use Rattle.v_tree.specs.declared.directives.Directive.{Directive}
use Rattle.v_tree.specs.declared.directives.Directive.TheVariants as directives
use Rattle.v_lexer.specs.Sound.{bytes_of}
use Rattle.v_tree.specs.Written.{Form, form_of, form_by, based_form, Spelled, bare, exactly, AreWritten, one_by_one}
use Rattle.v_tree.specs.Written as form
use Rattle.v_tree.specs.Fit as fit
use Rattle.v_tree.specs.Spelling as spell
use Rattle.v_parser.specs.Input.{Input, front, next, is_finish, is_word, directive_in}
use Rattle.v_parser.specs.Descriptions as read
use Rattle.v_parser.proofs.Rules.{IsSource, IsEnd, whole}
use Rattle.v_parser.proofs.SpelledRules.{SpelledRule, Spells, begins_with, whatever, spells_length, written_spells, spells_written, exactly_rule, spelled_map_rule, spelled_variant_rule, spelled_refit_rule, spelled_pair_rule, spelled_choice_rule, spelled_many_rule}
use Rattle.v_parser.proofs.TokenRules.{finish_rule}
use Rattle.v_parser.proofs.ModuleRules.{module_rule}
use Rattle.v_parser.proofs.UdpRules.{udp_rule}
use Rattle.v_parser.proofs.DirectiveRules.{directive_rule}
use Rattle.v_parser.proofs.Order.{description_some}

abbrev IsModule : Description → Type 0
IsModule x = (m : Module) × (x ≡ described.Module m) × fit.IsFitModule m

abbrev IsUdp : Description → Type 0
IsUdp x = (u : UdpDecl) × (x ≡ described.Udp u) × fit.IsFitUdp u

abbrev IsDirective : Description → Type 0
IsDirective x = (d : Directive) × (x ≡ described.Directive d) × fit.IsFitDirective d

-- a description that was read fits
description_fits : (x : Description) → IsUdp x ⊎ (IsDirective x ⊎ IsModule x) → fit.IsFitDescription x
description_fits x (inl f) = subst fit.IsFitDescription (sym f.1) f.2
description_fits x (inr (inl f)) = subst fit.IsFitDescription (sym f.1) f.2
description_fits x (inr (inr f)) = subst fit.IsFitDescription (sym f.1) f.2

-- a description that fits is a module, a primitive or a directive
description_from : (x : Description) → fit.IsFitDescription x → IsUdp x ⊎ (IsDirective x ⊎ IsModule x)
description_from (described.Udp u) f = inl (u, refl, f)
description_from (described.Directive d) f = inr (inl (d, refl, f))
description_from (described.Module m) f = inr (inr (m, refl, f))

abbrev is_primitive : Form → Bool
is_primitive f = is_word (codes "primitive") f

abbrev is_some_directive : Form → Bool
is_some_directive f = is_some (directive_in f)

-- a module begins with another word than `primitive`
module_other : (m : Module) (word : ModuleWord) (ss : List Spelled) → m.word ≡ word → begins_with (λ f. not (is_primitive f)) (spell.description (described.Module m) ++ ss) ≡ true
module_other m opening.Module ss e = rw e refl
module_other m opening.Macromodule ss e = rw e refl

-- a directive begins with one
directive_seen : (d : Directive) (ss : List Spelled) → begins_with is_some_directive (spell.description (described.Directive d) ++ ss) ≡ true
directive_seen (directives.Timescale t) ss = refl
directive_seen (directives.DefaultNettype d) ss = refl
directive_seen (directives.Resetall l) ss = refl
directive_seen (directives.Cell c) ss = refl

-- and with no word
directive_other : (d : Directive) (ss : List Spelled) → begins_with (λ f. not (is_primitive f)) (spell.description (described.Directive d) ++ ss) ≡ true
directive_other (directives.Timescale t) ss = refl
directive_other (directives.DefaultNettype d) ss = refl
directive_other (directives.Resetall l) ss = refl
directive_other (directives.Cell c) ss = refl

-- another description than a primitive
others_seen : (x : Description) (ss : List Spelled) → IsDirective x ⊎ IsModule x → begins_with (λ f. not (is_primitive f)) (spell.description x ++ ss) ≡ true
others_seen x ss (inl f) = ap (λ (d : Description). begins_with (λ g. not (is_primitive g)) (spell.description d ++ ss)) f.1 ∙ directive_other f.0 ss
others_seen x ss (inr f) = ap (λ (d : Description). begins_with (λ g. not (is_primitive g)) (spell.description d ++ ss)) f.1 ∙ module_other f.0 f.0.word ss refl

-- a directive, or a module
others_rule : SpelledRule read.others spell.description (λ x. IsDirective x ⊎ IsModule x) whatever
unfolding read.others
others_rule =
    spelled_choice_rule is_some_directive (spelled_variant_rule (exactly_rule directive_rule) described.Directive spell.description (λ a. refl))
    (spelled_variant_rule module_rule described.Module spell.description (λ a. refl))
    (λ x ss f. ap (λ (d : Description). begins_with is_some_directive (spell.description d ++ ss)) f.1 ∙ directive_seen f.0 ss)
    (λ x ss f. ap (λ (d : Description). begins_with (λ g. not (is_some_directive g)) (spell.description d ++ ss)) f.1)

-- a module, a primitive or a directive
description_rule : SpelledRule read.description spell.description fit.IsFitDescription whatever
unfolding read.description
description_rule =
    spelled_refit_rule (spelled_choice_rule is_primitive (spelled_variant_rule (exactly_rule udp_rule) described.Udp spell.description (λ a. refl)) others_rule
    (λ x ss f. ap (λ (d : Description). begins_with is_primitive (spell.description d ++ ss)) f.1)
    (λ x ss f. others_seen x ss f))
    description_fits description_from

-- a description doesn't begin with the end of the text
description_begins : (x : Description) (ss : List Spelled) → begins_with (λ f. not (is_finish f)) (spell.description x ++ ss) ≡ true
description_begins (described.Module m) ss = refl
description_begins (described.Udp u) ss = refl
description_begins (described.Directive (directives.Timescale t)) ss = refl
description_begins (described.Directive (directives.DefaultNettype d)) ss = refl
description_begins (described.Directive (directives.Resetall l)) ss = refl
description_begins (described.Directive (directives.Cell c)) ss = refl

-- descriptions up to the end of the text
pub descriptions_rule : SpelledRule read.descriptions spell.spelling (fit.AreFit fit.IsFitDescription) whatever
unfolding read.descriptions
descriptions_rule =
    spelled_refit_rule (spelled_map_rule (spelled_pair_rule (spelled_many_rule is_finish description_rule description_some (λ x ss f. description_begins x ss)) (exactly_rule finish_rule) (λ y ss f g. refl))
    (λ (z : List Description × Unit {0}). z.0) (λ (ds : List Description). (ds, tt)) (λ b. refl) (λ a. refl))
    (λ x f. f.0) (λ x f. (f, tt))

-- the end of the text is the last token, and no other is
abbrev pub AreEnded : List Token → Type 0
AreEnded [] = ⊥
AreEnded (token ∷ []) = token.kind ≡ End
AreEnded (token ∷ next ∷ tokens) = (token.kind ≢ End) × AreEnded (next ∷ tokens)

-- a number isn't the end of the text
number_not_end : (b : Bool) (value : ℕ) → (if b then form.Number value else form.Other) ≡ form.End → ⊥
number_not_end true value e = cc
number_not_end false value e = cc

-- a based number isn't the end of the text
based_not_end : (o : Option Literal) → based_form o ≡ form.End → ⊥
based_not_end None e = cc
based_not_end (Some literal) e = cc

-- what says that the text ends is the end of the text
end_is : (k : TokenKind) (bytes : List ℕ) → form_by k bytes ≡ form.End → k ≡ End
end_is kind.End bytes e = refl
end_is kind.Number bytes e = absurd (number_not_end (nat_lt (decimal_value bytes) 2147483648) (decimal_value bytes) e)
end_is kind.Based bytes e = absurd (based_not_end (literal_of bytes) e)
end_is k bytes e = absurd cc

-- nothing is left after what is spelled up to the end of the text
ends_there : (text : List ℕ) (number : ℕ) (tokens : List Token) (ss : List Spelled) (j : Input) → AreEnded tokens
    → Spells (record { text = text; tokens = tokens; number = number }) (ss ++ exactly (bare form.End ∷ [])) j → IsEnd j
unfolding front next form_of
ends_there text number [] ss j ended t = absurd ended
ends_there text number (token ∷ []) [] j ended t = ap (λ (k : Input). k.tokens) (sym t.1)
ends_there text number (token ∷ []) (s ∷ ss) j ended t =
    absurd (omega (arith, spells_length (ss ++ exactly (bare form.End ∷ [])) (record { text = text; tokens = []; number = number + 1 }) j t.1, length-append ss (exactly (bare form.End ∷ []))))
ends_there text number (token ∷ other ∷ tokens) [] j ended t = absurd (ended.0 (end_is token.kind (bytes_of text token) t.0.form))
ends_there text number (token ∷ other ∷ tokens) (s ∷ ss) j ended t = ends_there text (number + 1) (other ∷ tokens) ss j ended.1 t.1

-- what is read is written with these tokens
pub descriptions_found : (text : List ℕ) (tokens : List Token) (ds : List Description) (j : Input) → IsSource (whole text tokens) → AreEnded tokens → read.descriptions (whole text tokens) ≡ Ok (ds, j)
    → AreWritten text 0 tokens (spell.spelling ds) × fit.AreFit fit.IsFitDescription ds
descriptions_found text tokens ds j source ended e =
    let t = descriptions_rule.takes (whole text tokens) j ds source e in
    let end = ends_there text 0 tokens (one_by_one spell.description ds) j ended t.0 in
    (spells_written text 0 tokens (spell.spelling ds) j end t.0, t.1)

-- what is written with these tokens is read
pub descriptions_only : (text : List ℕ) (tokens : List Token) (ds : List Description) → IsSource (whole text tokens) → AreWritten text 0 tokens (spell.spelling ds) → fit.AreFit fit.IsFitDescription ds
    → (j : Input) × (read.descriptions (whole text tokens) ≡ Ok (ds, j))
descriptions_only text tokens ds source h fits =
    let t = written_spells text 0 tokens (spell.spelling ds) h in
    let t' = subst (λ (ss : List Spelled). Spells (whole text tokens) ss t.0) (sym (append-nil (spell.spelling ds))) t.2 in
    let r = descriptions_rule.again (whole text tokens) t.0 ds [] source t' t.1 fits refl in
    (r.0, r.1)
