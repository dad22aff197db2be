-- What is refused is a token of the list.
use Rattle.std.proofs.Common.{◌≡◌, ◌≢◌, ℕ, zero, suc, ◌+◌, Bool, true, false, List, [], ◌∷◌, ◌++◌, length, drop, codes, Option, Some, None, Ok, Err, if◌then◌else◌, refl, ap, subst, ◌∙◌, add-one}
use Rattle.std.specs.Prelude.{slice_get}
use Rattle.v_lexer.specs.declared.token.Token.{Token}
use Rattle.v_lexer.specs.declared.token.TokenKind.TheVariants.{End}
use Rattle.v_lexer.specs.Reading.{AreTokensOf}
use Rattle.v_lexer.proofs.Sound.{are_sound}
use Rattle.v_lexer.specs.Sound.{bytes_of}
use Rattle.v_tree.specs.Written.{Form, form_of, form_by}
use Rattle.v_tree.specs.Written as form
use Rattle.v_parser.specs.declared.fault.ParseFault.{ParseFault}
use Rattle.v_parser.specs.declared.fault.ParseFault.TheVariants.{Unsupported, Syntax, Memory}
use Rattle.v_parser.specs.Input.{Input, Outcome, Reader, front, front_in, next, next_in, is_left_out, refusal, and_then, ◌>>=◌, pure, ◌<$>◌, ◌&◌, refuse, token_by, token, where_true, is_mark, is_word, is_finish, name_in, number_in, based_in, optional, choice, commas_from, commas, comma_list, many_from, many_after, many, some, here}
use Rattle.v_parser.specs.Input as input
use Rattle.v_parser.specs.Words as words
use Rattle.v_parser.specs.Expressions as read
use Rattle.v_parser.specs.Drives as drives
use Rattle.v_parser.specs.Declarations as declare
use Rattle.v_parser.specs.Gates as gate
use Rattle.v_parser.specs.Directives as directive
use Rattle.v_parser.specs.Blocks as block
use Rattle.v_parser.specs.Modules as modules
use Rattle.v_parser.specs.Primitives as udp
use Rattle.v_parser.specs.Descriptions as all_of
use Rattle.v_parser.specs.Reading.{whole, descriptions_of, IsRefusalOf}
use Rattle.v_parser.proofs.DescriptionRules.{AreEnded}
use Rattle.v_parser.proofs.Source.{ended_of}

-- ---- where reading stands

-- what is left to read is the last part of a list of tokens of a text
pub record IsWithin (text : List ℕ) (all : List Token) (i : Input) : Type 0 where
  pub same : i.text ≡ text
  pub left : drop i.number all ≡ i.tokens
  pub ended : AreEnded i.tokens

-- the fault is that of a token of the list, and no want of memory
abbrev pub Refuses : List ℕ → List Token → ParseFault → Type 0
Refuses text all e = (e ≢ Memory) × IsRefusalOf text all e

-- what was read leaves a last part of the list, and what is refused is a token of it
abbrev pub IsSafe : {A : Type 0} → List ℕ → List Token → Outcome A → Type 0
IsSafe text all (Ok p) = IsWithin text all p.1
IsSafe text all (Err e) = Refuses text all e

-- a reader stays within the list, and refuses a token of it
pub record Safe {A : Type 0} (read : Reader A) : Type 0 where
  pub safe : (text : List ℕ) (all : List Token) (i : Input) → IsWithin text all i → IsSafe text all (read i)

-- the first of what is left is the token with that number
there : (all : List Token) (number : ℕ) (token : Token) (tokens : List Token) → drop number all ≡ token ∷ tokens → slice_get all number ≡ Some token
there [] zero token tokens e = absurd cc
there [] (suc number) token tokens e = absurd cc
there (first ∷ all) zero token tokens e = ap (λ (list : List Token). slice_get list 0) e
there (first ∷ all) (suc number) token tokens e = there all number token tokens e

-- one token more is dropped
behind : (all : List Token) (number : ℕ) (token : Token) (tokens : List Token) → drop number all ≡ token ∷ tokens → drop (suc number) all ≡ tokens
behind [] zero token tokens e = absurd cc
behind [] (suc number) token tokens e = absurd cc
behind (first ∷ all) zero token tokens e = cc
behind (first ∷ all) (suc number) token tokens e = behind all number token tokens e

-- the refusal of the first of what is left is that of a token of the list
refused_in : (text : List ℕ) (all : List Token) (number : ℕ) (tokens : List Token) → drop number all ≡ tokens → AreEnded tokens
    → Refuses text all (refusal (record { text = text; tokens = tokens; number = number }))
unfolding refusal
refused_in text all number [] is ended = absurd ended
refused_in text all number (token ∷ tokens) is ended = by (is_left_out token.kind (bytes_of text token)) refl
  where
    by : (b : Bool) → is_left_out token.kind (bytes_of text token) ≡ b → Refuses text all (if b then Unsupported number else Syntax number)
    by true e = (λ memory. cc, (token, there all number token tokens is, e))
    by false e = (λ memory. cc, (token, there all number token tokens is, e))

-- the next token is one of the list where it is refused
refused : (text : List ℕ) (all : List Token) (i : Input) → IsWithin text all i → Refuses text all (refusal i)
refused text all i within = subst (λ (t : List ℕ). Refuses t all (refusal i)) within.same (refused_in i.text all i.number i.tokens within.left within.ended)

-- a token at the end of the text says so
end_form : (text : List ℕ) (token : Token) → token.kind ≡ End → form_of text token ≡ form.End
unfolding form_of
end_form text token is = ap (λ k. form_by k (bytes_of text token)) is

-- what is left after the first token is a last part of the list, where that token isn't the end of the text
next_within : (text : List ℕ) (all : List Token) (number : ℕ) (tokens : List Token) → drop number all ≡ tokens → AreEnded tokens → front_in text tokens ≢ form.End → IsWithin text all (next_in text number tokens)
next_within text all number [] is ended more = absurd ended
next_within text all number (token ∷ []) is ended more = absurd (more (end_form text token ended))
next_within text all number (token ∷ other ∷ tokens) is ended more = record {
  same = refl;
  left = ap (λ (n : ℕ). drop n all) (add-one number) ∙ behind all number token (other ∷ tokens) is;
  ended = ended.1;
}

-- what is left after the next token is a last part of the list, where that token isn't the end of the text
goes_on : (text : List ℕ) (all : List Token) (i : Input) → IsWithin text all i → front i ≢ form.End → IsWithin text all (next i)
unfolding front next
goes_on text all i within more = subst (λ (t : List ℕ). IsWithin t all (next i)) within.same (next_within i.text all i.number i.tokens within.left within.ended more)

-- ---- readers made of readers

-- the next token is refused
refuse_safe : {A : Type 0} → Safe (refuse {A = A})
refuse_safe = record { safe = λ text all i within. refused text all i within }

-- nothing is read
pure_safe : {A : Type 0} (a : A) → Safe (pure a)
pure_safe a = record { safe = λ text all i within. within }

-- what follows an outcome
then_safe : {A B : Type 0} (text : List ℕ) (all : List Token) (outcome : Outcome A) (f : A → Reader B) → IsSafe text all outcome → ((x : A) → Safe (f x)) → IsSafe text all (and_then outcome f)
then_safe text all (Ok p) f is others = (others p.0).safe text all p.1 is
then_safe text all (Err e) f is others = is

-- a reader, and what it says to read
bind_safe : {A B : Type 0} {p : Reader A} (f : A → Reader B) → Safe p → ((x : A) → Safe (f x)) → Safe (p >>= f)
bind_safe {A} {B} {p} f first others = record { safe = λ text all i within. then_safe text all (p i) f (first.safe text all i within) others }

-- what is read, seen by a function
map_safe : {A B : Type 0} {p : Reader A} (make : A → B) → Safe p → Safe (make <$> p)
map_safe make rule = bind_safe (λ x. pure (make x)) rule (λ x. pure_safe (make x))

-- one part after the other
pair_safe : {A B : Type 0} {p : Reader A} {q : Reader B} → Safe p → Safe q → Safe (p & q)
pair_safe {A} {B} {p} {q} first second = bind_safe (λ x. (λ y. (x, y)) <$> q) first (λ x. map_safe (λ y. (x, y)) second)

-- a token that isn't the end of the text
token_safe : {A : Type 0} (pick : Form → Option A) → pick form.End ≡ None → Safe (token pick)
token_safe {A} pick none = record { safe = λ text all i within. by text all i within (pick (front i)) refl }
  where
    by : (text : List ℕ) (all : List Token) (i : Input) → IsWithin text all i → (o : Option A) → pick (front i) ≡ o → IsSafe text all (token_by o i)
    by text all i within None is = refused text all i within
    by text all i within (Some x) is =
        let more : front i ≢ form.End = λ (end : front i ≡ form.End). (let same = ap pick end in cc) in
        goes_on text all i within more

-- a part that may be there
optional_safe : {A : Type 0} {p : Reader A} (sees : Form → Form → Bool) → Safe p → Safe (optional sees p)
unfolding optional
optional_safe {A} {p} sees rule = record { safe = λ text all i within. by text all i within (sees (front i) (front (next i))) }
  where
    by : (text : List ℕ) (all : List Token) (i : Input) → IsWithin text all i → (seen : Bool) → IsSafe text all (if seen then (Some <$> p) i else Ok (None, i))
    by text all i within true = (map_safe Some rule).safe text all i within
    by text all i within false = within

-- one of two
choice_safe : {A : Type 0} {p q : Reader A} (sees : Form → Form → Bool) → Safe p → Safe q → Safe (choice sees p q)
unfolding choice
choice_safe {A} {p} {q} sees first second = record { safe = λ text all i within. by text all i within (sees (front i) (front (next i))) }
  where
    by : (text : List ℕ) (all : List Token) (i : Input) → IsWithin text all i → (seen : Bool) → IsSafe text all (if seen then p i else q i)
    by text all i within true = first.safe text all i within
    by text all i within false = second.safe text all i within

-- parts behind commas, in so many turns at most
commas_from_safe : {A : Type 0} {p : Reader A} → Safe p → (n : ℕ) (found : List A) → Safe (commas_from p n found)
unfolding commas_from
commas_from_safe rule zero found = pure_safe found
commas_from_safe {A} {p} rule (suc n) found =
    let rest : Safe (p >>= λ x. commas_from p n (found ++ x ∷ [])) = bind_safe (λ x. commas_from p n (found ++ x ∷ [])) rule (λ x. commas_from_safe rule n (found ++ x ∷ [])) in
    record { safe = λ text all i within. by rest text all i within (is_mark 44 (front i)) refl }
  where
    by : Safe (p >>= λ x. commas_from p n (found ++ x ∷ [])) → (text : List ℕ) (all : List Token) (i : Input) → IsWithin text all i → (seen : Bool) → is_mark 44 (front i) ≡ seen
        → IsSafe text all (if seen then (p >>= λ x. commas_from p n (found ++ x ∷ [])) (next i) else Ok (found, i))
    by rest text all i within true is =
        let more : front i ≢ form.End = λ (end : front i ≡ form.End). (let same = ap (is_mark 44) end in cc) in
        rest.safe text all (next i) (goes_on text all i within more)
    by rest text all i within false is = within

-- parts behind commas
commas_safe : {A : Type 0} {p : Reader A} → Safe p → (found : List A) → Safe (commas p found)
unfolding commas
commas_safe rule found = record { safe = λ text all i within. (commas_from_safe rule (length i.tokens) found).safe text all i within }

-- one part or several, with commas between
comma_list_safe : {A : Type 0} {p : Reader A} → Safe p → Safe (comma_list p)
unfolding comma_list
comma_list_safe {A} {p} rule = bind_safe (λ x. commas p (x ∷ [])) rule (λ x. commas_safe rule (x ∷ []))

-- parts up to a token that ends them, in so many turns at most
many_from_safe : {A : Type 0} {p : Reader A} (stops : Form → Bool) → Safe p → (n : ℕ) (found : List A) → Safe (many_from stops p n found)
unfolding many_from
many_from_safe stops rule zero found = pure_safe found
many_from_safe {A} {p} stops rule (suc n) found =
    let rest : Safe (p >>= λ x. many_from stops p n (found ++ x ∷ [])) = bind_safe (λ x. many_from stops p n (found ++ x ∷ [])) rule (λ x. many_from_safe stops rule n (found ++ x ∷ [])) in
    record { safe = λ text all i within. by rest text all i within (stops (front i)) }
  where
    by : Safe (p >>= λ x. many_from stops p n (found ++ x ∷ [])) → (text : List ℕ) (all : List Token) (i : Input) → IsWithin text all i → (ended : Bool)
        → IsSafe text all (if ended then Ok (found, i) else (p >>= λ x. many_from stops p n (found ++ x ∷ [])) i)
    by rest text all i within true = within
    by rest text all i within false = rest.safe text all i within

-- parts up to a token that ends them, behind those that were found
many_after_safe : {A : Type 0} {p : Reader A} (stops : Form → Bool) → Safe p → (found : List A) → Safe (many_after stops p found)
unfolding many_after
many_after_safe stops rule found = record { safe = λ text all i within. (many_from_safe stops rule (length i.tokens) found).safe text all i within }

-- parts up to a token that ends them
many_safe : {A : Type 0} {p : Reader A} (stops : Form → Bool) → Safe p → Safe (many stops p)
unfolding many
many_safe stops rule = many_after_safe stops rule []

-- one part or several, up to a token that ends them
some_safe : {A : Type 0} {p : Reader A} (stops : Form → Bool) → Safe p → Safe (some stops p)
unfolding some
some_safe {A} {p} stops rule = bind_safe (λ x. many_after stops p (x ∷ [])) rule (λ x. many_after_safe stops rule (x ∷ []))

-- the location of the next token
here_safe : Safe here
here_safe = record { safe = λ text all i within. within }

-- ---- tokens

-- a name
name_safe : Safe input.name
unfolding input.name
name_safe = map_safe _ (token_safe name_in refl)

-- a number, with its location
placed_number_safe : Safe input.placed_number
unfolding input.placed_number
placed_number_safe = token_safe number_in refl

-- a number
number_safe : Safe input.number
unfolding input.number
number_safe = map_safe _ placed_number_safe

-- a based number
placed_based_safe : Safe input.placed_based
unfolding input.placed_based
placed_based_safe = token_safe based_in refl

-- a mark, with its location
mark_safe : (byte : ℕ) → Safe (input.mark byte)
unfolding input.mark
mark_safe byte = map_safe _ (token_safe (λ f. where_true (is_mark byte f)) refl)

-- a mark
skip_safe : (byte : ℕ) → Safe (input.skip byte)
unfolding input.skip
skip_safe byte = map_safe _ (token_safe (λ f. where_true (is_mark byte f)) refl)

-- a word, with its location
word_safe : (bytes : List ℕ) → Safe (input.word bytes)
unfolding input.word
word_safe bytes = map_safe _ (token_safe (λ f. where_true (is_word bytes f)) refl)

-- a word
skip_word_safe : (bytes : List ℕ) → Safe (input.skip_word bytes)
unfolding input.skip_word
skip_word_safe bytes = map_safe _ (token_safe (λ f. where_true (is_word bytes f)) refl)

-- ---- expressions and targets

-- `[ number : number ]`
range_safe : Safe read.range
unfolding read.range
range_safe = map_safe _ (pair_safe (skip_safe 91) (pair_safe number_safe (pair_safe (skip_safe 58) (pair_safe number_safe (skip_safe 93)))))

-- `: number`
bound_safe : Safe read.bound
unfolding read.bound
bound_safe = map_safe _ (pair_safe (skip_safe 58) number_safe)

-- `[ number ]` or `[ number : number ]`
select_safe : Safe read.select
unfolding read.select
select_safe = map_safe _ (pair_safe (skip_safe 91) (pair_safe number_safe (pair_safe (optional_safe _ bound_safe) (skip_safe 93))))

-- a name, with a select or without one
pick_safe : Safe read.pick
unfolding read.pick
pick_safe = map_safe _ (pair_safe name_safe (optional_safe _ select_safe))

-- a pick, a number or a based number
atom_safe : Safe read.atom
unfolding read.atom
atom_safe = choice_safe _ (map_safe _ pick_safe) (choice_safe _ (map_safe _ placed_number_safe) (map_safe _ placed_based_safe))

-- an expression with concatenations so deep at most
expr_at_safe : (depth : ℕ) → Safe (read.expr_at depth)
unfolding read.expr_at
expr_at_safe zero = atom_safe
expr_at_safe (suc depth) = choice_safe _ (map_safe _ (pair_safe (mark_safe 123) (pair_safe (comma_list_safe (expr_at_safe depth)) (skip_safe 125)))) atom_safe

-- a target with concatenations so deep at most
target_at_safe : (depth : ℕ) → Safe (read.target_at depth)
unfolding read.target_at
target_at_safe zero = map_safe _ pick_safe
target_at_safe (suc depth) = choice_safe _ (map_safe _ (pair_safe (mark_safe 123) (pair_safe (comma_list_safe (target_at_safe depth)) (skip_safe 125)))) (map_safe _ pick_safe)

-- an expression of the grammar
expr_safe : Safe declare.expr
unfolding declare.expr
expr_safe = expr_at_safe 64

-- a target of the grammar
target_safe : Safe declare.target
unfolding declare.target
target_safe = target_at_safe 64

-- ---- drives, charges and delays

-- a level
level_safe : Safe drives.level
unfolding drives.level
level_safe = map_safe _ (token_safe words.level_in refl)

-- `( level , level )`
drive_safe : Safe drives.drive
unfolding drives.drive
drive_safe = map_safe _ (pair_safe (mark_safe 40) (pair_safe level_safe (pair_safe (skip_safe 44) (pair_safe level_safe (skip_safe 41)))))

-- `, level`
second_level_safe : Safe drives.second_level
unfolding drives.second_level
second_level_safe = map_safe _ (pair_safe (skip_safe 44) level_safe)

-- `( level )` or `( level , level )`
pull_levels_safe : Safe drives.pull_levels
unfolding drives.pull_levels
pull_levels_safe = map_safe _ (pair_safe (mark_safe 40) (pair_safe level_safe (pair_safe (optional_safe _ second_level_safe) (skip_safe 41))))

-- a word for a charge
charge_word_safe : Safe drives.charge_word
unfolding drives.charge_word
charge_word_safe = map_safe _ (token_safe words.charge_in refl)

-- `( charge )`
charge_safe : Safe drives.charge
unfolding drives.charge
charge_safe = map_safe _ (pair_safe (skip_safe 40) (pair_safe charge_word_safe (skip_safe 41)))

-- a number or a decimal
amount_safe : Safe drives.amount
unfolding drives.amount
amount_safe = map_safe _ (token_safe drives.amount_in refl)

-- `: amount : amount`
other_values_safe : Safe drives.other_values
unfolding drives.other_values
other_values_safe = map_safe _ (pair_safe (skip_safe 58) (pair_safe amount_safe (pair_safe (skip_safe 58) amount_safe)))

-- an amount, or three with `:` between
delay_value_safe : Safe drives.delay_value
unfolding drives.delay_value
delay_value_safe = map_safe _ (pair_safe amount_safe (optional_safe _ other_values_safe))

-- `( value , .. )`
delay_values_safe : Safe drives.delay_values
unfolding drives.delay_values
delay_values_safe = map_safe _ (pair_safe (skip_safe 40) (pair_safe (comma_list_safe delay_value_safe) (skip_safe 41)))

-- `# amount` or `# ( value , .. )`
delay_spec_safe : Safe drives.delay_spec
unfolding drives.delay_spec
delay_spec_safe = map_safe _ (pair_safe (mark_safe 35) (choice_safe _ (map_safe _ amount_safe) delay_values_safe))

-- ---- declarations and assignments

-- a type of nets
net_type_safe : Safe declare.net_type
unfolding declare.net_type
net_type_safe = map_safe _ (token_safe words.net_type_in refl)

-- a word before a range
range_word_safe : Safe declare.range_word
unfolding declare.range_word
range_word_safe = map_safe _ (token_safe words.vector_word_in refl)

-- `dir [ nettype ] [ range ] Name , .. ;`
port_decl_safe : Safe declare.port_decl
unfolding declare.port_decl
port_decl_safe = map_safe _ (pair_safe (token_safe words.direction_in refl)
    (pair_safe (optional_safe _ net_type_safe) (pair_safe (optional_safe _ range_safe) (pair_safe (comma_list_safe name_safe) (skip_safe 59)))))

-- a range, with a word before it or without one
vector_range_safe : Safe declare.vector_range
unfolding declare.vector_range
vector_range_safe = map_safe _ (pair_safe (optional_safe _ range_word_safe) range_safe)

-- `Name = expr`
valued_name_safe : Safe declare.valued_name
unfolding declare.valued_name
valued_name_safe = map_safe _ (pair_safe name_safe (pair_safe (skip_safe 61) expr_safe))

-- names alone, or names with values
declared_safe : Safe declare.declared_names
unfolding declare.declared_names
declared_safe = choice_safe _ (map_safe _ (comma_list_safe valued_name_safe)) (map_safe _ (comma_list_safe name_safe))

-- `nettype [ drive ] [ vector_range ] [ delay ] declared_names ;`
net_decl_safe : Safe declare.net_decl
unfolding declare.net_decl
net_decl_safe = map_safe _ (pair_safe (token_safe words.net_type_in refl)
    (pair_safe (optional_safe _ drive_safe) (pair_safe (optional_safe _ vector_range_safe) (pair_safe (optional_safe _ delay_spec_safe) (pair_safe declared_safe (skip_safe 59))))))

-- `trireg [ charge ] [ vector_range ] [ delay ] Name , .. ;`
trireg_decl_safe : Safe declare.trireg_decl
unfolding declare.trireg_decl
trireg_decl_safe = map_safe _ (pair_safe (word_safe (codes "trireg"))
    (pair_safe (optional_safe _ charge_safe) (pair_safe (optional_safe _ vector_range_safe) (pair_safe (optional_safe _ delay_spec_safe) (pair_safe (comma_list_safe name_safe) (skip_safe 59))))))

-- `target = expr`
assign_pair_safe : Safe declare.pair
unfolding declare.pair
assign_pair_safe = map_safe _ (pair_safe target_safe (pair_safe (skip_safe 61) expr_safe))

-- `assign [ drive ] [ delay ] pair , .. ;`
assign_item_safe : Safe declare.assign_item
unfolding declare.assign_item
assign_item_safe = map_safe _ (pair_safe (word_safe (codes "assign"))
    (pair_safe (optional_safe _ drive_safe) (pair_safe (optional_safe _ delay_spec_safe) (pair_safe (comma_list_safe assign_pair_safe) (skip_safe 59)))))

-- ---- gates, switches and instances

-- `[ Name ] ( expr , .. )`
terms_safe : Safe gate.terms
unfolding gate.terms
terms_safe = map_safe _ (pair_safe (optional_safe _ name_safe) (pair_safe (mark_safe 40) (pair_safe (comma_list_safe expr_safe) (skip_safe 41))))

-- `logic [ drive ] [ delay ] terms , .. ;`
logic_item_safe : Safe gate.logic_item
unfolding gate.logic_item
logic_item_safe = map_safe _ (pair_safe (token_safe words.logic_in refl)
    (pair_safe (optional_safe _ drive_safe) (pair_safe (optional_safe _ delay_spec_safe) (pair_safe (comma_list_safe terms_safe) (skip_safe 59)))))

-- `switch [ delay ] terms , .. ;`
switch_item_safe : Safe gate.switch_item
unfolding gate.switch_item
switch_item_safe = map_safe _ (pair_safe (token_safe words.switch_in refl) (pair_safe (optional_safe _ delay_spec_safe) (pair_safe (comma_list_safe terms_safe) (skip_safe 59))))

-- `tran terms , .. ;`
tran_item_safe : Safe gate.tran_item
unfolding gate.tran_item
tran_item_safe = map_safe _ (pair_safe (token_safe words.tran_in refl) (pair_safe (comma_list_safe terms_safe) (skip_safe 59)))

-- `pull [ ( level [ , level ] ) ] terms , .. ;`
pull_item_safe : Safe gate.pull_item
unfolding gate.pull_item
pull_item_safe = map_safe _ (pair_safe (token_safe words.pull_in refl) (pair_safe (optional_safe _ pull_levels_safe) (pair_safe (comma_list_safe terms_safe) (skip_safe 59))))

-- `. Name ( [ expr ] )`
connection_safe : Safe gate.connection
unfolding gate.connection
connection_safe = map_safe _ (pair_safe (mark_safe 46) (pair_safe name_safe (pair_safe (skip_safe 40) (pair_safe (optional_safe _ expr_safe) (skip_safe 41)))))

-- connections by name, or by order
connections_safe : Safe gate.connections
unfolding gate.connections
connections_safe = choice_safe _ (map_safe _ (comma_list_safe connection_safe)) (map_safe _ (comma_list_safe (optional_safe _ expr_safe)))

-- `[ Name ] ( connections )`
inst_safe : Safe gate.inst
unfolding gate.inst
inst_safe = map_safe _ (pair_safe (optional_safe _ name_safe) (pair_safe (mark_safe 40) (pair_safe connections_safe (skip_safe 41))))

-- `Name [ drive ] [ delay ] inst , .. ;`
instance_safe : Safe gate.instance
unfolding gate.instance
instance_safe = map_safe _ (pair_safe name_safe
    (pair_safe (optional_safe _ drive_safe) (pair_safe (optional_safe _ delay_spec_safe) (pair_safe (comma_list_safe inst_safe) (skip_safe 59)))))

-- ---- directives and blocks

-- a directive, with its location
directive_word_safe : (bytes : List ℕ) → Safe (input.directive_word bytes)
unfolding input.directive_word
directive_word_safe bytes = map_safe _ (token_safe (λ f. where_true (input.is_directive bytes f)) refl)

-- a cell
cell_safe : Safe directive.cell
unfolding directive.cell
cell_safe = map_safe _ (token_safe directive.cell_in refl)

-- a number and a unit
scale_safe : Safe directive.scale
unfolding directive.scale directive.factor directive.unit
scale_safe = map_safe _ (pair_safe (map_safe _ (token_safe directive.factor_in refl)) (map_safe _ (token_safe directive.unit_in refl)))

-- a scale of times
timescale_safe : Safe directive.timescale
unfolding directive.timescale
timescale_safe = map_safe _ (pair_safe (directive_word_safe (codes "`timescale")) (pair_safe scale_safe (pair_safe (skip_safe 47) scale_safe)))

-- a type of implicit nets
default_nettype_safe : Safe directive.default_nettype
unfolding directive.default_nettype directive.default
default_nettype_safe = map_safe _ (pair_safe (directive_word_safe (codes "`default_nettype")) (map_safe _ (token_safe directive.default_in refl)))

-- a directive
directive_safe : Safe directive.directive
unfolding directive.directive directive.defaults directive.resets
directive_safe = choice_safe _ (map_safe _ timescale_safe) (choice_safe _ (map_safe _ default_nettype_safe) (choice_safe _ (map_safe _ (directive_word_safe (codes "`resetall"))) (map_safe _ cell_safe)))

-- the tokens inside a block, in so many turns at most
block_length_from_safe : (n count : ℕ) → Safe (block.block_length_from n count)
unfolding block.block_length_from
block_length_from_safe zero count = pure_safe count
block_length_from_safe (suc n) count = record { safe = λ text all i within. by (block_length_from_safe n (count + 1)) text all i within (block.ends_block (front i)) refl }
  where
    by : Safe (block.block_length_from n (count + 1)) → (text : List ℕ) (all : List Token) (i : Input) → IsWithin text all i → (ended : Bool) → block.ends_block (front i) ≡ ended
        → IsSafe text all (if ended then Ok (count, i) else block.block_length_from n (count + 1) (next i))
    by rest text all i within true is = within
    by rest text all i within false is =
        let more : front i ≢ form.End = λ (end : front i ≡ form.End). (let same = ap block.ends_block end in cc) in
        rest.safe text all (next i) (goes_on text all i within more)

-- the tokens inside a block
block_length_safe : Safe block.block_length
unfolding block.block_length
block_length_safe = record { safe = λ text all i within. (block_length_from_safe (length i.tokens) 0).safe text all i within }

-- a block that is passed over
specify_block_safe : Safe block.specify_block
unfolding block.specify_block
specify_block_safe = map_safe _ (pair_safe (word_safe (codes "specify")) (pair_safe block_length_safe (skip_word_safe (codes "endspecify"))))

-- ---- modules

-- blocks or instances
blocks_safe : Safe modules.blocks
unfolding modules.blocks
blocks_safe = choice_safe _ (map_safe _ specify_block_safe) (map_safe _ instance_safe)

-- cells or what comes later
cells_safe : Safe modules.cells
unfolding modules.cells
cells_safe = choice_safe _ (map_safe _ cell_safe) blocks_safe

-- pull gates or what comes later
pulls_safe : Safe modules.pulls
unfolding modules.pulls
pulls_safe = choice_safe _ (map_safe _ pull_item_safe) cells_safe

-- pass gates or what comes later
trans_safe : Safe modules.trans
unfolding modules.trans
trans_safe = choice_safe _ (map_safe _ tran_item_safe) pulls_safe

-- switches or what comes later
switches_safe : Safe modules.switches
unfolding modules.switches
switches_safe = choice_safe _ (map_safe _ switch_item_safe) trans_safe

-- logic gates or what comes later
gates_safe : Safe modules.gates
unfolding modules.gates
gates_safe = choice_safe _ (map_safe _ logic_item_safe) switches_safe

-- assignments, gates or instances
assigns_safe : Safe modules.assigns
unfolding modules.assigns
assigns_safe = choice_safe _ (map_safe _ assign_item_safe) gates_safe

-- trireg nets or what comes later
triregs_safe : Safe modules.triregs
unfolding modules.triregs
triregs_safe = choice_safe _ (map_safe _ trireg_decl_safe) assigns_safe

-- nets or what comes later
nets_safe : Safe modules.nets
unfolding modules.nets
nets_safe = choice_safe _ (map_safe _ net_decl_safe) triregs_safe

-- an item of a module
module_item_safe : Safe modules.module_item
unfolding modules.module_item
module_item_safe = choice_safe _ (map_safe _ port_decl_safe) nets_safe

-- `dir [ nettype ] [ range ] Name`
ansi_port_safe : Safe modules.ansi_port
unfolding modules.ansi_port
ansi_port_safe = map_safe _ (pair_safe (token_safe words.direction_in refl) (pair_safe (optional_safe _ net_type_safe) (pair_safe (optional_safe _ range_safe) name_safe)))

-- a port, or a name alone
ansi_entry_safe : Safe modules.ansi_entry
unfolding modules.ansi_entry
ansi_entry_safe = choice_safe _ (map_safe _ name_safe) (map_safe _ ansi_port_safe)

-- `( )`
empty_ports_safe : Safe modules.empty_ports
unfolding modules.empty_ports
empty_ports_safe = map_safe _ (pair_safe (skip_safe 40) (skip_safe 41))

-- `( Name , .. )`
named_ports_safe : Safe modules.named_ports
unfolding modules.named_ports
named_ports_safe = map_safe _ (pair_safe (skip_safe 40) (pair_safe (comma_list_safe name_safe) (skip_safe 41)))

-- `( port , .. )`
ansi_ports_safe : Safe modules.ansi_ports
unfolding modules.ansi_ports
ansi_ports_safe = map_safe _ (pair_safe (skip_safe 40) (pair_safe ansi_port_safe (pair_safe (commas_safe ansi_entry_safe []) (skip_safe 41))))

-- the ports of a header, in parentheses
ports_within_safe : Safe modules.ports_within
unfolding modules.ports_within
ports_within_safe = choice_safe _ empty_ports_safe (choice_safe _ named_ports_safe ansi_ports_safe)

-- the ports of a header
header_ports_safe : Safe modules.header_ports
unfolding modules.header_ports
header_ports_safe = choice_safe _ ports_within_safe (pure_safe _)

-- `module Name [ ports ] ; { item } endmodule`
module_at_safe : Safe modules.module_at
unfolding modules.module_at
module_at_safe = map_safe _ (pair_safe (token_safe words.opening_in refl)
    (pair_safe name_safe (pair_safe header_ports_safe (pair_safe (skip_safe 59) (pair_safe (many_safe _ module_item_safe) (skip_word_safe (codes "endmodule")))))))

-- ---- primitives

-- a symbol
skip_symbol_safe : (byte : ℕ) → Safe (input.skip_symbol byte)
unfolding input.skip_symbol
skip_symbol_safe byte = map_safe _ (token_safe (λ f. where_true (input.is_symbol byte f)) refl)

-- a value
base_safe : Safe udp.base
unfolding udp.base
base_safe = map_safe _ (token_safe udp.base_in refl)

-- a field of one symbol
single_safe : Safe udp.single
unfolding udp.single
single_safe = map_safe _ (token_safe udp.sym_in refl)

-- `( base base )`
edge_safe : Safe udp.edge
unfolding udp.edge
edge_safe = map_safe _ (pair_safe (skip_symbol_safe 40) (pair_safe base_safe (pair_safe base_safe (skip_symbol_safe 41))))

-- a field
field_safe : Safe udp.field
unfolding udp.field
field_safe = choice_safe _ edge_safe single_safe

-- `: field`
output_safe : Safe udp.output
unfolding udp.output
output_safe = map_safe _ (pair_safe (skip_symbol_safe 58) field_safe)

-- `[ field : ] field`
outcome_safe : Safe udp.outcome
unfolding udp.outcome
outcome_safe = map_safe _ (pair_safe field_safe (optional_safe _ output_safe))

-- `field .. : [ field : ] field ;`
row_safe : Safe udp.row
unfolding udp.row
row_safe = map_safe _ (pair_safe (some_safe _ field_safe) (pair_safe (skip_symbol_safe 58) (pair_safe outcome_safe (skip_symbol_safe 59))))

-- a row, with its location
placed_row_safe : Safe udp.placed_row
unfolding udp.placed_row
placed_row_safe = map_safe _ (pair_safe here_safe row_safe)

-- whether a word is there
flag_safe : (bytes : List ℕ) → Safe (udp.flag bytes)
unfolding udp.flag
flag_safe bytes = map_safe _ (optional_safe _ (skip_word_safe bytes))

-- a literal
lit_safe : Safe udp.lit
unfolding udp.lit
lit_safe = choice_safe _ (map_safe _ placed_number_safe) (map_safe _ placed_based_safe)

-- `= lit`
start_safe : Safe udp.start
unfolding udp.start
start_safe = map_safe _ (pair_safe (skip_safe 61) lit_safe)

-- `[ input ] Name`
udp_input_safe : Safe udp.udp_input
unfolding udp.udp_input
udp_input_safe = map_safe _ (pair_safe (flag_safe (codes "input")) name_safe)

-- `( Name , .. )`
named_header_safe : Safe udp.named_header
unfolding udp.named_header
named_header_safe = map_safe _ (pair_safe (skip_safe 40) (pair_safe (comma_list_safe name_safe) (skip_safe 41)))

-- a header that begins with its output
declared_header_safe : Safe udp.declared_header
unfolding udp.declared_header
declared_header_safe = map_safe _ (pair_safe (skip_safe 40) (pair_safe (skip_word_safe (codes "output")) (pair_safe (flag_safe (codes "reg"))
    (pair_safe name_safe (pair_safe (optional_safe _ start_safe) (pair_safe (commas_safe udp_input_safe []) (skip_safe 41)))))))

-- the ports in parentheses
header_safe : Safe udp.header
unfolding udp.header
header_safe = choice_safe _ declared_header_safe named_header_safe

-- `output [ reg ] Name [ = lit ] ;`
output_item_safe : Safe udp.output_item
unfolding udp.output_item
output_item_safe = map_safe _ (pair_safe (word_safe (codes "output")) (pair_safe (flag_safe (codes "reg")) (pair_safe name_safe (pair_safe (optional_safe _ start_safe) (skip_safe 59)))))

-- `input Name , .. ;`
input_item_safe : Safe udp.input_item
unfolding udp.input_item
input_item_safe = map_safe _ (pair_safe (word_safe (codes "input")) (pair_safe (comma_list_safe name_safe) (skip_safe 59)))

-- `reg Name ;`
reg_item_safe : Safe udp.reg_item
unfolding udp.reg_item
reg_item_safe = map_safe _ (pair_safe (word_safe (codes "reg")) (pair_safe name_safe (skip_safe 59)))

-- an input or a register
other_item_safe : Safe udp.other_item
unfolding udp.other_item
other_item_safe = choice_safe _ input_item_safe reg_item_safe

-- a declaration
udp_item_safe : Safe udp.udp_item
unfolding udp.udp_item
udp_item_safe = choice_safe _ output_item_safe other_item_safe

-- `initial Name = lit ;`
initial_safe : Safe udp.initial
unfolding udp.initial
initial_safe = map_safe _ (pair_safe (word_safe (codes "initial")) (pair_safe name_safe (pair_safe (skip_safe 61) (pair_safe lit_safe (skip_safe 59)))))

-- `table { row } endtable`
table_safe : Safe udp.table
unfolding udp.table
table_safe = map_safe _ (pair_safe (skip_word_safe (codes "table")) (pair_safe (many_safe _ placed_row_safe) (skip_word_safe (codes "endtable"))))

-- `endprimitive`
ending_safe : Safe udp.ending
unfolding udp.ending
ending_safe = skip_word_safe (codes "endprimitive")

-- what stands behind the header
body_safe : Safe udp.body
unfolding udp.body
body_safe = map_safe _ (pair_safe (many_safe _ udp_item_safe) (pair_safe (optional_safe _ initial_safe) (pair_safe table_safe ending_safe)))

-- a primitive
udp_safe : Safe udp.udp
unfolding udp.udp
udp_safe = map_safe _ (pair_safe (word_safe (codes "primitive")) (pair_safe name_safe (pair_safe header_safe (pair_safe (skip_safe 59) body_safe))))

-- a module, a primitive or a directive
description_safe : Safe all_of.description
unfolding all_of.description all_of.others
description_safe = choice_safe _ (map_safe _ udp_safe) (choice_safe _ (map_safe _ directive_safe) (map_safe _ module_at_safe))

-- ---- the end of the text

-- what is refused is a token of the list
abbrev IsRefused : {A : Type 0} → List ℕ → List Token → Outcome A → Type 0
IsRefused text all (Ok p) = Unit {0}
IsRefused text all (Err e) = Refuses text all e

-- what is read, seen by a function, is refused as it is
refused_map : {A B : Type 0} (text : List ℕ) (all : List Token) (outcome : Outcome A) (make : A → B) → IsRefused text all outcome → IsRefused text all (and_then outcome (λ x. pure (make x)))
refused_map text all (Ok p) make is = tt
refused_map text all (Err e) make is = is

-- what follows an outcome is refused as a token of the list
refused_then : {A B : Type 0} (text : List ℕ) (all : List Token) (outcome : Outcome A) (f : A → Reader B) → IsSafe text all outcome → ((x : A) (j : Input) → IsWithin text all j → IsRefused text all (f x j))
    → IsRefused text all (and_then outcome f)
refused_then text all (Ok p) f is others = others p.0 p.1 is
refused_then text all (Err e) f is others = is

-- a token is refused as one of the list
token_refused : {A : Type 0} (text : List ℕ) (all : List Token) (i : Input) (o : Option A) → IsWithin text all i → IsRefused text all (token_by o i)
token_refused text all i None within = refused text all i within
token_refused text all i (Some x) within = tt

-- where the text doesn't end a token of the list is refused
finish_refused : (text : List ℕ) (all : List Token) (i : Input) → IsWithin text all i → IsRefused text all (input.finish i)
unfolding input.finish
finish_refused text all i within = refused_map text all (token (λ f. where_true (is_finish f)) i) (λ p. p.0) (token_refused text all i (where_true (is_finish (front i))) within)

-- where descriptions are refused it is at a token of the list
descriptions_refused : (text : List ℕ) (all : List Token) (i : Input) → IsWithin text all i → IsRefused text all (all_of.descriptions i)
unfolding all_of.descriptions
descriptions_refused text all i within =
    refused_map text all ((many is_finish all_of.description & input.finish) i) (λ z. z.0)
    (refused_then text all (many is_finish all_of.description i) (λ x. (λ y. (x, y)) <$> input.finish) ((many_safe is_finish description_safe).safe text all i within)
    (λ x j is. refused_map text all (input.finish j) (λ y. (x, y)) (finish_refused text all j is)))

-- an outcome that is an error is refused
refused_err : {A : Type 0} (text : List ℕ) (all : List Token) (outcome : Outcome A) (e : ParseFault) → outcome ≡ Err e → IsRefused text all outcome → Refuses text all e
refused_err {A} text all outcome e is refused = subst (λ (o : Outcome A). IsRefused text all o) is refused

-- all tokens of a text are within the list
all_within : (text : List ℕ) (tokens : List Token) → AreTokensOf text tokens → IsWithin text tokens (whole text tokens)
all_within text tokens are = record { same = refl; left = refl; ended = ended_of text tokens (are_sound text tokens are) }

-- where the tokens of a text are refused it is at one of them
pub refuses_of : (text : List ℕ) (tokens : List Token) (e : ParseFault) → AreTokensOf text tokens → descriptions_of text tokens ≡ Err e → Refuses text tokens e
refuses_of text tokens e are is = refused_err text tokens (descriptions_of text tokens) e is (descriptions_refused text tokens (whole text tokens) (all_within text tokens are))
