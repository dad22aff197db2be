use Rattle.std.proofs.Common.{◌≡◌, true, false, List, ℕ, ◌∷◌, [], ◌++◌, sym, ap, subst, ◌∙◌}
use Rattle.std.proofs.lemmas.Bool.{not_from_true, not_from_false}
use Rattle.name_table.specs.Names.{is_among, is_distinct}
use Rattle.name_table.proofs.Found.{bytes_of, is_among-bytes_of, is_distinct-push, bytes_of-insert_key}
use Rattle.name_table.proofs.NameTable.add.Goals as goal

pub returns-then-contains-clause-new : goal.returns-then-contains-clause-new
returns-then-contains-clause-new c =
    sym (not_from_true _ (ap (is_among c.args.name.now) (sym c.self.view_is) ∙ is_among-bytes_of c.args.name.now c.self.inside.names.keys ∙ sym c.contains.ensures ∙ c.if-contains.true))

absent : (c : goal.In_ok-insert) → is_among c.args.name.now (bytes_of c.self.inside.names.keys) ≡ false
absent c = is_among-bytes_of c.args.name.now c.self.inside.names.keys ∙ sym c.contains.ensures ∙ c.if-contains.false

pushed : (c : goal.In_ok-insert) → bytes_of c.insert.new.self.keys ≡ bytes_of c.self.inside.names.keys ++ c.args.name.now ∷ []
pushed c = ap bytes_of c.in_ok-insert.ensures.keys ∙ bytes_of-insert_key c.args.name.now c.in_ok-owned.owned c.self.inside.names.keys c.in_ok-owned.ensures.items (absent c)

pub invariant_of-self-2 : goal.invariant_of-self-2
invariant_of-self-2 c =
    subst (λ (names : List (List ℕ)). is_distinct names ≡ true) (sym (pushed c)) (is_distinct-push (bytes_of c.self.inside.names.keys) c.args.name.now c.self.invariant (absent c))

pub returns-clause-new : goal.returns-clause-new
returns-clause-new c = sym (not_from_false _ (ap (is_among c.args.name.now) (sym c.self.view_is) ∙ absent c))

pub returns-clause-names : goal.returns-clause-names
returns-clause-names c = pushed c ∙ ap (λ (names : List (List ℕ)). names ++ c.args.name.now ∷ []) c.self.view_is
