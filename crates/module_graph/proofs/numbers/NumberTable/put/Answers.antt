use Rattle.std.proofs.Common.{◌≡◌, ◌+◌, ◌++◌, ◌∷◌, [], List, ℕ, length, length-append, ap, sym, ◌∙◌, arith}
use Rattle.name_table.specs.Names.{index_of}
use Rattle.module_graph.specs.Numbers.{number_at}
use Rattle.module_graph.proofs.NumberLaws.{index_of_at, added_name, least_lowered, least_new}
use Rattle.module_graph.proofs.numbers.NumberTable.put.Goals as goal

pub lower-requires : goal.lower-requires
lower-requires c = omega (arith, (index_of_at c.args.name.now c.args.self.now.names c.in-Some.index (sym c.find.ensures ∙ c.in-Some.is)).0)

pub returns-in-Some-clause-numbers : goal.returns-in-Some-clause-numbers
returns-in-Some-clause-numbers c other =
    ap (λ (numbers : List ℕ). number_at numbers (index_of other c.args.self.now.names)) c.lower.ensures
    ∙ least_lowered c.args.self.now.names c.args.self.now.numbers c.requires c.args.name.now c.args.number other c.in-Some.index (sym c.find.ensures ∙ c.in-Some.is)

names_after : (c : goal.In_ok-push-in-None) → c.add.new.self ≡ c.args.self.now.names ++ c.args.name.now ∷ []
names_after c = added_name c.args.name.now c.args.self.now.names c.add.new.self c.in_ok-add-in-None.field-0 (sym c.find.ensures ∙ c.in-None.is)
    c.in_ok-add-in-None.ensures.new c.in_ok-add-in-None.ensures.names

pub returns-in_ok-push-in-None-clause-whole : goal.returns-in_ok-push-in-None-clause-whole
returns-in_ok-push-in-None-clause-whole c =
    ap length c.in_ok-push-in-None.ensures.ok ∙ length-append c.args.self.now.numbers (c.args.number ∷ [])
    ∙ ap (λ (n : ℕ). n + 1) c.requires
    ∙ sym (ap length (names_after c) ∙ length-append c.args.self.now.names (c.args.name.now ∷ []))

pub returns-in_ok-push-in-None-clause-numbers : goal.returns-in_ok-push-in-None-clause-numbers
returns-in_ok-push-in-None-clause-numbers c other =
    ap (λ (names : List (List ℕ)). number_at c.push.new.self (index_of other names)) (names_after c)
    ∙ ap (λ (numbers : List ℕ). number_at numbers (index_of other (c.args.self.now.names ++ c.args.name.now ∷ []))) c.in_ok-push-in-None.ensures.ok
    ∙ least_new c.args.self.now.names c.args.self.now.numbers c.requires c.args.name.now c.args.number other (sym c.find.ensures ∙ c.in-None.is)
