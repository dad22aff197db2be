use Rattle.std.proofs.Common.{◌≡◌, ◌++◌, ◌∷◌, [], ap, ◌∙◌, Some, None, List, ℕ, length}
use Rattle.std.proofs.lemmas.Bool.{not_from_false}
use Rattle.name_table.specs.Names.{is_among, index_of}
use Rattle.module_scope.specs.declared.mentions.Occurrence.{Occurrence}
use Rattle.module_scope.specs.Mentions.{Mention, mention}
use Rattle.module_scope.specs.Occurrences.{occurrence, mentions_at, AreOccurrences}
use Rattle.module_scope.proofs.Naming.{either_way, either_way_both, on_ok, on_ok_both, index_absent, mentions_at-again, mentions_at-first, AreOccurrences-again, AreOccurrences-first}
use Rattle.module_scope.proofs.mentions.MentionList.push.Goals as goal

pub invariant_of-self : goal.invariant_of-self
invariant_of-self c =
    let found : index_of c.args.name.now.text c.self.inside.names ≡ Some c.in-Some.index = cc (c.in-Some.ensures) in
    either_way (λ (os : List Occurrence). AreOccurrences c.self.inside.names os) c.push_again.result c.push_again.new.occurrences.items (c.self.inside.occurrences.items ++ occurrence c.in-Some.index c.args.name.now c.args.role ∷ []) c.self.inside.occurrences.items c.push_again.ensures.ok c.push_again.ensures.err
    (AreOccurrences-again c.self.inside.names c.self.inside.occurrences.items c.args.role c.args.name.now c.self.invariant c.in-Some.index found) c.self.invariant

pub push_first-requires : goal.push_first-requires
push_first-requires c =
    let absent : index_of c.args.name.now.text c.self.inside.names ≡ None = cc (c.in-None.ensures) in
    not_from_false (is_among c.args.name.now.text c.self.inside.names) (index_absent c.args.name.now.text c.self.inside.names absent)

pub invariant_of-self-in-None : goal.invariant_of-self-in-None
invariant_of-self-in-None c =
    let absent : index_of c.args.name.now.text c.self.inside.names ≡ None = cc (c.in-None.ensures) in
    either_way_both (λ (ns : List (List ℕ)) (os : List Occurrence). AreOccurrences ns os) c.push_first.result
    c.push_first.new.names (c.self.inside.names ++ c.args.name.now.text ∷ []) c.self.inside.names
    c.push_first.new.occurrences.items (c.self.inside.occurrences.items ++ occurrence (length c.self.inside.names) c.args.name.now c.args.role ∷ []) c.self.inside.occurrences.items
    c.push_first.ensures.names c.push_first.ensures.same_names c.push_first.ensures.occurrences c.push_first.ensures.same_occurrences
    (AreOccurrences-first c.self.inside.names c.self.inside.occurrences.items c.args.role c.args.name.now c.self.invariant (index_absent c.args.name.now.text c.self.inside.names absent))
    c.self.invariant

pub returns-in-Some : goal.returns-in-Some
returns-in-Some c =
    let found : index_of c.args.name.now.text c.self.inside.names ≡ Some c.in-Some.index = cc (c.in-Some.ensures) in
    on_ok c.push_again.result c.push_again.new.occurrences.items (c.self.inside.occurrences.items ++ occurrence c.in-Some.index c.args.name.now c.args.role ∷ [])
    (mentions_at c.self.inside.names c.push_again.new.occurrences.items ≡ c.args.self.now ++ mention c.args.role c.args.name.now ∷ [])
    c.push_again.ensures.ok
    (λ e. ap (mentions_at c.self.inside.names) e
    ∙ mentions_at-again c.self.inside.names c.self.inside.occurrences.items c.args.role c.args.name.now c.in-Some.index found
    ∙ ap (λ (ms : List Mention). ms ++ mention c.args.role c.args.name.now ∷ []) c.self.view_is)

pub returns-in-None : goal.returns-in-None
returns-in-None c =
    on_ok_both c.push_first.result
    c.push_first.new.names (c.self.inside.names ++ c.args.name.now.text ∷ [])
    c.push_first.new.occurrences.items (c.self.inside.occurrences.items ++ occurrence (length c.self.inside.names) c.args.name.now c.args.role ∷ [])
    (mentions_at c.push_first.new.names c.push_first.new.occurrences.items ≡ c.args.self.now ++ mention c.args.role c.args.name.now ∷ [])
    c.push_first.ensures.names c.push_first.ensures.occurrences
    (λ e f. ap (λ (ns : List (List ℕ)). mentions_at ns c.push_first.new.occurrences.items) e
    ∙ ap (mentions_at (c.self.inside.names ++ c.args.name.now.text ∷ [])) f
    ∙ mentions_at-first c.self.inside.names c.self.inside.occurrences.items c.args.role c.args.name.now c.self.invariant.within
    ∙ ap (λ (ms : List Mention). ms ++ mention c.args.role c.args.name.now ∷ []) c.self.view_is)
