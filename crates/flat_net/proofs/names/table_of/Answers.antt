use Rattle.std.proofs.Common.{◌≡◌, ◌<◌, true, map, take, ℕ, length, List, Some, sym, ap, ◌∙◌, arith}
use Rattle.std.specs.Prelude.{slice_get}
use Rattle.std.specs.Option.{option_map}
use Rattle.std.proofs.lemmas.List.{take-map}
use Rattle.std.proofs.lemmas.Option.{slice_get-map, slice_get-get_or}
use Rattle.name_table.specs.Names.{is_among}
use Rattle.flat_net.proofs.NameLemmas.{repeated, true_from_not}
use Rattle.flat_net.proofs.names.table_of.Goals as goal

pub returns-then-not-branch-clause-distinct : goal.returns-then-not-branch-clause-distinct
returns-then-not-branch-clause-distinct g c =
    let name = g.N.Named.name in
    let items = c.args.named.now in
    let i = c.loop-item.item-index in
    let within : i < length items = omega arith in
    let at : slice_get (map name items) i ≡ Some (name c.item-item.result)
    = slice_get-map name items i ∙ ap (λ o. option_map name o) (slice_get-get_or items i c.item-item.result within ∙ ap (λ x. Some x) (sym c.item-item.is)) in
    let among : is_among (name c.item-item.result) (take i (map name items)) ≡ true
    = ap (λ (xs : List (List ℕ)). is_among (name c.item-item.result) xs) (take-map name i items ∙ sym c.loop-item.invariant.names)
    ∙ ap (λ (n : List ℕ). is_among n c.loop-item.table) (sym c.name_bytes.ensures)
    ∙ true_from_not _ (sym c.in_ok-add.ensures.new ∙ c.if-not-branch.true) in
    sym (repeated (map name items) i (name c.item-item.result) at among)
