use Rattle.std.proofs.Common.{◌≡◌, ℕ, ◌+◌, ◌++◌, Bool, false, List, [], ◌∷◌, get_or, map, refl, sym, ap, ◌∙◌}
use Rattle.std.specs.Prelude.{if◌then◌else◌}
use Rattle.std.specs.List.{range_with_len}
use Rattle.netlist_meaning.specs.Plans.{number_among}
use Rattle.hierarchy_plans.proofs.NumberLaws.{number-more, range-more}
use Rattle.hierarchy_plans.proofs.numbers.primitive_numbers.Goals as goal

pub loop-is_reached-preserved : goal.loop-is_reached-preserved
loop-is_reached-preserved c =
    let reached = c.args.reached.now in
    let i = c.loop-is_reached.is_reached-index in
    let flag : Bool = get_or reached i false in (
      c.in_ok-push.ensures.items
          ∙ ap (λ (list : List ℕ). list ++ c.loop-is_reached.next ∷ []) c.loop-is_reached.invariant.0
          ∙ ap (λ (n : ℕ). map (number_among reached) (range_with_len 0 i) ++ n ∷ []) c.loop-is_reached.invariant.1
          ∙ sym (range-more (number_among reached) i),
      c.in_ok-next.ensures
          ∙ ap (λ (n : ℕ). if flag then n + 1 else n) c.loop-is_reached.invariant.1
          ∙ sym (number-more reached i false flag c.loop-is_reached-test.true refl),
    )
