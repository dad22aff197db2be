use Rattle.std.proofs.Common.{◌≡◌, ◌++◌, Bool, true, false, List, [], ◌∷◌, map, take, get_or, refl, ap, sym, ◌∙◌, arith}
use Rattle.std.specs.Prelude.{if◌then◌else◌}
use Rattle.std.specs.List.{items_where_true}
use Rattle.udp_table.specs.Primitive.{Primitive}
use Rattle.v_tree.specs.declared.primitives.UdpDecl.{UdpDecl}
use Rattle.primitive_rules.specs.Arguments.{arguments_of, primitive_of}
use Rattle.reached_parts.proofs.PickLaws.{map-append, picked-more}
use Rattle.reached_parts.proofs.primitives.reached_primitives.Goals as goal

pub loop-i-preserved : goal.loop-i-preserved
loop-i-preserved c =
    let flag : Bool = get_or c.args.reached.now c.loop-i.i false in
    let made : UdpDecl → Primitive = λ u. primitive_of (arguments_of u) in
    let before : List UdpDecl = items_where_true (take c.loop-i.i c.args.reached.now) (take c.loop-i.i c.args.udps.now) in
    let here : List UdpDecl = if flag then c.index-udps-i.result ∷ [] else [] in
    c.in_ok-push_if.ensures
    ∙ ap (λ (list : List Primitive). list ++ (if flag then made c.index-udps-i.result ∷ [] else [])) c.loop-i.invariant
    ∙ ap (λ (list : List Primitive). map made before ++ list) (by_flag flag)
    ∙ sym (map-append made before here)
    ∙ ap (map made) (sym (picked-more c.args.reached.now c.args.udps.now c.loop-i.i false flag c.index-udps-i.result
    (omega (arith, c.loop-i-test.true, c.requires)) (omega (arith, c.loop-i-test.true)) refl c.index-udps-i.is))
  where
    by_flag : (b : Bool) → (if b then primitive_of (arguments_of c.index-udps-i.result) ∷ [] else []) ≡ map (λ u. primitive_of (arguments_of u)) (if b then c.index-udps-i.result ∷ [] else [])
    by_flag true = refl
    by_flag false = refl
