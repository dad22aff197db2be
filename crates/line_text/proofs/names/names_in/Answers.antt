use Rattle.std.proofs.Common.{◌≡◌, ◌∙◌, [], ◌∷◌, ◌++◌, get_or, sym, ap}
use Rattle.std.proofs.lemmas.List.{append-nil}
use Rattle.line_text.specs.Names.{last_names, names_of}
use Rattle.line_text.proofs.NameLemmas.{front_onto, names_start, names_step, names_end, between_step, last_plain, last_whole}
use Rattle.line_text.proofs.names.names_in.Goals as goal
use Rattle.line_text.proofs.names.names_in.Goals.{in-Escaped+in_ok-push-in-Escaped, in-Begun}

pub loop-byte-init : goal.loop-byte-init
loop-byte-init c = record {
  so_far = rw (c.new-names.ensures.items, c.new-name.ensures.items) (names_start c.args.line.now);
  between = λ h. c.new-name.ensures.items;
}

pub loop-byte-preserved : goal.loop-byte-preserved
loop-byte-preserved c =
    let byte = get_or c.args.line.now c.loop-byte.byte-index 0 in
    record {
      so_far = names_step c.step_at-step.result c.loop-byte.place c.loop-byte.byte-index c.args.line.now c.loop-byte.name.items c.take_step.new.name.items c.loop-byte.names.items c.take_step.new.names.items
          (names_of c.args.line.now) c.loop-byte-test.true c.step_at-step.ensures c.in_ok-take_step.ensures.names c.in_ok-take_step.ensures.name c.loop-byte.invariant.so_far;
      between = λ h. c.in_ok-take_step.ensures.name ∙ between_step c.step_at-step.result c.loop-byte.place byte c.loop-byte.name.items c.step_at-step.ensures c.loop-byte.invariant.between h;
    }

-- the names with the rest of the present one, at the end of the line
all_names : (c : goal.After-from_vec-3) → c.loop-byte.names.items ++ front_onto c.loop-byte.name.items (last_names c.loop-byte.place) ≡ names_of c.args.line.now
all_names c = names_end c.loop-byte.place c.loop-byte.byte-index c.args.line.now c.loop-byte.name.items c.loop-byte.names.items (names_of c.args.line.now) c.loop-byte-test.false c.loop-byte.invariant.so_far

pub returns : goal.returns
returns c =
    c.from_vec-3.ensures ∙ c.in_ok-push.ensures.items
    ∙ elim c.match-place.branch [
      | in-Escaped+in_ok-push-in-Escaped w ↦ (let same : c.match-place.name.items ≡ c.loop-byte.name.items ++ 32 ∷ [] = cc w.in_ok-push-in-Escaped.ensures.items in
          last_whole c.loop-byte.place c.loop-byte.name.items (32 ∷ []) c.from_vec-2.result c.loop-byte.names.items (names_of c.args.line.now) (ap last_names w.in-Escaped.is) (c.from_vec-2.ensures ∙ same) (all_names c))
      | in-Begun w ↦ (let same : c.match-place.name.items ≡ c.loop-byte.name.items = cc in
          last_whole c.loop-byte.place c.loop-byte.name.items [] c.from_vec-2.result c.loop-byte.names.items (names_of c.args.line.now) (last_plain c.loop-byte.place w.in-Begun.is) (c.from_vec-2.ensures ∙ same ∙ sym (append-nil c.loop-byte.name.items)) (all_names c))
    ]
