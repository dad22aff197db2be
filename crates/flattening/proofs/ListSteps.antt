-- Steps of loops over lists.
use Rattle.std.proofs.Common.{◌≡◌, ℕ, ◌+◌, ◌<◌, ◌≤◌, min, List, [], ◌∷◌, ◌++◌, length, get_or, take, drop, Option, Some, None, sym, ap, ◌∙◌, append_assoc, arith}
use Rattle.std.specs.List.{zip}
use Rattle.std.proofs.lemmas.List.{append-nil, at_drop_more, at_drop_all, take_all, take_more}
use Rattle.std.proofs.lemmas.Slice.Zip.{get_or-zip, length-zip}
use Rattle.item_parts.specs.Widths.{range_width}
use Rattle.netlist_plan.specs.declared.plan.PlanNet.{PlanNet}
use Rattle.netlist_plan.specs.Flattening.{bit_count}
use Rattle.flattening.specs.Slots.{slot_numbers}

-- ---- pairs of what stands at the same index

module _ (xs ys : List ℕ) (i : ℕ) (start seen : List (ℕ × ℕ)) (is : seen ≡ start ++ take i (zip xs ys)) where
  pub pairs_more : (x y : ℕ) (more : List (ℕ × ℕ)) → i < min (length xs) (length ys) → x ≡ get_or xs i 0 → y ≡ get_or ys i 0
      → more ≡ seen ++ (x, y) ∷ [] → more ≡ start ++ take (i + 1) (zip xs ys)
  pairs_more x y more lt first second one =
      let pair : get_or (zip xs ys) i (0, 0) ≡ (x, y) =
      get_or-zip xs ys i (0, 0) (omega arith) (omega arith)
      ∙ ap (λ (a : ℕ). (a, get_or ys i 0)) (sym first)
      ∙ ap (λ (b : ℕ). (x, b)) (sym second) in
      let next : take (i + 1) (zip xs ys) ≡ take i (zip xs ys) ++ (x, y) ∷ [] =
      take_more (zip xs ys) i (0, 0) (omega (arith, length-zip xs ys))
      ∙ ap (λ (p : ℕ × ℕ). take i (zip xs ys) ++ p ∷ []) pair in
      one
      ∙ ap (λ (ps : List (ℕ × ℕ)). ps ++ (x, y) ∷ []) is
      ∙ append_assoc start (take i (zip xs ys)) ((x, y) ∷ [])
      ∙ ap (λ (ps : List (ℕ × ℕ)). start ++ ps) (sym next)

  pub pairs_all : min (length xs) (length ys) ≤ i → seen ≡ start ++ zip xs ys
  pairs_all le = is ∙ ap (λ (ps : List (ℕ × ℕ)). start ++ ps) (take_all i (zip xs ys) (omega (arith, length-zip xs ys)))

-- ---- bits of nets

module _ (nets : List PlanNet) (i count whole : ℕ) (is : count + bit_count (drop i nets) ≡ whole) where
  pub count_more : (net : PlanNet) (width : ℕ) → i < length nets → net ≡ get_or nets i net → width ≡ range_width net.range → (count + width) + bit_count (drop (i + 1) nets) ≡ whole
  count_more net width lt at wide =
      let here : bit_count (drop i nets) ≡ range_width net.range + bit_count (drop (i + 1) nets) =
      at_drop_more bit_count nets i net lt ∙ ap (λ (n : PlanNet). range_width n.range + bit_count (drop (i + 1) nets)) (sym at) in
      omega arith

  pub count_all : length nets ≤ i → count ≡ whole
  count_all le = let none : bit_count (drop i nets) ≡ 0 = at_drop_all bit_count nets i le in omega arith

-- ---- numbers of slots

module _ (slots : List (Option ℕ)) (i next : ℕ) (seen whole : List ℕ) (is : seen ++ slot_numbers next (drop i slots) ≡ whole) where
  slots_here : (slot : Option ℕ) → i < length slots → slot ≡ get_or slots i slot → slot_numbers next (drop i slots) ≡ slot_numbers next (slot ∷ drop (i + 1) slots)
  slots_here slot lt at = at_drop_more (slot_numbers next) slots i slot lt ∙ ap (λ (s : Option ℕ). slot_numbers next (s ∷ drop (i + 1) slots)) (sym at)

  pub numbers_fresh : (slot : Option ℕ) (more : List ℕ) → i < length slots → slot ≡ get_or slots i slot → slot ≡ None → more ≡ seen ++ next ∷ []
      → more ++ slot_numbers (next + 1) (drop (i + 1) slots) ≡ whole
  numbers_fresh slot more lt at none one =
      ap (λ (ns : List ℕ). ns ++ slot_numbers (next + 1) (drop (i + 1) slots)) one
      ∙ append_assoc seen (next ∷ []) (slot_numbers (next + 1) (drop (i + 1) slots))
      ∙ sym (ap (λ (ns : List ℕ). seen ++ ns) (slots_here slot lt at ∙ ap (λ (s : Option ℕ). slot_numbers next (s ∷ drop (i + 1) slots)) none))
      ∙ is

  pub numbers_given : (slot : Option ℕ) (number : ℕ) (more : List ℕ) → i < length slots → slot ≡ get_or slots i slot → slot ≡ Some number → more ≡ seen ++ number ∷ []
      → more ++ slot_numbers next (drop (i + 1) slots) ≡ whole
  numbers_given slot number more lt at some one =
      ap (λ (ns : List ℕ). ns ++ slot_numbers next (drop (i + 1) slots)) one
      ∙ append_assoc seen (number ∷ []) (slot_numbers next (drop (i + 1) slots))
      ∙ sym (ap (λ (ns : List ℕ). seen ++ ns) (slots_here slot lt at ∙ ap (λ (s : Option ℕ). slot_numbers next (s ∷ drop (i + 1) slots)) some))
      ∙ is

  pub numbers_all : length slots ≤ i → seen ≡ whole
  numbers_all le = sym (append-nil seen) ∙ sym (ap (λ (ns : List ℕ). seen ++ ns) (at_drop_all (slot_numbers next) slots i le)) ∙ is
