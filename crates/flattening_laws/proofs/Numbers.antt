-- The numbers of a module's bits in an instance, and how many nets an instance adds by itself.
use Rattle.std.proofs.Common.{◌≡◌, ℕ, zero, suc, ◌+◌, ◌<◌, ◌≤◌, Bool, true, false, List, [], ◌∷◌, ◌++◌, length, map, Option, Some, None, refl, sym, ap, ◌∙◌, arith}
use Rattle.std.specs.Prelude.{slice_index_or, nat_eq, if◌then◌else◌}
use Rattle.std.specs.Option.{option_map_or}
use Rattle.std.specs.List.{AllByRecursion, flat_map, range_with_len}
use Rattle.item_parts.specs.Widths.{range_width}
use Rattle.flat_names.specs.Spelling.{Own}
use Rattle.netlist_plan.specs.declared.plan.PlanNet.{PlanNet}
use Rattle.netlist_plan.specs.Flattening.{Hierarchy, bit_count, bit_index, flat_name, is_bound, nets_additions, own_name, new_name, new_names, number_outside, numbers_from, place_of, plan_at}
use Rattle.flattening_laws.specs.SoundPlans.{AreInRow}
use Rattle.flattening_laws.proofs.Apart.{each_weaker}

-- ---- lists

pub length_append : {X : Type 0} (xs ys : List X) → length (xs ++ ys) ≡ length xs + length ys
length_append [] ys = omega arith
length_append (x ∷ xs) ys = let rest = length_append xs ys in omega arith

pub length_map : {X Y : Type 0} (f : X → Y) (xs : List X) → length (map f xs) ≡ length xs
length_map f [] = refl
length_map f (x ∷ xs) = ap suc (length_map f xs)

pub length_range : (a n : ℕ) → length (range_with_len a n) ≡ n
length_range a zero = refl
length_range a (suc n) = ap suc (length_range (a + 1) n)

pub range_append : (a m n : ℕ) → range_with_len a (m + n) ≡ range_with_len a m ++ range_with_len (a + m) n
range_append a zero n =
    let none : 0 + n ≡ n = omega arith in
    let from : a ≡ a + 0 = omega arith in
    ap (λ k. range_with_len a k) none ∙ ap (λ k. range_with_len k n) from
range_append a (suc m) n =
    let one_more : suc m + n ≡ suc (m + n) = omega arith in
    let from : a + 1 + m ≡ a + suc m = omega arith in
    ap (λ k. range_with_len a k) one_more
    ∙ ap (λ xs. a ∷ xs) (range_append (a + 1) m n ∙ ap (λ k. range_with_len (a + 1) m ++ range_with_len k n) from)

pub get_mapped_range : {X : Type 0} (g : ℕ → X) (a n k : ℕ) (d : X) → k < n → slice_index_or (map g (range_with_len a n)) k d ≡ g (a + k)
get_mapped_range g a zero k d less = absurd (omega arith)
get_mapped_range g a (suc n) zero d less = ap g (omega arith)
get_mapped_range g a (suc n) (suc k) d less = get_mapped_range g (a + 1) n k d (omega arith) ∙ ap g (omega arith)

-- ---- bits that aren't connected outside

abbrev pub one_if_not : Bool → ℕ
one_if_not true = 0
one_if_not false = 1

abbrev pub unbound : List (ℕ × ℕ) → List ℕ → ℕ
unbound outside [] = 0
unbound outside (bit ∷ bits) = one_if_not (is_bound outside bit) + unbound outside bits

pub unbound_append : (outside : List (ℕ × ℕ)) (xs ys : List ℕ) → unbound outside (xs ++ ys) ≡ unbound outside xs + unbound outside ys
unbound_append outside [] ys = omega arith
unbound_append outside (x ∷ xs) ys = let rest = unbound_append outside xs ys in omega arith

-- ---- numbers

-- each number outside is less than this
abbrev pub AreOutside : ℕ → List (ℕ × ℕ) → Type 0
AreOutside next outside = AllByRecursion (λ (o : ℕ × ℕ). o.1 < next) outside

pub outside_more : (next more : ℕ) (outside : List (ℕ × ℕ)) → next ≤ more → AreOutside next outside → AreOutside more outside
outside_more next more outside le h = each_weaker (λ (o : ℕ × ℕ). o.1 < next) (λ (o : ℕ × ℕ). o.1 < more) outside (λ o less. omega arith) h

number_small : (next : ℕ) (outside : List (ℕ × ℕ)) (bit number : ℕ) → AreOutside next outside → number_outside outside bit ≡ Some number → number < next
number_small next [] bit number h e = absurd (let n : None ≡ Some number = e in cc)
number_small next ((other, there) ∷ rest) bit number h e = by_same (number_small next rest bit number h.1) (nat_eq other bit) e
  where
    by_same : (number_outside rest bit ≡ Some number → number < next) → (b : Bool) → (if b then Some there else number_outside rest bit) ≡ Some number → number < next
    by_same later true f = let same : there ≡ number = cc in let less = h.0 in omega arith
    by_same later false f = later f

numbers_small : (outside : List (ℕ × ℕ)) (next : ℕ) (bits : List ℕ) → AreOutside next outside → AllByRecursion (λ n. n < next + unbound outside bits) (numbers_from outside next bits)
numbers_small outside next [] h = tt
numbers_small outside next (bit ∷ bits) h =
    by_number (numbers_small outside next bits h) (numbers_small outside (next + 1) bits (outside_more next (next + 1) outside (omega arith) h)) (number_outside outside bit) refl
  where
    by_number : AllByRecursion (λ n. n < next + unbound outside bits) (numbers_from outside next bits)
        → AllByRecursion (λ n. n < next + 1 + unbound outside bits) (numbers_from outside (next + 1) bits) → (o : Option ℕ) → number_outside outside bit ≡ o
        → AllByRecursion (λ n. n < next + (one_if_not (option_map_or (λ number. true) o false) + unbound outside bits))
        (option_map_or (λ number. number) o next ∷ numbers_from outside (if option_map_or (λ number. true) o false then next else next + 1) bits)
    by_number same more None e = (omega arith, each_weaker (λ n. n < next + 1 + unbound outside bits) (λ n. n < next + (1 + unbound outside bits)) (numbers_from outside (next + 1) bits) (λ n less. omega arith) more)
    by_number same more (Some number) e =
        let less = number_small next outside bit number h e in
        (omega arith, each_weaker (λ n. n < next + unbound outside bits) (λ n. n < next + (0 + unbound outside bits)) (numbers_from outside next bits) (λ n less. omega arith) same)

numbers_length : (outside : List (ℕ × ℕ)) (next : ℕ) (bits : List ℕ) → length (numbers_from outside next bits) ≡ length bits
numbers_length outside next [] = refl
numbers_length outside next (bit ∷ bits) = ap suc (numbers_length outside (if is_bound outside bit then next else next + 1) bits)

-- ---- the place of an instance

module _ (h : Hierarchy) (master : ℕ) (path : List Own) (outside : List (ℕ × ℕ)) (next : ℕ) where
  pub place_numbers : AreOutside next outside
      → AllByRecursion (λ n. n < next + unbound outside (range_with_len 0 (bit_count (plan_at h master).nets))) (place_of h master path outside next).numbers
  place_numbers o = numbers_small outside next (range_with_len 0 (bit_count (plan_at h master).nets)) o

  pub place_length : length (place_of h master path outside next).numbers ≡ bit_count (plan_at h master).nets
  place_length = numbers_length outside next (range_with_len 0 (bit_count (plan_at h master).nets)) ∙ length_range 0 (bit_count (plan_at h master).nets)

  place_bound : (bit : ℕ) → bit < bit_count (plan_at h master).nets → slice_index_or (place_of h master path outside next).bound bit true ≡ is_bound outside bit
  place_bound bit less = get_mapped_range (is_bound outside) 0 (bit_count (plan_at h master).nets) bit true less ∙ ap (is_bound outside) (omega arith)

  new_count : (net : PlanNet) (from n : ℕ) → net.first + (from + n) ≤ bit_count (plan_at h master).nets
      → length (flat_map (new_name (place_of h master path outside next) net) (range_with_len from n)) ≡ unbound outside (range_with_len (net.first + from) n)
  new_count net from zero fits = refl
  new_count net from (suc n) fits =
      let at = place_of h master path outside next in
      length_append (new_name at net from) (flat_map (new_name at net) (range_with_len (from + 1) n))
      ∙ ap (λ k. length (new_name at net from) + k) (new_count net (from + 1) n (omega arith) ∙ ap (λ k. unbound outside (range_with_len k n)) (omega arith))
      ∙ ap (λ k. k + unbound outside (range_with_len (net.first + from + 1) n)) (by_bound (slice_index_or at.bound (net.first + from) true) (is_bound outside (net.first + from)) (place_bound (net.first + from) (omega arith)))
    where
      by_bound : (b c : Bool) → b ≡ c → length (if b then [] else flat_name path (own_name net.name) (bit_index net.range from) ∷ []) ≡ one_if_not c
      by_bound true true e = refl
      by_bound true false e = absurd cc
      by_bound false true e = absurd cc
      by_bound false false e = refl

  new_counts : (nets : List PlanNet) (first : ℕ) → AreInRow first nets → first + bit_count nets ≤ bit_count (plan_at h master).nets
      → length (flat_map (new_names (place_of h master path outside next)) nets) ≡ unbound outside (range_with_len first (bit_count nets))
  new_counts [] first row fits = refl
  new_counts (net ∷ nets) first row fits =
      let at = place_of h master path outside next in
      let width = range_width net.range in
      length_append (new_names at net) (flat_map (new_names at) nets)
      ∙ ap (λ k. k + length (flat_map (new_names at) nets)) (new_count net 0 width (omega (arith, row.0)) ∙ ap (λ k. unbound outside (range_with_len k width)) (omega (arith, row.0)))
      ∙ ap (λ k. unbound outside (range_with_len first width) + k) (new_counts nets (first + width) row.1 (omega arith))
      ∙ sym (ap (unbound outside) (range_append first width (bit_count nets)) ∙ unbound_append outside (range_with_len first width) (range_with_len (first + width) (bit_count nets)))

  -- an instance adds a net for each bit that isn't connected outside
  pub own_nets : AreInRow 0 (plan_at h master).nets
      → length (nets_additions h (place_of h master path outside next) (plan_at h master)).net_names ≡ unbound outside (range_with_len 0 (bit_count (plan_at h master).nets))
  own_nets row = new_counts (plan_at h master).nets 0 row (omega arith)
