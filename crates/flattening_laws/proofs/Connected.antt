-- How many bits of a module aren't connected in an instance: all but those of the ports that are.
use Rattle.std.proofs.Common.{◌≡◌, ℕ, zero, suc, ◌+◌, ◌<◌, ◌≤◌, min, Bool, true, false, List, [], ◌∷◌, ◌++◌, length, map, take, Option, Some, None, refl, sym, ap, subst, ◌∙◌, arith}
use Rattle.std.specs.Prelude.{slice_get, slice_index_or, nat_eq, if◌then◌else◌}
use Rattle.std.specs.Option.{option_map_or}
use Rattle.std.specs.List.{AllByRecursion, flat_map, range_with_len, zip}
use Rattle.std.proofs.lemmas.Bool.{eq-eqb, eqb-true}
use Rattle.netlist_plan.specs.declared.plan.PortBits.{PortBits}
use Rattle.netlist_plan.specs.Flattening.{bound_numbers, is_bound, number_outside, numbers_of, port_numbers}
use Rattle.flattening_laws.specs.SoundPlans.{ports_bits}
use Rattle.flattening_laws.specs.Counts.{connected_count}
use Rattle.flattening_laws.proofs.Apart.{AreApart, Differ, apart_append, each_append, each_weaker}
use Rattle.flattening_laws.proofs.TreeNames.{map_append}
use Rattle.flattening_laws.proofs.Numbers.{length_append, length_map, length_range, one_if_not, unbound}

-- ---- keys

abbrev key_in : List ℕ → ℕ → Bool
key_in [] bit = false
key_in (key ∷ keys) bit = if nat_eq key bit then true else key_in keys bit

abbrev free : List ℕ → List ℕ → ℕ
free keys [] = 0
free keys (bit ∷ bits) = one_if_not (key_in keys bit) + free keys bits

abbrev first_of : ℕ × ℕ → ℕ
first_of pair = pair.0

bound_by_key : (outside : List (ℕ × ℕ)) (bit : ℕ) → is_bound outside bit ≡ key_in (map first_of outside) bit
bound_by_key [] bit = refl
bound_by_key ((other, number) ∷ outside) bit = by_same (bound_by_key outside bit) (nat_eq other bit)
  where
    by_same : is_bound outside bit ≡ key_in (map first_of outside) bit → (b : Bool)
        → option_map_or (λ (n : ℕ). true) (if b then Some number else number_outside outside bit) false ≡ (if b then true else key_in (map first_of outside) bit)
    by_same rest true = refl
    by_same rest false = rest

unbound_is_free : (outside : List (ℕ × ℕ)) (bits : List ℕ) → unbound outside bits ≡ free (map first_of outside) bits
unbound_is_free outside [] = refl
unbound_is_free outside (bit ∷ bits) =
    ap (λ b. one_if_not b + unbound outside bits) (bound_by_key outside bit)
    ∙ ap (λ k. one_if_not (key_in (map first_of outside) bit) + k) (unbound_is_free outside bits)

-- ---- how many bits aren't among distinct keys

not_in : (keys : List ℕ) (bit : ℕ) → AllByRecursion (Differ bit) keys → key_in keys bit ≡ false
not_in [] bit d = refl
not_in (key ∷ keys) bit d = by_same (not_in keys bit d.1) (nat_eq key bit) refl
  where
    by_same : key_in keys bit ≡ false → (b : Bool) → nat_eq key bit ≡ b → (if b then true else key_in keys bit) ≡ false
    by_same rest true e = absurd (d.0 (sym (eqb-true key bit e)))
    by_same rest false e = rest

same_key : (key : ℕ) → nat_eq key key ≡ true
same_key key = eq-eqb key key refl

other_key : (key bit : ℕ) → (key ≡ bit → ⊥) → nat_eq key bit ≡ false
other_key key bit d = by_same (nat_eq key bit) refl
  where
    by_same : (b : Bool) → nat_eq key bit ≡ b → b ≡ false
    by_same true e = absurd (d (eqb-true key bit e))
    by_same false e = refl

other_in : (key : ℕ) (keys : List ℕ) (bit : ℕ) → (key ≡ bit → ⊥) → key_in (key ∷ keys) bit ≡ key_in keys bit
other_in key keys bit d = ap (λ b. if b then true else key_in keys bit) (other_key key bit d)

same_in : (key : ℕ) (keys : List ℕ) → key_in (key ∷ keys) key ≡ true
same_in key keys = ap (λ b. if b then true else key_in keys key) (same_key key)

free_behind : (key : ℕ) (keys : List ℕ) (a n : ℕ) → key < a → free (key ∷ keys) (range_with_len a n) ≡ free keys (range_with_len a n)
free_behind key keys a zero less = refl
free_behind key keys a (suc n) less =
    ap (λ b. one_if_not b + free (key ∷ keys) (range_with_len (a + 1) n)) (other_in key keys a (λ e. omega arith))
    ∙ ap (λ k. one_if_not (key_in keys a) + k) (free_behind key keys (a + 1) n (omega arith))

free_at : (key : ℕ) (keys : List ℕ) (a n : ℕ) → a ≤ key → key < a + n → key_in keys key ≡ false → free (key ∷ keys) (range_with_len a n) + 1 ≡ free keys (range_with_len a n)
free_at key keys a zero least less new = absurd (omega arith)
free_at key keys a (suc n) least less new = by_first (nat_eq key a) refl (λ more. free_at key keys (a + 1) n more (omega arith) new)
  where
    by_first : (b : Bool) → nat_eq key a ≡ b → (a + 1 ≤ key → free (key ∷ keys) (range_with_len (a + 1) n) + 1 ≡ free keys (range_with_len (a + 1) n))
        → one_if_not (if nat_eq key a then true else key_in keys a) + free (key ∷ keys) (range_with_len (a + 1) n) + 1 ≡ one_if_not (key_in keys a) + free keys (range_with_len (a + 1) n)
    by_first true e rest =
        let same : key ≡ a = eqb-true key a e in
        let first : one_if_not (if nat_eq key a then true else key_in keys a) ≡ 0 = ap (λ b. one_if_not (if b then true else key_in keys a)) e in
        let second : one_if_not (key_in keys a) ≡ 1 = ap one_if_not (subst (λ k. key_in keys k ≡ false) same new) in
        let behind = free_behind key keys (a + 1) n (omega arith) in
        omega arith
    by_first false e rest =
        let first : one_if_not (if nat_eq key a then true else key_in keys a) ≡ one_if_not (key_in keys a) = ap (λ b. one_if_not (if b then true else key_in keys a)) e in
        let more : a + 1 ≤ key = after (differs e) in
        let rest_is = rest more in
        omega arith
      where
        differs : nat_eq key a ≡ false → (key ≡ a → ⊥)
        differs f same = absurd (let no : true ≡ false = sym (ap (nat_eq key) (sym same) ∙ same_key key) ∙ f in cc)

        after : (key ≡ a → ⊥) → a + 1 ≤ key
        after d = omega (arith, least)

free_none : (bits : List ℕ) → free [] bits ≡ length bits
free_none [] = refl
free_none (bit ∷ bits) = ap (λ k. 1 + k) (free_none bits) ∙ omega arith

free_count : (keys : List ℕ) (count : ℕ) → AreApart keys → AllByRecursion (λ key. key < count) keys → free keys (range_with_len 0 count) + length keys ≡ count
free_count [] count apart within = let none = free_none (range_with_len 0 count) in let all = length_range 0 count in omega arith
free_count (key ∷ keys) count apart within =
    let rest = free_count keys count apart.1 within.1 in
    let less = within.0 in
    let at = free_at key keys 0 count (omega arith) (omega arith) (not_in keys key apart.0) in
    omega arith

-- ---- the bits of the ports that are connected

abbrev port_bits_at : List PortBits → PortBits → List ℕ
port_bits_at ports c = option_map_or (λ port. take (length c.bits) port.bits) (slice_get ports c.port) []

abbrev keys_of : List PortBits → List PortBits → List ℕ
keys_of ports connections = flat_map (port_bits_at ports) connections

take_length : (n : ℕ) (xs : List ℕ) → length (take n xs) ≡ min (length xs) n
take_length zero xs = omega arith
take_length (suc n) [] = omega arith
take_length (suc n) (x ∷ xs) = let rest = take_length n xs in omega arith

keys_count : (ports connections : List PortBits) → length (keys_of ports connections) ≡ connected_count ports connections
keys_count ports [] = refl
keys_count ports (c ∷ connections) =
    length_append (port_bits_at ports c) (keys_of ports connections)
    ∙ ap (λ k. k + length (keys_of ports connections)) (by_port (slice_get ports c.port))
    ∙ ap (λ k. option_map_or (λ port. min (length port.bits) (length c.bits)) (slice_get ports c.port) 0 + k) (keys_count ports connections)
  where
    by_port : (o : Option PortBits) → length (option_map_or (λ port. take (length c.bits) port.bits) o []) ≡ option_map_or (λ port. min (length port.bits) (length c.bits)) o 0
    by_port None = refl
    by_port (Some port) = take_length (length c.bits) port.bits

zip_firsts : (xs ys : List ℕ) → map first_of (zip xs ys) ≡ take (length ys) xs
zip_firsts [] [] = refl
zip_firsts [] (y ∷ ys) = refl
zip_firsts (x ∷ xs) [] = refl
zip_firsts (x ∷ xs) (y ∷ ys) = ap (λ zs. x ∷ zs) (zip_firsts xs ys)

port_keys : (numbers : List ℕ) (ports : List PortBits) (c : PortBits) → map first_of (port_numbers numbers ports c) ≡ port_bits_at ports c
port_keys numbers ports c = by_port (slice_get ports c.port)
  where
    by_port : (o : Option PortBits) → map first_of (option_map_or (λ port. zip port.bits (numbers_of numbers c.bits)) o []) ≡ option_map_or (λ port. take (length c.bits) port.bits) o []
    by_port None = refl
    by_port (Some port) = zip_firsts port.bits (numbers_of numbers c.bits) ∙ ap (λ n. take n port.bits) (length_map (λ bit. slice_index_or numbers bit 0) c.bits)

keys_are : (numbers : List ℕ) (ports connections : List PortBits) → map first_of (bound_numbers numbers ports connections) ≡ keys_of ports connections
keys_are numbers ports [] = refl
keys_are numbers ports (c ∷ connections) =
    map_append first_of (port_numbers numbers ports c) (bound_numbers numbers ports connections)
    ∙ ap (λ xs. xs ++ map first_of (bound_numbers numbers ports connections)) (port_keys numbers ports c)
    ∙ ap (λ xs. port_bits_at ports c ++ xs) (keys_are numbers ports connections)

-- ---- they differ

apart_parts : {X : Type 0} (xs ys : List X) → AreApart (xs ++ ys) → AreApart xs × (AreApart ys × AllByRecursion (λ x. AllByRecursion (Differ x) ys) xs)
apart_parts [] ys h = (tt, (h, tt))
apart_parts (x ∷ xs) ys h =
    let rest = apart_parts xs ys h.1 in
    let split = each_parts (Differ x) xs ys h.0 in
    ((split.0, rest.0), (rest.1.0, (split.1, rest.1.1)))
  where
    each_parts : {X : Type 0} (P : X → Type 0) (xs ys : List X) → AllByRecursion P (xs ++ ys) → AllByRecursion P xs × AllByRecursion P ys
    each_parts P [] ys h = (tt, h)
    each_parts P (x ∷ xs) ys h = let rest = each_parts P xs ys h.1 in ((h.0, rest.0), rest.1)

module _ (P : ℕ → Type 0) where
  -- what holds of all bits of ports holds of those of each
  each_port : (ports : List PortBits) (index : ℕ) → AllByRecursion P (ports_bits ports) → AllByRecursion P (option_map_or (λ port. port.bits) (slice_get ports index) [])
  each_port [] index h = tt
  each_port (port ∷ ports) zero h = (split port.bits (ports_bits ports) h).0
    where
      split : (xs ys : List ℕ) → AllByRecursion P (xs ++ ys) → AllByRecursion P xs × AllByRecursion P ys
      split [] ys h = (tt, h)
      split (x ∷ xs) ys h = let rest = split xs ys h.1 in ((h.0, rest.0), rest.1)
  each_port (port ∷ ports) (suc index) h = each_port ports index (rest port.bits (ports_bits ports) h)
    where
      rest : (xs ys : List ℕ) → AllByRecursion P (xs ++ ys) → AllByRecursion P ys
      rest [] ys h = h
      rest (x ∷ xs) ys h = rest xs ys h.1

  each_take : (n : ℕ) (xs : List ℕ) → AllByRecursion P xs → AllByRecursion P (take n xs)
  each_take zero xs h = tt
  each_take (suc n) [] h = tt
  each_take (suc n) (x ∷ xs) h = (h.0, each_take n xs h.1)

  each_taken : (ports : List PortBits) (c : PortBits) → AllByRecursion P (option_map_or (λ port. port.bits) (slice_get ports c.port) []) → AllByRecursion P (port_bits_at ports c)
  each_taken ports c h = by_port (slice_get ports c.port) h
    where
      by_port : (o : Option PortBits) → AllByRecursion P (option_map_or (λ port. port.bits) o []) → AllByRecursion P (option_map_or (λ port. take (length c.bits) port.bits) o [])
      by_port None h = tt
      by_port (Some port) h = each_take (length c.bits) port.bits h

  each_key : (ports connections : List PortBits) → AllByRecursion P (ports_bits ports) → AllByRecursion P (keys_of ports connections)
  each_key ports [] h = tt
  each_key ports (c ∷ connections) h = each_append P (port_bits_at ports c) (keys_of ports connections) (each_taken ports c (each_port ports c.port h)) (each_key ports connections h)

abbrev bits_at : List PortBits → ℕ → List ℕ
bits_at ports index = option_map_or (λ port. port.bits) (slice_get ports index) []

abbrev AreFrom : List ℕ → List ℕ → Type 0
AreFrom xs ys = AllByRecursion (λ x. AllByRecursion (Differ x) ys) xs

from_none : (xs : List ℕ) → AreFrom xs []
from_none [] = tt
from_none (x ∷ xs) = (tt, from_none xs)

from_append : (xs ys zs : List ℕ) → AreFrom xs ys → AreFrom xs zs → AreFrom xs (ys ++ zs)
from_append [] ys zs h k = tt
from_append (x ∷ xs) ys zs h k = (each_append (Differ x) ys zs h.0 k.0, from_append xs ys zs h.1 k.1)

from_swap : (xs ys : List ℕ) → AreFrom xs ys → AreFrom ys xs
from_swap [] [] h = tt
from_swap [] (y ∷ ys) h = (tt, from_swap [] ys tt)
from_swap (x ∷ xs) ys h = both ys h.0 (from_swap xs ys h.1)
  where
    both : (zs : List ℕ) → AllByRecursion (Differ x) zs → AreFrom zs xs → AreFrom zs (x ∷ xs)
    both [] d f = tt
    both (z ∷ zs) d f = ((λ e. d.0 (sym e), f.0), both zs d.1 f.1)

from_each : (ports : List PortBits) (index : ℕ) (xs : List ℕ) → AreFrom xs (ports_bits ports) → AreFrom xs (bits_at ports index)
from_each ports index xs h = each_weaker (λ x. AllByRecursion (Differ x) (ports_bits ports)) (λ x. AllByRecursion (Differ x) (bits_at ports index)) xs (λ x d. each_port (Differ x) ports index d) h

-- two ports have different bits
ports_from : (ports : List PortBits) (p q : ℕ) → AreApart (ports_bits ports) → (p ≡ q → ⊥) → AreFrom (bits_at ports p) (bits_at ports q)
ports_from [] p q h d = tt
ports_from (port ∷ ports) zero zero h d = absurd (d refl)
ports_from (port ∷ ports) zero (suc q) h d = from_each ports q port.bits (apart_parts port.bits (ports_bits ports) h).1.1
ports_from (port ∷ ports) (suc p) zero h d = from_swap port.bits (bits_at ports p) (from_each ports p port.bits (apart_parts port.bits (ports_bits ports) h).1.1)
ports_from (port ∷ ports) (suc p) (suc q) h d = ports_from ports p q (apart_parts port.bits (ports_bits ports) h).1.0 (λ e. d (ap suc e))

port_apart : (ports : List PortBits) (index : ℕ) → AreApart (ports_bits ports) → AreApart (bits_at ports index)
port_apart [] index h = tt
port_apart (port ∷ ports) zero h = (apart_parts port.bits (ports_bits ports) h).0
port_apart (port ∷ ports) (suc index) h = port_apart ports index (apart_parts port.bits (ports_bits ports) h).1.0

taken_from : (ports : List PortBits) (c : PortBits) (xs : List ℕ) → AreFrom xs (bits_at ports c.port) → AreFrom xs (port_bits_at ports c)
taken_from ports c xs h = each_weaker (λ x. AllByRecursion (Differ x) (bits_at ports c.port)) (λ x. AllByRecursion (Differ x) (port_bits_at ports c)) xs (λ x d. each_taken (Differ x) ports c d) h

taken_apart : (ports : List PortBits) (c : PortBits) → AreApart (bits_at ports c.port) → AreApart (port_bits_at ports c)
taken_apart ports c h = by_port (slice_get ports c.port) h
  where
    front : (n : ℕ) (xs : List ℕ) → AreApart xs → AreApart (take n xs)
    front zero xs h = tt
    front (suc n) [] h = tt
    front (suc n) (x ∷ xs) h = (each_take (Differ x) n xs h.0, front n xs h.1)

    by_port : (o : Option PortBits) → AreApart (option_map_or (λ port. port.bits) o []) → AreApart (option_map_or (λ port. take (length c.bits) port.bits) o [])
    by_port None h = tt
    by_port (Some port) h = front (length c.bits) port.bits h

key_from : (ports connections : List PortBits) (p : ℕ) → AreApart (ports_bits ports) → AllByRecursion (Differ p) (map (λ c. c.port) connections) → AreFrom (bits_at ports p) (keys_of ports connections)
key_from ports [] p h d = from_none (bits_at ports p)
key_from ports (c ∷ connections) p h d =
    from_append (bits_at ports p) (port_bits_at ports c) (keys_of ports connections) (taken_from ports c (bits_at ports p) (ports_from ports p c.port h d.0)) (key_from ports connections p h d.1)

keys_apart : (ports connections : List PortBits) → AreApart (ports_bits ports) → AreApart (map (λ c. c.port) connections) → AreApart (keys_of ports connections)
keys_apart ports [] h once = tt
keys_apart ports (c ∷ connections) h once =
    apart_append (port_bits_at ports c) (keys_of ports connections) (taken_apart ports c (port_apart ports c.port h)) (keys_apart ports connections h once.1)
    (each_taken (λ x. AllByRecursion (Differ x) (keys_of ports connections)) ports c (key_from ports connections c.port h once.0))

-- the bits that aren't connected, with those that are, are all
pub unbound_count : (count : ℕ) (numbers : List ℕ) (ports connections : List PortBits) → AreApart (map (λ c. c.port) connections)
    → AreApart (ports_bits ports) → AllByRecursion (λ bit. bit < count) (ports_bits ports)
    → unbound (bound_numbers numbers ports connections) (range_with_len 0 count) + connected_count ports connections ≡ count
unbound_count count numbers ports connections once apart within =
    let keys = keys_of ports connections in
    let free_are : unbound (bound_numbers numbers ports connections) (range_with_len 0 count) ≡ free keys (range_with_len 0 count)
    = unbound_is_free (bound_numbers numbers ports connections) (range_with_len 0 count)
    ∙ ap (λ ks. free ks (range_with_len 0 count)) (keys_are numbers ports connections) in
    let counted = free_count keys count (keys_apart ports connections apart once) (each_key (λ bit. bit < count) ports connections within) in
    let many = keys_count ports connections in
    omega arith
