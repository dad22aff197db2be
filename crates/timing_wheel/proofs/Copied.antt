-- The keys of the slots in use are put into a larger wheel, one after another.
use Rattle.std.proofs.Common.{◌≡◌, ◌≢◌, ℕ, ◌+◌, ◌-◌, ◌<◌, ◌≤◌, Bool, true, false, cond, List, length, get_or, Option, None, Some, if◌then◌else◌, refl, sym, ap, ◌∙◌, arith, inl, inr}
use Rattle.std.proofs.lemmas.Bool.{cases_eq}
use Rattle.std.specs.Ordering.{nat_cmp}
use Rattle.std.specs.FinMap.{FinMap, empty, get, contains_key, insert, len, get-insert, get-empty, len-insert, same_map, nat_cmp-IsAntisymmetric}
use Rattle.std.proofs.lemmas.Cmp.{nat_cmp_total}
use Rattle.timing_wheel.specs.Index.{NoneHas}
use Rattle.timing_wheel.specs.Times.{idle}
use Rattle.timing_wheel.proofs.Live.{IsAt, IsApart, held, get_absent, get_present, place_of, tied, untied}

-- the keys of the first slots are there, and no others
pub record Copies (keys times : List ℕ) (copy : FinMap nat_cmp ℕ) (count : ℕ) : Type 0 where
  pub there : (slot q : ℕ) → slot < count → IsAt keys times q slot → get copy q ≡ Some (get_or times slot 0)
  pub others : (q at : ℕ) → get copy q ≡ Some at → (slot : ℕ) × (slot < count) × IsAt keys times q slot

-- none is there yet
pub copies_none : (keys times : List ℕ) (copy : FinMap nat_cmp ℕ) → copy ≡ empty → Copies keys times copy 0
copies_none keys times copy is = record {
  there = λ slot q low here. absurd (omega arith);
  others = λ q at here. absurd (let none : get copy q ≡ None = ap (λ (m : FinMap nat_cmp ℕ). get m q) is ∙ get-empty nat_cmp q in cc);
}

-- a slot that isn't in use adds none
pub copies_idle : (keys times : List ℕ) (copy : FinMap nat_cmp ℕ) (count : ℕ) → Copies keys times copy count → get_or times count 0 ≡ idle → Copies keys times copy (count + 1)
copies_idle keys times copy count so_far rests = record {
  there = λ slot q low here. elim (cases_eq slot count) [
    | inl same ↦ absurd (here.1 (ap (λ (j : ℕ). get_or times j 0) same ∙ rests))
    | inr differs ↦ so_far.there slot q (omega arith) here
  ];
  others = λ q at here. let found = so_far.others q at here in (found.0, omega (arith, found.1), found.2);
}

-- the key of a slot in use is put
pub copies_more : (keys times : List ℕ) (copy next : FinMap nat_cmp ℕ) (count : ℕ) → IsApart keys times → Copies keys times copy count → count < length keys → get_or times count 0 ≢ idle
    → next ≡ insert copy (get_or keys count 0) (get_or times count 0) → Copies keys times next (count + 1)
copies_more keys times copy next count apart so_far fits used is = record {
  there = λ slot q low here. ap (λ (m : FinMap nat_cmp ℕ). get m q) is ∙ get-insert nat_cmp_total copy (get_or keys count 0) (get_or times count 0) q ∙ elim (cases_eq slot count) [
    | inl same ↦ ap (λ (b : Bool). cond b (Some (get_or times count 0)) (get copy q)) (tied q (get_or keys count 0) (sym here.2 ∙ ap (λ (j : ℕ). get_or keys j 0) same)) ∙ ap (λ (j : ℕ). Some (get_or times j 0)) (sym same)
    | inr differs ↦ ap (λ (b : Bool). cond b (Some (get_or times count 0)) (get copy q)) (untied q (get_or keys count 0) (λ e. differs (apart slot count q here (fits, used, sym e)))) ∙ so_far.there slot q (omega arith) here
  ];
  others = λ q at here. elim (cases_eq q (get_or keys count 0)) [
    | inl same ↦ (count, omega arith, (fits, used, sym same))
    | inr differs ↦
        let old : get copy q ≡ Some at = sym (ap (λ (m : FinMap nat_cmp ℕ). get m q) is ∙ get-insert nat_cmp_total copy (get_or keys count 0) (get_or times count 0) q ∙ ap (λ (b : Bool). cond b (Some (get_or times count 0)) (get copy q)) (untied q (get_or keys count 0) differs)) ∙ here in
        let found = so_far.others q at old in (found.0, omega (arith, found.1), found.2)
  ];
}

-- at the end the copy holds the same
pub copies_all : (keys times : List ℕ) (copy : FinMap nat_cmp ℕ) (count : ℕ) → length keys ≡ length times → IsApart keys times → Copies keys times copy count → length keys ≤ count → copy ≡ held keys times
copies_all keys times copy count size apart all whole = same_map nat_cmp_total nat_cmp-IsAntisymmetric _ _ (λ q. elim (place_of keys times q size) [
  | inl there ↦ all.there there.0 q (omega (arith, there.1.0)) there.1 ∙ sym (get_present keys times q there.0 size apart there.1)
  | inr absent ↦ none_there q absent (get copy q) refl ∙ sym (get_absent keys times q size absent)
])
  where
    none_there : (q : ℕ) → NoneHas keys times q → (o : Option ℕ) → get copy q ≡ o → get copy q ≡ None
    none_there q absent None is = is
    none_there q absent (Some at) is = let found = all.others q at is in absurd (absent found.0 found.2.0 found.2.1 found.2.2)

-- a put keeps the sum of the keys and the room, and adds a key at most
pub put_counts : (times : FinMap nat_cmp ℕ) (key at room spare : ℕ) → (0 < room) → spare ≡ (if contains_key times key then room else room - 1) → (len (insert times key at) + spare ≡ len times + room) × (len (insert times key at) ≤ len times + 1)
put_counts times key at room spare some is = by_case (contains_key times key) (len-insert nat_cmp_total times key at) is
  where
    by_case : (b : Bool) → len (insert times key at) ≡ cond b (len times) (len times + 1) → spare ≡ cond b room (room - 1) → (len (insert times key at) + spare ≡ len times + room) × (len (insert times key at) ≤ len times + 1)
    by_case true longer left = (omega arith, omega arith)
    by_case false longer left = (omega arith, omega arith)
