-- Slots that are filled once hold what the definitions say of each bit or net.
use Rattle.std.proofs.Common.{◌≡◌, ℕ, ◌+◌, ◌<◌, ◌≤◌, Bool, true, false, not, ◌&&◌, cond, eqb, eq-eqb, List, [], ◌∷◌, ◌++◌, length, map, get_or, set, Option, Some, None, refl, sym, ap, ◌∙◌, ◌⊎◌, inl, inr, arith}
use Rattle.std.specs.Prelude.{is_none, is_some, replicate}
use Rattle.std.specs.List.{range_with_len}
use Rattle.std.specs.Option.{option_map_or}
use Rattle.std.proofs.lemmas.Bool.{cases_eq, cases_lt, eqb-true}
use Rattle.std.proofs.lemmas.List.{get_or-set_same, get_or-set_other, get_or_past, length-set, length-replicate, get_or-replicate, set_past}
use Rattle.std.proofs.lemmas.List.FromFn.{fill_by_all, get_or-map-range_with_len, length-map-range_with_len}
use Rattle.netlist_plan.specs.declared.claims.NetClaim.{NetClaim}
use Rattle.netlist_plan.specs.Claims.{claim_on, is_plain, plain_claim}
use Rattle.netlist_plan.specs.Flattening.{is_bound, number_outside, numbers_from}
use Rattle.flattening.specs.Slots.{claim_slots, number_slots, slot_numbers}

-- ---- what functions give of numbers from 0 on

module _ {A : Type 0} (f g : ℕ → A) (n : ℕ) where
  pub same_all : ((k : ℕ) → k < n → f k ≡ g k) → map f (range_with_len 0 n) ≡ map g (range_with_len 0 n)
  same_all same =
      fill_by_all g (map f (range_with_len 0 n)) n (f 0) (length-map-range_with_len f 0 n)
      (λ k lt. get_or-map-range_with_len f 0 n k k (f 0) lt (omega arith) ∙ same k lt)

  module _ (bit : ℕ) (other : (k : ℕ) → (k ≡ bit → ⊥) → f k ≡ g k) where
    abbrev changed : List A
    changed = set (map f (range_with_len 0 n)) bit (g bit)

    changed-at : (k : ℕ) → k < n → (k ≡ bit) ⊎ (k ≡ bit → ⊥) → get_or changed k (g bit) ≡ g k
    changed-at k lt (inl e) =
        let long : length (map f (range_with_len 0 n)) ≡ n = length-map-range_with_len f 0 n in
        ap (λ (i : ℕ). get_or changed i (g bit)) e
        ∙ get_or-set_same (map f (range_with_len 0 n)) bit (g bit) (g bit) (omega arith)
        ∙ sym (ap g e)
    changed-at k lt (inr ne) =
        get_or-set_other (map f (range_with_len 0 n)) bit k (g bit) (g bit) ne
        ∙ get_or-map-range_with_len f 0 n k k (g bit) lt (omega arith)
        ∙ other k ne

    pub set_one : changed ≡ map g (range_with_len 0 n)
    set_one =
        fill_by_all g changed n (g bit) (length-set (map f (range_with_len 0 n)) bit (g bit) ∙ length-map-range_with_len f 0 n)
        (λ k lt. changed-at k lt (cases_eq k bit))

apart : (a b : ℕ) → (b ≡ a → ⊥) → eqb a b ≡ false
apart a b ne = by_test (eqb a b) refl
  where
    by_test : (t : Bool) → eqb a b ≡ t → t ≡ false
    by_test true e = absurd (ne (omega (arith, eqb-true a b e)))
    by_test false e = refl

-- ---- numbers outside

-- the number outside of a bit, where one more is connected last
outside_more : (outside : List (ℕ × ℕ)) (bit number k : ℕ) → number_outside (outside ++ (bit, number) ∷ []) k ≡ cond (is_none (number_outside outside k)) (cond (eqb bit k) (Some number) None) (number_outside outside k)
outside_more [] bit number k = refl
outside_more ((other, n) ∷ outside) bit number k =
    elim (eqb other k) as (λ t. cond t (Some n) (number_outside (outside ++ (bit, number) ∷ []) k)
    ≡ cond (is_none (cond t (Some n) (number_outside outside k))) (cond (eqb bit k) (Some number) None) (cond t (Some n) (number_outside outside k))) [
      | true ↦ refl
      | false ↦ outside_more outside bit number k
    ]

module _ (outside : List (ℕ × ℕ)) (bit number : ℕ) where
  abbrev more : List (ℕ × ℕ)
  more = outside ++ (bit, number) ∷ []

  outside_other : (k : ℕ) → (k ≡ bit → ⊥) → number_outside outside k ≡ number_outside more k
  outside_other k ne = by_value (number_outside outside k) (eqb bit k) (apart bit k ne) (outside_more outside bit number k)
    where
      by_value : (o : Option ℕ) (t : Bool) → t ≡ false → number_outside more k ≡ cond (is_none o) (cond t (Some number) None) o → o ≡ number_outside more k
      by_value None false e is = sym is
      by_value None true e is = absurd cc
      by_value (Some m) t e is = sym is

  outside_here : number_outside more bit ≡ cond (is_none (number_outside outside bit)) (Some number) (number_outside outside bit)
  outside_here =
      outside_more outside bit number bit
      ∙ ap (λ (t : Bool). cond (is_none (number_outside outside bit)) (cond t (Some number) None) (number_outside outside bit)) (eq-eqb bit bit refl)

  module _ (n : ℕ) where
    abbrev slots : List (Option ℕ)
    slots = map (number_outside outside) (range_with_len 0 n)

    abbrev filled : List (Option ℕ)
    filled = map (number_outside more) (range_with_len 0 n)

    filled_past : n ≤ bit → slots ≡ filled
    filled_past le = same_all (number_outside outside) (number_outside more) n (λ k lt. outside_other k (λ e. absurd (omega arith)))

    filled_none : number_outside outside bit ≡ None → set slots bit (Some number) ≡ filled
    filled_none e =
        ap (λ (o : Option ℕ). set slots bit o) (sym (outside_here ∙ ap (λ (o : Option ℕ). cond (is_none o) (Some number) o) e))
        ∙ set_one (number_outside outside) (number_outside more) n bit outside_other

    filled_some : (m : ℕ) → number_outside outside bit ≡ Some m → slots ≡ filled
    filled_some m e = same_all (number_outside outside) (number_outside more) n (λ k lt. at k (cases_eq k bit))
      where
        at : (k : ℕ) → (k ≡ bit) ⊎ (k ≡ bit → ⊥) → number_outside outside k ≡ number_outside more k
        at k (inl same) =
            ap (number_outside outside) same ∙ e
            ∙ sym (outside_here ∙ ap (λ (o : Option ℕ). cond (is_none o) (Some number) o) e)
            ∙ ap (number_outside more) (sym same)
        at k (inr ne) = outside_other k ne

    -- one more slot is filled, unless it was before
    pub slots_more : number_slots slots bit number ≡ filled
    slots_more = by_place (cases_lt bit n)
      where
        by_value : (o : Option ℕ) → number_outside outside bit ≡ o → cond (is_none o) (set slots bit (Some number)) slots ≡ filled
        by_value None e = filled_none e
        by_value (Some m) e = filled_some m e

        by_place : (bit < n) ⊎ (n ≤ bit) → number_slots slots bit number ≡ filled
        by_place (inl lt) =
            ap (λ (o : Option ℕ). cond (is_none o) (set slots bit (Some number)) slots) (get_or-map-range_with_len (number_outside outside) 0 n bit bit (Some 0) lt (omega arith))
            ∙ by_value (number_outside outside bit) refl
        by_place (inr le) =
            let long : length slots ≡ n = length-map-range_with_len (number_outside outside) 0 n in
            ap (λ (o : Option ℕ). cond (is_none o) (set slots bit (Some number)) slots) (get_or_past slots bit (Some 0) (omega arith))
            ∙ filled_past le

pub slots_none : (n : ℕ) → replicate n None ≡ map (number_outside []) (range_with_len 0 n)
slots_none n =
    fill_by_all (number_outside []) (replicate n None) n None (length-replicate n None) (λ k lt. get_or-replicate n k None None lt)

-- the numbers of slots are those of their bits
pub slots-numbers : (outside : List (ℕ × ℕ)) (next : ℕ) (bits : List ℕ) → slot_numbers next (map (number_outside outside) bits) ≡ numbers_from outside next bits
slots-numbers outside next [] = refl
slots-numbers outside next (bit ∷ bits) =
    elim (number_outside outside bit) as (λ o. slot_numbers next (o ∷ map (number_outside outside) bits)
    ≡ option_map_or (λ (number : ℕ). number) o next ∷ numbers_from outside (cond (option_map_or (λ (number : ℕ). true) o false) next (next + 1)) bits) [
      | None ↦ ap (λ (ns : List ℕ). next ∷ ns) (slots-numbers outside (next + 1) bits)
      | Some number ↦ ap (λ (ns : List ℕ). number ∷ ns) (slots-numbers outside next bits)
    ]

pub slots-bound : (outside : List (ℕ × ℕ)) (bits : List ℕ) → map is_some (map (number_outside outside) bits) ≡ map (is_bound outside) bits
slots-bound outside [] = refl
slots-bound outside (bit ∷ bits) =
    elim (number_outside outside bit) as (λ o. is_some o ∷ map is_some (map (number_outside outside) bits) ≡ option_map_or (λ (number : ℕ). true) o false ∷ map (is_bound outside) bits) [
      | None ↦ ap (λ (flags : List Bool). false ∷ flags) (slots-bound outside bits)
      | Some number ↦ ap (λ (flags : List Bool). true ∷ flags) (slots-bound outside bits)
    ]

-- ---- claims

-- what is claimed of a net, where one more claim comes last
claim_more : (claims : List (ℕ × NetClaim)) (net k : ℕ) (claim : NetClaim) → claim_on (claims ++ (net, claim) ∷ []) k ≡ cond (is_plain (claim_on claims k)) (cond (eqb net k && not (is_plain claim)) claim plain_claim) (claim_on claims k)
claim_more [] net k claim = refl
claim_more ((other, c) ∷ claims) net k claim = by_test (eqb other k) (is_plain c) refl (claim_more claims net k claim)
  where
    by_test : (t p : Bool) → is_plain c ≡ p
        → claim_on (claims ++ (net, claim) ∷ []) k ≡ cond (is_plain (claim_on claims k)) (cond (eqb net k && not (is_plain claim)) claim plain_claim) (claim_on claims k)
        → cond (t && not p) c (claim_on (claims ++ (net, claim) ∷ []) k)
        ≡ cond (is_plain (cond (t && not p) c (claim_on claims k))) (cond (eqb net k && not (is_plain claim)) claim plain_claim) (cond (t && not p) c (claim_on claims k))
    by_test true true e rest = rest
    by_test true false e rest = sym (ap (λ (p : Bool). cond p (cond (eqb net k && not (is_plain claim)) claim plain_claim) c) e)
    by_test false p e rest = rest

-- a plain claim that counts is that of a wire without delay
plain_on : (claims : List (ℕ × NetClaim)) (k : ℕ) → is_plain (claim_on claims k) ≡ true → claim_on claims k ≡ plain_claim
plain_on [] k e = refl
plain_on ((other, c) ∷ claims) k e = by_test (eqb other k) (is_plain c) refl e (plain_on claims k)
  where
    by_test : (t p : Bool) → is_plain c ≡ p → is_plain (cond (t && not p) c (claim_on claims k)) ≡ true
        → (is_plain (claim_on claims k) ≡ true → claim_on claims k ≡ plain_claim) → cond (t && not p) c (claim_on claims k) ≡ plain_claim
    by_test true true is e rest = rest e
    by_test true false is e rest = absurd cc
    by_test false p is e rest = rest e

module _ (claims : List (ℕ × NetClaim)) (net : ℕ) (claim : NetClaim) where
  abbrev later : List (ℕ × NetClaim)
  later = claims ++ (net, claim) ∷ []

  -- at another net, and where the claim is plain, nothing changes
  claim_same : (k : ℕ) → (eqb net k && not (is_plain claim)) ≡ false → claim_on claims k ≡ claim_on later k
  claim_same k none =
      by_plain (is_plain (claim_on claims k)) refl
      ∙ sym (claim_more claims net k claim ∙ ap (λ (t : Bool). cond (is_plain (claim_on claims k)) (cond t claim plain_claim) (claim_on claims k)) none)
    where
      by_plain : (p : Bool) → is_plain (claim_on claims k) ≡ p → claim_on claims k ≡ cond p plain_claim (claim_on claims k)
      by_plain true e = plain_on claims k e
      by_plain false e = refl

  claim_other : (k : ℕ) → (k ≡ net → ⊥) → claim_on claims k ≡ claim_on later k
  claim_other k ne = claim_same k (ap (λ (t : Bool). t && not (is_plain claim)) (apart net k ne))

  claim_here : (p q : Bool) → is_plain (claim_on claims net) ≡ p → is_plain claim ≡ q → claim_on later net ≡ cond p (cond (not q) claim plain_claim) (claim_on claims net)
  claim_here p q e f =
      claim_more claims net net claim
      ∙ ap (λ (t : Bool). cond (is_plain (claim_on claims net)) (cond (t && not (is_plain claim)) claim plain_claim) (claim_on claims net)) (eq-eqb net net refl)
      ∙ ap (λ (t : Bool). cond t (cond (not (is_plain claim)) claim plain_claim) (claim_on claims net)) e
      ∙ ap (λ (t : Bool). cond p (cond (not t) claim plain_claim) (claim_on claims net)) f

  module _ (n : ℕ) where
    abbrev table : List NetClaim
    table = map (claim_on claims) (range_with_len 0 n)

    abbrev next : List NetClaim
    next = map (claim_on later) (range_with_len 0 n)

    kept : ((k : ℕ) → k ≡ net → claim_on claims k ≡ claim_on later k) → table ≡ next
    kept here = same_all (claim_on claims) (claim_on later) n (λ k lt. at k (cases_eq k net))
      where
        at : (k : ℕ) → (k ≡ net) ⊎ (k ≡ net → ⊥) → claim_on claims k ≡ claim_on later k
        at k (inl same) = here k same
        at k (inr ne) = claim_other k ne

    kept_here : claim_on claims net ≡ claim_on later net → table ≡ next
    kept_here e = kept (λ k same. ap (claim_on claims) same ∙ e ∙ ap (claim_on later) (sym same))

    past : n ≤ net → table ≡ next
    past le = same_all (claim_on claims) (claim_on later) n (λ k lt. claim_other k (λ e. absurd (omega arith)))

    within : net < n → (p q : Bool) → is_plain (claim_on claims net) ≡ p → is_plain claim ≡ q → cond (p && not q) (set table net claim) table ≡ next
    within lt true false e f =
        ap (λ (c : NetClaim). set table net c) (sym (claim_here true false e f))
        ∙ set_one (claim_on claims) (claim_on later) n net claim_other
    within lt true true e f = kept_here (plain_on claims net e ∙ sym (claim_here true true e f))
    within lt false q e f = kept_here (sym (claim_here false q e f))

    -- one more claim counts, unless one did before
    pub claims_more : claim_slots table net claim ≡ next
    claims_more = by_place (cases_lt net n)
      where
        unchanged : (p q : Bool) → n ≤ net → cond (p && not q) (set table net claim) table ≡ next
        unchanged true false le = set_past table net claim (omega (arith, length-map-range_with_len (claim_on claims) 0 n)) ∙ past le
        unchanged true true le = past le
        unchanged false q le = past le

        by_place : (net < n) ⊎ (n ≤ net) → claim_slots table net claim ≡ next
        by_place (inl lt) =
            ap (λ (c : NetClaim). cond (is_plain c && not (is_plain claim)) (set table net claim) table) (get_or-map-range_with_len (claim_on claims) 0 n net net plain_claim lt (omega arith))
            ∙ within lt (is_plain (claim_on claims net)) (is_plain claim) refl refl
        by_place (inr le) = unchanged (is_plain (get_or table net plain_claim)) (is_plain claim) le

pub claims_none : (n : ℕ) → replicate n plain_claim ≡ map (claim_on []) (range_with_len 0 n)
claims_none n =
    fill_by_all (claim_on []) (replicate n plain_claim) n plain_claim (length-replicate n plain_claim) (λ k lt. get_or-replicate n k plain_claim plain_claim lt)
