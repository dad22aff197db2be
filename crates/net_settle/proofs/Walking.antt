-- A walk over the links of an island.
use Rattle.std.proofs.Common.{◌≡◌, ℕ, ◌+◌, ◌-◌, ◌<◌, ◌≤◌, Bool, true, false, cond, List, length, get_or, refl, ap, sym, ◌∙◌, subst, arith, inl, inr}
use Rattle.std.specs.Prelude.{ℤ, ◌⊎◌, Contains, MatchBool, zip}
use Rattle.std.proofs.lemmas.List.{get_or_default}
use Rattle.std.proofs.lemmas.Bool.{cases_lt}
use Rattle.std.proofs.lemmas.Slice.Zip.{length-zip, get_or-zip}
use Rattle.level_range.specs.declared.range.Conduct.{Conduct}
use Rattle.net_settle.specs.declared.shape.Link.{Link}
use Rattle.net_settle.specs.declared.side.Side.{Side}
use Rattle.net_settle.specs.Bounds.{Switch}
use Rattle.net_settle.specs.Progress.{LinkRests, LinksRest, Spreads, Moves, without}
use Rattle.net_settle.proofs.Taking.{spreads-same, spreads-then}

-- the link at place k was passed
abbrev pub Passed : Bool → ℕ → ℕ → ℕ → Type 0
Passed backwards count passed k = MatchBool backwards (count ≤ k + passed) (k < passed)

-- the place of the next link
abbrev pub next_place : Bool → ℕ → ℕ → ℕ
next_place backwards count passed = cond backwards (count - 1 - passed) passed

passed_cases : (backwards : Bool) (count passed k : ℕ) → k < count → Passed backwards count (passed + 1) k →
    Passed backwards count passed k ⊎ (k ≡ next_place backwards count passed)
passed_cases true count passed k lt h = elim (cases_lt (k + passed) count) [
  | inl l ↦ inr (omega arith)
  | inr ge ↦ inl ge
]
passed_cases false count passed k lt h = elim (cases_lt k passed) [ inl l ↦ inl l | inr ge ↦ inr (omega arith) ]

passed_none : (backwards : Bool) (count k : ℕ) → k < count → Passed backwards count 0 k → ⊥
passed_none true count k lt h = omega arith
passed_none false count k lt h = omega arith

passed_all : (backwards : Bool) (count k : ℕ) → k < count → Passed backwards count count k
passed_all true count k lt = omega arith
passed_all false count k lt = lt

-- the switch at a place is one of the switches
pub switch_at : (links : List Link) (on : List Conduct) (k : ℕ) (link : Link) (conduct : Conduct) → k < length links → k < length on →
    link ≡ get_or links k link → conduct ≡ get_or on k conduct → Contains (zip links on) (link, conduct)
switch_at links on k link conduct l c e f =
    let pair : Link → Conduct → Switch = λ a b. (a, b) in (
      k,
      rw (length-zip links on) (omega arith),
      get_or-zip links on k (link, conduct) l c ∙ ap (λ a. pair a (get_or on k conduct)) (sym e) ∙ ap (pair link) (sym f),
    )

-- what holds of the switch at each place holds of each switch
pub each_switch : (P : Link → Conduct → Type 0) (links : List Link) (on : List Conduct) → length on ≡ length links →
    ((k : ℕ) (d : Link) (e : Conduct) → k < length links → P (get_or links k d) (get_or on k e)) →
    (link : Link) (conduct : Conduct) → Contains (zip links on) (link, conduct) → P link conduct
each_switch P links on same each link conduct (k, lt, is) =
    let long : k < length links = (let h = length-zip links on in omega arith) in
    let e = sym (get_or-zip links on k (link, conduct) long (omega arith)) ∙ is in
    subst (λ (s : Switch). P s.0 s.1) e (each k link conduct long)

module _ (side : Side) (links : List Link) (on : List Conduct) (v : ℤ) (backwards : Bool) (before : List ℤ) where
  abbrev Rest : ℕ → Type 0
  Rest passed =
      (k : ℕ) (d : Link) (e : Conduct) → k < length links → Passed backwards (length links) passed k
      → LinkRests side (get_or links k d) (get_or on k e) before v

  -- what holds after so many links
  pub record Walked (after : List ℤ) (changed : Bool) (passed : ℕ) : Type 0 where
    pub spreads : Spreads side (zip links on) v before after
    pub moves :
        Moves changed
        ((k : ℕ) (d : Link) (e : Conduct) → k < length links → Passed backwards (length links) passed k
        → LinkRests side (get_or links k d) (get_or on k e) before v)
        before after

  pub walked_none : Walked before false 0
  walked_none = record {
    spreads = spreads-same side (zip links on) v before;
    moves = (refl, λ k d e lt passed. absurd (passed_none backwards (length links) k lt passed));
  }

  module _ (between after : List ℤ) (changed : Bool) (passed place : ℕ) (dl : Link) (dc : Conduct)
      (walked : Walked between changed passed)
      (same : length on ≡ length links)
      (some : passed < length links)
      (place_is : place ≡ next_place backwards (length links) passed)
      (spreads : (switches : List Switch) → Contains switches (get_or links place dl, get_or on place dc) → Spreads side switches v between after) where
    next_inside : (b : Bool) → next_place b (length links) passed < length links
    next_inside true = omega arith
    next_inside false = omega arith

    inside : place < length links
    inside = let h = next_inside backwards in omega arith

    spreads_on : Spreads side (zip links on) v before after
    spreads_on =
        spreads-then side (zip links on) v before between after walked.spreads
        (spreads (zip links on) (switch_at links on place (get_or links place dl) (get_or on place dc) inside (let h = inside in omega arith)
        (get_or_default links place dl (get_or links place dl) inside)
        (get_or_default on place dc (get_or on place dc) (let h = inside in omega arith))))

    pub walked_took : without after < without between → Walked after true (passed + 1)
    walked_took fewer = record {
      spreads = spreads_on;
      moves = at_most changed walked.moves;
    }
      where
        at_most : (c : Bool) → Moves c (Rest passed) before between → without after < without before
        at_most true h = omega arith
        at_most false h = let f : without between ≡ without before = ap without h.0 in omega arith

    pub walked_rests : after ≡ between → LinkRests side (get_or links place dl) (get_or on place dc) between v → Walked after changed (passed + 1)
    walked_rests e rests = record {
      spreads = spreads_on;
      moves = by_change changed walked.moves;
    }
      where
        by_change : (c : Bool) → Moves c (Rest passed) before between → Moves c (Rest (passed + 1)) before after
        by_change true h = let f : without after ≡ without between = ap without e in omega arith
        by_change false h = (
          e ∙ h.0,
          λ k d x lt seen. elim (passed_cases backwards (length links) passed k lt seen) [
            | inl old ↦ h.1 k d x lt old
            | inr now ↦
                let is : k ≡ place = now ∙ sym place_is in
                let lk : get_or links place dl ≡ get_or links k d =
                ap (λ i. get_or links i dl) (sym is) ∙ get_or_default links k dl d lt in
                let ck : get_or on place dc ≡ get_or on k x =
                ap (λ i. get_or on i dc) (sym is) ∙ get_or_default on k dc x (omega arith) in
                let r0 = subst (λ (b : List ℤ). LinkRests side (get_or links place dl) (get_or on place dc) b v) h.0 rests in
                let r1 = subst (λ (l : Link). LinkRests side l (get_or on place dc) before v) lk r0 in
                subst (λ (c : Conduct). LinkRests side (get_or links k d) c before v) ck r1
          ],
        )

  -- after all links
  pub walked_all : length on ≡ length links → (after : List ℤ) (changed : Bool) → Walked after changed (length links) →
      Moves changed (LinksRest side (zip links on) before v) before after
  walked_all same after changed walked = by_change changed walked.moves
    where
      by_change : (c : Bool) → Moves c (Rest (length links)) before after → Moves c (LinksRest side (zip links on) before v) before after
      by_change true h = h
      by_change false h = (
        h.0,
        each_switch (λ link conduct. LinkRests side link conduct before v) links on same
            (λ k d x lt. h.1 k d x lt (passed_all backwards (length links) k lt)),
      )
