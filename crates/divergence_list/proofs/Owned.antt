-- Lists by cell, where each list is one cell's: what a read, a write and one more list give.
use Rattle.std.proofs.Common.{◌≡◌, ◌≢◌, ℕ, suc, zero, ◌+◌, ◌-◌, ◌<◌, List, [], ◌∷◌, ◌++◌, length, get_or, set, map, replicate, refl, sym, ap, ◌∙◌, arith, add-one, ⊎_elim}
use Rattle.std.proofs.lemmas.List.{length-set, length-map, map-set, map_push, length_push, ext_get_or, get_or-set_same, get_or-set_other, get_or_append_left, get_or_push, get_or_default}
use Rattle.std.proofs.lemmas.List as lists
use Rattle.std.proofs.Math.ListN as listn
use Rattle.std.proofs.lemmas.Bool.{cases_eq}
use Rattle.divergence_list.specs.declared.entry.Entry.{Entry}
use Rattle.divergence_list.specs.declared.cell_lists.CellList.{CellList}
use Rattle.divergence_list.specs.Entries.{at_cell}
use Rattle.divergence_list.specs.Parts.{contents, owners, numbered, by_cell, IsOwned}

-- the number that was read, where it isn't 0
pub number-read : (numbers : List ℕ) (cell n : ℕ) → cell < length numbers → n ≡ get_or numbers cell n
    → (n ≡ 0 → ⊥) → get_or numbers cell 0 ≡ suc (n - 1)
number-read numbers cell n within is nonzero =
    let same : get_or numbers cell 0 ≡ get_or numbers cell n = get_or_default numbers cell 0 n within in
    omega (arith, same, is, nonzero)

module _ {V : Type 0} where
  -- the entries of a cell are those of the list with its number
  pub at_cell-by_cell : (numbers : List ℕ) (ls : List (CellList V)) (cell : ℕ)
      → at_cell (by_cell numbers ls) cell ≡ numbered (contents ls) (get_or numbers cell 0)
  at_cell-by_cell numbers ls cell = listn.get_or-map (numbered (contents ls)) numbers cell 0

  -- what a list holds, read at its place
  pub contents_at : (ls : List (CellList V)) (k : ℕ) (x : CellList V) → k < length ls → x ≡ get_or ls k x
      → get_or (contents ls) k [] ≡ x.entries.items
  contents_at ls k x less is =
      lists.get_or-map (λ l. l.entries.items) ls k x [] less ∙ ap (λ l. l.entries.items) (sym is)

  pub owners_at : (ls : List (CellList V)) (k : ℕ) (x : CellList V) → k < length ls → x ≡ get_or ls k x
      → get_or (owners ls) k 0 ≡ x.cell
  owners_at ls k x less is = lists.get_or-map (λ l. l.cell) ls k x 0 less ∙ ap (λ l. l.cell) (sym is)

  -- a cell in range has a number
  pub within-numbers : (numbers : List ℕ) (ls : List (CellList V)) (s : List (List (Entry V))) (cell : ℕ)
      → by_cell numbers ls ≡ s → cell < length s → cell < length numbers
  within-numbers numbers ls s cell view within =
      rw (← length-map numbers (numbered (contents ls)), view) within

  -- the number that was read at a cell with entries
  pub number-of_entries : (numbers : List ℕ) (ls : List (CellList V)) (s : List (List (Entry V))) (cell index n : ℕ)
      → by_cell numbers ls ≡ s → cell < length s → index < length (at_cell s cell) → n ≡ get_or numbers cell n
      → get_or numbers cell 0 ≡ suc (n - 1)
  number-of_entries numbers ls s cell index n view within less is =
      number-read numbers cell n (within-numbers numbers ls s cell view within) is
      (λ zero-there. let none : get_or numbers cell 0 ≡ 0 =
      get_or_default numbers cell 0 n (within-numbers numbers ls s cell view within) ∙ sym is ∙ zero-there in
      let empty : at_cell s cell ≡ [] =
      ap (λ cells. at_cell cells cell) (sym view) ∙ at_cell-by_cell numbers ls cell
      ∙ ap (numbered (contents ls)) none in
      omega (arith, ap length empty))

  module _ (numbers : List ℕ) (ls : List (CellList V)) (cell k : ℕ) (owned : IsOwned numbers (owners ls))
      (named : get_or numbers cell 0 ≡ suc k) where
    -- the list that a cell names is there
    pub list-there : k < length ls
    list-there = rw (length-map ls (λ l. l.cell)) at (owned cell k named).0

    -- the entries of a cell, read in its list
    pub at_cell-read : (x : CellList V) → x ≡ get_or ls k x
        → at_cell (by_cell numbers ls) cell ≡ x.entries.items
    at_cell-read x is =
        at_cell-by_cell numbers ls cell ∙ ap (numbered (contents ls)) named ∙ contents_at ls k x list-there is

    -- a write of a cell's list changes the entries of that cell alone
    pub by_cell-write : (x : CellList V) → cell < length numbers
        → by_cell numbers (set ls k x) ≡ set (by_cell numbers ls) cell x.entries.items
    by_cell-write x within =
        ext_get_or [] (by_cell numbers (set ls k x)) (set (by_cell numbers ls) cell x.entries.items)
        (length-map numbers (numbered (contents (set ls k x))) ∙ sym (length-map numbers (numbered (contents ls)))
        ∙ sym (length-set (by_cell numbers ls) cell x.entries.items))
        (λ c less. at_cell-by_cell numbers (set ls k x) c ∙ at c)
      where
        written : contents (set ls k x) ≡ set (contents ls) k x.entries.items
        written = map-set (λ l. l.entries.items) ls k x

        there : k < length (contents ls)
        there = rw (length-map ls (λ l. l.entries.items)) list-there

        in_range : cell < length (by_cell numbers ls)
        in_range = rw (length-map numbers (numbered (contents ls))) within

        other : (c n : ℕ) → c ≢ cell → get_or numbers c 0 ≡ n
            → numbered (set (contents ls) k x.entries.items) n ≡ numbered (contents ls) n
        other c zero apart is = refl
        other c (suc j) apart is =
            get_or-set_other (contents ls) k j x.entries.items []
            (λ same. apart (sym (owned c j is).1 ∙ ap (λ i. get_or (owners ls) i 0) same ∙ (owned cell k named).1))

        at : (c : ℕ) → numbered (contents (set ls k x)) (get_or numbers c 0)
            ≡ get_or (set (by_cell numbers ls) cell x.entries.items) c []
        at c =
            ⊎_elim
            (λ (same : c ≡ cell). rw (same, written, named)
            (get_or-set_same (contents ls) k x.entries.items [] there
            ∙ sym (get_or-set_same (by_cell numbers ls) cell x.entries.items [] in_range)))
            (λ (apart : c ≢ cell). rw written (other c (get_or numbers c 0) apart refl
            ∙ sym (at_cell-by_cell numbers ls c)
            ∙ sym (get_or-set_other (by_cell numbers ls) cell c x.entries.items [] apart)))
            (cases_eq c cell)

    -- the same, from what the list held and the lists that callers see
    pub by_cell-writes : (s : List (List (Entry V))) (x y : CellList V) (f : List (Entry V) → List (Entry V))
        → by_cell numbers ls ≡ s → cell < length s → x ≡ get_or ls k x → y.entries.items ≡ f x.entries.items
        → by_cell numbers (set ls k y) ≡ set s cell (f (at_cell s cell))
    by_cell-writes s x y f view within is made =
        by_cell-write y (within-numbers numbers ls s cell view within)
        ∙ ap (set (by_cell numbers ls) cell) (made ∙ ap f (sym (at_cell-read x is)))
        ∙ ap (λ cells. set cells cell (f (at_cell cells cell))) view

    -- and leaves each list its cell's
    pub IsOwned-write : (x y : CellList V) → x ≡ get_or ls k x → y.cell ≡ x.cell
        → IsOwned numbers (owners (set ls k y))
    IsOwned-write x y is same =
        rw (map-set (λ l. l.cell) ls k y, same ∙ sym (owners_at ls k x list-there is), lists.set-get_or (owners ls) k 0) owned

  module _ (numbers : List ℕ) (ls : List (CellList V)) (cell : ℕ) (owned : IsOwned numbers (owners ls))
      (unnamed : get_or numbers cell 0 ≡ 0) (x : CellList V) where
    -- one more list without entries, for a cell that had none, changes no entries
    pub by_cell-push : cell < length numbers → x.entries.items ≡ []
        → by_cell (set numbers cell (length ls + 1)) (ls ++ x ∷ []) ≡ by_cell numbers ls
    by_cell-push within empty =
        ext_get_or [] (by_cell numbers-new (ls ++ x ∷ [])) (by_cell numbers ls)
        (length-map numbers-new (numbered (contents (ls ++ x ∷ []))) ∙ length-set numbers cell (length ls + 1)
        ∙ sym (length-map numbers (numbered (contents ls))))
        (λ c less. at_cell-by_cell numbers-new (ls ++ x ∷ []) c ∙ at c ∙ sym (at_cell-by_cell numbers ls c))
      where
        numbers-new : List ℕ
        numbers-new = set numbers cell (length ls + 1)

        pushed : contents (ls ++ x ∷ []) ≡ contents ls ++ [] ∷ []
        pushed = map_push (λ l. l.entries.items) ls x ∙ ap (λ (es : List (Entry V)). contents ls ++ es ∷ []) empty

        other : (n c : ℕ) → get_or numbers c 0 ≡ n
            → numbered (contents ls ++ [] ∷ []) n ≡ numbered (contents ls) n
        other zero c is = refl
        other (suc j) c is =
            get_or_append_left (contents ls) ([] ∷ []) [] j
            (rw (length-map ls (λ l. l.entries.items), ← length-map ls (λ l. l.cell)) (owned c j is).0)

        at : (c : ℕ) → numbered (contents (ls ++ x ∷ [])) (get_or numbers-new c 0)
            ≡ numbered (contents ls) (get_or numbers c 0)
        at c =
            ⊎_elim
            (λ (here : c ≡ cell).
            ap (λ ks. numbered ks (get_or numbers-new c 0)) pushed
            ∙ ap (numbered (contents ls ++ [] ∷ [])) (ap (λ i. get_or numbers-new i 0) here ∙ get_or-set_same numbers cell (length ls + 1) 0 within ∙ add-one (length ls))
            ∙ get_or_push (contents ls) [] [] (length ls) (length-map ls (λ l. l.entries.items))
            ∙ sym (ap (numbered (contents ls)) (ap (λ i. get_or numbers i 0) here ∙ unnamed)))
            (λ (apart : c ≢ cell).
            ap (λ ks. numbered ks (get_or numbers-new c 0)) pushed
            ∙ ap (numbered (contents ls ++ [] ∷ [])) (get_or-set_other numbers cell c (length ls + 1) 0 apart)
            ∙ other (get_or numbers c 0) c refl)
            (cases_eq c cell)

    -- and is that cell's
    pub IsOwned-push : cell < length numbers → x.cell ≡ cell
        → IsOwned (set numbers cell (length ls + 1)) (owners (ls ++ x ∷ []))
    IsOwned-push within same c j is =
        ⊎_elim
        (λ (here : c ≡ cell).
        let number : length ls + 1 ≡ suc j = sym (get_or-set_same numbers cell (length ls + 1) 0 within) ∙ ap (λ i. get_or (set numbers cell (length ls + 1)) i 0) (sym here) ∙ is in
        let last : length ls ≡ j = omega arith in (
          rw (map_push (λ l. l.cell) ls x, length_push, length-map ls (λ l. l.cell)) (omega arith),
          rw (map_push (λ l. l.cell) ls x) (get_or_push (owners ls) x.cell 0 j (length-map ls (λ l. l.cell) ∙ last) ∙ same ∙ sym here),
        ))
        (λ (apart : c ≢ cell).
        let before = owned c j (sym (get_or-set_other numbers cell c (length ls + 1) 0 apart) ∙ is) in (
          rw (map_push (λ l. l.cell) ls x, length_push) (omega (arith, before.0)),
          rw (map_push (λ l. l.cell) ls x) (get_or_append_left (owners ls) (x.cell ∷ []) 0 j before.0 ∙ before.1),
        ))
        (cases_eq c cell)

-- one value over and over, read through a function
pub map-replicate : {X Y : Type 0} (f : X → Y) (n : ℕ) (x : X) → map f (replicate n x) ≡ replicate n (f x)
map-replicate f zero x = refl
map-replicate f (suc n) x = ap (λ ys. f x ∷ ys) (map-replicate f n x)
