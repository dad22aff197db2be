-- Linking a slot into a list and taking it out again keep all lists linked.
use Rattle.std.proofs.Common.{◌≡◌, ◌≢◌, ℕ, ◌+◌, ◌<◌, ◌≤◌, ◌^◌, List, [], ◌∷◌, length, get_or, set, refl, sym, ap, subst, ◌∙◌, arith, inl, inr, ◌⊎◌}
use Rattle.std.proofs.lemmas.Bool.{cases_lt, cases_eq}
use Rattle.std.proofs.lemmas.List.{get_or-set_same, get_or-set_other, length-set, get_or_past}
use Rattle.timing_wheel.specs.Links.{Among, LeadsThrough, IsRing, IsLinked}

-- the head of a list leads to itself, or to one of the list's slots
pub first_of : (next previous places : List ℕ) (lists list : ℕ) → IsLinked next previous places lists → list < lists → get_or next list 0 ≢ list
    → (slot : ℕ) × (slot < length places) × (get_or next list 0 ≡ lists + slot) × (get_or places slot 0 ≡ list)
first_of next previous places lists list linked low leaves =
    let ring = linked.rings list low in
    at_first ring.0 ring.1
  where
    at_first : (nodes : List ℕ) → IsRing next places lists list nodes → (slot : ℕ) × (slot < length places) × (get_or next list 0 ≡ lists + slot) × (get_or places slot 0 ≡ list)
    at_first [] ring = absurd (leaves ring.leads)
    at_first (node ∷ nodes) ring = let found = ring.only node (inl refl) in (found.0, found.1, ring.leads.0 ∙ found.2, found.3)

-- where the head leads to itself no slot stands in the list
pub none_in : (next previous places : List ℕ) (lists list : ℕ) → IsLinked next previous places lists → list < lists → get_or next list 0 ≡ list
    → (slot : ℕ) → slot < length places → get_or places slot 0 ≢ list
none_in next previous places lists list linked low alone slot within here =
    let ring = linked.rings list low in
    at_none ring.0 ring.1 (ring.1.all slot within here)
  where
    at_none : (nodes : List ℕ) → IsRing next places lists list nodes → Among (lists + slot) nodes → ⊥
    at_none [] ring among = among
    at_none (node ∷ nodes) ring among = let found = ring.only node (inl refl) in let first = ring.leads.0 in omega arith

-- links that lead on from another node, and on from each of these as before
leads_same : (next after : List ℕ) (end from start : ℕ) (nodes : List ℕ) → get_or after start 0 ≡ get_or next from 0 → ((node : ℕ) → Among node nodes → get_or after node 0 ≡ get_or next node 0)
    → LeadsThrough next end from nodes → LeadsThrough after end start nodes
leads_same next after end from start [] head same leads = head ∙ leads
leads_same next after end from start (node ∷ nodes) head same leads =
    (head ∙ leads.0, leads_same next after end node node nodes (same node (inl refl)) (λ other among. same other (inr among)) leads.1)

-- one store: at its index and elsewhere
pub stored : (xs : List ℕ) (i v k : ℕ) → i < length xs → ((k ≡ i) × (get_or (set xs i v) k 0 ≡ v)) ⊎ ((k ≢ i) × (get_or (set xs i v) k 0 ≡ get_or xs k 0))
stored xs i v k fits =
    elim (cases_eq k i) [
      | inl same ↦ inl (same, subst (λ (j : ℕ). get_or (set xs i v) j 0 ≡ v) (sym same) (get_or-set_same xs i v 0 fits))
      | inr differs ↦ inr (differs, get_or-set_other xs i k v 0 differs)
    ]

-- two stores: at the last one's index, at the first one's, and elsewhere
data Stored (read k first v second w old : ℕ) : Type 0 where
  at_second : k ≡ second → read ≡ w → Stored read k first v second w old
  at_first : k ≢ second → k ≡ first → read ≡ v → Stored read k first v second w old
  elsewhere : k ≢ second → k ≢ first → read ≡ old → Stored read k first v second w old

stored_twice : (xs : List ℕ) (i v j w k : ℕ) → i < length xs → j < length xs → Stored (get_or (set (set xs i v) j w) k 0) k i v j w (get_or xs k 0)
stored_twice xs i v j w k fits_i fits_j =
    elim (stored (set xs i v) j w k (rw length-set fits_j)) [
      | inl last ↦ at_second last.0 last.1
      | inr before ↦ elim (stored xs i v k fits_i) [
        | inl first ↦ at_first before.0 first.0 (before.1 ∙ first.1)
        | inr other ↦ elsewhere before.0 other.0 (before.1 ∙ other.1)
      ]
    ]

-- a slot that stands in no list goes to the front of one
module _ (next previous places : List ℕ) (lists slot list : ℕ) (linked : IsLinked next previous places lists)
    (in_slots : slot < length places) (in_lists : list < lists) (was_loose : get_or places slot 0 ≡ lists) where
  alone : get_or next (lists + slot) 0 ≡ lists + slot
  alone = linked.loose slot in_slots was_loose

  alone_back : get_or previous (lists + slot) 0 ≡ lists + slot
  alone_back = subst (λ (k : ℕ). get_or previous k 0 ≡ lists + slot) alone (linked.back (lists + slot) (omega (arith, linked.next_size)))

  after_back : get_or previous (get_or next list 0) 0 ≡ list
  after_back = linked.back list (omega (arith, linked.next_size))

  after_within : get_or next list 0 < length next
  after_within = linked.within list (omega (arith, linked.next_size))

  after_apart : get_or next list 0 ≢ lists + slot
  after_apart e = let h : list ≡ lists + slot = sym after_back ∙ ap (λ (k : ℕ). get_or previous k 0) e ∙ alone_back in omega arith

  read_next : (k : ℕ) → Stored (get_or (set (set next list (lists + slot)) (lists + slot) (get_or next list 0)) k 0) k list (lists + slot) (lists + slot) (get_or next list 0) (get_or next k 0)
  read_next k = stored_twice next list (lists + slot) (lists + slot) (get_or next list 0) k (omega (arith, linked.next_size)) (omega (arith, linked.next_size))

  read_previous : (k : ℕ) → Stored (get_or (set (set previous (lists + slot) list) (get_or next list 0) (lists + slot)) k 0) k (lists + slot) list (get_or next list 0) (lists + slot) (get_or previous k 0)
  read_previous k = stored_twice previous (lists + slot) list (get_or next list 0) (lists + slot) k (omega (arith, linked.previous_size)) (omega (arith, linked.previous_size, linked.next_size, after_within))

  link_within : (k : ℕ) → k < length next → get_or (set (set next list (lists + slot)) (lists + slot) (get_or next list 0)) k 0 < length next
  link_within k fits = elim (read_next k) [
    | at_second here is ↦ rw is after_within
    | at_first other here is ↦ rw is (omega (arith, linked.next_size))
    | elsewhere other away is ↦ rw is (linked.within k fits)
  ]

  link_before : (k : ℕ) → k < length next → get_or (set (set previous (lists + slot) list) (get_or next list 0) (lists + slot)) k 0 < length next
  link_before k fits = elim (read_previous k) [
    | at_second here is ↦ rw is (omega (arith, linked.next_size))
    | at_first other here is ↦ rw is (omega (arith, linked.next_size))
    | elsewhere other away is ↦ rw is (linked.before k fits)
  ]

  link_back : (k : ℕ) → k < length next → get_or (set (set previous (lists + slot) list) (get_or next list 0) (lists + slot)) (get_or (set (set next list (lists + slot)) (lists + slot) (get_or next list 0)) k 0) 0 ≡ k
  link_back k fits = elim (read_next k) [
    | at_second here is ↦ rw is (elim (read_previous (get_or next list 0)) [
      | at_second same reads ↦ reads ∙ sym here
      | at_first other same reads ↦ absurd (other refl)
      | elsewhere other away reads ↦ absurd (other refl)
    ])
    | at_first other here is ↦ rw is (elim (read_previous (lists + slot)) [
      | at_second same reads ↦ absurd (after_apart (sym same))
      | at_first differs same reads ↦ reads ∙ sym here
      | elsewhere differs away reads ↦ absurd (away refl)
    ])
    | elsewhere other away is ↦ rw is (elim (read_previous (get_or next k 0)) [
      | at_second same reads ↦ absurd (away (sym (linked.back k fits) ∙ ap (λ (j : ℕ). get_or previous j 0) same ∙ after_back))
      | at_first differs same reads ↦ absurd (other (sym (linked.back k fits) ∙ ap (λ (j : ℕ). get_or previous j 0) same ∙ alone_back))
      | elsewhere differs apart reads ↦ reads ∙ linked.back k fits
    ])
  ]

  link_forth : (k : ℕ) → k < length next → get_or (set (set next list (lists + slot)) (lists + slot) (get_or next list 0)) (get_or (set (set previous (lists + slot) list) (get_or next list 0) (lists + slot)) k 0) 0 ≡ k
  link_forth k fits = elim (read_previous k) [
    | at_second here is ↦ rw is (elim (read_next (lists + slot)) [
      | at_second same reads ↦ reads ∙ sym here
      | at_first other same reads ↦ absurd (other refl)
      | elsewhere other away reads ↦ absurd (other refl)
    ])
    | at_first other here is ↦ rw is (elim (read_next list) [
      | at_second same reads ↦ absurd (omega arith)
      | at_first differs same reads ↦ reads ∙ sym here
      | elsewhere differs away reads ↦ absurd (away refl)
    ])
    | elsewhere other away is ↦ rw is (elim (read_next (get_or previous k 0)) [
      | at_second same reads ↦ absurd (away (sym (linked.forth k fits) ∙ ap (λ (j : ℕ). get_or next j 0) same ∙ alone))
      | at_first differs same reads ↦ absurd (other (sym (linked.forth k fits) ∙ ap (λ (j : ℕ). get_or next j 0) same))
      | elsewhere differs apart reads ↦ reads ∙ linked.forth k fits
    ])
  ]

  link_loose : (k : ℕ) → k < length (set places slot list) → get_or (set places slot list) k 0 ≡ lists → get_or (set (set next list (lists + slot)) (lists + slot) (get_or next list 0)) (lists + k) 0 ≡ lists + k
  link_loose k fits place = elim (stored places slot list k in_slots) [
    | inl here ↦ absurd (omega (arith, here.1, place))
    | inr away ↦
        let old : get_or places k 0 ≡ lists = sym away.1 ∙ place in
        let inside : k < length places = omega (arith, length-set places slot list) in
        elim (read_next (lists + k)) [
          | at_second same reads ↦ absurd (away.0 (omega arith))
          | at_first differs same reads ↦ absurd (omega arith)
          | elsewhere differs apart reads ↦ reads ∙ linked.loose k inside old
        ]
  ]

  link_placed : (k : ℕ) → k < length (set places slot list) → get_or (set places slot list) k 0 ≤ lists
  link_placed k fits = elim (stored places slot list k in_slots) [
    | inl here ↦ omega (arith, here.1)
    | inr away ↦ let inside : k < length places = omega (arith, length-set places slot list) in rw (away.1) (linked.placed k inside)
  ]

  -- a slot of a list isn't the one that stands in none
  place_apart : (other k : ℕ) → other < lists → get_or places k 0 ≡ other → k ≢ slot
  place_apart other k low place same = let h : get_or places slot 0 ≡ other = subst (λ (j : ℕ). get_or places j 0 ≡ other) same place in omega arith

  -- the nodes of a list lead on as before
  same_links : (other : ℕ) (nodes : List ℕ) → other < lists → IsRing next places lists other nodes → (k : ℕ) → Among k nodes → get_or (set (set next list (lists + slot)) (lists + slot) (get_or next list 0)) k 0 ≡ get_or next k 0
  same_links other nodes low ring k among =
      let found = ring.only k among in
      elim (read_next k) [
        | at_second same reads ↦ let apart = place_apart other found.0 low found.3 in absurd (apart (omega (arith, found.2)))
        | at_first differs same reads ↦ absurd (omega (arith, found.2))
        | elsewhere differs apart reads ↦ reads
      ]

  link_ring : (other : ℕ) → other < lists → (nodes : List ℕ) × IsRing (set (set next list (lists + slot)) (lists + slot) (get_or next list 0)) (set places slot list) lists other nodes
  link_ring other low =
      let old = linked.rings other low in
      let size : length (set places slot list) ≡ length places = length-set places slot list in
      elim (cases_eq other list) [
        | inl same ↦ (
          (lists + slot) ∷ old.0,
          record {
            leads =
                let head : get_or (set (set next list (lists + slot)) (lists + slot) (get_or next list 0)) other 0 ≡ lists + slot = elim (read_next other) [
                  | at_second here reads ↦ absurd (omega arith)
                  | at_first differs here reads ↦ reads
                  | elsewhere differs apart reads ↦ absurd (apart same)
                ] in
                let on : get_or (set (set next list (lists + slot)) (lists + slot) (get_or next list 0)) (lists + slot) 0 ≡ get_or next other 0 = elim (read_next (lists + slot)) [
                  | at_second here reads ↦ reads ∙ ap (λ (j : ℕ). get_or next j 0) (sym same)
                  | at_first differs here reads ↦ absurd (differs refl)
                  | elsewhere differs apart reads ↦ absurd (differs refl)
                ] in
                (head, leads_same next _ other other (lists + slot) old.0 on (same_links other old.0 low old.1) old.1.leads);
            all = λ k fits place. elim (stored places slot list k in_slots) [
              | inl here ↦ inl (ap (λ (j : ℕ). lists + j) here.0)
              | inr away ↦ inr (old.1.all k (omega (arith, size)) (sym away.1 ∙ place))
            ];
            only = λ k among. elim among [
              | inl here ↦ (slot, omega (arith, size), here, get_or-set_same places slot list 0 in_slots ∙ sym same)
              | inr rest ↦ let found = old.1.only k rest in
                  let apart : found.0 ≢ slot = place_apart other found.0 low found.3 in
                  (found.0, omega (arith, size, found.1), found.2, get_or-set_other places slot found.0 list 0 apart ∙ found.3)
            ];
          },
        )
        | inr differs ↦ (
          old.0,
          record {
            leads =
                let on : get_or (set (set next list (lists + slot)) (lists + slot) (get_or next list 0)) other 0 ≡ get_or next other 0 = elim (read_next other) [
                  | at_second here reads ↦ absurd (omega arith)
                  | at_first apart here reads ↦ absurd (differs here)
                  | elsewhere apart away reads ↦ reads
                ] in
                leads_same next _ other other other old.0 on (same_links other old.0 low old.1) old.1.leads;
            all = λ k fits place. elim (stored places slot list k in_slots) [
              | inl here ↦ absurd (differs (sym place ∙ here.1))
              | inr away ↦ old.1.all k (omega (arith, size)) (sym away.1 ∙ place)
            ];
            only = λ k among. let found = old.1.only k among in
                let apart : found.0 ≢ slot = place_apart other found.0 low found.3 in
                (found.0, omega (arith, size, found.1), found.2, get_or-set_other places slot found.0 list 0 apart ∙ found.3);
          },
        )
      ]

  pub IsLinked-link : IsLinked (set (set next list (lists + slot)) (lists + slot) (get_or next list 0)) (set (set previous (lists + slot) list) (get_or next list 0) (lists + slot)) (set places slot list) lists
  IsLinked-link =
      let next_kept : length (set (set next list (lists + slot)) (lists + slot) (get_or next list 0)) ≡ length next = simp length-set in
      let previous_kept : length (set (set previous (lists + slot) list) (get_or next list 0) (lists + slot)) ≡ length previous = simp length-set in
      let places_kept : length (set places slot list) ≡ length places = length-set places slot list in
      record {
        next_size = omega (arith, linked.next_size);
        previous_size = omega (arith, linked.previous_size);
        size = omega (arith, linked.size);
        within = λ k fits. rw next_kept (link_within k (omega arith));
        back = λ k fits. link_back k (omega arith);
        before = λ k fits. rw next_kept (link_before k (omega arith));
        forth = λ k fits. link_forth k (omega arith);
        loose = link_loose;
        placed = link_placed;
        rings = link_ring;
      }

-- links that lead past a node that went out: all that they went through is there but this node
pub record LeadsPast (next after : List ℕ) (node end from : ℕ) (nodes : List ℕ) : Type 0 where
  pub rest : List ℕ
  pub leads : LeadsThrough after end from rest
  pub old : (k : ℕ) → Among k rest → Among k nodes
  pub other : (k : ℕ) → Among k rest → k ≢ node
  pub kept : (k : ℕ) → Among k nodes → k ≢ node → Among k rest

-- the links with a node, and those after it went out from behind `before`
pub record Skips (next after : List ℕ) (node before : ℕ) : Type 0 where
  pub joined : get_or next before 0 ≡ node
  pub skip : get_or after before 0 ≡ get_or next node 0
  pub same : (k : ℕ) → k ≢ before → k ≢ node → get_or after k 0 ≡ get_or next k 0
  pub unique : (k : ℕ) → get_or next k 0 ≡ node → k ≡ before

leads_past : (next after : List ℕ) (node before end from : ℕ) (nodes : List ℕ) → Skips next after node before → end ≢ node → from ≢ node → LeadsThrough next end from nodes → LeadsPast next after node end from nodes
leads_past next after node before end from [] skips far away leads =
    let apart : from ≢ before = λ e. far (sym leads ∙ ap (λ (j : ℕ). get_or next j 0) e ∙ skips.joined) in
    record { rest = []; leads = skips.same from apart away ∙ leads; old = λ k among. among; other = λ k among. absurd among; kept = λ k among differs. among }
leads_past next after node before end from (x ∷ []) skips far away leads =
    elim (cases_eq x node) [
      | inl is ↦
          let here : from ≡ before = skips.unique from (leads.0 ∙ is) in
          record {
            rest = [];
            leads = ap (λ (j : ℕ). get_or after j 0) here ∙ skips.skip ∙ ap (λ (j : ℕ). get_or next j 0) (sym is) ∙ leads.1;
            old = λ k among. absurd among;
            other = λ k among. absurd among;
            kept = λ k among differs. elim among [ inl e ↦ absurd (differs (e ∙ is)) | inr none ↦ none ];
          }
      | inr differs ↦
          let apart : from ≢ before = λ e. differs (sym leads.0 ∙ ap (λ (j : ℕ). get_or next j 0) e ∙ skips.joined) in
          let on = leads_past next after node before end x [] skips far differs leads.1 in
          record {
            rest = x ∷ on.rest;
            leads = (skips.same from apart away ∙ leads.0, on.leads);
            old = λ k among. elim among [ inl e ↦ inl e | inr more ↦ inr (on.old k more) ];
            other = λ k among. elim among [ inl e ↦ (λ h. differs (sym e ∙ h)) | inr more ↦ on.other k more ];
            kept = λ k among apart. elim among [ inl e ↦ inl e | inr more ↦ inr (on.kept k more apart) ];
          }
    ]
leads_past next after node before end from (x ∷ y ∷ ys) skips far away leads =
    elim (cases_eq x node) [
      | inl is ↦
          let here : from ≡ before = skips.unique from (leads.0 ∙ is) in
          let next_is : get_or next node 0 ≡ y = ap (λ (j : ℕ). get_or next j 0) (sym is) ∙ leads.1.0 in
          let differs : y ≢ node = λ e. away (here ∙ sym (skips.unique node (next_is ∙ e))) in
          let on = leads_past next after node before end y ys skips far differs leads.1.1 in
          record {
            rest = y ∷ on.rest;
            leads = (ap (λ (j : ℕ). get_or after j 0) here ∙ skips.skip ∙ next_is, on.leads);
            old = λ k among. elim among [ inl e ↦ inr (inl e) | inr more ↦ inr (inr (on.old k more)) ];
            other = λ k among. elim among [ inl e ↦ (λ h. differs (sym e ∙ h)) | inr more ↦ on.other k more ];
            kept = λ k among apart. elim among [ inl e ↦ absurd (apart (e ∙ is)) | inr more ↦ elim more [ inl e ↦ inl e | inr rest ↦ inr (on.kept k rest apart) ] ];
          }
      | inr differs ↦
          let apart : from ≢ before = λ e. differs (sym leads.0 ∙ ap (λ (j : ℕ). get_or next j 0) e ∙ skips.joined) in
          let on = leads_past next after node before end x (y ∷ ys) skips far differs leads.1 in
          record {
            rest = x ∷ on.rest;
            leads = (skips.same from apart away ∙ leads.0, on.leads);
            old = λ k among. elim among [ inl e ↦ inl e | inr more ↦ inr (on.old k more) ];
            other = λ k among. elim among [ inl e ↦ (λ h. differs (sym e ∙ h)) | inr more ↦ on.other k more ];
            kept = λ k among apart. elim among [ inl e ↦ inl e | inr more ↦ inr (on.kept k more apart) ];
          }
    ]

-- before a node that links lead through stands another
came_from : (next : List ℕ) (node end from : ℕ) (nodes : List ℕ) → from ≢ node → LeadsThrough next end from nodes → Among node nodes → (k : ℕ) × (k ≢ node) × (get_or next k 0 ≡ node)
came_from next node end from [] away leads among = absurd among
came_from next node end from (x ∷ xs) away leads among = elim (cases_eq x node) [
  | inl is ↦ (from, away, leads.0 ∙ is)
  | inr differs ↦ elim among [ inl e ↦ absurd (differs (sym e)) | inr more ↦ came_from next node end x xs differs leads.1 more ]
]

-- a slot goes out of its list
module _ (next previous places : List ℕ) (lists slot : ℕ) (linked : IsLinked next previous places lists)
    (in_slots : slot < length places) (in_list : get_or places slot 0 < lists) where
  node_within : lists + slot < length next
  node_within = omega (arith, linked.next_size)

  out_before_within : get_or previous (lists + slot) 0 < length next
  out_before_within = linked.before (lists + slot) node_within

  out_after_within : get_or next (lists + slot) 0 < length next
  out_after_within = linked.within (lists + slot) node_within

  out_joined : get_or next (get_or previous (lists + slot) 0) 0 ≡ lists + slot
  out_joined = linked.forth (lists + slot) node_within

  out_after_back : get_or previous (get_or next (lists + slot) 0) 0 ≡ lists + slot
  out_after_back = linked.back (lists + slot) node_within

  out_unique : (k : ℕ) → get_or next k 0 ≡ lists + slot → k ≡ get_or previous (lists + slot) 0
  out_unique k e = elim (cases_lt k (length next)) [
    | inl fits ↦ sym (linked.back k fits) ∙ ap (λ (j : ℕ). get_or previous j 0) e
    | inr past ↦ absurd (omega (arith, get_or_past next k 0 past))
  ]

  out_before_apart : get_or previous (lists + slot) 0 ≢ lists + slot
  out_before_apart e =
      let ring = linked.rings (get_or places slot 0) in_list in
      let head_apart : get_or places slot 0 ≢ lists + slot = omega arith in
      let came = came_from next (lists + slot) (get_or places slot 0) (get_or places slot 0) ring.0 head_apart ring.1.leads (ring.1.all slot in_slots refl) in
      came.1 (out_unique came.0 came.2 ∙ e)

  out_after_apart : get_or next (lists + slot) 0 ≢ lists + slot
  out_after_apart e = out_before_apart (sym (out_unique (lists + slot) e))

  out_next : (k : ℕ) → Stored (get_or (set (set next (get_or previous (lists + slot) 0) (get_or next (lists + slot) 0)) (lists + slot) (lists + slot)) k 0) k (get_or previous (lists + slot) 0) (get_or next (lists + slot) 0) (lists + slot) (lists + slot) (get_or next k 0)
  out_next k = stored_twice next (get_or previous (lists + slot) 0) (get_or next (lists + slot) 0) (lists + slot) (lists + slot) k out_before_within node_within

  out_previous : (k : ℕ) → Stored (get_or (set (set previous (get_or next (lists + slot) 0) (get_or previous (lists + slot) 0)) (lists + slot) (lists + slot)) k 0) k (get_or next (lists + slot) 0) (get_or previous (lists + slot) 0) (lists + slot) (lists + slot) (get_or previous k 0)
  out_previous k = stored_twice previous (get_or next (lists + slot) 0) (get_or previous (lists + slot) 0) (lists + slot) (lists + slot) k (omega (arith, out_after_within, linked.next_size, linked.previous_size)) (omega (arith, linked.previous_size))

  unlink_within : (k : ℕ) → k < length next → get_or (set (set next (get_or previous (lists + slot) 0) (get_or next (lists + slot) 0)) (lists + slot) (lists + slot)) k 0 < length next
  unlink_within k fits = elim (out_next k) [
    | at_second here is ↦ rw is node_within
    | at_first other here is ↦ rw is out_after_within
    | elsewhere other away is ↦ rw is (linked.within k fits)
  ]

  unlink_before : (k : ℕ) → k < length next → get_or (set (set previous (get_or next (lists + slot) 0) (get_or previous (lists + slot) 0)) (lists + slot) (lists + slot)) k 0 < length next
  unlink_before k fits = elim (out_previous k) [
    | at_second here is ↦ rw is node_within
    | at_first other here is ↦ rw is out_before_within
    | elsewhere other away is ↦ rw is (linked.before k fits)
  ]

  unlink_back : (k : ℕ) → k < length next → get_or (set (set previous (get_or next (lists + slot) 0) (get_or previous (lists + slot) 0)) (lists + slot) (lists + slot)) (get_or (set (set next (get_or previous (lists + slot) 0) (get_or next (lists + slot) 0)) (lists + slot) (lists + slot)) k 0) 0 ≡ k
  unlink_back k fits = elim (out_next k) [
    | at_second here is ↦ rw is (elim (out_previous (lists + slot)) [
      | at_second same reads ↦ reads ∙ sym here
      | at_first other same reads ↦ absurd (other refl)
      | elsewhere other away reads ↦ absurd (other refl)
    ])
    | at_first other here is ↦ rw is (elim (out_previous (get_or next (lists + slot) 0)) [
      | at_second same reads ↦ absurd (out_after_apart same)
      | at_first differs same reads ↦ reads ∙ sym here
      | elsewhere differs away reads ↦ absurd (away refl)
    ])
    | elsewhere other away is ↦ rw is (elim (out_previous (get_or next k 0)) [
      | at_second same reads ↦ absurd (away (out_unique k same))
      | at_first differs same reads ↦ absurd (other (sym (linked.back k fits) ∙ ap (λ (j : ℕ). get_or previous j 0) same ∙ out_after_back))
      | elsewhere differs apart reads ↦ reads ∙ linked.back k fits
    ])
  ]

  unlink_forth : (k : ℕ) → k < length next → get_or (set (set next (get_or previous (lists + slot) 0) (get_or next (lists + slot) 0)) (lists + slot) (lists + slot)) (get_or (set (set previous (get_or next (lists + slot) 0) (get_or previous (lists + slot) 0)) (lists + slot) (lists + slot)) k 0) 0 ≡ k
  unlink_forth k fits = elim (out_previous k) [
    | at_second here is ↦ rw is (elim (out_next (lists + slot)) [
      | at_second same reads ↦ reads ∙ sym here
      | at_first other same reads ↦ absurd (other refl)
      | elsewhere other away reads ↦ absurd (other refl)
    ])
    | at_first other here is ↦ rw is (elim (out_next (get_or previous (lists + slot) 0)) [
      | at_second same reads ↦ absurd (out_before_apart same)
      | at_first differs same reads ↦ reads ∙ sym here
      | elsewhere differs away reads ↦ absurd (away refl)
    ])
    | elsewhere other away is ↦ rw is (elim (out_next (get_or previous k 0)) [
      | at_second same reads ↦ absurd (away (sym (linked.forth k fits) ∙ ap (λ (j : ℕ). get_or next j 0) same))
      | at_first differs same reads ↦ absurd (other (sym (linked.forth k fits) ∙ ap (λ (j : ℕ). get_or next j 0) same ∙ out_joined))
      | elsewhere differs apart reads ↦ reads ∙ linked.forth k fits
    ])
  ]

  unlink_loose : (k : ℕ) → k < length (set places slot lists) → get_or (set places slot lists) k 0 ≡ lists → get_or (set (set next (get_or previous (lists + slot) 0) (get_or next (lists + slot) 0)) (lists + slot) (lists + slot)) (lists + k) 0 ≡ lists + k
  unlink_loose k fits place =
      elim (out_next (lists + k)) [
        | at_second same reads ↦ reads ∙ sym same
        | at_first differs same reads ↦
            let apart : k ≢ slot = λ e. differs (ap (λ (j : ℕ). lists + j) e) in
            let old : get_or places k 0 ≡ lists = sym (get_or-set_other places slot k lists 0 apart) ∙ place in
            let inside : k < length places = omega (arith, length-set places slot lists) in
            let loop = linked.loose k inside old in
            absurd (differs (sym loop ∙ ap (λ (j : ℕ). get_or next j 0) same ∙ out_joined))
        | elsewhere differs away reads ↦
            let apart : k ≢ slot = λ e. differs (ap (λ (j : ℕ). lists + j) e) in
            let old : get_or places k 0 ≡ lists = sym (get_or-set_other places slot k lists 0 apart) ∙ place in
            let inside : k < length places = omega (arith, length-set places slot lists) in
            reads ∙ linked.loose k inside old
      ]

  unlink_placed : (k : ℕ) → k < length (set places slot lists) → get_or (set places slot lists) k 0 ≤ lists
  unlink_placed k fits = elim (stored places slot lists k in_slots) [
    | inl here ↦ omega (arith, here.1)
    | inr away ↦ let inside : k < length places = omega (arith, length-set places slot lists) in rw (away.1) (linked.placed k inside)
  ]

  unlink_skips : Skips next (set (set next (get_or previous (lists + slot) 0) (get_or next (lists + slot) 0)) (lists + slot) (lists + slot)) (lists + slot) (get_or previous (lists + slot) 0)
  unlink_skips = record {
    joined = out_joined;
    skip = elim (out_next (get_or previous (lists + slot) 0)) [
      | at_second same reads ↦ absurd (out_before_apart same)
      | at_first differs same reads ↦ reads
      | elsewhere differs away reads ↦ absurd (away refl)
    ];
    same = λ k other differs. elim (out_next k) [
      | at_second same reads ↦ absurd (differs same)
      | at_first apart same reads ↦ absurd (other same)
      | elsewhere apart away reads ↦ reads
    ];
    unique = out_unique;
  }

  unlink_ring : (list : ℕ) → list < lists → (nodes : List ℕ) × IsRing (set (set next (get_or previous (lists + slot) 0) (get_or next (lists + slot) 0)) (lists + slot) (lists + slot)) (set places slot lists) lists list nodes
  unlink_ring list low =
      let old = linked.rings list low in
      let size : length (set places slot lists) ≡ length places = length-set places slot lists in
      let far : list ≢ lists + slot = omega arith in
      let past = leads_past next _ (lists + slot) (get_or previous (lists + slot) 0) list list old.0 unlink_skips far far old.1.leads in (
        past.rest,
        record {
          leads = past.leads;
          all = λ k fits place. elim (stored places slot lists k in_slots) [
            | inl here ↦ absurd (omega (arith, here.1, place))
            | inr away ↦ past.kept (lists + k) (old.1.all k (omega (arith, size)) (sym away.1 ∙ place)) (λ e. away.0 (omega arith))
          ];
          only = λ k among.
              let found = old.1.only k (past.old k among) in
              let apart : found.0 ≢ slot = λ e. past.other k among (found.2 ∙ ap (λ (j : ℕ). lists + j) e) in
              (found.0, omega (arith, size, found.1), found.2, get_or-set_other places slot found.0 lists 0 apart ∙ found.3);
        },
      )

  pub IsLinked-unlink : IsLinked (set (set next (get_or previous (lists + slot) 0) (get_or next (lists + slot) 0)) (lists + slot) (lists + slot)) (set (set previous (get_or next (lists + slot) 0) (get_or previous (lists + slot) 0)) (lists + slot) (lists + slot)) (set places slot lists) lists
  IsLinked-unlink =
      let next_kept : length (set (set next (get_or previous (lists + slot) 0) (get_or next (lists + slot) 0)) (lists + slot) (lists + slot)) ≡ length next = simp length-set in
      let previous_kept : length (set (set previous (get_or next (lists + slot) 0) (get_or previous (lists + slot) 0)) (lists + slot) (lists + slot)) ≡ length previous = simp length-set in
      let places_kept : length (set places slot lists) ≡ length places = length-set places slot lists in
      record {
        next_size = omega (arith, linked.next_size);
        previous_size = omega (arith, linked.previous_size);
        size = omega (arith, linked.size);
        within = λ k fits. rw next_kept (unlink_within k (omega arith));
        back = λ k fits. unlink_back k (omega arith);
        before = λ k fits. rw next_kept (unlink_before k (omega arith));
        forth = λ k fits. unlink_forth k (omega arith);
        loose = unlink_loose;
        placed = unlink_placed;
        rings = unlink_ring;
      }

-- no slot stands in a list, and each node leads to itself
pub IsLinked-alone : (next previous places : List ℕ) (lists : ℕ) → length next ≡ lists + length places → length previous ≡ lists + length places → lists + length places < 2 ^ 32
    → ((k : ℕ) → k < length next → get_or next k 0 ≡ k) → ((k : ℕ) → k < length previous → get_or previous k 0 ≡ k) → ((k : ℕ) → k < length places → get_or places k 0 ≡ lists) → IsLinked next previous places lists
IsLinked-alone next previous places lists next_size previous_size size forward backward loose = record {
  next_size = next_size;
  previous_size = previous_size;
  size = size;
  within = λ k fits. rw (forward k fits) fits;
  back = λ k fits. rw (forward k fits) (backward k (omega arith));
  before = λ k fits. rw (backward k (omega arith)) fits;
  forth = λ k fits. rw (backward k (omega arith)) (forward k fits);
  loose = λ k fits place. forward (lists + k) (omega arith);
  placed = λ k fits. omega (arith, loose k fits);
  rings = λ list low. (
    [],
    record {
      leads = forward list (omega arith);
      all = λ k fits place. absurd (omega (arith, loose k fits, place));
      only = λ k among. absurd among;
    },
  );
}
