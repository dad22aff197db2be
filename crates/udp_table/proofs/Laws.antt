-- The laws of rows.
use Rattle.std.proofs.Common.{◌≡◌, ◌≢◌, ℕ, zero, suc, ◌<◌, ◌≤◌, Bool, true, false, not, List, [], ◌∷◌, length, map, refl, sym, ap, ◌∙◌, arith}
use Rattle.std.specs.Prelude.{slice_index_or, nat_eq, if◌then◌else◌, IsPermutation}
use Rattle.std.proofs.Math.ListN.{get_or-map}
use Rattle.std.proofs.lemmas.List.Elements.{Contains-get_or}
use Rattle.std.proofs.lemmas.List.Sorted.{IsPermutation-sym, All-permutation, Contains-permutation}
use Rattle.level_range.specs.declared.range.Logic.{Logic}
use Rattle.udp_table.specs.declared.symbols.Sym.{Sym}
use Rattle.udp_table.specs.declared.symbols.Sym.TheVariants.{Zero, One, X, Any, Both, Same, Rise, Fall, Pos, Neg, Change, Edge}
use Rattle.udp_table.specs.declared.rows.UdpRow.{UdpRow}
use Rattle.udp_table.specs.Symbols.{Pin, admits, has_value, has_change, same_value}
use Rattle.udp_table.specs.Pairs.{pairwise}
use Rattle.udp_table.specs.Rows.{is_edge, edge_count, admits_state, matches, Overlap, IsWellFormed, IsLevelSensitive, HasEdgeAt, HasSameEdges, row_at, no_row}
use Rattle.udp_table.specs.Primitive.{Primitive, Agrees, IsAccepted}
use Rattle.udp_table.specs.LookUp.{level_inputs, edge_inputs, HasSameRows}
use Rattle.udp_table.specs.Laws.{IsSamePrimitive, RowLaws}
use Rattle.udp_table.proofs.Pairs.{and_left, and_right}
use Rattle.udp_table.proofs.MatchingLemmas.{same_value-self}
use Rattle.udp_table.proofs.Order.{IsConsistent-Agrees, level_value-same, state_after-same}

-- a symbol that has a value is no edge, and one that contains a change is one
value-no_edge : (s : Sym) (v : Logic) → has_value s v ≡ true → is_edge s ≡ false
value-no_edge Zero v h = refl
value-no_edge One v h = refl
value-no_edge X v h = refl
value-no_edge Any v h = refl
value-no_edge Both v h = refl
value-no_edge Same v h = refl
value-no_edge Rise v h = cc
value-no_edge Fall v h = cc
value-no_edge Pos v h = cc
value-no_edge Neg v h = cc
value-no_edge Change v h = cc
value-no_edge (Edge a b) v h = cc

change-edge : (s : Sym) (v w : Logic) → has_change s v w ≡ true → is_edge s ≡ true
change-edge Zero v w h = cc
change-edge One v w h = cc
change-edge X v w h = cc
change-edge Any v w h = cc
change-edge Both v w h = cc
change-edge Same v w h = cc
change-edge Rise v w h = refl
change-edge Fall v w h = refl
change-edge Pos v w h = refl
change-edge Neg v w h = refl
change-edge Change v w h = refl
change-edge (Edge a b) v w h = refl

-- whether the input changes
abbrev changes : Pin → Bool
changes p = not (same_value p.was p.now)

admits-edge : (s : Sym) (p : Pin) → admits s p ≡ true → is_edge s ≡ changes p
admits-edge s p h = by_test (same_value p.was p.now) h
  where
    by_test : (b : Bool) → (if b then has_value s p.now else has_change s p.was p.now) ≡ true → is_edge s ≡ not b
    by_test true h = value-no_edge s p.now h
    by_test false h = change-edge s p.was p.now h

-- the edges of a row that matches stand at the inputs that change
admits_all-edges : (ss : List Sym) (pins : List Pin) → pairwise admits ss pins ≡ true → map is_edge ss ≡ map changes pins
admits_all-edges [] [] h = refl
admits_all-edges [] (p ∷ pins) h = absurd (let e = h in cc)
admits_all-edges (s ∷ ss) [] h = absurd (let e = h in cc)
admits_all-edges (s ∷ ss) (p ∷ pins) h =
    let first : is_edge s ≡ changes p = admits-edge s p (and_left (admits s p) (pairwise admits ss pins) h) in
    let rest : map is_edge ss ≡ map changes pins = admits_all-edges ss pins (and_right (admits s p) (pairwise admits ss pins) h) in
    ap (λ b. b ∷ map is_edge ss) first ∙ ap (λ bs. changes p ∷ bs) rest

level_inputs-keep : (values : List Logic) (k : ℕ) → slice_index_or (map changes (level_inputs values)) k false ≡ false
level_inputs-keep [] k = refl
level_inputs-keep (v ∷ values) zero = ap not (same_value-self v)
level_inputs-keep (v ∷ values) (suc k) = level_inputs-keep values k

nat_eq-self : (n : ℕ) → nat_eq n n ≡ true
nat_eq-self n = grind arith

nat_eq-apart : (m n : ℕ) → m ≢ n → nat_eq m n ≡ false
nat_eq-apart m n h = grind (arith, h)

nat_eq-suc : (m n : ℕ) → nat_eq m n ≡ nat_eq (suc m) (suc n)
nat_eq-suc m n = grind arith

edge_inputs-change : (before : List Logic) (was now : Logic) (after : List Logic) (k : ℕ) → same_value was now ≡ false →
    slice_index_or (map changes (edge_inputs before was now after)) k false ≡ nat_eq k (length before)
edge_inputs-change [] was now after zero e = ap not e
edge_inputs-change [] was now after (suc k) e = level_inputs-keep after k ∙ sym (nat_eq-apart (suc k) 0 (λ f. omega (arith, f)))
edge_inputs-change (v ∷ before) was now after zero e =
    ap not (same_value-self v) ∙ sym (nat_eq-apart 0 (suc (length before)) (λ f. omega (arith, f)))
edge_inputs-change (v ∷ before) was now after (suc k) e =
    edge_inputs-change before was now after k e ∙ nat_eq-suc k (length before)

row-edges : (row : UdpRow) (pins : List Pin) (state : Logic) → matches row pins state ≡ true → map is_edge row.ins ≡ map changes pins
row-edges row pins state h =
    admits_all-edges row.ins pins (and_left (pairwise admits row.ins pins) (admits_state row.state state) h)

row-edge_at : (row : UdpRow) (pins : List Pin) (state : Logic) (k : ℕ) → matches row pins state ≡ true →
    is_edge (slice_index_or row.ins k Same) ≡ slice_index_or (map changes pins) k false
row-edge_at row pins state k h =
    sym (get_or-map is_edge row.ins k Same) ∙ ap (λ bs. slice_index_or bs k false) (row-edges row pins state h)

level-match : (row : UdpRow) (values : List Logic) (state : Logic) → matches row (level_inputs values) state ≡ true → IsLevelSensitive row
level-match row values state h k lt = row-edge_at row (level_inputs values) state k h ∙ level_inputs-keep values k

edge-match : (row : UdpRow) (before : List Logic) (was now : Logic) (after : List Logic) (state : Logic) → same_value was now ≡ false →
    matches row (edge_inputs before was now after) state ≡ true → HasEdgeAt row (length before)
edge-match row before was now after state e h = record {
  within = within (length before) here;
  edge = here;
  others = λ i lt apart. at i ∙ nat_eq-apart i (length before) apart;
}
  where
    at : (i : ℕ) → is_edge (slice_index_or row.ins i Same) ≡ nat_eq i (length before)
    at i = row-edge_at row (edge_inputs before was now after) state i h ∙ edge_inputs-change before was now after i e

    here : is_edge (slice_index_or row.ins (length before) Same) ≡ true
    here = at (length before) ∙ nat_eq-self (length before)

    inside : (ss : List Sym) (k : ℕ) → is_edge (slice_index_or ss k Same) ≡ true → k < length ss
    inside [] k f = cc
    inside (s ∷ ss) zero f = omega arith
    inside (s ∷ ss) (suc k) f = let g = inside ss k f in omega arith

    within : (k : ℕ) → is_edge (slice_index_or row.ins k Same) ≡ true → k < length row.ins
    within k f = inside row.ins k f

overlap-edges : (r s : UdpRow) → Overlap r s → HasSameEdges r s
overlap-edges r s o = row-edges r o.pins o.state o.first ∙ sym (row-edges s o.pins o.state o.second)

-- the order of the rows
same-rows : (rows others : List UdpRow) → IsPermutation rows others → HasSameRows rows others
same-rows rows others moved = λ row.
    (Contains-permutation rows others row moved, Contains-permutation others rows row (IsPermutation-sym rows others moved))

agrees-moved : (rows others : List UdpRow) → Agrees rows → IsPermutation rows others → Agrees others
agrees-moved rows others agrees moved i j lt within o =
    let back = IsPermutation-sym rows others moved in
    IsConsistent-Agrees rows agrees (row_at others i) (row_at others j)
    (Contains-permutation others rows (row_at others i) back (Contains-get_or others i no_row (omega arith)))
    (Contains-permutation others rows (row_at others j) back (Contains-get_or others j no_row within))
    o.pins o.state o.first o.second

any-order : (u : Primitive) (others : List UdpRow) → IsAccepted u → IsPermutation u.rows others → IsSamePrimitive u others
any-order u others accepted moved = record {
  accepted = record {
    inputs = accepted.inputs;
    start = accepted.start;
    rows = All-permutation (IsWellFormed u.inputs u.sequential) u.rows others moved accepted.rows;
    edges = All-permutation (λ row. edge_count row ≤ 1) u.rows others moved accepted.edges;
    agrees = agrees-moved u.rows others accepted.agrees moved;
  };
  level = λ ins. sym (level_value-same u.rows others accepted.agrees (same-rows u.rows others moved) ins);
  changes = λ old new state. sym (state_after-same u.rows others accepted.agrees (same-rows u.rows others moved) old new state);
}

pub row-laws : RowLaws
row-laws = record { level = level-match; edge = edge-match; overlap = overlap-edges; order = any-order }
