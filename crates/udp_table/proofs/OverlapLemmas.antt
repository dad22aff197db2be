-- Two rows overlap where their symbols meet.
use Rattle.std.proofs.Common.{◌≡◌, Bool, true, false, ◌&&◌, ◌||◌, List, [], ◌∷◌, refl, ◌⊎◌, inl, inr, arith}
use Rattle.std.specs.Prelude.{Option, Some, None}
use Rattle.std.specs.Bool.{Decides}
use Rattle.level_range.specs.declared.range.Logic.{Logic}
use Rattle.level_range.specs.declared.range.Logic.TheVariants as value
use Rattle.udp_table.specs.declared.symbols.Base.{Base}
use Rattle.udp_table.specs.declared.symbols.Sym.{Sym}
use Rattle.udp_table.specs.declared.symbols.Sym.TheVariants.{Zero, One, X, Any, Both, Same, Rise, Fall, Pos, Neg, Change, Edge}
use Rattle.udp_table.specs.declared.rows.UdpRow.{UdpRow}
use Rattle.udp_table.specs.Pairs.{pairwise}
use Rattle.udp_table.specs.Symbols.{Pin, admits, base_has, base_of, some_has, is_change, has_value, has_change}
use Rattle.udp_table.specs.Rows.{admits_state, Overlap}
use Rattle.udp_table.specs.Tests.{both_have, share_value, both_contain, share_change, meet, meet_all, meet_state, overlap_test}
use Rattle.udp_table.proofs.Pairs.{and_left, and_right}
use Rattle.udp_table.proofs.SymbolLemmas.{Decides-value_test}

or_left : (a b : Bool) → a ≡ true → (a || b) ≡ true
or_left true b h = refl
or_left false b h = absurd (let e = h in cc)

or_right : (a b : Bool) → b ≡ true → (a || b) ≡ true
or_right true b h = refl
or_right false b h = h

or_cases : (a b : Bool) → (a || b) ≡ true → (a ≡ true) ⊎ (b ≡ true)
or_cases true b h = inl refl
or_cases false b h = inr h

and_true : (a b : Bool) → a ≡ true → b ≡ true → (a && b) ≡ true
and_true true b h g = g
and_true false b h g = absurd (let e = h in cc)

-- z is no value of a symbol
no_value_z : (s : Sym) → has_value s value.Z ≡ true → ⊥
no_value_z s h = no_base_z (base_of s) h
  where
    no_z : (b : Base) → base_has b value.Z ≡ true → ⊥
    no_z b h = grind (arith, h)

    no_base_z : (b : Option Base) → some_has b value.Z ≡ true → ⊥
    no_base_z None h = cc
    no_base_z (Some b) h = no_z b h

-- what a symbol contains are changes
no_edge : (a b : Base) (v w : Logic) → is_change v w ≡ false → (base_has a v && base_has b w && is_change v w) ≡ true → ⊥
no_edge a b v w h e = absurd (let f = and_right (base_has a v && base_has b w) (is_change v w) e in cc)

no_change : (s : Sym) (v w : Logic) → is_change v w ≡ false → has_change s v w ≡ true → ⊥
no_change (Edge a b) v w h e = no_edge a b v w h e
no_change Change v w h e = absurd (let f = h in let g = e in cc)
no_change Zero v w h e = absurd (let g = e in cc)
no_change One v w h e = absurd (let g = e in cc)
no_change X v w h e = absurd (let g = e in cc)
no_change Any v w h e = absurd (let g = e in cc)
no_change Both v w h e = absurd (let g = e in cc)
no_change Same v w h e = absurd (let g = e in cc)
no_change Rise v w h e = grind (arith, h, e)
no_change Fall v w h e = grind (arith, h, e)
no_change Pos v w h e = grind (arith, h, e)
no_change Neg v w h e = grind (arith, h, e)

-- the pin is admitted by both symbols
abbrev Common : Sym → Sym → Type 0
Common s t = (p : Pin) × (admits s p ≡ true) × (admits t p ≡ true)

abbrev pin : Logic → Logic → Pin
pin v w = record { was = v; now = w }

share_value-sound : (s t : Sym) → share_value s t ≡ true → (v : Logic) × (has_value s v ≡ true) × (has_value t v ≡ true)
share_value-sound s t h =
    elim (or_cases (both_have s t value.Zero) (both_have s t value.One || both_have s t value.X) h) [
      | inl e ↦ (value.Zero, and_left (has_value s value.Zero) (has_value t value.Zero) e, and_right (has_value s value.Zero) (has_value t value.Zero) e)
      | inr o ↦ elim (or_cases (both_have s t value.One) (both_have s t value.X) o) [
        | inl e ↦ (value.One, and_left (has_value s value.One) (has_value t value.One) e, and_right (has_value s value.One) (has_value t value.One) e)
        | inr e ↦ (value.X, and_left (has_value s value.X) (has_value t value.X) e, and_right (has_value s value.X) (has_value t value.X) e)
      ]
    ]

pub share_value-total : (s t : Sym) (v : Logic) → has_value s v ≡ true → has_value t v ≡ true → share_value s t ≡ true
share_value-total s t value.Zero h g = or_left (both_have s t value.Zero) _ (and_true (has_value s value.Zero) (has_value t value.Zero) h g)
share_value-total s t value.One h g =
    or_right (both_have s t value.Zero) (both_have s t value.One || both_have s t value.X)
    (or_left (both_have s t value.One) (both_have s t value.X) (and_true (has_value s value.One) (has_value t value.One) h g))
share_value-total s t value.X h g =
    or_right (both_have s t value.Zero) (both_have s t value.One || both_have s t value.X)
    (or_right (both_have s t value.One) (both_have s t value.X) (and_true (has_value s value.X) (has_value t value.X) h g))
share_value-total s t value.Z h g = absurd (no_value_z s h)

share_change-sound : (s t : Sym) → share_change s t ≡ true → Common s t
share_change-sound s t h =
    elim (or_cases (both_contain s t value.Zero value.One) (both_contain s t value.Zero value.X || (both_contain s t value.One value.Zero || (both_contain s t value.One value.X || (both_contain s t value.X value.Zero || (both_contain s t value.X value.One))))) h) [ inl e ↦ (pin value.Zero value.One, and_left (has_change s value.Zero value.One) (has_change t value.Zero value.One) e, and_right (has_change s value.Zero value.One) (has_change t value.Zero value.One) e) | inr o0 ↦ elim (or_cases (both_contain s t value.Zero value.X) (both_contain s t value.One value.Zero || (both_contain s t value.One value.X || (both_contain s t value.X value.Zero || (both_contain s t value.X value.One)))) o0) [ inl e ↦ (pin value.Zero value.X, and_left (has_change s value.Zero value.X) (has_change t value.Zero value.X) e, and_right (has_change s value.Zero value.X) (has_change t value.Zero value.X) e) | inr o1 ↦ elim (or_cases (both_contain s t value.One value.Zero) (both_contain s t value.One value.X || (both_contain s t value.X value.Zero || (both_contain s t value.X value.One))) o1) [ inl e ↦ (pin value.One value.Zero, and_left (has_change s value.One value.Zero) (has_change t value.One value.Zero) e, and_right (has_change s value.One value.Zero) (has_change t value.One value.Zero) e) | inr o2 ↦ elim (or_cases (both_contain s t value.One value.X) (both_contain s t value.X value.Zero || (both_contain s t value.X value.One)) o2) [ inl e ↦ (pin value.One value.X, and_left (has_change s value.One value.X) (has_change t value.One value.X) e, and_right (has_change s value.One value.X) (has_change t value.One value.X) e) | inr o3 ↦ elim (or_cases (both_contain s t value.X value.Zero) (both_contain s t value.X value.One) o3) [ inl e ↦ (pin value.X value.Zero, and_left (has_change s value.X value.Zero) (has_change t value.X value.Zero) e, and_right (has_change s value.X value.Zero) (has_change t value.X value.Zero) e) | inr o4 ↦ (pin value.X value.One, and_left (has_change s value.X value.One) (has_change t value.X value.One) o4, and_right (has_change s value.X value.One) (has_change t value.X value.One) o4) ] ] ] ] ]

share_change-total : (s t : Sym) (v w : Logic) → has_change s v w ≡ true → has_change t v w ≡ true → share_change s t ≡ true
share_change-total s t value.Zero value.Zero h g = absurd (no_change s value.Zero value.Zero refl h)
share_change-total s t value.Zero value.One h g = or_left (both_contain s t value.Zero value.One) (both_contain s t value.Zero value.X || (both_contain s t value.One value.Zero || (both_contain s t value.One value.X || (both_contain s t value.X value.Zero || (both_contain s t value.X value.One))))) (and_true (has_change s value.Zero value.One) (has_change t value.Zero value.One) h g)
share_change-total s t value.Zero value.X h g = or_right (both_contain s t value.Zero value.One) (both_contain s t value.Zero value.X || (both_contain s t value.One value.Zero || (both_contain s t value.One value.X || (both_contain s t value.X value.Zero || (both_contain s t value.X value.One))))) (or_left (both_contain s t value.Zero value.X) (both_contain s t value.One value.Zero || (both_contain s t value.One value.X || (both_contain s t value.X value.Zero || (both_contain s t value.X value.One)))) (and_true (has_change s value.Zero value.X) (has_change t value.Zero value.X) h g))
share_change-total s t value.Zero value.Z h g = absurd (no_change s value.Zero value.Z refl h)
share_change-total s t value.One value.Zero h g = or_right (both_contain s t value.Zero value.One) (both_contain s t value.Zero value.X || (both_contain s t value.One value.Zero || (both_contain s t value.One value.X || (both_contain s t value.X value.Zero || (both_contain s t value.X value.One))))) (or_right (both_contain s t value.Zero value.X) (both_contain s t value.One value.Zero || (both_contain s t value.One value.X || (both_contain s t value.X value.Zero || (both_contain s t value.X value.One)))) (or_left (both_contain s t value.One value.Zero) (both_contain s t value.One value.X || (both_contain s t value.X value.Zero || (both_contain s t value.X value.One))) (and_true (has_change s value.One value.Zero) (has_change t value.One value.Zero) h g)))
share_change-total s t value.One value.One h g = absurd (no_change s value.One value.One refl h)
share_change-total s t value.One value.X h g = or_right (both_contain s t value.Zero value.One) (both_contain s t value.Zero value.X || (both_contain s t value.One value.Zero || (both_contain s t value.One value.X || (both_contain s t value.X value.Zero || (both_contain s t value.X value.One))))) (or_right (both_contain s t value.Zero value.X) (both_contain s t value.One value.Zero || (both_contain s t value.One value.X || (both_contain s t value.X value.Zero || (both_contain s t value.X value.One)))) (or_right (both_contain s t value.One value.Zero) (both_contain s t value.One value.X || (both_contain s t value.X value.Zero || (both_contain s t value.X value.One))) (or_left (both_contain s t value.One value.X) (both_contain s t value.X value.Zero || (both_contain s t value.X value.One)) (and_true (has_change s value.One value.X) (has_change t value.One value.X) h g))))
share_change-total s t value.One value.Z h g = absurd (no_change s value.One value.Z refl h)
share_change-total s t value.X value.Zero h g = or_right (both_contain s t value.Zero value.One) (both_contain s t value.Zero value.X || (both_contain s t value.One value.Zero || (both_contain s t value.One value.X || (both_contain s t value.X value.Zero || (both_contain s t value.X value.One))))) (or_right (both_contain s t value.Zero value.X) (both_contain s t value.One value.Zero || (both_contain s t value.One value.X || (both_contain s t value.X value.Zero || (both_contain s t value.X value.One)))) (or_right (both_contain s t value.One value.Zero) (both_contain s t value.One value.X || (both_contain s t value.X value.Zero || (both_contain s t value.X value.One))) (or_right (both_contain s t value.One value.X) (both_contain s t value.X value.Zero || (both_contain s t value.X value.One)) (or_left (both_contain s t value.X value.Zero) (both_contain s t value.X value.One) (and_true (has_change s value.X value.Zero) (has_change t value.X value.Zero) h g)))))
share_change-total s t value.X value.One h g = or_right (both_contain s t value.Zero value.One) (both_contain s t value.Zero value.X || (both_contain s t value.One value.Zero || (both_contain s t value.One value.X || (both_contain s t value.X value.Zero || (both_contain s t value.X value.One))))) (or_right (both_contain s t value.Zero value.X) (both_contain s t value.One value.Zero || (both_contain s t value.One value.X || (both_contain s t value.X value.Zero || (both_contain s t value.X value.One)))) (or_right (both_contain s t value.One value.Zero) (both_contain s t value.One value.X || (both_contain s t value.X value.Zero || (both_contain s t value.X value.One))) (or_right (both_contain s t value.One value.X) (both_contain s t value.X value.Zero || (both_contain s t value.X value.One)) (or_right (both_contain s t value.X value.Zero) (both_contain s t value.X value.One) (and_true (has_change s value.X value.One) (has_change t value.X value.One) h g)))))
share_change-total s t value.X value.X h g = absurd (no_change s value.X value.X refl h)
share_change-total s t value.X value.Z h g = absurd (no_change s value.X value.Z refl h)
share_change-total s t value.Z value.Zero h g = absurd (no_change s value.Z value.Zero refl h)
share_change-total s t value.Z value.One h g = absurd (no_change s value.Z value.One refl h)
share_change-total s t value.Z value.X h g = absurd (no_change s value.Z value.X refl h)
share_change-total s t value.Z value.Z h g = absurd (no_change s value.Z value.Z refl h)

-- symbols meet where one pin is admitted by both
meet-sound : (s t : Sym) → meet s t ≡ true → Common s t
meet-sound s t h =
    elim (or_cases (share_value s t) (share_change s t) h) [
      | inl e ↦ let w = share_value-sound s t e in stands s t w.0 w.1 w.2
      | inr e ↦ share_change-sound s t e
    ]
  where
    stands : (s t : Sym) (v : Logic) → has_value s v ≡ true → has_value t v ≡ true → Common s t
    stands s t value.Zero h g = (pin value.Zero value.Zero, h, g)
    stands s t value.One h g = (pin value.One value.One, h, g)
    stands s t value.X h g = (pin value.X value.X, h, g)
    stands s t value.Z h g = (pin value.Z value.Z, h, g)

meet-total : (s t : Sym) (v w : Logic) → admits s (pin v w) ≡ true → admits t (pin v w) ≡ true → meet s t ≡ true
meet-total s t value.Zero value.Zero h g = or_left (share_value s t) (share_change s t) (share_value-total s t value.Zero h g)
meet-total s t value.Zero value.One h g = or_right (share_value s t) (share_change s t) (share_change-total s t value.Zero value.One h g)
meet-total s t value.Zero value.X h g = or_right (share_value s t) (share_change s t) (share_change-total s t value.Zero value.X h g)
meet-total s t value.Zero value.Z h g = or_right (share_value s t) (share_change s t) (share_change-total s t value.Zero value.Z h g)
meet-total s t value.One value.Zero h g = or_right (share_value s t) (share_change s t) (share_change-total s t value.One value.Zero h g)
meet-total s t value.One value.One h g = or_left (share_value s t) (share_change s t) (share_value-total s t value.One h g)
meet-total s t value.One value.X h g = or_right (share_value s t) (share_change s t) (share_change-total s t value.One value.X h g)
meet-total s t value.One value.Z h g = or_right (share_value s t) (share_change s t) (share_change-total s t value.One value.Z h g)
meet-total s t value.X value.Zero h g = or_right (share_value s t) (share_change s t) (share_change-total s t value.X value.Zero h g)
meet-total s t value.X value.One h g = or_right (share_value s t) (share_change s t) (share_change-total s t value.X value.One h g)
meet-total s t value.X value.X h g = or_left (share_value s t) (share_change s t) (share_value-total s t value.X h g)
meet-total s t value.X value.Z h g = or_right (share_value s t) (share_change s t) (share_change-total s t value.X value.Z h g)
meet-total s t value.Z value.Zero h g = or_right (share_value s t) (share_change s t) (share_change-total s t value.Z value.Zero h g)
meet-total s t value.Z value.One h g = or_right (share_value s t) (share_change s t) (share_change-total s t value.Z value.One h g)
meet-total s t value.Z value.X h g = or_right (share_value s t) (share_change s t) (share_change-total s t value.Z value.X h g)
meet-total s t value.Z value.Z h g = or_left (share_value s t) (share_change s t) (share_value-total s t value.Z h g)

meet_all-sound : (ss ts : List Sym) → pairwise meet ss ts ≡ true → (pins : List Pin) × (pairwise admits ss pins ≡ true) × (pairwise admits ts pins ≡ true)
meet_all-sound [] [] h = ([], refl, refl)
meet_all-sound (s ∷ ss) (t ∷ ts) h =
    let p = meet-sound s t (and_left (meet s t) (pairwise meet ss ts) h) in
    let rest = meet_all-sound ss ts (and_right (meet s t) (pairwise meet ss ts) h) in
    (p.0 ∷ rest.0, and_true (admits s p.0) (pairwise admits ss rest.0) p.1 rest.1, and_true (admits t p.0) (pairwise admits ts rest.0) p.2 rest.2)
meet_all-sound [] (t ∷ ts) h = absurd (let e = h in cc)
meet_all-sound (s ∷ ss) [] h = absurd (let e = h in cc)

meet_all-total : (ss ts : List Sym) (pins : List Pin) → pairwise admits ss pins ≡ true → pairwise admits ts pins ≡ true → pairwise meet ss ts ≡ true
meet_all-total [] [] pins h g = refl
meet_all-total (s ∷ ss) (t ∷ ts) (p ∷ pins) h g =
    and_true (meet s t) (pairwise meet ss ts)
    (meet-total s t p.was p.now (and_left (admits s p) (pairwise admits ss pins) h) (and_left (admits t p) (pairwise admits ts pins) g))
    (meet_all-total ss ts pins (and_right (admits s p) (pairwise admits ss pins) h) (and_right (admits t p) (pairwise admits ts pins) g))
meet_all-total (s ∷ ss) (t ∷ ts) [] h g = absurd (let e = h in cc)
meet_all-total [] (t ∷ ts) [] h g = absurd (let e = g in cc)
meet_all-total [] (t ∷ ts) (p ∷ pins) h g = absurd (let e = h in cc)
meet_all-total (s ∷ ss) [] [] h g = absurd (let e = h in cc)
meet_all-total (s ∷ ss) [] (p ∷ pins) h g = absurd (let e = g in cc)

meet_state-sound : (r s : Option Sym) → meet_state r s ≡ true → (v : Logic) × (admits_state r v ≡ true) × (admits_state s v ≡ true)
meet_state-sound None None h = (value.Zero, refl, refl)
meet_state-sound None (Some t) h = let w = (Decides-value_test t).0 h in (w.0, refl, w.1)
meet_state-sound (Some s) None h = let w = (Decides-value_test s).0 h in (w.0, w.1, refl)
meet_state-sound (Some s) (Some t) h = share_value-sound s t h

meet_state-total : (r s : Option Sym) (v : Logic) → admits_state r v ≡ true → admits_state s v ≡ true → meet_state r s ≡ true
meet_state-total None None v h g = refl
meet_state-total None (Some t) v h g = (Decides-value_test t).1 (v, g)
meet_state-total (Some s) None v h g = (Decides-value_test s).1 (v, h)
meet_state-total (Some s) (Some t) v h g = share_value-total s t v h g

-- two rows overlap exactly where the test says so
pub Decides-overlap_test : (r s : UdpRow) → Decides (overlap_test r s) (Overlap r s)
Decides-overlap_test r s = (sound, total)
  where
    sound : overlap_test r s ≡ true → Overlap r s
    sound h =
        let p = meet_all-sound r.ins s.ins (and_left (meet_all r.ins s.ins) (meet_state r.state s.state) h) in
        let v = meet_state-sound r.state s.state (and_right (meet_all r.ins s.ins) (meet_state r.state s.state) h) in
        record {
          pins = p.0;
          state = v.0;
          first = and_true (pairwise admits r.ins p.0) (admits_state r.state v.0) p.1 v.1;
          second = and_true (pairwise admits s.ins p.0) (admits_state s.state v.0) p.2 v.2;
        }

    total : Overlap r s → overlap_test r s ≡ true
    total o =
        and_true (meet_all r.ins s.ins) (meet_state r.state s.state)
        (meet_all-total r.ins s.ins o.pins (and_left (pairwise admits r.ins o.pins) (admits_state r.state o.state) o.first) (and_left (pairwise admits s.ins o.pins) (admits_state s.state o.state) o.second))
        (meet_state-total r.state s.state o.state (and_right (pairwise admits r.ins o.pins) (admits_state r.state o.state) o.first) (and_right (pairwise admits s.ins o.pins) (admits_state s.state o.state) o.second))
