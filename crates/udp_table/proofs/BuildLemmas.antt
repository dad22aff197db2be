-- Clashes of rows, from the test of two rows.
use Rattle.std.proofs.Common.{◌≡◌, ◌≢◌, ℕ, ◌<◌, Bool, true, false, not, ◌&&◌, List, length, refl, sym, ap, ◌∙◌, arith}
use Rattle.std.specs.List.{All}
use Rattle.level_range.specs.declared.range.Logic.{Logic}
use Rattle.level_range.specs.declared.range.Logic.TheVariants.{Z}
use Rattle.udp_table.specs.declared.rows.UdpRow.{UdpRow}
use Rattle.udp_table.specs.declared.symbols.Sym.{Sym}
use Rattle.udp_table.specs.Rows.{row_at, IsWellFormed}
use Rattle.udp_table.specs.Primitive.{Agrees, IsCount, IsAccepted}
use Rattle.udp_table.specs.Tests.{overlap_test, same_symbol, clash_test}
use Rattle.udp_table.specs.Clashes.{NoClash, FirstClash}
use Rattle.udp_table.specs.Faults.{ClashAt, IsFirstClash, HasFewEdges}
use Rattle.udp_table.proofs.Pairs.{and_left, and_right}
use Rattle.udp_table.proofs.SymbolLemmas.{same_symbol-self, same_symbol-sound}
use Rattle.udp_table.proofs.OverlapLemmas.{Decides-overlap_test}

differ_of : (a b : Sym) → not (same_symbol a b) ≡ true → a ≢ b
differ_of a b h e =
    let s : same_symbol a b ≡ true = ap (λ x. same_symbol a x) (sym e) ∙ same_symbol-self a in
    let n : not true ≡ true = ap not (sym s) ∙ h in cc

agree_of : (a b : Sym) (o : Bool) → (o && not (same_symbol a b)) ≡ false → o ≡ true → a ≡ b
agree_of a b o h e = same_symbol-sound a b (by_test (same_symbol a b) (ap (λ x. x && not (same_symbol a b)) (sym e) ∙ h))
  where
    by_test : (s : Bool) → not s ≡ false → s ≡ true
    by_test true h = refl
    by_test false h = sym h

clash_at : (rows : List UdpRow) (i j : ℕ) → i < j → j < length rows → clash_test (row_at rows i) (row_at rows j) ≡ true → ClashAt rows i j
clash_at rows i j h g e =
    let r : UdpRow = row_at rows i in
    let s : UdpRow = row_at rows j in
    record {
      order = h;
      within = g;
      overlap = (Decides-overlap_test r s).0 (and_left (overlap_test r s) (not (same_symbol r.out s.out)) e);
      differ = differ_of r.out s.out (and_right (overlap_test r s) (not (same_symbol r.out s.out)) e);
    }

no_clash_at : (rows : List UdpRow) (i j : ℕ) → clash_test (row_at rows i) (row_at rows j) ≡ false → ¬ ClashAt rows i j
no_clash_at rows i j e c =
    let r : UdpRow = row_at rows i in
    let s : UdpRow = row_at rows j in
    c.differ (agree_of r.out s.out (overlap_test r s) e ((Decides-overlap_test r s).1 c.overlap))

pub Agrees-NoClash : (rows : List UdpRow) → NoClash rows (length rows) → Agrees rows
Agrees-NoClash rows none i j h g o =
    let r : UdpRow = row_at rows i in
    let s : UdpRow = row_at rows j in
    agree_of r.out s.out (overlap_test r s) (none i j (omega arith) h g) ((Decides-overlap_test r s).1 o)

pub IsFirstClash-FirstClash : (rows : List UdpRow) (i j : ℕ) → FirstClash rows i j → IsFirstClash rows i j
IsFirstClash-FirstClash rows i j f =
    record {
      clash = clash_at rows i j f.order f.within f.clash;
      least_first = λ k l h c. no_clash_at rows k l (f.earlier k l h c.order c.within) c;
      least_second = λ l h c. no_clash_at rows i l (f.nearer l c.order h) c;
    }

-- what was checked of the rows holds of their copy
pub IsAccepted-copy : (inputs : ℕ) (sequential : Bool) (start : Logic) (rows copy : List UdpRow) → copy ≡ rows → IsCount inputs → start ≢ Z →
    All (IsWellFormed inputs sequential) rows → All HasFewEdges rows → Agrees rows →
    IsAccepted (record { inputs = inputs; sequential = sequential; start = start; rows = copy })
IsAccepted-copy inputs sequential start rows copy e count known formed few agrees =
    record { inputs = count; start = known; rows = rw e formed; edges = rw e few; agrees = rw e agrees }
