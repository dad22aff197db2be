-- The faults exclude one another.
use Rattle.std.proofs.Common.{◌≡◌, ℕ, Bool, List, refl, sym, ap, inl, inr, subst}
use Rattle.std.specs.List.{All}
use Rattle.std.proofs.lemmas.Bool.{cases_order}
use Rattle.std.proofs.lemmas.List.Elements.{All-get_or}
use Rattle.udp_table.specs.declared.rows.UdpRow.{UdpRow}
use Rattle.udp_table.specs.declared.making.UdpFault.{UdpFault}
use Rattle.udp_table.specs.declared.making.UdpFault.TheVariants.{TooManyInputs, BadSymbol, TwoEdges, Clash, Memory}
use Rattle.udp_table.specs.Rows.{no_row, IsWellFormed}
use Rattle.udp_table.specs.Primitive.{Agrees}
use Rattle.udp_table.specs.Faults.{IsFirstRow, IsFirstClash, HasFewEdges, IsFault, IsRefusal}

none_first : (Q : UdpRow → Type 0) (rows : List UdpRow) (k : ℕ) → All Q rows → IsFirstRow (λ row. ¬ Q row) rows k → ⊥
none_first Q rows k all f = f.holds (All-get_or Q rows k no_row f.within all)

same_first : (P : UdpRow → Type 0) (rows : List UdpRow) (j k : ℕ) → IsFirstRow P rows j → IsFirstRow P rows k → j ≡ k
same_first P rows j k f g =
    elim (cases_order j k) [
      | inl e ↦ e
      | inr o ↦ elim o [ inl lt ↦ absurd (g.least j lt f.holds) | inr gt ↦ absurd (f.least k gt g.holds) ]
    ]

no_first_clash : (rows : List UdpRow) (i j : ℕ) → Agrees rows → IsFirstClash rows i j → ⊥
no_first_clash rows i j agrees f = f.clash.differ (agrees i j f.clash.order f.clash.within f.clash.overlap)

same_clash_first : (rows : List UdpRow) (i j k l : ℕ) → IsFirstClash rows i j → IsFirstClash rows k l → i ≡ k
same_clash_first rows i j k l f g =
    elim (cases_order i k) [
      | inl e ↦ e
      | inr o ↦ elim o [ inl lt ↦ absurd (g.least_first i j lt f.clash) | inr gt ↦ absurd (f.least_first k l gt g.clash) ]
    ]

same_clash_second : (rows : List UdpRow) (i j l : ℕ) → IsFirstClash rows i j → IsFirstClash rows i l → j ≡ l
same_clash_second rows i j l f g =
    elim (cases_order j l) [
      | inl e ↦ e
      | inr o ↦ elim o [ inl lt ↦ absurd (g.least_second j lt f.clash) | inr gt ↦ absurd (f.least_second l gt g.clash) ]
    ]

same_clash : (rows : List UdpRow) (i j k l : ℕ) → IsFirstClash rows i j → IsFirstClash rows k l → Clash i j ≡ Clash k l
same_clash rows i j k l f g =
    let e : i ≡ k = same_clash_first rows i j k l f g in
    let P : ℕ → Type 0 = λ n. IsFirstClash rows n l in
    let d : j ≡ l = same_clash_second rows i j l f (subst P (sym e) g) in cc

-- a fault that refuses the parts is the only one
module _ (inputs : ℕ) (sequential : Bool) (rows : List UdpRow) where
  pub IsFault-unique : (f g : UdpFault) → IsRefusal f → IsFault inputs sequential rows f → IsFault inputs sequential rows g → g ≡ f
  IsFault-unique TooManyInputs TooManyInputs r f g = refl
  IsFault-unique (BadSymbol j) (BadSymbol k) r f g = ap BadSymbol (same_first (λ row. ¬ IsWellFormed inputs sequential row) rows k j g.1 f.1)
  IsFault-unique (TwoEdges j) (TwoEdges k) r f g = ap TwoEdges (same_first (λ row. ¬ HasFewEdges row) rows k j g.2 f.2)
  IsFault-unique (Clash i j) (Clash k l) r f g = same_clash rows k l i j g.3 f.3
  IsFault-unique Memory g r f h = absurd r
  IsFault-unique TooManyInputs (BadSymbol k) r f g = absurd (f g.0)
  IsFault-unique TooManyInputs (TwoEdges k) r f g = absurd (f g.0)
  IsFault-unique TooManyInputs (Clash k l) r f g = absurd (f g.0)
  IsFault-unique TooManyInputs Memory r f g = absurd (f g.0)
  IsFault-unique (BadSymbol i) TooManyInputs r f g = absurd (g f.0)
  IsFault-unique (BadSymbol i) (TwoEdges k) r f g = absurd (none_first (IsWellFormed inputs sequential) rows i g.1 f.1)
  IsFault-unique (BadSymbol i) (Clash k l) r f g = absurd (none_first (IsWellFormed inputs sequential) rows i g.1 f.1)
  IsFault-unique (BadSymbol i) Memory r f g = absurd (none_first (IsWellFormed inputs sequential) rows i g.1 f.1)
  IsFault-unique (TwoEdges i) TooManyInputs r f g = absurd (g f.0)
  IsFault-unique (TwoEdges i) (BadSymbol k) r f g = absurd (none_first (IsWellFormed inputs sequential) rows k f.1 g.1)
  IsFault-unique (TwoEdges i) (Clash k l) r f g = absurd (none_first HasFewEdges rows i g.2 f.2)
  IsFault-unique (TwoEdges i) Memory r f g = absurd (none_first HasFewEdges rows i g.2 f.2)
  IsFault-unique (Clash i j) TooManyInputs r f g = absurd (g f.0)
  IsFault-unique (Clash i j) (BadSymbol k) r f g = absurd (none_first (IsWellFormed inputs sequential) rows k f.1 g.1)
  IsFault-unique (Clash i j) (TwoEdges k) r f g = absurd (none_first HasFewEdges rows k f.2 g.2)
  IsFault-unique (Clash i j) Memory r f g = absurd (no_first_clash rows i j g.3 f.3)

  -- where only memory can be wanting nothing refuses the parts
  pub no_refusal : (f : UdpFault) → IsRefusal f → IsFault inputs sequential rows f → IsFault inputs sequential rows Memory → ⊥
  no_refusal f r h m = subst IsRefusal (sym (IsFault-unique f Memory r h m)) r
