-- The pins of elements, by their kinds (IEEE 1364-2005, 7.1.6).
use Rattle.std.specs.Prelude.{◌≡◌, ℕ, ◌<◌, ◌≤◌, ◌^◌, Bool, true, false, List, [], ◌∷◌, ◌++◌, length, Option, Some, None, slice_get}
use Rattle.std.specs.Option.{IsSomeAnd, is_some}
use Rattle.std.specs.List.{All, filter_map}
use Rattle.logic_tables.specs.declared.kinds.FoldKind.{FoldKind}
use Rattle.logic_tables.specs.declared.kinds.FoldKind.TheVariants.{And, Nand, Or, Nor, Xor, Xnor, Buf, Not}
use Rattle.udp_table.specs.Primitive.{Primitive}
use Rattle.flat_net.specs.declared.kinds.ElementKind.{ElementKind}
use Rattle.flat_net.specs.declared.kinds.ElementKind.TheVariants.{Fold, Enable, Mos, Udp, Copy, Constant, Pull, Tran, Tranif}
use Rattle.flat_net.specs.declared.parts.Element.{Element}

-- how many outputs and inputs a logic gate may have
abbrev pub IsFold : FoldKind → ℕ → ℕ → Type 0
IsFold And outs ins = (outs ≡ 1) × (1 ≤ ins)
IsFold Nand outs ins = (outs ≡ 1) × (1 ≤ ins)
IsFold Or outs ins = (outs ≡ 1) × (1 ≤ ins)
IsFold Nor outs ins = (outs ≡ 1) × (1 ≤ ins)
IsFold Xor outs ins = (outs ≡ 1) × (1 ≤ ins)
IsFold Xnor outs ins = (outs ≡ 1) × (1 ≤ ins)
IsFold Buf outs ins = (1 ≤ outs) × (ins ≡ 1)
IsFold Not outs ins = (1 ≤ outs) × (ins ≡ 1)

-- how many outputs and inputs an element may have, by its kind; a bidirectional switch has ends in place of outputs
abbrev pub HasPinsOf : List Primitive → ElementKind → ℕ → ℕ → Type 0
HasPinsOf udps (Fold kind) outs ins = IsFold kind outs ins
HasPinsOf udps (Enable kind) outs ins = (outs ≡ 1) × (ins ≡ 2)
HasPinsOf udps (Mos on_one resistive) outs ins = (outs ≡ 1) × (ins ≡ 2)
HasPinsOf udps (Udp number) outs ins = (outs ≡ 1) × IsSomeAnd (slice_get udps number) (λ udp. udp.inputs ≡ ins)
HasPinsOf udps Copy outs ins = (outs ≡ 1) × (ins ≡ 1)
HasPinsOf udps (Constant value) outs ins = (outs ≡ 1) × (ins ≡ 0)
HasPinsOf udps (Pull value) outs ins = (outs ≡ 1) × (ins ≡ 0)
HasPinsOf udps Tran outs ins = (outs ≡ 0) × (ins ≡ 0)
HasPinsOf udps (Tranif on_one) outs ins = (outs ≡ 0) × (ins ≡ 1)

-- whether elements of a kind are bidirectional switches
abbrev pub joins_ends : ElementKind → Bool
joins_ends Tran = true
joins_ends (Tranif on_one) = true
joins_ends (Fold kind) = false
joins_ends (Enable kind) = false
joins_ends (Mos on_one resistive) = false
joins_ends (Udp number) = false
joins_ends Copy = false
joins_ends (Constant value) = false
joins_ends (Pull value) = false

-- the two ends of a bidirectional switch, none of any other element
abbrev pub end_nets : Option (ℕ × ℕ) → List ℕ
end_nets None = []
end_nets (Some ends) = ends.0 ∷ ends.1 ∷ []

-- the nets of an element's pins, by the numbers of the pins
abbrev pub pin_nets : Element → List ℕ
pin_nets e = end_nets e.ends ++ e.outs ++ e.ins

-- the pairs of nets that bidirectional switches join
abbrev pub switch_ends : List Element → List (ℕ × ℕ)
switch_ends elements = filter_map (λ e. e.ends) elements

-- an element of a netlist with so many nets and these primitives
pub record IsElement (net_count : ℕ) (udps : List Primitive) (e : Element) : Type 0 where
  pub strengths : (e.s0 ≤ 7) × (e.s1 ≤ 7)
  pub pins : HasPinsOf udps e.kind (length e.outs) (length e.ins)
  pub ends : is_some e.ends ≡ joins_ends e.kind
  pub few : length (pin_nets e) < 2 ^ 32
  pub nets : All (λ net. net < net_count) (pin_nets e)
