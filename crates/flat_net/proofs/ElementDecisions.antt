-- The test of an element decides whether it has the pins of its kind on nets of the netlist.
use Rattle.std.proofs.Common.{◌≡◌, ◌+◌, ◌<◌, ◌≤◌, ◌^◌, ℕ, Bool, true, false, ◌&&◌, ◌==◌, leb, ltb, List, [], ◌∷◌, ◌++◌, length, Some, None, refl, sym, subst, arith, cond, length-append}
use Rattle.std.specs.Prelude.{Option, slice_get}
use Rattle.std.specs.Bool.{Decides}
use Rattle.std.specs.Option.{is_some}
use Rattle.std.specs.List.{All}
use Rattle.std.proofs.lemmas.List.{get_or_append_left, get_or-append-add}
use Rattle.std.proofs.lemmas.List.Elements.{All-nil, All-cons, All-head, All-tail, All-append}
use Rattle.std.proofs.lemmas.Bool.Decides.{Decides-and, Decides-like, Decides-eqb, Decides-ltb, nat_tests}
use Rattle.logic_tables.specs.declared.kinds.FoldKind.{FoldKind}
use Rattle.logic_tables.specs.declared.kinds.FoldKind.TheVariants.{And, Nand, Or, Nor, Xor, Xnor, Buf, Not}
use Rattle.udp_table.specs.Primitive.{Primitive}
use Rattle.flat_net.specs.declared.kinds.ElementKind.{ElementKind}
use Rattle.flat_net.specs.declared.kinds.ElementKind.TheVariants.{Fold, Enable, Mos, Udp, Copy, Constant, Pull, Tran, Tranif}
use Rattle.flat_net.specs.declared.parts.Element.{Element}
use Rattle.flat_net.specs.Elements.{IsFold, HasPinsOf, IsElement, joins_ends, end_nets, pin_nets}
use Rattle.flat_net.specs.Tests.{some_and, is_fold, has_pins, are_below, are_ends, is_element}
use Rattle.flat_net.proofs.Decisions.{Decides-some_and, Decides-list_all}

pub Decides-leb : (a b : ℕ) → Decides (leb a b) (a ≤ b)
Decides-leb a b = (λ e. grind (arith, nat_tests), λ h. grind (arith, nat_tests))

two : (outs ins o i : ℕ) → Decides ((outs == o) && (ins == i)) ((outs ≡ o) × (ins ≡ i))
two outs ins o i = Decides-and (outs == o) (ins == i) (Decides-eqb outs o) (Decides-eqb ins i)

one_more : (outs ins : ℕ) → Decides ((outs == 1) && leb 1 ins) ((outs ≡ 1) × (1 ≤ ins))
one_more outs ins = Decides-and (outs == 1) (leb 1 ins) (Decides-eqb outs 1) (Decides-leb 1 ins)

more_one : (outs ins : ℕ) → Decides (leb 1 outs && (ins == 1)) ((1 ≤ outs) × (ins ≡ 1))
more_one outs ins = Decides-and (leb 1 outs) (ins == 1) (Decides-leb 1 outs) (Decides-eqb ins 1)

Decides-is_fold : (kind : FoldKind) (outs ins : ℕ) → Decides (is_fold kind outs ins) (IsFold kind outs ins)
Decides-is_fold And outs ins = one_more outs ins
Decides-is_fold Nand outs ins = one_more outs ins
Decides-is_fold Or outs ins = one_more outs ins
Decides-is_fold Nor outs ins = one_more outs ins
Decides-is_fold Xor outs ins = one_more outs ins
Decides-is_fold Xnor outs ins = one_more outs ins
Decides-is_fold Buf outs ins = more_one outs ins
Decides-is_fold Not outs ins = more_one outs ins

Decides-has_pins : (udps : List Primitive) (kind : ElementKind) (outs ins : ℕ) → Decides (has_pins udps kind outs ins) (HasPinsOf udps kind outs ins)
Decides-has_pins udps (Fold kind) outs ins = Decides-is_fold kind outs ins
Decides-has_pins udps (Enable kind) outs ins = two outs ins 1 2
Decides-has_pins udps (Mos on_one resistive) outs ins = two outs ins 1 2
Decides-has_pins udps (Udp number) outs ins =
    Decides-and (outs == 1) (some_and (λ (udp : Primitive). udp.inputs == ins) (slice_get udps number)) (Decides-eqb outs 1)
    (Decides-some_and (λ (udp : Primitive). udp.inputs == ins) (λ (udp : Primitive). udp.inputs ≡ ins) (λ udp. Decides-eqb udp.inputs ins) (slice_get udps number))
Decides-has_pins udps Copy outs ins = two outs ins 1 1
Decides-has_pins udps (Constant value) outs ins = two outs ins 1 0
Decides-has_pins udps (Pull value) outs ins = two outs ins 1 0
Decides-has_pins udps Tran outs ins = two outs ins 0 0
Decides-has_pins udps (Tranif on_one) outs ins = two outs ins 0 1

pub Decides-are_below : (count : ℕ) (nets : List ℕ) → Decides (are_below count nets) (All (λ net. net < count) nets)
Decides-are_below count nets = Decides-list_all (λ net. ltb net count) (λ net. net < count) (λ net. Decides-ltb net count) nets

pub all_left : {X : Type 0} (P : X → Type 0) (xs ys : List X) → All P (xs ++ ys) → All P xs
all_left {X = X} P xs ys h k d lt =
    let long : length (xs ++ ys) ≡ length xs + length ys = length-append xs ys in
    subst (λ (x : X). P x) (get_or_append_left xs ys d k lt) (h k d (omega arith))

pub all_right : {X : Type 0} (P : X → Type 0) (xs ys : List X) → All P (xs ++ ys) → All P ys
all_right {X = X} P xs ys h k d lt =
    let long : length (xs ++ ys) ≡ length xs + length ys = length-append xs ys in
    subst (λ (x : X). P x) (get_or-append-add xs ys k d) (h (length xs + k) d (omega arith))

-- the ends are there where they have to be, and below the count
abbrev HasEnds : ℕ → Bool → Option (ℕ × ℕ) → Type 0
HasEnds count joins ends = (is_some ends ≡ joins) × All (λ net. net < count) (end_nets ends)

Decides-are_ends : (count : ℕ) (joins : Bool) (ends : Option (ℕ × ℕ)) → Decides (are_ends count joins ends) (HasEnds count joins ends)
Decides-are_ends count true None = (λ e. absurd (let f : false ≡ true = e in cc), λ h. absurd (let f : false ≡ true = h.0 in cc))
Decides-are_ends count false None = (λ _. (refl, All-nil (λ net. net < count)), λ _. refl)
Decides-are_ends count false (Some ends) = (λ e. absurd (let f : false ≡ true = e in cc), λ h. absurd (let f : true ≡ false = h.0 in cc))
Decides-are_ends count true (Some ends) =
    Decides-like (ltb ends.0 count && ltb ends.1 count)
    (λ (h : (ends.0 < count) × (ends.1 < count)).
    (refl, All-cons (λ net. net < count) ends.0 (ends.1 ∷ []) h.0 (All-cons (λ net. net < count) ends.1 [] h.1 (All-nil (λ net. net < count)))))
    (λ (h : HasEnds count true (Some ends)).
    (All-head (λ net. net < count) ends.0 (ends.1 ∷ []) h.1, All-head (λ net. net < count) ends.1 [] (All-tail (λ net. net < count) ends.0 (ends.1 ∷ []) h.1)))
    (Decides-and (ltb ends.0 count) (ltb ends.1 count) (Decides-ltb ends.0 count) (Decides-ltb ends.1 count))

end_count : (ends : Option (ℕ × ℕ)) → length (end_nets ends) ≡ cond (is_some ends) 2 0
end_count None = refl
end_count (Some ends) = refl

pin_count : (e : Element) → length (pin_nets e) ≡ cond (is_some e.ends) 2 0 + length e.outs + length e.ins
pin_count e =
    let outer : length (pin_nets e) ≡ length (end_nets e.ends ++ e.outs) + length e.ins = length-append (end_nets e.ends ++ e.outs) e.ins in
    let inner : length (end_nets e.ends ++ e.outs) ≡ length (end_nets e.ends) + length e.outs = length-append (end_nets e.ends) e.outs in
    let ends : length (end_nets e.ends) ≡ cond (is_some e.ends) 2 0 = end_count e.ends in
    omega arith

module _ (count : ℕ) (udps : List Primitive) (e : Element) where
  abbrev Below : List ℕ → Type 0
  Below nets = All (λ net. net < count) nets

  abbrev Tested : Type 0
  Tested =
      ((((((e.s0 ≤ 7) × (e.s1 ≤ 7)) × HasPinsOf udps e.kind (length e.outs) (length e.ins)) × HasEnds count (joins_ends e.kind) e.ends)
      × (cond (is_some e.ends) 2 0 + length e.outs + length e.ins < 2 ^ 32)) × Below e.outs) × Below e.ins

  whole : Tested → IsElement count udps e
  whole h = record {
    strengths = h.0.0.0.0.0;
    pins = h.0.0.0.0.1;
    ends = h.0.0.0.1.0;
    few = subst (λ (n : ℕ). n < 2 ^ 32) (sym (pin_count e)) h.0.0.1;
    nets = All-append (λ net. net < count) (end_nets e.ends ++ e.outs) e.ins (All-append (λ net. net < count) (end_nets e.ends) e.outs h.0.0.0.1.1 h.0.1) h.1;
  }

  parts : IsElement count udps e → Tested
  parts r =
      let front : Below (end_nets e.ends ++ e.outs) = all_left (λ net. net < count) (end_nets e.ends ++ e.outs) e.ins r.nets in (
        (
          (
            (((r.strengths.0, r.strengths.1), r.pins), (r.ends, all_left (λ net. net < count) (end_nets e.ends) e.outs front)),
            subst (λ (n : ℕ). n < 2 ^ 32) (pin_count e) r.few,
          ),
          all_right (λ net. net < count) (end_nets e.ends) e.outs front,
        ),
        all_right (λ net. net < count) (end_nets e.ends ++ e.outs) e.ins r.nets,
      )

  abbrev few : Bool
  few = ltb (cond (is_some e.ends) 2 0 + length e.outs + length e.ins) (2 ^ 32)

  abbrev strong : Bool
  strong = leb e.s0 7 && leb e.s1 7

  abbrev pinned : Bool
  pinned = has_pins udps e.kind (length e.outs) (length e.ins)

  abbrev ended : Bool
  ended = are_ends count (joins_ends e.kind) e.ends

  pub Decides-is_element : Decides (is_element count udps e) (IsElement count udps e)
  Decides-is_element =
      Decides-like (is_element count udps e) whole parts
      (Decides-and (strong && pinned && ended && few && are_below count e.outs) (are_below count e.ins)
      (Decides-and (strong && pinned && ended && few) (are_below count e.outs)
      (Decides-and (strong && pinned && ended) few
      (Decides-and (strong && pinned) ended
      (Decides-and strong pinned
      (Decides-and (leb e.s0 7) (leb e.s1 7) (Decides-leb e.s0 7) (Decides-leb e.s1 7))
      (Decides-has_pins udps e.kind (length e.outs) (length e.ins)))
      (Decides-are_ends count (joins_ends e.kind) e.ends))
      (Decides-ltb (cond (is_some e.ends) 2 0 + length e.outs + length e.ins) (2 ^ 32)))
      (Decides-are_below count e.outs))
      (Decides-are_below count e.ins))
