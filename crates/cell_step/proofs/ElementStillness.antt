-- An element's part in a pass, done again with the same signals at its inputs, changes nothing.
use Rattle.std.proofs.Common.{◌≡◌, ℕ, Bool, true, false, cond, List, [], ◌∷◌, ◌++◌, length, take, drop, refl, ap, sym, ◌∙◌, arith}
use Rattle.std.specs.Prelude.{Option, map}
use Rattle.std.proofs.lemmas.List.{take-append-le, take_all, drop-append-le, drop_all, length-map}
use Rattle.level_range.specs.declared.range.Logic.{Logic}
use Rattle.level_range.specs.declared.range.Logic.TheVariants as value
use Rattle.level_range.specs.declared.range.Conduct.{Conduct}
use Rattle.level_range.specs.Signal.{Signal, reads, span_of}
use Rattle.delay_rule.specs.declared.inertia.Pending.{Pending}
use Rattle.delay_rule.specs.Delay.{due, switch_value}
use Rattle.delay_rule.specs.Inertia.{pending_after, same_signal, same_conduct}
use Rattle.delay_rule.proofs.InertiaLemmas.{IsEquality-same_signal}
use Rattle.udp_table.specs.declared.rows.UdpRow.{UdpRow}
use Rattle.udp_table.specs.Primitive.{Primitive}
use Rattle.udp_table.specs.Symbols.{same_value}
use Rattle.udp_table.specs.LookUp.{state_after, next_value}
use Rattle.flat_net.specs.declared.kinds.Patch.{Patch}
use Rattle.flat_net.specs.declared.kinds.ElementKind.{ElementKind}
use Rattle.flat_net.specs.declared.kinds.ElementKind.TheVariants.{Fold, Enable, Mos, Udp, Copy, Constant, Pull, Tran, Tranif}
use Rattle.flat_net.specs.declared.parts.Element.{Element}
use Rattle.flat_net.specs.declared.parts.Parts.{Parts}
use Rattle.flat_net.specs.Elements.{joins_ends}
use Rattle.cell_step.specs.declared.states.ElementState.{ElementState}
use Rattle.cell_step.specs.Readings.{primitive_at}
use Rattle.cell_step.specs.Elements.{known, primitive_inputs, primitive_value, remember, remember_of_kind, signal_of_kind, conduct_of_kind, aim_signal, aim_switch, next_element}
use Rattle.cell_step.proofs.Aiming.{pending_after-again, IsEquality-same_conduct}

same_value-itself : (v : Logic) → same_value v v ≡ true
same_value-itself value.Zero = refl
same_value-itself value.One = refl
same_value-itself value.X = refl
same_value-itself value.Z = refl

-- where no input differs the state stays
state_after-itself : (rows : List UdpRow) (before values : List Logic) (state : Logic) → state_after rows before values values state ≡ state
state_after-itself rows before [] state = refl
state_after-itself rows before (v ∷ vs) state =
    ap (λ b. state_after rows (before ++ (v ∷ [])) vs vs (cond b state (next_value rows before v v vs state))) (same_value-itself v)
    ∙ state_after-itself rows (before ++ (v ∷ [])) vs state

pub take_front : {X : Type 0} (n : ℕ) (xs ys : List X) → length xs ≡ n → take n (xs ++ ys) ≡ xs
take_front n xs ys long = take-append-le n xs ys (omega arith) ∙ take_all n xs (omega arith)

pub drop_front : {X : Type 0} (n : ℕ) (xs ys : List X) → length xs ≡ n → drop n (xs ++ ys) ≡ ys
drop_front n xs ys long = drop-append-le n xs ys (omega arith) ∙ ap (λ l. l ++ ys) (drop_all n xs (omega arith))

module _ (udp : Primitive) (s : ElementState) (ins : List Logic) (due : Option (Pending Signal)) where
  abbrev next : ElementState
  next = record (remember udp ins s) { due = due }

  value_by : udp.sequential ≡ true → length ins ≡ udp.inputs → primitive_value udp next ins ≡ primitive_value udp s ins
  unfolding primitive_value remember
  value_by e width =
      rw e (
      ap (λ l. state_after udp.rows [] l ins (state_after udp.rows [] (take udp.inputs s.seen) ins s.state))
      (take_front udp.inputs ins (drop (length ins) s.seen) width)
      ∙ state_after-itself udp.rows [] ins (state_after udp.rows [] (take udp.inputs s.seen) ins s.state)
      )

  value_by_level : udp.sequential ≡ false → primitive_value udp next ins ≡ primitive_value udp s ins
  unfolding primitive_value remember
  value_by_level e = rw e refl

  pub value-again : length ins ≡ udp.inputs → primitive_value udp next ins ≡ primitive_value udp s ins
  value-again width = by_test udp.sequential refl
    where
      by_test : (b : Bool) → udp.sequential ≡ b → primitive_value udp next ins ≡ primitive_value udp s ins
      by_test true e = value_by e width
      by_test false e = value_by_level e

  remember-is : (x : ElementState) → udp.sequential ≡ true →
      remember udp ins x ≡ record x { state = primitive_value udp x ins; seen = ins ++ drop (length ins) x.seen }
  unfolding remember
  remember-is x e = rw e refl

  same-memory : (x : ElementState) (v : Logic) (seen : List Logic) → v ≡ x.state → seen ≡ x.seen → record x { state = v; seen = seen } ≡ x
  same-memory x v seen e f = ap (λ w. record x { state = w; seen = seen }) e ∙ ap (λ l. record x { seen = l }) f

  remember_by : udp.sequential ≡ true → length ins ≡ udp.inputs → remember udp ins next ≡ next
  remember_by e width =
      let front = drop (length ins) s.seen in
      let seen : next.seen ≡ ins ++ front = ap (λ (x : ElementState). x.seen) (remember-is s e) in
      let state : next.state ≡ primitive_value udp s ins = ap (λ (x : ElementState). x.state) (remember-is s e) in
      remember-is next e
      ∙ same-memory next _ _ (value-again width ∙ sym state)
      (ap (λ l. ins ++ drop (length ins) l) seen ∙ ap (λ l. ins ++ l) (drop_front (length ins) ins front refl) ∙ sym seen)

  remember_by_level : udp.sequential ≡ false → remember udp ins next ≡ next
  unfolding remember
  remember_by_level e = rw e refl

  pub remember-again : length ins ≡ udp.inputs → remember udp ins next ≡ next
  remember-again width = by_test udp.sequential refl
    where
      by_test : (b : Bool) → udp.sequential ≡ b → remember udp ins next ≡ next
      by_test true e = remember_by e width
      by_test false e = remember_by_level e

-- a primitive has as many inputs as there are signals
abbrev pub HasWidth : Parts → ElementKind → ℕ → Type 0
HasWidth parts (Udp number) n = n ≡ (primitive_at parts number).inputs
HasWidth parts (Fold kind) n = Unit {0}
HasWidth parts (Enable kind) n = Unit {0}
HasWidth parts (Mos on_one resistive) n = Unit {0}
HasWidth parts Copy n = Unit {0}
HasWidth parts (Constant v) n = Unit {0}
HasWidth parts (Pull v) n = Unit {0}
HasWidth parts Tran n = Unit {0}
HasWidth parts (Tranif on_one) n = Unit {0}

module _ (parts : Parts) (s : ElementState) (ins : List Signal) (due : Option (Pending Signal)) where
  -- the state that the element has after its part in the pass
  abbrev left : ElementKind → ElementState
  left kind = record (remember_of_kind parts kind ins s) { due = due }

  signal-again : (kind : ElementKind) (s0 s1 : ℕ) (patch : Patch) → HasWidth parts kind (length ins) →
      signal_of_kind parts kind s0 s1 patch (left kind) ins ≡ signal_of_kind parts kind s0 s1 patch s ins
  signal-again (Udp number) s0 s1 patch width =
      ap (λ v. span_of v s0 s1)
      (value-again (primitive_at parts number) s (primitive_inputs ins) due (length-map ins (λ v. known (reads v)) ∙ width))
  signal-again (Fold kind) s0 s1 patch width = refl
  signal-again (Enable kind) s0 s1 patch width = refl
  signal-again (Mos on_one resistive) s0 s1 patch width = refl
  signal-again Copy s0 s1 patch width = refl
  signal-again (Constant v) s0 s1 patch width = refl
  signal-again (Pull v) s0 s1 patch width = refl
  signal-again Tran s0 s1 patch width = refl
  signal-again (Tranif on_one) s0 s1 patch width = refl

  memory-again : (kind : ElementKind) → HasWidth parts kind (length ins) → remember_of_kind parts kind ins (left kind) ≡ left kind
  memory-again (Udp number) width = remember-again (primitive_at parts number) s (primitive_inputs ins) due (length-map ins (λ v. known (reads v)) ∙ width)
  memory-again (Fold kind) width = refl
  memory-again (Enable kind) width = refl
  memory-again (Mos on_one resistive) width = refl
  memory-again Copy width = refl
  memory-again (Constant v) width = refl
  memory-again (Pull v) width = refl
  memory-again Tran width = refl
  memory-again (Tranif on_one) width = refl

module _ (parts : Parts) (e : Element) (patch : Patch) (now later : ℕ) (ins : List Signal) (s : ElementState) where
  switch-again : joins_ends e.kind ≡ true →
      next_element parts e patch later ins (next_element parts e patch now ins s) ≡ next_element parts e patch now ins s
  unfolding next_element
  switch-again is =
      let target = conduct_of_kind e.kind patch ins in
      rw is (ap (λ d. record s { switch_due = d })
      (pending_after-again same_conduct IsEquality-same_conduct s.on s.switch_due target (due now e.delays (switch_value target))
      (due later e.delays (switch_value target))))

  output-again : joins_ends e.kind ≡ false → HasWidth parts e.kind (length ins) →
      next_element parts e patch later ins (next_element parts e patch now ins s) ≡ next_element parts e patch now ins s
  unfolding next_element
  output-again is width =
      let target = signal_of_kind parts e.kind e.s0 e.s1 patch s ins in
      let memory = remember_of_kind parts e.kind ins s in
      let tick = due now e.delays (reads target) in
      let change = pending_after same_signal memory.out memory.due target tick in
      rw is (
      ap (λ t. aim_signal e later t (remember_of_kind parts e.kind ins (left parts s ins change e.kind)))
      (signal-again parts s ins change e.kind e.s0 e.s1 patch width)
      ∙ ap (aim_signal e later target) (memory-again parts s ins change e.kind width)
      ∙ ap (λ d. record memory { due = d })
      (pending_after-again same_signal IsEquality-same_signal memory.out memory.due target tick (due later e.delays (reads target)))
      )

  pub next_element-again : HasWidth parts e.kind (length ins) →
      next_element parts e patch later ins (next_element parts e patch now ins s) ≡ next_element parts e patch now ins s
  next_element-again width = by_test (joins_ends e.kind) refl
    where
      by_test : (b : Bool) → joins_ends e.kind ≡ b →
          next_element parts e patch later ins (next_element parts e patch now ins s) ≡ next_element parts e patch now ins s
      by_test true is = switch-again is
      by_test false is = output-again is width
