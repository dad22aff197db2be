-- Each step drops what it takes off the cells that are left.
use Rattle.std.proofs.Common.{◌≡◌, ℕ, Bool, true, false, cond, ◌&&◌, ◌||◌, eqb, List, ◌∷◌, None, refl, sym, ap, ◌∙◌, arith}
use Rattle.std.specs.List.{list_any}
use Rattle.std.proofs.lemmas.Bool.{eqb-true, eqb-false, eq-eqb, ne_eqb}
use Rattle.divergence_list.specs.declared.entry.Entry.{Entry}
use Rattle.divergence_list.specs.Entries.{entry_at, ChangesOnly}
use Rattle.divergence_list.proofs.Rising.{by_cases}
use Rattle.divergence_list.proofs.changes.drop_entries.Goals as goal

-- a drop and then the drops that are left are all these drops
cond-both : {X : Type 0} (a b c : Bool) (v w : X)
    → cond (a && b) w (cond (c && a) w v) ≡ cond (a && (c || b)) w v
cond-both true true true v w = refl
cond-both true true false v w = refl
cond-both true false true v w = refl
cond-both true false false v w = refl
cond-both false b true v w = refl
cond-both false b false v w = refl

eqb-sym : (m n : ℕ) → eqb m n ≡ eqb n m
eqb-sym m n =
    by_cases (eqb n m)
    (λ q. eq-eqb m n (sym (eqb-true n m q)) ∙ sym q)
    (λ q. ne_eqb m n (λ same. eqb-false n m q (sym same)) ∙ sym q)

first-in : (x : ℕ) (xs : List ℕ) → list_any (eqb x) (x ∷ xs) ≡ true
first-in x xs = rw (eq-eqb x x refl) refl

later-in : (c x : ℕ) (xs : List ℕ) → list_any (eqb c) xs ≡ true → list_any (eqb c) (x ∷ xs) ≡ true
later-in c x xs any = by_cases (eqb c x) (λ q. rw q refl) (λ q. rw q any)

entries-step : {V : Type 0} (fault x k f : ℕ) (rest : List ℕ) (old new : List (List (Entry V)))
    → ChangesOnly old new x fault None
    → cond (eqb fault f && list_any (eqb k) rest) None (entry_at new k f)
    ≡ cond (eqb fault f && list_any (eqb k) (x ∷ rest)) None (entry_at old k f)
entries-step {V} fault x k f rest old new change =
    ap (cond (eqb fault f && list_any (eqb k) rest) None) (change.entries k f)
    ∙ ap (λ b. cond (eqb fault f && list_any (eqb k) rest) None (cond (b && eqb fault f) None (entry_at old k f))) (eqb-sym x k)
    ∙ cond-both (eqb fault f) (list_any (eqb k) rest) (eqb k x) (entry_at old k f) None

pub take_entry-requires-clause-cell : goal.take_entry-requires-clause-cell
take_entry-requires-clause-cell g c =
    c.loop-cell.invariant.in_range c.in-Some.cell (rw c.in-Some.ensures.steps (first-in c.in-Some.cell c.next.new.self))

pub loop-cell-preserved-then-is_some : goal.loop-cell-preserved-then-is_some
loop-cell-preserved-then-is_some g c =
    let left = c.in-Some.ensures.steps in
    let i = c.loop-cell.invariant in
    let e = c.take_entry.ensures in
    let some = sym c.is_some.ensures ∙ c.if-is_some.true in
    let less = rw some at e.counted in
    record {
      cells = e.changed.cells ∙ i.cells;
      sound = e.sound;
      counted = omega (arith, less, i.counted);
      in_range = λ k any. rw e.changed.cells (i.in_range k (rw left (later-in k c.in-Some.cell c.next.new.self any)));
      entries = λ k f.
          entries-step c.args.fault c.in-Some.cell k f c.next.new.self c.loop-cell.lists c.take_entry.new.lists e.changed
          ∙ ap (λ xs. cond (eqb c.args.fault f && list_any (eqb k) xs) None (entry_at c.loop-cell.lists k f)) (sym left)
          ∙ i.entries k f;
    }

pub loop-cell-preserved : goal.loop-cell-preserved
loop-cell-preserved g c =
    let left = c.in-Some.ensures.steps in
    let i = c.loop-cell.invariant in
    let e = c.take_entry.ensures in
    let none = sym c.is_some.ensures ∙ c.if-is_some.false in
    let same = rw none at e.counted in
    record {
      cells = e.changed.cells ∙ i.cells;
      sound = e.sound;
      counted = omega (arith, same, i.counted);
      in_range = λ k any. rw e.changed.cells (i.in_range k (rw left (later-in k c.in-Some.cell c.next.new.self any)));
      entries = λ k f.
          entries-step c.args.fault c.in-Some.cell k f c.next.new.self c.loop-cell.lists c.take_entry.new.lists e.changed
          ∙ ap (λ xs. cond (eqb c.args.fault f && list_any (eqb k) xs) None (entry_at c.loop-cell.lists k f)) (sym left)
          ∙ i.entries k f;
    }
