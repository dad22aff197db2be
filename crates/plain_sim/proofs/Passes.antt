-- A pass of a machine whose elements and islands stand in lists of their own.
use Rattle.std.proofs.Common.{◌≡◌, ℕ, ◌+◌, ◌-◌, ◌<◌, ◌≤◌, List, ◌++◌, length, get_or, refl, ap, sym, ◌∙◌, subst, arith, inl, inr, length-append}
use Rattle.std.specs.Prelude.{Bool, true, false, All, map, replicate, slice_index_or}
use Rattle.std.specs.List.{range_with_len}
use Rattle.std.proofs.lemmas.Bool.{cases_lt}
use Rattle.std.proofs.lemmas.List.{map-append, get_or_append_left, get_or-append_right, length-map, get_or_default}
use Rattle.std.proofs.lemmas.List.FromFn.{length-map-range_with_len, get_or-map-range_with_len}
use Rattle.level_range.specs.Signal.{Signal, undriven}
use Rattle.flat_net.specs.declared.kinds.Cell.{Cell}
use Rattle.flat_net.specs.declared.kinds.Cell.TheVariants.{Element as ElementCell, Island as IslandCell}
use Rattle.flat_net.specs.declared.parts.Drive.{Drive}
use Rattle.flat_net.specs.declared.parts.Parts.{Parts}
use Rattle.flat_net.specs.Patches.{Netlist, patch_of}
use Rattle.flat_net.specs.Soundness.{IsSound}
use Rattle.cell_step.specs.declared.states.NetState.{NetState}
use Rattle.cell_step.specs.declared.states.CellState.{CellState}
use Rattle.cell_step.specs.Readings.{Readings, element_at, island_at, net_at}
use Rattle.cell_step.specs.Elements.{drive_at, conduct_at}
use Rattle.cell_step.specs.Islands.{state_at}
use Rattle.cell_step.specs.Changes.{mature_cell}
use Rattle.cell_step.proofs.Facts.{place-within}
use Rattle.machine.specs.Machine.{Machine, cell_count, cell_of, cell_start, as_element, as_island, state_among, net_state, number_of, readings, map_cells, start}
use Rattle.machine.specs.Pass.{cell_after, settle_cell, evaluate_cell, one_more, mature, settle, evaluate, first_phase, pass}
use Rattle.machine.specs.Touched.{AgreeAt}
use Rattle.machine.proofs.Numbers.{cell_of-element, cell_of-past, length-map_cells, map_cells-at}
use Rattle.machine.proofs.Locality.{cell_after-local}
use Rattle.machine.proofs.Reading.{drives-within, links-within}
use Rattle.plain_sim.specs.Lists.{AreForced, net_among, read_by_islands, read_by_elements}
use Rattle.plain_sim.specs.Phases.{ripe, islands_after, elements_after}
use Rattle.plain_sim.proofs.Stepping.{no_cell, same-cells}

-- ---- the two lists

module _ (elements islands : List CellState) where
  left : (number : ℕ) → number < length elements → state_among (elements ++ islands) number ≡ state_among elements number
  left number lt = get_or_append_left elements islands no_cell number lt

  right : (number : ℕ) → length elements ≤ number → state_among (elements ++ islands) number ≡ state_among islands (number - length elements)
  right number ge = get_or-append_right elements islands (length elements) number no_cell refl ge

  -- a change of all cells by their numbers, as a change of elements and one of islands
  pub halves : (change first second : ℕ → CellState → CellState) →
      ((k : ℕ) → k < length elements → change k (state_among elements k) ≡ first k (state_among elements k)) →
      ((k : ℕ) → length elements ≤ k → k < length elements + length islands →
      change k (state_among islands (k - length elements)) ≡ second (k - length elements) (state_among islands (k - length elements))) →
      map_cells change (elements ++ islands) ≡ map_cells first elements ++ map_cells second islands
  halves change first second one two =
      let total = length-append elements islands in
      let size = length-map_cells first elements in
      same-cells (map_cells change (elements ++ islands)) (map_cells first elements ++ map_cells second islands)
      (length-map_cells change (elements ++ islands) ∙ total
      ∙ sym (length-append (map_cells first elements) (map_cells second islands)
      ∙ ap (λ n. n + length (map_cells second islands)) size
      ∙ ap (λ n. length elements + n) (length-map_cells second islands)))
      (λ k lt.
      let within : k < length (elements ++ islands) = (let e = length-map_cells change (elements ++ islands) in omega arith) in
      map_cells-at change (elements ++ islands) k within
      ∙ (elim (cases_lt k (length elements)) as (λ v. change k (state_among (elements ++ islands) k)
      ≡ state_among (map_cells first elements ++ map_cells second islands) k) [
        | inl less ↦
            ap (change k) (left k less) ∙ one k less ∙ sym (map_cells-at first elements k less)
            ∙ sym (get_or_append_left (map_cells first elements) (map_cells second islands) no_cell k (omega arith))
        | inr more ↦
            ap (change k) (right k more) ∙ two k more (omega arith)
            ∙ sym (map_cells-at second islands (k - length elements) (omega arith))
            ∙ sym (get_or-append_right (map_cells first elements) (map_cells second islands) (length elements) k no_cell size more)
      ]))

-- a change that changes nothing
map_cells-same : (cells : List CellState) → map_cells (λ number s. s) cells ≡ cells
map_cells-same cells =
    same-cells (map_cells (λ number s. s) cells) cells (length-map_cells (λ number s. s) cells)
    (λ k lt. map_cells-at (λ number s. s) cells k (let e = length-map_cells (λ number s. s) cells in omega arith))

-- a net's state stands where its island does
pub net-right : (parts : Parts) (elements islands : List CellState) → length elements ≡ length parts.elements → (net : ℕ) →
    net_state parts (elements ++ islands) net ≡ net_among parts islands net
net-right parts elements islands long net =
    let part = net_at parts net in
    ap (λ (s : CellState). state_at (as_island s).nets part.place)
    (right elements islands (length parts.elements + part.island) (omega arith)
    ∙ ap (state_among islands) (let e : length parts.elements + part.island - length elements ≡ part.island = omega arith in e))

-- ---- the phases

module _ (netlist : Netlist) (sound : IsSound netlist.parts) (now : ℕ) (inputs forced : List Signal) (are : AreForced netlist.parts inputs forced)
    (elements islands : List CellState) (long : length elements ≡ length netlist.parts.elements)
    (wide : length islands ≡ length netlist.parts.islands) where
  -- what the cells read
  abbrev read : Readings
  read = readings netlist inputs (elements ++ islands)

  islands-agree : (number : ℕ) → number < length netlist.parts.islands →
      AgreeAt netlist.parts (IslandCell number) read (read_by_islands netlist elements forced)
  islands-agree number lt = record {
    drives = λ k d within.
        let drive : Drive = slice_index_or (island_at netlist.parts number).drives k d in
        ap (λ (s : CellState). drive_at (patch_of netlist (ElementCell drive.element)) drive.pin (as_element s))
        (left elements islands drive.element (let w = drives-within netlist.parts sound number k d within in omega arith));
    links = λ k d within.
        let link : ℕ = slice_index_or (island_at netlist.parts number).links k d in
        ap (λ (s : CellState). conduct_at (patch_of netlist (ElementCell link)) (as_element s))
        (left elements islands link (let w = links-within netlist.parts sound number k d within in omega arith));
    inputs = λ k d within.
        sym (are.signals (slice_index_or (island_at netlist.parts number).nets k d) (let w = place-within netlist.parts sound number lt k within in
        let e = get_or_default (island_at netlist.parts number).nets k d 0 within in let c = are.count in omega arith));
  }

  settled : map_cells (λ number s. settle_cell netlist (cell_of netlist.parts number) now read s) (elements ++ islands)
      ≡ elements ++ map_cells (λ number s. cell_after netlist (IslandCell number) now (read_by_islands netlist elements forced) s) islands
  settled =
      halves elements islands (λ number s. settle_cell netlist (cell_of netlist.parts number) now read s) (λ number s. s)
      (λ number s. cell_after netlist (IslandCell number) now (read_by_islands netlist elements forced) s)
      (λ k lt. ap (λ (c : Cell). settle_cell netlist c now read (state_among elements k)) (cell_of-element netlist.parts k (omega arith)))
      (λ k ge lt.
      let s = state_among islands (k - length elements) in
      let e : k - length netlist.parts.elements ≡ k - length elements = omega arith in
      ap (λ (c : Cell). settle_cell netlist c now read s) (cell_of-past netlist.parts k (omega arith))
      ∙ ap (λ n. cell_after netlist (IslandCell n) now read s) e
      ∙ cell_after-local netlist (IslandCell (k - length elements)) now read (read_by_islands netlist elements forced) s
      (islands-agree (k - length elements) (omega arith)))
      ∙ ap (λ (cells : List CellState). cells ++ map_cells (λ number s. cell_after netlist (IslandCell number) now (read_by_islands netlist elements forced) s) islands)
      (map_cells-same elements)

  elements-agree : (number : ℕ) → AgreeAt netlist.parts (ElementCell number) read (read_by_elements netlist islands)
  elements-agree number k d within = ap (λ (s : NetState). s.seen) (net-right netlist.parts elements islands long (slice_index_or (element_at netlist.parts number).ins k d))

  evaluated : map_cells (λ number s. evaluate_cell netlist (cell_of netlist.parts number) now read s) (elements ++ islands)
      ≡ map_cells (λ number s. cell_after netlist (ElementCell number) now (read_by_elements netlist islands) s) elements ++ islands
  evaluated =
      halves elements islands (λ number s. evaluate_cell netlist (cell_of netlist.parts number) now read s)
      (λ number s. cell_after netlist (ElementCell number) now (read_by_elements netlist islands) s) (λ number s. s)
      (λ k lt.
      let s = state_among elements k in
      ap (λ (c : Cell). evaluate_cell netlist c now read s) (cell_of-element netlist.parts k (omega arith))
      ∙ cell_after-local netlist (ElementCell k) now read (read_by_elements netlist islands) s (elements-agree k))
      (λ k ge lt. ap (λ (c : Cell). evaluate_cell netlist c now read (state_among islands (k - length elements))) (cell_of-past netlist.parts k (omega arith)))
      ∙ ap (λ (cells : List CellState). map_cells (λ number s. cell_after netlist (ElementCell number) now (read_by_elements netlist islands) s) elements ++ cells)
      (map_cells-same islands)

-- ---- the pass

pub pass-cells : (netlist : Netlist) → IsSound netlist.parts → (m : Machine) (forced : List Signal) → AreForced netlist.parts m.inputs forced →
    (elements islands : List CellState) → m.cells ≡ elements ++ islands → length elements ≡ length netlist.parts.elements →
    length islands ≡ length netlist.parts.islands →
    (settled : List CellState) → settled ≡ islands_after netlist m.time forced (ripe m.time elements) (ripe m.time islands) →
    (pass netlist m).cells ≡ elements_after netlist m.time settled (ripe m.time elements) ++ settled
unfolding pass evaluate first_phase settle mature
pass-cells netlist sound m forced are elements islands halved long wide done is =
    let grown = ripe m.time elements in
    let still = ripe m.time islands in
    let tall : length grown ≡ length netlist.parts.elements = length-map elements (mature_cell m.time) ∙ long in
    let broad : length still ≡ length netlist.parts.islands = length-map islands (mature_cell m.time) ∙ wide in
    let deep : length done ≡ length netlist.parts.islands = ap length is ∙ length-map_cells _ still ∙ broad in
    let parted : map (mature_cell m.time) m.cells ≡ grown ++ still =
    ap (map (mature_cell m.time)) halved ∙ map-append (mature_cell m.time) elements islands in
    let first : map_cells (λ number s. settle_cell netlist (cell_of netlist.parts number) m.time (readings netlist m.inputs (map (mature_cell m.time) m.cells)) s)
    (map (mature_cell m.time) m.cells) ≡ grown ++ done =
    ap (λ (cells : List CellState). map_cells (λ number s. settle_cell netlist (cell_of netlist.parts number) m.time (readings netlist m.inputs cells) s) cells) parted
    ∙ settled netlist sound m.time m.inputs forced are grown still tall broad
    ∙ ap (λ (cells : List CellState). grown ++ cells) (sym is) in
    ap (λ (cells : List CellState). map_cells (λ number s. evaluate_cell netlist (cell_of netlist.parts number) m.time (readings netlist m.inputs cells) s) cells) first
    ∙ evaluated netlist sound m.time m.inputs forced are grown done tall deep

machine-same : (time passes : ℕ) (has : Bool) (i j l k : List Signal) (c d : List CellState) → i ≡ j → l ≡ k → c ≡ d →
    (let m : Machine = record { time = time; passes = passes; has_passed = has; inputs = i; last_inputs = l; cells = c } in m)
    ≡ record { time = time; passes = passes; has_passed = has; inputs = j; last_inputs = k; cells = d }
machine-same time passes has i j l k c d e f g = cc

-- a machine with these states, that made a pass more with the inputs in force
abbrev pub passed : Machine → List CellState → Machine
passed m cells = record m { passes = one_more m.passes; has_passed = true; last_inputs = m.inputs; cells = cells }

pub pass-passed : (netlist : Netlist) (m : Machine) (cells : List CellState) → (pass netlist m).cells ≡ cells → pass netlist m ≡ passed m cells
unfolding pass evaluate first_phase settle mature
pass-passed netlist m cells e = ap (passed m) e

-- the pass of a machine whose elements and islands stand in lists of their own
pub pass-whole : (netlist : Netlist) → IsSound netlist.parts → (m : Machine) (forced : List Signal) → AreForced netlist.parts m.inputs forced →
    (elements islands : List CellState) → m.cells ≡ elements ++ islands → length elements ≡ length netlist.parts.elements →
    length islands ≡ length netlist.parts.islands →
    (grown done : List CellState) → done ≡ islands_after netlist m.time forced (ripe m.time elements) (ripe m.time islands) →
    grown ≡ elements_after netlist m.time done (ripe m.time elements) →
    (passes : ℕ) (last : List Signal) → passes ≡ one_more m.passes → last ≡ m.inputs →
    (let n : Machine = record { time = m.time; passes = passes; has_passed = true; inputs = m.inputs; last_inputs = last; cells = grown ++ done } in n)
    ≡ pass netlist m
pass-whole netlist sound m forced are elements islands halved long wide grown done settled aimed passes last count same =
    let cells : (pass netlist m).cells ≡ grown ++ done =
    pass-cells netlist sound m forced are elements islands halved long wide done settled ∙ ap (λ (l : List CellState). l ++ done) (sym aimed) in
    ap (λ (k : ℕ). let n : Machine = record { time = m.time; passes = k; has_passed = true; inputs = m.inputs; last_inputs = last; cells = grown ++ done } in n) count
    ∙ ap (λ (l : List Signal). let n : Machine = record { time = m.time; passes = one_more m.passes; has_passed = true; inputs = m.inputs; last_inputs = l; cells = grown ++ done } in n) same
    ∙ sym (pass-passed netlist m (grown ++ done) cells)

-- ---- the start

pub start-cells : (netlist : Netlist) →
    (start netlist).cells
    ≡ map (λ number. cell_start netlist (ElementCell number)) (range_with_len 0 (length netlist.parts.elements))
    ++ map (λ number. cell_start netlist (IslandCell number)) (range_with_len 0 (length netlist.parts.islands))
unfolding start
start-cells netlist =
    let n = length netlist.parts.elements in
    let e = λ (number : ℕ). cell_start netlist (ElementCell number) in
    let i = λ (number : ℕ). cell_start netlist (IslandCell number) in
    let es = map e (range_with_len 0 n) in
    let is = map i (range_with_len 0 (length netlist.parts.islands)) in
    let size : length es ≡ n = length-map-range_with_len e 0 n in
    let total = length-map-range_with_len (λ number. cell_start netlist (cell_of netlist.parts number)) 0 (cell_count netlist.parts) in
    let extent = length-map-range_with_len i 0 (length netlist.parts.islands) in
    let joint = length-append es is in
    same-cells _ (es ++ is) (let goal : cell_count netlist.parts ≡ length (es ++ is) = omega arith in total ∙ goal)
    (λ k lt.
    let within : k < cell_count netlist.parts = omega arith in
    get_or-map-range_with_len (λ number. cell_start netlist (cell_of netlist.parts number)) 0 (cell_count netlist.parts) k k no_cell within (omega arith)
    ∙ (elim (cases_lt k n) as (λ v. cell_start netlist (cell_of netlist.parts k) ≡ state_among (es ++ is) k) [
      | inl less ↦
          ap (cell_start netlist) (cell_of-element netlist.parts k less)
          ∙ sym (get_or-map-range_with_len e 0 n k k no_cell less (omega arith))
          ∙ sym (get_or_append_left es is no_cell k (omega arith))
      | inr more ↦
          ap (cell_start netlist) (cell_of-past netlist.parts k more)
          ∙ sym (get_or-map-range_with_len i 0 (length netlist.parts.islands) (k - n) (k - n) no_cell (omega arith) (omega arith))
          ∙ sym (get_or-append_right es is n k no_cell size more)
    ]))

pub start-is : (netlist : Netlist) (i l : List Signal) (cells : List CellState) → i ≡ replicate (length netlist.parts.inputs) undriven →
    l ≡ replicate (length netlist.parts.inputs) undriven → cells ≡ (start netlist).cells →
    (let m : Machine = record { time = 0; passes = 0; has_passed = false; inputs = i; last_inputs = l; cells = cells } in m) ≡ start netlist
unfolding start
start-is netlist i l cells e f g =
    machine-same 0 0 false i (replicate (length netlist.parts.inputs) undriven) l (replicate (length netlist.parts.inputs) undriven)
    cells (start netlist).cells e f g
