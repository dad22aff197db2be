-- Where a fault doesn't show at a cell, nor at those that the cell reads when it reads them, it doesn't show there after the
-- pass.
use Rattle.std.proofs.Common.{◌≡◌, ℕ, ◌<◌, List, length, get_or, refl, ap, sym, ◌∙◌, subst, inl, inr, arith}
use Rattle.std.proofs.lemmas.List.Elements.{Contains-get_or}
use Rattle.level_range.specs.Signal.{Signal}
use Rattle.flat_net.specs.declared.kinds.Cell.{Cell}
use Rattle.flat_net.specs.declared.kinds.Cell.TheVariants.{Element as ElementCell, Island as IslandCell}
use Rattle.flat_net.specs.declared.kinds.Patch.{Patch}
use Rattle.flat_net.specs.declared.parts.Drive.{Drive}
use Rattle.flat_net.specs.declared.parts.Parts.{Parts}
use Rattle.flat_net.specs.Soundness.{IsSound}
use Rattle.flat_net.specs.Patches.{Netlist, patch_of}
use Rattle.cell_step.specs.declared.states.CellState.{CellState}
use Rattle.cell_step.specs.Changes.{mature_cell}
use Rattle.cell_step.specs.Readings.{element_at, net_at, island_at}
use Rattle.cell_step.specs.Elements.{drive_at, conduct_at}
use Rattle.cell_step.specs.Islands.{state_at}
use Rattle.machine.specs.Machine.{Machine, cell_count, cell_of, number_of, cell_state, as_element, as_island, net_state, input_among, readings}
use Rattle.machine.specs.Pass.{mature, first_phase, pass, next_readings}
use Rattle.machine.specs.Touched.{AgreeAt, CellReads}
use Rattle.machine.specs.Hiding.{Hides, HidesFrom, IsInjected, AreAbreast}
use Rattle.machine.proofs.Numbers.{cell_of-element, cell_of-island}
use Rattle.machine.proofs.PassAt.{mature-at}
use Rattle.machine.proofs.Locality.{pass-local}
use Rattle.machine.proofs.Reading.{drives-within, links-within}
use Rattle.machine.proofs.SecondPhase.{island-stays}

-- an island's state after the first phase is that after the pass
island-kept : (netlist : Netlist) (m : Machine) (island : ℕ) →
    cell_state (first_phase netlist m) (number_of netlist.parts (IslandCell island)) ≡ cell_state (pass netlist m) (number_of netlist.parts (IslandCell island))
unfolding pass
island-kept netlist m island = sym (island-stays netlist (first_phase netlist m) island)

module _ (netlist injected : Netlist) (site : ℕ) (good faulty : Machine) (sound : IsSound netlist.parts)
    (is : IsInjected netlist site injected) (abreast : AreAbreast netlist good faulty) where
  abbrev parts : Parts
  parts = netlist.parts

  -- the cells that a cell reads, as it reads them
  abbrev FromAll : Cell → Type 0
  FromAll cell = (other : ℕ) → CellReads parts cell (cell_of parts other) → HidesFrom netlist injected site good faulty cell other

  -- ---- an element

  island-same : (island : ℕ) → Hides site (pass netlist good) (pass injected faulty) (number_of parts (IslandCell island)) →
      cell_state (first_phase injected faulty) (number_of parts (IslandCell island)) ≡ cell_state (first_phase netlist good) (number_of parts (IslandCell island))
  island-same island hides =
      subst (λ (p : Parts). cell_state (first_phase injected faulty) (number_of p (IslandCell island)) ≡ cell_state (pass injected faulty) (number_of p (IslandCell island)))
      is.parts (island-kept injected faulty island)
      ∙ hides.state
      ∙ sym (island-kept netlist good island)

  seen-same : (net : ℕ) → Hides site (pass netlist good) (pass injected faulty) (number_of parts (IslandCell (net_at parts net).island)) →
      (net_state injected.parts (first_phase injected faulty).cells net).seen ≡ (net_state parts (first_phase netlist good).cells net).seen
  seen-same net hides =
      let part = net_at parts net in
      ap (λ (p : Parts). (net_state p (first_phase injected faulty).cells net).seen) is.parts
      ∙ ap (λ (s : CellState). (state_at (as_island s).nets part.place).seen) (island-same part.island hides)

  element-agrees : (element : ℕ) → FromAll (ElementCell element) →
      AgreeAt parts (ElementCell element) (next_readings netlist good (ElementCell element)) (next_readings injected faulty (ElementCell element))
  element-agrees element from k d lt =
      let ins = (element_at parts element).ins in
      let net : ℕ = get_or ins k d in
      let island : ℕ = (net_at parts net).island in
      let reads : CellReads parts (ElementCell element) (IslandCell island) = (net, Contains-get_or ins k d lt, refl) in
      sym (seen-same net (from (number_of parts (IslandCell island)) (subst (CellReads parts (ElementCell element)) (sym (cell_of-island parts island)) reads)))

  -- ---- an island

  element-same : (element : ℕ) → Hides site good faulty element → cell_state (mature faulty) element ≡ cell_state (mature good) element
  element-same element hides =
      mature-at faulty element
      ∙ ap (λ (t : ℕ). mature_cell t (cell_state faulty element)) abreast.time
      ∙ ap (mature_cell good.time) hides.state
      ∙ sym (mature-at good element)

  patch-same : (element : ℕ) → element < length parts.elements → Hides site good faulty element → patch_of injected (ElementCell element) ≡ patch_of netlist (ElementCell element)
  patch-same element inner hides =
      let cell = cell_of-element parts element inner in
      subst (λ (c : Cell). patch_of injected c ≡ patch_of netlist c) cell (is.patches element hides.elsewhere)

  drive-same : (element pin : ℕ) → element < length parts.elements → Hides site good faulty element →
      (readings injected faulty.inputs (mature faulty).cells).drive element pin ≡ (readings netlist good.inputs (mature good).cells).drive element pin
  drive-same element pin inner hides =
      ap (λ (p : Patch). drive_at p pin (as_element (cell_state (mature faulty) element))) (patch-same element inner hides)
      ∙ ap (λ (s : CellState). drive_at (patch_of netlist (ElementCell element)) pin (as_element s)) (element-same element hides)

  conduct-same : (element : ℕ) → element < length parts.elements → Hides site good faulty element →
      (readings injected faulty.inputs (mature faulty).cells).conduct element ≡ (readings netlist good.inputs (mature good).cells).conduct element
  conduct-same element inner hides =
      ap (λ (p : Patch). conduct_at p (as_element (cell_state (mature faulty) element))) (patch-same element inner hides)
      ∙ ap (λ (s : CellState). conduct_at (patch_of netlist (ElementCell element)) (as_element s)) (element-same element hides)

  input-same : (net : ℕ) → input_among injected.parts.inputs faulty.inputs net ≡ input_among parts.inputs good.inputs net
  input-same net =
      ap (λ (p : Parts). input_among p.inputs faulty.inputs net) is.parts
      ∙ ap (λ (signals : List Signal). input_among parts.inputs signals net) abreast.inputs

  island-agrees : (island : ℕ) → FromAll (IslandCell island) →
      AgreeAt parts (IslandCell island) (next_readings netlist good (IslandCell island)) (next_readings injected faulty (IslandCell island))
  island-agrees island from = record {
    drives = λ k d lt.
        let drive : Drive = get_or (island_at parts island).drives k d in
        let inner = drives-within parts sound island k d lt in
        let reads : CellReads parts (IslandCell island) (ElementCell drive.element) =
        inl (drive, Contains-get_or (island_at parts island).drives k d lt, refl) in
        sym (drive-same drive.element drive.pin inner
        (from drive.element (subst (CellReads parts (IslandCell island)) (sym (cell_of-element parts drive.element inner)) reads)));
    links = λ k d lt.
        let link : ℕ = get_or (island_at parts island).links k d in
        let inner = links-within parts sound island k d lt in
        let reads : CellReads parts (IslandCell island) (ElementCell link) = inr (Contains-get_or (island_at parts island).links k d lt) in
        sym (conduct-same link inner
        (from link (subst (CellReads parts (IslandCell island)) (sym (cell_of-element parts link inner)) reads)));
    inputs = λ k d lt. sym (input-same _);
  }

  cell-agrees : (cell : Cell) → FromAll cell → AgreeAt parts cell (next_readings netlist good cell) (next_readings injected faulty cell)
  cell-agrees (ElementCell element) from = element-agrees element from
  cell-agrees (IslandCell island) from = island-agrees island from

  -- ---- the law

  pub stays-hidden : (number : ℕ) → number < cell_count parts → Hides site good faulty number → FromAll (cell_of parts number) →
      Hides site (pass netlist good) (pass injected faulty) number
  stays-hidden number inside hides from = record {
    elsewhere = hides.elsewhere;
    state = sym (pass-local netlist injected good faulty number (sym is.parts)
        (let e = abreast.good_count in omega arith) (let e = abreast.faulty_count in omega arith)
        (record {
          patch = sym (is.patches number hides.elsewhere);
          time = sym abreast.time;
          state = sym hides.state;
          reads = cell-agrees (cell_of parts number) from;
        }));
  }
