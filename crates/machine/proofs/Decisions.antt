-- The tests decide where cells are touched, and where faults show and are visible.
use Rattle.std.proofs.Common.{◌≡◌, ℕ, zero, suc, ◌<◌, Bool, true, false, List, [], ◌∷◌, length, refl, ap, sym, ◌∙◌, subst, inl, inr, arith}
use Rattle.std.specs.Prelude.{All, Contains, not, map}
use Rattle.std.specs.List.{list_any}
use Rattle.std.specs.Bool.{Decides}
use Rattle.std.proofs.lemmas.Bool.Decides.{Decides-and, Decides-or, Decides-not, Decides-like, Decides-eqb}
use Rattle.std.proofs.lemmas.Bool.{or_cases, true≢false}
use Rattle.std.proofs.lemmas.List.{get_or-map, length-map}
use Rattle.std.proofs.lemmas.List.Elements.{Contains-append_left, Contains-append_right, Contains-append_cases, All-contains}
use Rattle.std.proofs.lemmas.List.Folds.{list_any_at}
use Rattle.delay_rule.specs.Inertia.{same_signal, same_conduct}
use Rattle.delay_rule.proofs.InertiaLemmas.{IsEquality-same_signal}
use Rattle.flat_net.specs.declared.kinds.Cell.{Cell}
use Rattle.flat_net.specs.declared.kinds.Cell.TheVariants.{Element as ElementCell, Island as IslandCell}
use Rattle.flat_net.specs.declared.parts.Drive.{Drive}
use Rattle.flat_net.specs.declared.parts.Parts.{Parts}
use Rattle.flat_net.specs.Patches.{Netlist}
use Rattle.flat_net.proofs.Decisions.{Decides-list_all}
use Rattle.cell_step.specs.Readings.{Readings, AgreeAtIsland, element_at, net_at, island_at}
use Rattle.cell_step.proofs.Aiming.{IsEquality-same_conduct}
use Rattle.machine.specs.Machine.{Machine, cell_of, number_of, cell_state}
use Rattle.machine.specs.Pass.{is_cell_due, next_readings, pass}
use Rattle.machine.specs.Touched.{AgreeAt, last_readings, IsTouched, CellReads, Reads, Shows, ShowsAround, IsVisible}
use Rattle.flat_net.specs.Soundness.{IsSound}
use Rattle.machine.specs.Tests.{agrees_at, is_touched, shows, shows_around, cells_read_by, cells_read, is_visible}
use Rattle.machine.proofs.Numbers.{cell_of-element, cell_of-island, number_of-cell_of}
use Rattle.machine.proofs.Reading.{drives-within, links-within}
use Rattle.machine.proofs.SameStates.{IsEquality-same_cell}

pub Decides-agrees_at : (parts : Parts) (cell : Cell) (r s : Readings) → Decides (agrees_at parts cell r s) (AgreeAt parts cell r s)
unfolding agrees_at
Decides-agrees_at parts (ElementCell number) r s =
    Decides-list_all (λ net. same_signal (r.seen net) (s.seen net)) (λ net. r.seen net ≡ s.seen net)
    (λ net. IsEquality-same_signal (r.seen net) (s.seen net)) (element_at parts number).ins
Decides-agrees_at parts (IslandCell number) r s =
    let island = island_at parts number in
    let drives = Decides-list_all (λ (drive : Drive). same_signal (r.drive drive.element drive.pin) (s.drive drive.element drive.pin))
    (λ (drive : Drive). r.drive drive.element drive.pin ≡ s.drive drive.element drive.pin)
    (λ drive. IsEquality-same_signal (r.drive drive.element drive.pin) (s.drive drive.element drive.pin)) island.drives in
    let links = Decides-list_all (λ link. same_conduct (r.conduct link) (s.conduct link)) (λ link. r.conduct link ≡ s.conduct link)
    (λ link. IsEquality-same_conduct (r.conduct link) (s.conduct link)) island.links in
    let inputs = Decides-list_all (λ net. same_signal (r.input net) (s.input net)) (λ net. r.input net ≡ s.input net)
    (λ net. IsEquality-same_signal (r.input net) (s.input net)) island.nets in
    Decides-like (agrees_at parts (IslandCell number) r s)
    (λ (w : All (λ (drive : Drive). r.drive drive.element drive.pin ≡ s.drive drive.element drive.pin) island.drives
    × (All (λ link. r.conduct link ≡ s.conduct link) island.links × All (λ net. r.input net ≡ s.input net) island.nets)).
    let agree : AgreeAtIsland island r s = record { drives = w.0; links = w.1.0; inputs = w.1.1 } in agree)
    (λ (agree : AgreeAtIsland island r s). (agree.drives, (agree.links, agree.inputs)))
    (Decides-and _ _ drives (Decides-and _ _ links inputs))

Decides-itself : (b : Bool) → Decides b (b ≡ true)
Decides-itself b = (λ h. h, λ h. h)

Decides-not_true : (b : Bool) → Decides (not b) (b ≡ false)
Decides-not_true true = (λ h. cc, λ e. cc)
Decides-not_true false = (λ h. refl, λ e. refl)

pub Decides-is_touched : (netlist : Netlist) (m : Machine) (number : ℕ) → Decides (is_touched netlist m number) (IsTouched netlist m number)
unfolding is_touched
Decides-is_touched netlist m number =
    let cell : Cell = cell_of netlist.parts number in
    Decides-or _ _ (Decides-not_true m.has_passed)
    (Decides-or _ _ (Decides-itself (is_cell_due m.time (cell_state m number)))
    (Decides-not _ (Decides-agrees_at netlist.parts cell (last_readings netlist m) (next_readings netlist m cell))))

pub Decides-shows : (site : ℕ) (good faulty : Machine) (number : ℕ) → Decides (shows site good faulty number) (Shows site good faulty number)
unfolding shows
Decides-shows site good faulty number =
    Decides-or _ _ (Decides-eqb number site) (Decides-not _ (IsEquality-same_cell (cell_state faulty number) (cell_state good number)))

-- ---- cells that a cell reads

contains-map : {X Y : Type 0} (f : X → Y) (xs : List X) (x : X) → Contains xs x → Contains (map f xs) (f x)
contains-map f xs x (k, lt, is) = (k, (let e = length-map xs f in omega arith), get_or-map f xs k x (f x) lt ∙ ap f is)

map-contains : {X Y : Type 0} (f : X → Y) (xs : List X) (y : Y) → Contains (map f xs) y → (x : X) × Contains xs x × (f x ≡ y)
map-contains f [] y (k, lt, is) = absurd (omega arith)
map-contains f (x ∷ xs) y (zero, lt, is) = (x, (0, omega arith, refl), is)
map-contains f (x ∷ xs) y (suc k, lt, is) =
    let rest = map-contains f xs y (k, omega arith, is) in
    (rest.0, (suc rest.1.0, (let inside = rest.1.1 in omega arith), rest.1.2), rest.2)

module _ (parts : Parts) (sound : IsSound parts) where
  -- an element's number, as that of a cell that an island reads
  inner-read : (island element : ℕ) → element < length parts.elements → CellReads parts (IslandCell island) (ElementCell element) →
      CellReads parts (IslandCell island) (cell_of parts element)
  inner-read island element inner reads = subst (CellReads parts (IslandCell island)) (sym (cell_of-element parts element inner)) reads

  listed-reads : (cell : Cell) (other : ℕ) → Contains (cells_read_by parts cell) other → CellReads parts cell (cell_of parts other)
  listed-reads (ElementCell element) other listed =
      let found = map-contains (λ net. number_of parts (IslandCell (net_at parts net).island)) (element_at parts element).ins other listed in
      let island : ℕ = (net_at parts found.0).island in
      let reads : CellReads parts (ElementCell element) (IslandCell island) = (found.0, found.1, refl) in
      subst (λ (k : ℕ). CellReads parts (ElementCell element) (cell_of parts k)) found.2
      (subst (CellReads parts (ElementCell element)) (sym (cell_of-island parts island)) reads)
  listed-reads (IslandCell island) other listed =
      elim (Contains-append_cases (map (λ (drive : Drive). drive.element) (island_at parts island).drives) (island_at parts island).links other listed) [
        | inl driven ↦
            let found = map-contains (λ (drive : Drive). drive.element) (island_at parts island).drives other driven in
            let inner : other < length parts.elements =
            subst (λ (k : ℕ). k < length parts.elements) found.2
            (All-contains (λ (drive : Drive). drive.element < length parts.elements) (island_at parts island).drives found.0 (drives-within parts sound island) found.1) in
            inner-read island other inner (inl (found.0, found.1, found.2))
        | inr linked ↦
            let inner : other < length parts.elements =
            All-contains (λ (link : ℕ). link < length parts.elements) (island_at parts island).links other (links-within parts sound island) linked in
            inner-read island other inner (inr linked)
      ]

  reads-listed : (cell other : Cell) → CellReads parts cell other → Contains (cells_read_by parts cell) (number_of parts other)
  reads-listed (ElementCell element) (IslandCell island) (net, listed, is) =
      subst (λ (i : ℕ). Contains (cells_read_by parts (ElementCell element)) (number_of parts (IslandCell i))) is
      (contains-map (λ n. number_of parts (IslandCell (net_at parts n).island)) (element_at parts element).ins net listed)
  reads-listed (IslandCell island) (ElementCell element) (inl (drive, listed, is)) =
      Contains-append_left (map (λ (d : Drive). d.element) (island_at parts island).drives) (island_at parts island).links element
      (subst (Contains (map (λ (d : Drive). d.element) (island_at parts island).drives)) is
      (contains-map (λ (d : Drive). d.element) (island_at parts island).drives drive listed))
  reads-listed (IslandCell island) (ElementCell element) (inr linked) =
      Contains-append_right (map (λ (d : Drive). d.element) (island_at parts island).drives) (island_at parts island).links element linked
  reads-listed (ElementCell element) (ElementCell other) h = absurd h
  reads-listed (IslandCell island) (IslandCell other) h = absurd h

  -- the list has the numbers of the cells that the cell reads
  pub cells_read-are : (number other : ℕ) → (Contains (cells_read parts number) other → Reads parts number other) × (Reads parts number other → Contains (cells_read parts number) other)
  cells_read-are number other = (
    listed-reads (cell_of parts number) other,
    λ reads. subst (Contains (cells_read parts number)) (number_of-cell_of parts other) (reads-listed (cell_of parts number) (cell_of parts other) reads),
  )

-- ---- where a fault is visible

any-of : {X : Type 0} (test : X → Bool) (P : X → Type 0) → ((x : X) → Decides (test x) (P x)) → (xs : List X) → list_any test xs ≡ true → (x : X) × Contains xs x × P x
any-of test P law [] e = absurd (true≢false (sym e))
any-of test P law (x ∷ xs) e = elim (or_cases (test x) (list_any test xs) e) [
  | inl here ↦ (x, (0, omega arith, refl), (law x).0 here)
  | inr there ↦
      let rest = any-of test P law xs there in
      (rest.0, (suc rest.1.0, (let inside = rest.1.1 in omega arith), rest.1.2), rest.2)
]

from-any : {X : Type 0} (test : X → Bool) (P : X → Type 0) → ((x : X) → Decides (test x) (P x)) → (xs : List X) (x : X) → Contains xs x → P x → list_any test xs ≡ true
from-any test P law xs x (k, lt, is) h = list_any_at test xs k x lt (ap test is ∙ (law x).1 h)

module _ (netlist injected : Netlist) (site : ℕ) (good faulty : Machine) where
  Decides-shows_around : (number : ℕ) → Decides (shows_around netlist injected site good faulty number) (ShowsAround netlist injected site good faulty number)
  Decides-shows_around number =
      Decides-or _ _ (Decides-shows site good faulty number) (Decides-shows site (pass netlist good) (pass injected faulty) number)

  module _ (sound : IsSound netlist.parts) (number : ℕ) where
    abbrev ReadsShown : Type 0
    ReadsShown = (other : ℕ) × Reads netlist.parts number other × ShowsAround netlist injected site good faulty other

    abbrev any_read : Bool
    any_read = list_any (shows_around netlist injected site good faulty) (cells_read netlist.parts number)

    read-shown : any_read ≡ true → ReadsShown
    read-shown e =
        let found = any-of (shows_around netlist injected site good faulty) (ShowsAround netlist injected site good faulty) Decides-shows_around
        (cells_read netlist.parts number) e in
        (found.0, (cells_read-are netlist.parts sound number found.0).0 found.1, found.2)

    shown-read : ReadsShown → any_read ≡ true
    shown-read (other, reads, around) =
        from-any (shows_around netlist injected site good faulty) (ShowsAround netlist injected site good faulty) Decides-shows_around
        (cells_read netlist.parts number) other ((cells_read-are netlist.parts sound number other).1 reads) around

    pub Decides-is_visible : Decides (is_visible netlist injected site good faulty number) (IsVisible netlist injected site good faulty number)
    unfolding is_visible
    Decides-is_visible =
        Decides-or _ _ (Decides-eqb number site) (Decides-or _ _ (Decides-shows_around number) (read-shown, shown-read))
