-- Whether two readings agree at a cell is decided by tests, so where they don't fail to agree they agree.
use Rattle.std.proofs.Common.{◌≡◌, Bool, true, false, List, refl, sym, ◌∙◌}
use Rattle.std.specs.Prelude.{All}
use Rattle.std.proofs.lemmas.Bool.{true_from_ne_false}
use Rattle.delay_rule.specs.Inertia.{same_signal, same_conduct}
use Rattle.delay_rule.proofs.InertiaLemmas.{IsEquality, IsEquality-same_signal}
use Rattle.flat_net.specs.declared.kinds.Cell.{Cell}
use Rattle.flat_net.specs.declared.kinds.Cell.TheVariants.{Element as ElementCell, Island as IslandCell}
use Rattle.flat_net.specs.declared.parts.Drive.{Drive}
use Rattle.flat_net.specs.declared.parts.Parts.{Parts}
use Rattle.cell_step.specs.Readings.{Readings, AgreeAtIsland, element_at, island_at}
use Rattle.cell_step.proofs.Aiming.{IsEquality-same_conduct}
use Rattle.machine.specs.Touched.{AgreeAt}

-- what isn't unequal by a test is equal
stable : {V : Type 0} (same : V → V → Bool) → IsEquality same → (a b : V) → ¬ (¬ (a ≡ b)) → a ≡ b
stable same law a b never =
    (law a b).0 (true_from_ne_false (same a b) (λ e. never (λ f. differ (same a b) e ((law a b).1 f))))
  where
    differ : (x : Bool) → x ≡ false → x ≡ true → ⊥
    differ x e f = absurd (let g : false ≡ true = sym e ∙ f in cc)

All-stable : {X : Type 0} (P : X → Type 0) (xs : List X) → ((x : X) → ¬ (¬ P x) → P x) → ¬ (¬ All P xs) → All P xs
All-stable P xs each never k d lt = each _ (λ none. never (λ all. none (all k d lt)))

pub AgreeAt-stable : (parts : Parts) (cell : Cell) (r s : Readings) → ¬ (¬ AgreeAt parts cell r s) → AgreeAt parts cell r s
AgreeAt-stable parts (ElementCell number) r s never =
    All-stable (λ net. r.seen net ≡ s.seen net) (element_at parts number).ins
    (λ net. stable same_signal IsEquality-same_signal (r.seen net) (s.seen net)) never
AgreeAt-stable parts (IslandCell number) r s never =
    let island = island_at parts number in
    let drives : ¬ (¬ All (λ (drive : Drive). r.drive drive.element drive.pin ≡ s.drive drive.element drive.pin) island.drives) =
    λ none. never (λ (agree : AgreeAtIsland island r s). none agree.drives) in
    let links : ¬ (¬ All (λ link. r.conduct link ≡ s.conduct link) island.links) =
    λ none. never (λ (agree : AgreeAtIsland island r s). none agree.links) in
    let inputs : ¬ (¬ All (λ net. r.input net ≡ s.input net) island.nets) =
    λ none. never (λ (agree : AgreeAtIsland island r s). none agree.inputs) in
    record {
      drives = All-stable (λ (drive : Drive). r.drive drive.element drive.pin ≡ s.drive drive.element drive.pin) island.drives
          (λ drive. stable same_signal IsEquality-same_signal (r.drive drive.element drive.pin) (s.drive drive.element drive.pin)) drives;
      links = All-stable (λ link. r.conduct link ≡ s.conduct link) island.links
          (λ link. stable same_conduct IsEquality-same_conduct (r.conduct link) (s.conduct link)) links;
      inputs = All-stable (λ net. r.input net ≡ s.input net) island.nets
          (λ net. stable same_signal IsEquality-same_signal (r.input net) (s.input net)) inputs;
    }

-- readings agree with themselves
pub AgreeAt-itself : (parts : Parts) (cell : Cell) (r : Readings) → AgreeAt parts cell r r
AgreeAt-itself parts (ElementCell number) r = λ k d lt. refl
AgreeAt-itself parts (IslandCell number) r = record { drives = λ k d lt. refl; links = λ k d lt. refl; inputs = λ k d lt. refl }
