-- What the lists of an island have to be for `settle`.
use Rattle.std.specs.Prelude.{◌≡◌, ◌≢◌, ◌<◌, ◌≤◌, ◌⊎◌, ℕ, pos, List, [], length, All, slice_index_or}
use Rattle.level_range.specs.declared.range.Conduct.{Conduct}
use Rattle.level_range.specs.declared.range.Kind.TheVariants.{Plain}
use Rattle.level_range.specs.Signal.{Signal, negative_level}
use Rattle.net_settle.specs.declared.shape.Link.{Link}
use Rattle.net_settle.specs.declared.shape.Shape.{Shape}
use Rattle.net_settle.specs.Settling.{AreSettled}
use Rattle.net_settle.specs.Charges.{level, signal_at, switches_of, charged_signals, prefer_driven_signals}

-- the ends of each link are among so many nets
abbrev pub EndsWithin : ℕ → List Link → Type 0
EndsWithin nets links = All (λ link. (link.a < nets) × (link.b < nets)) links

-- no charge, or that of a small, a medium or a large trireg
abbrev pub IsChargeLevel : ℕ → Type 0
IsChargeLevel c = (c ≡ 0) ⊎ (c ≡ 1) ⊎ (c ≡ 2) ⊎ (c ≡ 4)

-- a charge of strength c has the value 0 or 1, or it isn't known which
abbrev pub IsCharge : ℕ → Signal → Type 0
IsCharge c charge =
    (charge ≡ level (negative_level c)) ⊎ (charge ≡ level (pos c)) ⊎ (charge ≡ record { lo = negative_level c; hi = pos c })

-- the charge of each trireg is one of its level
abbrev pub AreCharges : List ℕ → List Signal → Type 0
AreCharges levels charges =
    (n : ℕ) → slice_index_or levels n 0 ≢ 0 → IsCharge (slice_index_or levels n 0) (signal_at charges n)

-- a net that isn't plain is alone and has no link
abbrev pub WiredAlone : Shape → Type 0
WiredAlone shape =
    (n : ℕ) → slice_index_or shape.kinds n Plain ≢ Plain → (length shape.kinds ≡ 1) × (shape.links ≡ [])

-- a shape and the charges of its nets
pub record IsIsland (shape : Shape) (nets : ℕ) (charges : List Signal) : Type 0 where
  pub kinds : length shape.kinds ≡ nets
  pub levels : length shape.charge ≡ nets
  pub ends : EndsWithin nets shape.links
  pub strengths : All IsChargeLevel shape.charge
  pub charge_nets : length charges ≡ nets

-- the lists that are given to `settle`, and the room of its scratch
pub record CanSettle (shape : Shape) (own : List Signal) (on : List Conduct) (charges driven signals : List Signal) (room : ℕ) : Type 0 where
  pub island : IsIsland shape (length own) charges
  pub conduction : length on ≡ length shape.links
  pub driven_nets : length driven ≡ length own
  pub signal_nets : length signals ≡ length own
  pub enough : length own ≤ room

-- a net without a charge keeps what stands in its place
abbrev pub OthersStay : List ℕ → List Signal → List Signal → Type 0
OthersStay levels before after = (n : ℕ) → slice_index_or levels n 0 ≡ 0 → signal_at after n ≡ signal_at before n

-- the signals of an island are the driven ones where they exclude 0, else those that are settled with charges
pub record AreCharged (shape : Shape) (on : List Conduct) (own charges driven signals : List Signal) : Type 0 where
  pub second : List Signal
  pub settled : AreSettled (switches_of shape on) (charged_signals shape.kinds shape.charge own charges driven) second
  pub prefer_driven : signals ≡ prefer_driven_signals driven second
