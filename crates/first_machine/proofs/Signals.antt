-- Strong signals are told apart by their logic values.
use Rattle.std.proofs.Common.{◌≡◌, true, refl}
use Rattle.std.specs.Str.{bytes_eq}
use Rattle.level_range.specs.Signal.{reads, signal_text}
use Rattle.level_range.specs.declared.range.Logic.{Logic}
use Rattle.level_range.specs.declared.range.Logic.TheVariants.{Zero, One, X, Z}
use Rattle.first_machine.specs.Machine.{strong}
use Rattle.first_machine.specs.Pass.{same_signal}
use Rattle.first_machine.specs.Shown.{same_logic}

pub reads-strong : (v : Logic) → reads (strong v) ≡ v
reads-strong Zero = refl
reads-strong One = refl
reads-strong X = refl
reads-strong Z = refl

pub same_signal-strong : (a b : Logic) → same_signal (strong a) (strong b) ≡ same_logic a b
same_signal-strong Zero Zero = refl
same_signal-strong Zero One = refl
same_signal-strong Zero X = refl
same_signal-strong Zero Z = refl
same_signal-strong One Zero = refl
same_signal-strong One One = refl
same_signal-strong One X = refl
same_signal-strong One Z = refl
same_signal-strong X Zero = refl
same_signal-strong X One = refl
same_signal-strong X X = refl
same_signal-strong X Z = refl
same_signal-strong Z Zero = refl
same_signal-strong Z One = refl
same_signal-strong Z X = refl
same_signal-strong Z Z = refl

pub bytes_eq-signal_text : (a b : Logic) → bytes_eq (signal_text (strong a)) (signal_text (strong b)) ≡ same_logic a b
bytes_eq-signal_text Zero Zero = refl
bytes_eq-signal_text Zero One = refl
bytes_eq-signal_text Zero X = refl
bytes_eq-signal_text Zero Z = refl
bytes_eq-signal_text One Zero = refl
bytes_eq-signal_text One One = refl
bytes_eq-signal_text One X = refl
bytes_eq-signal_text One Z = refl
bytes_eq-signal_text X Zero = refl
bytes_eq-signal_text X One = refl
bytes_eq-signal_text X X = refl
bytes_eq-signal_text X Z = refl
bytes_eq-signal_text Z Zero = refl
bytes_eq-signal_text Z One = refl
bytes_eq-signal_text Z X = refl
bytes_eq-signal_text Z Z = refl

pub same_logic-same : (a : Logic) → same_logic a a ≡ true
same_logic-same Zero = refl
same_logic-same One = refl
same_logic-same X = refl
same_logic-same Z = refl

pub same_logic-true : (a b : Logic) → same_logic a b ≡ true → a ≡ b
same_logic-true Zero Zero e = refl
same_logic-true One One e = refl
same_logic-true X X e = refl
same_logic-true Z Z e = refl
same_logic-true Zero One e = absurd cc
same_logic-true Zero X e = absurd cc
same_logic-true Zero Z e = absurd cc
same_logic-true One Zero e = absurd cc
same_logic-true One X e = absurd cc
same_logic-true One Z e = absurd cc
same_logic-true X Zero e = absurd cc
same_logic-true X One e = absurd cc
same_logic-true X Z e = absurd cc
same_logic-true Z Zero e = absurd cc
same_logic-true Z One e = absurd cc
same_logic-true Z X e = absurd cc
