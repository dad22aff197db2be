-- The delays that a list of ticks makes: of more than three the first three, each as it is below 2^31.
use Rattle.std.specs.Prelude.{ℕ, zero, suc, ◌<◌, ◌^◌, List, [], ◌∷◌, min, slice_index}
use Rattle.std.proofs.Math.Nat.{min-le_right}
use Prim.Native.Nat.{zero-le, suc-le-suc}
use Rattle.delay_rule.specs.declared.delays.Delays.{Delays}

-- a delay up to the greatest one
abbrev pub up_to_greatest : ℕ → ℕ
up_to_greatest ticks = min ticks 2147483647

pub are_short : (rise fall off k : ℕ) → slice_index (up_to_greatest rise ∷ up_to_greatest fall ∷ up_to_greatest off ∷ []) k < 2 ^ 31
are_short rise fall off zero = suc-le-suc (min-le_right rise 2147483647)
are_short rise fall off (suc zero) = suc-le-suc (min-le_right fall 2147483647)
are_short rise fall off (suc (suc zero)) = suc-le-suc (min-le_right off 2147483647)
are_short rise fall off (suc (suc (suc k))) = suc-le-suc zero-le

abbrev pub no_delays : Delays
no_delays = record { count = 0; d = up_to_greatest 0 ∷ up_to_greatest 0 ∷ up_to_greatest 0 ∷ []; few = zero-le; short = are_short 0 0 0 }

abbrev pub delays_from : List ℕ → Delays
delays_from [] = no_delays
delays_from (all ∷ []) = record {
  count = 1;
  d = up_to_greatest all ∷ up_to_greatest 0 ∷ up_to_greatest 0 ∷ [];
  few = suc-le-suc zero-le;
  short = are_short all 0 0;
}
delays_from (rise ∷ fall ∷ []) = record {
  count = 2;
  d = up_to_greatest rise ∷ up_to_greatest fall ∷ up_to_greatest 0 ∷ [];
  few = suc-le-suc (suc-le-suc zero-le);
  short = are_short rise fall 0;
}
delays_from (rise ∷ fall ∷ off ∷ rest) = record {
  count = 3;
  d = up_to_greatest rise ∷ up_to_greatest fall ∷ up_to_greatest off ∷ [];
  few = suc-le-suc (suc-le-suc (suc-le-suc zero-le));
  short = are_short rise fall off;
}
