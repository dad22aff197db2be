use Rattle.std.proofs.Common.{◌<◌, ℕ, List, length, get_or, sym, subst, arith, inl, inr}
use Rattle.std.specs.Str.{IsUtf8}
use Rattle.std.proofs.lemmas.Bool.{cases_lt}
use Rattle.std.proofs.lemmas.List.{get_or_past}
use Rattle.std.proofs.lemmas.Str.{IsUtf8-from_ascii}
use Rattle.flat_net.specs.Soundness.{IsAscii}
use Rattle.flat_net.proofs.flat.text_of.Goals as goal

byte_at : (name : List ℕ) → IsAscii name → (i : ℕ) → get_or name i 0 < 128
byte_at name ascii i = elim (cases_lt i (length name)) [
  | inl lt ↦ ascii i 0 lt
  | inr le ↦ rw (get_or_past name i 0 le) (omega arith)
]

pub unreachable-requires : goal.unreachable-requires
unreachable-requires c =
    let utf8 = IsUtf8-from_ascii c.args.name.now (byte_at c.args.name.now c.requires) in
    c.in-Err.ensures.cases.0 (subst (λ (bytes : List ℕ). IsUtf8 bytes) (sym c.as_slice.ensures) utf8)
