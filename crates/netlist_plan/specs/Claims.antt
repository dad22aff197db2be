-- What the declarations of the nets that are joined through ports make of the flat net.
use Rattle.std.specs.Prelude.{ℕ, Bool, true, false, not, ◌&&◌, List, [], ◌∷◌, None, is_none, nat_eq, if◌then◌else◌}
use Rattle.flat_net.specs.declared.kinds.NetKind.{NetKind}
use Rattle.flat_net.specs.declared.kinds.NetKind.TheVariants.{Wire}
use Rattle.netlist_plan.specs.declared.claims.NetClaim.{NetClaim}

-- a wire without delay
abbrev pub plain_claim : NetClaim
plain_claim = record { class = record { kind = Wire; charge = 0 }; delays = None }

abbrev pub is_wire : NetKind → Bool
is_wire Wire = true
is_wire kind = false

abbrev pub is_plain : NetClaim → Bool
is_plain claim = is_wire claim.class.kind && is_none claim.delays

-- the first of the claims on a net that isn't a wire without delay, else that
abbrev pub claim_on : List (ℕ × NetClaim) → ℕ → NetClaim
claim_on [] net = plain_claim
claim_on ((other, claim) ∷ claims) net = if nat_eq other net && not (is_plain claim) then claim else claim_on claims net
