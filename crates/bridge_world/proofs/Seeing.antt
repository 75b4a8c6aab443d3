-- The side of an endpoint is that of what it told, whatever its mark.
use Rattle.std.proofs.Common.{◌≡◌, refl, ap, ℕ}
use Rattle.bridge_endpoint.specs.Journals.{Endpoint, side_at, stamped, told_at}

-- a mark changes no side
stamped_told : (n : ℕ) (e : Endpoint) → told_at (stamped n e) ≡ told_at e
unfolding told_at
stamped_told n e = refl

pub stamped_side : (n : ℕ) (e : Endpoint) → side_at (stamped n e) ≡ side_at e
unfolding side_at
stamped_side n e = ap (λ t. t.side) (stamped_told n e)

pub side_of_told : (e : Endpoint) → side_at e ≡ (told_at e).side
unfolding side_at
side_of_told e = refl
