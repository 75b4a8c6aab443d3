-- A call at one end of two that are joined, whose next entry is marked with its place among those of both.
use Rattle.std.proofs.Common.{◌≡◌, sym, ◌∙◌, ℕ, ◌+◌, List, length, arith}
use Rattle.bridge_core.specs.declared.side.Side.TheVariants as code
use Rattle.bridge_endpoint.specs.Journals.{Endpoint, stamped}
use Rattle.world_laws.proofs.MergeLaws.{how_many}
use Rattle.bridge_world.specs.Joined.{Grows, end_at, joined}
use Rattle.bridge_world.specs.Worlds.{IsWorld}
use Rattle.bridge_world.proofs.Going.{Goes, a_grows, a_joined, a_other, a_seen, b_grows, b_joined, b_other, b_seen}
use Rattle.bridge_world.proofs.Unmarked.{unmark}

-- A was called: both are joined still; A is seen as it is, and B as it was; what A made stands behind all
pub record ACalled (a b e : Endpoint) (into from : List ℕ) : Type 0 where
  pub world : IsWorld e b into from
  pub seen : end_at (joined e b) code.A ≡ unmark e
  pub other : end_at (joined e b) code.B ≡ end_at (joined a b) code.B
  pub grows : Grows code.A (joined a b) (joined e b)

pub record BCalled (a b e : Endpoint) (into from : List ℕ) : Type 0 where
  pub world : IsWorld a e from into
  pub seen : end_at (joined a e) code.B ≡ unmark e
  pub other : end_at (joined a e) code.A ≡ end_at (joined a b) code.A
  pub grows : Grows code.B (joined a b) (joined a e)

module _ (a b : Endpoint) (to_a to_b : List ℕ) (is : IsWorld a b to_a to_b) where
  -- a mark changes nothing of this
  marked_a : (n : ℕ) → IsWorld (stamped n a) b to_a to_b
  marked_a n = record { registry = is.registry; merged = is.merged; piped = is.piped }

  marked_b : (n : ℕ) → IsWorld a (stamped n b) to_a to_b
  marked_b n = record { registry = is.registry; merged = is.merged; piped = is.piped }

  there_are : length (joined a b).events ≡ length a.entries + length b.entries
  there_are = how_many (joined a b).events a.entries b.entries a.stamps b.stamps is.merged

  turned : (n : ℕ) → n ≡ length b.entries + length a.entries → n ≡ length a.entries + length b.entries
  turned n at = omega (arith, at)

  pub a_called : (n : ℕ) → n ≡ length a.entries + length b.entries → (e : Endpoint) (into from : List ℕ) → Goes (stamped n a) to_a to_b e into from → ACalled a b e into from
  a_called n at e into from goes =
      let marked = marked_a n in
      let place = at ∙ sym there_are in
      record {
        world = a_joined (stamped n a) b to_a to_b marked place e into from goes;
        seen = a_seen (stamped n a) b to_a to_b marked place e into from goes;
        other = a_other (stamped n a) b to_a to_b marked place e into from goes;
        grows = a_grows (stamped n a) b to_a to_b marked place e into from goes;
      }

  pub b_called : (n : ℕ) → n ≡ length b.entries + length a.entries → (e : Endpoint) (into from : List ℕ) → Goes (stamped n b) to_b to_a e into from → BCalled a b e into from
  b_called n at e into from goes =
      let marked = marked_b n in
      let place = turned n at ∙ sym there_are in
      record {
        world = b_joined a (stamped n b) to_a to_b marked place e into from goes;
        seen = b_seen a (stamped n b) to_a to_b marked place e into from goes;
        other = b_other a (stamped n b) to_a to_b marked place e into from goes;
        grows = b_grows a (stamped n b) to_a to_b marked place e into from goes;
      }
