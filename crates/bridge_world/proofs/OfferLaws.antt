-- A deed that is listed may be done: bytes wait to go out, bytes are on their way to an end that stands, or an end stands to which none come any more.
use Rattle.std.proofs.Common.{◌≡◌, refl, subst, ℕ, zero, suc, Bool, true, false, not, ◌&&◌, List, [], ◌∷◌, ◌++◌, slice_get, Option, None, Some}
use Rattle.std.specs.List.{AllByRecursion}
use Rattle.bridge_model.specs.Answers.{bytes_wait, is_some_piece, may_reap}
use Rattle.bridge_model.specs.Histories.{Told}
use Rattle.bridge_model.specs.RootRuns.{root_moves}
use Rattle.bridge_model.specs.Settings.{Setting}
use Rattle.bridge_model.specs.Sides as end
use Rattle.world_laws.proofs.DoingLaws.{all_joined, all_mapped}
use Rattle.world_model.specs.Moves.{Deed, applies, steps, drains, carries, closes, applying, deeds, does_move, may_carry, may_close, one_if, reaping, stepping}
use Rattle.plan_model.specs.Frames.{Stack, ready}
use Rattle.plan_model.specs.Roots.{Run}
use Rattle.world_model.specs.Worlds.{pipe}

-- the one at a place
pub one_of : {X : Type 0} (P : X → Type 0) (xs : List X) (n : ℕ) (x : X) → AllByRecursion P xs → slice_get xs n ≡ Some x → P x
one_of P [] n x all at = absurd (cc)
one_of P (y ∷ xs) zero x all at = let same : y ≡ x = cc in subst P same all.0
one_of P (y ∷ xs) (suc n) x all at = one_of P xs n x all.1 at

all_if : {X : Type 0} (P : X → Type 0) (x : X) (b : Bool) → (b ≡ true → P x) → AllByRecursion P (one_if b x)
all_if P x true fine = (fine refl, tt)
all_if P x false fine = tt

module _ (g h : Setting) (one other : Told) where
  abbrev pub MayBeDone : Deed → Type 0
  MayBeDone drains = bytes_wait g one.side ≡ true
  MayBeDone carries = may_carry other one ≡ true
  MayBeDone closes = may_close h other one ≡ true
  MayBeDone d = Unit

  threads_may : (ss : List Stack) → AllByRecursion (λ (x : Stack). MayBeDone (applies x.tid)) ss
  threads_may [] = tt
  threads_may (s ∷ ss) = (tt, threads_may ss)

  roots_may : (place : ℕ) (rs : List Run) → AllByRecursion MayBeDone (stepping g one.side place rs)
  unfolding stepping
  roots_may place [] = tt
  roots_may place (r ∷ rs) =
      all_joined MayBeDone (one_if (does_move (root_moves g one.side r)) (steps place)) (stepping g one.side (suc place) rs)
      (all_if MayBeDone (steps place) (does_move (root_moves g one.side r)) (λ is. tt)) (roots_may (suc place) rs)

  object_may : (o : Option ℕ) → AllByRecursion MayBeDone (reaping o)
  object_may None = tt
  object_may (Some n) = (tt, tt)

  all_may : (rs : List Run) → AllByRecursion MayBeDone (deeds g h one other rs)
  unfolding deeds
  all_may rs =
      let closing = one_if (may_close h other one) closes in
      let carrying = one_if (may_carry other one) carries in
      let draining = one_if (bytes_wait g one.side) drains in
      let goes = reaping (may_reap g one.side) in
      let stepped = stepping g one.side 0 rs in
      all_joined MayBeDone (applying one.side) (stepped ++ (goes ++ (draining ++ (carrying ++ closing))))
      (all_mapped (λ (x : Stack). applies x.tid) MayBeDone (ready one.side.stacks) (threads_may (ready one.side.stacks)))
      (all_joined MayBeDone stepped (goes ++ (draining ++ (carrying ++ closing))) (roots_may 0 rs)
      (all_joined MayBeDone goes (draining ++ (carrying ++ closing)) (object_may (may_reap g one.side))
      (all_joined MayBeDone draining (carrying ++ closing) (all_if MayBeDone drains (bytes_wait g one.side) (λ is. is))
      (all_joined MayBeDone carrying closing (all_if MayBeDone carries (may_carry other one) (λ is. is)) (all_if MayBeDone closes (may_close h other one) (λ is. is))))))

  pub may_be_done : (rs : List Run) (n : ℕ) (d : Deed) → slice_get (deeds g h one other rs) n ≡ Some d → MayBeDone d
  may_be_done rs n d at = one_of MayBeDone (deeds g h one other rs) n d (all_may rs) at

  pub drains_may : (rs : List Run) (n : ℕ) (d : Deed) → slice_get (deeds g h one other rs) n ≡ Some d → d ≡ drains → bytes_wait g one.side ≡ true
  drains_may rs n d at is = subst MayBeDone is (may_be_done rs n d at)

  pub carries_may : (rs : List Run) (n : ℕ) (d : Deed) → slice_get (deeds g h one other rs) n ≡ Some d → d ≡ carries → may_carry other one ≡ true
  carries_may rs n d at is = subst MayBeDone is (may_be_done rs n d at)

  last_of : (a b c d : Bool) → (a && (b && (c && d))) ≡ true → d ≡ true
  last_of true true true d is = is
  last_of true true false d is = absurd (cc)
  last_of true false c d is = absurd (cc)
  last_of false b c d is = absurd (cc)

  pub closes_may : (rs : List Run) (n : ℕ) (d : Deed) → slice_get (deeds g h one other rs) n ≡ Some d → d ≡ closes → end.stands one.side ≡ true
  closes_may rs n d at is =
      last_of (not (end.stands other.side)) (not (bytes_wait h other.side)) (not (is_some_piece (pipe other one))) (end.stands one.side) (subst MayBeDone is (may_be_done rs n d at))
