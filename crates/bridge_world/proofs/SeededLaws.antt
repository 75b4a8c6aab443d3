-- Moves that a seed draws, one after the other: how far they have led, and where they stop.
use Rattle.std.proofs.Common.{◌≡◌, refl, sym, ap, ◌∙◌, subst, ℕ, ◌-◌, ◌<◌, ◌^◌, min, true, false, List, [], ◌∷◌, length, slice_get, Option, None, Some, arith}
use Rattle.rand_pcg.specs.Lcg.{Lcg}
use Rattle.world_model.specs.Moves.{Progress, moves}
use Rattle.world_model.specs.Pairs.{behind, does, does_some, generator_of, has_full, place_of, plays}
use Rattle.world_model.specs.Worlds.{Settings}
use Rattle.bridge_world.specs.Joined.{Joined, settings_of, world_of}
use Rattle.bridge_world.specs.Playing.{MovesSo, PlaysSo, StandForHistory, moves_of, pairing_of}
use Rattle.bridge_world.proofs.MovedLaws.{same_settings}
use Rattle.bridge_world.proofs.PlayingLaws.{Draws, PlaysTo, and_then, at_start, does_any, plays_behind, stops_full, stops_there}

-- moves led from these two ends with their roots to those, and to this generator
pub record HasPlayed (seed : Option ℕ) (cut : ℕ) (j k : Joined) (p q : Progress) (x : Option Lcg) : Type 0 where
  pub stands : StandForHistory k q
  pub a : k.a ≡ j.a
  pub b : k.b ≡ j.b
  pub plays : PlaysTo (settings_of j) cut (pairing_of j p (generator_of seed)) (pairing_of k q x)

pub played_none : (seed : Option ℕ) (cut : ℕ) (j : Joined) (p : Progress) (x : Option Lcg) → x ≡ generator_of seed → StandForHistory j p → HasPlayed seed cut j j p p x
played_none seed cut j p x is stands =
    record { stands = stands; a = refl; b = refl; plays = subst (λ (y : Option Lcg). PlaysTo (settings_of j) cut (pairing_of j p (generator_of seed)) (pairing_of j p y)) (sym is) at_start }

-- ---- one move more

module _ (seed : Option ℕ) (cut : ℕ) (j k l : Joined) (p q r : Progress) (x y : Option Lcg) (before : HasPlayed seed cut j k p q x) where
  setting_is : settings_of k ≡ settings_of j
  setting_is = same_settings j k before.a before.b

  drawn : (place : ℕ) → has_full (world_of k) ≡ false → place ≡ place_of x (length (moves_of k q)) → y ≡ behind x → MovesSo cut place k l q r → Draws (settings_of k) cut (pairing_of k q x) (pairing_of l r y)
  drawn place within drew left moved =
      let does_it = does_any (settings_of k) cut (pairing_of k q None) (pairing_of l r None) moved.move (behind x) moved.does in
      record {
        within = within;
        does =
            ap (does_some (settings_of k) cut (pairing_of k q x)) (ap (slice_get (moves_of k q)) (sym drew) ∙ moved.there)
            ∙ (does_it ∙ ap (λ (z : Option Lcg). Some (pairing_of l r z)) (sym left));
      }

  pub played_more : (place : ℕ) → has_full (world_of k) ≡ false → place ≡ place_of x (length (moves_of k q)) → y ≡ behind x → MovesSo cut place k l q r → StandForHistory l r → HasPlayed seed cut j l p r y
  played_more place within drew left moved stands =
      record {
        stands = stands;
        a = moved.same.0 ∙ before.a;
        b = moved.same.1 ∙ before.b;
        plays =
            and_then (pairing_of k q x) (pairing_of l r y) before.plays
            (subst (λ (g : Settings). Draws g cut (pairing_of k q x) (pairing_of l r y)) setting_is (drawn place within drew left moved));
      }

-- ---- where they stop

module _ (seed : Option ℕ) (cut : ℕ) (j k : Joined) (p q : Progress) (x : Option Lcg) (before : HasPlayed seed cut j k p q x) where
  stopped : plays 1 (settings_of j) cut (pairing_of k q x) ≡ Some (pairing_of k q x) → PlaysSo seed cut j k p q
  stopped last =
      let all = plays_behind (settings_of j) cut (pairing_of j p (generator_of seed)) (pairing_of k q x) (pairing_of k q x) 1 before.plays last in
      record { steps = all.0; last = pairing_of k q x; plays = all.1; same = (before.a, before.b); events = refl; runs = refl }

  same_setting : settings_of k ≡ settings_of j
  same_setting = same_settings j k before.a before.b

  pub stopped_there : moves_of k q ≡ [] → PlaysSo seed cut j k p q
  stopped_there none =
      stopped (stops_there (settings_of j) cut (pairing_of k q x) (subst (λ (g : Settings). moves g (world_of k) q ≡ []) same_setting none))

  pub stopped_full : has_full (world_of k) ≡ true → PlaysSo seed cut j k p q
  stopped_full full = stopped (stops_full (settings_of j) cut (pairing_of k q x) full)

-- ---- how many moves there are

pub none_left : {X : Type 0} (xs : List X) (count : ℕ) → count ≡ min (length xs) (2 ^ 32 - 1) → count ≡ 0 → xs ≡ []
none_left [] count is none = refl
none_left (x ∷ xs) count is none = let bad : ⊥ = omega (arith, is, none) in absurd bad

pub all_counted : {X : Type 0} (xs : List X) (count : ℕ) → count ≡ min (length xs) (2 ^ 32 - 1) → count < 2 ^ 32 - 1 → count ≡ length xs
all_counted xs count is small = omega (arith, is, small)
