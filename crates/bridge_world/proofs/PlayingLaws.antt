-- Moves one after the other are what a seed plays: each was drawn by the generator, which the move itself does not ask for.
use Rattle.std.proofs.Common.{◌≡◌, refl, ap, ◌∙◌, ℕ, suc, Bool, true, false, List, [], ◌∷◌, length, slice_get, Option, None, Some, if◌then◌else◌}
use Rattle.rand_pcg.specs.Lcg.{Lcg}
use Rattle.bridge_model.specs.Entries.{Entry}
use Rattle.world_model.specs.Moves.{Move, moves, Done, done}
use Rattle.world_model.specs.Pairs.{Pairing, does, does_at, does_some, enters, goes_on, has_full, is_done_a, is_done_b, place_of, plays, plays_list, with_world}
use Rattle.world_model.specs.Worlds.{Settings, of_a, of_b, World, Event, happens}
use Rattle.world_model.specs.declared.side.Side.{Side}
use Rattle.world_model.specs.declared.side.Side.TheVariants.{A, B}

-- ---- a move, whatever generator there is

abbrev drawing : Option Lcg → Pairing → Pairing
drawing x p = record p { generator = x }

abbrev draws : Option Lcg → Option Pairing → Option Pairing
draws x None = None
draws x (Some p) = Some (drawing x p)

world_any : (p : Pairing) (e : Event) (x : Option Lcg) (o : Option World) → with_world (drawing x p) e o ≡ draws x (with_world p e o)
world_any p e x None = refl
world_any p e x (Some w) = refl

enters_any : (g : Settings) (p : Pairing) (s : Side) (x : Option Lcg) (o : Option Entry) → enters g (drawing x p) s o ≡ draws x (enters g p s o)
enters_any g p s x None = refl
enters_any g p s x (Some e) = world_any p (record { side = s; entry = e }) x (happens g p.world (record { side = s; entry = e }))

done_any_a : (g : Settings) (p : Pairing) (x : Option Lcg) (o : Option Done) → is_done_a g (drawing x p) o ≡ draws x (is_done_a g p o)
done_any_a g p x None = refl
done_any_a g p x (Some d) = enters_any g (record p { runs = record p.runs { a = d.runs } }) A x d.entry

done_any_b : (g : Settings) (p : Pairing) (x : Option Lcg) (o : Option Done) → is_done_b g (drawing x p) o ≡ draws x (is_done_b g p o)
done_any_b g p x None = refl
done_any_b g p x (Some d) = enters_any g (record p { runs = record p.runs { b = d.runs } }) B x d.entry

at_any : (g : Settings) (cut : ℕ) (p : Pairing) (m : Move) (x : Option Lcg) (s : Side) → does_at g cut (drawing x p) m s ≡ draws x (does_at g cut p m s)
at_any g cut p m x A = done_any_a g p x (done (of_a g) cut p.world.a.now p.world.b.now p.runs.a m.deed)
at_any g cut p m x B = done_any_b g p x (done (of_b g) cut p.world.b.now p.world.a.now p.runs.b m.deed)

pub does_any : (g : Settings) (cut : ℕ) (p q : Pairing) (m : Move) (x : Option Lcg) → does g cut p m ≡ Some q → does g cut (drawing x p) m ≡ Some (drawing x q)
unfolding does
does_any g cut p q m x is = at_any g cut p m x m.side ∙ ap (draws x) is

-- ---- one move more

-- no end reached a limit, and the move that the generator drew was done
pub record Draws (g : Settings) (cut : ℕ) (p q : Pairing) : Type 0 where
  pub within : has_full p.world ≡ false
  pub does : does_some g cut p (slice_get (moves g p.world p.runs) (place_of p.generator (length (moves g p.world p.runs)))) ≡ Some q

by_list : (g : Settings) (cut : ℕ) (more : Pairing → Option Pairing) (p q : Pairing) (ms : List Move) → does_some g cut p (slice_get ms (place_of p.generator (length ms))) ≡ Some q → plays_list more g cut p ms ≡ more q
by_list g cut more p q [] is = absurd (cc)
by_list g cut more p q (m ∷ ms) is = ap (goes_on more) is

by_limit : {X : Type 0} (b : Bool) (x y : X) → b ≡ false → (if b then x else y) ≡ y
by_limit false x y is = refl
by_limit true x y is = absurd (cc)

first_plays : (g : Settings) (cut n : ℕ) (p q : Pairing) → Draws g cut p q → plays (suc n) g cut p ≡ plays n g cut q
unfolding plays
first_plays g cut n p q d =
    by_limit (has_full p.world) (Some p) (plays_list (plays n g cut) g cut p (moves g p.world p.runs)) d.within ∙ by_list g cut (plays n g cut) p q (moves g p.world p.runs) d.does

-- ---- all of them

pub data PlaysTo (g : Settings) (cut : ℕ) (p : Pairing) : Pairing → Type 0 where
  at_start : PlaysTo g cut p p
  and_then : (q r : Pairing) → PlaysTo g cut p q → Draws g cut q r → PlaysTo g cut p r

pub plays_behind : (g : Settings) (cut : ℕ) (p q last : Pairing) (n : ℕ) → PlaysTo g cut p q → plays n g cut q ≡ Some last → (m : ℕ) × (plays m g cut p ≡ Some last)
plays_behind g cut p p' last n at_start is = (n, is)
plays_behind g cut p r' last n (and_then q r before d) is = plays_behind g cut p q last (suc n) before (first_plays g cut n q r d ∙ is)

-- where no move is left, or an end reached a limit
stops_if : (b : Bool) (p : Pairing) (o : Option Pairing) → o ≡ Some p → (if b then Some p else o) ≡ Some p
stops_if true p o is = refl
stops_if false p o is = is

pub stops_there : (g : Settings) (cut : ℕ) (p : Pairing) → moves g p.world p.runs ≡ [] → plays 1 g cut p ≡ Some p
unfolding plays
stops_there g cut p none = stops_if (has_full p.world) p (plays_list (plays 0 g cut) g cut p (moves g p.world p.runs)) (ap (plays_list (plays 0 g cut) g cut p) none)

pub stops_full : (g : Settings) (cut : ℕ) (p : Pairing) → has_full p.world ≡ true → plays 1 g cut p ≡ Some p
unfolding plays
stops_full g cut p full = ap (λ b. if b then Some p else plays_list (plays 0 g cut) g cut p (moves g p.world p.runs)) full
