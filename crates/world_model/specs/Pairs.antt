-- A pair on one thread: the history that its moves give, a function of the settings, the seed and the cut.
use Rattle.std.specs.Prelude.{◌≡◌, ℕ, zero, suc, ◌%◌, Bool, true, false, ◌||◌, List, [], ◌∷◌, ◌++◌, length, Option, None, Some, slice_get, if◌then◌else◌}
use Rattle.rand_core.specs.Pcg32Seed.{pcg32_seed}
use Rattle.rand_pcg.specs.Lcg.{Lcg}
use Rattle.rand_pcg.specs.Pcg.{pcg32, pcg32_of_seed}
use Rattle.bridge_model.specs.Entries.{Entry}
use Rattle.bridge_model.specs.Orders.{first_runs}
use Rattle.bridge_model.specs.declared.cause.Cause.{Cause}
use Rattle.bridge_model.specs.declared.cause.Cause.TheVariants as cause
use Rattle.world_model.specs.Worlds.{Settings, of_a, of_b, World, opening_world, Event, happens}
use Rattle.world_model.specs.declared.side.Side.{Side}
use Rattle.world_model.specs.declared.side.Side.TheVariants.{A, B}
use Rattle.world_model.specs.Moves.{Move, Progress, moves, Done, done}

-- a world, the history that led to it, its runs, and the generator that chooses the next move; without one the first move is done
pub record Pairing : Type 0 where
  pub world : World
  pub events : List Event
  pub runs : Progress
  pub generator : Option Lcg

abbrev pub generator_of : Option ℕ → Option Lcg
generator_of None = None
generator_of (Some seed) = Some (pcg32_of_seed (pcg32_seed 16 seed))

abbrev pub begins_pair : Settings → Option ℕ → Pairing
begins_pair g seed =
    record {
      world = opening_world g;
      events = [];
      runs = record { a = first_runs 1 g.a.plan.threads; b = first_runs 1 g.b.plan.threads };
      generator = generator_of seed;
    }

-- ---- one move

abbrev pub with_world : Pairing → Event → Option World → Option Pairing
with_world p e None = None
with_world p e (Some w) = Some (record p { world = w; events = p.events ++ e ∷ [] })

-- an entry is made, if there is one
abbrev pub enters : Settings → Pairing → Side → Option Entry → Option Pairing
enters g p s None = Some p
enters g p s (Some e) = with_world p (record { side = s; entry = e }) (happens g p.world (record { side = s; entry = e }))

abbrev pub is_done_a : Settings → Pairing → Option Done → Option Pairing
is_done_a g p None = None
is_done_a g p (Some d) = enters g (record p { runs = record p.runs { a = d.runs } }) A d.entry

abbrev pub is_done_b : Settings → Pairing → Option Done → Option Pairing
is_done_b g p None = None
is_done_b g p (Some d) = enters g (record p { runs = record p.runs { b = d.runs } }) B d.entry

abbrev pub does_at : Settings → (cut : ℕ) → Pairing → Move → Side → Option Pairing
does_at g cut p m A = is_done_a g p (done (of_a g) cut p.world.a.now p.world.b.now p.runs.a m.deed)
does_at g cut p m B = is_done_b g p (done (of_b g) cut p.world.b.now p.world.a.now p.runs.b m.deed)

unfoldable pub does : Settings → (cut : ℕ) → Pairing → Move → Option Pairing
does g cut p m = does_at g cut p m m.side

-- ---- all moves

-- the place of the next move among so many, and the generator behind it
abbrev pub place_of : Option Lcg → (count : ℕ) → ℕ
place_of None count = 0
place_of (Some x) count = (pcg32 x).0 % count

abbrev pub behind : Option Lcg → Option Lcg
behind None = None
behind (Some x) = Some (pcg32 x).1

abbrev pub does_some : Settings → (cut : ℕ) → Pairing → Option Move → Option Pairing
does_some g cut p None = None
does_some g cut p (Some m) = does g cut (record p { generator = behind p.generator }) m

abbrev pub is_full : Option Cause → Bool
is_full (Some cause.Full) = true
is_full c = false

abbrev pub has_full : World → Bool
has_full w = is_full w.a.now.side.cause || is_full w.b.now.side.cause

abbrev pub goes_on : (Pairing → Option Pairing) → Option Pairing → Option Pairing
goes_on more None = None
goes_on more (Some p) = more p

-- it stops where there is no move, or where an end reached its limit; in fewer than so many steps
abbrev pub plays_list : (Pairing → Option Pairing) → Settings → (cut : ℕ) → Pairing → List Move → Option Pairing
plays_list more g cut p [] = Some p
plays_list more g cut p (m ∷ ms) = goes_on more (does_some g cut p (slice_get (m ∷ ms) (place_of p.generator (length (m ∷ ms)))))

unfoldable pub plays : ℕ → Settings → (cut : ℕ) → Pairing → Option Pairing
plays zero g cut p = None
plays (suc n) g cut p = if has_full p.world then Some p else plays_list (plays n g cut) g cut p (moves g p.world p.runs)

-- the history of a pair that comes to its end: each move that was chosen could be done
pub record IsPaired (g : Settings) (seed : Option ℕ) (cut : ℕ) (last : Pairing) : Type 0 where
  pub steps : ℕ
  pub plays : plays steps g cut (begins_pair g seed) ≡ Some last
