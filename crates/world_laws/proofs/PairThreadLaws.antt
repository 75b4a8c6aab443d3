-- The runs of a pair are those with which it began: one of each thread, whose root and instance no move changes.
use Rattle.std.proofs.Common.{◌≡◌, refl, sym, subst, ◌∙◌, ap, ℕ, zero, suc, List, [], ◌∷◌, ◌++◌, slice_get, slice_set, Option, None, Some}
use Rattle.uno_model.proofs.Options.{same_some, none_some}
use Rattle.plan_model.specs.Roots.{Run, opening_run}
use Rattle.plan_model.specs.Statements.{RootStatement}
use Rattle.bridge_model.specs.Entries.{Entry}
use Rattle.bridge_model.specs.Histories.{Told}
use Rattle.bridge_model.specs.Orders.{first_runs}
use Rattle.bridge_model.specs.RootRuns.{Moved, waiting, finished, moved, root_moves}
use Rattle.bridge_model.specs.Settings.{Setting}
use Rattle.bridge_model.specs.Sides as side
use Rattle.bridge_laws.proofs.TypedGiven.{IsGiven}
use Rattle.bridge_laws.proofs.TypedGivenLaws.{is_given}
use Rattle.world_model.specs.Moves.{Deed, applies, steps, reaps, drains, carries, closes, Move, Progress, Done, step_done, steps_at, done}
use Rattle.world_model.specs.Pairs.{Pairing, begins_pair, with_world, enters, is_done_a, is_done_b, does_at, does, behind, does_some}
use Rattle.bridge_laws.proofs.RunGivingLaws.{IsOfRun, move_run}
use Rattle.world_laws.specs.Ready.{AreReady}
use Rattle.world_model.specs.Worlds.{Settings, of_a, of_b, World, Event, happens}
use Rattle.world_model.specs.declared.side.Side as which_side
use Rattle.world_model.specs.declared.side.Side.TheVariants.{A, B}
use Rattle.world_laws.specs.Doing.{IsReached, at_first, at_next}
use Rattle.world_laws.specs.Runs.{AreOfThreads, BothOfThreads}
use Rattle.world_laws.proofs.PlayLaws.{same_done, same_pair}

-- ---- runs

first_threads : (n : ℕ) (ts : List (List RootStatement)) → AreOfThreads n ts (first_runs n ts)
unfolding AreOfThreads first_runs opening_run
first_threads n [] = tt
first_threads n (t ∷ ts) = (refl, refl, first_threads (suc n) ts)

-- another run of that root is put in its place
set_threads : (n : ℕ) (ts : List (List RootStatement)) (rs : List Run) (place : ℕ) (r next : Run) → slice_get rs place ≡ Some r → next.root ≡ r.root → next.instance ≡ r.instance → AreOfThreads n ts rs
    → AreOfThreads n ts (slice_set rs place next)
unfolding AreOfThreads
set_threads n [] [] place r next there root instance all = tt
set_threads n [] (x ∷ rs) place r next there root instance all = absurd all
set_threads n (t ∷ ts) [] place r next there root instance all = absurd all
set_threads n (t ∷ ts) (x ∷ rs) zero r next there root instance all =
    let same : r ≡ x = sym (same_some there) in (root ∙ (ap (λ (z : Run). z.root) same ∙ all.0), instance ∙ (ap (λ (z : Run). z.instance) same ∙ all.1), all.2)
set_threads n (t ∷ ts) (x ∷ rs) (suc place) r next there root instance all = (all.0, all.1, set_threads (suc n) ts rs place r next there root instance all.2)

-- ---- one end

module _ (g : Setting) (given : IsGiven g) (n : ℕ) (ts : List (List RootStatement)) (rs : List Run) (all : AreOfThreads n ts rs) where
  kept_threads : (d c : Done) → d.runs ≡ rs → ◌≡◌ {A = Option Done} (Some d) (Some c) → AreOfThreads n ts c.runs
  kept_threads d c same is = subst (λ (z : Done). AreOfThreads n ts z.runs) (same_done d c is) (subst (AreOfThreads n ts) (sym same) all)

  step_threads : (z : side.Side) (place : ℕ) (r : Run) (m : Moved) (d : Done) → slice_get rs place ≡ Some r → root_moves g z r ≡ m → step_done place rs m ≡ Some d → AreOfThreads n ts d.runs
  step_threads z place r waiting d there at is = absurd (cc)
  step_threads z place r finished d there at is = absurd (cc)
  step_threads z place r (moved next e) d there at is =
      let kept = subst (IsOfRun r) at (move_run g z r given) in
      subst (λ (c : Done). AreOfThreads n ts c.runs) (same_done (record { entry = e; runs = slice_set rs place next }) d is) (set_threads n ts rs place r next there kept.0 kept.1 all)

  steps_threads : (z : side.Side) (place : ℕ) (o : Option Run) (d : Done) → slice_get rs place ≡ o → steps_at g z place rs o ≡ Some d → AreOfThreads n ts d.runs
  steps_threads z place None d there is = absurd (cc)
  steps_threads z place (Some r) d there is = step_threads z place r (root_moves g z r) d there refl is

  done_threads : (cut : ℕ) (x y : Told) (deed : Deed) (d : Done) → done g cut x y rs deed ≡ Some d → AreOfThreads n ts d.runs
  unfolding done
  done_threads cut x y (applies tid) d is = kept_threads _ d refl is
  done_threads cut x y (steps place) d is = steps_threads x.side place (slice_get rs place) d refl is
  done_threads cut x y (reaps object) d is = kept_threads _ d refl is
  done_threads cut x y drains d is = kept_threads _ d refl is
  done_threads cut x y carries d is = kept_threads _ d refl is
  done_threads cut x y closes d is = kept_threads _ d refl is

-- ---- a pair

world_kept : (p q : Pairing) (e : Event) (o : Option World) → with_world p e o ≡ Some q → q.runs ≡ p.runs
world_kept p q e None is = absurd (cc)
world_kept p q e (Some v) is = ap (λ (z : Pairing). z.runs) (sym (same_pair (record p { world = v; events = p.events ++ e ∷ [] }) q is))

entered_kept : (g : Settings) (p q : Pairing) (s : which_side.Side) (e : Option Entry) → enters g p s e ≡ Some q → q.runs ≡ p.runs
entered_kept g p q s None is = ap (λ (z : Pairing). z.runs) (sym (same_pair p q is))
entered_kept g p q s (Some e) is = world_kept p q (record { side = s; entry = e }) (happens g p.world (record { side = s; entry = e })) is

module _ (g : Settings) (ready : AreReady g) (cut : ℕ) (p q : Pairing) (all : BothOfThreads g p) where
  by_a : (deed : Deed) (o : Option Done) → done (of_a g) cut p.world.a.now p.world.b.now p.runs.a deed ≡ o → is_done_a g p o ≡ Some q → BothOfThreads g q
  by_a deed None at is = absurd (cc)
  by_a deed (Some d) at is =
      let given = is_given (of_a g) ready.up.sound ready.up.built ready.up.differ ready.up.keeps_a ready.up.tag_a.short in
      let kept = entered_kept g (record p { runs = record p.runs { a = d.runs } }) q A d.entry is in
      record {
        a = subst (λ (x : Progress). AreOfThreads 1 g.a.plan.threads x.a) (sym kept) (done_threads (of_a g) given 1 g.a.plan.threads p.runs.a all.a cut p.world.a.now p.world.b.now deed d at);
        b = subst (λ (x : Progress). AreOfThreads 1 g.b.plan.threads x.b) (sym kept) all.b;
      }

  by_b : (deed : Deed) (o : Option Done) → done (of_b g) cut p.world.b.now p.world.a.now p.runs.b deed ≡ o → is_done_b g p o ≡ Some q → BothOfThreads g q
  by_b deed None at is = absurd (cc)
  by_b deed (Some d) at is =
      let given = is_given (of_b g) ready.up.sound ready.up.built ready.up.differ ready.up.keeps_b ready.up.tag_b.short in
      let kept = entered_kept g (record p { runs = record p.runs { b = d.runs } }) q B d.entry is in
      record {
        a = subst (λ (x : Progress). AreOfThreads 1 g.a.plan.threads x.a) (sym kept) all.a;
        b = subst (λ (x : Progress). AreOfThreads 1 g.b.plan.threads x.b) (sym kept) (done_threads (of_b g) given 1 g.b.plan.threads p.runs.b all.b cut p.world.b.now p.world.a.now deed d at);
      }

  at_side : (m : Move) (s : which_side.Side) → does_at g cut p m s ≡ Some q → BothOfThreads g q
  at_side m A is = by_a m.deed (done (of_a g) cut p.world.a.now p.world.b.now p.runs.a m.deed) refl is
  at_side m B is = by_b m.deed (done (of_b g) cut p.world.b.now p.world.a.now p.runs.b m.deed) refl is

next_threads : (g : Settings) → AreReady g → (cut : ℕ) (p q : Pairing) (m : Move) → BothOfThreads g p → does_some g cut p (Some m) ≡ Some q → BothOfThreads g q
unfolding does
next_threads g ready cut p q m all is = at_side g ready cut (record p { generator = behind p.generator }) q (record { a = all.a; b = all.b }) m m.side is

pub all_threads : (g : Settings) → AreReady g → (seed : Option ℕ) (cut : ℕ) (p : Pairing) → IsReached g seed cut p → BothOfThreads g p
all_threads g ready seed cut p' at_first = record { a = first_threads 1 g.a.plan.threads; b = first_threads 1 g.b.plan.threads }
all_threads g ready seed cut p' (at_next p next reached m is) = next_threads g ready cut p next m (all_threads g ready seed cut p reached) is
