-- A pair that has played: its events are a history of the world, its runs are those of roots of the plans, and it stopped at a limit or where no move is left.
use Rattle.std.proofs.Common.{◌≡◌, refl, sym, subst, ◌∙◌, ℕ, zero, suc, ◌+◌, ◌≤◌, ◌⊎◌, inl, inr, Bool, true, false, List, [], ◌∷◌, ◌++◌, length, slice_get, slice_set, Option, None, Some, arith, if◌then◌else◌}
use Rattle.std.specs.List.{AllByRecursion}
use Rattle.plan_model.specs.Plans.{manager_name}
use Rattle.plan_model.specs.Roots.{Run, opening_run}
use Rattle.plan_model.specs.Statements.{RootStatement}
use Rattle.bridge_model.specs.Entries.{Entry}
use Rattle.bridge_model.specs.Histories.{Told}
use Rattle.bridge_model.specs.Orders.{first_runs}
use Rattle.bridge_model.specs.RootRuns.{Moved, waiting, finished, moved, root_moves}
use Rattle.bridge_model.specs.Settings.{Setting}
use Rattle.bridge_model.specs.Sides as side
use Rattle.bridge_laws.specs.OfPlan.{IsRoot}
use Rattle.bridge_laws.proofs.LineMoveLaws.{Goes, stays, is_over, gives, root_goes}
use Rattle.world_model.specs.Moves.{Deed, applies, steps, reaps, drains, carries, closes, Move, moves, Done, step_done, steps_at, done}
use Rattle.world_model.specs.Pairs.{Pairing, begins_pair, with_world, enters, is_done_a, is_done_b, does_at, does, place_of, behind, does_some, has_full, goes_on, plays_list, plays, IsPaired}
use Rattle.world_model.specs.Worlds.{Settings, of_a, of_b, World, opening_world, Event, happens, happen_all, Runs}
use Rattle.world_model.specs.declared.side.Side as which_side
use Rattle.world_model.specs.declared.side.Side.TheVariants.{A, B}

-- ---- histories

nowhere : (g : Settings) (es : List Event) (w : World) → happen_all g None es ≡ Some w → ⊥
unfolding happen_all
nowhere g [] w is = absurd (cc)
nowhere g (e ∷ es) w is = absurd (cc)

same_world : (v w : World) → ◌≡◌ {A = Option World} (Some v) (Some w) → v ≡ w
same_world v w is = cc

push : (g : Settings) (o : Option World) (es : List Event) (e : Event) (w v : World) → happen_all g o es ≡ Some w → happens g w e ≡ Some v → happen_all g o (es ++ e ∷ []) ≡ Some v
unfolding happen_all
push g None es e w v to more = absurd (nowhere g es w to)
push g (Some z) [] e w v to more = last_one (happens g z e) (subst (λ y. happens g y e ≡ Some v) (sym (same_world z w to)) more)
  where
    last_one : (o : Option World) → o ≡ Some v → happen_all g o [] ≡ Some v
    last_one None is = absurd (cc)
    last_one (Some y) is = is
push g (Some z) (f ∷ es) e w v to more = push g (happens g z f) es e w v to more

first_runs_so : (g : Settings) → Runs g [] (opening_world g)
unfolding happen_all
first_runs_so g = refl

-- ---- runs

abbrev pub AreRoots : Setting → List Run → Type 0
AreRoots g rs = AllByRecursion (λ (r : Run). IsRoot g r.root) rs

opened_root : (n : ℕ) (instance : List ℕ) → (opening_run n instance).root ≡ n
unfolding opening_run
opened_root n instance = refl

first_roots : (g : Setting) (n : ℕ) (ts : List (List RootStatement)) → 1 ≤ n → n + length ts ≤ suc (length g.plan.threads) → AreRoots g (first_runs n ts)
unfolding first_runs
first_roots g n [] least most = tt
first_roots g n (t ∷ ts) least most =
    let within : n ≤ length g.plan.threads = omega arith in
    let later : suc n + length ts ≤ suc (length g.plan.threads) = omega arith in
    let next : 1 ≤ suc n = omega arith in
    (subst (IsRoot g) (sym (opened_root n manager_name)) (least, within), first_roots g (suc n) ts next later)

at_place : (P : Run → Type 0) (rs : List Run) (n : ℕ) (r : Run) → AllByRecursion P rs → slice_get rs n ≡ Some r → P r
at_place P [] n r all is = absurd (cc)
at_place P (x ∷ rs) zero r all is = subst P (some_same x r is) all.0
  where
    some_same : (x y : Run) → ◌≡◌ {A = Option Run} (Some x) (Some y) → x ≡ y
    some_same x y e = cc
at_place P (x ∷ rs) (suc n) r all is = at_place P rs n r all.1 is

set_place : (P : Run → Type 0) (rs : List Run) (n : ℕ) (r : Run) → AllByRecursion P rs → P r → AllByRecursion P (slice_set rs n r)
set_place P [] n r all is = tt
set_place P (x ∷ rs) zero r all is = (is, all.1)
set_place P (x ∷ rs) (suc n) r all is = (all.0, set_place P rs n r all.1 is)

pub same_root : (g : Setting) (z : side.Side) (r next : Run) (e : Option Entry) → Goes g z r next e → next.root ≡ r.root
same_root g z r next e (stays reaches) = reaches.root
same_root g z r next e (is_over s there is reaches) = reaches.root
same_root g z r next e (gives s text there is reaches) = reaches.root

pub same_done : (d c : Done) → ◌≡◌ {A = Option Done} (Some d) (Some c) → d ≡ c
same_done d c is = cc

kept_runs : (g : Setting) (rs : List Run) (d c : Done) → AreRoots g rs → d.runs ≡ rs → ◌≡◌ {A = Option Done} (Some d) (Some c) → AreRoots g c.runs
kept_runs g rs d c roots same is = subst (λ (z : Done). AreRoots g z.runs) (same_done d c is) (subst (AreRoots g) (sym same) roots)

step_roots : (g : Setting) (z : side.Side) (place : ℕ) (rs : List Run) (r : Run) (m : Moved) (d : Done) → AreRoots g rs → IsRoot g r.root → root_moves g z r ≡ m → step_done place rs m ≡ Some d → AreRoots g d.runs
step_roots g z place rs r waiting d roots root at is = absurd (cc)
step_roots g z place rs r finished d roots root at is = absurd (cc)
step_roots g z place rs r (moved next e) d roots root at is =
    subst (λ (c : Done). AreRoots g c.runs) (same_done (record { entry = e; runs = slice_set rs place next }) d is)
    (set_place (λ (r : Run). IsRoot g r.root) rs place next roots (subst (IsRoot g) (sym (same_root g z r next e (root_goes g z r next e at))) root))

steps_roots : (g : Setting) (z : side.Side) (place : ℕ) (rs : List Run) (o : Option Run) (d : Done) → slice_get rs place ≡ o → AreRoots g rs → steps_at g z place rs o ≡ Some d → AreRoots g d.runs
steps_roots g z place rs None d at roots is = absurd (cc)
steps_roots g z place rs (Some r) d at roots is = step_roots g z place rs r (root_moves g z r) d roots (at_place (λ (r : Run). IsRoot g r.root) rs place r roots at) refl is

done_roots : (g : Setting) (cut : ℕ) (x y : Told) (rs : List Run) (deed : Deed) (d : Done) → AreRoots g rs → done g cut x y rs deed ≡ Some d → AreRoots g d.runs
unfolding done
done_roots g cut x y rs (applies tid) d roots is = kept_runs g rs _ d roots refl is
done_roots g cut x y rs (steps place) d roots is = steps_roots g x.side place rs (slice_get rs place) d refl roots is
done_roots g cut x y rs (reaps n) d roots is = kept_runs g rs _ d roots refl is
done_roots g cut x y rs drains d roots is = kept_runs g rs _ d roots refl is
done_roots g cut x y rs carries d roots is = kept_runs g rs _ d roots refl is
done_roots g cut x y rs closes d roots is = kept_runs g rs _ d roots refl is

-- ---- a move

pub record IsGood (g : Settings) (p : Pairing) : Type 0 where
  pub history : Runs g p.events p.world
  pub roots_a : AreRoots (of_a g) p.runs.a
  pub roots_b : AreRoots (of_b g) p.runs.b

pub same_pair : (p q : Pairing) → ◌≡◌ {A = Option Pairing} (Some p) (Some q) → p ≡ q
same_pair p q is = cc

world_good : (g : Settings) (p q : Pairing) (e : Event) (o : Option World) → happens g p.world e ≡ o → IsGood g p → with_world p e o ≡ Some q → IsGood g q
world_good g p q e None at good is = absurd (cc)
world_good g p q e (Some v) at good is =
    subst (IsGood g) (same_pair (record p { world = v; events = p.events ++ e ∷ [] }) q is)
    (record { history = push g (Some (opening_world g)) p.events e p.world v good.history at; roots_a = good.roots_a; roots_b = good.roots_b })

enters_good : (g : Settings) (p q : Pairing) (s : which_side.Side) (e : Option Entry) → IsGood g p → enters g p s e ≡ Some q → IsGood g q
enters_good g p q s None good is = subst (IsGood g) (same_pair p q is) good
enters_good g p q s (Some e) good is = world_good g p q (record { side = s; entry = e }) (happens g p.world (record { side = s; entry = e })) refl good is

good_a : (g : Settings) (cut : ℕ) (p q : Pairing) (deed : Deed) (o : Option Done) → done (of_a g) cut p.world.a.now p.world.b.now p.runs.a deed ≡ o → IsGood g p → is_done_a g p o ≡ Some q → IsGood g q
good_a g cut p q deed None at good is = absurd (cc)
good_a g cut p q deed (Some d) at good is =
    enters_good g (record p { runs = record p.runs { a = d.runs } }) q A d.entry
    (record { history = good.history; roots_a = done_roots (of_a g) cut p.world.a.now p.world.b.now p.runs.a deed d good.roots_a at; roots_b = good.roots_b }) is

good_b : (g : Settings) (cut : ℕ) (p q : Pairing) (deed : Deed) (o : Option Done) → done (of_b g) cut p.world.b.now p.world.a.now p.runs.b deed ≡ o → IsGood g p → is_done_b g p o ≡ Some q → IsGood g q
good_b g cut p q deed None at good is = absurd (cc)
good_b g cut p q deed (Some d) at good is =
    enters_good g (record p { runs = record p.runs { b = d.runs } }) q B d.entry
    (record { history = good.history; roots_a = good.roots_a; roots_b = done_roots (of_b g) cut p.world.b.now p.world.a.now p.runs.b deed d good.roots_b at }) is

at_good : (g : Settings) (cut : ℕ) (p q : Pairing) (m : Move) (s : which_side.Side) → IsGood g p → does_at g cut p m s ≡ Some q → IsGood g q
at_good g cut p q m A good is = good_a g cut p q m.deed (done (of_a g) cut p.world.a.now p.world.b.now p.runs.a m.deed) refl good is
at_good g cut p q m B good is = good_b g cut p q m.deed (done (of_b g) cut p.world.b.now p.world.a.now p.runs.b m.deed) refl good is

does_good : (g : Settings) (cut : ℕ) (p q : Pairing) (m : Move) → IsGood g p → does g cut p m ≡ Some q → IsGood g q
unfolding does
does_good g cut p q m good is = at_good g cut p q m m.side good is

pub some_good : (g : Settings) (cut : ℕ) (p q : Pairing) (o : Option Move) → IsGood g p → does_some g cut p o ≡ Some q → IsGood g q
some_good g cut p q None good is = absurd (cc)
some_good g cut p q (Some m) good is = does_good g cut (record p { generator = behind p.generator }) q m (record { history = good.history; roots_a = good.roots_a; roots_b = good.roots_b }) is

-- ---- all moves

-- it stopped at a limit, or where no move is left
pub record IsPlayed (g : Settings) (q : Pairing) : Type 0 where
  pub good : IsGood g q
  pub stops : (has_full q.world ≡ true) ⊎ (moves g q.world q.runs ≡ [])

abbrev Plays : Settings → (Pairing → Option Pairing) → Type 0
Plays g more = (p q : Pairing) → IsGood g p → more p ≡ Some q → IsPlayed g q

on_played : (g : Settings) (more : Pairing → Option Pairing) → Plays g more → (o : Option Pairing) (q : Pairing) → ((p : Pairing) → o ≡ Some p → IsGood g p) → goes_on more o ≡ Some q → IsPlayed g q
on_played g more plays_on None q good is = absurd (cc)
on_played g more plays_on (Some p) q good is = plays_on p q (good p refl) is

list_played : (g : Settings) (cut : ℕ) (more : Pairing → Option Pairing) → Plays g more → (p q : Pairing) (ms : List Move) → moves g p.world p.runs ≡ ms → IsGood g p → plays_list more g cut p ms ≡ Some q → IsPlayed g q
list_played g cut more plays_on p q [] none good is = subst (IsPlayed g) (same_pair p q is) (record { good = good; stops = inr none })
list_played g cut more plays_on p q (m ∷ ms) some good is =
    on_played g more plays_on (does_some g cut p (slice_get (m ∷ ms) (place_of p.generator (length (m ∷ ms))))) q
    (λ r to. some_good g cut p r (slice_get (m ∷ ms) (place_of p.generator (length (m ∷ ms)))) good to) is

full_played : (g : Settings) (cut : ℕ) (more : Pairing → Option Pairing) → Plays g more → (p q : Pairing) (b : Bool) → has_full p.world ≡ b → IsGood g p
    → (if b then Some p else plays_list more g cut p (moves g p.world p.runs)) ≡ Some q → IsPlayed g q
full_played g cut more plays_on p q true full good is = subst (IsPlayed g) (same_pair p q is) (record { good = good; stops = inl full })
full_played g cut more plays_on p q false full good is = list_played g cut more plays_on p q (moves g p.world p.runs) refl good is

all_played : (n : ℕ) (g : Settings) (cut : ℕ) → Plays g (plays n g cut)
unfolding plays
all_played zero g cut p q good is = absurd (cc)
all_played (suc n) g cut p q good is = full_played g cut (plays n g cut) (all_played n g cut) p q (has_full p.world) refl good is

pub first_good : (g : Settings) (seed : Option ℕ) → IsGood g (begins_pair g seed)
first_good g seed =
    record {
      history = first_runs_so g;
      roots_a = first_roots (of_a g) 1 g.a.plan.threads (omega arith) (omega arith);
      roots_b = first_roots (of_b g) 1 g.b.plan.threads (omega arith) (omega arith);
    }

pub pair_played : (g : Settings) (seed : Option ℕ) (cut : ℕ) (last : Pairing) → IsPaired g seed cut last → IsPlayed g last
pair_played g seed cut last is = all_played is.steps g cut (begins_pair g seed) last (first_good g seed) is.plays

-- ---- one result

abbrev Agree : (Pairing → Option Pairing) → (Pairing → Option Pairing) → Type 0
Agree one two = (p q r : Pairing) → one p ≡ Some q → two p ≡ Some r → q ≡ r

on_agree : (one two : Pairing → Option Pairing) → Agree one two → (o : Option Pairing) (q r : Pairing) → goes_on one o ≡ Some q → goes_on two o ≡ Some r → q ≡ r
on_agree one two same None q r x y = absurd (cc)
on_agree one two same (Some p) q r x y = same p q r x y

list_agree : (one two : Pairing → Option Pairing) → Agree one two → (g : Settings) (cut : ℕ) (p q r : Pairing) (ms : List Move) → plays_list one g cut p ms ≡ Some q → plays_list two g cut p ms ≡ Some r → q ≡ r
list_agree one two same g cut p q r [] x y = sym (same_pair p q x) ∙ same_pair p r y
list_agree one two same g cut p q r (m ∷ ms) x y = on_agree one two same (does_some g cut p (slice_get (m ∷ ms) (place_of p.generator (length (m ∷ ms))))) q r x y

full_agree : (one two : Pairing → Option Pairing) → Agree one two → (g : Settings) (cut : ℕ) (p q r : Pairing) (b : Bool) (ms : List Move) → (if b then Some p else plays_list one g cut p ms) ≡ Some q
    → (if b then Some p else plays_list two g cut p ms) ≡ Some r → q ≡ r
full_agree one two same g cut p q r true ms x y = sym (same_pair p q x) ∙ same_pair p r y
full_agree one two same g cut p q r false ms x y = list_agree one two same g cut p q r ms x y

all_agree : (g : Settings) (cut n m : ℕ) → Agree (plays n g cut) (plays m g cut)
unfolding plays
all_agree g cut zero m p q r x y = absurd (cc)
all_agree g cut (suc n) zero p q r x y = absurd (cc)
all_agree g cut (suc n) (suc m) p q r x y = full_agree (plays n g cut) (plays m g cut) (all_agree g cut n m) g cut p q r (has_full p.world) (moves g p.world p.runs) x y

pub pair_alone : (g : Settings) (seed : Option ℕ) (cut : ℕ) (one two : Pairing) → IsPaired g seed cut one → IsPaired g seed cut two → one ≡ two
pair_alone g seed cut one two x y = all_agree g cut x.steps y.steps (begins_pair g seed) one two x.plays y.plays
