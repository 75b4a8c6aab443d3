-- The runs of a pair stand for the entries of their ends: each root's own entries are those that its run made.
use Rattle.std.proofs.Common.{◌≡◌, refl, sym, ap, subst, ◌∙◌, ℕ, zero, suc, ◌+◌, ◌≤◌, Bool, true, false, List, [], ◌∷◌, ◌++◌, length, take, slice_get, slice_set, Option, None, Some, arith, if◌then◌else◌}
use Rattle.std.specs.List.{AllByRecursion}
use Rattle.plan_model.specs.Plans.{manager_name}
use Rattle.plan_model.specs.Roots.{Run, opening_run}
use Rattle.plan_model.specs.Statements.{RootStatement}
use Rattle.bridge_model.specs.Answers.{feed_is_full, next_cut, drained_next}
use Rattle.bridge_model.specs.Entries.{Entry, fed, ended, applied, reaped, drained, full}
use Rattle.bridge_model.specs.Histories.{Told, tells_all, replay, Leads}
use Rattle.bridge_model.specs.Orders.{first_runs, or_full, most_drained}
use Rattle.bridge_model.specs.RootRuns.{Moved, waiting, finished, moved, root_moves, is_of_root, StandsFor, begun, another, entered, passed}
use Rattle.bridge_model.specs.Settings.{Setting}
use Rattle.bridge_model.specs.Steps.{has_entries}
use Rattle.bridge_laws.specs.Lines.{Lines}
use Rattle.bridge_laws.proofs.LineLaws.{run_lines}
use Rattle.bridge_laws.proofs.LineMoveLaws.{root_goes}
use Rattle.bridge_laws.proofs.OwnLaws.{IsOwn, move_own}
use Rattle.world_model.specs.Moves.{Deed, applies, steps, reaps, drains, carries, closes, Move, moves, Done, step_done, steps_at, carried, done}
use Rattle.world_model.specs.Pairs.{Pairing, begins_pair, with_world, enters, is_done_a, is_done_b, does_at, does, place_of, behind, does_some, has_full, goes_on, plays_list, plays, IsPaired}
use Rattle.world_laws.proofs.RunLaws.{a_pushed, a_same, b_pushed, b_same, acts_leads}
use Rattle.world_model.specs.Worlds.{Settings, of_a, of_b, End, pipe, acts, with_a, with_b, happens, entries_of}
use Rattle.world_model.specs.declared.side.Side as which_side
use Rattle.world_model.specs.declared.side.Side.TheVariants.{A, B}
use Rattle.world_laws.proofs.PlayLaws.{same_root, same_done, same_pair}

-- ---- runs of roots that are numbered in order

-- the roots from this number on, each with a run that stands for these entries
unfoldable pub AreAt : (g : Setting) → List Entry → ℕ → List Run → Type 0
AreAt g es n [] = Unit
AreAt g es n (r ∷ rs) = (r.root ≡ n) × StandsFor g es r × AreAt g es (suc n) rs

first_at : (g : Setting) (n : ℕ) (ts : List (List RootStatement)) → AreAt g [] n (first_runs n ts)
unfolding AreAt first_runs opening_run
first_at g n [] = tt
first_at g n (t ∷ ts) = (refl, begun n manager_name, first_at g (suc n) ts)

-- an entry of no root
others_at : (g : Setting) (es : List Entry) (x : Entry) → ((n : ℕ) → is_of_root n x ≡ false) → (n : ℕ) (rs : List Run) → AreAt g es n rs → AreAt g (es ++ x ∷ []) n rs
unfolding AreAt
others_at g es x none n [] all = tt
others_at g es x none n (r ∷ rs) all = (all.0, another x (none r.root) all.1, others_at g es x none (suc n) rs all.2)

not_of : (x : Entry) (root m : ℕ) → IsOwn root (Some x) → (m ≡ root → ⊥) → (b : Bool) → is_of_root m x ≡ b → is_of_root m x ≡ false
not_of x root m own apart true is = absurd (apart (own m is))
not_of x root m own apart false is = is

-- an entry of a root before these
later_at : (g : Setting) (es : List Entry) (x : Entry) (root : ℕ) → IsOwn root (Some x) → (n : ℕ) (rs : List Run) → suc root ≤ n → AreAt g es n rs → AreAt g (es ++ x ∷ []) n rs
unfolding AreAt
later_at g es x root own n [] more all = tt
later_at g es x root own n (r ∷ rs) more all =
    let at = all.0 in
    (at, another x (not_of x root r.root own (λ same. omega (arith, at, same, more)) (is_of_root r.root x) refl) all.1, later_at g es x root own (suc n) rs (omega arith) all.2)

some_same : (q r : Run) → ◌≡◌ {A = Option Run} (Some q) (Some r) → q ≡ r
some_same q r is = cc

-- the run at a place is of that root
root_there : (g : Setting) (es : List Entry) (n : ℕ) (rs : List Run) (place : ℕ) (r : Run) → slice_get rs place ≡ Some r → AreAt g es n rs → r.root ≡ n + place
unfolding AreAt
root_there g es n [] place r is all = absurd (cc)
root_there g es n (q ∷ rs) zero r is all = let at = all.0 in let same = ap (λ (z : Run). z.root) (some_same q r is) in omega (arith, at, same)
root_there g es n (q ∷ rs) (suc place) r is all = let later = root_there g es (suc n) rs place r is all.2 in omega (arith, later)

-- one of them moves
module _ (g : Setting) (es : List Entry) (told : Told) (leads : Leads g es told) where
  entered_at : (x : Entry) (n : ℕ) (rs : List Run) (place : ℕ) (r next : Run) → slice_get rs place ≡ Some r → root_moves g told.side r ≡ moved next (Some x) → AreAt g es n rs
      → AreAt g (es ++ x ∷ []) n (slice_set rs place next)
  unfolding AreAt
  entered_at x n [] place r next is goes all = absurd (cc)
  entered_at x n (q ∷ rs) zero r next is goes all =
      let same = some_same q r is in
      let at : r.root ≡ n = ap (λ (z : Run). z.root) (sym same) ∙ all.0 in (
        same_root g told.side r next (Some x) (root_goes g told.side r next (Some x) goes) ∙ at,
        entered x leads goes (subst (StandsFor g es) same all.1),
        later_at g es x r.root (move_own g told.side r next (Some x) goes) (suc n) rs (omega (arith, at)) all.2,
      )
  entered_at x n (q ∷ rs) (suc place) r next is goes all =
      let there = root_there g es (suc n) rs place r is all.2 in
      let at = all.0 in (
        at,
        another x (not_of x r.root q.root (move_own g told.side r next (Some x) goes) (λ same. omega (arith, at, there, same)) (is_of_root q.root x) refl) all.1,
        entered_at x (suc n) rs place r next is goes all.2,
      )

  passed_at : (n : ℕ) (rs : List Run) (place : ℕ) (r next : Run) → slice_get rs place ≡ Some r → root_moves g told.side r ≡ moved next None → AreAt g es n rs → AreAt g es n (slice_set rs place next)
  unfolding AreAt
  passed_at n [] place r next is goes all = absurd (cc)
  passed_at n (q ∷ rs) zero r next is goes all =
      let same = some_same q r is in
      (same_root g told.side r next None (root_goes g told.side r next None goes) ∙ (ap (λ (z : Run). z.root) (sym same) ∙ all.0), passed leads goes (subst (StandsFor g es) same all.1), all.2)
  passed_at n (q ∷ rs) (suc place) r next is goes all = (all.0, all.1, passed_at (suc n) rs place r next is goes all.2)

-- ---- a deed

-- behind an entry, or where none was made
abbrev AreBehind : Setting → List Entry → Option Entry → List Run → Type 0
AreBehind g es None rs = AreAt g es 1 rs
AreBehind g es (Some x) rs = AreAt g (es ++ x ∷ []) 1 rs

nobodys : (b : Bool) (x y : Entry) → ((n : ℕ) → is_of_root n x ≡ false) → ((n : ℕ) → is_of_root n y ≡ false) → (n : ℕ) → is_of_root n (if b then x else y) ≡ false
nobodys true x y one two = one
nobodys false x y one two = two

module _ (g : Setting) (es : List Entry) (x : Told) (leads : Leads g es x) (rs : List Run) (all : AreAt g es 1 rs) where
  by_entry : (e : Entry) (d : Done) → ((n : ℕ) → is_of_root n e ≡ false) → ◌≡◌ {A = Option Done} (Some (record { entry = Some e; runs = rs })) (Some d) → AreBehind g es d.entry d.runs
  by_entry e d none is = subst (λ (z : Done). AreBehind g es z.entry z.runs) (same_done (record { entry = Some e; runs = rs }) d is) (others_at g es e none 1 rs all)

  by_move : (place : ℕ) (r : Run) (m : Moved) (d : Done) → slice_get rs place ≡ Some r → root_moves g x.side r ≡ m → step_done place rs m ≡ Some d → AreBehind g es d.entry d.runs
  by_move place r waiting d at goes is = absurd (cc)
  by_move place r finished d at goes is = absurd (cc)
  by_move place r (moved next None) d at goes is =
      subst (λ (z : Done). AreBehind g es z.entry z.runs) (same_done (record { entry = None; runs = slice_set rs place next }) d is) (passed_at g es x leads 1 rs place r next at goes all)
  by_move place r (moved next (Some e)) d at goes is =
      subst (λ (z : Done). AreBehind g es z.entry z.runs) (same_done (record { entry = Some e; runs = slice_set rs place next }) d is) (entered_at g es x leads e 1 rs place r next at goes all)

  by_run : (place : ℕ) (o : Option Run) (d : Done) → slice_get rs place ≡ o → steps_at g x.side place rs o ≡ Some d → AreBehind g es d.entry d.runs
  by_run place None d at is = absurd (cc)
  by_run place (Some r) d at is = by_move place r (root_moves g x.side r) d at refl is

  deed_behind : (cut : ℕ) (y : Told) (deed : Deed) (d : Done) → done g cut x y rs deed ≡ Some d → AreBehind g es d.entry d.runs
  unfolding done
  deed_behind cut y (applies tid) d is = by_entry (or_full x.side (applied tid)) d (nobodys (has_entries x.side) full (applied tid) (λ n. refl) (λ n. refl)) is
  deed_behind cut y (steps place) d is = by_run place (slice_get rs place) d refl is
  deed_behind cut y (reaps n) d is = by_entry (reaped n) d (λ m. refl) is
  deed_behind cut y drains d is = by_entry (drained (drained_next g most_drained x.side)) d (λ m. refl) is
  deed_behind cut y carries d is =
      let piece = take cut (pipe y x) in
      by_entry (carried x.side piece) d (nobodys (feed_is_full x.side piece) full (fed (next_cut x.side piece)) (λ n. refl) (λ n. refl)) is
  deed_behind cut y closes d is = by_entry ended d (λ m. refl) is

-- ---- a world

-- both ends are where their entries lead, and each run stands for these
pub record AreStanding (g : Settings) (p : Pairing) : Type 0 where
  pub lead_a : Leads (of_a g) (entries_of A p.events) p.world.a.now
  pub lead_b : Leads (of_b g) (entries_of B p.events) p.world.b.now
  pub runs_a : AreAt (of_a g) (entries_of A p.events) 1 p.runs.a
  pub runs_b : AreAt (of_b g) (entries_of B p.events) 1 p.runs.b

-- an entry of the first end, with the runs behind it
module _ (g : Settings) (p q : Pairing) (stand : AreStanding g p) (rs : List Run) (e : Entry) where
  a_entered : AreAt (of_a g) (entries_of A p.events ++ e ∷ []) 1 rs → (o : Option End) → acts (of_a g) p.world.a p.world.b e ≡ o
      → with_world (record p { runs = record p.runs { a = rs } }) (record { side = A; entry = e }) (with_a p.world o) ≡ Some q → AreStanding g q
  a_entered all None to is = absurd (cc)
  a_entered all (Some after) to is =
      subst (AreStanding g) (same_pair (record p { world = record p.world { a = after }; events = p.events ++ record { side = A; entry = e } ∷ []; runs = record p.runs { a = rs } }) q is)
      (record {
        lead_a = subst (λ fs. Leads (of_a g) fs after.now) (sym (a_pushed p.events e)) (acts_leads (of_a g) (entries_of A p.events) p.world.a p.world.b after e stand.lead_a to);
        lead_b = subst (λ fs. Leads (of_b g) fs p.world.b.now) (sym (b_same p.events e)) stand.lead_b;
        runs_a = subst (λ fs. AreAt (of_a g) fs 1 rs) (sym (a_pushed p.events e)) all;
        runs_b = subst (λ fs. AreAt (of_b g) fs 1 p.runs.b) (sym (b_same p.events e)) stand.runs_b;
      })

  b_entered : AreAt (of_b g) (entries_of B p.events ++ e ∷ []) 1 rs → (o : Option End) → acts (of_b g) p.world.b p.world.a e ≡ o
      → with_world (record p { runs = record p.runs { b = rs } }) (record { side = B; entry = e }) (with_b p.world o) ≡ Some q → AreStanding g q
  b_entered all None to is = absurd (cc)
  b_entered all (Some after) to is =
      subst (AreStanding g) (same_pair (record p { world = record p.world { b = after }; events = p.events ++ record { side = B; entry = e } ∷ []; runs = record p.runs { b = rs } }) q is)
      (record {
        lead_a = subst (λ fs. Leads (of_a g) fs p.world.a.now) (sym (a_same p.events e)) stand.lead_a;
        lead_b = subst (λ fs. Leads (of_b g) fs after.now) (sym (b_pushed p.events e)) (acts_leads (of_b g) (entries_of B p.events) p.world.b p.world.a after e stand.lead_b to);
        runs_a = subst (λ fs. AreAt (of_a g) fs 1 p.runs.a) (sym (a_same p.events e)) stand.runs_a;
        runs_b = subst (λ fs. AreAt (of_b g) fs 1 rs) (sym (b_pushed p.events e)) all;
      })

module _ (g : Settings) (p q : Pairing) (stand : AreStanding g p) where
  a_stands : (rs : List Run) (e : Option Entry) → AreBehind (of_a g) (entries_of A p.events) e rs → enters g (record p { runs = record p.runs { a = rs } }) A e ≡ Some q → AreStanding g q
  unfolding happens
  a_stands rs None all is =
      subst (AreStanding g) (same_pair (record p { runs = record p.runs { a = rs } }) q is) (record { lead_a = stand.lead_a; lead_b = stand.lead_b; runs_a = all; runs_b = stand.runs_b })
  a_stands rs (Some e) all is = a_entered g p q stand rs e all (acts (of_a g) p.world.a p.world.b e) refl is

  b_stands : (rs : List Run) (e : Option Entry) → AreBehind (of_b g) (entries_of B p.events) e rs → enters g (record p { runs = record p.runs { b = rs } }) B e ≡ Some q → AreStanding g q
  unfolding happens
  b_stands rs None all is =
      subst (AreStanding g) (same_pair (record p { runs = record p.runs { b = rs } }) q is) (record { lead_a = stand.lead_a; lead_b = stand.lead_b; runs_a = stand.runs_a; runs_b = all })
  b_stands rs (Some e) all is = b_entered g p q stand rs e all (acts (of_b g) p.world.b p.world.a e) refl is

  a_deed : (cut : ℕ) (deed : Deed) (o : Option Done) → done (of_a g) cut p.world.a.now p.world.b.now p.runs.a deed ≡ o → is_done_a g p o ≡ Some q → AreStanding g q
  a_deed cut deed None at is = absurd (cc)
  a_deed cut deed (Some d) at is =
      a_stands d.runs d.entry (deed_behind (of_a g) (entries_of A p.events) p.world.a.now stand.lead_a p.runs.a stand.runs_a cut p.world.b.now deed d at) is

  b_deed : (cut : ℕ) (deed : Deed) (o : Option Done) → done (of_b g) cut p.world.b.now p.world.a.now p.runs.b deed ≡ o → is_done_b g p o ≡ Some q → AreStanding g q
  b_deed cut deed None at is = absurd (cc)
  b_deed cut deed (Some d) at is =
      b_stands d.runs d.entry (deed_behind (of_b g) (entries_of B p.events) p.world.b.now stand.lead_b p.runs.b stand.runs_b cut p.world.a.now deed d at) is

  deed_stands : (cut : ℕ) (m : Move) (s : which_side.Side) → does_at g cut p m s ≡ Some q → AreStanding g q
  deed_stands cut m A is = a_deed cut m.deed (done (of_a g) cut p.world.a.now p.world.b.now p.runs.a m.deed) refl is
  deed_stands cut m B is = b_deed cut m.deed (done (of_b g) cut p.world.b.now p.world.a.now p.runs.b m.deed) refl is

pub some_stands : (g : Settings) (cut : ℕ) (p q : Pairing) (o : Option Move) → AreStanding g p → does_some g cut p o ≡ Some q → AreStanding g q
unfolding does
some_stands g cut p q None stand is = absurd (cc)
some_stands g cut p q (Some m) stand is =
    deed_stands g (record p { generator = behind p.generator }) q (record { lead_a = stand.lead_a; lead_b = stand.lead_b; runs_a = stand.runs_a; runs_b = stand.runs_b }) cut m m.side is

-- ---- all moves

abbrev KeepsStanding : Settings → (Pairing → Option Pairing) → Type 0
KeepsStanding g more = (p q : Pairing) → AreStanding g p → more p ≡ Some q → AreStanding g q

on_stands : (g : Settings) (more : Pairing → Option Pairing) → KeepsStanding g more → (o : Option Pairing) (q : Pairing) → ((p : Pairing) → o ≡ Some p → AreStanding g p) → goes_on more o ≡ Some q
    → AreStanding g q
on_stands g more keeps None q all is = absurd (cc)
on_stands g more keeps (Some p) q all is = keeps p q (all p refl) is

list_stands : (g : Settings) (cut : ℕ) (more : Pairing → Option Pairing) → KeepsStanding g more → (p q : Pairing) (ms : List Move) → AreStanding g p → plays_list more g cut p ms ≡ Some q → AreStanding g q
list_stands g cut more keeps p q [] stand is = subst (AreStanding g) (same_pair p q is) stand
list_stands g cut more keeps p q (m ∷ ms) stand is =
    let next = does_some g cut p (slice_get (m ∷ ms) (place_of p.generator (length (m ∷ ms)))) in
    on_stands g more keeps next q (λ r to. some_stands g cut p r (slice_get (m ∷ ms) (place_of p.generator (length (m ∷ ms)))) stand to) is

full_stands : (g : Settings) (cut : ℕ) (more : Pairing → Option Pairing) → KeepsStanding g more → (p q : Pairing) (b : Bool) → AreStanding g p
    → (if b then Some p else plays_list more g cut p (moves g p.world p.runs)) ≡ Some q → AreStanding g q
full_stands g cut more keeps p q true stand is = subst (AreStanding g) (same_pair p q is) stand
full_stands g cut more keeps p q false stand is = list_stands g cut more keeps p q (moves g p.world p.runs) stand is

all_stand : (n : ℕ) (g : Settings) (cut : ℕ) → KeepsStanding g (plays n g cut)
unfolding plays
all_stand zero g cut p q stand is = absurd (cc)
all_stand (suc n) g cut p q stand is = full_stands g cut (plays n g cut) (all_stand n g cut) p q (has_full p.world) stand is

pub first_standing : (g : Settings) (seed : Option ℕ) → AreStanding g (begins_pair g seed)
unfolding replay tells_all entries_of
first_standing g seed = record { lead_a = refl; lead_b = refl; runs_a = first_at (of_a g) 1 g.a.plan.threads; runs_b = first_at (of_b g) 1 g.b.plan.threads }

pair_stands : (g : Settings) (seed : Option ℕ) (cut : ℕ) (last : Pairing) → IsPaired g seed cut last → AreStanding g last
pair_stands g seed cut last is = all_stand is.steps g cut (begins_pair g seed) last (first_standing g seed) is.plays

-- ---- what a reader sees of it

pub each_stands : (g : Setting) (es : List Entry) (n : ℕ) (rs : List Run) → AreAt g es n rs → AllByRecursion (StandsFor g es) rs
unfolding AreAt
each_stands g es n [] all = tt
each_stands g es n (r ∷ rs) all = (all.1, each_stands g es (suc n) rs all.2)

each_lines : (g : Setting) (es : List Entry) (n : ℕ) (rs : List Run) → AreAt g es n rs → AllByRecursion (λ (r : Run). Lines g es r.root r.place r.lines) rs
unfolding AreAt
each_lines g es n [] all = tt
each_lines g es n (r ∷ rs) all = (run_lines g es r all.1, each_lines g es (suc n) rs all.2)

module _ (g : Settings) (seed : Option ℕ) (cut : ℕ) (last : Pairing) (is : IsPaired g seed cut last) where
  pub stand_a : AllByRecursion (StandsFor (of_a g) (entries_of A last.events)) last.runs.a
  stand_a = each_stands (of_a g) (entries_of A last.events) 1 last.runs.a (pair_stands g seed cut last is).runs_a

  pub stand_b : AllByRecursion (StandsFor (of_b g) (entries_of B last.events)) last.runs.b
  stand_b = each_stands (of_b g) (entries_of B last.events) 1 last.runs.b (pair_stands g seed cut last is).runs_b

  pub lines_a : AllByRecursion (λ (r : Run). Lines (of_a g) (entries_of A last.events) r.root r.place r.lines) last.runs.a
  lines_a = each_lines (of_a g) (entries_of A last.events) 1 last.runs.a (pair_stands g seed cut last is).runs_a

  pub lines_b : AllByRecursion (λ (r : Run). Lines (of_b g) (entries_of B last.events) r.root r.place r.lines) last.runs.b
  lines_b = each_lines (of_b g) (entries_of B last.events) 1 last.runs.b (pair_stands g seed cut last is).runs_b
