-- The order of `answer` stops only where nothing can be done: its runs stand for what was told, and each entry that it makes may stand.
use Rattle.std.proofs.Common.{◌≡◌, refl, sym, ap, subst, ◌∙◌, ℕ, zero, suc, ◌+◌, ◌≤◌, Bool, true, false, ◌||◌, List, [], ◌∷◌, ◌++◌, length, drop, Option, None, Some, arith, if◌then◌else◌}
use Rattle.std.proofs.lemmas.Bool.{true≢false}
use Rattle.plan_model.specs.Plans.{manager_name}
use Rattle.plan_model.specs.Roots.{Run, opening_run}
use Rattle.plan_model.specs.Statements.{RootStatement}
use Rattle.bridge_model.specs.Answers.{ready_at, may_reap, drained_next, next_cut}
use Rattle.bridge_model.specs.Entries.{Entry, fed, ended, applied, reaped, drained, full}
use Rattle.bridge_model.specs.Histories.{Told, nothing_told, told_more, told_by, tells, tells_all, replay, Leads}
use Rattle.bridge_model.specs.Orders.{Working, first_runs, begins_work, RootMove, in_front, first_or_later, root_move, enters, enters_move, or_full, feeds_next, drains_next, most_drained, reaps_next, roots_next, applies_next, works_once, goes_on_working, works}
use Rattle.bridge_model.specs.RootRuns.{Moved, waiting, finished, moved, root_moves, is_of_root, StandsFor, begun, another, entered, passed}
use Rattle.bridge_model.specs.Settings.{Setting}
use Rattle.bridge_model.specs.Sides.{Side, stands}
use Rattle.bridge_model.specs.Steps.{has_entries, has_fed, turn, step, may, does}
use Rattle.bridge_laws.specs.Living.{plan_constants}
use Rattle.bridge_laws.proofs.OwnLaws.{IsOwn, move_own}
use Rattle.bridge_laws.specs.Reaching.{IsReached, at_first, at_next, IsOver}
use Rattle.bridge_laws.specs.RootConstants.{root_constants}
use Rattle.bridge_laws.proofs.DoingLaws.{applied_may, reaped_may, drained_may, fed_may, full_may, ended_may}
use Rattle.bridge_laws.proofs.MayLaws.{own_entry_may}
use Rattle.bridge_laws.proofs.HeldMoveLaws.{root_moves_so, nothing_homely}
use Rattle.bridge_laws.proofs.OpenLaws.{all_open}
use Rattle.bridge_laws.proofs.HeldRunLaws.{nowhere, same_told}

-- ---- entries that are told

step_is : (g : Setting) (s : Side) (e : Entry) → may g s e ≡ true → step g s e ≡ Some (turn e s (does g e s))
unfolding step
step_is g s e can = ap (λ b. if b then Some (turn e s (does g e s)) else None) can

tells_is : (g : Setting) (x : Told) (e : Entry) → may g x.side e ≡ true → tells g x e ≡ Some (told_more x e (turn e x.side (does g e x.side)))
tells_is g x e can = ap (told_by x e) (step_is g x.side e can)

told_push : (g : Setting) (o : Option Told) (es : List Entry) (e : Entry) (x z : Told) → tells_all g o es ≡ Some x → tells g x e ≡ Some z → tells_all g o (es ++ e ∷ []) ≡ Some z
unfolding tells_all
told_push g None es e x z to more = absurd (nowhere g es x to)
told_push g (Some y) [] e x z to more = last_one (tells g y e) (subst (λ w. tells g w e ≡ Some z) (sym (same_told y x to)) more)
  where
    last_one : (o : Option Told) → o ≡ Some z → tells_all g o [] ≡ Some z
    last_one None is = absurd (cc)
    last_one (Some w) is = is
told_push g (Some y) (f ∷ es) e x z to more = told_push g (tells g y f) es e x z to more

leads_push : (g : Setting) (es : List Entry) (e : Entry) (x z : Told) → Leads g es x → tells g x e ≡ Some z → Leads g (es ++ e ∷ []) z
unfolding replay
leads_push g es e x z to more = told_push g (Some (nothing_told g)) es e x z to more

-- ---- runs that stand for what was told

-- runs that are numbered in order stand for a history
abbrev RunsStand : Setting → List Entry → ℕ → List Run → Type 0
RunsStand g es n [] = Unit
RunsStand g es n (r ∷ rs) = (r.root ≡ n) × (StandsFor g es r × RunsStand g es (suc n) rs)

not_own : (n : ℕ) (e : Entry) (b : Bool) → is_of_root n e ≡ b → (is_of_root n e ≡ true → ⊥) → is_of_root n e ≡ false
not_own n e true is none = absurd (none is)
not_own n e false is none = is

-- an entry that is none of theirs
others_stand : (g : Setting) (es : List Entry) (e : Entry) (n : ℕ) (rs : List Run) → ((k : ℕ) → n ≤ k → is_of_root k e ≡ false) → RunsStand g es n rs → RunsStand g (es ++ e ∷ []) n rs
others_stand g es e n [] other all = tt
others_stand g es e n (r ∷ rs) other all =
    let root = all.0 in
    (all.0, (another e (other r.root (omega arith)) all.1.0, others_stand g es e (suc n) rs (λ k more. other k (omega arith)) all.1.1))

-- what a move of one of them leaves
record MoveStands (g : Setting) (es : List Entry) (z : Side) (n : ℕ) (rs : List Run) (m : RootMove) : Type 0 where
  quiet : m.entry ≡ None → RunsStand g es n m.runs
  entry : (e : Entry) → m.entry ≡ Some e → RunsStand g (es ++ e ∷ []) n m.runs
  can : (e : Entry) → m.entry ≡ Some e → may g z e ≡ true
  later : (e : Entry) → m.entry ≡ Some e → (k : ℕ) → is_of_root k e ≡ true → n ≤ k
  long : length m.runs ≡ length rs

same_entry : (x e : Entry) → ◌≡◌ {A = Option Entry} (Some x) (Some e) → x ≡ e
same_entry x e is = cc

no_entry : {X : Type 0} (e : Entry) → ◌≡◌ {A = Option Entry} None (Some e) → X
no_entry e is = absurd (cc)

some_entry : {X : Type 0} (e : Entry) → ◌≡◌ {A = Option Entry} (Some e) None → X
some_entry e is = absurd (cc)

same_root : (g : Setting) (z : Side) (r next : Run) (e : Option Entry) → root_moves g z r ≡ moved next e → next.root ≡ r.root
same_root g z r next e is = let moves = root_moves_so g (λ x. 0) z r next e (nothing_homely g) is in moves.root

module _ (g : Setting) (plan : plan_constants g.plan ≡ []) (roots : root_constants g.plan ≡ []) where
  moved_stands : (es : List Entry) (x : Told) (n : ℕ) (r : Run) (rs : List Run) (next : Run) (e : Option Entry) → Leads g es x → 1 ≤ n → n ≤ length g.plan.threads → RunsStand g es n (r ∷ rs)
      → root_moves g x.side r ≡ moved next e → MoveStands g es x.side n (r ∷ rs) (record { runs = next ∷ rs; entry = e })
  moved_stands es x n r rs next None leads least most all is =
      record {
        quiet = λ none. (same_root g x.side r next None is ∙ all.0, (passed leads is all.1.0, all.1.1));
        entry = λ e bad. no_entry e bad;
        can = λ e bad. no_entry e bad;
        later = λ e bad. no_entry e bad;
        long = refl;
      }
  moved_stands es x n r rs next (Some e) leads least most all is =
      let root = all.0 in
      let own : IsOwn r.root (Some e) = move_own g x.side r next (Some e) is in
      let others : (k : ℕ) → suc n ≤ k → is_of_root k e ≡ false =
      λ k more. not_own k e (is_of_root k e) refl (λ mine. let same = own k mine in absurd (omega arith)) in
      record {
        quiet = λ bad. some_entry e bad;
        entry =
            λ d same.
            subst (λ y. RunsStand g (es ++ y ∷ []) n (next ∷ rs)) (same_entry e d same)
            (same_root g x.side r next (Some e) is ∙ all.0, (entered e leads is all.1.0, others_stand g es e (suc n) rs others all.1.1));
        can =
            λ d same.
            subst (λ y. may g x.side y ≡ true) (same_entry e d same)
            (own_entry_may g es r next e x plan roots (omega arith, omega arith) leads all.1.0 is);
        later =
            λ d same k mine.
            let here : is_of_root k e ≡ true = ap (is_of_root k) (same_entry e d same) ∙ mine in let one = own k here in omega arith;
        long = refl;
      }

  -- a later one moves
  in_front_stands : (es : List Entry) (x : Told) (n : ℕ) (r : Run) (rs : List Run) (m : RootMove) → RunsStand g es n (r ∷ rs) → MoveStands g es x.side (suc n) rs m
      → MoveStands g es x.side n (r ∷ rs) (record m { runs = r ∷ m.runs })
  in_front_stands es x n r rs m all behind =
      let root = all.0 in
      let long = behind.long in
      record {
        quiet = λ none. (all.0, (all.1.0, behind.quiet none));
        entry =
            λ e is.
            (all.0, (another e (not_own r.root e (is_of_root r.root e) refl (λ mine. let over = behind.later e is r.root mine in absurd (omega arith))) all.1.0, behind.entry e is));
        can = behind.can;
        later = λ e is k mine. let over = behind.later e is k mine in omega arith;
        long = omega arith;
      }

  front_by : (es : List Entry) (x : Told) (n : ℕ) (r : Run) (rs : List Run) (m : RootMove) (o : Option RootMove) → RunsStand g es n (r ∷ rs)
      → ((y : RootMove) → o ≡ Some y → MoveStands g es x.side (suc n) rs y) → in_front r o ≡ Some m → MoveStands g es x.side n (r ∷ rs) m
  front_by es x n r rs m None all behind is = absurd (cc)
  front_by es x n r rs m (Some y) all behind is = subst (MoveStands g es x.side n (r ∷ rs)) (same_move (record y { runs = r ∷ y.runs }) m is) (in_front_stands es x n r rs y all (behind y refl))
    where
      same_move : (a b : RootMove) → ◌≡◌ {A = Option RootMove} (Some a) (Some b) → a ≡ b
      same_move a b is = cc

  first_by : (es : List Entry) (x : Told) (n : ℕ) (r : Run) (rs : List Run) (m : RootMove) (o : Option RootMove) (y : Moved) → Leads g es x → 1 ≤ n → n ≤ length g.plan.threads
      → RunsStand g es n (r ∷ rs) → root_moves g x.side r ≡ y → ((z : RootMove) → o ≡ Some z → MoveStands g es x.side (suc n) rs z) → first_or_later r rs y o ≡ Some m
      → MoveStands g es x.side n (r ∷ rs) m
  first_by es x n r rs m o (moved next e) leads least most all at behind is =
      subst (MoveStands g es x.side n (r ∷ rs)) (same_move (record { runs = next ∷ rs; entry = e }) m is) (moved_stands es x n r rs next e leads least most all at)
    where
      same_move : (a b : RootMove) → ◌≡◌ {A = Option RootMove} (Some a) (Some b) → a ≡ b
      same_move a b is = cc
  first_by es x n r rs m o waiting leads least most all at behind is = front_by es x n r rs m o all behind is
  first_by es x n r rs m o finished leads least most all at behind is = front_by es x n r rs m o all behind is

  move_stands : (es : List Entry) (x : Told) (n : ℕ) (rs : List Run) (m : RootMove) → Leads g es x → 1 ≤ n → n + length rs ≤ suc (length g.plan.threads) → RunsStand g es n rs
      → root_move g x.side rs ≡ Some m → MoveStands g es x.side n rs m
  unfolding root_move
  move_stands es x n [] m leads least most all is = absurd (cc)
  move_stands es x n (r ∷ rs) m leads least most all is =
      first_by es x n r rs m (root_move g x.side rs) (root_moves g x.side r) leads least (omega arith) all refl
      (λ z there. move_stands es x (suc n) rs z leads (omega arith) (omega arith) all.1.1 there) is

  -- ---- places of the order

  -- the runs of a place stand for what was told there
  record InWork (w : Working) : Type 0 where
    journal : List Entry
    leads : Leads g journal w.told
    runs : RunsStand g journal 1 w.runs
    few : length w.runs ≡ length g.plan.threads

  first_stand : (n : ℕ) (ts : List (List RootStatement)) → RunsStand g [] n (first_runs n ts)
  unfolding first_runs opening_run
  first_stand n [] = tt
  first_stand n (t ∷ ts) = (refl, (opening_stands n, first_stand (suc n) ts))
    where
      opening_stands : (k : ℕ) → StandsFor g [] (opening_run k manager_name)
      opening_stands k = begun k manager_name

  first_many : (n : ℕ) (ts : List (List RootStatement)) → length (first_runs n ts) ≡ length ts
  unfolding first_runs
  first_many n [] = refl
  first_many n (t ∷ ts) = ap (λ k. suc k) (first_many (suc n) ts)

  first_leads : Leads g [] (nothing_told g)
  unfolding replay tells_all
  first_leads = refl

  first_work : (bytes : List ℕ) → InWork (begins_work g bytes)
  first_work bytes = record { journal = []; leads = first_leads; runs = first_stand 1 g.plan.threads; few = first_many 1 g.plan.threads }

  -- what is done next is in order, and where there is nothing it is over
  abbrev Goes : Working → Option Working → Type 0
  Goes w None = IsOver g w
  Goes w (Some next) = InWork next

  -- an entry that may stand is made, and leads on
  enters_so : (w v : Working) (e : Entry) (es : List Entry) → Leads g es v.told → may g v.told.side e ≡ true → RunsStand g (es ++ e ∷ []) 1 v.runs → length v.runs ≡ length g.plan.threads
      → Goes w (enters g v e)
  enters_so w v e es leads can all few =
      let is = tells_is g v.told e can in
      rw is
      (record { journal = es ++ e ∷ []; leads = leads_push g es e v.told (told_more v.told e (turn e v.told.side (does g e v.told.side))) leads is; runs = all; few = few })

  -- so is one of no root
  nobody_so : (w v : Working) (e : Entry) → (work : InWork w) → v.told ≡ w.told → v.runs ≡ w.runs → may g w.told.side e ≡ true → ((k : ℕ) → is_of_root k e ≡ false) → Goes w (enters g v e)
  nobody_so w v e work told runs can nobody =
      enters_so w v e work.journal (subst (Leads g work.journal) (sym told) work.leads) (subst (λ (x : Told). may g x.side e ≡ true) (sym told) can)
      (subst (RunsStand g (work.journal ++ e ∷ []) 1) (sym runs) (others_stand g work.journal e 1 w.runs (λ k more. nobody k) work.runs)) (ap length runs ∙ work.few)

  or_nobody : (tid : List ℕ) (b : Bool) (k : ℕ) → is_of_root k (if b then full else applied tid) ≡ false
  or_nobody tid true k = refl
  or_nobody tid false k = refl

  neither : (a b : Bool) → (a || b) ≡ false → (a ≡ false) × (b ≡ false)
  neither true b is = absurd (true≢false is)
  neither false b is = (refl, is)

  feeds_by : (w : Working) (b : ℕ) (bytes : List ℕ) (c : Bool) → InWork w → stands w.told.side ≡ true → (has_entries w.told.side || has_fed w.told.side) ≡ c
      → Goes w (if c then enters g w full else enters g (record w { rest = drop (length (next_cut w.told.side (b ∷ bytes))) (b ∷ bytes) }) (fed (next_cut w.told.side (b ∷ bytes))))
  feeds_by w b bytes true work up limit = nobody_so w w full work refl refl (full_may g w.told.side up limit) (λ k. refl)
  feeds_by w b bytes false work up limit =
      let room = neither (has_entries w.told.side) (has_fed w.told.side) limit in
      nobody_so w (record w { rest = drop (length (next_cut w.told.side (b ∷ bytes))) (b ∷ bytes) }) (fed (next_cut w.told.side (b ∷ bytes))) work refl refl
      (fed_may g w.told.side b bytes up room.0 room.1 (all_open g work.journal w.told work.leads)) (λ k. refl)

  feeds_so : (w : Working) (rest : List ℕ) → InWork w → stands w.told.side ≡ true → Goes w (feeds_next g w rest)
  feeds_so w [] work up = nobody_so w w ended work refl refl (ended_may g w.told.side up) (λ k. refl)
  feeds_so w (b ∷ bytes) work up = feeds_by w b bytes (has_entries w.told.side || has_fed w.told.side) work up refl

  after_so : (w : Working) (b : Bool) → InWork w → ready_at w.told.side 0 ≡ None → root_move g w.told.side w.runs ≡ None → may_reap g w.told.side ≡ None → drained_next g most_drained w.told.side ≡ []
      → stands w.told.side ≡ b → Goes w (if b then feeds_next g w w.rest else None)
  after_so w true work methods moves objects bytes up = feeds_so w w.rest work up
  after_so w false work methods moves objects bytes up = record { methods = methods; roots = moves; objects = objects; bytes = bytes; ended = up }

  drains_so : (w : Working) (out : List ℕ) → InWork w → ready_at w.told.side 0 ≡ None → root_move g w.told.side w.runs ≡ None → may_reap g w.told.side ≡ None
      → drained_next g most_drained w.told.side ≡ out → Goes w (drains_next g w out)
  drains_so w [] work methods moves objects is = after_so w (stands w.told.side) work methods moves objects is refl
  drains_so w (b ∷ bytes) work methods moves objects is =
      nobody_so w w (drained (b ∷ bytes)) work refl refl (drained_may g most_drained w.told.side b bytes is) (λ k. refl)

  reaps_so : (w : Working) (o : Option ℕ) → InWork w → ready_at w.told.side 0 ≡ None → root_move g w.told.side w.runs ≡ None → may_reap g w.told.side ≡ o → Goes w (reaps_next g w o)
  reaps_so w (Some n) work methods moves is = nobody_so w w (reaped n) work refl refl (reaped_may g w.told.side n is) (λ k. refl)
  reaps_so w None work methods moves is = drains_so w (drained_next g most_drained w.told.side) work methods moves is refl

  moves_by : (w : Working) (m : RootMove) (o : Option Entry) → (work : InWork w) → MoveStands g work.journal w.told.side 1 w.runs m → m.entry ≡ o → Goes w (enters_move g w m)
  moves_by w m None work stand is = rw is (record { journal = work.journal; leads = work.leads; runs = stand.quiet is; few = stand.long ∙ work.few })
  moves_by w m (Some e) work stand is =
      rw is (enters_so w (record w { runs = m.runs }) e work.journal work.leads (stand.can e is) (stand.entry e is) (stand.long ∙ work.few))

  roots_so : (w : Working) (o : Option RootMove) → InWork w → ready_at w.told.side 0 ≡ None → root_move g w.told.side w.runs ≡ o → Goes w (roots_next g w o)
  roots_so w (Some m) work methods is =
      let few = work.few in
      moves_by w m m.entry work (move_stands work.journal w.told 1 w.runs m work.leads (omega arith) (omega arith) work.runs is) refl
  roots_so w None work methods is = reaps_so w (may_reap g w.told.side) work methods is refl

  applies_so : (w : Working) (o : Option (List ℕ)) → InWork w → ready_at w.told.side 0 ≡ o → Goes w (applies_next g w o)
  applies_so w (Some tid) work is =
      nobody_so w w (or_full w.told.side (applied tid)) work refl refl (applied_may g work.journal w.told tid plan work.leads is) (or_nobody tid (has_entries w.told.side))
  applies_so w None work is = roots_so w (root_move g w.told.side w.runs) work is refl

  works_so : (w : Working) → InWork w → Goes w (works_once g w)
  unfolding works_once
  works_so w work = applies_so w (ready_at w.told.side 0) work refl

  reached_work : (bytes : List ℕ) (w : Working) → IsReached g bytes w → InWork w
  reached_work bytes w' at_first = first_work bytes
  reached_work bytes w' (at_next {w} {next} before is) = subst (Goes w) is (works_so w (reached_work bytes w before))

  same_last : (a b : Working) → ◌≡◌ {A = Option Working} (Some a) (Some b) → a ≡ b
  same_last a b is = cc

  last_by : (more : Working → Option Working) (w last : Working) (o : Option Working) → Goes w o → ((next : Working) → InWork next → more next ≡ Some last → IsOver g last)
      → goes_on_working more w o ≡ Some last → IsOver g last
  last_by more w last None over on is = subst (IsOver g) (same_last w last is) over
  last_by more w last (Some next) work on is = on next work is

  works_over : (n : ℕ) (w last : Working) → InWork w → works n g w ≡ Some last → IsOver g last
  unfolding works
  works_over zero w last work is = absurd (cc)
  works_over (suc n) w last work is = last_by (works n g) w last (works_once g w) (works_so w work) (λ next fine more. works_over n next last fine more) is

  pub last_is_over : (bytes : List ℕ) (n : ℕ) (last : Working) → works n g (begins_work g bytes) ≡ Some last → IsOver g last
  last_is_over bytes n last is = works_over n (begins_work g bytes) last (first_work bytes) is

-- the order stops only where nothing can be done
pub stops_where_over : (g : Setting) (bytes : List ℕ) (w : Working) → plan_constants g.plan ≡ [] → root_constants g.plan ≡ [] → IsReached g bytes w → works_once g w ≡ None → IsOver g w
stops_where_over g bytes w plan roots reached none = subst (Goes g plan roots w) none (works_so g plan roots w (reached_work g plan roots bytes w reached))

-- so does all that is done
pub ends_where_over : (g : Setting) (bytes : List ℕ) (n : ℕ) (last : Working) → plan_constants g.plan ≡ [] → root_constants g.plan ≡ [] → works n g (begins_work g bytes) ≡ Some last → IsOver g last
ends_where_over g bytes n last plan roots is = last_is_over g plan roots bytes n last is
