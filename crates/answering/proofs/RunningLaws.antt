-- The roots of a plan are so behind each entry: a root's own entry is one of its run, and all others are none of its.
use Rattle.std.proofs.Common.{◌≡◌, refl, sym, ap, subst, ◌∙◌, ℕ, suc, ◌+◌, ◌<◌, ◌≤◌, Bool, true, false, List, [], ◌∷◌, length, Option, None, Some, if◌then◌else◌, arith}
use Rattle.std.proofs.lemmas.Bool.{lt-ltb, le-ltb}
use Rattle.std.specs.List.{AllByRecursion}
use Rattle.plan_model.specs.Forms.{is_export_name}
use Rattle.plan_model.specs.Plans.{manager_name}
use Rattle.plan_model.specs.Roots.{Run, opening_run}
use Rattle.plan_model.specs.Statements.{RootStatement}
use Rattle.bridge_laws.proofs.OwnLaws.{IsOwn, move_own}
use Rattle.bridge_endpoint.specs.Entering.{fed_by}
use Rattle.bridge_endpoint.specs.Journals.{Endpoint, setting_at, side_at, with_entry}
use Rattle.bridge_endpoint.specs.declared.answers.Fed.{Fed}
use Rattle.bridge_model.specs.Entries.{Entry, ended, applied, reaped, drained, full}
use Rattle.bridge_model.specs.Orders.{RootMove, first_runs, root_move, in_front, first_or_later}
use Rattle.bridge_model.specs.RootRuns.{Moved, waiting, finished, moved, root_moves, is_of_root, StandsFor, begun}
use Rattle.bridge_model.specs.Steps.{has_entries, is_root}
use Rattle.bridge_core.specs.Moving.{Does, next_move, with_any}
use Rattle.bridge_core.specs.Standing.{IsHistory, IsRunAt}
use Rattle.bridge_core.specs.declared.moved.RootMoved.TheVariants as answer
use Rattle.bridge_core.proofs.OtherLemmas.{fed_stays, other_stays}
use Rattle.bridge_core.proofs.RunAtLemmas.{run_behind, same_run}
use Rattle.answering.specs.Doing.{First, of_method, of_root, of_object, of_bytes}
use Rattle.answering.specs.Ends.{Did}
use Rattle.answering.specs.Running.{AreRoots, AreRootsFrom}

-- each of them is a run at the endpoint
pub each_run : (e : Endpoint) (n : ℕ) (rs : List Run) → AreRootsFrom e n rs → AllByRecursion (IsRunAt e) rs
each_run e n [] all = tt
each_run e n (r ∷ rs) all = (all.1, each_run e (suc n) rs all.2)

each_stays : (e f : Endpoint) (n : ℕ) (rs : List Run) → ((r : Run) → IsRunAt e r → IsRunAt f r) → AreRootsFrom e n rs → AreRootsFrom f n rs
each_stays e f n [] stays all = tt
each_stays e f n (r ∷ rs) stays all = (all.0, stays r all.1, each_stays e f (suc n) rs stays all.2)

-- ---- entries that are none of a root's

-- of none from this number on
others_stay : (e : Endpoint) (x : Entry) (n : ℕ) (rs : List Run) → ((k : ℕ) → n ≤ k → is_of_root k x ≡ false) → AreRootsFrom e n rs → AreRootsFrom (with_entry x e) n rs
others_stay e x n [] other all = tt
others_stay e x n (r ∷ rs) other all =
    let at = all.0 in
    (all.0, other_stays e x r (other r.root (omega (arith, at))) all.1, others_stay e x (suc n) rs (λ k more. other k (omega (arith, more))) all.2)

pub roots_stay : (e : Endpoint) (x : Entry) (runs : List Run) → ((k : ℕ) → is_of_root k x ≡ false) → AreRoots e runs → AreRoots (with_entry x e) runs
roots_stay e x runs other all = others_stay e x 1 runs (λ k more. other k) all

-- ---- the lowest root that moves

not_own : (k : ℕ) (x : Entry) (b : Bool) → is_of_root k x ≡ b → (is_of_root k x ≡ true → ⊥) → is_of_root k x ≡ false
not_own k x true is none = absurd (none is)
not_own k x false is none = is

-- what a move leaves; its entry is none of those before it
record MovesSo (e : Endpoint) (n : ℕ) (m : RootMove) : Type 0 where
  behind : AreRootsFrom (with_any m.entry e) n m.runs
  later : (x : Entry) → m.entry ≡ Some x → (k : ℕ) → is_of_root k x ≡ true → n ≤ k

same_entry : (x y : Entry) → ◌≡◌ {A = Option Entry} (Some x) (Some y) → x ≡ y
same_entry x y is = cc

same_move : (a b : RootMove) → ◌≡◌ {A = Option RootMove} (Some a) (Some b) → a ≡ b
same_move a b is = cc

stays_by : (e : Endpoint) (o : Option Entry) (r : Run) → ((x : Entry) → o ≡ Some x → is_of_root r.root x ≡ false) → IsRunAt e r → IsRunAt (with_any o e) r
stays_by e None r other run = run
stays_by e (Some x) r other run = other_stays e x r (other x refl) run

all_by : (e : Endpoint) (o : Option Entry) (n : ℕ) (rs : List Run) → ((x : Entry) → o ≡ Some x → (k : ℕ) → n ≤ k → is_of_root k x ≡ false) → AreRootsFrom e n rs → AreRootsFrom (with_any o e) n rs
all_by e None n rs other all = all
all_by e (Some x) n rs other all = others_stay e x n rs (other x refl) all

own_of : (root : ℕ) (o : Option Entry) → IsOwn root o → (x : Entry) → o ≡ Some x → (k : ℕ) → is_of_root k x ≡ true → k ≡ root
own_of root None own x is k mine = absurd (cc)
own_of root (Some y) own x is k mine = own k (ap (is_of_root k) (same_entry y x is) ∙ mine)

module _ (e : Endpoint) (known : IsHistory e) where
  moved_so : (n : ℕ) (r : Run) (rs : List Run) (following : Run) (o : Option Entry) → AreRootsFrom e n (r ∷ rs) → root_moves (setting_at e) (side_at e) r ≡ moved following o
      → MovesSo e n (record { runs = following ∷ rs; entry = o })
  moved_so n r rs following o all is =
      let at = all.0 in
      let does : Does (next_move e r) e (with_any o e) following = record { entry = o; moves = is; entered = refl } in
      let own : (x : Entry) → o ≡ Some x → (k : ℕ) → is_of_root k x ≡ true → k ≡ r.root = own_of r.root o (move_own (setting_at e) (side_at e) r following o is) in
      let others : (x : Entry) → o ≡ Some x → (k : ℕ) → suc n ≤ k → is_of_root k x ≡ false =
      λ x at_x k more. not_own k x (is_of_root k x) refl (λ mine. let same = own x at_x k mine in omega (arith, same, at, more)) in
      record {
        behind = ((same_run e known (with_any o e) r following answer.Moved does).root ∙ at, run_behind e known (with_any o e) r following answer.Moved does all.1, all_by e o (suc n) rs others all.2);
        later = λ x at_x k mine. let same = own x at_x k mine in omega (arith, same, at);
      }

  behind_so : (n : ℕ) (r : Run) (rs : List Run) (m : RootMove) → AreRootsFrom e n (r ∷ rs) → MovesSo e (suc n) m → MovesSo e n (record m { runs = r ∷ m.runs })
  behind_so n r rs m all so =
      let at = all.0 in
      record {
        behind = (all.0, stays_by e m.entry r (λ x is. not_own r.root x (is_of_root r.root x) refl (λ mine. let over = so.later x is r.root mine in omega (arith, over, at))) all.1, so.behind);
        later = λ x is k mine. let over = so.later x is k mine in omega (arith, over);
      }

  front_so : (n : ℕ) (r : Run) (rs : List Run) (m : RootMove) (o : Option RootMove) → AreRootsFrom e n (r ∷ rs) → ((y : RootMove) → o ≡ Some y → MovesSo e (suc n) y) → in_front r o ≡ Some m → MovesSo e n m
  front_so n r rs m None all so is = absurd (cc)
  front_so n r rs m (Some y) all so is = subst (MovesSo e n) (same_move (record y { runs = r ∷ y.runs }) m is) (behind_so n r rs y all (so y refl))

  first_so : (n : ℕ) (r : Run) (rs : List Run) (m : RootMove) (o : Option RootMove) (y : Moved) → AreRootsFrom e n (r ∷ rs) → root_moves (setting_at e) (side_at e) r ≡ y
      → ((z : RootMove) → o ≡ Some z → MovesSo e (suc n) z) → first_or_later r rs y o ≡ Some m → MovesSo e n m
  first_so n r rs m o (moved following x) all at so is = subst (MovesSo e n) (same_move (record { runs = following ∷ rs; entry = x }) m is) (moved_so n r rs following x all at)
  first_so n r rs m o waiting all at so is = front_so n r rs m o all so is
  first_so n r rs m o finished all at so is = front_so n r rs m o all so is

  root_so : (n : ℕ) (rs : List Run) (m : RootMove) → AreRootsFrom e n rs → root_move (setting_at e) (side_at e) rs ≡ Some m → MovesSo e n m
  unfolding root_move
  root_so n [] m all is = absurd (cc)
  root_so n (r ∷ rs) m all is =
      first_so n r rs m (root_move (setting_at e) (side_at e) rs) (root_moves (setting_at e) (side_at e) r) all refl (λ z there. root_so (suc n) rs z all.2 there) is

  -- ---- what is done first

  limit_other : (b : Bool) (tid : List ℕ) (k : ℕ) → is_of_root k (if b then full else applied tid) ≡ false
  limit_other true tid k = refl
  limit_other false tid k = refl

  pub did_roots : (f : Endpoint) (runs next : List Run) → Did e f runs next → AreRoots e runs → AreRoots f next
  did_roots f runs next did all = subst (λ (z : Endpoint). AreRoots z next) (sym did.entered) (by_first did.first)
    where
      by_first : {later : List Run} {x : Option Entry} → First (setting_at e) (side_at e) runs later x → AreRoots (with_any x e) later
      by_first (of_method tid ready) = roots_stay e _ runs (limit_other (has_entries (side_at e)) tid) all
      by_first (of_root ready later x moves) = (root_so 1 runs (record { runs = later; entry = x }) all moves).behind
      by_first (of_object ready still n goes) = roots_stay e (reaped n) runs (λ k. refl) all
      by_first (of_bytes ready still kept b more waits) = roots_stay e (drained (b ∷ more)) runs (λ k. refl) all

-- ---- pieces, and the end of the input

pub fed_roots : (a : Fed) (e f : Endpoint) (bytes : List ℕ) (runs : List Run) → f ≡ fed_by a bytes e → AreRoots e runs → AreRoots f runs
fed_roots a e f bytes runs is all = each_stays e f 1 runs (fed_stays a e f bytes is) all

pub ended_roots : (e f : Endpoint) (runs : List Run) → f ≡ with_entry ended e → AreRoots e runs → AreRoots f runs
ended_roots e f runs is all = subst (λ (z : Endpoint). AreRoots z runs) (sym is) (roots_stay e ended runs (λ k. refl) all)

-- ---- the beginning

manager_exports : is_export_name manager_name ≡ true
unfolding is_export_name
manager_exports = refl

first_from : (e : Endpoint) (n : ℕ) (ts : List (List RootStatement)) → e.entries ≡ [] → 1 ≤ n → n + length ts ≤ suc (length (setting_at e).plan.threads) → AreRootsFrom e n (first_runs n ts)
unfolding first_runs opening_run
first_from e n [] none some fits = tt
first_from e n (t ∷ ts) none some fits =
    let low : 0 < n = omega (arith, some) in
    let high : n ≤ length (setting_at e).plan.threads = omega (arith, fits) in
    let of_plan : is_root (setting_at e) n ≡ true = rw (lt-ltb 0 n low, le-ltb (length (setting_at e).plan.threads) n high) refl in
    (refl, record { root = of_plan; stands = subst (λ es. StandsFor (setting_at e) es (opening_run n manager_name)) (sym none) (begun n manager_name); named = manager_exports }, first_from e (suc n) ts none (omega arith) (omega (arith, fits)))

pub roots_begin : (e : Endpoint) (runs : List Run) → e.entries ≡ [] → runs ≡ first_runs 1 (setting_at e).plan.threads → AreRoots e runs
roots_begin e runs none is = subst (AreRoots e) (sym is) (first_from e 1 (setting_at e).plan.threads none (omega arith) (omega arith))
