-- The parts of a turn: what each did is the first thing that can be done.
use Rattle.std.proofs.Common.{◌≡◌, refl, sym, ap, subst, ◌∙◌, ◌⊎◌, inl, inr, ℕ, suc, ◌+◌, ◌<◌, Bool, true, false, List, [], ◌∷◌, length, map, take, get_or, slice_set, IfSome, IfNone, is_some, ◌==◌, if◌then◌else◌, Option, None, Some, Result, Ok, Err, arith}
use Rattle.std.proofs.lemmas.Bool.{false≢true, true≢false}
use Rattle.std.proofs.KnownBytes.{Appends-nil}
use Rattle.std.specs.Io.KnownBytes.{Appends}
use Rattle.uno_io.specs.Fronts.{AppendsFront}
use Rattle.plan_model.specs.Roots.{Run}
use Rattle.bridge_endpoint.specs.Entering.{draining}
use Rattle.bridge_endpoint.specs.Journals.{Endpoint, setting_at, side_at, with_entry}
use Rattle.bridge_model.specs.Answers.{ready_at, may_reap, drained_next}
use Rattle.bridge_model.specs.Entries.{Entry, applied, drained, full, reaped}
use Rattle.bridge_model.specs.Orders.{root_move, or_full, most_drained}
use Rattle.bridge_model.specs.Steps.{has_entries}
use Rattle.bridge_model.specs.RootRuns.{Moved, waiting, finished}
use Rattle.bridge_core.specs.Moving.{Does, StepsSo, next_move}
use Rattle.bridge_core.specs.declared.moved.RootMoved.{RootMoved}
use Rattle.bridge_core.specs.declared.moved.RootMoved.TheVariants as answer
use Rattle.answering.specs.Doing.{First, of_method, of_root, of_object, of_bytes, bytes_with}
use Rattle.answering.specs.Ends.{Applies, Moves, Drains, DrainsFirst, Did, DoesFirst}
use Rattle.answering.specs.declared.stopped.Halted.{Halted}
use Rattle.answering.specs.declared.stopped.Halted.TheVariants as halted
use Rattle.answering.proofs.RootLaws.{DoesNotMove, entry_is_plain, move_is_plain, others_drain}
use Rattle.answering.proofs.RowLaws.{moves_at, same_at, none_at}

-- ---- roots

module _ {A : Type 0} (of : A → Run) (e l f : Endpoint) (olds : List Run) (items : List A) (i : ℕ) (was now : A) (same : l ≡ e) (all : map of items ≡ olds)
    (none : root_move (setting_at e) (side_at e) (take i olds) ≡ None) (within : i < length items) (is : was ≡ get_or items i was) where
  none_before : root_move (setting_at e) (side_at e) (take i (map of items)) ≡ None
  none_before = ap (λ rs. root_move (setting_at e) (side_at e) (take i rs)) all ∙ none

  -- the one at the place moved
  pub moves_there : Does (next_move l (of was)) l f (of now) → Moves e f olds (map of (slice_set items i now))
  moves_there does =
      let here = subst (λ (z : Endpoint). Does (next_move z (of was)) z f (of now)) same does in
      record {
        entry = here.entry;
        moves =
            subst
            (λ rs. root_move (setting_at e) (side_at e) rs ≡ Some (record { runs = map of (slice_set items i now); entry = here.entry }))
            all
            (moves_at of items i was now within is (setting_at e) (side_at e) here.entry none_before here.moves);
        entered = here.entered;
      }

  rests_by : (m : Moved) → (m ≡ waiting) ⊎ (m ≡ finished) → DoesNotMove m
  rests_by m (inl waits) = subst DoesNotMove (sym waits) tt
  rests_by m (inr over) = subst DoesNotMove (sym over) tt

  -- or it did not
  record Rests : Type 0 where
    pub still : (next_move l (of was) ≡ waiting) ⊎ (next_move l (of was) ≡ finished)
    pub run : of now ≡ of was
    pub end : f ≡ l

  rested : (r : RootMoved) → (r ≡ answer.Waiting) ⊎ (r ≡ answer.Finished) → StepsSo l f (of was) (of now) r → Rests
  rested r (inl at) steps = let so = subst (StepsSo l f (of was) (of now)) at steps in record { still = inl so.0; run = so.1; end = so.2 }
  rested r (inr at) steps = let so = subst (StepsSo l f (of was) (of now)) at steps in record { still = inr so.0; run = so.1; end = so.2 }

  pub end_there : (r : RootMoved) → (r ≡ answer.Waiting) ⊎ (r ≡ answer.Finished) → StepsSo l f (of was) (of now) r → f ≡ e
  end_there r at steps = (rested r at steps).end ∙ same

  pub runs_there : (r : RootMoved) → (r ≡ answer.Waiting) ⊎ (r ≡ answer.Finished) → StepsSo l f (of was) (of now) r → map of (slice_set items i now) ≡ olds
  runs_there r at steps = same_at of items i was now within is (rested r at steps).run ∙ all

  pub none_there : (r : RootMoved) → (r ≡ answer.Waiting) ⊎ (r ≡ answer.Finished) → StepsSo l f (of was) (of now) r
      → root_move (setting_at e) (side_at e) (take (i + 1) olds) ≡ None
  none_there r at steps =
      let still = (rested r at steps).still in
      let rests = rests_by (next_move l (of was)) still in
      let here = subst (λ (z : Endpoint). DoesNotMove (next_move z (of was))) same rests in
      let next : suc i ≡ i + 1 = omega arith in
      subst (λ rs. root_move (setting_at e) (side_at e) (take (i + 1) rs) ≡ None) all
      (subst (λ k. root_move (setting_at e) (side_at e) (take k (map of items)) ≡ None) next
      (none_at of items i was now within is (setting_at e) (side_at e) none_before here))

-- ---- bytes

-- bytes that were drained, and are some, are taken, or a front of them
pub drains_and_takes : (e f : Endpoint) (bytes : List ℕ) (old new : Option (List ℕ)) → bytes ≡ drained_next (setting_at e) most_drained (side_at e) → f ≡ draining bytes e
    → (bytes ≡ [] → ⊥) → Appends old new bytes → (out : Drains e f) × Appends old new (out.byte ∷ out.more)
drains_and_takes e f [] old new is entered some taken = absurd (some refl)
drains_and_takes e f (b ∷ more) old new is entered some taken = (record { byte = b; more = more; waits = sym is; entered = entered }, taken)

pub drains_and_fails : (e f : Endpoint) (bytes : List ℕ) (old new : Option (List ℕ)) → bytes ≡ drained_next (setting_at e) most_drained (side_at e) → f ≡ draining bytes e
    → (bytes ≡ [] → ⊥) → AppendsFront old new bytes → (out : Drains e f) × AppendsFront old new (out.byte ∷ out.more)
drains_and_fails e f [] old new is entered some taken = absurd (some refl)
drains_and_fails e f (b ∷ more) old new is entered some taken = (record { byte = b; more = more; waits = sym is; entered = entered }, taken)

-- ---- the first of them

pub did_method : (e f : Endpoint) (runs : List Run) (out : Option (List ℕ)) → Applies e f → (did : Did e f runs runs) × Appends out out (bytes_with did.entry)
did_method e f runs out so =
    (record { entry = Some (or_full (side_at e) (applied so.tid)); first = of_method so.tid so.ready; entered = so.entered }, nothing_out)
  where
    none_drained : (b : Bool) → Appends out out (bytes_with (Some (if b then full else applied so.tid)))
    none_drained true = Appends-nil out
    none_drained false = Appends-nil out

    nothing_out : Appends out out (bytes_with (Some (or_full (side_at e) (applied so.tid))))
    nothing_out = none_drained (has_entries (side_at e))

root_drains : (e : Endpoint) (runs next : List Run) (x : Option Entry) (out : Option (List ℕ)) → root_move (setting_at e) (side_at e) runs ≡ Some (record { runs = next; entry = x })
    → Appends out out (bytes_with x)
root_drains e runs next None out moves = Appends-nil out
root_drains e runs next (Some y) out moves =
    subst (Appends out out) (sym (others_drain y (entry_is_plain y (move_is_plain (setting_at e) (side_at e) runs _ moves)))) (Appends-nil out)

-- no method is ready, and nothing has changed
pub did_root : (e l f : Endpoint) (runs next : List Run) (out : Option (List ℕ)) → (ready_at (side_at e) 0 ≡ None) × (l ≡ e) → Moves l f runs next
    → (did : Did e f runs next) × Appends out out (bytes_with did.entry)
did_root e l f runs next out past moved =
    let here = subst (λ (z : Endpoint). Moves z f runs next) past.1 moved in
    (record { entry = here.entry; first = of_root past.0 next here.entry here.moves; entered = here.entered }, root_drains e runs next here.entry out here.moves)

-- nor does a root move
pub record IsPast (e l : Endpoint) (runs next : List Run) : Type 0 where
  pub ready : ready_at (side_at e) 0 ≡ None
  pub still : root_move (setting_at e) (side_at e) runs ≡ None
  pub same_runs : next ≡ runs
  pub same : l ≡ e

pub past_roots : (e l k : Endpoint) (runs next : List Run) → (ready_at (side_at e) 0 ≡ None) × (l ≡ e) → (root_move (setting_at l) (side_at l) runs ≡ None) × (next ≡ runs) × (k ≡ l)
    → IsPast e k runs next
past_roots e l k runs next past still =
    record {
      ready = past.0;
      still = subst (λ (z : Endpoint). root_move (setting_at z) (side_at z) runs ≡ None) past.1 still.0;
      same_runs = still.1;
      same = still.2 ∙ past.1;
    }

pub did_object : (e l f : Endpoint) (runs next : List Run) (out : Option (List ℕ)) (r : Option ℕ) → IsPast e l runs next → r ≡ may_reap (setting_at l) (side_at l)
    → IfSome r (λ n. f ≡ with_entry (reaped n) l) → is_some r ≡ true → (did : Did e f runs next) × Appends out out (bytes_with did.entry)
did_object e l f runs next out None past lowest entered some = absurd (false≢true some)
did_object e l f runs next out (Some n) past lowest entered some = (
  record {
    entry = Some (reaped n);
    first =
        subst (λ rs. First (setting_at e) (side_at e) runs rs (Some (reaped n))) (sym past.same_runs)
        (of_object past.ready past.still n (sym (subst (λ (z : Endpoint). Some n ≡ may_reap (setting_at z) (side_at z)) past.same lowest)));
    entered = entered ∙ ap (with_entry (reaped n)) past.same;
  },
  Appends-nil out,
)

-- nor may an object go
pub drained_first : (e l k f : Endpoint) (runs next : List Run) (old new : Option (List ℕ)) (r : Option ℕ) (x : Result Bool Halted) → IsPast e l runs next
    → r ≡ may_reap (setting_at l) (side_at l) → IfNone r (k ≡ l) → is_some r ≡ false → DrainsFirst k f old new x → DoesFirst e f runs next old new x
drained_first e l k f runs next old new (Some n) x past lowest kept none drains = absurd (true≢false none)
drained_first e l k f runs next old new None x past lowest kept none drains = by_answer x (subst (λ (z : Endpoint). DrainsFirst z f old new x) (kept ∙ past.same) drains)
  where
    reaps_none : may_reap (setting_at e) (side_at e) ≡ None
    reaps_none = sym (subst (λ (z : Endpoint). None ≡ may_reap (setting_at z) (side_at z)) past.same lowest)

    did_bytes : (out : Drains e f) → Did e f runs next
    did_bytes out =
        record {
          entry = Some (drained (out.byte ∷ out.more));
          first =
              subst (λ rs. First (setting_at e) (side_at e) runs rs (Some (drained (out.byte ∷ out.more)))) (sym past.same_runs)
              (of_bytes past.ready past.still reaps_none out.byte out.more out.waits);
          entered = out.entered;
        }

    by_answer : (x : Result Bool Halted) → DrainsFirst e f old new x → DoesFirst e f runs next old new x
    by_answer (Ok true) so = (did_bytes so.0, so.1)
    by_answer (Ok false) so = (record { methods = past.ready; roots = past.still; objects = reaps_none; bytes = so.0 }, past.same_runs, so.1, so.2)
    by_answer (Err halted.WriteFault) so = (did_bytes so.0, so.1)
    by_answer (Err halted.NoMemory) so = so

-- bytes that are some
pub some_bytes : (xs : List ℕ) (n : ℕ) (empty : Bool) → n ≡ length xs → empty ≡ (n == 0) → empty ≡ false → xs ≡ [] → ⊥
some_bytes xs n empty long is some none = let zero : length xs ≡ 0 = ap length none in grind arith
