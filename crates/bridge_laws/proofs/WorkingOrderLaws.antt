-- What is done before feeding keeps an end in the order, and where nothing can be done it is done.
use Rattle.std.proofs.Common.{◌≡◌, ap, ◌∙◌, ℕ, true, false, ◌||◌, List, [], ◌∷◌, ◌++◌, Option, None, Some}
use Rattle.std.proofs.lemmas.Bool.{both_ways, or_from}
use Rattle.plan_model.specs.Roots.{Run}
use Rattle.bridge_model.specs.Answers.{ready_at, may_reap, drained_next}
use Rattle.bridge_model.specs.Entries.{Entry, applied, reaped, drained, full}
use Rattle.bridge_model.specs.Histories.{Told, nothing_told, tells}
use Rattle.bridge_model.specs.Orders.{RootMove, first_runs, root_move, or_full, most_drained, IsAnswered}
use Rattle.bridge_model.specs.Settings.{Setting}
use Rattle.bridge_model.specs.Sides.{stands}
use Rattle.bridge_model.specs.Steps.{has_entries, has_fed}
use Rattle.bridge_laws.specs.Working.{AllIsDone, IsInOrder, IsDone}
use Rattle.bridge_laws.proofs.UnreadLaws.{root_held, drained_held}
use Rattle.bridge_laws.proofs.PartLaws.{may_be_fed, behind}
use Rattle.bridge_laws.proofs.WorkingLaws.{here, reaches_first, done_at, once_method, once_root, once_quiet_root, once_object, once_bytes, once_over, once_full, stands_whole, stands_on, InPart, by_place}

pub begins_in_order : (g : Setting) (bytes : List ℕ) → IsInOrder g bytes (nothing_told g) (first_runs 1 g.plan.threads) bytes
begins_in_order g bytes = stands_whole g bytes (nothing_told g) (first_runs 1 g.plan.threads) bytes (reaches_first g bytes)

-- ---- behind a part that is fed nothing else can be done

none_there : {A X : Type 0} (o : Option A) (x : A) → o ≡ None → o ≡ Some x → X
none_there o x none some = absurd (no_way none some)
  where
    no_way : o ≡ None → o ≡ Some x → ⊥
    no_way none some = cc

no_bytes : {X : Type 0} (bytes : List ℕ) (b : ℕ) (more : List ℕ) → bytes ≡ [] → bytes ≡ b ∷ more → X
no_bytes bytes b more none some = absurd (no_way none some)
  where
    no_way : bytes ≡ [] → bytes ≡ b ∷ more → ⊥
    no_way none some = cc

no_root : {X : Type 0} (g : Setting) (runs : List Run) (rest : List ℕ) (x : Told) (b : ℕ) (part : List ℕ) (move : RootMove) → InPart g runs rest x b part
    → root_move g (behind x (b ∷ part)).side runs ≡ Some move → X
no_root g runs rest x b part move part_fed =
    none_there (root_move g (behind x (b ∷ part)).side runs) move (root_held g (x.side.incoming.held ++ b ∷ part) x.side runs ∙ part_fed.done.roots)

-- ---- what is done first

pub method_keeps : (g : Setting) (bytes : List ℕ) (t u : Told) (runs : List Run) (rest : List ℕ) → IsInOrder g bytes t runs rest → (tid : List ℕ)
    → ready_at t.side 0 ≡ Some tid → tells g t (or_full t.side (applied tid)) ≡ Some u → IsInOrder g bytes u runs rest
method_keeps g bytes t u runs rest is tid =
    by_place
    (λ z. ready_at z.side 0 ≡ Some tid → tells g z (or_full z.side (applied tid)) ≡ Some u → IsInOrder g bytes u runs rest)
    is
    (λ there ready told. stands_on g bytes (here t runs rest) u runs rest there (once_method g t u runs rest tid ready told))
    (λ x b part there part_fed ready told. none_there (ready_at x.side 0) tid part_fed.done.methods ready)

pub root_keeps : (g : Setting) (bytes : List ℕ) (t u : Told) (runs next : List Run) (rest : List ℕ) → IsInOrder g bytes t runs rest → ready_at t.side 0 ≡ None
    → (e : Entry) → root_move g t.side runs ≡ Some (record { runs = next; entry = Some e }) → tells g t e ≡ Some u → IsInOrder g bytes u next rest
root_keeps g bytes t u runs next rest is ready e =
    by_place
    (λ z. ready_at z.side 0 ≡ None → root_move g z.side runs ≡ Some (record { runs = next; entry = Some e }) → tells g z e ≡ Some u → IsInOrder g bytes u next rest)
    is
    (λ there none moves told. stands_on g bytes (here t runs rest) u next rest there (once_root g t u runs next rest e none moves told))
    (λ x b part there part_fed none moves told. no_root g runs rest x b part _ part_fed moves)
    ready

pub quiet_root_keeps : (g : Setting) (bytes : List ℕ) (t : Told) (runs next : List Run) (rest : List ℕ) → IsInOrder g bytes t runs rest → ready_at t.side 0 ≡ None
    → root_move g t.side runs ≡ Some (record { runs = next; entry = None }) → IsInOrder g bytes t next rest
quiet_root_keeps g bytes t runs next rest is =
    by_place
    (λ z. ready_at z.side 0 ≡ None → root_move g z.side runs ≡ Some (record { runs = next; entry = None }) → IsInOrder g bytes z next rest)
    is
    (λ there none moves. stands_on g bytes (here t runs rest) t next rest there (once_quiet_root g t runs next rest none moves))
    (λ x b part there part_fed none moves. no_root g runs rest x b part _ part_fed moves)

pub object_keeps : (g : Setting) (bytes : List ℕ) (t u : Told) (runs : List Run) (rest : List ℕ) → IsInOrder g bytes t runs rest → ready_at t.side 0 ≡ None
    → root_move g t.side runs ≡ None → (n : ℕ) → may_reap g t.side ≡ Some n → tells g t (reaped n) ≡ Some u → IsInOrder g bytes u runs rest
object_keeps g bytes t u runs rest is ready still n =
    by_place
    (λ z. ready_at z.side 0 ≡ None → root_move g z.side runs ≡ None → may_reap g z.side ≡ Some n → tells g z (reaped n) ≡ Some u → IsInOrder g bytes u runs rest)
    is
    (λ there none stay goes told. stands_on g bytes (here t runs rest) u runs rest there (once_object g t u runs rest n none stay goes told))
    (λ x b part there part_fed none stay goes told. none_there (may_reap g x.side) n part_fed.done.objects goes)
    ready
    still

pub bytes_keep : (g : Setting) (bytes : List ℕ) (t u : Told) (runs : List Run) (rest : List ℕ) → IsInOrder g bytes t runs rest → ready_at t.side 0 ≡ None
    → root_move g t.side runs ≡ None → may_reap g t.side ≡ None → (b : ℕ) (more : List ℕ) → drained_next g most_drained t.side ≡ b ∷ more
    → tells g t (drained (b ∷ more)) ≡ Some u → IsInOrder g bytes u runs rest
bytes_keep g bytes t u runs rest is ready still kept b more =
    by_place
    (λ z. ready_at z.side 0 ≡ None → root_move g z.side runs ≡ None → may_reap g z.side ≡ None → drained_next g most_drained z.side ≡ b ∷ more
    → tells g z (drained (b ∷ more)) ≡ Some u → IsInOrder g bytes u runs rest)
    is
    (λ there none stay keep waits told. stands_on g bytes (here t runs rest) u runs rest there (once_bytes g t u runs rest b more none stay keep waits told))
    (λ x c part there part_fed none stay keep waits told.
    no_bytes _ b more (drained_held g (x.side.incoming.held ++ c ∷ part) most_drained x.side ∙ part_fed.done.bytes) waits)
    ready
    still
    kept

-- ---- a limit, and the end

pub full_keeps : (g : Setting) (bytes : List ℕ) (t u : Told) (runs : List Run) (b : ℕ) (rest : List ℕ) → IsInOrder g bytes t runs (b ∷ rest)
    → AllIsDone g t.side runs → stands t.side ≡ true → (has_entries t.side || has_fed t.side) ≡ true → tells g t full ≡ Some u → IsInOrder g bytes u runs (b ∷ rest)
full_keeps g bytes t u runs b rest is =
    by_place
    (λ z. AllIsDone g z.side runs → stands z.side ≡ true → (has_entries z.side || has_fed z.side) ≡ true → tells g z full ≡ Some u → IsInOrder g bytes u runs (b ∷ rest))
    is
    (λ there done standing limit told. stands_on g bytes (here t runs (b ∷ rest)) u runs (b ∷ rest) there (once_full g t u runs b rest done standing limit told))
    (λ x d part there part_fed done standing limit told.
    absurd (both_ways _ (or_from (has_entries x.side) (has_fed (behind x (d ∷ part)).side) (may_be_fed g x.side (d ∷ part) part_fed.allowed).few part_fed.more) limit))

pub order_is_done : (g : Setting) (bytes : List ℕ) (t : Told) (runs : List Run) (rest : List ℕ) → IsInOrder g bytes t runs rest → AllIsDone g t.side runs
    → stands t.side ≡ false → IsDone g bytes t
order_is_done g bytes t runs rest is =
    by_place
    (λ z. AllIsDone g z.side runs → stands z.side ≡ false → IsDone g bytes z)
    is
    (λ there done gone. done_at g bytes (here t runs rest) there (once_over g t runs rest done gone))
    (λ x d part there part_fed done gone. absurd (both_ways (stands x.side) gone (may_be_fed g x.side (d ∷ part) part_fed.allowed).standing))

pub done_is_answered : (g : Setting) (bytes : List ℕ) (t : Told) → IsDone g bytes t → IsAnswered g bytes t.bytes_out
done_is_answered g bytes t is = record { steps = is.steps; last = is.last; works = is.works; written = ap (λ z. z.bytes_out) is.told }
