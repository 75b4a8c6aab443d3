-- Moves that were made, or were not.
use Rattle.std.proofs.Common.{◌≡◌, refl, sym, ap, ◌∙◌, inl, None, Some, Result, Ok, Err, OnOk, OnErr}
use Rattle.plan_model.specs.Roots.{Run}
use Rattle.bridge_model.specs.Entries.{Entry}
use Rattle.bridge_model.specs.RootRuns.{Moved, moved, without_entry}
use Rattle.bridge_endpoint.specs.Journals.{Endpoint, with_entry}
use Rattle.bridge_core.specs.Moving.{Does, DoesOr, IsLeft}

-- a move with no entry
pub silent : (m : Moved) (e : Endpoint) (next after : Run) → m ≡ without_entry next → after ≡ next → Does m e e after
silent m e next after is same = record { entry = None; moves = is ∙ ap without_entry (sym same); entered = refl }

-- a move with an entry
pub entered : (m : Moved) (e f : Endpoint) (x : Entry) (next after : Run) → m ≡ moved next (Some x) → after ≡ next → f ≡ with_entry x e → Does m e f after
entered m e f x next after is same made = record { entry = Some x; moves = is ∙ ap (λ r. moved r (Some x)) (sym same); entered = made }

-- nothing was changed
pub left : (e : Endpoint) (before after : Run) → after ≡ before → IsLeft e e before after
left e before after same = record { run = same; bridge = inl refl }

-- a statement that is over with a line, or was not
pub by_line : {X : Type 0} (m : Moved) (e : Endpoint) (before after next : Run) (r : Result Unit X) → m ≡ without_entry next → OnOk r (after ≡ next) → OnErr r (after ≡ before)
    → DoesOr m e e before after r
by_line m e before after next (Ok u) is done kept = silent m e next after is done
by_line m e before after next (Err x) is done kept = left e before after kept
