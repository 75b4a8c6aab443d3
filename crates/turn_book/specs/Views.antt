-- What a pass knows, as a contract sees it.
use Rattle.std.specs.Prelude.{ℕ, List, Option}
use Rattle.turn_book.specs.declared.view.View.{View}
use Rattle.turn_book.specs.declared.view.Stage.{Stage}

module _ {I F : Type 0} where
  abbrev pub view : Option F → List I → List (ℕ × List I) → ℕ → Stage → View I F
  view f s o r st = record { fixed = f; seen = s; own = o; room = r; stage = st }

  -- the same view at another stage
  abbrev pub at_stage : View I F → Stage → View I F
  at_stage v st = view v.fixed v.seen v.own v.room st
