-- What an outcome does.
use Rattle.std.proofs.Common.{◌≡◌, refl, sym, ap, ◌∙◌, ℕ, List, false, true, Option, None, Some, IsSome, option_map}
use Rattle.std.specs.Option.{is_some}
use Rattle.plan_model.specs.Roots.{Run}
use Rattle.plan_model.specs.Statements.{RootStatement}
use Rattle.bridge_model.specs.Entries.{took}
use Rattle.bridge_model.specs.RootRuns.{root_moves, finished, takes_at, takes_outcome, outcome_text, statement_at, line_of, over_with}
use Rattle.bridge_model.specs.Roots.{outcome_in}
use Rattle.bridge_model.specs.Settings.{Setting}
use Rattle.bridge_model.specs.Sides.{Outcome, Side, state_of}
use Rattle.bridge_endpoint.specs.Journals.{Endpoint, setting_at, side_at, with_entry}
use Rattle.bridge_core.specs.Moving.{Does, next_move}
use Rattle.bridge_core.proofs.MoveLemmas.{entered}
use Rattle.bridge_core.proofs.StateLemmas.{answered_does}

pub finished_where : (g : Setting) (s : Side) (r : Run) → IsSome (outcome_in (state_of r.root s.tables.roots)) → statement_at g r ≡ None → root_moves g s r ≡ finished
finished_where g s r has none = by_outcome (outcome_in (state_of r.root s.tables.roots)) refl has
  where
    by_outcome : (o : Option Outcome) → outcome_in (state_of r.root s.tables.roots) ≡ o → IsSome o → root_moves g s r ≡ finished
    by_outcome (Some o) is there = answered_does g s r o is ∙ ap (takes_at g r o) none
    by_outcome None is there = let bad : false ≡ true = there in absurd (cc)

line_same : (a b : Run) (t : List ℕ) → b.root ≡ a.root → b.place ≡ a.place → line_of a t ≡ line_of b t
unfolding line_of
line_same a b t root place = rw (root, place) refl

pub taken_does : (e f : Endpoint) (before mid after : Run) (o : Outcome) (s : RootStatement) (line : List ℕ) → outcome_in (state_of before.root (side_at e).tables.roots) ≡ Some o
    → statement_at (setting_at e) before ≡ Some s → f ≡ with_entry (took before.root) e → line ≡ line_of before (outcome_text (setting_at e).registry s o) → mid ≡ takes_outcome s o before
    → mid.root ≡ before.root → mid.place ≡ before.place → ((t : List ℕ) → line ≡ line_of mid t → after ≡ over_with t mid) → Does (next_move e before) e f after
taken_does e f before mid after o s line has at made told becomes root place over =
    let t = outcome_text (setting_at e).registry s o in
    entered (next_move e before) e f (took before.root) (over_with t (takes_outcome s o before)) after (answered_does (setting_at e) (side_at e) before o has ∙ ap (takes_at (setting_at e) before o) at)
    (over t (told ∙ line_same before mid t root place) ∙ ap (over_with t) becomes) made

pub none_there : {A B : Type 0} (f : A → B) (o : Option A) (q : Option B) → option_map f o ≡ q → is_some o ≡ false → q ≡ None
none_there f None q is none = sym is
none_there f (Some x) q is none = let bad : true ≡ false = none in absurd (cc)
