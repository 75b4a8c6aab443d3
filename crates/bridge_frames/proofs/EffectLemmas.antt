-- Effects that leave frames or tables as they are.
use Rattle.std.proofs.Common.{◌≡◌, ℕ, List, ◌∷◌, sym, ap, ◌∙◌}
use Rattle.uno_model.specs.Values.{Ref, null, Plain}
use Rattle.plan_model.specs.Asking.{Effect, skips, disposes}
use Rattle.plan_model.specs.Frames.{Body, Frame, body, Stack, frames_of}
use Rattle.plan_model.specs.Holdings.{goes_on, held_by, let_go_by, variables_after}
use Rattle.bridge_model.specs.Applying.{applies, applies_call, applies_query}
use Rattle.bridge_model.specs.References.{gains_all, lets_go_all}
use Rattle.bridge_model.specs.Settings.{Setting}
use Rattle.bridge_model.specs.Sides.{Tables}
use Rattle.bridge_model.specs.Stacks.{puts_frames}
use Rattle.bridge_tables.specs.EndTables.{EndTables}
use Rattle.bridge_frames.specs.Unwinding.{stacks_by, tables_by}
use Rattle.bridge_frames.proofs.StackLemmas.{puts_same}

module _ (g : Setting) (tid : List ℕ) (ss : List Stack) (f : Frame) (fs : List Frame) (t : Tables) (r : Ref) (all : frames_of tid ss ≡ f ∷ fs) (none : r ≡ null) where
  -- null is not called
  pub null_called : (function : ℕ) (args : List Plain) → ss ≡ stacks_by tid (applies_call g tid r function args (f ∷ fs) t) ss
  null_called function args = sym (puts_same tid f fs ss all) ∙ ap (λ q. stacks_by tid (applies_call g tid q function args (f ∷ fs) t) ss) (sym none)

  pub null_queried : (wanted : List ℕ) → ss ≡ stacks_by tid (applies_query g tid r wanted (f ∷ fs) t) ss
  null_queried wanted = sym (puts_same tid f fs ss all) ∙ ap (λ q. stacks_by tid (applies_query g tid q wanted (f ∷ fs) t) ss) (sym none)

module _ (g : Setting) (tid : List ℕ) (b : Body) (fs : List Frame) (x : Effect) where
  pub skipped_stacks : (t : Tables) (ss after : List Stack) → x ≡ skips → after ≡ puts_frames tid (body (goes_on b.variables b) ∷ fs) ss → after ≡ stacks_by tid (applies g tid b fs x t) ss
  unfolding applies variables_after
  skipped_stacks t ss after is here = here ∙ ap (λ y. stacks_by tid (applies g tid b fs y t) ss) (sym is)

  pub skipped_tables : (e : EndTables) → x ≡ skips → e ≡ tables_by (applies g tid b fs x e.tables) e
  unfolding applies gains_all lets_go_all held_by let_go_by
  skipped_tables e is = ap (λ y. tables_by (applies g tid b fs y e.tables) e) (sym is)

  pub disposed_stacks : (t : Tables) (ss : List Stack) → x ≡ disposes → frames_of tid ss ≡ body b ∷ fs → ss ≡ stacks_by tid (applies g tid b fs x t) ss
  unfolding applies
  disposed_stacks t ss is all = sym (puts_same tid (body b) fs ss all) ∙ ap (λ y. stacks_by tid (applies g tid b fs y t) ss) (sym is)
