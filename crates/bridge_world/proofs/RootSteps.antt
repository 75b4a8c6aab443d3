-- A step of a root at one of two joined ends.
use Rattle.std.proofs.Common.{◌≡◌, refl, sym, ap, ◌∙◌, subst, ◌⊎◌, inl, inr, ℕ, List, Option, None, Some}
use Rattle.bridge_core.specs.declared.side.Side.{Side}
use Rattle.bridge_endpoint.specs.Entering.{out_of_memory}
use Rattle.bridge_endpoint.specs.Journals.{Endpoint, setting_at, side_at, stamped, told_at}
use Rattle.bridge_model.specs.Entries.{Entry}
use Rattle.bridge_model.specs.RootRuns.{StandsFor, finished, moved, root_moves, waiting}
use Rattle.bridge_model.specs.Settings.{Setting}
use Rattle.bridge_model.specs.Sides as side
use Rattle.bridge_core.specs.Moving.{StepsSo, next_move, with_any}
use Rattle.bridge_core.specs.Standing.{IsRunAt}
use Rattle.bridge_core.specs.declared.moved.RootMoved.{RootMoved}
use Rattle.bridge_core.specs.declared.moved.RootMoved.TheVariants as answer
use Rattle.bridge_laws.specs.SpellableGiving.{IsGivenByRoot}
use Rattle.world_laws.proofs.Histories.{given_next_a, given_next_b}
use Rattle.world_laws.specs.Linking.{AreTwoEnds}
use Rattle.bridge_laws.proofs.OwnLaws.{move_feeds}
use Rattle.plan_model.specs.Roots.{Run}
use Rattle.std.specs.Str.{IsUtf8}
use Rattle.world_model.specs.Worlds.{entries_of}
use Rattle.world_model.specs.declared.side.Side.TheVariants.{B}
use Rattle.bridge_world.specs.Joined.{Joined, end_at, joined, settings_of}
use Rattle.bridge_world.specs.Worlds.{IsWorld}
use Rattle.bridge_world.proofs.CallLaws.{IsStill, goes_any, goes_lost}
use Rattle.bridge_world.proofs.EndCalls.{Calls, did, is_seen, went}
use Rattle.bridge_world.proofs.Going.{Goes, stays}
use Rattle.bridge_world.proofs.Known.{of_second}
use Rattle.bridge_world.proofs.Seeing.{side_of_told, stamped_side}
use Rattle.bridge_world.proofs.StillMoves.{move_drains}
use Rattle.bridge_world.proofs.Unmarked.{unmark, unmark_lost, unmark_more}

unmark_any : (o : Option Entry) (x : Endpoint) → unmark (with_any o x) ≡ with_any o (unmark x)
unmark_any None x = refl
unmark_any (Some e) x = unmark_more e x

-- the run stands for the end that is seen, and for the marked endpoint
pub run_there : (m x : Endpoint) → unmark m ≡ x → (r : Run) → IsRunAt x r → IsRunAt m r
run_there m x is r run = let at : IsRunAt (unmark m) r = subst (λ (z : Endpoint). IsRunAt z r) (sym is) run in record { root = at.root; stands = at.stands; named = at.named }

pub run_seen : (m x : Endpoint) → x ≡ unmark m → (r : Run) → IsRunAt m r → IsRunAt x r
run_seen m x is r run = subst (λ (z : Endpoint). IsRunAt z r) (sym is) (record { root = run.root; stands = run.stands; named = run.named })

-- ---- what it enters

-- what the root gives can be carried by bytes
abbrev pub GivesSo : Endpoint → Run → Type 0
GivesSo m r = (next : Run) (x : Entry) → next_move m r ≡ moved next (Some x) → IsGivenByRoot x

module _ (m : Endpoint) (to from : List ℕ) (before : Run) (gives : GivesSo m before) where
  is_still : (next : Run) (o : Option Entry) → next_move m before ≡ moved next o → (x : Entry) → o ≡ Some x → IsStill x
  is_still next o is x some =
      let moves : next_move m before ≡ moved next (Some x) = is ∙ ap (moved next) some in
      record { given = gives next x moves; none_in = move_feeds (setting_at m) (side_at m) before next x moves; none_out = move_drains (setting_at m) (side_at m) before next x moves }

  pub step_goes : (e : Endpoint) (next : Run) (a : RootMoved) → StepsSo m e before next a → Goes m to from e to from
  step_goes e next answer.Moved does = went m to from e (with_any does.entry m) to from does.entered (goes_any m to from does.entry (is_still next does.entry does.moves))
  step_goes e next answer.Waiting does = went m to from e m to from does.2 stays
  step_goes e next answer.Finished does = went m to from e m to from does.2 stays
  step_goes e next answer.NoMemory does = left_goes does.bridge
    where
      left_goes : (e ≡ m) ⊎ (e ≡ out_of_memory m) → Goes m to from e to from
      left_goes (inl same) = went m to from e m to from same stays
      left_goes (inr out) = went m to from e (out_of_memory m) to from out (goes_lost m to from)

-- ---- what is seen of it

module _ (s : Side) (j k : Joined) (m e : Endpoint) (calls : Calls s j k m e) (before next : Run) where
  left_seen : (e ≡ m) ⊎ (e ≡ out_of_memory m) → (end_at k s ≡ end_at j s) ⊎ (end_at k s ≡ out_of_memory (end_at j s))
  left_seen (inl same) = inl (did s j k m e calls (λ x. x) (λ x. refl) same)
  left_seen (inr out) = inr (did s j k m e calls out_of_memory unmark_lost out)

  pub step_seen : (a : RootMoved) → StepsSo m e before next a → StepsSo (end_at j s) (end_at k s) before next a
  step_seen answer.Moved does =
      record {
        entry = does.entry;
        moves = is_seen m (end_at j s) calls.before (λ g z. root_moves g z before ≡ moved next does.entry) does.moves;
        entered = did s j k m e calls (with_any does.entry) (unmark_any does.entry) does.entered;
      }
  step_seen answer.Waiting does = (is_seen m (end_at j s) calls.before (λ g z. root_moves g z before ≡ waiting) does.0, does.1, did s j k m e calls (λ x. x) (λ x. refl) does.2)
  step_seen answer.Finished does = (is_seen m (end_at j s) calls.before (λ g z. root_moves g z before ≡ finished) does.0, does.1, did s j k m e calls (λ x. x) (λ x. refl) does.2)
  step_seen answer.NoMemory does = record { run = does.run; bridge = left_seen does.bridge }

-- ---- what a root gives at each of two joined ends

module _ (a b : Endpoint) (to_a to_b : List ℕ) (is : IsWorld a b to_a to_b) (ends : AreTwoEnds (settings_of (joined a b)) (joined a b).events (told_at a) (told_at b) to_a to_b) (n : ℕ) (m : Endpoint) (r : Run) (text : IsUtf8 r.instance) where
  pub gives_a : m ≡ stamped n a → IsRunAt m r → GivesSo m r
  gives_a marked run next x moves =
      given_next_a (settings_of (joined a b)) (joined a b).events (told_at a) (told_at b) to_a to_b ends r next x
      (subst (λ (es : List Entry). StandsFor (setting_at a) es r) (sym is.merged.entries_a) (subst (λ (z : Endpoint). StandsFor (setting_at z) z.entries r) marked run.stands)) text
      (subst (λ (s : side.Side). root_moves (setting_at a) s r ≡ moved next (Some x)) (stamped_side n a ∙ side_of_told a)
      (subst (λ (z : Endpoint). root_moves (setting_at z) (side_at z) r ≡ moved next (Some x)) marked moves))

  pub gives_b : m ≡ stamped n b → IsRunAt m r → GivesSo m r
  gives_b marked run next x moves =
      given_next_b (settings_of (joined a b)) (joined a b).events (told_at a) (told_at b) to_a to_b ends r next x
      (subst (λ (g : Setting). StandsFor g (entries_of B (joined a b).events) r) (sym (of_second a b to_a to_b is))
      (subst (λ (es : List Entry). StandsFor (setting_at b) es r) (sym is.merged.entries_b) (subst (λ (z : Endpoint). StandsFor (setting_at z) z.entries r) marked run.stands))) text
      (subst (λ (g : Setting). root_moves g (told_at b).side r ≡ moved next (Some x)) (sym (of_second a b to_a to_b is))
      (subst (λ (s : side.Side). root_moves (setting_at b) s r ≡ moved next (Some x)) (stamped_side n b ∙ side_of_told b)
      (subst (λ (z : Endpoint). root_moves (setting_at z) (side_at z) r ≡ moved next (Some x)) marked moves)))
