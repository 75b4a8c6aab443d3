-- A run at an endpoint gives what it may, holds what it gives, and stays one behind its moves.
use Rattle.std.proofs.Common.{◌≡◌, ℕ, refl, sym, ap, subst, ◌∙◌, ◌⊎◌, inl, inr, Bool, [], true, false, Option, None, Some, if◌then◌else◌}
use Rattle.bridge_model.specs.Entries.{Entry, dropped, made, no_memory}
use Rattle.bridge_model.specs.RootRuns.{begins_statement, is_skipped, lets_loose, moved, statement_at}
use Rattle.bridge_model.specs.Sides.{Side, idle, stands, state_of}
use Rattle.bridge_model.specs.Steps.{has_entries, is_no_memory, is_root, may}
use Rattle.bridge_laws.proofs.TypedGiven.{IsGiven}
use Rattle.bridge_laws.proofs.TypedGivenLaws.{is_given}
use Rattle.bridge_laws.specs.Giving.{MayGive}
use Rattle.plan_model.specs.Forms.{is_export_name}
use Rattle.plan_model.specs.Roots.{Run, less_loose, next_loose}
use Rattle.plan_model.specs.Statements.{Making, RootStatement, root_make}
use Rattle.bridge_laws.proofs.RunGivingLaws.{IsOfRun, move_run}
use Rattle.uno_model.specs.Values.{Ref, null, own, peer}
use Rattle.bridge_endpoint.specs.Entering.{out_of_memory}
use Rattle.bridge_endpoint.specs.Journals.{Endpoint, setting_at, side_at, told_at, with_entry}
use Rattle.bridge_core.specs.Asking.{HasSmallNumber, asks, entry_of}
use Rattle.bridge_core.specs.Letting.{goes_with, is_held}
use Rattle.bridge_core.specs.Moving.{Does, StepsSo, with_any}
use Rattle.bridge_core.specs.Standing.{IsHistory, IsRunAt}
use Rattle.bridge_core.specs.declared.asking.Asked.{Asked}
use Rattle.bridge_core.specs.declared.moved.RootMoved.{RootMoved}
use Rattle.bridge_core.specs.declared.moved.RootMoved.TheVariants as answer
use Rattle.bridge_core.proofs.GivenLemmas.{loose_held, made_gives, asked_gives, asked_may, has_small}
use Rattle.bridge_core.proofs.StandLemmas.{stands_behind}

module _ (e : Endpoint) (known : IsHistory e) (r : Run) (run : IsRunAt e r) (free : state_of r.root (side_at e).tables.roots ≡ idle) where
  pub loose_at : (y : Ref) → next_loose r.loose ≡ Some y → is_held r.root (side_at e).tables y ≡ true
  unfolding side_at
  loose_at = loose_held (setting_at e) known.set_up.sound known.built_in known.set_up.names known.set_up.rules known.tag e.entries (told_at e) known.gives known.leads r run.stands run.root free

  module _ (none : r.loose ≡ []) (s : RootStatement) (at : statement_at (setting_at e) r ≡ Some s) (stays : is_skipped r.variables s ≡ false) where
    pub asked_given_at : (a : Asked) → ((z : Side) → begins_statement (setting_at e) z r s ≡ asks z r (Some a)) → MayGive (setting_at e) (entry_of r.root a)
    unfolding side_at
    asked_given_at a so =
        asked_gives (setting_at e) known.set_up.sound known.built_in known.set_up.names known.set_up.rules known.tag e.entries (told_at e) known.gives known.leads r run.stands run.root free none s at stays
        run.named (entry_of r.root a) so

    pub asked_may_at : (a : Asked) → begins_statement (setting_at e) (side_at e) r s ≡ asks (side_at e) r (Some a) → stands (side_at e) ≡ true → has_entries (side_at e) ≡ false
        → may (setting_at e) (side_at e) (entry_of r.root a) ≡ true
    unfolding side_at
    asked_may_at a so up few =
        asked_may (setting_at e) known.set_up.sound known.built_in known.set_up.names known.set_up.rules known.tag e.entries (told_at e) known.gives known.leads r run.stands run.root free none s at stays
        (entry_of r.root a) so up few

    pub made_given_at : (m : Making) → root_make m ≡ s → MayGive (setting_at e) (made r.root m.behaviour m.face)
    unfolding side_at
    made_given_at m is =
        made_gives (setting_at e) known.set_up.sound known.built_in known.set_up.names known.set_up.rules known.tag e.entries (told_at e) known.gives known.leads r run.stands run.root free none s at stays
        run.named m is

    pub small_at : HasSmallNumber (setting_at e).registry r s
    unfolding side_at
    small_at =
        has_small (setting_at e) known.set_up.sound known.built_in known.set_up.names known.set_up.rules known.tag e.entries (told_at e) known.gives known.leads r run.stands run.root free none s at stays
        run.named s refl

-- ---- behind a step

-- the setting is the same, and so are the root and the name of its instance
pub record IsSameRun (e f : Endpoint) (before after : Run) : Type 0 where
  pub setting : setting_at f ≡ setting_at e
  pub root : after.root ≡ before.root
  pub instance : after.instance ≡ before.instance

kept_setting : (e f : Endpoint) (x : Option Entry) → f ≡ with_any x e → setting_at f ≡ setting_at e
kept_setting e f None is = ap setting_at is
kept_setting e f (Some x) is = ap setting_at is

lost_setting : (e : Endpoint) (already : Bool) → setting_at (if already then e else with_entry no_memory e) ≡ setting_at e
lost_setting e true = refl
lost_setting e false = refl

left_setting : (e f : Endpoint) → (f ≡ e) ⊎ (f ≡ out_of_memory e) → setting_at f ≡ setting_at e
left_setting e f (inl same) = ap setting_at same
left_setting e f (inr out) = ap setting_at out ∙ lost_setting e (is_no_memory (side_at e).cause)

unmoved : (e f : Endpoint) (before after : Run) → after ≡ before → setting_at f ≡ setting_at e → IsSameRun e f before after
unmoved e f before after same setting = record { setting = setting; root = ap (λ (q : Run). q.root) same; instance = ap (λ (q : Run). q.instance) same }

module _ (e : Endpoint) (known : IsHistory e) where
  given : IsGiven (setting_at e)
  given = is_given (setting_at e) known.set_up.sound known.built_in known.set_up.names known.set_up.rules known.tag

  pub same_run : (f : Endpoint) (before after : Run) (a : RootMoved) → StepsSo e f before after a → IsSameRun e f before after
  same_run f before after answer.Moved does =
      let kept = subst (IsOfRun before) does.moves (move_run (setting_at e) (side_at e) before given) in
      record { setting = kept_setting e f does.entry does.entered; root = kept.0; instance = kept.1 }
  same_run f before after answer.Waiting does = unmoved e f before after does.1 (ap setting_at does.2)
  same_run f before after answer.Finished does = unmoved e f before after does.1 (ap setting_at does.2)
  same_run f before after answer.NoMemory does = unmoved e f before after does.run (left_setting e f does.bridge)

  pub run_behind : (f : Endpoint) (before after : Run) (a : RootMoved) → StepsSo e f before after a → IsRunAt e before → IsRunAt f after
  run_behind f before after a does run =
      let same = same_run f before after a does in
      record {
        root = subst (λ h. is_root h after.root ≡ true) (sym same.setting) (subst (λ n. is_root (setting_at e) n ≡ true) (sym same.root) run.root);
        stands = stands_behind e known.leads f before after a does run.stands;
        named = subst (λ name. is_export_name name ≡ true) (sym same.instance) run.named;
      }

-- ---- what is let go

-- the loose reference that is first goes with its entry
pub lets_go_with : (e f : Endpoint) (r after : Run) (y : Ref) → after ≡ (record r { loose = less_loose r.loose }) → f ≡ with_any (goes_with r.root y) e → Does (lets_loose r y) e f after
lets_go_with e f r after null same enters = record { entry = None; moves = ap (λ q. moved q None) (sym same); entered = enters }
lets_go_with e f r after (own oid face) same enters = record { entry = Some (dropped r.root oid face); moves = ap (λ q. moved q (Some (dropped r.root oid face))) (sym same); entered = enters }
lets_go_with e f r after (peer oid face) same enters = record { entry = Some (dropped r.root oid face); moves = ap (λ q. moved q (Some (dropped r.root oid face))) (sym same); entered = enters }

pub gone_with : (e f : Endpoint) (r after : Run) (root : ℕ) (z y : Ref) → Some z ≡ Some y → root ≡ r.root → after ≡ (record r { loose = less_loose r.loose }) → f ≡ with_any (goes_with root z) e
    → Does (lets_loose r y) e f after
gone_with e f r after root z y is at same enters = lets_go_with e f r after y same (enters ∙ ap (λ n. with_any (goes_with n z) e) at ∙ ap (λ q. with_any (goes_with r.root q) e) (same_ref is))
  where
    same_ref : Some z ≡ Some y → z ≡ y
    same_ref both = cc
