-- What a run gives that stands for a history may be given, and its root holds it.
use Rattle.std.proofs.Common.{◌≡◌, refl, sym, ap, ◌∙◌, ◌++◌, ℕ, suc, ◌<◌, ◌≤◌, ◌^◌, true, false, not, nat_lt, List, [], length, Option, None, Some, codes, arith}
use Rattle.std.proofs.lemmas.Bool.{and_parts, ltb-true, ltb-false, not-true}
use Rattle.uno_model.specs.BuiltIn.{HasBuiltIn}
use Rattle.uno_model.specs.Sound.{IsSound}
use Rattle.uno_model.specs.Values.{Ref, null, own, peer}
use Rattle.uno_model.specs.Values as v
use Rattle.literal_model.specs.Literals.{print}
use Rattle.plan_model.specs.Calling.{object_of}
use Rattle.plan_model.specs.Evaluation.{value_of_word}
use Rattle.plan_model.specs.Forms.{is_export_name}
use Rattle.plan_model.specs.Keeps.{KeepsTheRules}
use Rattle.plan_model.specs.Roots.{Run, next_loose}
use Rattle.plan_model.specs.Statements.{Call, Making, RootStatement, ask, ask_instance, root_call, root_query, root_make, root_drop, same, root_dispose}
use Rattle.plan_typing.specs.Effects.{NamesDiffer}
use Rattle.bridge_laws.specs.OfPlan.{IsRoot}
use Rattle.bridge_laws.proofs.PlanConstantLaws.{plan_refers_to_nothing}
use Rattle.bridge_model.specs.Entries.{Entry, made}
use Rattle.bridge_model.specs.Histories.{Told, Leads}
use Rattle.bridge_model.specs.RootRuns.{adds, begins, begins_statement, calls_on, idle_moves, is_skipped, makes_new, moved, next_statement, over_with, root_moves, scene_of, state_moves, statement_at, StandsFor}
use Rattle.bridge_model.specs.Settings.{Setting, own_oid}
use Rattle.bridge_model.specs.Sides.{Side, idle, stands, state_of}
use Rattle.bridge_model.specs.Steps.{has_entries, is_root, may, most_entries}
use Rattle.bridge_laws.specs.Giving.{MayGive, RootsGive}
use Rattle.bridge_laws.proofs.MayLaws.{own_entry_may}
use Rattle.bridge_laws.proofs.RootConstantLaws.{roots_refer_to_nothing}
use Rattle.bridge_laws.proofs.RunGivingLaws.{begun_by_run}
use Rattle.bridge_core.specs.Asking.{HasSmallNumber, IsSmallNumber}
use Rattle.bridge_core.specs.Letting.{is_held}

-- ---- a bridge that stands and has room

-- a side like another, but for that
calm : Side → Side
calm s = record s { tables = record s.tables { objects_made = 0 }; entries = 0; cause = None }

calm_stands : (s : Side) → stands (calm s) ≡ true
unfolding calm
calm_stands s = refl

calm_few : (s : Side) → has_entries (calm s) ≡ false
unfolding calm most_entries
calm_few s = refl

calm_made : (s : Side) → suc (calm s).tables.objects_made < 2 ^ 64
unfolding calm
calm_made s = omega arith

begins_open : (s : Side) (r : Run) (x : Entry) → stands s ≡ true → has_entries s ≡ false → begins s r x ≡ moved r (Some x)
begins_open s r x up few = rw (up, few) refl

-- a new object begins
new_begins : (g : Setting) (s : Side) (r : Run) (m : Making) → stands s ≡ true → has_entries s ≡ false → (then : Run) × (makes_new g s r m ≡ moved then (Some (made r.root m.behaviour m.face)))
new_begins g s r m up few = (
  over_with (codes "returned " ++ print g.registry (v.ref (own (own_oid g (suc s.tables.objects_made)) m.face))) (adds m.to (v.ref (own (own_oid g (suc s.tables.objects_made)) m.face)) r),
  rw (up, few) refl,
)

root_of_plan : (g : Setting) (root : ℕ) → is_root g root ≡ true → IsRoot g root
root_of_plan g root is =
    let parts = and_parts (nat_lt 0 root) (not (nat_lt (length g.plan.threads) root)) is in
    let first : 0 < root = ltb-true 0 root parts.0 in
    let last : root ≤ length g.plan.threads = ltb-false (length g.plan.threads) root (not-true (nat_lt (length g.plan.threads) root) parts.1) in
    (omega arith, last)

module _ (g : Setting) (sound : IsSound g.registry) (built : HasBuiltIn g.registry) (differ : NamesDiffer g.registry) (keeps : KeepsTheRules g.registry g.plan) (short : length g.tag ≤ 32)
    (es : List Entry) (x : Told) (gives : RootsGive g es) (leads : Leads g es x) (r : Run) (stand : StandsFor g es r) (root : is_root g r.root ≡ true) where
  -- the entry of a move may stand
  pub move_may : (behind : Run) (e : Entry) → root_moves g x.side r ≡ moved behind (Some e) → may g x.side e ≡ true
  move_may behind e moves =
      own_entry_may g es r behind e x (plan_refers_to_nothing g.registry g.plan keeps) (roots_refer_to_nothing g.registry g.plan keeps) (root_of_plan g r.root root) leads stand moves

  module _ (free : state_of r.root x.side.tables.roots ≡ idle) where
    idle_is : root_moves g x.side r ≡ idle_moves g x.side r (next_loose r.loose)
    unfolding root_moves
    idle_is = ap (state_moves g x.side r) free

    -- what is let go is held
    drops_held : (o : Option Ref) (y : Ref) → next_loose r.loose ≡ o → o ≡ Some y → is_held r.root x.side.tables y ≡ true
    unfolding may
    drops_held o null at is = refl
    drops_held o (own oid face) at is = move_may _ _ (idle_is ∙ ap (idle_moves g x.side r) (at ∙ is))
    drops_held o (peer oid face) at is = move_may _ _ (idle_is ∙ ap (idle_moves g x.side r) (at ∙ is))

    pub loose_held : (y : Ref) → next_loose r.loose ≡ Some y → is_held r.root x.side.tables y ≡ true
    loose_held y is = drops_held (next_loose r.loose) y refl is

    -- ---- the statement at its place, where nothing is to be let go
    module _ (none : r.loose ≡ []) (s : RootStatement) (at : statement_at g r ≡ Some s) (stays : is_skipped r.variables s ≡ false) where
      begins_is : (z : Side) → idle_moves g z r (next_loose r.loose) ≡ begins_statement g z r s
      begins_is z = ap (λ rs. idle_moves g z r (next_loose rs)) none ∙ (ap (next_statement g z r) at ∙ rw stays refl)

      module _ (named : is_export_name r.instance ≡ true) where
        -- it gives what may be given, whether the bridge stands and has room or not
        begins_gives : (behind : Run) (e : Entry) → begins_statement g (calm x.side) r s ≡ moved behind (Some e) → MayGive g e
        begins_gives behind e is =
            begun_by_run g sound built differ keeps short es x r behind e (calm x.side) gives leads stand (root_of_plan g r.root root) named free (λ few. calm_made x.side) (begins_is (calm x.side) ∙ is)

        pub asked_gives : (e : Entry) → ((z : Side) → begins_statement g z r s ≡ begins z r e) → MayGive g e
        asked_gives e so = begins_gives r e (so (calm x.side) ∙ begins_open (calm x.side) r e (calm_stands x.side) (calm_few x.side))

        pub made_gives : (m : Making) → root_make m ≡ s → MayGive g (made r.root m.behaviour m.face)
        unfolding begins_statement
        made_gives m is =
            let new = new_begins g (calm x.side) r m (calm_stands x.side) (calm_few x.side) in
            begins_gives new.0 (made r.root m.behaviour m.face) (ap (begins_statement g (calm x.side) r) (sym is) ∙ new.1)

        calls_small : (c : Call) → root_call c ≡ s → (y : Ref) → object_of (value_of_word (scene_of r) c.target) ≡ y → IsSmallNumber g.registry c y
        unfolding begins_statement
        calls_small c is null on = tt
        calls_small c is (own oid face) on =
            (begins_gives r _ (ap (begins_statement g (calm x.side) r) (sym is) ∙ (ap (calls_on g.registry (calm x.side) r c) on ∙ begins_open (calm x.side) r _ (calm_stands x.side) (calm_few x.side)))).called.small
        calls_small c is (peer oid face) on =
            (begins_gives r _ (ap (begins_statement g (calm x.side) r) (sym is) ∙ (ap (calls_on g.registry (calm x.side) r c) on ∙ begins_open (calm x.side) r _ (calm_stands x.side) (calm_few x.side)))).called.small

        pub has_small : (t : RootStatement) → t ≡ s → HasSmallNumber g.registry r t
        has_small (root_call c) is = calls_small c is (object_of (value_of_word (scene_of r) c.target)) refl
        has_small (ask to wanted name) is = tt
        has_small (ask_instance to wanted) is = tt
        has_small (root_query q) is = tt
        has_small (root_make m) is = tt
        has_small (root_drop name) is = tt
        has_small (same a b) is = tt
        has_small root_dispose is = tt

      -- and holds it, where the bridge stands and has room
      pub asked_may : (e : Entry) → begins_statement g x.side r s ≡ begins x.side r e → stands x.side ≡ true → has_entries x.side ≡ false → may g x.side e ≡ true
      asked_may e so up few = move_may r e (idle_is ∙ (begins_is x.side ∙ (so ∙ begins_open x.side r e up few)))
