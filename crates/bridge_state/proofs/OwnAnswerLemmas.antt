-- A query of an own object, which is answered at once.
use Rattle.std.proofs.Common.{◌≡◌, sym, ap, subst, ◌∙◌, ℕ, ◌≤◌, List, [], length, Option}
use Rattle.message_model.specs.Messages.{Answer, returned}
use Rattle.table_model.specs.declared.holder.Holder.TheVariants as holder
use Rattle.uno_model.specs.Kinds as kd
use Rattle.uno_model.specs.Values.{refs}
use Rattle.plan_model.specs.Frames.{Stack}
use Rattle.bridge_laws.proofs.RootStateLaws.{stay_gains_all}
use Rattle.bridge_model.specs.Handing.{root_gets}
use Rattle.bridge_model.specs.Objects.{object_answer}
use Rattle.bridge_model.specs.References.{gains_all}
use Rattle.bridge_model.specs.Settings.{Setting}
use Rattle.bridge_model.specs.Sides.{RootState, Incoming, Outgoing, state_of, waits_query, with_root, on_tables}
use Rattle.bridge_model.specs.declared.cause.Cause.{Cause}
use Rattle.bridge_tables.specs.EndTables.{EndTables}
use Rattle.bridge_tables.specs.EndTables as tables
use Rattle.bridge_state.proofs.BeginningLemmas.{asked_again}
use Rattle.bridge_state.proofs.Seen.{seen}
use Rattle.bridge_state.specs.EndSides.{EndSide, on_side}
use Rattle.bridge_state.specs.Roots.{answers_own}

pub own_answered : (g : Setting) (root : ℕ) (oid wanted : List ℕ) (t1 t2 t3 : EndTables) (ss : List Stack) (i : Incoming) (o : Outgoing) (n : ℕ) (c : Option Cause) (now between : EndSide) (state : RootState) (a : Answer)
    → 1 ≤ root → root ≤ length now.side.tables.roots
    → between ≡ on_side (on_tables (gains_all (holder.Root root) (refs (object_answer g oid (kd.interface wanted) now.side.tables.objects)))) now → seen t1 ss i o n c ≡ between
    → state ≡ waits_query wanted → t2 ≡ tables.on_tables (with_root root state) t1 → a ≡ returned (object_answer g oid (kd.interface wanted) now.side.tables.objects) []
    → t3 ≡ tables.on_tables (λ t. root_gets g root (state_of root t.roots) a t) t2 → seen t3 ss i o n c ≡ on_side (answers_own g root oid wanted) now
own_answered g root oid wanted t1 t2 t3 ss i o n c now between state a least most held is asked set answer gets =
    let x = object_answer g oid (kd.interface wanted) now.side.tables.objects in
    let roots : t1.tables.roots ≡ now.side.tables.roots =
    ap (λ e. e.side.tables.roots) is ∙ ap (λ e. e.side.tables.roots) held ∙ stay_gains_all (holder.Root root) (refs x) now.side.tables in
    let there : root ≤ length t1.tables.roots = subst (λ states. root ≤ length states) (sym roots) most in
    let put : t2 ≡ tables.on_tables (with_root root (waits_query wanted)) t1 = set ∙ ap (λ s. tables.on_tables (with_root root s) t1) asked in
    let got : t3 ≡ tables.on_tables (λ t. root_gets g root (waits_query wanted) (returned x []) t) t1 =
    gets ∙ (λ j. tables.on_tables (λ t. root_gets g root (state_of root t.roots) (answer j) t) (put j)) ∙ ap (λ t. tables.with_tables t t1) (asked_again g root wanted x t1.tables least there) in
    ap (λ t. seen t ss i o n c) got ∙ ap (on_side (on_tables (λ t. root_gets g root (waits_query wanted) (returned x []) t))) (is ∙ held)
