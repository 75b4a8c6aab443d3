-- What a root has is told by its identity, in every history for which its run stands.
use Rattle.std.proofs.Common.{◌≡◌, refl, ℕ, suc, Bool, true, false, not, cond, ◌==◌, if◌then◌else◌, List, [], ◌∷◌, Option, None, Some, arith}
use Rattle.std.proofs.lemmas.Bool.{and_from}
use Rattle.std.specs.List.{list_all}
use Rattle.uno_model.specs.Values.{Ref, own}
use Rattle.plan_model.specs.Holdings.{refs_under}
use Rattle.plan_model.specs.Roots.{Run, opening_run}
use Rattle.bridge_model.specs.Entries.{Entry, made, took, counts}
use Rattle.bridge_model.specs.Histories.{Told, Leads}
use Rattle.bridge_model.specs.RootRuns.{StandsFor, begun, another, entered, passed}
use Rattle.bridge_model.specs.Settings.{Setting, is_told, own_oid}
use Rattle.bridge_model.specs.Sides.{Side, state_of}
use Rattle.bridge_model.specs.Steps.{does}
use Rattle.bridge_laws.specs.Counting.{total, one_if}
use Rattle.bridge_laws.specs.Living.{plan_constants}
use Rattle.bridge_laws.proofs.BackingLaws.{own_told}
use Rattle.bridge_laws.proofs.PaidSideLaws.{ref_told}
use Rattle.bridge_laws.proofs.PayingLaws.{stray, strays}
use Rattle.bridge_laws.proofs.Replays.{IsKept, along_replay}
use Rattle.bridge_laws.proofs.Sums.{total_append}
use Rattle.bridge_laws.proofs.TellingLaws.{may_told}
use Rattle.bridge_laws.specs.RootReferences.{state_refs, run_refs, root_refs, TellsItsOwn}
use Rattle.bridge_laws.proofs.HeldMoveLaws.{has, IsHomely, gain_of, root_moves_so}
use Rattle.bridge_laws.proofs.StateLaws.{state_counts, counts_in}
use Rattle.bridge_laws.proofs.ToldLaws.{TellsRight, does_tell, opening_tells}

-- ---- sides

counted_tells : (g : Setting) (k : ℕ) (b : Bool) (s : Side) → TellsRight g k s → TellsRight g k (if b then record s { entries = suc s.entries } else s)
counted_tells g k true s fine = fine
counted_tells g k false s fine = fine

kept : (g : Setting) (k : ℕ) → plan_constants g.plan ≡ [] → IsKept g (λ x. TellsRight g k x.side)
kept g k closed x e fine may_it = counted_tells g k (counts e) (does g e x.side).side (does_tell g k e x.side closed (may_told g x.side e may_it) fine)

pub side_tells : (g : Setting) (k : ℕ) (es : List Entry) (x : Told) → plan_constants g.plan ≡ [] → Leads g es x → TellsRight g k x.side
side_tells g k es x closed leads = along_replay g (λ y. TellsRight g k y.side) (opening_tells g k) (kept g k closed) es x leads

-- ---- runs

-- a reference that is told by its identity is told right
strays_homely : (g : Setting) → IsHomely g (stray g)
strays_homely g =
    record {
      own_one = λ oid face. let right = ref_told g oid face in omega arith;
      peer_one = λ oid face. let right = ref_told g oid face in omega arith;
    }

cond_none : (b : Bool) (n : ℕ) → n ≡ 0 → cond b n 0 ≡ 0
cond_none true n none = none
cond_none false n none = refl

-- what an entry brings to a run is told right
gain_told : (g : Setting) (k : ℕ) (s : Side) (e : Option Entry) → TellsRight g k s → gain_of g (stray g) k s e ≡ 0
gain_told g k s None fine = refl
gain_told g k s (Some (made root behaviour wanted)) fine =
    cond_none (k == root) (stray g (own (own_oid g (suc s.tables.objects_made)) wanted)) (own_told g (suc s.tables.objects_made) wanted)
gain_told g k s (Some (took root)) fine = cond_none (k == root) (counts_in (stray g) k s.tables.roots) (omega arith)
gain_told g k s (Some e) fine = refl

first_told : (g : Setting) (root : ℕ) (instance : List ℕ) → has (stray g) (opening_run root instance) ≡ 0
unfolding opening_run total refs_under
first_told g root instance = refl

pub run_told : (g : Setting) (es : List Entry) (r : Run) → plan_constants g.plan ≡ [] → StandsFor g es r → has (stray g) r ≡ 0
run_told g es' r' closed (begun root instance) = first_told g root instance
run_told g es' r' closed (another {es} {r} e other before) = run_told g es r closed before
run_told g es' r' closed (entered {es} {r} {next} {told} e at is before) =
    let moves = root_moves_so g (stray g) told.side r next (Some e) (strays_homely g) is in
    let most = moves.most in
    let gains = gain_told g r.root told.side (Some e) (side_tells g r.root es told closed at) in
    let so_far = run_told g es r closed before in omega arith
run_told g es' r' closed (passed {es} {r} {next} {told} at is before) =
    let moves = root_moves_so g (stray g) told.side r next None (strays_homely g) is in
    let most = moves.most in
    let so_far = run_told g es r closed before in omega arith

-- ---- the law

told_ref : (b : Bool) → one_if (not b) ≡ 0 → b ≡ true
told_ref true none = refl
told_ref false none = absurd (omega arith)

pub all_right : (g : Setting) (rs : List Ref) → strays g rs ≡ 0 → list_all (is_told g) rs ≡ true
unfolding total stray
all_right g [] none = refl
all_right g (r ∷ rs) none =
    and_from (is_told g r) (list_all (is_told g) rs) (told_ref (is_told g r) (omega arith)) (all_right g rs (omega arith))

pub root_told : (g : Setting) (s : Side) (r : Run) → has (stray g) r ≡ 0 → TellsRight g r.root s → strays g (root_refs s r) ≡ 0
unfolding state_counts
root_told g s r run fine =
    let whole = total_append (stray g) (run_refs r) (state_refs (state_of r.root s.tables.roots)) in
    let parts = total_append (stray g) (refs_under r.variables) r.loose in omega arith

pub own_told_right : (g : Setting) (es : List Entry) (r : Run) (x : Told) → plan_constants g.plan ≡ [] → Leads g es x → StandsFor g es r → TellsItsOwn g x.side r
own_told_right g es r x closed leads stands =
    all_right g (root_refs x.side r) (root_told g x.side r (run_told g es r closed stands) (side_tells g r.root es x closed leads))
