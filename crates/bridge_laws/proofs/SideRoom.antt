-- Room behind ends, roots' entries, objects that go, and statements.
use Rattle.std.proofs.Common.{◌≡◌, ℕ, suc, ◌+◌, ◌≤◌, Bool, true, false, not, List, [], ◌∷◌, Option, None, Some, refl, sym, ap, ◌∙◌, subst, arith}
use Rattle.std.proofs.lemmas.Bool.{false≢true}
use Rattle.plan_model.specs.Asking.{Effect, disposes}
use Rattle.plan_model.specs.Frames.{Frame, base, body, outgoing, frames_of}
use Rattle.bridge_model.specs.Applying.{applies, effect_at}
use Rattle.bridge_model.specs.Calls.{Unwound}
use Rattle.bridge_model.specs.Ends.{tables_at_end, ends_by, runs_out}
use Rattle.bridge_model.specs.Settings.{Setting}
use Rattle.bridge_model.specs.Sides.{Tables, Side, stands_by, stands}
use Rattle.bridge_model.specs.Stacks.{with_unwound}
use Rattle.bridge_model.specs.Steps.{Picked, picked_in, picked, is_no_memory, applies_effect, applies_picked}
use Rattle.bridge_model.specs.declared.cause.Cause.{Cause}
use Rattle.bridge_model.specs.declared.cause.Cause.TheVariants as cause
use Rattle.bridge_laws.specs.Ended.{IsQuiet}
use Rattle.bridge_laws.proofs.EffectStackLaws.{moved_applies}
use Rattle.bridge_laws.proofs.FrameLaws.{Moved}
use Rattle.bridge_laws.specs.Grounded.{is_stack, HasRoots}
use Rattle.bridge_laws.proofs.ThreadLaws.{thread_stack}
use Rattle.bridge_laws.specs.Room.{open_roots, ends_left, needed, effect_brings, statement_brings}
use Rattle.bridge_laws.proofs.EffectRoom.{applies_kept}
use Rattle.bridge_laws.proofs.RootRoom.{open_ended, thread_waits, open_moved}
use Rattle.bridge_laws.proofs.TableRoom.{kept, held_outlasts, kept_by}

-- ---- sums

pub needed_is : (s : Side) → needed s ≡ ends_left s.cause + (open_roots s.tables.roots + kept s.tables)
unfolding needed kept
needed_is s = refl

same_cause : (o p : Option Cause) → p ≡ o → ends_left p ≡ ends_left o
same_cause o p same = ap ends_left same

-- where the cause stays, and the roots and tables bring no more than this
pub needed_more : (s u : Side) (m n : ℕ) → u.cause ≡ s.cause → open_roots u.tables.roots ≤ m + open_roots s.tables.roots → kept u.tables ≤ n + kept s.tables
    → needed u ≤ needed s + (m + n)
needed_more s u m n same roots tables =
    let before = needed_is s in let after = needed_is u in let alike = same_cause s.cause u.cause same in omega arith

pub needed_less : (s u : Side) → u.cause ≡ s.cause → u.tables.roots ≡ s.tables.roots → suc (kept u.tables) ≤ kept s.tables → suc (needed u) ≤ needed s
needed_less s u same stay tables =
    let before = needed_is s in let after = needed_is u in let alike = same_cause s.cause u.cause same in
    let roots : open_roots u.tables.roots ≡ open_roots s.tables.roots = ap open_roots stay in omega arith

stay_open : (s u : Side) → u.tables.roots ≡ s.tables.roots → open_roots u.tables.roots ≤ 0 + open_roots s.tables.roots
stay_open s u stay = let roots : open_roots u.tables.roots ≡ open_roots s.tables.roots = ap open_roots stay in omega arith

-- ---- ends

end_kept : (why : Cause) (t : Tables) → kept (tables_at_end why t) ≤ kept t
end_kept why t = kept_by t (tables_at_end why t) refl (held_outlasts t.holdings)

pub ends_needed : (why : Cause) (s : Side) → needed (ends_by why s) ≤ ends_left (Some why) + (open_roots s.tables.roots + kept s.tables)
unfolding ends_by
ends_needed why s =
    let after = needed_is (ends_by why s) in
    let roots = open_ended why s.tables.roots in
    let tables = end_kept why s.tables in omega arith

standing : (o : Option Cause) → stands_by o ≡ true → ends_left o ≡ 2
standing None is = refl
standing (Some why) is = absurd (false≢true is)

-- a bridge that stands may end
pub ended_less : (why : Cause) (s : Side) → ends_left (Some why) ≡ 1 → stands s ≡ true → suc (needed (ends_by why s)) ≤ needed s
ended_less why s one is =
    let before = needed_is s in let up = standing s.cause is in let after = ends_needed why s in omega arith

one_left : (why : Cause) → not (is_no_memory (Some why)) ≡ true → ends_left (Some why) ≡ 1
one_left cause.Disposed is = refl
one_left cause.Ended is = refl
one_left cause.Failed is = refl
one_left (cause.Broken reason place) is = refl
one_left cause.Full is = refl
one_left cause.NoMemory is = absurd (false≢true is)

-- want of memory is the last cause
pub out_less : (o : Option Cause) (s : Side) → s.cause ≡ o → not (is_no_memory o) ≡ true → suc (needed (runs_out o s)) ≤ needed s
unfolding runs_out needed ends_by
out_less None s is more =
    let roots = open_ended cause.NoMemory s.tables.roots in
    let held = held_outlasts s.tables.holdings in
    let up = same_cause None s.cause is in omega arith
out_less (Some why) s is more =
    let up = same_cause (Some why) s.cause is in let one = one_left why more in omega arith

-- ---- statements

-- a thread that moves opens no root
moved_needed : (g : Setting) (tid : List ℕ) (u : Unwound) (n : ℕ) (s : Side) → HasRoots g s → Moved (frames_of tid s.stacks) s.tables.roots u.frames u.tables.roots
    → kept u.tables ≤ n + kept s.tables → needed (with_unwound tid u s) ≤ needed s + n
moved_needed g tid u n s all moved tables =
    let roots = open_moved (frames_of tid s.stacks) s.tables.roots u.frames u.tables.roots (thread_waits g s.tables.roots tid (frames_of tid s.stacks) (all.each tid)) moved in
    let more = needed_more s (with_unwound tid u s) 0 n refl (omega arith) tables in omega arith

unwound_needed : (g : Setting) (tid : List ℕ) (p : Picked) (e : Effect) (s : Side) → frames_of tid s.stacks ≡ body p.method ∷ p.below → HasRoots g s
    → needed (with_unwound tid (applies g tid p.method p.below e s.tables) s) ≤ needed s + effect_brings p.method e
unwound_needed g tid p e s is all =
    let stack : is_stack (body p.method ∷ p.below) ≡ true = ap is_stack (sym is) ∙ thread_stack g s.tables.roots tid (frames_of tid s.stacks) (all.each tid) in
    let u : Unwound = applies g tid p.method p.below e s.tables in
    moved_needed g tid (applies g tid p.method p.below e s.tables) (effect_brings p.method e) s all
    (subst (λ fs. Moved fs s.tables.roots u.frames u.tables.roots) (sym is) (moved_applies g tid p.method p.below e s.tables stack))
    (applies_kept g tid p.method p.below e s.tables)

effect_needed : (g : Setting) (tid : List ℕ) (p : Picked) (e : Effect) (s : Side) → stands s ≡ true → frames_of tid s.stacks ≡ body p.method ∷ p.below → HasRoots g s
    → needed (applies_effect g tid p e s) ≤ needed s + effect_brings p.method e
effect_needed g tid p disposes s up is all = let less = ended_less cause.Disposed s refl up in omega arith
effect_needed g tid p e s up is all = unwound_needed g tid p e s is all

frames_needed : (g : Setting) (tid : List ℕ) (fs : List Frame) (s : Side) → stands s ≡ true → frames_of tid s.stacks ≡ fs → HasRoots g s
    → needed (applies_picked g tid (picked_in fs) s) ≤ needed s + statement_brings g tid (picked_in fs) s
frames_needed g tid [] s up is all = omega arith
frames_needed g tid (base root ∷ fs) s up is all = omega arith
frames_needed g tid (outgoing o ∷ fs) s up is all = omega arith
frames_needed g tid (body b ∷ fs) s up is all =
    effect_needed g tid (record { method = b; below = fs }) (effect_at g tid b fs s.tables) s up is all

-- where a bridge has ended, no thread goes on
pub applied_needed : (g : Setting) (tid : List ℕ) (s : Side) → IsQuiet s → HasRoots g s
    → needed (applies_picked g tid (picked tid s) s) ≤ needed s + statement_brings g tid (picked tid s) s
unfolding picked frames_of
applied_needed g tid s quiet all = by_standing (stands s) refl
  where
    by_standing : (b : Bool) → stands s ≡ b
        → needed (applies_picked g tid (picked_in (frames_of tid s.stacks)) s) ≤ needed s + statement_brings g tid (picked_in (frames_of tid s.stacks)) s
    by_standing true up = frames_needed g tid (frames_of tid s.stacks) s up refl all
    by_standing false over =
        let none : frames_of tid s.stacks ≡ [] = ap (frames_of tid) (quiet over) in
        subst (λ fs. needed (applies_picked g tid (picked_in fs) s) ≤ needed s + statement_brings g tid (picked_in fs) s) (sym none) (omega arith)
