-- A side of which all may be said: the frames of a thread are changed as a whole, and the end of the bridge forgets.
use Rattle.std.proofs.Common.{◌≡◌, ℕ, suc, Bool, true, false, if◌then◌else◌, List, [], ◌∷◌, Option, None, Some, refl, sym, subst, arith}
use Rattle.std.specs.List.{AllByRecursion}
use Rattle.std.specs.Str.{bytes_eq}
use Rattle.std.proofs.lemmas.Slice.Eq.{bytes_eq-Decides}
use Rattle.message_model.specs.Arriving.{IsHeard}
use Rattle.message_model.specs.Messages.{Message}
use Rattle.message_model.specs.Sayable.{IsThread}
use Rattle.message_model.proofs.MessageArrivalLaws.{nothing_is_heard}
use Rattle.plan_model.specs.Frames.{Frame, Stack, is_of, frames_of}
use Rattle.bridge_laws.proofs.ThreadStackLaws.{apart_put}
use Rattle.bridge_laws.specs.Grounded.{AreApart}
use Rattle.bridge_model.specs.Calls.{Unwound}
use Rattle.bridge_model.specs.Ends.{tables_at_end, ends_by, runs_out}
use Rattle.bridge_model.specs.Going.{spells, spells_for, drains}
use Rattle.bridge_model.specs.Settings.{Setting}
use Rattle.bridge_model.specs.Sides.{Incoming, Object, Tables, Outgoing, Side, with_tables}
use Rattle.bridge_model.specs.Stacks.{stack_with, puts_frames, with_unwound}
use Rattle.bridge_model.specs.declared.cause.Cause.{Cause}
use Rattle.bridge_model.specs.declared.cause.Cause.TheVariants as cause
use Rattle.bridge_laws.specs.Telling.{AreRightlySaid}
use Rattle.bridge_laws.proofs.FramesFit.{FramesFit, UnwoundFits}
use Rattle.bridge_laws.proofs.TypedGiven.{IsGiven}
use Rattle.bridge_laws.proofs.Moves.{Moves}
use Rattle.bridge_laws.proofs.ObjectsFit.{Lasts}
use Rattle.bridge_laws.proofs.SideFits.{StackFits, Sided, SideFits}
use Rattle.bridge_laws.proofs.TablesFit.{TablesFit}
use Rattle.bridge_laws.proofs.LastingFits.{frames_last}
use Rattle.bridge_laws.proofs.TableLaws.{end_fits}

-- ---- stacks

frames_by : (g : Setting) (os : List Object) (b : Bool) (fs gs : List Frame) → FramesFit g os None fs → FramesFit g os None gs → FramesFit g os None (if b then fs else gs)
frames_by g os true fs gs p q = p
frames_by g os false fs gs p q = q

-- the frames of a thread fit
pub thread_frames : (g : Setting) (os : List Object) (tid : List ℕ) (ss : List Stack) → AllByRecursion (StackFits g os) ss → FramesFit g os None (frames_of tid ss)
unfolding frames_of FramesFit
thread_frames g os tid [] all = tt
thread_frames g os tid (s ∷ ss) all = frames_by g os (is_of tid s) s.frames (frames_of tid ss) all.0.frames (thread_frames g os tid ss all.1)

thread_by : (g : Setting) (os : List Object) (tid : List ℕ) (s : Stack) (f : Frame) (fs gs : List Frame) (b : Bool) → bytes_eq tid s.tid ≡ b → IsThread s.tid
    → (gs ≡ f ∷ fs → IsThread tid) → (if b then s.frames else gs) ≡ f ∷ fs → IsThread tid
thread_by g os tid s f fs gs true is thread behind there = subst IsThread (sym ((bytes_eq-Decides tid s.tid).0 is)) thread
thread_by g os tid s f fs gs false is thread behind there = behind there

-- a thread with frames is one
pub thread_is : (g : Setting) (os : List Object) (tid : List ℕ) (ss : List Stack) (f : Frame) (fs : List Frame) → AllByRecursion (StackFits g os) ss → frames_of tid ss ≡ f ∷ fs → IsThread tid
unfolding frames_of
thread_is g os tid [] f fs all there = absurd (cc)
thread_is g os tid (s ∷ ss) f fs all there =
    thread_by g os tid s f fs (frames_of tid ss) (bytes_eq tid s.tid) refl all.0.thread (thread_is g os tid ss f fs all.1) there

stack_with_fit : (g : Setting) (os : List Object) (tid : List ℕ) (fs : List Frame) (ss : List Stack) → IsThread tid → FramesFit g os None fs → AllByRecursion (StackFits g os) ss
    → AllByRecursion (StackFits g os) (stack_with tid fs ss)
stack_with_fit g os tid [] ss thread fit all = all
stack_with_fit g os tid (f ∷ fs) ss thread fit all = (record { thread = thread; frames = fit }, all)

put_by : (g : Setting) (os : List Object) (b : Bool) (new old : List Stack) (s : Stack) → AllByRecursion (StackFits g os) new → StackFits g os s → AllByRecursion (StackFits g os) old
    → AllByRecursion (StackFits g os) (if b then new else s ∷ old)
put_by g os true new old s p one q = p
put_by g os false new old s p one q = (one, q)

put_fit : (g : Setting) (os : List Object) (tid : List ℕ) (fs : List Frame) (ss : List Stack) → IsThread tid → FramesFit g os None fs → AllByRecursion (StackFits g os) ss
    → AllByRecursion (StackFits g os) (puts_frames tid fs ss)
unfolding puts_frames
put_fit g os tid fs [] thread fit all = stack_with_fit g os tid fs [] thread fit tt
put_fit g os tid fs (s ∷ ss) thread fit all =
    put_by g os (is_of tid s) (stack_with tid fs ss) (puts_frames tid fs ss) s (stack_with_fit g os tid fs ss thread fit all.1) all.0 (put_fit g os tid fs ss thread fit all.1)

pub stacks_last : (g : Setting) (os now : List Object) → Lasts g os now → (ss : List Stack) → AllByRecursion (StackFits g os) ss → AllByRecursion (StackFits g now) ss
stacks_last g os now lasts [] all = tt
stacks_last g os now lasts (s ∷ ss) all =
    (record { thread = all.0.thread; frames = frames_last g os now lasts None s.frames all.0.frames }, stacks_last g os now lasts ss all.1)

-- ---- sides

-- a thread was changed, and at most one object is new
pub moved_fits : (g : Setting) (most : ℕ) (tid : List ℕ) (u : Unwound) (s : Side) (fit : SideFits g most s) → IsThread tid → Moves g fit.os fit.made u
    → SideFits g (suc most) (with_unwound tid u s)
moved_fits g most tid u s fit thread moves =
    let before = fit.counted in let more = moves.most in let opened = fit.opened in
    record {
      os = moves.now;
      made = moves.count;
      objects = moves.objects;
      tables = moves.tables;
      stacks = put_fit g moves.now tid u.frames s.stacks thread moves.frames (stacks_last g fit.os moves.now moves.lasts s.stacks fit.stacks);
      apart = apart_put tid u.frames s.stacks fit.apart;
      heard = fit.heard;
      opened = let grows = moves.least in omega arith;
      counted = omega arith;
    }

-- a thread was changed, and no object
pub unwound_fits : (g : Setting) (most : ℕ) (tid : List ℕ) (u : Unwound) (s : Side) (fit : SideFits g most s) → IsThread tid → UnwoundFits g fit.os fit.made u
    → SideFits g most (with_unwound tid u s)
unwound_fits g most tid u s fit thread fits =
    record {
      os = fit.os;
      made = fit.made;
      objects = fit.objects;
      tables = fits.tables;
      stacks = put_fit g fit.os tid u.frames s.stacks thread fits.frames fit.stacks;
      apart = apart_put tid u.frames s.stacks fit.apart;
      heard = fit.heard;
      opened = fit.opened;
      counted = fit.counted;
    }

-- what came in is told otherwise
pub heard_fits : (g : Setting) (most : ℕ) (t : Tables) (ss : List Stack) (before now : Incoming) → IsHeard g.registry now.heard → Sided g most t ss before → Sided g most t ss now
heard_fits g most t ss before now is fit =
    record {
      os = fit.os;
      made = fit.made;
      objects = fit.objects;
      tables = fit.tables;
      stacks = fit.stacks;
      apart = fit.apart;
      heard = is;
      opened = fit.opened;
      counted = fit.counted;
    }

-- other tables with the same objects
pub tabled_fits : (g : Setting) (most : ℕ) (t : Tables) (s : Side) (fit : SideFits g most s) → TablesFit g fit.os fit.made t → SideFits g most (with_tables t s)
tabled_fits g most t s fit fits =
    record {
      os = fit.os;
      made = fit.made;
      objects = fit.objects;
      tables = fits;
      stacks = fit.stacks;
      apart = fit.apart;
      heard = fit.heard;
      opened = fit.opened;
      counted = fit.counted;
    }

pub later_fits : (g : Setting) (most : ℕ) (s : Side) → SideFits g most s → SideFits g (suc most) s
later_fits g most s fit =
    let before = fit.counted in
    record {
      os = fit.os;
      made = fit.made;
      objects = fit.objects;
      tables = fit.tables;
      stacks = fit.stacks;
      apart = fit.apart;
      heard = fit.heard;
      opened = fit.opened;
      counted = omega arith;
    }

-- ---- the end

pub ends_fits : (g : Setting) → IsGiven g → (most : ℕ) (why : Cause) (s : Side) → SideFits g most s → SideFits g most (ends_by why s)
unfolding ends_by AreApart
ends_fits g given most why s fit =
    record {
      os = fit.os;
      made = fit.made;
      objects = fit.objects;
      tables = end_fits g given fit.os fit.made why s.tables fit.tables;
      stacks = tt;
      apart = tt;
      heard = nothing_is_heard g.registry;
      opened = fit.opened;
      counted = fit.counted;
    }

forgotten : (g : Setting) (os : List Object) (made : ℕ) (t : Tables) → TablesFit g os made t → TablesFit g os made (record t { unsaid = [] })
forgotten g os made t fit = record { same = fit.same; counted = fit.counted; held = fit.held; sent = fit.sent; sayable = tt }

pub runs_out_fits : (g : Setting) → IsGiven g → (most : ℕ) (why : Option Cause) (s : Side) → SideFits g most s → SideFits g most (runs_out why s)
unfolding runs_out ends_by AreApart
runs_out_fits g given most None s fit =
    record {
      os = fit.os;
      made = fit.made;
      objects = fit.objects;
      tables = forgotten g fit.os fit.made (tables_at_end cause.NoMemory s.tables) (end_fits g given fit.os fit.made cause.NoMemory s.tables fit.tables);
      stacks = tt;
      apart = tt;
      heard = nothing_is_heard g.registry;
      opened = fit.opened;
      counted = fit.counted;
    }
runs_out_fits g given most (Some why) s fit =
    record {
      os = fit.os;
      made = fit.made;
      objects = fit.objects;
      tables = forgotten g fit.os fit.made s.tables fit.tables;
      stacks = fit.stacks;
      apart = fit.apart;
      heard = fit.heard;
      opened = fit.opened;
      counted = fit.counted;
    }

-- ---- draining

rest_by : (g : Setting) (b : Bool) (n : ℕ) (m : Message) (ms : List Message) (o : Outgoing) → AreRightlySaid g (m ∷ ms) → AreRightlySaid g (spells_for g.registry n ms (spells g.registry m o)).unsaid
    → AreRightlySaid g (if b then spells_for g.registry n ms (spells g.registry m o) else record { outgoing = o; unsaid = m ∷ ms }).unsaid
rest_by g true n m ms o all behind = behind
rest_by g false n m ms o all behind = all

rest_sayable : (g : Setting) (n : ℕ) (ms : List Message) (o : Outgoing) → AreRightlySaid g ms → AreRightlySaid g (spells_for g.registry n ms o).unsaid
unfolding spells_for
rest_sayable g n [] o all = tt
rest_sayable g n (m ∷ ms) o all = rest_by g _ n m ms o all (rest_sayable g n ms (spells g.registry m o) all.1)

pub drains_fits : (g : Setting) (most n : ℕ) (s : Side) → SideFits g most s → SideFits g most (drains g n s)
unfolding drains
drains_fits g most n s fit =
    record {
      os = fit.os;
      made = fit.made;
      objects = fit.objects;
      tables =
          record {
            same = fit.tables.same;
            counted = fit.tables.counted;
            held = fit.tables.held;
            sent = fit.tables.sent;
            sayable = rest_sayable g n s.tables.unsaid s.outgoing fit.tables.sayable;
          };
      stacks = fit.stacks;
      apart = fit.apart;
      heard = fit.heard;
      opened = fit.opened;
      counted = fit.counted;
    }
