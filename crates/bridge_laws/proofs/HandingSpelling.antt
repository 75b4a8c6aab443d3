-- Answers that are handed down, and exceptions that go through frames, leave what can be carried by bytes.
use Rattle.std.proofs.Common.{ℕ, Bool, true, false, not, if◌then◌else◌, List, [], ◌∷◌, ◌++◌, Option, None, Some}
use Rattle.std.specs.List.{AllByRecursion}
use Rattle.std.specs.Str.{bytes_eq}
use Rattle.message_model.specs.Messages.{Answer, returned, raised, reply}
use Rattle.uno_model.specs.Entities.{Entity, Field}
use Rattle.uno_model.specs.Kinds.{Kind}
use Rattle.uno_model.specs.Kinds as kd
use Rattle.uno_model.specs.Reaches.{is_base_of}
use Rattle.uno_model.specs.Spellable.{IsSpellableRef, IsSpellable}
use Rattle.uno_model.specs.Values.{Ref, null, Plain, refs}
use Rattle.uno_model.specs.Values as v
use Rattle.table_model.specs.declared.holder.Holder.{Holder}
use Rattle.table_model.specs.declared.holder.Holder.TheVariants as holder
use Rattle.plan_model.specs.Expressions.{Argument, into, out, both}
use Rattle.plan_model.specs.Frames.{Variable, Body, Frame, base, body, outgoing}
use Rattle.plan_model.specs.Holdings.{put, without, with_variable, Taken, takes, takes_outs, takes_result, takes_answer, takes_reference, reference_of, is_taken, let_go_at_end, goes_on}
use Rattle.plan_model.specs.Leaving.{leaving_frame}
use Rattle.plan_model.specs.Statements.{Call, Statement, call, query}
use Rattle.bridge_model.specs.Calls.{Unwound, unwound}
use Rattle.bridge_model.specs.Handing.{statement_at, taken_by, goes_on_with, root_gets, lets_go_frame, answers_peer, holder_of, gains_with, gains_below, takes_with, takes_below, hands_over, hands, after_letting_go, hands_down, ends_frame, hands_from_peer}
use Rattle.bridge_model.specs.References.{says, refs_of_answer}
use Rattle.bridge_model.specs.Settings.{Setting, own_oid}
use Rattle.bridge_model.specs.Sides.{answer, RootState, waits_query, answered, Tables, state_of, with_root}
use Rattle.bridge_laws.specs.Holding.{AnswerGoes}
use Rattle.bridge_laws.proofs.EffectSpelling.{leaving_frame_goes}
use Rattle.bridge_laws.proofs.EvaluationSpelling.{VariablesSpellable}
use Rattle.bridge_laws.proofs.JobSpelling.{all_filtered}
use Rattle.bridge_laws.proofs.TableSpelling.{TablesSpellable, answer_refs, says_spellable, gains_all_spellable, takes_all_spellable, lets_go_all_spellable, with_root_spellable}
use Rattle.bridge_laws.proofs.ValueSpelling.{AllSpellable, RefsSpellable, all_append, ref_spellable}

-- ---- words

abbrev pub FrameSpellable : Frame → Type 0
FrameSpellable (base root) = Unit
FrameSpellable (body b) = VariablesSpellable b.variables
FrameSpellable (outgoing o) = Unit

abbrev pub FramesSpellable : List Frame → Type 0
FramesSpellable fs = AllByRecursion FrameSpellable fs

pub record UnwoundSpellable (u : Unwound) : Type 0 where
  pub frames : FramesSpellable u.frames
  pub tables : TablesSpellable u.tables

-- ---- variables

pub with_spellable : (name : List ℕ) (x : Plain) (xs : List Variable) → IsSpellable x → VariablesSpellable xs → VariablesSpellable (with_variable name x xs)
with_spellable name x xs is all = all_append (λ (y : Variable). IsSpellable y.value) xs (record { name = name; value = x } ∷ []) all (is, tt)

put_by : (b : Bool) (name : List ℕ) (x : Plain) (y : Variable) (xs ys : List Variable) → IsSpellable x → IsSpellable y.value → VariablesSpellable xs → VariablesSpellable ys
    → VariablesSpellable (if b then record { name = name; value = x } ∷ ys else y ∷ xs)
put_by true name x y xs ys is here put there = (is, there)
put_by false name x y xs ys is here put there = (here, put)

pub put_spellable : (name : List ℕ) (x : Plain) (xs : List Variable) → IsSpellable x → VariablesSpellable xs → VariablesSpellable (put name x xs)
unfolding put
put_spellable name x [] is all = tt
put_spellable name x (y ∷ ys) is all = put_by (bytes_eq name y.name) y.name x y (put name x ys) ys is all.0 (put_spellable name x ys is all.1) all.1

pub without_spellable : (name : List ℕ) (xs : List Variable) → VariablesSpellable xs → VariablesSpellable (without name xs)
without_spellable name xs all = all_filtered (λ (y : Variable). IsSpellable y.value) (λ x. not (bytes_eq name x.name)) xs all

-- ---- what an answer becomes

outs_taken : (args : List Argument) (xs : List Plain) (t : Taken) → AllSpellable xs → VariablesSpellable t.variables → VariablesSpellable (takes_outs args xs t).variables
unfolding takes_outs
outs_taken [] xs t all fine = fine
outs_taken (into a ∷ args) xs t all fine = outs_taken args xs t all fine
outs_taken (out name ∷ args) [] t all fine = fine
outs_taken (out name ∷ args) (x ∷ xs) t all fine = outs_taken args xs (takes name x t) all.1 (put_spellable name x t.variables all.0 fine)
outs_taken (both name ∷ args) [] t all fine = fine
outs_taken (both name ∷ args) (x ∷ xs) t all fine = outs_taken args xs (takes name x t) all.1 (put_spellable name x t.variables all.0 fine)

result_taken : (to : Option Field) (x : Plain) (xs : List Variable) → IsSpellable x → VariablesSpellable xs → VariablesSpellable (takes_result to x xs).variables
result_taken None x xs is fine = fine
result_taken (Some f) x xs is fine = with_spellable f.name x xs is fine

answer_taken : (c : Call) (x : Plain) (outs : List Plain) (xs : List Variable) → IsSpellable x → AllSpellable outs → VariablesSpellable xs → VariablesSpellable (takes_answer c x outs xs).variables
unfolding takes_answer
answer_taken c x outs xs is all fine = outs_taken c.arguments outs (takes_result c.to x xs) all (result_taken c.to x xs is fine)

null_or : (b : Bool) (r : Ref) → IsSpellableRef r → IsSpellableRef (if b then r else null)
null_or true r fine = fine
null_or false r fine = tt

pub reference_spellable : (reg : List Entity) (wanted : List ℕ) (x : Plain) → IsSpellable x → IsSpellableRef (reference_of reg wanted x)
unfolding IsSpellable
reference_spellable reg wanted (v.any (kd.interface face) (v.ref r)) fine = null_or (is_base_of reg wanted face) r fine
reference_spellable reg wanted x fine = tt

reference_taken : (reg : List Entity) (wanted to : List ℕ) (x : Plain) (xs : List Variable) → IsSpellable x → VariablesSpellable xs
    → VariablesSpellable (takes_reference reg wanted to x xs).variables
unfolding takes_reference
reference_taken reg wanted to x xs is fine =
    with_spellable to (v.ref (reference_of reg wanted x)) xs (ref_spellable (reference_of reg wanted x) (reference_spellable reg wanted x is)) fine

taken_spellable : (g : Setting) (s : Option Statement) (x : Plain) (outs : List Plain) (xs : List Variable) → IsSpellable x → AllSpellable outs → VariablesSpellable xs
    → VariablesSpellable (taken_by g s x outs xs).variables
taken_spellable g (Some (call c)) x outs xs is all fine = answer_taken c x outs xs is all fine
taken_spellable g (Some (query q)) x outs xs is all fine = reference_taken g.registry q.wanted q.to x xs is fine
taken_spellable g s x outs xs is all fine = fine

-- ---- frames

pub frame_goes_on : (xs : List Variable) (b : Body) → VariablesSpellable xs → FrameSpellable (body (goes_on xs b))
unfolding goes_on
frame_goes_on xs b fine = fine

goes_on_spellable : (g : Setting) (b : Body) (x : Plain) (outs : List Plain) (fs : List Frame) (t : Tables) → IsSpellable x → AllSpellable outs → VariablesSpellable b.variables → FramesSpellable fs
    → TablesSpellable t → UnwoundSpellable (goes_on_with g b x outs fs t)
unfolding goes_on_with
goes_on_spellable g b x outs fs t is all variables frames fine =
    let taken = taken_by g (statement_at g t.objects b) x outs b.variables in
    record {
      frames = (frame_goes_on taken.variables b (taken_spellable g (statement_at g t.objects b) x outs b.variables is all variables), frames);
      tables = lets_go_all_spellable g (holder.Frame b.number) taken.let_go t fine;
    }

pub root_gets_spellable : (g : Setting) (root : ℕ) (s : RootState) (a : Answer) (t : Tables) → AnswerGoes a → TablesSpellable t → TablesSpellable (root_gets g root s a t)
unfolding root_gets
root_gets_spellable g root (waits_query wanted) (returned x outs) t is fine =
    lets_go_all_spellable g (holder.Root root) (if is_taken g.registry wanted x then [] else refs x)
    (with_root root (answered (answer (returned (v.ref (reference_of g.registry wanted x)) []))) t)
    (with_root_spellable root (answered (answer (returned (v.ref (reference_of g.registry wanted x)) []))) t
    (ref_spellable (reference_of g.registry wanted x) (reference_spellable g.registry wanted x is.0), tt) fine)
root_gets_spellable g root s a t is fine = with_root_spellable root (answered (answer a)) t is fine

lets_frame_spellable : (g : Setting) (b : Body) (extra : List Ref) (t : Tables) → TablesSpellable t → TablesSpellable (lets_go_frame g b extra t)
lets_frame_spellable g b extra t fine = lets_go_all_spellable g (holder.Frame b.number) (extra ++ let_go_at_end (own_oid g b.object) b) t fine

answers_spellable : (g : Setting) (tid : List ℕ) (b : Body) (extra : List Ref) (a : Answer) (t : Tables) → AnswerGoes a → TablesSpellable t → TablesSpellable (answers_peer g tid b extra a t)
answers_spellable g tid b extra a t is fine =
    lets_frame_spellable g b extra (says g (reply tid b.face b.function a) t) (says_spellable g (reply tid b.face b.function a) t is fine)

gains_with_spellable : (h : Option Holder) (rs : List Ref) (t : Tables) → RefsSpellable rs → TablesSpellable t → TablesSpellable (gains_with h rs t)
gains_with_spellable None rs t are fine = fine
gains_with_spellable (Some h) rs t are fine = gains_all_spellable h rs t are fine

pub gains_below_spellable : (fs : List Frame) (a : Answer) (t : Tables) → AnswerGoes a → TablesSpellable t → TablesSpellable (gains_below fs a t)
gains_below_spellable [] a t is fine = fine
gains_below_spellable (f ∷ fs) a t is fine = gains_with_spellable (holder_of f) (refs_of_answer a) t (answer_refs a is) fine

takes_with_spellable : (g : Setting) (h : Option Holder) (rs : List Ref) (t : Tables) → RefsSpellable rs → TablesSpellable t → TablesSpellable (takes_with g h rs t)
takes_with_spellable g None rs t are fine = fine
takes_with_spellable g (Some h) rs t are fine = takes_all_spellable g h rs t are fine

takes_below_spellable : (g : Setting) (fs : List Frame) (a : Answer) (t : Tables) → AnswerGoes a → TablesSpellable t → TablesSpellable (takes_below g fs a t)
takes_below_spellable g [] a t is fine = fine
takes_below_spellable g (f ∷ fs) a t is fine = takes_with_spellable g (holder_of f) (refs_of_answer a) t (answer_refs a is) fine

hands_over_spellable : (g : Setting) (b : Body) (extra : List Ref) (a : Answer) (fs : List Frame) (t : Tables) → AnswerGoes a → TablesSpellable t → TablesSpellable (hands_over g b extra a fs t)
hands_over_spellable g b extra a fs t is fine = lets_frame_spellable g b extra (gains_below fs a t) (gains_below_spellable fs a t is fine)

-- ---- handing

pub unwound_by : (b : Bool) (u w : Unwound) → UnwoundSpellable u → UnwoundSpellable w → UnwoundSpellable (if b then u else w)
unwound_by true u w p q = p
unwound_by false u w p q = q

pub hands_spellable : (g : Setting) (tid : List ℕ) (a : Answer) (fs : List Frame) (t : Tables) → AnswerGoes a → FramesSpellable fs → TablesSpellable t → UnwoundSpellable (hands g tid a fs t)
unfolding hands
hands_spellable g tid a [] t is frames fine = record { frames = tt; tables = fine }
hands_spellable g tid a (base root ∷ fs) t is frames fine = record { frames = tt; tables = root_gets_spellable g root (state_of root t.roots) a t is fine }
hands_spellable g tid a (outgoing o ∷ fs) t is frames fine = record { frames = frames; tables = fine }
hands_spellable g tid (returned x outs) (body b ∷ fs) t is frames fine = goes_on_spellable g b x outs fs t is.0 is.1 frames.0 frames.1 fine
hands_spellable g tid (raised k x) (body b ∷ fs) t is frames fine =
    let leaves = leaving_frame_goes g.registry tid b (raised k x) is in
    unwound_by b.from_peer
    (unwound fs (answers_peer g tid b (refs x) (leaving_frame g.registry tid b (raised k x)) t))
    (hands g tid (leaving_frame g.registry tid b (raised k x)) fs (hands_over g b (refs x) (leaving_frame g.registry tid b (raised k x)) fs t))
    (record { frames = frames.1; tables = answers_spellable g tid b (refs x) (leaving_frame g.registry tid b (raised k x)) t leaves fine })
    (hands_spellable g tid (leaving_frame g.registry tid b (raised k x)) fs (hands_over g b (refs x) (leaving_frame g.registry tid b (raised k x)) fs t) leaves frames.1
    (hands_over_spellable g b (refs x) (leaving_frame g.registry tid b (raised k x)) fs t leaves fine))

after_spellable : (g : Setting) (b : Body) (u : Unwound) → UnwoundSpellable u → UnwoundSpellable (after_letting_go g b u)
after_spellable g b u fine = record { frames = fine.frames; tables = lets_frame_spellable g b [] u.tables fine.tables }

hands_down_spellable : (g : Setting) (tid : List ℕ) (b : Body) (a : Answer) (fs : List Frame) (t : Tables) → AnswerGoes a → FramesSpellable fs → TablesSpellable t
    → UnwoundSpellable (hands_down g tid b a fs t)
hands_down_spellable g tid b (returned x outs) fs t is frames fine =
    after_spellable g b (hands g tid (returned x outs) fs (gains_below fs (returned x outs) t))
    (hands_spellable g tid (returned x outs) fs (gains_below fs (returned x outs) t) is frames (gains_below_spellable fs (returned x outs) t is fine))
hands_down_spellable g tid b (raised k x) fs t is frames fine =
    hands_spellable g tid (raised k x) fs (hands_over g b [] (raised k x) fs t) is frames (hands_over_spellable g b [] (raised k x) fs t is fine)

-- the frame of a method ends with what leaves it
pub ends_frame_spellable : (g : Setting) (tid : List ℕ) (b : Body) (a : Answer) (fs : List Frame) (t : Tables) → AnswerGoes a → FramesSpellable fs → TablesSpellable t
    → UnwoundSpellable (ends_frame g tid b a fs t)
unfolding ends_frame
ends_frame_spellable g tid b a fs t is frames fine =
    unwound_by b.from_peer (unwound fs (answers_peer g tid b [] a t)) (hands_down g tid b a fs t)
    (record { frames = frames; tables = answers_spellable g tid b [] a t is fine })
    (hands_down_spellable g tid b a fs t is frames fine)

pub hands_from_spellable : (g : Setting) (tid : List ℕ) (a : Answer) (fs : List Frame) (t : Tables) → AnswerGoes a → FramesSpellable fs → TablesSpellable t
    → UnwoundSpellable (hands_from_peer g tid a fs t)
unfolding hands_from_peer
hands_from_spellable g tid a fs t is frames fine = hands_spellable g tid a fs (takes_below g fs a t) is frames (takes_below_spellable g fs a t is fine)
