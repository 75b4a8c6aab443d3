-- A message of the peer's leaves what can be carried by bytes, where the message itself can.
use Rattle.std.proofs.Common.{◌≡◌, ℕ, ◌==◌, Bool, true, false, if◌then◌else◌, List, [], ◌∷◌}
use Rattle.std.specs.List.{list_all}
use Rattle.std.specs.Str.{IsUtf8}
use Rattle.std.proofs.lemmas.Bool.{and_parts}
use Rattle.message_model.specs.Arriving.{MessageFits}
use Rattle.message_model.specs.Messages.{Answer, returned, raised, Message, request, release, reply}
use Rattle.message_model.specs.Sayable.{AnswerFits, AnswerSpellable, MessageSpellable}
use Rattle.uno_model.specs.Entities.{Entity}
use Rattle.uno_model.specs.Fits.{Fits}
use Rattle.uno_model.specs.Functions.{Function}
use Rattle.uno_model.specs.Kinds.{Kind, name_of}
use Rattle.uno_model.specs.Kinds as kd
use Rattle.uno_model.specs.Sound.{is_named, kind_known, elements_storable, is_namable}
use Rattle.uno_model.specs.Spellable.{IsSpellableRef, IsSpellable, AreSpellable}
use Rattle.uno_model.specs.Types.{is_formed}
use Rattle.uno_model.specs.Values.{Ref, own, peer, Plain, Plains}
use Rattle.uno_model.specs.Values as v
use Rattle.urp_model.proofs.Utf8Laws.{utf8_of_ascii, name_ascii}
use Rattle.table_model.specs.Pair.{pair}
use Rattle.table_model.specs.Stubs.{released_one}
use Rattle.plan_model.specs.Frames.{Frame, frames_of}
use Rattle.bridge_model.specs.Calls.{serves}
use Rattle.bridge_model.specs.Handing.{hands_from_peer}
use Rattle.bridge_model.specs.Objects.{object_answer, name_answer}
use Rattle.bridge_model.specs.Receiving.{asked_kind, answer_to, answers_at_once, below_top, receives}
use Rattle.bridge_model.specs.References.{home_value, home_values, each_home, home_answer}
use Rattle.bridge_model.specs.Settings.{Setting, is_own, ref_of, at_home}
use Rattle.bridge_model.specs.Sides.{Incoming, Side, Tables, on_tables}
use Rattle.bridge_model.specs.Stacks.{with_unwound}
use Rattle.bridge_laws.proofs.CallSpelling.{serves_spellable}
use Rattle.bridge_laws.specs.Holding.{AnswerGoes, MessageGoes}
use Rattle.bridge_laws.proofs.EvaluationSpelling.{value_by}
use Rattle.bridge_laws.proofs.SpellableGiven.{IsGiven}
use Rattle.bridge_laws.proofs.HandingSpelling.{FramesSpellable, hands_from_spellable}
use Rattle.bridge_laws.proofs.ObjectSpelling.{object_answers, name_answers}
use Rattle.bridge_laws.proofs.SideSpelling.{SideSpellable, thread_spellable, unwound_spellable, tabled_spellable}
use Rattle.bridge_laws.proofs.TableSpelling.{TablesSpellable, says_spellable}
use Rattle.bridge_laws.proofs.ValueSpelling.{AllSpellable, from_plains}

-- ---- what was read

raised_known : (reg : List Entity) (k : Kind) (x : Plain) → Fits reg (v.any k x) kd.any → kind_known reg k ≡ true
unfolding Fits
raised_known reg k x fits = (and_parts (kind_known reg k) (elements_storable k) (and_parts (is_formed reg k) (is_namable k) fits.2).0).0

answer_comes : (reg : List Entity) → list_all is_named reg ≡ true → (f : Function) (a : Answer) → AnswerFits reg f a → AnswerSpellable a → AnswerGoes a
answer_comes reg named f (returned x outs) fits is = (is.0, from_plains outs is.1)
answer_comes reg named f (raised k x) fits is = (utf8_of_ascii (name_of k) (name_ascii reg k named (raised_known reg k x fits.1)), is)

-- a message that was read comes so
pub message_comes : (reg : List Entity) → list_all is_named reg ≡ true → (m : Message) → MessageFits reg m → MessageSpellable m → MessageGoes m
message_comes reg named (request tid oid face function args) fits is = (is.0, from_plains args is.1)
message_comes reg named (release tid oid face) fits is = is
message_comes reg named (reply tid face function a) fits is = answer_comes reg named fits.1.f a fits.1.fits is

-- ---- values as they are here

ref_by : (b : Bool) (oid face : List ℕ) → IsUtf8 oid → IsSpellableRef (if b then own oid face else peer oid face)
ref_by true oid face fine = fine
ref_by false oid face fine = fine

pub ref_of_spellable : (g : Setting) (oid face : List ℕ) → IsUtf8 oid → IsSpellableRef (ref_of g oid face)
unfolding ref_of
ref_of_spellable g oid face fine = ref_by (is_own g oid) oid face fine

home_ref : (g : Setting) (r : Ref) → IsSpellableRef r → IsSpellableRef (at_home g r)
home_ref g v.null fine = tt
home_ref g (own oid face) fine = ref_of_spellable g oid face fine
home_ref g (peer oid face) fine = ref_of_spellable g oid face fine

mutual
  unfolding home_value home_values IsSpellable AreSpellable

  home_spellable : (g : Setting) (x : Plain) → IsSpellable x → IsSpellable (home_value g x)
  home_spellable g (v.any k x) fine = home_spellable g x fine
  home_spellable g (v.tuple name xs) fine = homes_spellable g xs fine
  home_spellable g (v.list k xs) fine = homes_spellable g xs fine
  home_spellable g (v.ref r) fine = home_ref g r fine
  home_spellable g x fine = fine

  homes_spellable : (g : Setting) (xs : Plains) → AreSpellable xs → AreSpellable (home_values g xs)
  homes_spellable g v.none fine = tt
  homes_spellable g (v.more x xs) fine = (home_spellable g x fine.0, homes_spellable g xs fine.1)

each_spellable : (g : Setting) (xs : List Plain) → AllSpellable xs → AllSpellable (each_home g xs)
unfolding each_home
each_spellable g [] all = tt
each_spellable g (x ∷ xs) all = (home_spellable g x all.0, each_spellable g xs all.1)

answer_home : (g : Setting) (a : Answer) → AnswerGoes a → AnswerGoes (home_answer g a)
unfolding home_answer
answer_home g (returned x outs) is = (home_spellable g x is.0, each_spellable g outs is.1)
answer_home g (raised k x) is = (is.0, home_spellable g x is.1)

-- ---- what it does

below_spellable : (fs : List Frame) → FramesSpellable fs → FramesSpellable (below_top fs)
below_spellable [] fine = tt
below_spellable (f ∷ fs) fine = fine.1

module _ (g : Setting) (given : IsGiven g) where
  answered_at_once : (tid oid face : List ℕ) (args : List Plain) (t : Tables) → IsUtf8 oid → TablesSpellable t → TablesSpellable (answers_at_once g tid oid face args t)
  unfolding AreSpellable
  answered_at_once tid oid face args t text fine =
      says_spellable g (reply tid face 0 (returned (answer_to g oid (asked_kind args) t.objects) [])) t (
        value_by (is_own g oid) (object_answer g oid (asked_kind args) t.objects) (name_answer g oid (asked_kind args) t.objects) (object_answers g given oid (asked_kind args) t.objects text)
            (name_answers g given oid (asked_kind args) t.objects),
        tt,
      ) fine

  side_by : (C : Incoming → Type 0) (b : Bool) (s u : Side) → SideSpellable C s → SideSpellable C u → SideSpellable C (if b then s else u)
  side_by C true s u p q = p
  side_by C false s u p q = q

  pub receives_spellable : (C : Incoming → Type 0) (m : Message) (s : Side) → MessageGoes m → SideSpellable C s → SideSpellable C (receives g m s)
  unfolding receives
  receives_spellable C (release tid oid face) s is fine =
      tabled_spellable C (record s.tables { stubs = released_one (pair oid face) s.tables.stubs }) s
      (record { fields = fine.tables.fields; held = fine.tables.held; states = fine.tables.states; said = fine.tables.said }) fine
  receives_spellable C (request tid oid face function args) s is fine =
      side_by C (function == 0) (on_tables (answers_at_once g tid oid face args) s)
      (with_unwound tid (serves g oid face function (each_home g args) (frames_of tid s.stacks) s.tables) s)
      (tabled_spellable C (answers_at_once g tid oid face args s.tables) s (answered_at_once tid oid face args s.tables is.0 fine.tables) fine)
      (unwound_spellable C tid (serves g oid face function (each_home g args) (frames_of tid s.stacks) s.tables) s
      (serves_spellable g given oid face function (each_home g args) (frames_of tid s.stacks) s.tables (each_spellable g args is.1) (thread_spellable tid s.stacks fine.stacks) fine.tables) fine)
  receives_spellable C (reply tid face function a) s is fine =
      unwound_spellable C tid (hands_from_peer g tid (home_answer g a) (below_top (frames_of tid s.stacks)) s.tables) s
      (hands_from_spellable g tid (home_answer g a) (below_top (frames_of tid s.stacks)) s.tables (answer_home g a is)
      (below_spellable (frames_of tid s.stacks) (thread_spellable tid s.stacks fine.stacks)) fine.tables) fine
