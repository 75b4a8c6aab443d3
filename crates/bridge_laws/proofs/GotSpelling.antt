-- A side that got only what can be carried by bytes says only what can be, whatever bytes brought it.
use Rattle.std.proofs.Common.{◌≡◌, ℕ, zero, suc, ◌+◌, ◌-◌, Bool, true, false, if◌then◌else◌, List, [], ◌∷◌, ◌++◌, length, drop, Option, None, Some, Result, Ok, Err, refl, sym, subst}
use Rattle.std.specs.List.{AllByRecursion}
use Rattle.urp_model.specs.declared.fault.Fault.{Fault}
use Rattle.urp_model.specs.declared.reason.Reason.{Reason}
use Rattle.urp_model.specs.declared.reason.Reason.TheVariants.{LeftOver}
use Rattle.message_model.specs.Headers.{Heard}
use Rattle.message_model.specs.Messages.{Message}
use Rattle.message_model.specs.ReadingMessages.{message_at}
use Rattle.message_model.specs.ReadingStreams.{reason_of}
use Rattle.bridge_laws.proofs.Replays.{of_step}
use Rattle.bridge_model.specs.Entries.{Entry, fed, counts}
use Rattle.bridge_model.specs.Feeding.{block_stands, header_fault, Hearing, breaks, remembers, gets, block_ends, Next, hears_tested, hears_read, hears, heard_nothing, holds_bytes, takes_block, feeds_whole, feeds_part, feeds, count_said}
use Rattle.bridge_model.specs.Histories.{Told, nothing_told, told_more, told_by, tells, tells_all, replay, Leads}
use Rattle.bridge_model.specs.Receiving.{refusal}
use Rattle.bridge_model.specs.Settings.{Setting}
use Rattle.bridge_model.specs.Sides.{Incoming, Side}
use Rattle.bridge_model.specs.Stacks.{waits_of}
use Rattle.bridge_model.specs.Steps.{Turn, turn, step, may, does}
use Rattle.bridge_model.specs.declared.cause.Cause.TheVariants as cause
use Rattle.bridge_laws.specs.SpellableGiving.{IsGivenByRoot, AreGivenByRoots}
use Rattle.bridge_laws.specs.Holding.{MessageGoes}
use Rattle.bridge_laws.proofs.SpellableGiven.{IsGiven}
use Rattle.bridge_laws.proofs.ReceivingSpelling.{receives_spellable}
use Rattle.bridge_laws.proofs.SideSpelling.{SideSpellable, ends_spellable}
use Rattle.bridge_laws.proofs.StepSpelling.{EntryFits, said_spellable, counted_by, opening_spellable, does_spellable}
use Rattle.bridge_laws.proofs.ValueSpelling.{all_append}

-- ---- words

-- nothing is asked of what came in
abbrev pub Any : Incoming → Type 0
Any i = Unit

abbrev pub AllGo : List Message → Type 0
AllGo ms = AllByRecursion MessageGoes ms

pub all_front : {X : Type 0} (P : X → Type 0) (xs ys : List X) → AllByRecursion P (xs ++ ys) → AllByRecursion P xs
all_front P [] ys all = tt
all_front P (x ∷ xs) ys all = (all.0, all_front P xs ys all.1)

pub all_back : {X : Type 0} (P : X → Type 0) (xs ys : List X) → AllByRecursion P (xs ++ ys) → AllByRecursion P ys
all_back P [] ys all = all
all_back P (x ∷ xs) ys all = all_back P xs ys all.1

module _ (g : Setting) (given : IsGiven g) where
  -- ---- what is got stays got

  abbrev NextGrows : Next → Type 0
  NextGrows more = (place : ℕ) (bytes : List ℕ) (x : Hearing) → AllGo (more place bytes x).got → AllGo x.got

  ends_grow : (front : ℕ) (bytes : List ℕ) (x : Hearing) → AllGo (block_ends front bytes x).got → AllGo x.got
  ends_grow front [] x all = all
  ends_grow front (b ∷ bytes) x all = all

  tested_grows : (more : Next) (place next : ℕ) (read : Message × Heard × List ℕ) (why : Option Reason) (x : Hearing) → NextGrows more → AllGo (hears_tested g more place next read why x).got
      → AllGo x.got
  tested_grows more place next read None x grows all = all_front MessageGoes x.got (read.0 ∷ []) (grows next read.2 (gets g read.0 read.1 x) all)
  tested_grows more place next read (Some why) x grows all = all

  read_grows : (more : Next) (place : ℕ) (bytes : List ℕ) (read : Result (Message × Heard × List ℕ) Fault) (x : Hearing) → NextGrows more → AllGo (hears_read g more place bytes read x).got
      → AllGo x.got
  read_grows more place bytes (Err fault) x grows all = all
  read_grows more place bytes (Ok read) x grows all = tested_grows more place (place + (length bytes - length read.2)) read (refusal g x.side read.0) x grows all

  hears_grows : (n front : ℕ) → NextGrows (hears g n front)
  unfolding hears
  hears_grows zero front = λ place bytes x all. ends_grow front bytes x all
  hears_grows (suc n) front = λ place bytes x all.
      read_grows (hears g n front) place bytes (message_at g.registry (waits_of x.side.stacks) x.side.incoming.heard bytes) x (hears_grows n front) all

  -- ---- hearing

  breaks_keeps : (why : Reason) (place : ℕ) (x : Hearing) → SideSpellable Any x.side → SideSpellable Any (breaks why place x).side
  breaks_keeps why place x fine = ends_spellable Any tt (cause.Broken why place) x.side fine

  ends_keep : (front : ℕ) (bytes : List ℕ) (x : Hearing) → SideSpellable Any x.side → SideSpellable Any (block_ends front bytes x).side
  ends_keep front [] x fine = fine
  ends_keep front (b ∷ bytes) x fine = breaks_keeps LeftOver front x fine

  abbrev NextKeeps : Next → Type 0
  NextKeeps more = (place : ℕ) (bytes : List ℕ) (x : Hearing) → AllGo (more place bytes x).got → SideSpellable Any x.side → SideSpellable Any (more place bytes x).side

  remembers_keeps : (heard : Heard) (s : Side) → SideSpellable Any s → SideSpellable Any (remembers heard s)
  remembers_keeps heard s fine = record { tables = fine.tables; stacks = fine.stacks; comes = tt }

  tested_keeps : (more : Next) (place next : ℕ) (read : Message × Heard × List ℕ) (why : Option Reason) (x : Hearing) → NextGrows more → NextKeeps more
      → AllGo (hears_tested g more place next read why x).got → SideSpellable Any x.side → SideSpellable Any (hears_tested g more place next read why x).side
  tested_keeps more place next read None x grows keeps all fine =
      let one = all_back MessageGoes x.got (read.0 ∷ []) (grows next read.2 (gets g read.0 read.1 x) all) in
      keeps next read.2 (gets g read.0 read.1 x) all (receives_spellable g given Any read.0 (remembers read.1 x.side) one.0 (remembers_keeps read.1 x.side fine))
  tested_keeps more place next read (Some why) x grows keeps all fine = breaks_keeps why place x fine

  read_keeps : (more : Next) (place : ℕ) (bytes : List ℕ) (read : Result (Message × Heard × List ℕ) Fault) (x : Hearing) → NextGrows more → NextKeeps more
      → AllGo (hears_read g more place bytes read x).got → SideSpellable Any x.side → SideSpellable Any (hears_read g more place bytes read x).side
  read_keeps more place bytes (Err fault) x grows keeps all fine = breaks_keeps (reason_of fault) place x fine
  read_keeps more place bytes (Ok read) x grows keeps all fine =
      tested_keeps more place (place + (length bytes - length read.2)) read (refusal g x.side read.0) x grows keeps all fine

  hears_keeps : (n front : ℕ) → NextKeeps (hears g n front)
  unfolding hears
  hears_keeps zero front = λ place bytes x all fine. ends_keep front bytes x fine
  hears_keeps (suc n) front = λ place bytes x all fine.
      read_keeps (hears g n front) place bytes (message_at g.registry (waits_of x.side.stacks) x.side.incoming.heard bytes) x (hears_grows n front) (hears_keeps n front) all fine

  fed_by : (b : Bool) (whole part : Hearing) → (AllGo whole.got → SideSpellable Any whole.side) → SideSpellable Any part.side → AllGo (if b then whole else part).got
      → SideSpellable Any (if b then whole else part).side
  fed_by true whole part now later all = now all
  fed_by false whole part now later all = later

  part_keeps : (bytes : List ℕ) (why : Option Reason) (s : Side) → AllGo (feeds_part g bytes why s).got → SideSpellable Any s → SideSpellable Any (feeds_part g bytes why s).side
  part_keeps bytes (Some why) s all fine = breaks_keeps why s.incoming.place (heard_nothing s) fine
  part_keeps bytes None s all fine =
      fed_by (block_stands bytes) (feeds_whole g bytes s) (heard_nothing (holds_bytes bytes s))
      (λ got. hears_keeps (count_said bytes) s.incoming.place (s.incoming.place + 8) (drop 8 bytes) (heard_nothing (takes_block bytes s)) got
      (record { tables = fine.tables; stacks = fine.stacks; comes = tt }))
      (record { tables = fine.tables; stacks = fine.stacks; comes = tt }) all

  -- what a piece brings can be carried
  abbrev pub Brings : List ℕ → Side → Type 0
  Brings b s = AllGo (feeds g b s).got

  feeds_keeps : (b : List ℕ) (s : Side) → Brings b s → SideSpellable Any s → SideSpellable Any (feeds g b s).side
  unfolding feeds
  feeds_keeps b s all fine = part_keeps (s.incoming.held ++ b) (header_fault (s.incoming.held ++ b)) s all fine

  -- ---- steps

  brought : (e : Entry) (s : Side) → IsGivenByRoot e → AllGo (does g e s).got → EntryFits Brings e s
  unfolding does
  brought (fed b) s gives all = all
  brought e s gives all = gives

  pub record Holds (x : Told) : Type 0 where
    pub side : SideSpellable Any x.side
    pub said : AllGo x.said

  goes_on : (x : Told) (e : Entry) → IsGivenByRoot e → may g x.side e ≡ true → AllGo (does g e x.side).got → Holds x → Holds (told_more x e (turn e x.side (does g e x.side)))
  goes_on x e gives is all holds =
      let fine = does_spellable g given Any tt Brings feeds_keeps e x.side (brought e x.side gives all) is holds.side in
      record {
        side = counted_by Any (counts e) (does g e x.side).side fine;
        said = all_append MessageGoes x.said _ holds.said (said_spellable e x.side.tables.unsaid (does g e x.side).side.tables.unsaid fine.tables.said);
      }

  -- a step that brings only what can be carried says only what can be
  pub step_holds : (x : Told) (e : Entry) (u : Turn) → step g x.side e ≡ Some u → IsGivenByRoot e → AllGo u.got → Holds x → Holds (told_more x e u)
  step_holds x e u is gives all holds =
      of_step g x.side e u (λ v. AllGo v.got → Holds (told_more x e v)) (λ may_it got. goes_on x e gives may_it got holds) is all

  pub first_holds : Holds (nothing_told g)
  first_holds = record { side = opening_spellable Any g given tt; said = tt }

  -- ---- histories

  -- where all that was got can be carried
  abbrev HoldsWhere : Told → Type 0
  HoldsWhere x = AllGo x.got → Holds x

  told_holds : (x : Told) (e : Entry) (o : Option Turn) → IsGivenByRoot e → HoldsWhere x → o ≡ step g x.side e → (y : Told) → told_by x e o ≡ Some y → HoldsWhere y
  told_holds x e None gives holds is y to = absurd (cc)
  told_holds x e (Some u) gives holds is y to =
      subst HoldsWhere (cc) (λ all. step_holds x e u (sym is) gives (all_back MessageGoes x.got u.got all) (holds (all_front MessageGoes x.got u.got all)))

  along_got : (o : Option Told) (es : List Entry) → AreGivenByRoots es → ((x : Told) → o ≡ Some x → HoldsWhere x) → (y : Told) → tells_all g o es ≡ Some y → HoldsWhere y
  unfolding tells_all
  along_got None es gives holds y to = absurd (cc)
  along_got (Some x) [] gives holds y to = holds y to
  along_got (Some x) (e ∷ es) gives holds y to =
      along_got (tells g x e) es gives.1 (λ z is. told_holds x e (step g x.side e) gives.0 (holds x refl) refl z is) y to

  pub got_holds : (es : List Entry) (x : Told) → AreGivenByRoots es → Leads g es x → AllGo x.got → Holds x
  unfolding replay
  got_holds es x gives leads = along_got (Some (nothing_told g)) es gives (λ z is. subst HoldsWhere (cc) (λ all. first_holds)) x leads
