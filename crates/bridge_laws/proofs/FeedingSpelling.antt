-- Bytes that come in leave a side of which all can be carried by bytes.
use Rattle.std.proofs.Common.{◌≡◌, ℕ, zero, suc, ◌+◌, ◌-◌, Bool, true, false, if◌then◌else◌, List, [], ◌∷◌, ◌++◌, length, drop, Option, None, Some, Result, Ok, Err, refl, sym, subst, arith}
use Rattle.urp_model.specs.Blocks.{AreBytes}
use Rattle.urp_model.specs.declared.fault.Fault.{Fault}
use Rattle.urp_model.specs.declared.reason.Reason.{Reason}
use Rattle.urp_model.specs.declared.reason.Reason.TheVariants.{LeftOver}
use Rattle.urp_model.proofs.SpellableLaws.{bytes_parts}
use Rattle.message_model.specs.Arriving.{IsHeard, HearsTexts}
use Rattle.message_model.specs.Calls.{Waits}
use Rattle.message_model.specs.Headers.{Heard}
use Rattle.message_model.specs.Messages.{Message}
use Rattle.message_model.specs.ReadingMessages.{message_at}
use Rattle.message_model.specs.ReadingStreams.{reason_of}
use Rattle.message_model.proofs.MessageArrivalLaws.{message_fits}
use Rattle.message_model.proofs.MessageReadingLaws.{message_agrees}
use Rattle.message_model.proofs.SpellableMessageLaws.{message_spellable}
use Rattle.uno_model.specs.Entities.{Entity}
use Rattle.uno_model.specs.Sound.{IsSound}
use Rattle.bridge_model.specs.Feeding.{block_stands, header_fault, Hearing, breaks, remembers, gets, block_ends, Next, hears_tested, hears_read, hears, heard_nothing, holds_bytes, takes_block, feeds_whole, feeds_part, feeds, count_said}
use Rattle.bridge_model.specs.Receiving.{refusal}
use Rattle.bridge_model.specs.Settings.{Setting}
use Rattle.bridge_model.specs.Sides.{Side}
use Rattle.bridge_model.specs.Stacks.{waits_of}
use Rattle.bridge_model.specs.declared.cause.Cause.TheVariants as cause
use Rattle.bridge_laws.proofs.SpellableGiven.{IsGiven}
use Rattle.bridge_laws.specs.Holding.{MessageGoes}
use Rattle.bridge_laws.proofs.ReceivingSpelling.{message_comes, receives_spellable}
use Rattle.bridge_laws.proofs.SideSpelling.{Comes, nothing_comes, SideSpellable, ends_spellable}

-- ---- bytes

bytes_both : (p q : List ℕ) → AreBytes p → AreBytes q → AreBytes (p ++ q)
bytes_both [] q first second i = second i
bytes_both (b ∷ p) q first second zero = first 0
bytes_both (b ∷ p) q first second (suc i) = bytes_both p q (λ k. first (suc k)) second i

bytes_behind : (n : ℕ) (p : List ℕ) → AreBytes p → AreBytes (drop n p)
bytes_behind zero p bytes = bytes
bytes_behind (suc n) [] bytes = bytes
bytes_behind (suc n) (b ∷ p) bytes = bytes_behind n p (λ k. bytes (suc k))

-- ---- reading

-- what was read
record IsRead (reg : List Entity) (read : Message × Heard × List ℕ) : Type 0 where
  comes : MessageGoes read.0
  heard : IsHeard reg read.1
  texts : HearsTexts read.1
  rest : AreBytes read.2

read_is : (reg : List Entity) → IsSound reg → (waits : Waits) (heard : Heard) (bytes : List ℕ) (read : Message × Heard × List ℕ) → AreBytes bytes → IsHeard reg heard → HearsTexts heard
    → message_at reg waits heard bytes ≡ Ok read → IsRead reg read
read_is reg sound waits heard bytes read are is texts at =
    let spelled = (message_agrees reg waits heard sound.named).sound bytes read at in
    let parts = bytes_parts bytes spelled.1 spelled.2 spelled.4 are in
    let fits = message_fits reg sound waits heard spelled.0.0 spelled.1 spelled.0.1 is spelled.5 in
    let spells = message_spellable reg waits heard spelled.0.0 spelled.1 spelled.0.1 parts.0 texts spelled.5 in
    subst (IsRead reg) (sym spelled.3)
    (record { comes = message_comes reg sound.named spelled.0.0 fits.0 spells.0; heard = fits.1; texts = spells.1; rest = parts.1 })

module _ (g : Setting) (given : IsGiven g) where
  remembers_spellable : (heard : Heard) (s : Side) → IsHeard g.registry heard → HearsTexts heard → SideSpellable (Comes g.registry) s → SideSpellable (Comes g.registry) (remembers heard s)
  remembers_spellable heard s is texts fine =
      record { tables = fine.tables; stacks = fine.stacks; comes = record { held = fine.comes.held; heard = is; texts = texts } }

  breaks_spellable : (why : Reason) (place : ℕ) (x : Hearing) → SideSpellable (Comes g.registry) x.side → SideSpellable (Comes g.registry) (breaks why place x).side
  breaks_spellable why place x fine = ends_spellable (Comes g.registry) (nothing_comes g.registry) (cause.Broken why place) x.side fine

  block_ends_spellable : (front : ℕ) (bytes : List ℕ) (x : Hearing) → SideSpellable (Comes g.registry) x.side → SideSpellable (Comes g.registry) (block_ends front bytes x).side
  block_ends_spellable front [] x fine = fine
  block_ends_spellable front (b ∷ bytes) x fine = breaks_spellable LeftOver front x fine

  -- what is done behind a message keeps it
  abbrev NextSpellable : Next → Type 0
  NextSpellable more = (place : ℕ) (bytes : List ℕ) (x : Hearing) → AreBytes bytes → SideSpellable (Comes g.registry) x.side → SideSpellable (Comes g.registry) (more place bytes x).side

  tested_spellable : (more : Next) (place next : ℕ) (read : Message × Heard × List ℕ) (why : Option Reason) (x : Hearing) → IsRead g.registry read → NextSpellable more → SideSpellable (Comes g.registry) x.side
      → SideSpellable (Comes g.registry) (hears_tested g more place next read why x).side
  tested_spellable more place next read None x is behind fine =
      behind next read.2 (gets g read.0 read.1 x) is.rest
      (receives_spellable g given (Comes g.registry) read.0 (remembers read.1 x.side) is.comes (remembers_spellable read.1 x.side is.heard is.texts fine))
  tested_spellable more place next read (Some why) x is behind fine = breaks_spellable why place x fine

  read_spellable : (more : Next) (place : ℕ) (bytes : List ℕ) (read : Result (Message × Heard × List ℕ) Fault) (x : Hearing)
      → message_at g.registry (waits_of x.side.stacks) x.side.incoming.heard bytes ≡ read → AreBytes bytes → NextSpellable more → SideSpellable (Comes g.registry) x.side
      → SideSpellable (Comes g.registry) (hears_read g more place bytes read x).side
  read_spellable more place bytes (Err fault) x at are behind fine = breaks_spellable (reason_of fault) place x fine
  read_spellable more place bytes (Ok read) x at are behind fine =
      tested_spellable more place (place + (length bytes - length read.2)) read (refusal g x.side read.0) x
      (read_is g.registry given.sound (waits_of x.side.stacks) x.side.incoming.heard bytes read are fine.comes.heard fine.comes.texts at) behind fine

  hears_spellable : (n front : ℕ) → NextSpellable (hears g n front)
  unfolding hears
  hears_spellable zero front = λ place bytes x are fine. block_ends_spellable front bytes x fine
  hears_spellable (suc n) front = λ place bytes x are fine.
      read_spellable (hears g n front) place bytes (message_at g.registry (waits_of x.side.stacks) x.side.incoming.heard bytes) x refl are (hears_spellable n front) fine

  held_spellable : (bytes : List ℕ) (s : Side) → AreBytes bytes → SideSpellable (Comes g.registry) s → SideSpellable (Comes g.registry) (holds_bytes bytes s)
  held_spellable bytes s are fine =
      record { tables = fine.tables; stacks = fine.stacks; comes = record { held = are; heard = fine.comes.heard; texts = fine.comes.texts } }

  taken_spellable : (bytes : List ℕ) (s : Side) → SideSpellable (Comes g.registry) s → SideSpellable (Comes g.registry) (takes_block bytes s)
  taken_spellable bytes s fine =
      record { tables = fine.tables; stacks = fine.stacks; comes = record { held = λ i. omega arith; heard = fine.comes.heard; texts = fine.comes.texts } }

  fed_by : (b : Bool) (whole part : Hearing) → SideSpellable (Comes g.registry) whole.side → SideSpellable (Comes g.registry) part.side → SideSpellable (Comes g.registry) (if b then whole else part).side
  fed_by true whole part now later = now
  fed_by false whole part now later = later

  part_spellable : (bytes : List ℕ) (why : Option Reason) (s : Side) → AreBytes bytes → SideSpellable (Comes g.registry) s → SideSpellable (Comes g.registry) (feeds_part g bytes why s).side
  part_spellable bytes (Some why) s are fine = breaks_spellable why s.incoming.place (heard_nothing s) fine
  part_spellable bytes None s are fine =
      fed_by (block_stands bytes) (feeds_whole g bytes s) (heard_nothing (holds_bytes bytes s))
      (hears_spellable (count_said bytes) s.incoming.place (s.incoming.place + 8) (drop 8 bytes) (heard_nothing (takes_block bytes s)) (bytes_behind 8 bytes are) (taken_spellable bytes s fine))
      (held_spellable bytes s are fine)

  pub feeds_spellable : (piece : List ℕ) (s : Side) → AreBytes piece → SideSpellable (Comes g.registry) s → SideSpellable (Comes g.registry) (feeds g piece s).side
  unfolding feeds
  feeds_spellable piece s are fine =
      part_spellable (s.incoming.held ++ piece) (header_fault (s.incoming.held ++ piece)) s (bytes_both s.incoming.held piece fine.comes.held are) fine
