-- Bytes that come in leave a side of which all may be said.
use Rattle.std.proofs.Common.{◌≡◌, ℕ, zero, suc, ◌+◌, ◌-◌, Bool, true, false, if◌then◌else◌, List, [], ◌∷◌, ◌++◌, length, drop, Option, None, Some, Result, Ok, Err, refl, ◌∙◌}
use Rattle.message_model.specs.Arriving.{IsHeard}
use Rattle.message_model.specs.Headers.{Heard}
use Rattle.message_model.specs.Messages.{Message, request, release, reply}
use Rattle.message_model.specs.ReadingMessages.{message_at}
use Rattle.message_model.specs.ReadingStreams.{reason_of}
use Rattle.urp_model.specs.declared.fault.Fault.{Fault}
use Rattle.urp_model.specs.declared.reason.Reason.{Reason}
use Rattle.urp_model.specs.declared.reason.Reason.TheVariants.{LeftOver}
use Rattle.bridge_model.specs.Feeding.{block_stands, header_fault, Hearing, breaks, remembers, gets, block_ends, Next, hears_tested, hears_read, hears, heard_nothing, holds_bytes, takes_block, feeds_whole, feeds_part, feeds, count_said}
use Rattle.bridge_model.specs.Receiving.{refusal}
use Rattle.bridge_model.specs.Settings.{Setting}
use Rattle.bridge_model.specs.Sides.{Side}
use Rattle.bridge_model.specs.Stacks.{waits_of}
use Rattle.bridge_model.specs.declared.cause.Cause.TheVariants as cause
use Rattle.bridge_laws.proofs.TypedGiven.{IsGiven}
use Rattle.bridge_laws.proofs.SideFits.{SideFits}
use Rattle.bridge_laws.proofs.ReadingFits.{IsRead, read_is}
use Rattle.bridge_laws.proofs.ReceivingFits.{receives_fits}
use Rattle.bridge_laws.proofs.FittingSideLaws.{ends_fits, heard_fits}

module _ (g : Setting) (given : IsGiven g) (most : ℕ) where
  -- what is remembered of messages changes no test
  remembered : (heard : Heard) (m : Message) (s : Side) → refusal g (remembers heard s) m ≡ refusal g s m
  unfolding refusal
  remembered heard (release tid oid face) s = refl
  remembered heard (request tid oid face function args) s = refl
  remembered heard (reply tid face function a) s = refl

  remembers_fits : (heard : Heard) (s : Side) → IsHeard g.registry heard → SideFits g most s → SideFits g most (remembers heard s)
  remembers_fits heard s is fit =
      heard_fits g most s.tables s.stacks s.incoming (record s.incoming { heard = heard }) is fit

  breaks_fits : (why : Reason) (place : ℕ) (x : Hearing) → SideFits g most x.side → SideFits g most (breaks why place x).side
  breaks_fits why place x fit = ends_fits g given most (cause.Broken why place) x.side fit

  block_ends_fits : (front : ℕ) (bytes : List ℕ) (x : Hearing) → SideFits g most x.side → SideFits g most (block_ends front bytes x).side
  block_ends_fits front [] x fit = fit
  block_ends_fits front (b ∷ bytes) x fit = breaks_fits LeftOver front x fit

  -- what is done behind a message keeps it
  abbrev NextFits : Next → Type 0
  NextFits more = (place : ℕ) (bytes : List ℕ) (x : Hearing) → SideFits g most x.side → SideFits g most (more place bytes x).side

  tested_fits : (more : Next) (place next : ℕ) (read : Message × Heard × List ℕ) (why : Option Reason) (x : Hearing) → refusal g x.side read.0 ≡ why
      → IsRead g.registry (waits_of x.side.stacks) read → NextFits more → SideFits g most x.side → SideFits g most (hears_tested g more place next read why x).side
  tested_fits more place next read None x tested is behind fit =
      behind next read.2 (gets g read.0 read.1 x)
      (receives_fits g given most read.0 (remembers read.1 x.side) is.fits is.awaited (remembered read.1 read.0 x.side ∙ tested) (remembers_fits read.1 x.side is.heard fit))
  tested_fits more place next read (Some why) x tested is behind fit = breaks_fits why place x fit

  read_fits : (more : Next) (place : ℕ) (bytes : List ℕ) (read : Result (Message × Heard × List ℕ) Fault) (x : Hearing)
      → message_at g.registry (waits_of x.side.stacks) x.side.incoming.heard bytes ≡ read → NextFits more → SideFits g most x.side
      → SideFits g most (hears_read g more place bytes read x).side
  read_fits more place bytes (Err fault) x at behind fit = breaks_fits (reason_of fault) place x fit
  read_fits more place bytes (Ok read) x at behind fit =
      tested_fits more place (place + (length bytes - length read.2)) read (refusal g x.side read.0) x refl
      (read_is g.registry given.sound (waits_of x.side.stacks) x.side.incoming.heard bytes read fit.heard at) behind fit

  hears_fits : (n front : ℕ) → NextFits (hears g n front)
  unfolding hears
  hears_fits zero front place bytes x fit = block_ends_fits front bytes x fit
  hears_fits (suc n) front place bytes x fit =
      read_fits (hears g n front) place bytes (message_at g.registry (waits_of x.side.stacks) x.side.incoming.heard bytes) x refl (hears_fits n front) fit

  held_fits : (bytes : List ℕ) (s : Side) → SideFits g most s → SideFits g most (holds_bytes bytes s)
  held_fits bytes s fit =
      heard_fits g most s.tables s.stacks s.incoming (record s.incoming { held = bytes }) fit.heard fit

  taken_fits : (bytes : List ℕ) (s : Side) → SideFits g most s → SideFits g most (takes_block bytes s)
  taken_fits bytes s fit =
      heard_fits g most s.tables s.stacks s.incoming (record s.incoming { place = s.incoming.place + length bytes; held = [] }) fit.heard fit

  fed_by : (b : Bool) (whole part : Hearing) → SideFits g most whole.side → SideFits g most part.side → SideFits g most (if b then whole else part).side
  fed_by true whole part now later = now
  fed_by false whole part now later = later

  part_fits : (bytes : List ℕ) (why : Option Reason) (s : Side) → SideFits g most s → SideFits g most (feeds_part g bytes why s).side
  part_fits bytes (Some why) s fit = breaks_fits why s.incoming.place (heard_nothing s) fit
  part_fits bytes None s fit =
      fed_by (block_stands bytes) (feeds_whole g bytes s) (heard_nothing (holds_bytes bytes s))
      (hears_fits (count_said bytes) s.incoming.place (s.incoming.place + 8) (drop 8 bytes) (heard_nothing (takes_block bytes s)) (taken_fits bytes s fit))
      (held_fits bytes s fit)

  pub feeds_fits : (piece : List ℕ) (s : Side) → SideFits g most s → SideFits g most (feeds g piece s).side
  unfolding feeds
  feeds_fits piece s fit = part_fits (s.incoming.held ++ piece) (header_fault (s.incoming.held ++ piece)) s fit
