-- What is kept by each message that is received is kept by the bytes that come in, where the bridge stands behind them.
use Rattle.std.proofs.Common.{◌≡◌, ℕ, zero, suc, ◌+◌, ◌-◌, Bool, true, false, if◌then◌else◌, List, [], ◌∷◌, ◌++◌, length, drop, Option, None, Some, Result, Ok, Err, refl}
use Rattle.message_model.specs.Headers.{Heard}
use Rattle.message_model.specs.Messages.{Message}
use Rattle.message_model.specs.ReadingMessages.{message_at}
use Rattle.urp_model.specs.declared.fault.Fault.{Fault}
use Rattle.urp_model.specs.declared.reason.Reason.{Reason}
use Rattle.bridge_model.specs.Ends.{ends_by}
use Rattle.bridge_model.specs.Feeding.{Hearing, gets, Next, hears_tested, hears_read, hears, heard_nothing, holds_bytes, takes_block, header_fault, block_stands, count_said, feeds_part, feeds_whole, feeds}
use Rattle.bridge_model.specs.Receiving.{refusal}
use Rattle.bridge_model.specs.Settings.{Setting}
use Rattle.bridge_model.specs.Sides.{Side, stands}
use Rattle.bridge_model.specs.Stacks.{waits_of}

-- a message is read from bytes, under the calls that wait
abbrev pub reads : Setting → List ℕ → Side → Result (Message × Heard × List ℕ) Fault
reads g bytes s = message_at g.registry (waits_of s.stacks) s.incoming.heard bytes

-- what is kept by each message that is read and not refused
abbrev pub IsKeptByGetting : Setting → (Hearing → Type 0) → Type 0
IsKeptByGetting g P = (bytes : List ℕ) (read : Message × Heard × List ℕ) (x : Hearing) → reads g bytes x.side ≡ Ok read → refusal g x.side read.0 ≡ None → P x
    → P (gets g read.0 read.1 x)

-- what is kept by what is done behind a message
abbrev pub IsKeptBehind : (Hearing → Type 0) → Next → Type 0
IsKeptBehind P more = (place : ℕ) (bytes : List ℕ) (x : Hearing) → P x → stands (more place bytes x).side ≡ true → P (more place bytes x)

tested : (g : Setting) (P : Hearing → Type 0) → IsKeptByGetting g P → (more : Next) → IsKeptBehind P more → (bytes : List ℕ) (place next : ℕ) (read : Message × Heard × List ℕ)
    (o : Option Reason) (x : Hearing) → reads g bytes x.side ≡ Ok read → refusal g x.side read.0 ≡ o → P x → stands (hears_tested g more place next read o x).side ≡ true → P (hears_tested g more place next read o x)
unfolding ends_by
tested g P kept more behind bytes place next read None x got is fine up = behind next read.2 (gets g read.0 read.1 x) (kept bytes read x got is fine) up
tested g P kept more behind bytes place next read (Some why) x got is fine up = absurd (cc)

read_so : (g : Setting) (P : Hearing → Type 0) → IsKeptByGetting g P → (more : Next) → IsKeptBehind P more → (place : ℕ) (bytes : List ℕ)
    (read : Result (Message × Heard × List ℕ) Fault) (x : Hearing) → reads g bytes x.side ≡ read → P x → stands (hears_read g more place bytes read x).side ≡ true → P (hears_read g more place bytes read x)
unfolding ends_by
read_so g P kept more behind place bytes (Err fault) x got fine up = absurd (cc)
read_so g P kept more behind place bytes (Ok read) x got fine up =
    tested g P kept more behind bytes place (place + (length bytes - length read.2)) read (refusal g x.side read.0) x got refl fine up

pub along_hears : (g : Setting) (P : Hearing → Type 0) → IsKeptByGetting g P → (n front : ℕ) → IsKeptBehind P (hears g n front)
unfolding hears ends_by
along_hears g P kept zero front place [] x fine up = fine
along_hears g P kept zero front place (b ∷ bytes) x fine up = absurd (cc)
along_hears g P kept (suc n) front place bytes x fine up =
    read_so g P kept (hears g n front) (along_hears g P kept n front) place bytes (reads g bytes x.side) x refl fine up

whole_if : (P : Hearing → Type 0) (b : Bool) (x y : Hearing) → (stands x.side ≡ true → P x) → P y → stands (if b then x else y).side ≡ true → P (if b then x else y)
whole_if P true x y whole part up = whole up
whole_if P false x y whole part up = part

part_so : (g : Setting) (P : Hearing → Type 0) → IsKeptByGetting g P → (bytes : List ℕ) (o : Option Reason) (s : Side)
    → P (heard_nothing (takes_block bytes s)) → P (heard_nothing (holds_bytes bytes s)) → stands (feeds_part g bytes o s).side ≡ true → P (feeds_part g bytes o s)
unfolding ends_by
part_so g P kept bytes (Some why) s whole part up = absurd (cc)
part_so g P kept bytes None s whole part up =
    whole_if P (block_stands bytes) (feeds_whole g bytes s) (heard_nothing (holds_bytes bytes s))
    (λ up. along_hears g P kept (count_said bytes) s.incoming.place (s.incoming.place + 8) (drop 8 bytes) (heard_nothing (takes_block bytes s)) whole up) part up

-- of all that a piece does
pub along_feeds : (g : Setting) (P : Hearing → Type 0) → IsKeptByGetting g P → (piece : List ℕ) (s : Side)
    → ((bytes : List ℕ) → P (heard_nothing (takes_block bytes s))) → ((bytes : List ℕ) → P (heard_nothing (holds_bytes bytes s)))
    → stands (feeds g piece s).side ≡ true → P (feeds g piece s)
unfolding feeds
along_feeds g P kept piece s whole part up =
    part_so g P kept (s.incoming.held ++ piece) (header_fault (s.incoming.held ++ piece)) s (whole (s.incoming.held ++ piece)) (part (s.incoming.held ++ piece)) up
