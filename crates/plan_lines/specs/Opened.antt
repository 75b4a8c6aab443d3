-- Terms that stand open and the place of the reading as plain ones, and what a step of the reading does.
use Rattle.std.specs.Prelude.{◌≡◌, ℕ, ◌+◌, ◌*◌, ◌<◌, Bool, true, false, List, [], ◌∷◌, length, map, reverse, Option, None, Some, Result, Ok, Err}
use Rattle.uno_model.specs.Entities.{Entity}
use Rattle.plan_model.specs.Lines.{Term}
use Rattle.term_pieces.specs.Opened.{before, after, held_by, whole, comes_of}
use Rattle.term_pieces.specs.Opened as plain
use Rattle.term_pieces.specs.Pieces.{put_all, AreBuilt}
use Rattle.term_pieces.specs.Pieces as bare
use Rattle.plan_lines.specs.Pieces.{pieces_of}
use Rattle.plan_lines.specs.Reads.{UnreadBy}
use Rattle.plan_lines.specs.declared.place.Open.{Open}
use Rattle.plan_lines.specs.declared.place.Open.TheVariants as open_term
use Rattle.plan_lines.specs.declared.place.Place.{Place}
use Rattle.plan_lines.specs.declared.place.Place.TheVariants as place
use Rattle.plan_lines.specs.declared.piece.Piece.{Piece}
use Rattle.plan_lines.specs.declared.unread.Unread.{Unread}

abbrev pub open_of : Open → plain.Open
open_of (open_term.Elements n) = plain.elements n
open_of (open_term.Members n) = plain.members n
open_of (open_term.Typed k) = plain.typed k.now
open_of (open_term.Left op) = plain.left op
open_of (open_term.Right op) = plain.right op

-- those that stand open, the last one first
unfoldable pub opened : List Open → List plain.Open
opened os = map open_of (reverse os)

abbrev pub place_of : Place → plain.Place
place_of (place.Before bytes) = before bytes.now
place_of (place.After bytes) = after bytes.now

-- ---- steps

-- the terms that stand there
abbrev pub standing : List Piece → List Term
standing ps = put_all [] (pieces_of ps)

abbrev pub left_at : plain.Place → List ℕ
left_at (before bytes) = bytes
left_at (after bytes) = bytes

-- how many terms are read that none holds
abbrev pub read_at : plain.Place → ℕ
read_at (before bytes) = 0
read_at (after bytes) = 1

-- no more steps than these are left
abbrev pub work : List plain.Open → plain.Place → ℕ
work os (before bytes) = 2 * length bytes + length os + 1
work os (after bytes) = 2 * length bytes + length os

-- each piece finds its terms, and those that stand open hold all others
pub record IsReady (os : List plain.Open) (ps : List bare.Piece) (read : ℕ) : Type 0 where
  pub built : AreBuilt [] ps
  pub many : length (put_all [] ps) ≡ held_by os + read

-- a place at which the same comes of the whole reading, with less work left
pub record Stepped (reg : List Entity) (same : Option (Term × List ℕ)) (most : ℕ) (os : List plain.Open) (ps : List bare.Piece) (p : plain.Place) : Type 0 where
  pub comes : comes_of reg os (put_all [] ps) p ≡ same
  pub ready : IsReady os ps (read_at p)
  pub less : work os p < most

abbrev pub Steps : List Entity → Option (Term × List ℕ) → ℕ → Result Place Unread → List Open → List Piece → Type 0
Steps reg same most (Ok p) os ps = Stepped reg same most (opened os) (pieces_of ps) (place_of p)
Steps reg same most (Err e) os ps = UnreadBy e same

-- what comes of the whole reading where this is read
abbrev pub comes_with : List Entity → List Open → List Piece → Option (Term × List ℕ) → Option (Term × List ℕ)
comes_with reg os ps read = whole reg (opened os) (standing ps) read

-- a term that is read is the last one that stands there, and its rest is left
abbrev pub stands_with : List Term → Option (Term × List ℕ) → Option (List Term × plain.Place)
stands_with done None = None
stands_with done (Some x) = Some (x.0 ∷ done, after x.1)

-- a term was read, and none stands open
abbrev pub is_read : plain.Place → List plain.Open → Bool
is_read (before bytes) os = false
is_read (after bytes) [] = true
is_read (after bytes) (o ∷ os) = false
