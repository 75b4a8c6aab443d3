-- Whether terms fit their types, and what else is asked of a term, piece by piece.
use Rattle.std.specs.Prelude.{ℕ, zero, suc, Bool, true, false, ◌&&◌, List, [], ◌∷◌, length, Option, None, Some, is_some, ◌==◌}
use Rattle.literal_model.specs.Readings.{single}
use Rattle.uno_model.specs.Entities.{Entity}
use Rattle.uno_model.specs.Fits.{member_kinds}
use Rattle.uno_model.specs.Kinds.{Kind}
use Rattle.uno_model.specs.Kinds as kd
use Rattle.uno_model.specs.NamedTypes.{type_of_text}
use Rattle.plan_model.specs.Contexts.{Context, kind_of_word}
use Rattle.plan_model.specs.Lines.{Term}
use Rattle.plan_model.specs.Typing.{expression_of, is_whole, type_value, void_any_at, word_at}
use Rattle.term_pieces.specs.Pieces.{Piece, leaf, type_named, void_any, typed, elements, members, word, operation}

-- the terms, the last one first, fit these types
unfoldable pub all_fit : List Entity → Context → List Term → List Kind → Bool
all_fit reg c [] [] = true
all_fit reg c [] (k ∷ ks) = false
all_fit reg c (t ∷ done) [] = false
all_fit reg c (t ∷ done) (k ∷ ks) = is_some (expression_of reg c t k) && all_fit reg c done ks

-- where types are asked, the terms fit them
abbrev pub fits_asked : List Entity → Context → List Term → Option (List Kind) → Bool
fits_asked reg c done None = false
fits_asked reg c done (Some ks) = all_fit reg c done ks

-- a type so many times
unfoldable pub times : ℕ → Kind → List Kind → List Kind
times zero k ks = ks
times (suc n) k ks = k ∷ times n k ks

-- the last one first
unfoldable pub turned : List Kind → List Kind → List Kind
turned [] ks = ks
turned (k ∷ more) ks = turned more (k ∷ ks)

-- the types that are asked of the terms in a piece, in front of others; none where the piece does not fit its type
abbrev pub within_any : Kind → Option Kind → List Kind → Option (List Kind)
within_any kd.any (Some t) ks = Some (t ∷ ks)
within_any k t ks = None

abbrev pub within_elements : Kind → ℕ → List Kind → Option (List Kind)
within_elements (kd.sequence k) n ks = Some (times n k ks)
within_elements k n ks = None

abbrev pub if_as_many : Bool → List Kind → Option (List Kind)
if_as_many true ks = Some ks
if_as_many false ks = None

abbrev pub within_members : List Entity → Kind → ℕ → List Kind → Option (List Kind)
within_members reg (kd.struct name) n ks = if_as_many (n == length (member_kinds reg name)) (turned (member_kinds reg name) ks)
within_members reg (kd.exception name) n ks = if_as_many (n == length (member_kinds reg name)) (turned (member_kinds reg name) ks)
within_members reg k n ks = None

unfoldable pub asked : List Entity → Context → Piece → Kind → List Kind → Option (List Kind)
asked reg c (leaf t) k ks = if_as_many (is_some (single reg k t)) ks
asked reg c (type_named t) k ks = if_as_many (is_some (type_value k (type_of_text reg t))) ks
asked reg c void_any k ks = if_as_many (is_some (void_any_at k)) ks
asked reg c (typed t) k ks = within_any k (type_of_text reg t) ks
asked reg c (elements n) k ks = within_elements k n ks
asked reg c (members n) k ks = within_members reg k n ks
asked reg c (word w) k ks = if_as_many (is_some (word_at reg k w (kind_of_word c w))) ks
asked reg c (operation op) k ks = if_as_many (is_whole k) (k ∷ k ∷ ks)
