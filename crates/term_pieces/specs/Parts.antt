-- What each piece of a term is at the type of its place, and the expression that comes of that.
use Rattle.std.specs.Prelude.{ℕ, ◌==◌, List, [], ◌∷◌, length, take, drop, reverse, Option, None, Some}
use Rattle.std.specs.Option.{option_map}
use Rattle.literal_model.specs.Readings.{single}
use Rattle.uno_model.specs.Entities.{Entity}
use Rattle.uno_model.specs.Fits.{member_kinds}
use Rattle.uno_model.specs.Kinds.{Kind}
use Rattle.uno_model.specs.Kinds as kd
use Rattle.uno_model.specs.NamedTypes.{type_of_text}
use Rattle.plan_model.specs.Contexts.{Context, kind_of_word}
use Rattle.plan_model.specs.Evaluation.{both_values}
use Rattle.plan_model.specs.Expressions.{Expression, Expressions, expressions}
use Rattle.plan_model.specs.Expressions as e
use Rattle.plan_model.specs.Lines.{Term}
use Rattle.plan_model.specs.Typing.{expression_of, is_whole, only_if, type_value, void_any_at, word_at}
use Rattle.plan_model.specs.declared.operation.Operation.{Operation}
use Rattle.term_pieces.specs.Fits.{times, turned}
use Rattle.term_pieces.specs.Pieces.{Piece}
use Rattle.term_pieces.specs.Pieces as piece

-- a piece that fits its place: an expression that holds no other, or one of those that stand before it
pub data Part : Type 0 where
  whole : Expression → Part
  any : Kind → Part
  elements : Kind → ℕ → Part
  members : List ℕ → ℕ → Part
  operation : Operation → Part

abbrev pub any_part : Kind → Option Kind → Option Part
any_part kd.any (Some t) = Some (any t)
any_part k t = None

abbrev pub elements_part : Kind → ℕ → Option Part
elements_part (kd.sequence k) n = Some (elements k n)
elements_part k n = None

abbrev pub members_part : List Entity → Kind → ℕ → Option Part
members_part reg (kd.struct name) n = only_if (n == length (member_kinds reg name)) (Some (members name n))
members_part reg (kd.exception name) n = only_if (n == length (member_kinds reg name)) (Some (members name n))
members_part reg k n = None

unfoldable pub part_at : List Entity → Context → Piece → Kind → Option Part
part_at reg c (piece.leaf t) k = option_map whole (option_map e.constant (single reg k t))
part_at reg c (piece.type_named t) k = option_map whole (type_value k (type_of_text reg t))
part_at reg c piece.void_any k = option_map whole (void_any_at k)
part_at reg c (piece.typed t) k = any_part k (type_of_text reg t)
part_at reg c (piece.elements n) k = elements_part k n
part_at reg c (piece.members n) k = members_part reg k n
part_at reg c (piece.word w) k = option_map whole (word_at reg k w (kind_of_word c w))
part_at reg c (piece.operation op) k = only_if (is_whole k) (Some (operation op))

-- the types of the terms in a part of this type, the last one first, in front of others
unfoldable pub kinds_in : List Entity → Part → Kind → List Kind → List Kind
kinds_in reg (whole x) k ks = ks
kinds_in reg (any t) k ks = t ∷ ks
kinds_in reg (elements j n) k ks = times n j ks
kinds_in reg (members name n) k ks = turned (member_kinds reg name) ks
kinds_in reg (operation op) k ks = k ∷ k ∷ ks

-- ---- backward over pieces

-- the parts of some pieces, and the types of the terms that stand before them, the last one first; or one of the pieces does not fit
pub data Asked : Type 0 where
  misfit : Asked
  asked : List Part → List Kind → Asked

abbrev pub placed : List Entity → List Part → Kind → List Kind → Option Part → Asked
placed reg qs k ks None = misfit
placed reg qs k ks (Some q) = asked (q ∷ qs) (kinds_in reg q k ks)

unfoldable pub piece_before : List Entity → Context → Piece → Asked → Asked
piece_before reg c p misfit = misfit
piece_before reg c p (asked qs []) = misfit
piece_before reg c p (asked qs (k ∷ ks)) = placed reg qs k ks (part_at reg c p k)

unfoldable pub all_before : List Entity → Context → List Piece → Asked → Asked
all_before reg c [] a = a
all_before reg c (p ∷ ps) a = piece_before reg c p (all_before reg c ps a)

-- ---- forward over parts

-- elements of one type; bytes are told apart
abbrev pub sequence_in : Kind → Expressions → Expression
sequence_in kd.byte es = e.bytes es
sequence_in k es = e.list k es

-- the expressions that stand there behind a part, the last one first
unfoldable pub put_part : List Expression → Part → List Expression
put_part es (whole x) = x ∷ es
put_part (x ∷ es) (any t) = e.any t x ∷ es
put_part es (elements k n) = sequence_in k (expressions (reverse (take n es))) ∷ drop n es
put_part es (members name n) = e.tuple name (expressions (reverse (take n es))) ∷ drop n es
put_part (y ∷ x ∷ es) (operation op) = e.operation op x y ∷ es
put_part es q = es

unfoldable pub put_parts : List Expression → List Part → List Expression
put_parts es [] = es
put_parts es (q ∷ qs) = put_parts (put_part es q) qs

abbrev pub alone : List Expression → Option Expression
alone (x ∷ []) = Some x
alone es = None

-- the one expression, where no type is asked of a term that is not there
abbrev pub made_of : Asked → Option Expression
made_of misfit = None
made_of (asked qs []) = alone (put_parts [] qs)
made_of (asked qs (k ∷ ks)) = None

-- what terms are at types, the last one of each first
unfoldable pub all_are : List Entity → Context → List Term → List Kind → Option (List Expression)
all_are reg c [] [] = Some []
all_are reg c [] (k ∷ ks) = None
all_are reg c (t ∷ done) [] = None
all_are reg c (t ∷ done) (k ∷ ks) = both_values (expression_of reg c t k) (all_are reg c done ks) (λ a rest. Some (a ∷ rest))
