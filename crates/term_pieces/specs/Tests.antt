-- Tests of a term that are tests of each of its pieces.
use Rattle.std.specs.Prelude.{◌≡◌, ℕ, Bool, true, ◌&&◌, List}
use Rattle.literal_model.specs.Literals.{Token}
use Rattle.plan_model.specs.Expressions.{Word}
use Rattle.plan_model.specs.Lines.{Term, Terms, none, more}
use Rattle.plan_model.specs.Lines as plain
use Rattle.plan_model.specs.declared.operation.Operation.{Operation}
use Rattle.term_pieces.specs.Pieces.{Piece, leaf, type_named, void_any, typed, elements, members, word, operation}

-- a test of a term is that of its last piece and of the terms in that
pub record ByPiece (one : Term → Bool) (all : Terms → Bool) (piece : Piece → Bool) : Type 0 where
  pub nil : all none ≡ true
  pub cons : (t : Term) (ts : Terms) → all (more t ts) ≡ (one t && all ts)
  pub of_leaf : (t : Token) → one (plain.leaf t) ≡ piece (leaf t)
  pub of_type : (k : List ℕ) → one (plain.type_named k) ≡ piece (type_named k)
  pub of_void : one plain.void_any ≡ piece void_any
  pub of_typed : (k : List ℕ) (t : Term) → one (plain.typed k t) ≡ (piece (typed k) && one t)
  pub of_elements : (n : ℕ) (ts : Terms) → one (plain.elements ts) ≡ (piece (elements n) && all ts)
  pub of_members : (n : ℕ) (ts : Terms) → one (plain.members ts) ≡ (piece (members n) && all ts)
  pub of_word : (w : Word) → one (plain.word w) ≡ piece (word w)
  pub of_operation : (op : Operation) (s t : Term) → one (plain.operation op s t) ≡ (piece (operation op) && (one s && one t))
