-- A term as a list of pieces, in which each stands behind those of the terms that it holds.
use Rattle.std.specs.Prelude.{ℕ, zero, suc, ◌≤◌, Bool, true, ◌&&◌, ◌==◌, nat_lt, List, [], ◌∷◌, length, drop}
use Rattle.literal_model.specs.Literals.{Token}
use Rattle.plan_model.specs.Expressions.{Word}
use Rattle.plan_model.specs.Lines.{Term, Terms, none, more}
use Rattle.plan_model.specs.Lines as plain
use Rattle.plan_model.specs.declared.operation.Operation.{Operation}

-- a term without those that it holds, of which there are so many
pub data Piece : Type 0 where
  leaf : Token → Piece
  type_named : List ℕ → Piece
  void_any : Piece
  typed : List ℕ → Piece
  elements : ℕ → Piece
  members : ℕ → Piece
  word : Word → Piece
  operation : Operation → Piece

-- how many terms it holds
unfoldable pub held : Piece → ℕ
held (typed k) = 1
held (elements n) = n
held (members n) = n
held (operation op) = 2
held p = 0

-- so many terms, the last one first, in front of others
unfoldable pub gathered : ℕ → List Term → Terms → Terms
gathered zero done ts = ts
gathered (suc n) [] ts = ts
gathered (suc n) (t ∷ done) ts = gathered n done (more t ts)

-- the terms that stand there behind a piece, the last one first
unfoldable pub put : List Term → Piece → List Term
put done (leaf t) = plain.leaf t ∷ done
put done (type_named k) = plain.type_named k ∷ done
put done void_any = plain.void_any ∷ done
put (t ∷ done) (typed k) = plain.typed k t ∷ done
put done (elements n) = plain.elements (gathered n done none) ∷ drop n done
put done (members n) = plain.members (gathered n done none) ∷ drop n done
put done (word w) = plain.word w ∷ done
put (t ∷ s ∷ done) (operation op) = plain.operation op s t ∷ done
put done p = done

unfoldable pub put_all : List Term → List Piece → List Term
put_all done [] = done
put_all done (p ∷ ps) = put_all (put done p) ps

-- each piece finds the terms that it holds
unfoldable pub AreBuilt : List Term → List Piece → Type 0
AreBuilt done [] = Unit {0}
AreBuilt done (p ∷ ps) = (held p ≤ length done) × AreBuilt (put done p) ps

-- the same as a test
unfoldable pub are_built : List Term → List Piece → Bool
are_built done [] = true
are_built done (p ∷ ps) = nat_lt (held p) (suc (length done)) && are_built (put done p) ps

-- the pieces are those of one term
unfoldable pub is_term : List Piece → Bool
is_term ps = are_built [] ps && (length (put_all [] ps) == 1)

abbrev pub last_one : List Term → Term
last_one [] = plain.void_any
last_one (t ∷ done) = t

-- the last term that stands there
unfoldable pub term_in : List Piece → Term
term_in ps = last_one (put_all [] ps)
