-- What is read of a term whose end is not reached: the terms round the place, and what the whole reading gives.
use Rattle.std.specs.Prelude.{ℕ, suc, ◌+◌, List, [], ◌∷◌, length, drop, Option, None, Some, codes}
use Rattle.uno_model.specs.Entities.{Entity}
use Rattle.plan_model.specs.Lines.{Term, Terms}
use Rattle.plan_model.specs.Lines as plain
use Rattle.plan_model.specs.declared.operation.Operation.{Operation}
use Rattle.plan_reading_model.specs.Parts.{on_some, behind}
use Rattle.plan_reading_model.specs.TermReading.{Reads, term_at, terms_on, behind_term, second_operand}
use Rattle.term_pieces.specs.Pieces.{gathered}

-- a term that stands open: so many of those that it holds are read
pub data Open : Type 0 where
  elements : ℕ → Open
  members : ℕ → Open
  typed : List ℕ → Open
  left : Operation → Open
  right : Operation → Open

-- how many terms that are read those that stand open hold
unfoldable pub held_by : List Open → ℕ
held_by [] = 0
held_by (elements n ∷ os) = n + held_by os
held_by (members n ∷ os) = n + held_by os
held_by (typed k ∷ os) = held_by os
held_by (left op ∷ os) = held_by os
held_by (right op ∷ os) = suc (held_by os)

-- terms up to the byte that closes, as many as there are bytes at most
abbrev pub others : List Entity → ℕ → Reads Terms
others reg close bytes = terms_on (length bytes) (term_at reg) close bytes

-- a term of these, and what stands behind it
abbrev pub made : (Terms → Term) → Terms × List ℕ → Option (Term × List ℕ)
made mk r = Some (mk r.0, r.1)

-- what the whole reading gives, where this is read at the place
unfoldable pub whole : List Entity → List Open → List Term → Option (Term × List ℕ) → Option (Term × List ℕ)
whole reg [] done x = x
whole reg (elements n ∷ os) done x =
    whole reg os (drop n done) (on_some x (λ y. on_some (behind_term 93 (others reg 93) y) (made (λ ts. plain.elements (gathered n done ts)))))
whole reg (members n ∷ os) done x =
    whole reg os (drop n done) (on_some x (λ y. on_some (behind_term 125 (others reg 125) y) (made (λ ts. plain.members (gathered n done ts)))))
whole reg (typed k ∷ os) done x = whole reg os done (on_some x (λ y. Some (plain.typed k y.0, y.1)))
whole reg (left op ∷ os) done x = whole reg os done (on_some x (second_operand (term_at reg) op))
whole reg (right op ∷ os) [] x = None
whole reg (right op ∷ os) (t ∷ done) x =
    whole reg os done (on_some x (λ y. on_some (behind (codes ")") y.1) (λ rest. Some (plain.operation op t y.0, rest))))

-- a term is to be read, or was read and is the last one
pub data Place : Type 0 where
  before : List ℕ → Place
  after : List ℕ → Place

unfoldable pub comes_of : List Entity → List Open → List Term → Place → Option (Term × List ℕ)
comes_of reg os done (before bytes) = whole reg os done (term_at reg bytes)
comes_of reg os [] (after rest) = None
comes_of reg os (t ∷ done) (after rest) = whole reg os done (Some (t, rest))
