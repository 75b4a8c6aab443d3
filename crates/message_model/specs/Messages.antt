-- Messages: what one end says to the other, on which thread (URP specification, messages).
use Rattle.std.specs.Prelude.{ℕ, List}
use Rattle.uno_model.specs.Kinds.{Kind}
use Rattle.uno_model.specs.Values.{Plain}

-- the answer to a call: its result with the values of its [out] and [inout] parameters in order, or an exception and its type
pub data Answer : Type 0 where
  returned : Plain → List Plain → Answer
  raised : Kind → Plain → Answer

-- a call of a function by its number, with the values of its [in] and [inout] parameters in order; that an object is held no more; the answer to a call,
-- whose interface and function the bytes do not say. An identity of an object is empty where the bytes say null
pub data Message : Type 0 where
  request : (tid oid face : List ℕ) → (function : ℕ) → (args : List Plain) → Message
  release : (tid oid face : List ℕ) → Message
  reply : (tid face : List ℕ) → (function : ℕ) → (answer : Answer) → Message
