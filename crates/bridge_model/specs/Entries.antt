-- The entries of a journal: what was called that changed something. Each call has its own, but for the end by a limit and by want of memory.
use Rattle.std.specs.Prelude.{ℕ, Bool, true, false, List}
use Rattle.uno_model.specs.Values.{Plain}

-- bytes came in; the input ended, or failed; a root asked the peer for a name, called, queried, made an object, let a reference go; a statement was run; a root
-- took its outcome; an object was reaped; bytes went out; the bridge was disposed, reached a limit, or had no memory
pub data Entry : Type 0 where
  fed : List ℕ → Entry
  ended : Entry
  failed : Entry
  asked : (root : ℕ) → (name wanted : List ℕ) → Entry
  called : (root : ℕ) → (oid face : List ℕ) → (function : ℕ) → (args : List Plain) → Entry
  queried : (root : ℕ) → (oid face wanted : List ℕ) → Entry
  made : (root behaviour : ℕ) → (wanted : List ℕ) → Entry
  dropped : (root : ℕ) → (oid face : List ℕ) → Entry
  applied : (tid : List ℕ) → Entry
  took : (root : ℕ) → Entry
  reaped : (object : ℕ) → Entry
  drained : List ℕ → Entry
  disposed : Entry
  full : Entry
  no_memory : Entry

-- whether an entry counts: limits on entries do not depend on how bytes are cut
abbrev pub counts : Entry → Bool
counts (fed b) = false
counts (drained b) = false
counts e = true
