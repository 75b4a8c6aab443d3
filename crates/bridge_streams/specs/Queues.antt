-- What a contract sees of `Unsaid`.
use Rattle.std.specs.Prelude.{◌≡◌, ℕ, ◌+◌, ◌-◌, List, [], ◌∷◌, ◌++◌}
use Rattle.message_model.specs.Messages.{Message, release}

-- the messages that are said and not spelled, in order; how many releases have their room; and the thread on which releases are sent
pub record Queue : Type 0 where
  pub said : List Message
  pub kept : ℕ
  pub tid : List ℕ

abbrev pub nothing_unsaid : List ℕ → Queue
nothing_unsaid tid = record { said = []; kept = 0; tid = tid }

abbrev pub with_said : List Message → Queue → Queue
with_said said q = record q { said = said }

-- a message more is said
abbrev pub with_message : Message → Queue → Queue
with_message m q = with_said (q.said ++ m ∷ []) q

-- room for a release more, and for one less
abbrev pub kept_more : Queue → Queue
kept_more q = record q { kept = q.kept + 1 }

abbrev pub kept_less : Queue → Queue
kept_less q = record q { kept = q.kept - 1 }

-- a release is said in its room
abbrev pub with_release : (oid face : List ℕ) → Queue → Queue
with_release oid face q = kept_less (with_message (release q.tid oid face) q)

-- each is this name
abbrev pub AreCopies : List ℕ → List (List ℕ) → Type 0
AreCopies tid [] = Unit
AreCopies tid (t ∷ ts) = (t ≡ tid) × AreCopies tid ts
