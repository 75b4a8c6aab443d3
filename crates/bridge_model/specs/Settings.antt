-- What an end of a bridge is set up with, and the names that it gives: its tag, the registry, and the plan of its objects and roots.
use Rattle.std.specs.Prelude.{ℕ, Bool, true, not, List, ◌++◌, length, take, codes}
use Rattle.std.specs.Fmt.{decimal}
use Rattle.std.specs.Str.{bytes_eq}
use Rattle.uno_model.specs.Entities.{Entity}
use Rattle.uno_model.specs.Values.{Ref, own, peer}
use Rattle.uno_model.specs.Values as v
use Rattle.plan_model.specs.Plans.{Plan}
use Rattle.std.specs.Prelude.{if◌then◌else◌}

-- it never changes
pub record Setting : Type 0 where
  pub tag : List ℕ
  pub registry : List Entity
  pub plan : Plan

-- the tag and `;`, with which the names begin that this end gives
abbrev pub prefix : Setting → List ℕ
prefix g = g.tag ++ codes ";"

-- the identity of the object of a number; objects are numbered from 1 as they are made
unfoldable pub own_oid : Setting → ℕ → List ℕ
own_oid g n = prefix g ++ decimal n

-- the name of the thread of a root; roots are numbered from 1
unfoldable pub root_tid : Setting → ℕ → List ℕ
root_tid g root = prefix g ++ decimal root

-- the name of the thread on which releases are sent
abbrev pub release_tid : Setting → List ℕ
release_tid g = root_tid g 0

-- whether this end gave a name
unfoldable pub is_own : Setting → List ℕ → Bool
is_own g name = bytes_eq (take (length (prefix g)) name) (prefix g)

-- an object by its identity, under an interface: one of this end, or one of the peer's
unfoldable pub ref_of : Setting → (oid face : List ℕ) → Ref
ref_of g oid face = if is_own g oid then own oid face else peer oid face

-- a reference is told as one of this end exactly where this end gave its identity
unfoldable pub is_told : Setting → Ref → Bool
is_told g v.null = true
is_told g (own oid face) = is_own g oid
is_told g (peer oid face) = not (is_own g oid)

-- a reference as it is here: what arrives is told apart by its identity alone
abbrev pub at_home : Setting → Ref → Ref
at_home g v.null = v.null
at_home g (own oid face) = ref_of g oid face
at_home g (peer oid face) = ref_of g oid face
