-- The rows that stacks by their births stand for: each stack with its number, in rising order.
use Rattle.std.specs.Prelude.{◌≡◌, ℕ, suc, ◌≤◌, List, [], ◌∷◌, map, drop, Option, None, Some, nat_eq, cond}
use Rattle.std.specs.BTreeMap.{BTreeMap}
use Rattle.std.specs.Global.{Vec}
use Rattle.plan_model.specs.Frames as plain
use Rattle.plan_model.specs.Frames.{is_of, other_top}
use Rattle.plan_types.specs.Frames.{frame_of}
use Rattle.call_stacks.specs.Births.{birth_at}
use Rattle.call_stacks.specs.declared.stack.Stack.{Stack}

-- a stack with its frames as a list
abbrev pub stack_of : Stack → plain.Stack
stack_of s = record { tid = s.tid; frames = map frame_of s.frames.items }

-- each stack with the number of its birth
abbrev pub Rows : Type 0
Rows = List (ℕ × plain.Stack)

abbrev pub rows_of : List (ℕ × Stack) → Rows
rows_of entries = map (λ e. (e.0, stack_of e.1)) entries

-- the stacks alone
abbrev pub stacks_of : Rows → List plain.Stack
stacks_of rows = map (λ r. r.1) rows

-- ---- what is found in rows

-- the birth of a TID's stack
abbrev pub birth_in : List ℕ → Rows → Option ℕ
birth_in tid [] = None
birth_in tid (r ∷ rs) = cond (is_of tid r.1) (Some r.0) (birth_in tid rs)

-- the stack of a birth, and its frames
abbrev pub stack_at : ℕ → Rows → Option plain.Stack
stack_at n [] = None
stack_at n (r ∷ rs) = cond (nat_eq n r.0) (Some r.1) (stack_at n rs)

abbrev pub frames_in : Option plain.Stack → List plain.Frame
frames_in None = []
frames_in (Some s) = s.frames

abbrev pub frames_at : ℕ → Rows → List plain.Frame
frames_at n rows = frames_in (stack_at n rows)

-- ---- what changes in rows

-- the rows after the stack of a birth changed, and without it
abbrev pub changed_at : ℕ → (plain.Stack → plain.Stack) → Rows → Rows
changed_at n change [] = []
changed_at n change (r ∷ rs) = cond (nat_eq n r.0) ((r.0, change r.1) ∷ rs) (r ∷ changed_at n change rs)

abbrev pub without_at : ℕ → Rows → Rows
without_at n [] = []
without_at n (r ∷ rs) = cond (nat_eq n r.0) rs (r ∷ without_at n rs)

-- a stack of one frame
abbrev pub begun : List ℕ → plain.Frame → plain.Stack
begun tid f = record { tid = tid; frames = f ∷ [] }

-- a stack with one frame more, one less, and another one on top
abbrev pub one_more : plain.Frame → plain.Stack → plain.Stack
one_more f s = record { tid = s.tid; frames = f ∷ s.frames }

abbrev pub one_less : plain.Stack → plain.Stack
one_less s = record { tid = s.tid; frames = drop 1 s.frames }

abbrev pub topped : plain.Frame → plain.Stack → plain.Stack
topped f s = record { tid = s.tid; frames = other_top f s.frames }

-- ---- what always holds

-- births rise, from one number on to below another
abbrev pub Rise : ℕ → Rows → ℕ → Type 0
Rise least [] next = least ≤ next
Rise least (r ∷ rs) next = (least ≤ r.0) × Rise (suc r.0) rs next

-- no two stacks have one TID
abbrev pub AreAlone : Rows → Type 0
AreAlone [] = Unit
AreAlone (r ∷ rs) = (birth_in r.1.tid rs ≡ None) × AreAlone rs

-- births rise to below the next, TIDs differ, and each TID has the birth that it is to have
pub record IsKept (rows : Rows) (births : BTreeMap (Vec ℕ) ℕ) (next : ℕ) : Type 0 where
  pub rise : Rise 0 rows next
  pub alone : AreAlone rows
  pub born : (tid : List ℕ) → birth_at tid births ≡ birth_in tid rows
