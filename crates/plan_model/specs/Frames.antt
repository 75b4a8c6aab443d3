-- Frames, the stacks of frames of threads, and jobs: a frame of a method with what its next statement may read.
use Rattle.std.specs.Prelude.{ℕ, Bool, true, false, List, [], ◌∷◌, length, Option, None, Some, slice_get, if◌then◌else◌}
use Rattle.std.specs.List.{filter}
use Rattle.std.specs.Option.{option_map}
use Rattle.std.specs.Str.{bytes_eq}
use Rattle.uno_model.specs.Values.{Plain}

-- a variable, a parameter or a field, and its value
pub record Variable : Type 0 where
  pub name : List ℕ
  pub value : Plain

-- a method that runs: the number of its call, its object, the interface and function under which it was called, whether the peer called it, its variables
-- in the order in which they began, parameters first, and the place of its next statement
pub record Body : Type 0 where
  pub number : ℕ
  pub object : ℕ
  pub face : List ℕ
  pub function : ℕ
  pub from_peer : Bool
  pub variables : List Variable
  pub place : ℕ

-- a call of the peer's object that is not answered
pub record Outgoing : Type 0 where
  pub number : ℕ
  pub oid : List ℕ
  pub face : List ℕ
  pub function : ℕ

-- the root that began the thread, a method, or a call that went out
pub data Frame : Type 0 where
  base : ℕ → Frame
  body : Body → Frame
  outgoing : Outgoing → Frame

-- the frames of a thread, the top one first
pub record Stack : Type 0 where
  pub tid : List ℕ
  pub frames : List Frame

-- a frame at the top, the fields of its object in their order, the number of frames of its stack, the number of the object's behaviour and its identity
pub record Job : Type 0 where
  pub tid : List ℕ
  pub frame : Frame
  pub fields : List Variable
  pub depth : ℕ
  pub behaviour : ℕ
  pub own : List ℕ

-- ---- stacks, in the order in which they began

abbrev pub is_of : List ℕ → Stack → Bool
is_of tid s = bytes_eq tid s.tid

-- the frames of a thread; one without a stack has none
unfoldable pub frames_of : List ℕ → List Stack → List Frame
frames_of tid [] = []
frames_of tid (s ∷ ss) = if is_of tid s then s.frames else frames_of tid ss

abbrev pub first_frame : List Frame → Option Frame
first_frame [] = None
first_frame (f ∷ fs) = Some f

abbrev pub top : List ℕ → List Stack → Option Frame
top tid ss = first_frame (frames_of tid ss)

abbrev pub depth_of : List ℕ → List Stack → ℕ
depth_of tid ss = length (frames_of tid ss)

-- the stack at a place, oldest first
abbrev pub nth_tid : List Stack → ℕ → Option (List ℕ)
nth_tid ss n = option_map (λ s. s.tid) (slice_get ss n)

-- one frame more; the first begins a stack behind all others
unfoldable pub pushed : List ℕ → Frame → List Stack → List Stack
pushed tid f [] = record { tid = tid; frames = f ∷ [] } ∷ []
pushed tid f (s ∷ ss) = if is_of tid s then record s { frames = f ∷ s.frames } ∷ ss else s ∷ pushed tid f ss

-- a stack without its top frame; one without frames is none
abbrev pub less_one : List ℕ → List Frame → List Stack → List Stack
less_one tid [] ss = ss
less_one tid (f ∷ []) ss = ss
less_one tid (f ∷ (g ∷ gs)) ss = record { tid = tid; frames = g ∷ gs } ∷ ss

unfoldable pub popped : List ℕ → List Stack → List Stack
popped tid [] = []
popped tid (s ∷ ss) = if is_of tid s then less_one s.tid s.frames ss else s ∷ popped tid ss

-- another frame in the place of the top one
abbrev pub other_top : Frame → List Frame → List Frame
other_top f [] = []
other_top f (g ∷ gs) = f ∷ gs

unfoldable pub with_top : List ℕ → Frame → List Stack → List Stack
with_top tid f [] = []
with_top tid f (s ∷ ss) = if is_of tid s then record s { frames = other_top f s.frames } ∷ ss else s ∷ with_top tid f ss

-- the call that waits for an answer: a top frame that went out
abbrev pub outgoing_in : Option Frame → Option Outgoing
outgoing_in (Some (outgoing o)) = Some o
outgoing_in _ = None

abbrev pub answerable : List ℕ → List Stack → Option Outgoing
answerable tid ss = outgoing_in (top tid ss)

-- the threads that can go on: those whose top frame is a method
abbrev pub is_body : Option Frame → Bool
is_body (Some (body b)) = true
is_body _ = false

abbrev pub ready : List Stack → List Stack
ready ss = filter (λ s. is_body (first_frame s.frames)) ss
