-- Interlock: a thread that goes from end to end, of which the stacks of both ends and the messages in flight are views.
use Rattle.std.specs.Prelude.{◌≡◌, ◌⊎◌, ℕ, zero, suc, Bool, true, false, not, List, [], ◌∷◌, ◌++◌, map}
use Rattle.std.specs.Str.{bytes_eq}
use Rattle.message_model.specs.Messages.{Message, request, release, reply}
use Rattle.plan_model.specs.Frames.{Body, Frame, base, body, outgoing, frames_of}
use Rattle.bridge_model.specs.Histories.{Told}
use Rattle.world_model.specs.Flights.{flight}

-- ---- what is seen of frames and messages

-- the interface and the function of a call
pub record Called : Type 0 where
  pub face : List ℕ
  pub function : ℕ

-- with its target
pub record Call : Type 0 where
  pub oid : List ℕ
  pub called : Called

-- a frame apart from its values: the root, a method called from here, one that serves a call of the other end, a call that went out
pub data Shape : Type 0 where
  root : Shape
  local : Shape
  serves : Called → Shape
  out : Call → Shape

abbrev pub shape_of_body : Bool → Body → Shape
shape_of_body true b = serves (record { face = b.face; function = b.function })
shape_of_body false b = local

abbrev pub shape : Frame → Shape
shape (base n) = root
shape (body b) = shape_of_body b.from_peer b
shape (outgoing o) = out (record { oid = o.oid; called = record { face = o.face; function = o.function } })

abbrev pub shapes : List Frame → List Shape
shapes fs = map shape fs

-- a request or a reply
pub data Signal : Type 0 where
  asks : Call → Signal
  answers : Called → Signal

-- the requests and replies of a thread
unfoldable pub signal_if : Bool → Signal → List Signal
signal_if true s = s ∷ []
signal_if false s = []

unfoldable pub signal_on : List ℕ → Message → List Signal
signal_on tid (request t oid face function args) = signal_if (bytes_eq tid t) (asks (record { oid = oid; called = record { face = face; function = function } }))
signal_on tid (release t oid face) = []
signal_on tid (reply t face function a) = signal_if (bytes_eq tid t) (answers (record { face = face; function = function }))

unfoldable pub signals : List ℕ → List Message → List Signal
signals tid [] = []
signals tid (m ∷ ms) = signal_on tid m ++ signals tid ms

-- ---- a thread

-- a call that crossed: and how many methods called from there stand above the one that serves it
pub record Crossing : Type 0 where
  pub call : Call
  pub above : ℕ

-- nothing; a method runs; a request is on its way; or its reply is. With it how many methods stand above the root at the end that began the thread, and the
-- calls that crossed and are served, the last one first
pub data Thread : Type 0 where
  idle : Thread
  runs : (here : ℕ) → (crossed : List Crossing) → Thread
  asked : (call : Call) → (here : ℕ) → (crossed : List Crossing) → Thread
  answered : (call : Call) → (here : ℕ) → (crossed : List Crossing) → Thread

-- the root alone does not run
abbrev pub IsReal : Thread → Type 0
IsReal (runs zero []) = ⊥
IsReal th = Unit

-- ---- its views

unfoldable pub locals : ℕ → List Shape → List Shape
locals zero ss = ss
locals (suc n) ss = local ∷ locals n ss

-- the frames at the end that serves the last crossing, and at the other
unfoldable mutual
  pub upper : ℕ → List Crossing → List Shape
  upper n [] = locals n (root ∷ [])
  upper n (c ∷ cs) = locals c.above (serves c.call.called ∷ lower n cs)

  pub lower : ℕ → List Crossing → List Shape
  lower n [] = []
  lower n (c ∷ cs) = out c.call ∷ upper n cs

-- the end that began the thread serves the last of an even number of crossings
unfoldable pub is_even : List Crossing → Bool
is_even [] = true
is_even (c ∷ cs) = not (is_even cs)

-- a thread from one end: whether that end gave its name, its frames there and at the other end, and the signals on their way
pub record View : Type 0 where
  pub own : Bool
  pub mine : List Shape
  pub theirs : List Shape
  pub to_me : List Signal
  pub to_them : List Signal

abbrev pub turned : View → View
turned v = record { own = not v.own; mine = v.theirs; theirs = v.mine; to_me = v.to_them; to_them = v.to_me }

-- from the end that acts, or that waits for the last call
unfoldable pub seen : Thread → View
seen idle = record { own = true; mine = []; theirs = []; to_me = []; to_them = [] }
seen (runs n cs) = record { own = is_even cs; mine = upper n cs; theirs = lower n cs; to_me = []; to_them = [] }
seen (asked k n cs) = record { own = is_even cs; mine = out k ∷ upper n cs; theirs = lower n cs; to_me = []; to_them = asks k ∷ [] }
seen (answered k n cs) = record { own = is_even cs; mine = out k ∷ upper n cs; theirs = lower n cs; to_me = answers k.called ∷ []; to_them = [] }

-- a view is that of a thread, from one of the two ends
abbrev pub Locks : View → Type 0
Locks v = (th : Thread) × IsReal th × ((v ≡ seen th) ⊎ (v ≡ turned (seen th)))

-- which names of threads this end gave
abbrev pub Ours : Type 0
Ours = List ℕ → Bool

abbrev pub view : Ours → List ℕ → (x y : Told) → View
view ours tid x y =
    record {
      own = ours tid;
      mine = shapes (frames_of tid x.side.stacks);
      theirs = shapes (frames_of tid y.side.stacks);
      to_me = signals tid (flight y x);
      to_them = signals tid (flight x y);
    }

-- so it is of each thread. A call needs no number: the request and the reply in flight are those of the call on top of the thread, and its place among the crossings tells
-- it from each other call of the thread, of the same method too
abbrev pub Interlock : Ours → (x y : Told) → Type 0
Interlock ours x y = (tid : List ℕ) → Locks (view ours tid x y)

-- a thread of which neither end has a stack, and no request or reply is on its way
pub record IsNowhere (tid : List ℕ) (x y : Told) : Type 0 where
  pub here : frames_of tid x.side.stacks ≡ []
  pub there : frames_of tid y.side.stacks ≡ []
  pub back : signals tid (flight y x) ≡ []
  pub forth : signals tid (flight x y) ≡ []

-- ---- what handing an answer does to frames

-- the frames that are left, and what is said on the thread
pub record Left : Type 0 where
  pub frames : List Shape
  pub said : List Signal

-- to the top one of these frames: an exception ends methods down to the root, or to one that serves the other end, which then answers it
unfoldable pub handed : Bool → List Shape → Left
handed raised [] = record { frames = []; said = [] }
handed raised (root ∷ ss) = record { frames = []; said = [] }
handed raised (out k ∷ ss) = record { frames = out k ∷ ss; said = [] }
handed false (s ∷ ss) = record { frames = s ∷ ss; said = [] }
handed true (local ∷ ss) = handed true ss
handed true (serves f ∷ ss) = record { frames = ss; said = answers f ∷ [] }

-- the top one ends with an answer
unfoldable pub ended_with : Bool → List Shape → Left
ended_with raised [] = record { frames = []; said = [] }
ended_with raised (serves f ∷ ss) = record { frames = ss; said = answers f ∷ [] }
ended_with raised (s ∷ ss) = handed raised ss

abbrev pub after_left : View → Left → View
after_left v l = record v { mine = l.frames; to_them = v.to_them ++ l.said }
