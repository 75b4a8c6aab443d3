-- The rule of the lock: one history, of which each view has seen a front and owns its makers' items.
use Rattle.std.specs.Prelude.{◌≡◌, ◌⊎◌, ℕ, ◌+◌, ◌%◌, ◌^◌, ◌<◌, List, [], ◌∷◌, length, Option, Some}
use mathlib.Core.Option.{some, none}
use mathlib.Core.Option as maybe
use lib.ListN.{get_elem?}
use Rattle.atomic_table.specs.Table.{State}
use Rattle.turn_book.specs.declared.view.View.{View}
use Rattle.turn_book.specs.declared.view.Stage.{Stage}
use Rattle.turn_book.specs.declared.view.Stage.TheVariants.{Idle, Waits, Turns, Recorded, Numbered, Counted, Joined}
use Rattle.turn_book.specs.History.{StartsWith, Owns, AllBelow, same, below, times, numbers_of, made_by}
use Rattle.turn_book.specs.Views.{view}

abbrev pub total : {V : Type 0} → (V → ℕ) → List V → ℕ
total f [] = 0
total f (v ∷ vs) = f v + total f vs

-- the numbers that are drawn for a new pass
abbrev pub pending : Stage → ℕ
pending (Numbered n) = 1
pending (Counted n) = 1
pending _ = 0

abbrev pub pends : ℕ → Stage → ℕ
pends n (Numbered m) = same n m
pends n (Counted m) = same n m
pends n _ = 0

-- passes that are counted beside the view's own
abbrev pub beside : Stage → ℕ
beside (Counted n) = 1
beside Joined = 1
beside _ = 0

-- the ticket is t
abbrev pub is_ticket : ℕ → Stage → ℕ
is_ticket t (Waits u) = same t u
is_ticket t (Turns u) = same t u
is_ticket t (Recorded u) = same t u
is_ticket t _ = 0

-- it has a ticket
abbrev pub waiting : Stage → ℕ
waiting (Waits t) = 1
waiting (Turns t) = 1
waiting (Recorded t) = 1
waiting _ = 0

-- the book is out with it
abbrev pub turning : Stage → ℕ
turning (Turns t) = 1
turning (Recorded t) = 1
turning _ = 0

module _ {I : Type 0} where
  abbrev pub counts : List (ℕ × List I) → Stage → ℕ
  counts [] st = 0
  counts (part ∷ parts) st = 1 + beside st

  -- Who has the turn has the ticket that is served, and has seen all. A number that is not yet a pass's has made nothing
  abbrev pub AtStage : ℕ → List I → List ℕ → List I → Stage → Type 0
  AtStage served log makers seen (Turns t) = (t ≡ served) × (seen ≡ log)
  AtStage served log makers seen (Recorded t) = (t ≡ served) × (seen ≡ log)
  AtStage served log makers seen (Numbered n) = made_by n makers log ≡ []
  AtStage served log makers seen (Counted n) = made_by n makers log ≡ []
  AtStage served log makers seen _ = Unit {0}

module _ {I F : Type 0} where
  -- how many passes are counted for this view; 0 where it is spent
  abbrev pub weight : View I F → ℕ
  weight v = counts v.own v.stage

  abbrev pub room_of : View I F → ℕ
  room_of v = v.room

  -- its room and its numbers
  abbrev pub share : View I F → ℕ
  share v = v.room + (length v.own + pending v.stage)

  abbrev pub has_number : ℕ → View I F → ℕ
  has_number n v = times n (numbers_of v.own) + pends n v.stage

  abbrev pub has_ticket : ℕ → View I F → ℕ
  has_ticket t v = is_ticket t v.stage

  abbrev pub waits : View I F → ℕ
  waits v = waiting v.stage

  abbrev pub turns : View I F → ℕ
  turns v = turning v.stage

  pub record Fits (key : F) (log : List I) (makers : List ℕ) (served : ℕ) (v : View I F) : Type 0 where
    pub seen : StartsWith log v.seen
    pub made : Owns makers log v.own
    pub fixed : 0 < length v.own → v.fixed ≡ Some key
    pub spent : length v.own ≡ 0 → (v.room ≡ 0) × (pending v.stage ≡ 0) × (waiting v.stage ≡ 0)
    pub stage : AtStage served log makers v.seen v.stage

  -- the view of the first pass
  abbrev pub opened : List I → F → View I F
  opened items key = view (Some key) items ((0, items) ∷ []) 65536 Idle

module _ {B I F : Type 0} (items : B → List I) (fixed : B → F) (key : F) where
  -- the book is home and has the whole history, or it is out with the one view in turn
  abbrev pub Lies : List I → ℕ → List (maybe.Option (Option B)) → Type 0
  Lies log turning homes = ((b : B) × (homes ≡ some (Some b) ∷ []) × (items b ≡ log) × (fixed b ≡ key) × (turning ≡ 0)) ⊎ ((homes ≡ none ∷ []) × (turning ≡ 1))

  pub record Ruled (s : State (Option B) (View I F)) : Type 0 where
    pub out : ℕ
    pub drawn : ℕ
    pub served : ℕ
    pub made : ℕ
    pub log : List I
    pub makers : List ℕ
    pub words : s.words ≡ out ∷ drawn % 2 ^ 64 ∷ served % 2 ^ 64 ∷ length log ∷ made ∷ []
    pub passes : total weight s.views ≡ out
    pub rooms : total room_of s.views + made ≡ 65537
    pub shares : total share s.views ≡ 65537
    pub numbers : (n : ℕ) → total (has_number n) s.views ≡ below n made
    pub queue : total waits s.views + served ≡ drawn
    pub tickets : (t : ℕ) → total (has_ticket t) s.views + below t served ≡ below t drawn
    pub book : Lies log (total turns s.views) s.homes
    pub one_each : length makers ≡ length log
    pub of_all : AllBelow made makers
    pub fits : (j : ℕ) (v : View I F) → get_elem? s.views j ≡ some v → Fits key log makers served v
