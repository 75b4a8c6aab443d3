-- What each step tells the pass that makes it.
use Rattle.std.specs.Prelude.{◌≡◌, ◌≢◌, ℕ, ◌+◌, ◌-◌, ◌%◌, ◌^◌, ◌≤◌, List, [], ◌∷◌, ◌++◌, length, drop, Option, Some, None}
use Rattle.atomic_table.specs.Table.{Me}
use Rattle.turn_book.specs.declared.view.View.{View}
use Rattle.turn_book.specs.declared.view.Stage.{Stage}
use Rattle.turn_book.specs.declared.view.Stage.TheVariants.{Idle, Waits, Turns, Recorded, Numbered, Counted, Joined}
use Rattle.turn_book.specs.History.{StartsWith, Stands, Whole, longer, times, numbers_of}
use Rattle.turn_book.specs.Views.{view, at_stage}

module _ {I : Type 0} where
  -- the new items are the first number's
  abbrev pub grown : List (ℕ × List I) → List I → List (ℕ × List I)
  grown [] new = []
  grown (part ∷ parts) new = (part.0, part.1 ++ new) ∷ parts

abbrev pub ticket : Stage → ℕ
ticket (Waits t) = t
ticket (Turns t) = t
ticket (Recorded t) = t
ticket _ = 0

abbrev pub new_number : Stage → ℕ
new_number (Numbered n) = n
new_number (Counted n) = n
new_number _ = 0

module _ {B I F : Type 0} where
  abbrev pub drew : Me (Option B) (View I F) → ℕ → Me (Option B) (View I F) → Type 0
  drew m found n = (t : ℕ) × (n ≡ (at_stage m.0 (Waits t), m.1)) × (found ≡ t % 2 ^ 64)

  abbrev pub passed_on : Me (Option B) (View I F) → Me (Option B) (View I F) → Type 0
  passed_on m n = n ≡ (at_stage m.0 Idle, [])

  abbrev pub numbered : Me (Option B) (View I F) → ℕ → Me (Option B) (View I F) → Type 0
  numbered m found n = (n ≡ (view m.0.fixed m.0.seen m.0.own (m.0.room - 1) (Numbered found), m.1)) × (times found (numbers_of m.0.own) ≡ 0)

  abbrev pub counted_up : Me (Option B) (View I F) → Me (Option B) (View I F) → Type 0
  counted_up m n = n ≡ (at_stage m.0 (Counted (new_number m.0.stage)), m.1)

  abbrev pub counted_down : Me (Option B) (View I F) → Me (Option B) (View I F) → Type 0
  counted_down m n = n ≡ (at_stage m.0 Idle, m.1)

  -- 1 exactly where this pass has all rooms and numbers
  abbrev pub asked : Me (Option B) (View I F) → ℕ → Me (Option B) (View I F) → Type 0
  asked m found n = (n ≡ m) × (1 ≤ found) × (m.0.room + length m.0.own ≤ 65537) × (found ≡ 1 → m.0.room + length m.0.own ≡ 65537) × (m.0.room + length m.0.own ≡ 65537 → found ≡ 1)

module _ {I F : Type 0} where
  abbrev pub kept_view : View I F → View I F
  kept_view v = at_stage v Idle

  abbrev pub new_view : View I F → View I F
  new_view v = view v.fixed v.seen ((new_number v.stage, []) ∷ []) 0 Idle

  abbrev pub joined : View I F → View I F → View I F
  joined v w = view v.fixed (longer v.seen w.seen) (v.own ++ w.own) (v.room + w.room) Joined

  abbrev pub spent : View I F
  spent = view None [] [] 0 Idle

  -- what the pass has seen, where the book that it holds has these items
  abbrev pub grows : View I F → List I → View I F
  grows v xs = view v.fixed xs (grown v.own (drop (length v.seen) xs)) v.room (Recorded (ticket v.stage))

module _ {B I : Type 0} (items : B → List I) where
  -- the items of the book that the pass holds
  abbrev pub held : List (ℕ × Option B) → List I
  held ((k, Some b) ∷ xs) = items b
  held ((k, None) ∷ xs) = []
  held [] = []

module _ {B I F : Type 0} (items : B → List I) where
  abbrev pub recorded : Me (Option B) (View I F) → Me (Option B) (View I F) → Type 0
  recorded m n = n ≡ (grows m.0 (held items m.1), m.1)

  module _ (fixed : B → F) where
    -- the pass has the turn, and takes the book out
    pub record Took (m n : Me (Option B) (View I F)) : Type 0 where
      pub book : B
      pub out : n.1 ≡ (0, Some book) ∷ m.1
      pub now : n.0 ≡ view m.0.fixed (items book) m.0.own m.0.room (Turns (ticket m.0.stage))
      pub fixed_is : m.0.fixed ≡ Some (fixed book)
      pub begins : StartsWith (items book) m.0.seen
      pub stands : Stands (items book) m.0.own
      pub alone : m.0.room + length m.0.own ≡ 65537 → Whole (items book) m.0.own

    abbrev pub looked : Me (Option B) (View I F) → ℕ → Me (Option B) (View I F) → Type 0
    looked m found n = (found ≡ ticket m.0.stage % 2 ^ 64 → Took m n) × (found ≢ ticket m.0.stage % 2 ^ 64 → n ≡ m)
