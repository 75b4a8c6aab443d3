-- What a reader gives: what the definition gives, unless memory ran out.
use Rattle.std.specs.Prelude.{◌≡◌, ℕ, List, Option, None, Some, Result, Ok, Err}
use Rattle.std.specs.Borrow.{Bor}
use Rattle.plan_lines.specs.declared.unread.Unread.{Unread}
use Rattle.plan_lines.specs.declared.unread.Unread.TheVariants as unread

abbrev pub UnreadBy : {Y : Type 0} → Unread → Option Y → Type 0
UnreadBy unread.NoMemory defined = Unit {0}
UnreadBy unread.Form defined = defined ≡ None

abbrev pub Gives : {X Y : Type 0} → (X → Y) → Result X Unread → Option Y → Type 0
Gives view (Ok x) defined = defined ≡ Some (view x)
Gives view (Err e) defined = UnreadBy e defined

-- what is lent, as what it is
abbrev pub one : Bor (List ℕ) → List ℕ
one x = x.now

abbrev pub both : Bor (List ℕ) × Bor (List ℕ) → List ℕ × List ℕ
both x = (x.0.now, x.1.now)
