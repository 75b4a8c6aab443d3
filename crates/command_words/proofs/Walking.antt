-- How clap walks over the words behind the command: each step from where it stands.
use Rattle.std.proofs.Common.{◌≡◌, ℕ, Bool, true, false, ◌==◌, List, [], ◌∷◌, ◌++◌, Option, None, Some, codes, refl}
use Rattle.clap.specs.Walk.{Held, Row, Text, Waiting, idle, option, positional, Walk, walked, settled_rows, used, has_row}
use Rattle.clap.specs.Simple.{Shape, built}
use Rattle.clap.specs.Faults.{turn_fault, settle_fault}
use Rattle.command_words.specs.Parts.{begins_with_hyphen}
use Rattle.command_words.specs.ByClap.{Slot, id_of, rule_at, uno}
use Rattle.command_words.specs.declared.option_name.OptionName.{OptionName}
use Rattle.command_words.specs.declared.option_name.OptionName.TheVariants.{Seed, Cut, Threads, Sessions}

-- the command as it is built
abbrev pub top : Shape
top = (built uno).top

-- a use that waits to be entered: its argument and its value
abbrev pub pending_of : Option (Slot × Text) → Option (Text × List Text)
pending_of None = None
pending_of (Some given) = Some (id_of given.0, given.1 ∷ [])

abbrev pub held : List Row → Option (Text × List Text) → Held
held rows pending = record { rows = rows; pending = pending; skip = 0 }

-- where a walk stands
abbrev pub at : List Row → Option (Text × List Text) → Waiting → Bool → Walk
at rows pending waiting trailing = record { held = held rows pending; waiting = waiting; position = 1; is_trailing = trailing; stopped = None }

-- the rows when what waits is entered
abbrev pub entered : List Row → Option (Slot × Text) → List Row
entered rows given = settled_rows top.rules (pending_of given) rows

-- nothing waits for a value
abbrev pub free : Bool → Waiting
free false = idle
free true = positional

pub trails : (rows : List Row) (given : Option (Slot × Text)) (waiting : Waiting) (word : Text)
    → walked top.rules [] (at rows (pending_of given) waiting true) word ≡ at (entered rows given) (pending_of (Some (None, word))) positional true
unfolding walked
trails rows None waiting word = refl
trails rows (Some (None, v)) waiting word = refl
trails rows (Some (Some Seed, v)) waiting word = refl
trails rows (Some (Some Cut, v)) waiting word = refl
trails rows (Some (Some Threads, v)) waiting word = refl
trails rows (Some (Some Sessions, v)) waiting word = refl

-- a word that is no flag
abbrev pub PlainWalks : Waiting → Text → Type 0
PlainWalks waiting word = (rows : List Row) (given : Option (Slot × Text))
    → (walked top.rules [] (at rows (pending_of given) waiting false) word ≡ at (entered rows given) (pending_of (Some (None, word))) positional false)
    × (settle_fault top.rules false (held rows (pending_of given)) ≡ [] → turn_fault top [] (at rows (pending_of given) waiting false) word ≡ [])

empty_idle : PlainWalks idle []
unfolding walked
empty_idle rows None = (refl, λ f. rw f refl)
empty_idle rows (Some (None, v)) = (refl, λ f. rw f refl)
empty_idle rows (Some (Some Seed, v)) = (refl, λ f. rw f refl)
empty_idle rows (Some (Some Cut, v)) = (refl, λ f. rw f refl)
empty_idle rows (Some (Some Threads, v)) = (refl, λ f. rw f refl)
empty_idle rows (Some (Some Sessions, v)) = (refl, λ f. rw f refl)

word_idle : (x : ℕ) (xs : List ℕ) → (x == 45) ≡ false → PlainWalks idle (x ∷ xs)
unfolding walked
word_idle x xs e rows None = (rw (e, e) refl, λ f. rw (e, e) (rw f refl))
word_idle x xs e rows (Some (None, v)) = (rw (e, e) refl, λ f. rw (e, e) (rw f refl))
word_idle x xs e rows (Some (Some Seed, v)) = (rw (e, e) refl, λ f. rw (e, e) (rw f refl))
word_idle x xs e rows (Some (Some Cut, v)) = (rw (e, e) refl, λ f. rw (e, e) (rw f refl))
word_idle x xs e rows (Some (Some Threads, v)) = (rw (e, e) refl, λ f. rw (e, e) (rw f refl))
word_idle x xs e rows (Some (Some Sessions, v)) = (rw (e, e) refl, λ f. rw (e, e) (rw f refl))

empty_positional : PlainWalks positional []
unfolding walked
empty_positional rows None = (refl, λ f. rw f refl)
empty_positional rows (Some (None, v)) = (refl, λ f. rw f refl)
empty_positional rows (Some (Some Seed, v)) = (refl, λ f. rw f refl)
empty_positional rows (Some (Some Cut, v)) = (refl, λ f. rw f refl)
empty_positional rows (Some (Some Threads, v)) = (refl, λ f. rw f refl)
empty_positional rows (Some (Some Sessions, v)) = (refl, λ f. rw f refl)

word_positional : (x : ℕ) (xs : List ℕ) → (x == 45) ≡ false → PlainWalks positional (x ∷ xs)
unfolding walked
word_positional x xs e rows None = (rw (e, e) refl, λ f. rw (e, e) (rw f refl))
word_positional x xs e rows (Some (None, v)) = (rw (e, e) refl, λ f. rw (e, e) (rw f refl))
word_positional x xs e rows (Some (Some Seed, v)) = (rw (e, e) refl, λ f. rw (e, e) (rw f refl))
word_positional x xs e rows (Some (Some Cut, v)) = (rw (e, e) refl, λ f. rw (e, e) (rw f refl))
word_positional x xs e rows (Some (Some Threads, v)) = (rw (e, e) refl, λ f. rw (e, e) (rw f refl))
word_positional x xs e rows (Some (Some Sessions, v)) = (rw (e, e) refl, λ f. rw (e, e) (rw f refl))

pub walks_plain : (wait : Bool) (word : Text) → begins_with_hyphen word ≡ false → PlainWalks (free wait) word
walks_plain false [] e = empty_idle
walks_plain false (x ∷ xs) e = word_idle x xs e
walks_plain true [] e = empty_positional
walks_plain true (x ∷ xs) e = word_positional x xs e

pub walks_end : (rows : List Row) (pending : Option (Text × List Text)) (wait : Bool) → walked top.rules [] (at rows pending (free wait) false) (codes "--") ≡ at rows pending (free wait) true
unfolding walked
walks_end rows pending false = refl
walks_end rows pending true = refl

pub walks_name : (rows : List Row) (pending : Option (Text × List Text)) (wait : Bool) (o : OptionName)
    → walked top.rules [] (at rows pending (free wait) false) (codes "--" ++ id_of (Some o)) ≡ at (settled_rows top.rules pending rows) (Some (id_of (Some o), [])) (option (id_of (Some o))) false
unfolding walked
walks_name rows pending false Seed = refl
walks_name rows pending false Cut = refl
walks_name rows pending false Threads = refl
walks_name rows pending false Sessions = refl
walks_name rows pending true Seed = refl
walks_name rows pending true Cut = refl
walks_name rows pending true Threads = refl
walks_name rows pending true Sessions = refl

pub walks_both : (rows : List Row) (pending : Option (Text × List Text)) (wait : Bool) (o : OptionName) (value : Text)
    → walked top.rules [] (at rows pending (free wait) false) (codes "--" ++ (id_of (Some o) ++ 61 ∷ value)) ≡ at (used (rule_at (Some o)) (value ∷ []) (settled_rows top.rules pending rows)) None idle false
unfolding walked
walks_both rows pending false Seed value = refl
walks_both rows pending false Cut value = refl
walks_both rows pending false Threads value = refl
walks_both rows pending false Sessions value = refl
walks_both rows pending true Seed value = refl
walks_both rows pending true Cut value = refl
walks_both rows pending true Threads value = refl
walks_both rows pending true Sessions value = refl

pub walks_value : (rows : List Row) (o : OptionName) (word : Text) → begins_with_hyphen word ≡ false
    → (walked top.rules [] (at rows (Some (id_of (Some o), [])) (option (id_of (Some o))) false) word ≡ at rows (pending_of (Some (Some o, word))) idle false)
    × (turn_fault top [] (at rows (Some (id_of (Some o), [])) (option (id_of (Some o))) false) word ≡ [])
unfolding walked
walks_value rows Seed [] e = (refl, refl)
walks_value rows Cut [] e = (refl, refl)
walks_value rows Threads [] e = (refl, refl)
walks_value rows Sessions [] e = (refl, refl)
walks_value rows Seed (x ∷ xs) e = (rw (e, e) refl, rw (e, e) refl)
walks_value rows Cut (x ∷ xs) e = (rw (e, e) refl, rw (e, e) refl)
walks_value rows Threads (x ∷ xs) e = (rw (e, e) refl, rw (e, e) refl)
walks_value rows Sessions (x ∷ xs) e = (rw (e, e) refl, rw (e, e) refl)

pub trail_fault : (rows : List Row) (given : Option (Slot × Text)) (waiting : Waiting) (word : Text) → settle_fault top.rules false (held rows (pending_of given)) ≡ []
    → turn_fault top [] (at rows (pending_of given) waiting true) word ≡ []
unfolding walked
trail_fault rows None waiting word f = rw f refl
trail_fault rows (Some (None, v)) waiting word f = rw f refl
trail_fault rows (Some (Some Seed, v)) waiting word f = rw f refl
trail_fault rows (Some (Some Cut, v)) waiting word f = rw f refl
trail_fault rows (Some (Some Threads, v)) waiting word f = rw f refl
trail_fault rows (Some (Some Sessions, v)) waiting word f = rw f refl

pub end_fault : (rows : List Row) (pending : Option (Text × List Text)) (wait : Bool) → turn_fault top [] (at rows pending (free wait) false) (codes "--") ≡ []
unfolding walked
end_fault rows pending false = refl
end_fault rows pending true = refl

pub name_fault : (rows : List Row) (pending : Option (Text × List Text)) (wait : Bool) (o : OptionName) → settle_fault top.rules false (held rows pending) ≡ []
    → turn_fault top [] (at rows pending (free wait) false) (codes "--" ++ id_of (Some o)) ≡ []
unfolding walked
name_fault rows pending false Seed f = rw f refl
name_fault rows pending false Cut f = rw f refl
name_fault rows pending false Threads f = rw f refl
name_fault rows pending false Sessions f = rw f refl
name_fault rows pending true Seed f = rw f refl
name_fault rows pending true Cut f = rw f refl
name_fault rows pending true Threads f = rw f refl
name_fault rows pending true Sessions f = rw f refl

pub both_fault : (rows : List Row) (pending : Option (Text × List Text)) (wait : Bool) (o : OptionName) (value : Text) → settle_fault top.rules false (held rows pending) ≡ []
    → has_row (id_of (Some o)) (settled_rows top.rules pending rows) ≡ false → turn_fault top [] (at rows pending (free wait) false) (codes "--" ++ (id_of (Some o) ++ 61 ∷ value)) ≡ []
unfolding walked
both_fault rows pending false Seed value f n = rw (f, n) refl
both_fault rows pending false Cut value f n = rw (f, n) refl
both_fault rows pending false Threads value f n = rw (f, n) refl
both_fault rows pending false Sessions value f n = rw (f, n) refl
both_fault rows pending true Seed value f n = rw (f, n) refl
both_fault rows pending true Cut value f n = rw (f, n) refl
both_fault rows pending true Threads value f n = rw (f, n) refl
both_fault rows pending true Sessions value f n = rw (f, n) refl

-- a use of an option that was not used before
abbrev pub IsFirst : List Row → Option (Slot × Text) → Type 0
IsFirst rows None = Unit {0}
IsFirst rows (Some (None, v)) = Unit {0}
IsFirst rows (Some (Some o, v)) = has_row (id_of (Some o)) rows ≡ false

pub settles : (rows : List Row) (given : Option (Slot × Text)) → IsFirst rows given → settle_fault top.rules false (held rows (pending_of given)) ≡ []
settles rows None first = refl
settles rows (Some (None, v)) first = refl
settles rows (Some (Some Seed, v)) first = rw first refl
settles rows (Some (Some Cut, v)) first = rw first refl
settles rows (Some (Some Threads, v)) first = rw first refl
settles rows (Some (Some Sessions, v)) first = rw first refl
