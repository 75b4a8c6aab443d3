-- What the steps of one call leave a pass with, and that each may be made after the ones before it.
use Rattle.std.proofs.Common.{◌≡◌, ◌≢◌, ℕ, ◌+◌, ◌-◌, ◌%◌, ◌^◌, ◌<◌, ◌≤◌, List, [], ◌∷◌, ◌++◌, length, drop, Option, Some, None, sym, refl, ap, ◌∙◌, subst, length-append, arith}
use mathlib.Core.Logic.{dite}
use native.Mathlib.Decide.{ℕ_discrete}
use Rattle.atomic_table.specs.Table.{State, Me, Allows, Splits, rest, opening}
use Rattle.atomic_table.specs.declared.shared.Shared.{Shared}
use Rattle.atomic_table.specs.declared.shared.Seat.{Seat}
use Rattle.std.specs.declared.snapshot.Snapshot.{Snapshot}
use Rattle.turn_book.specs.declared.view.View.{View}
use Rattle.turn_book.specs.declared.view.Stage.{Stage}
use Rattle.turn_book.specs.declared.view.Stage.TheVariants.{Idle, Waits, Turns, Counted}
use Rattle.turn_book.specs.History.{StartsWith, GrowsByOne, Stands, Whole, longer}
use Rattle.turn_book.specs.Views.{view, at_stage}
use Rattle.turn_book.specs.Steps.{passed_on, recorded, grows, grown, held, looked, Took, numbered, counted_up, counted_down, kept_view, new_view, joined, new_number, ticket}
use Rattle.turn_book.specs.Ruled.{Ruled, opened}
use Rattle.turn_book.specs.Passes.{Rests, HasTurn}
use Rattle.turn_book.proofs.Turning.{looks, records_as, passes_on}
use Rattle.turn_book.proofs.Numbering.{counts_up, counts_down, splits, opens}

-- what an option has, or else the first
abbrev pub or_else : {B : Type 0} → B → Option B → B
or_else d (Some x) = x
or_else d None = d

-- what is held first
abbrev pub first_held : {B : Type 0} → List (ℕ × Option B) → Option B
first_held [] = None
first_held (x ∷ xs) = x.1

pub grown_some : {I : Type 0} (own : List (ℕ × List I)) (new : List I) → 0 < length own → 0 < length (grown own new)
grown_some [] new h = h
grown_some (p ∷ ps) new h = h

pub both_some : {I : Type 0} (own other : List (ℕ × List I)) → 0 < length own → 0 < length (own ++ other)
both_some own other h = let e : length (own ++ other) ≡ length own + length other = length-append own other in omega arith

-- what a pass has: its view and what it holds
abbrev M : Type 0 → Type 0 → Type 0 → Type 0
M B I F = Me (Option B) (View I F)

-- what is left of a pass, as it is told
pub facts : {B I F : Type 0} (p : M B I F) (f : Option F) (sn : List I) (ow : List (ℕ × List I)) (rm : ℕ) (st : Stage) (c : List (ℕ × Option B)) → p ≡ (view f sn ow rm st, c) → (p.0.seen ≡ sn) × (p.0.own ≡ ow) × (p.0.room ≡ rm)
facts {B} {I} {F} p f sn ow rm st c e = (ap (λ (m : M B I F). m.0.seen) e, ap (λ (m : M B I F). m.0.own) e, ap (λ (m : M B I F). m.0.room) e)

pub one_back : (m n : ℕ) → m ≡ n - 1 → 0 < n → m + 1 ≡ n
one_back m n e h = omega arith

-- who asks and is not told 1 has not all rooms and numbers
pub not_all : (found all : ℕ) → found ≢ 1 → all ≤ 65537 → (all ≡ 65537 → found ≡ 1) → all < 65537
not_all found all other le h = dite (ℕ_discrete all 65537) (λ e. absurd (other (h e))) (λ apart. omega arith)

pub more_than_one : (found : ℕ) → found ≢ 1 → 1 ≤ found → 1 < found
more_than_one found other h = omega arith

pub has_fixed : {F : Type 0} (f : Option F) (x y : F) → f ≡ Some x → y ≡ x → f ≡ Some y
has_fixed {F} f x y e same = e ∙ ap (λ (z : F). Some z) (sym same)

pub first_and_rest : {B : Type 0} (l : List (ℕ × Option B)) (x : ℕ × Option B) → l ≡ x ∷ [] → l ≡ x ∷ rest l
first_and_rest {B} l x e = e ∙ ap (λ (r : List (ℕ × Option B)). x ∷ r) (sym (ap rest e))

module _ {B I F P : Type 0} (fixed : B → F) (lock : Shared (Option B) (View I F) (Snapshot B) P) where
  pub rests : (p : Seat (Option B) (View I F)) (f : Option F) (sn : List I) (ow : List (ℕ × List I)) (rm : ℕ) → p.table_id ≡ lock.table_id → p.me ≡ (view f sn ow rm Idle, []) → f ≡ Some (fixed lock.key.value) → 0 < length ow → Rests fixed lock p
  rests p f sn ow rm table me has some_own = record {
    of_lock = record {
      table = table;
      fixed_is = ap (λ (m : M B I F). m.0.fixed) me ∙ has;
      numbered = subst (λ (m : M B I F). 0 < length m.0.own) (sym me) some_own;
    };
    idle = ap (λ (m : M B I F). m.0.stage) me;
    empty = ap (λ (m : M B I F). m.1) me;
  }

  pub in_turn : (p : Seat (Option B) (View I F)) (f : Option F) (sn : List I) (ow : List (ℕ × List I)) (rm t : ℕ) → p.table_id ≡ lock.table_id → p.me ≡ (view f sn ow rm (Turns t), (0, None) ∷ []) → f ≡ Some (fixed lock.key.value) → 0 < length ow
      → HasTurn fixed lock p
  in_turn p f sn ow rm t table me has some_own = record {
    of_lock = record {
      table = table;
      fixed_is = ap (λ (m : M B I F). m.0.fixed) me ∙ has;
      numbered = subst (λ (m : M B I F). 0 < length m.0.own) (sym me) some_own;
    };
    ticket = t;
    turn = ap (λ (m : M B I F). m.0.stage) me;
    out = ap (λ (m : M B I F). m.1) me;
  }

  -- a step that changes neither its view nor what it holds
  pub rests_same : (p q : Seat (Option B) (View I F)) → q.table_id ≡ p.table_id → q.me ≡ p.me → Rests fixed lock p → Rests fixed lock q
  rests_same p q table me old = record {
    of_lock = record {
      table = table ∙ old.of_lock.table;
      fixed_is = ap (λ (m : M B I F). m.0.fixed) me ∙ old.of_lock.fixed_is;
      numbered = subst (λ (m : M B I F). 0 < length m.0.own) (sym me) old.of_lock.numbered;
    };
    idle = ap (λ (m : M B I F). m.0.stage) me ∙ old.idle;
    empty = ap (λ (m : M B I F). m.1) me ∙ old.empty;
  }

module _ {B I F : Type 0} where
  pub starts_same : (m n : M B I F) (xs : List I) → n ≡ m → StartsWith xs n.0.seen → StartsWith xs m.0.seen
  starts_same m n xs e = subst (λ (x : M B I F). StartsWith xs x.0.seen) e

  pub whole_same : (m n : M B I F) (xs : List I) → n ≡ m → (n.0.room + length n.0.own ≡ 65537 → Whole xs n.0.own) → m.0.room + length m.0.own ≡ 65537 → Whole xs m.0.own
  whole_same m n xs e = subst (λ (x : M B I F). x.0.room + length x.0.own ≡ 65537 → Whole xs x.0.own) e

  pub counted_is : (m n o : M B I F) (k : ℕ) → numbered m k n → counted_up n o → o ≡ (view m.0.fixed m.0.seen m.0.own (m.0.room - 1) (Counted k), m.1)
  counted_is m n o k a b = b ∙ ap (λ (x : M B I F). (at_stage x.0 (Counted (new_number x.0.stage)), x.1)) a.0

  -- a split
  pub kept_is : (m n o p : M B I F) (k : ℕ) → numbered m k n → counted_up n o → p ≡ (kept_view o.0, o.1) → m.1 ≡ [] → p ≡ (view m.0.fixed m.0.seen m.0.own (m.0.room - 1) Idle, [])
  kept_is m n o p k a b c e = c ∙ (ap (λ (x : M B I F). (kept_view x.0, x.1)) (counted_is m n o k a b) ∙ ap (λ (l : List (ℕ × Option B)). (view m.0.fixed m.0.seen m.0.own (m.0.room - 1) Idle, l)) e)

  pub new_is : (m n o p : M B I F) (k : ℕ) → numbered m k n → counted_up n o → p ≡ (new_view o.0, []) → p ≡ (view m.0.fixed m.0.seen ((k, []) ∷ []) 0 Idle, [])
  new_is m n o p k a b c = c ∙ ap (λ (x : M B I F). (new_view x.0, [])) (counted_is m n o k a b)

  -- a join
  pub joined_is : (m n p : M B I F) (w : View I F) → n ≡ (joined m.0 w, m.1) → counted_down n p → m.1 ≡ [] → p ≡ (view m.0.fixed (longer m.0.seen w.seen) (m.0.own ++ w.own) (m.0.room + w.room) Idle, [])
  joined_is m n p w a b e = b ∙ (ap (λ (x : M B I F). (at_stage x.0 Idle, x.1)) a ∙ ap (λ (l : List (ℕ × Option B)). (view m.0.fixed (longer m.0.seen w.seen) (m.0.own ++ w.own) (m.0.room + w.room) Idle, l)) e)

module _ {B I F : Type 0} (items : B → List I) (fixed : B → F) where
  -- a turn that begins: the book that is taken out is the one that the step tells
  pub taken_is : (m n : M B I F) (book : Option B) (took : Took items fixed m n) → n.1 ≡ (0, book) ∷ rest n.1 → Some took.book ≡ book
  taken_is m n book took e = ap first_held (sym took.out ∙ e)

  pub out_is : (m n : M B I F) (took : Took items fixed m n) → n.1 ≡ (0, Some took.book) ∷ rest n.1
  out_is m n took = took.out ∙ ap (λ (l : List (ℕ × Option B)). (0, Some took.book) ∷ l) (sym (ap rest took.out))

  pub entered_is : (m n o p : M B I F) (t : ℕ) (took : Took items fixed n o) → n ≡ (at_stage m.0 (Waits t), m.1) → m.1 ≡ [] → p ≡ (o.0, (0, None) ∷ rest o.1) → p ≡ (view m.0.fixed (items took.book) m.0.own m.0.room (Turns t), (0, None) ∷ [])
  entered_is m n o p t took drawn empty e =
      let carried : o.1 ≡ (0, Some took.book) ∷ [] = took.out ∙ ap (λ (l : List (ℕ × Option B)). (0, Some took.book) ∷ l) (ap (λ (x : M B I F). x.1) drawn ∙ empty) in
      let now : o.0 ≡ view m.0.fixed (items took.book) m.0.own m.0.room (Turns t) = took.now ∙ ap (λ (x : M B I F). view x.0.fixed (items took.book) x.0.own x.0.room (Turns (ticket x.0.stage))) drawn in
      let both : (o.0, (0, None) ∷ rest o.1) ≡ (view m.0.fixed (items took.book) m.0.own m.0.room (Turns t), (0, None) ∷ []) = λ i. (now i, (0, None) ∷ rest (carried i)) in
      e ∙ both

  -- a turn that ends
  pub given_is : (m n : M B I F) (b : B) → m.1 ≡ (0, None) ∷ [] → n ≡ (m.0, (0, Some b) ∷ rest m.1) → n ≡ (m.0, (0, Some b) ∷ [])
  given_is m n b out e = e ∙ ap (λ (l : List (ℕ × Option B)). (m.0, (0, Some b) ∷ rest l)) out

  pub recorded_is : (m n o : M B I F) (b : B) → m.1 ≡ (0, None) ∷ [] → n ≡ (m.0, (0, Some b) ∷ rest m.1) → recorded items n o → o ≡ (grows m.0 (items b), (0, Some b) ∷ [])
  recorded_is m n o b out e r = r ∙ ap (λ (x : M B I F). (grows x.0 (held items x.1), x.1)) (given_is m n b out e)

  pub left_is : (m n o p : M B I F) (b : B) → m.1 ≡ (0, None) ∷ [] → n ≡ (m.0, (0, Some b) ∷ rest m.1) → recorded items n o → passed_on o p
      → p ≡ (view m.0.fixed (items b) (grown m.0.own (drop (length m.0.seen) (items b))) m.0.room Idle, [])
  left_is m n o p b out e r l = l ∙ ap (λ (x : M B I F). (at_stage x.0 Idle, [])) (recorded_is m n o b out e r)

  module _ (key : F) where
    abbrev R : State (Option B) (View I F) → Type 0
    R = Ruled items fixed key

    pub may_count_up : (slots id : ℕ) (m n : M B I F) (k : ℕ) → 0 < length m.0.own → numbered m k n → Allows R slots id n 0 (λ x. (x + 1) % 2 ^ 64) (λ _ o. counted_up n o)
    may_count_up slots id m n k some_own a =
        subst (λ (x : M B I F). Allows R slots id x 0 (λ y. (y + 1) % 2 ^ 64) (λ _ o. counted_up x o)) (sym a.0) (counts_up items fixed key slots id m.0.fixed m.0.seen m.0.own (m.0.room - 1) k m.1 some_own)

    pub may_split : (id : ℕ) (m n o : M B I F) (k : ℕ) → 0 < length m.0.own → numbered m k n → counted_up n o → Splits R id o.0 (kept_view o.0) (new_view o.0)
    may_split id m n o k some_own a b =
        subst (λ (x : M B I F). Splits R id x.0 (kept_view x.0) (new_view x.0)) (sym (counted_is m n o k a b)) (splits items fixed key id m.0.fixed m.0.seen m.0.own (m.0.room - 1) k some_own)

    pub may_count_down : (slots id : ℕ) (m n : M B I F) (w : View I F) → 0 < length m.0.own → n ≡ (joined m.0 w, m.1) → Allows R slots id n 0 (λ x. (x + (2 ^ 64 - 1)) % 2 ^ 64) (λ _ o. counted_down n o)
    may_count_down slots id m n w some_own a =
        subst (λ (x : M B I F). Allows R slots id x 0 (λ y. (y + (2 ^ 64 - 1)) % 2 ^ 64) (λ _ o. counted_down x o)) (sym a)
        (counts_down items fixed key slots id m.0.fixed (longer m.0.seen w.seen) (m.0.own ++ w.own) (m.0.room + w.room) m.1 (both_some m.0.own w.own some_own))

    pub may_look : (slots id : ℕ) (m n : M B I F) (t : ℕ) → 0 < length m.0.own → n ≡ (at_stage m.0 (Waits t), m.1) → Allows R slots id n 2 (λ x. x) (looked items fixed n)
    may_look slots id m n t some_own a =
        subst (λ (x : M B I F). Allows R slots id x 2 (λ y. y) (looked items fixed x)) (sym a) (looks items fixed key slots id m.0.fixed m.0.seen m.0.own m.0.room t m.1 some_own)

    pub may_record : (slots id : ℕ) (m n : M B I F) (t count : ℕ) (b : B) → 0 < length m.0.own → m.0.stage ≡ Turns t → m.1 ≡ (0, None) ∷ [] → n ≡ (m.0, (0, Some b) ∷ rest m.1) → GrowsByOne m.0.seen (items b) → count ≡ length (items b)
        → Allows R slots id n 3 (λ _. count) (λ _ o. recorded items n o)
    may_record slots id m n t count b some_own is out e more long =
        subst (λ (x : M B I F). Allows R slots id x 3 (λ _. count) (λ _ o. recorded items x o)) (sym (given_is m n b out e))
        (records_as items fixed key slots id (m.0, (0, Some b) ∷ []) t count b more.0 some_own is refl more.2 long)

    pub may_pass_on : (slots id : ℕ) (m n o : M B I F) (b : B) → 0 < length m.0.own → m.1 ≡ (0, None) ∷ [] → n ≡ (m.0, (0, Some b) ∷ rest m.1) → recorded items n o → m.0.fixed ≡ Some (fixed b)
        → Allows R slots id o 2 (λ x. (x + 1) % 2 ^ 64) (λ _ p. passed_on o p)
    may_pass_on slots id m n o b some_own out e r same_fixed =
        subst (λ (x : M B I F). Allows R slots id x 2 (λ y. (y + 1) % 2 ^ 64) (λ _ p. passed_on x p)) (sym (recorded_is m n o b out e r))
        (passes_on items fixed key slots id m.0.fixed (items b) (grown m.0.own (drop (length m.0.seen) (items b))) m.0.room (ticket m.0.stage) b (grown_some m.0.own (drop (length m.0.seen) (items b)) some_own) refl same_fixed)

-- a look shows the ticket that was drawn
pub shown : {B I F : Type 0} (m n : M B I F) (t found drawn : ℕ) → found ≡ drawn → drawn ≡ t % 2 ^ 64 → n ≡ (at_stage m.0 (Waits t), m.1) → found ≡ ticket n.0.stage % 2 ^ 64
shown {B} {I} {F} m n t found drawn a b e = a ∙ (b ∙ sym (ap (λ (x : M B I F). ticket x.0.stage % 2 ^ 64) e))

pub some_same : {F : Type 0} (f : Option F) (x y : F) → f ≡ Some x → f ≡ Some y → x ≡ y
some_same f x y a b = ap (or_else y) (sym a ∙ b)

pub not_shown : {B I F : Type 0} (m n : M B I F) (t found drawn : ℕ) → found ≢ drawn → drawn ≡ t % 2 ^ 64 → n ≡ (at_stage m.0 (Waits t), m.1) → found ≢ ticket n.0.stage % 2 ^ 64
not_shown {B} {I} {F} m n t found drawn a b e = λ hit. a (hit ∙ (ap (λ (x : M B I F). ticket x.0.stage % 2 ^ 64) e ∙ sym b))

-- all that is known as a turn begins
pub record Entered {B I F : Type 0} (items : B → List I) (fixed : B → F) (m p : M B I F) (book : B) : Type 0 where
  pub ticket_is : ℕ
  pub now : p ≡ (view m.0.fixed (items book) m.0.own m.0.room (Turns ticket_is), (0, None) ∷ [])
  pub begins : StartsWith (items book) m.0.seen
  pub stands : Stands (items book) m.0.own
  pub alone : m.0.room + length m.0.own ≡ 65537 → Whole (items book) m.0.own
  pub has : m.0.fixed ≡ Some (fixed book)

pub entered : {B I F : Type 0} (items : B → List I) (fixed : B → F) (m n o p : M B I F) (t : ℕ) (old : Option B) (book : B) (took : Took items fixed n o) → n ≡ (at_stage m.0 (Waits t), m.1) → m.1 ≡ [] → o.1 ≡ (0, old) ∷ rest o.1 → old ≡ Some book
    → p ≡ (o.0, (0, None) ∷ rest o.1) → Entered items fixed m p book
entered {B} {I} {F} items fixed m n o p t old book took drawn empty was is e =
    let same_book : took.book ≡ book = some_same old took.book book (sym (taken_is items fixed n o old took was)) is in
    subst (λ (b : B). Entered items fixed m p b) same_book record {
      ticket_is = t;
      now = entered_is items fixed m n o p t took drawn empty e;
      begins = subst (λ (x : M B I F). StartsWith (items took.book) x.0.seen) drawn took.begins;
      stands = subst (λ (x : M B I F). Stands (items took.book) x.0.own) drawn took.stands;
      alone = subst (λ (x : M B I F). x.0.room + length x.0.own ≡ 65537 → Whole (items took.book) x.0.own) drawn took.alone;
      has = subst (λ (x : M B I F). x.0.fixed ≡ Some (fixed took.book)) drawn took.fixed_is;
    }

-- a lock that was just made
pub opens_as : {B I F : Type 0} (items : B → List I) (fixed : B → F) (book given : B) (count : ℕ) (slots : List (Option B)) → given ≡ book → count ≡ length (items book) → slots ≡ Some book ∷ []
    → Ruled items fixed (fixed given) (opening (1 ∷ 0 ∷ 0 ∷ count ∷ 1 ∷ []) slots (opened (items given) (fixed given)))
opens_as {B} items fixed book given count slots same_book long one =
    subst (λ (x : B × List (Option B)). Ruled items fixed (fixed x.0) (opening (1 ∷ 0 ∷ 0 ∷ count ∷ 1 ∷ []) x.1 (opened (items x.0) (fixed x.0))))
    (λ i. (sym same_book i, sym one i)) (opens items fixed (fixed book) book count refl long)

pub rests_first : {B I F P : Type 0} (items : B → List I) (fixed : B → F) (lock : Shared (Option B) (View I F) (Snapshot B) P) (p : Seat (Option B) (View I F)) (given : Snapshot B) → p.table_id ≡ lock.table_id
    → p.me ≡ (opened (items given.value) (fixed given.value), []) → lock.key ≡ given → Rests fixed lock p
rests_first {B} items fixed lock p given table me key =
    rests fixed lock p (Some (fixed given.value)) (items given.value) ((0, items given.value) ∷ []) 65536 table me (ap (λ (k : Snapshot B). Some (fixed k.value)) (sym key)) (omega arith)

pub key_is : {B : Type 0} (key given : Snapshot B) (book : B) → key ≡ given → given.value ≡ book → key.value ≡ book
key_is {B} key given book e is = ap (λ (k : Snapshot B). k.value) e ∙ is

pub first_facts : {B I F : Type 0} (items : B → List I) (fixed : B → F) (p : M B I F) (given book : B) → p ≡ (opened (items given) (fixed given), []) → given ≡ book → (p.0.seen ≡ items book) × (p.0.own ≡ (0, items book) ∷ []) × (p.0.room ≡ 65536)
first_facts {B} {I} {F} items fixed p given book e is = (ap (λ (m : M B I F). m.0.seen) e ∙ ap items is, ap (λ (m : M B I F). m.0.own) e ∙ ap (λ (b : B). (0, items b) ∷ []) is, ap (λ (m : M B I F). m.0.room) e)

pub pushed_one : {B : Type 0} (before after : List (Option B)) (x : Option B) → after ≡ before ++ x ∷ [] → before ≡ [] → after ≡ x ∷ []
pushed_one {B} before after x e none_before = e ∙ ap (λ (l : List (Option B)). l ++ x ∷ []) none_before

-- what the one place has, or else nothing
abbrev head_of : {B : Type 0} → List (Option B) → Option B
head_of [] = None
head_of (x ∷ xs) = x

pub one_same : {B : Type 0} (l : List (Option B)) (x y : B) → l ≡ Some x ∷ [] → l ≡ Some y ∷ [] → x ≡ y
one_same l x y a b = ap (or_else y) (ap head_of (sym a ∙ b))
