-- Each move of a pair can be done, where each root's entry can be made: what a move enters may stand, and what it feeds is next in the pipe.
use Rattle.std.proofs.Common.{◌≡◌, refl, sym, ap, subst, ◌∙◌, ℕ, zero, suc, ◌+◌, ◌-◌, ◌<◌, ◌≤◌, Bool, true, false, not, ◌&&◌, ◌||◌, nat_lt, List, [], ◌∷◌, ◌++◌, length, take, map, filter, Option, None, Some, slice_get, slice_set, arith, if◌then◌else◌}
use Rattle.std.specs.List.{AllByRecursion}
use Rattle.std.specs.Option.{option_map}
use Rattle.std.specs.Str.{bytes_eq}
use Rattle.std.proofs.lemmas.Bool.{and_parts, false≢true, true≢false, not-true, eq-eqb}
use Rattle.std.proofs.lemmas.Bool.Decides.{nat_tests}
use Rattle.std.proofs.lemmas.List.{append_assoc, append-nil, length-take}
use Rattle.std.proofs.lemmas.Slice.Eq.{bytes_eq-Decides}
use Rattle.plan_model.specs.Frames.{Frame, base, body, outgoing, Stack, frames_of, first_frame, is_body, ready}
use Rattle.plan_model.specs.Roots.{Run}
use Rattle.bridge_model.specs.Answers.{cut, next_cut, feed_is_full, may_reap, drained_next, bytes_wait, is_some_piece}
use Rattle.bridge_model.specs.Entries.{Entry, fed, ended, applied, reaped, drained, full}
use Rattle.bridge_model.specs.Feeding.{ends_part}
use Rattle.bridge_model.specs.Going.{waiting_bytes, are_next}
use Rattle.bridge_model.specs.Histories.{Told, told_more, told_by, Leads}
use Rattle.bridge_model.specs.Objects.{lowest}
use Rattle.bridge_model.specs.Orders.{or_full, most_drained}
use Rattle.bridge_model.specs.RootRuns.{Moved, waiting, finished, root_moves}
use Rattle.bridge_model.specs.RootRuns as run
use Rattle.bridge_model.specs.Settings.{Setting}
use Rattle.bridge_model.specs.Sides as side
use Rattle.bridge_model.specs.Sides.{Object, stands}
use Rattle.bridge_model.specs.Steps.{most_fed, fed_count, has_entries, has_fed, but_last, is_some_bytes, picked_in, picked, is_picked, is_numbered, is_no_memory, turn, step, may, does}
use Rattle.bridge_laws.proofs.StepLaws.{quiet_along}
use Rattle.bridge_laws.specs.Grounded.{AreApart}
use Rattle.world_model.specs.Moves.{Deed, applies, steps, reaps, drains, carries, closes, one_if, applying, does_move, stepping, reaping, may_carry, may_close, deeds, Done, with_entry, step_done, steps_at, carried, done}
use Rattle.world_model.specs.Worlds.{End, moved, moved_by, pipe, may_come, acts}
use Rattle.world_laws.proofs.SyncedLaws.{step_is}
use Rattle.bridge_laws.proofs.DoingLaws.{picked_one, up_by, may_or, by_lowest, take_again, may_cut}
use Rattle.world_laws.proofs.Entering.{CanEnter, MovedCanEnter, RunCanMove}

-- ---- what is cut off a piece

front_one : (held : List ℕ) (b : ℕ) (bytes : List ℕ) (e : Bool) → cut (held ++ b ∷ []) bytes ≡ take (length (cut (held ++ b ∷ []) bytes)) bytes
    → (if e then b ∷ [] else b ∷ cut (held ++ b ∷ []) bytes) ≡ take (length (if e then b ∷ [] else b ∷ cut (held ++ b ∷ []) bytes)) (b ∷ bytes)
front_one held b bytes true more = refl
front_one held b bytes false more = ap (λ xs. b ∷ xs) more

cut_front : (held piece : List ℕ) → cut held piece ≡ take (length (cut held piece)) piece
unfolding cut
cut_front held [] = refl
cut_front held (b ∷ bytes) = front_one held b bytes (ends_part (held ++ b ∷ [])) (cut_front (held ++ b ∷ []) bytes)

-- a front of a front is one
front_of : (b xs ys : List ℕ) (n : ℕ) → b ≡ take (length b) xs → xs ≡ take n ys → b ≡ take (length b) ys
front_of [] xs ys n one two = refl
front_of (c ∷ b) [] ys n one two = absurd (cc)
front_of (c ∷ b) (x ∷ xs) ys zero one two = absurd (cc)
front_of (c ∷ b) (x ∷ xs) [] (suc n) one two = absurd (cc)
front_of (c ∷ b) (x ∷ xs) (y ∷ ys) (suc n) one two =
    let first : c ≡ x = cc in
    let later : b ≡ take (length b) xs = cc in
    let second : x ≡ y = cc in
    let rest : xs ≡ take n ys = cc in
    let head = first ∙ second in
    let tail = front_of b xs ys n later rest in
    λ i. head i ∷ tail i

some_taken : (n : ℕ) (xs : List ℕ) → 1 ≤ n → is_some_piece xs ≡ true → is_some_bytes (take n xs) ≡ true
some_taken zero xs some is = absurd (omega arith)
some_taken (suc n) [] some is = absurd (false≢true is)
some_taken (suc n) (x ∷ xs) some is = refl

same_some : (xs : List ℕ) → is_some_bytes xs ≡ true → is_some_piece xs ≡ true
same_some [] is = absurd (false≢true is)
same_some (x ∷ xs) is = refl

-- ---- entries that may stand can be made

pub acts_can : (g : Setting) (one other : End) (e : Entry) → may_come other.now one.now e ≡ true → may g one.now.side e ≡ true → CanEnter g one other (Some e)
unfolding acts
acts_can g one other e comes can =
    let u = turn e one.now.side (does g e one.now.side) in
    (moved one (told_more one.now e u), ap (λ b. if b then moved_by one (told_by one.now e (step g one.now.side e)) else None) comes ∙ ap (λ o. moved_by one (told_by one.now e o)) (step_is g one.now.side e can))

pub nothing_comes : (one other : End) → bytes_eq [] (take 0 (pipe other.now one.now)) ≡ true
nothing_comes one other = (bytes_eq-Decides [] []).1 refl

-- ---- lists

pub all_some : {X : Type 0} (P Q : X → Type 0) → ((x : X) → P x → Q x) → (xs : List X) → AllByRecursion P xs → AllByRecursion Q xs
all_some P Q more [] all = tt
all_some P Q more (x ∷ xs) all = (more x all.0, all_some P Q more xs all.1)

pub all_joined : {X : Type 0} (P : X → Type 0) (xs ys : List X) → AllByRecursion P xs → AllByRecursion P ys → AllByRecursion P (xs ++ ys)
all_joined P [] ys all more = more
all_joined P (x ∷ xs) ys all more = (all.0, all_joined P xs ys all.1 more)

pub all_mapped : {X Y : Type 0} (f : X → Y) (P : Y → Type 0) (xs : List X) → AllByRecursion (λ x. P (f x)) xs → AllByRecursion P (map f xs)
all_mapped f P [] all = tt
all_mapped f P (x ∷ xs) all = (all.0, all_mapped f P xs all.1)

kept_if : {X : Type 0} (P : X → Type 0) (x : X) (rest : List X) (b : Bool) → (b ≡ true → P x) → AllByRecursion P rest → AllByRecursion P (if b then x ∷ rest else rest)
kept_if P x rest true fine all = (fine refl, all)
kept_if P x rest false fine all = all

all_filtered : {X : Type 0} (test : X → Bool) (P : X → Type 0) (xs : List X) → AllByRecursion (λ x. test x ≡ true → P x) xs → AllByRecursion P (filter test xs)
all_filtered test P [] all = tt
all_filtered test P (x ∷ xs) all = kept_if P x (filter test xs) (test x) all.0 (all_filtered test P xs all.1)

all_one : {X : Type 0} (P : X → Type 0) (x : X) (b : Bool) → (b ≡ true → P x) → AllByRecursion P (one_if b x)
all_one P x true fine = (fine refl, tt)
all_one P x false fine = tt

-- ---- stacks that are ready

abbrev TopFound : List Stack → Stack → Type 0
TopFound ss s = is_body (first_frame s.frames) ≡ true → is_picked (picked_in (frames_of s.tid ss)) ≡ true

found_behind : (z : Stack) (ss : List Stack) → frames_of z.tid ss ≡ [] → (s : Stack) → TopFound ss s → TopFound (z ∷ ss) s
unfolding frames_of
found_behind z ss apart s found is = by_name (bytes_eq s.tid z.tid) refl (found is)
  where
    by_name : (b : Bool) → bytes_eq s.tid z.tid ≡ b → is_picked (picked_in (frames_of s.tid ss)) ≡ true → is_picked (picked_in (if b then z.frames else frames_of s.tid ss)) ≡ true
    by_name true same top =
        let none : frames_of s.tid ss ≡ [] = ap (λ t. frames_of t ss) ((bytes_eq-Decides s.tid z.tid).0 same) ∙ apart in
        absurd (true≢false (sym top ∙ ap (λ fs. is_picked (picked_in fs)) none))
    by_name false same top = top

found_first : (z : Stack) (ss : List Stack) → TopFound (z ∷ ss) z
unfolding frames_of
found_first z ss is = ap (λ b. is_picked (picked_in (if b then z.frames else frames_of z.tid ss))) ((bytes_eq-Decides z.tid z.tid).1 refl) ∙ picked_one z.frames is

all_found : (ss : List Stack) → AreApart ss → AllByRecursion (TopFound ss) ss
unfolding AreApart
all_found [] apart = tt
all_found (z ∷ ss) apart = (found_first z ss, all_some (TopFound ss) (TopFound (z ∷ ss)) (found_behind z ss apart.0) ss (all_found ss apart.1))

-- ---- deeds of one end

-- a deed can be done: it has what it does, and its entry can be made
abbrev pub DeedCan : (g : Setting) (cut_at : ℕ) (one other : End) → List Run → Deed → Type 0
DeedCan g cut_at one other rs d = (x : Done) × (done g cut_at one.now other.now rs d ≡ Some x) × CanEnter g one other x.entry

module _ (g : Setting) (es : List Entry) (one other : End) (cut_at : ℕ) (some : 1 ≤ cut_at) (leads : Leads g es one.now) (apart : AreApart one.now.side.stacks) (part : stands one.now.side ≡ true → ends_part one.now.side.incoming.held ≡ false) where
  entry_can : (rs : List Run) (d : Deed) (e : Entry) → done g cut_at one.now other.now rs d ≡ with_entry rs e → may_come other.now one.now e ≡ true → may g one.now.side e ≡ true → DeedCan g cut_at one other rs d
  entry_can rs d e is comes can = (record { entry = Some e; runs = rs }, is, acts_can g one other e comes can)

  -- a statement of a thread, or the limit
  comes_or : (tid : List ℕ) (b : Bool) → may_come other.now one.now (if b then full else applied tid) ≡ true
  comes_or tid true = nothing_comes one other
  comes_or tid false = nothing_comes one other

  applies_can : (rs : List Run) (tid : List ℕ) → is_picked (picked_in (frames_of tid one.now.side.stacks)) ≡ true → DeedCan g cut_at one other rs (applies tid)
  unfolding done
  applies_can rs tid top =
      let b = has_entries one.now.side in
      entry_can rs (applies tid) (or_full one.now.side (applied tid)) refl (comes_or tid b) (may_or g one.now.side tid (up_by g es one.now tid leads top (stands one.now.side) refl) top b refl)

  all_apply : (rs : List Run) → AllByRecursion (DeedCan g cut_at one other rs) (applying one.now.side)
  all_apply rs =
      all_mapped (λ (x : Stack). applies x.tid) (DeedCan g cut_at one other rs) (ready one.now.side.stacks)
      (all_filtered (λ (s : Stack). is_body (first_frame s.frames)) (λ (s : Stack). DeedCan g cut_at one other rs (applies s.tid)) one.now.side.stacks
      (all_some (TopFound one.now.side.stacks) (λ (s : Stack). is_body (first_frame s.frames) ≡ true → DeedCan g cut_at one other rs (applies s.tid)) (λ s found is. applies_can rs s.tid (found is)) one.now.side.stacks
      (all_found one.now.side.stacks apart)))

  -- steps of roots
  step_one : (whole : List Run) (place : ℕ) (r : Run) (m : Moved) → root_moves g one.now.side r ≡ m → MovedCanEnter g one other m → slice_get whole place ≡ Some r
      → AllByRecursion (DeedCan g cut_at one other whole) (one_if (does_move m) (steps place))
  unfolding done
  step_one whole place r waiting is can found = tt
  step_one whole place r finished is can found = tt
  step_one whole place r (run.moved next e) is can found =
      ((record { entry = e; runs = slice_set whole place next }, ap (steps_at g one.now.side place whole) found ∙ ap (step_done place whole) is, can), tt)

  shift : (place n : ℕ) → place + suc n ≡ suc place + n
  shift place n = omega arith

  none_more : (place : ℕ) → place + 0 ≡ place
  none_more place = omega arith

  all_step : (whole : List Run) (place : ℕ) (rs : List Run) → ((n : ℕ) (r : Run) → slice_get rs n ≡ Some r → slice_get whole (place + n) ≡ Some r) → AllByRecursion (RunCanMove g one other) rs
      → AllByRecursion (DeedCan g cut_at one other whole) (stepping g one.now.side place rs)
  unfolding stepping
  all_step whole place [] found all = tt
  all_step whole place (r ∷ rs) found all =
      all_joined (DeedCan g cut_at one other whole) (one_if (does_move (root_moves g one.now.side r)) (steps place)) (stepping g one.now.side (suc place) rs)
      (step_one whole place r (root_moves g one.now.side r) refl all.0 (subst (λ k. slice_get whole k ≡ Some r) (none_more place) (found 0 r refl)))
      (all_step whole (suc place) rs (λ n z is. subst (λ k. slice_get whole k ≡ Some z) (shift place n) (found (suc n) z is)) all.1)

  -- an object that goes
  all_reap : (rs : List Run) (o : Option ℕ) → may_reap g one.now.side ≡ o → AllByRecursion (DeedCan g cut_at one other rs) (reaping o)
  unfolding done may
  all_reap rs None is = tt
  all_reap rs (Some n) is = (entry_can rs (reaps n) (reaped n) refl (nothing_comes one other) (by_lowest n (lowest g one.now.side.tables) is), tt)

  -- bytes that go out
  next_is : (n : ℕ) (b : Bool) → is_no_memory one.now.side.cause ≡ b → b ≡ false → drained_next g n one.now.side ≡ take n (waiting_bytes g one.now.side)
  unfolding drained_next
  next_is n true is more = absurd (true≢false more)
  next_is n false is more = rw (is) refl

  next_taken : (n : ℕ) → are_next g (take n (waiting_bytes g one.now.side)) one.now.side ≡ true
  unfolding are_next
  next_taken n = (bytes_eq-Decides (take n (waiting_bytes g one.now.side)) (take (length (take n (waiting_bytes g one.now.side))) (waiting_bytes g one.now.side))).1 (sym (take_again n (waiting_bytes g one.now.side)))

  may_drain : (n : ℕ) → 1 ≤ n → is_no_memory one.now.side.cause ≡ false → is_some_piece (waiting_bytes g one.now.side) ≡ true → may g one.now.side (drained (take n (waiting_bytes g one.now.side))) ≡ true
  unfolding may
  may_drain n least memory waits = rw (some_taken n (waiting_bytes g one.now.side) least waits, memory, next_taken n) refl

  drains_can : (rs : List Run) → bytes_wait g one.now.side ≡ true → DeedCan g cut_at one other rs drains
  unfolding done
  drains_can rs waits =
      let parts = and_parts (not (is_no_memory one.now.side.cause)) (is_some_piece (waiting_bytes g one.now.side)) waits in
      let memory = not-true (is_no_memory one.now.side.cause) parts.0 in
      entry_can rs drains (drained (drained_next g most_drained one.now.side)) refl (nothing_comes one other)
      (subst (λ bs. may g one.now.side (drained bs) ≡ true) (sym (next_is most_drained (is_no_memory one.now.side.cause) refl memory)) (may_drain most_drained (omega arith) memory parts.1))

  -- bytes that come in
  either_limit : (a p f : Bool) → (a || (p && f)) ≡ true → (a || f) ≡ true
  either_limit true p f is = refl
  either_limit false true f is = is
  either_limit false false f is = absurd (false≢true is)

  room_by : (a p f : Bool) → p ≡ true → nat_lt (fed_count one.now.side.incoming) most_fed ≡ f → (a || (p && not f)) ≡ false → (a ≡ false) × (fed_count one.now.side.incoming < most_fed)
  room_by true p f some_piece less is = absurd (true≢false is)
  room_by false true false some_piece less is = absurd (true≢false is)
  room_by false true true some_piece less is = (refl, grind (arith, nat_tests))
  room_by false false f some_piece less is = absurd (false≢true some_piece)

  may_full : (piece : List ℕ) → stands one.now.side ≡ true → feed_is_full one.now.side piece ≡ true → may g one.now.side full ≡ true
  unfolding may
  may_full piece up is = rw (up) (either_limit (has_entries one.now.side) (is_some_piece piece) (has_fed one.now.side) is)

  carries_by : (rs : List Run) (piece : List ℕ) → piece ≡ take cut_at (pipe other.now one.now) → is_some_piece piece ≡ true → stands one.now.side ≡ true → (b : Bool) → feed_is_full one.now.side piece ≡ b
      → CanEnter g one other (Some (if b then full else fed (next_cut one.now.side piece)))
  carries_by rs piece front is up true limit = acts_can g one other full (nothing_comes one other) (may_full piece up limit)
  carries_by rs piece front is up false limit =
      let i = one.now.side.incoming in
      let room = room_by (has_entries one.now.side) (is_some_piece piece) (nat_lt (fed_count i) most_fed) is refl limit in
      let within = take (most_fed - fed_count i) piece in
      let long = length-take (most_fed - fed_count i) piece in
      let less : fed_count i + length within ≤ most_fed = omega (arith, room.1, long) in
      let left : 1 ≤ most_fed - fed_count i = omega (arith, room.1) in
      let piece_fed = next_cut one.now.side piece in
      let of_piece = front_of piece_fed within piece (most_fed - fed_count i) (cut_front i.held within) refl in
      let of_pipe = front_of piece_fed piece (pipe other.now one.now) cut_at of_piece front in
      acts_can g one other (fed piece_fed) ((bytes_eq-Decides piece_fed (take (length piece_fed) (pipe other.now one.now))).1 of_pipe)
      (may_cut g one.now.side within up room.0 (some_taken (most_fed - fed_count i) piece left is) less (part up))

  some_first : (n : ℕ) (xs : List ℕ) → 1 ≤ n → is_some_piece xs ≡ true → is_some_piece (take n xs) ≡ true
  some_first n xs least is = same_some (take n xs) (some_taken n xs least is)

  carries_can : (rs : List Run) → may_carry other.now one.now ≡ true → DeedCan g cut_at one other rs carries
  unfolding done
  carries_can rs can =
      let parts = and_parts (is_some_piece (pipe other.now one.now)) (stands one.now.side) can in
      let piece = take cut_at (pipe other.now one.now) in
      (record { entry = Some (carried one.now.side piece); runs = rs }, refl, carries_by rs piece refl (some_first cut_at (pipe other.now one.now) some parts.0) parts.1 (feed_is_full one.now.side piece) refl)

  -- the end of the input
  last_of : (a b c d : Bool) → (a && (b && (c && d))) ≡ true → d ≡ true
  last_of true true true d is = is
  last_of true true false d is = absurd (false≢true is)
  last_of true false c d is = absurd (false≢true is)
  last_of false b c d is = absurd (false≢true is)

  closes_can : (h : Setting) (rs : List Run) → may_close h other.now one.now ≡ true → DeedCan g cut_at one other rs closes
  unfolding done may
  closes_can h rs can =
      entry_can rs closes ended refl (nothing_comes one other)
      (last_of (not (stands other.now.side)) (not (bytes_wait h other.now.side)) (not (is_some_piece (pipe other.now one.now))) (stands one.now.side) can)

  same_place : (rs : List Run) (n : ℕ) (r : Run) → slice_get rs n ≡ Some r → slice_get rs (0 + n) ≡ Some r
  same_place rs n r is = let same : n ≡ 0 + n = omega arith in subst (λ k. slice_get rs k ≡ Some r) same is

  pub deeds_can : (h : Setting) (rs : List Run) → AllByRecursion (RunCanMove g one other) rs → AllByRecursion (DeedCan g cut_at one other rs) (deeds g h one.now other.now rs)
  unfolding deeds
  deeds_can h rs all =
      let P = DeedCan g cut_at one other rs in
      let s = one.now.side in
      let closing = one_if (may_close h other.now one.now) closes in
      let carrying = one_if (may_carry other.now one.now) carries in
      let draining = one_if (bytes_wait g s) drains in
      let goes = reaping (may_reap g s) in
      let stepped = stepping g s 0 rs in
      all_joined P (applying s) (stepped ++ (goes ++ (draining ++ (carrying ++ closing)))) (all_apply rs)
      (all_joined P stepped (goes ++ (draining ++ (carrying ++ closing))) (all_step rs 0 rs (same_place rs) all)
      (all_joined P goes (draining ++ (carrying ++ closing)) (all_reap rs (may_reap g s) refl)
      (all_joined P draining (carrying ++ closing) (all_one P drains (bytes_wait g s) (drains_can rs))
      (all_joined P carrying closing (all_one P carries (may_carry other.now one.now) (carries_can rs)) (all_one P closes (may_close h other.now one.now) (closes_can h rs))))))
