-- The entries of the order of `answer` that are no root's may stand: statements, objects that go, bytes out and in, and the limits.
use Rattle.std.proofs.Common.{◌≡◌, refl, sym, ap, subst, ◌∙◌, ℕ, zero, suc, ◌+◌, ◌-◌, ◌<◌, ◌≤◌, Bool, true, false, not, ◌&&◌, ◌||◌, nat_lt, List, [], ◌∷◌, ◌++◌, length, take, Option, None, Some, codes, arith, if◌then◌else◌}
use Rattle.std.specs.List.{list_all}
use Rattle.std.specs.Option.{option_map}
use Rattle.std.specs.Str.{bytes_eq}
use Rattle.std.proofs.lemmas.Bool.{false≢true, true≢false, eq-eqb}
use Rattle.std.proofs.lemmas.Bool.Decides.{nat_tests}
use Rattle.std.proofs.lemmas.List.{append_assoc, append-nil, length-take}
use Rattle.std.proofs.lemmas.Slice.Eq.{bytes_eq-Decides}
use Rattle.table_model.specs.Pair.{pair}
use Rattle.plan_model.specs.Frames.{Frame, base, body, outgoing, Stack, frames_of, first_frame, is_body, ready, nth_tid}
use Rattle.bridge_model.specs.Answers.{cut, next_cut, within_limit, ready_at, may_reap, drained_next}
use Rattle.bridge_model.specs.Entries.{Entry, fed, ended, applied, reaped, drained, full}
use Rattle.bridge_model.specs.Feeding.{ends_part}
use Rattle.bridge_model.specs.Going.{waiting_bytes, are_next}
use Rattle.bridge_model.specs.Histories.{Told, Leads}
use Rattle.bridge_model.specs.Objects.{lowest}
use Rattle.bridge_model.specs.Orders.{or_full}
use Rattle.bridge_model.specs.Settings.{Setting, is_own, is_told}
use Rattle.bridge_model.specs.Sides.{Object, Side, stands}
use Rattle.bridge_model.specs.Steps.{most_fed, fed_count, has_entries, has_fed, but_last, is_some_bytes, picked_in, picked, is_picked, is_numbered, is_no_memory, may}
use Rattle.bridge_laws.specs.Living.{plan_constants, entry_refs}
use Rattle.bridge_laws.proofs.PaidLaws.{AllPaid, opening_paid, opening_in_order, paid_kept, each_told}
use Rattle.bridge_laws.proofs.RootedLaws.{along_replay_where}
use Rattle.bridge_laws.proofs.StepLaws.{quiet_along}
use Rattle.bridge_laws.proofs.TellingLaws.{all_allowed}
use Rattle.bridge_laws.specs.Grounded.{AreApart}

-- ---- no thread has two stacks

foreign_by : (tag : List ℕ) → bytes_eq (take (length (tag ++ codes ";")) []) (tag ++ codes ";") ≡ false
foreign_by [] = refl
foreign_by (c ∷ cs) = refl

-- the empty identity is none of this end
foreign_none : (g : Setting) → is_own g [] ≡ false
unfolding is_own
foreign_none g = foreign_by g.tag

apart_by : (g : Setting) (es : List Entry) (x : Told) → plan_constants g.plan ≡ [] → Leads g es x → (b : Bool) → stands x.side ≡ b → AreApart x.side.stacks
unfolding AreApart
apart_by g es x closed leads true up =
    let told = each_told g es (all_allowed g es x leads).told in
    let all =
    along_replay_where g (λ e. list_all (is_told g) (entry_refs e) ≡ true) (AllPaid g (pair [] []) (foreign_none g) closed)
    (λ up. (opening_paid g (pair [] []) (foreign_none g) closed, opening_in_order g (pair [] []) (foreign_none g) closed)) (paid_kept g (pair [] []) (foreign_none g) closed) es told x leads up in
    all.1.apart
apart_by g es x closed leads false up = subst AreApart (sym (quiet_along g es x leads up)) tt

pub all_apart : (g : Setting) (es : List Entry) (x : Told) → plan_constants g.plan ≡ [] → Leads g es x → AreApart x.side.stacks
all_apart g es x closed leads = apart_by g es x closed leads (stands x.side) refl

-- ---- statements

pub picked_one : (fs : List Frame) → is_body (first_frame fs) ≡ true → is_picked (picked_in fs) ≡ true
picked_one [] is = absurd (false≢true is)
picked_one (base n ∷ fs) is = absurd (false≢true is)
picked_one (body b ∷ fs) is = refl
picked_one (outgoing o ∷ fs) is = absurd (false≢true is)

-- the first stack whose top is a method is that of its thread
abbrev pub FirstPicked : List ℕ → List Stack → Type 0
FirstPicked tid ss = nth_tid (ready ss) 0 ≡ Some tid → is_picked (picked_in (frames_of tid ss)) ≡ true

same_name : (a b : List ℕ) → ◌≡◌ {A = Option (List ℕ)} (Some a) (Some b) → a ≡ b
same_name a b is = cc

found_behind : (tid : List ℕ) (z : Stack) (ss : List Stack) → frames_of z.tid ss ≡ [] → (b : Bool) → bytes_eq tid z.tid ≡ b → is_picked (picked_in (frames_of tid ss)) ≡ true
    → is_picked (picked_in (if b then z.frames else frames_of tid ss)) ≡ true
found_behind tid z ss apart true same top =
    let none : frames_of tid ss ≡ [] = ap (λ t. frames_of t ss) ((bytes_eq-Decides tid z.tid).0 same) ∙ apart in
    absurd (true≢false (sym top ∙ ap (λ fs. is_picked (picked_in fs)) none))
found_behind tid z ss apart false same top = top

found_by : (tid : List ℕ) (z : Stack) (ss : List Stack) → frames_of z.tid ss ≡ [] → FirstPicked tid ss → (b : Bool) → is_body (first_frame z.frames) ≡ b
    → nth_tid (if b then z ∷ ready ss else ready ss) 0 ≡ Some tid → is_picked (picked_in (frames_of tid (z ∷ ss))) ≡ true
unfolding frames_of
found_by tid z ss apart more true top is =
    let same : z.tid ≡ tid = same_name z.tid tid is in
    let here : bytes_eq tid z.tid ≡ true = (bytes_eq-Decides tid z.tid).1 (sym same) in
    ap (λ b. is_picked (picked_in (if b then z.frames else frames_of tid ss))) here ∙ picked_one z.frames top
found_by tid z ss apart more false top is = found_behind tid z ss apart (bytes_eq tid z.tid) refl (more is)

pub first_picked : (tid : List ℕ) (ss : List Stack) → AreApart ss → FirstPicked tid ss
unfolding AreApart
first_picked tid [] apart is = absurd (cc)
first_picked tid (z ∷ ss) apart is = found_by tid z ss apart.0 (first_picked tid ss apart.1) (is_body (first_frame z.frames)) refl is

pub up_by : (g : Setting) (es : List Entry) (x : Told) (tid : List ℕ) → Leads g es x → is_picked (picked_in (frames_of tid x.side.stacks)) ≡ true → (b : Bool) → stands x.side ≡ b → stands x.side ≡ true
unfolding frames_of
up_by g es x tid leads top true is = is
up_by g es x tid leads top false is = absurd (true≢false (sym top ∙ ap (λ ss. is_picked (picked_in (frames_of tid ss))) (quiet_along g es x leads is)))

pub may_or : (g : Setting) (s : Side) (tid : List ℕ) → stands s ≡ true → is_picked (picked_in (frames_of tid s.stacks)) ≡ true → (b : Bool) → has_entries s ≡ b
    → may g s (if b then full else applied tid) ≡ true
unfolding may picked
may_or g s tid up top true is = rw (up, is) refl
may_or g s tid up top false is = rw (is, top) refl

pub applied_may : (g : Setting) (es : List Entry) (x : Told) (tid : List ℕ) → plan_constants g.plan ≡ [] → Leads g es x → ready_at x.side 0 ≡ Some tid
    → may g x.side (or_full x.side (applied tid)) ≡ true
applied_may g es x tid closed leads is =
    let top = first_picked tid x.side.stacks (all_apart g es x closed leads) is in
    may_or g x.side tid (up_by g es x tid leads top (stands x.side) refl) top (has_entries x.side) refl

-- ---- objects that go

pub by_lowest : (n : ℕ) (o : Option Object) → option_map (λ (z : Object). z.number) o ≡ Some n → is_numbered n o ≡ true
by_lowest n None is = absurd (cc)
by_lowest n (Some z) is = let same : n ≡ z.number = cc in eq-eqb n z.number same

pub reaped_may : (g : Setting) (s : Side) (n : ℕ) → may_reap g s ≡ Some n → may g s (reaped n) ≡ true
unfolding may
reaped_may g s n is = by_lowest n (lowest g s.tables) is

-- ---- bytes that go out

pub take_again : (n : ℕ) (xs : List ℕ) → take (length (take n xs)) xs ≡ take n xs
take_again zero xs = refl
take_again (suc n) [] = refl
take_again (suc n) (x ∷ xs) = ap (λ ys. x ∷ ys) (take_again n xs)

drained_by : (g : Setting) (n : ℕ) (s : Side) (b : ℕ) (bytes : List ℕ) (c : Bool) → is_no_memory s.cause ≡ c → (if c then [] else take n (waiting_bytes g s)) ≡ b ∷ bytes
    → may g s (drained (b ∷ bytes)) ≡ true
unfolding may are_next
drained_by g n s b bytes true memory is = absurd (cc)
drained_by g n s b bytes false memory is =
    let again : take (length (b ∷ bytes)) (waiting_bytes g s) ≡ b ∷ bytes =
    ap (λ ys. take (length ys) (waiting_bytes g s)) (sym is) ∙ (take_again n (waiting_bytes g s) ∙ is) in
    let next : bytes_eq (b ∷ bytes) (take (length (b ∷ bytes)) (waiting_bytes g s)) ≡ true =
    (bytes_eq-Decides (b ∷ bytes) (take (length (b ∷ bytes)) (waiting_bytes g s))).1 (sym again) in
    rw (memory, next) refl

pub drained_may : (g : Setting) (n : ℕ) (s : Side) (b : ℕ) (bytes : List ℕ) → drained_next g n s ≡ b ∷ bytes → may g s (drained (b ∷ bytes)) ≡ true
unfolding drained_next
drained_may g n s b bytes is = drained_by g n s b bytes (is_no_memory s.cause) refl is

-- ---- bytes that come in

cut_first : (held : List ℕ) (b : ℕ) (bytes : List ℕ) (e : Bool) → is_some_bytes (if e then b ∷ [] else b ∷ cut (held ++ b ∷ []) bytes) ≡ true
cut_first held b bytes true = refl
cut_first held b bytes false = refl

pub cut_some : (held piece : List ℕ) → is_some_bytes piece ≡ true → is_some_bytes (cut held piece) ≡ true
unfolding cut
cut_some held [] some = absurd (false≢true some)
cut_some held (b ∷ bytes) some = cut_first held b bytes (ends_part (held ++ b ∷ []))

short_one : (held : List ℕ) (b : ℕ) (bytes : List ℕ) (e : Bool) → length (cut (held ++ b ∷ []) bytes) ≤ length bytes
    → length (if e then b ∷ [] else b ∷ cut (held ++ b ∷ []) bytes) ≤ suc (length bytes)
short_one held b bytes true less = omega arith
short_one held b bytes false less = omega (arith, less)

cut_short : (held piece : List ℕ) → length (cut held piece) ≤ length piece
unfolding cut
cut_short held [] = omega arith
cut_short held (b ∷ bytes) = short_one held b bytes (ends_part (held ++ b ∷ [])) (cut_short (held ++ b ∷ []) bytes)

last_of_more : (b : ℕ) (held xs : List ℕ) → is_some_bytes xs ≡ true → ends_part ((held ++ b ∷ []) ++ but_last xs) ≡ false → ends_part (held ++ but_last (b ∷ xs)) ≡ false
last_of_more b held [] some still = absurd (false≢true some)
last_of_more b held (x ∷ xs) some still = ap ends_part (sym (append_assoc held (b ∷ []) (but_last (x ∷ xs)))) ∙ still

last_one : (held : List ℕ) (b : ℕ) (bytes : List ℕ) (e : Bool) → ends_part (held ++ b ∷ []) ≡ e → ends_part held ≡ false
    → (ends_part (held ++ b ∷ []) ≡ false → ends_part ((held ++ b ∷ []) ++ but_last (cut (held ++ b ∷ []) bytes)) ≡ false)
    → ends_part (held ++ but_last (if e then b ∷ [] else b ∷ cut (held ++ b ∷ []) bytes)) ≡ false
unfolding cut
last_one held b bytes true is unended more = ap ends_part (append-nil held) ∙ unended
last_one held b [] false is unended more = ap ends_part (append-nil held) ∙ unended
last_one held b (c ∷ cs) false is unended more = last_of_more b held (cut (held ++ b ∷ []) (c ∷ cs)) (cut_some (held ++ b ∷ []) (c ∷ cs) refl) (more is)

-- no byte of what is cut off but its last ends anything
cut_unended : (held piece : List ℕ) → ends_part held ≡ false → ends_part (held ++ but_last (cut held piece)) ≡ false
unfolding cut
cut_unended held [] unended = ap ends_part (append-nil held) ∙ unended
cut_unended held (b ∷ bytes) unended = last_one held b bytes (ends_part (held ++ b ∷ [])) refl unended (λ more. cut_unended (held ++ b ∷ []) bytes more)

not_over : (most n : ℕ) → n ≤ most → nat_lt most n ≡ false
not_over most n less = grind (arith, nat_tests)

three_hold : (a b c : Bool) → a ≡ true → b ≡ false → c ≡ false → (a && (not b && not c)) ≡ true
three_hold a b c some under unended = rw (some, under, unended) refl

pub may_cut : (g : Setting) (s : Side) (piece : List ℕ) → stands s ≡ true → has_entries s ≡ false → is_some_bytes piece ≡ true → fed_count s.incoming + length piece ≤ most_fed → ends_part s.incoming.held ≡ false
    → may g s (fed (cut s.incoming.held piece)) ≡ true
unfolding may
may_cut g s piece up few some within unended =
    let held = s.incoming.held in
    let short = cut_short held piece in
    let under = not_over most_fed (fed_count s.incoming + length (cut held piece)) (omega (arith, within, short)) in
    rw (up, few) (three_hold (is_some_bytes (cut held piece)) (nat_lt most_fed (fed_count s.incoming + length (cut held piece))) (ends_part (held ++ but_last (cut held piece))) (cut_some held piece some) under (cut_unended held piece unended))

some_taken : (n b : ℕ) (bytes : List ℕ) → 1 ≤ n → is_some_bytes (take n (b ∷ bytes)) ≡ true
some_taken zero b bytes some = absurd (omega arith)
some_taken (suc n) b bytes some = refl

under_most : (s : Side) → has_fed s ≡ false → fed_count s.incoming < most_fed
under_most s left = grind (arith, nat_tests)

pub fed_may : (g : Setting) (s : Side) (b : ℕ) (bytes : List ℕ) → stands s ≡ true → has_entries s ≡ false → has_fed s ≡ false → ends_part s.incoming.held ≡ false
    → may g s (fed (next_cut s (b ∷ bytes))) ≡ true
fed_may g s b bytes up few left unended =
    let under = under_most s left in
    let long = length-take (most_fed - fed_count s.incoming) (b ∷ bytes) in
    may_cut g s (within_limit s.incoming (b ∷ bytes)) up few (some_taken (most_fed - fed_count s.incoming) b bytes (omega (arith, under))) (omega (arith, under, long)) unended

-- ---- limits and the end of the input

pub full_may : (g : Setting) (s : Side) → stands s ≡ true → (has_entries s || has_fed s) ≡ true → may g s full ≡ true
unfolding may
full_may g s up limit = rw up limit

pub ended_may : (g : Setting) (s : Side) → stands s ≡ true → may g s ended ≡ true
unfolding may
ended_may g s up = up
