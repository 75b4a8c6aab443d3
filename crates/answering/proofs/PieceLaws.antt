-- Pieces that are answered, and the input from its beginning to its end.
use Rattle.std.proofs.Common.{◌≡◌, refl, sym, ap, subst, ◌∙◌, ℕ, Bool, true, false, List, [], take, Option, None, Some, Result, Ok, Err}
use Rattle.std.proofs.lemmas.Bool.{false≢true}
use Rattle.std.specs.Io.KnownBytes.{Consumes, Keeps}
use Rattle.std.specs.Option.{unwrap_or}
use Rattle.plan_model.specs.Roots.{Run}
use Rattle.bridge_endpoint.specs.Journals.{Endpoint, setting_at, side_at, told_at, with_entry}
use Rattle.bridge_model.specs.Answers.{awaits_input}
use Rattle.bridge_model.specs.Entries.{ended}
use Rattle.bridge_model.specs.Histories.{Told, nothing_told, tells_all, replay}
use Rattle.bridge_model.specs.Orders.{first_runs}
use Rattle.bridge_model.specs.Settings.{Setting}
use Rattle.bridge_model.specs.Sides.{stands, stands_by}
use Rattle.bridge_model.specs.declared.cause.Cause.{Cause}
use Rattle.bridge_model.specs.declared.cause.Cause.TheVariants as reason
use Rattle.bridge_laws.specs.Working.{AllIsDone}
use Rattle.answering.specs.Doing.{Feeds, Closes}
use Rattle.answering.specs.Ends.{GoesOn, HaltsAt, IsSettled, IsFed, IsAnswered, IsClosing, SettlesSo, ClosesSo}
use Rattle.answering.specs.Serving.{Holds, HoldsFront, IsOver, IsAllIn, IsCutOrNot}
use Rattle.answering.specs.Turning.{Answers, HaltsIn, Halts, Turns}
use Rattle.answering.specs.declared.stopped.Halted.{Halted}
use Rattle.answering.proofs.EndLaws.{IsLed, told_side, is_told}
use Rattle.answering.proofs.ServingLaws.{holds_first, holds_piece, holds_on, holds_none, piece_on, halted, halted_in, all_in}
use Rattle.answering.proofs.TurnLaws.{HasClosed, has_closed, closes, closing_takes, closing_halts, fed_on, fed_halts}

-- ---- a front that is fed, and what is done then

-- where the bridge stands, so it did before
stood_before : (a b : Bool) → (a ≡ false → b ≡ false) → b ≡ true → a ≡ true
stood_before true b stays up = refl
stood_before false b stays up = absurd (false≢true (sym (stays refl) ∙ up))

-- the answers are those of the setting at entry; with what is left, whether the bridge stands or not
pub answered_further : (g : Setting) (t : Told) (first : List Run) (piece : List ℕ) (e f h : Endpoint) (runs next : List Run) (rest left : List ℕ) (old mid new : Option (List ℕ))
    → setting_at e ≡ g → Answers g t (told_at e) first runs piece rest old mid → IsSettled e runs → (fed : IsFed e f rest left) → GoesOn f h runs next mid new
    → Answers g t (told_at h) first next piece fed.left old new
answered_further g t first piece e f h runs next rest left old mid new setting so settled fed goes =
    fed_on so (subst (λ z. AllIsDone z (told_at e).side runs) setting settled) (subst (λ z. Feeds z (told_at e) (told_at f) rest fed.left) setting fed.feeds)
    (subst (λ z. Turns z (told_at f) (told_at h) runs next mid new) (fed.setting ∙ setting) goes.turns)

pub answered_on : (g : Setting) (t : Told) (first : List Run) (piece : List ℕ) (e f h : Endpoint) (runs next : List Run) (rest left : List ℕ) (old mid new : Option (List ℕ))
    → setting_at e ≡ g → Answers g t (told_at e) first runs piece rest old mid → IsSettled e runs → IsFed e f rest left → GoesOn f h runs next mid new
    → stands (told_at h).side ≡ true → Answers g t (told_at h) first next piece left old new
answered_on g t first piece e f h runs next rest left old mid new setting so settled fed goes up =
    subst
    (λ z. Answers g t (told_at h) first next piece z old new)
    (fed.same (stood_before (stands (told_at f).side) (stands (told_at h).side) goes.turns.ended up))
    (answered_further g t first piece e f h runs next rest left old mid new setting so settled fed goes)

pub answering_halts : (g : Setting) (t : Told) (first : List Run) (piece : List ℕ) (e f : Endpoint) (runs : List Run) (rest left : List ℕ) (old mid new : Option (List ℕ))
    → setting_at e ≡ g → Answers g t (told_at e) first runs piece rest old mid → IsSettled e runs → IsFed e f rest left → HaltsAt f runs mid new → HaltsIn g t first piece old new
answering_halts g t first piece e f runs rest left old mid new setting so settled fed halts =
    fed_halts so (subst (λ z. AllIsDone z (told_at e).side runs) setting settled) (subst (λ z. Feeds z (told_at e) (told_at f) rest fed.left) setting fed.feeds)
    (subst (λ z. Halts z (told_at f) runs mid new) (fed.setting ∙ setting) halts)

-- a bridge without a cause stands
pub up_by : (c o : Option Cause) → c ≡ o → o ≡ None → stands_by c ≡ true
up_by c o is none = ap stands_by (is ∙ none)

-- a cause is a cause
pub no_cause : {X : Type 0} (why : Cause) → Some why ≡ None → X
no_cause why none = absurd (cc)

-- ---- the beginning

begins_told : (e : Endpoint) → e.entries ≡ [] → told_at e ≡ nothing_told (setting_at e)
unfolding told_at replay tells_all
begins_told e none = ap (λ es. unwrap_or (replay (setting_at e) es) (nothing_told (setting_at e))) none

pub holds_begin : (e : Endpoint) (runs : List Run) (input out : Option (List ℕ)) → e.entries ≡ [] → runs ≡ first_runs 1 (setting_at e).plan.threads
    → Holds (setting_at e) input input out out (told_at e) runs []
holds_begin e runs input out none is =
    subst
    (λ t. Holds (setting_at e) input input out out t runs [])
    (sym (begins_told e none))
    (subst (λ rs. Holds (setting_at e) input input out out (nothing_told (setting_at e)) rs []) (sym is) (holds_first (setting_at e) input out))

-- ---- on the way

pub holds_further : (g : Setting) (i j o p q : Option (List ℕ)) (e f : Endpoint) (runs next : List Run) (left : List ℕ) → setting_at e ≡ g → Holds g i j o p (told_at e) runs left
    → GoesOn e f runs next p q → Holds g i j o q (told_at f) next left
holds_further g i j o p q e f runs next left setting is goes = holds_on is (subst (λ z. Turns z (told_at e) (told_at f) runs next p q) setting goes.turns)

pub holds_halted : (g : Setting) (i j o p q : Option (List ℕ)) (e : Endpoint) (runs : List Run) (left : List ℕ) → setting_at e ≡ g → Holds g i j o p (told_at e) runs left
    → HaltsAt e runs p q → HoldsFront g i j o q
holds_halted g i j o p q e runs left setting is halts = halted is (subst (λ z. Halts z (told_at e) runs p q) setting halts)

pub piece_further : (g : Setting) (i j o p q : Option (List ℕ)) (e f : Endpoint) (runs next : List Run) (piece : List ℕ) (why : Option Cause) → setting_at e ≡ g
    → Holds g i j o p (told_at e) runs piece → (answered : IsAnswered e f runs next piece p q why) → Holds g i j o q (told_at f) next answered.left
piece_further g i j o p q e f runs next piece why setting is answered =
    piece_on is (subst (λ z. Answers z (told_at e) (told_at f) runs next piece answered.left p q) setting answered.answers)

pub piece_halted : (g : Setting) (i j o p q : Option (List ℕ)) (e : Endpoint) (runs : List Run) (piece : List ℕ) → setting_at e ≡ g → Holds g i j o p (told_at e) runs piece
    → HaltsIn (setting_at e) (told_at e) runs piece p q → HoldsFront g i j o q
piece_halted g i j o p q e runs piece setting is halts = halted_in is (subst (λ z. HaltsIn z (told_at e) runs piece p q) setting halts)

pub is_over : (g : Setting) (i j o p : Option (List ℕ)) (e : Endpoint) (runs : List Run) (left : List ℕ) (why : Cause) → setting_at e ≡ g → Holds g i j o p (told_at e) runs left
    → IsSettled e runs → (told_at e).side.cause ≡ Some why → IsOver g i j o p why
is_over g i j o p e runs left why setting is settled because =
    record { told = told_at e; runs = runs; left = left; holds = is; done = subst (λ z. AllIsDone z (told_at e).side runs) setting settled; ended = because }

-- the same where the piece is answered whole, since the bridge stands
pub piece_done : (g : Setting) (i j o p q : Option (List ℕ)) (e f : Endpoint) (runs next : List Run) (piece : List ℕ) (why : Option Cause) → setting_at e ≡ g
    → Holds g i j o p (told_at e) runs piece → IsAnswered e f runs next piece p q why → why ≡ None → Holds g i j o q (told_at f) next []
piece_done g i j o p q e f runs next piece why setting is answered none =
    subst (Holds g i j o q (told_at f) next) (answered.all none) (piece_further g i j o p q e f runs next piece why setting is answered)

-- the bridge has ended with it
pub piece_over : (g : Setting) (i j o p q : Option (List ℕ)) (e f : Endpoint) (runs next : List Run) (piece : List ℕ) (why : Option Cause) (cause : Cause)
    → setting_at e ≡ g → Holds g i j o p (told_at e) runs piece → IsAnswered e f runs next piece p q why → why ≡ Some cause → IsOver g i j o q cause
piece_over g i j o p q e f runs next piece why cause setting is answered because =
    is_over g i j o q f next answered.left cause (answered.setting ∙ setting)
    (piece_further g i j o p q e f runs next piece why setting is answered) answered.settled (answered.ended ∙ because)

-- ---- what is read

-- a piece came
pub piece_came : (g : Setting) (i j k o p : Option (List ℕ)) (t : Told) (runs : List Run) (piece : List ℕ) → Holds g i j o p t runs [] → Consumes j k piece
    → Holds g i k o p t runs piece
piece_came g i j k o p t runs piece is comes = holds_piece piece is comes

-- no byte came
pub none_came : (g : Setting) (i j k o p : Option (List ℕ)) (t : Told) (runs : List Run) (n : ℕ) (into : List ℕ) → Holds g i j o p t runs []
    → Consumes j k (take n into) → n ≡ 0 → Holds g i k o p t runs []
none_came g i j k o p t runs n into is comes none = holds_none is (subst (λ z. Consumes j k (take z into)) none comes)

keeps_none : (j k : Option (List ℕ)) → Keeps j k → Consumes j k []
keeps_none None k is = tt
keeps_none (Some x) (Some y) is = sym is
keeps_none (Some x) None is = absurd is

-- ---- the end of the input

-- what is done behind it
pub closed_so : {X : Type 0} (e f h : Endpoint) (runs next : List Run) (old new : Option (List ℕ)) (r : Result X Halted) → IsLed e → IsLed f → stands (told_at e).side ≡ true
    → IsSettled e runs → f ≡ with_entry ended e → SettlesSo f h runs next old new r → ClosesSo e h runs next old new r
closed_so {X} e f h runs next old new r before after up settled is so = by_answer r so
  where
    setting : setting_at f ≡ setting_at e
    setting = ap setting_at is

    has : HasClosed (setting_at e) (told_at e) (told_at f) runs
    has = has_closed (setting_at e) e.entries (told_at e) (told_at f) runs before settled up (is_told e f (Some ended) before after is)

    by_answer : (r : Result X Halted) → SettlesSo f h runs next old new r → ClosesSo e h runs next old new r
    by_answer (Ok u) (goes, done) =
        let turns = subst (λ z. Turns z (told_at f) (told_at h) runs next old new) setting goes.turns in
        record {
          closes = closes has turns (subst (λ z. AllIsDone z (told_at h).side next) (goes.setting ∙ setting) done);
          ended = (turns.closed has.closed).0.cause;
          taken = closing_takes has turns;
        }
    by_answer (Err why) halts = closing_halts has (subst (λ z. Halts z (told_at f) runs old new) setting halts)

-- where the input failed
pub none_kept : (g : Setting) (i j k o p : Option (List ℕ)) (t : Told) (runs : List Run) → Holds g i j o p t runs [] → Keeps j k → Holds g i k o p t runs []
none_kept g i j k o p t runs is keeps = holds_none is (keeps_none j k keeps)

pub all_is_in : (g : Setting) (i j o p q : Option (List ℕ)) (e f : Endpoint) (runs next : List Run) → setting_at e ≡ g → Holds g i j o p (told_at e) runs [] → IsSettled e runs
    → stands (told_at e).side ≡ true → IsClosing e f runs next p q → IsAllIn g i j o q
all_is_in g i j o p q e f runs next setting is settled up closing =
    all_in is (subst (λ z. AllIsDone z (told_at e).side runs) setting settled) up
    (subst (λ z. Closes z (told_at e) (told_at f) runs next) setting closing.closes) closing.taken closing.ended

pub is_cut : (g : Setting) (i j o p q : Option (List ℕ)) (e f : Endpoint) (runs next : List Run) (cut : Bool) → setting_at e ≡ g → Holds g i j o p (told_at e) runs []
    → IsSettled e runs → stands (told_at e).side ≡ true → cut ≡ awaits_input (side_at e) → IsClosing e f runs next p q → IsCutOrNot g i j o q cut
unfolding all_is_in all_in
is_cut g i j o p q e f runs next cut setting is settled up awaited closing =
    record { all = all_is_in g i j o p q e f runs next setting is settled up closing; awaited = ap awaits_input (sym (told_side e)) ∙ sym awaited }
