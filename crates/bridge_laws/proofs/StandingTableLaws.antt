-- What stands behind messages while references are gained, taken and let go: where a pair of the peer's is held no more, a release of it was said.
use Rattle.std.proofs.Common.{◌≡◌, ℕ, zero, suc, ◌+◌, ◌≤◌, Bool, true, false, if◌then◌else◌, List, [], ◌∷◌, ◌++◌, refl, sym, ap, ◌∙◌, arith}
use Rattle.std.proofs.lemmas.Bool.Decides.{nat_tests}
use Rattle.std.proofs.lemmas.List.{append-nil, append_cancel_left}
use Rattle.message_model.specs.Messages.{Message, release}
use Rattle.uno_model.specs.Values.{Ref, null, own, peer, Plain}
use Rattle.table_model.specs.Holdings.{hold, hold_cmp, Holdings, holders, held}
use Rattle.table_model.specs.Pair.{Pair, pair, is_pair}
use Rattle.table_model.specs.declared.holder.Holder.{Holder}
use Rattle.table_model.specs.declared.holder.Holder.TheVariants as holder
use Rattle.table_model.proofs.BagLaws.{how_many_one_more}
use Rattle.bridge_model.specs.Objects.{makes_object, makes_default, defaults_of}
use Rattle.bridge_model.specs.References.{says, releases, gains, gains_all, is_held, takes, takes_all, loses, stays, gives_back, holds_ref, lets_go, lets_go_all, refs_of_values}
use Rattle.bridge_model.specs.Settings.{Setting, is_own, release_tid}
use Rattle.bridge_model.specs.Sides.{Tables}
use Rattle.bridge_laws.specs.Counting.{total, releases_of}
use Rattle.bridge_laws.specs.Standing.{uses, Stands}
use Rattle.bridge_laws.proofs.GrowsLaws.{two_more}
use Rattle.bridge_laws.proofs.PayingLaws.{some_of, held_once, held_some, stray, strays, Paid, pays_lets_go}
use Rattle.bridge_laws.proofs.Sums.{total_append}

-- ---- words

-- new messages stand behind the ones before; where the pair was held before them it is held behind them, or was released; and the same holds of each that uses it
pub record Upheld (p : Pair) (before after : List Message) (hs hs_now : Holdings) : Type 0 where
  pub new : List Message
  pub said : after ≡ before ++ new
  pub kept : held_once p hs ≤ held_once p hs_now + total (releases_of p) new
  pub behind : Stands p (held_once p hs_now) new

abbrev pub Upholds : Pair → Tables → Tables → Type 0
Upholds p t u = Upheld p t.unsaid u.unsaid t.holdings u.holdings

-- new messages none of which uses the pair
record Unused (p : Pair) (before after : List Message) : Type 0 where
  pub new : List Message
  pub said : after ≡ before ++ new
  pub none : total (uses p) new ≡ 0

-- ---- how often a pair is held

some_more : (n m : ℕ) → n ≤ m → some_of n ≤ some_of m
unfolding some_of
some_more n m more = grind (arith, nat_tests)

-- what is used where it is held alone
pub used_held : (n used : ℕ) → (n ≡ 0 → used ≡ 0) → 1 ≤ used → 1 ≤ some_of n
used_held zero used back is = let none = back refl in absurd (omega arith)
used_held (suc n) used back is = let one = held_some (suc n) (omega arith) in omega arith

-- ---- one after the other

-- what was held before more messages, and is held or released by them
pub stands_on : (p : Pair) (n m : ℕ) (ms new : List Message) → n ≤ m + total (releases_of p) new → Stands p n ms → Stands p m new → Stands p m (ms ++ new)
unfolding Stands total
stands_on p n m [] new kept first later = later
stands_on p n m (x ∷ ms) new kept first later =
    let parts = total_append (releases_of p) ms new in
    ((λ used. let here = first.0 used in omega arith), stands_on p n m ms new kept first.1 later)

pub upheld_on : {p : Pair} {a b c : List Message} {x y z : Holdings} → Upheld p a b x y → Upheld p b c y z → Upheld p a c x z
upheld_on {p} {a} {b} {c} {x} {y} {z} first later =
    record {
      new = first.new ++ later.new;
      said = two_more a b c first.new later.new first.said later.said;
      kept = let here = first.kept in let there = later.kept in let parts = total_append (releases_of p) first.new later.new in omega arith;
      behind = stands_on p (held_once p y) (held_once p z) first.new later.new later.kept first.behind later.behind;
    }

upheld_quiet : (p : Pair) (ms : List Message) (hs hs_now : Holdings) → held_once p hs ≤ held_once p hs_now → Upheld p ms ms hs hs_now
unfolding total Stands
upheld_quiet p ms hs hs_now more = record { new = []; said = sym (append-nil ms); kept = omega arith; behind = tt }

pub upholds_same : (p : Pair) (t : Tables) → Upholds p t t
upholds_same p t = upheld_quiet p t.unsaid t.holdings t.holdings (omega arith)

pub upholds_if : (p : Pair) (b : Bool) (t u v : Tables) → Upholds p t u → Upholds p t v → Upholds p t (if b then u else v)
upholds_if p true t u v x y = x
upholds_if p false t u v x y = y

-- ---- saying

-- what a message uses is held
pub upholds_says : (p : Pair) (g : Setting) (m : Message) (t : Tables) → (1 ≤ uses p m → 1 ≤ held_once p t.holdings) → Upholds p t (says g m t)
unfolding says total Stands
upholds_says p g m t back = record { new = m ∷ []; said = refl; kept = omega arith; behind = ((λ used. let here = back used in omega arith), tt) }

upholds_releases : (p : Pair) (g : Setting) (oid face : List ℕ) (t : Tables) → Upholds p t (releases g oid face t)
unfolding uses
upholds_releases p g oid face t = upholds_says p g (release (release_tid g) oid face) t (λ used. absurd (omega arith))

-- ---- gaining

held_more : (p : Pair) (who : Holder) (q : Pair) (hs : Holdings) → held_once p hs ≤ held_once p (held (hold who q) hs)
held_more p who q hs =
    let more = how_many_one_more hold_cmp (λ h. is_pair p h.pair) (hold who q) hs in
    some_more (holders p hs) (holders p (held (hold who q) hs)) (omega arith)

pub upholds_gains : (p : Pair) (who : Holder) (r : Ref) (t : Tables) → Upholds p t (gains who r t)
upholds_gains p who null t = upholds_same p t
upholds_gains p who (own oid face) t = upheld_quiet p t.unsaid t.holdings (held (hold who (pair oid face)) t.holdings) (held_more p who (pair oid face) t.holdings)
upholds_gains p who (peer oid face) t = upheld_quiet p t.unsaid t.holdings (held (hold who (pair oid face)) t.holdings) (held_more p who (pair oid face) t.holdings)

pub upholds_gains_all : (p : Pair) (who : Holder) (rs : List Ref) (t : Tables) → Upholds p t (gains_all who rs t)
unfolding gains_all
upholds_gains_all p who [] t = upholds_same p t
upholds_gains_all p who (r ∷ rs) t = upheld_on (upholds_gains p who r t) (upholds_gains_all p who rs (gains who r t))

-- ---- taking

upholds_takes : (p : Pair) (g : Setting) (who : Holder) (r : Ref) (t : Tables) → Upholds p t (takes g who r t)
upholds_takes p g who null t = upholds_same p t
upholds_takes p g who (own oid face) t = upholds_gains p who (own oid face) t
upholds_takes p g who (peer oid face) t =
    upheld_on
    (upholds_if p (is_held oid face t) t (releases g oid face t) t (upholds_releases p g oid face t) (upholds_same p t))
    (upholds_gains p who (peer oid face) (if is_held oid face t then releases g oid face t else t))

pub upholds_takes_all : (p : Pair) (g : Setting) (who : Holder) (rs : List Ref) (t : Tables) → Upholds p t (takes_all g who rs t)
unfolding takes_all
upholds_takes_all p g who [] t = upholds_same p t
upholds_takes_all p g who (r ∷ rs) t = upheld_on (upholds_takes p g who r t) (upholds_takes_all p g who rs (takes g who r t))

-- ---- letting go

unused_none : (p : Pair) (ms : List Message) → Unused p ms ms
unfolding total
unused_none p ms = record { new = []; said = sym (append-nil ms); none = refl }

unused_release : (p : Pair) (g : Setting) (oid face : List ℕ) (t : Tables) → Unused p t.unsaid (releases g oid face t).unsaid
unfolding total says uses
unused_release p g oid face t = record { new = release (release_tid g) oid face ∷ []; said = refl; none = refl }

unused_if : (p : Pair) (b : Bool) (ms : List Message) (u v : Tables) → Unused p ms u.unsaid → Unused p ms v.unsaid → Unused p ms (if b then u else v).unsaid
unused_if p true ms u v x y = x
unused_if p false ms u v x y = y

unused_back : (p : Pair) (g : Setting) (who : Holder) (r : Ref) (t : Tables) → Unused p t.unsaid (gives_back g r (loses who r t)).unsaid
unused_back p g who null t = unused_none p t.unsaid
unused_back p g who (own oid face) t = unused_none p t.unsaid
unused_back p g who (peer oid face) t =
    unused_if p (stays g oid face (loses who (peer oid face) t)) t.unsaid (loses who (peer oid face) t) (releases g oid face (loses who (peer oid face) t))
    (unused_none p t.unsaid)
    (unused_release p g oid face (loses who (peer oid face) t))

unused_lets_go : (p : Pair) (g : Setting) (who : Holder) (r : Ref) (t : Tables) → Unused p t.unsaid (lets_go g who r t).unsaid
unused_lets_go p g who r t =
    unused_if p (holds_ref who r t) t.unsaid (gives_back g r (loses who r t)) t (unused_back p g who r t) (unused_none p t.unsaid)

-- behind messages that do not use a pair nothing has to stand
stands_unused : (p : Pair) (n : ℕ) (ms : List Message) → total (uses p) ms ≡ 0 → Stands p n ms
unfolding Stands total
stands_unused p n [] none = tt
stands_unused p n (m ∷ ms) none = ((λ used. absurd (omega arith)), stands_unused p n ms (omega arith))

-- what was paid by messages that do not use the pair
upheld_paid : {p : Pair} {got : ℕ} {a b : List Message} {x y : Holdings} → Paid p got a b x y → Unused p a b → Upheld p a b x y
upheld_paid {p} {got} {a} {b} {x} {y} paid unused =
    let same : paid.new ≡ unused.new = append_cancel_left a paid.new unused.new (sym paid.said ∙ unused.said) in
    record {
      new = paid.new;
      said = paid.said;
      kept = let all = paid.paid in omega arith;
      behind = stands_unused p (held_once p y) paid.new (ap (total (uses p)) same ∙ unused.none);
    }

pub upholds_lets_go : (g : Setting) (p : Pair) → is_own g p.oid ≡ false → (who : Holder) (r : Ref) (t : Tables) → stray g r ≡ 0 → Upholds p t (lets_go g who r t)
upholds_lets_go g p foreign who r t told = upheld_paid (pays_lets_go g p foreign who r t told) (unused_lets_go p g who r t)

pub upholds_lets_go_all : (g : Setting) (p : Pair) → is_own g p.oid ≡ false → (who : Holder) (rs : List Ref) (t : Tables) → strays g rs ≡ 0 → Upholds p t (lets_go_all g who rs t)
unfolding lets_go_all total
upholds_lets_go_all g p foreign who [] t told = upholds_same p t
upholds_lets_go_all g p foreign who (r ∷ rs) t told =
    upheld_on (upholds_lets_go g p foreign who r t (omega arith)) (upholds_lets_go_all g p foreign who rs (lets_go g who r t) (omega arith))

-- ---- objects that are made

pub upholds_makes : (p : Pair) (behaviour : ℕ) (fields : List Plain) (t : Tables) → Upholds p t (makes_object behaviour fields t)
unfolding makes_object
upholds_makes p behaviour fields t =
    upholds_gains_all p (holder.Object (suc t.objects_made)) (refs_of_values fields)
    (record t { objects = t.objects ++ record { number = suc t.objects_made; behaviour = behaviour; fields = fields } ∷ []; objects_made = suc t.objects_made })

pub upholds_makes_default : (p : Pair) (g : Setting) (behaviour : ℕ) (t : Tables) → Upholds p t (makes_default g behaviour t)
upholds_makes_default p g behaviour t = upholds_makes p behaviour (defaults_of g behaviour) t
