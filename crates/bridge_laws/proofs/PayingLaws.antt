-- What is paid while references are gained, taken and let go: a pair of the peer's is held, or is released as often as it came.
use Rattle.std.proofs.Common.{◌≡◌, ℕ, zero, suc, ◌+◌, ◌≤◌, ◌<◌, Bool, true, false, not, ◌||◌, cond, ◌==◌, if◌then◌else◌, List, [], ◌∷◌, ◌++◌, refl, sym, ap, ◌∙◌, arith}
use Rattle.std.proofs.lemmas.Bool.Decides.{nat_tests}
use Rattle.std.proofs.lemmas.List.{append-nil}
use Rattle.std.specs.Ordering.{eq_by_cmp}
use Rattle.std.specs.declared.cmp.Ordering.{Ordering}
use Rattle.std.specs.Cmp.{Equal-is}
use Rattle.std.specs.FinMap.{IsAntisymmetric}
use Rattle.message_model.specs.Messages.{Message, request, release}
use Rattle.uno_model.specs.Values.{Ref, null, own, peer, Plain}
use Rattle.table_model.specs.Bags.{how_many, how_often, one_less}
use Rattle.table_model.specs.Holdings.{Hold, hold, hold_cmp, Holdings, holders, holds, held, let_go}
use Rattle.table_model.specs.Pair.{Pair, pair, is_pair}
use Rattle.table_model.specs.declared.holder.Holder.{Holder}
use Rattle.table_model.proofs.BagLaws.{how_many_one_more}
use Rattle.table_model.proofs.HoldLaws.{same_hold}
use Rattle.table_model.proofs.PairLaws.{same_pair}
use Rattle.bridge_model.specs.References.{says, releases, gains, gains_all, is_held, takes, takes_all, loses, stays, gives_back, holds_ref, lets_go, lets_go_all}
use Rattle.bridge_model.specs.Settings.{Setting, is_own, release_tid, is_told}
use Rattle.bridge_model.specs.Sides.{Tables}
use Rattle.bridge_laws.specs.Counting.{total, one_if, releases_of, is_peers}
use Rattle.bridge_laws.proofs.GrowsLaws.{two_more}
use Rattle.bridge_laws.proofs.Sums.{total_append}

-- ---- words

-- one where there is some
unfoldable pub some_of : ℕ → ℕ
some_of n = one_if (not (n == 0))

-- whether a pair is held, as a number
abbrev pub held_once : Pair → Holdings → ℕ
held_once p hs = some_of (holders p hs)

-- a reference to an object of the peer's under the interface of a pair, as a number
unfoldable pub peers : Pair → Ref → ℕ
peers p r = one_if (is_peers p r)

-- a reference that is told wrong, as a number
unfoldable pub stray : Setting → Ref → ℕ
stray g r = one_if (not (is_told g r))

abbrev pub strays : Setting → List Ref → ℕ
strays g rs = total (stray g) rs

-- references to a pair of the peer's are there only where it is held
abbrev pub Backed : Pair → List Ref → Tables → Type 0
Backed p rs t = holders p t.holdings ≡ 0 → total (peers p) rs ≡ 0

-- what came is paid: the pair is held from then on, or was released
pub record Paid (p : Pair) (got : ℕ) (before after : List Message) (hs hs_now : Holdings) : Type 0 where
  pub new : List Message
  pub said : after ≡ before ++ new
  pub paid : got + held_once p hs ≡ held_once p hs_now + total (releases_of p) new

abbrev pub Pays : Pair → ℕ → Tables → Tables → Type 0
Pays p got t u = Paid p got t.unsaid u.unsaid t.holdings u.holdings

-- ---- one after the other

held_none : some_of 0 ≡ 0
unfolding some_of
held_none = refl

pub held_some : (n : ℕ) → 1 ≤ n → some_of n ≡ 1
unfolding some_of
held_some n more = grind (arith, nat_tests)

paid_quiet : (p : Pair) (ms : List Message) (hs hs_now : Holdings) → held_once p hs ≡ held_once p hs_now → Paid p 0 ms ms hs hs_now
unfolding total
paid_quiet p ms hs hs_now same = record { new = []; said = sym (append-nil ms); paid = omega arith }

pub pays_same : (p : Pair) (t : Tables) → Pays p 0 t t
pays_same p t = paid_quiet p t.unsaid t.holdings t.holdings refl

pub paid_on : {p : Pair} {got more : ℕ} {a b c : List Message} {x y z : Holdings} → Paid p got a b x y → Paid p more b c y z → Paid p (got + more) a c x z
paid_on {p} {got} {more} {a} {b} {c} {x} {y} {z} first later =
    record {
      new = first.new ++ later.new;
      said = two_more a b c first.new later.new first.said later.said;
      paid = let here = first.paid in let there = later.paid in let parts = total_append (releases_of p) first.new later.new in omega arith;
    }

-- where nothing came
pub pays_on : {p : Pair} {a b c : List Message} {x y z : Holdings} → Paid p 0 a b x y → Paid p 0 b c y z → Paid p 0 a c x z
pays_on first later = paid_on first later

pub pays_if : (p : Pair) (got : ℕ) (b : Bool) (t u v : Tables) → Pays p got t u → Pays p got t v → Pays p got t (if b then u else v)
pays_if p got true t u v x y = x
pays_if p got false t u v x y = y

-- ---- saying

-- what is no release of the pair pays nothing
pub pays_says : (p : Pair) (g : Setting) (m : Message) (t : Tables) → releases_of p m ≡ 0 → Pays p 0 t (says g m t)
unfolding says total
pays_says p g m t nothing = record { new = m ∷ []; said = refl; paid = omega arith }

pub asks_none : (p : Pair) (tid oid face : List ℕ) (function : ℕ) (args : List Plain) → releases_of p (request tid oid face function args) ≡ 0
unfolding releases_of
asks_none p tid oid face function args = refl

-- ---- names

unnamed : (g : Setting) (p : Pair) (oid face : List ℕ) → is_own g p.oid ≡ false → one_if (not (is_own g oid)) ≡ 0 → (b : Bool) → is_pair p (pair oid face) ≡ b → b ≡ false
unnamed g p oid face foreign named true is =
    let same : is_own g p.oid ≡ is_own g oid = ap (λ q. is_own g q.oid) (same_pair p (pair oid face) ((Equal-is _).0 is)) in
    let one : one_if (not (is_own g oid)) ≡ 1 = ap (λ b. one_if (not b)) (sym same ∙ foreign) in absurd (omega arith)
unnamed g p oid face foreign named false is = refl

-- what is named as an object of this end is no pair of the peer's
own_apart : (g : Setting) (p : Pair) (oid face : List ℕ) → is_own g p.oid ≡ false → stray g (own oid face) ≡ 0 → one_if (is_pair p (pair oid face)) ≡ 0
unfolding stray is_told
own_apart g p oid face foreign named = ap one_if (unnamed g p oid face foreign named (is_pair p (pair oid face)) refl)

-- ---- one occurrence more or less

held_more : (p : Pair) (who : Holder) (q : Pair) (hs : Holdings) → holders p (held (hold who q) hs) ≡ one_if (is_pair p q) + holders p hs
held_more p who q hs = how_many_one_more hold_cmp (λ h. is_pair p h.pair) (hold who q) hs

how_many_one_less : {X : Type 0} (cmp : X → X → Ordering) → IsAntisymmetric cmp → (test : X → Bool) (k : X) (ys : List X) → 0 < how_often cmp k ys
    → how_many test ys ≡ cond (test k) 1 0 + how_many test (one_less cmp k ys)
how_many_one_less cmp same test k [] there = absurd (omega arith)
how_many_one_less cmp same test k (y ∷ ys) there =
    elim (eq_by_cmp cmp k y) as (λ b. eq_by_cmp cmp k y ≡ b → 0 < cond b 1 0 + how_often cmp k ys → how_many test (y ∷ ys) ≡ cond (test k) 1 0 + how_many test (cond b ys (y ∷ one_less cmp k ys))) [
      | true ↦ λ is _. ap (λ x. cond (test x) 1 0 + how_many test ys) (sym (same k y ((Equal-is _).0 is)))
      | false ↦ λ is there. let rest = how_many_one_less cmp same test k ys (omega arith) in omega arith
    ] refl there

pub holds_some : (h : Hold) (hs : Holdings) → holds h hs ≡ true → 0 < how_often hold_cmp h hs
holds_some h hs is = grind (arith, nat_tests)

held_less : (p : Pair) (who : Holder) (q : Pair) (hs : Holdings) → holds (hold who q) hs ≡ true → holders p hs ≡ one_if (is_pair p q) + holders p (let_go (hold who q) hs)
held_less p who q hs is = how_many_one_less hold_cmp same_hold (λ h. is_pair p h.pair) (hold who q) hs (holds_some (hold who q) hs is)

-- ---- gaining

gain_same : (one n m : ℕ) → m ≡ one + n → (n ≡ 0 → one ≡ 0) → some_of n ≡ some_of m
gain_same one zero m is back = let nothing = back refl in let same : 0 ≡ m = omega arith in ap some_of same
gain_same one (suc n) m is back = let before = held_some (suc n) (omega arith) in let after = held_some m (omega arith) in omega arith

pub pays_gains : (g : Setting) (p : Pair) → is_own g p.oid ≡ false → (who : Holder) (r : Ref) (t : Tables) → stray g r ≡ 0 → (holders p t.holdings ≡ 0 → peers p r ≡ 0) → Pays p 0 t (gains who r t)
unfolding peers
pays_gains g p foreign who null t named back = pays_same p t
pays_gains g p foreign who (own oid face) t named back =
    paid_quiet p t.unsaid t.holdings (held (hold who (pair oid face)) t.holdings)
    (gain_same (one_if (is_pair p (pair oid face))) (holders p t.holdings) (holders p (held (hold who (pair oid face)) t.holdings)) (held_more p who (pair oid face) t.holdings)
    (λ none. own_apart g p oid face foreign named))
pays_gains g p foreign who (peer oid face) t named back =
    paid_quiet p t.unsaid t.holdings (held (hold who (pair oid face)) t.holdings)
    (gain_same (one_if (is_pair p (pair oid face))) (holders p t.holdings) (holders p (held (hold who (pair oid face)) t.holdings)) (held_more p who (pair oid face) t.holdings) back)

gains_more : (p : Pair) (who : Holder) (r : Ref) (t : Tables) → holders p (gains who r t).holdings ≡ 0 → holders p t.holdings ≡ 0
gains_more p who null t none = none
gains_more p who (own oid face) t none = let more = held_more p who (pair oid face) t.holdings in omega arith
gains_more p who (peer oid face) t none = let more = held_more p who (pair oid face) t.holdings in omega arith

pub pays_gains_all : (g : Setting) (p : Pair) → is_own g p.oid ≡ false → (who : Holder) (rs : List Ref) (t : Tables) → strays g rs ≡ 0 → Backed p rs t → Pays p 0 t (gains_all who rs t)
unfolding gains_all total
pays_gains_all g p foreign who [] t named back = pays_same p t
pays_gains_all g p foreign who (r ∷ rs) t named back =
    pays_on
    (pays_gains g p foreign who r t (omega arith) (λ none. let all = back none in omega arith))
    (pays_gains_all g p foreign who rs (gains who r t) (omega arith) (λ none. let all = back (gains_more p who r t none) in omega arith))

-- ---- taking

is_held_as : (p : Pair) (oid face : List ℕ) (t : Tables) → is_pair p (pair oid face) ≡ true → one_if (is_held oid face t) ≡ held_once p t.holdings
unfolding some_of
is_held_as p oid face t is = ap (λ q. one_if (not (holders q t.holdings == 0))) (sym (same_pair p (pair oid face) ((Equal-is _).0 is)))

-- a pair of the peer's stays where it is held
stays_as : (g : Setting) (p : Pair) → is_own g p.oid ≡ false → (oid face : List ℕ) (t : Tables) → is_pair p (pair oid face) ≡ true → one_if (stays g oid face t) ≡ held_once p t.holdings
stays_as g p foreign oid face t is =
    let theirs : is_own g oid ≡ false = ap (λ q. is_own g q.oid) (sym (same_pair p (pair oid face) ((Equal-is _).0 is))) ∙ foreign in
    ap (λ b. one_if (b || is_held oid face t)) theirs ∙ is_held_as p oid face t is

take_step : (c held : Bool) (n m : ℕ) → m ≡ one_if c + n → (c ≡ true → one_if held ≡ some_of n) → one_if c + some_of n ≡ some_of m + cond held (one_if c) 0
take_step true true n m is same = let here = same refl in let after = held_some m (omega arith) in omega arith
take_step true false n m is same = let here = same refl in let after = held_some m (omega arith) in omega arith
take_step false true n m is same = let alike : some_of n ≡ some_of m = ap some_of (omega arith) in omega arith
take_step false false n m is same = let alike : some_of n ≡ some_of m = ap some_of (omega arith) in omega arith

one_release : (g : Setting) (p : Pair) (oid face : List ℕ) → total (releases_of p) (release (release_tid g) oid face ∷ []) ≡ one_if (is_pair p (pair oid face))
unfolding total releases_of
one_release g p oid face = omega arith

-- a release of a pair and other holdings
paid_release : (g : Setting) (p : Pair) (got : ℕ) (oid face : List ℕ) (ms : List Message) (hs hs_now : Holdings)
    → got + held_once p hs ≡ held_once p hs_now + one_if (is_pair p (pair oid face)) → Paid p got ms (ms ++ release (release_tid g) oid face ∷ []) hs hs_now
paid_release g p got oid face ms hs hs_now is = record { new = release (release_tid g) oid face ∷ []; said = refl; paid = let one = one_release g p oid face in omega arith }

paid_none : (p : Pair) (got : ℕ) (ms : List Message) (hs hs_now : Holdings) → got + held_once p hs ≡ held_once p hs_now → Paid p got ms ms hs hs_now
unfolding total
paid_none p got ms hs hs_now is = record { new = []; said = sym (append-nil ms); paid = omega arith }

takes_peer : (g : Setting) (p : Pair) (who : Holder) (oid face : List ℕ) (b : Bool) (t : Tables)
    → (is_pair p (pair oid face) ≡ true → one_if b ≡ held_once p t.holdings)
    → Pays p (one_if (is_pair p (pair oid face))) t (gains who (peer oid face) (if b then releases g oid face t else t))
unfolding says
takes_peer g p who oid face true t same =
    paid_release g p (one_if (is_pair p (pair oid face))) oid face t.unsaid t.holdings (held (hold who (pair oid face)) t.holdings)
    (take_step (is_pair p (pair oid face)) true (holders p t.holdings) (holders p (held (hold who (pair oid face)) t.holdings)) (held_more p who (pair oid face) t.holdings) same)
takes_peer g p who oid face false t same =
    paid_none p (one_if (is_pair p (pair oid face))) t.unsaid t.holdings (held (hold who (pair oid face)) t.holdings)
    (let step = take_step (is_pair p (pair oid face)) false (holders p t.holdings) (holders p (held (hold who (pair oid face)) t.holdings)) (held_more p who (pair oid face) t.holdings) same in omega arith)

pays_takes : (g : Setting) (p : Pair) → is_own g p.oid ≡ false → (who : Holder) (r : Ref) (t : Tables) → stray g r ≡ 0 → Pays p (peers p r) t (takes g who r t)
unfolding peers
pays_takes g p foreign who null t named = pays_same p t
pays_takes g p foreign who (own oid face) t named = pays_gains g p foreign who (own oid face) t named (λ none. refl)
pays_takes g p foreign who (peer oid face) t named = takes_peer g p who oid face (is_held oid face t) t (is_held_as p oid face t)

-- what is taken is paid
pub pays_takes_all : (g : Setting) (p : Pair) → is_own g p.oid ≡ false → (who : Holder) (rs : List Ref) (t : Tables) → strays g rs ≡ 0 → Pays p (total (peers p) rs) t (takes_all g who rs t)
unfolding takes_all total
pays_takes_all g p foreign who [] t named = pays_same p t
pays_takes_all g p foreign who (r ∷ rs) t named =
    paid_on (pays_takes g p foreign who r t (omega arith)) (pays_takes_all g p foreign who rs (takes g who r t) (omega arith))

-- ---- letting go

go_step : (c held : Bool) (n m : ℕ) → n ≡ one_if c + m → (c ≡ true → one_if held ≡ some_of m) → some_of n ≡ some_of m + cond held 0 (one_if c)
go_step true true n m is same = let here = same refl in let before = held_some n (omega arith) in omega arith
go_step true false n m is same = let here = same refl in let before = held_some n (omega arith) in omega arith
go_step false true n m is same = let alike : some_of n ≡ some_of m = ap some_of (omega arith) in omega arith
go_step false false n m is same = let alike : some_of n ≡ some_of m = ap some_of (omega arith) in omega arith

go_peer : (g : Setting) (p : Pair) (who : Holder) (oid face : List ℕ) (t : Tables) → holds (hold who (pair oid face)) t.holdings ≡ true → (b : Bool)
    → (is_pair p (pair oid face) ≡ true → one_if b ≡ held_once p (loses who (peer oid face) t).holdings)
    → Pays p 0 t (if b then loses who (peer oid face) t else releases g oid face (loses who (peer oid face) t))
unfolding says
go_peer g p who oid face t there true same =
    paid_none p 0 t.unsaid t.holdings (let_go (hold who (pair oid face)) t.holdings)
    (let step = go_step (is_pair p (pair oid face)) true (holders p t.holdings) (holders p (let_go (hold who (pair oid face)) t.holdings)) (held_less p who (pair oid face) t.holdings there) same in omega arith)
go_peer g p who oid face t there false same =
    paid_release g p 0 oid face t.unsaid t.holdings (let_go (hold who (pair oid face)) t.holdings)
    (let step = go_step (is_pair p (pair oid face)) false (holders p t.holdings) (holders p (let_go (hold who (pair oid face)) t.holdings)) (held_less p who (pair oid face) t.holdings there) same in omega arith)

less_same : (one n m : ℕ) → n ≡ one + m → one ≡ 0 → some_of n ≡ some_of m
less_same one n m is none = ap some_of (omega arith)

goes : (g : Setting) (p : Pair) → is_own g p.oid ≡ false → (who : Holder) (r : Ref) (t : Tables) → stray g r ≡ 0 → (b : Bool) → holds_ref who r t ≡ b
    → Pays p 0 t (if b then gives_back g r (loses who r t) else t)
goes g p foreign who r t named false there = pays_same p t
goes g p foreign who null t named true there = pays_same p t
goes g p foreign who (own oid face) t named true there =
    paid_quiet p t.unsaid t.holdings (let_go (hold who (pair oid face)) t.holdings)
    (less_same (one_if (is_pair p (pair oid face))) (holders p t.holdings) (holders p (let_go (hold who (pair oid face)) t.holdings)) (held_less p who (pair oid face) t.holdings there)
    (own_apart g p oid face foreign named))
goes g p foreign who (peer oid face) t named true there =
    go_peer g p who oid face t there (stays g oid face (loses who (peer oid face) t)) (stays_as g p foreign oid face (loses who (peer oid face) t))

pub pays_lets_go : (g : Setting) (p : Pair) → is_own g p.oid ≡ false → (who : Holder) (r : Ref) (t : Tables) → stray g r ≡ 0 → Pays p 0 t (lets_go g who r t)
pays_lets_go g p foreign who r t named = goes g p foreign who r t named (holds_ref who r t) refl

pub pays_lets_go_all : (g : Setting) (p : Pair) → is_own g p.oid ≡ false → (who : Holder) (rs : List Ref) (t : Tables) → strays g rs ≡ 0 → Pays p 0 t (lets_go_all g who rs t)
unfolding lets_go_all total
pays_lets_go_all g p foreign who [] t named = pays_same p t
pays_lets_go_all g p foreign who (r ∷ rs) t named =
    pays_on (pays_lets_go g p foreign who r t (omega arith)) (pays_lets_go_all g p foreign who rs (lets_go g who r t) (omega arith))
