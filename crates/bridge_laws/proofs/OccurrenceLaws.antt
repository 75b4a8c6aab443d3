-- How often an occurrence is held, and what gaining, taking and letting go of references change of that.
use Rattle.std.proofs.Common.{◌≡◌, ℕ, ◌+◌, ◌≤◌, Bool, true, false, cond, if◌then◌else◌, List, [], ◌∷◌, refl, ap, ◌∙◌, arith}
use Rattle.std.specs.Ordering.{eq_by_cmp}
use Rattle.std.specs.declared.cmp.Ordering.{Ordering}
use Rattle.std.specs.Cmp.{Equal-is}
use Rattle.std.specs.FinMap.{IsAntisymmetric}
use Rattle.message_model.specs.Messages.{Message}
use Rattle.uno_model.specs.Values.{Ref, null, own, peer}
use Rattle.table_model.specs.Bags.{how_often, one_more, one_less}
use Rattle.table_model.specs.Holdings.{Hold, hold, hold_cmp, Holdings}
use Rattle.table_model.specs.Pair.{pair}
use Rattle.table_model.specs.declared.holder.Holder.{Holder}
use Rattle.table_model.proofs.BagLaws.{how_many_one_more}
use Rattle.table_model.proofs.HoldLaws.{same_hold}
use Rattle.bridge_model.specs.References.{says, releases, gains, gains_all, is_held, takes, takes_all, loses, loses_all, stays, gives_back, holds_ref, lets_go, lets_go_all}
use Rattle.bridge_model.specs.Settings.{Setting}
use Rattle.bridge_model.specs.Sides.{Object, Tables}
use Rattle.bridge_laws.specs.Counting.{total, one_if}
use Rattle.bridge_laws.specs.Covering.{holds_of, objects_owe}

-- ---- words

-- how often an occurrence is held
unfoldable pub times : Hold → Holdings → ℕ
times h hs = how_often hold_cmp h hs

-- whether two occurrences are one
unfoldable pub is_hold : Hold → Hold → Bool
is_hold h k = eq_by_cmp hold_cmp h k

-- whether a reference with a holder is an occurrence, as a number
unfoldable pub ref_owes : Hold → Holder → Ref → ℕ
ref_owes h who null = 0
ref_owes h who (own oid face) = one_if (is_hold h (hold who (pair oid face)))
ref_owes h who (peer oid face) = one_if (is_hold h (hold who (pair oid face)))

-- how often references with a holder are an occurrence
abbrev pub refs_owe : Hold → Holder → List Ref → ℕ
refs_owe h who rs = total (ref_owes h who) rs

-- how often objects have an occurrence
unfoldable pub objects_have : Hold → List Object → ℕ
objects_have h os = objects_owe h os

-- what objects have, and so much more, is held
abbrev pub Covers : Hold → ℕ → Tables → Type 0
Covers h n t = n + objects_have h t.objects ≤ times h t.holdings

-- ---- occurrences

pub refs_owe_is : (h : Hold) (who : Holder) (rs : List Ref) → how_often hold_cmp h (holds_of who rs) ≡ refs_owe h who rs
unfolding total ref_owes is_hold
refs_owe_is h who [] = refl
refs_owe_is h who (null ∷ rs) = let rest = refs_owe_is h who rs in omega arith
refs_owe_is h who (own oid face ∷ rs) = ap (λ n. one_if (eq_by_cmp hold_cmp h (hold who (pair oid face))) + n) (refs_owe_is h who rs)
refs_owe_is h who (peer oid face ∷ rs) = ap (λ n. one_if (eq_by_cmp hold_cmp h (hold who (pair oid face))) + n) (refs_owe_is h who rs)

-- one less of an item takes no other, and takes it once at most
less_step : {X : Type 0} (cmp : X → X → Ordering) → IsAntisymmetric cmp → (z k y : X) (ys less : List X)
    → how_often cmp z ys ≤ how_often cmp z less + cond (eq_by_cmp cmp z k) 1 0
    → (b : Bool) → eq_by_cmp cmp k y ≡ b → how_often cmp z (y ∷ ys) ≤ how_often cmp z (cond b ys (y ∷ less)) + cond (eq_by_cmp cmp z k) 1 0
less_step cmp same z k y ys less rest true is =
    let alike : ◌≡◌ {A = ℕ} (cond (eq_by_cmp cmp z k) 1 0) (cond (eq_by_cmp cmp z y) 1 0) = ap (λ x. cond (eq_by_cmp cmp z x) 1 0) (same k y ((Equal-is _).0 is)) in omega arith
less_step cmp same z k y ys less rest false is = omega arith

one_less_at_most : {X : Type 0} (cmp : X → X → Ordering) → IsAntisymmetric cmp → (z k : X) (ys : List X)
    → how_often cmp z ys ≤ how_often cmp z (one_less cmp k ys) + cond (eq_by_cmp cmp z k) 1 0
one_less_at_most cmp same z k [] = omega arith
one_less_at_most cmp same z k (y ∷ ys) = less_step cmp same z k y ys (one_less cmp k ys) (one_less_at_most cmp same z k ys) (eq_by_cmp cmp k y) refl

-- an occurrence more
times_more : (h k : Hold) (hs : Holdings) → times h (one_more hold_cmp k hs) ≡ one_if (is_hold h k) + times h hs
unfolding times is_hold
times_more h k hs = how_many_one_more hold_cmp (eq_by_cmp hold_cmp h) k hs

-- an occurrence less
times_less : (h k : Hold) (hs : Holdings) → times h hs ≤ times h (one_less hold_cmp k hs) + one_if (is_hold h k)
unfolding times is_hold
times_less h k hs = one_less_at_most hold_cmp same_hold h k hs

-- ---- saying and gaining

pub says_covers : (g : Setting) (m : Message) (h : Hold) (n : ℕ) (t : Tables) → Covers h n t → Covers h n (says g m t)
unfolding says
says_covers g m h n t fine = fine

gains_objects : (who : Holder) (r : Ref) (t : Tables) → (gains who r t).objects ≡ t.objects
gains_objects who null t = refl
gains_objects who (own oid face) t = refl
gains_objects who (peer oid face) t = refl

gains_times : (who : Holder) (r : Ref) (h : Hold) (t : Tables) → times h (gains who r t).holdings ≡ ref_owes h who r + times h t.holdings
unfolding ref_owes
gains_times who null h t = omega arith
gains_times who (own oid face) h t = times_more h (hold who (pair oid face)) t.holdings
gains_times who (peer oid face) h t = times_more h (hold who (pair oid face)) t.holdings

pub gains_all_objects : (who : Holder) (rs : List Ref) (t : Tables) → (gains_all who rs t).objects ≡ t.objects
unfolding gains_all
gains_all_objects who [] t = refl
gains_all_objects who (r ∷ rs) t = gains_all_objects who rs (gains who r t) ∙ gains_objects who r t

pub gains_all_times : (who : Holder) (rs : List Ref) (h : Hold) (t : Tables) → times h (gains_all who rs t).holdings ≡ refs_owe h who rs + times h t.holdings
unfolding gains_all total
gains_all_times who [] h t = omega arith
gains_all_times who (r ∷ rs) h t = let here = gains_times who r h t in let rest = gains_all_times who rs h (gains who r t) in omega arith

covers_more : (h : Hold) (n more held : ℕ) (before after : List Object) (hs : ℕ) → after ≡ before → held ≡ more + hs → n + objects_have h before ≤ hs
    → n + more + objects_have h after ≤ held
covers_more h n more held before after hs same is fine = let alike : objects_have h after ≡ objects_have h before = ap (objects_have h) same in omega arith

pub gains_covers : (who : Holder) (r : Ref) (h : Hold) (n : ℕ) (t : Tables) → Covers h n t → Covers h (n + ref_owes h who r) (gains who r t)
gains_covers who r h n t fine =
    covers_more h n (ref_owes h who r) (times h (gains who r t).holdings) t.objects (gains who r t).objects (times h t.holdings) (gains_objects who r t) (gains_times who r h t) fine

pub gains_all_covers : (who : Holder) (rs : List Ref) (h : Hold) (n : ℕ) (t : Tables) → Covers h n t → Covers h (n + refs_owe h who rs) (gains_all who rs t)
gains_all_covers who rs h n t fine =
    covers_more h n (refs_owe h who rs) (times h (gains_all who rs t).holdings) t.objects (gains_all who rs t).objects (times h t.holdings) (gains_all_objects who rs t) (gains_all_times who rs h t) fine

-- ---- taking

released_if : (g : Setting) (b : Bool) (oid face : List ℕ) (h : Hold) (n : ℕ) (t : Tables) → Covers h n t → Covers h n (if b then releases g oid face t else t)
unfolding says
released_if g true oid face h n t fine = fine
released_if g false oid face h n t fine = fine

takes_covers : (g : Setting) (who : Holder) (r : Ref) (h : Hold) (n : ℕ) (t : Tables) → Covers h n t → Covers h (n + ref_owes h who r) (takes g who r t)
takes_covers g who null h n t fine = gains_covers who null h n t fine
takes_covers g who (own oid face) h n t fine = gains_covers who (own oid face) h n t fine
takes_covers g who (peer oid face) h n t fine =
    gains_covers who (peer oid face) h n (if is_held oid face t then releases g oid face t else t) (released_if g (is_held oid face t) oid face h n t fine)

pub takes_all_covers : (g : Setting) (who : Holder) (rs : List Ref) (h : Hold) (n : ℕ) (t : Tables) → Covers h n t → Covers h (n + refs_owe h who rs) (takes_all g who rs t)
unfolding takes_all total
takes_all_covers g who [] h n t fine = omega arith
takes_all_covers g who (r ∷ rs) h n t fine =
    let rest = takes_all_covers g who rs h (n + ref_owes h who r) (takes g who r t) (takes_covers g who r h n t fine) in omega arith

-- ---- letting go

pub loses_covers : (who : Holder) (r : Ref) (h : Hold) (n : ℕ) (t : Tables) → Covers h (n + ref_owes h who r) t → Covers h n (loses who r t)
unfolding ref_owes
loses_covers who null h n t fine = omega arith
loses_covers who (own oid face) h n t fine = let less = times_less h (hold who (pair oid face)) t.holdings in omega arith
loses_covers who (peer oid face) h n t fine = let less = times_less h (hold who (pair oid face)) t.holdings in omega arith

pub loses_all_covers : (who : Holder) (rs : List Ref) (h : Hold) (n : ℕ) (t : Tables) → Covers h (n + refs_owe h who rs) t → Covers h n (loses_all who rs t)
unfolding loses_all total
loses_all_covers who [] h n t fine = omega arith
loses_all_covers who (r ∷ rs) h n t fine = loses_all_covers who rs h n (loses who r t) (loses_covers who r h (n + refs_owe h who rs) t (omega arith))

kept_unless : (g : Setting) (b : Bool) (oid face : List ℕ) (h : Hold) (n : ℕ) (t : Tables) → Covers h n t → Covers h n (if b then t else releases g oid face t)
unfolding says
kept_unless g true oid face h n t fine = fine
kept_unless g false oid face h n t fine = fine

gives_back_covers : (g : Setting) (r : Ref) (h : Hold) (n : ℕ) (t : Tables) → Covers h n t → Covers h n (gives_back g r t)
gives_back_covers g null h n t fine = fine
gives_back_covers g (own oid face) h n t fine = fine
gives_back_covers g (peer oid face) h n t fine = kept_unless g (stays g oid face t) oid face h n t fine

let_go_if : (b : Bool) (h : Hold) (n less : ℕ) (before after : Tables) → Covers h n after → Covers h (n + less) before → Covers h n (if b then after else before)
let_go_if true h n less before after gone fine = gone
let_go_if false h n less before after gone fine = omega arith

pub lets_go_covers : (g : Setting) (who : Holder) (r : Ref) (h : Hold) (n : ℕ) (t : Tables) → Covers h (n + ref_owes h who r) t → Covers h n (lets_go g who r t)
lets_go_covers g who r h n t fine =
    let_go_if (holds_ref who r t) h n (ref_owes h who r) t (gives_back g r (loses who r t)) (gives_back_covers g r h n (loses who r t) (loses_covers who r h n t fine)) fine

pub lets_go_all_covers : (g : Setting) (who : Holder) (rs : List Ref) (h : Hold) (n : ℕ) (t : Tables) → Covers h (n + refs_owe h who rs) t → Covers h n (lets_go_all g who rs t)
unfolding lets_go_all total
lets_go_all_covers g who [] h n t fine = omega arith
lets_go_all_covers g who (r ∷ rs) h n t fine = lets_go_all_covers g who rs h n (lets_go g who r t) (lets_go_covers g who r h (n + refs_owe h who rs) t (omega arith))
