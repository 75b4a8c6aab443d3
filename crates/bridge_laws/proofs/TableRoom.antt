-- Room for what roots hold and for objects: what gaining, taking, letting go and losing of references change of it.
use Rattle.std.proofs.Common.{◌≡◌, ℕ, suc, ◌+◌, ◌≤◌, ◌<◌, Bool, true, false, cond, if◌then◌else◌, List, [], ◌∷◌, ◌++◌, length, filter, find, Option, Some, refl, sym, ap, ◌∙◌, arith}
use Rattle.std.specs.Ordering.{eq_by_cmp}
use Rattle.std.specs.declared.cmp.Ordering.{Ordering}
use Rattle.std.specs.Cmp.{Equal-is}
use Rattle.std.specs.FinMap.{IsAntisymmetric}
use Rattle.std.proofs.lemmas.Bool.{ltb-true}
use Rattle.message_model.specs.Messages.{Message}
use Rattle.uno_model.specs.Values.{Ref, null, own, peer, Plain}
use Rattle.table_model.specs.Bags.{how_many, how_often, one_more, one_less}
use Rattle.table_model.specs.Holdings.{Hold, hold, hold_cmp, Holdings, holds, outlasts}
use Rattle.table_model.specs.Pair.{pair}
use Rattle.table_model.specs.declared.holder.Holder.{Holder}
use Rattle.table_model.specs.declared.holder.Holder.TheVariants as holder
use Rattle.table_model.proofs.BagLaws.{how_many_one_more}
use Rattle.table_model.proofs.HoldLaws.{same_hold}
use Rattle.bridge_model.specs.Objects.{makes_object, makes_default, defaults_of, makes_all}
use Rattle.bridge_model.specs.References.{says, releases, gains, gains_all, is_held, takes, takes_all, loses, loses_all, stays, gives_back, holds_ref, lets_go, lets_go_all, refs_of_values}
use Rattle.bridge_model.specs.Settings.{Setting}
use Rattle.bridge_model.specs.Sides.{Object, Tables}
use Rattle.bridge_laws.specs.Room.{is_root_holder, root_holds}

-- ---- bags

-- one less of an item leaves no more that pass a test
less_many : {X : Type 0} (cmp : X → X → Ordering) (test : X → Bool) (k : X) (ys : List X) → how_many test (one_less cmp k ys) ≤ how_many test ys
less_many cmp test k [] = omega arith
less_many cmp test k (y ∷ ys) =
    let rest = less_many cmp test k ys in
    elim (eq_by_cmp cmp k y) as (λ b. how_many test (cond b ys (y ∷ one_less cmp k ys)) ≤ cond (test y) 1 0 + how_many test ys) [ true ↦ omega arith | false ↦ omega arith ]

-- where the item is there and passes, it leaves one fewer
gone_many : {X : Type 0} (cmp : X → X → Ordering) → IsAntisymmetric cmp → (test : X → Bool) (k : X) (ys : List X) → 0 < how_often cmp k ys
    → how_many test ys ≡ cond (test k) 1 0 + how_many test (one_less cmp k ys)
gone_many cmp same test k [] there = absurd (omega arith)
gone_many cmp same test k (y ∷ ys) there =
    elim (eq_by_cmp cmp k y) as (λ b. eq_by_cmp cmp k y ≡ b → 0 < cond b 1 0 + how_often cmp k ys → how_many test (y ∷ ys) ≡ cond (test k) 1 0 + how_many test (cond b ys (y ∷ one_less cmp k ys))) [
      | true ↦ λ is _. ap (λ x. cond (test x) 1 0 + how_many test ys) (sym (same k y ((Equal-is _).0 is)))
      | false ↦ λ is there. let rest = gone_many cmp same test k ys (omega arith) in omega arith
    ] refl there

-- a part of a list has no more that pass
part_many : {X : Type 0} (keeps test : X → Bool) (xs : List X) → how_many test (filter keeps xs) ≤ how_many test xs
part_many keeps test [] = omega arith
part_many keeps test (x ∷ xs) =
    let rest = part_many keeps test xs in
    elim (keeps x) as (λ b. how_many test (cond b (x ∷ filter keeps xs) (filter keeps xs)) ≤ cond (test x) 1 0 + how_many test xs) [ true ↦ omega arith | false ↦ omega arith ]

-- ---- what is held

-- a root holds one more
held_more : (k : Hold) (hs : Holdings) → root_holds (one_more hold_cmp k hs) ≡ cond (is_root_holder k.holder) 1 0 + root_holds hs
unfolding root_holds
held_more k hs = how_many_one_more hold_cmp (λ h. is_root_holder h.holder) k hs

held_less : (k : Hold) (hs : Holdings) → root_holds (one_less hold_cmp k hs) ≤ root_holds hs
unfolding root_holds
held_less k hs = less_many hold_cmp (λ h. is_root_holder h.holder) k hs

held_gone : (k : Hold) (hs : Holdings) → holds k hs ≡ true → is_root_holder k.holder ≡ true → suc (root_holds (one_less hold_cmp k hs)) ≤ root_holds hs
unfolding root_holds
held_gone k hs there root =
    let one = gone_many hold_cmp same_hold (λ h. is_root_holder h.holder) k hs (ltb-true 0 (how_often hold_cmp k hs) there) in
    let counts : ◌≡◌ {A = ℕ} (cond (is_root_holder k.holder) 1 0) 1 = ap (λ b. cond b 1 0) root in omega arith

pub held_outlasts : (hs : Holdings) → root_holds (filter outlasts hs) ≤ root_holds hs
unfolding root_holds
held_outlasts hs = part_many outlasts (λ h. is_root_holder h.holder) hs

-- ---- room

-- what of tables room is needed for: what roots hold, and objects
unfoldable pub kept : Tables → ℕ
kept t = root_holds t.holdings + length t.objects

pub kept_by : (t u : Tables) → u.objects ≡ t.objects → root_holds u.holdings ≤ root_holds t.holdings → kept u ≤ kept t
unfolding kept
kept_by t u same few = let alike : length u.objects ≡ length t.objects = ap length same in omega arith

pub says_kept : (g : Setting) (m : Message) (t : Tables) → kept (says g m t) ≡ kept t
unfolding says kept
says_kept g m t = refl

-- the references that a holder gains count where it is a root
abbrev pub for_root : Holder → ℕ → ℕ
for_root h n = if is_root_holder h then n else 0

pub gains_kept : (h : Holder) (r : Ref) (t : Tables) → kept (gains h r t) ≤ for_root h 1 + kept t
unfolding kept
gains_kept h null t = omega arith
gains_kept h (own oid face) t = let more = held_more (hold h (pair oid face)) t.holdings in omega arith
gains_kept h (peer oid face) t = let more = held_more (hold h (pair oid face)) t.holdings in omega arith

one_more_for : (b : Bool) (n : ℕ) → (if b then suc n else 0) ≡ (if b then n else 0) + (if b then 1 else 0)
one_more_for true n = omega arith
one_more_for false n = refl

pub gains_all_kept : (h : Holder) (rs : List Ref) (t : Tables) → kept (gains_all h rs t) ≤ for_root h (length rs) + kept t
unfolding gains_all
gains_all_kept h [] t = omega arith
gains_all_kept h (r ∷ rs) t =
    let rest = gains_all_kept h rs (gains h r t) in
    let one = gains_kept h r t in
    let more = one_more_for (is_root_holder h) (length rs) in omega arith

gains_least : (h : Holder) (r : Ref) (t : Tables) → kept t ≤ kept (gains h r t)
unfolding kept
gains_least h null t = omega arith
gains_least h (own oid face) t = let more = held_more (hold h (pair oid face)) t.holdings in omega arith
gains_least h (peer oid face) t = let more = held_more (hold h (pair oid face)) t.holdings in omega arith

gains_all_least : (h : Holder) (rs : List Ref) (t : Tables) → kept t ≤ kept (gains_all h rs t)
unfolding gains_all
gains_all_least h [] t = omega arith
gains_all_least h (r ∷ rs) t = let rest = gains_all_least h rs (gains h r t) in let one = gains_least h r t in omega arith

-- ---- taking

released_kept : (g : Setting) (b : Bool) (oid face : List ℕ) (t : Tables) → kept (if b then releases g oid face t else t) ≡ kept t
released_kept g true oid face t = says_kept g _ t
released_kept g false oid face t = refl

takes_kept : (g : Setting) (h : Holder) (r : Ref) (t : Tables) → kept (takes g h r t) ≤ for_root h 1 + kept t
takes_kept g h null t = omega arith
takes_kept g h (own oid face) t = gains_kept h (own oid face) t
takes_kept g h (peer oid face) t =
    let said = released_kept g (is_held oid face t) oid face t in
    let one = gains_kept h (peer oid face) (if is_held oid face t then releases g oid face t else t) in omega arith

pub takes_all_kept : (g : Setting) (h : Holder) (rs : List Ref) (t : Tables) → kept (takes_all g h rs t) ≤ for_root h (length rs) + kept t
unfolding takes_all
takes_all_kept g h [] t = omega arith
takes_all_kept g h (r ∷ rs) t =
    let rest = takes_all_kept g h rs (takes g h r t) in
    let one = takes_kept g h r t in
    let more = one_more_for (is_root_holder h) (length rs) in omega arith

-- ---- letting go

pub loses_kept : (h : Holder) (r : Ref) (t : Tables) → kept (loses h r t) ≤ kept t
unfolding kept
loses_kept h null t = omega arith
loses_kept h (own oid face) t = let less = held_less (hold h (pair oid face)) t.holdings in omega arith
loses_kept h (peer oid face) t = let less = held_less (hold h (pair oid face)) t.holdings in omega arith

pub loses_all_kept : (h : Holder) (rs : List Ref) (t : Tables) → kept (loses_all h rs t) ≤ kept t
unfolding loses_all
loses_all_kept h [] t = omega arith
loses_all_kept h (r ∷ rs) t = let rest = loses_all_kept h rs (loses h r t) in let one = loses_kept h r t in omega arith

-- what a root holds and loses is one less
pub loses_gone : (h : Holder) (r : Ref) (t : Tables) → is_root_holder h ≡ true → holds_ref h r t ≡ true → suc (kept (loses h r t)) ≤ kept t
unfolding kept
loses_gone h null t root there = absurd (cc)
loses_gone h (own oid face) t root there = let less = held_gone (hold h (pair oid face)) t.holdings there root in omega arith
loses_gone h (peer oid face) t root there = let less = held_gone (hold h (pair oid face)) t.holdings there root in omega arith

unless_kept : (g : Setting) (b : Bool) (oid face : List ℕ) (t : Tables) → kept (if b then t else releases g oid face t) ≡ kept t
unless_kept g true oid face t = refl
unless_kept g false oid face t = says_kept g _ t

gives_back_kept : (g : Setting) (r : Ref) (t : Tables) → kept (gives_back g r t) ≡ kept t
gives_back_kept g null t = refl
gives_back_kept g (own oid face) t = refl
gives_back_kept g (peer oid face) t = unless_kept g (stays g oid face t) oid face t

kept_if : (b : Bool) (t u w : Tables) → kept u ≤ kept t → kept w ≤ kept t → kept (if b then u else w) ≤ kept t
kept_if true t u w p q = p
kept_if false t u w p q = q

lets_go_kept : (g : Setting) (h : Holder) (r : Ref) (t : Tables) → kept (lets_go g h r t) ≤ kept t
lets_go_kept g h r t =
    kept_if (holds_ref h r t) t (gives_back g r (loses h r t)) t
    (let less = loses_kept h r t in let back = gives_back_kept g r (loses h r t) in omega arith)
    (omega arith)

pub lets_go_all_kept : (g : Setting) (h : Holder) (rs : List Ref) (t : Tables) → kept (lets_go_all g h rs t) ≤ kept t
unfolding lets_go_all
lets_go_all_kept g h [] t = omega arith
lets_go_all_kept g h (r ∷ rs) t = let rest = lets_go_all_kept g h rs (lets_go g h r t) in let one = lets_go_kept g h r t in omega arith

gone_if : (b : Bool) (t u : Tables) → b ≡ true → suc (kept u) ≤ kept t → suc (kept (if b then u else t)) ≤ kept t
gone_if true t u is less = less
gone_if false t u is less = absurd (cc)

-- so is what it holds and lets go
pub lets_go_gone : (g : Setting) (h : Holder) (r : Ref) (t : Tables) → is_root_holder h ≡ true → holds_ref h r t ≡ true → suc (kept (lets_go g h r t)) ≤ kept t
lets_go_gone g h r t root there =
    gone_if (holds_ref h r t) t (gives_back g r (loses h r t)) there
    (let less = loses_gone h r t root there in let back = gives_back_kept g r (loses h r t) in omega arith)

-- ---- objects

pushed_length : {X : Type 0} (x : X) (xs : List X) → length (xs ++ x ∷ []) ≡ suc (length xs)
pushed_length x [] = refl
pushed_length x (y ∷ ys) = ap (λ n. suc n) (pushed_length x ys)

object_pushed : (o : Object) (n : ℕ) (t : Tables) → kept (record t { objects = t.objects ++ o ∷ []; objects_made = n }) ≡ suc (kept t)
unfolding kept
object_pushed o n t = let longer = pushed_length o t.objects in omega arith

-- an object more
pub makes_object_kept : (behaviour : ℕ) (fields : List Plain) (t : Tables) → kept (makes_object behaviour fields t) ≡ 1 + kept t
unfolding makes_object
makes_object_kept behaviour fields t =
    let made : Tables = record t { objects = t.objects ++ record { number = suc t.objects_made; behaviour = behaviour; fields = fields } ∷ []; objects_made = suc t.objects_made } in
    let pushed = object_pushed (record { number = suc t.objects_made; behaviour = behaviour; fields = fields }) (suc t.objects_made) t in
    let most = gains_all_kept (holder.Object (suc t.objects_made)) (refs_of_values fields) made in
    let least = gains_all_least (holder.Object (suc t.objects_made)) (refs_of_values fields) made in omega arith

pub makes_default_kept : (g : Setting) (behaviour : ℕ) (t : Tables) → kept (makes_default g behaviour t) ≡ 1 + kept t
makes_default_kept g behaviour t = makes_object_kept behaviour (defaults_of g behaviour) t

pub makes_all_kept : (g : Setting) (behaviours : List ℕ) (t : Tables) → kept (makes_all g behaviours t) ≡ length behaviours + kept t
unfolding makes_all
makes_all_kept g [] t = omega arith
makes_all_kept g (behaviour ∷ rest) t =
    let more = makes_all_kept g rest (makes_default g behaviour t) in let one = makes_default_kept g behaviour t in omega arith

few_left : {X : Type 0} (keeps : X → Bool) (xs : List X) → length (filter keeps xs) ≤ length xs
few_left keeps [] = omega arith
few_left keeps (x ∷ xs) =
    let rest = few_left keeps xs in
    elim (keeps x) as (λ b. length (cond b (x ∷ filter keeps xs) (filter keeps xs)) ≤ suc (length xs)) [ true ↦ omega arith | false ↦ omega arith ]

left_step : {X : Type 0} (found keeps : Bool) (x y : X) (rest : Option X) (left xs : List X) → (x ≡ y → keeps ≡ false) → length left ≤ length xs
    → (rest ≡ Some y → suc (length left) ≤ length xs) → (if found then Some x else rest) ≡ Some y → suc (length (if keeps then x ∷ left else left)) ≤ suc (length xs)
left_step true true x y rest left xs out few more is = let bad : true ≡ false = out (cc) in absurd (cc)
left_step true false x y rest left xs out few more is = omega arith
left_step false true x y rest left xs out few more is = let behind = more is in omega arith
left_step false false x y rest left xs out few more is = let behind = more is in omega arith

-- without an item that was found and does not pass, fewer are left
pub fewer_left : {X : Type 0} (test keeps : X → Bool) (y : X) (xs : List X) → find test xs ≡ Some y → keeps y ≡ false → suc (length (filter keeps xs)) ≤ length xs
fewer_left test keeps y [] is out = absurd (cc)
fewer_left test keeps y (x ∷ xs) is out =
    left_step (test x) (keeps x) x y (find test xs) (filter keeps xs) xs (λ same. ap keeps same ∙ out) (few_left keeps xs) (λ there. fewer_left test keeps y xs there out) is
