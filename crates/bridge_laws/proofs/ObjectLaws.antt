-- What objects have is covered: when they are made, when their fields change, when they go, and when the bridge ends.
use Rattle.std.proofs.Common.{◌≡◌, ℕ, suc, ◌+◌, ◌≤◌, Bool, true, false, not, ◌&&◌, ◌==◌, if◌then◌else◌, List, [], ◌∷◌, ◌++◌, filter, find, Option, None, Some, refl, sym, ap, ◌∙◌, arith, eqb-true, eq-eqb}
use Rattle.std.specs.Ordering.{eq_by_cmp}
use Rattle.std.specs.Cmp.{Equal-is}
use Rattle.uno_model.specs.Values.{Ref, null, own, peer, Plain, refs}
use Rattle.table_model.specs.Bags.{how_often}
use Rattle.table_model.specs.Holdings.{Hold, hold, hold_cmp, holder_cmp, Holdings, outlasts}
use Rattle.table_model.specs.Pair.{pair, is_pair}
use Rattle.table_model.specs.declared.holder.Holder.{Holder}
use Rattle.table_model.specs.declared.holder.Holder.TheVariants as holder
use Rattle.table_model.proofs.HoldLaws.{same_hold, is_hold_by_parts}
use Rattle.plan_model.specs.Evaluation.{value_under}
use Rattle.plan_model.specs.Holdings.{put, refs_under}
use Rattle.bridge_model.specs.Ends.{tables_at_end}
use Rattle.bridge_model.specs.Going.{reaps_object}
use Rattle.bridge_model.specs.Objects.{object_numbered, fields_of, variables_of, makes_object, makes_default, defaults_of, makes_all, field_values, with_fields, may_go, lowest, without_object}
use Rattle.bridge_model.specs.References.{refs_of_values}
use Rattle.bridge_model.specs.Settings.{Setting}
use Rattle.bridge_model.specs.Sides.{Object, Tables}
use Rattle.bridge_model.specs.declared.cause.Cause.{Cause}
use Rattle.bridge_laws.specs.Counting.{total, one_if}
use Rattle.bridge_laws.specs.Covering.{object_holds}
use Rattle.bridge_laws.proofs.OccurrenceLaws.{times, is_hold, ref_owes, refs_owe, objects_have, Covers, refs_owe_is, gains_all_objects, gains_all_times, lets_go_all_covers, loses_all_covers}
use Rattle.bridge_laws.proofs.Sums.{total_push, total_none, total_gone}
use Rattle.bridge_laws.proofs.VariableLaws.{put_owes, field_values_owe, as_variables_owe, values_none, under_none}

-- ---- lists of objects

-- how often an object has an occurrence
abbrev pub object_has : Hold → Object → ℕ
object_has h o = refs_owe h (holder.Object o.number) (refs_of_values o.fields)

pub objects_more : (h : Hold) (o : Object) (os : List Object) → objects_have h (o ∷ os) ≡ object_has h o + objects_have h os
unfolding objects_have total
objects_more h o os = ap (λ n. n + objects_have h os) (refs_owe_is h (holder.Object o.number) (refs_of_values o.fields))

pub objects_push : (h : Hold) (o : Object) (os : List Object) → objects_have h (os ++ o ∷ []) ≡ objects_have h os + object_has h o
unfolding objects_have
objects_push h o os =
    total_push (λ o. how_often hold_cmp h (object_holds o)) os o
    ∙ ap (λ n. objects_have h os + n) (refs_owe_is h (holder.Object o.number) (refs_of_values o.fields))

pub objects_none : (h : Hold) → objects_have h [] ≡ 0
unfolding objects_have total
objects_none h = refl

-- ---- making

made_step : (h : Hold) (n held before : ℕ) (o : Object) (os after : List Object) → after ≡ os ++ o ∷ [] → held ≡ object_has h o + before → n + objects_have h os ≤ before
    → n + objects_have h after ≤ held
made_step h n held before o os after same is fine =
    let alike : objects_have h after ≡ objects_have h (os ++ o ∷ []) = ap (objects_have h) same in let more = objects_push h o os in omega arith

pub made_object : ℕ → List Plain → Tables → Object
made_object behaviour fields t = record { number = suc t.objects_made; behaviour = behaviour; fields = fields }

pub makes_covers : (behaviour : ℕ) (fields : List Plain) (h : Hold) (n : ℕ) (t : Tables) → Covers h n t → Covers h n (makes_object behaviour fields t)
unfolding makes_object made_object
makes_covers behaviour fields h n t fine =
    made_step h n
    (times h (makes_object behaviour fields t).holdings) (times h t.holdings)
    (made_object behaviour fields t) t.objects (makes_object behaviour fields t).objects
    (gains_all_objects (holder.Object (suc t.objects_made)) (refs_of_values fields) (record t { objects = t.objects ++ made_object behaviour fields t ∷ []; objects_made = suc t.objects_made }))
    (gains_all_times (holder.Object (suc t.objects_made)) (refs_of_values fields) h (record t { objects = t.objects ++ made_object behaviour fields t ∷ []; objects_made = suc t.objects_made }))
    fine

pub makes_all_covers : (g : Setting) (behaviours : List ℕ) (h : Hold) (n : ℕ) (t : Tables) → Covers h n t → Covers h n (makes_all g behaviours t)
unfolding makes_all
makes_all_covers g [] h n t fine = fine
makes_all_covers g (b ∷ bs) h n t fine = makes_all_covers g bs h n (makes_default g b t) (makes_covers b (defaults_of g b) h n t fine)

-- ---- fields

-- the fields of the object that is found
abbrev pub fields_in : Option Object → List Plain
fields_in None = []
fields_in (Some o) = o.fields

swap_step : (h : Hold) (n : ℕ) (b : Bool) (fields : List Plain) (o : Object) (os new : List Object) (found : Option Object) → (n == o.number) ≡ b
    → objects_have h new + refs_owe h (holder.Object n) (refs_of_values (fields_in found)) ≤ objects_have h os + refs_owe h (holder.Object n) (refs_of_values fields)
    → objects_have h (if b then record o { fields = fields } ∷ os else o ∷ new) + refs_owe h (holder.Object n) (refs_of_values (fields_in (if b then Some o else found)))
    ≤ objects_have h (o ∷ os) + refs_owe h (holder.Object n) (refs_of_values fields)
swap_step h n true fields o os new found is rest =
    let same : n ≡ o.number = eqb-true n o.number is in
    let left : refs_owe h (holder.Object n) (refs_of_values o.fields) ≡ refs_owe h (holder.Object o.number) (refs_of_values o.fields) =
    ap (λ k. refs_owe h (holder.Object k) (refs_of_values o.fields)) same in
    let right : refs_owe h (holder.Object n) (refs_of_values fields) ≡ refs_owe h (holder.Object o.number) (refs_of_values fields) =
    ap (λ k. refs_owe h (holder.Object k) (refs_of_values fields)) same in
    let before = objects_more h o os in
    let after = objects_more h (record o { fields = fields }) os in omega arith
swap_step h n false fields o os new found is rest = let before = objects_more h o os in let after = objects_more h o new in omega arith

-- an object gets other fields
swap_owes : (h : Hold) (n : ℕ) (fields : List Plain) (os : List Object)
    → objects_have h (with_fields n fields os) + refs_owe h (holder.Object n) (refs_of_values (fields_in (object_numbered n os)))
    ≤ objects_have h os + refs_owe h (holder.Object n) (refs_of_values fields)
unfolding with_fields object_numbered
swap_owes h n fields [] = let nothing = values_none (ref_owes h (holder.Object n)) in omega arith
swap_owes h n fields (o ∷ os) =
    swap_step h n (n == o.number) fields o os (with_fields n fields os) (find (λ o. n == o.number) os) refl (swap_owes h n fields os)

pub variables_owe : (f : Ref → ℕ) (g : Setting) (found : Option Object) → total f (refs_under (variables_of g found)) ≤ total f (refs_of_values (fields_in found))
variables_owe f g None = let left = under_none f in omega arith
variables_owe f g (Some o) = as_variables_owe f (fields_of g o.behaviour) o.fields

-- a field gets another value: the object has it, and what it replaces is let go
pub field_owes : (g : Setting) (h : Hold) (n : ℕ) (name : List ℕ) (x : Plain) (os : List Object)
    → objects_have h (with_fields n (field_values (put name x (variables_of g (object_numbered n os)))) os)
    + refs_owe h (holder.Object n) (refs (value_under name (variables_of g (object_numbered n os))))
    ≤ objects_have h os + refs_owe h (holder.Object n) (refs x)
field_owes g h n name x os =
    let f : Ref → ℕ = ref_owes h (holder.Object n) in
    let swapped = swap_owes h n (field_values (put name x (variables_of g (object_numbered n os)))) os in
    let values = field_values_owe (ref_owes h (holder.Object n)) (put name x (variables_of g (object_numbered n os))) in
    let placed = put_owes (ref_owes h (holder.Object n)) name x (variables_of g (object_numbered n os)) in
    let fields = variables_owe (ref_owes h (holder.Object n)) g (object_numbered n os) in omega arith

-- ---- going

-- an object that goes is one object less
object_gone : (h : Hold) (test : Object → Bool) (o : Object) (os : List Object) → find test os ≡ Some o → object_has h o + objects_have h (without_object o.number os) ≤ objects_have h os
unfolding objects_have without_object
object_gone h test o os found =
    let one = refs_owe_is h (holder.Object o.number) (refs_of_values o.fields) in
    let gone = total_gone (λ o. how_often hold_cmp h (object_holds o)) test (λ k. not (o.number == k.number)) o os found (ap not (eq-eqb o.number o.number refl)) in omega arith

reaped_by : (g : Setting) (standing : Bool) (o : Object) (h : Hold) (n : ℕ) (t : Tables)
    → Covers h (n + object_has h o) (record t { objects = without_object o.number t.objects }) → Covers h n (reaps_object g standing o t)
reaped_by g true o h n t fine = lets_go_all_covers g (holder.Object o.number) (refs_of_values o.fields) h n (record t { objects = without_object o.number t.objects }) fine
reaped_by g false o h n t fine = loses_all_covers (holder.Object o.number) (refs_of_values o.fields) h n (record t { objects = without_object o.number t.objects }) fine

pub reaps_covers : (g : Setting) (standing : Bool) (o : Object) (h : Hold) (n : ℕ) (t : Tables) → lowest g t ≡ Some o → Covers h n t → Covers h n (reaps_object g standing o t)
unfolding lowest
reaps_covers g standing o h n t found fine =
    reaped_by g standing o h n t (let gone = object_gone h (may_go g t) o t.objects found in omega arith)

-- ---- other holders

-- an occurrence with another holder
pub apart_owes : (h : Hold) (who : Holder) (r : Ref) → eq_by_cmp holder_cmp h.holder who ≡ false → ref_owes h who r ≡ 0
unfolding ref_owes is_hold
apart_owes h who null other = refl
apart_owes h who (own oid face) other = ap one_if (is_hold_by_parts h (hold who (pair oid face)) ∙ ap (λ b. b && is_pair h.pair (pair oid face)) other)
apart_owes h who (peer oid face) other = ap one_if (is_hold_by_parts h (hold who (pair oid face)) ∙ ap (λ b. b && is_pair h.pair (pair oid face)) other)

pub all_apart : (h : Hold) (who : Holder) (rs : List Ref) → eq_by_cmp holder_cmp h.holder who ≡ false → refs_owe h who rs ≡ 0
all_apart h who rs other = total_none (ref_owes h who) (λ r. apart_owes h who r other) rs

objects_apart : (h : Hold) → ((n : ℕ) → eq_by_cmp holder_cmp h.holder (holder.Object n) ≡ false) → (os : List Object) → objects_have h os ≡ 0
objects_apart h other [] = objects_none h
objects_apart h other (o ∷ os) =
    let here = all_apart h (holder.Object o.number) (refs_of_values o.fields) (other o.number) in
    let more = objects_more h o os in let rest = objects_apart h other os in omega arith

-- frames have nothing that an object has
pub frame_objects : (n : ℕ) (h : Hold) → h.holder ≡ holder.Frame n → (os : List Object) → objects_have h os ≡ 0
frame_objects n h is os = objects_apart h (λ m. ap (λ who. eq_by_cmp holder_cmp who (holder.Object m)) is) os

pub root_objects : (n : ℕ) (h : Hold) → h.holder ≡ holder.Root n → (os : List Object) → objects_have h os ≡ 0
root_objects n h is os = objects_apart h (λ m. ap (λ who. eq_by_cmp holder_cmp who (holder.Object m)) is) os

-- ---- the end

lasts_step : (h k : Hold) (kept hs : Holdings) → outlasts h ≡ true → times h hs ≤ times h kept → (same lasts : Bool) → is_hold h k ≡ same → outlasts k ≡ lasts
    → times h (k ∷ hs) ≤ times h (if lasts then k ∷ kept else kept)
unfolding times is_hold
lasts_step h k kept hs last rest same true one is = omega arith
lasts_step h k kept hs last rest true false one is =
    let alike : h ≡ k = same_hold h k ((Equal-is _).0 one) in let bad : outlasts k ≡ true = sym (ap outlasts alike) ∙ last in absurd (cc)
lasts_step h k kept hs last rest false false one is = rw one (omega arith)

-- what outlasts the end is held as often
outlasting : (h : Hold) → outlasts h ≡ true → (hs : Holdings) → times h hs ≤ times h (filter outlasts hs)
unfolding times
outlasting h last [] = omega arith
outlasting h last (k ∷ hs) = lasts_step h k (filter outlasts hs) hs last (outlasting h last hs) (is_hold h k) (outlasts k) refl refl

ended_by : (h : Hold) (n : ℕ) (who : Holder) (why : Cause) (t : Tables) → h.holder ≡ who → Covers h n t → Covers h 0 (tables_at_end why t)
ended_by h n (holder.Frame k) why t is fine = let nothing = frame_objects k h is t.objects in omega arith
ended_by h n (holder.Object k) why t is fine = let held = outlasting h (ap (λ who. outlasts (record { holder = who; pair = h.pair })) is) t.holdings in omega arith
ended_by h n (holder.Root k) why t is fine = let held = outlasting h (ap (λ who. outlasts (record { holder = who; pair = h.pair })) is) t.holdings in omega arith

pub end_covers : (why : Cause) (h : Hold) (n : ℕ) (t : Tables) → Covers h n t → Covers h 0 (tables_at_end why t)
end_covers why h n t fine = ended_by h n h.holder why t refl fine
