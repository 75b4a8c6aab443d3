-- Identities that this end gave: those of objects that live, and the answer to function 0, which names only these.
use Rattle.std.proofs.Common.{◌≡◌, ℕ, ◌+◌, Bool, true, false, not, ◌&&◌, ◌||◌, cond, ◌==◌, if◌then◌else◌, List, [], ◌∷◌, ◌++◌, length, find, is_some, take, Option, None, Some, refl, sym, ap, eqb-true, ◌∙◌, arith}
use Rattle.std.proofs.lemmas.Slice.Eq.{bytes_eq-Decides}
use Rattle.std.specs.List.{list_any}
use Rattle.std.proofs.Math.Seq.{take-append_seam}
use Rattle.std.specs.Fmt.{decimal}
use Rattle.std.specs.Str.{bytes_eq}
use Rattle.uno_model.specs.Entities.{Entity}
use Rattle.uno_model.specs.Kinds.{Kind}
use Rattle.uno_model.specs.Kinds as kd
use Rattle.uno_model.specs.Values.{Ref, null, own, peer, Plain, refs}
use Rattle.uno_model.specs.Values as v
use Rattle.plan_model.specs.Holdings.{query_answer, no_object}
use Rattle.plan_model.specs.Plans.{supports}
use Rattle.bridge_model.specs.Objects.{object_named, number_of, faces_at, object_answer, answer_of_number}
use Rattle.bridge_model.specs.Settings.{Setting, prefix, own_oid, is_own}
use Rattle.bridge_model.specs.Sides.{Object, Tables}
use Rattle.bridge_laws.specs.Counting.{total, one_if}
use Rattle.bridge_laws.specs.Living.{lives}
use Rattle.bridge_laws.proofs.LivingTableLaws.{AliveIn}
use Rattle.bridge_laws.proofs.StrayLaws.{is_stray, strays}

-- ---- identities

-- the identities that this end gives are its own
pub given_own : (g : Setting) (n : ℕ) → is_own g (own_oid g n) ≡ true
unfolding is_own own_oid
given_own g n = (bytes_eq-Decides (take (length (prefix g)) (prefix g ++ decimal n)) (prefix g)).1 (take-append_seam (prefix g) (decimal n))

named_step : (g : Setting) (oid : List ℕ) (b : Bool) (o : Object) (rest : Option Object) → bytes_eq oid (own_oid g o.number) ≡ b
    → (is_some rest ≡ true → own_oid g (number_of rest) ≡ oid) → is_some (cond b (Some o) rest) ≡ true → own_oid g (number_of (cond b (Some o) rest)) ≡ oid
named_step g oid true o rest is more found = sym ((bytes_eq-Decides oid (own_oid g o.number)).0 is)
named_step g oid false o rest is more found = more found

-- an object that is found by its identity has it
pub named_oid : (g : Setting) (oid : List ℕ) (os : List Object) → lives g os oid ≡ true → own_oid g (number_of (object_named g oid os)) ≡ oid
unfolding object_named
named_oid g oid [] found = absurd (cc)
named_oid g oid (o ∷ os) found = named_step g oid (bytes_eq oid (own_oid g o.number)) o (find (λ o. bytes_eq oid (own_oid g o.number)) os) refl (λ there. named_oid g oid os there) found

alive_step : (own live : Bool) → one_if (not own) + one_if (own && not live) ≡ 0 → (own ≡ true) × (live ≡ true)
alive_step true true none = (refl, refl)
alive_step true false none = absurd (omega arith)
alive_step false live none = absurd (omega arith)

-- a reference to an own object that is none of the stray ones
pub own_alive : (g : Setting) (live : List ℕ → Bool) (oid face : List ℕ) → strays g live (own oid face) ≡ 0 → (is_own g oid ≡ true) × (live oid ≡ true)
unfolding strays is_stray
own_alive g live oid face none = alive_step (is_own g oid) (live oid) none

unstray_step : (own live : Bool) → own ≡ true → live ≡ true → one_if (not own) + one_if (own && not live) ≡ 0
unstray_step true true p q = refl
unstray_step true false p q = absurd (cc)
unstray_step false live p q = absurd (cc)

pub alive_own : (g : Setting) (live : List ℕ → Bool) (oid face : List ℕ) → is_own g oid ≡ true → live oid ≡ true → strays g live (own oid face) ≡ 0
unfolding strays is_stray
alive_own g live oid face given found = unstray_step (is_own g oid) (live oid) given found

there_step : (g : Setting) (n : ℕ) (b : Bool) (o : Object) (any : Bool) (rest : Option Object) → (n == o.number) ≡ b → (any ≡ true → is_some rest ≡ true) → (b || any) ≡ true
    → is_some (cond (bytes_eq (own_oid g n) (own_oid g o.number)) (Some o) rest) ≡ true
there_step g n true o any rest is more found =
    ap (λ c. is_some (cond c (Some o) rest)) ((bytes_eq-Decides (own_oid g n) (own_oid g o.number)).1 (ap (own_oid g) (eqb-true n o.number is)))
there_step g n false o any rest is more found =
    let there = more found in
    elim (bytes_eq (own_oid g n) (own_oid g o.number)) as (λ c. is_some (cond c (Some o) rest) ≡ true) [ true ↦ refl | false ↦ there ]

-- an object whose number is there lives under the identity of that number
pub there_lives : (g : Setting) (n : ℕ) (os : List Object) → list_any (λ o. n == o.number) os ≡ true → lives g os (own_oid g n) ≡ true
unfolding object_named
there_lives g n [] is = absurd (cc)
there_lives g n (o ∷ os) is =
    there_step g n (n == o.number) o (list_any (λ o. n == o.number) os) (find (λ o. bytes_eq (own_oid g n) (own_oid g o.number)) os) refl (there_lives g n os) is

-- ---- the answer to function 0

pub nothing_strays : (f : Ref → ℕ) → total f (refs no_object) ≡ 0
unfolding refs total
nothing_strays f = refl

answer_if : (f : Ref → ℕ) (b : Bool) (oid wanted : List ℕ) → (b ≡ true → f (own oid wanted) ≡ 0)
    → total f (refs (if b then v.any (kd.interface wanted) (v.ref (own oid wanted)) else no_object)) ≡ 0
unfolding refs total
answer_if f true oid wanted fine = let one = fine refl in omega arith
answer_if f false oid wanted fine = refl

pub query_strays : (f : Ref → ℕ) (reg : List Entity) (faces : List (List ℕ)) (oid : List ℕ) (k : Kind) → ((wanted : List ℕ) → supports reg faces wanted ≡ true → f (own oid wanted) ≡ 0)
    → total f (refs (query_answer reg faces oid k)) ≡ 0
unfolding query_answer
query_strays f reg faces oid (kd.interface wanted) fine = answer_if f (supports reg faces wanted) oid wanted (fine wanted)
query_strays f reg faces oid k fine = nothing_strays f

no_faces : (reg : List Entity) (wanted : List ℕ) → supports reg [] wanted ≡ false
unfolding supports
no_faces reg wanted = refl

answer_by : (g : Setting) (live : List ℕ → Bool) (oid : List ℕ) (k : Kind) (o : Option Object) → is_own g oid ≡ true → (is_some o ≡ true → live oid ≡ true)
    → total (strays g live) (refs (query_answer g.registry (faces_at g o) oid k)) ≡ 0
unfolding faces_at
answer_by g live oid k None given found = query_strays (strays g live) g.registry [] oid k (λ wanted is. let bad = no_faces g.registry wanted in absurd (cc))
answer_by g live oid k (Some o) given found =
    query_strays (strays g live) g.registry (faces_at g (Some o)) oid k (λ wanted is. alive_own g live oid wanted given (found refl))

-- an own object that answers lives
pub object_answer_lives : (g : Setting) (m : ℕ) (live : List ℕ → Bool) (oid : List ℕ) (k : Kind) (t : Tables) → is_own g oid ≡ true → AliveIn g m live t
    → total (strays g live) (refs (object_answer g oid k t.objects)) ≡ 0
unfolding object_answer
object_answer_lives g m live oid k t given alive = answer_by g live oid k (object_named g oid t.objects) given (λ found. sym (alive.named oid) ∙ found)

pub number_answer_lives : (g : Setting) (m : ℕ) (live : List ℕ → Bool) (k : Kind) (o : Option ℕ) (t : Tables) → AliveIn g m live t
    → total (strays g live) (refs (answer_of_number g k t.objects o)) ≡ 0
number_answer_lives g m live k None t alive = nothing_strays (strays g live)
number_answer_lives g m live k (Some n) t alive = object_answer_lives g m live (own_oid g n) k t (given_own g n) alive
