-- Own objects by their identities, what they answer, and which of them may go.
use Rattle.std.proofs.Common.{◌≡◌, ℕ, true, false, ◌==◌, ◌&&◌, not, if◌then◌else◌, cond, List, [], ◌∷◌, ◌++◌, length, Option, None, Some, option_map, unwrap_or, refl, sym, ap, ◌∙◌, arith, nat_lt}
use Rattle.std.proofs.lemmas.Bool.Decides.{nat_tests}
use Rattle.std.specs.Prelude.{IfOk, Result, Ok, Err, decimal}
use Rattle.std.specs.List.{find}
use Rattle.std.specs.Str.{bytes_eq}
use Rattle.uno_model.specs.Entities.{Entity}
use Rattle.uno_model.specs.Kinds.{Kind, interface_of}
use Rattle.uno_model.specs.Kinds as kd
use Rattle.uno_model.specs.Values.{Plain}
use Rattle.plan_model.specs.Holdings.{query_answer, no_object}
use Rattle.plan_model.specs.Plans.{faces_of, supports, exported, first_objects}
use Rattle.bridge_model.specs.Objects.{object_numbered, object_named, number_of, faces_at, object_supports, object_answer, name_answer, is_held_object, has_stub, answer_of_number}
use Rattle.bridge_model.specs.Objects as plain
use Rattle.bridge_model.specs.Settings.{Setting, prefix, own_oid}
use Rattle.bridge_model.specs.Sides.{Object, Tables}
use Rattle.bridge_objects.specs.Kept.{Kept, named, behaviour_of}
use Rattle.bridge_objects.specs.Kept as kept
use Rattle.uno_values.specs.Values.{plain_of}
use Rattle.uno_values.specs.declared.value.Value.{Value}
use Rattle.bridge_tables.specs.Answering.{any_of_own}
use Rattle.bridge_tables.specs.EndTables.{EndTables}

-- ---- which object an identity is

pub named_is : (g : Setting) (oid : List ℕ) (k : Kept) → k.prefix ≡ prefix g → named oid k ≡ object_named g oid k.objects
unfolding named object_named own_oid
named_is g oid k is = λ i. find (λ o. bytes_eq oid (is i ++ decimal o.number)) k.objects

pub number_shown : (x : Option Object) → unwrap_or (option_map (λ o. o.number) x) 0 ≡ number_of x
number_shown None = refl
number_shown (Some o) = refl

found_named : (oid front : List ℕ) (os : List Object) (o : Object) → find (λ x. bytes_eq oid (front ++ decimal x.number)) os ≡ Some o → bytes_eq oid (front ++ decimal o.number) ≡ true
found_named oid front [] o is = absurd (cc)
found_named oid front (x ∷ os) o is =
    elim (bytes_eq oid (front ++ decimal x.number)) as
    (λ b. bytes_eq oid (front ++ decimal x.number) ≡ b → cond b (Some x) (find (λ y. bytes_eq oid (front ++ decimal y.number)) os) ≡ Some o → bytes_eq oid (front ++ decimal o.number) ≡ true) [
      | true ↦ λ same found. let one : x ≡ o = cc in sym (ap (λ y. bytes_eq oid (front ++ decimal y.number)) one) ∙ same
      | false ↦ λ other found. found_named oid front os o found
    ] refl is

-- no object before it has its number
named_numbered : (oid front : List ℕ) (os : List Object) (o : Object) → find (λ x. bytes_eq oid (front ++ decimal x.number)) os ≡ Some o → find (λ x. o.number == x.number) os ≡ Some o
named_numbered oid front [] o is = absurd (cc)
named_numbered oid front (x ∷ os) o is =
    elim (bytes_eq oid (front ++ decimal x.number)) as
    (λ b. bytes_eq oid (front ++ decimal x.number) ≡ b → cond b (Some x) (find (λ y. bytes_eq oid (front ++ decimal y.number)) os) ≡ Some o
    → cond (o.number == x.number) (Some x) (find (λ y. o.number == y.number) os) ≡ Some o) [
      | true ↦ λ same found.
          let one : x ≡ o = cc in
          let number : o.number ≡ x.number = sym (ap (λ y. y.number) one) in
          let is_it : (o.number == x.number) ≡ true = grind (arith, nat_tests) in ap (λ b. cond b (Some x) (find (λ y. o.number == y.number) os)) is_it ∙ ap Some one
      | false ↦ λ other found.
          let differs : (o.number == x.number) ≡ false
          = elim (o.number == x.number) as (λ b. (o.number == x.number) ≡ b → b ≡ false) [
            | true ↦ λ same.
                let number : o.number ≡ x.number = grind (arith, nat_tests) in
                let both : true ≡ false = sym (found_named oid front os o found) ∙ ap (λ n. bytes_eq oid (front ++ decimal n)) number ∙ other in both
            | false ↦ λ same. refl
          ] refl in
          ap (λ b. cond b (Some x) (find (λ y. o.number == y.number) os)) differs ∙ named_numbered oid front os o found
    ] refl is

pub named_at : (g : Setting) (oid : List ℕ) (os : List Object) (o : Object) → object_named g oid os ≡ Some o → object_numbered o.number os ≡ Some o
unfolding object_named object_numbered own_oid
named_at g oid os o is = named_numbered oid (prefix g) os o is

-- what a look-up by the text tells of it
pub shown : (g : Setting) (oid text : List ℕ) (k : Kept) (e : EndTables) (r n : Option ℕ) → text ≡ oid → k.prefix ≡ e.prefix → k.objects ≡ e.tables.objects → e.prefix ≡ prefix g
    → r ≡ kept.number_of (named text k) → r ≡ n → kept.number_of (object_named g oid e.tables.objects) ≡ n
shown g oid text k e r n same front objects of is was =
    ap (λ os. kept.number_of (object_named g oid os)) (sym objects) ∙ ap kept.number_of (sym (named_is g oid k (front ∙ of))) ∙ ap (λ t. kept.number_of (named t k)) (sym same) ∙ sym is ∙ was

-- ---- what it supports

supports_none : (reg : List Entity) (wanted : List ℕ) → supports reg [] wanted ≡ false
unfolding supports
supports_none reg wanted = refl

pub none_supports : (g : Setting) (oid wanted : List ℕ) (os : List Object) → object_named g oid os ≡ None → object_supports g oid wanted os ≡ false
unfolding object_supports faces_at
none_supports g oid wanted os is = ap (λ x. supports g.registry (faces_at g x) wanted) is ∙ supports_none g.registry wanted

pub one_supports : (g : Setting) (oid wanted : List ℕ) (n b : ℕ) (x : Option Object) (os : List Object) → object_named g oid os ≡ x → kept.number_of x ≡ Some n → behaviour_of (object_numbered n os) ≡ Some b
    → object_supports g oid wanted os ≡ supports g.registry (faces_of g.plan b) wanted
unfolding object_supports faces_at
one_supports g oid wanted n b None os is number behaviour = absurd (cc)
one_supports g oid wanted n b (Some o) os is number behaviour =
    let one : o.number ≡ n = cc in
    let found : object_numbered n os ≡ Some o = ap (λ m. object_numbered m os) (sym one) ∙ named_at g oid os o is in
    let same : Some o.behaviour ≡ Some b = sym (ap behaviour_of found) ∙ behaviour in
    let it : o.behaviour ≡ b = cc in ap (λ y. supports g.registry (faces_at g y) wanted) is ∙ ap (λ m. supports g.registry (faces_of g.plan m) wanted) it

pub no_other : (g : Setting) (oid : List ℕ) (n : ℕ) (x : Option Object) (os : List Object) → object_named g oid os ≡ x → kept.number_of x ≡ Some n → object_numbered n os ≡ None → object_named g oid os ≡ None
no_other g oid n None os is number none = is
no_other g oid n (Some o) os is number none =
    let one : o.number ≡ n = cc in
    let found : object_numbered n os ≡ Some o = ap (λ m. object_numbered m os) (sym one) ∙ named_at g oid os o is in absurd (cc)

pub named_none : (x : Option Object) → kept.number_of x ≡ None → x ≡ None
named_none None is = refl
named_none (Some o) is = absurd (cc)

-- ---- what it answers

pub ok_as : {E : Type 0} {x y : Plain} (r : Result Value E) → x ≡ y → IfOk r (λ v. plain_of v ≡ x) → IfOk r (λ v. plain_of v ≡ y)
ok_as (Ok v) same is = is ∙ same
ok_as (Err e) same is = is

abbrev answer_of_face : List Entity → List (List ℕ) → List ℕ → Option (List ℕ) → Plain
answer_of_face reg faces oid None = no_object
answer_of_face reg faces oid (Some wanted) = if supports reg faces wanted then any_of_own oid wanted else no_object

answers_face : (reg : List Entity) (faces : List (List ℕ)) (oid : List ℕ) (k : Kind) → query_answer reg faces oid k ≡ answer_of_face reg faces oid (interface_of k)
unfolding query_answer
answers_face reg faces oid kd.void = refl
answers_face reg faces oid kd.char = refl
answers_face reg faces oid kd.boolean = refl
answers_face reg faces oid kd.byte = refl
answers_face reg faces oid kd.short = refl
answers_face reg faces oid kd.unsigned_short = refl
answers_face reg faces oid kd.long = refl
answers_face reg faces oid kd.unsigned_long = refl
answers_face reg faces oid kd.hyper = refl
answers_face reg faces oid kd.unsigned_hyper = refl
answers_face reg faces oid kd.str = refl
answers_face reg faces oid kd.kind = refl
answers_face reg faces oid kd.any = refl
answers_face reg faces oid (kd.enum name) = refl
answers_face reg faces oid (kd.struct name) = refl
answers_face reg faces oid (kd.exception name) = refl
answers_face reg faces oid (kd.interface name) = refl
answers_face reg faces oid (kd.sequence k) = refl

abbrev answer_of : Setting → List ℕ → List Object → Option (List ℕ) → Plain
answer_of g oid os face = answer_of_face g.registry (faces_at g (object_named g oid os)) oid face

answers : (g : Setting) (oid : List ℕ) (k : Kind) (os : List Object) → object_answer g oid k os ≡ answer_of g oid os (interface_of k)
unfolding object_answer
answers g oid k os = answers_face g.registry (faces_at g (object_named g oid os)) oid k

pub answer_no_face : (g : Setting) (oid : List ℕ) (k : Kind) (os : List Object) → interface_of k ≡ None → object_answer g oid k os ≡ no_object
answer_no_face g oid k os is = answers g oid k os ∙ ap (answer_of g oid os) is

pub answer_unsupported : (g : Setting) (oid face : List ℕ) (k : Kind) (os : List Object) → interface_of k ≡ Some face → object_supports g oid face os ≡ false → object_answer g oid k os ≡ no_object
unfolding object_supports
answer_unsupported g oid face k os is misses = answers g oid k os ∙ ap (answer_of g oid os) is ∙ ap (λ b. if b then any_of_own oid face else no_object) misses

pub answer_supported : (g : Setting) (oid face : List ℕ) (k : Kind) (os : List Object) → interface_of k ≡ Some face → object_supports g oid face os ≡ true → object_answer g oid k os ≡ any_of_own oid face
unfolding object_supports
answer_supported g oid face k os is does = answers g oid k os ∙ ap (answer_of g oid os) is ∙ ap (λ b. if b then any_of_own oid face else no_object) does

-- ---- a name that is asked for

pub name_unknown : (g : Setting) (name : List ℕ) (k : Kind) (os : List Object) → exported g.plan name ≡ None → name_answer g name k os ≡ no_object
unfolding name_answer
name_unknown g name k os is = ap (answer_of_number g k os) is

pub name_known : (g : Setting) (name : List ℕ) (n : ℕ) (k : Kind) (os : List Object) → exported g.plan name ≡ Some n → name_answer g name k os ≡ object_answer g (own_oid g n) k os
unfolding name_answer
name_known g name n k os is = ap (answer_of_number g k os) is

-- ---- the lowest that may go

pub lowest_is : (g : Setting) (k : Kept) (t : Tables) → k.prefix ≡ prefix g → k.first ≡ length (first_objects g.plan) → k.objects ≡ t.objects → k.holdings ≡ t.holdings → k.stubs ≡ t.stubs
    → kept.lowest k ≡ plain.lowest g t
unfolding kept.lowest plain.lowest own_oid
lowest_is g k t front first objects holdings stubs =
    λ i. find
    (λ o. nat_lt (first i) o.number && (not (is_held_object (front i ++ decimal o.number) (holdings i)) && not (has_stub (front i ++ decimal o.number) (stubs i)))) (objects i)
