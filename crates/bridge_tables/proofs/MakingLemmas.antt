-- Objects that are made, taken back, and go.
use Rattle.std.specs.Prelude.{IfNone, IfSome}
use Rattle.std.proofs.Common.{◌≡◌, ℕ, suc, ◌+◌, ◌<◌, ◌≤◌, Bool, true, false, not, ◌||◌, ◌==◌, if◌then◌else◌, cond, List, [], ◌∷◌, ◌++◌, length, map, drop, get_or, Option, None, Some, is_some, unwrap_or, refl, sym, ap, ◌∙◌, arith}
use Rattle.std.proofs.lemmas.Bool.Decides.{nat_tests}
use Rattle.std.proofs.lemmas.List.{append-nil, at_drop_more, drop_all}
use Rattle.std.specs.List.{find, list_any}
use Rattle.uno_model.specs.Values.{Plain, Ref}
use Rattle.table_model.specs.declared.holder.Holder.TheVariants as holder
use Rattle.table_model.proofs.BagLaws.{fewer_left}
use Rattle.bridge_model.specs.Going.{reaps_object}
use Rattle.plan_model.specs.Plans.{first_objects, has_offers, manager}
use Rattle.bridge_model.specs.Objects.{object_numbered, makes_object, makes_default, makes_all, without_object}
use Rattle.bridge_model.specs.References.{gains_all, lets_go_all, loses_all, refs_of_values}
use Rattle.bridge_model.specs.Settings.{Setting}
use Rattle.bridge_model.specs.Sides.{Object, RootState, Tables}
use Rattle.bridge_objects.specs.Kept.{Kept, numbered, fields_of, with_made, unmade}
use Rattle.bridge_streams.specs.Queues.{Queue}
use Rattle.bridge_tables.specs.EndTables.{EndTables, on_tables}
use Rattle.bridge_tables.proofs.LettingLemmas.{seen}

-- what an end keeps of objects
abbrev pub kept_in : EndTables → Kept
kept_in e =
    record {
      prefix = e.prefix;
      first = e.first;
      objects = e.tables.objects;
      objects_made = e.tables.objects_made;
      holdings = e.tables.holdings;
      stubs = e.tables.stubs;
    }

-- the same with other ones
abbrev pub replaced : Kept → EndTables → EndTables
replaced k e =
    record e {
      prefix = k.prefix;
      first = k.first;
      tables =
          record e.tables {
            objects = k.objects;
            objects_made = k.objects_made;
            holdings = k.holdings;
            stubs = k.stubs;
          };
    }

-- ---- making one

pub made_seen : (b : ℕ) (fs : List Plain) (old new : Kept) (q : Queue) (stands : Bool) (roots : List RootState) (frames number : ℕ) (rs : List Ref) (e after : EndTables) → seen old q stands roots frames ≡ e
    → new ≡ with_made b fs old → number ≡ suc old.objects_made → rs ≡ refs_of_values fs → after ≡ on_tables (gains_all (holder.Object number) rs) (seen new q stands roots frames)
    → after ≡ on_tables (makes_object b fs) e
unfolding makes_object
made_seen b fs old new q stands roots frames number rs e after is made counts same here =
    here ∙ (λ i. on_tables (gains_all (holder.Object (counts i)) (same i)) (seen (made i) q stands roots frames)) ∙ ap (on_tables (makes_object b fs)) is

-- ---- taking it back

found_last : (n : ℕ) (os : List Object) (o : Object) → (n == o.number) ≡ true → is_some (find (λ x. n == x.number) (os ++ o ∷ [])) ≡ true
found_last n [] o is = ap (λ b. is_some (cond b (Some o) None)) is
found_last n (x ∷ os) o is =
    elim (n == x.number) as (λ b. is_some (cond b (Some x) (find (λ y. n == y.number) (os ++ o ∷ []))) ≡ true) [ true ↦ refl | false ↦ found_last n os o is ]

same_number : (n : ℕ) → (n == n) ≡ true
same_number n = grind (arith, nat_tests)

-- the object that was made last is there
last_there : (b : ℕ) (fs : List Plain) (old k : Kept) → k ≡ with_made b fs old → is_some (numbered k.objects_made k) ≡ true
unfolding object_numbered
last_there b fs old k made =
    ap (λ x. is_some (numbered x.objects_made x)) made
    ∙ found_last (suc old.objects_made) old.objects (record { number = suc old.objects_made; behaviour = b; fields = fs }) (same_number (suc old.objects_made))

pub taken_back : {V : Type 0} (r : Option V) (b : ℕ) (fs : List Plain) (old k new : Kept) → k ≡ with_made b fs old → unmade k ≡ old → IfSome r (λ v. new ≡ unmade k)
    → IfNone r (0 < k.objects_made → numbered k.objects_made k ≡ None) → new ≡ old
taken_back (Some v) b fs old k new made back some none = some ∙ back
taken_back None b fs old k new made back some none =
    let count : k.objects_made ≡ suc old.objects_made = ap (λ x. x.objects_made) made in
    let bad : false ≡ true = sym (ap is_some (none (omega arith))) ∙ last_there b fs old k made in absurd (cc)

-- ---- its number is new

goes_alone : (n : ℕ) (os : List Object) (o : Object) → (n == o.number) ≡ true → without_object n (os ++ o ∷ []) ≡ without_object n os
unfolding without_object
goes_alone n [] o is = ap (λ b. cond (not b) (o ∷ []) []) is
goes_alone n (x ∷ os) o is = ap (λ ys. cond (not (n == x.number)) (x ∷ ys) ys) (goes_alone n os o is)

none_found : (n : ℕ) (os : List Object) → list_any (λ x. n == x.number) os ≡ false → object_numbered n os ≡ None
unfolding object_numbered
none_found n [] none = refl
none_found n (x ∷ os) none =
    elim (n == x.number) as (λ b. (b || list_any (λ y. n == y.number) os) ≡ false → cond b (Some x) (find (λ y. n == y.number) os) ≡ None) [
      | true ↦ λ some. absurd (cc)
      | false ↦ λ none. none_found n os none
    ] none

all_stay : (n : ℕ) (os : List Object) (b : Bool) → list_any (λ x. n == x.number) os ≡ b → without_object n os ≡ os → object_numbered n os ≡ None
unfolding without_object
all_stay n os true some same = let fewer = fewer_left (λ x. n == x.number) os some in let long = ap length same in absurd (omega (arith, fewer, long))
all_stay n os false none same = none_found n os none

-- what is taken back leaves all that was there
pub fresh_number : (b : ℕ) (fs : List Plain) (old k : Kept) → k ≡ with_made b fs old → unmade k ≡ old → object_numbered (suc old.objects_made) old.objects ≡ None
fresh_number b fs old k made back =
    all_stay (suc old.objects_made) old.objects (list_any (λ x. suc old.objects_made == x.number) old.objects) refl
    (sym (goes_alone (suc old.objects_made) old.objects (record { number = suc old.objects_made; behaviour = b; fields = fs }) (same_number (suc old.objects_made)))
    ∙ ap (λ x. x.objects) (sym (ap unmade made) ∙ back))

-- ---- an object that goes

found_number : (n : ℕ) (os : List Object) (o : Object) → find (λ x. n == x.number) os ≡ Some o → n ≡ o.number
found_number n [] o is = absurd (cc)
found_number n (x ∷ os) o is =
    elim (n == x.number) as (λ b. (n == x.number) ≡ b → cond b (Some x) (find (λ y. n == y.number) os) ≡ Some o → n ≡ o.number) [
      | true ↦ λ same found. let one : x ≡ o = cc in let number : n ≡ x.number = grind (arith, nat_tests) in number ∙ ap (λ y. y.number) one
      | false ↦ λ same found. found_number n os o found
    ] refl is

pub reaped_standing : (g : Setting) (n : ℕ) (o : Object) (os : List Object) (xs : List Plain) (e between after : EndTables) → object_numbered n os ≡ Some o → e.tables.objects ≡ os
    → xs ≡ unwrap_or (fields_of (object_numbered n os)) [] → between ≡ on_tables (λ t. record t { objects = without_object n t.objects }) e
    → after ≡ on_tables (lets_go_all g (holder.Object n) (refs_of_values xs)) between → after ≡ on_tables (reaps_object g true o) e
unfolding object_numbered
reaped_standing g n o os xs e between after found these was gone here =
    let number = found_number n os o found in
    let fields : xs ≡ o.fields = was ∙ ap (λ x. unwrap_or (fields_of x) []) found in
    here ∙ (λ i. on_tables (lets_go_all g (holder.Object n) (refs_of_values (fields i))) (gone i))
    ∙ (λ i. on_tables (λ t. lets_go_all g (holder.Object (number i)) (refs_of_values o.fields) (record t { objects = without_object (number i) t.objects })) e)

pub reaped_ended : (g : Setting) (n : ℕ) (o : Object) (os : List Object) (xs : List Plain) (e between after : EndTables) → object_numbered n os ≡ Some o → e.tables.objects ≡ os
    → xs ≡ unwrap_or (fields_of (object_numbered n os)) [] → between ≡ on_tables (λ t. record t { objects = without_object n t.objects }) e
    → after ≡ on_tables (loses_all (holder.Object n) (refs_of_values xs)) between → after ≡ on_tables (reaps_object g false o) e
unfolding object_numbered
reaped_ended g n o os xs e between after found these was gone here =
    let number = found_number n os o found in
    let fields : xs ≡ o.fields = was ∙ ap (λ x. unwrap_or (fields_of x) []) found in
    here ∙ (λ i. on_tables (loses_all (holder.Object n) (refs_of_values (fields i))) (gone i))
    ∙ (λ i. on_tables (λ t. loses_all (holder.Object (number i)) (refs_of_values o.fields) (record t { objects = without_object (number i) t.objects })) e)

-- ---- those that are there from the beginning

making_on : (g : Setting) (bs cs : List ℕ) (t : Tables) → makes_all g (bs ++ cs) t ≡ makes_all g cs (makes_all g bs t)
unfolding makes_all
making_on g [] cs t = refl
making_on g (b ∷ bs) cs t = making_on g bs cs (makes_default g b t)

-- the rest is made behind this one
pub making_next : {A : Type 0} (number : A → ℕ) (g : Setting) (xs : List A) (i : ℕ) (x : A) (e before after : EndTables) → i < length xs
    → x ≡ get_or xs i x → after ≡ on_tables (makes_default g (number x)) before → on_tables (makes_all g (map number (drop i xs))) before ≡ e
    → on_tables (makes_all g (map number (drop (i + 1) xs))) after ≡ e
unfolding makes_all
making_next number g xs i x e before after within is here all =
    ap (on_tables (makes_all g (map number (drop (i + 1) xs)))) (here ∙ ap (λ y. on_tables (makes_default g (number y)) before) is) ∙ sym (at_drop_more (λ ys. on_tables (makes_all g (map number ys)) before) xs i x within) ∙ all

pub making_done : {A : Type 0} (number : A → ℕ) (g : Setting) (xs : List A) (i : ℕ) (e now : EndTables) → length xs ≤ i → on_tables (makes_all g (map number (drop i xs))) now ≡ e → now ≡ e
unfolding makes_all
making_done number g xs i e now past all = sym (ap (λ ys. on_tables (makes_all g (map number ys)) now) (drop_all i xs past)) ∙ all

pub numbers_mapped : {A B : Type 0} (f : A → B) (number : B → ℕ) (xs : List A) → map (λ x. number (f x)) xs ≡ map number (map f xs)
numbers_mapped f number [] = refl
numbers_mapped f number (x ∷ xs) = ap (λ ns. number (f x) ∷ ns) (numbers_mapped f number xs)

pub first_without : (g : Setting) (e after : EndTables) → has_offers g.plan ≡ false → after ≡ on_tables (makes_all g (map (λ x. x.behaviour) g.plan.exports)) e
    → after ≡ on_tables (makes_all g (first_objects g.plan)) e
unfolding first_objects
first_without g e after none here =
    here ∙ ap (λ bs. on_tables (makes_all g bs) e)
    (sym (ap (λ b. map (λ x. x.behaviour) g.plan.exports ++ (if b then manager ∷ map (λ o. o.behaviour) g.plan.singletons else [])) none ∙ append-nil (map (λ x. x.behaviour) g.plan.exports)))

pub first_with : (g : Setting) (e exported managed after : EndTables) → has_offers g.plan ≡ true → exported ≡ on_tables (makes_all g (map (λ x. x.behaviour) g.plan.exports)) e
    → managed ≡ on_tables (makes_default g manager) exported → after ≡ on_tables (makes_all g (map (λ o. o.behaviour) g.plan.singletons)) managed → after ≡ on_tables (makes_all g (first_objects g.plan)) e
unfolding first_objects makes_all
first_with g e exported managed after some first second third =
    third ∙ ap (on_tables (makes_all g (map (λ o. o.behaviour) g.plan.singletons))) (second ∙ ap (on_tables (makes_default g manager)) first)
    ∙ ap (λ t. record e { tables = t }) (sym (making_on g (map (λ x. x.behaviour) g.plan.exports) (manager ∷ map (λ o. o.behaviour) g.plan.singletons) e.tables))
    ∙ ap (λ b. on_tables (makes_all g (map (λ x. x.behaviour) g.plan.exports ++ (if b then manager ∷ map (λ o. o.behaviour) g.plan.singletons else []))) e) (sym some)
