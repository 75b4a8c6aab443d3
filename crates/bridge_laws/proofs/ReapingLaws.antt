-- An object that is reaped leaves all others that are held or were sent out, and objects of the beginning are there.
use Rattle.std.proofs.Common.{◌≡◌, ℕ, suc, ◌+◌, ◌≤◌, ◌<◌, Bool, true, false, not, cond, ◌&&◌, ◌||◌, ◌==◌, if◌then◌else◌, List, [], ◌∷◌, ◌++◌, length, filter, find, is_some, Option, None, Some, refl, sym, ap, ◌∙◌, subst, arith, nat_lt, ltb-true, ltb-false, eqb-true, eq-eqb}
use Rattle.std.proofs.lemmas.Bool.{and_parts, not-true, or_right}
use Rattle.std.proofs.lemmas.Slice.Eq.{bytes_eq-Decides}
use Rattle.std.specs.List.{list_any}
use Rattle.std.specs.Str.{bytes_eq}
use Rattle.uno_model.specs.Values.{Ref, null, own, peer, Plain}
use Rattle.table_model.specs.Bags.{how_many}
use Rattle.table_model.specs.Holdings.{Holdings}
use Rattle.table_model.specs.Stubs.{Stubs}
use Rattle.table_model.specs.declared.holder.Holder.{Holder}
use Rattle.table_model.specs.declared.holder.Holder.TheVariants as holder
use Rattle.plan_model.specs.Plans.{first_objects}
use Rattle.bridge_model.specs.Going.{reaps_object, reaps}
use Rattle.bridge_model.specs.Objects.{object_named, is_held_object, has_stub, may_go, lowest, without_object, makes_object, makes_default, defaults_of, makes_all}
use Rattle.bridge_model.specs.References.{gains, gains_all, refs_of_values}
use Rattle.bridge_model.specs.Settings.{Setting, own_oid, is_own}
use Rattle.bridge_model.specs.Sides.{Object, Tables, Side, stands}
use Rattle.bridge_model.specs.Steps.{opening, no_objects, reaps_some}
use Rattle.bridge_laws.specs.Counting.{total, one_if}
use Rattle.bridge_laws.specs.Living.{lives}
use Rattle.bridge_laws.proofs.LivingEffectLaws.{default_alive}
use Rattle.bridge_laws.proofs.LivingSideLaws.{first_count, LivesIn, stacks_none}
use Rattle.bridge_laws.proofs.LivingTableLaws.{any_more, object_untold, AreThere, Alive, AliveIn, lives_with, lets_go_all_alive, loses_all_alive}
use Rattle.bridge_laws.proofs.OccurrenceLaws.{gains_all_objects}
use Rattle.bridge_laws.proofs.StrayLaws.{is_stray, held_strays, stub_strays}
use Rattle.bridge_laws.proofs.Sums.{total_filter}

-- ---- what is found passed the test

found_by : {X : Type 0} (test : X → Bool) (b : Bool) (x y : X) (rest : Option X) → test x ≡ b → (rest ≡ Some y → test y ≡ true) → cond b (Some x) rest ≡ Some y → test y ≡ true
found_by test true x y rest is more found = let same : x ≡ y = cc in sym (ap test same) ∙ is
found_by test false x y rest is more found = more found

passes_found : {X : Type 0} (test : X → Bool) (y : X) (xs : List X) → find test xs ≡ Some y → test y ≡ true
passes_found test y [] found = absurd (cc)
passes_found test y (x ∷ xs) found = found_by test (test x) x y (find test xs) refl (λ there. passes_found test y xs there) found

-- an object that may go was not there from the beginning, is held by nobody, and has no stub
pub record MayGo (g : Setting) (t : Tables) (o : Object) : Type 0 where
  pub later : first_count g < o.number
  pub unheld : is_held_object (own_oid g o.number) t.holdings ≡ false
  pub unsent : has_stub (own_oid g o.number) t.stubs ≡ false

pub lowest_may_go : (g : Setting) (t : Tables) (o : Object) → lowest g t ≡ Some o → MayGo g t o
unfolding lowest
lowest_may_go g t o found =
    let all = and_parts (nat_lt (first_count g) o.number) (not (is_held_object (own_oid g o.number) t.holdings) && not (has_stub (own_oid g o.number) t.stubs))
    (passes_found (may_go g t) o t.objects found) in
    let none = and_parts (not (is_held_object (own_oid g o.number) t.holdings)) (not (has_stub (own_oid g o.number) t.stubs)) all.1 in
    record { later = ltb-true (first_count g) o.number all.0; unheld = not-true _ none.0; unsent = not-true _ none.1 }

-- ---- other identities

differ_turned : (x y : List ℕ) (b : Bool) → bytes_eq y x ≡ b → bytes_eq x y ≡ false → b ≡ false
differ_turned x y true is other = let same : bytes_eq x y ≡ true = (bytes_eq-Decides x y).1 (sym ((bytes_eq-Decides y x).0 is)) in absurd (cc)
differ_turned x y false is other = refl

without_step : (g : Setting) (n : ℕ) (oid : List ℕ) (b : Bool) (o : Object) (kept rest : Option Object) → (n == o.number) ≡ b → bytes_eq (own_oid g n) oid ≡ false
    → (os os' : List Object) → is_some (find (λ o. bytes_eq oid (own_oid g o.number)) os') ≡ is_some (find (λ o. bytes_eq oid (own_oid g o.number)) os)
    → is_some (find (λ o. bytes_eq oid (own_oid g o.number)) (if not b then o ∷ os' else os')) ≡ is_some (find (λ o. bytes_eq oid (own_oid g o.number)) (o ∷ os))
without_step g n oid true o kept rest is other os os' same =
    let alike : own_oid g n ≡ own_oid g o.number = ap (own_oid g) (eqb-true n o.number is) in
    let differs : bytes_eq oid (own_oid g o.number) ≡ false = ap (bytes_eq oid) (sym alike) ∙ differ_turned (own_oid g n) oid (bytes_eq oid (own_oid g n)) refl other in
    same ∙ sym (ap (λ c. is_some (cond c (Some o) (find (λ o. bytes_eq oid (own_oid g o.number)) os))) differs)
without_step g n oid false o kept rest is other os os' same =
    elim (bytes_eq oid (own_oid g o.number)) as (λ c. is_some (cond c (Some o) (find (λ o. bytes_eq oid (own_oid g o.number)) os')) ≡ is_some (cond c (Some o) (find (λ o. bytes_eq oid (own_oid g o.number)) os))) [ true ↦ refl | false ↦ same ]

-- other identities live as before
without_lives : (g : Setting) (n : ℕ) (oid : List ℕ) (os : List Object) → bytes_eq (own_oid g n) oid ≡ false → lives g (without_object n os) oid ≡ lives g os oid
unfolding object_named without_object
without_lives g n oid [] other = refl
without_lives g n oid (o ∷ os) other =
    without_step g n oid (n == o.number) o None None refl other os (filter (λ o. not (n == o.number)) os) (without_lives g n oid os other)

stray_same : (g : Setting) (live now : List ℕ → Bool) (oid : List ℕ) → now oid ≡ live oid → one_if (is_stray g now oid) ≡ one_if (is_stray g live oid)
unfolding is_stray
stray_same g live now oid same = ap (λ b. one_if (is_own g oid && not b)) same

stray_step : {X : Type 0} (name : X → List ℕ) (g : Setting) (live now : List ℕ → Bool) (gone : List ℕ) (x : X) (rest others : ℕ) (b any : Bool)
    → bytes_eq gone (name x) ≡ b → (bytes_eq gone (name x) ≡ false → now (name x) ≡ live (name x)) → (any ≡ false → rest ≡ others) → (b || any) ≡ false
    → one_if (is_stray g now (name x)) + rest ≡ one_if (is_stray g live (name x)) + others
stray_step name g live now gone x rest others true any is same more none = absurd (cc)
stray_step name g live now gone x rest others false any is same more none =
    let here = stray_same g live now (name x) (same is) in let behind = more none in omega arith

-- where an identity stands nowhere, as many are stray as if it lived
unnamed_stray : {X : Type 0} (name : X → List ℕ) (g : Setting) (live now : List ℕ → Bool) (gone : List ℕ) → ((oid : List ℕ) → bytes_eq gone oid ≡ false → now oid ≡ live oid)
    → (xs : List X) → list_any (λ x. bytes_eq gone (name x)) xs ≡ false → how_many (λ x. is_stray g now (name x)) xs ≡ how_many (λ x. is_stray g live (name x)) xs
unnamed_stray name g live now gone same [] none = refl
unnamed_stray name g live now gone same (x ∷ xs) none =
    stray_step name g live now gone x (how_many (λ x. is_stray g now (name x)) xs) (how_many (λ x. is_stray g live (name x)) xs)
    (bytes_eq gone (name x)) (list_any (λ x. bytes_eq gone (name x)) xs) refl (same (name x)) (λ rest. unnamed_stray name g live now gone same xs rest) none

unheld_stray : (g : Setting) (live now : List ℕ → Bool) (gone : List ℕ) → ((oid : List ℕ) → bytes_eq gone oid ≡ false → now oid ≡ live oid) → (hs : Holdings)
    → is_held_object gone hs ≡ false → held_strays g now hs ≡ held_strays g live hs
unfolding held_strays is_held_object
unheld_stray g live now gone same hs none = unnamed_stray (λ k. k.pair.oid) g live now gone same hs none

unsent_stray : (g : Setting) (live now : List ℕ → Bool) (gone : List ℕ) → ((oid : List ℕ) → bytes_eq gone oid ≡ false → now oid ≡ live oid) → (stubs : Stubs)
    → has_stub gone stubs ≡ false → stub_strays g now stubs ≡ stub_strays g live stubs
unfolding stub_strays has_stub
unsent_stray g live now gone same stubs none = unnamed_stray (λ row. row.0.oid) g live now gone same stubs none

-- ---- an object goes

behind_it : (a any : Bool) → (a ≡ true → ⊥) → (a || any) ≡ true → any ≡ true
behind_it true any other found = absurd (other refl)
behind_it false any other found = found

eq_apart : (n k j : ℕ) → n < k → (n == j) ≡ true → (k == j) ≡ true → ⊥
eq_apart n k j below one other = let left = eqb-true n j one in let right = eqb-true k j other in omega arith

there_kept : (n k : ℕ) (b : Bool) (o : Object) (os os' : List Object) → n < k → (k == o.number) ≡ b → (list_any (λ o. n == o.number) os ≡ true → list_any (λ o. n == o.number) os' ≡ true)
    → list_any (λ o. n == o.number) (o ∷ os) ≡ true → list_any (λ o. n == o.number) (if not b then o ∷ os' else os') ≡ true
there_kept n k true o os os' below is more found = more (behind_it (n == o.number) (list_any (λ o. n == o.number) os) (λ here. eq_apart n k o.number below here is) found)
there_kept n k false o os os' below is more found = any_more (n == o.number) (list_any (λ o. n == o.number) os) (list_any (λ o. n == o.number) os') more found

without_there : (n k : ℕ) (os : List Object) → n < k → list_any (λ o. n == o.number) os ≡ true → list_any (λ o. n == o.number) (without_object k os) ≡ true
unfolding without_object
without_there n k [] below found = absurd (cc)
without_there n k (o ∷ os) below found = there_kept n k (k == o.number) o os (filter (λ o. not (k == o.number)) os) below refl (λ there. without_there n k os below there) found

gone_alive : (g : Setting) (live : List ℕ → Bool) (o : Object) (t : Tables) → MayGo g t o → AliveIn g (first_count g) live t
    → AliveIn g (first_count g) (lives g (without_object o.number t.objects)) (record t { objects = without_object o.number t.objects })
unfolding without_object
gone_alive g live o t may_it alive =
    let same : (oid : List ℕ) → bytes_eq (own_oid g o.number) oid ≡ false → lives g (without_object o.number t.objects) oid ≡ live oid =
    λ oid other. without_lives g o.number oid t.objects other ∙ alive.named oid in
    let none = alive.held in let nothing = alive.sent in let before = alive.told in
    let held = unheld_stray g live (lives g (without_object o.number t.objects)) (own_oid g o.number) same t.holdings may_it.unheld in
    let sent = unsent_stray g live (lives g (without_object o.number t.objects)) (own_oid g o.number) same t.stubs may_it.unsent in
    let told = total_filter (object_untold g) (λ k. not (o.number == k.number)) t.objects in
    let later = may_it.later in
    record {
      named = λ oid. refl;
      told = omega arith;
      there = λ n least most. without_there n o.number t.objects (omega arith) (alive.there n least most);
      held = omega arith;
      sent = omega arith;
    }

reaped_by : (g : Setting) (m : ℕ) (live : List ℕ → Bool) (standing : Bool) (o : Object) (t : Tables) → AliveIn g m live (record t { objects = without_object o.number t.objects })
    → AliveIn g m live (reaps_object g standing o t)
reaped_by g m live true o t alive = lets_go_all_alive g m live (holder.Object o.number) (refs_of_values o.fields) (record t { objects = without_object o.number t.objects }) alive
reaped_by g m live false o t alive = loses_all_alive g m live (holder.Object o.number) (refs_of_values o.fields) (record t { objects = without_object o.number t.objects }) alive

pub reaps_lives : (g : Setting) (o : Option Object) (s : Side) → lowest g s.tables ≡ o → LivesIn g s → LivesIn g (reaps_some g o s)
unfolding reaps
reaps_lives g None s found fine = fine
reaps_lives g (Some o) s found fine =
    record {
      live = lives g (without_object o.number s.tables.objects);
      alive =
          reaped_by g (first_count g) (lives g (without_object o.number s.tables.objects)) (stands s) o s.tables
          (gone_alive g fine.live o s.tables (lowest_may_go g s.tables o found) fine.alive);
      told = fine.told;
    }

-- ---- the beginning

gains_made : (who : Holder) (r : Ref) (t : Tables) → (gains who r t).objects_made ≡ t.objects_made
gains_made who null t = refl
gains_made who (own oid face) t = refl
gains_made who (peer oid face) t = refl

pub gains_all_made : (who : Holder) (rs : List Ref) (t : Tables) → (gains_all who rs t).objects_made ≡ t.objects_made
unfolding gains_all
gains_all_made who [] t = refl
gains_all_made who (r ∷ rs) t = gains_all_made who rs (gains who r t) ∙ gains_made who r t

makes_made : (behaviour : ℕ) (fields : List Plain) (t : Tables) → (makes_object behaviour fields t).objects_made ≡ suc t.objects_made
unfolding makes_object
makes_made behaviour fields t =
    gains_all_made (holder.Object (suc t.objects_made)) (refs_of_values fields)
    (record t { objects = t.objects ++ record { number = suc t.objects_made; behaviour = behaviour; fields = fields } ∷ []; objects_made = suc t.objects_made })

any_last : (n : ℕ) (os : List Object) (o : Object) → (n == o.number) ≡ true → list_any (λ o. n == o.number) (os ++ o ∷ []) ≡ true
any_last n [] o is = ap (λ b. b || false) is
any_last n (x ∷ xs) o is = or_right (n == x.number) (list_any (λ o. n == o.number) (xs ++ o ∷ [])) (any_last n xs o is)

last_by : (m n : ℕ) (os : List Object) (o : Object) → o.number ≡ suc m → AreThere m (os ++ o ∷ []) → 1 ≤ n → n ≤ suc m → (b : Bool) → nat_lt m n ≡ b
    → list_any (λ o. n == o.number) (os ++ o ∷ []) ≡ true
last_by m n os o is there least most true above = let over = ltb-true m n above in any_last n os o (eq-eqb n o.number (omega arith))
last_by m n os o is there least most false above = let under = ltb-false m n above in there n least (omega arith)

-- the object that is made last is there too
last_there : (m : ℕ) (os : List Object) (o : Object) → o.number ≡ suc m → AreThere m (os ++ o ∷ []) → AreThere (suc m) (os ++ o ∷ [])
last_there m os o is there n least most = last_by m n os o is there least most (nat_lt m n) refl

made_objects : (g : Setting) (b : ℕ) (t : Tables) → (makes_default g b t).objects ≡ t.objects ++ record { number = suc t.objects_made; behaviour = b; fields = defaults_of g b } ∷ []
unfolding makes_object
made_objects g b t =
    gains_all_objects (holder.Object (suc t.objects_made)) (refs_of_values (defaults_of g b))
    (record t { objects = t.objects ++ record { number = suc t.objects_made; behaviour = b; fields = defaults_of g b } ∷ []; objects_made = suc t.objects_made })

-- one more of the first objects
more_there : (g : Setting) (m : ℕ) (live : List ℕ → Bool) (b : ℕ) (t : Tables) → m ≡ t.objects_made → AliveIn g m live t
    → AliveIn g (suc m) (lives_with g live (suc t.objects_made)) (makes_default g b t)
more_there g m live b t is alive =
    let now = default_alive g m live b t alive in
    let objects = made_objects g b t in
    record {
      named = now.named;
      told = now.told;
      there =
          subst (AreThere (suc m)) (sym objects)
          (last_there m t.objects (record { number = suc t.objects_made; behaviour = b; fields = defaults_of g b }) (ap suc (sym is)) (subst (AreThere m) objects now.there));
      held = now.held;
      sent = now.sent;
    }

record SomeAlive (g : Setting) (m : ℕ) (t : Tables) : Type 0 where
  pub live : List ℕ → Bool
  pub alive : AliveIn g m live t

makes_all_lives : (g : Setting) (bs : List ℕ) (m most : ℕ) (live : List ℕ → Bool) (t : Tables) → most ≡ m + length bs → m ≡ t.objects_made → AliveIn g m live t
    → SomeAlive g most (makes_all g bs t)
unfolding makes_all
makes_all_lives g [] m most live t all is alive = record { live = live; alive = subst (λ k. AliveIn g k live t) (omega arith) alive }
makes_all_lives g (b ∷ bs) m most live t all is alive =
    makes_all_lives g bs (suc m) most (lives_with g live (suc t.objects_made)) (makes_default g b t) (omega arith)
    (ap suc is ∙ sym (makes_made b (defaults_of g b) t)) (more_there g m live b t is alive)

nothing_alive : (g : Setting) → Alive g 0 (λ oid. false) [] [] []
unfolding object_named total held_strays stub_strays
nothing_alive g = record { named = λ oid. refl; told = refl; there = λ n least most. absurd (omega arith); held = refl; sent = refl }

pub opening_lives : (g : Setting) → LivesIn g (opening g)
unfolding opening
opening_lives g =
    let some = makes_all_lives g (first_objects g.plan) 0 (first_count g) (λ oid. false) (no_objects g.plan) (omega arith) refl (nothing_alive g) in
    record { live = some.live; alive = some.alive; told = stacks_none g }
