-- Objects that are made: the new one is found under its name, and all others are as they were.
use Rattle.std.proofs.Common.{◌≡◌, ◌≢◌, ℕ, suc, ◌≤◌, ◌<◌, ◌^◌, ◌==◌, eqb-true, Bool, true, false, cond, List, [], ◌∷◌, ◌++◌, map, find, Option, None, Some, slice_get, refl, sym, ap, ◌∙◌, arith}
use Rattle.std.specs.List.{AllByRecursion}
use Rattle.std.specs.Fmt.{decimal}
use Rattle.std.specs.Option.{option_map}
use Rattle.std.specs.Str.{bytes_eq}
use Rattle.std.proofs.lemmas.Fmt.{decimal_injective}
use Rattle.std.proofs.lemmas.List.{append_cancel_left}
use Rattle.std.proofs.lemmas.Slice.Eq.{bytes_eq-Decides}
use Rattle.uno_model.specs.Defaults.{default_of_kind}
use Rattle.uno_model.specs.Entities.{Entity, Field}
use Rattle.uno_model.specs.Fits.{Fits, IsInterface}
use Rattle.uno_model.specs.Sound.{IsSound}
use Rattle.uno_model.specs.Values.{own, Plain}
use Rattle.uno_model.proofs.DefaultLaws.{default_fits}
use Rattle.table_model.specs.declared.holder.Holder.TheVariants as holder
use Rattle.plan_model.specs.Plans.{faces_of, supports, first_objects}
use Rattle.plan_typing.specs.Scenes.{FieldsFit}
use Rattle.plan_typing.specs.Statements.{IsTypedField}
use Rattle.plan_typing.proofs.EffectFrames.{behaviour_fields}
use Rattle.bridge_laws.specs.Counting.{total}
use Rattle.bridge_laws.proofs.IdentityLaws.{given_own}
use Rattle.bridge_laws.proofs.Sums.{total_push}
use Rattle.bridge_model.specs.Objects.{object_numbered, object_named, faces_at, object_supports, fields_of, as_variables, makes_object, defaults_of}
use Rattle.bridge_model.specs.References.{refs_of_values}
use Rattle.bridge_model.specs.Settings.{Setting, prefix, own_oid}
use Rattle.bridge_model.specs.Sides.{Object, Tables}
use Rattle.bridge_laws.proofs.Fine.{wrong}
use Rattle.bridge_laws.proofs.FramesFit.{behaviour_at}
use Rattle.bridge_laws.proofs.TypedGiven.{IsGiven}
use Rattle.bridge_laws.proofs.ObjectsFit.{ObjectFits, object_wrong, ObjectsFit, Lasts}
use Rattle.bridge_laws.proofs.TablesFit.{TablesFit}
use Rattle.bridge_laws.proofs.FineLaws.{fine_own}
use Rattle.bridge_laws.proofs.LastingFits.{objects_last, refs_last, tables_more}
use Rattle.bridge_laws.proofs.TableLaws.{identity_named, gains_all_fits}

-- ---- names and numbers

differ_by : (g : Setting) (n m : ℕ) (b : Bool) → n < 2 ^ 64 → m < 2 ^ 64 → (n == m) ≡ b → bytes_eq (own_oid g n) (own_oid g m) ≡ b
unfolding own_oid
differ_by g n m true few also is = (bytes_eq-Decides (own_oid g n) (own_oid g m)).1 (ap (own_oid g) (eqb-true n m is))
differ_by g n m false few also is = by_name (bytes_eq (own_oid g n) (own_oid g m)) refl
  where
    by_name : (c : Bool) → bytes_eq (own_oid g n) (own_oid g m) ≡ c → c ≡ false
    by_name false told = refl
    by_name true told =
        let same = decimal_injective n m few also (append_cancel_left (prefix g) (decimal n) (decimal m) ((bytes_eq-Decides (own_oid g n) (own_oid g m)).0 told)) in
        let alike : (n == m) ≡ (m == m) = ap (λ k. k == m) same in absurd (grind (arith, eqb-true))

named_step : (g : Setting) (n : ℕ) (o : Object) (rest other : Option Object) → n < 2 ^ 64 → o.number < 2 ^ 64 → rest ≡ other
    → cond (bytes_eq (own_oid g n) (own_oid g o.number)) (Some o) rest ≡ cond (n == o.number) (Some o) other
named_step g n o rest other few also same =
    ap (λ b. cond b (Some o) rest) (differ_by g n o.number (n == o.number) few also refl) ∙ ap (cond (n == o.number) (Some o)) same

-- an object is found under the name of its number
pub named_by_number : (g : Setting) (made n : ℕ) (os : List Object) → made < 2 ^ 64 → n < 2 ^ 64 → AllByRecursion (ObjectFits g made) os
    → object_named g (own_oid g n) os ≡ object_numbered n os
unfolding object_named object_numbered
named_by_number g made n [] few also all = refl
named_by_number g made n (o ∷ os) few also all =
    let most = all.0.most in
    named_step g n o (object_named g (own_oid g n) os) (object_numbered n os) also (omega arith) (named_by_number g made n os few also all.1)

-- ---- one object more

found_before : {X : Type 0} (test : X → Bool) (xs more : List X) (x : X) → find test xs ≡ Some x → find test (xs ++ more) ≡ Some x
found_before test [] more x is = absurd (cc)
found_before test (y ∷ xs) more x is = step (test y) (found_before test xs more x) is
  where
    step : (b : Bool) → (find test xs ≡ Some x → find test (xs ++ more) ≡ Some x) → cond b (Some y) (find test xs) ≡ Some x → cond b (Some y) (find test (xs ++ more)) ≡ Some x
    step true behind is = is
    step false behind is = behind is

behaves_before : (g : Setting) (os : List Object) (new : Object) (n k : ℕ) (o : Option Object) → object_numbered n os ≡ o → option_map (λ o. o.behaviour) o ≡ Some k
    → behaviour_at n (os ++ new ∷ []) ≡ Some k
unfolding behaviour_at object_numbered
behaves_before g os new n k None there is = absurd (cc)
behaves_before g os new n k (Some o) there is = ap (option_map (λ o. o.behaviour)) (found_before (λ o. n == o.number) os (new ∷ []) o there) ∙ is

supports_before : (g : Setting) (os : List Object) (new : Object) (oid face : List ℕ) (o : Option Object) → object_named g oid os ≡ o
    → supports g.registry (faces_at g o) face ≡ true → object_supports g oid face (os ++ new ∷ []) ≡ true
unfolding object_supports object_named faces_at supports
supports_before g os new oid face None there is = absurd (cc)
supports_before g os new oid face (Some o) there is =
    ap (λ o. supports g.registry (faces_at g o) face) (found_before (λ o. bytes_eq oid (own_oid g o.number)) os (new ∷ []) o there) ∙ is

pub push_lasts : (g : Setting) (os : List Object) (new : Object) → Lasts g os (os ++ new ∷ [])
unfolding behaviour_at object_supports
push_lasts g os new =
    record {
      behaves = λ n k is. behaves_before g os new n k (object_numbered n os) refl is;
      supported = λ oid face is. supports_before g os new oid face (object_named g oid os) refl is;
    }

all_push : {X : Type 0} (P Q : X → Type 0) → ((x : X) → P x → Q x) → (xs : List X) (x : X) → AllByRecursion P xs → Q x → AllByRecursion Q (xs ++ x ∷ [])
all_push P Q more [] x all one = (one, tt)
all_push P Q more (y ∷ ys) x all one = (more y all.0, all_push P Q more ys x all.1 one)

other_number : (made : ℕ) (n : ℕ) → n ≤ made → (suc made == n) ≡ false
other_number made n most = grind (arith, eqb-true)

new_found : (g : Setting) (made : ℕ) (os : List Object) (new : Object) → new.number ≡ suc made → AllByRecursion (ObjectFits g made) os → object_numbered (suc made) (os ++ new ∷ []) ≡ Some new
unfolding object_numbered
new_found g made [] new is all = ap (λ n. cond (suc made == n) (Some new) None) is ∙ itself (suc made)
  where
    itself : (n : ℕ) → cond (n == n) (Some new) None ≡ Some new
    itself n = let same : (n == n) ≡ true = grind (arith, eqb-true) in rw same refl
new_found g made (o ∷ os) new is all =
    let other = other_number made o.number all.0.most in
    ap (λ b. cond b (Some o) (object_numbered (suc made) (os ++ new ∷ []))) other ∙ new_found g made os new is all.1

-- ---- fields

-- values of fields, each of which fits its field
pub values_fit : (reg : List Entity) (value : Field → Plain) (fs : List Field) → AllByRecursion (λ f. Fits reg (value f) f.kind) fs → FieldsFit reg (as_variables fs (map value fs)) fs
unfolding FieldsFit as_variables
values_fit reg value [] all = tt
values_fit reg value (f ∷ fs) all = (refl, all.0, values_fit reg value fs all.1)

defaults_each : (reg : List Entity) → IsSound reg → (fs : List Field) → AllByRecursion (IsTypedField reg) fs → AllByRecursion (λ f. Fits reg (default_of_kind reg f.kind) f.kind) fs
defaults_each reg sound [] all = tt
defaults_each reg sound (f ∷ fs) all = (default_fits reg sound f.kind all.0, defaults_each reg sound fs all.1)

pub defaults_fit : (g : Setting) → IsGiven g → (behaviour : ℕ) → FieldsFit g.registry (as_variables (fields_of g behaviour) (defaults_of g behaviour)) (fields_of g behaviour)
defaults_fit g given behaviour =
    values_fit g.registry (λ f. default_of_kind g.registry f.kind) (fields_of g behaviour)
    (defaults_each g.registry given.sound (fields_of g behaviour) (behaviour_fields g.registry given.sound g.plan behaviour given.typed))

-- ---- what is made

-- the new object, of these fields
abbrev pub made_now : (made behaviour : ℕ) → List Plain → List Object → List Object
made_now made behaviour fields os = os ++ record { number = suc made; behaviour = behaviour; fields = fields } ∷ []

module _ (g : Setting) (given : IsGiven g) (os : List Object) (made : ℕ) (objects : ObjectsFit g os made) (room : made < 2000000) (behaviour : ℕ) (fields : List Plain)
    (fit : FieldsFit g.registry (as_variables (fields_of g behaviour) fields) (fields_of g behaviour)) (fine : total (wrong g os) (refs_of_values fields) ≡ 0)
    (next : (k : ℕ) → slice_get (first_objects g.plan) made ≡ Some k → behaviour ≡ k) where
  lasts : Lasts g os (made_now made behaviour fields os)
  lasts = push_lasts g os (record { number = suc made; behaviour = behaviour; fields = fields })

  new_behaves : behaviour_at (suc made) (made_now made behaviour fields os) ≡ Some behaviour
  unfolding behaviour_at
  new_behaves = ap (option_map (λ o. o.behaviour)) (new_found g made os (record { number = suc made; behaviour = behaviour; fields = fields }) refl objects.each)

  by_number : (n k : ℕ) (b : Bool) → (n == made) ≡ b → n < suc made → slice_get (first_objects g.plan) n ≡ Some k
      → behaviour_at (suc n) (made_now made behaviour fields os) ≡ Some k
  by_number n k true same within is =
      let at = eqb-true n made same in
      ap (λ m. behaviour_at (suc m) (made_now made behaviour fields os)) at
      ∙ (new_behaves ∙ ap (λ j. Some j) (next k (ap (slice_get (first_objects g.plan)) (sym at) ∙ is)))
  by_number n k false other within is =
      let apart : n ≢ made = differs n made other in
      lasts.behaves (suc n) k (objects.first n k (omega arith) is)
    where
      differs : (n m : ℕ) → (n == m) ≡ false → n ≢ m
      differs n m other same = let alike : (n == m) ≡ (m == m) = ap (λ k. k == m) same in absurd (grind (arith, eqb-true))

  pub made_fit : ObjectsFit g (made_now made behaviour fields os) (suc made)
  unfolding object_wrong
  made_fit =
      let before = objects_last g os (made_now made behaviour fields os) lasts os objects.fine in
      let here = refs_last g os (made_now made behaviour fields os) lasts (refs_of_values fields) fine in
      let all = total_push (object_wrong g (made_now made behaviour fields os)) os (record { number = suc made; behaviour = behaviour; fields = fields }) in
      record {
        each =
            all_push (ObjectFits g made) (ObjectFits g (suc made)) (λ o is. let most = is.most in record { least = is.least; most = omega arith; fields = is.fields }) os
            (record { number = suc made; behaviour = behaviour; fields = fields }) objects.each (record { least = omega arith; most = omega arith; fields = fit });
        fine = omega arith;
        first = λ n k within is. by_number n k (n == made) refl within is;
        few = omega arith;
      }

  -- it supports what its behaviour does
  pub made_supports : (face : List ℕ) → supports g.registry (faces_of g.plan behaviour) face ≡ true
      → object_supports g (own_oid g (suc made)) face (made_now made behaviour fields os) ≡ true
  unfolding object_supports faces_at
  made_supports face is =
      let named = named_by_number g (suc made) (suc made) (made_now made behaviour fields os) (omega arith) (omega arith) made_fit.each in
      let found = new_found g made os (record { number = suc made; behaviour = behaviour; fields = fields }) refl objects.each in
      ap (λ o. supports g.registry (faces_at g o) face) (named ∙ found) ∙ is

  pub made_fine : (face : List ℕ) → IsInterface g.registry face → supports g.registry (faces_of g.plan behaviour) face ≡ true
      → wrong g (made_now made behaviour fields os) (own (own_oid g (suc made)) face) ≡ 0
  made_fine face interface is =
      fine_own g (made_now made behaviour fields os) (own_oid g (suc made)) face
      (record {
        told = given_own g (suc made);
        identity = identity_named g (suc made) given.short (omega arith);
        interface = interface;
        supported = made_supports face is;
      })

  pub makes_fits : (t : Tables) → TablesFit g os made t → TablesFit g (made_now made behaviour fields os) (suc made) (makes_object behaviour fields t)
  unfolding makes_object
  makes_fits t fits =
      gains_all_fits g given (made_now made behaviour fields os) (suc made) (holder.Object (suc t.objects_made)) (refs_of_values fields)
      (record t { objects = t.objects ++ record { number = suc t.objects_made; behaviour = behaviour; fields = fields } ∷ []; objects_made = suc t.objects_made })
      (refs_last g os (made_now made behaviour fields os) lasts (refs_of_values fields) fine)
      (record {
        same = ap (λ n. t.objects ++ record { number = suc n; behaviour = behaviour; fields = fields } ∷ []) fits.counted
            ∙ ap (λ before. before ++ record { number = suc made; behaviour = behaviour; fields = fields } ∷ []) fits.same;
        counted = ap suc fits.counted;
        held = more.held;
        sent = more.sent;
        sayable = fits.sayable;
      })
    where
      more : TablesFit g (made_now made behaviour fields os) (suc made) (record t { objects = made_now made behaviour fields os; objects_made = suc made })
      more = tables_more g os (made_now made behaviour fields os) lasts (suc made) made t fits
