-- Calls that begin: a method of an own object with what its arguments give, and a call that goes out.
use Rattle.std.proofs.Common.{◌≡◌, ℕ, ◌≤◌, ◌==◌, eqb-true, Bool, true, false, cond, ◌||◌, if◌then◌else◌, List, [], ◌∷◌, find, Option, None, Some, slice_get, refl, sym, ap, subst, ◌∙◌, arith}
use Rattle.std.specs.Option.{option_map}
use Rattle.std.specs.Str.{bytes_eq}
use Rattle.std.proofs.lemmas.Slice.Eq.{bytes_eq-Decides}
use Rattle.message_model.specs.Calls.{numbered, argument_kinds}
use Rattle.message_model.specs.Messages.{request}
use Rattle.message_model.specs.Sayable.{IsThread, IsCalled, Fill, message_weight}
use Rattle.message_model.proofs.FunctionKindLaws.{numbered_typed}
use Rattle.uno_model.specs.BuiltIn.{factory_name}
use Rattle.uno_model.specs.Entities.{Param}
use Rattle.uno_model.specs.Functions.{Function}
use Rattle.uno_model.specs.Reaches.{is_base_of}
use Rattle.uno_model.specs.Registry.{IsBaseOf}
use Rattle.uno_model.specs.Sound.{IsSound, is_storable}
use Rattle.uno_model.specs.Types.{is_type}
use Rattle.uno_model.specs.Values.{peer, own, Plain}
use Rattle.uno_model.proofs.AllLaws.{each_of_both}
use Rattle.uno_model.proofs.AssignableLaws.{base_told}
use Rattle.uno_model.proofs.Options.{same_some}
use Rattle.table_model.specs.declared.holder.Holder.TheVariants as holder
use Rattle.plan_model.specs.Contexts.{parameters}
use Rattle.plan_model.specs.Frames.{Body, Frame, base, body, outgoing}
use Rattle.plan_model.specs.Holdings.{first_variables}
use Rattle.plan_model.specs.Plans.{manager, faces_in, faces_of, supports}
use Rattle.plan_typing.specs.Going.{beginning_types}
use Rattle.plan_typing.specs.Scenes.{VariablesFit}
use Rattle.plan_typing.proofs.EffectFrames.{behaviour_fields, rest_begins}
use Rattle.plan_typing.proofs.EffectPlaces.{types_stand_first}
use Rattle.plan_typing.proofs.FrameFirst.{first_variables_fit}
use Rattle.bridge_laws.specs.Counting.{total}
use Rattle.bridge_laws.proofs.VariableLaws.{first_variables_owe}
use Rattle.bridge_model.specs.Calls.{params_of, first_body, calls_own, serves, calls_peer}
use Rattle.bridge_model.specs.Objects.{object_numbered, object_named, number_of, faces_at, object_supports, fields_of}
use Rattle.bridge_model.specs.References.{gains_all, takes_all, refs_of_values}
use Rattle.bridge_model.specs.Settings.{Setting, own_oid}
use Rattle.bridge_model.specs.Sides.{Object, Tables}
use Rattle.bridge_laws.proofs.Fine.{wrong}
use Rattle.bridge_laws.proofs.FramesFit.{behaviour_at, BodyFits, Pauses, FramesFit, UnwoundFits}
use Rattle.bridge_laws.proofs.TypedGiven.{IsGiven}
use Rattle.bridge_laws.proofs.TablesFit.{TablesFit}
use Rattle.bridge_laws.proofs.FineLaws.{peer_fine, OwnFine, own_fine, fine_own}
use Rattle.bridge_laws.proofs.TableLaws.{says_fits, gains_fits, gains_all_fits, takes_all_fits}

-- ---- objects by their names

-- an object that is found by its name, and supports an interface
pub record Named (g : Setting) (oid face : List ℕ) (os : List Object) : Type 0 where
  pub object : Object
  pub there : object_named g oid os ≡ Some object
  pub supported : supports g.registry (faces_of g.plan object.behaviour) face ≡ true

named_by : (g : Setting) (oid face : List ℕ) (os : List Object) (o : Option Object) → object_named g oid os ≡ o → supports g.registry (faces_at g o) face ≡ true → Named g oid face os
unfolding faces_at supports
named_by g oid face os None there is = absurd (cc)
named_by g oid face os (Some o) there is = record { object = o; there = there; supported = is }

pub named_object : (g : Setting) (oid face : List ℕ) (os : List Object) → object_supports g oid face os ≡ true → Named g oid face os
unfolding object_supports
named_object g oid face os is = named_by g oid face os (object_named g oid os) refl is

named_itself_by : (g : Setting) (oid : List ℕ) (x o : Object) (rest : Option Object) (b : Bool) → bytes_eq oid (own_oid g x.number) ≡ b
    → (rest ≡ Some o → oid ≡ own_oid g o.number) → cond b (Some x) rest ≡ Some o → oid ≡ own_oid g o.number
named_itself_by g oid x o rest true is behind found =
    (bytes_eq-Decides oid (own_oid g x.number)).0 is ∙ ap (λ (y : Object). own_oid g y.number) (same_some found)
named_itself_by g oid x o rest false is behind found = behind found

-- it has that name
pub named_itself : (g : Setting) (oid : List ℕ) (os : List Object) (o : Object) → object_named g oid os ≡ Some o → oid ≡ own_oid g o.number
unfolding object_named
named_itself g oid [] o found = absurd (cc)
named_itself g oid (x ∷ os) o found =
    named_itself_by g oid x o (find (λ o. bytes_eq oid (own_oid g o.number)) os) (bytes_eq oid (own_oid g x.number)) refl (named_itself g oid os o) found

numbered_by : (g : Setting) (oid : List ℕ) (x o : Object) (os : List Object) (b c : Bool) → bytes_eq oid (own_oid g x.number) ≡ b → (o.number == x.number) ≡ c
    → oid ≡ own_oid g o.number → (object_named g oid os ≡ Some o → object_numbered o.number os ≡ Some o) → cond b (Some x) (object_named g oid os) ≡ Some o
    → cond c (Some x) (object_numbered o.number os) ≡ Some o
numbered_by g oid x o os true true is same itself behind found = found
numbered_by g oid x o os true false is same itself behind found =
    let one : x ≡ o = same_some found in
    let bad : (o.number == o.number) ≡ false = ap (λ (y : Object). o.number == y.number) (sym one) ∙ same in absurd (not_itself o.number bad)
  where
    not_itself : (n : ℕ) → (n == n) ≡ false → ⊥
    not_itself n bad = absurd (grind (arith, eqb-true))
numbered_by g oid x o os false true is same itself behind found =
    let alike = ap (own_oid g) (eqb-true o.number x.number same) in
    let told = (bytes_eq-Decides oid (own_oid g x.number)).1 (itself ∙ alike) in absurd (cc)
numbered_by g oid x o os false false is same itself behind found = behind found

-- and is found by its number
pub named_numbered : (g : Setting) (oid : List ℕ) (os : List Object) (o : Object) → object_named g oid os ≡ Some o → object_numbered o.number os ≡ Some o
unfolding object_named object_numbered
named_numbered g oid [] o found = absurd (cc)
named_numbered g oid (x ∷ os) o found =
    numbered_by g oid x o os (bytes_eq oid (own_oid g x.number)) (o.number == x.number) refl refl (named_itself g oid (x ∷ os) o found) (named_numbered g oid os o) found

-- ---- methods that begin

manager_face : (g : Setting) → IsSound g.registry → (n : ℕ) (face : List ℕ) (b : Bool) → (n == manager) ≡ b
    → supports g.registry (if b then factory_name ∷ [] else faces_in (slice_get g.plan.behaviours n)) face ≡ true → b ≡ true → IsBaseOf g.registry face factory_name
unfolding supports
manager_face g sound n face true is supported one = (base_told g.registry face factory_name sound.no_circle).0 (first_of (is_base_of g.registry face factory_name) supported)
  where
    first_of : (b : Bool) → (b || false) ≡ true → b ≡ true
    first_of true is = refl
    first_of false is = absurd (cc)
manager_face g sound n face false is supported one = absurd (cc)

-- the service manager is called under a base of its interface
manages : (g : Setting) → IsSound g.registry → (n : ℕ) (face : List ℕ) → supports g.registry (faces_of g.plan n) face ≡ true → (n == manager) ≡ true → IsBaseOf g.registry face factory_name
unfolding faces_of
manages g sound n face supported is = manager_face g sound n face (n == manager) refl supported is

-- what a call gives to a function, with references that are fine
pub record Gives (g : Setting) (os : List Object) (face : List ℕ) (function : ℕ) (f : Function) (args : List Plain) : Type 0 where
  pub called : IsCalled g.registry face function f
  pub fill : Fill g.registry args (argument_kinds f)
  pub fine : total (wrong g os) (refs_of_values args) ≡ 0

module _ (g : Setting) (given : IsGiven g) (os : List Object) (made : ℕ) where
  itself_fine : (oid face : List ℕ) (o : Object) → object_named g oid os ≡ Some o → OwnFine g os oid face → wrong g os (own (own_oid g o.number) face) ≡ 0
  itself_fine oid face o there fine = subst (λ name. wrong g os (own name face) ≡ 0) (named_itself g oid os o there) (fine_own g os oid face fine)

  arguments_fit : (face : List ℕ) (function : ℕ) (f : Function) (args : List Plain) → Gives g os face function f args
      → VariablesFit g.registry (first_variables g.registry f.params args) (parameters f.params)
  arguments_fit face function f args gives =
      let params = (numbered_typed g.registry given.sound face function f gives.called.found).1 in
      let kinds = (each_of_both (λ (p : Param). is_storable p.kind) (λ p. is_type g.registry p.kind) f.params params).1 in
      first_variables_fit g.registry given.sound f.params args kinds gives.fill.fit

  -- a method of an object that is named, at its first statement
  abbrev method_at : Bool → (object : ℕ) → (face : List ℕ) → ℕ → List Param → List Plain → (number : ℕ) → Body
  method_at from_peer object face function ps args number =
      record { number = number; object = object; face = face; function = function; from_peer = from_peer; variables = first_variables g.registry ps args; place = 0 }

  method_fits : (from_peer : Bool) (oid face : List ℕ) (function : ℕ) (f : Function) (args : List Plain) (number : ℕ) (object : Named g oid face os) → Gives g os face function f args
      → OwnFine g os oid face
      → BodyFits g os (method_at from_peer object.object.number face function f.params args number) object.object.behaviour f
      (beginning_types f (fields_of g object.object.behaviour))
  unfolding behaviour_at
  method_fits from_peer oid face function f args number object gives fine =
      let owed = first_variables_owe (wrong g os) g.registry f.params args in let none = gives.fine in
      record {
        called = gives.called;
        found = ap (option_map (λ o. o.behaviour)) (named_numbered g oid os object.object object.there);
        fields = refl;
        itself = refl;
        stand =
            types_stand_first g.registry given.differ given.sound face function f (fields_of g object.object.behaviour) f.owner gives.called.found
            (behaviour_fields g.registry given.sound g.plan object.object.behaviour given.typed);
        variables = arguments_fit face function f args gives;
        fine = omega arith;
        held = itself_fine oid face object.object object.there fine;
      }

  first_is : (from_peer : Bool) (oid face : List ℕ) (function : ℕ) (f : Function) (args : List Plain) (t : Tables) (object : Named g oid face os) → t.objects ≡ os
      → numbered g.registry face function ≡ Some f
      → first_body g from_peer oid face function args t ≡ method_at from_peer object.object.number face function f.params args t.frames_made
  first_is from_peer oid face function f args t object same found =
      ap (λ o. method_at from_peer (number_of o) face function (params_of (numbered g.registry face function)) args t.frames_made) (ap (object_named g oid) same ∙ object.there)
      ∙ ap (λ h. method_at from_peer object.object.number face function (params_of h) args t.frames_made) found

  begun_fits : (from_peer : Bool) (oid face : List ℕ) (function : ℕ) (f : Function) (args : List Plain) (t : Tables) (object : Named g oid face os) → t.objects ≡ os
      → Gives g os face function f args → OwnFine g os oid face
      → BodyFits g os (first_body g from_peer oid face function args t) object.object.behaviour f (beginning_types f (fields_of g object.object.behaviour))
  begun_fits from_peer oid face function f args t object same gives fine =
      subst (λ b. BodyFits g os b object.object.behaviour f (beginning_types f (fields_of g object.object.behaviour)))
      (sym (first_is from_peer oid face function f args t object same gives.called.found))
      (method_fits from_peer oid face function f args t.frames_made object gives fine)

  no_peer : {X : Type 0} → false ≡ true → X
  no_peer is = absurd (cc)

  -- an own object is called from here: the frame below waits for its function
  pub calls_own_fits : (oid face : List ℕ) (function : ℕ) (f : Function) (args : List Plain) (fs : List Frame) (t : Tables) → Gives g os face function f args
      → wrong g os (own oid face) ≡ 0 → FramesFit g os (Some f) fs → TablesFit g os made t → UnwoundFits g os made (calls_own g oid face function args fs t)
  unfolding calls_own FramesFit
  calls_own_fits oid face function f args fs t gives target below fit =
      let fine = own_fine g os oid face target in
      let object = named_object g oid face os fine.supported in
      let begun = begun_fits false oid face function f args t object fit.same gives fine in
      record {
        frames = (
          record {
            behaviour = object.object.behaviour;
            function = f;
            types = beginning_types f (fields_of g object.object.behaviour);
            fits = begun;
            rest =
                rest_begins g.registry given.sound given.differ g.plan given.typed object.object.behaviour face function f gives.called.found
                (manages g given.sound object.object.behaviour face object.supported);
            begun = λ is. refl;
          },
          no_peer,
          below,
        );
        tables =
            gains_fits g given os made (holder.Frame t.frames_made) (own (own_oid g (number_of (object_named g oid t.objects))) face)
            (gains_all (holder.Frame t.frames_made) (refs_of_values args) t) begun.held
            (gains_all_fits g given os made (holder.Frame t.frames_made) (refs_of_values args) t gives.fine fit);
      }

  -- frames that pause wait for any function
  waited : (f : Function) (fs : List Frame) → Pauses fs → FramesFit g os None fs → FramesFit g os (Some f) fs
  unfolding FramesFit
  waited f [] rests fit = fit
  waited f (base root ∷ fs) rests fit = fit
  waited f (outgoing o ∷ fs) rests fit = fit
  waited f (body b ∷ fs) rests fit = absurd rests

  -- the peer calls it
  pub serves_fits : (oid face : List ℕ) (function : ℕ) (f : Function) (args : List Plain) (fs : List Frame) (t : Tables) → Gives g os face function f args
      → wrong g os (own oid face) ≡ 0 → Pauses fs → FramesFit g os None fs → TablesFit g os made t → UnwoundFits g os made (serves g oid face function args fs t)
  unfolding serves FramesFit
  serves_fits oid face function f args fs t gives target rests below fit =
      let fine = own_fine g os oid face target in
      let object = named_object g oid face os fine.supported in
      let begun = begun_fits true oid face function f args t object fit.same gives fine in
      record {
        frames = (
          record {
            behaviour = object.object.behaviour;
            function = f;
            types = beginning_types f (fields_of g object.object.behaviour);
            fits = begun;
            rest =
                rest_begins g.registry given.sound given.differ g.plan given.typed object.object.behaviour face function f gives.called.found
                (manages g given.sound object.object.behaviour face object.supported);
            begun = λ is. refl;
          },
          λ from_peer. rests,
          waited f fs rests below,
        );
        tables =
            gains_fits g given os made (holder.Frame t.frames_made) (own (own_oid g (number_of (object_named g oid t.objects))) face)
            (takes_all g (holder.Frame t.frames_made) (refs_of_values args) t) begun.held
            (takes_all_fits g given os made (holder.Frame t.frames_made) (refs_of_values args) t gives.fine fit);
      }

  -- an object of the peer's is called
  pub calls_peer_fits : (tid oid face : List ℕ) (function : ℕ) (f : Function) (args : List Plain) (fs : List Frame) (t : Tables) → IsThread tid → wrong g os (peer oid face) ≡ 0
      → Gives g os face function f args → message_weight (request tid oid face function args) ≤ 16777216 → FramesFit g os (Some f) fs → TablesFit g os made t
      → UnwoundFits g os made (calls_peer g tid oid face function args fs t)
  unfolding calls_peer FramesFit total
  calls_peer_fits tid oid face function f args fs t thread target gives light below fit =
      let none = gives.fine in
      record {
        frames = (f, gives.called, below);
        tables =
            says_fits g given os made (request tid oid face function args) t (record { may = (f, gives.called, thread, (peer_fine g os oid face target).identity, gives.fill); light = light }) (omega arith) fit;
      }
