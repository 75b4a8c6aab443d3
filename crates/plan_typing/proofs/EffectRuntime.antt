-- The RuntimeException that a statement raises fits, in a registry that has the built-in entities.
use Rattle.std.proofs.Common.{◌≡◌, ◌≢◌, refl, sym, ap, ◌∙◌, ℕ, zero, suc, Bool, true, false, List, [], ◌∷◌, ◌++◌, length, map, Option, None, Some, arith}
use Rattle.std.specs.Prelude.{IsTrue}
use Rattle.std.proofs.lemmas.List.{append-nil}
use mathlib.Core.Logic.{inl, inr}
use mathlib.Core.Path.{subst}
use Rattle.uno_model.specs.BuiltIn.{HasBuiltIn, built_in, runtime_exception, base_exception, x_interface, runtime_exception_name, exception_name, x_interface_name, message_field, context_field}
use Rattle.uno_model.specs.Entities.{Entity, Field}
use Rattle.uno_model.specs.Fits.{Fits, FitEach, member_kinds, IsInterface}
use Rattle.uno_model.specs.Kinds as kd
use Rattle.uno_model.specs.Registry.{find_entity, all_members, members_within}
use Rattle.uno_model.specs.Types.{is_type}
use Rattle.uno_model.specs.Values.{Plain, null}
use Rattle.uno_model.specs.Values as v

-- a registry with an entity has one
some_entity : (reg : List Entity) (name : List ℕ) (e : Entity) → find_entity name reg ≡ Some e → (n : ℕ) × (length reg ≡ suc n)
unfolding find_entity
some_entity [] name e found = absurd (cc)
some_entity (d ∷ ds) name e found = (length ds, refl)

module _ (reg : List Entity) (built : HasBuiltIn reg) where
  runtime_found : find_entity runtime_exception_name reg ≡ Some runtime_exception
  runtime_found = built.found runtime_exception (3, omega arith, refl)

  base_found : find_entity exception_name reg ≡ Some base_exception
  base_found = built.found base_exception (2, omega arith, refl)

  pub interface_found : find_entity x_interface_name reg ≡ Some x_interface
  interface_found = built.found x_interface (4, omega arith, refl)

  -- its members are those of Exception
  base_members : (levels : ℕ) → members_within (suc levels) reg exception_name ≡ message_field ∷ (context_field ∷ [])
  unfolding members_within
  base_members levels = rw base_found refl

  runtime_members : (levels : ℕ) → members_within (suc (suc levels)) reg runtime_exception_name ≡ message_field ∷ (context_field ∷ [])
  unfolding members_within
  runtime_members levels = rw runtime_found (rw (base_members levels) refl)

  pub runtime_kinds : member_kinds reg runtime_exception_name ≡ kd.str ∷ (kd.interface x_interface_name ∷ [])
  runtime_kinds =
      let some = some_entity reg exception_name base_exception base_found in
      ap (λ fs. map (λ f. f.kind) fs) (ap (λ n. members_within (suc n) reg runtime_exception_name) some.1 ∙ runtime_members some.0)

  -- both are types of the registry
  runtime_type : is_type reg (kd.exception runtime_exception_name) ≡ true
  runtime_type = rw runtime_found refl

  interface_type : IsInterface reg x_interface_name
  interface_type = rw interface_found refl

  -- an exception of a message and no context
  pub runtime_fits : (message : List ℕ) → Fits reg (v.any (kd.exception runtime_exception_name) (v.tuple runtime_exception_name (v.more (v.str message) (v.more (v.ref null) v.none)))) kd.any
  unfolding Fits FitEach
  runtime_fits message = (refl, (λ e. absurd (cc)), runtime_type, (inr refl, runtime_type, rw runtime_kinds (refl, (interface_type, tt))))

  base_kinds : member_kinds reg exception_name ≡ kd.str ∷ (kd.interface x_interface_name ∷ [])
  base_kinds =
      let some = some_entity reg exception_name base_exception base_found in
      ap (λ fs. map (λ f. f.kind) fs) (ap (λ n. members_within (suc n) reg exception_name) some.1 ∙ base_members (suc some.0))

  base_type : is_type reg (kd.exception exception_name) ≡ true
  base_type = rw base_found refl

  -- the same of the base of all exceptions
  pub base_fits : (message : List ℕ) → Fits reg (v.any (kd.exception exception_name) (v.tuple exception_name (v.more (v.str message) (v.more (v.ref null) v.none)))) kd.any
  unfolding Fits FitEach
  base_fits message = (refl, (λ e. absurd (cc)), base_type, (inr refl, base_type, rw base_kinds (refl, (interface_type, tt))))
