-- What a root may give.
use Rattle.std.proofs.Common.{◌≡◌, ◌≢◌, ◌↔◌, IsTrue, Bool, length, refl, sym, ap, ◌∙◌, ℕ, ◌≤◌, ◌<◌, ◌^◌, List, [], ◌∷◌, true, false, Option, None, Some, slice_get, subst, ◌==◌, arith}
use Rattle.std.proofs.lemmas.Bool.{eqb-true, true≢false}
use Rattle.message_model.specs.Calls.{kinds_on, argument_kinds, numbered}
use Rattle.message_model.specs.Messages.{request}
use Rattle.message_model.specs.Sayable.{IsCalled, IsThread, MayBeSaid}
use Rattle.uno_model.specs.BuiltIn.{HasBuiltIn, x_interface_name, query_interface}
use Rattle.uno_model.specs.Entities.{Entity}
use Rattle.uno_model.specs.Fits.{Fits, FitEach, IsIdentity, IsInterface}
use Rattle.uno_model.specs.Functions.{Function}
use Rattle.uno_model.specs.Kinds.{Kind}
use Rattle.uno_model.specs.Functions as fn
use Rattle.uno_model.specs.Functions.{functions_of}
use Rattle.uno_model.specs.Sound.{IsSound}
use Rattle.uno_model.specs.Values.{Plain, plains, depth, depth_in}
use Rattle.plan_model.specs.Forms.{is_export_name}
use Rattle.plan_model.specs.Plans.{Plan, Behaviour, faces_in, faces_of, manager, supports}
use Rattle.plan_typing.specs.Effects.{MakingFits}
use Rattle.plan_typing.proofs.CalleeNumbers.{query_at}
use Rattle.plan_typing.proofs.EffectCalls.{interface_there}
use Rattle.bridge_model.specs.Calls.{query_args}
use Rattle.bridge_model.specs.Entries.{asked}
use Rattle.bridge_model.specs.Settings.{Setting, root_tid}
use Rattle.bridge_laws.proofs.TableLaws.{thread_named}
use Rattle.bridge_laws.specs.Giving.{MayBeCalled, MayGive}

-- a test whose answer is no, of what follows from a claim
pub refuted : {A X : Type 0} (answer : Bool) → (IsTrue answer ↔ A) → answer ≡ false → (X → A) → IsTrue false ↔ X
refuted answer told no_such follows = (λ there. absurd (true≢false (sym there)), λ x. absurd (true≢false (sym (told.1 (follows x)) ∙ no_such)))

-- ---- what a root asks for

-- an object is asked for an interface
pub query_said : (reg : List Entity) → IsSound reg → HasBuiltIn reg → (tid oid face wanted : List ℕ) → IsThread tid → IsIdentity oid → IsInterface reg face → IsInterface reg wanted
    → MayBeSaid reg (request tid oid face 0 (query_args wanted))
unfolding Fits FitEach kinds_on depth depth_in
query_said reg sound built tid oid face wanted thread identity there wished =
    let called : IsCalled reg face 0 (fn.call x_interface_name query_interface) =
    record {
      interface = there;
      found = query_at reg sound built face (interface_there reg face there);
      small = omega arith;
      no_acquire = λ is. omega (arith, is);
      no_release = λ is. omega (arith, is);
    } in
    (fn.call x_interface_name query_interface, called, thread, identity, record { fit = ((refl, wished), tt); deep = omega arith })

-- and only for an interface
pub said_wanted : (reg : List Entity) → IsSound reg → HasBuiltIn reg → (tid oid face wanted : List ℕ) → MayBeSaid reg (request tid oid face 0 (query_args wanted))
    → IsInterface reg wanted
unfolding Fits FitEach kinds_on
said_wanted reg sound built tid oid face wanted (f, called, thread, identity, fill) =
    let at : numbered reg face 0 ≡ Some (fn.call x_interface_name query_interface) = query_at reg sound built face (interface_there reg face called.interface) in
    let same : f ≡ fn.call x_interface_name query_interface = option_same (sym called.found ∙ at) in
    let fit : FitEach reg (plains (query_args wanted)) (argument_kinds (fn.call x_interface_name query_interface)) =
    subst (λ g. FitEach reg (plains (query_args wanted)) (argument_kinds g)) same fill.fit in
    fit.0.1
  where
    option_same : {f g : Function} → Some f ≡ Some g → f ≡ g
    option_same is = cc

-- a name is asked for that has the form of an export's
pub name_refused : (g : Setting) (root : ℕ) (name wanted : List ℕ) → is_export_name name ≡ false → IsTrue false ↔ MayGive g (asked root name wanted)
name_refused g root name wanted other = (λ there. absurd (true≢false (sym there)), λ gives. absurd (true≢false (sym gives.0 ∙ other)))

pub name_given : (g : Setting) (root : ℕ) (name wanted : List ℕ) (answer : Bool) → is_export_name name ≡ true
    → (IsTrue answer ↔ MayBeSaid g.registry (request (root_tid g root) name x_interface_name 0 (query_args wanted))) → IsTrue answer ↔ MayGive g (asked root name wanted)
name_given g root name wanted answer is told = (λ there. (is, told.0 there), λ gives. told.1 gives.1)

-- ---- what a root calls with

nothing_fits : (reg : List Entity) (vs : List Plain) → (length vs == 0) ≡ true → FitEach reg (plains vs) []
unfolding FitEach
nothing_fits reg [] none = tt
nothing_fits reg (v ∷ vs) none = let bad : ⊥ = omega (arith, eqb-true (length (v ∷ vs)) 0 none) in absurd bad

fits_nothing : (reg : List Entity) (vs : List Plain) → FitEach reg (plains vs) [] → (length vs == 0) ≡ true
unfolding FitEach
fits_nothing reg [] fit = refl
fits_nothing reg (v ∷ vs) fit = absurd fit

none_fit : (reg : List Entity) (vs : List Plain) (k : Kind) (ks : List Kind) → length vs ≡ 0 → FitEach reg (plains vs) (k ∷ ks) → ⊥
unfolding FitEach
none_fit reg [] k ks none fit = fit
none_fit reg (v ∷ vs) k ks none fit = omega (arith, none)

one_fits : (reg : List Entity) (v : Plain) (vs : List Plain) (k : Kind) (ks : List Kind) → Fits reg v k → FitEach reg (plains vs) ks → FitEach reg (plains (v ∷ vs)) (k ∷ ks)
unfolding FitEach
one_fits reg v vs k ks here rest = (here, rest)

-- values that are left, the types of those that are left, and those behind the next parameter
module _ (reg : List Entity) (left : List Plain) (ks after : List Kind) (all : Type 0) (kept : FitEach reg (plains left) ks ↔ all) where
  -- the next parameter carries no value
  pub passed_over : ks ≡ after → FitEach reg (plains left) after ↔ all
  passed_over is = (λ fit. kept.0 (subst (λ zs. FitEach reg (plains left) zs) (sym is) fit), λ a. subst (λ zs. FitEach reg (plains left) zs) is (kept.1 a))

  -- it carries a value, which the first one is
  first_of : (k : Kind) → ks ≡ k ∷ after → (v : Plain) (vs : List Plain) → left ≡ v ∷ vs → all → Fits reg v k × FitEach reg (plains vs) after
  unfolding FitEach
  first_of k is v vs split a = subst (λ zs. FitEach reg (plains zs) (k ∷ after)) split (subst (λ zs. FitEach reg (plains left) zs) is (kept.1 a))

  -- the first one fits
  pub goes_on : (k : Kind) → ks ≡ k ∷ after → (v : Plain) (vs : List Plain) → left ≡ v ∷ vs → (answer : Bool) → (IsTrue answer ↔ Fits reg v k) → answer ≡ true → FitEach reg (plains vs) after ↔ all
  goes_on k is v vs split answer told there = (
    λ fit. kept.0 (subst (λ zs. FitEach reg (plains left) zs) (sym is) (subst (λ zs. FitEach reg (plains zs) (k ∷ after)) (sym split) (one_fits reg v vs k after (told.0 there) fit))),
    λ a. (first_of k is v vs split a).1,
  )

  -- or it does not, or there is none
  pub unfit : (k : Kind) → ks ≡ k ∷ after → (v : Plain) (vs : List Plain) → left ≡ v ∷ vs → (answer : Bool) → (IsTrue answer ↔ Fits reg v k) → answer ≡ false → IsTrue false ↔ all
  unfit k is v vs split answer told no_such = refuted answer told no_such (λ a. (first_of k is v vs split a).0)

  pub too_few : (k : Kind) → ks ≡ k ∷ after → length left ≡ 0 → IsTrue false ↔ all
  too_few k is none =
      (λ there. absurd (true≢false (sym there)), λ a. absurd (none_fit reg left k after none (subst (λ zs. FitEach reg (plains left) zs) is (kept.1 a))))

  -- at the end nothing may be left
  pub none_left : ks ≡ [] → (answer : Bool) → answer ≡ (length left == 0) → IsTrue answer ↔ all
  none_left none answer told = (
    λ there. kept.0 (subst (λ zs. FitEach reg (plains left) zs) (sym none) (nothing_fits reg left (sym told ∙ there))),
    λ a. told ∙ fits_nothing reg left (subst (λ zs. FitEach reg (plains left) zs) none (kept.1 a)),
  )

-- a function that may be called, with values that fit it
pub call_given : (g : Setting) (root : ℕ) (reg : List Entity) (oid face : List ℕ) (number : ℕ) (f : Function) (args : List Plain) → g.registry ≡ reg → IsThread (root_tid g root) → IsIdentity oid
    → IsInterface reg face → slice_get (functions_of reg face) number ≡ Some f → number < 2 ^ 16 → 3 ≤ number → FitEach reg (plains args) (argument_kinds f)
    → MayBeCalled g root oid face number args
unfolding numbered
call_given g root reg oid face number f args same thread identity there found small real fit =
    let called : IsCalled reg face number f =
    record {
      interface = there;
      found = found;
      small = small;
      no_acquire = λ is. omega (arith, is, real);
      no_release = λ is. omega (arith, is, real);
    } in
    record {
      real = real;
      declared = f;
      called = subst (λ r. IsCalled r face number f) (sym same) called;
      thread = thread;
      identity = identity;
      fit = subst (λ r. FitEach r (plains args) (argument_kinds f)) (sym same) fit;
    }

-- the first three functions of an interface are no calls
pub no_call : (g : Setting) (root : ℕ) (oid face : List ℕ) (number : ℕ) (args : List Plain) → number < 3 → IsTrue false ↔ MayBeCalled g root oid face number args
no_call g root oid face number args less = (λ there. absurd (true≢false (sym there)), λ may. let real = may.real in absurd (omega arith))

-- a function that may be called is there
called_found : (g : Setting) (root : ℕ) (reg : List Entity) (oid face : List ℕ) (number : ℕ) (args : List Plain) → g.registry ≡ reg → (may : MayBeCalled g root oid face number args)
    → slice_get (functions_of reg face) number ≡ Some may.declared
unfolding numbered
called_found g root reg oid face number args same may = subst (λ r. slice_get (functions_of r face) number ≡ Some may.declared) same may.called.found

pub no_function : (g : Setting) (root : ℕ) (reg : List Entity) (oid face : List ℕ) (number : ℕ) (args : List Plain) → g.registry ≡ reg → slice_get (functions_of reg face) number ≡ None
    → IsTrue false ↔ MayBeCalled g root oid face number args
no_function g root reg oid face number args same none =
    (λ there. absurd (true≢false (sym there)), λ may. let bad : None ≡ Some may.declared = sym none ∙ called_found g root reg oid face number args same may in cc)

pub called_fit : (g : Setting) (root : ℕ) (reg : List Entity) (oid face : List ℕ) (number : ℕ) (f : Function) (args : List Plain) → g.registry ≡ reg
    → slice_get (functions_of reg face) number ≡ Some f → MayBeCalled g root oid face number args → FitEach reg (plains args) (argument_kinds f)
called_fit g root reg oid face number f args same found may =
    let one : Some may.declared ≡ Some f = sym (called_found g root reg oid face number args same may) ∙ found in
    let are : may.declared ≡ f = cc in
    subst (λ h. FitEach reg (plains args) (argument_kinds h)) are (subst (λ r. FitEach r (plains args) (argument_kinds may.declared)) same may.fit)

-- the thread of a root has a name
pub thread_of_root : (g : Setting) (root : ℕ) → length g.tag ≤ 32 → root < 2 ^ 32 → IsThread (root_tid g root)
thread_of_root g root short small = thread_named g root short (omega (arith, small))

-- ---- what a root makes

pub no_manager : (n : ℕ) → n ≢ 256 → n ≢ manager
unfolding manager
no_manager n other = other

module _ (reg : List Entity) (plan : Plan) (n : ℕ) (face : List ℕ) where
  pub no_manager_made : n ≡ 256 → IsTrue false ↔ ((n ≢ manager) × MakingFits reg plan n face)
  unfolding manager
  no_manager_made is = (λ there. absurd (true≢false (sym there)), λ both. absurd (both.0 is))

  faces_found : (n == 256) ≡ false → faces_of plan n ≡ faces_in (slice_get plan.behaviours n)
  unfolding faces_of manager
  faces_found other = rw other refl

  by_found : (b : Option Behaviour) → slice_get plan.behaviours n ≡ b → supports reg (faces_in b) face ≡ true → IsInterface reg face → MakingFits reg plan n face
  unfolding supports
  by_found (Some b) found fine is = record { made = b; found = found; supported = fine; interface = is }
  by_found None found fine is = absurd (cc)

  -- a behaviour other than the service manager may be made under an interface that its objects support
  pub may_make : (n == 256) ≡ false → supports reg (faces_of plan n) face ≡ true → IsInterface reg face → MakingFits reg plan n face
  may_make other fine is =
      by_found (slice_get plan.behaviours n) refl (subst (λ fs. supports reg fs face ≡ true) (faces_found other) fine) is

  pub made_supported : (n == 256) ≡ false → MakingFits reg plan n face → supports reg (faces_of plan n) face ≡ true
  made_supported other fits = ap (λ fs. supports reg fs face) (faces_found other ∙ ap faces_in fits.found) ∙ fits.supported
