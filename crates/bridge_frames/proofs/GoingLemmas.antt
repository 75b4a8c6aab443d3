-- A method that goes on with what was returned: the statement that waited, what it takes, and the stacks behind it; and roots that are answered.
use Rattle.std.proofs.Common.{◌≡◌, ℕ, zero, suc, ◌+◌, List, [], ◌∷◌, ◌++◌, map, Option, None, Some, IsSome, if◌then◌else◌, slice_get, true, refl, sym, ap, subst, ◌∙◌, arith}
use Rattle.std.proofs.lemmas.List.{set-set}
use Rattle.std.specs.List.{insert}
use Rattle.message_model.specs.Calls.{numbered}
use Rattle.message_model.specs.Messages.{Answer, returned, raised}
use Rattle.uno_model.specs.Functions.{Function, functions_of}
use Rattle.uno_model.specs.Kinds.{Kind}
use Rattle.uno_model.specs.Values.{Ref, Plain, refs}
use Rattle.uno_model.specs.Values as v
use Rattle.uno_values.specs.Values.{plain_of}
use Rattle.uno_values.specs.declared.value.Value.{Value}
use Rattle.table_model.specs.declared.holder.Holder.TheVariants as holder
use Rattle.plan_model.specs.Effects.{method_for, methods_of}
use Rattle.plan_model.specs.Frames.{Variable, Body, Frame, base, body, Stack, first_frame, frames_of, is_body, top, with_top}
use Rattle.plan_model.specs.Holdings.{Taken, goes_on, is_taken, reference_of}
use Rattle.plan_model.specs.Plans.{Method}
use Rattle.plan_model.specs.Statements.{Statement}
use Rattle.frame_variables.specs.Taking.{refs_in}
use Rattle.bridge_model.specs.Handing.{behaviour_of, goes_on_with, root_gets, statement_at, statement_in, statement_of_function, taken_by}
use Rattle.bridge_model.specs.Objects.{object_numbered}
use Rattle.bridge_model.specs.References.{lets_go_all, refs_of_values}
use Rattle.bridge_model.specs.Settings.{Setting}
use Rattle.bridge_model.specs.Sides.{Object, Outcome, RootState, Tables, answer, answered, idle, state_of, states_with, waits_call, waits_query, with_root}
use Rattle.bridge_model.specs.Stacks.{puts_frames}
use Rattle.bridge_objects.specs.Kept as kept
use Rattle.bridge_tables.specs.EndTables.{EndTables, on_tables, with_tables}
use Rattle.bridge_frames.specs.Unwinding.{stacks_by, tables_by}
use Rattle.bridge_frames.proofs.StackLemmas.{found_put, puts_again, puts_top}

-- ---- the statement at which a method stands

of_living : (g : Setting) (n : ℕ) (o : Option Object) → kept.behaviour_of o ≡ Some n → behaviour_of g o ≡ slice_get g.plan.behaviours n
of_living g n None is = absurd (cc)
of_living g n (Some o) is = let same : o.behaviour ≡ n = cc in ap (slice_get g.plan.behaviours) same

module _ (g : Setting) (os : List Object) (b : Body) (face : List ℕ) (named : face ≡ b.face) where
  by_function : (f : Option Function) → f ≡ slice_get (functions_of g.registry face) b.function → statement_of_function g os b f ≡ statement_at g os b
  unfolding statement_at numbered
  by_function f there = ap (statement_of_function g os b) (there ∙ ap (λ x. slice_get (functions_of g.registry x) b.function) named)

  pub no_function : None ≡ slice_get (functions_of g.registry face) b.function → None ≡ statement_at g os b
  no_function there = by_function None there

  pub no_object : (f : Function) → Some f ≡ slice_get (functions_of g.registry face) b.function → object_numbered b.object os ≡ None → None ≡ statement_at g os b
  no_object f there none = ap (λ o. statement_in b.place (method_for f (methods_of (behaviour_of g o)))) (sym none) ∙ by_function (Some f) there

  pub in_method : (f : Function) (n : ℕ) (m : Option Method) → Some f ≡ slice_get (functions_of g.registry face) b.function → kept.behaviour_of (object_numbered b.object os) ≡ Some n
      → m ≡ method_for f (methods_of (slice_get g.plan.behaviours n)) → statement_in b.place m ≡ statement_at g os b
  in_method f n m there lives written =
      ap (statement_in b.place) (written ∙ ap (λ x. method_for f (methods_of x)) (sym (of_living g n (object_numbered b.object os) lives))) ∙ by_function (Some f) there

-- ---- what it takes

abbrev pub taken_as : List Variable → List Ref → Taken
taken_as variables gone = record { variables = variables; let_go = gone }

module _ (g : Setting) (os : List Object) (b : Body) (s : Option Statement) (x : Plain) (outs : List Plain) (xs : List Variable) (gone : List Ref) (at : s ≡ statement_at g os b)
    (taken : taken_as xs gone ≡ taken_by g s x outs b.variables) where
  all_taken : taken_as xs gone ≡ taken_by g (statement_at g os b) x outs b.variables
  all_taken = taken ∙ ap (λ z. taken_by g z x outs b.variables) at

  pub body_goes_on : record b { variables = xs; place = b.place + 1 } ≡ goes_on (taken_by g (statement_at g os b) x outs b.variables).variables b
  unfolding goes_on
  body_goes_on = let more : b.place + 1 ≡ suc b.place = omega arith in (λ i. record b { variables = (all_taken i).variables; place = more i })

  pub refs_gone : gone ≡ (taken_by g (statement_at g os b) x outs b.variables).let_go
  refs_gone = ap (λ t. t.let_go) all_taken

pub refs_same : (xs : List Value) → refs_of_values (map plain_of xs) ≡ refs_in xs
unfolding refs_of_values
refs_same xs = refl

-- the value and what came out, as one list
pub one_list : (x : Value) (xs all : List Value) → all ≡ insert xs 0 x → refs_in all ≡ refs (plain_of x) ++ refs_of_values (map plain_of xs)
unfolding refs_of_values
one_list x xs all is = ap refs_in is

-- ---- stacks

-- something else stands in the place of a method
pub top_stays : (tid : List ℕ) (f : Frame) (ss between : List Stack) → is_body (top tid ss) ≡ true → between ≡ with_top tid f ss → IsSome (top tid between)
top_stays tid f ss between method out = there (frames_of tid ss) refl method
  where
    there : (fs : List Frame) → frames_of tid ss ≡ fs → is_body (first_frame fs) ≡ true → IsSome (top tid between)
    there [] at is = absurd (cc)
    there (h ∷ fs) at is = subst (λ gs. IsSome (first_frame gs)) (sym (ap (frames_of tid) (out ∙ puts_top tid f h fs ss at) ∙ found_put tid f fs ss)) refl

module _ (tid : List ℕ) (ss : List Stack) (b r : Body) (fs : List Frame) (at : frames_of tid ss ≡ body b ∷ fs) (found : top tid ss ≡ Some (body r)) where
  same_body : r ≡ b
  same_body = let same : Some (body b) ≡ Some (body r) = sym (ap first_frame at) ∙ found in cc

  put_back : (now : Body) (between after : List Stack) → between ≡ with_top tid (base 0) ss → after ≡ with_top tid (body now) between → after ≡ puts_frames tid (body now ∷ fs) ss
  put_back now between after out back =
      let once : between ≡ puts_frames tid (base 0 ∷ fs) ss = out ∙ puts_top tid (base 0) (body b) fs ss at in
      back ∙ puts_top tid (body now) (base 0) fs between (ap (frames_of tid) once ∙ found_put tid (base 0) fs ss) ∙ ap (puts_frames tid (body now ∷ fs)) once
      ∙ puts_again tid (base 0) fs (body now ∷ fs) ss

  pub went_on_stacks : (g : Setting) (t : Tables) (x : Plain) (outs : List Plain) (now : Body) (between after : List Stack) → now ≡ goes_on (taken_by g (statement_at g t.objects r) x outs r.variables).variables r
      → between ≡ with_top tid (base 0) ss → after ≡ with_top tid (body now) between → after ≡ stacks_by tid (goes_on_with g b x outs fs t) ss
  unfolding goes_on_with
  went_on_stacks g t x outs now between after is out back =
      put_back now between after out back ∙ ap (λ z. puts_frames tid (body z ∷ fs) ss) is
      ∙ ap (λ z. puts_frames tid (body (goes_on (taken_by g (statement_at g t.objects z) x outs z.variables).variables z) ∷ fs) ss) same_body

  pub went_on_tables : (g : Setting) (x : Plain) (outs : List Plain) (rs : List Ref) (e after : EndTables) → rs ≡ (taken_by g (statement_at g e.tables.objects r) x outs r.variables).let_go
      → after ≡ on_tables (lets_go_all g (holder.Frame r.number) rs) e → after ≡ tables_by (goes_on_with g b x outs fs e.tables) e
  unfolding goes_on_with
  went_on_tables g x outs rs e after is here =
      here ∙ ap (λ qs. on_tables (lets_go_all g (holder.Frame r.number) qs) e) is
      ∙ ap (λ z. on_tables (lets_go_all g (holder.Frame z.number) (taken_by g (statement_at g e.tables.objects z) x outs z.variables).let_go) e) same_body

-- ---- roots

states_twice : (root : ℕ) (s u : RootState) (xs : List RootState) → states_with root u (states_with root s xs) ≡ states_with root u xs
unfolding states_with
states_twice zero s u xs = refl
states_twice (suc n) s u xs = set-set xs n s u

pub root_twice : (root : ℕ) (s u : RootState) (t : Tables) → with_root root u (with_root root s t) ≡ with_root root u t
root_twice root s u t = ap (λ xs. record t { roots = xs }) (states_twice root s u t.roots)

got_twice : (g : Setting) (root : ℕ) (before s : RootState) (a : Answer) (t : Tables) → root_gets g root s a (with_root root before t) ≡ root_gets g root s a t
unfolding root_gets
got_twice g root before (waits_query wanted) (returned x outs) t =
    ap (lets_go_all g (holder.Root root) (if is_taken g.registry wanted x then [] else refs x)) (root_twice root before (answered (answer (returned (v.ref (reference_of g.registry wanted x)) []))) t)
got_twice g root before (waits_query wanted) (raised k x) t = root_twice root before (answered (answer (raised k x))) t
got_twice g root before idle a t = root_twice root before (answered (answer a)) t
got_twice g root before waits_call a t = root_twice root before (answered (answer a)) t
got_twice g root before (answered o) a t = root_twice root before (answered (answer a)) t

got_else : (g : Setting) (root : ℕ) (s : RootState) (a : Answer) (t : Tables) → ((wanted : List ℕ) → ¬ (s ≡ waits_query wanted)) → with_root root (answered (answer a)) t ≡ root_gets g root s a t
unfolding root_gets
got_else g root (waits_query wanted) a t other = absurd (other wanted refl)
got_else g root idle a t other = refl
got_else g root waits_call a t other = refl
got_else g root (answered o) a t other = refl

module _ (g : Setting) (root : ℕ) (s : RootState) (a : Answer) (e between after : EndTables) (was : s ≡ state_of root e.tables.roots) (out : between ≡ on_tables (with_root root idle) e) where
  -- what a root gets that was idle in between
  pub root_got : after ≡ on_tables (root_gets g root s a) between → after ≡ on_tables (λ t. root_gets g root (state_of root t.roots) a t) e
  root_got here = here ∙ ap (on_tables (root_gets g root s a)) out ∙ ap (λ t. with_tables t e) (got_twice g root idle s a e.tables) ∙ ap (λ z. on_tables (root_gets g root z a) e) was

  pub outcome_got : ((wanted : List ℕ) → ¬ (s ≡ waits_query wanted)) → after ≡ on_tables (with_root root (answered (answer a))) between → after ≡ on_tables (λ t. root_gets g root (state_of root t.roots) a t) e
  outcome_got other here = root_got (here ∙ ap (λ t. with_tables t between) (got_else g root s a between.tables other))

module _ (g : Setting) (root : ℕ) (wanted : List ℕ) (a : Answer) (e : EndTables) where
  -- the reference that was wanted, and what is not
  pub reference_got : (x : Plain) (outs : List Plain) (r : Ref) (o : Outcome) (rest : List Ref) (between after : EndTables) → a ≡ returned x outs → r ≡ reference_of g.registry wanted x → o ≡ answer (returned (v.ref r) [])
      → rest ≡ (if is_taken g.registry wanted x then [] else refs x) → between ≡ on_tables (with_root root (answered o)) e → after ≡ on_tables (lets_go_all g (holder.Root root) rest) between
      → after ≡ on_tables (root_gets g root (waits_query wanted) a) e
  unfolding root_gets
  reference_got x outs r o rest between after is told outcome left set gone =
      let answers : o ≡ answer (returned (v.ref (reference_of g.registry wanted x)) []) = outcome ∙ ap (λ q. answer (returned (v.ref q) [])) told in
      gone ∙ ap (on_tables (lets_go_all g (holder.Root root) rest)) set
      ∙ (λ i. on_tables (λ t. lets_go_all g (holder.Root root) (left i) (with_root root (answered (answers i)) t)) e)
      ∙ ap (λ z. on_tables (root_gets g root (waits_query wanted) z) e) (sym is)

  pub all_got : (x : Plain) (outs : List Plain) (r : Ref) (o : Outcome) (between : EndTables) → a ≡ returned x outs → r ≡ reference_of g.registry wanted x → o ≡ answer (returned (v.ref r) [])
      → [] ≡ (if is_taken g.registry wanted x then [] else refs x) → between ≡ on_tables (with_root root (answered o)) e → between ≡ on_tables (root_gets g root (waits_query wanted) a) e
  unfolding lets_go_all
  all_got x outs r o between is told outcome left set = reference_got x outs r o [] between between is told outcome left set refl

  pub exception_got : (k : Kind) (x : Plain) (after : EndTables) → a ≡ raised k x → after ≡ on_tables (with_root root (answered (answer (raised k x)))) e
      → after ≡ on_tables (root_gets g root (waits_query wanted) a) e
  unfolding root_gets
  exception_got k x after is here = here ∙ ap (λ z. on_tables (root_gets g root (waits_query wanted) z) e) (sym is)
