-- Effects on a method's own variables, on the fields of its object, and on the objects that it makes.
use Rattle.std.specs.Prelude.{IsSome}
use Rattle.std.proofs.Common.{◌≡◌, ℕ, suc, true, List, [], ◌∷◌, Some, is_some, refl, sym, ap, ◌∙◌}
use Rattle.uno_model.specs.Kinds.{Kind}
use Rattle.uno_model.specs.Values.{Plain, Ref, own, refs}
use Rattle.uno_model.specs.Values as v
use Rattle.uno_values.specs.References.{ref_of}
use Rattle.uno_values.specs.Values.{any_step, plain_of, plain_step}
use Rattle.uno_values.specs.declared.reference.Reference.{Reference}
use Rattle.uno_values.specs.declared.value.Value.TheFolds.{fold-roll-Value}
use Rattle.uno_values.specs.declared.value.Value.TheVariants.{Ref as Referring, rolls-Ref}
use Rattle.table_model.specs.declared.holder.Holder.TheVariants as holder
use Rattle.plan_model.specs.Asking.{lets, sets, sets_field, drops}
use Rattle.plan_model.specs.Evaluation.{value_under}
use Rattle.plan_model.specs.Frames.{Body, Variable, Frame, base, body, Stack, first_frame, frames_of, is_body, top, with_top}
use Rattle.plan_model.specs.Holdings.{fields_after, goes_on, held_by, let_go_by, put, variables_after, with_variable, without}
use Rattle.bridge_model.specs.Applying.{goes_on_after, applies_making}
use Rattle.bridge_model.specs.References.{gains_all, lets_go_all}
use Rattle.bridge_model.specs.Settings.{Setting, own_oid}
use Rattle.bridge_model.specs.Sides.{Tables}
use Rattle.bridge_model.specs.Stacks.{puts_frames}
use Rattle.bridge_tables.specs.EndTables.{EndTables, on_tables}
use Rattle.bridge_tables.specs.Fields.{sets_field_of}
use Rattle.bridge_frames.specs.Unwinding.{stacks_by, tables_by}
use Rattle.bridge_frames.proofs.StackLemmas.{found_put, puts_again, puts_top}

-- ---- a method that is taken out, and goes on

has_top : (tid : List ℕ) (fs : List Frame) (ss taken : List Stack) → frames_of tid ss ≡ fs → is_body (first_frame fs) ≡ true → taken ≡ with_top tid (base 0) ss → IsSome (top tid taken)
has_top tid [] ss taken these method is = absurd (cc)
has_top tid (f ∷ fs) ss taken these method is =
    ap (λ gs. is_some (first_frame gs)) (ap (frames_of tid) (is ∙ puts_top tid (base 0) f fs ss these) ∙ found_put tid (base 0) fs ss)

-- something stands in its place
pub still_top : (tid : List ℕ) (ss taken : List Stack) → is_body (top tid ss) ≡ true → taken ≡ with_top tid (base 0) ss → IsSome (top tid taken)
still_top tid ss taken method is = has_top tid (frames_of tid ss) ss taken refl method is

same_method : (tid : List ℕ) (ss : List Stack) (b r : Body) (fs : List Frame) → frames_of tid ss ≡ body b ∷ fs → top tid ss ≡ Some (body r) → r ≡ b
same_method tid ss b r fs these is = let e : Some (body r) ≡ Some (body b) = sym is ∙ ap first_frame these in cc

module _ (tid : List ℕ) (ss taken after : List Stack) (b r : Body) (fs : List Frame) (these : frames_of tid ss ≡ body b ∷ fs) (is : top tid ss ≡ Some (body r)) (out : taken ≡ with_top tid (base 0) ss) where
  put_back : (f : Frame) → after ≡ with_top tid f taken → after ≡ puts_frames tid (f ∷ fs) ss
  put_back f here =
      let first : taken ≡ puts_frames tid (base 0 ∷ fs) ss = out ∙ puts_top tid (base 0) (body b) fs ss these in
      let found : frames_of tid taken ≡ base 0 ∷ fs = ap (frames_of tid) first ∙ found_put tid (base 0) fs ss in
      here ∙ puts_top tid f (base 0) fs taken found ∙ ap (puts_frames tid (f ∷ fs)) first ∙ puts_again tid (base 0) fs (f ∷ fs) ss

  -- it stands again above the others, with other variables and at the next statement
  pub gone_on : (vs ws xs : List Variable) → vs ≡ xs → after ≡ with_top tid (body (goes_on vs (record r { variables = ws }))) taken → after ≡ puts_frames tid (body (goes_on xs b) ∷ fs) ss
  unfolding goes_on
  gone_on vs ws xs variables here =
      put_back (body (goes_on vs (record r { variables = ws }))) here ∙ (λ i. puts_frames tid (body (goes_on (variables i) (same_method tid ss b r fs these is i)) ∷ fs) ss)

  pub let_on : (name : List ℕ) (x : Plain) (vs : List Variable) (g : Setting) (t : Tables) → vs ≡ with_variable name x r.variables
      → after ≡ with_top tid (body (goes_on vs (record r { variables = vs }))) taken → after ≡ stacks_by tid (goes_on_after g (lets (record { name = name; value = x })) b fs t) ss
  unfolding variables_after
  let_on name x vs g t more here = gone_on vs vs (with_variable name x b.variables) (more ∙ ap (λ c. with_variable name x c.variables) (same_method tid ss b r fs these is)) here

  pub set_on : (name : List ℕ) (x : Plain) (vs : List Variable) (g : Setting) (t : Tables) → vs ≡ put name x r.variables
      → after ≡ with_top tid (body (goes_on vs (record r { variables = vs }))) taken → after ≡ stacks_by tid (goes_on_after g (sets (record { name = name; value = x })) b fs t) ss
  unfolding variables_after
  set_on name x vs g t other here = gone_on vs vs (put name x b.variables) (other ∙ ap (λ c. put name x c.variables) (same_method tid ss b r fs these is)) here

  pub drop_on : (name : List ℕ) (vs : List Variable) (g : Setting) (t : Tables) → vs ≡ without name r.variables
      → after ≡ with_top tid (body (goes_on vs (record r { variables = vs }))) taken → after ≡ stacks_by tid (goes_on_after g (drops name) b fs t) ss
  unfolding variables_after
  drop_on name vs g t fewer here = gone_on vs vs (without name b.variables) (fewer ∙ ap (λ c. without name c.variables) (same_method tid ss b r fs these is)) here

  pub field_on : (x : Variable) (g : Setting) (t : Tables) → after ≡ with_top tid (body (goes_on r.variables r)) taken → after ≡ stacks_by tid (goes_on_after g (sets_field x) b fs t) ss
  unfolding variables_after
  field_on x g t here = gone_on r.variables r.variables b.variables (ap (λ c. c.variables) (same_method tid ss b r fs these is)) here

  pub skip_on : after ≡ with_top tid (body (goes_on r.variables r)) taken → after ≡ puts_frames tid (body (goes_on b.variables b) ∷ fs) ss
  skip_on here = gone_on r.variables r.variables b.variables (ap (λ c. c.variables) (same_method tid ss b r fs these is)) here

  pub make_on : (g : Setting) (behaviour : ℕ) (face to : List ℕ) (n : ℕ) (t : Tables) → n ≡ suc t.objects_made
      → after ≡ with_top tid (body (goes_on (with_variable to (v.ref (own (own_oid g n) face)) r.variables) r)) taken → after ≡ stacks_by tid (applies_making g behaviour face to b fs t) ss
  make_on g behaviour face to n t number here =
      gone_on (with_variable to (v.ref (own (own_oid g n) face)) r.variables) r.variables (with_variable to (v.ref (own (own_oid g (suc t.objects_made)) face)) b.variables)
      (λ i. with_variable to (v.ref (own (own_oid g (number i)) face)) (same_method tid ss b r fs these is i).variables) here

-- a value that is a reference
pub plain_ref : (r : Reference) → plain_of (Referring r) ≡ v.ref (ref_of r)
plain_ref r = ap plain_of (sym (rolls-Ref r)) ∙ fold-roll-Value Plain (Kind × Plain) plain_step any_step _

-- its variables are others already
pub with_others : (tid : List ℕ) (r : Body) (vs ws xs : List Variable) (ss after : List Stack) → vs ≡ xs → after ≡ with_top tid (body (goes_on vs (record r { variables = ws }))) ss → after ≡ with_top tid (body (goes_on xs r)) ss
unfolding goes_on
with_others tid r vs ws xs ss after variables here = here ∙ (λ i. with_top tid (body (goes_on (variables i) r)) ss)

-- ---- what its effect does to the tables

module _ (tid : List ℕ) (ss : List Stack) (b r : Body) (fs : List Frame) (these : frames_of tid ss ≡ body b ∷ fs) (is : top tid ss ≡ Some (body r)) (g : Setting) (e after : EndTables) where
  pub let_held : (name : List ℕ) (x : Plain) (rs : List Ref) → rs ≡ refs x → after ≡ on_tables (gains_all (holder.Frame r.number) rs) e
      → after ≡ tables_by (goes_on_after g (lets (record { name = name; value = x })) b fs e.tables) e
  unfolding held_by let_go_by lets_go_all
  let_held name x rs found here = here ∙ (λ i. on_tables (gains_all (holder.Frame (same_method tid ss b r fs these is i).number) (found i)) e)

  pub set_held : (name : List ℕ) (x was : Plain) (rs : List Ref) (held : EndTables) → rs ≡ refs x → was ≡ value_under name r.variables → held ≡ on_tables (gains_all (holder.Frame r.number) rs) e
      → after ≡ on_tables (lets_go_all g (holder.Frame r.number) (refs was)) held → after ≡ tables_by (goes_on_after g (sets (record { name = name; value = x })) b fs e.tables) e
  unfolding held_by let_go_by
  set_held name x was rs held found old gained here =
      here
      ∙ (λ i. on_tables (lets_go_all g (holder.Frame r.number) (refs (old i))) (gained i))
      ∙ (λ i. on_tables (λ t. lets_go_all g (holder.Frame (same_method tid ss b r fs these is i).number) (refs (value_under name (same_method tid ss b r fs these is i).variables))
      (gains_all (holder.Frame (same_method tid ss b r fs these is i).number) (found i) t)) e)

  pub drop_held : (name : List ℕ) (was : Plain) → was ≡ value_under name r.variables → after ≡ on_tables (lets_go_all g (holder.Frame r.number) (refs was)) e
      → after ≡ tables_by (goes_on_after g (drops name) b fs e.tables) e
  unfolding held_by let_go_by gains_all
  drop_held name was old here =
      here
      ∙ (λ i. on_tables (lets_go_all g (holder.Frame r.number) (refs (old i))) e)
      ∙ (λ i. on_tables (lets_go_all g (holder.Frame (same_method tid ss b r fs these is i).number) (refs (value_under name (same_method tid ss b r fs these is i).variables))) e)

  pub field_held : (name : List ℕ) (x : Plain) → after ≡ on_tables (sets_field_of g r.object name x) e → after ≡ tables_by (goes_on_after g (sets_field (record { name = name; value = x })) b fs e.tables) e
  unfolding held_by let_go_by fields_after
  field_held name x here = here ∙ (λ i. on_tables (sets_field_of g (same_method tid ss b r fs these is i).object name x) e)
