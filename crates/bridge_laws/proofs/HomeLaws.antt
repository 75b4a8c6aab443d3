-- Values that came and passed the tests refer, as they are here, to objects that live.
use Rattle.std.proofs.Common.{◌≡◌, ℕ, Bool, true, false, not, ◌&&◌, ◌||◌, ◌==◌, if◌then◌else◌, List, [], ◌∷◌, Option, None, Some, refl, sym, ap, ◌∙◌, arith}
use Rattle.std.specs.List.{list_any}
use Rattle.std.specs.Option.{option_or}
use Rattle.std.specs.Str.{bytes_eq}
use Rattle.message_model.specs.Messages.{Answer, returned, raised}
use Rattle.uno_model.specs.Entities.{Entity}
use Rattle.uno_model.specs.Reaches.{is_base_of}
use Rattle.uno_model.specs.Values.{Ref, null, own, peer, Plain, Plains, any, tuple, list, ref, none, more, refs, refs_in, object_in}
use Rattle.urp_model.specs.declared.reason.Reason.{Reason}
use Rattle.table_model.specs.Stubs.{Stubs}
use Rattle.bridge_model.specs.Objects.{has_stub}
use Rattle.bridge_model.specs.Receiving.{unless, is_called_out, is_asked_name, is_target, own_refusal, ref_refusal, refs_refusal}
use Rattle.bridge_model.specs.References.{refs_of_values, refs_of_answer, home_value, home_values, each_home, home_answer}
use Rattle.bridge_model.specs.Settings.{Setting, is_own, ref_of, at_home}
use Rattle.bridge_model.specs.Sides.{Tables}
use Rattle.bridge_laws.specs.Counting.{total, one_if}
use Rattle.bridge_laws.proofs.HandingLaws.{returned_owes, raised_owes}
use Rattle.bridge_laws.proofs.IdentityLaws.{alive_own}
use Rattle.bridge_laws.proofs.LivingTableLaws.{AliveIn}
use Rattle.bridge_laws.proofs.StrayLaws.{strays, sent_lives}
use Rattle.bridge_laws.proofs.Sums.{total_append}
use Rattle.bridge_laws.proofs.VariableLaws.{values_more, values_none}

-- ---- values as they are here

-- what a reference counts as it is here
abbrev pub at_home_counts : (Ref → ℕ) → Setting → Ref → ℕ
at_home_counts f g r = f (at_home g r)

either_ref : (f : Ref → ℕ) (b : Bool) (oid face : List ℕ) → total f (object_in (if b then own oid face else peer oid face)) ≡ f (if b then own oid face else peer oid face)
unfolding total
either_ref f true oid face = omega arith
either_ref f false oid face = omega arith

home_ref : (f : Ref → ℕ) (g : Setting) (r : Ref) → total f (object_in (at_home g r)) ≡ total (at_home_counts f g) (object_in r)
unfolding total ref_of
home_ref f g null = refl
home_ref f g (own oid face) = let one = either_ref f (is_own g oid) oid face in omega arith
home_ref f g (peer oid face) = let one = either_ref f (is_own g oid) oid face in omega arith

nothing : (f h : Ref → ℕ) → total f [] ≡ total h []
unfolding total
nothing f h = refl

mutual
  unfolding home_value refs

  value_home : (f : Ref → ℕ) (g : Setting) (x : Plain) → total f (refs (home_value g x)) ≡ total (at_home_counts f g) (refs x)
  value_home f g (any k x) = value_home f g x
  value_home f g (tuple name xs) = values_home f g xs
  value_home f g (list k xs) = values_home f g xs
  value_home f g (ref r) = home_ref f g r
  value_home f g x = nothing f (at_home_counts f g)

  values_home : (f : Ref → ℕ) (g : Setting) (xs : Plains) → total f (refs_in (home_values g xs)) ≡ total (at_home_counts f g) (refs_in xs)
  values_home f g none = nothing f (at_home_counts f g)
  values_home f g (more x xs) =
      let left = total_append f (refs (home_value g x)) (refs_in (home_values g xs)) in
      let right = total_append (at_home_counts f g) (refs x) (refs_in xs) in
      let here = value_home f g x in let rest = values_home f g xs in omega arith

pub each_home_counts : (f : Ref → ℕ) (g : Setting) (xs : List Plain) → total f (refs_of_values (each_home g xs)) ≡ total (at_home_counts f g) (refs_of_values xs)
unfolding each_home
each_home_counts f g [] = values_none f ∙ sym (values_none (at_home_counts f g))
each_home_counts f g (x ∷ xs) =
    let left = values_more f (home_value g x) (each_home g xs) in
    let right = values_more (at_home_counts f g) x xs in
    let here = value_home f g x in let rest = each_home_counts f g xs in omega arith

pub home_answer_counts : (f : Ref → ℕ) (g : Setting) (a : Answer) → total f (refs_of_answer (home_answer g a)) ≡ total (at_home_counts f g) (refs_of_answer a)
unfolding home_answer
home_answer_counts f g (returned x outs) =
    let left = returned_owes f (home_value g x) (each_home g outs) in
    let right = returned_owes (at_home_counts f g) x outs in
    let here = value_home f g x in let rest = each_home_counts f g outs in omega arith
home_answer_counts f g (raised k x) =
    let left = raised_owes f k (home_value g x) in let right = raised_owes (at_home_counts f g) k x in let here = value_home f g x in omega arith

-- ---- tests

pub unless_passed : (b : Bool) (why : Reason) (later : Option Reason) → unless b why later ≡ None → (b ≡ true) × (later ≡ None)
unless_passed true why later is = (refl, is)
unless_passed false why later is = absurd (cc)

or_passed : (a b : Option Reason) → option_or a b ≡ None → (a ≡ None) × (b ≡ None)
or_passed None b is = (refl, is)
or_passed (Some why) b is = absurd (cc)

passed_own : (g : Setting) (m : ℕ) (live : List ℕ → Bool) (oid face : List ℕ) (b : Bool) (t : Tables) → is_own g oid ≡ b → AliveIn g m live t
    → (if b then own_refusal g t oid face else None) ≡ None → strays g live (if b then own oid face else peer oid face) ≡ 0
unfolding strays
passed_own g m live oid face true t given alive passed =
    let stub = (unless_passed (has_stub oid t.stubs) _ _ passed).0 in alive_own g live oid face given (sent_lives g live oid t.stubs given stub alive.sent)
passed_own g m live oid face false t given alive passed = ap one_if given

nothing_null : (g : Setting) (live : List ℕ → Bool) → strays g live null ≡ 0
unfolding strays
nothing_null g live = refl

-- a reference that passes the tests
passed_ref : (g : Setting) (m : ℕ) (live : List ℕ → Bool) (r : Ref) (t : Tables) → AliveIn g m live t → ref_refusal g t r ≡ None → strays g live (at_home g r) ≡ 0
unfolding ref_of
passed_ref g m live null t alive passed = nothing_null g live
passed_ref g m live (own oid face) t alive passed = passed_own g m live oid face (is_own g oid) t refl alive passed
passed_ref g m live (peer oid face) t alive passed = passed_own g m live oid face (is_own g oid) t refl alive passed

pub passed_refs : (g : Setting) (m : ℕ) (live : List ℕ → Bool) (rs : List Ref) (t : Tables) → AliveIn g m live t → refs_refusal g t rs ≡ None
    → total (at_home_counts (strays g live) g) rs ≡ 0
unfolding refs_refusal total
passed_refs g m live [] t alive passed = refl
passed_refs g m live (r ∷ rs) t alive passed =
    let both = or_passed (ref_refusal g t r) (refs_refusal g t rs) passed in
    let here = passed_ref g m live r t alive both.0 in let rest = passed_refs g m live rs t alive both.1 in omega arith

-- ---- targets

less_step : (a b before after : Bool) → (before ≡ true → after ≡ true) → ((a && b) || before) ≡ true → (a || after) ≡ true
less_step true b before after rest is = refl
less_step false b before after rest is = rest is

any_less : {X : Type 0} (test other : X → Bool) (xs : List X) → list_any (λ x. test x && other x) xs ≡ true → list_any test xs ≡ true
any_less test other [] found = absurd (cc)
any_less test other (x ∷ xs) found = less_step (test x) (other x) (list_any (λ x. test x && other x) xs) (list_any test xs) (any_less test other xs) found

called_out : (reg : List Entity) (oid face : List ℕ) (stubs : Stubs) → is_called_out reg oid face stubs ≡ true → has_stub oid stubs ≡ true
unfolding is_called_out has_stub
called_out reg oid face stubs found = any_less (λ row. bytes_eq oid row.0.oid) (λ row. is_base_of reg face row.0.face) stubs found

asked_only : (g : Setting) (oid : List ℕ) (function : ℕ) → (function == 0) ≡ false → is_asked_name g oid function ≡ false
asked_only g [] function other = refl
asked_only g (c ∷ cs) function other = ap (λ b. b && not (is_own g (c ∷ cs))) other

target_step : (a b c : Bool) → c ≡ false → ((a && b) || c) ≡ true → (a ≡ true) × (b ≡ true)
target_step true true c out found = (refl, refl)
target_step true false c out found = absurd (cc)
target_step false b c out found = absurd (cc)

-- the target of a request that begins a method lives
pub target_lives : (g : Setting) (m : ℕ) (live : List ℕ → Bool) (oid face : List ℕ) (function : ℕ) (t : Tables) → AliveIn g m live t → (function == 0) ≡ false
    → is_target g oid face function t.stubs ≡ true → strays g live (own oid face) ≡ 0
target_lives g m live oid face function t alive other found =
    let both = target_step (is_own g oid) (is_called_out g.registry oid face t.stubs) (is_asked_name g oid function) (asked_only g oid function other) found in
    alive_own g live oid face both.0 (sent_lives g live oid t.stubs both.0 (called_out g.registry oid face t.stubs both.1) alive.sent)
