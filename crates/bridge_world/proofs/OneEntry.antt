-- Calls that make one entry or none, which moves no bytes.
use Rattle.std.proofs.Common.{◌≡◌, refl, sym, subst, ℕ, Bool, true, false, List, Option, None, Some, IfNone, IfSome, Result, Ok, Err, OnErr, OnOk}
use Rattle.bridge_endpoint.specs.Entering.{how_ended}
use Rattle.bridge_endpoint.specs.Journals.{Endpoint, with_entry}
use Rattle.bridge_model.specs.Entries.{Entry}
use Rattle.bridge_model.specs.declared.input_end.InputEnd.{InputEnd}
use Rattle.bridge_model.specs.declared.input_end.InputEnd.TheVariants as ending
use Rattle.bridge_world.proofs.CallLaws.{IsStill, goes_still}
use Rattle.bridge_world.proofs.Going.{Goes, stays}

-- the end of the input
pub still_how : (how : InputEnd) → IsStill (how_ended how)
still_how ending.Ended = record { given = tt; none_in = refl; none_out = refl }
still_how ending.Failed = record { given = tt; none_in = refl; none_out = refl }

module _ (e : Endpoint) (into from : List ℕ) where
  as_is : (f : Endpoint) → f ≡ e → Goes e into from f into from
  as_is f is = subst (λ (x : Endpoint). Goes e into from x into from) (sym is) stays

  made : (x : Entry) → IsStill x → (f : Endpoint) → f ≡ with_entry x e → Goes e into from f into from
  made x still f is = subst (λ (y : Endpoint). Goes e into from y into from) (sym is) (goes_still e into from x still)

  -- by a test
  pub goes_where : (x : Entry) → IsStill x → (b : Bool) (f : Endpoint) → (b ≡ true → f ≡ with_entry x e) → (b ≡ false → f ≡ e) → Goes e into from f into from
  goes_where x still true f entered kept = made x still f (entered refl)
  goes_where x still false f entered kept = as_is f (kept refl)

  pub goes_unless : (x : Entry) → IsStill x → (b : Bool) (f : Endpoint) → (b ≡ false → f ≡ with_entry x e) → (b ≡ true → f ≡ e) → Goes e into from f into from
  goes_unless x still true f entered kept = as_is f (kept refl)
  goes_unless x still false f entered kept = made x still f (entered refl)

  -- by an answer that there may be
  pub goes_some : {X : Type 0} (x : X → Entry) → ((o : X) → IsStill (x o)) → (r : Option X) (f : Endpoint) → IfSome r (λ o. f ≡ with_entry (x o) e) → IfNone r (f ≡ e) → Goes e into from f into from
  goes_some x still (Some o) f entered kept = made (x o) (still o) f entered
  goes_some x still None f entered kept = as_is f kept

  -- by a call that may be refused
  pub goes_ok : {X Y : Type 0} (x : Entry) → IsStill x → (r : Result X Y) (f : Endpoint) → OnOk r (f ≡ with_entry x e) → OnErr r (f ≡ e) → Goes e into from f into from
  goes_ok x still (Ok o) f entered kept = made x still f entered
  goes_ok x still (Err o) f entered kept = as_is f kept
