-- Bytes that are drained.
use Rattle.std.proofs.Common.{◌≡◌, refl, ap, ◌∙◌, ℕ, zero, suc, Bool, true, false, not, ◌&&◌, List, [], ◌∷◌, length, take, Option, None, Some, if◌then◌else◌}
use Rattle.std.proofs.lemmas.Bool.{and_parts, false≢true, true≢false}
use Rattle.std.specs.Prelude.{Result, Ok, Err, OnErr}
use Rattle.std.specs.Str.{bytes_eq}
use Rattle.uno_model.proofs.FindLaws.{same_equal}
use Rattle.bridge_model.specs.Answers.{bytes_wait, drained_next, is_some_piece}
use Rattle.bridge_model.specs.Ends.{ends_by, runs_out}
use Rattle.bridge_model.specs.Entries.{drained}
use Rattle.bridge_model.specs.Going.{are_next, drains, waiting_bytes}
use Rattle.bridge_model.specs.Settings.{Setting}
use Rattle.bridge_model.specs.Sides.{Side}
use Rattle.bridge_model.specs.Steps.{is_no_memory, is_some_bytes, may}
use Rattle.bridge_model.specs.declared.cause.Cause.{Cause}
use Rattle.bridge_endpoint.specs.Entering.{draining}
use Rattle.bridge_endpoint.specs.Journals.{Endpoint, with_entry}

take_again : {A : Type 0} (n : ℕ) (xs : List A) → take (length (take n xs)) xs ≡ take n xs
take_again zero xs = refl
take_again (suc n) [] = refl
take_again (suc n) (x ∷ xs) = ap (λ ys. x ∷ ys) (take_again n xs)

some_taken : (n : ℕ) (xs : List ℕ) → (n ≡ 0 → ⊥) → is_some_piece xs ≡ true → is_some_bytes (take n xs) ≡ true
some_taken zero xs some is = absurd (some refl)
some_taken (suc n) [] some is = absurd (false≢true is)
some_taken (suc n) (x ∷ xs) some is = refl

next_taken : (g : Setting) (s : Side) (n : ℕ) → are_next g (take n (waiting_bytes g s)) s ≡ true
unfolding are_next
next_taken g s n =
    ap (bytes_eq (take n (waiting_bytes g s))) (take_again n (waiting_bytes g s)) ∙ same_equal (take n (waiting_bytes g s))

-- the next bytes, where the bridge did not end for want of memory
next_is : (g : Setting) (s : Side) (n : ℕ) (b : Bool) → is_no_memory s.cause ≡ b → b ≡ false → drained_next g n s ≡ take n (waiting_bytes g s)
unfolding drained_next
next_is g s n true is more = absurd (true≢false more)
next_is g s n false is more = rw (is) refl

module _ (g : Setting) (s : Side) (n : ℕ) (more : is_no_memory s.cause ≡ false) where
  pub next_bytes : drained_next g n s ≡ take n (waiting_bytes g s)
  next_bytes = next_is g s n (is_no_memory s.cause) refl more

  pub may_drain : (n ≡ 0 → ⊥) → bytes_wait g s ≡ true → may g s (drained (take n (waiting_bytes g s))) ≡ true
  unfolding may
  may_drain some waits =
      let wait = (and_parts (not (is_no_memory s.cause)) (is_some_piece (waiting_bytes g s)) waits).1 in
      rw (some_taken n (waiting_bytes g s) some wait, more, next_taken g s n) refl

  pub some_drained : (n ≡ 0 → ⊥) → bytes_wait g s ≡ true → is_some_bytes (take n (waiting_bytes g s)) ≡ true
  some_drained some waits = some_taken n (waiting_bytes g s) some (and_parts (not (is_no_memory s.cause)) (is_some_piece (waiting_bytes g s)) waits).1

-- where none are wanted, or none wait
either_none : (b : Bool) → ◌≡◌ {A = List ℕ} (if b then [] else []) []
either_none true = refl
either_none false = refl

pub none_wanted : (g : Setting) (s : Side) → drained_next g 0 s ≡ []
unfolding drained_next
none_wanted g s = either_none (is_no_memory s.cause)

take_nothing : (n : ℕ) (xs : List ℕ) → is_some_piece xs ≡ false → take n xs ≡ []
take_nothing zero [] none = refl
take_nothing (suc n) [] none = refl
take_nothing n (x ∷ xs) none = absurd (true≢false none)

none_next : (n : ℕ) (xs : List ℕ) (b : Bool) → (not b && is_some_piece xs) ≡ false → (if b then [] else take n xs) ≡ []
none_next n xs true none = refl
none_next n xs false none = take_nothing n xs none

pub none_waiting : (g : Setting) (s : Side) (n : ℕ) → bytes_wait g s ≡ false → drained_next g n s ≡ []
unfolding drained_next
none_waiting g s n none = none_next n (waiting_bytes g s) (is_no_memory s.cause) none

pub draining_some : (bytes : List ℕ) (e : Endpoint) → is_some_bytes bytes ≡ true → draining bytes e ≡ with_entry (drained bytes) e
draining_some [] e some = absurd (false≢true some)
draining_some (b ∷ bytes) e some = refl

-- want of memory behind a drain leaves what it leaves before
pub drained_out : (g : Setting) (n : ℕ) (o : Option Cause) (s : Side) → runs_out o (drains g n s) ≡ runs_out o s
unfolding runs_out ends_by drains
drained_out g n None s = refl
drained_out g n (Some why) s = refl

pub drained_lost : (g : Setting) (n : ℕ) (s : Side) → runs_out (drains g n s).cause (drains g n s) ≡ runs_out s.cause s
unfolding drains
drained_lost g n s = drained_out g n s.cause s

-- where there is no answer but that
pub on_err : {A E : Type 0} (r : Result A E) (P : Type 0) → P → OnErr r P
on_err (Ok x) P p = tt
on_err (Err e) P p = p

pub out_again : (o : Option Cause) (s : Side) → runs_out (runs_out o s).cause (runs_out o s) ≡ runs_out o s
unfolding runs_out ends_by
out_again None s = refl
out_again (Some why) s = refl
