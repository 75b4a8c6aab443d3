-- A sender holds at most 256 names, and each slot that it gives is one of the 256.
use Rattle.std.proofs.Common.{◌≡◌, ℕ, zero, suc, ◌<◌, nat_lt, true, false, List, [], ◌∷◌, length, get_or, cond, Some, None, unwrap_or, refl, arith, bytes_eq}
use Rattle.std.specs.List.{AllByRecursion}
use Rattle.std.specs.Map.{lookup, remove_entry}
use Rattle.std.proofs.lemmas.Bool.{ltb-true}
use Rattle.std.proofs.lemmas.List.{length-take}
use Rattle.std.proofs.lemmas.Slice.Eq.{bytes_eq-Decides}
use Rattle.urp_model.specs.Held.{CanBeHeld, next_slot, slot_for, used}
use Rattle.urp_model.proofs.Entries.{all_found, all_left, all_taken}

pub none_held : CanBeHeld []
none_held = record { few = omega arith; below = tt }

at_below : (held : List (List ℕ × ℕ)) (i : ℕ) → AllByRecursion (λ e. e.1 < 256) held → (get_or held i ([], 0)).1 < 256
at_below [] i below = omega arith
at_below (e ∷ held) zero below = below.0
at_below (e ∷ held) (suc i) below = at_below held i below.1

pub next_below : (held : List (List ℕ × ℕ)) → CanBeHeld held → next_slot held < 256
unfolding next_slot
next_below held can = (elim (nat_lt (length held) 256) as (λ y. nat_lt (length held) 256 ≡ y → cond y (length held) (get_or held 255 ([], 0)).1 < 256) [
  | true ↦ λ told. ltb-true (length held) 256 told
  | false ↦ λ told. at_below held 255 can.below
]) refl

pub slot_for_below : (name : List ℕ) (held : List (List ℕ × ℕ)) → CanBeHeld held → slot_for name held < 256
unfolding slot_for
slot_for_below name held can = (elim (lookup (bytes_eq name) held) as (λ o. lookup (bytes_eq name) held ≡ o → unwrap_or o (next_slot held) < 256) [
  | None ↦ λ look. next_below held can
  | Some s ↦ λ look. all_found bytes_eq bytes_eq-Decides (λ n slot. slot < 256) name s held can.below look
]) refl

pub used_can_be_held : (name : List ℕ) (held : List (List ℕ × ℕ)) → CanBeHeld held → CanBeHeld (used name held)
unfolding used
used_can_be_held name held can =
    let rest = remove_entry (bytes_eq name) held in
    let long = length-take 255 rest in
    record {
      few = omega arith;
      below = (slot_for_below name held can, all_taken (λ e. e.1 < 256) 255 rest (all_left (bytes_eq name) (λ e. e.1 < 256) held can.below));
    }
