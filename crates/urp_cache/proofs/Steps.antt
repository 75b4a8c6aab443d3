-- What a step of a sender's cache leaves and tells, each with a left side that shows what it speaks of.
use Rattle.std.proofs.Common.{◌≡◌, ℕ, ◌-◌, ◌≤◌, true, List, length, Option, Some, None, Vec, slice_get, refl, sym}
use Rattle.std.specs.Option.{option_map_or}
use Rattle.lru.specs.LruCache.{promoted}
use Rattle.urp_model.specs.Held.{CanBeHeld, holds, next_slot, used}
use Rattle.urp_cache.specs.SendCache.{plain}
use Rattle.urp_cache.proofs.Views.{is_key, used_again, next_of_last}

pub after_promote : {Z : Type 0} (name : List ℕ) (es : List (Vec ℕ Z × ℕ)) → CanBeHeld (plain es) → holds name (plain es) ≡ true
    → used name (plain es) ≡ plain (promoted (is_key name) es)
after_promote name es can told = sym (used_again name es can told)

last_at : {Z : Type 0} (es : List (Vec ℕ Z × ℕ)) (o : Option (Vec ℕ Z × ℕ)) → CanBeHeld (plain es) → 256 ≤ length es
    → slice_get es (length es - 1) ≡ o → next_slot (plain es) ≡ option_map_or (λ e. e.1) o (next_slot (plain es))
last_at es None can full look = refl
last_at es (Some e) can full look = next_of_last es e can full look

pub slot_of_last : {Z : Type 0} (es : List (Vec ℕ Z × ℕ)) → CanBeHeld (plain es) → 256 ≤ length es
    → next_slot (plain es) ≡ option_map_or (λ e. e.1) (slice_get es (length es - 1)) (next_slot (plain es))
slot_of_last es can full = last_at es (slice_get es (length es - 1)) can full refl
