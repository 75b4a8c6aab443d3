-- A reader's table, and what a contract sees of it.
use Rattle.std.proofs.Common.{◌≡◌, ℕ, zero, suc, ◌<◌, ◌≤◌, List, [], ◌∷◌, length, get_or, set, replicate, Option, Some, None, refl, sym, ◌∙◌, ap, subst, arith}
use Rattle.std.specs.Option.{option_map}
use Rattle.std.proofs.lemmas.List.{map-set, get_or-map, length-replicate}
use Rattle.urp_model.specs.Slots.{Announcement, Means, announced, no_meanings}
use Rattle.urp_model.proofs.TableLaws.{means_nothing, means_next}
use Rattle.urp_cache.specs.ReadCache.{plain_names}

module _ {X : Type 0} (bytes : X → List ℕ) where
  unnamed : (n : ℕ) → plain_names bytes (replicate n None) ≡ replicate n None
  unfolding plain_names
  unnamed zero = refl
  unnamed (suc n) = let rest = unnamed n in ap (λ l. None ∷ l) rest

  -- the table that a loop over the slots made
  pub new_table : (names : List (Option X)) (n : ℕ) → names ≡ replicate n None → n ≤ 256 → 256 ≤ n → plain_names bytes names ≡ no_meanings
  unfolding no_meanings
  new_table names n all low high = let is : n ≡ 256 = omega arith in ap (plain_names bytes) (all ∙ ap (λ n. replicate n None) is) ∙ unnamed 256

  pub new_means : (names : List (Option X)) (n : ℕ) → names ≡ replicate n None → n ≤ 256 → 256 ≤ n → Means (plain_names bytes names) []
  new_means names n all low high = subst (λ table. Means table []) (sym (new_table names n all low high)) means_nothing

  -- the table after one more announcement
  pub set_table : (names : List (Option X)) (slot : ℕ) (name : X) → plain_names bytes (set names slot (Some name)) ≡ announced slot (bytes name) (plain_names bytes names)
  unfolding announced plain_names
  set_table names slot name = map-set {A = Option X} {B = Option (List ℕ)} (option_map bytes) names slot (Some name)

  pub set_means : (names : List (Option X)) (table : List (Option (List ℕ))) (slot : ℕ) (name : X) (announcements : List Announcement) → plain_names bytes names ≡ table
      → Means table announcements → Means (plain_names bytes (set names slot (Some name))) (record { slot = slot; name = bytes name } ∷ announcements)
  set_means names table slot name announcements view means =
      subst (λ t. Means t (record { slot = slot; name = bytes name } ∷ announcements)) (sym (set_table names slot name ∙ ap (announced slot (bytes name)) view))
      (means_next table announcements slot (bytes name) means)

  -- the same with a left side that shows what it speaks of
  pub after_write : (names : List (Option X)) (slot : ℕ) (name : X) → announced slot (bytes name) (plain_names bytes names) ≡ plain_names bytes (set names slot (Some name))
  after_write names slot name = sym (set_table names slot name)

  pub name_at : (names : List (Option X)) (slot : ℕ) → slot < length names
      → get_or (plain_names bytes names) slot None ≡ option_map bytes (get_or names slot None)
  unfolding plain_names
  name_at names slot inside = get_or-map {X = Option X} {Y = Option (List ℕ)} (option_map bytes) names slot None None inside

-- the list that a loop over the slots made
pub new_length : {X : Type 0} (names : List (Option X)) (n : ℕ) → names ≡ replicate n None → n ≤ 256 → 256 ≤ n → length names ≡ 256
new_length {X = X} names n all low high = let long = ap length all in let size = length-replicate {A = Option X} n None in omega arith
