-- A reader's table against the list of all announcements.
use Rattle.std.proofs.Common.{◌≡◌, ℕ, ◌<◌, nat_eq, true, false, List, [], ◌∷◌, get_or, set, Option, Some, None, cond, if◌then◌else◌, refl, ◌∙◌, subst, arith}
use Rattle.std.proofs.lemmas.Bool.{eqb-true, eqb-false}
use Rattle.std.proofs.lemmas.List.{length-set, length-replicate, get_or-replicate, get_or-set_same, get_or-set_other}
use Rattle.urp_model.specs.Slots.{Announcement, Means, meant_at, announced, no_meanings}

-- before any announcement
pub means_nothing : Means no_meanings []
unfolding no_meanings meant_at
means_nothing = record { slots = length-replicate {A = Option (List ℕ)} 256 None; each = λ slot inside. get_or-replicate 256 slot None None inside }

-- at one slot
meant_next : (table : List (Option (List ℕ))) (announcements : List Announcement) (at slot : ℕ) (name : List ℕ) → Means table announcements → at < 256
    → get_or (set table slot (Some name)) at None ≡ (if nat_eq at slot then Some name else meant_at at announcements)
meant_next table announcements at slot name means inside =
    (elim (nat_eq at slot) as (λ y. nat_eq at slot ≡ y → get_or (set table slot (Some name)) at None ≡ cond y (Some name) (meant_at at announcements)) [
      | true ↦ λ told. let is : at ≡ slot = eqb-true at slot told in let long = means.slots in
          subst (λ s. get_or (set table s (Some name)) at None ≡ Some name) is (get_or-set_same table at (Some name) None (omega arith))
      | false ↦ λ told. get_or-set_other table slot at (Some name) None (eqb-false at slot told) ∙ means.each at inside
    ]) refl

-- after one more announcement
pub means_next : (table : List (Option (List ℕ))) (announcements : List Announcement) (slot : ℕ) (name : List ℕ) → Means table announcements
    → Means (announced slot name table) (record { slot = slot; name = name } ∷ announcements)
unfolding announced meant_at
means_next table announcements slot name means = record {
  slots = length-set table slot (Some name) ∙ means.slots;
  each = λ at inside. meant_next table announcements at slot name means inside;
}
