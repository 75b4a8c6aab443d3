-- What the tests of the rules say together.
use Rattle.std.proofs.Common.{◌≡◌, true, List}
use Rattle.std.specs.Prelude.{Bool, IsTrue, ◌↔◌, ◌&&◌}
use Rattle.std.specs.List.{list_all}
use Rattle.uno_model.proofs.AllLaws.{all_both, each_of_both}
use Rattle.uno_model.specs.Circles.{HasNoCircle}
use Rattle.uno_model.specs.Entities.{Entity}
use Rattle.uno_model.specs.Registry.{leads_to}
use Rattle.uno_model.specs.Sound.{IsSound, is_named, items_differ, bases_known, raises_known, services_known, types_known, types_allowed, is_complete, has_member}
use Rattle.uno_model.specs.Sound.{is_within_limits, HasFewFunctions}
use Rattle.entity_rules.specs.Rules.{keeps_rules}

-- the rules of each entity, the last ones left out
module _ (reg : List Entity) where
  abbrev three : Entity → Bool
  three e = is_named e && is_complete e && is_within_limits e

  abbrev four : Entity → Bool
  four e = three e && types_allowed e.body

  abbrev five : Entity → Bool
  five e = four e && bases_known reg e.body

  abbrev six : Entity → Bool
  six e = five e && raises_known reg e.body

  abbrev seven : Entity → Bool
  seven e = six e && services_known reg e.body

  -- a sound registry keeps them
  pub sound_keeps : IsSound reg → list_all (keeps_rules reg) reg ≡ true
  sound_keeps sound =
      let first_two = all_both is_named is_complete reg sound.named sound.complete in
      let first_three = all_both (λ e. is_named e && is_complete e) is_within_limits reg first_two sound.limits in
      let first_four = all_both three (λ e. types_allowed e.body) reg first_three sound.allowed in
      let first_five = all_both four (λ e. bases_known reg e.body) reg first_four sound.bases in
      let first_six = all_both five (λ e. raises_known reg e.body) reg first_five sound.raises in
      let first_seven = all_both six (λ e. services_known reg e.body) reg first_six sound.services in
      all_both seven (λ e. types_known reg e.body) reg first_seven sound.types

  -- where all rules but the last are kept, the last one decides
  pub last_rule : (few : Bool) → list_all (keeps_rules reg) reg ≡ true → IsTrue (list_all items_differ reg) → IsTrue (list_all (has_member reg) reg)
      → HasNoCircle (leads_to reg) → IsTrue few ↔ HasFewFunctions reg → IsTrue few ↔ IsSound reg
  last_rule few kept differ members no_circle functions =
      let last = each_of_both seven (λ e. types_known reg e.body) reg kept in
      let first_seven = each_of_both six (λ e. services_known reg e.body) reg last.0 in
      let first_six = each_of_both five (λ e. raises_known reg e.body) reg first_seven.0 in
      let first_five = each_of_both four (λ e. bases_known reg e.body) reg first_six.0 in
      let first_four = each_of_both three (λ e. types_allowed e.body) reg first_five.0 in
      let first_three = each_of_both (λ e. is_named e && is_complete e) is_within_limits reg first_four.0 in
      let first_two = each_of_both is_named is_complete reg first_three.0 in (
        λ yes. record {
          named = first_two.0;
          differ = differ;
          bases = first_five.1;
          raises = first_six.1;
          services = first_seven.1;
          types = last.1;
          allowed = first_four.1;
          complete = first_two.1;
          members = members;
          limits = first_three.1;
          functions = functions.0 yes;
          no_circle = no_circle;
        },
        λ sound. functions.1 sound.functions,
      )
