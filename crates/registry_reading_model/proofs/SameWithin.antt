-- An entity within the limits is what a reader keeps of it.
use Rattle.std.proofs.Common.{◌≡◌, Bool, true, refl, ◌∙◌}
use Rattle.std.specs.List.{list_all}
use Rattle.uno_model.specs.Entities.{Body, enum, constants, Entity}
use Rattle.uno_model.specs.Sound.{is_namable}
use Rattle.uno_model.specs.Uses.{kinds_in}
use Rattle.registry_text_model.specs.ConstantValues.{is_in_range, body_is_in_range, constants_are_in_range}
use Rattle.registry_text_model.specs.EnumValues.{is_long, items_are_long, values_are_long}
use Rattle.registry_reading_model.specs.Changes.{entity_changed}
use Rattle.registry_reading_model.specs.Kept.{limited}
use Rattle.registry_reading_model.proofs.CutLaws.{namable_stays}
use Rattle.registry_reading_model.proofs.RangeLaws.{in_range_stays, long_stays}
use Rattle.registry_reading_model.proofs.Unchanged.{items_pass, constants_pass, entity_stays}

abbrev items_long : Body → Bool
items_long = items_pass limited is_namable namable_stays is_long long_stays is_in_range in_range_stays

abbrev constants_within : Body → Bool
constants_within = constants_pass limited is_namable namable_stays is_long long_stays is_in_range in_range_stays

same_items : (b : Body) → items_long b ≡ items_are_long b
same_items (enum items) = refl
same_items _ = refl

same_constants : (b : Body) → constants_within b ≡ body_is_in_range b
same_constants (constants cs) = refl
same_constants _ = refl

pub same_within : (e : Entity) → list_all is_namable (kinds_in e.body) ≡ true → constants_are_in_range e ≡ true → values_are_long e ≡ true
    → entity_changed limited e ≡ e
unfolding constants_are_in_range values_are_long
same_within e namable within long =
    entity_stays limited is_namable namable_stays is_long long_stays is_in_range in_range_stays e namable (same_constants e.body ∙ within)
    (same_items e.body ∙ long)
