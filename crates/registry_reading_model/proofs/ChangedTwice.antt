-- Two changes one after the other are one change; what a reader keeps of a text is what it keeps of the text's entities with their names resolved.
use Rattle.std.proofs.Common.{◌≡◌, ℕ, List, map, refl, sym, ap}
use Rattle.std.specs.List.{list_all}
use Rattle.uno_model.specs.Entities.{Field, Member, attribute, method, Constructor, Part, face, subservice, property}
use Rattle.uno_model.specs.Entities.{Body, interface, struct, exception, enum, constants, new_service, old_service, Entity}
use Rattle.uno_model.specs.Kinds.{Kind}
use Rattle.registry_text_model.specs.EnumValues.{is_long, items_are_long, values_are_long}
use Rattle.registry_reading_model.specs.Changes.{Change, and_then, field_changed, param_changed, member_changed, item_changed, constant_changed}
use Rattle.registry_reading_model.specs.Changes.{constructor_changed, part_changed, body_changed, entity_changed}
use Rattle.registry_reading_model.specs.Kept.{limited, resolving, kept}
use Rattle.registry_reading_model.proofs.Mapped.{all_mapped, map_mapped}

module _ (c d : Change) where
  fields_twice : (fs : List Field) → map (field_changed d) (map (field_changed c) fs) ≡ map (field_changed (and_then c d)) fs
  fields_twice fs = map_mapped (field_changed c) (field_changed d) (field_changed (and_then c d)) (λ f. refl) fs

  member_twice : (m : Member) → member_changed d (member_changed c m) ≡ member_changed (and_then c d) m
  member_twice (attribute a) = refl
  member_twice (method m) =
      ap (λ ps. method (record { name = m.name; oneway = m.oneway; result_kind = d.kind (c.kind m.result_kind); params = ps; raises = m.raises }))
      (map_mapped (param_changed c) (param_changed d) (param_changed (and_then c d)) (λ p. refl) m.params)

  constructor_twice : (k : Constructor) → constructor_changed d (constructor_changed c k) ≡ constructor_changed (and_then c d) k
  constructor_twice k = ap (λ ps. record { name = k.name; params = ps; rest = k.rest; raises = k.raises }) (fields_twice k.params)

  part_twice : (p : Part) → part_changed d (part_changed c p) ≡ part_changed (and_then c d) p
  part_twice (face optional name) = refl
  part_twice (subservice optional name) = refl
  part_twice (property name flags k) = refl

  body_twice : (b : Body) → body_changed d (body_changed c b) ≡ body_changed (and_then c d) b
  body_twice (interface bases members) =
      ap (interface bases) (map_mapped (member_changed c) (member_changed d) (member_changed (and_then c d)) member_twice members)
  body_twice (struct base members) = ap (struct base) (fields_twice members)
  body_twice (exception base members) = ap (exception base) (fields_twice members)
  body_twice (enum items) = ap enum (map_mapped (item_changed c) (item_changed d) (item_changed (and_then c d)) (λ i. refl) items)
  body_twice (constants cs) = ap constants (map_mapped (constant_changed c) (constant_changed d) (constant_changed (and_then c d)) (λ k. refl) cs)
  body_twice (new_service base constructors) =
      ap (new_service base)
      (map_mapped (constructor_changed c) (constructor_changed d) (constructor_changed (and_then c d)) constructor_twice constructors)
  body_twice (old_service parts) = ap old_service (map_mapped (part_changed c) (part_changed d) (part_changed (and_then c d)) part_twice parts)
  body_twice _ = refl

  pub changed_twice : (e : Entity) → entity_changed d (entity_changed c e) ≡ entity_changed (and_then c d) e
  changed_twice e = ap (λ b. record { name = e.name; published = e.published; body = b }) (body_twice e.body)

  pub all_changed_twice : (es : List Entity) → map (entity_changed d) (map (entity_changed c) es) ≡ map (entity_changed (and_then c d)) es
  all_changed_twice es = map_mapped (entity_changed c) (entity_changed d) (entity_changed (and_then c d)) changed_twice es

-- what is kept of entities is what is kept of them with their names resolved
pub kept_of_resolved : (named : List ℕ → Kind) (es : List Entity)
    → map (entity_changed (kept named)) es ≡ map (entity_changed limited) (map (entity_changed (resolving named)) es)
kept_of_resolved named es = sym (all_changed_twice (resolving named) limited es)

-- their items are the same
resolved_long : (named : List ℕ → Kind) (e : Entity) → values_are_long (entity_changed (resolving named) e) ≡ values_are_long e
unfolding values_are_long
resolved_long named e = of_body e.body
  where
    of_body : (b : Body) → items_are_long (body_changed (resolving named) b) ≡ items_are_long b
    of_body (enum items) = all_mapped (item_changed (resolving named)) (λ i. is_long i.number) (λ i. is_long i.number) (λ i. refl) items
    of_body _ = refl

pub all_resolved_long : (named : List ℕ → Kind) (es : List Entity)
    → list_all values_are_long (map (entity_changed (resolving named)) es) ≡ list_all values_are_long es
all_resolved_long named es = all_mapped (entity_changed (resolving named)) values_are_long values_are_long (resolved_long named) es
