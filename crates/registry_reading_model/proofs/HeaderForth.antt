-- The header that is printed of an entity is read as the entity that has no more than that.
use Rattle.std.proofs.Common.{◌≡◌, ℕ, Bool, true, false, ◌&&◌, List, None, Some, if◌then◌else◌, refl, codes}
use Rattle.std.specs.List.{list_all}
use Rattle.std.proofs.lemmas.Bool.{and_parts}
use Rattle.uno_model.specs.Entities.{Body, interface, struct, exception, enum, constants, typedef, new_service, old_service, new_singleton}
use Rattle.uno_model.specs.Entities.{old_singleton, Entity}
use Rattle.uno_model.specs.Kinds.{name_of}
use Rattle.uno_model.specs.Names.{is_entity_name}
use Rattle.registry_text_model.specs.Lines.{spaced, header_line, header_words, is_built_in_name}
use Rattle.registry_reading_model.specs.Changes.{same, body_changed, entity_changed}
use Rattle.registry_reading_model.specs.Headers.{opened_alone, opened_with, words_opened, header_of}
use Rattle.registry_reading_model.specs.Kept.{unresolved}
use Rattle.registry_reading_model.specs.States.{with_body}
use Rattle.registry_reading_model.specs.Words.{split_at, behind}
use Rattle.registry_reading_model.proofs.KindLaws.{kind_forth}
use Rattle.registry_reading_model.proofs.RunLaws.{emptied, behind_spaced}
use Rattle.registry_reading_model.proofs.WordLaws.{split_none, word_forth, entity_name_no_blank}
use Rattle.registry_reading_model.proofs.GoodParts.{is_good_constructor, is_good_body}

not_published : (name : List ℕ) (b : Body) → behind (codes "published ") (header_words name b) ≡ None
unfolding behind spaced
not_published name (interface bases members) = refl
not_published name (struct base members) = refl
not_published name (exception base members) = refl
not_published name (enum items) = refl
not_published name (constants cs) = refl
not_published name (typedef k) = refl
not_published name (new_service base constructors) = refl
not_published name (old_service parts) = refl
not_published name (new_singleton base) = refl
not_published name (old_singleton service) = refl

words_forth : (published : Bool) (name : List ℕ) (b : Body) → is_entity_name name ≡ true → is_built_in_name name ≡ false → is_good_body b ≡ true
    → words_opened same published (header_words name b) ≡ Some
    (record { name = name; published = published; body = body_changed unresolved (emptied b) })
unfolding words_opened opened_alone opened_with split_at behind spaced
words_forth published name (interface bases members) named free good = rw (split_none 32 name (entity_name_no_blank name named), named, free) refl
words_forth published name (struct None members) named free good = rw (split_none 32 name (entity_name_no_blank name named), named, free) refl
words_forth published name (exception None members) named free good = rw (split_none 32 name (entity_name_no_blank name named), named, free) refl
words_forth published name (enum items) named free good = rw (split_none 32 name (entity_name_no_blank name named), named, free) refl
words_forth published name (constants cs) named free good = rw (split_none 32 name (entity_name_no_blank name named), named, free) refl
words_forth published name (struct (Some base) members) named free good =
    let is = (and_parts (is_entity_name base) true (and_parts (is_entity_name base && true) _ good).0).0 in
    rw (word_forth name base (entity_name_no_blank name named), named, free, is) refl
words_forth published name (exception (Some base) members) named free good =
    let is = (and_parts (is_entity_name base) true (and_parts (is_entity_name base && true) _ good).0).0 in
    rw (word_forth name base (entity_name_no_blank name named), named, free, is) refl
words_forth published name (typedef k) named free good = rw (
  word_forth name (name_of k)
      (entity_name_no_blank name named),
  named,
  free,
  kind_forth k good,
) refl
words_forth published name (new_service base constructors) named free good =
    let is = (and_parts (is_entity_name base) (list_all is_good_constructor constructors) good).0 in
    rw (word_forth name (spaced (codes "new") base) (entity_name_no_blank name named), named, free, is) refl
words_forth published name (old_service parts) named free good = rw
    (word_forth name (codes "old") (entity_name_no_blank name named), named, free) refl
words_forth published name (new_singleton base) named free good = rw
    (word_forth name (spaced (codes "new") base) (entity_name_no_blank name named), named, free, good) refl
words_forth published name (old_singleton service) named free good = rw
    (word_forth name (spaced (codes "old") service) (entity_name_no_blank name named), named, free, good) refl

pub header_forth_good : (e : Entity) → is_entity_name e.name ≡ true → is_good_body e.body ≡ true → is_built_in_name e.name ≡ false
    → header_of same (header_line e) ≡ Some (entity_changed unresolved (with_body e (emptied e.body)))
unfolding header_of
header_forth_good e named good free = by_published e.published e.name e.body named good free
  where
    by_published : (published : Bool) (name : List ℕ) (body : Body) → is_entity_name name ≡ true → is_good_body body ≡ true
        → is_built_in_name name ≡ false
        → header_of same (if published then spaced (codes "published") (header_words name body) else header_words name body)
        ≡ Some (record { name = name; published = published; body = body_changed unresolved (emptied body) })
    by_published true name body named good free = rw (behind_spaced (codes "published") (header_words name body))
        (words_forth true name body named free good)
    by_published false name body named good free = rw (not_published name body) (words_forth false name body named free good)
