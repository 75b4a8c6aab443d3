-- The first line of an entity: its name, and the body that it opens.
use Rattle.std.specs.Prelude.{ℕ, Bool, true, false, not, ◌&&◌, List, [], Option, None, Some, codes, if◌then◌else◌}
use Rattle.std.specs.Str.{bytes_eq}
use Rattle.uno_model.specs.Entities.{Body, interface, struct, exception, enum, constants, typedef, new_service, old_service, new_singleton, old_singleton, Entity}
use Rattle.uno_model.specs.Names.{is_entity_name}
use Rattle.registry_text_model.specs.Lines.{is_built_in_name}
use Rattle.registry_reading_model.specs.Bodies.{changed_kind}
use Rattle.registry_reading_model.specs.Changes.{Change}
use Rattle.registry_reading_model.specs.Words.{on_some, where_, word_of, behind, entity_name_of}

-- what a singleton's header says behind its name
abbrev pub singleton_of : List ℕ → List ℕ → Option Body
singleton_of form name =
    if bytes_eq form (codes "new") then Some (new_singleton name)
    else (if bytes_eq form (codes "old") then Some (old_singleton name)
    else None)

-- a header with nothing behind its name
unfoldable pub opened_alone : List ℕ → Option Body
opened_alone word =
    if bytes_eq word (codes "interface") then Some (interface [] [])
    else (if bytes_eq word (codes "struct") then Some (struct None [])
    else (if bytes_eq word (codes "exception") then Some (exception None [])
    else (if bytes_eq word (codes "enum") then Some (enum [])
    else (if bytes_eq word (codes "constants") then Some (constants [])
    else None))))

-- and with something behind it
abbrev pub service_opened : List ℕ → Option Body
service_opened rest =
    if bytes_eq rest (codes "old") then Some (old_service [])
    else on_some (behind (codes "new ") rest) (λ base. on_some (entity_name_of base) (λ name. Some (new_service name [])))

unfoldable pub opened_with : Change → List ℕ → List ℕ → Option Body
opened_with c word rest =
    if bytes_eq word (codes "struct") then on_some (entity_name_of rest) (λ base. Some (struct (Some base) []))
    else (if bytes_eq word (codes "exception") then on_some (entity_name_of rest) (λ base. Some (exception (Some base) []))
    else (if bytes_eq word (codes "typedef") then on_some (changed_kind c rest) (λ k. Some (typedef k))
    else (if bytes_eq word (codes "service") then service_opened rest
    else (if bytes_eq word (codes "singleton") then on_some (word_of rest) (λ x. on_some (entity_name_of x.1) (singleton_of x.0))
    else None))))

abbrev pub is_free_name : List ℕ → Bool
is_free_name name = is_entity_name name && not (is_built_in_name name)

-- a name, and what stands behind it, where something does
abbrev pub opened : Change → Bool → List ℕ → List ℕ → Option (List ℕ × List ℕ) → Option Entity
opened c published word text None = where_ (is_free_name text) (on_some (opened_alone word) (λ body. Some (record { name = text; published = published; body = body })))
opened c published word text (Some x) = where_ (is_free_name x.0) (on_some (opened_with c word x.1) (λ body. Some (record { name = x.0; published = published; body = body })))

unfoldable pub words_opened : Change → Bool → List ℕ → Option Entity
words_opened c published text = on_some (word_of text) (λ x. opened c published x.0 x.1 (word_of x.1))

-- the entity that a header opens, perhaps behind `published`
abbrev pub perhaps_published : Change → List ℕ → Option (List ℕ) → Option Entity
perhaps_published c line None = words_opened c false line
perhaps_published c line (Some words) = words_opened c true words

unfoldable pub header_of : Change → List ℕ → Option Entity
header_of c line = perhaps_published c line (behind (codes "published ") line)
