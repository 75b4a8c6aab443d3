-- An entity in whose types each name stands as the type of that name has the same lines, and a text can write it where it can write the other.
use Rattle.std.proofs.Common.{◌≡◌, ℕ, false, List, ◌++◌, map, refl, ap, codes}
use Rattle.uno_model.specs.Entities.{Field, Member, attribute, method, Constructor, Part, face, subservice, property}
use Rattle.uno_model.specs.Entities.{Body, interface, struct, exception, enum, constants, typedef, new_service, old_service, new_singleton}
use Rattle.uno_model.specs.Entities.{old_singleton, Entity}
use Rattle.uno_model.specs.Kinds.{Kind, name_of}
use Rattle.uno_model.specs.Kinds as kd
use Rattle.uno_model.specs.Names.{is_entity_name}
use Rattle.uno_model.specs.Uses.{kinds_in}
use Rattle.registry_text_model.specs.Lines.{entity_lines, header_words, body_lines, member_lines, param_line, field_line, item_line, constant_line}
use Rattle.registry_text_model.specs.Lines.{constructor_lines, given_line, part_line, spaced, way_word}
use Rattle.registry_text_model.specs.OneWayMethods.{is_void}
use Rattle.registry_text_model.specs.Reading.{is_spelled, oneway_is_void, results_written, is_writable}
use Rattle.registry_reading_model.proofs.ListMaps.{maps_agree, flat_maps_agree, all_agree}
use Rattle.registry_reading_model.specs.Changes.{field_changed, param_changed, member_changed, item_changed, constant_changed}
use Rattle.registry_reading_model.specs.Changes.{constructor_changed, part_changed, body_changed, entity_changed}
use Rattle.registry_reading_model.specs.Kept.{resolved, resolving}
use Rattle.registry_reading_model.proofs.ChangedUses.{kinds_changed, is_named_changed, names_used_changed}

-- ---- lines

-- a type in which each name is resolved has the name that it had
pub name_resolved : (named : List ℕ → Kind) → ((n : List ℕ) → name_of (named n) ≡ n) → (k : Kind) → name_of (resolved named k) ≡ name_of k
unfolding resolved
name_resolved named back (kd.enum name) = back name
name_resolved named back (kd.struct name) = back name
name_resolved named back (kd.exception name) = back name
name_resolved named back (kd.interface name) = back name
name_resolved named back (kd.sequence k) = ap (λ n. codes "[]" ++ n) (name_resolved named back k)
name_resolved named back kd.void = refl
name_resolved named back kd.char = refl
name_resolved named back kd.boolean = refl
name_resolved named back kd.byte = refl
name_resolved named back kd.short = refl
name_resolved named back kd.unsigned_short = refl
name_resolved named back kd.long = refl
name_resolved named back kd.unsigned_long = refl
name_resolved named back kd.hyper = refl
name_resolved named back kd.unsigned_hyper = refl
name_resolved named back kd.str = refl
name_resolved named back kd.kind = refl
name_resolved named back kd.any = refl

member_as_it_was : (named : List ℕ → Kind) → ((n : List ℕ) → name_of (named n) ≡ n) → (m : Member)
    → member_lines (member_changed (resolving named) m) ≡ member_lines m
member_as_it_was named back (attribute a) = rw (name_resolved named back a.kind) refl
member_as_it_was named back (method m) =
    rw (
      name_resolved named back m.result_kind,
      maps_agree (param_changed (resolving named)) param_line param_line
          (λ p. ap (λ n. spaced (codes "param") (spaced (way_word p.way) (spaced p.name n))) (name_resolved named back p.kind)) m.params,
    )
    refl

constructor_as_it_was : (named : List ℕ → Kind) → ((n : List ℕ) → name_of (named n) ≡ n) → (k : Constructor)
    → constructor_lines (constructor_changed (resolving named) k) ≡ constructor_lines k
constructor_as_it_was named back k =
    rw (maps_agree (field_changed (resolving named)) given_line given_line
    (λ f. ap (λ n. spaced (codes "param") (spaced (codes "in") (spaced f.name n))) (name_resolved named back f.kind)) k.params) refl

part_as_it_was : (named : List ℕ → Kind) → ((n : List ℕ) → name_of (named n) ≡ n) → (p : Part)
    → part_line (part_changed (resolving named) p) ≡ part_line p
part_as_it_was named back (face optional name) = refl
part_as_it_was named back (subservice optional name) = refl
part_as_it_was named back (property name flags k) = rw (name_resolved named back k) refl

fields_as_they_were : (named : List ℕ → Kind) → ((n : List ℕ) → name_of (named n) ≡ n) → (fields : List Field)
    → map field_line (map (field_changed (resolving named)) fields) ≡ map field_line fields
fields_as_they_were named back fields =
    maps_agree (field_changed (resolving named)) field_line field_line (λ f. ap (λ n. spaced (codes "member") (spaced f.name n)) (name_resolved named back f.kind)) fields

pub body_lines_resolved : (named : List ℕ → Kind) → ((n : List ℕ) → name_of (named n) ≡ n) → (b : Body)
    → body_lines (body_changed (resolving named) b) ≡ body_lines b
body_lines_resolved named back (interface bases members) = rw (flat_maps_agree (member_changed (resolving named)) member_lines member_lines (member_as_it_was named back) members) refl
body_lines_resolved named back (struct base members) = fields_as_they_were named back members
body_lines_resolved named back (exception base members) = fields_as_they_were named back members
body_lines_resolved named back (enum items) = maps_agree (item_changed (resolving named)) item_line item_line (λ i. refl) items
body_lines_resolved named back (constants cs) =
    maps_agree (constant_changed (resolving named)) constant_line constant_line (λ k. rw (name_resolved named back k.kind) refl) cs
body_lines_resolved named back (typedef k) = refl
body_lines_resolved named back (new_service base constructors) =
    flat_maps_agree (constructor_changed (resolving named)) constructor_lines constructor_lines (constructor_as_it_was named back) constructors
body_lines_resolved named back (old_service parts) = maps_agree (part_changed (resolving named)) part_line part_line (part_as_it_was named back) parts
body_lines_resolved named back (new_singleton base) = refl
body_lines_resolved named back (old_singleton service) = refl

pub header_words_resolved : (named : List ℕ → Kind) → ((n : List ℕ) → name_of (named n) ≡ n) → (name : List ℕ) (b : Body)
    → header_words name (body_changed (resolving named) b) ≡ header_words name b
header_words_resolved named back name (interface bases members) = refl
header_words_resolved named back name (struct base members) = refl
header_words_resolved named back name (exception base members) = refl
header_words_resolved named back name (enum items) = refl
header_words_resolved named back name (constants cs) = refl
header_words_resolved named back name (typedef k) = rw (name_resolved named back k) refl
header_words_resolved named back name (new_service base constructors) = refl
header_words_resolved named back name (old_service parts) = refl
header_words_resolved named back name (new_singleton base) = refl
header_words_resolved named back name (old_singleton service) = refl

pub entity_lines_resolved : (named : List ℕ → Kind) → ((n : List ℕ) → name_of (named n) ≡ n) → (e : Entity)
    → entity_lines (entity_changed (resolving named) e) ≡ entity_lines e
entity_lines_resolved named back e = rw (header_words_resolved named back e.name e.body, body_lines_resolved named back e.body) refl

-- ---- whether a text can write it

pub spelled_resolved : (named : List ℕ → Kind) → ((n : List ℕ) → is_spelled (named n) ≡ is_entity_name n) → (k : Kind)
    → is_spelled (resolved named k) ≡ is_spelled k
unfolding resolved
spelled_resolved named back (kd.enum name) = back name
spelled_resolved named back (kd.struct name) = back name
spelled_resolved named back (kd.exception name) = back name
spelled_resolved named back (kd.interface name) = back name
spelled_resolved named back (kd.sequence k) = spelled_resolved named back k
spelled_resolved named back kd.void = refl
spelled_resolved named back kd.char = refl
spelled_resolved named back kd.boolean = refl
spelled_resolved named back kd.byte = refl
spelled_resolved named back kd.short = refl
spelled_resolved named back kd.unsigned_short = refl
spelled_resolved named back kd.long = refl
spelled_resolved named back kd.unsigned_long = refl
spelled_resolved named back kd.hyper = refl
spelled_resolved named back kd.unsigned_hyper = refl
spelled_resolved named back kd.str = refl
spelled_resolved named back kd.kind = refl
spelled_resolved named back kd.any = refl

void_resolved : (named : List ℕ → Kind) → ((n : List ℕ) → is_void (named n) ≡ false) → (k : Kind) → is_void (resolved named k) ≡ is_void k
unfolding resolved
void_resolved named other (kd.enum name) = other name
void_resolved named other (kd.struct name) = other name
void_resolved named other (kd.exception name) = other name
void_resolved named other (kd.interface name) = other name
void_resolved named other (kd.sequence k) = refl
void_resolved named other kd.void = refl
void_resolved named other kd.char = refl
void_resolved named other kd.boolean = refl
void_resolved named other kd.byte = refl
void_resolved named other kd.short = refl
void_resolved named other kd.unsigned_short = refl
void_resolved named other kd.long = refl
void_resolved named other kd.unsigned_long = refl
void_resolved named other kd.hyper = refl
void_resolved named other kd.unsigned_hyper = refl
void_resolved named other kd.str = refl
void_resolved named other kd.kind = refl
void_resolved named other kd.any = refl

oneway_resolved : (named : List ℕ → Kind) → ((n : List ℕ) → is_void (named n) ≡ false) → (m : Member)
    → oneway_is_void (member_changed (resolving named) m) ≡ oneway_is_void m
oneway_resolved named other (attribute a) = refl
oneway_resolved named other (method m) = rw (void_resolved named other m.result_kind) refl

written_resolved : (named : List ℕ → Kind) → ((n : List ℕ) → is_void (named n) ≡ false) → (b : Body)
    → results_written (body_changed (resolving named) b) ≡ results_written b
written_resolved named other (interface bases members) = all_agree (member_changed (resolving named)) oneway_is_void oneway_is_void (oneway_resolved named other) members
written_resolved named other (struct base members) = refl
written_resolved named other (exception base members) = refl
written_resolved named other (enum items) = refl
written_resolved named other (constants cs) = refl
written_resolved named other (typedef k) = refl
written_resolved named other (new_service base constructors) = refl
written_resolved named other (old_service parts) = refl
written_resolved named other (new_singleton base) = refl
written_resolved named other (old_singleton service) = refl

pub writable_resolved : (named : List ℕ → Kind) → ((n : List ℕ) → is_spelled (named n) ≡ is_entity_name n)
    → ((n : List ℕ) → is_void (named n) ≡ false) → (e : Entity)
    → is_writable (entity_changed (resolving named) e) ≡ is_writable e
unfolding is_writable
writable_resolved named back other e =
    rw (
      is_named_changed (resolving named) e,
      names_used_changed (resolving named) e.body,
      kinds_changed (resolving named) e.body,
      all_agree (resolved named) is_spelled is_spelled (spelled_resolved named back) (kinds_in e.body),
      written_resolved named other e.body,
    )
    refl
