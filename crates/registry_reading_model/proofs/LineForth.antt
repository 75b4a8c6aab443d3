-- What is printed of an entity is read line by line as that entity, each name in a type as a struct's.
use Rattle.std.proofs.Common.{◌≡◌, ℕ, true, false, List, [], ◌∷◌, ◌++◌, Option, None, Some, refl, codes}
use Rattle.std.specs.List.{list_all}
use Rattle.std.proofs.lemmas.Bool.{and_parts}
use Rattle.uno_model.specs.Entities.{Field, Item, Constant, Part, Entity}
use Rattle.uno_model.specs.Entities.{Body, interface, struct, exception, enum, constants, typedef, new_service, old_service, new_singleton}
use Rattle.uno_model.specs.Entities.{old_singleton}
use Rattle.uno_model.specs.Names.{is_identifier, is_entity_name}
use Rattle.uno_model.specs.Registry.{at_most_one}
use Rattle.registry_text_model.specs.Lines.{header_line, body_lines, is_built_in_name, field_line, item_line, constant_line, part_line}
use Rattle.registry_text_model.specs.Reading.{is_writable}
use Rattle.registry_reading_model.specs.Bodies.{body_line, fields_line}
use Rattle.registry_reading_model.specs.Changes.{Change, same, field_changed, item_changed, constant_changed, part_changed, body_changed}
use Rattle.registry_reading_model.specs.Changes.{entity_changed}
use Rattle.registry_reading_model.specs.Headers.{header_of}
use Rattle.registry_reading_model.specs.Kept.{unresolved}
use Rattle.registry_reading_model.specs.States.{with_body}
use Rattle.registry_reading_model.specs.Words.{split_at, behind}
use Rattle.registry_reading_model.proofs.HeaderForth.{header_forth_good}
use Rattle.registry_reading_model.proofs.InterfaceForth.{interface_forth}
use Rattle.registry_reading_model.proofs.PartForth.{member_forth, item_forth, constant_forth, part_forth}
use Rattle.registry_reading_model.proofs.RunLaws.{run_lines}
use Rattle.registry_reading_model.proofs.ServiceForth.{service_forth}
use Rattle.registry_reading_model.proofs.GoodParts.{is_good_field, is_good_constant, is_good_constructor, is_good_member, is_good_part, is_good_body}
use Rattle.registry_reading_model.proofs.WritableLaws.{good_of_writable}
unfoldable pub use Rattle.registry_reading_model.proofs.RunLaws.{emptied, run_body}

pub header_forth : (e : Entity) → is_writable e ≡ true → is_built_in_name e.name ≡ false
    → header_of same (header_line e) ≡ Some (entity_changed unresolved (with_body e (emptied e.body)))
header_forth e writable written = let good = good_of_writable e writable in header_forth_good e good.0 good.1 written

struct_field : (base : Option (List ℕ)) (done : List Field) (f : Field) → is_good_field f ≡ true
    → body_line same (struct base done) (field_line f) ≡ Some (struct base (done ++ field_changed unresolved f ∷ []))
unfolding body_line fields_line
struct_field base done f good = rw (member_forth f good) refl

exception_field : (base : Option (List ℕ)) (done : List Field) (f : Field) → is_good_field f ≡ true
    → body_line same (exception base done) (field_line f) ≡ Some (exception base (done ++ field_changed unresolved f ∷ []))
unfolding body_line fields_line
exception_field base done f good = rw (member_forth f good) refl

enum_item : (done : List Item) (i : Item) → is_identifier i.name ≡ true
    → body_line same (enum done) (item_line i) ≡ Some (enum (done ++ item_changed unresolved i ∷ []))
unfolding body_line
enum_item done i good = rw (item_forth i good) refl

one_constant : (done : List Constant) (k : Constant) → is_good_constant k ≡ true
    → body_line same (constants done) (constant_line k) ≡ Some (constants (done ++ constant_changed unresolved k ∷ []))
unfolding body_line
one_constant done k good = rw (constant_forth k good) refl

one_part : (done : List Part) (p : Part) → is_good_part p ≡ true
    → body_line same (old_service done) (part_line p) ≡ Some (old_service (done ++ part_changed unresolved p ∷ []))
unfolding body_line
one_part done p good = rw (part_forth p good) refl

body_forth_good : (b : Body) → is_good_body b ≡ true → run_body same (body_changed unresolved (emptied b)) (body_lines b) ≡ Some
    (body_changed unresolved b)
unfolding run_body
body_forth_good (interface bases members) good =
    let both = and_parts (list_all (λ b. is_entity_name b.name) bases) (list_all is_good_member members) good in
    interface_forth bases members both.0 both.1
body_forth_good (struct base members) good =
    let both = and_parts (list_all is_entity_name (at_most_one base)) (list_all is_good_field members) good in
    run_lines (struct base) (field_changed unresolved) is_good_field field_line (struct_field base) [] members both.1
body_forth_good (exception base members) good =
    let both = and_parts (list_all is_entity_name (at_most_one base)) (list_all is_good_field members) good in
    run_lines (exception base) (field_changed unresolved) is_good_field field_line (exception_field base) [] members both.1
body_forth_good (enum items) good = run_lines enum (item_changed unresolved) (λ i. is_identifier i.name) item_line enum_item [] items good
body_forth_good (constants cs) good = run_lines constants (constant_changed unresolved) is_good_constant constant_line one_constant [] cs good
body_forth_good (new_service base constructors) good =
    service_forth base constructors (and_parts (is_entity_name base) (list_all is_good_constructor constructors) good).1
body_forth_good (old_service parts) good = run_lines old_service (part_changed unresolved) is_good_part part_line one_part [] parts good
body_forth_good (typedef k) good = refl
body_forth_good (new_singleton base) good = refl
body_forth_good (old_singleton service) good = refl

pub body_forth : (e : Entity) → is_writable e ≡ true
    → run_body same (body_changed unresolved (emptied e.body)) (body_lines e.body) ≡ Some (body_changed unresolved e.body)
body_forth e writable = body_forth_good e.body (good_of_writable e writable).1

pub no_end : (c : Change) (b : Body) → body_line c b (codes "end") ≡ None
unfolding body_line fields_line split_at behind
no_end c (interface bases members) = refl
no_end c (struct base members) = refl
no_end c (exception base members) = refl
no_end c (enum items) = refl
no_end c (constants cs) = refl
no_end c (typedef k) = refl
no_end c (new_service base constructors) = refl
no_end c (old_service parts) = refl
no_end c (new_singleton base) = refl
no_end c (old_singleton service) = refl
