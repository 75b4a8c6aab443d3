-- A line that is read is the next line of what is printed.
use Rattle.std.proofs.Common.{◌≡◌, ℕ, true, false, List, [], ◌∷◌, ◌++◌, map, Option, Some, refl, sym, subst, codes}
use Rattle.std.specs.List.{list_all}
use Rattle.std.proofs.lemmas.Bool.{and_parts, and_from}
use Rattle.uno_model.proofs.Options.{same_some, none_some}
use Rattle.uno_model.specs.Entities.{Field, Part, Entity}
use Rattle.uno_model.specs.Entities.{Body, interface, struct, exception, enum, constants, typedef, new_service, old_service, new_singleton}
use Rattle.uno_model.specs.Entities.{old_singleton}
use Rattle.uno_model.specs.Names.{is_identifier, is_entity_name}
use Rattle.uno_model.specs.Registry.{at_most_one}
use Rattle.registry_text_model.specs.Lines.{spaced, header_line, header_words, body_lines, is_built_in_name, field_line, item_line, constant_line}
use Rattle.registry_text_model.specs.Lines.{part_line}
use Rattle.registry_text_model.specs.Reading.{is_writable}
use Rattle.registry_reading_model.specs.Bodies.{pushed, field_of, item_of, constant_of, part_of, interface_line, constructor_line, fields_line}
use Rattle.registry_reading_model.specs.Bodies.{behind_word, body_line}
use Rattle.registry_reading_model.specs.Changes.{same}
use Rattle.registry_reading_model.specs.Headers.{header_of}
use Rattle.registry_reading_model.specs.States.{with_body}
use Rattle.registry_reading_model.specs.Words.{on_some, word_of, behind}
use Rattle.registry_reading_model.proofs.GrowthLaws.{Made, Grown, grown_line}
use Rattle.registry_reading_model.proofs.HeaderBack.{header_is}
use Rattle.registry_reading_model.proofs.InterfaceBack.{Adds, interface_back}
use Rattle.registry_reading_model.proofs.PartBack.{member_made, item_made, constant_made, part_made}
use Rattle.registry_reading_model.proofs.ServiceBack.{constructors_back}
use Rattle.registry_reading_model.proofs.WordLaws.{given, word_back}
use Rattle.registry_reading_model.proofs.GoodParts.{is_good_field, is_good_constant, is_good_constructor, is_good_part}
use Rattle.registry_reading_model.proofs.WritableLaws.{good_of_writable, writable_of_good}

fields_back : (fs gs : List Field) (line : List ℕ) → fields_line same fs line ≡ Some gs → Grown (map field_line) (list_all is_good_field) fs gs line
unfolding fields_line
fields_back fs gs line read = grown_line is_good_field line field_line fs gs (on_some (behind (codes "member ") line) (field_of same)) read
    (λ f is. member_made line f is)

-- a word, and what stands behind it
behind_word_is : {X : Type 0} (line : List ℕ) (f : List ℕ → List ℕ → Option X) (x : X) → behind_word line f ≡ Some x
    → (word : List ℕ) × (text : List ℕ) × (line ≡ spaced word text) × (f word text ≡ Some x)
behind_word_is line f x read =
    let split = given (word_of line) (λ y. f y.0 y.1) x read in
    (split.0.0, split.0.1, word_back line split.0 split.1, split.2)

pub body_back : (b c : Body) (line : List ℕ) → body_line same b line ≡ Some c → Adds b c line
unfolding body_line
body_back (interface bases members) c line read =
    let w = behind_word_is line (interface_line same bases members) c read in
    subst (λ l. Adds (interface bases members) c l) (sym w.2) (interface_back bases members w.0 w.1 c w.3)
body_back (struct base members) c line read =
    let fs = given (fields_line same members line) (λ fields. Some (struct base fields)) c read in
    let is = fields_back members fs.0 line fs.1 in
    let whole : Adds (struct base members) (struct base fs.0) line =
    record {
      printed = is.printed;
      header = λ n. refl;
      passes = λ good.
          let both = and_parts (list_all is_entity_name (at_most_one base)) (list_all is_good_field members) good in
          and_from (list_all is_entity_name (at_most_one base)) (list_all is_good_field fs.0) both.0 (is.passes both.1);
      text = is.text;
    } in
    subst (λ d. Adds (struct base members) d line) (same_some fs.2) whole
body_back (exception base members) c line read =
    let fs = given (fields_line same members line) (λ fields. Some (exception base fields)) c read in
    let is = fields_back members fs.0 line fs.1 in
    let whole : Adds (exception base members) (exception base fs.0) line =
    record {
      printed = is.printed;
      header = λ n. refl;
      passes = λ good.
          let both = and_parts (list_all is_entity_name (at_most_one base)) (list_all is_good_field members) good in
          and_from (list_all is_entity_name (at_most_one base)) (list_all is_good_field fs.0) both.0 (is.passes both.1);
      text = is.text;
    } in
    subst (λ d. Adds (exception base members) d line) (same_some fs.2) whole
body_back (enum items) c line read =
    let one = on_some (behind (codes "value ") line) (item_of same) in
    let js = given (pushed items one) (λ js. Some (enum js)) c read in
    let is = grown_line (λ i. is_identifier i.name) line item_line items js.0 one js.1 (λ i r. item_made line i r) in
    let whole : Adds (enum items) (enum js.0) line = record { printed = is.printed; header = λ n. refl; passes = is.passes; text = is.text } in
    subst (λ d. Adds (enum items) d line) (same_some js.2) whole
body_back (constants cs) c line read =
    let one = on_some (behind (codes "const ") line) (constant_of same) in
    let ks = given (pushed cs one) (λ ks. Some (constants ks)) c read in
    let is = grown_line is_good_constant line constant_line cs ks.0 one ks.1 (λ k r. constant_made line k r) in
    let whole : Adds (constants cs) (constants ks.0) line = record { printed = is.printed; header = λ n. refl; passes = is.passes; text = is.text } in
    subst (λ d. Adds (constants cs) d line) (same_some ks.2) whole
body_back (new_service base constructors) c line read =
    let ks = given (behind_word line (constructor_line same constructors)) (λ ks. Some (new_service base ks)) c read in
    let w = behind_word_is line (constructor_line same constructors) ks.0 ks.1 in
    let is = constructors_back constructors ks.0 w.0 w.1 w.3 in
    let whole : Adds (new_service base constructors) (new_service base ks.0) (spaced w.0 w.1) =
    record {
      printed = is.printed;
      header = λ n. refl;
      passes = λ good.
          let both = and_parts (is_entity_name base) (list_all is_good_constructor constructors) good in
          and_from (is_entity_name base) (list_all is_good_constructor ks.0) both.0 (is.passes both.1);
      text = is.text;
    } in
    subst (λ l. Adds (new_service base constructors) c l) (sym w.2)
    (subst (λ d. Adds (new_service base constructors) d (spaced w.0 w.1)) (same_some ks.2) whole)
body_back (old_service parts) c line read =
    let one = behind_word line (part_of same) in
    let ps = given (pushed parts one) (λ ps. Some (old_service ps)) c read in
    let is = grown_line is_good_part line part_line parts ps.0 one ps.1 (λ p r. part_here p r) in
    let whole : Adds (old_service parts) (old_service ps.0) line =
    record { printed = is.printed; header = λ n. refl; passes = is.passes; text = is.text } in
    subst (λ d. Adds (old_service parts) d line) (same_some ps.2) whole
  where
    part_here : (p : Part) → behind_word line (part_of same) ≡ Some p → Made (λ q. part_line q ∷ []) is_good_part p line
    part_here p r = let w = behind_word_is line (part_of same) p r in subst (λ l. Made (λ q. part_line q ∷ []) is_good_part p l) (sym w.2)
        (part_made w.0 w.1 p w.3)
body_back (typedef k) c line read = absurd (none_some read)
body_back (new_singleton base) c line read = absurd (none_some read)
body_back (old_singleton service) c line read = absurd (none_some read)

pub line_back : (b b' : Body) (line : List ℕ) → body_line same b line ≡ Some b'
    → (body_lines b' ≡ body_lines b ++ line ∷ []) × ((name : List ℕ) → header_words name b' ≡ header_words name b)
    × ((e : Entity) → is_writable (with_body e b) ≡ true → is_writable (with_body e b') ≡ true)
line_back b b' line read =
    let adds = body_back b b' line read in (
      adds.printed,
      adds.header,
      λ e writable.
          let good = good_of_writable (with_body e b) writable in
          writable_of_good (with_body e b') good.0 (adds.passes good.1),
    )

pub header_back : (line : List ℕ) (e : Entity) → header_of same line ≡ Some e
    → (header_line e ≡ line) × (body_lines e.body ≡ []) × (is_writable e ≡ true) × (is_built_in_name e.name ≡ false)
header_back line e read =
    let is = header_is line e read in
    (is.printed, is.empty, writable_of_good e is.named is.good, is.free)
