-- The lines that are printed of a new service are read.
use Rattle.std.proofs.Common.{◌≡◌, ℕ, true, List, [], ◌∷◌, ◌++◌, map, Option, None, Some, refl, ◌∙◌, codes}
use Rattle.std.specs.List.{list_all, flat_map}
use Rattle.std.proofs.lemmas.Bool.{and_parts}
use Rattle.uno_model.specs.Entities.{Field, Constructor, Body, new_service}
use Rattle.uno_model.specs.Kinds.{name_of}
use Rattle.uno_model.specs.Names.{is_identifier, is_entity_name}
use Rattle.uno_model.specs.Registry.{at_most_one}
use Rattle.registry_text_model.specs.Lines.{spaced, given_line, rest_lines, name_lines, constructor_lines}
use Rattle.registry_reading_model.specs.Bodies.{last_changed, constructor_of, given_added, rest_added, raised_added, constructor_line, body_line}
use Rattle.registry_reading_model.specs.Changes.{same, field_changed, constructor_changed}
use Rattle.registry_reading_model.specs.Kept.{unresolved}
use Rattle.registry_reading_model.proofs.PartForth.{field_forth}
use Rattle.registry_reading_model.proofs.RunLaws.{run_body, run_one, run_on, run_lines, run_flat, run_unchanged, last_forth, behind_word_forth}
use Rattle.registry_reading_model.proofs.RunLaws.{behind_spaced}
use Rattle.registry_reading_model.proofs.WordLaws.{lacks}
use Rattle.registry_reading_model.proofs.GoodParts.{is_good_field, is_good_constructor, tests_of_constructor}

module _ (base : List ℕ) (done : List Constructor) where
  -- with this constructor behind the others
  abbrev with_last : Constructor → Body
  with_last k = new_service base (done ++ k ∷ [])

  abbrev taking : List ℕ → List Field → Option (List ℕ) → List (List ℕ) → Constructor
  taking name params rest raises = record { name = name; params = params; rest = rest; raises = raises }

  head_read : (name : List ℕ) → is_identifier name ≡ true → body_line same (new_service base done) (spaced (codes "constructor") name) ≡ Some
      (with_last (taking name [] None []))
  unfolding body_line constructor_line constructor_of
  head_read name named = rw (behind_word_forth (codes "constructor") name (constructor_line same done) refl, named) refl

  -- a line that changes the last constructor
  last_read : (word text : List ℕ) (f : Constructor → Option Constructor) (j k : Constructor) → lacks 32 word ≡ true → f j ≡ Some k
      → constructor_line same (done ++ j ∷ []) word text ≡ last_changed f (done ++ j ∷ [])
      → body_line same (with_last j) (spaced word text) ≡ Some (with_last k)
  unfolding body_line
  last_read word text f j k none is line = rw (
    behind_word_forth word text
        (constructor_line same (done ++ j ∷ [])) none,
    line,
    last_forth f done j k is,
  ) refl

  given_is : (name : List ℕ) (params : List Field) (p : Field) → is_good_field p ≡ true
      → given_added same (spaced (codes "in") (spaced p.name (name_of p.kind))) (taking name params None []) ≡ Some
      (taking name (params ++ field_changed unresolved p ∷ []) None [])
  unfolding given_added
  given_is name params p good = rw (behind_spaced (codes "in") (spaced p.name (name_of p.kind)), field_forth p good) refl

  given_read : (name : List ℕ) (params : List Field) (p : Field) → is_good_field p ≡ true
      → body_line same (with_last (taking name params None [])) (given_line p) ≡ Some
      (with_last (taking name (params ++ field_changed unresolved p ∷ []) None []))
  unfolding constructor_line
  given_read name params p good =
      let text = spaced (codes "in") (spaced p.name (name_of p.kind)) in
      last_read (codes "param") text (given_added same text) (taking name params None [])
      (taking name (params ++ field_changed unresolved p ∷ []) None []) refl (given_is name params p good) refl

  rest_is : (name : List ℕ) (params : List Field) (rest : List ℕ) → is_identifier rest ≡ true
      → rest_added rest (taking name params None []) ≡ Some (taking name params (Some rest) [])
  unfolding rest_added
  rest_is name params rest named = rw named refl

  rest_read : (name : List ℕ) (params : List Field) (rest : Option (List ℕ)) → list_all is_identifier (at_most_one rest) ≡ true
      → run_body same (with_last (taking name params None [])) (rest_lines rest) ≡ Some (with_last (taking name params rest []))
  unfolding run_body constructor_line
  rest_read name params None named = refl
  rest_read name params (Some rest) named =
      let is = (and_parts (is_identifier rest) true named).0 in
      run_one (with_last (taking name params None [])) (with_last (taking name params (Some rest) [])) (spaced (codes "rest") rest) []
      (last_read (codes "rest") rest (rest_added rest) (taking name params None []) (taking name params (Some rest) []) refl
      (rest_is name params rest is) refl)

  raised_is : (name : List ℕ) (params : List Field) (rest : Option (List ℕ)) (raises : List (List ℕ)) (n : List ℕ) → is_entity_name n ≡ true
      → raised_added n (taking name params rest raises) ≡ Some (taking name params rest (raises ++ n ∷ []))
  unfolding raised_added
  raised_is name params rest raises n named = rw named refl

  raised_read : (name : List ℕ) (params : List Field) (rest : Option (List ℕ)) (raises : List (List ℕ)) (n : List ℕ) → is_entity_name n ≡ true
      → body_line same (with_last (taking name params rest raises)) (spaced (codes "raises") n) ≡ Some
      (with_last (taking name params rest (raises ++ n ∷ [])))
  unfolding constructor_line
  raised_read name params rest raises n named =
      last_read (codes "raises") n (raised_added n) (taking name params rest raises) (taking name params rest (raises ++ n ∷ [])) refl
      (raised_is name params rest raises n named) refl

  constructor_read : (k : Constructor) → is_good_constructor k ≡ true
      → run_body same (new_service base done) (constructor_lines k) ≡ Some (with_last (constructor_changed unresolved k))
  constructor_read k good =
      let t = tests_of_constructor k good in
      let params = map (field_changed unresolved) k.params in
      let raises = name_lines (codes "raises") k.raises in
      run_one (new_service base done) (with_last (taking k.name [] None [])) (spaced (codes "constructor") k.name)
      (map given_line k.params ++ (rest_lines k.rest ++ raises)) (head_read k.name t.named)
      ∙ run_on (with_last (taking k.name [] None [])) (with_last (taking k.name params None [])) (map given_line k.params)
      (rest_lines k.rest ++ raises)
      (run_lines (λ ps. with_last (taking k.name ps None [])) (field_changed unresolved) is_good_field given_line
      (λ ps p is. given_read k.name ps p is) [] k.params t.good_params)
      ∙ run_on (with_last (taking k.name params None [])) (with_last (taking k.name params k.rest [])) (rest_lines k.rest) raises
      (rest_read k.name params k.rest t.rest_named)
      ∙ run_unchanged (λ ns. with_last (taking k.name params k.rest ns)) is_entity_name (spaced (codes "raises"))
      (λ ns n named. raised_read k.name params k.rest ns n named) k.raises t.raised

-- ---- the whole service

pub service_forth : (base : List ℕ) (constructors : List Constructor) → list_all is_good_constructor constructors ≡ true
    → run_body same (new_service base []) (flat_map constructor_lines constructors) ≡ Some
    (new_service base (map (constructor_changed unresolved) constructors))
service_forth base constructors good =
    run_flat (new_service base) (constructor_changed unresolved) is_good_constructor constructor_lines
    (λ done k is. constructor_read base done k is) [] constructors good
