-- A line of a new service that is read is the next of what is printed of its constructors.
use Rattle.std.proofs.Common.{◌≡◌, ℕ, true, not, is_none, List, [], ◌∷◌, ◌++◌, map, Option, None, Some, refl, sym, ap, subst, ◌∙◌, append_assoc}
use Rattle.std.proofs.Common.{append-nil, codes}
use Rattle.std.specs.List.{list_all, flat_map}
use Rattle.std.specs.Str.{bytes_eq}
use Rattle.std.proofs.lemmas.Bool.{and_parts, and_from}
use Rattle.std.proofs.lemmas.List.{map-append}
use Rattle.uno_model.proofs.Options.{same_some, none_some}
use Rattle.uno_model.specs.Entities.{Constructor}
use Rattle.uno_model.specs.Names.{is_identifier}
use Rattle.uno_model.specs.Sound.{is_some_list}
use Rattle.registry_text_model.specs.Lines.{spaced, given_line, rest_lines, name_lines, constructor_lines}
use Rattle.registry_reading_model.specs.Bodies.{pushed, last_changed, field_of, is_open, constructor_of, given_added, rest_added, raised_added}
use Rattle.registry_reading_model.specs.Bodies.{constructor_line}
use Rattle.registry_reading_model.specs.Changes.{same}
use Rattle.registry_reading_model.specs.Words.{on_some, behind, entity_name_of, identifier_alone}
use Rattle.registry_reading_model.proofs.GrowthLaws.{Made, Grown, no_list, pushed_passes, pushed_is, grown_by_push, grown_by_change}
use Rattle.registry_reading_model.proofs.MemberBack.{first_run, names_grow}
use Rattle.registry_reading_model.proofs.PartBack.{field_back, behind_word_back}
use Rattle.registry_reading_model.proofs.PrintedLaws.{is_text, identifier_text, spaced_text}
use Rattle.registry_reading_model.proofs.WordLaws.{given, allowed, chosen, same_word, identifier_alone_back}
use Rattle.registry_reading_model.proofs.GoodParts.{is_good_field, is_good_constructor, tests_of_constructor, good_constructor}

abbrev IsGrown : Constructor → Constructor → List ℕ → Type 0
IsGrown j k line = Grown constructor_lines is_good_constructor j k line

-- `constructor NAME`
constructor_made : (text : List ℕ) (k : Constructor) → constructor_of text ≡ Some k
    → Made constructor_lines is_good_constructor k (spaced (codes "constructor") text)
unfolding constructor_of
constructor_made text k read =
    let x = given (identifier_alone text) _ k read in
    let name = identifier_alone_back text x.0 x.1 in
    let split : spaced (codes "constructor") text ≡ spaced (codes "constructor") x.0 = ap (λ t. spaced (codes "constructor") t) name.0 in
    let bytes = spaced_text (codes "constructor") x.0 refl (identifier_text x.0 name.1) in
    let made : Constructor = record { name = x.0; params = []; rest = None; raises = [] } in
    let whole : Made constructor_lines is_good_constructor made (spaced (codes "constructor") text) =
    record {
      printed = ap (λ t. t ∷ []) (sym split);
      passes = good_constructor made (record { named = name.1; good_params = refl; rest_named = refl; raised = refl });
      text = subst (λ t. is_text t ≡ true) (sym split) bytes;
    } in
    subst (λ j. Made constructor_lines is_good_constructor j (spaced (codes "constructor") text)) (same_some x.2) whole

no_rest : (o : Option (List ℕ)) → is_none o ≡ true → o ≡ None
no_rest None none = refl
no_rest (Some x) none = let bad : ⊥ = cc in absurd bad

-- nothing is printed behind the parameters
open_is : (k : Constructor) → is_open k ≡ true → (k.rest ≡ None) × (k.raises ≡ [])
open_is k free =
    let both = and_parts (is_none k.rest) (not (is_some_list k.raises)) free in
    (no_rest k.rest both.0, no_list k.raises both.1)

-- `param in NAME TYPE`
given_grow : (text : List ℕ) (j k : Constructor) → given_added same text j ≡ Some k → IsGrown j k (spaced (codes "param") text)
unfolding given_added
given_grow text j k read =
    let free = allowed (is_open j) _ k read in
    let nothing = open_is j free.0 in
    let params = given (pushed j.params (on_some (behind (codes "in ") text) (field_of same))) _ k free.1 in
    let p = pushed_is j.params params.0 (on_some (behind (codes "in ") text) (field_of same)) params.1 in
    let field = given (behind (codes "in ") text) (field_of same) p.0 p.1 in
    let is = field_back field.0 p.0 field.2 in
    let into = behind_word_back (codes "in") text field.0 field.1 in
    let split : given_line p.0 ≡ spaced (codes "param") text = ap (λ t. spaced (codes "param") (spaced (codes "in") t)) (sym is.split)
    ∙ ap (λ t. spaced (codes "param") t) (sym into) in
    let bytes : is_text text ≡ true = subst (λ t. is_text t ≡ true) (sym into) (spaced_text (codes "in") field.0 refl is.bytes) in
    let none : rest_lines j.rest ++ name_lines (codes "raises") j.raises ≡ [] =
    ap (λ r. rest_lines r ++ name_lines (codes "raises") j.raises) nothing.0 ∙ ap (λ ns. name_lines (codes "raises") ns) nothing.1 in
    let line : map given_line params.0 ≡ map given_line j.params ++ spaced (codes "param") text ∷ [] =
    ap (map given_line) p.2 ∙ map-append given_line j.params (p.0 ∷ []) ∙ ap (λ t. map given_line j.params ++ t ∷ []) split in
    let made : Constructor = record { name = j.name; params = params.0; rest = j.rest; raises = j.raises } in
    let whole : IsGrown j made (spaced (codes "param") text) =
    record {
      printed =
          ap (λ t. spaced (codes "constructor") j.name ∷ (t ++ (rest_lines j.rest ++ name_lines (codes "raises") j.raises))) line
          ∙ first_run (spaced (codes "constructor") j.name) (map given_line j.params) (rest_lines j.rest ++ name_lines (codes "raises") j.raises)
          (spaced (codes "param") text) none;
      passes = λ good.
          let t = tests_of_constructor j good in
          let params_good : list_all is_good_field params.0 ≡ true = rw (p.2) (pushed_passes is_good_field j.params p.0 t.good_params is.good) in
          good_constructor made (record { named = t.named; good_params = params_good; rest_named = t.rest_named; raised = t.raised });
      text = spaced_text (codes "param") text refl bytes;
    } in
    subst (λ l. IsGrown j l (spaced (codes "param") text)) (same_some params.2) whole

-- `rest NAME`
rest_grow : (text : List ℕ) (j k : Constructor) → rest_added text j ≡ Some k → IsGrown j k (spaced (codes "rest") text)
unfolding rest_added
rest_grow text j k read =
    let free = allowed (is_open j) _ k read in
    let nothing = open_is j free.0 in
    let x = given (identifier_alone text) _ k free.1 in
    let name = identifier_alone_back text x.0 x.1 in
    let first = spaced (codes "constructor") j.name in
    let before : rest_lines j.rest ++ name_lines (codes "raises") j.raises ≡ [] =
    ap (λ r. rest_lines r ++ name_lines (codes "raises") j.raises) nothing.0 ∙ ap (λ ns. name_lines (codes "raises") ns) nothing.1 in
    let after : rest_lines (Some x.0) ++ name_lines (codes "raises") j.raises ≡ spaced (codes "rest") text ∷ [] =
    ap (λ ns. spaced (codes "rest") x.0 ∷ name_lines (codes "raises") ns) nothing.1 ∙ ap (λ t. spaced (codes "rest") t ∷ []) (sym name.0) in
    let made : Constructor = record { name = j.name; params = j.params; rest = Some x.0; raises = j.raises } in
    let whole : IsGrown j made (spaced (codes "rest") text) =
    record {
      printed =
          ap (λ t. first ∷ (map given_line j.params ++ t)) after
          ∙ ap (λ t. first ∷ (t ++ spaced (codes "rest") text ∷ [])) (sym (append-nil (map given_line j.params)))
          ∙ ap (λ t. first ∷ ((map given_line j.params ++ t) ++ spaced (codes "rest") text ∷ [])) (sym before);
      passes = λ good.
          let t = tests_of_constructor j good in
          let rest_named = and_from (is_identifier x.0) true name.1 refl in
          good_constructor made (record { named = t.named; good_params = t.good_params; rest_named = rest_named; raised = t.raised });
      text = spaced_text (codes "rest") text refl (subst (λ t. is_text t ≡ true) (sym name.0) (identifier_text x.0 name.1));
    } in
    subst (λ l. IsGrown j l (spaced (codes "rest") text)) (same_some x.2) whole

-- `raises NAME`
raised_grow : (text : List ℕ) (j k : Constructor) → raised_added text j ≡ Some k → IsGrown j k (spaced (codes "raises") text)
unfolding raised_added
raised_grow text j k read =
    let names = given (pushed j.raises (entity_name_of text)) _ k read in
    let grow = names_grow (codes "raises") text j.raises names.0 names.1 in
    let first = spaced (codes "constructor") j.name in
    let params = map given_line j.params in
    let made : Constructor = record { name = j.name; params = j.params; rest = j.rest; raises = names.0 } in
    let line = spaced (codes "raises") text in
    let old = name_lines (codes "raises") j.raises in
    let whole : IsGrown j made line =
    record {
      printed =
          ap (λ t. first ∷ (params ++ (rest_lines j.rest ++ t))) grow.0
          ∙ ap (λ t. first ∷ (params ++ t)) (sym (append_assoc (rest_lines j.rest) old (line ∷ [])))
          ∙ ap (λ t. first ∷ t) (sym (append_assoc params (rest_lines j.rest ++ old) (line ∷ [])));
      passes = λ good.
          let t = tests_of_constructor j good in
          good_constructor made (record { named = t.named; good_params = t.good_params; rest_named = t.rest_named; raised = grow.1 t.raised });
      text = spaced_text (codes "raises") text refl grow.2;
    } in
    subst (λ l. IsGrown j l (spaced (codes "raises") text)) (same_some names.2) whole

pub constructors_back : (ks ls : List Constructor) (word text : List ℕ) → constructor_line same ks word text ≡ Some ls
    → Grown (flat_map constructor_lines) (list_all is_good_constructor) ks ls (spaced word text)
unfolding constructor_line
constructors_back ks ls word text read =
    chosen (bytes_eq word (codes "constructor")) _ _ ls read
    (λ e r. behind_it (codes "constructor") e (grown_by_push is_good_constructor (spaced (codes "constructor") text) constructor_lines ks ls
    (constructor_of text) r (constructor_made text))) (λ read.
    chosen (bytes_eq word (codes "param")) _ _ ls read (λ e r. behind_it (codes "param") e
    (changed_one (codes "param") (given_added same text) (given_grow text) r)) (λ read.
    chosen (bytes_eq word (codes "rest")) _ _ ls read (λ e r. behind_it (codes "rest") e
    (changed_one (codes "rest") (rest_added text) (rest_grow text) r)) (λ read.
    chosen (bytes_eq word (codes "raises")) _ _ ls read (λ e r. behind_it (codes "raises") e
    (changed_one (codes "raises") (raised_added text) (raised_grow text) r)) (λ read. absurd (none_some read)))))
  where
    behind_it : (w : List ℕ) → bytes_eq word w ≡ true → Grown (flat_map constructor_lines) (list_all is_good_constructor) ks ls (spaced w text)
        → Grown (flat_map constructor_lines) (list_all is_good_constructor) ks ls (spaced word text)
    behind_it w e grown = subst (λ v. Grown (flat_map constructor_lines) (list_all is_good_constructor) ks ls (spaced v text))
        (sym (same_word word w e)) grown

    changed_one : (w : List ℕ) (f : Constructor → Option Constructor) → ((j k : Constructor) → f j ≡ Some k → IsGrown j k (spaced w text))
        → last_changed f ks ≡ Some ls
        → Grown (flat_map constructor_lines) (list_all is_good_constructor) ks ls (spaced w text)
    changed_one w f grown r = grown_by_change constructor_lines is_good_constructor (spaced w text) f ks ls r grown
