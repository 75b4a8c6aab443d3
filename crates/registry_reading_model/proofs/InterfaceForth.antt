-- The lines that are printed of an interface are read.
use Rattle.std.proofs.Common.{◌≡◌, ℕ, Bool, true, false, not, ◌||◌, List, [], ◌∷◌, ◌++◌, map, Option, Some, if◌then◌else◌, refl, ◌∙◌, codes}
use Rattle.std.specs.List.{list_all, flat_map}
use Rattle.uno_model.specs.Entities.{Base, Attribute, Method, Member, Param, attribute, method, Body, interface}
use Rattle.uno_model.specs.Kinds.{Kind, name_of}
use Rattle.uno_model.specs.Kinds as kd
use Rattle.uno_model.specs.Names.{is_identifier, is_entity_name}
use Rattle.registry_text_model.specs.Lines.{spaced, base_word, base_line, access_word, attribute_line, method_line, param_line, way_word, name_lines}
use Rattle.registry_text_model.specs.Lines.{member_lines}
use Rattle.registry_text_model.specs.OneWayMethods.{is_void}
use Rattle.registry_text_model.specs.Reading.{is_spelled}
use Rattle.registry_reading_model.specs.Bodies.{last_changed, with_members, attribute_of, method_of, oneway_of, get_raises_added, set_raises_added}
use Rattle.registry_reading_model.specs.Bodies.{param_added, raises_added, interface_line, body_line}
use Rattle.registry_reading_model.specs.Changes.{same, param_changed, member_changed}
use Rattle.registry_reading_model.specs.Kept.{resolved, unresolved}
use Rattle.registry_reading_model.proofs.KindLaws.{kind_forth}
use Rattle.registry_reading_model.proofs.PartForth.{param_forth}
use Rattle.registry_reading_model.proofs.RunLaws.{run_body, run_one, run_on, run_lines, run_flat, run_unchanged, last_forth, behind_word_forth}
use Rattle.registry_reading_model.proofs.WordLaws.{lacks, word_forth, identifier_forth, access_forth}
use Rattle.registry_reading_model.proofs.GoodParts.{is_good_param, is_good_member, tests_of_attribute, tests_of_method}

base_forth : (done : List Base) (b : Base) → is_entity_name b.name ≡ true
    → body_line same (interface done []) (base_line b) ≡ Some (interface (done ++ b ∷ []) [])
unfolding body_line interface_line base_word
base_forth done b named = by_word b.optional b.name named
  where
    by_word : (optional : Bool) (name : List ℕ) → is_entity_name name ≡ true
        → body_line same (interface done []) (spaced (base_word optional) name) ≡ Some
        (interface (done ++ record { optional = optional; name = name } ∷ []) [])
    by_word true name named = rw (behind_word_forth (codes "optional") name (interface_line same done []) refl, named) refl
    by_word false name named = rw (behind_word_forth (codes "base") name (interface_line same done []) refl, named) refl

no_blank_access : (read_only : Bool) → lacks 32 (access_word read_only) ≡ true
unfolding access_word
no_blank_access true = refl
no_blank_access false = refl

module _ (bases : List Base) (done : List Member) where
  -- with this member behind the others
  abbrev with_last : Member → Body
  with_last m = interface bases (done ++ m ∷ [])

  -- ---- attributes

  abbrev raising_member : Attribute → List (List ℕ) → List (List ℕ) → Member
  raising_member a gets sets = attribute
      (record { name = a.name; read_only = a.read_only; kind = resolved kd.struct a.kind; get_raises = gets; set_raises = sets })

  abbrev raising : Attribute → List (List ℕ) → List (List ℕ) → Body
  raising a gets sets = with_last (raising_member a gets sets)

  attribute_head : (a : Attribute) → is_identifier a.name ≡ true → is_spelled a.kind ≡ true
      → body_line same (interface bases done) (attribute_line a) ≡ Some (raising a [] [])
  unfolding body_line interface_line attribute_of
  attribute_head a named spelled =
      let rest = spaced (access_word a.read_only) (name_of a.kind) in
      rw (
        behind_word_forth (codes "attribute") (spaced a.name rest) (interface_line same bases done) refl,
        identifier_forth a.name rest named,
        word_forth (access_word a.read_only) (name_of a.kind) (no_blank_access a.read_only),
        access_forth a.read_only,
        kind_forth a.kind spelled,
      )
      refl

  -- a line that changes the last member
  last_read : (f : Member → Option Member) (m n : Member) → f m ≡ Some n → with_members bases (last_changed f (done ++ m ∷ [])) ≡ Some (with_last n)
  last_read f m n is = rw (last_forth f done m n is) refl

  line_read : (word text : List ℕ) (m : Member) (after : Option Body) → lacks 32 word ≡ true
      → interface_line same bases (done ++ m ∷ []) word text ≡ after
      → body_line same (with_last m) (spaced word text) ≡ after
  unfolding body_line
  line_read word text m after none is = behind_word_forth word text (interface_line same bases (done ++ m ∷ [])) none ∙ is

  get_added : (a : Attribute) (gets : List (List ℕ)) (name : List ℕ) → is_entity_name name ≡ true
      → get_raises_added name (raising_member a gets []) ≡ Some (raising_member a (gets ++ name ∷ []) [])
  unfolding get_raises_added
  get_added a gets name named = rw named refl

  get_forth : (a : Attribute) (gets : List (List ℕ)) (name : List ℕ) → is_entity_name name ≡ true
      → body_line same (raising a gets []) (spaced (codes "getraises") name) ≡ Some (raising a (gets ++ name ∷ []) [])
  unfolding interface_line
  get_forth a gets name named =
      line_read (codes "getraises") name (raising_member a gets []) (Some (raising a (gets ++ name ∷ []) [])) refl
      (last_read (get_raises_added name) (raising_member a gets []) (raising_member a (gets ++ name ∷ []) []) (get_added a gets name named))

  set_added : (a : Attribute) (gets sets : List (List ℕ)) (name : List ℕ) → is_entity_name name ≡ true
      → set_raises_added name (raising_member a gets sets) ≡ Some (raising_member a gets (sets ++ name ∷ []))
  unfolding set_raises_added
  set_added a gets sets name named = rw named refl

  set_forth : (a : Attribute) (gets sets : List (List ℕ)) (name : List ℕ) → is_entity_name name ≡ true
      → body_line same (raising a gets sets) (spaced (codes "setraises") name) ≡ Some (raising a gets (sets ++ name ∷ []))
  unfolding interface_line
  set_forth a gets sets name named =
      line_read (codes "setraises") name (raising_member a gets sets) (Some (raising a gets (sets ++ name ∷ []))) refl
      (last_read (set_raises_added name) (raising_member a gets sets) (raising_member a gets (sets ++ name ∷ [])) (set_added a gets sets name named))

  attribute_forth : (a : Attribute) → is_good_member (attribute a) ≡ true
      → run_body same (interface bases done) (member_lines (attribute a)) ≡ Some (with_last (member_changed unresolved (attribute a)))
  attribute_forth a good =
      let t = tests_of_attribute a good in
      let gets = name_lines (codes "getraises") a.get_raises in
      let sets = name_lines (codes "setraises") a.set_raises in
      run_one (interface bases done) (raising a [] []) (attribute_line a) (gets ++ sets) (attribute_head a t.named t.spelled)
      ∙ run_on (raising a [] []) (raising a a.get_raises []) gets sets
      (run_unchanged (λ ns. raising a ns []) is_entity_name (spaced (codes "getraises")) (λ ns n named. get_forth a ns n named) a.get_raises t.gets)
      ∙ run_unchanged (λ ns. raising a a.get_raises ns) is_entity_name (spaced (codes "setraises"))
      (λ ns n named. set_forth a a.get_raises ns n named) a.set_raises t.sets

  -- ---- methods

  abbrev taking : Method → List Param → List (List ℕ) → Member
  taking m params raises = method
      (record { name = m.name; oneway = m.oneway; result_kind = resolved kd.struct m.result_kind; params = params; raises = raises })

  method_head : (m : Method) → is_identifier m.name ≡ true → is_spelled m.result_kind ≡ true → (not m.oneway || is_void m.result_kind) ≡ true
      → body_line same (interface bases done) (method_line m) ≡ Some (with_last (taking m [] []))
  unfolding body_line interface_line method_of oneway_of resolved
  method_head m named spelled void = by_way m.oneway m.name m.result_kind named spelled void
    where
      by_way : (oneway : Bool) (name : List ℕ) (k : Kind) → is_identifier name ≡ true → is_spelled k ≡ true → (not oneway || is_void k) ≡ true
          → body_line same (interface bases done) (if oneway then spaced (codes "oneway") name else spaced (codes "method") (spaced name (name_of k)))
          ≡ Some (with_last (method (record { name = name; oneway = oneway; result_kind = resolved kd.struct k; params = []; raises = [] })))
      by_way true name kd.void named spelled void = rw (behind_word_forth (codes "oneway") name (interface_line same bases done) refl, named) refl
      by_way true name k named spelled void = let bad : ⊥ = cc in absurd bad
      by_way false name k named spelled void =
          rw (
            behind_word_forth (codes "method") (spaced name (name_of k)) (interface_line same bases done) refl,
            identifier_forth name (name_of k) named,
            kind_forth k spelled,
          )
          refl

  param_added_is : (m : Method) (params : List Param) (p : Param) → is_good_param p ≡ true
      → param_added same (spaced (way_word p.way) (spaced p.name (name_of p.kind))) (taking m params []) ≡ Some
      (taking m (params ++ param_changed unresolved p ∷ []) [])
  unfolding param_added
  param_added_is m params p good = rw (param_forth p good) refl

  param_read : (m : Method) (params : List Param) (p : Param) → is_good_param p ≡ true
      → body_line same (with_last (taking m params [])) (param_line p) ≡ Some (with_last (taking m (params ++ param_changed unresolved p ∷ []) []))
  unfolding interface_line
  param_read m params p good =
      let text = spaced (way_word p.way) (spaced p.name (name_of p.kind)) in
      let after = taking m (params ++ param_changed unresolved p ∷ []) [] in
      line_read (codes "param") text (taking m params []) (Some (with_last after)) refl
      (last_read (param_added same text) (taking m params []) after (param_added_is m params p good))

  raises_added_is : (m : Method) (params : List Param) (raises : List (List ℕ)) (name : List ℕ) → is_entity_name name ≡ true
      → raises_added name (taking m params raises) ≡ Some (taking m params (raises ++ name ∷ []))
  unfolding raises_added
  raises_added_is m params raises name named = rw named refl

  raises_read : (m : Method) (params : List Param) (raises : List (List ℕ)) (name : List ℕ) → is_entity_name name ≡ true
      → body_line same (with_last (taking m params raises)) (spaced (codes "raises") name) ≡ Some (with_last (taking m params (raises ++ name ∷ [])))
  unfolding interface_line
  raises_read m params raises name named =
      let after = taking m params (raises ++ name ∷ []) in
      line_read (codes "raises") name (taking m params raises) (Some (with_last after)) refl
      (last_read (raises_added name) (taking m params raises) after (raises_added_is m params raises name named))

  method_forth : (m : Method) → is_good_member (method m) ≡ true
      → run_body same (interface bases done) (member_lines (method m)) ≡ Some (with_last (member_changed unresolved (method m)))
  method_forth m good =
      let t = tests_of_method m good in
      let params = map (param_changed unresolved) m.params in
      let raises = name_lines (codes "raises") m.raises in
      run_one (interface bases done) (with_last (taking m [] [])) (method_line m) (map param_line m.params ++ raises)
      (method_head m t.named t.spelled t.void)
      ∙ run_on (with_last (taking m [] [])) (with_last (taking m params [])) (map param_line m.params) raises
      (run_lines (λ ps. with_last (taking m ps [])) (param_changed unresolved) is_good_param param_line
      (λ ps p is. param_read m ps p is) [] m.params t.good_params)
      ∙ run_unchanged (λ ns. with_last (taking m params ns)) is_entity_name (spaced (codes "raises"))
      (λ ns n named. raises_read m params ns n named) m.raises t.raised

  member_read : (m : Member) → is_good_member m ≡ true → run_body same (interface bases done) (member_lines m) ≡ Some
      (with_last (member_changed unresolved m))
  member_read (attribute a) good = attribute_forth a good
  member_read (method m) good = method_forth m good

-- ---- the whole interface

pub interface_forth : (bases : List Base) (members : List Member) → list_all (λ b. is_entity_name b.name) bases ≡ true
    → list_all is_good_member members ≡ true
    → run_body same (interface [] []) (map base_line bases ++ flat_map member_lines members) ≡ Some
    (interface bases (map (member_changed unresolved) members))
interface_forth bases members named good =
    run_on (interface [] []) (interface bases []) (map base_line bases) (flat_map member_lines members)
    (run_unchanged (λ bs. interface bs []) (λ b. is_entity_name b.name) base_line base_forth bases named)
    ∙ run_flat (interface bases) (member_changed unresolved) is_good_member member_lines (member_read bases) [] members good
