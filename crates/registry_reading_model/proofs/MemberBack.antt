-- A member of an interface that is read is printed as it was read, and so is each line under it.
use Rattle.std.proofs.Common.{◌≡◌, ℕ, true, false, not, ◌&&◌, List, [], ◌∷◌, ◌++◌, map, Some, refl, sym, ap, subst, ◌∙◌, append_assoc, codes}
use Rattle.std.specs.List.{list_all}
use Rattle.std.proofs.lemmas.Bool.{and_from}
use Rattle.std.proofs.lemmas.List.{map-append}
use Rattle.uno_model.proofs.Options.{same_some, none_some}
use Rattle.uno_model.specs.Entities.{Attribute, Method, Member, attribute, method}
use Rattle.uno_model.specs.Kinds.{name_of}
use Rattle.uno_model.specs.Kinds as kd
use Rattle.uno_model.specs.Names.{is_identifier, is_entity_name}
use Rattle.uno_model.specs.Sound.{is_some_list}
use Rattle.registry_text_model.specs.Lines.{spaced, access_word, attribute_line, method_line, param_line, name_lines, member_lines}
use Rattle.registry_text_model.specs.Reading.{is_spelled}
use Rattle.registry_reading_model.specs.Bodies.{changed_kind, pushed, attribute_of, method_of, oneway_of, param_of, get_raises_added}
use Rattle.registry_reading_model.specs.Bodies.{set_raises_added, param_added, raises_added}
use Rattle.registry_reading_model.specs.Changes.{same}
use Rattle.registry_reading_model.specs.Words.{on_some, word_of, identifier_of, entity_name_of, identifier_alone, access_of}
use Rattle.registry_reading_model.proofs.GrowthLaws.{Made, Grown, no_list, pushed_passes, pushed_is, between_runs}
use Rattle.registry_reading_model.proofs.PartBack.{changed_kind_back, param_back}
use Rattle.registry_reading_model.proofs.PrintedLaws.{is_text, identifier_text, entity_name_text, spaced_text, kind_text, access_text}
use Rattle.registry_reading_model.proofs.WordLaws.{given, allowed, word_back, identifier_back, entity_name_back, identifier_alone_back, access_back}
use Rattle.registry_reading_model.proofs.GoodParts.{is_good_param, is_good_member, tests_of_attribute, good_attribute, tests_of_method, good_method}

-- ---- first lines

-- `attribute NAME rw TYPE`
pub attribute_made : (text : List ℕ) (m : Member) → on_some (attribute_of same text) (λ a. Some (attribute a)) ≡ Some m
    → Made member_lines is_good_member m (spaced (codes "attribute") text)
unfolding attribute_of
attribute_made text m read =
    let a = given (attribute_of same text) (λ a. Some (attribute a)) m read in
    let x = given (identifier_of text) _ a.0 a.1 in
    let y = given (word_of x.0.1) _ a.0 x.2 in
    let r = given (access_of y.0.0) _ a.0 y.2 in
    let k = given (changed_kind same y.0.1) _ a.0 r.2 in
    let name = identifier_back text x.0 x.1 in
    let type = changed_kind_back y.0.1 k.0 k.1 in
    let behind_name : x.0.1 ≡ spaced (access_word r.0) (name_of k.0) =
    word_back x.0.1 y.0 y.1 ∙ ap (λ t. spaced t y.0.1) (access_back y.0.0 r.0 r.1) ∙ ap (λ t. spaced (access_word r.0) t) type.named in
    let split : spaced (codes "attribute") text ≡ spaced (codes "attribute") (spaced x.0.0 (spaced (access_word r.0) (name_of k.0))) =
    ap (λ t. spaced (codes "attribute") t) (name.0 ∙ ap (λ t. spaced x.0.0 t) behind_name) in
    let bytes =
    spaced_text (codes "attribute") (spaced x.0.0 (spaced (access_word r.0) (name_of k.0))) refl
    (spaced_text x.0.0 (spaced (access_word r.0) (name_of k.0)) (identifier_text x.0.0 name.1)
    (spaced_text (access_word r.0) (name_of k.0) (access_text r.0) (kind_text k.0 type.spelled))) in
    let made : Attribute = record { name = x.0.0; read_only = r.0; kind = k.0; get_raises = []; set_raises = [] } in
    let whole : Made member_lines is_good_member (attribute made) (spaced (codes "attribute") text) =
    record {
      printed = ap (λ t. t ∷ []) (sym split);
      passes = good_attribute made (record { named = name.1; spelled = type.spelled; gets = refl; sets = refl });
      text = subst (λ t. is_text t ≡ true) (sym split) bytes;
    } in
    subst (λ n. Made member_lines is_good_member n (spaced (codes "attribute") text)) (ap attribute (same_some k.2) ∙ same_some a.2) whole

-- `method NAME TYPE`
pub method_made : (text : List ℕ) (m : Member) → on_some (method_of same text) (λ o. Some (method o)) ≡ Some m
    → Made member_lines is_good_member m (spaced (codes "method") text)
unfolding method_of
method_made text m read =
    let o = given (method_of same text) (λ o. Some (method o)) m read in
    let x = given (identifier_of text) _ o.0 o.1 in
    let k = given (changed_kind same x.0.1) _ o.0 x.2 in
    let name = identifier_back text x.0 x.1 in
    let type = changed_kind_back x.0.1 k.0 k.1 in
    let split : spaced (codes "method") text ≡ spaced (codes "method") (spaced x.0.0 (name_of k.0)) =
    ap (λ t. spaced (codes "method") t) (name.0 ∙ ap (λ t. spaced x.0.0 t) type.named) in
    let bytes = spaced_text (codes "method") (spaced x.0.0 (name_of k.0)) refl
    (spaced_text x.0.0 (name_of k.0) (identifier_text x.0.0 name.1) (kind_text k.0 type.spelled)) in
    let made : Method = record { name = x.0.0; oneway = false; result_kind = k.0; params = []; raises = [] } in
    let whole : Made member_lines is_good_member (method made) (spaced (codes "method") text) =
    record {
      printed = ap (λ t. t ∷ []) (sym split);
      passes =
          and_from ((is_identifier x.0.0 && is_spelled k.0) && true) true
          (and_from (is_identifier x.0.0 && is_spelled k.0) true (and_from (is_identifier x.0.0) (is_spelled k.0) name.1 type.spelled) refl) refl;
      text = subst (λ t. is_text t ≡ true) (sym split) bytes;
    } in
    subst (λ n. Made member_lines is_good_member n (spaced (codes "method") text)) (ap method (same_some k.2) ∙ same_some o.2) whole

-- `oneway NAME`
pub oneway_made : (text : List ℕ) (m : Member) → on_some (oneway_of same text) (λ o. Some (method o)) ≡ Some m
    → Made member_lines is_good_member m (spaced (codes "oneway") text)
unfolding oneway_of
oneway_made text m read =
    let o = given (oneway_of same text) (λ o. Some (method o)) m read in
    let x = given (identifier_alone text) _ o.0 o.1 in
    let name = identifier_alone_back text x.0 x.1 in
    let split : spaced (codes "oneway") text ≡ spaced (codes "oneway") x.0 = ap (λ t. spaced (codes "oneway") t) name.0 in
    let bytes = spaced_text (codes "oneway") x.0 refl (identifier_text x.0 name.1) in
    let whole : Made member_lines is_good_member (method
    (record { name = x.0; oneway = true; result_kind = same.kind kd.void; params = []; raises = [] })) (spaced (codes "oneway") text) =
    record {
      printed = ap (λ t. t ∷ []) (sym split);
      passes = and_from ((is_identifier x.0 && true) && true) true
          (and_from (is_identifier x.0 && true) true (and_from (is_identifier x.0) true name.1 refl) refl) refl;
      text = subst (λ t. is_text t ≡ true) (sym split) bytes;
    } in
    subst (λ n. Made member_lines is_good_member n (spaced (codes "oneway") text)) (ap method (same_some x.2) ∙ same_some o.2) whole

-- ---- lines under a member

-- one more line of the first of two runs, behind a first line
pub first_run : (first : List ℕ) (xs ys : List (List ℕ)) (x : List ℕ) → ys ≡ [] → first ∷ ((xs ++ x ∷ []) ++ ys) ≡ (first ∷ (xs ++ ys)) ++ x ∷ []
first_run first xs ys x none = ap (λ t. first ∷ t) (between_runs xs ys x none)

second_run : (first : List ℕ) (xs ys : List (List ℕ)) (x : List ℕ) → first ∷ (xs ++ (ys ++ x ∷ [])) ≡ (first ∷ (xs ++ ys)) ++ x ∷ []
second_run first xs ys x = ap (λ t. first ∷ t) (sym (append_assoc xs ys (x ∷ [])))

-- one more name
pub names_grow : (word text : List ℕ) (xs ys : List (List ℕ)) → pushed xs (entity_name_of text) ≡ Some ys
    → (name_lines word ys ≡ name_lines word xs ++ spaced word text ∷ []) × (list_all is_entity_name xs ≡ true → list_all is_entity_name ys ≡ true)
    × (is_text text ≡ true)
names_grow word text xs ys read =
    let x = pushed_is xs ys (entity_name_of text) read in
    let named = entity_name_back text x.0 x.1 in (
      ap (λ zs. map (spaced word) zs) x.2 ∙ map-append (spaced word) xs (x.0 ∷ [])
          ∙ ap (λ t. map (spaced word) xs ++ spaced word t ∷ []) (sym named.0),
      λ all. rw (x.2) (pushed_passes is_entity_name xs x.0 all named.1),
      subst (λ t. is_text t ≡ true) (sym named.0) (entity_name_text x.0 named.1),
    )

pub get_raises_grow : (text : List ℕ) (m n : Member) → get_raises_added text m ≡ Some n
    → Grown member_lines is_good_member m n (spaced (codes "getraises") text)
unfolding get_raises_added
get_raises_grow text (method o) n read = absurd (none_some read)
get_raises_grow text (attribute a) n read =
    let free = allowed (not (is_some_list a.set_raises)) _ n read in
    let names = given (pushed a.get_raises (entity_name_of text)) _ n free.1 in
    let grow = names_grow (codes "getraises") text a.get_raises names.0 names.1 in
    let none : name_lines (codes "setraises") a.set_raises ≡ [] = ap (name_lines (codes "setraises")) (no_list a.set_raises free.0) in
    let made : Attribute = record { name = a.name; read_only = a.read_only; kind = a.kind; get_raises = names.0; set_raises = a.set_raises } in
    let whole : Grown member_lines is_good_member (attribute a) (attribute made) (spaced (codes "getraises") text) =
    record {
      printed =
          ap (λ t. attribute_line a ∷ (t ++ name_lines (codes "setraises") a.set_raises)) grow.0
          ∙ first_run (attribute_line a) (name_lines (codes "getraises") a.get_raises) (name_lines (codes "setraises") a.set_raises)
          (spaced (codes "getraises") text) none;
      passes = λ good.
          let t = tests_of_attribute a good in
          good_attribute made (record { named = t.named; spelled = t.spelled; gets = grow.1 t.gets; sets = t.sets });
      text = spaced_text (codes "getraises") text refl grow.2;
    } in
    subst (λ p. Grown member_lines is_good_member (attribute a) p (spaced (codes "getraises") text)) (same_some names.2) whole

pub set_raises_grow : (text : List ℕ) (m n : Member) → set_raises_added text m ≡ Some n
    → Grown member_lines is_good_member m n (spaced (codes "setraises") text)
unfolding set_raises_added
set_raises_grow text (method o) n read = absurd (none_some read)
set_raises_grow text (attribute a) n read =
    let names = given (pushed a.set_raises (entity_name_of text)) _ n read in
    let grow = names_grow (codes "setraises") text a.set_raises names.0 names.1 in
    let made : Attribute = record { name = a.name; read_only = a.read_only; kind = a.kind; get_raises = a.get_raises; set_raises = names.0 } in
    let whole : Grown member_lines is_good_member (attribute a) (attribute made) (spaced (codes "setraises") text) =
    record {
      printed =
          ap (λ t. attribute_line a ∷ (name_lines (codes "getraises") a.get_raises ++ t)) grow.0
          ∙ second_run (attribute_line a) (name_lines (codes "getraises") a.get_raises) (name_lines (codes "setraises") a.set_raises)
          (spaced (codes "setraises") text);
      passes = λ good.
          let t = tests_of_attribute a good in
          good_attribute made (record { named = t.named; spelled = t.spelled; gets = t.gets; sets = grow.1 t.sets });
      text = spaced_text (codes "setraises") text refl grow.2;
    } in
    subst (λ p. Grown member_lines is_good_member (attribute a) p (spaced (codes "setraises") text)) (same_some names.2) whole

pub param_grow : (text : List ℕ) (m n : Member) → param_added same text m ≡ Some n
    → Grown member_lines is_good_member m n (spaced (codes "param") text)
unfolding param_added
param_grow text (attribute a) n read = absurd (none_some read)
param_grow text (method o) n read =
    let free = allowed (not (is_some_list o.raises)) _ n read in
    let params = given (pushed o.params (param_of same text)) _ n free.1 in
    let p = pushed_is o.params params.0 (param_of same text) params.1 in
    let is = param_back text p.0 p.1 in
    let none : name_lines (codes "raises") o.raises ≡ [] = ap (name_lines (codes "raises")) (no_list o.raises free.0) in
    let line : map param_line params.0 ≡ map param_line o.params ++ spaced (codes "param") text ∷ [] =
    ap (map param_line) p.2 ∙ map-append param_line o.params (p.0 ∷ [])
    ∙ ap (λ t. map param_line o.params ++ spaced (codes "param") t ∷ []) (sym is.split) in
    let made : Method = record { name = o.name; oneway = o.oneway; result_kind = o.result_kind; params = params.0; raises = o.raises } in
    let whole : Grown member_lines is_good_member (method o) (method made) (spaced (codes "param") text) =
    record {
      printed =
          ap (λ t. method_line o ∷ (t ++ name_lines (codes "raises") o.raises)) line
          ∙ first_run (method_line o) (map param_line o.params) (name_lines (codes "raises") o.raises) (spaced (codes "param") text) none;
      passes = λ good.
          let t = tests_of_method o good in
          let params_good : list_all is_good_param params.0 ≡ true = rw (p.2) (pushed_passes is_good_param o.params p.0 t.good_params is.good) in
          good_method made (record { named = t.named; spelled = t.spelled; void = t.void; good_params = params_good; raised = t.raised });
      text = spaced_text (codes "param") text refl is.bytes;
    } in
    subst (λ q. Grown member_lines is_good_member (method o) q (spaced (codes "param") text)) (same_some params.2) whole

pub raises_grow : (text : List ℕ) (m n : Member) → raises_added text m ≡ Some n → Grown member_lines is_good_member m n (spaced (codes "raises") text)
unfolding raises_added
raises_grow text (attribute a) n read = absurd (none_some read)
raises_grow text (method o) n read =
    let names = given (pushed o.raises (entity_name_of text)) _ n read in
    let grow = names_grow (codes "raises") text o.raises names.0 names.1 in
    let made : Method = record { name = o.name; oneway = o.oneway; result_kind = o.result_kind; params = o.params; raises = names.0 } in
    let whole : Grown member_lines is_good_member (method o) (method made) (spaced (codes "raises") text) =
    record {
      printed =
          ap (λ t. method_line o ∷ (map param_line o.params ++ t)) grow.0
          ∙ second_run (method_line o) (map param_line o.params) (name_lines (codes "raises") o.raises) (spaced (codes "raises") text);
      passes = λ good.
          let t = tests_of_method o good in
          good_method made (record { named = t.named; spelled = t.spelled; void = t.void; good_params = t.good_params; raised = grow.1 t.raised });
      text = spaced_text (codes "raises") text refl grow.2;
    } in
    subst (λ q. Grown member_lines is_good_member (method o) q (spaced (codes "raises") text)) (same_some names.2) whole
