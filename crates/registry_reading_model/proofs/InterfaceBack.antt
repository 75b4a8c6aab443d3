-- A line of an interface that is read is the next of what is printed of it.
use Rattle.std.proofs.Common.{◌≡◌, ℕ, Bool, true, false, not, List, [], ◌∷◌, ◌++◌, map, Option, Some, refl, sym, ap, subst, ◌∙◌, append_assoc, codes}
use Rattle.std.specs.List.{list_all, flat_map}
use Rattle.std.specs.Str.{bytes_eq}
use Rattle.std.proofs.lemmas.Bool.{and_parts, and_from}
use Rattle.std.proofs.lemmas.List.{map-append}
use Rattle.uno_model.proofs.Options.{same_some, none_some}
use Rattle.uno_model.specs.Entities.{Base, Member, attribute, method, Body, interface}
use Rattle.uno_model.specs.Names.{is_entity_name}
use Rattle.uno_model.specs.Sound.{is_some_list}
use Rattle.registry_text_model.specs.Lines.{spaced, base_word, base_line, member_lines, header_words, body_lines}
use Rattle.registry_reading_model.specs.Bodies.{pushed, last_changed, attribute_of, method_of, oneway_of, get_raises_added}
use Rattle.registry_reading_model.specs.Bodies.{set_raises_added, param_added, raises_added, base_added, with_members, interface_line}
use Rattle.registry_reading_model.specs.Changes.{same}
use Rattle.registry_reading_model.specs.Words.{on_some, entity_name_of}
use Rattle.registry_reading_model.proofs.GrowthLaws.{Made, Grown, no_list, pushed_passes, grown_by_push, grown_by_change, between_runs}
use Rattle.registry_reading_model.proofs.PrintedLaws.{is_text, entity_name_text, spaced_text}
use Rattle.registry_reading_model.proofs.WordLaws.{given, allowed, chosen, same_word, entity_name_back}
use Rattle.registry_reading_model.proofs.GoodParts.{is_good_member, is_good_body}
use Rattle.registry_reading_model.proofs.MemberBack.{attribute_made, method_made, oneway_made, get_raises_grow, set_raises_grow, param_grow}
use Rattle.registry_reading_model.proofs.MemberBack.{raises_grow}

-- a line more of a body, under the same header
pub record Adds (before after : Body) (line : List ℕ) : Type 0 where
  pub printed : body_lines after ≡ body_lines before ++ line ∷ []
  pub header : (name : List ℕ) → header_words name after ≡ header_words name before
  pub passes : is_good_body before ≡ true → is_good_body after ≡ true
  pub text : is_text line ≡ true

-- ---- bases

base_adds : (optional : Bool) (bases : List Base) (members : List Member) (word text : List ℕ) (b : Body) → word ≡ base_word optional
    → is_text (base_word optional) ≡ true
    → base_added optional bases members text ≡ Some b → Adds (interface bases members) b (spaced word text)
base_adds optional bases members word text b is bytes read =
    let free = allowed (not (is_some_list members)) _ b read in
    let name = given (entity_name_of text) (λ name. Some (interface (bases ++ record { optional = optional; name = name } ∷ []) members)) b free.1 in
    let named = entity_name_back text name.0 name.1 in
    let base : Base = record { optional = optional; name = name.0 } in
    let split : base_line base ≡ spaced word text = ap (λ t. spaced (base_word optional) t) (sym named.0) ∙ ap (λ w. spaced w text) (sym is) in
    let none : flat_map member_lines members ≡ [] = ap (flat_map member_lines) (no_list members free.0) in
    let lines : map base_line (bases ++ base ∷ []) ++ flat_map member_lines members
    ≡ (map base_line bases ++ flat_map member_lines members) ++ spaced word text ∷ [] =
    ap (λ t. t ++ flat_map member_lines members) (map-append base_line bases (base ∷ []) ∙ ap (λ l. map base_line bases ++ l ∷ []) split)
    ∙ between_runs (map base_line bases) (flat_map member_lines members) (spaced word text) none in
    let whole : Adds (interface bases members) (interface (bases ++ base ∷ []) members) (spaced word text) =
    record {
      printed = lines;
      header = λ n. refl;
      passes = λ good.
          let both = and_parts (list_all (λ d. is_entity_name d.name) bases) (list_all is_good_member members) good in
          and_from (list_all (λ d. is_entity_name d.name) (bases ++ base ∷ [])) (list_all is_good_member members)
          (pushed_passes (λ d. is_entity_name d.name) bases base both.0 named.1) both.1;
      text =
          subst (λ t. is_text t ≡ true) split (spaced_text (base_word optional) name.0 bytes (entity_name_text name.0 named.1));
    } in
    subst (λ c. Adds (interface bases members) c (spaced word text)) (same_some name.2) whole

-- ---- members

members_add : (bases : List Base) (members : List Member) (o : Option (List Member)) (b : Body) (line : List ℕ) → with_members bases o ≡ Some b
    → ((ms : List Member) → o ≡ Some ms → Grown (flat_map member_lines) (list_all is_good_member) members ms line)
    → Adds (interface bases members) b line
members_add bases members o b line read each =
    let ms = given o (λ ms. Some (interface bases ms)) b read in
    let is = each ms.0 ms.1 in
    let whole : Adds (interface bases members) (interface bases ms.0) line =
    record {
      printed = ap (λ t. map base_line bases ++ t) is.printed ∙ sym (append_assoc (map base_line bases) (flat_map member_lines members) (line ∷ []));
      header = λ n. refl;
      passes = λ good.
          let both = and_parts (list_all (λ d. is_entity_name d.name) bases) (list_all is_good_member members) good in
          and_from (list_all (λ d. is_entity_name d.name) bases) (list_all is_good_member ms.0) both.0 (is.passes both.1);
      text = is.text;
    } in
    subst (λ c. Adds (interface bases members) c line) (same_some ms.2) whole

-- ---- any line

pub interface_back : (bases : List Base) (members : List Member) (word text : List ℕ) (b : Body)
    → interface_line same bases members word text ≡ Some b
    → Adds (interface bases members) b (spaced word text)
unfolding interface_line base_word
interface_back bases members word text b read =
    chosen (bytes_eq word (codes "base")) _ _ b read (λ e r. base_adds false bases members word text b (same_word word (codes "base") e) refl r)
    (λ read.
    chosen (bytes_eq word (codes "optional")) _ _ b read (λ e r. base_adds true bases members word text b
    (same_word word (codes "optional") e) refl r) (λ read.
    chosen (bytes_eq word (codes "attribute")) _ _ b read (λ e r. behind_it (codes "attribute") e
    (pushed_one (codes "attribute") (on_some (attribute_of same text) (λ a. Some (attribute a))) (attribute_made text) r)) (λ read.
    chosen (bytes_eq word (codes "getraises")) _ _ b read (λ e r. behind_it (codes "getraises") e
    (changed_one (codes "getraises") (get_raises_added text) (get_raises_grow text) r)) (λ read.
    chosen (bytes_eq word (codes "setraises")) _ _ b read (λ e r. behind_it (codes "setraises") e
    (changed_one (codes "setraises") (set_raises_added text) (set_raises_grow text) r)) (λ read.
    chosen (bytes_eq word (codes "method")) _ _ b read (λ e r. behind_it (codes "method") e
    (pushed_one (codes "method") (on_some (method_of same text) (λ m. Some (method m))) (method_made text) r)) (λ read.
    chosen (bytes_eq word (codes "oneway")) _ _ b read (λ e r. behind_it (codes "oneway") e
    (pushed_one (codes "oneway") (on_some (oneway_of same text) (λ m. Some (method m))) (oneway_made text) r)) (λ read.
    chosen (bytes_eq word (codes "param")) _ _ b read (λ e r. behind_it (codes "param") e
    (changed_one (codes "param") (param_added same text) (param_grow text) r)) (λ read.
    chosen (bytes_eq word (codes "raises")) _ _ b read (λ e r. behind_it (codes "raises") e
    (changed_one (codes "raises") (raises_added text) (raises_grow text) r)) (λ read.
    absurd (none_some read))))))))))
  where
    behind_it : (w : List ℕ) → bytes_eq word w ≡ true → Adds (interface bases members) b (spaced w text)
        → Adds (interface bases members) b (spaced word text)
    behind_it w e adds = subst (λ v. Adds (interface bases members) b (spaced v text)) (sym (same_word word w e)) adds

    pushed_one : (w : List ℕ) (o : Option Member) → ((m : Member) → o ≡ Some m → Made member_lines is_good_member m (spaced w text))
        → with_members bases (pushed members o) ≡ Some b
        → Adds (interface bases members) b (spaced w text)
    pushed_one w o made r =
        members_add bases members (pushed members o) b (spaced w text) r
        (λ ms is. grown_by_push is_good_member (spaced w text) member_lines members ms o is made)

    changed_one : (w : List ℕ) (f : Member → Option Member) → ((m n : Member) → f m ≡ Some n → Grown member_lines is_good_member m n (spaced w text))
        → with_members bases (last_changed f members) ≡ Some b → Adds (interface bases members) b (spaced w text)
    changed_one w f grown r =
        members_add bases members (last_changed f members) b (spaced w text) r
        (λ ms is. grown_by_change member_lines is_good_member (spaced w text) f members ms is grown)
