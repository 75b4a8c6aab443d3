-- A header that is read is what is printed of the entity that it opens.
use Rattle.std.proofs.Common.{◌≡◌, ℕ, Bool, true, false, not, ◌&&◌, List, [], Option, None, Some, refl, sym, ap, subst, ◌∙◌, codes}
use Rattle.std.specs.Str.{bytes_eq}
use Rattle.std.proofs.lemmas.Bool.{and_parts, and_from, not-true}
use Rattle.uno_model.proofs.Options.{same_some, none_some}
use Rattle.uno_model.specs.Entities.{Body, interface, struct, exception, enum, constants, typedef, new_service, old_service, new_singleton}
use Rattle.uno_model.specs.Entities.{old_singleton, Entity}
use Rattle.uno_model.specs.Kinds.{name_of}
use Rattle.uno_model.specs.Names.{is_entity_name}
use Rattle.registry_text_model.specs.Lines.{spaced, header_line, header_words, body_lines, is_built_in_name}
use Rattle.registry_reading_model.specs.Bodies.{changed_kind}
use Rattle.registry_reading_model.specs.Changes.{same}
use Rattle.registry_reading_model.specs.Headers.{singleton_of, opened_alone, service_opened, opened_with, is_free_name, opened, words_opened}
use Rattle.registry_reading_model.specs.Headers.{perhaps_published, header_of}
use Rattle.registry_reading_model.specs.Words.{on_some, where_, word_of, behind, entity_name_of}
use Rattle.registry_reading_model.proofs.PartBack.{changed_kind_back, behind_word_back}
use Rattle.registry_reading_model.proofs.PrintedLaws.{is_text, entity_name_text, spaced_text}
use Rattle.registry_reading_model.proofs.WordLaws.{given, allowed, chosen, same_word, word_back, entity_name_back}
use Rattle.registry_reading_model.proofs.GoodParts.{is_good_body}

-- the words open this body, which has no lines yet
pub record Opens (name words : List ℕ) (body : Body) : Type 0 where
  pub printed : header_words name body ≡ words
  pub empty : body_lines body ≡ []
  pub good : is_good_body body ≡ true
  pub text : is_text words ≡ true

-- ---- with nothing behind the name

alone_is : (word v name : List ℕ) (made body : Body) → is_entity_name name ≡ true → is_text v ≡ true → header_words name made ≡ spaced v name
    → body_lines made ≡ [] → is_good_body made ≡ true
    → bytes_eq word v ≡ true → Some made ≡ Some body → Opens name (spaced word name) body
alone_is word v name made body named bytes words empty good same is =
    let split : spaced v name ≡ spaced word name = ap (λ w. spaced w name) (sym (same_word word v same)) in
    let whole : Opens name (spaced word name) made =
    record {
      printed = words ∙ split;
      empty = empty;
      good = good;
      text = subst (λ t. is_text t ≡ true) split
          (spaced_text v name bytes (entity_name_text name named));
    } in
    subst (λ b. Opens name (spaced word name) b) (same_some is) whole

alone_back : (word name : List ℕ) (body : Body) → is_entity_name name ≡ true → opened_alone word ≡ Some body → Opens name (spaced word name) body
unfolding opened_alone
alone_back word name body named read =
    chosen (bytes_eq word (codes "interface")) _ _ body read (alone_is word (codes "interface") name (interface [] []) body named refl refl refl refl)
    (λ read.
    chosen (bytes_eq word (codes "struct")) _ _ body read (alone_is word (codes "struct") name (struct None []) body named refl refl refl refl)
    (λ read.
    chosen (bytes_eq word (codes "exception")) _ _ body read
    (alone_is word (codes "exception") name (exception None []) body named refl refl refl refl) (λ read.
    chosen (bytes_eq word (codes "enum")) _ _ body read (alone_is word (codes "enum") name (enum []) body named refl refl refl refl) (λ read.
    chosen (bytes_eq word (codes "constants")) _ _ body read (alone_is word (codes "constants") name (constants []) body named refl refl refl refl)
    (λ read. absurd (none_some read))))))

-- ---- with something behind the name

based_is : (v name rest : List ℕ) (make : List ℕ → Body) (body : Body) → is_entity_name name ≡ true → is_text v ≡ true
    → ((base : List ℕ) → header_words name (make base) ≡ spaced v (spaced name base)) → ((base : List ℕ) → body_lines (make base) ≡ [])
    → ((base : List ℕ) → is_entity_name base ≡ true → is_good_body (make base) ≡ true)
    → on_some (entity_name_of rest) (λ base. Some (make base)) ≡ Some body → Opens name (spaced v (spaced name rest)) body
based_is v name rest make body named bytes words empty good read =
    let base = given (entity_name_of rest) (λ base. Some (make base)) body read in
    let is = entity_name_back rest base.0 base.1 in
    let split : spaced v (spaced name base.0) ≡ spaced v (spaced name rest) = ap (λ t. spaced v (spaced name t)) (sym is.0) in
    let all_bytes = spaced_text v (spaced name base.0) bytes (spaced_text name base.0 (entity_name_text name named) (entity_name_text base.0 is.1)) in
    let whole : Opens name (spaced v (spaced name rest)) (make base.0) =
    record { printed = words base.0 ∙ split; empty = empty base.0; good = good base.0 is.1; text = subst (λ t. is_text t ≡ true) split all_bytes } in
    subst (λ b. Opens name (spaced v (spaced name rest)) b) (same_some base.2) whole

-- `typedef NAME TYPE`
typedef_back : (name rest : List ℕ) (body : Body) → is_entity_name name ≡ true → on_some (changed_kind same rest) (λ k. Some (typedef k)) ≡ Some body
    → Opens name (spaced (codes "typedef") (spaced name rest)) body
typedef_back name rest body named read =
    let k = given (changed_kind same rest) (λ k. Some (typedef k)) body read in
    let is = changed_kind_back rest k.0 k.1 in
    let split : spaced (codes "typedef") (spaced name (name_of k.0)) ≡ spaced (codes "typedef") (spaced name rest) = ap
    (λ t. spaced (codes "typedef") (spaced name t)) (sym is.named) in
    let whole : Opens name (spaced (codes "typedef") (spaced name rest)) (typedef k.0) =
    record {
      printed = split;
      empty = refl;
      good = is.spelled;
      text = spaced_text (codes "typedef") (spaced name rest) refl
          (spaced_text name rest (entity_name_text name named) is.bytes);
    } in
    subst (λ b. Opens name (spaced (codes "typedef") (spaced name rest)) b) (same_some k.2) whole

-- `service NAME new BASE` or `service NAME old`
service_back : (name rest : List ℕ) (body : Body) → is_entity_name name ≡ true → service_opened rest ≡ Some body
    → Opens name (spaced (codes "service") (spaced name rest)) body
service_back name rest body named read =
    chosen (bytes_eq rest (codes "old")) _ _ body read (λ e r. old_one (same_word rest (codes "old") e) (same_some r)) new_one
  where
    old_one : rest ≡ codes "old" → old_service [] ≡ body → Opens name (spaced (codes "service") (spaced name rest)) body
    old_one is made =
        let split : spaced (codes "service") (spaced name (codes "old")) ≡ spaced (codes "service") (spaced name rest) = ap
        (λ t. spaced (codes "service") (spaced name t)) (sym is) in
        let bytes = spaced_text (codes "service") (spaced name (codes "old")) refl
        (spaced_text name (codes "old") (entity_name_text name named) refl) in
        let whole : Opens name (spaced (codes "service") (spaced name rest)) (old_service []) =
        record { printed = split; empty = refl; good = refl; text = subst (λ t. is_text t ≡ true) split bytes } in
        subst (λ b. Opens name (spaced (codes "service") (spaced name rest)) b) made whole

    new_one : on_some (behind (codes "new ") rest) (λ base. on_some (entity_name_of base) (λ n. Some (new_service n []))) ≡ Some body
        → Opens name (spaced (codes "service") (spaced name rest)) body
    new_one r =
        let text = given (behind (codes "new ") rest) (λ base. on_some (entity_name_of base) (λ n. Some (new_service n []))) body r in
        let base = given (entity_name_of text.0) (λ n. Some (new_service n [])) body text.2 in
        let is = entity_name_back text.0 base.0 base.1 in
        let behind_name : spaced (codes "new") base.0 ≡ rest = ap (λ t. spaced (codes "new") t) (sym is.0)
        ∙ sym (behind_word_back (codes "new") rest text.0 text.1) in
        let split : spaced (codes "service") (spaced name (spaced (codes "new") base.0)) ≡ spaced (codes "service") (spaced name rest) = ap
        (λ t. spaced (codes "service") (spaced name t)) behind_name in
        let bytes =
        spaced_text (codes "service") (spaced name (spaced (codes "new") base.0)) refl
        (spaced_text name (spaced (codes "new") base.0) (entity_name_text name named)
        (spaced_text (codes "new") base.0 refl (entity_name_text base.0 is.1))) in
        let whole : Opens name (spaced (codes "service") (spaced name rest)) (new_service base.0 []) =
        record {
          printed = split;
          empty = refl;
          good = and_from (is_entity_name base.0) true is.1 refl;
          text = subst
              (λ t. is_text t ≡ true) split bytes;
        } in
        subst (λ b. Opens name (spaced (codes "service") (spaced name rest)) b) (same_some base.2) whole

-- `singleton NAME new BASE`, or `old`
singleton_is : (v name form base rest : List ℕ) (made body : Body) → is_entity_name name ≡ true → is_entity_name base ≡ true → is_text v ≡ true
    → rest ≡ spaced form base
    → header_words name made ≡ spaced (codes "singleton") (spaced name (spaced v base)) → body_lines made ≡ [] → is_good_body made ≡ true
    → bytes_eq form v ≡ true → Some made ≡ Some body → Opens name (spaced (codes "singleton") (spaced name rest)) body
singleton_is v name form base rest made body named base_named bytes words_are words empty good same is =
    let behind_name : spaced v base ≡ rest = ap (λ w. spaced w base) (sym (same_word form v same)) ∙ sym words_are in
    let split : spaced (codes "singleton") (spaced name (spaced v base)) ≡ spaced (codes "singleton") (spaced name rest) = ap
    (λ t. spaced (codes "singleton") (spaced name t)) behind_name in
    let all_bytes =
    spaced_text (codes "singleton") (spaced name (spaced v base)) refl
    (spaced_text name (spaced v base) (entity_name_text name named) (spaced_text v base bytes (entity_name_text base base_named))) in
    let whole : Opens name (spaced (codes "singleton") (spaced name rest)) made =
    record { printed = words ∙ split; empty = empty; good = good; text = subst (λ t. is_text t ≡ true) split all_bytes } in
    subst (λ b. Opens name (spaced (codes "singleton") (spaced name rest)) b) (same_some is) whole

singleton_back : (name rest : List ℕ) (body : Body) → is_entity_name name ≡ true
    → on_some (word_of rest) (λ x. on_some (entity_name_of x.1) (singleton_of x.0)) ≡ Some body
    → Opens name (spaced (codes "singleton") (spaced name rest)) body
singleton_back name rest body named read =
    let x = given (word_of rest) (λ x. on_some (entity_name_of x.1) (singleton_of x.0)) body read in
    let base = given (entity_name_of x.0.1) (singleton_of x.0.0) body x.2 in
    let is = entity_name_back x.0.1 base.0 base.1 in
    let split : rest ≡ spaced x.0.0 base.0 = word_back rest x.0 x.1 ∙ ap (λ t. spaced x.0.0 t) is.0 in
    chosen (bytes_eq x.0.0 (codes "new")) _ _ body base.2 (singleton_is (codes "new") name x.0.0 base.0 rest
    (new_singleton base.0) body named is.1 refl split refl refl is.1) (λ read.
    chosen (bytes_eq x.0.0 (codes "old")) _ _ body read (singleton_is (codes "old") name x.0.0 base.0 rest
    (old_singleton base.0) body named is.1 refl split refl refl is.1) (λ read. absurd (none_some read)))

with_back : (word name rest : List ℕ) (body : Body) → is_entity_name name ≡ true → opened_with same word rest ≡ Some body
    → Opens name (spaced word (spaced name rest)) body
unfolding opened_with
with_back word name rest body named read =
    chosen (bytes_eq word (codes "struct")) _ _ body read (λ e r. behind_it (codes "struct") e
    (based_is (codes "struct") name rest (λ base. struct (Some base) []) body named refl (λ base. refl) (λ base. refl) based r)) (λ read.
    chosen (bytes_eq word (codes "exception")) _ _ body read
    (λ e r. behind_it (codes "exception") e (based_is (codes "exception") name rest (λ base. exception (Some base) []) body named refl
    (λ base. refl) (λ base. refl) based r)) (λ read.
    chosen (bytes_eq word (codes "typedef")) _ _ body read (λ e r. behind_it (codes "typedef") e (typedef_back name rest body named r)) (λ read.
    chosen (bytes_eq word (codes "service")) _ _ body read (λ e r. behind_it (codes "service") e (service_back name rest body named r)) (λ read.
    chosen (bytes_eq word (codes "singleton")) _ _ body read (λ e r. behind_it (codes "singleton") e (singleton_back name rest body named r))
    (λ read. absurd (none_some read))))))
  where
    behind_it : (w : List ℕ) → bytes_eq word w ≡ true → Opens name (spaced w (spaced name rest)) body
        → Opens name (spaced word (spaced name rest)) body
    behind_it w e opens = subst (λ v. Opens name (spaced v (spaced name rest)) body) (sym (same_word word w e)) opens

    based : (base : List ℕ) → is_entity_name base ≡ true → ((is_entity_name base && true) && true) ≡ true
    based base is = and_from (is_entity_name base && true) true (and_from (is_entity_name base) true is refl) refl

-- ---- the whole header

-- the words open this entity
pub record OpensEntity (published : Bool) (words : List ℕ) (e : Entity) : Type 0 where
  pub public : e.published ≡ published
  pub named : is_entity_name e.name ≡ true
  pub free : is_built_in_name e.name ≡ false
  pub body : Opens e.name words e.body

entity_is : (published : Bool) (name words : List ℕ) (o : Option Body) (e : Entity)
    → where_ (is_free_name name) (on_some o (λ body. Some (record { name = name; published = published; body = body }))) ≡ Some e
    → ((body : Body) → is_entity_name name ≡ true → o ≡ Some body → Opens name words body) → OpensEntity published words e
entity_is published name words o e read each =
    let free = allowed (is_free_name name) _ e read in
    let body = given o (λ body. Some (record { name = name; published = published; body = body })) e free.1 in
    let named = and_parts (is_entity_name name) (not (is_built_in_name name)) free.0 in
    let whole : OpensEntity published words (record { name = name; published = published; body = body.0 }) =
    record { public = refl; named = named.0; free = not-true (is_built_in_name name) named.1; body = each body.0 named.0 body.1 } in
    subst (λ d. OpensEntity published words d) (same_some body.2) whole

words_back : (published : Bool) (text : List ℕ) (e : Entity) → words_opened same published text ≡ Some e → OpensEntity published text e
unfolding words_opened
words_back published text e read =
    let x = given (word_of text) (λ x. opened same published x.0 x.1 (word_of x.1)) e read in
    subst (λ t. OpensEntity published t e) (sym (word_back text x.0 x.1)) (by_rest x.0.0 x.0.1 (word_of x.0.1) refl x.2)
  where
    by_rest : (word rest : List ℕ) (o : Option (List ℕ × List ℕ)) → word_of rest ≡ o → opened same published word rest o ≡ Some e
        → OpensEntity published (spaced word rest) e
    by_rest word rest None is read = entity_is published rest (spaced word rest) (opened_alone word) e read
        (λ body named r. alone_back word rest body named r)
    by_rest word rest (Some y) is read =
        subst (λ t. OpensEntity published (spaced word t) e) (sym (word_back rest y is))
        (entity_is published y.0 (spaced word (spaced y.0 y.1)) (opened_with same word y.1) e read
        (λ body named r. with_back word y.0 y.1 body named r))

-- a header is what is printed of the entity that it opens
pub record IsHeader (line : List ℕ) (e : Entity) : Type 0 where
  pub printed : header_line e ≡ line
  pub empty : body_lines e.body ≡ []
  pub named : is_entity_name e.name ≡ true
  pub good : is_good_body e.body ≡ true
  pub free : is_built_in_name e.name ≡ false
  pub text : is_text line ≡ true

pub header_is : (line : List ℕ) (e : Entity) → header_of same line ≡ Some e → IsHeader line e
unfolding header_of
header_is line e read = by_front (behind (codes "published ") line) refl read
  where
    by_front : (o : Option (List ℕ)) → behind (codes "published ") line ≡ o → perhaps_published same line o ≡ Some e → IsHeader line e
    by_front None is read =
        let opens = words_back false line e read in
        record {
          printed = rw (opens.public) opens.body.printed;
          empty = opens.body.empty;
          named = opens.named;
          good = opens.body.good;
          free =
              opens.free;
          text = opens.body.text;
        }
    by_front (Some words) is read =
        let opens = words_back true words e read in
        let split = behind_word_back (codes "published") line words is in
        record {
          printed = rw (opens.public) (ap (λ t. spaced (codes "published") t) opens.body.printed ∙ sym split);
          empty = opens.body.empty;
          named = opens.named;
          good = opens.body.good;
          free = opens.free;
          text = subst (λ t. is_text t ≡ true) (sym split) (spaced_text (codes "published") words refl opens.body.text);
        }
