-- What a line makes of what was read.
use Rattle.std.proofs.Common.{◌≡◌, ℕ, Bool, true, false, List, [], ◌∷◌, ◌++◌, Option, None, Some, Ok, Err, refl, sym, ap, subst, ◌∙◌, codes, if◌then◌else◌}
use Rattle.std.proofs.lemmas.Bool.{and_parts}
use Rattle.std.specs.Prelude.{not}
use Rattle.std.proofs.lemmas.Slice.Eq.{bytes_eq-Decides}
use Rattle.uno_model.specs.BuiltIn.{built_in}
use Rattle.uno_model.specs.Entities as plain
use Rattle.uno_model.specs.Registry.{IsRising, Adds, find_entity}
use Rattle.registry_text_model.specs.Lines.{written, is_built_in_name}
use Rattle.registry_reading_model.proofs.AddLaws.{last_added, above_last, never_there, added_last}
use Rattle.registry_reading_model.specs.Bodies.{body_line}
use Rattle.registry_reading_model.specs.Changes.{Change}
use Rattle.registry_reading_model.specs.Headers.{header_of, is_free_name, opened, opened_alone, opened_with, words_opened, perhaps_published}
use Rattle.registry_reading_model.specs.Words.{on_some, where_, word_of, behind}
use Rattle.registry_reading_model.specs.States.{State, between, within, bad, out_of_order, step, is_above, is_above_name, last_name, with_body, begun, gone_on}
use Rattle.registry_reading.proofs.LastLemmas.{differs}
use Rattle.registry_reading.specs.declared.reader.Reader.{Reader}
use Rattle.registry_reading.specs.Readers.{IsRead, MayCome}

pub none_written : written built_in ≡ []
unfolding is_built_in_name
none_written = refl

pub none_last : None ≡ last_name []
unfolding last_name
none_last = refl

-- ---- a header

module _ (c : Change) (done : List plain.Entity) (line : List ℕ) where
  pub no_header : (o : Option plain.Entity) → o ≡ header_of c line → o ≡ None → step true c (between done) line ≡ Err bad
  unfolding step
  no_header o read none = ap (begun true done) (sym read ∙ none)

  header_read : (o : Option plain.Entity) (e : plain.Entity) → o ≡ header_of c line → o ≡ Some e → (b : Bool) → is_above done e.name ≡ b
      → step true c (between done) line ≡ (if b then Ok (within done e) else Err out_of_order)
  unfolding step
  header_read o e read is b above = ap (begun true done) (sym read ∙ is) ∙ ap (λ a. if a then Ok (within done e) else Err out_of_order) above

  above_by_last : (e : plain.Entity) (last : Option (List ℕ)) (b : Bool) → last ≡ last_name done → b ≡ is_above_name last e.name → is_above done e.name ≡ b
  above_by_last e last b is test = above_last done e.name ∙ ap (λ l. is_above_name l e.name) (sym is) ∙ sym test

  pub header_falls : (o : Option plain.Entity) (e : plain.Entity) (last : Option (List ℕ)) (b : Bool) → o ≡ header_of c line → o ≡ Some e → last ≡ last_name done
      → b ≡ is_above_name last e.name → b ≡ false → step true c (between done) line ≡ Err out_of_order
  header_falls o e last b read is at test falls = header_read o e read is false (above_by_last e last b at test ∙ falls)

  pub header_fits : (o : Option plain.Entity) (e : plain.Entity) (last : Option (List ℕ)) (b : Bool) → o ≡ header_of c line → o ≡ Some e → last ≡ last_name done
      → b ≡ is_above_name last e.name → b ≡ true → (step true c (between done) line ≡ Ok (within done e)) × (is_above done e.name ≡ true)
  header_fits o e last b read is at test fits = let above = above_by_last e last b at test ∙ fits in (header_read o e read is true above, above)

  -- ---- a line under it

  pub no_line : (e : plain.Entity) → (line ≡ codes "end" → ⊥) → body_line c e.body line ≡ None → step true c (within done e) line ≡ Err bad
  unfolding step
  no_line e other none = rw (differs line (codes "end") other, none) refl

  pub one_line : (e : plain.Entity) (body : plain.Body) → (line ≡ codes "end" → ⊥) → body_line c e.body line ≡ Some body → step true c (within done e) line ≡ Ok (within done (with_body e body))
  unfolding step
  one_line e body other some = rw (differs line (codes "end") other, some) refl

  pub at_end : (e : plain.Entity) (st : State) → line ≡ codes "end" → st ≡ between (done ++ e ∷ []) → step true c (within done e) line ≡ Ok st
  unfolding step
  at_end e st is to = ap (λ b. if b then Ok (between (done ++ e ∷ [])) else gone_on done e (body_line c e.body line)) ((bytes_eq-Decides line (codes "end")).1 is) ∙ ap Ok (sym to)

-- ---- the end of an entity

free_is_not_built_in : (name : List ℕ) → is_free_name name ≡ true → is_built_in_name name ≡ false
free_is_not_built_in name free = by_test (is_built_in_name name) ((and_parts _ (not (is_built_in_name name)) free).1)
  where
    by_test : (b : Bool) → not b ≡ true → b ≡ false
    by_test true none = absurd cc
    by_test false free_there = refl

pub absent : (reg : List plain.Entity) (name : List ℕ) → IsRising reg → is_free_name name ≡ true → is_above (written reg) name ≡ true → find_entity name reg ≡ None
absent reg name rising free above = never_there reg name rising (free_is_not_built_in name free) above

pub one_more : (old new : List plain.Entity) (e : plain.Entity) → Adds old new e → IsRising new → is_free_name e.name ≡ true → is_above (written old) e.name ≡ true
    → written new ≡ written old ++ e ∷ []
one_more old new e adds rising free above = added_last old new e adds rising (free_is_not_built_in e.name free) above

pub its_name_is_last : (old new : List plain.Entity) (e : plain.Entity) → written new ≡ written old ++ e ∷ [] → Some e.name ≡ last_name (written new)
its_name_is_last old new e is = sym (ap last_name is ∙ last_added (written old) e)

-- ---- the name of a header is free

where_free : (b : Bool) (f : Option plain.Body) (g : plain.Body → plain.Entity) (name : List ℕ) (e : plain.Entity) → is_free_name name ≡ b → ((body : plain.Body) → (g body).name ≡ name)
    → where_ b (on_some f (λ body. Some (g body))) ≡ Some e → is_free_name e.name ≡ true
where_free false f g name e free named is = absurd cc
where_free true None g name e free named is = absurd cc
where_free true (Some body) g name e free named is = let same : g body ≡ e = of_one (g body) e is in ap (λ d. is_free_name d.name) (sym same) ∙ ap is_free_name (named body) ∙ free
  where
    of_one : (x y : plain.Entity) → Some x ≡ Some y → x ≡ y
    of_one x y both = ap out both
      where
        out : Option plain.Entity → plain.Entity
        out None = x
        out (Some z) = z

opened_free : (c : Change) (published : Bool) (word text : List ℕ) (o : Option (List ℕ × List ℕ)) (e : plain.Entity) → opened c published word text o ≡ Some e → is_free_name e.name ≡ true
opened_free c published word text None e is =
    where_free (is_free_name text) (opened_alone word) (λ body. record { name = text; published = published; body = body }) text e refl (λ body. refl) is
opened_free c published word text (Some x) e is =
    where_free (is_free_name x.0) (opened_with c word x.1) (λ body. record { name = x.0; published = published; body = body }) x.0 e refl (λ body. refl) is

words_free : (c : Change) (published : Bool) (text : List ℕ) (e : plain.Entity) → words_opened c published text ≡ Some e → is_free_name e.name ≡ true
unfolding words_opened
words_free c published text e is = by_word (word_of text) is
  where
    by_word : (o : Option (List ℕ × List ℕ)) → on_some o (λ x. opened c published x.0 x.1 (word_of x.1)) ≡ Some e → is_free_name e.name ≡ true
    by_word None none = absurd cc
    by_word (Some x) some = opened_free c published x.0 x.1 (word_of x.1) e some

pub header_free : (c : Change) (line : List ℕ) (o : Option plain.Entity) (e : plain.Entity) → o ≡ header_of c line → o ≡ Some e → is_free_name e.name ≡ true
unfolding header_of
header_free c line o e read is = by_front (behind (codes "published ") line) (sym read ∙ is)
  where
    by_front : (p : Option (List ℕ)) → perhaps_published c line p ≡ Some e → is_free_name e.name ≡ true
    by_front None some = words_free c false line e some
    by_front (Some words) some = words_free c true words e some

-- behind the end of an entity
pub read_between : (r : Reader) (old new : List plain.Entity) (e : plain.Entity) → r.registry ≡ new → r.entity ≡ None → r.last ≡ Some e.name → written new ≡ written old ++ e ∷ []
    → IsRead r
read_between r old new e same none last more =
    record {
      last = last ∙ its_name_is_last old new e more ∙ ap (λ reg. last_name (written reg)) (sym same);
      entity = subst (MayCome (written r.registry)) (sym none) tt;
    }
