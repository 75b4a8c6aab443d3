-- No term begins with a second word of an unsigned type, where the names of the registry are identifiers.
use Rattle.std.proofs.Common.{◌≡◌, ℕ, zero, suc, Bool, true, false, ◌&&◌, ◌==◌, List, [], ◌∷◌, map, None, Some}
use Rattle.std.proofs.Common.{refl, sym, subst, ◌∙◌}
use Rattle.std.proofs.lemmas.Bool.{and_parts, or_from, and_left, false_from_ne_true, both_ways}
use Rattle.std.specs.List.{list_all, list_any}
use Rattle.std.specs.Str.{bytes_eq}
use Rattle.uno_model.proofs.Options.{none_some}
use Rattle.uno_model.specs.Defaults.{items_of}
use Rattle.uno_model.specs.Entities.{Entity, Item, Body}
use Rattle.uno_model.specs.Entities as plain
use Rattle.uno_model.specs.Names.{begins_identifier, goes_on_identifier, is_identifier, is_entity_name}
use Rattle.uno_model.specs.Sound.{is_named}
use Rattle.uno_model.specs.Uses.{inner_names}
use Rattle.literal_model.specs.Literals.{first_item}
use Rattle.literal_model.specs.Shapes.{run_of, behind_run, is_some_name, is_first_name, is_own_word, is_known_word}
use Rattle.plan_model.specs.Lines.{Term}
use Rattle.plan_reading_model.specs.Parts.{is_second_word}
use Rattle.plan_reading_model.specs.TermReading.{Reads, known_word, operation_at, behind_word, letters_at, term_step, term_within}
use Rattle.plan_reading_model.proofs.PartRuns.{chosen, allowed, same_word}
use Rattle.plan_reading_model.proofs.PartTypes.{each_second}
use Rattle.plan_reading_model.proofs.TermLeaves.{letters_step}

-- ---- a second word is no name of an item

other_name : (name w : List ℕ) → is_identifier name ≡ true → is_identifier w ≡ false → bytes_eq name w ≡ false
other_name name w named reserved =
    false_from_ne_true (bytes_eq name w) (λ same. both_ways (is_identifier w) reserved (subst (λ v. is_identifier v ≡ true) (same_word name w same) named))

no_item : (all items : List Item) (w : List ℕ) → is_identifier w ≡ false → list_all is_identifier (map (λ (i : Item). i.name) items) ≡ true
    → list_any (λ (i : Item). bytes_eq i.name w && is_some_name (first_item all i.number) w) items ≡ false
no_item all [] w reserved named = refl
no_item all (i ∷ items) w reserved named =
    let parts = and_parts (is_identifier i.name) (list_all is_identifier (map (λ (j : Item). j.name) items)) named in
    or_from (bytes_eq i.name w && is_some_name (first_item all i.number) w) _
    (and_left (bytes_eq i.name w) (is_some_name (first_item all i.number) w) (other_name i.name w parts.0 reserved)) (no_item all items w reserved parts.1)

items_named : (e : Entity) (b : Body) → e.body ≡ b → is_named e ≡ true → list_all is_identifier (map (λ (i : Item). i.name) (items_of (Some e))) ≡ true
items_named e (plain.enum items) is named = let inner = (and_parts (is_entity_name e.name) (list_all is_identifier (inner_names e.body)) named).1 in rw is (rw is at inner)
items_named e _ is named = rw is refl

no_entity : (reg : List Entity) (w : List ℕ) → is_identifier w ≡ false → list_all is_named reg ≡ true → list_any (λ e. is_first_name (items_of (Some e)) w) reg ≡ false
no_entity [] w reserved named = refl
no_entity (e ∷ es) w reserved named =
    let parts = and_parts (is_named e) (list_all is_named es) named in
    or_from (is_first_name (items_of (Some e)) w) _ (no_item (items_of (Some e)) (items_of (Some e)) w reserved (items_named e e.body refl parts.0)) (no_entity es w reserved parts.1)

second_unknown : (reg : List Entity) (w : List ℕ) → list_all is_named reg ≡ true → is_second_word w ≡ true → is_known_word reg w ≡ false
second_unknown reg w named is =
    let own = each_second (λ v. is_own_word v ≡ false) w is refl refl refl in
    let reserved = each_second (λ v. is_identifier v ≡ false) w is refl refl refl in
    or_from (is_own_word w) (list_any (λ e. is_first_name (items_of (Some e)) w) reg) own (no_entity reg w reserved named)

-- ---- what is read of a text that begins with a second word

abbrev begins : List ℕ → Bool
begins [] = false
begins (c ∷ cs) = begins_identifier c

front_begins : (c : ℕ) (cs : List ℕ) → begins (run_of goes_on_identifier (c ∷ cs)) ≡ true → begins_identifier c ≡ true
unfolding run_of
front_begins c cs is = by_test (goes_on_identifier c) refl
  where
    by_test : (b : Bool) → goes_on_identifier c ≡ b → begins_identifier c ≡ true
    by_test true on = rw on at is
    by_test false off = absurd (both_ways false refl (rw off at is))

known_is : (reg : List Entity) (w rest : List ℕ) (x : Term × List ℕ) → known_word reg w rest ≡ Some x → is_known_word reg w ≡ true
known_is reg w rest x e = (allowed (is_known_word reg w) _ x e).0

behind_second_known : (reg : List Entity) (read : Reads Term) (w rest : List ℕ) (x : Term × List ℕ) → is_second_word w ≡ true
    → behind_word reg read w rest ≡ Some x → is_known_word reg w ≡ true
behind_second_known reg read w [] x is e = known_is reg w [] x e
behind_second_known reg read w (c ∷ cs) x is e =
    chosen (c == 40) _ _ x e
    (λ opens e. absurd (none_some (sym (each_second (λ v. operation_at read v cs ≡ None) w is refl refl refl) ∙ e)))
    (λ other e. known_is reg w (c ∷ cs) x e)

second_known : (reg : List Entity) (read : Reads Term) (bytes : List ℕ) (x : Term × List ℕ) → is_second_word (run_of goes_on_identifier bytes) ≡ true
    → term_step reg read bytes ≡ Some x → is_known_word reg (run_of goes_on_identifier bytes) ≡ true
unfolding letters_at term_step
second_known reg read [] x is e = absurd (none_some e)
second_known reg read (c ∷ cs) x is e =
    let begun = front_begins c cs (each_second (λ v. begins v ≡ true) (run_of goes_on_identifier (c ∷ cs)) is refl refl refl) in
    behind_second_known reg read (run_of goes_on_identifier (c ∷ cs)) (behind_run goes_on_identifier (c ∷ cs)) x is (sym (letters_step reg read c cs begun) ∙ e)

-- what is read within some levels does not begin so
pub no_second : (n : ℕ) (reg : List Entity) (bytes : List ℕ) (x : Term × List ℕ) → list_all is_named reg ≡ true → term_within n reg bytes ≡ Some x
    → is_second_word (run_of goes_on_identifier bytes) ≡ false
unfolding term_within
no_second zero reg bytes x named e = absurd (none_some e)
no_second (suc n) reg bytes x named e =
    false_from_ne_true (is_second_word (run_of goes_on_identifier bytes))
    (λ is. both_ways (is_known_word reg (run_of goes_on_identifier bytes)) (second_unknown reg (run_of goes_on_identifier bytes) named is)
    (second_known reg (term_within n reg) bytes x is e))
