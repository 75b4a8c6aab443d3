-- Names and types are read as they are spelled.
use Rattle.std.proofs.Common.{◌≡◌, ℕ, zero, suc, Bool, true, false, not, ◌&&◌, List, [], ◌∷◌, ◌++◌, ◌||◌, Option, None, Some, is_some, codes, if◌then◌else◌}
use Rattle.std.proofs.Common.{refl, sym, ap, subst, ◌∙◌, inl, inr}
use Rattle.grammar_model.specs.Agreement.{Agrees, opens_none}
use Rattle.grammar_model.specs.Readings.{next}
use Rattle.grammar_model.specs.Relations.{One, Image, Either, Optional, Many, ◌&◌, ◌&>◌, ◌<&◌}
use Rattle.grammar_model.proofs.Agreeing.{starts_one, starts_image, starts_seq, starts_behind, starts_either, starts_optional}
use Rattle.grammar_model.proofs.Agreeing.{IsRule, weaken_rule, image_agrees, image_rule}
use Rattle.grammar_model.proofs.Agreeing.{then_agrees, then_rule, behind_rule, before_rule, choice_rule, optional_ends, optional_fits, optional_rule}
use Rattle.grammar_model.proofs.Agreeing.{many_rule, optional_all_fit, list_all_fit}
use Rattle.grammar_model.proofs.Fronts.{fit_both}
use Rattle.std.specs.List.{list_all}
use Rattle.grammar_model.proofs.Bounded.{IsQuiet}
use Rattle.grammar_model.proofs.Leaves.{always, all_fit, closed_agrees}
use Rattle.grammar_model.proofs.Repeats.{list_ends, last_ends}
use Rattle.grammar_model.proofs.Separating.{last_ends_all}
use Rattle.idl_model.proofs.Enclosing.{to_behind, from_behind}
use Rattle.idl_model.proofs.Terminals.{Starts, never, starts_keyword_place, starts_mark, starts_mark_place, starts_id, words_pass}
use Rattle.idl_model.proofs.Terminals.{word_in_table, same_mark, token_rule, some_token}
use Rattle.idl_model.proofs.Terminals.{word_of_keyword_place, mark_rule, keyword_place_rule, mark_place_rule, id_rule}
use Rattle.idl_model.specs.Depths.{type_fits}
use Rattle.idl_model.specs.Grammar.{Tokens, Mark, KeywordPlace, MarkPlace, IsId, path_of, IsName, of_table, of_marks, simple_words, placed_simple, simple_at}
use Rattle.idl_model.specs.Grammar.{unsigned_at, IsSimple, IsType}
use Rattle.idl_model.specs.GrammarReading.{is_keyword, is_mark, is_identifier_word, name, simple_of, named_of, sequence_type, simple_type}
use Rattle.idl_model.specs.GrammarReading.{begins_name, type_by, element_at, type}
use Rattle.idl_model.specs.ParseVerdicts.{opens, opening_marks}
use Rattle.idl_model.specs.Places.{Place}
use Rattle.idl_model.specs.PlacedTokens.{PlacedToken, next_word, is_word}
use Rattle.idl_model.specs.Trees.{Id, Path, Simple, void, unsigned_short, WrittenType, simple, named, sequence_of, no_arguments, argument}
use Rattle.idl_text_model.specs.Tokens.{Word}
use Rattle.idl_text_model.specs.Tokens as token

-- ---- names

-- a name goes on where `::` comes
abbrev pub path_ends : Path → Option PlacedToken → Bool
path_ends path o = not (is_mark (codes "::") o)

module _ (d : Option Word → Bool) where
  pub starts_name : d (Some (token.mark (codes "::"))) ≡ true → ((n : List ℕ) → d (Some (token.identifier n)) ≡ true) → Starts d IsName
  starts_name colons all = starts_image (λ o. d (next_word o)) path_of (Optional (MarkPlace (codes "::")) & IsId & Many (Mark (codes "::") &> IsId))
      (starts_optional (λ o. d (next_word o)) (MarkPlace (codes "::")) (IsId & Many (Mark (codes "::") &> IsId)) (starts_mark_place d (codes "::") colons)
      (starts_seq (λ o. d (next_word o)) IsId (Many (Mark (codes "::") &> IsId)) (starts_id d all)))

ids_end : (xs : List Id) (o : Option PlacedToken) → not (is_mark (codes "::") o) ≡ list_ends (is_mark (codes "::")) always xs o
ids_end xs o = let all = last_ends_all {T = PlacedToken} always xs o (λ x. refl) in step (not (is_mark (codes "::") o)) (last_ends always xs o) all
  where
    step : (a b : Bool) → b ≡ true → a ≡ (a && b)
    step true b e = sym e
    step false b e = refl

pub name_rule : IsRule opens path_ends all_fit name IsName
unfolding name
name_rule = image_rule path_of path_ends all_fit
    (then_rule (optional_rule (is_mark (codes "::")) (mark_place_rule (codes "::")) (starts_mark_place (is_word (token.mark (codes "::"))) (codes "::") refl))
    (then_rule id_rule (many_rule (is_mark (codes "::")) (behind_rule (mark_rule (codes "::")) id_rule) refl
    (starts_behind (is_mark (codes "::")) (Mark (codes "::")) IsId (starts_mark (is_word (token.mark (codes "::"))) (codes "::") refl)) (λ x o is. refl))
    (λ x y q rest p over. refl))
    (λ o z q rest p over. link o z q rest p))
    (λ z o. ids_end (z.1).1 o) (λ z. fit z)
  where
    starts_not : Starts (λ o. not (is_word (token.mark (codes "::")) o)) (IsId & Many (Mark (codes "::") &> IsId))
    starts_not = starts_seq (λ o. not (is_mark (codes "::") o)) IsId (Many (Mark (codes "::") &> IsId))
        (starts_id (λ o. not (is_word (token.mark (codes "::")) o)) (λ n. refl))

    link : (o : Option Place) (z : Id × List Id) (q rest : Tokens) → (IsId & Many (Mark (codes "::") &> IsId)) z q
        → optional_ends (is_mark (codes "::")) always o (next (q ++ rest)) ≡ true
    link None z q rest p = starts_not z q rest p
    link (Some place) z q rest p = refl

    fit : (z : Option Place × (Id × List Id)) → true ≡ (optional_fits {X = Place} all_fit z.0 && (true && list_all {X = Id} all_fit (z.1).1))
    fit z = sym (fit_both (optional_fits {X = Place} all_fit z.0) (list_all {X = Id} all_fit (z.1).1) (optional_all_fit z.0) (list_all_fit (z.1).1))

-- ---- types

abbrev pub type_ends : WrittenType → Option PlacedToken → Bool
type_ends (simple p s) o = true
type_ends (named path ts) o = path_ends path o
type_ends (sequence_of p t) o = true

-- a type is over where no `::` comes
pub type_over : (t : WrittenType) (o : Option PlacedToken) → not (is_mark (codes "::") o) ≡ true → type_ends t o ≡ true
type_over (simple p s) o is = refl
type_over (named path ts) o is = is
type_over (sequence_of p t) o is = refl

module _ (d : Option Word → Bool) where
  starts_simple_word : words_pass d simple_words ≡ true → Starts d (One simple_at)
  starts_simple_word others =
      starts_one (λ o. d (next_word o)) simple_at (λ t x e. let w = simple_is t.place
      (of_table simple_words t.word) x e in word_in_table d simple_words t.word w.0 others w.1)
    where
      simple_is : (place : Place) (o : Option Simple) (x : Place × Simple) → placed_simple place o ≡ Some x → (s : Simple) × (o ≡ Some s)
      simple_is place None x e = let bad : ⊥ = cc in absurd bad
      simple_is place (Some s) x e = (s, refl)

  starts_simple : d (Some (token.quoted (codes "unsigned"))) ≡ true → words_pass d simple_words ≡ true → Starts d IsSimple
  starts_simple unsigned others = starts_either (λ o. d (next_word o)) (KeywordPlace (codes "unsigned") & One unsigned_at) (One simple_at)
      (starts_seq (λ o. d (next_word o)) (KeywordPlace (codes "unsigned")) (One unsigned_at) (starts_keyword_place d (codes "unsigned") unsigned))
      (starts_simple_word others)

simple_rule : IsRule opens always all_fit simple_type IsSimple
unfolding simple_type
simple_rule = choice_rule (is_keyword (codes "unsigned"))
    (then_rule (keyword_place_rule (codes "unsigned")) (token_rule unsigned_at (token.quoted (codes "short")) unsigned_short refl)
    (λ x y q rest p over. refl)).agrees
    (token_rule simple_at (token.quoted (codes "void")) (record { file = 0; byte = 0 }, void) refl)
    (starts_seq (is_keyword (codes "unsigned")) (KeywordPlace (codes "unsigned")) (One unsigned_at)
    (starts_keyword_place (is_word (token.quoted (codes "unsigned"))) (codes "unsigned") refl))
    (λ x used rest p over. never (is_word (token.quoted (codes "unsigned"))) (One simple_at) other x used rest p)
  where
    other : Starts (λ o. not (is_word (token.quoted (codes "unsigned")) o)) (One simple_at)
    other = starts_simple_word (λ o. not (is_word (token.quoted (codes "unsigned")) o)) refl

-- `<`, a type and `>`
abbrev IsElement : WrittenType → Tokens → Type 0
IsElement = Mark (codes "<") &> IsType <& Mark (codes ">")

abbrev AsRead : WrittenType → Tokens → Type 0
AsRead = Either (Image sequence_type (KeywordPlace (codes "sequence") & IsElement)) (Either (Image named_of IsName) (Image simple_of IsSimple))

to_type : (t : WrittenType) (used : Tokens) → AsRead t used → IsType t used
unfolding IsType
to_type t used (inl p) =
    let z : Place × WrittenType = p.0 in
    subst (λ k. IsType k used) (sym p.1) (to_behind (Mark (codes "<")) IsType (Mark (codes ">")) (KeywordPlace (codes "sequence")) z.0 z.1 used p.2)
to_type t used (inr (inl p)) = subst (λ k. IsType k used) (sym p.1) p.2
to_type t used (inr (inr p)) = subst (λ k. IsType k used) (sym p.1) p.2

from_type : (t : WrittenType) (used : Tokens) → IsType t used → AsRead t used
unfolding IsType
from_type (simple place s) used p = inr (inr ((place, s), refl, p))
from_type (named path no_arguments) used p = inr (inl (path, refl, p))
from_type (named path (argument t ts)) used p = absurd p
from_type (sequence_of place t) used p =
    inl ((place, t), refl, from_behind (Mark (codes "<")) IsType (Mark (codes ">")) (KeywordPlace (codes "sequence")) place t used p)

module _ (d : Option Word → Bool) where
  pub starts_type : d (Some (token.quoted (codes "sequence"))) ≡ true → d (Some (token.mark (codes "::"))) ≡ true
      → ((n : List ℕ) → d (Some (token.identifier n)) ≡ true)
      → d (Some (token.quoted (codes "unsigned"))) ≡ true → words_pass d simple_words ≡ true → Starts d IsType
  starts_type sequence colons all unsigned others t used rest p = as_read t used rest (from_type t used p)
    where
      as_read : Starts d AsRead
      as_read = starts_either (λ o. d (next_word o)) (Image sequence_type (KeywordPlace (codes "sequence") & IsElement))
          (Either (Image named_of IsName) (Image simple_of IsSimple))
          (starts_image (λ o. d (next_word o)) sequence_type (KeywordPlace (codes "sequence") & IsElement)
          (starts_seq (λ o. d (next_word o)) (KeywordPlace (codes "sequence")) IsElement (starts_keyword_place d (codes "sequence") sequence)))
          (starts_either (λ o. d (next_word o)) (Image named_of IsName) (Image simple_of IsSimple)
          (starts_image (λ o. d (next_word o)) named_of IsName (starts_name d colons all))
          (starts_image (λ o. d (next_word o)) simple_of IsSimple (starts_simple d unsigned others)))

-- how deep what stands in `<` and `>` may be
abbrev element_fits : ℕ → WrittenType → Bool
element_fits zero t = false
element_fits (suc types) t = type_fits types t

quiet_sequence : IsQuiet opens (KeywordPlace (codes "sequence"))
quiet_sequence x used p =
    let w = word_of_keyword_place (codes "sequence") p.0 x p.2 in
    let shut : opens p.0 ≡ false = ap (λ k. is_some (of_marks opening_marks k)) w in
    ap (λ k. opens_none opens k) p.1 ∙ ap (λ b. not b && true) shut

type_step : (types : ℕ) → Agrees opens always (element_fits types) (element_at types) IsElement
    → IsRule opens type_ends (type_fits types) (type_by (element_at types)) IsType
unfolding type_fits
type_step types element = weaken_rule
    (choice_rule (is_keyword (codes "sequence"))
    (image_agrees sequence_type type_ends (type_fits types)
    (then_agrees (keyword_place_rule (codes "sequence")).agrees element (inr quiet_sequence) (λ x y q rest p over. refl))
    (λ z o. refl) (λ z. sequence_fits types z.0 z.1))
    (choice_rule begins_name
    (image_rule named_of type_ends (type_fits types) name_rule (λ path o. refl) (λ path. refl)).agrees
    (image_rule simple_of type_ends (type_fits types) simple_rule (λ z o. refl) (λ z. refl))
    (starts_image begins_name named_of IsName (starts_name names refl (λ n. refl)))
    (λ x used rest p over. never names (Image simple_of IsSimple) no_name x used rest p))
    (starts_image (is_keyword (codes "sequence")) sequence_type (KeywordPlace (codes "sequence") & IsElement)
    (starts_seq (is_keyword (codes "sequence")) (KeywordPlace (codes "sequence")) IsElement
    (starts_keyword_place (is_word (token.quoted (codes "sequence"))) (codes "sequence") refl)))
    (λ x used rest p over. never (is_word (token.quoted (codes "sequence"))) (Either (Image named_of IsName) (Image simple_of IsSimple)) no_sequence x used
    rest p))
    to_type from_type
  where
    names : Option Word → Bool
    names o = is_word (token.mark (codes "::")) o || is_identifier_word o

    sequence_fits : (types : ℕ) (place : Place) (t : WrittenType) → type_fits types (sequence_of place t) ≡ (true && element_fits types t)
    sequence_fits zero place t = refl
    sequence_fits (suc types) place t = refl

    no_name : Starts (λ o. not (names o)) (Image simple_of IsSimple)
    no_name = starts_image (λ o. not (names (next_word o))) simple_of IsSimple (starts_simple (λ o. not (names o)) refl refl)

    no_sequence : Starts (λ o. not (is_word (token.quoted (codes "sequence")) o)) (Either (Image named_of IsName) (Image simple_of IsSimple))
    no_sequence = starts_either (λ o. not (is_keyword (codes "sequence") o)) (Image named_of IsName) (Image simple_of IsSimple)
        (starts_image (λ o. not (is_keyword (codes "sequence") o)) named_of IsName (starts_name
        (λ o. not (is_word (token.quoted (codes "sequence")) o)) refl (λ n. refl)))
        (starts_image (λ o. not (is_keyword (codes "sequence") o)) simple_of IsSimple
        (starts_simple (λ o. not (is_word (token.quoted (codes "sequence")) o)) refl refl))

-- some text with this `<`
some_element : (t : PlacedToken) → is_mark (codes "<") (Some t) ≡ true → (x : WrittenType) × (tail : Tokens) × IsElement x (t ∷ tail)
unfolding IsType
some_element t is = (
  simple nowhere void,
  some_token (token.quoted (codes "void")) ∷ (some_token (token.mark (codes ">")) ∷ []),
  (
    (tt, simple nowhere void),
    refl,
    (
      t ∷ [],
      some_token (token.quoted (codes "void")) ∷ (some_token (token.mark (codes ">")) ∷ []),
      refl,
      (t, refl, ap (λ b. if b then Some tt else None) is),
      (
        (simple nowhere void, tt),
        refl,
        (
          some_token (token.quoted (codes "void")) ∷ [],
          some_token (token.mark (codes ">")) ∷ [],
          refl,
          inr (some_token (token.quoted (codes "void")), refl, refl),
          (some_token (token.mark (codes ">")), refl, refl),
        ),
      ),
    ),
  ),
)
  where
    nowhere : Place
    nowhere = record { file = 0; byte = 0 }

element_agrees : (types : ℕ) → Agrees opens always (element_fits types) (element_at types) IsElement
unfolding element_at
element_agrees zero = closed_agrees opens (is_mark (codes "<")) IsElement refl
    (starts_behind (is_mark (codes "<")) (Mark (codes "<")) (IsType <& Mark (codes ">")) (starts_mark (is_word (token.mark (codes "<"))) (codes "<") refl))
    (λ t is. (ap (λ k. is_some (of_marks opening_marks k)) (same_mark (codes "<") t.word is), some_element t is))
    (let e = some_element (some_token (token.mark (codes "<"))) refl in (e.0, some_token (token.mark (codes "<")) ∷ e.1, e.2))
element_agrees (suc types) = (behind_rule (mark_rule (codes "<")) (before_rule (type_step types (element_agrees types)) (mark_rule (codes ">"))
    (λ t y q rest p. type_over t (next (q ++ rest)) (starts_mark (λ o. not (is_word (token.mark (codes "::")) o)) (codes ">") refl y q rest p)))).agrees

pub type_rule : (types : ℕ) → IsRule opens type_ends (type_fits types) (type types) IsType
unfolding type
type_rule types = type_step types (element_agrees types)
