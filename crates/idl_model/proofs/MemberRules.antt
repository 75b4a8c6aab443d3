-- The members of interfaces and services are read as they are spelled: flags, raises, parameters, accessors.
use Rattle.std.proofs.Common.{◌≡◌, ℕ, Bool, true, false, not, ◌&&◌, List, [], ◌∷◌, ◌++◌, Option, None, Some, codes, if◌then◌else◌}
use Rattle.std.proofs.Common.{refl, sym, ap, subst, ◌∙◌, ◌⊎◌, inl, inr, append_assoc}
use Rattle.std.specs.List.{list_all}
use Rattle.grammar_model.specs.Readings.{next, one, empty}
use Rattle.grammar_model.specs.Readings as read
use Rattle.grammar_model.specs.Relations.{One, Empty, Image, Either, Optional, Many, Separated, ◌&◌, ◌&>◌, ◌<&◌}
use Rattle.grammar_model.proofs.Agreeing.{StartsWith, starts_image, starts_seq, starts_behind, starts_before, starts_either, starts_optional}
use Rattle.grammar_model.proofs.Agreeing.{starts_many, IsRule, weaken_rule, image_rule}
use Rattle.grammar_model.proofs.Agreeing.{then_rule, behind_rule, before_rule, choice_rule, choice_over, choice_by, optional_ends, optional_fits}
use Rattle.grammar_model.proofs.Agreeing.{optional_rule, many_rule, optional_all_fit, list_all_fit}
use Rattle.grammar_model.proofs.Fronts.{fit_both, both_fit}
use Rattle.grammar_model.proofs.Leaves.{always, all_fit, empty_agrees}
use Rattle.grammar_model.proofs.Repeats.{list_ends, last_ends}
use Rattle.grammar_model.proofs.Separating.{last_ends_all, separated_rule}
use Rattle.idl_model.proofs.Terminals.{Starts, never, not_true, word_of_keyword, starts_keyword, starts_mark, starts_id, starts_table, words_pass, token_rule}
use Rattle.idl_model.proofs.Terminals.{keyword_rule, mark_rule, id_rule, same_mark, same_quoted}
use Rattle.idl_model.proofs.TypeRules.{path_ends, name_rule, type_ends, type_over, type_rule, starts_type}
use Rattle.idl_model.specs.Depths.{type_fits, interface_member_fits, service_member_fits}
use Rattle.idl_model.specs.Grammar.{Tokens, Keyword, Mark, IsId, of_table, IsName, IsType, property_flags, IsFlag, IsFlags, property_of, IsPart}
use Rattle.idl_model.specs.Grammar.{IsPropertyTail, IsServiceMember}
use Rattle.idl_model.specs.Grammar.{IsRaises, listed_of, MayRaise, constructor_parameter_of, IsConstructorParameter, Listed, constructor_of, IsConstructor}
use Rattle.idl_model.specs.Grammar.{ways, parameter_of, IsParameter, attribute_flags}
use Rattle.idl_model.specs.Grammar.{IsAccessor, Accessors, get_first, set_first, AreAccessors, IsBase, attribute_of, method_of, IsMethod}
use Rattle.idl_model.specs.Grammar.{IsAttribute, IsFlaggedMember, IsInterfaceMember}
use Rattle.idl_model.specs.GrammarReading.{ReadsTokens, keyword, mark, id, is_keyword, is_mark, is_in_table, is_one_of, name, type, flag, flags, raises}
use Rattle.idl_model.specs.GrammarReading.{may_raise, listed_by, part, constructor_parameter, constructor}
use Rattle.idl_model.specs.GrammarReading.{property_tail, optional_property_of, flagged_service_member, service_member, parameter, accessor, accessors, base}
use Rattle.idl_model.specs.GrammarReading.{method, attribute, flagged_member, interface_member}
use Rattle.idl_model.specs.ParseVerdicts.{opens}
use Rattle.idl_model.specs.PlacedTokens.{PlacedToken, is_terminal, next_word, is_word}
use Rattle.idl_model.specs.Trees.{Id, Path, WrittenType, Flag, bound_flag, optional_flag, Parameter}
use Rattle.idl_model.specs.Trees.{base_member}
use Rattle.idl_model.specs.Trees.{ConstructorParameter, Constructor, ServiceMember, face, subservice}
use Rattle.idl_text_model.specs.Tokens.{Word}
use Rattle.idl_text_model.specs.Tokens as token
use Rattle.uno_model.specs.declared.way.Way.TheVariants.{Into}

-- ---- what comes behind

-- no `::`
abbrev pub no_colons : Option Word → Bool
no_colons o = not (is_word (token.mark (codes "::")) o)

-- behind a type and a name stands what begins with no `::`
pub behind_type : {Y : Type 0} (Q : Y → Tokens → Type 0) → Starts no_colons Q → (t : WrittenType) (y : Y) (q rest : Tokens) → Q y q
    → type_ends t (next (q ++ rest)) ≡ true
behind_type Q starts t y q rest p = type_over t (next (q ++ rest)) (starts y q rest p)

pub behind_name : {Y : Type 0} (Q : Y → Tokens → Type 0) → Starts no_colons Q → (path : Path) (y : Y) (q rest : Tokens) → Q y q
    → path_ends path (next (q ++ rest)) ≡ true
behind_name Q starts path y q rest p = starts y q rest p

-- a test that a mark passes, where that mark comes
pub where_mark : (w : List ℕ) (d : Option Word → Bool) → d (Some (token.mark w)) ≡ true → (o : Option Word) → is_word (token.mark w) o ≡ true → d o ≡ true
where_mark w d pass None is = let bad : ⊥ = cc in absurd bad
where_mark w d pass (Some v) is = ap (λ k. d (Some k)) (same_mark w v is) ∙ pass

-- a list of what is over wherever anything comes is over where no other one begins
pub list_over : {X : Type 0} (c : Option PlacedToken → Bool) (xs : List X) (o : Option PlacedToken) → not (c o) ≡ list_ends c always xs o
list_over c xs o = step (not (c o)) (last_ends {T = PlacedToken} always xs o) (last_ends_all {T = PlacedToken} always xs o (λ x. refl))
  where
    step : (a b : Bool) → b ≡ true → a ≡ (a && b)
    step true b e = sym e
    step false b e = refl

-- a list between separators is over where neither a separator comes nor one of it goes on
pub separated_over : {X : Type 0} (c : Option PlacedToken → Bool) (ends : X → Option PlacedToken → Bool) (xs : List X) (o : Option PlacedToken)
    → not (c o) ≡ true → ((x : X) → ends x o ≡ true)
    → list_ends c ends xs o ≡ true
separated_over c ends xs o off all = fit_both (not (c o)) (last_ends ends xs o) off (last_ends_all ends xs o all)

-- limits of parts without one
pub fits_first : (a b : Bool) → b ≡ true → a ≡ (a && b)
fits_first true b e = sym e
fits_first false b e = refl

pub fits_other : (a b : Bool) → a ≡ true → b ≡ (a && b)
fits_other true b e = refl
fits_other false b e = let bad : ⊥ = cc in absurd bad

-- ---- flags

module _ (table : List (List ℕ × Flag)) (word w : List ℕ) (f : Flag) (row : of_table table (token.quoted w) ≡ Some f)
    (known : words_pass (is_in_table table) table ≡ true)
    (other : not (is_in_table table (Some (token.quoted word))) ≡ true) where
  flag_rule : IsRule opens always all_fit (flag table) (IsFlag table)
  flag_rule = token_rule (λ t. of_table table t.word) (token.quoted w) f row

  pub flags_rule : IsRule opens (λ (fs : List Flag) o. not (is_mark (codes ",") o)) all_fit (flags table word) (IsFlags table word)
  unfolding flags
  flags_rule = image_rule (λ (z : List Flag × List Flag). z.0 ++ z.1) (λ fs o. not (is_mark (codes ",") o)) all_fit
      (then_rule
      (many_rule (is_one_of table) (before_rule flag_rule (mark_rule (codes ",")) (λ x y q rest p. refl)) refl
      (starts_before (is_one_of table) (IsFlag table) (Mark (codes ",")) (starts_table (is_in_table table) table known)) (λ x o is. refl))
      (behind_rule (keyword_rule word)
      (many_rule (is_mark (codes ",")) (behind_rule (mark_rule (codes ",")) flag_rule) refl
      (starts_behind (is_mark (codes ",")) (Mark (codes ",")) (IsFlag table) (starts_mark (is_word (token.mark (codes ","))) (codes ",") refl))
      (λ x o is. refl)))
      (λ fs y q rest p over. sym (list_over (is_one_of table) fs (next (q ++ rest)))
      ∙ starts_behind (λ o. not (is_one_of table o)) (Keyword word) (Many (Mark (codes ",") &> IsFlag table))
      (starts_keyword (λ o. not (is_in_table table o)) word other) y q rest p))
      (λ z o. list_over (is_mark (codes ",")) z.1 o)
      (λ z. sym (fit_both (list_all {X = Flag} all_fit z.0) (list_all {X = Flag} all_fit z.1) (list_all_fit z.0) (list_all_fit z.1)))

  -- what flags begin with
  pub starts_flags : (d : Option Word → Bool) → words_pass d table ≡ true → d (Some (token.quoted word)) ≡ true → Starts d (IsFlags table word)
  starts_flags d pass is = starts_image (λ o. d (next_word o)) (λ (z : List Flag × List Flag). z.0 ++ z.1)
      (Many (IsFlag table <& Mark (codes ",")) & Keyword word &> Many (Mark (codes ",") &> IsFlag table))
      (starts_many (λ o. d (next_word o)) (IsFlag table <& Mark (codes ",")) (Keyword word &> Many (Mark (codes ",") &> IsFlag table))
      (starts_before (λ o. d (next_word o)) (IsFlag table) (Mark (codes ",")) (starts_table d table pass))
      (starts_behind (λ o. d (next_word o)) (Keyword word) (Many (Mark (codes ",") &> IsFlag table)) (starts_keyword d word is)))

property_flags_rule : IsRule opens (λ (fs : List Flag) o. not (is_mark (codes ",") o)) all_fit (flags property_flags (codes "property"))
    (IsFlags property_flags (codes "property"))
property_flags_rule = flags_rule property_flags (codes "property") (codes "bound") bound_flag refl refl refl

attribute_flags_rule : IsRule opens (λ (fs : List Flag) o. not (is_mark (codes ",") o)) all_fit (flags attribute_flags (codes "attribute"))
    (IsFlags attribute_flags (codes "attribute"))
attribute_flags_rule = flags_rule attribute_flags (codes "attribute") (codes "bound") bound_flag refl refl refl

-- ---- raises

comma_goes : (path : Path) (o : Option PlacedToken) → is_mark (codes ",") o ≡ true → path_ends path o ≡ true
comma_goes path o is = where_mark (codes ",") no_colons refl (next_word o) is

pub raises_rule : IsRule opens always (list_all {X = Path} all_fit) raises IsRaises
unfolding raises
raises_rule = behind_rule (keyword_rule (codes "raises")) (behind_rule (mark_rule (codes "("))
    (before_rule (separated_rule (is_mark (codes ",")) name_rule (mark_rule (codes ","))
    refl (starts_mark (is_word (token.mark (codes ","))) (codes ",") refl) comma_goes) (mark_rule (codes ")"))
    (λ xs y q rest p. separated_over (is_mark (codes ",")) path_ends xs (next (q ++ rest))
    (starts_mark (λ o. not (is_word (token.mark (codes ",")) o)) (codes ")") refl y q rest p)
    (λ path. starts_mark no_colons (codes ")") refl y q rest p))))

starts_raises : (d : Option Word → Bool) → d (Some (token.quoted (codes "raises"))) ≡ true → Starts d IsRaises
starts_raises d is = starts_behind (λ o. d (next_word o)) (Keyword (codes "raises"))
    (Mark (codes "(") &> Separated IsName (Mark (codes ",")) <& Mark (codes ")")) (starts_keyword d (codes "raises") is)

pub optional_listed : {X : Type 0} (f : X → Bool) (o : Option (List X)) → list_all f (listed_of o) ≡ optional_fits (list_all f) o
optional_listed f None = refl
optional_listed f (Some xs) = refl

pub may_raise_rule : IsRule opens always all_fit may_raise MayRaise
may_raise_rule = image_rule listed_of always all_fit
    (before_rule (optional_rule (is_keyword (codes "raises")) raises_rule (starts_raises (is_word (token.quoted (codes "raises"))) refl))
    (mark_rule (codes ";")) link)
    (λ o k. refl) (λ o. sym (sym (optional_listed all_fit o) ∙ list_all_fit (listed_of o)))
  where
    link : (o : Option (List Path)) (y : Unit {0}) (q rest : Tokens) → Mark (codes ";") y q
        → optional_ends (is_keyword (codes "raises")) always o (next (q ++ rest)) ≡ true
    link None y q rest p = starts_mark (λ k. not (is_word (token.quoted (codes "raises")) k)) (codes ";") refl y q rest p
    link (Some xs) y q rest p = refl

-- ---- lists in parentheses

module _ {X : Type 0} {fits : X → Bool} {r : ReadsTokens X} {P : X → Tokens → Type 0} where
  -- of what begins with `[`
  pub listed_rule : IsRule opens always fits r P → StartsWith (is_mark (codes "[")) P
      → IsRule opens always (list_all fits) (listed_by (is_mark (codes "[")) r) (Listed P)
  listed_rule h first = image_rule listed_of always (list_all fits)
      (behind_rule (mark_rule (codes "(")) (before_rule
      (optional_rule (is_mark (codes "[")) (separated_rule (is_mark (codes ",")) h (mark_rule (codes ","))
      refl (starts_mark (is_word (token.mark (codes ","))) (codes ",") refl) (λ x o is. refl))
      (starts_image (is_mark (codes "[")) (λ (z : X × List X). z.0 ∷ z.1) (P & Many (Mark (codes ",") &> P))
      (starts_seq (is_mark (codes "[")) P (Many (Mark (codes ",") &> P)) first)))
      (mark_rule (codes ")")) link))
      (λ o k. refl) (λ o. optional_listed fits o)
    where
      link : (o : Option (List X)) (y : Unit {0}) (q rest : Tokens) → Mark (codes ")") y q
          → optional_ends (is_mark (codes "[")) (list_ends (is_mark (codes ",")) always) o (next (q ++ rest)) ≡ true
      link None y q rest p = starts_mark (λ k. not (is_word (token.mark (codes "[")) k)) (codes ")") refl y q rest p
      link (Some xs) y q rest p = sym (list_over (is_mark (codes ",")) xs (next (q ++ rest)))
          ∙ starts_mark (λ k. not (is_word (token.mark (codes ",")) k)) (codes ")") refl y q rest p

-- ---- services

type_then_id : (types : ℕ) → IsRule opens always (λ (z : WrittenType × Id). type_fits types z.0 && all_fit z.1) (read.◌&◌ (type types) id) (IsType & IsId)
type_then_id types = then_rule (type_rule types) id_rule (λ t y q rest p over. behind_type IsId (starts_id no_colons (λ n. refl)) t y q rest p)

pub constructor_parameter_rule : (types : ℕ) → IsRule opens always (λ (p : ConstructorParameter). type_fits types p.type)
    (constructor_parameter types) IsConstructorParameter
unfolding constructor_parameter
constructor_parameter_rule types = image_rule constructor_parameter_of always (λ p. type_fits types p.type)
    (behind_rule (mark_rule (codes "[")) (behind_rule (keyword_rule (codes "in")) (behind_rule (mark_rule (codes "]"))
    (then_rule (type_rule types)
    (then_rule (optional_rule (is_mark (codes "...")) (mark_rule (codes "...")) (starts_mark (is_word (token.mark (codes "..."))) (codes "...") refl)) id_rule
    dots)
    (λ t y q rest p over. behind_type (Optional (Mark (codes "...")) & IsId) tail t y q rest p)))))
    (λ z o. refl) (λ z. fits_first (type_fits types z.0) (optional_fits {X = Unit {0}} all_fit (z.1).0 && true)
    (fit_both (optional_fits {X = Unit {0}} all_fit (z.1).0) true (optional_all_fit (z.1).0) refl))
  where
    dots : (o : Option (Unit {0})) (i : Id) (q rest : Tokens) → IsId i q → always {T = PlacedToken} i (next rest) ≡ true
        → optional_ends (is_mark (codes "...")) always o (next (q ++ rest)) ≡ true
    dots None i q rest p over = starts_id (λ k. not (is_word (token.mark (codes "...")) k)) (λ n. refl) i q rest p
    dots (Some x) i q rest p over = refl

    tail : Starts no_colons (Optional (Mark (codes "...")) & IsId)
    tail = starts_optional (λ o. no_colons (next_word o)) (Mark (codes "...")) IsId (starts_mark no_colons (codes "...") refl)
        (starts_id no_colons (λ n. refl))

pub constructor_rule : (types : ℕ) → IsRule opens always (λ (c : Constructor). list_all (λ p. type_fits types p.type) c.parameters)
    (constructor types) IsConstructor
unfolding constructor
constructor_rule types = image_rule constructor_of always (λ c. list_all (λ p. type_fits types p.type) c.parameters)
    (then_rule id_rule (then_rule (listed_rule (constructor_parameter_rule types) first) may_raise_rule (λ xs y q rest p over. refl))
    (λ i y q rest p over. refl))
    (λ z o. refl) (λ z. fits_first (list_all (λ p. type_fits types p.type) (z.1).0) true refl)
  where
    first : StartsWith (is_mark (codes "[")) IsConstructorParameter
    first = starts_image (is_mark (codes "[")) constructor_parameter_of (Mark (codes "[") &> Keyword (codes "in") &> Mark (codes "]") &> IsType & Optional
        (Mark (codes "...")) & IsId)
        (starts_behind (is_mark (codes "[")) (Mark (codes "[")) (Keyword (codes "in") &> Mark (codes "]") &> IsType & Optional (Mark (codes "...")) & IsId)
        (starts_mark (is_word (token.mark (codes "["))) (codes "[") refl))

-- a name and `;`
pub name_end_rule : IsRule opens always all_fit (read.◌<&◌ name (mark (codes ";"))) (IsName <& Mark (codes ";"))
name_end_rule = before_rule name_rule (mark_rule (codes ";")) (λ path y q rest p. starts_mark no_colons (codes ";") refl y q rest p)

module _ (types : ℕ) where
  pub part_rule : (is_optional : Bool) → IsRule opens always (service_member_fits types) (part is_optional) (IsPart is_optional)
  part_rule is_optional = choice_rule (is_keyword (codes "interface"))
      (image_rule (face is_optional) always (service_member_fits types) (behind_rule (keyword_rule (codes "interface")) name_end_rule) (λ x o. refl)
      (λ x. refl)).agrees
      (image_rule (subservice is_optional) always (service_member_fits types) (behind_rule (keyword_rule (codes "service")) name_end_rule) (λ x o. refl)
      (λ x. refl))
      (starts_image (is_keyword (codes "interface")) (face is_optional) (Keyword (codes "interface") &> IsName <& Mark (codes ";"))
      (starts_behind (is_keyword (codes "interface")) (Keyword (codes "interface")) (IsName <& Mark (codes ";"))
      (starts_keyword (is_word (token.quoted (codes "interface"))) (codes "interface") refl)))
      (λ x used rest p over. never (is_word (token.quoted (codes "interface"))) (Image (subservice is_optional)
      (Keyword (codes "service") &> IsName <& Mark (codes ";")))
      (starts_image (λ o. not (is_keyword (codes "interface") o)) (subservice is_optional) (Keyword (codes "service") &> IsName <& Mark (codes ";"))
      (starts_behind (λ o. not (is_keyword (codes "interface") o)) (Keyword (codes "service")) (IsName <& Mark (codes ";"))
      (starts_keyword (λ o. not (is_word (token.quoted (codes "interface")) o)) (codes "service") refl))) x used rest p)

pub starts_part : (d : Option Word → Bool) → d (Some (token.quoted (codes "interface"))) ≡ true → d (Some (token.quoted (codes "service"))) ≡ true
    → Starts d (IsPart false)
starts_part d e f = starts_either (λ o. d (next_word o)) (Image (face false) (Keyword (codes "interface") &> IsName <& Mark (codes ";")))
    (Image (subservice false) (Keyword (codes "service") &> IsName <& Mark (codes ";")))
    (starts_image (λ o. d (next_word o)) (face false) (Keyword (codes "interface") &> IsName <& Mark (codes ";"))
    (starts_behind (λ o. d (next_word o)) (Keyword (codes "interface")) (IsName <& Mark (codes ";")) (starts_keyword d (codes "interface") e)))
    (starts_image (λ o. d (next_word o)) (subservice false) (Keyword (codes "service") &> IsName <& Mark (codes ";"))
    (starts_behind (λ o. d (next_word o)) (Keyword (codes "service")) (IsName <& Mark (codes ";")) (starts_keyword d (codes "service") f)))

-- ---- members of a service: behind `[` stands `optional` alone, or flags

-- flags, and what stands behind them
abbrev Flagged : List Flag × (WrittenType × Id) → Tokens → Type 0
Flagged = IsFlags property_flags (codes "property") & IsPropertyTail

abbrev Optionally : ServiceMember → Tokens → Type 0
Optionally = Keyword (codes "optional") &> Either (Mark (codes "]") &> IsPart true) (Mark (codes ",") &> Image optional_property_of Flagged)

abbrev FlaggedAsRead : ServiceMember → Tokens → Type 0
FlaggedAsRead = Either Optionally (Image property_of Flagged)

abbrev MemberAsRead : ServiceMember → Tokens → Type 0
MemberAsRead = Either (Mark (codes "[") &> FlaggedAsRead) (IsPart false)

-- how the parts of flags lie, with the first of them by itself and without
more_flags : (u t a b c m k p q : Tokens) → u ≡ t ++ a → a ≡ b ++ c → c ≡ p ++ q → p ≡ m ++ k → u ≡ (((t ++ b) ++ m) ++ k) ++ q
more_flags u t a b c m k p q e f g h = rw (e, f, g, h) (simp append_assoc)

less_flags : (u p q m k a n t b : Tokens) → u ≡ p ++ q → p ≡ m ++ k → m ≡ a ++ n → a ≡ t ++ b → u ≡ t ++ (b ++ ((n ++ k) ++ q))
less_flags u p q m k a n t b e f g h = rw (e, f, g, h) (simp append_assoc)

is_optional : (t : PlacedToken) (f : Flag) → t.word ≡ token.quoted (codes "optional") → of_table property_flags t.word ≡ Some f → f ≡ optional_flag
is_optional t f w row = let known : of_table property_flags t.word ≡ Some optional_flag =
    ap (of_table property_flags) w in let same : Some f ≡ Some optional_flag = sym row ∙ known in cc

-- what is made of a tree may be made behind a mark or before
behind_image : {X Y W : Type 0} (g : X → Y) (M : W → Tokens → Type 0) (P : X → Tokens → Type 0) (y : Y) (u : Tokens) → (M &> Image g P) y u
    → Image g (M &> P) y u
behind_image g M P y u p =
    let w = p.0 in
    let a = p.2 in
    let i = a.4 in
    (i.0, p.1 ∙ i.1, ((w.0, i.0), refl, (a.0, a.1, a.2, a.3, i.2)))

image_behind : {X Y W : Type 0} (g : X → Y) (M : W → Tokens → Type 0) (P : X → Tokens → Type 0) (y : Y) (u : Tokens) → Image g (M &> P) y u
    → (M &> Image g P) y u
image_behind g M P y u p =
    let q = p.2 in
    let w = q.0 in
    let a = q.2 in
    ((w.0, y), refl, (a.0, a.1, a.2, a.3, (p.0, p.1, subst (λ k. P k a.1) (sym q.1) a.4)))

behind_map : {Y W : Type 0} (M : W → Tokens → Type 0) (P Q : Y → Tokens → Type 0) → ((y : Y) (u : Tokens) → P y u → Q y u) → (y : Y) (u : Tokens)
    → (M &> P) y u → (M &> Q) y u
behind_map M P Q to y u p = let w = p.0 in let a = p.2 in (w, p.1, (a.0, a.1, a.2, a.3, to w.1 a.1 a.4))

behind_either : {Y W : Type 0} (M : W → Tokens → Type 0) (P Q : Y → Tokens → Type 0) (y : Y) (u : Tokens) → (M &> Either P Q) y u
    → (M &> P) y u ⊎ (M &> Q) y u
behind_either M P Q y u p =
    let w = p.0 in
    let a = p.2 in
    elim a.4 [
      | inl is ↦ inl (w, p.1, (a.0, a.1, a.2, a.3, is))
      | inr is ↦ inr (w, p.1, (a.0, a.1, a.2, a.3, is))
    ]

-- `optional`, `,` and flags are flags of which `optional` is the first
optional_first : (x : ServiceMember) (u : Tokens) → (Keyword (codes "optional") &> Mark (codes ",") &> Image optional_property_of Flagged) x u
    → Image property_of Flagged x u
unfolding Many
optional_first x u p =
    let a = p.2 in
    let word = a.3 in
    let same_1 : x ≡ (p.0).1 = p.1 in
    let b = a.4 in
    let c = b.2 in
    let same_2 : (p.0).1 ≡ (b.0).1 = b.1 in
    let i = c.4 in
    let z : List Flag × (WrittenType × Id) = i.0 in
    let f = i.2 in
    let fl = f.3 in
    let v : List Flag × List Flag = fl.0 in
    let g = fl.2 in
    let t : PlacedToken = word.0 in
    let row : of_table property_flags t.word ≡ Some optional_flag = ap (of_table property_flags) (word_of_keyword (codes "optional") t (p.0).0 word.2) in (
      (optional_flag ∷ z.0, z.1),
      same_1 ∙ (same_2 ∙ i.1),
      (
        ((a.0 ++ c.0) ++ g.0) ++ g.1,
        f.1,
        more_flags u a.0 a.1 c.0 c.1 g.0 g.1 f.0 f.1 a.2 c.2 f.2 g.2,
        (
          (optional_flag ∷ v.0, v.1),
          ap (λ k. optional_flag ∷ k) fl.1,
          (
            (a.0 ++ c.0) ++ g.0,
            g.1,
            refl,
            (a.0 ++ c.0, g.0, refl, ((optional_flag, (b.0).0), refl, (a.0, c.0, refl, (t, word.1, row), c.3)), g.3),
            g.4,
          ),
        ),
        f.4,
      ),
    )

-- flags that begin so are read as those
first_optional : (x : ServiceMember) (used rest : Tokens) → Image property_of Flagged x used
    → is_word (token.quoted (codes "optional")) (next_word (next (used ++ rest))) ≡ true → Optionally x used
unfolding Many
first_optional x used rest p is =
    let z : List Flag × (WrittenType × Id) = p.0 in
    let f = p.2 in
    let fl = f.3 in
    let v : List Flag × List Flag = fl.0 in
    let g = fl.2 in
    by_first z v.0 v.1 fl.1 f.0 f.1 g.0 g.1 p.1 f.2 g.2 g.3 g.4 f.4
  where
    none_first : (vs : List Flag) (k q : Tokens) → used ≡ k ++ q → (Keyword (codes "property") &> Many (Mark (codes ",") &> IsFlag property_flags)) vs k → ⊥
    none_first vs k q parts p =
        let starts = starts_behind (λ o. not (is_word (token.quoted (codes "optional")) (next_word o))) (Keyword (codes "property"))
        (Many (Mark (codes ",") &> IsFlag property_flags))
        (starts_keyword (λ o. not (is_word (token.quoted (codes "optional")) o)) (codes "property") refl) vs k (q ++ rest) p in
        let same : next (used ++ rest) ≡ next (k ++ (q ++ rest)) = ap next (ap (λ n. n ++ rest) parts ∙ append_assoc k q rest) in
        let here : is_word (token.quoted (codes "optional")) (next_word (next (k ++ (q ++ rest)))) ≡ true =
        subst (λ n. is_word (token.quoted (codes "optional")) (next_word n) ≡ true) same is in
        let bad : not true ≡ true = subst (λ b. not b ≡ true) here starts in
        let worse : ⊥ = cc in
        worse

    by_first : (z : List Flag × (WrittenType × Id)) (fs vs : List Flag) → z.0 ≡ fs ++ vs → (pf q m k : Tokens) → x ≡ property_of z → used ≡ pf ++ q
        → pf ≡ m ++ k
        → Many (IsFlag property_flags <& Mark (codes ",")) fs m → (Keyword (codes "property") &> Many (Mark (codes ",") &> IsFlag property_flags)) vs k
        → IsPropertyTail z.1 q → Optionally x used
    by_first z [] vs all pf q m k same parts inner none key tail =
        absurd (none_first vs k q (parts ∙ ap (λ n. n ++ q) (inner ∙ ap (λ n. n ++ k) none)) key)
    by_first z (f ∷ fs) vs all pf q m k same parts inner some key tail =
        let i = some.3 in
        let w : Flag × Unit {0} = i.0 in
        let c = i.2 in
        let t = c.3 in
        let lies = less_flags used pf q m k some.0 some.1 c.0 c.1 parts inner some.2 c.2 in
        let first : next (used ++ rest) ≡ Some t.0 = ap (λ n. next (n ++ rest)) lies ∙ ap (λ n. next ((n ++ (c.1 ++ ((some.1 ++ k) ++ q))) ++ rest)) t.1 in
        let word : is_terminal (token.quoted (codes "optional")) (t.0).word ≡ true =
        subst (λ n. is_word (token.quoted (codes "optional")) (next_word n) ≡ true) first is in
        let flag_is : w.0 ≡ optional_flag = is_optional t.0 w.0 (same_quoted (codes "optional") (t.0).word word) t.2 in
        let flags_are : z.0 ≡ optional_flag ∷ (fs ++ vs) = all ∙ ap (λ n. n ∷ (fs ++ vs)) (i.1 ∙ flag_is) in
        let tree : x ≡ optional_property_of (fs ++ vs, z.1) = same ∙ ap (λ n. property_of (n, z.1)) flags_are in (
          (tt, x),
          refl,
          (
            c.0,
            c.1 ++ ((some.1 ++ k) ++ q),
            lies,
            (t.0, t.1, ap (λ b. if b then Some tt else None) word),
            inr (
              (w.1, x),
              refl,
              (
                c.1,
                (some.1 ++ k) ++ q,
                refl,
                c.4,
                ((fs ++ vs, z.1), tree, (some.1 ++ k, q, refl, ((fs, vs), refl, (some.1, k, refl, some.4, key)), tail)),
              ),
            ),
          ),
        )

to_service_member : (x : ServiceMember) (u : Tokens) → MemberAsRead x u → IsServiceMember x u
to_service_member x u (inr p) = inr (inr p)
to_service_member x u (inl p) =
    let w = p.0 in
    let a = p.2 in
    let back : FlaggedAsRead x a.1 = subst (λ k. FlaggedAsRead k a.1) (sym p.1) a.4 in
    elim back [
      | inr f ↦ inr (inl (behind_image property_of (Mark (codes "[")) Flagged x u ((w.0, x), refl, (a.0, a.1, a.2, a.3, f))))
      | inl o ↦ elim (behind_either (Keyword (codes "optional")) (Mark (codes "]") &> IsPart true)
          (Mark (codes ",") &> Image optional_property_of Flagged) x a.1 o) [
            | inl q ↦ inl ((w.0, x), refl, (a.0, a.1, a.2, a.3, q))
            | inr q ↦ inr (inl (behind_image property_of (Mark (codes "[")) Flagged x u ((w.0, x), refl, (a.0, a.1, a.2, a.3, optional_first x a.1 q))))
          ]
    ]

from_service_member : (x : ServiceMember) (u : Tokens) → IsServiceMember x u → MemberAsRead x u
from_service_member x u (inl p) =
    let w = p.0 in
    let a = p.2 in
    let k = a.4 in
    let b = k.2 in
    inl (w, p.1, (a.0, a.1, a.2, a.3, inl (k.0, k.1, (b.0, b.1, b.2, b.3, inl b.4))))
from_service_member x u (inr (inl p)) =
    let i = image_behind property_of (Mark (codes "[")) Flagged x u p in
    let a = i.2 in
    inl (i.0, i.1, (a.0, a.1, a.2, a.3, inr a.4))
from_service_member x u (inr (inr p)) = inr p

module _ (types : ℕ) where
  tail_rule : IsRule opens always (λ (z : WrittenType × Id). type_fits types z.0 && all_fit z.1) (property_tail types) IsPropertyTail
  tail_rule = behind_rule (mark_rule (codes "]")) (then_rule (type_rule types) (before_rule id_rule (mark_rule (codes ";")) (λ x y q rest p. refl))
      (λ t y q rest p over. behind_type (IsId <& Mark (codes ";")) (starts_before (λ o. no_colons (next_word o)) IsId (Mark (codes ";"))
      (starts_id no_colons (λ n. refl))) t y q rest p))

  flagged_property_rule : IsRule opens always (λ (z : List Flag × (WrittenType × Id)). all_fit z.0 && (type_fits types (z.1).0 && all_fit (z.1).1))
      (read.◌&◌ (flags property_flags (codes "property")) (property_tail types)) Flagged
  flagged_property_rule = then_rule property_flags_rule tail_rule
      (λ fs y q rest p over. starts_behind (λ o. not (is_mark (codes ",") o)) (Mark (codes "]")) (IsType & IsId <& Mark (codes ";"))
      (starts_mark (λ o. not (is_word (token.mark (codes ",")) o)) (codes "]") refl) y q rest p)

  flagged_service_member_rule : IsRule opens always (service_member_fits types) (flagged_service_member types) FlaggedAsRead
  unfolding flagged_service_member
  flagged_service_member_rule = record {
    agrees = choice_over (is_keyword (codes "optional")) optionally.agrees flagged.agrees
        (starts_behind (is_keyword (codes "optional")) (Keyword (codes "optional")) (Either (Mark (codes "]") &> IsPart true)
        (Mark (codes ",") &> Image optional_property_of Flagged))
        (starts_keyword (is_word (token.quoted (codes "optional"))) (codes "optional") refl))
        (λ x used rest p over. by_test x used rest p (is_word (token.quoted (codes "optional")) (next_word (next (used ++ rest)))) refl);
    room = let a = flagged.room in (a.0, a.1, inr a.2, a.3);
  }
    where
      flagged : IsRule opens always (service_member_fits types) (read.image property_of
          (read.◌&◌ (flags property_flags (codes "property")) (property_tail types))) (Image property_of Flagged)
      flagged = image_rule property_of always (service_member_fits types) flagged_property_rule (λ z o. refl)
          (λ z. fits_first (type_fits types (z.1).0) true refl)

      optionally : IsRule opens always (service_member_fits types)
          (read.◌&>◌ (keyword (codes "optional")) (read.choice (is_mark (codes "]")) (read.◌&>◌ (mark (codes "]")) (part true))
          (read.◌&>◌ (mark (codes ",")) (read.image optional_property_of (read.◌&◌ (flags property_flags (codes "property")) (property_tail types))))))
          Optionally
      optionally = behind_rule (keyword_rule (codes "optional")) (choice_rule (is_mark (codes "]"))
          (behind_rule (mark_rule (codes "]")) (part_rule types true)).agrees
          (behind_rule (mark_rule (codes ",")) (image_rule optional_property_of always (service_member_fits types) flagged_property_rule (λ z o. refl)
          (λ z. fits_first (type_fits types (z.1).0) true refl)))
          (starts_behind (is_mark (codes "]")) (Mark (codes "]")) (IsPart true) (starts_mark (is_word (token.mark (codes "]"))) (codes "]") refl))
          (λ x used rest p over. never (is_word (token.mark (codes "]"))) (Mark (codes ",") &> Image optional_property_of Flagged)
          (starts_behind (λ o. not (is_mark (codes "]") o)) (Mark (codes ",")) (Image optional_property_of Flagged)
          (starts_mark (λ o. not (is_word (token.mark (codes "]")) o)) (codes ",") refl)) x used rest p))

      by_test : (x : ServiceMember) (used rest : Tokens) → Image property_of Flagged x used → (b : Bool)
          → is_word (token.quoted (codes "optional")) (next_word (next (used ++ rest))) ≡ b
          → Optionally x used ⊎ (is_keyword (codes "optional") (next (used ++ rest)) ≡ false)
      by_test x used rest p true is = inl (first_optional x used rest p is)
      by_test x used rest p false is = inr is

  pub service_member_rule : IsRule opens always (service_member_fits types) (service_member types) IsServiceMember
  unfolding service_member
  service_member_rule = weaken_rule (choice_rule (is_mark (codes "[")) (behind_rule (mark_rule (codes "[")) flagged_service_member_rule).agrees
      (part_rule types false)
      (starts_behind (is_mark (codes "[")) (Mark (codes "[")) FlaggedAsRead (starts_mark (is_word (token.mark (codes "["))) (codes "[") refl))
      (λ x used rest p over. never (is_word (token.mark (codes "["))) (IsPart false) part_other x used rest p))
      to_service_member from_service_member
    where
      part_other : Starts (λ o. not (is_word (token.mark (codes "[")) o)) (IsPart false)
      part_other = starts_part (λ o. not (is_word (token.mark (codes "[")) o)) refl refl

-- ---- members of an interface

pub parameter_rule : (types : ℕ) → IsRule opens always (λ (p : Parameter). type_fits types p.type) (parameter types) IsParameter
unfolding parameter
parameter_rule types = image_rule parameter_of always (λ p. type_fits types p.type)
    (behind_rule (mark_rule (codes "[")) (then_rule (token_rule (λ t. of_table ways t.word) (token.quoted (codes "in")) Into refl)
    (behind_rule (mark_rule (codes "]")) (type_then_id types))
    (λ x y q rest p over. refl)))
    (λ z o. refl) (λ z. fits_first (type_fits types (z.1).0) true refl)

module _ (word : List ℕ) where
  accessor_rule : IsRule opens always (list_all {X = Path} all_fit) (accessor word) (IsAccessor word)
  unfolding accessor
  accessor_rule = behind_rule (keyword_rule word) (before_rule raises_rule (mark_rule (codes ";")) (λ x y q rest p. refl))

  starts_accessor : (d : Option Word → Bool) → d (Some (token.quoted word)) ≡ true → Starts d (IsAccessor word)
  starts_accessor d is = starts_behind (λ o. d (next_word o)) (Keyword word) (IsRaises <& Mark (codes ";")) (starts_keyword d word is)

-- what may come behind accessors: a `set` behind a `get`, or the other way round, or either behind none
accessors_end : Accessors → Option PlacedToken → Bool
accessors_end (None, None) o = not (is_keyword (codes "get") o) && not (is_keyword (codes "set") o)
accessors_end (Some g, None) o = not (is_keyword (codes "set") o)
accessors_end (None, Some s) o = not (is_keyword (codes "get") o)
accessors_end (Some g, Some s) o = true

-- the same where no `get` stands there
rest_end : Accessors → Option PlacedToken → Bool
rest_end (None, None) o = not (is_keyword (codes "set") o)
rest_end (Some g, None) o = true
rest_end (None, Some s) o = not (is_keyword (codes "get") o)
rest_end (Some g, Some s) o = true

abbrev GetFirst : Accessors → Tokens → Type 0
GetFirst = Image get_first (IsAccessor (codes "get") & Optional (IsAccessor (codes "set")))

abbrev SetFirst : Accessors → Tokens → Type 0
SetFirst = Image set_first (IsAccessor (codes "set") & Optional (IsAccessor (codes "get")))

abbrev NoAccessor : Accessors → Tokens → Type 0
NoAccessor = Empty (None, None)

starts_set : (d : Option Word → Bool) → d (Some (token.quoted (codes "set"))) ≡ true → Starts d SetFirst
starts_set d is = starts_image (λ o. d (next_word o)) set_first (IsAccessor (codes "set") & Optional (IsAccessor (codes "get")))
    (starts_seq (λ o. d (next_word o)) (IsAccessor (codes "set")) (Optional (IsAccessor (codes "get"))) (starts_accessor (codes "set") d is))

fits_two : (g : List Path) (o : Option (List Path)) → true ≡ (list_all {X = Path} all_fit g && optional_fits (list_all {X = Path} all_fit) o)
fits_two g None = sym (fit_both (list_all {X = Path} all_fit g) true (list_all_fit g) refl)
fits_two g (Some s) = sym (fit_both (list_all {X = Path} all_fit g) (list_all {X = Path} all_fit s) (list_all_fit g) (list_all_fit s))

get_ends : (z : List Path × Option (List Path)) (o : Option PlacedToken) → accessors_end (get_first z) o ≡ optional_ends
    (is_keyword (codes "set")) always z.1 o
unfolding accessors_end
get_ends (g, None) o = refl
get_ends (g, Some s) o = refl

set_ends : (z : List Path × Option (List Path)) (o : Option PlacedToken) → rest_end (set_first z) o ≡ optional_ends (is_keyword (codes "get")) always z.1 o
unfolding rest_end
set_ends (g, None) o = refl
set_ends (g, Some s) o = refl

-- behind `set` both say the same
set_same : (z : List Path × Option (List Path)) (o : Option PlacedToken) → accessors_end (set_first z) o ≡ rest_end (set_first z) o
unfolding accessors_end rest_end
set_same (g, None) o = refl
set_same (g, Some s) o = refl

get_rule : IsRule opens accessors_end all_fit (read.image get_first (read.◌&◌ (accessor (codes "get"))
    (read.optional (is_keyword (codes "set")) (accessor (codes "set"))))) GetFirst
get_rule = image_rule get_first accessors_end all_fit
    (then_rule (accessor_rule (codes "get")) (optional_rule (is_keyword (codes "set")) (accessor_rule (codes "set"))
    (starts_accessor (codes "set") (is_word (token.quoted (codes "set"))) refl))
    (λ x y q rest p over. refl)) get_ends (λ z. fits_two z.0 z.1)

set_rule : IsRule opens rest_end all_fit (read.image set_first (read.◌&◌ (accessor (codes "set"))
    (read.optional (is_keyword (codes "get")) (accessor (codes "get"))))) SetFirst
set_rule = image_rule set_first rest_end all_fit
    (then_rule (accessor_rule (codes "set")) (optional_rule (is_keyword (codes "get")) (accessor_rule (codes "get"))
    (starts_accessor (codes "get") (is_word (token.quoted (codes "get"))) refl))
    (λ x y q rest p over. refl)) set_ends (λ z. fits_two z.0 z.1)

none_over : (z : Accessors) (used rest : Tokens) → NoAccessor z used → rest_end z (next rest) ≡ true
    → (is_keyword (codes "set") (next (used ++ rest)) ≡ false) × (always {T = PlacedToken} z (next rest) ≡ true)
unfolding rest_end
none_over z used rest p over =
    let here : rest_end (None, None) (next rest) ≡ true = subst (λ k. rest_end k (next rest) ≡ true) p.0 over in
    (ap (λ k. is_keyword (codes "set") (next (k ++ rest))) p.1 ∙ not_true (is_keyword (codes "set") (next rest)) here, refl)

over_none : (z : Accessors) (used rest : Tokens) → NoAccessor z used → is_keyword (codes "set") (next (used ++ rest)) ≡ false
    → always {T = PlacedToken} z (next rest) ≡ true
    → rest_end z (next rest) ≡ true
unfolding rest_end
over_none z used rest p off any =
    let here : rest_end (None, None) (next rest) ≡ true = ap not (ap (λ k. is_keyword (codes "set") (next (k ++ rest))) (sym p.1) ∙ off) in
    subst (λ k. rest_end k (next rest) ≡ true) (sym p.0) here

rest_over : (z : Accessors) (used rest : Tokens) → Either SetFirst NoAccessor z used → accessors_end z (next rest) ≡ true
    → (is_keyword (codes "get") (next (used ++ rest)) ≡ false) × (rest_end z (next rest) ≡ true)
unfolding accessors_end rest_end
rest_over z used rest (inl p) over =
    let here : accessors_end (set_first p.0) (next rest) ≡ true = subst (λ k. accessors_end k (next rest) ≡ true) p.1 over in (
      never (is_word (token.quoted (codes "get"))) SetFirst (starts_set (λ o. not (is_word (token.quoted (codes "get")) o)) refl) z used rest (p.0, p.1, p.2),
      subst (λ k. rest_end k (next rest) ≡ true) (sym p.1) (sym (set_same p.0 (next rest)) ∙ here),
    )
rest_over z used rest (inr p) over =
    let here : accessors_end (None, None) (next rest) ≡ true = subst (λ k. accessors_end k (next rest) ≡ true) p.0 over in
    let two = both_fit (not (is_keyword (codes "get") (next rest))) (not (is_keyword (codes "set") (next rest))) here in (
      ap (λ k. is_keyword (codes "get") (next (k ++ rest))) p.1 ∙ not_true (is_keyword (codes "get") (next rest)) two.0,
      subst
          (λ k. rest_end k (next rest) ≡ true) (sym p.0) two.1,
    )

over_rest : (z : Accessors) (used rest : Tokens) → Either SetFirst NoAccessor z used → is_keyword (codes "get") (next (used ++ rest)) ≡ false
    → rest_end z (next rest) ≡ true
    → accessors_end z (next rest) ≡ true
unfolding accessors_end rest_end
over_rest z used rest (inl p) off over =
    let here : rest_end (set_first p.0) (next rest) ≡ true = subst (λ k. rest_end k (next rest) ≡ true) p.1 over in
    subst (λ k. accessors_end k (next rest) ≡ true) (sym p.1) (set_same p.0 (next rest) ∙ here)
over_rest z used rest (inr p) off over =
    let here : rest_end (None, None) (next rest) ≡ true = subst (λ k. rest_end k (next rest) ≡ true) p.0 over in
    let get : is_keyword (codes "get") (next rest) ≡ false = ap (λ k. is_keyword (codes "get") (next (k ++ rest))) (sym p.1) ∙ off in
    let both : accessors_end (None, None) (next rest) ≡ true = fit_both (not (is_keyword (codes "get") (next rest)))
    (not (is_keyword (codes "set") (next rest))) (ap not get) here in
    subst (λ k. accessors_end k (next rest) ≡ true) (sym p.0) both

accessors_rule : IsRule opens accessors_end all_fit accessors AreAccessors
unfolding accessors
accessors_rule = record {
  agrees = choice_by (is_keyword (codes "get")) get_rule.agrees
      (choice_by (is_keyword (codes "set")) set_rule.agrees (empty_agrees opens all_fit (None, None) refl)
      (starts_set (is_word (token.quoted (codes "set"))) refl) none_over over_none)
      (starts_image (is_keyword (codes "get")) get_first (IsAccessor (codes "get") & Optional (IsAccessor (codes "set")))
      (starts_seq (is_keyword (codes "get")) (IsAccessor (codes "get")) (Optional (IsAccessor (codes "set")))
      (starts_accessor (codes "get") (is_word (token.quoted (codes "get"))) refl)))
      rest_over over_rest;
  room = ((None, None), [], inr (inr (refl, refl)), refl);
}

-- `{`, accessors and `}`
braced_accessors_rule : IsRule opens always all_fit (read.◌&>◌ (mark (codes "{")) (read.◌<&◌ accessors (mark (codes "}"))))
    (Mark (codes "{") &> AreAccessors <& Mark (codes "}"))
unfolding accessors_end
braced_accessors_rule = behind_rule (mark_rule (codes "{")) (before_rule accessors_rule (mark_rule (codes "}")) over_there)
  where
    over : (z : Accessors) (o : Option PlacedToken) → not (is_keyword (codes "get") o) ≡ true → not (is_keyword (codes "set") o) ≡ true
        → accessors_end z o ≡ true
    over (None, None) o g s = fit_both (not (is_keyword (codes "get") o)) (not (is_keyword (codes "set") o)) g s
    over (Some x, None) o g s = s
    over (None, Some y) o g s = g
    over (Some x, Some y) o g s = refl

    over_there : (z : Accessors) (y : Unit {0}) (q rest : Tokens) → Mark (codes "}") y q → accessors_end z (next (q ++ rest)) ≡ true
    over_there z y q rest p = over z (next (q ++ rest)) (starts_mark (λ o. not (is_word (token.quoted (codes "get")) o)) (codes "}") refl y q rest p)
        (starts_mark (λ o. not (is_word (token.quoted (codes "set")) o)) (codes "}") refl y q rest p)

pub starts_base : (d : Option Word → Bool) → d (Some (token.quoted (codes "interface"))) ≡ true → Starts d (IsBase false)
starts_base d is = starts_image (λ o. d (next_word o)) (base_member false) (Keyword (codes "interface") &> IsName <& Mark (codes ";"))
    (starts_behind (λ o. d (next_word o)) (Keyword (codes "interface")) (IsName <& Mark (codes ";")) (starts_keyword d (codes "interface") is))

pub starts_method : (d : Option Word → Bool) → Starts d IsType → Starts d (IsMethod false)
starts_method d first = starts_image (λ o. d (next_word o)) (method_of false) (IsType & IsId & Listed IsParameter & MayRaise)
    (starts_seq (λ o. d (next_word o)) IsType (IsId & Listed IsParameter & MayRaise) first)

module _ (types : ℕ) where
  pub base_rule : (optionally : Bool) → IsRule opens always (interface_member_fits types) (base optionally) (IsBase optionally)
  base_rule optionally = image_rule (base_member optionally) always (interface_member_fits types)
      (behind_rule (keyword_rule (codes "interface")) name_end_rule) (λ x o. refl) (λ x. refl)

  pub method_rule : (oneway : Bool) → IsRule opens always (interface_member_fits types) (method types oneway) (IsMethod oneway)
  unfolding method
  method_rule oneway = image_rule (method_of oneway) always (interface_member_fits types)
      (then_rule (type_rule types) (then_rule id_rule (then_rule (listed_rule (parameter_rule types) first) may_raise_rule (λ xs y q rest p over. refl))
      (λ i y q rest p over. refl))
      (λ t y q rest p over. behind_type (IsId & Listed IsParameter & MayRaise) (starts_seq (λ o. no_colons (next_word o)) IsId (Listed IsParameter & MayRaise)
      (starts_id no_colons (λ n. refl))) t y q rest p))
      (λ z o. refl) (λ z. ap (λ b. type_fits types z.0 && b) (fits_first (list_all (λ p. type_fits types p.type) ((z.1).1).0) true refl))
    where
      first : StartsWith (is_mark (codes "[")) IsParameter
      first = starts_image (is_mark (codes "[")) parameter_of (Mark (codes "[") &> One (λ t. of_table ways t.word) & Mark (codes "]") &> IsType & IsId)
          (starts_behind (is_mark (codes "[")) (Mark (codes "[")) (One (λ t. of_table ways t.word) & Mark (codes "]") &> IsType & IsId)
          (starts_mark (is_word (token.mark (codes "["))) (codes "[") refl))

  attribute_rule : IsRule opens always (interface_member_fits types) (attribute types) IsAttribute
  unfolding attribute
  attribute_rule = image_rule attribute_of always (interface_member_fits types)
      (then_rule attribute_flags_rule (behind_rule (mark_rule (codes "]")) (then_rule (type_rule types) (then_rule id_rule
      (before_rule (optional_rule (is_mark (codes "{")) braced_accessors_rule
      (starts_behind (is_mark (codes "{")) (Mark (codes "{")) (AreAccessors <& Mark (codes "}"))
      (starts_mark (is_word (token.mark (codes "{"))) (codes "{") refl)))
      (mark_rule (codes ";")) braces)
      (λ i y q rest p over. refl))
      (λ t y q rest p over. behind_type (IsId & Optional (Mark (codes "{") &> AreAccessors <& Mark (codes "}")) <& Mark (codes ";"))
      (starts_seq (λ o. no_colons (next_word o)) IsId (Optional (Mark (codes "{") &> AreAccessors <& Mark (codes "}")) <& Mark (codes ";"))
      (starts_id no_colons (λ n. refl))) t y q rest p)))
      (λ fs y q rest p over. starts_behind (λ o. not (is_mark (codes ",") o)) (Mark (codes "]"))
      (IsType & IsId & Optional (Mark (codes "{") &> AreAccessors <& Mark (codes "}")) <& Mark (codes ";"))
      (starts_mark (λ o. not (is_word (token.mark (codes ",")) o)) (codes "]") refl) y q rest p))
      (λ z o. refl) (λ z. fits_first (type_fits types (z.1).0) (optional_fits {X = Accessors} all_fit ((z.1).1).1) (optional_all_fit ((z.1).1).1))
    where
      braces : (z : Option Accessors) (y : Unit {0}) (q rest : Tokens) → Mark (codes ";") y q
          → optional_ends (is_mark (codes "{")) always z (next (q ++ rest)) ≡ true
      braces None y q rest p = starts_mark (λ o. not (is_word (token.mark (codes "{")) o)) (codes ";") refl y q rest p
      braces (Some z) y q rest p = refl

  starts_attribute : (d : Option Word → Bool) → words_pass d attribute_flags ≡ true → d (Some (token.quoted (codes "attribute"))) ≡ true
      → Starts d IsAttribute
  starts_attribute d pass is = starts_image (λ o. d (next_word o)) attribute_of (IsFlags attribute_flags (codes "attribute") & Mark
      (codes "]") &> IsType & IsId & Optional (Mark (codes "{") &> AreAccessors <& Mark (codes "}")) <& Mark (codes ";"))
      (starts_seq (λ o. d (next_word o)) (IsFlags attribute_flags (codes "attribute"))
      (Mark (codes "]") &> IsType & IsId & Optional (Mark (codes "{") &> AreAccessors <& Mark (codes "}")) <& Mark (codes ";"))
      (starts_flags attribute_flags (codes "attribute") (codes "bound") bound_flag refl refl refl d pass is))

  starts_oneway : (d : Option Word → Bool) → d (Some (token.quoted (codes "oneway"))) ≡ true
      → Starts d (Keyword (codes "oneway") &> Mark (codes "]") &> IsMethod true)
  starts_oneway d is = starts_behind (λ o. d (next_word o)) (Keyword (codes "oneway")) (Mark (codes "]") &> IsMethod true)
      (starts_keyword d (codes "oneway") is)

  flagged_member_rule : IsRule opens always (interface_member_fits types) (flagged_member types) IsFlaggedMember
  unfolding flagged_member
  flagged_member_rule = choice_rule (is_keyword (codes "optional")) (behind_rule (keyword_rule (codes "optional"))
      (behind_rule (mark_rule (codes "]")) (base_rule true))).agrees
      (choice_rule (is_keyword (codes "oneway")) (behind_rule (keyword_rule (codes "oneway")) (behind_rule (mark_rule (codes "]")) (method_rule true))).agrees
      attribute_rule
      (starts_oneway (is_word (token.quoted (codes "oneway"))) refl)
      (λ x used rest p over. never (is_word (token.quoted (codes "oneway"))) IsAttribute
      (starts_attribute (λ o. not (is_word (token.quoted (codes "oneway")) o)) refl refl) x used rest p))
      (starts_behind (is_keyword (codes "optional")) (Keyword (codes "optional")) (Mark (codes "]") &> IsBase true)
      (starts_keyword (is_word (token.quoted (codes "optional"))) (codes "optional") refl))
      (λ x used rest p over. never (is_word (token.quoted (codes "optional"))) (Either
      (Keyword (codes "oneway") &> Mark (codes "]") &> IsMethod true) IsAttribute)
      (starts_either (λ o. not (is_keyword (codes "optional") o)) (Keyword (codes "oneway") &> Mark (codes "]") &> IsMethod true) IsAttribute
      (starts_oneway (λ o. not (is_word (token.quoted (codes "optional")) o)) refl)
      (starts_attribute (λ o. not (is_word (token.quoted (codes "optional")) o)) refl refl)) x used rest p)

  pub interface_member_rule : IsRule opens always (interface_member_fits types) (interface_member types) IsInterfaceMember
  unfolding interface_member
  interface_member_rule = choice_rule (is_mark (codes "[")) (behind_rule (mark_rule (codes "[")) flagged_member_rule).agrees
      (choice_rule (is_keyword (codes "interface")) (base_rule false).agrees (method_rule false)
      (starts_base (is_word (token.quoted (codes "interface"))) refl)
      (λ x used rest p over. never (is_word (token.quoted (codes "interface"))) (IsMethod false)
      (starts_method (λ o. not (is_word (token.quoted (codes "interface")) o)) (starts_type
      (λ o. not (is_word (token.quoted (codes "interface")) o)) refl refl (λ n. refl) refl refl)) x used rest p))
      (starts_behind (is_mark (codes "[")) (Mark (codes "[")) IsFlaggedMember (starts_mark (is_word (token.mark (codes "["))) (codes "[") refl))
      (λ x used rest p over. never (is_word (token.mark (codes "["))) (Either (IsBase false) (IsMethod false))
      (starts_either (λ o. not (is_mark (codes "[") o)) (IsBase false) (IsMethod false) (starts_base (λ o. not (is_word (token.mark (codes "[")) o)) refl)
      (starts_method (λ o. not (is_word (token.mark (codes "[")) o)) (starts_type
      (λ o. not (is_word (token.mark (codes "[")) o)) refl refl (λ n. refl) refl refl))) x used rest p)
