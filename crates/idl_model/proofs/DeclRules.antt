-- Declarations are read as they are spelled.
use Rattle.std.proofs.Common.{◌≡◌, ℕ, Bool, true, false, not, ◌&&◌, ◌||◌, List, ◌∷◌, ◌++◌, Option, None, Some, codes}
use Rattle.std.proofs.Common.{refl, sym, ◌∙◌}
use Rattle.std.specs.List.{list_all}
use Rattle.grammar_model.specs.Readings.{next}
use Rattle.grammar_model.specs.Readings as read
use Rattle.grammar_model.specs.Relations.{Image, Either, Optional, Many, Separated, ◌&◌, ◌&>◌, ◌<&◌}
use Rattle.grammar_model.proofs.Agreeing.{StartsWith, starts_image, starts_seq, starts_behind, starts_before, starts_either, starts_optional, IsRule}
use Rattle.grammar_model.proofs.Agreeing.{image_rule}
use Rattle.grammar_model.proofs.Agreeing.{then_rule, behind_rule, before_rule, choice_rule, optional_ends, optional_fits, optional_rule, many_rule}
use Rattle.grammar_model.proofs.Agreeing.{optional_all_fit, list_all_fit}
use Rattle.grammar_model.proofs.Leaves.{always, all_fit}
use Rattle.grammar_model.proofs.Separating.{separated_rule, others_ends, separated_and_last_rule}
use Rattle.idl_model.proofs.ExprRules.{expr_ends, expr_over, expr_rule, binds_0}
use Rattle.idl_model.proofs.MemberRules.{no_colons, behind_type, behind_name, where_mark, list_over, separated_over, fits_first, fits_other, optional_listed}
use Rattle.idl_model.proofs.MemberRules.{starts_part, starts_base, starts_method, constructor_rule, name_end_rule, service_member_rule, interface_member_rule}
use Rattle.idl_model.proofs.Terminals.{Starts, never, starts_keyword, starts_mark, starts_id, keyword_rule, mark_rule, id_rule}
use Rattle.idl_model.proofs.TypeRules.{path_ends, name_rule, type_rule, starts_type}
use Rattle.idl_model.specs.Depths.{type_fits, expr_fits, value_fits, interface_member_fits, declaration_fits}
use Rattle.idl_model.specs.Grammar.{Tokens, Keyword, Mark, IsId, IsName, IsType, IsExpr, IsPart, IsFlags, IsPropertyTail, IsProperty, property_of}
use Rattle.idl_model.specs.Grammar.{property_flags, IsServiceMember, listed_of, constructor_of, IsConstructor}
use Rattle.idl_model.specs.Grammar.{Listed, IsConstructorParameter, MayRaise, IsBase, IsMethod, IsFlaggedMember, IsInterfaceMember, item_of, IsItem, Braced}
use Rattle.idl_model.specs.Grammar.{MayHaveBase, decl_of, Named, IsInterface, fields_of, AreFields, IsStruct}
use Rattle.idl_model.specs.Grammar.{IsException, items_of, IsEnum, constant_of, IsConstant, AreConstants, typedef_of, IsTypedef, IsService, IsSingleton}
use Rattle.idl_model.specs.Grammar.{IsDecl}
use Rattle.idl_model.specs.GrammarReading.{ReadsTokens, keyword, mark, id, is_keyword, is_mark, is_identifier_word, is_identifier}
use Rattle.idl_model.specs.GrammarReading.{is_open_word, is_open, braced_list, may_have_base, interface_decl, fields, struct_decl, exception_decl}
use Rattle.idl_model.specs.GrammarReading.{item, enum_decl, const, constants_decl, typedef_decl, service_decl, singleton_decl, decl}
use Rattle.idl_model.specs.ParseVerdicts.{opens}
use Rattle.idl_model.specs.PlacedTokens.{PlacedToken, next_word, is_word}
use Rattle.idl_model.specs.Trees.{Id, Path, Expr, Fields, Item, Constant, Declaration, forward, interface, struct, exception, constants}
use Rattle.idl_model.specs.Trees.{new_service, old_service, new_singleton, old_singleton, Decl}
use Rattle.idl_model.specs.Trees.{InterfaceMember, Constructor}
use Rattle.idl_text_model.specs.Tokens.{Word}
use Rattle.idl_text_model.specs.Tokens as token

-- ---- between braces

module _ {X : Type 0} {fits : X → Bool} {r : ReadsTokens X} {P : X → Tokens → Type 0} where
  pub braced_list_rule : IsRule opens always fits r P → StartsWith (is_open (codes "}")) P
      → IsRule opens always (list_all fits) (braced_list r) (Braced (Many P))
  braced_list_rule h first = behind_rule (mark_rule (codes "{"))
      (before_rule (many_rule (is_open (codes "}")) h refl first (λ x o is. refl)) (mark_rule (codes "}"))
      (λ xs y q rest p. sym (list_over (is_open (codes "}")) xs (next (q ++ rest))) ∙ starts_mark (λ o. not (is_open_word (codes "}") o))
      (codes "}") refl y q rest p))

pub starts_braced : (d : Option Word → Bool) {X : Type 0} (P : X → Tokens → Type 0) → d (Some (token.mark (codes "{"))) ≡ true → Starts d (Braced P)
starts_braced d P is = starts_behind (λ o. d (next_word o)) (Mark (codes "{")) (P <& Mark (codes "}")) (starts_mark d (codes "{") is)

-- ---- what each member begins with, which is no `}`

type_open : Starts (is_open_word (codes "}")) IsType
type_open = starts_type (is_open_word (codes "}")) refl refl (λ n. refl) refl refl

interface_member_open : StartsWith (is_open (codes "}")) IsInterfaceMember
interface_member_open = starts_either (is_open (codes "}")) (Mark (codes "[") &> IsFlaggedMember) (Either (IsBase false) (IsMethod false))
    (starts_behind (is_open (codes "}")) (Mark (codes "[")) IsFlaggedMember (starts_mark (is_open_word (codes "}")) (codes "[") refl))
    (starts_either (is_open (codes "}")) (IsBase false) (IsMethod false) (starts_base (is_open_word (codes "}")) refl)
    (starts_method (is_open_word (codes "}")) type_open))

part_open : StartsWith (is_open (codes "}")) (IsPart false)
part_open = starts_part (is_open_word (codes "}")) refl refl

service_member_open : StartsWith (is_open (codes "}")) IsServiceMember
service_member_open = starts_either (is_open (codes "}")) (Mark (codes "[") &> Keyword (codes "optional") &> Mark (codes "]") &> IsPart true)
    (Either IsProperty (IsPart false))
    (starts_behind (is_open (codes "}")) (Mark (codes "[")) (Keyword (codes "optional") &> Mark (codes "]") &> IsPart true)
    (starts_mark (is_open_word (codes "}")) (codes "[") refl))
    (starts_either (is_open (codes "}")) IsProperty (IsPart false)
    (starts_image (is_open (codes "}")) property_of (Mark (codes "[") &> IsFlags property_flags (codes "property") & IsPropertyTail)
    (starts_behind (is_open (codes "}")) (Mark (codes "[")) (IsFlags property_flags (codes "property") & IsPropertyTail)
    (starts_mark (is_open_word (codes "}")) (codes "[") refl)))
    part_open)

constructor_open : StartsWith (is_open (codes "}")) IsConstructor
constructor_open = starts_image (is_open (codes "}")) constructor_of (IsId & Listed IsConstructorParameter & MayRaise)
    (starts_seq (is_open (codes "}")) IsId (Listed IsConstructorParameter & MayRaise) (starts_id (is_open_word (codes "}")) (λ n. refl)))

fields_open : StartsWith (is_open (codes "}")) AreFields
fields_open = starts_image (is_open (codes "}")) fields_of (IsType & Separated IsId (Mark (codes ",")) <& Mark (codes ";"))
    (starts_seq (is_open (codes "}")) IsType (Separated IsId (Mark (codes ",")) <& Mark (codes ";")) type_open)

constant_open : StartsWith (is_open (codes "}")) IsConstant
constant_open = starts_image (is_open (codes "}")) constant_of (Keyword (codes "const") &> IsType & IsId & Mark (codes "=") &> IsExpr <& Mark (codes ";"))
    (starts_behind (is_open (codes "}")) (Keyword (codes "const")) (IsType & IsId & Mark (codes "=") &> IsExpr <& Mark (codes ";"))
    (starts_keyword (is_open_word (codes "}")) (codes "const") refl))

-- ---- a base, and what stands in braces behind it

base_rule : IsRule opens (optional_ends (is_mark (codes ":")) path_ends) (optional_fits {X = Path} all_fit) may_have_base MayHaveBase
base_rule = optional_rule (is_mark (codes ":")) (behind_rule (mark_rule (codes ":")) name_rule)
    (starts_behind (is_mark (codes ":")) (Mark (codes ":")) IsName (starts_mark (is_word (token.mark (codes ":"))) (codes ":") refl))

base_over : {X : Type 0} (P : X → Tokens → Type 0) (o : Option Path) (y : X) (q rest : Tokens) → (Braced P <& Mark (codes ";")) y q
    → optional_ends (is_mark (codes ":")) path_ends o (next (q ++ rest)) ≡ true
base_over P None y q rest p = starts_before (λ o. not (is_mark (codes ":") o)) (Braced P) (Mark (codes ";"))
    (starts_braced (λ o. not (is_word (token.mark (codes ":")) o)) P refl) y q rest p
base_over P (Some path) y q rest p = starts_before (λ o. no_colons (next_word o)) (Braced P) (Mark (codes ";")) (starts_braced no_colons P refl) y q rest p

module _ {X : Type 0} {fits : X → Bool} {r : ReadsTokens X} {P : X → Tokens → Type 0} where
  with_base_rule : IsRule opens always fits r P → StartsWith (is_open (codes "}")) P
      → IsRule opens always (λ (z : Option Path × List X). optional_fits {X = Path} all_fit z.0 && list_all fits z.1)
      (read.◌&◌ may_have_base (read.◌<&◌ (braced_list r) (mark (codes ";"))))
      (MayHaveBase & Braced (Many P) <& Mark (codes ";"))
  with_base_rule h first = then_rule base_rule (before_rule (braced_list_rule h first) (mark_rule (codes ";")) (λ x y q rest p. refl))
      (λ o y q rest p over. base_over (Many P) o y q rest p)

-- ---- each form

module _ (types brackets : ℕ) where
  abbrev pub decl_fits : Decl → Bool
  decl_fits d = declaration_fits types brackets d.body

  named_rule : (word : List ℕ) {r : ReadsTokens Declaration} {P : Declaration → Tokens → Type 0} → IsRule opens always (declaration_fits types brackets) r P
      → IsRule opens always decl_fits (read.image decl_of (read.◌&>◌ (keyword word) (read.◌&◌ id r))) (Image decl_of (Keyword word &> IsId & P))
  named_rule word h = image_rule decl_of always decl_fits (behind_rule (keyword_rule word) (then_rule id_rule h (λ i y q rest p over. refl))) (λ z o. refl)
      (λ z. refl)

  interface_rule : IsRule opens always (declaration_fits types brackets) (interface_decl types) IsInterface
  unfolding interface_decl
  interface_rule =
      (choice_rule (is_mark (codes ";")) (image_rule (λ (z : Unit {0}). forward) always (declaration_fits types brackets) (mark_rule (codes ";"))
      (λ z o. refl) (λ z. refl)).agrees
      (image_rule (λ (z : Option Path × List InterfaceMember). interface z.0 z.1) always (declaration_fits types brackets)
      (with_base_rule (interface_member_rule types) interface_member_open)
      (λ z o. refl) (λ z. fits_other (optional_fits {X = Path} all_fit z.0) (list_all (interface_member_fits types) z.1) (optional_all_fit z.0)))
      (starts_image (is_mark (codes ";")) (λ (z : Unit {0}). forward) (Mark (codes ";")) (starts_mark (is_word (token.mark (codes ";"))) (codes ";") refl))
      (λ x used rest p over. never (is_word (token.mark (codes ";"))) (Image (λ (z : Option Path × List InterfaceMember). interface z.0 z.1)
      (MayHaveBase & Braced (Many IsInterfaceMember) <& Mark (codes ";")))
      no_end x used rest p))
    where
      no_end : Starts (λ o. not (is_word (token.mark (codes ";")) o)) (Image (λ (z : Option Path × List InterfaceMember). interface z.0 z.1)
          (MayHaveBase & Braced (Many IsInterfaceMember) <& Mark (codes ";")))
      no_end = starts_image (λ o. not (is_mark (codes ";") o)) (λ (z : Option Path × List InterfaceMember). interface z.0 z.1)
          (MayHaveBase & Braced (Many IsInterfaceMember) <& Mark (codes ";"))
          (starts_optional (λ o. not (is_mark (codes ";") o)) (Mark (codes ":") &> IsName) (Braced (Many IsInterfaceMember) <& Mark (codes ";"))
          (starts_behind (λ o. not (is_mark (codes ";") o)) (Mark (codes ":")) IsName
          (starts_mark (λ o. not (is_word (token.mark (codes ";")) o)) (codes ":") refl))
          (starts_before (λ o. not (is_mark (codes ";") o)) (Braced (Many IsInterfaceMember)) (Mark (codes ";"))
          (starts_braced (λ o. not (is_word (token.mark (codes ";")) o)) (Many IsInterfaceMember) refl)))

  fields_rule : IsRule opens always (λ (m : Fields). type_fits types m.type) (fields types) AreFields
  unfolding fields
  fields_rule = image_rule fields_of always (λ m. type_fits types m.type)
      (then_rule (type_rule types) (before_rule (separated_rule (is_mark (codes ",")) id_rule
      (mark_rule (codes ",")) refl (starts_mark (is_word (token.mark (codes ","))) (codes ",") refl) (λ x o is. refl)) (mark_rule (codes ";"))
      (λ xs y q rest p. sym (list_over (is_mark (codes ",")) xs (next (q ++ rest))) ∙ starts_mark (λ o. not (is_word (token.mark (codes ",")) o))
      (codes ";") refl y q rest p))
      (λ t y q rest p over. behind_type (Separated IsId (Mark (codes ",")) <& Mark (codes ";"))
      (starts_before (λ o. no_colons (next_word o)) (Separated IsId (Mark (codes ","))) (Mark (codes ";"))
      (starts_image (λ o. no_colons (next_word o)) (λ (z : Id × List Id). z.0 ∷ z.1) (IsId & Many (Mark (codes ",") &> IsId))
      (starts_seq (λ o. no_colons (next_word o)) IsId (Many (Mark (codes ",") &> IsId)) (starts_id no_colons (λ n. refl))))) t y q rest p))
      (λ z o. refl) (λ z. fits_first (type_fits types z.0) (list_all {X = Id} all_fit z.1) (list_all_fit z.1))

  struct_rule : IsRule opens always (declaration_fits types brackets) (struct_decl types) IsStruct
  unfolding struct_decl
  struct_rule = (image_rule (λ (z : Option Path × List Fields). struct z.0 z.1) always (declaration_fits types brackets)
      (with_base_rule fields_rule fields_open)
      (λ z o. refl) (λ z. fits_other (optional_fits {X = Path} all_fit z.0) (list_all (λ m. type_fits types m.type) z.1) (optional_all_fit z.0)))

  exception_rule : IsRule opens always (declaration_fits types brackets) (exception_decl types) IsException
  unfolding exception_decl
  exception_rule = (image_rule (λ (z : Option Path × List Fields). exception z.0 z.1) always (declaration_fits types brackets)
      (with_base_rule fields_rule fields_open)
      (λ z o. refl) (λ z. fits_other (optional_fits {X = Path} all_fit z.0) (list_all (λ m. type_fits types m.type) z.1) (optional_all_fit z.0)))

  -- an item goes on where `=` comes, and its value as an expression does
  item_end : Item → Option PlacedToken → Bool
  item_end i o = optional_ends (is_mark (codes "=")) expr_ends i.value o

  item_over : (i : Item) (o : Option PlacedToken) → not (is_mark (codes "=") o) ≡ true
      → not (is_word (token.mark (codes "::")) (next_word o) || binds_0 (next_word o)) ≡ true → item_end i o ≡ true
  unfolding item_end
  item_over i o equals rest = of_value i.value
    where
      of_value : (v : Option Expr) → optional_ends (is_mark (codes "=")) expr_ends v o ≡ true
      of_value None = equals
      of_value (Some e) = expr_over e o rest

  item_rule : IsRule opens item_end (λ (i : Item). value_fits brackets i.value) (item brackets) IsItem
  unfolding item item_end
  item_rule = image_rule item_of (λ i o. optional_ends (is_mark (codes "=")) expr_ends i.value o) (λ i. value_fits brackets i.value)
      (then_rule id_rule (optional_rule (is_mark (codes "=")) (behind_rule (mark_rule (codes "=")) (expr_rule brackets))
      (starts_behind (is_mark (codes "=")) (Mark (codes "=")) IsExpr (starts_mark (is_word (token.mark (codes "="))) (codes "=") refl)))
      (λ i y q rest p over. refl))
      (λ z o. refl) (λ z. value_is z.1)
    where
      value_is : (v : Option Expr) → value_fits brackets v ≡ optional_fits (expr_fits brackets) v
      value_is None = refl
      value_is (Some e) = refl

  enum_rule : IsRule opens always (declaration_fits types brackets) (enum_decl brackets) IsEnum
  unfolding enum_decl
  enum_rule = (image_rule items_of always (declaration_fits types brackets)
      (before_rule (behind_rule (mark_rule (codes "{"))
      (before_rule (separated_and_last_rule (is_mark (codes ",")) is_identifier item_rule
      (mark_rule (codes ",")) refl (starts_mark (is_word (token.mark (codes ","))) (codes ",") refl)
      (starts_image is_identifier item_of (IsId & Optional (Mark (codes "=") &> IsExpr))
      (starts_seq is_identifier IsId (Optional (Mark (codes "=") &> IsExpr)) (starts_id is_identifier_word (λ n. refl))))
      (λ i o is. item_over i o (where_mark (codes ",") (λ k. not (is_word (token.mark (codes "=")) k)) refl (next_word o) is)
      (where_mark (codes ",") (λ k. not (is_word (token.mark (codes "::")) k || binds_0 k)) refl (next_word o) is)))
      (mark_rule (codes "}")) brace)) (mark_rule (codes ";")) (λ x y q rest p. refl))
      (λ z o. refl) (λ z. refl))
    where
      brace : (z : List Item × Option (Unit {0})) (y : Unit {0}) (q rest : Tokens) → Mark (codes "}") y q
          → others_ends (is_mark (codes ",")) is_identifier item_end z (next (q ++ rest)) ≡ true
      brace (xs, None) y q rest p = separated_over (is_mark (codes ",")) item_end xs (next (q ++ rest))
          (starts_mark (λ o. not (is_word (token.mark (codes ",")) o)) (codes "}") refl y q rest p)
          (λ i. item_over i (next (q ++ rest)) (starts_mark (λ o. not (is_word (token.mark (codes "=")) o)) (codes "}") refl y q rest p)
          (starts_mark (λ o. not (is_word (token.mark (codes "::")) o || binds_0 o)) (codes "}") refl y q rest p))
      brace (xs, Some x) y q rest p = starts_mark (λ o. not (is_identifier_word o)) (codes "}") refl y q rest p

  const_rule : IsRule opens always (λ (c : Constant). type_fits types c.type && expr_fits brackets c.value) (const types brackets) IsConstant
  unfolding const
  const_rule = image_rule constant_of always (λ c. type_fits types c.type && expr_fits brackets c.value)
      (behind_rule (keyword_rule (codes "const")) (then_rule (type_rule types) (then_rule id_rule (behind_rule (mark_rule (codes "="))
      (before_rule (expr_rule brackets) (mark_rule (codes ";"))
      (λ e y q rest p. expr_over e (next (q ++ rest)) (starts_mark (λ o. not (is_word (token.mark (codes "::")) o || binds_0 o))
      (codes ";") refl y q rest p))))
      (λ i y q rest p over. refl))
      (λ t y q rest p over. behind_type (IsId & Mark (codes "=") &> IsExpr <& Mark (codes ";"))
      (starts_seq (λ o. no_colons (next_word o)) IsId (Mark (codes "=") &> IsExpr <& Mark (codes ";")) (starts_id no_colons (λ n. refl))) t y q rest p)))
      (λ z o. refl) (λ z. refl)

  constants_rule : IsRule opens always (declaration_fits types brackets) (constants_decl types brackets) AreConstants
  unfolding constants_decl
  constants_rule = (image_rule constants always (declaration_fits types brackets)
      (before_rule (braced_list_rule const_rule constant_open) (mark_rule (codes ";")) (λ x y q rest p. refl)) (λ z o. refl) (λ z. refl))

  typedef_rule : IsRule opens always decl_fits (typedef_decl types) IsTypedef
  unfolding typedef_decl
  typedef_rule = image_rule typedef_of always decl_fits
      (behind_rule (keyword_rule (codes "typedef")) (then_rule (type_rule types) (before_rule id_rule (mark_rule (codes ";")) (λ x y q rest p. refl))
      (λ t y q rest p over. behind_type (IsId <& Mark (codes ";")) (starts_before (λ o. no_colons (next_word o)) IsId (Mark (codes ";"))
      (starts_id no_colons (λ n. refl))) t y q rest p)))
      (λ z o. refl) (λ z. fits_first (type_fits types z.0) true refl)

  service_rule : IsRule opens always (declaration_fits types brackets) (service_decl types) IsService
  unfolding service_decl
  service_rule =
      (choice_rule (is_mark (codes ":"))
      (image_rule (λ (z : Path × List Constructor). new_service z.0 z.1) always (declaration_fits types brackets)
      (behind_rule (mark_rule (codes ":")) (then_rule name_rule
      (image_rule listed_of always (list_all (λ (c : Constructor). list_all (λ p. type_fits types p.type) c.parameters))
      (before_rule (optional_rule (is_mark (codes "{")) (braced_list_rule (constructor_rule types) constructor_open)
      (starts_braced (is_word (token.mark (codes "{"))) (Many IsConstructor) refl)) (mark_rule (codes ";")) braces)
      (λ o k. refl) (λ o. optional_listed (λ (c : Constructor). list_all (λ p. type_fits types p.type) c.parameters) o))
      (λ path y q rest p over. behind_name (Image listed_of (Optional (Braced (Many IsConstructor)) <& Mark (codes ";"))) tail path y q rest p)))
      (λ z o. refl) (λ z. refl)).agrees
      (image_rule old_service always (declaration_fits types brackets)
      (before_rule (braced_list_rule (service_member_rule types) service_member_open) (mark_rule (codes ";")) (λ x y q rest p. refl)) (λ z o. refl)
      (λ z. refl))
      (starts_image (is_mark (codes ":")) (λ (z : Path × List Constructor). new_service z.0 z.1)
      (Mark (codes ":") &> IsName & Image listed_of (Optional (Braced (Many IsConstructor)) <& Mark (codes ";")))
      (starts_behind (is_mark (codes ":")) (Mark (codes ":")) (IsName & Image listed_of (Optional (Braced (Many IsConstructor)) <& Mark (codes ";")))
      (starts_mark (is_word (token.mark (codes ":"))) (codes ":") refl)))
      (λ x used rest p over. never (is_word (token.mark (codes ":"))) (Image old_service (Braced (Many IsServiceMember) <& Mark (codes ";")))
      (starts_image (λ o. not (is_mark (codes ":") o)) old_service (Braced (Many IsServiceMember) <& Mark (codes ";"))
      (starts_before (λ o. not (is_mark (codes ":") o)) (Braced (Many IsServiceMember)) (Mark (codes ";"))
      (starts_braced (λ o. not (is_word (token.mark (codes ":")) o)) (Many IsServiceMember) refl))) x used rest p))
    where
      braces : (z : Option (List Constructor)) (y : Unit {0}) (q rest : Tokens) → Mark (codes ";") y q
          → optional_ends (is_mark (codes "{")) always z (next (q ++ rest)) ≡ true
      braces None y q rest p = starts_mark (λ o. not (is_word (token.mark (codes "{")) o)) (codes ";") refl y q rest p
      braces (Some z) y q rest p = refl

      tail : Starts no_colons (Image listed_of (Optional (Braced (Many IsConstructor)) <& Mark (codes ";")))
      tail = starts_image (λ o. no_colons (next_word o)) listed_of (Optional (Braced (Many IsConstructor)) <& Mark (codes ";"))
          (starts_image (λ o. no_colons (next_word o)) (λ (z : Option (List Constructor) × Unit {0}). z.0)
          (Optional (Braced (Many IsConstructor)) & Mark (codes ";"))
          (starts_optional (λ o. no_colons (next_word o)) (Braced (Many IsConstructor)) (Mark (codes ";")) (starts_braced no_colons (Many IsConstructor) refl)
          (starts_mark no_colons (codes ";") refl)))

  singleton_rule : IsRule opens always (declaration_fits types brackets) singleton_decl IsSingleton
  unfolding singleton_decl
  singleton_rule =
      (choice_rule (is_mark (codes ":"))
      (image_rule new_singleton always (declaration_fits types brackets) (behind_rule (mark_rule (codes ":")) name_end_rule) (λ z o. refl) (λ z. refl)).agrees
      (image_rule old_singleton always (declaration_fits types brackets)
      (before_rule (behind_rule (mark_rule (codes "{")) (before_rule (behind_rule (keyword_rule (codes "service")) name_end_rule) (mark_rule (codes "}"))
      (λ x y q rest p. refl))) (mark_rule (codes ";")) (λ x y q rest p. refl))
      (λ z o. refl) (λ z. refl))
      (starts_image (is_mark (codes ":")) new_singleton (Mark (codes ":") &> IsName <& Mark (codes ";"))
      (starts_behind (is_mark (codes ":")) (Mark (codes ":")) (IsName <& Mark (codes ";")) (starts_mark (is_word (token.mark (codes ":"))) (codes ":") refl)))
      (λ x used rest p over. never (is_word (token.mark (codes ":"))) (Image old_singleton
      (Braced (Keyword (codes "service") &> IsName <& Mark (codes ";")) <& Mark (codes ";")))
      (starts_image (λ o. not (is_mark (codes ":") o)) old_singleton (Braced (Keyword (codes "service") &> IsName <& Mark (codes ";")) <& Mark
      (codes ";"))
      (starts_before (λ o. not (is_mark (codes ":") o)) (Braced (Keyword (codes "service") &> IsName <& Mark (codes ";"))) (Mark (codes ";"))
      (starts_braced (λ o. not (is_word (token.mark (codes ":")) o)) (Keyword (codes "service") &> IsName <& Mark (codes ";")) refl))) x used rest p))

-- ---- a declaration by its first word

module _ (d : Option Word → Bool) where
  starts_form : (word : List ℕ) (P : Declaration → Tokens → Type 0) → d (Some (token.quoted word)) ≡ true → Starts d (Named word P)
  starts_form word P is = starts_image (λ o. d (next_word o)) decl_of (Keyword word &> IsId & P)
      (starts_behind (λ o. d (next_word o)) (Keyword word) (IsId & P) (starts_keyword d word is))

  starts_typedef : d (Some (token.quoted (codes "typedef"))) ≡ true → Starts d IsTypedef
  starts_typedef is = starts_image (λ o. d (next_word o)) typedef_of (Keyword (codes "typedef") &> IsType & IsId <& Mark (codes ";"))
      (starts_behind (λ o. d (next_word o)) (Keyword (codes "typedef")) (IsType & IsId <& Mark (codes ";")) (starts_keyword d (codes "typedef") is))

abbrev FromService : Decl → Tokens → Type 0
FromService = Either (Named (codes "service") IsService) (Named (codes "singleton") IsSingleton)

abbrev FromTypedef : Decl → Tokens → Type 0
FromTypedef = Either IsTypedef FromService

abbrev FromConstants : Decl → Tokens → Type 0
FromConstants = Either (Named (codes "constants") AreConstants) FromTypedef

abbrev FromEnum : Decl → Tokens → Type 0
FromEnum = Either (Named (codes "enum") IsEnum) FromConstants

abbrev FromException : Decl → Tokens → Type 0
FromException = Either (Named (codes "exception") IsException) FromEnum

abbrev FromStruct : Decl → Tokens → Type 0
FromStruct = Either (Named (codes "struct") IsStruct) FromException

abbrev passes : (Option Word → Bool) → List ℕ → Type 0
passes d word = d (Some (token.quoted word)) ≡ true

module _ (d : Option Word → Bool) where
  from_service : passes d (codes "service") → passes d (codes "singleton") → Starts d FromService
  from_service e f = starts_either (λ o. d (next_word o)) (Named (codes "service") IsService) (Named (codes "singleton") IsSingleton)
      (starts_form d (codes "service") IsService e) (starts_form d (codes "singleton") IsSingleton f)

  from_typedef : passes d (codes "typedef") → Starts d FromService → Starts d FromTypedef
  from_typedef e rest = starts_either (λ o. d (next_word o)) IsTypedef FromService (starts_typedef d e) rest

  from_constants : passes d (codes "constants") → Starts d FromTypedef → Starts d FromConstants
  from_constants e rest = starts_either (λ o. d (next_word o)) (Named (codes "constants") AreConstants) FromTypedef
      (starts_form d (codes "constants") AreConstants e) rest

  from_enum : passes d (codes "enum") → Starts d FromConstants → Starts d FromEnum
  from_enum e rest = starts_either (λ o. d (next_word o)) (Named (codes "enum") IsEnum) FromConstants (starts_form d (codes "enum") IsEnum e) rest

  from_exception : passes d (codes "exception") → Starts d FromEnum → Starts d FromException
  from_exception e rest = starts_either (λ o. d (next_word o)) (Named (codes "exception") IsException) FromEnum
      (starts_form d (codes "exception") IsException e) rest

  from_struct : passes d (codes "struct") → Starts d FromException → Starts d FromStruct
  from_struct e rest = starts_either (λ o. d (next_word o)) (Named (codes "struct") IsStruct) FromException (starts_form d (codes "struct") IsStruct e) rest

  pub starts_decl : passes d (codes "interface") → passes d (codes "struct") → passes d (codes "exception") → passes d (codes "enum")
      → passes d (codes "constants") → passes d (codes "typedef")
      → passes d (codes "service") → passes d (codes "singleton") → Starts d IsDecl
  starts_decl i st ex en co ty se si = starts_either (λ o. d (next_word o)) (Named (codes "interface") IsInterface) FromStruct
      (starts_form d (codes "interface") IsInterface i)
      (from_struct st (from_exception ex (from_enum en (from_constants co (from_typedef ty (from_service se si))))))

abbrev off : List ℕ → Option Word → Bool
off word o = not (is_word (token.quoted word) o)

module _ (types brackets : ℕ) where
  pub decl_rule : IsRule opens always (decl_fits types brackets) (decl types brackets) IsDecl
  unfolding decl
  decl_rule =
      choice_rule (is_keyword (codes "interface")) (named_rule types brackets (codes "interface") (interface_rule types brackets)).agrees
      (choice_rule (is_keyword (codes "struct")) (named_rule types brackets (codes "struct") (struct_rule types brackets)).agrees
      (choice_rule (is_keyword (codes "exception")) (named_rule types brackets (codes "exception") (exception_rule types brackets)).agrees
      (choice_rule (is_keyword (codes "enum")) (named_rule types brackets (codes "enum") (enum_rule types brackets)).agrees
      (choice_rule (is_keyword (codes "constants")) (named_rule types brackets (codes "constants") (constants_rule types brackets)).agrees
      (choice_rule (is_keyword (codes "typedef")) (typedef_rule types brackets).agrees
      (choice_rule (is_keyword (codes "service")) (named_rule types brackets (codes "service") (service_rule types brackets)).agrees
      (named_rule types brackets (codes "singleton") (singleton_rule types brackets))
      (starts_form (is_word (token.quoted (codes "service"))) (codes "service") IsService refl)
      (λ x used rest p over. never (is_word (token.quoted (codes "service"))) (Named (codes "singleton") IsSingleton)
      (starts_form (off (codes "service")) (codes "singleton") IsSingleton refl) x used rest p))
      (starts_typedef (is_word (token.quoted (codes "typedef"))) refl)
      (λ x used rest p over. never (is_word (token.quoted (codes "typedef"))) FromService (from_service (off (codes "typedef")) refl refl) x used rest p))
      (starts_form (is_word (token.quoted (codes "constants"))) (codes "constants") AreConstants refl)
      (λ x used rest p over. never (is_word (token.quoted (codes "constants"))) FromTypedef
      (from_typedef (off (codes "constants")) refl (from_service (off (codes "constants")) refl refl)) x used rest p))
      (starts_form (is_word (token.quoted (codes "enum"))) (codes "enum") IsEnum refl)
      (λ x used rest p over. never (is_word (token.quoted (codes "enum"))) FromConstants
      (from_constants (off (codes "enum")) refl (from_typedef (off (codes "enum")) refl (from_service (off (codes "enum")) refl refl))) x used rest p))
      (starts_form (is_word (token.quoted (codes "exception"))) (codes "exception") IsException refl)
      (λ x used rest p over. never (is_word (token.quoted (codes "exception"))) FromEnum
      (from_enum (off (codes "exception")) refl (from_constants (off (codes "exception"))
      refl (from_typedef (off (codes "exception")) refl (from_service (off (codes "exception")) refl refl)))) x used rest p))
      (starts_form (is_word (token.quoted (codes "struct"))) (codes "struct") IsStruct refl)
      (λ x used rest p over. never (is_word (token.quoted (codes "struct"))) FromException
      (from_exception (off (codes "struct")) refl (from_enum (off (codes "struct")) refl (from_constants (off (codes "struct")) refl
      (from_typedef (off (codes "struct")) refl (from_service (off (codes "struct")) refl refl))))) x used rest p))
      (starts_form (is_word (token.quoted (codes "interface"))) (codes "interface") IsInterface refl)
      (λ x used rest p over. never (is_word (token.quoted (codes "interface"))) FromStruct
      (from_struct (off (codes "interface")) refl (from_exception (off (codes "interface"))
      refl (from_enum (off (codes "interface")) refl (from_constants (off (codes "interface")) refl
      (from_typedef (off (codes "interface")) refl (from_service (off (codes "interface")) refl refl)))))) x used rest p)
