-- What a part of a line says is changed as it is read.
use Rattle.std.proofs.Common.{◌≡◌, ℕ, not, List, map, Option, None, Some, option_map, refl, codes}
use Rattle.uno_model.specs.Entities.{Member, attribute, method, Constructor}
use Rattle.uno_model.specs.Kinds.{Kind}
use Rattle.uno_model.specs.Sound.{is_some_list}
use Rattle.registry_reading_model.proofs.OptionMaps.{on_some_changed, on_changed, where_changed, pushed_changed}
use Rattle.registry_reading_model.specs.Bodies.{changed_kind, field_of, attribute_of, method_of, oneway_of, param_of, get_raises_added}
use Rattle.registry_reading_model.specs.Bodies.{set_raises_added, param_added, raises_added}
use Rattle.registry_reading_model.specs.Bodies.{item_of, constant_of, constructor_of, is_open, given_added, rest_added, raised_added}
use Rattle.registry_reading_model.specs.Bodies.{property_of, pushed}
use Rattle.registry_reading_model.specs.Changes.{Change, same, field_changed, param_changed, attribute_changed, method_changed, member_changed}
use Rattle.registry_reading_model.specs.Changes.{item_changed, constant_changed}
use Rattle.registry_reading_model.specs.Changes.{constructor_changed, part_changed}
use Rattle.registry_reading_model.specs.Kinds.{kind_of_text}
use Rattle.registry_reading_model.specs.Numbers.{number_of}
use Rattle.registry_reading_model.specs.Words.{on_some, word_of, identifier_of, behind, entity_name_of, identifier_alone, way_of, access_of, flags_of}

pub kind_changed : {Y Z : Type 0} (c : Change) (h : Y → Z) (text : List ℕ) (f : Kind → Option Y) (g : Kind → Option Z)
    → ((k : Kind) → g (c.kind k) ≡ option_map h (f k))
    → on_some (changed_kind c text) g ≡ option_map h (on_some (changed_kind same text) f)
kind_changed c h text f g each = by_kind (kind_of_text text)
  where
    by_kind : (o : Option Kind) → on_some (on_some o (λ k. Some (c.kind k))) g ≡ option_map h (on_some (on_some o (λ k. Some k)) f)
    by_kind None = refl
    by_kind (Some k) = each k

pub field_by : (c : Change) (text : List ℕ) → field_of c text ≡ option_map (field_changed c) (field_of same text)
unfolding field_of
field_by c text = on_some_changed (field_changed c) (identifier_of text) _ _ (λ x. kind_changed c (field_changed c) x.1 _ _ (λ k. refl))

pub attribute_by : (c : Change) (text : List ℕ) → attribute_of c text ≡ option_map (attribute_changed c) (attribute_of same text)
unfolding attribute_of
attribute_by c text =
    on_some_changed (attribute_changed c) (identifier_of text) _ _ (λ x. on_some_changed (attribute_changed c) (word_of x.1) _ _ (λ y.
    on_some_changed (attribute_changed c) (access_of y.0) _ _ (λ read_only. kind_changed c (attribute_changed c) y.1 _ _ (λ k. refl))))

pub method_by : (c : Change) (text : List ℕ) → method_of c text ≡ option_map (method_changed c) (method_of same text)
unfolding method_of
method_by c text = on_some_changed (method_changed c) (identifier_of text) _ _ (λ x. kind_changed c (method_changed c) x.1 _ _ (λ k. refl))

pub oneway_by : (c : Change) (text : List ℕ) → oneway_of c text ≡ option_map (method_changed c) (oneway_of same text)
unfolding oneway_of
oneway_by c text = on_some_changed (method_changed c) (identifier_alone text) _ _ (λ name. refl)

pub param_by : (c : Change) (text : List ℕ) → param_of c text ≡ option_map (param_changed c) (param_of same text)
unfolding param_of
param_by c text =
    on_some_changed (param_changed c) (word_of text) _ _ (λ x. on_some_changed (param_changed c) (way_of x.0) _ _ (λ way.
    on_some_changed (param_changed c) (identifier_of x.1) _ _ (λ y. kind_changed c (param_changed c) y.1 _ _ (λ k. refl))))

pub get_raises_by : (c : Change) (text : List ℕ) (m : Member)
    → get_raises_added text (member_changed c m) ≡ option_map (member_changed c) (get_raises_added text m)
unfolding get_raises_added
get_raises_by c text (method m) = refl
get_raises_by c text (attribute a) =
    where_changed (member_changed c) (not (is_some_list a.set_raises)) _ _ (on_some_changed (member_changed c) (pushed a.get_raises (entity_name_of text)) _ _ (λ names. refl))

pub set_raises_by : (c : Change) (text : List ℕ) (m : Member)
    → set_raises_added text (member_changed c m) ≡ option_map (member_changed c) (set_raises_added text m)
unfolding set_raises_added
set_raises_by c text (method m) = refl
set_raises_by c text (attribute a) = on_some_changed (member_changed c) (pushed a.set_raises (entity_name_of text)) _ _ (λ names. refl)

pub param_added_by : (c : Change) (text : List ℕ) (m : Member)
    → param_added c text (member_changed c m) ≡ option_map (member_changed c) (param_added same text m)
unfolding param_added
param_added_by c text (attribute a) = refl
param_added_by c text (method m) =
    where_changed (member_changed c) (not (is_some_list m.raises)) _ _
    (on_changed (member_changed c) (map (param_changed c)) (pushed m.params (param_of same text)) _ _ _
    (pushed_changed (param_changed c) m.params (param_of same text) (param_of c text) (param_by c text)) (λ params. refl))

pub raises_by : (c : Change) (text : List ℕ) (m : Member)
    → raises_added text (member_changed c m) ≡ option_map (member_changed c) (raises_added text m)
unfolding raises_added
raises_by c text (attribute a) = refl
raises_by c text (method m) = on_some_changed (member_changed c) (pushed m.raises (entity_name_of text)) _ _ (λ names. refl)

pub item_by : (c : Change) (text : List ℕ) → item_of c text ≡ option_map (item_changed c) (item_of same text)
unfolding item_of
item_by c text = on_some_changed (item_changed c) (identifier_of text) _ _ (λ x. on_some_changed (item_changed c) (number_of x.1) _ _ (λ n. refl))

pub constant_by : (c : Change) (text : List ℕ) → constant_of c text ≡ option_map (constant_changed c) (constant_of same text)
unfolding constant_of
constant_by c text =
    on_some_changed (constant_changed c) (identifier_of text) _ _ (λ x. on_some_changed (constant_changed c) (word_of x.1) _ _ (λ y.
    on_some_changed (constant_changed c) (number_of y.0) _ _ (λ n. kind_changed c (constant_changed c) y.1 _ _ (λ k. refl))))

pub constructor_by : (c : Change) (text : List ℕ) → constructor_of text ≡ option_map (constructor_changed c) (constructor_of text)
unfolding constructor_of
constructor_by c text = on_some_changed (constructor_changed c) (identifier_alone text) _ _ (λ name. refl)

pub given_by : (c : Change) (text : List ℕ) (k : Constructor)
    → given_added c text (constructor_changed c k) ≡ option_map (constructor_changed c) (given_added same text k)
unfolding given_added
given_by c text k =
    where_changed (constructor_changed c) (is_open k) _ _
    (on_changed (constructor_changed c) (map (field_changed c)) (pushed k.params (on_some (behind (codes "in ") text) (field_of same))) _ _ _
    (pushed_changed (field_changed c) k.params _ _ (on_some_changed (field_changed c) (behind (codes "in ") text) (field_of same) (field_of c) (λ x. field_by c x))) (λ params. refl))

pub rest_by : (c : Change) (text : List ℕ) (k : Constructor)
    → rest_added text (constructor_changed c k) ≡ option_map (constructor_changed c) (rest_added text k)
unfolding rest_added
rest_by c text k = where_changed (constructor_changed c) (is_open k) _ _ (on_some_changed (constructor_changed c) (identifier_alone text) _ _ (λ name. refl))

pub raised_by : (c : Change) (text : List ℕ) (k : Constructor)
    → raised_added text (constructor_changed c k) ≡ option_map (constructor_changed c) (raised_added text k)
unfolding raised_added
raised_by c text k = on_some_changed (constructor_changed c) (pushed k.raises (entity_name_of text)) _ _ (λ names. refl)

pub property_by : (c : Change) (text : List ℕ) → property_of c text ≡ option_map (part_changed c) (property_of same text)
unfolding property_of
property_by c text =
    on_some_changed (part_changed c) (identifier_of text) _ _ (λ x. on_some_changed (part_changed c) (word_of x.1) _ _ (λ y.
    on_some_changed (part_changed c) (flags_of y.0) _ _ (λ flags. kind_changed c (part_changed c) y.1 _ _ (λ k. refl))))
