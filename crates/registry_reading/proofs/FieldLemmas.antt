-- A name and a type, and what is made of them.
use Rattle.std.proofs.Common.{◌≡◌, ℕ, false, List, [], Option, None, Some, refl, sym, ap, ◌∙◌}
use Rattle.uno_model.specs.Entities.{Field, Param, Method, Member, method}
use Rattle.uno_model.specs.Kinds.{Kind}
use Rattle.uno_model.specs.declared.way.Way.{Way}
use Rattle.registry_reading_model.specs.Bodies.{changed_kind, field_of, method_of, param_of}
use Rattle.registry_reading_model.specs.Changes.{Change}
use Rattle.registry_reading_model.specs.Words.{on_some, word_of, identifier_of, way_of}

abbrev field_with : List ℕ → Kind → Field
field_with name k = record { name = name; kind = k }

abbrev method_with : List ℕ → Kind → Method
method_with name k = record { name = name; oneway = false; result_kind = k; params = []; raises = [] }

abbrev param_with : Way → List ℕ → Kind → Param
param_with way name k = record { way = way; name = name; kind = k }

abbrev as_member : Method → Option Member
as_member m = Some (method m)

abbrev method_in : Field → Option Member
method_in f = Some (method (method_with f.name f.kind))

abbrev param_in : Way → Field → Option Param
param_in way f = Some (param_with way f.name f.kind)

method_is : (c : Change) (text : List ℕ) → on_some (method_of c text) as_member ≡ on_some (field_of c text) method_in
unfolding method_of field_of
method_is c text = by_name (identifier_of text)
  where
    by_kind : (name : List ℕ) (k : Option Kind) → on_some (on_some k (λ k. Some (method_with name k))) as_member ≡ on_some (on_some k (λ k. Some (field_with name k))) method_in
    by_kind name None = refl
    by_kind name (Some k) = refl

    by_name : (o : Option (List ℕ × List ℕ)) → on_some (on_some o (λ x. on_some (changed_kind c x.1) (λ k. Some (method_with x.0 k)))) as_member
        ≡ on_some (on_some o (λ x. on_some (changed_kind c x.1) (λ k. Some (field_with x.0 k)))) method_in
    by_name None = refl
    by_name (Some x) = by_kind x.0 (changed_kind c x.1)

pub method_read : (c : Change) (text : List ℕ) (o : Option Field) (name : List ℕ) (k : Kind) (m : Member) → o ≡ field_of c text → o ≡ Some (field_with name k)
    → m ≡ method (method_with name k) → Some m ≡ on_some (method_of c text) as_member
method_read c text o name k m read some made = ap Some made ∙ ap (λ p. on_some p method_in) (sym some ∙ read) ∙ sym (method_is c text)

pub no_method : (c : Change) (text : List ℕ) (o : Option Field) → o ≡ field_of c text → o ≡ None → None ≡ on_some (method_of c text) as_member
no_method c text o read none = ap (λ p. on_some p method_in) (sym none ∙ read) ∙ sym (method_is c text)

param_is : (c : Change) (text : List ℕ) → param_of c text ≡ on_some (word_of text) (λ x. on_some (way_of x.0) (λ way. on_some (field_of c x.1) (param_in way)))
unfolding param_of field_of
param_is c text = by_word (word_of text)
  where
    by_kind : (way : Way) (name : List ℕ) (k : Option Kind) → on_some k (λ k. Some (param_with way name k)) ≡ on_some (on_some k (λ k. Some (field_with name k))) (param_in way)
    by_kind way name None = refl
    by_kind way name (Some k) = refl

    by_name : (way : Way) (o : Option (List ℕ × List ℕ)) → on_some o (λ y. on_some (changed_kind c y.1) (λ k. Some (param_with way y.0 k)))
        ≡ on_some (on_some o (λ y. on_some (changed_kind c y.1) (λ k. Some (field_with y.0 k)))) (param_in way)
    by_name way None = refl
    by_name way (Some y) = by_kind way y.0 (changed_kind c y.1)

    by_way : (rest : List ℕ) (w : Option Way) → on_some w (λ way. on_some (identifier_of rest) (λ y. on_some (changed_kind c y.1) (λ k. Some (param_with way y.0 k))))
        ≡ on_some w (λ way. on_some (on_some (identifier_of rest) (λ y. on_some (changed_kind c y.1) (λ k. Some (field_with y.0 k)))) (param_in way))
    by_way rest None = refl
    by_way rest (Some way) = by_name way (identifier_of rest)

    by_word : (o : Option (List ℕ × List ℕ)) → on_some o (λ x. on_some (way_of x.0) (λ way. on_some (identifier_of x.1) (λ y. on_some (changed_kind c y.1) (λ k. Some (param_with way y.0 k)))))
        ≡ on_some o (λ x. on_some (way_of x.0) (λ way. on_some (on_some (identifier_of x.1) (λ y. on_some (changed_kind c y.1) (λ k. Some (field_with y.0 k)))) (param_in way)))
    by_word None = refl
    by_word (Some x) = by_way x.1 (way_of x.0)

param_by : (c : Change) (text : List ℕ) (x : List ℕ × List ℕ) (way : Way) (o : Option Field) → Some x ≡ word_of text → Some way ≡ way_of x.0 → o ≡ field_of c x.1
    → on_some o (param_in way) ≡ param_of c text
param_by c text x way o at by read =
    ap (λ p. on_some p (param_in way)) read ∙ ap (λ w. on_some w (λ way. on_some (field_of c x.1) (param_in way))) by
    ∙ ap (λ w. on_some w (λ x. on_some (way_of x.0) (λ way. on_some (field_of c x.1) (param_in way)))) at ∙ sym (param_is c text)

pub param_read : (c : Change) (text : List ℕ) (x : List ℕ × List ℕ) (way : Way) (o : Option Field) (name : List ℕ) (k : Kind) → Some x ≡ word_of text → Some way ≡ way_of x.0
    → o ≡ field_of c x.1 → o ≡ Some (field_with name k) → Some (param_with way name k) ≡ param_of c text
param_read c text x way o name k at by read some = ap (λ p. on_some p (param_in way)) (sym some) ∙ param_by c text x way o at by read

pub no_param : (c : Change) (text : List ℕ) (x : List ℕ × List ℕ) (way : Way) (o : Option Field) → Some x ≡ word_of text → Some way ≡ way_of x.0 → o ≡ field_of c x.1 → o ≡ None
    → None ≡ param_of c text
no_param c text x way o at by read none = ap (λ p. on_some p (param_in way)) (sym none) ∙ param_by c text x way o at by read
