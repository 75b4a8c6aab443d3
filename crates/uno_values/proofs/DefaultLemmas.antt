-- Defaults of members, one by one.
use Rattle.std.proofs.Common.{◌≡◌, ℕ, ◌+◌, ◌<◌, List, [], ◌∷◌, ◌++◌, length, map, take, get_or, sym, ap, ◌∙◌}
use Rattle.std.specs.Borrow.{Bor}
use Rattle.std.proofs.lemmas.List.{map-append, map_more}
use Rattle.uno_model.specs.Entities as plain
use Rattle.uno_model.specs.Kinds.{Kind}
use Rattle.uno_model.specs.Kinds as kd
use Rattle.uno_model.specs.Defaults.{default_of_kind}
use Rattle.uno_model.specs.Fits.{member_kinds}
use Rattle.uno_model.specs.Registry.{all_members}
use Rattle.uno_model.specs.Sound.{IsSound}
use Rattle.uno_model.specs.Values.{plains, tuple}
use Rattle.uno_model.proofs.DefaultLaws.{default_of_tuple}
use Rattle.uno_entities.specs.declared.entity.Field.{Field}
use Rattle.uno_entities.specs.Entities.{field_of}
use Rattle.uno_types.specs.Members.{fields_at}
use Rattle.uno_entities.specs.TypeNames.{kind_of}
use Rattle.uno_values.specs.Fitting.{kinds_at}
use Rattle.uno_values.specs.declared.value.Value.{Value}
use Rattle.uno_values.specs.Values.{plain_of, plains_of}

-- the types of one member more
kinds_more : (fields : List (Bor Field)) (i : ℕ) (f : Bor Field) → i < length fields → f ≡ get_or fields i f
    → kinds_at (take (i + 1) fields) ≡ kinds_at (take i fields) ++ kind_of f.now.kind ∷ []
kinds_more fields i f within is =
    ap (map (λ m. m.kind)) (map_more (λ g. field_of g.now) fields i f within ∙ ap (λ g. fields_at (take i fields) ++ field_of g.now ∷ []) (sym is))
    ∙ map-append (λ m. m.kind) (fields_at (take i fields)) (field_of f.now ∷ [])

-- and the default of one member more
pub one_more_member : (reg : List plain.Entity) (vs more : List Value) (v : Value) (fields : List (Bor Field)) (i : ℕ) (f : Bor Field) → i < length fields → f ≡ get_or fields i f
    → map plain_of vs ≡ map (default_of_kind reg) (kinds_at (take i fields)) → plain_of v ≡ default_of_kind reg (kind_of f.now.kind) → more ≡ vs ++ v ∷ []
    → map plain_of more ≡ map (default_of_kind reg) (kinds_at (take (i + 1) fields))
one_more_member reg vs more v fields i f within is each one added =
    rw (added, kinds_more fields i f within is, map-append plain_of vs (v ∷ []), each, one)
    (sym (map-append (default_of_kind reg) (kinds_at (take i fields)) (kind_of f.now.kind ∷ [])))

-- the defaults of all members, as those of a struct or an exception
module _ (reg : List plain.Entity) (sound : IsSound reg) (name : List ℕ) (v : Value) (vs : List Value) (fields : List (Bor Field)) (at : plain_of v ≡ tuple name (plains_of vs))
    (each : map plain_of vs ≡ map (default_of_kind reg) (kinds_at fields)) (all : fields_at fields ≡ all_members reg name) where
  members : plain_of v ≡ tuple name (plains (map (default_of_kind reg) (member_kinds reg name)))
  members = at ∙ ap (λ xs. tuple name (plains xs)) (each ∙ ap (λ fs. map (default_of_kind reg) (map (λ f. f.kind) fs)) all)

  pub struct_default : plain_of v ≡ default_of_kind reg (kd.struct name)
  struct_default = members ∙ sym (default_of_tuple reg sound name).0

  pub exception_default : plain_of v ≡ default_of_kind reg (kd.exception name)
  exception_default = members ∙ sym (default_of_tuple reg sound name).1
