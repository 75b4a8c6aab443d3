-- Types as they are made.
use Rattle.std.proofs.Common.{◌≡◌, refl, ap, ◌∙◌, ℕ, suc, ◌+◌, List, Option, None, Some, option_map, unwrap_or, arith}
use Rattle.uno_entities.specs.Entities.{body_of, entities_of, entity_of}
use Rattle.uno_entities.specs.declared.entity.Entity.{Entity}
use Rattle.uno_model.specs.BuiltIn.{built_in}
use Rattle.uno_model.specs.Entities as uno
use Rattle.uno_model.specs.Kinds.{Kind}
use Rattle.uno_model.specs.Kinds as kd
use Rattle.uno_model.specs.NamedTypes.{kind_of_body, kind_of_entity}
use Rattle.uno_model.specs.Registry.{find_entity}
use Rattle.registry_reading_model.specs.Kinds.{sequences}
use Rattle.idl_meant.specs.Owning.{owner_at}
use Rattle.idl_meant.specs.Typing.{end_kind}
use Rattle.idl_names.specs.Paths.{Parts}
use Rattle.idl_names.specs.Standing.{name_at}
use Rattle.idl_names.specs.declared.declaration.Declared.{Declared}
use Rattle.idl_trees.specs.Trees.{declaration_of}
use Rattle.idl_types.specs.Kinds.{leaf_if, leaf_of}

pub no_sequence : (k : Kind) → k ≡ sequences 0 k
unfolding sequences
no_sequence k = refl

pub one_sequence_more : (base now new : Kind) (n : ℕ) → now ≡ sequences n base → new ≡ kd.sequence now → new ≡ sequences (n + 1) base
unfolding sequences
one_sequence_more base now new n so_far is = is ∙ ap kd.sequence so_far ∙ ap (λ m. sequences m base) (let step : suc n ≡ n + 1 = omega arith in step)

-- ---- at the end of a chain of typedefs

pub end_declared : (paths : List Parts) (all : List Declared) (owners : List (Option ℕ)) (n : ℕ) (name : List ℕ) (d : Declared) → name ≡ name_at paths n → Some d ≡ owner_at all owners n
    → leaf_of name (declaration_of d.body.now) ≡ end_kind paths all owners n
end_declared paths all owners n name d named own = λ i. leaf_if (named i) (option_map (λ (e : Declared). declaration_of e.body.now) (own i))

pub end_built : (paths : List Parts) (all : List Declared) (owners : List (Option ℕ)) (n : ℕ) (name : List ℕ) (es : List uno.Entity) → name ≡ name_at paths n → None ≡ owner_at all owners n → es ≡ built_in
    → unwrap_or (kind_of_entity name (find_entity name es)) (kd.struct name) ≡ end_kind paths all owners n
end_built paths all owners n name es named none built =
    (λ i. unwrap_or (kind_of_entity (named i) (find_entity (named i) (built i))) (kd.struct (named i)))
    ∙ ap (λ o. leaf_if (name_at paths n) (option_map (λ (e : Declared). declaration_of e.body.now) o)) none

-- ---- the type of what is built in

pub entity_found : (name : List ℕ) (es : List Entity) (e : Entity) (k : Kind) → Some (entity_of e) ≡ find_entity name (entities_of es) → k ≡ unwrap_or (kind_of_body name (body_of e.body)) (kd.struct name)
    → k ≡ unwrap_or (kind_of_entity name (find_entity name (entities_of es))) (kd.struct name)
entity_found name es e k found is = is ∙ ap (λ o. unwrap_or (kind_of_entity name o) (kd.struct name)) found

pub entity_missing : (name : List ℕ) (es : List Entity) → None ≡ find_entity name (entities_of es) → kd.struct name ≡ unwrap_or (kind_of_entity name (find_entity name (entities_of es))) (kd.struct name)
entity_missing name es none = ap (λ o. unwrap_or (kind_of_entity name o) (kd.struct name)) none
