-- The ends of chains of typedefs are the types that names mean.
use Rattle.std.proofs.Common.{◌≡◌, refl, sym, ap, subst, ◌∙◌, ℕ, Bool, true, false, ◌||◌, is_some, List, length, get_or, slice_get, Option, None, Some, Contains, option_map, arith}
use Rattle.std.proofs.lemmas.Option.{get_or_from_slice_get, slice_get-get_or, slice_get-map, slice_get_within}
use Rattle.std.specs.Option.{option_and_then}
use Rattle.uno_model.specs.BuiltIn.{built_in}
use Rattle.uno_model.specs.Kinds.{Kind}
use Rattle.uno_model.specs.NamedTypes.{kind_of_entity}
use Rattle.uno_model.specs.Registry.{find_entity}
use Rattle.registry_reading_model.specs.Kept.{cut}
use Rattle.registry_reading_model.specs.Kinds.{sequences}
use Rattle.idl_meaning_model.specs.Declarations.{Declared}
use Rattle.idl_meaning_model.specs.Meaning.{name_meant, name_type}
use Rattle.idl_meaning_model.specs.Scopes.{declared_as, is_built_in, is_entity}
use Rattle.idl_meaning_model.specs.Uses.{an_entity, type_paths, used_in}
use Rattle.idl_meaning_model.proofs.FaultLaws.{map_has}
use Rattle.idl_meant.specs.Naming.{NamesMeant}
use Rattle.idl_meant.specs.Owning.{owner_at}
use Rattle.idl_meant.specs.Resolving.{AreTold, all_in}
use Rattle.idl_meant.specs.Typing.{end_kind}
use Rattle.idl_meant.specs.declared.names.Names.{Names}
use Rattle.idl_meant.proofs.StandingLemmas.{built_kind, owner_declared, stood}
use Rattle.idl_model.specs.Trees.{Path, WrittenType, simple, named, sequence_of, Declaration}
use Rattle.idl_model.specs.Trees as tree
use Rattle.idl_names.specs.Collected.{declared_of}
use Rattle.idl_names.specs.Standing.{IsRight, name_at}
use Rattle.idl_names.specs.declared.declaration.Declared as code
use Rattle.idl_names.specs.declared.resolving.Resolved.{Resolved}
use Rattle.idl_trees.specs.Trees.{declaration_of}
use Rattle.idl_types.specs.Bodies.{bodies_of, steps_below, told_at}
use Rattle.idl_types.specs.Kinds.{ended_type, leaf_if}
use Rattle.idl_types.specs.Steps.{last_step, step_if}
use Rattle.idl_types.proofs.ChainLaws.{HeadOf, end_is_type}
use Rattle.idl_types.proofs.StepLemmas.{long_steps, steps_are}
use Rattle.typedef_chains.specs.declared.step.End.{End}
use Rattle.typedef_chains.specs.declared.step.Step.{Step}

none_some : {X : Type 0} {x : X} → None ≡ Some x → ⊥
none_some is = cc

-- the name below all sequences is used
in_head : (t : WrittenType) (path : Path) → HeadOf t path → Contains (type_paths t) path
unfolding type_paths
in_head (simple p s) path head = absurd head
in_head (named own ts) path head = (0, omega arith, head)
in_head (sequence_of p t) path head = in_head t path head

head_used : (t : WrittenType) (path : Path) → HeadOf t path → Contains (used_in (tree.typedef t)) (an_entity path)
unfolding used_in
head_used t path head = map_has an_entity (type_paths t) path (in_head t path head)

module _ (r : Resolved) (it : AreTold r) (names : Names) (are : NamesMeant r names) where
  abbrev view : code.Declared → Declared
  view = declared_of r.paths

  abbrev owners : List (Option ℕ)
  owners = names.owners.items

  abbrev declared_at : ℕ → Option Declared
  declared_at n = option_map view (owner_at r.declared.items owners n)

  abbrev pub Right : ℕ → Type 0
  Right n = IsRight r.paths (Some n) × (is_entity (all_in r) (name_at r.paths n) ≡ true)

  abbrev steps : List Step
  steps = steps_below (told_at names.told) (bodies_of r.declared.items) owners (length r.paths)

  declared : (n : ℕ) → Right n → declared_as (all_in r) (name_at r.paths n) ≡ declared_at n
  declared n right = owner_declared r it are.once n right.0 owners are.owners

  -- ---- typedefs lead to what their targets name

  owner_in : (o : Option ℕ) (d : Declared) → option_map view (option_and_then (slice_get r.declared.items) o) ≡ Some d → Contains (all_in r) d
  owner_in None d is = absurd (none_some is)
  owner_in (Some k) d is =
      let there : slice_get (all_in r) k ≡ Some d = slice_get-map view r.declared.items k ∙ is in
      (k, slice_get_within (all_in r) k d there, get_or_from_slice_get (all_in r) k d d there)

  leads : (n : ℕ) (d : Declared) (t : WrittenType) (path : Path) → Right n → declared_at n ≡ Some d → d.body ≡ tree.typedef t → HeadOf t path
      → (m : ℕ) × (told_at names.told path ≡ Some m) × Right m × (name_at r.paths m ≡ name_meant (all_in r) d.modules path)
  leads n d t path right found body head =
      let at = stood r it d path (owner_in (get_or owners n None) d found) (subst (λ b. Contains (used_in b) (an_entity path)) (sym body) (head_used t path head)) in
      (at.number, are.told path.place ∙ at.told, (at.right, at.entity), at.name)

  -- ---- what is not declared is built in

  known : (n : ℕ) → Right n → declared_at n ≡ None → (k : Kind) × (kind_of_entity (name_at r.paths n) (find_entity (name_at r.paths n) built_in) ≡ Some k)
  known n right none =
      built_kind (name_at r.paths n) (either (is_built_in (name_at r.paths n)) (declared_as (all_in r) (name_at r.paths n)) (declared n right ∙ none) right.1)
    where
      either : (b : Bool) (o : Option Declared) → o ≡ None → (b || is_some o) ≡ true → b ≡ true
      either true o is all = refl
      either false o is all = let bad : false ≡ true = sym (ap is_some is) ∙ all in bad

  -- ---- steps

  body_same : (o : Option ℕ) → option_and_then (slice_get (bodies_of r.declared.items)) o ≡ option_map (λ (d : Declared). d.body) (option_map view (option_and_then (slice_get r.declared.items) o))
  body_same None = refl
  body_same (Some k) = slice_get-map (λ (d : code.Declared). declaration_of d.body.now) r.declared.items k ∙ both (slice_get r.declared.items k)
    where
      both : (o : Option code.Declared) → option_map (λ d. declaration_of d.body.now) o ≡ option_map (λ (d : Declared). d.body) (option_map view o)
      both None = refl
      both (Some d) = refl

  steps_at : (n : ℕ) (s : Step) → slice_get steps n ≡ Some s → s ≡ step_if (told_at names.told) n (option_map (λ d. d.body) (declared_at n))
  steps_at n s is =
      steps_are (told_at names.told) (bodies_of r.declared.items) owners (length r.paths) n s is ∙ ap (step_if (told_at names.told) n) (body_same (get_or owners n None))

  there : (n : ℕ) → Right n → (s : Step) × (slice_get steps n ≡ Some s)
  there n right =
      let long = long_steps (told_at names.told) (bodies_of r.declared.items) owners (length r.paths) in
      let low = right.0.0 in
      (get_or steps n last_step, slice_get-get_or steps n last_step (omega (arith, long, low)))

  leaf_same : (n : ℕ) (o : Option End) → ended_type (name_at r.paths n) (λ k. leaf_if (name_at r.paths k) (option_map (λ d. d.body) (declared_at k))) o ≡ ended_type (name_at r.paths n) (end_kind r.paths r.declared.items owners) o
  leaf_same n None = refl
  leaf_same n (Some e) = ap (λ k. sequences e.sum k) (both (owner_at r.declared.items owners e.last))
    where
      both : (o : Option code.Declared) → leaf_if (name_at r.paths e.last) (option_map (λ (d : Declared). d.body) (option_map view o)) ≡ leaf_if (name_at r.paths e.last) (option_map (λ d. declaration_of d.body.now) o)
      both None = refl
      both (Some d) = refl

  pub end_typed : (n : ℕ) → Right n → cut (name_type (all_in r) (name_at r.paths n)) ≡ ended_type (name_at r.paths n) (end_kind r.paths r.declared.items owners) (get_or names.ends.items n None)
  end_typed n right =
      end_is_type (all_in r) (told_at names.told) (name_at r.paths) declared_at Right declared leads known steps steps_at there n (get_or names.ends.items n None) right (are.ends n right.0.0)
      ∙ leaf_same n (get_or names.ends.items n None)
