-- The shapes of types, of which no more than 65 sequences are kept.
use Rattle.std.proofs.Common.{◌≡◌, refl, sym, ap, subst, ◌∙◌, ℕ, suc, ◌+◌, ◌<◌, min, List, length, get_or, Option, None, Some, IfSome, Contains, option_map, arith}
use Rattle.std.proofs.lemmas.Option.{slice_get_within}
use Rattle.uno_model.specs.BuiltIn.{built_in}
use Rattle.uno_model.specs.Kinds.{Kind, nesting}
use Rattle.uno_model.specs.Kinds as kd
use Rattle.uno_model.specs.Registry.{find_entity}
use Rattle.registry_reading_model.specs.Kept.{cut, innermost}
use Rattle.registry_reading_model.specs.Kinds.{sequences}
use Rattle.idl_meaning_model.specs.Meaning.{name_type, path_meant, simple_meant, type_meant, type_over}
use Rattle.idl_meaning_model.specs.Uses.{type_paths}
use Rattle.idl_meant.specs.Owning.{owner_at}
use Rattle.idl_meant.specs.Naming.{HasPathShape, HasSequenceShape, HasShape, NamesMeant, Stands}
use Rattle.idl_meant.specs.Resolving.{AreTold, all_in, modules_at}
use Rattle.idl_meant.specs.Shaping.{bound_of}
use Rattle.idl_meant.specs.Shaping as plain
use Rattle.idl_meant.specs.Typing.{end_kind, leaf_kind}
use Rattle.idl_meant.specs.Using.{IsUsed}
use Rattle.idl_meant.specs.declared.names.Names.{Names}
use Rattle.idl_meant.specs.declared.shapes.Leaf.{Leaf}
use Rattle.idl_meant.specs.declared.shapes.Leaf.TheVariants as leaf
use Rattle.idl_meant.specs.declared.shapes.Shape.{Shape}
use Rattle.idl_meant.proofs.TypedEnds.{end_typed}
use Rattle.idl_model.specs.Places.{Place}
use Rattle.idl_model.specs.Trees.{Path, WrittenType, simple, named, sequence_of, no_arguments}
use Rattle.idl_names.specs.Paths.{Parts}
use Rattle.idl_names.specs.Standing.{name_at}
use Rattle.idl_names.specs.declared.declaration.Declared as code
use Rattle.idl_names.specs.declared.resolving.Resolved.{Resolved}
use Rattle.idl_trees.specs.Trees.{declaration_of}
use Rattle.idl_trees.specs.Types.{simple_of}
use Rattle.idl_trees.specs.declared.written_type.Simple as written
use Rattle.idl_types.specs.Bodies.{bodies_of, steps_below, told_at}
use Rattle.idl_types.specs.Kinds.{ended_type, leaf_if}
use Rattle.idl_types.specs.Steps.{most}
use Rattle.idl_types.proofs.ChainLaws.{below_sequences, cut_sequences, entity_low, leaf_low, many_sequences, simple_low}
use Rattle.idl_types.proofs.StepLemmas.{long_steps}
use Rattle.typedef_chains.specs.Chains.{Ends, here, on, IsEnd}
use Rattle.typedef_chains.specs.declared.step.End.{End}
use Rattle.typedef_chains.specs.declared.step.Step.{Step}

abbrev IsFlat : Kind → Type 0
IsFlat k = (nesting k ≡ 0) × (innermost k ≡ k)

-- ---- one sequence more

inner_flat : (k : Kind) → IsFlat (innermost k)
unfolding innermost
inner_flat kd.void = (refl, refl)
inner_flat kd.char = (refl, refl)
inner_flat kd.boolean = (refl, refl)
inner_flat kd.byte = (refl, refl)
inner_flat kd.short = (refl, refl)
inner_flat kd.unsigned_short = (refl, refl)
inner_flat kd.long = (refl, refl)
inner_flat kd.unsigned_long = (refl, refl)
inner_flat kd.hyper = (refl, refl)
inner_flat kd.unsigned_hyper = (refl, refl)
inner_flat kd.str = (refl, refl)
inner_flat kd.kind = (refl, refl)
inner_flat kd.any = (refl, refl)
inner_flat (kd.enum name) = (refl, refl)
inner_flat (kd.struct name) = (refl, refl)
inner_flat (kd.exception name) = (refl, refl)
inner_flat (kd.interface name) = (refl, refl)
inner_flat (kd.sequence k) = inner_flat k

-- what is cut to so many sequences round a type tells both
cut_parts : (k base : Kind) (s : ℕ) → IsFlat base → cut k ≡ sequences s base → (min 65 (nesting k) ≡ s) × (innermost k ≡ base)
unfolding cut
cut_parts k base s flat is =
    let inner = inner_flat k in (
      sym (many_sequences (innermost k) inner.0 (min 65 (nesting k))) ∙ ap nesting is ∙ many_sequences base flat.0 s,
      sym (below_sequences (innermost k) inner.1 (min 65 (nesting k))) ∙ ap innermost is ∙ below_sequences base flat.1 s,
    )

cut_more : (k base : Kind) (s : ℕ) → IsFlat base → cut k ≡ sequences s base → cut (kd.sequence k) ≡ sequences (min (s + 1) 65) base
unfolding cut innermost
cut_more k base s flat is =
    let parts = cut_parts k base s flat is in
    let few = parts.0 in
    let many : min 65 (suc (nesting k)) ≡ min (s + 1) 65 = omega (arith, few) in
    λ i. sequences (many i) (parts.1 i)

-- ---- what stands below all sequences

end_flat : (paths : List Parts) (all : List code.Declared) (owners : List (Option ℕ)) (n : ℕ) (o : Option code.Declared) → IsFlat (leaf_if (name_at paths n) (option_map (λ d. declaration_of d.body.now) o))
end_flat paths all owners n None = entity_low (name_at paths n) (find_entity (name_at paths n) built_in)
end_flat paths all owners n (Some d) = leaf_low (name_at paths n) (declaration_of d.body.now)

struct_flat : (name : List ℕ) → IsFlat (kd.struct name)
unfolding innermost
struct_flat name = (refl, refl)

leaf_flat : (paths : List Parts) (all : List code.Declared) (owners : List (Option ℕ)) (l : Leaf) → IsFlat (leaf_kind paths all owners l)
leaf_flat paths all owners (leaf.Simple s) = simple_low (simple_of s)
leaf_flat paths all owners (leaf.End n) = end_flat paths all owners n (owner_at all owners n)
leaf_flat paths all owners (leaf.Endless n) = struct_flat (name_at paths n)

-- what stands in no sequence is kept
cut_none : (k : Kind) → IsFlat k → cut k ≡ sequences 0 k
unfolding sequences
cut_none k flat = cut_sequences 0 k flat.0 flat.1 ∙ ap (λ n. sequences n k) (let none : min 65 0 ≡ 0 = omega arith in none)

-- ---- shapes

module _ (r : Resolved) (owners : List (Option ℕ)) where
  more_shape : (modules : ℕ) (t : WrittenType) (s : Shape) → HasShape r owners modules t s → HasSequenceShape r owners modules t (plain.sequence_of s)
  more_shape modules t s has =
      record {
        kind = cut_more (type_meant (all_in r) (modules_at r modules) t) (leaf_kind r.paths r.declared.items owners s.leaf) s.sequences (leaf_flat r.paths r.declared.items owners s.leaf) has.kind;
        low = has.low;
      }

  simple_has : (modules : ℕ) (p : Place) (s : written.Simple) → HasShape r owners modules (simple p (simple_of s)) (record { sequences = 0; leaf = leaf.Simple s })
  unfolding type_meant type_over
  simple_has modules p s = record { kind = cut_none (simple_meant (simple_of s)) (simple_low (simple_of s)); low = omega arith }

  named_has : (modules : ℕ) (path : Path) (s : Shape) → HasPathShape r owners modules path s → HasShape r owners modules (named path no_arguments) s
  unfolding type_meant type_over
  named_has modules path s has = has

  sequence_has : (modules : ℕ) (p : Place) (t : WrittenType) (s : Shape) → HasSequenceShape r owners modules t s → HasShape r owners modules (sequence_of p t) s
  unfolding type_meant type_over
  sequence_has modules p t s has = has

  -- where a type is written so
  pub simple_shape : (modules : ℕ) (t : WrittenType) (p : Place) (s : written.Simple) → t ≡ simple p (simple_of s) → HasShape r owners modules t (record { sequences = 0; leaf = leaf.Simple s })
  simple_shape modules t p s is = subst (λ u. HasShape r owners modules u (record { sequences = 0; leaf = leaf.Simple s })) (sym is) (simple_has modules p s)

  pub named_shape : (modules : ℕ) (t : WrittenType) (path : Path) → t ≡ named path no_arguments → (o : Option Shape) → IfSome o (HasPathShape r owners modules path) → IfSome o (HasShape r owners modules t)
  named_shape modules t path is None has = tt
  named_shape modules t path is (Some s) has = subst (λ u. HasShape r owners modules u s) (sym is) (named_has modules path s has)

  pub sequence_shape : (modules : ℕ) (t u : WrittenType) (p : Place) (s more : Shape) → t ≡ sequence_of p u → HasShape r owners modules u s → more ≡ plain.sequence_of s → HasShape r owners modules t more
  sequence_shape modules t u p s more is has next =
      subst (λ v. HasShape r owners modules v more) (sym is)
      (subst (HasShape r owners modules (sequence_of p u)) (sym next) (sequence_has modules p u (plain.sequence_of s) (more_shape modules u s has)))

-- ---- names that types use

abbrev AreUsed : Resolved → ℕ → WrittenType → Type 0
AreUsed r modules t = (p : Path) → Contains (type_paths t) p → IsUsed r.declared.items modules p

pub named_used : (r : Resolved) (modules : ℕ) (t : WrittenType) (path : Path) → t ≡ named path no_arguments → AreUsed r modules t → IsUsed r.declared.items modules path
unfolding type_paths
named_used r modules t path is used = subst (AreUsed r modules) is used path (0, omega arith, refl)

pub sequence_used : (r : Resolved) (modules : ℕ) (t u : WrittenType) (p : Place) → t ≡ sequence_of p u → AreUsed r modules t → AreUsed r modules u
unfolding type_paths
sequence_used r modules t u p is used = subst (AreUsed r modules) is used

-- ---- at the end of a chain of typedefs

last_low : (steps : List Step) (n last sum : ℕ) → Ends steps n last sum → last < length steps
last_low steps n last sum (here n' s is none) = slice_get_within steps n s is
last_low steps n last sum (on n' last' rest next s is leads ends) = last_low steps next last rest ends

module _ (r : Resolved) (it : AreTold r) (names : Names) (are : NamesMeant r names) (modules : ℕ) (path : Path) (n : ℕ) (stands : Stands r modules path n) where
  typed : cut (path_meant (all_in r) (modules_at r modules) path) ≡ ended_type (name_at r.paths n) (end_kind r.paths r.declared.items names.owners.items) (get_or names.ends.items n None)
  typed = ap (λ name. cut (name_type (all_in r) name)) (sym stands.name) ∙ end_typed r it names are n (stands.right, stands.entity)

  pub end_shape : (e : End) → get_or names.ends.items n None ≡ Some e → HasPathShape r names.owners.items modules path (record { sequences = e.sum; leaf = leaf.End e.last })
  end_shape e is =
      let steps = steps_below (told_at names.told) (bodies_of r.declared.items) names.owners.items (length r.paths) in
      let end = subst (IsEnd steps most n) is (are.ends n stands.right.0) in
      let last = last_low steps n e.last end.0 end.2 in
      let long = long_steps (told_at names.told) (bodies_of r.declared.items) names.owners.items (length r.paths) in
      record {
        kind = typed ∙ ap (ended_type (name_at r.paths n) (end_kind r.paths r.declared.items names.owners.items)) is;
        low = omega (arith, last, long);
      }

  pub endless_shape : get_or names.ends.items n None ≡ None → HasPathShape r names.owners.items modules path (record { sequences = 0; leaf = leaf.Endless n })
  unfolding sequences
  endless_shape is =
      let low = stands.right.0 in
      record {
        kind = typed ∙ ap (ended_type (name_at r.paths n) (end_kind r.paths r.declared.items names.owners.items)) is;
        low = omega (arith, low);
      }
