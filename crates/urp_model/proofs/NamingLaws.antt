-- What a value names at a type are its references as it holds them, and where it arrives the same objects under the interfaces that were written.
use Rattle.std.proofs.Common.{◌≡◌, List, [], ◌∷◌, ◌++◌, map, refl, ap, ◌∙◌}
use Rattle.std.proofs.lemmas.List.{map-append}
use Rattle.uno_model.specs.Entities.{Entity}
use Rattle.uno_model.specs.Fits.{Fits, FitEach, FitAll, member_kinds}
use Rattle.uno_model.specs.Kinds.{Kind}
use Rattle.uno_model.specs.Kinds as kd
use Rattle.uno_model.specs.Recast.{recast_ref, recast, recast_each, recast_all}
use Rattle.uno_model.specs.Values.{Ref, null, own, peer, Plain, Plains, none, more, object_in, refs, refs_in}
use Rattle.uno_model.specs.Values as v
use Rattle.urp_model.specs.Carried.{abroad_ref, abroad, abroad_each, carried}
use Rattle.urp_model.specs.Namings.{naming, namings, namings_each, namings_all, held_ref, arrived_ref, arrived_naming}

-- two lists that are each others by a function, one behind the other
pub mapped : {X Y : Type 0} (f : X → Y) (us ws : List X) (xs ys : List Y) → map f us ≡ xs → map f ws ≡ ys → map f (us ++ ws) ≡ xs ++ ys
mapped f us ws xs ys first second = map-append f us ws ∙ ap (λ zs. zs ++ map f ws) first ∙ ap (λ zs. xs ++ zs) second

-- ---- as it is held

ref_held : (r : Ref) (k : Kind) → map held_ref (naming r k) ≡ object_in r
ref_held null k = refl
ref_held (own oid face) k = refl
ref_held (peer oid face) k = refl

module _ (reg : List Entity) where
  mutual
    unfolding namings namings_each namings_all refs refs_in Fits FitEach FitAll

    pub held : (x : Plain) (k : Kind) → Fits reg x k → map held_ref (namings reg x k) ≡ refs x
    held (v.any t x) k fits = held x t fits.3
    held (v.tuple name xs) k fits = each_held xs (member_kinds reg name) fits.2
    held (v.list t xs) k fits = all_held xs t fits.3
    held (v.ref r) k fits = ref_held r k
    held x k fits = refl

    pub each_held : (xs : Plains) (ks : List Kind) → FitEach reg xs ks → map held_ref (namings_each reg xs ks) ≡ refs_in xs
    each_held none ks fit = refl
    each_held (more x xs) [] fit = absurd fit
    each_held (more x xs) (k ∷ ks) fit = mapped held_ref (namings reg x k) (namings_each reg xs ks) (refs x) (refs_in xs) (held x k fit.0) (each_held xs ks fit.1)

    all_held : (xs : Plains) (k : Kind) → FitAll reg xs k → map held_ref (namings_all reg xs k) ≡ refs_in xs
    all_held none k fit = refl
    all_held (more x xs) k fit = mapped held_ref (namings reg x k) (namings_all reg xs k) (refs x) (refs_in xs) (held x k fit.0) (all_held xs k fit.1)

-- ---- as it arrives

ref_arrives : (r : Ref) (k : Kind) → map arrived_ref (naming r k) ≡ object_in (abroad_ref (recast_ref r k))
ref_arrives null k = refl
ref_arrives (own oid face) (kd.interface written) = refl
ref_arrives (own oid face) _ = refl
ref_arrives (peer oid face) (kd.interface written) = refl
ref_arrives (peer oid face) _ = refl

ref_named : (r : Ref) (k : Kind) → map arrived_naming (naming r k) ≡ naming (abroad_ref (recast_ref r k)) k
ref_named null k = refl
ref_named (own oid face) (kd.interface written) = refl
ref_named (own oid face) _ = refl
ref_named (peer oid face) (kd.interface written) = refl
ref_named (peer oid face) _ = refl

module _ (reg : List Entity) where
  mutual
    unfolding namings namings_each namings_all refs refs_in Fits FitEach FitAll recast recast_each recast_all abroad abroad_each

    pub arrives : (x : Plain) (k : Kind) → Fits reg x k → map arrived_ref (namings reg x k) ≡ refs (carried reg x k)
    arrives (v.any t x) k fits = arrives x t fits.3
    arrives (v.tuple name xs) k fits = each_arrives xs (member_kinds reg name) fits.2
    arrives (v.list t xs) k fits = all_arrive xs t fits.3
    arrives (v.ref r) k fits = ref_arrives r k
    arrives x k fits = refl

    pub each_arrives : (xs : Plains) (ks : List Kind) → FitEach reg xs ks → map arrived_ref (namings_each reg xs ks) ≡ refs_in (abroad_each (recast_each reg xs ks))
    each_arrives none ks fit = refl
    each_arrives (more x xs) [] fit = absurd fit
    each_arrives (more x xs) (k ∷ ks) fit =
        mapped arrived_ref (namings reg x k) (namings_each reg xs ks) (refs (carried reg x k)) (refs_in (abroad_each (recast_each reg xs ks))) (arrives x k fit.0)
        (each_arrives xs ks fit.1)

    all_arrive : (xs : Plains) (k : Kind) → FitAll reg xs k → map arrived_ref (namings_all reg xs k) ≡ refs_in (abroad_each (recast_all reg xs k))
    all_arrive none k fit = refl
    all_arrive (more x xs) k fit =
        mapped arrived_ref (namings reg x k) (namings_all reg xs k) (refs (carried reg x k)) (refs_in (abroad_each (recast_all reg xs k))) (arrives x k fit.0)
        (all_arrive xs k fit.1)

  mutual
    unfolding namings namings_each namings_all recast recast_each recast_all abroad abroad_each

    pub named : (x : Plain) (k : Kind) → map arrived_naming (namings reg x k) ≡ namings reg (carried reg x k) k
    named (v.any t x) k = named x t
    named (v.tuple name xs) k = each_named xs (member_kinds reg name)
    named (v.list t xs) k = all_named xs t
    named (v.ref r) k = ref_named r k
    named x k = refl

    pub each_named : (xs : Plains) (ks : List Kind) → map arrived_naming (namings_each reg xs ks) ≡ namings_each reg (abroad_each (recast_each reg xs ks)) ks
    each_named none ks = refl
    each_named (more x xs) [] = refl
    each_named (more x xs) (k ∷ ks) =
        mapped arrived_naming (namings reg x k) (namings_each reg xs ks) (namings reg (carried reg x k) k) (namings_each reg (abroad_each (recast_each reg xs ks)) ks)
        (named x k) (each_named xs ks)

    all_named : (xs : Plains) (k : Kind) → map arrived_naming (namings_all reg xs k) ≡ namings_all reg (abroad_each (recast_all reg xs k)) k
    all_named none k = refl
    all_named (more x xs) k =
        mapped arrived_naming (namings reg x k) (namings_all reg xs k) (namings reg (carried reg x k) k) (namings_all reg (abroad_each (recast_all reg xs k)) k)
        (named x k) (all_named xs k)
