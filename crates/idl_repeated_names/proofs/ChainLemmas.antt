-- A struct or an exception, and all on which it stands.
use Rattle.std.proofs.Common.{◌≡◌, refl, sym, ap, ap₂, subst, ◌∙◌, ℕ, suc, ◌-◌, ◌<◌, List, [], ◌∷◌, ◌++◌, map, reverse, length, append-nil, append_assoc, Option, None, Some, MatchOption, Bor, arith}
use Rattle.std.proofs.lemmas.List.{length-map, map-append, reverse-append}
use Rattle.std.specs.List.{flat_map}
use Rattle.idl_repeated_names.specs.Over.{chain_of, chain_within}
use Rattle.type_registry.specs.Met.{names_at}
use Rattle.uno_entities.specs.Entities.{entities_of, entity_of}
use Rattle.uno_entities.specs.declared.entity.Entity as code
use Rattle.uno_model.specs.Entities.{Entity}
use Rattle.uno_model.specs.Registry.{find_entity, member_bases}

-- ---- bases

-- the one base, or none
abbrev pub IsBase : Option Entity → Option (Bor (List ℕ)) → Type 0
IsBase entity found = MatchOption found (member_bases entity ≡ []) (λ n. member_bases entity ≡ n.now ∷ [])

pub base_there : (reg : List Entity) (name : List ℕ) (e : Entity) (found : Option (Bor (List ℕ))) → find_entity name reg ≡ Some e → IsBase (Some e) found → IsBase (find_entity name reg) found
base_there reg name e found is one = subst (λ o. IsBase o found) (sym is) one

pub no_base : (reg : List Entity) (name : List ℕ) → find_entity name reg ≡ None → IsBase (find_entity name reg) None
no_base reg name none = ap (λ o. member_bases o) none

-- ---- the chain, from the last to the first

abbrev rest : ℕ → List Entity → List ℕ → List (List ℕ)
rest levels reg name = flat_map (chain_within levels reg) (member_bases (find_entity name reg))

turned_more : (names : List (Bor (List ℕ))) (name : Bor (List ℕ)) → reverse (names_at (names ++ name ∷ [])) ≡ name.now ∷ reverse (names_at names)
turned_more names name = ap reverse (map-append (λ (n : Bor (List ℕ)). n.now) names (name ∷ [])) ∙ reverse-append (names_at names) (name.now ∷ [])

pub chain_begins : (reg : List Entity) (levels : ℕ) (name : Bor (List ℕ)) (old new : List (Bor (List ℕ))) → levels ≡ length reg → new ≡ old ++ name ∷ []
    → rest levels reg name.now ++ reverse (names_at new) ≡ chain_of reg name.now ++ reverse (names_at old)
unfolding chain_within
chain_begins reg levels name old new all put =
    ap₂ (λ n ns. rest n reg name.now ++ reverse (names_at ns)) all put ∙ ap (λ ns. rest (length reg) reg name.now ++ ns) (turned_more old name)
    ∙ sym (append_assoc (rest (length reg) reg name.now) (name.now ∷ []) (reverse (names_at old)))

pub chain_goes_on : (reg : List Entity) (levels less : ℕ) (last base : Bor (List ℕ)) (old new : List (Bor (List ℕ))) (whole : List (List ℕ)) → 0 < levels → less ≡ levels - 1
    → member_bases (find_entity last.now reg) ≡ base.now ∷ [] → new ≡ old ++ base ∷ [] → rest levels reg last.now ++ reverse (names_at old) ≡ whole
    → rest less reg base.now ++ reverse (names_at new) ≡ whole
unfolding chain_within
chain_goes_on reg levels less last base old new whole some fewer one put so_far =
    let next : levels ≡ suc less = omega (arith, some, fewer) in
    ap (λ ns. rest less reg base.now ++ reverse (names_at ns)) put ∙ ap (λ ns. rest less reg base.now ++ ns) (turned_more old base)
    ∙ sym (append_assoc (rest less reg base.now) (base.now ∷ []) (reverse (names_at old)))
    ∙ ap (λ ns. ns ++ reverse (names_at old)) (sym (append-nil (rest less reg base.now ++ base.now ∷ [])))
    ∙ sym (ap₂ (λ n bs. flat_map (chain_within n reg) bs ++ reverse (names_at old)) next one) ∙ so_far

pub chain_ends : (reg : List Entity) (levels : ℕ) (last : List ℕ) (names : List (Bor (List ℕ))) (whole : List (List ℕ)) → member_bases (find_entity last reg) ≡ []
    → rest levels reg last ++ reverse (names_at names) ≡ whole → reverse (names_at names) ≡ whole
chain_ends reg levels last names whole none so_far = sym (ap (λ bs. flat_map (chain_within levels reg) bs ++ reverse (names_at names)) none) ∙ so_far

nothing_within : (reg : List Entity) (names : List (List ℕ)) → flat_map (chain_within 0 reg) names ≡ []
unfolding chain_within
nothing_within reg [] = refl
nothing_within reg (n ∷ ns) = nothing_within reg ns

pub chain_is_whole : (reg : List Entity) (levels : ℕ) (last : List ℕ) (names : List (Bor (List ℕ))) (whole : List (List ℕ)) → levels ≡ 0
    → rest levels reg last ++ reverse (names_at names) ≡ whole → reverse (names_at names) ≡ whole
chain_is_whole reg levels last names whole none so_far =
    sym (ap (λ n. rest n reg last ++ reverse (names_at names)) none ∙ ap (λ ns. ns ++ reverse (names_at names)) (nothing_within reg (member_bases (find_entity last reg)))) ∙ so_far

mapped_turned : {X Y : Type 0} (f : X → Y) (xs : List X) → map f (reverse xs) ≡ reverse (map f xs)
mapped_turned f [] = refl
mapped_turned f (x ∷ xs) =
    ap (map f) (reverse-append (x ∷ []) xs) ∙ map-append f (reverse xs) (x ∷ []) ∙ ap (λ ys. ys ++ f x ∷ []) (mapped_turned f xs) ∙ sym (reverse-append (f x ∷ []) (map f xs))

pub chain_turned : (reg : List Entity) (name : List ℕ) (empty pushed turned : List (Bor (List ℕ))) → empty ≡ [] → reverse (names_at pushed) ≡ chain_of reg name ++ reverse (names_at empty) → turned ≡ reverse pushed
    → names_at turned ≡ chain_of reg name
chain_turned reg name empty pushed turned none whole is =
    ap names_at is ∙ mapped_turned (λ (n : Bor (List ℕ)). n.now) pushed ∙ whole ∙ ap (λ ns. chain_of reg name ++ reverse (names_at ns)) none ∙ append-nil (chain_of reg name)

pub many_levels : (reg : List Entity) (es : List code.Entity) → entities_of es ≡ reg → length es ≡ length reg
many_levels reg es all = sym (length-map es entity_of) ∙ ap length all
