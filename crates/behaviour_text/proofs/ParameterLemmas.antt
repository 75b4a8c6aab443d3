-- Parameters, one after the other.
use Rattle.std.proofs.Common.{◌≡◌, ℕ, ◌<◌, ◌≤◌, ◌+◌, List, [], ◌∷◌, ◌++◌, length, map, drop, get_or, refl, sym, ap, ◌∙◌}
use Rattle.std.proofs.lemmas.List.{drop_more, drop_all, append_assoc, append-nil}
use Rattle.plan_model.specs.Contexts.{Scoped, parameters}
use Rattle.uno_entities.specs.Entities.{param_of}
use Rattle.uno_entities.specs.declared.entity.Param.{Param}
use Rattle.uno_model.specs.Entities as plain

-- parameters from a place on
params_at : (ps : List Param) (i : ℕ) (p : Param) → i < length ps → p ≡ get_or ps i p → map param_of (drop i ps) ≡ param_of p ∷ map param_of (drop (i + 1) ps)
params_at ps i p within is = ap (map param_of) (drop_more ps i p within) ∙ ap (λ q. param_of q ∷ map param_of (drop (i + 1) ps)) (sym is)

-- as variables
first_parameter : (p : plain.Param) (ps : List plain.Param) → parameters (p ∷ ps) ≡ parameters (p ∷ []) ++ parameters ps
unfolding parameters
first_parameter p ps = refl

no_parameters : parameters [] ≡ []
unfolding parameters
no_parameters = refl

pub param_next : (ps : List Param) (i : ℕ) (p : Param) (old new : List Scoped) (x : Scoped) (target : List Scoped) → i < length ps → p ≡ get_or ps i p
    → x ∷ [] ≡ parameters (param_of p ∷ []) → new ≡ old ++ x ∷ [] → old ++ parameters (map param_of (drop i ps)) ≡ target → new ++ parameters (map param_of (drop (i + 1) ps)) ≡ target
param_next ps i p old new x target within is one pushed so_far =
    ap (λ xs. xs ++ parameters (map param_of (drop (i + 1) ps))) (pushed ∙ ap (λ y. old ++ y) one)
    ∙ append_assoc old (parameters (param_of p ∷ [])) (parameters (map param_of (drop (i + 1) ps)))
    ∙ ap (λ y. old ++ y) (sym (first_parameter (param_of p) (map param_of (drop (i + 1) ps))) ∙ ap parameters (sym (params_at ps i p within is)))
    ∙ so_far

pub param_end : (ps : List Param) (i : ℕ) (old target : List Scoped) → length ps ≤ i → old ++ parameters (map param_of (drop i ps)) ≡ target → old ≡ target
param_end ps i old target past so_far =
    sym (append-nil old) ∙ ap (λ y. old ++ y) (sym (ap (λ qs. parameters (map param_of qs)) (drop_all i ps past) ∙ no_parameters)) ∙ so_far
