-- What a walk in the frames of the stack finds, task by task.
use Rattle.std.proofs.Common.{◌≡◌, ℕ, suc, ◌+◌, List, [], ◌∷◌, ◌++◌, length, false, Option, None, Some, refl, sym, ap, subst, ◌∙◌, arith, append_assoc, append-nil}
use Rattle.std.specs.Prelude.{Result, IfOk, option_map, slice_get}
use Rattle.std.proofs.lemmas.List.{length-append}
use Rattle.std.proofs.lemmas.List.Concat.{flat_map-append}
use Rattle.uno_model.specs.Entities.{Entity}
use Rattle.uno_model.specs.Functions.{Function, declared_by, functions_of, is_met, met_within}
use Rattle.uno_model.specs.Registry.{find_entity, stands_on}
use Rattle.type_registry.specs.Frames.{Walked}
use Rattle.type_registry.specs.Functions.{lent_function}
use Rattle.type_registry.specs.Own.{functions_by}
use Rattle.type_registry.specs.Tasks.{Doing, visit, leave, visits, done}
use Rattle.type_registry.specs.declared.function.FunctionRef.{FunctionRef}
use Rattle.type_registry.specs.declared.numbered.TooFar.{TooFar}
use Rattle.type_registry.proofs.SeekLemmas.{behind, in_front, past_all}
use Rattle.type_registry.proofs.TaskLemmas.{done_last, done_extends, bases_first, visits_both}

-- tasks that come to the same find the same
same_done : (reg : List Entity) (us ts : List Doing) (met : List (List ℕ)) (n : ℕ) (r : Result (Option FunctionRef) TooFar) → done reg us met ≡ done reg ts met
    → Walked reg ts met n r → Walked reg us met n r
same_done reg us ts met n r same walked =
    subst (λ l. IfOk r (λ found. option_map lent_function found ≡ slice_get (functions_by reg l) (length (functions_by reg met) + n))) (sym same) walked

pub same_tasks : (reg : List Entity) (us ts : List Doing) (met : List (List ℕ)) (n : ℕ) (r : Result (Option FunctionRef) TooFar) → us ≡ ts
    → Walked reg ts met n r → Walked reg us met n r
same_tasks reg us ts met n r same walked = same_done reg us ts met n r (ap (λ l. done reg l met) same) walked

-- nothing is left to do
pub nothing_left : (reg : List Entity) (ts : List Doing) (met : List (List ℕ)) (n : ℕ) → ts ≡ []
    → None ≡ slice_get (functions_by reg (done reg ts met)) (length (functions_by reg met) + n)
unfolding done
nothing_left reg ts met n none =
    sym (ap (λ l. slice_get (functions_by reg (done reg l met)) (length (functions_by reg met) + n)) none ∙ past_all (functions_by reg met) n)

-- a visit that adds nothing
pub visits_nothing : (reg : List Entity) (ts : List Doing) (name : List ℕ) (levels : ℕ) (met : List (List ℕ)) (n : ℕ) (r : Result (Option FunctionRef) TooFar)
    → met_within levels reg met name ≡ met → Walked reg ts met n r → Walked reg (ts ++ visit name levels ∷ []) met n r
visits_nothing reg ts name levels met n r adds walked =
    same_done reg (ts ++ visit name levels ∷ []) ts met n r (done_last reg ts (visit name levels) met ∙ ap (done reg ts) adds) walked

-- a visit that brings in the bases, and then the interface itself
pub visits_bases : (reg : List Entity) (ts : List Doing) (name : List ℕ) (levels less : ℕ) (bases met : List (List ℕ)) (n : ℕ) (r : Result (Option FunctionRef) TooFar)
    → levels ≡ less + 1 → is_met name met ≡ false → bases ≡ stands_on reg name
    → Walked reg ((ts ++ leave name ∷ []) ++ visits less bases) met n r → Walked reg (ts ++ visit name levels ∷ []) met n r
visits_bases reg ts name levels less bases met n r is new are walked =
    let us = ts ++ leave name ∷ [] in
    let all = bases_first reg ts us (us ++ visits less bases) levels less met name (omega (arith, is)) new refl (ap (λ bs. us ++ visits less bs) are) in
    same_done reg (ts ++ visit name levels ∷ []) (us ++ visits less bases) met n r (done_last reg ts (visit name levels) met ∙ sym all) walked

-- one base more on top
pub one_visit : (reg : List Entity) (ts : List Doing) (levels : ℕ) (names : List (List ℕ)) (name : List ℕ) (all met : List (List ℕ)) (n : ℕ) (r : Result (Option FunctionRef) TooFar)
    → all ≡ names ++ name ∷ [] → Walked reg ((ts ++ visit name levels ∷ []) ++ visits levels names) met n r → Walked reg (ts ++ visits levels all) met n r
one_visit reg ts levels names name all met n r is walked =
    same_tasks reg (ts ++ visits levels all) ((ts ++ visit name levels ∷ []) ++ visits levels names) met n r
    (ap (λ ns. ts ++ visits levels ns) is ∙ ap (λ vs. ts ++ vs) (visits_both levels names (name ∷ [])) ∙ sym (append_assoc ts (visit name levels ∷ []) (visits levels names))) walked

pub no_visit : (reg : List Entity) (ts : List Doing) (levels : ℕ) (all met : List (List ℕ)) (n : ℕ) (r : Result (Option FunctionRef) TooFar)
    → all ≡ [] → Walked reg ts met n r → Walked reg (ts ++ visits levels all) met n r
no_visit reg ts levels all met n r none walked =
    same_tasks reg (ts ++ visits levels all) ts met n r (ap (λ ns. ts ++ visits levels ns) none ∙ append-nil ts) walked

-- an interface that is left has the function at the number
pub found_here : (reg : List Entity) (ts : List Doing) (name : List ℕ) (met : List (List ℕ)) (n : ℕ) (f : Function)
    → slice_get (declared_by name (find_entity name reg)) n ≡ Some f
    → Some f ≡ slice_get (functions_by reg (done reg (ts ++ leave name ∷ []) met)) (length (functions_by reg met) + n)
found_here reg ts name met n f at =
    let more = done_extends reg ts (met ++ name ∷ []) in
    let before = functions_by reg met in
    let own = declared_by name (find_entity name reg) in
    let after = functions_by reg more.0 in
    let last : functions_by reg (met ++ name ∷ []) ≡ before ++ own =
    flat_map-append (λ (o : List ℕ). declared_by o (find_entity o reg)) met (name ∷ []) ∙ ap (λ l. before ++ l) (append-nil own) in
    let whole : functions_by reg (done reg (ts ++ leave name ∷ []) met) ≡ before ++ (own ++ after) =
    ap (functions_by reg) (done_last reg ts (leave name) met ∙ more.1) ∙ flat_map-append (λ (o : List ℕ). declared_by o (find_entity o reg)) (met ++ name ∷ []) more.0
    ∙ ap (λ l. l ++ after) last ∙ append_assoc before own after in
    sym (ap (λ l. slice_get l (length before + n)) whole ∙ behind before (own ++ after) n ∙ in_front own after n f at)

-- or the number lies past it
pub found_further : (reg : List Entity) (ts : List Doing) (name : List ℕ) (met : List (List ℕ)) (n left : ℕ) (r : Result (Option FunctionRef) TooFar)
    → n ≡ length (declared_by name (find_entity name reg)) + left → Walked reg ts (met ++ name ∷ []) left r → Walked reg (ts ++ leave name ∷ []) met n r
found_further reg ts name met n left r past walked =
    subst (λ l. IfOk r (λ found. option_map lent_function found ≡ slice_get (functions_by reg l) (length before + n))) (sym (done_last reg ts (leave name) met))
    (subst (λ k. IfOk r (λ found. option_map lent_function found ≡ slice_get (functions_by reg (done reg ts (met ++ name ∷ []))) k)) here walked)
  where
    before : List Function
    before = functions_by reg met

    own : List Function
    own = declared_by name (find_entity name reg)

    last : functions_by reg (met ++ name ∷ []) ≡ before ++ own
    last = flat_map-append (λ (o : List ℕ). declared_by o (find_entity o reg)) met (name ∷ []) ∙ ap (λ l. before ++ l) (append-nil own)

    here : length (functions_by reg (met ++ name ∷ [])) + left ≡ length before + n
    here = omega (arith, past, ap length last, length-append before own)

-- the one task at first
pub from_start : (reg : List Entity) (name : List ℕ) (count levels : ℕ) (n : ℕ) (r : Result (Option FunctionRef) TooFar) → count ≡ length reg → levels ≡ count + 1
    → Walked reg (visit name levels ∷ []) [] n r → IfOk r (λ found. option_map lent_function found ≡ slice_get (functions_of reg name) n)
unfolding done
from_start reg name count levels n r is more walked =
    let same : levels ≡ suc (length reg) = omega (arith, is, more) in
    let none : 0 + n ≡ n = omega arith in
    subst (λ k. IfOk r (λ found. option_map lent_function found ≡ slice_get (functions_of reg name) k)) none
    (subst (λ l. IfOk r (λ found. option_map lent_function found ≡ slice_get (functions_by reg (met_within l reg [] name)) (0 + n))) same walked)
