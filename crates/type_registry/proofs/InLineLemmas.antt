-- What is sought over bases that lie in a line.
use Rattle.std.proofs.Common.{◌≡◌, ℕ, zero, suc, ◌+◌, ◌≤◌, List, [], ◌∷◌, ◌++◌, length, slice_get, None, Some, refl, sym, ap, subst, ◌∙◌, arith, append-nil}
use Rattle.std.proofs.lemmas.List.{length-append}
use Rattle.std.proofs.lemmas.List.Concat.{flat_map-append}
use Rattle.uno_model.specs.BuiltIn.{HasBuiltIn, x_interface, x_interface_name}
use Rattle.uno_model.specs.Entities.{Entity}
use Rattle.uno_model.specs.Functions.{Function, declared_by, functions_of, is_met, met_within, root_functions, visit_all}
use Rattle.uno_model.specs.Registry.{find_entity, stands_on, stands_on_body}
use Rattle.type_registry.specs.Own.{Seeks, SeeksOver, functions_by}
use Rattle.type_registry.specs.declared.own.Sought.{Sought}
use Rattle.type_registry.specs.declared.own.Sought.TheVariants as sought
use Rattle.type_registry.proofs.SeekLemmas.{behind, in_front}

-- an interface without bases has its own functions, and one with a single base those of the base in front of them
none_below : (reg : List Entity) (name : List ℕ) (levels : ℕ) → stands_on reg name ≡ []
    → functions_by reg (met_within (suc levels) reg [] name) ≡ declared_by name (find_entity name reg)
unfolding met_within visit_all is_met
none_below reg name levels none =
    ap (λ names. functions_by reg (visit_all (met_within levels reg) [] names ++ name ∷ [])) none ∙ append-nil (declared_by name (find_entity name reg))

one_below : (reg : List Entity) (name base : List ℕ) (levels : ℕ) → stands_on reg name ≡ base ∷ []
    → functions_by reg (met_within (suc levels) reg [] name) ≡ functions_by reg (met_within levels reg [] base) ++ declared_by name (find_entity name reg)
unfolding met_within visit_all is_met
one_below reg name base levels one =
    let own = declared_by name (find_entity name reg) in
    let below = met_within levels reg [] base in
    ap (λ names. functions_by reg (visit_all (met_within levels reg) [] names ++ name ∷ [])) one
    ∙ flat_map-append (λ (o : List ℕ). declared_by o (find_entity o reg)) below (name ∷ []) ∙ ap (λ l. functions_by reg below ++ l) (append-nil own)

-- what is sought behind others
sought_behind : (fs gs : List Function) (number left : ℕ) (s : Sought) → number ≡ length fs + left → Seeks gs left s → Seeks (fs ++ gs) number s
sought_behind fs gs number left (sought.Found f) past at = ap (slice_get (fs ++ gs)) past ∙ behind fs gs left ∙ at
sought_behind fs gs number left (sought.Past more) past further = omega (arith, past, further, length-append fs gs)

-- the line ends at an interface without bases, or at a name that is not there
pub ends_at : (reg : List Entity) (name : List ℕ) (levels number : ℕ) (s : Sought) → 1 ≤ levels → stands_on reg name ≡ []
    → Seeks (declared_by name (find_entity name reg)) number s → SeeksOver reg name levels number s
ends_at reg name levels number s some none sought zero within = absurd (omega (arith, some, within))
ends_at reg name levels number s some none sought (suc more) within = subst (λ fs. Seeks fs number s) (sym (none_below reg name more none)) sought

pub ends_nowhere : (reg : List Entity) (name : List ℕ) (levels number : ℕ) → 1 ≤ levels → find_entity name reg ≡ None → SeeksOver reg name levels number (sought.Past number)
ends_nowhere reg name levels number some none =
    ends_at reg name levels number (sought.Past number) some (ap stands_on_body none)
    (subst (λ e. Seeks (declared_by name e) number (sought.Past number)) (sym none) (omega arith))

-- the line ends at the root interface, whose functions all lie before the number
pub ends_past_root : (reg : List Entity) (name : List ℕ) (levels number left : ℕ) → HasBuiltIn reg → 1 ≤ levels → name ≡ x_interface_name
    → number ≡ length root_functions + left → SeeksOver reg name levels number (sought.Past left)
ends_past_root reg name levels number left built_in some root past =
    let found : find_entity name reg ≡ Some x_interface = ap (λ n. find_entity n reg) root ∙ built_in.found x_interface (4, omega arith, refl) in
    ends_at reg name levels number (sought.Past left) some (ap stands_on_body found)
    (subst (λ e. Seeks (declared_by name e) number (sought.Past left)) (sym found) past)

-- what is found below an interface with a single base, and what is sought behind that
pub found_below : (reg : List Entity) (name base : List ℕ) (levels less number : ℕ) (f : _) → levels ≡ less + 1 → stands_on reg name ≡ base ∷ []
    → SeeksOver reg base less number (sought.Found f) → SeeksOver reg name levels number (sought.Found f)
found_below reg name base levels less number f is one below zero within = absurd (omega (arith, is, within))
found_below reg name base levels less number f is one below (suc more) within =
    subst (λ fs. Seeks fs number (sought.Found f)) (sym (one_below reg name base more one))
    (in_front (functions_by reg (met_within more reg [] base)) (declared_by name (find_entity name reg)) number _ (below more (omega (arith, is, within))))

pub found_above : (reg : List Entity) (name base : List ℕ) (levels less number left : ℕ) (s : Sought) → levels ≡ less + 1 → stands_on reg name ≡ base ∷ []
    → SeeksOver reg base less number (sought.Past left) → Seeks (declared_by name (find_entity name reg)) left s → SeeksOver reg name levels number s
found_above reg name base levels less number left s is one below own zero within = absurd (omega (arith, is, within))
found_above reg name base levels less number left s is one below own (suc more) within =
    subst (λ fs. Seeks fs number s) (sym (one_below reg name base more one))
    (sought_behind (functions_by reg (met_within more reg [] base)) (declared_by name (find_entity name reg)) number left s (below more (omega (arith, is, within))) own)

-- an interface on the root interface alone: past the functions of the root come its own
some_entities : (reg : List Entity) → HasBuiltIn reg → 1 ≤ length reg
unfolding find_entity
some_entities [] built_in = let bad : None ≡ Some x_interface = built_in.found x_interface (4, omega arith, refl) in cc
some_entities (e ∷ es) built_in = omega arith

pub over_root_alone : (reg : List Entity) (name : List ℕ) (number left : ℕ) (s : Sought) → HasBuiltIn reg → stands_on reg name ≡ x_interface_name ∷ []
    → number ≡ length root_functions + left → Seeks (declared_by name (find_entity name reg)) left s → Seeks (functions_of reg name) number s
over_root_alone reg name number left s built_in one past own =
    found_above reg name x_interface_name 2 1 number left s refl one (ends_past_root reg x_interface_name 1 number left built_in (omega arith) refl past) own
    (suc (length reg)) (omega (arith, some_entities reg built_in))

-- an interface that is not there has no functions
pub none_of_none : (reg : List Entity) (name : List ℕ) (number : ℕ) → find_entity name reg ≡ None → None ≡ slice_get (functions_of reg name) number
none_of_none reg name number none =
    sym (ap (λ fs. slice_get fs number) (none_below reg name (length reg) (ap stands_on_body none) ∙ ap (declared_by name) none))
