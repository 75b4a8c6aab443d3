-- What the service manager creates refers to what its arguments refer to, or is a singleton of the plan.
use Rattle.std.proofs.Common.{◌≡◌, ℕ, suc, ◌+◌, ◌≤◌, ◌<◌, Bool, true, false, not, ◌||◌, if◌then◌else◌, cond, List, [], ◌∷◌, length, map, find, Option, None, Some, Result, Ok, Err, slice_get, refl, sym, arith, le_of_eq, length-append}
use Rattle.std.proofs.lemmas.List.{length-map}
use Rattle.std.specs.List.{list_any, position_or_len}
use Rattle.std.specs.Option.{option_or}
use Rattle.std.specs.Str.{bytes_eq}
use Rattle.uno_model.specs.Entities.{Entity, Field, Constructor}
use Rattle.uno_model.specs.Fits.{does_fit}
use Rattle.uno_model.specs.Kinds.{Kind}
use Rattle.uno_model.specs.Kinds as kd
use Rattle.uno_model.specs.Registry.{find_entity}
use Rattle.uno_model.specs.Sound.{is_some_list}
use Rattle.uno_model.specs.Values.{Ref, own, Plain, Plains, refs, refs_in, object_in, plains}
use Rattle.uno_model.specs.Values as v
use Rattle.uno_model.proofs.DefaultLaws.{default_holds_none}
use Rattle.plan_model.specs.Frames.{Variable}
use Rattle.plan_model.specs.Holdings.{refs_under}
use Rattle.plan_model.specs.Plans.{Plan, Offer, manager, has_offers, first_objects, singleton_object}
use Rattle.plan_model.specs.Services.{Created, fresh, singleton, content_of, filled, rest_filled, all_filled, first_filled, field_value, fields_with, fields_of_behaviour, constructors_of, of_service, of_singleton, has_name, created}
use Rattle.plan_model.specs.declared.refusal.Refusal.{Refusal}
use Rattle.bridge_model.specs.References.{refs_of_values}
use Rattle.bridge_laws.specs.Counting.{total}
use Rattle.bridge_laws.proofs.JobLaws.{listed_count}
use Rattle.bridge_laws.proofs.Sums.{total_flat_map, found_at_most}
use Rattle.bridge_laws.proofs.VariableLaws.{under_more, under_none, values_more, values_none}

-- ---- references

abbrev pub variable_counts : (Ref → ℕ) → Option Variable → ℕ
variable_counts f None = 0
variable_counts f (Some x) = total f (refs x.value)

abbrev pub variables_count : (Ref → ℕ) → Option (List Variable) → ℕ
variables_count f None = 0
variables_count f (Some xs) = total f (refs_under xs)

abbrev pub created_counts : (Ref → ℕ) → Result Created Refusal → ℕ
created_counts f (Ok (fresh behaviour fields)) = total f (refs_of_values fields)
created_counts f (Ok (singleton place)) = 0
created_counts f (Err why) = 0

content_counts : (f : Ref → ℕ) (x : Plain) → total f (refs (content_of x)) ≤ total f (refs x)
unfolding refs
content_counts f (v.any k x) = omega arith
content_counts f x = omega arith

fit_by : (f : Ref → ℕ) (b : Bool) (name : List ℕ) (x arg : Plain) → total f (refs x) ≤ total f (refs arg)
    → variable_counts f (if b then Some (record { name = name; value = x }) else None) ≤ total f (refs arg)
fit_by f true name x arg most = most
fit_by f false name x arg most = omega arith

filled_by : (f : Ref → ℕ) (reg : List Entity) (p : Field) (arg : Plain) (k : Kind) → p.kind ≡ k → variable_counts f (filled reg p arg) ≤ total f (refs arg)
filled_by f reg p arg kd.any is = rw is (omega arith)
filled_by f reg p arg k is = rw is (fit_by f (does_fit reg (content_of arg) _) p.name (content_of arg) arg (content_counts f arg))

rest_counts : (f : Ref → ℕ) (rest : Option (List ℕ)) (args : List Plain) → variables_count f (rest_filled rest args) ≤ total f (refs_of_values args)
rest_counts f None [] = let left = under_none f in omega arith
rest_counts f None (arg ∷ args) = omega arith
rest_counts f (Some name) args =
    let one = under_more f (record { name = name; value = v.list kd.any (plains args) }) [] in let none = under_none f in
    let listed = listed_count f kd.any args in omega arith

all_by : (f : Ref → ℕ) (reg : List Entity) (p : Field) (ps : List Field) (rest : Option (List ℕ)) (arg : Plain) (args : List Plain) (x : Option Variable) (xs : Option (List Variable))
    → filled reg p arg ≡ x → all_filled reg ps rest args ≡ xs → variable_counts f x ≤ total f (refs arg) → variables_count f xs ≤ total f (refs_of_values args)
    → variables_count f (all_filled reg (p ∷ ps) rest (arg ∷ args)) ≤ total f (refs_of_values (arg ∷ args))
unfolding all_filled
all_by f reg p ps rest arg args None xs is are here behind = rw is (omega arith)
all_by f reg p ps rest arg args (Some x) None is are here behind = rw (is, are) (omega arith)
all_by f reg p ps rest arg args (Some x) (Some xs) is are here behind =
    rw (is, are) (let left = under_more f x xs in let right = values_more f arg args in omega arith)

all_count : (f : Ref → ℕ) (reg : List Entity) (ps : List Field) (rest : Option (List ℕ)) (args : List Plain)
    → variables_count f (all_filled reg ps rest args) ≤ total f (refs_of_values args)
unfolding all_filled
all_count f reg [] rest args = rest_counts f rest args
all_count f reg (p ∷ ps) rest [] = omega arith
all_count f reg (p ∷ ps) rest (arg ∷ args) =
    all_by f reg p ps rest arg args (filled reg p arg) (all_filled reg ps rest args) refl refl (filled_by f reg p arg p.kind refl) (all_count f reg ps rest args)

or_counts : (f : Ref → ℕ) (a b : Option (List Variable)) (n : ℕ) → variables_count f a ≤ n → variables_count f b ≤ n → variables_count f (option_or a b) ≤ n
or_counts f None b n here rest = rest
or_counts f (Some xs) b n here rest = here

first_counts : (f : Ref → ℕ) (reg : List Entity) (cs : List Constructor) (args : List Plain) → variables_count f (first_filled reg cs args) ≤ total f (refs_of_values args)
unfolding first_filled
first_counts f reg [] args = omega arith
first_counts f reg (c ∷ cs) args =
    or_counts f (all_filled reg c.params c.rest args) (first_filled reg cs args) (total f (refs_of_values args)) (all_count f reg c.params c.rest args) (first_counts f reg cs args)

field_by : (f : Ref → ℕ) (reg : List Entity) (xs : List Variable) (fd : Field) (o : Option Variable) → find (λ x. bytes_eq fd.name x.name) xs ≡ o → total f (refs_under xs) ≡ 0
    → total f (refs (field_value reg xs fd)) ≡ 0
unfolding refs_under total
field_by f reg xs fd None is fine = rw (is, default_holds_none reg fd.kind) refl
field_by f reg xs fd (Some x) is fine =
    let all = total_flat_map f (λ x. refs x.value) xs in
    let one = found_at_most (λ x. total f (refs x.value)) (λ x. bytes_eq fd.name x.name) x xs is in rw is (omega arith)

fields_count : (f : Ref → ℕ) (reg : List Entity) (xs : List Variable) (fs : List Field) → total f (refs_under xs) ≡ 0 → total f (refs_of_values (fields_with reg xs fs)) ≡ 0
unfolding fields_with
fields_count f reg xs [] fine = values_none f
fields_count f reg xs (fd ∷ fs) fine =
    let parts = values_more f (field_value reg xs fd) (fields_with reg xs fs) in
    let here = field_by f reg xs fd (find (λ x. bytes_eq fd.name x.name) xs) refl fine in
    let rest = fields_count f reg xs fs fine in omega arith

service_by : (f : Ref → ℕ) (reg : List Entity) (plan : Plan) (o : Offer) (args : List Plain) (xs : Option (List Variable))
    → first_filled reg (constructors_of (find_entity o.name reg)) args ≡ xs → variables_count f xs ≡ 0 → created_counts f (of_service reg plan o args) ≡ 0
service_by f reg plan o args None is fine = rw is refl
service_by f reg plan o args (Some xs) is fine = rw is (fields_count f reg xs (fields_of_behaviour (slice_get plan.behaviours o.behaviour)) fine)

singleton_counts : (f : Ref → ℕ) (place : ℕ) (args : List Plain) → created_counts f (of_singleton place args) ≡ 0
singleton_counts f place [] = refl
singleton_counts f place (arg ∷ args) = refl

among_by : (f : Ref → ℕ) (b : Bool) (place : ℕ) (args : List Plain) (why : Refusal) → created_counts f (if b then of_singleton place args else Err why) ≡ 0
among_by f true place args why = singleton_counts f place args
among_by f false place args why = refl

created_by : (f : Ref → ℕ) (reg : List Entity) (plan : Plan) (name : List ℕ) (args : List Plain) (o : Option Offer) → find (has_name name) plan.services ≡ o
    → total f (refs_of_values args) ≡ 0 → created_counts f (created plan reg name args) ≡ 0
unfolding created
created_by f reg plan name args None is fine = rw is (among_by f (list_any (has_name name) plan.singletons) (position_or_len (has_name name) plan.singletons) args _)
created_by f reg plan name args (Some o) is fine =
    let most = first_counts f reg (constructors_of (find_entity o.name reg)) args in
    rw is (service_by f reg plan o args (first_filled reg (constructors_of (find_entity o.name reg)) args) refl (omega arith))

-- a new object refers to what the arguments refer to
pub created_refs : (f : Ref → ℕ) (reg : List Entity) (plan : Plan) (name : List ℕ) (args : List Plain) → total f (refs_of_values args) ≡ 0
    → created_counts f (created plan reg name args) ≡ 0
created_refs f reg plan name args fine = created_by f reg plan name args (find (has_name name) plan.services) refl fine

-- ---- singletons

within_step : (b rest : Bool) (place most : ℕ) → (rest ≡ true → place < most) → (b || rest) ≡ true → cond (not b) (1 + place) 0 < suc most
within_step true rest place most more is = omega arith
within_step false rest place most more is = let behind = more is in omega arith

prefix_within : {X : Type 0} (test : X → Bool) (xs : List X) → list_any test xs ≡ true → position_or_len test xs < length xs
prefix_within test [] is = absurd (cc)
prefix_within test (x ∷ xs) is = within_step (test x) (list_any test xs) (position_or_len test xs) (length xs) (prefix_within test xs) is

abbrev pub IsPlaced : Plan → Result Created Refusal → Type 0
IsPlaced p (Ok (fresh behaviour fields)) = Unit {0}
IsPlaced p (Ok (singleton place)) = place < length p.singletons
IsPlaced p (Err why) = Unit {0}

service_placed : (reg : List Entity) (plan : Plan) (o : Offer) (args : List Plain) (xs : Option (List Variable))
    → first_filled reg (constructors_of (find_entity o.name reg)) args ≡ xs → IsPlaced plan (of_service reg plan o args)
service_placed reg plan o args None is = rw is tt
service_placed reg plan o args (Some xs) is = rw is tt

singleton_placed : (plan : Plan) (place : ℕ) (args : List Plain) → place < length plan.singletons → IsPlaced plan (of_singleton place args)
singleton_placed plan place [] within = within
singleton_placed plan place (arg ∷ args) within = tt

among_placed : (plan : Plan) (b : Bool) (place : ℕ) (args : List Plain) (why : Refusal) → (b ≡ true → place < length plan.singletons)
    → IsPlaced plan (if b then of_singleton place args else Err why)
among_placed plan true place args why within = singleton_placed plan place args (within refl)
among_placed plan false place args why within = tt

placed_by : (reg : List Entity) (plan : Plan) (name : List ℕ) (args : List Plain) (o : Option Offer) → find (has_name name) plan.services ≡ o
    → IsPlaced plan (created plan reg name args)
unfolding created
placed_by reg plan name args None is =
    rw is (among_placed plan (list_any (has_name name) plan.singletons) (position_or_len (has_name name) plan.singletons) args _ (prefix_within (has_name name) plan.singletons))
placed_by reg plan name args (Some o) is = rw is (service_placed reg plan o args (first_filled reg (constructors_of (find_entity o.name reg)) args) refl)

-- a singleton that is created is one of the plan
pub created_placed : (reg : List Entity) (plan : Plan) (name : List ℕ) (args : List Plain) → IsPlaced plan (created plan reg name args)
created_placed reg plan name args = placed_by reg plan name args (find (has_name name) plan.services) refl

offers_step : (p : Plan) (os : List Offer) (b : Bool) (rest : List ℕ) → length os ≤ length rest → b ≡ true → length os + 1 ≤ length (if b then manager ∷ rest else [])
offers_step p os true rest most is = omega arith
offers_step p os false rest most is = absurd (cc)

has_singleton : (a : Bool) (os : List Offer) (place : ℕ) → place < length os → (a || is_some_list os) ≡ true
has_singleton true os place within = refl
has_singleton false [] place within = absurd (omega arith)
has_singleton false (o ∷ os) place within = refl

-- its object is one of those that are there from the beginning
pub singleton_there : (p : Plan) (place : ℕ) → place < length p.singletons → singleton_object p place ≤ length (first_objects p)
unfolding singleton_object first_objects
singleton_there p place within =
    let offers = offers_step p p.singletons (has_offers p) (map (λ o. o.behaviour) p.singletons) (le_of_eq (sym (length-map p.singletons (λ o. o.behaviour))))
    (has_singleton (is_some_list p.services) p.singletons place within) in
    let all = length-append (map (λ e. e.behaviour) p.exports) (if has_offers p then manager ∷ map (λ o. o.behaviour) p.singletons else []) in
    let exports = length-map p.exports (λ e. e.behaviour) in omega arith
