-- Which names a line declares, and whether each of them is new where the line stands.
use Rattle.std.specs.Prelude.{ℕ, Bool, true, not, ◌&&◌, ◌||◌, List, Option, None, Some}
use Rattle.std.specs.List.{list_any}
use Rattle.std.specs.Str.{bytes_eq}
use Rattle.uno_model.specs.Sound.{all_differ}
use Rattle.plan_model.specs.Contexts.{Context, open_behaviours, behaviours_before, known_fields}
use Rattle.plan_model.specs.Lines.{Declared, Line, behaviour, field, method, service, singleton, export, let_variable, call, query, make, ask, ask_instance}
use Rattle.plan_model.specs.Plans.{Plan, manager_name, has_offers, Offer}

abbrev pub has_export : Plan → List ℕ → Bool
has_export p name = list_any (λ e. bytes_eq name e.name) p.exports

abbrev pub has_offer : List Offer → List ℕ → Bool
has_offer os name = list_any (λ o. bytes_eq name o.name) os

-- a variable of that name is there
abbrev pub is_variable : Context → List ℕ → Bool
is_variable c name = list_any (λ x. bytes_eq name x.name) c.variables

abbrev pub is_behaviour : Context → List ℕ → Bool
is_behaviour c name = list_any (λ b. bytes_eq name b.name) (behaviours_before c)

abbrev pub is_field : Context → List ℕ → Bool
is_field c name = list_any (λ f. bytes_eq name f.name) (known_fields c)

-- the open behaviour has a method for the function
abbrev pub is_written : Context → List ℕ → List ℕ → Bool
is_written c face function = list_any (λ b. list_any (λ m. bytes_eq face m.face && bytes_eq function m.function) b.methods) (open_behaviours c.block)

abbrev pub is_result_new : Context → Option Declared → Bool
is_result_new c None = true
is_result_new c (Some d) = not (is_variable c d.name)

unfoldable pub names_are_new : Context → Line → Bool
names_are_new c (behaviour name faces) = not (is_behaviour c name) && all_differ faces
names_are_new c (field d) = not (is_field c d.name)
names_are_new c (method face function) = not (is_written c face function)
names_are_new c (service name b) = not (has_offer c.plan.services name || has_export c.plan manager_name)
names_are_new c (singleton name b) = not (has_offer c.plan.singletons name || has_export c.plan manager_name)
names_are_new c (export name b) = not (has_export c.plan name || (bytes_eq name manager_name && has_offers c.plan))
names_are_new c (let_variable d t) = not (is_variable c d.name)
names_are_new c (call to target function args) = is_result_new c to
names_are_new c (query d target) = not (is_variable c d.name)
names_are_new c (make d b) = not (is_variable c d.name)
names_are_new c (ask d name) = not (is_variable c d.name)
names_are_new c (ask_instance d) = not (is_variable c d.name)
names_are_new c l = true
