-- A registry that keeps the rules is sound.
use Rattle.std.proofs.Common.{◌≡◌, ℕ, ◌≤◌, Bool, true, false, ◌&&◌, List, [], ◌∷◌, length, Option, None, Some, refl, sym, ap, ◌∙◌, subst, arith}
use Rattle.std.specs.List.{Contains}
use Rattle.std.proofs.lemmas.Bool.{and_parts}
use Rattle.std.proofs.lemmas.Slice.Eq.{bytes_eq-Decides}
use Rattle.std.specs.Prelude.{nat_le}
use Rattle.std.specs.Str.{bytes_eq}
use Rattle.uno_model.proofs.CircleLaws.{all_from}
use Rattle.uno_model.proofs.PlaceLaws.{contains_head, contains_behind}
use Rattle.uno_model.specs.Circles.{Leads, step, on, HasNoCircle}
use Rattle.uno_model.specs.Entities.{Entity, Body, interface, struct, exception, enum, constants, typedef, new_service, old_service, new_singleton, old_singleton}
use Rattle.uno_model.specs.Functions.{functions_of}
use Rattle.uno_model.specs.Registry.{find_entity, leads_to, leads_to_body, led_to}
use Rattle.uno_model.specs.Sound.{IsSound, items_differ, bases_known, raises_known, services_known, types_known, types_allowed, is_complete, has_member, is_within_limits}
use Rattle.registry_text_model.specs.BasesAreOfTheirKind.{bases_are_of_their_kind}
use Rattle.registry_text_model.specs.NamesDiffer.{names_differ, own_names_differ, all_names_differ}
use Rattle.registry_text_model.specs.NoCircles.{leads_on_to, leads_on, led_on}
use Rattle.registry_text_model.specs.RaisedExceptions.{raises_exceptions, setters_raise_rightly}
use Rattle.registry_text_model.specs.ServiceParts.{services_have_parts, parts_of_service_known}
use Rattle.registry_text_model.specs.SingletonTargets.{singletons_have_targets, target_known}
use Rattle.registry_text_model.specs.TypesAtTheirPlaces.{types_stand_at_their_places}
use Rattle.registry_text_model.specs.WholeWithinLimits.{is_whole_within_limits, has_few_functions}
use Rattle.registry_text_model.specs.Rules as rule
use Rattle.registry_text_model.specs.Rules.{KeepsTheRules}

-- ---- what each rule says of soundness

items_of_body : (name : List ℕ) (published : Bool) (body : Body) → own_names_differ body ≡ true → items_differ (record { name = name; published = published; body = body }) ≡ true
items_of_body name published (interface bases members) differ = refl
items_of_body name published (struct base members) differ = refl
items_of_body name published (exception base members) differ = refl
items_of_body name published (enum items) differ = differ
items_of_body name published (constants cs) differ = refl
items_of_body name published (typedef k) differ = refl
items_of_body name published (new_service base constructors) differ = refl
items_of_body name published (old_service parts) differ = refl
items_of_body name published (new_singleton base) differ = refl
items_of_body name published (old_singleton service) differ = refl

items_of_differing : (reg : List Entity) (e : Entity) → names_differ reg e ≡ true → items_differ e ≡ true
unfolding names_differ
items_of_differing reg e differ = items_of_body e.name e.published e.body (and_parts (own_names_differ e.body) (all_names_differ reg e.name e.body) differ).0

bases_of_rule : (reg : List Entity) (e : Entity) → bases_are_of_their_kind reg e ≡ true → bases_known reg e.body ≡ true
unfolding bases_are_of_their_kind
bases_of_rule reg e keeps = keeps

raises_of_rule : (reg : List Entity) (e : Entity) → raises_exceptions reg e ≡ true → raises_known reg e.body ≡ true
unfolding raises_exceptions
raises_of_rule reg e keeps = (and_parts (raises_known reg e.body) (setters_raise_rightly e.body) keeps).0

services_of_bodies : (reg : List Entity) (body : Body) → parts_of_service_known reg body ≡ true → target_known reg body ≡ true → services_known reg body ≡ true
services_of_bodies reg (new_service base constructors) parts target = rw parts refl
services_of_bodies reg (old_service ps) parts target = parts
services_of_bodies reg (new_singleton base) parts target = rw target refl
services_of_bodies reg (old_singleton service) parts target = rw target refl
services_of_bodies reg _ parts target = refl

services_of_rules : (reg : List Entity) (e : Entity) → services_have_parts reg e ≡ true → singletons_have_targets reg e ≡ true → services_known reg e.body ≡ true
unfolding services_have_parts singletons_have_targets
services_of_rules reg e parts target = services_of_bodies reg e.body parts target

types_of_rule : (reg : List Entity) (e : Entity) → types_stand_at_their_places reg e ≡ true → (types_known reg e.body ≡ true) × (types_allowed e.body ≡ true)
unfolding types_stand_at_their_places
types_of_rule reg e keeps = and_parts (types_known reg e.body) (types_allowed e.body) keeps

whole_of_rule : (reg : List Entity) (e : Entity) → is_whole_within_limits reg e ≡ true
    → ((is_complete e ≡ true) × (has_member reg e ≡ true)) × ((is_within_limits e ≡ true) × (has_few_functions reg e ≡ true))
unfolding is_whole_within_limits
whole_of_rule reg e keeps =
    let both = and_parts (is_complete e && has_member reg e) (is_within_limits e && has_few_functions reg e) keeps in
    (and_parts (is_complete e) (has_member reg e) both.0, and_parts (is_within_limits e) (has_few_functions reg e) both.1)

-- ---- circles

body_leads : (reg : List Entity) (body : Body) (b : List ℕ) → Contains (led_to body) b → Contains (led_on reg body) b
body_leads reg (typedef k) b there = absurd (omega (arith, there.1))
body_leads reg (interface bases members) b there = there
body_leads reg (struct base members) b there = there
body_leads reg (exception base members) b there = there
body_leads reg (enum items) b there = there
body_leads reg (constants cs) b there = there
body_leads reg (new_service base constructors) b there = there
body_leads reg (old_service parts) b there = there
body_leads reg (new_singleton base) b there = there
body_leads reg (old_singleton service) b there = there

more_leads : (reg : List Entity) (a b : List ℕ) → Contains (leads_to reg a) b → Contains (leads_on_to reg a) b
unfolding leads_on_to
more_leads reg a b there = by_find (find_entity a reg) there
  where
    by_find : (o : Option Entity) → Contains (leads_to_body o) b → Contains (leads_on reg o) b
    by_find None has = has
    by_find (Some e) has = body_leads reg e.body b has

also_leads : (reg : List Entity) (a b : List ℕ) → Leads (leads_to reg) a b → Leads (leads_on_to reg) a b
also_leads reg a b (step a' b' there) = step a b (more_leads reg a b there)
also_leads reg a b (on a' c b' there rest) = on a c b (more_leads reg a c there) (also_leads reg c b rest)

-- what leads anywhere is an entity
first_of : (reg : List Entity) (a b : List ℕ) → Leads (leads_to reg) a b → (c : List ℕ) × Contains (leads_to reg a) c
first_of reg a b (step a' b' there) = (b, there)
first_of reg a b (on a' c b' there rest) = (c, there)

leads_from : (reg : List Entity) (a c : List ℕ) → Contains (leads_to reg a) c → (e : Entity) × (find_entity a reg ≡ Some e)
leads_from reg a c there = by_find (find_entity a reg) there
  where
    by_find : (o : Option Entity) → Contains (leads_to_body o) c → (e : Entity) × (o ≡ Some e)
    by_find None (k, low, is) = let bad : ⊥ = omega arith in absurd bad
    by_find (Some e) there = (e, refl)

found_there : (name : List ℕ) (reg : List Entity) (e : Entity) → find_entity name reg ≡ Some e → Contains reg e × (e.name ≡ name)
unfolding find_entity
found_there name [] e found = let bad : None ≡ Some e = found in cc
found_there name (x ∷ xs) e found = by_test (bytes_eq name x.name) refl (found_there name xs e)
  where
    by_test : (b : Bool) → bytes_eq name x.name ≡ b → (find_entity name xs ≡ Some e → Contains xs e × (e.name ≡ name)) → Contains (x ∷ xs) e × (e.name ≡ name)
    by_test true same behind =
        let here : Some x ≡ Some e = rw same at found in
        let is : x ≡ e = cc in
        let named : name ≡ x.name = (bytes_eq-Decides name x.name).0 same in
        (subst (λ d. Contains (x ∷ xs) d) is (contains_head x xs), ap (λ d. d.name) (sym is) ∙ sym named)
    by_test false other behind =
        let later = behind (rw other at found) in
        (contains_behind x xs e later.0, later.1)

pub no_circle : (reg : List Entity) → ((e : Entity) → Contains reg e → ¬ Leads (leads_on_to reg) e.name e.name) → HasNoCircle (leads_to reg)
no_circle reg none a way =
    let first = first_of reg a a way in
    let from = leads_from reg a first.0 first.1 in
    let there = found_there a reg from.0 from.1 in
    none from.0 there.0 (subst (λ n. Leads (leads_on_to reg) n n) (sym there.1) (also_leads reg a a way))

-- ---- the law

pub rules_make_sound : (reg : List Entity) → KeepsTheRules reg → IsSound reg
rules_make_sound reg keeps =
    let each = keeps.each in
    record {
      named = keeps.named;
      differ = all_from items_differ reg (λ e there. items_of_differing reg e (each rule.names e there));
      bases = all_from (λ e. bases_known reg e.body) reg (λ e there. bases_of_rule reg e (each rule.bases e there));
      raises = all_from (λ e. raises_known reg e.body) reg (λ e there. raises_of_rule reg e (each rule.raised e there));
      services = all_from (λ e. services_known reg e.body) reg (λ e there. services_of_rules reg e (each rule.services e there) (each rule.singletons e there));
      types = all_from (λ e. types_known reg e.body) reg (λ e there. (types_of_rule reg e (each rule.types e there)).0);
      allowed = all_from (λ e. types_allowed e.body) reg (λ e there. (types_of_rule reg e (each rule.types e there)).1);
      complete = all_from is_complete reg (λ e there. (whole_of_rule reg e (each rule.whole e there)).0.0);
      members = all_from (has_member reg) reg (λ e there. (whole_of_rule reg e (each rule.whole e there)).0.1);
      limits = all_from is_within_limits reg (λ e there. (whole_of_rule reg e (each rule.whole e there)).1.0);
      functions = λ e there. few_of (length (functions_of reg e.name)) (whole_of_rule reg e (each rule.whole e there)).1.1;
      no_circle = no_circle reg (each rule.circles);
    }
  where
    few_of : (n : ℕ) → nat_le n 65536 ≡ true → n ≤ 65536
    few_of n few = grind (arith, few)
