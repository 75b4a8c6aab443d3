-- What services and singletons of a plan give out is of behaviours that fit, fields of a behaviour have different names, and there are not too many of each: each kind of line keeps it.
use Rattle.std.proofs.Common.{◌≡◌, refl, sym, ap, ◌∙◌, subst, ℕ, ◌+◌, ◌≤◌, ◌<◌, Bool, true, false, not, ◌||◌, List, [], ◌∷◌, ◌++◌, length, Option, None, Some, slice_get, append-nil, arith}
use Rattle.std.specs.List.{AllByRecursion, list_all, list_any}
use Rattle.std.specs.Str.{bytes_eq}
use Rattle.std.proofs.lemmas.Bool.{and_parts}
use Rattle.std.proofs.lemmas.List.{length-append}
use Rattle.uno_model.specs.BuiltIn.{HasBuiltIn, x_interface_name}
use Rattle.uno_model.specs.Entities.{Entity, Body, new_service, new_singleton}
use Rattle.uno_model.specs.Functions.{Function}
use Rattle.uno_model.specs.Kinds.{Kind}
use Rattle.uno_model.specs.Registry.{find_entity}
use Rattle.uno_model.specs.Sound.{IsSound, is_there, is_interface, services_known}
use Rattle.uno_model.proofs.FunctionLaws.{rooted}
use Rattle.uno_model.proofs.UsedKindLaws.{found_entity}
use Rattle.plan_model.specs.Building.{with_statement, with_root_statement, opens_method, with_field, with_service, with_singleton, with_export, behind_statement, behind_root_statement}
use Rattle.plan_model.specs.Contexts.{Scoped, Block, at_top, in_behaviour, in_method, in_thread, Context, open_behaviours, behaviour_number, behaviour_named}
use Rattle.plan_model.specs.Fitting.{base_of, base_in, service_fits, serves_all}
use Rattle.plan_model.specs.KnownNames.{is_new_service, is_new_singleton}
use Rattle.plan_model.specs.Plans.{Plan, Behaviour, Method, Offer, supports}
use Rattle.plan_model.specs.Services.{constructors_of}
use Rattle.plan_model.specs.Statements.{Statement, RootStatement}
use Rattle.plan_model.specs.TypedStatements.{supports_named}
use Rattle.plan_typing.proofs.EffectRuntime.{interface_found}
use Rattle.plan_typing.proofs.PlanGrows.{Stays, statement_stays, root_statement_stays}
use Rattle.bridge_laws.proofs.FineLaws.{supports_base}
use Rattle.bridge_laws.proofs.TypedGiven.{OfferFits, ServiceFits, FieldsDiffer}
use Rattle.bridge_laws.proofs.PlanLists.{all_push, all_more, slice_before, at_number, field_more}

-- ---- plans

abbrev pub open_threads : Block → ℕ
open_threads (in_thread ss) = 1
open_threads bl = 0

-- what holds of a plan and the block that is open
pub record Offered (reg : List Entity) (p : Plan) (bl : Block) : Type 0 where
  pub services : AllByRecursion (ServiceFits reg p) p.services
  pub singletons : AllByRecursion (OfferFits reg p) p.singletons
  pub fields : AllByRecursion FieldsDiffer p.behaviours
  pub open_fields : AllByRecursion FieldsDiffer (open_behaviours bl)
  pub behaviours : length p.behaviours + length (open_behaviours bl) ≤ 256
  pub exports : length p.exports ≤ 256
  pub singles : length p.singletons ≤ 256
  pub threads : length p.threads + open_threads bl ≤ 32

-- each behaviour stays at its place
abbrev Stands : Plan → Plan → Type 0
Stands p q = (n : ℕ) (b : Behaviour) → slice_get p.behaviours n ≡ Some b → slice_get q.behaviours n ≡ Some b

module _ (reg : List Entity) (sound : IsSound reg) (built : HasBuiltIn reg) where
  services_on : (p q : Plan) → Stands p q → (os : List Offer) → AllByRecursion (ServiceFits reg p) os → AllByRecursion (ServiceFits reg q) os
  services_on p q stands os all =
      all_more (ServiceFits reg p) (ServiceFits reg q)
      (λ o is. record { behaviour = is.behaviour; found = stands o.behaviour is.behaviour is.found; root = is.root; serves = is.serves }) os all

  offers_on : (p q : Plan) → Stands p q → (os : List Offer) → AllByRecursion (OfferFits reg p) os → AllByRecursion (OfferFits reg q) os
  offers_on p q stands os all =
      all_more (OfferFits reg p) (OfferFits reg q) (λ o is. record { behaviour = is.behaviour; found = stands o.behaviour is.behaviour is.found; root = is.root }) os all

  -- ---- interfaces of services and singletons

  base_root : (faces : List (List ℕ)) (base : List ℕ) → is_there reg is_interface base ≡ true → supports reg faces base ≡ true → supports reg faces x_interface_name ≡ true
  base_root faces base there is = supports_base reg sound faces x_interface_name base (rooted reg base sound (interface_found reg built) there).1 is

  base_by : (e : Entity) (body : Body) → e.body ≡ body → (is_new_service body || is_new_singleton body) ≡ true → services_known reg e.body ≡ true → is_there reg is_interface (base_in e.body) ≡ true
  base_by e (new_service base cs) is new known =
      let one = subst (λ b. services_known reg b ≡ true) is known in
      let parts = and_parts (list_all (is_there reg is_interface) (base ∷ [])) _ one in
      ap (λ b. is_there reg is_interface (base_in b)) is ∙ (and_parts (is_there reg is_interface base) true parts.0).0
  base_by e (new_singleton base) is new known =
      let one = subst (λ b. services_known reg b ≡ true) is known in
      let parts = and_parts (list_all (is_there reg is_interface) (base ∷ [])) _ one in
      ap (λ b. is_there reg is_interface (base_in b)) is ∙ (and_parts (is_there reg is_interface base) true parts.0).0
  base_by e body is new known = absurd (cc)

  or_left : (a b : Bool) → a ≡ true → (a || b) ≡ true
  or_left true b is = refl
  or_left false b is = absurd (cc)

  or_right : (a b : Bool) → b ≡ true → (a || b) ≡ true
  or_right true b is = refl
  or_right false b is = is

  service_base : (name : List ℕ) (o : Option Entity) → find_entity name reg ≡ o → is_there reg is_new_service name ≡ true → is_there reg is_interface (base_of o) ≡ true
  service_base name None at there = absurd (no_entity there)
    where
      no_entity : is_there reg is_new_service name ≡ true → ⊥
      no_entity there = let bad : false ≡ true = sym (rw at refl) ∙ there in absurd (cc)
  service_base name (Some e) at there =
      let here : is_new_service e.body ≡ true = sym (rw at refl) ∙ there in
      base_by e e.body refl (or_left (is_new_service e.body) (is_new_singleton e.body) here) (found_entity (λ e. services_known reg e.body) name reg e sound.services at).0

  singleton_base : (name : List ℕ) (o : Option Entity) → find_entity name reg ≡ o → is_there reg is_new_singleton name ≡ true → is_there reg is_interface (base_of o) ≡ true
  singleton_base name None at there = absurd (no_entity there)
    where
      no_entity : is_there reg is_new_singleton name ≡ true → ⊥
      no_entity there = let bad : false ≡ true = sym (rw at refl) ∙ there in absurd (cc)
  singleton_base name (Some e) at there =
      let here : is_new_singleton e.body ≡ true = sym (rw at refl) ∙ there in
      base_by e e.body refl (or_right (is_new_service e.body) (is_new_singleton e.body) here) (found_entity (λ e. services_known reg e.body) name reg e sound.services at).0

  -- ---- lines of the top

  offer_by : (q : Plan) (vs : List Scoped) (base behaviour : List ℕ) (n : ℕ) (o : Option Behaviour)
      → behaviour_named (record { plan = q; block = at_top; variables = vs }) behaviour ≡ o → behaviour_number (record { plan = q; block = at_top; variables = vs }) behaviour ≡ Some n
      → is_there reg is_interface base ≡ true → supports_named reg o base ≡ true
      → (b : Behaviour) × (o ≡ Some b) × (slice_get q.behaviours n ≡ Some b) × (supports reg b.faces x_interface_name ≡ true)
  offer_by q vs base behaviour n None found at there is = absurd (cc)
  offer_by q vs base behaviour n (Some b) found at there is =
      let place = at_number (λ b. bytes_eq behaviour b.name) (q.behaviours ++ []) n (Some b) found at in
      (b, refl, ap (λ bs. slice_get bs n) (sym (append-nil q.behaviours)) ∙ place, base_root b.faces base there is)

  pub service_offered : (q : Plan) (vs : List Scoped) (name behaviour : List ℕ) (o : Option ℕ) → behaviour_number (record { plan = q; block = at_top; variables = vs }) behaviour ≡ o
      → is_there reg is_new_service name ≡ true → service_fits reg (behaviour_named (record { plan = q; block = at_top; variables = vs }) behaviour) (find_entity name reg) ≡ true
      → Offered reg q at_top → Offered reg (with_service o name q) at_top
  service_offered q vs name behaviour None at there fits is = is
  service_offered q vs name behaviour (Some n) at there fits is =
      let c : Context = record { plan = q; block = at_top; variables = vs } in
      let parts = and_parts (supports_named reg (behaviour_named c behaviour) (base_of (find_entity name reg))) (serves_all (behaviour_named c behaviour) (constructors_of (find_entity name reg))) fits in
      let offer = offer_by q vs (base_of (find_entity name reg)) behaviour n (behaviour_named c behaviour) refl at (service_base name (find_entity name reg) refl there) parts.0 in
      let more = with_service (Some n) name q in
      record {
        services =
            all_push (ServiceFits reg more) q.services (record { name = name; behaviour = n }) (services_on q more (λ n b is. is) q.services is.services)
            (record {
              behaviour = offer.0;
              found = offer.2;
              root = offer.3;
              serves = ap (λ o. serves_all o (constructors_of (find_entity name reg))) (sym offer.1) ∙ parts.1;
            });
        singletons = offers_on q more (λ n b is. is) q.singletons is.singletons;
        fields = is.fields;
        open_fields = is.open_fields;
        behaviours = is.behaviours;
        exports = is.exports;
        singles = is.singles;
        threads = is.threads;
      }

  pub singleton_offered : (q : Plan) (vs : List Scoped) (name behaviour : List ℕ) (o : Option ℕ) → behaviour_number (record { plan = q; block = at_top; variables = vs }) behaviour ≡ o
      → is_there reg is_new_singleton name ≡ true → supports_named reg (behaviour_named (record { plan = q; block = at_top; variables = vs }) behaviour) (base_of (find_entity name reg)) ≡ true
      → length q.singletons < 256 → Offered reg q at_top → Offered reg (with_singleton o name q) at_top
  singleton_offered q vs name behaviour None at there fits room is = is
  singleton_offered q vs name behaviour (Some n) at there fits room is =
      let c : Context = record { plan = q; block = at_top; variables = vs } in
      let offer = offer_by q vs (base_of (find_entity name reg)) behaviour n (behaviour_named c behaviour) refl at (singleton_base name (find_entity name reg) refl there) fits in
      let more = with_singleton (Some n) name q in
      let long = length-append q.singletons (record { name = name; behaviour = n } ∷ []) in
      record {
        services = services_on q more (λ n b is. is) q.services is.services;
        singletons =
            all_push (OfferFits reg more) q.singletons (record { name = name; behaviour = n }) (offers_on q more (λ n b is. is) q.singletons is.singletons)
            (record { behaviour = offer.0; found = offer.2; root = offer.3 });
        fields = is.fields;
        open_fields = is.open_fields;
        behaviours = is.behaviours;
        exports = is.exports;
        singles = omega arith;
        threads = is.threads;
      }

  pub export_offered : (q : Plan) (name : List ℕ) (o : Option ℕ) → length q.exports < 256 → Offered reg q at_top → Offered reg (with_export o name q) at_top
  export_offered q name None room is = is
  export_offered q name (Some n) room is =
      let more = with_export (Some n) name q in
      let long = length-append q.exports (record { name = name; behaviour = n } ∷ []) in
      record {
        services = services_on q more (λ n b is. is) q.services is.services;
        singletons = offers_on q more (λ n b is. is) q.singletons is.singletons;
        fields = is.fields;
        open_fields = is.open_fields;
        behaviours = is.behaviours;
        exports = omega arith;
        singles = is.singles;
        threads = is.threads;
      }

  -- ---- blocks

  -- another block with the same fields
  pub other_block : (q : Plan) (bl cl : Block) → AllByRecursion FieldsDiffer (open_behaviours cl) → length q.behaviours + length (open_behaviours cl) ≤ 256
      → length q.threads + open_threads cl ≤ 32 → Offered reg q bl → Offered reg q cl
  other_block q bl cl open_fields few threads is =
      record {
        services = is.services;
        singletons = is.singletons;
        fields = is.fields;
        open_fields = open_fields;
        behaviours = few;
        exports = is.exports;
        singles = is.singles;
        threads = threads;
      }

  pub field_offered : (q : Plan) (vs : List Scoped) (b : Behaviour) (name : List ℕ) (o : Option Kind) → not (list_any (λ f. bytes_eq name f.name) b.fields) ≡ true → Offered reg q (in_behaviour b)
      → Offered reg (with_field (in_behaviour b) name o (record { plan = q; block = in_behaviour b; variables = vs })).plan (with_field (in_behaviour b) name o (record { plan = q; block = in_behaviour b; variables = vs })).block
  field_offered q vs b name None new is = is
  field_offered q vs b name (Some k) new is =
      other_block q (in_behaviour b) (in_behaviour (record b { fields = b.fields ++ record { name = name; kind = k } ∷ [] }))
      (field_more b.fields (record { name = name; kind = k }) is.open_fields.0 new, tt) is.behaviours is.threads is

  pub opens_offered : (q : Plan) (vs : List Scoped) (b : Behaviour) (face function : List ℕ) (o : Option Function) → Offered reg q (in_behaviour b)
      → Offered reg (opens_method (in_behaviour b) face function o (record { plan = q; block = in_behaviour b; variables = vs })).plan (opens_method (in_behaviour b) face function o (record { plan = q; block = in_behaviour b; variables = vs })).block
  opens_offered q vs b face function None is = is
  opens_offered q vs b face function (Some f) is =
      other_block q (in_behaviour b) (in_method b (record { face = face; function = function; body = [] }) f) is.open_fields is.behaviours is.threads is

  pub behaviour_closed : (q : Plan) (b : Behaviour) → Offered reg q (in_behaviour b) → Offered reg (record q { behaviours = q.behaviours ++ b ∷ [] }) at_top
  behaviour_closed q b is =
      let more : Plan = record q { behaviours = q.behaviours ++ b ∷ [] } in
      let stands : Stands q more = λ n d at. slice_before q.behaviours (b ∷ []) n d at in
      let long = length-append q.behaviours (b ∷ []) in let few = is.behaviours in
      record {
        services = services_on q more stands q.services is.services;
        singletons = offers_on q more stands q.singletons is.singletons;
        fields = all_push FieldsDiffer q.behaviours b is.fields is.open_fields.0;
        open_fields = tt;
        behaviours = omega arith;
        exports = is.exports;
        singles = is.singles;
        threads = is.threads;
      }

  pub thread_closed : (q : Plan) (ss : List RootStatement) → Offered reg q (in_thread ss) → Offered reg (record q { threads = q.threads ++ ss ∷ [] }) at_top
  thread_closed q ss is =
      let more : Plan = record q { threads = q.threads ++ ss ∷ [] } in
      let long = length-append q.threads (ss ∷ []) in let few = is.threads in
      record {
        services = services_on q more (λ n b is. is) q.services is.services;
        singletons = offers_on q more (λ n b is. is) q.singletons is.singletons;
        fields = is.fields;
        open_fields = tt;
        behaviours = is.behaviours;
        exports = is.exports;
        singles = is.singles;
        threads = omega arith;
      }

  stays_offered : (q : Plan) (bl : Block) (c : Context) → Stays q bl [] c → Offered reg q bl → Offered reg c.plan c.block
  stays_offered q bl c stays is = subst (λ p. Offered reg p c.block) (sym stays.0) (subst (Offered reg q) (sym stays.1) is)

  pub method_offered : (q : Plan) (vs : List Scoped) (b : Behaviour) (m : Method) (f : Function) (o : Option Statement) → Offered reg q (in_method b m f)
      → Offered reg (with_statement b m f o (record { plan = q; block = in_method b m f; variables = vs })).plan (with_statement b m f o (record { plan = q; block = in_method b m f; variables = vs })).block
  method_offered q vs b m f None is = is
  method_offered q vs b m f (Some x) is =
      let n : Method = record m { body = m.body ++ x ∷ [] } in
      stays_offered q (in_method b n f) (behind_statement x (record { plan = q; block = in_method b n f; variables = vs })) (statement_stays q (in_method b n f) vs x)
      (other_block q (in_method b m f) (in_method b n f) is.open_fields is.behaviours is.threads is)

  pub root_offered : (q : Plan) (vs : List Scoped) (ss : List RootStatement) (o : Option RootStatement) → Offered reg q (in_thread ss)
      → Offered reg (with_root_statement ss o (record { plan = q; block = in_thread ss; variables = vs })).plan (with_root_statement ss o (record { plan = q; block = in_thread ss; variables = vs })).block
  root_offered q vs ss None is = is
  root_offered q vs ss (Some x) is =
      stays_offered q (in_thread (ss ++ x ∷ [])) (behind_root_statement x (record { plan = q; block = in_thread (ss ++ x ∷ []); variables = vs })) (root_statement_stays q (in_thread (ss ++ x ∷ [])) vs x)
      (other_block q (in_thread ss) (in_thread (ss ++ x ∷ [])) is.open_fields is.behaviours is.threads is)
