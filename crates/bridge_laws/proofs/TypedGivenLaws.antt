-- A setting with a plan that keeps the rules gives all that is asked of it, and so the laws hold of it.
use Rattle.std.proofs.Common.{◌≡◌, ◌≤◌, Bool, true, false, not, ◌||◌, if◌then◌else◌, List, [], ◌∷◌, length, map, refl, sym, subst, arith}
use Rattle.std.specs.List.{AllByRecursion}
use Rattle.std.proofs.lemmas.List.{length-append, length-map}
use Rattle.uno_model.specs.BuiltIn.{HasBuiltIn}
use Rattle.uno_model.specs.Sound.{IsSound}
use Rattle.message_model.specs.Messages.{Message}
use Rattle.table_model.specs.Holdings.{Hold, Holdings}
use Rattle.table_model.specs.Pair.{Pair}
use Rattle.table_model.specs.Stubs.{Stubs}
use Rattle.plan_model.specs.Keeps.{KeepsTheRules}
use Rattle.plan_model.specs.Plans.{Plan, manager, has_offers, first_objects}
use Rattle.plan_typing.specs.Effects.{NamesDiffer}
use Rattle.plan_typing.proofs.PlanLaws.{plan_typed}
use Rattle.bridge_laws.specs.Counting.{one_if}
use Rattle.bridge_laws.proofs.PlanConstantLaws.{plan_refers_to_nothing}
use Rattle.bridge_model.specs.Entries.{Entry}
use Rattle.bridge_model.specs.Histories.{Told, Leads}
use Rattle.bridge_model.specs.Objects.{object_supports}
use Rattle.bridge_model.specs.Saying.{AreSayable}
use Rattle.bridge_model.specs.Settings.{Setting, is_own}
use Rattle.bridge_model.specs.Sides.{Object}
use Rattle.bridge_model.specs.Steps.{may, does}
use Rattle.bridge_laws.specs.Fitting.{HasFields, IsPairOf}
use Rattle.bridge_laws.specs.Giving.{MayGive, RootsGive}
use Rattle.bridge_laws.specs.Telling.{AreRightlySaid}
use Rattle.bridge_laws.proofs.Fine.{is_fine_own, is_fine_peer}
use Rattle.bridge_laws.proofs.FineLaws.{own_tested, peer_tested}
use Rattle.bridge_laws.proofs.TypedGiven.{IsGiven}
use Rattle.bridge_laws.proofs.ObjectsFit.{ObjectFits}
use Rattle.bridge_laws.proofs.PlanRules.{plan_offers}
use Rattle.bridge_laws.proofs.StepFits.{Stays, all_stays, next_fits}
use Rattle.bridge_laws.proofs.TablesFit.{held_wrong, sent_wrong}

-- ---- what is asked of a setting

offers_few : (p : Plan) (b : Bool) → length p.singletons ≤ 256 → length (if b then manager ∷ map (λ o. o.behaviour) p.singletons else []) ≤ 257
offers_few p true few = let long = length-map p.singletons (λ o. o.behaviour) in omega arith
offers_few p false few = omega arith

first_few : (p : Plan) → length p.exports ≤ 256 → length p.singletons ≤ 256 → length (first_objects p) ≤ 1000000
unfolding first_objects
first_few p few also =
    let exports = length-map p.exports (λ e. e.behaviour) in
    let offers = offers_few p (has_offers p) also in
    let all = length-append (map (λ e. e.behaviour) p.exports) (if has_offers p then manager ∷ map (λ o. o.behaviour) p.singletons else []) in omega arith

pub is_given : (g : Setting) → IsSound g.registry → HasBuiltIn g.registry → NamesDiffer g.registry → KeepsTheRules g.registry g.plan → length g.tag ≤ 32 → IsGiven g
is_given g sound built differ keeps short =
    let offers = plan_offers g.registry sound built g.plan keeps in
    let behaviours = offers.behaviours in let threads = offers.threads in
    record {
      sound = sound;
      built = built;
      differ = differ;
      typed = plan_typed g.registry sound g.plan keeps;
      constants = plan_refers_to_nothing g.registry g.plan keeps;
      services = offers.services;
      singletons = offers.singletons;
      fields = offers.fields;
      short = short;
      roots = omega arith;
      behaviours = omega arith;
      objects = first_few g.plan offers.exports offers.singles;
    }

-- ---- what is held

pair_by : (g : Setting) (os : List Object) (p : Pair) (a b : Bool) → is_fine_own g os p.oid p.face ≡ a → is_fine_peer g p.oid p.face ≡ b → one_if (not (a || b)) ≡ 0 → IsPairOf g os p
pair_by g os p true b told other none =
    let fine = own_tested g os p.oid p.face told in record { identity = fine.identity; interface = fine.interface; supported = λ own. fine.supported }
pair_by g os p false true other told none =
    let fine = peer_tested g p.oid p.face told in
    record { identity = fine.identity; interface = fine.interface; supported = λ own. clash (is_own g p.oid) own fine.told }
  where
    clash : {X : Type 0} (c : Bool) → c ≡ true → c ≡ false → X
    clash true is not_is = absurd (cc)
    clash false is not_is = absurd (cc)
pair_by g os p false false other told none = absurd (omega arith)

held_pairs : (g : Setting) (os : List Object) (hs : Holdings) → held_wrong g os hs ≡ 0 → AllByRecursion (λ (h : Hold). IsPairOf g os h.pair) hs
unfolding held_wrong
held_pairs g os [] none = tt
held_pairs g os (h ∷ hs) none =
    (pair_by g os h.pair (is_fine_own g os h.pair.oid h.pair.face) (is_fine_peer g h.pair.oid h.pair.face) refl refl (omega arith), held_pairs g os hs (omega arith))

not_none : (b : Bool) → one_if (not b) ≡ 0 → b ≡ true
not_none true is = refl
not_none false is = absurd (omega arith)

sent_pairs : (g : Setting) (os : List Object) (stubs : Stubs) → sent_wrong g os stubs ≡ 0 → AllByRecursion (λ row. object_supports g row.0.oid row.0.face os ≡ true) stubs
unfolding sent_wrong
sent_pairs g os [] none = tt
sent_pairs g os (row ∷ stubs) none = (not_none (object_supports g row.0.oid row.0.face os) (omega arith), sent_pairs g os stubs (omega arith))

all_more : {X : Type 0} (P Q : X → Type 0) → ((x : X) → P x → Q x) → (xs : List X) → AllByRecursion P xs → AllByRecursion Q xs
all_more P Q more [] all = tt
all_more P Q more (x ∷ xs) all = (more x all.0, all_more P Q more xs all.1)

all_sayable : (g : Setting) (ms : List Message) → AreRightlySaid g ms → AreSayable g.registry ms
all_sayable g [] all = tt
all_sayable g (m ∷ ms) all = (all.0.sayable, all_sayable g ms all.1)

-- ---- the laws

module _ (g : Setting) (sound : IsSound g.registry) (built : HasBuiltIn g.registry) (differ : NamesDiffer g.registry) (keeps : KeepsTheRules g.registry g.plan) (short : length g.tag ≤ 32)
    (es : List Entry) (x : Told) (gives : RootsGive g es) (leads : Leads g es x) where
  given : IsGiven g
  given = is_given g sound built differ keeps short

  stays : Stays g given x
  stays = all_stays g given es x gives leads

  pub said_rightly : AreRightlySaid g x.said
  said_rightly = stays.said

  pub said_sayable : AreSayable g.registry x.said
  said_sayable = all_sayable g x.said stays.said

  pub unsaid_sayable : AreSayable g.registry x.side.tables.unsaid
  unsaid_sayable = all_sayable g x.side.tables.unsaid stays.fit.tables.sayable

  pub next_sayable : (e : Entry) → MayGive g e → may g x.side e ≡ true → AreSayable g.registry (does g e x.side).side.tables.unsaid
  next_sayable e gives_too is = all_sayable g (does g e x.side).side.tables.unsaid (next_fits g given x e gives_too is stays).tables.sayable

  pub objects_have : AllByRecursion (HasFields g) x.side.tables.objects
  objects_have =
      subst (AllByRecursion (HasFields g)) (sym stays.fit.tables.same)
      (all_more (ObjectFits g stays.fit.made) (HasFields g) (λ o is. is.fields) stays.fit.os stays.fit.objects.each)

  pub held_are : AllByRecursion (λ (h : Hold). IsPairOf g x.side.tables.objects h.pair) x.side.tables.holdings
  held_are = subst (λ os. AllByRecursion (λ (h : Hold). IsPairOf g os h.pair) x.side.tables.holdings) (sym stays.fit.tables.same) (held_pairs g stays.fit.os x.side.tables.holdings stays.fit.tables.held)

  pub sent_are : AllByRecursion (λ row. object_supports g row.0.oid row.0.face x.side.tables.objects ≡ true) x.side.tables.stubs
  sent_are =
      subst (λ os. AllByRecursion (λ row. object_supports g row.0.oid row.0.face os ≡ true) x.side.tables.stubs) (sym stays.fit.tables.same)
      (sent_pairs g stays.fit.os x.side.tables.stubs stays.fit.tables.sent)
