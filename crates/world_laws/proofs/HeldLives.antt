-- The object of a pair that the other end holds lives, and supports its interface.
use Rattle.std.proofs.Common.{◌≡◌, refl, sym, ap, ◌∙◌, subst, ℕ, Bool, true, false, is_some, List, [], ◌∷◌, Option, None, Some, if◌then◌else◌, arith}
use Rattle.std.specs.List.{AllByRecursion}
use Rattle.std.specs.Option.{option_or}
use Rattle.message_model.specs.MessageNamings.{message_values}
use Rattle.message_model.specs.Messages.{Message, request, release, reply}
use Rattle.message_model.specs.Sayable.{arrived}
use Rattle.uno_model.specs.Values.{Ref, null, own, peer, refs_in}
use Rattle.urp_model.specs.declared.reason.Reason.{Reason}
use Rattle.urp_model.specs.declared.reason.Reason.TheVariants.{UnknownOid, WrongInterface}
use Rattle.table_model.specs.Pair.{Pair}
use Rattle.table_model.specs.Stubs.{stub}
use Rattle.bridge_model.specs.Entries.{Entry}
use Rattle.bridge_model.specs.Histories.{Told, Leads}
use Rattle.bridge_model.specs.Receiving.{unless, own_refusal, named_refusal, ref_refusal, refs_refusal}
use Rattle.bridge_model.specs.Objects.{has_stub, object_supports}
use Rattle.bridge_model.specs.References.{is_held}
use Rattle.bridge_model.specs.Settings.{Setting, is_own, ref_of}
use Rattle.bridge_model.specs.Sides.{Tables, Side, stands}
use Rattle.bridge_laws.specs.Counting.{total, one_if, brings}
use Rattle.bridge_laws.specs.Living.{lives, plan_constants}
use Rattle.bridge_laws.proofs.NamingLaws.{message_refs}
use Rattle.bridge_laws.proofs.PaidLaws.{all_paid}
use Rattle.bridge_laws.proofs.LivingLaws.{all_live}
use Rattle.bridge_laws.proofs.TellingLaws.{all_allowed}
use Rattle.bridge_laws.specs.Giving.{RootsGive}
use Rattle.bridge_laws.proofs.TypedGivenLaws.{sent_are}
use Rattle.world_model.specs.Flights.{flight}
use Rattle.world_model.specs.Meetings.{Meets}
use Rattle.world_model.specs.Offers.{NamesRight, IsHome, ComesHome}
use Rattle.world_model.specs.Setups.{AreSetUp, BothGive}
use Rattle.world_model.specs.Worlds.{Settings, of_a, of_b, World, Event}
use Rattle.world_laws.proofs.LastLaws.{both_last}
use Rattle.world_laws.proofs.NamesLaws.{stub_has, found_all}
use Rattle.world_laws.proofs.ReferredLaws.{message_list}
use Rattle.world_laws.proofs.RefusedLaws.{names_a, names_b}
use Rattle.world_laws.proofs.StrangerLaws.{unheard}
use Rattle.world_laws.proofs.SaidLaws.{fit, front_all, both_well}
use Rattle.world_laws.proofs.WorldLaws.{held_has_stub, paired_there, paired_back}

-- ---- references that pass the tests

both_none : (a b : Option Reason) → option_or a b ≡ None → (a ≡ None) × (b ≡ None)
both_none None b is = (refl, is)
both_none (Some why) b is = absurd (cc)

own_passes : (has holds : Bool) → unless has UnknownOid (unless holds WrongInterface None) ≡ None → (has ≡ true) × (holds ≡ true)
own_passes true true is = (refl, refl)
own_passes true false is = absurd (cc)
own_passes false holds is = absurd (cc)

named_passes : (g : Setting) (t : Tables) (oid face : List ℕ) → is_own g oid ≡ true → named_refusal g t oid face ≡ None
    → (has_stub oid t.stubs ≡ true) × (object_supports g oid face t.objects ≡ true)
named_passes g t oid face mine is =
    own_passes (has_stub oid t.stubs) (object_supports g oid face t.objects) (subst (λ b. (if b then own_refusal g t oid face else None) ≡ None) mine is)

named_own : (g : Setting) (oid face : List ℕ) → is_own g oid ≡ true → ref_of g oid face ≡ own oid face
unfolding ref_of
named_own g oid face mine = rw (mine) refl

named_home : (g : Setting) (t : Tables) (oid face : List ℕ) → named_refusal g t oid face ≡ None → is_own g oid ≡ true → IsHome g t oid face
named_home g t oid face is mine =
    let passes = named_passes g t oid face mine is in record { told = named_own g oid face mine; sent = passes.0; supports = passes.1 }

one_home : (g : Setting) (t : Tables) (r : Ref) → ref_refusal g t r ≡ None → ComesHome g t r
one_home g t null is = tt
one_home g t (own oid face) is = named_home g t oid face is
one_home g t (peer oid face) is = named_home g t oid face is

all_home : (g : Setting) (t : Tables) (rs : List Ref) → refs_refusal g t rs ≡ None → AllByRecursion (ComesHome g t) rs
unfolding refs_refusal
all_home g t [] is = tt
all_home g t (r ∷ rs) is = let parts = both_none (ref_refusal g t r) (refs_refusal g t rs) is in (one_home g t r parts.0, all_home g t rs parts.1)

values_pass : (g : Setting) (s : Side) (m : Message) → NamesRight g s m → refs_refusal g s.tables (message_refs m) ≡ None
unfolding refs_refusal
values_pass g s (request tid oid face function args) right = right.1
values_pass g s (release tid oid face) right = refl
values_pass g s (reply tid face function a) right = right

module _ (g : Settings) (up : AreSetUp g) (es : List Event) (w : World) (met : Meets g es w) (gives : BothGive g es) where
  pub lives_a : (p : Pair) → is_own (of_a g) p.oid ≡ true → is_held p.oid p.face w.b.last.side.tables ≡ true → lives (of_a g) w.a.last.side.tables.objects p.oid ≡ true
  lives_a p mine held =
      let last = (both_last g es w met).a in
      let there = held_has_stub _ _ _ _ w.a.last w.b.last (paired_there g (fit g up) es w met (both_well g up es w met gives)) p mine held in
      (all_live (of_a g) last.before w.a.last (fit g up).closed_a (all_allowed (of_a g) last.before w.a.last last.leads).told last.leads).sent p.oid mine
      (stub_has p.oid p.face w.a.last.side.tables.stubs there)

  pub lives_b : (p : Pair) → is_own (of_b g) p.oid ≡ true → is_held p.oid p.face w.a.last.side.tables ≡ true → lives (of_b g) w.b.last.side.tables.objects p.oid ≡ true
  lives_b p mine held =
      let last = (both_last g es w met).b in
      let there = held_has_stub _ _ _ _ w.b.last w.a.last (paired_back g (fit g up) es w met (both_well g up es w met gives)) p mine held in
      (all_live (of_b g) last.before w.b.last (fit g up).closed_b (all_allowed (of_b g) last.before w.b.last last.leads).told last.leads).sent p.oid mine
      (stub_has p.oid p.face w.b.last.side.tables.stubs there)

  pub supports_a : (p : Pair) → is_own (of_a g) p.oid ≡ true → is_held p.oid p.face w.b.last.side.tables ≡ true → object_supports (of_a g) p.oid p.face w.a.last.side.tables.objects ≡ true
  supports_a p mine held =
      let last = (both_last g es w met).a in
      let there = held_has_stub _ _ _ _ w.a.last w.b.last (paired_there g (fit g up) es w met (both_well g up es w met gives)) p mine held in
      found_all (λ q. object_supports (of_a g) q.oid q.face w.a.last.side.tables.objects ≡ true) p w.a.last.side.tables.stubs
      (sent_are (of_a g) up.sound up.built up.differ up.keeps_a up.tag_a.short last.before w.a.last
      (front_all (of_a g) last.before last.behind (subst (RootsGive (of_a g)) last.journal gives.a)) last.leads)
      there

  pub supports_b : (p : Pair) → is_own (of_b g) p.oid ≡ true → is_held p.oid p.face w.a.last.side.tables ≡ true → object_supports (of_b g) p.oid p.face w.b.last.side.tables.objects ≡ true
  supports_b p mine held =
      let last = (both_last g es w met).b in
      let there = held_has_stub _ _ _ _ w.b.last w.a.last (paired_back g (fit g up) es w met (both_well g up es w met gives)) p mine held in
      found_all (λ q. object_supports (of_b g) q.oid q.face w.b.last.side.tables.objects ≡ true) p w.b.last.side.tables.stubs
      (sent_are (of_b g) up.sound up.built up.differ up.keeps_b up.tag_b.short last.before w.b.last
      (front_all (of_b g) last.before last.behind (subst (RootsGive (of_b g)) last.journal gives.b)) last.leads)
      there

-- ---- what is held is of one of the two ends

unheld : (g : Setting) (es : List Entry) (x : Told) (p : Pair) → plan_constants g.plan ≡ [] → Leads g es x → stands x.side ≡ true → is_own g p.oid ≡ false → total (brings g p) x.got ≡ 0
    → is_held p.oid p.face x.side.tables ≡ true → ⊥
unheld g es x p closed leads up foreign none held =
    let paid = all_paid g es x p closed (all_allowed g es x leads).told leads up foreign in let one = ap one_if held in absurd (omega arith)

-- what is held and not this end's is the other's, and lives there
pub record IsThere (h : Setting) (x : Told) (p : Pair) : Type 0 where
  pub given : is_own h p.oid ≡ true
  pub owed : is_some (stub p x.side.tables.stubs) ≡ true
  pub lives_there : lives h x.side.tables.objects p.oid ≡ true

module _ (g : Settings) (up : AreSetUp g) (es : List Event) (w : World) (met : Meets g es w) (gives : BothGive g es) where
  given_there_a : (p : Pair) → is_own (of_b g) p.oid ≡ false → is_held p.oid p.face w.b.last.side.tables ≡ true → (b : Bool) → is_own (of_a g) p.oid ≡ b → is_own (of_a g) p.oid ≡ true
  given_there_a p foreign held true is = is
  given_there_a p foreign held false is =
      let last = (both_last g es w met).b in
      let none = (unheard g up p.oid is foreign es w met gives).b p.face in
      absurd (unheld (of_b g) last.before w.b.last p (fit g up).closed_b last.leads last.up foreign (ap (total (brings (of_b g) p)) (sym last.got) ∙ none) held)

  given_there_b : (p : Pair) → is_own (of_a g) p.oid ≡ false → is_held p.oid p.face w.a.last.side.tables ≡ true → (b : Bool) → is_own (of_b g) p.oid ≡ b → is_own (of_b g) p.oid ≡ true
  given_there_b p foreign held true is = is
  given_there_b p foreign held false is =
      let last = (both_last g es w met).a in
      let none = (unheard g up p.oid foreign is es w met gives).a p.face in
      absurd (unheld (of_a g) last.before w.a.last p (fit g up).closed_a last.leads last.up foreign (ap (total (brings (of_a g) p)) (sym last.got) ∙ none) held)

  pub there_a : (p : Pair) → is_own (of_b g) p.oid ≡ false → is_held p.oid p.face w.b.last.side.tables ≡ true → IsThere (of_a g) w.a.last p
  there_a p foreign held =
      let mine = given_there_a p foreign held (is_own (of_a g) p.oid) refl in
      record {
        given = mine;
        owed = held_has_stub _ _ _ _ w.a.last w.b.last (paired_there g (fit g up) es w met (both_well g up es w met gives)) p mine held;
        lives_there = lives_a g up es w met gives p mine held;
      }

  pub there_b : (p : Pair) → is_own (of_a g) p.oid ≡ false → is_held p.oid p.face w.a.last.side.tables ≡ true → IsThere (of_b g) w.b.last p
  there_b p foreign held =
      let mine = given_there_b p foreign held (is_own (of_b g) p.oid) refl in
      record {
        given = mine;
        owed = held_has_stub _ _ _ _ w.b.last w.a.last (paired_back g (fit g up) es w met (both_well g up es w met gives)) p mine held;
        lives_there = lives_b g up es w met gives p mine held;
      }

  -- ---- what comes home

  pub homes_a : stands w.a.now.side ≡ true → (m : Message) (ms : List Message) → flight w.b.now w.a.now ≡ m ∷ ms
      → AllByRecursion (ComesHome (of_a g) w.a.now.side.tables) (refs_in (message_values (arrived g.registry m)))
  homes_a on m ms flies =
      subst (AllByRecursion (ComesHome (of_a g) w.a.now.side.tables)) (sym (message_list (arrived g.registry m)))
      (all_home (of_a g) w.a.now.side.tables (message_refs (arrived g.registry m)) (values_pass (of_a g) w.a.now.side (arrived g.registry m) (names_a g up es w met gives on m ms flies)))

  pub homes_b : stands w.b.now.side ≡ true → (m : Message) (ms : List Message) → flight w.a.now w.b.now ≡ m ∷ ms
      → AllByRecursion (ComesHome (of_b g) w.b.now.side.tables) (refs_in (message_values (arrived g.registry m)))
  homes_b on m ms flies =
      subst (AllByRecursion (ComesHome (of_b g) w.b.now.side.tables)) (sym (message_list (arrived g.registry m)))
      (all_home (of_b g) w.b.now.side.tables (message_refs (arrived g.registry m)) (values_pass (of_b g) w.b.now.side (arrived g.registry m) (names_b g up es w met gives on m ms flies)))
