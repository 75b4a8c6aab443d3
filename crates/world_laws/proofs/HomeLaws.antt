-- What comes home is itself: it has a stub, and names one object from its sending on.
use Rattle.std.proofs.Common.{◌≡◌, refl, sym, ap, ◌∙◌, subst, ℕ, ◌+◌, ◌≤◌, ◌<◌, ◌^◌, Bool, true, false, not, cond, ◌&&◌, ◌||◌, ◌==◌, find, is_some, List, [], ◌∷◌, ◌++◌, Option, None, Some, arith, eqb-true}
use Rattle.std.specs.List.{list_any, AllByRecursion}
use Rattle.std.specs.Str.{bytes_eq}
use Rattle.std.proofs.lemmas.Bool.{and_parts, and_from}
use Rattle.std.proofs.lemmas.Slice.Eq.{bytes_eq-Decides}
use Rattle.std.proofs.lemmas.Fmt.{decimal_injective}
use Rattle.std.proofs.lemmas.List.{append_cancel_left}
use Rattle.std.specs.Fmt.{decimal}
use Rattle.message_model.specs.Messages.{Message, request, release, reply}
use Rattle.message_model.specs.Sayable.{arrived}
use Rattle.uno_model.specs.Entities.{Entity}
use Rattle.uno_model.specs.Reaches.{is_base_of}
use Rattle.uno_model.specs.Sound.{IsSound}
use Rattle.uno_model.specs.Values.{Ref, null, own, peer}
use Rattle.uno_model.proofs.AssignableLaws.{base_told}
use Rattle.table_model.specs.Pair.{Pair, pair, is_pair}
use Rattle.table_model.specs.Stubs.{Stubs, stub}
use Rattle.table_model.specs.declared.stub.Stub.{Stub}
use Rattle.table_model.proofs.PairLaws.{is_pair_by_texts}
use Rattle.bridge_laws.specs.Counting.{total, places}
use Rattle.bridge_laws.proofs.DebtLaws.{stub_where}
use Rattle.bridge_laws.proofs.NamingLaws.{message_refs}
use Rattle.bridge_model.specs.Entries.{Entry}
use Rattle.bridge_model.specs.Histories.{Told, Leads}
use Rattle.bridge_model.specs.Objects.{object_numbered, object_named, has_stub, object_supports}
use Rattle.bridge_model.specs.Receiving.{is_called_out, is_asked_name, is_target}
use Rattle.bridge_model.specs.Settings.{Setting, is_own, ref_of, prefix, own_oid}
use Rattle.bridge_model.specs.Sides.{Object, Tables, Side, stands}
use Rattle.bridge_laws.specs.Telling.{referred}
use Rattle.bridge_laws.proofs.BeginFits.{named_object, named_itself, named_numbered}
use Rattle.bridge_laws.proofs.FineLaws.{object_supports_base}
use Rattle.bridge_laws.proofs.TypedGiven.{IsGiven}
use Rattle.bridge_laws.proofs.TypedGivenLaws.{sent_are}
use Rattle.bridge_laws.proofs.MakingFits.{named_by_number}
use Rattle.bridge_laws.proofs.StepFits.{Stays}
use Rattle.bridge_laws.specs.Numbers.{living_with, AreNumbered, behaviour_in, behaviour_numbered, KeepsObjects}
use Rattle.bridge_laws.proofs.ObjectKeepingLaws.{all_numbered, objects_stay}
use Rattle.world_model.specs.Flights.{flight}
use Rattle.world_model.specs.Meetings.{Meets}
use Rattle.world_model.specs.Offers.{NamesRight, IsHome, ComesHome}
use Rattle.world_model.specs.Setups.{AreSetUp, BothGive}
use Rattle.world_model.specs.Worlds.{Settings, of_a, of_b, World, Event, Runs, entries_of}
use Rattle.world_model.specs.declared.side.Side.TheVariants.{A, B}
use Rattle.world_laws.proofs.HeldLives.{homes_a, homes_b}
use Rattle.world_laws.proofs.NamesLaws.{stub_has, found_all}
use Rattle.world_laws.proofs.ReferredLaws.{message_list}
use Rattle.world_laws.proofs.RefusedLaws.{names_a, names_b}
use Rattle.world_laws.proofs.RunLaws.{entries_both, both_lead}
use Rattle.world_laws.proofs.SaidLaws.{given_a, given_b, stays_a, stays_b}
use Rattle.world_laws.specs.Homes.{IsSameObject, IsItself, ComesAsItself}
use Rattle.world_laws.specs.Ready.{AreReady, BothGiveWell}
use Rattle.world_laws.proofs.CarriedLaws.{well_front, whole_met}
use Rattle.world_laws.proofs.SentLaws.{WasMade, said_was_made_a, said_was_made_b}

-- ---- stubs

-- a pair that passes a test, and has a stub
record Passes (test : Pair → Bool) (stubs : Stubs) : Type 0 where
  passing : Pair
  passes : test passing ≡ true
  there : is_some (stub passing stubs) ≡ true

itself : (p : Pair) → is_pair p p ≡ true
itself p = is_pair_by_texts p p ∙ and_from (bytes_eq p.oid p.oid) (bytes_eq p.face p.face) ((bytes_eq-Decides p.oid p.oid).1 refl) ((bytes_eq-Decides p.face p.face).1 refl)

some_more : (b : Bool) (x : Stub) (o : Option Stub) → is_some o ≡ true → is_some (cond b (Some x) o) ≡ true
some_more true x o there = refl
some_more false x o there = there

passes_by : (test : Pair → Bool) (row : Pair × Stub) (stubs : Stubs) (b : Bool) → test row.0 ≡ b → (list_any (λ r. test r.0) stubs ≡ true → Passes test stubs)
    → (b || list_any (λ r. test r.0) stubs) ≡ true → Passes test (row ∷ stubs)
passes_by test row stubs true is more any =
    record { passing = row.0; passes = is; there = ap (λ c. is_some (cond c (Some row.1) (stub row.0 stubs))) (itself row.0) }
passes_by test row stubs false is more any =
    let k = more any in record { passing = k.passing; passes = k.passes; there = some_more (is_pair k.passing row.0) row.1 (stub k.passing stubs) k.there }

any_passes : (test : Pair → Bool) (stubs : Stubs) → list_any (λ row. test row.0) stubs ≡ true → Passes test stubs
any_passes test [] any = absurd (cc)
any_passes test (row ∷ stubs) any = passes_by test row stubs (test row.0) refl (any_passes test stubs) any

-- an identity that has a stub has one under some interface
has_under : (oid : List ℕ) (stubs : Stubs) → has_stub oid stubs ≡ true → (under : List ℕ) × (is_some (stub (pair oid under) stubs) ≡ true)
unfolding has_stub
has_under oid stubs has =
    let k = any_passes (λ q. bytes_eq oid q.oid) stubs has in
    let same : oid ≡ k.passing.oid = (bytes_eq-Decides oid k.passing.oid).0 k.passes in
    (k.passing.face, subst (λ o. is_some (stub (pair o k.passing.face) stubs) ≡ true) (sym same) k.there)

-- ---- targets

-- an object that was sent out under an interface that derives from this one
module _ (g : Setting) (sound : IsSound g.registry) (t : Tables) (sent : AllByRecursion (λ row. object_supports g row.0.oid row.0.face t.objects ≡ true) t.stubs) where
  supported : (p : Pair) → is_some (stub p t.stubs) ≡ true → object_supports g p.oid p.face t.objects ≡ true
  supported p there = found_all (λ q. object_supports g q.oid q.face t.objects ≡ true) p t.stubs sent there

  told_own : (oid face : List ℕ) → is_own g oid ≡ true → ref_of g oid face ≡ own oid face
  unfolding ref_of
  told_own oid face mine = rw (mine) refl

  pair_home : (oid face : List ℕ) → is_some (stub (pair oid face) t.stubs) ≡ true → is_own g oid ≡ true → IsHome g t oid face
  pair_home oid face there mine = record { told = told_own oid face mine; sent = stub_has oid face t.stubs there; supports = supported (pair oid face) there }

  called_home : (oid face : List ℕ) → is_called_out g.registry oid face t.stubs ≡ true → is_own g oid ≡ true → IsHome g t oid face
  unfolding is_called_out
  called_home oid face out mine =
      let k = any_passes (λ q. bytes_eq oid q.oid && is_base_of g.registry face q.face) t.stubs out in
      let parts = and_parts (bytes_eq oid k.passing.oid) (is_base_of g.registry face k.passing.face) k.passes in
      let same : oid ≡ k.passing.oid = (bytes_eq-Decides oid k.passing.oid).0 parts.0 in
      let there : is_some (stub (pair oid k.passing.face) t.stubs) ≡ true = subst (λ o. is_some (stub (pair o k.passing.face) t.stubs) ≡ true) (sym same) k.there in
      let base = (base_told g.registry face k.passing.face sound.no_circle).0 parts.1 in
      record {
        told = told_own oid face mine;
        sent = stub_has oid k.passing.face t.stubs there;
        supports = object_supports_base g sound t.objects oid face k.passing.face base (supported (pair oid k.passing.face) there);
      }

  not_asked : (oid : List ℕ) (function : ℕ) → is_own g oid ≡ true → is_asked_name g oid function ≡ false
  not_asked [] function mine = refl
  not_asked (c ∷ cs) function mine = unasked (function == 0) (is_own g (c ∷ cs)) mine
    where
      unasked : (a b : Bool) → b ≡ true → (a && not b) ≡ false
      unasked true true is = refl
      unasked false true is = refl
      unasked a false is = absurd (cc)

  only_called : (mine called asked : Bool) → asked ≡ false → ((mine && called) || asked) ≡ true → called ≡ true
  only_called true true asked no_ask is = refl
  only_called true false asked no_ask is = absurd (cc)
  only_called false called asked no_ask is = absurd (cc)

  target_home : (oid face : List ℕ) (function : ℕ) → is_target g oid face function t.stubs ≡ true → is_own g oid ≡ true → IsHome g t oid face
  target_home oid face function is mine =
      called_home oid face (only_called (is_own g oid) (is_called_out g.registry oid face t.stubs) (is_asked_name g oid function) (not_asked oid function mine) is) mine

  -- all that a message refers to
  referred_home : (s : Side) (m : Message) → s.tables ≡ t → NamesRight g s m → AllByRecursion (ComesHome g t) (message_refs m) → AllByRecursion (ComesHome g t) (referred m)
  referred_home s (request tid oid face function args) same right values = (target_home oid face function (subst (λ (u : Tables). is_target g oid face function u.stubs ≡ true) same right.0), values)
  referred_home s (release tid oid face) same right values = (pair_home oid face (subst (λ (u : Tables). is_some (stub (pair oid face) u.stubs) ≡ true) same right), tt)
  referred_home s (reply tid face function a) same right values = values

-- ---- one object

same_number : (g : Setting) (n m : ℕ) → n < 2 ^ 64 → m < 2 ^ 64 → own_oid g n ≡ own_oid g m → n ≡ m
unfolding own_oid
same_number g n m few also is = decimal_injective n m few also (append_cancel_left (prefix g) (decimal n) (decimal m) is)

-- so many were made at most
few_made : (g : Setting) (given : IsGiven g) (x : Told) → Stays g given x → x.side.tables.objects_made ≤ 2000000
few_made g given x stays = let counted = stays.fit.tables.counted in let few = stays.fit.objects.few in omega arith

-- an object is found by its identity where it is by its number
named_there : (g : Setting) (given : IsGiven g) (x : Told) → Stays g given x → (n : ℕ) → n ≤ 2000000 → object_named g (own_oid g n) x.side.tables.objects ≡ object_numbered n x.side.tables.objects
named_there g given x stays n few =
    let most = stays.fit.objects.few in
    subst (λ os. object_named g (own_oid g n) os ≡ object_numbered n os) (sym stays.fit.tables.same)
    (named_by_number g stays.fit.made n stays.fit.os (omega arith) (omega arith) stays.fit.objects.each)

number_found : (n : ℕ) (os : List Object) (o : Object) → object_numbered n os ≡ Some o → o.number ≡ n
unfolding object_numbered
number_found n [] o found = absurd (cc)
number_found n (p ∷ os) o found = by_test (number_found n os o) (n == p.number) refl found
  where
    by_test : (object_numbered n os ≡ Some o → o.number ≡ n) → (b : Bool) → (n == p.number) ≡ b → cond b (Some p) (find (λ q. n == q.number) os) ≡ Some o → o.number ≡ n
    by_test behind true is at = let one : p ≡ o = cc in sym (eqb-true n p.number is ∙ ap (λ (q : Object). q.number) one)
    by_test behind false is at = behind at

counted_there : (n : ℕ) (os : List Object) (o : Object) → object_numbered n os ≡ Some o → 1 ≤ living_with n os
unfolding object_numbered
counted_there n [] o found = absurd (cc)
counted_there n (p ∷ os) o found = by_test (counted_there n os o) (n == p.number) found
  where
    by_test : (object_numbered n os ≡ Some o → 1 ≤ living_with n os) → (b : Bool) → cond b (Some p) (find (λ q. n == q.number) os) ≡ Some o → 1 ≤ cond b 1 0 + living_with n os
    by_test behind true at = omega arith
    by_test behind false at = let more = behind at in omega arith

same_by : (o : Object) (found : Option Object) → ((q : Object) → found ≡ Some q → q.number ≡ o.number) → behaviour_in found ≡ Some o.behaviour → IsSameObject o found
same_by o None numbered is = absurd (cc)
same_by o (Some q) numbered is = (numbered q refl, cc)

-- an object that lives now was there before, from when its identity was said
same_before : (g : Setting) (given : IsGiven g) (x y : Told) (oid : List ℕ) (o : Object) → Stays g given x → Stays g given y → AreNumbered y.side.tables → KeepsObjects x.side.tables y.side.tables → WasMade g x oid
    → object_named g oid y.side.tables.objects ≡ Some o → IsSameObject o (object_named g oid x.side.tables.objects)
same_before g given x y oid o before now are kept was found =
    let itself_is = named_itself g oid y.side.tables.objects o found in
    let numbered = named_numbered g oid y.side.tables.objects o found in
    let below = few_made g given x before in
    let made_by = was.given in
    let also = few_made g given y now in
    let within = are.given o.number (counted_there o.number y.side.tables.objects o numbered) in
    let same = same_number g was.number o.number (omega arith) (omega arith) (sym was.named ∙ itself_is) in
    let there : behaviour_numbered o.number x.side.tables.objects ≡ Some o.behaviour = kept.same o.number o.behaviour (omega arith) (ap behaviour_in numbered) in
    let alike : object_named g oid x.side.tables.objects ≡ object_numbered o.number x.side.tables.objects =
    ap (λ name. object_named g name x.side.tables.objects) itself_is ∙ named_there g given x before o.number (omega arith) in
    subst (IsSameObject o) (sym alike) (same_by o (object_numbered o.number x.side.tables.objects) (λ q at. number_found o.number x.side.tables.objects q at) there)

-- ---- both ends

module _ (g : Settings) (ready : AreReady g) (es : List Event) (well : BothGiveWell g es) (w : World) (runs : Runs g es w) where
  same_a : (met : Meets g es w) (oid : List ℕ) (o : Object) → is_own (of_a g) oid ≡ true → object_named (of_a g) oid w.a.now.side.tables.objects ≡ Some o → (before behind : List Event) (v : World) (under : List ℕ)
      → before ++ behind ≡ es → Runs g before v → 1 ≤ total (places g.registry (pair oid under)) v.a.now.said → IsSameObject o (object_named (of_a g) oid v.a.now.side.tables.objects)
  same_a met oid o mine found before behind v under journal to some =
      let gave = well_front g before behind es journal well in
      let first = (whole_met g ready before gave v to).met in
      let now = both_lead g es w met in
      same_before (of_a g) (given_a g ready.up) v.a.now w.a.now oid o (stays_a g ready.up before v first gave.gives) (stays_a g ready.up es w met well.gives) (all_numbered (of_a g) (entries_of A es) w.a.now now.a)
      (objects_stay (of_a g) (entries_of A before) (entries_of A behind) v.a.now w.a.now (both_lead g before v first).a
      (subst (λ fs. Leads (of_a g) fs w.a.now) (ap (entries_of A) (sym journal) ∙ entries_both A before behind) now.a))
      (said_was_made_a g ready.up (pair oid under) mine before v first gave.gives some) found

  itself_a : (met : Meets g es w) → stands w.a.now.side ≡ true → (oid face : List ℕ) → is_own (of_a g) oid ≡ true → IsHome (of_a g) w.a.now.side.tables oid face → IsItself g A es w oid face
  itself_a met on oid face mine home =
      let there = named_object (of_a g) oid face w.a.now.side.tables.objects home.supports in
      let under = has_under oid w.a.now.side.tables.stubs home.sent in
      record {
        home = home;
        object = there.object;
        named = there.there;
        written = under.0;
        sent = let less = (stub_where (of_a g) (entries_of A es) w.a.now (pair oid under.0) (both_lead g es w met).a on).0 under.1 in omega arith;
        since = same_a met oid there.object mine there.there;
      }

  all_itself_a : (met : Meets g es w) → stands w.a.now.side ≡ true → (rs : List Ref) → AllByRecursion (ComesHome (of_a g) w.a.now.side.tables) rs → AllByRecursion (ComesAsItself g A es w) rs
  all_itself_a met on [] all = tt
  all_itself_a met on (null ∷ rs) all = (tt, all_itself_a met on rs all.1)
  all_itself_a met on (own oid face ∷ rs) all = ((λ mine. itself_a met on oid face mine (all.0 mine)), all_itself_a met on rs all.1)
  all_itself_a met on (peer oid face ∷ rs) all = ((λ mine. itself_a met on oid face mine (all.0 mine)), all_itself_a met on rs all.1)

  pub home_as_itself_a : (met : Meets g es w) → stands w.a.now.side ≡ true → (m : Message) (ms : List Message) → flight w.b.now w.a.now ≡ m ∷ ms
      → AllByRecursion (ComesAsItself g A es w) (referred (arrived g.registry m))
  home_as_itself_a met on m ms flies =
      let up = ready.up in
      all_itself_a met on (referred (arrived g.registry m))
      (referred_home (of_a g) up.sound w.a.now.side.tables
      (sent_are (of_a g) up.sound up.built up.differ up.keeps_a up.tag_a.short (entries_of A es) w.a.now well.gives.a (both_lead g es w met).a)
      w.a.now.side (arrived g.registry m) refl (names_a g up es w met well.gives on m ms flies)
      (subst (AllByRecursion (ComesHome (of_a g) w.a.now.side.tables)) (message_list (arrived g.registry m)) (homes_a g up es w met well.gives on m ms flies)))

  same_b : (met : Meets g es w) (oid : List ℕ) (o : Object) → is_own (of_b g) oid ≡ true → object_named (of_b g) oid w.b.now.side.tables.objects ≡ Some o → (before behind : List Event) (v : World) (under : List ℕ)
      → before ++ behind ≡ es → Runs g before v → 1 ≤ total (places g.registry (pair oid under)) v.b.now.said → IsSameObject o (object_named (of_b g) oid v.b.now.side.tables.objects)
  same_b met oid o mine found before behind v under journal to some =
      let gave = well_front g before behind es journal well in
      let first = (whole_met g ready before gave v to).met in
      let now = both_lead g es w met in
      same_before (of_b g) (given_b g ready.up) v.b.now w.b.now oid o (stays_b g ready.up before v first gave.gives) (stays_b g ready.up es w met well.gives) (all_numbered (of_b g) (entries_of B es) w.b.now now.b)
      (objects_stay (of_b g) (entries_of B before) (entries_of B behind) v.b.now w.b.now (both_lead g before v first).b
      (subst (λ fs. Leads (of_b g) fs w.b.now) (ap (entries_of B) (sym journal) ∙ entries_both B before behind) now.b))
      (said_was_made_b g ready.up (pair oid under) mine before v first gave.gives some) found

  itself_b : (met : Meets g es w) → stands w.b.now.side ≡ true → (oid face : List ℕ) → is_own (of_b g) oid ≡ true → IsHome (of_b g) w.b.now.side.tables oid face → IsItself g B es w oid face
  itself_b met on oid face mine home =
      let there = named_object (of_b g) oid face w.b.now.side.tables.objects home.supports in
      let under = has_under oid w.b.now.side.tables.stubs home.sent in
      record {
        home = home;
        object = there.object;
        named = there.there;
        written = under.0;
        sent = let less = (stub_where (of_b g) (entries_of B es) w.b.now (pair oid under.0) (both_lead g es w met).b on).0 under.1 in omega arith;
        since = same_b met oid there.object mine there.there;
      }

  all_itself_b : (met : Meets g es w) → stands w.b.now.side ≡ true → (rs : List Ref) → AllByRecursion (ComesHome (of_b g) w.b.now.side.tables) rs → AllByRecursion (ComesAsItself g B es w) rs
  all_itself_b met on [] all = tt
  all_itself_b met on (null ∷ rs) all = (tt, all_itself_b met on rs all.1)
  all_itself_b met on (own oid face ∷ rs) all = ((λ mine. itself_b met on oid face mine (all.0 mine)), all_itself_b met on rs all.1)
  all_itself_b met on (peer oid face ∷ rs) all = ((λ mine. itself_b met on oid face mine (all.0 mine)), all_itself_b met on rs all.1)

  pub home_as_itself_b : (met : Meets g es w) → stands w.b.now.side ≡ true → (m : Message) (ms : List Message) → flight w.a.now w.b.now ≡ m ∷ ms
      → AllByRecursion (ComesAsItself g B es w) (referred (arrived g.registry m))
  home_as_itself_b met on m ms flies =
      let up = ready.up in
      all_itself_b met on (referred (arrived g.registry m))
      (referred_home (of_b g) up.sound w.b.now.side.tables
      (sent_are (of_b g) up.sound up.built up.differ up.keeps_b up.tag_b.short (entries_of B es) w.b.now well.gives.b (both_lead g es w met).b)
      w.b.now.side (arrived g.registry m) refl (names_b g up es w met well.gives on m ms flies)
      (subst (AllByRecursion (ComesHome (of_b g) w.b.now.side.tables)) (message_list (arrived g.registry m)) (homes_b g up es w met well.gives on m ms flies)))
