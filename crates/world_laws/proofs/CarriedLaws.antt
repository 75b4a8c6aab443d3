-- All that was said can be carried, so nothing is left to ask of runs.
use Rattle.std.proofs.Common.{◌≡◌, refl, sym, ap, ◌∙◌, subst, ℕ, suc, ◌<◌, ◌≤◌, true, ◌||◌, nat_lt, nat_le, inl, inr, List, [], ◌∷◌, ◌++◌, map, arith}
use Rattle.std.specs.Prelude.{All, IsTrue}
use Rattle.std.specs.Char.{is_ascii_alphanumeric}
use Rattle.std.specs.Int.{is_in_range}
use Rattle.std.specs.Str.{IsUtf8}
use Rattle.std.proofs.lemmas.Bool.{and_parts, and_from, or_cases, leb-true, lt-ltb}
use Rattle.urp_model.proofs.Utf8Laws.{are_ascii, utf8_of_ascii}
use Rattle.std.specs.List.{AllByRecursion}
use Rattle.message_model.specs.Messages.{Message}
use Rattle.message_model.specs.Sayable.{arrived, MessageSpellable}
use Rattle.bridge_model.specs.Entries.{Entry}
use Rattle.bridge_model.specs.Histories.{Told}
use Rattle.uno_model.specs.Entities.{Entity}
use Rattle.bridge_model.specs.Sides.{stands}
use Rattle.bridge_laws.specs.SpellableGiving.{AreGivenByRoots}
use Rattle.bridge_laws.specs.Holding.{MessageGoes}
use Rattle.bridge_laws.proofs.ArrivingSpelling.{arrived_goes}
use Rattle.bridge_laws.proofs.SpellableGiven.{IsGiven}
use Rattle.bridge_laws.proofs.GotSpelling.{got_holds}
use Rattle.bridge_laws.proofs.PlanSpelling.{plan_writable}
use Rattle.bridge_laws.proofs.TableSpelling.{messages_spellable}
use Rattle.world_model.specs.Flights.{flight, Follows}
use Rattle.world_model.specs.Meetings.{Meets, begins, a_moves, b_moves}
use Rattle.world_model.specs.Offers.{BothCarried}
use Rattle.world_model.specs.Readings.{MayArrive}
use Rattle.world_model.specs.Setups.{IsTag}
use Rattle.world_model.specs.Worlds.{Settings, of_a, of_b, World, Event, Runs, entries_of}
use Rattle.world_model.specs.declared.side.Side.TheVariants.{A, B}
use Rattle.world_laws.proofs.FlightLaws.{flight_is}
use Rattle.world_laws.proofs.HistoryLaws.{front_gives_both, history_met}
use Rattle.world_laws.proofs.LastLaws.{meets_linked}
use Rattle.world_laws.proofs.RefusedLaws.{arrives_a, arrives_b}
use Rattle.world_laws.proofs.RunLaws.{IsMet, entries_both, a_pushed, a_same, b_pushed, b_same, both_lead}
use Rattle.world_laws.specs.Ready.{AreReady, BothGiveWell}

-- ---- tags

range_ascii : (low high c : ℕ) → high < 128 → is_in_range low high c ≡ true → nat_lt c 128 ≡ true
range_ascii low high c below is = let top : c ≤ high = leb-true c high (and_parts (nat_le low c) (nat_le c high) is).1 in lt-ltb c 128 (omega arith)

letter_ascii : (c : ℕ) → is_ascii_alphanumeric c ≡ true → nat_lt c 128 ≡ true
letter_ascii c word = elim (or_cases (is_in_range 48 57 c || is_in_range 65 90 c) (is_in_range 97 122 c) word) [
  | inl front ↦ elim (or_cases (is_in_range 48 57 c) (is_in_range 65 90 c) front) [ inl digit ↦ range_ascii 48 57 c (omega arith) digit | inr upper ↦ range_ascii 65 90 c (omega arith) upper ]
  | inr lower ↦ range_ascii 97 122 c (omega arith) lower
]

letters_ascii : (tag : List ℕ) → All (λ c. IsTrue (is_ascii_alphanumeric c)) tag → are_ascii tag ≡ true
letters_ascii [] all = refl
letters_ascii (c ∷ tag) all = and_from (nat_lt c 128) (are_ascii tag) (letter_ascii c (all 0 c (omega arith))) (letters_ascii tag (λ k d less. all (suc k) d (omega arith)))

tag_utf8 : (tag : List ℕ) → IsTag tag → IsUtf8 tag
tag_utf8 tag is = utf8_of_ascii tag (letters_ascii tag is.letters)

-- ---- what was said

all_behind : (P : Message → Type 0) (front rest : List Message) → AllByRecursion P (front ++ rest) → AllByRecursion P rest
all_behind P [] rest all = all
all_behind P (m ∷ front) rest all = all_behind P front rest all.1

first_carried : (reg : List Entity) (x y : Told) → Follows reg x y → AllByRecursion MessageSpellable x.said → (m : Message) (ms : List Message) → flight x y ≡ m ∷ ms → MessageSpellable m
first_carried reg x y f all m ms flies =
    (subst (AllByRecursion MessageSpellable) (sym (flight_is reg x y f) ∙ flies) (all_behind MessageSpellable f.front f.rest (subst (AllByRecursion MessageSpellable) f.said all))).0

all_arrived : (reg : List Entity) (ms : List Message) → AllByRecursion MessageGoes ms → AllByRecursion MessageGoes (map (arrived reg) ms)
all_arrived reg [] all = tt
all_arrived reg (m ∷ ms) all = (arrived_goes reg m all.0, all_arrived reg ms all.1)

all_before : (front rest : List Message) → AllByRecursion MessageGoes (front ++ rest) → AllByRecursion MessageGoes front
all_before [] rest all = tt
all_before (m ∷ front) rest all = (all.0, all_before front rest all.1)

-- what came can be carried where what the other end said can be
all_came : (reg : List Entity) (x y : Told) → Follows reg x y → AllByRecursion MessageGoes x.said → AllByRecursion MessageGoes y.got
all_came reg x y f all = subst (AllByRecursion MessageGoes) (sym f.got) (all_arrived reg f.front (all_before f.front f.rest (subst (AllByRecursion MessageGoes) f.said all)))

front_given : (front rest : List Entry) → AreGivenByRoots (front ++ rest) → AreGivenByRoots front
front_given [] rest all = tt
front_given (e ∷ front) rest all = (all.0, front_given front rest all.1)

-- of both ends
record BothGo (w : World) : Type 0 where
  a : AllByRecursion MessageGoes w.a.now.said
  b : AllByRecursion MessageGoes w.b.now.said

module _ (g : Settings) (ready : AreReady g) where
  pub spells_a : IsGiven (of_a g)
  spells_a = record { sound = ready.up.sound; items = ready.items; tag = tag_utf8 g.a.tag ready.up.tag_a; plan = plan_writable g.registry ready.up.sound ready.items g.a.plan ready.up.keeps_a }

  pub spells_b : IsGiven (of_b g)
  spells_b = record { sound = ready.up.sound; items = ready.items; tag = tag_utf8 g.b.tag ready.up.tag_b; plan = plan_writable g.registry ready.up.sound ready.items g.b.plan ready.up.keeps_b }

  -- an end that got what can be carried says what can be
  said_a : (es : List Event) (w : World) → Meets g es w → AreGivenByRoots (entries_of A es) → AllByRecursion MessageGoes w.b.now.said → AllByRecursion MessageGoes w.a.now.said
  said_a es w met given other =
      (got_holds (of_a g) spells_a (entries_of A es) w.a.now given (both_lead g es w met).a (all_came g.registry w.b.now w.a.now (meets_linked g es w met).back other)).said

  said_b : (es : List Event) (w : World) → Meets g es w → AreGivenByRoots (entries_of B es) → AllByRecursion MessageGoes w.a.now.said → AllByRecursion MessageGoes w.b.now.said
  said_b es w met given other =
      (got_holds (of_b g) spells_b (entries_of B es) w.b.now given (both_lead g es w met).b (all_came g.registry w.a.now w.b.now (meets_linked g es w met).there other)).said

  both_go : (es : List Event) (w : World) → Meets g es w → AreGivenByRoots (entries_of A es) → AreGivenByRoots (entries_of B es) → BothGo w
  both_go es w begins one other = record { a = tt; b = tt }
  both_go es' w' (a_moves es w e after met m) one other =
      let before = both_go es w met (front_given (entries_of A es) (e ∷ []) (subst AreGivenByRoots (a_pushed es e) one)) (subst AreGivenByRoots (b_same es e) other) in
      record { a = said_a (es ++ record { side = A; entry = e } ∷ []) (record { a = after; b = w.b }) (a_moves es w e after met m) one before.b; b = before.b }
  both_go es' w' (b_moves es w e after met m) one other =
      let before = both_go es w met (subst AreGivenByRoots (a_same es e) one) (front_given (entries_of B es) (e ∷ []) (subst AreGivenByRoots (b_pushed es e) other)) in
      record { a = before.a; b = said_b (es ++ record { side = B; entry = e } ∷ []) (record { a = w.a; b = after }) (b_moves es w e after met m) other before.a }

module _ (g : Settings) (ready : AreReady g) (es : List Event) (w : World) (met : Meets g es w) (well : BothGiveWell g es) where
  pub carried_a : AllByRecursion MessageSpellable w.a.now.said
  carried_a = messages_spellable w.a.now.said (both_go g ready es w met well.a well.b).a

  pub carried_b : AllByRecursion MessageSpellable w.b.now.said
  carried_b = messages_spellable w.b.now.said (both_go g ready es w met well.a well.b).b

  -- what each got can be
  pub got_goes_a : AllByRecursion MessageGoes w.a.now.got
  got_goes_a = all_came g.registry w.b.now w.a.now (meets_linked g es w met).back (both_go g ready es w met well.a well.b).b

  pub got_goes_b : AllByRecursion MessageGoes w.b.now.got
  got_goes_b = all_came g.registry w.a.now w.b.now (meets_linked g es w met).there (both_go g ready es w met well.a well.b).a

  pub both_carried : BothCarried w
  both_carried =
      record {
        to_a = λ on. first_carried g.registry w.b.now w.a.now (meets_linked g es w met).back carried_b;
        to_b = λ on. first_carried g.registry w.a.now w.b.now (meets_linked g es w met).there carried_a;
      }

  pub may_a : stands w.a.now.side ≡ true → (m : Message) (ms : List Message) → flight w.b.now w.a.now ≡ m ∷ ms → MayArrive (of_a g) w.a.now m
  may_a on m ms flies = arrives_a g ready.up es w met well.gives on m ms flies (both_carried.to_a on m ms flies)

  pub may_b : stands w.b.now.side ≡ true → (m : Message) (ms : List Message) → flight w.a.now w.b.now ≡ m ∷ ms → MayArrive (of_b g) w.b.now m
  may_b on m ms flies = arrives_b g ready.up es w met well.gives on m ms flies (both_carried.to_b on m ms flies)

-- ---- histories

-- roots that give well did so along a front
pub well_front : (g : Settings) (front rest es : List Event) → front ++ rest ≡ es → BothGiveWell g es → BothGiveWell g front
well_front g front rest es is well =
    record {
      gives = front_gives_both g front rest es is well.gives;
      a = front_given (entries_of A front) (entries_of A rest) (subst AreGivenByRoots (ap (entries_of A) (sym is) ∙ entries_both A front rest) well.a);
      b = front_given (entries_of B front) (entries_of B rest) (subst AreGivenByRoots (ap (entries_of B) (sym is) ∙ entries_both B front rest) well.b);
    }

pub whole_met : (g : Settings) → AreReady g → (es : List Event) → BothGiveWell g es → (w : World) → Runs g es w → IsMet g es w
whole_met g ready es well w runs =
    history_met g ready.up es well.gives (λ front rest v is met. both_carried g ready front v met (well_front g front rest es is well)) w runs
