-- What is known of two ends that are set up, and whose roots give what may be said: what each said is rightly said, in every run of messages.
use Rattle.std.proofs.Common.{◌≡◌, refl, subst, true, List, [], ◌∷◌, ◌++◌}
use Rattle.std.specs.List.{list_all}
use Rattle.std.proofs.lemmas.Bool.{and_from}
use Rattle.message_model.specs.Messages.{Message}
use Rattle.message_model.specs.Said.{AreLight}
use Rattle.bridge_model.specs.Entries.{Entry, asked}
use Rattle.bridge_model.specs.Settings.{Setting}
use Rattle.bridge_laws.specs.Standing.{asks_by_name, asks_names}
use Rattle.bridge_laws.specs.Giving.{MayGive, RootsGive}
use Rattle.bridge_laws.specs.Telling.{AreRightlySaid}
use Rattle.bridge_laws.proofs.TypedGiven.{IsGiven}
use Rattle.bridge_laws.proofs.TypedGivenLaws.{is_given}
use Rattle.bridge_laws.proofs.StepFits.{Stays, all_stays}
use Rattle.world_model.specs.Meetings.{Meets}
use Rattle.world_model.specs.Setups.{AreSetUp, BothGive}
use Rattle.world_model.specs.Worlds.{Settings, of_a, of_b, World, Event, entries_of}
use Rattle.world_model.specs.declared.side.Side.TheVariants.{A, B}
use Rattle.world_laws.proofs.Fit.{AreFit, BothWellSaid}
use Rattle.world_laws.proofs.JoinedLaws.{joined}
use Rattle.world_laws.proofs.ReferredLaws.{all_well_said}
use Rattle.world_laws.proofs.RunLaws.{a_pushed, a_same, b_pushed, b_same, both_lead}

-- ---- what is set up

pub given_a : (g : Settings) → AreSetUp g → IsGiven (of_a g)
given_a g up = is_given (of_a g) up.sound up.built up.differ up.keeps_a up.tag_a.short

pub given_b : (g : Settings) → AreSetUp g → IsGiven (of_b g)
given_b g up = is_given (of_b g) up.sound up.built up.differ up.keeps_b up.tag_b.short

pub fit : (g : Settings) → AreSetUp g → AreFit g
fit g up = record { sound = up.sound; built = up.built; apart = joined g up; closed_a = (given_a g up).constants; closed_b = (given_b g up).constants }

-- ---- what roots give

gives_name : (g : Setting) (e : Entry) → MayGive g e → asks_by_name e ≡ true
gives_name g (asked root name wanted) gives = gives.0
gives_name g e gives = refl

pub all_names : (g : Setting) (es : List Entry) → RootsGive g es → asks_names es ≡ true
unfolding asks_names
all_names g [] gives = refl
all_names g (e ∷ es) gives = and_from (asks_by_name e) (list_all asks_by_name es) (gives_name g e gives.0) (all_names g es gives.1)

-- along a front
pub front_all : (g : Setting) (front rest : List Entry) → RootsGive g (front ++ rest) → RootsGive g front
front_all g [] rest gives = tt
front_all g (e ∷ front) rest gives = (gives.0, front_all g front rest gives.1)

pub front_gives : (g : Setting) (es : List Entry) (e : Entry) → RootsGive g (es ++ e ∷ []) → RootsGive g es
front_gives g [] e gives = tt
front_gives g (f ∷ es) e gives = (gives.0, front_gives g es e gives.1)

pub gives_before_a : (g : Settings) (es : List Event) (e : Entry) → BothGive g (es ++ record { side = A; entry = e } ∷ []) → BothGive g es
gives_before_a g es e gives =
    record { a = front_gives (of_a g) (entries_of A es) e (subst (RootsGive (of_a g)) (a_pushed es e) gives.a); b = subst (RootsGive (of_b g)) (b_same es e) gives.b }

pub gives_before_b : (g : Settings) (es : List Event) (e : Entry) → BothGive g (es ++ record { side = B; entry = e } ∷ []) → BothGive g es
gives_before_b g es e gives =
    record { a = subst (RootsGive (of_a g)) (a_same es e) gives.a; b = front_gives (of_b g) (entries_of B es) e (subst (RootsGive (of_b g)) (b_pushed es e) gives.b) }

-- ---- what was said

module _ (g : Settings) (up : AreSetUp g) (es : List Event) (w : World) (met : Meets g es w) (gives : BothGive g es) where
  pub stays_a : Stays (of_a g) (given_a g up) w.a.now
  stays_a = all_stays (of_a g) (given_a g up) (entries_of A es) w.a.now gives.a (both_lead g es w met).a

  pub stays_b : Stays (of_b g) (given_b g up) w.b.now
  stays_b = all_stays (of_b g) (given_b g up) (entries_of B es) w.b.now gives.b (both_lead g es w met).b

  pub both_well : BothWellSaid g w
  both_well = record { a = all_well_said (of_a g) w.a.now.said stays_a.said; b = all_well_said (of_b g) w.b.now.said stays_b.said }

  pub light : (h : Setting) (ms : List Message) → AreRightlySaid h ms → AreLight ms
  light h [] all = tt
  light h (m ∷ ms) all = (all.0.sayable.light, light h ms all.1)
