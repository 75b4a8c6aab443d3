-- Every history on bytes of two ends that are set up is a run of messages, and no end is ever broken by the other.
use Rattle.std.proofs.Common.{◌≡◌, sym, ap, ◌∙◌, subst, List, ◌++◌}
use Rattle.bridge_laws.specs.Giving.{RootsGive}
use Rattle.world_model.specs.Meetings.{Meets}
use Rattle.world_model.specs.Offers.{BothCarried}
use Rattle.world_model.specs.Readings.{MayAllArrive}
use Rattle.world_model.specs.Setups.{AreSetUp, BothGive}
use Rattle.world_model.specs.Worlds.{Settings, of_a, of_b, World, Event, Runs, entries_of}
use Rattle.world_model.specs.declared.side.Side.TheVariants.{A, B}
use Rattle.world_laws.proofs.RefusedLaws.{arrives_a, arrives_b}
use Rattle.world_laws.proofs.RunLaws.{IsMet, runs_meet, entries_both}
use Rattle.world_laws.proofs.SaidLaws.{front_all, stays_a, stays_b, light}

-- roots that give what they may did so along a front
pub front_gives_both : (g : Settings) (front rest es : List Event) → front ++ rest ≡ es → BothGive g es → BothGive g front
front_gives_both g front rest es is gives =
    record {
      a = front_all (of_a g) (entries_of A front) (entries_of A rest) (subst (RootsGive (of_a g)) (ap (entries_of A) (sym is) ∙ entries_both A front rest) gives.a);
      b = front_all (of_b g) (entries_of B front) (entries_of B rest) (subst (RootsGive (of_b g)) (ap (entries_of B) (sym is) ∙ entries_both B front rest) gives.b);
    }

-- where the first message in flight can be carried along a history, it may come
pub all_arrive : (g : Settings) (up : AreSetUp g) (es : List Event) (w : World) (met : Meets g es w) (gives : BothGive g es) → BothCarried w → MayAllArrive g w
all_arrive g up es w met gives carried =
    record {
      to_a = λ on m ms flies. arrives_a g up es w met gives on m ms flies (carried.to_a on m ms flies);
      to_b = λ on m ms flies. arrives_b g up es w met gives on m ms flies (carried.to_b on m ms flies);
      light_a = let stays = stays_a g up es w met gives in light g up es w met gives (of_a g) w.a.now.said stays.said;
      light_b = let stays = stays_b g up es w met gives in light g up es w met gives (of_b g) w.b.now.said stays.said;
    }

pub history_met : (g : Settings) → AreSetUp g → (es : List Event) → BothGive g es → ((front rest : List Event) (v : World) → front ++ rest ≡ es → Meets g front v → BothCarried v)
    → (w : World) → Runs g es w → IsMet g es w
history_met g up es gives carried w runs =
    runs_meet g up.sound es (λ front rest v is met. all_arrive g up front v met (front_gives_both g front rest es is gives) (carried front rest v is met)) w runs
