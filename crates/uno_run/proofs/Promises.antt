-- What two joined ends keep is their promise.
use Rattle.std.proofs.Common.{◌≤◌, ℕ, Bool, true, false, List, Option, sym, subst, arith}
use Rattle.bridge_laws.specs.Counting.{one_if}
use Rattle.world_laws.proofs.GivingLaws.{pair_reached}
use Rattle.world_laws.proofs.OutcomeLaws.{tell_a, tell_b}
use Rattle.world_model.specs.Pairs.{Pairing, IsPaired}
use Rattle.report_model.specs.Pairs.{AlwaysKeep}
use Rattle.world_laws.specs.Kept.{BothKeep}
use Rattle.world_laws.specs.Ready.{AreReady}
use Rattle.world_model.specs.Worlds.{Settings, World, Event}
use Rattle.world_model.specs.declared.side.Side.{Side}
use Rattle.world_model.specs.declared.side.Side.TheVariants.{A, B}
use Rattle.uno_run.specs.Promises.{ComesHome, HasItsObjects, HasItsOutcomes, HasOneProxy, KeepsPromise, Promise}

one_at_most : (b : Bool) → one_if b ≤ 1
one_at_most true = omega arith
one_at_most false = omega arith

-- at a moment
module _ (g : Settings) (es : List Event) (w : World) (k : BothKeep g es w) where
  home : (s : Side) → ComesHome g s es w
  home A = k.home_a
  home B = k.home_b

  one_proxy : (s : Side) → HasOneProxy g s w
  one_proxy A p = subst (λ n. n ≤ 1) (sym (k.a.proxies p)) (one_at_most _)
  one_proxy B p = subst (λ n. n ≤ 1) (sym (k.b.proxies p)) (one_at_most _)

  alive : (s : Side) → HasItsObjects g s w
  alive A = k.b.objects
  alive B = k.a.objects

  own : (s : Side) → HasItsOutcomes g s es w
  own A = k.outcomes_a
  own B = k.outcomes_b

  promise_is : Promise g es w
  promise_is = record { home = home; one_proxy = one_proxy; alive = alive; own = own }

-- and so at each moment of a pair
pub keeps_promise : (g : Settings) → AreReady g → (seed : Option ℕ) (cut : ℕ) (last : Pairing) → IsPaired g seed cut last → AlwaysKeep g last.events → KeepsPromise g last
keeps_promise g ready seed cut last is always =
    record {
      always = λ front behind split w runs. promise_is g front w (always front behind split w runs);
      told_a = tell_a g ready seed cut last (pair_reached g seed cut last is);
      told_b = tell_b g ready seed cut last (pair_reached g seed cut last is);
    }
