-- A message that can be carried by bytes can be so as it arrives.
use Rattle.std.proofs.Common.{List, [], ◌∷◌, Option}
use Rattle.message_model.specs.Calls.{numbered}
use Rattle.message_model.specs.Messages.{Answer, returned, raised, Message, request, release, reply}
use Rattle.message_model.specs.Sayable.{carried_each, arguments_of, outs_of, result_of, answer_arrived, arrived}
use Rattle.uno_model.specs.Entities.{Entity}
use Rattle.uno_model.specs.Fits.{member_kinds}
use Rattle.uno_model.specs.Functions.{Function}
use Rattle.uno_model.specs.Kinds.{Kind}
use Rattle.uno_model.specs.Kinds as kd
use Rattle.uno_model.specs.Recast.{recast_ref, recast, recast_each, recast_all}
use Rattle.uno_model.specs.Spellable.{IsSpellableRef, IsSpellable, AreSpellable}
use Rattle.uno_model.specs.Values.{Ref, own, peer, Plain, Plains}
use Rattle.uno_model.specs.Values as v
use Rattle.urp_model.specs.Carried.{abroad_ref, abroad, abroad_each, carried}
use Rattle.bridge_laws.specs.Holding.{AnswerGoes, MessageGoes}
use Rattle.bridge_laws.proofs.ValueSpelling.{AllSpellable}

-- ---- values

recast_ref_spellable : (r : Ref) (k : Kind) → IsSpellableRef r → IsSpellableRef (recast_ref r k)
recast_ref_spellable (own oid face) (kd.interface wanted) fine = fine
recast_ref_spellable (peer oid face) (kd.interface wanted) fine = fine
recast_ref_spellable r k fine = fine

mutual
  unfolding recast recast_each recast_all IsSpellable AreSpellable

  recast_spellable : (reg : List Entity) (x : Plain) (k : Kind) → IsSpellable x → IsSpellable (recast reg x k)
  recast_spellable reg (v.any t x) k fine = recast_spellable reg x t fine
  recast_spellable reg (v.tuple name xs) k fine = each_recast reg xs (member_kinds reg name) fine
  recast_spellable reg (v.list t xs) k fine = all_recast reg xs t fine
  recast_spellable reg (v.ref r) k fine = recast_ref_spellable r k fine
  recast_spellable reg x k fine = fine

  each_recast : (reg : List Entity) (xs : Plains) (ks : List Kind) → AreSpellable xs → AreSpellable (recast_each reg xs ks)
  each_recast reg v.none ks fine = tt
  each_recast reg (v.more x xs) [] fine = fine
  each_recast reg (v.more x xs) (k ∷ ks) fine = (recast_spellable reg x k fine.0, each_recast reg xs ks fine.1)

  all_recast : (reg : List Entity) (xs : Plains) (k : Kind) → AreSpellable xs → AreSpellable (recast_all reg xs k)
  all_recast reg v.none k fine = tt
  all_recast reg (v.more x xs) k fine = (recast_spellable reg x k fine.0, all_recast reg xs k fine.1)

abroad_ref_spellable : (r : Ref) → IsSpellableRef r → IsSpellableRef (abroad_ref r)
abroad_ref_spellable v.null fine = tt
abroad_ref_spellable (own oid face) fine = fine
abroad_ref_spellable (peer oid face) fine = fine

mutual
  unfolding abroad abroad_each IsSpellable AreSpellable

  abroad_spellable : (x : Plain) → IsSpellable x → IsSpellable (abroad x)
  abroad_spellable (v.any k x) fine = abroad_spellable x fine
  abroad_spellable (v.tuple name xs) fine = each_abroad xs fine
  abroad_spellable (v.list k xs) fine = each_abroad xs fine
  abroad_spellable (v.ref r) fine = abroad_ref_spellable r fine
  abroad_spellable x fine = fine

  each_abroad : (xs : Plains) → AreSpellable xs → AreSpellable (abroad_each xs)
  each_abroad v.none fine = tt
  each_abroad (v.more x xs) fine = (abroad_spellable x fine.0, each_abroad xs fine.1)

carried_spellable : (reg : List Entity) (x : Plain) (k : Kind) → IsSpellable x → IsSpellable (carried reg x k)
carried_spellable reg x k fine = abroad_spellable (recast reg x k) (recast_spellable reg x k fine)

each_carried : (reg : List Entity) (xs : List Plain) (ks : List Kind) → AllSpellable xs → AllSpellable (carried_each reg xs ks)
unfolding carried_each
each_carried reg [] ks all = tt
each_carried reg (x ∷ xs) [] all = all
each_carried reg (x ∷ xs) (k ∷ ks) all = (carried_spellable reg x k all.0, each_carried reg xs ks all.1)

-- ---- messages

answer_goes : (reg : List Entity) (f : Option Function) (a : Answer) → AnswerGoes a → AnswerGoes (answer_arrived reg f a)
answer_goes reg f (returned x outs) is = (carried_spellable reg x (result_of f) is.0, each_carried reg outs (outs_of f) is.1)
answer_goes reg f (raised k x) is = (is.0, carried_spellable reg x k is.1)

pub arrived_goes : (reg : List Entity) (m : Message) → MessageGoes m → MessageGoes (arrived reg m)
unfolding arrived
arrived_goes reg (request tid oid face function args) is = (is.0, each_carried reg args (arguments_of (numbered reg face function)) is.1)
arrived_goes reg (release tid oid face) is = is
arrived_goes reg (reply tid face function a) is = answer_goes reg (numbered reg face function) a is
