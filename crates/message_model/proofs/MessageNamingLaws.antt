-- What the values of a message name are their references, and where it arrives the same objects under the interfaces that were written.
use Rattle.std.proofs.Common.{◌≡◌, List, [], ◌∷◌, map, Option, Some, refl, sym, ap, subst, ◌∙◌, inr}
use Rattle.std.proofs.lemmas.List.{append-nil}
use Rattle.uno_model.specs.Entities.{Entity}
use Rattle.uno_model.specs.Fits.{Fits, FitEach}
use Rattle.uno_model.specs.Functions.{Function}
use Rattle.uno_model.specs.Kinds.{Kind}
use Rattle.uno_model.specs.Values.{Plain, plains, refs, refs_in}
use Rattle.urp_model.specs.Carried.{carried}
use Rattle.urp_model.specs.Namings.{namings, namings_each, held_ref, arrived_ref, arrived_naming}
use Rattle.urp_model.proofs.NamingLaws.{mapped, held, each_held, arrives, each_arrives, named}
use Rattle.message_model.specs.Arriving.{MessageFits}
use Rattle.message_model.specs.Calls.{numbered}
use Rattle.message_model.specs.MessageNamings.{addressed, message_values, answer_namings, message_namings}
use Rattle.message_model.specs.Messages.{Answer, returned, raised, Message, request, release, reply}
use Rattle.message_model.specs.Said.{answer_values}
use Rattle.message_model.specs.Sayable.{MayBeSaid, AnswerFits, carried_each, arguments_of, outs_of, result_of, answer_arrived, arrived}
use Rattle.message_model.proofs.CarriedLaws.{each_arrived}

module _ (reg : List Entity) where
  -- ---- answers

  answer_held : (f : Function) (o : Option Function) (answer : Answer) → o ≡ Some f → AnswerFits reg f answer
      → map held_ref (answer_namings reg o answer) ≡ refs_in (answer_values answer)
  unfolding refs_in refs Fits
  answer_held f o (returned v outs) found fits =
      let kinds : FitEach reg (plains outs) (outs_of o) = subst (λ z. FitEach reg (plains outs) (outs_of z)) (sym found) fits.2.fit in
      let result : Fits reg v (result_of o) = subst (λ z. Fits reg v (result_of z)) (sym found) fits.0 in
      mapped held_ref (namings reg v (result_of o)) (namings_each reg (plains outs) (outs_of o)) (refs v) (refs_in (plains outs)) (held reg v (result_of o) result)
      (each_held reg (plains outs) (outs_of o) kinds)
  answer_held f o (raised k v) found fits = held reg v k fits.1.3 ∙ sym (append-nil (refs v))

  answer_arrives : (f : Function) (o : Option Function) (answer : Answer) → o ≡ Some f → AnswerFits reg f answer
      → map arrived_ref (answer_namings reg o answer) ≡ refs_in (answer_values (answer_arrived reg o answer))
  unfolding refs_in refs Fits
  answer_arrives f o (returned v outs) found fits =
      let kinds : FitEach reg (plains outs) (outs_of o) = subst (λ z. FitEach reg (plains outs) (outs_of z)) (sym found) fits.2.fit in
      let result : Fits reg v (result_of o) = subst (λ z. Fits reg v (result_of z)) (sym found) fits.0 in
      let others = each_arrives reg (plains outs) (outs_of o) kinds ∙ ap refs_in (each_arrived reg outs (outs_of o) kinds) in
      mapped arrived_ref (namings reg v (result_of o)) (namings_each reg (plains outs) (outs_of o)) (refs (carried reg v (result_of o)))
      (refs_in (plains (carried_each reg outs (outs_of o)))) (arrives reg v (result_of o) result) others
  answer_arrives f o (raised k v) found fits = arrives reg v k fits.1.3 ∙ sym (append-nil (refs (carried reg v k)))

  each_named : (vs : List Plain) (ks : List Kind) → map arrived_naming (namings_each reg (plains vs) ks) ≡ namings_each reg (plains (carried_each reg vs ks)) ks
  unfolding namings_each carried_each
  each_named [] ks = refl
  each_named (v ∷ vs) [] = refl
  each_named (v ∷ vs) (k ∷ ks) =
      mapped arrived_naming (namings reg v k) (namings_each reg (plains vs) ks) (namings reg (carried reg v k) k) (namings_each reg (plains (carried_each reg vs ks)) ks)
      (named reg v k) (each_named vs ks)

  answer_named : (o : Option Function) (answer : Answer) → map arrived_naming (answer_namings reg o answer) ≡ answer_namings reg o (answer_arrived reg o answer)
  answer_named o (returned v outs) =
      mapped arrived_naming (namings reg v (result_of o)) (namings_each reg (plains outs) (outs_of o)) (namings reg (carried reg v (result_of o)) (result_of o))
      (namings_each reg (plains (carried_each reg outs (outs_of o))) (outs_of o)) (named reg v (result_of o)) (each_named outs (outs_of o))
  answer_named o (raised k v) = named reg v k

  -- ---- messages

  pub message_held : (m : Message) → MessageFits reg m → map held_ref (message_namings reg m) ≡ refs_in (message_values m)
  unfolding message_namings refs_in
  message_held (request tid oid face function args) fits =
      each_held reg (plains args) (arguments_of (numbered reg face function))
      (subst (λ z. FitEach reg (plains args) (arguments_of z)) (sym fits.1.found) fits.1.fill.fit)
  message_held (release tid oid face) fits = refl
  message_held (reply tid face function answer) fits = answer_held fits.1.f (numbered reg face function) answer fits.1.found fits.1.fits

  pub message_arrives : (m : Message) → MessageFits reg m → map arrived_ref (message_namings reg m) ≡ refs_in (message_values (arrived reg m))
  unfolding message_namings refs_in arrived
  message_arrives (request tid oid face function args) fits =
      let kinds = arguments_of (numbered reg face function) in
      let fit : FitEach reg (plains args) kinds = subst (λ z. FitEach reg (plains args) (arguments_of z)) (sym fits.1.found) fits.1.fill.fit in
      each_arrives reg (plains args) kinds fit ∙ ap refs_in (each_arrived reg args kinds fit)
  message_arrives (release tid oid face) fits = refl
  message_arrives (reply tid face function answer) fits = answer_arrives fits.1.f (numbered reg face function) answer fits.1.found fits.1.fits

  pub message_named : (m : Message) → map arrived_naming (message_namings reg m) ≡ message_namings reg (arrived reg m)
  unfolding message_namings arrived
  message_named (request tid oid face function args) = each_named args (arguments_of (numbered reg face function))
  message_named (release tid oid face) = refl
  message_named (reply tid face function answer) = answer_named (numbered reg face function) answer

  pub same_address : (m : Message) → addressed (arrived reg m) ≡ addressed m
  unfolding arrived
  same_address (request tid oid face function args) = refl
  same_address (release tid oid face) = refl
  same_address (reply tid face function answer) = refl

  -- ---- what may be said

  pub said_fits : (m : Message) → MayBeSaid reg m → MessageFits reg m
  said_fits (request tid oid face function args) (f, called, thread, object, fill) = (
    thread,
    record {
      f = f;
      interface = called.interface;
      found = called.found;
      no_release = called.no_release;
      no_acquire = called.no_acquire;
      object = inr object;
      fill = fill;
    },
  )
  said_fits (release tid oid face) (interface, thread, object) = (thread, record { interface = interface; object = inr object })
  said_fits (reply tid face function answer) (f, called, thread, fits) = (thread, record { f = f; found = called.found; fits = fits })
