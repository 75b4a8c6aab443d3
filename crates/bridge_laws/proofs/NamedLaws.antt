-- What a message that may be said names of this end under the interfaces that it writes supports them, where its references are fine.
use Rattle.std.proofs.Common.{◌≡◌, ℕ, ◌≤◌, Bool, true, false, not, ◌&&◌, List, [], ◌∷◌, Some, refl, ap, arith}
use Rattle.message_model.specs.Calls.{argument_kinds, out_kinds}
use Rattle.message_model.specs.MessageNamings.{answer_namings, message_namings}
use Rattle.message_model.specs.Messages.{Answer, returned, raised, Message, request, release, reply}
use Rattle.message_model.specs.Sayable.{AnswerFits, MayBeSaid, arguments_of}
use Rattle.uno_model.specs.Fits.{Fits, FitEach, FitAll, RefFits, HeldFits, member_kinds}
use Rattle.uno_model.specs.Functions.{Function}
use Rattle.uno_model.specs.Kinds.{Kind}
use Rattle.uno_model.specs.Kinds as kd
use Rattle.uno_model.specs.Sound.{IsSound}
use Rattle.uno_model.specs.Values.{Ref, null, own, peer, Plain, Plains, any, tuple, list, ref, none, more, plains, refs, refs_in, object_in}
use Rattle.urp_model.specs.Namings.{Naming, naming, namings, namings_each, namings_all}
use Rattle.bridge_model.specs.Objects.{object_supports}
use Rattle.bridge_model.specs.References.{refs_of_answer}
use Rattle.bridge_model.specs.Settings.{Setting}
use Rattle.bridge_model.specs.Sides.{Object}
use Rattle.bridge_laws.specs.Counting.{total, one_if}
use Rattle.bridge_laws.proofs.EffectLaws.{plains_count}
use Rattle.bridge_laws.proofs.HandingLaws.{returned_owes, raised_owes}
use Rattle.bridge_laws.proofs.NamingLaws.{message_refs}
use Rattle.bridge_laws.proofs.Sums.{total_append}
use Rattle.bridge_laws.proofs.Fine.{is_fine_own, wrong}
use Rattle.bridge_laws.proofs.FineLaws.{own_tested, object_supports_base}

-- 1 for an own object under an interface that it does not support
unfoldable pub unsupported : Setting → List Object → Naming → ℕ
unsupported g os n = one_if (n.is_own && not (object_supports g n.oid n.written os))

module _ (g : Setting) (sound : IsSound g.registry) (os : List Object) where
  own_step : (fine supported : Bool) → (fine ≡ true → supported ≡ true) → one_if (true && not supported) ≤ one_if (not fine)
  own_step true supported found = let is = found refl in rw is (omega arith)
  own_step false true found = omega arith
  own_step false false found = omega arith

  own_named : (oid face wanted : List ℕ) → HeldFits g.registry oid face wanted
      → one_if (true && not (object_supports g oid wanted os)) ≤ one_if (not (is_fine_own g os oid face))
  own_named oid face wanted fits =
      own_step (is_fine_own g os oid face) (object_supports g oid wanted os)
      (λ fine. object_supports_base g sound os oid wanted face fits.reached (own_tested g os oid face fine).supported)

  ref_named : (r : Ref) (k : Kind) → RefFits g.registry k r → total (unsupported g os) (naming r k) ≤ total (wrong g os) (object_in r)
  unfolding total unsupported wrong
  ref_named null k fits = omega arith
  ref_named (own oid face) (kd.interface wanted) fits = let one = own_named oid face wanted fits in omega arith
  ref_named (own oid face) k fits = absurd fits
  ref_named (peer oid face) k fits = omega arith

  mutual
    unfolding namings refs total Fits FitEach FitAll

    value_named : (x : Plain) (k : Kind) → Fits g.registry x k → total (unsupported g os) (namings g.registry x k) ≤ total (wrong g os) (refs x)
    value_named (any t x) k fits = value_named x t fits.3
    value_named (tuple name xs) k fits = each_named xs (member_kinds g.registry name) fits.2
    value_named (list t xs) k fits = all_named xs t fits.3
    value_named (ref r) k fits = ref_named r k fits
    value_named x k fits = omega arith

    each_named : (xs : Plains) (ks : List Kind) → FitEach g.registry xs ks → total (unsupported g os) (namings_each g.registry xs ks) ≤ total (wrong g os) (refs_in xs)
    each_named none ks fits = omega arith
    each_named (more x xs) [] fits = absurd fits
    each_named (more x xs) (k ∷ ks) fits =
        let left = total_append (unsupported g os) (namings g.registry x k) (namings_each g.registry xs ks) in
        let right = total_append (wrong g os) (refs x) (refs_in xs) in
        let here = value_named x k fits.0 in let rest = each_named xs ks fits.1 in omega arith

    all_named : (xs : Plains) (k : Kind) → FitAll g.registry xs k → total (unsupported g os) (namings_all g.registry xs k) ≤ total (wrong g os) (refs_in xs)
    all_named none k fits = omega arith
    all_named (more x xs) k fits =
        let left = total_append (unsupported g os) (namings g.registry x k) (namings_all g.registry xs k) in
        let right = total_append (wrong g os) (refs x) (refs_in xs) in
        let here = value_named x k fits.0 in let rest = all_named xs k fits.1 in omega arith

  answer_named : (f : Function) (a : Answer) → AnswerFits g.registry f a
      → total (unsupported g os) (answer_namings g.registry (Some f) a) ≤ total (wrong g os) (refs_of_answer a)
  unfolding Fits
  answer_named f (returned x outs) fits =
      let left = total_append (unsupported g os) (namings g.registry x f.result_kind) (namings_each g.registry (plains outs) (out_kinds f)) in
      let right = returned_owes (wrong g os) x outs in
      let here = value_named x f.result_kind fits.0 in let rest = each_named (plains outs) (out_kinds f) fits.2.fit in
      let same = plains_count (wrong g os) outs in omega arith
  answer_named f (raised k x) fits = let here = value_named x k fits.1.3 in let right = raised_owes (wrong g os) k x in omega arith

  pub message_named : (m : Message) → MayBeSaid g.registry m → total (unsupported g os) (message_namings g.registry m) ≤ total (wrong g os) (message_refs m)
  unfolding message_namings total
  message_named (request tid oid face function args) may =
      let each = each_named (plains args) (argument_kinds may.0) may.4.fit in
      let kinds = ap (λ o. total (unsupported g os) (namings_each g.registry (plains args) (arguments_of o))) may.1.found in
      let same = plains_count (wrong g os) args in omega arith
  message_named (release tid oid face) may = omega arith
  message_named (reply tid face function a) may =
      let one = answer_named may.0 a may.3 in
      let kinds = ap (λ o. total (unsupported g os) (answer_namings g.registry o a)) may.1.found in omega arith
