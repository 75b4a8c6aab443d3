-- What a message names is in its values: the references that its namings stand for count no more than those of its values.
use Rattle.std.proofs.Common.{ℕ, ◌≤◌, List, [], ◌∷◌, Option, arith}
use Rattle.message_model.specs.Calls.{numbered}
use Rattle.message_model.specs.MessageNamings.{answer_namings, message_namings}
use Rattle.message_model.specs.Messages.{Answer, returned, raised, Message, request, release, reply}
use Rattle.message_model.specs.Sayable.{arguments_of, outs_of, result_of}
use Rattle.uno_model.specs.Entities.{Entity}
use Rattle.uno_model.specs.Fits.{member_kinds}
use Rattle.uno_model.specs.Functions.{Function}
use Rattle.uno_model.specs.Kinds.{Kind}
use Rattle.uno_model.specs.Values.{Ref, null, own, peer, Plain, Plains, any, tuple, list, ref, none, more, refs, refs_in, object_in, plains}
use Rattle.urp_model.specs.Namings.{Naming, naming, namings, namings_each, namings_all, held_ref}
use Rattle.bridge_model.specs.References.{refs_of_values, refs_of_answer}
use Rattle.bridge_laws.specs.Counting.{total}
use Rattle.bridge_laws.proofs.EffectLaws.{plains_count}
use Rattle.bridge_laws.proofs.HandingLaws.{returned_owes, raised_owes}
use Rattle.bridge_laws.proofs.Sums.{total_append}

-- what namings count, each as the reference that it stands for
abbrev pub namings_count : (Ref → ℕ) → List Naming → ℕ
namings_count f ns = total (λ n. f (held_ref n)) ns

-- the references of a message's values
abbrev pub message_refs : Message → List Ref
message_refs (request tid oid face function args) = refs_of_values args
message_refs (release tid oid face) = []
message_refs (reply tid face function a) = refs_of_answer a

naming_counts : (f : Ref → ℕ) (r : Ref) (k : Kind) → namings_count f (naming r k) ≤ total f (object_in r)
unfolding total
naming_counts f null k = omega arith
naming_counts f (own oid face) k = omega arith
naming_counts f (peer oid face) k = omega arith

mutual
  unfolding namings refs total

  value_namings : (f : Ref → ℕ) (reg : List Entity) (x : Plain) (k : Kind) → namings_count f (namings reg x k) ≤ total f (refs x)
  value_namings f reg (any t x) k = value_namings f reg x t
  value_namings f reg (tuple name xs) k = each_namings f reg xs (member_kinds reg name)
  value_namings f reg (list t xs) k = all_namings f reg xs t
  value_namings f reg (ref r) k = naming_counts f r k
  value_namings f reg x k = omega arith

  each_namings : (f : Ref → ℕ) (reg : List Entity) (xs : Plains) (ks : List Kind) → namings_count f (namings_each reg xs ks) ≤ total f (refs_in xs)
  each_namings f reg none ks = omega arith
  each_namings f reg (more x xs) [] = omega arith
  each_namings f reg (more x xs) (k ∷ ks) =
      let left = total_append (λ n. f (held_ref n)) (namings reg x k) (namings_each reg xs ks) in
      let right = total_append f (refs x) (refs_in xs) in
      let here = value_namings f reg x k in let rest = each_namings f reg xs ks in omega arith

  all_namings : (f : Ref → ℕ) (reg : List Entity) (xs : Plains) (k : Kind) → namings_count f (namings_all reg xs k) ≤ total f (refs_in xs)
  all_namings f reg none k = omega arith
  all_namings f reg (more x xs) k =
      let left = total_append (λ n. f (held_ref n)) (namings reg x k) (namings_all reg xs k) in
      let right = total_append f (refs x) (refs_in xs) in
      let here = value_namings f reg x k in let rest = all_namings f reg xs k in omega arith

answer_counts : (f : Ref → ℕ) (reg : List Entity) (fn : Option Function) (a : Answer) → namings_count f (answer_namings reg fn a) ≤ total f (refs_of_answer a)
answer_counts f reg fn (returned x outs) =
    let left = total_append (λ n. f (held_ref n)) (namings reg x (result_of fn)) (namings_each reg (plains outs) (outs_of fn)) in
    let right = returned_owes f x outs in
    let here = value_namings f reg x (result_of fn) in let rest = each_namings f reg (plains outs) (outs_of fn) in
    let same = plains_count f outs in omega arith
answer_counts f reg fn (raised k x) = let here = value_namings f reg x k in let right = raised_owes f k x in omega arith

pub message_counts : (f : Ref → ℕ) (reg : List Entity) (m : Message) → namings_count f (message_namings reg m) ≤ total f (message_refs m)
unfolding message_namings total
message_counts f reg (request tid oid face function args) =
    let each = each_namings f reg (plains args) (arguments_of (numbered reg face function)) in let same = plains_count f args in omega arith
message_counts f reg (release tid oid face) = omega arith
message_counts f reg (reply tid face function a) = answer_counts f reg (numbered reg face function) a
