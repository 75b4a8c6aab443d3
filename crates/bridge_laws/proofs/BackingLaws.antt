-- What is covered is held: a pair of the peer's to which a holder has references is held by somebody.
use Rattle.std.proofs.Common.{◌≡◌, ℕ, ◌≤◌, Bool, true, false, ◌&&◌, not, List, [], ◌∷◌, ap, ◌∙◌, arith}
use Rattle.std.specs.Ordering.{eq_by_cmp, is_eq}
use Rattle.std.specs.Cmp.{tied_itself}
use Rattle.uno_model.specs.Values.{Ref, null, own, peer}
use Rattle.table_model.specs.Holdings.{Hold, hold, hold_cmp, holder_cmp, Holdings, holders}
use Rattle.table_model.specs.Pair.{Pair, pair, is_pair}
use Rattle.table_model.specs.declared.holder.Holder.{Holder}
use Rattle.table_model.proofs.HoldLaws.{holder_order, is_hold_by_parts}
use Rattle.bridge_model.specs.Settings.{Setting, own_oid, is_told}
use Rattle.bridge_model.specs.Sides.{Tables}
use Rattle.bridge_laws.specs.Counting.{one_if}
use Rattle.bridge_laws.proofs.IdentityLaws.{given_own}
use Rattle.bridge_laws.proofs.OccurrenceLaws.{times, is_hold, ref_owes, refs_owe}
use Rattle.bridge_laws.proofs.PayingLaws.{peers, stray, Backed}
use Rattle.bridge_laws.proofs.Sums.{total_at_most}

-- ---- what is held

second_of : (a b : Bool) → one_if (a && b) ≤ one_if b
second_of true b = omega arith
second_of false b = omega arith

one_hold : (h k : Hold) → one_if (eq_by_cmp hold_cmp h k) ≤ one_if (is_pair h.pair k.pair)
one_hold h k = rw (is_hold_by_parts h k) (second_of (eq_by_cmp holder_cmp h.holder k.holder) (is_pair h.pair k.pair))

-- an occurrence with one holder is one of those of its pair
pub times_at_most : (h : Hold) (hs : Holdings) → times h hs ≤ holders h.pair hs
unfolding times
times_at_most h [] = omega arith
times_at_most h (k ∷ hs) = let here = one_hold h k in let rest = times_at_most h hs in omega arith

same_holder : (who : Holder) (p q : Pair) → is_hold (hold who p) (hold who q) ≡ is_pair p q
unfolding is_hold
same_holder who p q = is_hold_by_parts (hold who p) (hold who q) ∙ ap (λ o. is_eq o && is_pair p q) (tied_itself holder_order who)

peers_owe : (p : Pair) (who : Holder) (r : Ref) → peers p r ≤ ref_owes (hold who p) who r
unfolding peers ref_owes
peers_owe p who null = omega arith
peers_owe p who (own oid face) = omega arith
peers_owe p who (peer oid face) = let same : one_if (is_hold (hold who p) (hold who (pair oid face))) ≡ one_if (is_pair p (pair oid face)) = ap one_if (same_holder who p (pair oid face)) in omega arith

-- references that a holder has often enough are backed
pub backed_by : (p : Pair) (who : Holder) (rs : List Ref) (t : Tables) → refs_owe (hold who p) who rs ≤ times (hold who p) t.holdings → Backed p rs t
backed_by p who rs t enough none =
    let most = times_at_most (hold who p) t.holdings in let few = total_at_most (peers p) (ref_owes (hold who p) who) (peers_owe p who) rs in omega arith

-- ---- names

pub own_told : (g : Setting) (n : ℕ) (face : List ℕ) → stray g (own (own_oid g n) face) ≡ 0
unfolding stray is_told
own_told g n face = ap (λ b. one_if (not b)) (given_own g n)
