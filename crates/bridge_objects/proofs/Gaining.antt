-- Several references, held one after the other.
use Rattle.std.proofs.Common.{◌≡◌, ℕ, ◌+◌, ◌<◌, Bool, true, false, List, [], ◌∷◌, ◌++◌, Result, Ok, Err, OnOk, length, map, take, get_or, refl, sym, ap, ◌∙◌}
use Rattle.std.proofs.lemmas.List.{map-append, take_more}
use Rattle.std.proofs.lemmas.Bool.{true≢false}
use Rattle.std.specs.Result.{is_err}
use Rattle.uno_model.specs.Values.{Ref, null, own, peer}
use Rattle.table_model.specs.Holdings.{hold}
use Rattle.table_model.specs.Pair.{pair}
use Rattle.table_model.specs.declared.holder.Holder.{Holder}
use Rattle.table_model.proofs.BagLaws.{one_less_one_more}
use Rattle.table_model.proofs.HoldLaws.{hold_order}
use Rattle.bridge_objects.specs.Kept.{Kept}
use Rattle.bridge_objects.specs.Tables.{gained, gained_all, lost, lost_all}

-- what was gained last is lost, and all is as before
pub lost_gained : (h : Holder) (r : Ref) (k : Kept) → lost h r (gained h r k) ≡ k
lost_gained h null k = refl
lost_gained h (own oid face) k = ap (λ hs. record k { holdings = hs }) (one_less_one_more hold_order (hold h (pair oid face)) k.holdings)
lost_gained h (peer oid face) k = ap (λ hs. record k { holdings = hs }) (one_less_one_more hold_order (hold h (pair oid face)) k.holdings)

gained_last : (h : Holder) (rs : List Ref) (r : Ref) (k : Kept) → gained_all h (rs ++ r ∷ []) k ≡ gained h r (gained_all h rs k)
unfolding gained_all
gained_last h [] r k = refl
gained_last h (q ∷ rs) r k = gained_last h rs r (gained h q k)

lost_last : (h : Holder) (rs : List Ref) (r : Ref) (k : Kept) → lost_all h (rs ++ r ∷ []) k ≡ lost h r (lost_all h rs k)
unfolding lost_all
lost_last h [] r k = refl
lost_last h (q ∷ rs) r k = lost_last h rs r (lost h q k)

module _ {R : Type 0} (ref_of : R → Ref) (h : Holder) (xs : List R) (i : ℕ) (x : R) (within : i < length xs) (is : x ≡ get_or xs i x) where
  refs_more : map ref_of (take (i + 1) xs) ≡ map ref_of (take i xs) ++ ref_of x ∷ []
  refs_more = ap (map ref_of) (take_more xs i x within) ∙ map-append ref_of (take i xs) (get_or xs i x ∷ []) ∙ ap (λ y. map ref_of (take i xs) ++ ref_of y ∷ []) (sym is)

  -- one reference more is gained
  pub gained_next : (k : Kept) → gained_all h (map ref_of (take (i + 1) xs)) k ≡ gained h (ref_of x) (gained_all h (map ref_of (take i xs)) k)
  gained_next k = ap (λ rs. gained_all h rs k) refs_more ∙ gained_last h (map ref_of (take i xs)) (ref_of x) k

  -- or lost
  pub lost_next : (k : Kept) → lost_all h (map ref_of (take (i + 1) xs)) k ≡ lost h (ref_of x) (lost_all h (map ref_of (take i xs)) k)
  lost_next k = ap (λ rs. lost_all h rs k) refs_more ∙ lost_last h (map ref_of (take i xs)) (ref_of x) k

  -- and one that was gained last is lost again
  pub lost_again : (k now after : Kept) → now ≡ gained_all h (map ref_of (take (i + 1) xs)) k → after ≡ lost h (ref_of x) now → after ≡ gained_all h (map ref_of (take i xs)) k
  lost_again k now after held gone = gone ∙ ap (lost h (ref_of x)) (held ∙ gained_next k) ∙ lost_gained h (ref_of x) (gained_all h (map ref_of (take i xs)) k)

-- nothing is gained or lost of no references
pub none_gained : (h : Holder) (k : Kept) → gained_all h [] k ≡ k
unfolding gained_all
none_gained h k = refl

pub none_lost : (h : Holder) (k : Kept) → lost_all h [] k ≡ k
unfolding lost_all
none_lost h k = refl

-- what holds of a success holds where there was no error
pub was_ok : {A E P : Type 0} (r : Result A E) (b : Bool) → b ≡ is_err r → b ≡ false → OnOk r P → P
was_ok (Ok x) b told none p = p
was_ok (Err e) b told none p = let bad : true ≡ false = sym told ∙ none in absurd (true≢false bad)
