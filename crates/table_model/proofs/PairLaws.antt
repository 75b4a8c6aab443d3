-- The order of pairs is total, and tells unequal pairs apart.
use Rattle.std.proofs.Common.{◌≡◌, ℕ, List, ◌&&◌, not, refl, sym, ap}
use Rattle.std.specs.declared.cmp.Ordering.{Ordering}
use Rattle.std.specs.declared.cmp.Ordering.TheVariants.{Less, Equal, Greater}
use Rattle.std.specs.Ordering.{ordering_then, nat_cmp}
use Rattle.std.specs.Cmp.{IsTotalOrder, on_total, then_total, both_tied}
use Rattle.std.specs.Cmp.Lexicographic.{slice_cmp, nat_list_cmp_total, texts_ties}
use Rattle.std.specs.Str.{bytes_eq}
use Rattle.std.specs.FinMap.{IsAntisymmetric, slice_cmp-IsAntisymmetric, nat_cmp-IsAntisymmetric}
use Rattle.table_model.specs.Pair.{Pair, pair_cmp, is_pair}

-- texts that no order tells apart are the same
pub same_text : IsAntisymmetric (slice_cmp nat_cmp)
same_text = slice_cmp-IsAntisymmetric nat_cmp-IsAntisymmetric

-- pairs are in a total order
pub pair_order : IsTotalOrder pair_cmp
pair_order = then_total (on_total (λ p. p.oid) nat_list_cmp_total) (on_total (λ p. p.face) nat_list_cmp_total)

pub both_equal : (r s : Ordering) → ordering_then r s ≡ Equal → (r ≡ Equal) × (s ≡ Equal)
both_equal Less s e = (e, cc)
both_equal Equal s e = (refl, e)
both_equal Greater s e = (e, cc)

-- pairs that the order does not tell apart are the same
pub same_pair : IsAntisymmetric pair_cmp
same_pair p q e =
    let tied = both_equal (slice_cmp nat_cmp p.oid q.oid) (slice_cmp nat_cmp p.face q.face) e in
    let oids = same_text p.oid q.oid tied.0 in
    let faces = same_text p.face q.face tied.1 in
    λ i. record { oid = oids i; face = faces i }

-- a pair is another where both texts are
pub is_pair_by_texts : (p q : Pair) → is_pair p q ≡ (bytes_eq p.oid q.oid && bytes_eq p.face q.face)
is_pair_by_texts p q = sym (both_tied _ _ (slice_cmp nat_cmp p.oid q.oid) (slice_cmp nat_cmp p.face q.face) (texts_ties p.oid q.oid) (texts_ties p.face q.face))

-- pairs that the order does not tell apart have one OID
pub other_oids : (oid : List ℕ) (p q : Pair) → pair_cmp p q ≡ Equal → not (bytes_eq oid q.oid) ≡ not (bytes_eq oid p.oid)
other_oids oid p q tied = ap (λ r. not (bytes_eq oid r.oid)) (sym (same_pair p q tied))
