-- A walk notes what is found of the second names over each entity.
use Rattle.std.proofs.Common.{◌≡◌, refl, sym, ap, subst, ◌∙◌, ℕ, Bool, true, false, List, [], None, Some, Bor, cond}
use Rattle.std.proofs.lemmas.Map.Text.{is_eq-slice_cmp}
use Rattle.std.proofs.lemmas.Slice.Eq.{bytes_eq-Decides}
use Rattle.std.specs.BTreeMap as tree
use Rattle.std.specs.BTreeMap.{BTreeMap}
use Rattle.std.specs.Cmp.Lexicographic.{slice_cmp}
use Rattle.std.specs.Ordering.{nat_cmp}
use Rattle.std.specs.Str.{bytes_eq}
use Rattle.std.specs.declared.cmp.Ordering.{Ordering}
use Rattle.idl_repeated_names.specs.Twins.{HaveKeys, Named, SumsSeconds}
use Rattle.idl_repeated_names.specs.Walking.{FindsOver, IsOnWay, LeadsOver, Walked, found_at}
use Rattle.idl_repeated_names.specs.declared.least.Least.{Least}
use Rattle.idl_repeated_names.specs.declared.walk.Walk.{Walk}
use Rattle.idl_repeated_names.specs.declared.way.Way.{Way}

abbrev Found : Type 0
Found = BTreeMap (Bor (List ℕ)) Least

abbrev by_text : Bor (List ℕ) → Bor (List ℕ) → Ordering
by_text x y = slice_cmp nat_cmp x.now y.now

none_found : (found : Found) (name : List ℕ) → tree.IsEmpty found → found_at found name ≡ None
none_found found name none = rw none refl

one_found : (old new : Found) (name : Bor (List ℕ)) (l : Least) (k : List ℕ) → tree.Updates by_text old new name (Some l) → found_at new k ≡ cond (bytes_eq name.now k) (Some l) (found_at old k)
one_found old new name l k updates =
    let q : Bor (List ℕ) = record { ref_ptr = name.ref_ptr; now = k } in
    updates.0 q ∙ ap (λ b. cond b (Some l) (found_at old k)) (is_eq-slice_cmp name.now k)

found_more : (over : List ℕ → List Named) (old new : Found) (name : Bor (List ℕ)) (l : Least) → tree.Updates by_text old new name (Some l) → FindsOver over old
    → (HaveKeys (over name.now) → SumsSeconds (over name.now) l) → FindsOver over new
found_more over old new name l updates before here k m is = by_test (bytes_eq name.now k) refl (sym (one_found old new name l k updates) ∙ is)
  where
    same_some : Some l ≡ Some m → l ≡ m
    same_some same = cc

    by_test : (b : Bool) → bytes_eq name.now k ≡ b → cond b (Some l) (found_at old k) ≡ Some m → HaveKeys (over k) → SumsSeconds (over k) m
    by_test true same so = subst (λ n. HaveKeys (over n) → SumsSeconds (over n) m) ((bytes_eq-Decides name.now k).0 same) (subst (λ f. HaveKeys (over name.now) → SumsSeconds (over name.now) f) (same_some so) here)
    by_test false other so = before k m so

-- ---- a walk

pub no_walk : (over : List ℕ → List Named) (walk : Walk) → IsOnWay over walk.way [] → tree.IsEmpty walk.found → Walked over walk
no_walk over walk way empty =
    record {
      names = [];
      way = way;
      found = λ name l is. let bad : None ≡ Some l = sym (none_found walk.found name empty) ∙ is in absurd cc;
    }

pub noted_one : (over : List ℕ → List Named) (old : Walk) (way next : Way) (found : Found) (name : Bor (List ℕ)) → LeadsOver over old.way way name.now
    → (IsOnWay over way (over name.now) → IsOnWay over next (over name.now))
    → tree.Updates by_text old.found found name (Some way.twins.found) → Walked over old → Walked over (record { way = next; found = found })
noted_one over old way next found name leads goes updates was =
    let there : IsOnWay over way (over name.now) = leads was.names was.way in
    record {
      names = over name.now;
      way = goes there;
      found = found_more over old.found found name way.twins.found updates was.found there.found;
    }
