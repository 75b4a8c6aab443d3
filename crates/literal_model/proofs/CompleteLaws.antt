-- The tokens of a value that fits a type are read as that value, unless it is nested too deep.
use Rattle.std.proofs.Common.{◌≡◌, ◌≢◌, ℕ, zero, suc, ◌+◌, ◌<◌, ◌≤◌, ◌^◌, ℤ, pos, negsuc, Bool, true, false, not, List, [], ◌∷◌, ◌++◌, length, map, Option}
use Rattle.std.proofs.Common.{None, Some, Result, Ok, Err, ◌⊎◌, inl, inr, refl, sym, ap, subst, ◌∙◌, codes, arith, nat_lt, length-append, FitsSigned}
use Rattle.std.proofs.lemmas.Bool.{and_parts, lt-ltb, ltb-true, ltb-false, not-true, or_parts}
use Rattle.std.proofs.lemmas.Bool.Decides.{Decides-int_eq}
use Rattle.std.proofs.lemmas.Int.{of_z-to_z}
use Rattle.std.proofs.lemmas.List.{append_assoc, length-map}
use Rattle.std.proofs.lemmas.Slice.Eq.{bytes_eq-Decides}
use mir.Val.{hbits}
use Rattle.std.specs.Int.{Width, w8, w16, w32, w64, cast_signed}
use Rattle.std.specs.Ordering.{int_eq}
use Rattle.std.specs.List.{list_all, list_any}
use Rattle.std.specs.Str.{bytes_eq}
use Rattle.literal_model.proofs.TypedLaws.{bare, listed, listed_plains, listed_bytes, Each, byte_token, any_tokens}
use Rattle.uno_model.specs.Defaults.{items_of}
use Rattle.uno_model.specs.Entities.{Entity, Item, Body}
use Rattle.uno_model.specs.Entities as plain
use Rattle.uno_model.specs.Fits.{Fits, FitEach, FitAll, RefFits, IsTupleKind, member_kinds}
use Rattle.uno_model.specs.Kinds.{Kind}
use Rattle.uno_model.specs.Kinds as kd
use Rattle.literal_model.specs.Literals.{first_item, object, ref_token, Token, opens, closes, comma, number, word, string, named, cast, square, curly, tokens_of, tokens_in, byte_tokens, comma_tokens}
use Rattle.literal_model.specs.Literals.{item_token}
use Rattle.literal_model.specs.Readings.{Fault, deep, Reads, with_first, behind_element, held_by, left_at, unsigned_of, signed_of, number_named, item_in, some_as, single, of_token, only_token}
use Rattle.literal_model.specs.Readings.{cast_in, is_comma, opens_square, opens_curly, closes_square, closes_curly, expect, elements_on, elements_in}
use Rattle.literal_model.specs.Readings.{sequence_of, comma_at, members_on, tuple_of, is_void, any_of, byte_in, value_step, value_within}
use Rattle.uno_model.specs.Registry.{find_entity}
use Rattle.literal_model.specs.Shapes.{Placed, on_ok}
use Rattle.uno_model.specs.Sound.{all_differ, items_differ}
use Rattle.uno_model.specs.Spellable.{AreBytes, IsSpellable, AreSpellable}
use Rattle.uno_model.specs.Types.{is_type}
use Rattle.uno_model.specs.Values.{Ref, null, own, peer, Plain, Plains, plains, none, more, refs, refs_in, object_in}
use Rattle.uno_model.specs.Values as v

pub append_none : {A : Type 0} (xs ys : List A) → xs ++ ys ≡ [] → (xs ≡ []) × (ys ≡ [])
append_none [] ys e = (refl, e)
append_none (x ∷ xs) ys e = let bad : ⊥ = cc in absurd bad

-- what is read is this, with these tokens behind it, unless it is nested too deep
abbrev pub Comes : {X : Type 0} → Result (X × List Placed) Fault → X → List Token → Type 0
Comes r x ts = (r ≡ Err deep) ⊎ ((rs : List Placed) × (bare rs ≡ ts) × (r ≡ Ok (x, rs)))

abbrev pub Comes_all : List Entity → (Kind → Reads Plain) → Type 0
Comes_all reg read = (k : Kind) (x : Plain) (ps : List Placed) (ts : List Token) → Fits reg x k → refs x ≡ [] → IsSpellable x → bare ps ≡ tokens_of reg x ++ ts → Comes (read k ps) x ts

-- what comes of a step comes of the whole
comes_on : {X Y : Type 0} (m : Result (X × List Placed) Fault) (x : X) (us : List Token) (go : X × List Placed → Result (Y × List Placed) Fault) (y : Y) (ts : List Token)
    → Comes m x us → ((rs : List Placed) → bare rs ≡ us → Comes (go (x, rs)) y ts) → Comes (on_ok m go) y ts
comes_on m x us go y ts (inl deeper) on = inl (rw deeper refl)
comes_on m x us go y ts (inr one) on = subst (λ r. Comes (on_ok r go) y ts) (sym one.2) (on one.0 one.1)

comes_behind : {A Y : Type 0} (m : Result A Fault) (a : A) (go : A → Result (Y × List Placed) Fault) (y : Y) (ts : List Token) → m ≡ Ok a → Comes (go a) y ts → Comes (on_ok m go) y ts
comes_behind m a go y ts is on = subst (λ r. Comes (on_ok r go) y ts) (sym is) on

comes_first : {X : Type 0} (x : X) (m : Result (List X × List Placed) Fault) (xs : List X) (ts : List Token) → Comes m xs ts → Comes (with_first x m) (x ∷ xs) ts
comes_first x m xs ts (inl deeper) = inl (rw deeper refl)
comes_first x m xs ts (inr all) = inr (all.0, all.1, ap (with_first x) all.2)

-- tokens begin with one
pub one_token : (ps : List Placed) (t : Token) (ts : List Token) → bare ps ≡ t ∷ ts → (p : Placed) × (qs : List Placed) × (ps ≡ p ∷ qs) × (p.token ≡ t) × (bare qs ≡ ts)
one_token [] t ts e = let bad : ⊥ = cc in absurd bad
one_token (p ∷ ps) t ts e = let first : p.token ≡ t = cc in let others : bare ps ≡ ts = cc in (p, ps, refl, first, others)

-- ---- one token

single_comes : (reg : List Entity) (k : Kind) (x : Plain) (t : Token) (ps : List Placed) (ts : List Token) → bare ps ≡ t ∷ ts
    → single reg k t ≡ Some x → Comes (only_token (single reg k) ps) x ts
single_comes reg k x t ps ts e one =
    let at = one_token ps t ts e in
    let token : single reg k (at.0).token ≡ Some x = ap (single reg k) at.3 ∙ one in
    let reads : only_token (single reg k) ps ≡ Ok (x, at.1) = ap (only_token (single reg k)) at.2 ∙ ap (of_token (at.0).left at.1) token in
    inr (at.1, at.4, reads)

unsigned_back : (bits n : ℕ) → n < 2 ^ bits → unsigned_of bits (pos n) ≡ Some n
unsigned_back bits n small = rw (lt-ltb n (2 ^ bits) small) refl

signed_back : (w : Width) (n : ℤ) → FitsSigned w n → signed_of (hbits w) n ≡ Some n
signed_back w (pos n) small = rw (lt-ltb n (2 ^ hbits w) small.sfits) refl
signed_back w (negsuc n) small = rw (lt-ltb n (2 ^ hbits w) small.sfits) refl

-- the first item of a number is found by its name, where names differ
differs_on : (name w : List ℕ) (items : List Item) (n : ℤ) → list_any (bytes_eq name) (map (λ (i : Item). i.name) items) ≡ false
    → first_item items n ≡ Some w → bytes_eq name w ≡ false
unfolding first_item
differs_on name w [] n absent found = let bad : ⊥ = cc in absurd bad
differs_on name w (i ∷ items) n absent found = by_first (int_eq i.number n) refl (differs_on name w items n)
  where
    by_first : (b : Bool) → int_eq i.number n ≡ b
        → (list_any (bytes_eq name) (map (λ (j : Item). j.name) items) ≡ false → first_item items n ≡ Some w → bytes_eq name w ≡ false)
        → bytes_eq name w ≡ false
    by_first true here inner =
        let one : Some i.name ≡ Some w = rw here at found in
        let is : i.name ≡ w = cc in
        subst (λ y. bytes_eq name y ≡ false) is (or_parts (bytes_eq name i.name) (list_any (bytes_eq name) (map (λ (j : Item). j.name) items)) absent).0
    by_first false other inner = inner (or_parts (bytes_eq name i.name) (list_any (bytes_eq name) (map (λ (j : Item). j.name) items)) absent).1 (rw other at found)

named_back : (items : List Item) (n : ℤ) (w : List ℕ) → all_differ (map (λ (i : Item). i.name) items) ≡ true → first_item items n ≡ Some w → number_named items w ≡ Some n
unfolding first_item number_named all_differ
named_back [] n w differ found = let bad : ⊥ = cc in absurd bad
named_back (i ∷ items) n w differ found = by_first (int_eq i.number n) refl (named_back items n w)
  where
    Inner : Type 0
    Inner = all_differ (map (λ (j : Item). j.name) items) ≡ true → first_item items n ≡ Some w → number_named items w ≡ Some n

    by_first : (b : Bool) → int_eq i.number n ≡ b → Inner → number_named (i ∷ items) w ≡ Some n
    by_first true here inner =
        let one : Some i.name ≡ Some w = rw here at found in
        let is : i.name ≡ w = cc in
        rw ((bytes_eq-Decides i.name w).1 is) (ap Some ((Decides-int_eq i.number n).0 here))
    by_first false other inner =
        let parts = and_parts (not (list_any (bytes_eq i.name) (map (λ (j : Item). j.name) items))) (all_differ (map (λ (j : Item). j.name) items)) differ in
        let behind : first_item items n ≡ Some w = rw other at found in
        let another : bytes_eq i.name w ≡ false = differs_on i.name w items n (not-true _ parts.0) behind in
        rw another (inner parts.1 behind)

item_back : (items : List Item) (n : ℤ) → all_differ (map (λ (i : Item). i.name) items) ≡ true → FitsSigned w32 n → item_in items (item_token (first_item items n) n) ≡ Some n
item_back items n differ spellable = by_item (first_item items n) refl
  where
    by_item : (o : Option (List ℕ)) → first_item items n ≡ o → item_in items (item_token o n) ≡ Some n
    by_item None absent = rw (signed_back w32 n spellable, absent) refl
    by_item (Some w) found = rw (named_back items n w differ found, found, (bytes_eq-Decides w w).1 refl) refl

-- the items of an enum differ in a sound registry
found_differ : (reg : List Entity) (name : List ℕ) → list_all items_differ reg ≡ true → all_differ (map (λ (i : Item). i.name) (items_of (find_entity name reg))) ≡ true
unfolding find_entity all_differ
found_differ [] name differ = refl
found_differ (e ∷ es) name differ = by_name (bytes_eq name e.name) refl (found_differ es name (and_parts (items_differ e) (list_all items_differ es) differ).1)
  where
    of_entity : (d : Entity) (b : Body) → d.body ≡ b → items_differ d ≡ true → all_differ (map (λ (i : Item). i.name) (items_of (Some d))) ≡ true
    of_entity d (plain.enum items) is it = rw is (rw is at it)
    of_entity d _ is it = rw is refl

    by_name : (b : Bool) → bytes_eq name e.name ≡ b → all_differ (map (λ (i : Item). i.name) (items_of (find_entity name es))) ≡ true
        → all_differ (map (λ (i : Item). i.name) (items_of (find_entity name (e ∷ es)))) ≡ true
    by_name true same inner = rw same (of_entity e e.body refl (and_parts (items_differ e) (list_all items_differ es) differ).0)
    by_name false other inner = rw other inner

-- ---- marks

expect_back : (left : ℕ) (test : Token → Bool) (t : Token) (ps : List Placed) (ts : List Token) → test t ≡ true → bare ps ≡ t ∷ ts
    → (qs : List Placed) × (bare qs ≡ ts) × (expect left test ps ≡ Ok qs)
expect_back left test t ps ts passes e =
    let at = one_token ps t ts e in
    let token : test (at.0).token ≡ true = ap test at.3 ∙ passes in
    let reads : expect left test (at.0 ∷ at.1) ≡ Ok at.1 = rw token refl in
    (at.1, at.4, ap (expect left test) at.2 ∙ reads)

-- ---- elements

behind_last : {X : Type 0} (left : ℕ) (x : X) (qs : List Placed) (more_read : Reads (List X)) (ts : List Token) → bare qs ≡ closes square ∷ ts
    → Comes (behind_element left x qs more_read) (x ∷ []) ts
behind_last left x [] more_read ts is = let bad : ⊥ = cc in absurd bad
behind_last left x (p ∷ qs) more_read ts is =
    let token : p.token ≡ closes square = cc in
    let behind_it : bare qs ≡ ts = cc in
    let ends : closes_square p.token ≡ true = ap closes_square token in
    inr (qs, behind_it, rw ends refl)

behind_comma : {X : Type 0} (left : ℕ) (x : X) (qs : List Placed) (more_read : Reads (List X)) (us : List Token) (ys : List X) (ts : List Token) → bare qs ≡ comma ∷ us
    → ((rs : List Placed) → bare rs ≡ us → Comes (more_read rs) ys ts) → Comes (behind_element left x qs more_read) (x ∷ ys) ts
behind_comma left x [] more_read us ys ts is inner = let bad : ⊥ = cc in absurd bad
behind_comma left x (p ∷ qs) more_read us ys ts is inner =
    let token : p.token ≡ comma = cc in
    let behind_it : bare qs ≡ us = cc in
    let open_still : closes_square p.token ≡ false = ap closes_square token in
    let goes : is_comma p.token ≡ true = ap is_comma token in
    rw (open_still, goes) (comes_first x (more_read qs) ys ts (inner qs behind_it))

module _ {X : Type 0} (P : X → Type 0) (E : X → List Token) (read : Reads X) where
  abbrev pub ComesEach : Type 0
  ComesEach = (x : X) (ps : List Placed) (ts : List Token) → P x → bare ps ≡ E x ++ ts → Comes (read ps) x ts

  -- the elements from one on
  elements_back : (n left : ℕ) (x : X) (xs : List X) (ps : List Placed) (ts : List Token) → ComesEach → length xs < n → P x → Each P xs
      → bare ps ≡ E x ++ (listed E false xs ++ closes square ∷ ts) → Comes (elements_on n left read ps) (x ∷ xs) ts
  unfolding elements_on
  elements_back zero left x xs ps ts each room good others e = let bad : ⊥ = omega arith in absurd bad
  elements_back (suc n) left x [] ps ts each room good others e =
      comes_on (read ps) x (closes square ∷ ts) (λ z. behind_element left z.0 z.1 (elements_on n left read)) (x ∷ []) ts (each x ps (closes square ∷ ts) good e)
      (λ qs is. behind_last left x qs (elements_on n left read) ts is)
  elements_back (suc n) left x (y ∷ ys) ps ts each room good others e =
      comes_on (read ps) x (comma ∷ (E y ++ listed E false ys ++ closes square ∷ ts)) (λ z. behind_element left z.0 z.1 (elements_on n left read)) (x ∷ (y ∷ ys)) ts
      (each x ps (comma ∷ (E y ++ listed E false ys ++ closes square ∷ ts)) good e)
      (λ qs is. behind_comma left x qs (elements_on n left read) (E y ++ listed E false ys ++ closes square ∷ ts) (y ∷ ys) ts is
      (λ rs f. elements_back n left y ys rs ts each (omega arith) others.0 others.1 (f ∙ append_assoc (E y) (listed E false ys) (closes square ∷ ts))))

  -- how many tokens elements have at least
  listed_behind : (xs : List X) → length xs ≤ length (listed E false xs)
  listed_behind [] = omega arith
  listed_behind (x ∷ xs) = let inner = listed_behind xs in let both = length-append (E x) (listed E false xs) in omega (arith, inner, both)

  listed_length : (xs : List X) (is_first : Bool) → length xs ≤ length (listed E is_first xs) + 1
  listed_length [] is_first = omega arith
  listed_length (x ∷ xs) true = let inner = listed_behind xs in let both = length-append (E x) (listed E false xs) in omega (arith, inner, both)
  listed_length (x ∷ xs) false = let inner = listed_behind xs in let both = length-append (E x) (listed E false xs) in omega (arith, inner, both)

  -- an element does not begin with the bracket that ends a sequence
  abbrev pub NoEnd : Type 0
  NoEnd = (x : X) → P x → (t : Token) × (ts : List Token) × (E x ≡ t ∷ ts) × (closes_square t ≡ false)

  pub sequence_back : (xs : List X) (ps : List Placed) (ts : List Token) → ComesEach → NoEnd → Each P xs
      → bare ps ≡ opens square ∷ (listed E true xs ++ closes square ∷ ts) → Comes (sequence_of read ps) xs ts
  sequence_back xs ps ts each no_end good e =
      let at = expect_back (left_at ps) opens_square (opens square) ps (listed E true xs ++ closes square ∷ ts) refl e in
      comes_behind (expect (left_at ps) opens_square ps) at.0 (elements_in (left_at ps) read) xs ts at.2 (by_list at.0 at.0 refl at.1)
    where
      by_first : (ys : List X) (qs rs : List Placed) (p : Placed) → Each P ys → qs ≡ p ∷ rs → bare qs ≡ listed E true ys ++ closes square ∷ ts
          → Comes (elements_in (left_at ps) read (p ∷ rs)) ys ts
      by_first [] qs rs p good_ys split f =
          let whole : bare (p ∷ rs) ≡ closes square ∷ ts = ap bare (sym split) ∙ f in
          let token : p.token ≡ closes square = cc in
          let behind_it : bare rs ≡ ts = cc in
          let ends : closes_square p.token ≡ true = ap closes_square token in
          inr (rs, behind_it, rw ends refl)
      by_first (y ∷ ys) qs rs p good_ys split f =
          let head = no_end y good_ys.0 in
          let whole : bare (p ∷ rs) ≡ E y ++ (listed E false ys ++ closes square ∷ ts) = ap bare (sym split) ∙ f ∙ append_assoc (E y) (listed E false ys) (closes square ∷ ts) in
          let begun : bare (p ∷ rs) ≡ head.0 ∷ (head.1 ++ (listed E false ys ++ closes square ∷ ts)) = whole ∙ ap (λ z. z ++ (listed E false ys ++ closes square ∷ ts)) head.2 in
          let token : p.token ≡ head.0 = cc in
          let some : closes_square p.token ≡ false = ap closes_square token ∙ head.3 in
          let long : length (bare (p ∷ rs)) ≡ length (listed E true (y ∷ ys)) + length (closes square ∷ ts) = ap length (ap bare (sym split) ∙ f)
          ∙ length-append (listed E true (y ∷ ys)) (closes square ∷ ts) in
          let same_length : length (bare (p ∷ rs)) ≡ length (p ∷ rs) = length-map (p ∷ rs) (λ (q : Placed). q.token) in
          let room : length ys < length (p ∷ rs) = omega (arith, long, same_length, listed_length (y ∷ ys) true) in
          subst (λ r. Comes r (y ∷ ys) ts) (sym (in_some p rs some)) (elements_back (length (p ∷ rs)) (left_at ps) y ys (p ∷ rs) ts each room good_ys.0 good_ys.1 whole)
        where
          in_some : (q : Placed) (zs : List Placed) → closes_square q.token ≡ false
              → elements_in (left_at ps) read (q ∷ zs) ≡ elements_on (length (q ∷ zs)) (left_at ps) read (q ∷ zs)
          in_some q zs other = rw other refl

      by_list : (qs : List Placed) (m : List Placed) → qs ≡ m → bare qs ≡ listed E true xs ++ closes square ∷ ts → Comes (elements_in (left_at ps) read m) xs ts
      by_list qs [] empty f = absurd (no_tokens xs (ap bare (sym empty) ∙ f))
        where
          no_tokens : (ys : List X) → [] ≡ listed E true ys ++ closes square ∷ ts → ⊥
          no_tokens ys g = let long = ap length g ∙ length-append (listed E true ys) (closes square ∷ ts) in omega (arith, long)
      by_list qs (p ∷ rs) split f = by_first xs qs rs p good split f

-- the parts of a value as a list
abbrev list_of : Plains → List Plain
list_of none = []
list_of (more x vs) = x ∷ list_of vs

list_back : (vs : Plains) → plains (list_of vs) ≡ vs
list_back none = refl
list_back (more x vs) = ap (more x) (list_back vs)

-- ---- members

members_back : (reg : List Entity) (read : Kind → Reads Plain) (left : ℕ) (is_first : Bool) (vs : Plains) (ks : List Kind) (ps : List Placed) (ts : List Token)
    → Comes_all reg read → FitEach reg vs ks → refs_in vs ≡ [] → AreSpellable vs
    → bare ps ≡ tokens_in reg is_first vs ++ closes curly ∷ ts → Comes (members_on read left is_first ks ps) (list_of vs) ts
unfolding FitEach refs_in AreSpellable tokens_in members_on
members_back reg read left is_first none [] ps ts all fits closed spellable e =
    let at = expect_back left closes_curly (closes curly) ps ts refl e in
    comes_behind (expect left closes_curly ps) at.0 (λ qs. Ok ([], qs)) [] ts at.2 (inr (at.0, at.1, refl))
members_back reg read left is_first none (k ∷ ks) ps ts all fits closed spellable e = absurd fits
members_back reg read left is_first (more x vs) [] ps ts all fits closed spellable e = absurd fits
members_back reg read left is_first (more x vs) (k ∷ ks) ps ts all fits closed spellable e =
    let parts = append_none (refs x) (refs_in vs) closed in
    let at = by_comma is_first e in
    comes_behind (comma_at is_first left ps) at.0 (λ qs. on_ok (read k qs) (λ y. with_first y.0 (members_on read left false ks y.1))) (x ∷ list_of vs) ts at.2
    (comes_on (read k at.0) x (tokens_in reg false vs ++ closes curly ∷ ts) (λ y. with_first y.0 (members_on read left false ks y.1)) (x ∷ list_of vs) ts
    (all k x at.0 (tokens_in reg false vs ++ closes curly ∷ ts) fits.0 parts.0 spellable.0 at.1)
    (λ rs is. comes_first x (members_on read left false ks rs) (list_of vs) ts (members_back reg read left false vs ks rs ts all fits.1 parts.1 spellable.1 is)))
  where
    by_comma : (first : Bool) → bare ps ≡ (comma_tokens first ++ (tokens_of reg x ++ tokens_in reg false vs)) ++ closes curly ∷ ts
        → (qs : List Placed) × (bare qs ≡ tokens_of reg x ++ (tokens_in reg false vs ++ closes curly ∷ ts)) × (comma_at first left ps ≡ Ok qs)
    by_comma true f = (ps, f ∙ append_assoc (tokens_of reg x) (tokens_in reg false vs) (closes curly ∷ ts), refl)
    by_comma false f =
        let at = expect_back left is_comma comma ps ((tokens_of reg x ++ tokens_in reg false vs) ++ closes curly ∷ ts) refl f in
        (at.0, at.1 ∙ append_assoc (tokens_of reg x) (tokens_in reg false vs) (closes curly ∷ ts), at.2)

tuple_back : (reg : List Entity) (read : Kind → Reads Plain) (vs : Plains) (ks : List Kind) (ps : List Placed) (ts : List Token) → Comes_all reg read
    → FitEach reg vs ks → refs_in vs ≡ [] → AreSpellable vs
    → bare ps ≡ opens curly ∷ (tokens_in reg true vs ++ closes curly ∷ ts) → Comes (tuple_of read ks ps) (list_of vs) ts
tuple_back reg read vs ks ps ts all fits closed spellable e =
    let at = expect_back (left_at ps) opens_curly (opens curly) ps (tokens_in reg true vs ++ closes curly ∷ ts) refl e in
    comes_behind (expect (left_at ps) opens_curly ps) at.0 (members_on read (left_at ps) true ks) (list_of vs) ts at.2 (members_back reg read (left_at ps) true vs ks at.0 ts all fits closed spellable at.1)

-- ---- each type

-- a type that a value fits is one of the registry
null_type : (reg : List Entity) (r : Ref) (k : Kind) → RefFits reg k r → object_in r ≡ [] → is_type reg k ≡ true
null_type reg null (kd.interface name) fits closed = fits
null_type reg null kd.void fits closed = absurd fits
null_type reg null _ fits closed = absurd fits
null_type reg (own oid face) k fits closed = let bad : ⊥ = cc in absurd bad
null_type reg (peer oid face) k fits closed = let bad : ⊥ = cc in absurd bad

fits_type : (reg : List Entity) (x : Plain) (k : Kind) → Fits reg x k → refs x ≡ [] → is_type reg k ≡ true
unfolding Fits refs
fits_type reg (v.kind t) k fits closed = rw fits.0 refl
fits_type reg (v.any t x) k fits closed = rw fits.0 refl
fits_type reg (v.enum name n) k fits closed = fits.1
fits_type reg (v.tuple name vs) k fits closed = fits.1
fits_type reg (v.list t vs) k fits closed = fits.2
fits_type reg (v.ref r) k fits closed = null_type reg r k fits closed
fits_type reg _ k fits closed = rw fits refl

-- a value's first token is no closing bracket
abbrev pub Begins : List Token → Type 0
Begins us = (t : Token) × (ts : List Token) × (us ≡ t ∷ ts) × (closes_square t ≡ false)

item_begins : (o : Option (List ℕ)) (n : ℤ) → Begins (item_token o n ∷ [])
item_begins None n = (number n, [], refl, refl)
item_begins (Some w) n = (word w, [], refl, refl)

pub value_begins : (reg : List Entity) (x : Plain) → Begins (tokens_of reg x)
unfolding tokens_of
value_begins reg v.void = (word (codes "void"), [], refl, refl)
value_begins reg (v.char n) = (number (pos n), [], refl, refl)
value_begins reg (v.boolean true) = (word (codes "true"), [], refl, refl)
value_begins reg (v.boolean false) = (word (codes "false"), [], refl, refl)
value_begins reg (v.byte n) = (number n, [], refl, refl)
value_begins reg (v.short n) = (number n, [], refl, refl)
value_begins reg (v.unsigned_short n) = (number (pos n), [], refl, refl)
value_begins reg (v.long n) = (number n, [], refl, refl)
value_begins reg (v.unsigned_long n) = (number (pos n), [], refl, refl)
value_begins reg (v.hyper n) = (number n, [], refl, refl)
value_begins reg (v.unsigned_hyper n) = (number (pos n), [], refl, refl)
value_begins reg (v.str s) = (string s, [], refl, refl)
value_begins reg (v.kind t) = (named t, [], refl, refl)
value_begins reg (v.any t v.void) = (cast t, [], refl, refl)
value_begins reg (v.any t x) = (cast t, tokens_of reg x, refl, refl)
value_begins reg (v.enum name n) = item_begins (first_item (items_of (find_entity name reg)) n) n
value_begins reg (v.tuple name vs) = (opens curly, tokens_in reg true vs ++ closes curly ∷ [], refl, refl)
value_begins reg (v.list t vs) = (opens square, tokens_in reg true vs ++ closes square ∷ [], refl, refl)
value_begins reg (v.bytes b) = (opens square, byte_tokens true b ++ closes square ∷ [], refl, refl)
value_begins reg (v.ref null) = (word (codes "null"), [], refl, refl)
value_begins reg (v.ref (own oid face)) = (object oid face, [], refl, refl)
value_begins reg (v.ref (peer oid face)) = (object oid face, [], refl, refl)

-- bytes
abbrev pub IsByte : ℕ → Type 0
IsByte b = b < 2 ^ 8

pub signed_range : (b : ℕ) → b < 2 ^ 8 → FitsSigned w8 (cast_signed w8 b)
signed_range b small = by_sign (nat_lt b (2 ^ 7)) refl
  where
    by_sign : (t : Bool) → nat_lt b (2 ^ 7) ≡ t → FitsSigned w8 (cast_signed w8 b)
    by_sign true low = rw low (record { sfits = ltb-true b (2 ^ 7) low })
    by_sign false high = let above = ltb-false b (2 ^ 7) high in rw high (record { sfits = omega arith })

byte_comes : ComesEach IsByte byte_token (only_token byte_in)
byte_comes b ps ts small e =
    let at = one_token ps (number (cast_signed w8 b)) ts e in
    by_one at.0 at.1 at.2 at.3 at.4
  where
    byte_back : byte_in (number (cast_signed w8 b)) ≡ Some b
    byte_back = rw (signed_back w8 (cast_signed w8 b) (signed_range b small)) (ap Some (of_z-to_z w8 b small))

    by_one : (p : Placed) (qs : List Placed) → ps ≡ p ∷ qs → p.token ≡ number (cast_signed w8 b) → bare qs ≡ ts → Comes (only_token byte_in ps) b ts
    by_one p qs split token behind_it =
        let one : byte_in p.token ≡ Some b = ap byte_in token ∙ byte_back in
        inr (qs, behind_it, rw (split, one) refl)

byte_begins : (b : ℕ) → IsByte b → Begins (byte_token b)
byte_begins b small = (number (cast_signed w8 b), [], refl, refl)

each_byte : (bs : List ℕ) → AreBytes bs → Each IsByte bs
each_byte [] all = tt
each_byte (b ∷ bs) all = (all 0, each_byte bs (λ i. all (suc i)))

-- a value of a kind that is read by one token
word_comes : (reg : List Entity) (k : Kind) (w : List ℕ) (x : Plain) (ps : List Placed) (ts : List Token) → bare ps ≡ word w ∷ ts
    → single reg k (word w) ≡ Some x → Comes (only_token (single reg k) ps) x ts
word_comes reg k w x ps ts e one = single_comes reg k x (word w) ps ts e one

-- elements of other types
abbrev Good : List Entity → Kind → Plain → Type 0
Good reg k x = Fits reg x k × (refs x ≡ []) × IsSpellable x

each_value : (reg : List Entity) (k : Kind) (vs : Plains) → FitAll reg vs k → refs_in vs ≡ [] → AreSpellable vs → Each (Good reg k) (list_of vs)
unfolding FitAll refs_in AreSpellable
each_value reg k none fits closed spellable = tt
each_value reg k (more x vs) fits closed spellable = let parts = append_none (refs x) (refs_in vs) closed in ((fits.0, parts.0, spellable.0), each_value reg k vs fits.1 parts.1 spellable.1)

list_comes : (reg : List Entity) (read : Kind → Reads Plain) (k : Kind) (vs : Plains) (ps : List Placed) (ts : List Token) → Comes_all reg read
    → FitAll reg vs k → refs_in vs ≡ [] → AreSpellable vs
    → bare ps ≡ opens square ∷ (tokens_in reg true vs ++ closes square ∷ ts) → Comes (sequence_of (read k) ps) (list_of vs) ts
list_comes reg read k vs ps ts all fits closed spellable e =
    let spelled : tokens_in reg true vs ≡ listed (tokens_of reg) true (list_of vs) = ap (tokens_in reg true) (sym (list_back vs)) ∙ listed_plains reg true (list_of vs) in
    sequence_back (Good reg k) (tokens_of reg) (read k) (list_of vs) ps ts (λ x qs us good f. all k x qs us good.0 good.1 good.2 f)
    (λ x good. value_begins reg x) (each_value reg k vs fits closed spellable)
    (e ∙ ap (λ us. opens square ∷ (us ++ closes square ∷ ts)) spelled)

bytes_come : (reg : List Entity) (bs : List ℕ) (ps : List Placed) (ts : List Token) → AreBytes bs
    → bare ps ≡ opens square ∷ (byte_tokens true bs ++ closes square ∷ ts) → Comes (sequence_of (only_token byte_in) ps) bs ts
bytes_come reg bs ps ts all e = sequence_back IsByte byte_token (only_token byte_in) bs ps ts byte_comes byte_begins (each_byte bs all)
    (e ∙ ap (λ us. opens square ∷ (us ++ closes square ∷ ts)) (listed_bytes true bs))

-- what is read is made into a value
made : {X : Type 0} (r : Result (X × List Placed) Fault) (x : X) (mk : X → Plain) (ts : List Token) → Comes r x ts → Comes (on_ok {B = Plain × List Placed} r (λ y. Ok (mk y.0, y.1))) (mk x) ts
made r x mk ts come = comes_on r x ts (λ y. Ok (mk y.0, y.1)) (mk x) ts come (λ rs is. inr (rs, is, refl))

bracketed : (t u : Token) (inner ts : List Token) (us : List Token) → us ≡ (t ∷ (inner ++ u ∷ [])) ++ ts → us ≡ t ∷ (inner ++ u ∷ ts)
bracketed t u inner ts us e = e ∙ ap (λ x. t ∷ x) (append_assoc inner (u ∷ []) ts)

-- an any
pub void_fits : (reg : List Entity) (x : Plain) → Fits reg x kd.void → x ≡ v.void
unfolding Fits
void_fits reg v.void fits = refl
void_fits reg (v.tuple name vs) fits = absurd (by_kind fits.0)
  where
    by_kind : IsTupleKind name kd.void → ⊥
    by_kind (inl same) = cc
    by_kind (inr same) = cc
void_fits reg (v.kind t) fits = let same = fits.0 in let bad : ⊥ = cc in absurd bad
void_fits reg (v.any t x) fits = let same = fits.0 in let bad : ⊥ = cc in absurd bad
void_fits reg (v.enum name n) fits = let same = fits.0 in let bad : ⊥ = cc in absurd bad
void_fits reg (v.list t vs) fits = let same = fits.0 in let bad : ⊥ = cc in absurd bad
void_fits reg (v.ref null) fits = absurd fits
void_fits reg (v.ref (own oid face)) fits = absurd fits
void_fits reg (v.ref (peer oid face)) fits = absurd fits
void_fits reg _ fits = let bad : ⊥ = cc in absurd bad

any_comes : (reg : List Entity) (read : Kind → Reads Plain) (t : Kind) (x : Plain) (ps : List Placed) (ts : List Token) → Comes_all reg read
    → Fits reg x t → refs x ≡ [] → IsSpellable x → bare ps ≡ tokens_of reg (v.any t x) ++ ts → Comes (any_of read ps) (v.any t x) ts
unfolding tokens_of
any_comes reg read t x ps ts all fits closed spellable e = by_void (is_void t) refl
  where
    void_is : (k : Kind) → is_void k ≡ true → k ≡ kd.void
    void_is kd.void f = refl
    void_is _ f = let bad : ⊥ = cc in absurd bad

    voidly : (k : Kind) (y : Plain) (p : Placed) (qs : List Placed) → ps ≡ p ∷ qs → p.token ≡ cast k → bare qs ≡ ts → k ≡ kd.void → y ≡ v.void
        → Comes (any_of read ps) (v.any k y) ts
    voidly k y p qs split token behind_it is_it empty =
        let casts : cast_in p.token ≡ Some kd.void = ap cast_in token ∙ ap Some is_it in
        let value_it : v.any k y ≡ v.any kd.void v.void = ap (λ j. v.any j y) is_it ∙ ap (v.any kd.void) empty in
        inr (qs, behind_it, rw (split, casts) (ap (λ z. Ok (z, qs)) (sym value_it)))

    valued : (p : Placed) (qs : List Placed) → ps ≡ p ∷ qs → p.token ≡ cast t → is_void t ≡ false → Comes (read t qs) x ts → Comes (any_of read ps) (v.any t x) ts
    valued p qs split token other come =
        let casts : cast_in p.token ≡ Some t = ap cast_in token in
        let opened : only_token cast_in ps ≡ Ok (t, qs) = rw (split, casts) refl in
        comes_behind (only_token cast_in ps) (t, qs) (λ y. held_by read y.0 y.1) (v.any t x) ts opened (rw other (made (read t qs) x (v.any t) ts come))

    by_void : (b : Bool) → is_void t ≡ b → Comes (any_of read ps) (v.any t x) ts
    by_void true is_it =
        let of_void = void_is t is_it in
        let empty : x ≡ v.void = void_fits reg x (subst (Fits reg x) of_void fits) in
        let whole : bare ps ≡ cast t ∷ ts = e ∙ ap (λ y. tokens_of reg (v.any t y) ++ ts) empty in
        let at = one_token ps (cast t) ts whole in
        voidly t x at.0 at.1 at.2 at.3 at.4 of_void empty
    by_void false other =
        let whole : bare ps ≡ cast t ∷ (tokens_of reg x ++ ts) = e ∙ ap (λ us. us ++ ts) (any_tokens reg t x fits other) in
        let at = one_token ps (cast t) (tokens_of reg x ++ ts) whole in
        valued at.0 at.1 at.2 at.3 other (all t x at.1 ts fits closed spellable at.4)

null_comes : (reg : List Entity) (read : Kind → Reads Plain) (r : Ref) (k : Kind) (ps : List Placed) (ts : List Token) → RefFits reg k r → object_in r ≡ []
    → bare ps ≡ ref_token r ∷ ts
    → Comes (value_step reg read k ps) (v.ref r) ts
unfolding value_step
null_comes reg read null (kd.interface name) ps ts fits closed e = single_comes reg (kd.interface name) (v.ref null) (word (codes "null")) ps ts e refl
null_comes reg read null kd.void ps ts fits closed e = absurd fits
null_comes reg read null _ ps ts fits closed e = absurd fits
null_comes reg read (own oid face) k ps ts fits closed e = let bad : ⊥ = cc in absurd bad
null_comes reg read (peer oid face) k ps ts fits closed e = let bad : ⊥ = cc in absurd bad

list_step : (reg : List Entity) (read : Kind → Reads Plain) (k : Kind) (ps : List Placed) → k ≢ kd.byte → value_step reg read (kd.sequence k) ps
    ≡ on_ok {B = Plain × List Placed} (sequence_of (read k) ps) (λ y. Ok (v.list k (plains y.0), y.1))
unfolding value_step
list_step reg read kd.byte ps other = absurd (other refl)
list_step reg read _ ps other = refl

tuple_comes : (reg : List Entity) (read : Kind → Reads Plain) (name : List ℕ) (vs : Plains) (k : Kind) (ps : List Placed) (ts : List Token)
    → Comes_all reg read → IsTupleKind name k → FitEach reg vs (member_kinds reg name) → refs_in vs ≡ [] → AreSpellable vs
    → bare ps ≡ opens curly ∷ (tokens_in reg true vs ++ closes curly ∷ ts) → Comes (value_step reg read k ps) (v.tuple name vs) ts
unfolding value_step
tuple_comes reg read name vs k ps ts all kind_it fits closed spellable e = by_kind k kind_it
  where
    made_it : Comes (on_ok {B = Plain × List Placed} (tuple_of read (member_kinds reg name) ps) (λ y. Ok (v.tuple name (plains y.0), y.1))) (v.tuple name vs) ts
    made_it = subst (λ z. Comes (on_ok {B = Plain × List Placed} (tuple_of read (member_kinds reg name) ps) (λ y. Ok (v.tuple name (plains y.0), y.1))) (v.tuple name z) ts) (list_back vs)
        (made (tuple_of read (member_kinds reg name) ps) (list_of vs) (λ xs. v.tuple name (plains xs)) ts (tuple_back reg read vs (member_kinds reg name) ps ts all fits closed spellable e))

    by_kind : (j : Kind) → IsTupleKind name j → Comes (value_step reg read j ps) (v.tuple name vs) ts
    by_kind j (inl same) = subst (λ i. Comes (value_step reg read i ps) (v.tuple name vs) ts) (sym same) made_it
    by_kind j (inr same) = subst (λ i. Comes (value_step reg read i ps) (v.tuple name vs) ts) (sym same) made_it

step_comes : (reg : List Entity) (read : Kind → Reads Plain) (k : Kind) (x : Plain) (ps : List Placed) (ts : List Token)
    → list_all items_differ reg ≡ true → Comes_all reg read → Fits reg x k → refs x ≡ [] → IsSpellable x → bare ps ≡ tokens_of reg x ++ ts
    → Comes (value_step reg read k ps) x ts
unfolding Fits refs IsSpellable tokens_of value_step
step_comes reg read k v.void ps ts differ all fits closed spellable e = subst (λ j. Comes (value_step reg read j ps) v.void ts) (sym fits)
    (single_comes reg kd.void v.void (word (codes "void")) ps ts e refl)
step_comes reg read k (v.char n) ps ts differ all fits closed spellable e = subst (λ j. Comes (value_step reg read j ps) (v.char n) ts) (sym fits)
    (single_comes reg kd.char (v.char n) (number (pos n)) ps ts e (ap (some_as v.char) (unsigned_back 16 n spellable)))
step_comes reg read k (v.boolean true) ps ts differ all fits closed spellable e = subst (λ j. Comes (value_step reg read j ps) (v.boolean true) ts)
    (sym fits) (single_comes reg kd.boolean (v.boolean true) (word (codes "true")) ps ts e refl)
step_comes reg read k (v.boolean false) ps ts differ all fits closed spellable e = subst (λ j. Comes (value_step reg read j ps) (v.boolean false) ts)
    (sym fits) (single_comes reg kd.boolean (v.boolean false) (word (codes "false")) ps ts e refl)
step_comes reg read k (v.byte n) ps ts differ all fits closed spellable e = subst (λ j. Comes (value_step reg read j ps) (v.byte n) ts) (sym fits)
    (single_comes reg kd.byte (v.byte n) (number n) ps ts e (ap (some_as v.byte) (signed_back w8 n spellable)))
step_comes reg read k (v.short n) ps ts differ all fits closed spellable e = subst (λ j. Comes (value_step reg read j ps) (v.short n) ts) (sym fits)
    (single_comes reg kd.short (v.short n) (number n) ps ts e (ap (some_as v.short) (signed_back w16 n spellable)))
step_comes reg read k (v.unsigned_short n) ps ts differ all fits closed spellable e =
    subst (λ j. Comes (value_step reg read j ps) (v.unsigned_short n) ts) (sym fits)
    (single_comes reg kd.unsigned_short (v.unsigned_short n) (number (pos n)) ps ts e (ap (some_as v.unsigned_short) (unsigned_back 16 n spellable)))
step_comes reg read k (v.long n) ps ts differ all fits closed spellable e = subst (λ j. Comes (value_step reg read j ps) (v.long n) ts) (sym fits)
    (single_comes reg kd.long (v.long n) (number n) ps ts e (ap (some_as v.long) (signed_back w32 n spellable)))
step_comes reg read k (v.unsigned_long n) ps ts differ all fits closed spellable e =
    subst (λ j. Comes (value_step reg read j ps) (v.unsigned_long n) ts) (sym fits)
    (single_comes reg kd.unsigned_long (v.unsigned_long n) (number (pos n)) ps ts e (ap (some_as v.unsigned_long) (unsigned_back 32 n spellable)))
step_comes reg read k (v.hyper n) ps ts differ all fits closed spellable e = subst (λ j. Comes (value_step reg read j ps) (v.hyper n) ts) (sym fits)
    (single_comes reg kd.hyper (v.hyper n) (number n) ps ts e (ap (some_as v.hyper) (signed_back w64 n spellable)))
step_comes reg read k (v.unsigned_hyper n) ps ts differ all fits closed spellable e =
    subst (λ j. Comes (value_step reg read j ps) (v.unsigned_hyper n) ts) (sym fits)
    (single_comes reg kd.unsigned_hyper (v.unsigned_hyper n) (number (pos n)) ps ts e (ap (some_as v.unsigned_hyper) (unsigned_back 64 n spellable)))
step_comes reg read k (v.str s) ps ts differ all fits closed spellable e = subst (λ j. Comes (value_step reg read j ps) (v.str s) ts) (sym fits) (single_comes reg kd.str (v.str s) (string s) ps ts e refl)
step_comes reg read k (v.kind t) ps ts differ all fits closed spellable e = subst (λ j. Comes (value_step reg read j ps) (v.kind t) ts) (sym fits.0)
    (single_comes reg kd.kind (v.kind t) (named t) ps ts e refl)
step_comes reg read k (v.any t x) ps ts differ all fits closed spellable e = subst (λ j. Comes (value_step reg read j ps) (v.any t x) ts) (sym fits.0)
    (any_comes reg read t x ps ts all fits.3 closed spellable e)
step_comes reg read k (v.enum name n) ps ts differ all fits closed spellable e =
    subst (λ j. Comes (value_step reg read j ps) (v.enum name n) ts) (sym fits.0)
    (single_comes reg (kd.enum name) (v.enum name n) (item_token (first_item (items_of (find_entity name reg)) n) n) ps ts e
    (ap (some_as (v.enum name)) (item_back (items_of (find_entity name reg)) n (found_differ reg name differ) spellable)))
step_comes reg read k (v.tuple name vs) ps ts differ all fits closed spellable e = tuple_comes reg read name vs k ps ts all fits.0 fits.2 closed spellable
    (bracketed (opens curly) (closes curly) (tokens_in reg true vs) ts (bare ps) e)
step_comes reg read k (v.list t vs) ps ts differ all fits closed spellable e =
    let come = list_comes reg read t vs ps ts all fits.3 closed spellable (bracketed (opens square) (closes square) (tokens_in reg true vs) ts (bare ps) e) in
    let made_it = made (sequence_of (read t) ps) (list_of vs) (λ xs. v.list t (plains xs)) ts come in
    let value_it = subst (λ z. Comes (on_ok {B = Plain × List Placed} (sequence_of (read t) ps) (λ y. Ok (v.list t (plains y.0), y.1))) (v.list t z) ts) (list_back vs) made_it in
    let step_it = subst (λ r. Comes r (v.list t vs) ts) (sym (list_step reg read t ps fits.1)) value_it in
    subst (λ j. Comes (value_step reg read j ps) (v.list t vs) ts) (sym fits.0) step_it
step_comes reg read k (v.bytes b) ps ts differ all fits closed spellable e =
    let come = bytes_come reg b ps ts spellable (bracketed (opens square) (closes square) (byte_tokens true b) ts (bare ps) e) in
    subst (λ j. Comes (value_step reg read j ps) (v.bytes b) ts) (sym fits) (made (sequence_of (only_token byte_in) ps) b v.bytes ts come)
step_comes reg read k (v.ref r) ps ts differ all fits closed spellable e = null_comes reg read r k ps ts fits closed e

-- what fits is read, unless it is nested too deep
pub within_comes : (levels : ℕ) (reg : List Entity) → list_all items_differ reg ≡ true → Comes_all reg (value_within levels reg)
unfolding value_within
within_comes zero reg differ k x ps ts fits closed spellable e = inl refl
within_comes (suc levels) reg differ k x ps ts fits closed spellable e =
    let type = fits_type reg x k fits closed in
    let come = step_comes reg (value_within levels reg) k x ps ts differ (within_comes levels reg differ) fits closed spellable e in
    rw type come
