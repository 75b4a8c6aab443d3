-- The flags of a property, both ways: each stands in its place, with a comma between any two.
use Rattle.std.proofs.Common.{◌≡◌, ℕ, zero, suc, Bool, true, false, not, ◌==◌, List, [], ◌∷◌, ◌++◌, length, Option, None, Some, refl, sym, ap, subst}
use Rattle.std.proofs.Common.{◌∙◌, codes, arith}
use Rattle.std.specs.List.{list_all, list_any, flat_map}
use Rattle.std.specs.Str.{bytes_eq}
use Rattle.std.proofs.lemmas.Bool.{and_parts, and_from, and_left, both_ways, not-true, not_from_false, false_from_ne_true, or_parts}
use Rattle.std.proofs.lemmas.List.{append-nil}
use Rattle.std.proofs.lemmas.Slice.Eq.{bytes_eq-Decides}
use Rattle.uno_model.proofs.AllLaws.{all_append}
use Rattle.uno_model.proofs.Options.{same_some, none_some}
use Rattle.uno_model.specs.Sound.{all_differ}
use Rattle.uno_model.specs.declared.flags.Flags.{Flags}
use Rattle.registry_text_model.specs.Lines.{flag_word, flag_words, joined_by_commas}
use Rattle.registry_reading_model.specs.Words.{split_at, first_flag, take_flag, flags_left, all_taken, flags_of}
use Rattle.registry_reading_model.proofs.WordLaws.{lacks, split_forth, split_none, split_back, same_word}

-- words with commas between them, where there are any
abbrev pub joined : List (List ℕ) → Option (List ℕ)
joined [] = None
joined (w ∷ ws) = Some (w ++ flat_map (λ v. 44 ∷ v) ws)

-- those of the names that are chosen
abbrev pub of_names : List (List ℕ) → List Bool → List (List ℕ)
of_names [] bs = []
of_names (n ∷ ns) [] = []
of_names (n ∷ ns) (b ∷ bs) = flag_word b n ++ of_names ns bs

-- which of the names stand in a text, one after the other, and what is left behind them
abbrev pub take_flags : List (List ℕ) → Option (List ℕ) → List Bool × Option (List ℕ)
take_flags [] left = ([], left)
take_flags (n ∷ ns) left = ((take_flag n left).0 ∷ (take_flags ns (take_flag n left).1).0, (take_flags ns (take_flag n left).1).1)

-- the first word is another
abbrev begins_otherwise : List ℕ → List (List ℕ) → Bool
begins_otherwise n [] = true
begins_otherwise n (w ∷ ws) = not (bytes_eq w n)

-- ---- one flag

-- what is split off the front of joined words is the first of them
first_of_joined : (w : List ℕ) (ws : List (List ℕ)) → lacks 44 w ≡ true → (left : List ℕ) → joined (w ∷ ws) ≡ Some left
    → first_flag (split_at 44 left) left ≡ (w, joined ws)
first_of_joined w [] none left is =
    let e : w ≡ left = sym (append-nil w) ∙ same_some is in
    subst (λ l. first_flag (split_at 44 l) l ≡ (w, None)) e (rw (split_none 44 w none) refl)
first_of_joined w (v ∷ vs) none left is =
    let e : w ++ 44 ∷ (v ++ flat_map (λ u. 44 ∷ u) vs) ≡ left = same_some is in
    subst (λ l. first_flag (split_at 44 l) l ≡ (w, Some (v ++ flat_map (λ u. 44 ∷ u) vs))) e
    (rw (split_forth 44 w (v ++ flat_map (λ u. 44 ∷ u) vs) none) refl)

not_taken : (n : List ℕ) (ws : List (List ℕ)) → list_all (lacks 44) ws ≡ true → begins_otherwise n ws ≡ true
    → take_flag n (joined ws) ≡ (false, joined ws)
not_taken n [] none other = refl
not_taken n (w ∷ ws) none other =
    let first = first_of_joined w ws (and_parts (lacks 44 w) (list_all (lacks 44) ws) none).0 (w ++ flat_map (λ v. 44 ∷ v) ws) refl in
    rw (first, not-true (bytes_eq w n) other) refl

taken : (n : List ℕ) (ws : List (List ℕ)) → lacks 44 n ≡ true → take_flag n (joined (n ∷ ws)) ≡ (true, joined ws)
taken n ws none =
    let first = first_of_joined n ws none (n ++ flat_map (λ v. 44 ∷ v) ws) refl in
    rw (first, (bytes_eq-Decides n n).1 refl) refl

-- ---- all of them

all_chosen : (P : List ℕ → Bool) (ns : List (List ℕ)) (bs : List Bool) → list_all P ns ≡ true → list_all P (of_names ns bs) ≡ true
all_chosen P [] bs all = refl
all_chosen P (n ∷ ns) [] all = refl
all_chosen P (n ∷ ns) (true ∷ bs) all = let parts = and_parts (P n) (list_all P ns) all in and_from (P n) (list_all P (of_names ns bs)) parts.0
    (all_chosen P ns bs parts.1)
all_chosen P (n ∷ ns) (false ∷ bs) all = let parts = and_parts (P n) (list_all P ns) all in all_chosen P ns bs parts.1

others : (n : List ℕ) (ns : List (List ℕ)) (bs : List Bool) → list_any (bytes_eq n) ns ≡ false → begins_otherwise n (of_names ns bs) ≡ true
others n [] bs none = refl
others n (m ∷ ns) [] none = refl
others n (m ∷ ns) (true ∷ bs) none =
    let other = (or_parts (bytes_eq n m) (list_any (bytes_eq n) ns) none).0 in
    not_from_false (bytes_eq m n) (false_from_ne_true (bytes_eq m n)
    (λ e. both_ways (bytes_eq n m) other ((bytes_eq-Decides n m).1 (sym (same_word m n e)))))
others n (m ∷ ns) (false ∷ bs) none = others n ns bs (or_parts (bytes_eq n m) (list_any (bytes_eq n) ns) none).1

names_forth : (ns : List (List ℕ)) (bs : List Bool) → list_all (lacks 44) ns ≡ true → all_differ ns ≡ true → length bs ≡ length ns
    → take_flags ns (joined (of_names ns bs)) ≡ (bs, None)
unfolding all_differ
names_forth [] [] none differ long = refl
names_forth [] (b ∷ bs) none differ long = let bad : ⊥ = omega (arith, long) in absurd bad
names_forth (n ∷ ns) [] none differ long = let bad : ⊥ = omega (arith, long) in absurd bad
names_forth (n ∷ ns) (true ∷ bs) none differ long =
    let lack = and_parts (lacks 44 n) (list_all (lacks 44) ns) none in
    let apart = and_parts (not (list_any (bytes_eq n) ns)) (all_differ ns) differ in
    rw (taken n (of_names ns bs) lack.0, names_forth ns bs lack.1 apart.1 (omega (arith, long))) refl
names_forth (n ∷ ns) (false ∷ bs) none differ long =
    let lack = and_parts (lacks 44 n) (list_all (lacks 44) ns) none in
    let apart = and_parts (not (list_any (bytes_eq n) ns)) (all_differ ns) differ in
    rw (
      not_taken n (of_names ns bs) (all_chosen (lacks 44) ns bs lack.1)
          (others n ns bs (not-true (list_any (bytes_eq n) ns) apart.0)),
      names_forth ns bs lack.1 apart.1 (omega (arith, long)),
    ) refl

last_one : (n left : List ℕ) (ws : List (List ℕ)) → left ≡ n → None ≡ joined ws → Some left ≡ joined (n ∷ ws)
last_one n left [] e rest = ap Some (e ∙ sym (append-nil n))
last_one n left (w ∷ ws) e rest = absurd (none_some rest)

more_behind : (n left r : List ℕ) (ws : List (List ℕ)) → left ≡ n ++ 44 ∷ r → Some r ≡ joined ws → Some left ≡ joined (n ∷ ws)
more_behind n left r [] e rest = absurd (none_some (sym rest))
more_behind n left r (w ∷ ws) e rest = ap Some (e ∙ ap (λ t. n ++ 44 ∷ t) (same_some rest))

one_back : (n : List ℕ) (left : Option (List ℕ)) (ws : List (List ℕ)) → (take_flag n left).1 ≡ joined ws
    → left ≡ joined (flag_word (take_flag n left).0 n ++ ws)
one_back n None ws rest = rest
one_back n (Some left) ws rest = by_split (split_at 44 left) refl rest
  where
    Is : Bool × Option (List ℕ) → Type 0
    Is t = t.1 ≡ joined ws → Some left ≡ joined (flag_word t.0 n ++ ws)

    by_word : (o : Option (List ℕ × List ℕ)) → split_at 44 left ≡ o → (t : Bool) → bytes_eq (first_flag o left).0 n ≡ t → Is (take_flag n (Some left))
    by_word o is false other rest = let kept : Some left ≡ joined ws = rw (is, other) at rest in rw (is, other) kept
    by_word None is true same rest =
        let none : None ≡ joined ws = rw (is, same) at rest in
        rw (is, same) (last_one n left ws (same_word left n same) none)
    by_word (Some x) is true same rest =
        let more : Some x.1 ≡ joined ws = rw (is, same) at rest in
        let text : left ≡ n ++ 44 ∷ x.1 = (split_back 44 left x is).0 ∙ ap (λ w. w ++ 44 ∷ x.1) (same_word x.0 n same) in
        rw (is, same) (more_behind n left x.1 ws text more)

    by_split : (o : Option (List ℕ × List ℕ)) → split_at 44 left ≡ o → Is (take_flag n (Some left))
    by_split o is = by_word o is (bytes_eq (first_flag o left).0 n) refl

names_back : (ns : List (List ℕ)) (left : Option (List ℕ)) → (take_flags ns left).1 ≡ None → left ≡ joined (of_names ns (take_flags ns left).0)
names_back [] left rest = rest
names_back (n ∷ ns) left rest = one_back n left (of_names ns (take_flags ns (take_flag n left).1).0) (names_back ns (take_flag n left).1 rest)

-- ---- the flags of a property

abbrev pub flag_names : List (List ℕ)
flag_names =
    codes "bound" ∷ (codes "constrained" ∷ (codes "maybeambiguous" ∷
    (codes "maybedefault" ∷ (codes "maybevoid" ∷ (codes "optional" ∷ (codes "readonly" ∷ (codes "removable" ∷ (codes "transient" ∷ []))))))))

abbrev pub bits : Flags → List Bool
bits f =
    f.bound ∷ (f.constrained ∷ (f.maybeambiguous ∷
    (f.maybedefault ∷ (f.maybevoid ∷ (f.optional ∷ (f.readonly ∷ (f.removable ∷ (f.transient ∷ []))))))))

abbrev bit : ℕ → List Bool → Bool
bit n [] = false
bit zero (b ∷ bs) = b
bit (suc n) (b ∷ bs) = bit n bs

abbrev of_bits : List Bool → Flags
of_bits bs =
    record {
      bound = bit 0 bs;
      constrained = bit 1 bs;
      maybeambiguous = bit 2 bs;
      maybedefault = bit 3 bs;
      maybevoid = bit 4 bs;
      optional = bit 5 bs;
      readonly = bit 6 bs;
      removable = bit 7 bs;
      transient = bit 8 bs;
    }

words_are : (f : Flags) → of_names flag_names (bits f) ≡ flag_words f
unfolding flag_words
words_are f = rw (append-nil (flag_word f.transient (codes "transient"))) refl

left_are : (left : Option (List ℕ)) → take_flags flag_names left ≡ (bits (flags_left left).0, (flags_left left).1)
unfolding flags_left
left_are left = refl

names_differ : all_differ flag_names ≡ true
unfolding all_differ
names_differ = refl

left_forth : (f : Flags) → flags_left (joined (flag_words f)) ≡ (f, None)
left_forth f =
    let read : take_flags flag_names (joined (flag_words f)) ≡ (bits f, None) = ap (λ ws. take_flags flag_names (joined ws)) (sym (words_are f))
    ∙ names_forth flag_names (bits f) refl names_differ refl in
    ap (λ x. (of_bits x.0, x.1)) (sym (left_are (joined (flag_words f))) ∙ read)

left_back : (left : Option (List ℕ)) (f : Flags) → flags_left left ≡ (f, None) → left ≡ joined (flag_words f)
left_back left f read =
    let taken_all : take_flags flag_names left ≡ (bits f, None) = left_are left ∙ ap (λ x. (bits x.0, x.1)) read in
    let back = names_back flag_names left (ap (λ x. x.1) taken_all) in
    back ∙ ap (λ bs. joined (of_names flag_names bs)) (ap (λ x. x.0) taken_all) ∙ ap joined (words_are f)

-- a word that begins with another byte than `-`
abbrev begins_plain : List ℕ → Bool
begins_plain [] = false
begins_plain (c ∷ cs) = not (c == 45)

no_dash : (w rest : List ℕ) → begins_plain w ≡ true → bytes_eq (w ++ rest) (codes "-") ≡ false
no_dash [] rest plain = absurd (both_ways false refl plain)
no_dash (c ∷ cs) rest plain = and_left (c == 45) (bytes_eq (cs ++ rest) []) (not-true (c == 45) plain)

all_words : (P : List ℕ → Bool) (f : Flags) → list_all P flag_names ≡ true → list_all P (flag_words f) ≡ true
all_words P f all = subst (λ ws. list_all P ws ≡ true) (words_are f) (all_chosen P flag_names (bits f) all)

pub flags_forth : (f : Flags) → flags_of (joined_by_commas (flag_words f)) ≡ Some f
unfolding flags_of joined_by_commas
flags_forth f = by_words (flag_words f) refl (all_words begins_plain f refl)
  where
    by_words : (ws : List (List ℕ)) → flag_words f ≡ ws → list_all begins_plain (flag_words f) ≡ true → flags_of (joined_by_commas ws) ≡ Some f
    by_words [] are plain = ap all_taken (ap (λ ws. flags_left (joined ws)) (sym are) ∙ left_forth f)
    by_words (w ∷ ws) are plain =
        let front = and_parts (begins_plain w) (list_all begins_plain ws) (rw are at plain) in
        let reads : flags_left (joined (w ∷ ws)) ≡ (f, None) = ap (λ vs. flags_left (joined vs)) (sym are) ∙ left_forth f in
        rw (no_dash w (flat_map (λ v. 44 ∷ v) ws) front.0) (ap all_taken reads)

none_left : (x : Flags × Option (List ℕ)) (f : Flags) → all_taken x ≡ Some f → x ≡ (f, None)
none_left (g, None) f is = ap (λ h. (h, None)) (same_some is)
none_left (g, Some left) f is = absurd (none_some is)

of_joined : (ws : List (List ℕ)) (w : List ℕ) → Some w ≡ joined ws → w ≡ joined_by_commas ws
unfolding joined_by_commas
of_joined [] w is = absurd (none_some (sym is))
of_joined (v ∷ vs) w is = same_some is

of_nothing : (ws : List (List ℕ)) → None ≡ joined ws → codes "-" ≡ joined_by_commas ws
unfolding joined_by_commas
of_nothing [] is = refl
of_nothing (v ∷ vs) is = absurd (none_some is)

pub flags_back : (w : List ℕ) (f : Flags) → flags_of w ≡ Some f → w ≡ joined_by_commas (flag_words f)
unfolding flags_of
flags_back w f read = by_test (bytes_eq w (codes "-")) refl read
  where
    by_test : (t : Bool) → bytes_eq w (codes "-") ≡ t → flags_of w ≡ Some f → w ≡ joined_by_commas (flag_words f)
    by_test true dash read =
        let none : all_taken (flags_left None) ≡ Some f = rw dash at read in
        same_word w (codes "-") dash ∙ of_nothing (flag_words f) (left_back None f (none_left (flags_left None) f none))
    by_test false other read =
        let some : all_taken (flags_left (Some w)) ≡ Some f = rw other at read in
        of_joined (flag_words f) w (left_back (Some w) f (none_left (flags_left (Some w)) f some))

-- ---- a test that each byte of flags passes

module _ (P : ℕ → Bool) where
  all_behind_commas : (ws : List (List ℕ)) → P 44 ≡ true → list_all (list_all P) ws ≡ true → list_all P (flat_map (λ w. 44 ∷ w) ws) ≡ true
  all_behind_commas [] comma all = refl
  all_behind_commas (w ∷ ws) comma all =
      let parts = and_parts (list_all P w) (list_all (list_all P) ws) all in
      and_from (P 44) (list_all P (w ++ flat_map (λ v. 44 ∷ v) ws)) comma
      (all_append P w (flat_map (λ v. 44 ∷ v) ws) parts.0 (all_behind_commas ws comma parts.1))

  all_joined : (ws : List (List ℕ)) → P 44 ≡ true → P 45 ≡ true → list_all (list_all P) ws ≡ true → list_all P (joined_by_commas ws) ≡ true
  unfolding joined_by_commas
  all_joined [] comma dash all = and_from (P 45) true dash refl
  all_joined (w ∷ ws) comma dash all =
      let parts = and_parts (list_all P w) (list_all (list_all P) ws) all in
      all_append P w (flat_map (λ v. 44 ∷ v) ws) parts.0 (all_behind_commas ws comma parts.1)

  pub flags_all : (f : Flags) → P 44 ≡ true → P 45 ≡ true → list_all (list_all P) flag_names ≡ true
      → list_all P (joined_by_commas (flag_words f)) ≡ true
  flags_all f comma dash all = all_joined (flag_words f) comma dash (all_words (list_all P) f all)
