-- Sets that see more names, one row after the other.
use Rattle.std.proofs.Common.{◌≡◌, ◌≢◌, ℕ, ◌+◌, ◌-◌, ◌<◌, ◌≤◌, Bool, true, false, not, ◌&&◌, ◌||◌, List, [], ◌∷◌, ◌++◌, map, take, drop, length, get_or, cond}
use Rattle.std.proofs.Common.{refl, sym, ap, subst, ◌∙◌, inl, inr, arith, Bor, append_assoc, append-nil}
use Rattle.std.specs.BTreeSet.{BTreeSet, contains_by, contains, IsEmpty, IsUnchanged, Updates, UpdatesBy}
use Rattle.std.specs.Bool.{OnFalse}
use Rattle.std.specs.Prelude.{Contains}
use Rattle.std.specs.BTreeMap.{is_at}
use Rattle.std.specs.Prelude.{codes}
use Rattle.std.specs.List.{list_any, flat_map}
use Rattle.std.specs.Str.{bytes_eq}
use Rattle.std.proofs.lemmas.Cmp.{nat_list_eq_equiv}
use Rattle.std.proofs.lemmas.List.{append_cancel_left, length-append, length-map, map-append, same_from_push, take-append-drop, take_more, take_all}
use Rattle.std.proofs.lemmas.List.Elements.{Contains-append_left, Contains-push, Contains-push_cases}
use Rattle.std.proofs.lemmas.List.Concat.{flat_map-append, flat_map_single}
use Rattle.std.proofs.lemmas.List.Folds.{list_any-append}
use Rattle.std.proofs.lemmas.Map.Text.{is_eq-slice_cmp}
use Rattle.std.proofs.lemmas.Slice.Eq.{bytes_eq-Decides}
use Rattle.uno_model.specs.Sound.{all_differ}
use Rattle.rules_over_bases.specs.OwnNames.{getter_name, setter_name}
use Rattle.rules_over_bases.specs.Seen.{by_text, IsPlain, IsEntry, entry_name, SetsHave, HasSeen, Sees, Forgets, ForgetsLast, TakesBack}
use Rattle.rules_over_bases.specs.declared.seen.Entry.{Entry}
use Rattle.rules_over_bases.specs.declared.seen.Entry.TheVariants.{Getter, Setter, Other}
use Rattle.rules_over_bases.specs.declared.seen.Seen.{Seen}

-- ---- names that differ

or_false : (b : Bool) → (b || false) ≡ b
or_false true = refl
or_false false = refl

any_last : (p : List ℕ → Bool) (names : List (List ℕ)) (n : List ℕ) → list_any p (names ++ n ∷ []) ≡ (list_any p names || p n)
any_last p names n = list_any-append p names (n ∷ []) ∙ ap (λ b. list_any p names || b) (or_false (p n))

-- one name behind others
pub differ_last : (names : List (List ℕ)) (n : List ℕ) → all_differ names ≡ true → all_differ (names ++ n ∷ []) ≡ not (list_any (bytes_eq n) names)
unfolding all_differ
differ_last [] n differ = refl
differ_last (m ∷ ms) n differ =
    step (list_any (bytes_eq m) ms) (all_differ ms) (bytes_eq m n) (bytes_eq n m) (list_any (bytes_eq n) ms) (list_any (bytes_eq m) (ms ++ n ∷ [])) (all_differ (ms ++ n ∷ []))
    differ (nat_list_eq_equiv.symm m n) (any_last (bytes_eq m) ms n) (λ d. differ_last ms n d)
  where
    step : (again rest forth back among again_now rest_now : Bool) → (not again && rest) ≡ true → forth ≡ back → again_now ≡ (again || forth)
        → (rest ≡ true → rest_now ≡ not among) → (not again_now && rest_now) ≡ not (back || among)
    step true rest forth back among again_now rest_now differ same now behind = let bad : false ≡ true = differ in cc
    step false false forth back among again_now rest_now differ same now behind = let bad : false ≡ true = differ in cc
    step false true true back among again_now rest_now differ same now behind = rw (← same, now) refl
    step false true false back among again_now rest_now differ same now behind = rw (← same, now) (behind refl)

-- names that do not differ do not with more behind them
pub differ_front : (names more : List (List ℕ)) → all_differ names ≡ false → all_differ (names ++ more) ≡ false
unfolding all_differ
differ_front [] more twins = let bad : true ≡ false = twins in cc
differ_front (m ∷ ms) more twins =
    step (list_any (bytes_eq m) ms) (all_differ ms) (list_any (bytes_eq m) more) (list_any (bytes_eq m) (ms ++ more)) (all_differ (ms ++ more))
    twins (list_any-append (bytes_eq m) ms more) (λ e. differ_front ms more e)
  where
    none : (b : Bool) → (b && false) ≡ false
    none true = refl
    none false = refl

    step : (again rest among again_now rest_now : Bool) → (not again && rest) ≡ false → again_now ≡ (again || among) → (rest ≡ false → rest_now ≡ false)
        → (not again_now && rest_now) ≡ false
    step true rest among again_now rest_now twins now behind = rw now refl
    step false true among again_now rest_now twins now behind = let bad : true ≡ false = twins in cc
    step false false among again_now rest_now twins now behind = rw (behind refl) (none (not again_now))

-- ---- what names begin with

pub told_apart : (x y : List ℕ) → x ≢ y → bytes_eq x y ≡ false
told_apart x y other = by_test (bytes_eq x y) refl
  where
    by_test : (b : Bool) → bytes_eq x y ≡ b → bytes_eq x y ≡ false
    by_test false is = is
    by_test true is = absurd (other ((bytes_eq-Decides x y).0 is))

same_test : (x y a b : List ℕ) → (x ≡ y → a ≡ b) → (a ≡ b → x ≡ y) → bytes_eq x y ≡ bytes_eq a b
same_test x y a b to from = by_test (bytes_eq a b) refl
  where
    clash : (t : Bool) → t ≡ false → t ≡ true → ⊥
    clash t no_so so = let bad : false ≡ true = sym no_so ∙ so in cc

    by_test : (t : Bool) → bytes_eq a b ≡ t → bytes_eq x y ≡ t
    by_test true is = (bytes_eq-Decides x y).1 (from ((bytes_eq-Decides a b).0 is))
    by_test false is = told_apart x y (λ e. clash (bytes_eq a b) is ((bytes_eq-Decides a b).1 (to e)))

getters_alike : (a b : List ℕ) → bytes_eq (getter_name a) (getter_name b) ≡ bytes_eq a b
unfolding getter_name
getters_alike a b = same_test _ _ a b (λ e. append_cancel_left (codes "get:") a b e) (λ e. ap getter_name e)

setters_alike : (a b : List ℕ) → bytes_eq (setter_name a) (setter_name b) ≡ bytes_eq a b
unfolding setter_name
setters_alike a b = same_test _ _ a b (λ e. append_cancel_left (codes "set:") a b e) (λ e. ap setter_name e)

first_of : List ℕ → ℕ
first_of [] = 0
first_of (c ∷ cs) = c

pub no_getter_sets : (a b : List ℕ) → getter_name a ≢ setter_name b
unfolding getter_name setter_name first_of
no_getter_sets a b e = let bad : ◌≡◌ {A = ℕ} 103 115 = ap first_of e in absurd (omega (arith, bad))

-- ---- one set with a name more, and the others without it

set_more : (old new : BTreeSet (Bor (List ℕ))) (name q : Bor (List ℕ)) (asked added : List ℕ) (names : List (List ℕ)) → Updates by_text old new name true
    → contains_by (by_text q) old ≡ list_any (bytes_eq asked) names → bytes_eq asked added ≡ bytes_eq q.now name.now
    → contains_by (by_text q) new ≡ list_any (bytes_eq asked) (names ++ added ∷ [])
set_more old new name q asked added names updates has alike =
    let same = is_eq-slice_cmp name.now q.now ∙ nat_list_eq_equiv.symm name.now q.now in
    let last = any_last (bytes_eq asked) names added in
    updates.0 q ∙ grind (arith, same, has, alike, last)

set_kept : (set : BTreeSet (Bor (List ℕ))) (q : Bor (List ℕ)) (asked added : List ℕ) (names : List (List ℕ)) → contains_by (by_text q) set ≡ list_any (bytes_eq asked) names
    → bytes_eq asked added ≡ false → contains_by (by_text q) set ≡ list_any (bytes_eq asked) (names ++ added ∷ [])
set_kept set q asked added names has apart =
    has ∙ sym (any_last (bytes_eq asked) names added ∙ ap (λ b. list_any (bytes_eq asked) names || b) apart ∙ or_false (list_any (bytes_eq asked) names))

swapped : (x y : List ℕ) → x ≢ y → y ≢ x
swapped x y other e = other (sym e)

-- one set without its last name, and the others as they were
alone : (names : List (List ℕ)) (n : List ℕ) → all_differ (names ++ n ∷ []) ≡ true → (all_differ names ≡ true) × (list_any (bytes_eq n) names ≡ false)
alone names n differ = by_test (all_differ names) refl
  where
    clash : (b : Bool) → b ≡ false → b ≡ true → ⊥
    clash b no_so so = let bad : false ≡ true = sym no_so ∙ so in absurd cc

    not_so : (b : Bool) → not b ≡ true → b ≡ false
    not_so false is = refl
    not_so true is = let bad : false ≡ true = is in absurd cc

    by_test : (b : Bool) → all_differ names ≡ b → (all_differ names ≡ true) × (list_any (bytes_eq n) names ≡ false)
    by_test true is = (is, not_so _ (sym (differ_last names n is) ∙ differ))
    by_test false is = absurd (clash (all_differ (names ++ n ∷ [])) (differ_front names (n ∷ []) is) differ)

set_left : (set : BTreeSet (Bor (List ℕ))) (q : Bor (List ℕ)) (asked last : List ℕ) (names : List (List ℕ)) → contains_by (by_text q) set ≡ list_any (bytes_eq asked) (names ++ last ∷ [])
    → bytes_eq asked last ≡ false → contains_by (by_text q) set ≡ list_any (bytes_eq asked) names
set_left set q asked last names has apart = has ∙ any_last (bytes_eq asked) names last ∙ ap (λ b. list_any (bytes_eq asked) names || b) apart ∙ or_false (list_any (bytes_eq asked) names)

set_less : (old new : BTreeSet (Bor (List ℕ))) (name q : Bor (List ℕ)) (asked last : List ℕ) (names : List (List ℕ)) → UpdatesBy by_text (by_text name) old new false
    → contains_by (by_text q) old ≡ list_any (bytes_eq asked) (names ++ last ∷ []) → bytes_eq asked last ≡ bytes_eq q.now name.now → all_differ (names ++ last ∷ []) ≡ true
    → contains_by (by_text q) new ≡ list_any (bytes_eq asked) names
set_less old new name q asked last names updates has alike differ = by_test (bytes_eq q.now name.now) refl
  where
    same : is_at (by_text name) q ≡ bytes_eq q.now name.now
    same = is_eq-slice_cmp name.now q.now ∙ nat_list_eq_equiv.symm name.now q.now

    by_test : (b : Bool) → bytes_eq q.now name.now ≡ b → contains_by (by_text q) new ≡ list_any (bytes_eq asked) names
    by_test true is =
        let here : asked ≡ last = (bytes_eq-Decides asked last).0 (alike ∙ is) in
        updates.0 q ∙ ap (λ b. cond b false (contains_by (by_text q) old)) (same ∙ is) ∙ sym (ap (λ n. list_any (bytes_eq n) names) here ∙ (alone names last differ).1)
    by_test false is =
        updates.0 q ∙ ap (λ b. cond b false (contains_by (by_text q) old)) (same ∙ is) ∙ set_left old q asked last names has (alike ∙ is)

same_set : (old new : BTreeSet (Bor (List ℕ))) (q : Bor (List ℕ)) → new ≡ old → contains_by (by_text q) new ≡ contains_by (by_text q) old
same_set old new q same = ap (λ s. contains_by (by_text q) s) same

-- ---- the three kinds of names

no_entries : (entries : List Entry) (entry : Entry) → entries ≡ [] → Contains entries entry → IsEntry entry
no_entries entries entry none has = let bad = subst (λ (es : List Entry). Contains es entry) none has in absurd (omega (arith, bad.1))

pub none_seen : (seen : Seen) → IsEmpty seen.getters → IsEmpty seen.setters → IsEmpty seen.others → seen.entries.items ≡ [] → HasSeen seen []
unfolding all_differ
none_seen seen getters setters others none =
    record {
      sets = record {
        read = λ q. ap (list_any (is_at (by_text q))) getters;
        written = λ q. ap (list_any (is_at (by_text q))) setters;
        plain = λ q is. ap (list_any (is_at (by_text q))) others;
        differ = refl;
      };
      listed = ap (map entry_name) none;
      told = λ entry has. no_entries seen.entries.items entry none has;
    }

-- one entry more
with_entry : (old new : Seen) (entry : Entry) (names : List (List ℕ)) → IsEntry entry → new.entries.items ≡ old.entries.items ++ entry ∷ [] → HasSeen old names
    → SetsHave new (names ++ entry_name entry ∷ []) → HasSeen new (names ++ entry_name entry ∷ [])
with_entry old new entry names fine entries has sets = record {
  sets = sets;
  listed = ap (map entry_name) entries ∙ map-append entry_name old.entries.items (entry ∷ []) ∙ ap (λ ns. ns ++ entry_name entry ∷ []) has.listed;
  told = λ e there. elim (Contains-push_cases old.entries.items entry e (subst (λ (es : List Entry). Contains es e) entries there)) [
    | inl before ↦ has.told e before
    | inr here ↦ subst IsEntry here fine
  ];
}

sees_new : (old new : Seen) (entry : Entry) → IsEntry entry → new.entries.items ≡ old.entries.items ++ entry ∷ []
    → ((names : List (List ℕ)) → HasSeen old names → SetsHave new (names ++ entry_name entry ∷ [])) → Sees old new (entry_name entry ∷ []) true
sees_new old new entry fine entries sets = record {
  told = λ names has. sym (sets names has).differ;
  seen = λ names has yes. with_entry old new entry names fine entries has (sets names has);
  some = λ names has. (entry_name entry ∷ [], with_entry old new entry names fine entries has (sets names has));
}

-- the name was seen before, and nothing changes
sees_again : (old new : Seen) (name : List ℕ) → ((names : List (List ℕ)) → HasSeen old names → all_differ (names ++ name ∷ []) ≡ false)
    → ((names : List (List ℕ)) → HasSeen old names → HasSeen new names) → Sees old new (name ∷ []) false
sees_again old new name twice kept = record {
  told = λ names has. sym (twice names has);
  seen = λ names has yes. let bad : false ≡ true = yes in absurd cc;
  some = λ names has. ([], subst (HasSeen new) (sym (append-nil names)) (kept names has));
}

kept_keys : (old new : BTreeSet (Bor (List ℕ))) (added : Bool) → OnFalse added (IsUnchanged old new) → added ≡ false → (q : Bor (List ℕ))
    → contains_by (by_text q) new ≡ contains_by (by_text q) old
kept_keys old new false same is q = ap (list_any (is_at (by_text q))) same
kept_keys old new true same is q = let bad : true ≡ false = is in absurd cc

module _ (old new : Seen) (name : Bor (List ℕ)) (added : Bool) where
  module _ (told : added ≡ not (contains by_text old.getters name)) where
    getter_told : (names : List (List ℕ)) → HasSeen old names → all_differ (names ++ getter_name name.now ∷ []) ≡ added
    getter_told names has = differ_last names (getter_name name.now) has.sets.differ ∙ sym (told ∙ ap not (has.sets.read name))

    pub sees_getter : Updates by_text old.getters new.getters name true → new.setters ≡ old.setters → new.others ≡ old.others
        → new.entries.items ≡ old.entries.items ++ Getter name ∷ [] → added ≡ true → Sees old new (getter_name name.now ∷ []) true
    sees_getter updates setters others entries is = sees_new old new (Getter name) tt entries (λ names has. record {
      read = λ q. set_more old.getters new.getters name q (getter_name q.now) (getter_name name.now) names updates (has.sets.read q) (getters_alike q.now name.now);
      written = λ q. same_set old.setters new.setters q setters
          ∙ set_kept old.setters q (setter_name q.now) (getter_name name.now) names (has.sets.written q) (told_apart _ _ (swapped _ _ (no_getter_sets name.now q.now)));
      plain = λ q fine. same_set old.others new.others q others
          ∙ set_kept old.others q q.now (getter_name name.now) names (has.sets.plain q fine) (told_apart _ _ (fine.reads_none name.now));
      differ = getter_told names has ∙ is;
    })

    pub repeats_getter : OnFalse added (IsUnchanged old.getters new.getters) → new.setters ≡ old.setters → new.others ≡ old.others → new.entries.items ≡ old.entries.items
        → added ≡ false → Sees old new (getter_name name.now ∷ []) false
    repeats_getter same setters others entries is = sees_again old new (getter_name name.now) (λ names has. getter_told names has ∙ is) (λ names has. record {
      sets = record {
        read = λ q. kept_keys old.getters new.getters added same is q ∙ has.sets.read q;
        written = λ q. same_set old.setters new.setters q setters ∙ has.sets.written q;
        plain = λ q fine. same_set old.others new.others q others ∙ has.sets.plain q fine;
        differ = has.sets.differ;
      };
      listed = ap (map entry_name) entries ∙ has.listed;
      told = λ e there. has.told e (subst (λ (es : List Entry). Contains es e) entries there);
    })

  module _ (told : added ≡ not (contains by_text old.setters name)) where
    setter_told : (names : List (List ℕ)) → HasSeen old names → all_differ (names ++ setter_name name.now ∷ []) ≡ added
    setter_told names has = differ_last names (setter_name name.now) has.sets.differ ∙ sym (told ∙ ap not (has.sets.written name))

    pub sees_setter : Updates by_text old.setters new.setters name true → new.getters ≡ old.getters → new.others ≡ old.others
        → new.entries.items ≡ old.entries.items ++ Setter name ∷ [] → added ≡ true → Sees old new (setter_name name.now ∷ []) true
    sees_setter updates getters others entries is = sees_new old new (Setter name) tt entries (λ names has. record {
      read = λ q. same_set old.getters new.getters q getters
          ∙ set_kept old.getters q (getter_name q.now) (setter_name name.now) names (has.sets.read q) (told_apart _ _ (no_getter_sets q.now name.now));
      written = λ q. set_more old.setters new.setters name q (setter_name q.now) (setter_name name.now) names updates (has.sets.written q) (setters_alike q.now name.now);
      plain = λ q fine. same_set old.others new.others q others
          ∙ set_kept old.others q q.now (setter_name name.now) names (has.sets.plain q fine) (told_apart _ _ (fine.writes_none name.now));
      differ = setter_told names has ∙ is;
    })

    pub repeats_setter : OnFalse added (IsUnchanged old.setters new.setters) → new.getters ≡ old.getters → new.others ≡ old.others → new.entries.items ≡ old.entries.items
        → added ≡ false → Sees old new (setter_name name.now ∷ []) false
    repeats_setter same getters others entries is = sees_again old new (setter_name name.now) (λ names has. setter_told names has ∙ is) (λ names has. record {
      sets = record {
        read = λ q. same_set old.getters new.getters q getters ∙ has.sets.read q;
        written = λ q. kept_keys old.setters new.setters added same is q ∙ has.sets.written q;
        plain = λ q fine. same_set old.others new.others q others ∙ has.sets.plain q fine;
        differ = has.sets.differ;
      };
      listed = ap (map entry_name) entries ∙ has.listed;
      told = λ e there. has.told e (subst (λ (es : List Entry). Contains es e) entries there);
    })

  module _ (plain : IsPlain name.now) (told : added ≡ not (contains by_text old.others name)) where
    plain_told : (names : List (List ℕ)) → HasSeen old names → all_differ (names ++ name.now ∷ []) ≡ added
    plain_told names has = differ_last names name.now has.sets.differ ∙ sym (told ∙ ap not (has.sets.plain name plain))

    pub sees_plain : Updates by_text old.others new.others name true → new.getters ≡ old.getters → new.setters ≡ old.setters
        → new.entries.items ≡ old.entries.items ++ Other name ∷ [] → added ≡ true → Sees old new (name.now ∷ []) true
    sees_plain updates getters setters entries is = sees_new old new (Other name) plain entries (λ names has. record {
      read = λ q. same_set old.getters new.getters q getters
          ∙ set_kept old.getters q (getter_name q.now) name.now names (has.sets.read q) (told_apart _ _ (swapped _ _ (plain.reads_none q.now)));
      written = λ q. same_set old.setters new.setters q setters
          ∙ set_kept old.setters q (setter_name q.now) name.now names (has.sets.written q) (told_apart _ _ (swapped _ _ (plain.writes_none q.now)));
      plain = λ q fine. set_more old.others new.others name q q.now name.now names updates (has.sets.plain q fine) refl;
      differ = plain_told names has ∙ is;
    })

    pub repeats_plain : OnFalse added (IsUnchanged old.others new.others) → new.getters ≡ old.getters → new.setters ≡ old.setters → new.entries.items ≡ old.entries.items
        → added ≡ false → Sees old new (name.now ∷ []) false
    repeats_plain same getters setters entries is = sees_again old new name.now (λ names has. plain_told names has ∙ is) (λ names has. record {
      sets = record {
        read = λ q. same_set old.getters new.getters q getters ∙ has.sets.read q;
        written = λ q. same_set old.setters new.setters q setters ∙ has.sets.written q;
        plain = λ q fine. kept_keys old.others new.others added same is q ∙ has.sets.plain q fine;
        differ = has.sets.differ;
      };
      listed = ap (map entry_name) entries ∙ has.listed;
      told = λ e there. has.told e (subst (λ (es : List Entry). Contains es e) entries there);
    })

-- ---- names that are taken back

module _ (old new : Seen) (name : Bor (List ℕ)) where
  pub forgets_getter : UpdatesBy by_text (by_text name) old.getters new.getters false → new.setters ≡ old.setters → new.others ≡ old.others → Forgets (getter_name name.now) old new
  forgets_getter updates setters others names has = record {
    read = λ q. set_less old.getters new.getters name q (getter_name q.now) (getter_name name.now) names updates (has.read q) (getters_alike q.now name.now) has.differ;
    written = λ q. same_set old.setters new.setters q setters
        ∙ set_left old.setters q (setter_name q.now) (getter_name name.now) names (has.written q) (told_apart _ _ (swapped _ _ (no_getter_sets name.now q.now)));
    plain = λ q is. same_set old.others new.others q others
        ∙ set_left old.others q q.now (getter_name name.now) names (has.plain q is) (told_apart _ _ (is.reads_none name.now));
    differ = (alone names (getter_name name.now) has.differ).0;
  }

  pub forgets_setter : UpdatesBy by_text (by_text name) old.setters new.setters false → new.getters ≡ old.getters → new.others ≡ old.others → Forgets (setter_name name.now) old new
  forgets_setter updates getters others names has = record {
    read = λ q. same_set old.getters new.getters q getters
        ∙ set_left old.getters q (getter_name q.now) (setter_name name.now) names (has.read q) (told_apart _ _ (no_getter_sets q.now name.now));
    written = λ q. set_less old.setters new.setters name q (setter_name q.now) (setter_name name.now) names updates (has.written q) (setters_alike q.now name.now) has.differ;
    plain = λ q is. same_set old.others new.others q others
        ∙ set_left old.others q q.now (setter_name name.now) names (has.plain q is) (told_apart _ _ (is.writes_none name.now));
    differ = (alone names (setter_name name.now) has.differ).0;
  }

  pub forgets_plain : UpdatesBy by_text (by_text name) old.others new.others false → new.getters ≡ old.getters → new.setters ≡ old.setters → IsPlain name.now → Forgets name.now old new
  forgets_plain updates getters setters fine names has = record {
    read = λ q. same_set old.getters new.getters q getters
        ∙ set_left old.getters q (getter_name q.now) name.now names (has.read q) (told_apart _ _ (swapped _ _ (fine.reads_none q.now)));
    written = λ q. same_set old.setters new.setters q setters
        ∙ set_left old.setters q (setter_name q.now) name.now names (has.written q) (told_apart _ _ (swapped _ _ (fine.writes_none q.now)));
    plain = λ q is. set_less old.others new.others name q q.now name.now names updates (has.plain q is) refl has.differ;
    differ = (alone names name.now has.differ).0;
  }

pub forgets_last : (old new : Seen) (entry : Entry) → old.entries.items ≡ new.entries.items ++ entry ∷ []
    → (IsEntry entry → (names : List (List ℕ)) → SetsHave old (names ++ entry_name entry ∷ []) → SetsHave new names) → ForgetsLast old new
forgets_last old new entry popped forgets names name has =
    let listed : map entry_name new.entries.items ++ entry_name entry ∷ [] ≡ names ++ name ∷ [] =
    sym (ap (map entry_name) popped ∙ map-append entry_name new.entries.items (entry ∷ [])) ∙ has.listed in
    let same = same_from_push (map entry_name new.entries.items) names (entry_name entry) name listed in
    let fine = has.told entry (subst (λ (es : List Entry). Contains es entry) (sym popped) (Contains-push new.entries.items entry)) in
    record {
      sets = forgets fine names (subst (λ (n : List ℕ). SetsHave old (names ++ n ∷ [])) (sym same.1) has.sets);
      listed = same.0;
      told = λ e there. has.told e (subst (λ (es : List Entry). Contains es e) (sym popped) (Contains-append_left new.entries.items (entry ∷ []) e there));
    }

-- where there is no entry, no name was seen
pub none_last : (old new : Seen) → length old.entries.items ≡ 0 → ForgetsLast old new
none_last old new none names name has =
    let long : length old.entries.items ≡ length (names ++ name ∷ []) = sym (length-map old.entries.items entry_name) ∙ ap length has.listed in
    absurd (omega (arith, long, none, length-append names (name ∷ [])))

-- no more names than there are entries are left, and no fewer than are to be left
abbrev pub TakenTo : Seen → Seen → ℕ → Type 0
TakenTo first now count = (names : List (List ℕ)) → HasSeen first names → count ≤ length names
    → HasSeen now (take (length now.entries.items) names) × (count ≤ length now.entries.items) × (length now.entries.items ≤ length names)

pub seen_length : (seen : Seen) (names : List (List ℕ)) → HasSeen seen names → length seen.entries.items ≡ length names
seen_length seen names has = sym (length-map seen.entries.items entry_name) ∙ ap length has.listed

pub taken_first : (seen : Seen) (count : ℕ) → TakenTo seen seen count
taken_first seen count names has low =
    let long = seen_length seen names has in
    (subst (HasSeen seen) (sym (take_all (length seen.entries.items) names (omega (arith, long)))) has, omega (arith, long, low), omega (arith, long))

pub taken_one_more : (first now next : Seen) (count : ℕ) → TakenTo first now count → ForgetsLast now next → length next.entries.items ≡ length now.entries.items - 1
    → count < length now.entries.items → TakenTo first next count
taken_one_more first now next count before forgets fewer more names has low =
    let was = before names has low in
    let left = length next.entries.items in
    let one : length now.entries.items ≡ left + 1 = omega (arith, fewer, more) in
    let split : take (length now.entries.items) names ≡ take left names ++ get_or names left [] ∷ [] =
    ap (λ n. take n names) one ∙ take_more names left [] (omega (arith, one, was.2)) in
    (forgets (take left names) (get_or names left []) (subst (HasSeen now) split was.0), omega (arith, one, more), omega (arith, one, was.2))

pub taken_all : (first now : Seen) (count : ℕ) → TakenTo first now count → length now.entries.items ≤ count → TakesBack first now count
taken_all first now count taken low names has within =
    let last = taken names has within in
    let long : length now.entries.items ≡ count = omega (arith, low, last.1) in
    subst (λ n. HasSeen now (take n names)) long last.0

-- ---- rows of names

pub sees_none : (seen : Seen) → Sees seen seen [] true
sees_none seen = record {
  told = λ names has. sym (ap all_differ (append-nil names) ∙ has.sets.differ);
  seen = λ names has yes. subst (HasSeen seen) (sym (append-nil names)) has;
  some = λ names has. ([], subst (HasSeen seen) (sym (append-nil names)) has);
}

pub sees_then : (old mid new : Seen) (first more : List (List ℕ)) (are_new : Bool) → Sees old mid first true → Sees mid new more are_new → Sees old new (first ++ more) are_new
sees_then old mid new first more are_new before after = record {
  told = λ names has. after.told (names ++ first) (before.seen names has refl) ∙ ap all_differ (append_assoc names first more);
  seen = λ names has yes. subst (HasSeen new) (append_assoc names first more) (after.seen (names ++ first) (before.seen names has refl) yes);
  some = λ names has. let further = after.some (names ++ first) (before.seen names has refl) in (first ++ further.0, subst (HasSeen new) (append_assoc names first further.0) further.1);
}

pub sees_stop : (old new : Seen) (first more : List (List ℕ)) → Sees old new first false → Sees old new (first ++ more) false
sees_stop old new first more before = record {
  told = λ names has. sym (ap all_differ (sym (append_assoc names first more)) ∙ differ_front (names ++ first) more (sym (before.told names has)));
  seen = λ names has yes. let bad : false ≡ true = yes in cc;
  some = λ names has. before.some names has;
}

-- the names that were seen from the start on differ as the answer says
pub sees_all : (start new : Seen) (names : List (List ℕ)) (are_new : Bool) → HasSeen start [] → Sees start new names are_new → are_new ≡ all_differ names
sees_all start new names are_new none sees = sees.told [] none

-- ---- rows of names along a list

-- one item more brings its row
flat_more : {X : Type 0} (f : X → List (List ℕ)) (xs : List X) (i : ℕ) (d : X) → i < length xs → flat_map f (take (i + 1) xs) ≡ flat_map f (take i xs) ++ f (get_or xs i d)
flat_more f xs i d within =
    ap (flat_map f) (take_more xs i d within) ∙ flat_map-append f (take i xs) (get_or xs i d ∷ []) ∙ ap (λ l. flat_map f (take i xs) ++ l) (append-nil (f (get_or xs i d)))

pub sees_item : {X : Type 0} (f : X → List (List ℕ)) (xs : List X) (i : ℕ) (x : X) (old mid new : Seen) (are_new : Bool) → i < length xs → x ≡ get_or xs i x
    → Sees old mid (flat_map f (take i xs)) true → Sees mid new (f x) are_new → Sees old new (flat_map f (take (i + 1) xs)) are_new
sees_item f xs i x old mid new are_new within is before after =
    subst (λ ns. Sees old new ns are_new) (sym (flat_more f xs i x within ∙ ap (λ y. flat_map f (take i xs) ++ f y) (sym is)))
    (sees_then old mid new (flat_map f (take i xs)) (f x) are_new before after)

pub sees_on : {X : Type 0} (f : X → List (List ℕ)) (xs : List X) (i : ℕ) (x : X) (old mid new : Seen) (are_new : Bool) → i < length xs → x ≡ get_or xs i x
    → Sees old mid (flat_map f (take i xs)) true → Sees mid new (f x) are_new → are_new ≡ true → Sees old new (flat_map f (take (i + 1) xs)) true
sees_on f xs i x old mid new are_new within is before after all_new =
    sees_item f xs i x old mid new true within is before (subst (Sees mid new (f x)) all_new after)

-- where the row of one item repeats a name, so does that of all
pub sees_stop_at : {X : Type 0} (f : X → List (List ℕ)) (xs : List X) (i : ℕ) (x : X) (old mid new : Seen) (are_new : Bool) → i < length xs → x ≡ get_or xs i x
    → Sees old mid (flat_map f (take i xs)) true → Sees mid new (f x) are_new → are_new ≡ false → Sees old new (flat_map f xs) false
sees_stop_at f xs i x old mid new are_new within is before after twins =
    subst (λ ns. Sees old new ns false) (sym (flat_map-append f (take (i + 1) xs) (drop (i + 1) xs)) ∙ ap (flat_map f) (take-append-drop (i + 1) xs))
    (sees_stop old new (flat_map f (take (i + 1) xs)) (flat_map f (drop (i + 1) xs))
    (sees_item f xs i x old mid new false within is before (subst (Sees mid new (f x)) twins after)))

pub sees_end : {X : Type 0} (f : X → List (List ℕ)) (xs : List X) (i : ℕ) (old new : Seen) → length xs ≤ i → Sees old new (flat_map f (take i xs)) true
    → Sees old new (flat_map f xs) true
sees_end f xs i old new over before = subst (λ ns. Sees old new ns true) (ap (flat_map f) (take_all i xs over)) before

-- ---- what a name is whose beginning was taken off

pub is_getter : (name attribute : List ℕ) (n : ℕ) → name ≡ codes "get:" ++ drop n name → attribute ≡ drop n name → name ≡ getter_name attribute
unfolding getter_name
is_getter name attribute n begins is = begins ∙ ap (λ r. codes "get:" ++ r) (sym is)

pub is_setter : (name attribute : List ℕ) (n : ℕ) → name ≡ codes "set:" ++ drop n name → attribute ≡ drop n name → name ≡ setter_name attribute
unfolding setter_name
is_setter name attribute n begins is = begins ∙ ap (λ r. codes "set:" ++ r) (sym is)

pub is_plain : (name : List ℕ) → ((rest : List ℕ) → name ≢ codes "get:" ++ rest) → ((rest : List ℕ) → name ≢ codes "set:" ++ rest) → IsPlain name
unfolding getter_name setter_name
is_plain name reads writes = record { reads_none = reads; writes_none = writes }

-- ---- rows of one name each

names_alone : {X : Type 0} (f : X → List ℕ) (xs : List X) → flat_map (λ x. f x ∷ []) xs ≡ map f xs
names_alone f xs = flat_map_single f xs

pub row_on : {X : Type 0} (f : X → List ℕ) (xs : List X) (i : ℕ) (x : X) (old mid new : Seen) (name : List ℕ) (is_new : Bool) → i < length xs → x ≡ get_or xs i x
    → name ≡ f x
    → Sees old mid (flat_map (λ y. f y ∷ []) (take i xs)) true → Sees mid new (name ∷ []) is_new → is_new ≡ true
    → Sees old new (flat_map (λ y. f y ∷ []) (take (i + 1) xs)) true
row_on f xs i x old mid new name is_new within is named before after all_new =
    sees_on (λ y. f y ∷ []) xs i x old mid new is_new within is before (subst (λ (n : List ℕ). Sees mid new (n ∷ []) is_new) named after) all_new

pub row_stops : {X : Type 0} (f : X → List ℕ) (xs : List X) (i : ℕ) (x : X) (old mid new : Seen) (name : List ℕ) (is_new : Bool) → i < length xs → x ≡ get_or xs i x
    → name ≡ f x
    → Sees old mid (flat_map (λ y. f y ∷ []) (take i xs)) true → Sees mid new (name ∷ []) is_new → is_new ≡ false → Sees old new (map f xs) false
row_stops f xs i x old mid new name is_new within is named before after twins =
    subst (λ ns. Sees old new ns false) (names_alone f xs)
    (sees_stop_at (λ y. f y ∷ []) xs i x old mid new is_new within is before (subst (λ (n : List ℕ). Sees mid new (n ∷ []) is_new) named after) twins)

pub row_ends : {X : Type 0} (f : X → List ℕ) (xs : List X) (i : ℕ) (old new : Seen) → length xs ≤ i → Sees old new (flat_map (λ y. f y ∷ []) (take i xs)) true
    → Sees old new (map f xs) true
row_ends f xs i old new over before = subst (λ ns. Sees old new ns true) (names_alone f xs) (sees_end (λ y. f y ∷ []) xs i old new over before)
