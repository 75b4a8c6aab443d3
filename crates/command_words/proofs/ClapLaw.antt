-- What the definition accepts clap takes, and its rows show what the words are.
use Rattle.std.proofs.Common.{◌≡◌, ◌∙◌, ℕ, ◌+◌, Bool, true, false, not, ◌||◌, List, [], ◌∷◌, ◌++◌, Option, None, Some, option_map, codes, refl, sym, ap, subst, rules, append_assoc, append-nil, is_some, ◌⊎◌, inl, inr, fold, take, drop, ◌<◌, length, arith, eqb-true}
use Rattle.std.specs.Prelude.{unwrap_or, if◌then◌else◌}
use Rattle.std.specs.List.{list_any, before_first, after_first, position_or_len}
use Rattle.std.specs.Str.{bytes_eq}
use Rattle.std.proofs.lemmas.List.{take-append-drop, drop_more}
use Rattle.std.proofs.lemmas.List.Sums.{passes_at_first}
use Rattle.std.proofs.lemmas.List.Sums.{prefix_len-le-length}
use Rattle.std.proofs.lemmas.Slice.Eq.{bytes_eq-Decides}
use Rattle.clap.specs.Walk.{Held, Row, Rule, Text, with_default, finished, walk, walk_from, nothing_held, Waiting, Walk, all_of, has_row, without, walked, option, positional, settled, used}
use Rattle.clap.specs.declared.error.kind.ErrorKind.{ErrorKind}
use Rattle.clap.specs.declared.error.kind.ErrorKind.TheVariants.{OutOfMemory}
use Rattle.clap.specs.declared.builder.value_parser.Reading.TheVariants.{AsWritten}
use Rattle.clap.specs.declared.parser.matches.ValueSource.TheVariants.{CommandLine}
use Rattle.clap.specs.Kinds.{Kinds, IsAmong, or_else}
use Rattle.clap.specs.Simple.{App, is_simple, matches_of, built, entered as clap_entered}
use Rattle.clap.specs.Faults.{fault_of, is_simple_and_free, entered_fault, check_fault, default_fault, defaults_fault, given_default_fault, turn_fault, walk_fault, settle_fault}
use Rattle.command_words.specs.Names.{option_named, is_option}
use Rattle.command_words.specs.Numbers.{values_of}
use Rattle.command_words.specs.Parts.{Apart, Chosen, apart, onto, joined, begins_with_hyphen, is_end, is_equals}
use Rattle.command_words.specs.ByClap.{Slot, id_of, rule_at, uno, as_row, Shows, IsFine, AreFine, IsAccepted}
use Rattle.command_words.specs.declared.option_name.OptionName.{OptionName}
use Rattle.command_words.specs.declared.option_name.OptionName.TheVariants.{Seed, Cut, Threads, Sessions}
use Rattle.command_words.proofs.Rows.{added_same, added_other, has_none, without_none}
use Rattle.command_words.proofs.Taking.{value_taken, plain_taken, both_taken, name_taken, end_taken, no_name, no_option, all_taken, waits_still, no_equals, onto_nothing}
use Rattle.command_words.proofs.Walking

-- ---- values of options

one_more : (o : OptionName) (c : Chosen) (b : Bool) → is_option c.option o ≡ b → (cs : List Chosen) → values_of o (c ∷ cs) ≡ (if b then c.value ∷ values_of o cs else values_of o cs)
unfolding values_of
one_more o c b e cs = rw e refl

values_next : (o : OptionName) (c : Chosen) (cs ds : List Chosen) (b : Bool) → is_option c.option o ≡ b → values_of o (cs ++ ds) ≡ values_of o cs ++ values_of o ds
    → values_of o (c ∷ (cs ++ ds)) ≡ values_of o (c ∷ cs) ++ values_of o ds
values_next o c cs ds true e next = one_more o c true e (cs ++ ds) ∙ ap (λ vs. c.value ∷ vs) next ∙ ap (λ vs. vs ++ values_of o ds) (sym (one_more o c true e cs))
values_next o c cs ds false e next = one_more o c false e (cs ++ ds) ∙ next ∙ ap (λ vs. vs ++ values_of o ds) (sym (one_more o c false e cs))

pub values-append : (o : OptionName) (cs ds : List Chosen) → values_of o (cs ++ ds) ≡ values_of o cs ++ values_of o ds
unfolding values_of
values-append o [] ds = refl
values-append o (c ∷ cs) ds = values_next o c cs ds (is_option c.option o) refl (values-append o cs ds)

same_option : (o : OptionName) → is_option o o ≡ true
same_option Seed = refl
same_option Cut = refl
same_option Threads = refl
same_option Sessions = refl

-- a value that is among fine ones is the first of its option
first_only : (us : List Text) (v : Text) (vs : List Text) → IsFine (us ++ v ∷ vs) → (us ≡ []) × (begins_with_hyphen v ≡ false)
first_only [] v [] fine = (refl, fine)
first_only [] v (w ∷ vs) fine = absurd fine
first_only (u ∷ []) v vs fine = absurd fine
first_only (u ∷ t ∷ us) v vs fine = absurd fine

pub is_first_value : (o : OptionName) (v : Text) (cs ds : List Chosen) → IsFine (values_of o ((cs ++ record { option = o; value = v } ∷ []) ++ ds))
    → (values_of o cs ≡ []) × (begins_with_hyphen v ≡ false)
is_first_value o v cs ds fine =
    let c : Chosen = record { option = o; value = v } in
    let parts : values_of o ((cs ++ c ∷ []) ++ ds) ≡ values_of o cs ++ (v ∷ values_of o ds) =
    ap (values_of o) (append_assoc cs (c ∷ []) ds) ∙ values-append o cs (c ∷ ds) ∙ ap (λ vs. values_of o cs ++ vs) (one_more o c true (same_option o) ds) in
    first_only (values_of o cs) v (values_of o ds) (subst IsFine parts fine)

-- ---- what the rows show after one more use

plain_row : (ws : List Text) (w : Text) → Some (unwrap_or (as_row ws) [] ++ w ∷ []) ≡ as_row (ws ++ w ∷ [])
plain_row [] w = refl
plain_row (v ∷ ws) w = refl

words_differ : (o : OptionName) → bytes_eq (codes "words") (id_of (Some o)) ≡ false
words_differ Seed = refl
words_differ Cut = refl
words_differ Threads = refl
words_differ Sessions = refl

options_differ : (o : OptionName) → bytes_eq (id_of (Some o)) (codes "words") ≡ false
options_differ Seed = refl
options_differ Cut = refl
options_differ Threads = refl
options_differ Sessions = refl

-- two options are one, or their names differ
data Beside (o p : OptionName) : Type 0 where
  same : o ≡ p → Beside o p
  differ : is_option o p ≡ false → bytes_eq (id_of (Some o)) (id_of (Some p)) ≡ false → Beside o p

beside : (o p : OptionName) → Beside o p
beside Seed Seed = same refl
beside Cut Cut = same refl
beside Threads Threads = same refl
beside Sessions Sessions = same refl
beside Seed Cut = differ refl refl
beside Seed Threads = differ refl refl
beside Seed Sessions = differ refl refl
beside Cut Seed = differ refl refl
beside Cut Threads = differ refl refl
beside Cut Sessions = differ refl refl
beside Threads Seed = differ refl refl
beside Threads Cut = differ refl refl
beside Threads Sessions = differ refl refl
beside Sessions Seed = differ refl refl
beside Sessions Cut = differ refl refl
beside Sessions Threads = differ refl refl

pub shows_plain : (rows : List Row) (q : Apart) (w : Text) → Shows rows q → Shows (Walking.entered rows (Some (None, w))) (record { plain = q.plain ++ w ∷ []; choices = q.choices })
shows_plain rows q w shows = record {
  plain = added_same _ _ _ _ rows ∙ ap (λ vs. Some (unwrap_or vs [] ++ w ∷ [])) shows.plain ∙ plain_row q.plain w;
  each = λ o. added_other _ _ _ _ _ (words_differ o) rows ∙ shows.each o;
}

no_row : (rows : List Row) (q : Apart) (o : OptionName) → Shows rows q → values_of o q.choices ≡ [] → has_row (id_of (Some o)) rows ≡ false
no_row rows q o shows none = has_none (id_of (Some o)) rows (shows.each o ∙ ap as_row none)

-- the rows with the value of an option
abbrev pub with_option : OptionName → Text → List Row → List Row
with_option o v rows = used (rule_at (Some o)) (v ∷ []) rows

module _ (rows : List Row) (q : Apart) (o : OptionName) (v : Text) (shows : Shows rows q) (none : values_of o q.choices ≡ []) where
  absent : without (id_of (Some o)) rows ≡ rows
  absent = without_none (id_of (Some o)) rows (no_row rows q o shows none)

  this : Chosen
  this = record { option = o; value = v }

  shows_same : all_of (id_of (Some o)) (with_option o v rows) ≡ as_row (values_of o (q.choices ++ record { option = o; value = v } ∷ []))
  unfolding values_of
  shows_same =
      let value : values_of o (q.choices ++ record { option = o; value = v } ∷ []) ≡ v ∷ [] =
      values-append o q.choices (record { option = o; value = v } ∷ []) ∙ ap (λ vs. vs ++ values_of o (record { option = o; value = v } ∷ [])) none ∙ one_more o (record { option = o; value = v }) true (same_option o) [] in
      let before : all_of (id_of (Some o)) (without (id_of (Some o)) rows) ≡ None = ap (all_of (id_of (Some o))) absent ∙ shows.each o ∙ ap as_row none in
      added_same (id_of (Some o)) AsWritten CommandLine (v ∷ []) (without (id_of (Some o)) rows) ∙ ap (λ vs. Some (unwrap_or vs [] ++ v ∷ [])) before ∙ ap as_row (sym value)

  shows_each : (p : OptionName) → Beside o p → all_of (id_of (Some p)) (with_option o v rows) ≡ as_row (values_of p (q.choices ++ record { option = o; value = v } ∷ []))
  unfolding values_of
  shows_each p (same is) = subst (λ p. all_of (id_of (Some p)) (with_option o v rows) ≡ as_row (values_of p (q.choices ++ record { option = o; value = v } ∷ []))) is shows_same
  shows_each p (differ other names) =
      let value : values_of p (q.choices ++ record { option = o; value = v } ∷ []) ≡ values_of p q.choices =
      values-append p q.choices (record { option = o; value = v } ∷ []) ∙ ap (λ vs. values_of p q.choices ++ vs) (one_more p (record { option = o; value = v }) false other []) ∙ append-nil (values_of p q.choices) in
      added_other (id_of (Some o)) AsWritten CommandLine (v ∷ []) (id_of (Some p)) names (without (id_of (Some o)) rows) ∙ ap (all_of (id_of (Some p))) absent ∙ shows.each p ∙ ap as_row (sym value)

  pub shows_choice : Shows (with_option o v rows) (record { plain = q.plain; choices = q.choices ++ record { option = o; value = v } ∷ [] })
  shows_choice = record {
    plain = added_other (id_of (Some o)) AsWritten CommandLine (v ∷ []) (codes "words") (options_differ o) (without (id_of (Some o)) rows) ∙ ap (all_of (codes "words")) absent ∙ shows.plain;
    each = λ p. shows_each p (beside o p);
  }

-- ---- names of options

pick : (word : Text) (o : OptionName) (a b c d : Bool) → (a ≡ true → word ≡ codes "--seed") → (b ≡ true → word ≡ codes "--cut") → (c ≡ true → word ≡ codes "--threads")
    → (d ≡ true → word ≡ codes "--sessions")
    → (if a then Some Seed else (if b then Some Cut else (if c then Some Threads else (if d then Some Sessions else None)))) ≡ Some o → word ≡ codes "--" ++ id_of (Some o)
pick word o true b c d p q r s e = let is : Seed ≡ o = cc in subst (λ o. word ≡ codes "--" ++ id_of (Some o)) is (p refl)
pick word o false true c d p q r s e = let is : Cut ≡ o = cc in subst (λ o. word ≡ codes "--" ++ id_of (Some o)) is (q refl)
pick word o false false true d p q r s e = let is : Threads ≡ o = cc in subst (λ o. word ≡ codes "--" ++ id_of (Some o)) is (r refl)
pick word o false false false true p q r s e = let is : Sessions ≡ o = cc in subst (λ o. word ≡ codes "--" ++ id_of (Some o)) is (s refl)
pick word o false false false false p q r s e = let bad : ⊥ = cc in absurd bad

named_is : (word : Text) (o : OptionName) → option_named word ≡ Some o → word ≡ codes "--" ++ id_of (Some o)
unfolding option_named
named_is word o e = pick word o _ _ _ _ ((bytes_eq-Decides word (codes "--seed")).0) ((bytes_eq-Decides word (codes "--cut")).0) ((bytes_eq-Decides word (codes "--threads")).0)
    ((bytes_eq-Decides word (codes "--sessions")).0) e

-- ---- the walk

pub record Ended (w : Walk) (whole : Apart) : Type 0 where
  pub rows : List Row
  pub given : Option (Slot × Text)
  pub stands : w.held ≡ Walking.held rows (Walking.pending_of given)
  pub stopped : w.stopped ≡ None
  pub first : Walking.IsFirst rows given
  pub shows : Shows (Walking.entered rows given) whole

-- clap takes the words from here on, and its rows show this in the end
pub record Taken (w : Walk) (words : List Text) (whole : Apart) : Type 0 where
  pub faults : walk_fault Walking.top [] w words ≡ []
  pub ended : Ended (fold (walked Walking.top.rules []) w words) whole

step : (w next : Walk) (word : Text) (words : List Text) (whole : Apart) → turn_fault Walking.top [] w word ≡ [] → walked Walking.top.rules [] w word ≡ next → Taken next words whole → Taken w (word ∷ words) whole
unfolding walk_fault
step w next word words whole fault is taken = record {
  faults = rw (fault, is) taken.faults;
  ended = rw is taken.ended;
}

trailing : (words : List Text) (rows : List Row) (given : Option (Slot × Text)) (waiting : Waiting) (q whole : Apart) → Walking.IsFirst rows given → Shows (Walking.entered rows given) q
    → record { plain = q.plain ++ words; choices = q.choices } ≡ whole → Taken (Walking.at rows (Walking.pending_of given) waiting true) words whole
unfolding walk_fault
trailing [] rows given waiting q whole first shows is =
    let same : q ≡ whole = ap (λ (ws : List Text). record { plain = ws; choices = q.choices }) (sym (append-nil q.plain)) ∙ is in
    record { faults = refl; ended = record { rows = rows; given = given; stands = refl; stopped = refl; first = first; shows = subst (λ a. Shows (Walking.entered rows given) a) same shows } }
trailing (word ∷ words) rows given waiting q whole first shows is =
    step _ _ word words whole (Walking.trail_fault rows given waiting word (Walking.settles rows given first)) (Walking.trails rows given waiting word)
    (trailing words (Walking.entered rows given) (Some (None, word)) positional (record { plain = q.plain ++ word ∷ []; choices = q.choices }) whole tt (shows_plain _ q word shows)
    (ap (λ (ws : List Text). record { plain = ws; choices = q.choices }) (append_assoc q.plain (word ∷ []) words) ∙ is))

-- what follows is behind what there was
behind : (p whole : Apart) (o : Option Apart) → option_map (joined p) o ≡ Some whole → (more : List Chosen) × (whole.choices ≡ p.choices ++ more)
behind p whole None e = let bad : ⊥ = cc in absurd bad
behind p whole (Some more) e = let is : joined p more ≡ whole = cc in (more.choices, sym (ap (λ (a : Apart). a.choices) is))

choices_behind : (p whole : Apart) (waiting : Option OptionName) (words : List Text) → onto p waiting words ≡ Some whole → (more : List Chosen) × (whole.choices ≡ p.choices ++ more)
unfolding onto
choices_behind p whole waiting words e = behind p whole (apart waiting words) e

-- the next choice is the first of its option
fresh : (q whole : Apart) (o : OptionName) (v : Text) (words : List Text) → AreFine whole
    → onto (record { plain = q.plain; choices = q.choices ++ record { option = o; value = v } ∷ [] }) None words ≡ Some whole → (values_of o q.choices ≡ []) × (begins_with_hyphen v ≡ false)
fresh q whole o v words fine e =
    let more = choices_behind _ whole None words e in
    is_first_value o v q.choices more.0 (subst (λ cs. IsFine (values_of o cs)) more.1 (fine o))

position_within : (word : Text) → list_any is_equals word ≡ true → position_or_len is_equals word < length word
position_within word has =
    let most = prefix_len-le-length (λ c. not (is_equals c)) word in
    let differ : position_or_len is_equals word ≡ length word → ⊥ = λ e. let none = no_equals word e in cc in
    omega (arith, most, differ)

-- what stands on both sides of the first `=`
split_at_equals : (word : Text) → list_any is_equals word ≡ true → word ≡ before_first is_equals word ++ 61 ∷ after_first is_equals word
split_at_equals word has =
    let within = position_within word has in
    sym (take-append-drop (position_or_len is_equals word) word)
    ∙ ap (λ xs. take (position_or_len is_equals word) word ++ xs) (drop_more word (position_or_len is_equals word) 0 within)
    ∙ ap (λ (c : ℕ). take (position_or_len is_equals word) word ++ c ∷ drop (position_or_len is_equals word + 1) word) (eqb-true _ _ (passes_at_first is_equals word 0 within))

-- where a word is refused, so are all
refused_onto : (q : Apart) (word : Text) (words : List Text) → apart None (word ∷ words) ≡ None → onto q None (word ∷ words) ≡ None
unfolding onto
refused_onto q word words none = rw none refl

entered_choice : (rows : List Row) (q : Apart) (o : OptionName) (v : Text) → Shows rows q → values_of o q.choices ≡ []
    → Shows (Walking.entered rows (Some (Some o, v))) (record { plain = q.plain; choices = q.choices ++ record { option = o; value = v } ∷ [] })
entered_choice rows q Seed v shows none = shows_choice rows q Seed v shows none
entered_choice rows q Cut v shows none = shows_choice rows q Cut v shows none
entered_choice rows q Threads v shows none = shows_choice rows q Threads v shows none
entered_choice rows q Sessions v shows none = shows_choice rows q Sessions v shows none

pub record LawAt (words : List Text) : Type 0 where
  pub free_at : (rows : List Row) (given : Option (Slot × Text)) (wait : Bool) (q whole : Apart) → Walking.IsFirst rows given → Shows (Walking.entered rows given) q
      → onto q None words ≡ Some whole → AreFine whole → Taken (Walking.at rows (Walking.pending_of given) (Walking.free wait) false) words whole
  pub waits_at : (rows : List Row) (o : OptionName) (q whole : Apart) → Shows rows q → onto q (Some o) words ≡ Some whole → AreFine whole
      → Taken (Walking.at rows (Some (id_of (Some o), [])) (option (id_of (Some o))) false) words whole

no_words : LawAt []
unfolding walk_fault
no_words = record {
  free_at = λ rows given wait q whole first shows is fine.
      let ends = all_taken q None refl in
      let same : q ≡ whole = cc in
      record { faults = refl; ended = record { rows = rows; given = given; stands = refl; stopped = refl; first = first; shows = subst (λ a. Shows (Walking.entered rows given) a) same shows } };
  waits_at = λ rows o q whole shows is fine.
      let ends = waits_still q (Some o) o refl in
      let bad : ⊥ = cc in absurd bad;
}

module _ (word : Text) (words : List Text) (law : LawAt words) where
  waits_next : (rows : List Row) (o : OptionName) (q whole : Apart) → Shows rows q → onto q (Some o) (word ∷ words) ≡ Some whole → AreFine whole
      → Taken (Walking.at rows (Some (id_of (Some o), [])) (option (id_of (Some o))) false) (word ∷ words) whole
  waits_next rows o q whole shows is fine =
      let next = sym (value_taken q o word words) ∙ is in
      let first = fresh q whole o word words fine next in
      let walks = Walking.walks_value rows o word first.1 in
      step _ _ word words whole walks.1 walks.0
      (law.free_at rows (Some (Some o, word)) false _ whole (no_row rows q o shows first.0) (entered_choice rows q o word shows first.0) next fine)

  module _ (rows : List Row) (given : Option (Slot × Text)) (wait : Bool) (q whole : Apart) (first : Walking.IsFirst rows given) (shows : Shows (Walking.entered rows given) q)
      (is : onto q None (word ∷ words) ≡ Some whole) (fine : AreFine whole) where
    settled_now : settle_fault Walking.top.rules false (Walking.held rows (Walking.pending_of given)) ≡ []
    settled_now = Walking.settles rows given first

    abbrev Goal : Text → Type 0
    Goal w = Taken (Walking.at rows (Walking.pending_of given) (Walking.free wait) false) (w ∷ words) whole

    at_end : is_end word ≡ true → Goal word
    at_end e =
        let dashes : word ≡ codes "--" = (bytes_eq-Decides word (codes "--")).0 e in
        let whole_is : Some (record { plain = q.plain ++ words; choices = q.choices }) ≡ Some whole = sym (end_taken q word words e) ∙ is in
        let same : record { plain = q.plain ++ words; choices = q.choices } ≡ whole = cc in
        subst Goal (sym dashes) (step _ _ (codes "--") words whole (Walking.end_fault rows (Walking.pending_of given) wait) (Walking.walks_end rows (Walking.pending_of given) wait)
        (trailing words rows given (Walking.free wait) q whole first shows same))

    at_plain : is_end word ≡ false → begins_with_hyphen word ≡ false → Goal word
    at_plain end hyphen =
        let walks = Walking.walks_plain wait word hyphen rows given in
        step _ _ word words whole (walks.1 settled_now) walks.0
        (law.free_at (Walking.entered rows given) (Some (None, word)) true _ whole tt (shows_plain _ q word shows) (sym (plain_taken q word words end hyphen) ∙ is) fine)

    at_name : (o : Option OptionName) → option_named word ≡ o → is_end word ≡ false → begins_with_hyphen word ≡ true → list_any is_equals word ≡ false → Goal word
    at_name None named end hyphen none =
        let nothing = refused_onto q word words (no_name word words end hyphen none named) in
        let bad : ⊥ = cc in absurd bad
    at_name (Some o) named end hyphen none =
        subst Goal (sym (named_is word o named)) (step _ _ (codes "--" ++ id_of (Some o)) words whole (Walking.name_fault rows (Walking.pending_of given) wait o settled_now)
        (Walking.walks_name rows (Walking.pending_of given) wait o)
        (law.waits_at (Walking.entered rows given) o q whole shows (sym (name_taken q word o words end hyphen none named) ∙ is) fine))

    at_both : (o : Option OptionName) → option_named (before_first is_equals word) ≡ o → is_end word ≡ false → begins_with_hyphen word ≡ true → list_any is_equals word ≡ true → Goal word
    at_both None named end hyphen has =
        let nothing = refused_onto q word words (no_option word words end hyphen has named) in
        let bad : ⊥ = cc in absurd bad
    at_both (Some o) named end hyphen has =
        let value = after_first is_equals word in
        let next = sym (both_taken q word o words end hyphen has named) ∙ is in
        let is_fresh = fresh q whole o value words fine next in
        let spelled : word ≡ codes "--" ++ (id_of (Some o) ++ 61 ∷ value) =
        split_at_equals word has ∙ ap (λ xs. xs ++ 61 ∷ value) (named_is (before_first is_equals word) o named) ∙ append_assoc (codes "--") (id_of (Some o)) (61 ∷ value) in
        subst Goal (sym spelled) (step _ _ (codes "--" ++ (id_of (Some o) ++ 61 ∷ value)) words whole
        (Walking.both_fault rows (Walking.pending_of given) wait o value settled_now (no_row _ q o shows is_fresh.0)) (Walking.walks_both rows (Walking.pending_of given) wait o value)
        (law.free_at (with_option o value (Walking.entered rows given)) None false _ whole tt (shows_choice _ q o value shows is_fresh.0) next fine))

    at_hyphen : (b : Bool) → list_any is_equals word ≡ b → is_end word ≡ false → begins_with_hyphen word ≡ true → Goal word
    at_hyphen true has end hyphen = at_both (option_named (before_first is_equals word)) refl end hyphen has
    at_hyphen false none end hyphen = at_name (option_named word) refl end hyphen none

    at_word : (b : Bool) → begins_with_hyphen word ≡ b → is_end word ≡ false → Goal word
    at_word true hyphen end = at_hyphen (list_any is_equals word) refl end hyphen
    at_word false hyphen end = at_plain end hyphen

    at_any : (b : Bool) → is_end word ≡ b → Goal word
    at_any true end = at_end end
    at_any false end = at_word (begins_with_hyphen word) refl end

  word_next : LawAt (word ∷ words)
  word_next = record {
    free_at = λ rows given wait q whole first shows is fine. at_any rows given wait q whole first shows is fine (is_end word) refl;
    waits_at = waits_next;
  }

pub laws : (words : List Text) → LawAt words
laws [] = no_words
laws (word ∷ words) = word_next word words (laws words)

-- ---- the whole parse

or_true : (b : Bool) → (b || true) ≡ true
or_true true = refl
or_true false = refl

-- no argument has a default
no_default : (rows : List Row) (a : Rule) → a.defaults ≡ [] → (default_fault rows a ≡ []) × (with_default rows a ≡ rows)
no_default rows a none = rw none (go (has_row a.id rows) refl)
  where
    go : (b : Bool) → has_row a.id rows ≡ b → ((if b || true then [] else given_default_fault a []) ≡ []) × ((if b then rows else rows) ≡ rows)
    go true e = (refl, refl)
    go false e = (refl, refl)

abbrev NoDefaults : List Rule → Type 0
NoDefaults [] = Unit {0}
NoDefaults (a ∷ rules) = (a.defaults ≡ []) × NoDefaults rules

no_defaults : (rows : List Row) (rules : List Rule) → NoDefaults rules → (defaults_fault rows rules ≡ []) × (fold with_default rows rules ≡ rows)
unfolding defaults_fault
no_defaults rows [] none = (refl, refl)
no_defaults rows (a ∷ rules) none =
    let one = no_default rows a none.0 in
    let others = no_defaults rows rules none.1 in
    (rw (one.0, one.1) others.0, rw one.1 others.1)

pub record Read (words : List Text) (whole : Apart) : Type 0 where
  pub takes : fault_of uno words ≡ []
  pub shows : Shows (matches_of uno words) whole

ended_held : (w : Walk) (rows : List Row) (given : Option (Slot × Text)) → w.held ≡ Walking.held rows (Walking.pending_of given) → (settled Walking.top.rules w.held).rows ≡ Walking.entered rows given
ended_held w rows given is = rw is refl

-- what may fail behind the walk
abbrev rest_fault : Held → Option (Text × List Text) → Kinds
rest_fault end stop = or_else (entered_fault (built uno) stop) (or_else (settle_fault Walking.top.rules false end) (or_else (defaults_fault (settled Walking.top.rules end).rows Walking.top.rules)
    (check_fault Walking.top (finished Walking.top.rules end) (is_some (clap_entered (built uno) stop)))))

none_have : NoDefaults Walking.top.rules
none_have = (refl, (refl, (refl, (refl, (refl, tt)))))

rest_none : (rows : List Row) (given : Option (Slot × Text)) → Walking.IsFirst rows given → rest_fault (Walking.held rows (Walking.pending_of given)) None ≡ []
rest_none rows given first = rw (Walking.settles rows given first, (no_defaults (Walking.entered rows given) Walking.top.rules none_have).0) refl

takes_all : (words : List Text) (whole : Apart) → Taken (walk_from nothing_held) words whole → fault_of uno words ≡ []
takes_all words whole taken =
    let end = walk Walking.top.rules [] nothing_held words in
    let parts : fault_of uno words ≡ or_else (walk_fault Walking.top [] (walk_from nothing_held) words) (rest_fault end.held end.stopped) = refl in
    parts ∙ ap (λ k. or_else k (rest_fault end.held end.stopped)) taken.faults
    ∙ ap (λ stop. rest_fault end.held stop) taken.ended.stopped
    ∙ ap (λ h. rest_fault h None) taken.ended.stands
    ∙ rest_none taken.ended.rows taken.ended.given taken.ended.first

shows_all : (words : List Text) (whole : Apart) → Taken (walk_from nothing_held) words whole → Shows (matches_of uno words) whole
shows_all words whole taken =
    let end = walk Walking.top.rules [] nothing_held words in
    let rows_are : matches_of uno words ≡ Walking.entered taken.ended.rows taken.ended.given =
    (no_defaults (settled Walking.top.rules end.held).rows Walking.top.rules none_have).1 ∙ ended_held end taken.ended.rows taken.ended.given taken.ended.stands in
    subst (λ rows. Shows rows whole) (sym rows_are) taken.ended.shows

nothing_shown : Shows (Walking.entered [] None) (record { plain = []; choices = [] })
unfolding values_of
nothing_shown = record { plain = refl; each = λ o. refl }

pub clap_reads : (words : List Text) (whole : Apart) → apart None words ≡ Some whole → AreFine whole → Read words whole
clap_reads words whole is fine =
    let start : onto (record { plain = []; choices = [] }) None words ≡ Some whole = onto_nothing _ words refl ∙ is in
    let taken = (laws words).free_at [] None false (record { plain = []; choices = [] }) whole tt nothing_shown start fine in
    record { takes = takes_all words whole taken; shows = shows_all words whole taken }

-- ---- what a parse by clap gives

is_same : (words : List Text) (whole : Apart) (accepted : IsAccepted words) → apart None words ≡ Some whole → accepted.whole ≡ whole
is_same words whole accepted is = let first = accepted.is in cc

pub shown : {P : Type 0} (a : App) (rows : List Row) (words : List Text) (whole : Apart) → IsAccepted words → a ≡ uno → (is_simple a ≡ true → (rows ≡ matches_of a words) × P) → apart None words ≡ Some whole
    → Shows rows whole
shown {P} a rows words whole accepted known found is =
    let read = clap_reads words accepted.whole accepted.is accepted.fine in
    let simple : is_simple uno ≡ true = refl in
    let rows_are = (subst (λ b. is_simple b ≡ true → (rows ≡ matches_of b words) × P) known found simple).0 in
    subst (λ w. Shows rows w) (is_same words whole accepted is) (subst (λ r. Shows r accepted.whole) (sym rows_are) read.shows)

pub only_memory : (a : App) (kind : ErrorKind) (words : List Text) → IsAccepted words → a ≡ uno → (is_simple_and_free a ≡ true → (kind ≡ OutOfMemory) ⊎ IsAmong kind (fault_of a words)) → kind ≡ OutOfMemory
only_memory a kind words accepted known fails =
    let read = clap_reads words accepted.whole accepted.is accepted.fine in
    let simple : is_simple_and_free uno ≡ true = refl in
    let found = subst (λ b. is_simple_and_free b ≡ true → (kind ≡ OutOfMemory) ⊎ IsAmong kind (fault_of b words)) known fails simple in
    settle (subst (λ kinds. (kind ≡ OutOfMemory) ⊎ IsAmong kind kinds) read.takes found)
  where
    settle : (kind ≡ OutOfMemory) ⊎ ⊥ → kind ≡ OutOfMemory
    settle (inl e) = e
    settle (inr bad) = absurd bad
