-- Pieces: what is cut off them may be fed, and what is answered.
use Rattle.std.proofs.Common.{◌≡◌, refl, sym, ap, ◌∙◌, ℕ, zero, suc, ◌+◌, ◌-◌, ◌<◌, ◌≤◌, min, Bool, true, false, not, ◌&&◌, ◌||◌, nat_lt, ◌==◌, List, [], ◌∷◌, ◌++◌, length, take, Option, None, Some, arith, if◌then◌else◌}
use lib.Dec.{leb}
use Rattle.std.proofs.lemmas.Bool.{false≢true, true≢false}
use Rattle.std.proofs.lemmas.Bool.Decides.{nat_tests}
use Rattle.std.proofs.lemmas.List.{append_assoc, append-nil, length-take, take_min}
use Rattle.bridge_model.specs.Answers.{after_feeding, at_end, cut, feed_answer, feed_is_full, feed_standing, is_some_piece, next_cut, within_limit, FeedAnswer, taken, at_limit, gone, no_room}
use Rattle.bridge_model.specs.Entries.{fed}
use Rattle.bridge_model.specs.Feeding.{ends_part}
use Rattle.bridge_model.specs.Settings.{Setting}
use Rattle.bridge_model.specs.Sides.{Incoming, Side, stands, stands_by}
use Rattle.bridge_model.specs.Steps.{but_last, does, fed_count, has_entries, has_fed, is_no_memory, is_some_bytes, may, most_fed}
use Rattle.bridge_model.specs.declared.cause.Cause.{Cause}
use Rattle.bridge_model.specs.declared.cause.Cause.TheVariants as cause
use Rattle.bridge_endpoint.specs.Answering.{fed_told}
use Rattle.bridge_endpoint.specs.Entering.{fed_by, taking}
use Rattle.bridge_endpoint.specs.Journals.{Endpoint, with_entry}
use Rattle.bridge_endpoint.specs.declared.answers.Fed.{Fed}
use Rattle.bridge_endpoint.specs.declared.answers.Fed.TheVariants as feeding

-- ---- what is cut off

cut_first : (held : List ℕ) (b : ℕ) (bytes : List ℕ) (e : Bool) → is_some_bytes (if e then b ∷ [] else b ∷ cut (held ++ b ∷ []) bytes) ≡ true
cut_first held b bytes true = refl
cut_first held b bytes false = refl

pub cut_some : (held piece : List ℕ) → is_some_bytes piece ≡ true → is_some_bytes (cut held piece) ≡ true
unfolding cut
cut_some held [] some = absurd (false≢true some)
cut_some held (b ∷ bytes) some = cut_first held b bytes (ends_part (held ++ b ∷ []))

-- it is a front of the piece
front_one : (held : List ℕ) (b : ℕ) (bytes : List ℕ) (e : Bool) → cut (held ++ b ∷ []) bytes ≡ take (length (cut (held ++ b ∷ []) bytes)) bytes
    → (if e then b ∷ [] else b ∷ cut (held ++ b ∷ []) bytes) ≡ take (length (if e then b ∷ [] else b ∷ cut (held ++ b ∷ []) bytes)) (b ∷ bytes)
front_one held b bytes true more = refl
front_one held b bytes false more = ap (λ xs. b ∷ xs) more

pub cut_front : (held piece : List ℕ) → cut held piece ≡ take (length (cut held piece)) piece
unfolding cut
cut_front held [] = refl
cut_front held (b ∷ bytes) = front_one held b bytes (ends_part (held ++ b ∷ [])) (cut_front (held ++ b ∷ []) bytes)

short_one : (held : List ℕ) (b : ℕ) (bytes : List ℕ) (e : Bool) → length (cut (held ++ b ∷ []) bytes) ≤ length bytes
    → length (if e then b ∷ [] else b ∷ cut (held ++ b ∷ []) bytes) ≤ suc (length bytes)
short_one held b bytes true less = omega arith
short_one held b bytes false less = omega (arith, less)

pub cut_short : (held piece : List ℕ) → length (cut held piece) ≤ length piece
unfolding cut
cut_short held [] = omega arith
cut_short held (b ∷ bytes) = short_one held b bytes (ends_part (held ++ b ∷ [])) (cut_short (held ++ b ∷ []) bytes)

-- no byte of it but its last ends anything
last_of_more : (b : ℕ) (held xs : List ℕ) → is_some_bytes xs ≡ true → ends_part ((held ++ b ∷ []) ++ but_last xs) ≡ false → ends_part (held ++ but_last (b ∷ xs)) ≡ false
last_of_more b held [] some open_still = absurd (false≢true some)
last_of_more b held (x ∷ xs) some open_still = ap ends_part (sym (append_assoc held (b ∷ []) (but_last (x ∷ xs)))) ∙ open_still

last_one : (held : List ℕ) (b : ℕ) (bytes : List ℕ) (e : Bool) → ends_part (held ++ b ∷ []) ≡ e → ends_part held ≡ false
    → (ends_part (held ++ b ∷ []) ≡ false → ends_part ((held ++ b ∷ []) ++ but_last (cut (held ++ b ∷ []) bytes)) ≡ false)
    → ends_part (held ++ but_last (if e then b ∷ [] else b ∷ cut (held ++ b ∷ []) bytes)) ≡ false
unfolding cut
last_one held b bytes true is unended more = ap ends_part (append-nil held) ∙ unended
last_one held b [] false is unended more = ap ends_part (append-nil held) ∙ unended
last_one held b (c ∷ cs) false is unended more = last_of_more b held (cut (held ++ b ∷ []) (c ∷ cs)) (cut_some (held ++ b ∷ []) (c ∷ cs) refl) (more is)

pub cut_unended : (held piece : List ℕ) → ends_part held ≡ false → ends_part (held ++ but_last (cut held piece)) ≡ false
unfolding cut
cut_unended held [] unended = ap ends_part (append-nil held) ∙ unended
cut_unended held (b ∷ bytes) unended = last_one held b bytes (ends_part (held ++ b ∷ [])) refl unended (λ more. cut_unended (held ++ b ∷ []) bytes more)

-- ---- it may be fed

not_over : (most n : ℕ) → n ≤ most → nat_lt most n ≡ false
not_over most n less = grind (arith, nat_tests)

three_hold : (a b c : Bool) → a ≡ true → b ≡ false → c ≡ false → (a && (not b && not c)) ≡ true
three_hold a b c some under unended = rw (some, under, unended) refl

pub may_cut : (g : Setting) (s : Side) (piece : List ℕ) → stands s ≡ true → has_entries s ≡ false → is_some_bytes piece ≡ true → fed_count s.incoming + length piece ≤ most_fed → ends_part s.incoming.held ≡ false
    → may g s (fed (cut s.incoming.held piece)) ≡ true
unfolding may
may_cut g s piece up few some within unended =
    let held = s.incoming.held in
    let short = cut_short held piece in
    let under = not_over most_fed (fed_count s.incoming + length (cut held piece)) (omega (arith, within, short)) in
    rw (up, few) (three_hold (is_some_bytes (cut held piece)) (nat_lt most_fed (fed_count s.incoming + length (cut held piece))) (ends_part (held ++ but_last (cut held piece))) (cut_some held piece some) under (cut_unended held piece unended))

-- ---- the limit of fed bytes

pub limit_front : (i : Incoming) (piece front : List ℕ) (most : ℕ) → most ≡ min (most_fed - fed_count i) (length piece) → front ≡ take most piece → cut i.held front ≡ cut i.held (within_limit i piece)
limit_front i piece front most is cut_off = ap (cut i.held) (cut_off ∙ ap (λ n. take n piece) is ∙ take_min (most_fed - fed_count i) piece)

-- ---- what is answered

end_none : (o : Option Cause) (a : FeedAnswer) → stands_by o ≡ true → at_end o a ≡ a
end_none None a up = refl
end_none (Some why) a up = absurd (false≢true up)

pub end_gone : (o : Option Cause) (a : FeedAnswer) → stands_by o ≡ false → is_no_memory o ≡ false → at_end o a ≡ gone
end_gone None a ended more = absurd (true≢false ended)
end_gone (Some cause.NoMemory) a ended more = absurd (true≢false more)
end_gone (Some cause.Disposed) a ended more = refl
end_gone (Some cause.Ended) a ended more = refl
end_gone (Some cause.Failed) a ended more = refl
end_gone (Some (cause.Broken why place)) a ended more = refl
end_gone (Some cause.Full) a ended more = refl

pub gone_told : (g : Setting) (s : Side) (piece : List ℕ) → stands s ≡ false → is_no_memory s.cause ≡ false → feed_answer g s piece ≡ gone
unfolding feed_answer
gone_told g s piece ended more = end_gone s.cause _ ended more

pub full_told : (g : Setting) (s : Side) (piece : List ℕ) → stands s ≡ true → feed_is_full s piece ≡ true → feed_answer g s piece ≡ at_limit
unfolding feed_answer
full_told g s piece up is = end_none s.cause _ up ∙ rw (is) refl

standing_told : (g : Setting) (s : Side) (piece : List ℕ) → stands s ≡ true → feed_is_full s piece ≡ false → feed_answer g s piece ≡ feed_standing g s piece
unfolding feed_answer
standing_told g s piece up is = end_none s.cause _ up ∙ rw (is) refl

pub none_told : (g : Setting) (s : Side) → stands s ≡ true → feed_is_full s [] ≡ false → feed_answer g s [] ≡ taken 0
none_told g s up is = standing_told g s [] up is

standing_some : (g : Setting) (s : Side) (piece : List ℕ) → is_some_bytes piece ≡ true → feed_standing g s piece ≡ after_feeding (next_cut s piece) (does g (fed (next_cut s piece)) s).side.cause
standing_some g s [] some = absurd (false≢true some)
standing_some g s (b ∷ bytes) some = refl

pub some_told : (g : Setting) (s : Side) (piece : List ℕ) → stands s ≡ true → feed_is_full s piece ≡ false → is_some_bytes piece ≡ true
    → feed_answer g s piece ≡ after_feeding (next_cut s piece) (does g (fed (next_cut s piece)) s).side.cause
some_told g s piece up is some = standing_told g s piece up is ∙ standing_some g s piece some

-- whether a limit is reached, as it is tested
pub full_by_entries : (s : Side) (piece : List ℕ) → has_entries s ≡ true → true ≡ feed_is_full s piece
full_by_entries s piece many = rw (many) refl

some_piece : (piece : List ℕ) → (length piece == 0) ≡ false → is_some_piece piece ≡ true
some_piece [] is = absurd (true≢false is)
some_piece (b ∷ bytes) is = refl

none_piece : (piece : List ℕ) → (length piece == 0) ≡ true → is_some_piece piece ≡ false
none_piece [] is = refl
none_piece (b ∷ bytes) is = let bad : ⊥ = grind (arith, nat_tests) in absurd bad

at_most_fed : (n m : ℕ) → n ≡ m → leb 67108864 n ≡ not (nat_lt m 67108864)
at_most_fed n m is = grind (arith, nat_tests)

pub full_by_bytes : (s : Side) (piece : List ℕ) (n : ℕ) → has_entries s ≡ false → (length piece == 0) ≡ false → n ≡ fed_count s.incoming → leb 67108864 n ≡ feed_is_full s piece
unfolding most_fed
full_by_bytes s piece n few some is = rw (few, some_piece piece some) (at_most_fed n (fed_count s.incoming) is)

pub full_by_none : (s : Side) (piece : List ℕ) (r : Bool) → has_entries s ≡ false → r ≡ (length piece == 0) → r ≡ true → not r ≡ feed_is_full s piece
full_by_none s piece r few is none = rw (few, none_piece piece (sym is ∙ none), none) refl

pub some_bytes_of : (piece : List ℕ) → (length piece == 0) ≡ false → is_some_bytes piece ≡ true
some_bytes_of [] is = absurd (true≢false is)
some_bytes_of (b ∷ bytes) is = refl

pub no_bytes_of : (piece : List ℕ) → (length piece == 0) ≡ true → piece ≡ []
no_bytes_of [] is = refl
no_bytes_of (b ∷ bytes) is = let bad : ⊥ = grind (arith, nat_tests) in absurd bad

-- where a piece is not empty and the limits leave some
pub not_full : (s : Side) (piece : List ℕ) → is_some_bytes piece ≡ true → feed_is_full s piece ≡ false → (has_entries s ≡ false) × (fed_count s.incoming < most_fed)
not_full s [] some is = absurd (false≢true some)
not_full s (b ∷ bytes) some is = by_parts (has_entries s) (nat_lt (fed_count s.incoming) most_fed) refl is
  where
    by_parts : (a f : Bool) → nat_lt (fed_count s.incoming) most_fed ≡ f → (a || not f) ≡ false → (a ≡ false) × (fed_count s.incoming < most_fed)
    by_parts true f less is = absurd (true≢false is)
    by_parts false false less is = absurd (true≢false is)
    by_parts false true less is = (refl, grind (arith, nat_tests))

-- a limit that is reached ends the bridge
either_limit : (a p f : Bool) → (a || (p && f)) ≡ true → (a || f) ≡ true
either_limit true p f is = refl
either_limit false true f is = is
either_limit false false f is = absurd (false≢true is)

pub limit_reached : (s : Side) (piece : List ℕ) → feed_is_full s piece ≡ true → (has_entries s || has_fed s) ≡ true
limit_reached s piece is = either_limit (has_entries s) (is_some_piece piece) (has_fed s) is

-- no bytes are cut off none
take_nil : (n : ℕ) → ◌≡◌ {A = List ℕ} (take n []) []
take_nil zero = refl
take_nil (suc n) = refl

pub next_cut_none : (s : Side) → next_cut s [] ≡ []
unfolding cut
next_cut_none s = ap (cut s.incoming.held) (take_nil (most_fed - fed_count s.incoming))

-- ---- the front that is taken

some_front : (n : ℕ) (piece : List ℕ) → 0 < n → is_some_bytes piece ≡ true → is_some_bytes (take n piece) ≡ true
some_front zero piece more some = absurd (omega (arith, more))
some_front (suc n) [] more some = absurd (false≢true some)
some_front (suc n) (b ∷ bytes) more some = refl

some_length : (piece : List ℕ) → is_some_bytes piece ≡ true → 0 < length piece
some_length [] some = absurd (false≢true some)
some_length (b ∷ bytes) some = omega arith

module _ (s : Side) (piece front : List ℕ) (count left most : ℕ) (fed_is : count ≡ fed_count s.incoming) (left_is : left ≡ 67108864 - count) (most_is : most ≡ min left (length piece)) (front_is : front ≡ take most piece)
    (some : is_some_bytes piece ≡ true) (full_not : feed_is_full s piece ≡ false) where
  less_fed : fed_count s.incoming < 67108864
  unfolding most_fed
  less_fed = (not_full s piece some full_not).1

  pub front_some : is_some_bytes front ≡ true
  front_some =
      let less = less_fed in
      let long = some_length piece some in
      ap is_some_bytes front_is ∙ some_front most piece (omega (arith, fed_is, left_is, most_is, less, long)) some

  pub front_within : fed_count s.incoming + length front ≤ most_fed
  unfolding most_fed
  front_within =
      let less = less_fed in
      let long : length front ≡ min most (length piece) = ap length front_is ∙ length-take most piece in omega (arith, fed_is, left_is, most_is, less, long)

  pub front_cut : cut s.incoming.held front ≡ next_cut s piece
  unfolding most_fed
  front_cut = limit_front s.incoming piece front most (most_is ∙ ap (λ n. min n (length piece)) (left_is ∙ ap (λ n. 67108864 - n) fed_is)) front_is

-- ---- what is entered

pub taking_some : (bytes : List ℕ) (e : Endpoint) → is_some_bytes bytes ≡ true → taking bytes e ≡ with_entry (fed bytes) e
taking_some [] e some = absurd (false≢true some)
taking_some (b ∷ bytes) e some = refl

after_taken : (bytes : List ℕ) (c : Option Cause) (a : FeedAnswer) → after_feeding bytes c ≡ a → (a ≡ at_limit → ⊥) × (a ≡ gone → ⊥) × (a ≡ no_room → ⊥)
after_taken bytes None a is = ((λ e. cc), (λ e. cc), (λ e. cc))
after_taken bytes (Some (cause.Broken why place)) a is = ((λ e. cc), (λ e. cc), (λ e. cc))
after_taken bytes (Some cause.Disposed) a is = ((λ e. cc), (λ e. cc), (λ e. cc))
after_taken bytes (Some cause.Ended) a is = ((λ e. cc), (λ e. cc), (λ e. cc))
after_taken bytes (Some cause.Failed) a is = ((λ e. cc), (λ e. cc), (λ e. cc))
after_taken bytes (Some cause.Full) a is = ((λ e. cc), (λ e. cc), (λ e. cc))
after_taken bytes (Some cause.NoMemory) a is = ((λ e. cc), (λ e. cc), (λ e. cc))

-- what is answered behind a piece that was taken enters it
pub fed_entered : (r : Fed) (bytes : List ℕ) (c : Option Cause) (e : Endpoint) → fed_told r ≡ after_feeding bytes c → is_some_bytes bytes ≡ true → fed_by r bytes e ≡ with_entry (fed bytes) e
fed_entered (feeding.Taken n) bytes c e is some = taking_some bytes e some
fed_entered (feeding.Broken why place) bytes c e is some = taking_some bytes e some
fed_entered feeding.Full bytes c e is some = absurd ((after_taken bytes c at_limit (sym is)).0 refl)
fed_entered feeding.Gone bytes c e is some = absurd ((after_taken bytes c gone (sym is)).1 refl)
fed_entered feeding.NoMemory bytes c e is some = absurd ((after_taken bytes c no_room (sym is)).2 refl)
