-- The order comes to rest once behind all bytes: what it does next ends the bridge, which stays so.
use Rattle.std.proofs.Common.{◌≡◌, ◌⊎◌, inl, inr, refl, sym, ap, subst, ◌∙◌, ℕ, Bool, true, false, ◌||◌, List, [], ◌∷◌, ◌++◌, length, drop, Option, None, Some, if◌then◌else◌}
use Rattle.std.proofs.lemmas.Bool.{both_ways}
use Rattle.bridge_laws.proofs.Replays.{of_step}
use Rattle.bridge_laws.proofs.SilentLaws.{stays_ended}
use Rattle.plan_model.specs.Roots.{Run}
use Rattle.bridge_model.specs.Answers.{ready_at, may_reap, drained_next, next_cut}
use Rattle.bridge_model.specs.Ends.{ends_by}
use Rattle.bridge_model.specs.Entries.{Entry, fed, ended, applied, reaped, drained, full}
use Rattle.bridge_model.specs.Histories.{Told, told_more, told_by, tells}
use Rattle.bridge_model.specs.Orders.{Working, begins_work, RootMove, root_move, enters, enters_move, or_full, feeds_next, after_draining, drains_next, most_drained, reaps_next, roots_next, applies_next, works_once}
use Rattle.bridge_model.specs.Settings.{Setting}
use Rattle.bridge_model.specs.Sides.{Side, stands}
use Rattle.bridge_model.specs.Steps.{Turn, turn, step, may, does}
use Rattle.bridge_laws.specs.Working.{Reaches, at_first, at_next, AllIsDone, IsInOrder}
use Rattle.bridge_laws.proofs.FeedingLaws.{reaches_end}
use Rattle.bridge_laws.proofs.WorkingLaws.{here, once_ended}

-- ---- a bridge that has ended

-- it has ended, and has no stacks
record IsGone (s : Side) : Type 0 where
  pub ended : stands s ≡ false
  pub quiet : s.stacks ≡ []

module _ (g : Setting) where
  gone_turn : (s : Side) (e : Entry) (u : Turn) → IsGone s → step g s e ≡ Some u → IsGone u.side
  gone_turn s e u gone is =
      of_step g s e u (λ v. IsGone v.side) (λ ok. let so = stays_ended g e s (λ x. gone.quiet) gone.ended ok in record { ended = so.ended; quiet = so.quiet }) is

  gone_told : (t u : Told) (e : Entry) → IsGone t.side → tells g t e ≡ Some u → IsGone u.side
  gone_told t u e gone to = of_turn (step g t.side e) refl to
    where
      of_turn : (o : Option Turn) → step g t.side e ≡ o → told_by t e o ≡ Some u → IsGone u.side
      of_turn None is told = absurd (cc)
      of_turn (Some v) is told =
          let same : told_more t e v ≡ u = cc in
          subst (λ z. IsGone z.side) same (gone_turn t.side e v gone is)

  ended_turn : (s : Side) (u : Turn) → step g s ended ≡ Some u → IsGone u.side
  unfolding does ends_by
  ended_turn s u is = of_step g s ended u (λ v. IsGone v.side) (λ ok. record { ended = refl; quiet = refl }) is

  ended_told : (t u : Told) → tells g t ended ≡ Some u → IsGone u.side
  ended_told t u to = of_turn (step g t.side ended) refl to
    where
      of_turn : (o : Option Turn) → step g t.side ended ≡ o → told_by t ended o ≡ Some u → IsGone u.side
      of_turn None is told = absurd (cc)
      of_turn (Some v) is told =
          let same : told_more t ended v ≡ u = cc in
          subst (λ z. IsGone z.side) same (ended_turn t.side v is)

  -- ---- what the order does then keeps it so

  abbrev Goes : Option Working → Type 0
  Goes None = Unit
  Goes (Some next) = IsGone next.told.side

  enters_so : (v : Working) (e : Entry) → IsGone v.told.side → Goes (enters g v e)
  enters_so v e gone = by_told (tells g v.told e) refl
    where
      by_told : (o : Option Told) → tells g v.told e ≡ o → Goes (enters g v e)
      by_told None is = rw is tt
      by_told (Some u) is = rw is (gone_told v.told u e gone is)

  after_so : (w : Working) → IsGone w.told.side → Goes (after_draining g w)
  after_so w gone = let over = gone.ended in rw over tt

  drains_so : (w : Working) (out : List ℕ) → IsGone w.told.side → Goes (drains_next g w out)
  drains_so w [] gone = after_so w gone
  drains_so w (b ∷ bytes) gone = enters_so w (drained (b ∷ bytes)) gone

  reaps_so : (w : Working) (o : Option ℕ) → IsGone w.told.side → Goes (reaps_next g w o)
  reaps_so w (Some n) gone = enters_so w (reaped n) gone
  reaps_so w None gone = drains_so w (drained_next g most_drained w.told.side) gone

  moves_so : (w : Working) (m : RootMove) (o : Option Entry) → m.entry ≡ o → IsGone w.told.side → Goes (enters_move g w m)
  moves_so w m None is gone = rw is gone
  moves_so w m (Some e) is gone = rw is (enters_so (record w { runs = m.runs }) e gone)

  roots_so : (w : Working) (o : Option RootMove) → IsGone w.told.side → Goes (roots_next g w o)
  roots_so w (Some m) gone = moves_so w m m.entry refl gone
  roots_so w None gone = reaps_so w (may_reap g w.told.side) gone

  applies_so : (w : Working) (o : Option (List ℕ)) → IsGone w.told.side → Goes (applies_next g w o)
  applies_so w (Some tid) gone = enters_so w (or_full w.told.side (applied tid)) gone
  applies_so w None gone = roots_so w (root_move g w.told.side w.runs) gone

  works_so : (w : Working) → IsGone w.told.side → Goes (works_once g w)
  unfolding works_once
  works_so w gone = applies_so w (ready_at w.told.side 0) gone

  -- ---- one place is behind the other

  data IsBehind (a : Working) : Working → Type 0 where
    at_it : IsBehind a a
    later : {b c : Working} → IsBehind a b → works_once g b ≡ Some c → IsBehind a c

  gone_behind : (a b : Working) → IsBehind a b → IsGone a.told.side → IsGone b.told.side
  gone_behind a b' at_it gone = gone
  gone_behind a b' (later {b} {c} before is) gone = subst Goes is (works_so b (gone_behind a b before gone))

  one_next : (a b c : Working) → works_once g a ≡ Some b → works_once g a ≡ Some c → b ≡ c
  one_next a b c one other = cc

  -- it is the same, or behind what comes next
  or_next : (a next b : Working) → works_once g a ≡ Some next → IsBehind a b → (a ≡ b) ⊎ IsBehind next b
  or_next a next b' to at_it = inl refl
  or_next a next b' to (later {b} {c} before is) = by_first (or_next a next b to before)
    where
      by_first : (a ≡ b) ⊎ IsBehind next b → (a ≡ c) ⊎ IsBehind next c
      by_first (inl same) =
          let turned : works_once g a ≡ Some c = ap (works_once g) same ∙ is in
          inr (subst (IsBehind next) (one_next a next c to turned) at_it)
      by_first (inr behind) = inr (later behind is)

  from_first : (bytes : List ℕ) (b : Working) → Reaches g bytes b → IsBehind (begins_work g bytes) b
  from_first bytes b' at_first = at_it
  from_first bytes b' (at_next {w} {next} before is) = later (from_first bytes w before) is

  one_behind : (bytes : List ℕ) (a b : Working) → Reaches g bytes a → Reaches g bytes b → IsBehind a b ⊎ IsBehind b a
  one_behind bytes a' b at_first there = inl (from_first bytes b there)
  one_behind bytes a' b (at_next {w} {next} before is) there = by_place (one_behind bytes w b before there)
    where
      by_place : IsBehind w b ⊎ IsBehind b w → IsBehind next b ⊎ IsBehind b next
      by_place (inr behind) = inr (later behind is)
      by_place (inl behind) = by_next (or_next w next b is behind)
        where
          by_next : (w ≡ b) ⊎ IsBehind next b → IsBehind next b ⊎ IsBehind b next
          by_next (inl same) = inr (later (subst (λ z. IsBehind z w) same at_it) is)
          by_next (inr other) = inl other

  -- ---- where all bytes are done

  ended_can : (s : Side) → stands s ≡ true → may g s ended ≡ true
  unfolding may
  ended_can s standing = standing

  -- the bridge stands there, and what is done next ends it; so no other such place is behind it
  none_later : (t u : Told) (runs next : List Run) → AllIsDone g t.side runs → stands t.side ≡ true → stands u.side ≡ true → IsBehind (here t runs []) (here u next []) → t ≡ u
  unfolding step does
  none_later t u runs next done standing standing_too behind = by_end (tells g t ended) refl
    where
      by_end : (o : Option Told) → tells g t ended ≡ o → t ≡ u
      by_end None is = let to = ended_there in absurd (cc)
        where
          ended_there : tells g t ended ≡ Some (told_more t ended (turn ended t.side (does g ended t.side)))
          ended_there = let can = ended_can t.side standing in rw can refl
      by_end (Some v) is = by_next (or_next (here t runs []) (here v runs []) (here u next []) (once_ended g t v runs done standing is) behind)
        where
          by_next : (here t runs [] ≡ here u next []) ⊎ IsBehind (here v runs []) (here u next []) → t ≡ u
          by_next (inl same) = ap (λ w. w.told) same
          by_next (inr later_on) =
              let gone = gone_behind (here v runs []) (here u next []) later_on (ended_told t v is) in
              absurd (both_ways (stands u.side) gone.ended standing_too)

  pub rests_once : (bytes : List ℕ) (t u : Told) (runs next : List Run) → IsInOrder g bytes t runs [] → AllIsDone g t.side runs → stands t.side ≡ true
      → IsInOrder g bytes u next [] → AllIsDone g u.side next → stands u.side ≡ true → t ≡ u
  rests_once bytes t u runs next one done standing other done_too standing_too =
      by_place (one_behind bytes (here t runs []) (here u next []) (reaches_end g bytes t runs one) (reaches_end g bytes u next other))
    where
      by_place : IsBehind (here t runs []) (here u next []) ⊎ IsBehind (here u next []) (here t runs []) → t ≡ u
      by_place (inl behind) = none_later t u runs next done standing standing_too behind
      by_place (inr behind) = sym (none_later u t next runs done_too standing_too standing behind)
