-- A pair that comes to its end within the limits ends well, and what is written of it is one text.
use Rattle.std.proofs.Common.{◌≡◌, sym, ap, subst, ◌∙◌, ℕ, ◌⊎◌, inl, inr, true, false, List, [], ◌++◌, Option, Some}
use Rattle.std.proofs.lemmas.Bool.{true≢false}
use Rattle.std.specs.List.{AllByRecursion}
use Rattle.bridge_model.specs.Entries.{Entry}
use Rattle.bridge_laws.proofs.GotSpelling.{all_front}
use Rattle.bridge_laws.specs.SpellableGiving.{IsGivenByRoot}
use Rattle.bridge_laws.specs.Giving.{MayGive}
use Rattle.world_laws.proofs.GivingLaws.{ends_finished_a, ends_finished_b, pair_reached, reached_give}
use Rattle.world_laws.proofs.PlayLaws.{pair_alone, pair_played}
use Rattle.world_laws.proofs.StandLaws.{lines_a, lines_b}
use Rattle.world_model.specs.Moves.{moves}
use Rattle.world_model.specs.Pairs.{Pairing, has_full, IsPaired}
use Rattle.report_model.specs.Drills.{summary}
use Rattle.report_model.specs.Pairs.{AlwaysKeep, EndsWell, IsPairReport, IsSummary, ReachesLimit, counts_a, counts_b, pair_report}
use Rattle.world_laws.proofs.KeptLaws.{both_keep}
use Rattle.world_laws.specs.Ready.{AreReady, BothGiveWell}
use Rattle.world_laws.proofs.RunLaws.{entries_both}
use Rattle.world_model.specs.Worlds.{Settings, of_a, of_b, Event, entries_of}
use Rattle.world_model.specs.declared.side.Side.{Side}
use Rattle.world_model.specs.declared.side.Side.TheVariants.{A, B}

-- what holds of all entries of an end holds of those of a prefix
front_of : (P : Entry → Type 0) (s : Side) (front behind : List Event) → AllByRecursion P (entries_of s (front ++ behind)) → AllByRecursion P (entries_of s front)
front_of P s front behind all = all_front P (entries_of s front) (entries_of s behind) (subst (AllByRecursion P) (entries_both s front behind) all)

give_in_front : (g : Settings) (front behind : List Event) → BothGiveWell g (front ++ behind) → BothGiveWell g front
give_in_front g front behind well =
    record {
      gives = record { a = front_of (MayGive (of_a g)) A front behind well.gives.a; b = front_of (MayGive (of_b g)) B front behind well.gives.b };
      a = front_of IsGivenByRoot A front behind well.a;
      b = front_of IsGivenByRoot B front behind well.b;
    }

-- what the roots of a pair give is what they may give, so that both ends keep what they should at each moment
always_keep : (g : Settings) → AreReady g → (seed : Option ℕ) (cut : ℕ) (last : Pairing) → IsPaired g seed cut last → AlwaysKeep g last.events
always_keep g ready seed cut last is front behind split w runs =
    both_keep g ready front (give_in_front g front behind (subst (BothGiveWell g) split (reached_give g seed cut ready last (pair_reached g seed cut last is)))) w runs

none_left : (g : Settings) (q : Pairing) → has_full q.world ≡ false → (has_full q.world ≡ true) ⊎ (moves g q.world q.runs ≡ []) → moves g q.world q.runs ≡ []
none_left g q none (inl full) = absurd (true≢false (sym full ∙ none))
none_left g q none (inr is) = is

pub ends_well : (g : Settings) → AreReady g → (seed : Option ℕ) (cut : ℕ) (last : Pairing) → IsPaired g seed cut last → has_full last.world ≡ false → EndsWell g seed cut last
ends_well g ready seed cut last is none =
    let played = pair_played g seed cut last is in
    record {
      paired = is;
      within = none;
      history = played.good.history;
      keeps = always_keep g ready seed cut last is;
      none_left = none_left g last none played.stops;
      done_a = record { finished = ends_finished_a g ready seed cut last is none; lines = lines_a g seed cut last is };
      done_b = record { finished = ends_finished_b g ready seed cut last is none; lines = lines_b g seed cut last is };
    }

-- and where an end reaches a limit, what held until then held at each moment
pub reaches_limit : (g : Settings) → AreReady g → (seed : Option ℕ) (cut : ℕ) (last : Pairing) → IsPaired g seed cut last → has_full last.world ≡ true → ReachesLimit g seed cut
reaches_limit g ready seed cut last is full =
    record { last = last; paired = is; full = full; history = (pair_played g seed cut last is).good.history; keeps = always_keep g ready seed cut last is }

-- the history of a pair is one, so that it does not do both
pub not_both : (g : Settings) (seed : Option ℕ) (cut : ℕ) (last : Pairing) → EndsWell g seed cut last → ReachesLimit g seed cut → ⊥
not_both g seed cut last well limit =
    true≢false (sym limit.full ∙ ap (λ p. has_full p.world) (pair_alone g seed cut limit.last last limit.paired well.paired) ∙ well.within)

pub one_report : (g : Settings) (seed : Option ℕ) (cut : ℕ) (one two : List ℕ) → IsPairReport g seed cut one → IsPairReport g seed cut two → one ≡ two
one_report g seed cut one two x y = x.written ∙ ap (pair_report g) (pair_alone g seed cut x.last y.last x.ends.paired y.ends.paired) ∙ sym y.written

pub one_summary : (g : Settings) (rounds seed : ℕ) (one two : List ℕ) → IsSummary rounds seed g one → IsSummary rounds seed g two → one ≡ two
one_summary g rounds seed one two x y =
    x.written ∙ ap (λ p. summary rounds seed p.runs (counts_a g p) (counts_b g p)) (pair_alone g (Some seed) 65536 x.last y.last x.ends.paired y.ends.paired) ∙ sym y.written
