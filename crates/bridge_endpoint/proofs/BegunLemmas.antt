-- What is answered to a root that began something, or found no memory for it.
use Rattle.std.proofs.Common.{◌≡◌, refl, sym, ap, ◌∙◌, ℕ, ◌+◌, true, false}
use Rattle.bridge_journal.specs.Logs.{Log, entered}
use Rattle.bridge_model.specs.Answers.{begun, root_of}
use Rattle.bridge_model.specs.Entries.{Entry, no_memory}
use Rattle.bridge_setting.specs.Settings.{setting_of}
use Rattle.bridge_setting.specs.declared.setting.Setting.{Setting as Configured}
use Rattle.bridge_model.specs.Sides.{stands, state_of}
use Rattle.bridge_model.specs.Steps.{counted, does, has_entries, is_no_memory, may}
use Rattle.bridge_state.specs.EndSides.{EndSide, on_side}
use Rattle.bridge_state.specs.Telling.{state_told}
use Rattle.bridge_state.specs.declared.telling.RootState.{RootState}
use Rattle.bridge_endpoint.proofs.BeginLemmas.{started_by, started_told}
use Rattle.bridge_endpoint.proofs.EndLemmas.{stands_more}
use Rattle.bridge_endpoint.proofs.EntryLemmas.{at, entry_seen_with, to_now}
use Rattle.bridge_endpoint.specs.Kept.{IsKept}
use Rattle.bridge_endpoint.specs.Answering.{begun_state, begun_told}
use Rattle.bridge_endpoint.specs.Entering.{begun_by, out_of_memory, with_room}
use Rattle.bridge_endpoint.specs.Journals.{Endpoint, seen, setting_at, side_at, with_entry}
use Rattle.bridge_endpoint.specs.declared.answers.Begun.{Begun}

module _ {c : Configured} {roots : ℕ} {e : EndSide} {l : Log} {now : Endpoint} (kept : IsKept (setting_of c) roots e l) (is : seen c l ≡ now) (x : Entry) (f : EndSide) (after : Log) (n : ℕ)
    (did : f ≡ on_side (λ s. counted x (does (setting_of c) x s).side) e) (done : after ≡ with_room (l.room + n) (entered x l)) (w : RootState) (told : w ≡ state_told (state_of (root_of x) f.side.tables.roots)) (r : Begun)
    (so : r ≡ begun_state w) where
  pub begun_answer : stands e.side ≡ true → has_entries e.side ≡ false → may (setting_of c) e.side x ≡ true → begun_told r ≡ begun (setting_at now) (side_at now) x
  begun_answer up few fine =
      ap begun_told so ∙ ap (λ z. begun_told (begun_state z)) told
      ∙ to_now (λ h s. begun_told (begun_state (state_told (state_of (root_of x) f.side.tables.roots))) ≡ begun h s x) kept is (started_told (setting_of c) e f x did up few fine)

  pub begun_entered : seen c after ≡ begun_by r x now
  begun_entered =
      entry_seen_with l x (l.room + n) after is done
      ∙ sym (ap (λ z. begun_by z x now) so ∙ ap (λ z. begun_by (begun_state z) x now) told ∙ started_by (state_of (root_of x) f.side.tables.roots) x now)

out_when : (now : Endpoint) → is_no_memory (side_at now).cause ≡ false → out_of_memory now ≡ with_entry no_memory now
out_when now more = rw (more) refl

-- a bridge that stood ends for want of memory
pub out_of_standing : {c : Configured} {roots : ℕ} {e : EndSide} {l : Log} {now : Endpoint} → IsKept (setting_of c) roots e l → seen c l ≡ now → stands e.side ≡ true → out_of_memory now ≡ with_entry no_memory now
out_of_standing {c} {roots} {e} {l} {now} kept is up = out_when now (ap (λ s. is_no_memory s.cause) (at kept is) ∙ stands_more e.side.cause up)
