-- A run of `drill` ends as the summary of its two ends does, and the writing of it.
use Rattle.std.proofs.Common.{true, false, ◌≡◌, ℕ, ◌⊎◌, List, Option, Some, refl, sym, subst, inl, inr}
use Rattle.uno_model.specs.Entities.{Entity}
use Rattle.plan_model.specs.declared.line_reason.LineReason.{LineReason}
use Rattle.report_model.specs.Drills.{calling_plan, node_plan}
use Rattle.world_laws.specs.Ready.{AreReady}
use Rattle.world_model.specs.Worlds.{Settings}
use Rattle.uno_run.specs.Drill.{AreOfDrill, Drilled, DrillKeeps, DrillLimited, DrillRun, EndsDrilling, RefusedDrillPlan}
use Rattle.uno_run.specs.Idl.{IsRefused, IsRegistryText}
use Rattle.uno_run.specs.Joining.{NotDrilled, RefusedAt, StopsSo}
use Rattle.uno_run.specs.Own.{own_types}
use Rattle.uno_run.specs.Printing.{TextWritten}
use Rattle.uno_run.specs.SettingUp.{RefusedRegistry}
use Rattle.uno_run.specs.declared.reason.RegistryReason.{RegistryReason}
use Rattle.uno_run.specs.declared.status.Status.{Status}
use Rattle.uno_run.specs.declared.status.Status.TheVariants.{Done, Words, BadUnoidl, BadRegistry, BadPlan, ReadFault, WriteFault, Broken, Cut, Full, NoFile, NoMemory}
use Rattle.uno_run.specs.Lines.{has_own_line}
use Rattle.uno_run.proofs.EndingLaws.{with_kept}
use Rattle.uno_run.proofs.IdlRuns.{not_refused}
use Rattle.uno_run.proofs.Keeping.{Kept, kept_so, own_differs}
use Rattle.uno_run.proofs.Promises.{keeps_promise}

module _ (rounds seed : ℕ) where
  drilled_keep : (text : List ℕ) → Drilled rounds seed text → DrillKeeps rounds seed
  drilled_keep text r =
      record {
        settings = r.settings;
        are_of = r.are_of;
        last = r.summed.last;
        paired = r.summed.ends.paired;
        keeps = keeps_promise r.settings r.ready (Some seed) 65536 r.summed.last r.summed.ends.paired r.summed.ends.keeps;
      }

  limited_keep : DrillLimited rounds seed → DrillKeeps rounds seed
  limited_keep r =
      record {
        settings = r.settings;
        are_of = r.are_of;
        last = r.limited.last;
        paired = r.limited.paired;
        keeps = keeps_promise r.settings r.ready (Some seed) 65536 r.limited.last r.limited.paired r.limited.keeps;
      }

  none_only : (status : Status) → NotDrilled rounds seed status → EndsDrilling status
  none_only Done n = tt
  none_only Words n = n
  none_only (BadUnoidl file byte reason) n = n
  none_only (BadRegistry file line reason) n = tt
  none_only (BadPlan file line why) n = tt
  none_only ReadFault n = n
  none_only WriteFault n = tt
  none_only (Broken reason place) n = n
  none_only Cut n = n
  none_only Full n = tt
  none_only (NoFile file) n = n
  none_only NoMemory n = tt

  -- its texts are accepted
  types_kept : (g : Settings) → AreOfDrill rounds seed g → (line : ℕ) (reason : RegistryReason) → IsRefused own_types line reason → ⊥
  types_kept g are line reason r = not_refused own_types g.registry are.is_text line reason r

  plans_kept : (g : Settings) → AreOfDrill rounds seed g → (file line : ℕ) (why : LineReason) → RefusedDrillPlan rounds seed file line why → ⊥
  plans_kept g are file line why (inl a) = with_kept own_types (calling_plan rounds seed) g.registry g.a.plan line why are.is_text are.is_plan_a a.1
  plans_kept g are file line why (inr b) = with_kept own_types node_plan g.registry g.b.plan line why are.is_text are.is_plan_b b.1

  none_well : (g : Settings) → AreOfDrill rounds seed g → (status : Status) → NotDrilled rounds seed status → (status ≡ Done) ⊎ ((status ≡ Full) ⊎ (status ≡ NoMemory))
  none_well g are Done n = absurd n
  none_well g are Words n = absurd n
  none_well g are (BadUnoidl file byte reason) n = absurd n
  none_well g are (BadRegistry file line reason) n = absurd (types_kept g are line reason n.1)
  none_well g are (BadPlan file line why) n = absurd (plans_kept g are file line why n)
  none_well g are ReadFault n = absurd n
  none_well g are WriteFault n = absurd n
  none_well g are (Broken reason place) n = absurd n
  none_well g are Cut n = absurd n
  none_well g are Full n = inr (inl refl)
  none_well g are (NoFile file) n = absurd n
  none_well g are NoMemory n = inr (inr refl)

  module _ {O : Type 0} (taken : O → Option (List ℕ)) (writes : O → ℕ) where
    -- there was no summary
    pub none_ran : (output : O) (status : Status) → NotDrilled rounds seed status → DrillRun taken writes rounds seed output output status
    none_ran output status n =
        let as_is = λ (s : Status) (e : status ≡ s). subst (NotDrilled rounds seed) e n in
        record {
          only = none_only status n;
          done = λ e. absurd (as_is Done e);
          promise = by_end;
          full = λ e. as_is Full e;
          bad_registry = λ file line reason e. as_is (BadRegistry file line reason) e;
          bad_plan = λ file line why e. as_is (BadPlan file line why) e;
          write_fault = λ e. absurd (as_is WriteFault e);
          no_write_fault = λ no_fault. refl;
          silent = λ not_done no_fault. refl;
          well = λ g are no_write. none_well g are status n;
        }
      where
        by_end : (status ≡ Done) ⊎ (status ≡ Full) → DrillKeeps rounds seed
        by_end (inl e) = absurd (subst (NotDrilled rounds seed) e n)
        by_end (inr e) = limited_keep (subst (NotDrilled rounds seed) e n)

    pub idle_ran : (output : O) (status : Status) → status ≡ NoMemory → DrillRun taken writes rounds seed output output status
    idle_ran output status lost = subst (DrillRun taken writes rounds seed output output) (sym lost) (none_ran output NoMemory tt)

    -- a summary was written
    module _ (output_old output_new : O) (text : List ℕ) (is : Drilled rounds seed text) where
      done_ran : TextWritten text (taken output_old) (taken output_new) (writes output_old) (writes output_new) Done → DrillRun taken writes rounds seed output_old output_new Done
      done_ran w =
          record {
            only = tt;
            done = λ e. record { text = text; is_owed = is; written = w.0 };
            promise = λ e. drilled_keep text is;
            full = λ e. let bad : ⊥ = cc in absurd bad;
            bad_registry = λ file line reason e. let bad : ⊥ = cc in absurd bad;
            bad_plan = λ file line why e. let bad : ⊥ = cc in absurd bad;
            write_fault = λ e. let bad : ⊥ = cc in absurd bad;
            no_write_fault = λ no_fault. w.1;
            silent = λ not_done no_fault. absurd (not_done refl);
            well = λ g are no_write. inl refl;
          }

      failed_ran : TextWritten text (taken output_old) (taken output_new) (writes output_old) (writes output_new) WriteFault → DrillRun taken writes rounds seed output_old output_new WriteFault
      failed_ran w =
          record {
            only = tt;
            done = λ e. let bad : ⊥ = cc in absurd bad;
            promise = λ e. drilled_keep text is;
            full = λ e. let bad : ⊥ = cc in absurd bad;
            bad_registry = λ file line reason e. let bad : ⊥ = cc in absurd bad;
            bad_plan = λ file line why e. let bad : ⊥ = cc in absurd bad;
            write_fault = λ e. (w.1, record { text = text; is_owed = is; written = w.0 });
            no_write_fault = λ no_fault. absurd (no_fault refl);
            silent = λ not_done no_fault. absurd (no_fault refl);
            well = λ g are no_write. absurd (no_write w.1);
          }

      pub written_ran : (status : Status) → TextWritten text (taken output_old) (taken output_new) (writes output_old) (writes output_new) status
          → DrillRun taken writes rounds seed output_old output_new status
      written_ran Done w = done_ran w
      written_ran Words w = absurd w
      written_ran (BadUnoidl file byte reason) w = absurd w
      written_ran (BadRegistry file line reason) w = absurd w
      written_ran (BadPlan file line why) w = absurd w
      written_ran ReadFault w = absurd w
      written_ran WriteFault w = failed_ran w
      written_ran (Broken reason place) w = absurd w
      written_ran Cut w = absurd w
      written_ran Full w = absurd w
      written_ran (NoFile file) w = absurd w
      written_ran NoMemory w = absurd w

pub ends_without_words : (status : Status) → EndsDrilling status → status ≡ Words → ⊥
ends_without_words status only e = subst EndsDrilling e only

module _ {O : Type 0} (taken : O → Option (List ℕ)) (writes : O → ℕ) (rounds seed : ℕ) (output_old output_new : O) where
  -- where memory is wanted for the line, that is the status
  lost : (status : Status) → has_own_line status ≡ true → DrillRun taken writes rounds seed output_old output_new status → DrillRun taken writes rounds seed output_old output_new NoMemory
  lost status own run =
      let plain = λ (s : Status) (none : has_own_line s ≡ false) (e : status ≡ s). own_differs status s own none e in
      record {
        only = tt;
        done = λ e. let bad : ⊥ = cc in absurd bad;
        promise = λ e. absurd (no_end e);
        full = λ e. let bad : ⊥ = cc in absurd bad;
        bad_registry = λ file line reason e. let bad : ⊥ = cc in absurd bad;
        bad_plan = λ file line why e. let bad : ⊥ = cc in absurd bad;
        write_fault = λ e. let bad : ⊥ = cc in absurd bad;
        no_write_fault = λ no_fault. run.no_write_fault (plain WriteFault refl);
        silent = λ not_done no_fault. run.silent (plain Done refl) (plain WriteFault refl);
        well = λ g are no_write. inr (inr refl);
      }
    where
      no_end : (NoMemory ≡ Done) ⊎ (NoMemory ≡ Full) → ⊥
      no_end (inl e) = cc
      no_end (inr e) = cc

  pub kept_run : (result status : Status) → Kept result status → DrillRun taken writes rounds seed output_old output_new status → DrillRun taken writes rounds seed output_old output_new result
  kept_run result status kept run = kept_so (DrillRun taken writes rounds seed output_old output_new) result status kept run (λ own. lost status own run)

pub stopped_so : (rounds seed : ℕ) (g : Settings) → AreOfDrill rounds seed g → AreReady g → (status : Status) → StopsSo g (Some seed) 65536 status → NotDrilled rounds seed status
stopped_so rounds seed g are ready Done n = n
stopped_so rounds seed g are ready Words n = n
stopped_so rounds seed g are ready (BadUnoidl file byte reason) n = n
stopped_so rounds seed g are ready (BadRegistry file line reason) n = absurd n
stopped_so rounds seed g are ready (BadPlan file line why) n = absurd n
stopped_so rounds seed g are ready ReadFault n = n
stopped_so rounds seed g are ready WriteFault n = n
stopped_so rounds seed g are ready (Broken reason place) n = n
stopped_so rounds seed g are ready Cut n = n
stopped_so rounds seed g are ready Full n = record { settings = g; are_of = are; ready = ready; limited = n }
stopped_so rounds seed g are ready (NoFile file) n = n
stopped_so rounds seed g are ready NoMemory n = tt

-- ---- its texts are refused

pub types_refused : (rounds seed : ℕ) (status : Status) → RefusedRegistry own_types status → NotDrilled rounds seed status
types_refused rounds seed Done n = absurd n
types_refused rounds seed Words n = absurd n
types_refused rounds seed (BadUnoidl file byte reason) n = absurd n
types_refused rounds seed (BadRegistry file line reason) n = n
types_refused rounds seed (BadPlan file line why) n = absurd n
types_refused rounds seed ReadFault n = absurd n
types_refused rounds seed WriteFault n = absurd n
types_refused rounds seed (Broken reason place) n = absurd n
types_refused rounds seed Cut n = absurd n
types_refused rounds seed Full n = absurd n
types_refused rounds seed (NoFile file) n = absurd n
types_refused rounds seed NoMemory n = tt

pub calling_refused : (rounds seed : ℕ) (registry : List Entity) → IsRegistryText own_types registry → (status : Status) → RefusedAt registry (calling_plan rounds seed) 1 status
    → NotDrilled rounds seed status
calling_refused rounds seed registry is Done n = absurd n
calling_refused rounds seed registry is Words n = absurd n
calling_refused rounds seed registry is (BadUnoidl file byte reason) n = absurd n
calling_refused rounds seed registry is (BadRegistry file line reason) n = absurd n
calling_refused rounds seed registry is (BadPlan file line why) n = inl (n.0, record { registry = registry; is_text = is; refused = n.1 })
calling_refused rounds seed registry is ReadFault n = absurd n
calling_refused rounds seed registry is WriteFault n = absurd n
calling_refused rounds seed registry is (Broken reason place) n = absurd n
calling_refused rounds seed registry is Cut n = absurd n
calling_refused rounds seed registry is Full n = absurd n
calling_refused rounds seed registry is (NoFile file) n = absurd n
calling_refused rounds seed registry is NoMemory n = tt

pub called_refused : (rounds seed : ℕ) (registry : List Entity) → IsRegistryText own_types registry → (status : Status) → RefusedAt registry node_plan 2 status → NotDrilled rounds seed status
called_refused rounds seed registry is Done n = absurd n
called_refused rounds seed registry is Words n = absurd n
called_refused rounds seed registry is (BadUnoidl file byte reason) n = absurd n
called_refused rounds seed registry is (BadRegistry file line reason) n = absurd n
called_refused rounds seed registry is (BadPlan file line why) n = inr (n.0, record { registry = registry; is_text = is; refused = n.1 })
called_refused rounds seed registry is ReadFault n = absurd n
called_refused rounds seed registry is WriteFault n = absurd n
called_refused rounds seed registry is (Broken reason place) n = absurd n
called_refused rounds seed registry is Cut n = absurd n
called_refused rounds seed registry is Full n = absurd n
called_refused rounds seed registry is (NoFile file) n = absurd n
called_refused rounds seed registry is NoMemory n = tt
