-- A run of `pair` ends as the report of its two ends does, and the writing of it.
use Rattle.std.proofs.Common.{true, false, ◌≡◌, ◌≢◌, ℕ, ◌⊎◌, List, Option, Some, refl, sym, ap, subst, inl, inr}
use Rattle.uno_base.specs.Causes.{Rose}
use Rattle.uno_io.specs.Files.{Stored}
use Rattle.command_words.specs.Names.{Text}
use Rattle.world_model.specs.Worlds.{Settings}
use Rattle.world_laws.specs.Ready.{AreReady}
use Rattle.uno_run.specs.Joining.{NotJoined, NotReported, StopsSo}
use Rattle.uno_run.specs.Lines.{has_own_line}
use Rattle.uno_run.specs.Pair.{AreOfFiles, EndsPairing, FilesKeep, FilesLimited, FilesReported, PairRun}
use Rattle.uno_run.specs.Printing.{TextWritten}
use Rattle.uno_run.specs.declared.status.Status.{Status}
use Rattle.uno_run.specs.declared.status.Status.TheVariants.{Done, Words, BadUnoidl, BadRegistry, BadPlan, ReadFault, WriteFault, Broken, Cut, Full, NoFile, NoMemory}
use Rattle.uno_run.proofs.FilesWell.{none_missing, plans_kept, types_kept}
use Rattle.uno_run.proofs.Keeping.{Kept, kept_so, own_differs}
use Rattle.uno_run.proofs.Promises.{keeps_promise}

module _ (store : Option Stored) (types plan_a plan_b : Text) (seed : Option ℕ) (cut : ℕ) where
  -- ends that came to their end kept their promise, and so did those of which one reached a limit
  reported_keep : (report : List ℕ) → FilesReported store types plan_a plan_b seed cut report → FilesKeep store types plan_a plan_b seed cut
  reported_keep report r =
      record {
        settings = r.settings;
        are_of = r.are_of;
        last = r.reported.last;
        paired = r.reported.ends.paired;
        keeps = keeps_promise r.settings r.ready seed cut r.reported.last r.reported.ends.paired r.reported.ends.keeps;
      }

  limited_keep : FilesLimited store types plan_a plan_b seed cut → FilesKeep store types plan_a plan_b seed cut
  limited_keep r =
      record {
        settings = r.settings;
        are_of = r.are_of;
        last = r.limited.last;
        paired = r.limited.paired;
        keeps = keeps_promise r.settings r.ready seed cut r.limited.last r.limited.paired r.limited.keeps;
      }

  module _ (before now : ℕ) where
    none_only : (status : Status) → NotReported store types plan_a plan_b seed cut before now status → EndsPairing status
    none_only Done n = tt
    none_only Words n = n
    none_only (BadUnoidl file byte reason) n = n
    none_only (BadRegistry file line reason) n = tt
    none_only (BadPlan file line why) n = tt
    none_only ReadFault n = tt
    none_only WriteFault n = tt
    none_only (Broken reason place) n = n
    none_only Cut n = n
    none_only Full n = tt
    none_only (NoFile file) n = tt
    none_only NoMemory n = tt

    none_same : (status : Status) → NotReported store types plan_a plan_b seed cut before now status → status ≢ ReadFault → now ≡ before
    none_same Done n no_fault = absurd n
    none_same Words n no_fault = absurd n
    none_same (BadUnoidl file byte reason) n no_fault = absurd n
    none_same (BadRegistry file line reason) n no_fault = n.2
    none_same (BadPlan file line why) n no_fault = n.1
    none_same ReadFault n no_fault = absurd (no_fault refl)
    none_same WriteFault n no_fault = absurd n
    none_same (Broken reason place) n no_fault = absurd n
    none_same Cut n no_fault = absurd n
    none_same Full n no_fault = n.1
    none_same (NoFile file) n no_fault = n.1
    none_same NoMemory n no_fault = n

    none_well : (files : Stored) (g : Settings) → store ≡ Some files → AreOfFiles store types plan_a plan_b g → (Rose before now → ⊥) → (status : Status)
        → NotReported store types plan_a plan_b seed cut before now status → (status ≡ Done) ⊎ ((status ≡ Full) ⊎ (status ≡ NoMemory))
    none_well files g stores are no_fault Done n = absurd n
    none_well files g stores are no_fault Words n = absurd n
    none_well files g stores are no_fault (BadUnoidl file byte reason) n = absurd n
    none_well files g stores are no_fault (BadRegistry file line reason) n = absurd (types_kept store files stores types plan_a plan_b g are line reason n.1)
    none_well files g stores are no_fault (BadPlan file line why) n = absurd (plans_kept store files stores types plan_a plan_b g are file line why n.0)
    none_well files g stores are no_fault ReadFault n = absurd (no_fault n)
    none_well files g stores are no_fault WriteFault n = absurd n
    none_well files g stores are no_fault (Broken reason place) n = absurd n
    none_well files g stores are no_fault Cut n = absurd n
    none_well files g stores are no_fault Full n = inr (inl refl)
    none_well files g stores are no_fault (NoFile file) n = absurd (none_missing store files stores types plan_a plan_b g are file n.0)
    none_well files g stores are no_fault NoMemory n = inr (inr refl)

module _ {F O : Type 0} (stored : F → Option Stored) (reads : F → ℕ) (taken : O → Option (List ℕ)) (writes : O → ℕ) (types plan_a plan_b : Text) (seed : Option ℕ) (cut : ℕ)
    (files_old files_new : F) where
  -- there was no report
  pub none_ran : (output : O) (status : Status) → NotReported (stored files_old) types plan_a plan_b seed cut (reads files_old) (reads files_new) status
      → PairRun stored reads taken writes types plan_a plan_b seed cut files_old files_new output output status
  none_ran output status n =
      let as_is = λ (s : Status) (e : status ≡ s). subst (NotReported (stored files_old) types plan_a plan_b seed cut (reads files_old) (reads files_new)) e n in
      record {
        only = none_only (stored files_old) types plan_a plan_b seed cut (reads files_old) (reads files_new) status n;
        done = λ e. absurd (as_is Done e);
        promise = by_end;
        full = λ e. (as_is Full e).0;
        bad_registry = λ file line reason e. let r = as_is (BadRegistry file line reason) e in (r.0, r.1);
        bad_plan = λ file line why e. (as_is (BadPlan file line why) e).0;
        no_file = λ file e. (as_is (NoFile file) e).0;
        read_fault = λ e. as_is ReadFault e;
        no_read_fault = λ no_fault. none_same (stored files_old) types plan_a plan_b seed cut (reads files_old) (reads files_new) status n no_fault;
        write_fault = λ e. absurd (as_is WriteFault e);
        no_write_fault = λ no_fault. refl;
        silent = λ not_done no_fault. refl;
        well = λ files g stores are no_read no_write. none_well (stored files_old) types plan_a plan_b seed cut (reads files_old) (reads files_new) files g stores are no_read status n;
      }
    where
      by_end : (status ≡ Done) ⊎ (status ≡ Full) → FilesKeep (stored files_old) types plan_a plan_b seed cut
      by_end (inl e) = absurd (subst (NotReported (stored files_old) types plan_a plan_b seed cut (reads files_old) (reads files_new)) e n)
      by_end (inr e) =
          let r = subst (NotReported (stored files_old) types plan_a plan_b seed cut (reads files_old) (reads files_new)) e n in
          limited_keep (stored files_old) types plan_a plan_b seed cut r.0

  -- memory was wanted before anything was done
  pub idle_ran : (output : O) (status : Status) → files_new ≡ files_old → status ≡ NoMemory → PairRun stored reads taken writes types plan_a plan_b seed cut files_old files_new output output status
  idle_ran output status same lost =
      subst (PairRun stored reads taken writes types plan_a plan_b seed cut files_old files_new output output) (sym lost) (none_ran output NoMemory (ap reads same))

  module _ (output_old output_new : O) where
    -- it was written
    module _ (report : List ℕ) (is : FilesReported (stored files_old) types plan_a plan_b seed cut report) (same : reads files_new ≡ reads files_old) where
      done_ran : TextWritten report (taken output_old) (taken output_new) (writes output_old) (writes output_new) Done
          → PairRun stored reads taken writes types plan_a plan_b seed cut files_old files_new output_old output_new Done
      done_ran w =
          record {
            only = tt;
            done = λ e. record { text = report; is_owed = is; written = w.0 };
            promise = λ e. reported_keep (stored files_old) types plan_a plan_b seed cut report is;
            full = λ e. let bad : ⊥ = cc in absurd bad;
            bad_registry = λ file line reason e. let bad : ⊥ = cc in absurd bad;
            bad_plan = λ file line why e. let bad : ⊥ = cc in absurd bad;
            no_file = λ file e. let bad : ⊥ = cc in absurd bad;
            read_fault = λ e. let bad : ⊥ = cc in absurd bad;
            no_read_fault = λ no_fault. same;
            write_fault = λ e. let bad : ⊥ = cc in absurd bad;
            no_write_fault = λ no_fault. w.1;
            silent = λ not_done no_fault. absurd (not_done refl);
            well = λ files g stores are no_read no_write. inl refl;
          }

      failed_ran : TextWritten report (taken output_old) (taken output_new) (writes output_old) (writes output_new) WriteFault
          → PairRun stored reads taken writes types plan_a plan_b seed cut files_old files_new output_old output_new WriteFault
      failed_ran w =
          record {
            only = tt;
            done = λ e. let bad : ⊥ = cc in absurd bad;
            promise = λ e. reported_keep (stored files_old) types plan_a plan_b seed cut report is;
            full = λ e. let bad : ⊥ = cc in absurd bad;
            bad_registry = λ file line reason e. let bad : ⊥ = cc in absurd bad;
            bad_plan = λ file line why e. let bad : ⊥ = cc in absurd bad;
            no_file = λ file e. let bad : ⊥ = cc in absurd bad;
            read_fault = λ e. let bad : ⊥ = cc in absurd bad;
            no_read_fault = λ no_fault. same;
            write_fault = λ e. (w.1, record { text = report; is_owed = is; written = w.0 });
            no_write_fault = λ no_fault. absurd (no_fault refl);
            silent = λ not_done no_fault. absurd (no_fault refl);
            well = λ files g stores are no_read no_write. absurd (no_write w.1);
          }

      pub written_ran : (status : Status) → TextWritten report (taken output_old) (taken output_new) (writes output_old) (writes output_new) status
          → PairRun stored reads taken writes types plan_a plan_b seed cut files_old files_new output_old output_new status
      written_ran Done w = done_ran w
      written_ran Words w = absurd w
      written_ran (BadUnoidl file byte reason) w = absurd w
      written_ran (BadRegistry file line reason) w = absurd w
      written_ran (BadPlan file line why) w = absurd w
      written_ran ReadFault w = absurd w
      written_ran WriteFault w = failed_ran w
      written_ran (Broken reason place) w = absurd w
      written_ran Cut w = absurd w
      written_ran Full w = absurd w
      written_ran (NoFile file) w = absurd w
      written_ran NoMemory w = absurd w

    -- where memory is wanted for the line, that is the status
    lost : (status : Status) → has_own_line status ≡ true → PairRun stored reads taken writes types plan_a plan_b seed cut files_old files_new output_old output_new status
        → PairRun stored reads taken writes types plan_a plan_b seed cut files_old files_new output_old output_new NoMemory
    lost status own run =
        let plain = λ (s : Status) (none : has_own_line s ≡ false) (e : status ≡ s). own_differs status s own none e in
        record {
          only = tt;
          done = λ e. let bad : ⊥ = cc in absurd bad;
          promise = λ e. absurd (no_end e);
          full = λ e. let bad : ⊥ = cc in absurd bad;
          bad_registry = λ file line reason e. let bad : ⊥ = cc in absurd bad;
          bad_plan = λ file line why e. let bad : ⊥ = cc in absurd bad;
          no_file = λ file e. let bad : ⊥ = cc in absurd bad;
          read_fault = λ e. let bad : ⊥ = cc in absurd bad;
          no_read_fault = λ no_fault. run.no_read_fault (plain ReadFault refl);
          write_fault = λ e. let bad : ⊥ = cc in absurd bad;
          no_write_fault = λ no_fault. run.no_write_fault (plain WriteFault refl);
          silent = λ not_done no_fault. run.silent (plain Done refl) (plain WriteFault refl);
          well = λ files g stores are no_read no_write. inr (inr refl);
        }
      where
        no_end : (NoMemory ≡ Done) ⊎ (NoMemory ≡ Full) → ⊥
        no_end (inl e) = cc
        no_end (inr e) = cc

    pub kept_run : (result status : Status) → Kept result status → PairRun stored reads taken writes types plan_a plan_b seed cut files_old files_new output_old output_new status
        → PairRun stored reads taken writes types plan_a plan_b seed cut files_old files_new output_old output_new result
    kept_run result status kept run =
        kept_so (PairRun stored reads taken writes types plan_a plan_b seed cut files_old files_new output_old output_new) result status kept run (λ own. lost status own run)

pub ends_without_words : (status : Status) → EndsPairing status → status ≡ Words → ⊥
ends_without_words status only e = subst EndsPairing e only

-- ---- steps

pub run_by : {F O : Type 0} (stored : F → Option Stored) (reads : F → ℕ) (taken : O → Option (List ℕ)) (writes : O → ℕ) (types plan_a plan_b : Text) (seed : Option ℕ) (cut other : ℕ)
    (files_old files_new : F) (output_old output_new : O) (status : Status) → other ≡ cut → PairRun stored reads taken writes types plan_a plan_b seed other files_old files_new output_old output_new status
    → PairRun stored reads taken writes types plan_a plan_b seed cut files_old files_new output_old output_new status
run_by stored reads taken writes types plan_a plan_b seed cut other files_old files_new output_old output_new status same run =
    subst (λ n. PairRun stored reads taken writes types plan_a plan_b seed n files_old files_new output_old output_new status) same run

pub not_joined : (store : Option Stored) (types plan_a plan_b : Text) (seed : Option ℕ) (cut before now : ℕ) (status : Status) → NotJoined store types plan_a plan_b before now status
    → NotReported store types plan_a plan_b seed cut before now status
not_joined store types plan_a plan_b seed cut before now Done n = n
not_joined store types plan_a plan_b seed cut before now Words n = n
not_joined store types plan_a plan_b seed cut before now (BadUnoidl file byte reason) n = n
not_joined store types plan_a plan_b seed cut before now (BadRegistry file line reason) n = n
not_joined store types plan_a plan_b seed cut before now (BadPlan file line why) n = n
not_joined store types plan_a plan_b seed cut before now ReadFault n = n
not_joined store types plan_a plan_b seed cut before now WriteFault n = n
not_joined store types plan_a plan_b seed cut before now (Broken reason place) n = n
not_joined store types plan_a plan_b seed cut before now Cut n = n
not_joined store types plan_a plan_b seed cut before now Full n = absurd n
not_joined store types plan_a plan_b seed cut before now (NoFile file) n = n
not_joined store types plan_a plan_b seed cut before now NoMemory n = n

pub stopped_so : (store : Option Stored) (types plan_a plan_b : Text) (seed : Option ℕ) (cut before now : ℕ) (g : Settings) → AreOfFiles store types plan_a plan_b g → AreReady g → now ≡ before
    → (status : Status) → StopsSo g seed cut status → NotReported store types plan_a plan_b seed cut before now status
stopped_so store types plan_a plan_b seed cut before now g are ready same Done n = n
stopped_so store types plan_a plan_b seed cut before now g are ready same Words n = n
stopped_so store types plan_a plan_b seed cut before now g are ready same (BadUnoidl file byte reason) n = n
stopped_so store types plan_a plan_b seed cut before now g are ready same (BadRegistry file line reason) n = absurd n
stopped_so store types plan_a plan_b seed cut before now g are ready same (BadPlan file line why) n = absurd n
stopped_so store types plan_a plan_b seed cut before now g are ready same ReadFault n = absurd n
stopped_so store types plan_a plan_b seed cut before now g are ready same WriteFault n = n
stopped_so store types plan_a plan_b seed cut before now g are ready same (Broken reason place) n = n
stopped_so store types plan_a plan_b seed cut before now g are ready same Cut n = n
stopped_so store types plan_a plan_b seed cut before now g are ready same Full n = (record { settings = g; are_of = are; ready = ready; limited = n }, same)
stopped_so store types plan_a plan_b seed cut before now g are ready same (NoFile file) n = absurd n
stopped_so store types plan_a plan_b seed cut before now g are ready same NoMemory n = same
