-- A run of `answer` is what its endpoint was, or what no endpoint was set up for.
use Rattle.std.proofs.Common.{◌≡◌, ◌≢◌, ◌⊎◌, ℕ, true, List, Option, refl, sym, subst, inl, inr}
use Rattle.uno_io.specs.Files.{Stored}
use Rattle.bridge_model.specs.Settings.{Setting}
use Rattle.command_words.specs.Names.{Text}
use Rattle.uno_run.specs.Answer.{AnswerRun, EndsAnswering, EndsServing, FilesServed, HasServed, IsIdle, IsOf, IsOfFiles, OwnRun, Served}
use Rattle.uno_run.specs.Lines.{has_own_line}
use Rattle.uno_run.specs.Plans.{NoOwnEnd}
use Rattle.uno_run.specs.Serving.{ServedOrNot}
use Rattle.uno_run.specs.SettingUp.{NotSetUp}
use Rattle.uno_run.specs.declared.status.Status.{Status}
use Rattle.uno_run.specs.declared.status.Status.TheVariants.{Done, Words, BadUnoidl, BadRegistry, BadPlan, ReadFault, WriteFault, Broken, Cut, Full, NoFile, NoMemory}
use Rattle.uno_run.proofs.Keeping.{Kept, kept_so, own_differs}
use Rattle.uno_run.proofs.ServedRuns.{lost_served}

-- where no endpoint was set up, none was served
not_served : (store : Option Stored) (types plan : Text) (before now : ℕ) (status : Status) → NotSetUp store types plan before now status → HasServed status → ⊥
not_served store types plan before now Done none h = none
not_served store types plan before now Words none h = none
not_served store types plan before now (BadUnoidl file byte reason) none h = none
not_served store types plan before now (BadRegistry file line reason) none h = h
not_served store types plan before now (BadPlan file line reason) none h = h
not_served store types plan before now ReadFault none h = h
not_served store types plan before now WriteFault none h = none
not_served store types plan before now (Broken reason place) none h = none
not_served store types plan before now Cut none h = none
not_served store types plan before now Full none h = none
not_served store types plan before now (NoFile file) none h = h
not_served store types plan before now NoMemory none h = h

same_readings : (store : Option Stored) (types plan : Text) (before now : ℕ) (status : Status) → NotSetUp store types plan before now status → status ≢ ReadFault → now ≡ before
same_readings store types plan before now Done none no_fault = absurd none
same_readings store types plan before now Words none no_fault = absurd none
same_readings store types plan before now (BadUnoidl file byte reason) none no_fault = absurd none
same_readings store types plan before now (BadRegistry file line reason) none no_fault = none.2
same_readings store types plan before now (BadPlan file line reason) none no_fault = none.2
same_readings store types plan before now ReadFault none no_fault = absurd (no_fault refl)
same_readings store types plan before now WriteFault none no_fault = absurd none
same_readings store types plan before now (Broken reason place) none no_fault = absurd none
same_readings store types plan before now Cut none no_fault = absurd none
same_readings store types plan before now Full none no_fault = absurd none
same_readings store types plan before now (NoFile file) none no_fault = none.1
same_readings store types plan before now NoMemory none no_fault = none

-- no other status is that of words or of files
pub no_words : (status : Status) → EndsServing status → status ≡ Words → ⊥
no_words status ends e = subst EndsServing e ends

pub none_no_words : (store : Option Stored) (types plan : Text) (before now : ℕ) (status : Status) → NotSetUp store types plan before now status → status ≡ Words → ⊥
none_no_words store types plan before now status none e = subst (NotSetUp store types plan before now) e none

-- of own texts
pub own_no_words : (types plan : List ℕ) (status : Status) → NoOwnEnd types plan status → status ≡ Words → ⊥
own_no_words types plan status none e = subst (NoOwnEnd types plan) e none

pub own_lost : (types plan : List ℕ) (status : Status) → status ≡ NoMemory → NoOwnEnd types plan status
own_lost types plan status lost = subst (NoOwnEnd types plan) (sym lost) tt

-- the statuses where no endpoint was set up, and where one was
none_only : (store : Option Stored) (types plan : Text) (before now : ℕ) (status : Status) → NotSetUp store types plan before now status → EndsAnswering status
none_only store types plan before now Done none = tt
none_only store types plan before now Words none = none
none_only store types plan before now (BadUnoidl file byte reason) none = none
none_only store types plan before now (BadRegistry file line reason) none = tt
none_only store types plan before now (BadPlan file line why) none = tt
none_only store types plan before now ReadFault none = tt
none_only store types plan before now WriteFault none = tt
none_only store types plan before now (Broken why place) none = tt
none_only store types plan before now Cut none = tt
none_only store types plan before now Full none = tt
none_only store types plan before now (NoFile file) none = tt
none_only store types plan before now NoMemory none = tt

served_only : (status : Status) → EndsServing status → EndsAnswering status
served_only Done ends = tt
served_only Words ends = ends
served_only (BadUnoidl file byte reason) ends = ends
served_only (BadRegistry file line reason) ends = tt
served_only (BadPlan file line why) ends = tt
served_only ReadFault ends = tt
served_only WriteFault ends = tt
served_only (Broken why place) ends = tt
served_only Cut ends = tt
served_only Full ends = tt
served_only (NoFile file) ends = tt
served_only NoMemory ends = tt

ended_so : {A : Type 0} (status : Status) → EndsServing status → HasServed status ⊎ ((status ≡ ReadFault) ⊎ (status ≡ NoMemory)) ⊎ A
ended_so Done ends = inl tt
ended_so Words ends = absurd ends
ended_so (BadUnoidl file byte reason) ends = absurd ends
ended_so (BadRegistry file line reason) ends = absurd ends
ended_so (BadPlan file line reason) ends = absurd ends
ended_so ReadFault ends = inr (inl (inl refl))
ended_so WriteFault ends = inl tt
ended_so (Broken reason place) ends = inl tt
ended_so Cut ends = inl tt
ended_so Full ends = inl tt
ended_so (NoFile file) ends = absurd ends
ended_so NoMemory ends = inr (inl (inr refl))

module _ {I O : Type 0} (left : I → Option (List ℕ)) (reads : I → ℕ) (taken : O → Option (List ℕ)) (writes : O → ℕ) (types plan tag : List ℕ) (input_old input_new : I) (output_old output_new : O) where
  pub own_run : (g : Setting) (status : Status) → IsOf types plan tag g → ServedOrNot left reads taken writes g input_old input_new output_old output_new status
      → OwnRun left reads taken writes types plan tag input_old input_new output_old output_new status
  own_run g status is (inl served) = inl (record { setting = g; is_of = is; served = served })
  own_run g status is (inr none) = inr (own_lost types plan status none.0, none.1)

  lost_own : (status : Status) → has_own_line status ≡ true → OwnRun left reads taken writes types plan tag input_old input_new output_old output_new status
      → OwnRun left reads taken writes types plan tag input_old input_new output_old output_new NoMemory
  lost_own status own (inl was) =
      inl (record { setting = was.setting; is_of = was.is_of; served = lost_served left reads taken writes was.setting input_old input_new output_old output_new status own was.served })
  lost_own status own (inr none) = inr (tt, none.1)

  pub kept_own : (result status : Status) → Kept result status → OwnRun left reads taken writes types plan tag input_old input_new output_old output_new status
      → OwnRun left reads taken writes types plan tag input_old input_new output_old output_new result
  kept_own result status kept run =
      kept_so (OwnRun left reads taken writes types plan tag input_old input_new output_old output_new) result status kept run (λ own. lost_own status own run)

module _ {F I O : Type 0} (stored : F → Option Stored) (readings : F → ℕ) (left : I → Option (List ℕ)) (reads : I → ℕ) (taken : O → Option (List ℕ)) (writes : O → ℕ)
    (types plan : Text) (tag : List ℕ) (files_old files_new : F) (input_old : I) (output_old : O) where
  pub run_none : (status : Status) → NotSetUp (stored files_old) types plan (readings files_old) (readings files_new) status
      → AnswerRun stored readings left reads taken writes types plan tag files_old files_new input_old input_old output_old output_old status
  run_none status none =
      let as_is = λ (s : Status) (e : status ≡ s). subst (NotSetUp (stored files_old) types plan (readings files_old) (readings files_new)) e none in
      record {
        only = none_only (stored files_old) types plan (readings files_old) (readings files_new) status none;
        served = λ h. absurd (not_served (stored files_old) types plan (readings files_old) (readings files_new) status none h);
        read_fault = λ e. inl (as_is ReadFault e, (refl, refl));
        no_memory = λ e. inl (refl, refl);
        bad_registry = λ file line reason e. let n = as_is (BadRegistry file line reason) e in (n.0, n.1);
        bad_plan = λ file line why e. let n = as_is (BadPlan file line why) e in (n.0, n.1);
        no_file = λ file e. (as_is (NoFile file) e).0;
        idle = inr (inr (refl, refl));
        no_file_fault = λ no_fault. same_readings (stored files_old) types plan (readings files_old) (readings files_new) status none no_fault;
      }

  -- want of memory before anything was done
  pub idle_run : (status : Status) → readings files_new ≡ readings files_old → status ≡ NoMemory
      → AnswerRun stored readings left reads taken writes types plan tag files_old files_new input_old input_old output_old output_old status
  idle_run status same e = subst (AnswerRun stored readings left reads taken writes types plan tag files_old files_new input_old input_old output_old output_old) (sym e) (run_none NoMemory same)

  module _ (input_new : I) (output_new : O) where
    files_served : (g : Setting) (status : Status) → IsOfFiles (stored files_old) types plan tag g → Served left reads taken writes g input_old input_new output_old output_new status
        → FilesServed left reads taken writes (stored files_old) types plan tag input_old input_new output_old output_new status
    files_served g status is served = record { setting = g; is_of = is; served = served }

    pub run_served : (g : Setting) (status : Status) → IsOfFiles (stored files_old) types plan tag g → readings files_new ≡ readings files_old → EndsServing status
        → ServedOrNot left reads taken writes g input_old input_new output_old output_new status
        → AnswerRun stored readings left reads taken writes types plan tag files_old files_new input_old input_new output_old output_new status
    run_served g status is same ends (inl served) =
        let was = files_served g status is served in
        record {
          only = served_only status ends;
          served = λ h. was;
          read_fault = λ e. inr (same, was);
          no_memory = λ e. inr was;
          bad_registry = λ file line reason e. absurd (subst EndsServing e ends);
          bad_plan = λ file line why e. absurd (subst EndsServing e ends);
          no_file = λ file e. absurd (subst EndsServing e ends);
          idle = ended_so status ends;
          no_file_fault = λ no_fault. same;
        }
    run_served g status is same ends (inr none) =
        record {
          only = served_only status ends;
          served = λ h. let bad : ⊥ = subst HasServed none.0 h in absurd bad;
          read_fault = λ e. let lost = none.0 in let bad : ⊥ = cc in absurd bad;
          no_memory = λ e. inl none.1;
          bad_registry = λ file line reason e. absurd (subst EndsServing e ends);
          bad_plan = λ file line why e. absurd (subst EndsServing e ends);
          no_file = λ file e. absurd (subst EndsServing e ends);
          idle = ended_so status ends;
          no_file_fault = λ no_fault. same;
        }

    lost_files : (status : Status) → has_own_line status ≡ true → FilesServed left reads taken writes (stored files_old) types plan tag input_old input_new output_old output_new status
        → FilesServed left reads taken writes (stored files_old) types plan tag input_old input_new output_old output_new NoMemory
    lost_files status own s =
        files_served s.setting NoMemory s.is_of (lost_served left reads taken writes s.setting input_old input_new output_old output_new status own s.served)

    lost_memory : (status : Status) → has_own_line status ≡ true
        → (HasServed status → FilesServed left reads taken writes (stored files_old) types plan tag input_old input_new output_old output_new status)
        → HasServed status ⊎ ((status ≡ ReadFault) ⊎ (status ≡ NoMemory)) ⊎ IsIdle input_old input_new output_old output_new
        → IsIdle input_old input_new output_old output_new ⊎ FilesServed left reads taken writes (stored files_old) types plan tag input_old input_new output_old output_new NoMemory
    lost_memory status own served (inl h) = inr (lost_files status own (served h))
    lost_memory status own served (inr (inl (inl e))) = absurd (own_differs status ReadFault own refl e)
    lost_memory status own served (inr (inl (inr e))) = absurd (own_differs status NoMemory own refl e)
    lost_memory status own served (inr (inr same)) = inl same

    lost_run : (status : Status) → has_own_line status ≡ true → AnswerRun stored readings left reads taken writes types plan tag files_old files_new input_old input_new output_old output_new status
        → AnswerRun stored readings left reads taken writes types plan tag files_old files_new input_old input_new output_old output_new NoMemory
    lost_run status own run = record {
      only = tt;
      served = λ h. absurd h;
      read_fault = λ e. let bad : ⊥ = cc in absurd bad;
      no_memory = λ e. lost_memory status own run.served run.idle;
      bad_registry = λ file line reason e. let bad : ⊥ = cc in absurd bad;
      bad_plan = λ file line why e. let bad : ⊥ = cc in absurd bad;
      no_file = λ file e. let bad : ⊥ = cc in absurd bad;
      idle = inr (inl (inr refl));
      no_file_fault = λ no_fault. run.no_file_fault (own_differs status ReadFault own refl);
    }

    pub kept_run : (result status : Status) → Kept result status → AnswerRun stored readings left reads taken writes types plan tag files_old files_new input_old input_new output_old output_new status
        → AnswerRun stored readings left reads taken writes types plan tag files_old files_new input_old input_new output_old output_new result
    kept_run result status kept run =
        kept_so (AnswerRun stored readings left reads taken writes types plan tag files_old files_new input_old input_new output_old output_new) result status kept run (λ own. lost_run status own run)
