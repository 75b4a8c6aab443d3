-- An endpoint that stopped was served as its status says.
use Rattle.std.proofs.Common.{◌≡◌, ◌≢◌, ◌⊎◌, ◌↔◌, ℕ, Bool, true, false, List, Option, refl, inl, inr}
use Rattle.std.specs.Io.KnownBytes.{IsAtEnd}
use Rattle.uno_base.specs.Causes.{Rose}
use Rattle.bridge_model.specs.Settings.{Setting}
use Rattle.bridge_model.specs.declared.cause.Cause.{Cause}
use Rattle.bridge_model.specs.declared.cause.Cause.TheVariants as cause
use Rattle.urp_model.specs.declared.reason.Reason.{Reason}
use Rattle.answering.specs.Answering.{AnsweredPart, AnsweredWhole, GoesOnTelling, InputEnded, WasRead}
use Rattle.answering.specs.declared.stopped.Stopped.{Stopped}
use Rattle.answering.specs.declared.stopped.Stopped.TheVariants as stopped
use Rattle.uno_run.specs.Answer.{EndsServing, Served}
use Rattle.uno_run.specs.Lines.{has_own_line}
use Rattle.uno_run.specs.declared.status.Status.{Status}
use Rattle.uno_run.specs.declared.status.Status.TheVariants.{Done, Words, BadUnoidl, BadRegistry, BadPlan, ReadFault, WriteFault, Broken, Cut, Full, NoFile, NoMemory}
use Rattle.uno_run.proofs.Keeping.{own_differs}

-- what an endpoint did that stopped so
pub record Answered {I O : Type 0} (left : I → Option (List ℕ)) (reads : I → ℕ) (taken : O → Option (List ℕ)) (writes : O → ℕ) (g : Setting)
    (input_old input_new : I) (output_old output_new : O) (why : Stopped) : Type 0 where
  pub bridge : (x : Cause) → why ≡ stopped.Bridge x → (s : List ℕ) → WasRead (left input_old) (left input_new) s → AnsweredWhole g s false (taken output_old) (taken output_new) x
  pub input : (cut : Bool) → why ≡ stopped.Input cut → (s : List ℕ) → WasRead (left input_old) (left input_new) s → AnsweredWhole g s true (taken output_old) (taken output_new) cause.Ended
  pub cut : (cut : Bool) → why ≡ stopped.Input cut → (s : List ℕ) → WasRead (left input_old) (left input_new) s → InputEnded g s cut
  pub at_end : (cut : Bool) → why ≡ stopped.Input cut → IsAtEnd (left input_new)
  pub fault : why ≡ stopped.ReadFault → (s : List ℕ) → WasRead (left input_old) (left input_new) s → AnsweredWhole g s true (taken output_old) (taken output_new) cause.Ended
  pub read_fault : why ≡ stopped.ReadFault → Rose (reads input_old) (reads input_new)
  pub no_read_fault : (x : Cause) → why ≡ stopped.Bridge x → reads input_new ≡ reads input_old
  pub input_without_fault : (cut : Bool) → why ≡ stopped.Input cut → reads input_new ≡ reads input_old
  pub write_fault : why ≡ stopped.WriteFault → Rose (writes output_old) (writes output_new)
  pub no_write_fault : why ≢ stopped.WriteFault → writes output_new ≡ writes output_old
  pub part : (s : List ℕ) → WasRead (left input_old) (left input_new) s → AnsweredPart g s (taken output_old) (taken output_new)
  pub goes_on : GoesOnTelling (left input_old) (left input_new)

-- what its status says of that
pub record Says (why : Stopped) (status : Status) : Type 0 where
  pub done : status ≡ Done → (why ≡ stopped.Bridge cause.Disposed) ⊎ (why ≡ stopped.Input false)
  pub cut : status ≡ Cut → why ≡ stopped.Input true
  pub broken : (reason : Reason) (place : ℕ) → status ≡ Broken reason place → why ≡ stopped.Bridge (cause.Broken reason place)
  pub full : status ≡ Full → why ≡ stopped.Bridge cause.Full
  pub read_fault : status ≡ ReadFault → why ≡ stopped.ReadFault
  pub write_fault : (status ≡ WriteFault) ↔ (why ≡ stopped.WriteFault)
  pub ends : EndsServing status

module _ {I O : Type 0} (left : I → Option (List ℕ)) (reads : I → ℕ) (taken : O → Option (List ℕ)) (writes : O → ℕ) (g : Setting) (input_old input_new : I) (output_old output_new : O) where
  by_end : (why : Stopped) → Answered left reads taken writes g input_old input_new output_old output_new why → (why ≡ stopped.Bridge cause.Disposed) ⊎ (why ≡ stopped.Input false)
      → (s : List ℕ) → WasRead (left input_old) (left input_new) s
      → AnsweredWhole g s false (taken output_old) (taken output_new) cause.Disposed ⊎ (AnsweredWhole g s true (taken output_old) (taken output_new) cause.Ended × InputEnded g s false × IsAtEnd (left input_new))
  by_end why a (inl is) s read = inl (a.bridge cause.Disposed is s read)
  by_end why a (inr is) s read = inr (a.input false is s read, a.cut false is s read, a.at_end false is)

  same_at_end : (why : Stopped) → Answered left reads taken writes g input_old input_new output_old output_new why → (why ≡ stopped.Bridge cause.Disposed) ⊎ (why ≡ stopped.Input false)
      → reads input_new ≡ reads input_old
  same_at_end why a (inl is) = a.no_read_fault cause.Disposed is
  same_at_end why a (inr is) = a.input_without_fault false is

  no_read_fault : (why : Stopped) (status : Status) → Answered left reads taken writes g input_old input_new output_old output_new why → Says why status
      → status ≢ ReadFault → status ≢ WriteFault → status ≢ NoMemory → reads input_new ≡ reads input_old
  no_read_fault why Done a n no_read no_write enough = same_at_end why a (n.done refl)
  no_read_fault why Words a n no_read no_write enough = absurd n.ends
  no_read_fault why (BadUnoidl file byte reason) a n no_read no_write enough = absurd n.ends
  no_read_fault why (BadRegistry file line reason) a n no_read no_write enough = absurd n.ends
  no_read_fault why (BadPlan file line reason) a n no_read no_write enough = absurd n.ends
  no_read_fault why ReadFault a n no_read no_write enough = absurd (no_read refl)
  no_read_fault why WriteFault a n no_read no_write enough = absurd (no_write refl)
  no_read_fault why (Broken reason place) a n no_read no_write enough = a.no_read_fault (cause.Broken reason place) (n.broken reason place refl)
  no_read_fault why Cut a n no_read no_write enough = a.input_without_fault true (n.cut refl)
  no_read_fault why Full a n no_read no_write enough = a.no_read_fault cause.Full (n.full refl)
  no_read_fault why (NoFile file) a n no_read no_write enough = absurd n.ends
  no_read_fault why NoMemory a n no_read no_write enough = absurd (enough refl)

  pub served_so : (why : Stopped) (status : Status) → Answered left reads taken writes g input_old input_new output_old output_new why → Says why status
      → Served left reads taken writes g input_old input_new output_old output_new status
  served_so why status a n = record {
    only = n.ends;
    goes_on = a.goes_on;
    done = λ e s read. by_end why a (n.done e) s read;
    cut = λ e s read. (a.input true (n.cut e) s read, a.cut true (n.cut e) s read, a.at_end true (n.cut e));
    broken = λ reason place e s read. a.bridge (cause.Broken reason place) (n.broken reason place e) s read;
    full = λ e s read. a.bridge cause.Full (n.full e) s read;
    fault = λ e s read. a.fault (n.read_fault e) s read;
    part = a.part;
    read_fault = λ e. a.read_fault (n.read_fault e);
    no_read_fault = no_read_fault why status a n;
    write_fault = λ e. a.write_fault (n.write_fault.0 e);
    no_write_fault = λ none. a.no_write_fault (λ e. none (n.write_fault.1 e));
  }

  -- where memory is wanted for the line, that is the status
  pub lost_served : (status : Status) → has_own_line status ≡ true → Served left reads taken writes g input_old input_new output_old output_new status
      → Served left reads taken writes g input_old input_new output_old output_new NoMemory
  lost_served status own served = record {
    only = tt;
    goes_on = served.goes_on;
    done = λ e. let bad : ⊥ = cc in absurd bad;
    cut = λ e. let bad : ⊥ = cc in absurd bad;
    broken = λ reason place e. let bad : ⊥ = cc in absurd bad;
    full = λ e. let bad : ⊥ = cc in absurd bad;
    fault = λ e. let bad : ⊥ = cc in absurd bad;
    part = served.part;
    read_fault = λ e. let bad : ⊥ = cc in absurd bad;
    no_read_fault = λ no_read no_write enough. absurd (enough refl);
    write_fault = λ e. let bad : ⊥ = cc in absurd bad;
    no_write_fault = λ none. served.no_write_fault (own_differs status WriteFault own refl);
  }
