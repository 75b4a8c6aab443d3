-- A run of `idl` ends as the printing of its text does.
use Rattle.std.proofs.Common.{true, false, ◌≡◌, ◌≢◌, ℕ, ◌≤◌, ◌⊎◌, arith, length, List, Option, None, Some, refl, sym, subst, ◌∙◌, inl, inr}
use Rattle.uno_base.specs.Causes.{Rose}
use Rattle.uno_io.specs.Files.{Stored, read_at}
use Rattle.command_words.specs.Names.{Text}
use Rattle.uno_model.specs.Entities.{Entity}
use Rattle.registry_reading_model.proofs.NoneOfRegistry.{no_bad_line, not_out_of_order, breaks_none}
use Rattle.uno_run.specs.Idl.{EndsPrinting, IdlRun, IsRefused, IsRegistryText, Tells}
use Rattle.uno_run.specs.Printing.{TextPrinted}
use Rattle.uno_run.specs.Reading.{Unread}
use Rattle.uno_run.specs.Lines.{has_own_line}
use Rattle.uno_run.specs.declared.reason.RegistryReason.{RegistryReason}
use Rattle.uno_run.specs.declared.reason.RegistryReason.TheVariants as reason
use Rattle.uno_run.specs.declared.status.Status.{Status}
use Rattle.uno_run.specs.declared.status.Status.TheVariants.{Done, Words, BadUnoidl, BadRegistry, BadPlan, ReadFault, WriteFault, Broken, Cut, Full, NoFile, NoMemory}
use Rattle.uno_run.proofs.Keeping.{Kept, kept_so, own_differs}

-- the output did not fail, but where it is said so
quiet : (text : List ℕ) (old new : Option (List ℕ)) (before now : ℕ) (status : Status) → TextPrinted text old new before now status → status ≢ WriteFault → now ≡ before
quiet text old new before now Done p no_fault = p.printed.1
quiet text old new before now Words p no_fault = absurd p
quiet text old new before now (BadUnoidl file byte reason) p no_fault = absurd p
quiet text old new before now (BadRegistry file line reason) p no_fault = p.3
quiet text old new before now (BadPlan file line reason) p no_fault = absurd p
quiet text old new before now ReadFault p no_fault = absurd p
quiet text old new before now WriteFault p no_fault = absurd (no_fault refl)
quiet text old new before now (Broken reason place) p no_fault = absurd p
quiet text old new before now Cut p no_fault = absurd p
quiet text old new before now Full p no_fault = absurd p
quiet text old new before now (NoFile file) p no_fault = absurd p
quiet text old new before now NoMemory p no_fault = p.1

-- the text of a registry is not refused
pub not_refused : (text : List ℕ) (registry : List Entity) → IsRegistryText text registry → (line : ℕ) (reason : RegistryReason) → IsRefused text line reason → ⊥
not_refused text registry is line reason.TooLong refused = omega (arith, is.short, refused.1)
not_refused text registry is line reason.BadLine refused = let it = is.accepted in no_bad_line text registry it.keeps it.rising it.text line refused.0
not_refused text registry is line reason.Order refused = let it = is.accepted in not_out_of_order text registry it.keeps it.rising it.text line refused.0
not_refused text registry is line (reason.Rule number) refused =
    let it = is.accepted in
    let broken = refused.0 in
    breaks_none text registry it.keeps it.rising it.text it.built_in broken.rule line broken.breaks

-- a text ends printing as its status says
text_only : (text : List ℕ) (old new : Option (List ℕ)) (before now : ℕ) (status : Status) → TextPrinted text old new before now status → EndsPrinting status
text_only text old new before now Done p = tt
text_only text old new before now Words p = p
text_only text old new before now (BadUnoidl file byte reason) p = p
text_only text old new before now (BadRegistry file line reason) p = tt
text_only text old new before now (BadPlan file line reason) p = p
text_only text old new before now ReadFault p = tt
text_only text old new before now WriteFault p = tt
text_only text old new before now (Broken reason place) p = p
text_only text old new before now Cut p = p
text_only text old new before now Full p = p
text_only text old new before now (NoFile file) p = tt
text_only text old new before now NoMemory p = tt

-- a text that is not refused is printed, where the output does not fail and memory is enough
well_printed : (text : List ℕ) (old new : Option (List ℕ)) (before now : ℕ) (status : Status) → TextPrinted text old new before now status
    → ((line : ℕ) (reason : RegistryReason) → IsRefused text line reason → ⊥) → (Rose before now → ⊥) → (status ≡ Done) ⊎ (status ≡ NoMemory)
well_printed text old new before now Done p none no_fault = inl refl
well_printed text old new before now Words p none no_fault = absurd p
well_printed text old new before now (BadUnoidl file byte reason) p none no_fault = absurd p
well_printed text old new before now (BadRegistry file line reason) p none no_fault = absurd (none line reason p.1)
well_printed text old new before now (BadPlan file line reason) p none no_fault = absurd p
well_printed text old new before now ReadFault p none no_fault = absurd p
well_printed text old new before now WriteFault p none no_fault = absurd (no_fault p.printed.1)
well_printed text old new before now (Broken reason place) p none no_fault = absurd p
well_printed text old new before now Cut p none no_fault = absurd p
well_printed text old new before now Full p none no_fault = absurd p
well_printed text old new before now (NoFile file) p none no_fault = absurd p
well_printed text old new before now NoMemory p none no_fault = inr refl

-- a file that was not read
unread_same : (store : Option Stored) (name : Text) (place before now : ℕ) (status : Status) → Unread store name place before now status → status ≢ ReadFault → now ≡ before
unread_same store name place before now Done u no_fault = absurd u
unread_same store name place before now Words u no_fault = absurd u
unread_same store name place before now (BadUnoidl file byte reason) u no_fault = absurd u
unread_same store name place before now (BadRegistry file line reason) u no_fault = absurd u
unread_same store name place before now (BadPlan file line reason) u no_fault = absurd u
unread_same store name place before now ReadFault u no_fault = absurd (no_fault refl)
unread_same store name place before now WriteFault u no_fault = absurd u
unread_same store name place before now (Broken reason at) u no_fault = absurd u
unread_same store name place before now Cut u no_fault = absurd u
unread_same store name place before now Full u no_fault = absurd u
unread_same store name place before now (NoFile file) u no_fault = u.2
unread_same store name place before now NoMemory u no_fault = u

unread_only : (store : Option Stored) (name : Text) (place before now : ℕ) (status : Status) → Unread store name place before now status → EndsPrinting status
unread_only store name place before now Done u = tt
unread_only store name place before now Words u = u
unread_only store name place before now (BadUnoidl file byte reason) u = u
unread_only store name place before now (BadRegistry file line reason) u = tt
unread_only store name place before now (BadPlan file line reason) u = u
unread_only store name place before now ReadFault u = tt
unread_only store name place before now WriteFault u = tt
unread_only store name place before now (Broken reason at) u = u
unread_only store name place before now Cut u = u
unread_only store name place before now Full u = u
unread_only store name place before now (NoFile file) u = tt
unread_only store name place before now NoMemory u = tt

-- memory was wanted, where it is there and the store does not fail
unread_well : (store : Option Stored) (name : Text) (place before now : ℕ) (status : Status) → Unread store name place before now status → (files : Stored) (text : List ℕ) → store ≡ Some files
    → read_at name files ≡ Some text → (Rose before now → ⊥) → status ≡ NoMemory
unread_well store name place before now Done u files text stores reads no_fault = absurd u
unread_well store name place before now Words u files text stores reads no_fault = absurd u
unread_well store name place before now (BadUnoidl file byte reason) u files text stores reads no_fault = absurd u
unread_well store name place before now (BadRegistry file line reason) u files text stores reads no_fault = absurd u
unread_well store name place before now (BadPlan file line reason) u files text stores reads no_fault = absurd u
unread_well store name place before now ReadFault u files text stores reads no_fault = absurd (no_fault u)
unread_well store name place before now WriteFault u files text stores reads no_fault = absurd u
unread_well store name place before now (Broken reason at) u files text stores reads no_fault = absurd u
unread_well store name place before now Cut u files text stores reads no_fault = absurd u
unread_well store name place before now Full u files text stores reads no_fault = absurd u
unread_well store name place before now (NoFile file) u files text stores reads no_fault = let none : read_at name files ≡ None = u.1 files stores in let bad : ⊥ = cc in absurd bad
unread_well store name place before now NoMemory u files text stores reads no_fault = refl

pub unread_no_words : (store : Option Stored) (name : Text) (place before now : ℕ) (status : Status) → Unread store name place before now status → status ≡ Words → ⊥
unread_no_words store name place before now status u e = subst (Unread store name place before now) e u

module _ {F O : Type 0} (stored : F → Option Stored) (reads : F → ℕ) (taken : O → Option (List ℕ)) (writes : O → ℕ) (name : Text) (files_old files_new : F) (output : O) where
  -- a file that was not read is not printed
  pub unread_ran : (status : Status) → Unread (stored files_old) name 0 (reads files_old) (reads files_new) status → IdlRun stored reads taken writes name files_old files_new output output status
  unread_ran status unread =
      let as_is = λ (s : Status) (e : status ≡ s). subst (Unread (stored files_old) name 0 (reads files_old) (reads files_new)) e unread in
      record {
        only = unread_only (stored files_old) name 0 (reads files_old) (reads files_new) status unread;
        done = λ e. absurd (as_is Done e);
        refused = λ file line reason e. absurd (as_is (BadRegistry file line reason) e);
        read_fault = λ e. as_is ReadFault e;
        write_fault = λ e. absurd (as_is WriteFault e);
        no_file = λ file e. let n = as_is (NoFile file) e in (n.0, n.1);
        no_read_fault = λ no_fault. unread_same (stored files_old) name 0 (reads files_old) (reads files_new) status unread no_fault;
        no_write_fault = λ no_fault. refl;
        silent = λ not_done no_fault. refl;
        well = λ files text registry stores reads_so is_text no_read no_write. inr (unread_well (stored files_old) name 0 (reads files_old) (reads files_new) status unread files text stores reads_so no_read);
      }

module _ {F O : Type 0} (stored : F → Option Stored) (reads : F → ℕ) (taken : O → Option (List ℕ)) (writes : O → ℕ) (name : Text) (files_old files_new : F) (output_old output_new : O) where
  pub text_ran : (status : Status) (text : List ℕ) → Tells (stored files_old) name (Some text) → reads files_new ≡ reads files_old
      → TextPrinted text (taken output_old) (taken output_new) (writes output_old) (writes output_new) status → (status ≢ Done → status ≢ WriteFault → output_new ≡ output_old)
      → IdlRun stored reads taken writes name files_old files_new output_old output_new status
  text_ran status text told same printed silent =
      let as_is = λ (s : Status) (e : status ≡ s). subst (TextPrinted text (taken output_old) (taken output_new) (writes output_old) (writes output_new)) e printed in
      record {
        only = text_only text _ _ _ _ status printed;
        done = λ e. let p = as_is Done e in record { registry = p.registry; is_of = record { text = text; told = told; is_text = p.is_text }; written = p.printed.0 };
        refused = λ file line reason e. let p = as_is (BadRegistry file line reason) e in (p.0, record { text = text; told = told; refused = p.1 });
        read_fault = λ e. absurd (as_is ReadFault e);
        write_fault = λ e. let p = as_is WriteFault e in (p.printed.1, record { registry = p.registry; is_of = record { text = text; told = told; is_text = p.is_text }; written = p.printed.0 });
        no_file = λ file e. absurd (as_is (NoFile file) e);
        no_read_fault = λ no_fault. same;
        no_write_fault = quiet text _ _ _ _ status printed;
        silent = silent;
        well = λ files other registry stores reads_so is_text no_read no_write.
            let both : Some text ≡ Some other = sym (told files stores) ∙ reads_so in
            let is : text ≡ other = cc in
            well_printed text _ _ _ _ status printed
            (λ line reason refused. not_refused other registry is_text line reason (subst (λ t. IsRefused t line reason) is refused)) no_write;
      }

  -- where memory is wanted for the line, that is the status
  lost : (status : Status) → has_own_line status ≡ true → IdlRun stored reads taken writes name files_old files_new output_old output_new status
      → IdlRun stored reads taken writes name files_old files_new output_old output_new NoMemory
  lost status own run =
      let plain = λ (s : Status) (none : has_own_line s ≡ false) (e : status ≡ s). own_differs status s own none e in
      record {
        only = tt;
        done = λ e. let bad : ⊥ = cc in absurd bad;
        refused = λ file line reason e. let bad : ⊥ = cc in absurd bad;
        read_fault = λ e. let bad : ⊥ = cc in absurd bad;
        write_fault = λ e. let bad : ⊥ = cc in absurd bad;
        no_file = λ file e. let bad : ⊥ = cc in absurd bad;
        no_read_fault = λ no_fault. run.no_read_fault (plain ReadFault refl);
        no_write_fault = λ no_fault. run.no_write_fault (plain WriteFault refl);
        silent = λ not_done no_fault. run.silent (plain Done refl) (plain WriteFault refl);
        well = λ files text registry stores reads_so is_text no_read no_write. inr refl;
      }

  pub kept_run : (result status : Status) → Kept result status → IdlRun stored reads taken writes name files_old files_new output_old output_new status
      → IdlRun stored reads taken writes name files_old files_new output_old output_new result
  kept_run result status kept run = kept_so (IdlRun stored reads taken writes name files_old files_new output_old output_new) result status kept run (λ own. lost status own run)
