-- A run of `compile` ends as the reading of its files does, and then the compiling of their texts.
use Rattle.std.proofs.Common.{true, false, ◌≡◌, ◌≢◌, ℕ, ◌⊎◌, List, [], ◌∷◌, ◌++◌, Option, None, Some, Result, Ok, Err, refl, sym, ap, subst, ◌∙◌, inl, inr}
use Rattle.uno_base.specs.Causes.{Rose}
use Rattle.uno_io.specs.Files.{Stored, read_at}
use Rattle.uno_model.specs.Entities.{Entity}
use Rattle.registry_text_model.specs.Lines.{registry_text}
use Rattle.idl_compiled_model.proofs.VerdictLaws.{one_verdict}
use Rattle.idl_compiled_model.specs.Compiling.{Refusal, IsCompiled}
use Rattle.command_words.specs.Names.{Text}
use Rattle.uno_run.specs.Compile.{AllTell, CompileRun, EndsCompiling, FilesCompiled, refused_as}
use Rattle.uno_run.specs.Compiling.{OneUnread, TextsCompiled}
use Rattle.uno_run.specs.Lines.{has_own_line}
use Rattle.uno_run.specs.declared.status.Status.{Status}
use Rattle.uno_run.specs.declared.status.Status.TheVariants.{Done, Words, BadUnoidl, BadRegistry, BadPlan, ReadFault, WriteFault, Broken, Cut, Full, NoFile, NoMemory}
use Rattle.uno_run.proofs.Keeping.{Kept, kept_so, own_differs}

-- ---- what texts come to is one

module _ (texts : List (List ℕ)) where
  pub one_registry : (one other : List Entity) → IsCompiled texts (Ok one) → IsCompiled texts (Ok other) → one ≡ other
  one_registry one other is that =
      let both : ◌≡◌ {A = Result (List Entity) Refusal} (Ok one) (Ok other) = one_verdict texts (Ok one) (Ok other) is that in
      cc

  one_refusal : (one other : Refusal) → IsCompiled texts (Err one) → IsCompiled texts (Err other) → one ≡ other
  one_refusal one other is that =
      let both : ◌≡◌ {A = Result (List Entity) Refusal} (Err one) (Err other) = one_verdict texts (Err one) (Err other) is that in
      cc

  not_both : (registry : List Entity) (refusal : Refusal) → IsCompiled texts (Ok registry) → IsCompiled texts (Err refusal) → ⊥
  not_both registry refusal is that =
      let both : ◌≡◌ {A = Result (List Entity) Refusal} (Ok registry) (Err refusal) = one_verdict texts (Ok registry) (Err refusal) is that in
      cc

-- ---- texts that are compiled

module _ (texts : List (List ℕ)) (old new : Option (List ℕ)) (before now : ℕ) where
  -- the output did not fail, but where it is said so
  quiet : (status : Status) → TextsCompiled texts old new before now status → status ≢ WriteFault → now ≡ before
  quiet Done p no_fault = p.written.1
  quiet Words p no_fault = absurd p
  quiet (BadUnoidl file byte reason) p no_fault = p.2
  quiet (BadRegistry file line why) p no_fault = absurd p
  quiet (BadPlan file line why) p no_fault = absurd p
  quiet ReadFault p no_fault = absurd p
  quiet WriteFault p no_fault = absurd (no_fault refl)
  quiet (Broken why at) p no_fault = absurd p
  quiet Cut p no_fault = absurd p
  quiet Full p no_fault = absurd p
  quiet (NoFile file) p no_fault = absurd p
  quiet NoMemory p no_fault = p.1

  texts_only : (status : Status) → TextsCompiled texts old new before now status → EndsCompiling status
  texts_only Done p = tt
  texts_only Words p = p
  texts_only (BadUnoidl file byte reason) p = tt
  texts_only (BadRegistry file line why) p = p
  texts_only (BadPlan file line why) p = p
  texts_only ReadFault p = tt
  texts_only WriteFault p = tt
  texts_only (Broken why at) p = p
  texts_only Cut p = p
  texts_only Full p = p
  texts_only (NoFile file) p = tt
  texts_only NoMemory p = tt

  -- the text of a registry is written where the texts mean one, the output does not fail and memory is enough
  well_compiled : (registry : List Entity) → IsCompiled texts (Ok registry) → (Rose before now → ⊥) → (status : Status)
      → TextsCompiled texts old new before now status → (status ≡ Done) ⊎ (status ≡ NoMemory)
  well_compiled registry is no_fault Done p = inl refl
  well_compiled registry is no_fault Words p = absurd p
  well_compiled registry is no_fault (BadUnoidl file byte reason) p = absurd (not_both texts registry p.0.refusal is p.0.compiled)
  well_compiled registry is no_fault (BadRegistry file line why) p = absurd p
  well_compiled registry is no_fault (BadPlan file line why) p = absurd p
  well_compiled registry is no_fault ReadFault p = absurd p
  well_compiled registry is no_fault WriteFault p = absurd (no_fault p.written.1)
  well_compiled registry is no_fault (Broken why at) p = absurd p
  well_compiled registry is no_fault Cut p = absurd p
  well_compiled registry is no_fault Full p = absurd p
  well_compiled registry is no_fault (NoFile file) p = absurd p
  well_compiled registry is no_fault NoMemory p = inr refl

  -- and refused texts are refused
  wrong_compiled : (refusal : Refusal) → IsCompiled texts (Err refusal) → (status : Status) → TextsCompiled texts old new before now status
      → (status ≡ refused_as refusal) ⊎ (status ≡ NoMemory)
  wrong_compiled refusal is Done p = absurd (not_both texts p.registry refusal p.compiled is)
  wrong_compiled refusal is Words p = absurd p
  wrong_compiled refusal is (BadUnoidl file byte reason) p = inl (p.0.is_told ∙ ap refused_as (one_refusal texts p.0.refusal refusal p.0.compiled is))
  wrong_compiled refusal is (BadRegistry file line why) p = absurd p
  wrong_compiled refusal is (BadPlan file line why) p = absurd p
  wrong_compiled refusal is ReadFault p = absurd p
  wrong_compiled refusal is WriteFault p = absurd (not_both texts p.registry refusal p.compiled is)
  wrong_compiled refusal is (Broken why at) p = absurd p
  wrong_compiled refusal is Cut p = absurd p
  wrong_compiled refusal is Full p = absurd p
  wrong_compiled refusal is (NoFile file) p = absurd p
  wrong_compiled refusal is NoMemory p = inr refl

pub texts_no_words : (texts : List (List ℕ)) (old new : Option (List ℕ)) (before now : ℕ) (status : Status) → TextsCompiled texts old new before now status
    → status ≡ Words → ⊥
texts_no_words texts old new before now status compiled e = subst (TextsCompiled texts old new before now) e compiled

-- ---- files that are not all read

-- the files before a name that has none are all there, and so is that one, where all are
lacks_none : (files : Stored) (before behind : List Text) (name : Text) (texts : List (List ℕ)) → AllTell (Some files) (before ++ name ∷ behind) texts
    → read_at name files ≡ None → ⊥
lacks_none files [] behind name [] told none = told
lacks_none files [] behind name (text ∷ texts) told none = let there : read_at name files ≡ Some text = told.0 files refl in cc
lacks_none files (n ∷ before) behind name [] told none = told
lacks_none files (n ∷ before) behind name (text ∷ texts) told none = lacks_none files before behind name texts told.1 none

-- one list of texts stands under the names
pub one_list : (files : Stored) (names : List Text) (texts others : List (List ℕ)) → AllTell (Some files) names texts → AllTell (Some files) names others
    → texts ≡ others
one_list files [] [] [] told also = refl
one_list files [] [] (o ∷ others) told also = absurd also
one_list files [] (t ∷ texts) others told also = absurd told
one_list files (n ∷ names) [] others told also = absurd told
one_list files (n ∷ names) (t ∷ texts) [] told also = absurd also
one_list files (n ∷ names) (t ∷ texts) (o ∷ others) told also =
    let both : Some t ≡ Some o = sym (told.0 files refl) ∙ also.0 files refl in
    let same : t ≡ o = cc in
    rw (same, one_list files names texts others told.1 also.1) refl

module _ (store : Option Stored) (names : List Text) (before now : ℕ) where
  unread_same : (status : Status) → OneUnread store names before now status → status ≢ ReadFault → now ≡ before
  unread_same Done u no_fault = absurd u
  unread_same Words u no_fault = absurd u
  unread_same (BadUnoidl file byte reason) u no_fault = absurd u
  unread_same (BadRegistry file line why) u no_fault = absurd u
  unread_same (BadPlan file line why) u no_fault = absurd u
  unread_same ReadFault u no_fault = absurd (no_fault refl)
  unread_same WriteFault u no_fault = absurd u
  unread_same (Broken why at) u no_fault = absurd u
  unread_same Cut u no_fault = absurd u
  unread_same Full u no_fault = absurd u
  unread_same (NoFile file) u no_fault = u.1
  unread_same NoMemory u no_fault = u

  unread_only : (status : Status) → OneUnread store names before now status → EndsCompiling status
  unread_only Done u = tt
  unread_only Words u = u
  unread_only (BadUnoidl file byte reason) u = tt
  unread_only (BadRegistry file line why) u = u
  unread_only (BadPlan file line why) u = u
  unread_only ReadFault u = tt
  unread_only WriteFault u = tt
  unread_only (Broken why at) u = u
  unread_only Cut u = u
  unread_only Full u = u
  unread_only (NoFile file) u = tt
  unread_only NoMemory u = tt

  -- memory was wanted, where all files are there and the store does not fail
  unread_well : (files : Stored) (texts : List (List ℕ)) → store ≡ Some files → AllTell (Some files) names texts → (Rose before now → ⊥) → (status : Status)
      → OneUnread store names before now status
      → status ≡ NoMemory
  unread_well files texts stores told no_fault Done u = absurd u
  unread_well files texts stores told no_fault Words u = absurd u
  unread_well files texts stores told no_fault (BadUnoidl file byte reason) u = absurd u
  unread_well files texts stores told no_fault (BadRegistry file line why) u = absurd u
  unread_well files texts stores told no_fault (BadPlan file line why) u = absurd u
  unread_well files texts stores told no_fault ReadFault u = absurd (no_fault u)
  unread_well files texts stores told no_fault WriteFault u = absurd u
  unread_well files texts stores told no_fault (Broken why at) u = absurd u
  unread_well files texts stores told no_fault Cut u = absurd u
  unread_well files texts stores told no_fault Full u = absurd u
  unread_well files texts stores told no_fault (NoFile file) u =
      absurd (lacks_none files u.0.before u.0.behind u.0.name texts (subst (λ ns. AllTell (Some files) ns texts) u.0.split told) (u.0.absent files stores))
  unread_well files texts stores told no_fault NoMemory u = refl

pub unread_no_words : (store : Option Stored) (names : List Text) (before now : ℕ) (status : Status) → OneUnread store names before now status → status ≡ Words
    → ⊥
unread_no_words store names before now status unread e = subst (OneUnread store names before now) e unread

-- ---- a run

owed_is : (store : Option Stored) (names : List Text) (texts : List (List ℕ)) → AllTell store names texts → (registry : List Entity)
    → IsCompiled texts (Ok registry) → FilesCompiled store names (registry_text registry)
owed_is store names texts told registry compiled = record { texts = texts; told = told; registry = registry; compiled = compiled; written = refl }

module _ {F O : Type 0} (stored : F → Option Stored) (reads : F → ℕ) (taken : O → Option (List ℕ)) (writes : O → ℕ) (names : List Text)
    (files_old files_new : F) where
  -- files that were not all read are not compiled
  pub unread_ran : (output : O) (status : Status) → OneUnread (stored files_old) names (reads files_old) (reads files_new) status
      → CompileRun stored reads taken writes names files_old files_new output output status
  unread_ran output status unread =
      let as_is = λ (s : Status) (e : status ≡ s). subst (OneUnread (stored files_old) names (reads files_old) (reads files_new)) e unread in
      record {
        only = unread_only (stored files_old) names (reads files_old) (reads files_new) status unread;
        done = λ e. absurd (as_is Done e);
        refused = λ file byte reason e. absurd (as_is (BadUnoidl file byte reason) e);
        no_file = λ file e. (as_is (NoFile file) e).0;
        read_fault = λ e. as_is ReadFault e;
        no_read_fault = λ no_fault. unread_same (stored files_old) names (reads files_old) (reads files_new) status unread no_fault;
        write_fault = λ e. absurd (as_is WriteFault e);
        no_write_fault = λ no_fault. refl;
        silent = λ not_done no_fault. refl;
        well = λ files texts registry stores told is no_read no_write. inr
            (unread_well (stored files_old) names (reads files_old) (reads files_new) files texts stores told no_read status unread);
        wrong = λ files texts refusal stores told is no_read. inr
            (unread_well (stored files_old) names (reads files_old) (reads files_new) files texts stores told no_read status unread);
      }

  -- memory was wanted before anything was done
  pub idle_ran : (output : O) (status : Status) → files_new ≡ files_old → status ≡ NoMemory
      → CompileRun stored reads taken writes names files_old files_new output output status
  idle_ran output status same lost = subst (CompileRun stored reads taken writes names files_old files_new output output) (sym lost)
      (unread_ran output NoMemory (ap reads same))

  module _ (output_old output_new : O) where
    -- and texts that were compiled are those of the files
    pub texts_ran : (texts : List (List ℕ)) → AllTell (stored files_old) names texts → reads files_new ≡ reads files_old → (status : Status)
        → TextsCompiled texts (taken output_old) (taken output_new) (writes output_old) (writes output_new) status
        → (status ≢ Done → status ≢ WriteFault → output_new ≡ output_old)
        → CompileRun stored reads taken writes names files_old files_new output_old output_new status
    texts_ran texts told same status compiled silent =
        let as_is = λ (s : Status) (e : status ≡ s).
        subst (TextsCompiled texts (taken output_old) (taken output_new) (writes output_old) (writes output_new)) e compiled in
        let owed = owed_is (stored files_old) names texts told in
        record {
          only = texts_only texts (taken output_old) (taken output_new) (writes output_old) (writes output_new) status compiled;
          done = λ e. let p = as_is Done e in
              record { text = registry_text p.registry; is_owed = owed p.registry p.compiled; written = p.written.0 };
          refused = λ file byte reason e. let p = as_is (BadUnoidl file byte reason) e in
              record { texts = texts; told = told; refusal = p.0.refusal; compiled = p.0.compiled; is_told = e ∙ p.0.is_told };
          no_file = λ file e. absurd (as_is (NoFile file) e);
          read_fault = λ e. absurd (as_is ReadFault e);
          no_read_fault = λ no_fault. same;
          write_fault = λ e. let p = as_is WriteFault e in
              (p.written.1, record { text = registry_text p.registry; is_owed = owed p.registry p.compiled; written = p.written.0 });
          no_write_fault = quiet texts (taken output_old) (taken output_new) (writes output_old) (writes output_new) status compiled;
          silent = silent;
          well = λ files others registry stores also is no_read no_write.
              let these = one_list files names others texts also (subst (λ s. AllTell s names texts) stores told) in
              well_compiled texts (taken output_old) (taken output_new) (writes output_old) (writes output_new) registry
              (subst (λ ts. IsCompiled ts (Ok registry)) these is) no_write status compiled;
          wrong = λ files others refusal stores also is no_read.
              let these = one_list files names others texts also (subst (λ s. AllTell s names texts) stores told) in
              wrong_compiled texts (taken output_old) (taken output_new) (writes output_old) (writes output_new) refusal
              (subst (λ ts. IsCompiled ts (Err refusal)) these is) status compiled;
        }

    -- where memory is wanted for the line, that is the status
    lost : (status : Status) → has_own_line status ≡ true → CompileRun stored reads taken writes names files_old files_new output_old output_new status
        → CompileRun stored reads taken writes names files_old files_new output_old output_new NoMemory
    lost status own run =
        let plain = λ (s : Status) (none : has_own_line s ≡ false) (e : status ≡ s). own_differs status s own none e in
        record {
          only = tt;
          done = λ e. let bad : ⊥ = cc in absurd bad;
          refused = λ file byte reason e. let bad : ⊥ = cc in absurd bad;
          no_file = λ file e. let bad : ⊥ = cc in absurd bad;
          read_fault = λ e. let bad : ⊥ = cc in absurd bad;
          no_read_fault = λ no_fault. run.no_read_fault (plain ReadFault refl);
          write_fault = λ e. let bad : ⊥ = cc in absurd bad;
          no_write_fault = λ no_fault. run.no_write_fault (plain WriteFault refl);
          silent = λ not_done no_fault. run.silent (plain Done refl) (plain WriteFault refl);
          well = λ files texts registry stores told is no_read no_write. inr refl;
          wrong = λ files texts refusal stores told is no_read. inr refl;
        }

    pub kept_run : (result status : Status) → Kept result status → CompileRun stored reads taken writes names files_old files_new output_old output_new status
        → CompileRun stored reads taken writes names files_old files_new output_old output_new result
    kept_run result status kept run =
        kept_so (CompileRun stored reads taken writes names files_old files_new output_old output_new) result status kept run (λ own. lost status own run)
