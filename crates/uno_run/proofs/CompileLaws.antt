-- What follows of runs of `compile`, and of `idl` over what they wrote.
use Rattle.std.proofs.Common.{◌≡◌, ◌⊎◌, ◌≤◌, ℕ, List, Option, Some, Ok, refl, sym, ap, subst, ◌∙◌, length, inl, inr}
use Rattle.std.specs.Io.KnownBytes.{Appends}
use Rattle.uno_base.specs.Causes.{Rose}
use Rattle.uno_io.specs.Files.{Stored, read_at}
use Rattle.uno_model.specs.Entities.{Entity}
use Rattle.registry_text_model.specs.Canonical.{canonical_unoidl}
use Rattle.registry_text_model.specs.Lines.{registry_text}
use Rattle.idl_rules_model.proofs.KeptLaws.{what_breaks_none_keeps_all}
use Rattle.idl_compiled_model.proofs.OfFiles.{are_of_files}
use Rattle.idl_compiled_model.specs.Compiling.{IsCompiled}
use Rattle.command_words.specs.Names.{Text}
use Rattle.uno_run.specs.Compile.{AllTell, CompileRun, FilesCompiled}
use Rattle.uno_run.specs.Idl.{IdlRun, IsOfFile, IsRegistryText}
use Rattle.uno_run.specs.declared.status.Status.{Status}
use Rattle.uno_run.specs.declared.status.Status.TheVariants.{Done, NoMemory}
use Rattle.uno_run.proofs.CompileRuns.{one_list, one_registry}
use Rattle.uno_run.proofs.EndingLaws.{one_text, same_registry}

-- the registry that texts mean keeps the rules, so that its text is read as it, where it is not too long
pub is_read_again : (texts : List (List ℕ)) (registry : List Entity) → IsCompiled texts (Ok registry) → length (registry_text registry) ≤ 4194304
    → IsRegistryText (registry_text registry) registry
is_read_again texts registry is short =
    let right = what_breaks_none_keeps_all is.trees is.names registry (are_of_files 0 texts is.trees is.read) is.resolved is.verdict in
    record { accepted = record { text = refl; keeps = right.0; rising = right.2; built_in = right.1 }; short = short }

module _ {F O : Type 0} (stored : F → Option Stored) (reads : F → ℕ) (taken : O → Option (List ℕ)) (writes : O → ℕ) (files_old files_new : F)
    (output_old output_new : O) (store : Stored) (stores : stored files_old ≡ Some store) (no_read : Rose (reads files_old) (reads files_new) → ⊥)
    (no_write : Rose (writes output_old) (writes output_new) → ⊥) (registry : List Entity) where
  -- where nothing hinders `compile`, it writes the text of the registry that its files mean
  module _ (names : List Text) (texts : List (List ℕ)) (told : AllTell (Some store) names texts) (is : IsCompiled texts (Ok registry)) where
    is_that_text : (text : List ℕ) → FilesCompiled (stored files_old) names text → text ≡ registry_text registry
    is_that_text text owed =
        let these = one_list store names owed.texts texts (subst (λ s. AllTell s names owed.texts) stores owed.told) told in
        let same = one_registry texts owed.registry registry (subst (λ ts. IsCompiled ts (Ok owed.registry)) these owed.compiled) is in
        owed.written ∙ ap registry_text same

    pub compiled_whole : (status : Status) → CompileRun stored reads taken writes names files_old files_new output_old output_new status
        → ((status ≡ Done) × Appends (taken output_old) (taken output_new) (registry_text registry)) ⊎ (status ≡ NoMemory)
    compiled_whole status run = by_end (run.well store texts registry stores told is no_read no_write)
      where
        by_end : (status ≡ Done) ⊎ (status ≡ NoMemory) → ((status ≡ Done) × Appends (taken output_old) (taken output_new) (registry_text registry))
            ⊎ (status ≡ NoMemory)
        by_end (inl done) = let w = run.done done in inl (done, subst (Appends (taken output_old) (taken output_new)) (is_that_text w.text w.is_owed) w.written)
        by_end (inr lost) = inr lost

  -- where nothing hinders `idl`, it writes canonical UNOIDL of the registry whose text its file is
  module _ (name : Text) (text : List ℕ) (there : read_at name store ≡ Some text) (is : IsRegistryText text registry) where
    of_file_is : (other : List Entity) → IsOfFile (stored files_old) name other → other ≡ registry
    of_file_is other of =
        let both : Some of.text ≡ Some text = sym (of.told store stores) ∙ there in
        let same : of.text ≡ text = cc in
        same_registry text other registry (subst (λ t. IsRegistryText t other) same of.is_text) is

    pub printed_whole : (status : Status) → IdlRun stored reads taken writes name files_old files_new output_old output_new status
        → ((status ≡ Done) × Appends (taken output_old) (taken output_new) (canonical_unoidl registry)) ⊎ (status ≡ NoMemory)
    printed_whole status run = by_end (run.well store text registry stores there is no_read no_write)
      where
        by_end : (status ≡ Done) ⊎ (status ≡ NoMemory) → ((status ≡ Done) × Appends (taken output_old) (taken output_new) (canonical_unoidl registry))
            ⊎ (status ≡ NoMemory)
        by_end (inl done) =
            let w = run.done done in
            inl (done, subst (λ r. Appends (taken output_old) (taken output_new) (canonical_unoidl r)) (of_file_is w.registry w.is_of) w.written)
        by_end (inr lost) = inr lost
