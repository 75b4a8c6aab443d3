-- Canonical UNOIDL compiles to its registry: its text is that of a tree that writes the registry, and what writes it checks to it.
use Rattle.std.proofs.Common.{◌≤◌, List, [], ◌∷◌, length, Ok, refl}
use Rattle.idl_compiled_model.proofs.OfFiles.{alone_of_files}
use Rattle.idl_compiled_model.specs.Compiling.{IsCompiled}
use Rattle.idl_meaning_model.specs.FromFiles.{AreOfFiles}
use Rattle.idl_meaning_model.specs.NameFaults.{names_told}
use Rattle.idl_model.specs.PlacedTokens.{in_file}
use Rattle.idl_text_model.specs.LexVerdicts.{most_bytes}
use Rattle.registry_text_model.specs.Canonical.{canonical_unoidl}
use Rattle.registry_text_model.specs.Rules.{KeepsTheRules}
use Rattle.uno_model.specs.BuiltIn.{HasBuiltIn}
use Rattle.uno_model.specs.Entities.{Entity}
use Rattle.uno_model.specs.Registry.{IsRising}
use Rattle.canonical_laws.proofs.Printer.{text_is_read}
use Rattle.canonical_laws.proofs.WrittenLaws.{written_checks}

pub compiles : (reg : List Entity) → KeepsTheRules reg → HasBuiltIn reg → IsRising reg → length (canonical_unoidl reg) ≤ most_bytes
    → IsCompiled (canonical_unoidl reg ∷ []) (Ok reg)
compiles reg keeps has rising fits =
    let read = text_is_read reg keeps fits in
    let ds = read.0 in
    let file = read.1 in
    let files : AreOfFiles (ds ∷ []) = alone_of_files (canonical_unoidl reg) file.tokens (in_file 0 file.tokens) ds file.lexed refl file.parsed in
    let checks = written_checks reg keeps has rising ds files read.2 in
    record { trees = ds ∷ []; read = (file, tt); names = names_told (ds ∷ []); resolved = (checks.0, refl); verdict = checks.1 }
