-- What holds of all declarations of files holds of the files.
use Rattle.std.proofs.Common.{◌≡◌, sym, ap, subst, ◌∙◌, ◌<◌, List, Result, Ok, Err}
use Rattle.std.specs.Prelude.{IfErr, IfOk}
use Rattle.idl_check.specs.Asked.{IsKeptAmong, IsRefusedFor}
use Rattle.idl_check.specs.Judging.{IsBroken}
use Rattle.idl_check.specs.declared.error.CheckError.{CheckError}
use Rattle.idl_check.specs.declared.error.CheckError.TheVariants as error
use Rattle.idl_meaning_model.specs.Declarations.{Declared, declarations}
use Rattle.idl_meaning_model.specs.Meaning.{meant, registry_of}
use Rattle.idl_model.specs.Places.{IsLeast}
use Rattle.idl_model.specs.Trees.{Tree}
use Rattle.idl_rules_model.specs.CheckVerdicts.{IsChecked, broken, broken_among}
use Rattle.idl_trees.specs.Names.{place_of}
use Rattle.registry_text_model.specs.Rules.{number_of}
use Rattle.uno_model.specs.Entities.{Entity}

files_kept : (trees : List Tree) (ds : List Declared) (reg : List Entity) → declarations trees ≡ ds → IsKeptAmong ds reg → IsChecked trees (Ok reg)
unfolding broken meant
files_kept trees ds reg are kept = (λ r. ap (broken_among r) are ∙ kept.0 r, kept.1 ∙ ap registry_of (sym are))

files_broken : (trees : List Tree) (ds : List Declared) (e : CheckError) → declarations trees ≡ ds → IsRefusedFor ds e → IsBroken trees e
unfolding broken
files_broken trees ds error.NoMemory are refused = tt
files_broken trees ds (error.Rule number place) are refused = (
  refused.rule,
  refused.numbered,
  record {
    least = subst (λ es. IsLeast (place_of place) (broken_among refused.rule es)) (sym are) refused.least;
    lesser = λ s low. ap (broken_among s) are ∙ refused.lesser s (subst (λ n. number_of s < n) refused.numbered low);
  },
)

pub checked_kept : (trees : List Tree) (ds : List Declared) (r : Result (List Entity) CheckError) → declarations trees ≡ ds → IfOk r (IsKeptAmong ds) → IfOk r (λ reg. IsChecked trees (Ok reg))
checked_kept trees ds (Ok reg) are kept = files_kept trees ds reg are kept
checked_kept trees ds (Err e) are kept = tt

pub checked_broken : {X : Type 0} (trees : List Tree) (ds : List Declared) (r : Result X CheckError) → declarations trees ≡ ds → IfErr r (IsRefusedFor ds) → IfErr r (IsBroken trees)
checked_broken trees ds (Ok x) are refused = tt
checked_broken trees ds (Err e) are refused = files_broken trees ds e are refused
