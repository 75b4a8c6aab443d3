use Rattle.std.proofs.Common.{subst, sym}
use Rattle.idl_meant.specs.FullNames.{AreFullNames}
use Rattle.idl_meant.proofs.MeantLemmas.{told_name}
use Rattle.idl_meant.proofs.meaning.Meaning.full_name.Goals as goal

pub returns : goal.returns
returns c =
    told_name c.full_name.result _ c.args.self.now.right (λ it.
    c.full_name.ensures (subst (AreFullNames c.args.self.now.resolved.now.paths) (sym c.as_slice.ensures.value) it.full_names_are))
