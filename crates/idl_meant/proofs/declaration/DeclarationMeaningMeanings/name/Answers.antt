use Rattle.std.proofs.Common.{◌≡◌, IfOk, subst}
use Rattle.idl_meant.proofs.declaration.DeclarationMeaningMeanings.name.Goals as goal

pub full_name-requires : goal.full_name-requires
full_name-requires c = c.in_ok-number.ensures.stands.0

pub returns : goal.returns
returns c = subst (λ text. IfOk c.full_name.result (λ name. name ≡ text)) c.in_ok-number.ensures.stands.1 c.full_name.ensures
