use Rattle.urp_model.proofs.KindLaws.{kind_named_gives, kind_named_back}
use Rattle.urp_model.proofs.spelling_laws.a_class_and_a_name_are_one_type.Goals as goal

pub returns : goal.returns
returns c = λ reg class name k sound. (
  (λ found. let n = kind_named_gives reg class name k sound.named found in (n.is, n.class_is, n.name_is)),
  (λ is. rw (← is.1, ← is.2) (kind_named_back reg k sound.named is.0)),
)
