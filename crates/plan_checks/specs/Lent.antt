-- Types that are lent, as plain trees.
use Rattle.uno_model.specs.Kinds.{Kind}
use Rattle.uno_model.specs.Kinds as kd
use Rattle.uno_entities.specs.TypeNames.{kind_of}
use Rattle.plan_checks.specs.declared.kinds.LentKind.{LentKind}
use Rattle.plan_checks.specs.declared.kinds.LentKind.TheVariants as lent

abbrev pub lent_kind : LentKind → Kind
lent_kind (lent.Whole k) = kind_of k.now
lent_kind (lent.Interface name) = kd.interface name.now
