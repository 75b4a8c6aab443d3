-- What is created, as a plain datum.
use Rattle.std.specs.Prelude.{map}
use Rattle.plan_model.specs.Services as plain
use Rattle.uno_values.specs.Values.{plain_of}
use Rattle.service_manager.specs.declared.created.Created.{Created}
use Rattle.service_manager.specs.declared.created.Created.TheVariants as variant

abbrev pub created_of : Created → plain.Created
created_of (variant.Fresh behaviour fields) = plain.fresh behaviour (map plain_of fields.items)
created_of (variant.Singleton place) = plain.singleton place
