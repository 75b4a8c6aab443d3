-- References as plain trees.
use Rattle.uno_model.specs.Values.{Ref, null, own, peer}
use Rattle.uno_values.specs.declared.reference.Reference.{Reference}
use Rattle.uno_values.specs.declared.reference.Reference.TheVariants as reference

abbrev pub ref_of : Reference → Ref
ref_of reference.Null = null
ref_of (reference.Local oid face) = own oid face
ref_of (reference.Remote oid face) = peer oid face
