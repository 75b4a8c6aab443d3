-- The parts of a light value have lengths of four bytes.
use Rattle.std.proofs.Common.{◌≤◌, ◌<◌, ◌^◌, List, length, arith}
use Rattle.uno_model.specs.Entities.{Entity}
use Rattle.uno_model.specs.Fits.{Fits}
use Rattle.uno_model.specs.Kinds.{Kind, name_of}
use Rattle.uno_model.specs.Kinds as kd
use Rattle.uno_model.specs.Sound.{IsSound}
use Rattle.uno_model.specs.Values.{Ref, null, own, peer, Plain, Plains, str, kind, any, tuple, list, bytes, ref, none, more}
use Rattle.uno_model.specs.Weights.{kind_weight, ref_weight, weight, weights}
use Rattle.urp_model.proofs.SentLaws.{IsMeasurable, AreMeasurable}
use Rattle.urp_model.proofs.SizeLaws.{light_sized}
use Rattle.urp_wire.specs.Written.{IsWritableRef, IsWritable, AreWritable}

-- the name of a type that weighs little
light_name : (k : Kind) → kind_weight k ≤ 16777216 → length (name_of k) < 2 ^ 32
light_name (kd.enum name) light = omega arith
light_name (kd.struct name) light = omega arith
light_name (kd.exception name) light = omega arith
light_name (kd.interface name) light = omega arith
light_name (kd.sequence k) light = omega arith
light_name _ light = omega arith

light_ref : (r : Ref) → ref_weight r ≤ 16777216 → IsWritableRef r
light_ref null light = tt
light_ref (own oid face) light = omega arith
light_ref (peer oid face) light = omega arith

mutual
  unfolding weight weights IsMeasurable AreMeasurable IsWritable AreWritable

  sized_writable : (v : Plain) → weight v ≤ 16777216 → IsMeasurable v → IsWritable v
  sized_writable (str s) light sized = sized
  sized_writable (kind k) light sized = light_name k light
  sized_writable (any k v) light sized = (light_name k (omega arith), sized_writable v (omega arith) sized)
  sized_writable (tuple name vs) light sized = all_writable vs light sized
  sized_writable (list k vs) light sized = (sized.0, all_writable vs (omega arith) sized.1)
  sized_writable (bytes b) light sized = sized
  sized_writable (ref r) light sized = light_ref r light
  sized_writable _ light sized = tt

  pub all_writable : (vs : Plains) → weights vs ≤ 16777216 → AreMeasurable vs → AreWritable vs
  all_writable none light sized = tt
  all_writable (more v vs) light sized = (sized_writable v (omega arith) sized.0, all_writable vs (omega arith) sized.1)

-- the count of a sequence is no more than it weighs, where the value fits a type
pub light_writable : (reg : List Entity) (v : Plain) (k : Kind) → IsSound reg → Fits reg v k → weight v ≤ 16777216 → IsWritable v
light_writable reg v k sound fits light = sized_writable v light (light_sized reg sound v k fits light)
