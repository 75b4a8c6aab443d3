-- Variables, frames and jobs as plain trees.
use Rattle.std.specs.Prelude.{List, map}
use Rattle.plan_model.specs.Frames as plain
use Rattle.uno_values.specs.Values.{plain_of}
use Rattle.plan_types.specs.declared.frame.Variable.{Variable}
use Rattle.plan_types.specs.declared.frame.Body.{Body}
use Rattle.plan_types.specs.declared.frame.Outgoing.{Outgoing}
use Rattle.plan_types.specs.declared.frame.Frame.{Frame}
use Rattle.plan_types.specs.declared.frame.Frame.TheVariants as frame
use Rattle.plan_types.specs.declared.frame.Job.{Job}

abbrev pub variable_of : Variable → plain.Variable
variable_of x = record { name = x.name; value = plain_of x.value }

abbrev pub variables_of : List Variable → List plain.Variable
variables_of = map variable_of

abbrev pub body_of : Body → plain.Body
body_of b =
    record {
      number = b.number;
      object = b.object;
      face = b.face;
      function = b.function;
      from_peer = b.from_peer;
      variables = variables_of b.variables.items;
      place = b.place;
    }

abbrev pub outgoing_of : Outgoing → plain.Outgoing
outgoing_of o = record { number = o.number; oid = o.oid; face = o.face; function = o.function }

abbrev pub frame_of : Frame → plain.Frame
frame_of (frame.Base root) = plain.base root
frame_of (frame.Body b) = plain.body (body_of b)
frame_of (frame.Out o) = plain.outgoing (outgoing_of o)

abbrev pub job_of : Job → plain.Job
job_of j =
    record {
      tid = j.tid;
      frame = frame_of j.frame;
      fields = variables_of j.fields.items;
      depth = j.depth;
      behaviour = j.behaviour;
      own = j.own;
    }
