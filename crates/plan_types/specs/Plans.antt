-- Plans as plain trees.
use Rattle.std.specs.Prelude.{List, map}
use Rattle.plan_model.specs.Plans as plain
use Rattle.plan_model.specs.Statements as statement
use Rattle.uno_entities.specs.Entities.{field_of}
use Rattle.plan_types.specs.Statements.{statement_of, root_statement_of}
use Rattle.plan_types.specs.declared.plan.Method.{Method}
use Rattle.plan_types.specs.declared.plan.Behaviour.{Behaviour}
use Rattle.plan_types.specs.declared.plan.Export.{Export}
use Rattle.plan_types.specs.declared.plan.Offer.{Offer}
use Rattle.plan_types.specs.declared.plan.Plan.{Plan}
use Rattle.plan_types.specs.declared.statement.RootStatement.{RootStatement}
use Rattle.std.specs.declared.vec.Vec.{Vec}

abbrev pub method_of : Method → plain.Method
method_of m = record { face = m.face; function = m.function; body = map statement_of m.body.items }

abbrev pub behaviour_of : Behaviour → plain.Behaviour
behaviour_of b = record { name = b.name; faces = b.faces.items; fields = map field_of b.fields.items; methods = map method_of b.methods.items }

abbrev pub export_of : Export → plain.Export
export_of e = record { name = e.name; behaviour = e.behaviour }

abbrev pub offer_of : Offer → plain.Offer
offer_of o = record { name = o.name; behaviour = o.behaviour }

abbrev pub plan_of : Plan → plain.Plan
plan_of p =
    record {
      behaviours = map behaviour_of p.behaviours.items;
      exports = map export_of p.exports.items;
      services = map offer_of p.services.items;
      singletons = map offer_of p.singletons.items;
      threads = map (λ t. map root_statement_of t.items) p.threads.items;
    }
