-- A field of an object that gets another value.
use Rattle.std.specs.Prelude.{ℕ, List}
use Rattle.plan_model.specs.Evaluation.{value_under}
use Rattle.plan_model.specs.Frames.{Variable}
use Rattle.plan_model.specs.Holdings.{put}
use Rattle.uno_model.specs.Values.{Plain, refs}
use Rattle.table_model.specs.declared.holder.Holder.TheVariants as holder
use Rattle.bridge_model.specs.Objects.{object_numbered, variables_of, field_values, with_fields}
use Rattle.bridge_model.specs.References.{gains_all, lets_go_all}
use Rattle.bridge_model.specs.Settings.{Setting}
use Rattle.bridge_model.specs.Sides.{Tables}

abbrev pub with_values : ℕ → List Plain → Tables → Tables
with_values n xs t = record t { objects = with_fields n xs t.objects }

-- the fields as variables; the new value is held before the old one is let go
abbrev pub sets_value : Setting → ℕ → List ℕ → Plain → List Variable → Tables → Tables
sets_value g n name x fields t =
    lets_go_all
    g
    (holder.Object n)
    (refs (value_under name fields))
    (with_values n (field_values (put name x fields)) (gains_all (holder.Object n) (refs x) t))

abbrev pub sets_field_of : Setting → ℕ → List ℕ → Plain → Tables → Tables
sets_field_of g n name x t = sets_value g n name x (variables_of g (object_numbered n t.objects)) t
