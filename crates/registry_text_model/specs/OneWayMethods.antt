-- The fourth rule: a one-way method gives nothing back: its result is void, all its parameters go in, and it raises nothing.
use Rattle.std.specs.Prelude.{Bool, true, false, not, ◌&&◌, ◌||◌}
use Rattle.std.specs.List.{list_all}
use Rattle.uno_model.specs.Entities.{Entity, Body, Member, attribute, method, Method, interface}
use Rattle.uno_model.specs.Kinds.{Kind}
use Rattle.uno_model.specs.Kinds as kd
use Rattle.uno_model.specs.Sound.{is_some_list}
use Rattle.uno_model.specs.declared.way.Way.{Way}
use Rattle.uno_model.specs.declared.way.Way.TheVariants as way

abbrev pub is_void : Kind → Bool
is_void kd.void = true
is_void _ = false

abbrev pub goes_in_alone : Way → Bool
goes_in_alone way.Into = true
goes_in_alone way.Out = false
goes_in_alone way.Both = false

abbrev pub gives_nothing : Method → Bool
gives_nothing m = is_void m.result_kind && (list_all (λ p. goes_in_alone p.way) m.params && not (is_some_list m.raises))

abbrev pub member_goes_one_way : Member → Bool
member_goes_one_way (attribute a) = true
member_goes_one_way (method m) = not m.oneway || gives_nothing m

abbrev pub body_goes_one_way : Body → Bool
body_goes_one_way (interface bases members) = list_all member_goes_one_way members
body_goes_one_way _ = true

unfoldable pub one_way_gives_nothing : Entity → Bool
one_way_gives_nothing e = body_goes_one_way e.body
