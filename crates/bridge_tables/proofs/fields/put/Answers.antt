use Rattle.std.proofs.Common.{◌≡◌, ◌≤◌, arith, length, map, sym, ap, ◌∙◌, []}
use Rattle.std.specs.Str.{bytes_eq}
use Rattle.uno_entities.specs.Entities.{field_of}
use Rattle.uno_model.specs.Entities.{Field}
use Rattle.uno_model.specs.Kinds as kd
use Rattle.uno_values.specs.Values.{plain_of}
use Rattle.std.proofs.lemmas.List.Quantifiers.{position-Some}
use Rattle.bridge_setting.proofs.PositionLemmas.{position_map}
use Rattle.bridge_tables.proofs.FieldLemmas.{nowhere, put_past, value_past, put_here, value_here}
use Rattle.bridge_tables.proofs.RootLemmas.{map_length, put_at, get_map}
use Rattle.bridge_tables.proofs.fields.put.Goals as goal

no_field : Field
no_field = record { name = []; kind = kd.void }

pub returns-in_default-clause-put : goal.returns-in_default-clause-put
returns-in_default-clause-put c =
    let fs = map field_of c.args.fields.now in
    let vs = map plain_of c.args.values.now.items in
    let few = c.requires in
    let long : length fs ≡ length c.args.fields.now = map_length field_of c.args.fields.now in
    let longer : length vs ≡ length c.args.values.now.items = map_length plain_of c.args.values.now.items in
    let within : length vs ≤ length fs = omega (arith, few, long, longer) in
    sym
    (put_past c.args.name.now no_field (plain_of c.args.value) fs vs (length fs) within within
    (nowhere (λ f. bytes_eq c.args.name.now f.name) fs no_field (position_map (λ f. bytes_eq c.args.name.now f.name) field_of c.args.fields.now ∙ sym c.place_of.ensures ∙ c.in_default.is)))

pub returns-in_default-clause-was : goal.returns-in_default-clause-was
returns-in_default-clause-was c =
    let fs = map field_of c.args.fields.now in
    let vs = map plain_of c.args.values.now.items in
    let few = c.requires in
    let long : length fs ≡ length c.args.fields.now = map_length field_of c.args.fields.now in
    let longer : length vs ≡ length c.args.values.now.items = map_length plain_of c.args.values.now.items in
    let within : length vs ≤ length fs = omega (arith, few, long, longer) in
    c.no_value.ensures
    ∙ sym
    (value_past c.args.name.now no_field fs vs (length fs) within
    (nowhere (λ f. bytes_eq c.args.name.now f.name) fs no_field (position_map (λ f. bytes_eq c.args.name.now f.name) field_of c.args.fields.now ∙ sym c.place_of.ensures ∙ c.in_default.is)))

pub returns-then-place-len-clause-put : goal.returns-then-place-len-clause-put
returns-then-place-len-clause-put c =
    let fs = map field_of c.args.fields.now in
    let vs = map plain_of c.args.values.now.items in
    let few = c.requires in
    let long : length fs ≡ length c.args.fields.now = map_length field_of c.args.fields.now in
    let longer : length vs ≡ length c.args.values.now.items = map_length plain_of c.args.values.now.items in
    let at = position-Some (λ f. bytes_eq c.args.name.now f.name) fs c.in-Some.place no_field (position_map (λ f. bytes_eq c.args.name.now f.name) field_of c.args.fields.now ∙ sym c.place_of.ensures ∙ c.in-Some.is) in
    let count = c.len.ensures in
    let past = c.if-place-len.true in
    sym (put_past c.args.name.now no_field (plain_of c.args.value) fs vs c.in-Some.place (omega (arith, longer, count, past)) (omega (arith, few, long, longer)) at.2)

pub returns-then-place-len-clause-was : goal.returns-then-place-len-clause-was
returns-then-place-len-clause-was c =
    let fs = map field_of c.args.fields.now in
    let vs = map plain_of c.args.values.now.items in
    let longer : length vs ≡ length c.args.values.now.items = map_length plain_of c.args.values.now.items in
    let at = position-Some (λ f. bytes_eq c.args.name.now f.name) fs c.in-Some.place no_field (position_map (λ f. bytes_eq c.args.name.now f.name) field_of c.args.fields.now ∙ sym c.place_of.ensures ∙ c.in-Some.is) in
    let count = c.len.ensures in
    let past = c.if-place-len.true in
    c.no_value-then-place-len.ensures ∙ sym (value_past c.args.name.now no_field fs vs c.in-Some.place (omega (arith, longer, count, past)) at.2)

pub returns-clause-put : goal.returns-clause-put
returns-clause-put c =
    let fs = map field_of c.args.fields.now in
    let vs = map plain_of c.args.values.now.items in
    let few = c.requires in
    let long : length fs ≡ length c.args.fields.now = map_length field_of c.args.fields.now in
    let longer : length vs ≡ length c.args.values.now.items = map_length plain_of c.args.values.now.items in
    let at = position-Some (λ f. bytes_eq c.args.name.now f.name) fs c.in-Some.place no_field (position_map (λ f. bytes_eq c.args.name.now f.name) field_of c.args.fields.now ∙ sym c.place_of.ensures ∙ c.in-Some.is) in
    let count = c.len.ensures in
    let within = c.if-place-len.false in
    put_at plain_of c.args.values.now.items c.in-Some.place c.replace.new.dest c.args.value c.replace.ensures.after
    ∙ sym (put_here c.args.name.now no_field (plain_of c.args.value) fs vs c.in-Some.place (omega (arith, longer, count, within)) (omega (arith, few, long, longer)) at.2 at.1)

pub returns-clause-was : goal.returns-clause-was
returns-clause-was c =
    let fs = map field_of c.args.fields.now in
    let vs = map plain_of c.args.values.now.items in
    let few = c.requires in
    let long : length fs ≡ length c.args.fields.now = map_length field_of c.args.fields.now in
    let longer : length vs ≡ length c.args.values.now.items = map_length plain_of c.args.values.now.items in
    let at = position-Some (λ f. bytes_eq c.args.name.now f.name) fs c.in-Some.place no_field (position_map (λ f. bytes_eq c.args.name.now f.name) field_of c.args.fields.now ∙ sym c.place_of.ensures ∙ c.in-Some.is) in
    let count = c.len.ensures in
    let within = c.if-place-len.false in
    ap plain_of (c.replace.ensures.value ∙ c.index_mut.ensures.value)
    ∙ get_map plain_of c.args.values.now.items c.in-Some.place c.index_mut.result.now
    ∙ sym (value_here c.args.name.now no_field fs vs c.in-Some.place (plain_of c.index_mut.result.now) (omega (arith, longer, count, within)) (omega (arith, few, long, longer)) at.2 at.1)
