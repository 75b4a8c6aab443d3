use Rattle.std.proofs.Common.{◌≡◌, ◌+◌, ◌<◌, ◌∙◌, ℕ, List, [], ◌∷◌, ◌++◌, length, map, take, get_or, sym, ap}
use Rattle.std.specs.Borrow.{Bor}
use Rattle.std.proofs.lemmas.List.{append_assoc, map-append, map_more}
use Rattle.uno_model.specs.Entities as plain
use Rattle.uno_entities.specs.declared.entity.Field.{Field}
use Rattle.uno_entities.specs.Entities.{field_of}
use Rattle.uno_types.specs.Members.{fields_at}
use Rattle.uno_types.proofs.all_members.push_all.Goals as goal

-- one more field stands behind those that were there
one_more : (all more : List (Bor Field)) (own : List Field) (before : List plain.Field) (i : ℕ) (x : Bor Field)
    → fields_at all ≡ before ++ map field_of (take i own) → i < length own → x.now ≡ get_or own i x.now → more ≡ all ++ x ∷ []
    → fields_at more ≡ before ++ map field_of (take (i + 1) own)
one_more all more own before i x so_far within at is =
    ap fields_at is ∙ map-append (λ f. field_of f.now) all (x ∷ []) ∙ ap (λ fs. fs ++ field_of x.now ∷ []) so_far
    ∙ append_assoc before (map field_of (take i own)) (field_of x.now ∷ [])
    ∙ ap (λ f. before ++ (map field_of (take i own) ++ field_of f ∷ [])) at
    ∙ ap (λ fs. before ++ fs) (sym (map_more field_of own i x.now within))

pub loop-field-preserved : goal.loop-field-preserved
loop-field-preserved c =
    one_more c.loop-field.all.items c.push.new.self.items c.args.own.now _ c.loop-field.field-index _ c.loop-field.invariant c.loop-field-test.true c.field-item.is c.in_ok-push.ensures.items
