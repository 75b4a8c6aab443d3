use Rattle.std.proofs.Common.{◌≡◌, ◌∙◌, sym, ap, subst, ◌<◌, ◌++◌, ◌∷◌, [], suc, List, length, slice_get, Some, cond, Contains, inr, append-nil, arith}
use Rattle.std.proofs.lemmas.List.{map-append, length-map}
use Rattle.idl_names.specs.Paths.{AreFound, Inside, inside_of, is_same, number_at, paths_of, within}
use Rattle.idl_names.proofs.PathLookups.{one_more, opened_last}
use Rattle.idl_names.proofs.PathLaws.{path_one_more}
use Rattle.idl_names.proofs.SlotLemmas.{one_marked}
use Rattle.idl_names.proofs.paths.Paths.open.Goals as goal

module _ (c : goal.In-Ok-note) where
  abbrev before : List Inside
  before = inside_of c.self.inside.inside.items

  abbrev opened : Inside
  opened = (c.args.outer, c.args.name.now)

  behind : inside_of c.push.new.self.items ≡ before ++ opened ∷ []
  behind = ap inside_of c.in_ok-push.ensures.items ∙ map-append _ c.self.inside.inside.items ((c.args.outer, c.args.name) ∷ [])

  number : c.in-Ok.number ≡ suc (length before)
  number =
      let many : length before ≡ length c.self.inside.inside.items = length-map c.self.inside.inside.items _ in
      let given = c.in-Ok.ensures in
      let long = c.len.ensures in
      omega (arith, many, given, long)

  low : c.args.outer < length (paths_of before)
  low = subst (λ ps. c.args.outer < length ps) (sym c.self.view_is) c.requires

  absent : ¬ Contains (paths_of before) (within (paths_of before) opened)
  absent = subst (λ ps. ¬ Contains ps (within ps opened)) (sym c.self.view_is)
      (subst (λ p. ¬ Contains c.args.self.now p) (append-nil (within c.args.self.now opened)) (c.in_default.ensures.none []))

pub invariant_of-self-in-Ok-note : goal.invariant_of-self-in-Ok-note
invariant_of-self-in-Ok-note c =
    subst (λ ms. AreFound ms c.note.new.numbers c.note.new.slots.items) (sym (behind c))
    record {
      numbered =
          one_more (before c) c.self.inside.numbers c.self.invariant.numbered (opened c) (low c) (absent c) c.note.new.numbers
          (λ o. c.in-Ok-note.ensures.noted o ∙ ap (λ k. cond (is_same (opened c) o) (Some k) (number_at c.self.inside.numbers o)) (number c));
      marked = one_marked (before c) (opened c) c.self.inside.slots.items c.note.new.slots.items c.self.invariant.marked c.in-Ok-note.ensures.marked;
    }

pub returns-in-Ok-note-clause-number : goal.returns-in-Ok-note-clause-number
returns-in-Ok-note-clause-number c =
    ap (λ ms. slice_get (paths_of ms) c.in-Ok.number) (behind c)
    ∙ ap (slice_get (paths_of (before c ++ opened c ∷ []))) (number c)
    ∙ opened_last (before c) (opened c)
    ∙ ap (λ ps. Some (within ps (opened c))) c.self.view_is

pub returns-in-Ok-note-clause-opened : goal.returns-in-Ok-note-clause-opened
returns-in-Ok-note-clause-opened c =
    inr (ap paths_of (behind c) ∙ path_one_more (before c) (opened c) ∙ ap (λ ps. ps ++ within ps (opened c) ∷ []) c.self.view_is)
