use Rattle.std.proofs.Common.{◌∙◌, ◌-◌, ◌+◌, ◌^◌, None, sym, refl, subst, option_map, length, arith}
use Rattle.plan_types.specs.Frames.{frame_of}
use Rattle.call_stacks.specs.Rows.{Rise, rows_of, stack_of}
use Rattle.call_stacks.specs.declared.tops.Top.TheVariants.{Other}
use Rattle.call_stacks.proofs.EntryLaws.{fronted}
use Rattle.call_stacks.proofs.StackLaws.{rise_added}
use Rattle.call_stacks.proofs.TopLaws.{wider, tops_room, turn_added, top_begun, no_top_yet, turning, turn_fits, turned_tops}
use Rattle.call_stacks.proofs.by_birth.ByBirth.add.Goals as goal

pub invariant_of-self-in_err-add : goal.invariant_of-self-in_err-add
invariant_of-self-in_err-add c =
    let rows = rows_of c.self.inside.entries.entries in
    let tops = c.self.inside in
    let rise = subst (λ rows. Rise 0 rows c.args.birth) (sym c.self.view_is) c.requires.rise in
    subst (λ rows. Rattle.call_stacks.specs.Tops.HasTops rows c.make_room.new.self tops.waiting) (sym c.in_err-add.ensures.kept)
    (tops_room rows c.args.birth tops.ready c.make_room.new.self tops.waiting c.self.invariant rise c.in_ok-make_room.ensures.room c.make_room.ensures.same)

pub turn-requires-clause-fits : goal.turn-requires-clause-fits
turn-requires-clause-fits c =
    let n = c.args.birth in
    let s = stack_of c.args.stack in
    let rows = rows_of c.self.inside.entries.entries in
    let new = rows_of c.add.new.stacks.entries in
    let tops = c.self.inside in
    let room = c.make_room.new.self in
    let rise = subst (λ rows. Rise 0 rows n) (sym c.self.view_is) c.requires.rise in
    let top = fronted c.args.stack.frames c.front.result c.front.ensures.variant.0 c.front.ensures.variant.1 c.front.ensures.lookup ∙ top_begun n s rows new rise c.in_ok-add.ensures.added in
    let turns = turning rows new n Other c.top_of-is.result None (option_map (λ f. frame_of f.now) c.front.result) (turn_added n s rows new rise c.in_ok-add.ensures.added) refl (no_top_yet n rows rise) c.top_of-is.ensures.method c.top_of-is.ensures.call top in
    let later = subst (λ new. Rise 0 new (n + 1)) (sym c.in_ok-add.ensures.added) (rise_added 0 n s rows rise) in
    turn_fits rows new n Other c.top_of-is.result turns room tops.waiting (tops_room rows n tops.ready room tops.waiting c.self.invariant rise c.in_ok-make_room.ensures.room c.make_room.ensures.same)
    (wider 0 (n + 1) (2 ^ 64 - 1) new (let small = c.requires.small in omega (arith, small)) later)

pub invariant_of-self-2 : goal.invariant_of-self-2
invariant_of-self-2 c =
    let n = c.args.birth in
    let s = stack_of c.args.stack in
    let rows = rows_of c.self.inside.entries.entries in
    let new = rows_of c.add.new.stacks.entries in
    let tops = c.self.inside in
    let room = c.make_room.new.self in
    let rise = subst (λ rows. Rise 0 rows n) (sym c.self.view_is) c.requires.rise in
    let top = fronted c.args.stack.frames c.front.result c.front.ensures.variant.0 c.front.ensures.variant.1 c.front.ensures.lookup ∙ top_begun n s rows new rise c.in_ok-add.ensures.added in
    let turns = turning rows new n Other c.top_of-is.result None (option_map (λ f. frame_of f.now) c.front.result) (turn_added n s rows new rise c.in_ok-add.ensures.added) refl (no_top_yet n rows rise) c.top_of-is.ensures.method c.top_of-is.ensures.call top in
    let later = subst (λ new. Rise 0 new (n + 1)) (sym c.in_ok-add.ensures.added) (rise_added 0 n s rows rise) in
    let within = c.in_ok-make_room.ensures.room in
    turned_tops rows new n Other c.top_of-is.result turns room tops.waiting (tops_room rows n tops.ready room tops.waiting c.self.invariant rise within c.make_room.ensures.same)
    (wider 0 (n + 1) (2 ^ 64 - 1) new (let small = c.requires.small in omega (arith, small)) later)
    c.turn.new.ready c.turn.new.waiting (wider 0 (n + 1) (length room) new (omega (arith, within)) later) within c.turn.ensures.ready c.turn.ensures.waiting
