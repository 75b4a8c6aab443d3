use Rattle.std.proofs.Common.{◌-◌, ◌^◌, Some, sym, refl, subst, option_map, length, IsSome}
use Rattle.plan_types.specs.Frames.{frame_of}
use Rattle.call_stacks.specs.Rows.{rows_of, stack_at, one_more}
use Rattle.call_stacks.proofs.TopLaws.{birth_within, turn_changed, rises_changed, top_pushed, turning, turn_counted, turn_fits, turned_tops}
use Rattle.call_stacks.proofs.by_birth.ByBirth.push.Goals as goal

pub turn-requires-clause-room : goal.turn-requires-clause-room
turn-requires-clause-room c =
    let rows = rows_of c.self.inside.entries.entries in
    birth_within c.args.birth 0 (length c.self.inside.ready) rows c.self.invariant.room (subst (λ rows. IsSome (stack_at c.args.birth rows)) (sym c.self.view_is) c.requires)

pub turn-requires-clause-counted : goal.turn-requires-clause-counted
turn-requires-clause-counted c =
    let n = c.args.birth in
    let rows = rows_of c.self.inside.entries.entries in
    let new = rows_of c.push.new.stacks.entries in
    let tops = c.self.inside in
    let was = c.top_of-was.result in
    let is = c.top_of-is.result in
    let turns = turning rows new n was is (option_map (λ f. frame_of f.now) c.top.result) (Some (frame_of c.args.frame)) (turn_changed n (one_more (frame_of c.args.frame)) rows new c.in_ok-push.ensures.pushed)
    c.top_of-was.ensures.call c.top.ensures c.top_of-is.ensures.method c.top_of-is.ensures.call
    (top_pushed n (frame_of c.args.frame) rows new (subst (λ rows. IsSome (stack_at c.args.birth rows)) (sym c.self.view_is) c.requires) c.in_ok-push.ensures.pushed) in
    turn_counted rows new n was is turns tops.ready tops.waiting c.self.invariant

pub turn-requires-clause-fits : goal.turn-requires-clause-fits
turn-requires-clause-fits c =
    let n = c.args.birth in
    let rows = rows_of c.self.inside.entries.entries in
    let new = rows_of c.push.new.stacks.entries in
    let tops = c.self.inside in
    let was = c.top_of-was.result in
    let is = c.top_of-is.result in
    let turns = turning rows new n was is (option_map (λ f. frame_of f.now) c.top.result) (Some (frame_of c.args.frame)) (turn_changed n (one_more (frame_of c.args.frame)) rows new c.in_ok-push.ensures.pushed)
    c.top_of-was.ensures.call c.top.ensures c.top_of-is.ensures.method c.top_of-is.ensures.call
    (top_pushed n (frame_of c.args.frame) rows new (subst (λ rows. IsSome (stack_at c.args.birth rows)) (sym c.self.view_is) c.requires) c.in_ok-push.ensures.pushed) in
    turn_fits rows new n was is turns tops.ready tops.waiting c.self.invariant (rises_changed n (one_more (frame_of c.args.frame)) (λ _. refl) rows new c.in_ok-push.ensures.pushed (2 ^ 64 - 1) c.self.invariant.rise)

pub invariant_of-self-2 : goal.invariant_of-self-2
invariant_of-self-2 c =
    let n = c.args.birth in
    let rows = rows_of c.self.inside.entries.entries in
    let new = rows_of c.push.new.stacks.entries in
    let tops = c.self.inside in
    let was = c.top_of-was.result in
    let is = c.top_of-is.result in
    let turns = turning rows new n was is (option_map (λ f. frame_of f.now) c.top.result) (Some (frame_of c.args.frame)) (turn_changed n (one_more (frame_of c.args.frame)) rows new c.in_ok-push.ensures.pushed)
    c.top_of-was.ensures.call c.top.ensures c.top_of-is.ensures.method c.top_of-is.ensures.call
    (top_pushed n (frame_of c.args.frame) rows new (subst (λ rows. IsSome (stack_at c.args.birth rows)) (sym c.self.view_is) c.requires) c.in_ok-push.ensures.pushed) in
    let within = birth_within n 0 (length tops.ready) rows c.self.invariant.room (subst (λ rows. IsSome (stack_at c.args.birth rows)) (sym c.self.view_is) c.requires) in
    let rises = rises_changed n (one_more (frame_of c.args.frame)) (λ _. refl) rows new c.in_ok-push.ensures.pushed in
    turned_tops rows new n was is turns tops.ready tops.waiting c.self.invariant (rises (2 ^ 64 - 1) c.self.invariant.rise) c.turn.new.ready c.turn.new.waiting
    (rises (length tops.ready) c.self.invariant.room) within c.turn.ensures.ready c.turn.ensures.waiting
