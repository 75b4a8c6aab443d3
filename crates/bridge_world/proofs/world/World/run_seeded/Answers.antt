use Rattle.std.proofs.Common.{◌≡◌, ◌∙◌, sym, subst, ℕ, arith}
use Rattle.world_model.specs.Pairs.{place_of}
use Rattle.bridge_world.specs.Playing.{moves_of, progress_of}
use Rattle.bridge_world.proofs.SeededLaws.{all_counted, none_left, played_more, played_none, stopped_full, stopped_there}
use Rattle.bridge_world.proofs.world.World.run_seeded.Goals as goal

pub turns-init : goal.turns-init
turns-init c = played_none c.args.seed c.args.cut c.args.self.now (progress_of c.args.runs.now) c.generator_of-generator.result c.generator_of-generator.ensures c.requires.stands

-- an end reached a limit
pub returns-then-has_full-clause-full : goal.returns-then-has_full-clause-full
returns-then-has_full-clause-full c is =
    let full = sym c.has_full.ensures ∙ c.if-has_full.true in
    (stopped_full c.args.seed c.args.cut c.args.self.now c.turns.self (progress_of c.args.runs.now) (progress_of c.turns.runs) c.turns.generator c.turns.invariant full, full)

-- no move is left
pub returns-then-count-eq0-clause-plays : goal.returns-then-count-eq0-clause-plays
returns-then-count-eq0-clause-plays c =
    let left = none_left (moves_of c.turns.self (progress_of c.turns.runs)) c.moves-count.result c.moves-count.ensures c.if-count-eq0.true in
    stopped_there c.args.seed c.args.cut c.args.self.now c.turns.self (progress_of c.args.runs.now) (progress_of c.turns.runs) c.turns.generator c.turns.invariant left

-- one more is done
pub turns-preserved : goal.turns-preserved
turns-preserved c =
    let all = all_counted (moves_of c.turns.self (progress_of c.turns.runs)) c.moves-count.result c.moves-count.ensures (omega arith) in
    played_more c.args.seed c.args.cut c.args.self.now c.turns.self c.move_at.new.self (progress_of c.args.runs.now) (progress_of c.turns.runs) (progress_of c.move_at.new.runs) c.turns.generator
    c.place_in-nth.new.generator c.turns.invariant c.place_in-nth.result (sym c.has_full.ensures ∙ c.if-has_full.false) (subst (λ (n : ℕ). c.place_in-nth.result ≡ place_of c.turns.generator n) all c.place_in-nth.ensures.place)
    c.place_in-nth.ensures.drawn c.in_ok-move_at.ensures.moves c.in_ok-move_at.ensures.stands
