use Rattle.std.proofs.Common.{◌≡◌, ◌∙◌, length, min, ap}
use Rattle.bridge_model.specs.Sides.{Outgoing}
use Rattle.bridge_streams.specs.Spoken.{spoken_by}
use Rattle.bridge_streams.proofs.DrainingLemmas.{outgoing_of, taken_bytes, taken_drained}
use Rattle.bridge_streams.proofs.outgoing.Outgoing.next_bytes.Goals as goal

pub returns-clause-bytes : goal.returns-clause-bytes
returns-clause-bytes c =
    taken_bytes c.args.registry.now c.args.most c.min.result c.args.unsaid.now c.args.self.now (outgoing_of c.self.inside.ready (spoken_by c.self.inside.speaker)) c.in_ok-bytes.bytes.items
    (c.self.view_is ∙ c.in_ok-spell_for.ensures.outgoing) (c.min.ensures ∙ ap (min c.args.most) c.len.ensures) c.in_ok-bytes.ensures.taken

pub returns-clause-drained : goal.returns-clause-drained
returns-clause-drained c =
    let spoken = spoken_by c.self.inside.speaker in
    taken_drained c.args.registry.now c.args.most c.min.result c.args.unsaid.now c.args.self.now (outgoing_of c.self.inside.ready spoken) c.in_ok-bytes.bytes.items
    (c.self.view_is ∙ c.in_ok-spell_for.ensures.outgoing) (c.min.ensures ∙ ap (min c.args.most) c.len.ensures) c.in_ok-bytes.ensures.taken
    (outgoing_of c.take.new.self spoken) c.spell_for.new.unsaid (ap (λ ready. outgoing_of ready spoken) c.in_ok-bytes.ensures.left) c.in_ok-spell_for.ensures.unsaid
