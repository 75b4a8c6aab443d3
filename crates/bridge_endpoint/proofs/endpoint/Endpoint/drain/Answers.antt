use Rattle.std.proofs.Common.{◌≡◌, sym, ap, subst, ◌∙◌, true, false, arith}
use Rattle.bridge_model.specs.Answers.{bytes_wait, drained_next}
use Rattle.bridge_model.specs.Entries.{drained}
use Rattle.bridge_model.specs.Steps.{is_no_memory, is_some_bytes, may}
use Rattle.bridge_laws.specs.Room.{brought}
use Rattle.bridge_setting.specs.Settings.{setting_of}
use Rattle.bridge_endpoint.specs.Journals.{setting_at, side_at}
use Rattle.bridge_endpoint.proofs.DrainLemmas.{draining_some, may_drain, next_bytes, none_waiting, none_wanted, some_drained}
use Rattle.bridge_endpoint.proofs.EntryLemmas.{IsLost, entry_seen_with, from_now, lost_few, lost_kept, lost_room, to_now}
use Rattle.bridge_endpoint.proofs.KeptLaws.{brought_kept, kept_sayable}
use Rattle.bridge_endpoint.proofs.endpoint.Endpoint.drain.Goals as goal

pub returns-then-max-eq0-clause-bytes : goal.returns-then-max-eq0-clause-bytes
returns-then-max-eq0-clause-bytes c =
    let g = setting_at c.args.self.now in
    let s = side_at c.args.self.now in
    c.new.ensures.items ∙ sym (ap (λ n. drained_next g n s) c.if-max-eq0.true ∙ none_wanted g s)

pub returns-then-not-bytes_wait-clause-bytes : goal.returns-then-not-bytes_wait-clause-bytes
returns-then-not-bytes_wait-clause-bytes c =
    c.new-then-not-bytes_wait.ensures.items
    ∙ sym
    (none_waiting (setting_at c.args.self.now) (side_at c.args.self.now) c.args.max
    (to_now (λ g s. bytes_wait g s ≡ false) c.self.invariant c.self.view_is (sym c.bytes_wait.ensures ∙ c.if-not-bytes_wait.true)))

pub drain_waiting-requires-clause-sayable : goal.drain_waiting-requires-clause-sayable
drain_waiting-requires-clause-sayable c = kept_sayable (setting_of c.self.inside.setting) c.self.inside.setting.names.roots c.self.inside.state c.self.inside.journal c.self.invariant

pub invariant_of-self : goal.invariant_of-self
unfolding brought
invariant_of-self c =
    let g = setting_of c.self.inside.setting in
    let s = c.self.inside.state.side in
    let more : is_no_memory s.cause ≡ false = from_now (λ h z. is_no_memory z.cause ≡ false) c.self.invariant c.self.view_is (sym c.lacks_memory.ensures ∙ c.if-lacks_memory.false) in
    let waits : bytes_wait g s ≡ true = sym c.bytes_wait.ensures ∙ c.if-not-bytes_wait.false in
    let same = c.in-Ok.ensures.bytes ∙ next_bytes g s c.args.max more in
    let fine : may g s (drained c.in-Ok.bytes.items) ≡ true = subst (λ b. may g s (drained b) ≡ true) (sym same) (may_drain g s c.args.max more c.if-max-eq0.false waits) in
    brought_kept g c.self.inside.setting.names.roots c.self.inside.state c.self.inside.journal (drained c.in-Ok.bytes.items) c.drain_waiting.new.state c.drain_waiting.new.journal c.self.invariant fine tt
    c.in-Ok.ensures.done (ap (λ l. l.entries) c.in-Ok.ensures.entered) (let room = ap (λ l. l.room) c.in-Ok.ensures.entered in omega (arith, room)) (c.in-Ok.ensures.within c.self.invariant.within)

pub run_out-requires-clause-few : goal.run_out-requires-clause-few
run_out-requires-clause-few c =
    let lost : IsLost c.self.inside.state c.drain_waiting.new.state c.self.inside.journal c.drain_waiting.new.journal =
    record { rest = c.in-Err.ensures.lost; names = c.in-Err.ensures.names; nothing = c.in-Err.ensures.nothing; least = c.in-Err.ensures.least; within = c.in-Err.ensures.within c.self.invariant.within } in
    lost_few c.self.invariant lost

pub run_out-requires-clause-room : goal.run_out-requires-clause-room
run_out-requires-clause-room c =
    let lost : IsLost c.self.inside.state c.drain_waiting.new.state c.self.inside.journal c.drain_waiting.new.journal =
    record { rest = c.in-Err.ensures.lost; names = c.in-Err.ensures.names; nothing = c.in-Err.ensures.nothing; least = c.in-Err.ensures.least; within = c.in-Err.ensures.within c.self.invariant.within } in
    lost_room c.self.invariant lost (from_now (λ h z. is_no_memory z.cause ≡ false) c.self.invariant c.self.view_is (sym c.lacks_memory.ensures ∙ c.if-lacks_memory.false))

pub invariant_of-self-in-Err : goal.invariant_of-self-in-Err
invariant_of-self-in-Err c =
    let lost : IsLost c.self.inside.state c.drain_waiting.new.state c.self.inside.journal c.drain_waiting.new.journal =
    record { rest = c.in-Err.ensures.lost; names = c.in-Err.ensures.names; nothing = c.in-Err.ensures.nothing; least = c.in-Err.ensures.least; within = c.in-Err.ensures.within c.self.invariant.within } in
    lost_kept c.self.invariant lost (from_now (λ h z. is_no_memory z.cause ≡ false) c.self.invariant c.self.view_is (sym c.lacks_memory.ensures ∙ c.if-lacks_memory.false)) c.run_out.new.state
    c.run_out.new.journal c.run_out.ensures.ended c.run_out.ensures.entered

pub returns-in-Ok-clause-bytes : goal.returns-in-Ok-clause-bytes
returns-in-Ok-clause-bytes c = to_now (λ g s. c.in-Ok.bytes.items ≡ drained_next g c.args.max s) c.self.invariant c.self.view_is c.in-Ok.ensures.bytes

pub returns-in-Ok-clause-entered : goal.returns-in-Ok-clause-entered
returns-in-Ok-clause-entered c =
    let g = setting_of c.self.inside.setting in
    let s = c.self.inside.state.side in
    let more : is_no_memory s.cause ≡ false = from_now (λ h z. is_no_memory z.cause ≡ false) c.self.invariant c.self.view_is (sym c.lacks_memory.ensures ∙ c.if-lacks_memory.false) in
    let waits : bytes_wait g s ≡ true = sym c.bytes_wait.ensures ∙ c.if-not-bytes_wait.false in
    let same = c.in-Ok.ensures.bytes ∙ next_bytes g s c.args.max more in
    let some : is_some_bytes c.in-Ok.bytes.items ≡ true = ap is_some_bytes same ∙ some_drained g s c.args.max more c.if-max-eq0.false waits in
    entry_seen_with c.self.inside.journal (drained c.in-Ok.bytes.items) c.self.inside.journal.room c.drain_waiting.new.journal c.self.view_is c.in-Ok.ensures.entered
    ∙ sym (draining_some c.in-Ok.bytes.items c.args.self.now some)
