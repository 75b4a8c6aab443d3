use Rattle.std.proofs.Common.{◌≡◌, Some, sym, ◌∙◌, true, false, arith}
use Rattle.bridge_model.specs.Answers.{pick}
use Rattle.bridge_model.specs.Entries.{applied, full}
use Rattle.bridge_model.specs.Sides.{stands}
use Rattle.bridge_model.specs.Steps.{has_entries}
use Rattle.bridge_model.specs.declared.cause.Cause.TheVariants as cause
use Rattle.bridge_laws.specs.Room.{brought}
use Rattle.bridge_setting.specs.Settings.{setting_of}
use Rattle.plan_types.specs.Frames.{job_of}
use Rattle.bridge_endpoint.proofs.ApplyLemmas.{picked_may, picked_stands}
use Rattle.bridge_endpoint.proofs.BegunLemmas.{out_of_standing}
use Rattle.bridge_endpoint.proofs.EndLemmas.{end_kept, end_room, filled, is_limit, may_fill_entries, not_filled, stands_more}
use Rattle.bridge_endpoint.proofs.EntryLemmas.{from_now, lost_by, lost_kept, lost_room, lost_seen, to_now}
use Rattle.bridge_endpoint.proofs.KeptLaws.{kept_quiet}
use Rattle.bridge_endpoint.proofs.MakingLemmas.{made_kept}
use Rattle.bridge_endpoint.proofs.endpoint.Endpoint.apply_current.Goals as goal

pub end-requires-clause-room : goal.end-requires-clause-room
end-requires-clause-room c =
    let g = setting_of c.self.inside.setting in
    let s = c.self.inside.state.side in
    let j = job_of c.args.job in
    let current : pick g c.args.job.tid s ≡ Some j = from_now (λ h z. pick h c.args.job.tid z ≡ Some (job_of c.args.job)) c.self.invariant c.self.view_is c.requires.current in
    let up : stands s ≡ true = picked_stands g c.args.job.tid s j current (kept_quiet g c.self.inside.setting.names.roots c.self.inside.state c.self.inside.journal c.self.invariant) in
    end_room c.self.invariant full cause.Full (is_limit g) (may_fill_entries g s up (filled s c.entries.result c.entries.ensures c.if-entries-ge-MOST_ENTRIES.true))

pub invariant_of-self : goal.invariant_of-self
invariant_of-self c =
    let g = setting_of c.self.inside.setting in
    let s = c.self.inside.state.side in
    let j = job_of c.args.job in
    let current : pick g c.args.job.tid s ≡ Some j = from_now (λ h z. pick h c.args.job.tid z ≡ Some (job_of c.args.job)) c.self.invariant c.self.view_is c.requires.current in
    let up : stands s ≡ true = picked_stands g c.args.job.tid s j current (kept_quiet g c.self.inside.setting.names.roots c.self.inside.state c.self.inside.journal c.self.invariant) in
    end_kept c.self.invariant full cause.Full (is_limit g) (may_fill_entries g s up (filled s c.entries.result c.entries.ensures c.if-entries-ge-MOST_ENTRIES.true)) c.end.new.state c.end.new.journal
    c.end.ensures.ended c.end.ensures.entered

pub returns-then-entries-ge-MOST_ENTRIES-clause-answer : goal.returns-then-entries-ge-MOST_ENTRIES-clause-answer
returns-then-entries-ge-MOST_ENTRIES-clause-answer c = (
  c.requires.current,
  to_now (λ h z. has_entries z ≡ true) c.self.invariant c.self.view_is (filled c.self.inside.state.side c.entries.result c.entries.ensures c.if-entries-ge-MOST_ENTRIES.true),
)

pub apply_standing-requires-clause-stands : goal.apply_standing-requires-clause-stands
apply_standing-requires-clause-stands c =
    let g = setting_of c.self.inside.setting in
    let s = c.self.inside.state.side in
    let j = job_of c.args.job in
    let current : pick g c.args.job.tid s ≡ Some j = from_now (λ h z. pick h c.args.job.tid z ≡ Some (job_of c.args.job)) c.self.invariant c.self.view_is c.requires.current in
    let up : stands s ≡ true = picked_stands g c.args.job.tid s j current (kept_quiet g c.self.inside.setting.names.roots c.self.inside.state c.self.inside.journal c.self.invariant) in
    up

pub apply_standing-requires-clause-current : goal.apply_standing-requires-clause-current
apply_standing-requires-clause-current c = from_now (λ h z. pick h c.args.job.tid z ≡ Some (job_of c.args.job)) c.self.invariant c.self.view_is c.requires.current

pub invariant_of-self-in-Ok : goal.invariant_of-self-in-Ok
invariant_of-self-in-Ok c =
    let g = setting_of c.self.inside.setting in
    let s = c.self.inside.state.side in
    let j = job_of c.args.job in
    let current : pick g c.args.job.tid s ≡ Some j = from_now (λ h z. pick h c.args.job.tid z ≡ Some (job_of c.args.job)) c.self.invariant c.self.view_is c.requires.current in
    let up : stands s ≡ true = picked_stands g c.args.job.tid s j current (kept_quiet g c.self.inside.setting.names.roots c.self.inside.state c.self.inside.journal c.self.invariant) in
    made_kept c.self.invariant (applied c.args.job.tid) (picked_may g c.args.job.tid s j current (not_filled s c.entries.result c.entries.ensures c.if-entries-ge-MOST_ENTRIES.false)) tt
    c.apply_standing.new.state c.apply_standing.new.journal c.in-Ok.ensures.done (brought g s (applied c.args.job.tid)) (omega arith) c.in-Ok.ensures.entered (c.in-Ok.ensures.within c.self.invariant.within)

pub run_out-requires-clause-room : goal.run_out-requires-clause-room
run_out-requires-clause-room c =
    let g = setting_of c.self.inside.setting in
    let s = c.self.inside.state.side in
    let j = job_of c.args.job in
    let current : pick g c.args.job.tid s ≡ Some j = from_now (λ h z. pick h c.args.job.tid z ≡ Some (job_of c.args.job)) c.self.invariant c.self.view_is c.requires.current in
    let up : stands s ≡ true = picked_stands g c.args.job.tid s j current (kept_quiet g c.self.inside.setting.names.roots c.self.inside.state c.self.inside.journal c.self.invariant) in
    let lost = lost_by c.self.invariant up c.apply_standing.new.state c.apply_standing.new.journal c.in-Err.ensures.lost c.in-Err.ensures.names c.in-Err.ensures.nothing c.in-Err.ensures.least c.in-Err.ensures.within in
    lost_room c.self.invariant lost (stands_more s.cause up)

pub invariant_of-self-in-Err : goal.invariant_of-self-in-Err
invariant_of-self-in-Err c =
    let g = setting_of c.self.inside.setting in
    let s = c.self.inside.state.side in
    let j = job_of c.args.job in
    let current : pick g c.args.job.tid s ≡ Some j = from_now (λ h z. pick h c.args.job.tid z ≡ Some (job_of c.args.job)) c.self.invariant c.self.view_is c.requires.current in
    let up : stands s ≡ true = picked_stands g c.args.job.tid s j current (kept_quiet g c.self.inside.setting.names.roots c.self.inside.state c.self.inside.journal c.self.invariant) in
    let lost = lost_by c.self.invariant up c.apply_standing.new.state c.apply_standing.new.journal c.in-Err.ensures.lost c.in-Err.ensures.names c.in-Err.ensures.nothing c.in-Err.ensures.least c.in-Err.ensures.within in
    lost_kept c.self.invariant lost (stands_more s.cause up) c.run_out.new.state c.run_out.new.journal c.run_out.ensures.ended c.run_out.ensures.entered

pub returns-in-Ok-clause-answer : goal.returns-in-Ok-clause-answer
returns-in-Ok-clause-answer c = (
  c.requires.current,
  to_now (λ h z. has_entries z ≡ false) c.self.invariant c.self.view_is (not_filled c.self.inside.state.side c.entries.result c.entries.ensures c.if-entries-ge-MOST_ENTRIES.false),
)

pub returns-in-Err-clause-entered : goal.returns-in-Err-clause-entered
returns-in-Err-clause-entered c =
    let g = setting_of c.self.inside.setting in
    let s = c.self.inside.state.side in
    let j = job_of c.args.job in
    let current : pick g c.args.job.tid s ≡ Some j = from_now (λ h z. pick h c.args.job.tid z ≡ Some (job_of c.args.job)) c.self.invariant c.self.view_is c.requires.current in
    let up : stands s ≡ true = picked_stands g c.args.job.tid s j current (kept_quiet g c.self.inside.setting.names.roots c.self.inside.state c.self.inside.journal c.self.invariant) in
    let lost = lost_by c.self.invariant up c.apply_standing.new.state c.apply_standing.new.journal c.in-Err.ensures.lost c.in-Err.ensures.names c.in-Err.ensures.nothing c.in-Err.ensures.least c.in-Err.ensures.within in
    lost_seen c.self.invariant lost (stands_more s.cause up) c.run_out.new.state c.run_out.new.journal c.run_out.ensures.ended c.run_out.ensures.entered c.self.view_is
    ∙ sym (out_of_standing c.self.invariant c.self.view_is up)
