use Rattle.std.proofs.Common.{sym, subst, ◌+◌, ◌<◌, ◌^◌, length}
use Rattle.bridge_model.specs.Steps.{fed_count}
use Rattle.bridge_setting.specs.Settings.{setting_of}
use Rattle.bridge_streams.specs.Taking.{Took, TookNone, TookPart, TookWhole}
use Rattle.bridge_state.proofs.FeedingLemmas.{block_within, part_got, part_so, refused_got, refused_so, whole_got, whole_so}
use Rattle.bridge_state.proofs.state.State.feed_traced.Goals as goal

pub hear-requires-clause-bound : goal.hear-requires-clause-bound
hear-requires-clause-bound c =
    let s = c.self.inside in
    let took : TookWhole s.incoming c.args.piece.now c.in-Whole.count c.in-Whole.block c.feed.new.self = subst (λ x. Took s.incoming c.args.piece.now x c.feed.new.self) c.in-Whole.is c.in_ok-count.ensures.took in
    block_within s.incoming c.args.piece.now c.in-Whole.count c.in-Whole.block c.feed.new.self took
    (subst (λ e. fed_count e.side.incoming + length c.args.piece.now < 2 ^ 64) (sym c.self.view_is) c.requires.bound)

pub returns-in-Part-clause-fed : goal.returns-in-Part-clause-fed
returns-in-Part-clause-fed c =
    let s = c.self.inside in
    let took : TookPart s.incoming c.args.piece.now c.in-Part.count c.feed.new.self = subst (λ x. Took s.incoming c.args.piece.now x c.feed.new.self) c.in-Part.is c.in_ok-count.ensures.took in
    part_so (setting_of c.args.setting.now) c.args.piece.now s.tables s.stacks s.incoming c.feed.new.self s.outgoing s.entries s.cause c.args.self.now c.self.view_is c.in-Part.count took

pub returns-in-Part-clause-references : goal.returns-in-Part-clause-references
returns-in-Part-clause-references c =
    let s = c.self.inside in
    let took : TookPart s.incoming c.args.piece.now c.in-Part.count c.feed.new.self = subst (λ x. Took s.incoming c.args.piece.now x c.feed.new.self) c.in-Part.is c.in_ok-count.ensures.took in
    part_got (setting_of c.args.setting.now) c.args.piece.now s.tables s.stacks s.incoming c.feed.new.self s.outgoing s.entries s.cause c.args.self.now c.self.view_is c.in-Part.count took c.args.trace.now.references

pub returns-in-Refused-clause-fed : goal.returns-in-Refused-clause-fed
returns-in-Refused-clause-fed c =
    let s = c.self.inside in
    let took : TookNone s.incoming c.args.piece.now c.in-Refused.count c.in-Refused.why c.feed.new.self =
    subst (λ x. Took s.incoming c.args.piece.now x c.feed.new.self) c.in-Refused.is c.in_ok-count.ensures.took in
    refused_so (setting_of c.args.setting.now) c.args.piece.now s.tables s.stacks s.incoming c.feed.new.self s.outgoing s.entries s.cause c.args.self.now c.self.view_is c.in-Refused.count c.in-Refused.why took c.place-place.result
    c.place-place.ensures

pub returns-in-Refused-clause-references : goal.returns-in-Refused-clause-references
returns-in-Refused-clause-references c =
    let s = c.self.inside in
    let took : TookNone s.incoming c.args.piece.now c.in-Refused.count c.in-Refused.why c.feed.new.self =
    subst (λ x. Took s.incoming c.args.piece.now x c.feed.new.self) c.in-Refused.is c.in_ok-count.ensures.took in
    refused_got (setting_of c.args.setting.now) c.args.piece.now s.tables s.stacks s.incoming c.feed.new.self s.outgoing s.entries s.cause c.args.self.now c.self.view_is c.in-Refused.count c.in-Refused.why took
    c.args.trace.now.references

pub returns-in_ok-broken-in-Whole-clause-fed : goal.returns-in_ok-broken-in-Whole-clause-fed
returns-in_ok-broken-in-Whole-clause-fed c =
    let s = c.self.inside in
    let took : TookWhole s.incoming c.args.piece.now c.in-Whole.count c.in-Whole.block c.feed.new.self = subst (λ x. Took s.incoming c.args.piece.now x c.feed.new.self) c.in-Whole.is c.in_ok-count.ensures.took in
    whole_so (setting_of c.args.setting.now) c.args.piece.now s.tables s.stacks s.incoming c.feed.new.self s.outgoing s.entries s.cause c.args.self.now c.self.view_is c.in-Whole.count c.in-Whole.block took _ c.in_ok-broken-in-Whole.ensures.heard

pub returns-in_ok-broken-in-Whole-clause-references : goal.returns-in_ok-broken-in-Whole-clause-references
returns-in_ok-broken-in-Whole-clause-references c =
    let s = c.self.inside in
    let took : TookWhole s.incoming c.args.piece.now c.in-Whole.count c.in-Whole.block c.feed.new.self = subst (λ x. Took s.incoming c.args.piece.now x c.feed.new.self) c.in-Whole.is c.in_ok-count.ensures.took in
    whole_got (setting_of c.args.setting.now) c.args.piece.now s.tables s.stacks s.incoming c.feed.new.self s.outgoing s.entries s.cause c.args.self.now c.self.view_is c.in-Whole.count c.in-Whole.block took c.hear.new.trace.references
    c.in_ok-broken-in-Whole.ensures.references
