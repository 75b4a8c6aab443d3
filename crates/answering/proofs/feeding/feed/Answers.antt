use Rattle.std.proofs.Common.{◌≡◌, ℕ, sym, subst}
use Rattle.urp_model.specs.declared.reason.Reason.{Reason}
use Rattle.bridge_endpoint.specs.Journals.{side_at}
use Rattle.bridge_endpoint.specs.declared.answers.Fed.TheVariants as fed_so
use Rattle.bridge_model.specs.Answers.{next_cut}
use Rattle.answering.specs.Ends.{IsFed}
use Rattle.answering.proofs.FeedLaws.{any_fed, count_fits}
use Rattle.answering.proofs.RunningLaws.{fed_roots}
use Rattle.answering.proofs.feeding.feed.Goals as goal

pub split_at-requires : goal.split_at-requires
split_at-requires c = count_fits c.args.end.now c.feed-fed.new.self c.args.piece.now c.requires.some c.requires.up c.in-Taken.count c.in-Taken.ensures.answer

taken_not : {n : ℕ} → fed_so.Taken n ≡ fed_so.NoMemory → ⊥
taken_not {n} at = cc

pub returns-in-Taken-clause-fed : goal.returns-in-Taken-clause-fed
returns-in-Taken-clause-fed c =
    subst
    (IsFed c.args.end.now c.feed-fed.new.self c.args.piece.now)
    (sym c.split_at.ensures.back)
    (any_fed c.args.end.now c.feed-fed.new.self c.args.piece.now c.requires.some c.requires.up c.know.ensures.leads c.know-2.ensures.leads (fed_so.Taken c.in-Taken.count) taken_not
    c.in-Taken.ensures.answer c.in-Taken.ensures.entered)

broken_not : {r : Reason} {n : ℕ} → fed_so.Broken r n ≡ fed_so.NoMemory → ⊥
broken_not {r} {n} at = cc

full_not : fed_so.Full ≡ fed_so.NoMemory → ⊥
full_not at = cc

gone_not : fed_so.Gone ≡ fed_so.NoMemory → ⊥
gone_not at = cc

pub returns-in-Broken-clause-fed : goal.returns-in-Broken-clause-fed
returns-in-Broken-clause-fed c =
    any_fed c.args.end.now c.feed-fed.new.self c.args.piece.now c.requires.some c.requires.up c.know.ensures.leads c.know-2.ensures.leads (fed_so.Broken c.in-Broken.field-0 c.in-Broken.field-1) broken_not
    c.in-Broken.ensures.answer c.in-Broken.ensures.entered

pub returns-in-Full-clause-fed : goal.returns-in-Full-clause-fed
returns-in-Full-clause-fed c =
    any_fed c.args.end.now c.feed-fed.new.self c.args.piece.now c.requires.some c.requires.up c.know.ensures.leads c.know-2.ensures.leads fed_so.Full full_not c.in-Full.ensures.answer c.in-Full.ensures.entered

pub returns-in-Gone-clause-fed : goal.returns-in-Gone-clause-fed
returns-in-Gone-clause-fed c =
    any_fed c.args.end.now c.feed-fed.new.self c.args.piece.now c.requires.some c.requires.up c.know.ensures.leads c.know-2.ensures.leads fed_so.Gone gone_not c.in-Gone.ensures.answer c.in-Gone.ensures.entered

pub returns-in-Taken-clause-roots : goal.returns-in-Taken-clause-roots
returns-in-Taken-clause-roots c = λ runs all. fed_roots (fed_so.Taken c.in-Taken.count) c.args.end.now c.feed-fed.new.self (next_cut (side_at c.args.end.now) c.args.piece.now) runs c.in-Taken.ensures.entered all

pub returns-in-Broken-clause-roots : goal.returns-in-Broken-clause-roots
returns-in-Broken-clause-roots c = λ runs all. fed_roots (fed_so.Broken c.in-Broken.field-0 c.in-Broken.field-1) c.args.end.now c.feed-fed.new.self (next_cut (side_at c.args.end.now) c.args.piece.now) runs c.in-Broken.ensures.entered all

pub returns-in-Full-clause-roots : goal.returns-in-Full-clause-roots
returns-in-Full-clause-roots c = λ runs all. fed_roots fed_so.Full c.args.end.now c.feed-fed.new.self (next_cut (side_at c.args.end.now) c.args.piece.now) runs c.in-Full.ensures.entered all

pub returns-in-Gone-clause-roots : goal.returns-in-Gone-clause-roots
returns-in-Gone-clause-roots c = λ runs all. fed_roots fed_so.Gone c.args.end.now c.feed-fed.new.self (next_cut (side_at c.args.end.now) c.args.piece.now) runs c.in-Gone.ensures.entered all
