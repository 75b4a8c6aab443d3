use Rattle.std.proofs.Common.{◌≡◌, ℕ, List, ◌++◌, Ok, Err, Result, ◌∙◌, ◌↔◌}
use Rattle.std.proofs.lemmas.Result.{err_from_is_err_and}
use Rattle.urp_stream.specs.Headers.{SaysTooLarge, SaysNoMessages, HasNoBadHeader}
use Rattle.urp_stream.specs.declared.error.StreamError.{StreamError}
use Rattle.urp_stream.specs.declared.error.StreamError.TheVariants.{NoMemory, TooLarge, NoMessages}
use Rattle.urp_stream.proofs.FeedLaws.{fed_too_large, fed_no_messages, fed_took, fed_good}
use Rattle.urp_stream.proofs.HeaderLaws.{none_too_large, some_messages}
use Rattle.urp_stream.proofs.RefusedLaws.{fed_refused_at}
use Rattle.urp_stream.proofs.blocks.Blocks.feed.Goals as goal
use Rattle.urp_stream.proofs.blocks.Blocks.feed.Goals.{After-parted-2}

-- where no header is bad, want of memory and a number are no refusal of one
no_memory_large : (s : List ℕ) (size : ℕ) → HasNoBadHeader s → (◌≡◌ {A = Result ℕ StreamError} (Err NoMemory) (Err (TooLarge size))) ↔ SaysTooLarge s size
no_memory_large s size good = (λ e. let bad : ⊥ = cc in absurd bad, λ said. absurd (none_too_large s size good said))

no_memory_none : (s : List ℕ) → HasNoBadHeader s → (◌≡◌ {A = Result ℕ StreamError} (Err NoMemory) (Err NoMessages)) ↔ SaysNoMessages s
no_memory_none s good = (λ e. let bad : ⊥ = cc in absurd bad, λ said. absurd (some_messages s good said))

number_large : (s : List ℕ) (n size : ℕ) → HasNoBadHeader s → (◌≡◌ {A = Result ℕ StreamError} (Ok n) (Err (TooLarge size))) ↔ SaysTooLarge s size
number_large s n size good = (λ e. let bad : ⊥ = cc in absurd bad, λ said. absurd (none_too_large s size good said))

number_none : (s : List ℕ) (n : ℕ) → HasNoBadHeader s → (◌≡◌ {A = Result ℕ StreamError} (Ok n) (Err NoMessages)) ↔ SaysNoMessages s
number_none s n good = (λ e. let bad : ⊥ = cc in absurd bad, λ said. absurd (some_messages s good said))

-- the header that was read is no bad one, so none stands in all bytes
good : (c : After-parted-2) → HasNoBadHeader (c.args.self.now.held ++ c.args.piece.now)
good c =
    fed_good c.self.inside.place c.len.result c.in_ok-size.size c.args.piece.now c.self.view_is c.self.invariant c.len.ensures.len c.parted.ensures.front c.followed_by-header.ensures
    c.in_ok-size.ensures.size

pub returns-in_err-size-clause-too_large : goal.returns-in_err-size-clause-too_large
returns-in_err-size-clause-too_large c size =
    let p = err_from_is_err_and c.from_residual.result c.from_residual.ensures.1 in
    let q = fed_too_large c.self.inside.place c.len.result c.args.piece.now c.self.view_is c.self.invariant c.len.ensures.len c.parted.ensures.front c.followed_by-header.ensures size in
    let is = c.in_err-size.ensures.too_large size in
    rw (p.1, p.2) (λ e. q.0 (is.0 e), λ said. is.1 (q.1 said))

pub returns-in_err-size-clause-no_messages : goal.returns-in_err-size-clause-no_messages
returns-in_err-size-clause-no_messages c =
    let p = err_from_is_err_and c.from_residual.result c.from_residual.ensures.1 in
    let q = fed_no_messages c.self.inside.place c.len.result c.args.piece.now c.self.view_is c.self.invariant c.len.ensures.len c.parted.ensures.front c.followed_by-header.ensures in
    let is = c.in_err-size.ensures.no_messages in
    rw (p.1, p.2) (λ e. q.0 (is.0 e), λ said. is.1 (q.1 said))

pub returns-in_err-extend_from_slice-clause-too_large : goal.returns-in_err-extend_from_slice-clause-too_large
returns-in_err-extend_from_slice-clause-too_large c size =
    let p = err_from_is_err_and c.from_residual-in_err-extend_from_slice.result c.from_residual-in_err-extend_from_slice.ensures.1 in
    rw (p.1, p.2) (no_memory_large _ size (good (goal.at.returns-in_err-extend_from_slice-clause-too_large c).After-parted-2))

pub returns-in_err-extend_from_slice-clause-no_messages : goal.returns-in_err-extend_from_slice-clause-no_messages
returns-in_err-extend_from_slice-clause-no_messages c =
    let p = err_from_is_err_and c.from_residual-in_err-extend_from_slice.result c.from_residual-in_err-extend_from_slice.ensures.1 in
    rw (p.1, p.2) (no_memory_none _ (good (goal.at.returns-in_err-extend_from_slice-clause-no_messages c).After-parted-2))

pub returns-clause-took : goal.returns-clause-took
returns-clause-took c =
    fed_took c.self.inside.place c.len.result c.len-2.result c.in_ok-size.size c.args.piece.now c.self.view_is c.self.invariant c.len.ensures.len c.parted.ensures.front c.parted.ensures.behind
    c.followed_by-header.ensures c.in_ok-size.ensures.size (c.len-2.ensures ∙ c.self.inside.body.ok.0) c.parted-2.ensures.front c.in_ok-extend_from_slice.ensures.items

pub returns-clause-too_large : goal.returns-clause-too_large
returns-clause-too_large c size = number_large _ _ size (good (goal.at.returns-clause-too_large c).After-parted-2)

pub returns-clause-no_messages : goal.returns-clause-no_messages
returns-clause-no_messages c = number_none _ _ (good (goal.at.returns-clause-no_messages c).After-parted-2)

pub returns-in_err-size-clause-refused_at : goal.returns-in_err-size-clause-refused_at
returns-in_err-size-clause-refused_at c = fed_refused_at c.self.inside.place c.args.piece.now c.self.view_is c.self.invariant

pub returns-in_err-extend_from_slice-clause-refused_at : goal.returns-in_err-extend_from_slice-clause-refused_at
returns-in_err-extend_from_slice-clause-refused_at c = fed_refused_at c.self.inside.place c.args.piece.now c.self.view_is c.self.invariant

pub returns-clause-refused_at : goal.returns-clause-refused_at
returns-clause-refused_at c = fed_refused_at c.self.inside.place c.args.piece.now c.self.view_is c.self.invariant
