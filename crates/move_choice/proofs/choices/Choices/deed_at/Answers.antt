use Rattle.std.proofs.Common.{◌≡◌, ◌-◌, ◌<◌, ◌≤◌, arith}
use Rattle.bridge_laws.specs.Counting.{one_if}
use Rattle.move_choice.proofs.ChoosingLemmas.{of_thread, past_threads, of_root, of_object, at_object, of_bytes_out, at_bytes_out, of_bytes_in, at_bytes_in, of_the_end}
use Rattle.move_choice.proofs.choices.Choices.deed_at.Goals as goal

pub returns-in_default : goal.returns-in_default
returns-in_default c g h one other rs d are at =
    let less : c.args.nth < c.args.self.now.ready = omega arith in
    of_thread g h one other rs c.args.self.now are d c.args.nth less at

pub returns-in_default-checked_sub : goal.returns-in_default-checked_sub
returns-in_default-checked_sub c g h one other rs d are at =
    let less : c.in-Some.nth < c.args.self.now.moving = omega arith in
    of_root g h one other rs c.args.self.now are d c.in-Some.nth less
    (past_threads g h one other rs c.args.self.now are d c.args.nth c.in-Some.nth c.requires (omega arith) (omega arith) at)

pub returns-in_default-checked_sub-2 : goal.returns-in_default-checked_sub-2
returns-in_default-checked_sub-2 c g h one other rs d are at =
    let less : c.in-Some-checked_sub.nth < one_if c.args.self.now.reaps = omega arith in
    of_object g h one other rs c.args.self.now are d c.in-Some-checked_sub.nth less
    (at_object g h one other rs c.args.self.now are d c.args.nth c.in-Some.nth c.in-Some-checked_sub.nth c.requires (omega arith) (omega arith) (omega arith) (omega arith) at)

pub returns-in_default-checked_sub-3 : goal.returns-in_default-checked_sub-3
returns-in_default-checked_sub-3 c g h one other rs d are at =
    let less : c.in-Some-checked_sub-2.nth < one_if c.args.self.now.drains = omega arith in
    of_bytes_out g h one other rs c.args.self.now are d c.in-Some-checked_sub-2.nth less
    (at_bytes_out g h one other rs c.args.self.now are d c.args.nth c.in-Some.nth c.in-Some-checked_sub.nth c.in-Some-checked_sub-2.nth
    c.requires (omega arith) (omega arith) (omega arith) (omega arith) (omega arith) (omega arith) at)

pub returns-in-None : goal.returns-in-None
returns-in-None c g h one other rs d are at =
    let less : c.in-Some-checked_sub-3.nth < one_if c.args.self.now.carries = omega arith in
    of_bytes_in g h one other rs c.args.self.now are d c.in-Some-checked_sub-3.nth less
    (at_bytes_in g h one other rs c.args.self.now are d c.args.nth c.in-Some.nth c.in-Some-checked_sub.nth c.in-Some-checked_sub-2.nth c.in-Some-checked_sub-3.nth
    c.requires (omega arith) (omega arith) (omega arith) (omega arith) (omega arith) (omega arith) (omega arith) (omega arith) at)

pub returns-in-Some-checked_sub-4 : goal.returns-in-Some-checked_sub-4
returns-in-Some-checked_sub-4 c g h one other rs d are at =
    let most : one_if c.args.self.now.carries ≤ c.in-Some-checked_sub-3.nth = omega arith in
    let rest : c.in-Some-checked_sub-4.field-0 ≡ c.in-Some-checked_sub-3.nth - one_if c.args.self.now.carries = omega arith in
    of_the_end g h one other rs c.args.self.now are d c.in-Some-checked_sub-3.nth c.in-Some-checked_sub-4.field-0 most rest
    (at_bytes_in g h one other rs c.args.self.now are d c.args.nth c.in-Some.nth c.in-Some-checked_sub.nth c.in-Some-checked_sub-2.nth c.in-Some-checked_sub-3.nth
    c.requires (omega arith) (omega arith) (omega arith) (omega arith) (omega arith) (omega arith) (omega arith) (omega arith) at)
