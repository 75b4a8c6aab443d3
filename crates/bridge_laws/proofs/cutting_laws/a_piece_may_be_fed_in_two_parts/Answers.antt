use Rattle.bridge_laws.proofs.CuttingLaws.{first_part_may, second_part_may, parts_do}
use Rattle.bridge_laws.proofs.cutting_laws.a_piece_may_be_fed_in_two_parts.Goals as goal

pub returns-clause-first : goal.returns-clause-first
returns-clause-first c = first_part_may

pub returns-clause-second : goal.returns-clause-second
returns-clause-second c = second_part_may

pub returns-clause-same : goal.returns-clause-same
returns-clause-same c = parts_do
