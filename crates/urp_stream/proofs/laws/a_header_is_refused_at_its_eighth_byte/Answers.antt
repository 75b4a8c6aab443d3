use Rattle.urp_stream.proofs.HeaderLaws.{said_apart, none_apart}
use Rattle.urp_stream.proofs.RefusedLaws.{refused_at, refused_whole}
use Rattle.urp_stream.proofs.laws.a_header_is_refused_at_its_eighth_byte.Goals as goal

pub returns-clause-place : goal.returns-clause-place
returns-clause-place c = refused_at

pub returns-clause-always : goal.returns-clause-always
returns-clause-always c = refused_whole

pub returns-clause-size : goal.returns-clause-size
returns-clause-size c = said_apart

pub returns-clause-count : goal.returns-clause-count
returns-clause-count c = none_apart
