use Rattle.bridge_laws.proofs.CuttingLaws.{same_leads, cut_leads, pieces_lead}
use Rattle.bridge_laws.proofs.cutting_laws.how_bytes_are_cut_does_not_matter.Goals as goal

pub returns-clause-same : goal.returns-clause-same
returns-clause-same c = same_leads

pub returns-clause-cut : goal.returns-clause-cut
returns-clause-cut c = cut_leads

pub returns-clause-pieces : goal.returns-clause-pieces
returns-clause-pieces c = pieces_lead
