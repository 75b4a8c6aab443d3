use Rattle.urp_model.proofs.ArrivedLaws.{value_arrives}
use Rattle.urp_model.proofs.FittingLaws.{no_identities}
use Rattle.urp_model.proofs.spelling_laws.what_is_spelled_fits.Goals as goal

pub returns : goal.returns
returns c = record {
  first = no_identities;
  fits = λ levels reg k s t x b sound is each spelled.
      let a = value_arrives reg sound levels k s t x b is each spelled in
      (a.fits, a.deep, a.oids);
}
