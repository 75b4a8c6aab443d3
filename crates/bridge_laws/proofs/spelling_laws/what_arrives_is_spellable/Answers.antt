use Rattle.bridge_laws.proofs.ArrivingSpelling.{arrived_goes}
use Rattle.bridge_laws.proofs.TableSpelling.{message_spellable}
use Rattle.bridge_laws.proofs.spelling_laws.what_arrives_is_spellable.Goals as goal

pub returns-clause-goes : goal.returns-clause-goes
returns-clause-goes c reg m is = arrived_goes reg m is

pub returns-clause-carried : goal.returns-clause-carried
returns-clause-carried c m is = message_spellable m is
