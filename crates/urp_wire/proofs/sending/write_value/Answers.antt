use Rattle.urp_wire.proofs.Lengths.{light_writable}
use Rattle.urp_wire.proofs.Sendings.{read_again}
use Rattle.urp_wire.proofs.sending.write_value.Goals as goal

pub put_value-requires : goal.put_value-requires
put_value-requires c = light_writable _ _ _ c.requires.sound c.requires.fits c.requires.light

pub returns-clause-read : goal.returns-clause-read
returns-clause-read c = read_again _ _ _ _ _ _ _ c.requires.sound c.requires.fits c.requires.deep c.requires.light c.in_ok-put_value.ensures.ranges c.in_ok-put_value.ensures.bytes c.in_ok-put_value.ensures.names
