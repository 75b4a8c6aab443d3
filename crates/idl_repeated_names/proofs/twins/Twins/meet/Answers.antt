use Rattle.idl_repeated_names.proofs.TwinsLemmas.{found_one, met_one}
use Rattle.idl_repeated_names.proofs.twins.Twins.meet.Goals as goal

pub returns-clause-met : goal.returns-clause-met
returns-clause-met c = λ ns has.
    met_one c.args.self.now.known c.note.new.known c.args.self.now.met.items c.push.new.self.items c.args.key c.args.place c.known_of-before.result c.with_one.result
    c.known_of-before.ensures c.in_ok-push.ensures.items c.with_one.ensures c.in_ok-note.ensures ns has

pub returns-clause-found : goal.returns-clause-found
returns-clause-found c = λ ns has have finds.
    found_one c.args.self.now c.args.key c.args.place c.known_of-before.result c.with_second-self.result c.known_of-before.ensures c.with_second-self.ensures ns has have finds
