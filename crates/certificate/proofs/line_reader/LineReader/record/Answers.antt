use Rattle.certificate.proofs.CountLemmas.{TakesTurns-none}
use Rattle.certificate.proofs.line_reader.LineReader.record.Goals as goal

pub returns-in-Some-clause-turns : goal.returns-in-Some-clause-turns
returns-in-Some-clause-turns g c =
    TakesTurns-none c.args.self.now.turns (g.S.Source.agains c.args.source.now) c.requires
