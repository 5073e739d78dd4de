use Rattle.uart_rate.proofs.Achievements.{achieving}
use Rattle.uart_rate.proofs.Judgements.{judging}
use Rattle.uart_rate.proofs.theorems.answers_decided.Goals as goal

pub returns : goal.returns
returns c = record { judging = judging; achieving = achieving }
