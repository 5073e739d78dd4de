use Rattle.std.proofs.Common.{rules}
use Rattle.std.proofs.lemmas.Result.{MatchResult-weaker}
use Rattle.rate_query.proofs.Places.{asked}
use Rattle.rate_query.proofs.ask.ask_some.Goals as goal

pub returns : goal.returns
returns c = asked _ c.read_query.result c.map.result c.requires c.read_query.ensures (MatchResult-weaker c.read_query.result c.map.ensures.cases (λ q k. search rules) (λ e k. k))
