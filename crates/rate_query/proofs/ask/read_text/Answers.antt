use Rattle.rate_query.specs.Asking.{line_words}
use Rattle.rate_query.proofs.ask.read_text.Goals as goal

pub returns : goal.returns
returns c = λ line whole. line_words whole c.in_ok-words.ensures (rw c.deref.ensures.value at c.ask.ensures)
