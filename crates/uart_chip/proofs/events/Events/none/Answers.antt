use Rattle.std.proofs.Common.{rules}
use Rattle.uart_chip.specs.Members.{same_events}
use Rattle.uart_chip.proofs.events.Events.none.Goals as goal

pub returns : goal.returns
returns c = same_events _ _ (λ e. let h = c.those.ensures e in search rules)
