use Rattle.std.proofs.Props.{props}
use Rattle.uart_chip.specs.Members.{same_built}
use Rattle.uart_chip.proofs.sets.EnumSetEventSet.from_events.Goals as goal

pub returns : goal.returns
returns g c = same_built (λ es p. record { events = es; kind = record {}; of_kind = p }) (λ es. hlevel props) _ _ c.new.result.of_kind _ c.new.ensures
