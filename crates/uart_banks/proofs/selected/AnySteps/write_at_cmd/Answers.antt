use Rattle.uart_banks.proofs.Overlays.{gated_writes}
use Rattle.uart_banks.proofs.selected.AnySteps.write_at_cmd.Goals as goal

pub returns : goal.returns
returns g c = rw (c.drop-guard.ensures, c.PROPERTIES.ensures, g.met.K.Selected.stated.gate) (gated_writes g.W.Wire g.K.ChipKind.PROPERTIES.has_update c.args.core.now c.args.config c.write_at_cmd.ensures)
