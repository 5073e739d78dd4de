use Rattle.uart_config.proofs.Runs.{call_failed}
use Rattle.uart_config.proofs.uart.Uart.set_at_cmd.Goals as goal

pub returns-in_err-change_at_cmd : goal.returns-in_err-change_at_cmd
returns-in_err-change_at_cmd g c = call_failed c.in_err-change_at_cmd.ensures c.from_residual.ensures.1
