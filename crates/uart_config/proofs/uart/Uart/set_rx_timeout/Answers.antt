use Rattle.uart_config.proofs.Runs.{call_failed}
use Rattle.uart_config.proofs.uart.Uart.set_rx_timeout.Goals as goal

pub returns-in_err-change_rx_timeout : goal.returns-in_err-change_rx_timeout
returns-in_err-change_rx_timeout g c = call_failed c.in_err-change_rx_timeout.ensures c.from_residual.ensures.1
