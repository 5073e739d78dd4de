use Rattle.uart_config.proofs.Runs.{call_failed}
use Rattle.uart_config.proofs.uart.Uart.set_rx_fifo_full_threshold.Goals as goal

pub returns-in_err-change_threshold : goal.returns-in_err-change_threshold
returns-in_err-change_threshold g c = call_failed c.in_err-change_threshold.ensures c.from_residual.ensures.1
