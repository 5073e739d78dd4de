use Rattle.std.proofs.Common.{◌++◌}
use Rattle.uart_config.specs.Rows.{reset_rows, transmit_rows}
use Rattle.uart_config.specs.declared.fifo.Fifo.TheVariants.{Rx}
use Rattle.uart_config.specs.declared.step.Step.TheVariants.{RxReset}
use Rattle.uart_config.proofs.Runs.{ran_then, ran_stops}
use Rattle.uart_config.proofs.Whole.{ran_framed}
use Rattle.uart_config.proofs.uart.Uart.configure.Goals as goal

pub returns-in_err-configure_rx : goal.returns-in_err-configure_rx
returns-in_err-configure_rx g c =
    ran_stops (reset_rows Rx RxReset ++ transmit_rows c.args.judged.now.config.now.tx) (ran_framed g.C.Kind.BaudGenerator.P c.args.judged.now.clk c.args.judged.now.config.now c.args.judged.now.divider c.in_ok-change_baud.ensures c.in_ok-change_framing.ensures c.in_err-configure_rx.ensures) c.from_residual-in_err-configure_rx.ensures.1

pub returns-in_err-reset : goal.returns-in_err-reset
returns-in_err-reset g c =
    ran_then (ran_framed g.C.Kind.BaudGenerator.P c.args.judged.now.clk c.args.judged.now.config.now c.args.judged.now.divider c.in_ok-change_baud.ensures c.in_ok-change_framing.ensures c.in_ok-configure_rx.ensures)
    (ran_stops (transmit_rows c.args.judged.now.config.now.tx) c.in_err-reset.ensures c.from_residual-in_err-reset.ensures.1)

pub returns : goal.returns
returns g c =
    ran_then (ran_framed g.C.Kind.BaudGenerator.P c.args.judged.now.clk c.args.judged.now.config.now c.args.judged.now.divider c.in_ok-change_baud.ensures c.in_ok-change_framing.ensures c.in_ok-configure_rx.ensures)
    (ran_then c.in_ok-reset.ensures c.configure_tx.ensures)
