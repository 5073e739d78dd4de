use Rattle.std.proofs.Common.{[], ◌∷◌, ◌++◌, None}
use Rattle.uart_config.specs.Rows.{reset_rows, plain_row, idle_writes}
use Rattle.uart_config.specs.declared.fifo.Fifo.TheVariants.{Rx, Tx}
use Rattle.uart_config.specs.declared.step.Step.TheVariants.{RxReset, Transmit}
use Rattle.uart_config.proofs.Runs.{ran_then, ran_stops}
use Rattle.uart_config.proofs.uart.Uart.start.Goals as goal

pub returns-in_err-configure : goal.returns-in_err-configure
returns-in_err-configure g c =
    ran_stops (reset_rows Rx RxReset ++ (reset_rows Tx Transmit ++ (plain_row Transmit None idle_writes ∷ []))) c.in_err-configure.ensures c.from_residual.ensures.1

pub returns-in_err-reset : goal.returns-in_err-reset
returns-in_err-reset g c =
    ran_then c.in_ok-configure.ensures
    (ran_stops (reset_rows Tx Transmit ++ (plain_row Transmit None idle_writes ∷ [])) c.in_err-reset.ensures c.from_residual-in_err-reset.ensures.1)

pub returns-in_err-reset-2 : goal.returns-in_err-reset-2
returns-in_err-reset-2 g c =
    ran_then c.in_ok-configure.ensures (ran_then c.in_ok-reset.ensures
    (ran_stops (plain_row Transmit None idle_writes ∷ []) c.in_err-reset-2.ensures c.from_residual-in_err-reset-2.ensures.1))

pub returns : goal.returns
returns g c = ran_then c.in_ok-configure.ensures (ran_then c.in_ok-reset.ensures (ran_then c.in_ok-reset-2.ensures c.write_idle_and_mask.ensures))
