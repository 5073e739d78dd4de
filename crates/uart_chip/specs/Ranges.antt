-- Proofs that the law `reached` of `EventKind` asks of each kind: every event of the kind is that of a case.
use Rattle.std.proofs.Common.{◌≡◌, true, refl}
use Rattle.uart_chip.specs.Events.{holds}
use Rattle.uart_chip.specs.Kinds.{rx_event, rx_every, tx_event, tx_every, uart_event, uart_every}
use Rattle.uart_chip.specs.declared.event.Event.{Event}
use Rattle.uart_chip.specs.declared.event.Event.TheVariants as event
use Rattle.uart_chip.specs.declared.kinds.RxEvent.{RxEvent}
use Rattle.uart_chip.specs.declared.kinds.RxEvent.TheVariants as rx
use Rattle.uart_chip.specs.declared.kinds.TxEvent.{TxEvent}
use Rattle.uart_chip.specs.declared.kinds.TxEvent.TheVariants as tx
use Rattle.uart_chip.specs.declared.kinds.UartInterrupt.{UartInterrupt}
use Rattle.uart_chip.specs.declared.kinds.UartInterrupt.TheVariants as uart

pub rx_reached : (e : Event) → holds rx_every e ≡ true → (k : RxEvent) × (rx_event k ≡ e)
rx_reached event.FifoFull h = (rx.FifoFull, refl)
rx_reached event.CmdCharDetected h = (rx.CmdCharDetected, refl)
rx_reached event.FifoOvf h = (rx.FifoOvf, refl)
rx_reached event.FifoTout h = (rx.FifoTout, refl)
rx_reached event.GlitchDetected h = (rx.GlitchDetected, refl)
rx_reached event.FrameError h = (rx.FrameError, refl)
rx_reached event.ParityError h = (rx.ParityError, refl)
rx_reached event.Done h = absurd cc
rx_reached event.FiFoEmpty h = absurd cc

pub tx_reached : (e : Event) → holds tx_every e ≡ true → (k : TxEvent) × (tx_event k ≡ e)
tx_reached event.FifoFull h = absurd cc
tx_reached event.CmdCharDetected h = absurd cc
tx_reached event.FifoOvf h = absurd cc
tx_reached event.FifoTout h = absurd cc
tx_reached event.GlitchDetected h = absurd cc
tx_reached event.FrameError h = absurd cc
tx_reached event.ParityError h = absurd cc
tx_reached event.Done h = (tx.Done, refl)
tx_reached event.FiFoEmpty h = (tx.FiFoEmpty, refl)

pub uart_reached : (e : Event) → holds uart_every e ≡ true → (k : UartInterrupt) × (uart_event k ≡ e)
uart_reached event.FifoFull h = (uart.RxFifoFull, refl)
uart_reached event.CmdCharDetected h = (uart.AtCmd, refl)
uart_reached event.FifoOvf h = absurd cc
uart_reached event.FifoTout h = (uart.RxTimeout, refl)
uart_reached event.GlitchDetected h = absurd cc
uart_reached event.FrameError h = absurd cc
uart_reached event.ParityError h = absurd cc
uart_reached event.Done h = (uart.TxDone, refl)
uart_reached event.FiFoEmpty h = absurd cc
