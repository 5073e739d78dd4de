use Rattle.std.specs.Prelude.{[], ◌∷◌}
use Rattle.uart_chip.specs.Events.{among}
use Rattle.uart_chip.specs.declared.event.Event.{Event}
use Rattle.uart_chip.specs.declared.event.Event.TheVariants as event
use Rattle.uart_chip.specs.declared.events.Events.{Events}
use Rattle.uart_chip.specs.declared.kinds.RxEvent.{RxEvent}
use Rattle.uart_chip.specs.declared.kinds.RxEvent.TheVariants as rx
use Rattle.uart_chip.specs.declared.kinds.TxEvent.{TxEvent}
use Rattle.uart_chip.specs.declared.kinds.TxEvent.TheVariants as tx
use Rattle.uart_chip.specs.declared.kinds.UartInterrupt.{UartInterrupt}
use Rattle.uart_chip.specs.declared.kinds.UartInterrupt.TheVariants as uart

-- which of the nine events each case of a kind is
abbrev pub rx_event : RxEvent → Event
rx_event rx.FifoFull = event.FifoFull
rx_event rx.CmdCharDetected = event.CmdCharDetected
rx_event rx.FifoOvf = event.FifoOvf
rx_event rx.FifoTout = event.FifoTout
rx_event rx.GlitchDetected = event.GlitchDetected
rx_event rx.FrameError = event.FrameError
rx_event rx.ParityError = event.ParityError

abbrev pub tx_event : TxEvent → Event
tx_event tx.Done = event.Done
tx_event tx.FiFoEmpty = event.FiFoEmpty

abbrev pub uart_event : UartInterrupt → Event
uart_event uart.AtCmd = event.CmdCharDetected
uart_event uart.TxDone = event.Done
uart_event uart.RxFifoFull = event.FifoFull
uart_event uart.RxTimeout = event.FifoTout

-- the events of all cases of a kind
abbrev pub rx_every : Events
rx_every = among (event.FifoFull ∷ event.CmdCharDetected ∷ event.FifoOvf ∷ event.FifoTout ∷ event.GlitchDetected ∷ event.FrameError ∷ event.ParityError ∷ [])

abbrev pub tx_every : Events
tx_every = among (event.Done ∷ event.FiFoEmpty ∷ [])

abbrev pub uart_every : Events
uart_every = among (event.CmdCharDetected ∷ event.Done ∷ event.FifoFull ∷ event.FifoTout ∷ [])
