use Rattle.std.proofs.Common.{arith}
use Rattle.uart_chip.proofs.Flags.{flag, small}
use Rattle.uart_chip.specs.Members.{same_events}
use Rattle.uart_chip.specs.declared.event.Event.TheVariants.{FifoFull, CmdCharDetected, FifoOvf, FifoTout, GlitchDetected, FrameError, ParityError, Done, FiFoEmpty}
use Rattle.uart_chip.proofs.events.Events.bits.Goals as goal

pub returns-clause-same : goal.returns-clause-same
returns-clause-same c = same_events _ _ (elim [
  | FifoFull ↦ flag c.args.self.fifo_full _ (omega (arith, small))
  | CmdCharDetected ↦ flag c.args.self.cmd_char_detected _ (omega (arith, small))
  | FifoOvf ↦ flag c.args.self.fifo_ovf _ (omega (arith, small))
  | FifoTout ↦ flag c.args.self.fifo_tout _ (omega (arith, small))
  | GlitchDetected ↦ flag c.args.self.glitch_detected _ (omega (arith, small))
  | FrameError ↦ flag c.args.self.frame_error _ (omega (arith, small))
  | ParityError ↦ flag c.args.self.parity_error _ (omega (arith, small))
  | Done ↦ flag c.args.self.done _ (omega (arith, small))
  | FiFoEmpty ↦ flag c.args.self.fifo_empty _ (omega (arith, small))
])

pub returns-clause-range : goal.returns-clause-range
returns-clause-range c = omega (arith, small)
