use Rattle.std.specs.Prelude.{◌≡◌, ℕ, Bool, true, false, List, codes, Ok, Err, Result, ◌≢◌}
use Rattle.uart_chip.specs.Device.{Rest, Meaning, looked, cleared, with_rest}
use Rattle.uart_chip.specs.Events.{holds, those}
use Rattle.uart_chip.specs.declared.event.Event.{Event}
use Rattle.uart_chip.specs.declared.event.Event.TheVariants as event
use Rattle.uart_chip.specs.declared.events.Events.{Events}
use Rattle.uart_config.specs.Faults.{refusing}
use Rattle.uart_config.specs.Rows.{reset_rows}
use Rattle.uart_config.specs.Tables.{Carried}
use Rattle.uart_config.specs.declared.fault.Fault.{Fault}
use Rattle.uart_config.specs.declared.fifo.Fifo.TheVariants.{Rx}
use Rattle.uart_config.specs.declared.rx_error.RxError.{RxError}
use Rattle.uart_config.specs.declared.rx_error.RxError.TheVariants.{FifoOverflowed, GlitchOccurred, FrameFormatViolated, ParityMismatch}
use Rattle.uart_config.specs.declared.step.Step.TheVariants.{ErrorReset}
use Rattle.uart_rate.specs.declared.refusal.Refusal.{Refusal}
use Rattle.uart_rate.specs.declared.refusal.Refusal.TheVariants as refusal

-- the three line errors beside the overflow
abbrev pub is_late_error : Event → Bool
is_late_error event.FifoFull = false
is_late_error event.CmdCharDetected = false
is_late_error event.FifoOvf = false
is_late_error event.FifoTout = false
is_late_error event.GlitchDetected = true
is_late_error event.FrameError = true
is_late_error event.ParityError = true
is_late_error event.Done = false
is_late_error event.FiFoEmpty = false

-- the events that an error check clears once it has found an error
abbrev pub is_error_event : Event → Bool
is_error_event event.FifoFull = false
is_error_event event.CmdCharDetected = false
is_error_event event.FifoOvf = true
is_error_event event.FifoTout = true
is_error_event event.GlitchDetected = true
is_error_event event.FrameError = true
is_error_event event.ParityError = true
is_error_event event.Done = false
is_error_event event.FiFoEmpty = false

abbrev pub error_events : Events
error_events = those is_error_event

-- what a person is told of each line error
abbrev pub text_of : RxError → List ℕ
text_of FifoOverflowed = codes "the receive FIFO overflowed"
text_of GlitchOccurred = codes "there was a glitch on the line"
text_of FrameFormatViolated = codes "a frame was not in its format"
text_of ParityMismatch = codes "a parity bit was wrong"

-- the refusal of each line error
abbrev pub refusal_of : RxError → Refusal
refusal_of FifoOverflowed = refusal.FifoOverflowed
refusal_of GlitchOccurred = refusal.GlitchOccurred
refusal_of FrameFormatViolated = refusal.FrameFormatViolated
refusal_of ParityMismatch = refusal.ParityMismatch

-- the first line error among events, in the order overflow, glitch, framing, parity; or none of the four
pub data FirstError (es : Events) (r : Result (Unit {0}) RxError) : Type 0 where
  quiet : holds es event.FifoOvf ≡ false → holds es event.GlitchDetected ≡ false → holds es event.FrameError ≡ false → holds es event.ParityError ≡ false → r ≡ Ok tt → FirstError es r
  overflow : holds es event.FifoOvf ≡ true → r ≡ Err FifoOverflowed → FirstError es r
  glitch : holds es event.FifoOvf ≡ false → holds es event.GlitchDetected ≡ true → r ≡ Err GlitchOccurred → FirstError es r
  framing : holds es event.FifoOvf ≡ false → holds es event.GlitchDetected ≡ false → holds es event.FrameError ≡ true → r ≡ Err FrameFormatViolated → FirstError es r
  parity : holds es event.FifoOvf ≡ false → holds es event.GlitchDetected ≡ false → holds es event.FrameError ≡ false → holds es event.ParityError ≡ true → r ≡ Err ParityMismatch → FirstError es r

-- What follows a line error, and the fault that is answered: after an overflow the receive FIFO is reset (step 7), and
-- if that times out, its fault stands for the error's.
pub data Recovers (has : Bool) (b : ℕ) (e : RxError) (f : Fault) (s t : Rest) : Type 0 where
  no_reset : (e ≢ FifoOverflowed) → f ≡ refusing (refusal_of e) 0 → t ≡ s → Recovers has b e f s t
  reset : (k : ℕ) → e ≡ FifoOverflowed → f ≡ refusing refusal.FifoOverflowed k → Carried has b (reset_rows Rx ErrorReset) 0 (Ok k) s t → Recovers has b e f s t
  reset_failed : e ≡ FifoOverflowed → Carried has b (reset_rows Rx ErrorReset) 0 (Err f) s t → Recovers has b e f s t

-- An error check: it looks; with no line error raw that is all; otherwise the five error events are cleared before
-- what follows the first error.
pub data Checks (has : Bool) (b : ℕ) (a : Result ℕ Fault) (m o : Meaning) : Type 0 where
  no_error : FirstError (looked m).raw (Ok tt) → a ≡ Ok 0 → o ≡ looked m → Checks has b a m o
  error : (e : RxError) (f : Fault) → FirstError (looked m).raw (Err e) → a ≡ Err f → Recovers has b e f m.rest o.rest →
      o ≡ with_rest o.rest (cleared error_events (looked m)) → Checks has b a m o
