use Rattle.std.specs.Prelude.{◌≡◌, ℕ, ◌/◌, ◌%◌, ◌^◌, Bool, true, false, not, ◌&&◌, ◌||◌, nat_eq, ◌==◌, List}
use Rattle.std.specs.List.{list_any}
use Rattle.uart_chip.specs.declared.event.Event.{Event}
use Rattle.uart_chip.specs.declared.event.Event.TheVariants.{FifoFull, CmdCharDetected, FifoOvf, FifoTout, GlitchDetected, FrameError, ParityError, Done, FiFoEmpty}
use Rattle.uart_chip.specs.declared.events.Events.{Events}

-- the bit of each event
abbrev pub number_of : Event → ℕ
number_of FifoFull = 0
number_of CmdCharDetected = 1
number_of FifoOvf = 2
number_of FifoTout = 3
number_of GlitchDetected = 4
number_of FrameError = 5
number_of ParityError = 6
number_of Done = 7
number_of FiFoEmpty = 8

-- whether an event is in a set
abbrev pub holds : Events → Event → Bool
holds s FifoFull = s.fifo_full
holds s CmdCharDetected = s.cmd_char_detected
holds s FifoOvf = s.fifo_ovf
holds s FifoTout = s.fifo_tout
holds s GlitchDetected = s.glitch_detected
holds s FrameError = s.frame_error
holds s ParityError = s.parity_error
holds s Done = s.done
holds s FiFoEmpty = s.fifo_empty

-- the set of the events of which p is true
abbrev pub those : (Event → Bool) → Events
those p = record {
  fifo_full = p FifoFull;
  cmd_char_detected = p CmdCharDetected;
  fifo_ovf = p FifoOvf;
  fifo_tout = p FifoTout;
  glitch_detected = p GlitchDetected;
  frame_error = p FrameError;
  parity_error = p ParityError;
  done = p Done;
  fifo_empty = p FiFoEmpty;
}

-- the set of the events of a list
abbrev pub among : List Event → Events
among es = those (λ e. list_any (λ x. number_of x == number_of e) es)

-- no event, and all nine
abbrev pub none : Events
none = those (λ _. false)

abbrev pub every : Events
every = those (λ _. true)

-- the events of either set, of both, and of the first alone
abbrev pub union : Events → Events → Events
union a b = those (λ e. holds a e || holds b e)

abbrev pub meet : Events → Events → Events
meet a b = those (λ e. holds a e && holds b e)

abbrev pub without : Events → Events → Events
without a b = those (λ e. holds a e && not (holds b e))

-- the set whose events have their bits set in a number
abbrev pub numbered : ℕ → Events
numbered n = those (λ e. nat_eq (n / 2 ^ number_of e % 2) 1)

-- whether a set has no event
abbrev pub empty : Events → Bool
empty s =
    not (s.fifo_full || s.cmd_char_detected || s.fifo_ovf || s.fifo_tout || s.glitch_detected || s.frame_error || s.parity_error || s.done || s.fifo_empty)

-- the events of the first set are in the second
abbrev pub Within : Events → Events → Type 0
Within a b = (e : Event) → holds a e ≡ true → holds b e ≡ true
