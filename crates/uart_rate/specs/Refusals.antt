use Rattle.std.specs.Prelude.{ℕ, List, codes}
use Rattle.uart_rate.specs.declared.refusal.Refusal.{Refusal}
use Rattle.uart_rate.specs.declared.refusal.Refusal.TheVariants.{PercentOutOfRange, BaudrateNotSupported, ClockNotUsable, DividerOutOfRange, UpdateTimedOut, BaudrateNotAchievable, RxFifoThresholdNotSupported, TimeoutTooLong, TxFifoThresholdNotSupported, WaitOpen, NoSuchWait, FifoOverflowed, GlitchOccurred, FrameFormatViolated, ParityMismatch}

-- the number of each refusal: what a reply carries
abbrev pub number_of : Refusal → ℕ
number_of PercentOutOfRange = 1
number_of BaudrateNotSupported = 2
number_of ClockNotUsable = 3
number_of DividerOutOfRange = 4
number_of UpdateTimedOut = 5
number_of BaudrateNotAchievable = 6
number_of RxFifoThresholdNotSupported = 7
number_of TimeoutTooLong = 8
number_of TxFifoThresholdNotSupported = 9
number_of WaitOpen = 10
number_of NoSuchWait = 11
number_of FifoOverflowed = 21
number_of GlitchOccurred = 22
number_of FrameFormatViolated = 23
number_of ParityMismatch = 24

-- the name of each refusal: what is printed behind its number
abbrev pub name_of_refusal : Refusal → List ℕ
name_of_refusal PercentOutOfRange = codes "PercentOutOfRange"
name_of_refusal BaudrateNotSupported = codes "BaudrateNotSupported"
name_of_refusal ClockNotUsable = codes "ClockNotUsable"
name_of_refusal DividerOutOfRange = codes "DividerOutOfRange"
name_of_refusal UpdateTimedOut = codes "UpdateTimedOut"
name_of_refusal BaudrateNotAchievable = codes "BaudrateNotAchievable"
name_of_refusal RxFifoThresholdNotSupported = codes "RxFifoThresholdNotSupported"
name_of_refusal TimeoutTooLong = codes "TimeoutTooLong"
name_of_refusal TxFifoThresholdNotSupported = codes "TxFifoThresholdNotSupported"
name_of_refusal WaitOpen = codes "WaitOpen"
name_of_refusal NoSuchWait = codes "NoSuchWait"
name_of_refusal FifoOverflowed = codes "FifoOverflowed"
name_of_refusal GlitchOccurred = codes "GlitchOccurred"
name_of_refusal FrameFormatViolated = codes "FrameFormatViolated"
name_of_refusal ParityMismatch = codes "ParityMismatch"
