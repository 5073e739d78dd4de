use Rattle.std.specs.Prelude.{ℕ, ◌+◌, ◌-◌, false}
use Rattle.uart_chip.specs.Device.{Rest}

-- an update was requested and found done: it took its delay, and nothing waits any more
abbrev pub settled : Rest → Rest
settled s = record { fields = s.fields; waiting = false; standing = 0; delays = λ k. s.delays (k + 1) }

-- an update was requested and still stands after b polls: of its delay and the poll that finds it done so many are left
abbrev pub standing : ℕ → Rest → Rest
standing b s = record { fields = s.fields; waiting = s.waiting; standing = (s.delays 0 + 1) - b; delays = λ k. s.delays (k + 1) }
