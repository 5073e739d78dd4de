use Rattle.std.specs.Prelude.{ℕ, ◌-◌, ◌/◌, List, length, map, slice_index, slice_index_or}
use Rattle.uart_chip.specs.Events.{none, numbered}
use Rattle.uart_chip.specs.declared.arrival.Arrival.{Arrival}

-- no event, and no byte
abbrev pub nothing : Arrival
nothing = record { events = none; bytes = 0 }

-- the delay at a place of a list; past its end 0
abbrev pub delay_at : List ℕ → ℕ → ℕ
delay_at ds k = slice_index ds k

-- an arrival as a number: its events by their bits, and 512 × its bytes
abbrev pub arrival_of : ℕ → Arrival
arrival_of n = record { events = numbered n; bytes = n / 512 }

-- the arrival at a place of a list; past its end no event, and the bytes that stay
abbrev pub arrival_at : List ℕ → ℕ → ℕ → Arrival
arrival_at xs last k = slice_index_or (map arrival_of xs) k (record { events = none; bytes = last })

-- the bytes of the last arrival of a list, or 0 where it is empty
abbrev pub last_count : List ℕ → ℕ
last_count xs = slice_index xs (length xs - 1) / 512
