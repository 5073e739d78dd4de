use Rattle.std.proofs.Common.{◌≡◌, ℕ, ◌+◌, ◌-◌, ◌<◌}
use Rattle.uart_chip.specs.Device.{Rest}
use Rattle.uart_config.specs.Uarts.{Kept, rest_of}
use Rattle.uart_config.proofs.uart.Uart.update.Given as goal

-- after so many polls that all found the update standing
abbrev polled_standing : ℕ → Rest → Rest
polled_standing k s = record { fields = s.fields; waiting = s.waiting; standing = s.standing - k; delays = s.delays }

abbrev pub invariant-loop : goal.invariant-loop
invariant-loop g l =
    (l.self.reads ≡ l.initial.self.reads + l.counter) ×
    (l.counter < (rest_of g.C.EventSource l.initial.self).standing) ×
    (rest_of g.C.EventSource l.self ≡ polled_standing l.counter (rest_of g.C.EventSource l.initial.self)) ×
    Kept g.C.EventSource l.initial.self l.self
