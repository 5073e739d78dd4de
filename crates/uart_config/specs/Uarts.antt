use Rattle.std.specs.Prelude.{◌≡◌}
use Rattle.uart_chip.specs.Device.{Rest}
use Rattle.uart_chip.specs.declared.source.EventSource.{Ghosts}
use Rattle.uart_config.specs.declared.uart.Uart.{Uart}

-- what the chip keeps beside its events
abbrev pub rest_of : {C : Type 0} → Ghosts C → Uart C → Rest
rest_of g u = g.rest u.chip

-- what a call leaves as it was beside the rest: the budget, the raw and the enabled events, the byte count and the arrivals to come
pub record Kept {C : Type 0} (g : Ghosts C) (u v : Uart C) : Type 0 where
  pub budget : v.budget ≡ u.budget
  pub raw : g.raw v.chip ≡ g.raw u.chip
  pub enabled : g.enabled v.chip ≡ g.enabled u.chip
  pub count : g.count v.chip ≡ g.count u.chip
  pub arrivals : g.arrivals v.chip ≡ g.arrivals u.chip

-- a call changes the rest as R says, and leaves all else as it was
pub record ChangesRest {C : Type 0} (g : Ghosts C) (R : Rest → Rest → Type 0) (u v : Uart C) : Type 0 where
  pub rest : R (rest_of g u) (rest_of g v)
  pub kept : Kept g u v
