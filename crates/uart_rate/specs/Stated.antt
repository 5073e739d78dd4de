use Rattle.uart_rate.specs.Limits.{Limits}
use Rattle.uart_rate.specs.declared.generator.BaudGenerator.{Ghosts}

-- Q, P and I, as a chip states them
abbrev pub limits : {X : Type 0} → Ghosts X → Limits
limits g = record { q = g.Q; p = g.P; i = g.I }
