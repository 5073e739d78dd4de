-- What the parts of a call do one after the other: for the contracts of inner functions. No public promise names these.
use Rattle.std.specs.Prelude.{◌≡◌, ℕ, ◌+◌, ◌*◌, ◌<◌, ◌≤◌, Bool, cond, List, [], ◌∷◌, length, Some, None, Ok, Err, Option, Result, nat_lt}
use Rattle.std.specs.Result.{result_and}
use Rattle.uart_chip.specs.Device.{Rest}
use Rattle.uart_chip.specs.Steps.{Writes, written_all}
use Rattle.uart_chip.specs.declared.properties.Properties.{Properties}
use Rattle.uart_chip.specs.declared.source.EventSource.{Ghosts}
use Rattle.uart_config.specs.Faults.{refusing, overdue}
use Rattle.uart_config.specs.Tables.{Row}
use Rattle.uart_config.specs.Uarts.{Kept, rest_of}
use Rattle.uart_config.specs.Updates.{settled, standing}
use Rattle.uart_config.specs.declared.fault.Fault.{Fault}
use Rattle.uart_config.specs.declared.step.Step.{Step}
use Rattle.uart_config.specs.declared.uart.Uart.{Uart}
use Rattle.uart_rate.specs.declared.refusal.Refusal.{Refusal}

-- what a part of a call answers, and what it leaves
pub record Out : Type 0 where
  pub answer : Result ℕ Fault
  pub rest : Rest

-- one part and then another, unless the first ends with a fault
abbrev pub onward : Result ℕ Fault → Rest → (ℕ → Rest → Out) → Out
onward (Ok k) m f = f k m
onward (Err e) m f = record { answer = Err e; rest = m }

abbrev pub chain : Out → (ℕ → Rest → Out) → Out
chain o f = onward o.answer o.rest f

-- an update
abbrev pub synced : Bool → ℕ → Step → ℕ → Rest → Out
synced has b k n s =
    cond has
    (cond (nat_lt (s.delays 0) b) (record { answer = Ok (n + (s.delays 0 + 1)); rest = settled s }) (record { answer = Err (overdue k (n + b)); rest = standing b s }))
    (record { answer = Ok n; rest = s })

-- what is written after a fault
abbrev pub fallen : Bool → Writes → Result ℕ Fault → Rest → Out
fallen has off (Ok k) m = record { answer = Ok k; rest = m }
fallen has off (Err f) m = record { answer = Err f; rest = written_all has off m }

abbrev pub falling : Bool → Writes → Out → Out
falling has [] o = o
falling has (w ∷ ws) o = fallen has (w ∷ ws) o.answer o.rest

-- a test, and what follows where it passes
abbrev pub tested : Option Refusal → ℕ → Rest → Out → Out
tested None n s o = o
tested (Some e) n s o = record { answer = Err (refusing e n); rest = s }

-- one row, and rows one after the other
abbrev pub run_row : Bool → ℕ → Row → ℕ → Rest → Out
run_row has b r n s =
    tested r.refusal n s
    (cond r.updates (falling has r.off (synced has b r.step n (written_all has r.writes s))) (record { answer = Ok n; rest = written_all has r.writes s }))

abbrev pub run_from : Bool → ℕ → Row → List Row → ℕ → Rest → Out
run_from has b r [] n s = run_row has b r n s
run_from has b r (q ∷ qs) n s = chain (run_row has b r n s) (run_from has b q qs)

abbrev pub run : Bool → ℕ → List Row → ℕ → Rest → Out
run has b [] n s = record { answer = Ok n; rest = s }
run has b (r ∷ rs) n s = run_from has b r rs n s

-- what a call has answered that polled k times
abbrev pub counted : {A : Type 0} → ℕ → Result A Fault → Result ℕ Fault
counted k r = result_and r (Ok k)

-- the count of a call has room for the polls of rows: for each a budget, 65,535 at the most
abbrev pub HasRoom : {C : Type 0} → List Row → Uart C → Type 0
HasRoom rows u = u.reads + 65535 * length rows < 4294967296

-- Rows were carried out as far as they go, on a chip with its budget, in a call under way: what is answered and
-- left, what is kept, and that they polled 65,535 times at the most for each.
pub record Ran {C A : Type 0} (g : Ghosts C) (x : Properties) (rows : List Row) (u : Uart C) (r : Result A Fault) (v : Uart C) : Type 0 where
  pub ran : run x.has_update u.budget rows u.reads (rest_of g u) ≡ record { answer = counted v.reads r; rest = rest_of g v }
  pub kept : Kept g u v
  pub few : v.reads ≤ u.reads + 65535 * length rows
