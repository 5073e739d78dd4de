use Rattle.std.specs.Prelude.{◌≡◌, ℕ, zero, suc, ◌+◌, ◌-◌, ◌<◌, ◌≤◌, Bool, true, false, cond, ◌&&◌, ◌||◌, List, [], ◌∷◌, ◌++◌, Some, None, Ok, Err, Option, Result}
use Rattle.uart_chip.specs.Device.{Rest}
use Rattle.uart_chip.specs.Fields.{line}
use Rattle.uart_chip.specs.Steps.{Writes}
use Rattle.uart_chip.specs.Steps.{put_all}
use Rattle.uart_config.specs.Faults.{refusing, overdue}
use Rattle.uart_config.specs.declared.fault.Fault.{Fault}
use Rattle.uart_config.specs.declared.step.Step.{Step}
use Rattle.uart_rate.specs.declared.refusal.Refusal.{Refusal}

-- A row of a table of steps: the step that it belongs to; the refusal of its test, or none where the test passes;
-- what is then written; whether an update follows; and what is written if that update times out.
pub record Row : Type 0 where
  pub step : Step
  pub refusal : Option Refusal
  pub writes : Writes
  pub updates : Bool
  pub off : Writes

-- the tests of all rows pass
abbrev pub AllPass : List Row → Type 0
AllPass [] = Unit {0}
AllPass (r ∷ rs) = (r.refusal ≡ None) × AllPass rs

-- what rows write, in their order
abbrev pub writes_of : List Row → Writes
writes_of [] = []
writes_of (r ∷ rs) = r.writes ++ writes_of rs

-- how many updates a row, and rows, make on a chip that has updates or not
abbrev pub updates_in : Bool → Row → ℕ
updates_in has r = cond (has && r.updates) 1 0

abbrev pub updates_of : Bool → List Row → ℕ
updates_of has [] = 0
updates_of has (r ∷ rs) = updates_in has r + updates_of has rs

-- the polls of the first n updates, each of which is found done by the poll after its delay
abbrev pub polls : ℕ → (ℕ → ℕ) → ℕ
polls zero ds = 0
polls (suc n) ds = polls n ds + (ds n + 1)

-- the first n updates are found done within a budget of b polls each
abbrev pub InTime : ℕ → ℕ → (ℕ → ℕ) → Type 0
InTime b n ds = (k : ℕ) → k < n → ds k < b

-- whether there is a line field among those written
abbrev pub any_line : Writes → Bool
any_line [] = false
any_line (w ∷ ws) = line w.0 || any_line ws

-- the waiting mark that writes leave, and that rows leave: an update ends the waiting
abbrev pub mark_by : Bool → Writes → Bool → Bool
mark_by has ws w = w || (has && any_line ws)

abbrev pub mark_after : Bool → List Row → Bool → Bool
mark_after has [] w = w
mark_after has (r ∷ rs) w = mark_after has rs (cond (has && r.updates) false (mark_by has r.writes w))

-- the update that stands after writes, and after rows: a line field cancels it, and one that was found done stands no more
abbrev pub stands_by : Writes → ℕ → ℕ
stands_by ws n = cond (any_line ws) 0 n

abbrev pub stands_after : Bool → List Row → ℕ → ℕ
stands_after has [] n = n
stands_after has (r ∷ rs) n = stands_after has rs (cond (has && r.updates) 0 (stands_by r.writes n))

-- The state once the rows were carried out: the fields before, overlaid with all writes; the waiting mark and the
-- update that stands by the last rows that touched them; and one delay taken for each update.
pub record Reached (has : Bool) (rows : List Row) (s t : Rest) : Type 0 where
  pub fields : t.fields ≡ put_all (writes_of rows) s.fields
  pub waiting : t.waiting ≡ mark_after has rows s.waiting
  pub standing : t.standing ≡ stands_after has rows s.standing
  pub delays : (k : ℕ) → t.delays k ≡ s.delays (updates_of has rows + k)

-- The state once the update of the row r, behind the rows front, stood for b polls: as there, with the writes of r
-- and then those for a time-out. Unless a write cancelled it the update goes on standing.
pub record LeftStanding (b : ℕ) (front : List Row) (r : Row) (s t : Rest) : Type 0 where
  pub fields : t.fields ≡ put_all (writes_of front ++ (r.writes ++ r.off)) s.fields
  pub waiting : t.waiting ≡ mark_by true (r.writes ++ r.off) (mark_after true front s.waiting)
  pub standing : t.standing ≡ stands_by r.off ((s.delays (updates_of true front) + 1) - b)
  pub delays : (k : ℕ) → t.delays k ≡ s.delays (updates_of true front + 1 + k)

-- How far a table is carried out, on a chip that has updates or not, with a budget of b polls for each, in a call
-- that polled n times before; what is answered (all polls of the call, or the fault), and the state that is left.
pub data Carried (has : Bool) (b : ℕ) (rows : List Row) (n : ℕ) (a : Result ℕ Fault) (s t : Rest) : Type 0 where
  -- to its end: every test passes and every update is found done in time
  to_the_end : AllPass rows → InTime b (updates_of has rows) s.delays →
      a ≡ Ok (n + polls (updates_of has rows) s.delays) → Reached has rows s t → Carried has b rows n a s t
  -- up to a row whose test fails: that row writes nothing
  to_a_refusal : (front : List Row) (r : Row) (back : List Row) (e : Refusal) → rows ≡ front ++ (r ∷ back) →
      AllPass front → InTime b (updates_of has front) s.delays → r.refusal ≡ Some e →
      a ≡ Err (refusing e (n + polls (updates_of has front) s.delays)) → Reached has front s t → Carried has b rows n a s t
  -- up to a row whose update still stands after b polls
  to_a_time_out : (front : List Row) (r : Row) (back : List Row) → rows ≡ front ++ (r ∷ back) →
      AllPass front → InTime b (updates_of has front) s.delays → r.refusal ≡ None → has ≡ true → r.updates ≡ true →
      b ≤ s.delays (updates_of has front) →
      a ≡ Err (overdue r.step (n + polls (updates_of has front) s.delays + b)) → LeftStanding b front r s t → Carried has b rows n a s t
