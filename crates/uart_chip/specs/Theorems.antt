use Rattle.std.specs.Prelude.{◌≡◌, ℕ, zero, suc, ◌+◌, ◌-◌, ◌≤◌, false}
use Rattle.uart_chip.specs.Device.{Rest, requested, polled}
use Rattle.uart_chip.specs.Fields.{index_of}
use Rattle.uart_chip.specs.declared.field.Field.{Field}

-- distinct fields have distinct places, so a write of one is no write of another
abbrev pub FieldsDistinct : Type 0
FieldsDistinct = (f g : Field) → index_of f ≡ index_of g → f ≡ g

-- the rest after so many reads of the update
abbrev pub after_reads : ℕ → Rest → Rest
after_reads zero r = r
after_reads (suc k) r = polled (after_reads k r)

-- An update that was requested with the delay n counts down: after k reads n + 1 − k are left. While k is at most n
-- the waiting mark is as it was, and after n + 1 reads nothing waits.
pub record UpdatesCounted : Type 0 where
  pub left : (r : Rest) (k : ℕ) → (after_reads k (requested r)).standing ≡ (r.delays 0 + 1) - k
  pub meanwhile : (r : Rest) (k : ℕ) → k ≤ r.delays 0 → (after_reads k (requested r)).waiting ≡ r.waiting
  pub done : (r : Rest) → (after_reads (suc (r.delays 0)) (requested r)).waiting ≡ false
