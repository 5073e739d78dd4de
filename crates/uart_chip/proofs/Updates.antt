-- An update, read by read.
use Rattle.std.proofs.Common.{◌≡◌, ℕ, zero, suc, ◌+◌, ◌-◌, ◌≤◌, false, refl, arith, eq-eqb, ne_eqb}
use Rattle.uart_chip.specs.Device.{Rest, requested}
use Rattle.uart_chip.specs.Theorems.{after_reads}

pub left : (r : Rest) (k : ℕ) → (after_reads k (requested r)).standing ≡ (r.delays 0 + 1) - k
left r zero = omega arith
left r (suc k) = omega (arith, left r k)

pub meanwhile : (r : Rest) (k : ℕ) → k ≤ r.delays 0 → (after_reads k (requested r)).waiting ≡ r.waiting
meanwhile r zero h = refl
meanwhile r (suc k) h = rw (ne_eqb (after_reads k (requested r)).standing 1 (λ e. omega (arith, left r k))) (meanwhile r k (omega arith))

pub done : (r : Rest) → (after_reads (suc (r.delays 0)) (requested r)).waiting ≡ false
done r = rw (eq-eqb (after_reads (r.delays 0) (requested r)).standing 1 (omega (arith, left r (r.delays 0)))) refl
