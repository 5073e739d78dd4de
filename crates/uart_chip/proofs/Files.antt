-- A register file after a write, field by field.
use Rattle.std.proofs.Common.{◌≡◌, ℕ, ◌<◌, Bool, true, false, cond, eqb, List, length, get_or, set, sym, refl, ◌∙◌, subst, get_or-set_other, get_or-set_same, ne_eqb, eqb-true}
use mathlib.Core.Path.{fun_ext}
use borrow.Author.Tests.{eqb-false}
use Rattle.uart_chip.specs.Fields.{index_of, put}
use Rattle.uart_chip.specs.Registers.{value_of}
use Rattle.uart_chip.specs.declared.field.Field.{Field}

read_by : (vs : List ℕ) (n m v : ℕ) → n < length vs → (b : Bool) → eqb n m ≡ b → get_or (set vs n v) m 0 ≡ cond b v (get_or vs m 0)
read_by vs n m v h true e = subst (λ (k : ℕ). get_or (set vs n v) k 0 ≡ v) (eqb-true n m e) (get_or-set_same vs n v 0 h)
read_by vs n m v h false e = get_or-set_other vs n m v 0 (λ q. eqb-false n m e (sym q))

-- what is read at the place m after v was written at n, where the place 4 is kept apart
apart_by : (e v n m : ℕ) (vs : List ℕ) → n < length vs → (n ≡ 4 → ⊥) → (b : Bool) → eqb m 4 ≡ b →
    cond b e (get_or (set vs n v) m 0) ≡ cond (eqb n m) v (cond b e (get_or vs m 0))
apart_by e v n m vs h other true at = simp (ne_eqb n m (λ q. other (q ∙ eqb-true m 4 at)))
apart_by e v n m vs h other false at = read_by vs n m v h (eqb n m) refl

-- a write of another field than the clock gate puts that field
pub written : (e : ℕ) (vs : List ℕ) (f : Field) (v : ℕ) → index_of f < length vs → (index_of f ≡ 4 → ⊥) →
    value_of (record { sclk_en = e; values = set vs (index_of f) v }) ≡ put f v (value_of (record { sclk_en = e; values = vs }))
written e vs f v h other = fun_ext (λ g. apart_by e v (index_of f) (index_of g) vs h other (eqb (index_of g) 4) refl)
