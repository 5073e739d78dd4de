use Rattle.std.specs.Prelude.{ℕ, ◌≤◌}

-- the three numbers of the divider rule: the largest clk / (p × baud), the largest prescaler p (1 where the chip has none), and the largest integer part of the divider
pub record Limits : Type 0 where
  pub q : ℕ
  pub p : ℕ
  pub i : ℕ

-- the ranges of Q, P and I on every chip
pub record InRange (l : Limits) : Type 0 where
  pub q_least : 1 ≤ l.q
  pub q_most : l.q ≤ 268435456
  pub p_least : 1 ≤ l.p
  pub p_most : l.p ≤ 256
  pub i_least : 1 ≤ l.i
  pub i_most : l.i ≤ 268435456
