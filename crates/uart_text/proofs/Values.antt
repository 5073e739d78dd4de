-- The value of a text's digits, byte by byte.
use Rattle.std.proofs.Common.{◌≡◌, ℕ, ◌+◌, ◌-◌, ◌*◌, ◌<◌, ◌≤◌, true, false, cond, List, [], ◌∷◌, length, get_or, drop, sym, ap, ◌∙◌, arith}
use Rattle.std.specs.Char.{is_ascii_digit}
use Rattle.std.proofs.lemmas.List.{at_drop_more, at_drop_all}
use Rattle.std.proofs.lemmas.Bool.{cond_both, cond-true, cond-false}
use Rattle.uart_text.specs.Number.{value, value_from}

-- more digits make no number smaller
grows : (a : ℕ) (s : List ℕ) → a ≤ value_from a s
grows a [] = omega arith
grows a (b ∷ s) =
    let more : a ≤ cond (is_ascii_digit b) (10 * a + (b - 48)) a = cond_both (is_ascii_digit b) (10 * a + (b - 48)) a (λ x. a ≤ x) (λ _. omega arith) (λ _. omega arith) in
    omega (arith, grows (cond (is_ascii_digit b) (10 * a + (b - 48)) a) s)

module _ (s : List ℕ) (i a : ℕ) where
  step_on : i < length s → value_from a (drop i s) ≡ value_from (cond (is_ascii_digit (get_or s i 0)) (10 * a + (get_or s i 0 - 48)) a) (drop (i + 1) s)
  step_on h = at_drop_more (value_from a) s i 0 h

  pub value_digit : i < length s → is_ascii_digit (get_or s i 0) ≡ true → value_from (10 * a + (get_or s i 0 - 48)) (drop (i + 1) s) ≡ value_from a (drop i s)
  value_digit h d = ap (λ x. value_from x (drop (i + 1) s)) (sym (cond-true _ _ _ d)) ∙ sym (step_on h)

  pub value_skip : i < length s → is_ascii_digit (get_or s i 0) ≡ false → value_from a (drop (i + 1) s) ≡ value_from a (drop i s)
  value_skip h d = ap (λ x. value_from x (drop (i + 1) s)) (sym (cond-false _ _ _ d)) ∙ sym (step_on h)

  -- what is read so far, with one digit more, is at most the whole
  pub value_above : i < length s → is_ascii_digit (get_or s i 0) ≡ true → value_from a (drop i s) ≡ value s → 10 * a + (get_or s i 0 - 48) ≤ value s
  value_above h d e = omega (arith, grows (10 * a + (get_or s i 0 - 48)) (drop (i + 1) s), value_digit h d)

  pub value_all : length s ≤ i → value_from a (drop i s) ≡ value s → a ≡ value s
  value_all h e = sym (at_drop_all (value_from a) s i h) ∙ e
