-- The scan from the right accepts exactly the numerals.
use Rattle.std.proofs.Common.{◌≡◌, ℕ, suc, ◌+◌, ◌%◌, ◌≤◌, Bool, true, false, ◌&&◌, eqb, leb, ◌≢◌, ◌⊎◌, List, [], ◌∷◌, ◌++◌, length, sym, refl, ap, ◌∙◌, subst, inl, inr, ⊎_elim, append_assoc, append-nil, add-one, arith, length-append}
use Rattle.std.specs.Char.{is_ascii_digit}
use Rattle.std.proofs.lemmas.List.{nil_from_length}
use Rattle.std.proofs.lemmas.Bool.{and_parts, and_from, and_left, and_right, leb-true, le-leb, both_ways, eqb-true, eq-eqb, ne_eqb, cond_both, cond-true, cond-false, cases_Bool}
use Rattle.uart_text.specs.declared.number.Scan.{Scan}
use Rattle.uart_text.specs.declared.number.Scan.TheVariants.{Start, Digits, Gap, Bad}
use Rattle.uart_text.specs.Number.{Digit, Numeral, last, next, under, comma}
use Rattle.uart_text.specs.Scan.{digits, stepped, scanned}

digit_from_test : (b : ℕ) → is_ascii_digit b ≡ true → Digit b
digit_from_test b e = let p = and_parts (leb 48 b) (leb b 57) e in (leb-true 48 b p.0, leb-true b 57 p.1)

test_from_digit : (b : ℕ) → Digit b → is_ascii_digit b ≡ true
test_from_digit b d = and_from (leb 48 b) (leb b 57) (le-leb 48 b d.0) (le-leb b 57 d.1)

-- an earlier state counts at most one digit less
digits_step : (g : Bool) (st : Scan) (b : ℕ) → digits (stepped g st b) ≤ digits st + 1
digits_step g Start b = cond_both (is_ascii_digit b) (Digits 1) Bad (λ x. digits x ≤ 0 + 1) (λ _. omega arith) (λ _. omega arith)
digits_step g (Digits n) b =
    cond_both (g && eqb (n % 3) 0) _ _ (λ x. digits x ≤ n + 1)
    (λ _. cond_both (eqb b 44) (Gap n) Bad (λ x. digits x ≤ n + 1) (λ _. omega arith) (λ _. omega arith))
    (λ _. cond_both (is_ascii_digit b) (Digits (n + 1)) _ (λ x. digits x ≤ n + 1) (λ _. omega arith)
    (λ _. cond_both (eqb b 95) (Gap n) Bad (λ x. digits x ≤ n + 1) (λ _. omega arith) (λ _. omega arith)))
digits_step g (Gap n) b = cond_both (is_ascii_digit b) (Digits (n + 1)) Bad (λ x. digits x ≤ n + 1) (λ _. omega arith) (λ _. omega arith)
digits_step g Bad b = omega arith

-- a state counts at most as many digits as there are bytes
pub digits_fit : (g : Bool) (s : List ℕ) → digits (scanned g s) ≤ length s
digits_fit g [] = omega arith
digits_fit g (b ∷ s) = omega (arith, digits_step g (scanned g s) b, digits_fit g s)

-- what a state says of the text that was read
abbrev Means : Bool → List ℕ → Scan → Type 0
Means g s Start = s ≡ []
Means g s (Digits n) = Numeral g s n
Means g s (Gap n) = (t : List ℕ) × Numeral g t n × (((s ≡ 95 ∷ t) × (g ≡ true → n % 3 ≢ 0)) ⊎ ((s ≡ 44 ∷ t) × (g ≡ true) × (n % 3 ≡ 0)))
Means g s Bad = Unit {0}

not_due : (g : Bool) (n : ℕ) → (g && eqb (n % 3) 0) ≡ false → g ≡ true → n % 3 ≢ 0
not_due g n e t z = both_ways (g && eqb (n % 3) 0) e (and_from g (eqb (n % 3) 0) t (eq-eqb (n % 3) 0 z))

due_false : (g : Bool) (n : ℕ) → (g ≡ true → n % 3 ≢ 0) → (g && eqb (n % 3) 0) ≡ false
due_false g n h = ⊎_elim (λ t. and_right g (eqb (n % 3) 0) (ne_eqb (n % 3) 0 (h t))) (λ f. and_left g (eqb (n % 3) 0) f) (cases_Bool g)

means_step : (g : Bool) (s : List ℕ) (st : Scan) (b : ℕ) → Means g s st → Means g (b ∷ s) (stepped g st b)
means_step g s Start b m =
    cond_both (is_ascii_digit b) (Digits 1) Bad (λ x. Means g (b ∷ s) x)
    (λ e. subst (λ t. Numeral g (b ∷ t) 1) (sym m) (last (digit_from_test b e)))
    (λ _. tt)
means_step g s (Digits n) b m =
    cond_both (g && eqb (n % 3) 0) _ _ (λ x. Means g (b ∷ s) x)
    (λ d. cond_both (eqb b 44) (Gap n) Bad (λ x. Means g (b ∷ s) x)
    (λ e. let p = and_parts g (eqb (n % 3) 0) d in (s, m, inr (ap (λ x. x ∷ s) (eqb-true b 44 e), p.0, eqb-true (n % 3) 0 p.1)))
    (λ _. tt))
    (λ d. cond_both (is_ascii_digit b) (Digits (n + 1)) _ (λ x. Means g (b ∷ s) x)
    (λ e. rw add-one (next (digit_from_test b e) m (not_due g n d)))
    (λ _. cond_both (eqb b 95) (Gap n) Bad (λ x. Means g (b ∷ s) x)
    (λ e. (s, m, inl (ap (λ x. x ∷ s) (eqb-true b 95 e), not_due g n d)))
    (λ _. tt)))
means_step g s (Gap n) b m =
    cond_both (is_ascii_digit b) (Digits (n + 1)) Bad (λ x. Means g (b ∷ s) x)
    (λ e. rw add-one (⊎_elim
    (λ u. subst (λ t. Numeral g (b ∷ t) (suc n)) (sym u.0) (under (digit_from_test b e) m.1 u.1))
    (λ c. subst (λ t. Numeral g (b ∷ t) (suc n)) (sym c.0) (comma (digit_from_test b e) m.1 c.1 c.2))
    m.2))
    (λ _. tt)
means_step g s Bad b m = tt

means : (g : Bool) (s : List ℕ) → Means g s (scanned g s)
means g [] = refl
means g (b ∷ s) = means_step g s (scanned g s) b (means g s)

-- a digit after digits, and after a separator
digit_on : (g : Bool) (n b : ℕ) → Digit b → (g ≡ true → n % 3 ≢ 0) → stepped g (Digits n) b ≡ Digits (suc n)
digit_on g n b d h =
    cond-false (g && eqb (n % 3) 0) _ _ (due_false g n h) ∙ cond-true (is_ascii_digit b) _ _ (test_from_digit b d) ∙ ap Digits (add-one n)

digit_past : (g : Bool) (n b : ℕ) → Digit b → stepped g (Gap n) b ≡ Digits (suc n)
digit_past g n b d = cond-true (is_ascii_digit b) _ _ (test_from_digit b d) ∙ ap Digits (add-one n)

under_on : (g : Bool) (n : ℕ) → (g ≡ true → n % 3 ≢ 0) → stepped g (Digits n) 95 ≡ Gap n
under_on g n h = cond-false (g && eqb (n % 3) 0) _ _ (due_false g n h)

comma_on : (g : Bool) (n : ℕ) → g ≡ true → n % 3 ≡ 0 → stepped g (Digits n) 44 ≡ Gap n
comma_on g n t z = cond-true (g && eqb (n % 3) 0) _ _ (and_from g (eqb (n % 3) 0) t (eq-eqb (n % 3) 0 z))

-- a numeral leads to its count of digits
counts : {g : Bool} {s : List ℕ} {n : ℕ} → Numeral g s n → scanned g s ≡ Digits n
counts {g} (last {b} d) = cond-true (is_ascii_digit b) (Digits 1) Bad (test_from_digit b d)
counts {g} (next {b} {s} {n} d m h) = ap (λ st. stepped g st b) (counts m) ∙ digit_on g n b d h
counts {g} (under {b} {s} {n} d m h) =
    ap (λ st. stepped g (stepped g st 95) b) (counts m) ∙ ap (λ st. stepped g st b) (under_on g n h) ∙ digit_past g n b d
counts {g} (comma {b} {s} {n} d m t z) =
    ap (λ st. stepped g (stepped g st 44) b) (counts m) ∙ ap (λ st. stepped g st b) (comma_on g n t z) ∙ digit_past g n b d

-- s is read down to its front, which is left to read, and led to the state st
abbrev pub BackTo : Bool → List ℕ → List ℕ → Scan → Type 0
BackTo g s front st = (done : List ℕ) × (s ≡ front ++ done) × (st ≡ scanned g done)

pub back_none : (g : Bool) (s front : List ℕ) → front ≡ s → BackTo g s front Start
back_none g s front e = ([], sym (append-nil front ∙ e), refl)

pub back_more : (g : Bool) (s front rest : List ℕ) (b : ℕ) (st new : Scan) → BackTo g s front st → front ≡ rest ++ (b ∷ []) → new ≡ stepped g st b → BackTo g s rest new
back_more g s front rest b st new h e is =
    (b ∷ h.0, h.1 ∙ ap (λ l. l ++ h.0) e ∙ append_assoc rest (b ∷ []) h.0, is ∙ ap (λ x. stepped g x b) h.2)

-- there is room for one more digit
pub back_fits : (g : Bool) (s front rest : List ℕ) (b : ℕ) (st : Scan) → BackTo g s front st → front ≡ rest ++ (b ∷ []) → digits st + 1 ≤ length s
back_fits g s front rest b st h e =
    omega (arith, ap digits h.2, digits_fit g h.0, ap length h.1, length-append front h.0, ap length e, length-append rest (b ∷ []))

pub back_all : (g : Bool) (s front : List ℕ) (st : Scan) → BackTo g s front st → length front ≡ 0 → st ≡ scanned g s
back_all g s front st h e = h.2 ∙ sym (ap (scanned g) (h.1 ∙ ap (λ l. l ++ h.0) (nil_from_length front e)))

-- a text that ends in digits is a numeral, and no other is
pub accepted : (g : Bool) (s : List ℕ) (n : ℕ) → Digits n ≡ scanned g s → Numeral g s n
accepted g s n e = subst (Means g s) (sym e) (means g s)

pub no_other : (g : Bool) (s : List ℕ) (st : Scan) → st ≡ scanned g s → ((n : ℕ) → st ≡ Digits n → ⊥) → (n : ℕ) → Numeral g s n → ⊥
no_other g s st e other n m = other n (e ∙ counts m)
