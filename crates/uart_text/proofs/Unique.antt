-- A line has one content, and one list of words.
use Rattle.std.proofs.Common.{◌≡◌, ℕ, true, false, ◌≢◌, List, [], ◌∷◌, ◌++◌, sym, refl, ◌∙◌, subst, inl, inr, ⊎_elim, append_assoc, append-nil, arith}
use Rattle.std.specs.List.{AllByRecursion}
use Rattle.std.proofs.lemmas.List.{same_from_push}
use Rattle.std.proofs.lemmas.Bool.{both_ways}
use Rattle.uart_text.proofs.Lines.{Stripped, ends_in_last}
use Rattle.uart_text.specs.Left.{WordsOf, no_word, first_word}
use Rattle.uart_text.specs.Line.{LineEnd, return_newline, newline, return, unended, WithoutEnd, Uncommented, Content}
use Rattle.uart_text.specs.Words.{blank, AllOf, EndsWord, NextWord}

-- s is empty, or begins with a byte that is not P
abbrev Stops : (ℕ → Type 0) → List ℕ → Type 0
Stops P [] = Unit {0}
Stops P (b ∷ s) = P b → ⊥

same_head : {x y : ℕ} {s t : List ℕ} → x ∷ s ≡ y ∷ t → x ≡ y
same_head e = cc

same_tail : {x y : ℕ} {s t : List ℕ} → x ∷ s ≡ y ∷ t → s ≡ t
same_tail e = cc

-- the longest front of P, and the rest
one_front : (P : ℕ → Type 0) (a b s t : List ℕ) → a ++ s ≡ b ++ t → AllByRecursion P a → AllByRecursion P b → Stops P s → Stops P t → (a ≡ b) × (s ≡ t)
one_front P [] [] s t e h k m n = (refl, e)
one_front P [] (y ∷ b) s t e h k m n = absurd (subst (Stops P) e m k.0)
one_front P (x ∷ a) [] s t e h k m n = absurd (subst (Stops P) (sym e) n h.0)
one_front P (x ∷ a) (y ∷ b) s t e h k m n =
    let r = one_front P a b s t (same_tail e) h.1 k.1 m n in
    ((λ i. same_head e i ∷ r.0 i), r.1)

-- a word is not blank at its front
word_stops : (w rest : List ℕ) → w ≢ [] → AllOf false w → Stops (λ b. blank b ≡ true) (w ++ rest)
word_stops [] rest some all = absurd (some refl)
word_stops (b ∷ w) rest some all = both_ways (blank b) all.0

rest_stops : (rest : List ℕ) → EndsWord rest → Stops (λ b. blank b ≡ false) rest
rest_stops [] h = tt
rest_stops (b ∷ s) h = λ e. both_ways (blank b) e h

pub one_next_word : {s w v rest left : List ℕ} → NextWord s w rest → NextWord s v left → (w ≡ v) × (rest ≡ left)
one_next_word {s} {w} {v} {rest} {left} m n =
    let a = one_front (λ b. blank b ≡ true) m.blanks n.blanks (w ++ rest) (v ++ left) (sym m.whole ∙ n.whole) m.before n.before (word_stops w rest m.some m.inked) (word_stops v left n.some n.inked) in
    one_front (λ b. blank b ≡ false) w v rest left a.1 m.inked n.inked (rest_stops rest m.stops) (rest_stops left n.stops)

blank_end : (a t : List ℕ) → AllOf true (a ++ t) → AllOf true t
blank_end [] t h = h
blank_end (b ∷ a) t h = blank_end a t h.1

pub blank_has_none : {s w rest : List ℕ} → AllOf true s → NextWord s w rest → ⊥
blank_has_none {s} {w} {rest} h n = go w rest n.some n.inked (blank_end n.blanks (w ++ rest) (subst (AllOf true) n.whole h))
  where
    go : (v r : List ℕ) → v ≢ [] → AllOf false v → AllOf true (v ++ r) → ⊥
    go [] r some all b = some refl
    go (x ∷ v) r some all b = both_ways (blank x) all.0 b.0

pub one_words : {s : List ℕ} {vs ws : List (List ℕ)} → WordsOf s vs → WordsOf s ws → vs ≡ ws
one_words (no_word h) (no_word k) = refl
one_words (no_word h) (first_word n k) = absurd (blank_has_none h n)
one_words (first_word m h) (no_word k) = absurd (blank_has_none k m)
one_words (first_word m h) (first_word {ws = us} n k) =
    let r = one_next_word m n in
    let same = one_words h (subst (λ l. WordsOf l us) (sym r.1) k) in
    (λ i. r.0 i ∷ same i)

one_stripped : (b : ℕ) (s r t : List ℕ) → Stripped b s r → Stripped b s t → r ≡ t
one_stripped b s r t m n =
    ⊎_elim
    (λ p. ⊎_elim (λ q. (same_from_push r t b b (sym p ∙ q)).0) (λ q. absurd (q.1 (r, sym q.0 ∙ p))) n)
    (λ p. ⊎_elim (λ q. absurd (p.1 (t, sym p.0 ∙ q))) (λ q. sym p.0 ∙ q.0) n)
    m

-- a line end is a `\n` taken away, and then a `\r`
stripped : {r e : List ℕ} → LineEnd r e → (line : List ℕ) → line ≡ r ++ e → (m : List ℕ) × Stripped 10 line m × Stripped 13 m r
stripped {r} return_newline line e = (r ++ (13 ∷ []), inl (e ∙ sym (append_assoc r (13 ∷ []) (10 ∷ []))), inl refl)
stripped {r} (newline h) line e = (r, inl e, inr (refl, h))
stripped {r} return line e = (r ++ (13 ∷ []), inr (e, ends_in_last 10 13 (r ++ (13 ∷ [])) r refl (omega arith)), inl refl)
stripped {r} (unended h k) line e = (r, inr (e ∙ append-nil r, k), inr (refl, h))

one_end : (line r t : List ℕ) → WithoutEnd line r → WithoutEnd line t → r ≡ t
one_end line r t m n =
    let a = stripped m.2 line m.1 in
    let b = stripped n.2 line n.1 in
    one_stripped 13 a.0 r t a.2 (subst (λ l. Stripped 13 l t) (one_stripped 10 line b.0 a.0 b.1 a.1) b.2)

no_comment : (r c : List ℕ) → Uncommented (r ++ (35 ∷ c)) → ⊥
no_comment [] c h = h.0 refl
no_comment (b ∷ r) c h = no_comment r c h.1

pub one_content : (line r t : List ℕ) → Content line r → Content line t → r ≡ t
one_content line r t m n =
    ⊎_elim
    (λ p. ⊎_elim
    (λ q. (one_front (λ b. b ≢ 35) r t (35 ∷ p.0) (35 ∷ q.0) (sym p.1 ∙ q.1) p.2 q.2 (λ h. h refl) (λ h. h refl)).0)
    (λ q. absurd (no_comment r p.0 (subst Uncommented p.1 q.0))) n)
    (λ p. ⊎_elim
    (λ q. absurd (no_comment t q.0 (subst Uncommented q.1 p.0)))
    (λ q. one_end line r t p.1 q.1) n)
    m
