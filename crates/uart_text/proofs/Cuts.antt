-- How the words of a line are cut off it, one by one.
use Rattle.std.proofs.Common.{◌≡◌, ℕ, ◌<◌, ◌≤◌, Bool, true, false, List, [], ◌∷◌, ◌++◌, length, get_or, take, drop, Option, Some, None, MatchOption, Bor, sym, ap, ◌∙◌, subst, ⊎_elim, add-zero, arith, length-drop, take-append-drop}
use Rattle.std.specs.Iterator.{Yields}
use Rattle.std.specs.List.{AllWithin, HoldsAt}
use Rattle.std.specs.Option.{unwrap_or}
use Rattle.std.proofs.lemmas.List.{get_or-drop, length-take-le}
use Rattle.std.proofs.lemmas.Bool.{both_ways, cases_lt}
use Rattle.uart_text.proofs.Fronts.{front}
use Rattle.uart_text.specs.Left.{left, texts, WordOrEnd, WordsOf, no_word, first_word}
use Rattle.uart_text.specs.Words.{blank, AllOf, EndsWord, NextWord}
use Rattle.uart_text.specs.declared.words.Words.{Words}

ends_word : (t : List ℕ) → (0 < length t → blank (get_or t 0 0) ≡ true) → EndsWord t
ends_word [] h = tt
ends_word (b ∷ t) h = h (omega arith)

-- the first n bytes of s are blank or are not, as kind says, and the byte after them is as `other` says
pub record Leading (kind : Bool) (s : List ℕ) (n : ℕ) (other : Bool) : Type 0 where
  pub bound : n ≤ length s
  pub alike : AllOf kind (take n s)
  pub change : n < length s → blank (get_or s n 0) ≡ other

-- the first place of another kind, or the end, is where the bytes at the front end
pub leading : (kind other : Bool) (s : List ℕ) (r : Option ℕ) →
    MatchOption r (AllWithin (λ b. blank b ≡ kind) s 0 (length s)) (λ i. (i < length s) × HoldsAt (λ b. blank b ≡ other) s i × AllWithin (λ b. blank b ≡ kind) s 0 i) →
    Leading kind s (unwrap_or r (length s)) other
leading kind other s None h = record { bound = omega arith; alike = front (λ b. blank b ≡ kind) s (length s) h; change = λ lt. absurd (omega arith) }
leading kind other s (Some i) h = record { bound = omega arith; alike = front (λ b. blank b ≡ kind) s i h.2; change = λ _. h.1 0 }

-- n blanks, and then m other bytes
pub cut : (s t : List ℕ) (n m : ℕ) → Leading true s n false → t ≡ drop n s → 0 < length t → Leading false t m true → (w rest : List ℕ) → w ≡ take m t → rest ≡ drop m t → NextWord s w rest
cut s t n m blanks e pos word w rest is after =
    let first : blank (get_or t 0 0) ≡ false =
    ap (λ l. blank (get_or l 0 0)) e ∙ ap blank (get_or-drop n s 0 0 ∙ ap (λ i. get_or s i 0) (add-zero n)) ∙ blanks.change (omega (arith, ap length e, length-drop n s)) in
    let more : 0 < m =
    ⊎_elim (λ h. h) (λ h. let z : m ≡ 0 = omega arith in absurd (both_ways (blank (get_or t 0 0)) first (subst (λ i. blank (get_or t i 0) ≡ true) z (word.change (omega arith))))) (cases_lt 0 m) in
    record {
      blanks = take n s;
      whole = sym (take-append-drop n s) ∙ ap (λ l. take n s ++ l) (sym e ∙ sym (take-append-drop m t) ∙ (λ i. sym is i ++ sym after i));
      before = blanks.alike;
      some = λ none. omega (arith, ap length (sym is ∙ none), length-take-le m t word.bound);
      inked = subst (AllOf false) (sym is) word.alike;
      stops = subst EndsWord (sym after) (ends_word (drop m t) (λ h. ap blank (get_or-drop m t 0 0 ∙ ap (λ i. get_or t i 0) (add-zero m)) ∙ word.change (omega (arith, length-drop m t))));
    }

-- the words that came one by one, up to the end, are the words of the text
pub words_taken : (s : Words) (ws : List (Bor (List ℕ))) (t u : Words) → Yields (λ v w x. WordOrEnd (left v) w (left x)) s ws t → WordOrEnd (left t) None (left u) → WordsOf (left s) (texts ws)
words_taken s [] t u same end = no_word (subst (λ w. AllOf true (left w)) (sym same) end.0)
words_taken s (w ∷ ws) t u more end = first_word more.1 (words_taken more.0 ws t u more.2 end)
