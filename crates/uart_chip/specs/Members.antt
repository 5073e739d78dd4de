-- Proofs of the laws of a set whose events are all of one kind.
use Rattle.std.proofs.Common.{◌≡◌, ◌≢◌, ◌&&◌, ◌||◌, ◌==◌, ℕ, [], ◌∷◌, get_or, Bool, true, false, refl, sym, ap, ◌∙◌, subst}
use Rattle.std.specs.List.{list_any}
use borrow.Author.Tests.{eqb-true}
use Rattle.uart_chip.specs.Events.{among, holds, meet, number_of, those, Within}
use Rattle.uart_chip.specs.declared.event.Event.{Event}
use Rattle.uart_chip.specs.declared.event.Event.TheVariants.{FifoFull, CmdCharDetected, FifoOvf, FifoTout, GlitchDetected, FrameError, ParityError, Done, FiFoEmpty}
use Rattle.uart_chip.specs.declared.events.Events.{Events}

-- sets are equal that hold the same events
pub same_events : (s t : Events) → ((e : Event) → holds s e ≡ holds t e) → s ≡ t
same_events s t h i = record {
  fifo_full = h FifoFull i;
  cmd_char_detected = h CmdCharDetected i;
  fifo_ovf = h FifoOvf i;
  fifo_tout = h FifoTout i;
  glitch_detected = h GlitchDetected i;
  frame_error = h FrameError i;
  parity_error = h ParityError i;
  done = h Done i;
  fifo_empty = h FiFoEmpty i;
}

-- the set of the events of which p is true holds those
pub holds-those : (p : Event → Bool) (e : Event) → holds (those p) e ≡ p e
holds-those p FifoFull = refl
holds-those p CmdCharDetected = refl
holds-those p FifoOvf = refl
holds-those p FifoTout = refl
holds-those p GlitchDetected = refl
holds-those p FrameError = refl
holds-those p ParityError = refl
holds-those p Done = refl
holds-those p FiFoEmpty = refl

second_of : (a b : Bool) → (a && b) ≡ true → b ≡ true
second_of true b h = h
second_of false b h = absurd cc

first_of : (a b : Bool) → b ≡ true → (a && b) ≡ a
first_of true b h = h
first_of false b h = refl

not_so : (a : Bool) → (a ≡ true → ⊥) → a ≡ false
not_so true h = absurd (h refl)
not_so false h = refl

-- the events of a set that are in another are in the other
pub Within-meet : (s every : Events) → Within (meet s every) every
Within-meet s every e h = second_of (holds s e) (holds every e) (sym (holds-those (λ x. holds s x && holds every x) e) ∙ h)

-- law `parts`
pub holds-part : (s every : Events) (e : Event) → holds every e ≡ true → holds (meet s every) e ≡ holds s e
holds-part s every e h = holds-those (λ x. holds s x && holds every x) e ∙ first_of (holds s e) (holds every e) h

-- law `range`
pub none_beyond : {K : Type 0} (event : K → Event) (every : Events) → ((e : Event) → holds every e ≡ true → (k : K) × (event k ≡ e)) →
    (s : Events) → Within s every → (e : Event) → ((k : K) → event k ≢ e) → holds s e ≡ false
none_beyond event every reached s in_kind e h =
    not_so (holds s e) (λ held. let r = reached e (in_kind e held) in h r.0 r.1)

-- law `known`, of the events of two sets
both_or_none : (a b : Bool) → (a ≡ true → b ≡ true) → (b ≡ true → a ≡ true) → a ≡ b
both_or_none true b f g = sym (f refl)
both_or_none false true f g = g refl
both_or_none false false f g = refl

held_too : {K : Type 0} (event : K → Event) (every : Events) → ((e : Event) → holds every e ≡ true → (k : K) × (event k ≡ e)) →
    (s t : Events) → Within s every → ((k : K) → holds s (event k) ≡ holds t (event k)) → (e : Event) → holds s e ≡ true → holds t e ≡ true
held_too event every reached s t in_s same e held =
    let r = reached e (in_s e held) in sym (subst (λ (x : Event). holds s x ≡ holds t x) r.1 (same r.0)) ∙ held

pub same_cases : {K : Type 0} (event : K → Event) (every : Events) → ((e : Event) → holds every e ≡ true → (k : K) × (event k ≡ e)) →
    (s t : Events) → Within s every → Within t every → ((k : K) → holds s (event k) ≡ holds t (event k)) → s ≡ t
same_cases event every reached s t in_s in_t same = same_events s t (λ e.
    both_or_none (holds s e) (holds t e) (held_too event every reached s t in_s same e) (held_too event every reached t s in_t (λ k. sym (same k)) e))

-- what is built of equal values and of proofs of a fact that has only one is equal
pub same_built : {A B : Type 0} {P : A → Type 0} (build : (x : A) → P x → B) → ((x : A) → IsProp (P x)) → (x y : A) (p : P x) (q : P y) → x ≡ y → build x p ≡ build y q
same_built {A} {B} {P} build prop x y p q e = subst (λ (z : A). (r : P z) → build x p ≡ build z r) e (λ r. ap (build x) (prop x p r)) q

-- events are told apart by their numbers
by_number : ℕ → Event
by_number n = get_or (FifoFull ∷ CmdCharDetected ∷ FifoOvf ∷ FifoTout ∷ GlitchDetected ∷ FrameError ∷ ParityError ∷ Done ∷ FiFoEmpty ∷ []) n FifoFull

back : (e : Event) → by_number (number_of e) ≡ e
unfolding by_number
back FifoFull = refl
back CmdCharDetected = refl
back FifoOvf = refl
back FifoTout = refl
back GlitchDetected = refl
back FrameError = refl
back ParityError = refl
back Done = refl
back FiFoEmpty = refl

-- what can be found again from its number is told apart by it
pub told_apart : {X : Type 0} (number : X → ℕ) (found : ℕ → X) → ((x : X) → found (number x) ≡ x) → (x y : X) → number x ≡ number y → x ≡ y
told_apart number found again x y e = sym (again x) ∙ (ap found e ∙ again y)

-- the set of one event holds that event, and is within each set that does
or_false : (b : Bool) → (b || false) ≡ b
or_false true = refl
or_false false = refl

holds-one : (a e : Event) → holds (among (a ∷ [])) e ≡ (number_of a == number_of e)
holds-one a e = holds-those (λ x. list_any (λ y. number_of y == number_of x) (a ∷ [])) e ∙ or_false (number_of a == number_of e)

pub Within-one : (a : Event) (every : Events) → holds every a ≡ true → Within (among (a ∷ [])) every
Within-one a every h e held =
    subst (λ (x : Event). holds every x ≡ true) (told_apart number_of by_number back a e (eqb-true (number_of a) (number_of e) (sym (holds-one a e) ∙ held))) h
