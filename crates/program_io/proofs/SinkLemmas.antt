-- Writes one after another.
use Rattle.std.proofs.Common.{◌≡◌, ℕ, ◌+◌, ◌-◌, List, ◌++◌, Option, inl, inr, arith, subst, sym, ap, ◌∙◌, take, drop, length}
use Rattle.std.proofs.KnownBytes.{Appends-trans}
use Rattle.std.proofs.Math.Seq.{take-add}
use Rattle.std.proofs.lemmas.List.{take_rest}
use Rattle.std.specs.Io.KnownBytes.{Appends}
use Rattle.program_io.specs.Sinks.{HasRisen, HasRisenOrStays}

-- a beginning of a text, and then a beginning of the rest
pub written_on : (a b c : Option (List ℕ)) (text : List ℕ) (m n : ℕ) → Appends a b (take m text)
    → Appends b c (take n (take (length text - m) (drop m text))) → Appends a c (take (m + n) text)
written_on a b c text m n first more =
    let joined : take m text ++ take n (take (length text - m) (drop m text)) ≡ take (m + n) text =
    ap (λ l. take m text ++ take n l) (take_rest text m) ∙ sym (take-add m n text) in
    subst (Appends a c) joined (Appends-trans a b c _ _ first more)

pub risen_after : (old mid new : ℕ) → HasRisenOrStays old mid → HasRisen mid new → HasRisen old new
risen_after old mid new (inl same) risen = subst (λ n. HasRisen n new) same risen
risen_after old mid new (inr rose) (bound, inr spent) = (bound, inr spent)
risen_after old mid new (inr (most, inl rose)) (bound, inl more) = (bound, inl (omega (arith, rose, more)))
risen_after old mid new (inr (most, inr full)) (bound, inl more) = absurd (omega (arith, full, bound, more))

pub stays_after : (old mid new : ℕ) → HasRisenOrStays old mid → HasRisenOrStays mid new → HasRisenOrStays old new
stays_after old mid new before (inl same) = subst (HasRisenOrStays old) (sym same) before
stays_after old mid new before (inr risen) = inr (risen_after old mid new before risen)
