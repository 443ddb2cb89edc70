-- What a checkpoint has no place for, and objects that have none of it.
use Rattle.std.proofs.Common.{◌≡◌, ℕ, ◌&&◌, ◌==◌, true, false, not, List, [], ◌∷◌, length, replicate, refl, sym, ◌∙◌, ap}
use Rattle.std.specs.List.{list_all}
use Rattle.std.proofs.lemmas.Bool.{and_parts, and_from, eqb-true, not-true}
use Rattle.kernel_rules.specs.Sizes.{most_bytes}
use Rattle.kernel_rules.specs.State.{State}
use Rattle.kernel_rules.specs.WellFormed.{is_well_formed, is_kept, is_stored, is_whole_body}
use Rattle.kernel_rules.specs.declared.objects.Body.TheVariants as is
use Rattle.kernel_rules.specs.declared.objects.Object.{Object}
use Rattle.kernel_rules.specs.declared.objects.Thread.{Thread}
use Rattle.kernel_rules.proofs.ListerLaws.{kept_parts}
use Rattle.kernel_rules.proofs.WellFormedLaws.{soundness_of}
use Rattle.checkpoints.specs.Reached.{is_plain}

zeros : (bytes : List ℕ) → list_all (λ b. b == 0) bytes ≡ true → replicate (length bytes) 0 ≡ bytes
zeros [] h = refl
zeros (b ∷ bs) h =
    let p = and_parts (b == 0) (list_all (λ b. b == 0) bs) h in
    let first : 0 ≡ b = sym (eqb-true b 0 p.0) in
    let rest : replicate (length bs) 0 ≡ bs = zeros bs p.1 in
    λ i. first i ∷ rest i

-- a thread is not read-only for good, and its metadata are zeros
pub plain_thread : (x : Object) (t : Thread) → x.body ≡ is.Thread t → is_plain x ≡ true → length x.metadata ≡ most_bytes
    → (false ≡ x.immutable) × (replicate most_bytes 0 ≡ x.metadata)
plain_thread x t body h many =
    let p = and_parts (not x.immutable) (list_all (λ b. b == 0) x.metadata)
    (ap (λ b. is_plain (record x { body = b })) (sym body) ∙ h) in (
      sym (not-true x.immutable p.0),
      ap (λ n. replicate n 0) (sym many) ∙ zeros x.metadata p.1,
    )

noted_from : (s : State) (es : List (ℕ × Object)) → list_all (λ (e : ℕ × Object). is_kept s e.0 e.1) es ≡ true
    → list_all (λ (e : ℕ × Object). length e.1.metadata == most_bytes) es ≡ true
noted_from s [] h = refl
noted_from s (e ∷ es) h =
    let p = and_parts (is_kept s e.0 e.1) (list_all (λ (e : ℕ × Object). is_kept s e.0 e.1) es) h in
    let whole = and_parts (is_stored e.1.label && length e.1.metadata == most_bytes) (is_whole_body e.1.body)
    (kept_parts s e.0 e.1 p.0).whole in
    and_from (length e.1.metadata == most_bytes) _
    (and_parts (is_stored e.1.label) (length e.1.metadata == most_bytes) whole.0).1 (noted_from s es p.1)

-- each object of a well-formed state has all bytes of its metadata
pub all_noted : (s : State) → is_well_formed s ≡ true
    → list_all (λ (e : ℕ × Object). length e.1.metadata == most_bytes) s.objects ≡ true
all_noted s wf = noted_from s s.objects (soundness_of s wf).kept
