-- A kernel makes the calls of a batch, one after another.
use Rattle.std.proofs.Common.{◌≡◌, ℕ, ◌+◌, ◌<◌, length, take, get_or, List, [], ◌∷◌, ◌++◌, sym, ap, ◌∙◌, add-one}
use Rattle.std.proofs.Math.Seq.{take-suc}
use Rattle.std.proofs.lemmas.List.{append_assoc}
use Rattle.kernel_rules.specs.State.{State}
use Rattle.kernel_rules.specs.Step.{answer, next}
use Rattle.kernel_rules.specs.Runs.{state_after}
use Rattle.kernel_rules.specs.declared.calls.Call.{Call}
use Rattle.kernel_rules.specs.Events.{by, told}
use Rattle.kernel_rules.specs.declared.histories.events.Answered.{Answered}
use Rattle.kernel_rules.specs.History.{answered}
use Rattle.kernel_rules.proofs.BatchLaws.{answered-snoc, by-snoc, state_after-snoc}

taken : (t : ℕ) (calls : List Call) (i : ℕ) (c : Call) → i < length calls → c ≡ get_or calls i c
    → take (i + 1) calls ≡ take i calls ++ c ∷ []
taken t calls i c less at = rw (add-one i) (take-suc calls i c less ∙ ap (λ x. take i calls ++ x ∷ []) (sym at))

-- i calls of a thread were made from a state, and one call more is
pub played_more : (old now then : State) (t : ℕ) (calls : List Call) (i : ℕ) (c : Call)
    → now ≡ state_after old (by t (take i calls)) → i < length calls → c ≡ get_or calls i c → then ≡ next now t c
    → then ≡ state_after old (by t (take (i + 1) calls))
played_more old now then t calls i c is less at step =
    let more : by t (take (i + 1) calls) ≡ by t (take i calls) ++ (t, c) ∷ [] = ap (by t) (taken t calls i c less at) ∙ by-snoc t (take i calls) c in
    step ∙ (ap (λ s. next s t c) is ∙ (sym (state_after-snoc old (by t (take i calls)) (t, c)) ∙ ap (state_after old) (sym more)))

-- and they are put at the end with their answers
pub answered_more : (old now : State) (t : ℕ) (calls : List Call) (i : ℕ) (c : Call) (first all then : List Answered)
    → now ≡ state_after old (by t (take i calls)) → all ≡ first ++ answered old t (take i calls) → i < length calls → c ≡ get_or calls i c
    → then ≡ all ++ answered now t (c ∷ []) → then ≡ first ++ answered old t (take (i + 1) calls)
answered_more old now t calls i c first all then is so less at put =
    let one : answered now t (c ∷ []) ≡ told c (answer (state_after old (by t (take i calls))) t c) ∷ [] = ap (λ s. told c (answer s t c) ∷ []) is in
    let more : answered old t (take (i + 1) calls) ≡ answered old t (take i calls) ++ told c (answer (state_after old (by t (take i calls))) t c) ∷ [] =
    ap (answered old t) (taken t calls i c less at) ∙ answered-snoc old t (take i calls) c in
    put ∙ ((λ k. so k ++ one k) ∙ (append_assoc first (answered old t (take i calls)) _ ∙ ap (λ l. first ++ l) (sym more)))
