-- Runs of calls, one call after another.
use Rattle.std.proofs.Common.{◌≡◌, ℕ, ◌+◌, ◌<◌, ◌≤◌, List, [], ◌∷◌, ◌++◌, length, take}
use Rattle.std.proofs.Common.{get_or, refl, sym, ◌∙◌, ap, add-one, length-append}
use Rattle.std.proofs.Math.Seq.{take-suc}
use Rattle.kernel_rules.specs.State.{State}
use Rattle.kernel_rules.specs.Step.{answer, next}
use Rattle.kernel_rules.specs.Runs.{state_after, replies_to}
use Rattle.kernel_rules.specs.declared.calls.Call.{Call}
use Rattle.kernel_rules.specs.declared.replies.Reply.{Reply}

-- i calls of a list were made from a state, with these replies, and room for those to the rest
pub record IsRunSoFar (old now : State) (calls : List (ℕ × Call)) (i : ℕ) (replies : List Reply)
    (capacity : ℕ) : Type 0 where
  pub state : now ≡ state_after old (take i calls)
  pub told : replies ≡ replies_to old (take i calls)
  pub count : length replies ≡ i
  pub room : length calls ≤ capacity

pub state_after-append : (s : State) (xs : List (ℕ × Call)) (c : ℕ × Call)
    → state_after s (xs ++ c ∷ []) ≡ next (state_after s xs) c.0 c.1
state_after-append s [] c = refl
state_after-append s (x ∷ xs) c = state_after-append (next s x.0 x.1) xs c

pub replies_to-append : (s : State) (xs : List (ℕ × Call)) (c : ℕ × Call)
    → replies_to s (xs ++ c ∷ []) ≡ replies_to s xs ++ answer (state_after s xs) c.0 c.1 ∷ []
replies_to-append s [] c = refl
replies_to-append s (x ∷ xs) c = ap (λ rs. answer s x.0 x.1 ∷ rs) (replies_to-append (next s x.0 x.1) xs c)

-- one more call
pub one_more : (old now then : State) (calls : List (ℕ × Call)) (i : ℕ) (replies : List Reply) (room : ℕ)
    (c : ℕ × Call) (r : Reply)
    → IsRunSoFar old now calls i replies room → i < length calls → c ≡ get_or calls i c
    → r ≡ answer now c.0 c.1 → then ≡ next now c.0 c.1
    → IsRunSoFar old then calls (i + 1) (replies ++ r ∷ []) room
one_more old now then calls i replies room c r h less at reply state =
    let more : take (i + 1) calls ≡ take i calls ++ c ∷ [] =
    rw (add-one i) (take-suc calls i c less ∙ ap (λ x. take i calls ++ x ∷ []) (sym at)) in
    record {
      state = state ∙ ap (λ s. next s c.0 c.1) h.state ∙ sym (state_after-append old (take i calls) c)
          ∙ ap (state_after old) (sym more);
      told = (λ k. h.told k ++ (reply ∙ ap (λ s. answer s c.0 c.1) h.state) k ∷ [])
          ∙ sym (replies_to-append old (take i calls) c) ∙ ap (replies_to old) (sym more);
      count = length-append replies (r ∷ []) ∙ ap (λ n. n + 1) h.count;
      room = h.room;
    }
