-- Histories from later on.
use Rattle.std.proofs.Common.{◌≡◌, ℕ, ◌+◌, List, [], ◌∷◌, ◌++◌, refl, sym, ap, ◌∙◌, arith}
use Rattle.std.proofs.lemmas.List.{append_assoc}
use Rattle.kernel_rules.specs.Runs.{state_after}
use Rattle.kernel_rules.specs.State.{State}
use Rattle.kernel_rules.specs.Events.{Event, by, calls_in}
use Rattle.kernel_rules.specs.History.{answered, calls_of, count, later, state_from, Start, FollowsFrom, IsLegalFrom}
use Rattle.kernel_rules.proofs.BatchLaws.{state_after-append}
use Rattle.kernel_rules.proofs.HistoryLaws.{count-append}

calls_of-append : (xs ys : List Event) → calls_of (xs ++ ys) ≡ calls_of xs ++ calls_of ys
calls_of-append [] ys = refl
calls_of-append (x ∷ xs) ys =
    ap (λ l. by x.thread (calls_in x) ++ l) (calls_of-append xs ys)
    ∙ sym (append_assoc (by x.thread (calls_in x)) (calls_of xs) (calls_of ys))

-- the state after two lists of events is that after the second, from the state after the first
pub state_from-append : (s : State) (xs ys : List Event) → state_from s (xs ++ ys) ≡ state_from (state_from s xs) ys
state_from-append s xs ys = ap (state_after s) (calls_of-append xs ys) ∙ state_after-append s (calls_of xs) (calls_of ys)

-- what comes after some events of a legal history is legal from there
pub legal_later : (start : Start) (xs ys : List Event) → IsLegalFrom start (xs ++ ys) → IsLegalFrom (later start xs) ys
legal_later start xs ys legal before after e is =
    let whole : xs ++ ys ≡ (xs ++ before) ++ e ∷ after = ap (λ l. xs ++ l) is ∙ sym (append_assoc xs before (e ∷ after)) in
    let f : FollowsFrom start (xs ++ before) e = legal (xs ++ before) after e whole in
    let counts : count e.thread (xs ++ before) ≡ count e.thread xs + count e.thread before = count-append e.thread xs before in
    record {
      size = f.size;
      number = omega (arith, f.number, counts);
      replies = f.replies ∙ ap (λ s. answered s e.thread (calls_in e)) (state_from-append start.state xs before);
    }
