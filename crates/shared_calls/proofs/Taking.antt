-- What stands next in a list.
use Rattle.std.proofs.Common.{◌≡◌, true, List, [], ◌∷◌, ◌++◌, length, ap, sym, ◌∙◌, subst, arith}
use Rattle.std.proofs.lemmas.List.{append-nil, append_assoc}
use mathlib.Core.List.{IsPrefix}
use Rattle.base.specs.declared.ranges.Limits.{Limits}
use Rattle.kernel_rules.proofs.BatchLaws.{state_after-append}
use Rattle.kernel_rules.specs.Events.{by}
use Rattle.kernel_rules.specs.History.{is_batch}
use Rattle.kernel_rules.specs.Runs.{booted, state_after}
use Rattle.shared_calls.specs.Lists.{calls_in, AreBatches}
use Rattle.shared_calls.specs.Seats.{state_of}
use Rattle.shared_calls.specs.declared.rules.Made.{Made}
use Rattle.shared_calls.proofs.Marks.{all_last, all_prefix}
use Rattle.shared_calls.proofs.Prefixes.{prefix_shorter, prefix_trans, prefix_whole}

-- a list that has one batch more than a beginning of the same list, after as many, has that batch after it
pub stands_next : (seen before all both : List Made) (m : Made) → all ≡ before ++ m ∷ [] → length before ≡ length seen
    → IsPrefix seen both → IsPrefix all both → all ≡ seen ++ m ∷ []
stands_next seen before all both m is len p q =
    let here : IsPrefix before both = prefix_trans before all both (m ∷ [], sym is) q in
    let short : IsPrefix seen before = prefix_shorter seen before both p here (omega arith) in
    let same : seen ≡ before = prefix_whole seen before short (omega arith) in
    is ∙ ap (λ l. l ++ m ∷ []) (sym same)

-- the last batch of a beginning of a list of batches is one
pub last_batch : (before all both : List Made) (m : Made) → all ≡ before ++ m ∷ [] → IsPrefix all both → AreBatches both → is_batch m.calls ≡ true
last_batch before all both m is p sized =
    all_last (λ x. is_batch x.calls ≡ true) before m (subst (λ (l : List Made). AreBatches l) is (all_prefix (λ x. is_batch x.calls ≡ true) all both p sized))

calls_in-snoc : (batches : List Made) (m : Made) → calls_in (batches ++ m ∷ []) ≡ calls_in batches ++ by m.thread m.calls
calls_in-snoc [] m = append-nil (by m.thread m.calls)
calls_in-snoc (x ∷ xs) m =
    ap (λ l. by x.thread x.calls ++ l) (calls_in-snoc xs m)
    ∙ sym (append_assoc (by x.thread x.calls) (calls_in xs) (by m.thread m.calls))

-- one batch more leads to the state after its calls
pub state_more : (limits : Limits) (batches : List Made) (m : Made)
    → state_of limits (batches ++ m ∷ []) ≡ state_after (state_of limits batches) (by m.thread m.calls)
state_more limits batches m =
    ap (state_after (booted limits)) (calls_in-snoc batches m)
    ∙ state_after-append (booted limits) (calls_in batches) (by m.thread m.calls)
