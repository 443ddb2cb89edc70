-- Laws of events that are replayed.
use Rattle.std.proofs.Common.{◌≡◌, ℕ, ◌+◌, ◌<◌, true, ◌&&◌, nat_le, List, [], ◌∷◌, ◌++◌, length, take, get_or}
use Rattle.std.proofs.Common.{refl, sym, ap, ◌∙◌, subst, add-one}
use Rattle.std.proofs.Math.Seq.{take-suc}
use Rattle.std.specs.List.{AllByRecursion}
use Rattle.std.proofs.lemmas.List.{append_assoc, append-nil, length-map}
use Rattle.kernel_rules.specs.History.{Start, answered, state_from, is_batch, FollowsFrom, IsLegalFrom}
use Rattle.kernel_rules.proofs.BatchLaws.{answered_calls, answered_length}
use Rattle.kernel_rules.proofs.HistoryLaws.{legal_none_from, legal-snoc_from}
use Rattle.kernel_rules.specs.Events.{Event, calls_in}
use Rattle.kernel_rules.specs.declared.histories.events.Answered.{Answered}
use Rattle.auditor.specs.Replay.{true_event, replayed_after, replayed}

-- one event more is replayed after the others
pub replayed-snoc : (start : Start) (before es : List Event) (e : Event)
    → replayed_after start before (es ++ e ∷ [])
    ≡ replayed_after start before es ++ true_event start (replayed_after start before es) e ∷ []
replayed-snoc start before [] e = refl
replayed-snoc start before (x ∷ xs) e =
    replayed-snoc start (before ++ true_event start before x ∷ []) xs e

-- each event has 1 to 16 calls
abbrev pub AreBatches : List Event → Type 0
AreBatches events = AllByRecursion (λ (e : Event). is_batch e.calls ≡ true) events

-- an event of 1 to 16 calls with its true number and replies follows
true_follows : (start : Start) (before : List Event) (e : Event) → is_batch e.calls ≡ true
    → FollowsFrom start before (true_event start before e)
true_follows start before e size =
    let state = state_from start.state before in
    record {
      size = ap (λ n. nat_le 1 n && nat_le n 16)
          (answered_length state e.thread (calls_in e) ∙ length-map e.calls (λ (a : Answered). a.call)) ∙ size;
      number = refl;
      replies = ap (answered state e.thread) (sym (answered_calls state e.thread (calls_in e)));
    }

legal_after : (start : Start) (before es : List Event) → AreBatches es → IsLegalFrom start before
    → IsLegalFrom start (replayed_after start before es)
legal_after start before [] all legal = legal
legal_after start before (e ∷ es) all legal =
    legal_after start (before ++ true_event start before e ∷ []) es all.1
    (legal-snoc_from start before (true_event start before e) legal (true_follows start before e all.0))

-- replayed events are legal
pub replayed_legal : (start : Start) (es : List Event) → AreBatches es → IsLegalFrom start (replayed start es)
replayed_legal start es all = legal_after start [] es all (legal_none_from start [] refl)

-- an event that follows has its true number and reply
follows_true : (start : Start) (before : List Event) (e : Event) → FollowsFrom start before e
    → true_event start before e ≡ e
follows_true start before e f = λ i. record {
  thread = e.thread;
  number = sym f.number i;
  calls = sym f.replies i;
}

same_after : (start : Start) (before es : List Event) → IsLegalFrom start (before ++ es)
    → replayed_after start before es ≡ before ++ es
same_after start before [] legal = sym (append-nil before)
same_after start before (e ∷ es) legal =
    ap (λ (x : Event). replayed_after start (before ++ x ∷ []) es)
    (follows_true start before e (legal before es e refl))
    ∙ (same_after start (before ++ e ∷ []) es
    (subst (λ (l : List Event). IsLegalFrom start l) (sym (append_assoc before (e ∷ []) es)) legal)
    ∙ append_assoc before (e ∷ []) es)

-- legal events are what they are replayed as
pub replayed_same : (start : Start) (es : List Event) → IsLegalFrom start es → replayed start es ≡ es
replayed_same start es legal = same_after start [] es legal

-- one event more of a list is taken again
pub replayed_more : (start : Start) (events : List Event) (i : ℕ) (x : Event) (old new : List Event)
    → old ≡ replayed start (take i events) → new ≡ old ++ true_event start old x ∷ []
    → i < length events → x ≡ get_or events i x → new ≡ replayed start (take (i + 1) events)
replayed_more start events i x old new old_is new_is less at =
    let more : take (i + 1) events ≡ take i events ++ x ∷ [] =
    rw (add-one i) (take-suc events i x less ∙ ap (λ e. take i events ++ e ∷ []) (sym at)) in
    new_is ∙ (λ k. old_is k ++ true_event start (old_is k) x ∷ [])
    ∙ sym (replayed-snoc start [] (take i events) x) ∙ ap (replayed start) (sym more)
