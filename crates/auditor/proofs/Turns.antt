-- The steps of events and of the reads among them, one event after another.
use Rattle.std.proofs.Common.{◌≡◌, ℕ, ◌+◌, ◌<◌, ◌≤◌, List, ◌++◌, map, length, drop, get_or, ap, ◌∙◌, sym, append_assoc}
use Rattle.kernel_rules.specs.Events.{Event}
use Rattle.dump_text.specs.Reads.{reads_at, reads_past, in_turn}
use Rattle.dump_text.specs.declared.tables.PlacedRead.{PlacedRead}
use Rattle.dump_text.proofs.Placing.{next_turn, last_turn}
use Rattle.flow_rules.specs.declared.steps.Step.{Step}
use Rattle.auditor.specs.Steps.{event_steps, read_step}

-- after the reads at a place and the event after them
pub steps_more : (place : ℕ) (events : List Event) (e : Event) (rest here past : List PlacedRead) (out one two all : List (ℕ × Step))
    → place < length events → e ≡ get_or events place e → here ≡ reads_at place rest → past ≡ reads_past place rest
    → one ≡ out ++ map read_step here → two ≡ one ++ event_steps e
    → out ++ in_turn event_steps read_step place (drop place events) rest ≡ all
    → two ++ in_turn event_steps read_step (place + 1) (drop (place + 1) events) past ≡ all
steps_more place events e rest here past out one two all less is here_is past_is one_is two_is at =
    let reads = map read_step (reads_at place rest) in
    let later = in_turn event_steps read_step (place + 1) (drop (place + 1) events) (reads_past place rest) in
    (λ i. two_is i ++ in_turn event_steps read_step (place + 1) (drop (place + 1) events) (past_is i))
    ∙ (λ i. (one_is i ++ event_steps e) ++ later)
    ∙ (λ i. ((out ++ map read_step (here_is i)) ++ event_steps e) ++ later)
    ∙ append_assoc (out ++ reads) (event_steps e) later ∙ append_assoc out reads (event_steps e ++ later)
    ∙ ap (λ (l : List (ℕ × Step)). out ++ l) (sym (next_turn event_steps read_step place events e rest less is)) ∙ at

-- after the last reads
pub steps_end : (place last : ℕ) (events : List Event) (rest here : List PlacedRead) (out one all : List (ℕ × Step))
    → length events ≤ place → last ≡ place → here ≡ reads_at last rest → one ≡ out ++ map read_step here
    → out ++ in_turn event_steps read_step place (drop place events) rest ≡ all → one ≡ all
steps_end place last events rest here out one all le same here_is one_is at =
    one_is ∙ (λ i. out ++ map read_step ((here_is ∙ ap (λ (n : ℕ). reads_at n rest) same) i))
    ∙ ap (λ (l : List (ℕ × Step)). out ++ l) (sym (last_turn event_steps read_step place events rest le)) ∙ at
