-- The events of batches are legal, and lead to the state of their calls.
use Rattle.std.proofs.Common.{◌≡◌, ℕ, ◌+◌, ◌-◌, ◌<◌, ◌≤◌, ◌==◌, ◌&&◌, nat_le, min, Bool, true, false, cond, length, take, drop, Option, Some, List, [], ◌∷◌, ◌++◌, refl, sym, ap, ◌∙◌, subst, arith, append_assoc, length-append, nat_cmp}
use mathlib.Core.List.{IsPrefix}
use Rattle.std.specs.BTreeMap.{get}
use Rattle.std.specs.Option.{unwrap_or}
use Rattle.std.proofs.Math.Seq.{drop-append_seam}
use Rattle.std.proofs.lemmas.Bool.{eqb-true}
use Rattle.std.proofs.lemmas.List.{append-nil, take_all, take_at, drop-append-le}
use Rattle.kernel_rules.specs.Runs.{state_after}
use Rattle.kernel_rules.specs.State.{State}
use Rattle.kernel_rules.specs.Events.{Event, by}
use Rattle.kernel_rules.specs.History.{answered, count, is_batch, state_from, IsLegalFrom}
use Rattle.kernel_rules.proofs.BatchLaws.{answered_calls, answered_length}
use Rattle.kernel_rules.proofs.HistoryLaws.{legal-snoc_from, state_from-snoc, count-snoc}
use Rattle.syscall_core.specs.Kernel.{kernel_state}
use Rattle.shared_calls.specs.Events.{event_after, events_after, events_from, start_at, IsJournal}
use Rattle.shared_calls.specs.declared.journals.Journal.{Journal}
use Rattle.shared_calls.specs.declared.rules.Made.{Made}

-- one batch more is one event more
events_more : (s : State) (events : List Event) (batches : List Made) (m : Made)
    → events_after s events (batches ++ m ∷ []) ≡ events_after s events batches ++ event_after s (events_after s events batches) m ∷ []
events_more s events [] m = refl
events_more s events (x ∷ xs) m = events_more s (events ++ event_after s events x ∷ []) xs m

-- which is legal
legal_more : (s : State) (events : List Event) (m : Made) → IsLegalFrom (start_at s) events → is_batch m.calls ≡ true
    → IsLegalFrom (start_at s) (events ++ event_after s events m ∷ [])
legal_more s events m legal size =
    legal-snoc_from (start_at s) events (event_after s events m) legal
    (record {
      size = ap (λ n. nat_le 1 n && nat_le n 16) (answered_length (state_from s events) m.thread m.calls) ∙ size;
      number = refl;
      replies = ap (answered (state_from s events) m.thread) (sym (answered_calls (state_from s events) m.thread m.calls));
    })

-- and leads to the state after its calls
state_event : (s : State) (events : List Event) (m : Made)
    → state_from s (events ++ event_after s events m ∷ []) ≡ state_after (state_from s events) (by m.thread m.calls)
state_event s events m =
    state_from-snoc s events (event_after s events m)
    ∙ ap (λ cs. state_after (state_from s events) (by m.thread cs)) (answered_calls (state_from s events) m.thread m.calls)

-- and is one more of its thread
counted_more : (events : List Event) (e : Event) (old new : Option ℕ) (t : ℕ) → new ≡ cond (e.thread == t) (Some e.number) old
    → e.number ≡ count e.thread events + 1 → unwrap_or old 0 ≡ count t events → unwrap_or new 0 ≡ count t (events ++ e ∷ [])
counted_more events e old new t is number before =
    ap (λ (o : Option ℕ). unwrap_or o 0) is ∙ at (e.thread == t) refl ∙ sym (count-snoc t events e)
  where
    at : (b : Bool) → (e.thread == t) ≡ b → unwrap_or (cond b (Some e.number) old) 0 ≡ count t events + cond b 1 0
    at true on = number ∙ ap (λ (k : ℕ). count k events + 1) (eqb-true e.thread t on)
    at false off = before ∙ omega arith

-- one batch more of a journal
pub journal_more : (s : State) (batches longer : List Made) (m : Made) (e : Event) (before after : Journal)
    → IsJournal s batches before → longer ≡ batches ++ m ∷ [] → is_batch m.calls ≡ true
    → e.thread ≡ m.thread → e.number ≡ unwrap_or (get nat_cmp before.counts m.thread) 0 + 1
    → e.calls ≡ answered (kernel_state before.kernel) m.thread m.calls
    → kernel_state after.kernel ≡ state_after (kernel_state before.kernel) (by m.thread m.calls)
    → ((t : ℕ) → get nat_cmp after.counts t ≡ cond (m.thread == t) (Some e.number) (get nat_cmp before.counts t))
    → IsJournal s longer after × (events_from s longer ≡ events_from s batches ++ e ∷ [])
journal_more s batches longer m e before after known more size thread number calls step counted =
    let events : List Event = events_from s batches in
    let next : Event = event_after s events m in
    let is_next : e.number ≡ count m.thread events + 1 = number ∙ ap (λ (n : ℕ). n + 1) (known.counts m.thread) in
    let are : e.calls ≡ answered (state_from s events) m.thread m.calls = calls ∙ ap (λ z. answered z m.thread m.calls) known.state in
    let same : e ≡ next = λ i. record { thread = thread i; number = is_next i; calls = are i } in
    let grown : events_from s longer ≡ events ++ next ∷ [] = ap (events_from s) more ∙ events_more s [] batches m in (
      record {
        legal = subst (λ (l : List Event). IsLegalFrom (start_at s) l) (sym grown) (legal_more s events m known.legal size);
        state = step ∙ (ap (λ z. state_after z (by m.thread m.calls)) known.state ∙ (sym (state_event s events m) ∙ ap (state_from s) (sym grown)));
        counts = λ t.
            counted_more events next (get nat_cmp before.counts t) (get nat_cmp after.counts t) t
            (counted t ∙ ap (λ (n : ℕ). cond (m.thread == t) (Some n) (get nat_cmp before.counts t)) is_next) refl (known.counts t)
            ∙ ap (count t) (sym grown);
      },
      grown ∙ ap (λ (x : Event). events ++ x ∷ []) (sym same),
    )

-- so many events as batches
events_length_after : (s : State) (events : List Event) (ms : List Made) → length (events_after s events ms) ≡ length events + length ms
events_length_after s events [] = omega arith
events_length_after s events (m ∷ ms) =
    events_length_after s (events ++ event_after s events m ∷ []) ms
    ∙ ap (λ (n : ℕ). n + length ms) (length-append events (event_after s events m ∷ [])) ∙ omega arith

pub events_length : (s : State) (ms : List Made) → length (events_from s ms) ≡ length ms
events_length s ms = events_length_after s [] ms ∙ omega arith

-- later batches have later events
events_grow : (s : State) (events : List Event) (ms : List Made) → (rest : List Event) × (events_after s events ms ≡ events ++ rest)
events_grow s events [] = ([], sym (append-nil events))
events_grow s events (m ∷ ms) =
    let e : Event = event_after s events m in
    let later = events_grow s (events ++ e ∷ []) ms in
    (e ∷ later.0, later.1 ∙ append_assoc events (e ∷ []) later.0)

after_append : (s : State) (events : List Event) (xs ys : List Made) → events_after s events (xs ++ ys) ≡ events_after s (events_after s events xs) ys
after_append s events [] ys = refl
after_append s events (x ∷ xs) ys = after_append s (events ++ event_after s events x ∷ []) xs ys

prefix_events : (s : State) (xs ys : List Made) → IsPrefix xs ys → (rest : List Event) × (events_from s ys ≡ events_from s xs ++ rest)
prefix_events s xs ys p =
    let later = events_grow s (events_from s xs) p.0 in
    (later.0, ap (events_from s) (sym p.1) ∙ after_append s [] xs p.0 ∙ later.1)

cut_off : (es rest : List Event) → length es ≤ 64 → (0 < length rest → length es ≡ 64) → take 64 (es ++ rest) ≡ es
cut_off es [] few full = ap (λ (l : List Event). take 64 l) (append-nil es) ∙ take_all 64 es few
cut_off es (r ∷ rs) few full = take_at es (r ∷ rs) 64 (full (omega arith))

-- the events of up to 64 batches after so many
pub some_events : (s : State) (old new end : List Made) (es : List Event) (from : ℕ)
    → events_from s new ≡ events_from s old ++ es → IsPrefix new end → length old ≡ from
    → length new ≡ from + min (length end - from) 64
    → es ≡ take 64 (drop from (events_from s end))
some_events s old new end es from more p at to =
    let later = prefix_events s new end p in
    let rest = later.0 in
    let whole : events_from s end ≡ events_from s old ++ (es ++ rest) =
    later.1 ∙ ap (λ (l : List Event). l ++ rest) more ∙ append_assoc (events_from s old) es rest in
    let before : length (events_from s old) ≡ from = events_length s old ∙ at in
    let here : length (events_from s old) + length es ≡ length new =
    sym (length-append (events_from s old) es) ∙ ap length (sym more) ∙ events_length s new in
    let all : length (events_from s new) + length rest ≡ length end =
    sym (length-append (events_from s new) rest) ∙ ap length (sym later.1) ∙ events_length s end in
    let far : length (events_from s new) ≡ length new = events_length s new in
    sym (ap (λ (l : List Event). take 64 (drop from l)) whole
    ∙ ap (λ (n : ℕ). take 64 (drop n (events_from s old ++ (es ++ rest)))) (sym before)
    ∙ ap (λ (l : List Event). take 64 l) (drop-append_seam (events_from s old) (es ++ rest))
    ∙ cut_off es rest (omega (arith, before, here, to)) (λ some. omega (arith, some, before, here, all, far, to)))

-- a beginning of a list without the first so many is a beginning of the list without them
pub prefix_drop : (n : ℕ) (xs ys : List Made) → n ≤ length xs → IsPrefix xs ys → IsPrefix (drop n xs) (drop n ys)
prefix_drop n xs ys less p = (p.0, sym (drop-append-le n xs p.0 less) ∙ ap (λ (l : List Made). drop n l) p.1)
