-- The steps of events and of the reads among them, one after another.
use Rattle.std.proofs.Common.{◌≡◌, ℕ, ◌+◌, ◌<◌, ◌≤◌, List, [], ◌∷◌, ◌++◌, length, map, drop, get_or, slice_index_or, refl, ap, sym, ◌∙◌, suc, arith}
use Rattle.std.proofs.lemmas.List.{append_assoc, drop-drop, map-append}
use Rattle.call_text.specs.declared.known_names.Named.{Named}
use Rattle.dump_text.specs.Reads.{reads_at, reads_past, in_turn}
use Rattle.dump_text.specs.declared.tables.PlacedRead.{PlacedRead}
use Rattle.dump_text.proofs.Placing.{next_turn, last_turn}
use Rattle.kernel_rules.specs.Events.{Event}
use Rattle.shown_dumps.proofs.ValueLaws.{one_more}
use Rattle.kernel_rules.specs.State.{State}
use Rattle.page_text.specs.Steps.{Turn, Made, Asked, made, Step, line_count, event_after, step_of, steps_from, step_data}
use Rattle.serde_json.specs.Data.{Data}
use Rattle.serde_json.specs.View.{view}
use Rattle.serde_json.specs.declared.value.Value.{Value}
use Rattle.shown_dumps.proofs.CallLaws.{drop_item}

-- one read more
pub asked_more : (names : List Named) (reached : List ℕ) (values new : List Value) (v : Value) (lines more : List (List ℕ)) (s : State)
    (xs : List PlacedRead) (i : ℕ) (r : PlacedRead) (whole : List Data) → i < length xs → r ≡ slice_index_or xs i r
    → new ≡ values ++ v ∷ [] → view v ≡ step_data names reached (step_of names lines s (Asked r)) → more ≡ drop 1 lines
    → map view values ++ map (step_data names reached) (steps_from names lines s (map Asked (drop i xs))) ≡ whole
    → map view new ++ map (step_data names reached) (steps_from names more s (map Asked (drop (i + 1) xs))) ≡ whole
asked_more names reached values new v lines more s xs i r whole within is pushed told left all =
    ap (λ l. map view new ++ map (step_data names reached) (steps_from names l s (map Asked (drop (i + 1) xs)))) left
    ∙ one_more values new v (step_data names reached (step_of names lines s (Asked r)))
    (map (step_data names reached) (steps_from names (drop 1 lines) s (map Asked (drop (i + 1) xs)))) whole pushed told
    (ap (λ (l : List PlacedRead). map view values ++ map (step_data names reached) (steps_from names lines s (map Asked l)))
    (sym (drop_item xs i r within is))
    ∙ all)

-- each read has one line
after_one : (n : ℕ) (lines : List (List ℕ)) → drop n (drop 1 lines) ≡ drop (suc n) lines
after_one n lines = let e : 1 + n ≡ suc n = omega arith in drop-drop n 1 lines ∙ ap (λ m. drop m lines) e

-- what comes after reads
after_reads : (names : List Named) (xs : List PlacedRead) (more : List Turn) (lines : List (List ℕ)) (s : State)
    → steps_from names lines s (map Asked xs ++ more) ≡ steps_from names lines s (map Asked xs) ++ steps_from names (drop (length xs) lines) s more
after_reads names [] more lines s = refl
after_reads names (x ∷ xs) more lines s =
    ap (λ (l : List Step). step_of names lines s (Asked x) ∷ l)
    (after_reads names xs more (drop 1 lines) s
    ∙ ap (λ l. steps_from names (drop 1 lines) s (map Asked xs) ++ steps_from names l s more) (after_one (length xs) lines))

-- after the reads at a place and the event after them
pub steps_more : (names : List Named) (reached : List ℕ) (place : ℕ) (events : List Event) (e : Event) (rest here past : List PlacedRead)
    (lines own later : List (List ℕ)) (s n : State) (out one two all : List Data) → place < length events
    → e ≡ get_or events place e → here ≡ reads_at place rest → past ≡ reads_past place rest → own ≡ drop (length here) lines
    → later ≡ drop (line_count (Made e)) own → n ≡ event_after s e
    → one ≡ out ++ map (step_data names reached) (steps_from names lines s (map Asked here))
    → two ≡ one ++ step_data names reached (step_of names own s (Made e)) ∷ []
    → out ++ map (step_data names reached) (steps_from names lines s (in_turn made Asked place (drop place events) rest)) ≡ all
    → two ++ map (step_data names reached) (steps_from names later n (in_turn made Asked (place + 1) (drop (place + 1) events) past)) ≡ all
steps_more names reached place events e rest here past lines own later s n out one two all less is here_is past_is own_is later_is n_is one_is two_is at =
    let told = step_data names reached in
    let next = in_turn made Asked (place + 1) (drop (place + 1) events) (reads_past place rest) in
    let asked = λ (l : List PlacedRead). map told (steps_from names lines s (map Asked l)) in
    let step = λ (l : List (List ℕ)). told (step_of names l s (Made e)) in
    let rest_of = λ (l : List (List ℕ)). map told (steps_from names (drop (line_count (Made e)) l) (event_after s e) next) in
    (λ i. two_is i ++ map told (steps_from names (later_is i) (n_is i) (in_turn made Asked (place + 1) (drop (place + 1) events) (past_is i))))
    ∙ (λ i. (one_is i ++ step (own_is i) ∷ []) ++ rest_of (own_is i))
    ∙ (λ i. ((out ++ asked (here_is i)) ++ step (drop (length (here_is i)) lines) ∷ []) ++ rest_of (drop (length (here_is i)) lines))
    ∙ append_assoc (out ++ asked (reads_at place rest)) (step (drop (length (reads_at place rest)) lines) ∷ [])
    (rest_of (drop (length (reads_at place rest)) lines))
    ∙ append_assoc out (asked (reads_at place rest))
    (step (drop (length (reads_at place rest)) lines) ∷ rest_of (drop (length (reads_at place rest)) lines))
    ∙ ap (λ (l : List Data). out ++ l)
    (sym (map-append told (steps_from names lines s (map Asked (reads_at place rest)))
    (steps_from names (drop (length (reads_at place rest)) lines) s (Made e ∷ next))))
    ∙ ap (λ (l : List Step). out ++ map told l) (sym (after_reads names (reads_at place rest) (Made e ∷ next) lines s))
    ∙ ap (λ (l : List Turn). out ++ map told (steps_from names lines s l)) (sym (next_turn made Asked place events e rest less is))
    ∙ at

-- after the last reads
pub steps_end : (names : List Named) (reached : List ℕ) (place last : ℕ) (events : List Event) (rest here : List PlacedRead) (lines : List (List ℕ))
    (s : State) (out one all : List Data) → length events ≤ place → last ≡ place → here ≡ reads_at last rest
    → one ≡ out ++ map (step_data names reached) (steps_from names lines s (map Asked here))
    → out ++ map (step_data names reached) (steps_from names lines s (in_turn made Asked place (drop place events) rest)) ≡ all → one ≡ all
steps_end names reached place last events rest here lines s out one all le same here_is one_is at =
    one_is
    ∙ ap (λ (l : List PlacedRead). out ++ map (step_data names reached) (steps_from names lines s (map Asked l)))
    (here_is ∙ ap (λ (n : ℕ). reads_at n rest) same)
    ∙ ap (λ (l : List Turn). out ++ map (step_data names reached) (steps_from names lines s l)) (sym (last_turn made Asked place events rest le))
    ∙ at
