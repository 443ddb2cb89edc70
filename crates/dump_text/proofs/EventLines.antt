-- The lines of events, one event after another.
use Rattle.std.proofs.Common.{◌≡◌, ℕ, ◌+◌, ◌<◌, ◌≤◌, List, [], ◌∷◌, ◌++◌, map, length, drop, get_or, refl, ap, ◌∙◌, sym, subst, arith, append_assoc}
use Rattle.std.specs.List.{AllByRecursion}
use Rattle.std.proofs.lemmas.List.{append-nil}
use Rattle.kernel_rules.specs.Events.{Event}
use Rattle.kernel_rules.specs.declared.histories.events.Answered.{Answered}
use Rattle.dump_text.specs.declared.lines.Line.{Line}
use Rattle.dump_text.specs.declared.lines.Line.TheVariants as lines
use Rattle.call_text.specs.Text.{line, lines_text}
use Rattle.dump_text.specs.Line.{line_text}
use Rattle.dump_text.specs.Dump.{lines_with, event_lines, told_lines}
use Rattle.dump_text.specs.Fits.{FitsLine}
use Rattle.dump_text.specs.Reads.{read_line, reads_at, reads_past}
use Rattle.dump_text.specs.declared.tables.PlacedRead.{PlacedRead}
use Rattle.dump_text.proofs.Placing.{next_turn, last_turn}

-- the lines of several calls
pub several : (t n : ℕ) (cs : List Answered) → 2 ≤ length cs → lines.Batch (record { thread = t; number = n; count = length cs }) ∷ map lines.Call cs ≡ lines_with t n cs
several t n [] le = absurd (omega (arith, le))
several t n (a ∷ []) le = absurd (omega (arith, le))
several t n (a ∷ b ∷ cs) le = refl

pub lines_append : (xs ys : List Line) → lines_text line_text (xs ++ ys) ≡ lines_text line_text xs ++ lines_text line_text ys
lines_append [] ys = refl
lines_append (x ∷ xs) ys =
    ap (λ (l : List ℕ). line line_text x ++ l) (lines_append xs ys)
    ∙ sym (append_assoc (line line_text x) (lines_text line_text xs) (lines_text line_text ys))

-- lines one after another: two, then lists of them, and a last one
pub put_lines : (v l z : Line) (s e t : List Line) (n0 n1 n2 n3 n4 n5 n6 : List ℕ)
    → n1 ≡ n0 ++ (line_text v ++ 10 ∷ []) → n2 ≡ n1 ++ (line_text l ++ 10 ∷ []) → n3 ≡ n2 ++ lines_text line_text s
    → n4 ≡ n3 ++ lines_text line_text e → n5 ≡ n4 ++ lines_text line_text t → n6 ≡ n5 ++ (line_text z ++ 10 ∷ [])
    → n6 ≡ n0 ++ lines_text line_text (v ∷ l ∷ (s ++ (e ++ t)) ++ z ∷ [])
put_lines v l z s e t n0 n1 n2 n3 n4 n5 n6 h1 h2 h3 h4 h5 h6 =
    rw (h6, h5, h4, h3, h2, h1, lines_append (s ++ (e ++ t)) (z ∷ []), lines_append s (e ++ t), lines_append e t)
    (chain n0 (line_text v ++ 10 ∷ []) (line_text l ++ 10 ∷ []) (lines_text line_text s) (lines_text line_text e) (lines_text line_text t) (line_text z ++ 10 ∷ []))
  where
    chain : (n a b c d f g : List ℕ) → (((((n ++ a) ++ b) ++ c) ++ d) ++ f) ++ g ≡ n ++ (a ++ (b ++ ((c ++ (d ++ f)) ++ (g ++ []))))
    chain n a b c d f g = simp (append_assoc, append-nil)

-- the text of the reads at a place and of the event after them
pub history_more : (place : ℕ) (events : List Event) (e : Event) (rest here past : List PlacedRead) (out one two before : List ℕ)
    → place < length events → e ≡ get_or events place e → here ≡ reads_at place rest → past ≡ reads_past place rest
    → one ≡ out ++ lines_text line_text (map read_line here) → two ≡ one ++ lines_text line_text (event_lines e)
    → out ++ lines_text line_text (told_lines place (drop place events) rest) ≡ before
    → two ++ lines_text line_text (told_lines (place + 1) (drop (place + 1) events) past) ≡ before
history_more place events e rest here past out one two before less is here_is past_is one_is two_is at =
    let later = told_lines (place + 1) (drop (place + 1) events) (reads_past place rest) in
    let reads = map read_line (reads_at place rest) in
    (λ i. two_is i ++ lines_text line_text (told_lines (place + 1) (drop (place + 1) events) (past_is i)))
    ∙ (λ i. (one_is i ++ lines_text line_text (event_lines e)) ++ lines_text line_text later)
    ∙ (λ i. ((out ++ lines_text line_text (map read_line (here_is i))) ++ lines_text line_text (event_lines e)) ++ lines_text line_text later)
    ∙ parts out (lines_text line_text reads) (lines_text line_text (event_lines e)) (lines_text line_text later)
    ∙ ap (λ (t : List ℕ). out ++ (lines_text line_text reads ++ t)) (sym (lines_append (event_lines e) later))
    ∙ ap (λ (t : List ℕ). out ++ t) (sym (lines_append reads (event_lines e ++ later)))
    ∙ ap (λ (ls : List Line). out ++ lines_text line_text ls) (sym (next_turn event_lines read_line place events e rest less is)) ∙ at
  where
    parts : (o a b c : List ℕ) → ((o ++ a) ++ b) ++ c ≡ o ++ (a ++ (b ++ c))
    parts o a b c = append_assoc (o ++ a) b c ∙ append_assoc o a (b ++ c)

all_on : (P : Line → Type 0) (xs ys : List Line) → AllByRecursion P xs → AllByRecursion P ys → AllByRecursion P (xs ++ ys)
all_on P [] ys a b = b
all_on P (x ∷ xs) ys a b = (a.0, all_on P xs ys a.1 b)

-- and that their lines fit
pub fits_more : (place : ℕ) (events : List Event) (e : Event) (rest here past : List PlacedRead) (All : Type 0)
    → place < length events → e ≡ get_or events place e → here ≡ reads_at place rest → past ≡ reads_past place rest
    → AllByRecursion FitsLine (map read_line here) → AllByRecursion FitsLine (event_lines e)
    → (AllByRecursion FitsLine (told_lines place (drop place events) rest) → All)
    → AllByRecursion FitsLine (told_lines (place + 1) (drop (place + 1) events) past) → All
fits_more place events e rest here past All less is here_is past_is reads event at later =
    at (subst (λ (ls : List Line). AllByRecursion FitsLine ls) (sym (next_turn event_lines read_line place events e rest less is))
    (all_on FitsLine (map read_line (reads_at place rest)) _ (subst (λ (rs : List PlacedRead). AllByRecursion FitsLine (map read_line rs)) here_is reads)
    (all_on FitsLine (event_lines e) _ event
    (subst (λ (rs : List PlacedRead). AllByRecursion FitsLine (told_lines (place + 1) (drop (place + 1) events) rs)) past_is later))))

-- the reads after the last event
pub history_end : (place last : ℕ) (events : List Event) (rest here : List PlacedRead) (out one before : List ℕ)
    → length events ≤ place → last ≡ place → here ≡ reads_at last rest
    → one ≡ out ++ lines_text line_text (map read_line here)
    → out ++ lines_text line_text (told_lines place (drop place events) rest) ≡ before → one ≡ before
history_end place last events rest here out one before le same here_is one_is at =
    one_is ∙ (λ i. out ++ lines_text line_text (map read_line ((here_is ∙ ap (λ (n : ℕ). reads_at n rest) same) i)))
    ∙ ap (λ (ls : List Line). out ++ lines_text line_text ls) (sym (last_turn event_lines read_line place events rest le)) ∙ at

pub fits_end : (place last : ℕ) (events : List Event) (rest here : List PlacedRead) (All : Type 0)
    → length events ≤ place → last ≡ place → here ≡ reads_at last rest → AllByRecursion FitsLine (map read_line here)
    → (AllByRecursion FitsLine (told_lines place (drop place events) rest) → All) → All
fits_end place last events rest here All le same here_is reads at =
    at (subst (λ (ls : List Line). AllByRecursion FitsLine ls) (sym (last_turn event_lines read_line place events rest le))
    (subst (λ (rs : List PlacedRead). AllByRecursion FitsLine (map read_line rs)) (here_is ∙ ap (λ (n : ℕ). reads_at n rest) same) reads))
