-- The numbers of threads' next events.
use Rattle.std.proofs.Common.{◌≡◌, ℕ, ◌+◌, ◌<◌, ◌≤◌, ◌==◌, ◌&&◌, Bool, true, false, cond, nat_le, nat_lt}
use Rattle.std.proofs.Common.{List, [], ◌∷◌, ◌++◌, length, take, drop, slice_index_or, Option, Some, refl, sym, ◌∙◌, ap, arith}
use Rattle.std.specs.List.{list_all}
use Rattle.std.specs.Option.{unwrap_or}
use Rattle.std.proofs.lemmas.Bool.{and_parts, and_from, leb-true, eqb-true}
use Rattle.std.proofs.lemmas.List.{append-nil}
use Rattle.checkpoints.specs.Starts.{number_of}
use Rattle.checkpoints.specs.declared.checkpoints.NextNumber.{NextNumber}
use Rattle.kernel_rules.specs.Events.{Event}
use Rattle.kernel_rules.specs.History.{count}
use Rattle.kernel_rules.proofs.HistoryLaws.{count-snoc}
use Rattle.logged_kernel.proofs.EntryLaws.{events_more, events_split}
use Rattle.logged_kernel.specs.Entries.{events_of}
use Rattle.logged_kernel.specs.Numbers.{is_noted, AreCounted}
use Rattle.logged_kernel.specs.ReadLines.{ReadLine}
use Rattle.logged_kernel.specs.declared.entries.Entry.{Entry}
use Rattle.logged_kernel.specs.declared.entries.Entry.TheVariants as entries

-- numbers are from 1
pub number_some : (ns : List NextNumber) (t : ℕ) → list_all (λ (n : NextNumber). nat_le 2 n.number) ns ≡ true → 1 ≤ number_of ns t
number_some [] t h = omega arith
number_some (n ∷ ns) t h =
    let parts = and_parts (nat_le 2 n.number) (list_all (λ (n : NextNumber). nat_le 2 n.number) ns) h in
    let here : 2 ≤ n.number = leb-true 2 n.number parts.0 in
    let rest : 1 ≤ number_of ns t = number_some ns t parts.1 in
    elim (t == n.thread) as (λ b. 1 ≤ cond b n.number (number_of ns t)) [
      | true ↦ omega arith
      | false ↦ rest
    ]

-- what is looked up once a number is noted
pub noted_value : (b : Bool) (v : ℕ) (o : Option ℕ) → unwrap_or (cond b (Some v) o) 1 ≡ cond b v (unwrap_or o 1)
noted_value true v o = refl
noted_value false v o = refl

-- an event has its number
pub counted_at : (first : List NextNumber) (es : List Entry) (i : ℕ) (x : Entry) (e : Event) → AreCounted first (events_of es) → i < length es
    → x ≡ slice_index_or es i x → x ≡ entries.Event e → e.number ≡ count e.thread (events_of (take i es)) + number_of first e.thread
counted_at first es i x e are less at is =
    are (events_of (take i es)) (events_of (drop (i + 1) es)) e
    (events_split es i x less at ∙ ap (λ (y : Entry). events_of (take i es) ++ events_of (y ∷ drop (i + 1) es)) is)

-- one event more is counted
pub counted_more : (first : List NextNumber) (es : List Entry) (i : ℕ) (x : Entry) (e : Event) (t old v : ℕ) → AreCounted first (events_of es)
    → i < length es → x ≡ slice_index_or es i x → x ≡ entries.Event e → old ≡ count t (events_of (take i es)) + number_of first t → v ≡ e.number + 1
    → cond (e.thread == t) v old ≡ count t (events_of (take (i + 1) es)) + number_of first t
counted_more first es i x e t old v are less at is before next =
    let own : e.number ≡ count e.thread (events_of (take i es)) + number_of first e.thread = counted_at first es i x e are less at is in
    let more : count t (events_of (take (i + 1) es)) ≡ count t (events_of (take i es)) + cond (e.thread == t) 1 0
    = ap (count t) (events_more es i x less at ∙ ap (λ (y : Entry). events_of (take i es) ++ events_of (y ∷ [])) is)
    ∙ count-snoc t (events_of (take i es)) e in
    elim (e.thread == t) as (λ b. (e.thread == t) ≡ b → cond b v old ≡ (count t (events_of (take i es)) + cond b 1 0) + number_of first t) [
      | true ↦ λ on.
          let same : e.thread ≡ t = eqb-true e.thread t on in
          let there : e.number ≡ count t (events_of (take i es)) + number_of first t =
          own ∙ ap (λ k. count k (events_of (take i es)) + number_of first k) same in
          omega arith
      | false ↦ λ off. omega arith
    ] refl
    ∙ ap (λ n. n + number_of first t) (sym more)

-- a read is not
pub counted_read : (first : List NextNumber) (es : List Entry) (i : ℕ) (x : Entry) (r : ReadLine) (t old : ℕ)
    → i < length es → x ≡ slice_index_or es i x → x ≡ entries.Read r → old ≡ count t (events_of (take i es)) + number_of first t
    → old ≡ count t (events_of (take (i + 1) es)) + number_of first t
counted_read first es i x r t old less at is before =
    let same : events_of (take (i + 1) es) ≡ events_of (take i es) =
    events_more es i x less at ∙ ap (λ (y : Entry). events_of (take i es) ++ events_of (y ∷ [])) is ∙ append-nil (events_of (take i es)) in
    before ∙ ap (λ (l : List Event). count t l + number_of first t) (sym same)

-- all that is noted was given, and is from 2
pub noted_parts : (next_id : ℕ) (es : List (ℕ × ℕ)) → list_all (is_noted next_id) es ≡ true
    → (list_all (λ (e : ℕ × ℕ). nat_le 2 e.1) es ≡ true) × (list_all (λ (e : ℕ × ℕ). nat_lt e.0 next_id) es ≡ true)
noted_parts next_id [] h = (refl, refl)
noted_parts next_id (e ∷ es) h =
    let parts = and_parts (nat_lt e.0 next_id && nat_le 2 e.1) (list_all (is_noted next_id) es) h in
    let here = and_parts (nat_lt e.0 next_id) (nat_le 2 e.1) parts.0 in
    let rest = noted_parts next_id es parts.1 in (
      and_from (nat_le 2 e.1) _ here.1 rest.0,
      and_from (nat_lt e.0 next_id) _ here.0 rest.1,
    )
