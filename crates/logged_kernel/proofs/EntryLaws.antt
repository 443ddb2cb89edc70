-- Reads among the events of a log.
use Rattle.std.proofs.Common.{◌≡◌, ℕ, suc, ◌+◌, ◌<◌, ◌≤◌, ◌==◌, ◌&&◌, ◌||◌, not, nat_le, nat_lt, Bool, true, false, if◌then◌else◌, List, [], ◌∷◌, ◌++◌, length, map, take, drop, slice_index_or, refl, sym, ap, ◌∙◌, subst, arith, ◌⊎◌, ◌-◌, zero, get_or, inl, inr}
use Rattle.std.specs.List.{AllByRecursion, flat_map, list_all}
use Rattle.std.proofs.lemmas.Bool.{and_parts, le-leb, ltb-true, ltb-false, ne_eqb}
use Rattle.std.proofs.lemmas.Bool.Decides.{nat_tests}
use Rattle.std.proofs.lemmas.List.{drop_more, take-append-drop, take-append-le, take_more}
use Rattle.call_text.specs.Text.{lines_text}
use Rattle.kernel_rules.specs.Events.{Event}
use Rattle.kernel_rules.specs.History.{Start, state_from}
use Rattle.kernel_rules.specs.Step.{query_answer}
use Rattle.dump_text.proofs.EventLines.{lines_append}
use Rattle.dump_text.proofs.LabelPlaces.{all_append}
use Rattle.dump_text.specs.Dump.{event_lines, told_lines}
use Rattle.dump_text.specs.Fits.{FitsLine}
use Rattle.dump_text.specs.Line.{line_text}
use Rattle.dump_text.specs.Reads.{are_placed, read_line, reads_at, reads_past}
use Rattle.dump_text.specs.Whole.{raw_reply, threads_rise, IsAnsweredRightly}
use Rattle.dump_text.specs.declared.lines.Line.{Line}
use Rattle.dump_text.specs.declared.tables.PlacedRead.{PlacedRead}
use Rattle.logged_kernel.specs.Entries.{FitsEntry, Tell, among, entry_text, events_of, is_later}
use Rattle.logged_kernel.specs.ReadLines.{ReadLine, line_of}
use Rattle.logged_kernel.specs.declared.entries.Entry.{Entry}
use Rattle.logged_kernel.specs.declared.entries.Entry.TheVariants as entries

-- the events of two parts
pub events_append : (es fs : List Entry) → events_of (es ++ fs) ≡ events_of es ++ events_of fs
events_append [] fs = refl
events_append (entries.Event e ∷ es) fs = ap (λ (l : List Event). e ∷ l) (events_append es fs)
events_append (entries.Read r ∷ es) fs = events_append es fs

-- the events before a place and from it on
pub events_split : (es : List Entry) (i : ℕ) (x : Entry) → i < length es → x ≡ slice_index_or es i x
    → events_of es ≡ events_of (take i es) ++ events_of (x ∷ drop (i + 1) es)
events_split es i x less is =
    ap events_of (sym (take-append-drop i es) ∙ ap (λ (l : List Entry). take i es ++ l) (drop_more es i x less)
    ∙ ap (λ (y : Entry). take i es ++ y ∷ drop (i + 1) es) (sym is))
    ∙ events_append (take i es) (x ∷ drop (i + 1) es)

-- and up to it
pub events_more : (es : List Entry) (i : ℕ) (x : Entry) → i < length es → x ≡ slice_index_or es i x
    → events_of (take (i + 1) es) ≡ events_of (take i es) ++ events_of (x ∷ [])
events_more es i x less is =
    ap events_of (take_more es i x less ∙ ap (λ (y : Entry). take i es ++ y ∷ []) (sym is))
    ∙ events_append (take i es) (x ∷ [])

-- a read more is no event
pub events_among : (r : ReadLine) (es : List Entry) → events_of (among r es) ≡ events_of es
events_among r [] = refl
events_among r (e ∷ es) = of e (list_all (is_later r.thread) (e ∷ es)) (events_among r es)
  where
    of : (x : Entry) (b : Bool) → events_of (among r es) ≡ events_of es
        → events_of (if b then entries.Read r ∷ x ∷ es else x ∷ among r es) ≡ events_of (x ∷ es)
    of x true rest = refl
    of (entries.Event e) false rest = ap (λ (l : List Event). e ∷ l) rest
    of (entries.Read l) false rest = rest

-- an event at the end leaves what the lines tell
pub told_event : (place : ℕ) (es : List Entry) (e : Event) (rs : List PlacedRead) → Tell place es rs → Tell place (es ++ entries.Event e ∷ []) rs
told_event place [] e rs told = told
told_event place (entries.Event x ∷ es) e rs told = told_event (place + 1) es e rs told
told_event place (entries.Read l ∷ es) e [] told = told
told_event place (entries.Read l ∷ es) e (r ∷ rs) told = (told.0, told.1, told.2, told_event place es e rs told.3)

-- no read stands past the last event
told_within : (place : ℕ) (es : List Entry) (rs : List PlacedRead) → Tell place es rs
    → AllByRecursion (λ (r : PlacedRead). r.place ≤ place + length (events_of es)) rs
told_within place [] rs told =
    subst (λ (l : List PlacedRead). AllByRecursion (λ (r : PlacedRead). r.place ≤ place + 0) l) (sym told) tt
told_within place (entries.Event e ∷ es) rs told =
    let more : place + 1 + length (events_of es) ≡ place + length (e ∷ events_of es) = omega arith in
    subst (λ (n : ℕ). AllByRecursion (λ (r : PlacedRead). r.place ≤ n) rs) more (told_within (place + 1) es rs told)
told_within place (entries.Read l ∷ es) [] told = absurd told
told_within place (entries.Read l ∷ es) (r ∷ rs) told =
    let at = told.0 in (omega (arith, at), told_within place es rs told.3)

pub told_in : (es : List Entry) (rs : List PlacedRead) → Tell 0 es rs → AllByRecursion (λ (r : PlacedRead). r.place ≤ length (events_of es)) rs
told_in es rs told =
    let all : 0 + length (events_of es) ≡ length (events_of es) = omega arith in
    subst (λ (n : ℕ). AllByRecursion (λ (r : PlacedRead). r.place ≤ n) rs) all (told_within 0 es rs told)

-- each read's reply is the same with an event more
pub answers_event : (start : Start) (events : List Event) (e : Event) (rs : List PlacedRead)
    → AllByRecursion (λ (r : PlacedRead). r.place ≤ length events) rs
    → AllByRecursion (IsAnsweredRightly start events) rs → AllByRecursion (IsAnsweredRightly start (events ++ e ∷ [])) rs
answers_event start events e [] within right = tt
answers_event start events e (r ∷ rs) within right = (
  right.0 ∙ ap (λ (l : List Event). raw_reply (query_answer (state_from start.state l) r.read.thread r.read.query))
      (sym (take-append-le r.place events (e ∷ []) within.0)),
  answers_event start events e rs within.1 right.1,
)

both : (a b : Bool) → a ≡ true → b ≡ true → (a && b) ≡ true
both a b p q = rw (p, q) refl

-- entries that are all reads by greater threads have no event
later_none : (thread : ℕ) (es : List Entry) → list_all (is_later thread) es ≡ true → events_of es ≡ []
later_none thread [] all = refl
later_none thread (entries.Event e ∷ es) all = absurd (let no : false ≡ true = all in cc)
later_none thread (entries.Read l ∷ es) all = later_none thread es (and_parts (nat_lt thread l.thread) (list_all (is_later thread) es) all).1

-- where the reads before are by greater threads and no event comes, so are those after them
all_later : (thread place before last : ℕ) (es : List Entry) (rs : List PlacedRead) → Tell place es rs
    → threads_rise before last rs ≡ true → before ≡ place → thread < last → events_of es ≡ []
    → list_all (is_later thread) es ≡ true
all_later thread place before last [] rs told rise is less none = refl
all_later thread place before last (entries.Event e ∷ es) rs told rise is less none = absurd (cc)
all_later thread place before last (entries.Read l ∷ es) [] told rise is less none = absurd told
all_later thread place before last (entries.Read l ∷ es) (r ∷ rs) told rise is less none =
    let parts = and_parts (not (r.place == before) || nat_le last r.read.thread) (threads_rise r.place r.read.thread rs) rise in
    let at : r.place ≡ before = told.0 ∙ sym is in
    let first : last ≤ r.read.thread = grind (arith, nat_tests, parts.0, at) in
    let thread_is : l.thread ≡ r.read.thread = ap (λ (x : ReadLine). x.thread) told.1 in
    let own : nat_lt thread l.thread ≡ true = grind (arith, nat_tests, first, thread_is, less) in
    both _ _ own (all_later thread place r.place r.read.thread es rs told.3 parts.1 told.0 (omega (arith, first, less)) none)

-- no events are none
no_events : (events : List Event) → length events ≡ 0 → events ≡ []
no_events [] is = refl
no_events (e ∷ events) is = absurd (omega (arith, is))

-- what reads tell with one more
abbrev pub Told : (PlacedRead → Type 0) → ℕ → ℕ → ℕ → List Entry → Type 0
Told P place before last es =
    (rs : List PlacedRead) × Tell place es rs × (threads_rise before last rs ≡ true) × AllByRecursion P rs

pub tell_among : (P : PlacedRead → Type 0) (place before last : ℕ) (r : PlacedRead) (es : List Entry) (rs : List PlacedRead)
    → Tell place es rs → threads_rise before last rs ≡ true → AllByRecursion P rs → P r → FitsLine (read_line r)
    → r.place ≡ place + length (events_of es) → (r.place ≡ before → last ≤ r.read.thread)
    → Told P place before last (among (line_of r.read) es)
tell_among P place before last r [] rs told rise all own fits at least =
    let first : (not (r.place == before) || nat_le last r.read.thread) ≡ true = grind (arith, nat_tests) in
    (r ∷ [], (omega (arith, at), refl, fits, refl), both _ _ first refl, (own, tt))
tell_among P place before last r (entries.Event e ∷ es) rs told rise all own fits at least =
    let next : r.place ≡ place + 1 + length (events_of es) = omega (arith, at) in
    tell_among P (place + 1) before last r es rs told rise all own fits next least
tell_among P place before last r (entries.Read l ∷ es) [] told rise all own fits at least = absurd told
tell_among P place before last r (entries.Read l ∷ es) (q ∷ rs) told rise all own fits at least =
    of (list_all (is_later r.read.thread) (entries.Read l ∷ es)) refl
    (λ some. tell_among P place q.place q.read.thread r es rs told.3 parts.1 all.1 own fits at (after some))
  where
    parts : ((not (q.place == before) || nat_le last q.read.thread) ≡ true) × (threads_rise q.place q.read.thread rs ≡ true)
    parts = and_parts (not (q.place == before) || nat_le last q.read.thread) (threads_rise q.place q.read.thread rs) rise

    thread_is : l.thread ≡ q.read.thread
    thread_is = ap (λ (x : ReadLine). x.thread) told.1

    after : list_all (is_later r.read.thread) (entries.Read l ∷ es) ≡ false → r.place ≡ q.place → q.read.thread ≤ r.read.thread
    after some same = by (nat_lt r.read.thread q.read.thread) refl
      where
        by : (b : Bool) → nat_lt r.read.thread q.read.thread ≡ b → q.read.thread ≤ r.read.thread
        by false is = ltb-false r.read.thread q.read.thread is
        by true is =
            let none : events_of es ≡ [] = no_events (events_of es) (omega (arith, at, same, told.0)) in
            let here : nat_lt r.read.thread l.thread ≡ true = ap (λ (n : ℕ). nat_lt r.read.thread n) thread_is ∙ is in
            let less : r.read.thread < q.read.thread = ltb-true r.read.thread q.read.thread is in
            let rest = all_later r.read.thread place q.place q.read.thread es rs told.3 parts.1 told.0 less none in
            absurd (let no : false ≡ true = sym some ∙ both _ _ here rest in cc)

    of : (b : Bool) → list_all (is_later r.read.thread) (entries.Read l ∷ es) ≡ b
        → (list_all (is_later r.read.thread) (entries.Read l ∷ es) ≡ false → Told P place q.place q.read.thread (among (line_of r.read) es))
        → Told P place before last (if b then entries.Read (line_of r.read) ∷ entries.Read l ∷ es else entries.Read l ∷ among (line_of r.read) es)
    of true is next =
        let some = and_parts (nat_lt r.read.thread l.thread) (list_all (is_later r.read.thread) es) is in
        let none : length (events_of es) ≡ 0 = ap (λ (x : List Event). length x) (later_none r.read.thread es some.1) in
        let here : r.place ≡ place = omega (arith, at, none) in
        let first : (not (r.place == before) || nat_le last r.read.thread) ≡ true = grind (arith, nat_tests) in
        let less : r.read.thread < q.read.thread = grind (arith, nat_tests, some.0, thread_is) in
        let second : (not (q.place == r.place) || nat_le r.read.thread q.read.thread) ≡ true = grind (arith, nat_tests, less) in
        (r ∷ q ∷ rs, (here, refl, fits, told), both _ _ first (both _ _ second parts.1), (own, all))
    of false is next =
        let rest = next is in
        (q ∷ rest.0, (told.0, told.1, told.2, rest.1), both _ _ parts.0 rest.2, (all.0, rest.3))

-- they stand in the order of their places
told_placed : (first place : ℕ) (es : List Entry) (rs : List PlacedRead) → first ≤ place → Tell place es rs
    → are_placed first (place + length (events_of es)) rs ≡ true
told_placed first place [] rs low told = ap (are_placed first (place + 0)) told
told_placed first place (entries.Event e ∷ es) rs low told =
    let more : place + 1 + length (events_of es) ≡ place + length (e ∷ events_of es) = omega arith in
    ap (λ (n : ℕ). are_placed first n rs) (sym more) ∙ told_placed first (place + 1) es rs (omega (arith, low)) told
told_placed first place (entries.Read l ∷ es) [] low told = absurd told
told_placed first place (entries.Read l ∷ es) (r ∷ rs) low told =
    let at = told.0 in
    both _ _ (le-leb first r.place (omega (arith, at, low))) (both _ _ (le-leb r.place (place + length (events_of es)) (omega (arith, at)))
    (told_placed r.place place es rs (omega (arith, at)) told.3))

pub all_placed : (es : List Entry) (rs : List PlacedRead) → Tell 0 es rs → are_placed 0 (length (events_of es)) rs ≡ true
all_placed es rs told =
    let all : 0 + length (events_of es) ≡ length (events_of es) = omega arith in
    subst (λ (n : ℕ). are_placed 0 n rs ≡ true) all (told_placed 0 0 es rs (omega arith) told)

-- the lines of a read at the place, and of what comes after
read_first : (place : ℕ) (events : List Event) (r : PlacedRead) (rs : List PlacedRead) → r.place ≡ place
    → told_lines place events (r ∷ rs) ≡ read_line r ∷ told_lines place events rs
read_first place [] r rs at =
    let on : (r.place == place) ≡ true = grind (arith, nat_tests) in
    λ i. map read_line (if on i then r ∷ reads_at place rs else [])
read_first place (e ∷ es) r rs at =
    let on : (r.place == place) ≡ true = grind (arith, nat_tests) in
    λ i. map read_line (if on i then r ∷ reads_at place rs else [])
    ++ (event_lines e ++ told_lines (place + 1) es (if on i then reads_past place rs else r ∷ rs))

-- the first read stands at the place or later
first_from : (place : ℕ) (es : List Entry) (r : PlacedRead) (rs : List PlacedRead) → Tell place es (r ∷ rs) → place ≤ r.place
first_from place [] r rs told = absurd (cc)
first_from place (entries.Event e ∷ es) r rs told = let later = first_from (place + 1) es r rs told in omega (arith, later)
first_from place (entries.Read l ∷ es) r rs told = let at = told.0 in omega (arith, at)

-- the lines of an event before which no read stands
event_first : (place : ℕ) (es : List Entry) (e : Event) (rs : List PlacedRead) → Tell (place + 1) es rs
    → told_lines place (e ∷ events_of es) rs ≡ event_lines e ++ told_lines (place + 1) (events_of es) rs
event_first place es e [] told = refl
event_first place es e (r ∷ rs) told =
    let later = first_from (place + 1) es r rs told in
    let off : (r.place == place) ≡ false = ne_eqb r.place place (λ is. omega (arith, is, later)) in
    λ i. map read_line (if off i then r ∷ reads_at place rs else [])
    ++ (event_lines e ++ told_lines (place + 1) (events_of es) (if off i then reads_past place rs else r ∷ rs))

-- the texts of entries are those of the lines of their events and reads
pub told_text : (place : ℕ) (es : List Entry) (rs : List PlacedRead) → Tell place es rs
    → flat_map entry_text es ≡ lines_text line_text (told_lines place (events_of es) rs)
told_text place [] rs told = ap (λ (l : List PlacedRead). lines_text line_text (told_lines place [] l)) (sym told)
told_text place (entries.Event e ∷ es) rs told =
    ap (λ (t : List ℕ). lines_text line_text (event_lines e) ++ t) (told_text (place + 1) es rs told)
    ∙ sym (lines_append (event_lines e) (told_lines (place + 1) (events_of es) rs))
    ∙ ap (λ (ls : List Line). lines_text line_text ls) (sym (event_first place es e rs told))
told_text place (entries.Read l ∷ es) [] told = absurd told
told_text place (entries.Read l ∷ es) (r ∷ rs) told =
    (λ i. (ap (λ (x : ReadLine). x.line) told.1 i) ++ told_text place es rs told.3 i)
    ∙ sym (lines_append (read_line r ∷ []) (told_lines place (events_of es) rs))
    ∙ ap (λ (ls : List Line). lines_text line_text ls) (sym (read_first place (events_of es) r rs told.0))

-- and their values fit
pub told_fits : (place : ℕ) (es : List Entry) (rs : List PlacedRead) → Tell place es rs → AllByRecursion FitsEntry es
    → AllByRecursion FitsLine (told_lines place (events_of es) rs)
told_fits place [] rs told fits = subst (λ (l : List PlacedRead). AllByRecursion FitsLine (told_lines place [] l)) (sym told) tt
told_fits place (entries.Event e ∷ es) rs told fits =
    subst (λ (ls : List Line). AllByRecursion FitsLine ls) (sym (event_first place es e rs told))
    (all_append FitsLine (event_lines e) (told_lines (place + 1) (events_of es) rs) fits.0 (told_fits (place + 1) es rs told fits.1))
told_fits place (entries.Read l ∷ es) [] told fits = absurd told
told_fits place (entries.Read l ∷ es) (r ∷ rs) told fits =
    subst (λ (ls : List Line). AllByRecursion FitsLine ls) (sym (read_first place (events_of es) r rs told.0))
    (told.2, told_fits place es rs told.3 fits.1)

-- what holds of all holds of one
one_of : (thread : ℕ) (es : List Entry) (i : ℕ) (d : Entry) → list_all (is_later thread) es ≡ true → i < length es
    → is_later thread (get_or es i d) ≡ true
one_of thread [] i d all less = absurd (omega (arith, less))
one_of thread (e ∷ es) zero d all less = (and_parts (is_later thread e) (list_all (is_later thread) es) all).0
one_of thread (e ∷ es) (suc i) d all less =
    one_of thread es i d (and_parts (is_later thread e) (list_all (is_later thread) es) all).1 (omega (arith, less))

-- the last of those before a place is not, and so of the rest
last_next : (thread : ℕ) (e : Entry) (es : List Entry) (n : ℕ) (d : Entry) → is_later thread (get_or (e ∷ es) n d) ≡ false
    → (n ≡ 0) ⊎ (is_later thread (get_or es (n - 1) d) ≡ false)
last_next thread e es zero d not = inl refl
last_next thread e es (suc m) d not =
    let is : suc m - 1 ≡ m = omega arith in inr (ap (λ i. is_later thread (get_or es i d)) is ∙ not)

-- the place before which the last is not by a greater thread, and from which on all are
pub parted : (r : ReadLine) (es : List Entry) (at : ℕ) (d : Entry) → at ≤ length es → list_all (is_later r.thread) (drop at es) ≡ true
    → ((at ≡ 0) ⊎ (is_later r.thread (get_or es (at - 1) d) ≡ false)) → take at es ++ entries.Read r ∷ drop at es ≡ among r es
parted r [] zero d within after before = refl
parted r [] (suc n) d within after before = absurd (omega (arith, within))
parted r (e ∷ es) zero d within after before =
    sym (ap (λ (b : Bool). if b then entries.Read r ∷ e ∷ es else e ∷ among r es) after)
parted r (e ∷ es) (suc n) d within after before =
    of (list_all (is_later r.thread) (e ∷ es)) refl (parted r es n d (omega (arith, within)) after (last_next r.thread e es n d not_last))
  where
    not_last : is_later r.thread (get_or (e ∷ es) n d) ≡ false
    not_last = by before
      where
        by : ((suc n ≡ 0) ⊎ (is_later r.thread (get_or (e ∷ es) (suc n - 1) d) ≡ false)) → is_later r.thread (get_or (e ∷ es) n d) ≡ false
        by (inl none) = absurd (omega (arith, none))
        by (inr not) = let is : suc n - 1 ≡ n = omega arith in sym (ap (λ i. is_later r.thread (get_or (e ∷ es) i d)) is) ∙ not

    of : (b : Bool) → list_all (is_later r.thread) (e ∷ es) ≡ b → take n es ++ entries.Read r ∷ drop n es ≡ among r es
        → e ∷ (take n es ++ entries.Read r ∷ drop n es) ≡ (if b then entries.Read r ∷ e ∷ es else e ∷ among r es)
    of true all rest = absurd (let no : false ≡ true = sym not_last ∙ one_of r.thread (e ∷ es) n d all (omega (arith, within)) in cc)
    of false some rest = ap (λ (l : List Entry). e ∷ l) rest
