-- The text of the dump of legal events, and of reads that the rules answer so, is a dump's, where each value fits its word.
use Rattle.std.proofs.Common.{lit<, ◌≡◌, ℕ, ◌≤◌, ◌<◌, ◌^◌, true, ◌&&◌, not, nat_le, ◌==◌, List, [], ◌∷◌, ◌++◌, map, length, take, ◌+◌, Option, Some, None, refl, sym, ◌∙◌, subst, arith, append_assoc}
use Rattle.std.specs.List.{AllByRecursion}
use Rattle.std.proofs.lemmas.Bool.{and_parts, leb-true}
use Rattle.std.proofs.lemmas.List.{length-map}
use Rattle.base.specs.Level.{rank_of}
use Rattle.base.specs.Limits.{spent}
use Rattle.label_lattice.specs.Raw.{raw_of}
use Rattle.base.specs.declared.ranges.Limits.{Limits}
use Rattle.base.specs.declared.levels.Level.{Level}
use Rattle.base.specs.declared.levels.Level.TheVariants.{Star, L0, L1, L2, L3}
use Rattle.kernel_rules.specs.Events.{Event, calls_in}
use Rattle.kernel_rules.specs.declared.histories.events.Answered.{Answered}
use Rattle.kernel_rules.specs.History.{Start, answered, is_batch, IsLegalFrom, FollowsFrom, state_from}
use Rattle.checkpoints.specs.Checkpoint.{Checkpoint}
use Rattle.dump_text.specs.declared.places.Pending.TheVariants as pendings
use Rattle.kernel_rules.specs.Scratch.{scratch, stored_labels, compared_from}
use Rattle.kernel_rules.specs.State.{State, live_part}
use Rattle.kernel_rules.specs.Step.{next as then}
use Rattle.kernel_rules.specs.declared.calls.Call.{Call}
use Rattle.dump_text.specs.declared.lines.Line.{Line}
use Rattle.dump_text.specs.declared.lines.Line.TheVariants as lines
use Rattle.text_words.specs.Label.{IsLabel}
use Rattle.dump_text.specs.Word.{spoken_label}
use Rattle.dump_text.specs.Event.{IsAnswered}
use Rattle.dump_text.specs.Allowed.{AreAllowed}
use Rattle.dump_text.specs.CheckpointLines.{start_lines}
use Rattle.dump_text.specs.Line.{IsLine, IsBootable, digit_of, limits_kinds, limits_words}
use Rattle.dump_text.specs.Dump.{IsDump, dump_text, lines_with, event_lines, told_lines, history_lines, lines_of, table_lines}
use Rattle.dump_text.specs.Fits.{FitsAnswered, FitsLine, FitTables, FitsWords}
use Rattle.dump_text.specs.Read.{IsRead, FitsRead}
use Rattle.dump_text.specs.ReadReply.{IsReadReply, FitsReadReply}
use Rattle.dump_text.specs.Reads.{read_line, reads_at, reads_past, have_places}
use Rattle.dump_text.specs.Whole.{start_with, whole_dump, placed, placed_from, CanBegin, IsAnsweredRightly}
use Rattle.dump_text.specs.declared.tables.PlacedRead.{PlacedRead}
use Rattle.dump_text.proofs.KernelReplies.{answer_report, query_reply}
use Rattle.dump_text.proofs.LabelPlaces.{labels_fit, orders_fit, labels_few, all_append}
use Rattle.dump_text.proofs.Placing.{reads_parts, history_told}
use Rattle.dump_text.proofs.RestorableLines.{checkpoint_fit, objects_whole, objects_paged, all_front, all_behind}
use Rattle.dump_text.proofs.Sequence.{CanCome, dump_runs}

all_map : {V : Type 0} (make : V → Line) (P : V → Type 0) → ((v : V) → P v → IsLine (make v)) → (vs : List V) → AllByRecursion P vs → AllByRecursion IsLine (map make vs)
all_map make P gives [] all = tt
all_map make P gives (v ∷ vs) all = (gives v all.0, all_map make P gives vs all.1)

-- calls with the answers of the rules
answers_fit : (s : State) (thread : ℕ) (calls : List Call) → AllByRecursion FitsAnswered (answered s thread calls) → AllByRecursion IsAnswered (answered s thread calls)
answers_fit s thread [] all = tt
answers_fit s thread (c ∷ cs) all = (
  record { call = all.0.call; reply = answer_report s thread c all.0.reply },
  answers_fit (then s thread c) thread cs all.1,
)

-- calls whose lines fit their words
calls_fit : (cs : List Answered) → AllByRecursion FitsLine (map lines.Call cs) → AllByRecursion FitsAnswered cs
calls_fit [] all = tt
calls_fit (c ∷ cs) all = (all.0, calls_fit cs all.1)

with_fit : (t n : ℕ) (cs : List Answered) → AllByRecursion FitsLine (lines_with t n cs) → AllByRecursion FitsAnswered cs
with_fit t n [] all = tt
with_fit t n (a ∷ []) all = (all.0.answered, tt)
with_fit t n (a ∷ b ∷ cs) all = calls_fit (a ∷ b ∷ cs) all.1

-- the lines of 1 to 16 calls
lines_are : (t n : ℕ) (cs : List Answered) → AllByRecursion FitsLine (lines_with t n cs) → is_batch cs ≡ true → AllByRecursion IsAnswered cs → AllByRecursion IsLine (lines_with t n cs)
lines_are t n [] fits size all = absurd cc
lines_are t n (a ∷ []) fits size all = (record { thread = fits.0.thread; number = fits.0.number; answered = all.0 }, tt)
lines_are t n (a ∷ b ∷ cs) fits size all =
    let both = and_parts (nat_le 1 (length (a ∷ b ∷ cs))) (nat_le (length (a ∷ b ∷ cs)) 16) size in
    let most : length (a ∷ b ∷ cs) ≤ 16 = leb-true (length (a ∷ b ∷ cs)) 16 both.1 in
    let few : length (a ∷ b ∷ cs) < 2 ^ 32 = omega (arith, most) in
    let some : 2 ≤ length (a ∷ b ∷ cs) = omega arith in (
      (
        (record { kind_is = refl; fits = fits.0.0 }, (record { kind_is = refl; fits = fits.0.1 }, (record { kind_is = refl; fits = few }, tt))),
        (some, most),
      ),
      all_map lines.Call IsAnswered (λ x fits. fits) (a ∷ b ∷ cs) all,
    )

-- an event that follows legal ones
follows_fits : (start : Start) (before : List Event) (e : Event) → FollowsFrom start before e → AllByRecursion FitsLine (event_lines e) → AllByRecursion IsLine (event_lines e)
follows_fits start before e follows fits =
    lines_are e.thread e.number e.calls fits follows.size
    (subst (λ (cs : List Answered). AllByRecursion IsAnswered cs) (sym follows.replies)
    (answers_fit (state_from start.state before) e.thread (calls_in e)
    (subst (λ (cs : List Answered). AllByRecursion FitsAnswered cs) follows.replies (with_fit e.thread e.number e.calls fits))))

-- a read that the rules answer so
read_fits : (start : Start) (events : List Event) (r : PlacedRead) → IsAnsweredRightly start events r → FitsRead r.read → IsRead r.read
read_fits start events r right fits = record {
  thread = fits.thread;
  query = fits.query;
  reply = subst IsReadReply (sym right)
      (query_reply (state_from start.state (take r.place events)) r.read.thread r.read.query (subst FitsReadReply right fits.reply));
}

reads_fit : (start : Start) (events : List Event) (rs : List PlacedRead) → AllByRecursion (IsAnsweredRightly start events) rs → AllByRecursion FitsLine (map read_line rs) → AllByRecursion IsLine (map read_line rs)
reads_fit start events [] right fits = tt
reads_fit start events (r ∷ rs) right fits = (read_fits start events r right.0 fits.0, reads_fit start events rs right.1 fits.1)

-- the reads at a place and those past it are among all
right_parts : (P : PlacedRead → Type 0) (place : ℕ) (rs : List PlacedRead) → AllByRecursion P rs → AllByRecursion P (reads_at place rs) × AllByRecursion P (reads_past place rs)
right_parts P place rs all =
    let h = subst (λ (xs : List PlacedRead). AllByRecursion P xs) (sym (reads_parts place rs)) all in
    (all_front P (reads_at place rs) (reads_past place rs) h, all_behind P (reads_at place rs) (reads_past place rs) h)

-- the events after the first ones, and the reads among them
told_fit : (start : Start) (events : List Event) → IsLegalFrom start events → (before es : List Event) (place : ℕ) (rs : List PlacedRead) → events ≡ before ++ es → AllByRecursion (IsAnsweredRightly start events) rs → AllByRecursion FitsLine (told_lines place es rs) → AllByRecursion IsLine (told_lines place es rs)
told_fit start events legal before [] place rs is right fits = reads_fit start events (reads_at place rs) (right_parts (IsAnsweredRightly start events) place rs right).0 fits
told_fit start events legal before (e ∷ es) place rs is right fits =
    let here = map read_line (reads_at place rs) in
    let later = told_lines (place + 1) es (reads_past place rs) in
    let parts = right_parts (IsAnsweredRightly start events) place rs right in
    let rest = all_behind FitsLine here (event_lines e ++ later) fits in
    all_append IsLine here (event_lines e ++ later)
    (reads_fit start events (reads_at place rs) parts.0 (all_front FitsLine here (event_lines e ++ later) fits))
    (all_append IsLine (event_lines e) later
    (follows_fits start before e (legal before es e is) (all_front FitsLine (event_lines e) later rest))
    (told_fit start events legal (before ++ e ∷ []) es (place + 1) (reads_past place rs) (is ∙ sym (append_assoc before (e ∷ []) es)) parts.1 (all_behind FitsLine (event_lines e) later rest)))

history_fit : (start : Start) (events : List Event) (rs : List PlacedRead) → IsLegalFrom start events → AllByRecursion (IsAnsweredRightly start events) rs → AllByRecursion FitsLine (history_lines events rs) → AllByRecursion IsLine (history_lines events rs)
history_fit start events rs legal right fits =
    subst (λ (ls : List Line). AllByRecursion IsLine ls) (sym (history_told events rs))
    (told_fit start events legal [] events 0 rs refl right (subst (λ (ls : List Line). AllByRecursion FitsLine ls) (history_told events rs) fits))

digit_small : (level : Level) → digit_of level < 2 ^ 32
digit_small L0 = lit< tt
digit_small L1 = lit< tt
digit_small L2 = lit< tt
digit_small L3 = lit< tt
digit_small Star = lit< tt

limits_fit : (l : Limits) → IsBootable l → AreAllowed limits_kinds limits_words IsBootable l
limits_fit l bootable =
    let a = and_parts (nat_le 8 l.pages && nat_le l.pages 1024 && not (rank_of l.device == 0) && nat_le 4 l.next_id && nat_le l.next_id spent && nat_le 1 l.next_category) (nat_le l.next_category spent) bootable in
    let b = and_parts (nat_le 8 l.pages && nat_le l.pages 1024 && not (rank_of l.device == 0) && nat_le 4 l.next_id && nat_le l.next_id spent) (nat_le 1 l.next_category) a.0 in
    let c = and_parts (nat_le 8 l.pages && nat_le l.pages 1024 && not (rank_of l.device == 0) && nat_le 4 l.next_id) (nat_le l.next_id spent) b.0 in
    let d = and_parts (nat_le 8 l.pages && nat_le l.pages 1024 && not (rank_of l.device == 0)) (nat_le 4 l.next_id) c.0 in
    let e = and_parts (nat_le 8 l.pages && nat_le l.pages 1024) (not (rank_of l.device == 0)) d.0 in
    let f = and_parts (nat_le 8 l.pages) (nat_le l.pages 1024) e.0 in
    let pages : l.pages < 2 ^ 32 = omega (arith, leb-true l.pages 1024 f.1) in
    let id : l.next_id < 2 ^ 64 = omega (arith, leb-true l.next_id spent c.1) in
    let category : l.next_category < 2 ^ 64 = omega (arith, leb-true l.next_category spent a.1) in
    ((record { kind_is = refl; fits = pages }, (record { kind_is = refl; fits = digit_small l.device }, (record { kind_is = refl; fits = id }, (record { kind_is = refl; fits = category }, tt)))), bootable)

-- the labels of a state
labels_of_state : (s : State) → AllByRecursion (λ x. IsLabel (spoken_label x.label)) (placed (scratch s)).labels → length (placed (scratch s)).orders < 2 ^ 64 → AllByRecursion IsLine (map lines.Label (placed (scratch s)).labels)
unfolding scratch
labels_of_state s all few =
    let names = stored_labels (live_part s.objects) in
    let count = length-map names raw_of in
    let at_most = labels_few names few in
    all_map lines.Label _ (λ x fits. fits) (placed_from 0 (map raw_of names)) (labels_fit 0 (map raw_of names) (omega (arith, count, at_most)) all)

-- how they compare
orders_of_state : (s : State) → length (placed (scratch s)).orders < 2 ^ 64 → AllByRecursion IsLine (map lines.Order (placed (scratch s)).orders)
unfolding scratch
orders_of_state s few =
    let names = stored_labels (live_part s.objects) in
    let at_most = labels_few names few in
    all_map lines.Order _ (λ x fits. fits) (compared_from names 0 names) (orders_fit names 0 names at_most (omega (arith, at_most)))

live_fits : (id : ℕ) → id < 2 ^ 64 → IsLine (lines.Live id)
live_fits id lt = ((record { kind_is = refl; fits = lt }, tt), tt)

-- the state at the end
abbrev reached : Limits → Option Checkpoint → List Event → State
reached limits c events = state_from (start_with limits c).state events

-- the lines of the tables
tables_fit : (limits : Limits) (c : Option Checkpoint) (events : List Event) → FitTables (placed (scratch (reached limits c events))) → AllByRecursion IsLine (table_lines (placed (scratch (reached limits c events))))
tables_fit limits c events fits =
    let t = placed (scratch (reached limits c events)) in
    all_append IsLine (map lines.Live t.live) _ (all_map lines.Live _ live_fits t.live fits.live)
    (all_append IsLine (map lines.Use t.uses) _ (all_map lines.Use _ (λ u fits. (fits, tt)) t.uses fits.uses)
    (all_append IsLine (map lines.Map t.maps) _ (all_map lines.Map _ (λ x fits. (fits, tt)) t.maps fits.maps)
    (all_append IsLine (map lines.Label t.labels) (map lines.Order t.orders) (labels_of_state (reached limits c events) fits.labels fits.few)
    (orders_of_state (reached limits c events) fits.few))))

-- the lines of the checkpoint
start_fit : (limits : Limits) (c : Option Checkpoint) → CanBegin limits c → AllByRecursion FitsLine (start_lines c) → AllByRecursion IsLine (start_lines c)
start_fit limits None can fits = tt
start_fit limits (Some c) can fits = checkpoint_fit limits c can fits

can_come : (limits : Limits) (c : Option Checkpoint) → CanBegin limits c → CanCome limits c
can_come limits None can = can
can_come limits (Some c) can = objects_paged c.objects (objects_whole limits c can)

-- all lines
lines_fit : (limits : Limits) (c : Option Checkpoint) (events : List Event) (rs : List PlacedRead) → IsBootable limits → CanBegin limits c → IsLegalFrom (start_with limits c) events → AllByRecursion (IsAnsweredRightly (start_with limits c) events) rs → FitsWords (whole_dump limits c events rs) → AllByRecursion IsLine (lines_of (whole_dump limits c events rs))
lines_fit limits c events rs bootable can legal right fits =
    let t = placed (scratch (reached limits c events)) in
    let told = history_fit (start_with limits c) events rs legal right fits.history in
    let body = all_append IsLine (history_lines events rs) (table_lines t) told (tables_fit limits c events fits.tables) in (
      tt,
      (
        limits_fit limits bootable,
        all_append IsLine (start_lines c ++ (history_lines events rs ++ table_lines t)) (lines.End ∷ [])
            (all_append IsLine (start_lines c) (history_lines events rs ++ table_lines t) (start_fit limits c can fits.start) body) (tt, tt),
      ),
    )

pub legal_dump : (limits : Limits) (c : Option Checkpoint) (events : List Event) (rs : List PlacedRead) → IsBootable limits → CanBegin limits c → IsLegalFrom (start_with limits c) events → AllByRecursion (IsAnsweredRightly (start_with limits c) events) rs → have_places c events rs ≡ true → FitsWords (whole_dump limits c events rs) → IsDump (dump_text (whole_dump limits c events rs)) (whole_dump limits c events rs)
legal_dump limits c events rs bootable can legal right placed_rightly fits = record {
  spelled = record {
    fit = lines_fit limits c events rs bootable can legal right fits;
    state = record { first = 14; pending = pendings.Nothing };
    ran = dump_runs (whole_dump limits c events rs) (can_come limits c can) placed_rightly;
    ended = refl;
    bytes_are = refl;
  };
  placed = placed_rightly;
}
