-- The lines of a dump stand in the order of the kinds.
use Rattle.std.proofs.Common.{lit≤, append_assoc, ◌≡◌, ℕ, zero, suc, ◌≤◌, ◌+◌, ◌-◌, ◌*◌, ◌/◌, Bool, true, false, nat_le, ◌&&◌, ◌==◌, List, [], ◌∷◌, ◌++◌, map, length, drop, Option, Some, None, refl, ap, ◌∙◌, sym, subst, arith}
use Rattle.std.specs.List.{flat_map, AllByRecursion}
use Rattle.std.proofs.lemmas.Bool.{le-leb, leb-false}
use Rattle.call_text.specs.Text.{run}
use Rattle.base.specs.declared.ranges.Limits.{Limits}
use Rattle.checkpoints.specs.Checkpoint.{Checkpoint}
use Rattle.checkpoints.specs.declared.checkpoints.RawBody.{RawBody}
use Rattle.checkpoints.specs.declared.checkpoints.RawBody.TheVariants as bodies
use Rattle.checkpoints.specs.declared.checkpoints.Recorded.{Recorded}
use Rattle.kernel_rules.specs.Events.{Event}
use Rattle.kernel_rules.specs.declared.histories.events.Answered.{Answered}
use Rattle.dump_text.specs.declared.heads.Common.{Common}
use Rattle.dump_text.specs.declared.lines.Line.{Line}
use Rattle.dump_text.specs.declared.lines.Line.TheVariants as lines
use Rattle.dump_text.specs.declared.places.Pending.{Pending}
use Rattle.dump_text.specs.declared.places.Pending.TheVariants as pendings
use Rattle.dump_text.specs.declared.places.Place.{Place}
use Rattle.dump_text.specs.declared.state_lines.StateLine.TheVariants as states
use Rattle.dump_text.specs.CheckpointLines.{rows, rows_of, head_with, common_of, entry_line, row_line, slot_line, packet_line, next_line, part_lines, object_lines, start_lines}
use Rattle.dump_text.specs.Lists.{DumpLists, TableLists}
use Rattle.dump_text.specs.Dump.{format_of, lines_with, event_lines, told_lines, history_lines, lines_of, comes, after_event, after, owed, is_due, pending_after, start, next}
use Rattle.dump_text.specs.Reads.{read_line, reads_at, reads_past, have_places}
use Rattle.dump_text.specs.declared.tables.PlacedRead.{PlacedRead}
use Rattle.dump_text.proofs.Placing.{history_told, first_unread}
use Rattle.dump_text.proofs.Told.{flat}

-- the first kind that may come, and what is pending
abbrev at : ℕ → Pending → Place
at first o = record { first = first; pending = o }

abbrev end : Option Place
end = Some (at 14 pendings.Nothing)

next_of : (first : ℕ) (o : Pending) (l : Line) → is_due o l ≡ true → comes first l ≡ true → next (at first o) l ≡ Some (at (after first l) (pending_after o l))
unfolding next
next_of first o l due may = rw (due, may) refl

-- a line of a later kind may come
later : (first rank : ℕ) → 4 ≤ first → first ≤ rank → (nat_le 4 first && nat_le first rank) ≡ true
later first rank low le = rw (le-leb 4 first low, le-leb first rank le) refl

-- after kinds up to this one, of which nothing is owed, the lines lead to the end
abbrev EndFrom : ℕ → List Line → Type 0
EndFrom rank ls = (first : ℕ) (o : Pending) → owed o ≡ 0 → 4 ≤ first → first ≤ rank → run next (Some (at first o)) ls ≡ end

idle : (o : Pending) → owed o ≡ 0 → (owed o == 0) ≡ true
idle o none = ap (λ (n : ℕ). n == 0) none

-- one line of the kind or of an earlier one, after which nothing is owed
step : (first rank : ℕ) (o p : Pending) (l : Line) (ls : List Line) → EndFrom rank ls → is_due o l ≡ true → comes first l ≡ true → 4 ≤ after first l → after first l ≤ rank → pending_after o l ≡ p → owed p ≡ 0 → run next (Some (at first o)) (l ∷ ls) ≡ end
step first rank o p l ls ends due may low high leaves none =
    ap (λ (x : Option Place). run next x ls) (next_of first o l due may ∙ (λ i. Some (at (after first l) (leaves i)))) ∙ ends (after first l) p none low high

-- lines of one kind that tell nothing inside of others
record Plain {V : Type 0} (make : V → Line) (rank : ℕ) : Type 0 where
  due : (v : V) (o : Pending) → is_due o (make v) ≡ (owed o == 0)
  may : (v : V) (first : ℕ) → comes first (make v) ≡ (nat_le 4 first && nat_le first rank)
  is : (v : V) (first : ℕ) → after first (make v) ≡ rank
  leaves : (v : V) (o : Pending) → pending_after o (make v) ≡ pendings.Nothing

-- lines of one kind, and then others
run_kind : {V : Type 0} (make : V → Line) (rank : ℕ) (ls : List Line) → Plain make rank → 4 ≤ rank → EndFrom rank ls → (vs : List V) → EndFrom rank (map make vs ++ ls)
run_kind make rank ls plain low ends [] first o none from to = ends first o none from to
run_kind make rank ls plain low ends (v ∷ vs) first o none from to =
    step first rank o pendings.Nothing (make v) (map make vs ++ ls) (run_kind make rank ls plain low ends vs) (plain.due v o ∙ idle o none) (plain.may v first ∙ later first rank from to) (subst (λ (n : ℕ). 4 ≤ n) (sym (plain.is v first)) low) (subst (λ (n : ℕ). n ≤ rank) (sym (plain.is v first)) (let h : rank ≤ rank = omega arith in h)) (plain.leaves v o) refl

-- after kinds up to an earlier one too
earlier : (rank less : ℕ) (ls : List Line) → less ≤ rank → EndFrom rank ls → EndFrom less ls
earlier rank less ls le ends first o none from to = ends first o none from (omega (arith, le, to))

-- lines of several things
run_units : {X : Type 0} (of : X → List Line) (P : X → Type 0) (rank : ℕ) (ls : List Line) → ((x : X) (ms : List Line) → P x → EndFrom rank ms → EndFrom rank (of x ++ ms)) → EndFrom rank ls → (xs : List X) → AllByRecursion P xs → EndFrom rank (flat_map of xs ++ ls)
run_units of P rank ls one ends [] all first o none from to = ends first o none from to
run_units of P rank ls one ends (x ∷ xs) all first o none from to =
    ap (λ (ms : List Line). run next (Some (at first o)) ms) (append_assoc (of x) (flat_map of xs) ls)
    ∙ one x (flat_map of xs ++ ls) all.0 (run_units of P rank ls one ends xs all.1) first o none from to

-- where events may come: after reads or events alone, and up to these
record Among (first rank : ℕ) : Type 0 where
  low : 4 ≤ after_event first
  high : after_event first ≤ rank

among : (first rank : ℕ) → first ≤ rank → 6 ≤ rank → rank ≤ 7 → Among first rank
among first rank le low high = of (nat_le first 6) refl
  where
    of : (b : Bool) → nat_le first 6 ≡ b → Among first rank
    of true is = record { low = rw is (lit≤ tt); high = rw is low }
    of false is =
        let past = leb-false first 6 is in
        let seven : 7 ≤ rank = omega (arith, past, le) in
        record { low = rw is (lit≤ tt); high = rw is seven }

-- as many calls as are owed
run_calls : (rank : ℕ) (cs : List Answered) (first n : ℕ) (ls : List Line) → 6 ≤ rank → rank ≤ 7 → 4 ≤ first → first ≤ rank → n ≡ length cs → EndFrom rank ls → run next (Some (at first (pendings.Calls n))) (map lines.Call cs ++ ls) ≡ end
run_calls rank [] first n ls least most low high is ends = ends first (pendings.Calls n) is low high
run_calls rank (a ∷ cs) first n ls least most low high is ends =
    let z = among first rank high least most in
    ap (λ (x : Option Place). run next x (map lines.Call cs ++ ls)) (next_of first (pendings.Calls n) (lines.Call a) (le-leb 1 n (omega (arith, is))) (later first 7 low (omega (arith, high, most))))
    ∙ run_calls rank cs (after_event first) (n - 1) ls least most z.low z.high (omega (arith, is)) ends

-- the lines of an event
run_event : (rank : ℕ) (t n : ℕ) (cs : List Answered) (ls : List Line) → 6 ≤ rank → rank ≤ 7 → EndFrom rank ls → EndFrom rank (lines_with t n cs ++ ls)
run_event rank t n [] ls least most ends first o none from to =
    let z = among first rank to least most in
    step first rank o (pendings.Calls 0) (lines.Batch (record { thread = t; number = n; count = 0 })) ls ends (idle o none) (later first 7 from (omega (arith, to, most))) z.low z.high refl refl
run_event rank t n (a ∷ []) ls least most ends first o none from to =
    let z = among first rank to least most in
    step first rank o pendings.Nothing (lines.Event (record { thread = t; number = n; answered = a })) ls ends (idle o none) (later first 7 from (omega (arith, to, most))) z.low z.high refl refl
run_event rank t n (a ∷ b ∷ cs) ls least most ends first o none from to =
    let z = among first rank to least most in
    ap (λ (x : Option Place). run next x (map lines.Call (a ∷ b ∷ cs) ++ ls)) (next_of first o (lines.Batch (record { thread = t; number = n; count = length (a ∷ b ∷ cs) })) (idle o none) (later first 7 from (omega (arith, to, most))))
    ∙ run_calls rank (a ∷ b ∷ cs) (after_event first) (length (a ∷ b ∷ cs)) ls least most z.low z.high refl ends

-- reads
run_reads : (ls : List Line) → EndFrom 6 ls → (rs : List PlacedRead) → EndFrom 6 (map read_line rs ++ ls)
run_reads ls ends rs = run_kind read_line 6 ls (record { due = λ v o. refl; may = λ v f. refl; is = λ v f. refl; leaves = λ v o. refl }) (lit≤ tt) ends rs

-- events and the reads among them
run_told : (es : List Event) (place : ℕ) (rs : List PlacedRead) (ls : List Line) → EndFrom 6 ls → EndFrom 6 (told_lines place es rs ++ ls)
run_told [] place rs ls ends first o none from to = run_reads ls ends (reads_at place rs) first o none from to
run_told (e ∷ es) place rs ls ends first o none from to =
    ap (λ (ms : List Line). run next (Some (at first o)) ms) (append_assoc (map read_line (reads_at place rs)) (event_lines e ++ told_lines (place + 1) es (reads_past place rs)) ls ∙ ap (λ (ms : List Line). map read_line (reads_at place rs) ++ ms) (append_assoc (event_lines e) (told_lines (place + 1) es (reads_past place rs)) ls))
    ∙ run_reads (event_lines e ++ (told_lines (place + 1) es (reads_past place rs) ++ ls))
    (run_event 6 e.thread e.number e.calls (told_lines (place + 1) es (reads_past place rs) ++ ls) (lit≤ tt) (lit≤ tt) (run_told es (place + 1) (reads_past place rs) ls ends))
    (reads_at place rs) first o none from to

-- parts of one kind, of which there may be any number
run_parts : {V : Type 0} (make : V → Line) (o : Pending) (ls : List Line) → ((v : V) → next (at 4 o) (make v) ≡ Some (at 4 o)) → owed o ≡ 0 → EndFrom 4 ls → (vs : List V) → run next (Some (at 4 o)) (map make vs ++ ls) ≡ end
run_parts make o ls stays none ends [] = ends 4 o none (lit≤ tt) (lit≤ tt)
run_parts make o ls stays none ends (v ∷ vs) = ap (λ (x : Option Place). run next x (map make vs ++ ls)) (stays v) ∙ run_parts make o ls stays none ends vs

-- as many rows as are owed
run_rows : (rs : List (List ℕ)) (n : ℕ) (ls : List Line) → n ≡ length rs → EndFrom 4 ls → run next (Some (at 4 (pendings.Rows n))) (map row_line rs ++ ls) ≡ end
run_rows [] n ls is ends = ends 4 (pendings.Rows n) is (lit≤ tt) (lit≤ tt)
run_rows (r ∷ rs) n ls is ends =
    ap (λ (x : Option Place). run next x (map row_line rs ++ ls)) (next_of 4 (pendings.Rows n) (row_line r) (le-leb 1 n (omega (arith, is))) refl)
    ∙ run_rows rs (n - 1) ls (omega (arith, is)) ends

rows_length : (n : ℕ) (bytes : List ℕ) → length (rows n bytes) ≡ n
rows_length zero bytes = refl
rows_length (suc n) bytes = ap suc (rows_length n (drop 64 bytes))

-- a segment's bytes are whole pages
abbrev pub HasPages : RawBody → Type 0
HasPages (bodies.Segment a bytes) = length bytes ≡ 256 * (length bytes / 256)
HasPages body = Unit {0}

abbrev head_line : ℕ → Common → RawBody → Line
head_line id c body = lines.State (states.Object (record { id = id; head = head_with c body }))

-- the lines of an object
run_body : (id : ℕ) (c : Common) (body : RawBody) (ls : List Line) → HasPages body → EndFrom 4 ls → EndFrom 4 (head_line id c body ∷ (part_lines body ++ ls))
unfolding next
run_body id c (bodies.Container a avoid list) ls whole ends first o none from to =
    ap (λ (x : Option Place). run next x (map entry_line list ++ ls)) (next_of first o (head_line id c (bodies.Container a avoid list)) (idle o none) (later first 4 from to))
    ∙ run_parts entry_line pendings.Entries ls (λ v. refl) refl ends list
run_body id c (bodies.Segment a bytes) ls whole ends first o none from to =
    let count : 4 * (length bytes / 256) ≡ length (rows_of bytes) = omega (arith, whole, rows_length ((length bytes + 63) / 64) bytes) in
    ap (λ (x : Option Place). run next x (map row_line (rows_of bytes) ++ ls)) (next_of first o (head_line id c (bodies.Segment a bytes)) (idle o none) (later first 4 from to))
    ∙ run_rows (rows_of bytes) (4 * (length bytes / 256)) ls count ends
run_body id c (bodies.AddressSpace a slots) ls whole ends first o none from to =
    ap (λ (x : Option Place). run next x (map slot_line slots ++ ls)) (next_of first o (head_line id c (bodies.AddressSpace a slots)) (idle o none) (later first 4 from to))
    ∙ run_parts slot_line pendings.Slots ls (λ v. refl) refl ends slots
run_body id c (bodies.Thread t) ls whole ends first o none from to =
    step first 4 o pendings.Nothing (head_line id c (bodies.Thread t)) ls ends (idle o none) (later first 4 from to) (lit≤ tt) (lit≤ tt) refl refl
run_body id c (bodies.Gate a g) ls whole ends first o none from to =
    step first 4 o pendings.Nothing (head_line id c (bodies.Gate a g)) ls ends (idle o none) (later first 4 from to) (lit≤ tt) (lit≤ tt) refl refl
run_body id c (bodies.Device m packets) ls whole ends first o none from to =
    ap (λ (x : Option Place). run next x (map packet_line packets ++ ls)) (next_of first o (head_line id c (bodies.Device m packets)) (idle o none) (later first 4 from to))
    ∙ run_parts packet_line pendings.Packets ls (λ v. refl) refl ends packets

-- what stands before the events can come: the pages of format 1 are few, and the bytes of segments whole pages
abbrev pub CanCome : Limits → Option Checkpoint → Type 0
CanCome l None = l.pages ≤ 512
CanCome l (Some c) = AllByRecursion (λ (r : Recorded). HasPages r.object.body) c.objects

end_from : EndFrom 12 (lines.End ∷ [])
end_from first o none from to =
    ap (λ (x : Option Place). run next x []) (next_of first o lines.End (idle o none) (later first 13 from (omega (arith, to))))

-- tables
after_events : (t : TableLists) → EndFrom 8 (map lines.Live t.live ++ (map lines.Use t.uses ++ (map lines.Map t.maps ++ (map lines.Label t.labels ++ (map lines.Order t.orders ++ lines.End ∷ [])))))
after_events t =
    let orders = run_kind lines.Order 12 (lines.End ∷ []) (record { due = λ v o. refl; may = λ v f. refl; is = λ v f. refl; leaves = λ v o. refl }) (lit≤ tt) end_from t.orders in
    let labels = run_kind lines.Label 11 _ (record { due = λ v o. refl; may = λ v f. refl; is = λ v f. refl; leaves = λ v o. refl }) (lit≤ tt) (earlier 12 11 _ (lit≤ tt) orders) t.labels in
    let maps = run_kind lines.Map 10 _ (record { due = λ v o. refl; may = λ v f. refl; is = λ v f. refl; leaves = λ v o. refl }) (lit≤ tt) (earlier 11 10 _ (lit≤ tt) labels) t.maps in
    let uses = run_kind lines.Use 9 _ (record { due = λ v o. refl; may = λ v f. refl; is = λ v f. refl; leaves = λ v o. refl }) (lit≤ tt) (earlier 10 9 _ (lit≤ tt) maps) t.uses in
    run_kind lines.Live 8 _ (record { due = λ v o. refl; may = λ v f. refl; is = λ v f. refl; leaves = λ v o. refl }) (lit≤ tt) (earlier 9 8 _ (lit≤ tt) uses) t.live

-- events alone
run_events : (es : List Event) (ls : List Line) → EndFrom 7 ls → EndFrom 7 (flat_map event_lines es ++ ls)
run_events es ls ends = run_units event_lines (λ e. Unit {0}) 7 ls (λ e ms one after. run_event 7 e.thread e.number e.calls ms (lit≤ tt) (lit≤ tt) after) ends es (any es)
  where
    any : (xs : List Event) → AllByRecursion (λ (e : Event). Unit {0}) xs
    any [] = tt
    any (x ∷ xs) = (tt, any xs)

-- the lines of a checkpoint after its counters
after_counters : (c : Checkpoint) (ls : List Line) → AllByRecursion (λ (r : Recorded). HasPages r.object.body) c.objects → EndFrom 6 ls → EndFrom 4 ((flat_map object_lines c.objects ++ map next_line c.next) ++ ls)
after_counters c ls whole ends first o none from to =
    let numbers = run_kind next_line 5 ls (record { due = λ v o. refl; may = λ v f. refl; is = λ v f. refl; leaves = λ v o. refl }) (lit≤ tt) (earlier 6 5 _ (lit≤ tt) ends) c.next in
    ap (λ (ms : List Line). run next (Some (at first o)) ms) (append_assoc (flat_map object_lines c.objects) (map next_line c.next) ls)
    ∙ run_units object_lines (λ (r : Recorded). HasPages r.object.body) 4 _ (λ r ms one. run_body r.id (common_of r.object) r.object.body ms one) (earlier 5 4 _ (lit≤ tt) numbers) c.objects whole first o none from to

-- the first lines, and those of the checkpoint, where these lines lead to the end
FollowsStart : Option Checkpoint → List Line → Type 0
FollowsStart None ls = EndFrom 7 ls
FollowsStart (Some c) ls = EndFrom 6 ls

first_lines : (l : Limits) (c : Option Checkpoint) (ls : List Line) → CanCome l c → FollowsStart c ls → run next (Some start) (lines.Version (format_of c) ∷ lines.Limits l ∷ (start_lines c ++ ls)) ≡ end
unfolding next FollowsStart
first_lines l None ls can ends =
    ap (λ (x : Option Place). run next x ls) (next_of 1 pendings.Nothing (lines.Limits l) refl (rw (le-leb l.pages 512 can) refl))
    ∙ ends 7 pendings.Nothing refl (lit≤ tt) (lit≤ tt)
first_lines l (Some c) ls can ends = after_counters c ls can ends 4 pendings.Nothing refl (lit≤ tt) (lit≤ tt)

-- events, in format 2 the reads among them, and tables
history_runs : (c : Option Checkpoint) (es : List Event) (rs : List PlacedRead) (ls : List Line) → have_places c es rs ≡ true → EndFrom 8 ls → FollowsStart c (history_lines es rs ++ ls)
unfolding FollowsStart
history_runs None es rs ls placed ends =
    subst (λ (xs : List PlacedRead). EndFrom 7 (history_lines es xs ++ ls)) (sym (first_unread es rs placed)) (run_events es ls (earlier 8 7 ls (lit≤ tt) ends))
history_runs (Some c) es rs ls placed ends =
    subst (λ (ms : List Line). EndFrom 6 (ms ++ ls)) (sym (history_told es rs)) (run_told es 0 rs ls (earlier 8 6 ls (lit≤ tt) ends))

-- the lines of a dump may stand so
pub dump_runs : (d : DumpLists) → CanCome d.limits d.checkpoint → have_places d.checkpoint d.events d.reads ≡ true → run next (Some start) (lines_of d) ≡ Some (record { first = 14; pending = pendings.Nothing })
dump_runs d can placed =
    ap (λ (ls : List Line). run next (Some start) (lines.Version (format_of d.checkpoint) ∷ lines.Limits d.limits ∷ ls))
    (flat (start_lines d.checkpoint) (history_lines d.events d.reads) (map lines.Live d.tables.live) (map lines.Use d.tables.uses) (map lines.Map d.tables.maps) (map lines.Label d.tables.labels) (map lines.Order d.tables.orders) (lines.End ∷ []))
    ∙ first_lines d.limits d.checkpoint _ can (history_runs d.checkpoint d.events d.reads _ placed (after_events d.tables))
