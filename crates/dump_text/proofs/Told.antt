-- What the lines of a dump tell, one after another, is the dump: so a dump has one list of lines.
use Rattle.std.proofs.Common.{◌≡◌, ℕ, ◌+◌, true, List, [], ◌∷◌, ◌++◌, length, map, Option, Some, None, refl, ap, ◌∙◌, sym, subst, arith, append_assoc, length-append}
use Rattle.std.specs.List.{flat_map, AllByRecursion}
use Rattle.std.proofs.lemmas.List.{append-nil}
use Rattle.base.specs.declared.ranges.Limits.{Limits}
use Rattle.checkpoints.specs.Checkpoint.{Checkpoint}
use Rattle.checkpoints.specs.declared.checkpoints.RawBody.{RawBody}
use Rattle.checkpoints.specs.declared.checkpoints.RawBody.TheVariants as bodies
use Rattle.checkpoints.specs.declared.checkpoints.NextNumber.{NextNumber}
use Rattle.checkpoints.specs.declared.checkpoints.Recorded.{Recorded}
use Rattle.checkpoints.specs.declared.slot_lists.FilledSlot.{FilledSlot}
use Rattle.kernel_rules.specs.Events.{Event}
use Rattle.kernel_rules.specs.declared.histories.events.Answered.{Answered}
use Rattle.kernel_rules.specs.declared.tables.Used.{Used}
use Rattle.kernel_rules.specs.declared.tables.Shown.{Shown}
use Rattle.dump_text.specs.declared.tables.PlacedRead.{PlacedRead}
use Rattle.dump_text.specs.declared.tables.Stored.{Stored}
use Rattle.kernel_rules.specs.declared.tables.Compared.{Compared}
use Rattle.dump_text.specs.declared.heads.Common.{Common}
use Rattle.dump_text.specs.declared.lines.Line.{Line}
use Rattle.dump_text.specs.declared.lines.Line.TheVariants as lines
use Rattle.dump_text.specs.declared.state_lines.Part.{Part}
use Rattle.dump_text.specs.declared.state_lines.Part.TheVariants as parts
use Rattle.dump_text.specs.declared.state_lines.StateLine.TheVariants as states
use Rattle.dump_text.specs.Lists.{DumpLists, TableLists}
use Rattle.dump_text.specs.CheckpointLines.{rows_of, head_with, common_of, next_line, part_lines, object_lines, start_lines, recorded, extended, with_last}
use Rattle.dump_text.specs.Dump.{lines_with, event_lines, told_lines, history_lines, lines_of}
use Rattle.dump_text.specs.Reads.{read_line, reads_at, reads_past, are_placed, have_places}
use Rattle.dump_text.specs.Reading.{nothing, added, with_call}
use Rattle.dump_text.proofs.Joined.{joined, joined_push, joined_rows}
use Rattle.dump_text.proofs.Placing.{reads_parts, all_at, past_placed, none_past, history_told, placed_all}

-- with what these lines tell
abbrev pub told : List Line → DumpLists → DumpLists
told [] d = d
told (l ∷ ls) d = told ls (added l d)

pub told_push : (ls : List Line) (l : Line) (d : DumpLists) → told (ls ++ l ∷ []) d ≡ added l (told ls d)
told_push [] l d = refl
told_push (x ∷ ls) l d = told_push ls l (added x d)

-- lines of one kind, each of which adds one thing to a list
told_each : {X : Type 0} (make : X → Line) (put : List X → DumpLists) → ((x : X) (xs : List X) → added (make x) (put xs) ≡ put (xs ++ x ∷ [])) → (xs ys : List X) (ls : List Line) → told (map make xs ++ ls) (put ys) ≡ told ls (put (ys ++ xs))
told_each {X} make put h [] ys ls = ap (λ (zs : List X). told ls (put zs)) (sym (append-nil ys))
told_each {X} make put h (x ∷ xs) ys ls =
    ap (told (map make xs ++ ls)) (h x ys) ∙ told_each make put h xs (ys ++ x ∷ []) ls
    ∙ ap (λ (zs : List X). told ls (put zs)) (append_assoc ys (x ∷ []) xs)

-- things of several lines
told_units : {X : Type 0} (of : X → List Line) (put : List X → DumpLists) → ((x : X) (xs : List X) (ls : List Line) → told (of x ++ ls) (put xs) ≡ told ls (put (xs ++ x ∷ []))) → (xs ys : List X) (ls : List Line) → told (flat_map of xs ++ ls) (put ys) ≡ told ls (put (ys ++ xs))
told_units {X} of put h [] ys ls = ap (λ (zs : List X). told ls (put zs)) (sym (append-nil ys))
told_units {X} of put h (x ∷ xs) ys ls =
    ap (λ (l : List Line). told l (put ys)) (append_assoc (of x) (flat_map of xs) ls)
    ∙ h x ys (flat_map of xs ++ ls) ∙ told_units of put h xs (ys ++ x ∷ []) ls
    ∙ ap (λ (zs : List X). told ls (put zs)) (append_assoc ys (x ∷ []) xs)

pub call_push : (a : Answered) (es : List Event) (e : Event) → with_call a (es ++ e ∷ []) ≡ es ++ record e { calls = e.calls ++ a ∷ [] } ∷ []
call_push a [] e = refl
call_push a (x ∷ []) e = refl
call_push a (x ∷ y ∷ es) e = ap (λ (l : List Event). x ∷ l) (call_push a (y ∷ es) e)

pub last_push : (p : Part) (rs : List Recorded) (r : Recorded) → with_last p (rs ++ r ∷ []) ≡ rs ++ extended p r ∷ []
last_push p [] r = refl
last_push p (x ∷ []) r = refl
last_push p (x ∷ y ∷ rs) r = ap (λ (l : List Recorded). x ∷ l) (last_push p (y ∷ rs) r)

-- a dump of these parts
abbrev build : Limits → Option Checkpoint → List Event → List PlacedRead → TableLists → DumpLists
build l c es rs t = record { limits = l; checkpoint = c; events = es; reads = rs; tables = t }

abbrev no_tables : TableLists
no_tables = record { live = []; uses = []; maps = []; labels = []; orders = [] }

-- the lines of an event
told_event : (l : Limits) (c : Option Checkpoint) (rs : List PlacedRead) (e : Event) (es : List Event) (ls : List Line) → told (event_lines e ++ ls) (build l c es rs no_tables) ≡ told ls (build l c (es ++ e ∷ []) rs no_tables)
told_event l c rs e es ls = of e.thread e.number e.calls
  where
    of : (thread number : ℕ) (calls : List Answered) → told (lines_with thread number calls ++ ls) (build l c es rs no_tables) ≡ told ls (build l c (es ++ record { thread = thread; number = number; calls = calls } ∷ []) rs no_tables)
    of thread number [] = refl
    of thread number (a ∷ []) = refl
    of thread number (a ∷ b ∷ calls) =
        told_each lines.Call (λ (cs : List Answered). build l c (es ++ record { thread = thread; number = number; calls = cs } ∷ []) rs no_tables)
        (λ x xs. ap (λ (fs : List Event). build l c fs rs no_tables) (call_push x es (record { thread = thread; number = number; calls = xs })))
        (a ∷ b ∷ calls) [] ls

-- the lines of reads after these events
told_reads : (l : Limits) (c : Option Checkpoint) (es : List Event) (rs before : List PlacedRead) (ls : List Line) → AllByRecursion (λ (r : PlacedRead). r.place ≡ length es) rs → told (map read_line rs ++ ls) (build l c es before no_tables) ≡ told ls (build l c es (before ++ rs) no_tables)
told_reads l c es [] before ls all = ap (λ (xs : List PlacedRead). told ls (build l c es xs no_tables)) (sym (append-nil before))
told_reads l c es (r ∷ rs) before ls all =
    let here : build l c es (before ++ record { place = length es; read = r.read } ∷ []) no_tables ≡ build l c es (before ++ r ∷ []) no_tables = (λ i. build l c es (before ++ record { place = sym all.0 i; read = r.read } ∷ []) no_tables) in
    ap (told (map read_line rs ++ ls)) here ∙ told_reads l c es rs (before ++ r ∷ []) ls all.1
    ∙ ap (λ (xs : List PlacedRead). told ls (build l c es xs no_tables)) (append_assoc before (r ∷ []) rs)

at_length : (place : ℕ) (es : List Event) (rs : List PlacedRead) → place ≡ length es → AllByRecursion (λ (r : PlacedRead). r.place ≡ length es) (reads_at place rs)
at_length place es rs is = subst (λ (n : ℕ). AllByRecursion (λ (r : PlacedRead). r.place ≡ n) (reads_at place rs)) is (all_at place rs)

-- the lines of events and of the reads among them
told_history : (l : Limits) (c : Option Checkpoint) (es : List Event) (place : ℕ) (done : List Event) (before rs : List PlacedRead) (ls : List Line) → place ≡ length done → are_placed place (place + length es) rs ≡ true
    → told (told_lines place es rs ++ ls) (build l c done before no_tables) ≡ told ls (build l c (done ++ es) (before ++ rs) no_tables)
told_history l c [] place done before rs ls at h =
    let all : reads_at place rs ≡ rs =
    sym (append-nil (reads_at place rs)) ∙ ap (λ (xs : List PlacedRead). reads_at place rs ++ xs) (sym (none_past place rs (subst (λ (n : ℕ). are_placed place n rs ≡ true) (let z : place + 0 ≡ place = omega arith in z) h))) ∙ reads_parts place rs in
    told_reads l c done (reads_at place rs) before ls (at_length place done rs at)
    ∙ (λ i. told ls (build l c (sym (append-nil done) i) (before ++ all i) no_tables))
told_history l c (e ∷ es) place done before rs ls at h =
    let here = reads_at place rs in
    let later = reads_past place rs in
    let next_at : place + 1 ≡ length (done ++ e ∷ []) = omega (arith, at, length-append done (e ∷ [])) in
    let next_placed : are_placed (place + 1) (place + 1 + length es) later ≡ true =
    subst (λ (n : ℕ). are_placed (place + 1) n later ≡ true) (let z : place + length (e ∷ es) ≡ place + 1 + length es = omega arith in z) (past_placed place (place + length (e ∷ es)) rs h) in
    ap (λ (x : List Line). told x (build l c done before no_tables)) (append_assoc (map read_line here) (event_lines e ++ told_lines (place + 1) es later) ls ∙ ap (λ (x : List Line). map read_line here ++ x) (append_assoc (event_lines e) (told_lines (place + 1) es later) ls))
    ∙ told_reads l c done here before (event_lines e ++ (told_lines (place + 1) es later ++ ls)) (at_length place done rs at)
    ∙ told_event l c (before ++ here) e done (told_lines (place + 1) es later ++ ls)
    ∙ told_history l c es (place + 1) (done ++ e ∷ []) (before ++ here) later ls next_at next_placed
    ∙ (λ i. told ls (build l c (append_assoc done (e ∷ []) es i) ((append_assoc before here later ∙ ap (λ (xs : List PlacedRead). before ++ xs) (reads_parts place rs)) i) no_tables))

-- a checkpoint of these parts
abbrev with_objects : Limits → ℕ → ℕ → List Recorded → DumpLists
with_objects l n k rs =
    build l (Some (record { next_id = n; next_category = k; objects = rs; next = [] })) [] [] no_tables

-- lines of parts
told_parts : {X : Type 0} (l : Limits) (n k : ℕ) (rs : List Recorded) (make : X → Part) (body : List X → RawBody) (id : ℕ) (c : Common)
    → ((x : X) (xs : List X) → extended (make x) (recorded id c (body xs)) ≡ recorded id c (body (xs ++ x ∷ [])))
    → (xs : List X) (ls : List Line) → told (map (λ x. lines.State (states.Part (make x))) xs ++ ls) (with_objects l n k (rs ++ recorded id c (body []) ∷ [])) ≡ told ls (with_objects l n k (rs ++ recorded id c (body xs) ∷ []))
told_parts {X} l n k rs make body id c h xs ls =
    told_each (λ (x : X). lines.State (states.Part (make x))) (λ (ys : List X). with_objects l n k (rs ++ recorded id c (body ys) ∷ []))
    (λ x ys. ap (with_objects l n k) (last_push (make x) rs (recorded id c (body ys)) ∙ ap (λ (r : Recorded). rs ++ r ∷ []) (h x ys)))
    xs [] ls

-- the line of an object, and those of its parts
told_body : (l : Limits) (n k id : ℕ) (c : Common) (body : RawBody) (rs : List Recorded) (ls : List Line) → told (lines.State (states.Object (record { id = id; head = head_with c body })) ∷ (part_lines body ++ ls)) (with_objects l n k rs) ≡ told ls (with_objects l n k (rs ++ recorded id c body ∷ []))
told_body l n k id c (bodies.Container a avoid list) rs ls =
    told_parts l n k rs parts.Entry (λ (xs : List ℕ). bodies.Container a avoid xs) id c (λ x xs. refl) list ls
told_body l n k id c (bodies.Segment a bytes) rs ls =
    told_parts l n k rs (λ (r : List ℕ). parts.Row (record { bytes = r })) (λ (xs : List (List ℕ)). bodies.Segment a (joined xs)) id c
    (λ x xs. ap (λ (b : List ℕ). recorded id c (bodies.Segment a b)) (sym (joined_push xs x))) (rows_of bytes) ls
    ∙ ap (λ (b : List ℕ). told ls (with_objects l n k (rs ++ recorded id c (bodies.Segment a b) ∷ []))) (joined_rows bytes)
told_body l n k id c (bodies.AddressSpace a slots) rs ls =
    told_parts l n k rs parts.Slot (λ (xs : List FilledSlot). bodies.AddressSpace a xs) id c (λ x xs. refl) slots ls
told_body l n k id c (bodies.Thread t) rs ls = refl
told_body l n k id c (bodies.Gate a g) rs ls = refl
told_body l n k id c (bodies.Device m packets) rs ls =
    told_parts l n k rs parts.Packet (λ (xs : List (List ℕ)). bodies.Device m xs) id c (λ x xs. refl) packets ls

told_object : (l : Limits) (n k : ℕ) (r : Recorded) (rs : List Recorded) (ls : List Line) → told (object_lines r ++ ls) (with_objects l n k rs) ≡ told ls (with_objects l n k (rs ++ r ∷ []))
told_object l n k r rs ls = told_body l n k r.id (common_of r.object) r.object.body rs ls

-- the lines of a checkpoint
told_start : (l : Limits) (o : Option Checkpoint) (ls : List Line) → told (start_lines o ++ ls) (build l None [] [] no_tables) ≡ told ls (build l o [] [] no_tables)
told_start l None ls = refl
told_start l (Some c) ls =
    ap (λ (x : List Line). told x (with_objects l c.next_id c.next_category [])) (append_assoc (flat_map object_lines c.objects) (map next_line c.next) ls)
    ∙ told_units object_lines (with_objects l c.next_id c.next_category) (told_object l c.next_id c.next_category) c.objects [] (map next_line c.next ++ ls)
    ∙ told_each next_line (λ (ns : List NextNumber). build l (Some (record { next_id = c.next_id; next_category = c.next_category; objects = c.objects; next = ns })) [] [] no_tables) (λ x xs. refl) c.next [] ls

-- the lines of the tables
told_tables : (l : Limits) (o : Option Checkpoint) (es : List Event) (rs : List PlacedRead) (t : TableLists) (ls : List Line) → told (map lines.Live t.live ++ (map lines.Use t.uses ++ (map lines.Map t.maps ++ (map lines.Label t.labels ++ (map lines.Order t.orders ++ ls))))) (build l o es rs no_tables) ≡ told ls (build l o es rs t)
told_tables l o es rs t ls =
    told_each lines.Live (λ (xs : List ℕ). build l o es rs (record { live = xs; uses = []; maps = []; labels = []; orders = [] })) (λ x xs. refl) t.live [] _
    ∙ told_each lines.Use (λ (xs : List Used). build l o es rs (record { live = t.live; uses = xs; maps = []; labels = []; orders = [] })) (λ x xs. refl) t.uses [] _
    ∙ told_each lines.Map (λ (xs : List Shown). build l o es rs (record { live = t.live; uses = t.uses; maps = xs; labels = []; orders = [] })) (λ x xs. refl) t.maps [] _
    ∙ told_each lines.Label (λ (xs : List Stored). build l o es rs (record { live = t.live; uses = t.uses; maps = t.maps; labels = xs; orders = [] })) (λ x xs. refl) t.labels [] _
    ∙ told_each lines.Order (λ (xs : List Compared). build l o es rs (record { live = t.live; uses = t.uses; maps = t.maps; labels = t.labels; orders = xs })) (λ x xs. refl) t.orders [] ls

pub flat : (s a l u m b o e : List Line) → (s ++ (a ++ (l ++ (u ++ (m ++ (b ++ o)))))) ++ e ≡ s ++ (a ++ (l ++ (u ++ (m ++ (b ++ (o ++ e))))))
flat s a l u m b o e = simp append_assoc

-- the lines of a dump tell it, where its reads have their places
pub told_dump : (d : DumpLists) → have_places d.checkpoint d.events d.reads ≡ true → told (lines_of d) nothing ≡ d
told_dump d placed =
    ap (λ (x : List Line). told x (build d.limits None [] [] no_tables))
    (flat (start_lines d.checkpoint) (history_lines d.events d.reads) (map lines.Live d.tables.live) (map lines.Use d.tables.uses) (map lines.Map d.tables.maps) (map lines.Label d.tables.labels) (map lines.Order d.tables.orders) (lines.End ∷ []))
    ∙ told_start d.limits d.checkpoint _
    ∙ ap (λ (x : List Line). told (x ++ (map lines.Live d.tables.live ++ (map lines.Use d.tables.uses ++ (map lines.Map d.tables.maps ++ (map lines.Label d.tables.labels ++ (map lines.Order d.tables.orders ++ lines.End ∷ [])))))) (build d.limits d.checkpoint [] [] no_tables)) (history_told d.events d.reads)
    ∙ told_history d.limits d.checkpoint d.events 0 [] [] d.reads _ refl
    (subst (λ (n : ℕ). are_placed 0 n d.reads ≡ true) (let z : length d.events ≡ 0 + length d.events = omega arith in z) (placed_all d.checkpoint d.events d.reads placed))
    ∙ told_tables d.limits d.checkpoint d.events d.reads d.tables (lines.End ∷ [])

-- dumps with one list of lines are one
pub lines_are_one : (a b : DumpLists) → have_places a.checkpoint a.events a.reads ≡ true → have_places b.checkpoint b.events b.reads ≡ true → lines_of a ≡ lines_of b → a ≡ b
lines_are_one a b pa pb e = sym (told_dump a pa) ∙ ap (λ (ls : List Line). told ls nothing) e ∙ told_dump b pb
