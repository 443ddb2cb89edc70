-- What a replay tells of a dump has the true dump's first false line, also where it ends at an event without a number.
use Rattle.std.proofs.Common.{◌≡◌, ℕ, suc, ◌+◌, Bool, true, false, if◌then◌else◌, List, [], ◌∷◌, ◌++◌, length, Option, Some, None}
use Rattle.std.proofs.Common.{refl, sym, ap, ◌∙◌, subst, arith, append_assoc, ◌⊎◌, inl, inr}
use Rattle.std.specs.List.{AllByRecursion}
use Rattle.std.proofs.lemmas.List.{append-nil, length-append}
use Rattle.checkpoints.specs.Checkpoint.{Checkpoint}
use Rattle.kernel_rules.specs.Events.{Event}
use Rattle.kernel_rules.specs.History.{Start, state_from}
use Rattle.call_text.specs.Text.{lines_text}
use Rattle.dump_text.specs.CheckpointLines.{start_lines}
use Rattle.dump_text.specs.Dump.{dump_text, event_lines, told_lines, table_lines, format_of, lines_of, IsDump}
use Rattle.dump_text.specs.Fits.{FitsWords}
use Rattle.dump_text.specs.Line.{line_text, IsLine}
use Rattle.dump_text.specs.Lists.{DumpLists, TableLists, dump_with}
use Rattle.dump_text.specs.Reads.{are_placed, have_places}
use Rattle.dump_text.specs.Whole.{start_with}
use Rattle.dump_text.specs.declared.lines.Line.{Line}
use Rattle.dump_text.specs.declared.lines.Line.TheVariants as lines
use Rattle.dump_text.specs.declared.tables.PlacedRead.{PlacedRead}
use Rattle.dump_text.specs.declared.tables.Stored.{Stored}
use Rattle.kernel_rules.specs.declared.tables.Compared.{Compared}
use Rattle.kernel_rules.specs.declared.tables.Shown.{Shown}
use Rattle.kernel_rules.specs.declared.tables.Used.{Used}
use Rattle.dump_text.proofs.Batches.{lines_batches}
use Rattle.dump_text.proofs.LineLemmas.{dump_grammar}
use Rattle.dump_text.proofs.Placing.{history_told, first_unread}
use Rattle.dump_text.proofs.RestorableLines.{all_front, all_behind}
use Rattle.auditor.specs.Replay.{true_event, replayed, true_reads, true_reads_after}
use Rattle.auditor.specs.Told.{StopsAfter, AreTold, true_part, IsToldText, IsFound}
use Rattle.auditor.specs.Verdict.{true_dump, begins, first_difference, false_line, DifferAt, IsVerdict, TellsFalse}
use Rattle.auditor.specs.declared.verdicts.Verdict.TheVariants as is
use Rattle.auditor.proofs.LineLaws.{compared, text_more, after_line, LegalIsDump, clean_told, false_told}
use Rattle.auditor.proofs.NumberLaws.{begins_event, opened}
use Rattle.auditor.proofs.ReadLaws.{right_after, true_placed, placed_after, replayed_length}
use Rattle.auditor.proofs.ReplayLaws.{AreBatches, replayed_legal}
use Rattle.auditor.proofs.SplitLaws.{history_split, history_count, replayed_count, reads_count, reads_split, reads_front, replayed_append, replayed_keeps}
use Rattle.auditor.proofs.VerdictLaws.{begins_can}

-- the lines of the tables, and the last one
abbrev ending : TableLists → List Line
ending t = table_lines t ++ lines.End ∷ []

-- They begin with no event's line.
first_ending : (t : TableLists) → (l : Line) × (ls : List Line) × (ending t ≡ l ∷ ls) × (begins_event l ≡ false)
first_ending t = at t.live t.uses t.maps t.labels t.orders
  where
    at : (live : List ℕ) (uses : List Used) (maps : List Shown) (labels : List Stored) (orders : List Compared)
        → (l : Line) × (ls : List Line)
        × (ending (record { live = live; uses = uses; maps = maps; labels = labels; orders = orders }) ≡ l ∷ ls) × (begins_event l ≡ false)
    at (x ∷ live) uses maps labels orders = (lines.Live x, _, refl, refl)
    at [] (x ∷ uses) maps labels orders = (lines.Use x, _, refl, refl)
    at [] [] (x ∷ maps) labels orders = (lines.Map x, _, refl, refl)
    at [] [] [] (x ∷ labels) orders = (lines.Label x, _, refl, refl)
    at [] [] [] [] (x ∷ orders) = (lines.Order x, _, refl, refl)
    at [] [] [] [] [] = (lines.End, [], refl, refl)

-- two lists of lines first differ from a third in one line
abbrev pub DifferTogether : ℕ → List Line → List Line → List Line → Type 0
DifferTogether m xs ys zs =
    (i : ℕ) × (first_difference m (lines_text line_text xs) (lines_text line_text ys) ≡ Some (m + i))
    × (first_difference m (lines_text line_text xs) (lines_text line_text zs) ≡ Some (m + i)) × DifferAt i xs zs

-- so it is where they have the lines before some line, which is another than the third's in both
differ_together : (m : ℕ) (front common : List Line) (x y z : Line) (xs ys zs : List Line) → length front ≡ length common
    → AllByRecursion IsLine (front ++ x ∷ xs) → AllByRecursion IsLine (common ++ y ∷ ys) → (x ≡ y → ⊥) → (x ≡ z → ⊥)
    → ((n : ℕ) (p q : List ℕ) → first_difference n (line_text x ++ 10 ∷ p) (line_text z ++ 10 ∷ q) ≡ Some n)
    → DifferTogether m (front ++ x ∷ xs) (common ++ y ∷ ys) (common ++ z ∷ zs)
differ_together m [] [] x y z xs ys zs long fx fy not_y not_z texts =
    let p = lines_text line_text xs in
    let q = lines_text line_text ys in
    let none : m ≡ m + 0 = omega arith in
    let first : first_difference m (line_text x ++ 10 ∷ p) (line_text y ++ 10 ∷ q) ≡ Some m =
    elim (compared m (line_text x) (line_text y) p q (dump_grammar.lacks_end x fx.0) (dump_grammar.lacks_end y fy.0))
    as (λ _. first_difference m (line_text x ++ 10 ∷ p) (line_text y ++ 10 ∷ q) ≡ Some m) [
      | inl same ↦ absurd (not_y (dump_grammar.one x y fx.0 fy.0 same.0))
      | inr other ↦ other.1
    ] in (
      0,
      (λ i. first_difference m (text_more x xs i) (text_more y ys i)) ∙ first ∙ ap Some none,
      (λ i. first_difference m (text_more x xs i) (text_more z zs i)) ∙ texts m p (lines_text line_text zs) ∙ ap Some none,
      (refl, λ e. not_z cc),
    )
differ_together m [] (c ∷ common) x y z xs ys zs long fx fy not_y not_z texts = absurd (cc long)
differ_together m (f ∷ front) [] x y z xs ys zs long fx fy not_y not_z texts = absurd (cc long)
differ_together m (f ∷ front) (c ∷ common) x y z xs ys zs long fx fy not_y not_z texts =
    let a = front ++ x ∷ xs in
    let b = common ++ y ∷ ys in
    let d = common ++ z ∷ zs in
    let p = lines_text line_text a in
    let q = lines_text line_text b in
    let r = lines_text line_text d in
    let ends = dump_grammar.lacks_end f fx.0 in
    let also = dump_grammar.lacks_end c fy.0 in
    let none : m ≡ m + 0 = omega arith in
    elim (compared m (line_text f) (line_text c) p q ends also)
    as (λ _. DifferTogether m (f ∷ a) (c ∷ b) (c ∷ d)) [
      | inl same ↦
          let line : f ≡ c = dump_grammar.one f c fx.0 fy.0 same.0 in
          let shorter : length front ≡ length common = omega (arith, long) in
          let rest = differ_together (m + 1) front common x y z xs ys zs shorter fx.1 fy.1 not_y not_z texts in
          let place : (m + 1) + rest.0 ≡ m + suc rest.0 = omega arith in (
            suc rest.0,
            (λ i. first_difference m (text_more f a i) (text_more c b i)) ∙ same.1 ∙ rest.1 ∙ ap Some place,
            (λ i. first_difference m (text_more f a i) (text_more c d i)) ∙ after m p r same.0 ∙ rest.2 ∙ ap Some place,
            after_line rest.0 f c a d line rest.3,
          )
      | inr other ↦ (
        0,
        (λ i. first_difference m (text_more f a i) (text_more c b i)) ∙ other.1 ∙ ap Some none,
        (λ i. first_difference m (text_more f a i) (text_more c d i)) ∙ apart m p r other.0 ∙ ap Some none,
        (refl, λ e. other.0 (let line : f ≡ c = cc in ap line_text line)),
      )
    ]
  where
    after : (m : ℕ) (p r : List ℕ) → line_text f ≡ line_text c
        → first_difference m (line_text f ++ 10 ∷ p) (line_text c ++ 10 ∷ r) ≡ first_difference (m + 1) p r
    after m p r same =
        elim (compared m (line_text f) (line_text c) p r (dump_grammar.lacks_end f fx.0) (dump_grammar.lacks_end c fy.0))
        as (λ _. first_difference m (line_text f ++ 10 ∷ p) (line_text c ++ 10 ∷ r) ≡ first_difference (m + 1) p r) [
          | inl so ↦ so.1
          | inr other ↦ absurd (other.0 same)
        ]

    apart : (m : ℕ) (p r : List ℕ) → (line_text f ≡ line_text c → ⊥)
        → first_difference m (line_text f ++ 10 ∷ p) (line_text c ++ 10 ∷ r) ≡ Some m
    apart m p r other =
        elim (compared m (line_text f) (line_text c) p r (dump_grammar.lacks_end f fx.0) (dump_grammar.lacks_end c fy.0))
        as (λ _. first_difference m (line_text f ++ 10 ∷ p) (line_text c ++ 10 ∷ r) ≡ Some m) [
          | inl so ↦ absurd (other so.0)
          | inr so ↦ so.1
        ]

-- so it is of lists of lines that are such
differ_where : (us vs ws front common : List Line) (x y z : Line) (xs ys zs : List Line)
    → us ≡ front ++ x ∷ xs → vs ≡ common ++ y ∷ ys → ws ≡ common ++ z ∷ zs → length front ≡ length common
    → AllByRecursion IsLine us → AllByRecursion IsLine vs → (x ≡ y → ⊥) → (x ≡ z → ⊥)
    → ((n : ℕ) (p q : List ℕ) → first_difference n (line_text x ++ 10 ∷ p) (line_text z ++ 10 ∷ q) ≡ Some n)
    → DifferTogether 1 us vs ws
differ_where us vs ws front common x y z xs ys zs us_are vs_are ws_are long fu fv not_y not_z texts =
    subst (λ (l : List Line). DifferTogether 1 l vs ws) (sym us_are)
    (subst (λ (l : List Line). DifferTogether 1 (front ++ x ∷ xs) l ws) (sym vs_are)
    (subst (λ (l : List Line). DifferTogether 1 (front ++ x ∷ xs) (common ++ y ∷ ys) l) (sym ws_are)
    (differ_together 1 front common x y z xs ys zs long (subst (λ (l : List Line). AllByRecursion IsLine l) us_are fu)
    (subst (λ (l : List Line). AllByRecursion IsLine l) vs_are fv) not_y not_z texts)))

-- the lines of a dump up to a place in its history
abbrev front_lines : DumpLists → List Line → List Line
front_lines d history = lines.Version (format_of d.checkpoint) ∷ lines.Limits d.limits ∷ (start_lines d.checkpoint ++ history)

regrouped : (s h r t e : List Line) → (s ++ ((h ++ r) ++ t)) ++ e ≡ (s ++ h) ++ (r ++ (t ++ e))
regrouped s h r t e = simp append_assoc

-- a dump whose history has two parts
parted : (d : DumpLists) (events : List Event) (reads : List PlacedRead) (tables : TableLists) (h r : List Line)
    → told_lines 0 events reads ≡ h ++ r
    → lines_of (dump_with d.limits d.checkpoint events reads tables) ≡ front_lines d h ++ (r ++ ending tables)
parted d events reads tables h r parts =
    let before = λ (l : List Line). lines.Version (format_of d.checkpoint) ∷ lines.Limits d.limits ∷ l in
    ap (λ (l : List Line). before ((start_lines d.checkpoint ++ (l ++ table_lines tables)) ++ lines.End ∷ [])) (history_told events reads ∙ parts)
    ∙ ap before (regrouped (start_lines d.checkpoint) h r (table_lines tables) (lines.End ∷ []))

-- an event's lines among others, by the first of them
begun_by : (all front ls behind tail more : List Line) (one : Line) → all ≡ front ++ ((ls ++ behind) ++ tail) → ls ≡ one ∷ more
    → all ≡ front ++ one ∷ ((more ++ behind) ++ tail)
begun_by all front ls behind tail more one all_are ls_are =
    all_are ∙ ap (λ (l : List Line). front ++ ((l ++ behind) ++ tail)) ls_are

-- the first reads of a dump have their places
front_placed : (c : Option Checkpoint) (events es : List Event) (reads rs later : List PlacedRead) → have_places c events reads ≡ true
    → reads ≡ rs ++ later → are_placed 0 (length es) rs ≡ true → have_places c es rs ≡ true
front_placed None events es reads rs later h are front = none rs (sym (first_unread events reads h) ∙ are)
  where
    none : (l : List PlacedRead) → [] ≡ l ++ later → have_places None es l ≡ true
    none [] e = refl
    none (r ∷ l) e = absurd (cc e)
front_placed (Some c) events es reads rs later h are front = front

module _ (bytes : List ℕ) (d : DumpLists) (law : LegalIsDump) (is_dump : IsDump bytes d) where
  abbrev start : Start
  start = start_with d.limits d.checkpoint

  -- the told part is a dump
  part_is_dump : (es : List Event) (rs : List PlacedRead) → begins d ≡ true → StopsAfter start d.events d.reads es rs
      → FitsWords (true_part d es rs) → IsDump (dump_text (true_part d es rs)) (true_part d es rs)
  part_is_dump es rs can s fits =
      let batches : AreBatches (es ++ s.event ∷ s.rest) = subst (λ (l : List Event). AreBatches l) s.events_are (lines_batches d is_dump.spelled.fit) in
      law d.limits d.checkpoint (replayed start es) (true_reads start es rs) (is_dump.spelled.fit.1.0.1) (begins_can bytes d is_dump can)
      (replayed_legal start es (all_front _ es (s.event ∷ s.rest) batches)) (right_after start es 0 0 rs)
      (true_placed start d.checkpoint es rs (front_placed d.checkpoint d.events es d.reads rs s.later is_dump.placed s.reads_are s.placed)) fits

  -- its text has the true dump's first false line
  part_differs : (es : List Event) (rs : List PlacedRead) → begins d ≡ true → StopsAfter start d.events d.reads es rs
      → FitsWords (true_part d es rs) → DifferTogether 1 (lines_of d) (lines_of (true_part d es rs)) (lines_of (true_dump d))
  part_differs es rs can s fits =
      let last = length d.events in
      let e = s.event in
      let before = replayed start es in
      let reads = true_reads start es rs in
      let x = true_event start before e in
      let tables = (true_part d es rs).tables in
      let here = told_lines 0 es rs in
      let there = told_lines 0 before reads in
      let behind = told_lines (length es + 1) s.rest s.later in
      -- the dump's lines
      let own : told_lines 0 d.events d.reads ≡ here ++ (event_lines e ++ behind) =
      (λ i. told_lines 0 (s.events_are i) (s.reads_are i)) ∙ history_split last es s.rest e rs s.later s.placed s.past in
      let own_lines : lines_of d ≡ front_lines d here ++ ((event_lines e ++ behind) ++ ending d.tables) =
      parted d d.events d.reads d.tables here (event_lines e ++ behind) own in
      -- the part's
      let part_lines : lines_of (true_part d es rs) ≡ front_lines d there ++ ending tables =
      parted d before reads tables there [] (sym (append-nil there)) in
      -- the true dump's
      let keeps = replayed_keeps start (before ++ x ∷ []) s.rest in
      let events_are : replayed start d.events ≡ before ++ x ∷ keeps.0 =
      ap (replayed start) s.events_are ∙ replayed_append start [] es (e ∷ s.rest) ∙ keeps.1 ∙ append_assoc before (x ∷ []) keeps.0 in
      let split = reads_split start d.events 0 0 rs s.later in
      let further = true_reads_after start d.events split.0 split.1 s.later in
      let reads_are : true_reads start d.events d.reads ≡ reads ++ further =
      ap (true_reads start d.events) s.reads_are ∙ split.2
      ∙ ap (λ (l : List PlacedRead). l ++ further)
      (ap (λ (l : List Event). true_reads start l rs) s.events_are ∙ reads_front start es (e ∷ s.rest) 0 0 0 rs s.placed) in
      let many : length before ≡ length es = replayed_length start [] es in
      let placed : are_placed 0 (length before) reads ≡ true =
      placed_after start es 0 0 0 (length before) rs ∙ ap (λ (n : ℕ). are_placed 0 n rs) many ∙ s.placed in
      let past : are_placed (length before + 1) last further ≡ true =
      placed_after start d.events split.0 split.1 (length before + 1) last s.later
      ∙ ap (λ (n : ℕ). are_placed (n + 1) last s.later) many ∙ s.past in
      let beyond = told_lines (length before + 1) keeps.0 further in
      let true_told : told_lines 0 (replayed start d.events) (true_reads start d.events d.reads) ≡ there ++ (event_lines x ++ beyond) =
      (λ i. told_lines 0 (events_are i) (reads_are i)) ∙ history_split last before keeps.0 x reads further placed past in
      let true_tables = (true_dump d).tables in
      let true_lines : lines_of (true_dump d) ≡ front_lines d there ++ ((event_lines x ++ beyond) ++ ending true_tables) =
      parted d (replayed start d.events) (true_reads start d.events d.reads) true_tables there (event_lines x ++ beyond) true_told in
      -- as many lines stand before
      let long : length (front_lines d here) ≡ length (front_lines d there) =
      omega (
        arith,
        length-append (start_lines d.checkpoint) here,
        length-append (start_lines d.checkpoint) there,
        history_count es rs s.placed,
        history_count before reads placed,
        replayed_count start [] es,
        reads_count start es 0 0 rs,
      ) in
      -- where they differ
      let fit = subst (λ (l : List Line). AllByRecursion IsLine l) own_lines is_dump.spelled.fit in
      let fit_event = all_front IsLine (event_lines e) behind
      (all_front IsLine (event_lines e ++ behind) (ending d.tables)
      (all_behind IsLine (front_lines d here) ((event_lines e ++ behind) ++ ending d.tables) fit)) in
      let pair = opened (state_from start.state before) e.thread e.number x.number e.calls fit_event s.number in
      let after = first_ending tables in
      let own_open : lines_of d ≡ front_lines d here ++ pair.one ∷ ((pair.more ++ behind) ++ ending d.tables) =
      begun_by (lines_of d) (front_lines d here) (event_lines e) behind (ending d.tables) pair.more pair.one own_lines pair.xs_are in
      let part_open : lines_of (true_part d es rs) ≡ front_lines d there ++ after.0 ∷ after.1 =
      part_lines ∙ ap (λ (l : List Line). front_lines d there ++ l) after.2 in
      let true_open : lines_of (true_dump d) ≡ front_lines d there ++ pair.other ∷ ((pair.further ++ beyond) ++ ending true_tables) =
      begun_by (lines_of (true_dump d)) (front_lines d there) (event_lines x) beyond (ending true_tables) pair.further pair.other true_lines
      pair.ys_are in
      let other : pair.one ≡ after.0 → ⊥ = λ same.
      (let clash : true ≡ false = sym pair.opens ∙ ap begins_event same ∙ after.3 in cc clash) in
      differ_where (lines_of d) (lines_of (true_part d es rs)) (lines_of (true_dump d)) (front_lines d here) (front_lines d there)
      pair.one after.0 pair.other ((pair.more ++ behind) ++ ending d.tables) after.1 ((pair.further ++ beyond) ++ ending true_tables)
      own_open part_open true_open long is_dump.spelled.fit (part_is_dump es rs can s fits).spelled.fit other pair.apart pair.texts

  -- in what line the true dump first differs, and that it can be spelled or has its line there
  abbrev Located : Option ℕ → Type 0
  Located line =
      (false_line bytes d ≡ line)
      × ((begins d ≡ true → FitsWords (true_dump d))
      ⊎ ((i : ℕ) × (line ≡ Some (1 + i)) × DifferAt i (lines_of d) (lines_of (true_dump d))))

  begun : begins d ≡ true → false_line bytes d ≡ first_difference 1 bytes (dump_text (true_dump d))
  begun can = ap (λ (b : Bool). if b then first_difference 1 bytes (dump_text (true_dump d)) else Some 3) can

  -- a told text has the true dump's first line that differs
  text_located : (text : List ℕ) → begins d ≡ true → IsToldText d text → Located (first_difference 1 bytes text)
  text_located text can t = at t.is_told.are
    where
      is_part : t.told ≡ true_part d t.is_told.es t.is_told.rs
      is_part = t.is_told.told_is

      at : AreTold start d.events d.reads t.is_told.es t.is_told.rs → Located (first_difference 1 bytes text)
      at (inl all) =
          let whole : t.told ≡ true_dump d = is_part ∙ (λ i. true_part d (all.0 i) (all.1 i)) in (
            begun can ∙ ap (first_difference 1 bytes) (sym (t.text_is ∙ ap dump_text whole)),
            inl (λ begun_so. subst (λ (x : DumpLists). FitsWords x) whole t.fits),
          )
      at (inr s) =
          let fits = subst (λ (x : DumpLists). FitsWords x) is_part t.fits in
          let found = part_differs t.is_told.es t.is_told.rs can s fits in
          let line : first_difference 1 bytes text ≡ Some (1 + found.0) =
          (λ i. first_difference 1 (is_dump.spelled.bytes_are i) ((t.text_is ∙ ap dump_text is_part) i)) ∙ found.1 in (
            begun can
                ∙ ap (λ (b : List ℕ). first_difference 1 b (dump_text (true_dump d))) is_dump.spelled.bytes_are ∙ found.2
                ∙ sym line,
            inr (found.0, line, found.3),
          )

  found_located : (line : Option ℕ) → IsFound bytes d line → Located line
  found_located line (inl third) = (
    ap (λ (b : Bool). if b then first_difference 1 bytes (dump_text (true_dump d)) else Some 3) third.0 ∙ sym third.1,
    inl (λ can. absurd (let no = third.0 in let clash : true ≡ false = sym can ∙ no in cc clash)),
  )
  found_located line (inr text) =
      subst (λ (l : Option ℕ). Located l) (sym text.1.2) (text_located text.1.0 text.0 text.1.1)

  -- a dump where no line is found is clean
  pub found_clean : (line : Option ℕ) → ((a b : DumpLists) → IsDump bytes a → IsDump bytes b → a ≡ b) → IsFound bytes d line → line ≡ None
      → IsVerdict bytes is.Clean
  found_clean line one found none =
      let here = found_located line found in
      at (here.0 ∙ none) here.1
    where
      at : false_line bytes d ≡ None → ((begins d ≡ true → FitsWords (true_dump d))
          ⊎ ((i : ℕ) × (line ≡ Some (1 + i)) × DifferAt i (lines_of d) (lines_of (true_dump d)))) → IsVerdict bytes is.Clean
      at e (inl fits) = clean_told bytes d law one is_dump fits e
      at e (inr differs) = let some = differs.1 in absurd (cc (sym none ∙ some))

  -- one where a line is found is false there
  pub found_false : (line : Option ℕ) (n : ℕ) → IsFound bytes d line → line ≡ Some n → IsVerdict bytes (is.False n)
  found_false line n found some = (d, is_dump, (found_located line found).0 ∙ some)

  pub found_tells : (line : Option ℕ) (n : ℕ) → IsFound bytes d line → line ≡ Some n → TellsFalse bytes (is.False n)
  found_tells line n found some =
      let here = found_located line found in
      at (here.0 ∙ some) here.1
    where
      at : false_line bytes d ≡ Some n → ((begins d ≡ true → FitsWords (true_dump d))
          ⊎ ((i : ℕ) × (line ≡ Some (1 + i)) × DifferAt i (lines_of d) (lines_of (true_dump d)))) → TellsFalse bytes (is.False n)
      at e (inl fits) = false_told bytes d n law is_dump fits e
      at e (inr differs) =
          let place : n ≡ 1 + differs.0 = cc (sym some ∙ differs.1) in
          (d, is_dump, inr (differs.0, omega (arith, place), differs.2))
