-- What bytes with a verdict are.
use Rattle.std.proofs.Common.{◌≡◌, ◌≤◌, ℕ, Bool, true, false, if◌then◌else◌, nat_le, List, [], ◌∷◌, ◌++◌, Option, Some, None}
use Rattle.std.proofs.Common.{refl, sym, ap, ◌∙◌, subst}
use Rattle.std.proofs.lemmas.Bool.{leb-true}
use Rattle.base.specs.declared.ranges.Limits.{Limits}
use Rattle.call_text.specs.Text.{run}
use Rattle.checkpoints.specs.Checkpoint.{Checkpoint}
use Rattle.kernel_rules.specs.History.{IsLegalFrom}
use Rattle.kernel_rules.specs.Events.{Event}
use Rattle.dump_text.specs.CheckpointLines.{start_lines}
use Rattle.dump_text.specs.Dump.{dump_text, history_lines, table_lines, format_of, next, start, IsDump, DumpFaultsAt}
use Rattle.dump_text.specs.declared.lines.Format.TheVariants as formats
use Rattle.dump_text.specs.declared.lines.Line.{Line}
use Rattle.dump_text.specs.declared.lines.Line.TheVariants as lines
use Rattle.dump_text.specs.declared.places.Pending.TheVariants as pendings
use Rattle.dump_text.specs.declared.places.Place.{Place}
use Rattle.dump_text.specs.Lists.{DumpLists}
use Rattle.dump_text.specs.Whole.{AreRead, CanBegin, start_with, whole_dump}
use Rattle.dump_text.specs.declared.tables.PlacedRead.{PlacedRead}
use Rattle.dump_text.proofs.Batches.{lines_batches}
use Rattle.auditor.specs.Replay.{replayed, true_reads}
use Rattle.auditor.specs.Verdict.{true_dump, can_begin, begins, false_line, first_difference, IsVerdict, IsLegalText}
use Rattle.auditor.specs.declared.verdicts.Verdict.{Verdict}
use Rattle.auditor.specs.declared.verdicts.Verdict.TheVariants as is
use Rattle.auditor.proofs.ReplayLaws.{replayed_legal, replayed_same}
use Rattle.auditor.proofs.DifferenceLaws.{equal_none}
use Rattle.auditor.proofs.ReadLaws.{reads_same, true_are}

-- that bytes spell one dump, that what spells one has no faulty line, and that the first faulty line is one
pub record OneReading (bytes : List ℕ) : Type 0 where
  pub value : (a b : DumpLists) → IsDump bytes a → IsDump bytes b → a ≡ b
  pub fault : (n : ℕ) (a : DumpLists) → DumpFaultsAt bytes n → IsDump bytes a → ⊥
  pub line : (n m : ℕ) → DumpFaultsAt bytes n → DumpFaultsAt bytes m → n ≡ m

-- what is clean has no false line
pub clean_line : (bytes : List ℕ) (d : DumpLists) → IsDump bytes d → begins d ≡ true → d ≡ true_dump d → false_line bytes d ≡ None
clean_line bytes d is_dump can same =
    ap (λ (b : Bool). if b then first_difference 1 bytes (dump_text (true_dump d)) else Some 3) can
    ∙ equal_none 1 bytes (dump_text (true_dump d)) (is_dump.spelled.bytes_are ∙ ap dump_text same)

module _ (bytes : List ℕ) (one : OneReading bytes) where
  lines_same : (a b : DumpLists) (x y : Option ℕ) → IsDump bytes a → IsDump bytes b
      → false_line bytes a ≡ x → false_line bytes b ≡ y → x ≡ y
  lines_same a b x y ia ib ea eb = sym ea ∙ ap (false_line bytes) (one.value a b ia ib) ∙ eb

  pub verdicts_same : (v w : Verdict) → IsVerdict bytes v → IsVerdict bytes w → v ≡ w
  verdicts_same is.Clean is.Clean a b = refl
  verdicts_same is.Clean (is.False n) a b =
      absurd (cc (lines_same a.0 b.0 None (Some n) a.1 b.1 (clean_line bytes a.0 a.1 a.2 a.3) b.2))
  verdicts_same is.Clean (is.Unreadable n) a b = absurd (one.fault n a.0 b a.1)
  verdicts_same (is.False n) is.Clean a b =
      absurd (cc (lines_same a.0 b.0 (Some n) None a.1 b.1 a.2 (clean_line bytes b.0 b.1 b.2 b.3)))
  verdicts_same (is.False n) (is.False m) a b =
      let same : n ≡ m = cc (lines_same a.0 b.0 (Some n) (Some m) a.1 b.1 a.2 b.2) in ap is.False same
  verdicts_same (is.False n) (is.Unreadable m) a b = absurd (one.fault m a.0 b a.1)
  verdicts_same (is.Unreadable n) is.Clean a b = absurd (one.fault n b.0 a b.1)
  verdicts_same (is.Unreadable n) (is.False m) a b = absurd (one.fault n b.0 a b.1)
  verdicts_same (is.Unreadable n) (is.Unreadable m) a b = ap is.Unreadable (one.line n m a b)

-- the limits of format 1 may not come where they have more than 512 pages
not_next : (limits : Limits) → nat_le limits.pages 512 ≡ false
    → next (record { first = 1; pending = pendings.Nothing }) (lines.Limits limits) ≡ None
unfolding next
not_next limits many = rw many refl

-- a dump of format 1 has at most 512 pages
few_pages : (limits : Limits) (ls : List Line) (state : Place)
    → run next (Some start) (lines.Version formats.One ∷ lines.Limits limits ∷ ls) ≡ Some state → limits.pages ≤ 512
unfolding next
few_pages limits ls state ran = go (nat_le limits.pages 512) refl
  where
    go : (v : Bool) → nat_le limits.pages 512 ≡ v → limits.pages ≤ 512
    go true is = leb-true limits.pages 512 is
    go false is =
        let bad : None ≡ Some state =
        subst (λ (x : Option Place). run next x ls ≡ Some state) (not_next limits is) ran in
        absurd (cc bad)

-- where a dump's events can begin, its checkpoint can be restored, or its pages are few
pub begins_can : (bytes : List ℕ) (d : DumpLists) → IsDump bytes d → begins d ≡ true → CanBegin d.limits d.checkpoint
begins_can bytes d is_dump h = at d.checkpoint refl h
  where
    at : (c : Option Checkpoint) → d.checkpoint ≡ c → can_begin d.limits c ≡ true → CanBegin d.limits c
    at None is b =
        few_pages d.limits ((start_lines d.checkpoint ++ (history_lines d.events d.reads ++ table_lines d.tables)) ++ lines.End ∷ [])
        is_dump.spelled.state
        (subst (λ (c : Option Checkpoint). run next (Some start) (lines.Version (format_of c) ∷ lines.Limits d.limits
        ∷ (start_lines d.checkpoint ++ (history_lines d.events d.reads ++ table_lines d.tables)) ++ lines.End ∷ [])
        ≡ Some is_dump.spelled.state) is is_dump.spelled.ran)
    at (Some c) is b = b

pub can_begins : (limits : Limits) (c : Option Checkpoint) → CanBegin limits c → can_begin limits c ≡ true
can_begins limits None h = refl
can_begins limits (Some c) h = h

pub no_line : (b : Bool) (x : Option ℕ) → (if b then x else Some 3) ≡ None → (b ≡ true) × (x ≡ None)
no_line true x h = (refl, h)
no_line false x h = absurd (cc h)

-- what is clean is the true dump, whose events are legal
pub clean_legal : (bytes : List ℕ) → IsVerdict bytes is.Clean → IsLegalText bytes
clean_legal bytes v =
    let d = v.0 in (
      d.limits,
      d.checkpoint,
      (
        v.1.spelled.fit.1.0.1,
        begins_can bytes d v.1 v.2,
        (
          replayed (start_with d.limits d.checkpoint) d.events,
          true_reads (start_with d.limits d.checkpoint) d.events d.reads,
          replayed_legal (start_with d.limits d.checkpoint) d.events (lines_batches d v.1.spelled.fit),
          true_are (start_with d.limits d.checkpoint) d.events d.reads,
          subst (λ (x : DumpLists). IsDump bytes x) v.3 v.1,
        ),
      ),
    )

true_same : (limits : Limits) (c : Option Checkpoint) (events : List Event) (reads : List PlacedRead)
    → IsLegalFrom (start_with limits c) events → AreRead (start_with limits c) events reads
    → true_dump (whole_dump limits c events reads) ≡ whole_dump limits c events reads
true_same limits c events reads legal are = λ i.
    whole_dump limits c (replayed_same (start_with limits c) events legal i) (reads_same (start_with limits c) events reads are i)

-- the dump of legal events, and of reads that the rules answer so, is the true one
pub legal_clean : (bytes : List ℕ) (limits : Limits) (c : Option Checkpoint) (events : List Event) (reads : List PlacedRead)
    → CanBegin limits c → IsLegalFrom (start_with limits c) events → AreRead (start_with limits c) events reads
    → IsDump bytes (whole_dump limits c events reads) → IsVerdict bytes is.Clean
legal_clean bytes limits c events reads can legal are is_dump =
    (whole_dump limits c events reads, is_dump, can_begins limits c can, sym (true_same limits c events reads legal are))
