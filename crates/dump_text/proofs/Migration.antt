-- Dumps of format 1 as dumps of format 2.
use Rattle.std.proofs.Common.{lit≤, cond, ◌≡◌, ℕ, ◌≤◌, nat_le, ◌==◌, Bool, true, false, List, [], ◌∷◌, ◌++◌, Option, Some, None, refl, ap, ◌∙◌, sym, subst, arith, append_assoc}
use Rattle.std.specs.Prelude.{IsSome}
use Rattle.std.specs.List.{flat_map, AllByRecursion}
use Rattle.std.proofs.lemmas.Bool.{eqb-true}
use Rattle.base.specs.Limits.{in_range}
use Rattle.base.specs.declared.ranges.Limits.{Limits}
use Rattle.call_text.specs.Text.{run, lines_text}
use Rattle.checkpoints.specs.Checkpoint.{Checkpoint}
use Rattle.checkpoints.specs.Restorable.{is_restorable}
use Rattle.checkpoints.specs.Starts.{start_of}
use Rattle.checkpoints.proofs.SoundLaws.{restorable_whole}
use Rattle.checkpoints.proofs.BootReached.{boot_reached}
use Rattle.kernel_rules.specs.History.{boot_start}
use Rattle.kernel_rules.proofs.BootLaws.{booted_well_formed}
use Rattle.text_words.proofs.OneLemmas.{first_part}
use Rattle.dump_text.specs.declared.lines.Format.TheVariants as formats
use Rattle.dump_text.specs.declared.lines.Line.{Line}
use Rattle.dump_text.specs.declared.lines.Line.TheVariants as lines
use Rattle.dump_text.specs.declared.places.Pending.TheVariants as pendings
use Rattle.dump_text.specs.declared.places.Place.{Place}
use Rattle.dump_text.specs.declared.state_lines.StateLine.TheVariants as states
use Rattle.dump_text.specs.Boot.{boot_checkpoint, migrated, first_next, FirstFormatFaultsAt}
use Rattle.dump_text.specs.CheckpointLines.{start_lines}
use Rattle.dump_text.specs.Dump.{format_of, event_lines, history_lines, table_lines, dump_text, comes, after_event, after, start, next, IsDump, DumpFaultsAt}
use Rattle.dump_text.specs.Fits.{FitsWords}
use Rattle.dump_text.specs.Line.{line_text, IsLine}
use Rattle.dump_text.specs.Lists.{DumpLists}
use Rattle.dump_text.specs.Reads.{have_places}
use Rattle.dump_text.specs.declared.tables.PlacedRead.{PlacedRead}
use Rattle.dump_text.proofs.LabelPlaces.{all_append}
use Rattle.dump_text.proofs.LineLemmas.{dump_grammar}
use Rattle.dump_text.proofs.Placing.{first_unread}
use Rattle.dump_text.proofs.Relined.{next_is}
use Rattle.dump_text.proofs.RestorableLines.{checkpoint_fit, objects_whole, objects_paged}
use Rattle.dump_text.proofs.Sequence.{dump_runs}

-- the checkpoint of a boot is of the booted state
pub boot_state : (l : Limits) → start_of l (boot_checkpoint l) ≡ boot_start l
boot_state l = refl

pub boot_restorable : (l : Limits) → in_range l ≡ true → is_restorable l (boot_checkpoint l) ≡ true
boot_restorable l range = (restorable_whole l (boot_checkpoint l)).1 (record {
  well_formed = booted_well_formed l range;
  sound = boot_reached l range;
  ordered = refl;
  threads = refl;
})

-- the dump in format 2, whose words fit
pub migrated_is : (bytes out : List ℕ) (d : DumpLists) → IsDump bytes d → d.checkpoint ≡ None → FitsWords (migrated d) → out ≡ dump_text (migrated d) → IsDump out (migrated d)
migrated_is bytes out d is none fits text =
    let unread = first_unread d.events d.reads (subst (λ (c : Option Checkpoint). have_places c d.events d.reads ≡ true) none is.placed) in
    let first = subst (λ (rs : List PlacedRead). AllByRecursion IsLine (lines.Version formats.One ∷ lines.Limits d.limits ∷ (history_lines d.events rs ++ table_lines d.tables) ++ lines.End ∷ [])) unread
    (subst (λ (c : Option Checkpoint). AllByRecursion IsLine (lines.Version (format_of c) ∷ lines.Limits d.limits ∷ (start_lines c ++ (history_lines d.events d.reads ++ table_lines d.tables)) ++ lines.End ∷ [])) none is.spelled.fit) in
    let can = boot_restorable d.limits first.1.0.1 in
    let rest : AllByRecursion IsLine (start_lines (migrated d).checkpoint ++ ((flat_map event_lines d.events ++ table_lines d.tables) ++ lines.End ∷ [])) =
    all_append IsLine (start_lines (migrated d).checkpoint) ((flat_map event_lines d.events ++ table_lines d.tables) ++ lines.End ∷ []) (checkpoint_fit d.limits (boot_checkpoint d.limits) can fits.start) first.1.1 in
    record {
      spelled = record {
        fit = (tt, (first.1.0, subst (λ (ls : List Line). AllByRecursion IsLine ls) (sym (append_assoc (start_lines (migrated d).checkpoint) (flat_map event_lines d.events ++ table_lines d.tables) (lines.End ∷ []))) rest));
        state = record { first = 14; pending = pendings.Nothing };
        ran = dump_runs (migrated d) (objects_paged (boot_checkpoint d.limits).objects (objects_whole d.limits (boot_checkpoint d.limits) can)) refl;
        ended = refl;
        bytes_are = text;
      };
      placed = refl;
    }

-- the line that begins format 2
abbrev second : Line
second = lines.Version formats.Two

never : IsSome (first_next start second) → ⊥
never h = cc

-- a text that begins with it is not of format 1
pub second_faults : (bytes rest : List ℕ) → bytes ≡ line_text second ++ 10 ∷ rest → FirstFormatFaultsAt bytes 1
second_faults bytes rest is = (
  start,
  (
    bytes,
    record {
      before = [];
      fit = tt;
      ran = refl;
      bytes_are = refl;
      number = refl;
      no_more = λ v more fits may e.
          let same : v ≡ second = dump_grammar.one v second fits tt (first_part 10 (line_text v) (line_text second) more rest (dump_grammar.lacks_end v fits) refl (sym e ∙ is)).0 in
          never (subst (λ (l : Line). IsSome (first_next start l)) same may);
      not_whole = λ e. refl;
    },
  ),
)

-- a dump that doesn't begin with it has no checkpoint
pub no_checkpoint : (bytes : List ℕ) (d : DumpLists) → IsDump bytes d → ((rest : List ℕ) → bytes ≡ line_text second ++ 10 ∷ rest → ⊥) → d.checkpoint ≡ None
no_checkpoint bytes d is other = of d.checkpoint is.spelled.bytes_are
  where
    of : (c : Option Checkpoint) → bytes ≡ lines_text line_text (lines.Version (format_of c) ∷ lines.Limits d.limits ∷ (start_lines d.checkpoint ++ (history_lines d.events d.reads ++ table_lines d.tables)) ++ lines.End ∷ []) → c ≡ None
    of None e = refl
    of (Some c) e = absurd (other (lines_text line_text (lines.Limits d.limits ∷ (start_lines d.checkpoint ++ (history_lines d.events d.reads ++ table_lines d.tables)) ++ lines.End ∷ [])) e)

same_next : (p : Place) (l : Line) → (l ≡ second → ⊥) → first_next p l ≡ next p l
same_next p (lines.Version formats.Two) other = absurd (other refl)
same_next p (lines.Version formats.One) other = refl
same_next p l other = refl

some_next : (p : Place) (l : Line) → IsSome (first_next p l) → IsSome (next p l)
some_next p (lines.Version formats.Two) h = absurd (let e : false ≡ true = h in cc)
some_next p (lines.Version formats.One) h = h
some_next p l h = h

event_some : (first : ℕ) → 1 ≤ after_event first
event_some first = of (nat_le first 6)
  where
    of : (b : Bool) → 1 ≤ cond b 6 7
    of true = lit≤ tt
    of false = lit≤ tt

after_some : (first : ℕ) (l : Line) → 1 ≤ after first l
after_some first (lines.Version formats.One) = lit≤ tt
after_some first (lines.Version formats.Two) = lit≤ tt
after_some first (lines.Limits l) = of (first == 1)
  where
    of : (b : Bool) → 1 ≤ cond b 7 3
    of true = lit≤ tt
    of false = lit≤ tt
after_some first (lines.State (states.Counters c)) = lit≤ tt
after_some first (lines.State (states.Object o)) = lit≤ tt
after_some first (lines.State (states.Part o)) = lit≤ tt
after_some first (lines.State (states.Next o)) = lit≤ tt
after_some first (lines.Event e) = event_some first
after_some first (lines.Batch b) = event_some first
after_some first (lines.Call a) = event_some first
after_some first l = lit≤ tt

-- after the first line no version comes, so the lines stand as in format 1
late_line : (p later q : Place) (l : Line) (vs : List Line) → 1 ≤ p.first → next p l ≡ Some later → (1 ≤ later.first → run first_next (Some later) vs ≡ Some q) → run first_next (Some p) (l ∷ vs) ≡ Some q
late_line p later q l vs some e rest =
    let n = next_is p later l e in
    let far : 1 ≤ later.first = subst (λ (x : Place). 1 ≤ x.first) n.is (after_some p.first l) in
    let other : l ≡ second → ⊥ = λ same.
    let h : (p.first == 0) ≡ true = subst (λ (x : Line). comes p.first x ≡ true) same n.may in
    let zero_is = eqb-true p.first 0 h in
    omega (arith, zero_is, some) in
    ap (λ (x : Option Place). run first_next x vs) (same_next p l other ∙ e) ∙ rest far

late_step : (p q : Place) (l : Line) (vs : List Line) (o : Option Place) → 1 ≤ p.first → next p l ≡ o → run next o vs ≡ Some q
    → ((later : Place) → 1 ≤ later.first → run next (Some later) vs ≡ Some q → run first_next (Some later) vs ≡ Some q) → run first_next (Some p) (l ∷ vs) ≡ Some q
late_step p q l vs None some e ran rest = absurd (let h : ◌≡◌ {A = Option Place} None (Some q) = ran in cc)
late_step p q l vs (Some later) some e ran rest = late_line p later q l vs some e (λ far. rest later far ran)

late_lines : (vs : List Line) (p q : Place) → 1 ≤ p.first → run next (Some p) vs ≡ Some q → run first_next (Some p) vs ≡ Some q
late_lines [] p q some ran = ran
late_lines (l ∷ vs) p q some ran = late_step p q l vs (next p l) some refl ran (λ later far more. late_lines vs later q far more)

first_step : (q : Place) (l : Line) (vs : List Line) (o : Option Place) → (l ≡ second → ⊥) → next start l ≡ o → run next o vs ≡ Some q → run first_next (Some start) (l ∷ vs) ≡ Some q
first_step q l vs None other e ran = absurd (let h : ◌≡◌ {A = Option Place} None (Some q) = ran in cc)
first_step q l vs (Some later) other e ran =
    let n = next_is start later l e in
    let far : 1 ≤ later.first = subst (λ (x : Place). 1 ≤ x.first) n.is (after_some 0 l) in
    ap (λ (x : Option Place). run first_next x vs) (same_next start l other ∙ e) ∙ late_lines vs later q far ran

first_run : (vs : List Line) (q : Place) (bytes rest : List ℕ) → bytes ≡ lines_text line_text vs ++ rest → ((more : List ℕ) → bytes ≡ line_text second ++ 10 ∷ more → ⊥) → run next (Some start) vs ≡ Some q → run first_next (Some start) vs ≡ Some q
first_run [] q bytes rest is other ran = ran
first_run (l ∷ vs) q bytes rest is other ran =
    let parts : bytes ≡ line_text l ++ 10 ∷ (lines_text line_text vs ++ rest) =
    is ∙ append_assoc (line_text l ++ 10 ∷ []) (lines_text line_text vs) rest ∙ append_assoc (line_text l) (10 ∷ []) (lines_text line_text vs ++ rest) in
    first_step q l vs (next start l) (λ same. other (lines_text line_text vs ++ rest) (parts ∙ ap (λ (x : Line). line_text x ++ 10 ∷ (lines_text line_text vs ++ rest)) same)) refl ran

-- the first faulty line of what doesn't begin with it
pub first_faults : (bytes : List ℕ) (n : ℕ) → DumpFaultsAt bytes n → ((more : List ℕ) → bytes ≡ line_text second ++ 10 ∷ more → ⊥) → FirstFormatFaultsAt bytes n
first_faults bytes n f other = (
  f.0,
  (
    f.1.0,
    record {
      before = f.1.1.before;
      fit = f.1.1.fit;
      ran = first_run f.1.1.before f.0 bytes f.1.0 f.1.1.bytes_are other f.1.1.ran;
      bytes_are = f.1.1.bytes_are;
      number = f.1.1.number;
      no_more = λ v more fits may e. f.1.1.no_more v more fits (some_next f.0 v may) e;
      not_whole = f.1.1.not_whole;
    },
  ),
)
