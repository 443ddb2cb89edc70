-- Whole runs of scripts, and what their lines are told.
use Rattle.std.specs.Prelude.{◌≡◌, ℕ, true, false, List, [], ◌∷◌, length, codes, Some, None, Ok, Err}
use Rattle.base.specs.declared.levels.Level.{Level}
use Rattle.base.specs.declared.levels.Level.TheVariants.{L1, L2, L3}
use Rattle.text_words.specs.declared.references.Reference.TheVariants.{Name}
use Rattle.text_words.specs.Spoken.{call_with}
use Rattle.text_words.specs.declared.spoken_calls.args.Arg.{Arg}
use Rattle.text_words.specs.declared.spoken_calls.args.Arg.TheVariants as args
use Rattle.text_words.specs.declared.spoken_calls.verbs.Verb.{Verb}
use Rattle.text_words.specs.declared.spoken_calls.verbs.Verb.TheVariants as verbs
use Rattle.call_text.specs.declared.phases.Line.{Line}
use Rattle.script_rules.specs.Run.{run}
use Rattle.script_rules.specs.Lines.{AnsweredLine, told}
use Rattle.base.specs.declared.refusals.Refusal.TheVariants.{CannotObserve, NoThread}
use Rattle.kernel_rules.specs.declared.replies.Reply.{Reply}
use Rattle.kernel_rules.specs.declared.replies.Reply.TheVariants as reply
use Rattle.rule_scripts.specs.Play.{category, limits}

-- a line of a worker, which is no batch's
abbrev pub says : ℕ → List ℕ → Verb → List Arg → Line
says number worker verb xs =
    record { number = number; binds = None; worker = worker; more = false; call = call_with verb xs }

-- one that binds a name
abbrev pub binding : ℕ → List ℕ → List ℕ → Verb → List Arg → Line
binding number name worker verb xs =
    record { number = number; binds = Some name; worker = worker; more = false; call = call_with verb xs }

-- a line whose batch goes on
abbrev pub more : Line → Line
more l = record l { more = true }

abbrev pub named : List ℕ → Arg
named name = args.Object (Name name)

abbrev pub plain : Level → Arg
plain level = args.Label (record { pairs = []; default = level })

-- a label with one category
abbrev pub with_one : List ℕ → Level → Level → Arg
with_one name level default =
    args.Label (record { pairs = record { category = Name name; level = level } ∷ []; default = default })

-- a line of a worker is told a reply
abbrev pub tells : ℕ → List ℕ → Reply → List ℕ × AnsweredLine
tells number worker r = (worker, told number (Ok r))

-- or a name that is not known
abbrev pub lacks : ℕ → List ℕ → List ℕ → List ℕ × AnsweredLine
lacks number worker name = (worker, told number (Err name))

-- c = boot: cat_create · s = boot: segment_create root {c:3,1} 2 1 · boot: segment_write root s 0 6162
-- t = boot: thread_create root {1} 1 {2} 0 · -- · t: segment_read root s 0 2 · -- · boot: segment_read root s 0 2
abbrev pub secret_lines : List (List Line)
secret_lines =
    (binding 1 (codes "c") (codes "boot") verbs.CatCreate []
    ∷ binding 2 (codes "s") (codes "boot") verbs.SegmentCreate
    (named (codes "root") ∷ with_one (codes "c") L3 L1 ∷ args.Number 2 ∷ args.Number 1 ∷ [])
    ∷ says 3 (codes "boot") verbs.SegmentWrite (named (codes "root") ∷ named (codes "s") ∷ args.Number 0 ∷ args.Data (97 ∷ 98 ∷ []) ∷ [])
    ∷ binding 4 (codes "t") (codes "boot") verbs.ThreadCreate
    (named (codes "root") ∷ plain L1 ∷ args.Number 1 ∷ plain L2 ∷ args.Wide 0 ∷ []) ∷ [])
    ∷ (says 6 (codes "t") verbs.SegmentRead (named (codes "root") ∷ named (codes "s") ∷ args.Number 0 ∷ args.Number 2 ∷ []) ∷ [])
    ∷ (says 8 (codes "boot") verbs.SegmentRead (named (codes "root") ∷ named (codes "s") ∷ args.Number 0 ∷ args.Number 2 ∷ []) ∷ [])
    ∷ []

-- a thread that does not own the category can't read what its owner reads
abbrev pub Secret : Type 0
Secret =
    (run (limits 64 L1 4 1) secret_lines).told
    ≡ tells 1 (codes "boot") (reply.Category (category 1))
    ∷ tells 2 (codes "boot") (reply.Object 4)
    ∷ tells 3 (codes "boot") reply.Done
    ∷ tells 4 (codes "boot") (reply.Object 5)
    ∷ tells 6 (codes "t") (reply.Refused CannotObserve)
    ∷ tells 8 (codes "boot") (reply.Bytes (97 ∷ 98 ∷ [])) ∷ []

-- x = boot:+ segment_create root {1} 2 1 · boot: unref root x · boot: unref root x
abbrev pub batch_lines : List (List Line)
batch_lines =
    (more (binding 1 (codes "x") (codes "boot") verbs.SegmentCreate
    (named (codes "root") ∷ plain L1 ∷ args.Number 2 ∷ args.Number 1 ∷ []))
    ∷ says 2 (codes "boot") verbs.Unref (named (codes "root") ∷ named (codes "x") ∷ [])
    ∷ says 3 (codes "boot") verbs.Unref (named (codes "root") ∷ named (codes "x") ∷ []) ∷ []) ∷ []

-- a name that a batch binds is not known in it, but after it
abbrev pub Batch : Type 0
Batch =
    (run (limits 64 L1 4 1) batch_lines).told
    ≡ tells 1 (codes "boot") (reply.Object 4)
    ∷ lacks 2 (codes "boot") (codes "x")
    ∷ tells 3 (codes "boot") reply.Done ∷ []

-- boot: unref root s · -- · s = boot: segment_create root {1} 2 1
abbrev pub early_lines : List (List Line)
early_lines =
    (says 1 (codes "boot") verbs.Unref (named (codes "root") ∷ named (codes "s") ∷ []) ∷ [])
    ∷ (binding 3 (codes "s") (codes "boot") verbs.SegmentCreate
    (named (codes "root") ∷ plain L1 ∷ args.Number 2 ∷ args.Number 1 ∷ []) ∷ []) ∷ []

-- no name is known before the line that binds it
abbrev pub Early : Type 0
Early =
    (run (limits 64 L1 4 1) early_lines).told
    ≡ lacks 1 (codes "boot") (codes "s")
    ∷ tells 3 (codes "boot") (reply.Object 4) ∷ []

-- nobody: self_get · -- · s = boot: segment_create root {1} 2 1 · -- · s: self_get
abbrev pub seatless_lines : List (List Line)
seatless_lines =
    (says 1 (codes "nobody") verbs.SelfGet [] ∷ [])
    ∷ (binding 3 (codes "s") (codes "boot") verbs.SegmentCreate
    (named (codes "root") ∷ plain L1 ∷ args.Number 2 ∷ args.Number 1 ∷ []) ∷ [])
    ∷ (says 5 (codes "s") verbs.SelfGet [] ∷ []) ∷ []

-- who has no thread is not answered by the kernel
abbrev pub Seatless : Type 0
Seatless =
    (run (limits 64 L1 4 1) seatless_lines).told
    ≡ lacks 1 (codes "nobody") (codes "nobody")
    ∷ tells 3 (codes "boot") (reply.Object 4)
    ∷ tells 5 (codes "s") (reply.Refused NoThread) ∷ []

-- the calls of a batch are one event, and a line that names what is not known is none
abbrev pub OneEvent : Type 0
OneEvent = length (run (limits 64 L1 4 1) batch_lines).events ≡ 2

abbrev pub RunsTell : Type 0
RunsTell = Secret × Batch × Early × Seatless × OneEvent
