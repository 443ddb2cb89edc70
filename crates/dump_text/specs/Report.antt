-- The replies of events: those of write calls.
use Rattle.std.specs.Prelude.{ℕ, ◌<◌, ◌≤◌, ◌^◌, List, [], ◌∷◌, ◌++◌, codes, decimal}
use Rattle.base.specs.declared.refusals.Refusal.{Refusal}
use Rattle.base.specs.Refusal.{told_as}
use Rattle.kernel_rules.specs.declared.replies.Reply.{Reply}
use Rattle.kernel_rules.specs.declared.replies.Reply.TheVariants as replies
use Rattle.text_words.specs.DataWord.{IsData}
use Rattle.call_text.specs.Reply.{reply_text}

-- a reply's one spelling, where no name is known
abbrev pub report_text : Reply → List ℕ
report_text r = reply_text [] r

-- the kernel refused
abbrev pub IsKernels : Refusal → Type 0
IsKernels r = (told_as r).number ≤ 25

-- a write call may answer this
abbrev pub IsReport : Reply → Type 0
IsReport replies.Done = Unit {0}
IsReport (replies.Category c) = c.0 < 2 ^ 64
IsReport (replies.Object id) = id < 2 ^ 64
IsReport (replies.Entered point closure) = (point < 2 ^ 64) × (closure < 2 ^ 64)
IsReport (replies.Bytes d) = IsData d
IsReport (replies.Refused r) = IsKernels r
IsReport _ = ⊥

-- where a thread that entered a gate runs, and what it was handed
abbrev pub entered_text : ℕ × ℕ → List ℕ
entered_text p = codes "entered " ++ (decimal p.0 ++ 32 ∷ decimal p.1)

-- both are of 64 bits
abbrev pub AreEntered : ℕ × ℕ → Type 0
AreEntered p = (p.0 < 2 ^ 64) × (p.1 < 2 ^ 64)
