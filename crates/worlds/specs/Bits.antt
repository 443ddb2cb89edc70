-- How much a reply tells of the ids and categories that hidden threads drew.
use Rattle.std.specs.Prelude.{◌≡◌, ℕ, ◌+◌, ◌*◌, zero, suc, true, List, [], ◌∷◌, ◌++◌, length}
use Rattle.std.specs.List.{Contains}
use Rattle.label_lattice.specs.Label.{LabelValue}
use Rattle.kernel_rules.specs.State.{State}
use Rattle.kernel_rules.specs.Step.{next, answer}
use Rattle.kernel_rules.specs.Runs.{state_after}
use Rattle.kernel_rules.specs.WellFormed.{is_well_formed}
use Rattle.kernel_rules.specs.declared.calls.Call.{Call}
use Rattle.kernel_rules.specs.declared.calls.Call.TheVariants as call
use Rattle.kernel_rules.specs.declared.replies.Reply.{Reply}
use Rattle.worlds.specs.Seen.{is_within}
use Rattle.worlds.specs.Laws.{is_counted, is_sendable}
use Rattle.worlds.specs.TwoRuns.{IsHidden}

-- the state in which i ids and k categories more were given
abbrev pub drawn : State → ℕ → ℕ → State
drawn s i k = record s { next_id = s.next_id + i; next_category = s.next_category + k }

-- the call's answer there
abbrev pub answer_drawn : State → ℕ → Call → ℕ → ℕ → Reply
answer_drawn s t c i k = answer (drawn s i k) t c

-- its answers where i ids and at most m categories more were given
abbrev pub answers_beside : State → ℕ → Call → ℕ → ℕ → List Reply
answers_beside s t c i zero = answer_drawn s t c i 0 ∷ []
answers_beside s t c i (suc m) = answer_drawn s t c i (suc m) ∷ answers_beside s t c i m

-- its answers where at most n ids and at most m categories more were given
abbrev pub answers_within : State → ℕ → Call → ℕ → ℕ → List Reply
answers_within s t c zero m = answers_beside s t c 0 m
answers_within s t c (suc n) m = answers_beside s t c (suc n) m ++ answers_within s t c n m

-- a call makes one object, or none
abbrev pub objects_by : Call → ℕ
objects_by (call.ContainerCreate k) = 1
objects_by (call.SegmentCreate k) = 1
objects_by (call.SegmentCopy k) = 1
objects_by (call.AsCreate k) = 1
objects_by (call.ThreadCreate k) = 1
objects_by (call.GateCreate k) = 1
objects_by c = 0

-- and one category, or none
abbrev pub categories_by : Call → ℕ
categories_by call.CatCreate = 1
categories_by c = 0

-- how many objects these calls make at most, and how many categories
abbrev pub all_objects : List (ℕ × Call) → ℕ
all_objects [] = 0
all_objects (c ∷ cs) = objects_by c.1 + all_objects cs

abbrev pub all_categories : List (ℕ × Call) → ℕ
all_categories [] = 0
all_categories (c ∷ cs) = categories_by c.1 + all_categories cs

-- each of the calls is hidden where it is made
abbrev pub AreHidden : LabelValue → State → List (ℕ × Call) → Type 0
AreHidden l s [] = Unit {0}
AreHidden l s (c ∷ cs) =
    (is_sendable c.1 ≡ true) × IsHidden l s c.0 c.1 × AreHidden l (next s c.0 c.1) cs

-- After calls of hidden threads that make at most n objects and m categories, whoever observes no more than l is
-- told one of (n + 1) * (m + 1) replies, where it makes something, names categories or enters a gate: the
-- answers where up to n ids and up to m categories more were given.
abbrev pub OneOfFew : Type 0
OneOfFew =
    (l : LabelValue) (s : State) (hidden : List (ℕ × Call)) (t : ℕ) (c : Call) → is_well_formed s ≡ true
    → AreHidden l s hidden → is_within l s t ≡ true → is_counted c ≡ true
    → Contains (answers_within s t c (all_objects hidden) (all_categories hidden)) (answer (state_after s hidden) t c)

-- so many replies
abbrev pub FewAreCounted : Type 0
FewAreCounted =
    (s : State) (t : ℕ) (c : Call) (n m : ℕ) → length (answers_within s t c n m) ≡ (n + 1) * (m + 1)
