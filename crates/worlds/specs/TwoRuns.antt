-- Two worlds that go on side by side: hidden threads call in either, all others in both.
use Rattle.std.specs.Prelude.{◌≡◌, ◌⊎◌, ℕ, Bool, not, ◌&&◌, true, false, List, [], ◌∷◌, None}
use Rattle.label_lattice.specs.Label.{LabelValue}
use Rattle.kernel_rules.specs.State.{State}
use Rattle.kernel_rules.specs.Step.{next, answer, query_answer}
use Rattle.kernel_rules.specs.WellFormed.{is_well_formed}
use Rattle.kernel_rules.specs.declared.calls.Call.{Call}
use Rattle.kernel_rules.specs.declared.calls.Query.{Query}
use Rattle.kernel_rules.specs.declared.calls.Call.TheVariants as call
use Rattle.kernel_laws.specs.Laws.{may_lower}
use Rattle.worlds.specs.Seen.{IsSame, IsOpen, seen_at, is_within}
use Rattle.worlds.specs.Laws.{is_sendable, is_maker, is_unref, is_plain, is_counted, IsSameCount, IsNamedAlike}

-- a call in one of the worlds alone, or a call or a query in both
pub data Move : Type 0 where
  InFirst : ℕ → Call → Move
  InSecond : ℕ → Call → Move
  InBoth : ℕ → Call → Move
  Asked : ℕ → Query → Move

-- the first world after the move
abbrev pub first_after : State → Move → State
first_after s (InFirst t c) = next s t c
first_after s (InSecond t c) = s
first_after s (InBoth t c) = next s t c
first_after s (Asked t q) = s

-- the second world after it
abbrev pub second_after : State → Move → State
second_after n (InFirst t c) = n
second_after n (InSecond t c) = next n t c
second_after n (InBoth t c) = next n t c
second_after n (Asked t q) = n

-- the caller is observed neither before nor after the call; where that is an unreference, containers that l does
-- not observe list nothing that it observes
pub record IsHidden (l : LabelValue) (s : State) (t : ℕ) (c : Call) : Type 0 where
  pub keeps : (is_unref c ≡ false) ⊎ IsOpen l s
  pub before : seen_at l s t ≡ None
  pub after : seen_at l (next s t c) t ≡ None

-- what else a call in both worlds looks at is the same: nothing for a plain call, the next id and category for
-- one that makes something or names categories, the label and flags of what is named for a link and a move of
-- quota; and for an unreference, containers that l does not observe list nothing that it observes
abbrev pub Agreed : LabelValue → State → State → Call → Type 0
Agreed l s n c =
    (is_plain c ≡ true) ⊎ (((is_counted c ≡ true) × IsSameCount s n)
    ⊎ (IsNamedAlike s n c ⊎ ((is_unref c ≡ true) × IsOpen l s × IsOpen l n)))

-- what is called in one world alone is hidden; who calls in both observes no more than l
abbrev pub Permits : LabelValue → State → State → Move → Type 0
Permits l s n (InFirst t c) = IsHidden l s t c
Permits l s n (InSecond t c) = IsHidden l n t c
Permits l s n (InBoth t c) = (is_within l s t ≡ true) × Agreed l s n c
Permits l s n (Asked t q) = is_within l s t ≡ true

-- what is called or asked in both worlds is answered alike
abbrev pub IsAnsweredAlike : State → State → Move → Type 0
IsAnsweredAlike s n (InFirst t c) = Unit {0}
IsAnsweredAlike s n (InSecond t c) = Unit {0}
IsAnsweredAlike s n (InBoth t c) = answer n t c ≡ answer s t c
IsAnsweredAlike s n (Asked t q) = query_answer n t q ≡ query_answer s t q

-- the call of a move carries what a call can carry
abbrev pub can_be_sent : Move → Bool
can_be_sent (InFirst t c) = is_sendable c
can_be_sent (InSecond t c) = is_sendable c
can_be_sent (InBoth t c) = is_sendable c
can_be_sent (Asked t q) = true

-- each move is permitted where it is made
abbrev pub ArePermitted : LabelValue → State → State → List Move → Type 0
ArePermitted l s n [] = Unit {0}
ArePermitted l s n (m ∷ ms) =
    (can_be_sent m ≡ true) × Permits l s n m × ArePermitted l (first_after s m) (second_after n m) ms

-- each is answered alike, and at the end l sees the same
abbrev pub AreAlike : LabelValue → State → State → List Move → Type 0
AreAlike l s n [] = IsSame l s n
AreAlike l s n (m ∷ ms) = IsAnsweredAlike s n m × AreAlike l (first_after s m) (second_after n m) ms

-- whatever hidden threads do in either world, all calls and queries that are made in both are answered alike,
-- and l sees the same
abbrev pub NothingIsTold : Type 0
NothingIsTold =
    (l : LabelValue) (s n : State) (moves : List Move) → is_well_formed s ≡ true → is_well_formed n ≡ true
    → IsSame l s n → ArePermitted l s n moves → AreAlike l s n moves

-- the calls that link nothing, make nothing and enter no gate
abbrev pub is_quiet : Call → Bool
is_quiet (call.Link d e) = false
is_quiet c = not (is_maker c) && not (may_lower c)

-- the calls that ask of an object what is not told
abbrev pub is_aside : Call → Bool
is_aside (call.Link d e) = true
is_aside (call.QuotaMove e n) = true
is_aside c = false

-- what is called in one world alone is quiet, by a thread that l does not observe; who calls in both observes no
-- more than l, and where it links or moves quota, what it names has the same label and flags in both
abbrev pub PermitsQuietly : LabelValue → State → State → Move → Type 0
PermitsQuietly l s n (InFirst t c) = (is_quiet c ≡ true) × (seen_at l s t ≡ None)
PermitsQuietly l s n (InSecond t c) = (is_quiet c ≡ true) × (seen_at l n t ≡ None)
PermitsQuietly l s n (InBoth t c) = (is_within l s t ≡ true) × ((is_aside c ≡ false) ⊎ IsNamedAlike s n c)
PermitsQuietly l s n (Asked t q) = is_within l s t ≡ true

abbrev pub AreQuiet : LabelValue → State → State → List Move → Type 0
AreQuiet l s n [] = Unit {0}
AreQuiet l s n (m ∷ ms) =
    (can_be_sent m ≡ true) × PermitsQuietly l s n m × AreQuiet l (first_after s m) (second_after n m) ms

-- where hidden threads link nothing, make nothing and enter no gate, all that others call and ask in both worlds
-- is answered alike, creations and unreferences among them, and l sees the same: from any state on in which
-- containers that l does not observe list nothing that it observes
abbrev pub NothingIsToldQuietly : Type 0
NothingIsToldQuietly =
    (l : LabelValue) (s : State) (moves : List Move) → is_well_formed s ≡ true → IsOpen l s
    → AreQuiet l s s moves → AreAlike l s s moves
