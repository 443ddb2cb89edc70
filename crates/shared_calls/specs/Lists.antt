-- The list, its rule, and what its steps tell.
use Rattle.std.specs.Prelude.{ℕ, ◌≡◌, ◌≢◌, ◌<◌, ◌⊎◌, ◌==◌, true, List, [], ◌∷◌, ◌++◌, length, MatchBool}
use Rattle.std.specs.List.{AllByRecursion}
use Rattle.logbook.specs.Pages.{Cell, Step, View, Book, Named, cell, nib, may_make}
use Rattle.kernel_rules.specs.Events.{by}
use Rattle.kernel_rules.specs.History.{is_batch}
use Rattle.kernel_rules.specs.declared.calls.Call.{Call}
use Rattle.shared_calls.specs.declared.rules.Made.{Made}

abbrev pub made : ℕ → ℕ → List Call → Made
made mark thread calls = record { mark = mark; thread = thread; calls = calls }

-- the calls of a list, one after another, each with its thread
abbrev pub calls_in : List Made → List (ℕ × Call)
calls_in [] = []
calls_in (m ∷ ms) = by m.thread m.calls ++ calls_in ms

-- no batch of the list has the mark
abbrev pub Lacks : ℕ → List Made → Type 0
Lacks mark log = AllByRecursion (λ (m : Made). m.mark ≢ mark) log

-- no two batches have one mark
abbrev pub AreMarked : List Made → Type 0
AreMarked [] = Unit {0}
AreMarked (m ∷ ms) = Lacks m.mark ms × AreMarked ms

-- each batch has 1 to 16 calls
abbrev pub AreBatches : List Made → Type 0
AreBatches log = AllByRecursion (λ (m : Made). is_batch m.calls ≡ true) log

-- the word of this key is at home
abbrev pub IsHome : List Cell → ℕ → Type 0
IsHome cells key = (key < length cells) × ((cell cells key).1 ≡ true)

-- the word of each mark is at home
abbrev pub AreHome : List Cell → List Made → Type 0
AreHome cells log = AllByRecursion (λ (m : Made). IsHome cells m.mark) log

-- the first word is the length of the list; the second is at home, and so is the word of each mark
pub record IsKept (cells : List Cell) (log : List Made) : Type 0 where
  pub head : IsHome cells 0
  pub count : (cell cells 0).0 ≡ length log
  pub source : IsHome cells 1
  pub home : AreHome cells log
  pub marked : AreMarked log
  pub sized : AreBatches log

abbrev pub word_of : Book → ℕ → Named
word_of b key = record { tracked = true; key = key; book = b }

-- the first word of a list, and the second, from which seats draw their first marks
abbrev pub head_of : Book → Named
head_of b = word_of b 0

abbrev pub source_of : Book → Named
source_of b = word_of b 1

-- the batch was added to all that had been seen, and the right to its mark is used up; or the list was longer, and nothing was
-- added: the right is as it was, and no batch has its mark
abbrev pub Adds : Step Made → View Made ℕ → ℕ → View Made ℕ → Type 0
Adds s v found w = MatchBool (found == s.old) (w.0 ≡ v.0 ++ s.ask ∷ []) ((w.1.0 ≡ v.1.0) × Lacks v.1.0.key w.0)

-- a right to a word that is not made yet
abbrev pub Draws : Step Made → View Made ℕ → ℕ → View Made ℕ → Type 0
Draws s v found w = w.1.0 ≡ nib may_make w.1.0.key 0

-- the right is as it was; no batch has its mark, and no two have one mark
abbrev pub Looks : Step Made → View Made ℕ → ℕ → View Made ℕ → Type 0
Looks s v found w = (w.1.0 ≡ v.1.0) × Lacks v.1.0.key w.0 × AreMarked w.0

-- the word is one from which marks are drawn: the second one, or that of the last batch
abbrev pub IsSource : ℕ → List Made → Type 0
IsSource key log = (key ≡ 1) ⊎ ((before : List Made) × (m : Made) × (log ≡ before ++ m ∷ []) × (m.mark ≡ key))
