-- The one history of a shared kernel, as two threads and who has its book are told of it.
use mathlib.Core.List.{IsPrefix}
use Rattle.std.specs.Prelude.{◌≡◌, ℕ, List, [], Option, option_map, slice_get}
use Rattle.std.specs.Option.{option_and_then}
use Rattle.base.specs.declared.ranges.Limits.{Limits}
use Rattle.label_lattice.specs.Bits.{bits_of}
use Rattle.label_lattice.specs.Label.{LabelValue}
use Rattle.kernel_rules.specs.Events.{Event}
use Rattle.kernel_rules.specs.History.{IsLegal, state_of}
use Rattle.kernel_rules.specs.Scratch.{ids_of}
use Rattle.kernel_rules.specs.State.{State, object_at, use_of}
use Rattle.kernel_rules.specs.Step.{query_answer}
use Rattle.kernel_rules.specs.Translate.{translate}
use Rattle.kernel_rules.specs.declared.calls.Call.{Call}
use Rattle.kernel_rules.specs.declared.calls.Query.{Query}
use Rattle.kernel_rules.specs.declared.replies.Reply.{Reply}
use Rattle.arena_state.specs.Kept.{AreStored}
use Rattle.published_copy.specs.Turns.{Turn, turn, TellsBatch, with_event}
use Rattle.published_copy.specs.declared.receipts.BatchReceipt.{BatchReceipt}
use Rattle.one_history.specs.declared.kept.KeptParts.{KeptParts}
use Rattle.one_history.specs.declared.kept.Looked.{Looked}

-- how the labels of two indexes compare, if both have one
abbrev pub compared : Option LabelValue → Option LabelValue → Option ℕ
compared one other = option_and_then (λ l. option_map (λ m. bits_of l m) other) one

-- The labels are those of two indexes, of which each label that the state stores has one, and no other label has any; how they
-- compare is what recomputation gives.
abbrev pub IsDecided : State → Looked → KeptParts → Type 0
IsDecided s looked kept =
    (labels : ℕ → Option LabelValue) × AreStored s labels
    × (kept.one ≡ labels looked.one.0) × (kept.other ≡ labels looked.other.0)
    × (option_map (λ o. o.0) kept.order ≡ compared kept.one kept.other)

-- what is kept is what recomputation gives in the state
abbrev pub IsRecomputed : State → Looked → KeptParts → Type 0
IsRecomputed s looked kept =
    (kept.live ≡ slice_get (ids_of s.objects) looked.place)
    × (kept.used ≡ option_map (λ _. use_of s looked.object) (object_at s looked.object))
    × (kept.shown ≡ translate s looked.object looked.slot)
    × IsDecided s looked kept

-- the turn of a thread that has no event yet
abbrev pub first : ℕ → Turn
first thread = turn thread 1 []

-- the list is some journal with the event of the thread's first batch at its end, and the receipt tells of that event
abbrev pub IsCalled : Limits → ℕ → List Call → BatchReceipt → List Event → Type 0
IsCalled limits thread calls receipt list =
    (journal : List Event) × IsLegal limits list
    × (list ≡ with_event limits journal (first thread) calls)
    × TellsBatch limits journal (first thread) calls receipt

-- the list is legal and begins with another, and the reply is the answer in its state
abbrev pub IsAnswered : Limits → List Event → ℕ → Query → Reply → List Event → Type 0
IsAnswered limits earlier thread query reply list =
    IsPrefix earlier list × IsLegal limits list × (reply ≡ query_answer (state_of limits list) thread query)

-- The journal is the one history. It is legal. It begins with all that the reader has seen, which begins with all that the
-- writer was told, and ends there with the writer's calls. The receipt is theirs, and the reply is the rules' answer in the
-- state of what the reader has seen. What is kept is what recomputation gives in the journal's state.
abbrev pub IsOneHistory : Limits → ℕ → List Call → ℕ → Query → Looked → BatchReceipt → Reply → KeptParts → Type 0
IsOneHistory limits writer calls reader query looked receipt reply kept =
    (journal seen called : List Event) × IsLegal limits journal × IsPrefix seen journal
    × IsCalled limits writer calls receipt called
    × IsAnswered limits called reader query reply seen
    × IsRecomputed (state_of limits journal) looked kept
