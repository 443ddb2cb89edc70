-- The rule of the two copies, and what its steps tell.
use Rattle.std.specs.Prelude.{◌≡◌, ℕ, ◌+◌, true, false, List, [], ◌∷◌, ◌++◌, length}
use mathlib.Core.Option.{some}
use lib.ListN.{get_elem?}
use Rattle.logbook.specs.Pages.{Book as Log}
use Rattle.base.specs.declared.levels.Level.TheVariants.{L1}
use Rattle.kernel_rules.specs.History.{IsLegal, Follows, state_of}
use Rattle.kernel_rules.specs.Events.{Event, calls_in, replies_in}
use Rattle.kernel_rules.specs.declared.replies.Reply.{Reply}
use Rattle.syscall_core.specs.Kernel.{kernel_state}
use Rattle.published_copy.specs.Boots.{Boot}
use Rattle.published_copy.specs.Absorbed.{calls_with, list_of, listed}
use Rattle.published_copy.specs.declared.copies.Copied.{Copied}
use Rattle.published_copy.specs.declared.ops.Op.{Op}
use Rattle.published_copy.specs.declared.rules.Tag.{Tag}

-- the log that a view names
abbrev pub log_of : Tag → Log
log_of t = record { number = t.number; log_name = t.log_name; cells_name = t.cells_name }

-- the view of whoever knows no boot
abbrev pub unknown : Tag
unknown = record {
  known = false;
  number = 0;
  log_name = 0;
  cells_name = 0;
  limits = record { pages = 0; device = L1; next_id = 0; next_category = 0 };
}

-- the view that names the copy's boot
abbrev pub tag_of : Copied → Tag
tag_of x = record {
  known = true;
  number = x.seen.book.number;
  log_name = x.seen.book.log_name;
  cells_name = x.seen.book.cells_name;
  limits = x.limits;
}

-- the copy's list is legal, and the copy is its state
pub record IsGood (x : Copied) : Type 0 where
  pub len_is : x.length ≡ length (list_of x.sealed x.seen.log)
  pub legal : IsLegal x.limits (list_of x.sealed x.seen.log)
  pub kernel_is : kernel_state x.kernel ≡ state_of x.limits (list_of x.sealed x.seen.log)

-- the copy is of the boot that the view names
abbrev pub Fits : Copied → Tag → Type 0
Fits x v = v.known ≡ true → (x.seen.book ≡ log_of v) × (x.limits ≡ v.limits)

-- the published copy is the state of a legal list, and of the boot that each view names
abbrev pub Keeps : Copied → List Tag → Type 0
Keeps x views = IsGood x × ((seat : ℕ) (v : Tag) → get_elem? views seat ≡ some v → Fits x v)

-- a reader takes a copy of its boot
abbrev pub Sees : Tag → Copied → Copied → Tag → Type 0
Sees v x y w = (w ≡ v) × IsGood x × Fits x v

-- the writer knows the boot of what it shows
abbrev pub Marks : Tag → Copied → Copied → Tag → Type 0
Marks v x y w = w ≡ tag_of y

-- the copy is of this boot, and of this list
pub record IsShown (boot : Boot) (x : Copied) (journal : List Event) : Type 0 where
  pub good : IsGood x
  pub log_is : x.seen.book ≡ boot.log
  pub limits_are : x.limits ≡ boot.limits
  pub list_is : list_of x.sealed x.seen.log ≡ journal

-- what the writer has: the list that it shows, the operations that it has still to show, and what the calls of the list's
-- last event were answered
pub record CopiesView : Type 0 where
  pub list : List Event
  pub pending : List Op
  pub reply : Reply
  pub further : List Reply

abbrev pub copies_with : List Event → List Op → Reply → List Reply → CopiesView
copies_with list pending reply further = record { list = list; pending = pending; reply = reply; further = further }

-- the operation makes the list with one event more at its end, a legal one
pub record IsNext (boot : Boot) (list : List Event) (op : Op) : Type 0 where
  pub event : Event
  pub thread_is : op.thread ≡ event.thread
  pub calls_are : calls_with op ≡ calls_in event
  pub length_is : op.length ≡ length list + 1
  pub log_is : op.seen.book ≡ boot.log
  pub list_is : listed op ≡ list ++ event ∷ []
  pub may : Follows boot.limits list event

-- all that is still to be shown is one operation, which makes this list
pub record IsAwaited (boot : Boot) (copies : CopiesView) (list : List Event) : Type 0 where
  pub op : Op
  pub pending_is : copies.pending ≡ op ∷ []
  pub next : IsNext boot copies.list op
  pub list_is : listed op ≡ list

-- the last event of the list has these replies
pub record EndsWithReplies (list : List Event) (replies : List Reply) : Type 0 where
  pub before : List Event
  pub event : Event
  pub list_is : list ≡ before ++ event ∷ []
  pub replies_are : replies_in event ≡ replies

-- the second copy is the state of its list, and of the boot of the first
abbrev pub Succeeds : Copied → Copied → Type 0
Succeeds x y = IsGood y × (y.seen.book ≡ x.seen.book) × (y.limits ≡ x.limits)

-- the view names this boot
abbrev pub Names : Tag → Boot → Type 0
Names v boot = (v.known ≡ true) × (log_of v ≡ boot.log) × (v.limits ≡ boot.limits)
