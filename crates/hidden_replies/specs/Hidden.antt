-- Replies that are others without the calls of hidden threads.
use Rattle.std.specs.Prelude.{◌≡◌, ℕ, Bool, false, not, ◌&&◌, ◌||◌, List, [], ◌∷◌, ◌++◌, map, Option, Some, None, if◌then◌else◌}
use Rattle.label_lattice.specs.Label.{LabelValue}
use Rattle.kernel_rules.specs.State.{State}
use Rattle.kernel_rules.specs.declared.replies.Reply.{Reply}
use Rattle.worlds.specs.Seen.{IsSame}
use Rattle.hidden_replies.specs.Exceptions.{first_of, is_met, when_hidden, when_met}
use Rattle.hidden_replies.specs.Asked.{is_call, reply_to, same_by, state_by}
use Rattle.hidden_replies.specs.declared.differences.Channel.{Channel}
use Rattle.hidden_replies.specs.declared.differences.Difference.{Difference}
use Rattle.hidden_replies.specs.declared.differences.Placed.{Placed}

-- the run, the run without the calls of hidden threads, whether a call was hidden, and the first exception that was met
pub record Runs : Type 0 where
  pub whole : State
  pub purged : State
  pub parted : Bool
  pub exception : Option Channel

-- both begin in one state
abbrev pub both_from : State → Runs
both_from s = record { whole = s; purged = s; parted = false; exception = None }

-- a call is hidden where l observes its thread in neither run. There is no exception before the first such call: both
-- runs are one until then
abbrev pub exception_at : LabelValue → Runs → Placed → Option Channel
exception_at l r p =
    if is_met l r.whole r.purged p.thread
    then (if r.parted then when_met l r.whole r.purged p.thread p.asked else None)
    else when_hidden l r.whole p.thread p.asked

-- a hidden call is made in the whole run alone
abbrev pub purged_after : LabelValue → State → State → Placed → State
purged_after l s n p = if is_met l s n p.thread then state_by n p.thread p.asked else n

abbrev pub after : LabelValue → Runs → Placed → Runs
after l r p = record {
  whole = state_by r.whole p.thread p.asked;
  purged = purged_after l r.whole r.purged p;
  parted = (is_call p.asked && not (is_met l r.whole r.purged p.thread)) || r.parted;
  exception = first_of r.exception (exception_at l r p);
}

-- what is told of a reply of which the exception is named
abbrev pub told_by : Placed → Reply → Reply → Option Channel → List Difference
told_by p x y None = []
told_by p x y (Some c) =
    (record {
      event = p.event;
      place = p.place;
      is_call = is_call p.asked;
      thread = p.thread;
      reply = x;
      otherwise = y;
      channel = c;
    }) ∷ []

-- what is told of a call or a read in both runs: where the replies differ, both, with the exception that holds at the call,
-- or else the first one that was met
abbrev pub told_at : LabelValue → Runs → Placed → List Difference
told_at l r p =
    if same_by p.asked (reply_to r.whole p.thread p.asked) (reply_to r.purged p.thread p.asked)
    then []
    else told_by p (reply_to r.whole p.thread p.asked) (reply_to r.purged p.thread p.asked)
    (first_of (exception_at l r p) r.exception)

abbrev pub told : LabelValue → Runs → Placed → List Difference
told l r p = if is_met l r.whole r.purged p.thread then told_at l r p else []

-- what is told of calls and reads, one after another
abbrev pub differences : LabelValue → Runs → List Placed → List Difference
differences l r [] = []
differences l r (p ∷ ps) = told l r p ++ differences l (after l r p) ps

-- the first exception that was met in the end
abbrev pub exception_in : LabelValue → Runs → List Placed → Option Channel
exception_in l r [] = r.exception
exception_in l r (p ∷ ps) = exception_in l (after l r p) ps

-- a call or a read with its replies in the two runs
pub record Replied : Type 0 where
  pub event : ℕ
  pub place : ℕ
  pub is_call : Bool
  pub reply : Reply
  pub otherwise : Reply

abbrev pub replied_in : Difference → Replied
replied_in d = record {
  event = d.event;
  place = d.place;
  is_call = d.is_call;
  reply = d.reply;
  otherwise = d.otherwise;
}

-- the replies of a call or a read that is made in both runs, where they differ
abbrev pub replied_at : State → State → Placed → List Replied
replied_at s n p =
    if same_by p.asked (reply_to s p.thread p.asked) (reply_to n p.thread p.asked)
    then []
    else (record {
      event = p.event;
      place = p.place;
      is_call = is_call p.asked;
      reply = reply_to s p.thread p.asked;
      otherwise = reply_to n p.thread p.asked;
    }) ∷ []

abbrev pub replied : LabelValue → State → State → Placed → List Replied
replied l s n p = if is_met l s n p.thread then replied_at s n p else []

-- the replies of all calls and reads that are made in both runs, where they differ
abbrev pub differing : LabelValue → State → State → List Placed → List Replied
differing l s n [] = []
differing l s n (p ∷ ps) =
    replied l s n p ++ differing l (state_by s p.thread p.asked) (purged_after l s n p) ps

-- l sees the same of both runs as long as no exception was met, and they are one as long as no call was hidden
pub record IsAgreed (l : LabelValue) (r : Runs) : Type 0 where
  pub same : r.exception ≡ None → IsSame l r.whole r.purged
  pub one : r.parted ≡ false → r.purged ≡ r.whole

-- where l sees the same of both runs as long as no exception was met, all replies that differ in the call are told, and
-- so it is after it
abbrev pub TellsAll : LabelValue → Runs → Placed → Type 0
TellsAll l r p =
    IsAgreed l r → (map replied_in (told l r p) ≡ replied l r.whole r.purged p) × IsAgreed l (after l r p)
