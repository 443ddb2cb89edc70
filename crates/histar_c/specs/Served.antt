-- What the exports do to the kernel that C's memory holds, and what C is told.
use Rattle.std.specs.Prelude.{◌≡◌, ◌⊎◌, ◌==◌, ◌&&◌, ℕ, Bool, List, [], take, drop, true, Option, Some, None, option_map, Result, Ok, Err}
use Rattle.std.specs.Bool.{MatchBool}
use Rattle.base.specs.Limits.{in_range}
use Rattle.base.specs.declared.ranges.Limits.{Limits}
use Rattle.kernel_rules.specs.declared.replies.Reply.{Reply}
use Rattle.kernel_rules.specs.Runs.{booted}
use Rattle.kernel_rules.specs.Step.{answer, query_answer}
use Rattle.kernel_rules.specs.declared.calls.Call.{Call}
use Rattle.kernel_rules.specs.declared.calls.Query.{Query}
use Rattle.kernel_rules.specs.declared.replies.Reply.TheVariants as replies
use Rattle.dump_text.specs.Boot.{boot_checkpoint}
use Rattle.logged_kernel.specs.Logged.{Logged, IsCut, IsMade, IsPiece, IsRight, IsWritten, begun, is_full, keeps_reads, with_query}
use Rattle.logged_kernel.specs.declared.entries.Entry.{Entry}
use Rattle.logged_kernel.specs.declared.kernel.NotKept.{NotKept}
use Rattle.logged_kernel.specs.declared.kernel.NotKept.TheVariants as not_kept
use Rattle.call_records.specs.Asked.{Asked, Write, Read, Look, Log, Nothing, asked}
use Rattle.call_records.specs.Logs.{TellsLength}
use Rattle.call_records.specs.declared.logs.LogRequest.TheVariants as logs
use Rattle.call_records.specs.Labels.{level_of}
use Rattle.call_records.specs.Lookups.{TellsFound}
use Rattle.call_records.specs.Told.{Tells, refusal_number}
use Rattle.call_records.specs.declared.lookups.Found.{Found}
use Rattle.call_records.specs.declared.lookups.Lookup.{Lookup}
use Rattle.call_records.specs.declared.records.Answer.{Answer}
use Rattle.call_records.specs.declared.records.Request.{Request}
use Rattle.syscall_core.specs.Kernel.{kernel_state}
use Rattle.syscall_core.specs.declared.kernel.Kernel.{Kernel}
use Rattle.histar_c.specs.Found.{IsFound}
use Rattle.histar_c.specs.declared.held.Held.{Held}
use Rattle.histar_c.specs.declared.held.Kept.{Kept}

-- the kernel with its log, or why there is none
abbrev pub kernel_in : Result Kept ℕ → Result Logged ℕ
kernel_in (Ok kept) = Ok kept.logged
kernel_in (Err why) = Err why

-- the same of what is held
abbrev pub held_kernel : Held → Result Logged ℕ
held_kernel held = kernel_in held.kernel

-- it is this kernel; or there is none, and the number is 30
abbrev pub IsKept : Logged → Result Logged ℕ → Type 0
IsKept k (Ok kept) = kept ≡ k
IsKept k (Err why) = why ≡ 30

-- the limits of these numbers, none where the device's level is none
abbrev pub limits_of : ℕ → ℕ → ℕ → ℕ → Option Limits
limits_of pages device id category =
    option_map (λ level. record { pages = pages; device = level; next_id = id; next_category = category })
    (level_of device)

-- a new kernel that is booted with these limits, whose calls are not kept
abbrev pub IsBooted : Limits → Result Logged ℕ → Type 0
IsBooted limits (Ok k) =
    (kernel_state k.kernel ≡ booted limits) × (k.limits ≡ limits) × (k.origin ≡ boot_checkpoint limits) × (k.is_new ≡ true)
    × (k.log ≡ None)
IsBooted limits (Err why) = ⊥

-- a new kernel that is booted with these limits, or 30 for want of memory; 31 where they are out of range
abbrev pub IsBoot : Option Limits → Result Logged ℕ → Type 0
IsBoot None held = held ≡ Err 31
IsBoot (Some limits) held =
    MatchBool (in_range limits) (IsBooted limits held ⊎ (held ≡ Err 30)) (held ≡ Err 31)

-- the number is that of the reply's refusal, 0 for none, and the record tells the reply
abbrev pub IsTold : Reply → ℕ → Answer → Type 0
IsTold reply number told = (number ≡ refusal_number reply) × Tells reply told

-- what is found is told
abbrev pub IsFoundTold : Kernel → Lookup → ℕ → Answer → Type 0
IsFoundTold kernel lookup number told =
    (number ≡ 0) × ((found : Found) × IsFound kernel lookup found × TellsFound found told)

-- the kernel, its log and the piece of a text that was made last are as they were
abbrev pub IsSame : Kept → Kept → Type 0
IsSame before after = (after.logged ≡ before.logged) × (after.text.items ≡ before.text.items)

-- nothing is done and nothing is told but this number
abbrev pub IsRefused : ℕ → Kept → Kept → ℕ → Answer → Answer → Type 0
IsRefused why before after number old told = IsSame before after × (number ≡ why) × (told ≡ old)

-- the number that tells why a call is not kept
abbrev pub not_kept_number : NotKept → ℕ
not_kept_number not_kept.NoMemory = 40
not_kept_number not_kept.LogFull = 49

-- a call is made and answered by the rules, and where a log is kept its event is the last; or a log is
-- kept and there is no memory for the event, and the number is 40
abbrev pub IsMadeOrLacks : Call → ℕ → Kept → Kept → ℕ → Answer → Answer → Type 0
IsMadeOrLacks call thread before after number old told =
    (IsMade before.logged after.logged thread call × (after.text.items ≡ before.text.items)
    × IsTold (answer (kernel_state before.logged.kernel) thread call) number told)
    ⊎ ((before.logged.log ≡ None → ⊥) × IsRefused 40 before after number old told)

-- the same, where the log has not as much as it may have; where it has, the number is 49
abbrev pub IsCalled : Call → ℕ → Kept → Kept → ℕ → Answer → Answer → Type 0
IsCalled call thread before after number old told =
    MatchBool (is_full before.logged) (IsRefused 49 before after number old told)
    (IsMadeOrLacks call thread before after number old told)

-- a query is asked and answered by the rules, and where reads are kept its line is; or they are, and there is no memory for it, and the
-- number is 40
abbrev pub IsAskedOrLacks : Query → ℕ → Kept → Kept → ℕ → Answer → Answer → Type 0
IsAskedOrLacks query thread before after number old told =
    ((after.logged ≡ with_query before.logged thread query) × (after.text.items ≡ before.text.items)
    × IsTold (query_answer (kernel_state before.logged.kernel) thread query) number told)
    ⊎ ((keeps_reads before.logged ≡ true) × IsRefused 40 before after number old told)

-- the same, where reads are not kept or the log has not as much as it may have; else the number is 49
abbrev pub IsAsked : Query → ℕ → Kept → Kept → ℕ → Answer → Answer → Type 0
IsAsked query thread before after number old told =
    MatchBool (before.logged.reads && is_full before.logged) (IsRefused 49 before after number old told)
    (IsAskedOrLacks query thread before after number old told)

-- the log, of so much at most and with reads or without, begins; or a call was made before, and the number is 45
abbrev pub IsBegun : ℕ → Bool → Kept → Kept → ℕ → Answer → Answer → Type 0
IsBegun most reads before after number old told =
    MatchBool before.logged.is_new
    ((after.logged ≡ begun most reads before.logged) × (after.text.items ≡ before.text.items)
    × IsTold replies.Done number told)
    (IsRefused 45 before after number old told)

-- a piece of the dump of what is kept is made, which is right, and its length is told; or there is no memory for it, and the number is
-- 51. Where no log is kept, the number is 45
abbrev pub IsDumpedIn : Option (List Entry) → ℕ → Kept → Kept → ℕ → Answer → Answer → Type 0
IsDumpedIn None piece before after number old told = IsRefused 45 before after number old told
IsDumpedIn (Some kept) piece before after number old told =
    ((after.logged ≡ before.logged) × IsPiece before.logged kept piece after.text.items × IsRight before.logged kept
    × (number ≡ 0) × TellsLength after.text.items told)
    ⊎ IsRefused 51 before after number old told

abbrev pub IsDumped : ℕ → Kept → Kept → ℕ → Answer → Answer → Type 0
IsDumped piece before after number old told = IsDumpedIn before.logged.log piece before after number old told

-- the text of a checkpoint that writes down the kernel is made, and its length is told; or there is no memory for it, and
-- the number is 51
abbrev pub IsSavedWhole : Kept → Kept → ℕ → Answer → Answer → Type 0
IsSavedWhole before after number old told =
    ((after.logged ≡ before.logged) × IsWritten before.logged after.text.items
    × (number ≡ 0) × TellsLength after.text.items told)
    ⊎ IsRefused 51 before after number old told

-- the same as its one piece; the others are empty
abbrev pub IsSaved : ℕ → Kept → Kept → ℕ → Answer → Answer → Type 0
IsSaved piece before after number old told =
    MatchBool (piece == 0) (IsSavedWhole before after number old told)
    ((after.logged ≡ before.logged) × (after.text.items ≡ []) × (number ≡ 0) × TellsLength [] told)

-- the log begins anew at the kernel as it stands, of so much at most and with reads or without; or there is no memory for that, and the
-- number is 40
abbrev pub IsLogCut : ℕ → Bool → Kept → Kept → ℕ → Answer → Answer → Type 0
IsLogCut most reads before after number old told =
    (IsCut most reads before.logged after.logged × (after.text.items ≡ before.text.items)
    × IsTold replies.Done number told)
    ⊎ IsRefused 40 before after number old told

-- exactly what is asked for is done, and answered by the rules; where that is nothing, nothing changes
-- and the number is 45
abbrev pub IsDone : Asked → ℕ → Kept → Kept → ℕ → Answer → Answer → Type 0
IsDone (Write call) thread before after number old told = IsCalled call thread before after number old told
IsDone (Read query) thread before after number old told = IsAsked query thread before after number old told
IsDone (Look lookup) thread before after number old told =
    IsSame before after × IsFoundTold before.logged.kernel lookup number told
IsDone (Log (logs.Begin most reads)) thread before after number old told = IsBegun most reads before after number old told
IsDone (Log (logs.Dump piece)) thread before after number old told = IsDumped piece before after number old told
IsDone (Log (logs.Text from)) thread before after number old told =
    IsSame before after × IsTold (replies.Bytes (take 64 (drop from before.text.items))) number told
IsDone (Log (logs.Checkpoint piece)) thread before after number old told = IsSaved piece before after number old told
IsDone (Log (logs.Cut most reads)) thread before after number old told = IsLogCut most reads before after number old told
IsDone Nothing thread before after number old told = IsRefused 45 before after number old told

-- the same, where a kernel may be held; where none is, nothing changes and the number is why
abbrev pub IsServed : Request → Result Kept ℕ → Result Kept ℕ → ℕ → Answer → Answer → Type 0
IsServed request (Ok before) held number old told =
    (after : Kept) × (held ≡ Ok after)
    × IsDone (asked request) request.thread before after number old told
IsServed request (Err why) held number old told = (held ≡ Err why) × (number ≡ why) × (told ≡ old)
