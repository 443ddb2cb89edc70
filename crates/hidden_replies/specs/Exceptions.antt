-- Which exception of the law that nothing is told holds at a call.
use Rattle.std.specs.Prelude.{ℕ, Bool, true, false, not, ◌==◌, ◌&&◌, ◌||◌, Option, Some, None, if◌then◌else◌}
use Rattle.std.specs.List.{list_all}
use Rattle.std.specs.Ordering.{is_eq}
use Rattle.std.specs.Bool.{beq}
use Rattle.label_lattice.specs.Label.{LabelValue}
use Rattle.label_lattice.specs.Listing.{label_cmp}
use Rattle.label_lattice.specs.LabelRules.{both, visible}
use Rattle.call_text.specs.declared.asking.Asked.{Asked}
use Rattle.call_text.specs.declared.asking.Asked.TheVariants.{Read, Write}
use Rattle.kernel_rules.specs.State.{State, label_at, listed, object_at}
use Rattle.kernel_rules.specs.Step.{next}
use Rattle.kernel_rules.specs.declared.calls.Call.{Call}
use Rattle.kernel_rules.specs.declared.calls.Call.TheVariants as call
use Rattle.kernel_rules.specs.declared.objects.Object.{Object}
use Rattle.worlds.specs.Bits.{objects_by}
use Rattle.worlds.specs.Laws.{is_counted, is_unref}
use Rattle.worlds.specs.Seen.{is_within}
use Rattle.hidden_replies.specs.declared.differences.Channel.{Channel}
use Rattle.hidden_replies.specs.declared.differences.Channel.TheVariants as channel

-- l observes the object
abbrev pub is_seen : LabelValue → State → ℕ → Bool
is_seen l s o = both visible (label_at s o) (Some l)

-- l observes who calls, in one of the two worlds at least
abbrev pub is_met : LabelValue → State → State → ℕ → Bool
is_met l s n t = is_seen l s t || is_seen l n t

-- l observes the object, or nothing that it lists
abbrev pub hides_none : LabelValue → State → Object → Bool
hides_none l s x = visible x.label l || list_all (λ o. not (is_seen l s o)) (listed x.body)

-- what l does not observe lists nothing that l observes
abbrev pub is_open : LabelValue → State → Bool
is_open l s = list_all (λ e. hides_none l s e.1) s.objects

-- an object has the same label and flags in both worlds, or is in neither
abbrev pub same_untold : Option Object → Option Object → Bool
same_untold None None = true
same_untold (Some x) (Some y) =
    is_eq (label_cmp x.label y.label) && beq x.fixed y.fixed && beq x.immutable y.immutable
same_untold (Some x) None = false
same_untold None (Some y) = false

-- the exception that a test tells
abbrev pub unless : Bool → Channel → Option Channel
unless test exception = if test then None else Some exception

-- the first one, or else the second
abbrev pub first_of : Option Channel → Option Channel → Option Channel
first_of None y = y
first_of (Some x) y = Some x

-- a call that makes an object draws an id and names categories
abbrev pub of_counts : State → State → Call → Option Channel
of_counts s n c =
    if objects_by c == 1
    then first_of (unless (n.next_id == s.next_id) channel.NextId)
    (unless (n.next_category == s.next_category) channel.NextCategory)
    else first_of (unless (n.next_category == s.next_category) channel.NextCategory)
    (unless (n.next_id == s.next_id) channel.NextId)

-- the exception for a call in both worlds by a thread that observes no more than l
abbrev pub of_call : LabelValue → State → State → Call → Option Channel
of_call l s n (call.Link d e) = unless (same_untold (object_at s e.object) (object_at n e.object)) channel.Untold
of_call l s n (call.QuotaMove e k) = unless (same_untold (object_at s e.object) (object_at n e.object)) channel.Untold
of_call l s n (call.Unref e) = unless (is_open l s && is_open l n) channel.NotOpen
of_call l s n c = if is_counted c then of_counts s n c else None

-- none for a read
abbrev pub of_asked : LabelValue → State → State → Asked → Option Channel
of_asked l s n (Write c) = of_call l s n c
of_asked l s n (Read q) = None

-- by any thread
abbrev pub when_met : LabelValue → State → State → ℕ → Asked → Option Channel
when_met l s n t a = if is_within l s t then of_asked l s n a else Some channel.Owner

-- the exception for a hidden call in the first world
abbrev pub when_hidden : LabelValue → State → ℕ → Asked → Option Channel
when_hidden l s t (Write c) =
    first_of (unless (not (is_unref c) || is_open l s) channel.NotOpen)
    (unless (not (is_seen l (next s t c) t)) channel.Shown)
when_hidden l s t (Read q) = None
