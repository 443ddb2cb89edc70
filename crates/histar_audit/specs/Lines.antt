-- The line that tells a reply which hidden threads changed.
use Rattle.std.specs.Prelude.{ℕ, Bool, if◌then◌else◌, List, [], ◌∷◌, ◌++◌, codes, decimal}
use Rattle.call_text.specs.Reply.{reply_text}
use Rattle.call_text.specs.ReplyWord.{value_text}
use Rattle.call_text.specs.declared.known_names.Named.{Named}
use Rattle.call_text.specs.declared.known_names.Value.TheVariants as values
use Rattle.hidden_replies.specs.declared.differences.Channel.{Channel}
use Rattle.hidden_replies.specs.declared.differences.Channel.TheVariants as channel
use Rattle.hidden_replies.specs.declared.differences.Difference.{Difference}

-- the name of a channel
abbrev pub channel_name : Channel → List ℕ
channel_name channel.NextId = codes "next id"
channel_name channel.NextCategory = codes "next category"
channel_name channel.Untold = codes "untold"
channel_name channel.NotOpen = codes "not open"
channel_name channel.Shown = codes "shown"
channel_name channel.Owner = codes "owner"

-- where a call or a read stands in the dump
abbrev pub where_text : Bool → ℕ → ℕ → List ℕ
where_text call event place =
    if call
    then codes "differs at event " ++ decimal event ++ codes ", call " ++ decimal place
    else codes "differs after event " ++ decimal event ++ codes ", read " ++ decimal place

-- and who asked, by the first name that is bound to it
abbrev pub place_text : List Named → Difference → List ℕ
place_text names d =
    where_text d.is_call d.event d.place ++ (codes ", thread " ++ value_text names (values.Object d.thread))

-- both replies, as dumps spell them, with names
abbrev pub replies_text : List Named → Difference → List ℕ
replies_text names d =
    codes ": " ++ reply_text names d.reply ++ codes ", else " ++ reply_text names d.otherwise

-- the line of a reply that differs
abbrev pub difference_line : List Named → Difference → List ℕ
difference_line names d =
    place_text names d ++ replies_text names d
    ++ codes ", by " ++ channel_name d.channel ++ 10 ∷ []
