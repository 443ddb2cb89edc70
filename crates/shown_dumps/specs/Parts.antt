-- Conditions in words: whether each refuses the call, and of each part what is so, and where a comparison of labels fails.
use Rattle.std.specs.Prelude.{ℕ, Bool, ◌-◌, ◌==◌, List, [], ◌∷◌, ◌++◌, Option, Some, None, codes, decimal, if◌then◌else◌}
use Rattle.std.specs.List.{flat_map}
use Rattle.base.specs.declared.refusals.Refusal.{Refusal}
use Rattle.label_lattice.specs.Label.{LabelValue}
use Rattle.kernel_rules.specs.declared.objects.Mapping.{Mapping}
use Rattle.kernel_rules.specs.declared.replies.Reply.TheVariants as replies
use Rattle.call_text.specs.Reply.{reply_text}
use Rattle.call_text.specs.ReplyWord.{value_text}
use Rattle.call_text.specs.declared.known_names.Named.{Named}
use Rattle.call_text.specs.declared.known_names.Value.TheVariants.{Category as OfCategory, Object as OfObject}
use Rattle.explained.specs.Compared.{sides, named_of, rest_of}
use Rattle.explained.specs.Parts.{is_against, refuses}
use Rattle.explained.specs.declared.failing.Failure.{Failure}
use Rattle.explained.specs.declared.failing.Ranks.{Ranks}
use Rattle.explained.specs.declared.relations.Rank.{Rank}
use Rattle.explained.specs.declared.relations.Rank.TheVariants.{Star, L0, L1, L2, L3, J}
use Rattle.explained.specs.declared.parts.Comparison.{Comparison}
use Rattle.explained.specs.declared.parts.Comparison.TheVariants as compared
use Rattle.explained.specs.declared.parts.Finding.{Finding}
use Rattle.explained.specs.declared.parts.Part.{Part}
use Rattle.explained.specs.declared.parts.Part.TheVariants as is
use Rattle.explained.specs.declared.parts.Role.{Role}
use Rattle.explained.specs.declared.parts.Role.TheVariants as roles
use Rattle.explained.specs.declared.parts.Side.{Side}
use Rattle.shown_dumps.specs.Facts.{told_text}

-- what stands before a label, by whose it is
abbrev pub before_text : Role → List ℕ
before_text roles.Own = codes "the thread's "
before_text roles.OwnClearance = codes "the thread's clearance "
before_text (roles.Object id) = []
before_text (roles.Gate id) = codes "clearance "
before_text roles.Given = codes "the given "
before_text roles.GivenClearance = codes "the given clearance "
before_text roles.Verified = codes "the shown "

-- and after it: the object whose it is, by the names that are known
abbrev pub after_text : List Named → Role → List ℕ
after_text names (roles.Object id) = codes " of " ++ value_text names (OfObject id)
after_text names (roles.Gate id) = codes " of " ++ value_text names (OfObject id)
after_text names role = []

-- a label, where it is there
abbrev pub label_text : List Named → Role → Option LabelValue → List ℕ
label_text names role None = codes "no label"
label_text names role (Some label) = before_text role ++ reply_text names (replies.Label label)

-- and whose it is
abbrev pub side_text : List Named → Side → List ℕ
side_text names side = label_text names side.role side.label ++ after_text names side.role

-- what a slot maps
abbrev pub mapping_text : List Named → Option Mapping → List ℕ
mapping_text names mapping = reply_text names (replies.Mapping mapping)

-- a rank as a level: * below all, 0 to 3, and J, a star that is raised above all
abbrev pub rank_text : Rank → List ℕ
rank_text Star = codes "*"
rank_text L0 = codes "0"
rank_text L1 = codes "1"
rank_text L2 = codes "2"
rank_text L3 = codes "3"
rank_text J = codes "J"

-- the first words where something stands against the call, and else the others
abbrev pub either : Bool → List ℕ → List ℕ → List ℕ
either against bad good = if against then bad else good

-- two labels with words between them
abbrev pub two_text : List Named → Side → List ℕ → Side → List ℕ
two_text names a words b = side_text names a ++ words ++ side_text names b

-- how a label stands to another one, and to the maximum of two others
abbrev pub at_most_text : Bool → List ℕ
at_most_text against = either against (codes " is not at most ") (codes " is at most ")

abbrev pub maximum_text : Bool → List ℕ
maximum_text against = either against (codes " is not at most the maximum of ") (codes " is at most the maximum of ")

-- what is to be so of labels, or that it is not
abbrev pub comparison_text : List Named → Bool → Comparison → List ℕ
comparison_text names against (compared.Below a b) = two_text names a (at_most_text against) b
comparison_text names against (compared.Visible a b) = two_text names a (at_most_text against) b ++ codes " with star raised"
comparison_text names against (compared.Shown a b) =
    two_text names a (either against (codes " with star raised is not at most ") (codes " with star raised is at most ")) b
    ++ codes " with star raised"
comparison_text names against (compared.BelowJoin a b c) =
    two_text names a (maximum_text against) b ++ codes " and " ++ side_text names c
comparison_text names against (compared.BelowJoinUp a b c) =
    two_text names a (maximum_text against) b ++ codes " and " ++ side_text names c ++ codes " with star raised"
comparison_text names against (compared.AboveFloor a b c) =
    two_text names c (either against (codes " is not at least the floor of ") (codes " is at least the floor of ")) a
    ++ codes " and " ++ side_text names b

-- how many pages are to come, and how many there may be
abbrev pub more_text : Bool → ℕ → ℕ → List ℕ
more_text against more most = decimal more ++ either against (codes " more are above ") (codes " more are at most ") ++ decimal most

-- what is to be so, or that it is not
abbrev pub said_text : List Named → Bool → Part → List ℕ
said_text names opposed (is.Fact fact against) = told_text opposed fact
said_text names opposed (is.Compared labels) = comparison_text names opposed labels
said_text names opposed (is.AtLeast number least) =
    decimal number ++ either opposed (codes " is less than ") (codes " is at least ") ++ decimal least
said_text names opposed (is.AtMost number most) =
    decimal number ++ either opposed (codes " is more than ") (codes " is at most ") ++ decimal most
said_text names opposed (is.Sum id used more most) =
    (decimal used ++ codes " pages used and " ++ more_text opposed more most) ++ (codes ", the quota of " ++ value_text names (OfObject id))
said_text names opposed (is.Empty slot mapping) =
    codes "slot " ++ decimal slot ++ either opposed (codes " is not empty: it has ") (codes " is empty: it has ")
    ++ mapping_text names mapping
said_text names opposed (is.Apart slot given mapping) =
    mapping_text names (Some given) ++ either opposed (codes " meets a page of slot ") (codes " meets no page of slot ")
    ++ decimal slot ++ codes ": it has " ++ mapping_text names mapping

-- the level that is too high, and the one that it is to be at most
abbrev pub ranks_text : Ranks → List ℕ
ranks_text ranks = rank_text ranks.left ++ codes " above " ++ rank_text ranks.right ++ 10 ∷ []

-- a category at which a comparison fails
abbrev pub failure_text : List Named → Failure → List ℕ
failure_text names failure =
    codes "          " ++ value_text names (OfCategory failure.category) ++ codes ": " ++ ranks_text failure.ranks

-- those of the exceptions
abbrev pub named_text : List Named → Option (List Failure) → List ℕ
named_text names None = []
named_text names (Some failures) = flat_map (failure_text names) failures

-- and all others, where it fails there
abbrev pub rest_text : Option Ranks → List ℕ
rest_text None = []
rest_text (Some ranks) = codes "          all others: " ++ ranks_text ranks

-- where a part's comparison fails
abbrev pub failing_text : List Named → Part → List ℕ
failing_text names (is.Compared labels) = named_text names (named_of (sides labels)) ++ rest_text (rest_of (sides labels))
failing_text names part = []

-- what is so of a part, and where its comparison fails
abbrev pub shown_text : List Named → Part → List ℕ
shown_text names part = said_text names (is_against part) part ++ 10 ∷ failing_text names part

-- a part: ok where it is as it is to be, and bad where it stands against the call
abbrev pub part_text : List Named → Part → List ℕ
part_text names part = either (is_against part) (codes "    bad ") (codes "    ok  ") ++ shown_text names part

-- a condition: yes where it refuses the call
abbrev pub finding_text : List Named → Finding → List ℕ
finding_text names finding =
    either (refuses finding.parts) (codes "yes ") (codes "no  ") ++ reply_text [] (replies.Refused finding.refusal)
    ++ 10 ∷ flat_map (part_text names) finding.parts

-- a part that stands against the call, after the refusal that it is the reason of
abbrev pub reason_text : List Named → Refusal → Part → List ℕ
reason_text names refusal part =
    if is_against part
    then reply_text [] (replies.Refused refusal) ++ codes ": " ++ shown_text names part
    else []

-- the reasons of a condition
abbrev pub reasons_text : List Named → Finding → List ℕ
reasons_text names finding = flat_map (reason_text names finding.refusal) finding.parts

-- a condition, or its reasons alone
abbrev pub condition_text : List Named → Bool → Finding → List ℕ
condition_text names whole finding = if whole then finding_text names finding else reasons_text names finding
