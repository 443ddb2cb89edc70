-- When a condition of a row holds: where one of its parts stands against the call.
use Rattle.std.specs.Prelude.{◌+◌, Bool, not, nat_lt, List, is_some}
use Rattle.std.specs.List.{list_any}
use Rattle.base.specs.declared.refusals.Refusal.{Refusal}
use Rattle.label_lattice.specs.LabelRules.{both, all_three, below, visible, shown, below_join}
use Rattle.label_lattice.specs.LabelRules.{below_join_up, above_floor}
use Rattle.kernel_rules.specs.Conditions.{meets}
use Rattle.explained.specs.declared.parts.Comparison as comparison
use Rattle.explained.specs.declared.parts.Comparison.TheVariants as compared
use Rattle.explained.specs.declared.parts.Part as part
use Rattle.explained.specs.declared.parts.Part.TheVariants as is
use Rattle.explained.specs.declared.parts.Finding.{Finding}

-- the comparison holds
abbrev pub agrees : comparison.Comparison → Bool
agrees (compared.Below a b) = both below a.label b.label
agrees (compared.Visible a b) = both visible a.label b.label
agrees (compared.Shown a b) = both shown a.label b.label
agrees (compared.BelowJoin a b c) = all_three below_join a.label b.label c.label
agrees (compared.BelowJoinUp a b c) = all_three below_join_up a.label b.label c.label
agrees (compared.AboveFloor a b c) = all_three above_floor a.label b.label c.label

-- the part stands against the call
abbrev pub is_against : part.Part → Bool
is_against (is.Fact told against) = against
is_against (is.Compared labels) = not (agrees labels)
is_against (is.AtLeast number least) = nat_lt number least
is_against (is.AtMost number most) = nat_lt most number
is_against (is.Sum id used more most) = nat_lt most (used + more)
is_against (is.Empty slot mapping) = is_some mapping
is_against (is.Apart slot given mapping) = meets given mapping

-- one part does
abbrev pub refuses : List part.Part → Bool
refuses parts = list_any is_against parts

-- the condition of the row that a finding tells of
abbrev pub condition : Finding → Refusal × Bool
condition f = (f.refusal, refuses f.parts)
