use Rattle.std.proofs.Common.{List, ap, subst}
use mathlib.Core.List.{IsPrefix}
use Rattle.published_copy.specs.declared.entries.Entry.{Entry}
use Rattle.published_copy.specs.Entries.{made}
use Rattle.published_copy.proofs.EntryLaws.{made-prefix}
use Rattle.published_copy.proofs.Prefixes.{compared}
use Rattle.published_copy.proofs.log_positions.LogPosition.has.Goals as goal

pub returns : goal.returns
returns g c =
    let both = c.learn.new.self.log in
    let this : IsPrefix c.self.inside.seen.log both = subst (λ (l : List Entry). IsPrefix l both) (ap {B = List Entry} (λ s. s.log) c.again-both.ensures) c.learn.ensures.2 in
    rw (← c.self.view_is, ← c.other.view_is) (compared (made c.self.inside.seen.log) (made c.other.inside.seen.log) (made both) c.self.inside.length c.other.inside.length
    (made-prefix _ _ this) (made-prefix _ _ c.learn.ensures.3) c.self.invariant.0 c.other.invariant.0)
