use Rattle.std.proofs.Common.{List, ap, subst}
use mathlib.Core.List.{IsPrefix}
use Rattle.shared_calls.specs.declared.rules.Made.{Made}
use Rattle.shared_calls.proofs.Prefixes.{compared}
use Rattle.shared_calls.proofs.cursors.Cursor.has.Goals as goal

pub returns : goal.returns
returns c =
    let mine = c.args.self.now in
    let theirs = c.args.other.now in
    let both = c.learn.new.self.log in
    let this : IsPrefix mine.seen.log both = subst (λ (l : List Made). IsPrefix l both) (ap (λ s. s.log) c.again-both.ensures) c.learn.ensures.2 in
    compared mine.seen.log theirs.seen.log both mine.count theirs.count this c.learn.ensures.3 c.requires.placed.count c.requires.other.count
