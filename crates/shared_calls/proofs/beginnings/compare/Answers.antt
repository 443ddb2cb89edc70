use Rattle.std.proofs.Common.{List, ap, subst, arith}
use mathlib.Core.List.{IsPrefix}
use Rattle.shared_calls.specs.declared.rules.Made.{Made}
use Rattle.shared_calls.proofs.Prefixes.{prefix_shorter}
use Rattle.shared_calls.proofs.beginnings.compare.Goals as goal

pub returns : goal.returns
returns c =
    let mine = c.args.end.now.seen.log in
    let told = c.args.cursor.now.seen.log in
    let both = c.learn.new.self.log in
    let this : IsPrefix mine both = subst (λ (l : List Made). IsPrefix l both) (ap (λ s. s.log) c.again-both.ensures) c.learn.ensures.2 in
    prefix_shorter told mine both c.learn.ensures.3 this (omega (arith, c.requires.placed.count, c.requires.ended.count, c.requires.less))
