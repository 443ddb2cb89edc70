use Rattle.std.proofs.Common.{◌≡◌, ◌+◌, ◌*◌, List, ◌∷◌, length, ap, subst, arith, rules}
use mathlib.Core.List.{IsPrefix}
use Rattle.shared_calls.specs.Names.{name_of}
use Rattle.shared_calls.specs.declared.rules.Made.{Made}
use Rattle.shared_calls.proofs.Taking.{last_batch, stands_next}
use Rattle.shared_calls.proofs.blocks.Block.next.Goals as goal

pub returns-clause-log : goal.returns-clause-log
returns-clause-log c =
    let block = c.args.self.now in
    let at = c.args.at in
    let seen = c.args.seen.now in
    let next = c.in_ok-next.next.now in
    let stands = c.in_ok-next.ensures in
    let both = c.learn.new.self.log in
    let tag : c.index.result.now.tag ≡ (block.number * 256 + at) ∷ name_of block.start.book = search rules in
    let number : block.number * 256 + at ≡ length stands.0 = cc (tag, stands.2) in
    let count : length stands.0 ≡ length seen.log = omega (arith, number, c.requires.count) in
    let begins : IsPrefix seen.log both =
    subst (λ (l : List Made). IsPrefix l both) (ap (λ s. s.log) c.again-both.ensures) c.learn.ensures.2 in (
      stands.1,
      stands_next seen.log stands.0 next.seen.log both _ stands.3 count begins c.learn.ensures.3,
      last_batch stands.0 next.seen.log both _ stands.3 c.learn.ensures.3 c.learn.ensures.4.1.sized,
    )
