use Rattle.std.proofs.Common.{◌≡◌, false, inl, inr, sym, ◌∙◌, subst, arith}
use Rattle.logged_kernel.proofs.EntryLaws.{parted}
use Rattle.logged_kernel.specs.Entries.{is_later}
use Rattle.logged_kernel.specs.ReadLines.{ReadLine}
use Rattle.logged_kernel.specs.declared.entries.Entry.{Entry}
use Rattle.logged_kernel.specs.declared.entries.Entry.TheVariants as told
use Rattle.logged_kernel.proofs.entries.place_of.Goals as goal

pub returns-else-is_later-clause-place : goal.returns-else-is_later-clause-place
returns-else-is_later-clause-place c = λ line.
    let r : ReadLine = record { thread = c.args.thread; line = line } in
    parted r c.args.entries.now c.loop-at.at c.index-entries-at.result c.loop-at.invariant.within c.loop-at.invariant.after
    (inr (subst (λ (x : Entry). is_later c.args.thread x ≡ false) c.index-entries-at.is (sym c.is_later.ensures ∙ c.if-is_later.false)))

pub returns-after-loop-at-clause-place : goal.returns-after-loop-at-clause-place
returns-after-loop-at-clause-place c = λ line.
    let r : ReadLine = record { thread = c.args.thread; line = line } in
    let none : c.loop-at.at ≡ 0 = omega (arith, c.loop-at-test.false) in
    parted r c.args.entries.now c.loop-at.at (told.Read r) c.loop-at.invariant.within c.loop-at.invariant.after (inl none)
