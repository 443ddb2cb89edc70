use Rattle.std.proofs.Common.{◌≡◌, ℕ, [], sym, subst, rules}
use Rattle.published_copy.specs.Boots.{boot_of}
use Rattle.published_copy.specs.Shares.{IsShown}
use Rattle.published_copy.specs.declared.copies.Copied.{Copied}
use Rattle.published_copy.proofs.Shares.{opens}
use Rattle.published_copy.proofs.writers.first_copies.Goals as goal

pub new-requires-clause-rule : goal.new-requires-clause-rule
new-requires-clause-rule c =
    let shown : (seats : ℕ) → IsShown (boot_of c.args.seen.now.book c.args.limits.now seats) c.in_ok-first.first [] = search rules in
    opens c.in_ok-first.first (shown 0).good

pub returns-clause-shown : goal.returns-clause-shown
returns-clause-shown c =
    let shown : (seats : ℕ) → IsShown (boot_of c.args.seen.now.book c.args.limits.now seats) c.in_ok-first.first [] = search rules in
    let same : c.in_ok-new.field-0.desk.shown.value ≡ c.in_ok-first.first = search rules in
    subst (λ (x : Copied). IsShown (boot_of c.args.seen.now.book c.args.limits.now c.args.seats) x []) (sym same) (shown c.args.seats)
