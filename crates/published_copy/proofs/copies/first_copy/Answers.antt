use Rattle.std.proofs.Common.{◌∙◌, refl, ap}
use Rattle.published_copy.specs.Boots.{boot_of}
use Rattle.published_copy.specs.Entries.{made}
use Rattle.published_copy.proofs.Commits.{starts}
use Rattle.published_copy.proofs.copies.first_copy.Goals as goal

pub returns-clause-shown : goal.returns-clause-shown
returns-clause-shown c =
    λ seats. starts (boot_of c.args.seen.now.book c.args.limits.now seats) _ (ap (λ s. s.book) c.again.ensures) refl
    c.requires.booted refl (ap (λ s. made s.log) c.again.ensures ∙ ap made c.requires.empty)
