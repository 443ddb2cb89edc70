use Rattle.std.proofs.Common.{subst, ap, ◌∙◌}
use Rattle.dump_text.specs.Dump.{dump_text}
use Rattle.dump_text.specs.Fits.{FitsWords}
use Rattle.dump_text.specs.Lists.{DumpLists}
use Rattle.dump_text.proofs.Migration.{migrated_is}
use Rattle.dump_text.proofs.migrating.migrate.Goals as goal

pub returns : goal.returns
returns c =
    let d = c.in_ok-dump.dump in (
      d,
      c.in_ok-dump.ensures.first,
      c.in_ok-dump.ensures.dump,
      migrated_is c.args.bytes.now c.in_ok-text.text.items d c.in_ok-dump.ensures.dump c.in_ok-dump.ensures.first
          (subst (λ (x : DumpLists). FitsWords x) c.in_ok-begun.ensures c.in_ok-text.ensures.fits)
          (c.in_ok-text.ensures.text ∙ ap dump_text c.in_ok-begun.ensures),
    )
