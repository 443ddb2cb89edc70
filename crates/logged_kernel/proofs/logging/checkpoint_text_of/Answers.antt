use Rattle.std.proofs.Common.{◌≡◌, ◌∙◌, List, [], ℕ, Some, refl, sym, ap, subst}
use Rattle.checkpoints.specs.Starts.{start_of}
use Rattle.dump_text.specs.Dump.{dump_text, IsDump}
use Rattle.dump_text.specs.Fits.{FitsWords}
use Rattle.dump_text.specs.Lists.{DumpLists}
use Rattle.dump_text.specs.Whole.{whole_dump}
use Rattle.dump_text.specs.declared.tables.PlacedRead.{PlacedRead}
use Rattle.kernel_rules.proofs.HistoryLaws.{legal_none_from}
use Rattle.kernel_rules.specs.Events.{Event}
use Rattle.logged_kernel.specs.Logged.{checkpoint_text}
use Rattle.logged_kernel.proofs.logging.checkpoint_text_of.Goals as goal

pub returns : goal.returns
returns c =
    let limits = c.args.limits.now in
    let checkpoint = c.args.checkpoint in
    let dump : List Event → List PlacedRead → DumpLists = λ events reads. whole_dump limits (Some checkpoint) events reads in
    let events = c.new-events.ensures.items in
    let reads = c.new-reads.ensures.items in
    let fits = subst (λ rs. FitsWords (dump [] rs)) reads
    (subst (λ es. FitsWords (dump es c.new-reads.result.items)) events c.in_ok-text.ensures.fits) in
    let text : c.in_ok-text.text.items ≡ checkpoint_text limits checkpoint =
    c.in_ok-text.ensures.text ∙ ap (λ es. dump_text (dump es c.new-reads.result.items)) events
    ∙ ap (λ rs. dump_text (dump [] rs)) reads in
    let legal = legal_none_from (start_of limits checkpoint) [] refl in
    let dumped = c.legal_is_dump.ensures limits (Some checkpoint) [] [] c.requires.range c.requires.fit legal tt refl fits in (
      text,
      (
        c.requires.range,
        c.requires.fit,
        (
          [],
          [],
          legal,
          record { answers = tt; rising = refl },
          subst (λ (bytes : List ℕ). IsDump bytes (dump [] [])) (sym text) dumped,
        ),
      ),
    )
