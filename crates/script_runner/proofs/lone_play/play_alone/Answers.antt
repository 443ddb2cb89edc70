use Rattle.std.proofs.Common.{◌≡◌, ◌∙◌, List, sym, subst}
use Rattle.base.specs.declared.ranges.Limits.{Limits}
use Rattle.kernel_rules.specs.Events.{Event}
use Rattle.kernel_rules.specs.History.{IsLegal, state_of}
use Rattle.kernel_rules.specs.Scratch.{scratch}
use Rattle.script_rules.specs.Output.{text_of}
use Rattle.script_rules.specs.Run.{run_from, start}
use Rattle.script_runner.specs.Turns.{reads_in}
use Rattle.script_runner.proofs.lone_play.play_alone.Goals as goal

pub returns-clause-played : goal.returns-clause-played
returns-clause-played g c =
    let limits : Limits = c.args.limits.now in
    let boot : Limits = g.B.Naming.boot.limits in
    let journal : List Event = c.told_in-told.new.player.desk.journal in
    let same : limits ≡ boot = c.requires.limits in
    let items : c.into_events-events.result.items ≡ journal = c.into_events-events.ensures.journal in
    let legal : IsLegal boot journal = c.into_events-events.ensures.legal in
    let tables : c.in_ok-told.tables ≡ scratch (state_of boot journal) = c.in_ok-told.ensures.tables in (
      c.in_ok-boot.ensures.limits,
      (
        subst (λ (z : Limits × List Event). IsLegal z.0 z.1) (λ i. (sym same i, sym items i)) legal,
        tables ∙ (λ i. scratch (state_of (sym same i) (sym items i))),
      ),
    )

pub returns-clause-text : goal.returns-clause-text
returns-clause-text g c =
    c.in_ok-told.ensures.text
    ∙ (λ i. text_of (run_from (sym c.requires.limits i) (sym c.requires.seats i) start c.args.script.now) c.args.workers.now.keys)

pub returns-clause-events : goal.returns-clause-events
returns-clause-events g c =
    let events : c.told_in-told.new.player.desk.journal
    ≡ (run_from g.B.Naming.boot.limits g.B.Naming.boot.seats start c.args.script.now).events = c.in_ok-told.ensures.events in
    c.into_events-events.ensures.journal ∙ events
    ∙ (λ i. (run_from (sym c.requires.limits i) (sym c.requires.seats i) start c.args.script.now).events)

pub returns-clause-names : goal.returns-clause-names
returns-clause-names g c =
    c.in_ok-told.ensures.names
    ∙ (λ i. (run_from (sym c.requires.limits i) (sym c.requires.seats i) start c.args.script.now).names)

pub returns-clause-reads : goal.returns-clause-reads
returns-clause-reads g c =
    c.in_ok-told.ensures.reads
    ∙ (λ i. reads_in (run_from (sym c.requires.limits i) (sym c.requires.seats i) start c.args.script.now) c.args.workers.now.keys)
