use Rattle.std.proofs.Common.{rules, ◌≡◌, List, ℕ, ◌∙◌, ap, subst}
use Rattle.call_text.specs.Numbers.{renumbered}
use Rattle.call_text.specs.Script.{IsScript}
use Rattle.call_text.specs.Scripts.{kept_numbers, plain_text}
use Rattle.script_runner.specs.Faults.{IsFaultOf, IsQuiet, IsRefusedFor}
use Rattle.script_runner.specs.declared.program.RunFault.TheVariants.{Other}
use Rattle.script_runner.proofs.RunLaws.{broken_off, ends_with, quiet, run_of, unplayed, unread, unwritten}
use Rattle.script_runner.proofs.program.histar_on.Goals as goal

pub returns-clause-run : goal.returns-clause-run
returns-clause-run g c =
    let numbers : c.as_slice-2.result.now ≡ kept_numbers c.as_slice.result.now = search rules in
    let shown : c.in_ok-shown.shown.items ≡ renumbered c.as_slice-2.result.now c.in_ok-output.field-0.output.items = search rules in
    let told : c.as_slice-3.result.now ≡ renumbered (kept_numbers c.as_slice.result.now) c.in_ok-output.field-0.output.items
    = c.as_slice-3.ensures.value ∙ shown ∙ ap (λ (ns : List ℕ). renumbered ns c.in_ok-output.field-0.output.items) numbers in
    run_of (g.I.Read.remaining c.args.script.now) c.in_ok-bytes.bytes.items c.as_slice.result.now c.args.options.now c.in_ok-script.field-0.script
    (g.S.Sink.contents c.args.out.now) (g.S.Sink.contents c.deliver.new.sink) c.in_ok-output.field-0.output.items c.as_slice-3.result.now
    c.in_ok-output.field-0.files.dump.items c.in_ok-output.field-0.files.names.items
    c.in_ok-bytes.ensures.bytes c.as_slice.ensures.value c.in_ok-script.ensures.script c.in_ok-output.ensures.run told
    c.in_ok-deliver.ensures.whole

pub returns-in_err-bytes-clause-fault : goal.returns-in_err-bytes-clause-fault
returns-in_err-bytes-clause-fault g c =
    ends_with c.from_residual.result (IsRefusedFor c.args.path.now (g.I.Read.remaining c.args.script.now)) (Other c.in_err-bytes.field-0.0)
    c.from_residual.ensures.1
    (unread c.args.path.now (g.I.Read.remaining c.args.script.now) c.in_err-bytes.field-0.0 c.in_err-bytes.ensures.fault)

pub returns-in_err-script-clause-fault : goal.returns-in_err-script-clause-fault
returns-in_err-script-clause-fault g c =
    ends_with c.from_residual-in_err-script.result (IsRefusedFor c.args.path.now (g.I.Read.remaining c.args.script.now))
    c.in_err-script.field-0.0 c.from_residual-in_err-script.ensures.1
    (unplayed c.args.path.now (g.I.Read.remaining c.args.script.now) c.in_ok-bytes.bytes.items c.in_err-script.field-0.0
    c.in_ok-bytes.ensures.bytes
    (subst (λ (bs : List ℕ). IsFaultOf c.args.path.now bs c.in_err-script.field-0.0) c.as_slice.ensures.value c.in_err-script.ensures.fault))

pub returns-in_err-deliver-clause-fault : goal.returns-in_err-deliver-clause-fault
returns-in_err-deliver-clause-fault g c =
    ends_with c.from_residual-in_err-deliver.result (IsRefusedFor c.args.path.now (g.I.Read.remaining c.args.script.now))
    (Other c.in_err-deliver.field-0.0) c.from_residual-in_err-deliver.ensures.1
    (unwritten c.args.path.now (g.I.Read.remaining c.args.script.now) c.in_ok-bytes.bytes.items c.in_ok-script.field-0.script
    c.in_err-deliver.field-0.0 c.in_ok-bytes.ensures.bytes
    (subst (λ (bs : List ℕ). IsScript (plain_text bs) c.in_ok-script.field-0.script) c.as_slice.ensures.value c.in_ok-script.ensures.script)
    c.in_err-deliver.ensures.fault)

pub returns-in_err-bytes-clause-quiet : goal.returns-in_err-bytes-clause-quiet
returns-in_err-bytes-clause-quiet g c =
    ends_with c.from_residual.result (IsQuiet (g.S.Sink.contents c.args.out.now) (g.S.Sink.contents c.args.out.now)) (Other c.in_err-bytes.field-0.0)
    c.from_residual.ensures.1 (quiet (g.S.Sink.contents c.args.out.now) (Other c.in_err-bytes.field-0.0))

pub returns-in_err-script-clause-quiet : goal.returns-in_err-script-clause-quiet
returns-in_err-script-clause-quiet g c =
    ends_with c.from_residual-in_err-script.result (IsQuiet (g.S.Sink.contents c.args.out.now) (g.S.Sink.contents c.args.out.now))
    c.in_err-script.field-0.0 c.from_residual-in_err-script.ensures.1 (quiet (g.S.Sink.contents c.args.out.now) c.in_err-script.field-0.0)

pub returns-in_err-deliver-clause-quiet : goal.returns-in_err-deliver-clause-quiet
returns-in_err-deliver-clause-quiet g c =
    ends_with c.from_residual-in_err-deliver.result (IsQuiet (g.S.Sink.contents c.args.out.now) (g.S.Sink.contents c.deliver.new.sink))
    (Other c.in_err-deliver.field-0.0) c.from_residual-in_err-deliver.ensures.1
    (broken_off (g.S.Sink.contents c.args.out.now) (g.S.Sink.contents c.deliver.new.sink) c.in_err-deliver.field-0.0 c.in_err-deliver.ensures.fault)
