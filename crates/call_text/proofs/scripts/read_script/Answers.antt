use Rattle.std.proofs.Common.{◌≡◌, ◌==◌, vec_len, arith, ap, sym, ◌∙◌, true, false, length, map, subst}
use Rattle.text_words.proofs.IntoLemmas.{into_is, into_not}
use Rattle.call_text.specs.Line.{written_with, written_text, FitsWritten}
use Rattle.call_text.specs.Phase.{line_in}
use Rattle.call_text.specs.Reading.{AddsLine}
use Rattle.call_text.proofs.Progress.{progress_start, progress_end, fault_at_end, fault_unread, fault_refused, fault_open, admitted, not_empty, all_read}
use Rattle.call_text.proofs.ReadSoFar.{read_more, kept_still}
use Rattle.call_text.proofs.scripts.read_script.Goals as goal

pub loop-bound-init : goal.loop-bound-init
loop-bound-init c = record {
  progress = progress_start c.args.bytes.now c.in_ok-bound.bound.keys c.new-batches.result.items c.new-phases.result.items (map (line_in c.in_ok-args.args.items) c.in_ok-lines.lines.items) c.new-batches.ensures.items c.new-phases.ensures.items (ap (map (line_in c.in_ok-args.args.items)) c.in_ok-lines.ensures.items) c.in_ok-bound.ensures;
  all_kept = rw c.in_ok-lines.ensures.items tt;
}

pub returns-in_default : goal.returns-in_default
returns-in_default c =
    fault_at_end c.args.bytes.now c.loop-bound.bound.keys c.loop-bound.batches.items c.loop-bound.phases.items (map (line_in c.loop-bound.args.items) c.loop-bound.lines.items) c.loop-bound.count c.loop-bound.rest.now c.fault_at.result c.loop-bound.invariant.progress
    c.in_default.ensures.none (not_empty c.loop-bound.rest.now c.is_empty.result c.loop-bound-test.true c.is_empty.ensures) c.fault_at.ensures

pub returns-in_default-2 : goal.returns-in_default-2
returns-in_default-2 c =
    let not = into_not written_with written_text FitsWritten c.in-Some.line.now c.loop-bound.args.items c.read_line.new.args.items c.in_ok-outline.field-0 c.in_default-2.is c.in_ok-outline.ensures in
    fault_unread c.args.bytes.now c.loop-bound.bound.keys c.loop-bound.batches.items c.loop-bound.phases.items (map (line_in c.loop-bound.args.items) c.loop-bound.lines.items) c.loop-bound.count c.loop-bound.rest.now c.in-Some.line.now c.in-Some.after.now c.fault_at-in_default-2.result
    c.loop-bound.invariant.progress c.in-Some.ensures.parts c.in-Some.ensures.first not.1 c.fault_at-in_default-2.ensures

pub returns-then-not-branch : goal.returns-then-not-branch
returns-then-not-branch c =
    let is = into_is written_with written_text FitsWritten c.in-Some.line.now c.loop-bound.args.items c.read_line.new.args.items c.in_ok-outline.field-0 c.in-Some-2.outline c.in-Some-2.is c.in_ok-outline.ensures in
    let not = admitted c.loop-bound.count (written_with c.in-Some-2.outline is.0) c.loop-bound.bound.keys c.admit.new.bound.keys c.loop-bound.batches.items c.admit.new.batches.items c.in_ok-admit.field-0 false c.if-not-branch.true (c.in_ok-admit.ensures is.0) in
    fault_refused c.args.bytes.now c.loop-bound.bound.keys c.admit.new.bound.keys c.loop-bound.batches.items c.admit.new.batches.items c.loop-bound.phases.items (map (line_in c.loop-bound.args.items) c.loop-bound.lines.items) c.loop-bound.count c.loop-bound.rest.now c.in-Some.line.now c.in-Some.after.now (written_with c.in-Some-2.outline is.0) c.fault_at-then-not-branch.result
    c.loop-bound.invariant.progress c.in-Some.ensures.parts c.in-Some.ensures.first is.2 is.3 not c.fault_at-then-not-branch.ensures

pub add-requires : goal.add-requires
add-requires c =
    let is = into_is written_with written_text FitsWritten c.in-Some.line.now c.loop-bound.args.items c.read_line.new.args.items c.in_ok-outline.field-0 c.in-Some-2.outline c.in-Some-2.is c.in_ok-outline.ensures in
    kept_still c.loop-bound.args.items is.0 c.read_line.new.args.items c.loop-bound.lines.items is.1 c.loop-bound.invariant.all_kept

pub loop-bound-preserved : goal.loop-bound-preserved
loop-bound-preserved c =
    let is = into_is written_with written_text FitsWritten c.in-Some.line.now c.loop-bound.args.items c.read_line.new.args.items c.in_ok-outline.field-0 c.in-Some-2.outline c.in-Some-2.is c.in_ok-outline.ensures in
    let yes = admitted c.loop-bound.count (written_with c.in-Some-2.outline is.0) c.loop-bound.bound.keys c.admit.new.bound.keys c.loop-bound.batches.items c.admit.new.batches.items c.in_ok-admit.field-0 true c.if-not-branch.false (c.in_ok-admit.ensures is.0) in
    read_more c.args.bytes.now c.loop-bound.bound.keys c.admit.new.bound.keys c.loop-bound.batches.items c.admit.new.batches.items c.loop-bound.phases.items c.add.new.phases.items c.loop-bound.args.items is.0 c.read_line.new.args.items c.add.new.args.items c.loop-bound.lines.items c.add.new.lines.items c.loop-bound.count (length c.as_slice-first.result.now) c.loop-bound.rest.now
    c.in-Some.line.now c.in-Some.after.now c.in-Some-2.outline c.loop-bound.invariant c.in-Some.ensures.parts is.1 is.2 is.3 yes (ap length c.as_slice-first.ensures.value)
    (subst (λ k. AddsLine k c.loop-bound.phases.items c.read_line.new.args.items c.loop-bound.lines.items c.add.new.phases.items c.add.new.args.items c.add.new.lines.items)
    c.kept_as-kept.ensures c.in_ok-add.ensures)

pub returns : goal.returns
returns c =
    let same : length c.loop-bound.batches.items ≡ vec_len c.loop-bound.batches = omega (arith, c.loop-bound.batches.ok.0) in
    let whole = progress_end c.args.bytes.now c.loop-bound.bound.keys c.loop-bound.batches.items c.loop-bound.phases.items (map (line_in c.loop-bound.args.items) c.loop-bound.lines.items) c.loop-bound.count c.loop-bound.rest.now c.loop-bound.invariant.progress
    (all_read c.loop-bound.rest.now c.is_empty.result c.loop-bound-test.false c.is_empty.ensures) (ap (λ n. n == 0) same ∙ sym c.is_empty-2.ensures ∙ c.if-not-is_empty.false) in
    rw (c.in_ok-push.ensures.items, c.new.ensures) whole

pub returns-then-not-is_empty : goal.returns-then-not-is_empty
returns-then-not-is_empty c =
    let same : length c.loop-bound.batches.items ≡ vec_len c.loop-bound.batches = omega (arith, c.loop-bound.batches.ok.0) in
    fault_open c.args.bytes.now c.loop-bound.bound.keys c.loop-bound.batches.items c.loop-bound.phases.items (map (line_in c.loop-bound.args.items) c.loop-bound.lines.items) c.loop-bound.count c.loop-bound.rest.now c.fault_at-then-not-is_empty.result c.loop-bound.invariant.progress
    (all_read c.loop-bound.rest.now c.is_empty.result c.loop-bound-test.false c.is_empty.ensures) (ap (λ n. n == 0) same ∙ sym c.is_empty-2.ensures ∙ c.if-not-is_empty.true) c.fault_at-then-not-is_empty.ensures
