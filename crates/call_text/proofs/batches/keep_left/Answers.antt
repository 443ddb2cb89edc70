use Rattle.std.proofs.Common.{◌≡◌, List, Bool, true, false, None, Some, ◌∙◌, inl, vec_len, length, arith, sym, ap, subst}
use Rattle.text_words.proofs.IntoLemmas.{into_is, into_not}
use Rattle.std.specs.Global.{Vec}
use Rattle.call_text.specs.declared.batches.Open.{Open}
use Rattle.call_text.specs.Batch.{LeavesOpen, Ended, Malformed}
use Rattle.call_text.specs.Line.{written_with, written_text, FitsWritten}
use Rattle.call_text.proofs.OpenBatches.{ended_there, goes_past, no_open, none_left}
use Rattle.call_text.proofs.batches.keep_left.Goals as goal
use Rattle.call_text.proofs.batches.keep_left.Goals.{in-Some-2+else-go_past, in_default-2}

pub returns-in_default : goal.returns-in_default
returns-in_default c = c.loop-left.invariant c.loop-left.batches.items (Ended (inl c.in_default.ensures.none))

pub returns-then-go_past : goal.returns-then-go_past
returns-then-go_past c =
    let is = into_is written_with written_text FitsWritten c.in-Some.line.now c.loop-left.args.items c.read_line.new.args.items c.in_ok-outline.field-0 c.in-Some-2.outline c.in-Some-2.is c.in_ok-outline.ensures in
    c.loop-left.invariant c.go_past.new.batches.items
    (ended_there c.loop-left.left.now c.in-Some.line.now c.in-Some.more.now c.in-Some-2.outline is.0 c.loop-left.batches.items c.go_past.new.batches.items c.go_past.result
    c.if-go_past.true c.in-Some.ensures.parts is.3 c.go_past.ensures)

pub loop-left-preserved : goal.loop-left-preserved
loop-left-preserved c = λ after leaves. elim c.match-branch-2.branch [
  | in-Some-2+else-go_past w ↦
      let is = into_is written_with written_text FitsWritten c.in-Some.line.now c.loop-left.args.items c.read_line.new.args.items c.in_ok-outline.field-0 w.in-Some-2.outline w.in-Some-2.is c.in_ok-outline.ensures in
      let there : LeavesOpen c.in-Some.more.now w.go_past.new.batches.items after =
      subst (λ (os : List Open). LeavesOpen c.in-Some.more.now os after) (ap (λ (v : Vec Open). v.items) w.batches-is) leaves in
      c.loop-left.invariant after
      (goes_past c.loop-left.left.now c.in-Some.line.now c.in-Some.more.now w.in-Some-2.outline is.0 c.loop-left.batches.items w.go_past.new.batches.items after w.go_past.result
      w.if-go_past.false c.in-Some.ensures.parts is.2 is.3 w.go_past.ensures there)
  | in_default-2 w ↦
      let not = into_not written_with written_text FitsWritten c.in-Some.line.now c.loop-left.args.items c.read_line.new.args.items c.in_ok-outline.field-0 w.in_default-2.is c.in_ok-outline.ensures in
      let there : LeavesOpen c.in-Some.more.now c.loop-left.batches.items after =
      subst (λ (os : List Open). LeavesOpen c.in-Some.more.now os after) (ap (λ (v : Vec Open). v.items) w.batches-is) leaves in
      c.loop-left.invariant after (Malformed c.in-Some.line.now c.in-Some.ensures.parts c.in-Some.ensures.first not.1 there)
]

pub returns : goal.returns
returns c =
    let same : vec_len c.loop-left.batches ≡ length c.loop-left.batches.items = omega (arith, c.loop-left.batches.ok.0) in
    c.loop-left.invariant c.loop-left.batches.items
    (none_left c.loop-left.left.now c.loop-left.batches.items
    (no_open c.loop-left.batches.items (vec_len c.loop-left.batches) same (sym c.is_empty.ensures ∙ c.loop-left-test.false)))
