use Rattle.std.proofs.Common.{◌≡◌, ◌+◌, ◌∷◌, [], ◌++◌, List, true, length, take, drop, ap, sym, ◌∙◌, subst, arith}
use Rattle.std.proofs.lemmas.List.{take-append-drop, drop_more, take_more, take_all}
use Rattle.dump_text.specs.Reads.{are_placed}
use Rattle.dump_text.specs.declared.tables.PlacedRead.{PlacedRead}
use Rattle.dump_text.proofs.Placing.{placed_parts, placed_from}
use Rattle.auditor.specs.Replay.{true_reads}
use Rattle.auditor.proofs.StopLaws.{placed_push, told_more, told_so, told_part, told_end}
use Rattle.auditor.proofs.replays.Replay.take_all.Goals as goal

pub loop-read-preserved : goal.loop-read-preserved
loop-read-preserved c =
    let events = c.args.events.now in
    let reads = c.args.reads.now in
    let i = c.loop-read.read-index in
    let place = c.loop-read.place in
    let r = c.read-item.result in
    let inv = c.loop-read.invariant in
    let split : drop i reads ≡ r ∷ drop (i + 1) reads =
    drop_more reads i r c.loop-read-test.true ∙ ap (λ (x : PlacedRead). x ∷ drop (i + 1) reads) (sym c.read-item.is) in
    let more : take (i + 1) reads ≡ take i reads ++ r ∷ [] =
    take_more reads i r c.loop-read-test.true ∙ ap (λ (x : PlacedRead). take i reads ++ x ∷ []) (sym c.read-item.is) in
    let parts = placed_parts place (length events) r (drop (i + 1) reads)
    (subst (λ (l : List PlacedRead). are_placed place (length events) l ≡ true) split inv.placed) in
    record {
      within = parts.high;
      placed = parts.rest;
      before = subst (λ (l : List PlacedRead). are_placed 0 r.place l ≡ true) (sym more)
          (placed_push 0 place (take i reads) r (omega arith) parts.low inv.before);
      told = λ start was none.
          let old = inv.told start was none in
          let takes = c.in_ok-take_between.ensures.taken c.if-not-branch.false start old.0 in (
            c.in_ok-answer.ensures.kept start (take r.place events) takes,
            told_more start events place c.loop-read.thread c.thread_after-thread.result (take i reads) (take (i + 1) reads)
                c.loop-read.told.items c.push.new.self.items r c.in_ok-answer.field-0 more c.in_ok-push.ensures.items
                c.thread_after-thread.ensures (c.in_ok-answer.ensures.told start events takes) old.1,
          );
    }

pub returns-then-not-branch : goal.returns-then-not-branch
returns-then-not-branch c = λ start was none.
    let events = c.args.events.now in
    let reads = c.args.reads.now in
    let i = c.loop-read.read-index in
    let place = c.loop-read.place in
    let r = c.read-item.result in
    let inv = c.loop-read.invariant in
    let old = inv.told start was none in
    let split : drop i reads ≡ r ∷ drop (i + 1) reads =
    drop_more reads i r c.loop-read-test.true ∙ ap (λ (x : PlacedRead). x ∷ drop (i + 1) reads) (sym c.read-item.is) in
    let parts = placed_parts place (length events) r (drop (i + 1) reads)
    (subst (λ (l : List PlacedRead). are_placed place (length events) l ≡ true) split inv.placed) in
    let later : are_placed r.place (length events) (drop i reads) ≡ true =
    subst (λ (l : List PlacedRead). are_placed r.place (length events) l ≡ true) (sym split)
    (placed_from r.place (length events) r (drop (i + 1) reads) (omega arith) parts.high parts.rest) in
    told_part start events reads (take i reads) (drop i reads) c.loop-read.told.items place r.place c.take_between.new.self
    (sym (take-append-drop i reads)) inv.before later parts.high
    (c.in_ok-take_between.ensures.stopped c.if-not-branch.true start old.0)
    (told_so start events place c.loop-read.thread (take i reads) c.loop-read.told.items old.1)

pub returns : goal.returns
returns c = λ start was none.
    let events = c.args.events.now in
    let reads = c.args.reads.now in
    let inv = c.loop-read.invariant in
    let old = inv.told start was none in
    let whole : take c.loop-read.read-index reads ≡ reads =
    take_all c.loop-read.read-index reads (omega (arith, c.loop-read-test.false)) in
    told_end start events reads c.loop-read.told.items c.loop-read.place c.in_ok-_all._all c.take_between-2.new.self
    (subst (λ (l : List PlacedRead). are_placed 0 c.loop-read.place l ≡ true) whole inv.before)
    (told_so start events c.loop-read.place c.loop-read.thread (take c.loop-read.read-index reads) c.loop-read.told.items old.1
    ∙ (λ i. true_reads start events (whole i)))
    (λ is. c.in_ok-_all.ensures.taken is start old.0) (λ is. c.in_ok-_all.ensures.stopped is start old.0)
