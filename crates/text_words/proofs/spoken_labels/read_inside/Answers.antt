use Rattle.std.proofs.Common.{List, ℕ, ◌++◌, ◌∙◌, ap, arith}
use Rattle.text_words.proofs.PairLemmas.{pairs_text, label_inside, inside_label, next_pair, one_read, last_level}
use Rattle.text_words.proofs.spoken_labels.read_inside.Goals as goal

pub returns-then-len-ge24 : goal.returns-then-len-ge24
returns-then-len-ge24 c = λ v fits e.
    let n = next_pair c.args.text.now c.loop-part.rest.now c.in-Some.part.now c.in-Some.after.now c.loop-part.pairs.items v.pairs v.default c.loop-part.invariant c.in-Some.ensures.parts c.in-Some.ensures.first (label_inside c.args.text.now v fits e) in
    let few = n.few in let many = c.if-len-ge24.true in let len = c.len.ensures in omega arith

pub returns-in_default-read_pair : goal.returns-in_default-read_pair
returns-in_default-read_pair c = λ v fits e.
    let n = next_pair c.args.text.now c.loop-part.rest.now c.in-Some.part.now c.in-Some.after.now c.loop-part.pairs.items v.pairs v.default c.loop-part.invariant c.in-Some.ensures.parts c.in-Some.ensures.first (label_inside c.args.text.now v fits e) in
    c.in_default-read_pair.ensures n.pair n.is_pair n.part_is

pub loop-part-preserved : goal.loop-part-preserved
loop-part-preserved c =
    let many = c.if-len-ge24.false in let len = c.len.ensures in
    one_read c.args.text.now c.loop-part.rest.now c.in-Some.part.now c.in-Some.after.now c.loop-part.pairs.items c.push.new.self.items c.in-Some-read_pair.field-0 c.loop-part.invariant c.in-Some.ensures.parts c.in-Some.ensures.first
    c.in-Some-read_pair.ensures.0 c.in-Some-read_pair.ensures.1 (omega arith) c.in_ok-push.ensures.items

pub returns-in_default-read_level : goal.returns-in_default-read_level
returns-in_default-read_level c = λ v fits e.
    c.in_default-read_level.ensures v.default tt
    (last_level c.args.text.now c.loop-part.rest.now c.loop-part.pairs.items v.pairs v.default c.loop-part.invariant c.in_default.ensures.none (label_inside c.args.text.now v fits e))

pub returns : goal.returns
returns c =
    let read = c.loop-part.invariant in (
      record { pairs = read.fit; few = read.few },
      inside_label c.args.text.now c.loop-part.pairs.items c.in-Some-read_level.default (read.front ∙ ap (λ (rest : List ℕ). pairs_text c.loop-part.pairs.items ++ rest) c.in-Some-read_level.ensures.1),
    )
