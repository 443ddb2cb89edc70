use Rattle.std.proofs.Common.{◌≡◌, ◌+◌, ◌-◌, length, take, drop, arith}
use Rattle.std.proofs.lemmas.List.{take_all, length-drop}
use Rattle.text_words.proofs.PartLemmas.{end_at, no_end}
use Rattle.text_words.proofs.parting.parted.Goals as goal

pub returns : goal.returns
returns c =
    let h = end_at c.args.byte c.args.text.now c.in-Some.end c.in-Some.ensures.0 c.in-Some.ensures.1 in
    let w = h.within in
    let rest = c.args.text.now in
    let k : take (length rest - (c.in-Some.end + 1)) (drop (c.in-Some.end + 1) rest) ≡ drop (c.in-Some.end + 1) rest = take_all _ _ (omega (arith, length-drop (c.in-Some.end + 1) rest)) in
    record {
      parts = rw k h.parts;
      first = h.lacks_it;
      shorter = rw k (omega (arith, length-drop (c.in-Some.end + 1) rest));
      none = tt;
    }

pub returns-in_default : goal.returns-in_default
returns-in_default c = record { parts = tt; first = tt; shorter = tt; none = no_end c.args.byte c.args.text.now c.in_default.ensures }
