-- what was added, with what comes of the other bytes, is what comes of all
use Rattle.std.proofs.Common.{◌≡◌, ◌++◌, drop}
use Rattle.call_text.specs.Numbers.{shown_from, place_after}
use Rattle.call_text.specs.declared.plain_scripts.numbers.Place.TheVariants.{Worker}
use Rattle.call_text.proofs.plain_scripts.numbers.renumbered.Given as goal

abbrev pub invariant-loop-byte : goal.invariant-loop-byte
invariant-loop-byte l =
    l.text.items ++ shown_from l.numbers l.place (drop l.byte-index l.byte-items) ≡ shown_from l.numbers Worker l.fn.output.items
