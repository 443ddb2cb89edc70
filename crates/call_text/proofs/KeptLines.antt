-- Lines whose arguments stand in a list, as the list grows.
use Rattle.std.proofs.Common.{◌≡◌, ◌≤◌, List, [], ◌∷◌, ◌++◌, length, map, take, drop, refl, ap, ◌∙◌, arith, length-append}
use Rattle.std.proofs.Math.Seq.{take-append-le, drop-append-le, drop-append_seam, take-length}
use Rattle.std.proofs.lemmas.List.{length-drop}
use Rattle.std.specs.List.{AllByRecursion}
use Rattle.text_words.specs.declared.spoken_calls.args.Arg.{Arg}
use Rattle.text_words.specs.Verb.{kinds_of}
use Rattle.text_words.specs.Spoken.{AreArgs, call_with}
use Rattle.text_words.proofs.SpokenLemmas.{same_length}
use Rattle.call_text.specs.declared.phases.KeptLine.{KeptLine}
use Rattle.call_text.specs.declared.phases.Line.{Line}
use Rattle.call_text.specs.Phase.{args_in, line_in, IsKept}

-- arguments stay where they are where more come after them
still_args : (args more : List Arg) (l : KeptLine) → IsKept args l → args_in (args ++ more) l ≡ args_in args l
still_args args more l kept =
    let within = kept.within in
    let left : length (kinds_of l.verb) ≤ length (drop l.first args) = omega (arith, length-drop l.first args) in
    ap (take (length (kinds_of l.verb))) (drop-append-le l.first args more (omega arith)) ∙ take-append-le (length (kinds_of l.verb)) (drop l.first args) more left

with_args : KeptLine → List Arg → Line
with_args l args = record { number = l.number; binds = l.binds; worker = l.worker; more = l.more; call = call_with l.verb args }

still_line : (args more : List Arg) (l : KeptLine) → IsKept args l → line_in (args ++ more) l ≡ line_in args l
unfolding with_args
still_line args more l kept = ap (with_args l) (still_args args more l kept)

still_kept : (args more : List Arg) (l : KeptLine) → IsKept args l → IsKept (args ++ more) l
still_kept args more l kept = let within = kept.within in record { within = omega (arith, length-append args more); are = rw (still_args args more l kept) kept.are }

pub still_lines : (args more : List Arg) (ls : List KeptLine) → AllByRecursion (IsKept args) ls → map (line_in (args ++ more)) ls ≡ map (line_in args) ls
still_lines args more [] kept = refl
still_lines args more (l ∷ ls) kept = let p = still_line args more l kept.0 in let q = still_lines args more ls kept.1 in λ i. p i ∷ q i

pub still_all : (args more : List Arg) (ls : List KeptLine) → AllByRecursion (IsKept args) ls → AllByRecursion (IsKept (args ++ more)) ls
still_all args more [] kept = tt
still_all args more (l ∷ ls) kept = (still_kept args more l kept.0, still_all args more ls kept.1)

-- arguments that stand at the end of the list
new_args : (args found : List Arg) (l : KeptLine) → l.first ≡ length args → AreArgs (kinds_of l.verb) found → args_in (args ++ found) l ≡ found
new_args args found l at are =
    ap (λ n. take (length (kinds_of l.verb)) (drop n (args ++ found))) at ∙ ap (take (length (kinds_of l.verb))) (drop-append_seam args found)
    ∙ ap (λ n. take n found) (same_length (kinds_of l.verb) found are) ∙ take-length found

pub new_line : (args found : List Arg) (l : KeptLine) → l.first ≡ length args → AreArgs (kinds_of l.verb) found → line_in (args ++ found) l ≡ (let one : Line = record { number = l.number; binds = l.binds; worker = l.worker; more = l.more; call = call_with l.verb found } in one)
unfolding with_args
new_line args found l at are = ap (with_args l) (new_args args found l at are)

pub new_kept : (args found : List Arg) (l : KeptLine) → l.first ≡ length args → AreArgs (kinds_of l.verb) found → IsKept (args ++ found) l
new_kept args found l at are = record {
  within = omega (arith, length-append args found, same_length (kinds_of l.verb) found are, at);
  are = rw (new_args args found l at are) are;
}
