-- the words so far, with what comes of the others, are all
use Rattle.std.proofs.Common.{◌≡◌, ◌++◌, drop, map, false}
use Rattle.std.specs.Prelude.{string_bytes}
use Rattle.program_args.specs.Ids.{without_marks}
use Rattle.program_args.proofs.ids.without_marks.Given as goal

abbrev pub invariant-loop-word : goal.invariant-loop-word
invariant-loop-word l =
    map (λ w. w.now) l.plain.items ++ without_marks l.is_id (map string_bytes (drop l.word-index l.words))
    ≡ without_marks false (map string_bytes l.words)
