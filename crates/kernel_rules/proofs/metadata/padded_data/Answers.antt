use Rattle.std.proofs.Common.{◌∙◌, ◌++◌, ap, drop, length, replicate}
use Rattle.std.proofs.lemmas.List.{drop-replicate}
use Rattle.kernel_rules.proofs.metadata.padded_data.Goals as goal

pub returns-clause-value : goal.returns-clause-value
returns-clause-value c =
    c.from_slice.ensures
    ∙ (λ i. (c.copy_from_slice.ensures.after ∙ c.as_slice-bytes.ensures.value) i
    ++ drop (length (c.as_slice-bytes.ensures.value i)) (replicate 64 0))
    ∙ ap (λ rest. c.args.given.now ++ rest) (drop-replicate (length c.args.given.now) 64 0)
