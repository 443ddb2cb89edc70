use Rattle.std.proofs.Common.{◌≡◌, List, ℕ, ◌∙◌, sym}
use Rattle.std.specs.Cmp.{both_ways}
use Rattle.std.specs.Str.{bytes_eq}
use Rattle.std.proofs.lemmas.Slice.Eq.{bytes_eq-Decides}
use Rattle.call_text.proofs.batches.is_of.Goals as goal

pub returns : goal.returns
returns c =
    let own = c.args.open.now.worker in
    let other = c.args.worker.now in
    let left : c.as_slice.result.now ≡ own = c.as_slice.ensures.value in
    let right : c.as_slice-2.result.now ≡ other = c.as_slice-2.ensures.value in
    both_ways c.is_same.result (bytes_eq own other)
    (λ t. (bytes_eq-Decides own other).1 (sym left ∙ c.is_same.ensures.0 t ∙ right))
    (λ e. c.is_same.ensures.1 (left ∙ (bytes_eq-Decides own other).0 e ∙ sym right))
