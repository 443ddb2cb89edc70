use Rattle.std.proofs.Common.{ℕ, List, ◌++◌, ap, ◌∙◌}
use Rattle.page_text.specs.Page.{escaped}
use Rattle.page_text.specs.declared.frame.TheConstants.{HEAD}
use Rattle.page_text.proofs.pages.framed.Goals as goal

pub returns : goal.returns
returns c =
    c.in_ok-extend_from_slice-3.ensures.items
    ∙ ap (λ (l : List ℕ). l ++ c.as_bytes-2.result.now)
    (c.in_ok-extend_from_slice-2.ensures.items
    ∙ ap (λ (l : List ℕ). l ++ c.as_slice.result.now)
    (c.in_ok-extend_from_slice.ensures.items ∙ ap (λ (l : List ℕ). l ++ c.as_bytes.result.now) c.new-told.ensures.items
    ∙ c.as_bytes.ensures.value)
    ∙ ap (λ (l : List ℕ). HEAD.now ++ l) (c.as_slice.ensures.value ∙ c.in_ok-inner.ensures))
    ∙ ap (λ (l : List ℕ). HEAD.now ++ escaped c.args.text.now ++ l) c.as_bytes-2.ensures.value
