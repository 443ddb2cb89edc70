use Rattle.std.proofs.Common.{ℕ, ◌++◌, ap, ◌∙◌}
use Rattle.shown_dumps.specs.Objects.{quota_text}
use Rattle.shown_dumps.proofs.TextLaws.{four_parts}
use Rattle.shown_dumps.proofs.tree.objects.put_object.Goals as goal

pub returns : goal.returns
returns c =
    four_parts _ _ _ _ _ _ _ _ _ c.in_ok-put_own.ensures
    (c.in_ok-put_quota.ensures
    ∙ ap (λ (n : ℕ). c.put_own.new.out.items ++ quota_text c.args.object.now.quota n) c.used_pages.ensures)
    c.in_ok-put_flags.ensures c.in_ok-put_others.ensures
