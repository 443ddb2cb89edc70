use Rattle.std.proofs.Common.{sym, ◌∙◌}
use Rattle.thread_calls.proofs.CategoryLaws.{category_left}
use Rattle.thread_calls.proofs.categories.cat_create.Goals as goal

pub own_category-requires-clause-left : goal.own_category-requires-clause-left
own_category-requires-clause-left g c = category_left _ _ (sym c.refused_cat_create.ensures.value ∙ c.in_default.is)
