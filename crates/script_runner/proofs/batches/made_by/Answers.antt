use Rattle.std.proofs.Common.{◌≡◌, ℕ, None, refl}
use Rattle.base.specs.declared.ids.Category.{Category}
use Rattle.kernel_rules.specs.declared.replies.Reply.{Reply}
use Rattle.kernel_rules.specs.declared.replies.Reply.TheVariants as replies
use Rattle.script_rules.specs.Names.{made_by}
use Rattle.script_runner.proofs.batches.made_by.Goals as goal

nothing_made : (r : Reply) → ((category : Category) → r ≡ replies.Category category → ⊥) → ((id : ℕ) → r ≡ replies.Object id → ⊥)
    → None ≡ made_by r
nothing_made (replies.Category category) no_category no_object = absurd (no_category category refl)
nothing_made (replies.Object id) no_category no_object = absurd (no_object id refl)
nothing_made replies.Done no_category no_object = refl
nothing_made (replies.Entered point closure) no_category no_object = refl
nothing_made (replies.Bytes bytes) no_category no_object = refl
nothing_made (replies.Own label clearance verify space point closure) no_category no_object = refl
nothing_made (replies.Label label) no_category no_object = refl
nothing_made (replies.Quota quota used fixed immutable) no_category no_object = refl
nothing_made (replies.Listed count ids) no_category no_object = refl
nothing_made (replies.Parent id) no_category no_object = refl
nothing_made (replies.Pages pages) no_category no_object = refl
nothing_made (replies.Mapping mapping) no_category no_object = refl
nothing_made (replies.Refused refusal) no_category no_object = refl

pub returns-in_default : goal.returns-in_default
returns-in_default c = nothing_made c.args.reply.now c.in_default.not-Category c.in_default.not-Object
