use Rattle.std.proofs.Common.{◌≡◌, ◌∷◌, ap, sym, ◌∙◌, map}
use Rattle.kernel_rules.specs.Events.{replies_in}
use Rattle.kept_events.proofs.RestLemmas.{rest_told}
use Rattle.kept_events.proofs.events.KeptEvent.replies.Goals as goal

pub returns : goal.returns
returns c =
    ap replies_in (sym c.self.view_is)
    ∙ ap (λ l. c.self.inside.reply ∷ l) (rest_told c.self.inside.rest c.self.invariant ∙ sym c.replies_of.ensures)
