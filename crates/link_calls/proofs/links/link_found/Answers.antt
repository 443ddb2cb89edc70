use Rattle.std.proofs.Common.{sym, ◌∙◌}
use Rattle.link_calls.proofs.LinkLaws.{linkable}
use Rattle.link_calls.proofs.links.link_found.Goals as goal

pub link-requires : goal.link-requires
link-requires g c =
    let may = linkable _ _ _ _ (sym c.refused_link.ensures.value ∙ c.in_default.is) in
    record {
      target_there = c.requires.target;
      container_there = c.requires.named.container;
      object_there = c.requires.named.object;
      container = may.container;
      held = may.held;
      plain = may.plain;
      fixed = may.fixed;
      unlisted = may.unlisted;
      room = may.room;
    }
