use Rattle.std.proofs.Common.{◌≡◌, List, refl, sym, subst, rules}
use mathlib.Core.List.{IsPrefix}
use Rattle.kernel_rules.specs.Events.{Event}
use Rattle.published_copy.proofs.Prefixes.{prefix_trans}
use Rattle.published_copy.proofs.seats.Seat.read_into.Goals as goal

pub invariant_of-self-2 : goal.invariant_of-self-2
invariant_of-self-2 g c =
    let told : List Event = c.self.inside.told in
    let seen : List Event = c.self.inside.pass.seen in
    let position : List Event = c.in-Some-position.position in
    let begins : IsPrefix told seen = c.self.invariant.0 in
    let later : IsPrefix seen position = search rules in
    let now : c.see.new.self.seen ≡ position = search rules in
    (subst (λ (l : List Event). IsPrefix told l) (sym now) (prefix_trans told seen position begins later), refl)
