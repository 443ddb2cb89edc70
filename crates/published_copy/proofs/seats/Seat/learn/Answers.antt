use Rattle.std.proofs.Common.{◌≡◌, List, refl, ap, sym, subst, inl, inr, rules}
use mathlib.Core.List.{IsPrefix}
use Rattle.kernel_rules.specs.Events.{Event}
use Rattle.published_copy.specs.Turns.{IsLonger}
use Rattle.published_copy.proofs.Prefixes.{prefix_self, prefix_trans}
use Rattle.published_copy.proofs.seats.Seat.learn.Goals as goal

pub returns-then-has : goal.returns-then-has
returns-then-has g c =
    let note = c.args.note.now in
    let seen = c.args.self.now.pass.seen in
    let told = c.args.self.now.told in
    let over : IsPrefix seen note = search rules in
    let under : IsPrefix told seen = search rules in
    let new_seen : c.see.new.self.seen ≡ note = search rules in
    let new_told : c.again.result ≡ note = search rules in
    let first : IsLonger seen note note = (inr refl, over, prefix_self note) in
    let second : IsLonger told note note = (inr refl, prefix_trans told seen note under over, prefix_self note) in
    (search rules, search rules, subst (λ (l : List Event). IsLonger seen note l) (sym new_seen) first, subst (λ (l : List Event). IsLonger told note l) (sym new_told) second)

pub returns-then-has-2 : goal.returns-then-has-2
returns-then-has-2 g c =
    let note = c.args.note.now in
    let seen = c.args.self.now.pass.seen in
    let told = c.args.self.now.told in
    let under : IsPrefix note seen = search rules in
    let over : IsPrefix told note = search rules in
    let new_told : c.again-then-has-2.result ≡ note = search rules in
    let same : c.self.inside.pass.seen ≡ seen = ap (λ s. s.pass.seen) c.self.view_is in
    let first : IsLonger seen note seen = (inl refl, prefix_self seen, under) in
    let second : IsLonger told note note = (inr refl, over, prefix_self note) in (
      ap (λ s. s.pass.thread) c.self.view_is,
      ap (λ s. s.pass.number) c.self.view_is,
      subst (λ (l : List Event). IsLonger seen note l) (sym same) first,
      subst (λ (l : List Event). IsLonger told note l) (sym new_told) second,
    )
