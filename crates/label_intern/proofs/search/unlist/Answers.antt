use Rattle.std.proofs.Common.{◌≡◌, ◌∙◌, ℕ, Bool, true, false, not, List, Option, get_or, ap, sym}
use Rattle.std.specs.Prelude.{is_some, IsSome}
use Rattle.label_intern.specs.Held.{held_at, fewer}
use Rattle.label_intern.specs.declared.held.Held.{Held}
use Rattle.label_intern.proofs.HeldLemmas.{fewer_read}
use Rattle.label_intern.proofs.ListedLemmas.{unlisted_left, listed_left}
use Rattle.label_intern.proofs.search.unlist.Goals as goal

turned : (b r : Bool) → b ≡ not r → r ≡ true → b ≡ false
turned b r e is = rw (e, is)

kept : (b r : Bool) → b ≡ not r → r ≡ false → b ≡ true
kept b r e is = rw (e, is)

-- whether an owner is left of a place that was read
left : (slots : List (Option Held)) (i j : ℕ) (read : Option Held) (last : Bool) → i ≡ j → IsSome (held_at slots j) → read ≡ get_or slots i read
    → is_some (fewer read) ≡ not last → is_some (fewer (held_at slots j)) ≡ not last
left slots i j read last same some is told = sym (ap is_some (fewer_read slots i j read same some is)) ∙ told

pub returns-then-is_last-clause-listed : goal.returns-then-is_last-clause-listed
returns-then-is_last-clause-listed c =
    rw c.remove.ensures.items
    (unlisted_left _ _ _ _ _ c.requires.held (turned _ _ (left _ _ _ _ _ c.from.ensures c.requires.held c.index-slots-from.is c.is_last.ensures) c.if-is_last.true)
    (rw c.deref.ensures.value at c.place_in-place.ensures.within) (rw c.deref.ensures.value at c.place_in-place.ensures.here) c.requires.listed)

pub returns-else-is_last-clause-listed : goal.returns-else-is_last-clause-listed
returns-else-is_last-clause-listed c =
    listed_left _ _ _ _ c.requires.held (kept _ _ (left _ _ _ _ _ c.from.ensures c.requires.held c.index-slots-from.is c.is_last.ensures) c.if-is_last.false) (λ i. fewer (held_at c.args.slots.now c.args.at)) c.requires.listed
