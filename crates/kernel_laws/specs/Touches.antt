-- Which rows of translation each call touches.
use Rattle.std.specs.Prelude.{◌≡◌, ◌⊎◌, ℕ, false, true, Some}
use Rattle.base.specs.Live.{has, is_live}
use Rattle.base.specs.declared.sets.Rights.{Rights}
use Rattle.kernel_rules.specs.Changes.{changed, delisting}
use Rattle.kernel_rules.specs.State.{State, lists_of, list_at}
use Rattle.kernel_rules.specs.Translate.{own_space, translate}
use Rattle.kernel_rules.specs.declared.calls.Call.{Call}
use Rattle.kernel_rules.specs.declared.calls.Call.TheVariants as call
use Rattle.kernel_rules.specs.declared.calls.Entry.{Entry}
use Rattle.kernel_laws.specs.Through.{Through}

-- the state once o stands in d's list no more, before the dead go
abbrev pub cut : State → ℕ → ℕ → State
cut s d o = changed s d (delisting o)

-- the entry goes then, of those that stood: its container dies, or it is the one
abbrev pub Goes : State → ℕ → ℕ → Entry → Type 0
Goes s d o e =
    (has (list_at s e.container) e.object ≡ true)
    × ((is_live (lists_of (cut s d o).objects) e.container ≡ false)
    ⊎ ((e.container ≡ d) × (e.object ≡ o)))

-- the row of thread q and slot i goes through an entry that goes
abbrev pub GoesThrough : State → ℕ → ℕ → ℕ → ℕ → Type 0
GoesThrough s d o q i = (e : Entry) × Through s q i e × Goes s d o e

-- the row shows segment o
abbrev pub Shows : State → ℕ → ℕ → ℕ → Type 0
Shows s q i o = (shown : ℕ × Rights) × (translate s q i ≡ Some shown) × (shown.0 ≡ o)

-- the row is that of this slot, in an address space that thread q is in
abbrev pub IsSlotOf : State → ℕ → ℕ → ℕ → ℕ → Type 0
IsSlotOf s q i a slot = (e : Entry) × (own_space s q ≡ Some e) × (e.object ≡ a) × (i ≡ slot)

-- no row at all
abbrev pub NoRow : Type 0
NoRow = false ≡ true

-- call c of thread t touches the row of thread q and slot i
abbrev pub Touches : State → ℕ → Call → ℕ → ℕ → Type 0
Touches s t call.CatCreate q i = q ≡ t
Touches s t (call.SelfSetLabel x) q i = q ≡ t
Touches s t (call.SelfSetClearance y) q i = NoRow
Touches s t (call.SelfSetAs e) q i = q ≡ t
Touches s t (call.ContainerCreate n) q i = q ≡ s.next_id
Touches s t (call.SegmentCreate n) q i = q ≡ s.next_id
Touches s t (call.SegmentCopy n) q i = q ≡ s.next_id
Touches s t (call.AsCreate n) q i = q ≡ s.next_id
Touches s t (call.ThreadCreate n) q i = q ≡ s.next_id
Touches s t (call.GateCreate n) q i = q ≡ s.next_id
Touches s t (call.Link d e) q i = Through s q i (record { container = d; object = e.object })
Touches s t (call.Unref e) q i = GoesThrough s e.container e.object q i
Touches s t (call.QuotaMove e n) q i = NoRow
Touches s t (call.SetFixed e) q i = NoRow
Touches s t (call.SetImmutable e) q i = Shows s q i e.object
Touches s t (call.MetaSet e bytes) q i = NoRow
Touches s t (call.SegmentResize e pages) q i = NoRow
Touches s t (call.SegmentWrite e a bytes) q i = NoRow
Touches s t (call.AsMap e slot m) q i = IsSlotOf s q i e.object slot
Touches s t (call.AsUnmap e slot) q i = IsSlotOf s q i e.object slot
Touches s t (call.Store address bytes) q i = NoRow
Touches s t (call.GateEnter e r v w) q i = q ≡ t
Touches s t (call.DevSend e bytes) q i = NoRow
Touches s t (call.DevRecv e) q i = NoRow
