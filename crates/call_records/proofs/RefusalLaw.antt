-- A refusal is told by its number.
use Rattle.std.proofs.Common.{◌≡◌, ℕ, List, [], ◌∷◌, slice_index_or, refl, sym, ap, ◌∙◌}
use Rattle.base.specs.Refusal.{told_as}
use Rattle.base.specs.declared.refusals.Refusal.{Refusal}
use Rattle.base.specs.declared.refusals.Refusal.TheVariants as of

-- the refusals by their numbers; where a number has none, any stands there
abbrev table : List Refusal
table =
    of.Halted ∷ of.Halted ∷ of.NoAccess ∷ of.NoEntry ∷ of.WrongType ∷ of.CannotObserve ∷
    of.CannotModify ∷ of.BadLabel ∷ of.LabelRange ∷ of.ClearanceRange ∷ of.LabelFull ∷
    of.AvoidType ∷ of.NoQuota ∷ of.FixedQuota ∷ of.NotFixed ∷ of.AlreadyLinked ∷ of.RootKept ∷
    of.Immutable ∷ of.Bounds ∷ of.NotMapped ∷ of.RightsDenied ∷ of.Overlap ∷ of.GateDenied ∷
    of.DeviceFull ∷ of.DeviceEmpty ∷ of.Spent ∷ of.Halted ∷ of.Halted ∷ of.Halted ∷ of.Halted ∷
    of.Unavailable ∷ of.BadLimits ∷ of.Halted ∷ of.Halted ∷ of.Halted ∷ of.Halted ∷ of.Halted ∷
    of.Halted ∷ of.Halted ∷ of.Halted ∷ of.Memory ∷ of.SeatTaken ∷ of.NoThread ∷ of.SeatsSpent ∷
    of.OutOfTurn ∷ of.BadBatch ∷ of.Unread ∷ of.Halted ∷ of.Halted ∷ of.Halted ∷ of.TextFault ∷
    of.TextMemory ∷ of.Halted ∷ of.Halted ∷ of.Halted ∷ of.Halted ∷ of.Halted ∷ of.Halted ∷
    of.Halted ∷ of.Halted ∷ of.IllFormed ∷ of.NotFormat1 ∷ of.NotClean ∷ []

-- the refusal of a number
abbrev at : ℕ → Refusal
at n = slice_index_or table n of.Halted

-- a refusal is that of its number
back : (r : Refusal) → at (told_as r).number ≡ r
back of.Halted = refl
back r = refl

-- refusals of one number are one
pub same_refusal : (r s : Refusal) → (told_as r).number ≡ (told_as s).number → r ≡ s
same_refusal r s e = sym (back r) ∙ (ap at e ∙ back s)
