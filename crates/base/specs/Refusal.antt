-- The table of refusals.
use Rattle.std.specs.Prelude.{ℕ, List, codes, nat_le, if◌then◌else◌}
use Rattle.base.specs.declared.refusals.Refusal.{Refusal}
use Rattle.base.specs.declared.refusals.Refusal.TheVariants.{Halted, NoAccess, NoEntry, WrongType}
use Rattle.base.specs.declared.refusals.Refusal.TheVariants.{CannotObserve, CannotModify, BadLabel}
use Rattle.base.specs.declared.refusals.Refusal.TheVariants.{LabelRange, ClearanceRange, LabelFull}
use Rattle.base.specs.declared.refusals.Refusal.TheVariants.{AvoidType, NoQuota, FixedQuota}
use Rattle.base.specs.declared.refusals.Refusal.TheVariants.{NotFixed, AlreadyLinked, RootKept}
use Rattle.base.specs.declared.refusals.Refusal.TheVariants.{Immutable, Bounds, NotMapped}
use Rattle.base.specs.declared.refusals.Refusal.TheVariants.{RightsDenied, Overlap, GateDenied}
use Rattle.base.specs.declared.refusals.Refusal.TheVariants.{DeviceFull, DeviceEmpty, Spent}
use Rattle.base.specs.declared.refusals.Refusal.TheVariants.{Unavailable, BadLimits, Memory}
use Rattle.base.specs.declared.refusals.Refusal.TheVariants.{SeatTaken, NoThread, SeatsSpent}
use Rattle.base.specs.declared.refusals.Refusal.TheVariants.{OutOfTurn, BadBatch, Unread, TextFault}
use Rattle.base.specs.declared.refusals.Refusal.TheVariants.{TextMemory, IllFormed, NotFormat1}
use Rattle.base.specs.declared.refusals.Refusal.TheVariants.{NotClean}

-- a refusal as it is told: its number and its name
pub record Told : Type 0 where
  pub number : ℕ
  pub name : List ℕ

-- the table of refusals
abbrev pub told_as : Refusal → Told
told_as Halted = record { number = 1; name = codes "Halted" }
told_as NoAccess = record { number = 2; name = codes "NoAccess" }
told_as NoEntry = record { number = 3; name = codes "NoEntry" }
told_as WrongType = record { number = 4; name = codes "WrongType" }
told_as CannotObserve = record { number = 5; name = codes "CannotObserve" }
told_as CannotModify = record { number = 6; name = codes "CannotModify" }
told_as BadLabel = record { number = 7; name = codes "BadLabel" }
told_as LabelRange = record { number = 8; name = codes "LabelRange" }
told_as ClearanceRange = record { number = 9; name = codes "ClearanceRange" }
told_as LabelFull = record { number = 10; name = codes "LabelFull" }
told_as AvoidType = record { number = 11; name = codes "AvoidType" }
told_as NoQuota = record { number = 12; name = codes "NoQuota" }
told_as FixedQuota = record { number = 13; name = codes "FixedQuota" }
told_as NotFixed = record { number = 14; name = codes "NotFixed" }
told_as AlreadyLinked = record { number = 15; name = codes "AlreadyLinked" }
told_as RootKept = record { number = 16; name = codes "RootKept" }
told_as Immutable = record { number = 17; name = codes "Immutable" }
told_as Bounds = record { number = 18; name = codes "Bounds" }
told_as NotMapped = record { number = 19; name = codes "NotMapped" }
told_as RightsDenied = record { number = 20; name = codes "RightsDenied" }
told_as Overlap = record { number = 21; name = codes "Overlap" }
told_as GateDenied = record { number = 22; name = codes "GateDenied" }
told_as DeviceFull = record { number = 23; name = codes "DeviceFull" }
told_as DeviceEmpty = record { number = 24; name = codes "DeviceEmpty" }
told_as Spent = record { number = 25; name = codes "Spent" }
told_as Unavailable = record { number = 30; name = codes "Unavailable" }
told_as BadLimits = record { number = 31; name = codes "BadLimits" }
told_as Memory = record { number = 40; name = codes "Memory" }
told_as SeatTaken = record { number = 41; name = codes "SeatTaken" }
told_as NoThread = record { number = 42; name = codes "NoThread" }
told_as SeatsSpent = record { number = 43; name = codes "SeatsSpent" }
told_as OutOfTurn = record { number = 44; name = codes "OutOfTurn" }
told_as BadBatch = record { number = 45; name = codes "BadBatch" }
told_as Unread = record { number = 46; name = codes "Unread" }
told_as TextFault = record { number = 50; name = codes "TextFault" }
told_as TextMemory = record { number = 51; name = codes "TextMemory" }
told_as IllFormed = record { number = 60; name = codes "IllFormed" }
told_as NotFormat1 = record { number = 61; name = codes "NotFormat1" }
told_as NotClean = record { number = 62; name = codes "NotClean" }

-- of two refusals the one with the smaller number
abbrev pub lesser : Refusal → Refusal → Refusal
lesser a b = if nat_le (told_as a).number (told_as b).number then a else b
