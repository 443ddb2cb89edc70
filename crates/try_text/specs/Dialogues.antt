-- A dialogue: what its kernel was booted with, and its lines.
use Rattle.std.specs.Prelude.{ℕ, ◌-◌, ◌++◌, ◌∷◌, List, [], length, take, drop, slice_get, Option, Some, None}
use Rattle.base.specs.declared.ranges.Limits.{Limits}
use Rattle.try_text.specs.Standing.{start, after_all}
use Rattle.try_text.specs.Stands.{Stands}
use Rattle.try_text.specs.declared.tried_lines.kept.TriedLine.{TriedLine}

pub record Talk : Type 0 where
  pub limits : Limits
  pub lines : List TriedLine

abbrev pub talk : Limits → List TriedLine → Talk
talk limits lines = record { limits = limits; lines = lines }

-- before its first line
abbrev pub begun : Limits → Talk
begun limits = talk limits []

-- with one line more
abbrev pub with_line : Talk → TriedLine → Talk
with_line d k = talk d.limits (d.lines ++ k ∷ [])

-- all lines but the last
abbrev pub all_but_last : List TriedLine → List TriedLine
all_but_last lines = take (length lines - 1) lines

-- with its last line taken back
abbrev pub undone : Talk → Talk
undone d = talk d.limits (all_but_last d.lines)

-- where it stands
abbrev pub standing : Talk → Stands
standing d = after_all (start d.limits) d.lines

-- its last line
abbrev pub last_of : List TriedLine → Option TriedLine
last_of lines = slice_get lines (length lines - 1)
