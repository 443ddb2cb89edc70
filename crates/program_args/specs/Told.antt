-- What words ask for, by what `clap` finds of their arguments.
use Rattle.std.specs.Prelude.{◌≡◌, ◌==◌, ◌&&◌, ◌^◌, ℕ, Bool, true, false, nat_lt, List, [], Option, Some, None, codes}
use Rattle.std.specs.Prelude.{if◌then◌else◌, is_some, option_and_then, option_map, unwrap_or}
use Rattle.std.specs.Option.{option_map_or}
use mathlib.Core.Bool.{beq}
use Rattle.std.specs.Str.{bytes_eq}
use Rattle.std.specs.Str.Parse.{digits_value, without_leading_plus}
use Rattle.clap.specs.Simple.{matches_of}
use Rattle.clap.specs.ValueTests.{is_numeral}
use Rattle.clap.specs.Walk.{Row, Text, first_of, one_of}
use Rattle.base.specs.declared.ids.Category.{Category}
use Rattle.base.specs.declared.levels.Level.{Level}
use Rattle.base.specs.declared.levels.Level.TheVariants.{L0, L1, L2, L3}
use Rattle.base.specs.declared.ranges.Limits.{Limits}
use Rattle.program_io.specs.declared.options.Options.{Options}
use Rattle.program_args.specs.Commands.{audit_command}
use Rattle.program_args.specs.declared.audit.AuditArgs.{AuditArgs}
use Rattle.program_args.specs.declared.check.CheckArgs.{CheckArgs}
use Rattle.program_args.specs.declared.run.RunArgs.{RunArgs}
use Rattle.program_args.specs.declared.show.Colours.{Colours}
use Rattle.program_args.specs.declared.show.Colours.TheVariants as colour
use Rattle.program_args.specs.declared.show.ShowArgs.{ShowArgs}
use Rattle.program_args.specs.declared.show.View.{View}
use Rattle.program_args.specs.declared.show.View.TheVariants as view
use Rattle.program_args.specs.declared.words.Verb.{Verb}
use Rattle.program_args.specs.declared.words.Verb.TheVariants.{Run, Check, Try}

-- the number of so many bits that a text spells, if it spells one
abbrev pub number_of : ℕ → Text → Option ℕ
number_of bits text =
    let digits = without_leading_plus text in
    if is_numeral digits && nat_lt (digits_value 10 digits) (2 ^ bits) then Some (digits_value 10 digits) else None

-- ---- what an argument tells

-- a number of so many bits
abbrev pub number_in : ℕ → Text → List Row → Option ℕ
number_in bits id rows = option_and_then (number_of bits) (one_of id rows)

-- whether a flag is there
abbrev pub flag_in : Text → List Row → Bool
flag_in id rows = option_map_or (λ text. bytes_eq text (codes "true")) (one_of id rows) false

-- a text, which is empty where none is told
abbrev pub text_in : Text → List Row → Text
text_in id rows = unwrap_or (first_of id rows) []

-- the object whose flows are asked for, and the category outside of which they are
abbrev pub flow_in : List Row → Option (ℕ × Category)
flow_in rows = option_and_then
    (λ «from». option_map (λ category. («from», record { 0 = category })) (number_in 64 (codes "category") rows))
    (number_in 64 (codes "from") rows)

-- how many pages the root has
abbrev pub pages_in : List Row → ℕ
pages_in rows = unwrap_or (number_in 32 (codes "pages") rows) 64

-- ---- histar run, check and try

abbrev pub level_of : ℕ → Level
level_of n = if n == 0 then L0 else (if n == 1 then L1 else (if n == 2 then L2 else L3))

abbrev pub limits_in : List Row → Limits
limits_in rows = record {
  pages = pages_in rows;
  device = level_of (unwrap_or (number_in 64 (codes "device") rows) 1);
  next_id = unwrap_or (number_in 64 (codes "next-id") rows) 4;
  next_category = unwrap_or (number_in 64 (codes "next-category") rows) 1;
}

abbrev pub options_in : List Row → Options
options_in rows = record {
  limits = limits_in rows;
  dump = is_some (first_of (codes "dump") rows);
  checkpoint = unwrap_or (number_in 32 (codes "checkpoint") rows) 0;
  names = is_some (first_of (codes "names") rows);
}

abbrev pub IsRunOf : List Row → RunArgs → Type 0
IsRunOf rows run = (run.options ≡ options_in rows)
    × (run.script.now ≡ text_in (codes "SCRIPT") rows)
    × (option_map (λ path. path.now) run.dump ≡ first_of (codes "dump") rows)
    × (option_map (λ path. path.now) run.names ≡ first_of (codes "names") rows)

abbrev pub IsCheckOf : List Row → CheckArgs → Type 0
IsCheckOf rows check = (check.script.now ≡ text_in (codes "SCRIPT") rows)
    × (check.is_plain ≡ flag_in (codes "plain") rows)

-- a kernel of so many pages, the rest of whose limits are those of one that is told none
abbrev pub limits_of : ℕ → Limits
limits_of pages = record { pages = pages; device = L1; next_id = 4; next_category = 1 }

-- the verb of this name, with what its arguments tell
abbrev pub IsVerbOf : Text × List Row → Verb → Type 0
IsVerbOf (name, rows) (Run run) = (bytes_eq name (codes "run") ≡ true) × IsRunOf rows run
IsVerbOf (name, rows) (Try limits) = (bytes_eq name (codes "try") ≡ true) × (limits ≡ limits_of (pages_in rows))
IsVerbOf (name, rows) (Check check) = (bytes_eq name (codes "run") ≡ false)
    × (bytes_eq name (codes "try") ≡ false)
    × IsCheckOf rows check

-- ---- histar show

abbrev pub colours_of : Text → Colours
colours_of text =
    if bytes_eq text (codes "always") then colour.Always
    else (if bytes_eq text (codes "never") then colour.Never else colour.Auto)

-- the view of this name, with what its arguments tell
abbrev pub view_in : Text → List Row → View
view_in name rows =
    if bytes_eq name (codes "tree")
    then view.Tree (number_in 64 (codes "after") rows) (number_in 64 (codes "as") rows) (colours_of (text_in (codes "color") rows))
    else (if bytes_eq name (codes "json") then view.Json
    else (if bytes_eq name (codes "dot") then view.Dot (flow_in rows)
    else (if bytes_eq name (codes "page") then view.Page (flow_in rows)
    else view.Why (number_in 64 (codes "LINE") rows) (flag_in (codes "all") rows))))

-- the path that a page is written to
abbrev pub out_of : View → List Row → Option Text
out_of (view.Page flow) rows = first_of (codes "out") rows
out_of _ rows = None

-- the path of the names, which JSON has no use for
abbrev pub names_of : View → List Row → Option Text
names_of view.Json rows = None
names_of _ rows = first_of (codes "names") rows

abbrev pub IsShownOf : Text × List Row → ShowArgs → Type 0
IsShownOf (name, rows) told = (told.view ≡ view_in name rows)
    × (told.dump.now ≡ text_in (codes "DUMP") rows)
    × (option_map (λ path. path.now) told.out ≡ out_of told.view rows)
    × (option_map (λ path. path.now) told.names ≡ names_of told.view rows)

-- ---- histar-audit

-- what `clap` finds in the words. Where they name an object or a category alone, both have to be there
abbrev pub audit_rows : List Text → List Row
audit_rows words =
    let rows = matches_of (audit_command false) words in
    if beq (is_some (first_of (codes "from") rows)) (is_some (first_of (codes "category") rows)) then rows
    else matches_of (audit_command true) words

abbrev pub IsAuditOf : List Row → AuditArgs → Type 0
IsAuditOf rows told = (told.dump.now ≡ text_in (codes "FILE") rows)
    × (told.options ≡ record { migrate = is_some (first_of (codes "migrate") rows); flow = flow_in rows })
    × (option_map (λ path. path.now) told.migrate ≡ first_of (codes "migrate") rows)
    × (option_map (λ label. label.now) told.hidden ≡ first_of (codes "hidden") rows)
    × (option_map (λ path. path.now) told.names ≡ first_of (codes "names") rows)
