-- The commands of the programs, as `clap`'s definitions see them.
use Rattle.std.specs.Prelude.{◌≡◌, ℕ, Bool, true, false, List, [], ◌∷◌, Some, codes, map}
use Rattle.std.specs.Borrow.{Bor}
use Rattle.clap.specs.Simple.{App, app_of, new_app, new_rule, on_top, with_rule, with_subcommand}
use Rattle.clap.specs.Walk.{Rule, Text}
use Rattle.clap.specs.declared.builder.ArgAction.TheVariants.{Set, SetTrue}
use Rattle.clap.specs.declared.builder.Command.{Command}
use Rattle.clap.specs.declared.builder.Command.TheViews.{out-Command}
use Rattle.clap.specs.declared.builder.value_parser.ValueParser.{ValueParser}
use Rattle.clap.specs.declared.builder.value_parser.ValueParser.TheVariants as parsers

-- the command is this one, and none of its arguments is global
abbrev pub IsCommand : App → Command → Type 0
IsCommand app command = (app_of command ≡ app) × ((out-Command command).has_globals ≡ false)

-- the path of a file, which has to be there
abbrev pub file_rule : Text → Rule
file_rule name = record (new_rule name) { required = true; action = Some Set }

-- a flag, by its name
abbrev pub flag_rule : Text → Rule
flag_rule name = record (new_rule name) { long = Some name; action = Some SetTrue }

-- a text, behind its name
abbrev pub option_rule : Text → Rule
option_rule name = record (new_rule name) { long = Some name; action = Some Set; value_names = 1 }

-- a text of those that a parser takes, behind its name
abbrev pub parsed_rule : Text → ValueParser → Rule
parsed_rule name parser = record (option_rule name) { parser = Some parser }

-- a number of 64 bits
abbrev pub any_number : ValueParser
any_number = parsers.Unsigned 0 18446744073709551615

-- a number that has a default, behind its name
abbrev pub default_rule : Text → Text → Rule
default_rule name default = record (new_rule name) { long = Some name; value_names = 1; defaults = default ∷ [] }

-- the same, from a least to a most number
abbrev pub ranged_rule : Text → Text → ℕ → ℕ → Rule
ranged_rule name default least most =
    record (default_rule name default) { parser = Some (parsers.Unsigned least most) }

-- ---- histar-audit

-- a number of 64 bits, which has to be there or not
abbrev pub number_rule : Text → Bool → Rule
number_rule name is_needed = record (parsed_rule name any_number) { required = is_needed }

-- a command's name, and that it has a version
abbrev pub versioned : Text → App
versioned name = on_top (λ s. record s { has_version = true }) (new_app name)

-- the command, with the object and the category of flows, which are both needed or neither
abbrev pub audit_command : Bool → App
audit_command asks_flows =
    with_rule
    (with_rule
    (with_rule
    (with_rule
    (with_rule (with_rule (versioned (codes "histar-audit")) (file_rule (codes "FILE"))) (option_rule (codes "migrate")))
    (number_rule (codes "from") asks_flows))
    (number_rule (codes "category") asks_flows))
    (option_rule (codes "hidden")))
    (option_rule (codes "names"))

-- ---- histar

-- how many pages the root has
abbrev pub pages_rule : Rule
pages_rule = ranged_rule (codes "pages") (codes "64") 8 1024

abbrev pub run_command : App
run_command =
    with_rule
    (with_rule
    (with_rule
    (with_rule
    (with_rule
    (with_rule
    (with_rule (with_rule (new_app (codes "run")) (file_rule (codes "SCRIPT"))) pages_rule)
    (ranged_rule (codes "device") (codes "1") 0 3))
    (ranged_rule (codes "next-id") (codes "4") 4 2305843009213693952))
    (ranged_rule (codes "next-category") (codes "1") 1 2305843009213693952))
    (option_rule (codes "dump")))
    (ranged_rule (codes "checkpoint") (codes "0") 0 4294967295))
    (option_rule (codes "names"))

abbrev pub check_command : App
check_command =
    with_rule (with_rule (new_app (codes "check")) (file_rule (codes "SCRIPT"))) (flag_rule (codes "plain"))

abbrev pub try_command : App
try_command = with_rule (new_app (codes "try")) pages_rule

-- a command with a version, one of whose verbs has to be there
abbrev pub with_verbs : Text → App
with_verbs name = on_top (λ s. record s { subcommand_required = true }) (versioned name)

abbrev pub histar_command : App
histar_command =
    with_subcommand
    (with_subcommand
    (with_subcommand (with_subcommand (with_verbs (codes "histar")) run_command.top) check_command.top)
    try_command.top)
    (new_app (codes "show")).top

-- ---- histar show

-- the line that is asked about
abbrev pub line_rule : Rule
line_rule = record (new_rule (codes "LINE")) {
  action = Some Set;
  parser = Some (parsers.Unsigned 1 9223372036854775806);
}

-- a number that another argument has to stand beside
abbrev pub beside_rule : Text → Rule
beside_rule name = record (parsed_rule name any_number) { is_free = false }

-- the object of flows and their category, each of which needs the other
abbrev pub with_flows : App → App
with_flows command = with_rule (with_rule command (beside_rule (codes "from"))) (beside_rule (codes "category"))

-- a view by its name, of a dump
abbrev pub view_command : Text → App
view_command name = with_rule (new_app name) (file_rule (codes "DUMP"))

abbrev pub why_command : App
why_command =
    with_rule (with_rule (with_rule (view_command (codes "why")) line_rule) (flag_rule (codes "all")))
    (option_rule (codes "names"))

-- a tree's colours are of those that a parser takes
abbrev pub tree_command : ValueParser → App
tree_command colours =
    with_rule
    (with_rule
    (with_rule (with_rule (view_command (codes "tree")) (parsed_rule (codes "after") any_number))
    (parsed_rule (codes "as") any_number))
    (parsed_rule (codes "color") colours))
    (option_rule (codes "names"))

abbrev pub dot_command : App
dot_command = with_flows (with_rule (view_command (codes "dot")) (option_rule (codes "names")))

abbrev pub page_command : App
page_command =
    with_flows
    (with_rule
    (with_rule (view_command (codes "page")) (record (option_rule (codes "out")) { required = true }))
    (option_rule (codes "names")))

abbrev pub show_command : ValueParser → App
show_command colours =
    with_subcommand
    (with_subcommand
    (with_subcommand
    (with_subcommand (with_subcommand (with_verbs (codes "histar-show")) why_command.top) (tree_command colours).top)
    (view_command (codes "json")).top)
    dot_command.top)
    page_command.top

-- the parsers that take the words of a tree's colours
abbrev pub TakesColours : ValueParser → Type 0
TakesColours parser = (words : Bor (List (Bor Text)))
    × (parser ≡ parsers.Names words)
    × (map (λ w. w.now) words.now ≡ codes "auto" ∷ codes "always" ∷ codes "never" ∷ [])
