-- The help text, which is made of the table.
use Rattle.std.specs.Prelude.{◌-◌, ℕ, List, [], ◌∷◌, ◌++◌, length, replicate, Option, Some, None, codes}
use Rattle.std.specs.Borrow.{Bor}
use Rattle.std.specs.Fmt.{decimal}
use Rattle.std.specs.List.{flat_map}
use Rattle.clap.specs.Words.{Text}
use Rattle.lu_cli.specs.declared.table.CommandRow.{CommandRow}
use Rattle.lu_cli.specs.declared.table.Kind.{Kind}
use Rattle.lu_cli.specs.declared.table.Kind.TheVariants.{Flag, Number, Long}
use Rattle.lu_cli.specs.declared.table.OptionRow.{OptionRow}
use Rattle.lu_cli.specs.Args.{most_long}
use Rattle.lu_cli.specs.Outcomes.{Answer}
use Rattle.lu_cli.specs.Table.{TableCommand, TableOption, command_said, commands, commands_said, option_said, options, options_said}

-- this many blanks
abbrev pub blanks : ℕ → Text
blanks count = replicate count 32

-- the text, and blanks after it up to this width
abbrev pub padded : ℕ → Text → Text
padded width text = text ++ blanks (width - length text)

-- ---- commands

-- a command, its parts, and what it answers
abbrev pub command_line : TableCommand → Text
command_line c = codes "  " ++ padded 10 c.name ++ padded 34 c.parts ++ c.words ++ codes "\n"

abbrev pub command_lines : List TableCommand → Text
command_lines = flat_map command_line

-- the same of rows in memory
abbrev pub command_rows : List CommandRow → Text
command_rows = flat_map (λ row. command_line (command_said row))

-- ---- options

-- from the least number to the greatest, and what is taken where none is said
abbrev pub range_text : ℕ → ℕ → Option Text → Text
range_text least most None = decimal least ++ (codes " to " ++ (decimal most ++ codes ", "))
range_text least most (Some text) =
    decimal least ++ (codes " to " ++ (decimal most ++ (codes " (" ++ (text ++ codes "), "))))

-- the same of a text in memory
abbrev pub range_lent : ℕ → ℕ → Option (Bor Text) → Text
range_lent least most None = range_text least most None
range_lent least most (Some text) = range_text least most (Some text.now)

abbrev pub range_by : Kind → Option Text → Text
range_by Flag default = []
range_by (Number least most) default = range_text least most default
range_by Long default = range_text 0 most_long default

-- the range of an option's number, and what is taken where it is left out
abbrev pub range_of : TableOption → Text
range_of o = range_by o.kind o.default

abbrev pub written_by : Kind → Text → Text → Text
written_by Flag name letter = codes "--" ++ name
written_by _ name letter = codes "--" ++ (name ++ (codes " " ++ letter))

-- how the option stands on a command line
abbrev pub written : TableOption → Text
written o = written_by o.kind o.name o.letter

abbrev pub other_name : Text → Text
other_name name = codes ", " ++ name

-- names in memory, each after a comma
abbrev pub lent_others : List (Bor Text) → Text
lent_others = flat_map (λ name. other_name name.now)

-- names with commas between them
abbrev pub names_text : List Text → Text
names_text [] = []
names_text (name ∷ others) = name ++ flat_map other_name others

-- the option, and its range
abbrev pub option_head : TableOption → Text
option_head o = codes "  " ++ padded 13 (written o) ++ range_of o

-- what it is, and the commands that take it
abbrev pub option_tail : TableOption → Text
option_tail o = o.words ++ codes ": " ++ names_text o.commands ++ codes "\n"

abbrev pub option_line : TableOption → Text
option_line o = option_head o ++ option_tail o

abbrev pub option_lines : List TableOption → Text
option_lines = flat_map option_line

-- the same of rows in memory
abbrev pub option_rows : List OptionRow → Text
option_rows = flat_map (λ row. option_line (option_said row))

-- ---- the text

-- the text before the commands
abbrev pub usage : Text
usage =
    codes "lineup finds faults in concurrent components, such as locks, queues and counters.\n\n"
    ++ codes "usage: lineup COMMAND [OPTION..] < BUNDLE\n"
    ++ codes "A bundle has the parts listed here, in this order, separated by lines `---`.\n"
    ++ codes "Exit status: 0 success, 1 failure, 2 refused, 3 undecided or a serial cut,\n"
    ++ codes "4 out of memory, or failed to read, write or start a thread.\n\n"

-- the text between the commands and the options
abbrev pub notes : Text
notes =
    codes "\nexplain, draw and trace also take a schedule in place of the report, or the output\n"
    ++ codes "of certify in place of matrix and report. Given a component and a matrix alone,\n"
    ++ codes "they certify and show what fails.\n\n"
    ++ codes "witness also takes runs in place of matrix and histories.\n\n"
    ++ codes "compile, explain, draw, trace and lint take a source in place of the component. The\n"
    ++ codes "other commands do so with --source.\n\n"
    ++ codes "Options, each with its range, its default in parentheses, its meaning, and the\n"
    ++ codes "commands that take it:\n\n"

-- the help text of a table: a line for each command, and one for each option
abbrev pub help_of : List TableCommand → List TableOption → Text
help_of commands options = usage ++ command_lines commands ++ notes ++ option_lines options

-- the same of rows in memory
abbrev pub help_rows : List CommandRow → List OptionRow → Text
help_rows commands options = help_of (commands_said commands) (options_said options)

-- the help text
abbrev pub help_text : Text
help_text = help_of commands options

-- what `help` answers
abbrev pub help_answer : Answer
help_answer = record { text = help_text; status = 0 }
