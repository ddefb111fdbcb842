-- The table: the commands, and their options.
use Rattle.std.specs.Prelude.{List, [], ◌∷◌, ◌++◌, map, Option, Some, None, option_map, codes}
use Rattle.clap.specs.Words.{Text}
use Rattle.lu_text.specs.Lines.{texts}
use Rattle.lu_cli.specs.declared.table.CommandRow.{CommandRow}
use Rattle.lu_cli.specs.declared.table.Kind.{Kind}
use Rattle.lu_cli.specs.declared.table.Kind.TheVariants.{Flag, Number, Long}
use Rattle.lu_cli.specs.declared.table.OptionRow.{OptionRow}

-- a command: its name, the parts of the bundle that it takes, and what it answers
pub record TableCommand : Type 0 where
  pub name : Text
  pub parts : Text
  pub words : Text

-- an option: its name, the letter of its number, what it takes, what is taken where it is left out,
-- what it is, and the names of the commands that take it
pub record TableOption : Type 0 where
  pub name : Text
  pub letter : Text
  pub kind : Kind
  pub default : Option Text
  pub words : Text
  pub commands : List Text

abbrev pub command : Text → Text → Text → TableCommand
command name parts words = record { name = name; parts = parts; words = words }

-- an option that takes a number
abbrev pub number : Text → Text → Kind → Option Text → Text → List Text → TableOption
number name letter kind default words commands = record {
  name = name;
  letter = letter;
  kind = kind;
  default = default;
  words = words;
  commands = commands;
}

-- an option that takes nothing
abbrev pub flag : Text → Text → List Text → TableOption
flag name words commands = number name [] Flag None words commands

-- the commands, in the order of the help
abbrev pub commands : List TableCommand
commands =
    command (codes "certify") (codes "component, matrix")
    (codes "whether it is linearizable, for schedules of any length")
    ∷ command (codes "check") (codes "component, matrix")
    (codes "the report: pass, or the first fault within the bound")
    ∷ command (codes "explain") (codes "component, matrix, report")
    (codes "why no serial history explains the schedule")
    ∷ command (codes "trace") (codes "component, matrix, report")
    (codes "what each move of the schedule does")
    ∷ command (codes "draw") (codes "component, matrix, report")
    (codes "the schedule as a picture (SVG)")
    ∷ command (codes "replay") (codes "component, matrix, schedule")
    (codes "the history of a schedule")
    ∷ command (codes "serial") (codes "component, matrix")
    (codes "the serial histories")
    ∷ command (codes "lint") (codes "component [matrix [more parts]]")
    (codes "errors and warnings, each with its line")
    ∷ command (codes "shrink") (codes "component, matrix")
    (codes "a smaller matrix that fails")
    ∷ command (codes "campaign") (codes "component, matrix")
    (codes "the first small matrix of the given calls that fails")
    ∷ command (codes "witness") (codes "component, matrix, histories")
    (codes "whether recorded histories have serial witnesses")
    ∷ command (codes "conform") (codes "component, matrix, histories")
    (codes "whether the component can produce recorded histories")
    ∷ command (codes "spec") (codes "component, matrix, specification")
    (codes "a specification in its canonical form")
    ∷ command (codes "refute") (codes "component, matrix, report, spec")
    (codes "a schedule that violates the specification")
    ∷ command (codes "compile") (codes "source [more parts]")
    (codes "the component that a source compiles to")
    ∷ command (codes "commands") []
    (codes "this text")
    ∷ []

-- the options, in the order of the help; where commands differ in one, each of them has its own
abbrev pub options : List TableOption
options =
    number (codes "bound") (codes "N") (Number 0 256) (Some (codes "40"))
    (codes "maximum number of moves in a schedule")
    (codes "serial" ∷ codes "check" ∷ codes "witness" ∷ codes "shrink" ∷ [])
    ∷ number (codes "bound") (codes "N") (Number 0 256) (Some (codes "256"))
    (codes "maximum number of moves in a schedule")
    (codes "certify" ∷ [])
    ∷ number (codes "bound") (codes "N") (Number 0 256) None
    (codes "maximum number of moves in a schedule; by default 40, or 256 with --certify")
    (codes "campaign" ∷ [])
    ∷ number (codes "serial") (codes "S") (Number 1 256) (Some (codes "40"))
    (codes "maximum number of moves of an operation that runs alone")
    (codes "lint" ∷ codes "serial" ∷ codes "check" ∷ codes "witness" ∷ codes "explain" ∷
    codes "draw" ∷ codes "shrink" ∷ [])
    ∷ number (codes "serial") (codes "S") (Number 1 256) (Some (codes "256"))
    (codes "maximum number of moves of an operation that runs alone")
    (codes "certify" ∷ [])
    ∷ number (codes "serial") (codes "S") (Number 1 256) None
    (codes "maximum number of moves of an operation that runs alone; by default 40, or 256 with "
    ++ codes "--certify")
    (codes "campaign" ∷ [])
    ∷ number (codes "rounds") (codes "N") (Number 1 65535) None
    (codes "each thread repeats its line of calls up to N times")
    (codes "certify" ∷ [])
    ∷ flag (codes "forever") (codes "each thread repeats its line of calls any number of times")
    (codes "certify" ∷ [])
    ∷ number (codes "nodes") (codes "N") (Number 1 4294967295) (Some (codes "8388608"))
    (codes "maximum number of states to search in each cut; in total with --rounds or --forever")
    (codes "certify" ∷ [])
    ∷ number (codes "memory") (codes "M") (Number 1 65535) None
    (codes "no more states than fit in M MiB, at 512 bytes each")
    (codes "certify" ∷ [])
    ∷ number (codes "local") (codes "L") (Number 0 16) (Some (codes "0"))
    (codes "least number of local instructions that may run as part of a move; replaces a "
    ++ codes "smaller `local` of the component")
    (codes "certify" ∷ [])
    ∷ number (codes "workers") (codes "W") (Number 1 16) (Some (codes "1"))
    (codes "number of worker threads")
    (codes "check" ∷ codes "certify" ∷ [])
    ∷ number (codes "depth") (codes "D") (Number 0 8) None
    (codes "split the search by the first D moves, so that workers share it (by default, one "
    ++ codes "worker searches alone at first, and then D is 4)")
    (codes "check" ∷ codes "certify" ∷ [])
    ∷ flag (codes "spec") (codes "judge by a specification, the third part")
    (codes "check" ∷ codes "witness" ∷ [])
    ∷ flag (codes "spec") (codes "judge by a specification, the fourth part")
    (codes "explain" ∷ [])
    ∷ flag (codes "marks") (codes "entries of a specification may have the mark `?`")
    (codes "lint" ∷ codes "check" ∷ codes "witness" ∷ codes "explain" ∷ [])
    ∷ flag (codes "show") (codes "print a schedule for each history")
    (codes "conform" ∷ [])
    ∷ flag (codes "explain") (codes "number the calls that a serial history explains")
    (codes "draw" ∷ [])
    ∷ flag (codes "setup") (codes "begin the trace with the setup")
    (codes "trace" ∷ [])
    ∷ flag (codes "brief") (codes "show calls, returns, and steps on shared words and locks")
    (codes "trace" ∷ [])
    ∷ number (codes "threads") (codes "T") (Number 1 8) None
    (codes "number of threads in each matrix; by default 2")
    (codes "campaign" ∷ [])
    ∷ number (codes "calls") (codes "C") (Number 1 8) (Some (codes "1"))
    (codes "number of calls of each thread")
    (codes "campaign" ∷ [])
    ∷ flag (codes "by-thread")
    (codes "each thread chooses from its own line of calls; not with --threads")
    (codes "campaign" ∷ [])
    ∷ number (codes "from") (codes "I") Long (Some (codes "0"))
    (codes "number of the first matrix, counted from 0")
    (codes "campaign" ∷ [])
    ∷ number (codes "upto") (codes "J") Long (Some (codes "18446744073709551615"))
    (codes "number of the matrix after the last one")
    (codes "campaign" ∷ [])
    ∷ flag (codes "count") (codes "print only the number of matrices")
    (codes "campaign" ∷ [])
    ∷ flag (codes "certify") (codes "certify each matrix")
    (codes "campaign" ∷ [])
    ∷ flag (codes "all")
    (codes "continue after a matrix that is not linearizable; only with --certify")
    (codes "campaign" ∷ [])
    ∷ flag (codes "spec") (codes "compare with a trusted component, the third part")
    (codes "campaign" ∷ [])
    ∷ flag (codes "progress")
    (codes "show on standard error how far the campaign has come, also without a terminal")
    (codes "campaign" ∷ [])
    ∷ flag (codes "source") (codes "the component may be a source")
    (codes "serial" ∷ codes "check" ∷ codes "certify" ∷ codes "witness" ∷ codes "conform" ∷
    codes "replay" ∷ codes "shrink" ∷ codes "campaign" ∷ codes "spec" ∷ codes "refute" ∷ [])
    ∷ flag (codes "hints") (codes "explain refusals and cut schedules on standard error")
    (codes "compile" ∷ codes "lint" ∷ codes "serial" ∷ codes "check" ∷ codes "certify" ∷
    codes "witness" ∷ codes "conform" ∷ codes "explain" ∷ codes "draw" ∷ codes "trace" ∷
    codes "replay" ∷ codes "shrink" ∷ codes "campaign" ∷ codes "spec" ∷ codes "refute" ∷
    codes "commands" ∷ [])
    ∷ []

-- ---- the table in memory

-- what a row says of a command
abbrev pub command_said : CommandRow → TableCommand
command_said row = command row.name.now row.parts.now row.words.now

abbrev pub commands_said : List CommandRow → List TableCommand
commands_said = map command_said

-- what a row says of an option
abbrev pub option_said : OptionRow → TableOption
option_said row =
    number row.name.now row.letter.now row.kind (option_map (λ text. text.now) row.default)
    row.words.now
    (texts row.commands.now)

abbrev pub options_said : List OptionRow → List TableOption
options_said = map option_said
