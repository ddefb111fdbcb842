-- The commands of the program, and what words ask for.
use Rattle.std.specs.Prelude.{◌≡◌, ℕ, ◌*◌, ◌/◌, min, ◌^◌, ◌&&◌, ◌==◌, Bool, true, false, pos, List, [], ◌∷◌, fold, length, map, Option, Some, None, Result, IfOk, option_and_then, unwrap_or, codes, nat_lt, if◌then◌else◌}
use Rattle.std.specs.List.{list_all, list_any}
use Rattle.std.specs.Option.{option_map, option_map_or}
use Rattle.std.specs.Str.{bytes_eq}
use Rattle.std.specs.Char.{digit_value}
use Rattle.std.specs.Str.Parse.{digits_value, without_leading_plus}
use Rattle.clap.specs.Words.{App, Row, Rule, Text, app_of, new_app, new_rule, with_rule, with_subcommand, subcommand_of, fault_of}
pub use Rattle.clap.specs.Words.{one_of}
use Rattle.clap.specs.declared.builder.action.ArgAction.TheVariants.{SetTrue}
use Rattle.clap.specs.declared.builder.command.Command.{Command}
use Rattle.clap.specs.declared.builder.command.Command.TheViews.{out-Command}
use Rattle.clap.specs.declared.builder.value_parser.ValueParser.TheVariants as vp
use Rattle.clap.specs.declared.error.kind.ErrorKind.{ErrorKind}
use Rattle.lu_cli.specs.declared.args.TheConstants.{NODES_OF_A_MIB}
use Rattle.lu_cli.specs.declared.request.CampaignOptions.{CampaignOptions}
use Rattle.lu_cli.specs.declared.request.CampaignPart.{CampaignPart}
use Rattle.lu_cli.specs.declared.request.CampaignPart.TheVariants.{Whole, Slice, Count}
use Rattle.lu_cli.specs.declared.request.CampaignThreads.{CampaignThreads}
use Rattle.lu_cli.specs.declared.request.CampaignThreads.TheVariants.{Alike, Own}
use Rattle.lu_cli.specs.declared.request.CampaignTrial.{CampaignTrial}
use Rattle.lu_cli.specs.declared.request.CampaignTrial.TheVariants.{Checked, Certified, Surveyed}
use Rattle.lu_cli.specs.declared.request.CertifyOptions.{CertifyOptions}
use Rattle.lu_cli.specs.declared.request.Repetition.{Repetition}
use Rattle.lu_cli.specs.declared.request.Repetition.TheVariants.{Forever, UpTo}
use Rattle.lu_cli.specs.declared.request.Request.{Request}
use Rattle.lu_cli.specs.declared.request.Showing.TheVariants as showing
use Rattle.lu_cli.specs.declared.request.TraceStart.{TraceStart}
use Rattle.lu_cli.specs.declared.request.TraceStart.TheVariants.{FirstMove, Setup}
use Rattle.lu_trace.specs.declared.detail.Detail.{Detail}
use Rattle.lu_trace.specs.declared.detail.Detail.TheVariants.{EachStep, SharedSteps}
use Rattle.lu_cli.specs.declared.request.Request.TheVariants.{Commands, Lint, Bundle, BundleWithSource}
use Rattle.lu_cli.specs.declared.request.BundleCommand.{BundleCommand}
use Rattle.lu_cli.specs.declared.request.BundleCommand.TheVariants.{Replay, Trace, Draw, DrawExplained, Explain, ExplainAgainst, Serial, Witness, WitnessAgainst, Conform, Spec, Check, CheckAgainst, Certify, CertifyUnrolled, Refute, Shrink, Campaign, CampaignAgainst, Compile}
use Rattle.lu_cli.specs.declared.table.CommandRow.{CommandRow}
use Rattle.lu_cli.specs.declared.table.Kind.{Kind}
use Rattle.lu_cli.specs.declared.table.Kind.TheVariants.{Flag, Number, Long}
use Rattle.lu_cli.specs.declared.table.OptionRow.{OptionRow}
use Rattle.lu_cli.specs.Table.{TableCommand, TableOption, command_said, commands, commands_said, option_said, options, options_said}
use Rattle.lu_report.specs.Limits.{Bounds, lies, limits_of, most_moves}
use Rattle.lu_spec.specs.declared.given.Marks.{Marks}
use Rattle.lu_spec.specs.declared.given.Marks.TheVariants.{Refused, Allowed}
use Rattle.lu_parallel.specs.Ranges.{Options, choice, with_head_start}

-- the greatest number of 64 bits
abbrev pub most_long : ℕ
most_long = 18446744073709551615

-- ---- the commands

-- the command is the app's, and none of its options is one of its commands too
pub record IsApp (app : App) (command : Command) : Type 0 where
  pub shape : app_of command ≡ app
  pub local : (out-Command command).has_globals ≡ false

-- the rule of an option with this name
abbrev pub rule_by : Text → Kind → Option Text → Rule
rule_by name Flag default = record (new_rule name) { long = Some name; action = Some SetTrue }
rule_by name (Number least most) default = record (new_rule name) {
  long = Some name;
  parser = Some (vp.Signed (pos least) (pos most));
  defaults = option_map_or (λ text. text ∷ []) default [];
}
rule_by name Long default = record (new_rule name) {
  long = Some name;
  parser = Some (vp.Unsigned 0 most_long);
  defaults = option_map_or (λ text. text ∷ []) default [];
}

abbrev pub option_rule : TableOption → Rule
option_rule o = rule_by o.name o.kind o.default

-- whether the command with this name takes the option
abbrev pub takes : Text → TableOption → Bool
takes name o = list_any (λ command. bytes_eq command name) o.commands

-- the app of a command has the rule of the option, where the command takes it
abbrev pub with_option : Text → App → TableOption → App
with_option name app o = if takes name o then with_rule app (option_rule o) else app

-- the app of a command: it has the rules of the options that the command takes
abbrev pub command_app : List TableOption → TableCommand → App
command_app options c = fold (with_option c.name) (new_app c.name) options

-- the program has the command
abbrev pub with_command : List TableOption → App → TableCommand → App
with_command options app c = with_subcommand app (command_app options c).top

-- the program without commands, which takes the words after its name, and wants a command
abbrev pub program : App
program =
    record (new_app (codes "lineup")) {
      top = record ((new_app (codes "lineup")).top) {
        no_binary_name = true;
        subcommand_required = true;
        disable_help_subcommand = true;
      };
    }

-- the app of a table: each command is a subcommand
abbrev pub table_app : List TableCommand → List TableOption → App
table_app commands options = fold (with_command options) program commands

abbrev pub lineup : App
lineup = table_app commands options

-- where the command is an app's, it takes the option too, if it is one that it takes
abbrev pub AddsOption : {E : Type 0} → Text → Command → OptionRow → Result Command E → Type 0
AddsOption name old row new =
    (app : App) → IsApp app old → IfOk new (IsApp (with_option name app (option_said row)))

-- where the program is an app's, it has the command too
abbrev pub AddsCommand : {E : Type 0} → List OptionRow → Command → CommandRow → Result Command E
    → Type 0
AddsCommand rows old row new =
    (app : App) → IsApp app old
    → IfOk new (IsApp (with_command (options_said rows) app (command_said row)))

-- the command is that of the row
abbrev pub IsCommandOf : CommandRow → List OptionRow → Command → Type 0
IsCommandOf row options = IsApp (command_app (options_said options) (command_said row))

-- the program is that of the rows
abbrev pub IsProgramOf : List CommandRow → List OptionRow → Command → Type 0
IsProgramOf rows options = IsApp (table_app (commands_said rows) (options_said options))

-- ---- what words ask for

-- the number of this many bits that a word says, where it says one
abbrev pub number_by : ℕ → Text → Option ℕ
number_by bits digits =
    if nat_lt 0 (length digits) &&
    (list_all (λ d. nat_lt (digit_value d) 10) digits && nat_lt (digits_value 10 digits)
    (2 ^ bits))
    then Some (digits_value 10 digits)
    else None

abbrev pub number_said : ℕ → Option Text → Option ℕ
number_said bits word =
    option_and_then (λ text. number_by bits (without_leading_plus text)) word

abbrev pub number_named : Text → List Row → Option ℕ
number_named name rows = number_said 16 (one_of name rows)

abbrev pub nodes_in : List Row → Option ℕ
nodes_in rows = number_said 32 (one_of (codes "nodes") rows)

abbrev pub long_number_in : Text → List Row → Option ℕ
long_number_in name rows = number_said 64 (one_of name rows)

-- whether the flag is there
abbrev pub flag_said : Option Text → Bool
flag_said (Some text) = bytes_eq text (codes "true")
flag_said None = false

abbrev pub flag_in : Text → List Row → Bool
flag_in name rows = flag_said (one_of name rows)

abbrev pub limits_with : Option ℕ → Option ℕ → Option Bounds
limits_with (Some bound) (Some serial) = limits_of bound serial
limits_with (Some bound) None = None
limits_with None serial = None

abbrev pub limits_in : List Row → Option Bounds
limits_in rows =
    limits_with (number_named (codes "bound") rows) (number_named (codes "serial") rows)

-- how many looks of its watch the search of one worker lasts before there are more
abbrev pub head_start : ℕ
head_start = 16777216

-- pieces of this many moves at once; where that is not said, a head start, and then pieces of 4
abbrev pub choice_for : ℕ → ℕ → ℕ → Option ℕ → Options
choice_for bound serial workers None = with_head_start head_start (choice bound serial workers 4)
choice_for bound serial workers (Some depth) = choice bound serial workers depth

-- the options of a check, where they are in range
abbrev pub choice_of : Options → Option Options
choice_of c =
    if lies 0 c.bound most_moves &&
    (lies 1 c.serial most_moves && (lies 1 c.workers 16 && lies 0 c.depth 8)) then Some c else None

abbrev pub choice_with : Option ℕ → Option ℕ → Option ℕ → Option ℕ → Option Options
choice_with (Some bound) (Some serial) (Some workers) depth =
    choice_of (choice_for bound serial workers depth)
choice_with _ _ _ _ = None

abbrev pub choice_in : List Row → Option Options
choice_in rows =
    choice_with (number_named (codes "bound") rows) (number_named (codes "serial") rows)
    (number_named (codes "workers") rows)
    (number_named (codes "depth") rows)

-- whether a specification may have marks
abbrev pub marks_in : List Row → Marks
marks_in rows = if flag_in (codes "marks") rows then Allowed else Refused

-- a check against the serial runs, or one against a specification
abbrev pub check_in : List Row → Option BundleCommand
check_in rows =
    option_map
    (λ choice. if flag_in (codes "spec") rows then CheckAgainst choice (marks_in rows)
    else Check choice)
    (choice_in rows)

-- at most this many nodes for each worker, and no more than fit in this many MiB
abbrev pub nodes_within : ℕ → Option ℕ → ℕ → ℕ
nodes_within nodes None workers = nodes
nodes_within nodes (Some memory) workers = min nodes (memory * NODES_OF_A_MIB / workers)

abbrev pub certify_with : Option Options → Option ℕ → Option ℕ → Option ℕ → Option CertifyOptions
certify_with (Some choice) (Some local) (Some nodes) memory =
    Some (record {
      options = choice;
      local = local;
      nodes = nodes_within nodes memory choice.workers;
    })
certify_with _ _ _ _ = None

abbrev pub certify_options_in : List Row → Option CertifyOptions
certify_options_in rows =
    certify_with (choice_in rows) (number_named (codes "local") rows) (nodes_in rows)
    (number_named (codes "memory") rows)

-- how often threads make their lines, where that is asked
abbrev pub repetition_in : List Row → Option Repetition
repetition_in rows =
    if flag_in (codes "forever") rows then Some Forever
    else option_map UpTo (number_named (codes "rounds") rows)

-- a certificate of a matrix, or of all matrices that are unrolled from it
abbrev pub certify_in : List Row → Option BundleCommand
certify_in rows =
    option_map
    (λ asked. option_map_or (CertifyUnrolled asked) (repetition_in rows) (Certify asked))
    (certify_options_in rows)

-- a judgement by the serial runs, or one by a specification
abbrev pub witness_in : List Row → Option BundleCommand
witness_in rows =
    option_map
    (λ limits. if flag_in (codes "spec") rows then WitnessAgainst (marks_in rows)
    else Witness limits)
    (limits_in rows)

-- how many histories are shown, or by which schedules too
abbrev pub conform_in : List Row → BundleCommand
conform_in rows =
    if flag_in (codes "show") rows then Conform showing.Schedules else Conform showing.Count

-- where a trace begins
abbrev pub start_in : List Row → TraceStart
start_in rows = if flag_in (codes "setup") rows then Setup else FirstMove

-- which steps it shows
abbrev pub detail_in : List Row → Detail
detail_in rows = if flag_in (codes "brief") rows then SharedSteps else EachStep

-- a trace
abbrev pub trace_in : List Row → BundleCommand
trace_in rows = Trace (record { start = start_in rows; detail = detail_in rows })

-- a picture, or one with an explanation
abbrev pub draw_in : List Row → Option BundleCommand
draw_in rows =
    option_map (λ limits. if flag_in (codes "explain") rows then DrawExplained limits else Draw)
    (limits_with (Some 0) (number_named (codes "serial") rows))

-- an explanation by the serial runs, or one by a specification; no schedule is bounded
abbrev pub explain_in : List Row → Option BundleCommand
explain_in rows =
    option_map
    (λ limits. if flag_in (codes "spec") rows then ExplainAgainst (marks_in rows)
    else Explain limits)
    (limits_with (Some 0) (number_named (codes "serial") rows))

-- this many threads, where the number is one of 8 bits
abbrev pub alike : ℕ → Option CampaignThreads
alike threads = if nat_lt threads 256 then Some (Alike threads) else None

-- which threads: `--by-thread` and `--threads` are not said together, and 2 where neither is
abbrev pub threads_with : Bool → Option ℕ → Option CampaignThreads
threads_with true None = Some Own
threads_with true (Some threads) = None
threads_with false None = alike 2
threads_with false (Some threads) = alike threads

abbrev pub threads_in : List Row → Option CampaignThreads
threads_in rows =
    threads_with (flag_in (codes "by-thread") rows) (number_named (codes "threads") rows)

-- What is asked of the campaign: nothing where its end lies before its beginning; else the number
-- of its matrices; or those from one number to another, which are all where these are the least and
-- the greatest.
abbrev pub part_of : Bool → ℕ → ℕ → Option CampaignPart
part_of count from upto =
    if nat_lt upto from then None
    else if count then Some Count
    else if from == 0 && upto == most_long then Some Whole else Some (Slice from upto)

abbrev pub part_with : Bool → Option ℕ → Option ℕ → Option CampaignPart
part_with count (Some from) (Some upto) = part_of count from upto
part_with count _ _ = None

abbrev pub part_in : List Row → Option CampaignPart
part_in rows =
    part_with (flag_in (codes "count") rows) (long_number_in (codes "from") rows)
    (long_number_in (codes "upto") rows)

-- what `--certify`, `--all` and `--spec` ask of each matrix: `--all` goes with `--certify`, and
-- `--spec` stands alone
abbrev pub trial_of : Bool → Bool → Bool → Option CampaignTrial
trial_of false false against = Some Checked
trial_of true false false = Some Certified
trial_of true true false = Some Surveyed
trial_of false true false = None
trial_of false true true = None
trial_of true false true = None
trial_of true true true = None

-- the bounds that are left out: those of `certify` or of `check`
abbrev pub default_bound : CampaignTrial → ℕ
default_bound Checked = 40
default_bound Certified = most_moves
default_bound Surveyed = most_moves

abbrev pub campaign_limits : CampaignTrial → Option ℕ → Option ℕ → Option Bounds
campaign_limits trial bound serial =
    limits_of (unwrap_or bound (default_bound trial)) (unwrap_or serial (default_bound trial))

abbrev pub campaign_with : CampaignTrial → Option Bounds → Option CampaignThreads → Option ℕ
    → Option CampaignPart → Option CampaignOptions
campaign_with trial (Some limits) (Some threads) (Some calls) (Some part) =
    if nat_lt calls 256 then Some
    (record { bounds = limits; threads = threads; calls = calls; part = part; trial = trial })
    else None
campaign_with _ _ _ _ _ = None

abbrev pub trial_in : List Row → Option CampaignTrial
trial_in rows =
    trial_of (flag_in (codes "certify") rows) (flag_in (codes "all") rows)
    (flag_in (codes "spec") rows)

-- the campaign with this trial
abbrev pub campaign_by : List Row → CampaignTrial → Option CampaignOptions
campaign_by rows trial =
    campaign_with trial
    (campaign_limits trial (number_named (codes "bound") rows)
    (number_named (codes "serial") rows))
    (threads_in rows)
    (number_named (codes "calls") rows)
    (part_in rows)

abbrev pub campaign_options_in : List Row → Option CampaignOptions
campaign_options_in rows = option_and_then (campaign_by rows) (trial_in rows)

-- a campaign, or one that holds the component against a trusted one
abbrev pub campaign_in : List Row → Option BundleCommand
campaign_in rows =
    option_map (if flag_in (codes "spec") rows then CampaignAgainst else Campaign)
    (campaign_options_in rows)

abbrev pub command_by : Text → List Row → Option BundleCommand
command_by name rows =
    if bytes_eq name (codes "replay") then Some Replay
    else (if bytes_eq name (codes "trace") then Some (trace_in rows)
    else (if bytes_eq name (codes "draw") then draw_in rows
    else (if bytes_eq name (codes "explain") then explain_in rows
    else (if bytes_eq name (codes "serial") then option_map Serial (limits_in rows)
    else (if bytes_eq name (codes "spec") then Some Spec
    else (if bytes_eq name (codes "check") then check_in rows
    else (if bytes_eq name (codes "witness") then witness_in rows
    else (if bytes_eq name (codes "conform") then Some (conform_in rows)
    else (if bytes_eq name (codes "certify") then certify_in rows
    else (if bytes_eq name (codes "refute") then Some Refute
    else (if bytes_eq name (codes "shrink") then option_map Shrink (limits_in rows)
    else (if bytes_eq name (codes "campaign") then campaign_in rows
    else (if bytes_eq name (codes "compile") then Some Compile
    else None)))))))))))))

-- no schedule is bounded
abbrev pub lint_in : List Row → Option Request
lint_in rows =
    option_map (λ limits. Lint (record { bounds = limits; marks = marks_in rows }))
    (limits_with (Some 0) (number_named (codes "serial") rows))

-- a command over a bundle, which with `--source` may begin with a source
abbrev pub over_bundle : List Row → BundleCommand → Request
over_bundle rows command =
    if flag_in (codes "source") rows then BundleWithSource command else Bundle command

-- what a command with these rows asks for
abbrev pub request_by : Text → List Row → Option Request
request_by name rows =
    if bytes_eq name (codes "commands") then Some Commands
    else (if bytes_eq name (codes "lint") then lint_in rows
    else option_map (over_bundle rows) (command_by name rows))

abbrev pub request_in : Option (Text × List Row) → Option Request
request_in entered = option_and_then (λ e. request_by e.0 e.1) entered

-- nothing is asked for where a fault is found
abbrev pub request_without : List ErrorKind → Option Request → Option Request
request_without [] request = request
request_without (k ∷ kinds) request = None

-- what the words after the program's name ask for: nothing where they are refused
abbrev pub request_of : List Text → Option Request
request_of words =
    request_without (fault_of lineup words) (request_in (subcommand_of lineup words))

-- the same of words in memory, by the text of each
abbrev pub request_said : {S : Type 0} → (S → List ℕ) → List S → Option Request
request_said text words = request_of (map text words)
