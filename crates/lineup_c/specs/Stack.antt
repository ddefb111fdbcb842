-- How much stack a command takes.
use Rattle.std.specs.Prelude.{ℕ, ◌+◌, ◌*◌, max}
use Rattle.lu_cli.specs.declared.request.BundleCommand.{BundleCommand}
use Rattle.lu_cli.specs.declared.request.BundleCommand.TheVariants.{Replay, Trace, Draw, DrawExplained, Explain, ExplainAgainst, Serial, Witness, WitnessAgainst, Conform, Spec, Check, CheckAgainst, Certify, CertifyUnrolled, Refute, Shrink, Campaign, CampaignAgainst, Compile}
use Rattle.lu_cli.specs.declared.request.Request.{Request}
use Rattle.lu_cli.specs.declared.request.Request.TheVariants.{Commands, Lint, Bundle, BundleWithSource}
use Rattle.lu_report.specs.Limits.{most_moves}

-- how many bytes of stack a search takes at most: 128 KiB, and 2 KiB for each move of a schedule up
-- to the bound, or half a KiB for each move of 16 operations that run alone, each with its call and
-- as many moves as the serial bound
abbrev pub stack_within : ℕ → ℕ → ℕ
stack_within bound serial = 131072 + max (2048 * bound) (8192 * (serial + 1))

-- the same of a command: by the bounds that it is given, or by the greatest
abbrev pub stack_of_command : BundleCommand → ℕ
stack_of_command Replay = stack_within 0 0
stack_of_command (Trace start) = stack_within most_moves most_moves
stack_of_command Draw = stack_within most_moves most_moves
stack_of_command (DrawExplained limits) = stack_within most_moves most_moves
stack_of_command (Explain limits) = stack_within most_moves most_moves
stack_of_command (ExplainAgainst marks) = stack_within 0 0
stack_of_command (Serial limits) = stack_within 0 limits.serial
stack_of_command (Witness limits) = stack_within 0 limits.serial
stack_of_command (WitnessAgainst marks) = stack_within 0 0
stack_of_command (Conform showing) = stack_within 0 0
stack_of_command Spec = stack_within 0 0
stack_of_command (Check choice) = stack_within choice.bound choice.serial
stack_of_command (CheckAgainst choice marks) = stack_within choice.bound 0
stack_of_command (Certify asked) = stack_within most_moves asked.options.serial
stack_of_command (CertifyUnrolled asked repetition) = stack_within most_moves asked.options.serial
stack_of_command Refute = stack_within most_moves most_moves
stack_of_command (Shrink limits) = stack_within limits.bound limits.serial
stack_of_command (Campaign options) = stack_within most_moves options.bounds.serial
stack_of_command (CampaignAgainst options) = stack_within options.bounds.bound options.bounds.serial
stack_of_command Compile = stack_within most_moves 0

abbrev pub stack_for : Request → ℕ
stack_for Commands = stack_within 0 0
stack_for (Lint asked) = stack_within 0 asked.bounds.serial
stack_for (Bundle command) = stack_of_command command
stack_for (BundleWithSource command) = max (stack_of_command Compile) (stack_of_command command)
