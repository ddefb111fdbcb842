-- What is answered to each command.
use Rattle.std.specs.Prelude.{ℕ, List}
use Rattle.lu_cli.specs.Explain.{IsAnswerToExplain, IsAnswerToExplainAgainst}
use Rattle.lu_cli.specs.declared.failing.RunView.TheVariants as run
use Rattle.lu_cli.specs.Witness.{IsAnswerToWitness, IsAnswerToWitnessAgainst}
use Rattle.lu_cli.specs.Compile.{IsAnswerToCompile}
use Rattle.lu_cli.specs.Conform.{IsAnswerToConform}
use Rattle.lu_cli.specs.Outcomes.{Answer}
use Rattle.lu_cli.specs.Campaign.{IsAnswerToCampaign}
use Rattle.lu_cli.specs.Certify.{IsAnswerToCertify}
use Rattle.lu_cli.specs.Unrolled.{IsAnswerToCertifyUnrolled}
use Rattle.lu_cli.specs.Check.{IsAnswerToCheck, IsAnswerToCheckAgainst}
use Rattle.lu_cli.specs.CampaignAgainst.{IsAnswerToCampaignAgainst}
use Rattle.lu_cli.specs.Refute.{IsAnswerToRefute}
use Rattle.lu_cli.specs.Replay.{IsAnswerToReplay}
use Rattle.lu_cli.specs.Serial.{IsAnswerToSerial}
use Rattle.lu_cli.specs.Shown.{IsAnswerToTraceOrDraw}
use Rattle.lu_cli.specs.Shrink.{IsAnswerToShrink}
use Rattle.lu_cli.specs.Spec.{IsAnswerToSpec}
use Rattle.lu_cli.specs.declared.explanation.Presentation.TheVariants.{Words, Picture}
use Rattle.lu_cli.specs.declared.request.BundleCommand.{BundleCommand}
use Rattle.lu_cli.specs.declared.request.BundleCommand.TheVariants.{Replay, Trace, Draw, DrawExplained, Explain, ExplainAgainst, Serial, Witness, WitnessAgainst, Conform, Spec, Check, CheckAgainst, Certify, CertifyUnrolled, Refute, Shrink, Campaign as Campaigning, CampaignAgainst, Compile}

-- the answer to a command and the parts of the bundle
abbrev pub IsAnswerToCommand : BundleCommand → List (List ℕ) → Answer → Type 0
IsAnswerToCommand Replay parts = IsAnswerToReplay parts
IsAnswerToCommand (Trace tracing) parts = IsAnswerToTraceOrDraw (run.Trace tracing) parts
IsAnswerToCommand Draw parts = IsAnswerToTraceOrDraw run.Picture parts
IsAnswerToCommand (DrawExplained limits) parts = IsAnswerToExplain Picture limits parts
IsAnswerToCommand (Explain limits) parts = IsAnswerToExplain Words limits parts
IsAnswerToCommand (ExplainAgainst marks) parts = IsAnswerToExplainAgainst marks parts
IsAnswerToCommand (Serial limits) parts = IsAnswerToSerial limits parts
IsAnswerToCommand (Witness limits) parts = IsAnswerToWitness limits parts
IsAnswerToCommand (WitnessAgainst marks) parts = IsAnswerToWitnessAgainst marks parts
IsAnswerToCommand (Conform showing) parts = IsAnswerToConform showing parts
IsAnswerToCommand Spec parts = IsAnswerToSpec parts
IsAnswerToCommand (Check choice) parts = IsAnswerToCheck choice parts
IsAnswerToCommand (CheckAgainst choice marks) parts =
    IsAnswerToCheckAgainst choice marks parts
IsAnswerToCommand (Certify asked) parts = IsAnswerToCertify asked parts
IsAnswerToCommand (CertifyUnrolled asked repetition) parts =
    IsAnswerToCertifyUnrolled asked repetition parts
IsAnswerToCommand Refute parts = IsAnswerToRefute parts
IsAnswerToCommand (Shrink limits) parts = IsAnswerToShrink limits parts
IsAnswerToCommand (Campaigning options) parts = IsAnswerToCampaign options parts
IsAnswerToCommand (CampaignAgainst options) parts = IsAnswerToCampaignAgainst options parts
IsAnswerToCommand Compile parts = IsAnswerToCompile parts
