-- What is put in between tags needs no escape, or has one.
use Rattle.std.specs.Prelude.{ℕ, ◌==◌, ◌||◌, not, Bool, List, Option, IsTrue}
use Rattle.std.specs.List.{list_all}
use Rattle.lu_component.specs.Component.{IsComponent}
use Rattle.lu_test.specs.declared.schedule.Move.{Move}
use Rattle.lu_machine.specs.declared.event.Event.{Event}
use Rattle.lu_machine.specs.declared.event.Status.{Status}
use Rattle.lu_machine.specs.States.{State}
use Rattle.lu_explain.specs.Explanations.{Explanation}
use Rattle.lu_replay.specs.Text.{replay_text}
use Rattle.lu_trace.specs.declared.wording.Wording.{Wording}
use Rattle.lu_trace.specs.declared.wording.Wording.TheVariants.{Component}
use Rattle.lu_picture.specs.declared.mark.End.{End}
use Rattle.lu_picture.specs.Reasons.{why_words}
use Rattle.lu_picture.specs.Shown.{escaped}
use Rattle.lu_picture.specs.Shapes.{call_words, heading, step_words, wait_words}

-- none of `<`, `>`, `&`, `'` and `"`
abbrev pub is_plain : ℕ → Bool
is_plain b = not (b == 60 || (b == 62 || (b == 38 || (b == 39 || b == 34))))

abbrev pub IsPlain : List ℕ → Type 0
IsPlain words = IsTrue (list_all is_plain words)

-- All words of the state s that a picture has are plain; so are those of its steps where they are
-- the component's.
pub record SaysPlain (s : State) : Type 0 where
  pub heading : (n : ℕ) (status : Status) → IsPlain (heading s.component n status)
  pub replay : (history : List Event) (status : Status) → IsPlain (replay_text history status)
  pub calls : (t k : ℕ) → IsPlain (call_words s.component s.matrix t k)
  pub steps : (m : Move) → IsPlain (step_words Component s m)
  pub waits : (how : Wording) (t : ℕ) → IsPlain (wait_words how s t)
  pub why : (why : Option Explanation) (t k : ℕ) (end : Option End)
      → IsPlain (why_words s.component s.matrix why t k end)

-- names are made of letters, digits and `_`, and all else is made of keywords and numbers
abbrev pub NoEscape : Type 0
NoEscape = (s : State) → IsComponent s.component → SaysPlain s

-- neither `<` nor `>`, which begin and end tags
abbrev pub is_text : ℕ → Bool
is_text b = not (b == 60 || b == 62)

-- escaped words are text alone
abbrev pub EscapedIsText : Type 0
EscapedIsText = (words : List ℕ) → IsTrue (list_all is_text (escaped words))
