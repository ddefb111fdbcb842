-- Lines of messages, one after the other.
use Rattle.std.proofs.Common.{ℕ, List, [], ◌∷◌, ◌++◌, refl, sym}
use Rattle.std.proofs.lemmas.List.{append-nil, append_assoc}
use Rattle.lu_source_lint.specs.declared.message.SourceMessage.{SourceMessage}
use Rattle.lu_cli.specs.Lint.{AddsMessage, AddsMessages, TellsEach, message_line}

-- one line more
says_more : (messages : List SourceMessage) (m : SourceMessage) (text words : List ℕ) → TellsEach messages text → TellsEach (messages ++ m ∷ []) (text ++ message_line m words)
says_more [] m text words is = (words, [], refl, rw is (sym (append-nil (message_line m words))))
says_more (first ∷ messages) m text words (w, rest, is, e) =
    (w, rest ++ message_line m words, says_more messages m rest words is, rw e (append_assoc (message_line first w) rest (message_line m words)))

pub adds_more : (messages : List SourceMessage) (m : SourceMessage) (old between new : List ℕ) → AddsMessages messages old between → AddsMessage m between new → AddsMessages (messages ++ m ∷ []) old new
adds_more messages m old between new (said, tells, e) (words, more) =
    (said ++ message_line m words, says_more messages m said words tells, rw (more, e) (append_assoc old said (message_line m words)))
