-- Stages as they are stored.
use Rattle.std.specs.Prelude.{◌≡◌, ◌⊎◌, ℕ, ◌+◌, ◌%◌, ◌<◌, List, [], ◌∷◌, ◌++◌, length, map, Some, slice_get, slice_index, slice_set}
use Rattle.lu_component.specs.Component.{Component}
use Rattle.lu_test.specs.Matrix.{Matrix, calls_of, thread_count}
use Rattle.lu_machine.specs.declared.position.Position.{Position}
use Rattle.lu_machine.specs.declared.thread.Thread.{Thread}
use Rattle.lu_machine.specs.Changes.{idle}
use Rattle.lu_machine.specs.States.{State}
use Rattle.lu_client.specs.Alone.{Rest, rest_of}
use Rattle.lu_client.specs.Stages.{IsIn, Stage, first_stage}
use Rattle.lu_serial_graph.specs.Playing.{IsAmong}
use Rattle.lu_serial_graph.specs.Answers.{RestsStand}
use Rattle.lu_answers.specs.declared.rounds.Rounds.{Rounds}
use Rattle.lu_answers.specs.declared.rounds.Rounds.TheVariants.{Any, One}
use Rattle.lu_answers.specs.declared.stage.StoredStage.{StoredStage}

-- the cells and locks of the position
abbrev pub rest_at : Position → Rest
rest_at p = record { cells = p.cells.items; locks = p.locks.items }

-- the stage that is stored
abbrev pub stage_of : StoredStage → Stage
stage_of stored = record { places = stored.places.items; rests = map rest_at stored.rests.items }

-- each of these
abbrev pub stages_of : List StoredStage → List Stage
stages_of all = map stage_of all

-- at each of the positions the threads stand so
abbrev pub AllStandSo : List Thread → List Position → Type 0
AllStandSo threads positions =
    (p : Position) → IsAmong p positions → p.threads.items ≡ threads

-- There is a rest, and a machine of the component and the matrix can stand at each. All threads are
-- idle there, at the stage's places.
pub record IsStored (c : Component) (matrix : Matrix) (stored : StoredStage) : Type 0 where
  pub seats : length stored.places.items ≡ thread_count matrix
  pub some : 0 < length stored.rests.items
  pub threads : AllStandSo (map idle stored.places.items) stored.rests.items
  pub stand : RestsStand c matrix stored.rests.items

-- the stage before any call, where s is the start
abbrev pub IsFirstFor : State → StoredStage → Type 0
IsFirstFor s stored = stage_of stored ≡ first_stage s.matrix (rest_of s)

-- each of them is stored
abbrev pub AllStored : Component → Matrix → List StoredStage → Type 0
AllStored c matrix all = (stored : StoredStage) → IsIn all stored → IsStored c matrix stored

-- the same for the component and the matrix of s
abbrev pub AllStoredFor : State → List StoredStage → Type 0
AllStoredFor s all = AllStored s.component s.matrix all

abbrev pub RestsStandFor : State → List Position → Type 0
RestsStandFor s rests = RestsStand s.component s.matrix rests

-- the stages stay, unless this one comes after them
abbrev pub Keeps : List StoredStage → StoredStage → List StoredStage → Type 0
Keeps old stored new = (new ≡ old) ⊎ (new ≡ old ++ stored ∷ [])

-- this is the stage of this number
abbrev pub IsNumbered : List StoredStage → StoredStage → ℕ → Type 0
IsNumbered all stored n = slice_get (stages_of all) n ≡ Some (stage_of stored)

-- it is one of them
abbrev pub HasStage : List StoredStage → StoredStage → Type 0
HasStage all stored = (n : ℕ) × IsNumbered all stored n

-- the stages stay, and others may come after them
abbrev pub Grows : List StoredStage → List StoredStage → Type 0
Grows old new = (more : List StoredStage) × (new ≡ old ++ more)

-- ---- places

-- thread t has a call at its place
abbrev pub HasNextCall : Matrix → List ℕ → ℕ → Type 0
HasNextCall matrix places t = slice_index places t < length (calls_of matrix t)

-- the place after this one in a line of so many calls: where lines are made over and over, the first
-- one follows the last
abbrev pub next_place : Rounds → ℕ → ℕ → ℕ
next_place One many place = place + 1
next_place Any many place = (place + 1) % many

-- the places after it
abbrev pub places_after : Rounds → Matrix → List ℕ → ℕ → List ℕ
places_after rounds matrix places t =
    slice_set places t (next_place rounds (length (calls_of matrix t)) (slice_index places t))

-- the stage has these places
abbrev pub HasPlacesAfter : Rounds → Matrix → List ℕ → ℕ → StoredStage → Type 0
HasPlacesAfter rounds matrix places t next =
    next.places.items ≡ places_after rounds matrix places t

-- the threads are idle, as many as the matrix has
abbrev pub AreIdle : Matrix → List Thread → Type 0
AreIdle matrix threads =
    (places : List ℕ) × (threads ≡ map idle places) × (length places ≡ thread_count matrix)
