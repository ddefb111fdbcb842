-- What campaigns answer in which each thread has candidates of its own, and slices of them.
use Rattle.std.specs.Prelude.{◌≡◌, ℕ, ◌-◌, ◌<◌, ◌≤◌, min, List}
use Rattle.lu_component.specs.Component.{Component}
use Rattle.lu_test.specs.declared.matrix.Call.{Call}
use Rattle.lu_test.specs.Matrix.{IsSetup, Matrix}
use Rattle.lu_machine.specs.Starts.{AllEnd}
use Rattle.lu_report.specs.Limits.{IsSerialBound, most_moves}
use Rattle.lu_report.specs.declared.report.Report.{Report}
use Rattle.lu_replay.specs.Reports.{IsReport}
use Rattle.lu_report.specs.Parts.{IsPass}
use Rattle.lu_refine.specs.declared.campaigns.Campaign.{Campaign}
use Rattle.lu_refine.specs.declared.campaigns.Campaign.TheVariants.{AllPass, First}
use Rattle.lu_refine.specs.declared.campaigns.CampaignFault.{CampaignFault}
use Rattle.lu_refine.specs.declared.campaigns.CampaignFault.TheVariants.{Candidates, Limit, Memory}
use Rattle.lu_refine.specs.Choices.{IsBefore, IsChoiceIn, choice_count, number_in}
use Rattle.lu_refine.specs.declared.roles.Roles.{Roles}
use Rattle.lu_refine.specs.Campaigns.{AreCallsOf}
use Rattle.lu_refine.specs.Roles.{AllCallsOf, AllHaveArguments, AreRoles, AreRowLimits, AreWithinLimits, bases, rows_matrix}

-- what a campaign by thread is asked for: a list of candidates for each thread
pub record Asked : Type 0 where
  pub component : Component
  pub setup : List Call
  pub candidates : List (List Call)
  pub calls : ℕ
  pub bound : ℕ
  pub serial : ℕ

abbrev pub asked_for : Component → List Call → List (List Call) → ℕ → ℕ → ℕ → Asked
asked_for c setup candidates calls bound serial = record {
  component = c;
  setup = setup;
  candidates = candidates;
  calls = calls;
  bound = bound;
  serial = serial;
}

abbrev pub asked_of : Roles → Asked
asked_of r = asked_for r.component.now r.setup.now r.candidates.now r.calls r.bound r.serial

-- The setup and the candidates are calls of the component, with at most 4 arguments each; each call
-- of the setup ends where they are made alone; and the bounds are in range.
pub record CanAsk (asked : Asked) : Type 0 where
  pub setup : IsSetup asked.setup
  pub setup_of : AreCallsOf asked.component asked.setup
  pub settles : AllEnd asked.component asked.setup
  pub of : AllCallsOf asked.component asked.candidates
  pub arguments : AllHaveArguments asked.candidates
  pub few_moves : asked.bound ≤ most_moves
  pub serial_bound : IsSerialBound asked.serial

-- how many candidates each position has
abbrev pub bases_of : Asked → List ℕ
bases_of asked = bases asked.calls asked.candidates

-- how many matrices there are
abbrev pub matrix_count : Asked → ℕ
matrix_count asked = choice_count (bases_of asked)

-- for each position the number of one of its thread's candidates
abbrev pub IsRoleChoice : Asked → List ℕ → Type 0
IsRoleChoice asked choice = IsChoiceIn (bases_of asked) choice

-- the number of a choice in lexicographic order, from 0, and of the matrix that it fills
abbrev pub choice_number : Asked → List ℕ → ℕ
choice_number asked choice = number_in (bases_of asked) choice

-- the matrix that a choice fills, with the setup
abbrev pub role_matrix : Asked → List ℕ → Matrix
role_matrix asked choice = rows_matrix asked.setup asked.calls asked.candidates choice

-- the matrix that the choice with this number fills
pub record IsMatrixAt (asked : Asked) (number : ℕ) (matrix : Matrix) : Type 0 where
  pub choice : List ℕ
  pub chosen : IsRoleChoice asked choice
  pub is_at : choice_number asked choice ≡ number
  pub fills : matrix ≡ role_matrix asked choice

-- r is the report of the matrix that the choice fills
abbrev pub IsRoleReport : Asked → List ℕ → Report → Type 0
IsRoleReport asked choice r =
    IsReport asked.component (role_matrix asked choice) asked.bound asked.serial r

-- the matrix that the choice fills passes
abbrev pub RolePasses : Asked → List ℕ → Type 0
RolePasses asked choice = (r : Report) × IsRoleReport asked choice r × IsPass r.finding

-- ---- what is found

-- a choice whose number is at least `from` and less than `to`
pub record IsWithinSlice (asked : Asked) (from to : ℕ) (choice : List ℕ) : Type 0 where
  pub chosen : IsRoleChoice asked choice
  pub least : from ≤ choice_number asked choice
  pub less : choice_number asked choice < to

-- Among these choices: the choice's matrix, with its report, which is no pass; the matrices of all
-- choices before it pass.
pub record IsFirstAmong (asked : Asked) (Among : List ℕ → Type 0) (matrix : Matrix) (r : Report)
    : Type 0 where
  pub choice : List ℕ
  pub among : Among choice
  pub is : matrix ≡ role_matrix asked choice
  pub report : IsRoleReport asked choice r
  pub no_pass : IsPass r.finding → ⊥
  pub before : (other : List ℕ) → Among other → IsBefore other choice → RolePasses asked other

-- the matrices of all these choices pass, and this is their number; or the first that does not
abbrev pub IsFoundAmong : Asked → (List ℕ → Type 0) → ℕ → Campaign → Type 0
IsFoundAmong asked Among count (AllPass found) =
    (found ≡ count) × ((choice : List ℕ) → Among choice → RolePasses asked choice)
IsFoundAmong asked Among count (First matrix r) = IsFirstAmong asked Among matrix r

-- of all matrices
abbrev pub IsFoundByThread : Asked → Campaign → Type 0
IsFoundByThread asked found = IsFoundAmong asked (IsRoleChoice asked) (matrix_count asked) found

-- of those from a number on, to the one before another number, or to the end
abbrev pub IsFoundInSlice : Asked → ℕ → ℕ → Campaign → Type 0
IsFoundInSlice asked from to found =
    IsFoundAmong asked (IsWithinSlice asked from to) (min to (matrix_count asked) - from) found

-- ---- answers

-- the limits hold, and this is found
abbrev pub IsThreadsAnswer : Asked → Campaign → Type 0
IsThreadsAnswer asked found =
    AreWithinLimits asked.calls asked.candidates × IsFoundByThread asked found

abbrev pub IsSliceAnswer : Asked → ℕ → ℕ → Campaign → Type 0
IsSliceAnswer asked from to found =
    AreWithinLimits asked.calls asked.candidates × IsFoundInSlice asked from to found

-- the candidates are not those of 1 to 8 threads; else the calls are not within their limits; or
-- memory was refused
abbrev pub IsRolesFault : List (List Call) → ℕ → CampaignFault → Type 0
IsRolesFault candidates calls Candidates = AreRoles candidates → ⊥
IsRolesFault candidates calls Limit = AreRoles candidates × (AreRowLimits calls candidates → ⊥)
IsRolesFault candidates calls Memory = Unit {0}
