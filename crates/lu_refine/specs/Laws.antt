-- Laws of slices.
use Rattle.std.specs.Prelude.{◌≡◌, ℕ, ◌+◌, ◌≤◌}
use Rattle.lu_machine.specs.Starts.{AllEnd}
use Rattle.lu_refine.specs.declared.campaigns.Campaign.{Campaign}
use Rattle.lu_refine.specs.declared.campaigns.Campaign.TheVariants.{AllPass, First}
use Rattle.lu_refine.specs.ByThread.{Asked, IsFoundByThread, IsFoundInSlice, matrix_count}

-- what two answers say together: the first matrix that does not pass, or the sum
abbrev pub joined_answers : Campaign → Campaign → Campaign
joined_answers (First matrix r) later = First matrix r
joined_answers (AllPass count) (First matrix r) = First matrix r
joined_answers (AllPass count) (AllPass others) = AllPass (count + others)

-- Two slices that follow one another answer together what one slice does, and a slice of all
-- answers what the campaign does.
pub record SlicesJoin : Type 0 where
  pub join : (asked : Asked) (from middle to : ℕ) (earlier later : Campaign) →
      from ≤ middle → middle ≤ to
      → IsFoundInSlice asked from middle earlier → IsFoundInSlice asked middle to later
      → IsFoundInSlice asked from to (joined_answers earlier later)
  pub whole : (asked : Asked) (to : ℕ) (found : Campaign) →
      matrix_count asked ≤ to → IsFoundInSlice asked 0 to found → IsFoundByThread asked found

-- a slice has one answer, where the calls of the setup end
abbrev pub OneSliceAnswer : Type 0
OneSliceAnswer =
    (asked : Asked) (from to : ℕ) (found other : Campaign) →
    AllEnd asked.component asked.setup → IsFoundInSlice asked from to found
    → IsFoundInSlice asked from to other → found ≡ other
