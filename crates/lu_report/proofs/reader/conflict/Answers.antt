use Rattle.lu_report.proofs.Reading.{no_conflict, same_conflict}
use Rattle.lu_report.proofs.reader.conflict.Goals as goal

pub returns-in_default : goal.returns-in_default
returns-in_default c = no_conflict _ (rw c.in_default.is at c.exactly_three.ensures)

pub returns-in_default-number_within : goal.returns-in_default-number_within
returns-in_default-number_within c = λ f are.
    let p = same_conflict _ _ _ _ c.in-Some.ensures f are in
    let none = rw c.in_default-number_within.is at c.number_within.ensures in
    none p.1 p.4

pub returns-in_default-earlier_in : goal.returns-in_default-earlier_in
returns-in_default-earlier_in c = λ f are.
    let p = same_conflict _ _ _ _ c.in-Some.ensures f are in
    let none = rw c.in_default-earlier_in.is at c.earlier_in.ensures in
    none p.2 p.5

pub returns-in_default-2 : goal.returns-in_default-2
returns-in_default-2 c = λ f are.
    let p = same_conflict _ _ _ _ c.in-Some.ensures f are in
    let none = rw c.in_default-2.is at c.in_ok-schedule.ensures in
    none p.0 p.3
