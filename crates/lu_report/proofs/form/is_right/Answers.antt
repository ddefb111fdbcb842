use Rattle.lu_report.proofs.form.is_right.Goals as goal

pub returns-in-Schedule : goal.returns-in-Schedule
returns-in-Schedule c = rw c.in-Schedule.is c.is_schedule.ensures

pub returns-in-ConflictSchedule : goal.returns-in-ConflictSchedule
returns-in-ConflictSchedule c = rw c.in-ConflictSchedule.is c.is_schedule-in-ConflictSchedule.ensures
