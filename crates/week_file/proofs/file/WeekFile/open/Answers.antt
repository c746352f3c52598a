use Rattle.week_file.specs.Accepting.{accepts_exactly}
use Rattle.week_file.proofs.ReadBack.{writes_read_back, one_reads_back}
use Rattle.week_file.proofs.Settling.{meaning_settles_bytes}
use Rattle.week_file.proofs.file.WeekFile.open.Goals as goal

pub returns-clause-accepts : goal.returns-clause-accepts
returns-clause-accepts c = accepts_exactly

pub returns-clause-reads_back : goal.returns-clause-reads_back
returns-clause-reads_back c = writes_read_back

pub returns-clause-one : goal.returns-clause-one
returns-clause-one c = one_reads_back

pub returns-clause-settles : goal.returns-clause-settles
returns-clause-settles c = meaning_settles_bytes
